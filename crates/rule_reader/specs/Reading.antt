-- What a text reads as: one document, or one first fault.
use Rattle.std.specs.Prelude.{◌≡◌, ◌⊎◌, ℕ, List, [], Some, Result, Ok, Err}
use Rattle.vg_base.specs.declared.doc_fault.DocFault.{DocFault}
use Rattle.vg_base.specs.Faults.{doc_fault_order}
use Rattle.vg_base.specs.First.{IsFirst}
use Rattle.grammar_tree.specs.declared.document.Doc.{Doc}
use Rattle.abnf_parser.specs.declared.written.WrittenDocument.{WrittenDocument}
use Rattle.abnf_parser.specs.Texts.{IsWritten, IsSyntax}
use Rattle.rule_reader.specs.DocumentFaults.{AreFaults}
use Rattle.rule_reader.specs.Meaning.{DocumentMeans}

-- the text is written as a document that has no fault, and means this
pub record Reads (text : List ℕ) (doc : Doc) : Type 0 where
  pub document : WrittenDocument
  pub is_written : IsWritten text document
  pub faultless : AreFaults text document []
  pub means : DocumentMeans text document doc

-- the text is written as a document, and this is the first of its faults
pub record IsValueFault (text : List ℕ) (fault : DocFault) : Type 0 where
  pub document : WrittenDocument
  pub is_written : IsWritten text document
  pub faults : List DocFault
  pub are_faults : AreFaults text document faults
  pub first : IsFirst doc_fault_order faults (Some fault)

-- the first fault: of the header, else of the cutting, else of what the lexemes spell, else of what they mean
abbrev pub IsFirstFault : List ℕ → DocFault → Type 0
IsFirstFault text fault = IsSyntax text (Err fault) ⊎ IsValueFault text fault

abbrev pub IsReading : List ℕ → Result Doc DocFault → Type 0
IsReading text (Ok doc) = Reads text doc
IsReading text (Err fault) = IsFirstFault text fault
