-- The kinds of faults of a publish, with the printed name of each. No name is both a document's and a set's.
use Rattle.std.specs.Prelude.{ℕ, List}
use Rattle.vg_base.specs.Faults.{doc_kind_name, link_kind_name}
use Rattle.linker.specs.declared.set_fault.FaultKind.{FaultKind}
use Rattle.linker.specs.declared.set_fault.FaultKind.TheVariants.{Doc, Link}

abbrev pub fault_kind_name : FaultKind → List ℕ
fault_kind_name (Doc kind) = doc_kind_name kind
fault_kind_name (Link kind) = link_kind_name kind
