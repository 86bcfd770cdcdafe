-- Where the definitions of a set stand: each in a document that was read, and so in one of the version's documents (`definitions_stand`).
use Rattle.std.proofs.Common.{◌≡◌, ℕ, suc, ◌+◌, List, [], ◌∷◌, Option, Some, None, map, refl, sym, ap, ◌∙◌, arith}
use Rattle.std.specs.Prelude.{slice_get}
use Rattle.std.specs.List.{AllByRecursion}
use Rattle.grammar_tree.specs.declared.doc_set.DocText.{DocText}
use Rattle.grammar_tree.specs.declared.document.Doc.{Doc}
use Rattle.grammar_tree.specs.declared.document.Rule.{Rule}
use Rattle.grammar_tree.specs.declared.document.ReadDoc.{ReadDoc}
use Rattle.grammar_tree.specs.declared.document.ReadDoc.TheVariants as read
use Rattle.linker.specs.declared.version.VersionDoc.{VersionDoc}
use Rattle.linker.specs.Readings.{Readings}
use Rattle.linker.specs.Targets.{root_of}
use Rattle.linker.specs.Numbers.{Definition, definitions_from, definitions}
use Rattle.linker.specs.Versions.{version_docs}
use Rattle.linker.proofs.LinkedEach.{each_append, each_placed, each_weaker, each_map}

-- the document of the version in which the definition stands
abbrev pub doc_of : Readings → Definition → VersionDoc
doc_of all d = record { key = d.key; mode = d.own.mode; format = d.own.format; root = root_of all d.x d.own }

-- it stands in one of these documents, the first of which is document x, and the first that was read has this number
pub record StandsAt (all : Readings) (x number : ℕ) (set : List DocText) (docs : Readings) (d : Definition) : Type 0 where
  pub place : ℕ
  pub is_place : d.x ≡ x + place
  pub staged : DocText
  pub is_staged : slice_get set place ≡ Some staged
  pub has_key : staged.key ≡ d.key
  pub is_read : slice_get docs place ≡ Some (Some (read.Good d.own))
  pub at : ℕ
  pub is_number : d.doc.0 ≡ number + at
  pub is_doc : slice_get (version_docs all x set docs) at ≡ Some (doc_of all d)
  pub rule : ℕ
  pub is_rule : slice_get d.own.rules rule ≡ Some d.rule

-- the definition of a rule in document x, the document that was read with this number
abbrev pub defined : ℕ → ℕ → DocText → Doc → Rule → Definition
defined x number staged own rule = record { x = x; key = staged.key; own = own; doc = record { 0 = number }; rule = rule }

module _ (all : Readings) (x number : ℕ) (staged : DocText) (set : List DocText) (docs : Readings) where
  -- behind a document that has no rules
  behind : (reading : Option ReadDoc) →
      version_docs all x (staged ∷ set) (reading ∷ docs) ≡ version_docs all (x + 1) set docs → (d : Definition) →
      StandsAt all (x + 1) number set docs d → StandsAt all x number (staged ∷ set) (reading ∷ docs) d
  behind reading same d s = record {
    place = suc s.place;
    is_place = omega (arith, s.is_place);
    staged = s.staged;
    is_staged = s.is_staged;
    has_key = s.has_key;
    is_read = s.is_read;
    at = s.at;
    is_number = s.is_number;
    is_doc = ap (λ (docs : List VersionDoc). slice_get docs s.at) same ∙ s.is_doc;
    rule = s.rule;
    is_rule = s.is_rule;
  }

  -- behind a document that was read
  behind_good : (own : Doc) (d : Definition) →
      StandsAt all (x + 1) (number + 1) set docs d → StandsAt all x number (staged ∷ set) (Some (read.Good own) ∷ docs) d
  behind_good own d s = record {
    place = suc s.place;
    is_place = omega (arith, s.is_place);
    staged = s.staged;
    is_staged = s.is_staged;
    has_key = s.has_key;
    is_read = s.is_read;
    at = suc s.at;
    is_number = omega (arith, s.is_number);
    is_doc = s.is_doc;
    rule = s.rule;
    is_rule = s.is_rule;
  }

  -- in the first document
  first_good : (own : Doc) (k : ℕ) (rule : Rule) →
      slice_get own.rules k ≡ Some rule → StandsAt all x number (staged ∷ set) (Some (read.Good own) ∷ docs) (defined x number staged own rule)
  first_good own k rule is = record {
    place = 0;
    is_place = omega arith;
    staged = staged;
    is_staged = refl;
    has_key = refl;
    is_read = refl;
    at = 0;
    is_number = omega arith;
    is_doc = refl;
    rule = k;
    is_rule = is;
  }

module _ (all : Readings) where
  pub definitions_stand_from : (x number : ℕ) (set : List DocText) (docs : Readings) → AllByRecursion (StandsAt all x number set docs) (definitions_from x number set docs)
  definitions_stand_from x number [] docs = tt
  definitions_stand_from x number (staged ∷ set) [] = tt
  definitions_stand_from x number (staged ∷ set) (Some (read.Good own) ∷ docs) =
      each_append (StandsAt all x number (staged ∷ set) (Some (read.Good own) ∷ docs)) (map (defined x number staged own) own.rules) (definitions_from (x + 1) (number + 1) set docs)
      (each_map (StandsAt all x number (staged ∷ set) (Some (read.Good own) ∷ docs)) (defined x number staged own) own.rules
      (each_placed (λ rule. StandsAt all x number (staged ∷ set) (Some (read.Good own) ∷ docs) (defined x number staged own rule)) own.rules
      (first_good all x number staged set docs own)))
      (each_weaker (StandsAt all (x + 1) (number + 1) set docs) (StandsAt all x number (staged ∷ set) (Some (read.Good own) ∷ docs))
      (behind_good all x number staged set docs own) (definitions_from (x + 1) (number + 1) set docs) (definitions_stand_from (x + 1) (number + 1) set docs))
  definitions_stand_from x number (staged ∷ set) (Some (read.Bad fault) ∷ docs) =
      each_weaker (StandsAt all (x + 1) number set docs) (StandsAt all x number (staged ∷ set) (Some (read.Bad fault) ∷ docs))
      (behind all x number staged set docs (Some (read.Bad fault)) refl) (definitions_from (x + 1) number set docs) (definitions_stand_from (x + 1) number set docs)
  definitions_stand_from x number (staged ∷ set) (None ∷ docs) =
      each_weaker (StandsAt all (x + 1) number set docs) (StandsAt all x number (staged ∷ set) (None ∷ docs))
      (behind all x number staged set docs None refl) (definitions_from (x + 1) number set docs) (definitions_stand_from (x + 1) number set docs)

-- ---- of the whole set

-- the definition stands in the set, in one of its documents that was read
pub record IsDefined (set : List DocText) (docs : Readings) (d : Definition) : Type 0 where
  pub staged : DocText
  pub is_staged : slice_get set d.x ≡ Some staged
  pub has_key : staged.key ≡ d.key
  pub is_read : slice_get docs d.x ≡ Some (Some (read.Good d.own))
  pub is_doc : slice_get (version_docs docs 0 set docs) d.doc.0 ≡ Some (doc_of docs d)
  pub rule : ℕ
  pub is_rule : slice_get d.own.rules rule ≡ Some d.rule

is_defined : (set : List DocText) (docs : Readings) (d : Definition) → StandsAt docs 0 0 set docs d → IsDefined set docs d
is_defined set docs d s =
    let place : s.place ≡ d.x = omega (arith, s.is_place) in
    let at : s.at ≡ d.doc.0 = omega (arith, s.is_number) in
    record {
      staged = s.staged;
      is_staged = ap (slice_get set) (sym place) ∙ s.is_staged;
      has_key = s.has_key;
      is_read = ap (slice_get docs) (sym place) ∙ s.is_read;
      is_doc = ap (slice_get (version_docs docs 0 set docs)) (sym at) ∙ s.is_doc;
      rule = s.rule;
      is_rule = s.is_rule;
    }

pub definitions_stand : (set : List DocText) (docs : Readings) → AllByRecursion (IsDefined set docs) (definitions set docs)
definitions_stand set docs = each_weaker (StandsAt docs 0 0 set docs) (IsDefined set docs) (is_defined set docs) (definitions set docs) (definitions_stand_from docs 0 0 set docs)
