-- Versions: what is linked, as plain data, what their type keeps, and what is found in them.
use Rattle.std.specs.Prelude.{◌≡◌, ◌<◌, ◌+◌, ◌==◌, ◌&&◌, ℕ, Bool, false, List, [], ◌∷◌, Option, Some, None, IsSome, if◌then◌else◌, length, nat_eq, slice_get, Contains}
use Rattle.std.specs.List.{All, position}
use Rattle.std.specs.Option.{option_map_or}
use Rattle.std.specs.Cmp.Lexicographic.{pointwise}
use Rattle.vg_base.specs.declared.format.Format.TheVariants as format
use Rattle.vg_base.specs.declared.numbers.NodeIx.{NodeIx}
use Rattle.vg_base.specs.declared.numbers.RuleIx.{RuleIx}
use Rattle.vg_base.specs.declared.numbers.VersionNo.{VersionNo}
use Rattle.grammar_tree.specs.declared.doc_set.DocText.{DocText}
use Rattle.grammar_tree.specs.declared.document.Doc.{Doc}
use Rattle.grammar_tree.specs.declared.document.ReadDoc.TheVariants as read
use Rattle.grammar_tree.specs.declared.expansion.TagNode.{TagNode}
use Rattle.grammar_tree.specs.declared.linked.Node.{Node}
use Rattle.grammar_tree.specs.declared.linked.Node.TheVariants as node
use Rattle.grammar_tree.specs.declared.linked.LinkedRule.{LinkedRule}
use Rattle.grammar_tree.specs.Links.{Rules, node_at, parts}
use Rattle.grammar_tree.specs.Alone.{NoSelfDerivation}
use Rattle.linker.specs.declared.version.VersionDoc.{VersionDoc}
use Rattle.linker.specs.declared.found.Found.{Found}
use Rattle.linker.specs.declared.found.Found.TheVariants as found
use Rattle.linker.specs.Readings.{Readings}
use Rattle.linker.specs.Targets.{root_of}
use Rattle.linker.specs.Numbers.{numbers}

pub record Linkage : Type 0 where
  pub number : VersionNo
  pub docs : List VersionDoc
  pub linked : Rules

-- ---- the version of a set

-- the documents that were read, the first of these being document x
abbrev pub version_docs : Readings → ℕ → List DocText → Readings → List VersionDoc
version_docs all x (staged ∷ set) (Some (read.Good doc) ∷ docs) =
    record { key = staged.key; mode = doc.mode; format = doc.format; root = root_of all x doc } ∷ version_docs all (x + 1) set docs
version_docs all x (staged ∷ set) (reading ∷ docs) = version_docs all (x + 1) set docs
version_docs all x _ _ = []

-- the documents in the order of the set, and their linked rules
abbrev pub built : List DocText → Readings → VersionNo → Linkage
built set docs v = record { number = v; docs = version_docs docs 0 set docs; linked = numbers set docs }

-- ---- what the type keeps

-- the node is this one, or below it
pub data IsBelow (L : Rules) : NodeIx → NodeIx → Type 0 where
  itself : {n : NodeIx} → IsBelow L n n
  below_part : {above n : NodeIx} (x : Node) (p : NodeIx) → node_at L above ≡ Some x → Contains (parts x) p → IsBelow L p n → IsBelow L above n

-- a tag that stands in a rule of a script document has its script
abbrev pub HaveScripts : Linkage → Type 0
HaveScripts v =
    (r : ℕ) (rule : LinkedRule) (doc : VersionDoc) (n : NodeIx) (tag : TagNode) → slice_get v.linked.rules r ≡ Some rule →
    slice_get v.docs rule.doc.0 ≡ Some doc → doc.format ≡ Some format.Script → IsBelow v.linked rule.body n →
    node_at v.linked n ≡ Some (node.Tag tag) → IsSome tag.script

abbrev pub IsRootBelow : ℕ → Option RuleIx → Type 0
IsRootBelow count None = Unit {0}
IsRootBelow count (Some r) = r.0 < count

pub record IsVersion (v : Linkage) : Type 0 where
  pub alone : NoSelfDerivation v.linked
  -- each rule is of one of the documents, and each root is one of the rules
  pub docs : All (λ rule. rule.doc.0 < length v.docs) v.linked.rules
  pub roots : All (λ doc. IsRootBelow (length v.linked.rules) doc.root) v.docs
  pub scripts : HaveScripts v

-- ---- what is found

-- the place of the document under this key
abbrev pub doc_under : List ℕ → List VersionDoc → Option ℕ
doc_under key = position (λ doc. pointwise nat_eq doc.key key)

-- the number of the rule of this name in the document with this number
abbrev pub rule_named : ℕ → List ℕ → List LinkedRule → Option ℕ
rule_named d name = position (λ rule. (rule.doc.0 == d) && pointwise nat_eq rule.name name)

-- a root is found whatever its scope
abbrev pub find_root : Option VersionDoc → Found
find_root doc = option_map_or found.Rule (option_map_or (λ doc. doc.root) doc None) found.NoRoot

abbrev pub find_public : List LinkedRule → ℕ → Found
find_public rules r = if option_map_or (λ rule. rule.public) (slice_get rules r) false then found.Rule (record { 0 = r }) else found.NotPublic

-- the rule of this name, or without a name the root, of the document with this number
abbrev pub find_in : Linkage → Option (List ℕ) → ℕ → Found
find_in v None d = find_root (slice_get v.docs d)
find_in v (Some name) d = option_map_or (find_public v.linked.rules) (rule_named d name v.linked.rules) found.NoRule

-- the rule that a key and a name, or a key alone, stand for at a version
abbrev pub find : Linkage → List ℕ → Option (List ℕ) → Found
find v key name = option_map_or (find_in v name) (doc_under key v.docs) found.NoDocument
