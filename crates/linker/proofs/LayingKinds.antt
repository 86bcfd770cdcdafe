-- What expansions are by kind: their nodes, their references and their URIs, and how many nodes they have.
use Rattle.std.proofs.Common.{ℕ, ◌+◌, ◌<◌, ◌≡◌, Option, List, [], ◌∷◌, ◌++◌, map, sum, reverse, refl, sym, ap, subst, ◌∙◌, arith}
use Rattle.std.specs.List.{flat_map, AllByRecursion}
use Rattle.std.proofs.lemmas.List.{append-nil, reverse-append}
use Rattle.std.proofs.lemmas.List.Folds.{flat_map-map}
use Rattle.std.proofs.lemmas.List.Sums.{sum_by-append}
use Rattle.vg_base.specs.declared.numbers.NodeIx.{NodeIx}
use Rattle.vg_base.specs.declared.numbers.RuleIx.{RuleIx}
use Rattle.grammar_tree.specs.declared.expansion.Goal.{Goal}
use Rattle.grammar_tree.specs.declared.expansion.Goal.TheVariants as g
use Rattle.grammar_tree.specs.declared.expansion.Reference.{Reference}
use Rattle.grammar_tree.specs.declared.expansion.TagNode.{TagNode}
use Rattle.grammar_tree.specs.declared.expansion.Expansion as tree
use Rattle.grammar_tree.specs.declared.expansion.Expansion.{Expansion}
use Rattle.grammar_tree.specs.declared.expansion.Expansion.TheVariants as e
use Rattle.grammar_tree.specs.declared.expansion.Expansion.TheOpen.{Expansion-F}
use Rattle.grammar_tree.specs.declared.expansion.Expansion.TheFolds.{fold-roll-Expansion}
use Rattle.grammar_tree.specs.declared.linked.Node.{Node}
use Rattle.grammar_tree.specs.declared.linked.Node.TheVariants as node
use Rattle.grammar_tree.specs.Size.{node_count, node_count_of_level}
use Rattle.rule_reader.specs.Imports.{IsReadable, uris_in, uris_of_level, uri_of}
use Rattle.linker.specs.Numbers.{Laid, laid, laid_of_level, one_by_one, starts}
use Rattle.linker.specs.SetFaults.{references_in, references_of_level}
use Rattle.linker.specs.code.Scopes.{IsReadableGoal}

-- ---- what is written, by kind

-- an expansion whose nodes are one node and those of its parts
pub record HasParts (x : Expansion) (parts : List Expansion) : Type 0 where
  pub references : references_in x ≡ flat_map references_in parts
  pub uris : uris_in x ≡ flat_map uris_in parts
  pub count : node_count x ≡ 1 + sum (map node_count parts)

parts_of_sequence : (parts : List Expansion) → HasParts (e.Seq parts) parts
unfolding tree.roll-Expansion denote.Hole.Carrier.roll
parts_of_sequence parts = record {
  references = fold-roll-Expansion (List Reference) references_of_level (Expansion-F.Seq parts) ∙ flat_map-map (λ xs. xs) references_in parts;
  uris = fold-roll-Expansion (List (List ℕ)) uris_of_level (Expansion-F.Seq parts) ∙ flat_map-map (λ xs. xs) uris_in parts;
  count = fold-roll-Expansion ℕ node_count_of_level (Expansion-F.Seq parts);
}

parts_of_alternatives : (parts : List Expansion) → HasParts (e.Alt parts) parts
unfolding tree.roll-Expansion denote.Hole.Carrier.roll
parts_of_alternatives parts = record {
  references = fold-roll-Expansion (List Reference) references_of_level (Expansion-F.Alt parts) ∙ flat_map-map (λ xs. xs) references_in parts;
  uris = fold-roll-Expansion (List (List ℕ)) uris_of_level (Expansion-F.Alt parts) ∙ flat_map-map (λ xs. xs) uris_in parts;
  count = fold-roll-Expansion ℕ node_count_of_level (Expansion-F.Alt parts);
}

-- a repeat has one part
pub part_of_repeat : (least : ℕ) (most : Option ℕ) (inner : Expansion) → HasParts (e.Rep least most inner) (inner ∷ [])
unfolding tree.roll-Expansion denote.Hole.Carrier.roll
part_of_repeat least most inner = record {
  references = fold-roll-Expansion (List Reference) references_of_level (Expansion-F.Rep least most inner) ∙ sym (append-nil (references_in inner));
  uris = fold-roll-Expansion (List (List ℕ)) uris_of_level (Expansion-F.Rep least most inner) ∙ sym (append-nil (uris_in inner));
  count = omega (arith, fold-roll-Expansion ℕ node_count_of_level (Expansion-F.Rep least most inner));
}

-- ---- the nodes of each kind

module _ (means : Goal → RuleIx) where
  laid_sequence : (parts : List Expansion) (n : ℕ) → laid means (e.Seq parts) n ≡ node.Seq (starts (n + 1) (map (laid means) parts)) ∷ one_by_one (n + 1) (map (laid means) parts)
  unfolding tree.roll-Expansion denote.Hole.Carrier.roll
  laid_sequence parts n = ap (λ (f : Laid). f n) (fold-roll-Expansion Laid (laid_of_level means) (Expansion-F.Seq parts))

  laid_alternatives : (parts : List Expansion) (n : ℕ) → laid means (e.Alt parts) n ≡ node.Alt (starts (n + 1) (map (laid means) parts)) ∷ one_by_one (n + 1) (map (laid means) parts)
  unfolding tree.roll-Expansion denote.Hole.Carrier.roll
  laid_alternatives parts n = ap (λ (f : Laid). f n) (fold-roll-Expansion Laid (laid_of_level means) (Expansion-F.Alt parts))

  -- a repeat names the number behind its own
  pub laid_repeat : (least : ℕ) (most : Option ℕ) (inner : Expansion) (n : ℕ) →
      laid means (e.Rep least most inner) n ≡ node.Rep least most (record { 0 = n + 1 }) ∷ one_by_one (n + 1) (laid means inner ∷ [])
  unfolding tree.roll-Expansion denote.Hole.Carrier.roll
  laid_repeat least most inner n =
      ap (λ (f : Laid). f n) (fold-roll-Expansion Laid (laid_of_level means) (Expansion-F.Rep least most inner))
      ∙ ap (λ nodes. node.Rep least most (record { 0 = n + 1 }) ∷ nodes) (sym (append-nil (laid means inner (n + 1))))

-- parts in a row: their numbers stand in its own node, and their nodes behind it
pub record IsRow (x : Expansion) (parts : List Expansion) (own : List NodeIx → Node) : Type 0 where
  pub has : HasParts x parts
  pub nodes : (means : Goal → RuleIx) (n : ℕ) → laid means x n ≡ own (starts (n + 1) (map (laid means) parts)) ∷ one_by_one (n + 1) (map (laid means) parts)

-- sequences and alternatives are rows
pub row_of_sequence : {x : Expansion} {parts : List Expansion} → x ≡ e.Seq parts → IsRow x parts (λ numbers. node.Seq numbers)
row_of_sequence {parts = parts} is =
    subst (λ z. IsRow z parts (λ numbers. node.Seq numbers)) (sym is) (record { has = parts_of_sequence parts; nodes = λ means n. laid_sequence means parts n })

pub row_of_alternatives : {x : Expansion} {parts : List Expansion} → x ≡ e.Alt parts → IsRow x parts (λ numbers. node.Alt numbers)
row_of_alternatives {parts = parts} is =
    subst (λ z. IsRow z parts (λ numbers. node.Alt numbers)) (sym is) (record { has = parts_of_alternatives parts; nodes = λ means n. laid_alternatives means parts n })

-- a node that stands alone, with the references that it has
pub record IsAlone (means : Goal → RuleIx) (x : Expansion) (own : Node) (references : List Reference) : Type 0 where
  pub node : (n : ℕ) → laid means x n ≡ own ∷ []
  pub references_are : references_in x ≡ references

module _ (means : Goal → RuleIx) where
  -- each kind of leaf stands alone
  pub alone_reference : (reference : Reference) → IsAlone means (e.Ref reference) (node.Ref (means reference.goal)) (reference ∷ [])
  unfolding tree.roll-Expansion denote.Hole.Carrier.roll
  alone_reference reference = record {
    node = λ n. ap (λ (f : Laid). f n) (fold-roll-Expansion Laid (laid_of_level means) (Expansion-F.Ref reference));
    references_are = fold-roll-Expansion (List Reference) references_of_level (Expansion-F.Ref reference);
  }

  pub alone_token : (words : List (List ℕ)) → IsAlone means (e.Token words) (node.Token words) []
  unfolding tree.roll-Expansion denote.Hole.Carrier.roll
  alone_token words = record {
    node = λ n. ap (λ (f : Laid). f n) (fold-roll-Expansion Laid (laid_of_level means) (Expansion-F.Token words));
    references_are = fold-roll-Expansion (List Reference) references_of_level (Expansion-F.Token words);
  }

  pub alone_tag : (tag : TagNode) → IsAlone means (e.Tag tag) (node.Tag tag) []
  unfolding tree.roll-Expansion denote.Hole.Carrier.roll
  alone_tag tag = record {
    node = λ n. ap (λ (f : Laid). f n) (fold-roll-Expansion Laid (laid_of_level means) (Expansion-F.Tag tag));
    references_are = fold-roll-Expansion (List Reference) references_of_level (Expansion-F.Tag tag);
  }

  pub alone_null : IsAlone means e.Null node.Null []
  unfolding tree.roll-Expansion denote.Hole.Carrier.roll
  alone_null = record {
    node = λ n. ap (λ (f : Laid). f n) (fold-roll-Expansion Laid (laid_of_level means) Expansion-F.Null);
    references_are = fold-roll-Expansion (List Reference) references_of_level Expansion-F.Null;
  }

  pub alone_void : IsAlone means e.Void node.Void []
  unfolding tree.roll-Expansion denote.Hole.Carrier.roll
  alone_void = record {
    node = λ n. ap (λ (f : Laid). f n) (fold-roll-Expansion Laid (laid_of_level means) Expansion-F.Void);
    references_are = fold-roll-Expansion (List Reference) references_of_level Expansion-F.Void;
  }

  pub alone_garbage : IsAlone means e.Garbage node.Garbage []
  unfolding tree.roll-Expansion denote.Hole.Carrier.roll
  alone_garbage = record {
    node = λ n. ap (λ (f : Laid). f n) (fold-roll-Expansion Laid (laid_of_level means) Expansion-F.Garbage);
    references_are = fold-roll-Expansion (List Reference) references_of_level Expansion-F.Garbage;
  }

-- the URIs of a reference are those of its goal
pub uris_of_reference : (reference : Reference) → uris_in (e.Ref reference) ≡ uri_of reference.goal
unfolding tree.roll-Expansion denote.Hole.Carrier.roll
uris_of_reference reference = fold-roll-Expansion (List (List ℕ)) uris_of_level (Expansion-F.Ref reference)

-- and where they can be read, so can the reference
pub readable_goal : (goal : Goal) → AllByRecursion IsReadable (uri_of goal) → IsReadableGoal goal
readable_goal (g.Local name) h = tt
readable_goal (g.Named uri name) h = h.0
readable_goal (g.Root uri) h = h.0

-- ---- the measure

-- how many nodes these expansions have
abbrev pub weight : List Expansion → ℕ
weight [] = 0
weight (x ∷ xs) = node_count x + weight xs

-- two rows together, and a row from its end
pub weight-append : (xs ys : List Expansion) → weight (xs ++ ys) ≡ weight xs + weight ys
weight-append [] ys = omega arith
weight-append (x ∷ xs) ys = omega (arith, weight-append xs ys)

pub weight-reverse : (xs : List Expansion) → weight (reverse xs) ≡ weight xs
weight-reverse [] = refl
weight-reverse (x ∷ xs) = omega (arith, ap weight (reverse-append (x ∷ []) xs), weight-append (reverse xs) (x ∷ []), weight-reverse xs)

weight-sum : (xs : List Expansion) → sum (map node_count xs) ≡ weight xs
weight-sum [] = refl
weight-sum (x ∷ xs) = omega (arith, sum_by-append (λ k. k) (node_count x ∷ []) (map node_count xs), weight-sum xs)

-- the parts have fewer nodes than the whole
pub parts_are_less : {x : Expansion} {parts : List Expansion} → HasParts x parts → weight parts < node_count x
parts_are_less {parts = parts} has = omega (arith, has.count, weight-sum parts)
