-- Reading gives each tag of a script document its script (`scripted_rule`): by what each kind means, as what is laid of it has them (`Scripted`).
use Rattle.std.proofs.Common.{◌≡◌, ℕ, zero, suc, ◌+◌, Bool, true, false, List, [], ◌∷◌, Option, Some, None, map, refl, sym, subst}
use Rattle.std.specs.Prelude.{slice_get, IsSome, if◌then◌else◌, codes, bytes_eq}
use Rattle.std.specs.List.{AllByRecursion}
use Rattle.vg_base.specs.declared.format.Format.{Format}
use Rattle.vg_base.specs.declared.format.Format.TheVariants as format
use Rattle.vg_base.specs.declared.numbers.RuleIx.{RuleIx}
use Rattle.vg_base.specs.declared.place.Place.{Place}
use Rattle.vg_base.specs.declared.script.Script.{Script}
use Rattle.abnf_parser.specs.declared.written.Written.{Written}
use Rattle.abnf_parser.specs.declared.written.WrittenRule.{WrittenRule}
use Rattle.grammar_tree.specs.declared.document.Rule.{Rule}
use Rattle.grammar_tree.specs.declared.expansion.Expansion as tree
use Rattle.grammar_tree.specs.declared.expansion.Expansion.{Expansion}
use Rattle.grammar_tree.specs.declared.expansion.Expansion.TheVariants as e
use Rattle.grammar_tree.specs.declared.expansion.Expansion.TheOpen.{Expansion-F}
use Rattle.grammar_tree.specs.declared.expansion.Expansion.TheFolds.{fold-roll-Expansion}
use Rattle.grammar_tree.specs.declared.expansion.Goal.{Goal}
use Rattle.grammar_tree.specs.declared.expansion.Goal.TheVariants as goal
use Rattle.grammar_tree.specs.declared.expansion.Reference.{Reference}
use Rattle.grammar_tree.specs.declared.expansion.TagNode.{TagNode}
use Rattle.grammar_tree.specs.declared.linked.Node.{Node}
use Rattle.grammar_tree.specs.declared.linked.Node.TheVariants as node
use Rattle.rule_reader.specs.declared.context.Context.{Context}
use Rattle.rule_reader.specs.References.{named}
use Rattle.rule_reader.specs.Meaning
use Rattle.rule_reader.specs.Meaning.{IsScriptOf, repeated, Means, EachMeans, RulesMean}
use Rattle.linker.specs.Numbers.{Laid, starts, one_by_one, laid_of_level, laid}
use Rattle.linker.proofs.RefersLemmas.{EachNode, each_node}

-- ---- one level of what is laid

-- a tag has its script
abbrev pub HasScript : Node → Type 0
HasScript (node.Tag tag) = IsSome tag.script
HasScript _ = Unit {0}

-- each tag in the expansion has its script
pub record Scripted (x : Expansion) : Type 0 where
  pub by : (means : Goal → RuleIx) → EachNode HasScript (laid means x)

laid_token : (means : Goal → RuleIx) (words : List (List ℕ)) → laid means (e.Token words) ≡ (λ n. node.Token words ∷ [])
unfolding tree.roll-Expansion denote.Hole.Carrier.roll
laid_token means words = fold-roll-Expansion Laid (laid_of_level means) (Expansion-F.Token words)

laid_tag : (means : Goal → RuleIx) (tag : TagNode) → laid means (e.Tag tag) ≡ (λ n. node.Tag tag ∷ [])
unfolding tree.roll-Expansion denote.Hole.Carrier.roll
laid_tag means tag = fold-roll-Expansion Laid (laid_of_level means) (Expansion-F.Tag tag)

laid_null : (means : Goal → RuleIx) → laid means e.Null ≡ (λ n. node.Null ∷ [])
unfolding tree.roll-Expansion denote.Hole.Carrier.roll
laid_null means = fold-roll-Expansion Laid (laid_of_level means) Expansion-F.Null

laid_void : (means : Goal → RuleIx) → laid means e.Void ≡ (λ n. node.Void ∷ [])
unfolding tree.roll-Expansion denote.Hole.Carrier.roll
laid_void means = fold-roll-Expansion Laid (laid_of_level means) Expansion-F.Void

laid_garbage : (means : Goal → RuleIx) → laid means e.Garbage ≡ (λ n. node.Garbage ∷ [])
unfolding tree.roll-Expansion denote.Hole.Carrier.roll
laid_garbage means = fold-roll-Expansion Laid (laid_of_level means) Expansion-F.Garbage

laid_reference : (means : Goal → RuleIx) (r : Reference) → laid means (e.Ref r) ≡ (λ n. node.Ref (means r.goal) ∷ [])
unfolding tree.roll-Expansion denote.Hole.Carrier.roll
laid_reference means r = fold-roll-Expansion Laid (laid_of_level means) (Expansion-F.Ref r)

laid_repeat : (means : Goal → RuleIx) (least : ℕ) (most : Option ℕ) (x : Expansion) →
    laid means (e.Rep least most x) ≡ (λ n. node.Rep least most (record { 0 = n + 1 }) ∷ laid means x (n + 1))
unfolding tree.roll-Expansion denote.Hole.Carrier.roll
laid_repeat means least most x = fold-roll-Expansion Laid (laid_of_level means) (Expansion-F.Rep least most x)

laid_sequence : (means : Goal → RuleIx) (xs : List Expansion) →
    laid means (e.Seq xs) ≡ (λ n. node.Seq (starts (n + 1) (map (laid means) xs)) ∷ one_by_one (n + 1) (map (laid means) xs))
unfolding tree.roll-Expansion denote.Hole.Carrier.roll
laid_sequence means xs = fold-roll-Expansion Laid (laid_of_level means) (Expansion-F.Seq xs)

laid_alternatives : (means : Goal → RuleIx) (xs : List Expansion) →
    laid means (e.Alt xs) ≡ (λ n. node.Alt (starts (n + 1) (map (laid means) xs)) ∷ one_by_one (n + 1) (map (laid means) xs))
unfolding tree.roll-Expansion denote.Hole.Carrier.roll
laid_alternatives means xs = fold-roll-Expansion Laid (laid_of_level means) (Expansion-F.Alt xs)

-- ---- expansions whose tags have their scripts

-- by the nodes that are laid
by_nodes : (x : Expansion) (one : (Goal → RuleIx) → Laid) → ((means : Goal → RuleIx) → laid means x ≡ one means) → ((means : Goal → RuleIx) (n : ℕ) → AllByRecursion HasScript (one means n)) → Scripted x
by_nodes x one is h = record {
  by = λ means. record { by = λ n. subst (λ (f : Laid). AllByRecursion HasScript (f n)) (sym (is means)) (h means n) };
}

of_token : (words : List (List ℕ)) → Scripted (e.Token words)
of_token words = by_nodes (e.Token words) (λ means n. node.Token words ∷ []) (λ means. laid_token means words) (λ means n. (tt, tt))

of_tag : (tag : TagNode) → IsSome tag.script → Scripted (e.Tag tag)
of_tag tag h = by_nodes (e.Tag tag) (λ means n. node.Tag tag ∷ []) (λ means. laid_tag means tag) (λ means n. (h, tt))

of_null : Scripted e.Null
of_null = by_nodes e.Null (λ means n. node.Null ∷ []) laid_null (λ means n. (tt, tt))

of_void : Scripted e.Void
of_void = by_nodes e.Void (λ means n. node.Void ∷ []) laid_void (λ means n. (tt, tt))

of_garbage : Scripted e.Garbage
of_garbage = by_nodes e.Garbage (λ means n. node.Garbage ∷ []) laid_garbage (λ means n. (tt, tt))

of_reference : (r : Reference) → Scripted (e.Ref r)
of_reference r = by_nodes (e.Ref r) (λ means n. node.Ref (means r.goal) ∷ []) (λ means. laid_reference means r) (λ means n. (tt, tt))

of_repeat : (least : ℕ) (most : Option ℕ) (x : Expansion) → Scripted x → Scripted (e.Rep least most x)
of_repeat least most x h =
    by_nodes (e.Rep least most x) (λ means n. node.Rep least most (record { 0 = n + 1 }) ∷ laid means x (n + 1)) (λ means. laid_repeat means least most x)
    (λ means n. (tt, (h.by means).by (n + 1)))

of_each : (means : Goal → RuleIx) (xs : List Expansion) → AllByRecursion Scripted xs → AllByRecursion (EachNode HasScript) (map (laid means) xs)
of_each means [] h = tt
of_each means (x ∷ xs) h = (h.0.by means, of_each means xs h.1)

of_sequence : (xs : List Expansion) → AllByRecursion Scripted xs → Scripted (e.Seq xs)
of_sequence xs h =
    by_nodes (e.Seq xs) (λ means n. node.Seq (starts (n + 1) (map (laid means) xs)) ∷ one_by_one (n + 1) (map (laid means) xs)) (λ means. laid_sequence means xs)
    (λ means n. (tt, each_node HasScript (map (laid means) xs) (n + 1) (of_each means xs h)))

of_alternatives : (xs : List Expansion) → AllByRecursion Scripted xs → Scripted (e.Alt xs)
of_alternatives xs h =
    by_nodes (e.Alt xs) (λ means n. node.Alt (starts (n + 1) (map (laid means) xs)) ∷ one_by_one (n + 1) (map (laid means) xs)) (λ means. laid_alternatives means xs)
    (λ means n. (tt, each_node HasScript (map (laid means) xs) (n + 1) (of_each means xs h)))

of_named : (place : Place) (name : List ℕ) → Scripted (named place name)
of_named place name = at (bytes_eq name (codes "NULL")) (bytes_eq name (codes "VOID")) (bytes_eq name (codes "GARBAGE"))
  where
    local : Expansion
    local = e.Ref (record { place = place; goal = goal.Local name })

    at : (null void garbage : Bool) → Scripted (if null then e.Null else if void then e.Void else if garbage then e.Garbage else local)
    at true void garbage = of_null
    at false true garbage = of_void
    at false false true = of_garbage
    at false false false = of_reference (record { place = place; goal = goal.Local name })

of_repeated : (least : ℕ) (most : Option ℕ) (x : Expansion) → Scripted x → Scripted (repeated least most x)
of_repeated least (Some zero) x h = of_null
of_repeated least (Some (suc most)) x h = of_repeat least (Some (suc most)) x h
of_repeated least None x h = of_repeat least None x h

-- ---- reading gives each tag of a script document its script

some_script : (f : Option Format) (inside : List ℕ) (script : Option Script) → f ≡ Some format.Script → IsScriptOf f inside script → IsSome script
some_script (Some format.Script) inside (Some script) is h = refl
some_script (Some format.Script) inside None is h = absurd h
some_script (Some format.Literal) inside script is h = absurd (cc)
some_script None inside script is h = absurd (cc)

mutual
  scripted : {text : List ℕ} {context : Context} {p : Written} {x : Expansion} → context.format ≡ Some format.Script → Means text context p x → Scripted x
  scripted f (Meaning.token (inside, has, (words, are, is))) = subst Scripted (sym is) (of_token words)
  scripted f (Meaning.name {span} (inside, has, is)) = subst Scripted (sym is) (of_named span.place inside)
  scripted f (Meaning.reference {span} (inside, has, (g, is_goal, is))) = subst Scripted (sym is) (of_reference (record { place = span.place; goal = g }))
  scripted f (Meaning.tag {span} (inside, has, (script, of, is))) =
      subst Scripted (sym is) (of_tag (record { place = span.place; text = inside; script = script }) (some_script _ inside script f of))
  scripted f (Meaning.nothing is) = subst Scripted (sym is) of_null
  scripted f (Meaning.sequence xs is each) = subst Scripted (sym is) (of_sequence xs (scripted_each f each))
  scripted f (Meaning.alternatives xs is each) = subst Scripted (sym is) (of_alternatives xs (scripted_each f each))
  scripted f (Meaning.weighted m) = scripted f m
  scripted f (Meaning.optional y is m) = subst Scripted (sym is) (of_repeat 0 (Some 1) y (scripted f m))
  scripted f (Meaning.turns y (least, most, chance, has, is) m) = subst Scripted (sym is) (of_repeated _ _ y (scripted f m))

  scripted_each : {text : List ℕ} {context : Context} {parts : List Written} {xs : List Expansion} → context.format ≡ Some format.Script → EachMeans text context parts xs → AllByRecursion Scripted xs
  scripted_each f Meaning.no_part = tt
  scripted_each f (Meaning.part m each) = (scripted f m, scripted_each f each)

-- so has each rule of a script document
module _ (text : List ℕ) (context : Context) (f : context.format ≡ Some format.Script) where
  pub scripted_rule : (written : List WrittenRule) (rules : List Rule) → RulesMean text context written rules → (k : ℕ) (rule : Rule) → slice_get rules k ≡ Some rule → Scripted rule.body
  scripted_rule [] [] m k rule is = absurd (cc)
  scripted_rule [] (r ∷ rules) m k rule is = absurd m
  scripted_rule (w ∷ written) [] m k rule is = absurd m
  scripted_rule (w ∷ written) (r ∷ rules) m zero rule is = let same : r ≡ rule = cc in subst (λ (r : Rule). Scripted r.body) same (scripted f m.0.body)
  scripted_rule (w ∷ written) (r ∷ rules) m (suc k) rule is = scripted_rule written rules m.1 k rule is
