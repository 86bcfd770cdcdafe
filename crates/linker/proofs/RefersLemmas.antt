-- Every reference's number is that of a rule. A reference that means no rule has the number 0, and it stands in a rule, so there is one.
use Rattle.std.proofs.Common.{◌≡◌, ℕ, zero, suc, ◌+◌, ◌<◌, ◌==◌, Bool, true, false, List, [], ◌∷◌, Option, Some, None, length, map, sum, take, refl, sym, ap, ◌∙◌, arith, length-append}
use Rattle.std.specs.Prelude.{slice_get, if◌then◌else◌}
use Rattle.std.specs.List.{All, AllByRecursion}
use Rattle.std.specs.Option.{option_map, option_map_or}
use Rattle.std.proofs.lemmas.List.{length-map}
use Rattle.std.proofs.lemmas.List.Sums.{sum_by-cons}
use Rattle.std.proofs.lemmas.List.Elements.{All-from_recursion}
use Rattle.vg_base.specs.declared.mode.Mode.{Mode}
use Rattle.vg_base.specs.declared.numbers.NodeIx.{NodeIx}
use Rattle.vg_base.specs.declared.numbers.RuleIx.{RuleIx}
use Rattle.vg_base.specs.declared.link_fault.LinkKind.TheVariants.{NoDocument, NoRule, NotPublic, NoRoot, ModeDiffers}
use Rattle.grammar_tree.specs.declared.doc_set.DocText.{DocText}
use Rattle.grammar_tree.specs.declared.document.Doc.{Doc}
use Rattle.grammar_tree.specs.declared.document.Rule as tree
use Rattle.grammar_tree.specs.declared.document.ReadDoc.{ReadDoc}
use Rattle.grammar_tree.specs.declared.document.ReadDoc.TheVariants as read
use Rattle.grammar_tree.specs.declared.expansion.Goal.{Goal}
use Rattle.grammar_tree.specs.declared.expansion.Goal.TheVariants as goal
use Rattle.grammar_tree.specs.declared.expansion.Expansion.TheOpen.{Expansion-F}
use Rattle.grammar_tree.specs.declared.linked.Node.{Node}
use Rattle.grammar_tree.specs.Links.{RefersBelow}
use Rattle.linker.specs.declared.target.Target.{Target}
use Rattle.linker.specs.declared.target.Target.TheVariants.{Rule, Fault}
use Rattle.linker.specs.declared.version.VersionDoc.{VersionDoc}
use Rattle.linker.specs.Readings.{Readings, place_of}
use Rattle.linker.specs.Targets as targets
use Rattle.linker.specs.Targets.{rule_count, rules_before, number, place_named, root_of, is_public, same_mode}
use Rattle.linker.specs.Numbers.{Definition, definitions_from, definitions, Laid, starts, one_by_one, laid_of_level, rule_meant, meant_in, bodies, linked_rules, numbers}
use Rattle.linker.specs.Versions.{version_docs, IsRootBelow}
use Rattle.linker.proofs.IndexPositions.{position_within}
use Rattle.linker.proofs.LinkedEach.{each_append}
use Rattle.linker.proofs.LinkedLemmas.{IsDefined, definitions_stand}
use Rattle.linker.proofs.OrderLemmas.{OfParts, keeps, length_starts, length_bodies}

-- ---- how many rules there are

-- a rule's number is below the count of all rules
number_below : (docs : Readings) (y k : ℕ) (doc : Doc) → slice_get docs y ≡ Some (Some (read.Good doc)) → k < length doc.rules → rules_before docs y + k < sum (map rule_count docs)
number_below [] y k doc is lt = absurd (cc)
number_below (reading ∷ docs) zero k doc is lt =
    let same : reading ≡ Some (read.Good doc) = cc in
    let own : rule_count reading ≡ length doc.rules = ap rule_count same in
    let all : sum (rule_count reading ∷ map rule_count docs) ≡ rule_count reading + sum (map rule_count docs) = sum_by-cons (λ n. n) (rule_count reading) (map rule_count docs) in
    omega arith
number_below (reading ∷ docs) (suc y) k doc is lt =
    let below : rules_before docs y + k < sum (map rule_count docs) = number_below docs y k doc is lt in
    let all : sum (rule_count reading ∷ map rule_count docs) ≡ rule_count reading + sum (map rule_count docs) = sum_by-cons (λ n. n) (rule_count reading) (map rule_count docs) in
    let before : sum (rule_count reading ∷ map rule_count (take y docs)) ≡ rule_count reading + rules_before docs y = sum_by-cons (λ n. n) (rule_count reading) (map rule_count (take y docs)) in
    omega arith

definition_count : (x n : ℕ) (set : List DocText) (docs : Readings) → length docs ≡ length set → length (definitions_from x n set docs) ≡ sum (map rule_count docs)
definition_count x n [] [] long = refl
definition_count x n [] (reading ∷ docs) long = absurd (omega arith)
definition_count x n (staged ∷ set) [] long = absurd (omega arith)
definition_count x n (staged ∷ set) (None ∷ docs) long =
    definition_count (x + 1) n set docs (omega arith) ∙ sym (sum_by-cons (λ n. n) 0 (map rule_count docs) ∙ zero_more)
  where
    zero_more : 0 + sum (map rule_count docs) ≡ sum (map rule_count docs)
    zero_more = omega arith
definition_count x n (staged ∷ set) (Some (read.Bad fault) ∷ docs) long =
    definition_count (x + 1) n set docs (omega arith) ∙ sym (sum_by-cons (λ n. n) 0 (map rule_count docs) ∙ zero_more)
  where
    zero_more : 0 + sum (map rule_count docs) ≡ sum (map rule_count docs)
    zero_more = omega arith
definition_count x n (staged ∷ set) (Some (read.Good own) ∷ docs) long =
    length-append (map mine own.rules) (definitions_from (x + 1) (n + 1) set docs)
    ∙ (λ i. length-map own.rules mine i + definition_count (x + 1) (n + 1) set docs shorter i)
    ∙ sym (sum_by-cons (λ n. n) (length own.rules) (map rule_count docs))
  where
    mine : tree.Rule → Definition
    mine rule = record { x = x; key = staged.key; own = own; doc = record { 0 = n }; rule = rule }

    shorter : length docs ≡ length set
    shorter = omega arith

pub length_rules : (ds : List Definition) (ns : List NodeIx) → length ns ≡ length ds → length (linked_rules ds ns) ≡ length ds
length_rules [] ns long = refl
length_rules (d ∷ ds) [] long = absurd (omega arith)
length_rules (d ∷ ds) (n ∷ ns) long = ap suc (length_rules ds ns (omega arith))

-- ---- what references mean

abbrev Below : ℕ → Target → Type 0
Below count t = (rule_meant t).0 < count

module _ (docs : Readings) (count : ℕ) (total : sum (map rule_count docs) ≡ count) where
  number_is_below : (y k : ℕ) (doc : Doc) → slice_get docs y ≡ Some (Some (read.Good doc)) → k < length doc.rules → (number docs y k).0 < count
  number_is_below y k doc is lt = let below : rules_before docs y + k < sum (map rule_count docs) = number_below docs y k doc is lt in omega arith

  -- the root rule is one of the rules
  pub root_below : (y : ℕ) (doc : Doc) → slice_get docs y ≡ Some (Some (read.Good doc)) → IsRootBelow count (root_of docs y doc)
  root_below y doc is = at doc.root
    where
      named : (o : Option ℕ) → ((k : ℕ) → o ≡ Some k → k < length doc.rules) → IsRootBelow count (option_map (number docs y) o)
      named None h = tt
      named (Some k) h = number_is_below y k doc is (h k refl)

      at : (root : Option (List ℕ)) → IsRootBelow count (option_map_or (λ name. option_map (number docs y) (place_named doc name)) root None)
      at None = tt
      at (Some name) = named (place_named doc name) (λ k e. position_within _ doc.rules k e)

module _ (docs : Readings) (count : ℕ) (some : 0 < count) (total : sum (map rule_count docs) ≡ count) where
  to_named_below : (y : ℕ) (doc : Doc) (name : List ℕ) → slice_get docs y ≡ Some (Some (read.Good doc)) → Below count (targets.to_named docs y doc name)
  to_named_below y doc name is = at (place_named doc name) refl
    where
      at : (o : Option ℕ) → place_named doc name ≡ o → Below count (option_map_or (λ k. Rule (number docs y k)) o (Fault NoRule))
      at None e = some
      at (Some k) e = number_is_below docs count total y k doc is (position_within _ doc.rules k e)

  to_public_below : (y : ℕ) (doc : Doc) (name : List ℕ) → slice_get docs y ≡ Some (Some (read.Good doc)) → Below count (targets.to_public docs y doc name)
  to_public_below y doc name is = at (place_named doc name) refl
    where
      either : (k : ℕ) (b : Bool) → k < length doc.rules → Below count (if b then Rule (number docs y k) else Fault NotPublic)
      either k true lt = number_is_below docs count total y k doc is lt
      either k false lt = some

      at : (o : Option ℕ) → place_named doc name ≡ o → Below count (option_map_or (λ k. if is_public doc k then Rule (number docs y k) else Fault NotPublic) o (Fault NoRule))
      at None e = some
      at (Some k) e = either k (is_public doc k) (position_within _ doc.rules k e)

  to_root_below : (y : ℕ) (doc : Doc) → slice_get docs y ≡ Some (Some (read.Good doc)) → Below count (targets.to_root docs y doc)
  to_root_below y doc is = at (root_of docs y doc) (root_below docs count total y doc is)
    where
      at : (o : Option RuleIx) → IsRootBelow count o → Below count (option_map_or Rule o (Fault NoRoot))
      at None h = some
      at (Some r) h = h

  within_below : (y : ℕ) (doc : Doc) (name : Option (List ℕ)) → slice_get docs y ≡ Some (Some (read.Good doc)) → Below count (targets.within docs y doc name)
  within_below y doc None is = to_root_below y doc is
  within_below y doc (Some name) is = to_named_below y doc name is

  from_outside_below : (y : ℕ) (doc : Doc) (name : Option (List ℕ)) → slice_get docs y ≡ Some (Some (read.Good doc)) → Below count (targets.from_outside docs y doc name)
  from_outside_below y doc None is = to_root_below y doc is
  from_outside_below y doc (Some name) is = to_public_below y doc name is

  across_below : (own : Mode) (y : ℕ) (reading : Option (Option ReadDoc)) (name : Option (List ℕ)) → slice_get docs y ≡ reading → Below count (targets.across docs own y reading name)
  across_below own y None name is = some
  across_below own y (Some None) name is = some
  across_below own y (Some (Some (read.Bad fault))) name is = some
  across_below own y (Some (Some (read.Good doc))) name is = at (same_mode own doc.mode)
    where
      at : (b : Bool) → Below count (if b then targets.from_outside docs y doc name else Fault ModeDiffers)
      at true = from_outside_below y doc name is
      at false = some

  at_key_below : (set : List DocText) (x : ℕ) (own : Doc) (key : List ℕ) (name : Option (List ℕ)) → slice_get docs x ≡ Some (Some (read.Good own)) → Below count (targets.at_key docs set x own key name)
  at_key_below set x own key name is = at (place_of set key)
    where
      here : (y : ℕ) (b : Bool) → Below count (if b then targets.within docs x own name else targets.across docs own.mode y (slice_get docs y) name)
      here y true = within_below x own name is
      here y false = across_below own.mode y (slice_get docs y) name refl

      at : (o : Option ℕ) → Below count (option_map_or (λ y. if y == x then targets.within docs x own name else targets.across docs own.mode y (slice_get docs y) name) o (Fault NoDocument))
      at None = some
      at (Some y) = here y (y == x)

  target_below : (set : List DocText) (x : ℕ) (key : List ℕ) (own : Doc) (g : Goal) → slice_get docs x ≡ Some (Some (read.Good own)) → Below count (targets.target docs set x key own g)
  target_below set x key own (goal.Local name) is = to_named_below x own name is
  target_below set x key own (goal.Named uri name) is = at_key_below set x own _ (Some name) is
  target_below set x key own (goal.Root uri) is = at_key_below set x own _ None is

-- ---- nodes that are laid

-- the test holds of each node that is laid, whatever the number of the first
pub record EachNode (P : Node → Type 0) (one : Laid) : Type 0 where
  pub by : (n : ℕ) → AllByRecursion P (one n)

pub each_node : (P : Node → Type 0) (ones : List Laid) (n : ℕ) → AllByRecursion (EachNode P) ones → AllByRecursion P (one_by_one n ones)
each_node P [] n h = tt
each_node P (one ∷ ones) n h = each_append P (one n) (one_by_one (n + length (one n)) ones) (h.0.by n) (each_node P ones (n + length (one n)) h.1)

level_below : (count : ℕ) (means : Goal → RuleIx) → ((g : Goal) → (means g).0 < count) → (e : Expansion-F Laid) → OfParts (EachNode (RefersBelow count)) e → EachNode (RefersBelow count) (laid_of_level means e)
level_below count means h (Expansion-F.Seq ones) of = record { by = λ n. (tt, each_node (RefersBelow count) ones (n + 1) of) }
level_below count means h (Expansion-F.Alt ones) of = record { by = λ n. (tt, each_node (RefersBelow count) ones (n + 1) of) }
level_below count means h (Expansion-F.Rep least most one) of = record { by = λ n. (tt, of.by (n + 1)) }
level_below count means h (Expansion-F.Ref reference) of = record { by = λ n. (h reference.goal, tt) }
level_below count means h (Expansion-F.Token words) of = record { by = λ n. (tt, tt) }
level_below count means h (Expansion-F.Tag tag) of = record { by = λ n. (tt, tt) }
level_below count means h Expansion-F.Null of = record { by = λ n. (tt, tt) }
level_below count means h Expansion-F.Void of = record { by = λ n. (tt, tt) }
level_below count means h Expansion-F.Garbage of = record { by = λ n. (tt, tt) }

module _ (set : List DocText) (docs : Readings) (sized : length docs ≡ length set) where
  pub total_rules : sum (map rule_count docs) ≡ length (numbers set docs).rules
  total_rules =
      let ds : List Definition = definitions set docs in
      let long : length (starts 0 (bodies set docs ds)) ≡ length ds = length_starts 0 (bodies set docs ds) ∙ length_bodies set docs ds in
      sym (length_rules ds (starts 0 (bodies set docs ds)) long ∙ definition_count 0 0 set docs sized)

  bodies_below : (count : ℕ) → 0 < count → sum (map rule_count docs) ≡ count → (ds : List Definition) → AllByRecursion (IsDefined set docs) ds → AllByRecursion (EachNode (RefersBelow count)) (bodies set docs ds)
  bodies_below count some total [] h = tt
  bodies_below count some total (d ∷ ds) h = (
    keeps (meant_in set docs d) (EachNode (RefersBelow count))
        (level_below count (meant_in set docs d) (λ g. target_below docs count some total set d.x d.key d.own g h.0.is_read)) d.rule.body,
    bodies_below count some total ds h.1,
  )

  -- where there is a node there is a rule
  all_below : (ds : List Definition) → AllByRecursion (IsDefined set docs) ds → length ds ≡ length (numbers set docs).rules → AllByRecursion (RefersBelow (length (numbers set docs).rules)) (one_by_one 0 (bodies set docs ds))
  all_below [] h long = tt
  all_below (d ∷ ds) h long =
      each_node (RefersBelow (length (numbers set docs).rules)) (bodies set docs (d ∷ ds)) 0
      (bodies_below (length (numbers set docs).rules) (omega arith) total_rules (d ∷ ds) h)

  pub refers_below : All (RefersBelow (length (numbers set docs).rules)) (numbers set docs).nodes
  refers_below =
      let ds : List Definition = definitions set docs in
      let long : length (starts 0 (bodies set docs ds)) ≡ length ds = length_starts 0 (bodies set docs ds) ∙ length_bodies set docs ds in
      All-from_recursion (RefersBelow (length (numbers set docs).rules)) (numbers set docs).nodes
      (all_below ds (definitions_stand set docs) (sym (length_rules ds (starts 0 (bodies set docs ds)) long)))

-- ---- root rules

module _ (all : Readings) (count : ℕ) (total : sum (map rule_count all) ≡ count) where
  -- these documents are some of all, the first of them being document x
  pub roots_below : (x : ℕ) (set : List DocText) (docs : Readings) → ((k : ℕ) (reading : Option ReadDoc) → slice_get docs k ≡ Some reading → slice_get all (x + k) ≡ Some reading)
      → AllByRecursion (λ (doc : VersionDoc). IsRootBelow count doc.root) (version_docs all x set docs)
  roots_below x [] docs among = tt
  roots_below x (staged ∷ set) [] among = tt
  roots_below x (staged ∷ set) (reading ∷ docs) among = at reading (among 0 reading refl) (roots_below (x + 1) set docs further)
    where
      further : (k : ℕ) (other : Option ReadDoc) → slice_get docs k ≡ Some other → slice_get all (x + 1 + k) ≡ Some other
      further k other is = let e : x + 1 + k ≡ x + suc k = omega arith in ap (slice_get all) e ∙ among (suc k) other is

      at : (reading : Option ReadDoc) → slice_get all (x + 0) ≡ Some reading → AllByRecursion (λ (doc : VersionDoc). IsRootBelow count doc.root) (version_docs all (x + 1) set docs)
          → AllByRecursion (λ (doc : VersionDoc). IsRootBelow count doc.root) (version_docs all x (staged ∷ set) (reading ∷ docs))
      at None is rest = rest
      at (Some (read.Bad fault)) is rest = rest
      at (Some (read.Good doc)) is rest =
          let e : x ≡ x + 0 = omega arith in
          (root_below all count total x doc (ap (slice_get all) e ∙ is), rest)
