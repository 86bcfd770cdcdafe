-- Each list of words has finitely many trees of a given height: here they are listed.
use Rattle.std.proofs.Common.{ℕ, zero, suc, ◌+◌, ◌-◌, ◌<◌, ◌≤◌, ◌≡◌, ◌≢◌, ◌⊎◌, true, false, leb, List, [], ◌∷◌, ◌++◌, Option, Some, None, length, map, refl, sym, ap, ◌∙◌, subst, inl, inr, ⊎_elim, arith, length-append}
use Rattle.std.specs.Prelude.{slice_get}
use Rattle.std.specs.List.{flat_map}
use Rattle.std.proofs.lemmas.Bool.{cases_order}
use Rattle.std.proofs.lemmas.Bool.Decides.{leb_tells}
use Rattle.vg_base.specs.declared.numbers.NodeIx.{NodeIx}
use Rattle.vg_base.specs.declared.numbers.RuleIx.{RuleIx}
use Rattle.grammar_tree.specs.declared.linked.LinkedRule.{LinkedRule}
use Rattle.grammar_tree.specs.declared.linked.Node.{Node}
use Rattle.grammar_tree.specs.declared.linked.Node.TheVariants as node
use Rattle.grammar_tree.specs.declared.parse_tree.ParseTree.{ParseTree}
use Rattle.grammar_tree.specs.declared.parse_tree.ParseTree.TheVariants as tree
use Rattle.grammar_tree.specs.Links.{Rules, node_at, rule_at}
use Rattle.grammar_tree.specs.Derives.{Words, IsAtMost, HasTree, Derives, by_token, by_seq, by_alt, by_rep, by_ref, by_tag, by_null, by_garbage, DerivesEach, no_part, part, DerivesTurns, no_turn, turn}
use Rattle.grammar_tree.proofs.Depth.{height, height_each, height_turns}
use Rattle.grammar_tree.proofs.Lists.{AnyByRecursion, any_left, any_right, any_flat, any_map}

-- ---- decisions

same_number : (a b : ℕ) → (a ≡ b) ⊎ (a ≡ b → ⊥)
same_number a b = ⊎_elim inl (⊎_elim (λ l. inr (λ e. absurd (omega arith))) (λ l. inr (λ e. absurd (omega arith)))) (cases_order a b)

same_list : {X : Type 0} → ((a b : X) → (a ≡ b) ⊎ (a ≡ b → ⊥)) → (xs ys : List X) → (xs ≡ ys) ⊎ (xs ≡ ys → ⊥)
same_list same [] [] = inl refl
same_list same [] (y ∷ ys) = inr (λ e. cc)
same_list same (x ∷ xs) [] = inr (λ e. cc)
same_list {X} same (x ∷ xs) (y ∷ ys) = at (same x y) (same_list same xs ys)
  where
    at : (x ≡ y) ⊎ (x ≡ y → ⊥) → (xs ≡ ys) ⊎ (xs ≡ ys → ⊥) → (x ∷ xs ≡ y ∷ ys) ⊎ (x ∷ xs ≡ y ∷ ys → ⊥)
    at (inl a) (inl b) = inl (cc)
    at (inl a) (inr b) = inr (λ e. let t : xs ≡ ys = cc in b t)
    at (inr a) h = inr (λ e. let t : x ≡ y = cc in a t)

same_words : (us ws : Words) → (us ≡ ws) ⊎ (us ≡ ws → ⊥)
same_words = same_list (same_list same_number)

within : (most : Option ℕ) (k : ℕ) → IsAtMost most k ⊎ (IsAtMost most k → ⊥)
within None k = inl tt
within (Some most) k = ⊎_elim (λ l. inl l.1) (λ l. inr (λ h. absurd (omega (arith, l.1)))) (leb_tells k most)

same_cons : {X : Type 0} (x y : X) (xs ys : List X) → x ≡ y → xs ≡ ys → x ∷ xs ≡ y ∷ ys
same_cons x y xs ys e f = cc

-- ---- where a list of words can be cut

abbrev Split : Words → Type 0
Split ws = (u : Words) × (v : Words) × (ws ≡ u ++ v)

splits : (ws : Words) → List (Split ws)
splits [] = ([], [], refl) ∷ []
splits (w ∷ ws) = ([], w ∷ ws, refl) ∷ map (λ s. (w ∷ s.0, s.1, ap (λ x. w ∷ x) s.2)) (splits ws)

abbrev Cut : (ws u v : Words) → Split ws → Type 0
Cut ws u v s = (s.0 ≡ u) × (s.1 ≡ v)

has_split : (ws u v : Words) → ws ≡ u ++ v → AnyByRecursion (Cut ws u v) (splits ws)
unfolding splits
has_split [] [] v e = inl (refl, e)
has_split [] (x ∷ u) v e = absurd (cc)
has_split (w ∷ ws) [] v e = inl (refl, e)
has_split (w ∷ ws) (x ∷ u) v e =
    let e' : ws ≡ u ++ v = cc in
    let w' : w ≡ x = cc in
    inr (any_map (Cut ws u v) (Cut (w ∷ ws) (x ∷ u) v) _ (splits ws) (has_split ws u v e') (λ s c. let h : w ∷ s.0 ≡ x ∷ u = cc (c.0) in (h, c.1)))

module _ (L : Rules) where
  abbrev pub All : Type 0
  All = (p : NodeIx) (us : Words) → List (HasTree L p us)

  abbrev CoversEach : List NodeIx → Words → Type 0
  CoversEach ps ws = (ts : List ParseTree) × DerivesEach L ps ws ts

  abbrev CoversTurns : NodeIx → ℕ → Words → Type 0
  CoversTurns p free ws = (ts : List ParseTree) × DerivesTurns L p free ws ts

  abbrev pub IsTree : (n : NodeIx) (ws : Words) → ParseTree → HasTree L n ws → Type 0
  IsTree n ws t c = c.0 ≡ t

  all_each : All → (ps : List NodeIx) (ws : Words) → List (CoversEach ps ws)
  all_each all [] [] = ([], no_part refl) ∷ []
  all_each all [] (w ∷ ws) = []
  all_each all (p ∷ ps) ws =
      flat_map (λ s. flat_map (λ c. map (λ r. (c.0 ∷ r.0, part s.0 s.1 s.2 c.1 r.1)) (all_each all ps s.1)) (all p s.0)) (splits ws)

  -- a turn that may be empty, or has a word
  may : (free : ℕ) (u : Words) → List (free ≡ 0 → u ≢ [])
  may (suc free) u = (λ z. absurd (omega arith)) ∷ []
  may zero [] = []
  may zero (w ∷ u) = (λ z e. cc) ∷ []

  ended : (p : NodeIx) (free : ℕ) (ws : Words) → List (CoversTurns p free ws)
  ended p free [] = ([], no_turn refl) ∷ []
  ended p free (w ∷ ws) = []

  all_turns : All → (turns : ℕ) (p : NodeIx) (free : ℕ) (ws : Words) → List (CoversTurns p free ws)
  all_turns all zero p free ws = ended p free ws
  all_turns all (suc k) p free ws =
      ended p free ws ++ flat_map (λ s. flat_map (λ ok. flat_map (λ c. map (λ r. (c.0 ∷ r.0, turn s.0 s.1 s.2 ok c.1 r.1)) (all_turns all k p (free - 1) s.1)) (all p s.0)) (may free s.0)) (splits ws)

  abbrev Place : List NodeIx → Type 0
  Place ps = (k : ℕ) × (p : NodeIx) × (slice_get ps k ≡ Some p)

  places : (ps : List NodeIx) → List (Place ps)
  places [] = []
  places (p ∷ ps) = (0, p, refl) ∷ map (λ l. (suc l.0, l.1, l.2)) (places ps)

  rep_kept : (n : NodeIx) (ws : Words) (least : ℕ) (most : Option ℕ) (p : NodeIx) → node_at L n ≡ Some (node.Rep least most p) → (r : CoversTurns p least ws) →
      ((leb least (length r.0) ≡ true) × (least ≤ length r.0)) ⊎ ((leb least (length r.0) ≡ false) × (length r.0 < least)) → IsAtMost most (length r.0) ⊎ (IsAtMost most (length r.0) → ⊥) → List (HasTree L n ws)
  rep_kept n ws least most p e r (inl lo) (inl hi) = (tree.Rep r.0, by_rep least most p r.0 e refl lo.1 hi r.1) ∷ []
  rep_kept n ws least most p e r (inl lo) (inr hi) = []
  rep_kept n ws least most p e r (inr lo) hi = []

  abbrev rep_of : (n : NodeIx) (ws : Words) (least : ℕ) (most : Option ℕ) (p : NodeIx) → node_at L n ≡ Some (node.Rep least most p) → CoversTurns p least ws → List (HasTree L n ws)
  rep_of n ws least most p e r = rep_kept n ws least most p e r (leb_tells least (length r.0)) (within most (length r.0))

  rule_of : All → (n : NodeIx) (ws : Words) (r : RuleIx) → node_at L n ≡ Some (node.Ref r) → (o : Option LinkedRule) → rule_at L r ≡ o → List (HasTree L n ws)
  rule_of all n ws r e None g = []
  rule_of all n ws r e (Some rule) g = map (λ c. (tree.Rule r c.0, by_ref r rule c.0 e g refl c.1)) (all rule.body ws)

  token_of : (n : NodeIx) (us ws : Words) → node_at L n ≡ Some (node.Token us) → (us ≡ ws) ⊎ (us ≡ ws → ⊥) → List (HasTree L n ws)
  token_of n us ws e (inl h) = (tree.Token ws, by_token (e ∙ ap (λ x. Some (node.Token x)) h) refl) ∷ []
  token_of n us ws e (inr h) = []

  none_of : (n : NodeIx) (ws : Words) (t : ParseTree) → (ws ≡ [] → Derives L n ws t) → List (HasTree L n ws)
  none_of n [] t d = (t, d refl) ∷ []
  none_of n (w ∷ ws) t d = []

  level : All → (n : NodeIx) (ws : Words) (o : Option Node) → node_at L n ≡ o → List (HasTree L n ws)
  level all n ws None e = []
  level all n ws (Some (node.Token us)) e = token_of n us ws e (same_words us ws)
  level all n ws (Some (node.Seq ps)) e = map (λ r. (tree.Seq r.0, by_seq ps r.0 e refl r.1)) (all_each all ps ws)
  level all n ws (Some (node.Alt ps)) e = flat_map (λ l. map (λ c. (tree.Alt l.0 c.0, by_alt ps l.0 l.1 c.0 e l.2 refl c.1)) (all l.1 ws)) (places ps)
  level all n ws (Some (node.Rep least most p)) e = flat_map (rep_of n ws least most p e) (all_turns all (least + length ws) p least ws)
  level all n ws (Some (node.Ref r)) e = rule_of all n ws r e (rule_at L r) refl
  level all n ws (Some (node.Tag tag)) e = none_of n ws (tree.Tag n) (λ z. by_tag tag e z refl)
  level all n ws (Some node.Null) e = none_of n ws tree.Null (λ z. by_null e z refl)
  level all n ws (Some node.Void) e = []
  level all n ws (Some node.Garbage) e = (tree.Garbage ws, by_garbage e refl) ∷ []

  pub trees : ℕ → All
  trees zero n ws = []
  trees (suc h) n ws = level (trees h) n ws (node_at L n) refl

  -- ---- each tree of that height is among them

  -- what the trees below have
  abbrev pub Has : All → ℕ → Type 0
  Has all h = (n : NodeIx) (ws : Words) (t : ParseTree) (d : Derives L n ws t) → height L n ws t d ≤ h → AnyByRecursion (IsTree n ws t) (all n ws)

  -- the trees over u are those over an equal list
  moved : (all : All) (p : NodeIx) (u s : Words) (t : ParseTree) → s ≡ u → AnyByRecursion (IsTree p u t) (all p u) → AnyByRecursion (IsTree p s t) (all p s)
  moved all p u s t e h = subst (λ x. AnyByRecursion (IsTree p x t) (all p x)) (sym e) h

  has_each : (all : All) (h : ℕ) → Has all h → (ps : List NodeIx) (ws : Words) (ts : List ParseTree) (d : DerivesEach L ps ws ts) → height_each L ps ws ts d ≤ h →
      AnyByRecursion (λ c. c.0 ≡ ts) (all_each all ps ws)
  unfolding all_each
  has_each all h has _ [] _ (no_part z) le = inl refl
  has_each all h has _ (w ∷ ws) _ (no_part z) le = absurd (cc)
  has_each all h has _ ws _ (part {p = p} {ps = ps} {t = t} {ts = ts} u v z d ds) le =
      let rest = has_each all h has ps v ts ds (omega arith) in
      let first = has p u t d (omega arith) in
      any_flat (Cut ws u v) (λ c. c.0 ≡ t ∷ ts) _ (splits ws) (has_split ws u v z) (λ s cut.
      any_flat (IsTree p s.0 t) (λ c. c.0 ≡ t ∷ ts) _ (all p s.0) (moved all p u s.0 t cut.0 first) (λ c is.
      any_map (λ r. r.0 ≡ ts) (λ c. c.0 ≡ t ∷ ts) _ (all_each all ps s.1) (subst (λ x. AnyByRecursion (λ r. r.0 ≡ ts) (all_each all ps x)) (sym cut.1) rest) (λ r same.
      same_cons c.0 t r.0 ts is same)))

  has_ended : (p : NodeIx) (free : ℕ) (ws : Words) → ws ≡ [] → AnyByRecursion (λ c. c.0 ≡ []) (ended p free ws)
  unfolding ended
  has_ended p free [] e = inl refl
  has_ended p free (w ∷ ws) e = absurd (cc)

  has_may : (free : ℕ) (u s : Words) → s ≡ u → (free ≡ 0 → u ≢ []) → AnyByRecursion (λ ok. Unit {0}) (may free s)
  unfolding may
  has_may (suc free) u s e ok = inl tt
  has_may zero u [] e ok = absurd (ok refl (sym e))
  has_may zero u (w ∷ s) e ok = inl tt

  has_turns : (all : All) (h : ℕ) → Has all h → (turns : ℕ) (p : NodeIx) (free : ℕ) (ws : Words) (ts : List ParseTree) (d : DerivesTurns L p free ws ts) →
      height_turns L p free ws ts d ≤ h → length ts ≤ turns → AnyByRecursion (λ c. c.0 ≡ ts) (all_turns all turns p free ws)
  unfolding all_turns
  has_turns all h has zero p free ws _ (no_turn z) le few = has_ended p free ws z
  has_turns all h has (suc k) p free ws _ (no_turn z) le few = any_left (λ c. c.0 ≡ []) _ _ (has_ended p free ws z)
  has_turns all h has zero p free ws _ (turn {t = t} {ts = ts} u v z ok d ds) le few = absurd (omega arith)
  has_turns all h has (suc k) p free ws _ (turn {t = t} {ts = ts} u v z ok d ds) le few =
      let rest = has_turns all h has k p (free - 1) v ts ds (omega arith) (omega arith) in
      let first = has p u t d (omega arith) in
      any_right (λ c. c.0 ≡ t ∷ ts) (ended p free ws) _ (
      any_flat (Cut ws u v) (λ c. c.0 ≡ t ∷ ts) _ (splits ws) (has_split ws u v z) (λ s cut.
      any_flat (λ ok. Unit {0}) (λ c. c.0 ≡ t ∷ ts) _ (may free s.0) (has_may free u s.0 cut.0 ok) (λ ok yes.
      any_flat (IsTree p s.0 t) (λ c. c.0 ≡ t ∷ ts) _ (all p s.0) (moved all p u s.0 t cut.0 first) (λ c is.
      any_map (λ r. r.0 ≡ ts) (λ c. c.0 ≡ t ∷ ts) _ (all_turns all k p (free - 1) s.1) (subst (λ x. AnyByRecursion (λ r. r.0 ≡ ts) (all_turns all k p (free - 1) x)) (sym cut.1) rest) (λ r same.
      same_cons c.0 t r.0 ts is same)))))

  has_place : (ps : List NodeIx) (k : ℕ) (p : NodeIx) → slice_get ps k ≡ Some p → AnyByRecursion (λ l. (l.0 ≡ k) × (l.1 ≡ p)) (places ps)
  unfolding places
  has_place [] k p g = absurd (cc)
  has_place (m ∷ ps) zero p g = let e : m ≡ p = cc in inl (refl, e)
  has_place (m ∷ ps) (suc k) p g = inr (any_map (λ l. (l.0 ≡ k) × (l.1 ≡ p)) (λ l. (l.0 ≡ suc k) × (l.1 ≡ p)) _ (places ps) (has_place ps k p g) (λ l h. (ap suc h.0, h.1)))

  has_token : (n : NodeIx) (us ws : Words) (e : node_at L n ≡ Some (node.Token us)) (t : ParseTree) → us ≡ ws → t ≡ tree.Token ws → (o : (us ≡ ws) ⊎ (us ≡ ws → ⊥)) → AnyByRecursion (IsTree n ws t) (token_of n us ws e o)
  unfolding token_of
  has_token n us ws e t h q (inl g) = inl (sym q)
  has_token n us ws e t h q (inr g) = absurd (g h)

  has_none : (n : NodeIx) (ws : Words) (t u : ParseTree) (d : ws ≡ [] → Derives L n ws t) → ws ≡ [] → u ≡ t → AnyByRecursion (IsTree n ws u) (none_of n ws t d)
  unfolding none_of
  has_none n [] t u d z q = inl (sym q)
  has_none n (w ∷ ws) t u d z q = absurd (cc)

  few_turns : (p : NodeIx) (free : ℕ) (ws : Words) (ts : List ParseTree) → DerivesTurns L p free ws ts → length ts ≤ free + length ws
  few_turns p free ws _ (no_turn z) = omega arith
  few_turns p zero ws _ (turn {ts = ts} u v z ok d ds) =
      let h = few_turns p 0 v ts ds in
      let some : 0 < length u = not_none u (ok refl) in
      omega (arith, ap length z, length-append u v)
    where
      not_none : (u : Words) → u ≢ [] → 0 < length u
      not_none [] ne = absurd (ne refl)
      not_none (w ∷ u) ne = omega arith
  few_turns p (suc free) ws _ (turn {ts = ts} u v z ok d ds) =
      let h = few_turns p (suc free - 1) v ts ds in omega (arith, ap length z, length-append u v)

  has_rep : (n : NodeIx) (ws : Words) (least : ℕ) (most : Option ℕ) (p : NodeIx) (e : node_at L n ≡ Some (node.Rep least most p)) (t : ParseTree) → (r : CoversTurns p least ws) → t ≡ tree.Rep r.0 →
      least ≤ length r.0 → IsAtMost most (length r.0) →
      (a : ((leb least (length r.0) ≡ true) × (least ≤ length r.0)) ⊎ ((leb least (length r.0) ≡ false) × (length r.0 < least))) (b : IsAtMost most (length r.0) ⊎ (IsAtMost most (length r.0) → ⊥)) →
      AnyByRecursion (IsTree n ws t) (rep_kept n ws least most p e r a b)
  unfolding rep_kept
  has_rep n ws least most p e t r q lo hi (inl a) (inl b) = inl (sym q)
  has_rep n ws least most p e t r q lo hi (inl a) (inr b) = absurd (b hi)
  has_rep n ws least most p e t r q lo hi (inr a) b = absurd (omega (arith, a.1))

  has_rule : (all : All) (h : ℕ) → Has all h → (n : NodeIx) (ws : Words) (t : ParseTree) (r : RuleIx) (e : node_at L n ≡ Some (node.Ref r)) (rule : LinkedRule) (u : ParseTree) → rule_at L r ≡ Some rule → t ≡ tree.Rule r u →
      (d : Derives L rule.body ws u) → height L rule.body ws u d ≤ h → (o : Option LinkedRule) (g : rule_at L r ≡ o) → AnyByRecursion (IsTree n ws t) (rule_of all n ws r e o g)
  unfolding rule_of
  has_rule all h has n ws t r e rule u g q d le None g' = absurd (cc)
  has_rule all h has n ws t r e rule u g q d le (Some rule') g' =
      let same : rule ≡ rule' = cc in
      any_map (IsTree rule'.body ws u) (IsTree n ws t) _ (all rule'.body ws) (subst (λ x. AnyByRecursion (IsTree x.body ws u) (all x.body ws)) same (has rule.body ws u d le)) (λ c is. ap (tree.Rule r) is ∙ sym q)

  module _ (all : All) (h : ℕ) (has : Has all h) (n : NodeIx) (ws : Words) (t : ParseTree) where
    abbrev Level : Option Node → Type 0
    Level o = (e : node_at L n ≡ o) → AnyByRecursion (IsTree n ws t) (level all n ws o e)

    has_level : (d : Derives L n ws t) → height L n ws t d ≤ suc h → Level (node_at L n)
    unfolding level
    has_level (by_token e q) le = subst Level (sym e) (λ e. has_token n ws ws e t refl q (same_words ws ws))
    has_level (by_seq ps ts e q d) le = subst Level (sym e) (λ e.
        any_map (λ r. r.0 ≡ ts) (IsTree n ws t) _ (all_each all ps ws) (has_each all h has ps ws ts d (omega arith)) (λ r is. ap tree.Seq is ∙ sym q))
    has_level (by_alt ps k p u e g q d) le = subst Level (sym e) (λ e.
        any_flat (λ l. (l.0 ≡ k) × (l.1 ≡ p)) (IsTree n ws t) _ (places ps) (has_place ps k p g) (λ l is.
        any_map (IsTree l.1 ws u) (IsTree n ws t) _ (all l.1 ws) (subst (λ x. AnyByRecursion (IsTree x ws u) (all x ws)) (sym is.1) (has p ws u d (omega arith))) (λ c same.
        ap (tree.Alt l.0) same ∙ ap (λ j. tree.Alt j u) is.0 ∙ sym q)))
    has_level (by_rep least most p ts e q lo hi d) le = subst Level (sym e) (λ e.
        any_flat (λ r. r.0 ≡ ts) (IsTree n ws t) _ (all_turns all (least + length ws) p least ws) (has_turns all h has (least + length ws) p least ws ts d (omega arith) (few_turns p least ws ts d)) (λ r is.
        has_rep n ws least most p e t r (q ∙ ap tree.Rep (sym is)) (subst (λ x. least ≤ length x) (sym is) lo) (subst (λ x. IsAtMost most (length x)) (sym is) hi) (leb_tells least (length r.0)) (within most (length r.0))))
    has_level (by_ref r rule u e g q d) le = subst Level (sym e) (λ e. has_rule all h has n ws t r e rule u g q d (omega arith) (rule_at L r) refl)
    has_level (by_tag tag e z q) le = subst Level (sym e) (λ e. has_none n ws (tree.Tag n) t (λ z. by_tag tag e z refl) z q)
    has_level (by_null e z q) le = subst Level (sym e) (λ e. has_none n ws tree.Null t (λ z. by_null e z refl) z q)
    has_level (by_garbage e q) le = subst Level (sym e) (λ e. inl (sym q))

  height_pos : (n : NodeIx) (ws : Words) (t : ParseTree) (d : Derives L n ws t) → 0 < height L n ws t d
  height_pos n ws t (by_token e q) = omega arith
  height_pos n ws t (by_seq ps ts e q d) = omega arith
  height_pos n ws t (by_alt ps k p u e g q d) = omega arith
  height_pos n ws t (by_rep least most p ts e q lo hi d) = omega arith
  height_pos n ws t (by_ref r rule u e g q d) = omega arith
  height_pos n ws t (by_tag tag e z q) = omega arith
  height_pos n ws t (by_null e z q) = omega arith
  height_pos n ws t (by_garbage e q) = omega arith

  pub has_trees : (h : ℕ) → Has (trees h) h
  unfolding trees
  has_trees zero n ws t d le = absurd (omega (arith, height_pos n ws t d))
  has_trees (suc h) n ws t d le = has_level (trees h) h (has_trees h) n ws t d le refl
