-- The tree that a walk finds is the first whose choices go on from the guide; so the first walk finds the first tree
-- (`is_first`), and each later one the next (`next_found`): the list of all trees in order (`SoFar.all`) is those that
-- were found and a rest, which comes from the guide on.
use Rattle.std.proofs.Common.{ℕ, ◌+◌, ◌≤◌, ◌≡◌, ◌⊎◌, inl, inr, List, [], ◌∷◌, ◌++◌, Some, None, length, take, refl, sym, ap, ◌∙◌, subst, ⊎_elim, arith, append_assoc, append-nil, length-append}
use Rattle.std.specs.declared.cmp.Ordering.TheVariants.{Less, Equal, Greater}
use Rattle.std.proofs.Math.Seq.{take-append_seam}
use Rattle.std.proofs.lemmas.List.{take_all}
use Rattle.std.proofs.lemmas.Cmp.{nat_list_cmp_total}
use Rattle.vg_base.specs.declared.numbers.NodeIx.{NodeIx}
use Rattle.grammar_tree.specs.declared.parse_tree.ParseTree.{ParseTree}
use Rattle.grammar_tree.specs.Links.{Rules, IsLinked}
use Rattle.grammar_tree.specs.Derives.{Words, Derives, HasTree}
use Rattle.grammar_tree.specs.Choices.{choices}
use Rattle.grammar_tree.specs.Firsts.{choice_cmp, First, Firsts, InOrder}
use Rattle.grammar_tree.specs.Alone.{NoSelfDerivation}
use Rattle.grammar_tree.proofs.Orders.{Differs, Differs-Less, Differs-Greater, same-Equal, Apart, less, same, greater, shorter, longer, apart}
use Rattle.grammar_tree.proofs.Orderly.{none_goes_on, equal_choices}
use Rattle.grammar_tree.proofs.Lists.{AnyByRecursion, any_right, any_left, any_if_contained, contained_if_any}
use Rattle.grammar_tree.proofs.SortedLists.{IsBefore, Sorted, sorted_head, is_after}
use Rattle.grammar_tree.proofs.Sorting.{firsts_exist}
use Rattle.parse_choice.specs.declared.guide.Trail.{Trail}
use Rattle.parse_choice.specs.code.Trails.{IsPrefix, IsFrom, IsFromFork, IsBehind, HasFork, Stands, guide_after}
use Rattle.parse_choice.specs.code.Walks.{AreChoices}
use Rattle.parse_choice.proofs.Forks.{differs_more, differs_trans, never_differs}

abbrev pub Member : List ParseTree → ParseTree → Type 0
Member xs x = AnyByRecursion (λ y. y ≡ x) xs

any_cut : (xs ys : List ParseTree) (x : ParseTree) → Member (xs ++ ys) x → Member xs x ⊎ Member ys x
any_cut [] ys x h = inr h
any_cut (y ∷ xs) ys x (inl e) = inl (inl e)
any_cut (y ∷ xs) ys x (inr h) = ⊎_elim (λ a. inl (inr a)) (λ b. inr b) (any_cut xs ys x h)

-- neither of two lists is before the other
never_both : (xs ys : List ℕ) → IsBefore xs ys → IsBefore ys xs → ⊥
never_both xs ys a b = let no : Equal ≡ Less = sym (same-Equal xs xs refl) ∙ nat_list_cmp_total.trans xs ys xs a b in cc

module _ (L : Rules) (n : NodeIx) (ws : Words) where
  abbrev key : ParseTree → List ℕ
  key = choices L n

  sorted_behind : (xs ys : List ParseTree) → Sorted key (xs ++ ys) → Sorted key ys
  sorted_behind [] ys s = s
  sorted_behind (x ∷ xs) ys s = sorted_behind xs ys (sorted_head key x (xs ++ ys) s).1

  sorted_before : (xs : List ParseTree) (y : ParseTree) (ys : List ParseTree) (x : ParseTree) → Sorted key (xs ++ y ∷ ys) → Member xs x → IsBefore (key x) (key y)
  sorted_before [] y ys x s h = absurd h
  sorted_before (z ∷ xs) y ys x s (inl e) =
      let first : IsBefore (key z) (key y) = is_after key z y (xs ++ y ∷ ys) (sorted_head key z (xs ++ y ∷ ys) s).0 (any_right (λ v. v ≡ y) xs (y ∷ ys) (inl refl)) in
      subst (λ v. IsBefore (key v) (key y)) e first
  sorted_before (z ∷ xs) y ys x s (inr h) = sorted_before xs y ys x (sorted_head key z (xs ++ y ∷ ys) s).1 h

  -- what comes first differs at a place
  less_differs : (t u : ParseTree) → Derives L n ws t → Derives L n ws u → IsBefore (key t) (key u) → Differs (key t) (key u)
  less_differs t u d e lt = at (apart (key t) (key u))
    where
      at : Apart (key t) (key u) → Differs (key t) (key u)
      at (less h) = h
      at (same h) = absurd (let no : Equal ≡ Less = sym (same-Equal (key t) (key u) h) ∙ lt in cc)
      at (greater h) = absurd (let no : Greater ≡ Less = sym (Differs-Greater (key t) (key u) h) ∙ lt in cc)
      at (shorter h) = absurd (h.1 (none_goes_on L n ws t u h.0 d e h.2))
      at (longer h) = absurd (h.1 (none_goes_on L n ws u t h.0 e d h.2))

  one_or_before : (t u : ParseTree) → Derives L n ws t → Derives L n ws u → IsFrom (key t) (key u) → (t ≡ u) ⊎ Differs (key t) (key u)
  one_or_before t u d e (inl p) =
      let none : p.0 ≡ [] = none_goes_on L n ws t u p.0 d e (sym p.1) in
      inl (equal_choices L n ws t u d e (sym (p.1 ∙ ap (λ xs. key t ++ xs) none ∙ append-nil (key t))))
  one_or_before t u d e (inr h) = inr h

  -- a tree that was found, by its choices
  pub record Found (guide : List ℕ) (t : ParseTree) (trail : Trail) : Type 0 where
    pub derives : Derives L n ws t
    pub choices : trail.log ≡ key t
    pub stands : Stands (AreChoices L n ws) guide trail

  module _ (guide : List ℕ) (t : ParseTree) (trail : Trail) (found : Found guide t trail) where
    on_guide : IsPrefix guide (key t)
    on_guide =
        let p = found.stands.possible in
        let u = p.1.0 in
        let goes : key t ++ p.3.0 ≡ key u = ap (λ xs. xs ++ p.3.0) (sym found.choices) ∙ sym p.3.1 ∙ p.1.2 in
        let none : p.3.0 ≡ [] = none_goes_on L n ws t u p.3.0 found.derives p.1.1 goes in
        let same : p.0 ≡ key t = p.3.1 ∙ ap (λ xs. trail.log ++ xs) none ∙ append-nil trail.log ∙ found.choices in
        (p.2.0, sym same ∙ p.2.1)

    -- of the trees whose choices go on from the guide it is the first
    least_of : (u : ParseTree) → Derives L n ws u → IsPrefix guide (key u) → (t ≡ u) ⊎ Differs (key t) (key u)
    least_of u e p = one_or_before t u found.derives e (subst (λ xs. IsFrom xs (key u)) found.choices (found.stands.least (key u) (u, e, refl) p))

    -- and of those that are from the guide on
    least_from : (u : ParseTree) → Derives L n ws u → IsFrom guide (key u) → (t ≡ u) ⊎ Differs (key t) (key u)
    least_from u e (inl p) = least_of u e p
    least_from u e (inr d) = inr (subst (λ xs. Differs xs (key u)) (sym on_guide.1) (differs_more guide on_guide.0 (key u) d))

  pub is_first : (t : ParseTree) (trail : Trail) → Found [] t trail → First L n ws t
  is_first t trail found = record {
    derives = found.derives;
    least = λ u d e. at u (least_of [] t trail found u d (key u, refl)) e;
  }
    where
      at : (u : ParseTree) → (t ≡ u) ⊎ Differs (key t) (key u) → choice_cmp (key t) (key u) ≡ Greater → ⊥
      at u (inl s) e = let no : Equal ≡ Greater = sym (same-Equal (key t) (key u) (ap key s)) ∙ e in cc
      at u (inr d) e = let no : Less ≡ Greater = sym (Differs-Less (key t) (key u) d) ∙ e in cc

  -- the trees found so far are the first of all, and the rest comes from the guide on
  pub record SoFar (ts : List ParseTree) (guide : List ℕ) : Type 0 where
    pub all : List ParseTree
    pub ordered : InOrder L n ws all
    pub rest : List ParseTree
    pub whole : all ≡ ts ++ rest
    pub before : (v : ParseTree) → Member ts v → Differs (key v) guide
    pub from : (v : ParseTree) → Member rest v → IsFrom guide (key v)

  pub none_so_far : IsLinked L → NoSelfDerivation L → SoFar [] []
  none_so_far linked alone =
      let f = firsts_exist L linked alone n ws 1 in
      record { all = f.1.0; ordered = f.1.1; rest = f.1.0; whole = refl; before = λ v h. absurd h; from = λ v h. inl (key v, refl) }

  -- no tree at all
  pub no_firsts : IsLinked L → NoSelfDerivation L → (k : ℕ) → (HasTree L n ws → ⊥) → Firsts L n ws k []
  no_firsts linked alone k none =
      let f = firsts_exist L linked alone n ws k in
      (f.1.0, f.1.1, sym (at f.1.0 f.1.1))
    where
      at : (all : List ParseTree) → InOrder L n ws all → take k all ≡ []
      at [] o = take_all k [] (omega arith)
      at (x ∷ all) o = absurd (none (x, (o.trees x).0 (contained_if_any (x ∷ all) x (inl refl))))

  module _ (guide : List ℕ) (t : ParseTree) (trail : Trail) (found : Found guide t trail) (ts : List ParseTree) (so : SoFar ts guide) where
    derived : (v : ParseTree) → Member (ts ++ so.rest) v → Derives L n ws v
    derived v h = (so.ordered.trees v).0 (contained_if_any so.all v (subst (λ xs. Member xs v) (sym so.whole) h))

    sorted : Sorted key (ts ++ so.rest)
    sorted = subst (λ xs. Sorted key xs) so.whole so.ordered.rising

    in_rest : Member so.rest t
    in_rest = ⊎_elim
        (λ h. (let p = on_guide guide t trail found in
        absurd (never_differs guide p.0 (subst (λ xs. Differs xs guide) p.1 (so.before t h)))))
        (λ h. h)
        (any_cut ts so.rest t (subst (λ xs. Member xs t) so.whole (any_if_contained so.all t ((so.ordered.trees t).1 found.derives))))

    -- the tree that was found, and what is left behind it
    record Rest : Type 0 where
      pub left : List ParseTree
      pub is : so.rest ≡ t ∷ left

    at_rest : (rest : List ParseTree) → so.rest ≡ rest → Rest
    at_rest [] e = absurd (subst (λ xs. Member xs t) e in_rest)
    at_rest (r ∷ rs) e =
        let here : Member so.rest r = subst (λ xs. Member xs r) (sym e) (inl refl) in
        let dr : Derives L n ws r = derived r (any_right (λ v. v ≡ r) ts so.rest here) in
        let order : Sorted key (r ∷ rs) = subst (λ xs. Sorted key xs) e (sorted_behind ts so.rest sorted) in
        let first : (t ≡ r) ⊎ Differs (key t) (key r) = least_from guide t trail found r dr (so.from r here) in
        let there : Member (r ∷ rs) t = subst (λ xs. Member xs t) e in_rest in
        let one : r ≡ t = same_one r rs order first there in
        record { left = rs; is = e ∙ ap (λ v. v ∷ rs) one }
      where
        same_one : (r : ParseTree) (rs : List ParseTree) → Sorted key (r ∷ rs) → (t ≡ r) ⊎ Differs (key t) (key r) → Member (r ∷ rs) t → r ≡ t
        same_one r rs order (inl s) there = sym s
        same_one r rs order (inr d) (inl s) = s
        same_one r rs order (inr d) (inr h) =
            absurd (never_both (key t) (key r) (Differs-Less (key t) (key r) d) (is_after key r t rs (sorted_head key r rs order).0 h))

    left_behind : Rest
    left_behind = at_rest so.rest refl

    whole_now : so.all ≡ (ts ++ t ∷ []) ++ left_behind.left
    whole_now = so.whole ∙ ap (λ xs. ts ++ xs) left_behind.is ∙ sym (append_assoc ts (t ∷ []) left_behind.left)

    sorted_now : Sorted key (ts ++ t ∷ left_behind.left)
    sorted_now = subst (λ xs. Sorted key (ts ++ xs)) left_behind.is sorted

    derived_left : (v : ParseTree) → Member left_behind.left v → Derives L n ws v
    derived_left v h = derived v (any_right (λ x. x ≡ v) ts so.rest (subst (λ xs. Member xs v) (sym left_behind.is) (inr h)))

    derived_found : (v : ParseTree) → Member ts v → Derives L n ws v
    derived_found v h = derived v (any_left (λ x. x ≡ v) ts so.rest h)

    -- each tree that is left is greater than the one found
    greater_left : (v : ParseTree) → Member left_behind.left v → IsFromFork (guide_after trail) (key v)
    greater_left v h =
        let order = sorted_head key t left_behind.left (sorted_behind ts (t ∷ left_behind.left) sorted_now) in
        let lt : IsBefore (key t) (key v) = is_after key t v left_behind.left order.0 h in
        let d = less_differs t v found.derives (derived_left v h) lt in
        found.stands.greater (key v) (v, derived_left v h, refl) (subst (λ xs. Differs xs (key v)) (sym found.choices) d)

    -- another tree can be found behind it
    pub next_found : (next : List ℕ) → guide_after trail ≡ Some next → SoFar (ts ++ t ∷ []) next
    next_found next e = record {
      all = so.all;
      ordered = so.ordered;
      rest = left_behind.left;
      whole = whole_now;
      before = λ v h. ⊎_elim
          (λ g. differs_trans (key v) (key t) next (less_differs v t (derived_found v g) found.derives (sorted_before ts t left_behind.left v sorted_now g)) ahead)
          (λ g. at v g)
          (any_cut ts (t ∷ []) v h);
      from = λ v h. subst (λ to. IsFromFork to (key v)) e (greater_left v h);
    }
      where
        ahead : Differs (key t) next
        ahead = subst (λ xs. Differs xs next) found.choices (subst (IsBehind trail.log) e found.stands.behind)

        at : (v : ParseTree) → Member (t ∷ []) v → Differs (key v) next
        at v (inl s) = subst (λ x. Differs (key x) next) s ahead
        at v (inr h) = absurd h

    pub can_follow : (next : List ℕ) → guide_after trail ≡ Some next → (more : List ℕ) × AreChoices L n ws (next ++ more)
    can_follow next e = subst (HasFork (AreChoices L n ws)) e found.stands.fork

    -- it is the last
    pub last_found : (k : ℕ) → guide_after trail ≡ None → length ts + 1 ≤ k → Firsts L n ws k (ts ++ t ∷ [])
    last_found k e le =
        let all : so.all ≡ ts ++ t ∷ [] = whole_now ∙ at left_behind.left (λ v h. subst (λ to. IsFromFork to (key v)) e (greater_left v h)) in
        (so.all, so.ordered, sym (take_all k so.all (omega (arith, ap length all, length-append ts (t ∷ []), le)) ∙ all))
      where
        at : (left : List ParseTree) → ((v : ParseTree) → Member left v → ⊥) → (ts ++ t ∷ []) ++ left ≡ ts ++ t ∷ []
        at [] none = append-nil (ts ++ t ∷ [])
        at (v ∷ left) none = absurd (none v (inl refl))

  -- so many were found
  pub enough_found : (ts : List ParseTree) (guide : List ℕ) (k : ℕ) → SoFar ts guide → length ts ≡ k → Firsts L n ws k ts
  enough_found ts guide k so e =
      (so.all, so.ordered, sym (ap (λ m. take m so.all) (sym e) ∙ ap (take (length ts)) so.whole ∙ take-append_seam ts so.rest))
