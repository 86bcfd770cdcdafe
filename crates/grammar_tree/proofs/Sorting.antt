-- All trees of a node in the order of their choices; such a list is the only one.
use Rattle.std.proofs.Common.{ℕ, suc, ◌≡◌, ◌≢◌, ◌↔◌, List, [], ◌∷◌, length, map, take, refl, sym, ap, ◌∙◌, subst, inl, inr}
use Rattle.std.specs.List.Sorted.{IsStrictlySortedBy}
use Rattle.std.specs.declared.cmp.Ordering.{Ordering}
use Rattle.std.specs.declared.cmp.Ordering.TheVariants.{Less, Equal, Greater}
use Rattle.std.proofs.lemmas.Map.Lookups.{exact_bytes}
use Rattle.vg_base.specs.declared.numbers.NodeIx.{NodeIx}
use Rattle.grammar_tree.specs.declared.parse_tree.ParseTree.{ParseTree}
use Rattle.grammar_tree.specs.Links.{Rules, IsLinked}
use Rattle.grammar_tree.specs.Derives.{Words, Derives, HasTree}
use Rattle.grammar_tree.specs.Choices.{choices}
use Rattle.grammar_tree.specs.Firsts.{choice_cmp, First, InOrder}
use Rattle.grammar_tree.specs.Alone.{NoSelfDerivation}
use Rattle.grammar_tree.specs.Laws.{TreesAreFinitelyMany, FirstExists, FirstsAreUnique, FirstsExist, FirstIsFirstsOfOne, NoFirstsWithoutTree}
use Rattle.grammar_tree.proofs.Depth.{rank_of, height-le}
use Rattle.grammar_tree.proofs.Orderly.{equal_choices, turned}
use Rattle.grammar_tree.proofs.Lists.{AnyByRecursion, any_map, any_if_contained, contained_if_any}
use Rattle.grammar_tree.proofs.Listing.{IsTree, trees, has_trees}
use Rattle.grammar_tree.proofs.Orders.{same-Equal}
use Rattle.grammar_tree.proofs.Paths.{path_short}
use Rattle.grammar_tree.proofs.SortedLists.{IsBefore, AllAfter, after_chain, Sorted, sorted_head, sorted_more, sorted_none, is_after, one_sorted}

module _ (L : Rules) (n : NodeIx) (ws : Words) where
  abbrev Tree : Type 0
  Tree = HasTree L n ws

  abbrev key : Tree → List ℕ
  key c = choices L n c.0

  place : Ordering → Tree → Tree → List Tree → List Tree → List Tree
  place Less c d ds more = c ∷ (d ∷ ds)
  place Equal c d ds more = d ∷ ds
  place Greater c d ds more = d ∷ more

  insert : Tree → List Tree → List Tree
  insert c [] = c ∷ []
  insert c (d ∷ ds) = place (choice_cmp (key c) (key d)) c d ds (insert c ds)

  sorted : List Tree → List Tree
  sorted [] = []
  sorted (c ∷ cs) = insert c (sorted cs)

  -- what comes before the tree and the list comes before the tree in the list
  all_after : (xs : List ℕ) (c : Tree) (ds : List Tree) → IsBefore xs (key c) → AllAfter xs (map key ds) → AllAfter xs (map key (insert c ds))
  unfolding insert place
  all_after xs c [] b all = (b, tt)
  all_after xs c (d ∷ ds) b all = at (choice_cmp (key c) (key d)) (all_after xs c ds b all.1)
    where
      at : (o : Ordering) → AllAfter xs (map key (insert c ds)) → AllAfter xs (map key (place o c d ds (insert c ds)))
      at Less more = (b, all)
      at Equal more = all
      at Greater more = (all.0, more)

  insert_sorted : (c : Tree) (ds : List Tree) → Sorted key ds → Sorted key (insert c ds)
  unfolding insert place
  insert_sorted c [] s = sorted_more key c [] tt (sorted_none key)
  insert_sorted c (d ∷ ds) s = at (choice_cmp (key c) (key d)) refl (insert_sorted c ds h.1)
    where
      h : AllAfter (key d) (map key ds) × Sorted key ds
      h = sorted_head key d ds s

      at : (o : Ordering) → choice_cmp (key c) (key d) ≡ o → Sorted key (insert c ds) → Sorted key (place o c d ds (insert c ds))
      at Less e more = sorted_more key c (d ∷ ds) (e, after_chain (key c) (key d) (map key ds) e h.0) s
      at Equal e more = s
      at Greater e more = sorted_more key d (insert c ds) (all_after (key d) c ds (turned (key c) (key d) Greater e) h.0) more

  has_insert : (c : Tree) (ds : List Tree) (t : ParseTree) → AnyByRecursion (IsTree L n ws t) (c ∷ ds) → AnyByRecursion (IsTree L n ws t) (insert c ds)
  unfolding insert place
  has_insert c [] t h = h
  has_insert c (d ∷ ds) t h = at (choice_cmp (key c) (key d)) refl h (has_insert c ds t)
    where
      at : (o : Ordering) → choice_cmp (key c) (key d) ≡ o → AnyByRecursion (IsTree L n ws t) (c ∷ (d ∷ ds)) → (AnyByRecursion (IsTree L n ws t) (c ∷ ds) → AnyByRecursion (IsTree L n ws t) (insert c ds)) →
          AnyByRecursion (IsTree L n ws t) (place o c d ds (insert c ds))
      at Less e h more = h
      at Equal e (inl same) more = inl (sym (equal_choices L n ws c.0 d.0 c.1 d.1 (exact_bytes _ _ e)) ∙ same)
      at Equal e (inr h) more = h
      at Greater e (inl same) more = inr (more (inl same))
      at Greater e (inr (inl same)) more = inl same
      at Greater e (inr (inr h)) more = inr (more (inr h))

  sorted_sorted : (cs : List Tree) → Sorted key (sorted cs)
  unfolding sorted
  sorted_sorted [] = sorted_none key
  sorted_sorted (c ∷ cs) = insert_sorted c (sorted cs) (sorted_sorted cs)

  has_sorted : (cs : List Tree) (t : ParseTree) → AnyByRecursion (IsTree L n ws t) cs → AnyByRecursion (IsTree L n ws t) (sorted cs)
  unfolding sorted
  has_sorted [] t h = h
  has_sorted (c ∷ cs) t (inl e) = has_insert c (sorted cs) t (inl e)
  has_sorted (c ∷ cs) t (inr h) = has_insert c (sorted cs) t (inr (has_sorted cs t h))

  abbrev trees_of : List Tree → List ParseTree
  trees_of cs = map (λ c. c.0) cs

  derives_in : (cs : List Tree) (t : ParseTree) → AnyByRecursion (λ u. u ≡ t) (trees_of cs) → Derives L n ws t
  derives_in [] t h = absurd h
  derives_in (c ∷ cs) t (inl e) = subst (Derives L n ws) e c.1
  derives_in (c ∷ cs) t (inr h) = derives_in cs t h

  keys_of : (cs : List Tree) → map (choices L n) (trees_of cs) ≡ map key cs
  keys_of [] = refl
  keys_of (c ∷ cs) = ap (λ xss. choices L n c.0 ∷ xss) (keys_of cs)

  in_order : (cs : List Tree) → ((t : ParseTree) → Derives L n ws t → AnyByRecursion (IsTree L n ws t) cs) → InOrder L n ws (trees_of (sorted cs))
  in_order cs all = record {
    trees = λ t. (
      λ h. derives_in (sorted cs) t (any_if_contained (trees_of (sorted cs)) t h),
      λ d. contained_if_any (trees_of (sorted cs)) t (any_map (IsTree L n ws t) (λ u. u ≡ t) _ (sorted cs) (has_sorted cs t (all t d)) (λ c is. is)),
    );
    rising = subst (IsStrictlySortedBy choice_cmp) (sym (keys_of (sorted cs))) (sorted_sorted cs);
  }

  -- ---- the head of the list is the first tree

  pub head_first : (u : ParseTree) (us : List ParseTree) → InOrder L n ws (u ∷ us) → First L n ws u
  head_first u us o = record { derives = (o.trees u).0 (contained_if_any (u ∷ us) u (inl refl)); least = λ v d. at v (any_if_contained (u ∷ us) v ((o.trees v).1 d)) }
    where
      at : (v : ParseTree) → AnyByRecursion (λ t. t ≡ v) (u ∷ us) → choice_cmp (choices L n u) (choices L n v) ≢ Greater
      at v (inl e) g = let q : Equal ≡ Greater = sym (same-Equal (choices L n u) (choices L n v) (ap (choices L n) e)) ∙ g in cc
      at v (inr h) g = let q : Less ≡ Greater = sym (is_after (choices L n) u v us (sorted_head (choices L n) u us o.rising).0 h) ∙ g in cc

  first_is_head : (u : ParseTree) (us : List ParseTree) → InOrder L n ws (u ∷ us) → (t : ParseTree) → First L n ws t → u ≡ t
  first_is_head u us o t f = at (any_if_contained (u ∷ us) t ((o.trees t).1 f.derives))
    where
      at : AnyByRecursion (λ v. v ≡ t) (u ∷ us) → u ≡ t
      at (inl e) = e
      at (inr h) =
          absurd (f.least u ((o.trees u).0 (contained_if_any (u ∷ us) u (inl refl)))
          (turned (choices L n u) (choices L n t) Less (is_after (choices L n) u t us (sorted_head (choices L n) u us o.rising).0 h)))

-- ---- what follows of first trees

module _ (L : Rules) (linked : IsLinked L) (acyclic : NoSelfDerivation L) (n : NodeIx) (ws : Words) where
  -- where no rule derives itself, trees are no higher than this
  abbrev highest : ℕ
  highest = suc (rank_of L linked acyclic n (length ws) (length L.rules))

  all_trees : List (HasTree L n ws)
  all_trees = trees L highest n ws

  has_all : (t : ParseTree) → Derives L n ws t → AnyByRecursion (IsTree L n ws t) all_trees
  unfolding all_trees
  has_all t d = has_trees L highest n ws t d (height-le L linked acyclic n ws t d (length L.rules) (path_short L acyclic n))

  each_in_order : InOrder L n ws (trees_of L n ws (sorted L n ws all_trees))
  each_in_order = in_order L n ws all_trees has_all

pub finitely_many : TreesAreFinitelyMany
finitely_many L linked acyclic n ws = let o = each_in_order L linked acyclic n ws in (_, λ t d. (o.trees t).1 d)

pub firsts_exist : FirstsExist
firsts_exist L linked acyclic n ws k = let o = each_in_order L linked acyclic n ws in (_, (_, o, refl))

pub first_exists : FirstExists
first_exists L linked acyclic n ws c = at _ (each_in_order L linked acyclic n ws)
  where
    at : (ts : List ParseTree) → InOrder L n ws ts → (t : ParseTree) × First L n ws t
    at [] o = absurd (any_if_contained [] c.0 ((o.trees c.0).1 c.1))
    at (t ∷ ts) o = (t, head_first L n ws t ts o)

pub firsts_unique : FirstsAreUnique
firsts_unique L n ws k ts us a b = a.2 ∙ ap (take k) (one_sorted (choices L n) a.0 b.0 a.1.rising b.1.rising (among a.0 b.0 a.1 b.1) (among b.0 a.0 b.1 a.1)) ∙ sym b.2
  where
    among : (ts us : List ParseTree) → InOrder L n ws ts → InOrder L n ws us → (t : ParseTree) → AnyByRecursion (λ u. u ≡ t) ts → AnyByRecursion (λ u. u ≡ t) us
    among ts us o q t h = any_if_contained us t ((q.trees t).1 ((o.trees t).0 (contained_if_any ts t h)))

pub first_of_one : FirstIsFirstsOfOne
first_of_one L n ws ts f t = at f.0 f.1 f.2
  where
    at : (all : List ParseTree) → InOrder L n ws all → ts ≡ take 1 all → First L n ws t ↔ (ts ≡ t ∷ [])
    at [] o e = (λ first. absurd (any_if_contained [] t ((o.trees t).1 first.derives)), λ h. let q : [] ≡ t ∷ [] = sym e ∙ h in cc)
    at (u ∷ us) o e = (
      λ first. e ∙ ap (λ v. v ∷ []) (first_is_head L n ws u us o t first),
      λ h. let q : u ≡ t = cc (sym e ∙ h) in subst (First L n ws) q (head_first L n ws u us o),
    )

pub none_without_tree : NoFirstsWithoutTree
none_without_tree L n ws k ts f = at f.0 f.1 f.2
  where
    at : (all : List ParseTree) → InOrder L n ws all → ts ≡ take (suc k) all → (ts ≡ []) ↔ (HasTree L n ws → ⊥)
    at [] o e = (λ h c. any_if_contained [] c.0 ((o.trees c.0).1 c.1), λ none. e)
    at (u ∷ us) o e = (λ h c. let q : u ∷ take k us ≡ [] = sym e ∙ h in cc, λ none. absurd (none (u, (o.trees u).0 (contained_if_any (u ∷ us) u (inl refl)))))
