-- How the search for empty nodes begins: node by node, those that need no other are left.
use Rattle.std.proofs.Common.{◌≡◌, ◌⊎◌, ⊎_elim, ℕ, ◌+◌, ◌<◌, ◌≤◌, ◌==◌, false, cond, List, [], ◌∷◌, ◌++◌, Some, length, get_or, replicate, refl, sym, ap, ◌∙◌, subst, arith, inl, inr}
use Rattle.std.specs.Prelude.{slice_get, count_by}
use Rattle.std.proofs.lemmas.Bool.{cases_eq, cases_lt, both_ways, eq-eqb, ne_eqb}
use Rattle.std.proofs.lemmas.List.{get_or_past, length-replicate, length_push, get_or_push, get_or_append_left}
use Rattle.std.proofs.lemmas.List.Sums.{sum_by-cons}
use Rattle.std.proofs.lemmas.Option.{slice_get_within}
use Rattle.vg_base.specs.declared.numbers.NodeIx.{NodeIx}
use Rattle.grammar_tree.specs.declared.linked.Node.{Node}
use Rattle.grammar_tree.specs.Links.{Rules}
use Rattle.self_derivation.specs.code.Marks.{bit, is_marked, times}
use Rattle.self_derivation.specs.code.Nodes.{below, needs}
use Rattle.self_derivation.specs.code.Search.{IsSearch}
use Rattle.self_derivation.proofs.Tallies.{times-append, times_if, unmarked}

-- so many nodes were looked at: those that need no other are left
pub record IsOpen (L : Rules) (upto : ℕ) (missing left : List ℕ) : Type 0 where
  pub sized : length missing ≡ upto
  pub staged : (n : ℕ) → times n left ≡ bit (get_or missing n 1 == 0)
  pub needed : (n : ℕ) (x : Node) → n < upto → slice_get L.nodes n ≡ Some x → get_or missing n 1 ≡ needs x

pub open_none : (L : Rules) → IsOpen L 0 [] []
open_none L = record { sized = refl; staged = λ n. refl; needed = λ n x lt at. absurd (omega arith) }

-- what a list says where one number was pushed
before_push : (ms : List ℕ) (v n k : ℕ) → length ms ≡ n → (k ≡ n → ⊥) → get_or (ms ++ v ∷ []) k 1 ≡ get_or ms k 1
before_push ms v n k sized other = ⊎_elim
    (λ lt. get_or_append_left ms (v ∷ []) 1 k lt)
    (λ le. ⊎_elim
    (λ e. absurd (other (e ∙ sized)))
    (λ far. get_or_past (ms ++ v ∷ []) k 1 (omega (arith, length_push ms v, far)) ∙ sym (get_or_past ms k 1 le))
    (past k (length ms) le))
    (cases_lt k (length ms))
  where
    past : (k n : ℕ) → n ≤ k → (k ≡ n) ⊎ (n + 1 ≤ k)
    past k n le = ⊎_elim (λ lt. inr (omega arith)) (λ ge. inl (omega arith)) (cases_lt n k)

module _ (L : Rules) (n : ℕ) (x : Node) (at : slice_get L.nodes n ≡ Some x) where
  pub open_next : {missing left left' : List ℕ} → IsOpen L n missing left → left' ≡ left ++ cond (needs x == 0) (n ∷ []) [] → IsOpen L (n + 1) (missing ++ needs x ∷ []) left'
  open_next {missing = missing} {left = left} {left' = left'} is more = record {
    sized = omega (arith, length_push missing (needs x), is.sized);
    staged = λ k. ⊎_elim
        (λ e. subst (λ j. times j left' ≡ bit (get_or (missing ++ needs x ∷ []) j 1 == 0)) (sym e)
        (omega (
          arith,
          counts n,
          is.staged n,
          ap (λ m. bit (m == 0)) (get_or_past missing n 1 (omega (arith, is.sized))),
          ap (λ b. cond b (bit (needs x == 0)) 0) (eq-eqb n n refl),
          ap (λ m. bit (m == 0)) last,
        )))
        (λ other. omega (
          arith,
          counts k,
          is.staged k,
          ap (λ b. cond b (bit (needs x == 0)) 0) (ne_eqb n k (λ e. other (sym e))),
          ap (λ m. bit (m == 0)) (before_push missing (needs x) n k is.sized other),
        )) (cases_eq k n);
    needed = λ k y lt there. ⊎_elim
        (λ e. let same : x ≡ y = cc (sym at ∙ ap (slice_get L.nodes) (sym e) ∙ there) in ap (λ j. get_or (missing ++ needs x ∷ []) j 1) e ∙ last ∙ ap needs same)
        (λ other. before_push missing (needs x) n k is.sized other ∙ is.needed k y (omega arith) there) (cases_eq k n);
  }
    where
      counts : (k : ℕ) → times k left' ≡ times k left + cond (n == k) (bit (needs x == 0)) 0
      counts k = ap (times k) more ∙ times-append k left (cond (needs x == 0) (n ∷ []) []) ∙ ap (λ m. times k left + m) (times_if (needs x == 0) k n)

      last : get_or (missing ++ needs x ∷ []) n 1 ≡ needs x
      last = get_or_push missing (needs x) 1 n is.sized

none_marked : (count : ℕ) (ps : List NodeIx) → count_by (λ p. is_marked (replicate count false) p.0) ps ≡ 0
none_marked count [] = refl
none_marked count (p ∷ ps) =
    omega (arith, sum_by-cons (λ q. bit (is_marked (replicate count false) q.0)) p ps, none_marked count ps, ap bit (unmarked count p.0))

pub open_all : (L : Rules) (missing left : List ℕ) → IsOpen L (length L.nodes) missing left →
    IsSearch L (record { missing = missing; told = replicate (length L.nodes) false; left = left })
open_all L missing left is = record {
  missing_sized = is.sized;
  told_sized = length-replicate (length L.nodes) false;
  staged = λ n. omega (arith, is.staged n, ap bit (unmarked (length L.nodes) n));
  missing = λ n x at. omega (arith, is.needed n x (slice_get_within L.nodes n x at) at, none_marked (length L.nodes) (below L x));
  sound = λ n told. absurd (both_ways (is_marked (replicate (length L.nodes) false) n) (unmarked (length L.nodes) n) told);
}
