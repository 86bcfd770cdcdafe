-- Layings one after another, and lists of them.
use Rattle.std.proofs.Common.{ℕ, ◌+◌, ◌≡◌, List, [], ◌∷◌, ◌++◌, length, sym, ap, subst, ◌∙◌, arith, append_assoc, length-append}
use Rattle.std.specs.Prelude.{slice_set}
use Rattle.std.specs.List.{AllByRecursion}
use Rattle.std.proofs.Math.Seq.{set-append_seam}
use Rattle.vg_base.specs.declared.numbers.NodeIx.{NodeIx}
use Rattle.grammar_tree.specs.declared.linked.Node.{Node}
use Rattle.linker.specs.declared.faults.Faults.{Faults}
use Rattle.linker.specs.declared.set_fault.SetFault.{SetFault}
use Rattle.linker.specs.Numbers.{Laid, starts, one_by_one}
use Rattle.linker.specs.code.Tellings.{Keeps}

-- ---- what is added in two steps

-- both steps together
pub added_both : {X : Type 0} (old : List X) {mid new : List X} (xs ys : List X) → mid ≡ old ++ xs → new ≡ mid ++ ys → new ≡ old ++ (xs ++ ys)
added_both old xs ys one other = other ∙ (ap (λ zs. zs ++ ys) one ∙ append_assoc old xs ys)

-- telling these faults
abbrev pub Tells : List SetFault → Faults → Faults → Type 0
Tells faults old new = (all : List SetFault) → Keeps all old → Keeps (all ++ faults) new

-- and so for faults
pub tells_both : {old mid new : Faults} (xs ys : List SetFault) → Tells xs old mid → Tells ys mid new → Tells (xs ++ ys) old new
tells_both {new = new} xs ys one other = λ all keeps. subst (λ faults. Keeps faults new) (append_assoc all xs ys) (other (all ++ xs) (one all keeps))

-- ---- numbers and nodes

-- the number behind these
abbrev pub behind : ℕ → List Laid → ℕ
behind n ones = n + length (one_by_one n ones)

-- it is the same behind the first of them
pub behind_first : (n : ℕ) (one : Laid) (ones : List Laid) → behind (n + length (one n)) ones ≡ behind n (one ∷ ones)
behind_first n one ones = omega (arith, length-append (one n) (one_by_one (n + length (one n)) ones))

-- the nodes of two rows are those of the one and then those of the other
nodes_join : (n : ℕ) (xs ys : List Laid) → one_by_one n (xs ++ ys) ≡ one_by_one n xs ++ one_by_one (behind n xs) ys
nodes_join n [] ys = let e : n ≡ n + 0 = omega arith in ap (λ k. one_by_one k ys) e
nodes_join n (one ∷ xs) ys =
    let next : ℕ = n + length (one n) in
    ap (λ nodes. one n ++ nodes) (nodes_join next xs ys ∙ ap (λ k. one_by_one next xs ++ one_by_one k ys) (behind_first n one xs))
    ∙ sym (append_assoc (one n) (one_by_one next xs) (one_by_one (behind n (one ∷ xs)) ys))

-- and so are their numbers
pub starts_join : (n : ℕ) (xs ys : List Laid) → starts n (xs ++ ys) ≡ starts n xs ++ starts (behind n xs) ys
starts_join n [] ys = let e : n ≡ n + 0 = omega arith in ap (λ k. starts k ys) e
starts_join n (one ∷ xs) ys =
    let first : NodeIx = record { 0 = n } in
    let next : ℕ = n + length (one n) in
    ap (λ numbers. first ∷ numbers) (starts_join next xs ys ∙ ap (λ k. starts next xs ++ starts k ys) (behind_first n one xs))

-- where nodes are added, the next number is the one behind them
pub next_behind : (old : List Node) {mid : List Node} (xs : List Laid) → mid ≡ old ++ one_by_one (length old) xs → length mid ≡ behind (length old) xs
next_behind old xs one = ap length one ∙ length-append old (one_by_one (length old) xs)

-- nodes that are added in two steps
pub nodes_both : (old : List Node) {mid new : List Node} (xs ys : List Laid) → mid ≡ old ++ one_by_one (length old) xs → new ≡ mid ++ one_by_one (length mid) ys → new ≡ old ++ one_by_one (length old) (xs ++ ys)
nodes_both old {mid = mid} xs ys one other =
    let n : ℕ = length old in
    added_both old (one_by_one n xs) (one_by_one (length mid) ys) one other
    ∙ ap (λ nodes. old ++ nodes) (ap (λ k. one_by_one n xs ++ one_by_one k ys) (next_behind old xs one) ∙ sym (nodes_join n xs ys))

-- a place is held, others are added, and the place is filled
pub filled : {X : Type 0} (before more : List X) (held x : X) → slice_set ((before ++ held ∷ []) ++ more) (length before) x ≡ before ++ x ∷ more
filled before more held x = ap (λ xs. slice_set xs (length before) x) (append_assoc before (held ∷ []) more) ∙ set-append_seam before held more x

-- ---- what holds of all

-- what holds of all of two rows holds of each
pub all_apart : {X : Type 0} (P : X → Type 0) (xs ys : List X) → AllByRecursion P (xs ++ ys) → AllByRecursion P xs × AllByRecursion P ys
all_apart P [] ys h = (tt, h)
all_apart P (x ∷ xs) ys h = let more = all_apart P xs ys h.1 in ((h.0, more.0), more.1)
