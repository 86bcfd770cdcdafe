-- What `strip_prefix` says, in the words of lists.
use Rattle.std.proofs.Common.{◌≡◌, ◌≢◌, ℕ, ◌+◌, true, false, List, ◌++◌, length, take, drop, refl, sym, ap, ◌∙◌, nat_eq, MatchOption, None, Some, Bor, take-append-drop}
use Rattle.std.specs.declared.option.Option.{Option}
use Rattle.std.specs.Cmp.Lexicographic.{pointwise}
use Rattle.std.proofs.lemmas.Bool.Decides.{Decides-eqb}
use Rattle.std.proofs.lemmas.Slice.Eq.{slice_eq-Decides}
use Rattle.std.proofs.Math.Seq.{take-append_seam}

pub stripped : (text front : List ℕ) (o : Option (Bor (List ℕ)))
    → MatchOption o (pointwise nat_eq (take (length front) text) front ≡ false)
    (λ x. (pointwise nat_eq (take (length front) text) front ≡ true)
    × (x.now ≡ drop (length front) text) × (length x.now + length front ≡ length text))
    → MatchOption o ((rest : List ℕ) → text ≢ front ++ rest) (λ x. text ≡ front ++ x.now)
stripped text front None fails = λ rest e.
    let same : take (length front) text ≡ front = ap (take (length front)) e
    ∙ take-append_seam front rest in
    let is = (slice_eq-Decides Decides-eqb (take (length front) text) front
    (pointwise nat_eq (take (length front) text) front) refl).1 same in
    cc
stripped text front (Some x) (is, rest, n) =
    let same = (slice_eq-Decides Decides-eqb (take (length front) text) front
    (pointwise nat_eq (take (length front) text) front) refl).0 is in
    sym (take-append-drop (length front) text) ∙ ap (λ l. l ++ drop (length front) text) same
    ∙ ap (λ l. front ++ l) (sym rest)
