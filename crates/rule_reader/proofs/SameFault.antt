-- Faults that stand alike in their order are one: their places and the numbers of their kinds agree.
use Rattle.std.proofs.Common.{◌≡◌, ℕ, List, [], ◌∷◌, get_or, refl, ap, ◌∙◌, sym, subst}
use Rattle.std.specs.declared.cmp.Ordering.{Ordering}
use Rattle.std.specs.declared.cmp.Ordering.TheVariants.{Less, Equal, Greater}
use Rattle.std.specs.FinMap.{IsAntisymmetric, nat_cmp-IsAntisymmetric}
use Rattle.std.specs.Ordering.{nat_cmp, ordering_then}
use Rattle.vg_base.specs.declared.doc_fault.DocKind.{DocKind}
use Rattle.vg_base.specs.declared.doc_fault.DocKind.TheVariants as doc
use Rattle.vg_base.specs.Faults.{doc_kind_number, doc_fault_order}
use Rattle.vg_base.specs.Places.{place_order}

-- what holds of the answer Equal alone
IsEqual : Ordering → Type 0
IsEqual Less = ⊥
IsEqual Equal = Unit {0}
IsEqual Greater = ⊥

both_equal : (r s : Ordering) → ordering_then r s ≡ Equal → (r ≡ Equal) × (s ≡ Equal)
unfolding IsEqual
both_equal Less s e = absurd (subst IsEqual (sym e) tt)
both_equal Equal s e = (refl, e)
both_equal Greater s e = absurd (subst IsEqual (sym e) tt)

-- the kinds in the order of their numbers, which begin with 1
kinds : List DocKind
kinds =
    doc.NoHeader ∷ doc.NoHeader ∷ doc.Version ∷ doc.Encoding ∷ doc.BadCharacter ∷ doc.Unclosed ∷ doc.Unexpected ∷ doc.DeclaredTwice
    ∷ doc.RuleTwice ∷ doc.Reserved ∷ doc.RepeatOrder ∷ doc.RepeatLarge ∷ doc.BadWeight ∷ doc.BadKey ∷ doc.BadUri ∷ doc.TagFormat
    ∷ doc.BadScript ∷ doc.RootMissing ∷ doc.Deep ∷ doc.Large ∷ []

kind_at : ℕ → DocKind
kind_at n = get_or kinds n doc.NoHeader

known : (k : DocKind) → kind_at (doc_kind_number k) ≡ k
unfolding kind_at kinds
known doc.NoHeader = refl
known _ = refl

one_kind : (k l : DocKind) → doc_kind_number k ≡ doc_kind_number l → k ≡ l
one_kind k l e = sym (known k) ∙ ap kind_at e ∙ known l

one_place : IsAntisymmetric place_order
one_place p q e =
    let h = both_equal (nat_cmp p.line q.line) (nat_cmp p.column q.column) e in
    ap (λ n. record { line = n; column = p.column }) (nat_cmp-IsAntisymmetric p.line q.line h.0)
    ∙ ap (λ n. record { line = q.line; column = n }) (nat_cmp-IsAntisymmetric p.column q.column h.1)

pub same_fault : IsAntisymmetric doc_fault_order
same_fault f g e =
    let h = both_equal (place_order f.place g.place) (nat_cmp (doc_kind_number f.kind) (doc_kind_number g.kind)) e in
    ap (λ p. record { place = p; kind = f.kind }) (one_place f.place g.place h.0)
    ∙ ap (λ k. record { place = g.place; kind = k }) (one_kind f.kind g.kind (nat_cmp-IsAntisymmetric (doc_kind_number f.kind) (doc_kind_number g.kind) h.1))
