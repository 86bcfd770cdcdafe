-- A text has lexemes, or a first fault, and one of them: since it is cut in one way.
use Rattle.std.proofs.Common.{◌≡◌, ℕ, ◌⊎◌, inl, inr, Bool, true, false, cond, Some, List, [], ◌∷◌, ◌++◌, is_gt, refl, sym, subst, ◌∙◌, arith}
use Rattle.std.specs.List.{filter_map}
use Rattle.std.specs.Cmp.{IsTotalOrder, nat_cmp_total, on_total, then_total}
use Rattle.std.specs.declared.cmp.Ordering.TheVariants.{Equal}
use Rattle.vg_base.specs.declared.doc_fault.DocFault.{DocFault}
use Rattle.vg_base.specs.Cut.{Piece, characters, placed}
use Rattle.vg_base.specs.Faults.{doc_fault_order, doc_kind_number}
use Rattle.vg_base.specs.First.{IsFirst}
use Rattle.vg_base.specs.Places.{Walked}
use Rattle.vg_base.proofs.Cutting.{one_cutting, some_cutting}
use Rattle.vg_base.proofs.Firsts.{one_first, first-one, first-append}
use Rattle.abnf_lexer.specs.declared.lexemes.LexKind.{LexKind}
use Rattle.abnf_lexer.specs.declared.lexemes.Spanned.{Spanned}
use Rattle.abnf_lexer.specs.Faults.{cutting_faults}
use Rattle.abnf_lexer.specs.Forms.{HasForm}
use Rattle.abnf_lexer.specs.Header.{header_faults, behind_header}
use Rattle.abnf_lexer.specs.Lexemes.{CutFrom, placed_pieces, end, spanned, spelled}
use Rattle.abnf_lexer.specs.Lexing.{AreLexemes, HasLexemes, IsFirstFault}
use Rattle.abnf_lexer.proofs.Cuttings.{one_begins, looks}
use Rattle.abnf_lexer.proofs.SameFault.{same_fault}

-- ---- one cutting

-- what is told of one cutting is told of every other
pub at_one : {A : Type 0} (start : Walked) (f : CutFrom start → A) → ((c d : CutFrom start) → c.pieces ≡ d.pieces → c.stop ≡ d.stop → f c ≡ f d) → (c d : CutFrom start) → f c ≡ f d
at_one start f same c d = let one = one_cutting HasForm one_begins start.rest c.pieces d.pieces c.stop d.stop c.is_cut d.is_cut in same c d one.0 one.1

pub one_faults : (text : List ℕ) (c d : CutFrom (behind_header text)) → cutting_faults text (placed_pieces c) (end c) ≡ cutting_faults text (placed_pieces d) (end d)
one_faults text = at_one (behind_header text) (λ c. cutting_faults text (placed_pieces c) (end c)) (λ c d ps stop. λ i. cutting_faults text (placed (behind_header text).passed (ps i) (stop i)) (record { passed = (behind_header text).passed ++ characters (ps i); rest = stop i }))

pub some_cut : (start : Walked) → CutFrom start
some_cut start = let c = some_cutting HasForm looks start.rest in record { pieces = c.pieces; stop = c.stop; is_cut = c.is_cut }

-- ---- one answer

pub one_list : (text : List ℕ) (found other : List Spanned) → AreLexemes text found → AreLexemes text other → found ≡ other
one_list text found other a b =
    a.lexemes ∙ (at_one (behind_header text) (λ c. filter_map spanned (placed_pieces c)) (λ c d ps stop. λ i. filter_map spanned (placed (behind_header text).passed (ps i) (stop i))) a.cut b.cut ∙ sym b.lexemes)

pub one_spelling : (text : List ℕ) (these those : List (Piece LexKind)) → HasLexemes text these → HasLexemes text those → these ≡ those
one_spelling text these those a b =
    a.spelled ∙ (at_one (behind_header text) (λ c. filter_map spelled (placed_pieces c)) (λ c d ps stop. λ i. filter_map spelled (placed (behind_header text).passed (ps i) (stop i))) a.cut b.cut ∙ sym b.spelled)

pub none_first : (fs : List DocFault) (fault : DocFault) → fs ≡ [] → IsFirst doc_fault_order fs (Some fault) → ⊥
none_first [] fault e h = let within = h.0.1 in absurd (omega arith)
none_first (f ∷ fs) fault e h = cc

pub no_both : (text : List ℕ) (found : List Spanned) (fault : DocFault) → AreLexemes text found → IsFirstFault text fault → ⊥
no_both text found fault a (inl h) = none_first (header_faults text) fault a.faultless.header h
no_both text found fault a (inr f) = none_first (cutting_faults text (placed_pieces f.cut) (end f.cut)) fault (one_faults text f.cut a.cut ∙ a.faultless.pieces) f.first

pub faults_total : IsTotalOrder doc_fault_order
faults_total = then_total (on_total (λ f. f.place) (then_total (on_total (λ p. p.line) nat_cmp_total) (on_total (λ p. p.column) nat_cmp_total))) (on_total (λ f. doc_kind_number f.kind) nat_cmp_total)

alike : (text : List ℕ) (f g : DocFault) → IsFirstFault text f → IsFirstFault text g → doc_fault_order f g ≡ Equal
alike text f g (inl h) (inl k) = one_first doc_fault_order faults_total (header_faults text) f g h k
alike text f g (inl h) (inr k) = absurd (none_first (header_faults text) f k.header h)
alike text f g (inr h) (inl k) = absurd (none_first (header_faults text) g h.header k)
alike text f g (inr h) (inr k) =
    one_first doc_fault_order faults_total (cutting_faults text (placed_pieces k.cut) (end k.cut)) f g (subst (λ (fs : List DocFault). IsFirst doc_fault_order fs (Some f)) (one_faults text h.cut k.cut) h.first) k.first

pub one_fault : (text : List ℕ) (f g : DocFault) → IsFirstFault text f → IsFirstFault text g → f ≡ g
one_fault text f g h k = same_fault f g (alike text f g h k)

-- ---- some answer

-- a list has a first, or is empty
abbrev HasFirst : List DocFault → Type 0
HasFirst fs = (fs ≡ []) ⊎ ((f : DocFault) × IsFirst doc_fault_order fs (Some f))

sooner_first : (fs : List DocFault) (f g : DocFault) (b : Bool) → IsFirst doc_fault_order fs (cond b (Some g) (Some f)) → (h : DocFault) × IsFirst doc_fault_order fs (Some h)
sooner_first fs f g true h = (g, h)
sooner_first fs f g false h = (f, h)

with_one : (f : DocFault) (fs : List DocFault) → HasFirst fs → HasFirst (f ∷ fs)
with_one f fs (inl e) = inr (f, subst (λ (l : List DocFault). IsFirst doc_fault_order (f ∷ l) (Some f)) (sym e) (first-one doc_fault_order faults_total f))
with_one f fs (inr h) =
    inr (sooner_first (f ∷ fs) f h.0 (is_gt (doc_fault_order f h.0)) (first-append doc_fault_order faults_total (f ∷ []) fs (Some f) (Some h.0) (first-one doc_fault_order faults_total f) h.1))

has_first : (fs : List DocFault) → HasFirst fs
has_first [] = inl refl
has_first (f ∷ fs) = with_one f fs (has_first fs)

abbrev pub HasAnswer : List ℕ → Type 0
HasAnswer text = ((found : List Spanned) × AreLexemes text found) ⊎ ((fault : DocFault) × IsFirstFault text fault)

by_cutting : (text : List ℕ) → header_faults text ≡ [] → (c : CutFrom (behind_header text)) → HasFirst (cutting_faults text (placed_pieces c) (end c)) → HasAnswer text
by_cutting text header c (inl e) = inl (filter_map spanned (placed_pieces c), record { cut = c; faultless = record { header = header; pieces = e }; lexemes = refl })
by_cutting text header c (inr h) = inr (h.0, inr (record { header = header; cut = c; first = h.1 }))

by_header : (text : List ℕ) → HasFirst (header_faults text) → HasAnswer text
by_header text (inl e) = let c = some_cut (behind_header text) in by_cutting text e c (has_first (cutting_faults text (placed_pieces c) (end c)))
by_header text (inr h) = inr (h.0, inl h.1)

pub some_answer : (text : List ℕ) → HasAnswer text
some_answer text = by_header text (has_first (header_faults text))
