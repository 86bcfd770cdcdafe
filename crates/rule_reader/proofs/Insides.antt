-- What stands between the marks of a lexeme: it is something, and it is one text.
use Rattle.std.proofs.Common.{◌≡◌, ℕ, ◌+◌, ◌≤◌, List, [], ◌∷◌, ◌++◌, length, Option, refl, sym, ap, subst, ◌∙◌, arith}
use Rattle.vg_base.specs.Cut.{Piece}
use Rattle.vg_base.specs.Characters.{byte_len}
use Rattle.vg_base.proofs.Bytes.{byte_len-append, byte_len-cons, length-le-byte_len}
use Rattle.vg_base.proofs.Plain.{heads_same, tails_same}
use Rattle.abnf_lexer.specs.declared.lexemes.LexKind.{LexKind}
use Rattle.abnf_lexer.specs.declared.lexemes.PieceKind.TheVariants.{Lexeme}
use Rattle.abnf_lexer.specs.declared.lexemes.Spanned.{Spanned}
use Rattle.abnf_lexer.specs.Forms.{HasForm}
use Rattle.abnf_lexer.specs.Insides.{IsInside, HasNoInside}
use Rattle.abnf_lexer.specs.Lexing.{Shows}
use Rattle.abnf_lexer.proofs.InsideForms.{some_inside, one_inside}
use Rattle.rule_reader.specs.Leaves.{HasSlice, HasInside}

-- the characters there have the form of the kind
pub formed : (text : List ℕ) (span : Spanned) (slice : List ℕ) → HasSlice text span slice → (rest : List ℕ) × HasForm (Lexeme span.kind) slice rest
formed text span slice h =
    (h.1.rest, subst (λ k. HasForm (Lexeme k) slice h.1.rest) (sym h.1.kind) (subst (λ s. HasForm (Lexeme h.0.kind) s h.1.rest) (sym h.2) h.1.form))

pub has_inside : (text : List ℕ) (span : Spanned) (slice : List ℕ) → HasSlice text span slice → HasNoInside span.kind slice → ⊥
has_inside text span slice h none =
    let form = formed text span slice h in
    let i = some_inside span.kind slice form.0 form.1 in
    none i.0 i.1 i.2

-- ---- and no other

some_bytes : (c : ℕ) (cs : List ℕ) → byte_len (c ∷ cs) ≡ 0 → ⊥
some_bytes c cs e = omega (arith, length-le-byte_len (c ∷ cs))

-- fronts of as many bytes are one
same_front : (a b x y : List ℕ) → a ++ x ≡ b ++ y → byte_len a ≡ byte_len b → (a ≡ b) × (x ≡ y)
same_front [] [] x y e h = (refl, e)
same_front [] (d ∷ b) x y e h = absurd (some_bytes d b (sym h))
same_front (c ∷ a) [] x y e h = absurd (some_bytes c a h)
same_front (c ∷ a) (d ∷ b) x y e h =
    let head : c ≡ d = heads_same e in
    let on : byte_len (c ∷ a) ≡ byte_len (c ∷ b) = h ∙ ap (λ k. byte_len (k ∷ b)) (sym head) in
    let more = same_front a b x y (tails_same e) (omega (arith, byte_len-cons c a, byte_len-cons c b, on)) in
    ((λ i. head i ∷ more.0 i), more.1)

pub one_slice : (text : List ℕ) (span : Spanned) (these those : List ℕ) → HasSlice text span these → HasSlice text span those → these ≡ those
one_slice text span these those h k =
    let a = h.1 in
    let b = k.1 in
    let front = same_front a.front b.front (h.0.slice ++ a.rest) (k.0.slice ++ b.rest) (sym a.whole ∙ b.whole) (sym a.from ∙ b.from) in
    let from : byte_len a.front ≡ byte_len b.front = ap byte_len front.0 in
    let to : byte_len (a.front ++ h.0.slice) ≡ byte_len (b.front ++ k.0.slice) = sym a.to ∙ b.to in
    h.2 ∙ ((same_front h.0.slice k.0.slice a.rest b.rest front.1 (omega (arith, from, to, byte_len-append a.front h.0.slice, byte_len-append b.front k.0.slice))).0 ∙ sym k.2)

pub one_inside_at : (text : List ℕ) (span : Spanned) (these those : List ℕ) → HasInside text span these → HasInside text span those → these ≡ those
one_inside_at text span these those h k =
    (one_inside span.kind h.0 these those h.2.0 k.2.0 h.2.1 (subst (λ (s : List ℕ). IsInside span.kind those k.2.0 s) (sym (one_slice text span h.0 k.0 h.1 k.1)) k.2.1)).0
