-- The inside of a lexeme: what is found is the inside (`inside_is`), each inside is found (`inside_read`), and each lexeme has one (`some_inside`).
use Rattle.std.proofs.Common.{◌≡◌, ℕ, ◌<◌, Bool, true, false, cond, ◌==◌, inl, inr, Option, Some, None, List, [], ◌∷◌, ◌++◌, length, codes, nat_eq, refl, sym, ap, subst, ◌∙◌, arith, append_assoc}
use Rattle.std.specs.List.{starts_with}
use Rattle.std.proofs.lemmas.Bool.{eqb-true, both_ways}
use Rattle.std.proofs.lemmas.Bool.Decides.{nat_tests}
use Rattle.std.proofs.lemmas.List.{append-nil}
use Rattle.std.proofs.lemmas.Option.{none-some, same_Some}
use Rattle.vg_base.specs.Runs.{IsEnclosed}
use Rattle.vg_base.proofs.Closings.{so_begins}
use Rattle.abnf_lexer.specs.declared.lexemes.LexKind.{LexKind}
use Rattle.abnf_lexer.specs.declared.lexemes.LexKind.TheVariants as lex
use Rattle.abnf_lexer.specs.declared.lexemes.PieceKind.TheVariants.{Lexeme}
use Rattle.abnf_lexer.specs.Classes.{is_empty}
use Rattle.abnf_lexer.specs.Forms.{IsMedia, IsAngled, HasForm}
use Rattle.abnf_lexer.specs.Insides.{IsBetween, MediaIs, IsInAngles, IsInTag, IsInside}
use Rattle.abnf_lexer.specs.code.Insides.{Found, plain, alone, behind_mark, media_in, with_media, angled, in_tag, inside}
use Rattle.abnf_lexer.specs.code.Repeats.{Parted, between}
use Rattle.abnf_lexer.proofs.Parting.{between_of, between_found}

empty_is : (xs : List ℕ) → is_empty xs ≡ true → xs ≡ []
empty_is [] e = refl
empty_is (x ∷ xs) e = absurd (both_ways _ refl e)

-- ---- what is found

module _ (slice : List ℕ) (f : Found) (P : Found → Type 0) where
  alone_of : (opening close : List ℕ) → ((i : List ℕ) → IsBetween opening close i [] slice → P (plain i)) → alone (between opening close slice) ≡ Some f → P f
  alone_of opening close make e = by_parts (between opening close slice) refl e
    where
      by_behind : (p : Parted) → between opening close slice ≡ Some p → (b : Bool) → is_empty p.behind ≡ b → cond b (Some (plain p.inside)) None ≡ Some f → P f
      by_behind p h false q k = absurd (none-some f k)
      by_behind p h true q k =
          let s = between_of opening close slice p h in
          subst P (same_Some (plain p.inside) f k) (make p.inside (record { whole = s.whole ∙ ap (λ (l : List ℕ). opening ++ (p.inside ++ (close ++ l))) (empty_is p.behind q); first = s.first }))

      by_parts : (o : Option Parted) → between opening close slice ≡ o → alone o ≡ Some f → P f
      by_parts None h k = absurd (none-some f k)
      by_parts (Some p) h k = by_behind p h (is_empty p.behind) refl k

  plain_of : P (plain slice) → Some (plain slice) ≡ Some f → P f
  plain_of h e = subst P (same_Some (plain slice) f e) h

mark_of : (mark : ℕ) (slice : List ℕ) (f : Found) (P : Found → Type 0) → ((i : List ℕ) → slice ≡ mark ∷ i → P (plain i)) → behind_mark mark slice ≡ Some f → P f
mark_of mark [] f P make e = absurd (none-some f e)
mark_of mark (c ∷ cs) f P make e = by_mark (c == mark) refl e
  where
    by_mark : (b : Bool) → (c == mark) ≡ b → cond b (Some (plain cs)) None ≡ Some f → P f
    by_mark false q k = absurd (none-some f k)
    by_mark true q k = subst P (same_Some (plain cs) f k) (make cs (ap (λ d. d ∷ cs) (eqb-true c mark q)))

angled_of : (opening slice : List ℕ) (f : Found) → angled (between opening (codes ">") slice) ≡ Some f → IsInAngles opening f.characters f.media slice
angled_of opening slice f e = by_parts (between opening (codes ">") slice) refl e
  where
    with_none : (p : Parted) → between opening (codes ">") slice ≡ Some p → p.behind ≡ [] → Some (plain p.inside) ≡ Some f → IsInAngles opening f.characters f.media slice
    with_none p h q k =
        let s = between_of opening (codes ">") slice p h in
        subst (λ (g : Found). IsInAngles opening g.characters g.media slice) (same_Some (plain p.inside) f k) (record { behind = p.behind; between = record { whole = s.whole; first = s.first }; has_media = q })

    with_one : (p m : Parted) → between opening (codes ">") slice ≡ Some p → between (codes "~<") (codes ">") p.behind ≡ Some m → (b : Bool) → is_empty m.behind ≡ b
        → cond b (Some (record { characters = p.inside; media = Some m.inside })) None ≡ Some f → IsInAngles opening f.characters f.media slice
    with_one p m h j false q k = absurd (none-some f k)
    with_one p m h j true q k =
        let s = between_of opening (codes ">") slice p h in
        let t = between_of (codes "~<") (codes ">") p.behind m j in
        let found : Found = record { characters = p.inside; media = Some m.inside } in
        subst (λ (g : Found). IsInAngles opening g.characters g.media slice) (same_Some found f k)
        (record { behind = p.behind; between = record { whole = s.whole; first = s.first }; has_media = record { whole = t.whole ∙ ap (λ (l : List ℕ). codes "~<" ++ (m.inside ++ (codes ">" ++ l))) (empty_is m.behind q); first = t.first } })

    by_media : (p : Parted) → between opening (codes ">") slice ≡ Some p → (o : Option Parted) → between (codes "~<") (codes ">") p.behind ≡ o → media_in p.inside o ≡ Some f → IsInAngles opening f.characters f.media slice
    by_media p h None j k = absurd (none-some f k)
    by_media p h (Some m) j k = with_one p m h j (is_empty m.behind) refl k

    by_behind : (p : Parted) → between opening (codes ">") slice ≡ Some p → (b : Bool) → is_empty p.behind ≡ b
        → cond b (Some (plain p.inside)) (media_in p.inside (between (codes "~<") (codes ">") p.behind)) ≡ Some f → IsInAngles opening f.characters f.media slice
    by_behind p h true q k = with_none p h (empty_is p.behind q) k
    by_behind p h false q k = by_media p h (between (codes "~<") (codes ">") p.behind) refl k

    by_parts : (o : Option Parted) → between opening (codes ">") slice ≡ o → angled o ≡ Some f → IsInAngles opening f.characters f.media slice
    by_parts None h k = absurd (none-some f k)
    by_parts (Some p) h k = by_behind p h (is_empty p.behind) refl k

tag_of : (slice : List ℕ) (f : Found) → in_tag slice ≡ Some f → IsInside lex.Tag f.characters f.media slice
tag_of slice f e = by_opening (starts_with nat_eq slice (codes "{!{")) refl e
  where
    by_opening : (b : Bool) → starts_with nat_eq slice (codes "{!{") ≡ b → cond b (alone (between (codes "{!{") (codes "}!}") slice)) (alone (between (codes "{") (codes "}") slice)) ≡ Some f → IsInside lex.Tag f.characters f.media slice
    by_opening true q k = alone_of slice f (λ (g : Found). IsInside lex.Tag g.characters g.media slice) (codes "{!{") (codes "}!}") (λ i h. inl h) k
    by_opening false q k = alone_of slice f (λ (g : Found). IsInside lex.Tag g.characters g.media slice) (codes "{") (codes "}") (λ i h. inr (h, q)) k

pub inside_is : (kind : LexKind) (slice : List ℕ) (f : Found) → inside kind slice ≡ Some f → IsInside kind f.characters f.media slice
inside_is lex.Bare slice f e = plain_of slice f (λ (g : Found). IsInside lex.Bare g.characters g.media slice) refl e
inside_is lex.Quoted slice f e = alone_of slice f (λ (g : Found). IsInside lex.Quoted g.characters g.media slice) (codes "\"") (codes "\"") (λ i h. h) e
inside_is lex.Name slice f e = mark_of 36 slice f (λ (g : Found). IsInside lex.Name g.characters g.media slice) (λ i h. h) e
inside_is lex.UriRef slice f e = angled_of (codes "$<") slice f e
inside_is lex.Angle slice f e = angled_of (codes "<") slice f e
inside_is lex.Weight slice f e = alone_of slice f (λ (g : Found). IsInside lex.Weight g.characters g.media slice) (codes "/") (codes "/") (λ i h. h) e
inside_is lex.Language slice f e = mark_of 33 slice f (λ (g : Found). IsInside lex.Language g.characters g.media slice) (λ i h. h) e
inside_is lex.Tag slice f e = tag_of slice f e
inside_is lex.Sign slice f e = plain_of slice f (λ (g : Found). IsInside lex.Sign g.characters g.media slice) refl e

-- ---- and is found

alone_read : (opening close i slice : List ℕ) → 0 < length close → IsBetween opening close i [] slice → alone (between opening close slice) ≡ Some (plain i)
alone_read opening close i slice some h = ap alone (between_found opening close slice (record { inside = i; behind = [] }) some (record { whole = h.whole; first = h.first }))

plain_same : (i slice : List ℕ) → slice ≡ i → Some (plain slice) ≡ Some (plain i)
plain_same i slice e = ap (λ (l : List ℕ). Some (plain l)) e

mark_read : (mark : ℕ) (i slice : List ℕ) → slice ≡ mark ∷ i → behind_mark mark slice ≡ Some (plain i)
mark_read mark i slice e = ap (behind_mark mark) e ∙ ap (λ b. cond b (Some (plain i)) None) (same_mark mark)
  where
    same_mark : (c : ℕ) → (c == c) ≡ true
    same_mark c = grind (arith, nat_tests)

media_read : (i behind : List ℕ) (media : Option (List ℕ)) → MediaIs media behind → with_media i behind ≡ Some (record { characters = i; media = media })
media_read i behind None h = ap (with_media i) h
media_read i behind (Some m) h =
    let found : between (codes "~<") (codes ">") behind ≡ Some (record { inside = m; behind = [] }) = between_found (codes "~<") (codes ">") behind (record { inside = m; behind = [] }) (omega arith) (record { whole = h.whole; first = h.first }) in
    ap (λ b. cond b (Some (plain i)) (media_in i (between (codes "~<") (codes ">") behind))) (ap is_empty h.whole) ∙ ap (media_in i) found

angled_read : (opening i slice : List ℕ) (media : Option (List ℕ)) → IsInAngles opening i media slice → angled (between opening (codes ">") slice) ≡ Some (record { characters = i; media = media })
angled_read opening i slice media h =
    ap angled (between_found opening (codes ">") slice (record { inside = i; behind = h.behind }) (omega arith) (record { whole = h.between.whole; first = h.between.first })) ∙ media_read i h.behind media h.has_media

tag_read : (i slice : List ℕ) → IsInTag i slice → in_tag slice ≡ Some (plain i)
tag_read i slice (inl h) =
    ap (λ b. cond b (alone (between (codes "{!{") (codes "}!}") slice)) (alone (between (codes "{") (codes "}") slice))) (so_begins slice (codes "{!{") (i ++ codes "}!}") h.whole) ∙ alone_read (codes "{!{") (codes "}!}") i slice (omega arith) h
tag_read i slice (inr h) =
    ap (λ b. cond b (alone (between (codes "{!{") (codes "}!}") slice)) (alone (between (codes "{") (codes "}") slice))) h.1 ∙ alone_read (codes "{") (codes "}") i slice (omega arith) h.0

pub inside_read : (kind : LexKind) (i : List ℕ) (media : Option (List ℕ)) (slice : List ℕ) → IsInside kind i media slice → inside kind slice ≡ Some (record { characters = i; media = media })
inside_read lex.Bare i None slice h = plain_same i slice h
inside_read lex.Quoted i None slice h = alone_read (codes "\"") (codes "\"") i slice (omega arith) h
inside_read lex.Name i None slice h = mark_read 36 i slice h
inside_read lex.UriRef i media slice h = angled_read (codes "$<") i slice media h
inside_read lex.Angle i media slice h = angled_read (codes "<") i slice media h
inside_read lex.Weight i None slice h = alone_read (codes "/") (codes "/") i slice (omega arith) h
inside_read lex.Language i None slice h = mark_read 33 i slice h
inside_read lex.Tag i None slice h = tag_read i slice h
inside_read lex.Sign i None slice h = plain_same i slice h
inside_read lex.Bare i (Some m) slice h = absurd h
inside_read lex.Quoted i (Some m) slice h = absurd h
inside_read lex.Name i (Some m) slice h = absurd h
inside_read lex.Weight i (Some m) slice h = absurd h
inside_read lex.Language i (Some m) slice h = absurd h
inside_read lex.Tag i (Some m) slice h = absurd h
inside_read lex.Sign i (Some m) slice h = absurd h

-- ---- each lexeme has an inside

enclosed_between : (opening close slice : List ℕ) (h : IsEnclosed opening close slice) → IsBetween opening close h.inside [] slice
enclosed_between opening close slice h = record { whole = h.whole ∙ ap (λ (l : List ℕ). opening ++ (h.inside ++ l)) (sym (append-nil close)); first = h.first }

media_of : (media rest : List ℕ) → IsMedia media rest → (m : Option (List ℕ)) × MediaIs m media
media_of media rest (inl h) = (Some h.inside, enclosed_between (codes "~<") (codes ">") media h)
media_of media rest (inr h) = (None, h.0)

angle_inside : (opening slice rest : List ℕ) (h : IsAngled opening slice rest) → (m : Option (List ℕ)) × IsInAngles opening h.enclosed.inside m slice
angle_inside opening slice rest h =
    let m = media_of h.media rest h.has_media in (
      m.0,
      record {
        behind = h.media;
        between = record { whole = h.whole ∙ (ap (λ (l : List ℕ). l ++ h.media) h.enclosed.whole ∙ (append_assoc opening (h.enclosed.inside ++ codes ">") h.media ∙ ap (λ (l : List ℕ). opening ++ l) (append_assoc h.enclosed.inside (codes ">") h.media))); first = h.enclosed.first };
        has_media = m.1;
      },
    )

pub some_inside : (kind : LexKind) (slice rest : List ℕ) → HasForm (Lexeme kind) slice rest → (i : List ℕ) × (media : Option (List ℕ)) × IsInside kind i media slice
some_inside lex.Bare slice rest h = (slice, None, refl)
some_inside lex.Quoted slice rest h = (h.inside, None, enclosed_between (codes "\"") (codes "\"") slice h)
some_inside lex.Name slice rest h = (h.first ∷ h.others, None, h.whole)
some_inside lex.UriRef slice rest h = let a = angle_inside (codes "$<") slice rest h in (h.enclosed.inside, a.0, a.1)
some_inside lex.Angle slice rest h = let a = angle_inside (codes "<") slice rest h in (h.enclosed.inside, a.0, a.1)
some_inside lex.Weight slice rest h = (h.enclosed.inside, None, enclosed_between (codes "/") (codes "/") slice h.enclosed)
some_inside lex.Language slice rest h = (h.code, None, h.whole)
some_inside lex.Tag slice rest (inl h) = (h.inside, None, inl (enclosed_between (codes "{!{") (codes "}!}") slice h))
some_inside lex.Tag slice rest (inr h) = (h.0.inside, None, inr (enclosed_between (codes "{") (codes "}") slice h.0, h.1))
some_inside lex.Sign slice rest h = (slice, None, refl)

-- and it is one
pub one_inside : (kind : LexKind) (slice these those : List ℕ) (media other : Option (List ℕ)) → IsInside kind these media slice → IsInside kind those other slice → (these ≡ those) × (media ≡ other)
one_inside kind slice these those media other h k =
    let a : Found = record { characters = these; media = media } in
    let b : Found = record { characters = those; media = other } in
    let same : a ≡ b = same_Some a b (sym (inside_read kind these media slice h) ∙ inside_read kind those other slice k) in
    (ap (λ (f : Found). f.characters) same, ap (λ (f : Found). f.media) same)
