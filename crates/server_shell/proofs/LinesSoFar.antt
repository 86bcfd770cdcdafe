-- How the lines that a reader gave so far stand at the front of the input.
--
-- `Given` is the invariant: the lines are all at the front, each with its line feed, and what is to
-- come stands behind them; or they are all lines of the input, the last without its line feed.
-- `given_more` adds a line. The rest says what this comes to where a run ends: `all_read` at the
-- end of input, `whole_read` where what was taken and not given has no line feed, and `front_read`
-- wherever else.
use Rattle.std.proofs.Common.{◌≡◌, ℕ, List, [], ◌∷◌, ◌++◌, Bool, true, false, IsTrue, None, Some, length, ◌⊎◌, refl, sym, ap, ◌∙◌, subst, append_assoc, append-nil, arith, inl, inr, length-append, IfSome}
use Rattle.std.specs.declared.option.Option.{Option}
use Rattle.std.specs.Io.KnownBytes.{Consumes, IsAtEnd, prepend_known}
use Rattle.std.proofs.lemmas.List.{nil_from_length}
use Rattle.vg_io.specs.Lines.{lines_of, whole_lines_of, GivesLine, BeginsWithLine, HasNoFeed, LeavesNoLine}
use Rattle.vg_io.specs.Reader.{Intake, to_come, GivesNext}
use Rattle.vg_io.proofs.Cutting.{lines_of-line, whole_lines_of-line, lines_of-last, whole_lines_of-none}

-- the text is these lines, each with its line feed
unfoldable pub IsFed : List ℕ → List (List ℕ) → Type 0
IsFed text lines = (rest : List ℕ) → (lines_of (text ++ rest) ≡ lines ++ lines_of rest)
    × (whole_lines_of (text ++ rest) ≡ lines ++ whole_lines_of rest)

-- the lines stand at the front of all bytes, and ys is left; or they are all, the last with no line
-- feed
pub data LinesInFront (xs ys : List ℕ) (ended : Bool) (lines : List (List ℕ)) : Type 0 where
  fed : ended ≡ false → (text : List ℕ) → IsFed text lines → xs ≡ text ++ ys
      → LinesInFront xs ys ended lines
  last : ended ≡ true → lines_of xs ≡ lines → ys ≡ [] → LinesInFront xs ys ended lines

abbrev AreInFront : Option (List ℕ) → Option (List ℕ) → Bool → List (List ℕ) → Type 0
AreInFront None b f lines = Unit {0}
AreInFront (Some xs) None f lines = ⊥
AreInFront (Some xs) (Some ys) f lines = LinesInFront xs ys f lines

pub record Given (input : Option (List ℕ)) (now : Intake) (lines : List (List ℕ)) : Type 0 where
  pub cut : AreInFront input (to_come now) now.reader.ended lines

IsFed-nil : IsFed [] []
unfolding IsFed
IsFed-nil rest = (refl, refl)

IsFed-more : (text : List ℕ) (lines : List (List ℕ)) (line : List ℕ) → IsFed text lines
    → HasNoFeed line → IsFed (text ++ (line ++ 10 ∷ [])) (lines ++ line ∷ [])
unfolding IsFed
IsFed-more text lines line h n rest =
    let regroup = append_assoc text (line ++ 10 ∷ []) rest
    ∙ ap (λ l. text ++ l) (append_assoc line (10 ∷ []) rest) in
    let (l, w) = h (line ++ 10 ∷ rest) in (
      ap lines_of regroup ∙ l ∙ ap (λ k. lines ++ k) (lines_of-line line rest n)
          ∙ sym (append_assoc lines (line ∷ []) (lines_of rest)),
      ap whole_lines_of regroup ∙ w ∙ ap (λ k. lines ++ k) (whole_lines_of-line line rest n)
          ∙ sym (append_assoc lines (line ∷ []) (whole_lines_of rest)),
    )

module _ (xs : List ℕ) (lines : List (List ℕ)) (line : List ℕ) where
  LinesInFront-more : (ys zs : List ℕ) (f f' : Bool) → LinesInFront xs ys f lines
      → BeginsWithLine ys line zs f' → LinesInFront xs zs f' (lines ++ line ∷ [])
  unfolding IsFed
  LinesInFront-more ys zs f f' (fed going text is whole) b =
      elim b.cut [
        | inl (e, cut) ↦ fed e (text ++ (line ++ 10 ∷ [])) (IsFed-more text lines line is b.no_feed)
            (whole ∙ ap (λ l. text ++ l) cut
            ∙ ap (λ l. text ++ l) (sym (append_assoc line (10 ∷ []) zs))
            ∙ sym (append_assoc text (line ++ 10 ∷ []) zs))
        | inr (e, cut, some, none) ↦ last e
            (ap lines_of (whole ∙ ap (λ l. text ++ l) cut) ∙ (is line).0
            ∙ ap (λ l. lines ++ l) (lines_of-last line b.no_feed some)) none
      ]
  LinesInFront-more ys zs f f' (last done all none) b =
      elim b.cut [
        | inl (e, cut) ↦ absurd (let n : length ys ≡ 0 = ap length none in
            omega (arith, ap length cut, length-append line (10 ∷ zs)))
        | inr (e, cut, some, end) ↦ absurd (let n : length ys ≡ 0 = ap length none in
            omega (arith, ap length cut))
      ]

module _ (lines : List (List ℕ)) (line : List ℕ) (f f' : Bool) where
  cut_more : (a b c : Option (List ℕ)) → AreInFront a b f lines → GivesLine b c f' line
      → AreInFront a c f' (lines ++ line ∷ [])
  cut_more None b c g h = tt
  cut_more (Some xs) None c g h = absurd g
  cut_more (Some xs) (Some ys) None g h = absurd h
  cut_more (Some xs) (Some ys) (Some zs) g h = LinesInFront-more xs lines line ys zs f f' g h

-- one more line
pub given_more : {input : Option (List ℕ)} {now : Intake} {lines : List (List ℕ)} (new : Intake)
    (line : List ℕ)
    → Given input now lines → GivesNext now new line → Given input new (lines ++ line ∷ [])
given_more {input} {now} {lines} new line g h = record {
  cut = cut_more lines line now.reader.ended new.reader.ended input (to_come now)
      (to_come new) g.cut h;
}

cut_none : (a : Option (List ℕ)) → AreInFront a (prepend_known [] a) false []
cut_none None = tt
cut_none (Some xs) = fed refl [] IsFed-nil refl

-- at the beginning nothing was given
pub given_none : (now : Intake) → now.reader.held ≡ [] → now.reader.ended ≡ false
    → Given now.source.left now []
given_none now held ended = record {
  cut =
      subst (λ h. AreInFront now.source.left (prepend_known h now.source.left) now.reader.ended [])
      (sym held)
      (subst (λ f. AreInFront now.source.left (prepend_known [] now.source.left) f []) (sym ended)
      (cut_none now.source.left));
}

nil_right : (xs ys : List ℕ) → xs ++ ys ≡ [] → ys ≡ []
nil_right xs ys e = nil_from_length ys (omega (arith, ap length e, length-append xs ys))

-- ---- all was read

lines_at_end : (xs ys : List ℕ) (f : Bool) (lines : List (List ℕ)) → LinesInFront xs ys f lines
    → ys ≡ [] → lines_of xs ≡ lines
unfolding IsFed lines_of
lines_at_end xs ys f lines (fed going text is whole) e = ap lines_of (whole ∙ ap (λ l. text ++ l) e)
    ∙ (is []).0 ∙ append-nil lines
lines_at_end xs ys f lines (last done all none) e = all

none_at_end : (xs ys : List ℕ) (f : Bool) (lines : List (List ℕ)) → LinesInFront xs ys f lines
    → IsTrue f → ys ≡ []
none_at_end xs ys f lines (fed going text is whole) e = cc
none_at_end xs ys f lines (last done all none) e = none

-- the input was read to its end
pub record ReadsAll (input : List ℕ) (after : Option (List ℕ))
    (given : List (List ℕ)) : Type 0 where
  pub left : after ≡ Some []
  pub lines : lines_of input ≡ given

module _ (h bytes : List ℕ) (f : Bool) (lines : List (List ℕ)) where
  all_cut : (a b c : Option (List ℕ)) → AreInFront a (prepend_known h b) f lines
      → IsAtEnd (prepend_known h b) ⊎ IsTrue f
      → Consumes b c bytes → IfSome a (λ input. ReadsAll input c lines)
  all_cut None b c g end took = tt
  all_cut (Some xs) None c g end took = absurd g
  all_cut (Some xs) (Some l) None g end took = absurd took
  all_cut (Some xs) (Some l) (Some l') g at took =
      let end : h ++ l ≡ [] =
      elim at [ inl none ↦ none | inr is ↦ none_at_end xs (h ++ l) f lines g is ] in
      record {
        left = ap Some (nil_right bytes l' (sym took ∙ nil_right h l end));
        lines = lines_at_end xs (h ++ l) f lines g end;
      }

pub all_read : {input : Option (List ℕ)} {now : Intake} {lines : List (List ℕ)} (new : Intake)
    (bytes : List ℕ)
    → Given input now lines → IsAtEnd (to_come now) ⊎ IsTrue now.reader.ended
    → Consumes now.source.left new.source.left bytes
    → IfSome input (λ xs. ReadsAll xs new.source.left lines)
all_read {input} {now} {lines} new bytes g at took =
    all_cut now.reader.held bytes now.reader.ended lines input now.source.left new.source.left g.cut
    at took

-- ---- what was taken and not given has no line feed

-- the whole lines of what was taken are these
pub record ReadsWhole (input : List ℕ) (after : Option (List ℕ))
    (given : List (List ℕ)) : Type 0 where
  pub taken : List ℕ
  pub rest : List ℕ
  pub left : after ≡ Some rest
  pub cut : input ≡ taken ++ rest
  pub lines : whole_lines_of taken ≡ given

whole_at : (xs front rest : List ℕ) (lines : List (List ℕ))
    → LinesInFront xs (front ++ rest) false lines → whole_lines_of front ≡ []
    → ReadsWhole xs (Some rest) lines
unfolding IsFed
whole_at xs front rest lines (fed going text is whole) none = record {
  taken = text ++ front;
  rest = rest;
  left = refl;
  cut = whole ∙ sym (append_assoc text front rest);
  lines = (is front).1 ∙ ap (λ l. lines ++ l) none ∙ append-nil lines;
}
whole_at xs front rest lines (last done all end) none = cc

whole_cut : (a b c : Option (List ℕ)) (lines : List (List ℕ)) → AreInFront a b false lines
    → LeavesNoLine b c → IfSome a (λ input. ReadsWhole input c lines)
whole_cut None b c lines g leaves = tt
whole_cut (Some xs) None c lines g leaves = absurd g
whole_cut (Some xs) (Some ys) None lines g leaves = absurd leaves
whole_cut (Some xs) (Some ys) (Some rest) lines g (front, none, cut) =
    whole_at xs front rest lines (subst (λ l. LinesInFront xs l false lines) cut g)
    (whole_lines_of-none front none)

pub whole_read : {input : Option (List ℕ)} {now : Intake} {lines : List (List ℕ)}
    (left : Option (List ℕ))
    → Given input now lines → now.reader.ended ≡ false → LeavesNoLine (to_come now) left
    → IfSome input (λ xs. ReadsWhole xs left lines)
whole_read {input} {now} {lines} left g going leaves =
    whole_cut input (to_come now) left lines
    (subst (λ f. AreInFront input (to_come now) f lines) going g.cut) leaves

-- ---- wherever a run ends

-- the lines stand at the front of what was taken, or they are all, where the source was read to its
-- end
pub record ReadsFront (input : List ℕ) (after : Option (List ℕ)) (ended : Bool)
    (given : List (List ℕ)) : Type 0 where
  pub taken : List ℕ
  pub rest : List ℕ
  pub left : after ≡ Some rest
  pub cut : input ≡ taken ++ rest
  pub lines : ((more : List (List ℕ)) × (whole_lines_of taken ≡ given ++ more))
      ⊎ ((lines_of taken ≡ given) × (rest ≡ []) × IsTrue ended)

module _ (h bytes : List ℕ) (f e : Bool) (lines : List (List ℕ)) (told : IsTrue f → IsTrue e) where
  front_at : (xs l l' : List ℕ) → LinesInFront xs (h ++ l) f lines → l ≡ bytes ++ l'
      → ReadsFront xs (Some l') e lines
  unfolding IsFed
  front_at xs l l' (fed going text is whole) took = record {
    taken = text ++ (h ++ bytes);
    rest = l';
    left = refl;
    cut =
        whole ∙ ap (λ k. text ++ (h ++ k)) took
        ∙ ap (λ k. text ++ k) (sym (append_assoc h bytes l'))
        ∙ sym (append_assoc text (h ++ bytes) l');
    lines = inl (whole_lines_of (h ++ bytes), (is (h ++ bytes)).1);
  }
  front_at xs l l' (last done all end) took =
      let none : l' ≡ [] = nil_right bytes l' (sym took ∙ nil_right h l end) in record {
        taken = xs;
        rest = l';
        left = refl;
        cut = sym (append-nil xs) ∙ ap (λ k. xs ++ k) (sym none);
        lines = inr (all, none, told done);
      }

  front_cut : (a b c : Option (List ℕ)) → AreInFront a (prepend_known h b) f lines
      → Consumes b c bytes → IfSome a (λ input. ReadsFront input c e lines)
  front_cut None b c g took = tt
  front_cut (Some xs) None c g took = absurd g
  front_cut (Some xs) (Some l) None g took = absurd took
  front_cut (Some xs) (Some l) (Some l') g took = front_at xs l l' g took

pub front_read : {input : Option (List ℕ)} {now : Intake} {lines : List (List ℕ)} (new : Intake)
    (bytes : List ℕ)
    → Given input now lines → (IsTrue now.reader.ended → IsTrue new.source.ended)
    → Consumes now.source.left new.source.left bytes
    → IfSome input (λ xs. ReadsFront xs new.source.left new.source.ended lines)
front_read {input} {now} {lines} new bytes g told took =
    front_cut now.reader.held bytes now.reader.ended new.source.ended lines told input
    now.source.left new.source.left g.cut took
