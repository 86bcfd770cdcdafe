-- Media types, and what stands in angles with one or none: what is found has the form (`angled_of`), and each form is found (`angled_found`).
use Rattle.std.proofs.Common.{◌≡◌, ℕ, ◌+◌, true, cond, inl, inr, Option, Some, None, List, [], ◌++◌, length, drop, codes, nat_eq, unwrap_or, refl, sym, ap, ◌∙◌, arith, append_assoc, length-append}
use Rattle.std.specs.List.{starts_with}
use Rattle.std.proofs.lemmas.Bool.{cond_both, both_ways}
use Rattle.std.proofs.lemmas.List.{drop_at}
use Rattle.vg_base.specs.Runs.{enclosed_len}
use Rattle.vg_base.proofs.Closings.{begins_so, so_begins}
use Rattle.vg_base.proofs.Enclosures.{Slice, SliceAt, Enclosed, enclosed_of, enclosed_found}
use Rattle.abnf_lexer.specs.Forms.{IsMediaType, IsMedia, IsAngled}
use Rattle.abnf_lexer.specs.code.Front.{media_len, with_media, angled}

abbrev tilde : List ℕ
tilde = codes "~<"

abbrev angle : List ℕ
angle = codes ">"

media_begins : (media rest : List ℕ) → IsMediaType media → starts_with nat_eq (media ++ rest) tilde ≡ true
media_begins media rest h = so_begins (media ++ rest) tilde ((h.inside ++ angle) ++ rest) (ap (λ (l : List ℕ). l ++ rest) h.whole ∙ append_assoc tilde (h.inside ++ angle) rest)

pub media_found : (media rest : List ℕ) → IsMedia media rest → media_len (media ++ rest) ≡ length media
media_found media rest (inl h) =
    ap (λ b. cond b (unwrap_or (enclosed_len 2 angle (media ++ rest)) 0) 0) (media_begins media rest h) ∙ ap (λ o. unwrap_or o 0) (enclosed_found tilde angle media rest (omega arith) h)
media_found media rest (inr h) =
    ap (λ (l : List ℕ). media_len (l ++ rest)) h.0 ∙ (cond_both (starts_with nat_eq rest tilde) (unwrap_or (enclosed_len 2 angle rest) 0) 0 (λ n. n ≡ 0) (λ e. none (enclosed_len 2 angle rest) (enclosed_of tilde angle rest (drop 2 rest) (begins_so rest tilde e))) (λ e. refl) ∙ sym (ap length h.0))
  where
    none : (o : Option ℕ) → SliceAt (Enclosed tilde angle) rest o → unwrap_or o 0 ≡ 0
    none None s = refl
    none (Some n) s = absurd (h.1 s.slice s.rest s.parts s.has_form)

pub media_of : (text : List ℕ) → Slice IsMedia text (media_len text)
media_of text =
    cond_both (starts_with nat_eq text tilde) (unwrap_or (enclosed_len 2 angle text) 0) 0 (Slice IsMedia text)
    (λ e. at (enclosed_len 2 angle text) refl (enclosed_of tilde angle text (drop 2 text) (begins_so text tilde e)))
    (λ e. nothing (λ other more parts h. both_ways _ e (ap (λ (l : List ℕ). starts_with nat_eq l tilde) parts ∙ media_begins other more h)))
  where
    nothing : ((other more : List ℕ) → text ≡ other ++ more → IsMediaType other → ⊥) → Slice IsMedia text 0
    nothing h = record { slice = []; rest = text; parts = refl; long = refl; has_form = inr (refl, h) }

    at : (o : Option ℕ) → enclosed_len 2 angle text ≡ o → SliceAt (Enclosed tilde angle) text o → Slice IsMedia text (unwrap_or o 0)
    at None e s = nothing (λ other more parts h. some_none (length other) (sym (ap (enclosed_len 2 angle) parts ∙ enclosed_found tilde angle other more (omega arith) h) ∙ e))
      where
        some_none : (n : ℕ) → Some n ≡ None → ⊥
        some_none n e = cc
    at (Some n) e s = record { slice = s.slice; rest = s.rest; parts = s.parts; long = s.long; has_form = inl s.has_form }

-- ---- angles

angled_at : (opening text : List ℕ) (o : Option ℕ) → SliceAt (Enclosed opening angle) text o → SliceAt (IsAngled opening) text (with_media text o)
angled_at opening text None s = tt
angled_at opening text (Some n) s =
    let left : drop n text ≡ s.rest = ap (drop n) s.parts ∙ drop_at s.slice s.rest n s.long in
    let media = media_of (drop n text) in
    record {
      slice = s.slice ++ media.slice;
      rest = media.rest;
      parts = s.parts ∙ (ap (λ (l : List ℕ). s.slice ++ l) (sym left ∙ media.parts) ∙ sym (append_assoc s.slice media.slice media.rest));
      long = omega (arith, length-append s.slice media.slice, s.long, media.long);
      has_form = record { angle = s.slice; media = media.slice; whole = refl; enclosed = s.has_form; has_media = media.has_form };
    }

pub angled_of : (opening text after : List ℕ) → text ≡ opening ++ after → SliceAt (IsAngled opening) text (angled (length opening) text)
angled_of opening text after e = angled_at opening text (enclosed_len (length opening) angle text) (enclosed_of opening angle text after e)

pub angled_found : (opening slice rest : List ℕ) → IsAngled opening slice rest → angled (length opening) (slice ++ rest) ≡ Some (length slice)
angled_found opening slice rest h =
    let whole : slice ++ rest ≡ h.angle ++ (h.media ++ rest) = ap (λ (l : List ℕ). l ++ rest) h.whole ∙ append_assoc h.angle h.media rest in
    let found : enclosed_len (length opening) angle (slice ++ rest) ≡ Some (length h.angle) = ap (enclosed_len (length opening) angle) whole ∙ enclosed_found opening angle h.angle (h.media ++ rest) (omega arith) h.enclosed in
    let left : drop (length h.angle) (slice ++ rest) ≡ h.media ++ rest = ap (drop (length h.angle)) whole ∙ drop_at h.angle (h.media ++ rest) (length h.angle) refl in
    ap (with_media (slice ++ rest)) found
    ∙ ap Some (ap (λ (l : List ℕ). length h.angle + media_len l) left ∙ (ap (λ n. length h.angle + n) (media_found h.media rest h.has_media) ∙ (sym (length-append h.angle h.media) ∙ ap length (sym h.whole))))
