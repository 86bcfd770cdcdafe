-- Slices that stand between an opening and the next closing: what is found has the form (`enclosed_of`), and each form is found (`enclosed_found`).
use Rattle.std.proofs.Common.{◌≡◌, ℕ, ◌<◌, Option, Some, None, List, [], ◌++◌, length, drop, sym, ap, ◌∙◌, refl, arith, append_assoc, length-append}
use Rattle.std.proofs.lemmas.List.{drop_at}
use Rattle.vg_base.specs.Runs.{IsEnclosed, further, closing_end, enclosed_len, ClosesAt}
use Rattle.vg_base.proofs.Closings.{closed_of, found_end}

-- a text is a slice of so many characters with a form, and a rest
pub record Slice (form : List ℕ → List ℕ → Type 0) (text : List ℕ) (n : ℕ) : Type 0 where
  pub slice : List ℕ
  pub rest : List ℕ
  pub parts : text ≡ slice ++ rest
  pub long : length slice ≡ n
  pub has_form : form slice rest

-- what a search tells of the front of a text: a slice of so many characters, or nothing
abbrev pub SliceAt : (form : List ℕ → List ℕ → Type 0) (text : List ℕ) → Option ℕ → Type 0
SliceAt form text None = Unit {0}
SliceAt form text (Some n) = Slice form text n

-- a form that looks at no rest
abbrev pub Enclosed : (opening close : List ℕ) → List ℕ → List ℕ → Type 0
Enclosed opening close slice rest = IsEnclosed opening close slice

behind_opening : (opening close after : List ℕ) (o : Option ℕ) (text : List ℕ) → text ≡ opening ++ after → (found : (n : ℕ) → o ≡ Some n → ClosesAt close after n) → SliceAt (Enclosed opening close) text (further (length opening) o)
behind_opening opening close after None text e found = tt
behind_opening opening close after (Some n) text e found =
    let h = found n refl in
    record {
      slice = opening ++ (h.inside ++ close);
      rest = h.rest;
      parts = e ∙ (ap (λ (l : List ℕ). opening ++ l) (h.parts ∙ sym (append_assoc h.inside close h.rest)) ∙ sym (append_assoc opening (h.inside ++ close) h.rest));
      long = let long = h.long in omega (arith, length-append opening (h.inside ++ close), length-append h.inside close);
      has_form = record { inside = h.inside; whole = refl; first = h.first };
    }

-- what is found behind an opening is enclosed
pub enclosed_of : (opening close text after : List ℕ) → text ≡ opening ++ after → SliceAt (Enclosed opening close) text (enclosed_len (length opening) close text)
enclosed_of opening close text after e =
    let left : drop (length opening) text ≡ after = ap (drop (length opening)) e ∙ drop_at opening after (length opening) refl in
    behind_opening opening close (drop (length opening) text) (closing_end close (drop (length opening) text)) text (e ∙ ap (λ (l : List ℕ). opening ++ l) (sym left)) (closed_of close (drop (length opening) text))

-- and what is enclosed is found
pub enclosed_found : (opening close slice rest : List ℕ) → 0 < length close → IsEnclosed opening close slice → enclosed_len (length opening) close (slice ++ rest) ≡ Some (length slice)
enclosed_found opening close slice rest some h =
    let whole : slice ++ rest ≡ opening ++ (h.inside ++ (close ++ rest)) = ap (λ (l : List ℕ). l ++ rest) h.whole ∙ (append_assoc opening (h.inside ++ close) rest ∙ ap (λ (l : List ℕ). opening ++ l) (append_assoc h.inside close rest)) in
    let left : drop (length opening) (slice ++ rest) ≡ h.inside ++ (close ++ rest) = ap (drop (length opening)) whole ∙ drop_at opening (h.inside ++ (close ++ rest)) (length opening) refl in
    ap (λ (l : List ℕ). further (length opening) (closing_end close l)) left
    ∙ (ap (further (length opening)) (found_end close h.inside rest some h.first)
    ∙ ap Some (omega (arith, ap length h.whole, length-append opening (h.inside ++ close), length-append h.inside close)))
