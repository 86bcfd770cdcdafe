-- The lines of replies that are written one after another.
use Rattle.std.proofs.Common.{◌≡◌, ℕ, ◌+◌, ◌<◌, List, [], ◌∷◌, ◌++◌, length, take, drop, get_or, sym, ap, ◌∙◌, append-nil, take-append-drop}
use Rattle.std.specs.declared.option.Option.{Option}
use Rattle.std.specs.List.{flat_map}
use Rattle.std.specs.Io.KnownBytes.{Appends}
use Rattle.std.proofs.lemmas.List.{take_more}
use Rattle.std.proofs.lemmas.List.Concat.{flat_map-append}
use Rattle.server_shell.specs.Delivery.{WritesFront}

-- the first n bytes of a text are a front of it
pub front_of_part : (a b : Option (List ℕ)) (text : List ℕ) (n : ℕ) → Appends a b (take n text)
    → WritesFront a b text
front_of_part a b text n p = (take n text, drop n text, sym (take-append-drop n text), p)

-- one more line
pub lines_more : {R : Type 0} (f : R → List ℕ) (xs : List R) (i : ℕ) (x : R) → i < length xs
    → get_or xs i x ≡ x → flat_map f (take (i + 1) xs) ≡ flat_map f (take i xs) ++ f x
lines_more f xs i x low is =
    ap (flat_map f) (take_more xs i x low ∙ ap (λ w. take i xs ++ w ∷ []) is)
    ∙ flat_map-append f (take i xs) (x ∷ [])
    ∙ ap (λ l. flat_map f (take i xs) ++ l) (append-nil (f x))
