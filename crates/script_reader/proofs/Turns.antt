-- Several lexemes of an expression, one after another.
use Rattle.std.proofs.Common.{◌≡◌, ℕ, List, [], ◌∷◌, ◌++◌, Option, Some, None, refl, ap, ◌∙◌}
use Rattle.script_reader.specs.declared.lexing.lexeme.Lexeme.{Lexeme}
use Rattle.script_reader.specs.declared.machine.stack.Open.{Open}
use Rattle.script_reader.specs.declared.machine.stack.Now.{Now}
use Rattle.script_reader.specs.declared.machine.stack.Inside.{Inside}
use Rattle.script_reader.specs.declared.machine.stack.Turn.{Turn}
use Rattle.script_reader.specs.declared.machine.stack.Turn.TheVariants as t
use Rattle.script_reader.specs.code.Expressions.{turn}

abbrev pub In : List Open → ℕ → Now → Inside
In frames room now = record { frames = frames; room = room; now = now }

abbrev pub on_to : (Inside → Option Inside) → Turn → Option Inside
on_to f (t.On j) = f j
on_to f (t.Ended v) = None
on_to f t.Unfit = None

abbrev pub then_on : (Inside → Option Inside) → Option Inside → Option Inside
then_on f None = None
then_on f (Some j) = f j

-- where reading stands after these lexemes
unfoldable pub turns : Inside → List Lexeme → Option Inside
turns i [] = Some i
turns i (x ∷ xs) = on_to (λ j. turns j xs) (turn i x)

on_to_then : (o : Turn) (xs ys : List Lexeme) → ((j : Inside) → turns j (xs ++ ys) ≡ then_on (λ m. turns m ys) (turns j xs))
    → on_to (λ j. turns j (xs ++ ys)) o ≡ then_on (λ m. turns m ys) (on_to (λ j. turns j xs) o)
on_to_then (t.On j) xs ys h = h j
on_to_then (t.Ended v) xs ys h = refl
on_to_then t.Unfit xs ys h = refl

pub turns-append : (i : Inside) (xs ys : List Lexeme) → turns i (xs ++ ys) ≡ then_on (λ m. turns m ys) (turns i xs)
unfolding turns
turns-append i [] ys = refl
turns-append i (x ∷ xs) ys = on_to_then (turn i x) xs ys (λ j. turns-append j xs ys)

pub turns-then : (i j m : Inside) (xs ys : List Lexeme) → turns i xs ≡ Some j → turns j ys ≡ Some m → turns i (xs ++ ys) ≡ Some m
turns-then i j m xs ys h k = turns-append i xs ys ∙ ap (then_on (λ u. turns u ys)) h ∙ k

pub turns-more : (i j m : Inside) (x : Lexeme) (xs : List Lexeme) → turn i x ≡ t.On j → turns j xs ≡ Some m → turns i (x ∷ xs) ≡ Some m
unfolding turns
turns-more i j m x xs h k = ap (on_to (λ u. turns u xs)) h ∙ k

pub turns-none : (i : Inside) → turns i [] ≡ Some i
unfolding turns
turns-none i = refl

pub turns-one : (i j : Inside) (x : Lexeme) → turn i x ≡ t.On j → turns i (x ∷ []) ≡ Some j
turns-one i j x h = turns-more i j j x [] h (turns-none j)
