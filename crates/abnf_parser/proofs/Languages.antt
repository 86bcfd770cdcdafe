-- What may still come in the body of a rule, said by the grammar alone: the lexemes that end everything that is open, and the body that comes
-- of it. `End` is what may come behind the `;`, `W` what may come behind the alternatives at hand, as this tree.
use Rattle.std.proofs.Common.{◌≡◌, List, [], ◌∷◌, ◌++◌, ◌⊎◌, Option, refl, ap, ◌∙◌}
use Rattle.abnf_lexer.specs.declared.lexemes.Spanned.{Spanned}
use Rattle.abnf_parser.specs.declared.lexeme.Sign.{Sign}
use Rattle.abnf_parser.specs.declared.lexeme.Sign.TheVariants as sign
use Rattle.abnf_parser.specs.declared.lexeme.Lexeme.{Lexeme}
use Rattle.abnf_parser.specs.declared.lexeme.Lexeme.TheVariants as l
use Rattle.abnf_parser.specs.declared.written.Written.{Written}
use Rattle.abnf_parser.specs.declared.written.Written.TheVariants as w
use Rattle.abnf_parser.specs.declared.machine.stack.Frame.{Frame}
use Rattle.abnf_parser.specs.declared.machine.stack.Around.{Around}
use Rattle.abnf_parser.specs.declared.machine.stack.Around.TheVariants.{Round, Square}
use Rattle.abnf_parser.specs.declared.machine.stack.Outer.{Outer}
use Rattle.abnf_parser.specs.declared.machine.stack.Point.{Point}
use Rattle.abnf_parser.specs.declared.machine.stack.Point.TheVariants as p
use Rattle.abnf_parser.specs.declared.machine.stack.Body.{Body}
use Rattle.abnf_parser.specs.declared.machine.stack.Turn.{Turn}
use Rattle.abnf_parser.specs.declared.machine.stack.Turn.TheVariants as t
use Rattle.abnf_parser.specs.Expansions.{Alternatives, Others, Items, Item, Ending, alternatives, alternative, weight_spelled, language_spelled, repeat_spelled, ending_spelled, alternatives_spelled, others_spelled, alternative_spelled, items_spelled, item_spelled, sequence, choice, weighted, repeated, ending_meant, alternatives_meant, others_meant, alternative_meant, items_meant, item_meant}
use Rattle.abnf_parser.specs.code.Bodies.{fresh, weighed, with_item, opened, enclosed}

-- what may come behind alternatives
abbrev pub Rest : Type 1
Rest = Written → List Lexeme → Type 0

-- ---- in the alternatives at hand

-- behind items: more items, more alternatives
abbrev pub ItemsThen : Rest → Frame → List Lexeme → Type 0
ItemsThen W f xs =
    (is : Items) × (os : Others) × (ys : List Lexeme) × (xs ≡ items_spelled is (others_spelled os ys))
    × W (choice (others_meant (f.done ++ weighted f.weight (sequence (items_meant f.items is)) ∷ []) os)) ys

-- an item
abbrev pub ItemThen : Rest → Frame → List Lexeme → Type 0
ItemThen W f xs = (i : Item) × (ys : List Lexeme) × (xs ≡ item_spelled i ys) × ItemsThen W (with_item f (item_meant i)) ys

-- an alternative
abbrev pub AlternativeThen : Rest → Frame → List Lexeme → Type 0
AlternativeThen W f xs = (weight : Option Spanned) × (ys : List Lexeme) × (xs ≡ weight_spelled weight ys) × ItemThen W (weighed f weight) ys

-- behind an atom
abbrev pub EndingThen : Rest → Frame → Written → List Lexeme → Type 0
EndingThen W f a xs = (e : Ending) × (ys : List Lexeme) × (xs ≡ ending_spelled e ys) × ItemsThen W (with_item f (ending_meant e a)) ys

-- behind an atom and its language
abbrev pub RepeatThen : Rest → Frame → Written → List Lexeme → Type 0
RepeatThen W f a xs = (repeat : Option Spanned) × (ys : List Lexeme) × (xs ≡ repeat_spelled repeat ys) × ItemsThen W (with_item f (repeated repeat a)) ys

-- behind an atom and its repeat
abbrev pub LanguageThen : Rest → Frame → Written → List Lexeme → Type 0
LanguageThen W f a xs = (language : Option Spanned) × (ys : List Lexeme) × (xs ≡ language_spelled language ys) × ItemsThen W (with_item f a) ys

-- ---- with all that is open

abbrev pub closing : Around → Sign
closing Round = sign.RoundClose
closing Square = sign.SquareClose

-- behind all alternatives
abbrev pub Whole : Rest → List Outer → Rest
Whole End [] x xs = (ys : List Lexeme) × (xs ≡ l.Sign sign.Semicolon ∷ ys) × End x ys
Whole End (o ∷ outer) x xs = (ys : List Lexeme) × (xs ≡ l.Sign (closing o.around) ∷ ys) × EndingThen (Whole End outer) o.frame (enclosed o.around x) ys

abbrev pub OpenedThen : Rest → List Outer → Frame → List Lexeme → Type 0
OpenedThen End outer f xs =
    ((ys : List Lexeme) × (xs ≡ l.Sign sign.RoundClose ∷ ys) × EndingThen (Whole End outer) f w.Nothing ys)
    ⊎ AlternativeThen (Whole End (opened Round outer f)) fresh xs

abbrev pub PointThen : Rest → List Outer → Frame → Point → List Lexeme → Type 0
PointThen End outer f p.Start xs = AlternativeThen (Whole End outer) f xs
PointThen End outer f p.First xs = ItemThen (Whole End outer) f xs
PointThen End outer f p.Opened xs = OpenedThen End outer f xs
PointThen End outer f p.Items xs = ItemsThen (Whole End outer) f xs
PointThen End outer f (p.Atom a) xs = EndingThen (Whole End outer) f a xs
PointThen End outer f (p.Spoken a) xs = RepeatThen (Whole End outer) f a xs
PointThen End outer f (p.Repeated a) xs = LanguageThen (Whole End outer) f a xs

abbrev pub BodyThen : Rest → Body → List Lexeme → Type 0
BodyThen End body xs = PointThen End body.outer body.frame body.point xs

-- behind what a lexeme did
abbrev pub TurnThen : Rest → Turn → List Lexeme → Type 0
TurnThen End (t.On body) xs = BodyThen End body xs
TurnThen End (t.Ended x) xs = End x xs
TurnThen End t.Unfit xs = ⊥

-- one lexeme comes, and then what may come behind it
abbrev pub Steps : Rest → (Lexeme → Turn) → List Lexeme → Type 0
Steps End f [] = ⊥
Steps End f (x ∷ xs) = TurnThen End (f x) xs

-- ---- all alternatives begin with one

pub from_alternatives : (W : Rest) (inner : Alternatives) (ys : List Lexeme) → W (alternatives_meant inner) ys → AlternativeThen W fresh (alternatives_spelled inner ys)
unfolding alternatives_spelled alternative_spelled alternatives_meant alternative_meant
from_alternatives W (alternatives (alternative weight i is) os) ys c = (weight, _, refl, (i, _, refl, (is, os, ys, refl, c)))

abbrev pub AlternativesThen : Rest → List Lexeme → Type 0
AlternativesThen W xs = (inner : Alternatives) × (ys : List Lexeme) × (xs ≡ alternatives_spelled inner ys) × W (alternatives_meant inner) ys

pub to_alternatives : (W : Rest) (xs : List Lexeme) → AlternativeThen W fresh xs → AlternativesThen W xs
unfolding alternatives_spelled alternative_spelled alternatives_meant alternative_meant
to_alternatives W xs q =
    let item = q.3 in
    let items = item.3 in
    (alternatives (alternative q.0 item.0 items.0) items.1, items.2, q.2 ∙ ap (weight_spelled q.0) (item.2 ∙ ap (item_spelled item.0) items.3), items.4)
