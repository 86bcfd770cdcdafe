-- The machine that reads the body of a rule: what one more lexeme does.
use Rattle.std.specs.Prelude.{Bool, true, false, List, [], ◌∷◌, ◌++◌, Option, Some, None}
use Rattle.abnf_lexer.specs.declared.lexemes.Spanned.{Spanned}
use Rattle.abnf_parser.specs.declared.lexeme.AngleForm.TheVariants as angle
use Rattle.abnf_parser.specs.declared.lexeme.Sign.{Sign}
use Rattle.abnf_parser.specs.declared.lexeme.Sign.TheVariants as sign
use Rattle.abnf_parser.specs.declared.lexeme.Lexeme.{Lexeme}
use Rattle.abnf_parser.specs.declared.lexeme.Lexeme.TheVariants as l
use Rattle.abnf_parser.specs.declared.written.Written.{Written}
use Rattle.abnf_parser.specs.declared.written.Written.TheVariants as w
use Rattle.abnf_parser.specs.declared.machine.stack.Frame.{Frame}
use Rattle.abnf_parser.specs.declared.machine.stack.Around.{Around}
use Rattle.abnf_parser.specs.declared.machine.stack.Around.TheVariants.{Round, Square}
use Rattle.abnf_parser.specs.declared.machine.stack.Outer.{Outer}
use Rattle.abnf_parser.specs.declared.machine.stack.Point.{Point}
use Rattle.abnf_parser.specs.declared.machine.stack.Point.TheVariants as p
use Rattle.abnf_parser.specs.declared.machine.stack.Body.{Body}
use Rattle.abnf_parser.specs.declared.machine.stack.Turn.{Turn}
use Rattle.abnf_parser.specs.declared.machine.stack.Turn.TheVariants as t
use Rattle.abnf_parser.specs.Expansions.{sequence, choice, weighted}

-- ---- frames

abbrev pub fresh : Frame
fresh = record { done = []; weight = None; items = [] }

abbrev pub weighed : Frame → Option Spanned → Frame
weighed f weight = record { done = f.done; weight = weight; items = [] }

abbrev pub with_item : Frame → Written → Frame
with_item f x = record { done = f.done; weight = f.weight; items = f.items ++ x ∷ [] }

-- the alternatives, this one too
abbrev pub all_of : Frame → List Written
all_of f = f.done ++ weighted f.weight (sequence f.items) ∷ []

abbrev pub barred : Frame → Frame
barred f = record { done = all_of f; weight = None; items = [] }

-- ---- turns

abbrev pub on : List Outer → Frame → Point → Turn
on outer f point = t.On (record { outer = outer; frame = f; point = point })

abbrev pub opened : Around → List Outer → Frame → List Outer
opened around outer f = record { around = around; frame = f } ∷ outer

-- the value of a bracket, as an atom of what stands around it
abbrev pub enclosed : Around → Written → Written
enclosed Round x = x
enclosed Square x = w.Optional x

-- an item or a bracket that begins
unfoldable pub on_item : List Outer → Frame → Lexeme → Turn
on_item outer f (l.Tag span) = on outer (with_item f (w.Tag span)) p.Items
on_item outer f (l.Bare word span) = on outer f (p.Atom (w.Token span))
on_item outer f (l.Quoted span) = on outer f (p.Atom (w.Token span))
on_item outer f (l.Name span) = on outer f (p.Atom (w.Name span))
on_item outer f (l.UriRef span) = on outer f (p.Atom (w.UriRef span))
on_item outer f (l.Sign sign.RoundOpen) = on outer f p.Opened
on_item outer f (l.Sign sign.SquareOpen) = on (opened Square outer f) fresh p.Start
on_item outer f _ = t.Unfit

unfoldable pub on_start : List Outer → Frame → Lexeme → Turn
on_start outer f (l.Weight span) = on outer (weighed f (Some span)) p.First
on_start outer f x = on_item outer (weighed f None) x

unfoldable pub on_opened : List Outer → Frame → Lexeme → Turn
on_opened outer f (l.Sign sign.RoundClose) = on outer f (p.Atom w.Nothing)
on_opened outer f x = on_start (opened Round outer f) fresh x

-- the sign closes such a bracket
abbrev pub closes : Around → Sign → Bool
closes Round sign.RoundClose = true
closes Round _ = false
closes Square sign.SquareClose = true
closes Square _ = false

abbrev pub closed : Around → Frame → List Outer → Written → Bool → Turn
closed bracket f outer x true = on outer f (p.Atom (enclosed bracket x))
closed bracket f outer x false = t.Unfit

-- a sign behind all alternatives of a bracket, or of the body
unfoldable pub ended : List Outer → Written → Sign → Turn
ended [] x sign.Semicolon = t.Ended x
ended [] x _ = t.Unfit
ended (o ∷ outer) x s = closed o.around o.frame outer x (closes o.around s)

-- a lexeme behind items
unfoldable pub on_items : List Outer → Frame → Lexeme → Turn
on_items outer f (l.Sign sign.Bar) = on outer (barred f) p.Start
on_items outer f (l.Sign sign.RoundOpen) = on outer f p.Opened
on_items outer f (l.Sign sign.SquareOpen) = on (opened Square outer f) fresh p.Start
on_items outer f (l.Sign s) = ended outer (choice (all_of f)) s
on_items outer f x = on_item outer f x

unfoldable pub on_atom : List Outer → Frame → Written → Lexeme → Turn
on_atom outer f x (l.Language span) = on outer f (p.Spoken x)
on_atom outer f x (l.Angle angle.Repeat span) = on outer f (p.Repeated (w.Repeated span x))
on_atom outer f x lexeme = on_items outer (with_item f x) lexeme

unfoldable pub on_spoken : List Outer → Frame → Written → Lexeme → Turn
on_spoken outer f x (l.Angle angle.Repeat span) = on outer (with_item f (w.Repeated span x)) p.Items
on_spoken outer f x lexeme = on_items outer (with_item f x) lexeme

unfoldable pub on_repeated : List Outer → Frame → Written → Lexeme → Turn
on_repeated outer f x (l.Language span) = on outer (with_item f x) p.Items
on_repeated outer f x lexeme = on_items outer (with_item f x) lexeme

abbrev pub at_point : List Outer → Frame → Point → Lexeme → Turn
at_point outer f p.Start x = on_start outer f x
at_point outer f p.First x = on_item outer f x
at_point outer f p.Opened x = on_opened outer f x
at_point outer f p.Items x = on_items outer f x
at_point outer f (p.Atom a) x = on_atom outer f a x
at_point outer f (p.Spoken a) x = on_spoken outer f a x
at_point outer f (p.Repeated a) x = on_repeated outer f a x

unfoldable pub turn : Body → Lexeme → Turn
turn body x = at_point body.outer body.frame body.point x

abbrev pub begun : Body
begun = record { outer = []; frame = fresh; point = p.Start }
