-- The machine that reads an expression: what one more lexeme does.
use Rattle.std.specs.Prelude.{ℕ, zero, suc, Bool, true, false, cond, nat_le, ◌==◌, List, [], ◌∷◌, ◌++◌, Option, Some, None, codes, if◌then◌else◌}
use Rattle.vg_base.specs.declared.script.Expr.{Expr}
use Rattle.vg_base.specs.declared.script.Expr.TheVariants as e
use Rattle.vg_base.specs.declared.script.Key.{Key}
use Rattle.vg_base.specs.declared.script.Key.TheVariants as k
use Rattle.vg_base.specs.declared.script.Root.{Root}
use Rattle.vg_base.specs.declared.script.Root.TheVariants as root
use Rattle.vg_base.specs.declared.script.BinOp.{BinOp}
use Rattle.script_reader.specs.declared.lexing.lexeme.Sign.{Sign}
use Rattle.script_reader.specs.declared.lexing.lexeme.Sign.TheVariants as g
use Rattle.script_reader.specs.declared.lexing.lexeme.Lexeme.{Lexeme}
use Rattle.script_reader.specs.declared.lexing.lexeme.Lexeme.TheVariants as l
use Rattle.script_reader.specs.declared.lexing.roles.Role.{Role}
use Rattle.script_reader.specs.declared.lexing.roles.Role.TheVariants as r
use Rattle.script_reader.specs.declared.machine.stack.View.{View}
use Rattle.script_reader.specs.declared.machine.stack.View.TheVariants as v
use Rattle.script_reader.specs.declared.machine.stack.Source.{Source}
use Rattle.script_reader.specs.declared.machine.stack.Source.TheVariants as s
use Rattle.script_reader.specs.declared.machine.stack.Now.{Now}
use Rattle.script_reader.specs.declared.machine.stack.Now.TheVariants as n
use Rattle.script_reader.specs.declared.machine.stack.Frame.{Frame}
use Rattle.script_reader.specs.declared.machine.stack.Frame.TheVariants as f
use Rattle.script_reader.specs.declared.machine.stack.Open.{Open}
use Rattle.script_reader.specs.declared.machine.stack.Inside.{Inside}
use Rattle.script_reader.specs.declared.machine.stack.Whole.{Whole}
use Rattle.script_reader.specs.declared.machine.stack.Turn.{Turn}
use Rattle.script_reader.specs.declared.machine.stack.Turn.TheVariants as t
use Rattle.script_reader.specs.Signs.{operator_of, level}
use Rattle.script_reader.specs.code.Marks.{prefix_of}
use Rattle.script_reader.specs.Grammar.{key_of}
use Rattle.script_reader.specs.Chains.{linked}
pub use Rattle.script_reader.specs.Chains.{part}
use Rattle.script_reader.specs.Roles.{role_of, is_name}

-- ---- operands

abbrev pub root_value : Root → Expr
root_value root.Out = e.Out
root_value (root.Name w) = e.Name w

-- a value, and then these steps
abbrev pub target_value : Expr → List Key → Expr
target_value value [] = value
target_value value (key ∷ path) = target_value (part value key) path

abbrev pub value_of : View → Expr
value_of (v.Value value) = value
value_of (v.Target root path) = target_value (root_value root) path
value_of v.Latest = e.Rule (codes "latest")

abbrev pub extended : View → Key → View
extended (v.Value value) key = v.Value (part value key)
extended (v.Target root path) key = v.Target root (path ++ key ∷ [])
extended v.Latest key = v.Value (part (e.Rule (codes "latest")) key)

-- `rules.word`; `rules.latest` may be a call
abbrev pub rule_view : List ℕ → Role → View
rule_view word r.Latest = v.Latest
rule_view word _ = v.Value (e.Rule word)

abbrev pub text_of : Source → Expr
text_of (s.Rule name) = e.RuleText name
text_of s.Latest = e.LatestText
text_of s.Current = e.CurrentText

-- ---- what is open

abbrev pub on : List Open → ℕ → Now → Turn
on frames room now = t.On (record { frames = frames; room = room; now = now })

abbrev pub on_value : List Open → ℕ → Expr → Turn
on_value frames room value = on frames room (n.View (v.Value value))

abbrev pub begun : ℕ → Bool → Inside
begun room first = record { frames = []; room = room; now = n.Start first }

abbrev pub opened : Frame → ℕ → Open
opened frame room = record { frame = frame; room = room }

-- a frame one level deeper
abbrev pub deeper : List Open → ℕ → Frame → Turn
deeper frames zero frame = t.Unfit
deeper frames (suc room) frame = on (opened frame (suc room) ∷ frames) room (n.Start false)

-- a frame at this level
abbrev pub beside : List Open → ℕ → ℕ → Frame → Turn
beside frames outside room frame = on (opened frame outside ∷ frames) room (n.Start false)

-- the frame waits for an operand and holds it at least so tightly
abbrev pub folds : ℕ → Frame → Bool
folds least (f.Signed op) = true
folds least (f.Left value op) = nat_le least (level op)
folds least (f.ChooseNo test positive) = least == 0
folds least f.Round = false
folds least (f.Index view) = false
folds least (f.List done) = false
folds least (f.Member done key) = false
folds least (f.ChooseYes test) = false

abbrev pub made : Frame → Expr → Expr
made (f.Signed op) value = e.Unary op value
made (f.Left left op) value = linked left op value
made (f.ChooseNo test positive) value = e.Choose test positive value
made _ value = value

abbrev pub top_folds : ℕ → List Open → Bool
top_folds least [] = false
top_folds least (o ∷ frames) = folds least o.frame

-- all such frames are ended
unfoldable pub folded : ℕ → List Open → ℕ → Expr → Whole
folded least [] room value = record { frames = []; room = room; value = value }
folded least (o ∷ frames) room value =
    cond (folds least o.frame) (folded least frames o.room (made o.frame value)) (record { frames = o ∷ frames; room = room; value = value })

-- ---- before an operand

unfoldable pub start_word : List Open → ℕ → Bool → List ℕ → Role → Turn
start_word frames room true w r.Out = on frames room (n.View (v.Target root.Out []))
start_word frames room false w r.Out = on_value frames room e.Out
start_word frames room first w r.Rules = on frames room n.Rules
start_word frames room first w r.Meta = on frames room n.Meta
start_word frames room first w r.True = on_value frames room (e.Truth true)
start_word frames room first w r.False = on_value frames room (e.Truth false)
start_word frames room first w r.Null = on_value frames room e.Null
start_word frames room true w role = if is_name role then on frames room (n.View (v.Target (root.Name w) [])) else t.Unfit
start_word frames room false w role = if is_name role then on_value frames room (e.Name w) else t.Unfit

abbrev pub list_opened : List Open → ℕ → Turn
list_opened frames zero = t.Unfit
list_opened frames (suc room) = on frames room (n.ListStart (suc room))

abbrev pub record_opened : List Open → ℕ → Turn
record_opened frames zero = t.Unfit
record_opened frames (suc room) = on frames room (n.Members [] (suc room))

unfoldable pub start_sign : List Open → ℕ → Sign → Turn
start_sign frames room g.RoundOpen = deeper frames room f.Round
start_sign frames room g.SquareOpen = list_opened frames room
start_sign frames room g.CurlyOpen = record_opened frames room
start_sign frames room sign = elim (prefix_of sign) [ Some op ↦ deeper frames room (f.Signed op) | None ↦ t.Unfit ]

unfoldable pub on_start : List Open → ℕ → Bool → Lexeme → Turn
on_start frames room first (l.Word w) = start_word frames room first w (role_of w)
on_start frames room first (l.Number value digits) = on_value frames room (e.Number value)
on_start frames room first (l.Str text) = on_value frames room (e.Str text)
on_start frames room first (l.Sign sign) = start_sign frames room sign
on_start frames room first l.Bad = t.Unfit

-- ---- after an operand

-- a sign that ends the innermost frame, or that is one of its commas or its colon
unfoldable pub close_frame : Frame → Sign → List Open → ℕ → ℕ → Expr → Turn
close_frame f.Round g.RoundClose frames outside room value = on_value frames outside value
close_frame (f.Index view) g.SquareClose frames outside room value = on frames outside (n.View (extended view (k.Index value)))
close_frame (f.List done) g.SquareClose frames outside room value = on_value frames outside (e.List (done ++ value ∷ []))
close_frame (f.List done) g.Comma frames outside room value = beside frames outside room (f.List (done ++ value ∷ []))
close_frame (f.Member done key) g.CurlyClose frames outside room value = on_value frames outside (e.Record (done ++ (key, value) ∷ []))
close_frame (f.Member done key) g.Comma frames outside room value = on frames room (n.Members (done ++ (key, value) ∷ []) outside)
close_frame (f.ChooseYes test) g.Colon frames outside room value = beside frames outside room (f.ChooseNo test value)
close_frame _ _ frames outside room value = t.Unfit

unfoldable pub closed : List Open → ℕ → Expr → Sign → Turn
closed [] room value sign = t.Ended value
closed (o ∷ frames) room value sign = close_frame o.frame sign frames o.room room value

abbrev pub closed_whole : Whole → Sign → Turn
closed_whole w sign = closed w.frames w.room w.value sign

abbrev pub left : Whole → BinOp → Turn
left w op = beside w.frames w.room w.room (f.Left w.value op)

abbrev pub choose : Whole → Turn
choose w = deeper w.frames w.room (f.ChooseYes w.value)

unfoldable pub operated : List Open → ℕ → View → BinOp → Turn
operated frames room view op = left (folded (level op) frames room (value_of view)) op

unfoldable pub chosen : List Open → ℕ → View → Turn
chosen frames room view = choose (folded 1 frames room (value_of view))

unfoldable pub ending : List Open → ℕ → View → Sign → Turn
ending frames room view sign = closed_whole (folded 0 frames room (value_of view)) sign

abbrev pub called : List Open → ℕ → View → Turn
called frames (suc room) v.Latest = on frames (suc room) n.RuleCall
called frames _ _ = t.Unfit

unfoldable pub view_sign : List Open → ℕ → View → Sign → Turn
view_sign frames room view g.Question = chosen frames room view
view_sign frames room view g.Dot = on frames room (n.Dot view)
view_sign frames room view g.SquareOpen = deeper frames room (f.Index view)
view_sign frames room view g.RoundOpen = called frames room view
view_sign frames room view g.RoundClose = ending frames room view g.RoundClose
view_sign frames room view g.SquareClose = ending frames room view g.SquareClose
view_sign frames room view g.CurlyClose = ending frames room view g.CurlyClose
view_sign frames room view g.Comma = ending frames room view g.Comma
view_sign frames room view g.Colon = ending frames room view g.Colon
view_sign frames room view g.Semicolon = ending frames room view g.Semicolon
view_sign frames room view sign = elim (operator_of sign) [ Some op ↦ operated frames room view op | None ↦ t.Unfit ]

abbrev pub alone : Whole → List Open → Option Expr
alone w [] = Some w.value
alone w (o ∷ frames) = None

abbrev pub ended_at : List Open → ℕ → Now → Option Expr
ended_at frames room (n.View view) = let w = folded 0 frames room (value_of view) in alone w w.frames
ended_at frames room _ = None

-- the value of an expression that ends here
unfoldable pub ended : Inside → Option Expr
ended i = ended_at i.frames i.room i.now

abbrev pub if_ended : Option Expr → Turn
if_ended None = t.Unfit
if_ended (Some value) = t.Ended value

abbrev pub before_else : Inside → Role → Turn
before_else i r.Else = if_ended (ended i)
before_else i _ = t.Unfit

unfoldable pub on_view : List Open → ℕ → View → Lexeme → Turn
on_view frames room view (l.Sign sign) = view_sign frames room view sign
on_view frames room view (l.Word w) = before_else (record { frames = frames; room = room; now = n.View view }) (role_of w)
on_view frames room view _ = t.Unfit

-- ---- within a list, a record, `rules` and `meta`

unfoldable pub on_list : List Open → ℕ → ℕ → Lexeme → Turn
on_list frames room outside (l.Sign g.SquareClose) = on_value frames outside (e.List [])
on_list frames room outside lexeme = on_start (opened (f.List []) outside ∷ frames) room false lexeme

abbrev pub keyed : List Open → ℕ → ℕ → List (List ℕ × Expr) → List ℕ → Turn
keyed frames room outside done key = on frames room (n.Keyed done key outside)

abbrev pub record_closed : List Open → ℕ → List (List ℕ × Expr) → Turn
record_closed frames outside [] = on_value frames outside (e.Record [])
record_closed frames outside (m ∷ done) = t.Unfit

unfoldable pub on_members : List Open → ℕ → ℕ → List (List ℕ × Expr) → Lexeme → Turn
on_members frames room outside done (l.Sign g.CurlyClose) = record_closed frames outside done
on_members frames room outside done lexeme = elim (key_of lexeme) [ Some key ↦ keyed frames room outside done key | None ↦ t.Unfit ]

unfoldable pub on_keyed : List Open → ℕ → ℕ → List (List ℕ × Expr) → List ℕ → Lexeme → Turn
on_keyed frames room outside done key (l.Sign g.Colon) = beside frames outside room (f.Member done key)
on_keyed frames room outside done key _ = t.Unfit

unfoldable pub on_dot : List Open → ℕ → View → Lexeme → Turn
on_dot frames room view (l.Word w) = on frames room (n.View (extended view (k.Word w)))
on_dot frames room view _ = t.Unfit

unfoldable pub past_dot : List Open → ℕ → Now → Lexeme → Turn
past_dot frames room now (l.Sign g.Dot) = on frames room now
past_dot frames room now _ = t.Unfit

unfoldable pub past_close : List Open → ℕ → Now → Lexeme → Turn
past_close frames room now (l.Sign g.RoundClose) = on frames room now
past_close frames room now _ = t.Unfit

unfoldable pub on_rule : List Open → ℕ → Lexeme → Turn
on_rule frames room (l.Word w) = on frames room (n.View (rule_view w (role_of w)))
on_rule frames room _ = t.Unfit

unfoldable pub on_meta : List Open → ℕ → Lexeme → Turn
on_meta frames room (l.Word w) = on frames room (n.Source (s.Rule w))
on_meta frames room _ = t.Unfit

abbrev pub call_of : List Open → ℕ → Role → Turn
call_of frames (suc room) r.Latest = on frames (suc room) (n.SourceCall s.Latest)
call_of frames (suc room) r.Current = on frames (suc room) (n.SourceCall s.Current)
call_of frames _ _ = t.Unfit

abbrev pub source_called : List Open → ℕ → Source → Turn
source_called frames room (s.Rule w) = call_of frames room (role_of w)
source_called frames room _ = t.Unfit

unfoldable pub on_source : List Open → ℕ → Source → Lexeme → Turn
on_source frames room source (l.Sign g.Dot) = on frames room (n.SourceDot source)
on_source frames room source (l.Sign g.RoundOpen) = source_called frames room source
on_source frames room source _ = t.Unfit

abbrev pub source_text : List Open → ℕ → Source → Role → Turn
source_text frames room source r.Text = on_value frames room (text_of source)
source_text frames room source _ = t.Unfit

unfoldable pub on_text : List Open → ℕ → Source → Lexeme → Turn
on_text frames room source (l.Word w) = source_text frames room source (role_of w)
on_text frames room source _ = t.Unfit

-- ---- one lexeme

abbrev pub turn_at : List Open → ℕ → Now → Lexeme → Turn
turn_at frames room (n.Start first) x = on_start frames room first x
turn_at frames room (n.View view) x = on_view frames room view x
turn_at frames room (n.Dot view) x = on_dot frames room view x
turn_at frames room (n.ListStart outside) x = on_list frames room outside x
turn_at frames room (n.Members done outside) x = on_members frames room outside done x
turn_at frames room (n.Keyed done key outside) x = on_keyed frames room outside done key x
turn_at frames room n.Rules x = past_dot frames room n.RulesDot x
turn_at frames room n.RulesDot x = on_rule frames room x
turn_at frames room n.RuleCall x = past_close frames room (n.View (v.Value e.LatestRule)) x
turn_at frames room n.Meta x = past_dot frames room n.MetaDot x
turn_at frames room n.MetaDot x = on_meta frames room x
turn_at frames room (n.Source source) x = on_source frames room source x
turn_at frames room (n.SourceCall source) x = past_close frames room (n.Source source) x
turn_at frames room (n.SourceDot source) x = on_text frames room source x

unfoldable pub turn : Inside → Lexeme → Turn
turn i x = turn_at i.frames i.room i.now x
