-- The machine that reads statements: what one more lexeme does.
use Rattle.std.specs.Prelude.{ℕ, zero, suc, ◌==◌, ◌&&◌, length, Bool, true, false, cond, List, [], ◌∷◌, ◌++◌, Option, Some, None, if◌then◌else◌}
use Rattle.vg_base.specs.Limits.{nesting}
use Rattle.vg_base.specs.declared.script.Expr.{Expr}
use Rattle.vg_base.specs.declared.script.Key.{Key}
use Rattle.vg_base.specs.declared.script.Root.{Root}
use Rattle.vg_base.specs.declared.script.AssignOp.{AssignOp}
use Rattle.vg_base.specs.declared.script.Stmt.{Stmt}
use Rattle.vg_base.specs.declared.script.Stmt.TheVariants as st
use Rattle.vg_base.specs.declared.script.Script.{Script}
use Rattle.script_reader.specs.declared.lexing.lexeme.Sign.TheVariants as g
use Rattle.script_reader.specs.declared.lexing.lexeme.Lexeme.{Lexeme}
use Rattle.script_reader.specs.declared.lexing.lexeme.Lexeme.TheVariants as l
use Rattle.script_reader.specs.declared.lexing.roles.Role.{Role}
use Rattle.script_reader.specs.declared.lexing.roles.Role.TheVariants as r
use Rattle.script_reader.specs.declared.machine.stack.View.TheVariants as v
use Rattle.script_reader.specs.declared.machine.stack.Now.{Now}
use Rattle.script_reader.specs.declared.machine.stack.Now.TheVariants as n
use Rattle.script_reader.specs.declared.machine.stack.Open.{Open}
use Rattle.script_reader.specs.declared.machine.stack.Inside.{Inside}
use Rattle.script_reader.specs.declared.machine.stack.Turn.{Turn}
use Rattle.script_reader.specs.declared.machine.stack.Turn.TheVariants as t
use Rattle.script_reader.specs.declared.machine.stack.Purpose.{Purpose}
use Rattle.script_reader.specs.declared.machine.stack.Purpose.TheVariants as p
use Rattle.script_reader.specs.declared.machine.stack.Phase.{Phase}
use Rattle.script_reader.specs.declared.machine.stack.Phase.TheVariants as ph
use Rattle.script_reader.specs.declared.machine.stack.Part.{Part}
use Rattle.script_reader.specs.declared.machine.stack.Part.TheVariants as pt
use Rattle.script_reader.specs.declared.machine.stack.Outer.{Outer}
use Rattle.script_reader.specs.declared.machine.stack.State.{State}
use Rattle.script_reader.specs.declared.machine.stack.Closing.{Closing}
use Rattle.script_reader.specs.declared.machine.statement.ends.Closer.{Closer}
use Rattle.script_reader.specs.declared.machine.statement.ends.Closer.TheVariants as c
use Rattle.script_reader.specs.declared.machine.statement.starts.Beginning.{Beginning}
use Rattle.script_reader.specs.declared.machine.statement.starts.Beginning.TheVariants as b
use Rattle.script_reader.specs.code.Marks.{assignment_of}
use Rattle.script_reader.specs.Roles.{role_of, is_name}
use Rattle.script_reader.specs.code.Expressions.{begun, ended, turn}

abbrev pub at : List Stmt → List Outer → ℕ → Phase → State
at body outer room phase = record { body = body; outer = outer; room = room; phase = phase }

abbrev pub start : State
start = at [] [] nesting ph.Start

abbrev pub around : Part → ℕ → Outer
around part room = record { part = part; room = room }

-- ---- what a statement ends

abbrev pub closes : Bool → Part → Bool
closes all (pt.Block done) = false
closes all (pt.IfYes test) = all
closes all (pt.IfElse test positive) = true

abbrev pub made : Part → Stmt → Stmt
made (pt.Block done) statement = statement
made (pt.IfYes test) statement = st.If test statement None
made (pt.IfElse test positive) statement = st.If test positive (Some statement)

abbrev pub top_closes : Bool → List Outer → Bool
top_closes all [] = false
top_closes all (o ∷ outer) = closes all o.part

-- each `if` that ends with this statement is ended: those with an `else`, or all
unfoldable pub settled : Bool → List Outer → ℕ → Stmt → Closing
settled all [] room statement = record { outer = []; room = room; statement = statement }
settled all (o ∷ outer) room statement =
    cond (closes all o.part) (settled all outer o.room (made o.part statement)) (record { outer = o ∷ outer; room = room; statement = statement })

abbrev pub listed_at : List Stmt → Part → ℕ → List Outer → ℕ → Stmt → State
listed_at body (pt.Block done) outside outer room statement = at body (around (pt.Block (done ++ statement ∷ [])) outside ∷ outer) room ph.Start
listed_at body part outside outer room statement = at body (around part outside ∷ outer) room (ph.Done statement)

-- a statement stands at the end of its list
abbrev pub listed : List Stmt → List Outer → ℕ → Stmt → State
listed body [] room statement = at (body ++ statement ∷ []) [] room ph.Start
listed body (o ∷ outer) room statement = listed_at body o.part o.room outer room statement

abbrev pub listed_closing : List Stmt → Closing → State
listed_closing body c = listed body c.outer c.room c.statement

-- behind a whole statement that no `else` follows
unfoldable pub next : List Stmt → List Outer → ℕ → Stmt → State
next body outer room statement = listed_closing body (settled true outer room statement)

abbrev pub branch_at : List Stmt → Part → ℕ → List Outer → ℕ → Stmt → Option State
branch_at body (pt.IfYes test) outside outer room statement = Some (at body (around (pt.IfElse test statement) outside ∷ outer) room ph.Start)
branch_at body _ outside outer room statement = None

abbrev pub other_branch : List Stmt → List Outer → ℕ → Stmt → Option State
other_branch body [] room statement = None
other_branch body (o ∷ outer) room statement = branch_at body o.part o.room outer room statement

abbrev pub branch_closing : List Stmt → Closing → Option State
branch_closing body c = other_branch body c.outer c.room c.statement

-- behind a statement and `else`
unfoldable pub on_else : List Stmt → List Outer → ℕ → Stmt → Option State
on_else body outer room statement = branch_closing body (settled false outer room statement)

abbrev pub block_at : List Stmt → Part → ℕ → List Outer → Option State
block_at body (pt.Block done) room outer = Some (at body outer room (ph.Done (st.Block done)))
block_at body _ room outer = None

abbrev pub block_closed : List Stmt → List Outer → Option State
block_closed body [] = None
block_closed body (o ∷ outer) = block_at body o.part o.room outer

-- behind a statement and the `}` of its block
abbrev pub on_curly : List Stmt → List Outer → ℕ → Stmt → Option State
on_curly body outer room statement = let s = next body outer room statement in block_closed s.body s.outer

abbrev pub word_closer : Role → Closer
word_closer r.Else = c.Else
word_closer _ = c.Other

abbrev pub closer_of : Lexeme → Closer
closer_of (l.Sign g.Semicolon) = c.Semicolon
closer_of (l.Sign g.RoundClose) = c.RoundClose
closer_of (l.Sign g.CurlyClose) = c.CurlyClose
closer_of (l.Word w) = word_closer (role_of w)
closer_of _ = c.Other

-- a statement that wants its end
unfoldable pub on_end : List Stmt → List Outer → ℕ → Stmt → Closer → Option State
on_end body outer room statement c.Semicolon = Some (at body outer room (ph.Done statement))
on_end body outer room statement c.CurlyClose = on_curly body outer room statement
on_end body outer room statement c.Else = on_else body outer room statement
on_end body outer room statement c.RoundClose = None
on_end body outer room statement c.Other = None

-- ---- the expressions of a statement

abbrev pub statement_of : Purpose → Expr → Option Stmt
statement_of p.Plain value = Some (st.Plain value)
statement_of (p.Var name) value = Some (st.Var name (Some value))
statement_of (p.Assign root path op) value = Some (st.Assign root path op value)
statement_of (p.Test inside) value = None

unfoldable pub on_test : List Stmt → List Outer → ℕ → ℕ → Expr → Closer → Option State
on_test body outer room inside test c.RoundClose = Some (at body (around (pt.IfYes test) room ∷ outer) inside ph.Start)
on_test body outer room inside test _ = None

unfoldable pub on_ended : List Stmt → List Outer → ℕ → Purpose → Expr → Closer → Option State
on_ended body outer room p.Plain value closer = on_end body outer room (st.Plain value) closer
on_ended body outer room (p.Var name) value closer = on_end body outer room (st.Var name (Some value)) closer
on_ended body outer room (p.Assign root path op) value closer = on_end body outer room (st.Assign root path op value) closer
on_ended body outer room (p.Test inside) value closer = on_test body outer room inside value closer

abbrev pub with_value : List Stmt → List Outer → ℕ → Purpose → Inside → State
with_value body outer room purpose inside = at body outer room (ph.Value purpose inside)

-- what is assigned to, where an assignment may begin here
abbrev pub is_plain : Purpose → Bool
is_plain p.Plain = true
is_plain _ = false

-- the target that stands in view
abbrev pub target_in : Now → Option (Root × List Key)
target_in (n.View (v.Target root path)) = Some (root, path)
target_in _ = None

-- a target can be assigned to where it is all of its statement so far
abbrev pub target_of : Purpose → List Open → Now → Option (Root × List Key)
target_of purpose frames now = if is_plain purpose && length frames == 0 then target_in now else None

abbrev pub assigned_to : List Stmt → List Outer → ℕ → AssignOp → Option (Root × List Key) → Option State
assigned_to body outer room op None = None
assigned_to body outer room op (Some target) = Some (with_value body outer room (p.Assign target.0 target.1 op) (begun room false))

abbrev pub assigned : List Stmt → List Outer → ℕ → Purpose → Inside → AssignOp → Option State
assigned body outer room purpose inside op = assigned_to body outer room op (target_of purpose inside.frames inside.now)

abbrev pub assignment : Lexeme → Option AssignOp
assignment (l.Sign sign) = assignment_of sign
assignment _ = None

abbrev pub on_turn : List Stmt → List Outer → ℕ → Purpose → Turn → Closer → Option State
on_turn body outer room purpose (t.On inside) closer = Some (with_value body outer room purpose inside)
on_turn body outer room purpose (t.Ended value) closer = on_ended body outer room purpose value closer
on_turn body outer room purpose t.Unfit closer = None

unfoldable pub on_value : List Stmt → List Outer → ℕ → Purpose → Inside → Lexeme → Option State
on_value body outer room purpose inside lexeme = elim (assignment lexeme) [
  | Some op ↦ assigned body outer room purpose inside op
  | None ↦ on_turn body outer room purpose (turn inside lexeme) (closer_of lexeme)
]

-- ---- the beginning_of of a statement

abbrev pub if_begun : List Stmt → List Outer → ℕ → Option State
if_begun body outer zero = None
if_begun body outer (suc room) = Some (at body outer (suc room) (ph.If room))

abbrev pub block_begun : List Stmt → List Outer → ℕ → Option State
block_begun body outer zero = None
block_begun body outer (suc room) = Some (at body (around (pt.Block []) (suc room) ∷ outer) room ph.Start)

abbrev pub word_beginning : Role → Beginning
word_beginning r.Var = b.Var
word_beginning r.If = b.If
word_beginning _ = b.Value

abbrev pub beginning_of : Lexeme → Beginning
beginning_of (l.Sign g.Semicolon) = b.Semicolon
beginning_of (l.Sign g.CurlyOpen) = b.CurlyOpen
beginning_of (l.Sign g.CurlyClose) = b.CurlyClose
beginning_of (l.Word w) = word_beginning (role_of w)
beginning_of _ = b.Value

abbrev pub begin : List Stmt → List Outer → ℕ → Lexeme → Beginning → Option State
begin body outer room lexeme b.Semicolon = Some (at body outer room (ph.Done st.Empty))
begin body outer room lexeme b.CurlyOpen = block_begun body outer room
begin body outer room lexeme b.CurlyClose = block_closed body outer
begin body outer room lexeme b.Var = Some (at body outer room ph.Var)
begin body outer room lexeme b.If = if_begun body outer room
begin body outer room lexeme b.Value = on_value body outer room p.Plain (begun room true) lexeme

unfoldable pub on_start : List Stmt → List Outer → ℕ → Lexeme → Option State
on_start body outer room lexeme = begin body outer room lexeme (beginning_of lexeme)

abbrev pub behind : State → Lexeme → Option State
behind s lexeme = on_start s.body s.outer s.room lexeme

abbrev pub done_at : List Stmt → List Outer → ℕ → Stmt → Lexeme → Closer → Option State
done_at body outer room statement lexeme c.Else = on_else body outer room statement
done_at body outer room statement lexeme _ = behind (next body outer room statement) lexeme

unfoldable pub on_done : List Stmt → List Outer → ℕ → Stmt → Lexeme → Option State
on_done body outer room statement lexeme = done_at body outer room statement lexeme (closer_of lexeme)

unfoldable pub on_var : List Stmt → List Outer → ℕ → Lexeme → Option State
on_var body outer room (l.Word w) = if is_name (role_of w) then Some (at body outer room (ph.VarName w)) else None
on_var body outer room _ = None

unfoldable pub on_var_name : List Stmt → List Outer → ℕ → List ℕ → Lexeme → Option State
on_var_name body outer room name (l.Sign g.Set) = Some (with_value body outer room (p.Var name) (begun room false))
on_var_name body outer room name lexeme = on_end body outer room (st.Var name None) (closer_of lexeme)

unfoldable pub on_if : List Stmt → List Outer → ℕ → ℕ → Lexeme → Option State
on_if body outer room inside (l.Sign g.RoundOpen) = Some (with_value body outer room (p.Test inside) (begun inside false))
on_if body outer room inside _ = None

-- ---- one lexeme, many lexemes, and the end

abbrev pub step_at : List Stmt → List Outer → ℕ → Phase → Lexeme → Option State
step_at body outer room ph.Start x = on_start body outer room x
step_at body outer room (ph.Done statement) x = on_done body outer room statement x
step_at body outer room ph.Var x = on_var body outer room x
step_at body outer room (ph.VarName name) x = on_var_name body outer room name x
step_at body outer room (ph.If inside) x = on_if body outer room inside x
step_at body outer room (ph.Value purpose inside) x = on_value body outer room purpose inside x

unfoldable pub step : State → Lexeme → Option State
step s x = step_at s.body s.outer s.room s.phase x

abbrev pub go_on : (State → Option State) → Option State → Option State
go_on f None = None
go_on f (Some s) = f s

-- the state after several lexemes
unfoldable pub run : State → List Lexeme → Option State
run s [] = Some s
run s (x ∷ more) = go_on (λ t. run t more) (step s x)

abbrev pub script_of : List Stmt → List Outer → Option Script
script_of body [] = Some (record { body = body })
script_of body (o ∷ outer) = None

abbrev pub ended_as : Purpose → Option Expr → Option Stmt
ended_as purpose None = None
ended_as purpose (Some value) = statement_of purpose value

abbrev pub last_of : Phase → Option Stmt
last_of (ph.Done statement) = Some statement
last_of (ph.VarName name) = Some (st.Var name None)
last_of (ph.Value purpose inside) = ended_as purpose (ended inside)
last_of ph.Start = None
last_of ph.Var = None
last_of (ph.If inside) = None

abbrev pub script_with : List Stmt → List Outer → ℕ → Option Stmt → Option Script
script_with body outer room None = None
script_with body outer room (Some statement) = let s = next body outer room statement in script_of s.body s.outer

abbrev pub result_at : List Stmt → List Outer → ℕ → Phase → Option Script
result_at body outer room ph.Start = script_of body outer
result_at body outer room phase = script_with body outer room (last_of phase)

-- the script that ends here
unfoldable pub result_of : State → Option Script
result_of s = result_at s.body s.outer s.room s.phase
