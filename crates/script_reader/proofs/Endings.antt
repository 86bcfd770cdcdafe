-- What ends a statement, and what a statement ends.
use Rattle.std.proofs.Common.{◌≡◌, ℕ, Bool, true, false, cond, List, [], ◌∷◌, Option, Some, None, refl, ap, ◌∙◌, codes}
use Rattle.vg_base.specs.declared.script.Expr.{Expr}
use Rattle.vg_base.specs.declared.script.Stmt.{Stmt}
use Rattle.vg_base.specs.declared.script.Stmt.TheVariants as st
use Rattle.script_reader.specs.declared.lexing.lexeme.Sign.{Sign}
use Rattle.script_reader.specs.declared.lexing.lexeme.Sign.TheVariants as g
use Rattle.script_reader.specs.declared.lexing.lexeme.Lexeme.{Lexeme}
use Rattle.script_reader.specs.declared.lexing.lexeme.Lexeme.TheVariants as l
use Rattle.script_reader.specs.declared.machine.stack.Now.{Now}
use Rattle.script_reader.specs.declared.machine.stack.Now.TheVariants as n
use Rattle.script_reader.specs.declared.machine.stack.Open.{Open}
use Rattle.script_reader.specs.declared.machine.stack.Inside.{Inside}
use Rattle.script_reader.specs.declared.machine.stack.Turn.{Turn}
use Rattle.script_reader.specs.declared.machine.stack.Turn.TheVariants as t
use Rattle.script_reader.specs.declared.machine.stack.Purpose.{Purpose}
use Rattle.script_reader.specs.declared.machine.stack.Purpose.TheVariants as p
use Rattle.script_reader.specs.declared.machine.stack.Phase.{Phase}
use Rattle.script_reader.specs.declared.machine.stack.Phase.TheVariants as ph
use Rattle.script_reader.specs.declared.machine.stack.Part.{Part}
use Rattle.script_reader.specs.declared.machine.stack.Part.TheVariants as pt
use Rattle.script_reader.specs.declared.machine.stack.Outer.{Outer}
use Rattle.script_reader.specs.declared.machine.stack.Closing.{Closing}
use Rattle.script_reader.specs.declared.machine.statement.ends.Closer.{Closer}
use Rattle.script_reader.specs.declared.machine.statement.ends.Closer.TheVariants as c
use Rattle.script_reader.specs.Roles.{role_of}
use Rattle.script_reader.specs.code.Expressions.{value_of, folded, closed, view_sign, ending, on_view, alone, ended_at, ended, if_ended, turn}
use Rattle.script_reader.specs.code.Statements.{at, around, closes, made, top_closes, settled, next, on_else, on_curly, on_end, statement_of, on_test, on_ended, with_value, on_turn, on_value, on_start, on_done, on_var_name, step, script_of, ended_as, last_of, script_with, result_of}
use Rattle.script_reader.proofs.Turns.{In}
use Rattle.script_reader.proofs.Folding.{whole}

abbrev pub else_word : Lexeme
else_word = l.Word (codes "else")

-- ---- an expression that ends

alone_closed : (frames : List Open) (room : ℕ) (x y : Expr) (sign : Sign) → alone (whole frames room x) frames ≡ Some y → closed frames room x sign ≡ t.Ended y
unfolding closed
alone_closed [] room x y sign h = ap t.Ended (some_is x y h)
  where
    some_is : (x y : Expr) → Some x ≡ Some y → x ≡ y
    some_is x y q = cc
alone_closed (o ∷ frames) room x y sign h = absurd cc

ended_semicolon : (frames : List Open) (room : ℕ) (now : Now) (y : Expr) → ended_at frames room now ≡ Some y → turn (In frames room now) (l.Sign g.Semicolon) ≡ t.Ended y
unfolding turn on_view view_sign ending
ended_semicolon frames room (n.View view) y h = let w = folded 0 frames room (value_of view) in alone_closed w.frames w.room w.value y g.Semicolon h
ended_semicolon frames room _ y h = absurd cc

ended_round : (frames : List Open) (room : ℕ) (now : Now) (y : Expr) → ended_at frames room now ≡ Some y → turn (In frames room now) (l.Sign g.RoundClose) ≡ t.Ended y
unfolding turn on_view view_sign ending
ended_round frames room (n.View view) y h = let w = folded 0 frames room (value_of view) in alone_closed w.frames w.room w.value y g.RoundClose h
ended_round frames room _ y h = absurd cc

ended_curly : (frames : List Open) (room : ℕ) (now : Now) (y : Expr) → ended_at frames room now ≡ Some y → turn (In frames room now) (l.Sign g.CurlyClose) ≡ t.Ended y
unfolding turn on_view view_sign ending
ended_curly frames room (n.View view) y h = let w = folded 0 frames room (value_of view) in alone_closed w.frames w.room w.value y g.CurlyClose h
ended_curly frames room _ y h = absurd cc

ended_else : (frames : List Open) (room : ℕ) (now : Now) (y : Expr) → ended_at frames room now ≡ Some y → turn (In frames room now) else_word ≡ t.Ended y
unfolding turn on_view ended role_of
ended_else frames room (n.View view) y h = ap if_ended h
ended_else frames room _ y h = absurd cc

-- ---- the expression of a statement ends

value_semicolon : (body : List Stmt) (outer : List Outer) (room : ℕ) (purpose : Purpose) (i : Inside) (y : Expr) → ended i ≡ Some y
    → step (with_value body outer room purpose i) (l.Sign g.Semicolon) ≡ on_ended body outer room purpose y c.Semicolon
unfolding step on_value ended
value_semicolon body outer room purpose i y h = ap (λ (o : Turn). on_turn body outer room purpose o c.Semicolon) (ended_semicolon i.frames i.room i.now y h)

value_round : (body : List Stmt) (outer : List Outer) (room : ℕ) (purpose : Purpose) (i : Inside) (y : Expr) → ended i ≡ Some y
    → step (with_value body outer room purpose i) (l.Sign g.RoundClose) ≡ on_ended body outer room purpose y c.RoundClose
unfolding step on_value ended
value_round body outer room purpose i y h = ap (λ (o : Turn). on_turn body outer room purpose o c.RoundClose) (ended_round i.frames i.room i.now y h)

value_curly : (body : List Stmt) (outer : List Outer) (room : ℕ) (purpose : Purpose) (i : Inside) (y : Expr) → ended i ≡ Some y
    → step (with_value body outer room purpose i) (l.Sign g.CurlyClose) ≡ on_ended body outer room purpose y c.CurlyClose
unfolding step on_value ended
value_curly body outer room purpose i y h = ap (λ (o : Turn). on_turn body outer room purpose o c.CurlyClose) (ended_curly i.frames i.room i.now y h)

value_else : (body : List Stmt) (outer : List Outer) (room : ℕ) (purpose : Purpose) (i : Inside) (y : Expr) → ended i ≡ Some y
    → step (with_value body outer room purpose i) else_word ≡ on_ended body outer room purpose y c.Else
unfolding step on_value ended role_of
value_else body outer room purpose i y h = ap (λ (o : Turn). on_turn body outer room purpose o c.Else) (ended_else i.frames i.room i.now y h)

ended_statement : (body : List Stmt) (outer : List Outer) (room : ℕ) (purpose : Purpose) (y : Expr) (s : Stmt) (closer : Closer) → statement_of purpose y ≡ Some s
    → on_ended body outer room purpose y closer ≡ on_end body outer room s closer
unfolding on_ended
ended_statement body outer room p.Plain y s closer h = ap (λ (x : Stmt). on_end body outer room x closer) (same_statement _ s h)
  where
    same_statement : (x y : Stmt) → Some x ≡ Some y → x ≡ y
    same_statement x y q = cc
ended_statement body outer room (p.Var name) y s closer h = ap (λ (x : Stmt). on_end body outer room x closer) (same_statement _ s h)
  where
    same_statement : (x y : Stmt) → Some x ≡ Some y → x ≡ y
    same_statement x y q = cc
ended_statement body outer room (p.Assign root path op) y s closer h = ap (λ (x : Stmt). on_end body outer room x closer) (same_statement _ s h)
  where
    same_statement : (x y : Stmt) → Some x ≡ Some y → x ≡ y
    same_statement x y q = cc
ended_statement body outer room (p.Test inside) y s closer h = absurd cc

pub test_closed : (body : List Stmt) (outer : List Outer) (room inside : ℕ) (i : Inside) (y : Expr) → ended i ≡ Some y
    → step (with_value body outer room (p.Test inside) i) (l.Sign g.RoundClose) ≡ Some (at body (around (pt.IfYes y) room ∷ outer) inside ph.Start)
unfolding on_ended on_test
test_closed body outer room inside i y h = value_round body outer room (p.Test inside) i y h

-- ---- a statement that ends

ended_from : (purpose : Purpose) (o : Option Expr) (s : Stmt) → ended_as purpose o ≡ Some s → (y : Expr) × (o ≡ Some y) × (statement_of purpose y ≡ Some s)
ended_from purpose None s h = absurd cc
ended_from purpose (Some y) s h = (y, refl, h)

pub step_semicolon : (body : List Stmt) (outer : List Outer) (room : ℕ) (purpose : Purpose) (i : Inside) (y : Expr) (s : Stmt) → ended i ≡ Some y → statement_of purpose y ≡ Some s
    → step (with_value body outer room purpose i) (l.Sign g.Semicolon) ≡ Some (at body outer room (ph.Done s))
unfolding on_end
step_semicolon body outer room purpose i y s h k = value_semicolon body outer room purpose i y h ∙ ended_statement body outer room purpose y s c.Semicolon k

pub step_curly : (body : List Stmt) (outer : List Outer) (room : ℕ) (phase : Phase) (s : Stmt) → last_of phase ≡ Some s
    → step (at body outer room phase) (l.Sign g.CurlyClose) ≡ on_curly body outer room s
unfolding step on_end on_start on_done on_var_name
step_curly body outer room (ph.Done x) s h = ap (λ (y : Stmt). on_curly body outer room y) (same_statement x s h)
  where
    same_statement : (x y : Stmt) → Some x ≡ Some y → x ≡ y
    same_statement x y q = cc
step_curly body outer room (ph.VarName w) s h = ap (λ (y : Stmt). on_curly body outer room y) (same_statement (st.Var w None) s h)
  where
    same_statement : (x y : Stmt) → Some x ≡ Some y → x ≡ y
    same_statement x y q = cc
step_curly body outer room (ph.Value purpose i) s h =
    let q = ended_from purpose (ended i) s h in value_curly body outer room purpose i q.0 q.1 ∙ ended_statement body outer room purpose q.0 s c.CurlyClose q.2
step_curly body outer room ph.Start s h = absurd cc
step_curly body outer room ph.Var s h = absurd cc
step_curly body outer room (ph.If inside) s h = absurd cc

pub step_else : (body : List Stmt) (outer : List Outer) (room : ℕ) (phase : Phase) (s : Stmt) → last_of phase ≡ Some s
    → step (at body outer room phase) else_word ≡ on_else body outer room s
unfolding step on_end on_start on_done on_var_name role_of
step_else body outer room (ph.Done x) s h = ap (λ (y : Stmt). on_else body outer room y) (same_statement x s h)
  where
    same_statement : (x y : Stmt) → Some x ≡ Some y → x ≡ y
    same_statement x y q = cc
step_else body outer room (ph.VarName w) s h = ap (λ (y : Stmt). on_else body outer room y) (same_statement (st.Var w None) s h)
  where
    same_statement : (x y : Stmt) → Some x ≡ Some y → x ≡ y
    same_statement x y q = cc
step_else body outer room (ph.Value purpose i) s h =
    let q = ended_from purpose (ended i) s h in value_else body outer room purpose i q.0 q.1 ∙ ended_statement body outer room purpose q.0 s c.Else q.2
step_else body outer room ph.Start s h = absurd cc
step_else body outer room ph.Var s h = absurd cc
step_else body outer room (ph.If inside) s h = absurd cc

pub result_last : (body : List Stmt) (outer : List Outer) (room : ℕ) (phase : Phase) (s : Stmt) → last_of phase ≡ Some s
    → result_of (at body outer room phase) ≡ script_of (next body outer room s).body (next body outer room s).outer
unfolding result_of
result_last body outer room (ph.Done x) s h = ap (script_with body outer room) h
result_last body outer room (ph.VarName w) s h = ap (script_with body outer room) h
result_last body outer room (ph.Value purpose i) s h = ap (script_with body outer room) h
result_last body outer room ph.Start s h = absurd cc
result_last body outer room ph.Var s h = absurd cc
result_last body outer room (ph.If inside) s h = absurd cc

-- ---- what a statement ends

abbrev pub closing : List Outer → ℕ → Stmt → Closing
closing outer room s = record { outer = outer; room = room; statement = s }

pub settled-stays : (all : Bool) (outer : List Outer) (room : ℕ) (s : Stmt) → top_closes all outer ≡ false → settled all outer room s ≡ closing outer room s
unfolding settled
settled-stays all [] room s h = refl
settled-stays all (o ∷ outer) room s h = ap (λ b. cond b (settled all outer o.room (made o.part s)) (closing (o ∷ outer) room s)) h

pub settled-on : (all : Bool) (part : Part) (outside : ℕ) (outer : List Outer) (room : ℕ) (s : Stmt) → closes all part ≡ true
    → settled all (around part outside ∷ outer) room s ≡ settled all outer outside (made part s)
unfolding settled
settled-on all part outside outer room s h = ap (λ b. cond b (settled all outer outside (made part s)) (closing (around part outside ∷ outer) room s)) h
