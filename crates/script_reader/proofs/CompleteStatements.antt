-- Each script of the grammar is read as what it means.
use Rattle.std.proofs.Common.{◌≡◌, ℕ, suc, Bool, true, false, List, [], ◌∷◌, ◌++◌, Option, Some, None, refl, sym, ap, ◌∙◌, ◌⊎◌, inl, inr, codes, arith}
use Rattle.vg_base.specs.declared.script.Expr.{Expr}
use Rattle.vg_base.specs.declared.script.Key.{Key}
use Rattle.vg_base.specs.declared.script.Key.TheVariants as k
use Rattle.vg_base.specs.declared.script.Root.{Root}
use Rattle.vg_base.specs.declared.script.AssignOp.{AssignOp}
use Rattle.vg_base.specs.declared.script.AssignOp.TheVariants as a
use Rattle.vg_base.specs.declared.script.Stmt.{Stmt}
use Rattle.vg_base.specs.declared.script.Stmt.TheVariants as st
use Rattle.vg_base.specs.declared.script.Script.{Script}
use Rattle.script_reader.specs.declared.lexing.lexeme.Sign.{Sign}
use Rattle.script_reader.specs.declared.lexing.lexeme.Sign.TheVariants as g
use Rattle.script_reader.specs.declared.lexing.lexeme.Lexeme.{Lexeme}
use Rattle.script_reader.specs.declared.lexing.lexeme.Lexeme.TheVariants as l
use Rattle.script_reader.specs.declared.lexing.roles.Role.{Role}
use Rattle.script_reader.specs.declared.lexing.roles.Role.TheVariants as r
use Rattle.script_reader.specs.declared.machine.stack.View.{View}
use Rattle.script_reader.specs.declared.machine.stack.View.TheVariants as v
use Rattle.script_reader.specs.declared.machine.stack.Now.{Now}
use Rattle.script_reader.specs.declared.machine.stack.Now.TheVariants as n
use Rattle.script_reader.specs.declared.machine.stack.Open.{Open}
use Rattle.script_reader.specs.declared.machine.stack.Inside.{Inside}
use Rattle.script_reader.specs.declared.machine.stack.Whole.{Whole}
use Rattle.script_reader.specs.declared.machine.stack.Turn.{Turn}
use Rattle.script_reader.specs.declared.machine.stack.Turn.TheVariants as t
use Rattle.script_reader.specs.declared.machine.stack.Purpose.{Purpose}
use Rattle.script_reader.specs.declared.machine.stack.Purpose.TheVariants as p
use Rattle.script_reader.specs.declared.machine.stack.Phase.{Phase}
use Rattle.script_reader.specs.declared.machine.stack.Phase.TheVariants as ph
use Rattle.script_reader.specs.declared.machine.stack.Part.TheVariants as pt
use Rattle.script_reader.specs.declared.machine.stack.Outer.{Outer}
use Rattle.script_reader.specs.declared.machine.stack.State.{State}
use Rattle.script_reader.specs.declared.machine.statement.ends.Closer.{Closer}
use Rattle.script_reader.specs.declared.machine.statement.ends.Closer.TheVariants as c
use Rattle.script_reader.specs.declared.machine.statement.starts.Beginning.TheVariants as bg
use Rattle.script_reader.specs.Roles.{role_of, IsName}
use Rattle.script_reader.specs.code.Expressions.{value_of, begun, extended, folded, start_word, start_sign, on_start as start_turn, alone, ended, turn}
use Rattle.script_reader.specs.code.Statements.{go_on, on_turn, ended_as, behind as behind_it, at, start, around, settled, listed_closing, next, branch_closing, on_else, block_closed, word_closer, closer_of, on_end, statement_of, with_value, on_value, word_beginning, beginning_of, begin, on_start, done_at, on_done, on_var, on_var_name, on_if, step, run, script_of, last_of, result_of}
use Rattle.script_reader.specs.Grammar.{Expression, Operand, out, name, dotted, indexed, expression_spelled, operand_spelled, expression_meant, FitsExpression, Target, stepped, target_of, Statement, Statements, End, empty, block, declared, defined, if_alone, if_else, assigned, plain, no_statement, more, semicolon, nothing, end_spelled, assignment_sign, statement_spelled, statements_spelled, statement_meant, statements_meant, lacks, ends_open, ends_in_if, AllEnd, BeginsNoBlock, FitsStatement, FitsStatements, SpellsScript}
use Rattle.script_reader.proofs.Turns.{on_to, turns}
use Rattle.script_reader.proofs.Folding.{folded-stays}
use Rattle.script_reader.proofs.Steps.{Viewing, Starting}
use Rattle.script_reader.proofs.Complete.{view_of, complete_expression, complete_operand}
use Rattle.script_reader.proofs.Runs.{run-then, run-more, run-none, run-one, step_value, run_turns}
use Rattle.script_reader.proofs.Endings.{else_word, test_closed, step_semicolon, step_curly, step_else, result_last, settled-stays, settled-on}

-- ---- the beginning of a statement

unfit_apart : (o : Turn) (j : Inside) → o ≡ t.Unfit → o ≡ t.On j → ⊥
unfit_apart o j h q = cc

word_begins : (room : ℕ) (w : List ℕ) (role : Role) (j : Inside) → start_word [] room true w role ≡ t.On j → word_beginning role ≡ bg.Value
unfolding start_word
word_begins room w r.Var j h = absurd cc
word_begins room w r.If j h = absurd cc
word_begins room w _ j h = refl

sign_begins : (room : ℕ) (sign : Sign) (j : Inside) → (l.Sign sign ≡ l.Sign g.CurlyOpen → ⊥) → start_sign [] room sign ≡ t.On j → beginning_of (l.Sign sign) ≡ bg.Value
unfolding start_sign
sign_begins room g.Semicolon j n h = absurd cc
sign_begins room g.CurlyClose j n h = absurd cc
sign_begins room g.CurlyOpen j n h = absurd (n refl)
sign_begins room _ j n h = refl

-- what begins an expression, and isn't `{`, begins no other statement
value_begins : (room : ℕ) (x : Lexeme) (j : Inside) → (x ≡ l.Sign g.CurlyOpen → ⊥) → turn (begun room true) x ≡ t.On j → beginning_of x ≡ bg.Value
unfolding turn start_turn
value_begins room (l.Word w) j n h = word_begins room w (role_of w) j h
value_begins room (l.Sign sign) j n h = sign_begins room sign j n h
value_begins room _ j n h = refl

step_begin : (body : List Stmt) (outer : List Outer) (room : ℕ) (x : Lexeme) (j : Inside) → (x ≡ l.Sign g.CurlyOpen → ⊥) → turn (begun room true) x ≡ t.On j
    → step (at body outer room ph.Start) x ≡ Some (with_value body outer room p.Plain j)
unfolding step on_start
step_begin body outer room x j n h = ap (begin body outer room x) (value_begins room x j n h) ∙ step_value body outer room p.Plain (begun room true) j x h

none_apart : (j : Inside) → None ≡ Some j → ⊥
none_apart j h = cc

begin_turn : (body : List Stmt) (outer : List Outer) (room : ℕ) (x : Lexeme) (xs : List Lexeme) (m : Inside) (o : Turn) → (x ≡ l.Sign g.CurlyOpen → ⊥) → turn (begun room true) x ≡ o
    → on_to (λ j. turns j xs) o ≡ Some m → run (at body outer room ph.Start) (x ∷ xs) ≡ Some (with_value body outer room p.Plain m)
begin_turn body outer room x xs m (t.On j) n e h = run-more _ (with_value body outer room p.Plain j) _ x xs (step_begin body outer room x j n e) (run_turns body outer room p.Plain xs j m h)
begin_turn body outer room x xs m (t.Ended v) n e h = absurd (none_apart m h)
begin_turn body outer room x xs m t.Unfit n e h = absurd (none_apart m h)

started_is_no_view : (frames behind : List Open) (room space : ℕ) (first : Bool) (view : View) → Some (Starting frames room first) ≡ Some (Viewing behind space view) → ⊥
started_is_no_view frames behind room space first view h = apart (ap now_of h)
  where
    now_of : Option Inside → Now
    now_of None = n.Rules
    now_of (Some i) = i.now

    apart : n.Start first ≡ n.View view → ⊥
    apart q = cc

-- an expression at the beginning of a statement, which doesn't begin with `{`
run_begin : (body : List Stmt) (outer : List Outer) (room : ℕ) (xs : List Lexeme) (behind : List Open) (space : ℕ) (view : View) → BeginsNoBlock xs
    → turns (begun room true) xs ≡ Some (Viewing behind space view) → run (at body outer room ph.Start) xs ≡ Some (with_value body outer room p.Plain (Viewing behind space view))
unfolding turns
run_begin body outer room [] behind space view n h = absurd (started_is_no_view [] behind room space true view h)
run_begin body outer room (x ∷ xs) behind space view n h =
    begin_turn body outer room x xs (Viewing behind space view) (turn (begun room true) x) (λ q. n xs (ap (λ (y : Lexeme). y ∷ xs) q)) refl h

-- ---- targets

step_from : (o : Option Target) (key : Key) (target : Target) → stepped o key ≡ Some target → (before : Target) × (o ≡ Some before) × (target ≡ (before.0, before.1 ++ key ∷ []))
step_from None key target h = absurd cc
step_from (Some before) key target h = (before, refl, sym (same _ target h))
  where
    same : (x y : Target) → Some x ≡ Some y → x ≡ y
    same x y q = cc

same_target : (x y : Target) → Some x ≡ Some y → x ≡ y
same_target x y q = cc

abbrev at_target : Target → View
at_target target = v.Target target.0 target.1

target_view : (o : Operand) (target : Target) → target_of o ≡ Some target → view_of true o ≡ at_target target
target_view out target h = ap at_target (same_target _ target h)
target_view (name w is) target h = ap at_target (same_target _ target h)
target_view (dotted o w) target h =
    let q = step_from (target_of o) (k.Word w) target h in
    ap (λ (x : View). extended x (k.Word w)) (target_view o q.0 q.1) ∙ ap at_target (sym q.2)
target_view (indexed o x) target h =
    let q = step_from (target_of o) (k.Index (expression_meant x)) target h in
    ap (λ (y : View). extended y (k.Index (expression_meant x))) (target_view o q.0 q.1) ∙ ap at_target (sym q.2)
target_view _ target h = absurd cc

abbrev BeginsWord : List Lexeme → Type 0
BeginsWord xs = (w : List ℕ) × (rest : List Lexeme) × (xs ≡ l.Word w ∷ rest)

longer_word : (xs ys : List Lexeme) → BeginsWord xs → BeginsWord (xs ++ ys)
longer_word xs ys q = (q.0, q.1 ++ ys, ap (λ (zs : List Lexeme). zs ++ ys) q.2)

target_word : (o : Operand) (target : Target) → target_of o ≡ Some target → BeginsWord (operand_spelled o)
unfolding operand_spelled
target_word out target h = (codes "out", [], refl)
target_word (name w is) target h = (w, [], refl)
target_word (dotted o w) target h = let q = step_from (target_of o) (k.Word w) target h in longer_word (operand_spelled o) _ (target_word o q.0 q.1)
target_word (indexed o x) target h = let q = step_from (target_of o) (k.Index (expression_meant x)) target h in longer_word (operand_spelled o) _ (target_word o q.0 q.1)
target_word _ target h = absurd cc

word_no_block : (xs : List Lexeme) → BeginsWord xs → BeginsNoBlock xs
word_no_block xs q rest h = apart (sym q.2 ∙ h)
  where
    apart : l.Word q.0 ∷ q.1 ≡ l.Sign g.CurlyOpen ∷ rest → ⊥
    apart e = cc

step_assign : (body : List Stmt) (outer : List Outer) (room space : ℕ) (root : Root) (path : List Key) (op : AssignOp)
    → step (with_value body outer room p.Plain (Viewing [] space (v.Target root path))) (l.Sign (assignment_sign op)) ≡ Some (with_value body outer room (p.Assign root path op) (begun room false))
unfolding step on_value
step_assign body outer room space root path a.Set = refl
step_assign body outer room space root path a.Add = refl
step_assign body outer room space root path a.Sub = refl

-- ---- a statement was read

-- The state ends a statement, which ends what the whole statement ends; where its `;` stands, it needs nothing more.
pub record Read (from : State) (xs : List Lexeme) (body : List Stmt) (outer : List Outer) (room : ℕ) (s : Stmt) (in_if is_open : Bool) : Type 0 where
  pub behind : List Outer
  pub space : ℕ
  pub phase : Phase
  pub last : Stmt
  pub reads : run from xs ≡ Some (at body behind space phase)
  pub is_last : last_of phase ≡ Some last
  pub every : settled true behind space last ≡ settled true outer room s
  pub branches : in_if ≡ false → settled false behind space last ≡ settled false outer room s
  pub done : is_open ≡ false → phase ≡ ph.Done last

pub ended_is : (room : ℕ) (behind : List Open) (space : ℕ) (view : View) (x : Expr) → folded 0 behind space (value_of view) ≡ folded 0 [] room x → ended (Viewing behind space view) ≡ Some x
unfolding ended
ended_is room behind space view x h = ap (λ (w : Whole). alone w w.frames) (h ∙ folded-stays 0 [] room x refl)

-- a value, and the end of its statement
read_end : (body : List Stmt) (outer : List Outer) (room : ℕ) (purpose : Purpose) (i : Inside) (y : Expr) (s : Stmt) (end : End) → ended i ≡ Some y → statement_of purpose y ≡ Some s
    → Read (with_value body outer room purpose i) (end_spelled end) body outer room s false (lacks end)
read_end body outer room purpose i y s semicolon h k = record {
  behind = outer;
  space = room;
  phase = ph.Done s;
  last = s;
  reads = run-one _ _ _ (step_semicolon body outer room purpose i y s h k);
  is_last = refl;
  every = refl;
  branches = λ q. refl;
  done = λ q. refl;
}
read_end body outer room purpose i y s nothing h k = record {
  behind = outer;
  space = room;
  phase = ph.Value purpose i;
  last = s;
  reads = run-none _;
  is_last = ap (ended_as purpose) h ∙ k;
  every = refl;
  branches = λ q. refl;
  done = λ q. absurd cc;
}

-- what was read before
read_after : (from middle : State) (xs ys : List Lexeme) (body : List Stmt) (outer : List Outer) (room : ℕ) (s : Stmt) (in_if is_open : Bool) → run from xs ≡ Some middle
    → Read middle ys body outer room s in_if is_open → Read from (xs ++ ys) body outer room s in_if is_open
read_after from middle xs ys body outer room s in_if is_open h q = record {
  behind = q.behind;
  space = q.space;
  phase = q.phase;
  last = q.last;
  reads = run-then from middle _ xs ys h q.reads;
  is_last = q.is_last;
  every = q.every;
  branches = q.branches;
  done = q.done;
}

read_more : (from middle : State) (x : Lexeme) (ys : List Lexeme) (body : List Stmt) (outer : List Outer) (room : ℕ) (s : Stmt) (in_if is_open : Bool) → step from x ≡ Some middle
    → Read middle ys body outer room s in_if is_open → Read from (x ∷ ys) body outer room s in_if is_open
read_more from middle x ys body outer room s in_if is_open h q = read_after from middle (x ∷ []) ys body outer room s in_if is_open (run-one from middle x h) q

-- the value of a statement, from its beginning to its end
read_value : (body : List Stmt) (outer : List Outer) (room : ℕ) (purpose : Purpose) (x : Expression) (s : Stmt) (end : End) → FitsExpression room x
    → statement_of purpose (expression_meant x) ≡ Some s → Read (with_value body outer room purpose (begun room false)) (expression_spelled x ++ end_spelled end) body outer room s false (lacks end)
read_value body outer room purpose x s end fits k =
    let q = complete_expression x [] room false fits tt in
    read_after _ (with_value body outer room purpose (Viewing q.behind q.space q.view)) (expression_spelled x) (end_spelled end) body outer room s false (lacks end)
    (run_turns body outer room purpose (expression_spelled x) (begun room false) (Viewing q.behind q.space q.view) q.reads)
    (read_end body outer room purpose (Viewing q.behind q.space q.view) (expression_meant x) s end (ended_is room q.behind q.space q.view (expression_meant x) (q.same 0 (omega arith))) k)

-- ---- single steps

step_var : (body : List Stmt) (outer : List Outer) (room : ℕ) → step (at body outer room ph.Start) (l.Word (codes "var")) ≡ Some (at body outer room ph.Var)
unfolding step on_start role_of
step_var body outer room = refl

step_var_name : (body : List Stmt) (outer : List Outer) (room : ℕ) (w : List ℕ) → IsName w → step (at body outer room ph.Var) (l.Word w) ≡ Some (at body outer room (ph.VarName w))
unfolding step on_var
step_var_name body outer room w h = rw h refl

pub step_var_a : (body : List Stmt) (outer : List Outer) (room : ℕ) → step (at body outer room ph.Var) (l.Word (codes "a")) ≡ Some (at body outer room (ph.VarName (codes "a")))
unfolding step on_var role_of
step_var_a body outer room = refl

step_var_set : (body : List Stmt) (outer : List Outer) (room : ℕ) (w : List ℕ) → step (at body outer room (ph.VarName w)) (l.Sign g.Set) ≡ Some (with_value body outer room (p.Var w) (begun room false))
unfolding step on_var_name
step_var_set body outer room w = refl

pub step_var_end : (body : List Stmt) (outer : List Outer) (room : ℕ) (w : List ℕ) → step (at body outer room (ph.VarName w)) (l.Sign g.Semicolon) ≡ Some (at body outer room (ph.Done (st.Var w None)))
unfolding step on_var_name on_end
step_var_end body outer room w = refl

pub step_empty : (body : List Stmt) (outer : List Outer) (room : ℕ) → step (at body outer room ph.Start) (l.Sign g.Semicolon) ≡ Some (at body outer room (ph.Done st.Empty))
unfolding step on_start
step_empty body outer room = refl

step_block : (body : List Stmt) (outer : List Outer) (room : ℕ) → step (at body outer (suc room) ph.Start) (l.Sign g.CurlyOpen) ≡ Some (at body (around (pt.Block []) (suc room) ∷ outer) room ph.Start)
unfolding step on_start
step_block body outer room = refl

step_if : (body : List Stmt) (outer : List Outer) (room : ℕ) → step (at body outer (suc room) ph.Start) (l.Word (codes "if")) ≡ Some (at body outer (suc room) (ph.If room))
unfolding step on_start role_of
step_if body outer room = refl

pub step_if_open : (body : List Stmt) (outer : List Outer) (room inside : ℕ) → step (at body outer room (ph.If inside)) (l.Sign g.RoundOpen) ≡ Some (with_value body outer room (p.Test inside) (begun inside false))
unfolding step on_if
step_if_open body outer room inside = refl

-- `if (test)`
run_if : (body : List Stmt) (outer : List Outer) (room inner : ℕ) (test : Expression) (ys : List Lexeme) (s : Stmt) (in_if is_open : Bool) → room ≡ suc inner → FitsExpression inner test
    → Read (at body (around (pt.IfYes (expression_meant test)) room ∷ outer) inner ph.Start) ys body outer room s in_if is_open
    → Read (at body outer room ph.Start) (l.Word (codes "if") ∷ l.Sign g.RoundOpen ∷ (expression_spelled test ++ (l.Sign g.RoundClose ∷ ys))) body outer room s in_if is_open
run_if body outer room inner test ys s in_if is_open e fits h =
    let q = complete_expression test [] inner false fits tt in
    let first : step (at body outer room ph.Start) (l.Word (codes "if")) ≡ Some (at body outer room (ph.If inner)) = rw e (step_if body outer inner) in
    read_more _ (at body outer room (ph.If inner)) _ _ body outer room s in_if is_open first
    (read_more _ (with_value body outer room (p.Test inner) (begun inner false)) _ _ body outer room s in_if is_open (step_if_open body outer room inner)
    (read_after _ (with_value body outer room (p.Test inner) (Viewing q.behind q.space q.view)) (expression_spelled test) _ body outer room s in_if is_open
    (run_turns body outer room (p.Test inner) (expression_spelled test) (begun inner false) (Viewing q.behind q.space q.view) q.reads)
    (read_more _ (at body (around (pt.IfYes (expression_meant test)) room ∷ outer) inner ph.Start) _ _ body outer room s in_if is_open
    (test_closed body outer room inner (Viewing q.behind q.space q.view) (expression_meant test) (ended_is inner q.behind q.space q.view (expression_meant test) (q.same 0 (omega arith)))) h)))

-- an `else` behind a statement of an `if`
step_branch : (body : List Stmt) (outer : List Outer) (room inner : ℕ) (test : Expr) (s : Stmt) (behind : List Outer) (space : ℕ) (phase : Phase) (last : Stmt)
    → last_of phase ≡ Some last → settled false behind space last ≡ settled false (around (pt.IfYes test) room ∷ outer) inner s
    → step (at body behind space phase) else_word ≡ Some (at body (around (pt.IfElse test s) room ∷ outer) inner ph.Start)
unfolding on_else
step_branch body outer room inner test s behind space phase last h k =
    step_else body behind space phase last h ∙ ap (branch_closing body) (k ∙ settled-stays false (around (pt.IfYes test) room ∷ outer) inner s refl)

-- ---- lists of statements

-- where a list of statements stands: the script, or a block
pub data Where : Type 0 where
  top : Where
  within : List Stmt → ℕ → List Outer → Where

abbrev pub body_at : Where → List Stmt → List Stmt
body_at top done = done
body_at (within body outside outer) done = body

abbrev pub outer_at : Where → List Stmt → List Outer
outer_at top done = []
outer_at (within body outside outer) done = around (pt.Block done) outside ∷ outer

abbrev pub list_at : Where → ℕ → List Stmt → State
list_at place room done = at (body_at place done) (outer_at place done) room ph.Start

next_listed : (place : Where) (room : ℕ) (done : List Stmt) (s : Stmt) (behind : List Outer) (space : ℕ) (last : Stmt)
    → settled true behind space last ≡ settled true (outer_at place done) room s → next (body_at place done) behind space last ≡ list_at place room (done ++ s ∷ [])
unfolding next
next_listed top room done s behind space last h = ap (listed_closing done) (h ∙ settled-stays true [] room s refl)
next_listed (within body outside outer) room done s behind space last h = ap (listed_closing body) (h ∙ settled-stays true (around (pt.Block done) outside ∷ outer) room s refl)

pub record ReadAll (place : Where) (room : ℕ) (xs : List Lexeme) (done : List Stmt) (all_end : Type 0) : Type 0 where
  pub state : State
  pub reads : run (list_at place room []) xs ≡ Some state
  pub curly : step state (l.Sign g.CurlyClose) ≡ block_closed (body_at place done) (outer_at place done)
  pub result : result_of state ≡ script_of (body_at place done) (outer_at place done)
  pub further : all_end → (x : Lexeme) → (closer_of x ≡ c.Else → ⊥) → step state x ≡ step (list_at place room done) x

read_nothing : (place : Where) (room : ℕ) → ReadAll place room [] [] (Unit {0})
unfolding step on_start result_of
read_nothing place room = record {
  state = list_at place room [];
  reads = run-none _;
  curly = refl;
  result = refl;
  further = λ h x n. refl;
}

closer_apart : (body : List Stmt) (outer : List Outer) (room : ℕ) (s : Stmt) (x : Lexeme) (closer : Closer) → (closer ≡ c.Else → ⊥)
    → done_at body outer room s x closer ≡ behind_it (next body outer room s) x
closer_apart body outer room s x c.Else n = absurd (n refl)
closer_apart body outer room s x _ n = refl

step_behind : (body : List Stmt) (outer : List Outer) (room : ℕ) (phase : Phase) (s : Stmt) (x : Lexeme) (target : State) → phase ≡ ph.Done s → (closer_of x ≡ c.Else → ⊥)
    → next body outer room s ≡ target → step (at body outer room phase) x ≡ on_start target.body target.outer target.room x
unfolding step on_done
step_behind body outer room phase s x target e n h =
    ap (λ (y : Phase). step (at body outer room y) x) e ∙ closer_apart body outer room s x (closer_of x) n ∙ ap (λ (u : State). behind_it u x) h

-- one more statement
read_one : (place : Where) (room : ℕ) (xs ys : List Lexeme) (done : List Stmt) (s : Stmt) (in_if is_open : Bool) (from : State) → run (list_at place room []) xs ≡ Some from
    → Read from ys (body_at place done) (outer_at place done) room s in_if is_open → ReadAll place room (xs ++ ys) (done ++ s ∷ []) (is_open ≡ false)
unfolding step
read_one place room xs ys done s in_if is_open from h q =
    let joined = next_listed place room done s q.behind q.space q.last q.every in
    record {
      state = at (body_at place done) q.behind q.space q.phase;
      reads = run-then _ from _ xs ys h q.reads;
      curly = step_curly (body_at place done) q.behind q.space q.phase q.last q.is_last ∙ ap (λ (u : State). block_closed u.body u.outer) joined;
      result = result_last (body_at place done) q.behind q.space q.phase q.last q.is_last ∙ ap (λ (u : State). script_of u.body u.outer) joined;
      further = λ e x n. step_behind (body_at place done) q.behind q.space q.phase q.last x (list_at place room (done ++ s ∷ [])) (q.done e) n joined;
    }

-- ---- from the list of statements on

is_else : (closer : Closer) → (closer ≡ c.Else) ⊎ (closer ≡ c.Else → ⊥)
is_else c.Else = inl refl
is_else _ = inr (λ h. cc)

else_word_unfit : (room : ℕ) (w : List ℕ) (role : Role) → word_closer role ≡ c.Else → (word_beginning role ≡ bg.Value) × (start_word [] room true w role ≡ t.Unfit)
unfolding start_word
else_word_unfit room w r.Else h = (refl, refl)
else_word_unfit room w _ h = absurd cc

sign_no_else : (sign : Sign) → closer_of (l.Sign sign) ≡ c.Else → ⊥
sign_no_else g.Semicolon h = cc
sign_no_else g.RoundClose h = cc
sign_no_else g.CurlyClose h = cc
sign_no_else _ h = cc

on_word_unfit : (body : List Stmt) (outer : List Outer) (room : ℕ) (w : List ℕ) → start_word [] room true w (role_of w) ≡ t.Unfit → on_value body outer room p.Plain (begun room true) (l.Word w) ≡ None
unfolding on_value turn start_turn
on_word_unfit body outer room w h = ap (λ (o : Turn). on_turn body outer room p.Plain o (closer_of (l.Word w))) h

-- no statement begins with `else`
else_unfit : (body : List Stmt) (outer : List Outer) (room : ℕ) (x : Lexeme) → closer_of x ≡ c.Else → step (at body outer room ph.Start) x ≡ None
unfolding step on_start
else_unfit body outer room (l.Word w) h =
    let q = else_word_unfit room w (role_of w) h in
    ap (begin body outer room (l.Word w)) q.0 ∙ on_word_unfit body outer room w q.1
else_unfit body outer room (l.Sign sign) h = absurd (sign_no_else sign h)
else_unfit body outer room _ h = absurd cc

start_apart : (body : List Stmt) (outer : List Outer) (room : ℕ) (behind : List Outer) (space : ℕ) (phase : Phase) (last : Stmt) (other : List Stmt)
    → last_of phase ≡ Some last → Some (at body outer room ph.Start) ≡ Some (at other behind space phase) → ⊥
start_apart body outer room behind space phase last other h e = apart (ap phase_of e) h
  where
    phase_of : Option State → Phase
    phase_of None = ph.Var
    phase_of (Some s) = s.phase

    apart : {phase : Phase} → ph.Start ≡ phase → last_of phase ≡ Some last → ⊥
    apart e k = none_apart_of (ap last_of e ∙ k)
      where
        none_apart_of : None ≡ Some last → ⊥
        none_apart_of q = cc

none_is_not : (s : State) → None ≡ Some s → ⊥
none_is_not s h = cc

switch_first : (from : State) (body : List Stmt) (outer : List Outer) (room : ℕ) (x : Lexeme) (xs : List Lexeme) (target : State)
    → ((closer_of x ≡ c.Else) ⊎ (closer_of x ≡ c.Else → ⊥))
    → ((y : Lexeme) → (closer_of y ≡ c.Else → ⊥) → step from y ≡ step (at body outer room ph.Start) y)
    → run (at body outer room ph.Start) (x ∷ xs) ≡ Some target → run from (x ∷ xs) ≡ Some target
unfolding run
switch_first from body outer room x xs target (inl e) same h =
    absurd (none_is_not target (sym (ap (go_on (λ u. run u xs)) (else_unfit body outer room x e)) ∙ h))
switch_first from body outer room x xs target (inr n) same h = ap (go_on (λ u. run u xs)) (same x n) ∙ h

-- what is read at the beginning of a statement is read behind a statement that needs nothing more
switch : (from : State) (body : List Stmt) (outer : List Outer) (room : ℕ) (xs : List Lexeme) (other : List Stmt) (behind : List Outer) (space : ℕ) (phase : Phase) (last : Stmt) → last_of phase ≡ Some last
    → ((y : Lexeme) → (closer_of y ≡ c.Else → ⊥) → step from y ≡ step (at body outer room ph.Start) y)
    → run (at body outer room ph.Start) xs ≡ Some (at other behind space phase) → run from xs ≡ Some (at other behind space phase)
unfolding run
switch from body outer room [] other behind space phase last k same h = absurd (start_apart body outer room behind space phase last other k h)
switch from body outer room (x ∷ xs) other behind space phase last k same h = switch_first from body outer room x xs _ (is_else (closer_of x)) same h

read_switched : (from : State) (body : List Stmt) (outer : List Outer) (room : ℕ) (xs : List Lexeme) (s : Stmt) (in_if is_open : Bool)
    → ((y : Lexeme) → (closer_of y ≡ c.Else → ⊥) → step from y ≡ step (at body outer room ph.Start) y)
    → Read (at body outer room ph.Start) xs body outer room s in_if is_open → Read from xs body outer room s in_if is_open
read_switched from body outer room xs s in_if is_open same q = record {
  behind = q.behind;
  space = q.space;
  phase = q.phase;
  last = q.last;
  reads = switch from body outer room xs body q.behind q.space q.phase q.last q.is_last same q.reads;
  is_last = q.is_last;
  every = q.every;
  branches = q.branches;
  done = q.done;
}

-- an `if` ends with its statement
read_alone : (from : State) (xs : List Lexeme) (body : List Stmt) (outer : List Outer) (room inner : ℕ) (test : Expr) (s : Stmt) (in_if is_open : Bool)
    → Read from xs body (around (pt.IfYes test) room ∷ outer) inner s in_if is_open → Read from xs body outer room (st.If test s None) true is_open
read_alone from xs body outer room inner test s in_if is_open q = record {
  behind = q.behind;
  space = q.space;
  phase = q.phase;
  last = q.last;
  reads = q.reads;
  is_last = q.is_last;
  every = q.every ∙ settled-on true (pt.IfYes test) room outer inner s refl;
  branches = λ h. absurd cc;
  done = q.done;
}

read_other : (from : State) (xs : List Lexeme) (body : List Stmt) (outer : List Outer) (room inner : ℕ) (test : Expr) (first s : Stmt) (in_if is_open : Bool)
    → Read from xs body (around (pt.IfElse test first) room ∷ outer) inner s in_if is_open → Read from xs body outer room (st.If test first (Some s)) in_if is_open
read_other from xs body outer room inner test first s in_if is_open q = record {
  behind = q.behind;
  space = q.space;
  phase = q.phase;
  last = q.last;
  reads = q.reads;
  is_last = q.is_last;
  every = q.every ∙ settled-on true (pt.IfElse test first) room outer inner s refl;
  branches = λ h. q.branches h ∙ settled-on false (pt.IfElse test first) room outer inner s refl;
  done = q.done;
}

-- a statement that is whole behind its last lexeme
read_done : (from : State) (xs : List Lexeme) (body : List Stmt) (outer : List Outer) (room : ℕ) (s : Stmt) → run from xs ≡ Some (at body outer room (ph.Done s)) → Read from xs body outer room s false false
read_done from xs body outer room s h = record {
  behind = outer;
  space = room;
  phase = ph.Done s;
  last = s;
  reads = h;
  is_last = refl;
  every = refl;
  branches = λ q. refl;
  done = λ q. refl;
}

read_declared : (body : List Stmt) (outer : List Outer) (room : ℕ) (w : List ℕ) (end : End) → Read (at body outer room (ph.VarName w)) (end_spelled end) body outer room (st.Var w None) false (lacks end)
read_declared body outer room w semicolon = read_done _ _ body outer room (st.Var w None) (run-one _ _ _ (step_var_end body outer room w))
read_declared body outer room w nothing = record {
  behind = outer;
  space = room;
  phase = ph.VarName w;
  last = st.Var w None;
  reads = run-none _;
  is_last = refl;
  every = refl;
  branches = λ q. refl;
  done = λ q. absurd cc;
}

-- ---- each part of the grammar

mutual
  unfolding statement_spelled statement_meant FitsStatement

  pub complete_statement : (s : Statement) (body : List Stmt) (outer : List Outer) (room : ℕ) → FitsStatement room s
      → Read (at body outer room ph.Start) (statement_spelled s) body outer room (statement_meant s) (ends_in_if s) (ends_open s)
  complete_statement empty body outer room fits = read_done _ _ body outer room st.Empty (run-one _ _ _ (step_empty body outer room))
  complete_statement (block ss) body outer room fits =
      let inner = fits.0 in
      let begins : step (at body outer room ph.Start) (l.Sign g.CurlyOpen) ≡ Some (at body (around (pt.Block []) room ∷ outer) inner ph.Start) = rw (fits.1) (step_block body outer inner) in
      let all = complete_statements ss (within body room outer) inner fits.2 in
      read_done _ _ body outer room (st.Block (statements_meant ss))
      (run-more _ (at body (around (pt.Block []) room ∷ outer) inner ph.Start) _ (l.Sign g.CurlyOpen) (statements_spelled ss ++ l.Sign g.CurlyClose ∷ []) begins
      (run-then _ all.state _ (statements_spelled ss) (l.Sign g.CurlyClose ∷ []) all.reads (run-one _ _ _ all.curly)))
  complete_statement (declared w is end) body outer room fits =
      read_more _ (at body outer room ph.Var) _ _ body outer room (st.Var w None) false (lacks end) (step_var body outer room)
      (read_more _ (at body outer room (ph.VarName w)) _ _ body outer room (st.Var w None) false (lacks end) (step_var_name body outer room w is) (read_declared body outer room w end))
  complete_statement (defined w is x end) body outer room fits =
      let s = st.Var w (Some (expression_meant x)) in
      read_more _ (at body outer room ph.Var) _ _ body outer room s false (lacks end) (step_var body outer room)
      (read_more _ (at body outer room (ph.VarName w)) _ _ body outer room s false (lacks end) (step_var_name body outer room w is)
      (read_more _ (with_value body outer room (p.Var w) (begun room false)) _ _ body outer room s false (lacks end) (step_var_set body outer room w)
      (read_value body outer room (p.Var w) x s end fits refl)))
  complete_statement (if_alone test s) body outer room fits =
      run_if body outer room fits.0 test (statement_spelled s) (st.If (expression_meant test) (statement_meant s) None) true (ends_open s) fits.1 fits.2
      (read_alone _ (statement_spelled s) body outer room fits.0 (expression_meant test) (statement_meant s) (ends_in_if s) (ends_open s)
      (complete_statement s body (around (pt.IfYes (expression_meant test)) room ∷ outer) fits.0 fits.3))
  complete_statement (if_else test s u) body outer room fits =
      let inner = fits.0 in
      let a = complete_statement s body (around (pt.IfYes (expression_meant test)) room ∷ outer) inner fits.3 in
      let meant = st.If (expression_meant test) (statement_meant s) (Some (statement_meant u)) in
      let other = step_branch body outer room inner (expression_meant test) (statement_meant s) a.behind a.space a.phase a.last a.is_last (a.branches fits.4) in
      run_if body outer room inner test (statement_spelled s ++ (else_word ∷ statement_spelled u)) meant (ends_in_if u) (ends_open u) fits.1 fits.2
      (read_after _ (at body a.behind a.space a.phase) (statement_spelled s) (else_word ∷ statement_spelled u) body outer room meant (ends_in_if u) (ends_open u) a.reads
      (read_more _ (at body (around (pt.IfElse (expression_meant test) (statement_meant s)) room ∷ outer) inner ph.Start) _ _ body outer room meant (ends_in_if u) (ends_open u) other
      (read_other _ (statement_spelled u) body outer room inner (expression_meant test) (statement_meant s) (statement_meant u) (ends_in_if u) (ends_open u)
      (complete_statement u body (around (pt.IfElse (expression_meant test) (statement_meant s)) room ∷ outer) inner fits.5))))
  complete_statement (assigned o target is op x end) body outer room fits =
      let s = st.Assign target.0 target.1 op (expression_meant x) in
      let at_sign : run (at body outer room ph.Start) (operand_spelled o) ≡ Some (with_value body outer room p.Plain (Viewing [] room (at_target target))) =
      run_begin body outer room (operand_spelled o) [] room (at_target target) (word_no_block (operand_spelled o) (target_word o target is))
      (complete_operand o [] room true fits.0 ∙ ap (λ (y : View). Some (Viewing [] room y)) (target_view o target is)) in
      read_after _ (with_value body outer room p.Plain (Viewing [] room (at_target target))) (operand_spelled o) _ body outer room s false (lacks end) at_sign
      (read_more _ (with_value body outer room (p.Assign target.0 target.1 op) (begun room false)) _ _ body outer room s false (lacks end) (step_assign body outer room room target.0 target.1 op)
      (read_value body outer room (p.Assign target.0 target.1 op) x s end fits.1 refl))
  complete_statement (plain x end) body outer room fits =
      let q = complete_expression x [] room true fits.1 tt in
      let s = st.Plain (expression_meant x) in
      read_after _ (with_value body outer room p.Plain (Viewing q.behind q.space q.view)) (expression_spelled x) (end_spelled end) body outer room s false (lacks end)
      (run_begin body outer room (expression_spelled x) q.behind q.space q.view fits.0 q.reads)
      (read_end body outer room p.Plain (Viewing q.behind q.space q.view) (expression_meant x) s end (ended_is room q.behind q.space q.view (expression_meant x) (q.same 0 (omega arith))) refl)

  pub complete_statements : (ss : Statements) (place : Where) (room : ℕ) → FitsStatements room ss → ReadAll place room (statements_spelled ss) (statements_meant ss) (AllEnd ss)
  complete_statements no_statement place room fits = read_nothing place room
  complete_statements (more ss s) place room fits =
      let before = complete_statements ss place room fits.0 in
      let one = complete_statement s (body_at place (statements_meant ss)) (outer_at place (statements_meant ss)) room fits.2 in
      let all = read_one place room (statements_spelled ss) (statement_spelled s) (statements_meant ss) (statement_meant s) (ends_in_if s) (ends_open s) before.state before.reads
      (read_switched before.state (body_at place (statements_meant ss)) (outer_at place (statements_meant ss)) room (statement_spelled s) (statement_meant s) (ends_in_if s) (ends_open s) (before.further fits.1) one) in
      record { state = all.state; reads = all.reads; curly = all.curly; result = all.result; further = λ h. all.further h.1 }

pub complete : (found : List Lexeme) (script : Script) → SpellsScript found script → (s : State) × (run start found ≡ Some s) × (result_of s ≡ Some script)
complete found script h =
    let all = complete_statements h.tree top 64 h.fits in
    (all.state, ap (run start) h.spelled ∙ all.reads, all.result ∙ ap Some (sym h.meant))
