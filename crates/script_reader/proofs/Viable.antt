-- What was read of a script can be completed.
use Rattle.std.proofs.Common.{◌≡◌, ℕ, Bool, true, false, List, [], ◌∷◌, ◌++◌, Some, None, refl, sym, ap, ◌∙◌, codes, arith}
use Rattle.vg_base.specs.declared.script.Expr.{Expr}
use Rattle.vg_base.specs.declared.script.Expr.TheVariants as e
use Rattle.vg_base.specs.declared.script.Key.TheVariants as k
use Rattle.vg_base.specs.declared.script.Stmt.{Stmt}
use Rattle.vg_base.specs.declared.script.Stmt.TheVariants as st
use Rattle.vg_base.specs.declared.script.Script.{Script}
use Rattle.script_reader.specs.declared.lexing.lexeme.Sign.TheVariants as g
use Rattle.script_reader.specs.declared.lexing.lexeme.Lexeme.{Lexeme}
use Rattle.script_reader.specs.declared.lexing.lexeme.Lexeme.TheVariants as l
use Rattle.script_reader.specs.declared.machine.stack.View.{View}
use Rattle.script_reader.specs.declared.machine.stack.View.TheVariants as v
use Rattle.script_reader.specs.declared.machine.stack.Source.{Source}
use Rattle.script_reader.specs.declared.machine.stack.Source.TheVariants as src
use Rattle.script_reader.specs.declared.machine.stack.Now.{Now}
use Rattle.script_reader.specs.declared.machine.stack.Now.TheVariants as n
use Rattle.script_reader.specs.declared.machine.stack.Frame.{Frame}
use Rattle.script_reader.specs.declared.machine.stack.Frame.TheVariants as f
use Rattle.script_reader.specs.declared.machine.stack.Open.{Open}
use Rattle.script_reader.specs.declared.machine.stack.Inside.{Inside}
use Rattle.script_reader.specs.declared.machine.stack.Turn.TheVariants as t
use Rattle.script_reader.specs.declared.machine.stack.Purpose.{Purpose}
use Rattle.script_reader.specs.declared.machine.stack.Purpose.TheVariants as p
use Rattle.script_reader.specs.declared.machine.stack.Phase.{Phase}
use Rattle.script_reader.specs.declared.machine.stack.Phase.TheVariants as ph
use Rattle.script_reader.specs.declared.machine.stack.Part.{Part}
use Rattle.script_reader.specs.declared.machine.stack.Part.TheVariants as pt
use Rattle.script_reader.specs.declared.machine.stack.Outer.{Outer}
use Rattle.script_reader.specs.declared.machine.stack.State.{State}
use Rattle.script_reader.specs.declared.machine.stack.Closing.{Closing}
use Rattle.script_reader.specs.Signs.{level}
use Rattle.script_reader.specs.Chains.{linked}
use Rattle.script_reader.specs.code.Expressions.{opened, value_of, extended, text_of, folded, ended, turn, begun}
use Rattle.script_reader.specs.code.Statements.{at, start, around, settled, listed_closing, next, block_closed, on_curly, with_value, step, go_on, run, script_of, result_of}
use Rattle.script_reader.specs.Grammar.{SpellsScript}
use Rattle.script_reader.proofs.Turns.{In, turns, turns-more, turns-none}
use Rattle.script_reader.proofs.Folding.{folded-stays, folded-on, is_le}
use Rattle.script_reader.proofs.Steps.{Viewing, Starting, Valued, turn_null, turn_word, turn_ending, close_round, close_index, close_list, close_record, colon_choice, turn_empty_list, turn_key, turn_colon, turn_rules_dot, turn_rule, turn_called, turn_meta_dot, turn_source, turn_source_called, turn_source_dot, turn_source_text}
use Rattle.script_reader.proofs.Runs.{run-append, run-then, run-none, run-one, run_turns}
use Rattle.script_reader.proofs.Endings.{test_closed, step_semicolon, step_curly, result_last, settled-stays, settled-on}
use Rattle.script_reader.proofs.CompleteStatements.{step_empty, step_var_end, step_if_open, ended_is, step_var_a, complete}
use Rattle.script_reader.proofs.SoundStatements.{sound}

-- ---- an expression can be ended

-- these lexemes end the expression
pub record Closable (i : Inside) : Type 0 where
  pub text : List Lexeme
  pub last : Inside
  pub x : Expr
  pub reads : turns i text ≡ Some last
  pub ends : ended last ≡ Some x

after : (i j : Inside) (x : Lexeme) → turn i x ≡ t.On j → Closable j → Closable i
after i j x h q = record { text = x ∷ q.text; last = q.last; x = q.x; reads = turns-more i j q.last x q.text h q.reads; ends = q.ends }

-- what ends the value is the same from the state with another value, if both fold alike
abbrev FoldsAlike : List Open → ℕ → View → List Open → ℕ → Expr → Type 0
FoldsAlike frames room view others space y = folded 0 frames room (value_of view) ≡ folded 0 others space y

ended_at_once : (frames : List Open) (room : ℕ) (view : View) (space : ℕ) (y : Expr) → FoldsAlike frames room view [] space y → ended (Viewing frames room view) ≡ Some y
ended_at_once frames room view space y h = ended_is space frames room view y h

-- by the innermost frame, if what is around it can be ended
closable_in : (frame : Frame) (outside : ℕ) (others : List Open) (space : ℕ) (y : Expr) (frames : List Open) (room : ℕ) (view : View)
    → ((inner : ℕ) (z : Expr) (behind : List Open) (here : ℕ) (shown : View) → FoldsAlike behind here shown others inner z → Closable (Viewing behind here shown))
    → FoldsAlike frames room view (opened frame outside ∷ others) space y → Closable (Viewing frames room view)
closable_in f.Round outside others space y frames room view again q =
    let stays = q ∙ folded-stays 0 (opened f.Round outside ∷ others) space y refl in
    after _ (Valued others outside y) (l.Sign g.RoundClose) (turn_ending frames room view g.RoundClose _ refl stays ∙ close_round others outside space y)
    (again outside y others outside (v.Value y) refl)
closable_in (f.Index before) outside others space y frames room view again q =
    let stays = q ∙ folded-stays 0 (opened (f.Index before) outside ∷ others) space y refl in
    after _ (Viewing others outside (extended before (k.Index y))) (l.Sign g.SquareClose) (turn_ending frames room view g.SquareClose _ refl stays ∙ close_index others outside space before y)
    (again outside (value_of (extended before (k.Index y))) others outside (extended before (k.Index y)) refl)
closable_in (f.List done) outside others space y frames room view again q =
    let stays = q ∙ folded-stays 0 (opened (f.List done) outside ∷ others) space y refl in
    after _ (Valued others outside (e.List (done ++ y ∷ []))) (l.Sign g.SquareClose) (turn_ending frames room view g.SquareClose _ refl stays ∙ close_list others outside space done y)
    (again outside (e.List (done ++ y ∷ [])) others outside (v.Value (e.List (done ++ y ∷ []))) refl)
closable_in (f.Member done key) outside others space y frames room view again q =
    let stays = q ∙ folded-stays 0 (opened (f.Member done key) outside ∷ others) space y refl in
    after _ (Valued others outside (e.Record (done ++ (key, y) ∷ []))) (l.Sign g.CurlyClose) (turn_ending frames room view g.CurlyClose _ refl stays ∙ close_record others outside space done key y)
    (again outside (e.Record (done ++ (key, y) ∷ [])) others outside (v.Value (e.Record (done ++ (key, y) ∷ []))) refl)
closable_in (f.Signed op) outside others space y frames room view again q = again outside (e.Unary op y) frames room view (q ∙ folded-on 0 (f.Signed op) outside others space y refl)
closable_in (f.Left left op) outside others space y frames room view again q = again outside (linked left op y) frames room view (q ∙ folded-on 0 (f.Left left op) outside others space y (is_le 0 (level op) (omega arith)))
closable_in (f.ChooseNo test positive) outside others space y frames room view again q = again outside (e.Choose test positive y) frames room view (q ∙ folded-on 0 (f.ChooseNo test positive) outside others space y refl)
closable_in (f.ChooseYes test) outside others space y frames room view again q =
    let stays = q ∙ folded-stays 0 (opened (f.ChooseYes test) outside ∷ others) space y refl in
    after _ (Starting (opened (f.ChooseNo test y) outside ∷ others) space false) (l.Sign g.Colon) (turn_ending frames room view g.Colon _ refl stays ∙ colon_choice others outside space test y)
    (after _ (Valued (opened (f.ChooseNo test y) outside ∷ others) space e.Null) (l.Word (codes "null")) (turn_null (opened (f.ChooseNo test y) outside ∷ others) space false)
    (again outside (e.Choose test y e.Null) (opened (f.ChooseNo test y) outside ∷ others) space (v.Value e.Null) (folded-on 0 (f.ChooseNo test y) outside others space e.Null refl)))

closable_at : (others : List Open) (space : ℕ) (y : Expr) (frames : List Open) (room : ℕ) (view : View) → FoldsAlike frames room view others space y → Closable (Viewing frames room view)
closable_at [] space y frames room view h = record {
  text = [];
  last = Viewing frames room view;
  x = y;
  reads = turns-none (Viewing frames room view);
  ends = ended_at_once frames room view space y h;
}
closable_at (o ∷ others) space y frames room view h =
    closable_in o.frame o.room others space y frames room view (λ inner z behind here shown q. closable_at others inner z behind here shown q) h

viewing_closable : (frames : List Open) (room : ℕ) (view : View) → Closable (Viewing frames room view)
viewing_closable frames room view = closable_at frames room (value_of view) frames room view refl

starting_closable : (frames : List Open) (room : ℕ) (first : Bool) → Closable (Starting frames room first)
starting_closable frames room first = after _ (Valued frames room e.Null) (l.Word (codes "null")) (turn_null frames room first) (viewing_closable frames room (v.Value e.Null))

source_dot_closable : (frames : List Open) (room : ℕ) (source : Source) → Closable (In frames room (n.SourceDot source))
source_dot_closable frames room source = after _ (Valued frames room (text_of source)) (l.Word (codes "text")) (turn_source_text frames room source) (viewing_closable frames room (v.Value (text_of source)))

source_closable : (frames : List Open) (room : ℕ) (source : Source) → Closable (In frames room (n.Source source))
source_closable frames room source = after _ (In frames room (n.SourceDot source)) (l.Sign g.Dot) (turn_source_dot frames room source) (source_dot_closable frames room source)

keyed_closable : (frames : List Open) (room outside : ℕ) (done : List (List ℕ × Expr)) (key : List ℕ) → Closable (In frames room (n.Keyed done key outside))
keyed_closable frames room outside done key = after _ (Starting (opened (f.Member done key) outside ∷ frames) room false) (l.Sign g.Colon) (turn_colon frames room outside done key) (starting_closable (opened (f.Member done key) outside ∷ frames) room false)

rules_dot_closable : (frames : List Open) (room : ℕ) → Closable (In frames room n.RulesDot)
rules_dot_closable frames room = after _ _ (l.Word (codes "a")) (turn_rule frames room (codes "a")) (viewing_closable frames room _)

meta_dot_closable : (frames : List Open) (room : ℕ) → Closable (In frames room n.MetaDot)
meta_dot_closable frames room = after _ (In frames room (n.Source (src.Rule (codes "a")))) (l.Word (codes "a")) (turn_source frames room (codes "a")) (source_closable frames room (src.Rule (codes "a")))

now_closable : (frames : List Open) (room : ℕ) (now : Now) → Closable (In frames room now)
now_closable frames room (n.Start first) = starting_closable frames room first
now_closable frames room (n.View view) = viewing_closable frames room view
now_closable frames room (n.Dot view) = after _ (Viewing frames room (extended view (k.Word (codes "a")))) (l.Word (codes "a")) (turn_word frames room view (codes "a")) (viewing_closable frames room (extended view (k.Word (codes "a"))))
now_closable frames room (n.ListStart outside) = after _ (Valued frames outside (e.List [])) (l.Sign g.SquareClose) (turn_empty_list frames room outside) (viewing_closable frames outside (v.Value (e.List [])))
now_closable frames room (n.Members done outside) = after _ (In frames room (n.Keyed done (codes "a") outside)) (l.Word (codes "a")) (turn_key frames room outside done (l.Word (codes "a")) (codes "a") refl) (keyed_closable frames room outside done (codes "a"))
now_closable frames room (n.Keyed done key outside) = keyed_closable frames room outside done key
now_closable frames room n.Rules = after _ (In frames room n.RulesDot) (l.Sign g.Dot) (turn_rules_dot frames room) (rules_dot_closable frames room)
now_closable frames room n.RulesDot = rules_dot_closable frames room
now_closable frames room n.RuleCall = after _ (Valued frames room e.LatestRule) (l.Sign g.RoundClose) (turn_called frames room) (viewing_closable frames room (v.Value e.LatestRule))
now_closable frames room n.Meta = after _ (In frames room n.MetaDot) (l.Sign g.Dot) (turn_meta_dot frames room) (meta_dot_closable frames room)
now_closable frames room n.MetaDot = meta_dot_closable frames room
now_closable frames room (n.Source source) = source_closable frames room source
now_closable frames room (n.SourceCall source) = after _ (In frames room (n.Source source)) (l.Sign g.RoundClose) (turn_source_called frames room source) (source_closable frames room source)
now_closable frames room (n.SourceDot source) = source_dot_closable frames room source

closable : (i : Inside) → Closable i
closable i = now_closable i.frames i.room i.now

-- ---- a script can be ended

pub record Endable (u : State) : Type 0 where
  pub text : List Lexeme
  pub last : State
  pub script : Script
  pub reads : run u text ≡ Some last
  pub result : result_of last ≡ Some script

then : (u w : State) (xs : List Lexeme) → run u xs ≡ Some w → Endable w → Endable u
then u w xs h q = record { text = xs ++ q.text; last = q.last; script = q.script; reads = run-then u w q.last xs q.text h q.reads; result = q.result }

then_one : (u w : State) (x : Lexeme) → step u x ≡ Some w → Endable w → Endable u
then_one u w x h q = then u w (x ∷ []) (run-one u w x h) q

ended_script : (body : List Stmt) (outer : List Outer) (room : ℕ) (x y : Stmt) (space : ℕ) → settled true outer room x ≡ settled true [] space y
    → script_of (next body outer room x).body (next body outer room x).outer ≡ Some (record { body = body ++ y ∷ [] })
unfolding next
ended_script body outer room x y space h = ap (λ (w : Closing). script_of (listed_closing body w).body (listed_closing body w).outer) (h ∙ settled-stays true [] space y refl)

block_ends : (body : List Stmt) (outer : List Outer) (room : ℕ) (x y : Stmt) (done : List Stmt) (outside : ℕ) (others : List Outer) (space : ℕ) → settled true outer room x ≡ settled true (around (pt.Block done) outside ∷ others) space y
    → on_curly body outer room x ≡ Some (at body others outside (ph.Done (st.Block (done ++ y ∷ []))))
unfolding next
block_ends body outer room x y done outside others space h =
    ap (λ (w : Closing). block_closed (listed_closing body w).body (listed_closing body w).outer) (h ∙ settled-stays true (around (pt.Block done) outside ∷ others) space y refl)

-- a statement that ends what another one ends, by the innermost of what waits for that one
endable_in : (part : Part) (outside : ℕ) (others : List Outer) (space : ℕ) (y : Stmt) (body : List Stmt) (outer : List Outer) (room : ℕ) (x : Stmt)
    → ((inner : ℕ) (z : Stmt) (behind : List Outer) (here : ℕ) (last : Stmt) → settled true behind here last ≡ settled true others inner z → Endable (at body behind here (ph.Done last)))
    → settled true outer room x ≡ settled true (around part outside ∷ others) space y → Endable (at body outer room (ph.Done x))
endable_in (pt.IfYes test) outside others space y body outer room x again q = again outside (st.If test y None) outer room x (q ∙ settled-on true (pt.IfYes test) outside others space y refl)
endable_in (pt.IfElse test positive) outside others space y body outer room x again q = again outside (st.If test positive (Some y)) outer room x (q ∙ settled-on true (pt.IfElse test positive) outside others space y refl)
endable_in (pt.Block done) outside others space y body outer room x again q =
    then_one _ (at body others outside (ph.Done (st.Block (done ++ y ∷ [])))) (l.Sign g.CurlyClose)
    (step_curly body outer room (ph.Done x) x refl ∙ block_ends body outer room x y done outside others space q)
    (again outside (st.Block (done ++ y ∷ [])) others outside (st.Block (done ++ y ∷ [])) refl)

endable_at : (others : List Outer) (space : ℕ) (y : Stmt) (body : List Stmt) (outer : List Outer) (room : ℕ) (x : Stmt) → settled true outer room x ≡ settled true others space y → Endable (at body outer room (ph.Done x))
endable_at [] space y body outer room x h = record {
  text = [];
  last = at body outer room (ph.Done x);
  script = record { body = body ++ y ∷ [] };
  reads = run-none _;
  result = result_last body outer room (ph.Done x) x refl ∙ ended_script body outer room x y space h;
}
endable_at (o ∷ others) space y body outer room x h =
    endable_in o.part o.room others space y body outer room x (λ inner z behind here last q. endable_at others inner z body behind here last q) h

done_endable : (body : List Stmt) (outer : List Outer) (room : ℕ) (x : Stmt) → Endable (at body outer room (ph.Done x))
done_endable body outer room x = endable_at outer room x body outer room x refl

start_endable : (body : List Stmt) (outer : List Outer) (room : ℕ) → Endable (at body outer room ph.Start)
start_endable body outer room = then_one _ (at body outer room (ph.Done st.Empty)) (l.Sign g.Semicolon) (step_empty body outer room) (done_endable body outer room st.Empty)

var_name_endable : (body : List Stmt) (outer : List Outer) (room : ℕ) (w : List ℕ) → Endable (at body outer room (ph.VarName w))
var_name_endable body outer room w = then_one _ (at body outer room (ph.Done (st.Var w None))) (l.Sign g.Semicolon) (step_var_end body outer room w) (done_endable body outer room (st.Var w None))

ended_value_endable : (body : List Stmt) (outer : List Outer) (room : ℕ) (purpose : Purpose) (i : Inside) (y : Expr) → ended i ≡ Some y → Endable (with_value body outer room purpose i)
ended_value_endable body outer room p.Plain i y h = then_one _ _ (l.Sign g.Semicolon) (step_semicolon body outer room p.Plain i y (st.Plain y) h refl) (done_endable body outer room (st.Plain y))
ended_value_endable body outer room (p.Var w) i y h = then_one _ _ (l.Sign g.Semicolon) (step_semicolon body outer room (p.Var w) i y (st.Var w (Some y)) h refl) (done_endable body outer room (st.Var w (Some y)))
ended_value_endable body outer room (p.Assign root path op) i y h =
    then_one _ _ (l.Sign g.Semicolon) (step_semicolon body outer room (p.Assign root path op) i y (st.Assign root path op y) h refl) (done_endable body outer room (st.Assign root path op y))
ended_value_endable body outer room (p.Test inside) i y h =
    then_one _ (at body (around (pt.IfYes y) room ∷ outer) inside ph.Start) (l.Sign g.RoundClose) (test_closed body outer room inside i y h) (start_endable body (around (pt.IfYes y) room ∷ outer) inside)

value_endable : (body : List Stmt) (outer : List Outer) (room : ℕ) (purpose : Purpose) (i : Inside) → Endable (with_value body outer room purpose i)
value_endable body outer room purpose i =
    let q = closable i in
    then _ (with_value body outer room purpose q.last) q.text (run_turns body outer room purpose q.text i q.last q.reads) (ended_value_endable body outer room purpose q.last q.x q.ends)

phase_endable : (body : List Stmt) (outer : List Outer) (room : ℕ) (phase : Phase) → Endable (at body outer room phase)
phase_endable body outer room ph.Start = start_endable body outer room
phase_endable body outer room (ph.Done x) = done_endable body outer room x
phase_endable body outer room ph.Var = then_one _ (at body outer room (ph.VarName (codes "a"))) (l.Word (codes "a")) (step_var_a body outer room) (var_name_endable body outer room (codes "a"))
phase_endable body outer room (ph.VarName w) = var_name_endable body outer room w
phase_endable body outer room (ph.If inside) = then_one _ (with_value body outer room (p.Test inside) (begun inside false)) (l.Sign g.RoundOpen) (step_if_open body outer room inside) (value_endable body outer room (p.Test inside) (begun inside false))
phase_endable body outer room (ph.Value purpose i) = value_endable body outer room purpose i

completes : (u : State) → Endable u
completes u = phase_endable u.body u.outer u.room u.phase

-- ---- the laws of the machine

-- the lexemes that were read begin a script
pub viable : (text : List Lexeme) (u : State) → run start text ≡ Some u → (more : List Lexeme) × (script : Script) × SpellsScript (text ++ more) script
viable text u r =
    let c = completes u in
    (c.text, c.script, sound (text ++ c.text) c.last c.script (run-then start u c.last text c.text r c.reads) c.result)

none_is_not : (u : State) → None ≡ Some u → ⊥
none_is_not u h = cc

-- with one more lexeme that stops the machine they begin none
pub stuck : (text : List Lexeme) (u : State) (x : Lexeme) (more : List Lexeme) (script : Script) → run start text ≡ Some u → step u x ≡ None → SpellsScript (text ++ x ∷ more) script → ⊥
unfolding run
stuck text u x more script r e h =
    let c = complete (text ++ x ∷ more) script h in
    none_is_not c.0 (sym (run-append start text (x ∷ more) ∙ ap (go_on (λ t. run t (x ∷ more))) r ∙ ap (go_on (λ t. run t more)) e) ∙ c.1)

same_state : (u w : State) → Some u ≡ Some w → u ≡ w
same_state u w h = cc

script_apart : (script : Script) → None ≡ Some script → ⊥
script_apart script h = cc

-- and at the end there is no script
pub unfinished : (text : List Lexeme) (u : State) (script : Script) → run start text ≡ Some u → result_of u ≡ None → SpellsScript text script → ⊥
unfinished text u script r e h =
    let c = complete text script h in
    script_apart script (sym e ∙ ap result_of (same_state u c.0 (sym r ∙ c.1)) ∙ c.2)

-- what is read is the only script
pub one_script : (text : List Lexeme) (u : State) (script other : Script) → run start text ≡ Some u → result_of u ≡ Some script → SpellsScript text other → other ≡ script
one_script text u script other r e h =
    let c = complete text other h in
    same other script (sym c.2 ∙ sym (ap result_of (same_state u c.0 (sym r ∙ c.1))) ∙ e)
  where
    same : (x y : Script) → Some x ≡ Some y → x ≡ y
    same x y q = cc
