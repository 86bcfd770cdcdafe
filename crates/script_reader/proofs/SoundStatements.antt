-- What was read of a script is a left part of trees of the grammar.
use Rattle.std.proofs.Common.{◌≡◌, ℕ, zero, suc, Bool, true, false, cond, List, [], ◌∷◌, ◌++◌, Option, Some, None, refl, sym, ap, subst, ◌∙◌, codes, append_assoc}
use Rattle.std.specs.Prelude.{length}
use Rattle.std.proofs.Math.Dec.{eqb-suc-zero}
use Rattle.std.proofs.lemmas.List.{append-nil}
use Rattle.vg_base.specs.declared.script.Expr.{Expr}
use Rattle.vg_base.specs.declared.script.Key.{Key}
use Rattle.vg_base.specs.declared.script.Root.{Root}
use Rattle.vg_base.specs.declared.script.AssignOp.{AssignOp}
use Rattle.vg_base.specs.declared.script.AssignOp.TheVariants as a
use Rattle.vg_base.specs.declared.script.Stmt.{Stmt}
use Rattle.vg_base.specs.declared.script.Stmt.TheVariants as st
use Rattle.vg_base.specs.declared.script.Script.{Script}
use Rattle.script_reader.specs.declared.lexing.lexeme.Sign.{Sign}
use Rattle.script_reader.specs.declared.lexing.lexeme.Sign.TheVariants as g
use Rattle.script_reader.specs.declared.lexing.lexeme.Lexeme.{Lexeme}
use Rattle.script_reader.specs.declared.lexing.lexeme.Lexeme.TheVariants as l
use Rattle.script_reader.specs.declared.lexing.roles.Role.{Role}
use Rattle.script_reader.specs.declared.lexing.roles.Role.TheVariants as r
use Rattle.script_reader.specs.declared.machine.stack.View.TheVariants as v
use Rattle.script_reader.specs.declared.machine.stack.Now.{Now}
use Rattle.script_reader.specs.declared.machine.stack.Now.TheVariants as n
use Rattle.script_reader.specs.declared.machine.stack.Open.{Open}
use Rattle.script_reader.specs.declared.machine.stack.Inside.{Inside}
use Rattle.script_reader.specs.declared.machine.stack.Turn.{Turn}
use Rattle.script_reader.specs.declared.machine.stack.Turn.TheVariants as t
use Rattle.script_reader.specs.declared.machine.stack.Purpose.{Purpose}
use Rattle.script_reader.specs.declared.machine.stack.Purpose.TheVariants as p
use Rattle.script_reader.specs.declared.machine.stack.Phase.{Phase}
use Rattle.script_reader.specs.declared.machine.stack.Phase.TheVariants as ph
use Rattle.script_reader.specs.declared.machine.stack.Part.{Part}
use Rattle.script_reader.specs.declared.machine.stack.Part.TheVariants as pt
use Rattle.script_reader.specs.declared.machine.stack.Outer.{Outer}
use Rattle.script_reader.specs.declared.machine.stack.State.{State}
use Rattle.script_reader.specs.declared.machine.stack.Closing.{Closing}
use Rattle.script_reader.specs.declared.machine.statement.ends.Closer.{Closer}
use Rattle.script_reader.specs.declared.machine.statement.ends.Closer.TheVariants as c
use Rattle.script_reader.specs.code.Marks.{assignment_of}
use Rattle.script_reader.specs.Roles.{role_of, is_name, IsName}
use Rattle.script_reader.specs.code.Expressions.{begun, ended, turn}
use Rattle.script_reader.specs.code.Statements.{at, start, around, closes, made, top_closes, settled, listed_at, listed, next, branch_at, other_branch, on_else, block_at, block_closed, on_curly, word_closer, closer_of, on_end, statement_of, on_test, on_ended, target_in, target_of as target_at, assigned_to, assigned as assigned_at, assignment, on_turn, on_value, if_begun, block_begun, word_beginning, beginning_of, begin, on_start, behind as behind_it, done_at, on_done, on_var, on_var_name, on_if, step_at, step, go_on, run, script_of, ended_as, script_with, result_at, result_of}
use Rattle.script_reader.specs.Grammar.{Expression, Operand, expression_spelled, operand_spelled, expression_meant, FitsExpression, FitsOperand, target_of, Statement, Statements, End, empty, block, declared, defined, if_alone, if_else, assigned, plain, no_statement, more, semicolon, nothing, end_spelled, assignment_sign, statement_spelled, statements_spelled, statement_meant, statements_meant, lacks, ends_open, ends_in_if, AllEnd, BeginsNoBlock, FitsStatement, FitsStatements, SpellsScript}
use Rattle.script_reader.proofs.RoleViews.{Spelt, spelt}
use Rattle.script_reader.proofs.Turns.{In}
use Rattle.script_reader.proofs.SoundOpen.{Inner, Ends, TurnReads, longer, started}
use Rattle.script_reader.proofs.SoundViews.{ended_reads}
use Rattle.script_reader.proofs.SoundOperands.{turn_reads}

-- ---- what waits for a statement

abbrev pub PartReads : Part → ℕ → ℕ → List Lexeme → Type 0
PartReads (pt.Block done) outside room part = (outside ≡ suc room) × (ss : Statements) × (part ≡ l.Sign g.CurlyOpen ∷ statements_spelled ss) × FitsStatements room ss × AllEnd ss × (done ≡ statements_meant ss)
PartReads (pt.IfYes test) outside room part = (outside ≡ suc room) × (x : Expression) × (part ≡ l.Word (codes "if") ∷ l.Sign g.RoundOpen ∷ (expression_spelled x ++ l.Sign g.RoundClose ∷ [])) × FitsExpression room x × (test ≡ expression_meant x)
PartReads (pt.IfElse test positive) outside room part = (outside ≡ suc room) × (x : Expression) × (s : Statement)
    × (part ≡ l.Word (codes "if") ∷ l.Sign g.RoundOpen ∷ (expression_spelled x ++ (l.Sign g.RoundClose ∷ (statement_spelled s ++ l.Word (codes "else") ∷ [])))) × FitsExpression room x × (test ≡ expression_meant x)
    × FitsStatement room s × (ends_in_if s ≡ false) × (positive ≡ statement_meant s)

-- the lexemes up to where a statement begins
abbrev pub OuterReads : List Stmt → List Outer → ℕ → List Lexeme → Type 0
OuterReads body [] room text = (room ≡ 64) × (ss : Statements) × (text ≡ statements_spelled ss) × FitsStatements 64 ss × AllEnd ss × (body ≡ statements_meant ss)
OuterReads body (o ∷ outer) room text = (before : List Lexeme) × (part : List Lexeme) × (text ≡ before ++ part) × OuterReads body outer o.room before × PartReads o.part o.room room part

-- what stands before the expression of a statement, and the room in which the expression begins
abbrev pub PurposeReads : Purpose → ℕ → ℕ → List Lexeme → List Lexeme → Type 0
PurposeReads p.Plain room base front part = (front ≡ []) × (base ≡ room) × (x : Lexeme) × (rest : List Lexeme) × (part ≡ x ∷ rest) × (x ≡ l.Sign g.CurlyOpen → ⊥)
PurposeReads (p.Var w) room base front part = (front ≡ l.Word (codes "var") ∷ l.Word w ∷ l.Sign g.Set ∷ []) × (base ≡ room) × IsName w
PurposeReads (p.Assign root path op) room base front part = (o : Operand) × (front ≡ operand_spelled o ++ l.Sign (assignment_sign op) ∷ []) × (base ≡ room) × (target_of o ≡ Some (root, path)) × FitsOperand room o
PurposeReads (p.Test inside) room base front part = (front ≡ l.Word (codes "if") ∷ l.Sign g.RoundOpen ∷ []) × (base ≡ inside) × (room ≡ suc inside)

-- a whole statement behind what waits
pub record WholeStatement (body : List Stmt) (outer : List Outer) (room : ℕ) (s : Stmt) (is_open in_if : Bool) (text : List Lexeme) : Type 0 where
  pub tree : Statement
  pub before : List Lexeme
  pub text_is : text ≡ before ++ statement_spelled tree
  pub waits : OuterReads body outer room before
  pub fits : FitsStatement room tree
  pub meant : s ≡ statement_meant tree
  -- where it isn't open, it ends with its `;`
  pub closed : is_open ≡ false → ends_open tree ≡ false
  pub branch : in_if ≡ false → ends_in_if tree ≡ false

pub record InValue (body : List Stmt) (outer : List Outer) (room : ℕ) (purpose : Purpose) (i : Inside) (text : List Lexeme) : Type 0 where
  pub before : List Lexeme
  pub front : List Lexeme
  pub part : List Lexeme
  pub base : ℕ
  pub text_is : text ≡ before ++ (front ++ part)
  pub waits : OuterReads body outer room before
  pub begins : PurposeReads purpose room base front part
  pub inner : Inner base i.frames i.room i.now part

abbrev pub StateReads : List Stmt → List Outer → ℕ → Phase → List Lexeme → Type 0
StateReads body outer room ph.Start text = OuterReads body outer room text
StateReads body outer room (ph.Done s) text = WholeStatement body outer room s false false text
StateReads body outer room ph.Var text = (before : List Lexeme) × (text ≡ before ++ l.Word (codes "var") ∷ []) × OuterReads body outer room before
StateReads body outer room (ph.VarName w) text = (before : List Lexeme) × (text ≡ before ++ (l.Word (codes "var") ∷ l.Word w ∷ [])) × OuterReads body outer room before × IsName w
StateReads body outer room (ph.If inside) text = (before : List Lexeme) × (text ≡ before ++ l.Word (codes "if") ∷ []) × OuterReads body outer room before × (room ≡ suc inside)
StateReads body outer room (ph.Value purpose i) text = InValue body outer room purpose i text

abbrev pub Reads : State → List Lexeme → Type 0
Reads s text = StateReads s.body s.outer s.room s.phase text

abbrev pub ReadsIf : Option State → List Lexeme → Type 0
ReadsIf None text = Unit {0}
ReadsIf (Some s) text = Reads s text

-- ---- what a statement ends

by_test : {A : Type 0} (b : Bool) (P : A → Type 0) (x y : A) → (b ≡ true → P x) → (b ≡ false → P y) → P (cond b x y)
by_test true P x y f g = f refl
by_test false P x y f g = g refl

if_text : (x s : List Lexeme) → (l.Word (codes "if") ∷ l.Sign g.RoundOpen ∷ (x ++ l.Sign g.RoundClose ∷ [])) ++ s ≡ l.Word (codes "if") ∷ l.Sign g.RoundOpen ∷ (x ++ (l.Sign g.RoundClose ∷ s))
if_text x s = ap (λ (ys : List Lexeme). l.Word (codes "if") ∷ l.Sign g.RoundOpen ∷ ys) (append_assoc x (l.Sign g.RoundClose ∷ []) s)

else_text : (x s u : List Lexeme) → (l.Word (codes "if") ∷ l.Sign g.RoundOpen ∷ (x ++ (l.Sign g.RoundClose ∷ (s ++ l.Word (codes "else") ∷ [])))) ++ u
    ≡ l.Word (codes "if") ∷ l.Sign g.RoundOpen ∷ (x ++ (l.Sign g.RoundClose ∷ (s ++ (l.Word (codes "else") ∷ u))))
else_text x s u =
    ap (λ (ys : List Lexeme). l.Word (codes "if") ∷ l.Sign g.RoundOpen ∷ ys) (append_assoc x (l.Sign g.RoundClose ∷ (s ++ l.Word (codes "else") ∷ [])) u)
    ∙ ap (λ (ys : List Lexeme). l.Word (codes "if") ∷ l.Sign g.RoundOpen ∷ (x ++ (l.Sign g.RoundClose ∷ ys))) (append_assoc s (l.Word (codes "else") ∷ []) u)

joined : (text before a b tail whole_part : List Lexeme) → text ≡ before ++ tail → before ≡ a ++ b → b ++ tail ≡ whole_part → text ≡ a ++ whole_part
joined text before a b tail whole_part h j k = h ∙ longer before a b tail j ∙ ap (λ (ys : List Lexeme). a ++ ys) k

-- an `if` that ends with its statement; where all are ended, it may end in an `if`
closes_one : (all : Bool) (part : Part) (outside : ℕ) (body : List Stmt) (outer : List Outer) (room : ℕ) (s : Stmt) (is_open : Bool) (text : List Lexeme) → closes all part ≡ true
    → WholeStatement body (around part outside ∷ outer) room s is_open all text → WholeStatement body outer outside (made part s) is_open all text
unfolding statement_spelled statement_meant FitsStatement
closes_one all (pt.Block done) outside body outer room s is_open text h q = absurd cc
closes_one true (pt.IfYes test) outside body outer room s is_open text h q =
    let o = q.waits in
    let d = o.4 in
    record {
      tree = if_alone d.1 q.tree;
      before = o.0;
      text_is = joined text q.before o.0 o.1 (statement_spelled q.tree) _ q.text_is o.2 (ap (λ (ys : List Lexeme). ys ++ statement_spelled q.tree) d.2 ∙ if_text (expression_spelled d.1) (statement_spelled q.tree));
      waits = o.3;
      fits = (room, d.0, d.3, q.fits);
      meant = ap (λ (z : Expr). st.If z s None) d.4 ∙ ap (λ (z : Stmt). st.If (expression_meant d.1) z None) q.meant;
      closed = q.closed;
      branch = λ e. absurd cc;
    }
closes_one false (pt.IfYes test) outside body outer room s is_open text h q = absurd cc
closes_one all (pt.IfElse test positive) outside body outer room s is_open text h q =
    let o = q.waits in
    let d = o.4 in
    record {
      tree = if_else d.1 d.2 q.tree;
      before = o.0;
      text_is = joined text q.before o.0 o.1 (statement_spelled q.tree) _ q.text_is o.2 (ap (λ (ys : List Lexeme). ys ++ statement_spelled q.tree) d.3 ∙ else_text (expression_spelled d.1) (statement_spelled d.2) (statement_spelled q.tree));
      waits = o.3;
      fits = (room, d.0, d.4, d.6, d.7, q.fits);
      meant = ap (λ (z : Expr). st.If z positive (Some s)) d.5 ∙ ap (λ (z : Stmt). st.If (expression_meant d.1) z (Some s)) d.8 ∙ ap (λ (z : Stmt). st.If (expression_meant d.1) (statement_meant d.2) (Some z)) q.meant;
      closed = q.closed;
      branch = q.branch;
    }

abbrev SettledReads : Bool → List Stmt → Bool → Closing → List Lexeme → Type 0
SettledReads all body is_open w text = WholeStatement body w.outer w.room w.statement is_open all text × (top_closes all w.outer ≡ false)

settled_reads : (all : Bool) (body : List Stmt) (outer : List Outer) (room : ℕ) (s : Stmt) (is_open : Bool) (text : List Lexeme) → WholeStatement body outer room s is_open all text
    → SettledReads all body is_open (settled all outer room s) text
unfolding settled
settled_reads all body [] room s is_open text q = (q, refl)
settled_reads all body (o ∷ outer) room s is_open text q =
    by_test (closes all o.part) (λ (w : Closing). SettledReads all body is_open w text) (settled all outer o.room (made o.part s)) (record { outer = o ∷ outer; room = room; statement = s })
    (λ h. settled_reads all body outer o.room (made o.part s) is_open text (closes_one all o.part o.room body outer room s is_open text h q))
    (λ h. (q, h))

-- where all are ended, nothing is said of an `if` at its end
loosened : (body : List Stmt) (outer : List Outer) (room : ℕ) (s : Stmt) (is_open in_if : Bool) (text : List Lexeme) → WholeStatement body outer room s is_open in_if text → WholeStatement body outer room s is_open true text
loosened body outer room s is_open in_if text q = record { tree = q.tree; before = q.before; text_is = q.text_is; waits = q.waits; fits = q.fits; meant = q.meant; closed = q.closed; branch = λ h. absurd cc }

-- ---- a statement at the end of its list

-- the statements of a block, whose last one may lack its `;`
abbrev pub InBlock : Part → ℕ → ℕ → Bool → List Lexeme → Type 0
InBlock (pt.Block done) outside room is_open part = (outside ≡ suc room) × (ss : Statements) × (part ≡ l.Sign g.CurlyOpen ∷ statements_spelled ss) × FitsStatements room ss × (is_open ≡ false → AllEnd ss) × (done ≡ statements_meant ss)
InBlock (pt.IfYes test) outside room is_open part = ⊥
InBlock (pt.IfElse test positive) outside room is_open part = ⊥

abbrev pub ListReads : List Stmt → List Outer → ℕ → Bool → List Lexeme → Type 0
ListReads body [] room is_open text = (room ≡ 64) × (ss : Statements) × (text ≡ statements_spelled ss) × FitsStatements 64 ss × (is_open ≡ false → AllEnd ss) × (body ≡ statements_meant ss)
ListReads body (o ∷ outer) room is_open text = (before : List Lexeme) × (part : List Lexeme) × (text ≡ before ++ part) × OuterReads body outer o.room before × InBlock o.part o.room room is_open part

abbrev pub StateLists : State → Bool → List Lexeme → Type 0
StateLists u is_open text = ListReads u.body u.outer u.room is_open text × (u.phase ≡ ph.Start)

in_block_starts : (part : Part) (outside room : ℕ) (text : List Lexeme) → InBlock part outside room false text → PartReads part outside room text
in_block_starts (pt.Block done) outside room text q = (q.0, q.1, q.2, q.3, q.4 refl, q.5)
in_block_starts (pt.IfYes test) outside room text q = absurd q
in_block_starts (pt.IfElse test positive) outside room text q = absurd q

-- behind a list whose last statement has its `;` a statement may begin
list_starts : (body : List Stmt) (outer : List Outer) (room : ℕ) (text : List Lexeme) → ListReads body outer room false text → OuterReads body outer room text
list_starts body [] room text q = (q.0, q.1, q.2, q.3, q.4 refl, q.5)
list_starts body (o ∷ outer) room text q = (q.0, q.1, q.2, q.3, in_block_starts o.part o.room room q.1 q.4)

appended : (text before front a b : List Lexeme) → text ≡ before ++ b → before ≡ front ++ a → text ≡ front ++ (a ++ b)
appended text before front a b h j = h ∙ longer before front a b j

listed_in_reads : (body : List Stmt) (part : Part) (outside : ℕ) (outer : List Outer) (room : ℕ) (s : Stmt) (is_open in_if : Bool) (text : List Lexeme) → closes true part ≡ false
    → WholeStatement body (around part outside ∷ outer) room s is_open in_if text → StateLists (listed_at body part outside outer room s) is_open text
unfolding statements_spelled statements_meant FitsStatements
listed_in_reads body (pt.Block done) outside outer room s is_open in_if text h q =
    let o = q.waits in
    let d = o.4 in (
      (
        o.0,
        o.1 ++ statement_spelled q.tree,
        appended text q.before o.0 o.1 (statement_spelled q.tree) q.text_is o.2,
        o.3,
        (
          d.0,
          more d.1 q.tree,
          ap (λ (ys : List Lexeme). ys ++ statement_spelled q.tree) d.2,
          (d.3, d.4, q.fits),
          (λ e. (d.4, q.closed e)),
          ap (λ (xs : List Stmt). xs ++ s ∷ []) d.5 ∙ ap (λ (z : Stmt). statements_meant d.1 ++ z ∷ []) q.meant,
        ),
      ),
      refl,
    )
listed_in_reads body (pt.IfYes test) outside outer room s is_open in_if text h q = absurd cc
listed_in_reads body (pt.IfElse test positive) outside outer room s is_open in_if text h q = absurd cc

listed_reads : (body : List Stmt) (outer : List Outer) (room : ℕ) (s : Stmt) (is_open in_if : Bool) (text : List Lexeme) → top_closes true outer ≡ false
    → WholeStatement body outer room s is_open in_if text → StateLists (listed body outer room s) is_open text
unfolding statements_spelled statements_meant FitsStatements
listed_reads body [] room s is_open in_if text h q =
    let d = q.waits in (
      (
        d.0,
        more d.1 q.tree,
        q.text_is ∙ ap (λ (ys : List Lexeme). ys ++ statement_spelled q.tree) d.2,
        (d.3, d.4, subst (λ m. FitsStatement m q.tree) d.0 q.fits),
        (λ e. (d.4, q.closed e)),
        ap (λ (xs : List Stmt). xs ++ s ∷ []) d.5 ∙ ap (λ (z : Stmt). statements_meant d.1 ++ z ∷ []) q.meant,
      ),
      refl,
    )
listed_reads body (o ∷ outer) room s is_open in_if text h q = listed_in_reads body o.part o.room outer room s is_open in_if text h q

next_reads : (body : List Stmt) (outer : List Outer) (room : ℕ) (s : Stmt) (is_open in_if : Bool) (text : List Lexeme) → WholeStatement body outer room s is_open in_if text
    → StateLists (next body outer room s) is_open text
unfolding next
next_reads body outer room s is_open in_if text q =
    let w = settled true outer room s in
    let d = settled_reads true body outer room s is_open text (loosened body outer room s is_open in_if text q) in
    listed_reads body w.outer w.room w.statement is_open true text d.1 d.0

-- ---- the end of a block, and `else`

block_at_reads : (body : List Stmt) (part : Part) (outside room : ℕ) (outer : List Outer) (is_open : Bool) (before text whole_text : List Lexeme) → whole_text ≡ before ++ text → OuterReads body outer outside before
    → InBlock part outside room is_open text → ReadsIf (block_at body part outside outer) (whole_text ++ l.Sign g.CurlyClose ∷ [])
unfolding statement_spelled statement_meant FitsStatement
block_at_reads body (pt.Block done) outside room outer is_open before text whole_text e h q = record {
  tree = block q.1;
  before = before;
  text_is = longer whole_text before text (l.Sign g.CurlyClose ∷ []) e ∙ ap (λ (ys : List Lexeme). before ++ (ys ++ l.Sign g.CurlyClose ∷ [])) q.2;
  waits = h;
  fits = (room, q.0, q.3);
  meant = ap st.Block q.5;
  closed = λ z. refl;
  branch = λ z. refl;
}
block_at_reads body (pt.IfYes test) outside room outer is_open before text whole_text e h q = absurd q
block_at_reads body (pt.IfElse test positive) outside room outer is_open before text whole_text e h q = absurd q

block_reads : (body : List Stmt) (outer : List Outer) (room : ℕ) (is_open : Bool) (text : List Lexeme) → ListReads body outer room is_open text → ReadsIf (block_closed body outer) (text ++ l.Sign g.CurlyClose ∷ [])
block_reads body [] room is_open text q = tt
block_reads body (o ∷ outer) room is_open text q = block_at_reads body o.part o.room room outer is_open q.0 q.1 text q.2 q.3 q.4

part_block_reads : (body : List Stmt) (part : Part) (outside room : ℕ) (outer : List Outer) (before text whole_text : List Lexeme) → whole_text ≡ before ++ text → OuterReads body outer outside before
    → PartReads part outside room text → ReadsIf (block_at body part outside outer) (whole_text ++ l.Sign g.CurlyClose ∷ [])
part_block_reads body (pt.Block done) outside room outer before text whole_text e h q =
    block_at_reads body (pt.Block done) outside room outer true before text whole_text e h (q.0, q.1, q.2, q.3, (λ z. q.4), q.5)
part_block_reads body (pt.IfYes test) outside room outer before text whole_text e h q = tt
part_block_reads body (pt.IfElse test positive) outside room outer before text whole_text e h q = tt

start_block_reads : (body : List Stmt) (outer : List Outer) (room : ℕ) (text : List Lexeme) → OuterReads body outer room text → ReadsIf (block_closed body outer) (text ++ l.Sign g.CurlyClose ∷ [])
start_block_reads body [] room text q = tt
start_block_reads body (o ∷ outer) room text q = part_block_reads body o.part o.room room outer q.0 q.1 text q.2 q.3 q.4

curly_reads : (body : List Stmt) (outer : List Outer) (room : ℕ) (s : Stmt) (is_open in_if : Bool) (text : List Lexeme) → WholeStatement body outer room s is_open in_if text
    → ReadsIf (on_curly body outer room s) (text ++ l.Sign g.CurlyClose ∷ [])
curly_reads body outer room s is_open in_if text q =
    let u = next body outer room s in
    block_reads u.body u.outer u.room is_open text (next_reads body outer room s is_open in_if text q).0

branch_text : (x s : List Lexeme) → (l.Word (codes "if") ∷ l.Sign g.RoundOpen ∷ (x ++ l.Sign g.RoundClose ∷ [])) ++ (s ++ l.Word (codes "else") ∷ [])
    ≡ l.Word (codes "if") ∷ l.Sign g.RoundOpen ∷ (x ++ (l.Sign g.RoundClose ∷ (s ++ l.Word (codes "else") ∷ [])))
branch_text x s = if_text x (s ++ l.Word (codes "else") ∷ [])

branch_at_reads : (body : List Stmt) (part : Part) (outside : ℕ) (outer : List Outer) (room : ℕ) (s : Stmt) (is_open : Bool) (text : List Lexeme)
    → WholeStatement body (around part outside ∷ outer) room s is_open false text → ReadsIf (branch_at body part outside outer room s) (text ++ l.Word (codes "else") ∷ [])
branch_at_reads body (pt.IfYes test) outside outer room s is_open text q =
    let o = q.waits in
    let d = o.4 in
    let sp = statement_spelled q.tree in (
      o.0,
      o.1 ++ (sp ++ l.Word (codes "else") ∷ []),
      longer text q.before sp (l.Word (codes "else") ∷ []) q.text_is ∙ longer q.before o.0 o.1 (sp ++ l.Word (codes "else") ∷ []) o.2,
      o.3,
      (d.0, d.1, q.tree, ap (λ (ys : List Lexeme). ys ++ (sp ++ l.Word (codes "else") ∷ [])) d.2 ∙ branch_text (expression_spelled d.1) sp, d.3, d.4, q.fits, q.branch refl, q.meant),
    )
branch_at_reads body (pt.Block done) outside outer room s is_open text q = tt
branch_at_reads body (pt.IfElse test positive) outside outer room s is_open text q = tt

branch_reads : (body : List Stmt) (outer : List Outer) (room : ℕ) (s : Stmt) (is_open : Bool) (text : List Lexeme) → WholeStatement body outer room s is_open false text
    → ReadsIf (other_branch body outer room s) (text ++ l.Word (codes "else") ∷ [])
branch_reads body [] room s is_open text q = tt
branch_reads body (o ∷ outer) room s is_open text q = branch_at_reads body o.part o.room outer room s is_open text q

else_reads : (body : List Stmt) (outer : List Outer) (room : ℕ) (s : Stmt) (is_open : Bool) (text : List Lexeme) → WholeStatement body outer room s is_open false text
    → ReadsIf (on_else body outer room s) (text ++ l.Word (codes "else") ∷ [])
unfolding on_else
else_reads body outer room s is_open text q =
    let w = settled false outer room s in
    branch_reads body w.outer w.room w.statement is_open text (settled_reads false body outer room s is_open text q).0

-- ---- the end of a statement

abbrev CloserIs : Lexeme → Closer → Type 0
CloserIs x c.Semicolon = x ≡ l.Sign g.Semicolon
CloserIs x c.RoundClose = x ≡ l.Sign g.RoundClose
CloserIs x c.CurlyClose = x ≡ l.Sign g.CurlyClose
CloserIs x c.Else = x ≡ l.Word (codes "else")
CloserIs x c.Other = Unit {0}

word_closer_is : (w : List ℕ) (role : Role) → Spelt w role → CloserIs (l.Word w) (word_closer role)
word_closer_is w r.Else h = ap l.Word h
word_closer_is w _ h = tt

sign_closer_is : (sign : Sign) → CloserIs (l.Sign sign) (closer_of (l.Sign sign))
sign_closer_is g.Semicolon = refl
sign_closer_is g.RoundClose = refl
sign_closer_is g.CurlyClose = refl
sign_closer_is _ = tt

closer_is : (x : Lexeme) → CloserIs x (closer_of x)
closer_is (l.Word w) = word_closer_is w (role_of w) (spelt w)
closer_is (l.Sign sign) = sign_closer_is sign
closer_is _ = tt

-- with its `;` or without it
abbrev EndsEither : List Stmt → List Outer → ℕ → Stmt → List Lexeme → Type 0
EndsEither body outer room s text = (end : End) → WholeStatement body outer room s (lacks end) false (text ++ end_spelled end)

open_whole : (body : List Stmt) (outer : List Outer) (room : ℕ) (s : Stmt) (text : List Lexeme) → EndsEither body outer room s text → WholeStatement body outer room s true false text
open_whole body outer room s text q = subst (λ (ys : List Lexeme). WholeStatement body outer room s true false ys) (append-nil text) (q nothing)

on_end_reads : (body : List Stmt) (outer : List Outer) (room : ℕ) (s : Stmt) (closer : Closer) (x : Lexeme) (text : List Lexeme) → CloserIs x closer → EndsEither body outer room s text
    → ReadsIf (on_end body outer room s closer) (text ++ x ∷ [])
unfolding on_end
on_end_reads body outer room s c.Semicolon x text h q = subst (λ (y : Lexeme). WholeStatement body outer room s false false (text ++ y ∷ [])) (sym h) (q semicolon)
on_end_reads body outer room s c.CurlyClose x text h q =
    subst (λ (y : Lexeme). ReadsIf (on_curly body outer room s) (text ++ y ∷ [])) (sym h) (curly_reads body outer room s true false text (open_whole body outer room s text q))
on_end_reads body outer room s c.Else x text h q =
    subst (λ (y : Lexeme). ReadsIf (on_else body outer room s) (text ++ y ∷ [])) (sym h) (else_reads body outer room s true text (open_whole body outer room s text q))
on_end_reads body outer room s c.RoundClose x text h q = tt
on_end_reads body outer room s c.Other x text h q = tt

-- ---- the expression of a statement ends

abbrev PurposeEnds : Purpose → ℕ → ℕ → List Lexeme → List Lexeme → Type 0
PurposeEnds p.Plain room base front part = (front ≡ []) × (base ≡ room) × BeginsNoBlock part
PurposeEnds (p.Var w) room base front part = PurposeReads (p.Var w) room base front part
PurposeEnds (p.Assign root path op) room base front part = PurposeReads (p.Assign root path op) room base front part
PurposeEnds (p.Test inside) room base front part = PurposeReads (p.Test inside) room base front part

no_block : (part : List Lexeme) (x : Lexeme) (rest : List Lexeme) → part ≡ x ∷ rest → (x ≡ l.Sign g.CurlyOpen → ⊥) → BeginsNoBlock part
no_block part x rest h n other e = n (same x rest other (sym h ∙ e))
  where
    same : (x : Lexeme) (xs ys : List Lexeme) → x ∷ xs ≡ l.Sign g.CurlyOpen ∷ ys → x ≡ l.Sign g.CurlyOpen
    same x xs ys q = cc

purpose_ends : (purpose : Purpose) (room base : ℕ) (front part : List Lexeme) → PurposeReads purpose room base front part → PurposeEnds purpose room base front part
purpose_ends p.Plain room base front part q = (q.0, q.1, no_block part q.2 q.3 q.4 q.5)
purpose_ends (p.Var w) room base front part q = q
purpose_ends (p.Assign root path op) room base front part q = q
purpose_ends (p.Test inside) room base front part q = q

-- the parts of a statement's text
text_parts : (text before front part end front_is part_is : List Lexeme) → text ≡ before ++ (front ++ part) → front ≡ front_is → part ≡ part_is → text ++ end ≡ before ++ (front_is ++ (part_is ++ end))
text_parts text before front part end front_is part_is h j m =
    longer text before (front ++ part) end h ∙ ap (λ (ys : List Lexeme). before ++ ys) (append_assoc front part end ∙ ap (λ (ys : List Lexeme). ys ++ (part ++ end)) j ∙ ap (λ (ys : List Lexeme). front_is ++ (ys ++ end)) m)

plain_ends : (body : List Stmt) (outer : List Outer) (room base : ℕ) (y : Expr) (text before front part : List Lexeme) → text ≡ before ++ (front ++ part) → OuterReads body outer room before
    → PurposeEnds p.Plain room base front part → Ends base y part → EndsEither body outer room (st.Plain y) text
unfolding statement_spelled statement_meant FitsStatement
plain_ends body outer room base y text before front part e h q d end = record {
  tree = plain d.tree end;
  before = before;
  text_is = text_parts text before front part (end_spelled end) [] (expression_spelled d.tree) e q.0 d.text_is;
  waits = h;
  fits = (subst BeginsNoBlock d.text_is q.2, subst (λ m. FitsExpression m d.tree) q.1 d.fits);
  meant = ap st.Plain d.meant;
  closed = λ z. z;
  branch = λ z. refl;
}

var_ends : (body : List Stmt) (outer : List Outer) (room base : ℕ) (w : List ℕ) (y : Expr) (text before front part : List Lexeme) → text ≡ before ++ (front ++ part) → OuterReads body outer room before
    → PurposeEnds (p.Var w) room base front part → Ends base y part → EndsEither body outer room (st.Var w (Some y)) text
unfolding statement_spelled statement_meant FitsStatement
var_ends body outer room base w y text before front part e h q d end = record {
  tree = defined w q.2 d.tree end;
  before = before;
  text_is = text_parts text before front part (end_spelled end) (l.Word (codes "var") ∷ l.Word w ∷ l.Sign g.Set ∷ []) (expression_spelled d.tree) e q.0 d.text_is;
  waits = h;
  fits = subst (λ m. FitsExpression m d.tree) q.1 d.fits;
  meant = ap (λ (z : Expr). st.Var w (Some z)) d.meant;
  closed = λ z. z;
  branch = λ z. refl;
}

assign_ends : (body : List Stmt) (outer : List Outer) (room base : ℕ) (root : Root) (path : List Key) (op : AssignOp) (y : Expr) (text before front part : List Lexeme) → text ≡ before ++ (front ++ part) → OuterReads body outer room before
    → PurposeEnds (p.Assign root path op) room base front part → Ends base y part → EndsEither body outer room (st.Assign root path op y) text
unfolding statement_spelled statement_meant FitsStatement
assign_ends body outer room base root path op y text before front part e h q d end = record {
  tree = assigned q.0 (root, path) q.3 op d.tree end;
  before = before;
  text_is = text_parts text before front part (end_spelled end) (operand_spelled q.0 ++ l.Sign (assignment_sign op) ∷ []) (expression_spelled d.tree) e q.1 d.text_is
      ∙ ap (λ (ys : List Lexeme). before ++ ys) (append_assoc (operand_spelled q.0) (l.Sign (assignment_sign op) ∷ []) (expression_spelled d.tree ++ end_spelled end));
  waits = h;
  fits = (q.4, subst (λ m. FitsExpression m d.tree) q.2 d.fits);
  meant = ap (st.Assign root path op) d.meant;
  closed = λ z. z;
  branch = λ z. refl;
}

test_reads : (body : List Stmt) (outer : List Outer) (room base inside : ℕ) (y : Expr) (closer : Closer) (x : Lexeme) (text before front part : List Lexeme) → text ≡ before ++ (front ++ part) → OuterReads body outer room before
    → PurposeEnds (p.Test inside) room base front part → Ends base y part → CloserIs x closer → ReadsIf (on_test body outer room inside y closer) (text ++ x ∷ [])
unfolding on_test
test_reads body outer room base inside y c.RoundClose x text before front part e h q d k = (
  before,
  l.Word (codes "if") ∷ l.Sign g.RoundOpen ∷ (expression_spelled d.tree ++ l.Sign g.RoundClose ∷ []),
  ap (λ (z : Lexeme). text ++ z ∷ []) k ∙ text_parts text before front part (l.Sign g.RoundClose ∷ []) (l.Word (codes "if") ∷ l.Sign g.RoundOpen ∷ []) (expression_spelled d.tree) e q.0 d.text_is,
  h,
  (q.2, d.tree, refl, subst (λ m. FitsExpression m d.tree) q.1 d.fits, d.meant),
)
test_reads body outer room base inside y _ x text before front part e h q d k = tt

on_ended_reads : (body : List Stmt) (outer : List Outer) (room base : ℕ) (purpose : Purpose) (y : Expr) (x : Lexeme) (text before front part : List Lexeme) → text ≡ before ++ (front ++ part) → OuterReads body outer room before
    → PurposeEnds purpose room base front part → Ends base y part → ReadsIf (on_ended body outer room purpose y (closer_of x)) (text ++ x ∷ [])
unfolding on_ended
on_ended_reads body outer room base p.Plain y x text before front part e h q d = on_end_reads body outer room (st.Plain y) (closer_of x) x text (closer_is x) (plain_ends body outer room base y text before front part e h q d)
on_ended_reads body outer room base (p.Var w) y x text before front part e h q d = on_end_reads body outer room (st.Var w (Some y)) (closer_of x) x text (closer_is x) (var_ends body outer room base w y text before front part e h q d)
on_ended_reads body outer room base (p.Assign root path op) y x text before front part e h q d =
    on_end_reads body outer room (st.Assign root path op y) (closer_of x) x text (closer_is x) (assign_ends body outer room base root path op y text before front part e h q d)
on_ended_reads body outer room base (p.Test inside) y x text before front part e h q d = test_reads body outer room base inside y (closer_of x) x text before front part e h q d (closer_is x)

-- ---- within the expression of a statement

longer_part : (purpose : Purpose) (room base : ℕ) (front part : List Lexeme) (x : Lexeme) → PurposeReads purpose room base front part → PurposeReads purpose room base front (part ++ x ∷ [])
longer_part p.Plain room base front part x q = (q.0, q.1, q.2, q.3 ++ x ∷ [], ap (λ (ys : List Lexeme). ys ++ x ∷ []) q.4, q.5)
longer_part (p.Var w) room base front part x q = q
longer_part (p.Assign root path op) room base front part x q = q
longer_part (p.Test inside) room base front part x q = q

longer_value : (text before front part : List Lexeme) (x : Lexeme) → text ≡ before ++ (front ++ part) → text ++ x ∷ [] ≡ before ++ (front ++ (part ++ x ∷ []))
longer_value text before front part x h = longer text before (front ++ part) (x ∷ []) h ∙ ap (λ (ys : List Lexeme). before ++ ys) (append_assoc front part (x ∷ []))

on_turn_reads : (body : List Stmt) (outer : List Outer) (room : ℕ) (purpose : Purpose) (o : Turn) (x : Lexeme) (text before front part : List Lexeme) (base : ℕ) → text ≡ before ++ (front ++ part) → OuterReads body outer room before
    → PurposeReads purpose room base front (part ++ x ∷ []) → PurposeEnds purpose room base front part → TurnReads base o part x → ReadsIf (on_turn body outer room purpose o (closer_of x)) (text ++ x ∷ [])
on_turn_reads body outer room purpose (t.On j) x text before front part base e h q m d = record { before = before; front = front; part = part ++ x ∷ []; base = base; text_is = longer_value text before front part x e; waits = h; begins = q; inner = d }
on_turn_reads body outer room purpose (t.Ended y) x text before front part base e h q m d = on_ended_reads body outer room base purpose y x text before front part e h m d
on_turn_reads body outer room purpose t.Unfit x text before front part base e h q m d = tt

sign_of_assignment : (sign : Sign) (op : AssignOp) → assignment_of sign ≡ Some op → sign ≡ assignment_sign op
sign_of_assignment g.Set op h = ap assignment_sign (same a.Set op h)
  where
    same : (x y : AssignOp) → Some x ≡ Some y → x ≡ y
    same x y q = cc
sign_of_assignment g.AddTo op h = ap assignment_sign (same a.Add op h)
  where
    same : (x y : AssignOp) → Some x ≡ Some y → x ≡ y
    same x y q = cc
sign_of_assignment g.TakeFrom op h = ap assignment_sign (same a.Sub op h)
  where
    same : (x y : AssignOp) → Some x ≡ Some y → x ≡ y
    same x y q = cc
sign_of_assignment _ op h = absurd cc

lexeme_of_assignment : (x : Lexeme) (op : AssignOp) → assignment x ≡ Some op → x ≡ l.Sign (assignment_sign op)
lexeme_of_assignment (l.Sign sign) op h = ap l.Sign (sign_of_assignment sign op h)
lexeme_of_assignment _ op h = absurd cc

-- an assignment to what was read
abbrev AssignReads : List Stmt → List Outer → ℕ → AssignOp → Option (Root × List Key) → List Lexeme → Type 0
AssignReads body outer room op o text = ReadsIf (assigned_to body outer room op o) text

target_reads : (body : List Stmt) (outer : List Outer) (room : ℕ) (op : AssignOp) (root : Root) (path : List Key) (inner_room : ℕ) (x : Lexeme) (text : List Lexeme) → x ≡ l.Sign (assignment_sign op)
    → InValue body outer room p.Plain (In [] inner_room (n.View (v.Target root path))) text → ReadsIf (assigned_to body outer room op (Some (root, path))) (text ++ x ∷ [])
target_reads body outer room op root path inner_room x text e q =
    let i = q.inner in
    let d = i.here in
    let part_is : q.part ≡ operand_spelled d.0 = i.text_is ∙ ap (λ (ys : List Lexeme). ys ++ i.part) i.outer.1 ∙ d.1 in
    record {
      before = q.before;
      front = operand_spelled d.0 ++ l.Sign (assignment_sign op) ∷ [];
      part = [];
      base = room;
      text_is = ap (λ (z : Lexeme). text ++ z ∷ []) e ∙ text_parts text q.before q.front q.part (l.Sign (assignment_sign op) ∷ []) [] (operand_spelled d.0) q.text_is q.begins.0 part_is
          ∙ ap (λ (ys : List Lexeme). q.before ++ ys) (sym (append-nil (operand_spelled d.0 ++ l.Sign (assignment_sign op) ∷ [])));
      waits = q.waits;
      begins = (d.0, refl, refl, d.3.as_is, subst (λ m. FitsOperand m d.0) (i.outer.0 ∙ q.begins.1) d.2);
      inner = started room [] room false [] (refl, refl);
    }

assigned_reads : (body : List Stmt) (outer : List Outer) (room : ℕ) (purpose : Purpose) (frames : List Open) (inner_room : ℕ) (now : Now) (op : AssignOp) (x : Lexeme) (text : List Lexeme) → x ≡ l.Sign (assignment_sign op)
    → InValue body outer room purpose (In frames inner_room now) text → ReadsIf (assigned_to body outer room op (target_at purpose frames now)) (text ++ x ∷ [])
assigned_reads body outer room p.Plain [] inner_room (n.View (v.Target root path)) op x text e q = target_reads body outer room op root path inner_room x text e q
assigned_reads body outer room p.Plain [] inner_room (n.View (v.Value y)) op x text e q = tt
assigned_reads body outer room p.Plain [] inner_room (n.View v.Latest) op x text e q = tt
assigned_reads body outer room p.Plain [] inner_room _ op x text e q = tt
assigned_reads body outer room p.Plain (o ∷ frames) inner_room now op x text e q =
    subst (λ (b : Bool). ReadsIf (assigned_to body outer room op (cond b (target_in now) None)) (text ++ x ∷ [])) (sym (eqb-suc-zero (length frames))) tt
assigned_reads body outer room (p.Var w) frames inner_room now op x text e q = tt
assigned_reads body outer room (p.Assign root path other) frames inner_room now op x text e q = tt
assigned_reads body outer room (p.Test inside) frames inner_room now op x text e q = tt

value_if_reads : (body : List Stmt) (outer : List Outer) (room : ℕ) (purpose : Purpose) (i : Inside) (x : Lexeme) (text : List Lexeme) (o : Option AssignOp) → assignment x ≡ o → InValue body outer room purpose i text
    → ReadsIf (elim o [ Some op ↦ assigned_at body outer room purpose i op | None ↦ on_turn body outer room purpose (turn i x) (closer_of x) ]) (text ++ x ∷ [])
value_if_reads body outer room purpose i x text None h q =
    on_turn_reads body outer room purpose (turn i x) x text q.before q.front q.part q.base q.text_is q.waits (longer_part purpose room q.base q.front q.part x q.begins)
    (purpose_ends purpose room q.base q.front q.part q.begins) (turn_reads q.base i x q.part q.inner)
value_if_reads body outer room purpose i x text (Some op) h q = assigned_reads body outer room purpose i.frames i.room i.now op x text (lexeme_of_assignment x op h) q

on_value_reads : (body : List Stmt) (outer : List Outer) (room : ℕ) (purpose : Purpose) (i : Inside) (x : Lexeme) (text : List Lexeme) → InValue body outer room purpose i text → ReadsIf (on_value body outer room purpose i x) (text ++ x ∷ [])
unfolding on_value
on_value_reads body outer room purpose i x text q = value_if_reads body outer room purpose i x text (assignment x) refl q

-- the first lexeme of an expression at the beginning of a statement
first_if_reads : (body : List Stmt) (outer : List Outer) (room : ℕ) (x : Lexeme) (text : List Lexeme) (o : Option AssignOp) → (x ≡ l.Sign g.CurlyOpen → ⊥) → OuterReads body outer room text
    → ReadsIf (elim o [ Some op ↦ assigned_at body outer room p.Plain (begun room true) op | None ↦ on_turn body outer room p.Plain (turn (begun room true) x) (closer_of x) ]) (text ++ x ∷ [])
first_if_reads body outer room x text None nb h =
    on_turn_reads body outer room p.Plain (turn (begun room true) x) x text text [] [] room (sym (append-nil text)) h (refl, refl, x, [], refl, nb) (refl, refl, λ rest e. absurd cc)
    (turn_reads room (begun room true) x [] (started room [] room true [] (refl, refl)))
first_if_reads body outer room x text (Some op) nb h = tt

first_reads : (body : List Stmt) (outer : List Outer) (room : ℕ) (x : Lexeme) (text : List Lexeme) → (x ≡ l.Sign g.CurlyOpen → ⊥) → OuterReads body outer room text → ReadsIf (on_value body outer room p.Plain (begun room true) x) (text ++ x ∷ [])
unfolding on_value
first_reads body outer room x text nb h = first_if_reads body outer room x text (assignment x) nb h

-- ---- the beginning of a statement

if_begun_reads : (body : List Stmt) (outer : List Outer) (room : ℕ) (w : List ℕ) (text : List Lexeme) → w ≡ codes "if" → OuterReads body outer room text → ReadsIf (if_begun body outer room) (text ++ l.Word w ∷ [])
if_begun_reads body outer zero w text e h = tt
if_begun_reads body outer (suc room) w text e h = (text, ap (λ (y : List ℕ). text ++ l.Word y ∷ []) e, h, refl)

block_begun_reads : (body : List Stmt) (outer : List Outer) (room : ℕ) (text : List Lexeme) → OuterReads body outer room text → ReadsIf (block_begun body outer room) (text ++ l.Sign g.CurlyOpen ∷ [])
unfolding statements_spelled statements_meant FitsStatements
block_begun_reads body outer zero text h = tt
block_begun_reads body outer (suc room) text h = (text, l.Sign g.CurlyOpen ∷ [], refl, h, (refl, no_statement, refl, tt, tt, refl))

word_no_curly : (w : List ℕ) → l.Word w ≡ l.Sign g.CurlyOpen → ⊥
word_no_curly w h = cc

begin_word_reads : (body : List Stmt) (outer : List Outer) (room : ℕ) (w : List ℕ) (role : Role) (text : List Lexeme) → Spelt w role → OuterReads body outer room text
    → ReadsIf (begin body outer room (l.Word w) (word_beginning role)) (text ++ l.Word w ∷ [])
begin_word_reads body outer room w r.Var text e h = (text, ap (λ (y : List ℕ). text ++ l.Word y ∷ []) e, h)
begin_word_reads body outer room w r.If text e h = if_begun_reads body outer room w text e h
begin_word_reads body outer room w _ text e h = first_reads body outer room (l.Word w) text (word_no_curly w) h

empty_reads : (body : List Stmt) (outer : List Outer) (room : ℕ) (text : List Lexeme) → OuterReads body outer room text → WholeStatement body outer room st.Empty false false (text ++ l.Sign g.Semicolon ∷ [])
unfolding statement_spelled statement_meant FitsStatement
empty_reads body outer room text h = record { tree = empty; before = text; text_is = refl; waits = h; fits = tt; meant = refl; closed = λ z. refl; branch = λ z. refl }

begin_sign_reads : (body : List Stmt) (outer : List Outer) (room : ℕ) (sign : Sign) (text : List Lexeme) → OuterReads body outer room text → ReadsIf (begin body outer room (l.Sign sign) (beginning_of (l.Sign sign))) (text ++ l.Sign sign ∷ [])
begin_sign_reads body outer room g.Semicolon text h = empty_reads body outer room text h
begin_sign_reads body outer room g.CurlyOpen text h = block_begun_reads body outer room text h
begin_sign_reads body outer room g.CurlyClose text h = start_block_reads body outer room text h
begin_sign_reads body outer room sign text h = first_reads body outer room (l.Sign sign) text (λ e. cc) h

on_start_reads : (body : List Stmt) (outer : List Outer) (room : ℕ) (x : Lexeme) (text : List Lexeme) → OuterReads body outer room text → ReadsIf (on_start body outer room x) (text ++ x ∷ [])
unfolding on_start
on_start_reads body outer room (l.Word w) text h = begin_word_reads body outer room w (role_of w) text (spelt w) h
on_start_reads body outer room (l.Sign sign) text h = begin_sign_reads body outer room sign text h
on_start_reads body outer room (l.Number z d) text h = first_reads body outer room (l.Number z d) text (λ e. cc) h
on_start_reads body outer room (l.Str w) text h = first_reads body outer room (l.Str w) text (λ e. cc) h
on_start_reads body outer room l.Bad text h = first_reads body outer room l.Bad text (λ e. cc) h

-- ---- behind a statement, and `var`

behind_reads : (u : State) (x : Lexeme) (text : List Lexeme) → StateLists u false text → ReadsIf (behind_it u x) (text ++ x ∷ [])
behind_reads u x text q = on_start_reads u.body u.outer u.room x text (list_starts u.body u.outer u.room text q.0)

done_reads : (body : List Stmt) (outer : List Outer) (room : ℕ) (s : Stmt) (x : Lexeme) (closer : Closer) (text : List Lexeme) → CloserIs x closer → WholeStatement body outer room s false false text
    → ReadsIf (done_at body outer room s x closer) (text ++ x ∷ [])
done_reads body outer room s x c.Else text e q = subst (λ (y : Lexeme). ReadsIf (on_else body outer room s) (text ++ y ∷ [])) (sym e) (else_reads body outer room s false text q)
done_reads body outer room s x _ text e q = behind_reads (next body outer room s) x text (next_reads body outer room s false false text q)

on_done_reads : (body : List Stmt) (outer : List Outer) (room : ℕ) (s : Stmt) (x : Lexeme) (text : List Lexeme) → WholeStatement body outer room s false false text → ReadsIf (on_done body outer room s x) (text ++ x ∷ [])
unfolding on_done
on_done_reads body outer room s x text q = done_reads body outer room s x (closer_of x) text (closer_is x) q

var_name_reads : (body : List Stmt) (outer : List Outer) (room : ℕ) (w : List ℕ) (b : Bool) (text : List Lexeme) → is_name (role_of w) ≡ b → StateReads body outer room ph.Var text
    → ReadsIf (cond b (Some (at body outer room (ph.VarName w))) None) (text ++ l.Word w ∷ [])
var_name_reads body outer room w true text e q = (q.0, longer text q.0 (l.Word (codes "var") ∷ []) (l.Word w ∷ []) q.1, q.2, e)
var_name_reads body outer room w false text e q = tt

on_var_reads : (body : List Stmt) (outer : List Outer) (room : ℕ) (x : Lexeme) (text : List Lexeme) → StateReads body outer room ph.Var text → ReadsIf (on_var body outer room x) (text ++ x ∷ [])
unfolding on_var
on_var_reads body outer room (l.Word w) text q = var_name_reads body outer room w (is_name (role_of w)) text refl q
on_var_reads body outer room _ text q = tt

declared_ends : (body : List Stmt) (outer : List Outer) (room : ℕ) (w : List ℕ) (text : List Lexeme) → StateReads body outer room (ph.VarName w) text → EndsEither body outer room (st.Var w None) text
unfolding statement_spelled statement_meant FitsStatement
declared_ends body outer room w text q end = record {
  tree = declared w q.3 end;
  before = q.0;
  text_is = longer text q.0 (l.Word (codes "var") ∷ l.Word w ∷ []) (end_spelled end) q.1;
  waits = q.2;
  fits = tt;
  meant = refl;
  closed = λ z. z;
  branch = λ z. refl;
}

set_reads : (body : List Stmt) (outer : List Outer) (room : ℕ) (w : List ℕ) (text : List Lexeme) → StateReads body outer room (ph.VarName w) text → InValue body outer room (p.Var w) (begun room false) (text ++ l.Sign g.Set ∷ [])
set_reads body outer room w text q = record {
  before = q.0;
  front = l.Word (codes "var") ∷ l.Word w ∷ l.Sign g.Set ∷ [];
  part = [];
  base = room;
  text_is = longer text q.0 (l.Word (codes "var") ∷ l.Word w ∷ []) (l.Sign g.Set ∷ []) q.1;
  waits = q.2;
  begins = (refl, refl, q.3);
  inner = started room [] room false [] (refl, refl);
}

var_end_reads : (body : List Stmt) (outer : List Outer) (room : ℕ) (w : List ℕ) (x : Lexeme) (text : List Lexeme) → StateReads body outer room (ph.VarName w) text
    → ReadsIf (on_end body outer room (st.Var w None) (closer_of x)) (text ++ x ∷ [])
var_end_reads body outer room w x text q = on_end_reads body outer room (st.Var w None) (closer_of x) x text (closer_is x) (declared_ends body outer room w text q)

on_var_name_reads : (body : List Stmt) (outer : List Outer) (room : ℕ) (w : List ℕ) (x : Lexeme) (text : List Lexeme) → StateReads body outer room (ph.VarName w) text → ReadsIf (on_var_name body outer room w x) (text ++ x ∷ [])
unfolding on_var_name
on_var_name_reads body outer room w (l.Sign g.Set) text q = set_reads body outer room w text q
on_var_name_reads body outer room w x text q = var_end_reads body outer room w x text q

on_if_reads : (body : List Stmt) (outer : List Outer) (room inside : ℕ) (x : Lexeme) (text : List Lexeme) → StateReads body outer room (ph.If inside) text → ReadsIf (on_if body outer room inside x) (text ++ x ∷ [])
unfolding on_if
on_if_reads body outer room inside (l.Sign g.RoundOpen) text q = record {
  before = q.0;
  front = l.Word (codes "if") ∷ l.Sign g.RoundOpen ∷ [];
  part = [];
  base = inside;
  text_is = longer text q.0 (l.Word (codes "if") ∷ []) (l.Sign g.RoundOpen ∷ []) q.1;
  waits = q.2;
  begins = (refl, refl, q.3);
  inner = started inside [] inside false [] (refl, refl);
}
on_if_reads body outer room inside _ text q = tt

-- ---- one lexeme, and many

pub step_reads : (s : State) (x : Lexeme) (text : List Lexeme) → Reads s text → ReadsIf (step s x) (text ++ x ∷ [])
unfolding step
step_reads s x text q = at_phase s.body s.outer s.room s.phase q
  where
    at_phase : (body : List Stmt) (outer : List Outer) (room : ℕ) (phase : Phase) → StateReads body outer room phase text → ReadsIf (step_at body outer room phase x) (text ++ x ∷ [])
    at_phase body outer room ph.Start q = on_start_reads body outer room x text q
    at_phase body outer room (ph.Done statement) q = on_done_reads body outer room statement x text q
    at_phase body outer room ph.Var q = on_var_reads body outer room x text q
    at_phase body outer room (ph.VarName w) q = on_var_name_reads body outer room w x text q
    at_phase body outer room (ph.If inside) q = on_if_reads body outer room inside x text q
    at_phase body outer room (ph.Value purpose i) q = on_value_reads body outer room purpose i x text q

run_on : (o : Option State) (xs front text : List Lexeme) → ReadsIf o front → ((t : State) → Reads t front → ReadsIf (run t xs) text) → ReadsIf (go_on (λ t. run t xs) o) text
run_on None xs front text h k = tt
run_on (Some t) xs front text h k = k t h

pub run_reads : (xs : List Lexeme) (s : State) (front : List Lexeme) → Reads s front → ReadsIf (run s xs) (front ++ xs)
unfolding run
run_reads [] s front h = subst (Reads s) (sym (append-nil front)) h
run_reads (x ∷ xs) s front h =
    run_on (step s x) xs (front ++ x ∷ []) (front ++ x ∷ xs) (step_reads s x front h)
    (λ t k. subst (λ (ys : List Lexeme). ReadsIf (run t xs) ys) (append_assoc front (x ∷ []) xs) (run_reads xs t (front ++ x ∷ []) k))

start_reads : Reads start []
unfolding statements_spelled statements_meant FitsStatements
start_reads = (refl, no_statement, refl, tt, tt, refl)

-- ---- the end

list_spells : (body : List Stmt) (outer : List Outer) (room : ℕ) (is_open : Bool) (text : List Lexeme) (script : Script) → ListReads body outer room is_open text → script_of body outer ≡ Some script → SpellsScript text script
list_spells body [] room is_open text script q h = record {
  tree = q.1;
  fits = q.3;
  spelled = q.2;
  meant = sym (same _ script h) ∙ ap (λ (xs : List Stmt). script_made xs) q.5;
}
  where
    script_made : List Stmt → Script
    script_made xs = record { body = xs }

    same : (x y : Script) → Some x ≡ Some y → x ≡ y
    same x y e = cc
list_spells body (o ∷ outer) room is_open text script q h = absurd cc

last_spells : (body : List Stmt) (outer : List Outer) (room : ℕ) (s : Stmt) (is_open in_if : Bool) (text : List Lexeme) (script : Script) → WholeStatement body outer room s is_open in_if text
    → script_with body outer room (Some s) ≡ Some script → SpellsScript text script
last_spells body outer room s is_open in_if text script q h =
    let u = next body outer room s in
    list_spells u.body u.outer u.room is_open text script (next_reads body outer room s is_open in_if text q).0 h

start_spells : (body : List Stmt) (outer : List Outer) (room : ℕ) (text : List Lexeme) (script : Script) → OuterReads body outer room text → script_of body outer ≡ Some script → SpellsScript text script
start_spells body [] room text script q h = list_spells body [] room true text script (q.0, q.1, q.2, q.3, (λ z. q.4), q.5) h
start_spells body (o ∷ outer) room text script q h = absurd cc

purpose_spells : (body : List Stmt) (outer : List Outer) (room base : ℕ) (purpose : Purpose) (y : Expr) (text before front part : List Lexeme) (script : Script) → text ≡ before ++ (front ++ part) → OuterReads body outer room before
    → PurposeEnds purpose room base front part → Ends base y part → script_with body outer room (statement_of purpose y) ≡ Some script → SpellsScript text script
purpose_spells body outer room base p.Plain y text before front part script e h q d k = last_spells body outer room (st.Plain y) true false text script (open_whole body outer room _ text (plain_ends body outer room base y text before front part e h q d)) k
purpose_spells body outer room base (p.Var w) y text before front part script e h q d k = last_spells body outer room (st.Var w (Some y)) true false text script (open_whole body outer room _ text (var_ends body outer room base w y text before front part e h q d)) k
purpose_spells body outer room base (p.Assign root path op) y text before front part script e h q d k =
    last_spells body outer room (st.Assign root path op y) true false text script (open_whole body outer room _ text (assign_ends body outer room base root path op y text before front part e h q d)) k
purpose_spells body outer room base (p.Test inside) y text before front part script e h q d k = absurd cc

value_spells : (body : List Stmt) (outer : List Outer) (room : ℕ) (purpose : Purpose) (i : Inside) (o : Option Expr) (text : List Lexeme) (script : Script) → ended i ≡ o → InValue body outer room purpose i text
    → script_with body outer room (ended_as purpose o) ≡ Some script → SpellsScript text script
value_spells body outer room purpose i None text script e q h = absurd cc
value_spells body outer room purpose i (Some y) text script e q h =
    purpose_spells body outer room q.base purpose y text q.before q.front q.part script q.text_is q.waits (purpose_ends purpose room q.base q.front q.part q.begins)
    (ended_reads q.base i.frames i.room i.now y q.part q.inner e) h

pub result_spells : (s : State) (text : List Lexeme) (script : Script) → Reads s text → result_of s ≡ Some script → SpellsScript text script
unfolding result_of
result_spells s text script q h = at_phase s.body s.outer s.room s.phase q h
  where
    at_phase : (body : List Stmt) (outer : List Outer) (room : ℕ) (phase : Phase) → StateReads body outer room phase text → result_at body outer room phase ≡ Some script → SpellsScript text script
    at_phase body outer room ph.Start q h = start_spells body outer room text script q h
    at_phase body outer room (ph.Done statement) q h = last_spells body outer room statement false false text script q h
    at_phase body outer room ph.Var q h = absurd cc
    at_phase body outer room (ph.VarName w) q h = last_spells body outer room (st.Var w None) true false text script (open_whole body outer room _ text (declared_ends body outer room w text q)) h
    at_phase body outer room (ph.If inside) q h = absurd cc
    at_phase body outer room (ph.Value purpose i) q h = value_spells body outer room purpose i (ended i) text script refl q h

from_some : (o : Option State) (s : State) (text : List Lexeme) → o ≡ Some s → ReadsIf o text → Reads s text
from_some o s text e h = subst (λ (q : Option State). ReadsIf q text) e h

pub reached : (text : List Lexeme) (s : State) → run start text ≡ Some s → Reads s text
reached text s h = from_some (run start text) s text h (run_reads text start [] start_reads)

-- what the machine reads, the grammar spells
pub sound : (text : List Lexeme) (s : State) (script : Script) → run start text ≡ Some s → result_of s ≡ Some script → SpellsScript text script
sound text s script h k = result_spells s text script (reached text s h) k
