-- What was read before and within an operand, and so each lexeme of an expression, is a left part of trees of the grammar.
use Rattle.std.proofs.Common.{◌≡◌, ℕ, zero, suc, Bool, true, false, List, [], ◌∷◌, ◌++◌, Some, refl, ap, ◌∙◌, codes, append_assoc}
use Rattle.vg_base.specs.declared.script.Expr.{Expr}
use Rattle.vg_base.specs.declared.script.Expr.TheVariants as e
use Rattle.vg_base.specs.declared.script.Key.TheVariants as k
use Rattle.vg_base.specs.declared.script.UnOp.{UnOp}
use Rattle.vg_base.specs.declared.script.UnOp.TheVariants as u
use Rattle.script_reader.specs.declared.lexing.lexeme.Sign.{Sign}
use Rattle.script_reader.specs.declared.lexing.lexeme.Sign.TheVariants as g
use Rattle.script_reader.specs.declared.lexing.lexeme.Lexeme.{Lexeme}
use Rattle.script_reader.specs.declared.lexing.lexeme.Lexeme.TheVariants as l
use Rattle.script_reader.specs.declared.lexing.roles.Role.{Role}
use Rattle.script_reader.specs.declared.lexing.roles.Role.TheVariants as r
use Rattle.script_reader.specs.declared.machine.stack.View.{View}
use Rattle.script_reader.specs.declared.machine.stack.View.TheVariants as v
use Rattle.script_reader.specs.declared.machine.stack.Source.{Source}
use Rattle.script_reader.specs.declared.machine.stack.Source.TheVariants as s
use Rattle.script_reader.specs.declared.machine.stack.Now.{Now}
use Rattle.script_reader.specs.declared.machine.stack.Now.TheVariants as n
use Rattle.script_reader.specs.declared.machine.stack.Frame.TheVariants as f
use Rattle.script_reader.specs.declared.machine.stack.Open.{Open}
use Rattle.script_reader.specs.declared.machine.stack.Inside.{Inside}
use Rattle.script_reader.specs.Roles.{role_of, is_name}
use Rattle.script_reader.specs.code.Expressions.{opened, deeper, extended, rule_view, text_of, start_word, list_opened, record_opened, start_sign, on_start, on_list, record_closed, on_members, on_keyed, on_dot, past_dot, past_close, on_rule, on_meta, call_of, source_called, on_source, source_text, on_text, turn_at, turn}
use Rattle.script_reader.specs.Grammar.{prefix_sign, Operand, Members, number, string, truth, null, out, name, empty_list, empty_record, rule, latest_rule, rule_text, latest_text, current_text, dotted, no_value, no_member, member, operand_spelled, values_spelled, members_spelled, operand_meant, values_meant, members_meant, FitsOperand, FitsValues, FitsMembers, key_of}
use Rattle.script_reader.proofs.RoleViews.{Spelt, spelt}
use Rattle.script_reader.proofs.Complete.{rule_value}
use Rattle.script_reader.proofs.SoundOpen.{Shows, OpenReads, source_spelled, SourceFits, Called, Inner, TurnReads, longer, start_of, viewed, valued, at_now, framed}
use Rattle.script_reader.proofs.SoundViews.{shows_dotted, on_view_reads}

-- ---- before an operand

-- an operand of one lexeme
one_reads : (base : ℕ) (frames : List Open) (room : ℕ) (view : View) (text : List Lexeme) (x : Lexeme) (o : Operand) → OpenReads base frames room text → x ∷ [] ≡ operand_spelled o → FitsOperand room o → Shows view o
    → Inner base frames room (n.View view) (text ++ x ∷ [])
one_reads base frames room view text x o h e fits shows = viewed base frames room view text (x ∷ []) (text ++ x ∷ []) o refl h e fits shows

value_reads : (base : ℕ) (frames : List Open) (room : ℕ) (y : Expr) (text : List Lexeme) (x : Lexeme) (o : Operand) → OpenReads base frames room text → x ∷ [] ≡ operand_spelled o → FitsOperand room o → y ≡ operand_meant o
    → Inner base frames room (n.View (v.Value y)) (text ++ x ∷ [])
value_reads base frames room y text x o h e fits m = one_reads base frames room (v.Value y) text x o h e fits (record { meant = m; as_is = tt })

word_is : (w k : List ℕ) → w ≡ k → l.Word w ∷ [] ≡ l.Word k ∷ []
word_is w k h = ap (λ (y : List ℕ). l.Word y ∷ []) h

name_reads : (base : ℕ) (frames : List Open) (room : ℕ) (first : Bool) (w : List ℕ) (text : List Lexeme) (role : Role) → role_of w ≡ role → is_name role ≡ true → OpenReads base frames room text
    → TurnReads base (start_word frames room first w role) text (l.Word w)
unfolding start_word operand_spelled operand_meant FitsOperand
name_reads base frames room true w text r.Name e i h = one_reads base frames room _ text (l.Word w) (name w (ap is_name e ∙ i)) h refl tt (record { meant = refl; as_is = refl })
name_reads base frames room true w text r.Latest e i h = one_reads base frames room _ text (l.Word w) (name w (ap is_name e ∙ i)) h refl tt (record { meant = refl; as_is = refl })
name_reads base frames room true w text r.Current e i h = one_reads base frames room _ text (l.Word w) (name w (ap is_name e ∙ i)) h refl tt (record { meant = refl; as_is = refl })
name_reads base frames room true w text r.Text e i h = one_reads base frames room _ text (l.Word w) (name w (ap is_name e ∙ i)) h refl tt (record { meant = refl; as_is = refl })
name_reads base frames room false w text r.Name e i h = value_reads base frames room _ text (l.Word w) (name w (ap is_name e ∙ i)) h refl tt refl
name_reads base frames room false w text r.Latest e i h = value_reads base frames room _ text (l.Word w) (name w (ap is_name e ∙ i)) h refl tt refl
name_reads base frames room false w text r.Current e i h = value_reads base frames room _ text (l.Word w) (name w (ap is_name e ∙ i)) h refl tt refl
name_reads base frames room false w text r.Text e i h = value_reads base frames room _ text (l.Word w) (name w (ap is_name e ∙ i)) h refl tt refl
name_reads base frames room first w text _ e i h = absurd cc

word_reads : (base : ℕ) (frames : List Open) (room : ℕ) (first : Bool) (w : List ℕ) (text : List Lexeme) (role : Role) → role_of w ≡ role → Spelt w role → OpenReads base frames room text
    → TurnReads base (start_word frames room first w role) text (l.Word w)
unfolding start_word operand_spelled operand_meant FitsOperand
word_reads base frames room true w text r.Out e k h = one_reads base frames room _ text (l.Word w) out h (word_is w (codes "out") k) tt (record { meant = refl; as_is = refl })
word_reads base frames room false w text r.Out e k h = value_reads base frames room _ text (l.Word w) out h (word_is w (codes "out") k) tt refl
word_reads base frames room true w text r.Rules e k h = at_now base frames room n.Rules text (l.Word w ∷ []) _ refl h (word_is w (codes "rules") k) tt
word_reads base frames room false w text r.Rules e k h = at_now base frames room n.Rules text (l.Word w ∷ []) _ refl h (word_is w (codes "rules") k) tt
word_reads base frames room true w text r.Meta e k h = at_now base frames room n.Meta text (l.Word w ∷ []) _ refl h (word_is w (codes "meta") k) tt
word_reads base frames room false w text r.Meta e k h = at_now base frames room n.Meta text (l.Word w ∷ []) _ refl h (word_is w (codes "meta") k) tt
word_reads base frames room true w text r.True e k h = value_reads base frames room _ text (l.Word w) (truth true) h (word_is w (codes "true") k) tt refl
word_reads base frames room false w text r.True e k h = value_reads base frames room _ text (l.Word w) (truth true) h (word_is w (codes "true") k) tt refl
word_reads base frames room true w text r.False e k h = value_reads base frames room _ text (l.Word w) (truth false) h (word_is w (codes "false") k) tt refl
word_reads base frames room false w text r.False e k h = value_reads base frames room _ text (l.Word w) (truth false) h (word_is w (codes "false") k) tt refl
word_reads base frames room true w text r.Null e k h = value_reads base frames room _ text (l.Word w) null h (word_is w (codes "null") k) tt refl
word_reads base frames room false w text r.Null e k h = value_reads base frames room _ text (l.Word w) null h (word_is w (codes "null") k) tt refl
word_reads base frames room first w text r.Name e k h = name_reads base frames room first w text r.Name e refl h
word_reads base frames room first w text r.Latest e k h = name_reads base frames room first w text r.Latest e refl h
word_reads base frames room first w text r.Current e k h = name_reads base frames room first w text r.Current e refl h
word_reads base frames room first w text r.Text e k h = name_reads base frames room first w text r.Text e refl h
word_reads base frames room true w text _ e k h = tt
word_reads base frames room false w text _ e k h = tt

prefix_reads : (base : ℕ) (frames : List Open) (room : ℕ) (op : UnOp) (text : List Lexeme) → OpenReads base frames room text → TurnReads base (deeper frames room (f.Signed op)) text (l.Sign (prefix_sign op))
prefix_reads base frames zero op text h = tt
prefix_reads base frames (suc room) op text h = framed base frames (f.Signed op) (suc room) room text (l.Sign (prefix_sign op) ∷ []) _ refl h (refl, refl)

round_reads : (base : ℕ) (frames : List Open) (room : ℕ) (text : List Lexeme) → OpenReads base frames room text → TurnReads base (deeper frames room f.Round) text (l.Sign g.RoundOpen)
round_reads base frames zero text h = tt
round_reads base frames (suc room) text h = framed base frames f.Round (suc room) room text (l.Sign g.RoundOpen ∷ []) _ refl h (refl, refl)

square_reads : (base : ℕ) (frames : List Open) (room : ℕ) (text : List Lexeme) → OpenReads base frames room text → TurnReads base (list_opened frames room) text (l.Sign g.SquareOpen)
square_reads base frames zero text h = tt
square_reads base frames (suc room) text h = at_now base frames room (n.ListStart (suc room)) text (l.Sign g.SquareOpen ∷ []) _ refl h (refl, refl) tt

curly_reads : (base : ℕ) (frames : List Open) (room : ℕ) (text : List Lexeme) → OpenReads base frames room text → TurnReads base (record_opened frames room) text (l.Sign g.CurlyOpen)
unfolding members_spelled members_meant FitsMembers
curly_reads base frames zero text h = tt
curly_reads base frames (suc room) text h = at_now base frames room (n.Members [] (suc room)) text (l.Sign g.CurlyOpen ∷ []) _ refl h (refl, no_member, refl, tt, refl) tt

begin_sign_reads : (base : ℕ) (frames : List Open) (room : ℕ) (sign : Sign) (text : List Lexeme) → OpenReads base frames room text → TurnReads base (start_sign frames room sign) text (l.Sign sign)
unfolding start_sign
begin_sign_reads base frames room g.RoundOpen text h = round_reads base frames room text h
begin_sign_reads base frames room g.SquareOpen text h = square_reads base frames room text h
begin_sign_reads base frames room g.CurlyOpen text h = curly_reads base frames room text h
begin_sign_reads base frames room g.Minus text h = prefix_reads base frames room u.Neg text h
begin_sign_reads base frames room g.Plus text h = prefix_reads base frames room u.Plus text h
begin_sign_reads base frames room g.Not text h = prefix_reads base frames room u.Not text h
begin_sign_reads base frames room _ text h = tt

on_start_reads : (base : ℕ) (frames : List Open) (room : ℕ) (first : Bool) (x : Lexeme) (text : List Lexeme) → OpenReads base frames room text → TurnReads base (on_start frames room first x) text x
unfolding on_start operand_spelled operand_meant FitsOperand
on_start_reads base frames room first (l.Word w) text h = word_reads base frames room first w text (role_of w) refl (spelt w) h
on_start_reads base frames room first (l.Number z d) text h = value_reads base frames room (e.Number z) text (l.Number z d) (number z d) h refl tt refl
on_start_reads base frames room first (l.Str w) text h = value_reads base frames room (e.Str w) text (l.Str w) (string w) h refl tt refl
on_start_reads base frames room first (l.Sign sign) text h = begin_sign_reads base frames room sign text h
on_start_reads base frames room first l.Bad text h = tt

-- ---- within an operand

on_dot_reads : (base : ℕ) (frames : List Open) (room : ℕ) (view : View) (x : Lexeme) (text : List Lexeme) → Inner base frames room (n.Dot view) text → TurnReads base (on_dot frames room view x) text x
unfolding on_dot operand_spelled FitsOperand
on_dot_reads base frames room view (l.Word w) text q =
    let d = q.here in
    viewed base frames room (extended view (k.Word w)) q.before (q.part ++ l.Word w ∷ []) _ (dotted d.0 w) (longer text q.before q.part (l.Word w ∷ []) q.text_is) q.outer
    (ap (λ (ys : List Lexeme). ys ++ l.Word w ∷ []) d.1 ∙ append_assoc (operand_spelled d.0) (l.Sign g.Dot ∷ []) (l.Word w ∷ [])) d.2 (shows_dotted view d.0 w d.3)
on_dot_reads base frames room view _ text q = tt

list_opens : (base : ℕ) (frames : List Open) (room outside : ℕ) (text : List Lexeme) → Inner base frames room (n.ListStart outside) text → OpenReads base (opened (f.List []) outside ∷ frames) room text
unfolding values_spelled values_meant FitsValues
list_opens base frames room outside text q = (q.before, q.part, q.text_is, q.outer, (q.here.0, no_value, q.here.1, tt, refl))

on_list_reads : (base : ℕ) (frames : List Open) (room outside : ℕ) (x : Lexeme) (text : List Lexeme) → Inner base frames room (n.ListStart outside) text → TurnReads base (on_list frames room outside x) text x
unfolding on_list operand_spelled operand_meant FitsOperand
on_list_reads base frames room outside (l.Sign g.SquareClose) text q =
    valued base frames outside (e.List []) q.before (q.part ++ l.Sign g.SquareClose ∷ []) _ empty_list (longer text q.before q.part (l.Sign g.SquareClose ∷ []) q.text_is) q.outer
    (ap (λ (ys : List Lexeme). ys ++ l.Sign g.SquareClose ∷ []) q.here.1) (room, q.here.0) refl
on_list_reads base frames room outside x text q = on_start_reads base (opened (f.List []) outside ∷ frames) room false x text (list_opens base frames room outside text q)

not_empty : {A : Type 0} (xs : List A) (x : A) → [] ≡ xs ++ x ∷ [] → ⊥
not_empty [] x h = cc
not_empty (y ∷ xs) x h = cc

no_members : (ms : Members) → [] ≡ members_meant ms → members_spelled ms ≡ []
unfolding members_meant members_spelled
no_members no_member h = refl
no_members (member ms lexeme key is x) h = absurd (not_empty _ _ h)

record_reads : (base : ℕ) (frames : List Open) (room outside : ℕ) (done : List (List ℕ × Expr)) (text : List Lexeme) → Inner base frames room (n.Members done outside) text
    → TurnReads base (record_closed frames outside done) text (l.Sign g.CurlyClose)
unfolding operand_spelled operand_meant FitsOperand
record_reads base frames room outside [] text q =
    let d = q.here in
    valued base frames outside (e.Record []) q.before (q.part ++ l.Sign g.CurlyClose ∷ []) _ empty_record (longer text q.before q.part (l.Sign g.CurlyClose ∷ []) q.text_is) q.outer
    (ap (λ (ys : List Lexeme). ys ++ l.Sign g.CurlyClose ∷ []) d.2 ∙ ap (λ (ys : List Lexeme). l.Sign g.CurlyOpen ∷ (ys ++ l.Sign g.CurlyClose ∷ [])) (no_members d.1 d.4)) (room, d.0) refl
record_reads base frames room outside (m ∷ done) text q = tt

key_reads : (base : ℕ) (frames : List Open) (room outside : ℕ) (done : List (List ℕ × Expr)) (key : List ℕ) (x : Lexeme) (text : List Lexeme) → key_of x ≡ Some key → Inner base frames room (n.Members done outside) text
    → Inner base frames room (n.Keyed done key outside) (text ++ x ∷ [])
key_reads base frames room outside done key x text h q =
    let d = q.here in
    at_now base frames room (n.Keyed done key outside) q.before (q.part ++ x ∷ []) _ (longer text q.before q.part (x ∷ []) q.text_is) q.outer
    (d.0, d.1, x, ap (λ (ys : List Lexeme). ys ++ x ∷ []) d.2, h, d.3, d.4) tt

on_members_reads : (base : ℕ) (frames : List Open) (room outside : ℕ) (done : List (List ℕ × Expr)) (x : Lexeme) (text : List Lexeme) → Inner base frames room (n.Members done outside) text
    → TurnReads base (on_members frames room outside done x) text x
unfolding on_members
on_members_reads base frames room outside done (l.Word w) text q = key_reads base frames room outside done w (l.Word w) text refl q
on_members_reads base frames room outside done (l.Str w) text q = key_reads base frames room outside done w (l.Str w) text refl q
on_members_reads base frames room outside done (l.Number z w) text q = key_reads base frames room outside done w (l.Number z w) text refl q
on_members_reads base frames room outside done (l.Sign g.CurlyClose) text q = record_reads base frames room outside done text q
on_members_reads base frames room outside done _ text q = tt

on_keyed_reads : (base : ℕ) (frames : List Open) (room outside : ℕ) (done : List (List ℕ × Expr)) (key : List ℕ) (x : Lexeme) (text : List Lexeme) → Inner base frames room (n.Keyed done key outside) text
    → TurnReads base (on_keyed frames room outside done key x) text x
unfolding on_keyed
on_keyed_reads base frames room outside done key (l.Sign g.Colon) text q =
    let d = q.here in
    framed base frames (f.Member done key) outside room q.before (q.part ++ l.Sign g.Colon ∷ []) _ (longer text q.before q.part (l.Sign g.Colon ∷ []) q.text_is) q.outer
    (d.0, d.1, d.2, ap (λ (ys : List Lexeme). ys ++ l.Sign g.Colon ∷ []) d.3 ∙ ap (λ (ys : List Lexeme). l.Sign g.CurlyOpen ∷ ys) (append_assoc (members_spelled d.1) (d.2 ∷ []) (l.Sign g.Colon ∷ [])), d.4, d.5, d.6)
on_keyed_reads base frames room outside done key _ text q = tt

rules_dot_reads : (base : ℕ) (frames : List Open) (room : ℕ) (x : Lexeme) (text : List Lexeme) → Inner base frames room n.Rules text → TurnReads base (past_dot frames room n.RulesDot x) text x
unfolding past_dot
rules_dot_reads base frames room (l.Sign g.Dot) text q =
    at_now base frames room n.RulesDot q.before (q.part ++ l.Sign g.Dot ∷ []) _ (longer text q.before q.part (l.Sign g.Dot ∷ []) q.text_is) q.outer (ap (λ (ys : List Lexeme). ys ++ l.Sign g.Dot ∷ []) q.here) tt
rules_dot_reads base frames room _ text q = tt

rule_shows : (w : List ℕ) (role : Role) → Spelt w role → Shows (rule_view w role) (rule w)
unfolding operand_meant operand_spelled
rule_shows w r.Latest h = record { meant = rule_value w r.Latest h; as_is = ap (λ (y : List ℕ). l.Word (codes "rules") ∷ l.Sign g.Dot ∷ l.Word y ∷ []) h }
rule_shows w _ h = record { meant = refl; as_is = tt }

on_rule_reads : (base : ℕ) (frames : List Open) (room : ℕ) (x : Lexeme) (text : List Lexeme) → Inner base frames room n.RulesDot text → TurnReads base (on_rule frames room x) text x
unfolding on_rule operand_spelled FitsOperand
on_rule_reads base frames room (l.Word w) text q =
    viewed base frames room (rule_view w (role_of w)) q.before (q.part ++ l.Word w ∷ []) _ (rule w) (longer text q.before q.part (l.Word w ∷ []) q.text_is) q.outer
    (ap (λ (ys : List Lexeme). ys ++ l.Word w ∷ []) q.here) tt (rule_shows w (role_of w) (spelt w))
on_rule_reads base frames room _ text q = tt

called_reads : (base : ℕ) (frames : List Open) (room : ℕ) (x : Lexeme) (text : List Lexeme) → Inner base frames room n.RuleCall text → TurnReads base (past_close frames room (n.View (v.Value e.LatestRule)) x) text x
unfolding past_close operand_spelled operand_meant FitsOperand
called_reads base frames room (l.Sign g.RoundClose) text q =
    valued base frames room e.LatestRule q.before (q.part ++ l.Sign g.RoundClose ∷ []) _ latest_rule (longer text q.before q.part (l.Sign g.RoundClose ∷ []) q.text_is) q.outer
    (ap (λ (ys : List Lexeme). ys ++ l.Sign g.RoundClose ∷ []) q.here.1) q.here.0 refl
called_reads base frames room _ text q = tt

meta_dot_reads : (base : ℕ) (frames : List Open) (room : ℕ) (x : Lexeme) (text : List Lexeme) → Inner base frames room n.Meta text → TurnReads base (past_dot frames room n.MetaDot x) text x
unfolding past_dot
meta_dot_reads base frames room (l.Sign g.Dot) text q =
    at_now base frames room n.MetaDot q.before (q.part ++ l.Sign g.Dot ∷ []) _ (longer text q.before q.part (l.Sign g.Dot ∷ []) q.text_is) q.outer (ap (λ (ys : List Lexeme). ys ++ l.Sign g.Dot ∷ []) q.here) tt
meta_dot_reads base frames room _ text q = tt

on_meta_reads : (base : ℕ) (frames : List Open) (room : ℕ) (x : Lexeme) (text : List Lexeme) → Inner base frames room n.MetaDot text → TurnReads base (on_meta frames room x) text x
unfolding on_meta
on_meta_reads base frames room (l.Word w) text q =
    at_now base frames room (n.Source (s.Rule w)) q.before (q.part ++ l.Word w ∷ []) _ (longer text q.before q.part (l.Word w ∷ []) q.text_is) q.outer (tt, ap (λ (ys : List Lexeme). ys ++ l.Word w ∷ []) q.here) tt
on_meta_reads base frames room _ text q = tt

source_call_reads : (base : ℕ) (frames : List Open) (room : ℕ) (w : List ℕ) (role : Role) (text : List Lexeme) → Spelt w role → Inner base frames room (n.Source (s.Rule w)) text
    → TurnReads base (call_of frames room role) text (l.Sign g.RoundOpen)
source_call_reads base frames (suc room) w r.Latest text h q =
    at_now base frames (suc room) (n.SourceCall s.Latest) q.before (q.part ++ l.Sign g.RoundOpen ∷ []) _ (longer text q.before q.part (l.Sign g.RoundOpen ∷ []) q.text_is) q.outer
    ((room, refl), ap (λ (ys : List Lexeme). ys ++ l.Sign g.RoundOpen ∷ []) q.here.1 ∙ ap (λ (y : List ℕ). l.Word (codes "meta") ∷ l.Sign g.Dot ∷ l.Word y ∷ l.Sign g.RoundOpen ∷ []) h) tt
source_call_reads base frames (suc room) w r.Current text h q =
    at_now base frames (suc room) (n.SourceCall s.Current) q.before (q.part ++ l.Sign g.RoundOpen ∷ []) _ (longer text q.before q.part (l.Sign g.RoundOpen ∷ []) q.text_is) q.outer
    ((room, refl), ap (λ (ys : List Lexeme). ys ++ l.Sign g.RoundOpen ∷ []) q.here.1 ∙ ap (λ (y : List ℕ). l.Word (codes "meta") ∷ l.Sign g.Dot ∷ l.Word y ∷ l.Sign g.RoundOpen ∷ []) h) tt
source_call_reads base frames zero w _ text h q = tt
source_call_reads base frames (suc room) w _ text h q = tt

open_source_reads : (base : ℕ) (frames : List Open) (room : ℕ) (source : Source) (text : List Lexeme) → Inner base frames room (n.Source source) text → TurnReads base (source_called frames room source) text (l.Sign g.RoundOpen)
open_source_reads base frames room (s.Rule w) text q = source_call_reads base frames room w (role_of w) text (spelt w) q
open_source_reads base frames room s.Latest text q = tt
open_source_reads base frames room s.Current text q = tt

on_source_reads : (base : ℕ) (frames : List Open) (room : ℕ) (source : Source) (x : Lexeme) (text : List Lexeme) → Inner base frames room (n.Source source) text → TurnReads base (on_source frames room source x) text x
unfolding on_source
on_source_reads base frames room source (l.Sign g.Dot) text q =
    at_now base frames room (n.SourceDot source) q.before (q.part ++ l.Sign g.Dot ∷ []) _ (longer text q.before q.part (l.Sign g.Dot ∷ []) q.text_is) q.outer (q.here.0, ap (λ (ys : List Lexeme). ys ++ l.Sign g.Dot ∷ []) q.here.1) tt
on_source_reads base frames room source (l.Sign g.RoundOpen) text q = open_source_reads base frames room source text q
on_source_reads base frames room source _ text q = tt

source_of_call : (room : ℕ) (source : Source) (part : List Lexeme) → Called room source part → SourceFits room source × (part ++ l.Sign g.RoundClose ∷ [] ≡ source_spelled source)
source_of_call room (s.Rule w) part h = absurd h
source_of_call room s.Latest part h = (h.0, ap (λ (ys : List Lexeme). ys ++ l.Sign g.RoundClose ∷ []) h.1)
source_of_call room s.Current part h = (h.0, ap (λ (ys : List Lexeme). ys ++ l.Sign g.RoundClose ∷ []) h.1)

source_called_reads : (base : ℕ) (frames : List Open) (room : ℕ) (source : Source) (x : Lexeme) (text : List Lexeme) → Inner base frames room (n.SourceCall source) text
    → TurnReads base (past_close frames room (n.Source source) x) text x
unfolding past_close
source_called_reads base frames room source (l.Sign g.RoundClose) text q =
    at_now base frames room (n.Source source) q.before (q.part ++ l.Sign g.RoundClose ∷ []) _ (longer text q.before q.part (l.Sign g.RoundClose ∷ []) q.text_is) q.outer (source_of_call room source q.part q.here) tt
source_called_reads base frames room source _ text q = tt

pub text_operand : (source : Source) → Operand
text_operand (s.Rule w) = rule_text w
text_operand s.Latest = latest_text
text_operand s.Current = current_text

text_spelled : (source : Source) → (source_spelled source ++ l.Sign g.Dot ∷ []) ++ l.Word (codes "text") ∷ [] ≡ operand_spelled (text_operand source)
unfolding text_operand operand_spelled
text_spelled (s.Rule w) = refl
text_spelled s.Latest = refl
text_spelled s.Current = refl

text_fits : (room : ℕ) (source : Source) → SourceFits room source → FitsOperand room (text_operand source)
unfolding text_operand FitsOperand
text_fits room (s.Rule w) h = tt
text_fits room s.Latest h = h
text_fits room s.Current h = h

text_meant : (source : Source) → text_of source ≡ operand_meant (text_operand source)
unfolding text_operand operand_meant
text_meant (s.Rule w) = refl
text_meant s.Latest = refl
text_meant s.Current = refl

source_text_reads : (base : ℕ) (frames : List Open) (room : ℕ) (source : Source) (w : List ℕ) (role : Role) (text : List Lexeme) → Spelt w role → Inner base frames room (n.SourceDot source) text
    → TurnReads base (source_text frames room source role) text (l.Word w)
source_text_reads base frames room source w r.Text text h q =
    valued base frames room (text_of source) q.before (q.part ++ l.Word w ∷ []) _ (text_operand source) (longer text q.before q.part (l.Word w ∷ []) q.text_is) q.outer
    (ap (λ (ys : List Lexeme). ys ++ l.Word w ∷ []) q.here.1 ∙ ap (λ (y : List ℕ). (source_spelled source ++ l.Sign g.Dot ∷ []) ++ l.Word y ∷ []) h ∙ text_spelled source) (text_fits room source q.here.0) (text_meant source)
source_text_reads base frames room source w _ text h q = tt

on_text_reads : (base : ℕ) (frames : List Open) (room : ℕ) (source : Source) (x : Lexeme) (text : List Lexeme) → Inner base frames room (n.SourceDot source) text → TurnReads base (on_text frames room source x) text x
unfolding on_text
on_text_reads base frames room source (l.Word w) text q = source_text_reads base frames room source w (role_of w) text (spelt w) q
on_text_reads base frames room source _ text q = tt

-- ---- one lexeme

turn_at_reads : (base : ℕ) (frames : List Open) (room : ℕ) (now : Now) (x : Lexeme) (text : List Lexeme) → Inner base frames room now text → TurnReads base (turn_at frames room now x) text x
turn_at_reads base frames room (n.Start first) x text q = on_start_reads base frames room first x text (start_of base frames room first text q)
turn_at_reads base frames room (n.View view) x text q = on_view_reads base frames room view x text q
turn_at_reads base frames room (n.Dot view) x text q = on_dot_reads base frames room view x text q
turn_at_reads base frames room (n.ListStart outside) x text q = on_list_reads base frames room outside x text q
turn_at_reads base frames room (n.Members done outside) x text q = on_members_reads base frames room outside done x text q
turn_at_reads base frames room (n.Keyed done key outside) x text q = on_keyed_reads base frames room outside done key x text q
turn_at_reads base frames room n.Rules x text q = rules_dot_reads base frames room x text q
turn_at_reads base frames room n.RulesDot x text q = on_rule_reads base frames room x text q
turn_at_reads base frames room n.RuleCall x text q = called_reads base frames room x text q
turn_at_reads base frames room n.Meta x text q = meta_dot_reads base frames room x text q
turn_at_reads base frames room n.MetaDot x text q = on_meta_reads base frames room x text q
turn_at_reads base frames room (n.Source source) x text q = on_source_reads base frames room source x text q
turn_at_reads base frames room (n.SourceCall source) x text q = source_called_reads base frames room source x text q
turn_at_reads base frames room (n.SourceDot source) x text q = on_text_reads base frames room source x text q

pub turn_reads : (base : ℕ) (i : Inside) (x : Lexeme) (text : List Lexeme) → Inner base i.frames i.room i.now text → TurnReads base (turn i x) text x
unfolding turn
turn_reads base i x text q = turn_at_reads base i.frames i.room i.now x text q
