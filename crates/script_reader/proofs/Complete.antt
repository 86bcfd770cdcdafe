-- Each expression of the grammar is read as what it means.
use Rattle.std.proofs.Common.{◌≡◌, ℕ, suc, ◌≤◌, ◌<◌, Bool, true, false, List, [], ◌∷◌, ◌++◌, Option, Some, None, refl, sym, ap, subst, ◌∙◌, codes, append_assoc, arith}
use Rattle.std.specs.Prelude.{◌==◌}
use Rattle.std.proofs.lemmas.Bool.Decides.{nat_tests}
use Rattle.vg_base.specs.declared.script.Expr.{Expr}
use Rattle.vg_base.specs.declared.script.Expr.TheVariants as e
use Rattle.vg_base.specs.declared.script.Key.{Key}
use Rattle.vg_base.specs.declared.script.BinOp.{BinOp}
use Rattle.vg_base.specs.declared.script.BinOp.TheVariants as bin
use Rattle.vg_base.specs.declared.script.Key.TheVariants as k
use Rattle.script_reader.specs.declared.lexing.lexeme.Sign.{Sign}
use Rattle.script_reader.specs.declared.lexing.lexeme.Sign.TheVariants as g
use Rattle.script_reader.specs.declared.lexing.lexeme.Lexeme.{Lexeme}
use Rattle.script_reader.specs.declared.lexing.lexeme.Lexeme.TheVariants as l
use Rattle.script_reader.specs.declared.lexing.roles.Role.{Role}
use Rattle.script_reader.specs.declared.lexing.roles.Role.TheVariants as r
use Rattle.script_reader.specs.declared.machine.stack.View.{View}
use Rattle.script_reader.specs.declared.machine.stack.View.TheVariants as v
use Rattle.script_reader.specs.declared.machine.stack.Source.TheVariants as s
use Rattle.script_reader.specs.declared.machine.stack.Now.{Now}
use Rattle.script_reader.specs.declared.machine.stack.Now.TheVariants as n
use Rattle.script_reader.specs.declared.machine.stack.Frame.{Frame}
use Rattle.script_reader.specs.declared.machine.stack.Frame.TheVariants as f
use Rattle.script_reader.specs.declared.machine.stack.Open.{Open}
use Rattle.script_reader.specs.declared.machine.stack.Inside.{Inside}
use Rattle.script_reader.specs.declared.machine.stack.Turn.TheVariants as t
use Rattle.script_reader.specs.Signs.{level}
use Rattle.script_reader.specs.Chains.{linked, part}
use Rattle.script_reader.specs.Roles.{role_of}
use Rattle.script_reader.specs.code.Expressions.{folds, made, opened, target_value, value_of, extended, rule_view, folded, start_sign, on_start, on_list, turn, choose, closed_whole, root_value}
use Rattle.script_reader.specs.Grammar.{prefix_sign, Expression, Operand, Values, Members, operand, signed, binary, choice, number, string, truth, null, out, name, round, empty_list, list, empty_record, record_of, rule, latest_rule, rule_text, latest_text, current_text, dotted, indexed, no_value, value, no_member, member, expression_spelled, operand_spelled, values_spelled, members_spelled, expression_meant, operand_meant, values_meant, members_meant, tightness, FitsExpression, FitsOperand, FitsValues, FitsMembers}
use Rattle.script_reader.proofs.RoleViews.{Spelt, spelt}
use Rattle.script_reader.proofs.Turns.{In, turns, on_to, turns-then, turns-more, turns-none, turns-one}
use Rattle.script_reader.proofs.Folding.{Takes, takes-more, is_le, keeps, whole, folded-stays, folded-on}
use Rattle.script_reader.proofs.Steps.{ends_value, Viewing, Starting, Valued, turn_number, turn_string, turn_truth, turn_null, out_view, turn_out, name_view, turn_name, turn_rules, turn_meta, turn_round, turn_square, turn_curly, turn_prefix, turn_dot, turn_word, turn_index, turn_operator, turn_choice, turn_ending, close_round, close_index, close_list, comma_list, close_record, comma_record, colon_choice, turn_empty_list, turn_empty_record, turn_key, turn_colon, turn_rules_dot, turn_rule, turn_latest, turn_call, turn_called, turn_meta_dot, turn_source, turn_source_latest, turn_source_current, turn_source_called, turn_source_dot, turn_source_text}

-- ---- the operand in view

abbrev pub view_of : Bool → Operand → View
view_of first out = out_view first
view_of first (name w is) = name_view first w
view_of first (rule w) = rule_view w (role_of w)
view_of first (dotted o w) = extended (view_of first o) (k.Word w)
view_of first (indexed o x) = extended (view_of first o) (k.Index (expression_meant x))
view_of first o = v.Value (operand_meant o)

target_value-more : (x : Expr) (path : List Key) (key : Key) → target_value x (path ++ key ∷ []) ≡ part (target_value x path) key
target_value-more x [] key = refl
target_value-more x (one ∷ path) key = target_value-more (part x one) path key

pub value_extended : (view : View) (key : Key) → value_of (extended view key) ≡ part (value_of view) key
value_extended (v.Value x) key = refl
value_extended (v.Target root path) key = target_value-more (root_value root) path key
value_extended v.Latest key = refl

pub rule_value : (w : List ℕ) (role : Role) → Spelt w role → value_of (rule_view w role) ≡ e.Rule w
rule_value w r.Latest h = ap e.Rule (sym h)
rule_value w _ h = refl

pub view_value : (first : Bool) (o : Operand) → value_of (view_of first o) ≡ operand_meant o
unfolding operand_meant
view_value true out = refl
view_value false out = refl
view_value true (name w is) = refl
view_value false (name w is) = refl
view_value first (rule w) = rule_value w (role_of w) (spelt w)
view_value first (dotted o w) = value_extended (view_of first o) (k.Word w) ∙ ap (λ (x : Expr). part x (k.Word w)) (view_value first o)
view_value first (indexed o x) = value_extended (view_of first o) (k.Index (expression_meant x)) ∙ ap (λ (y : Expr). part y (k.Index (expression_meant x))) (view_value first o)
view_value first _ = refl

-- ---- an expression was read

-- these lexemes are read, and whatever ends this then, sees the value in view
pub record Completed (i : Inside) (xs : List Lexeme) (frames : List Open) (room : ℕ) (x : Expr) (tight : ℕ) : Type 0 where
  pub behind : List Open
  pub space : ℕ
  pub view : View
  pub reads : turns i xs ≡ Some (Viewing behind space view)
  pub same : (least : ℕ) → least ≤ tight → folded least behind space (value_of view) ≡ folded least frames room x

-- and then a sign that ends it
closes : (i m : Inside) (xs : List Lexeme) (frame : Frame) (outside : ℕ) (frames : List Open) (room : ℕ) (x : Expr) (tight : ℕ) (sign : Sign)
    → ends_value sign ≡ true
    → folds 0 frame ≡ false
    → closed_whole (whole (opened frame outside ∷ frames) room x) sign ≡ t.On m
    → Completed i xs (opened frame outside ∷ frames) room x tight
    → turns i (xs ++ l.Sign sign ∷ []) ≡ Some m
closes i m xs frame outside frames room x tight sign h stays c q =
    let ended = q.same 0 (omega arith) ∙ folded-stays 0 (opened frame outside ∷ frames) room x stays in
    turns-then i (Viewing q.behind q.space q.view) m xs (l.Sign sign ∷ []) q.reads
    (turns-one (Viewing q.behind q.space q.view) m (l.Sign sign) (turn_ending q.behind q.space q.view sign (whole (opened frame outside ∷ frames) room x) h ended ∙ c))

-- ---- the first value of a list

start_square : (frames : List Open) (room : ℕ) (xs : List Lexeme) (m : Inside) → turns (Starting frames room false) (l.Sign g.SquareClose ∷ xs) ≡ Some m → ⊥
unfolding turns turn on_start start_sign
start_square frames room xs m h = cc

list_turn : (frames : List Open) (room outside : ℕ) (x : Lexeme) → (x ≡ l.Sign g.SquareClose → ⊥)
    → turn (In frames room (n.ListStart outside)) x ≡ turn (Starting (opened (f.List []) outside ∷ frames) room false) x
unfolding turn on_list
list_turn frames room outside (l.Sign g.SquareClose) h = absurd (h refl)
list_turn frames room outside _ h = refl

-- what is read from the first value on is read behind the `[`
list_start : (frames : List Open) (room outside : ℕ) (x : Lexeme) (xs : List Lexeme) (m : Inside)
    → turns (Starting (opened (f.List []) outside ∷ frames) room false) (x ∷ xs) ≡ Some m → turns (In frames room (n.ListStart outside)) (x ∷ xs) ≡ Some m
unfolding turns
list_start frames room outside x xs m h =
    ap (on_to (λ j. turns j xs)) (list_turn frames room outside x (λ q. start_square (opened (f.List []) outside ∷ frames) room xs m (subst (λ (y : Lexeme). turns (Starting (opened (f.List []) outside ∷ frames) room false) (y ∷ xs) ≡ Some m) q h))) ∙ h

start_is_no_view : (frames behind : List Open) (room space : ℕ) (first : Bool) (view : View) → Some (Starting frames room first) ≡ Some (Viewing behind space view) → ⊥
start_is_no_view frames behind room space first view h = now_apart (ap now_of h)
  where
    now_of : Option Inside → Now
    now_of None = n.Rules
    now_of (Some i) = i.now

    now_apart : n.Start first ≡ n.View view → ⊥
    now_apart q = cc

list_begins : (frames : List Open) (room outside : ℕ) (xs : List Lexeme) (behind : List Open) (space : ℕ) (view : View)
    → turns (Starting (opened (f.List []) outside ∷ frames) room false) xs ≡ Some (Viewing behind space view)
    → turns (In frames room (n.ListStart outside)) xs ≡ Some (Viewing behind space view)
unfolding turns
list_begins frames room outside [] behind space view h = absurd (start_is_no_view _ behind room space false view h)
list_begins frames room outside (x ∷ xs) behind space view h = list_start frames room outside x xs _ h

-- ---- each part of the grammar

twice : (least : ℕ) (frames : List Open) (room : ℕ) (x : Expr) (frame : Frame) (outside : ℕ) (y : Expr) → folds least frame ≡ true → y ≡ made frame x
    → folded least (opened frame outside ∷ frames) room x ≡ folded least frames outside y
twice least frames room x frame outside y h e = folded-on least frame outside frames room x h ∙ ap (folded least frames outside) (sym e)

pub level_most : (op : BinOp) → level op ≤ 6
level_most bin.Or = omega arith
level_most _ = omega arith

pub level_least : (op : BinOp) → 1 ≤ level op
level_least bin.Or = omega arith
level_least _ = omega arith

le_below : (a b c : ℕ) → a ≤ b → b < c → a ≤ c
le_below a b c h j = omega arith

is_zero : (n : ℕ) → n ≤ 0 → (n == 0) ≡ true
is_zero n h = grind (arith, nat_tests)

choose_at : (frames : List Open) (room inner : ℕ) (test : Expr) → room ≡ suc inner
    → choose (whole frames room test) ≡ t.On (Starting (opened (f.ChooseYes test) room ∷ frames) inner false)
choose_at frames room inner test h = rw h refl

regroup : (i m : Inside) (xs : List Lexeme) (x : Lexeme) (ys : List Lexeme) → turns i ((xs ++ x ∷ []) ++ ys) ≡ Some m → turns i (xs ++ x ∷ ys) ≡ Some m
regroup i m xs x ys h = rw append_assoc at h

mutual
  unfolding expression_spelled expression_meant FitsExpression

  pub complete_expression : (x : Expression) (frames : List Open) (room : ℕ) (first : Bool) → FitsExpression room x → Takes frames (tightness x)
      → Completed (Starting frames room first) (expression_spelled x) frames room (expression_meant x) (tightness x)
  complete_expression (operand o) frames room first fits takes = record {
    behind = frames;
    space = room;
    view = view_of first o;
    reads = complete_operand o frames room first fits;
    same = λ least le. ap (folded least frames room) (view_value first o);
  }
  complete_expression (signed op x) frames room first fits takes =
      let inner = fits.1 in
      let c = complete_expression x (opened (f.Signed op) room ∷ frames) inner false fits.3 fits.0 in
      let step : turn (Starting frames room first) (l.Sign (prefix_sign op)) ≡ t.On (Starting (opened (f.Signed op) room ∷ frames) inner false) = rw (fits.2) (turn_prefix frames inner first op) in
      record {
        behind = c.behind;
        space = c.space;
        view = c.view;
        reads = turns-more _ _ _ (l.Sign (prefix_sign op)) (expression_spelled x) step c.reads;
        same = λ least le. c.same least (omega (arith, fits.0)) ∙ twice least frames inner (expression_meant x) (f.Signed op) room (e.Unary op (expression_meant x)) refl refl;
      }
  complete_expression (binary sign op is x y) frames room first fits takes =
      let a = complete_expression x frames room first fits.2 (takes-more frames (level op) (tightness x) fits.0 takes) in
      let ended = a.same (level op) fits.0 ∙ folded-stays (level op) frames room (expression_meant x) (keeps frames (level op) (level op) takes (level_most op) (omega arith) (level_least op)) in
      let step = turn_operator a.behind a.space a.view sign op (whole frames room (expression_meant x)) is ended in
      let b = complete_expression y (opened (f.Left (expression_meant x) op) room ∷ frames) room false fits.3 fits.1 in
      record {
        behind = b.behind;
        space = b.space;
        view = b.view;
        reads = turns-then (Starting frames room first) (Viewing a.behind a.space a.view) (Viewing b.behind b.space b.view) (expression_spelled x) (l.Sign sign ∷ expression_spelled y) a.reads
            (turns-more (Viewing a.behind a.space a.view) (Starting (opened (f.Left (expression_meant x) op) room ∷ frames) room false) (Viewing b.behind b.space b.view) (l.Sign sign) (expression_spelled y) step b.reads);
        same = λ least le. b.same least (le_below least (level op) (tightness y) le fits.1)
            ∙ twice least frames room (expression_meant y) (f.Left (expression_meant x) op) room (linked (expression_meant x) op (expression_meant y)) (is_le least (level op) le) refl;
      }
  complete_expression (choice test x y) frames room first fits takes =
      let inner = fits.2 in
      let a = complete_expression test frames room first fits.1 (takes-more frames 0 (tightness test) (omega arith) takes) in
      let ended = a.same 1 fits.0 ∙ folded-stays 1 frames room (expression_meant test) (keeps frames 0 1 takes (omega arith) (omega arith) (omega arith)) in
      let question : turn (Viewing a.behind a.space a.view) (l.Sign g.Question) ≡ t.On (Starting (opened (f.ChooseYes (expression_meant test)) room ∷ frames) inner false) =
      turn_choice a.behind a.space a.view (whole frames room (expression_meant test)) ended ∙ choose_at frames room inner (expression_meant test) fits.3 in
      let b = complete_expression x (opened (f.ChooseYes (expression_meant test)) room ∷ frames) inner false fits.4 tt in
      let to_colon = closes (Starting (opened (f.ChooseYes (expression_meant test)) room ∷ frames) inner false) (Starting (opened (f.ChooseNo (expression_meant test) (expression_meant x)) room ∷ frames) inner false)
      (expression_spelled x) (f.ChooseYes (expression_meant test)) room frames inner (expression_meant x) (tightness x) g.Colon refl refl (colon_choice frames room inner (expression_meant test) (expression_meant x)) b in
      let d = complete_expression y (opened (f.ChooseNo (expression_meant test) (expression_meant x)) room ∷ frames) inner false fits.5 tt in
      record {
        behind = d.behind;
        space = d.space;
        view = d.view;
        reads = turns-then (Starting frames room first) (Viewing a.behind a.space a.view) (Viewing d.behind d.space d.view) (expression_spelled test) _ a.reads
            (turns-more (Viewing a.behind a.space a.view) (Starting (opened (f.ChooseYes (expression_meant test)) room ∷ frames) inner false) (Viewing d.behind d.space d.view) (l.Sign g.Question) _ question
            (regroup (Starting (opened (f.ChooseYes (expression_meant test)) room ∷ frames) inner false) (Viewing d.behind d.space d.view) (expression_spelled x) (l.Sign g.Colon) (expression_spelled y)
            (turns-then _ _ _ (expression_spelled x ++ l.Sign g.Colon ∷ []) (expression_spelled y) to_colon d.reads)));
        same = λ least le. d.same least (omega arith)
            ∙ twice least frames inner (expression_meant y) (f.ChooseNo (expression_meant test) (expression_meant x)) room (e.Choose (expression_meant test) (expression_meant x) (expression_meant y)) (is_zero least le) refl;
      }

  pub complete_operand : (o : Operand) (frames : List Open) (room : ℕ) (first : Bool) → FitsOperand room o
      → turns (Starting frames room first) (operand_spelled o) ≡ Some (Viewing frames room (view_of first o))
  complete_operand (number z d) frames room first fits = turns-one _ _ _ (turn_number frames room first z d)
  complete_operand (string text) frames room first fits = turns-one _ _ _ (turn_string frames room first text)
  complete_operand (truth b) frames room first fits = turns-one _ _ _ (turn_truth frames room first b)
  complete_operand null frames room first fits = turns-one _ _ _ (turn_null frames room first)
  complete_operand out frames room first fits = turns-one _ _ _ (turn_out frames room first)
  complete_operand (name w is) frames room first fits = turns-one _ _ _ (turn_name frames room first w is)
  complete_operand (round x) frames room first fits =
      let inner = fits.0 in
      let step : turn (Starting frames room first) (l.Sign g.RoundOpen) ≡ t.On (Starting (opened f.Round room ∷ frames) inner false) = rw (fits.1) (turn_round frames inner first) in
      let c = complete_expression x (opened f.Round room ∷ frames) inner false fits.2 tt in
      turns-more _ _ _ (l.Sign g.RoundOpen) _ step
      (closes (Starting (opened f.Round room ∷ frames) inner false) (Valued frames room (expression_meant x)) (expression_spelled x) f.Round room frames inner (expression_meant x) (tightness x) g.RoundClose refl refl (close_round frames room inner (expression_meant x)) c)
  complete_operand empty_list frames room first fits =
      let inner = fits.0 in
      let step : turn (Starting frames room first) (l.Sign g.SquareOpen) ≡ t.On (In frames inner (n.ListStart room)) = rw (fits.1) (turn_square frames inner first) in
      turns-more _ _ _ (l.Sign g.SquareOpen) _ step (turns-one _ _ _ (turn_empty_list frames inner room))
  complete_operand (list vs x) frames room first fits =
      let inner = fits.0 in
      let step : turn (Starting frames room first) (l.Sign g.SquareOpen) ≡ t.On (In frames inner (n.ListStart room)) = rw (fits.1) (turn_square frames inner first) in
      let a = complete_values vs frames inner room fits.2 in
      let c = complete_expression x (opened (f.List (values_meant vs)) room ∷ frames) inner false fits.3 tt in
      let last = closes (Starting (opened (f.List (values_meant vs)) room ∷ frames) inner false) (Valued frames room (e.List (values_meant vs ++ expression_meant x ∷ []))) (expression_spelled x) (f.List (values_meant vs)) room frames inner
      (expression_meant x) (tightness x) g.SquareClose refl refl (close_list frames room inner (values_meant vs) (expression_meant x)) c in
      turns-more _ _ _ (l.Sign g.SquareOpen) _ step
      (list_begins frames inner room _ frames room (v.Value (e.List (values_meant vs ++ expression_meant x ∷ [])))
      (turns-then _ _ _ (values_spelled vs) (expression_spelled x ++ l.Sign g.SquareClose ∷ []) a last))
  complete_operand empty_record frames room first fits =
      let inner = fits.0 in
      let step : turn (Starting frames room first) (l.Sign g.CurlyOpen) ≡ t.On (In frames inner (n.Members [] room)) = rw (fits.1) (turn_curly frames inner first) in
      turns-more _ _ _ (l.Sign g.CurlyOpen) _ step (turns-one _ _ _ (turn_empty_record frames inner room))
  complete_operand (record_of ms lexeme key is x) frames room first fits =
      let inner = fits.0 in
      let step : turn (Starting frames room first) (l.Sign g.CurlyOpen) ≡ t.On (In frames inner (n.Members [] room)) = rw (fits.1) (turn_curly frames inner first) in
      let a = complete_members ms frames inner room fits.2 in
      let c = complete_expression x (opened (f.Member (members_meant ms) key) room ∷ frames) inner false fits.3 tt in
      let last = closes (Starting (opened (f.Member (members_meant ms) key) room ∷ frames) inner false) (Valued frames room (e.Record (members_meant ms ++ (key, expression_meant x) ∷ []))) (expression_spelled x) (f.Member (members_meant ms) key) room frames inner
      (expression_meant x) (tightness x) g.CurlyClose refl refl (close_record frames room inner (members_meant ms) key (expression_meant x)) c in
      turns-more _ _ _ (l.Sign g.CurlyOpen) _ step
      (turns-then _ _ _ (members_spelled ms) _ a
      (turns-more _ _ _ lexeme _ (turn_key frames inner room (members_meant ms) lexeme key is)
      (turns-more _ _ _ (l.Sign g.Colon) _ (turn_colon frames inner room (members_meant ms) key) last)))
  complete_operand (rule w) frames room first fits =
      turns-more _ _ _ (l.Word (codes "rules")) _ (turn_rules frames room first)
      (turns-more _ _ _ (l.Sign g.Dot) _ (turn_rules_dot frames room) (turns-one _ _ _ (turn_rule frames room w)))
  complete_operand latest_rule frames room first fits =
      let call : turn (Viewing frames room v.Latest) (l.Sign g.RoundOpen) ≡ t.On (In frames room n.RuleCall) = rw (fits.1) (turn_call frames fits.0) in
      turns-more _ _ _ (l.Word (codes "rules")) _ (turn_rules frames room first)
      (turns-more _ _ _ (l.Sign g.Dot) _ (turn_rules_dot frames room)
      (turns-more _ _ _ (l.Word (codes "latest")) _ (turn_latest frames room)
      (turns-more _ _ _ (l.Sign g.RoundOpen) _ call (turns-one _ _ _ (turn_called frames room)))))
  complete_operand (rule_text w) frames room first fits =
      turns-more _ _ _ (l.Word (codes "meta")) _ (turn_meta frames room first)
      (turns-more _ _ _ (l.Sign g.Dot) _ (turn_meta_dot frames room)
      (turns-more _ _ _ (l.Word w) _ (turn_source frames room w)
      (turns-more _ _ _ (l.Sign g.Dot) _ (turn_source_dot frames room (s.Rule w)) (turns-one _ _ _ (turn_source_text frames room (s.Rule w))))))
  complete_operand latest_text frames room first fits =
      let call : turn (In frames room (n.Source (s.Rule (codes "latest")))) (l.Sign g.RoundOpen) ≡ t.On (In frames room (n.SourceCall s.Latest)) = rw (fits.1) (turn_source_latest frames fits.0) in
      turns-more _ _ _ (l.Word (codes "meta")) _ (turn_meta frames room first)
      (turns-more _ _ _ (l.Sign g.Dot) _ (turn_meta_dot frames room)
      (turns-more _ _ _ (l.Word (codes "latest")) _ (turn_source frames room (codes "latest"))
      (turns-more _ _ _ (l.Sign g.RoundOpen) _ call
      (turns-more _ _ _ (l.Sign g.RoundClose) _ (turn_source_called frames room s.Latest)
      (turns-more _ _ _ (l.Sign g.Dot) _ (turn_source_dot frames room s.Latest) (turns-one _ _ _ (turn_source_text frames room s.Latest)))))))
  complete_operand current_text frames room first fits =
      let call : turn (In frames room (n.Source (s.Rule (codes "current")))) (l.Sign g.RoundOpen) ≡ t.On (In frames room (n.SourceCall s.Current)) = rw (fits.1) (turn_source_current frames fits.0) in
      turns-more _ _ _ (l.Word (codes "meta")) _ (turn_meta frames room first)
      (turns-more _ _ _ (l.Sign g.Dot) _ (turn_meta_dot frames room)
      (turns-more _ _ _ (l.Word (codes "current")) _ (turn_source frames room (codes "current"))
      (turns-more _ _ _ (l.Sign g.RoundOpen) _ call
      (turns-more _ _ _ (l.Sign g.RoundClose) _ (turn_source_called frames room s.Current)
      (turns-more _ _ _ (l.Sign g.Dot) _ (turn_source_dot frames room s.Current) (turns-one _ _ _ (turn_source_text frames room s.Current)))))))
  complete_operand (dotted o w) frames room first fits =
      turns-then _ _ _ (operand_spelled o) _ (complete_operand o frames room first fits)
      (turns-more _ _ _ (l.Sign g.Dot) _ (turn_dot frames room (view_of first o)) (turns-one _ _ _ (turn_word frames room (view_of first o) w)))
  complete_operand (indexed o x) frames room first fits =
      let inner = fits.1 in
      let step : turn (Viewing frames room (view_of first o)) (l.Sign g.SquareOpen) ≡ t.On (Starting (opened (f.Index (view_of first o)) room ∷ frames) inner false) = rw (fits.2) (turn_index frames inner (view_of first o)) in
      let c = complete_expression x (opened (f.Index (view_of first o)) room ∷ frames) inner false fits.3 tt in
      turns-then _ _ _ (operand_spelled o) _ (complete_operand o frames room first fits.0)
      (turns-more _ _ _ (l.Sign g.SquareOpen) _ step
      (closes (Starting (opened (f.Index (view_of first o)) room ∷ frames) inner false) (Viewing frames room (extended (view_of first o) (k.Index (expression_meant x)))) (expression_spelled x) (f.Index (view_of first o)) room frames inner
      (expression_meant x) (tightness x) g.SquareClose refl refl (close_index frames room inner (view_of first o) (expression_meant x)) c))

  -- values, from the place of the first
  pub complete_values : (vs : Values) (frames : List Open) (room outside : ℕ) → FitsValues room vs
      → turns (Starting (opened (f.List []) outside ∷ frames) room false) (values_spelled vs) ≡ Some (Starting (opened (f.List (values_meant vs)) outside ∷ frames) room false)
  complete_values no_value frames room outside fits = turns-none _
  complete_values (value vs x) frames room outside fits =
      let c = complete_expression x (opened (f.List (values_meant vs)) outside ∷ frames) room false fits.1 tt in
      turns-then _ _ _ (values_spelled vs) _ (complete_values vs frames room outside fits.0)
      (closes (Starting (opened (f.List (values_meant vs)) outside ∷ frames) room false) (Starting (opened (f.List (values_meant vs ++ expression_meant x ∷ [])) outside ∷ frames) room false) (expression_spelled x) (f.List (values_meant vs)) outside frames room
      (expression_meant x) (tightness x) g.Comma refl refl (comma_list frames outside room (values_meant vs) (expression_meant x)) c)

  pub complete_members : (ms : Members) (frames : List Open) (room outside : ℕ) → FitsMembers room ms
      → turns (In frames room (n.Members [] outside)) (members_spelled ms) ≡ Some (In frames room (n.Members (members_meant ms) outside))
  complete_members no_member frames room outside fits = turns-none _
  complete_members (member ms lexeme key is x) frames room outside fits =
      let c = complete_expression x (opened (f.Member (members_meant ms) key) outside ∷ frames) room false fits.1 tt in
      turns-then _ _ _ (members_spelled ms) _ (complete_members ms frames room outside fits.0)
      (turns-more _ _ _ lexeme _ (turn_key frames room outside (members_meant ms) lexeme key is)
      (turns-more _ _ _ (l.Sign g.Colon) _ (turn_colon frames room outside (members_meant ms) key)
      (closes (Starting (opened (f.Member (members_meant ms) key) outside ∷ frames) room false) (In frames room (n.Members (members_meant ms ++ (key, expression_meant x) ∷ []) outside)) (expression_spelled x) (f.Member (members_meant ms) key) outside frames room
      (expression_meant x) (tightness x) g.Comma refl refl (comma_record frames outside room (members_meant ms) key (expression_meant x)) c)))
