-- What single lexemes do within an expression.
use Rattle.std.proofs.Common.{◌≡◌, ℕ, suc, ℤ, Bool, true, false, List, [], ◌∷◌, ◌++◌, Option, Some, None, refl, ap, ◌∙◌, codes}
use Rattle.vg_base.specs.declared.script.Expr.{Expr}
use Rattle.vg_base.specs.declared.script.Expr.TheVariants as e
use Rattle.vg_base.specs.declared.script.Key.TheVariants as k
use Rattle.vg_base.specs.declared.script.Root.TheVariants as root
use Rattle.vg_base.specs.declared.script.BinOp.{BinOp}
use Rattle.vg_base.specs.declared.script.UnOp.{UnOp}
use Rattle.vg_base.specs.declared.script.UnOp.TheVariants as u
use Rattle.script_reader.specs.declared.lexing.lexeme.Sign.{Sign}
use Rattle.script_reader.specs.declared.lexing.lexeme.Sign.TheVariants as g
use Rattle.script_reader.specs.declared.lexing.lexeme.Lexeme.{Lexeme}
use Rattle.script_reader.specs.declared.lexing.lexeme.Lexeme.TheVariants as l
use Rattle.script_reader.specs.declared.lexing.roles.Role.{Role}
use Rattle.script_reader.specs.declared.lexing.roles.Role.TheVariants as r
use Rattle.script_reader.specs.declared.machine.stack.View.{View}
use Rattle.script_reader.specs.declared.machine.stack.View.TheVariants as v
use Rattle.script_reader.specs.declared.machine.stack.Source.{Source}
use Rattle.script_reader.specs.declared.machine.stack.Source.TheVariants as s
use Rattle.script_reader.specs.declared.machine.stack.Now.TheVariants as n
use Rattle.script_reader.specs.declared.machine.stack.Frame.TheVariants as f
use Rattle.script_reader.specs.declared.machine.stack.Open.{Open}
use Rattle.script_reader.specs.declared.machine.stack.Inside.{Inside}
use Rattle.script_reader.specs.declared.machine.stack.Whole.{Whole}
use Rattle.script_reader.specs.declared.machine.stack.Turn.{Turn}
use Rattle.script_reader.specs.declared.machine.stack.Turn.TheVariants as t
use Rattle.script_reader.specs.Signs.{operator_of, level}
use Rattle.script_reader.specs.Roles.{role_of, is_name, IsName}
use Rattle.script_reader.specs.code.Expressions.{opened, value_of, extended, rule_view, text_of, folded, start_word, start_sign, on_start, close_frame, closed, closed_whole, left, choose, operated, chosen, ending, view_sign, on_view, on_list, on_members, on_keyed, on_dot, past_dot, past_close, on_rule, on_meta, on_source, on_text, turn}
use Rattle.script_reader.specs.Grammar.{prefix_sign, truth_word, key_of}
use Rattle.script_reader.proofs.Turns.{In}
use Rattle.script_reader.proofs.Folding.{whole}

-- the state with an operand in view
abbrev pub Viewing : List Open → ℕ → View → Inside
Viewing frames room view = In frames room (n.View view)

abbrev pub Starting : List Open → ℕ → Bool → Inside
Starting frames room first = In frames room (n.Start first)

abbrev pub Valued : List Open → ℕ → Expr → Inside
Valued frames room x = Viewing frames room (v.Value x)

-- ---- before an operand

pub turn_number : (frames : List Open) (room : ℕ) (first : Bool) (z : ℤ) (d : List ℕ) → turn (Starting frames room first) (l.Number z d) ≡ t.On (Valued frames room (e.Number z))
unfolding turn on_start
turn_number frames room first z d = refl

pub turn_string : (frames : List Open) (room : ℕ) (first : Bool) (text : List ℕ) → turn (Starting frames room first) (l.Str text) ≡ t.On (Valued frames room (e.Str text))
unfolding turn on_start
turn_string frames room first text = refl

pub turn_truth : (frames : List Open) (room : ℕ) (first b : Bool) → turn (Starting frames room first) (truth_word b) ≡ t.On (Valued frames room (e.Truth b))
unfolding turn on_start start_word role_of
turn_truth frames room true true = refl
turn_truth frames room true false = refl
turn_truth frames room false true = refl
turn_truth frames room false false = refl

pub turn_null : (frames : List Open) (room : ℕ) (first : Bool) → turn (Starting frames room first) (l.Word (codes "null")) ≡ t.On (Valued frames room e.Null)
unfolding turn on_start start_word role_of
turn_null frames room true = refl
turn_null frames room false = refl

abbrev pub out_view : Bool → View
out_view true = v.Target root.Out []
out_view false = v.Value e.Out

pub turn_out : (frames : List Open) (room : ℕ) (first : Bool) → turn (Starting frames room first) (l.Word (codes "out")) ≡ t.On (Viewing frames room (out_view first))
unfolding turn on_start start_word role_of
turn_out frames room true = refl
turn_out frames room false = refl

abbrev pub name_view : Bool → List ℕ → View
name_view true w = v.Target (root.Name w) []
name_view false w = v.Value (e.Name w)

name_word : (frames : List Open) (room : ℕ) (first : Bool) (w : List ℕ) (role : Role) → is_name role ≡ true → start_word frames room first w role ≡ t.On (Viewing frames room (name_view first w))
unfolding start_word
name_word frames room true w r.Name h = refl
name_word frames room true w r.Latest h = refl
name_word frames room true w r.Current h = refl
name_word frames room true w r.Text h = refl
name_word frames room false w r.Name h = refl
name_word frames room false w r.Latest h = refl
name_word frames room false w r.Current h = refl
name_word frames room false w r.Text h = refl
name_word frames room first w _ h = absurd cc

pub turn_name : (frames : List Open) (room : ℕ) (first : Bool) (w : List ℕ) → IsName w → turn (Starting frames room first) (l.Word w) ≡ t.On (Viewing frames room (name_view first w))
unfolding turn on_start
turn_name frames room first w h = name_word frames room first w (role_of w) h

pub turn_rules : (frames : List Open) (room : ℕ) (first : Bool) → turn (Starting frames room first) (l.Word (codes "rules")) ≡ t.On (In frames room n.Rules)
unfolding turn on_start start_word role_of
turn_rules frames room true = refl
turn_rules frames room false = refl

pub turn_meta : (frames : List Open) (room : ℕ) (first : Bool) → turn (Starting frames room first) (l.Word (codes "meta")) ≡ t.On (In frames room n.Meta)
unfolding turn on_start start_word role_of
turn_meta frames room true = refl
turn_meta frames room false = refl

pub turn_round : (frames : List Open) (room : ℕ) (first : Bool) → turn (Starting frames (suc room) first) (l.Sign g.RoundOpen) ≡ t.On (Starting (opened f.Round (suc room) ∷ frames) room false)
unfolding turn on_start start_sign
turn_round frames room first = refl

pub turn_square : (frames : List Open) (room : ℕ) (first : Bool) → turn (Starting frames (suc room) first) (l.Sign g.SquareOpen) ≡ t.On (In frames room (n.ListStart (suc room)))
unfolding turn on_start start_sign
turn_square frames room first = refl

pub turn_curly : (frames : List Open) (room : ℕ) (first : Bool) → turn (Starting frames (suc room) first) (l.Sign g.CurlyOpen) ≡ t.On (In frames room (n.Members [] (suc room)))
unfolding turn on_start start_sign
turn_curly frames room first = refl

pub turn_prefix : (frames : List Open) (room : ℕ) (first : Bool) (op : UnOp) → turn (Starting frames (suc room) first) (l.Sign (prefix_sign op)) ≡ t.On (Starting (opened (f.Signed op) (suc room) ∷ frames) room false)
unfolding turn on_start start_sign
turn_prefix frames room first u.Neg = refl
turn_prefix frames room first u.Plus = refl
turn_prefix frames room first u.Not = refl

-- ---- after an operand

pub turn_dot : (frames : List Open) (room : ℕ) (view : View) → turn (Viewing frames room view) (l.Sign g.Dot) ≡ t.On (In frames room (n.Dot view))
unfolding turn on_view view_sign
turn_dot frames room view = refl

pub turn_word : (frames : List Open) (room : ℕ) (view : View) (w : List ℕ) → turn (In frames room (n.Dot view)) (l.Word w) ≡ t.On (Viewing frames room (extended view (k.Word w)))
unfolding turn on_dot
turn_word frames room view w = refl

pub turn_index : (frames : List Open) (room : ℕ) (view : View) → turn (Viewing frames (suc room) view) (l.Sign g.SquareOpen) ≡ t.On (Starting (opened (f.Index view) (suc room) ∷ frames) room false)
unfolding turn on_view view_sign
turn_index frames room view = refl

some_is : {A : Type 0} (x y : A) → Some x ≡ Some y → x ≡ y
some_is x y h = cc

-- a sign that is an operator
operator_sign : (frames : List Open) (room : ℕ) (view : View) (sign : Sign) (op : BinOp) → operator_of sign ≡ Some op
    → view_sign frames room view sign ≡ elim (operator_of sign) [ Some op ↦ operated frames room view op | None ↦ t.Unfit ]
unfolding view_sign
operator_sign frames room view g.Question op h = absurd cc
operator_sign frames room view g.Dot op h = absurd cc
operator_sign frames room view g.SquareOpen op h = absurd cc
operator_sign frames room view g.RoundOpen op h = absurd cc
operator_sign frames room view g.RoundClose op h = absurd cc
operator_sign frames room view g.SquareClose op h = absurd cc
operator_sign frames room view g.CurlyClose op h = absurd cc
operator_sign frames room view g.Comma op h = absurd cc
operator_sign frames room view g.Colon op h = absurd cc
operator_sign frames room view g.Semicolon op h = absurd cc
operator_sign frames room view _ op h = refl

abbrev operated_if : List Open → ℕ → View → Option BinOp → Turn
operated_if frames room view o = elim o [ Some op ↦ operated frames room view op | None ↦ t.Unfit ]

pub turn_operator : (frames : List Open) (room : ℕ) (view : View) (sign : Sign) (op : BinOp) (w : Whole) → operator_of sign ≡ Some op
    → folded (level op) frames room (value_of view) ≡ w → turn (Viewing frames room view) (l.Sign sign) ≡ left w op
unfolding turn on_view operated
turn_operator frames room view sign op w h k =
    operator_sign frames room view sign op h ∙ ap (operated_if frames room view) h ∙ ap (λ (x : Whole). left x op) k

pub turn_choice : (frames : List Open) (room : ℕ) (view : View) (w : Whole) → folded 1 frames room (value_of view) ≡ w
    → turn (Viewing frames room view) (l.Sign g.Question) ≡ choose w
unfolding turn on_view view_sign chosen
turn_choice frames room view w k = ap choose k

abbrev pub ends_value : Sign → Bool
ends_value g.RoundClose = true
ends_value g.SquareClose = true
ends_value g.CurlyClose = true
ends_value g.Comma = true
ends_value g.Colon = true
ends_value g.Semicolon = true
ends_value _ = false

ending_sign : (frames : List Open) (room : ℕ) (view : View) (sign : Sign) → ends_value sign ≡ true → view_sign frames room view sign ≡ ending frames room view sign
unfolding view_sign
ending_sign frames room view g.RoundClose h = refl
ending_sign frames room view g.SquareClose h = refl
ending_sign frames room view g.CurlyClose h = refl
ending_sign frames room view g.Comma h = refl
ending_sign frames room view g.Colon h = refl
ending_sign frames room view g.Semicolon h = refl
ending_sign frames room view _ h = absurd cc

-- a sign that ends what waits
pub turn_ending : (frames : List Open) (room : ℕ) (view : View) (sign : Sign) (w : Whole) → ends_value sign ≡ true
    → folded 0 frames room (value_of view) ≡ w → turn (Viewing frames room view) (l.Sign sign) ≡ closed_whole w sign
unfolding turn on_view ending
turn_ending frames room view sign w h k = ending_sign frames room view sign h ∙ ap (λ (x : Whole). closed_whole x sign) k

pub close_round : (frames : List Open) (outside room : ℕ) (x : Expr) → closed_whole (whole (opened f.Round outside ∷ frames) room x) g.RoundClose ≡ t.On (Valued frames outside x)
unfolding closed close_frame
close_round frames outside room x = refl

pub close_index : (frames : List Open) (outside room : ℕ) (view : View) (x : Expr)
    → closed_whole (whole (opened (f.Index view) outside ∷ frames) room x) g.SquareClose ≡ t.On (Viewing frames outside (extended view (k.Index x)))
unfolding closed close_frame
close_index frames outside room view x = refl

pub close_list : (frames : List Open) (outside room : ℕ) (done : List Expr) (x : Expr)
    → closed_whole (whole (opened (f.List done) outside ∷ frames) room x) g.SquareClose ≡ t.On (Valued frames outside (e.List (done ++ x ∷ [])))
unfolding closed close_frame
close_list frames outside room done x = refl

pub comma_list : (frames : List Open) (outside room : ℕ) (done : List Expr) (x : Expr)
    → closed_whole (whole (opened (f.List done) outside ∷ frames) room x) g.Comma ≡ t.On (Starting (opened (f.List (done ++ x ∷ [])) outside ∷ frames) room false)
unfolding closed close_frame
comma_list frames outside room done x = refl

pub close_record : (frames : List Open) (outside room : ℕ) (done : List (List ℕ × Expr)) (key : List ℕ) (x : Expr)
    → closed_whole (whole (opened (f.Member done key) outside ∷ frames) room x) g.CurlyClose ≡ t.On (Valued frames outside (e.Record (done ++ (key, x) ∷ [])))
unfolding closed close_frame
close_record frames outside room done key x = refl

pub comma_record : (frames : List Open) (outside room : ℕ) (done : List (List ℕ × Expr)) (key : List ℕ) (x : Expr)
    → closed_whole (whole (opened (f.Member done key) outside ∷ frames) room x) g.Comma ≡ t.On (In frames room (n.Members (done ++ (key, x) ∷ []) outside))
unfolding closed close_frame
comma_record frames outside room done key x = refl

pub colon_choice : (frames : List Open) (outside room : ℕ) (test x : Expr)
    → closed_whole (whole (opened (f.ChooseYes test) outside ∷ frames) room x) g.Colon ≡ t.On (Starting (opened (f.ChooseNo test x) outside ∷ frames) room false)
unfolding closed close_frame
colon_choice frames outside room test x = refl

-- ---- within lists, records, `rules` and `meta`

pub turn_empty_list : (frames : List Open) (room outside : ℕ) → turn (In frames room (n.ListStart outside)) (l.Sign g.SquareClose) ≡ t.On (Valued frames outside (e.List []))
unfolding turn on_list
turn_empty_list frames room outside = refl

pub turn_empty_record : (frames : List Open) (room outside : ℕ) → turn (In frames room (n.Members [] outside)) (l.Sign g.CurlyClose) ≡ t.On (Valued frames outside (e.Record []))
unfolding turn on_members
turn_empty_record frames room outside = refl

pub turn_key : (frames : List Open) (room outside : ℕ) (done : List (List ℕ × Expr)) (x : Lexeme) (key : List ℕ) → key_of x ≡ Some key
    → turn (In frames room (n.Members done outside)) x ≡ t.On (In frames room (n.Keyed done key outside))
unfolding turn on_members
turn_key frames room outside done (l.Word w) key h = ap (λ (y : List ℕ). t.On (In frames room (n.Keyed done y outside))) (some_is w key h)
turn_key frames room outside done (l.Str w) key h = ap (λ (y : List ℕ). t.On (In frames room (n.Keyed done y outside))) (some_is w key h)
turn_key frames room outside done (l.Number z w) key h = ap (λ (y : List ℕ). t.On (In frames room (n.Keyed done y outside))) (some_is w key h)
turn_key frames room outside done (l.Sign sign) key h = absurd cc
turn_key frames room outside done l.Bad key h = absurd cc

pub turn_colon : (frames : List Open) (room outside : ℕ) (done : List (List ℕ × Expr)) (key : List ℕ)
    → turn (In frames room (n.Keyed done key outside)) (l.Sign g.Colon) ≡ t.On (Starting (opened (f.Member done key) outside ∷ frames) room false)
unfolding turn on_keyed
turn_colon frames room outside done key = refl

pub turn_rules_dot : (frames : List Open) (room : ℕ) → turn (In frames room n.Rules) (l.Sign g.Dot) ≡ t.On (In frames room n.RulesDot)
unfolding turn past_dot
turn_rules_dot frames room = refl

pub turn_rule : (frames : List Open) (room : ℕ) (w : List ℕ) → turn (In frames room n.RulesDot) (l.Word w) ≡ t.On (Viewing frames room (rule_view w (role_of w)))
unfolding turn on_rule
turn_rule frames room w = refl

pub turn_latest : (frames : List Open) (room : ℕ) → turn (In frames room n.RulesDot) (l.Word (codes "latest")) ≡ t.On (Viewing frames room v.Latest)
unfolding turn on_rule role_of
turn_latest frames room = refl

pub turn_call : (frames : List Open) (room : ℕ) → turn (Viewing frames (suc room) v.Latest) (l.Sign g.RoundOpen) ≡ t.On (In frames (suc room) n.RuleCall)
unfolding turn on_view view_sign
turn_call frames room = refl

pub turn_called : (frames : List Open) (room : ℕ) → turn (In frames room n.RuleCall) (l.Sign g.RoundClose) ≡ t.On (Valued frames room e.LatestRule)
unfolding turn past_close
turn_called frames room = refl

pub turn_meta_dot : (frames : List Open) (room : ℕ) → turn (In frames room n.Meta) (l.Sign g.Dot) ≡ t.On (In frames room n.MetaDot)
unfolding turn past_dot
turn_meta_dot frames room = refl

pub turn_source : (frames : List Open) (room : ℕ) (w : List ℕ) → turn (In frames room n.MetaDot) (l.Word w) ≡ t.On (In frames room (n.Source (s.Rule w)))
unfolding turn on_meta
turn_source frames room w = refl

pub turn_source_latest : (frames : List Open) (room : ℕ) → turn (In frames (suc room) (n.Source (s.Rule (codes "latest")))) (l.Sign g.RoundOpen) ≡ t.On (In frames (suc room) (n.SourceCall s.Latest))
unfolding turn on_source role_of
turn_source_latest frames room = refl

pub turn_source_current : (frames : List Open) (room : ℕ) → turn (In frames (suc room) (n.Source (s.Rule (codes "current")))) (l.Sign g.RoundOpen) ≡ t.On (In frames (suc room) (n.SourceCall s.Current))
unfolding turn on_source role_of
turn_source_current frames room = refl

pub turn_source_called : (frames : List Open) (room : ℕ) (source : Source) → turn (In frames room (n.SourceCall source)) (l.Sign g.RoundClose) ≡ t.On (In frames room (n.Source source))
unfolding turn past_close
turn_source_called frames room source = refl

pub turn_source_dot : (frames : List Open) (room : ℕ) (source : Source) → turn (In frames room (n.Source source)) (l.Sign g.Dot) ≡ t.On (In frames room (n.SourceDot source))
unfolding turn on_source
turn_source_dot frames room source = refl

pub turn_source_text : (frames : List Open) (room : ℕ) (source : Source) → turn (In frames room (n.SourceDot source)) (l.Word (codes "text")) ≡ t.On (Valued frames room (text_of source))
unfolding turn on_text role_of
turn_source_text frames room source = refl
