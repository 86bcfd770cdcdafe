-- What was read behind an operand is a left part of trees of the grammar.
use Rattle.std.proofs.Common.{◌≡◌, ℕ, zero, suc, ◌≤◌, ◌<◌, Bool, true, false, cond, List, [], ◌∷◌, ◌++◌, Option, Some, None, refl, sym, ap, subst, ◌∙◌, append_assoc, arith}
use Rattle.std.specs.Prelude.{nat_le, ◌==◌}
use Rattle.std.proofs.lemmas.Bool.Decides.{nat_tests}
use Rattle.vg_base.specs.declared.script.Expr.{Expr}
use Rattle.vg_base.specs.declared.script.Expr.TheVariants as e
use Rattle.vg_base.specs.declared.script.Key.{Key}
use Rattle.vg_base.specs.declared.script.Key.TheVariants as k
use Rattle.vg_base.specs.declared.script.BinOp.{BinOp}
use Rattle.script_reader.specs.declared.lexing.lexeme.Sign.{Sign}
use Rattle.script_reader.specs.declared.lexing.lexeme.Sign.TheVariants as g
use Rattle.script_reader.specs.declared.lexing.lexeme.Lexeme.{Lexeme}
use Rattle.script_reader.specs.declared.lexing.lexeme.Lexeme.TheVariants as l
use Rattle.script_reader.specs.declared.lexing.roles.Role.{Role}
use Rattle.script_reader.specs.declared.lexing.roles.Role.TheVariants as r
use Rattle.script_reader.specs.declared.machine.stack.View.{View}
use Rattle.script_reader.specs.declared.machine.stack.View.TheVariants as v
use Rattle.script_reader.specs.declared.machine.stack.Now.{Now}
use Rattle.script_reader.specs.declared.machine.stack.Now.TheVariants as n
use Rattle.script_reader.specs.declared.machine.stack.Frame.{Frame}
use Rattle.script_reader.specs.declared.machine.stack.Frame.TheVariants as f
use Rattle.script_reader.specs.declared.machine.stack.Open.{Open}
use Rattle.script_reader.specs.declared.machine.stack.Whole.{Whole}
use Rattle.script_reader.specs.declared.machine.stack.Turn.TheVariants as t
use Rattle.script_reader.specs.Signs.{operator_of, level}
use Rattle.script_reader.specs.Chains.{linked, part}
use Rattle.script_reader.specs.Roles.{role_of}
use Rattle.script_reader.specs.code.Expressions.{opened, deeper, value_of, extended, folds, made, top_folds, folded, close_frame, closed, left, operated, chosen, ending, called, view_sign, alone, ended, if_ended, before_else, on_view}
use Rattle.script_reader.specs.Grammar.{Expression, Operand, operand, signed, binary, choice, round, list, record_of, dotted, indexed, value, member, expression_spelled, operand_spelled, values_spelled, members_spelled, expression_meant, operand_meant, values_meant, members_meant, tightness, FitsExpression, Target, stepped, target_of}
use Rattle.script_reader.proofs.Turns.{In}
use Rattle.script_reader.proofs.Folding.{TakesIn, Takes, whole}
use Rattle.script_reader.proofs.Complete.{value_extended, level_most, level_least}
use Rattle.script_reader.proofs.SoundOpen.{ShowsAs, Shows, OpenReads, Inner, Ends, TurnReads, longer, viewed, valued, at_now, framed}

-- ---- what is ended

takes_seven_in : (frame : Frame) → TakesIn frame 7
takes_seven_in (f.Signed op) = omega arith
takes_seven_in (f.Left left op) = le_lt (level op) (level_most op)
  where
    le_lt : (a : ℕ) → a ≤ 6 → a < 7
    le_lt a h = omega arith
takes_seven_in f.Round = tt
takes_seven_in (f.Index view) = tt
takes_seven_in (f.List done) = tt
takes_seven_in (f.Member done key) = tt
takes_seven_in (f.ChooseYes test) = tt
takes_seven_in (f.ChooseNo test positive) = tt

pub takes_seven : (frames : List Open) → Takes frames 7
takes_seven [] = tt
takes_seven (o ∷ frames) = takes_seven_in o.frame

above : (a b : ℕ) → nat_le a b ≡ false → b < a
above a b h = grind (arith, nat_tests)

below : (a b : ℕ) → nat_le a b ≡ true → a ≤ b
below a b h = grind (arith, nat_tests)

is_none : (a : ℕ) → (a == 0) ≡ true → a ≤ 0
is_none a h = grind (arith, nat_tests)

stops_in : (frame : Frame) (least : ℕ) → folds least frame ≡ false → TakesIn frame least
stops_in (f.Signed op) least h = absurd cc
stops_in (f.Left left op) least h = above least (level op) h
stops_in f.Round least h = tt
stops_in (f.Index view) least h = tt
stops_in (f.List done) least h = tt
stops_in (f.Member done key) least h = tt
stops_in (f.ChooseYes test) least h = tt
stops_in (f.ChooseNo test positive) least h = tt

stops : (frames : List Open) (least : ℕ) → top_folds least frames ≡ false → Takes frames least
stops [] least h = tt
stops (o ∷ frames) least h = stops_in o.frame least h

choice_stops_in : (frame : Frame) → folds 1 frame ≡ false → TakesIn frame 0
choice_stops_in (f.Signed op) h = absurd cc
choice_stops_in (f.Left left op) h = absurd (no_level (level op) (above 1 (level op) h) (level_least op))
  where
    no_level : (a : ℕ) → a < 1 → 1 ≤ a → ⊥
    no_level a p q = omega arith
choice_stops_in f.Round h = tt
choice_stops_in (f.Index view) h = tt
choice_stops_in (f.List done) h = tt
choice_stops_in (f.Member done key) h = tt
choice_stops_in (f.ChooseYes test) h = tt
choice_stops_in (f.ChooseNo test positive) h = tt

choice_stops : (frames : List Open) → top_folds 1 frames ≡ false → Takes frames 0
choice_stops [] h = tt
choice_stops (o ∷ frames) h = choice_stops_in o.frame h

pub record Folded (base least : ℕ) (frames : List Open) (room : ℕ) (y : Expr) (text : List Lexeme) : Type 0 where
  pub tree : Expression
  pub before : List Lexeme
  pub text_is : text ≡ before ++ expression_spelled tree
  pub outer : OpenReads base frames room before
  pub fits : FitsExpression room tree
  pub meant : y ≡ expression_meant tree
  pub takes : Takes frames (tightness tree)
  pub least_is : least ≤ tightness tree

abbrev pub FoldedTo : ℕ → ℕ → Whole → List Lexeme → Type 0
FoldedTo base least w text = Folded base least w.frames w.room w.value text × (top_folds least w.frames ≡ false)

by_test : {A : Type 0} (b : Bool) (P : A → Type 0) (x y : A) → (b ≡ true → P x) → (b ≡ false → P y) → P (cond b x y)
by_test true P x y f g = f refl
by_test false P x y f g = g refl

tight_most : (x : Expression) → tightness x ≤ 7
tight_most (operand o) = omega arith
tight_most (signed op x) = omega arith
tight_most (binary sign op is x y) = more_le (level op) (level_most op)
  where
    more_le : (a : ℕ) → a ≤ 6 → a ≤ 7
    more_le a h = omega arith
tight_most (choice test x y) = omega arith

le_trans : (a b c : ℕ) → a ≤ b → b ≤ c → a ≤ c
le_trans a b c h j = omega arith

-- a frame that folds makes a greater tree
folds_one : (base least : ℕ) (frame : Frame) (outside : ℕ) (frames : List Open) (room : ℕ) (y : Expr) (text : List Lexeme) → folds least frame ≡ true
    → Folded base least (opened frame outside ∷ frames) room y text → Folded base least frames outside (made frame y) text
unfolding expression_spelled expression_meant FitsExpression
folds_one base least (f.Signed op) outside frames room y text h q =
    let o = q.outer in
    record {
      tree = signed op q.tree;
      before = o.0;
      text_is = q.text_is ∙ longer q.before o.0 o.1 (expression_spelled q.tree) o.2 ∙ ap (λ (ys : List Lexeme). o.0 ++ (ys ++ expression_spelled q.tree)) o.4.1;
      outer = o.3;
      fits = (q.takes, room, o.4.0, q.fits);
      meant = ap (e.Unary op) q.meant;
      takes = takes_seven frames;
      least_is = le_trans least (tightness q.tree) 7 q.least_is (tight_most q.tree);
    }
folds_one base least (f.Left left op) outside frames room y text h q =
    let o = q.outer in
    let d = o.4 in
    record {
      tree = binary d.2 op d.4 d.1 q.tree;
      before = o.0;
      text_is = q.text_is ∙ longer q.before o.0 o.1 (expression_spelled q.tree) o.2 ∙ ap (λ (ys : List Lexeme). o.0 ++ (ys ++ expression_spelled q.tree)) d.3 ∙ ap (λ (ys : List Lexeme). o.0 ++ ys) (append_assoc (expression_spelled d.1) (l.Sign d.2 ∷ []) (expression_spelled q.tree));
      outer = o.3;
      fits = (d.6, q.takes, subst (λ m. FitsExpression m d.1) (sym d.0) d.5, subst (λ m. FitsExpression m q.tree) (sym d.0) q.fits);
      meant = ap (λ (z : Expr). linked z op y) d.7 ∙ ap (linked (expression_meant d.1) op) q.meant;
      takes = d.8;
      least_is = below least (level op) h;
    }
folds_one base least (f.ChooseNo test positive) outside frames room y text h q =
    let o = q.outer in
    let d = o.4 in
    record {
      tree = choice d.1 d.2 q.tree;
      before = o.0;
      text_is = q.text_is ∙ longer q.before o.0 o.1 (expression_spelled q.tree) o.2 ∙ ap (λ (ys : List Lexeme). o.0 ++ (ys ++ expression_spelled q.tree)) d.3
          ∙ ap (λ (ys : List Lexeme). o.0 ++ ys) (choice_text (expression_spelled d.1) (expression_spelled d.2) (expression_spelled q.tree));
      outer = o.3;
      fits = (d.5, d.4, room, d.0, d.7, q.fits);
      meant = ap (λ (z : Expr). e.Choose z positive y) d.6 ∙ ap (λ (z : Expr). e.Choose (expression_meant d.1) z y) d.8 ∙ ap (e.Choose (expression_meant d.1) (expression_meant d.2)) q.meant;
      takes = d.9;
      least_is = is_none least h;
    }
  where
    choice_text : (a b c : List Lexeme) → (a ++ (l.Sign g.Question ∷ (b ++ l.Sign g.Colon ∷ []))) ++ c ≡ a ++ (l.Sign g.Question ∷ (b ++ (l.Sign g.Colon ∷ c)))
    choice_text a b c = append_assoc a (l.Sign g.Question ∷ (b ++ l.Sign g.Colon ∷ [])) c ∙ ap (λ (ys : List Lexeme). a ++ (l.Sign g.Question ∷ ys)) (append_assoc b (l.Sign g.Colon ∷ []) c)
folds_one base least f.Round outside frames room y text h q = absurd cc
folds_one base least (f.Index view) outside frames room y text h q = absurd cc
folds_one base least (f.List done) outside frames room y text h q = absurd cc
folds_one base least (f.Member done key) outside frames room y text h q = absurd cc
folds_one base least (f.ChooseYes test) outside frames room y text h q = absurd cc

pub fold_reads : (base least : ℕ) (frames : List Open) (room : ℕ) (y : Expr) (text : List Lexeme) → Folded base least frames room y text → FoldedTo base least (folded least frames room y) text
unfolding folded
fold_reads base least [] room y text q = (q, refl)
fold_reads base least (o ∷ frames) room y text q =
    by_test (folds least o.frame) (λ (w : Whole). FoldedTo base least w text) (folded least frames o.room (made o.frame y)) (whole (o ∷ frames) room y)
    (λ h. fold_reads base least frames o.room (made o.frame y) text (folds_one base least o.frame o.room frames room y text h q))
    (λ h. (q, h))

-- the operand in view
view_reads : (base least : ℕ) (frames : List Open) (room : ℕ) (view : View) (text : List Lexeme) → least ≤ 7 → Inner base frames room (n.View view) text
    → FoldedTo base least (folded least frames room (value_of view)) text
unfolding expression_spelled expression_meant FitsExpression
view_reads base least frames room view text le q =
    let d = q.here in
    fold_reads base least frames room (value_of view) text (record {
      tree = operand d.0;
      before = q.before;
      text_is = q.text_is ∙ ap (λ (ys : List Lexeme). q.before ++ ys) d.1;
      outer = q.outer;
      fits = d.2;
      meant = d.3.meant;
      takes = takes_seven frames;
      least_is = le;
    })

-- ---- a sign that ends what waits

as_extended : (view : View) (o : Operand) (key : Key) (target : Operand) → (target_of target ≡ stepped (target_of o) key) → ShowsAs view o → ShowsAs (extended view key) target
as_extended (v.Value x) o key target h q = tt
as_extended (v.Target root path) o key target h q = h ∙ ap (λ (t : Option Target). stepped t key) q
as_extended v.Latest o key target h q = tt

pub shows_dotted : (view : View) (o : Operand) (w : List ℕ) → Shows view o → Shows (extended view (k.Word w)) (dotted o w)
unfolding operand_meant
shows_dotted view o w q = record {
  meant = value_extended view (k.Word w) ∙ ap (λ (x : Expr). part x (k.Word w)) q.meant;
  as_is = as_extended view o (k.Word w) (dotted o w) refl q.as_is;
}

shows_indexed : (view : View) (o : Operand) (x : Expression) (y : Expr) → y ≡ expression_meant x → Shows view o → Shows (extended view (k.Index y)) (indexed o x)
unfolding operand_meant
shows_indexed view o x y h q = record {
  meant = value_extended view (k.Index y) ∙ ap (λ (z : Expr). part z (k.Index y)) q.meant ∙ ap (λ (z : Expr). part (operand_meant o) (k.Index z)) h;
  as_is = as_extended view o (k.Index y) (indexed o x) (ap (λ (z : Expr). stepped (target_of o) (k.Index z)) (sym h)) q.as_is;
}

-- text, what was before it, and one more lexeme
three : (text before a b sp : List Lexeme) (x : Lexeme) → text ≡ before ++ sp → before ≡ a ++ b → text ++ x ∷ [] ≡ a ++ (b ++ (sp ++ x ∷ []))
three text before a b sp x h j = longer text before sp (x ∷ []) h ∙ longer before a b (sp ++ x ∷ []) j

three_parts : (part front sp : List Lexeme) (x : Lexeme) (whole_part : List Lexeme) → part ≡ front → front ++ (sp ++ x ∷ []) ≡ whole_part → part ++ (sp ++ x ∷ []) ≡ whole_part
three_parts part front sp x whole_part h j = ap (λ (ys : List Lexeme). ys ++ (sp ++ x ∷ [])) h ∙ j

frame_reads : (base : ℕ) (frame : Frame) (sign : Sign) (outside : ℕ) (frames : List Open) (room : ℕ) (y : Expr) (text : List Lexeme) → Folded base 0 (opened frame outside ∷ frames) room y text
    → TurnReads base (close_frame frame sign frames outside room y) text (l.Sign sign)
unfolding close_frame expression_spelled expression_meant FitsExpression
frame_reads base f.Round g.RoundClose outside frames room y text q =
    let d = q.outer in
    let sp = expression_spelled q.tree in
    valued base frames outside y d.0 (d.1 ++ (sp ++ l.Sign g.RoundClose ∷ [])) _ (round q.tree) (three text q.before d.0 d.1 sp (l.Sign g.RoundClose) q.text_is d.2) d.3
    (three_parts d.1 (l.Sign g.RoundOpen ∷ []) sp (l.Sign g.RoundClose) _ d.4.1 refl) (room, d.4.0, q.fits) q.meant
frame_reads base (f.Index view) g.SquareClose outside frames room y text q =
    let d = q.outer in
    let o = d.4 in
    let sp = expression_spelled q.tree in
    viewed base frames outside (extended view (k.Index y)) d.0 (d.1 ++ (sp ++ l.Sign g.SquareClose ∷ [])) _ (indexed o.1 q.tree) (three text q.before d.0 d.1 sp (l.Sign g.SquareClose) q.text_is d.2) d.3
    (three_parts d.1 (operand_spelled o.1 ++ l.Sign g.SquareOpen ∷ []) sp (l.Sign g.SquareClose) _ o.2 (append_assoc (operand_spelled o.1) (l.Sign g.SquareOpen ∷ []) (sp ++ l.Sign g.SquareClose ∷ []))) (o.3, room, o.0, q.fits) (shows_indexed view o.1 q.tree y q.meant o.4)
frame_reads base (f.List done) g.SquareClose outside frames room y text q =
    let d = q.outer in
    let o = d.4 in
    let sp = expression_spelled q.tree in
    valued base frames outside (e.List (done ++ y ∷ [])) d.0 (d.1 ++ (sp ++ l.Sign g.SquareClose ∷ [])) _ (list o.1 q.tree) (three text q.before d.0 d.1 sp (l.Sign g.SquareClose) q.text_is d.2) d.3
    (three_parts d.1 (l.Sign g.SquareOpen ∷ values_spelled o.1) sp (l.Sign g.SquareClose) _ o.2 refl) (room, o.0, o.3, q.fits)
    (ap (λ (xs : List Expr). e.List (xs ++ y ∷ [])) o.4 ∙ ap (λ (z : Expr). e.List (values_meant o.1 ++ z ∷ [])) q.meant)
frame_reads base (f.List done) g.Comma outside frames room y text q =
    let d = q.outer in
    let o = d.4 in
    let sp = expression_spelled q.tree in
    framed base frames (f.List (done ++ y ∷ [])) outside room d.0 (d.1 ++ (sp ++ l.Sign g.Comma ∷ [])) _ (three text q.before d.0 d.1 sp (l.Sign g.Comma) q.text_is d.2) d.3 (
      o.0,
      value o.1 q.tree,
      three_parts d.1 (l.Sign g.SquareOpen ∷ values_spelled o.1) sp (l.Sign g.Comma) _ o.2 refl,
      (o.3, q.fits),
      ap (λ (xs : List Expr). xs ++ y ∷ []) o.4 ∙ ap (λ (z : Expr). values_meant o.1 ++ z ∷ []) q.meant,
    )
frame_reads base (f.Member done key) g.CurlyClose outside frames room y text q =
    let d = q.outer in
    let o = d.4 in
    let sp = expression_spelled q.tree in
    valued base frames outside (e.Record (done ++ (key, y) ∷ [])) d.0 (d.1 ++ (sp ++ l.Sign g.CurlyClose ∷ [])) _ (record_of o.1 o.2 key o.4 q.tree) (three text q.before d.0 d.1 sp (l.Sign g.CurlyClose) q.text_is d.2) d.3
    (three_parts d.1 (l.Sign g.CurlyOpen ∷ (members_spelled o.1 ++ (o.2 ∷ l.Sign g.Colon ∷ []))) sp (l.Sign g.CurlyClose) _ o.3
    (ap (λ (ys : List Lexeme). l.Sign g.CurlyOpen ∷ ys) (append_assoc (members_spelled o.1) (o.2 ∷ l.Sign g.Colon ∷ []) (sp ++ l.Sign g.CurlyClose ∷ [])))) (room, o.0, o.5, q.fits)
    (ap (λ (xs : List (List ℕ × Expr)). e.Record (xs ++ (key, y) ∷ [])) o.6 ∙ ap (λ (z : Expr). e.Record (members_meant o.1 ++ (key, z) ∷ [])) q.meant)
frame_reads base (f.Member done key) g.Comma outside frames room y text q =
    let d = q.outer in
    let o = d.4 in
    let sp = expression_spelled q.tree in
    at_now base frames room (n.Members (done ++ (key, y) ∷ []) outside) d.0 (d.1 ++ (sp ++ l.Sign g.Comma ∷ [])) _ (three text q.before d.0 d.1 sp (l.Sign g.Comma) q.text_is d.2) d.3 (
      o.0,
      member o.1 o.2 key o.4 q.tree,
      three_parts d.1 (l.Sign g.CurlyOpen ∷ (members_spelled o.1 ++ (o.2 ∷ l.Sign g.Colon ∷ []))) sp (l.Sign g.Comma) _ o.3
          (ap (λ (ys : List Lexeme). l.Sign g.CurlyOpen ∷ ys) (append_assoc (members_spelled o.1) (o.2 ∷ l.Sign g.Colon ∷ []) (sp ++ l.Sign g.Comma ∷ []))),
      (o.5, q.fits),
      ap (λ (xs : List (List ℕ × Expr)). xs ++ (key, y) ∷ []) o.6 ∙ ap (λ (z : Expr). members_meant o.1 ++ (key, z) ∷ []) q.meant,
    ) tt
frame_reads base (f.ChooseYes test) g.Colon outside frames room y text q =
    let d = q.outer in
    let o = d.4 in
    let sp = expression_spelled q.tree in
    framed base frames (f.ChooseNo test y) outside room d.0 (d.1 ++ (sp ++ l.Sign g.Colon ∷ [])) _ (three text q.before d.0 d.1 sp (l.Sign g.Colon) q.text_is d.2) d.3 (
      o.0,
      o.1,
      q.tree,
      three_parts d.1 (expression_spelled o.1 ++ l.Sign g.Question ∷ []) sp (l.Sign g.Colon) _ o.2 (append_assoc (expression_spelled o.1) (l.Sign g.Question ∷ []) (sp ++ l.Sign g.Colon ∷ [])),
      o.3,
      o.4,
      o.5,
      q.fits,
      q.meant,
      o.6,
    )
frame_reads base f.Round _ outside frames room y text q = tt
frame_reads base (f.Index view) _ outside frames room y text q = tt
frame_reads base (f.List done) _ outside frames room y text q = tt
frame_reads base (f.Member done key) _ outside frames room y text q = tt
frame_reads base (f.ChooseYes test) _ outside frames room y text q = tt
frame_reads base (f.Signed op) _ outside frames room y text q = tt
frame_reads base (f.Left left op) _ outside frames room y text q = tt
frame_reads base (f.ChooseNo test positive) _ outside frames room y text q = tt

ends_at : (base : ℕ) (room : ℕ) (y : Expr) (text : List Lexeme) (least : ℕ) → Folded base least [] room y text → Ends base y text
ends_at base room y text least q = record {
  tree = q.tree;
  text_is = q.text_is ∙ ap (λ (ys : List Lexeme). ys ++ expression_spelled q.tree) q.outer.1;
  fits = subst (λ m. FitsExpression m q.tree) q.outer.0 q.fits;
  meant = q.meant;
}

close_reads : (base : ℕ) (frames : List Open) (room : ℕ) (y : Expr) (text : List Lexeme) (sign : Sign) → Folded base 0 frames room y text → TurnReads base (closed frames room y sign) text (l.Sign sign)
unfolding closed
close_reads base [] room y text sign q = ends_at base room y text 0 q
close_reads base (o ∷ frames) room y text sign q = frame_reads base o.frame sign o.room frames room y text q

ending_reads : (base : ℕ) (frames : List Open) (room : ℕ) (view : View) (text : List Lexeme) (sign : Sign) → Inner base frames room (n.View view) text
    → TurnReads base (ending frames room view sign) text (l.Sign sign)
unfolding ending
ending_reads base frames room view text sign q =
    let w = folded 0 frames room (value_of view) in
    let d = view_reads base 0 frames room view text (omega arith) q in
    close_reads base w.frames w.room w.value text sign d.0

-- ---- an operator, and a choice

left_reads : (base : ℕ) (w : Whole) (sign : Sign) (op : BinOp) (text : List Lexeme) → operator_of sign ≡ Some op → FoldedTo base (level op) w text → TurnReads base (left w op) text (l.Sign sign)
left_reads base w sign op text h q =
    let d = q.0 in
    framed base w.frames (f.Left w.value op) w.room w.room d.before (expression_spelled d.tree ++ l.Sign sign ∷ []) _ (longer text d.before (expression_spelled d.tree) (l.Sign sign ∷ []) d.text_is) d.outer
    (refl, d.tree, sign, refl, h, d.fits, d.least_is, d.meant, stops w.frames (level op) q.1)

le_seven : (op : BinOp) → level op ≤ 7
le_seven op = more_le (level op) (level_most op)
  where
    more_le : (a : ℕ) → a ≤ 6 → a ≤ 7
    more_le a h = omega arith

operated_reads : (base : ℕ) (frames : List Open) (room : ℕ) (view : View) (sign : Sign) (op : BinOp) (text : List Lexeme) → operator_of sign ≡ Some op → Inner base frames room (n.View view) text
    → TurnReads base (operated frames room view op) text (l.Sign sign)
unfolding operated
operated_reads base frames room view sign op text h q =
    left_reads base (folded (level op) frames room (value_of view)) sign op text h (view_reads base (level op) frames room view text (le_seven op) q)

choose_reads : (base : ℕ) (frames : List Open) (room : ℕ) (y : Expr) (text : List Lexeme) → Folded base 1 frames room y text → top_folds 1 frames ≡ false
    → TurnReads base (deeper frames room (f.ChooseYes y)) text (l.Sign g.Question)
choose_reads base frames zero y text q h = tt
choose_reads base frames (suc room) y text q h =
    framed base frames (f.ChooseYes y) (suc room) room q.before (expression_spelled q.tree ++ l.Sign g.Question ∷ []) _ (longer text q.before (expression_spelled q.tree) (l.Sign g.Question ∷ []) q.text_is) q.outer
    (refl, q.tree, refl, q.fits, q.least_is, q.meant, choice_stops frames h)

chosen_reads : (base : ℕ) (frames : List Open) (room : ℕ) (view : View) (text : List Lexeme) → Inner base frames room (n.View view) text → TurnReads base (chosen frames room view) text (l.Sign g.Question)
unfolding chosen
chosen_reads base frames room view text q =
    let w = folded 1 frames room (value_of view) in
    let d = view_reads base 1 frames room view text (omega arith) q in
    choose_reads base w.frames w.room w.value text d.0 d.1

index_reads : (base : ℕ) (frames : List Open) (room : ℕ) (view : View) (text : List Lexeme) → Inner base frames room (n.View view) text → TurnReads base (deeper frames room (f.Index view)) text (l.Sign g.SquareOpen)
index_reads base frames zero view text q = tt
index_reads base frames (suc room) view text q =
    let d = q.here in
    framed base frames (f.Index view) (suc room) room q.before (q.part ++ l.Sign g.SquareOpen ∷ []) _ (longer text q.before q.part (l.Sign g.SquareOpen ∷ []) q.text_is) q.outer
    (refl, d.0, ap (λ (ys : List Lexeme). ys ++ l.Sign g.SquareOpen ∷ []) d.1, d.2, d.3)

call_reads : (base : ℕ) (frames : List Open) (room : ℕ) (view : View) (text : List Lexeme) → Inner base frames room (n.View view) text → TurnReads base (called frames room view) text (l.Sign g.RoundOpen)
call_reads base frames zero view text q = tt
call_reads base frames (suc room) v.Latest text q =
    let d = q.here in
    at_now base frames (suc room) n.RuleCall q.before (q.part ++ l.Sign g.RoundOpen ∷ []) _ (longer text q.before q.part (l.Sign g.RoundOpen ∷ []) q.text_is) q.outer
    ((room, refl), ap (λ (ys : List Lexeme). ys ++ l.Sign g.RoundOpen ∷ []) (d.1 ∙ d.3.as_is)) tt
call_reads base frames (suc room) (v.Value x) text q = tt
call_reads base frames (suc room) (v.Target root path) text q = tt

dot_reads : (base : ℕ) (frames : List Open) (room : ℕ) (view : View) (text : List Lexeme) → Inner base frames room (n.View view) text → Inner base frames room (n.Dot view) (text ++ l.Sign g.Dot ∷ [])
dot_reads base frames room view text q =
    let d = q.here in
    at_now base frames room (n.Dot view) q.before (q.part ++ l.Sign g.Dot ∷ []) _ (longer text q.before q.part (l.Sign g.Dot ∷ []) q.text_is) q.outer
    (d.0, ap (λ (ys : List Lexeme). ys ++ l.Sign g.Dot ∷ []) d.1, d.2, d.3) tt

operator_reads : (base : ℕ) (frames : List Open) (room : ℕ) (view : View) (sign : Sign) (o : Option BinOp) (text : List Lexeme) → operator_of sign ≡ o → Inner base frames room (n.View view) text
    → TurnReads base (elim o [ Some op ↦ operated frames room view op | None ↦ t.Unfit ]) text (l.Sign sign)
operator_reads base frames room view sign None text h q = tt
operator_reads base frames room view sign (Some op) text h q = operated_reads base frames room view sign op text h q

sign_reads : (base : ℕ) (frames : List Open) (room : ℕ) (view : View) (sign : Sign) (text : List Lexeme) → Inner base frames room (n.View view) text → TurnReads base (view_sign frames room view sign) text (l.Sign sign)
unfolding view_sign
sign_reads base frames room view g.Question text q = chosen_reads base frames room view text q
sign_reads base frames room view g.Dot text q = dot_reads base frames room view text q
sign_reads base frames room view g.SquareOpen text q = index_reads base frames room view text q
sign_reads base frames room view g.RoundOpen text q = call_reads base frames room view text q
sign_reads base frames room view g.RoundClose text q = ending_reads base frames room view text g.RoundClose q
sign_reads base frames room view g.SquareClose text q = ending_reads base frames room view text g.SquareClose q
sign_reads base frames room view g.CurlyClose text q = ending_reads base frames room view text g.CurlyClose q
sign_reads base frames room view g.Comma text q = ending_reads base frames room view text g.Comma q
sign_reads base frames room view g.Colon text q = ending_reads base frames room view text g.Colon q
sign_reads base frames room view g.Semicolon text q = ending_reads base frames room view text g.Semicolon q
sign_reads base frames room view g.Or text q = operator_reads base frames room view g.Or _ text refl q
sign_reads base frames room view g.And text q = operator_reads base frames room view g.And _ text refl q
sign_reads base frames room view g.Same text q = operator_reads base frames room view g.Same _ text refl q
sign_reads base frames room view g.NotSame text q = operator_reads base frames room view g.NotSame _ text refl q
sign_reads base frames room view g.Equal text q = operator_reads base frames room view g.Equal _ text refl q
sign_reads base frames room view g.NotEqual text q = operator_reads base frames room view g.NotEqual _ text refl q
sign_reads base frames room view g.Less text q = operator_reads base frames room view g.Less _ text refl q
sign_reads base frames room view g.LessEqual text q = operator_reads base frames room view g.LessEqual _ text refl q
sign_reads base frames room view g.Greater text q = operator_reads base frames room view g.Greater _ text refl q
sign_reads base frames room view g.GreaterEqual text q = operator_reads base frames room view g.GreaterEqual _ text refl q
sign_reads base frames room view g.Plus text q = operator_reads base frames room view g.Plus _ text refl q
sign_reads base frames room view g.Minus text q = operator_reads base frames room view g.Minus _ text refl q
sign_reads base frames room view g.Times text q = operator_reads base frames room view g.Times _ text refl q
sign_reads base frames room view g.Over text q = operator_reads base frames room view g.Over _ text refl q
sign_reads base frames room view g.Rem text q = operator_reads base frames room view g.Rem _ text refl q
sign_reads base frames room view _ text q = tt

-- the value of what ends here
alone_reads : (base : ℕ) (w : Whole) (frames : List Open) (room : ℕ) (y z : Expr) (text : List Lexeme) → Folded base 0 frames room y text → alone (whole frames room y) frames ≡ Some z → Ends base z text
alone_reads base w [] room y z text q h = subst (λ (x : Expr). Ends base x text) (same y z h) (ends_at base room y text 0 q)
  where
    same : (x y : Expr) → Some x ≡ Some y → x ≡ y
    same x y e = cc
alone_reads base w (o ∷ frames) room y z text q h = absurd cc

view_ends : (base : ℕ) (frames : List Open) (room : ℕ) (view : View) (z : Expr) (text : List Lexeme) → Inner base frames room (n.View view) text → ended (In frames room (n.View view)) ≡ Some z → Ends base z text
unfolding ended
view_ends base frames room view z text q h =
    let w = folded 0 frames room (value_of view) in
    let d = view_reads base 0 frames room view text (omega arith) q in
    alone_reads base w w.frames w.room w.value z text d.0 h

pub ended_reads : (base : ℕ) (frames : List Open) (room : ℕ) (now : Now) (z : Expr) (text : List Lexeme) → Inner base frames room now text → ended (In frames room now) ≡ Some z → Ends base z text
unfolding ended
ended_reads base frames room (n.View view) z text q h = view_ends base frames room view z text q h
ended_reads base frames room _ z text q h = absurd cc

if_ended_reads : (base : ℕ) (o : Option Expr) (text : List Lexeme) (x : Lexeme) → ((z : Expr) → o ≡ Some z → Ends base z text) → TurnReads base (if_ended o) text x
if_ended_reads base None text x h = tt
if_ended_reads base (Some z) text x h = h z refl

else_reads : (base : ℕ) (frames : List Open) (room : ℕ) (view : View) (role : Role) (text : List Lexeme) (x : Lexeme) → Inner base frames room (n.View view) text
    → TurnReads base (before_else (In frames room (n.View view)) role) text x
else_reads base frames room view r.Else text x q = if_ended_reads base (ended (In frames room (n.View view))) text x (λ z h. view_ends base frames room view z text q h)
else_reads base frames room view _ text x q = tt

pub on_view_reads : (base : ℕ) (frames : List Open) (room : ℕ) (view : View) (x : Lexeme) (text : List Lexeme) → Inner base frames room (n.View view) text → TurnReads base (on_view frames room view x) text x
unfolding on_view
on_view_reads base frames room view (l.Sign sign) text q = sign_reads base frames room view sign text q
on_view_reads base frames room view (l.Word w) text q = else_reads base frames room view (role_of w) text (l.Word w) q
on_view_reads base frames room view _ text q = tt
