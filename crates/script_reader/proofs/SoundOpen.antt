-- What is open in an expression has read left parts of trees of the grammar.
use Rattle.std.proofs.Common.{◌≡◌, ℕ, suc, ◌≤◌, Bool, false, List, [], ◌∷◌, ◌++◌, Some, refl, sym, ap, subst, ◌∙◌, codes, append_assoc}
use Rattle.std.proofs.lemmas.List.{append-nil}
use Rattle.vg_base.specs.declared.script.Expr.{Expr}
use Rattle.script_reader.specs.declared.lexing.lexeme.Sign.{Sign}
use Rattle.script_reader.specs.declared.lexing.lexeme.Sign.TheVariants as g
use Rattle.script_reader.specs.declared.lexing.lexeme.Lexeme.{Lexeme}
use Rattle.script_reader.specs.declared.lexing.lexeme.Lexeme.TheVariants as l
use Rattle.script_reader.specs.declared.machine.stack.View.{View}
use Rattle.script_reader.specs.declared.machine.stack.View.TheVariants as v
use Rattle.script_reader.specs.declared.machine.stack.Source.{Source}
use Rattle.script_reader.specs.declared.machine.stack.Source.TheVariants as s
use Rattle.script_reader.specs.declared.machine.stack.Now.{Now}
use Rattle.script_reader.specs.declared.machine.stack.Now.TheVariants as n
use Rattle.script_reader.specs.declared.machine.stack.Frame.{Frame}
use Rattle.script_reader.specs.declared.machine.stack.Frame.TheVariants as f
use Rattle.script_reader.specs.declared.machine.stack.Open.{Open}
use Rattle.script_reader.specs.declared.machine.stack.Turn.{Turn}
use Rattle.script_reader.specs.declared.machine.stack.Turn.TheVariants as t
use Rattle.script_reader.specs.Signs.{operator_of, level}
use Rattle.script_reader.specs.code.Expressions.{opened, value_of, left}
use Rattle.script_reader.specs.Grammar.{prefix_sign, Expression, Operand, Values, Members, expression_spelled, operand_spelled, values_spelled, members_spelled, expression_meant, operand_meant, values_meant, members_meant, tightness, FitsExpression, FitsOperand, FitsValues, FitsMembers, target_of, key_of}
use Rattle.script_reader.proofs.Folding.{Takes}

-- ---- what stands for an operand

abbrev pub ShowsAs : View → Operand → Type 0
ShowsAs (v.Value x) o = Unit {0}
ShowsAs (v.Target root path) o = target_of o ≡ Some (root, path)
ShowsAs v.Latest o = operand_spelled o ≡ l.Word (codes "rules") ∷ l.Sign g.Dot ∷ l.Word (codes "latest") ∷ []

pub record Shows (view : View) (o : Operand) : Type 0 where
  pub meant : value_of view ≡ operand_meant o
  pub as_is : ShowsAs view o

-- ---- what is open

abbrev pub PartReads : List Open → Frame → ℕ → ℕ → List Lexeme → Type 0
PartReads frames f.Round outside room part = (outside ≡ suc room) × (part ≡ l.Sign g.RoundOpen ∷ [])
PartReads frames (f.Index view) outside room part = (outside ≡ suc room) × (o : Operand) × (part ≡ operand_spelled o ++ l.Sign g.SquareOpen ∷ []) × FitsOperand outside o × Shows view o
PartReads frames (f.List done) outside room part = (outside ≡ suc room) × (vs : Values) × (part ≡ l.Sign g.SquareOpen ∷ values_spelled vs) × FitsValues room vs × (done ≡ values_meant vs)
PartReads frames (f.Member done key) outside room part = (outside ≡ suc room) × (ms : Members) × (lexeme : Lexeme) × (part ≡ l.Sign g.CurlyOpen ∷ (members_spelled ms ++ (lexeme ∷ l.Sign g.Colon ∷ []))) × (key_of lexeme ≡ Some key) × FitsMembers room ms × (done ≡ members_meant ms)
PartReads frames (f.Signed op) outside room part = (outside ≡ suc room) × (part ≡ l.Sign (prefix_sign op) ∷ [])
PartReads frames (f.Left left op) outside room part = (outside ≡ room) × (x : Expression) × (sign : Sign) × (part ≡ expression_spelled x ++ l.Sign sign ∷ []) × (operator_of sign ≡ Some op) × FitsExpression room x × (level op ≤ tightness x) × (left ≡ expression_meant x) × Takes frames (level op)
PartReads frames (f.ChooseYes test) outside room part = (outside ≡ suc room) × (x : Expression) × (part ≡ expression_spelled x ++ l.Sign g.Question ∷ []) × FitsExpression outside x × (1 ≤ tightness x) × (test ≡ expression_meant x) × Takes frames 0
PartReads frames (f.ChooseNo test positive) outside room part = (outside ≡ suc room) × (x : Expression) × (y : Expression) × (part ≡ expression_spelled x ++ (l.Sign g.Question ∷ (expression_spelled y ++ l.Sign g.Colon ∷ []))) × FitsExpression outside x × (1 ≤ tightness x) × (test ≡ expression_meant x) × FitsExpression room y × (positive ≡ expression_meant y) × Takes frames 0

-- the lexemes since the expression began, up to where a value is expected; the expression began with this room
abbrev pub OpenReads : ℕ → List Open → ℕ → List Lexeme → Type 0
OpenReads base [] room text = (room ≡ base) × (text ≡ [])
OpenReads base (o ∷ frames) room text = (before : List Lexeme) × (part : List Lexeme) × (text ≡ before ++ part) × OpenReads base frames o.room before × PartReads frames o.frame o.room room part

abbrev pub source_spelled : Source → List Lexeme
source_spelled (s.Rule w) = l.Word (codes "meta") ∷ l.Sign g.Dot ∷ l.Word w ∷ []
source_spelled s.Latest = l.Word (codes "meta") ∷ l.Sign g.Dot ∷ l.Word (codes "latest") ∷ l.Sign g.RoundOpen ∷ l.Sign g.RoundClose ∷ []
source_spelled s.Current = l.Word (codes "meta") ∷ l.Sign g.Dot ∷ l.Word (codes "current") ∷ l.Sign g.RoundOpen ∷ l.Sign g.RoundClose ∷ []

abbrev pub Deep : ℕ → Type 0
Deep room = (inner : ℕ) × (room ≡ suc inner)

abbrev pub SourceFits : ℕ → Source → Type 0
SourceFits room (s.Rule w) = Unit {0}
SourceFits room s.Latest = Deep room
SourceFits room s.Current = Deep room

abbrev pub Called : ℕ → Source → List Lexeme → Type 0
Called room (s.Rule w) part = ⊥
Called room s.Latest part = Deep room × (part ≡ l.Word (codes "meta") ∷ l.Sign g.Dot ∷ l.Word (codes "latest") ∷ l.Sign g.RoundOpen ∷ [])
Called room s.Current part = Deep room × (part ≡ l.Word (codes "meta") ∷ l.Sign g.Dot ∷ l.Word (codes "current") ∷ l.Sign g.RoundOpen ∷ [])

-- what was read where reading stands so
abbrev pub Here : Now → ℕ → List Lexeme → Type 0
Here (n.Start first) room part = Unit {0}
Here (n.View view) room part = (o : Operand) × (part ≡ operand_spelled o) × FitsOperand room o × Shows view o
Here (n.Dot view) room part = (o : Operand) × (part ≡ operand_spelled o ++ l.Sign g.Dot ∷ []) × FitsOperand room o × Shows view o
Here (n.ListStart outside) room part = (outside ≡ suc room) × (part ≡ l.Sign g.SquareOpen ∷ [])
Here (n.Members done outside) room part = (outside ≡ suc room) × (ms : Members) × (part ≡ l.Sign g.CurlyOpen ∷ members_spelled ms) × FitsMembers room ms × (done ≡ members_meant ms)
Here (n.Keyed done key outside) room part = (outside ≡ suc room) × (ms : Members) × (lexeme : Lexeme) × (part ≡ l.Sign g.CurlyOpen ∷ (members_spelled ms ++ lexeme ∷ [])) × (key_of lexeme ≡ Some key) × FitsMembers room ms × (done ≡ members_meant ms)
Here n.Rules room part = part ≡ l.Word (codes "rules") ∷ []
Here n.RulesDot room part = part ≡ l.Word (codes "rules") ∷ l.Sign g.Dot ∷ []
Here n.RuleCall room part = Deep room × (part ≡ l.Word (codes "rules") ∷ l.Sign g.Dot ∷ l.Word (codes "latest") ∷ l.Sign g.RoundOpen ∷ [])
Here n.Meta room part = part ≡ l.Word (codes "meta") ∷ []
Here n.MetaDot room part = part ≡ l.Word (codes "meta") ∷ l.Sign g.Dot ∷ []
Here (n.Source source) room part = SourceFits room source × (part ≡ source_spelled source)
Here (n.SourceCall source) room part = Called room source part
Here (n.SourceDot source) room part = SourceFits room source × (part ≡ source_spelled source ++ l.Sign g.Dot ∷ [])

-- the room around what is being read here
abbrev pub around_room : Now → ℕ → ℕ
around_room (n.ListStart outside) room = outside
around_room (n.Members done outside) room = outside
around_room (n.Keyed done key outside) room = outside
around_room _ room = room

abbrev pub here_part : Now → List Lexeme → List Lexeme → Type 0
here_part (n.Start first) part rest = part ≡ []
here_part _ part rest = Unit {0}

pub record Inner (base : ℕ) (frames : List Open) (room : ℕ) (now : Now) (text : List Lexeme) : Type 0 where
  pub before : List Lexeme
  pub part : List Lexeme
  pub text_is : text ≡ before ++ part
  pub outer : OpenReads base frames (around_room now room) before
  pub here : Here now room part
  pub at_start : here_part now part []

-- an expression ends here
pub record Ends (base : ℕ) (x : Expr) (text : List Lexeme) : Type 0 where
  pub tree : Expression
  pub text_is : text ≡ expression_spelled tree
  pub fits : FitsExpression base tree
  pub meant : x ≡ expression_meant tree

-- the lexeme goes on what was read, or the expression ended before it
abbrev pub TurnReads : ℕ → Turn → List Lexeme → Lexeme → Type 0
TurnReads base (t.On j) text x = Inner base j.frames j.room j.now (text ++ x ∷ [])
TurnReads base (t.Ended y) text x = Ends base y text
TurnReads base t.Unfit text x = Unit {0}

-- ---- texts that are put together

pub longer : (text a b more : List Lexeme) → text ≡ a ++ b → text ++ more ≡ a ++ (b ++ more)
longer text a b more h = ap (λ (ys : List Lexeme). ys ++ more) h ∙ append_assoc a b more

pub started : (base : ℕ) (frames : List Open) (room : ℕ) (first : Bool) (text : List Lexeme) → OpenReads base frames room text → Inner base frames room (n.Start first) text
started base frames room first text h = record { before = text; part = []; text_is = sym (append-nil text); outer = h; here = tt; at_start = refl }

pub start_of : (base : ℕ) (frames : List Open) (room : ℕ) (first : Bool) (text : List Lexeme) → Inner base frames room (n.Start first) text → OpenReads base frames room text
start_of base frames room first text q =
    subst (OpenReads base frames room) (sym (q.text_is ∙ ap (λ (ys : List Lexeme). q.before ++ ys) q.at_start ∙ append-nil q.before)) q.outer

-- an operand behind what is open
pub viewed : (base : ℕ) (frames : List Open) (room : ℕ) (view : View) (before part text : List Lexeme) (o : Operand) → text ≡ before ++ part → OpenReads base frames room before
    → part ≡ operand_spelled o → FitsOperand room o → Shows view o → Inner base frames room (n.View view) text
viewed base frames room view before part text o e h q fits shows = record { before = before; part = part; text_is = e; outer = h; here = (o, q, fits, shows); at_start = tt }

pub valued : (base : ℕ) (frames : List Open) (room : ℕ) (x : Expr) (before part text : List Lexeme) (o : Operand) → text ≡ before ++ part → OpenReads base frames room before
    → part ≡ operand_spelled o → FitsOperand room o → x ≡ operand_meant o → Inner base frames room (n.View (v.Value x)) text
valued base frames room x before part text o e h q fits m = viewed base frames room (v.Value x) before part text o e h q fits (record { meant = m; as_is = tt })

-- something is read where nothing was
pub at_now : (base : ℕ) (frames : List Open) (room : ℕ) (now : Now) (before part text : List Lexeme) → text ≡ before ++ part → OpenReads base frames (around_room now room) before
    → Here now room part → here_part now part [] → Inner base frames room now text
at_now base frames room now before part text e h here st = record { before = before; part = part; text_is = e; outer = h; here = here; at_start = st }

-- a frame behind what is open
pub framed : (base : ℕ) (frames : List Open) (frame : Frame) (outside room : ℕ) (before part text : List Lexeme) → text ≡ before ++ part → OpenReads base frames outside before
    → PartReads frames frame outside room part → Inner base (opened frame outside ∷ frames) room (n.Start false) text
framed base frames frame outside room before part text e h q = started base (opened frame outside ∷ frames) room false text (before, part, e, h, q)
