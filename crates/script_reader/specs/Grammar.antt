-- The grammar of scripts (this project's profile of ECMA-262; the forms of `rules` and `meta` are those of SISR 1.0): its
-- syntax trees, how each is spelled in lexemes, what it means, and where it may stand.
use Rattle.std.specs.Prelude.{◌≡◌, ◌≢◌, ℕ, suc, ℤ, ◌<◌, ◌≤◌, Bool, true, false, List, [], ◌∷◌, ◌++◌, Option, Some, None, codes}
use Rattle.vg_base.specs.Limits.{nesting}
use Rattle.vg_base.specs.declared.script.Expr.{Expr}
use Rattle.vg_base.specs.declared.script.Expr.TheVariants as e
use Rattle.vg_base.specs.declared.script.Key.{Key}
use Rattle.vg_base.specs.declared.script.Key.TheVariants as k
use Rattle.vg_base.specs.declared.script.Root.{Root}
use Rattle.vg_base.specs.declared.script.Root.TheVariants as root
use Rattle.vg_base.specs.declared.script.BinOp.{BinOp}
use Rattle.vg_base.specs.declared.script.UnOp.{UnOp}
use Rattle.vg_base.specs.declared.script.UnOp.TheVariants as u
use Rattle.vg_base.specs.declared.script.AssignOp.{AssignOp}
use Rattle.vg_base.specs.declared.script.AssignOp.TheVariants as a
use Rattle.vg_base.specs.declared.script.Stmt.{Stmt}
use Rattle.vg_base.specs.declared.script.Stmt.TheVariants as st
use Rattle.vg_base.specs.declared.script.Script.{Script}
use Rattle.script_reader.specs.declared.lexing.lexeme.Sign.{Sign}
use Rattle.script_reader.specs.declared.lexing.lexeme.Sign.TheVariants as g
use Rattle.script_reader.specs.declared.lexing.lexeme.Lexeme.{Lexeme}
use Rattle.script_reader.specs.declared.lexing.lexeme.Lexeme.TheVariants as l
use Rattle.script_reader.specs.Signs.{operator_of, level}
use Rattle.script_reader.specs.Roles.{IsName}
use Rattle.script_reader.specs.Chains.{linked, part}

-- ---- expressions

-- what a lexeme is as a record's key
abbrev pub key_of : Lexeme → Option (List ℕ)
key_of (l.Word w) = Some w
key_of (l.Str text) = Some text
key_of (l.Number value digits) = Some digits
key_of (l.Sign sign) = None
key_of l.Bad = None

mutual
  pub data Expression : Type 0 where
    operand : Operand → Expression
    signed : UnOp → Expression → Expression
    binary : (sign : Sign) → (op : BinOp) → operator_of sign ≡ Some op → Expression → Expression → Expression
    choice : Expression → Expression → Expression → Expression

  -- a primary, and `.word` or `[index]` any number of times
  pub data Operand : Type 0 where
    number : ℤ → List ℕ → Operand
    string : List ℕ → Operand
    truth : Bool → Operand
    null : Operand
    out : Operand
    name : (w : List ℕ) → IsName w → Operand
    round : Expression → Operand
    empty_list : Operand
    list : Values → Expression → Operand
    empty_record : Operand
    record_of : Members → (lexeme : Lexeme) → (key : List ℕ) → key_of lexeme ≡ Some key → Expression → Operand
    rule : List ℕ → Operand
    latest_rule : Operand
    rule_text : List ℕ → Operand
    latest_text : Operand
    current_text : Operand
    dotted : Operand → List ℕ → Operand
    indexed : Operand → Expression → Operand

  -- values of a list, each with a comma after it
  pub data Values : Type 0 where
    no_value : Values
    value : Values → Expression → Values

  -- members of a record, each with a comma after it
  pub data Members : Type 0 where
    no_member : Members
    member : Members → (lexeme : Lexeme) → (key : List ℕ) → key_of lexeme ≡ Some key → Expression → Members

abbrev pub word : List ℕ → Lexeme
word w = l.Word w

abbrev pub prefix_sign : UnOp → Sign
prefix_sign u.Neg = g.Minus
prefix_sign u.Plus = g.Plus
prefix_sign u.Not = g.Not

abbrev pub truth_word : Bool → Lexeme
truth_word true = l.Word (codes "true")
truth_word false = l.Word (codes "false")

unfoldable mutual
  pub expression_spelled : Expression → List Lexeme
  expression_spelled (operand o) = operand_spelled o
  expression_spelled (signed op x) = l.Sign (prefix_sign op) ∷ expression_spelled x
  expression_spelled (binary sign op is x y) = expression_spelled x ++ (l.Sign sign ∷ expression_spelled y)
  expression_spelled (choice test x y) = expression_spelled test ++ (l.Sign g.Question ∷ (expression_spelled x ++ (l.Sign g.Colon ∷ expression_spelled y)))

  pub operand_spelled : Operand → List Lexeme
  operand_spelled (number n digits) = l.Number n digits ∷ []
  operand_spelled (string text) = l.Str text ∷ []
  operand_spelled (truth b) = truth_word b ∷ []
  operand_spelled null = l.Word (codes "null") ∷ []
  operand_spelled out = l.Word (codes "out") ∷ []
  operand_spelled (name w is) = l.Word w ∷ []
  operand_spelled (round x) = l.Sign g.RoundOpen ∷ (expression_spelled x ++ l.Sign g.RoundClose ∷ [])
  operand_spelled empty_list = l.Sign g.SquareOpen ∷ l.Sign g.SquareClose ∷ []
  operand_spelled (list vs x) = l.Sign g.SquareOpen ∷ (values_spelled vs ++ (expression_spelled x ++ l.Sign g.SquareClose ∷ []))
  operand_spelled empty_record = l.Sign g.CurlyOpen ∷ l.Sign g.CurlyClose ∷ []
  operand_spelled (record_of ms lexeme key is x) =
      l.Sign g.CurlyOpen ∷ (members_spelled ms ++ (lexeme ∷ l.Sign g.Colon ∷ (expression_spelled x ++ l.Sign g.CurlyClose ∷ [])))
  operand_spelled (rule w) = l.Word (codes "rules") ∷ l.Sign g.Dot ∷ l.Word w ∷ []
  operand_spelled latest_rule = l.Word (codes "rules") ∷ l.Sign g.Dot ∷ l.Word (codes "latest") ∷ l.Sign g.RoundOpen ∷ l.Sign g.RoundClose ∷ []
  operand_spelled (rule_text w) = l.Word (codes "meta") ∷ l.Sign g.Dot ∷ l.Word w ∷ l.Sign g.Dot ∷ l.Word (codes "text") ∷ []
  operand_spelled latest_text =
      l.Word (codes "meta") ∷ l.Sign g.Dot ∷ l.Word (codes "latest") ∷ l.Sign g.RoundOpen ∷ l.Sign g.RoundClose ∷ l.Sign g.Dot ∷ l.Word (codes "text") ∷ []
  operand_spelled current_text =
      l.Word (codes "meta") ∷ l.Sign g.Dot ∷ l.Word (codes "current") ∷ l.Sign g.RoundOpen ∷ l.Sign g.RoundClose ∷ l.Sign g.Dot ∷ l.Word (codes "text") ∷ []
  operand_spelled (dotted o w) = operand_spelled o ++ (l.Sign g.Dot ∷ l.Word w ∷ [])
  operand_spelled (indexed o x) = operand_spelled o ++ (l.Sign g.SquareOpen ∷ (expression_spelled x ++ l.Sign g.SquareClose ∷ []))

  pub values_spelled : Values → List Lexeme
  values_spelled no_value = []
  values_spelled (value vs x) = values_spelled vs ++ (expression_spelled x ++ l.Sign g.Comma ∷ [])

  pub members_spelled : Members → List Lexeme
  members_spelled no_member = []
  members_spelled (member ms lexeme key is x) = members_spelled ms ++ (lexeme ∷ l.Sign g.Colon ∷ (expression_spelled x ++ l.Sign g.Comma ∷ []))

unfoldable mutual
  pub expression_meant : Expression → Expr
  expression_meant (operand o) = operand_meant o
  expression_meant (signed op x) = e.Unary op (expression_meant x)
  expression_meant (binary sign op is x y) = linked (expression_meant x) op (expression_meant y)
  expression_meant (choice test x y) = e.Choose (expression_meant test) (expression_meant x) (expression_meant y)

  pub operand_meant : Operand → Expr
  operand_meant (number n digits) = e.Number n
  operand_meant (string text) = e.Str text
  operand_meant (truth b) = e.Truth b
  operand_meant null = e.Null
  operand_meant out = e.Out
  operand_meant (name w is) = e.Name w
  operand_meant (round x) = expression_meant x
  operand_meant empty_list = e.List []
  operand_meant (list vs x) = e.List (values_meant vs ++ expression_meant x ∷ [])
  operand_meant empty_record = e.Record []
  operand_meant (record_of ms lexeme key is x) = e.Record (members_meant ms ++ (key, expression_meant x) ∷ [])
  operand_meant (rule w) = e.Rule w
  operand_meant latest_rule = e.LatestRule
  operand_meant (rule_text w) = e.RuleText w
  operand_meant latest_text = e.LatestText
  operand_meant current_text = e.CurrentText
  operand_meant (dotted o w) = part (operand_meant o) (k.Word w)
  operand_meant (indexed o x) = part (operand_meant o) (k.Index (expression_meant x))

  pub values_meant : Values → List Expr
  values_meant no_value = []
  values_meant (value vs x) = values_meant vs ++ expression_meant x ∷ []

  pub members_meant : Members → List (List ℕ × Expr)
  members_meant no_member = []
  members_meant (member ms lexeme key is x) = members_meant ms ++ (key, expression_meant x) ∷ []

-- How tightly an expression holds together: as the operator that it was made with; `? :` is the loosest,
-- and what needs no bracket anywhere the tightest.
abbrev pub tightness : Expression → ℕ
tightness (operand o) = 7
tightness (signed op x) = 7
tightness (binary sign op is x y) = level op
tightness (choice test x y) = 0

-- An expression may stand where `room` more levels of nesting are left. This is the ladder: an operator takes on its
-- left what holds as tightly as itself or more tightly, and on its right only what holds more tightly.
unfoldable mutual
  pub FitsExpression : ℕ → Expression → Type 0
  FitsExpression room (operand o) = FitsOperand room o
  FitsExpression room (signed op x) = (7 ≤ tightness x) × (inner : ℕ) × (room ≡ suc inner) × FitsExpression inner x
  FitsExpression room (binary sign op is x y) = (level op ≤ tightness x) × (level op < tightness y) × FitsExpression room x × FitsExpression room y
  FitsExpression room (choice test x y) =
      (1 ≤ tightness test) × FitsExpression room test × (inner : ℕ) × (room ≡ suc inner) × FitsExpression inner x × FitsExpression inner y

  pub FitsOperand : ℕ → Operand → Type 0
  FitsOperand room (number n digits) = Unit {0}
  FitsOperand room (string text) = Unit {0}
  FitsOperand room (truth b) = Unit {0}
  FitsOperand room null = Unit {0}
  FitsOperand room out = Unit {0}
  FitsOperand room (name w is) = Unit {0}
  FitsOperand room (round x) = (inner : ℕ) × (room ≡ suc inner) × FitsExpression inner x
  FitsOperand room empty_list = (inner : ℕ) × (room ≡ suc inner)
  FitsOperand room (list vs x) = (inner : ℕ) × (room ≡ suc inner) × FitsValues inner vs × FitsExpression inner x
  FitsOperand room empty_record = (inner : ℕ) × (room ≡ suc inner)
  FitsOperand room (record_of ms lexeme key is x) = (inner : ℕ) × (room ≡ suc inner) × FitsMembers inner ms × FitsExpression inner x
  FitsOperand room (rule w) = Unit {0}
  FitsOperand room latest_rule = (inner : ℕ) × (room ≡ suc inner)
  FitsOperand room (rule_text w) = Unit {0}
  FitsOperand room latest_text = (inner : ℕ) × (room ≡ suc inner)
  FitsOperand room current_text = (inner : ℕ) × (room ≡ suc inner)
  FitsOperand room (dotted o w) = FitsOperand room o
  FitsOperand room (indexed o x) = FitsOperand room o × (inner : ℕ) × (room ≡ suc inner) × FitsExpression inner x

  pub FitsValues : ℕ → Values → Type 0
  FitsValues room no_value = Unit {0}
  FitsValues room (value vs x) = FitsValues room vs × FitsExpression room x

  pub FitsMembers : ℕ → Members → Type 0
  FitsMembers room no_member = Unit {0}
  FitsMembers room (member ms lexeme key is x) = FitsMembers room ms × FitsExpression room x

-- what an operand assigns to, if it may stand before the sign of an assignment: `out` or a name, and its steps
abbrev pub Target : Type 0
Target = Root × List Key

abbrev pub stepped : Option Target → Key → Option Target
stepped None key = None
stepped (Some target) key = Some (target.0, target.1 ++ key ∷ [])

abbrev pub target_of : Operand → Option Target
target_of out = Some (root.Out, [])
target_of (name w is) = Some (root.Name w, [])
target_of (dotted o w) = stepped (target_of o) (k.Word w)
target_of (indexed o x) = stepped (target_of o) (k.Index (expression_meant x))
target_of _ = None

-- ---- statements

mutual
  pub data Statement : Type 0 where
    empty : Statement
    block : Statements → Statement
    declared : (w : List ℕ) → IsName w → End → Statement
    defined : (w : List ℕ) → IsName w → Expression → End → Statement
    if_alone : Expression → Statement → Statement
    if_else : Expression → Statement → Statement → Statement
    assigned : (o : Operand) → (target : Target) → target_of o ≡ Some target → AssignOp → Expression → End → Statement
    plain : Expression → End → Statement

  pub data Statements : Type 0 where
    no_statement : Statements
    more : Statements → Statement → Statements

  -- with a `;`, or without it
  pub data End : Type 0 where
    semicolon : End
    nothing : End

abbrev pub end_spelled : End → List Lexeme
end_spelled semicolon = l.Sign g.Semicolon ∷ []
end_spelled nothing = []

abbrev pub assignment_sign : AssignOp → Sign
assignment_sign a.Set = g.Set
assignment_sign a.Add = g.AddTo
assignment_sign a.Sub = g.TakeFrom

unfoldable mutual
  pub statement_spelled : Statement → List Lexeme
  statement_spelled empty = l.Sign g.Semicolon ∷ []
  statement_spelled (block ss) = l.Sign g.CurlyOpen ∷ (statements_spelled ss ++ l.Sign g.CurlyClose ∷ [])
  statement_spelled (declared w is end) = l.Word (codes "var") ∷ l.Word w ∷ end_spelled end
  statement_spelled (defined w is x end) = l.Word (codes "var") ∷ l.Word w ∷ l.Sign g.Set ∷ (expression_spelled x ++ end_spelled end)
  statement_spelled (if_alone test s) = l.Word (codes "if") ∷ l.Sign g.RoundOpen ∷ (expression_spelled test ++ (l.Sign g.RoundClose ∷ statement_spelled s))
  statement_spelled (if_else test s t) =
      l.Word (codes "if") ∷ l.Sign g.RoundOpen ∷ (expression_spelled test ++ (l.Sign g.RoundClose ∷ (statement_spelled s ++ (l.Word (codes "else") ∷ statement_spelled t))))
  statement_spelled (assigned o target is op x end) = operand_spelled o ++ (l.Sign (assignment_sign op) ∷ (expression_spelled x ++ end_spelled end))
  statement_spelled (plain x end) = expression_spelled x ++ end_spelled end

  pub statements_spelled : Statements → List Lexeme
  statements_spelled no_statement = []
  statements_spelled (more ss s) = statements_spelled ss ++ statement_spelled s

unfoldable mutual
  pub statement_meant : Statement → Stmt
  statement_meant empty = st.Empty
  statement_meant (block ss) = st.Block (statements_meant ss)
  statement_meant (declared w is end) = st.Var w None
  statement_meant (defined w is x end) = st.Var w (Some (expression_meant x))
  statement_meant (if_alone test s) = st.If (expression_meant test) (statement_meant s) None
  statement_meant (if_else test s t) = st.If (expression_meant test) (statement_meant s) (Some (statement_meant t))
  statement_meant (assigned o target is op x end) = st.Assign target.0 target.1 op (expression_meant x)
  statement_meant (plain x end) = st.Plain (expression_meant x)

  pub statements_meant : Statements → List Stmt
  statements_meant no_statement = []
  statements_meant (more ss s) = statements_meant ss ++ statement_meant s ∷ []

abbrev pub lacks : End → Bool
lacks semicolon = false
lacks nothing = true

-- the statement ends without its `;`
abbrev pub ends_open : Statement → Bool
ends_open empty = false
ends_open (block ss) = false
ends_open (declared w is end) = lacks end
ends_open (defined w is x end) = lacks end
ends_open (if_alone test s) = ends_open s
ends_open (if_else test s t) = ends_open t
ends_open (assigned o target is op x end) = lacks end
ends_open (plain x end) = lacks end

-- the statement ends in an `if` without `else`, to which an `else` behind it would belong
abbrev pub ends_in_if : Statement → Bool
ends_in_if (if_alone test s) = true
ends_in_if (if_else test s t) = ends_in_if t
ends_in_if _ = false

-- no statement of the list ends without its `;`
abbrev pub AllEnd : Statements → Type 0
AllEnd no_statement = Unit {0}
AllEnd (more ss s) = AllEnd ss × (ends_open s ≡ false)

-- it doesn't begin with `{`
abbrev pub BeginsNoBlock : List Lexeme → Type 0
BeginsNoBlock lexemes = (rest : List Lexeme) → lexemes ≢ l.Sign g.CurlyOpen ∷ rest

-- A statement may stand where `room` more levels of nesting are left. Only the last statement of a list, and what stands
-- before an `else`, may end without its `;`; what begins with `{` is a block.
unfoldable mutual
  pub FitsStatement : ℕ → Statement → Type 0
  FitsStatement room empty = Unit {0}
  FitsStatement room (block ss) = (inner : ℕ) × (room ≡ suc inner) × FitsStatements inner ss
  FitsStatement room (declared w is end) = Unit {0}
  FitsStatement room (defined w is x end) = FitsExpression room x
  FitsStatement room (if_alone test s) = (inner : ℕ) × (room ≡ suc inner) × FitsExpression inner test × FitsStatement inner s
  FitsStatement room (if_else test s t) =
      (inner : ℕ) × (room ≡ suc inner) × FitsExpression inner test × FitsStatement inner s × (ends_in_if s ≡ false) × FitsStatement inner t
  FitsStatement room (assigned o target is op x end) = FitsOperand room o × FitsExpression room x
  FitsStatement room (plain x end) = BeginsNoBlock (expression_spelled x) × FitsExpression room x

  pub FitsStatements : ℕ → Statements → Type 0
  FitsStatements room no_statement = Unit {0}
  FitsStatements room (more ss s) = FitsStatements room ss × AllEnd ss × FitsStatement room s

-- the lexemes are a script, and this is its meaning
pub record SpellsScript (lexemes : List Lexeme) (script : Script) : Type 0 where
  pub tree : Statements
  pub fits : FitsStatements nesting tree
  pub spelled : lexemes ≡ statements_spelled tree
  pub meant : script ≡ record { body = statements_meant tree }
