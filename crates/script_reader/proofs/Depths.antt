-- A script that fits is under 600 levels deep. Each level of nesting adds at most nine to the depth of what stands in it: one for each level of
-- the ladder of operators, one for a sign or a choice, one for the steps to a part. What is chained adds nothing: a longer chain is as deep as
-- its deepest operand (`linked_on`), a longer path as its deepest index (`stepped_on`). The main lemma is `expression_depth`.
use Rattle.std.proofs.Common.{◌≡◌, ℕ, suc, ◌+◌, ◌*◌, ◌<◌, ◌≤◌, List, [], ◌∷◌, ◌++◌, map, Some, None, Option, refl, sym, ap, ◌∙◌, subst, arith}
use Rattle.std.specs.Prelude.{max, Bool, true, false}
use Rattle.std.proofs.lemmas.Bool.{false≢true}
use Rattle.vg_base.specs.declared.script.Expr as expr
use Rattle.vg_base.specs.declared.script.Expr.{Expr, roll-Expr, out-Expr, roll-out-Expr, out-roll-Expr}
use Rattle.vg_base.specs.declared.script.Expr.TheVariants as e
use Rattle.vg_base.specs.declared.script.Expr.TheOpen.{Expr-F}
use Rattle.vg_base.specs.declared.script.Expr.TheFolds.{fold-roll-Expr}
use Rattle.vg_base.specs.declared.script.Key as key
use Rattle.vg_base.specs.declared.script.Key.{Key, Key-F, fold-roll-Key}
use Rattle.vg_base.specs.declared.script.AssignOp.{AssignOp}
use Rattle.vg_base.specs.declared.script.Key.TheVariants as k
use Rattle.vg_base.specs.declared.script.BinOp.{BinOp}
use Rattle.vg_base.specs.declared.script.BinOp.TheVariants as b
use Rattle.vg_base.specs.declared.script.Root.TheVariants as root
use Rattle.vg_base.specs.declared.script.UnOp.{UnOp}
use Rattle.vg_base.specs.declared.script.Script.{Script}
use Rattle.vg_base.specs.declared.script.Stmt as stmt
use Rattle.vg_base.specs.declared.script.Stmt.{Stmt, fold-roll-Stmt}
use Rattle.vg_base.specs.declared.script.Stmt.TheVariants as st
use Rattle.vg_base.specs.declared.script.Stmt.TheOpen.{Stmt-F}
use Rattle.script_reader.specs.declared.lexing.lexeme.Lexeme.{Lexeme}
use Rattle.script_reader.specs.Chains.{linked, linked_to, part, part_of}
use Rattle.script_reader.specs.Signs.{level}
use Rattle.script_reader.specs.Grammar.{Expression, Operand, Values, Members, operand, signed, binary, choice, round, empty_list, list, empty_record, record_of, dotted, indexed, no_value, value, no_member, member, out, name, empty, block, declared, defined, if_alone, if_else, assigned, plain, no_statement, Statement, Statements, statement_meant, statements_meant, FitsStatement, FitsStatements, Target, target_of, stepped, expression_meant, operand_meant, values_meant, members_meant, tightness, FitsExpression, FitsOperand, FitsValues, FitsMembers, SpellsScript}
use Rattle.script_reader.specs.Grammar as grammar
use Rattle.script_reader.specs.Depth.{largest, expr_level, key_level, expr_depth, key_depth, value_depth, stmt_level, stmt_depth, script_depth}

-- ---- one level

-- the operand has operands or expressions in it
abbrev holds_parts : Operand → Bool
holds_parts (round x) = true
holds_parts (list vs x) = true
holds_parts (record_of ms lexeme key is x) = true
holds_parts (dotted o w) = true
holds_parts (indexed o x) = true
holds_parts _ = false

links_mapped : (more : List (BinOp × Expr)) → map (λ (link : BinOp × ℕ). link.1) (map (λ (link : BinOp × Expr). (link.0, expr_depth link.1)) more) ≡ map (λ (link : BinOp × Expr). expr_depth link.1) more
links_mapped [] = refl
links_mapped (link ∷ more) = ap (λ (ns : List ℕ). expr_depth link.1 ∷ ns) (links_mapped more)

members_mapped : (members : List (List ℕ × Expr)) → map (λ (m : List ℕ × ℕ). m.1) (map (λ (m : List ℕ × Expr). (m.0, expr_depth m.1)) members) ≡ map (λ (m : List ℕ × Expr). expr_depth m.1) members
members_mapped [] = refl
members_mapped (m ∷ members) = ap (λ (ns : List ℕ). expr_depth m.1 ∷ ns) (members_mapped members)

chain_depth : (x : Expr) (more : List (BinOp × Expr)) → expr_depth (e.Chain x more) ≡ 1 + max (expr_depth x) (largest (map (λ (link : BinOp × Expr). expr_depth link.1) more))
unfolding expr.roll-Expr denote.Hole.Carrier.roll
chain_depth x more = ap expr_depth (e.rolls-Chain x more) ∙ fold-roll-Expr ℕ ℕ expr_level key_level (Expr-F.Chain x more) ∙ ap (λ (ns : List ℕ). 1 + max (expr_depth x) (largest ns)) (links_mapped more)

part_depth : (x : Expr) (path : List Key) → expr_depth (e.Part x path) ≡ 1 + max (expr_depth x) (largest (map key_depth path))
unfolding expr.roll-Expr denote.Hole.Carrier.roll
part_depth x path = fold-roll-Expr ℕ ℕ expr_level key_level (Expr-F.Part x path)

list_depth : (xs : List Expr) → expr_depth (e.List xs) ≡ 1 + largest (map expr_depth xs)
unfolding expr.roll-Expr denote.Hole.Carrier.roll
list_depth xs = fold-roll-Expr ℕ ℕ expr_level key_level (Expr-F.List xs)

record_depth : (ms : List (List ℕ × Expr)) → expr_depth (e.Record ms) ≡ 1 + largest (map (λ (m : List ℕ × Expr). expr_depth m.1) ms)
unfolding expr.roll-Expr denote.Hole.Carrier.roll
record_depth ms = ap expr_depth (e.rolls-Record ms) ∙ fold-roll-Expr ℕ ℕ expr_level key_level (Expr-F.Record ms) ∙ ap (λ (ns : List ℕ). 1 + largest ns) (members_mapped ms)

choose_depth : (x y z : Expr) → expr_depth (e.Choose x y z) ≡ 1 + max (expr_depth x) (max (expr_depth y) (expr_depth z))
unfolding expr.roll-Expr denote.Hole.Carrier.roll
choose_depth x y z = fold-roll-Expr ℕ ℕ expr_level key_level (Expr-F.Choose x y z)

unary_depth : (op : UnOp) (x : Expr) → expr_depth (e.Unary op x) ≡ 1 + expr_depth x
unfolding expr.roll-Expr denote.Hole.Carrier.roll
unary_depth op x = fold-roll-Expr ℕ ℕ expr_level key_level (Expr-F.Unary op x)

word_depth : (w : List ℕ) → key_depth (k.Word w) ≡ 0
unfolding key.roll-Key expr.roll-Expr denote.Hole.Carrier.roll
word_depth w = fold-roll-Key ℕ ℕ expr_level key_level (Key-F.Word w)

index_depth : (x : Expr) → key_depth (k.Index x) ≡ expr_depth x
unfolding key.roll-Key expr.roll-Expr denote.Hole.Carrier.roll
index_depth x = fold-roll-Key ℕ ℕ expr_level key_level (Key-F.Index x)

-- what an operand without parts means is one deep
leaf_depth : (o : Operand) → holds_parts o ≡ false → expr_depth (operand_meant o) ≡ 1
unfolding operand_meant expr.roll-Expr denote.Hole.Carrier.roll
leaf_depth (grammar.number n digits) h = fold-roll-Expr ℕ ℕ expr_level key_level (Expr-F.Number n)
leaf_depth (grammar.string text) h = fold-roll-Expr ℕ ℕ expr_level key_level (Expr-F.Str text)
leaf_depth (grammar.truth t) h = fold-roll-Expr ℕ ℕ expr_level key_level (Expr-F.Truth t)
leaf_depth grammar.null h = fold-roll-Expr ℕ ℕ expr_level key_level Expr-F.Null
leaf_depth out h = fold-roll-Expr ℕ ℕ expr_level key_level Expr-F.Out
leaf_depth (name w is) h = fold-roll-Expr ℕ ℕ expr_level key_level (Expr-F.Name w)
leaf_depth empty_list h = list_depth []
leaf_depth empty_record h = record_depth []
leaf_depth (grammar.rule w) h = fold-roll-Expr ℕ ℕ expr_level key_level (Expr-F.Rule w)
leaf_depth grammar.latest_rule h = fold-roll-Expr ℕ ℕ expr_level key_level Expr-F.LatestRule
leaf_depth (grammar.rule_text w) h = fold-roll-Expr ℕ ℕ expr_level key_level (Expr-F.RuleText w)
leaf_depth grammar.latest_text h = fold-roll-Expr ℕ ℕ expr_level key_level Expr-F.LatestText
leaf_depth grammar.current_text h = fold-roll-Expr ℕ ℕ expr_level key_level Expr-F.CurrentText
leaf_depth _ h = absurd (false≢true (sym h))

-- ---- the largest of numbers

largest-append : (ms ns : List ℕ) → largest (ms ++ ns) ≡ max (largest ms) (largest ns)
largest-append [] ns = omega arith
largest-append (m ∷ ms) ns = omega (arith, largest-append ms ns)

-- one more part, behind those that are there
largest_more : {A : Type 0} (f : A → ℕ) (xs : List A) (x : A) → largest (map f (xs ++ x ∷ [])) ≡ max (largest (map f xs)) (f x)
largest_more f [] x = omega arith
largest_more f (y ∷ ys) x = omega (arith, largest_more f ys x)

-- ---- chains

linked_is : (o : Expr-F Expr Key) (op : BinOp) (y : Expr) → linked (roll-Expr o) op y ≡ linked_to o (roll-Expr o) op y
linked_is o op y = ap (λ (z : Expr-F Expr Key). linked_to z (roll-Expr o) op y) (out-roll-Expr o)

-- one more operator behind a chain: no deeper than the chain, or than its operand and one
linked_on : (first : Expr) (more : List (BinOp × Expr)) (op : BinOp) (y : Expr) → expr_depth (linked (e.Chain first more) op y) ≤ max (expr_depth (e.Chain first more)) (1 + expr_depth y)
unfolding expr.roll-Expr denote.Hole.Carrier.roll
linked_on first more op y =
    let is : linked (e.Chain first more) op y ≡ e.Chain first (more ++ (op, y) ∷ []) =
    ap (λ (z : Expr). linked z op y) (e.rolls-Chain first more) ∙ linked_is (Expr-F.Chain first more) op y in
    omega (arith, ap expr_depth is, chain_depth first (more ++ (op, y) ∷ []), chain_depth first more, largest_more (λ (link : BinOp × Expr). expr_depth link.1) more (op, y))

-- what an operator makes of a value is a chain, at most one deeper than its parts
record Links (x : Expr) (op : BinOp) (y : Expr) : Type 0 where
  first : Expr
  more : List (BinOp × Expr)
  is : linked x op y ≡ e.Chain first more
  deep : expr_depth (linked x op y) ≤ 1 + max (expr_depth x) (expr_depth y)

one_link : (x : Expr) (op : BinOp) (y : Expr) → linked x op y ≡ e.Chain x ((op, y) ∷ []) → Links x op y
one_link x op y is = record {
  first = x;
  more = (op, y) ∷ [];
  is = is;
  deep = omega (arith, ap expr_depth is, chain_depth x ((op, y) ∷ []));
}

links_at : (o : Expr-F Expr Key) (op : BinOp) (y : Expr) → Links (roll-Expr o) op y
links_at (Expr-F.Chain first more) op y = record {
  first = first;
  more = more ++ (op, y) ∷ [];
  is = linked_is (Expr-F.Chain first more) op y;
  deep = omega (arith, ap (λ (z : Expr). expr_depth (linked z op y)) (e.rolls-Chain first more), ap expr_depth (e.rolls-Chain first more), linked_on first more op y);
}
links_at o op y = one_link (roll-Expr o) op y (linked_is o op y)

links : (x : Expr) (op : BinOp) (y : Expr) → Links x op y
links x op y = subst (λ (z : Expr). Links z op y) (roll-out-Expr x) (links_at (out-Expr x) op y)

-- ---- paths

part_is : (o : Expr-F Expr Key) (key : Key) → part (roll-Expr o) key ≡ part_of o (roll-Expr o) key
part_is o key = ap (λ (z : Expr-F Expr Key). part_of z (roll-Expr o) key) (out-roll-Expr o)

rolls_part : (inner : Expr) (path : List Key) → e.Part inner path ≡ roll-Expr (Expr-F.Part inner path)
unfolding expr.roll-Expr denote.Hole.Carrier.roll
rolls_part inner path = refl

-- one more step behind a path: no deeper than the path, or than its index and one
stepped_on : (inner : Expr) (path : List Key) (key : Key) → expr_depth (part (e.Part inner path) key) ≤ max (expr_depth (e.Part inner path)) (1 + key_depth key)
stepped_on inner path key =
    let is : part (e.Part inner path) key ≡ e.Part inner (path ++ key ∷ []) = ap (λ (z : Expr). part z key) (rolls_part inner path) ∙ part_is (Expr-F.Part inner path) key in
    omega (arith, ap expr_depth is, part_depth inner (path ++ key ∷ []), part_depth inner path, largest_more key_depth path key)

-- what a step makes of a value is a path, at most one deeper than its parts
record Steps (x : Expr) (key : Key) : Type 0 where
  inner : Expr
  path : List Key
  is : part x key ≡ e.Part inner path
  deep : expr_depth (part x key) ≤ 1 + max (expr_depth x) (key_depth key)

one_step : (x : Expr) (key : Key) → part x key ≡ e.Part x (key ∷ []) → Steps x key
one_step x key is = record {
  inner = x;
  path = key ∷ [];
  is = is;
  deep = omega (arith, ap expr_depth is, part_depth x (key ∷ []));
}

steps_at : (o : Expr-F Expr Key) (key : Key) → Steps (roll-Expr o) key
steps_at (Expr-F.Part inner path) key = record {
  inner = inner;
  path = path ++ key ∷ [];
  is = part_is (Expr-F.Part inner path) key;
  deep = omega (arith, ap (λ (z : Expr). expr_depth (part z key)) (rolls_part inner path), ap expr_depth (rolls_part inner path), stepped_on inner path key);
}
steps_at o key = one_step (roll-Expr o) key (part_is o key)

steps : (x : Expr) (key : Key) → Steps x key
steps x key = subst (λ (z : Expr). Steps z key) (roll-out-Expr x) (steps_at (out-Expr x) key)

-- ---- expressions

level_pos : (op : BinOp) → 1 ≤ level op
level_pos b.Or = omega arith
level_pos _ = omega arith

level_top : (op : BinOp) → level op ≤ 6
level_top b.Or = omega arith
level_top _ = omega arith

-- an operator's left operand, whose depth and tightness stay within n, and its right operand
left_depth : (x : Expression) (n : ℕ) (op : BinOp) (y : Expr) → expr_depth (expression_meant x) + tightness x ≤ n → level op ≤ tightness x → expr_depth y + suc (level op) ≤ n
    → expr_depth (linked (expression_meant x) op y) + level op ≤ n
unfolding expression_meant
left_depth (binary sign above is a c) n op y h le k =
    let chain = links (expression_meant a) above (expression_meant c) in
    omega (arith, h, le, k, ap (λ (z : Expr). expr_depth (linked z op y)) chain.is, ap expr_depth chain.is, linked_on chain.first chain.more op y)
left_depth (choice test a c) n op y h le k = absurd (omega (arith, le, level_pos op))
left_depth x n op y h le k = let one = links (expression_meant x) op y in omega (arith, h, k, one.deep, level_top op)

-- 1 where the operand ends in no step, which one more step may go behind
abbrev spare : Operand → ℕ
spare (dotted o w) = 0
spare (indexed o x) = 0
spare _ = 1

leaf : (o : Operand) (room : ℕ) → holds_parts o ≡ false → expr_depth (operand_meant o) + 1 ≤ 9 * room + 2
leaf o room h = omega (arith, leaf_depth o h)

-- an operand, whose depth and spare level stay within n, and one more step
part_within : (o : Operand) (n : ℕ) (key : Key) → expr_depth (operand_meant o) + spare o ≤ n → key_depth key + 1 ≤ n → expr_depth (part (operand_meant o) key) ≤ n
unfolding operand_meant
part_within (dotted o w) n key h j =
    let path = steps (operand_meant o) (k.Word w) in
    omega (arith, h, j, ap (λ (z : Expr). expr_depth (part z key)) path.is, ap expr_depth path.is, stepped_on path.inner path.path key)
part_within (indexed o x) n key h j =
    let path = steps (operand_meant o) (k.Index (expression_meant x)) in
    omega (arith, h, j, ap (λ (z : Expr). expr_depth (part z key)) path.is, ap expr_depth path.is, stepped_on path.inner path.path key)
part_within o n key h j = let one = steps (operand_meant o) key in omega (arith, h, j, one.deep)

mutual
  unfolding expression_meant operand_meant values_meant members_meant FitsExpression FitsOperand FitsValues FitsMembers

  expression_depth : (x : Expression) (room : ℕ) → FitsExpression room x → expr_depth (expression_meant x) + tightness x ≤ 9 * room + 9
  expression_depth (operand o) room fits = let bound : expr_depth (operand_meant o) + 7 ≤ 9 * room + 9 = omega (arith, operand_depth o room fits) in bound
  expression_depth (signed op x) room fits =
      let bound : expr_depth (e.Unary op (expression_meant x)) + 7 ≤ 9 * room + 9 = omega (arith, unary_depth op (expression_meant x), expression_depth x fits.1 fits.3, fits.0, fits.2) in bound
  expression_depth (binary sign op is x y) room fits =
      left_depth x (9 * room + 9) op (expression_meant y) (expression_depth x room fits.2) fits.0 (omega (arith, expression_depth y room fits.3, fits.1))
  expression_depth (choice test x y) room fits =
      let deep = choose_depth (expression_meant test) (expression_meant x) (expression_meant y) in
      let bound : expr_depth (e.Choose (expression_meant test) (expression_meant x) (expression_meant y)) + 0 ≤ 9 * room + 9 =
      omega (arith, deep, fits.0, expression_depth test room fits.1, fits.3, expression_depth x fits.2 fits.4, expression_depth y fits.2 fits.5) in
      bound

  operand_depth : (o : Operand) (room : ℕ) → FitsOperand room o → expr_depth (operand_meant o) + spare o ≤ 9 * room + 2
  operand_depth (round x) room fits = let bound : expr_depth (expression_meant x) + 1 ≤ 9 * room + 2 = omega (arith, fits.1, expression_depth x fits.0 fits.2) in bound
  operand_depth (list vs x) room fits =
      let items = values_meant vs ++ expression_meant x ∷ [] in
      let bound : expr_depth (e.List items) + 1 ≤ 9 * room + 2 =
      omega (arith, fits.1, list_depth items, largest_more expr_depth (values_meant vs) (expression_meant x), values_depth vs fits.0 fits.2, expression_depth x fits.0 fits.3) in
      bound
  operand_depth (record_of ms lexeme key is x) room fits =
      let members = members_meant ms ++ (key, expression_meant x) ∷ [] in
      let bound : expr_depth (e.Record members) + 1 ≤ 9 * room + 2 =
      omega (arith, fits.1, record_depth members, largest_more (λ (m : List ℕ × Expr). expr_depth m.1) (members_meant ms) (key, expression_meant x), members_depth ms fits.0 fits.2, expression_depth x fits.0 fits.3) in
      bound
  operand_depth (dotted o w) room fits =
      let bound : expr_depth (part (operand_meant o) (k.Word w)) + 0 ≤ 9 * room + 2 = omega (arith, part_within o (9 * room + 2) (k.Word w) (operand_depth o room fits) (omega (arith, word_depth w))) in bound
  operand_depth (indexed o x) room fits =
      let index = expression_depth x fits.1 fits.3 in
      let bound : expr_depth (part (operand_meant o) (k.Index (expression_meant x))) + 0 ≤ 9 * room + 2 =
      omega (arith, part_within o (9 * room + 2) (k.Index (expression_meant x)) (operand_depth o room fits.0) (omega (arith, fits.2, index, index_depth (expression_meant x)))) in
      bound
  operand_depth o room fits = leaf o room refl

  values_depth : (vs : Values) (room : ℕ) → FitsValues room vs → largest (map expr_depth (values_meant vs)) ≤ 9 * room + 9
  values_depth no_value room fits = let bound : 0 ≤ 9 * room + 9 = omega arith in bound
  values_depth (value vs x) room fits =
      let bound : largest (map expr_depth (values_meant vs ++ expression_meant x ∷ [])) ≤ 9 * room + 9 = omega (arith, largest_more expr_depth (values_meant vs) (expression_meant x), values_depth vs room fits.0, expression_depth x room fits.1) in
      bound

  members_depth : (ms : Members) (room : ℕ) → FitsMembers room ms → largest (map (λ (m : List ℕ × Expr). expr_depth m.1) (members_meant ms)) ≤ 9 * room + 9
  members_depth no_member room fits = let bound : 0 ≤ 9 * room + 9 = omega arith in bound
  members_depth (member ms lexeme key is x) room fits =
      let bound : largest (map (λ (m : List ℕ × Expr). expr_depth m.1) (members_meant ms ++ (key, expression_meant x) ∷ [])) ≤ 9 * room + 9 = omega (arith, largest_more (λ (m : List ℕ × Expr). expr_depth m.1) (members_meant ms) (key, expression_meant x), members_depth ms room fits.0, expression_depth x room fits.1) in
      bound

-- ---- statements

same : (s t : Target) → Some s ≡ Some t → s ≡ t
same s t e = cc

-- a step behind a target
behind : (found : Option Target) (key : Key) (target : Target) (n : ℕ) → stepped found key ≡ Some target → ((t : Target) → found ≡ Some t → largest (map key_depth t.1) ≤ n) → key_depth key ≤ n
    → largest (map key_depth target.1) ≤ n
behind None key target n is deep j = absurd (cc)
behind (Some t) key target n is deep j =
    let more : largest (map key_depth (t.1 ++ key ∷ [])) ≤ n = omega (arith, largest_more key_depth t.1 key, deep t refl, j) in
    subst (λ (u : Target). largest (map key_depth u.1) ≤ n) (same (t.0, t.1 ++ key ∷ []) target is) more

target_depth : (o : Operand) (room : ℕ) (target : Target) → FitsOperand room o → target_of o ≡ Some target → largest (map key_depth target.1) ≤ 9 * room
unfolding FitsOperand
target_depth out room target fits is = let end : largest (map key_depth []) ≤ 9 * room = omega arith in subst (λ (t : Target). largest (map key_depth t.1) ≤ 9 * room) (same (root.Out, []) target is) end
target_depth (name w h) room target fits is = let end : largest (map key_depth []) ≤ 9 * room = omega arith in subst (λ (t : Target). largest (map key_depth t.1) ≤ 9 * room) (same (root.Name w, []) target is) end
target_depth (dotted o w) room target fits is = behind (target_of o) (k.Word w) target (9 * room) is (λ t h. target_depth o room t fits h) (omega (arith, word_depth w))
target_depth (indexed o x) room target fits is =
    behind (target_of o) (k.Index (expression_meant x)) target (9 * room) is (λ t h. target_depth o room t fits.0 h) (let index = expression_depth x fits.1 fits.3 in omega (arith, fits.2, index, index_depth (expression_meant x)))
target_depth _ room target fits is = absurd (cc)

block_depth : (body : List Stmt) → stmt_depth (st.Block body) ≡ 1 + largest (map stmt_depth body)
unfolding stmt.roll-Stmt denote.Hole.Carrier.roll
block_depth body = fold-roll-Stmt ℕ stmt_level (Stmt-F.Block body)

if_depth : (test : Expr) (first : Stmt) → stmt_depth (st.If test first None) ≡ 1 + max (expr_depth test) (max (stmt_depth first) 0)
unfolding stmt.roll-Stmt denote.Hole.Carrier.roll
if_depth test first = fold-roll-Stmt ℕ stmt_level (Stmt-F.If test first None)

else_depth : (test : Expr) (first other : Stmt) → stmt_depth (st.If test first (Some other)) ≡ 1 + max (expr_depth test) (max (stmt_depth first) (stmt_depth other))
unfolding stmt.roll-Stmt denote.Hole.Carrier.roll
else_depth test first other = fold-roll-Stmt ℕ stmt_level (Stmt-F.If test first (Some other))

empty_depth : stmt_depth st.Empty ≡ 1
unfolding stmt.roll-Stmt denote.Hole.Carrier.roll
empty_depth = fold-roll-Stmt ℕ stmt_level Stmt-F.Empty

var_depth : (w : List ℕ) (x : Option Expr) → stmt_depth (st.Var w x) ≡ 1 + value_depth x
unfolding stmt.roll-Stmt denote.Hole.Carrier.roll
var_depth w x = fold-roll-Stmt ℕ stmt_level (Stmt-F.Var w x)

assign_depth : (target : Target) (op : AssignOp) (x : Expr) → stmt_depth (st.Assign target.0 target.1 op x) ≡ 1 + max (largest (map key_depth target.1)) (expr_depth x)
unfolding stmt.roll-Stmt denote.Hole.Carrier.roll
assign_depth target op x = fold-roll-Stmt ℕ stmt_level (Stmt-F.Assign target.0 target.1 op x)

plain_depth : (x : Expr) → stmt_depth (st.Plain x) ≡ 1 + expr_depth x
unfolding stmt.roll-Stmt denote.Hole.Carrier.roll
plain_depth x = fold-roll-Stmt ℕ stmt_level (Stmt-F.Plain x)

mutual
  unfolding statement_meant statements_meant FitsStatement FitsStatements

  statement_depth : (s : Statement) (room : ℕ) → FitsStatement room s → stmt_depth (statement_meant s) ≤ 9 * room + 10
  statement_depth empty room fits = let bound : stmt_depth st.Empty ≤ 9 * room + 10 = omega (arith, empty_depth) in bound
  statement_depth (block ss) room fits =
      let bound : stmt_depth (st.Block (statements_meant ss)) ≤ 9 * room + 10 = omega (arith, fits.1, block_depth (statements_meant ss), statements_depth ss fits.0 fits.2) in bound
  statement_depth (declared w is end) room fits = let bound : stmt_depth (st.Var w None) ≤ 9 * room + 10 = omega (arith, var_depth w None) in bound
  statement_depth (defined w is x end) room fits = let bound : stmt_depth (st.Var w (Some (expression_meant x))) ≤ 9 * room + 10 = omega (arith, var_depth w (Some (expression_meant x)), expression_depth x room fits) in bound
  statement_depth (if_alone test s) room fits =
      let bound : stmt_depth (st.If (expression_meant test) (statement_meant s) None) ≤ 9 * room + 10 =
      omega (arith, fits.1, if_depth (expression_meant test) (statement_meant s), expression_depth test fits.0 fits.2, statement_depth s fits.0 fits.3) in
      bound
  statement_depth (if_else test s t) room fits =
      let bound : stmt_depth (st.If (expression_meant test) (statement_meant s) (Some (statement_meant t))) ≤ 9 * room + 10 =
      omega (arith, fits.1, else_depth (expression_meant test) (statement_meant s) (statement_meant t), expression_depth test fits.0 fits.2, statement_depth s fits.0 fits.3, statement_depth t fits.0 fits.5) in
      bound
  statement_depth (assigned o target is op x end) room fits =
      let bound : stmt_depth (st.Assign target.0 target.1 op (expression_meant x)) ≤ 9 * room + 10 = omega (arith, assign_depth target op (expression_meant x), target_depth o room target fits.0 is, expression_depth x room fits.1) in
      bound
  statement_depth (plain x end) room fits = let bound : stmt_depth (st.Plain (expression_meant x)) ≤ 9 * room + 10 = omega (arith, plain_depth (expression_meant x), expression_depth x room fits.1) in bound

  statements_depth : (ss : Statements) (room : ℕ) → FitsStatements room ss → largest (map stmt_depth (statements_meant ss)) ≤ 9 * room + 10
  statements_depth no_statement room fits = let bound : 0 ≤ 9 * room + 10 = omega arith in bound
  statements_depth (grammar.more ss s) room fits =
      let bound : largest (map stmt_depth (statements_meant ss ++ statement_meant s ∷ [])) ≤ 9 * room + 10 =
      omega (arith, largest_more stmt_depth (statements_meant ss) (statement_meant s), statements_depth ss room fits.0, statement_depth s room fits.2) in
      bound

-- 64 levels are allowed
pub shallow : (lexemes : List Lexeme) (script : Script) → SpellsScript lexemes script → script_depth script < 600
shallow lexemes script h = omega (arith, ap script_depth h.meant, statements_depth h.tree 64 h.fits)
