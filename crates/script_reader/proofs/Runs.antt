-- Several lexemes of a script, one after another.
use Rattle.std.proofs.Common.{◌≡◌, ℕ, Bool, true, false, List, [], ◌∷◌, ◌++◌, Option, Some, None, refl, sym, ap, ◌∙◌}
use Rattle.vg_base.specs.declared.script.Stmt.{Stmt}
use Rattle.vg_base.specs.declared.script.AssignOp.{AssignOp}
use Rattle.script_reader.specs.declared.lexing.lexeme.Sign.{Sign}
use Rattle.script_reader.specs.declared.lexing.lexeme.Sign.TheVariants as g
use Rattle.script_reader.specs.declared.lexing.lexeme.Lexeme.{Lexeme}
use Rattle.script_reader.specs.declared.lexing.lexeme.Lexeme.TheVariants as l
use Rattle.script_reader.specs.declared.machine.stack.Now.{Now}
use Rattle.script_reader.specs.declared.machine.stack.Now.TheVariants as n
use Rattle.script_reader.specs.declared.machine.stack.Open.{Open}
use Rattle.script_reader.specs.declared.machine.stack.Inside.{Inside}
use Rattle.script_reader.specs.declared.machine.stack.Turn.{Turn}
use Rattle.script_reader.specs.declared.machine.stack.Turn.TheVariants as t
use Rattle.script_reader.specs.declared.machine.stack.Purpose.{Purpose}
use Rattle.script_reader.specs.declared.machine.stack.Outer.{Outer}
use Rattle.script_reader.specs.declared.machine.stack.State.{State}
use Rattle.script_reader.specs.code.Expressions.{start_sign, on_start, view_sign, on_view, on_list, on_members, on_keyed, on_dot, past_dot, past_close, on_rule, on_meta, on_source, on_text, turn, turn_at}
use Rattle.script_reader.specs.code.Statements.{with_value, on_turn, on_value, assignment, assigned, closer_of, step, go_on, run}
use Rattle.script_reader.proofs.Turns.{on_to, turns}

go_on_twice : (o : Option State) (f g : State → Option State) → go_on f (go_on g o) ≡ go_on (λ t. go_on f (g t)) o
go_on_twice None f g = refl
go_on_twice (Some t) f g = refl

go_on_same : (o : Option State) (f g : State → Option State) → ((t : State) → f t ≡ g t) → go_on f o ≡ go_on g o
go_on_same None f g h = refl
go_on_same (Some t) f g h = h t

pub run-append : (s : State) (xs ys : List Lexeme) → run s (xs ++ ys) ≡ go_on (λ t. run t ys) (run s xs)
unfolding run
run-append s [] ys = refl
run-append s (x ∷ xs) ys =
    go_on_same (step s x) (λ t. run t (xs ++ ys)) (λ t. go_on (λ u. run u ys) (run t xs)) (λ t. run-append t xs ys) ∙ sym (go_on_twice (step s x) (λ u. run u ys) (λ t. run t xs))

pub run-then : (s t m : State) (xs ys : List Lexeme) → run s xs ≡ Some t → run t ys ≡ Some m → run s (xs ++ ys) ≡ Some m
run-then s t m xs ys h k = run-append s xs ys ∙ ap (go_on (λ u. run u ys)) h ∙ k

pub run-more : (s t m : State) (x : Lexeme) (xs : List Lexeme) → step s x ≡ Some t → run t xs ≡ Some m → run s (x ∷ xs) ≡ Some m
unfolding run
run-more s t m x xs h k = ap (go_on (λ u. run u xs)) h ∙ k

pub run-none : (s : State) → run s [] ≡ Some s
unfolding run
run-none s = refl

pub run-one : (s t : State) (x : Lexeme) → step s x ≡ Some t → run s (x ∷ []) ≡ Some t
run-one s t x h = run-more s t t x [] h (run-none t)

-- ---- the lexemes of an expression

sets : Sign → Bool
sets g.Set = true
sets g.AddTo = true
sets g.TakeFrom = true
sets _ = false

unfit_set : (frames : List Open) (room : ℕ) (now : Now) → turn_at frames room now (l.Sign g.Set) ≡ t.Unfit
unfolding start_sign on_start view_sign on_view on_list on_members on_keyed on_dot past_dot past_close on_rule on_meta on_source on_text
unfit_set frames room (n.Start first) = refl
unfit_set frames room _ = refl

unfit_add : (frames : List Open) (room : ℕ) (now : Now) → turn_at frames room now (l.Sign g.AddTo) ≡ t.Unfit
unfolding start_sign on_start view_sign on_view on_list on_members on_keyed on_dot past_dot past_close on_rule on_meta on_source on_text
unfit_add frames room (n.Start first) = refl
unfit_add frames room _ = refl

unfit_take : (frames : List Open) (room : ℕ) (now : Now) → turn_at frames room now (l.Sign g.TakeFrom) ≡ t.Unfit
unfolding start_sign on_start view_sign on_view on_list on_members on_keyed on_dot past_dot past_close on_rule on_meta on_source on_text
unfit_take frames room (n.Start first) = refl
unfit_take frames room _ = refl

unfit_is_not : (o : Turn) (j : Inside) → o ≡ t.Unfit → o ≡ t.On j → ⊥
unfit_is_not o j h k = cc

no_sign : (i j : Inside) (sign : Sign) → turn i (l.Sign sign) ≡ t.On j → assignment (l.Sign sign) ≡ None
unfolding turn
no_sign i j g.Set h = absurd (unfit_is_not _ j (unfit_set i.frames i.room i.now) h)
no_sign i j g.AddTo h = absurd (unfit_is_not _ j (unfit_add i.frames i.room i.now) h)
no_sign i j g.TakeFrom h = absurd (unfit_is_not _ j (unfit_take i.frames i.room i.now) h)
no_sign i j _ h = refl

-- what goes on an expression assigns nothing
pub no_assignment : (i j : Inside) (x : Lexeme) → turn i x ≡ t.On j → assignment x ≡ None
no_assignment i j (l.Sign sign) h = no_sign i j sign h
no_assignment i j _ h = refl

abbrev valued_if : List Stmt → List Outer → ℕ → Purpose → Inside → Lexeme → Option AssignOp → Option State
valued_if body outer room purpose i x o = elim o [
  | Some op ↦ assigned body outer room purpose i op
  | None ↦ on_turn body outer room purpose (turn i x) (closer_of x)
]

pub step_value : (body : List Stmt) (outer : List Outer) (room : ℕ) (purpose : Purpose) (i j : Inside) (x : Lexeme) → turn i x ≡ t.On j
    → step (with_value body outer room purpose i) x ≡ Some (with_value body outer room purpose j)
unfolding step on_value
step_value body outer room purpose i j x h =
    ap (valued_if body outer room purpose i x) (no_assignment i j x h) ∙ ap (λ (o : Turn). on_turn body outer room purpose o (closer_of x)) h

some_apart : (j : Inside) → None ≡ Some j → ⊥
some_apart j h = cc

run_turn : (body : List Stmt) (outer : List Outer) (room : ℕ) (purpose : Purpose) (i m : Inside) (x : Lexeme) (xs : List Lexeme) (o : Turn) → turn i x ≡ o
    → ((j : Inside) → turns j xs ≡ Some m → run (with_value body outer room purpose j) xs ≡ Some (with_value body outer room purpose m))
    → on_to (λ j. turns j xs) o ≡ Some m → run (with_value body outer room purpose i) (x ∷ xs) ≡ Some (with_value body outer room purpose m)
run_turn body outer room purpose i m x xs (t.On j) e k h = run-more _ (with_value body outer room purpose j) _ x xs (step_value body outer room purpose i j x e) (k j h)
run_turn body outer room purpose i m x xs (t.Ended v) e k h = absurd (some_apart m h)
run_turn body outer room purpose i m x xs t.Unfit e k h = absurd (some_apart m h)

some_is : {A : Type 0} (x y : A) → Some x ≡ Some y → x ≡ y
some_is x y h = cc

-- the statement goes on as its expression does
pub run_turns : (body : List Stmt) (outer : List Outer) (room : ℕ) (purpose : Purpose) (xs : List Lexeme) (i m : Inside) → turns i xs ≡ Some m
    → run (with_value body outer room purpose i) xs ≡ Some (with_value body outer room purpose m)
unfolding turns run
run_turns body outer room purpose [] i m h = ap (λ (j : Inside). Some (with_value body outer room purpose j)) (some_is i m h)
run_turns body outer room purpose (x ∷ xs) i m h = run_turn body outer room purpose i m x xs (turn i x) refl (λ j q. run_turns body outer room purpose xs j m q) h
