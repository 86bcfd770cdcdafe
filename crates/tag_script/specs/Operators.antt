-- The operators of scripts, over plain values. Numbers are whole.
use Rattle.std.specs.Prelude.{ℕ, nat_le, ℤ, pos, ◌+ℤ◌, ◌-ℤ◌, ◌*ℤ◌, neg_ℤ, unsigned_abs, int_div, int_rem, Bool, true, false, not, ◌||◌, if◌then◌else◌, List, ◌++◌, Option, Some, None, Ok, Err, codes}
use Rattle.std.specs.Cmp.Lexicographic.{slice_cmp}
use Rattle.std.specs.Ordering.{nat_cmp, int_cmp, int_eq, is_lt, is_le, is_gt, is_ge}
use Rattle.std.specs.declared.cmp.Ordering.{Ordering}
use Rattle.std.specs.Fmt.{signed_decimal}
use Rattle.vg_base.specs.declared.script.BinOp.{BinOp}
use Rattle.vg_base.specs.declared.script.BinOp.TheVariants as op
use Rattle.vg_base.specs.declared.script.UnOp.{UnOp}
use Rattle.vg_base.specs.declared.script.UnOp.TheVariants as sign
use Rattle.script_value.specs.declared.value.Value.{Value, out-Value}
use Rattle.script_value.specs.declared.value.Value.TheVariants as v
use Rattle.script_value.specs.declared.value.Value.TheOpen.{Value-F}
use Rattle.script_value.specs.Truth.{same, is_true}
use Rattle.vg_base.specs.Limits.{script_number}
use Rattle.tag_script.specs.declared.operator.Strict.{Strict}
use Rattle.tag_script.specs.declared.operator.Strict.TheVariants as both
use Rattle.tag_script.specs.declared.operator.Operator.{Operator}
use Rattle.tag_script.specs.declared.operator.Operator.TheVariants as way
use Rattle.tag_script.specs.declared.tag_kind.TagKind.TheVariants as tag
use Rattle.tag_script.specs.Outcomes.{Outcome, and_then, or_fault, tested}

-- a value with its outermost kind in view
abbrev pub Opened : Type 0
Opened = Value-F Value

-- from -(2^53 - 1) to 2^53 - 1
abbrev pub is_script_number : ℤ → Bool
is_script_number n = nat_le (unsigned_abs n) script_number

abbrev pub number : ℤ → Outcome Value
number n = if is_script_number n then Ok (v.Number n) else Err tag.Range

abbrev pub truth : Bool → Outcome Value
truth b = Ok (v.Truth b)

-- the text that `+` joins to another; lists and records have none
abbrev pub text_of : Opened → Option (List ℕ)
text_of Value-F.Null = Some (codes "null")
text_of (Value-F.Truth true) = Some (codes "true")
text_of (Value-F.Truth false) = Some (codes "false")
text_of (Value-F.Number n) = Some (signed_decimal n)
text_of (Value-F.Str s) = Some s
text_of (Value-F.List items) = None
text_of (Value-F.Record members) = None

abbrev pub is_string : Opened → Bool
is_string (Value-F.Str s) = true
is_string _ = false

abbrev pub joined : Option (List ℕ) → Option (List ℕ) → Outcome Value
joined (Some s) (Some t) = tested (v.Str (s ++ t))
joined (Some s) None = Err tag.Kind
joined None t = Err tag.Kind

-- two numbers, or texts where one of the two is a string
abbrev pub sum : Opened → Opened → Outcome Value
sum (Value-F.Number a) (Value-F.Number b) = number (a +ℤ b)
sum x y = if is_string x || is_string y then joined (text_of x) (text_of y) else Err tag.Kind

abbrev pub numbers : Opened → Opened → Option (ℤ × ℤ)
numbers (Value-F.Number a) (Value-F.Number b) = Some (a, b)
numbers x y = None

-- an operator of two numbers
abbrev pub of_numbers : (ℤ → ℤ → Outcome Value) → Opened → Opened → Outcome Value
of_numbers f x y = and_then (or_fault tag.Kind (numbers x y)) (λ both. f both.0 both.1)

-- the quotient, which must be whole
abbrev pub quotient : ℤ → ℤ → Outcome Value
quotient a b = if int_eq b (pos 0) then Err tag.Fraction else (if int_eq (int_rem a b) (pos 0) then number (int_div a b) else Err tag.Fraction)

-- the remainder, with the sign of the dividend
abbrev pub remainder : ℤ → ℤ → Outcome Value
remainder a b = if int_eq b (pos 0) then Err tag.Fraction else number (int_rem a b)

-- two numbers, or two strings by their characters
abbrev pub order_of : Opened → Opened → Option Ordering
order_of (Value-F.Number a) (Value-F.Number b) = Some (int_cmp a b)
order_of (Value-F.Str s) (Value-F.Str t) = Some (slice_cmp nat_cmp s t)
order_of x y = None

abbrev pub compared : (Ordering → Bool) → Opened → Opened → Outcome Value
compared holds x y = and_then (or_fault tag.Kind (order_of x y)) (λ order. truth (holds order))

-- an operator whose operands are both evaluated, but `+`
abbrev pub strict : Strict → Value → Value → Outcome Value
strict both.Sub x y = of_numbers (λ a b. number (a -ℤ b)) (out-Value x) (out-Value y)
strict both.Mul x y = of_numbers (λ a b. number (a *ℤ b)) (out-Value x) (out-Value y)
strict both.Div x y = of_numbers quotient (out-Value x) (out-Value y)
strict both.Rem x y = of_numbers remainder (out-Value x) (out-Value y)
strict both.Lt x y = compared is_lt (out-Value x) (out-Value y)
strict both.Le x y = compared is_le (out-Value x) (out-Value y)
strict both.Gt x y = compared is_gt (out-Value x) (out-Value y)
strict both.Ge x y = compared is_ge (out-Value x) (out-Value y)
strict both.Eq x y = and_then (or_fault tag.Kind (same x y)) truth
strict both.Ne x y = and_then (or_fault tag.Kind (same x y)) (λ b. truth (not b))

abbrev pub operator_of : BinOp → Operator
operator_of op.Or = way.Or
operator_of op.And = way.And
operator_of op.Add = way.Add
operator_of op.Eq = way.Strict both.Eq
operator_of op.Ne = way.Strict both.Ne
operator_of op.Lt = way.Strict both.Lt
operator_of op.Le = way.Strict both.Le
operator_of op.Gt = way.Strict both.Gt
operator_of op.Ge = way.Strict both.Ge
operator_of op.Sub = way.Strict both.Sub
operator_of op.Mul = way.Strict both.Mul
operator_of op.Div = way.Strict both.Div
operator_of op.Rem = way.Strict both.Rem

-- after the left operand: `||` and `&&` evaluate the right one only where they need it
abbrev pub after_left : Operator → Value → Outcome Value → Outcome Value
after_left way.Or x right = if is_true x then tested x else and_then right tested
after_left way.And x right = if is_true x then and_then right tested else tested x
after_left way.Add x right = and_then right (λ y. sum (out-Value x) (out-Value y))
after_left (way.Strict operator) x right = and_then right (strict operator x)

abbrev pub number_of : Opened → Option ℤ
number_of (Value-F.Number n) = Some n
number_of x = None

abbrev pub unary : UnOp → Value → Outcome Value
unary sign.Neg x = and_then (or_fault tag.Kind (number_of (out-Value x))) (λ n. number (neg_ℤ n))
unary sign.Plus x = and_then (or_fault tag.Kind (number_of (out-Value x))) number
unary sign.Not x = truth (not (is_true x))
