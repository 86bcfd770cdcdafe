-- What is known of an operator's result.
use Rattle.std.specs.Prelude.{Bool, true, false}
use Rattle.tag_script.specs.declared.operator.Operator.{Operator}
use Rattle.tag_script.specs.declared.operator.Operator.TheVariants as way

-- `||` and `&&`, which give a value that was tested
abbrev pub is_lazy : Operator → Bool
is_lazy way.Or = true
is_lazy way.And = true
is_lazy other = false
