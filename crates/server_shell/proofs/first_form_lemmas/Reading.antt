-- From the clauses of `Value::from_slice` to the value of a line.
use Rattle.std.proofs.Common.{◌≡◌, ℕ, List, Bool, true, false, if◌then◌else◌, Option, Some, None, IsUtf8, refl}
use Rattle.std.proofs.lemmas.Str.{IsUtf8-from_is_utf8, is_utf8-from_IsUtf8}
use Rattle.std.specs.Str.{is_utf8}
use Rattle.serde_json.specs.Data.{Data}
use Rattle.serde_json.specs.Read.{read}
use Rattle.server_shell.specs.first_form.Commands.{value_of}

pub value_of-read : (line : List ℕ) (d : Data) → IsUtf8 line → read line ≡ Some d
    → value_of line ≡ Some d
value_of-read line d utf8 e = rw (is_utf8-from_IsUtf8 line utf8) e

none_by : (b : Bool) (o : Option Data) → (b ≡ true → o ≡ None) → (if b then o else None) ≡ None
none_by true o h = h refl
none_by false o h = refl

pub value_of-none : (line : List ℕ) → (IsUtf8 line → read line ≡ None) → value_of line ≡ None
value_of-none line h = none_by (is_utf8 line) (read line) (λ e. h (IsUtf8-from_is_utf8 line e))
