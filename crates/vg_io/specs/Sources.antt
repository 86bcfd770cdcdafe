-- What a source of bytes tells, and what a read of it does.
use Rattle.std.specs.Prelude.{◌≡◌, ℕ, ◌+◌, ◌≤◌, ◌↔◌, ◌⊎◌, List, [], Bool, IsTrue, IfSome, IfOk, Ok, is_err}
use Rattle.std.specs.declared.option.Option.{Option}
use Rattle.std.specs.declared.result.Result.{Result}
use Rattle.std.specs.Io.KnownBytes.{ReadConsumes}
use Rattle.vg_io.specs.declared.source.Failed.{Failed}
use Rattle.vg_io.specs.Faults.{faults_after}

-- The bytes that are left, where the source tells them; whether a read has answered the end of
-- input; how many reads have failed; and a count that rises by at most one at each read. A bound on
-- that count is a bound on reads, since a source may count them exactly.
pub record ToldSource : Type 0 where
  pub left : Option (List ℕ)
  pub ended : Bool
  pub faults : ℕ
  pub reads : ℕ

-- where bytes are told, the end of input is answered exactly where none are left
abbrev pub EndsWhereNoneAreLeft : Option (List ℕ) → Result ℕ Failed → Type 0
EndsWhereNoneAreLeft left result = IfSome left (λ bytes. IfOk result (λ n. (n ≡ 0) ↔ (bytes ≡ [])))

-- A read with this result, which left these bytes in its buffer.
pub record ReadsBytes (old new : ToldSource) (result : Result ℕ Failed)
    (buf : List ℕ) : Type 0 where
  -- the front of what was left was given, and nothing at a failure
  pub bytes : ReadConsumes old.left new.left result buf
  pub end : EndsWhereNoneAreLeft old.left result
  pub ended : IsTrue new.ended ↔ (IsTrue old.ended ⊎ (result ≡ Ok 0))
  pub faults : new.faults ≡ faults_after (is_err result) old.faults
  pub reads : new.reads ≤ old.reads + 1
