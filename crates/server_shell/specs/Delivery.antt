-- What becomes of replies.
use Rattle.std.specs.Prelude.{◌≡◌, ℕ, ◌+◌, ◌-◌, ◌^◌, ◌<◌, ◌≤◌, min, List, [], ◌++◌, length, Ok, Err}
use Rattle.std.specs.declared.option.Option.{Option}
use Rattle.std.specs.List.{flat_map}
use Rattle.std.specs.Io.KnownBytes.{Appends}
use Rattle.std.specs.declared.result.Result.{Result}
use Rattle.vg_base.specs.declared.refused.Refused.{Refused}
use Rattle.vg_base.specs.declared.refused.Refused.TheVariants as refused
use Rattle.vg_io.specs.declared.source.Failed.{Failed}
use Rattle.vg_io.specs.Faults.{counted}
use Rattle.vg_io.specs.Sinks.{ToldSink}

-- O is where replies of type R go.
pub record Delivery (O R : Type 0) : Type 1 where
  -- between these two moments these replies were taken, and no others
  pub takes : (old new : O) → List R → Type 0
  -- a front of them was, the last perhaps in part
  pub begins : (old new : O) → List R → Type 0
  -- all that was taken is shown
  pub shows : O → Type 0
  -- how many calls have failed
  pub faults : O → ℕ

-- what holds of every delivery
pub record IsLawful {O R : Type 0} (delivery : Delivery O R) : Type 0 where
  pub nothing : (a : O) → delivery.takes a a []
  pub more : (a b c : O) (xs ys : List R) → delivery.takes a b xs × delivery.takes b c ys
      → delivery.takes a c (xs ++ ys)
  pub none : (a : O) (xs : List R) → delivery.begins a a xs
  pub part : (a b c : O) (xs ys : List R) → delivery.takes a b xs × delivery.begins b c ys
      → delivery.begins a c (xs ++ ys)

-- the count of faults after a call with this result; want of memory is no fault
abbrev pub faults_of : {A : Type 0} → Result A (Refused Failed) → ℕ → ℕ
faults_of (Ok x) before = before
faults_of (Err (refused.Fault fault)) before = counted before
faults_of (Err refused.Memory) before = before

-- a front of the text was written
abbrev pub WritesFront : Option (List ℕ) → Option (List ℕ) → List ℕ → Type 0
WritesFront old new text =
    (got unwritten : List ℕ) × (text ≡ got ++ unwritten) × Appends old new got

-- Their lines are written to a sink, one after another.
abbrev pub printed : {O R : Type 0} → (O → ToldSink) → (R → List ℕ) → Delivery O R
printed told line_of = record {
  takes = λ old new replies.
      Appends (told old).written (told new).written (flat_map line_of replies);
  begins = λ old new replies.
      WritesFront (told old).written (told new).written (flat_map line_of replies);
  shows = λ sink. (told sink).shown ≡ (told sink).written;
  faults = λ sink. (told sink).faults;
}

-- n more were counted in 64 bits, at whose end the count stands still
abbrev pub CountsMore : (old new n : ℕ) → Type 0
CountsMore old new n = old < 2 ^ 64 → new ≡ min (old + n) (2 ^ 64 - 1)

-- They are counted.
abbrev pub counted_replies : {R : Type 0} → Delivery ℕ R
counted_replies = record {
  takes = λ old new replies. CountsMore old new (length replies);
  begins = λ old new replies. (n : ℕ) × (n ≤ length replies) × CountsMore old new n;
  shows = λ count. Unit {0};
  faults = λ count. 0;
}
