-- How faults are counted.
use Rattle.std.specs.Prelude.{ℕ, ◌+◌, ◌-◌, ◌^◌, max, min, Bool, if◌then◌else◌}

-- a count one higher, up to the end of 64 bits, where it stands still: so it never falls
abbrev pub counted : ℕ → ℕ
counted n = max n (min (n + 1) (2 ^ 64 - 1))

-- a count of faults after a call, which rises exactly where the call met a fault
abbrev pub faults_after : Bool → ℕ → ℕ
faults_after is_fault before = if is_fault then counted before else before
