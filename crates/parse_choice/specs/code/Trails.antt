-- What a walk chose, and where the next one turns off.
use Rattle.std.specs.Prelude.{ℕ, ◌≡◌, ◌≤◌, ◌<◌, ◌⊎◌, ◌↔◌, Bool, true, false, IsTrue, List, [], ◌∷◌, ◌++◌, Option, Some, None, length, take, slice_get}
use Rattle.grammar_tree.proofs.Orders.{Differs}
use Rattle.parse_choice.specs.declared.guide.Trail.{Trail}
use Rattle.parse_choice.specs.declared.guide.Fork.{Fork}
use Rattle.parse_choice.specs.declared.accepted.Turns.{Turns}
use Rattle.parse_choice.specs.code.Ways.{ends_of}
use Rattle.earley_chart.specs.Places.{Has}
use Rattle.grammar_tree.specs.Choices.{is_open}

abbrev pub or_zero : Option ℕ → ℕ
or_zero None = 0
or_zero (Some choice) = choice

-- what the guide asks of the next choice
abbrev pub bound_of : List ℕ → Trail → ℕ
bound_of guide t = or_zero (slice_get guide (length t.log))

-- a fork here, where there is a greater choice
abbrev pub fork_at : ℕ → Option ℕ → Option Fork → Option Fork
fork_at at None fork = fork
fork_at at (Some choice) fork = Some (record { at = at; choice = choice })

-- the trail after a choice
abbrev pub took : Trail → ℕ → Option ℕ → Trail
took t choice greater = record { log = t.log ++ choice ∷ []; fork = fork_at (length t.log) greater t.fork }

abbrev pub one_if : Bool → Option ℕ
one_if true = Some 1
one_if false = None

-- the first of two choices is taken
pub record TakesFirst (guide : List ℕ) (first second : Bool) (old now : Trail) : Type 0 where
  pub allowed : bound_of guide old ≡ 0
  pub possible : IsTrue first
  pub taken : now ≡ took old 0 (one_if second)

-- the second of two choices is taken, since the first may not or can't be
pub record TakesSecond (guide : List ℕ) (first : Bool) (old now : Trail) : Type 0 where
  pub barred : bound_of guide old ≡ 0 → IsTrue first → ⊥
  pub taken : now ≡ took old 1 None

-- a guide, and a trail before and after a choice
pub record Decision : Type 0 where
  pub guide : List ℕ
  pub old : Trail
  pub now : Trail

-- whether there is another turn, which may be possible: a choice, where there is one, else up to the least
pub record IsDecided (t : Turns) (place : ℕ) (possible : Bool) (d : Decision) (another : Bool) : Type 0 where
  pub more : is_open t.repeat.least t.repeat.most t.made ≡ true → IsTrue another → (second : Bool) × (IsTrue second ↔ Has (ends_of t.ways) place) × TakesFirst d.guide possible second d.old d.now
  pub none : is_open t.repeat.least t.repeat.most t.made ≡ true → (IsTrue another → ⊥) → TakesSecond d.guide possible d.old d.now
  pub same : is_open t.repeat.least t.repeat.most t.made ≡ false → d.now ≡ d.old
  pub counts : is_open t.repeat.least t.repeat.most t.made ≡ false → IsTrue another ↔ (t.made < t.repeat.least)

abbrev pub IsWithin : List ℕ → Option Fork → Type 0
IsWithin log None = Unit {0}
IsWithin log (Some fork) = fork.at < length log

-- the fork stands before one of the choices
abbrev pub ForkWithin : Trail → Type 0
ForkWithin t = IsWithin t.log t.fork

abbrev pub turned : List ℕ → Option Fork → Option (List ℕ)
turned log None = None
turned log (Some fork) = Some (take fork.at log ++ fork.choice ∷ [])

-- the choices up to the fork, and the greater one there
abbrev pub guide_after : Trail → Option (List ℕ)
guide_after t = turned t.log t.fork

-- ---- what a trail says of all choices

-- the second list goes on from the first
abbrev pub IsPrefix : List ℕ → List ℕ → Type 0
IsPrefix xs ys = (more : List ℕ) × (ys ≡ xs ++ more)

-- the second list goes on from the first, or is greater at a place
abbrev pub IsFrom : List ℕ → List ℕ → Type 0
IsFrom xs ys = IsPrefix xs ys ⊎ Differs xs ys

-- lists that are greater at a place of the choices so far are from the fork on
abbrev pub IsFromFork : Option (List ℕ) → List ℕ → Type 0
IsFromFork None ys = ⊥
IsFromFork (Some xs) ys = IsFrom xs ys

abbrev pub IsBehind : List ℕ → Option (List ℕ) → Type 0
IsBehind log None = Unit {0}
IsBehind log (Some xs) = Differs log xs

-- some list of the set goes on from the fork
abbrev pub HasFork : (List ℕ → Type 0) → Option (List ℕ) → Type 0
HasFork S None = Unit {0}
HasFork S (Some xs) = (more : List ℕ) × S (xs ++ more)

-- the choices so far, among those of a set of lists
pub record Stands (S : List ℕ → Type 0) (guide : List ℕ) (t : Trail) : Type 0 where
  -- the set has a list that goes on from the guide and from the choices so far
  pub possible : (ys : List ℕ) × S ys × IsPrefix guide ys × IsPrefix t.log ys
  -- each list that goes on from the guide goes on from the choices so far, or is greater
  pub least : (ys : List ℕ) → S ys → IsPrefix guide ys → IsFrom t.log ys
  -- each list that is greater at a place of the choices so far is from the fork on
  pub greater : (ys : List ℕ) → S ys → Differs t.log ys → IsFromFork (guide_after t) ys
  pub fork : HasFork S (guide_after t)
  pub behind : IsBehind t.log (guide_after t)
  pub within : ForkWithin t

-- the next choice of a set of lists: the least from a bound on, and the next greater one
pub record Picks (Q : List ℕ → Type 0) (bound choice : ℕ) (greater : Option ℕ) : Type 0 where
  pub each : (ys : List ℕ) → Q ys → (y : ℕ) × (more : List ℕ) × (ys ≡ y ∷ more) × (bound ≤ y → choice ≤ y) × (choice < y → (next : ℕ) × (greater ≡ Some next) × (next ≤ y))
  pub taken : (more : List ℕ) × Q (choice ∷ more)
  pub bounded : bound ≤ choice
  pub next : (next : ℕ) → greater ≡ Some next → (choice < next) × ((more : List ℕ) × Q (next ∷ more))
