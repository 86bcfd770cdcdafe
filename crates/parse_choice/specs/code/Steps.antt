-- What each step of a walk does to what is planned, to the place, the trees and the trail.
use Rattle.std.specs.Prelude.{ℕ, ◌≡◌, ◌≤◌, ◌<◌, ◌+◌, ◌↔◌, Bool, true, false, IsTrue, List, [], ◌∷◌, ◌++◌, Option, Some, MatchOption, take, length, slice_get}
use Rattle.vg_base.specs.declared.numbers.NodeIx.{NodeIx}
use Rattle.grammar_tree.specs.declared.parse_tree.ParseTree.{ParseTree}
use Rattle.grammar_tree.specs.Choices.{is_open}
use Rattle.earley_chart.specs.declared.places.Places.{Places}
use Rattle.earley_chart.specs.Places.{Has}
use Rattle.earley_chart.specs.Chart.{Table}
use Rattle.parse_choice.specs.declared.accepted.Repeat.{Repeat}
use Rattle.parse_choice.specs.declared.accepted.Turns.{Turns}
use Rattle.parse_choice.specs.declared.guide.Trail.{Trail}
use Rattle.parse_choice.specs.declared.plan.Close.{Close}
use Rattle.parse_choice.specs.declared.plan.Close.TheVariants as close
use Rattle.parse_choice.specs.declared.plan.Job.{Job}
use Rattle.parse_choice.specs.declared.plan.Job.TheVariants as job
use Rattle.parse_choice.specs.declared.walk.Ground.{Ground}
use Rattle.parse_choice.specs.declared.walk.Walk.{Walk}
use Rattle.parse_choice.specs.declared.walk.Walked.{Walked}
use Rattle.parse_choice.specs.code.Ways.{EndsIn, IsBefore, AreWays, AreOnward, ends_of, next_of}
use Rattle.parse_choice.specs.code.Trails.{bound_of, took, TakesFirst, TakesSecond}
use Rattle.parse_choice.specs.code.Plans.{closed}
use Rattle.parse_choice.specs.code.Walks.{State}

-- these jobs are planned before all others
abbrev pub planned : List Job → State → State
planned xs s = record { plan = xs ++ s.plan; here = s.here; trail = s.trail }

-- a tree more, so many words on
abbrev pub moved : ℕ → ParseTree → State → State
moved words t s = record { plan = s.plan; here = record { place = s.here.place + words; trees = s.here.trees ++ t ∷ [] }; trail = s.trail }

-- trees are put together
abbrev pub shut : Close → State → State
shut c s = record { plan = s.plan; here = record { place = s.here.place; trees = closed c s.here.trees }; trail = s.trail }

-- only so many trees are left
abbrev pub kept : ℕ → State → State
kept from s = record { plan = s.plan; here = record { place = s.here.place; trees = take from s.here.trees }; trail = s.trail }

-- a choice is taken, and these jobs are planned
abbrev pub chose : Trail → List Job → State → State
chose trail xs s = record { plan = xs ++ s.plan; here = s.here; trail = trail }

-- a job for each part, the last up to these places, each other one up to those from which the next ones can be completed
abbrev pub AreLined : Table → List NodeIx → Places → List Job → Places → Type 0
AreLined c [] ends xs first = (xs ≡ []) × (first ≡ ends)
AreLined c (p ∷ ps) ends xs first =
    (middle : Places) × (more : List Job) × (xs ≡ job.Node p middle ∷ more) × AreLined c ps ends more middle × IsBefore c p middle false first

pub record Sequenced (c : Table) (ps : List NodeIx) (ends : Places) (old now : State) : Type 0 where
  pub jobs : List Job
  pub first : Places
  pub lined : AreLined c ps ends jobs first
  pub state : now ≡ planned jobs (planned (job.Close (close.Seq (length old.here.trees)) ∷ []) old)

-- the part of this number ends at one of these places
abbrev pub IsPossible : Table → List NodeIx → Places → ℕ → ℕ → Type 0
IsPossible c ps ends i k = (p : NodeIx) × (slice_get ps k ≡ Some p) × EndsIn c p ends false i

abbrev pub NoneFrom : Table → List NodeIx → Places → ℕ → ℕ → Type 0
NoneFrom c ps ends i from = (k : ℕ) → from ≤ k → IsPossible c ps ends i k → ⊥

-- the first part from so many on that ends at one of these places
pub record IsNext (c : Table) (ps : List NodeIx) (ends : Places) (i from k : ℕ) : Type 0 where
  pub bounded : from ≤ k
  pub possible : IsPossible c ps ends i k
  pub first : (j : ℕ) → from ≤ j → j < k → IsPossible c ps ends i j → ⊥

pub record Taken (g : Ground) (ps : List NodeIx) (ends : Places) (old now : State) : Type 0 where
  pub taken : ℕ
  pub part : NodeIx
  pub there : slice_get ps taken ≡ Some part
  pub greater : Option ℕ
  pub least : IsNext g.chart.now ps ends old.here.place (bound_of g.guide.now old.trail) taken
  pub next : MatchOption greater (NoneFrom g.chart.now ps ends old.here.place (taken + 1)) (IsNext g.chart.now ps ends old.here.place (taken + 1))
  pub state : now ≡ chose (took old.trail taken greater) (job.Node part ends ∷ (job.Close (close.Alt taken) ∷ [])) old

pub record Repeated (g : Ground) (r : Repeat) (ends : Places) (old now : State) : Type 0 where
  pub ways : List Places
  pub are : AreWays g.chart.now r.inner ends ways
  pub state : now ≡ planned (job.Turns (record { repeat = r; made = 0; ways = ways }) ∷ (job.Close (close.Rep (length old.here.trees)) ∷ [])) old

-- one more turn is planned, up to where it may end
abbrev pub one_more : Turns → Places → List Job
one_more t ends = job.Node t.repeat.inner ends ∷ (job.Turns (next_of t) ∷ [])

abbrev pub opens : Turns → Bool
opens t = is_open t.repeat.least t.repeat.most t.made

-- where there is a choice, it is taken; else one more turn is made up to the least
pub data Goes (g : Ground) (t : Turns) (ends : Places) (old now : State) : Type 0 where
  chooses_turn : (first second : Bool) (trail : Trail) → opens t ≡ true → (IsTrue first ↔ ((j : ℕ) × Has ends j)) → (IsTrue second ↔ Has (ends_of t.ways) old.here.place) →
      TakesFirst g.guide.now first second old.trail trail → now ≡ chose trail (one_more t ends) old → Goes g t ends old now
  chooses_end : (first : Bool) (trail : Trail) → opens t ≡ true → (IsTrue first ↔ ((j : ℕ) × Has ends j)) →
      TakesSecond g.guide.now first old.trail trail → now ≡ chose trail [] old → Goes g t ends old now
  must_go_on : opens t ≡ false → t.made < t.repeat.least → now ≡ planned (one_more t ends) old → Goes g t ends old now
  must_end : opens t ≡ false → t.repeat.least ≤ t.made → now ≡ old → Goes g t ends old now

pub record Turned (g : Ground) (t : Turns) (old now : State) : Type 0 where
  pub ends : Places
  pub onward : AreOnward g.chart.now t old.here.place ends
  pub goes : Goes g t ends old now

-- the last tree and the trail
pub record Collected (w : Walk) (a : Walked) : Type 0 where
  pub trail : a.trail ≡ w.trail
  pub others : List ParseTree
  pub trees : w.trees.items ≡ others ++ a.tree ∷ []
