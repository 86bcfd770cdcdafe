-- What the jobs of a plan make: from which place to which, by which choices, and which trees.
use Rattle.std.specs.Prelude.{ℕ, ◌≡◌, ◌≤◌, ◌+◌, ◌-◌, List, [], ◌∷◌, ◌++◌, map, take, drop, length, slice_range, Some}
use Rattle.vg_base.specs.declared.numbers.NodeIx.{NodeIx}
use Rattle.grammar_tree.specs.declared.linked.Node.TheVariants as node
use Rattle.grammar_tree.specs.declared.parse_tree.ParseTree.{ParseTree}
use Rattle.grammar_tree.specs.declared.parse_tree.ParseTree.TheVariants as tree
use Rattle.grammar_tree.specs.Links.{Rules, node_at}
use Rattle.grammar_tree.specs.Derives.{Words, IsAtMost, Derives, DerivesTurns}
use Rattle.grammar_tree.specs.Choices.{choices, chosen_by, turns_chosen, garbage_chosen}
use Rattle.grammar_tree.specs.Reached.{Front, Reached}
use Rattle.earley_chart.specs.declared.places.Places.{Places}
use Rattle.earley_chart.specs.Places.{Has}
use Rattle.earley_chart.specs.Chart.{Table}
use Rattle.parse_choice.specs.declared.accepted.Turns.{Turns}
use Rattle.parse_choice.specs.declared.plan.Close.{Close}
use Rattle.parse_choice.specs.declared.plan.Close.TheVariants as close
use Rattle.parse_choice.specs.declared.plan.Job.{Job}
use Rattle.parse_choice.specs.declared.plan.Job.TheVariants as job
use Rattle.parse_choice.specs.code.Ways.{AreWays, ends_of}

-- a place, and the trees that are not put together yet
pub record At : Type 0 where
  pub place : ℕ
  pub trees : List ParseTree

abbrev pub at : ℕ → List ParseTree → At
at i ts = record { place = i; trees = ts }

-- the last tree in a new one
abbrev pub wrap_last : (ParseTree → ParseTree) → List ParseTree → List ParseTree
wrap_last f [] = []
wrap_last f (t ∷ []) = f t ∷ []
wrap_last f (t ∷ (u ∷ us)) = t ∷ wrap_last f (u ∷ us)

-- the trees from so many on in a new one
abbrev pub wrap_from : (List ParseTree → ParseTree) → ℕ → List ParseTree → List ParseTree
wrap_from f from ts = take from ts ++ f (drop from ts) ∷ []

abbrev pub closed : Close → List ParseTree → List ParseTree
closed (close.Alt taken) ts = wrap_last (tree.Alt taken) ts
closed (close.Rule rule) ts = wrap_last (tree.Rule rule) ts
closed (close.Seq from) ts = wrap_from tree.Seq from ts
closed (close.Rep from) ts = wrap_from tree.Rep from ts

-- one after another
pub record Then (First Rest : At → List ℕ → At → Type 0) (s : At) (cs : List ℕ) (s' : At) : Type 0 where
  pub middle : At
  pub now : List ℕ
  pub later : List ℕ
  pub first : First s now middle
  pub rest : Rest middle later s'
  pub choices : cs ≡ now ++ later

pub record Nothing (s : At) (cs : List ℕ) (s' : At) : Type 0 where
  pub choices : cs ≡ []
  pub same : s' ≡ s

module _ (L : Rules) (ws : Words) where
  -- from place i to place j, which is one of these
  pub record Spanned (ends : Places) (i j : ℕ) : Type 0 where
    pub order : i ≤ j
    pub within : j ≤ length ws
    pub accepted : Has ends j

  pub record NodeMade (n : NodeIx) (ends : Places) (i : ℕ) (cs : List ℕ) (j : ℕ) (ts : List ParseTree) : Type 0 where
    pub spanned : Spanned ends i j
    pub tree : ParseTree
    pub derives : Derives L n (slice_range ws i j) tree
    pub choices : cs ≡ choices L n tree
    pub trees : ts ≡ tree ∷ []

  pub record TurnsMade (t : Turns) (i : ℕ) (cs : List ℕ) (j : ℕ) (ts : List ParseTree) : Type 0 where
    pub spanned : Spanned (ends_of t.ways) i j
    pub derive : DerivesTurns L t.repeat.inner (t.repeat.least - t.made) (slice_range ws i j) ts
    pub least : t.repeat.least ≤ t.made + length ts
    pub most : IsAtMost t.repeat.most (t.made + length ts)
    pub choices : cs ≡ turns_chosen t.repeat.least t.repeat.most t.repeat.inner t.made (map (chosen_by L) ts)

  pub record GarbageMade (from : ℕ) (ends : Places) (i : ℕ) (cs : List ℕ) (j : ℕ) (ts : List ParseTree) : Type 0 where
    pub spanned : Spanned ends i j
    pub choices : cs ≡ garbage_chosen (slice_range ws i j)
    pub trees : ts ≡ tree.Garbage (slice_range ws from j) ∷ []

  -- what a job that makes trees makes
  abbrev pub Makes : Job → ℕ → List ℕ → ℕ → List ParseTree → Type 0
  Makes (job.Node n ends) i cs j ts = NodeMade n ends i cs j ts
  Makes (job.Turns t) i cs j ts = TurnsMade t i cs j ts
  Makes (job.Garbage from ends) i cs j ts = GarbageMade from ends i cs j ts
  Makes (job.Close c) i cs j ts = ⊥

  pub record Adds (x : Job) (s : At) (cs : List ℕ) (s' : At) : Type 0 where
    pub new : List ParseTree
    pub makes : Makes x s.place cs s'.place new
    pub trees : s'.trees ≡ s.trees ++ new

  pub record Closes (c : Close) (s : At) (cs : List ℕ) (s' : At) : Type 0 where
    pub choices : cs ≡ []
    pub place : s'.place ≡ s.place
    pub trees : s'.trees ≡ closed c s.trees

  abbrev pub Does : Job → At → List ℕ → At → Type 0
  Does (job.Node n ends) s cs s' = Adds (job.Node n ends) s cs s'
  Does (job.Turns t) s cs s' = Adds (job.Turns t) s cs s'
  Does (job.Garbage from ends) s cs s' = Adds (job.Garbage from ends) s cs s'
  Does (job.Close c) s cs s' = Closes c s cs s'

  -- the jobs are done one after another
  abbrev pub Runs : List Job → At → List ℕ → At → Type 0
  Runs [] = Nothing
  Runs (x ∷ xs) = Then (Does x) (Runs xs)

  -- the job leads from place i to place j
  pub record Leads (x : Job) (i j : ℕ) : Type 0 where
    pub before : List ParseTree
    pub behind : List ParseTree
    pub choices : List ℕ
    pub does : Does x (at i before) choices (at j behind)

  -- the jobs can be done from place i on
  pub record Can (xs : List Job) (i : ℕ) : Type 0 where
    pub choices : List ℕ
    pub last : At
    pub runs : Runs xs (at i []) choices last

-- so many turns of a repeat were made since it was reached, and its ways are known
pub record IsTurning (L : Rules) (c : Table) (t : Turns) (i : ℕ) : Type 0 where
  pub at : NodeIx
  pub kind : node_at L at ≡ Some (node.Rep t.repeat.least t.repeat.most t.repeat.inner)
  pub from : ℕ
  pub reached : Reached L c.words c.rule at from
  pub front : Front L c.words (node.Rep t.repeat.least t.repeat.most t.repeat.inner) t.made from i
  pub ways : AreWays c t.repeat.inner (ends_of t.ways) t.ways

-- a job may be asked for at place i
abbrev pub IsDue : Rules → Table → Job → ℕ → Type 0
IsDue L c (job.Node n ends) i = Reached L c.words c.rule n i
IsDue L c (job.Turns t) i = IsTurning L c t i
IsDue L c (job.Garbage from ends) i = (from ≤ i) × (i ≤ length c.words)
IsDue L c (job.Close x) i = Unit {0}

-- each job may be asked for where it will be, and from wherever it leads, those behind it can be done
abbrev pub IsFair : Rules → Table → List Job → ℕ → Type 0
IsFair L c [] i = Unit {0}
IsFair L c (x ∷ xs) i = IsDue L c x i × ((j : ℕ) → Leads L c.words x i j → IsFair L c xs j × Can L c.words xs j)
