-- How far a walk has come.
use Rattle.std.specs.Prelude.{ℕ, ◌≡◌, List, [], ◌∷◌, ◌++◌}
use Rattle.vg_base.specs.declared.numbers.NodeIx.{NodeIx}
use Rattle.grammar_tree.specs.declared.parse_tree.ParseTree.{ParseTree}
use Rattle.grammar_tree.specs.Links.{Rules, IsLinked}
use Rattle.grammar_tree.specs.Derives.{Words, Derives, OfBody}
use Rattle.grammar_tree.specs.Choices.{choices}
use Rattle.earley_chart.specs.Chart.{Table, RanOn}
use Rattle.parse_choice.specs.declared.guide.Trail.{Trail}
use Rattle.parse_choice.specs.declared.plan.Job.{Job}
use Rattle.parse_choice.specs.declared.walk.Walk.{Walk}
use Rattle.parse_choice.specs.declared.walk.Walked.{Walked}
use Rattle.parse_choice.specs.declared.walk.Ground.{Ground}
use Rattle.parse_choice.specs.code.Trails.{Stands}
use Rattle.parse_choice.specs.code.Plans.{At, Runs, IsFair}

-- what is left to be done, where the walk is, and what it chose
pub record State : Type 0 where
  pub plan : List Job
  pub here : At
  pub trail : Trail

abbrev pub state_of : Walk → State
state_of w = record { plan = w.plan; here = record { place = w.place; trees = w.trees.items }; trail = w.trail }

-- the same with one more job to be done first
abbrev pub with_job : Job → Walk → State
with_job x w = record { plan = x ∷ w.plan; here = record { place = w.place; trees = w.trees.items }; trail = w.trail }

-- a tree of the node over all words, by its choices
pub record IsWhole (L : Rules) (ws : Words) (n : NodeIx) (cs : List ℕ) (ts : List ParseTree) : Type 0 where
  pub tree : ParseTree
  pub derives : Derives L n ws tree
  pub choices : cs ≡ choices L n tree
  pub trees : ts ≡ tree ∷ []

-- the choices of some tree of the node
abbrev pub AreChoices : Rules → NodeIx → Words → List ℕ → Type 0
AreChoices L n ws cs = (t : ParseTree) × Derives L n ws t × (cs ≡ choices L n t)

-- what was run, and over what
pub record IsGround (g : Ground) : Type 0 where
  pub linked : IsLinked g.linked.now
  pub ran : RanOn g.linked.now g.chart.now
  pub words : g.chart.now.words ≡ g.words.now
  pub body : OfBody g.linked.now g.chart.now.rule (λ n. n ≡ g.body)

-- the trees of the node that begin with the choices so far are what the jobs that are left make
pub record Walks (L : Rules) (c : Table) (n : NodeIx) (guide : List ℕ) (s : State) : Type 0 where
  pub down : (cs : List ℕ) (s' : At) → Runs L c.words s.plan s.here cs s' → IsWhole L c.words n (s.trail.log ++ cs) s'.trees
  pub up : (cs : List ℕ) (ts : List ParseTree) → IsWhole L c.words n (s.trail.log ++ cs) ts → (s' : At) × Runs L c.words s.plan s.here cs s' × (s'.trees ≡ ts)
  pub fair : IsFair L c s.plan s.here.place
  pub trail : Stands (AreChoices L n c.words) guide s.trail

abbrev pub WalksOn : Ground → State → Type 0
WalksOn g s = Walks g.linked.now g.chart.now g.body g.guide.now s

-- some tree's choices go on from the guide
abbrev pub CanFollow : Ground → Type 0
CanFollow g = (more : List ℕ) × AreChoices g.linked.now g.body g.words.now (g.guide.now ++ more)

-- the tree and its choices, among those of all trees of the body
pub record IsWalked (g : Ground) (w : Walked) : Type 0 where
  pub derives : Derives g.linked.now g.body g.words.now w.tree
  pub choices : w.trail.log ≡ choices g.linked.now g.body w.tree
  pub trail : Stands (AreChoices g.linked.now g.body g.words.now) g.guide.now w.trail
