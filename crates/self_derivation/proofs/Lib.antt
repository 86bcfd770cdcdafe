-- The map: modules in reading order, each with what it carries.

-- how often numbers stand in lists, and rows that grow
pub mod Tallies
-- `rows_above`: who looks at a node
pub mod AboveLemmas
-- which nodes can be empty, counted: what is closed has all of them
pub mod EmptyLemmas
-- `empty_nodes`: how its search begins, and that what it finds can be empty, and nothing else can
pub mod OpenLemmas
pub mod SearchLemmas
-- `graph_of`: what a rule and a node lead to
pub mod StepLemmas
-- which parts a node passes on
pub mod PartLemmas
-- what is on a cycle derives itself, and nothing else
pub mod CycleLemmas
-- for the rows of the tests
pub mod RowLemmas
