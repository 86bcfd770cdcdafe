-- How the rows' own functions are proved.
-- the readings that a publish is given (`tests/linking/readings.rt`)
pub mod ReadingLemmas
