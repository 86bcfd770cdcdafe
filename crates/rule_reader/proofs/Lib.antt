-- How what is read is proved, in reading order.
-- leaves of trees, and where they stand
pub mod LeafLists
pub mod LeafPlaces
pub mod Shown
-- what stands where a lexeme stands
pub mod Insides
-- faults that are told, part by part
pub mod Told
-- what leaves are read as
pub mod ReadLeaves
pub mod ReadTimes
pub mod ReferenceLemmas
-- maps of names
pub mod Puts
-- trees, by their parts; names, declarations and the whole
pub mod Walks
pub mod Rests
pub mod NamesRead
pub mod DocumentRead
-- declarations that stand twice
pub mod Twice
-- fragments in percent form
pub mod EscapeLemmas
-- numbers of repeats, weights and probabilities
pub mod NumberLemmas
pub mod DecimalLemmas
-- one answer to each text
pub mod SameFault
pub mod OneReading
pub mod OneMeaning
-- and each text has one, since what is asked of leaves is decided
pub mod Decisions
pub mod SomeMeaning
pub mod SomeReading
-- references by URI, keys each once, and what is read can be resolved
pub mod UriLemmas
pub mod OnceLemmas
pub mod ResolvableLemmas
-- rows of a set
pub mod RisingLists
pub mod RowLaws
pub mod SomeRows
