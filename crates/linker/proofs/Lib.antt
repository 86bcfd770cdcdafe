-- How linking is proved: modules in reading order, each with what it carries.

-- the rules that names find, and the tables of documents
pub mod TableLemmas
-- where references by URI lead
pub mod ScopeLemmas
-- faults, as more are told
pub mod TellingLemmas
-- rules that derive themselves, and sizes past the limit
pub mod LateLemmas
-- expansions as nodes: layings one after another, what each kind is, and what laying adds (`lay`)
pub mod LayingLists
pub mod LayingKinds
pub mod LayingLemmas
-- rules and documents one after another: additions, rules of a document (`lay_rules`), documents of a set (`lay_documents`)
pub mod WholeSums
pub mod WholeRules
pub mod WholeDocuments
-- what holds of each item of a list, and where the first one stands that passes
pub mod LinkedEach
pub mod IndexPositions
-- nodes that are laid are in reading order
pub mod OrderLemmas
-- where definitions stand, and that each reference's number is that of a rule
pub mod LinkedLemmas
pub mod RefersLemmas
-- tags of script documents have their scripts
pub mod ScriptReading
pub mod ScriptLemmas
-- in the index of its document each name finds its rule
pub mod IndexTables
pub mod IndexLemmas
-- what was laid is linked and a version, and so the answer: `link`
pub mod LinkedVersion
pub mod LinkedAnswer
-- the laws: the readings of a set, its faults and its version are one
pub mod OneListLemmas
-- versions cross threads
pub mod Crossings
