-- A document as it is written: its leaves, and what stands there.
pub mod Leaves
pub mod Standing
-- What its declarations say, its numbers and its references.
pub mod Context
pub mod Numbers
pub mod References
-- Its faults, what it means, and both together.
pub mod LeafFaults
pub mod DocumentFaults
pub mod Meaning
pub mod Reading
-- What a document imports, and sets of documents.
pub mod Imports
pub mod Sets
-- For private contracts alone.
pub mod code
