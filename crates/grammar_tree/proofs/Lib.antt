-- The map: modules in reading order, each with what it carries.

-- lists, spans and orders
pub mod Lists
pub mod Spans
pub mod Orders
-- what a derivation is where its node or its tree is known
pub mod Views
pub mod AloneViews
pub mod Inversions
-- `leaves_are_words`, `choices_tell_trees`, `trees_are_in_order`
pub mod LeafWords
pub mod Decode
pub mod Orderly
-- finitely many trees, the first and the first k: `first_is_one`, `firsts_are_one`
pub mod EmptyParts
pub mod Paths
pub mod Depth
pub mod Listing
pub mod SortedLists
pub mod Sorting
-- `compare` and `is_same`
pub mod Lockstep
pub mod LeavesAlike
-- `fronts_grow`, `fronts_end`, `reached_nodes_are_nodes`
pub mod Fronts
-- linked rules: `Linked::node`, `reading_order_links`, `nodes_are_within_size`
pub mod Counts
pub mod Numbering
pub mod WrittenNodes
-- sets of documents: `DocSet`, `puts_keep_places`, `removals_leave_the_others`
pub mod Keyed
pub mod KeyedLaws
-- `threads`
pub mod Crossings
