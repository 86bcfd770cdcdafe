-- The map of the proofs, in reading order.

-- equal values have equal parts; for the crates above
pub mod Plain
-- `Text`: what one more character does to a text (`push`), and the order of texts by their characters (`cmp`)
mod Texts
mod Order
-- `byte_len`, and places between characters counted in bytes (`slice`, `fronts_end_at_places`)
pub mod Bytes
pub mod Places
-- a `for` over the characters of a text (`has_space`, `place_at_end`), and ASCII; for the crates above too
pub mod Walk
pub mod Ascii
-- lines and columns: one more character (`place_past`), and places rise (`places_rise`)
pub mod Lines
pub mod LastCharacter
pub mod PlacesRise
-- `join_words`
pub mod Joined
-- the first of two lists of faults (`sooner`, `first_of`, `one_first`)
pub mod Firsts
-- pairs of a map, one after another, and their values; for the crates above
pub mod Rising
pub mod Values
-- cutting a text into pieces, in one way: what readers of texts cite
pub mod Cutting
-- reading a list of items by a machine: what readers cite
pub mod Reading
-- longest runs of a class, and the search for the next closing (`runs_are_counted`, `closings_are_found`)
pub mod LongestRuns
pub mod Closings
pub mod Enclosures
