-- words: one cutting, and the loop that makes them (`words_are_one`, `words_of_all_are_one`, `words_of`, `words_of_all`)
pub mod WordLemmas
-- what words cost (`count_words`, `words_fit`)
pub mod CountLemmas
-- keys: one cutting, and the loops over signs (`keys_are_one`)
pub mod KeyLemmas
-- signs are of ASCII, so bytes are characters (`count_keys`, `keys_of`)
mod KeyBytes
