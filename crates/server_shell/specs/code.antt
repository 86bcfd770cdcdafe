-- What only private contracts of the loop and of the first form cite.
pub mod Turning
pub mod Keeping
pub mod Lawful
pub mod TextCuts
