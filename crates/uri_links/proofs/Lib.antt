pub mod AllowedLemmas
pub mod DotsLemmas
pub mod FaultLemmas
pub mod KeyLemmas
pub mod PartsLemmas
pub mod PlainLemmas
pub mod ReferenceLemmas
pub mod SplitLemmas
