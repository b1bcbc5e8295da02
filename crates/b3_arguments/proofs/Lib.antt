pub mod OptionLemmas
pub mod ReadingLemmas
