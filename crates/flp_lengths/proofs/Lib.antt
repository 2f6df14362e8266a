-- which bytes of the input are the text
pub mod ReadingLemmas
