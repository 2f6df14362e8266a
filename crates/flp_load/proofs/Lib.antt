-- what the answers of the passes are as answers of loading
pub mod FaultLemmas
-- no text has two answers
pub mod AnswerLemmas
-- loaded circuits are within the limits
pub mod LoadedLemmas
-- what a standard circuit says of its encodings
pub mod StandardLemmas
