-- Workers on a range, from one item up to the whole run and its laws.
-- what the items of a work do to a state
pub mod Work
-- the numbers of a range, and a run over it
pub mod Range
-- what one worker's walk does
pub mod Walk
-- what the workers of one part of a fork do together
pub mod Fork
-- several runs, and what is summed over them
pub mod Laws
