-- What the compiler's core promises, from the circuits that it takes to the code that it makes; and behind that what its own functions promise each
-- other.
-- circuits in which nothing is out of range and every form is linear
pub mod Fitting
-- the code of a circuit
pub mod Code
-- public values as they are made
pub mod Standing
-- how the code grows while parts of a circuit are emitted
pub mod Emitting
-- counts of 64 bits
pub mod Counts
-- the sorts of the parts of a circuit
pub mod Marks
-- parts of a circuit from which a walk can go on
pub mod Walking
