-- Counted soundness: the challenge word that limits a false proof.
-- lists of different things that pass a test
pub mod AtMost
-- an encoding, read with what a proof answers
pub mod Reading
-- the room in which lies are looked for
pub mod Room
-- the weak word of a proof
pub mod WeakWord
-- the laws
pub mod Laws
