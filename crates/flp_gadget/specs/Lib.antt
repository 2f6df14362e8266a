-- What a gadget computes, on words and on polynomials, from the formulas up.
pub mod Formulas
-- the two laws of a gadget
pub mod GadgetLaws
-- the kinds of gadget that a circuit declares, as trees
pub mod KindTree
-- the text of steps by which a kind is made
pub mod KindText
-- a kind in its flat form: a leaf over consecutive groups
pub mod FlatKind
-- the laws for kinds, and what their values and formulas are made of
pub mod FormulaLaws
-- proofs, which define nothing: an impl may cite those of its laws from here alone. Why each type of gadget obeys them
pub mod LawProofs
-- why each kind does
pub mod KindProofs
