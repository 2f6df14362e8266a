-- A tally, from what a seat knows up to the kinds of step that keep its rule.
-- what a seat knows
pub mod Views
-- what holds of the words and of all views between any two steps
pub mod Rule
-- the steps as the table of words sees them
pub mod Steps
-- the kinds of step, and what the rule says
pub mod Kinds
-- which calls make steps of which kind
pub mod StepKinds
-- the entries of rows, and the totals that they come to
pub mod Rows
-- what contracts see of a seat and of a tally
pub mod Held
