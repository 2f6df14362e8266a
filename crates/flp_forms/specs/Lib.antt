-- What a compiled circuit is made of, from public values up to forms.
-- public values by steps
pub mod PublicValues
-- linear forms and their values
pub mod LinearForms
-- the steps as contracts see them
pub mod StraightLine
-- how forms are held
pub mod Spans
