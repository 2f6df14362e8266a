-- lists of parts, some at their front
pub mod Fronts
-- the values of indices in renamed scopes
pub mod Meaning
