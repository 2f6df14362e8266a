-- The lemmas of public values and linear forms.
-- public values when steps are appended
pub mod PublicLemmas
-- what a step stands for while the line grows
pub mod LineLemmas
-- values of forms
pub mod FormLemmas
-- forms in one array
mod SpanLemmas
