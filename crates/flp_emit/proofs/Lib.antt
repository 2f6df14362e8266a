-- The lemmas of the compiler's core.
-- values that are made of values
mod Values
-- sums and products as far as they have come
mod Parts
-- coefficients
mod Scaling
-- runs that are emitted one after another
mod Adding
-- what is emitted into a form
mod Forming
-- forms that are listed
mod Listing
-- runs of public expressions, and products with one shared factor
mod PlainRuns
-- marks of parts
mod Marking
-- parts of lists from which a walk can go on
mod Walking
-- counts as far as they have come
mod Counting
-- circuits whose loops are named by their depth: variables, terms, what fits, what they mean
mod Naming
mod NamedTerms
mod NamedFits
mod NamedMeaning
mod NamedCode
