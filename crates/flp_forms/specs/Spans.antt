-- Forms in one array of terms: each stands between a start and an end.
use Rattle.std.specs.Prelude.{ℕ, ◌≤◌, List, slice_range}
use Rattle.flp_forms.specs.declared.term.Term.{Term}
use Rattle.flp_forms.specs.declared.forms.Span.{Span}

-- the terms of a span
abbrev pub terms_in : List Term → Span → List Term
terms_in terms span = slice_range terms span.start span.end

-- the span lies in an array of so many terms
pub record IsWithin (size : ℕ) (span : Span) : Type 0 where
  pub ordered : span.start ≤ span.end
  pub inside : span.end ≤ size
