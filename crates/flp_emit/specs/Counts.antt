-- Counts as the program keeps them.
use Rattle.std.specs.Prelude.{ℕ, ◌≡◌, min}
use Rattle.flp_emit.specs.declared.terms.Terms.{Terms}

-- a count of 64 bits, which stops at its type's end
abbrev pub capped : ℕ → ℕ
capped count = min count 18446744073709551615

-- the counts of so many terms of a form, and so many of the inputs of the calls inside
pub record AreTerms (own inner : ℕ) (terms : Terms) : Type 0 where
  pub form : terms.form ≡ capped own
  pub inputs : terms.inputs ≡ capped inner
