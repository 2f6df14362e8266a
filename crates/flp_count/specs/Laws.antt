-- How many lists of choices pass.
use Rattle.std.specs.Prelude.{ℕ, Bool, IsTrue, List, All}
use Rattle.flp_count.specs.Count.{AtMost, PassEach, product_of}

-- a choice that this test takes
abbrev pub Takes : (test : ℕ → Bool) → (choice : ℕ) → Type 0
Takes test choice = IsTrue (test choice)

-- where each test takes few choices, at most the product of these counts are lists of one choice for each test that it takes
abbrev pub ChoicesAreFew : Type 0
ChoicesAreFew =
    (count : (ℕ → Bool) → ℕ) (tests : List (ℕ → Bool)) → All (λ test. AtMost (count test) (Takes test)) tests
    → AtMost (product_of count tests) (PassEach Takes tests)
