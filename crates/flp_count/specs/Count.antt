-- Counting what passes a test. From one thing up to lists of choices.
use Rattle.std.specs.Prelude.{ℕ, ◌≢◌, ◌≤◌, ◌*◌, ⊤, List, [], ◌∷◌, length, All, AllPairs}

-- each list of different things that all pass the test has at most n members
abbrev pub AtMost : {A : Type 0} → ℕ → (A → Type 0) → Type 0
AtMost n Passes = (list : List _) → AllPairs (λ one other. one ≢ other) list → All Passes list → length list ≤ n

-- a choice for each of these, and each choice passes the test of its own
abbrev pub PassEach : {G : Type 0} → (G → ℕ → Type 0) → (givens : List G) → (choices : List ℕ) → Type 0
PassEach Passes [] [] = ⊤
PassEach Passes [] (choice ∷ more) = ⊥
PassEach Passes (given ∷ others) [] = ⊥
PassEach Passes (given ∷ others) (choice ∷ more) = Passes given choice × PassEach Passes others more

-- the product of the counts of these
abbrev pub product_of : {G : Type 0} → (G → ℕ) → (givens : List G) → ℕ
product_of count [] = 1
product_of count (given ∷ others) = count given * product_of count others
