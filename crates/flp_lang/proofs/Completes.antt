-- What tokens complete to a text, in the grammar's words.
use Rattle.std.proofs.Common.{ℕ, List, [], Option, None, Some, ◌≡◌}
use Rattle.flp_syntax.specs.Tree.{Text}
use Rattle.flp_lang.specs.Ahead.{Ahead, done, next, Part, Value, Stands, nothing}
use Rattle.flp_syntax.specs.declared.token.Token.{Token}

abbrev pub Completes : Ahead → ℕ → List Token → Text → Type 0
Completes (done text) k s c = (s ≡ []) × (text ≡ c)
Completes (next part K) k s c = (k' : ℕ) × (s' : List Token) × (v : Value part) × Stands part k s k' s' v × Completes (K v) k' s' c

-- the same behind a token, where a text can go on with it
abbrev pub Lives : Option Ahead → ℕ → List Token → Text → Type 0
Lives None k s c = ⊥
Lives (Some ahead) k s c = Completes ahead k s c

abbrev pub Passed : {V : Type 0} → Option V → (V → Ahead) → ℕ → List Token → Text → Type 0
Passed None K k s c = ⊥
Passed (Some v) K k s c = Completes (K v) k s c

-- the same, where no token of the part is there
abbrev pub Passes : (part : Part) → (Value part → Ahead) → ℕ → List Token → Text → Type 0
Passes part K k s c = Passed (nothing part) K k s c
