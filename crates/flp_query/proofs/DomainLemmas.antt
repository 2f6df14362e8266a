-- The first number that passes a test, while the numbers before it are tried.
use Rattle.std.proofs.Common.{ℕ, suc, ◌≡◌, ◌+◌, ◌-◌, ◌<◌, ◌≤◌, Bool, true, false, ap, ◌∙◌, arith}
use Rattle.std.specs.Prelude.{None, Some, if◌then◌else◌}
use Rattle.flp_meaning.specs.Gadgets.{first_where}

-- this number passes
pub first-here : (test : ℕ → Bool) (g n : ℕ) → g < n → test g ≡ true → first_where test g (n - g) ≡ Some g
first-here test g n low passes =
    let more : n - g ≡ suc (n - (g + 1)) = omega arith in
    ap (λ m. first_where test g m) more
    ∙ ap (λ b. if b then Some g else first_where test (suc g) (n - (g + 1))) passes

-- it does not
pub first-more : (test : ℕ → Bool) (g n : ℕ) → g < n → test g ≡ false → first_where test g (n - g) ≡ first_where test (g + 1) (n - (g + 1))
first-more test g n low fails =
    let more : n - g ≡ suc (n - (g + 1)) = omega arith in
    let next : suc g ≡ g + 1 = omega arith in
    ap (λ m. first_where test g m) more
    ∙ ap (λ b. if b then Some g else first_where test (suc g) (n - (g + 1))) fails
    ∙ ap (λ m. first_where test m (n - (g + 1))) next

-- none is left
pub first-none : (test : ℕ → Bool) (g n : ℕ) → n ≤ g → first_where test g (n - g) ≡ None
first-none test g n all =
    let none : n - g ≡ 0 = omega arith in
    ap (λ m. first_where test g m) none
