-- Where the words of a record begin, whatever its version.
use Rattle.std.proofs.Common.{◌≡◌, ◌≢◌, ℕ, ◌≤◌, ◌==◌, Bool, true, false, refl, sym, subst, ap, arith}
use Rattle.std.specs.Prelude.{if◌then◌else◌}
use Rattle.std.proofs.lemmas.Bool.{ne_eqb}
use Rattle.flp_report.specs.declared.shape.Shape.{Shape}
use Rattle.flp_report.specs.Shape.{words_start, bytes_of}

start_with-least : (two : Bool) → 16 ≤ (if two then 20 else 16)
start_with-least true = omega arith
start_with-least false = omega arith

start_with-most : (two : Bool) → (if two then 20 else 16) ≤ 20
start_with-most true = omega arith
start_with-most false = omega arith

-- behind a nonce at least
pub start_least : (s : Shape) → 16 ≤ words_start s
start_least s = start_with-least (s.version == 2)

pub start_most : (s : Shape) → words_start s ≤ 20
start_most s = start_with-most (s.version == 2)

-- a record has bytes
pub bytes_least : (s : Shape) → 16 ≤ bytes_of s
bytes_least s = let least = start_least s in omega (arith, least)

-- behind the bucket in version 2
pub start_two : (s : Shape) → s.version ≡ 2 → words_start s ≡ 20
start_two s two = let twenty : ℕ = 20 in
    let P : ℕ → Type 0 = λ v. (if v == 2 then twenty else 16) ≡ twenty in
    subst P (sym two) refl

-- and behind the nonce in another
pub start_other : (s : Shape) → s.version ≢ 2 → words_start s ≡ 16
start_other s other = ap (λ (b : Bool). if b then 20 else 16) (ne_eqb s.version 2 other)
