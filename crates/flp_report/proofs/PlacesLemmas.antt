-- Where the parts of a record end.
use Rattle.std.proofs.Common.{ℕ, ◌+◌, ◌*◌, ◌<◌, ◌≤◌, arith}
use Rattle.std.proofs.Math.Nat.{mul-le-mul_right}

-- the part of a share ends within all shares' parts
pub share_fits : (start share shares part rest : ℕ) → share < shares → start + share * (part * 8) + part * 8 ≤ start + 8 * (shares * part + rest)
share_fits start share shares part rest below =
    let more : share + 1 ≤ shares = omega arith in
    omega (arith, mul-le-mul_right part more)

-- the own words of a proof end within those of all proofs
pub own_fits : (proof proofs before own : ℕ) → proof < proofs → 16 + 8 * (before + proof * own) + 8 * own ≤ 16 + 8 * (before + proofs * own)
own_fits proof proofs before own below =
    let more : proof + 1 ≤ proofs = omega arith in
    omega (arith, mul-le-mul_right own more)
