-- A batch that is not too large.
use Rattle.std.proofs.Common.{ℕ, ◌≡◌, ◌*◌, ◌≤◌, Bool, true, false, cond, ltb, Option, Some, None, refl, arith}
use Rattle.std.specs.Option.{option_map}
use Rattle.std.proofs.lemmas.Bool.{ltb-false}
use Rattle.flp_syntax.specs.Tree.{Program}
use Rattle.flp_report.specs.Shape.{bytes_of}
use Rattle.flp_generator.specs.Batch.{trial_shape, trial_size, too_large}

-- nothing is made of nothing alone
pub none-mapped : {A B : Type 0} (f : A → B) (o : Option A) → option_map f o ≡ None → o ≡ None
none-mapped f None none = refl
none-mapped f (Some a) none = cc

second-false : (a b : Bool) (m n : ℕ) → cond a (Some m) (cond b (Some n) None) ≡ None → b ≡ false
second-false true b m n none = cc
second-false false true m n none = cc
second-false false false m n none = refl

-- the records of a batch that is not too large
pub small-batch : (circuit : Program) (text reports : ℕ) → too_large circuit text reports ≡ None → reports * bytes_of (trial_shape circuit) ≤ 1073741824
small-batch circuit text reports none =
    let size : ℕ = trial_size circuit text reports in
    let whole : size ≤ 1073741824 =
    ltb-false 1073741824 size
    (second-false (ltb 16777216 (bytes_of (trial_shape circuit))) (ltb 1073741824 size) (bytes_of (trial_shape circuit)) size none) in
    omega (arith, whole)
