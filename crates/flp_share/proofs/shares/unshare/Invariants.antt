use Rattle.std.proofs.Common.{ℕ, ◌≡◌, ◌-◌, ◌*◌, List, length, drop}
use Rattle.flp_field.specs.Sums.{sum_of_parts}
use Rattle.flp_share.proofs.shares.unshare.Given as goal

-- so many parts of n words are added up, and the others are left
pub record AddedUp (n : ℕ) (all : List ℕ) (shares count : ℕ) (rest out : List ℕ) : Type 0 where
  pub room : length out ≡ n
  pub size : length rest ≡ (shares - count) * n
  pub behind : rest ≡ drop (count * n) all
  pub sum : out ≡ sum_of_parts count n all

abbrev pub invariant-loop : goal.invariant-loop
invariant-loop l = AddedUp (length l.fn.out) l.fn.parts l.shares l.counter l.rest l.out
