use Rattle.std.proofs.Common.{◌≡◌, take}
use Rattle.flp_joint.proofs.decoding.read_words.Given as goal

abbrev pub invariant-loop-place : goal.invariant-loop-place
invariant-loop-place l = take l.place l.out ≡ take l.place l.x
