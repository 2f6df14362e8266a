use Rattle.std.proofs.Common.{◌≡◌, ◌^◌, ◌<◌}
use Rattle.flp_ntt.specs.Levels.{reversed}
use Rattle.flp_ntt.proofs.Exchanges.{AreExchanged, AreWaiting}
use Rattle.flp_ntt.proofs.mirror.reorder.Given as goal

-- the places below k and their mirrors are exchanged, and the others are as they were
abbrev pub invariant-loop-k : goal.invariant-loop-k
invariant-loop-k l = record {
  below : l.mirror < 2 ^ l.log;
  mirrors : l.k < 2 ^ l.log → l.mirror ≡ reversed l.log l.k;
  exchanged : AreExchanged l.log l.k l.fn.values l.values;
  waiting : AreWaiting l.log l.k l.fn.values l.values;
}
