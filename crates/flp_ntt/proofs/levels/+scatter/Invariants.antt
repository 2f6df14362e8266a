use Rattle.flp_ntt.proofs.levels.+scatter.Given as goal

abbrev pub decreases-scatter : goal.decreases-scatter
decreases-scatter l = l.log
