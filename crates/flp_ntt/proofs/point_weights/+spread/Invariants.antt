use Rattle.flp_ntt.proofs.point_weights.+spread.Given as goal

abbrev pub decreases-spread : goal.decreases-spread
decreases-spread l = l.log
