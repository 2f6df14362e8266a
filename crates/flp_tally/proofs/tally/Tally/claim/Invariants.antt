use Rattle.flp_tally.proofs.tally.Tally.claim.Given as goal

abbrev pub ghosts-take : goal.ghosts-take
ghosts-take a = record { number = a.number }
