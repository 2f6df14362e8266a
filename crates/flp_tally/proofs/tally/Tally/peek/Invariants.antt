use Rattle.flp_tally.proofs.tally.Tally.peek.Given as goal

abbrev pub ghosts-look : goal.ghosts-look
ghosts-look a = record { number = a.number }
