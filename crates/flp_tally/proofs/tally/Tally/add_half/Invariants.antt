use Rattle.flp_tally.proofs.tally.Tally.add_half.Given as goal

abbrev pub ghosts-put : goal.ghosts-put
ghosts-put a = record { entry = a.entry }

abbrev pub ghosts-note : goal.ghosts-note
ghosts-note a = record { entry = a.entry }
