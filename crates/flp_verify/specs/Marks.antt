-- Which records are replayed, behind the nonces that are known.
use Rattle.std.specs.Prelude.{ℕ, List, [], ◌∷◌, Bool}
use Rattle.flp_report.specs.Record.{nonce_in}
use Rattle.flp_known.specs.Among.{is_among}
use Rattle.flp_known.specs.Order.{with_nonce}

-- a mark for each record: whether its nonce is known, behind these nonces and those of the records before it
abbrev pub marks_behind : (known records : List (List ℕ)) → List Bool
marks_behind known [] = []
marks_behind known (report ∷ records) = is_among known (nonce_in report) ∷ marks_behind (with_nonce known (nonce_in report)) records
