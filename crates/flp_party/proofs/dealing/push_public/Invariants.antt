use Rattle.std.proofs.Common.{◌≡◌, ◌++◌}
use Rattle.std.specs.List.{flat_map, range_with_len}
use Rattle.flp_report.specs.Record.{record_of, shape_of}
use Rattle.flp_party.specs.Share.{own_in}
use Rattle.flp_party.proofs.dealing.push_public.Given as goal

abbrev pub invariant-loop-proof : goal.invariant-loop-proof
invariant-loop-proof l =
    l.line.items ≡ l.initial.line.items ++ flat_map (own_in (shape_of l.given) (record_of l.given)) (range_with_len 0 l.proof)
