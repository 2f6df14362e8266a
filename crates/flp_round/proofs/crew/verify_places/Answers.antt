use Rattle.std.proofs.Common.{◌≤◌, ℕ, length, subst, arith}
use Rattle.flp_pool.specs.Range.{LacksRange}
use Rattle.flp_round.specs.Round.{size_of, verdicts_in}
use Rattle.flp_round.proofs.RoundLemmas.{length-verdicts_in}
use Rattle.flp_round.proofs.CrewLemmas.{has_places, all_ran, counts_fit, noted_within, verdicts_stand, fresh_behind}
use Rattle.flp_round.proofs.crew.verify_places.Goals as goal

pub run_range-seat-requires-clause-numbers : goal.run_range-seat-requires-clause-numbers
run_range-seat-requires-clause-numbers g c κs within = has_places c.args.round.now c.args.tally.now.elements c.end.result c.end.ensures c.requires.tally.0

pub run_range-seat-requires-clause-free : goal.run_range-seat-requires-clause-free
run_range-seat-requires-clause-free g c κs within = λ x from to. let top = c.end.ensures in c.requires.free x from (omega arith)

pub gather-requires-clause-count : goal.gather-requires-clause-count
gather-requires-clause-count g c = let r = c.args.round.now in let room = length c.args.verdicts.now in let after = c.run_range-seat.new.states in
    counts_fit r room after (all_ran r room c.end.result c.args.seat.view c.run_range-seat.result.view c.args.verifiers.now after c.end.ensures c.run_range-seat.ensures.ran c.requires.verifiers)

pub gather-requires-clause-notes : goal.gather-requires-clause-notes
gather-requires-clause-notes g c = let r = c.args.round.now in let room = length c.args.verdicts.now in let after = c.run_range-seat.new.states in
    let many = length-verdicts_in r in let whole = c.requires.room in
    let fits : length (verdicts_in r) ≤ room = omega arith in
    noted_within r room room after fits (all_ran r room c.end.result c.args.seat.view c.run_range-seat.result.view c.args.verifiers.now after c.end.ensures c.run_range-seat.ensures.ran c.requires.verifiers)

pub returns-clause-still_free : goal.returns-clause-still_free
returns-clause-still_free g c = λ top free. subst (λ (h : ℕ). LacksRange h top c.run_range-seat.result.view.claimed) c.end.ensures (c.run_range-seat.ensures.still_free top free)

pub returns-clause-verdicts : goal.returns-clause-verdicts
returns-clause-verdicts g c = let r = c.args.round.now in let room = length c.args.verdicts.now in let after = c.run_range-seat.new.states in
    let whole = c.requires.room in let same = c.gather.ensures.length in
    let fits : size_of r ≤ length c.gather.new.verdicts = omega arith in
    verdicts_stand r room c.end.result c.args.seat.view c.run_range-seat.result.view c.args.verifiers.now after c.end.ensures c.run_range-seat.ensures.ran c.requires.verifiers c.gather.new.verdicts fits c.gather.ensures.put

pub returns-clause-verifiers : goal.returns-clause-verifiers
returns-clause-verifiers g c = let r = c.args.round.now in let room = length c.args.verdicts.now in let after = c.run_range-seat.new.states in
    fresh_behind r room after c.gather.new.verifiers c.gather.ensures.emptied
    (all_ran r room c.end.result c.args.seat.view c.run_range-seat.result.view c.args.verifiers.now after c.end.ensures c.run_range-seat.ensures.ran c.requires.verifiers)
