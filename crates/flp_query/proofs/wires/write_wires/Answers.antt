use Rattle.std.proofs.Common.{length, ◌∙◌, arith}
use Rattle.std.proofs.lemmas.List.{get_or_read}
use Rattle.flp_meaning.specs.Circuit.{with_answers, calls_of}
use Rattle.flp_query.proofs.WireLemmas.{some-points, sums-start, wires-are, most-more}
use Rattle.flp_query.proofs.wires.write_wires.Goals as goal

pub returns : goal.returns
returns c joint at same own =
    wires-are c.weights.ensures c.args.plan.now.circuit (calls_of c.args.plan.now.circuit (with_answers c.args.reading.now.x.now joint c.args.reading.now.unit c.args.reading.now.answers.now))
    c.args.seeds.now c.args.weights.now c.add_calls.new.sums c.write_words.new.out c.args.gadget at own
    (c.add_calls.ensures.sums joint c.args.seeds.now same (sums-start c.args.seeds.now c.args.weights.now c.args.gadget c.start_sums.new.sums c.index-weights-0.result
    (some-points c.args.plan.now.circuit c.is_within_limits.ensures c.args.gadget (length c.args.weights.now) c.requires.gadget c.requires.weights)
    (get_or_read c.args.weights.now 0 c.index-weights-0.result (some-points c.args.plan.now.circuit c.is_within_limits.ensures c.args.gadget (length c.args.weights.now) c.requires.gadget c.requires.weights) c.index-weights-0.is 0) c.start_sums.ensures.sums))
    (c.add_calls.auto.sums ∙ c.start_sums.auto.sums ∙ c.requires.sums) (c.write_words.auto.out ∙ c.requires.out) c.write_words.ensures

pub write_words-requires-clause-room : goal.write_words-requires-clause-room
write_words-requires-clause-room c = most-more 32761 4294967295 c.add_calls.new.sums (omega arith) c.add_calls.ensures.room

pub bounds-weights-0 : goal.bounds-weights-0
bounds-weights-0 c = some-points c.args.plan.now.circuit c.is_within_limits.ensures c.args.gadget (length c.args.weights.now) c.requires.gadget c.requires.weights
