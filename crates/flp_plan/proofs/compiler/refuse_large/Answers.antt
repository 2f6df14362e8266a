use Rattle.std.proofs.Common.{◌≡◌, ◌∙◌, arith}
use Rattle.flp_syntax.specs.View.{program_of}
use Rattle.flp_meaning.specs.Terms.{wire_count}
use Rattle.flp_plan.proofs.PassedLemmas.{passed_fits, passed_terms}
use Rattle.flp_plan.proofs.CompileLemmas.{totals_in, passed_in, wires_fault, terms_fault}
use Rattle.flp_plan.proofs.compiler.refuse_large.Goals as goal

pub returns-then-wires-gt-MOST-clause-fault : goal.returns-then-wires-gt-MOST-clause-fault
returns-then-wires-gt-MOST-clause-fault c =
    wires_fault (program_of c.args.checked.now.body) c.from-wires.result
    (c.from-wires.ensures ∙ c.wire_points.ensures)
    c.if-wires-gt-MOST.true

pub term_count-requires : goal.term_count-requires
term_count-requires c = passed_fits (program_of c.args.checked.now.body) (totals_in c.args.checked.now) (passed_in c.args.checked.now)

pub returns-then-terms-gt-MOST-clause-fault : goal.returns-then-terms-gt-MOST-clause-fault
returns-then-terms-gt-MOST-clause-fault c =
    let few = passed_terms (program_of c.args.checked.now.body) (totals_in c.args.checked.now) (passed_in c.args.checked.now) in
    let wires : c.from-wires.result ≡ wire_count (program_of c.args.checked.now.body) =
    c.from-wires.ensures ∙ c.wire_points.ensures in
    terms_fault (program_of c.args.checked.now.body) c.in_ok-terms.terms (omega arith) (omega (arith, c.in_ok-terms.ensures)) c.if-terms-gt-MOST.true

pub returns-clause-within : goal.returns-clause-within
returns-clause-within c =
    let few = passed_terms (program_of c.args.checked.now.body) (totals_in c.args.checked.now) (passed_in c.args.checked.now) in
    let wires : c.from-wires.result ≡ wire_count (program_of c.args.checked.now.body) =
    c.from-wires.ensures ∙ c.wire_points.ensures in
    record { wires = omega arith; terms = omega (arith, c.in_ok-terms.ensures) }
