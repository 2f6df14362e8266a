use Rattle.std.proofs.Common.{◌≡◌, Some, None, ap, ◌∙◌}
use Rattle.flp_circuits.specs.Encoding.{meas_fault}
use Rattle.flp_generator.proofs.InputLemmas.{measured}
use Rattle.flp_generator.proofs.input.write_measured.Goals as goal

pub unreachable-requires : goal.unreachable-requires
unreachable-requires c =
    let params = c.args.params.now in
    let none = ap (meas_fault params) c.write_measurement.ensures ∙ measured params c.args.k c.requires.fits in
    let no : Some c.in-Err.field-0 ≡ None = c.in-Err.ensures.cause ∙ none in
    cc
