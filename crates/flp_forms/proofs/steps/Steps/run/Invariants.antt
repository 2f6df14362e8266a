use Rattle.std.proofs.Common.{◌≡◌, length, take}
use Rattle.flp_field.specs.Word.{word_power}
use Rattle.flp_forms.specs.PublicValues.{publics, residues}
use Rattle.flp_forms.proofs.steps.Steps.run.Given as goal

abbrev pub invariant-loop-i : goal.invariant-loop-i
invariant-loop-i l = record {
  same : l.step-items ≡ l.self.steps;
  size : length l.out ≡ length l.self.steps;
  done : take l.i l.out ≡ residues (publics (take l.i l.self.steps) l.joint);
  last : l.last.value ≡ word_power l.last.base l.last.exponent;
}
