use Rattle.flp_gadget.proofs.FormulaLemmas.{words-formula, length-formula}
use Rattle.flp_gadget.proofs.laws.formulas.Goals as goal

pub returns : goal.returns
returns c = record {
  words = words-formula;
  size = length-formula;
}
