use Rattle.std.proofs.Common.{◌∙◌, sym}
use Rattle.flp_lang.proofs.Moves as moves
use Rattle.flp_lang.proofs.Moves.{fails, level_closed, value_read, more_read, all_read, one_read, list_read, along}
use Rattle.flp_lang.proofs.parser.Parser.standard.Goals as goal

pub returns-in-Count : goal.returns-in-Count
returns-in-Count c = λ K. moves.along_from _ _ _ _ _ _ _ _ _ _ _ _ (moves.tail_which _ _ _ _ K _ _ (sym c.which-which.ensures ∙ c.in-Count.is) c.skip.ensures) (c.count.ensures K)

pub returns-in-Sum : goal.returns-in-Sum
returns-in-Sum c = λ K. moves.along_from _ _ _ _ _ _ _ _ _ _ _ _ (moves.tail_which _ _ _ _ K _ _ (sym c.which-which.ensures ∙ c.in-Sum.is) c.skip.ensures) (c.sum_circuit.ensures K)

pub returns-in-SumVec : goal.returns-in-SumVec
returns-in-SumVec c = λ K. moves.along_from _ _ _ _ _ _ _ _ _ _ _ _ (moves.tail_which _ _ _ _ K _ _ (sym c.which-which.ensures ∙ c.in-SumVec.is) c.skip.ensures) (c.sumvec.ensures K)

pub returns-in-Histogram : goal.returns-in-Histogram
returns-in-Histogram c = λ K. moves.along_from _ _ _ _ _ _ _ _ _ _ _ _ (moves.tail_which _ _ _ _ K _ _ (sym c.which-which.ensures ∙ c.in-Histogram.is) c.skip.ensures) (c.histogram.ensures K)

pub returns-in-Multihot : goal.returns-in-Multihot
returns-in-Multihot c = λ K. moves.along_from _ _ _ _ _ _ _ _ _ _ _ _ (moves.tail_which _ _ _ _ K _ _ (sym c.which-which.ensures ∙ c.in-Multihot.is) c.skip.ensures) (c.multihot.ensures K)

pub returns-in-Other : goal.returns-in-Other
returns-in-Other c = λ K. moves.tail_which _ _ _ _ K _ _ (sym c.which-which.ensures ∙ c.in-Other.is) c.skip.ensures
