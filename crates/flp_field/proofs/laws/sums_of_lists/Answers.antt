use Rattle.std.proofs.Common.{ℕ, List}
use Rattle.flp_field.proofs.ListSums.{length-sum_of_lists, words-sum_of_lists, sum_of_no_lists, sum_of_one_list, sum_has_first, sum_has_parts}
use Rattle.flp_field.proofs.laws.sums_of_lists.Goals as goal

pub returns-clause-words : goal.returns-clause-words
returns-clause-words c = λ (n : ℕ) (lists : List (List ℕ)). (length-sum_of_lists n lists, words-sum_of_lists n lists)

pub returns-clause-none : goal.returns-clause-none
returns-clause-none c = sum_of_no_lists

pub returns-clause-one : goal.returns-clause-one
returns-clause-one c = sum_of_one_list

pub returns-clause-first : goal.returns-clause-first
returns-clause-first c = sum_has_first

pub returns-clause-parts : goal.returns-clause-parts
returns-clause-parts c = sum_has_parts
