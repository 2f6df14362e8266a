-- When an answer is as a case says. From the parts up.
use Rattle.std.specs.Prelude.{ℕ, ◌≡◌, false, List, take, IfSome, if◌then◌else◌}
use Rattle.flp_case_text.specs.declared.case.Case.{Case}
use Rattle.flp_case_text.specs.declared.answer.Answer.{Answer}

-- what is to be written where the call of this number fails: where writes of a byte fail in turn, a byte for each
-- write before, and else all
abbrev pub wanted_output : Case → ℕ → List ℕ
wanted_output case call = if case.in_turn then take call case.output.items else case.output.items

-- the answer where the call of this number fails
pub record IsAsWanted (case : Case) (call : ℕ) (answer : Answer) : Type 0 where
  pub status : answer.status ≡ case.status
  pub says : answer.says.items ≡ case.says.items
  pub output : case.any_output ≡ false → answer.output.items ≡ wanted_output case call
  pub left : IfSome case.left (λ n. answer.left ≡ n)
