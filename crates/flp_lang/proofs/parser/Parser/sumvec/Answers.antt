use Rattle.std.proofs.Common.{◌∙◌, refl, codes}
use Rattle.flp_lang.specs.Ahead as ahead
use Rattle.flp_lang.specs.Ahead.{Ahead, done, next, fixed, range}
use Rattle.flp_syntax.specs.declared.syntax.Params.TheVariants as params
use Rattle.flp_syntax.specs.declared.token.Mark.TheVariants.{Semicolon}
use Rattle.flp_lang.proofs.Moves.{fails}
use Rattle.flp_lang.proofs.parser.Parser.sumvec.Goals as goal

pub returns-in_err-bits : goal.returns-in_err-bits
returns-in_err-bits c = λ K. fails _ _ _ _ _ _ _ _ _ _ c.from_residual-in_err-bits.ensures _ (c.in_ok-length.ensures (λ x0. next (ahead.setting (codes "bits")) (λ x1. next (ahead.setting (codes "chunk")) (λ x2. fixed Semicolon (K (params.SumVec x0 x1 x2)))))) (c.in_err-bits.ensures (λ x1. next (ahead.setting (codes "chunk")) (λ x2. fixed Semicolon (K (params.SumVec c.in_ok-length.length x1 x2)))))

pub returns-in_err-chunk : goal.returns-in_err-chunk
returns-in_err-chunk c = λ K. fails _ _ _ _ _ _ _ _ _ _ c.from_residual-in_err-chunk.ensures _ (c.in_ok-length.ensures (λ x0. next (ahead.setting (codes "bits")) (λ x1. next (ahead.setting (codes "chunk")) (λ x2. fixed Semicolon (K (params.SumVec x0 x1 x2))))) ∙ c.in_ok-bits.ensures (λ x1. next (ahead.setting (codes "chunk")) (λ x2. fixed Semicolon (K (params.SumVec c.in_ok-length.length x1 x2))))) (c.in_err-chunk.ensures (λ x2. fixed Semicolon (K (params.SumVec c.in_ok-length.length c.in_ok-bits.bits x2))))

pub returns-in_err-expect : goal.returns-in_err-expect
returns-in_err-expect c = λ K. fails _ _ _ _ _ _ _ _ _ _ c.from_residual-in_err-expect.ensures _ (c.in_ok-length.ensures (λ x0. next (ahead.setting (codes "bits")) (λ x1. next (ahead.setting (codes "chunk")) (λ x2. fixed Semicolon (K (params.SumVec x0 x1 x2))))) ∙ c.in_ok-bits.ensures (λ x1. next (ahead.setting (codes "chunk")) (λ x2. fixed Semicolon (K (params.SumVec c.in_ok-length.length x1 x2)))) ∙ c.in_ok-chunk.ensures (λ x2. fixed Semicolon (K (params.SumVec c.in_ok-length.length c.in_ok-bits.bits x2)))) (c.in_err-expect.ensures.runs (0, 0) (K (params.SumVec c.in_ok-length.length c.in_ok-bits.bits c.in_ok-chunk.chunk)) refl)

pub returns : goal.returns
returns c = λ K. c.in_ok-length.ensures (λ x0. next (ahead.setting (codes "bits")) (λ x1. next (ahead.setting (codes "chunk")) (λ x2. fixed Semicolon (K (params.SumVec x0 x1 x2))))) ∙ c.in_ok-bits.ensures (λ x1. next (ahead.setting (codes "chunk")) (λ x2. fixed Semicolon (K (params.SumVec c.in_ok-length.length x1 x2)))) ∙ c.in_ok-chunk.ensures (λ x2. fixed Semicolon (K (params.SumVec c.in_ok-length.length c.in_ok-bits.bits x2))) ∙ c.in_ok-expect.ensures.runs (0, 0) (K (params.SumVec c.in_ok-length.length c.in_ok-bits.bits c.in_ok-chunk.chunk)) refl
