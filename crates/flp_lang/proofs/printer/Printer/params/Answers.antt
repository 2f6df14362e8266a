use Rattle.std.proofs.Common.{◌∷◌, ◌∙◌, codes}
use Rattle.flp_syntax.specs.declared.token.Token.TheVariants.{Name, Fixed}
use Rattle.flp_syntax.specs.declared.token.Mark.TheVariants.{Semicolon}
use Rattle.flp_lang.specs.Print.{put_setting}
use Rattle.flp_lang.proofs.Writing.{wrote_then}
use Rattle.flp_lang.proofs.printer.Printer.params.Goals as goal

pub returns-in_ok-setting-in-SumVec-3 : goal.returns-in_ok-setting-in-SumVec-3
returns-in_ok-setting-in-SumVec-3 c = rw c.in-SumVec.is (
    wrote_then _ _ _ _ (λ s. Name (codes "sumvec") ∷ put_setting (codes "length") c.in-SumVec.length (put_setting (codes "bits") c.in-SumVec.bits (put_setting (codes "chunk") c.in-SumVec.chunk s))) (λ s. Fixed Semicolon ∷ s)
    (λ s. c.in_ok-name-in-SumVec.ensures _ ∙ c.in_ok-setting-in-SumVec.ensures _ ∙ c.in_ok-setting-in-SumVec-2.ensures _ ∙ c.in_ok-setting-in-SumVec-3.ensures s) c.mark-in-SumVec.ensures)

pub returns-in_ok-setting-in-Histogram-2 : goal.returns-in_ok-setting-in-Histogram-2
returns-in_ok-setting-in-Histogram-2 c = rw c.in-Histogram.is (
    wrote_then _ _ _ _ (λ s. Name (codes "histogram") ∷ put_setting (codes "length") c.in-Histogram.length (put_setting (codes "chunk") c.in-Histogram.chunk s)) (λ s. Fixed Semicolon ∷ s)
    (λ s. c.in_ok-name-in-Histogram.ensures _ ∙ c.in_ok-setting-in-Histogram.ensures _ ∙ c.in_ok-setting-in-Histogram-2.ensures s) c.mark-in-Histogram.ensures)

pub returns-in_ok-setting-in-Multihot-3 : goal.returns-in_ok-setting-in-Multihot-3
returns-in_ok-setting-in-Multihot-3 c = rw c.in-Multihot.is (
    wrote_then _ _ _ _ (λ s. Name (codes "multihot") ∷ put_setting (codes "length") c.in-Multihot.length (put_setting (codes "weight") c.in-Multihot.weight (put_setting (codes "chunk") c.in-Multihot.chunk s))) (λ s. Fixed Semicolon ∷ s)
    (λ s. c.in_ok-name-in-Multihot.ensures _ ∙ c.in_ok-setting-in-Multihot.ensures _ ∙ c.in_ok-setting-in-Multihot-2.ensures _ ∙ c.in_ok-setting-in-Multihot-3.ensures s) c.mark-in-Multihot.ensures)
