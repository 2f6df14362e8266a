use Rattle.std.proofs.Common.{◌∷◌, ◌∙◌}
use Rattle.flp_syntax.specs.declared.token.Token.TheVariants.{Number, Fixed}
use Rattle.flp_syntax.specs.declared.token.Mark.TheVariants.{Joint, Semicolon}
use Rattle.flp_lang.proofs.Writing.{wrote_then}
use Rattle.flp_lang.proofs.printer.Printer.words.Goals as goal

pub returns : goal.returns
returns c =
    wrote_then _ _ _ _ (λ s. Number c.args.meas ∷ Fixed Semicolon ∷ Fixed Joint ∷ Number c.args.joint ∷ s) (λ s. Fixed Semicolon ∷ s)
    (λ s. c.in_ok-number.ensures _ ∙ c.in_ok-mark.ensures _ ∙ c.in_ok-mark-2.ensures _ ∙ c.in_ok-number-2.ensures s) c.mark-3.ensures
