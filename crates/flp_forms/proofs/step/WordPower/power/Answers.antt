use Rattle.std.proofs.Common.{rules, ℕ, ◌≡◌, ◌∙◌, ap, sym, arith}
use Rattle.flp_field.specs.Word.{word_power}
use Rattle.flp_forms.proofs.PublicLemmas.{next_power}
use Rattle.flp_forms.proofs.step.WordPower.power.Goals as goal

pub returns-then-eq : goal.returns-then-eq
returns-then-eq c =
    let same : c.args.base ≡ c.args.self.base = search rules in
    c.mul.ensures
    ∙ next_power c.args.base c.args.self.value c.args.self.exponent c.args.exponent
    (c.requires ∙ ap (λ (base : ℕ). word_power base c.args.self.exponent) (sym same)) (omega arith)
