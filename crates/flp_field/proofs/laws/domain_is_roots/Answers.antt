use Rattle.std.proofs.Common.{ℕ, ◌<◌, ◌≤◌}
use Rattle.flp_field.specs.Word.{modulus}
use Rattle.flp_field.proofs.RootsOfUnity.{domain_is_roots_from, domain_is_roots_to}
use Rattle.flp_field.proofs.laws.domain_is_roots.Goals as goal

pub returns : goal.returns
returns c =
    λ (log t : ℕ) (small : log ≤ 32) (word : t < modulus).
    (domain_is_roots_from log t small word, domain_is_roots_to log t small word)
