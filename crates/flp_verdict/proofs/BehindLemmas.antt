-- Lists that are appended one after another.
use Rattle.std.proofs.Common.{◌≡◌, ℕ, ◌+◌, List, ◌++◌, sym, ap, ◌∙◌, arith, append_assoc}
use Rattle.std.specs.List.{flat_map, range_with_len}
use Rattle.flp_meaning.proofs.StartLemmas.{flat-more}

-- one number's list more, behind those before it
pub more-behind : (f : ℕ → List ℕ) (n : ℕ) (start before after : List ℕ) → before ≡ start ++ flat_map f (range_with_len 0 n) → after ≡ before ++ f n
    → after ≡ start ++ flat_map f (range_with_len 0 (n + 1))
more-behind f n start before after first last =
    let lists : List ℕ = flat_map f (range_with_len 0 n) in
    let zeroth : 0 + n ≡ n = omega arith in
    last
    ∙ (ap (λ (l : List ℕ). l ++ f n) first
    ∙ (append_assoc start lists (f n)
    ∙ ap (λ (l : List ℕ). start ++ l) (ap (λ (k : ℕ). lists ++ f k) (sym zeroth) ∙ sym (flat-more f 0 n))))
