-- Whether a nonce is known behind old claims.
use Rattle.std.proofs.Common.{◌≡◌, ℕ, List, Bool, true, false, ◌||◌, nat_eq, ap, ◌∙◌}
use Rattle.std.specs.List.{list_any}
use Rattle.std.specs.Ordering.{nat_cmp}
use Rattle.std.specs.Cmp.Lexicographic.{pointwise, slice_cmp}
use Rattle.std.specs.BTreeMap.{is_at}
use Rattle.std.proofs.lemmas.List.Folds.{list_any-append}
use Rattle.flp_known.specs.Among.{is_among}
use Rattle.flp_known.specs.Order.{with_nonces}
use Rattle.flp_known.proofs.AmongLemmas.{among-keys}
use Rattle.flp_known.proofs.RisingLemmas.{is_among-with_nonces}

known-either : (claims met : List (List ℕ)) (nonce : List ℕ) → is_among (with_nonces claims met) nonce ≡ (is_among claims nonce || is_among met nonce)
known-either claims met nonce = is_among-with_nonces claims met nonce ∙ list_any-append (pointwise nat_eq nonce) claims met

-- an old claim is
pub known-claim : (claims met : List (List ℕ)) (nonce : List ℕ) → is_among claims nonce ≡ true → is_among (with_nonces claims met) nonce ≡ true
known-claim claims met nonce is = known-either claims met nonce ∙ ap (λ (b : Bool). b || is_among met nonce) is

-- and another where the set of the others has it
pub known-other : (claims met : List (List ℕ)) (nonce : List ℕ) → is_among claims nonce ≡ false
    → is_among (with_nonces claims met) nonce ≡ list_any (is_at (slice_cmp nat_cmp nonce)) met
known-other claims met nonce other =
    known-either claims met nonce ∙ (ap (λ (b : Bool). b || is_among met nonce) other ∙ among-keys met nonce)
