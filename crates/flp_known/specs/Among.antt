-- Which nonces are in a list.
use Rattle.std.specs.Prelude.{ℕ, List, Bool, nat_eq}
use Rattle.std.specs.List.{list_any}
use Rattle.std.specs.Cmp.Lexicographic.{pointwise}

-- whether a nonce is one of these
abbrev pub is_among : List (List ℕ) → List ℕ → Bool
is_among nonces nonce = list_any (pointwise nat_eq nonce) nonces

-- whether any of the others is
abbrev pub any_among : (nonces others : List (List ℕ)) → Bool
any_among nonces others = list_any (is_among nonces) others
