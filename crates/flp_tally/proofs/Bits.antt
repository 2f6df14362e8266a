-- The claim bits after one of them is set.
use Rattle.std.proofs.Common.{◌≡◌, ℕ, ◌+◌, ◌*◌, ◌/◌, ◌%◌, ◌^◌, ◌<◌, ◌≢◌, List, length, get_or, set, bit_or, sym, ap, ◌∙◌, subst, arith, w64, get_or-set_same, get_or-set_other}
use Rattle.std.specs.Int.{bit_at}
use Rattle.std.proofs.lemmas.Nat.Bits.{bit_at_set_same, bit_at_set_other, bit_at-lt}
use mathlib.Core.Logic.{dite}
use native.Mathlib.Decide.{ℕ_discrete}
use Rattle.flp_tally.specs.Rule.{claim_word, claim_bit}

-- the words after a fetch_or of the bit of x
abbrev pub marked : List ℕ → ℕ → List ℕ
marked ws x = set ws (claim_word x) (bit_or (get_or ws (claim_word x) 0) (1 * 2 ^ (x % 64) % 2 ^ 64))

pub bit-lt : (ws : List ℕ) (x : ℕ) → claim_bit ws x < 2
bit-lt ws x = bit_at-lt (get_or ws (claim_word x) 0) (x % 64)

pub marked_same : (ws : List ℕ) (x : ℕ) → claim_word x < length ws → claim_bit (marked ws x) x ≡ 1
marked_same ws x long = let k : x % 64 < 64 = omega arith in
    ap (λ n. bit_at n (x % 64)) (get_or-set_same ws (claim_word x) (bit_or (get_or ws (claim_word x) 0) (1 * 2 ^ (x % 64) % 2 ^ 64)) 0 long) ∙ bit_at_set_same w64 (get_or ws (claim_word x) 0) (x % 64) k

pub marked_word : (ws : List ℕ) (x i : ℕ) → i ≢ claim_word x → get_or (marked ws x) i 0 ≡ get_or ws i 0
marked_word ws x i apart = get_or-set_other ws (claim_word x) i (bit_or (get_or ws (claim_word x) 0) (1 * 2 ^ (x % 64) % 2 ^ 64)) 0 apart

pub marked_other : (ws : List ℕ) (x y : ℕ) → claim_word x < length ws → y ≢ x → claim_bit (marked ws x) y ≡ claim_bit ws y
marked_other ws x y long apart = dite (ℕ_discrete (y / 64) (x / 64))
    (λ same. let k : x % 64 < 64 = omega arith in let off : y % 64 ≢ x % 64 = λ e. apart (omega arith) in
    let here : get_or (marked ws x) (claim_word y) 0 ≡ bit_or (get_or ws (claim_word y) 0) (1 * 2 ^ (x % 64) % 2 ^ 64)
    = subst (λ (q : ℕ). get_or (marked ws x) (3 + q) 0 ≡ bit_or (get_or ws (3 + q) 0) (1 * 2 ^ (x % 64) % 2 ^ 64)) (sym same) (get_or-set_same ws (claim_word x) (bit_or (get_or ws (claim_word x) 0) (1 * 2 ^ (x % 64) % 2 ^ 64)) 0 long) in
    ap (λ n. bit_at n (y % 64)) here ∙ bit_at_set_other w64 (get_or ws (claim_word y) 0) (x % 64) k (y % 64) off)
    (λ else. ap (λ n. bit_at n (y % 64)) (marked_word ws x (claim_word y) (λ e. else (omega arith))))
