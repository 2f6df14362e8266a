-- Elements at mirrored places are exchanged one after another. What stands after some turns, and that a turn keeps it.
use Rattle.std.proofs.Common.{ℕ, ◌≡◌, ◌+◌, ◌^◌, ◌<◌, ◌≤◌, ◌⊎◌, List, get_or, arith, ap, sym, ◌∙◌, ⊎_elim, inl, inr}
use Rattle.std.specs.List.{SwappedAt}
use Rattle.std.proofs.lemmas.Bool.{cases_eq, cases_lt}
use Rattle.flp_ntt.specs.Levels.{reversed}
use Rattle.flp_ntt.proofs.Mirrors.{reversed-below, reversed-twice}

-- places below k, and their mirrors, hold the element of their mirror
abbrev pub AreExchanged : ℕ → ℕ → List ℕ → List ℕ → Type 0
AreExchanged log k old now =
    (j : ℕ) → j < 2 ^ log → (j < k) ⊎ (reversed log j < k) → get_or now j 0 ≡ get_or old (reversed log j) 0

-- the others hold their own
abbrev pub AreWaiting : ℕ → ℕ → List ℕ → List ℕ → Type 0
AreWaiting log k old now = (j : ℕ) → j < 2 ^ log → k ≤ j → k ≤ reversed log j → get_or now j 0 ≡ get_or old j 0

-- what has k as its mirror is the mirror of k
mirror_of : (log j k : ℕ) → j < 2 ^ log → reversed log j ≡ k → j ≡ reversed log k
mirror_of log j k below e = sym (reversed-twice log j below) ∙ ap (λ (x : ℕ). reversed log x) e

-- a place other than k that is done after the turn and is not the mirror was done before
done_before : (log j k : ℕ) → j < 2 ^ log → (j ≡ k → ⊥) → (j ≡ reversed log k → ⊥)
    → (j < k + 1) ⊎ (reversed log j < k + 1) → (j < k) ⊎ (reversed log j < k)
done_before log j k below other apart done =
    ⊎_elim
    (λ (l : j < k + 1).
    ⊎_elim (λ (less : j < k). inl less)
    (λ (more : k ≤ j). let e : j ≡ k = omega arith in absurd (other e)) (cases_lt j k))
    (λ (l : reversed log j < k + 1).
    ⊎_elim (λ (less : reversed log j < k). inr less)
    (λ (more : k ≤ reversed log j).
    let e : reversed log j ≡ k = omega arith in absurd (apart (mirror_of log j k below e)))
    (cases_lt (reversed log j) k)) done

pub exchanged_turn : (log k r : ℕ) (old now next : List ℕ) → k < 2 ^ log → r ≡ reversed log k → k < r
    → AreExchanged log k old now → AreWaiting log k old now → SwappedAt now next k r
    → AreExchanged log (k + 1) old next
exchanged_turn log k r old now next inside mirror above done waiting swapped j below which =
    let back : reversed log r ≡ k = ap (λ (x : ℕ). reversed log x) mirror ∙ reversed-twice log k inside in
    let r_below : reversed log k < 2 ^ log = reversed-below log k in
    ⊎_elim
    (λ (here : j ≡ k).
    ap (λ (x : ℕ). get_or next x 0) here ∙ swapped.0 0 ∙ waiting r (omega arith) (omega arith) (omega arith)
    ∙ ap (λ (x : ℕ). get_or old x 0) (mirror ∙ ap (λ (x : ℕ). reversed log x) (sym here)))
    (λ (other : j ≡ k → ⊥).
    ⊎_elim
    (λ (there : j ≡ r).
    ap (λ (x : ℕ). get_or next x 0) there ∙ swapped.1 0 ∙ waiting k inside (omega arith) (omega arith)
    ∙ ap (λ (x : ℕ). get_or old x 0) (sym back ∙ ap (λ (x : ℕ). reversed log x) (sym there)))
    (λ (apart : j ≡ r → ⊥).
    swapped.2 j 0 other apart
    ∙ done j below
    (done_before log j k below other (λ (e : j ≡ reversed log k). apart (e ∙ sym mirror)) which))
    (cases_eq j r)) (cases_eq j k)

pub waiting_turn : (log k r : ℕ) (old now next : List ℕ) → k < 2 ^ log → r ≡ reversed log k
    → AreWaiting log k old now → SwappedAt now next k r → AreWaiting log (k + 1) old next
waiting_turn log k r old now next inside mirror waiting swapped j below place place_mirror =
    let back : reversed log r ≡ k = ap (λ (x : ℕ). reversed log x) mirror ∙ reversed-twice log k inside in
    swapped.2 j 0 (λ (e : j ≡ k). absurd (omega arith))
    (λ (e : j ≡ r).
    let same : reversed log j ≡ k = ap (λ (x : ℕ). reversed log x) e ∙ back in
    absurd (omega arith))
    ∙ waiting j below (omega arith) (omega arith)

-- where the mirror is not above k, the two are exchanged already
pub exchanged_stay : (log k r : ℕ) (old now : List ℕ) → k < 2 ^ log → r ≡ reversed log k → r ≤ k
    → AreExchanged log k old now → AreWaiting log k old now → AreExchanged log (k + 1) old now
exchanged_stay log k r old now inside mirror above done waiting j below which =
    ⊎_elim
    (λ (here : j ≡ k).
    let own : reversed log j ≡ r = ap (λ (x : ℕ). reversed log x) here ∙ sym mirror in
    ⊎_elim (λ (less : r < k). done j below (inr (omega arith)))
    (λ (same : k ≤ r).
    let fixed : j ≡ reversed log j = omega arith in
    waiting j below (omega arith) (omega arith) ∙ ap (λ (x : ℕ). get_or old x 0) fixed) (cases_lt r k))
    (λ (other : j ≡ k → ⊥).
    ⊎_elim
    (λ (there : j ≡ r).
    ⊎_elim (λ (less : j < k). done j below (inl less))
    (λ (more : k ≤ j). let e : j ≡ k = omega arith in absurd (other e)) (cases_lt j k))
    (λ (apart : j ≡ r → ⊥).
    done j below (done_before log j k below other (λ (e : j ≡ reversed log k). apart (e ∙ sym mirror)) which))
    (cases_eq j r)) (cases_eq j k)

pub waiting_stay : (log k : ℕ) (old now : List ℕ) → AreWaiting log k old now → AreWaiting log (k + 1) old now
waiting_stay log k old now waiting j below place place_mirror = waiting j below (omega arith) (omega arith)
