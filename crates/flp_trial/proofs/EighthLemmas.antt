-- How many places of eight times so many have each verdict, where the verdict goes by the place modulo 8.
use Rattle.std.proofs.Common.{ℕ, zero, suc, ◌≡◌, ◌+◌, ◌*◌, ◌%◌, ◌<◌, ◌==◌, List, [], ◌∷◌, length, map, refl, ap, ap₂, ◌∙◌, arith}
use Rattle.std.specs.Prelude.{if◌then◌else◌, slice_index_or}
use Rattle.std.specs.List.{range_with_len}
use Rattle.flp_policy.specs.declared.verdict.Verdict.{Verdict}
use Rattle.flp_policy.specs.declared.verdict.Verdict.TheVariants.{Accepted, Rejected, InDomain, Malformed, Replayed}
use Rattle.flp_policy.specs.Counts.{VerdictCounts, one_more, counts_of}

-- the verdict at a place with this number modulo 8
abbrev pub verdict_by_eighth : ℕ → Verdict
verdict_by_eighth r =
    if r == 4 then Rejected
    else if r == 5 then InDomain 0 0
    else if r == 6 then Malformed 0
    else if r == 7 then Replayed
    else Accepted

abbrev pub counts_of_eighths : ℕ → VerdictCounts
counts_of_eighths n = record { accepted = 4 * n; rejected = n; in_domain = n; malformed = n; replayed = n }

-- a list is that of its elements
list-of : (f : ℕ → Verdict) (start : ℕ) (vs : List Verdict) → ((i : ℕ) → i < length vs → slice_index_or vs i Replayed ≡ f (start + i)) → vs ≡ map f (range_with_len start (length vs))
list-of f start [] each = refl
list-of f start (v ∷ vs) each =
    let own : start + 0 ≡ start = omega arith in
    ap₂ (λ (x : Verdict) (xs : List Verdict). x ∷ xs) (each 0 (omega arith) ∙ ap f own)
    (list-of f (start + 1) vs (λ i below. let at : start + suc i ≡ start + 1 + i = omega arith in each (suc i) (omega (arith, below)) ∙ ap f at))

-- eight more
counts-more : (n start : ℕ) → start % 8 ≡ 0 → counts_of (map (λ place. verdict_by_eighth (place % 8)) (range_with_len start (8 * n))) ≡ counts_of_eighths n
counts-more zero start first = refl
counts-more (suc n) start first =
    let size : 8 * suc n ≡ suc (suc (suc (suc (suc (suc (suc (suc (8 * n)))))))) = omega arith in
    let rest : counts_of (map (λ place. verdict_by_eighth (place % 8)) (range_with_len (start + 8) (8 * n))) ≡ counts_of_eighths n = counts-more n (start + 8) (omega (arith, first)) in
    let next : start + 1 + 1 + 1 + 1 + 1 + 1 + 1 + 1 ≡ start + 8 = omega arith in
    let r1 : (start + 1) % 8 ≡ 1 = omega (arith, first) in
    let r2 : (start + 1 + 1) % 8 ≡ 2 = omega (arith, first) in
    let r3 : (start + 1 + 1 + 1) % 8 ≡ 3 = omega (arith, first) in
    let r4 : (start + 1 + 1 + 1 + 1) % 8 ≡ 4 = omega (arith, first) in
    let r5 : (start + 1 + 1 + 1 + 1 + 1) % 8 ≡ 5 = omega (arith, first) in
    let r6 : (start + 1 + 1 + 1 + 1 + 1 + 1) % 8 ≡ 6 = omega (arith, first) in
    let r7 : (start + 1 + 1 + 1 + 1 + 1 + 1 + 1) % 8 ≡ 7 = omega (arith, first) in
    let more : ℕ → VerdictCounts → VerdictCounts = λ r c. one_more (verdict_by_eighth r) c in
    let tail : VerdictCounts = counts_of (map (λ place. verdict_by_eighth (place % 8)) (range_with_len (start + 1 + 1 + 1 + 1 + 1 + 1 + 1 + 1) (8 * n))) in
    let last : tail ≡ counts_of_eighths n = ap (λ (s : ℕ). counts_of (map (λ place. verdict_by_eighth (place % 8)) (range_with_len s (8 * n)))) next ∙ rest in
    let four : 4 + 4 * n ≡ 4 * suc n = omega arith in
    ap (λ (m : ℕ). counts_of (map (λ place. verdict_by_eighth (place % 8)) (range_with_len start m))) size
    ∙ ((λ i. more (first i) (more (r1 i) (more (r2 i) (more (r3 i) (more (r4 i) (more (r5 i) (more (r6 i) (more (r7 i) (last i)))))))))
    ∙ eight n)
  where
    eight : (n : ℕ) → one_more Accepted (one_more Accepted (one_more Accepted (one_more Accepted (one_more Rejected (one_more (InDomain 0 0) (one_more (Malformed 0) (one_more Replayed (counts_of_eighths n)))))))) ≡ counts_of_eighths (suc n)
    eight n =
        let a : 4 * n + 1 + 1 + 1 + 1 ≡ 4 * suc n = omega arith in
        let o : n + 1 ≡ suc n = omega arith in
        λ i. record { accepted = a i; rejected = o i; in_domain = o i; malformed = o i; replayed = o i }

pub counts-eighths : (n : ℕ) (vs : List Verdict) → length vs ≡ 8 * n → ((i : ℕ) → i < 8 * n → slice_index_or vs i Replayed ≡ verdict_by_eighth (i % 8)) → counts_of vs ≡ counts_of_eighths n
counts-eighths n vs size each =
    let f : ℕ → Verdict = λ place. verdict_by_eighth (place % 8) in
    ap counts_of (list-of f 0 vs (λ i below. let at : i ≡ 0 + i = omega arith in each i (omega (arith, below, size)) ∙ ap f at) ∙ ap (λ (m : ℕ). map f (range_with_len 0 m)) size)
    ∙ counts-more n 0 (omega arith)
