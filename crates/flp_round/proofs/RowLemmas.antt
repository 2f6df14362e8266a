-- A row with outs in the places of one bucket.
use Rattle.std.proofs.Common.{◌≡◌, ℕ, ◌+◌, ◌-◌, ◌*◌, ◌≤◌, List, [], ◌++◌, length, take, drop, replicate, ap, refl, sym, ◌∙◌, arith, length-append, append_assoc}
use Rattle.std.proofs.Math.Nat.{add-mul}
use Rattle.std.proofs.lemmas.List.{length-replicate, take-replicate, drop-replicate, take_all}
use Rattle.std.proofs.lemmas.Slice.{put_mid-paste}
use borrow.Rule.Slice.PartMut.{put_mid}
use Rattle.flp_field.specs.Sums.{sum_of_lists}
use Rattle.flp_field.proofs.ListSums.{sum_of_no_lists}
use Rattle.flp_round.specs.Findings.{row_with}

-- the places behind the bucket's
behind : (buckets bucket n : ℕ) → bucket + 1 ≤ buckets → bucket * n + (n + (buckets - (bucket + 1)) * n) ≡ buckets * n
behind buckets bucket n in_range =
    let rest = buckets - (bucket + 1) in
    let whole : buckets ≡ bucket + 1 + rest = omega arith in
    let split = add-mul (bucket + 1) rest n in
    let one = add-mul bucket 1 n in
    let all : buckets * n ≡ (bucket + 1 + rest) * n = ap (λ b. b * n) whole in
    omega arith

pub length-row_with : (buckets bucket : ℕ) (outs : List ℕ) → bucket + 1 ≤ buckets → length (row_with buckets bucket outs) ≡ buckets * length outs
length-row_with buckets bucket outs in_range =
    let front : length (replicate (bucket * length outs) 0) ≡ bucket * length outs = length-replicate (bucket * length outs) 0 in
    let rest : List ℕ = replicate ((buckets - (bucket + 1)) * length outs) 0 in
    let back : length rest ≡ (buckets - (bucket + 1)) * length outs = length-replicate ((buckets - (bucket + 1)) * length outs) 0 in
    length-append (replicate (bucket * length outs) 0) (outs ++ rest)
    ∙ ((λ i. front i + length-append outs rest i)
    ∙ ((λ i. bucket * length outs + (length outs + back i)) ∙ behind buckets bucket (length outs) in_range))

-- what a cleared row is once the outs were written to the places of their bucket
pub written_row : (buckets bucket k : ℕ) (outs row cleared written : List ℕ) → bucket + 1 ≤ buckets → length row ≡ buckets * length outs → k ≡ length outs → cleared ≡ sum_of_lists (length row) [] → written ≡ outs
    → put_mid (bucket * length outs) k cleared written ≡ row_with buckets bucket outs
written_row buckets bucket k outs row cleared written in_range room size is same =
    let n = length outs in let front = bucket * n in let all = buckets * n in
    let whole = behind buckets bucket n in_range in
    let zeros : cleared ≡ replicate all 0 = is ∙ (sum_of_no_lists (length row) ∙ ap (λ m. replicate m 0) room) in
    let low : take front cleared ≡ replicate front 0 = ap (λ (l : List ℕ). take front l) zeros ∙ take-replicate front all 0 (omega arith) in
    let high : drop (front + n) cleared ≡ replicate ((buckets - (bucket + 1)) * n) 0 = ap (λ (l : List ℕ). drop (front + n) l) zeros ∙ (drop-replicate (front + n) all 0 ∙ ap (λ m. replicate m 0) (omega arith)) in
    put_mid-paste front k cleared written outs n same (sym size) refl
    ∙ (append_assoc (take front cleared) (take n outs) (drop (front + n) cleared)
    ∙ (λ i. low i ++ (take_all n outs (omega arith) i ++ high i)))
