-- Verdicts that are told one after another: counts, and what policies answer afterwards.
use Rattle.std.proofs.Common.{◌≡◌, ℕ, ◌+◌, ◌<◌, ◌≤◌, List, [], ◌∷◌, ◌++◌, length, take, Bool, not, Some, refl, sym, ap, subst, ap₂, ◌∙◌, arith, append_assoc}
use Rattle.std.specs.Prelude.{nat_le, position, slice_get}
use Rattle.std.proofs.lemmas.List.{take_more, take_all}
use Rattle.std.proofs.lemmas.Option.{slice_get_within, get_or_from_slice_get}
use Rattle.flp_policy.specs.declared.verdict.Verdict.{Verdict}
use Rattle.flp_policy.specs.declared.verdict.Verdict.TheVariants.{Accepted, Rejected, InDomain, Malformed, Replayed}
use Rattle.flp_policy.specs.Counts.{VerdictCounts, no_more, one_more, one_more_in, counts_of}
use Rattle.flp_verdict.specs.Release.{Answers, refusal}
use Rattle.flp_verify.specs.Told.{told_in, AreTold}

-- ---- counts

-- from none on, told verdicts come to what they count
pub told_in-counts : (vs : List Verdict) → told_in 0 vs 0 no_more ≡ counts_of vs
told_in-counts [] = refl
told_in-counts (v ∷ vs) = ap (one_more v) (told_in-counts vs)

-- telling some and then others is telling both
pub told_in-append : (bucket : ℕ) (xs ys : List Verdict) (of : ℕ) (n : VerdictCounts) → told_in bucket (xs ++ ys) of n ≡ told_in bucket xs of (told_in bucket ys of n)
told_in-append bucket [] ys of n = refl
told_in-append bucket (x ∷ xs) ys of n = ap (one_more_in bucket x of) (told_in-append bucket xs ys of n)

-- it does not matter which of two verdicts is counted first
swapped : (v w : Verdict) (n : VerdictCounts) → one_more v (one_more w n) ≡ one_more w (one_more v n)
swapped Accepted Accepted n = refl
swapped Accepted Rejected n = refl
swapped Accepted (InDomain proof gadget) n = refl
swapped Accepted (Malformed word) n = refl
swapped Accepted Replayed n = refl
swapped Rejected Accepted n = refl
swapped Rejected Rejected n = refl
swapped Rejected (InDomain proof gadget) n = refl
swapped Rejected (Malformed word) n = refl
swapped Rejected Replayed n = refl
swapped (InDomain proof gadget) Accepted n = refl
swapped (InDomain proof gadget) Rejected n = refl
swapped (InDomain proof gadget) (InDomain proof' gadget') n = refl
swapped (InDomain proof gadget) (Malformed word) n = refl
swapped (InDomain proof gadget) Replayed n = refl
swapped (Malformed word) Accepted n = refl
swapped (Malformed word) Rejected n = refl
swapped (Malformed word) (InDomain proof gadget) n = refl
swapped (Malformed word) (Malformed word') n = refl
swapped (Malformed word) Replayed n = refl
swapped Replayed Accepted n = refl
swapped Replayed Rejected n = refl
swapped Replayed (InDomain proof gadget) n = refl
swapped Replayed (Malformed word) n = refl
swapped Replayed Replayed n = refl

-- the last is counted as any other
counts_of-last : (vs : List Verdict) (v : Verdict) → counts_of (vs ++ v ∷ []) ≡ one_more v (counts_of vs)
counts_of-last [] v = refl
counts_of-last (w ∷ vs) v = ap (one_more w) (counts_of-last vs v) ∙ swapped w v (counts_of vs)

-- ---- the first verdicts of a list

-- the first i of these were told, from some numbers and answers on
module _ (vs : List Verdict) where
  -- one more of them
  first-more : (i : ℕ) (v : Verdict) → slice_get vs i ≡ Some v → take (i + 1) vs ≡ take i vs ++ v ∷ []
  first-more i v is =
      take_more vs i v (slice_get_within vs i v is) ∙ ap (λ (w : Verdict). take i vs ++ w ∷ []) (get_or_from_slice_get vs i v v is)

  pub counted-more : (i : ℕ) (v : Verdict) (seen : List Verdict) (mid new : VerdictCounts) → slice_get vs i ≡ Some v → mid ≡ counts_of (seen ++ take i vs) → new ≡ one_more v mid → new ≡ counts_of (seen ++ take (i + 1) vs)
  counted-more i v seen mid new is so one =
      one ∙ (ap (one_more v) so
      ∙ (sym (counts_of-last (seen ++ take i vs) v)
      ∙ ap counts_of (append_assoc seen (take i vs) (v ∷ []) ∙ ap (λ (l : List Verdict). seen ++ l) (sym (first-more i v is)))))

  pub told-more : {B : Type 0} {bucket : ℕ} {old mid new : VerdictCounts → ℕ → B} (i : ℕ) (v : Verdict) → slice_get vs i ≡ Some v → AreTold bucket (take i vs) old mid
      → ((more : VerdictCounts) (of : ℕ) → new more of ≡ mid (one_more_in bucket v of more) of) → AreTold bucket (take (i + 1) vs) old new
  told-more {bucket = bucket} {old = old} i v is so one =
      record {
        answers = λ more of. one more of ∙ (so.answers (one_more_in bucket v of more) of
            ∙ ap (λ (n : VerdictCounts). old n of) (sym (ap (λ (l : List Verdict). told_in bucket l of more) (first-more i v is) ∙ told_in-append bucket (take i vs) (v ∷ []) of more)));
      }

  -- all of them
  pub told-all : {B : Type 0} {bucket : ℕ} {old new : VerdictCounts → ℕ → B} (i : ℕ) → length vs ≤ i → AreTold bucket (take i vs) old new → AreTold bucket vs old new
  told-all {bucket = bucket} {old = old} {new = new} i all so = subst (λ (l : List Verdict). AreTold bucket l old new) (take_all i vs all) so

-- ---- what is told and then asked

-- no verdict was told
pub told-none : {B : Type 0} {bucket : ℕ} {old : VerdictCounts → ℕ → B} → AreTold bucket [] old old
told-none = record { answers = λ more of. refl }

-- some were told and then others: both were told
pub told-after : {B : Type 0} {bucket : ℕ} {xs ys : List Verdict} {old mid new : VerdictCounts → ℕ → B} → AreTold bucket xs old mid → AreTold bucket ys mid new → AreTold bucket (xs ++ ys) old new
told-after {bucket = bucket} {xs = xs} {ys = ys} {old = old} p q =
    record { answers = λ more of. q.answers more of ∙ (p.answers (told_in bucket ys of more) of ∙ ap (λ (n : VerdictCounts). old n of) (sym (told_in-append bucket xs ys of more))) }

-- after all verdicts were told, no more are needed for the answer
pub told-asked : {B : Type 0} {vs : List Verdict} {old new : VerdictCounts → ℕ → B} → AreTold 0 vs old new → new no_more 0 ≡ old (counts_of vs) 0
told-asked {vs = vs} {old = old} p = p.answers no_more 0 ∙ ap (λ (n : VerdictCounts). old n 0) (told_in-counts vs)

-- a floor that was new, and policies: the first of them that does not allow the release, after they were told all verdicts
pub floor-asked : {vs : List Verdict} {fresh floor : VerdictCounts → ℕ → Bool} {would asked : Answers} (least : ℕ)
    → ((more : VerdictCounts) (of : ℕ) → of < 256 → fresh more of ≡ nat_le least more.accepted)
    → AreTold 0 vs fresh floor → AreTold 0 vs would asked
    → position not (floor no_more 0 ∷ asked no_more 0) ≡ refusal least would (counts_of vs) 0
floor-asked {vs = vs} least new p q =
    ap₂ (λ (b : Bool) (bs : List Bool). position not (b ∷ bs)) (told-asked p ∙ new (counts_of vs) 0 (omega arith)) (told-asked q)
