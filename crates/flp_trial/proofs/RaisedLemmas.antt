-- An honest proof whose last word is raised is refused, where no answer enters the inputs of a call.
use Rattle.std.proofs.Common.{ℕ, zero, suc, ◌≡◌, ◌≢◌, ◌+◌, ◌-◌, ◌*◌, ◌%◌, ◌^◌, ◌<◌, Bool, true, false, List, [], ◌∷◌, length, take, drop, set, slice_index, Option, Some, None, refl, sym, ap, ap₂, subst, ◌∙◌, arith, ⊎_elim}
use Rattle.std.proofs.Math.Nat.{pow-suc, pow-zero}
use Rattle.std.proofs.Math.Seq.{take-set-lt}
use Rattle.std.proofs.lemmas.List.{drop-set-add, take-set-le, get_or-take, get_or-drop}
use Rattle.flp_field.specs.Word.{modulus, IsWord, word_sum}
use Rattle.flp_field.proofs.Congruence.{Same, same_eq, same_mod, same_add, same_mul, same_cancel, mod_word}
use Rattle.flp_field.proofs.Order.{no_zero_divisors}
use Rattle.flp_poly.specs.Polynomial.{sum_of_terms, value_at}
use Rattle.flp_gadget.specs.KindTree.{formula_of}
use Rattle.flp_syntax.specs.Tree.{Program}
use Rattle.flp_meaning.specs.Meaning.{Call}
use Rattle.flp_meaning.specs.Circuit.{kind_of}
use Rattle.flp_meaning.specs.Gadgets.{arity_of}
use Rattle.flp_meaning.specs.Lengths.{start_of, coefficient_count, proof_part}
use Rattle.flp_meaning.specs.Wires.{wires_of}
use Rattle.flp_meaning.specs.Proof.{seeds_in, polynomial_in, honest_proof, answers_in, formula_in}
use Rattle.flp_meaning.specs.ProofLaws.{IsBounded, AreSeeds, Holds}
use Rattle.flp_meaning.specs.Verifier.{point_of, answer_from, is_taken, decides, accepts, gadget_in_domain, verifier_words}
use Rattle.flp_meaning.proofs.PartLemmas.{length-words_at}
use Rattle.flp_meaning.proofs.StartLemmas.{start-more}
use Rattle.flp_meaning.proofs.Honest.{honest_proof_has_length, honest_proof_has_parts}
use Rattle.flp_meaning.proofs.Decisions.{decisions_mean}
use Rattle.flp_trial.specs.Places.{CallsStand}

-- the last word is one more
abbrev pub raised : List ℕ → List ℕ
raised words = set words (length words - 1) (word_sum (slice_index words (length words - 1)) 1)

-- ---- powers of a word

-- none of a word that is not 0 is 0
pub power-some : (t k : ℕ) → IsWord t → t ≢ 0 → t ^ k % modulus ≢ 0
power-some t zero word some none =
    let one : 1 % modulus ≡ 0 = ap (λ (n : ℕ). n % modulus) (sym (pow-zero t)) ∙ none in
    absurd (omega (arith, one))
power-some t (suc k) word some none =
    let product : (t ^ k % modulus * t) % modulus ≡ 0 =
    same_mul (t ^ k % modulus) (t ^ k) t t (same_mod (t ^ k)) refl ∙ (ap (λ (n : ℕ). n % modulus) (sym (pow-suc t k)) ∙ none) in
    ⊎_elim (λ first. power-some t k word some first) (λ last. some last) (no_zero_divisors (t ^ k % modulus) t (mod_word (t ^ k)) word product)

-- ---- a coefficient that is changed

-- another coefficient changes the sum by its term
sum-set : (i : ℕ) (cs : List ℕ) (k v t : ℕ) → k < length cs
    → sum_of_terms i (set cs k v) t + slice_index cs k * t ^ (i + k) ≡ sum_of_terms i cs t + v * t ^ (i + k)
sum-set i [] k v t below = absurd (omega arith)
sum-set i (c ∷ cs) zero v t below =
    let own : i + 0 ≡ i = omega arith in
    subst (λ (n : ℕ). v * t ^ i + sum_of_terms (i + 1) cs t + c * t ^ n ≡ c * t ^ i + sum_of_terms (i + 1) cs t + v * t ^ n) (sym own) (omega arith)
sum-set i (c ∷ cs) (suc k) v t below =
    let on : i + 1 + k ≡ i + suc k = omega arith in
    let rest : sum_of_terms (i + 1) (set cs k v) t + slice_index cs k * t ^ (i + suc k) ≡ sum_of_terms (i + 1) cs t + v * t ^ (i + suc k) =
    subst (λ (n : ℕ). sum_of_terms (i + 1) (set cs k v) t + slice_index cs k * t ^ n ≡ sum_of_terms (i + 1) cs t + v * t ^ n) on (sum-set (i + 1) cs k v t (omega arith)) in
    omega (arith, rest)

-- so a coefficient that is one more leaves the value only where its power of the point is 0
value-raised : (cs : List ℕ) (k t : ℕ) → k < length cs → value_at (set cs k (word_sum (slice_index cs k) 1)) t ≡ value_at cs t → t ^ k % modulus ≡ 0
value-raised cs k t below same =
    let c : ℕ = slice_index cs k in
    let v : ℕ = word_sum c 1 in
    let power : ℕ = t ^ k in
    let before : ℕ = sum_of_terms 0 cs t in
    let behind : ℕ = sum_of_terms 0 (set cs k v) t in
    let at : 0 + k ≡ k = omega arith in
    let sums : behind + c * power ≡ before + v * power =
    subst (λ (n : ℕ). behind + c * t ^ n ≡ before + v * t ^ n) at (sum-set 0 cs k v t below) in
    let added : Same (c * power + before) (behind + c * power) =
    same_add (c * power) (c * power) before behind refl (sym same) ∙ (let turned : c * power + behind ≡ behind + c * power = omega arith in same_eq (c * power + behind) (behind + c * power) turned) in
    let equal : Same (c * power + before) (v * power + before) =
    added ∙ (same_eq (behind + c * power) (before + v * power) sums ∙ (let turned : before + v * power ≡ v * power + before = omega arith in same_eq (before + v * power) (v * power + before) turned)) in
    let terms : Same (c * power) ((c + 1) * power) =
    same_cancel (c * power) (v * power) before equal ∙ same_mul v (c + 1) power power (same_mod (c + 1)) refl in
    let apart : (c + 1) * power ≡ power + c * power = omega arith in
    let front : 0 + c * power ≡ c * power = omega arith in
    sym (same_cancel 0 power (c * power) (same_eq (0 + c * power) (c * power) front ∙ (terms ∙ same_eq ((c + 1) * power) (power + c * power) apart)))

-- ---- the proof

module _ (body : Program) (x joint seeds query : List ℕ) (bounded : IsBounded body) (are : AreSeeds body seeds) (stand : CallsStand body) where
  abbrev last : ℕ
  last = length body.gadgets - 1

  abbrev proof : List ℕ
  proof = honest_proof body x joint seeds

  abbrev start : ℕ
  start = start_of (proof_part body) last

  abbrev arity : ℕ
  arity = arity_of body last

  -- the number of the last coefficient
  abbrev top : ℕ
  top = coefficient_count body last - 1

  abbrev honest : List ℕ
  honest = polynomial_in body proof last

  inside : last < length body.gadgets
  inside = omega (arith, bounded.some_gadget)

  size : length proof ≡ start + (arity + coefficient_count body last)
  size =
      let whole : last + 1 ≡ length body.gadgets = omega (arith, bounded.some_gadget) in
      honest_proof_has_length body x joint seeds bounded are
      ∙ (ap (start_of (proof_part body)) (sym whole) ∙ start-more (proof_part body) last)

  at-end : length proof - 1 ≡ start + (arity + top)
  at-end = omega (arith, size)

  at-top : length proof - 1 ≡ start + arity + top
  at-top = omega (arith, size)

  abbrev value : ℕ
  value = word_sum (slice_index proof (length proof - 1)) 1

  same-seeds : seeds_in body (raised proof) last ≡ seeds_in body proof last
  same-seeds =
      ap (λ (n : ℕ). take arity (drop start (set proof n value))) at-end
      ∙ (ap (λ (l : List ℕ). take arity l) (drop-set-add start proof (arity + top) value)
      ∙ take-set-le arity (drop start proof) (arity + top) value (omega arith))

  word-top : slice_index honest top ≡ slice_index proof (length proof - 1)
  word-top =
      get_or-take (coefficient_count body last) (drop (start + arity) proof) top 0 (omega arith)
      ∙ (get_or-drop (start + arity) proof top 0 ∙ ap (λ (n : ℕ). slice_index proof n) (sym at-top))

  raised-top : polynomial_in body (raised proof) last ≡ set honest top (word_sum (slice_index honest top) 1)
  raised-top =
      ap (λ (n : ℕ). take (coefficient_count body last) (drop (start + arity) (set proof n value))) at-top
      ∙ (ap (λ (l : List ℕ). take (coefficient_count body last) l) (drop-set-add (start + arity) proof top value)
      ∙ (take-set-lt (coefficient_count body last) (drop (start + arity) proof) top value (omega arith)
      ∙ ap (λ (w : ℕ). set honest top (word_sum w 1)) (sym word-top)))

  long : top < length honest
  long = omega (arith, length-words_at (start + arity) (coefficient_count body last) proof (omega (arith, size)))

  -- the formula at the wires is that of the honest proof
  same-formula : formula_in body x joint (raised proof) 1 last ≡ honest
  same-formula =
      let parts = honest_proof_has_parts body x joint seeds last bounded are inside in
      ap₂ (λ (calls : List Call) (own : List ℕ). formula_of (kind_of body last) (wires_of body calls own last))
      (stand x joint (answers_in body (raised proof))) (same-seeds ∙ parts.0)
      ∙ sym parts.1

  never : IsWord (point_of body query last) → point_of body query last ≢ 0 → decides body (verifier_words body x joint (raised proof) query 1) ≡ true → ⊥
  never word some taken =
      let t : ℕ = point_of body query last in
      let holds : Holds body x joint (raised proof) query 1 = (decisions_mean body x joint (raised proof) query 1).0 taken in
      let values : value_at (set honest top (word_sum (slice_index honest top) 1)) t ≡ value_at honest t =
      ap (λ (cs : List ℕ). value_at cs t) (sym raised-top) ∙ (sym (holds.gadgets last inside) ∙ ap (λ (cs : List ℕ). value_at cs t) same-formula) in
      power-some t top word some (value-raised honest top t long values)

not-true : (b : Bool) → (b ≡ true → ⊥) → b ≡ false
not-true true isnt = absurd (isnt refl)
not-true false isnt = refl

not-taken : (body : Program) (found : Option ℕ) (words : List ℕ) → (decides body words ≡ true → ⊥) → is_taken body (answer_from found words) ≡ false
not-taken body (Some gadget) words isnt = refl
not-taken body None words isnt = not-true (decides body words) isnt

-- so it is accepted nowhere but where the point of the last gadget is 0
pub raised-refused : (body : Program) (x joint seeds query : List ℕ) → IsBounded body → AreSeeds body seeds → CallsStand body
    → IsWord (point_of body query (length body.gadgets - 1)) → point_of body query (length body.gadgets - 1) ≢ 0
    → accepts body x joint (raised (honest_proof body x joint seeds)) query ≡ false
raised-refused body x joint seeds query bounded are stand word some =
    not-taken body (gadget_in_domain body query) (verifier_words body x joint (raised (honest_proof body x joint seeds)) query 1)
    (never body x joint seeds query bounded are stand word some)
