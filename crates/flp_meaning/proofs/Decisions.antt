-- What the decision says of a verifier: its check is 0, and each gadget's formula at the wires has the value of the proof's polynomial.
use Rattle.std.proofs.Common.{ℕ, suc, ◌≡◌, ◌+◌, ◌<◌, ◌≤◌, Bool, true, false, ◌&&◌, List, [], ◌∷◌, ◌++◌, length, map, take, get_or, refl, ap, ap₂, sym, subst, ◌∙◌, arith, eqb, length-append}
use Rattle.std.specs.List.{list_all}
use Rattle.std.specs.Prelude.{slice_index}
use Rattle.std.proofs.lemmas.Bool.{false≢true, eqb-true, eq-eqb}
use Rattle.std.proofs.lemmas.List.{length-map, take-append-le, take_all}
use Rattle.std.proofs.Math.Seq.{get_or-append_seam}
use Rattle.std.proofs.lemmas.List.FromFn.{length-range_with_len, get_or-range_with_len}
use Rattle.std.proofs.lemmas.List.Sums.{list_all-from_AllPass, AllPass-from_list_all}
use Rattle.flp_poly.specs.Polynomial.{value_at}
use Rattle.flp_gadget.specs.KindTree.{value_of}
use Rattle.flp_syntax.specs.Tree.{Program}
use Rattle.flp_meaning.specs.Circuit.{calls_of, kind_of}
use Rattle.flp_meaning.specs.Gadgets.{gadgets_of, arity_of}
use Rattle.flp_meaning.specs.Lengths.{start_of, verifier_part}
use Rattle.flp_meaning.specs.Proof.{words_at, seeds_in, polynomial_in, with_proof, wires_in, formula_in}
use Rattle.flp_meaning.specs.Verifier.{point_of, verifier_of, verifier_words, part_of, gadget_holds}
use Rattle.flp_meaning.specs.ProofLaws.{DecisionsMean}
use Rattle.flp_meaning.proofs.PartLemmas.{words-parts}
use Rattle.flp_meaning.proofs.WireLemmas.{length-wires, formula_at_point}

module _ (body : Program) (x words proof query : List ℕ) (unit : ℕ) where
  whole : List ℕ
  whole = verifier_words body x words proof query unit

  values : ℕ → List ℕ
  values gadget = map (λ wire. value_at wire (point_of body query gadget)) (wires_in body x words proof unit gadget)

  last : ℕ → ℕ
  last gadget = value_at (polynomial_in body proof gadget) (point_of body query gadget)

  length-values : (gadget : ℕ) → length (values gadget) ≡ arity_of body gadget
  unfolding values
  length-values gadget =
      length-map (wires_in body x words proof unit gadget) (λ wire. value_at wire (point_of body query gadget))
      ∙ length-wires body (calls_of body (with_proof body x words proof unit)) (seeds_in body proof gadget) gadget

  length-verifier : (gadget : ℕ) → gadget < 0 + length body.gadgets → length (verifier_of body x words proof query unit gadget) ≡ verifier_part body gadget
  unfolding values last
  length-verifier gadget inside = length-append (values gadget) (last gadget ∷ []) ∙ ap (λ k. k + 1) (length-values gadget)

  part-verifier : (gadget : ℕ) → gadget < length body.gadgets → part_of body whole gadget ≡ values gadget ++ last gadget ∷ []
  unfolding whole values last
  part-verifier gadget inside =
      let n : ℕ = verifier_part body gadget in
      let start : ℕ = start_of (verifier_part body) gadget in
      let own : 0 + gadget ≡ gadget = omega arith in
      let first : 1 + start ≡ suc (start + 0) = omega arith in
      let fits : 0 + n ≤ verifier_part body (0 + gadget) = subst (λ k. 0 + n ≤ verifier_part body k) (sym own) (omega arith) in
      let size : length (verifier_of body x words proof query unit gadget) ≡ n = length-verifier gadget (omega arith) in
      ap (λ k. words_at k n whole) first
      ∙ words-parts (verifier_of body x words proof query unit) (verifier_part body) 0 (length body.gadgets) gadget 0 n length-verifier inside fits
      ∙ ap (λ k. words_at 0 n (verifier_of body x words proof query unit k)) own
      ∙ take_all n (verifier_of body x words proof query unit gadget) (omega arith)

  gadget-test : (gadget : ℕ) → gadget < length body.gadgets
      → gadget_holds body whole gadget ≡ eqb (value_at (formula_in body x words proof unit gadget) (point_of body query gadget)) (last gadget)
  unfolding values
  gadget-test gadget inside =
      let n : ℕ = arity_of body gadget in
      let t : ℕ = point_of body query gadget in
      let size : length (values gadget) ≡ n = length-values gadget in
      let front : take n (values gadget ++ last gadget ∷ []) ≡ values gadget = take-append-le n (values gadget) (last gadget ∷ []) (omega arith) ∙ take_all n (values gadget) (omega arith) in
      let back : get_or (values gadget ++ last gadget ∷ []) n 0 ≡ last gadget =
      ap (λ k. get_or (values gadget ++ last gadget ∷ []) k 0) (sym size) ∙ get_or-append_seam (values gadget) (last gadget) [] 0 in
      ap (λ l. eqb (value_of (kind_of body gadget) (words_at 0 n l)) (slice_index l n)) (part-verifier gadget inside)
      ∙ ap₂ (λ (l : List ℕ) (v : ℕ). eqb (value_of (kind_of body gadget) l) v) front back
      ∙ ap (λ v. eqb v (last gadget))
      (sym (formula_at_point body (calls_of body (with_proof body x words proof unit)) (seeds_in body proof gadget) gadget t))

  numbered : (k d : ℕ) → k < length (gadgets_of body) → (k < length body.gadgets) × (get_or (gadgets_of body) k d ≡ k)
  numbered k d low =
      let size : length (gadgets_of body) ≡ length body.gadgets = length-range_with_len 0 (length body.gadgets) in
      let below : k < length body.gadgets = omega arith in
      (below, get_or-range_with_len 0 (length body.gadgets) k d below ∙ (omega arith))

  all-hold : ((gadget : ℕ) → gadget < length body.gadgets → value_at (formula_in body x words proof unit gadget) (point_of body query gadget) ≡ last gadget)
      → list_all (gadget_holds body whole) (gadgets_of body) ≡ true
  all-hold same =
      list_all-from_AllPass (gadget_holds body whole) (gadgets_of body)
      (λ k d low.
      let at = numbered k d low in
      subst (λ g. gadget_holds body whole g ≡ true) (sym at.1) (gadget-test k at.0 ∙ eq-eqb _ _ (same k at.0)))

  each-holds : list_all (gadget_holds body whole) (gadgets_of body) ≡ true → (gadget : ℕ) → gadget < length body.gadgets
      → value_at (formula_in body x words proof unit gadget) (point_of body query gadget) ≡ last gadget
  each-holds all gadget inside =
      let size : length (gadgets_of body) ≡ length body.gadgets = length-range_with_len 0 (length body.gadgets) in
      let at = numbered gadget 0 (omega arith) in
      eqb-true _ _
      (sym (gadget-test gadget inside)
      ∙ subst (λ g. gadget_holds body whole g ≡ true) at.1 (AllPass-from_list_all (gadget_holds body whole) (gadgets_of body) all gadget 0 (omega arith)))

both_true : (a b : Bool) → (a && b) ≡ true → (a ≡ true) × (b ≡ true)
both_true true b h = (refl, h)
both_true false b h = absurd (false≢true h)

pub decisions_mean : DecisionsMean
unfolding whole last
decisions_mean body x words proof query unit = (
  λ taken.
      let parts = both_true _ _ taken in
      record { check = eqb-true _ _ parts.0; gadgets = each-holds body x words proof query unit parts.1 },
  λ holds. ap₂ (λ (a b : Bool). a && b) (eq-eqb _ _ holds.check) (all-hold body x words proof query unit holds.gadgets),
)
