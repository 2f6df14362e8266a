-- The verifiers of honest proofs, by the wires at the query points.
use Rattle.std.proofs.Common.{ℕ, suc, ◌≡◌, ◌+◌, ◌*◌, ◌%◌, ◌<◌, ◌≤◌, List, [], ◌∷◌, ◌++◌, length, map, take, ap, ap₂, sym, subst, ◌∙◌, arith, length-append}
use Rattle.std.specs.List.{flat_map}
use Rattle.std.specs.Prelude.{None}
use Rattle.std.proofs.lemmas.List.{take-append-le, take_all}
use Rattle.flp_field.specs.Word.{modulus, IsWord, word_product}
use Rattle.flp_poly.specs.Polynomial.{value_at}
use Rattle.flp_gadget.specs.KindTree.{value_of}
use Rattle.flp_syntax.specs.Tree.{Program}
use Rattle.flp_meaning.specs.Meaning.{Meant, Results}
use Rattle.flp_meaning.specs.Circuit.{IsValid, kind_of, calls_of, checks_of, direct}
use Rattle.flp_meaning.specs.Gadgets.{gadgets_of, arity_of}
use Rattle.flp_meaning.specs.Lengths.{start_of, verifier_part}
use Rattle.flp_meaning.specs.Wires.{wires_of}
use Rattle.flp_meaning.specs.Proof.{words_at, seeds_for, polynomial_in, honest_proof, with_proof}
use Rattle.flp_meaning.specs.Verifier.{point_of, gadget_in_domain, check_of, verifier_of}
use Rattle.flp_meaning.specs.ProofLaws.{IsBounded, AreSeeds, Holds}
use Rattle.flp_meaning.proofs.Honest.{honest_proof_has_parts, honest_proof_proves}
use Rattle.flp_meaning.proofs.Decisions.{decisions_mean}
use Rattle.flp_meaning.proofs.PartLemmas.{words-parts}
use Rattle.flp_meaning.proofs.WireLemmas.{formula_at_point}
use Rattle.flp_query.specs.Unit.{share_unit, UnitIsInverse}
use Rattle.flp_query.proofs.LawLemmas.{honest_is_taken}
use Rattle.flp_hide.specs.Wires.{wires_at, all_wires_at, wires_of_verifier, reseeded}
use Rattle.flp_hide.specs.Laws.{honest_verifier, VerifiersAreSame, ReseededMatch}
use Rattle.flp_hide.proofs.PartLemmas.{flat-same}
use Rattle.flp_hide.proofs.SeedLemmas.{length-wires-at, same-part, seeds_are_unique, reseeded_has_same_wires, reseeding_goes_back}

-- the values of the wires of a gadget, and the gadget's value at them
abbrev pub with_value : Program → ℕ → List ℕ → List ℕ
with_value body g wires = wires ++ value_of (kind_of body g) wires ∷ []

-- that is what the verifier of an honest proof has for it
pub honest-part : (body : Program) (x joint seeds query : List ℕ) (g : ℕ) → IsBounded body → AreSeeds body seeds → g < length body.gadgets
    → verifier_of body x joint (honest_proof body x joint seeds) query 1 g ≡ with_value body g (wires_at body x joint seeds query g)
honest-part body x joint seeds query g bounded good inside =
    let proof : List ℕ = honest_proof body x joint seeds in
    let t : ℕ = point_of body query g in
    let parts = honest_proof_has_parts body x joint seeds g bounded good inside in
    ap₂ (λ (s : List ℕ) (m : Meant Results). map (λ wire. value_at wire t) (wires_of body m.calls s g) ++ value_at (polynomial_in body proof g) t ∷ [])
    parts.0 (honest_proof_proves body x joint seeds bounded good)
    ∙ ap (λ (v : ℕ). wires_at body x joint seeds query g ++ v ∷ [])
    (ap (λ (p : List ℕ). value_at p t) parts.1
    ∙ formula_at_point body (calls_of body (direct body x joint)) (seeds_for body seeds g) g t)

-- ---- what is read of a verifier

-- of the verifier of an honest proof the wires of a gadget are read
read-part : (body : Program) (x joint seeds query : List ℕ) (g : ℕ) → IsBounded body → AreSeeds body seeds → g < length body.gadgets
    → wires_of_verifier body (honest_verifier body x joint seeds query) g ≡ wires_at body x joint seeds query g
read-part body x joint seeds query g bounded good inside =
    let proof : List ℕ = honest_proof body x joint seeds in
    let part : ℕ → List ℕ = verifier_of body x joint proof query 1 in
    let n : ℕ = arity_of body g in
    let here : List ℕ = wires_at body x joint seeds query g in
    let own : 0 + g ≡ g = omega arith in
    let start : 1 + start_of (verifier_part body) g ≡ suc (start_of (verifier_part body) g + 0) = omega arith in
    let fits : 0 + n ≤ verifier_part body (0 + g) = subst (λ k. 0 + n ≤ verifier_part body k) (sym own) (omega arith) in
    let size : length here ≡ n = length-wires-at body x joint seeds query g in
    ap (λ k. words_at k n (honest_verifier body x joint seeds query)) start
    ∙ words-parts part (verifier_part body) 0 (length body.gadgets) g 0 n
    (λ k below.
    let long : length (wires_at body x joint seeds query k ++ value_of (kind_of body k) (wires_at body x joint seeds query k) ∷ [])
    ≡ length (wires_at body x joint seeds query k) + 1 =
    length-append (wires_at body x joint seeds query k) (value_of (kind_of body k) (wires_at body x joint seeds query k) ∷ []) in
    ap (λ (l : List ℕ). length l) (honest-part body x joint seeds query k bounded good (omega arith))
    ∙ long ∙ ap (λ m. m + 1) (length-wires-at body x joint seeds query k)) inside fits
    ∙ ap (λ k. words_at 0 n (part k)) own
    ∙ ap (λ (l : List ℕ). take n l) (honest-part body x joint seeds query g bounded good inside)
    ∙ take-append-le n here (value_of (kind_of body g) here ∷ []) (omega arith)
    ∙ take_all n here (omega arith)

-- and so those of all gadgets
pub read-wires : (body : Program) (x joint seeds query verifier out : List ℕ) → IsBounded body → AreSeeds body seeds
    → verifier ≡ honest_verifier body x joint seeds query
    → out ≡ flat_map (wires_of_verifier body verifier) (gadgets_of body) → out ≡ all_wires_at body x joint seeds query
read-wires body x joint seeds query verifier out bounded good same own =
    own ∙ ap (λ (v : List ℕ). flat_map (wires_of_verifier body v) (gadgets_of body)) same
    ∙ flat-same (wires_of_verifier body (honest_verifier body x joint seeds query)) (wires_at body x joint seeds query) 0 (length body.gadgets)
    (λ g below. read-part body x joint seeds query g bounded good (omega arith))

-- on one share 1 counts as itself
pub unit-of-one : UnitIsInverse → share_unit 1 ≡ 1
unit-of-one law =
    let own : IsWord (share_unit 1) × (word_product (share_unit 1) 1 ≡ 1) = law 1 (omega arith) (omega arith) in
    let word : IsWord (share_unit 1) = own.0 in
    let product : (share_unit 1 * 1) % modulus ≡ 1 = own.1 in
    omega arith

-- the checks of a valid encoding combine to 0
check-none : (body : Program) (x joint seeds query : List ℕ) → IsBounded body → AreSeeds body seeds → IsValid body x joint → gadget_in_domain body query ≡ None
    → check_of body (checks_of body (with_proof body x joint (honest_proof body x joint seeds) 1)) query ≡ 0
check-none body x joint seeds query bounded good valid outside =
    let holds : Holds body x joint (honest_proof body x joint seeds) query 1 =
    (decisions_mean body x joint (honest_proof body x joint seeds) query 1).0 (honest_is_taken body bounded x joint seeds query good valid outside) in
    holds.check

pub honest-verifier : (body : Program) (x joint seeds query : List ℕ) → IsBounded body → AreSeeds body seeds → IsValid body x joint
    → gadget_in_domain body query ≡ None
    → honest_verifier body x joint seeds query ≡ 0 ∷ flat_map (λ g. with_value body g (wires_at body x joint seeds query g)) (gadgets_of body)
honest-verifier body x joint seeds query bounded good valid outside =
    ap₂ (λ (v : ℕ) (l : List ℕ). v ∷ l) (check-none body x joint seeds query bounded good valid outside)
    (flat-same (verifier_of body x joint (honest_proof body x joint seeds) query 1) (λ g. with_value body g (wires_at body x joint seeds query g)) 0 (length body.gadgets)
    (λ g below. honest-part body x joint seeds query g bounded good (omega arith)))

pub verifiers_are_same : (body : Program) → IsBounded body → VerifiersAreSame body
verifiers_are_same body bounded from to joint query seeds outside good valid other_valid =
    let others : List ℕ = reseeded body from to joint query seeds in
    let there = reseeded_has_same_wires body bounded from to joint query seeds outside good in
    honest-verifier body from joint seeds query bounded good valid outside
    ∙ ap (λ (l : List ℕ). 0 ∷ l)
    (flat-same (λ g. with_value body g (wires_at body from joint seeds query g)) (λ g. with_value body g (wires_at body to joint others query g)) 0 (length body.gadgets)
    (λ g below. ap (λ (wires : List ℕ). with_value body g wires) (same-part body from to joint seeds others query g (omega arith) (sym there.1))))
    ∙ sym (honest-verifier body to joint others query bounded there.0 other_valid outside)

pub reseeded_match : (body : Program) → IsBounded body → ReseededMatch body
reseeded_match body bounded from to joint query seeds outside good =
    let there = reseeded_has_same_wires body bounded from to joint query seeds outside good in
    record {
      wires = there.1;
      only = λ more also same.
          seeds_are_unique body bounded to joint query more (reseeded body from to joint query seeds) outside also there.0 (same ∙ sym there.1);
      back = reseeding_goes_back body bounded from to joint query seeds outside good;
      verifiers = verifiers_are_same body bounded from to joint query seeds outside good;
    }
