-- What a query makes of an encoding and its proof, and when that is accepted. From the query words up to the decision.
use Rattle.std.specs.Prelude.{ℕ, ◌+◌, ◌*◌, ◌%◌, nat_lt, ◌==◌, Bool, false, ◌&&◌, if◌then◌else◌, List, [], ◌∷◌, ◌++◌, map, length, drop, slice_index, Option, None, Some}
use Rattle.std.specs.List.{list_all, flat_map}
use Rattle.flp_field.specs.Word.{modulus, word_power}
use Rattle.flp_poly.specs.Polynomial.{value_at}
use Rattle.flp_gadget.specs.KindTree.{value_of}
use Rattle.flp_syntax.specs.Tree.{Program}
use Rattle.flp_meaning.specs.Circuit.{kind_of, checks_of, calls_of}
use Rattle.flp_meaning.specs.Gadgets.{first_where, gadgets_of, arity_of, size_of, check_count}
use Rattle.flp_meaning.specs.Lengths.{start_of, check_words, verifier_part}
use Rattle.flp_meaning.specs.Wires.{wires_of}
use Rattle.flp_meaning.specs.Proof.{words_at, seeds_in, polynomial_in, with_proof}

-- ---- the query words: one for each check where there are several, and then a point for each gadget

abbrev pub point_of : Program → List ℕ → ℕ → ℕ
point_of body query gadget = slice_index query (check_words body + gadget)

-- the checks, each times its word
abbrev pub combination : List ℕ → List ℕ → ℕ
combination [] query = 0
combination (value ∷ more) query = slice_index query 0 * value + combination more (drop 1 query)

-- the one check, or the sum of several, each times its word
abbrev pub check_of : Program → (checks query : List ℕ) → ℕ
check_of body checks query =
    if nat_lt 1 (check_count body) then combination checks query % modulus else slice_index checks 0

-- the least gadget whose point lies in its domain
abbrev pub gadget_in_domain : Program → List ℕ → Option ℕ
gadget_in_domain body query =
    first_where (λ gadget. word_power (point_of body query gadget) (size_of body gadget) == 1) 0 (length body.gadgets)

-- ---- the verifier

-- for a gadget: the values at its point of its wires and then of its polynomial
abbrev pub verifier_of : Program → (x joint proof query : List ℕ) → (unit : ℕ) → ℕ → List ℕ
verifier_of body x joint proof query unit gadget =
    map
    (λ wire. value_at wire (point_of body query gadget))
    (wires_of body (calls_of body (with_proof body x joint proof unit)) (seeds_in body proof gadget) gadget)
    ++ value_at (polynomial_in body proof gadget) (point_of body query gadget) ∷ []

abbrev pub verifier_words : Program → (x joint proof query : List ℕ) → (unit : ℕ) → List ℕ
verifier_words body x joint proof query unit =
    check_of body (checks_of body (with_proof body x joint proof unit)) query
    ∷ flat_map (verifier_of body x joint proof query unit) (gadgets_of body)

-- what a query answers: the gadget whose point lies in its domain, or the verifier
pub data Answer : Type 0 where
  in_domain : (gadget : ℕ) → Answer
  verifier : (words : List ℕ) → Answer

abbrev pub answer_from : Option ℕ → List ℕ → Answer
answer_from None words = verifier words
answer_from (Some gadget) words = in_domain gadget

-- the query of a share, or of an unshared encoding, under which the constant 1 counts as `unit`
abbrev pub query_of : Program → (x joint proof query : List ℕ) → (unit : ℕ) → Answer
query_of body x joint proof query unit =
    answer_from (gadget_in_domain body query) (verifier_words body x joint proof query unit)

-- ---- the decision

-- the part of a verifier that a gadget has
abbrev pub part_of : Program → List ℕ → ℕ → List ℕ
part_of body words gadget = words_at (1 + start_of (verifier_part body) gadget) (verifier_part body gadget) words

-- whether the gadget of the values of its wires is the value of its polynomial
abbrev pub gadget_holds : Program → List ℕ → ℕ → Bool
gadget_holds body words gadget =
    value_of (kind_of body gadget) (words_at 0 (arity_of body gadget) (part_of body words gadget))
    == slice_index (part_of body words gadget) (arity_of body gadget)

-- whether the check is 0 and each gadget holds
abbrev pub decides : Program → List ℕ → Bool
decides body words = (slice_index words 0 == 0) && list_all (gadget_holds body words) (gadgets_of body)

abbrev pub is_taken : Program → Answer → Bool
is_taken body (in_domain gadget) = false
is_taken body (verifier words) = decides body words

-- whether an encoding with its proof is accepted: the unshared query answers a verifier, and that is taken
abbrev pub accepts : Program → (x joint proof query : List ℕ) → Bool
accepts body x joint proof query = is_taken body (query_of body x joint proof query 1)
