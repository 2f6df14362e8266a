-- The verdict on a record whose nonce is new, its outs, and the verifiers of its shares. From one proof up to the record's bytes.
use Rattle.std.specs.Prelude.{ℕ, ◌+◌, Bool, true, false, List, [], ◌∷◌, map, Option, None, Some}
use Rattle.std.specs.List.{list_all, flat_map}
use Rattle.flp_syntax.specs.Tree.{Program}
use Rattle.flp_meaning.specs.Circuit.{outs_of}
use Rattle.flp_meaning.specs.Verifier.{gadget_in_domain, verifier_words, accepts}
use Rattle.flp_report.specs.declared.shape.Shape.{Shape}
use Rattle.flp_report.specs.Record.{words_in}
use Rattle.flp_report.specs.Words.{bad_word_in}
use Rattle.flp_query.specs.Unit.{share_unit}
use Rattle.flp_policy.specs.declared.verdict.Verdict.{Verdict}
use Rattle.flp_policy.specs.declared.verdict.Verdict.TheVariants.{Accepted, Rejected, InDomain, Malformed}
use Rattle.flp_worker.specs.Parts.{share_numbers, proof_numbers, share_encoding, share_proof, joint_words, query_words, unshared_encoding, unshared_proof}

-- ---- of a record's words

-- whether an unshared proof shows that the unshared encoding is valid
abbrev pub proof_holds : Program → Shape → (words : List ℕ) → (proof : ℕ) → Bool
proof_holds program shape words proof =
    accepts
    program
    (unshared_encoding shape words)
    (joint_words shape words proof)
    (unshared_proof shape words proof)
    (query_words shape words proof)

abbrev pub all_hold : Program → Shape → (words : List ℕ) → Bool
all_hold program shape words = list_all (proof_holds program shape words) (proof_numbers shape)

-- the least gadget in whose domain the query point of this proof lies
abbrev pub gadget_inside : Program → Shape → (words : List ℕ) → (proof : ℕ) → Option ℕ
gadget_inside program shape words proof = gadget_in_domain program (query_words shape words proof)

-- the first gadget that is named, behind the number of its proof, where the first of these proofs has this number
abbrev pub first_named : ℕ → List (Option ℕ) → Option (ℕ × ℕ)
first_named proof [] = None
first_named proof (None ∷ more) = first_named (proof + 1) more
first_named proof ((Some gadget) ∷ more) = Some (proof, gadget)

-- the least proof with a query point in a domain, and that gadget
abbrev pub first_inside : Program → Shape → (words : List ℕ) → Option (ℕ × ℕ)
first_inside program shape words = first_named 0 (map (gadget_inside program shape words) (proof_numbers shape))

-- the verifier words of one share alone, on which 1 counts as the inverse of the number of shares
abbrev pub verifier_of_share : Program → Shape → (words : List ℕ) → (proof share : ℕ) → List ℕ
verifier_of_share program shape words proof share =
    verifier_words
    program
    (share_encoding shape words share)
    (joint_words shape words proof)
    (share_proof shape words proof share)
    (query_words shape words proof)
    (share_unit shape.shares)

-- those of all shares for a proof, one after another, and those of all proofs
abbrev pub verifiers_for : Program → Shape → (words : List ℕ) → (proof : ℕ) → List ℕ
verifiers_for program shape words proof = flat_map (verifier_of_share program shape words proof) (share_numbers shape)

abbrev pub verifiers_of : Program → Shape → (words : List ℕ) → List ℕ
verifiers_of program shape words = flat_map (verifiers_for program shape words) (proof_numbers shape)

-- ---- the verdict

-- where the words are words of the field, and no query point lies in a domain
abbrev pub verdict_if : Bool → Verdict
verdict_if true = Accepted
verdict_if false = Rejected

-- a bad word comes before a point in a domain, and that before any proof
abbrev pub verdict_by : (bad : Option ℕ) → (inside : Option (ℕ × ℕ)) → (hold : Bool) → Verdict
verdict_by (Some word) inside hold = Malformed word
verdict_by None (Some named) hold = InDomain named.0 named.1
verdict_by None None hold = verdict_if hold

-- ---- of a record's bytes

-- the verdict, where the nonce is new
unfoldable pub verdict_of : Program → Shape → List ℕ → Verdict
verdict_of program shape bytes =
    verdict_by
    (bad_word_in (words_in shape bytes))
    (first_inside program shape (words_in shape bytes))
    (all_hold program shape (words_in shape bytes))

-- the outs of the unshared encoding
unfoldable pub outs_in : Program → Shape → List ℕ → List ℕ
outs_in program shape bytes = outs_of program (unshared_encoding shape (words_in shape bytes))

-- the verifier words of one share alone
unfoldable pub share_verifier : Program → Shape → List ℕ → (share proof : ℕ) → List ℕ
share_verifier program shape bytes share proof = verifier_of_share program shape (words_in shape bytes) proof share
