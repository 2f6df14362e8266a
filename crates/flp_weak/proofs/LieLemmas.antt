-- Gadgets that lie: where one does, its point is accepted at few words.
use Rattle.std.proofs.Common.{ℕ, ◌≡◌, ◌≢◌, ◌+◌, ◌-◌, ◌*◌, ◌<◌, ◌≤◌, Bool, true, false, List, length, drop, get_or, set, refl, ap, ap₂, sym, subst, ◌∙◌, arith, get_or-set_same}
use Rattle.std.specs.Prelude.{not, nat_eq, Option, None, Some}
use Rattle.std.specs.Cmp.Lexicographic.{pointwise}
use Rattle.std.specs.List.{range_with_len, sum_by}
use Rattle.std.proofs.lemmas.Bool.{false≢true}
use Rattle.std.proofs.lemmas.Nat.{pow_pos}
use Rattle.std.proofs.lemmas.List.Elements.{All-map, All-take, All-drop}
use Rattle.std.proofs.lemmas.Slice.Eq.{bytes_eq-Decides}
use Rattle.flp_field.specs.Word.{IsWord, AreWords}
use Rattle.flp_poly.specs.Polynomial.{value_at}
use Rattle.flp_poly.specs.Interpolation.{interpolated}
use Rattle.flp_poly.proofs.Interpolation.{length-interpolated}
use Rattle.flp_gadget.specs.KindTree.{formula_of}
use Rattle.flp_gadget.proofs.FormulaLemmas.{length-formula, words-formula}
use Rattle.flp_syntax.specs.Tree.{Program}
use Rattle.flp_meaning.specs.Meaning.{Call}
use Rattle.flp_meaning.specs.Circuit.{kind_of, calls_of, with_answers}
use Rattle.flp_meaning.specs.Gadgets.{gadgets_of, arity_of, degree_of, size_of, log_of}
use Rattle.flp_meaning.specs.Lengths.{lengths_of, start_of, check_words, coefficient_count, proof_part}
use Rattle.flp_meaning.specs.Wires.{wire_values, wires_of}
use Rattle.flp_meaning.specs.Proof.{seeds_in, polynomial_in, formula_in, wires_in, with_proof, answers_in, IsTrueOf}
use Rattle.flp_meaning.specs.Verifier.{answer_from, gadget_in_domain, verifier_words, is_taken, accepts, point_of}
use Rattle.flp_meaning.specs.ProofLaws.{IsBounded, Holds}
use Rattle.flp_meaning.proofs.PartLemmas.{part_inside, length-words_at}
use Rattle.flp_meaning.proofs.WireLemmas.{length-wires, length-wire_values}
use Rattle.flp_meaning.proofs.Decisions.{decisions_mean}
use Rattle.flp_weak.specs.AtMost.{AcceptsWith, Bounded}
use Rattle.flp_weak.specs.WeakWord.{gadget_lies}
use Rattle.flp_weak.specs.Laws.{IsProof}
use Rattle.flp_count.proofs.CountLemmas.{at_most-harder}
use Rattle.flp_weak.proofs.RootLemmas.{AgreeAt, few_agree}

-- ---- what an accepted query says

taken-holds : (body : Program) (x joint proof query : List ℕ) (found : Option ℕ)
    → is_taken body (answer_from found (verifier_words body x joint proof query 1)) ≡ true → Holds body x joint proof query 1
taken-holds body x joint proof query None taken = (decisions_mean body x joint proof query 1).0 taken
taken-holds body x joint proof query (Some gadget) taken = absurd (false≢true taken)

pub accepted-holds : (body : Program) (x joint proof query : List ℕ) → accepts body x joint proof query ≡ true → Holds body x joint proof query 1
accepted-holds body x joint proof query taken = taken-holds body x joint proof query (gadget_in_domain body query) taken

-- ---- the two polynomials of a gadget

pub length-polynomial : (body : Program) (proof : List ℕ) (gadget : ℕ) → gadget < length body.gadgets → length proof ≡ (lengths_of body).proof
    → length (polynomial_in body proof gadget) ≡ coefficient_count body gadget
length-polynomial body proof gadget inside size =
    let own : proof_part body (0 + gadget) ≡ proof_part body gadget = let e : 0 + gadget ≡ gadget = omega arith in ap (proof_part body) e in
    let fits : start_of (proof_part body) gadget + proof_part body (0 + gadget) ≤ sum_by (proof_part body) (gadgets_of body) =
    part_inside (proof_part body) 0 gadget (length body.gadgets) inside in
    length-words_at (start_of (proof_part body) gadget + arity_of body gadget) (coefficient_count body gadget) proof (omega arith)

pub words-polynomial : (body : Program) (proof : List ℕ) (gadget : ℕ) → AreWords proof → AreWords (polynomial_in body proof gadget)
words-polynomial body proof gadget words =
    All-take IsWord (coefficient_count body gadget) (drop (start_of (proof_part body) gadget + arity_of body gadget) proof)
    (All-drop IsWord (start_of (proof_part body) gadget + arity_of body gadget) proof words)

pub length-formula_in : (body : Program) (x joint proof : List ℕ) (gadget : ℕ) → IsBounded body → gadget < length body.gadgets
    → length (formula_in body x joint proof 1 gadget) ≡ coefficient_count body gadget
length-formula_in body x joint proof gadget bounded inside =
    let size : ℕ = size_of body gadget in
    let calls : List Call = calls_of body (with_proof body x joint proof 1) in
    let seeds : List ℕ = seeds_in body proof gadget in
    length-formula (kind_of body gadget) (wires_in body x joint proof 1 gadget) size (bounded.kinds gadget inside) (pow_pos (log_of body gadget))
    (length-wires body calls seeds gadget)
    (All-map (λ p. length p ≡ size) (λ input. interpolated (wire_values body calls seeds gadget input)) (range_with_len 0 (arity_of body gadget))
    (λ k d low.
    length-interpolated (wire_values body calls seeds gadget (get_or (range_with_len 0 (arity_of body gadget)) k d))
    ∙ length-wire_values body calls seeds gadget (get_or (range_with_len 0 (arity_of body gadget)) k d)))

-- ---- lies

same_or_not : (p q : List ℕ) (same : Bool) → pointwise nat_eq p q ≡ same → not same ≡ true → p ≢ q
same_or_not p q true is lies e = false≢true lies
same_or_not p q false is lies e = false≢true (sym is ∙ (bytes_eq-Decides p q).1 e)

pub lies-differ : (body : Program) (x joint proof : List ℕ) (gadget : ℕ) → gadget_lies body x joint proof gadget ≡ true
    → polynomial_in body proof gadget ≢ formula_in body x joint proof 1 gadget
lies-differ body x joint proof gadget lies =
    same_or_not (polynomial_in body proof gadget) (formula_in body x joint proof 1 gadget) _ refl lies

not_lying : (p q : List ℕ) (same : Bool) → pointwise nat_eq p q ≡ same → not same ≡ false → p ≡ q
not_lying p q true is true_of = (bytes_eq-Decides p q).0 is
not_lying p q false is true_of = absurd (false≢true (sym true_of))

pub true-same : (body : Program) (x joint proof : List ℕ) (gadget : ℕ) → gadget_lies body x joint proof gadget ≡ false → IsTrueOf body x joint proof gadget
true-same body x joint proof gadget is =
    not_lying (polynomial_in body proof gadget) (formula_in body x joint proof 1 gadget) _ refl is

-- with a word in place of the point of a gadget, that is its point
point-set : (body : Program) (query : List ℕ) (gadget word : ℕ) → length query ≡ (lengths_of body).query → gadget < length body.gadgets
    → point_of body (set query (check_words body + gadget) word) gadget ≡ word
point-set body query gadget word size inside = get_or-set_same query (check_words body + gadget) word 0 (omega arith)

-- a word that is accepted as the point of a gadget is one at which the two polynomials agree
accepted-agree : (body : Program) (x joint proof query : List ℕ) (gadget word : ℕ) → length query ≡ (lengths_of body).query → gadget < length body.gadgets
    → AcceptsWith body x joint proof query (check_words body + gadget) word
    → AgreeAt (polynomial_in body proof gadget) (formula_in body x joint proof 1 gadget) word
accepted-agree body x joint proof query gadget word size inside accepts =
    let other : List ℕ = set query (check_words body + gadget) word in
    let at : point_of body other gadget ≡ word = point-set body query gadget word size inside in
    let holds : value_at (formula_in body x joint proof 1 gadget) (point_of body other gadget) ≡ value_at (polynomial_in body proof gadget) (point_of body other gadget) =
    (accepted-holds body x joint proof other accepts.accepted).gadgets gadget inside in
    record {
      is_word = accepts.is_word;
      same = subst (λ t. value_at (polynomial_in body proof gadget) t ≡ value_at (formula_in body x joint proof 1 gadget) t) at (sym holds);
    }

-- so where the gadget lies, its point is accepted at few words
pub lying-bounded : (body : Program) (x joint proof : List ℕ) (gadget : ℕ) → IsBounded body → IsProof body proof → gadget < length body.gadgets
    → gadget_lies body x joint proof gadget ≡ true → Bounded body x joint proof (check_words body + gadget) (degree_of body gadget * (size_of body gadget - 1))
lying-bounded body x joint proof gadget bounded good inside lies query size =
    at_most-harder (degree_of body gadget * (size_of body gadget - 1)) (AcceptsWith body x joint proof query (check_words body + gadget))
    (AgreeAt (polynomial_in body proof gadget) (formula_in body x joint proof 1 gadget))
    (λ word accepts. accepted-agree body x joint proof query gadget word size inside accepts)
    (few_agree (polynomial_in body proof gadget) (formula_in body x joint proof 1 gadget) (degree_of body gadget * (size_of body gadget - 1))
    (words-polynomial body proof gadget good.words) (words-formula (kind_of body gadget) (wires_in body x joint proof 1 gadget) (bounded.kinds gadget inside))
    (length-polynomial body proof gadget inside good.size) (length-formula_in body x joint proof gadget bounded inside)
    (lies-differ body x joint proof gadget lies))

-- ---- looking for one

-- the polynomial was compared with the formula at the wires, so it was found whether the gadget lies
pub lies-found : (body : Program) (x joint proof answers : List ℕ) (unit gadget : ℕ) (seeds poly formula : List ℕ) (found : Bool)
    → answers ≡ answers_in body proof → unit ≡ 1 → seeds ≡ seeds_in body proof gadget → poly ≡ polynomial_in body proof gadget
    → formula ≡ formula_of (kind_of body gadget) (wires_of body (calls_of body (with_answers x joint unit answers)) seeds gadget)
    → found ≡ not (pointwise nat_eq poly formula) → found ≡ gadget_lies body x joint proof gadget
lies-found body x joint proof answers unit gadget seeds poly formula found same_answers same_unit same_seeds same_poly written own =
    let at : formula ≡ formula_in body x joint proof 1 gadget =
    written
    ∙ ap₂ (λ (a : List ℕ) (u : ℕ). formula_of (kind_of body gadget) (wires_of body (calls_of body (with_answers x joint u a)) seeds gadget)) same_answers same_unit
    ∙ ap (λ (s : List ℕ). formula_of (kind_of body gadget) (wires_of body (calls_of body (with_proof body x joint proof 1)) s gadget)) same_seeds in
    own ∙ ap₂ (λ (p f : List ℕ). not (pointwise nat_eq p f)) same_poly at
