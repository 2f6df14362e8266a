-- What the decision reads of a verifier, gadget after gadget.
use Rattle.std.proofs.Common.{ℕ, zero, suc, ◌≡◌, ◌+◌, ◌<◌, ◌≤◌, Bool, true, false, ◌&&◌, List, ◌∷◌, [], ◌++◌, length, take, drop, get_or, refl, ap, ap₂, sym, subst, ◌∙◌, arith, eqb}
use Rattle.std.specs.List.{range_with_len, list_all, sum_by}
use Rattle.std.specs.Prelude.{slice_index}
use Rattle.std.proofs.lemmas.Bool.{false≢true}
use Rattle.std.proofs.lemmas.List.{get_or-take, get_or-drop, map-id}
use Rattle.std.proofs.lemmas.List.FromFn.{length-range_with_len, get_or-range_with_len, map-range_with_len_more}
use Rattle.std.proofs.lemmas.List.Folds.{list_all-append}
use Rattle.std.proofs.lemmas.List.Sums.{AllPass-from_list_all}
use Rattle.flp_gadget.specs.KindTree.{value_of}
use Rattle.flp_syntax.specs.Tree.{Program}
use Rattle.flp_meaning.specs.Circuit.{kind_of}
use Rattle.flp_meaning.specs.Gadgets.{gadgets_of, arity_of}
use Rattle.flp_meaning.specs.Lengths.{start_of, verifier_part, lengths_of}
use Rattle.flp_meaning.specs.Verifier.{gadget_holds, decides}
use Rattle.flp_meaning.proofs.StartLemmas.{start-inside}

-- the part of a gadget lies within the verifier
pub part-fits : (body : Program) (g start arity n : ℕ) → g < length body.gadgets → start ≡ 1 + start_of (verifier_part body) g → arity ≡ arity_of body g
    → n ≡ (lengths_of body).verifier → start + arity < n
part-fits body g start arity n inside begins inputs size =
    let fits : start_of (verifier_part body) g + verifier_part body g ≤ sum_by (verifier_part body) (range_with_len 0 (length body.gadgets)) =
    start-inside (verifier_part body) g (length body.gadgets) inside in
    omega arith

take-take : (n m : ℕ) (xs : List ℕ) → n ≤ m → take n (take m xs) ≡ take n xs
take-take zero m xs less = refl
take-take (suc n) zero xs less = absurd (omega arith)
take-take (suc n) (suc m) [] less = refl
take-take (suc n) (suc m) (x ∷ xs) less = ap (λ l. x ∷ l) (take-take n m xs (omega arith))

-- what is tested of a gadget
pub holds-at : (body : Program) (words : List ℕ) (g start arity : ℕ) → start ≡ 1 + start_of (verifier_part body) g → arity ≡ arity_of body g
    → gadget_holds body words g ≡ eqb (value_of (kind_of body g) (take arity (drop start words))) (get_or words (start + arity) 0)
holds-at body words g start arity begins inputs =
    let n : ℕ = arity_of body g in
    let s : ℕ = 1 + start_of (verifier_part body) g in
    ap₂ (λ (l : List ℕ) (v : ℕ). eqb (value_of (kind_of body g) l) v)
    (take-take n (n + 1) (drop s words) (omega arith))
    (get_or-take (n + 1) (drop s words) n 0 (omega arith) ∙ get_or-drop s words n 0)
    ∙ ap₂ (λ (from count : ℕ). eqb (value_of (kind_of body g) (take count (drop from words))) (get_or words (from + count) 0)) (sym begins) (sym inputs)

pub range-more : (g : ℕ) → range_with_len 0 (g + 1) ≡ range_with_len 0 g ++ g ∷ []
range-more g =
    sym (map-id (range_with_len 0 (g + 1))) ∙ map-range_with_len_more (λ k. k) 0 g g (omega arith)
    ∙ ap (λ l. l ++ g ∷ []) (map-id (range_with_len 0 g))

-- one gadget more holds
pub all-more : (test : ℕ → Bool) (g : ℕ) → list_all test (range_with_len 0 g) ≡ true → test g ≡ true → list_all test (range_with_len 0 (g + 1)) ≡ true
all-more test g before here =
    ap (λ l. list_all test l) (range-more g)
    ∙ list_all-append test (range_with_len 0 g) (g ∷ [])
    ∙ ap₂ (λ (a b : Bool). a && (b && true)) before here

-- where one does not hold, not all do
pub all-fail : (test : ℕ → Bool) (g n : ℕ) → g < n → test g ≡ false → list_all test (range_with_len 0 n) ≡ false
all-fail test g n inside fails = either (list_all test (range_with_len 0 n)) refl
  where
    either : (all : Bool) → list_all test (range_with_len 0 n) ≡ all → all ≡ false
    either false same = refl
    either true same =
        let size : length (range_with_len 0 n) ≡ n = length-range_with_len 0 n in
        let own : get_or (range_with_len 0 n) g 0 ≡ g = get_or-range_with_len 0 n g 0 inside ∙ omega arith in
        let passes : test g ≡ true = subst (λ k. test k ≡ true) own (AllPass-from_list_all test (range_with_len 0 n) same g 0 (omega arith)) in
        absurd (false≢true (sym fails ∙ passes))

-- a gadget that does not hold decides
pub decides-not : (body : Program) (words : List ℕ) (g : ℕ) → g < length body.gadgets → gadget_holds body words g ≡ false → false ≡ decides body words
decides-not body words g inside fails = either (eqb (slice_index words 0) 0)
  where
    either : (first : Bool) → false ≡ (first && list_all (gadget_holds body words) (gadgets_of body))
    either false = refl
    either true = sym (all-fail (gadget_holds body words) g (length body.gadgets) inside fails)
