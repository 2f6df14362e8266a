-- Points at which two polynomials agree.
use Rattle.std.proofs.Common.{ℕ, ◌≡◌, ◌≢◌, ◌+◌, ◌<◌, ◌≤◌, List, length, sym, ◌∙◌, arith, ⊎_elim}
use Rattle.std.proofs.lemmas.Bool.{cases_lt}
use Rattle.std.proofs.lemmas.List.{ext_get_or, get_or_past}
use Rattle.flp_field.specs.Word.{IsWord, AreWords}
use Rattle.flp_poly.specs.Polynomial.{value_at, HasDegreeAtMost}
use Rattle.flp_poly.proofs.Vanishing.{agreement}
use Rattle.flp_count.specs.Count.{AtMost}

-- a word at which they agree
pub record AgreeAt (p q : List ℕ) (point : ℕ) : Type 0 where
  pub is_word : IsWord point
  pub same : value_at p point ≡ value_at q point

degree-of_length : (p : List ℕ) (d : ℕ) → length p ≡ d + 1 → HasDegreeAtMost p d
degree-of_length p d size i above = get_or_past p i 0 (omega arith)

-- two different polynomials with d + 1 coefficients each agree at d words at most
pub few_agree : (p q : List ℕ) (d : ℕ) → AreWords p → AreWords q → length p ≡ d + 1 → length q ≡ d + 1 → p ≢ q → AtMost d (AgreeAt p q)
few_agree p q d p_words q_words p_size q_size other points differ agree =
    ⊎_elim
    (λ (many : d < length points).
    let same = agreement p q d points
    (record {
      left_words = p_words;
      right_words = q_words;
      left_degree = degree-of_length p d p_size;
      right_degree = degree-of_length q d q_size;
      many = many;
      words = λ k e low. (agree k e low).is_word;
      differ = differ;
      values = λ k e low. (agree k e low).same;
    }) in
    absurd (other (ext_get_or 0 p q (p_size ∙ sym q_size) (λ k low. same.0 k))))
    (λ (few : length points ≤ d). few)
    (cases_lt d (length points))
