-- All shares but the one at some place: with the encoding they determine that one, and each choice of them can be had.
use Rattle.std.proofs.Common.{ℕ, zero, suc, ◌≡◌, ◌+◌, ◌-◌, ◌*◌, ◌%◌, ◌<◌, ◌≤◌, List, [], ◌∷◌, ◌++◌, length, get_or, take, drop, arith, ap, ap₂, sym, ◌∙◌, refl, add-one}
use Rattle.std.specs.List.{concat, insert, remove, All}
use Rattle.std.proofs.Math.Nat.{suc-mul}
use Rattle.std.proofs.lemmas.List.{length-take-le, length-drop, take-append-drop, take_at, drop_at, drop_more, ext_get_or}
use Rattle.std.proofs.lemmas.List.Elements.{All-append, All-cons, All-take, All-drop, All-get_or, All-weaker}
use Rattle.std.proofs.lemmas.List.Edits.{length-insert, remove-append_right}
use Rattle.std.proofs.lemmas.List.Sums.{sum_by-insert, sum_by-remove}
use Rattle.flp_field.specs.Word.{modulus, IsWord, AreWords, word_difference}
use Rattle.flp_field.specs.Sums.{total_at, sum_of_lists, parts_of, sum_of_parts}
use Rattle.flp_field.proofs.ListSums.{get_or-sum_of_lists, sum_of_lists_from}
use Rattle.flp_field.proofs.ListParts.{length-parts_of, parts_of-size, parts_of-words, concat-parts_of, parts_of-concat, length-concat, words-concat}
use Rattle.flp_share.specs.Shares.{difference_of, first_share, shares_of, IsShare, GivesOthers}
use Rattle.flp_share.proofs.Sharings.{length-difference_of, get_or-difference_of, words-difference_of, shares_sum_up, each_sharing_is_split, length-shares_of, words-shares_of}

-- an element put back where it was removed
insert-remove : (lists : List (List ℕ)) (i : ℕ) → i < length lists → insert (remove lists i) i (get_or lists i []) ≡ lists
insert-remove lists i inside =
    let size : length (take i lists) ≡ i = length-take-le i lists (omega arith) in
    ap₂ (λ (front : List (List ℕ)) (back : List (List ℕ)). front ++ get_or lists i [] ∷ back)
    (take_at (take i lists) (drop (suc i) lists) i size) (drop_at (take i lists) (drop (suc i) lists) i size)
    ∙ ap (λ (j : ℕ). take i lists ++ get_or lists i [] ∷ drop j lists) (sym (add-one i))
    ∙ ap (λ (back : List (List ℕ)). take i lists ++ back) (sym (drop_more lists i [] inside))
    ∙ take-append-drop i lists

-- an element removed where it was put
remove-insert : (lists : List (List ℕ)) (i : ℕ) (list : List ℕ) → i ≤ length lists → remove (insert lists i list) i ≡ lists
remove-insert lists i list within =
    let here : i - i ≡ 0 = omega arith in
    remove-append_right (take i lists) (list ∷ drop i lists) i i (length-take-le i lists within) (omega arith)
    ∙ ap (λ (j : ℕ). take i lists ++ remove (list ∷ drop i lists) j) here
    ∙ take-append-drop i lists

All-insert : (P : List ℕ → Type 0) (lists : List (List ℕ)) (i : ℕ) (list : List ℕ) → All P lists → P list → All P (insert lists i list)
All-insert P lists i list all here =
    All-append P (take i lists) (list ∷ drop i lists) (All-take P i lists all)
    (All-cons P list (drop i lists) here (All-drop P i lists all))

-- two words whose sums with one number are one word are equal
same_beside : (a b c x : ℕ) → a < modulus → b < modulus → x ≡ (c + a) % modulus → x ≡ (c + b) % modulus → a ≡ b
same_beside a b c x a_below b_below left right = omega arith

-- the words with this index beside the list at a place, and its own
total_at-remove : (lists : List (List ℕ)) (place k : ℕ) → place < length lists → total_at lists k ≡ total_at (remove lists place) k + get_or (get_or lists place []) k 0
total_at-remove lists place k inside =
    sym (sum_by-remove (λ (words : List ℕ). get_or words k 0) lists place [] inside)

-- lists with one sum that are the same beside one place are the same there
same_there : (n place : ℕ) (x : List ℕ) (p q : List (List ℕ)) → place < length p → place < length q → All (λ (part : List ℕ). length part ≡ n) p → All (λ (part : List ℕ). length part ≡ n) q → All AreWords p → All AreWords q → sum_of_lists n p ≡ x → sum_of_lists n q ≡ x → remove p place ≡ remove q place → get_or p place [] ≡ get_or q place []
same_there n place x p q in_p in_q p_sizes q_sizes p_words q_words p_sum q_sum others =
    let p_size : length (get_or p place []) ≡ n = All-get_or (λ (part : List ℕ). length part ≡ n) p place [] in_p p_sizes in
    let q_size : length (get_or q place []) ≡ n = All-get_or (λ (part : List ℕ). length part ≡ n) q place [] in_q q_sizes in
    ext_get_or 0 (get_or p place []) (get_or q place []) (p_size ∙ sym q_size)
    (λ (k : ℕ) (below : k < length (get_or p place [])).
    same_beside (get_or (get_or p place []) k 0) (get_or (get_or q place []) k 0) (total_at (remove q place) k) (get_or x k 0)
    (All-get_or IsWord (get_or p place []) k 0 below (All-get_or AreWords p place [] in_p p_words))
    (All-get_or IsWord (get_or q place []) k 0 (omega arith) (All-get_or AreWords q place [] in_q q_words))
    (ap (λ (words : List ℕ). get_or words k 0) (sym p_sum) ∙ get_or-sum_of_lists n p k (omega arith)
    ∙ ap (λ (c : ℕ). c % modulus) (total_at-remove p place k in_p)
    ∙ ap (λ (lists : List (List ℕ)). (total_at lists k + get_or (get_or p place []) k 0) % modulus) others)
    (ap (λ (words : List ℕ). get_or words k 0) (sym q_sum) ∙ get_or-sum_of_lists n q k (omega arith)
    ∙ ap (λ (c : ℕ). c % modulus) (total_at-remove q place k in_q)))

-- and so they are the same lists
same_lists_with_sum : (n place : ℕ) (x : List ℕ) (p q : List (List ℕ)) → place < length p → place < length q → All (λ (part : List ℕ). length part ≡ n) p → All (λ (part : List ℕ). length part ≡ n) q → All AreWords p → All AreWords q → sum_of_lists n p ≡ x → sum_of_lists n q ≡ x → remove p place ≡ remove q place → p ≡ q
same_lists_with_sum n place x p q in_p in_q p_sizes q_sizes p_words q_words p_sum q_sum others =
    sym (insert-remove p place in_p)
    ∙ ap₂ (λ (lists : List (List ℕ)) (list : List ℕ). insert lists place list) others
    (same_there n place x p q in_p in_q p_sizes q_sizes p_words q_words p_sum q_sum others)
    ∙ insert-remove q place in_q

-- words that give the same shares beside one place are the same
pub same_words : (shares place : ℕ) (x : List ℕ) (others : List (List ℕ)) (v w : List ℕ) → AreWords x → place < shares → GivesOthers shares place x others v → GivesOthers shares place x others w → v ≡ w
same_words shares place x others v w are inside of_v of_w =
    let v_size : length (shares_of shares x v) ≡ shares * length x = length-shares_of shares x v (omega arith) of_v.size in
    let w_size : length (shares_of shares x w) ≡ shares * length x = length-shares_of shares x w (omega arith) of_w.size in
    let v_parts : length (parts_of shares (length x) (shares_of shares x v)) ≡ shares =
    length-parts_of shares (length x) (shares_of shares x v) in
    let w_parts : length (parts_of shares (length x) (shares_of shares x w)) ≡ shares =
    length-parts_of shares (length x) (shares_of shares x w) in
    let parts : parts_of shares (length x) (shares_of shares x v) ≡ parts_of shares (length x) (shares_of shares x w) =
    same_lists_with_sum (length x) place x (parts_of shares (length x) (shares_of shares x v))
    (parts_of shares (length x) (shares_of shares x w)) (omega arith) (omega arith)
    (parts_of-size shares (length x) (shares_of shares x v) v_size)
    (parts_of-size shares (length x) (shares_of shares x w) w_size)
    (parts_of-words shares (length x) (shares_of shares x v) (words-shares_of shares x v of_v.are_words))
    (parts_of-words shares (length x) (shares_of shares x w) (words-shares_of shares x w of_w.are_words))
    (shares_sum_up shares x v (omega arith) are) (shares_sum_up shares x w (omega arith) are)
    (of_v.gives ∙ sym of_w.gives) in
    let shares_same : shares_of shares x v ≡ shares_of shares x w =
    sym (concat-parts_of shares (length x) (shares_of shares x v) v_size) ∙ ap concat parts
    ∙ concat-parts_of shares (length x) (shares_of shares x w) w_size in
    sym (drop_at (first_share shares x v) v (length x) (length-difference_of x (sum_of_parts (shares - 1) (length x) v)))
    ∙ ap (λ (all : List ℕ). drop (length x) all) shares_same
    ∙ drop_at (first_share shares x w) w (length x) (length-difference_of x (sum_of_parts (shares - 1) (length x) w))

-- shares of the encoding, of which these are all but one, are given by the words behind the first
given_by : (shares place : ℕ) (x : List ℕ) (others all : List (List ℕ)) → 0 < shares → length all ≡ shares → All (λ (part : List ℕ). length part ≡ length x) all → All AreWords all → sum_of_lists (length x) all ≡ x → remove all place ≡ others → GivesOthers shares place x others (drop (length x) (concat all))
given_by zero place x others all some count sizes words sum rest = absurd (omega arith)
given_by (suc more) place x others all some count sizes words sum rest =
    let one : suc more * length x ≡ more * length x + length x = suc-mul more (length x) in
    let one_less : (suc more - 1) * length x ≡ more * length x = ap (λ (c : ℕ). c * length x) (omega arith) in
    let whole : length (concat all) ≡ suc more * length x =
    length-concat (length x) all sizes ∙ ap (λ (c : ℕ). c * length x) count in
    let behind : length (drop (length x) (concat all)) ≡ length (concat all) - length x = length-drop (length x) (concat all) in
    let parts : parts_of (suc more) (length x) (concat all) ≡ all =
    ap (λ (c : ℕ). parts_of c (length x) (concat all)) (sym count) ∙ parts_of-concat (length x) all sizes in
    let split : shares_of (suc more) x (drop (length x) (concat all)) ≡ concat all =
    each_sharing_is_split (suc more) x (concat all) some (words-concat all words) whole
    (ap (λ (lists : List (List ℕ)). sum_of_lists (length x) lists) parts ∙ sum) in
    record {
      are_words = All-drop IsWord (length x) (concat all) (words-concat all words);
      size = omega arith;
      gives =
          ap (λ (list : List ℕ). remove (parts_of (suc more) (length x) list) place) split
          ∙ ap (λ (lists : List (List ℕ)). remove lists place) parts ∙ rest;
    }

-- the share that others lack is the encoding minus their sum
completed_sum : (place : ℕ) (x : List ℕ) (others : List (List ℕ)) → AreWords x → sum_of_lists (length x) (insert others place (difference_of x (sum_of_lists (length x) others))) ≡ x
completed_sum place x others are =
    sym
    (sum_of_lists_from (length x) x (insert others place (difference_of x (sum_of_lists (length x) others))) refl
    (λ (k : ℕ) (below : k < length x).
    let word : get_or x k 0 < modulus = All-get_or IsWord x k 0 below are in
    let rest : get_or (sum_of_lists (length x) others) k 0 ≡ total_at others k % modulus =
    get_or-sum_of_lists (length x) others k below in
    let here : get_or (difference_of x (sum_of_lists (length x) others)) k 0 ≡ word_difference (get_or x k 0) (get_or (sum_of_lists (length x) others) k 0) =
    get_or-difference_of x (sum_of_lists (length x) others) k below in
    let whole : total_at (insert others place (difference_of x (sum_of_lists (length x) others))) k ≡ total_at others k + get_or (difference_of x (sum_of_lists (length x) others)) k 0 =
    sum_by-insert (λ (words : List ℕ). get_or words k 0) others place (difference_of x (sum_of_lists (length x) others)) in
    omega arith))

-- with that share at its place, all of them are shares of the encoding
pub some_words : (shares place : ℕ) (x : List ℕ) (others : List (List ℕ)) → AreWords x → place < shares → length others + 1 ≡ shares → All (λ (share : List ℕ). IsShare (length x) share) others → (words : List ℕ) × GivesOthers shares place x others words
some_words shares place x others are inside count those = (
  drop (length x) (concat (insert others place (difference_of x (sum_of_lists (length x) others)))),
  given_by shares place x others (insert others place (difference_of x (sum_of_lists (length x) others))) (omega arith)
      (length-insert others place (difference_of x (sum_of_lists (length x) others)) (omega arith) ∙ count)
      (All-insert (λ (part : List ℕ). length part ≡ length x) others place
      (difference_of x (sum_of_lists (length x) others))
      (All-weaker (λ (share : List ℕ). IsShare (length x) share) (λ (part : List ℕ). length part ≡ length x)
      (λ (share : List ℕ) (is : IsShare (length x) share). is.size) others those)
      (length-difference_of x (sum_of_lists (length x) others)))
      (All-insert AreWords others place (difference_of x (sum_of_lists (length x) others))
      (All-weaker (λ (share : List ℕ). IsShare (length x) share) AreWords
      (λ (share : List ℕ) (is : IsShare (length x) share). is.words) others those)
      (words-difference_of x (sum_of_lists (length x) others)))
      (completed_sum place x others are)
      (remove-insert others place (difference_of x (sum_of_lists (length x) others)) (omega arith)),
)
