-- Additive shares of an encoding. From share 0 up to what all shares but one say of the encoding.
use Rattle.std.specs.Prelude.{ℕ, ◌≡◌, ◌+◌, ◌-◌, ◌*◌, ◌<◌, List, ◌++◌, length, map, drop, remove, slice_index, All}
use Rattle.std.specs.List.{range_with_len}
use Rattle.flp_field.specs.Word.{AreWords, word_difference}
use Rattle.flp_field.specs.Sums.{parts_of, sum_of_parts}

-- one list of words minus another, word by word
abbrev pub difference_of : List ℕ → List ℕ → List ℕ
difference_of xs ys = map (λ k. word_difference (slice_index xs k) (slice_index ys k)) (range_with_len 0 (length xs))

-- share 0: the encoding minus the sum of the other shares, which are these words
abbrev pub first_share : ℕ → List ℕ → List ℕ → List ℕ
first_share shares x words = difference_of x (sum_of_parts (shares - 1) (length x) words)

-- so many shares of the encoding: share 0 and then the others, which are these words
abbrev pub shares_of : ℕ → List ℕ → List ℕ → List ℕ
shares_of shares x words = first_share shares x words ++ words

-- the sum of the shares is the encoding
abbrev pub SharesSumUp : Type 0
SharesSumUp =
    (shares : ℕ) (x words : List ℕ) → 0 < shares → AreWords x
    → sum_of_parts shares (length x) (shares_of shares x words) ≡ x

-- shares whose sum is the encoding are those that it is split into by all of them but share 0
abbrev pub EachSharingIsSplit : Type 0
EachSharingIsSplit =
    (shares : ℕ) (x all : List ℕ) → 0 < shares → AreWords all → length all ≡ shares * length x
    → sum_of_parts shares (length x) all ≡ x → shares_of shares x (drop (length x) all) ≡ all

-- a share of an encoding of n words: n words
pub record IsShare (n : ℕ) (share : List ℕ) : Type 0 where
  pub words : AreWords share
  pub size : length share ≡ n

-- split by these words, the encoding has these shares beside the one at this place
pub record GivesOthers (shares place : ℕ) (x : List ℕ) (others : List (List ℕ)) (words : List ℕ) : Type 0 where
  pub are_words : AreWords words
  pub size : length words ≡ (shares - 1) * length x
  pub gives : remove (parts_of shares (length x) (shares_of shares x words)) place ≡ others

-- there is one list of this kind, and only one
abbrev pub ExactlyOne : (List ℕ → Type 0) → Type 0
ExactlyOne P = (words : List ℕ) × P words × ((more : List ℕ) → P more → more ≡ words)

-- for each encoding, and each choice of all shares but the one at any place, exactly one list of words gives these
abbrev pub OneListGivesOthers : Type 0
OneListGivesOthers =
    (shares place : ℕ) (x : List ℕ) (others : List (List ℕ)) → AreWords x → place < shares
    → length others + 1 ≡ shares → All (λ share. IsShare (length x) share) others
    → ExactlyOne (λ words. GivesOthers shares place x others words)
