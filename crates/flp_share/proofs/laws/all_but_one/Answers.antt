use Rattle.std.proofs.Common.{ℕ, ◌≡◌, ◌+◌, ◌<◌, List, length}
use Rattle.std.specs.List.{All}
use Rattle.flp_field.specs.Word.{AreWords}
use Rattle.flp_share.specs.Shares.{IsShare, GivesOthers}
use Rattle.flp_share.proofs.OtherShares.{same_words, some_words}
use Rattle.flp_share.proofs.laws.all_but_one.Goals as goal

pub returns : goal.returns
returns c =
    λ (shares place : ℕ) (x : List ℕ) (others : List (List ℕ)) (are : AreWords x) (inside : place < shares) (count : length others + 1 ≡ shares) (those : All (λ (share : List ℕ). IsShare (length x) share) others).
    let some : (words : List ℕ) × GivesOthers shares place x others words = some_words shares place x others are inside count those in
    (some.0, some.1, λ (more : List ℕ) (gives : GivesOthers shares place x others more). same_words shares place x others more some.0 are inside gives some.1)
