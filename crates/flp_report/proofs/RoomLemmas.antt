-- A room whose last part was written.
use Rattle.std.proofs.Common.{◌≡◌, ℕ, ◌+◌, ◌≤◌, List, [], ◌++◌, length, take, drop, ap, ◌∙◌, arith, append-nil, length-drop}
use Rattle.std.proofs.lemmas.List.{drop_all}
use borrow.Rule.Slice.PartMut.{put_mid}

-- nothing stands behind that part
pub put_mid-end : (start size : ℕ) (room part : List ℕ) → length room ≤ start + size → put_mid start size room part ≡ take start room ++ part
put_mid-end start size room part all =
    let behind : drop size (drop start room) ≡ [] = drop_all size (drop start room) (omega (arith, length-drop start room, all)) in
    ap (λ (l : List ℕ). take start room ++ (part ++ l)) behind ∙ ap (λ (l : List ℕ). take start room ++ l) (append-nil part)
