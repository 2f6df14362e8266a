-- What is false at every eighth place.
use Rattle.std.specs.Prelude.{ℕ, ◌-◌, ◌%◌, ◌==◌, if◌then◌else◌}
use Rattle.flp_generator.specs.declared.change.Change.{Change}
use Rattle.flp_generator.specs.declared.change.Change.TheVariants.{Nothing, Proof, Point, Word, Nonce}

-- of each eight places the first four are honest; in the others the proof, the point, a word or the nonce is changed
abbrev pub change_at : (place : ℕ) → Change
change_at place =
    if place % 8 == 4 then Proof
    else if place % 8 == 5 then Point
    else if place % 8 == 6 then Word
    else if place % 8 == 7 then Nonce
    else Nothing

-- the place whose nonce this one has: its own, or else the first of the eight
abbrev pub nonce_place : Change → (place : ℕ) → ℕ
nonce_place Nonce place = place - 7
nonce_place Nothing place = place
nonce_place Proof place = place
nonce_place Point place = place
nonce_place Word place = place
