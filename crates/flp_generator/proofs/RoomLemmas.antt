-- The batch fits the room that is made for it.
use Rattle.std.proofs.Common.{ℕ, suc, ◌≡◌, ◌+◌, ◌-◌, ◌*◌, ◌<◌, ◌≤◌, List, [], ◌∷◌, ◌++◌, length, Option, true, false, ap, subst, ◌∙◌, arith, length-append, append-nil}
use Rattle.std.specs.Prelude.{Result, Err, IsOk}
use Rattle.std.specs.List.{concat, flat_map}
use Rattle.std.proofs.Math.Nat.{mul-le-mul_right, suc-mul}
use Rattle.std.proofs.lemmas.List.Folds.{concat-append}
use Rattle.std.proofs.lemmas.List.FromFn.{map-range_with_len_more}
use Rattle.byteorder.specs.Endian.{little_bytes}
use Rattle.flp_io.specs.Writes.{HasRoom, Spends, PutSpares}
use Rattle.flp_io.proofs.WriteLemmas.{HasRoom-less, HasRoom-rest}
use Rattle.flp_syntax.specs.declared.syntax.Params.{Params}
use Rattle.flp_syntax.specs.Tree.{Program}
use Rattle.flp_report.specs.Batch.{batch_letters}
use Rattle.flp_report.specs.Layout.{head_numbers, head_bytes}
use Rattle.flp_generator.specs.Place.{trial_record}
use Rattle.flp_generator.specs.Batch.{trial_header, trial_records}

-- where there is room a write does not fail
pub surely : {T E : Type 0} (spare spare' : Option ℕ) (result : Result T E) (fault : E) (size : ℕ) → PutSpares spare spare' result size → HasRoom spare size → result ≡ Err fault → ⊥
surely spare spare' result fault size put room is =
    let no : false ≡ true = subst (λ (r : Result _ _). IsOk r) is (put room).0 in
    cc

pub length-head : (text : List ℕ) (reports : ℕ) → length (head_bytes (trial_header text reports)) ≡ 32 + length text
length-head text reports = length-append (batch_letters ++ flat_map (little_bytes 4) (head_numbers (trial_header text reports))) text

-- room for the records from a place on is room for that of the place, and then for the others
pub one-fits : (spare : Option ℕ) (reports place size : ℕ) → place < reports → HasRoom spare ((reports - place) * size) → HasRoom spare size
one-fits spare reports place size below room =
    let some : 1 ≤ reports - place = omega arith in
    HasRoom-less spare ((reports - place) * size) size room (omega (arith, mul-le-mul_right size some))

pub others-fit : (spare spare' : Option ℕ) (reports place size : ℕ) → place < reports → HasRoom spare ((reports - place) * size) → Spends spare spare' size
    → HasRoom spare' ((reports - (place + 1)) * size)
others-fit spare spare' reports place size below room spent =
    let rest : ℕ = reports - (place + 1) in
    let next : reports - place ≡ suc rest = omega arith in
    let split : (reports - place) * size ≡ size + rest * size = ap (λ (n : ℕ). n * size) next ∙ omega (arith, suc-mul rest size) in
    HasRoom-rest spare spare' size (rest * size) (subst (HasRoom spare) split room) spent

-- the records of one place more
pub records-more : (params : Option Params) (circuit : Program) (seed place : ℕ)
    → concat (trial_records params circuit seed (place + 1)) ≡ concat (trial_records params circuit seed place) ++ trial_record params circuit seed place
records-more params circuit seed place =
    let record_at = trial_record params circuit seed in
    let before : List (List ℕ) = trial_records params circuit seed place in
    ap concat (map-range_with_len_more record_at 0 place place (omega arith))
    ∙ (concat-append before (record_at place ∷ []) ∙ ap (λ (l : List ℕ). concat before ++ l) (append-nil (record_at place)))
