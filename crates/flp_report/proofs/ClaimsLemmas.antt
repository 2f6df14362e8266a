-- The first fault of old claims, and where a file's records stand while they are read.
use Rattle.std.proofs.Common.{◌≡◌, ℕ, ◌+◌, ◌-◌, ◌*◌, ◌≤◌, List, ◌++◌, length, Some, None, refl, sym, ap, ◌∙◌, arith, length-append}
use Rattle.std.proofs.Math.Nat.{add-mul}
use Rattle.flp_report.specs.declared.fault.BatchFault.TheVariants.{ClaimsOrder}
use Rattle.flp_report.specs.Pieces.{pieces, fall_in}
use Rattle.flp_report.specs.Batch.{claims_fault}
use Rattle.flp_report.proofs.HeadLemmas.{ended-none}
use Rattle.flp_report.proofs.PiecesLemmas.{pieces-append}

-- records that are read leave the rest of the file where it is
pub file_moves : (place claims left count size : ℕ) → count ≤ left → place + count * size + 16 * claims + (left - count) * size ≡ place + 16 * claims + left * size
file_moves place claims left count size few =
    let split = add-mul (left - count) count size in
    let whole : left - count + count ≡ left = omega arith in
    let moved : left * size ≡ (left - count) * size + count * size = ap (λ (n : ℕ). n * size) (sym whole) ∙ split in
    omega (arith, moved)

-- old claims out of order, whatever follows them
pub claims_fault-order : (before count : ℕ) (front rest : List ℕ) (place : ℕ) → length front ≡ 16 * count → fall_in (pieces 16 count front) ≡ Some place → claims_fault before count (front ++ rest) ≡ Some (ClaimsOrder place)
claims_fault-order before count front rest place size falls =
    let reaches : before + 16 * count ≤ before + length (front ++ rest) = omega (arith, length-append front rest, size) in
    let fits : count * 16 ≤ length front = omega (arith, size) in
    rw (ended-none before (before + 16 * count) (front ++ rest) reaches, pieces-append 16 count front rest fits, falls) refl

-- old claims in order, whatever follows them
pub claims_fault-none : (before count : ℕ) (front rest : List ℕ) → length front ≡ 16 * count → fall_in (pieces 16 count front) ≡ None → claims_fault before count (front ++ rest) ≡ None
claims_fault-none before count front rest size rising =
    let reaches : before + 16 * count ≤ before + length (front ++ rest) = omega (arith, length-append front rest, size) in
    let fits : count * 16 ≤ length front = omega (arith, size) in
    rw (ended-none before (before + 16 * count) (front ++ rest) reaches, pieces-append 16 count front rest fits, rising) refl
