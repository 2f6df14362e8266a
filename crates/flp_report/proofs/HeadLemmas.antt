-- The first fault of a head, from its parts, and what a file shares with its front.
use Rattle.std.proofs.Common.{◌≡◌, ℕ, ◌+◌, ◌<◌, ◌≤◌, List, ◌++◌, length, take, drop, Option, Some, None, nat_eq, refl, sym, ap, subst, ◌∙◌, arith, length-append, length-drop}
use Rattle.std.proofs.lemmas.Bool.{lt-ltb, le-ltb}
use Rattle.std.proofs.lemmas.List.{take-append-le, drop-append-le, drop_at, length-take-le}
use Rattle.std.specs.Cmp.Lexicographic.{pointwise}
use Rattle.std.specs.List.{starts_with}
use Rattle.byteorder.specs.Endian.{little_number}
use Rattle.byteorder.specs.Numbers.{little_from-append}
use Rattle.flp_report.specs.declared.fault.BatchFault.{BatchFault}
use Rattle.flp_report.specs.declared.fault.BatchFault.TheVariants.{Truncated}
use Rattle.flp_report.specs.Fault.{ended}
use Rattle.flp_report.specs.Head.{number_at, numbers_fault, start_fault, text_end, stop_of, head_takes, head_fault, IsTextCut}
use Rattle.flp_report.specs.Reads.{EndedShort}

-- where the input goes on, it has not ended
pub ended-none : (before need : ℕ) (rest : List ℕ) → need ≤ before + length rest → ended before need rest ≡ None
ended-none before need rest long = rw (le-ltb (before + length rest) need long) refl

-- where fewer bytes came, it has
pub ended-short : (before wanted need : ℕ) (rest : List ℕ) (fault : BatchFault) → before + wanted ≤ need → EndedShort (Some rest) before wanted need fault → ended before need rest ≡ Some fault
ended-short before wanted need rest fault within short =
    let less : before + length rest < need = omega (arith, short.less, short.known) in
    let came : before + length rest ≡ before + short.came = omega (arith, short.known) in
    rw (lt-ltb (before + length rest) need less) (ap (λ (n : ℕ). Some (Truncated n need)) came ∙ ap (λ (f : BatchFault). Some f) (sym short.is))

-- a file shares the numbers of its head with its front
pub number_at-append : (place : ℕ) (front rest : List ℕ) → place + 4 ≤ length front → number_at place (front ++ rest) ≡ number_at place front
number_at-append place front rest long =
    let behind : place ≤ length front = omega arith in
    let four : 4 ≤ length (drop place front) = omega (arith, length-drop place front) in
    ap (little_number 4) (drop-append-le place front rest behind) ∙ little_from-append 4 (drop place front) rest four

-- and the letters
pub letters-append : (letters front rest : List ℕ) → length letters ≤ length front → starts_with nat_eq (front ++ rest) letters ≡ starts_with nat_eq front letters
letters-append letters front rest long = ap (λ (b : List ℕ). pointwise nat_eq letters b) (take-append-le (length letters) front rest long)

-- and so their first fault
pub numbers_fault-append : (letters : List ℕ) (newest : ℕ) (party : Option ℕ) (front rest : List ℕ) → length letters ≡ 8 → 24 ≤ length front → numbers_fault letters newest party (front ++ rest) ≡ numbers_fault letters newest party front
numbers_fault-append letters newest party front rest size long =
    let a : length letters ≤ length front = omega (arith, size) in
    let b : 8 + 4 ≤ length front = omega arith in
    let c : 12 + 4 ≤ length front = omega arith in
    let d : 16 + 4 ≤ length front = omega arith in
    let e : 20 + 4 ≤ length front = omega arith in
    rw (
      letters-append letters front rest a,
      number_at-append 8 front rest b,
      number_at-append 12 front rest c,
      number_at-append 16 front rest d,
      number_at-append 20 front rest e,
    )
    refl

-- a file whose first bytes have a fault among their numbers
pub start_fault-numbers : (letters : List ℕ) (base newest : ℕ) (party : Option ℕ) (front rest : List ℕ) (fault : BatchFault) → length letters ≡ 8 → 24 ≤ base → length front ≡ base
    → numbers_fault letters newest party front ≡ Some fault → start_fault letters base newest party (front ++ rest) ≡ Some fault
start_fault-numbers letters base newest party front rest fault size long same is =
    let whole : base ≤ 0 + length (front ++ rest) = omega (arith, length-append front rest, same) in
    let enough : 24 ≤ length front = omega (arith, same) in
    rw (ended-none 0 base (front ++ rest) whole, numbers_fault-append letters newest party front rest size enough, is) refl

-- a file that ends within its text
pub head_fault-text : (letters : List ℕ) (base : ℕ) (party : Option ℕ) (front rest : List ℕ) (fault : BatchFault) → length letters ≡ 8 → 24 ≤ base → length front ≡ base
    → numbers_fault letters 1 party front ≡ None → EndedShort (Some rest) base (number_at 20 front) (base + number_at 20 front) fault
    → head_fault letters base party (front ++ rest) ≡ Some fault
head_fault-text letters base party front rest fault size long same none short =
    let whole : base ≤ 0 + length (front ++ rest) = omega (arith, length-append front rest, same) in
    let enough : 24 ≤ length front = omega (arith, same) in
    let number : 20 + 4 ≤ length front = omega (arith, same) in
    let behind : drop base (front ++ rest) ≡ rest = drop_at front rest base same in
    let within : base + number_at 20 front ≤ base + number_at 20 front = omega arith in
    rw (ended-none 0 base (front ++ rest) whole, numbers_fault-append letters 1 party front rest size enough, none, number_at-append 20 front rest number, behind, ended-short base (number_at 20 front) (base + number_at 20 front) rest fault within short) refl

-- a file whose head and text are whole and right
pub head_fault-none : (letters : List ℕ) (base : ℕ) (party : Option ℕ) (front rest : List ℕ) → length letters ≡ 8 → 24 ≤ base → length front ≡ base
    → numbers_fault letters 1 party front ≡ None → number_at 20 front ≤ length rest
    → head_fault letters base party (front ++ rest) ≡ None
head_fault-none letters base party front rest size long same none text =
    let whole : base ≤ 0 + length (front ++ rest) = omega (arith, length-append front rest, same) in
    let enough : 24 ≤ length front = omega (arith, same) in
    let number : 20 + 4 ≤ length front = omega (arith, same) in
    let behind : drop base (front ++ rest) ≡ rest = drop_at front rest base same in
    let reaches : base + number_at 20 front ≤ base + length rest = omega (arith, text) in
    rw (ended-none 0 base (front ++ rest) whole, numbers_fault-append letters 1 party front rest size enough, none, number_at-append 20 front rest number, behind, ended-none base (base + number_at 20 front) rest reaches) refl

-- a reading that stops behind the first bytes or behind the text stops no earlier than behind the first bytes
stop_of-least : (base text : ℕ) (fault : Option BatchFault) → base ≤ text → base ≤ stop_of base text fault
stop_of-least base text None fits = fits
stop_of-least base text (Some fault) fits = omega arith

pub head_takes-least : (letters : List ℕ) (base : ℕ) (party : Option ℕ) (bytes : List ℕ) → base ≤ head_takes letters base party bytes
head_takes-least letters base party bytes =
    let behind : base ≤ text_end base bytes = omega arith in
    stop_of-least base (text_end base bytes) (start_fault letters base 1 party bytes) behind

-- and behind the text where the first bytes have no fault
pub head_takes-text : (letters : List ℕ) (base : ℕ) (party : Option ℕ) (front rest : List ℕ) → length letters ≡ 8 → 24 ≤ base → length front ≡ base
    → numbers_fault letters 1 party front ≡ None → head_takes letters base party (front ++ rest) ≡ base + number_at 20 front
head_takes-text letters base party front rest size long same none =
    let whole : base ≤ 0 + length (front ++ rest) = omega (arith, length-append front rest, same) in
    let enough : 24 ≤ length front = omega (arith, same) in
    let number : 20 + 4 ≤ length front = omega (arith, same) in
    rw (ended-none 0 base (front ++ rest) whole, numbers_fault-append letters 1 party front rest size enough, none, number_at-append 20 front rest number) refl

-- a text that is cut out of a head has the length that the head gives
pub length-text : (base : ℕ) (front text : List ℕ) → length front ≡ text_end base front → text ≡ take (number_at 20 front) (drop base front) → length front ≡ base + length text
length-text base front text size same =
    let held : number_at 20 front ≤ length (drop base front) = omega (arith, size, length-drop base front) in
    let long : length text ≡ number_at 20 front = ap length same ∙ length-take-le (number_at 20 front) (drop base front) held in
    omega (arith, size, long)

-- an input that ended within the text
pub text-cut : (left : Option (List ℕ)) (base size need : ℕ) (b : BatchFault) → need ≡ base + size → size ≤ 65536 → EndedShort left base size need b → IsTextCut base b
text-cut left base size need b same small short =
    let here : IsTextCut base (Truncated (base + short.came) need) = (omega arith, omega (arith, short.less, same), omega (arith, same, small)) in
    subst (IsTextCut base) (sym short.is) here
