-- The rows of a gadget, while they are written call after call. From one row among others up to all rows.
use Rattle.std.proofs.Common.{ℕ, suc, ◌≡◌, ◌+◌, ◌-◌, ◌*◌, ◌<◌, ◌≤◌, Bool, true, false, cond, List, [], ◌∷◌, ◌++◌, length, map, take, drop, get_or, Some, refl, ap, ap₂, sym, subst, ◌∙◌, arith, eqb, ⊎_elim, add-one, length-append}
use Rattle.std.specs.Prelude.{slice_index}
use Rattle.std.specs.List.{filter, slice_get}
use borrow.Rule.Slice.PartMut.{put_mid}
use Rattle.std.proofs.Math.Nat.{mul-le-mul_right}
use Rattle.std.proofs.Math.Seq.{take-suc, get_or-append_seam}
use Rattle.std.proofs.lemmas.Nat.{mul-add-lt}
use Rattle.std.proofs.lemmas.Bool.{cases_lt, eq-eqb, ne_eqb}
use Rattle.std.proofs.lemmas.List.{get_or_past, get_or-take, get_or-drop, get_or_append_left, get_or-append_right, get_or-map, length-map, length-take-le, take_all, take-map, map-append}
use Rattle.std.proofs.lemmas.List.Elements.{filter-append}
use Rattle.std.proofs.lemmas.Option.{slice_get_within, get_or_from_slice_get, slice_get-get_or}
use Rattle.flp_syntax.specs.Tree.{Program}
use Rattle.flp_meaning.specs.Meaning.{Call, Reading}
use Rattle.flp_meaning.specs.Circuit.{calls_of}
use Rattle.flp_meaning.specs.Gadgets.{arity_of, size_of, calls_to, times, gadgets_called, call_count, call_gadget, call_number}
use Rattle.flp_meaning.specs.Wires.{inputs_at, wire_values}
use Rattle.flp_meaning.proofs.Fixed.{gadgets_are_fixed}
use Rattle.flp_plan.specs.View.{HasInputs}
use Rattle.flp_plan.specs.Rows.{HasRows, column}
use Rattle.flp_plan.proofs.SizeLemmas.{map-alike}

-- ---- a row among others

-- in front of what was written, in it and behind it
front-at : (s k : ℕ) (xs ys : List ℕ) (i : ℕ) → s ≤ length xs → i < s → get_or (put_mid s k xs ys) i 0 ≡ get_or xs i 0
front-at s k xs ys i there low =
    let size : length (take s xs) ≡ s = length-take-le s xs there in
    get_or_append_left (take s xs) (ys ++ drop k (drop s xs)) 0 i (omega arith) ∙ get_or-take s xs i 0 low

within-at : (s k : ℕ) (xs ys : List ℕ) (i j : ℕ) → s ≤ length xs → j < length ys → i ≡ s + j → get_or (put_mid s k xs ys) i 0 ≡ get_or ys j 0
within-at s k xs ys i j there low at =
    let size : length (take s xs) ≡ s = length-take-le s xs there in
    let back : i - s ≡ j = omega arith in
    get_or-append_right (take s xs) (ys ++ drop k (drop s xs)) s i 0 size (omega arith)
    ∙ ap (λ m. get_or (ys ++ drop k (drop s xs)) m 0) back
    ∙ get_or_append_left ys (drop k (drop s xs)) 0 j low

behind-at : (s k : ℕ) (xs ys : List ℕ) (i : ℕ) → s ≤ length xs → length ys ≡ k → s + k ≤ i → get_or (put_mid s k xs ys) i 0 ≡ get_or xs i 0
behind-at s k xs ys i there long high =
    let size : length (take s xs) ≡ s = length-take-le s xs there in
    let same : s + (k + (i - s - k)) ≡ i = omega arith in
    get_or-append_right (take s xs) (ys ++ drop k (drop s xs)) s i 0 size (omega arith)
    ∙ get_or-append_right ys (drop k (drop s xs)) k (i - s) 0 long (omega arith)
    ∙ get_or-drop k (drop s xs) (i - s - k) 0
    ∙ get_or-drop s xs (k + (i - s - k)) 0
    ∙ ap (λ m. get_or xs m 0) same

-- rows before a row lie before it, and rows behind it behind it
row-before : (point other width input : ℕ) → point < other → input < width → point * width + input < other * width
row-before point other width input low inside =
    let h : point * width + input < width * other = mul-add-lt point width input other low inside in omega arith

row-behind : (point other width input : ℕ) → other < point → other * width + width ≤ point * width + input
row-behind point other width input high =
    let h : (other + 1) * width ≤ point * width = mul-le-mul_right width (omega arith) in omega arith

-- ---- the calls of a gadget

push-same : (first v : ℕ) (rest : List ℕ) (k : ℕ) → k ≡ suc (length rest) → slice_index (first ∷ (rest ++ v ∷ [])) k ≡ v
push-same first v rest k at = ap (λ j. slice_index (first ∷ (rest ++ v ∷ [])) j) at ∙ get_or-append_seam (first ∷ rest) v [] 0

push-other : (first v : ℕ) (rest : List ℕ) (k : ℕ) → (k ≡ suc (length rest) → ⊥) → slice_index (first ∷ (rest ++ v ∷ [])) k ≡ slice_index (first ∷ rest) k
push-other first v rest k other =
    let whole : length (rest ++ v ∷ []) ≡ length rest + 1 = length-append rest (v ∷ []) in
    ⊎_elim
    (λ (low : k < suc (length rest)). get_or_append_left (first ∷ rest) (v ∷ []) 0 k low)
    (λ (high : suc (length rest) ≤ k).
    let past : suc (length rest) < k = omega arith in
    get_or_past (first ∷ (rest ++ v ∷ [])) k 0 (omega arith) ∙ sym (get_or_past (first ∷ rest) k 0 high))
    (cases_lt k (suc (length rest)))

-- as many gadgets of this number as calls to it
times-calls : (gadget : ℕ) (calls : List Call) → times gadget (map (λ (call : Call). call.gadget) calls) ≡ length (calls_to gadget calls)
times-calls gadget [] = refl
times-calls gadget (call ∷ calls) = either (eqb call.gadget gadget) (times-calls gadget calls)
  where
    either : (test : Bool) → times gadget (map (λ (c : Call). c.gadget) calls) ≡ length (calls_to gadget calls)
        → length (cond test (call.gadget ∷ filter (λ other. eqb other gadget) (map (λ (c : Call). c.gadget) calls)) (filter (λ other. eqb other gadget) (map (λ (c : Call). c.gadget) calls)))
        ≡ length (cond test (call ∷ calls_to gadget calls) (calls_to gadget calls))
    either true h = ap suc h
    either false h = h

calls-more : (calls : List Call) (i : ℕ) (call : Call) → slice_get calls i ≡ Some call → take (i + 1) calls ≡ take i calls ++ call ∷ []
calls-more calls i call found =
    ap (λ k. take k calls) (add-one i)
    ∙ take-suc calls i call (slice_get_within calls i call found)
    ∙ ap (λ c. take i calls ++ c ∷ []) (get_or_from_slice_get calls i call call found)

-- a call to the gadget comes behind the earlier ones
pub to-more : (gadget : ℕ) (calls : List Call) (i : ℕ) (call : Call) → slice_get calls i ≡ Some call → call.gadget ≡ gadget
    → calls_to gadget (take (i + 1) calls) ≡ calls_to gadget (take i calls) ++ call ∷ []
to-more gadget calls i call found own =
    let test : eqb call.gadget gadget ≡ true = eq-eqb call.gadget gadget own in
    ap (λ l. calls_to gadget l) (calls-more calls i call found)
    ∙ filter-append (λ (c : Call). eqb c.gadget gadget) (take i calls) (call ∷ [])
    ∙ ap (λ b. calls_to gadget (take i calls) ++ cond b (call ∷ []) []) test

to-other : (gadget : ℕ) (calls : List Call) (i : ℕ) (call : Call) → slice_get calls i ≡ Some call → (call.gadget ≡ gadget → ⊥)
    → calls_to gadget (take (i + 1) calls) ≡ calls_to gadget (take i calls)
to-other gadget calls i call found other =
    let test : eqb call.gadget gadget ≡ false = ne_eqb call.gadget gadget other in
    ap (λ l. calls_to gadget l) (calls-more calls i call found)
    ∙ filter-append (λ (c : Call). eqb c.gadget gadget) (take i calls) (call ∷ [])
    ∙ ap (λ b. calls_to gadget (take i calls) ++ cond b (call ∷ []) []) test
    ∙ append_none (calls_to gadget (take i calls))
  where
    append_none : (l : List Call) → l ++ [] ≡ l
    append_none [] = refl
    append_none (c ∷ l) = ap (λ m. c ∷ m) (append_none l)

-- its number is one more than there were
pub number-is : (body : Program) (reading : Reading) (i : ℕ) (call : Call) → slice_get (calls_of body reading) i ≡ Some call → call.gadget ≡ call_gadget body i
    → call_number body i ≡ suc (length (calls_to (call_gadget body i) (take i (calls_of body reading))))
number-is body reading i call found own =
    let gadget : ℕ = call_gadget body i in
    let calls : List Call = calls_of body reading in
    let fixed : map (λ (c : Call). c.gadget) calls ≡ gadgets_called body = gadgets_are_fixed body reading in
    let one : length (calls_to gadget (take i calls) ++ call ∷ []) ≡ length (calls_to gadget (take i calls)) + 1 = length-append (calls_to gadget (take i calls)) (call ∷ []) in
    ap (λ l. times gadget (take (i + 1) l)) (sym fixed)
    ∙ ap (λ l. times gadget l) (take-map (λ (c : Call). c.gadget) (i + 1) calls)
    ∙ times-calls gadget (take (i + 1) calls)
    ∙ ap (λ l. length l) (to-more gadget calls i call found own)
    ∙ omega arith

-- as many calls as the circuit makes
count-calls : (body : Program) (reading : Reading) → length (calls_of body reading) ≡ call_count body
count-calls body reading =
    sym (length-map (calls_of body reading) (λ (c : Call). c.gadget)) ∙ ap (λ (l : List ℕ). length l) (gadgets_are_fixed body reading)

-- a call of another gadget is none of this one's
pub to-other-call : (body : Program) (reading : Reading) (gadget i : ℕ) → i < call_count body → (call_gadget body i ≡ gadget → ⊥)
    → calls_to gadget (take (i + 1) (calls_of body reading)) ≡ calls_to gadget (take i (calls_of body reading))
to-other-call body reading gadget i low other =
    let calls : List Call = calls_of body reading in
    let none : Call = record { gadget = 0; inputs = [] } in
    let size : length calls ≡ call_count body = count-calls body reading in
    let found : slice_get calls i ≡ Some (get_or calls i none) = slice_get-get_or calls i none (omega arith) in
    let own : (get_or calls i none).gadget ≡ call_gadget body i =
    sym (get_or-map (λ (c : Call). c.gadget) calls i none 0 (omega arith)) ∙ ap (λ l. slice_index l i) (gadgets_are_fixed body reading) in
    to-other gadget calls i (get_or calls i none) found (λ e. other (sym own ∙ e))

-- all calls
pub calls-whole : (body : Program) (reading : Reading) (i : ℕ) → call_count body ≤ i → take i (calls_of body reading) ≡ calls_of body reading
calls-whole body reading i all =
    let size : length (calls_of body reading) ≡ call_count body = count-calls body reading in
    take_all i (calls_of body reading) (omega arith)

-- ---- rows

-- the inputs of one more call of the gadget
pub rows-more : (body : Program) (reading : Reading) (seeds : List ℕ) (gadget i : ℕ) (rows row more : List ℕ) (number width : ℕ)
    → HasRows body (take i (calls_of body reading)) seeds gadget rows
    → HasInputs body reading i row → call_gadget body i ≡ gadget → number ≡ call_number body i → width ≡ arity_of body gadget
    → length row ≡ width → number * width + width ≤ length rows → more ≡ put_mid (number * width) width rows row
    → HasRows body (take (i + 1) (calls_of body reading)) seeds gadget more
rows-more body reading seeds gadget i rows row more number width before found own at wide long there same point input below inside =
    let a : ℕ = arity_of body gadget in
    let calls : List Call = calls_of body reading in
    let call : Call = record { gadget = call_gadget body i; inputs = row } in
    let earlier : List Call = calls_to gadget (take i calls) in
    let seed : ℕ = slice_index seeds input in
    let were : List ℕ = inputs_at input earlier in
    let low : input < width = omega arith in
    let count : length were ≡ length earlier = length-map earlier (λ (c : Call). slice_index c.inputs input) in
    let own_number : call_number body i ≡ suc (length (calls_to (call_gadget body i) (take i calls))) = number-is body reading i call found refl in
    let its_number : number ≡ suc (length were) =
    at ∙ own_number ∙ ap (λ g. suc (length (calls_to g (take i calls)))) own ∙ ap suc (sym count) in
    let now : slice_index (seed ∷ inputs_at input (calls_to gadget (take (i + 1) calls))) point ≡ slice_index (seed ∷ (were ++ slice_index row input ∷ [])) point =
    ap (λ l. slice_index (seed ∷ inputs_at input l) point) (to-more gadget calls i call found own)
    ∙ ap (λ l. slice_index (seed ∷ l) point) (map-append (λ (c : Call). slice_index c.inputs input) earlier (call ∷ [])) in
    let given : slice_index rows (point * width + input) ≡ slice_index (seed ∷ were) point =
    ap (λ w. slice_index rows (point * w + input)) wide ∙ before point input below inside in
    let read : slice_index more (point * a + input) ≡ slice_index (put_mid (number * width) width rows row) (point * width + input) =
    ap₂ (λ (l : List ℕ) (w : ℕ). slice_index l (point * w + input)) same (sym wide) in
    read
    ∙ ⊎_elim
    (λ (lower : point < number).
    front-at (number * width) width rows row (point * width + input) (omega arith) (row-before point number width input lower low)
    ∙ given ∙ sym (push-other seed (slice_index row input) were point (λ e. omega arith)))
    (λ (higher : number ≤ point).
    ⊎_elim
    (λ (past : number < point).
    behind-at (number * width) width rows row (point * width + input) (omega arith) long (row-behind point number width input past)
    ∙ given ∙ sym (push-other seed (slice_index row input) were point (λ e. omega arith)))
    (λ (none : point ≤ number).
    let here : point ≡ number = omega arith in
    within-at (number * width) width rows row (point * width + input) input (omega arith) (omega arith) (ap (λ p. p * width + input) here)
    ∙ sym (push-same seed (slice_index row input) were point (here ∙ its_number)))
    (cases_lt number point))
    (cases_lt point number)
    ∙ sym now

-- a call of another gadget changes nothing
pub rows-other : (body : Program) (reading : Reading) (seeds : List ℕ) (gadget i : ℕ) (rows : List ℕ) → i < call_count body
    → HasRows body (take i (calls_of body reading)) seeds gadget rows → (call_gadget body i ≡ gadget → ⊥)
    → HasRows body (take (i + 1) (calls_of body reading)) seeds gadget rows
rows-other body reading seeds gadget i rows low before other point input below inside =
    before point input below inside
    ∙ ap (λ l. slice_index (slice_index seeds input ∷ inputs_at input l) point) (sym (to-other-call body reading gadget i low other))

-- after all calls
pub rows-all : (body : Program) (reading : Reading) (seeds : List ℕ) (gadget i : ℕ) (rows : List ℕ) → call_count body ≤ i
    → HasRows body (take i (calls_of body reading)) seeds gadget rows → HasRows body (calls_of body reading) seeds gadget rows
rows-all body reading seeds gadget i rows all before =
    subst (λ l. HasRows body l seeds gadget rows) (calls-whole body reading i all) before

-- ---- wires

-- a column of the rows is what its wire runs through
pub column-wire : (body : Program) (calls : List Call) (seeds : List ℕ) (gadget size width : ℕ) (rows : List ℕ) (input : ℕ)
    → size ≡ size_of body gadget → width ≡ arity_of body gadget → HasRows body calls seeds gadget rows → input < width
    → column size width rows input ≡ wire_values body calls seeds gadget input
column-wire body calls seeds gadget size width rows input sized wide has low =
    ap₂ (λ (n w : ℕ). column n w rows input) sized wide
    ∙ map-alike (λ point. slice_index rows (point * arity_of body gadget + input)) (λ point. slice_index (slice_index seeds input ∷ inputs_at input (calls_to gadget calls)) point) 0 (size_of body gadget)
    (λ point start below. has point input (omega arith) (omega arith))
