-- Ways to answer that agree: which values and calls they decide.
use Rattle.std.proofs.Common.{ℕ, zero, suc, min, ◌≡◌, ◌+◌, ◌-◌, ◌*◌, ◌<◌, ◌≤◌, List, [], ◌∷◌, ◌++◌, length, map, take, refl, ap, sym, subst, ◌∙◌, arith, ⊎_elim, length-append, length-take}
use Rattle.std.proofs.lemmas.Bool.{cases_lt}
use Rattle.std.proofs.lemmas.List.{take-append-le, take_all, get_or-take, take-map}
use Rattle.std.proofs.Math.Seq.{take-append-add}
use Rattle.std.specs.Prelude.{slice_index}
use Rattle.flp_gadget.specs.KindTree.{value_of}
use Rattle.flp_syntax.specs.Tree.{Program}
use Rattle.flp_meaning.specs.Meaning.{Call, Meant, Run, Reading, then_run, call_run}
use Rattle.flp_meaning.specs.Circuit.{circuit_of, calls_of, kind_of, direct}
use Rattle.flp_meaning.specs.MeaningLaws.{call_values, AnsweredIsDirect, CallsAreFilled}
use Rattle.flp_meaning.proofs.PartByPart.{Passes, circuit_passes}

-- two ways to answer agree on calls, the first of which comes after so many
abbrev pub AgreeOn : (ℕ → Call → ℕ) → (ℕ → Call → ℕ) → ℕ → List Call → Type 0
AgreeOn first second made [] = Unit {0}
AgreeOn first second made (call ∷ more) = (first made call ≡ second made call) × AgreeOn first second (made + 1) more

-- a reading with other answers
abbrev pub answering : Reading → (ℕ → Call → ℕ) → Reading
answering reading answer = record { joint = reading.joint; meas = reading.meas; unit = reading.unit; answer = answer }

agree-append : (a b : ℕ → Call → ℕ) (n : ℕ) (xs ys : List Call) → AgreeOn a b n (xs ++ ys) → AgreeOn a b n xs × AgreeOn a b (n + length xs) ys
agree-append a b n [] ys h = let same : n + 0 ≡ n = omega arith in (tt, subst (λ m. AgreeOn a b m ys) (sym same) h)
agree-append a b n (x ∷ xs) ys h =
    let rest = agree-append a b (n + 1) xs ys h.1 in
    let same : n + 1 + length xs ≡ n + suc (length xs) = omega arith in
    ((h.0, rest.0), subst (λ m. AgreeOn a b m ys) same rest.1)

-- agreement on the first k calls decides the calls up to the next one, and everything where there are no more
Decided : (a b : ℕ → Call → ℕ) → (A : Type 0) → Run A → Run A → Type 0
Decided a b A f g =
    (n k : ℕ) → AgreeOn a b n (take k (f n).calls)
    → (take (suc k) (g n).calls ≡ take (suc k) (f n).calls) × (length (f n).calls ≤ k → g n ≡ f n)

-- where the front of the calls is longer than k, it alone decides
front_decides : (c c' d d' : List Call) (k : ℕ) → k < length c → take (suc k) c' ≡ take (suc k) c → take (suc k) (c' ++ d') ≡ take (suc k) (c ++ d)
front_decides c c' d d' k low same =
    let sizes : min (suc k) (length c') ≡ min (suc k) (length c) = sym (length-take (suc k) c') ∙ ap (λ (l : List Call). length l) same ∙ length-take (suc k) c in
    let long : suc k ≤ length c' = omega arith in
    let long_c : suc k ≤ length c = omega arith in
    take-append-le (suc k) c' d' long ∙ same ∙ sym (take-append-le (suc k) c d long_c)

take_past : (c d : List Call) (k : ℕ) → length c ≤ k → take k (c ++ d) ≡ c ++ take (k - length c) d
take_past c d k high =
    let e : length c + (k - length c) ≡ k = omega arith in
    subst (λ m. take m (c ++ d) ≡ c ++ take (k - length c) d) e (take-append-add c d (k - length c))

-- the front is decided whole
whole_front : (a b : ℕ → Call → ℕ) (A : Type 0) (f f' : Run A) (n k : ℕ) (d : List Call) → Decided a b A f f' → length (f n).calls ≤ k
    → AgreeOn a b n (take k ((f n).calls ++ d)) → (f' n ≡ f n) × AgreeOn a b (n + length (f n).calls) (take (k - length (f n).calls) d)
unfolding Decided
whole_front a b A f f' n k d df high h =
    let c : List Call = (f n).calls in
    let parts = agree-append a b n c (take (k - length c) d) (subst (λ l. AgreeOn a b n l) (take_past c d k high) h) in
    let all : AgreeOn a b n (take (length c) c) = subst (λ l. AgreeOn a b n l) (sym (take_all (length c) c (omega arith))) parts.0 in
    ((df n (length c) all).1 (omega arith), parts.1)

in_order : (a b : ℕ → Call → ℕ) (A B C : Type 0) (join : A → B → C) (f f' : Run A) (g g' : Run B)
    → Decided a b A f f' → Decided a b B g g' → Decided a b C (then_run join f g) (then_run join f' g')
unfolding Decided
in_order a b A B C join f f' g g' df dg n k h =
    let c : List Call = (f n).calls in
    let m : ℕ = n + length c in
    let d : List Call = (g m).calls in
    ⊎_elim
    (λ (low : k < length c).
    let hc : AgreeOn a b n (take k c) = subst (λ l. AgreeOn a b n l) (take-append-le k c d (omega arith)) h in (
      front_decides c (f' n).calls d (g' (n + length (f' n).calls)).calls k low (df n k hc).0,
      λ all. let long : length c + length d ≤ k = subst (λ s. s ≤ k) (length-append c d) all in absurd (omega arith),
    ))
    (λ (high : length c ≤ k).
    let front = whole_front a b A f f' n k d df high h in
    let P : Meant A → Type 0 = λ z.
    (take (suc k) (z.calls ++ (g' (n + length z.calls)).calls) ≡ take (suc k) (c ++ d))
    × (length (c ++ d) ≤ k → then_run join (λ _. z) g' n ≡ then_run join f g n) in
    let back = dg m (k - length c) front.1 in
    let step : suc k - length c ≡ suc (k - length c) = omega arith in
    subst P (sym front.0) (
      take_past c (g' m).calls (suc k) (omega arith)
          ∙ ap (λ j. c ++ take j (g' m).calls) step
          ∙ ap (λ l. c ++ l) back.0
          ∙ sym (ap (λ j. c ++ take j d) step)
          ∙ sym (take_past c d (suc k) (omega arith)),
      λ all.
          let long : length c + length d ≤ k = subst (λ s. s ≤ k) (length-append c d) all in
          let few : length d ≤ k - length c = omega arith in
          ap (λ (z : Meant B). let r : Meant C = record { value = join (f n).value z.value; calls = c ++ z.calls } in r) (back.1 few),
    ))
    (cases_lt k (length c))

one_more : (a b : ℕ → Call → ℕ) (m j : ℕ) (call : Call) → 1 ≤ j → AgreeOn a b m (take j (call ∷ [])) → a m call ≡ b m call
one_more a b m zero call some h = absurd (omega arith)
one_more a b m (suc j) call some h = h.0

after_call : (w : Reading) (b : ℕ → Call → ℕ) (gadget : ℕ) (f f' : Run (List ℕ))
    → Decided w.answer b (List ℕ) f f' → Decided w.answer b ℕ (call_run w gadget f) (call_run (answering w b) gadget f')
unfolding Decided
after_call w b gadget f f' df n k h =
    let a : ℕ → Call → ℕ = w.answer in
    let c : List Call = (f n).calls in
    let m : ℕ = n + length c in
    let last : Call = record { gadget = gadget; inputs = (f n).value } in
    let d : List Call = last ∷ [] in
    ⊎_elim
    (λ (low : k < length c).
    let hc : AgreeOn a b n (take k c) = subst (λ l. AgreeOn a b n l) (take-append-le k c d (omega arith)) h in (
      front_decides c (f' n).calls d (record { gadget = gadget; inputs = (f' n).value } ∷ []) k low (df n k hc).0,
      λ all. let long : length c + 1 ≤ k = subst (λ s. s ≤ k) (length-append c d) all in absurd (omega arith),
    ))
    (λ (high : length c ≤ k).
    let front = whole_front a b (List ℕ) f f' n k d df high h in
    let P : Meant (List ℕ) → Type 0 = λ z.
    (take (suc k) (z.calls ++ record { gadget = gadget; inputs = z.value } ∷ []) ≡ take (suc k) (c ++ d))
    × (length (c ++ d) ≤ k → call_run (answering w b) gadget (λ _. z) n ≡ call_run w gadget f n) in
    subst P (sym front.0) (
      refl,
      λ all.
          let long : length c + 1 ≤ k = subst (λ s. s ≤ k) (length-append c d) all in
          let same : a m last ≡ b m last = one_more a b m (k - length c) last (omega arith) front.1 in
          ap (λ (value : ℕ). let r : Meant ℕ = record { value = value; calls = c ++ d } in r) (sym same),
    ))
    (cases_lt k (length c))

decided : (w : Reading) (b : ℕ → Call → ℕ) → Passes w (answering w b) (Decided w.answer b) (λ _ _ _. Unit {0})
unfolding Decided
decided w b = record {
  alike = λ A value n k h. (refl, λ all. refl);
  joint_word = λ j n k h. (refl, λ all. refl);
  meas_word = λ j n k h. (refl, λ all. refl);
  after_change = λ A B change f g h n k agree. (
    (h n k agree).0,
    λ all. ap (λ (z : Meant A). let r : Meant B = record { value = change z.value; calls = z.calls } in r) ((h n k agree).1 all),
  );
  after_unit = λ f g h n k agree. (
    (h n k agree).0,
    λ all. ap (λ (z : Meant ℕ). let r : Meant ℕ = record { value = w.unit * z.value; calls = z.calls } in r) ((h n k agree).1 all),
  );
  in_order = in_order w.answer b;
  after_call = λ gadget f g some. after_call w b gadget f g;
}

whole_circuit : (body : Program) (w : Reading) (b : ℕ → Call → ℕ) (k : ℕ) → AgreeOn w.answer b 0 (take k (calls_of body w))
    → (take (suc k) (calls_of body (answering w b)) ≡ take (suc k) (calls_of body w))
    × (length (calls_of body w) ≤ k → circuit_of body (answering w b) ≡ circuit_of body w)
unfolding Decided
whole_circuit body w b k h =
    circuit_passes body.gadgets w (answering w b) (Decided w.answer b) (λ _ _ _. Unit {0}) (decided w b) (λ _ _ _. tt) body.stmts 0 k h

-- two ways to answer that agree on the calls that are made give the same checks, outs and calls
pub answers_decide : (body : Program) (reading : Reading) (answer : ℕ → Call → ℕ) → AgreeOn reading.answer answer 0 (calls_of body reading)
    → circuit_of body (answering reading answer) ≡ circuit_of body reading
answers_decide body w b h =
    let calls : List Call = calls_of body w in
    (whole_circuit body w b (length calls) (subst (λ l. AgreeOn w.answer b 0 l) (sym (take_all (length calls) calls (omega arith))) h)).1 (omega arith)

-- if they agree on the first k calls, the calls up to the next one are the same
earlier_answers_decide : (body : Program) (reading : Reading) (answer : ℕ → Call → ℕ) (k : ℕ)
    → AgreeOn reading.answer answer 0 (take k (calls_of body reading))
    → take (k + 1) (calls_of body (answering reading answer)) ≡ take (k + 1) (calls_of body reading)
earlier_answers_decide body w b k h =
    let next : suc k ≡ k + 1 = omega arith in
    subst (λ j. take j (calls_of body (answering w b)) ≡ take j (calls_of body w)) next (whole_circuit body w b k h).0

-- answers by their places, against values of the calls
pub agree-places : (value : Call → ℕ) (answers : List ℕ) (n : ℕ) (calls : List Call)
    → ((k : ℕ) → k < length calls → slice_index answers (n + k) ≡ slice_index (map value calls) k)
    → AgreeOn (λ m call. value call) (λ m call. slice_index answers m) n calls
agree-places value answers n [] h = tt
agree-places value answers n (call ∷ calls) h =
    let first : n + 0 ≡ n = omega arith in (
      sym (h 0 (omega arith)) ∙ ap (λ k. slice_index answers k) first,
      agree-places value answers (n + 1) calls
          (λ k low.
          let same : n + 1 + k ≡ n + suc k = omega arith in
          ap (λ j. slice_index answers j) same ∙ h (suc k) (omega arith)),
    )

pub agree-sym : (a b : ℕ → Call → ℕ) (n : ℕ) (calls : List Call) → AgreeOn a b n calls → AgreeOn b a n calls
agree-sym a b n [] h = tt
agree-sym a b n (call ∷ calls) h = (sym h.0, agree-sym a b (n + 1) calls h.1)

value_in : Program → Call → ℕ
value_in body call = value_of (kind_of body call.gadget) call.inputs

pub answered_is_direct : AnsweredIsDirect
unfolding value_in
answered_is_direct body x joint =
    let calls : List Call = calls_of body (direct body x joint) in
    let answers : List ℕ = call_values body x joint in
    answers_decide body (direct body x joint) (λ number call. slice_index answers number)
    (agree-places (value_in body) answers 0 calls
    (λ k low. let same : 0 + k ≡ k = omega arith in ap (λ j. slice_index answers j) same))

pub calls_are_filled : CallsAreFilled
unfolding value_in
calls_are_filled body x joint answers k h =
    let calls : List Call = calls_of body (direct body x joint) in
    earlier_answers_decide body (direct body x joint) (λ number call. slice_index answers number) k
    (agree-places (value_in body) answers 0 (take k calls)
    (λ j low.
    let size : length (take k calls) ≡ min k (length calls) = length-take k calls in
    let below : j < k = omega arith in
    let same : 0 + j ≡ j = omega arith in
    ap (λ i. slice_index answers i) same
    ∙ h j below
    ∙ sym (get_or-take k (map (value_in body) calls) j 0 below)
    ∙ ap (λ l. slice_index l j) (take-map (value_in body) k calls)))
