-- How what several writes took and spent adds up, for callers of `put`.
use Rattle.std.proofs.Common.{◌≡◌, ℕ, ◌+◌, ◌-◌, ◌≤◌, List, [], ◌++◌, Option, None, Some, true, false, arith, length, length-append, take, drop, refl, sym, ap, ◌∙◌, subst, append_assoc, append-nil, take-append-drop}
use lib.Seq.{take-append_seam}
use Rattle.std.specs.Io.KnownBytes.{Appends}
use Rattle.std.proofs.KnownBytes.{Appends-nil, Appends-trans}
use Rattle.std.specs.Prelude.{Result, Ok, Err, IsOk, IsErr, OnOk}
use Rattle.flp_io.specs.Writes.{TakesPrefix, HasRoom, Spends, PutSpares, WritesTo}
use Rattle.flp_io.proofs.UsesLemmas.{Uses-none, Uses-after, Uses-as}

-- ---- prefixes

-- what was taken is the front of the text
pub TakesPrefix-front : (a b : Option (List ℕ)) (front rest text : List ℕ) → Appends a b front → text ≡ front ++ rest → TakesPrefix a b text
TakesPrefix-front a b front rest text p e =
    record { count = length front; grown = subst (Appends a b) (sym (ap (take (length front)) e ∙ take-append_seam front rest)) p }

-- nothing was taken
pub TakesPrefix-refl : (a : Option (List ℕ)) (text : List ℕ) → TakesPrefix a a text
TakesPrefix-refl a text = TakesPrefix-front a a [] text text (Appends-nil a) refl

-- all of the text was taken
pub TakesPrefix-whole : (a b : Option (List ℕ)) (text : List ℕ) → Appends a b text → TakesPrefix a b text
TakesPrefix-whole a b text p = TakesPrefix-front a b text [] text p (sym (append-nil text))

-- a prefix of a text is one of a longer text
pub TakesPrefix-more : (a b : Option (List ℕ)) (text more : List ℕ) → TakesPrefix a b text → TakesPrefix a b (text ++ more)
TakesPrefix-more a b text more p =
    let n = p.count in
    let split : text ++ more ≡ take n text ++ (drop n text ++ more) =
    ap (λ l. l ++ more) (sym (take-append-drop n text)) ∙ append_assoc (take n text) (drop n text) more in
    TakesPrefix-front a b (take n text) (drop n text ++ more) (text ++ more) p.grown split

-- after all of one text, a prefix of the next
pub TakesPrefix-after : (a b c : Option (List ℕ)) (text more : List ℕ) → Appends a b text → TakesPrefix b c more → TakesPrefix a c (text ++ more)
TakesPrefix-after a b c text more p q =
    let n = q.count in
    let split : text ++ more ≡ (text ++ take n more) ++ drop n more =
    ap (λ l. text ++ l) (sym (take-append-drop n more)) ∙ sym (append_assoc text (take n more) (drop n more)) in
    TakesPrefix-front a c (text ++ take n more) (drop n more) (text ++ more) (Appends-trans a b c text (take n more) p q.grown) split

-- ---- room

-- room for two pieces is room for the second once the first is spent
pub HasRoom-rest : (a b : Option ℕ) (m n : ℕ) → HasRoom a (m + n) → Spends a b m → HasRoom b n
HasRoom-rest None b m n h p = absurd h
HasRoom-rest (Some room) b m n h p =
    let enough : n ≤ room - m = omega arith in
    subst (λ (o : Option ℕ). HasRoom o n) (sym p) enough

-- room for a piece is room for a shorter one
pub HasRoom-less : (a : Option ℕ) (m n : ℕ) → HasRoom a m → n ≤ m → HasRoom a n
HasRoom-less None m n h p = absurd h
HasRoom-less (Some room) m n h p = omega arith

-- what two writes spend adds up
pub Spends-trans : (a b c : Option ℕ) (m n : ℕ) → Spends a b m → Spends b c n → Spends a c (m + n)
Spends-trans None b c m n p q = tt
Spends-trans (Some room) b c m n p q =
    let twice : c ≡ Some ((room - m) - n) = subst (λ (o : Option ℕ). Spends o c n) p q in
    let both : (room - m) - n ≡ room - (m + n) = omega arith in
    twice ∙ ap Some both

-- ---- all of a sink

-- a told room that suffices for two pieces suffices for the first, and then for the second
PutSpares-after : {T E U F : Type 0} (a b c : Option ℕ) (r : Result T E) (s : Result U F) (m n : ℕ) → PutSpares a b r m → PutSpares b c s n → PutSpares a c s (m + n)
PutSpares-after a b c r s m n p q h =
    let first = p (HasRoom-less a (m + n) m h (omega arith)) in
    let second = q (HasRoom-rest a b m n h first.1) in
    (second.0, Spends-trans a b c m n first.1 second.1)

-- where the first piece fails, the room did not suffice
PutSpares-short : {T E U F : Type 0} (a b : Option ℕ) (r : Result T E) (s : Result U F) (m n : ℕ) → IsErr r → PutSpares a b r m → PutSpares a b s (m + n)
PutSpares-short a b (Ok x) s m n e p h = let no : ⊥ = cc in absurd no
PutSpares-short a b (Err x) s m n e p h =
    let not_ok : false ≡ true = (p (HasRoom-less a (m + n) m h (omega arith))).0 in
    let no : ⊥ = cc in
    absurd no

-- the second text behind the whole first
whole-after : {U F : Type 0} (a b c : Option (List ℕ)) (s : Result U F) (text more : List ℕ) → Appends a b text → OnOk s (Appends b c more) → OnOk s (Appends a c (text ++ more))
whole-after a b c (Ok x) text more p q = Appends-trans a b c text more p q
whole-after a b c (Err x) text more p q = tt

module _ {K : Type 0} {taken : K → Option (List ℕ)} {faults : K → ℕ} {spare : K → Option ℕ} {ready : K → Type 0} where
  -- after one text, another, which alone says whether all was written
  pub WritesTo-after : {T E U F : Type 0} {a b c : K} {r : Result T E} {s : Result U F} (text more : List ℕ) → WritesTo taken faults spare ready a b text r → IsOk r → WritesTo taken faults spare ready b c more s → WritesTo taken faults spare ready a c (text ++ more) s
  WritesTo-after {E = E} {a = a} {b = b} {c = c} {r = Ok x} {s = s} text more p ok q =
      record {
        whole = whole-after (taken a) (taken b) (taken c) s text more p.whole q.whole;
        front = TakesPrefix-after (taken a) (taken b) (taken c) text more p.whole q.front;
        room = subst (PutSpares (spare a) (spare c) s) (sym (length-append text more)) (PutSpares-after {E = E} (spare a) (spare b) (spare c) (Ok x) s (length text) (length more) p.room q.room);
        uses = Uses-after p.uses q.uses;
      }
  WritesTo-after {r = Err x} text more p ok q = let no : ⊥ = cc in absurd no

  -- the first text failed, and so did the whole
  pub WritesTo-short : {T E U F : Type 0} {a b : K} {r : Result T E} {s : Result U F} (text more : List ℕ) → WritesTo taken faults spare ready a b text r → IsErr r → IsErr s → WritesTo taken faults spare ready a b (text ++ more) s
  WritesTo-short {U = U} {a = a} {b = b} {r = r} {s = Err y} text more p err fails =
      record {
        whole = tt;
        front = TakesPrefix-more (taken a) (taken b) text more p.front;
        room = subst (PutSpares {T = U} (spare a) (spare b) (Err y)) (sym (length-append text more)) (PutSpares-short {U = U} (spare a) (spare b) r (Err y) (length text) (length more) err p.room);
        uses = Uses-as p.uses (λ _. err) (λ ok. let no : ⊥ = cc in absurd no);
      }
  WritesTo-short {s = Ok y} text more p err fails = let no : ⊥ = cc in absurd no

-- what a caller of `put` names in `using(..)`, to join what several writes took
pub ruleset writes_join = (TakesPrefix-refl, TakesPrefix-whole, TakesPrefix-more, TakesPrefix-after)
