-- How texts that are put through a block one after another add up.
use Rattle.std.proofs.Common.{◌≡◌, ℕ, ◌+◌, ◌<◌, ◌≤◌, List, [], ◌∷◌, ◌++◌, length, take, drop, get_or, Option, refl, sym, ap, ◌∙◌, subst, append_assoc, append-nil, take-append-drop}
use Rattle.std.specs.Prelude.{Result, Ok, Err, IsOk, IsErr, OnOk}
use Rattle.std.specs.List.{flat_map}
use Rattle.std.specs.Io.KnownBytes.{Appends}
use Rattle.std.proofs.KnownBytes.{Appends-nil}
use Rattle.std.proofs.lemmas.Grind.{flat_map-append}
use Rattle.std.proofs.lemmas.List.{take_more, take_all}
use Rattle.flp_io.specs.Block.{Passes}
use Rattle.flp_io.specs.Writes.{TakesPrefix}
use Rattle.flp_io.proofs.BlockLemmas.{Passes-join, Passes-flushed}
use Rattle.flp_io.proofs.UsesLemmas.{Uses-none, Uses-after, Uses-as}
use Rattle.flp_io.proofs.WriteLemmas.{TakesPrefix-refl, TakesPrefix-more, TakesPrefix-after}
use Rattle.flp_io.specs.declared.failed.Failed.{Failed}
use Rattle.flp_known.specs.Puts.{Puts}

-- a prefix of what is held and more, after a text went in
front-after : (a b c : Option (List ℕ)) (held held' text more : List ℕ) → Passes a held text b held' → TakesPrefix b c (held' ++ more) → TakesPrefix a c (held ++ (text ++ more))
front-after a b c held held' text more p q =
    let whole : p.out ++ (held' ++ more) ≡ held ++ (text ++ more) =
    sym (append_assoc p.out held' more) ∙ (ap (λ (l : List ℕ). l ++ more) (sym p.split) ∙ append_assoc held text more) in
    subst (TakesPrefix a c) whole (TakesPrefix-after a b c p.out (held' ++ more) p.written q)

passes-after : {U F : Type 0} (a b c : Option (List ℕ)) (s : Result U F) (held held' held'' text more : List ℕ) → Passes a held text b held' → OnOk s (Passes b held' more c held'') → OnOk s (Passes a held (text ++ more) c held'')
passes-after a b c (Ok x) held held' held'' text more p q = Passes-join a b c held held' held'' text more p q
passes-after a b c (Err x) held held' held'' text more p q = tt

-- the texts of the first elements of a list, one more
one-more : {X : Type 0} (f : X → List ℕ) (xs : List X) (i : ℕ) (d x : X) → i < length xs → x ≡ get_or xs i d → flat_map f (take i xs) ++ f x ≡ flat_map f (take (i + 1) xs)
one-more {X} f xs i d x below is =
    sym (ap (flat_map f) (take_more xs i d below ∙ ap (λ (y : X). take i xs ++ y ∷ []) (sym is))
    ∙ (flat_map-append f (take i xs) (x ∷ []) ∙ ap (λ (l : List ℕ). flat_map f (take i xs) ++ l) (append-nil (f x))))

module _ {K : Type 0} {taken : K → Option (List ℕ)} {faults : K → ℕ} {ready : K → Type 0} where
  -- no text
  pub Puts-none : {T E : Type 0} (a : K) (held : List ℕ) (x : T) → ready a → Puts {T = T} {E = E} taken faults ready a a held held [] (Ok x)
  Puts-none a held x may =
      record {
        passes = record { out = []; written = Appends-nil (taken a); split = append-nil held };
        front = TakesPrefix-refl (taken a) (held ++ []);
        uses = Uses-none a (λ err. let no : ⊥ = cc in no) (λ ok. may);
      }

  -- after one text another, which alone says whether all went in
  pub Puts-after : {T E U F : Type 0} {a b c : K} {r : Result T E} {s : Result U F} {held held' held'' : List ℕ} (text more : List ℕ) → Puts taken faults ready a b held held' text r → IsOk r → Puts taken faults ready b c held' held'' more s → Puts taken faults ready a c held held'' (text ++ more) s
  Puts-after {a = a} {b = b} {c = c} {r = Ok x} {s = s} {held = held} {held' = held'} {held'' = held''} text more p ok q =
      record {
        passes = passes-after (taken a) (taken b) (taken c) s held held' held'' text more p.passes q.passes;
        front = front-after (taken a) (taken b) (taken c) held held' text more p.passes q.front;
        uses = Uses-after p.uses q.uses;
      }
  Puts-after {r = Err x} text more p ok q = let no : ⊥ = cc in absurd no

  -- the first text failed, and so did the whole
  pub Puts-short : {T E U F : Type 0} {a b : K} {r : Result T E} {s : Result U F} {held held' : List ℕ} (text more : List ℕ) → Puts taken faults ready a b held held' text r → IsErr r → IsErr s → Puts taken faults ready a b held held' (text ++ more) s
  Puts-short {a = a} {b = b} {r = r} {s = Err y} {held = held} text more p err fails =
      record {
        passes = tt;
        front = subst (TakesPrefix (taken a) (taken b)) (append_assoc held text more) (TakesPrefix-more (taken a) (taken b) (held ++ text) more p.front);
        uses = Uses-as p.uses (λ _. err) (λ ok. let no : ⊥ = cc in absurd no);
      }
  Puts-short {s = Ok y} text more p err fails = let no : ⊥ = cc in absurd no

  -- ---- texts of the elements of a list

  module _ {X : Type 0} (f : X → List ℕ) (xs : List X) where
    -- those of one element more
    pub Puts-more : {T E U F : Type 0} {a b c : K} {r : Result T E} {s : Result U F} {held held' held'' : List ℕ} (i : ℕ) (d x : X) → i < length xs → x ≡ get_or xs i d → Puts taken faults ready a b held held' (flat_map f (take i xs)) r → IsOk r → Puts taken faults ready b c held' held'' (f x) s → Puts taken faults ready a c held held'' (flat_map f (take (i + 1) xs)) s
    Puts-more {a = a} {c = c} {s = s} {held = held} {held'' = held''} i d x below is p ok q =
        let split = one-more f xs i d x below is in
        subst (λ (text : List ℕ). Puts taken faults ready a c held held'' text s) split (Puts-after (flat_map f (take i xs)) (f x) p ok q)

    -- the text of one element failed, and so did the whole
    pub Puts-stop : {T E U F V G : Type 0} {a b c : K} {r : Result T E} {s : Result U F} {t : Result V G} {held held' held'' : List ℕ} (i : ℕ) (d x : X) → i < length xs → x ≡ get_or xs i d → Puts taken faults ready a b held held' (flat_map f (take i xs)) r → IsOk r → Puts taken faults ready b c held' held'' (f x) s → IsErr s → IsErr t → Puts taken faults ready a c held held'' (flat_map f xs) t
    Puts-stop {a = a} {c = c} {t = t} {held = held} {held'' = held''} i d x below is p ok q err fails =
        let later = flat_map f (drop (i + 1) xs) in
        let split : (flat_map f (take i xs) ++ f x) ++ later ≡ flat_map f xs =
        ap (λ (l : List ℕ). l ++ later) (one-more f xs i d x below is) ∙ (sym (flat_map-append f (take (i + 1) xs) (drop (i + 1) xs)) ∙ ap (flat_map f) (take-append-drop (i + 1) xs)) in
        subst (λ (text : List ℕ). Puts taken faults ready a c held held'' text t) split
        (Puts-short {s = t} (flat_map f (take i xs) ++ f x) later (Puts-after (flat_map f (take i xs)) (f x) p ok q) err fails)

    -- those of all elements
    pub Puts-all : {T E : Type 0} {a b : K} {r : Result T E} {held held' : List ℕ} (i : ℕ) → length xs ≤ i → Puts taken faults ready a b held held' (flat_map f (take i xs)) r → Puts taken faults ready a b held held' (flat_map f xs) r
    Puts-all {a = a} {b = b} {r = r} {held = held} {held' = held'} i all p =
        subst (λ (l : List X). Puts taken faults ready a b held held' (flat_map f l) r) (take_all i xs all) p

-- ---- a text of which some is left

-- of a text so much was put that this is left
pub record PutsUpTo {K : Type 0} (taken : K → Option (List ℕ)) (faults : K → ℕ) (ready : K → Type 0) (old new : K) (held held' text left : List ℕ) : Type 0 where
  pub front : List ℕ
  pub puts : Puts {T = Unit {0}} {E = Failed} taken faults ready old new held held' front (Ok tt)
  pub split : text ≡ front ++ left

module _ {K : Type 0} {taken : K → Option (List ℕ)} {faults : K → ℕ} {ready : K → Type 0} where
  -- nothing was put
  pub UpTo-none : (a : K) (held text left : List ℕ) → text ≡ left → ready a → PutsUpTo taken faults ready a a held held text left
  UpTo-none a held text left is may = record { front = []; puts = Puts-none a held tt may; split = is }

  -- one piece more
  pub UpTo-more : {a b c : K} {held held' held'' text : List ℕ} (left piece more : List ℕ) → left ≡ piece ++ more → PutsUpTo taken faults ready a b held held' text left → Puts {T = Unit {0}} {E = Failed} taken faults ready b c held' held'' piece (Ok tt) → PutsUpTo taken faults ready a c held held'' text more
  UpTo-more left piece more is p q =
      record {
        front = p.front ++ piece;
        puts = Puts-after p.front piece p.puts refl q;
        split = p.split ∙ (ap (λ (l : List ℕ). p.front ++ l) is ∙ sym (append_assoc p.front piece more));
      }

  -- the next piece failed, and so did the whole
  pub UpTo-stop : {U F V G : Type 0} {s : Result U F} {t : Result V G} {a b c : K} {held held' held'' text : List ℕ} (left piece more : List ℕ) → left ≡ piece ++ more → PutsUpTo taken faults ready a b held held' text left → Puts taken faults ready b c held' held'' piece s → IsErr s → IsErr t → Puts taken faults ready a c held held'' text t
  UpTo-stop {t = t} {a = a} {c = c} {held = held} {held'' = held''} left piece more is p q err fails =
      subst (λ (text : List ℕ). Puts taken faults ready a c held held'' text t) (append_assoc p.front piece more ∙ (ap (λ (l : List ℕ). p.front ++ l) (sym is) ∙ sym p.split))
      (Puts-short {s = t} (p.front ++ piece) more (Puts-after p.front piece p.puts refl q) err fails)

  -- all that was left was put, or that failed
  pub UpTo-end : {U F : Type 0} {s : Result U F} {a b c : K} {held held' held'' text : List ℕ} (left piece : List ℕ) → left ≡ piece → PutsUpTo taken faults ready a b held held' text left → Puts taken faults ready b c held' held'' piece s → Puts taken faults ready a c held held'' text s
  UpTo-end {s = s} {a = a} {c = c} {held = held} {held'' = held''} left piece is p q =
      subst (λ (text : List ℕ). Puts taken faults ready a c held held'' text s) (ap (λ (l : List ℕ). p.front ++ l) (sym is) ∙ sym p.split)
      (Puts-after p.front piece p.puts refl q)

-- a prefix of what an empty block was given, after some of what it held was written
pub front-flushed : (a b c : Option (List ℕ)) (held held' text : List ℕ) → held ≡ [] → Passes a held text b held' → TakesPrefix b c held' → TakesPrefix a c text
front-flushed a b c held held' text none p q =
    let whole : p.out ++ held' ≡ text = sym p.split ∙ ap (λ (l : List ℕ). l ++ text) none in
    subst (TakesPrefix a c) whole (TakesPrefix-after a b c p.out held' p.written q)

-- all that an empty block was given, after what it held was written
pub whole-flushed : {T E : Type 0} (r : Result T E) (a b c : Option (List ℕ)) (held held' text : List ℕ) → held ≡ [] → Passes a held text b held' → OnOk r (Appends b c held') → OnOk r (Appends a c text)
whole-flushed (Ok x) a b c held held' text none p q = subst (λ (l : List ℕ). Appends a c (l ++ text)) none (Passes-flushed a b c held held' text p q)
whole-flushed (Err x) a b c held held' text none p q = tt
