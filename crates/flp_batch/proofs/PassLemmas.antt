-- How the records of one segment add up, whose lines go through a block.
use Rattle.std.proofs.Common.{◌≡◌, ℕ, suc, ◌+◌, Option, Some, List, [], ◌∷◌, ◌++◌, length, take, drop, sym, ap, subst, ◌∙◌, arith, append_assoc, append-nil, take-append-drop}
use Rattle.std.specs.Prelude.{slice_get}
use Rattle.std.specs.Io.KnownBytes.{Appends}
use Rattle.std.proofs.KnownBytes.{Appends-nil}
use Rattle.std.proofs.Math.Seq.{take-suc}
use Rattle.std.proofs.lemmas.List.{take_all}
use Rattle.std.proofs.lemmas.Option.{get_or_from_slice_get, slice_get_within}
use Rattle.flp_io.specs.Block.{Passes}
use Rattle.flp_io.specs.Writes.{TakesPrefix}
use Rattle.flp_io.proofs.BlockLemmas.{Passes-join, Passes-flushed}
use Rattle.flp_io.proofs.WriteLemmas.{TakesPrefix-after, TakesPrefix-more}
use Rattle.flp_batch.specs.Lines.{lines_from}
use Rattle.flp_batch.specs.Walk.{JudgesSome}
use Rattle.flp_batch.proofs.LineLemmas.{lines_from-joined, lines_from-one}

-- ---- a list up to one of its records

-- the records up to one, and this one
pub take-next : (rs : List (List ℕ)) (i : ℕ) (r : List ℕ) → slice_get rs i ≡ Some r → take (i + 1) rs ≡ take i rs ++ r ∷ []
take-next rs i r is =
    let next : i + 1 ≡ suc i = omega arith in
    ap (λ (n : ℕ). take n rs) next
    ∙ (take-suc rs i r (slice_get_within rs i r is)
    ∙ ap (λ (x : List ℕ). take i rs ++ x ∷ []) (get_or_from_slice_get rs i r r is))

-- the records up to one, this one, and the others
split-at : (rs : List (List ℕ)) (i : ℕ) (r : List ℕ) → slice_get rs i ≡ Some r → rs ≡ (take i rs ++ r ∷ []) ++ drop (i + 1) rs
split-at rs i r is = sym (take-append-drop (i + 1) rs) ∙ ap (λ (front : List (List ℕ)). front ++ drop (i + 1) rs) (take-next rs i r is)

-- ---- what a block did

-- what went out or is held, and a prefix of what is held and follows it
Passes-front : (a b c : Option (List ℕ)) (held held' piece more : List ℕ) → Passes a held piece b held' → TakesPrefix b c (held' ++ more) → TakesPrefix a c (held ++ (piece ++ more))
Passes-front a b c held held' piece more p q =
    let whole : p.out ++ (held' ++ more) ≡ held ++ (piece ++ more) =
    sym (append_assoc p.out held' more) ∙ (ap (λ (l : List ℕ). l ++ more) (sym p.split) ∙ append_assoc held piece more) in
    subst (TakesPrefix a c) whole (TakesPrefix-after a b c p.out (held' ++ more) p.written q)

-- ---- records

-- before the first
pub JudgesSome-none : (line : List (List ℕ) → List ℕ → List ℕ) (earlier : List (List ℕ)) (follows : List (List ℕ) → Type 0) (taken : Option (List ℕ)) (held : List ℕ)
    → follows earlier → JudgesSome line follows earlier [] taken held taken held
JudgesSome-none line earlier follows taken held fresh =
    record { follows_are = subst follows (sym (append-nil earlier)) fresh; passed = record { out = []; written = Appends-nil taken; split = append-nil held } }

-- some records and then others
JudgesSome-join : (line : List (List ℕ) → List ℕ → List ℕ) (earlier : List (List ℕ)) (follows follows' : List (List ℕ) → Type 0) (rs more : List (List ℕ)) (taken taken' taken'' : Option (List ℕ)) (held held' held'' : List ℕ)
    → JudgesSome line follows earlier rs taken held taken' held' → JudgesSome line follows' (earlier ++ rs) more taken' held' taken'' held'' → JudgesSome line follows' earlier (rs ++ more) taken held taken'' held''
JudgesSome-join line earlier follows follows' rs more taken taken' taken'' held held' held'' p q =
    record {
      follows_are = subst follows' (append_assoc earlier rs more) q.follows_are;
      passed = subst (λ (piece : List ℕ). Passes taken held piece taken'' held'') (sym (lines_from-joined line earlier rs more))
          (Passes-join taken taken' taken'' held held' held'' (lines_from line earlier rs) (lines_from line (earlier ++ rs) more) p.passed q.passed);
    }

-- one record more of a segment
pub segment-next : (line line' : List (List ℕ) → List ℕ → List ℕ) (earlier : List (List ℕ)) (follows follows' : List (List ℕ) → Type 0) (rs : List (List ℕ)) (i : ℕ) (r : List ℕ) (taken taken' taken'' : Option (List ℕ)) (held held' held'' : List ℕ)
    → slice_get rs i ≡ Some r → line' ≡ line → JudgesSome line follows earlier (take i rs) taken held taken' held'
    → ((e : List (List ℕ)) → follows e → JudgesSome line' follows' e (r ∷ []) taken' held' taken'' held'') → JudgesSome line follows' earlier (take (i + 1) rs) taken held taken'' held''
segment-next line line' earlier follows follows' rs i r taken taken' taken'' held held' held'' at same p next =
    let one = subst (λ (l : List (List ℕ) → List ℕ → List ℕ). JudgesSome l follows' (earlier ++ take i rs) (r ∷ []) taken' held' taken'' held'') same (next (earlier ++ take i rs) p.follows_are) in
    subst (λ (front : List (List ℕ)). JudgesSome line follows' earlier front taken held taken'' held'') (sym (take-next rs i r at))
    (JudgesSome-join line earlier follows follows' (take i rs) (r ∷ []) taken taken' taken'' held held' held'' p one)

-- all of them, and what is held goes out
pub segment-flushed : (line : List (List ℕ) → List ℕ → List ℕ) (earlier : List (List ℕ)) (follows : List (List ℕ) → Type 0) (rs : List (List ℕ)) (i : ℕ) (taken taken' taken'' : Option (List ℕ)) (held held' : List ℕ)
    → length rs ≡ i → JudgesSome line follows earlier (take i rs) taken held taken' held' → Appends taken' taken'' held' → JudgesSome line follows earlier rs taken held taken'' []
segment-flushed line earlier follows rs i taken taken' taken'' held held' number p flushed =
    let whole : take i rs ≡ rs = take_all i rs (omega (arith, number)) in
    let all = subst (λ (front : List (List ℕ)). JudgesSome line follows earlier front taken held taken' held') whole p in
    let text = held ++ lines_from line earlier rs in
    record {
      follows_are = all.follows_are;
      passed = record {
        out = text;
        written = Passes-flushed taken taken' taken'' held held' (lines_from line earlier rs) all.passed flushed;
        split = sym (append-nil text);
      };
    }

-- ---- a prefix of their lines

-- an end within the line of a record
pub front-within : (line line' : List (List ℕ) → List ℕ → List ℕ) (earlier : List (List ℕ)) (follows : List (List ℕ) → Type 0) (rs : List (List ℕ)) (i : ℕ) (r : List ℕ) (taken taken' taken'' : Option (List ℕ)) (held held' : List ℕ)
    → slice_get rs i ≡ Some r → line' ≡ line → JudgesSome line follows earlier (take i rs) taken held taken' held'
    → ((e : List (List ℕ)) → follows e → TakesPrefix taken' taken'' (held' ++ line' e r)) → TakesPrefix taken taken'' (held ++ lines_from line earlier rs)
front-within line line' earlier follows rs i r taken taken' taken'' held held' at same p front =
    let before = take i rs in
    let behind = drop (i + 1) rs in
    let piece = lines_from line earlier before in
    let own = line (earlier ++ before) r in
    let rest = lines_from line (earlier ++ (before ++ r ∷ [])) behind in
    let stop = subst (λ (l : List (List ℕ) → List ℕ → List ℕ). TakesPrefix taken' taken'' (held' ++ l (earlier ++ before) r)) same (front (earlier ++ before) p.follows_are) in
    let joined : lines_from line earlier (before ++ r ∷ []) ≡ piece ++ own =
    lines_from-joined line earlier before (r ∷ []) ∙ ap (λ (l : List ℕ). piece ++ l) (lines_from-one line (earlier ++ before) r) in
    let all : lines_from line earlier rs ≡ (piece ++ own) ++ rest =
    ap (lines_from line earlier) (split-at rs i r at) ∙ (lines_from-joined line earlier (before ++ r ∷ []) behind ∙ ap (λ (l : List ℕ). l ++ rest) joined) in
    let some = TakesPrefix-more taken taken'' (held ++ (piece ++ own)) rest (Passes-front taken taken' taken'' held held' piece own p.passed stop) in
    subst (TakesPrefix taken taken'') (append_assoc held (piece ++ own) rest ∙ ap (λ (l : List ℕ). held ++ l) (sym all)) some

-- an end while what is held went out
pub front-flushed : (line : List (List ℕ) → List ℕ → List ℕ) (earlier : List (List ℕ)) (follows : List (List ℕ) → Type 0) (rs : List (List ℕ)) (i : ℕ) (taken taken' taken'' : Option (List ℕ)) (held held' : List ℕ)
    → length rs ≡ i → JudgesSome line follows earlier (take i rs) taken held taken' held' → TakesPrefix taken' taken'' held' → TakesPrefix taken taken'' (held ++ lines_from line earlier rs)
front-flushed line earlier follows rs i taken taken' taken'' held held' number p stop =
    let piece = lines_from line earlier (take i rs) in
    let whole : take i rs ≡ rs = take_all i rs (omega (arith, number)) in
    let some = Passes-front taken taken' taken'' held held' piece [] p.passed (subst (TakesPrefix taken' taken'') (sym (append-nil held')) stop) in
    subst (TakesPrefix taken taken'') (ap (λ (l : List ℕ). held ++ l) (append-nil piece ∙ ap (lines_from line earlier) whole)) some
