-- How what several reads did adds up, for callers of `fill`.
use Rattle.std.proofs.Common.{ℕ, ◌+◌, ◌≤◌, List, [], ◌++◌, Option, None, Some, arith, length, take, length-append, length-take-le}
use Rattle.std.proofs.lemmas.Grind.{common_steps}
use Rattle.std.specs.Io.KnownBytes.{Consumes}
use Rattle.std.proofs.KnownBytes.{Consumes-nil, Consumes-trans}
use Rattle.flp_io.specs.Reads.{ConsumesSome, ConsumesAtMost, ConsumesPrefix, ReadsFrom}
use Rattle.flp_io.proofs.UsesLemmas.{Uses-none, Uses-after, Uses-as}

-- ---- some bytes

-- no read consumes nothing
pub ConsumesSome-refl : (a : Option (List ℕ)) → ConsumesSome a a
ConsumesSome-refl a = record { bytes = []; gone = Consumes-nil a }

-- bytes that are named are some bytes
pub ConsumesSome-of : (a b : Option (List ℕ)) (bytes : List ℕ) → Consumes a b bytes → ConsumesSome a b
ConsumesSome-of a b bytes p = record { bytes = bytes; gone = p }

-- after bytes that are named, some more
pub ConsumesSome-after : (a b c : Option (List ℕ)) (bytes : List ℕ) → Consumes a b bytes → ConsumesSome b c → ConsumesSome a c
ConsumesSome-after a b c bytes p q = record { bytes = bytes ++ q.bytes; gone = Consumes-trans a b c bytes q.bytes p q.gone }

-- a few bytes are some bytes
pub ConsumesSome-few : (limit : ℕ) (a b : Option (List ℕ)) → ConsumesAtMost limit a b → ConsumesSome a b
ConsumesSome-few limit a b p = record { bytes = p.bytes; gone = p.gone }

-- ---- at most so many

-- no read consumes nothing
pub ConsumesAtMost-none : (limit : ℕ) (a : Option (List ℕ)) → ConsumesAtMost limit a a
ConsumesAtMost-none limit a = record { bytes = []; few = omega arith; gone = Consumes-nil a }

-- a higher limit
pub ConsumesAtMost-raised : (limit more : ℕ) (a b : Option (List ℕ)) → ConsumesAtMost limit a b → limit ≤ more → ConsumesAtMost more a b
ConsumesAtMost-raised limit more a b p le = record { bytes = p.bytes; few = omega (arith, p.few, le); gone = p.gone }

-- one after the other
pub ConsumesAtMost-after : (m n : ℕ) (a b c : Option (List ℕ)) → ConsumesAtMost m a b → ConsumesAtMost n b c → ConsumesAtMost (m + n) a c
ConsumesAtMost-after m n a b c p q =
    record {
      bytes = p.bytes ++ q.bytes;
      few = simp length-append (omega (arith, p.few, q.few));
      gone = Consumes-trans a b c p.bytes q.bytes p.gone q.gone;
    }

-- no more than the buffer holds
pub ConsumesAtMost-prefix : (buf : List ℕ) (a b : Option (List ℕ)) → ConsumesPrefix buf a b → ConsumesAtMost (length buf) a b
ConsumesAtMost-prefix buf a b p = record { bytes = take p.count buf; few = grind (arith, common_steps); gone = p.gone }

-- ---- all of a source

module _ {S : Type 0} {left : S → Option (List ℕ)} {faults : S → ℕ} {ready : S → Type 0} where
  -- no read, which does not fail
  pub ReadsFrom-none : (a : S) {takes : (old new : Option (List ℕ)) → Type 0} {failed went_on : Type 0} → takes (left a) (left a) → (failed → ⊥) → (went_on → ready a) → ReadsFrom left faults ready a a takes failed went_on
  ReadsFrom-none a p quiet may = record { bytes = p; uses = Uses-none a quiet may }

  -- after one reading, another, which alone says whether it failed and went on
  pub ReadsFrom-after : {a b c : S} {takes takes' : (old new : Option (List ℕ)) → Type 0} {failed went_on failed' went_on' : Type 0} (both : (old new : Option (List ℕ)) → Type 0) → ReadsFrom left faults ready a b takes failed went_on → ReadsFrom left faults ready b c takes' failed' went_on'
      → (takes (left a) (left b) → takes' (left b) (left c) → both (left a) (left c)) → ReadsFrom left faults ready a c both failed' went_on'
  ReadsFrom-after both p q join = record { bytes = join p.bytes q.bytes; uses = Uses-after p.uses q.uses }

  -- a reading whose bytes and answer are told on in other words
  pub ReadsFrom-as : {a b : S} {takes takes' : (old new : Option (List ℕ)) → Type 0} {failed went_on failed' went_on' : Type 0} → ReadsFrom left faults ready a b takes failed went_on
      → (takes (left a) (left b) → takes' (left a) (left b)) → (failed' → failed) → (went_on' → went_on) → ReadsFrom left faults ready a b takes' failed' went_on'
  ReadsFrom-as p told f w = record { bytes = told p.bytes; uses = Uses-as p.uses f w }
