-- How many bytes several readings take together.
use Rattle.std.proofs.Common.{ℕ, ◌+◌, ◌≤◌, List, [], ◌++◌, length, Option, Some, None, arith, length-append}
use Rattle.std.specs.Io.KnownBytes.{Consumes}
use Rattle.std.proofs.KnownBytes.{Consumes-trans}
use Rattle.flp_io.specs.Reads.{ConsumesSome, ConsumesAtMost}
use Rattle.flp_io.proofs.ReadLemmas.{ConsumesAtMost-raised}
use Rattle.flp_report.specs.Reads.{ConsumesWithin}
use Rattle.flp_report.proofs.KnownLemmas.{IfSome-consumed}

-- after bytes that are named, some more
pub ConsumesAtMost-after : (a b c : Option (List ℕ)) (bytes : List ℕ) (n limit : ℕ) → Consumes a b bytes → ConsumesAtMost n b c → length bytes + n ≤ limit → ConsumesAtMost limit a c
ConsumesAtMost-after a b c bytes n limit first some fits =
    let size = length-append bytes some.bytes in
    record { bytes = bytes ++ some.bytes; few = omega (arith, size, some.few, fits); gone = Consumes-trans a b c bytes some.bytes first some.gone }

-- a limit that all bytes give
pub ConsumesWithin-all : (limit : List ℕ → ℕ) (old new : Option (List ℕ)) (n : ℕ) → ConsumesAtMost n old new → ((bytes : List ℕ) → n ≤ limit bytes) → ConsumesWithin limit old new
ConsumesWithin-all limit None new n some fits = tt
ConsumesWithin-all limit (Some bytes) new n some fits = ConsumesAtMost-raised n (limit bytes) (Some bytes) new some (fits bytes)

-- a limit that the bytes that were read first give
pub ConsumesWithin-front : (limit : List ℕ → ℕ) (old mid new : Option (List ℕ)) (front : List ℕ) (n : ℕ) → Consumes old mid front → ConsumesAtMost n mid new
    → ((rest : List ℕ) → length front + n ≤ limit (front ++ rest)) → ConsumesWithin limit old new
ConsumesWithin-front limit old mid new front n first some fits =
    IfSome-consumed (λ bytes. ConsumesAtMost (limit bytes) old new) old mid front first
    (λ rest. ConsumesAtMost-after old mid new front n (limit (front ++ rest)) first some (fits rest))

-- bytes within a limit are some bytes
pub ConsumesWithin-some : (limit : List ℕ → ℕ) (old new : Option (List ℕ)) → ConsumesWithin limit old new → ConsumesSome old new
ConsumesWithin-some limit None new few = record { bytes = []; gone = tt }
ConsumesWithin-some limit (Some bytes) new few = record { bytes = few.bytes; gone = few.gone }
