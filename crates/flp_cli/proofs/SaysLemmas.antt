-- What a line that was written says.
use Rattle.std.proofs.Common.{ℕ, List, Option, refl}
use Rattle.std.specs.Prelude.{Result, Ok, Err}
use Rattle.flp_io.specs.Writes.{WritesTo}
use Rattle.flp_cli.specs.Stream.{over, Says}

-- a line that was written to a stream is said, or the stream failed
pub says_written : {K T E : Type 0} (taken : K → Option (List ℕ)) (faults : K → ℕ) (spare : K → Option ℕ) (ready : K → Type 0) (a b : K) (line : List ℕ) (result : Result T E)
    → WritesTo taken faults spare ready a b line result → Says (over taken faults a b) line
says_written taken faults spare ready a b line (Ok x) p = λ _. p.whole
says_written taken faults spare ready a b line (Err x) p = λ quiet. absurd (quiet (p.uses.cause refl))
