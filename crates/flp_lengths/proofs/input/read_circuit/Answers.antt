use Rattle.flp_io.proofs.ReadLemmas.{ConsumesAtMost-none, ReadsFrom-none}
use Rattle.flp_lengths.proofs.input.read_circuit.Goals as goal

pub returns-in-Err-clause-source : goal.returns-in-Err-clause-source
returns-in-Err-clause-source g c =
    ReadsFrom-none c.args.input.now (ConsumesAtMost-none 65537 (g.S.Source.left c.args.input.now)) (λ is. let no : ⊥ = cc in absurd no) (λ no. absurd no)
