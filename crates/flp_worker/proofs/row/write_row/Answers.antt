use Rattle.std.proofs.Common.{List, ℕ, ap, ◌∙◌}
use Rattle.flp_meaning.specs.Circuit.{outs_of}
use Rattle.flp_worker.proofs.PublicLemmas.{length-made}
use Rattle.flp_worker.proofs.row.write_row.Goals as goal

pub write_outs-requires-clause-publics : goal.write_outs-requires-clause-publics
write_outs-requires-clause-publics c =
    length-made c.args.plan.now c.requires.publics.0 c.args.publics.now c.requires.publics.1

pub returns : goal.returns
returns c =
    c.write_outs.ensures c.requires.publics.0 c.requires.publics.1
    ∙ ap (λ (x : List ℕ). outs_of c.args.plan.now.circuit x) c.write_encoding.ensures
