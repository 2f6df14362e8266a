use Rattle.std.proofs.Common.{◌≡◌, Option, List, ℕ, map, ap, subst, rules}
use Rattle.std.specs.Prelude.{IfOk}
use Rattle.flp_report.specs.Reader.{source_of}
use Rattle.flp_verify.specs.Reply.{Counts}
use Rattle.flp_verify.proofs.batch.verify_batch.Goals as goal

pub returns-clause-done : goal.returns-clause-done
returns-clause-done g c =
    let first : g.S.Source.left (source_of c.new-reader.result) ≡ g.S.Source.left c.args.input.now = ap g.S.Source.left c.new-reader.ensures.source in
    let P : Option (List ℕ) → Option (List ℕ) → Type 0 = λ a b.
    IfOk c.verify_file.result (λ counted. Counts c.args.least (λ more of. map (λ p. (goal.Policy-dyn g (p.vtable, p.value)).would p.value more of) c.args.policies.now) (λ more of. map (λ p. (goal.Policy-dyn g (p.vtable, p.value)).would p.value more of) c.verify_file.new.policies) counted a b (g.K.Sink.taken c.args.output.now) (g.K.Sink.taken c.verify_file.new.output)) in
    subst (P (g.S.Source.left c.args.input.now)) (search rules)
    (subst (λ (a : Option (List ℕ)). P a (g.S.Source.left (source_of c.verify_file.new.reader))) first c.verify_file.ensures.done)
