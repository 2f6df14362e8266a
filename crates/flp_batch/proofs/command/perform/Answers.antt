use Rattle.std.proofs.Common.{◌≡◌, ◌⊎◌, List, Option, ℕ, Err, sym, ap, subst, rules}
use Rattle.std.specs.Prelude.{OnOk, OnErr, IfErr}
use Rattle.flp_report.specs.Reader.{source_of}
use Rattle.flp_batch.specs.declared.fault.EngineFault.TheVariants.{Write}
use Rattle.flp_batch.specs.Fault.{IsOfInput}
use Rattle.flp_batch.specs.Lines.{lines_of}
use Rattle.flp_batch.specs.Reply.{WritesText, StopsEarly, StopsInText, SettlesEarly}
use Rattle.flp_batch.proofs.command.perform.Goals as goal

pub perform_on-requires-clause-readable : goal.perform_on-requires-clause-readable
perform_on-requires-clause-readable g c = subst g.S.Source.ready (sym c.new-reader.ensures.source) c.requires.readable

pub returns-clause-done : goal.returns-clause-done
returns-clause-done g c =
    let first : g.S.Source.left (source_of c.new-reader.result) ≡ g.S.Source.left c.args.input.now = ap g.S.Source.left c.new-reader.ensures.source in
    let P : Option (List ℕ) → Option (List ℕ) → Type 0 = λ a b.
    OnOk c.perform_on.result (WritesText (g.T.Task.asked c.args.task.now) (λ by. (g.T.Task.words c.args.task.now by).text) a b (g.K.Sink.taken c.args.output.now) (g.K.Sink.taken c.perform_on.new.output)) in
    subst (P (g.S.Source.left c.args.input.now)) (search rules)
    (subst (λ (a : Option (List ℕ)). P a (g.S.Source.left (source_of c.perform_on.new.reader))) first c.perform_on.ensures.done)

pub returns-clause-stopped : goal.returns-clause-stopped
returns-clause-stopped g c =
    let first : g.S.Source.left (source_of c.new-reader.result) ≡ g.S.Source.left c.args.input.now = ap g.S.Source.left c.new-reader.ensures.source in
    let P : Option (List ℕ) → Option (List ℕ) → Type 0 = λ a b.
    OnErr c.perform_on.result (StopsEarly (g.T.Task.asked c.args.task.now) (λ by. lines_of (g.T.Task.words c.args.task.now by).line) a b (g.K.Sink.taken c.args.output.now) (g.K.Sink.taken c.perform_on.new.output)
    ⊎ ((c.perform_on.result ≡ Err Write) × StopsInText (g.T.Task.asked c.args.task.now) (λ by. (g.T.Task.words c.args.task.now by).text) a b (g.K.Sink.taken c.args.output.now) (g.K.Sink.taken c.perform_on.new.output))) in
    subst (P (g.S.Source.left c.args.input.now)) (search rules)
    (subst (λ (a : Option (List ℕ)). P a (g.S.Source.left (source_of c.perform_on.new.reader))) first c.perform_on.ensures.stopped)

pub returns-clause-settled : goal.returns-clause-settled
returns-clause-settled g c =
    let first : g.S.Source.left (source_of c.new-reader.result) ≡ g.S.Source.left c.args.input.now = ap g.S.Source.left c.new-reader.ensures.source in
    let P : Option (List ℕ) → Option (List ℕ) → Type 0 = λ a b.
    IfErr c.perform_on.result (λ fault. IsOfInput fault → SettlesEarly (g.T.Task.asked c.args.task.now) (λ by. lines_of (g.T.Task.words c.args.task.now by).line) a b (g.K.Sink.taken c.args.output.now) (g.K.Sink.taken c.perform_on.new.output)) in
    subst (P (g.S.Source.left c.args.input.now)) (search rules)
    (subst (λ (a : Option (List ℕ)). P a (g.S.Source.left (source_of c.perform_on.new.reader))) first c.perform_on.ensures.settled)
