use Rattle.std.proofs.Common.{◌≡◌, List, Option, ℕ, sym, ap, subst, rules}
use Rattle.std.specs.Prelude.{OnOk, OnErr, IfErr}
use Rattle.flp_report.specs.Reader.{source_of}
use Rattle.flp_batch.specs.Fault.{IsOfInput}
use Rattle.flp_party.specs.Reply.{WritesShare, StopsShare, SettlesShare}
use Rattle.flp_party.proofs.command.deal.Goals as goal

pub deal_read-requires-clause-readable : goal.deal_read-requires-clause-readable
deal_read-requires-clause-readable g c = subst g.S.Source.ready (sym c.new-reader.ensures.source) c.requires.readable

pub returns-clause-done : goal.returns-clause-done
returns-clause-done g c =
    let first : g.S.Source.left (source_of c.new-reader.result) ≡ g.S.Source.left c.args.input.now = ap g.S.Source.left c.new-reader.ensures.source in
    let P : Option (List ℕ) → Option (List ℕ) → Type 0 = λ a b. OnOk c.deal_read.result (WritesShare c.args.party a b (g.K.Sink.taken c.args.output.now) (g.K.Sink.taken c.deal_read.new.output)) in
    subst (P (g.S.Source.left c.args.input.now)) (search rules)
    (subst (λ (a : Option (List ℕ)). P a (g.S.Source.left (source_of c.deal_read.new.reader))) first c.deal_read.ensures.done)

pub returns-clause-stopped : goal.returns-clause-stopped
returns-clause-stopped g c =
    let first : g.S.Source.left (source_of c.new-reader.result) ≡ g.S.Source.left c.args.input.now = ap g.S.Source.left c.new-reader.ensures.source in
    let P : Option (List ℕ) → Option (List ℕ) → Type 0 = λ a b. OnErr c.deal_read.result (StopsShare c.args.party a b (g.K.Sink.taken c.args.output.now) (g.K.Sink.taken c.deal_read.new.output)) in
    subst (P (g.S.Source.left c.args.input.now)) (search rules)
    (subst (λ (a : Option (List ℕ)). P a (g.S.Source.left (source_of c.deal_read.new.reader))) first c.deal_read.ensures.stopped)

pub returns-clause-settled : goal.returns-clause-settled
returns-clause-settled g c =
    let first : g.S.Source.left (source_of c.new-reader.result) ≡ g.S.Source.left c.args.input.now = ap g.S.Source.left c.new-reader.ensures.source in
    let P : Option (List ℕ) → Option (List ℕ) → Type 0 = λ a b. IfErr c.deal_read.result (λ fault. IsOfInput fault → SettlesShare c.args.party a b (g.K.Sink.taken c.args.output.now) (g.K.Sink.taken c.deal_read.new.output)) in
    subst (P (g.S.Source.left c.args.input.now)) (search rules)
    (subst (λ (a : Option (List ℕ)). P a (g.S.Source.left (source_of c.deal_read.new.reader))) first c.deal_read.ensures.settled)
