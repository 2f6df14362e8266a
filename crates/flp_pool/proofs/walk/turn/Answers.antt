use Rattle.std.proofs.Common.{◌≡◌, ◌∙◌, ap, sym, subst, arith}
use mathlib.Core.Logic.{dite}
use native.Mathlib.Decide.{ℕ_discrete}
use Rattle.flp_tally.specs.declared.view.View.{View}
use Rattle.flp_tally.specs.Views.{times, entries_of}
use Rattle.flp_tally.specs.Rows.{with_row}
use Rattle.flp_pool.proofs.Walking.{walks_mine, walks_taken}
use Rattle.flp_pool.proofs.Lists.{with_run-bare, with_run-row, none_where}
use Rattle.flp_pool.proofs.walk.turn.Goals as goal

pub returns-in-Taken-clause-walk : goal.returns-in-Taken-clause-walk
returns-in-Taken-clause-walk g c = let v = c.args.seat.now.view in
    walks_taken g.W.Work.room g.W.Work.done (g.W.Work.right c.args.work.now) (g.W.Work.row_of c.args.work.now) c.args.number v c.claim.new.seat.view c.args.state.now c.requires.state.0 (c.claim.ensures.taken c.in-Taken.is)
    (λ full none. let mine = c.claim.ensures.mine_where full none in let taken = c.in-Taken.is in cc)

pub returns-then-not-item-clause-walk : goal.returns-then-not-item-clause-walk
returns-then-not-item-clause-walk g c = let v = c.args.seat.now.view in
    walks_mine g.W.Work.room g.W.Work.done (g.W.Work.right c.args.work.now) (g.W.Work.row_of c.args.work.now) c.args.number v c.claim.new.seat.view c.args.state.now c.item.new.state
    record { grown = c.item.ensures.done; spare = c.item.ensures.room; fits = c.item.ensures.right }
    (c.claim.ensures.mine c.in-Mine.is ∙ with_run-bare (g.W.Work.row_of c.args.work.now) v c.args.number (none_where c.item.result (g.W.Work.row_of c.args.work.now c.args.number) c.item.ensures.answer c.if-not-item.true))

pub add-requires-clause-once : goal.add-requires-clause-once
add-requires-clause-once g c = λ cell. let v = c.args.seat.now.view in let x = c.args.number in let own = c.claim.ensures.owns x cell in
    let free : times x v.claimed ≡ 0 = dite (ℕ_discrete (times x v.claimed) 0) (λ e. e) (λ ne. let taken = c.claim.ensures.taken_where (omega arith) in let mine = c.in-Mine.is in cc) in
    let none : entries_of x cell v.added ≡ 0 = omega arith in
    subst (λ (u : View). entries_of x cell u.added ≡ 0) (sym (c.claim.ensures.mine c.in-Mine.is)) none

pub returns-clause-walk : goal.returns-clause-walk
returns-clause-walk g c = let v = c.args.seat.now.view in
    walks_mine g.W.Work.room g.W.Work.done (g.W.Work.right c.args.work.now) (g.W.Work.row_of c.args.work.now) c.args.number v c.add.new.seat.view c.args.state.now c.item.new.state
    record { grown = c.item.ensures.done; spare = c.item.ensures.room; fits = c.item.ensures.right }
    (c.add.ensures.added ∙ (ap (λ (u : View). with_row u c.args.number c.row.result.now) (c.claim.ensures.mine c.in-Mine.is)
    ∙ with_run-row (g.W.Work.row_of c.args.work.now) v c.args.number c.row.result.now (sym c.item.ensures.last ∙ c.row.ensures.row)))
