-- What runs of several works take together.
use Rattle.std.proofs.Common.{◌≡◌, ℕ, ◌≤◌, [], ◌++◌, sym, ap, ◌∙◌, ⊎_elim, arith}
use Rattle.flp_tally.specs.declared.view.View.{View}
use Rattle.flp_tally.specs.Views.{times}
use Rattle.flp_tally.specs.Rows.{rows_entries}
use Rattle.flp_pool.specs.Range.{with_run}
use Rattle.flp_pool.specs.Laws.{AgreeingRuns, EmptyRuns, JoinedRuns}
use Rattle.flp_pool.proofs.Once.{once_where, once_empty}
use Rattle.flp_pool.proofs.Lists.{rows_of-agree, with_run-with_run, with_run-none}
use Rattle.flp_pool.proofs.RangeSums.{follow}

pub agree : AgreeingRuns
agree f g lo hi v w same t = let inside = λ (x : ℕ) (h : 1 ≤ times x t.claimed). let e = t.each_once x in ⊎_elim {C = f x ≡ g x} (λ q. same x q.0 q.1) (λ out. absurd (omega arith)) (once_where lo hi x) in record {
  claimed = t.claimed;
  seen = t.seen;
  missed = t.missed;
  each_once = t.each_once;
  view = t.view ∙ (λ i. record v { claimed = v.claimed ++ t.claimed; seen = v.seen ++ t.seen; missed = v.missed ++ t.missed; added = v.added ++ rows_entries (rows_of-agree f g t.claimed inside i) });
}

pub empty : EmptyRuns
empty row_of lo v = record { claimed = []; seen = []; missed = []; each_once = λ x. sym (once_empty lo x); view = sym (with_run-none row_of v) }

pub join : JoinedRuns
join f g h a b c u v w p q first second one two = let s = agree f h a b u v first one in let t = agree g h b c v w second two in record {
  claimed = s.claimed ++ t.claimed;
  seen = s.seen ++ t.seen;
  missed = s.missed ++ t.missed;
  each_once = follow a b c s.claimed t.claimed p q s.each_once t.each_once;
  view = t.view ∙ (ap (λ (y : View). with_run h y t.claimed t.seen t.missed) s.view ∙ with_run-with_run h u s.claimed s.seen s.missed t.claimed t.seen t.missed);
}
