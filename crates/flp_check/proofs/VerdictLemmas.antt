-- What a body that passed is known to be.
use Rattle.std.proofs.Common.{◌≡◌, Bool, true, false, cond, List, [], ◌∷◌, Option, None, Some, Result, Ok, refl, subst}
use Rattle.std.specs.Prelude.{option_map}
use Rattle.flp_syntax.specs.Tree.{Program}
use Rattle.flp_syntax.specs.Fits.{BodyFits}
use Rattle.flp_syntax.specs.Linear.{IsLinear}
use Rattle.flp_syntax.specs.declared.fault.LangFault.{LangFault}
use Rattle.flp_check.specs.declared.flaw.Flaw.{Flaw}
use Rattle.flp_check.specs.Limits.{first, declared_faults, closing_faults}
use Rattle.flp_check.specs.Flaws.{earlier_of, first_flaw, declarations_flaws, stmts_flaws, text_flaws}
use Rattle.flp_check.specs.Events.{body_events}
use Rattle.flp_check.specs.Counts.{walk, go_on}
use Rattle.flp_check.specs.Verdict.{Totals, unless, flaw_fault, no_counts, totals_of, closing_verdict, verdict, Passes}
use Rattle.flp_check.specs.Within.{IsWithin}
use Rattle.flp_check.proofs.Walking.{go_on_ok, unless_ok}
use Rattle.flp_check.proofs.Clean.{append-none, walk_clean}
use Rattle.flp_check.proofs.LimitLemmas.{no_first, is_declared, kinds_within, one_each, walk_counted, is_closed}
use Rattle.flp_check.proofs.FitLemmas.{stmts_fit}
use Rattle.flp_check.proofs.LinearLemmas.{stmts_linear}

unmapped : (o : Option Flaw) → option_map flaw_fault o ≡ None → o ≡ None
unmapped None h = refl
unmapped (Some flaw) h = cc

some_of : (t : Bool) (x y : Flaw) → cond t (Some y) (Some x) ≡ None → ⊥
some_of true x y h = cc
some_of false x y h = cc

earlier_some : (x : Flaw) (b : Option Flaw) → earlier_of (Some x) b ≡ None → ⊥
earlier_some x None h = cc
earlier_some x (Some y) h = some_of _ x y h

pub no_first_flaw : (flaws : List Flaw) → first_flaw flaws ≡ None → flaws ≡ []
no_first_flaw [] h = refl
no_first_flaw (x ∷ xs) h = absurd (earlier_some x (first_flaw xs) h)

same_totals : (a b : Totals) (r : Result Totals LangFault) → r ≡ Ok a → r ≡ Ok b → a ≡ b
same_totals a b r h k = cc

pub passes : (body : Program) (totals : Totals) → verdict body ≡ Ok totals → Passes body totals
passes body totals h =
    let declared = unless_ok (first (declared_faults body)) (unless (option_map flaw_fault (first_flaw (text_flaws body))) (go_on (walk (no_counts body) (body_events body)) closing_verdict)) totals h in
    let flaws = unless_ok (option_map flaw_fault (first_flaw (text_flaws body))) (go_on (walk (no_counts body) (body_events body)) closing_verdict) totals declared.1 in
    let walked = go_on_ok (walk (no_counts body) (body_events body)) closing_verdict totals flaws.1 in
    let closing = unless_ok (first (closing_faults walked.0.calls walked.0.checks walked.0.outs)) (Ok (totals_of walked.0)) totals walked.2 in
    record {
      declared = no_first (declared_faults body) declared.0;
      flaws = no_first_flaw (text_flaws body) (unmapped (first_flaw (text_flaws body)) flaws.0);
      counts = walked.0;
      walked = walked.1;
      closing = no_first (closing_faults walked.0.calls walked.0.checks walked.0.outs) closing.0;
      totals_are = same_totals (totals_of walked.0) totals (Ok (totals_of walked.0)) refl closing.1;
    }

-- no statement is at fault
pub body_flawless : (body : Program) (totals : Totals) → verdict body ≡ Ok totals → stmts_flaws body.gadgets [] body.stmts ≡ []
body_flawless body totals h = (append-none (declarations_flaws [] body.gadgets) (stmts_flaws body.gadgets [] body.stmts) (passes body totals h).flaws).1

pub body_fits : (body : Program) (totals : Totals) → verdict body ≡ Ok totals → BodyFits body
body_fits body totals h =
    let p = passes body totals h in
    stmts_fit body [] body.stmts (walk_clean (body_events body) (no_counts body) p.counts p.walked) (body_flawless body totals h)

pub body_linear : (body : Program) (totals : Totals) → verdict body ≡ Ok totals → IsLinear body
body_linear body totals h = stmts_linear body.gadgets [] body.stmts (body_flawless body totals h)

pub body_within : (body : Program) (totals : Totals) → verdict body ≡ Ok totals → IsWithin body totals
body_within body totals h =
    let p = passes body totals h in
    let declared = is_declared body p.declared in
    let closed = is_closed p.counts.calls p.counts.checks p.counts.outs p.closing in
    let few = walk_counted body (body_events body) p.counts p.walked in
    subst (IsWithin body) p.totals_are (record {
      some_meas = declared.meas.0;
      meas = declared.meas.1;
      joint = declared.joint.1;
      gadgets = declared.gadgets.1;
      kinds = kinds_within body.gadgets declared.kinds;
      one_each = one_each body (body_events body) p.counts (record { is = p.walked });
      calls = λ k d lt. (closed.calls_made k d lt, few.calls k d lt);
      some_check = closed.checks_made.0;
      checks = closed.checks_made.1;
      some_out = closed.outs_made.0;
      outs = closed.outs_made.1;
    })
