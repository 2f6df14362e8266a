-- What a circuit that passed its check keeps. From tests up to the limits of a plan.
use Rattle.std.proofs.Common.{◌≡◌, ℕ, zero, suc, ◌+◌, ◌*◌, ◌<◌, ◌≤◌, List, [], ◌∷◌, length, get_or, Ok, refl, sym, ◌∙◌, ap, subst, arith}
use Rattle.std.specs.Prelude.{replicate}
use Rattle.std.proofs.lemmas.List.{get_or-map, get_or-replicate, length-replicate}
use Rattle.flp_gadget.specs.KindTree as tree
use Rattle.flp_gadget.specs.KindTree.{IsKind, Mul}
use Rattle.flp_syntax.specs.Tree.{mul_kind, Declaration, Program}
use Rattle.flp_syntax.specs.Scope.{declared_arity, declared_degree, arity_at}
use Rattle.flp_check.specs.Events.{body_events}
use Rattle.flp_check.specs.Verdict.{Totals, no_counts, verdict, Passes}
use Rattle.flp_check.specs.Within.{IsWithin}
use Rattle.flp_check.proofs.LimitLemmas.{walk_counted}
use Rattle.flp_check.proofs.VerdictLemmas.{passes, body_fits, body_linear, body_within}
use Rattle.flp_meaning.specs.Meaning.{Call, Reading, all_results, statements_of}
use Rattle.flp_meaning.specs.Circuit.{calls_of, direct, kind_tree, kind_of}
use Rattle.flp_meaning.specs.Gadgets as gadgets
use Rattle.flp_meaning.specs.Gadgets.{blank, gadgets_called, times, call_count, calls_made, call_gadget, call_number, check_count, out_count, log_of, size_of, ceil_log}
use Rattle.flp_meaning.specs.Terms.{wire_count, term_count}
use Rattle.flp_meaning.specs.ProofLaws.{IsBounded}
use Rattle.flp_meaning.proofs.Outs.{outs_read_words_alone}
use Rattle.flp_meaning.proofs.PowerLemmas.{least_power}
use Rattle.flp_emit.specs.Fitting.{ProgramFits}
use Rattle.flp_plan.specs.Counted.{most}
use Rattle.flp_plan.specs.Keeps.{Keeps}
use Rattle.flp_plan.specs.Limits.{GadgetIsWithin, CallIsWithin, CircuitIsWithin}
use Rattle.flp_plan.proofs.WalkLemmas.{Met, met, visits_in, calls_in, checks_in, outs_in}
use Rattle.flp_plan.proofs.CallLemmas.{AreFine, counts_stmts, MakesCalls}
use Rattle.flp_plan.proofs.FormLemmas.{mapped_length}
use Rattle.flp_plan.proofs.KindLemmas.{arity-kind_tree, degree-kind_tree, has_parts, kind_at, arity_at-kind}
use Rattle.flp_plan.proofs.ResultLemmas.{Gives, gives_stmts}
use Rattle.flp_plan.proofs.TermLemmas.{stmts_within}
use Rattle.flp_plan.proofs.TimesLemmas.{times_front, times_here, few_in_all}

-- ---- calls

fine_all : (declared : List Declaration) (calls : List Call) (k : ℕ) (d : Call) → AreFine declared calls → k < length calls
    → ((get_or calls k d).gadget < length declared) × (length (get_or calls k d).inputs ≡ arity_at declared (get_or calls k d).gadget)
fine_all declared [] k d fine below = absurd (omega arith)
fine_all declared (call ∷ more) zero d fine below = (fine.0, fine.1)
fine_all declared (call ∷ more) (suc k) d fine below = fine_all declared more k d fine.2 (omega arith)

-- ---- a circuit that passed

-- what its verdict says, and that the counts with which the walk ended are those of its events
pub record Passed (body : Program) (totals : Totals) : Type 0 where
  pub is : verdict body ≡ Ok totals
  pub ended : Passes body totals
  pub met : Met (no_counts body) ended.counts (body_events body)
  pub within : IsWithin body totals

pub passed : (body : Program) (totals : Totals) → verdict body ≡ Ok totals → Passed body totals
passed body totals is =
    let all = passes body totals is in
    record { is = is; ended = all; met = met (no_counts body) (body_events body) all.counts all.walked; within = body_within body totals is }

module _ (body : Program) (totals : Totals) (p : Passed body totals) where
  pub passed_fits : ProgramFits body
  passed_fits = record {
    meas = omega (arith, p.within.meas);
    joint = omega (arith, p.within.joint);
    gadgets = omega (arith, p.within.gadgets);
    fits = body_fits body totals p.is;
    linear = body_linear body totals p.is;
  }

  made : (reading : Reading) → MakesCalls body.gadgets (all_results (statements_of body.gadgets reading [] body.stmts)) (body_events body)
  made reading = counts_stmts body reading [] body.stmts (body_fits body totals p.is)

  given : Gives (all_results (statements_of body.gadgets blank [] body.stmts)) (body_events body)
  given = gives_stmts body blank [] body.stmts

  pub passed_keeps : Keeps body
  passed_keeps = record {
    arity = λ reading k d below.
        let call = fine_all body.gadgets (calls_of body reading) k d ((made reading).fine 0) below in
        call.1 ∙ arity_at-kind body.gadgets (get_or (calls_of body reading) k d).gadget call.0;
    outs = λ reading. outs_read_words_alone body reading (direct body reading.meas []) (body_linear body totals p.is) refl;
  }

  -- ---- counts

  pub passed_gadgets : length totals.calls ≡ length body.gadgets
  passed_gadgets = p.within.one_each

  counted_calls : (gadget : ℕ) → gadget < length body.gadgets → get_or p.ended.counts.calls gadget 0 ≡ calls_made body gadget
  counted_calls gadget below =
      let zeros : List ℕ = replicate (length body.gadgets) 0 in
      let start : get_or zeros gadget 0 ≡ 0 = get_or-replicate (length body.gadgets) gadget 0 0 below in
      let there : gadget < length (no_counts body).calls = omega (arith, length-replicate {A = ℕ} (length body.gadgets) 0) in
      let walked : get_or p.ended.counts.calls gadget 0 ≡ get_or zeros gadget 0 + calls_in gadget (body_events body) = p.met.calls gadget there in
      let same : times gadget (gadgets_called body) ≡ calls_in gadget (body_events body) = (made blank).calls 0 gadget in
      omega arith

  pub passed_calls : (gadget : ℕ) → gadget < length body.gadgets → get_or totals.calls gadget 0 ≡ calls_made body gadget
  passed_calls gadget below = sym (ap (λ (t : Totals). get_or t.calls gadget 0) p.ended.totals_are) ∙ counted_calls gadget below

  pub passed_checks : totals.checks ≡ check_count body
  passed_checks =
      let walked : p.ended.counts.checks ≡ 0 + checks_in (body_events body) = p.met.checks in
      sym (ap (λ (t : Totals). t.checks) p.ended.totals_are) ∙ (omega (arith, given.checks 0))

  pub passed_outs : totals.outs ≡ out_count body
  passed_outs =
      let walked : p.ended.counts.outs ≡ 0 + outs_in (body_events body) = p.met.outs in
      sym (ap (λ (t : Totals). t.outs) p.ended.totals_are) ∙ (omega (arith, given.outs 0))

  pub passed_terms : term_count body ≤ 4194304
  passed_terms =
      let within : term_count body ≤ visits_in (body_events body) = stmts_within body body.meas [] body.stmts in
      let walked : p.ended.counts.visits ≡ 0 + visits_in (body_events body) = p.met.visits in
      let few : p.ended.counts.visits ≤ 4194304 = (walk_counted body (body_events body) p.ended.counts p.ended.walked).visits in
      omega arith

  -- ---- limits

  pub passed_gadget : (gadget : ℕ) → gadget < length body.gadgets → GadgetIsWithin body gadget
  passed_gadget gadget below =
      let none : Declaration = record { at = 0; name = []; kind = mul_kind } in
      let d : Declaration = get_or body.gadgets gadget none in
      let decl = p.within.kinds gadget none below in
      let kind : kind_of body gadget ≡ kind_tree d.kind = kind_at body.gadgets gadget none below in
      let arity : gadgets.arity_of body gadget ≡ declared_arity d.kind = ap tree.kind_arity kind ∙ arity-kind_tree d.kind in
      let degree : gadgets.degree_of body gadget ≡ declared_degree d.kind = ap tree.kind_degree kind ∙ degree-kind_tree d.kind in
      let there : gadget < length totals.calls = omega (arith, p.within.one_each) in
      let calls : get_or totals.calls gadget 0 ≡ calls_made body gadget = passed_calls gadget below in
      let counted = p.within.calls gadget 0 there in
      let power = least_power (calls_made body gadget + 1) in
      record {
        kind = subst IsKind (sym kind) (record {
          parts = has_parts d.kind decl.some_input decl.some_degree decl.low_degree;
          few_inputs = omega (arith, decl.few_inputs, arity-kind_tree d.kind);
        });
        some_inputs = omega (arith, decl.some_input);
        few_inputs = omega (arith, decl.few_inputs);
        some_degree = omega (arith, decl.some_degree);
        low_degree = omega (arith, decl.low_degree);
        some_calls = omega (arith, counted.0);
        few_calls = omega (arith, counted.1);
        small_domain = power.1 12 (omega (arith, counted.1));
        room_for_calls = power.0;
      }

  called_within : (number : ℕ) → number < call_count body → call_gadget body number < length body.gadgets
  called_within number below =
      let none : Call = record { gadget = 0; inputs = [] } in
      let there : number < length (calls_of body blank) = omega (arith, mapped_length (λ (call : Call). call.gadget) (calls_of body blank)) in
      let fine = fine_all body.gadgets (calls_of body blank) number none ((made blank).fine 0) there in
      let same : call_gadget body number ≡ (get_or (calls_of body blank) number none).gadget = get_or-map (λ (call : Call). call.gadget) (calls_of body blank) number none 0 there in
      omega (arith, fine.0)

  pub passed_call : (number : ℕ) → number < call_count body → CallIsWithin body number
  passed_call number below = record {
    gadget = called_within number below;
    from_one = times_here (gadgets_called body) number below;
    among_calls = times_front (call_gadget body number) (number + 1) (gadgets_called body);
  }

  pub passed_limits : 1 ≤ length body.gadgets → wire_count body ≤ most → term_count body ≤ most → CircuitIsWithin body
  passed_limits some wires terms =
      let checks : totals.checks ≡ check_count body = passed_checks in
      let outs : totals.outs ≡ out_count body = passed_outs in
      let eight : length body.gadgets ≤ 8 = p.within.gadgets in
      let each_few : call_count body ≤ length body.gadgets * 4095 =
      few_in_all (length body.gadgets) 4095 (gadgets_called body) called_within (λ g h. (passed_gadget g h).few_calls) in
      record {
        some_meas = p.within.some_meas;
        few_meas = p.within.meas;
        few_joint = p.within.joint;
        some_gadgets = some;
        few_gadgets = p.within.gadgets;
        gadgets = passed_gadget;
        few_calls = omega arith;
        calls = passed_call;
        some_checks = omega (arith, p.within.some_check);
        few_checks = omega (arith, p.within.checks);
        some_outs = omega (arith, p.within.some_out);
        few_outs = omega (arith, p.within.outs);
        few_wires = wires;
        few_terms = terms;
      }

-- a circuit that passed and has a gadget is bounded
pub passed_bounded : (body : Program) (totals : Totals) → verdict body ≡ Ok totals → 1 ≤ length body.gadgets → IsBounded body
passed_bounded body totals is some =
    let p = passed body totals is in
    record {
      some_gadget = some;
      kinds = λ gadget below. (passed_gadget body totals p gadget below).kind;
      few_calls = λ gadget below. (passed_gadget body totals p gadget below).few_calls;
    }
