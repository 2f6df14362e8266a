use Rattle.std.proofs.Common.{◌≡◌, ◌+◌, ℕ, List, length, get_or, Some, ap, sym, ◌∙◌, subst, arith}
use Rattle.std.specs.List.{slice_get}
use Rattle.flp_gadget.specs.KindTree.{IsKind}
use Rattle.flp_syntax.specs.View.{program_of}
use Rattle.flp_meaning.specs.Gadgets.{calls_made}
use Rattle.flp_plan.specs.declared.gadgets.GadgetUse.{GadgetUse}
use Rattle.flp_plan.specs.Uses.{IsUse}
use Rattle.flp_plan.proofs.PassedLemmas.{passed_gadgets, passed_calls, passed_gadget}
use Rattle.flp_plan.proofs.CompileLemmas.{totals_in, passed_in, declared_kind_is, declared_below, each_pushed, pushed_length}
use Rattle.flp_plan.proofs.gadgets.gadget_uses.Goals as goal

pub declared_kind-requires : goal.declared_kind-requires
declared_kind-requires c =
    let below = declared_below c.args.checked.now.body c.as_slice-gadgets.result.now c.loop-gadget.gadget c.as_slice-gadgets.ensures c.loop-gadget-test.true in
    subst IsKind
    (declared_kind_is c.args.checked.now.body c.as_slice-gadgets.result.now c.loop-gadget.gadget c.index-gadgets-gadget.result c.as_slice-gadgets.ensures c.loop-gadget-test.true c.index-gadgets-gadget.is)
    (passed_gadget (program_of c.args.checked.now.body) (totals_in c.args.checked.now) (passed_in c.args.checked.now) c.loop-gadget.gadget below).kind

pub bounds-counts-gadget : goal.bounds-counts-gadget
bounds-counts-gadget c =
    let below = declared_below c.args.checked.now.body c.as_slice-gadgets.result.now c.loop-gadget.gadget c.as_slice-gadgets.ensures c.loop-gadget-test.true in
    let size = passed_gadgets (program_of c.args.checked.now.body) (totals_in c.args.checked.now) (passed_in c.args.checked.now) in
    let counts = ap (λ (l : List ℕ). length l) c.as_slice-counts.ensures in
    omega arith

pub domain_log-log-requires : goal.domain_log-log-requires
domain_log-log-requires c = declared_below c.args.checked.now.body c.as_slice-gadgets.result.now c.loop-gadget.gadget c.as_slice-gadgets.ensures c.loop-gadget-test.true

pub loop-gadget-preserved : goal.loop-gadget-preserved
loop-gadget-preserved c =
    let gadget : ℕ = c.loop-gadget.gadget in
    let body = program_of c.args.checked.now.body in
    let below = declared_below c.args.checked.now.body c.as_slice-gadgets.result.now gadget c.as_slice-gadgets.ensures c.loop-gadget-test.true in
    let calls : get_or c.as_slice-counts.result.now gadget 0 ≡ calls_made body gadget =
    ap (λ (l : List ℕ). get_or l gadget 0) c.as_slice-counts.ensures
    ∙ passed_calls body (totals_in c.args.checked.now) (passed_in c.args.checked.now) gadget below in
    let held : GadgetUse = record { kind = c.in_ok-kind.kind; calls = get_or c.as_slice-counts.result.now gadget 0; log = c.domain_log-log.result } in
    let is : IsUse body gadget held = record {
      kind =
          c.in_ok-kind.ensures
          ∙ sym (declared_kind_is c.args.checked.now.body c.as_slice-gadgets.result.now gadget c.index-gadgets-gadget.result c.as_slice-gadgets.ensures c.loop-gadget-test.true c.index-gadgets-gadget.is);
      calls = calls;
      log = c.domain_log-log.ensures.log;
    } in
    record {
      count = ap (λ (l : List GadgetUse). length l) c.in_ok-push.ensures.items ∙ pushed_length c.loop-gadget.uses.items held ∙ ap (λ (n : ℕ). n + 1) c.loop-gadget.invariant.count;
      each =
          subst (λ (l : List GadgetUse). (g : ℕ) (other : GadgetUse) → slice_get l g ≡ Some other → IsUse body g other) (sym c.in_ok-push.ensures.items)
          (each_pushed (λ g other. IsUse body g other) c.loop-gadget.uses.items held c.loop-gadget.invariant.each
          (subst (λ (g : ℕ). IsUse body g held) (sym c.loop-gadget.invariant.count) is));
    }
