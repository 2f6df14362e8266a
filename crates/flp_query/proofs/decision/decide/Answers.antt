use Rattle.std.proofs.Common.{ℕ, ◌≡◌, ◌+◌, ◌-◌, ◌<◌, ◌∙◌, Bool, true, false, List, length, take, drop, get_or, eqb, ap, ap₂, sym, refl, arith, rules}
use Rattle.std.specs.Prelude.{not}
use Rattle.std.proofs.lemmas.List.{get_or_read}
use Rattle.flp_gadget.specs.KindTree.{KindTree, value_of}
use Rattle.flp_syntax.specs.Tree.{Program}
use Rattle.flp_meaning.specs.Circuit.{kind_of}
use Rattle.flp_meaning.specs.Gadgets.{arity_of}
use Rattle.flp_meaning.specs.Lengths.{start_of, verifier_part}
use Rattle.flp_meaning.specs.Verifier.{gadget_holds}
use Rattle.flp_meaning.proofs.StartLemmas.{start-more}
use Rattle.flp_query.proofs.DecisionLemmas.{part-fits, holds-at, all-more, decides-not}
use Rattle.flp_query.proofs.decision.decide.Goals as goal

pub overflow_add-end : goal.overflow_add-end
overflow_add-end c =
    let fits : c.loop-gadget.start + c.arity.result < length c.args.verifier.now =
    part-fits c.args.plan.now.circuit c.loop-gadget.gadget c.loop-gadget.start c.arity.result (length c.args.verifier.now) (omega arith)
    c.loop-gadget.invariant.start c.arity.ensures.inputs c.requires in
    search rules

pub offset_bounds-verifier-start : goal.offset_bounds-verifier-start
offset_bounds-verifier-start c =
    let fits : c.loop-gadget.start + c.arity.result < length c.args.verifier.now =
    part-fits c.args.plan.now.circuit c.loop-gadget.gadget c.loop-gadget.start c.arity.result (length c.args.verifier.now) (omega arith)
    c.loop-gadget.invariant.start c.arity.ensures.inputs c.requires in
    search rules

pub slice_bounds-eval-end : goal.slice_bounds-eval-end
slice_bounds-eval-end c =
    let fits : c.loop-gadget.start + c.arity.result < length c.args.verifier.now =
    part-fits c.args.plan.now.circuit c.loop-gadget.gadget c.loop-gadget.start c.arity.result (length c.args.verifier.now) (omega arith)
    c.loop-gadget.invariant.start c.arity.ensures.inputs c.requires in
    search rules

pub bounds-verifier-end : goal.bounds-verifier-end
bounds-verifier-end c =
    part-fits c.args.plan.now.circuit c.loop-gadget.gadget c.loop-gadget.start c.arity.result (length c.args.verifier.now) (omega arith)
    c.loop-gadget.invariant.start c.arity.ensures.inputs c.requires

-- the value and the word that the code compares
tested : (body : Program) (words : List ℕ) (g start arity value word : ℕ) (kind : KindTree) → start ≡ 1 + start_of (verifier_part body) g → arity ≡ arity_of body g
    → kind ≡ kind_of body g → value ≡ value_of kind (take (start + arity - start) (drop start words)) → start + arity < length words
    → word ≡ get_or words (start + arity) word → gadget_holds body words g ≡ eqb value word
tested body words g start arity value word kind begins inputs own is inside read =
    let many : start + arity - start ≡ arity = omega arith in
    holds-at body words g start arity begins inputs
    ∙ ap₂ (λ (v w : ℕ). eqb v w)
    (ap (λ (k : KindTree). value_of k (take arity (drop start words))) (sym own) ∙ ap (λ n. value_of kind (take n (drop start words))) (sym many) ∙ sym is)
    (sym (get_or_read words (start + arity) word inside read 0))

not_true : (b : Bool) → not b ≡ true → b ≡ false
not_true true e = sym e
not_true false e = refl

not_false : (b : Bool) → not b ≡ false → b ≡ true
not_false true e = refl
not_false false e = sym e

pub returns-then-ne-2 : goal.returns-then-ne-2
returns-then-ne-2 c =
    let fits : c.loop-gadget.start + c.arity.result < length c.args.verifier.now =
    part-fits c.args.plan.now.circuit c.loop-gadget.gadget c.loop-gadget.start c.arity.result (length c.args.verifier.now) (omega arith)
    c.loop-gadget.invariant.start c.arity.ensures.inputs c.requires in
    decides-not c.args.plan.now.circuit c.args.verifier.now c.loop-gadget.gadget (omega arith)
    (tested c.args.plan.now.circuit c.args.verifier.now c.loop-gadget.gadget c.loop-gadget.start c.arity.result c.eval.result c.index-verifier-end.result c.kind.result.now
    c.loop-gadget.invariant.start c.arity.ensures.inputs c.kind.ensures c.eval.ensures fits c.index-verifier-end.is
    ∙ not_true (eqb c.eval.result c.index-verifier-end.result) (sym c.ne-in-loop-gadget.ensures ∙ c.if-ne-2.true))

pub loop-gadget-preserved : goal.loop-gadget-preserved
loop-gadget-preserved c =
    let fits : c.loop-gadget.start + c.arity.result < length c.args.verifier.now =
    part-fits c.args.plan.now.circuit c.loop-gadget.gadget c.loop-gadget.start c.arity.result (length c.args.verifier.now) (omega arith)
    c.loop-gadget.invariant.start c.arity.ensures.inputs c.requires in
    let more : start_of (verifier_part c.args.plan.now.circuit) (c.loop-gadget.gadget + 1)
    ≡ start_of (verifier_part c.args.plan.now.circuit) c.loop-gadget.gadget + verifier_part c.args.plan.now.circuit c.loop-gadget.gadget =
    start-more (verifier_part c.args.plan.now.circuit) c.loop-gadget.gadget in
    record {
      start = omega arith;
      hold =
          all-more (gadget_holds c.args.plan.now.circuit c.args.verifier.now) c.loop-gadget.gadget c.loop-gadget.invariant.hold
          (tested c.args.plan.now.circuit c.args.verifier.now c.loop-gadget.gadget c.loop-gadget.start c.arity.result c.eval.result c.index-verifier-end.result c.kind.result.now
          c.loop-gadget.invariant.start c.arity.ensures.inputs c.kind.ensures c.eval.ensures fits c.index-verifier-end.is
          ∙ not_false (eqb c.eval.result c.index-verifier-end.result) (sym c.ne-in-loop-gadget.ensures ∙ c.if-ne-2.false));
    }
