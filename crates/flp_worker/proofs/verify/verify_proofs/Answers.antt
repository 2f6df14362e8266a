use Rattle.std.proofs.Common.{ℕ, ◌≡◌, ◌+◌, ◌*◌, ◌<◌, ◌≤◌, ◌&&◌, Bool, List, length, refl, ap, ap₂, sym, ◌∙◌, below_more, rules, arith}
use Rattle.std.specs.Prelude.{None}
use Rattle.flp_plan.specs.Counted.{counted_lengths}
use Rattle.flp_worker.specs.Parts.{joint_words}
use Rattle.flp_worker.specs.Verdict.{proof_holds, gadget_inside, verifiers_for}
use Rattle.flp_worker.proofs.PrefixLemmas.{parts-fit, flat-more}
use Rattle.flp_worker.proofs.PlaceLemmas.{length-for}
use Rattle.flp_worker.proofs.InsideLemmas.{none-named, first-is, all-more, both-hold, none-holds}
use Rattle.flp_worker.proofs.verify.verify_proofs.Goals.{then-hold, else-hold}
use Rattle.flp_worker.proofs.verify.verify_proofs.Goals as goal

-- the verifiers of a proof end where all do, or before
fits-in : (proof proofs shares n sum held : ℕ) → proof < proofs → sum ≡ n → held ≡ proofs * shares * n
    → proof * (shares * sum) + shares * sum ≤ held
fits-in proof proofs shares n sum held below same all =
    parts-fit proof proofs shares n (shares * sum) held below (ap (λ (m : ℕ). shares * m) same) all

pub overflow_mul-start : goal.overflow_mul-start
overflow_mul-start c =
    let fits = fits-in c.loop-proof.proof c.args.words.now.shape.proofs c.args.words.now.shape.shares _ _ _ c.loop-proof-test.true c.requires.sum (c.loop-proof.auto.verifiers ∙ c.requires.room) in search rules

pub overflow_add-of_shares : goal.overflow_add-of_shares
overflow_add-of_shares c =
    let fits = fits-in c.loop-proof.proof c.args.words.now.shape.proofs c.args.words.now.shape.shares _ _ _ c.loop-proof-test.true c.requires.sum (c.loop-proof.auto.verifiers ∙ c.requires.room) in search rules

pub offset_bounds-verifiers-start : goal.offset_bounds-verifiers-start
offset_bounds-verifiers-start c =
    let fits = fits-in c.loop-proof.proof c.args.words.now.shape.proofs c.args.words.now.shape.shares _ _ _ c.loop-proof-test.true c.requires.sum (c.loop-proof.auto.verifiers ∙ c.requires.room) in search rules

pub slice_bounds-of_shares-end : goal.slice_bounds-of_shares-end
slice_bounds-of_shares-end c =
    let fits = fits-in c.loop-proof.proof c.args.words.now.shape.proofs c.args.words.now.shape.shares _ _ _ c.loop-proof-test.true c.requires.sum (c.loop-proof.auto.verifiers ∙ c.requires.room) in search rules

pub returns-in-Err-clause-inside : goal.returns-in-Err-clause-inside
returns-in-Err-clause-inside c =
    first-is (gadget_inside c.args.plan.now.circuit c.args.words.now.shape c.args.words.now.all.now) 0 c.args.words.now.shape.proofs c.loop-proof.proof c.in-Err.field-0.gadget
    (omega arith) (omega (arith, c.loop-proof-test.true)) c.loop-proof.invariant.outside c.in-Err.ensures.inside

pub loop-proof-preserved : goal.loop-proof-preserved
loop-proof-preserved c =
    let n : ℕ = (counted_lengths c.args.plan.now.circuit).verifier in
    let k : ℕ = c.loop-proof.proof in
    let shares : ℕ = c.args.words.now.shape.shares in
    let f : ℕ → List ℕ = verifiers_for c.args.plan.now.circuit c.args.words.now.shape c.args.words.now.all.now in
    let holds : ℕ → Bool = proof_holds c.args.plan.now.circuit c.args.words.now.shape c.args.words.now.all.now in
    let next : c.if-hold.hold ≡ (c.loop-proof.hold && c.in-Ok.holds) =
    elim c.if-hold.branch [
      | then-hold w ↦ both-hold c.if-hold.hold c.loop-proof.hold c.in-Ok.holds w.if-hold.true w.hold-is
      | else-hold w ↦ none-holds c.if-hold.hold c.loop-proof.hold c.in-Ok.holds w.if-hold.false w.hold-is
    ] in
    let long : length c.verify_proof.new.verifiers ≡ shares * n =
    ap (λ (l : List ℕ). length l) c.in-Ok.ensures.verifiers ∙ length-for c.args.plan.now.circuit c.args.words.now.shape c.args.words.now.all.now k in
    let fits : k * (shares * n) + shares * n ≤ length c.loop-proof.verifiers =
    fits-in k c.args.words.now.shape.proofs shares n n (length c.loop-proof.verifiers) c.loop-proof-test.true refl (c.loop-proof.auto.verifiers ∙ c.requires.room) in
    record {
      again = c.in-Ok.ensures.again ∙ c.loop-proof.invariant.again;
      hold = next ∙ ap₂ (λ (a b : Bool). a && b) c.loop-proof.invariant.hold c.in-Ok.ensures.holds ∙ sym (all-more holds k);
      outside =
          below_more (λ (j : ℕ). gadget_inside c.args.plan.now.circuit c.args.words.now.shape c.args.words.now.all.now j ≡ None) k
          c.loop-proof.invariant.outside c.in-Ok.ensures.outside;
      publics = λ some. (joint_words c.args.words.now.shape c.args.words.now.all.now k, c.in-Ok.ensures.publics);
      verifiers =
          flat-more f c.loop-proof.verifiers c.verify_proof.new.verifiers k (shares * length c.args.sum.now) (shares * n) _
          (ap (λ (m : ℕ). shares * m) c.requires.sum) long (omega (arith, fits)) c.loop-proof.invariant.verifiers c.in-Ok.ensures.verifiers;
    }

pub returns-clause-outside : goal.returns-clause-outside
returns-clause-outside c =
    none-named (gadget_inside c.args.plan.now.circuit c.args.words.now.shape c.args.words.now.all.now) 0 c.args.words.now.shape.proofs
    (λ (k : ℕ) (below : k < 0 + c.args.words.now.shape.proofs). c.loop-proof.invariant.outside k (omega arith))

pub returns-clause-publics : goal.returns-clause-publics
returns-clause-publics c = c.loop-proof.invariant.publics (omega (arith, c.requires.fits.some_proofs))
