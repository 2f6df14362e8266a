use Rattle.std.proofs.Common.{ℕ, ◌≡◌, ◌+◌, ◌*◌, ◌<◌, ◌≤◌, ap, sym, subst, ◌∙◌, rules, arith}
use Rattle.flp_worker.specs.Room.{HasRoom}
use Rattle.flp_worker.specs.Worker.{Working}
use Rattle.flp_worker.proofs.PrefixLemmas.{part-of-parts-fits}
use Rattle.flp_worker.proofs.worker.Worker.verifier.Goals as goal

-- the verifier of a share for a proof ends where all do, or before
fits-in : (share proof size held words verifiers sum encoding row : ℕ) (inside seen : Working) → inside ≡ seen → share < seen.shape.shares → proof < seen.shape.proofs
    → size ≡ sum → HasRoom inside.shape inside.sizes words verifiers sum encoding row → held ≡ verifiers
    → (proof * inside.shape.shares + share) * size + size ≤ held
fits-in share proof size held words verifiers sum encoding row inside seen same below within sized room all =
    let shape = inside.shape in
    let fits : (proof * shape.shares + share) * size + size ≤ shape.proofs * shape.shares * size =
    part-of-parts-fits share proof shape.proofs shape.shares size
    (subst (λ (w : Working). share < w.shape.shares) (sym same) below) (subst (λ (w : Working). proof < w.shape.proofs) (sym same) within) in
    let whole : shape.proofs * shape.shares * size ≡ shape.proofs * shape.shares * inside.sizes.lengths.verifier = ap (λ (m : ℕ). shape.proofs * shape.shares * m) (sized ∙ room.for_sum) in
    omega (arith, fits, whole, all, room.for_verifiers)

pub overflow_mul-start-2 : goal.overflow_mul-start-2
overflow_mul-start-2 c =
    let fits = fits-in c.args.share c.args.proof _ _ _ _ _ _ _ _ _ c.self.view_is c.requires.share c.requires.proof c.len-size.ensures c.self.invariant c.deref-verifiers.ensures.len in search rules

pub overflow_add-result : goal.overflow_add-result
overflow_add-result c =
    let fits = fits-in c.args.share c.args.proof _ _ _ _ _ _ _ _ _ c.self.view_is c.requires.share c.requires.proof c.len-size.ensures c.self.invariant c.deref-verifiers.ensures.len in search rules

pub offset_bounds-verifiers-start : goal.offset_bounds-verifiers-start
offset_bounds-verifiers-start c =
    let fits = fits-in c.args.share c.args.proof _ _ _ _ _ _ _ _ _ c.self.view_is c.requires.share c.requires.proof c.len-size.ensures c.self.invariant c.deref-verifiers.ensures.len in search rules

pub slice_bounds-result-end : goal.slice_bounds-result-end
slice_bounds-result-end c =
    let fits = fits-in c.args.share c.args.proof _ _ _ _ _ _ _ _ _ c.self.view_is c.requires.share c.requires.proof c.len-size.ensures c.self.invariant c.deref-verifiers.ensures.len in search rules
