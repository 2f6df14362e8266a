use Rattle.std.proofs.Common.{◌≡◌, ◌≤◌, ◌<◌, ◌+◌, ℕ, All, length, get_or, set, take, ap, sym, subst, ◌∙◌, arith}
use Rattle.std.specs.List.{flat_map}
use Rattle.std.proofs.lemmas.List.{get_or_default}
use Rattle.flp_round.specs.declared.verifier.Verifier.{Verifier}
use Rattle.flp_round.specs.Notes.{IsWithin}
use Rattle.flp_round.specs.Verifier.{noted, notes_room, places_of, emptied}
use Rattle.flp_round.proofs.NotesLemmas.{same_elem, front_more, back_more}
use Rattle.flp_round.proofs.GatherLemmas.{gather_more}
use Rattle.flp_round.proofs.crew.gather.Goals as goal

pub hand_over-requires-clause-count : goal.hand_over-requires-clause-count
hand_over-requires-clause-count c =
    let i = c.loop-index.index in let vs = c.args.verifiers.now in let now = c.loop-index.verifiers in
    let v : Verifier = get_or now i c.index-verifiers-index.result in
    let many : length now ≡ length vs = omega arith in let below : i < length vs = omega arith in
    let same = same_elem emptied vs now i v below many c.loop-index.invariant.2 (get_or_default now i v c.index-verifiers-index.result (omega arith)) in
    subst (λ (w : Verifier). w.count ≤ notes_room w) same (c.requires.count i v below)

pub hand_over-requires-clause-notes : goal.hand_over-requires-clause-notes
hand_over-requires-clause-notes c =
    let i = c.loop-index.index in let vs = c.args.verifiers.now in let now = c.loop-index.verifiers in
    let v : Verifier = get_or now i c.index-verifiers-index.result in
    let many : length now ≡ length vs = omega arith in let below : i < length vs = omega arith in
    let same = same_elem emptied vs now i v below many c.loop-index.invariant.2 (get_or_default now i v c.index-verifiers-index.result (omega arith)) in
    let before = subst (λ (w : Verifier). All (IsWithin c.args.first (length c.args.verdicts.now)) (noted w)) same (c.requires.notes i v below) in
    subst (λ (n : ℕ). All (IsWithin c.args.first n) (noted v)) (sym c.loop-index.invariant.0) before

pub loop-index-preserved : goal.loop-index-preserved
loop-index-preserved c =
    let i = c.loop-index.index in let vs = c.args.verifiers.now in let now = c.loop-index.verifiers in
    let v : Verifier = get_or now i c.index-verifiers-index.result in
    let many : length now ≡ length vs = omega arith in let below : i < length vs = omega arith in
    let rest = c.loop-index.invariant.2 in
    let read = get_or_default now i v c.index-verifiers-index.result (omega arith) in
    let same = same_elem emptied vs now i v below many rest read in (
      c.hand_over.ensures.length ∙ c.loop-index.invariant.0,
      ap (λ (w : Verifier). take (i + 1) (set now i w)) c.hand_over.ensures.emptied ∙ front_more emptied vs now i v below many rest read c.loop-index.invariant.1,
      back_more emptied vs now i v below many rest read c.hand_over.new.self,
      λ right all. gather_more vs i v below same c.args.first right c.loop-index.verdicts c.hand_over.new.verdicts all (c.loop-index.invariant.3 right all)
          (λ notes has. c.hand_over.ensures.put right (flat_map places_of (take i vs)) notes has),
    )
