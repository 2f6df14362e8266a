use Rattle.std.proofs.Common.{ℕ, ◌≡◌, ◌+◌, ◌*◌, List, ◌++◌, length, take, refl, ap, ap₂, sym, ◌∙◌}
use Rattle.std.specs.Vec.{with_items}
use Rattle.std.proofs.lemmas.List.{with_items_is, take_at}
use Rattle.flp_share.specs.Shares.{shares_of}
use Rattle.flp_plan.specs.declared.lengths.Lengths.{Lengths}
use Rattle.flp_plan.specs.Counted.{counted_lengths}
use Rattle.flp_generator.specs.Sequence.{sequence_words, taken_by_place, words_taken, joint_taken, seeds_taken, share_taken, query_taken}
use Rattle.flp_generator.specs.Change.{change_at}
use Rattle.flp_generator.specs.Place.{unshared_words, honest_words, changed_words}
use Rattle.flp_generator.specs.Input.{trial_encoding}
use Rattle.flp_generator.proofs.MakerLemmas.{same-unshared, same-words}
use Rattle.flp_generator.proofs.maker.Maker.make.Goals as goal

pub change_words-requires-clause-first : goal.change_words-requires-clause-first
change_words-requires-clause-first c =
    let maker = c.args.self.now in
    let out : List ℕ = c.split.new.out in
    let long = c.split.auto.out ∙ c.deref_mut-4.ensures.len in
    let third : c.deref-3.result.now ≡ out = c.deref-3.ensures.value ∙ with_items_is maker.shares out long in
    let fourth : c.deref-4.result.now ≡ out = c.deref-4.ensures.value ∙ with_items_is maker.shares out long in
    let own : List ℕ = c.parts-taken.result.joint.now ++ c.parts-taken.result.query.now in
    let words : c.deref_mut-6.result.now ≡ out ++ own =
    c.deref_mut-6.ensures.value
    ∙ (with_items_is maker.words c.write_words.new.words (c.write_words.auto.words ∙ c.deref_mut-5.ensures.len)
    ∙ (c.write_words.ensures ∙ ap (λ (l : List ℕ). l ++ own) third)) in
    ap₂ (λ (n : ℕ) (l : List ℕ). take n l) (ap length fourth) words ∙ (take_at out own (length out) refl ∙ sym fourth)

pub returns-clause-words : goal.returns-clause-words
returns-clause-words c =
    let maker = c.args.self.now in
    let params = c.args.loaded.now.params in
    let circuit = c.args.loaded.now.plan.circuit in
    let lengths = counted_lengths circuit in
    let start : ℕ = c.args.place * taken_by_place lengths in
    let number : ℕ = c.args.seed + c.args.place in
    let taken : List ℕ = words_taken lengths c.args.seed c.args.place in
    let x : List ℕ = trial_encoding params lengths.meas number in
    let size : length c.take.new.words ≡ taken_by_place lengths = c.take.auto.words ∙ (c.deref_mut.ensures.len ∙ c.requires.at.room.taken) in
    let drawn : c.take.new.words ≡ taken = (c.take.ensures c.args.seed start c.requires.at.next).0 ∙ ap (sequence_words c.args.seed start) size in
    let taken_is : c.deref.result.now ≡ taken =
    c.deref.ensures.value ∙ (with_items_is maker.taken c.take.new.words (c.take.auto.words ∙ c.deref_mut.ensures.len) ∙ drawn) in
    let joint : c.parts-taken.result.joint.now ≡ joint_taken lengths taken = c.parts-taken.ensures.joint ∙ ap₂ (λ (l : Lengths) (t : List ℕ). joint_taken l t) c.lengths.ensures taken_is in
    let seeds : c.parts-taken.result.seeds.now ≡ seeds_taken lengths taken = c.parts-taken.ensures.seeds ∙ ap₂ (λ (l : Lengths) (t : List ℕ). seeds_taken l t) c.lengths.ensures taken_is in
    let share : c.parts-taken.result.share.now ≡ share_taken lengths taken = c.parts-taken.ensures.share ∙ ap₂ (λ (l : Lengths) (t : List ℕ). share_taken l t) c.lengths.ensures taken_is in
    let query : c.parts-taken.result.query.now ≡ query_taken lengths taken = c.parts-taken.ensures.query ∙ ap₂ (λ (l : Lengths) (t : List ℕ). query_taken l t) c.lengths.ensures taken_is in
    let number_is : c.from.result + c.from-2.result ≡ number = ap₂ (λ (a b : ℕ). a + b) c.from.ensures c.from-2.ensures in
    let unshared : c.deref-2.result.now ≡ unshared_words circuit x taken =
    c.deref-2.ensures.value
    ∙ (with_items_is maker.unshared c.write_unshared.new.unshared (c.write_unshared.auto.unshared ∙ c.deref_mut-3.ensures.len)
    ∙ (c.write_unshared.ensures.words
    ∙ same-unshared params circuit lengths.meas (c.from.result + c.from-2.result) number c.parts-taken.result.joint.now (joint_taken lengths taken) c.parts-taken.result.seeds.now (seeds_taken lengths taken) number_is joint seeds)) in
    let shares : c.deref-3.result.now ≡ shares_of 2 (unshared_words circuit x taken) (share_taken lengths taken) =
    c.deref-3.ensures.value
    ∙ (with_items_is maker.shares c.split.new.out (c.split.auto.out ∙ c.deref_mut-4.ensures.len)
    ∙ (c.split.ensures.shares ∙ ap₂ (λ (a b : List ℕ). shares_of 2 a b) unshared share)) in
    let words : c.write_words.new.words ≡ honest_words circuit x taken =
    c.write_words.ensures
    ∙ same-words c.deref-3.result.now (shares_of 2 (unshared_words circuit x taken) (share_taken lengths taken)) c.parts-taken.result.joint.now (joint_taken lengths taken) c.parts-taken.result.query.now (query_taken lengths taken) shares joint query in
    let before : c.deref_mut-6.result.now ≡ honest_words circuit x taken =
    c.deref_mut-6.ensures.value ∙ (with_items_is maker.words c.write_words.new.words (c.write_words.auto.words ∙ c.deref_mut-5.ensures.len) ∙ words) in
    with_items_is (with_items maker.words c.write_words.new.words) c.change_words.new.words (c.change_words.auto.words ∙ c.deref_mut-6.ensures.len)
    ∙ (c.change_words.ensures ∙ ap (λ (l : List ℕ). changed_words (change_at c.args.place) circuit l) before)
