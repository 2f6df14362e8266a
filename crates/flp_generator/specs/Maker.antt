-- The room in which the records are made, one after another.
use Rattle.std.specs.Prelude.{ℕ, ◌*◌, ◌≡◌, vec_len, IfSome}
use Rattle.flp_load.specs.declared.circuit.Loaded.{Loaded}
use Rattle.flp_plan.specs.Counted.{counted_lengths}
use Rattle.flp_plan.specs.Sizes.{sizes_of}
use Rattle.flp_report.specs.Shape.{words_of}
use Rattle.flp_circuits.specs.Sizes.{input_len_of}
use Rattle.flp_generator.specs.declared.maker.Maker.{Maker}
use Rattle.flp_generator.specs.Sequence.{sequence_word, part_of, taken_by_place}
use Rattle.flp_generator.specs.Batch.{trial_shape}

-- it has the room that a record of this circuit takes
pub record IsMadeFor (loaded : Loaded) (maker : Maker) : Type 0 where
  pub prover : maker.prover ≡ sizes_of loaded.plan
  pub taken : vec_len maker.taken ≡ taken_by_place (counted_lengths loaded.plan.circuit)
  pub numbers : IfSome loaded.params (λ params. vec_len maker.numbers ≡ input_len_of params)
  pub unshared : vec_len maker.unshared ≡ part_of (counted_lengths loaded.plan.circuit)
  pub shares : vec_len maker.shares ≡ 2 * part_of (counted_lengths loaded.plan.circuit)
  pub words : vec_len maker.words ≡ words_of (trial_shape loaded.plan.circuit)

-- and the next word that is taken is the first of this place
pub record IsAt (loaded : Loaded) (seed place : ℕ) (maker : Maker) : Type 0 where
  pub room : IsMadeFor loaded maker
  pub next : maker.sequence.next ≡ sequence_word seed (place * taken_by_place (counted_lengths loaded.plan.circuit))
