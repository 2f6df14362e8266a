use Rattle.std.proofs.Common.{[]}
use Rattle.flp_generator.specs.Batch.{trial_shape, trial_records}
use Rattle.flp_trial.specs.Places.{PlacesAreFound, StandardIsValid}
use Rattle.flp_trial.proofs.PlaceLemmas.{finds, standard_is_valid, standard_stand, eighths_are_found}
use Rattle.flp_trial.proofs.laws.places.Goals as goal

pub returns : goal.returns
returns c =
    let places : PlacesAreFound =
    λ text params circuit seed reports place tried below.
    finds text params circuit seed reports place tried below c.loaded_is_bounded.ensures c.words_stay_out.ensures
    (c.once.ensures circuit (trial_shape circuit) [] (trial_records params circuit seed reports))
    (c.honest.ensures circuit (c.loaded_is_bounded.ensures text params circuit tried.loaded) (trial_shape circuit) [] (trial_records params circuit seed reports)) in
    let valid : StandardIsValid = standard_is_valid c.encodings.ensures.valid in
    record { places = places; valid = valid; stand = standard_stand; eighths = eighths_are_found places valid standard_stand c.once.ensures }
