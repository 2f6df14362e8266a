use Rattle.std.proofs.Common.{◌≡◌, ℕ, List, ◌++◌, ap, ap₂, ◌∙◌}
use Rattle.std.specs.List.{flat_map}
use Rattle.std.proofs.lemmas.List.{with_items_is}
use Rattle.flp_share.specs.Shares.{shares_of}
use Rattle.flp_report.specs.JobParts.{job_of}
use Rattle.flp_jobs.specs.Encoding.{given_words, job_proofs}
use Rattle.flp_jobs.specs.Record.{unshared_words, own_words}
use Rattle.flp_jobs.specs.Reading.{setting_of}
use Rattle.flp_jobs.proofs.maker.Maker.make.Goals as goal

pub returns-clause-words : goal.returns-clause-words
returns-clause-words c =
    let maker = c.args.self.now in
    let by = setting_of c.args.file.now in
    let job = job_of c.args.job.now in
    let unshared : c.deref.result.now ≡ unshared_words by job =
    c.deref.ensures.value ∙ (with_items_is maker.unshared c.write_unshared.new.unshared (c.write_unshared.auto.unshared ∙ c.deref_mut-4.ensures.len) ∙ c.write_unshared.ensures.words) in
    let given : c.deref-2.result.now ≡ given_words by.shape job =
    c.deref-2.ensures.value ∙ (with_items_is maker.given c.load_given.new.given (c.load_given.auto.given ∙ c.deref_mut-5.ensures.len) ∙ c.load_given.ensures) in
    let shares : c.deref-3.result.now ≡ shares_of by.shape.shares (unshared_words by job) (given_words by.shape job) =
    c.deref-3.ensures.value
    ∙ (with_items_is maker.shares c.split.new.out (c.split.auto.out ∙ c.deref_mut-6.ensures.len)
    ∙ (c.split.ensures.shares ∙ ap₂ (λ (x words : List ℕ). shares_of by.shape.shares x words) unshared given)) in
    with_items_is maker.words c.write_words.new.words (c.write_words.auto.words ∙ c.deref_mut-7.ensures.len)
    ∙ (c.write_words.ensures ∙ ap (λ (l : List ℕ). l ++ flat_map (own_words by.shape job) (job_proofs by.shape)) shares)
