use Rattle.std.proofs.Common.{◌≡◌, ◌∙◌}
use Rattle.std.proofs.lemmas.List.{with_items_is}
use Rattle.std.proofs.lemmas.Result.{on_ok_weaker}
use Rattle.flp_hide.specs.Wires.{reseeded}
use Rattle.flp_report.specs.JobParts.{job_of}
use Rattle.flp_jobs.specs.Encoding.{job_joint, job_query, job_seeds, job_encoding}
use Rattle.flp_jobs.specs.Reading.{setting_of}
use Rattle.flp_reseed.proofs.room.Room.reseed.Goals as goal

pub returns-clause-matched : goal.returns-clause-matched
returns-clause-matched c =
    let room = c.args.self.now in
    let by = setting_of c.args.file.now in
    let first = job_of c.args.first.now in
    let job = job_of c.args.job.now in
    let from : c.deref.result.now ≡ job_encoding by first = c.deref.ensures.value ∙ c.requires.both.has.from in
    let to : c.deref-2.result.now ≡ job_encoding by job = c.deref-2.ensures.value ∙ c.requires.both.to in
    let joint : c.deref-3.result.now ≡ job_joint by.shape first c.args.proof =
    c.deref-3.ensures.value ∙ (with_items_is room.joint c.load_joint.new.joint (c.load_joint.auto.joint ∙ c.deref_mut.ensures.len) ∙ c.load_joint.ensures) in
    let query : c.deref-4.result.now ≡ job_query by.shape first c.args.proof =
    c.deref-4.ensures.value ∙ (with_items_is room.query c.load_query.new.query (c.load_query.auto.query ∙ c.deref_mut-2.ensures.len) ∙ c.load_query.ensures) in
    let seeds : c.deref-5.result.now ≡ job_seeds by.shape first c.args.proof =
    c.deref-5.ensures.value ∙ (with_items_is room.seeds c.load_seeds.new.seeds (c.load_seeds.auto.seeds ∙ c.deref_mut-3.ensures.len) ∙ c.load_seeds.ensures) in
    on_ok_weaker c.reseed.result
    (λ made.
    with_items_is room.matched c.reseed.new.out (c.reseed.auto.out ∙ c.deref_mut-4.ensures.len)
    ∙ (made ∙ (λ i. reseeded by.circuit (from i) (to i) (joint i) (query i) (seeds i))))
    c.reseed.ensures.seeds
