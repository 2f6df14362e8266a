use Rattle.std.proofs.Common.{◌≡◌, ◌+◌, ◌-◌, ◌*◌, length}
use Rattle.flp_report.specs.Job.{job_part_of}
use Rattle.flp_report.proofs.PlacesLemmas.{own_fits}
use Rattle.flp_report.proofs.job.Job.own_place.Goals as goal

pub returns-clause-room : goal.returns-clause-room
returns-clause-room c =
    let job = c.args.self.now in
    let s = job.shape in
    let before = s.input + (s.shares - 1) * job_part_of s + s.proofs * s.prove in
    let whole : length job.bytes.now ≡ 16 + 8 * (before + s.proofs * (s.joint + s.query)) = job.whole in
    rw (c.from-5.ensures, c.given.ensures.count, c.part.ensures.words, c.from.ensures, c.from-2.ensures, c.from-6.ensures, c.from-3.ensures, c.from-4.ensures)
    (rw whole (own_fits c.args.proof s.proofs before (s.joint + s.query) c.requires))
