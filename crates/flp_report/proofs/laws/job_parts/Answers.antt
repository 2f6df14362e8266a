use Rattle.std.proofs.Common.{◌≡◌, ◌+◌, ◌-◌, ◌*◌, ◌≤◌, refl, arith}
use Rattle.flp_report.specs.Job.{job_part_of, job_words_of}
use Rattle.flp_report.specs.JobParts.{seeds_word, seeds_start, job_own_word, job_own_start}
use Rattle.flp_report.proofs.WordPartsLemmas.{words-part, one_fits}
use Rattle.flp_report.proofs.laws.job_parts.Goals as goal

pub returns-clause-input : goal.returns-clause-input
returns-clause-input c = λ s bytes.
    let fits : 0 + s.input ≤ job_words_of s = omega arith in
    words-part s.input 0 (job_words_of s) 16 16 bytes fits refl

pub returns-clause-parts : goal.returns-clause-parts
returns-clause-parts c = λ s bytes.
    let fits : s.input + (s.shares - 1) * job_part_of s ≤ job_words_of s = omega arith in
    words-part ((s.shares - 1) * job_part_of s) s.input (job_words_of s) 16 (16 + 8 * s.input) bytes fits refl

pub returns-clause-seeds : goal.returns-clause-seeds
returns-clause-seeds c = λ s bytes proof below.
    let before = s.input + (s.shares - 1) * job_part_of s in
    let fits : seeds_word s proof + s.prove ≤ job_words_of s = omega (arith, one_fits proof s.proofs s.prove before below) in
    words-part s.prove (seeds_word s proof) (job_words_of s) 16 (seeds_start s proof) bytes fits refl

pub returns-clause-joint : goal.returns-clause-joint
returns-clause-joint c = λ s bytes proof below.
    let before = s.input + (s.shares - 1) * job_part_of s + s.proofs * s.prove in
    let fits : job_own_word s proof + s.joint ≤ job_words_of s = omega (arith, one_fits proof s.proofs (s.joint + s.query) before below) in
    words-part s.joint (job_own_word s proof) (job_words_of s) 16 (job_own_start s proof) bytes fits refl

pub returns-clause-query : goal.returns-clause-query
returns-clause-query c = λ s bytes proof below.
    let before = s.input + (s.shares - 1) * job_part_of s + s.proofs * s.prove in
    let fits : job_own_word s proof + s.joint + s.query ≤ job_words_of s = omega (arith, one_fits proof s.proofs (s.joint + s.query) before below) in
    let place : job_own_start s proof + 8 * s.joint ≡ 16 + 8 * (job_own_word s proof + s.joint) = omega arith in
    words-part s.query (job_own_word s proof + s.joint) (job_words_of s) 16 (job_own_start s proof + 8 * s.joint) bytes fits place
