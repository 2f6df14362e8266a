use Rattle.std.proofs.Common.{◌≡◌, ◌+◌, ◌*◌, ◌≤◌, refl, arith}
use Rattle.flp_report.specs.Shape.{part_words, words_of, words_start}
use Rattle.flp_report.specs.Record.{own_word, own_start}
use Rattle.flp_report.proofs.WordPartsLemmas.{words-part, one_fits}
use Rattle.flp_report.proofs.laws.record_parts.Goals as goal

pub returns-clause-share : goal.returns-clause-share
returns-clause-share c = λ s bytes share below.
    let fits : share * part_words s + part_words s ≤ words_of s = omega (arith, one_fits share s.shares (part_words s) 0 below) in
    words-part (part_words s) (share * part_words s) (words_of s) (words_start s) (words_start s + 8 * (share * part_words s)) bytes fits refl

pub returns-clause-joint : goal.returns-clause-joint
returns-clause-joint c = λ s bytes proof below.
    let fits : own_word s proof + s.joint ≤ words_of s = omega (arith, one_fits proof s.proofs (s.joint + s.query) (s.shares * part_words s) below) in
    words-part s.joint (own_word s proof) (words_of s) (words_start s) (own_start s proof) bytes fits refl

pub returns-clause-query : goal.returns-clause-query
returns-clause-query c = λ s bytes proof below.
    let fits : own_word s proof + s.joint + s.query ≤ words_of s = omega (arith, one_fits proof s.proofs (s.joint + s.query) (s.shares * part_words s) below) in
    let place : own_start s proof + 8 * s.joint ≡ words_start s + 8 * (own_word s proof + s.joint) = omega arith in
    words-part s.query (own_word s proof + s.joint) (words_of s) (words_start s) (own_start s proof + 8 * s.joint) bytes fits place
