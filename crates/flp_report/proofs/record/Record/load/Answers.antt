use Rattle.std.proofs.Common.{◌≡◌, ◌<◌, ◌≤◌, ◌∙◌, ℕ, List, length, drop, false, true, refl, sym, ap, arith}
use Rattle.std.proofs.lemmas.List.{take_rest, take_more_set}
use Rattle.flp_field.specs.Word.{modulus}
use Rattle.flp_report.specs.Shape.{words_of}
use Rattle.flp_report.specs.Words.{words, bad_word_in}
use Rattle.flp_report.proofs.WordsLemmas.{words_more, bad_from-word, bad_from-bad, bad_from-start}
use Rattle.flp_report.proofs.record.Record.load.Goals as goal

pub returns-in-None-clause-bad : goal.returns-in-None-clause-bad
returns-in-None-clause-bad c =
    let count = words_of c.args.self.now.shape in
    let inside : c.loop-word.word < count = omega (arith, c.requires) in
    let none : c.number_at.result < modulus → ⊥ = λ word. let no : false ≡ true = c.in-None.ensures.below.1 word in cc in
    let above : modulus ≤ c.number_at.result = grind (arith, none) in
    let bad = rw c.number_at.ensures at above in
    sym (bad_from-bad c.loop-word.word count _ inside bad)
    ∙ (sym c.loop-word.invariant.1
    ∙ (bad_from-start count _
    ∙ ap (λ (b : List ℕ). bad_word_in (words count b)) (take_rest c.args.self.now.bytes.now c.start.result ∙ ap (λ (n : ℕ). drop n c.args.self.now.bytes.now) c.start.ensures.start)))

pub loop-word-preserved : goal.loop-word-preserved
loop-word-preserved c =
    let count = words_of c.args.self.now.shape in
    let below : c.loop-word.word < length c.loop-word.out = omega arith in
    let inside : c.loop-word.word < count = omega (arith, c.requires) in
    let same : c.in-Some.value ≡ c.number_at.result = c.in-Some.ensures.same in
    let word = rw c.number_at.ensures at (c.in-Some.ensures.below.0 refl) in (
      take_more_set c.loop-word.out c.loop-word.word c.in-Some.value below
          ∙ rw (c.loop-word.invariant.0, same, c.number_at.ensures) (sym (words_more c.loop-word.word _)),
      c.loop-word.invariant.1 ∙ bad_from-word c.loop-word.word count _ inside word,
    )
