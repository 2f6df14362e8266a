-- The parts of a record's words: that they are words of the field, and where they stand.
use Rattle.std.proofs.Common.{ℕ, ◌≡◌, ◌+◌, ◌*◌, ◌<◌, ◌≤◌, List, length, take, drop, None, sym, subst, arith}
use Rattle.std.proofs.lemmas.List.Elements.{All-take, All-drop}
use Rattle.std.specs.List.{All}
use Rattle.flp_field.specs.Word.{IsWord}
use Rattle.flp_field.proofs.WordLists.{words-from}
use Rattle.flp_report.specs.declared.shape.Shape.{Shape}
use Rattle.flp_report.specs.Shape.{words_of, words_start}
use Rattle.flp_report.specs.Record.{words_in, own_word}
use Rattle.flp_report.specs.Words.{bad_word_in}
use Rattle.flp_report.proofs.WordsLemmas.{length-words}
use Rattle.flp_worker.proofs.PrefixLemmas.{part-fits}

-- ---- words of the field

-- each word of a part is one, where all were read as words
pub words-part : (all part : List ℕ) (start count : ℕ) → bad_word_in all ≡ None → part ≡ take count (drop start all) → All IsWord part
words-part all part start count none is =
    subst (λ (l : List ℕ). All IsWord l) (sym is)
    (All-take IsWord count (drop start all) (All-drop IsWord start all (words-from 0 all none)))

-- ---- places

pub length-words_in : (shape : Shape) (bytes : List ℕ) → length (words_in shape bytes) ≡ words_of shape
length-words_in shape bytes = length-words (words_of shape) (drop (words_start shape) bytes)

-- the own words of a proof end where all words do, or before
pub own-inside : (shape : Shape) (proof : ℕ) → proof < shape.proofs → own_word shape proof + (shape.joint + shape.query) ≤ words_of shape
own-inside shape proof below =
    let fits : proof * (shape.joint + shape.query) + (shape.joint + shape.query) ≤ shape.proofs * (shape.joint + shape.query) =
    part-fits proof shape.proofs (shape.joint + shape.query) below in
    omega (arith, fits)
