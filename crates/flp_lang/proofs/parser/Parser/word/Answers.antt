use Rattle.std.proofs.Common.{◌∙◌, sym}
use Rattle.flp_lang.proofs.Moves.{word_taken}
use Rattle.flp_lang.proofs.parser.Parser.word.Goals as goal

pub returns-then-is_word : goal.returns-then-is_word
returns-then-is_word c = record { taken = word_taken _ _ _ _ _ (sym c.is_word.ensures ∙ c.if-is_word.true) c.skip.ensures }
