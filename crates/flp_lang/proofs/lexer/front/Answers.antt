use Rattle.flp_lang.proofs.Readings.{piece_sized}
use Rattle.flp_lang.proofs.lexer.front.Goals as goal

pub returns-clause-sized : goal.returns-clause-sized
returns-clause-sized c = piece_sized _ _ c.piece.ensures
