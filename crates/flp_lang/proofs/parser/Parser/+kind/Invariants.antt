use Rattle.std.proofs.Common.{length}
use Rattle.flp_lang.proofs.parser.Parser.+kind.Given as goal

abbrev pub decreases-kind : goal.decreases-kind
decreases-kind l = length l.self.now.rest.now
