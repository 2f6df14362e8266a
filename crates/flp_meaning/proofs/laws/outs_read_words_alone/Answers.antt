use Rattle.flp_meaning.proofs.Outs as outs
use Rattle.flp_meaning.proofs.laws.outs_read_words_alone.Goals as goal

pub returns : goal.returns
returns c = outs.outs_read_words_alone
