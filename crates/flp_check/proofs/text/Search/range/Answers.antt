use Rattle.flp_check.proofs.Finding.{finds_more}
use Rattle.flp_check.proofs.text.Search.range.Goals as goal

pub returns : goal.returns
returns c = finds_more c.note_taken.ensures (finds_more c.index.ensures c.index-2.ensures)
