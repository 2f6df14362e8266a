-- The words of a file that is no batch, or no job file.
use Rattle.std.specs.Prelude.{ℕ, List, codes}
use Rattle.flp_report.specs.declared.fault.BatchFault.{BatchFault}
use Rattle.flp_report.specs.declared.fault.BatchFault.TheVariants as batch
use Rattle.flp_lines.specs.Pieces.{numbered, paired}

-- the words of each fault
abbrev pub batch_text : BatchFault → List ℕ
batch_text batch.Magic = codes "magic"
batch_text (batch.Version version) = numbered (codes "version ") version
batch_text (batch.Shares shares) = numbered (codes "shares ") shares
batch_text (batch.Proofs proofs) = numbered (codes "proofs ") proofs
batch_text (batch.TextLength length) = numbered (codes "text length ") length
batch_text (batch.ClaimsOrder claim) = numbered (codes "claims order ") claim
batch_text (batch.TooLarge size) = numbered (codes "too large ") size
batch_text (batch.Truncated have need) = paired (codes "truncated ") have need
batch_text batch.Trailing = codes "trailing"
batch_text (batch.Word place word) = paired (codes "word ") place word
batch_text (batch.Party shares) = numbered (codes "party ") shares
batch_text (batch.Buckets buckets) = numbered (codes "buckets ") buckets
batch_text (batch.Width width) = numbered (codes "width ") width
batch_text (batch.Bucket place bucket) = paired (codes "bucket ") place bucket
