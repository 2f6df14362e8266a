use Rattle.std.proofs.Common.{◌++◌, refl}
use Rattle.flp_io.proofs.WriteLemmas.{WritesTo-after, WritesTo-short}
use Rattle.flp_report.specs.Layout.{word_bytes, bucket_bytes}
use Rattle.flp_report.proofs.write.write_record.Goals as goal

pub returns-in-Err : goal.returns-in-Err
returns-in-Err g c = WritesTo-short c.args.nonce.now (bucket_bytes c.args.bucket ++ word_bytes c.args.words.now) c.in-Err.ensures.sink refl refl

pub returns : goal.returns
returns g c = WritesTo-after c.args.nonce.now (bucket_bytes c.args.bucket ++ word_bytes c.args.words.now) c.in-Ok.ensures.sink refl c.put_behind.ensures
