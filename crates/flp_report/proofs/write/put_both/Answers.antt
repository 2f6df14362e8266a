use Rattle.std.proofs.Common.{refl}
use Rattle.std.specs.List.{flat_map}
use Rattle.byteorder.specs.Endian.{little_bytes}
use Rattle.flp_io.proofs.WriteLemmas.{WritesTo-after, WritesTo-short}
use Rattle.flp_report.proofs.write.put_both.Goals as goal

pub returns-in-Err : goal.returns-in-Err
returns-in-Err g c = WritesTo-short c.args.first.now (flat_map (little_bytes 4) c.args.numbers.now) c.in-Err.ensures.sink refl refl

pub returns : goal.returns
returns g c = WritesTo-after c.args.first.now (flat_map (little_bytes 4) c.args.numbers.now) c.in-Ok.ensures.sink refl c.put_numbers.ensures
