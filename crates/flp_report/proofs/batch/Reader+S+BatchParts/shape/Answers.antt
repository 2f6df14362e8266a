use Rattle.std.proofs.Common.{◌≤◌, arith}
use Rattle.std.proofs.Math.Nat.{mul-le-mul_right}
use Rattle.flp_report.specs.Shape.{bytes_of}
use Rattle.flp_report.proofs.batch.Reader+S+BatchParts.shape.Goals as goal

pub returns-clause-shaped : goal.returns-clause-shaped
returns-clause-shaped g c =
    let left : c.args.self.now.left ≤ 4294967295 = omega arith in
    let small : bytes_of c.args.shape ≤ 16777216 = omega (arith, c.bytes-record.ensures) in
    let many = mul-le-mul_right (bytes_of c.args.shape) left in
    record { small_record = small; few_claims = omega arith; small_file = omega (arith, many, small) }
