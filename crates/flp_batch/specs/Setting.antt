-- What the records of a batch are judged by.
use Rattle.std.specs.Prelude.{ℕ, ◌≡◌, List, Option}
use Rattle.flp_syntax.specs.declared.syntax.Params.{Params}
use Rattle.flp_syntax.specs.Tree.{Program}
use Rattle.flp_plan.specs.Counted.{counted_lengths}
use Rattle.flp_report.specs.declared.header.Header.{Header}
use Rattle.flp_report.specs.declared.shape.Shape.{Shape}

-- the parameters, where the circuit is a standard one, the circuit, the shape of the records, and the old claims
pub record Setting : Type 0 where
  pub params : Option Params
  pub circuit : Program
  pub shape : Shape
  pub claims : List (List ℕ)

-- the shape of the records behind this header, whose text is this circuit's
pub record IsShapeBehind (header : Header) (circuit : Program) (shape : Shape) : Type 0 where
  pub version : shape.version ≡ header.version
  pub shares : shape.shares ≡ header.shares
  pub proofs : shape.proofs ≡ header.proofs
  pub buckets : shape.buckets ≡ header.buckets
  pub meas : shape.meas ≡ (counted_lengths circuit).meas
  pub joint : shape.joint ≡ (counted_lengths circuit).joint
  pub query : shape.query ≡ (counted_lengths circuit).query
  pub proof : shape.proof ≡ (counted_lengths circuit).proof
  pub outs : shape.outs ≡ (counted_lengths circuit).outs
