-- The laws of a file that begins with a head and a circuit's text, from those of any circuit and shape.
use Rattle.std.proofs.Common.{ℕ, ◌≤◌, List, Option, None, Some, sym, subst}
use Rattle.std.specs.Prelude.{IfSome}
use Rattle.flp_syntax.specs.declared.syntax.Params.{Params}
use Rattle.flp_syntax.specs.Tree.{Program}
use Rattle.flp_load.specs.Loaded.{IsLoaded}
use Rattle.flp_report.specs.declared.shape.Shape.{Shape}
use Rattle.flp_report.specs.Head.{number_at}
use Rattle.flp_report.specs.Batch.{header_of}
use Rattle.flp_worker.specs.Worker.{IsShapeOf}
use Rattle.flp_batch.specs.Setting.{IsShapeBehind}

-- the shape of the records is one of the circuit
pub shape-of : (bytes : List ℕ) (circuit : Program) (shape : Shape) → IsShapeBehind (header_of bytes) circuit shape
    → (2 ≤ number_at 12 bytes) × (number_at 12 bytes ≤ 16) × (1 ≤ number_at 16 bytes) × (number_at 16 bytes ≤ 16)
    → IsShapeOf circuit shape
shape-of bytes circuit shape fits few = record {
  some_shares = subst (λ (n : ℕ). 2 ≤ n) (sym fits.shares) few.0;
  few_shares = subst (λ (n : ℕ). n ≤ 16) (sym fits.shares) few.1;
  some_proofs = subst (λ (n : ℕ). 1 ≤ n) (sym fits.proofs) few.2;
  few_proofs = subst (λ (n : ℕ). n ≤ 16) (sym fits.proofs) few.3;
  meas = fits.meas;
  joint = fits.joint;
  query = fits.query;
  proof = fits.proof;
}

-- a law of standard circuits, where the text names one
pub if-standard : (P : Params → Type 0) (text : List ℕ) (params : Option Params) (program : Program) → IsLoaded text params program
    → ((params : Params) → IsLoaded text (Some params) program → P params) → IfSome params P
if-standard P text None program loaded law = tt
if-standard P text (Some params) program loaded law = law params loaded
