-- What the line of an encoding promises.
use Rattle.std.specs.Prelude.{ℕ, ◌≡◌, List, Some}
use Rattle.flp_syntax.specs.declared.syntax.Params.{Params}
use Rattle.flp_syntax.specs.Tree.{Program}
use Rattle.flp_meaning.specs.Circuit.{IsValid}
use Rattle.flp_circuits.specs.Standard.{standard_program}
use Rattle.flp_report.specs.declared.shape.Shape.{Shape}
use Rattle.flp_weak.specs.declared.word.Weak.{Weak}
use Rattle.flp_weak.specs.AtMost.{Bounded}
use Rattle.flp_weak.specs.WeakWord.{weak_of}
use Rattle.flp_weak.specs.Laws.{IsProof, IsLow}
use Rattle.flp_joint.specs.Caught.{caught_in}
use Rattle.flp_joint.specs.Laws.{Means}
use Rattle.flp_explain.specs.Found.{encoding_in}

-- the proof has a weak word, of which at most as many values as its bound are accepted, and the bound is low
pub record HasBound (program : Program) (x joint proof : List ℕ) : Type 0 where
  pub weak : Weak
  pub found : weak_of program x joint proof ≡ Some weak
  pub low : IsLow program weak
  pub few : Bounded program x joint proof weak.word weak.bound

-- what is told of an encoding holds. Of a word with a bound this says that few of its values make the encoding valid, and under
-- joint words with any other value in its place any proof has a bound
pub record IsTold (params : Params) (x : List ℕ) : Type 0 where
  pub means : Means params x (caught_in params x)
  pub others :
      (joint proof : List ℕ) → (IsValid (standard_program params) x joint → ⊥) → IsProof (standard_program params) proof
      → HasBound (standard_program params) x joint proof

-- so it is of the encoding of every record
abbrev pub KeepsTold : Params → Shape → Type 0
KeepsTold params shape = (bytes : List ℕ) → IsTold params (encoding_in shape bytes)
