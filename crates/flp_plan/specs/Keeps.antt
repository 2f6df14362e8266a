-- What every checked circuit keeps, whatever it is read with.
use Rattle.std.specs.Prelude.{◌≡◌, length, All}
use Rattle.flp_syntax.specs.Tree.{Program}
use Rattle.flp_meaning.specs.Meaning.{Call, Reading}
use Rattle.flp_meaning.specs.Circuit.{circuit_of, calls_of, outs_of}
use Rattle.flp_meaning.specs.Gadgets.{arity_of}

pub record Keeps (circuit : Program) : Type 0 where
  -- each call has as many inputs as its gadget
  pub arity :
      (reading : Reading) → All (λ (call : Call). length call.inputs ≡ arity_of circuit call.gadget) (calls_of circuit reading)
  -- the outs are those of the encoding alone
  pub outs : (reading : Reading) → (circuit_of circuit reading).value.outs ≡ outs_of circuit reading.meas
