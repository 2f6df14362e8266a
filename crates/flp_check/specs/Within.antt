-- The limits that a circuit which passed keeps, in what it declares and in what was counted of it.
use Rattle.std.specs.Prelude.{◌≡◌, ℕ, ◌≤◌, length}
use Rattle.std.specs.List.{All}
use Rattle.flp_gadget.specs.GadgetLaws.{IsWithinLimits}
use Rattle.flp_syntax.specs.Tree.{Declaration, Program}
use Rattle.flp_syntax.specs.Scope.{declared_arity, declared_degree}
use Rattle.flp_check.specs.Verdict.{Totals}

-- a declared gadget is within the limits of gadgets
abbrev pub DeclarationIsWithin : Declaration → Type 0
DeclarationIsWithin decl = IsWithinLimits (declared_arity decl.kind) (declared_degree decl.kind)

-- a gadget is called 1 to 4,095 times
abbrev pub CallsAreWithin : ℕ → Type 0
CallsAreWithin calls = (1 ≤ calls) × (calls ≤ 4095)

pub record IsWithin (body : Program) (totals : Totals) : Type 0 where
  pub some_meas : 1 ≤ body.meas
  pub meas : body.meas ≤ 65536
  pub joint : body.joint ≤ 65536
  pub gadgets : length body.gadgets ≤ 8
  pub kinds : All DeclarationIsWithin body.gadgets
  pub one_each : length totals.calls ≡ length body.gadgets
  pub calls : All CallsAreWithin totals.calls
  pub some_check : 1 ≤ totals.checks
  pub checks : totals.checks ≤ 65536
  pub some_out : 1 ≤ totals.outs
  pub outs : totals.outs ≤ 65536
