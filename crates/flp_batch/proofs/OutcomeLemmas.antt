-- From what holds anyway, or at one outcome of a call, to what follows there.
use Rattle.std.proofs.Common.{Result, Ok, Err}
use Rattle.std.specs.Prelude.{IfOk, OnOk, OnErr}

-- two facts of a value give a third
pub IfOk-both : {T E : Type 0} (r : Result T E) (P Q R : T → Type 0) → IfOk r P → IfOk r Q → ((x : T) → P x → Q x → R x) → IfOk r R
IfOk-both (Ok x) P Q R p q f = f x p q
IfOk-both (Err e) P Q R p q f = tt

pub OnOk-both : {T E P Q R : Type 0} (r : Result T E) → OnOk r P → OnOk r Q → (P → Q → R) → OnOk r R
OnOk-both (Ok x) p q f = f p q
OnOk-both (Err e) p q f = tt

-- a fact that holds anyway
pub OnErr-always : {T E P : Type 0} (r : Result T E) → P → OnErr r P
OnErr-always (Ok x) p = tt
OnErr-always (Err e) p = p

pub OnOk-always : {T E P : Type 0} (r : Result T E) → P → OnOk r P
OnOk-always (Ok x) p = p
OnOk-always (Err e) p = tt
