-- Facts of a call's answer.
use Rattle.std.proofs.Common.{◌≡◌, ℕ, Ok, Err, ap, sym, subst}
use Rattle.std.specs.Prelude.{Result, IfOk, OnOk}
use Rattle.sheet_ops.specs.declared.edit.EditErr.{EditErr}
use Rattle.sheet_ops.specs.declared.operation.Intent.{Intent}
use Rattle.sheet_ops.specs.declared.operation.Up.{Up}

pub if_ok : {T E : Type 0} {P Q : T → Type 0} (x : Result T E) → ((t : T) → P t → Q t) → IfOk x P → IfOk x Q
if_ok (Ok t) f a = f t a
if_ok (Err e) f a = tt

-- what holds of an operation holds of that in its message
pub of_message : (P : Intent → Type 0) (op : Intent) (seen : ℕ) (x : Result Up EditErr) → IfOk x (λ (up : Up). up ≡ record { seen = seen; intent = op }) → OnOk x (P op) → IfOk x (λ (up : Up). P up.intent)
of_message P op seen (Ok up) is holds = subst P (ap (λ (u : Up). u.intent) (sym is)) holds
of_message P op seen (Err e) is holds = tt
