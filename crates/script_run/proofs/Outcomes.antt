-- Facts of a call's answer.
use Rattle.std.proofs.Common.{◌≡◌, Ok, Err, subst, sym}
use Rattle.std.specs.Prelude.{Result, OnOk, OnErr, IfOk, IfErr}

module _ {T E : Type 0} where
  pub on_ok : {A B : Type 0} (x : Result T E) → (A → B) → OnOk x A → OnOk x B
  on_ok (Ok y) f a = f a
  on_ok (Err e) f a = tt

  pub on_err : {A B : Type 0} (x : Result T E) → (A → B) → OnErr x A → OnErr x B
  on_err (Ok y) f a = tt
  on_err (Err e) f a = f a

  pub whenever_err : {A : Type 0} (x : Result T E) → A → OnErr x A
  whenever_err (Ok y) a = tt
  whenever_err (Err e) a = a

  -- a value that is one after an Ok and another after an Err
  pub either_way : {V : Type 0} (P : V → Type 0) (x : Result T E) (v a b : V) → OnOk x (v ≡ a) → OnErr x (v ≡ b) → P a → P b → P v
  either_way P (Ok y) v a b f g p q = subst P (sym f) p
  either_way P (Err e) v a b f g p q = subst P (sym g) q

  pub if_ok : {P Q : T → Type 0} (x : Result T E) → ((t : T) → P t → Q t) → IfOk x P → IfOk x Q
  if_ok (Ok t) f a = f t a
  if_ok (Err e) f a = tt

  pub if_err : {P Q : E → Type 0} (x : Result T E) → ((e : E) → P e → Q e) → IfErr x P → IfErr x Q
  if_err (Ok t) f a = tt
  if_err (Err e) f a = f e a

  -- a fact after each answer
  pub both_ways : {A B C : Type 0} (x : Result T E) → OnOk x A → OnErr x B → (A → C) → (B → C) → C
  both_ways (Ok t) a b f g = f a
  both_ways (Err e) a b f g = g b
