-- What an edit comes to at a client.
use Rattle.std.proofs.Common.{◌≡◌, ℕ, ◌<◌, Bool, true, false, cond, List, refl, ap, sym, ◌∙◌, arith, Ok, Err}
use Rattle.std.specs.Prelude.{nat_lt, Result}
use Rattle.std.proofs.lemmas.Bool.Decides.{nat_tests}
use Rattle.sheet_value.specs.declared.value.Value.{Value}
use Rattle.sheet_ops.specs.declared.edit.Edit.{Edit}
use Rattle.sheet_ops.specs.declared.edit.EditErr.{EditErr}
use Rattle.sheet_ops.specs.declared.edit.EditErr.TheVariants as fault
use Rattle.sheet_ops.specs.declared.operation.Intent.{Intent}
use Rattle.sheet_ops.specs.Fits.{IsWellFormed}
use Rattle.sheet_ops.specs.Identity.{IdSheet}
use Rattle.sheet_ops.specs.Placed.{PlacedSheet, placed}
use Rattle.sheet_ops.specs.Represents.{ClientState}
use Rattle.author_ops.specs.Edits.{Denotes, intended}
use Rattle.sort_keys.specs.Keys.{keys_of, AreKeys}
use Rattle.client_edits.specs.Decided.{unless_spent}
use Rattle.client_edits.specs.Decided.{Decides}

spent : (n : ℕ) (op : Intent) → n ≡ 1000 → unless_spent n (Ok op) ≡ Err fault.Spent
spent n op h = by_test (nat_lt n 1000) (let k : nat_lt n 1000 ≡ false = grind (arith, nat_tests) in k)
  where
    by_test : (b : Bool) → b ≡ false → ◌≡◌ {A = Result Intent EditErr} (cond b (Ok op) (Err fault.Spent)) (Err fault.Spent)
    by_test true k = absurd (cc)
    by_test false k = refl

not_spent : (n : ℕ) (op : Intent) → n < 1000 → unless_spent n (Ok op) ≡ Ok op
not_spent n op h = by_test (nat_lt n 1000) (let k : nat_lt n 1000 ≡ true = grind (arith, nat_tests) in k)
  where
    by_test : (b : Bool) → b ≡ true → ◌≡◌ {A = Result Intent EditErr} (cond b (Ok op) (Err fault.Spent)) (Ok op)
    by_test true k = refl
    by_test false k = absurd (cc)

module _ (c : ClientState) (e : Edit) (keys : List Value) (P : PlacedSheet) (same : P ≡ c.sheet) (serve : AreKeys P e keys) where
  -- what an edit denotes by keys that serve it denotes by its own
  by_own : (r : Result Intent EditErr) → Denotes P e keys r → (X : IdSheet) → IsWellFormed X → placed X ≡ c.sheet → intended X e (keys_of X e) ≡ r
  by_own r d X formed is = sym (serve X formed (is ∙ sym same)) ∙ d X (is ∙ sym same)

  pub decides_ok : (op : Intent) → Denotes P e keys (Ok op) → c.issued < 1000 → Decides c e (Ok op)
  decides_ok op d few X formed is = ap (unless_spent c.issued) (by_own (Ok op) d X formed is) ∙ not_spent c.issued op few

  pub decides_err : (x : EditErr) → Denotes P e keys (Err x) → Decides c e (Err x)
  decides_err x d X formed is = ap (unless_spent c.issued) (by_own (Err x) d X formed is)

  pub decides_spent : (op : Intent) → Denotes P e keys (Ok op) → c.issued ≡ 1000 → Decides c e (Err fault.Spent)
  decides_spent op d all X formed is = ap (unless_spent c.issued) (by_own (Ok op) d X formed is) ∙ spent c.issued op all
