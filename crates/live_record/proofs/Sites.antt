-- The notes of all sites hold where those of each one do.
use Rattle.std.proofs.Common.{◌≡◌, ℕ, zero, suc, ◌+◌, List, [], ◌∷◌, length, refl, subst, arith, Some}
use Rattle.std.specs.Prelude.{slice_get}
use Rattle.ss_base.specs.declared.types.Size.{Size}
use Rattle.sheet_ops.specs.declared.operation.Entry.{Entry}
use Rattle.live_script.specs.declared.script.SiteScript.{SiteScript}
use Rattle.live_record.specs.declared.note.Note.{Note}
use Rattle.live_record.specs.Records.{SiteHolds, SitesHold}

module _ (size : Size) (H : List Entry) where
  hold_from : (first : ℕ) (sites : List SiteScript) (notes : List (List Note)) (logs : List (List ℕ)) → length notes ≡ length sites → length logs ≡ length sites →
      ((k : ℕ) (s : SiteScript) (ns : List Note) (log : List ℕ) → slice_get sites k ≡ Some s → slice_get notes k ≡ Some ns → slice_get logs k ≡ Some log → SiteHolds size H (first + k) s ns log) →
      SitesHold size H first sites notes logs
  hold_from first [] [] [] a b each = tt
  hold_from first [] [] (log ∷ logs) a b each = absurd (omega arith)
  hold_from first [] (ns ∷ notes) logs a b each = absurd (omega arith)
  hold_from first (s ∷ sites) [] logs a b each = absurd (omega arith)
  hold_from first (s ∷ sites) (ns ∷ notes) [] a b each = absurd (omega arith)
  hold_from first (s ∷ sites) (ns ∷ notes) (log ∷ logs) a b each = (
    subst (λ n. SiteHolds size H n s ns log) (let z : first + 0 ≡ first = omega arith in z) (each 0 s ns log refl refl refl),
    hold_from (suc first) sites notes logs (omega arith) (omega arith)
        (λ k t ms text e f g. subst (λ n. SiteHolds size H n t ms text) (let z : first + suc k ≡ suc first + k = omega arith in z) (each (suc k) t ms text e f g)),
  )

  pub sites_hold : (sites : List SiteScript) (notes : List (List Note)) (logs : List (List ℕ)) → length notes ≡ length sites → length logs ≡ length sites →
      ((k : ℕ) (s : SiteScript) (ns : List Note) (log : List ℕ) → slice_get sites k ≡ Some s → slice_get notes k ≡ Some ns → slice_get logs k ≡ Some log → SiteHolds size H (suc k) s ns log) →
      SitesHold size H 1 sites notes logs
  sites_hold sites notes logs a b each =
      hold_from 1 sites notes logs a b (λ k s ns log e f g. subst (λ n. SiteHolds size H n s ns log) (let z : suc k ≡ 1 + k = omega arith in z) (each k s ns log e f g))
