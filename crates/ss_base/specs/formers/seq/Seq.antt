-- How a `Seq` holds its elements, so that a type may hold a `Seq` of itself.
use mathlib.Core.Path.{◌≡◌, refl, sym}
use mathlib.Core.List.{List, []}
use mathlib.Core.Former.{Former, this, list, via, children}
use base.Stored.{code_map}
use denote.RattleType.{RattleType}
use denote.HoleLaws.{Alike}
use denote.HolePlaces.{Recodes, struct_places, laid}
use denote.Hole.Carrier.{listed, list-listed}
use denote.Hole.Fix.{over}
use denote.Param.Weighed.{Weighed, w_list}
use denote.Model.Placed.{view_places}
use Rattle.std.specs.formers.vec.Vec as vec
use Rattle.std.specs.declared.alloc.Global.{Global}
use Rattle.std.specs.contracts.alloc.Global as heap
use Rattle.std.specs.contracts.impls.GlobalAllocator.TheImpl.{ghosts}
use Rattle.ss_base.specs.declared.seq.Seq.TheInside.{Inside}
use Rattle.ss_base.specs.declared.seq.Seq.TheView as seen
use Rattle.ss_base.specs.contracts.seq.Seq as whole
use Rattle.ss_base.specs.contracts.seq.Seq.TheInside as fields

-- contracts see the list of the elements
abbrev pub the_former : Former {0} → Former {0}
the_former element = list element

abbrev pub the_weighed : {element : Former {0}} → Weighed element → Weighed (the_former element)
the_weighed weight = w_list weight

-- there is one with no element
pub the_empty : List ⊥
the_empty = []

-- the elements are the list itself
abbrev pub the_items : (T : Type 0) → List T → List T
the_items T elements = elements

pub the_items_listed : (T : Type 0) (elements : List T) → listed _ (children (the_former this) T elements) ≡ the_items T elements
the_items_listed T elements = list-listed T elements

-- the one field is the vector
abbrev stored : Former {0}
stored = via (vec.the_former this Global) Inside (λ T s. s.items) (λ T v. record { items = v }) (λ T s. refl) (λ T v. refl)

-- at two descriptions that own and lend alike, it owns and lends alike
module _ (R S : RattleType) (h : R.Denot → S.Denot) where
  pub the_places : Alike R S h → Alike (whole.the_row R) (whole.the_row S) ((the_former this).map R.Denot S.Denot h)
  the_places alike =
      let elements = laid _ _ _ (vec.the_places heap.the_row ghosts R S h alike) in
      let placed = struct_places (fields.the_type R) (fields.the_type S) (vec.mapped h, tt) _ (λ d. refl) refl (elements, tt) in
      view_places stored (list this) seen.view (λ X Y k u. refl) (λ X u. refl) R.Denot S.Denot h (whole.the_row R).coded (whole.the_row S).coded
      (seen.invariant R.Denot) (seen.invariant S.Denot) (λ u p q. refl) (λ u p q. refl) (λ u e. tt) (λ u e. tt)
      (over (fields.the_row R)) (over (fields.the_row S)) placed

  pub the_codes_placed : Recodes R S h → Recodes (whole.the_row R) (whole.the_row S) ((the_former this).map R.Denot S.Denot h)
  the_codes_placed same elements = sym (code_map R.coded.code S.coded.code h (λ x. sym (same x)) elements)
