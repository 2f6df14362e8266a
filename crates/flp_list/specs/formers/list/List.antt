-- How a `List T` holds its elements: in their order, and nothing beside them. By this a type may lead back to itself through a list.
use mathlib.Core.Path.{◌≡◌, refl, sym}
use mathlib.Core.List.{List, []}
use mathlib.Core.Former.{Former, this, list, via, children}
use base.Stored.{code_map}
use denote.RattleType.{RattleType}
use denote.Hole.Carrier.{listed, list-listed}
use denote.Hole.Fix.{over}
use denote.HoleLaws.{Alike}
use denote.HolePlaces.{Recodes, struct_places, laid}
use denote.Model.Placed.{view_places}
use denote.Param.Weighed.{Weighed, w_list}
use Rattle.std.specs.contracts.alloc.Global as heap
use Rattle.std.specs.contracts.impls.GlobalAllocator.TheImpl.{ghosts}
use Rattle.std.specs.declared.alloc.Global.{Global}
use Rattle.std.specs.formers.vec.Vec as vec
use Rattle.flp_list.specs.contracts.list.List as list_row
use Rattle.flp_list.specs.contracts.list.List.TheInside as fields_row
use Rattle.flp_list.specs.declared.list.List.TheInside.{Inside}
use Rattle.flp_list.specs.declared.list.List.TheView.{view, invariant}

-- a list of what the inner former makes
abbrev pub the_former : Former {0} → Former {0}
the_former inner = list inner

-- it weighs as much as its heaviest element
abbrev pub the_weighed : {inner : Former {0}} → Weighed inner → Weighed (the_former inner)
the_weighed weighed = w_list weighed

-- a list can hold no element
pub the_empty : List ⊥
the_empty = []

-- the elements, in their order
abbrev pub the_items : (X : Type 0) → List X → List X
the_items X elements = elements

pub the_items_listed : (X : Type 0) (elements : List X) → listed _ (children (the_former this) X elements) ≡ the_items X elements
the_items_listed X elements = list-listed X elements

-- the struct's one field, a `Vec`
abbrev as_fields : Former {0}
as_fields =
    via (vec.the_former this Global) Inside (λ X inside. inside.items) (λ X items. record { items = items }) (λ X inside. refl) (λ X items. refl)

module _ (R S : RattleType) (h : R.Denot → S.Denot) where
  -- lists of alike elements lie alike in memory
  pub the_places : Alike R S h → Alike (list_row.the_row R) (list_row.the_row S) ((the_former this).map R.Denot S.Denot h)
  the_places alike = view_places as_fields (list this) view (λ X Y k u. refl) (λ X u. refl) R.Denot S.Denot h
      (list_row.the_row R).coded (list_row.the_row S).coded (invariant R.Denot) (invariant S.Denot)
      (λ u p q. refl) (λ u p q. refl) (λ u e. tt) (λ u e. tt) (over (fields_row.the_row R)) (over (fields_row.the_row S))
      (struct_places (fields_row.the_type R) (fields_row.the_type S) (vec.mapped h, tt) _ (λ d. refl) refl
      (laid _ _ _ (vec.the_places heap.the_row ghosts R S h alike), tt))

  -- and have the codes of their elements' codes
  pub the_codes_placed : Recodes R S h → Recodes (list_row.the_row R) (list_row.the_row S) ((the_former this).map R.Denot S.Denot h)
  the_codes_placed same elements = sym (code_map R.coded.code S.coded.code h (λ x. sym (same x)) elements)
