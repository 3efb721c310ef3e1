-- Rooms: the spaces of a subtree that is seen alone, in preorder, each with what stands in it. A restorer goes through them.
use Rattle.std.specs.Prelude.{ℕ, List, Option}
use Rattle.fk_model.specs.Places.{Path, Ptr}
use Rattle.fk_model.specs.Objects.{Body}

pub record Item : Type 0 where
  pub slot : ℕ
  pub body : Body

pub record Sheet : Type 0 where
  pub number : ℕ
  pub words : List ℕ

pub record Room : Type 0 where
  pub path : Path
  pub holder : Option Ptr
  pub items : List Item
  pub sheets : List Sheet
