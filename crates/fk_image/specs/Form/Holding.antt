-- What each pointer field of an image may hold.
use Rattle.std.specs.Prelude.{◌≡◌, ℕ, ◌+◌, List, Some}
use Rattle.fk_model.specs.declared.names.Kind.{Kind}
use Rattle.fk_model.specs.declared.names.Kind.TheVariants as kinds
use Rattle.fk_image.specs.declared.image.image.Link.{Link}
use Rattle.fk_image.specs.declared.image.image.Link.TheVariants.{Null, Dead, In, Out, Root, Outside}
use Rattle.fk_image.specs.declared.image.image.ObjectRec.{ObjectRec}
use Rattle.fk_image.specs.declared.image.image.SpaceRec.{SpaceRec}
use Rattle.fk_image.specs.Image.Objects.{kind_in}
use Rattle.fk_image.specs.Image.Links.{kind_in_space}
use Rattle.fk_image.specs.Form.Order.{LiesIn, IsWithin}

pub data PointerField : Type 0 where
  -- of the space with a number
  Holder : (number : ℕ) → PointerField
  -- of a mapping, a region and a reference
  MappedRegion : PointerField
  Keeper : PointerField
  Target : PointerField
  -- the port of a talk or of a fault; who serves the talk, or took the fault, at that port
  AtPort : PointerField
  Server : (port : Link) → PointerField

-- an object of this kind stands in a slot of the space with a number
abbrev pub IsThere : List SpaceRec → ℕ → ℕ → Kind → Type 0
IsThere spaces number slot kind = kind_in_space spaces number slot ≡ Some kind

-- what a reference may lead to, besides spaces
pub data IsReferable : Kind → Type 0 where
  AMapping : IsReferable kinds.Mapping
  ARegion : IsReferable kinds.Region
  APort : IsReferable kinds.Port
  AThread : IsReferable kinds.Thread

pub data MayHold (spaces : List SpaceRec) : PointerField → Link → Type 0 where
  -- a holder is none, or a thread outside the space and all beneath it
  HeldByNone : (number : ℕ) → MayHold spaces (Holder number) Null
  HeldBy : (number slot other : ℕ) → IsThere spaces other slot kinds.Thread → (IsWithin spaces number other → ⊥) →
      MayHold spaces (Holder number) (In slot other)
  -- a mapping's region is none, gone, or a region
  NoRegion : MayHold spaces MappedRegion Null
  DeadRegion : MayHold spaces MappedRegion Dead
  RegionThere : (slot other : ℕ) → IsThere spaces other slot kinds.Region → MayHold spaces MappedRegion (In slot other)
  -- a region's keeper is none, gone, a port, or one of the nester
  NoKeeper : MayHold spaces Keeper Null
  DeadKeeper : MayHold spaces Keeper Dead
  KeeperOut : (slot : ℕ) → MayHold spaces Keeper (Out slot)
  KeeperThere : (slot other : ℕ) → IsThere spaces other slot kinds.Port → MayHold spaces Keeper (In slot other)
  -- a talk's or a fault's port is a port, or one of the nester
  PortOut : (slot : ℕ) → MayHold spaces AtPort (Out slot)
  PortThere : (slot other : ℕ) → IsThere spaces other slot kinds.Port → MayHold spaces AtPort (In slot other)
  -- at a port of the nester somebody outside serves; at any other a thread of the port's space
  ServedOutside : (slot : ℕ) → MayHold spaces (Server (Out slot)) Outside
  ServedThere : (port slot other : ℕ) → IsThere spaces other slot kinds.Thread → MayHold spaces (Server (In port other)) (In slot other)
  -- a reference leads nowhere, or its object is gone; it leads to a port of the nester, to the root, to an object or to a space
  ToNothing : MayHold spaces Target Null
  ToDead : MayHold spaces Target Dead
  ToOut : (slot : ℕ) → MayHold spaces Target (Out slot)
  ToRoot : MayHold spaces Target Root
  ToObject : (kind : Kind) (slot other : ℕ) → IsReferable kind → IsThere spaces other slot kind → MayHold spaces Target (In slot other)
  ToSpace : (slot other number : ℕ) → LiesIn spaces other slot number → MayHold spaces Target (In slot other)

-- a port's set is none, or one more than the slot of a port set among the objects of its space
pub data MayBeSet (objects : List ObjectRec) : ℕ → Type 0 where
  NoSet : MayBeSet objects 0
  SetThere : (slot : ℕ) → kind_in objects slot ≡ Some kinds.Portset → MayBeSet objects (slot + 1)
