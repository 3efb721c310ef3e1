-- Places: paths of objects, and pointers to them.
--
-- A path is the list of the slots on the way to an object. It is written from the inside out: the object's own slot
-- first, then the path of the space in which it lies. The root's path is []. So slot k of space s is `k ∷ s`, and what
-- lies at q beneath an object r is `q ++ r`. Texts show paths the other way round.
use Rattle.std.specs.Prelude.{ℕ, Bool, true, false, ◌&&◌, ◌==◌, is_some, List, [], ◌∷◌, Option, Some, None, option_map, if◌then◌else◌}

-- a place: the slots on the way to it, its own first and one of the root's last; the root has none
abbrev pub Path : Type 0
Path = List ℕ

-- two paths are the same
unfoldable pub same_path : Path → Path → Bool
same_path [] [] = true
same_path [] (k ∷ y) = false
same_path (k ∷ x) [] = false
same_path (k ∷ x) (j ∷ y) = k == j && same_path x y

-- the path from `root` down to x, where x is `root` or lies beneath it
unfoldable pub strip : Path → Path → Option Path
strip root [] = if same_path [] root then Some [] else None
strip root (k ∷ x) = if same_path (k ∷ x) root then Some [] else option_map (λ q. k ∷ q) (strip root x)

-- x is `root` or lies beneath it
abbrev pub is_within : Path → Path → Bool
is_within root x = is_some (strip root x)

-- the space in which an object lies
abbrev pub parent : Path → Path
parent [] = []
parent (k ∷ x) = x

-- its slot there
abbrev pub slot_of : Path → ℕ
slot_of [] = 0
slot_of (k ∷ x) = k

-- a pointer of an object. The last three stand only in a subtree that is seen alone
pub data Ptr : Type 0 where
  -- it has never led anywhere, or was cleared
  Null : Ptr
  -- what it led to was destroyed
  Dead : Ptr
  At : (path : Path) → Ptr
  -- a port in this slot of the subtree's nester
  Out : (slot : ℕ) → Ptr
  -- a peer outside the subtree
  Outside : Ptr
  -- anything else outside the subtree
  Far : Ptr

-- a pointer leads to the object at this path
abbrev pub leads_to : Path → Ptr → Bool
leads_to x (At y) = same_path y x
leads_to x other = false
