-- The freezing rule: a move makes none of its changes while one of them isn't allowed.
--
-- What is frozen, by a hold of which another thread is the outermost holder, isn't changed; no pointer that leads to it
-- is changed; and no pointer is changed so that it leads to it. A change counts where a row lists it, also where it
-- writes what was there before.
use Rattle.std.specs.Prelude.{◌≡◌, Bool, true, false, not, ◌&&◌, ◌||◌, List, [], ◌∷◌, ◌++◌, Option, Some, None, if◌then◌else◌}
use Rattle.std.specs.List.{list_any}
use Rattle.fk_model.specs.Places.{Path, same_path, Ptr, leads_to}
use Rattle.fk_model.specs.Objects.{Talk, Fault, Body, holds}
use Rattle.fk_model.specs.Objects.Body.{Port, Thread_of}
use Rattle.fk_model.specs.World.{World, Change, Edit, set_at, serves}
use Rattle.fk_model.specs.World.Change.{Alter, Make, MakeSpace, Kill, Move, PutPage, DropPage}
use Rattle.fk_model.specs.World.Edit.{SetPointer, SetHolder, SetTalk, SetPeer, SetFault, SetTaker}
use Rattle.fk_model.specs.Searches.{pointers, option_list, talk_pointers, fault_pointers, peer_pointer}
use Rattle.fk_model.specs.Holds.{is_frozen_for, leads_to_frozen}

-- ---- the pointers that an edit changes, and those that it makes

-- where an object leads, if one is there
abbrev pub body_pointers : Option Body → List Ptr
body_pointers body = option_list pointers body

-- pointers that come of a thread's talk
abbrev pub of_talk : (Talk → List Ptr) → Body → List Ptr
of_talk f (Thread_of t) = option_list f t.talk
of_talk f other = []

-- pointers that come of a thread's fault
abbrev pub of_fault : (Fault → List Ptr) → Body → List Ptr
of_fault f (Thread_of t) = option_list f t.fault
of_fault f other = []

abbrev pub changed_pointers : Edit → Body → List Ptr
changed_pointers (SetPointer to) b = pointers b
changed_pointers (SetHolder holder) b = pointers b
changed_pointers (SetTalk talk) b = of_talk talk_pointers b
changed_pointers (SetPeer peer) b = of_talk (λ talk. peer_pointer talk.peer) b
changed_pointers (SetFault fault) b = of_fault fault_pointers b
changed_pointers (SetTaker taker) b = of_fault (λ fault. option_list peer_pointer fault.taker) b
changed_pointers other b = []

abbrev pub made_pointers : Edit → List Ptr
made_pointers (SetPointer to) = to ∷ []
made_pointers (SetHolder holder) = option_list (λ p. p ∷ []) holder
made_pointers (SetTalk talk) = option_list talk_pointers talk
made_pointers (SetPeer peer) = peer_pointer peer
made_pointers (SetFault fault) = option_list fault_pointers fault
made_pointers (SetTaker taker) = option_list peer_pointer taker
made_pointers other = []

-- none of these pointers leads to what is frozen for a mover
abbrev pub are_unfrozen : World → Path → List Ptr → Bool
are_unfrozen w me ps = not (list_any (leads_to_frozen w me) ps)

-- ---- what a destroyed or renamed object takes with it

-- the body at q is a port in the set at x
abbrev pub is_in_set : Path → Path → Body → Bool
is_in_set x q (Port set served) = holds (λ k. same_path (set_at q k) x) set
is_in_set x q other = false

-- what stands at q has a pointer to x, or is a port in the set at x
abbrev pub is_swept : Path → Path → Option Body → Bool
is_swept x q None = false
is_swept x q (Some b) = list_any (leads_to x) (pointers b) || is_in_set x q b

abbrev pub talk_lost : Path → Talk → List Ptr
talk_lost x talk = if leads_to x talk.port || serves x talk.peer then talk_pointers talk else []

abbrev pub fault_lost : Path → Fault → List Ptr
fault_lost x fault = if leads_to x fault.port then fault_pointers fault else []

-- the pointers that go with a talk or a fault, where that ends with x
abbrev pub lost_with : Path → Option Body → List Ptr
lost_with x (Some (Thread_of t)) = option_list (talk_lost x) t.talk ++ option_list (fault_lost x) t.fault
lost_with x other = []

-- the body at q may be changed as the death of x changes it
abbrev pub may_be_swept : World → Path → Path → Path → Bool
may_be_swept w me x q = not (is_swept x q (w.body q)) || (not (is_frozen_for w me q) && are_unfrozen w me (lost_with x (w.body q)))

-- and as another place of x does
abbrev pub may_follow : World → Path → Path → Path → Bool
may_follow w me x q = not (is_swept x q (w.body q)) || not (is_frozen_for w me q)

-- ---- the rule

pub record MayAlter (w : World) (me x : Path) (edit : Edit) : Type 0 where
  pub object : is_frozen_for w me x ≡ false
  pub changed : are_unfrozen w me (option_list (changed_pointers edit) (w.body x)) ≡ true
  pub made : are_unfrozen w me (made_pointers edit) ≡ true

pub record MayMake (w : World) (me x : Path) (ps : List Ptr) : Type 0 where
  pub object : is_frozen_for w me x ≡ false
  pub made : are_unfrozen w me ps ≡ true

-- a mover may destroy an object: it isn't frozen for him, nor is anything to which it leads, or which leads to it
pub record MayKill (w : World) (me x : Path) : Type 0 where
  pub object : is_frozen_for w me x ≡ false
  pub changed : are_unfrozen w me (body_pointers (w.body x)) ≡ true
  pub others : (q : Path) → may_be_swept w me x q ≡ true

-- a mover may give an object another slot: it isn't frozen for him, nor is anything that leads to it
pub record MayMove (w : World) (me x : Path) : Type 0 where
  pub object : is_frozen_for w me x ≡ false
  pub others : (q : Path) → may_follow w me x q ≡ true

-- this change is allowed to a mover, in the world before its move
abbrev pub IsAllowed : World → Path → Change → Type 0
IsAllowed w me (Alter x edit) = MayAlter w me x edit
IsAllowed w me (Make x body) = MayMake w me x (pointers body)
IsAllowed w me (MakeSpace x holder) = MayMake w me x (option_list (λ p. p ∷ []) holder)
IsAllowed w me (Kill x) = MayKill w me x
IsAllowed w me (Move x slot) = MayMove w me x
IsAllowed w me (PutPage space page words) = is_frozen_for w me space ≡ false
IsAllowed w me (DropPage space page) = is_frozen_for w me space ≡ false

abbrev pub AreAllowed : World → Path → List Change → Type 0
AreAllowed w me [] = Unit {0}
AreAllowed w me (c ∷ cs) = IsAllowed w me c × AreAllowed w me cs
