-- Where nobody holds a space, the freezing rule allows every change.
use Rattle.std.proofs.lemmas.Bool.{false≢true}
use Rattle.std.proofs.Common.{◌≡◌, ℕ, Bool, true, false, not, ◌&&◌, ◌||◌, List, [], ◌∷◌, refl}
use Rattle.std.specs.Prelude.{Option, Some, None, option_map, is_none, if◌then◌else◌}
use Rattle.std.specs.List.{list_all, list_any}
use Rattle.fk_model.specs.Places.{Path, Ptr, same_path, parent}
use Rattle.fk_model.specs.Places.Ptr.{At}
use Rattle.fk_model.specs.Objects.{Thread, Body, and_then}
use Rattle.fk_model.specs.Objects.Body.{Mutex, Mapping, Region, Port, Space, Thread_of, Reference}
use Rattle.fk_model.specs.World.{World, Change, Edit, Sweep, edited, apply, apply_all, on_thread, through, death_sweep, following, with_locked, with_window}
use Rattle.fk_model.specs.World.{with_extent, with_member, with_pointer}
use Rattle.fk_model.specs.World.Change.{Alter, Make, MakeSpace, Kill, Move, PutPage, DropPage}
use Rattle.fk_model.specs.World.Edit.{SetLocked, SetWindow, SetExtent, SetMember, SetPointer, SetHolder, Proceed, Shift, Finish, End, Replace, SetStops}
use Rattle.fk_model.specs.World.Edit.{SetTalk, CountMoved, PassTurn, SetPeer, SetFault, SetTaker}
use Rattle.fk_model.specs.Holds.{holder_of, decider, is_frozen_for, leads_to_frozen}
use Rattle.fk_model.specs.Outcomes.{Outcome}
use Rattle.fk_model.specs.Outcomes.Outcome.{Refused, Waits, Goes}
use Rattle.fk_model.specs.Searches.{pointers, option_list}
use Rattle.fk_model.specs.Freezing.{changed_pointers, made_pointers, body_pointers, are_unfrozen, may_be_swept, may_follow, is_swept, lost_with, IsAllowed}
use Rattle.fk_model.specs.Freezing.{AreAllowed}
use Rattle.fk_model.specs.Moves.{outcome, step, stepped, GoesAllowed}
use Rattle.fk_model.specs.Runs.{Event, after, IsLegal}
use Rattle.examples_moves.specs.Worked.{body_in}
use Rattle.examples_moves.proofs.Tested.{and_left, and_right}

-- nobody holds a space
abbrev pub IsUnheld : World → Type 0
IsUnheld w = (x : Path) → holder_of (w.body x) ≡ None

-- ---- nothing is frozen there, and every change is allowed

decider-unheld : (w : World) → IsUnheld w → (x : Path) → decider w x ≡ None
unfolding decider
decider-unheld w free [] = free []
decider-unheld w free (k ∷ x) = rw (decider-unheld w free x) (free (k ∷ x))

not_frozen : (w : World) (me : Path) → IsUnheld w → (x : Path) → is_frozen_for w me x ≡ false
not_frozen w me free x = rw (decider-unheld w free x) refl

pointer_unfrozen : (w : World) (me : Path) → IsUnheld w → (p : Ptr) → leads_to_frozen w me p ≡ false
pointer_unfrozen w me free (At x) = not_frozen w me free x
pointer_unfrozen w me free other = refl

none_frozen : (w : World) (me : Path) → IsUnheld w → (ps : List Ptr) → list_any (leads_to_frozen w me) ps ≡ false
none_frozen w me free [] = refl
none_frozen w me free (p ∷ ps) = rw (pointer_unfrozen w me free p) (none_frozen w me free ps)

all_unfrozen : (w : World) (me : Path) → IsUnheld w → (ps : List Ptr) → are_unfrozen w me ps ≡ true
all_unfrozen w me free ps = rw (none_frozen w me free ps) refl

or_true : (b : Bool) → (b || true) ≡ true
or_true true = refl
or_true false = refl

sweeps : (w : World) (me x : Path) → IsUnheld w → (q : Path) → may_be_swept w me x q ≡ true
sweeps w me x free q = rw (not_frozen w me free q) (rw (all_unfrozen w me free (lost_with x (w.body q))) (or_true (not (is_swept x q (w.body q)))))

follows : (w : World) (me x : Path) → IsUnheld w → (q : Path) → may_follow w me x q ≡ true
follows w me x free q = rw (not_frozen w me free q) (or_true (not (is_swept x q (w.body q))))

change-allowed : (w : World) (me : Path) → IsUnheld w → (c : Change) → IsAllowed w me c
change-allowed w me free (Alter x edit) = record {
  object = not_frozen w me free x;
  changed = all_unfrozen w me free (option_list (changed_pointers edit) (w.body x));
  made = all_unfrozen w me free (made_pointers edit);
}
change-allowed w me free (Make x body) = record { object = not_frozen w me free x; made = all_unfrozen w me free (pointers body) }
change-allowed w me free (MakeSpace x holder) =
    record { object = not_frozen w me free x; made = all_unfrozen w me free (option_list (λ (p : Ptr). p ∷ []) holder) }
change-allowed w me free (Kill x) =
    record { object = not_frozen w me free x; changed = all_unfrozen w me free (body_pointers (w.body x)); others = sweeps w me x free }
change-allowed w me free (Move x slot) = record { object = not_frozen w me free x; others = follows w me x free }
change-allowed w me free (PutPage space page words) = not_frozen w me free space
change-allowed w me free (DropPage space page) = not_frozen w me free space

all-allowed : (w : World) (me : Path) → IsUnheld w → (cs : List Change) → AreAllowed w me cs
all-allowed w me free [] = tt
all-allowed w me free (c ∷ cs) = (change-allowed w me free c, all-allowed w me free cs)

-- ---- changes that make no holder leave all spaces unheld

-- the change makes no object and no holder
abbrev pub is_calm : Change → Bool
is_calm (Alter x (SetHolder holder)) = false
is_calm (Alter x edit) = true
is_calm (Make x body) = false
is_calm (MakeSpace x holder) = false
is_calm (Kill x) = true
is_calm (Move x slot) = true
is_calm (PutPage space page words) = true
is_calm (DropPage space page) = true

thread-holder : (f : Thread → Thread) (b : Body) → holder_of (Some (on_thread f b)) ≡ holder_of (Some b)
thread-holder f (Thread_of t) = refl
thread-holder f other = refl

locked-holder : (locked : Bool) (b : Body) → holder_of (Some (with_locked locked b)) ≡ holder_of (Some b)
locked-holder locked (Mutex old) = refl
locked-holder locked other = refl

window-holder : (first count offset : ℕ) (write : Bool) (b : Body) → holder_of (Some (with_window first count offset write b)) ≡ holder_of (Some b)
window-holder first count offset write (Mapping m) = refl
window-holder first count offset write other = refl

extent-holder : (first count : ℕ) (write : Bool) (b : Body) → holder_of (Some (with_extent first count write b)) ≡ holder_of (Some b)
extent-holder first count write (Region r) = refl
extent-holder first count write other = refl

member-holder : (set : Option ℕ) (b : Body) → holder_of (Some (with_member set b)) ≡ holder_of (Some b)
member-holder set (Port old served) = refl
member-holder set other = refl

pointer-holder : (to : Ptr) (b : Body) → holder_of (Some (with_pointer to b)) ≡ holder_of (Some b)
pointer-holder to (Mapping m) = refl
pointer-holder to (Region r) = refl
pointer-holder to (Reference old) = refl
pointer-holder to other = refl

edited-holder : (x : Path) (edit : Edit) → is_calm (Alter x edit) ≡ true → (b : Body) → holder_of (Some (edited edit b)) ≡ holder_of (Some b)
unfolding edited
edited-holder x (SetLocked locked) calm b = locked-holder locked b
edited-holder x (SetWindow first count offset write) calm b = window-holder first count offset write b
edited-holder x (SetExtent first count write) calm b = extent-holder first count write b
edited-holder x (SetMember set) calm b = member-holder set b
edited-holder x (SetPointer to) calm b = pointer-holder to b
edited-holder x (SetHolder holder) calm b = cc
edited-holder x (Proceed mode counter) calm b = thread-holder _ b
edited-holder x (Shift count) calm b = thread-holder _ b
edited-holder x (Finish answers) calm b = thread-holder _ b
edited-holder x (End status answers) calm b = thread-holder _ b
edited-holder x (Replace stage) calm b = thread-holder _ b
edited-holder x (SetStops stops) calm b = thread-holder _ b
edited-holder x (SetTalk talk) calm b = thread-holder _ b
edited-holder x (CountMoved count) calm b = thread-holder _ b
edited-holder x (PassTurn turn) calm b = thread-holder _ b
edited-holder x (SetPeer peer) calm b = thread-holder _ b
edited-holder x (SetFault fault) calm b = thread-holder _ b
edited-holder x (SetTaker taker) calm b = thread-holder _ b

edited-unheld : (x : Path) (edit : Edit) →
    is_calm (Alter x edit) ≡ true → (b : Option Body) → holder_of b ≡ None → holder_of (option_map (edited edit) b) ≡ None
edited-unheld x edit calm None free = refl
edited-unheld x edit calm (Some b) free = rw (edited-holder x edit calm b) free

no_holder : (f : Sweep) (holder : Option Ptr) → holder ≡ None → and_then f.holder holder ≡ None
no_holder f holder free = rw free refl

swept-unheld : (f : Sweep) (at : Path) (b : Option Body) → holder_of b ≡ None → holder_of (option_map (through f at) b) ≡ None
swept-unheld f at None free = refl
swept-unheld f at (Some (Space birth holder)) free = no_holder f holder free
swept-unheld f at (Some other) free = refl

either-unheld : (here : Bool) (a b : Option Body) → holder_of a ≡ None → holder_of b ≡ None → holder_of (if here then a else b) ≡ None
either-unheld true a b p q = p
either-unheld false a b p q = q

change-unheld : (c : Change) → is_calm c ≡ true → (w : World) → IsUnheld w → IsUnheld (apply c w)
unfolding apply
change-unheld (Alter x edit) calm w free q =
    either-unheld (same_path q x) (option_map (edited edit) (w.body q)) (w.body q) (edited-unheld x edit calm (w.body q) (free q)) (free q)
change-unheld (Make x body) calm w free q = cc
change-unheld (MakeSpace x holder) calm w free q = cc
change-unheld (Kill x) calm w free q =
    either-unheld (same_path q x) None (option_map (through (death_sweep x) q) (w.body q)) refl (swept-unheld (death_sweep x) q (w.body q) (free q))
change-unheld (Move x slot) calm w free q =
    either-unheld (same_path q (slot ∷ parent x)) (option_map (through (following x (slot ∷ parent x)) (slot ∷ parent x)) (w.body x))
    (if same_path q x then None else option_map (through (following x (slot ∷ parent x)) q) (w.body q))
    (swept-unheld (following x (slot ∷ parent x)) (slot ∷ parent x) (w.body x) (free x))
    (either-unheld (same_path q x)
    None (option_map (through (following x (slot ∷ parent x)) q) (w.body q)) refl (swept-unheld (following x (slot ∷ parent x)) q (w.body q) (free q)))
change-unheld (PutPage space page words) calm w free q = free q
change-unheld (DropPage space page) calm w free q = free q

changes-unheld : (cs : List Change) → list_all is_calm cs ≡ true → (w : World) → IsUnheld w → IsUnheld (apply_all cs w)
unfolding apply_all
changes-unheld [] calm w free = free
changes-unheld (c ∷ cs) calm w free = changes-unheld cs (and_right _ _ calm) (apply c w) (change-unheld c (and_left _ _ calm) w free)

-- ---- so a list of moves is legal where each goes and makes no holder

abbrev pub goes_calmly : Outcome → Bool
goes_calmly (Goes changes said) = list_all is_calm changes
goes_calmly (Refused status) = false
goes_calmly Waits = false

outcome-allowed : (w : World) (me : Path) → IsUnheld w → (o : Outcome) → goes_calmly o ≡ true → GoesAllowed w me o
outcome-allowed w me free (Goes changes said) calm = all-allowed w me free changes
outcome-allowed w me free (Refused status) calm = absurd (false≢true calm)
outcome-allowed w me free Waits calm = absurd (false≢true calm)

outcome-unheld : (w : World) → IsUnheld w → (o : Outcome) → goes_calmly o ≡ true → IsUnheld (stepped w o).world
outcome-unheld w free (Goes changes said) calm = changes-unheld changes calm w free
outcome-unheld w free (Refused status) calm = free
outcome-unheld w free Waits calm = free

abbrev pub goes_calmly_to : World → Event → Bool
goes_calmly_to w e = goes_calmly (outcome w e.mover e.pick e.ask)

abbrev pub all_go_calmly : World → List Event → Bool
all_go_calmly w [] = true
all_go_calmly w (e ∷ es) = goes_calmly_to w e && all_go_calmly (after w e) es

after-unheld : (w : World) (e : Event) → IsUnheld w → goes_calmly_to w e ≡ true → IsUnheld (after w e)
unfolding step
after-unheld w e free calm = outcome-unheld w free (outcome w e.mover e.pick e.ask) calm

pub legal-unheld : (w : World) (es : List Event) → IsUnheld w → all_go_calmly w es ≡ true → IsLegal w es
legal-unheld w [] free calm = tt
legal-unheld w (e ∷ es) free calm = (
  outcome-allowed w e.mover free (outcome w e.mover e.pick e.ask) (and_left _ _ calm),
  legal-unheld (after w e) es (after-unheld w e free (and_left _ _ calm)) (and_right _ _ calm),
)

-- ---- a world by lists in which no space of the list is held

abbrev pub is_unheld_entry : Path × Body → Bool
is_unheld_entry e = is_none (holder_of (Some e.1))

none_is : (a : Option Ptr) → is_none a ≡ true → a ≡ None
none_is None h = refl
none_is (Some p) h = absurd (false≢true h)

pub list-unheld : (es : List (Path × Body)) → list_all is_unheld_entry es ≡ true → (x : Path) → holder_of (body_in es x) ≡ None
unfolding body_in
list-unheld [] free x = refl
list-unheld (e ∷ es) free x =
    either-unheld (same_path e.0 x) (Some e.1) (body_in es x) (none_is (holder_of (Some e.1)) (and_left _ _ free)) (list-unheld es (and_right _ _ free) x)
