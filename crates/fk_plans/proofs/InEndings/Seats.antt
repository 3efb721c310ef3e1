-- Seats: whose native server an object is a client of, before and after an edit.
use Rattle.std.proofs.Common.{◌≡◌, ℕ, Bool, true, false, List, ◌∷◌, Option, Some, None, option_map, refl, ap}
use Rattle.fk_model.specs.Objects.{Mode, Talk, Thread, Body, and_then}
use Rattle.fk_model.specs.Objects.Mode.{Calling}
use Rattle.fk_model.specs.Objects.Body.{Mutex, Mapping, Region, Port, Space, Thread_of, Reference}
use Rattle.fk_model.specs.Places.{Ptr}
use Rattle.fk_model.specs.World.{Edit, edited, ended_in, finished_in, on_thread, with_extent, with_holder, with_locked, with_member, with_pointer, with_window}
use Rattle.fk_model.specs.World.Edit.{SetLocked, SetWindow, SetExtent, SetMember, SetPointer, SetHolder, Proceed, Shift, Finish, End, Replace}
use Rattle.fk_model.specs.World.Edit.{SetStops, SetTalk, CountMoved, PassTurn, SetPeer, SetFault, SetTaker}
use Rattle.fk_plans.specs.Endings.Clients.{native_in, native_port}

-- it leaves a talk's port and peer
abbrev pub is_quiet_edit : Edit → Bool
is_quiet_edit (SetTalk talk) = false
is_quiet_edit (SetPeer peer) = false
is_quiet_edit other = true

same_talk : (f : Talk → Talk) → ((talk : Talk) → native_port (f talk) ≡ native_port talk) → (o : Option Talk) →
    and_then native_port (option_map f o) ≡ and_then native_port o
same_talk f same None = refl
same_talk f same (Some talk) = same talk

ended-talk : (status : ℕ) (answers : List ℕ) (t : Thread) (m : Mode) → (ended_in status answers t m).talk ≡ t.talk
ended-talk status answers t (Calling todo rest) = refl
ended-talk status answers t m = refl

finished-talk : (answers : List ℕ) (t : Thread) (m : Mode) → (finished_in answers t m).talk ≡ t.talk
finished-talk answers t (Calling (stage ∷ next_stage ∷ todo) rest) = refl
finished-talk answers t m = refl

on_thread-native : (f : Thread → Thread) → ((t : Thread) → and_then native_port (f t).talk ≡ and_then native_port t.talk) →
    (b : Body) → native_in (Some (on_thread f b)) ≡ native_in (Some b)
on_thread-native f same (Thread_of t) = same t
on_thread-native f same b = refl

locked-native : (locked : Bool) (b : Body) → native_in (Some (with_locked locked b)) ≡ native_in (Some b)
locked-native locked (Mutex old) = refl
locked-native locked b = refl

window-native : (first count offset : ℕ) (write : Bool) (b : Body) → native_in (Some (with_window first count offset write b)) ≡ native_in (Some b)
window-native first count offset write (Mapping m) = refl
window-native first count offset write b = refl

extent-native : (first count : ℕ) (write : Bool) (b : Body) → native_in (Some (with_extent first count write b)) ≡ native_in (Some b)
extent-native first count write (Region r) = refl
extent-native first count write b = refl

member-native : (set : Option ℕ) (b : Body) → native_in (Some (with_member set b)) ≡ native_in (Some b)
member-native set (Port old served) = refl
member-native set b = refl

holder-native : (holder : Option Ptr) (b : Body) → native_in (Some (with_holder holder b)) ≡ native_in (Some b)
holder-native holder (Space birth old) = refl
holder-native holder b = refl

pointer-native : (to : Ptr) (b : Body) → native_in (Some (with_pointer to b)) ≡ native_in (Some b)
pointer-native to (Mapping m) = refl
pointer-native to (Region r) = refl
pointer-native to (Reference old) = refl
pointer-native to b = refl

-- a quiet edit leaves it
edited-native : (e : Edit) → is_quiet_edit e ≡ true → (b : Body) → native_in (Some (edited e b)) ≡ native_in (Some b)
unfolding edited
edited-native (SetLocked locked) quiet b = locked-native locked b
edited-native (SetWindow first count offset write) quiet b = window-native first count offset write b
edited-native (SetExtent first count write) quiet b = extent-native first count write b
edited-native (SetMember set) quiet b = member-native set b
edited-native (SetPointer to) quiet b = pointer-native to b
edited-native (SetHolder holder) quiet b = holder-native holder b
edited-native (Proceed mode counter) quiet b = on_thread-native _ (λ t. refl) b
edited-native (Shift count) quiet b = on_thread-native _ (λ t. refl) b
edited-native (Finish answers) quiet b = on_thread-native _ (λ t. ap (and_then native_port) (finished-talk answers t t.mode)) b
edited-native (End status answers) quiet b = on_thread-native _ (λ t. ap (and_then native_port) (ended-talk status answers t t.mode)) b
edited-native (Replace stage) quiet b = on_thread-native _ (λ t. refl) b
edited-native (SetStops stops) quiet b = on_thread-native _ (λ t. refl) b
edited-native (SetTalk talk) quiet b = absurd (cc)
edited-native (CountMoved count) quiet b = on_thread-native _ (λ t. same_talk _ (λ talk. refl) t.talk) b
edited-native (PassTurn turn) quiet b = on_thread-native _ (λ t. same_talk _ (λ talk. refl) t.talk) b
edited-native (SetPeer peer) quiet b = absurd (cc)
edited-native (SetFault fault) quiet b = on_thread-native _ (λ t. refl) b
edited-native (SetTaker taker) quiet b = on_thread-native _ (λ t. refl) b

pub quiet-native : (e : Edit) → is_quiet_edit e ≡ true → (o : Option Body) → native_in (option_map (edited e) o) ≡ native_in o
quiet-native e quiet None = refl
quiet-native e quiet (Some b) = edited-native e quiet b
