-- Who is a porter, and what is a served port, was so before the move; and a space with a porter stays.
use Rattle.std.proofs.Common.{◌≡◌, ℕ, Bool, true, false, if◌then◌else◌, nat_le, List, [], ◌∷◌, Option, Some, None, option_map, refl, sym, ap, ◌∙◌}
use Rattle.fk_model.specs.declared.limits.TheConstants.{LAST_USER_SLOT, LAST_PORTER_SLOT}
use Rattle.fk_model.specs.declared.names.Kind.TheVariants as kinds
use Rattle.fk_model.specs.declared.stage.Stage.{Stage}
use Rattle.fk_model.specs.Places.{Path, same_path, parent, Ptr}
use Rattle.fk_model.specs.Objects.{Thread, Body, Mode, kind_of, holds, is_served}
use Rattle.fk_model.specs.Objects.Mode.{Running, Calling, Halted, Native}
use Rattle.fk_model.specs.Objects.Body.{Mutex, Cond, Mapping, Region, Port, Portset, Space, Thread_of, Reference}
use Rattle.fk_model.specs.World.{World, Change, Edit, Sweep, edited, through, death_sweep, following, apply, apply_all, shifted_in, replaced_in, ended_in}
use Rattle.fk_model.specs.World.{finished_in}
use Rattle.fk_model.specs.World.Change.{Alter, Make, MakeSpace, Kill, Move, PutPage, DropPage}
use Rattle.fk_model.specs.World.Edit.{SetLocked, SetWindow, SetExtent, SetMember, SetPointer, SetHolder, Proceed, Shift, Finish, End, Replace, SetStops}
use Rattle.fk_model.specs.World.Edit.{SetTalk, CountMoved, PassTurn, SetPeer, SetFault, SetTaker}
use Rattle.fk_model.specs.Holds.{is_porter}
use Rattle.fk_model.specs.StateRows.{is_native}
use Rattle.fk_model.specs.Outcomes.{Outcome}
use Rattle.fk_model.specs.Outcomes.Outcome.{Refused, Waits, Goes}
use Rattle.fk_model.specs.Moves.{stepped, outcome, step}
use Rattle.fk_model.proofs.walks.PlaceLaws.{same_path_eq}
use Rattle.laws_moves.proofs.InMachine.validity.Outlines.{Outline}
use Rattle.laws_moves.proofs.InMachine.validity.Edits.{outline-edited}
use Rattle.laws_subtrees.specs.Uncut.Placed.{PortersStood, ServedStood}
use Rattle.laws_subtrees.proofs.InUncut.Outcomes.{SetsOurs, IsOursEdit, SetOurs, IsOursRow, OursOutcome}
use Rattle.laws_subtrees.proofs.InUncut.Moves.{outcome-ours}

-- ---- modes

ended-native : (status : ℕ) (answers : List ℕ) (t : Thread) (m : Mode) → is_porter (ended_in status answers t m).mode ≡ true → is_porter t.mode ≡ true
ended-native status answers t (Calling todo rest) e = cc
ended-native status answers t (Running g) e = e
ended-native status answers t (Halted g code) e = e
ended-native status answers t (Native g) e = e

finished-native : (answers : List ℕ) (t : Thread) (m : Mode) → is_porter (finished_in answers t m).mode ≡ true → is_porter t.mode ≡ true
finished-native answers t (Calling (stage ∷ next ∷ todo) rest) e = cc
finished-native answers t (Calling (stage ∷ []) rest) e = cc
finished-native answers t (Calling [] rest) e = cc
finished-native answers t (Running g) e = e
finished-native answers t (Halted g code) e = e
finished-native answers t (Native g) e = e

shifted-native : (count : ℕ) (m : Mode) → is_porter (shifted_in count m) ≡ true → is_porter m ≡ true
shifted-native count (Calling (stage ∷ todo) rest) e = cc
shifted-native count (Calling [] rest) e = e
shifted-native count (Running g) e = e
shifted-native count (Halted g code) e = e
shifted-native count (Native g) e = e

replaced-native : (stage : Stage) (m : Mode) → is_porter (replaced_in stage m) ≡ true → is_porter m ≡ true
replaced-native stage (Calling (old ∷ todo) rest) e = cc
replaced-native stage (Calling [] rest) e = e
replaced-native stage (Running g) e = e
replaced-native stage (Halted g code) e = e
replaced-native stage (Native g) e = e

never : (mode : Mode) → is_porter mode ≡ false → is_porter mode ≡ true → ⊥
never mode one two = let both = sym one ∙ two in cc

thread-native : (edit : Edit) (t : Thread) → IsOursEdit edit → is_native (edited edit (Thread_of t)) ≡ true → is_native (Thread_of t) ≡ true
unfolding edited
thread-native (Proceed mode counter) t new e = absurd (never mode new e)
thread-native (Shift count) t new e = shifted-native count t.mode e
thread-native (Finish answers) t new e = finished-native answers t t.mode e
thread-native (End status answers) t new e = ended-native status answers t t.mode e
thread-native (Replace stage) t new e = replaced-native stage t.mode e
thread-native (SetStops stops) t new e = e
thread-native (SetTalk talk) t new e = e
thread-native (CountMoved count) t new e = e
thread-native (PassTurn turn) t new e = e
thread-native (SetPeer peer) t new e = e
thread-native (SetFault fault) t new e = e
thread-native (SetTaker taker) t new e = e
thread-native (SetLocked locked) t new e = e
thread-native (SetWindow first count offset write) t new e = e
thread-native (SetExtent first count write) t new e = e
thread-native (SetMember set) t new e = e
thread-native (SetPointer to) t new e = e
thread-native (SetHolder holder) t new e = e

-- ---- what is no thread becomes none, and what is no port becomes none

kind-native : (b : Body) → (kind_of b ≡ kinds.Thread → ⊥) → is_native b ≡ true → ⊥
kind-native (Thread_of t) other e = other refl
kind-native (Mutex locked) other e = cc
kind-native b other e = cc

kind-served : (b : Body) → (kind_of b ≡ kinds.Port → ⊥) → is_served b ≡ true → ⊥
kind-served (Port set served) other e = other refl
kind-served (Mutex locked) other e = cc
kind-served b other e = cc

same_kind : (edit : Edit) (b : Body) → kind_of (edited edit b) ≡ kind_of b
same_kind edit b = ap (λ (o : Outline). o.kind) (outline-edited edit b)

pub edited-native : (edit : Edit) (b : Body) → IsOursEdit edit → is_native (edited edit b) ≡ true → is_native b ≡ true
edited-native edit (Thread_of t) new e = thread-native edit t new e
edited-native edit (Mutex locked) new e = absurd (kind-native _ (λ h. let k = same_kind edit (Mutex locked) in cc) e)
edited-native edit Cond new e = absurd (kind-native _ (λ h. let k = same_kind edit Cond in cc) e)
edited-native edit (Mapping m) new e = absurd (kind-native _ (λ h. let k = same_kind edit (Mapping m) in cc) e)
edited-native edit (Region r) new e = absurd (kind-native _ (λ h. let k = same_kind edit (Region r) in cc) e)
edited-native edit (Port set served) new e = absurd (kind-native _ (λ h. let k = same_kind edit (Port set served) in cc) e)
edited-native edit Portset new e = absurd (kind-native _ (λ h. let k = same_kind edit Portset in cc) e)
edited-native edit (Space birth holder) new e = absurd (kind-native _ (λ h. let k = same_kind edit (Space birth holder) in cc) e)
edited-native edit (Reference to) new e = absurd (kind-native _ (λ h. let k = same_kind edit (Reference to) in cc) e)

port-served : (edit : Edit) (set : Option ℕ) (served : Bool) → is_served (edited edit (Port set served)) ≡ true → is_served (Port set served) ≡ true
unfolding edited
port-served (SetMember other) set served e = e
port-served (Proceed mode counter) set served e = e
port-served edit set served e = e

edited-served : (edit : Edit) (b : Body) → IsOursEdit edit → is_served (edited edit b) ≡ true → is_served b ≡ true
edited-served edit (Port set served) new e = port-served edit set served e
edited-served edit (Thread_of t) new e =
    absurd (kind-served (edited edit (Thread_of t)) (λ (h : kind_of (edited edit (Thread_of t)) ≡ kinds.Port). let k : kind_of (edited edit (Thread_of t))
    ≡ kinds.Thread = same_kind edit (Thread_of t) in let both = sym k ∙ h in cc) e)
edited-served edit (Mutex locked) new e =
    absurd (kind-served (edited edit (Mutex locked)) (λ (h : kind_of (edited edit (Mutex locked)) ≡ kinds.Port). let k : kind_of (edited edit (Mutex locked))
    ≡ kinds.Mutex = same_kind edit (Mutex locked) in let both = sym k ∙ h in cc) e)
edited-served edit Cond new e =
    absurd (kind-served (edited edit Cond) (λ (h : kind_of (edited edit Cond) ≡ kinds.Port). let k : kind_of (edited edit Cond)
    ≡ kinds.Cond = same_kind edit Cond in let both = sym k ∙ h in cc) e)
edited-served edit (Mapping m) new e =
    absurd (kind-served (edited edit (Mapping m)) (λ (h : kind_of (edited edit (Mapping m)) ≡ kinds.Port). let k : kind_of (edited edit (Mapping m))
    ≡ kinds.Mapping = same_kind edit (Mapping m) in let both = sym k ∙ h in cc) e)
edited-served edit (Region r) new e =
    absurd (kind-served (edited edit (Region r)) (λ (h : kind_of (edited edit (Region r)) ≡ kinds.Port). let k : kind_of (edited edit (Region r))
    ≡ kinds.Region = same_kind edit (Region r) in let both = sym k ∙ h in cc) e)
edited-served edit Portset new e =
    absurd (kind-served (edited edit Portset) (λ (h : kind_of (edited edit Portset) ≡ kinds.Port). let k : kind_of (edited edit Portset)
    ≡ kinds.Portset = same_kind edit Portset in let both = sym k ∙ h in cc) e)
edited-served edit (Space birth holder) new e =
    absurd (kind-served (edited edit (Space birth holder))
    (λ (h : kind_of (edited edit (Space birth holder)) ≡ kinds.Port). let k : kind_of (edited edit (Space birth holder))
    ≡ kinds.Space = same_kind edit (Space birth holder) in let both = sym k ∙ h in cc) e)
edited-served edit (Reference to) new e =
    absurd (kind-served (edited edit (Reference to)) (λ (h : kind_of (edited edit (Reference to)) ≡ kinds.Port). let k : kind_of (edited edit (Reference to))
    ≡ kinds.Reference = same_kind edit (Reference to) in let both = sym k ∙ h in cc) e)

pub through-native : (f : Sweep) (at : Path) (b : Body) → is_native (through f at b) ≡ true → is_native b ≡ true
through-native f at (Thread_of t) e = e
through-native f at (Mutex locked) e = e
through-native f at b e = e

through-served : (f : Sweep) (at : Path) (b : Body) → is_served (through f at b) ≡ true → is_served b ≡ true
through-served f at (Port set served) e = e
through-served f at (Mutex locked) e = e
through-served f at b e = e

-- ---- worlds, by a test of bodies that no edit and no sweep makes true

nothing : (test : Body → Bool) → holds test None ≡ true → ⊥
nothing test e = cc

module _ (test : Body → Bool) (edits : (edit : Edit) (b : Body) → IsOursEdit edit → test (edited edit b) ≡ true → test b ≡ true)
    (sweeps : (f : Sweep) (at : Path) (b : Body) → test (through f at b) ≡ true → test b ≡ true)
    (makes : (x : Path) (b : Body) → SetsOurs (Make x b) → test b ≡ false)
    (spaces : (birth : ℕ) (holder : Option Ptr) → test (Space birth holder) ≡ false) where
  mapped : (f : Body → Body) → ((b : Body) → test (f b) ≡ true → test b ≡ true) → (o : Option Body) → holds test (option_map f o) ≡ true → holds test o ≡ true
  mapped f keeps None e = e
  mapped f keeps (Some b) e = keeps b e

  either : (t : Bool) (a b o : Option Body) → (holds test a ≡ true → holds test o ≡ true) → (holds test b ≡ true → holds test o ≡ true)
      → holds test (if t then a else b) ≡ true → holds test o ≡ true
  either true a b o one two e = one e
  either false a b o one two e = two e

  no_body : (b : Body) (o : Option Body) → test b ≡ false → holds test (Some b) ≡ true → holds test o ≡ true
  no_body b o off on = let both = sym off ∙ on in cc

  none : (o : Option Body) → holds test None ≡ true → holds test o ≡ true
  none o e = absurd (nothing test e)

  pub left-apply : (c : Change) (w : World) → SetsOurs c → (y : Path) → holds test ((apply c w).body y) ≡ true → holds test (w.body y) ≡ true
  unfolding apply
  left-apply (Alter x edit) w new y e =
      either (same_path y x) (option_map (edited edit) (w.body y)) (w.body y) (w.body y) (λ h. mapped (edited edit) (λ b. edits edit b new) (w.body y) h)
      (λ h. h) e
  left-apply (Make x body) w new y e = either (same_path y x) (Some body) (w.body y) (w.body y) (λ h. no_body body (w.body y) (makes x body new) h) (λ h. h) e
  left-apply (MakeSpace x holder) w new y e = absurd new
  left-apply (Kill x) w new y e =
      either (same_path y x) None (option_map (through (death_sweep x) y) (w.body y)) (w.body y) (λ h. none (w.body y) h)
      (λ h. mapped (through (death_sweep x) y) (sweeps (death_sweep x) y) (w.body y) h) e
  left-apply (Move x slot) w new y e = absurd new
  left-apply (PutPage space page words) w new y e = e
  left-apply (DropPage space page) w new y e = e

  pub left-all : (cs : List Change) (w : World) → SetOurs cs → (y : Path) → holds test ((apply_all cs w).body y) ≡ true → holds test (w.body y) ≡ true
  unfolding apply_all
  left-all [] w new y e = e
  left-all (c ∷ cs) w new y e = left-apply c w new.0 y (left-all cs (apply c w) new.1 y e)

  pub left-space : (x : Path) (holder : Option Ptr) (w : World) (y : Path) → holds test ((apply (MakeSpace x holder) w).body y) ≡ true
      → holds test (w.body y) ≡ true
  unfolding apply
  left-space x holder w y e =
      either (same_path y x) (Some (Space w.next holder)) (w.body y) (w.body y) (λ h. no_body (Space w.next holder) (w.body y) (spaces w.next holder) h)
      (λ h. h) e

  -- ---- with a rename first, where what comes to its new place is not such

  module _ (IsPlace : Path → Type 0) (moves : (w : World) (x : Path) (slot : ℕ) → nat_le slot LAST_USER_SLOT ≡ true → holds is_served (w.body x) ≡ false
      → (y : Path) → IsPlace y → y ≡ slot ∷ parent x →
      holds test (w.body x) ≡ true → ⊥) where
    pub left-move : (x : Path) (slot : ℕ) (w : World) → nat_le slot LAST_USER_SLOT ≡ true → holds is_served (w.body x) ≡ false → (y : Path) → IsPlace y
        → holds test ((apply (Move x slot) w).body y) ≡ true → holds test (w.body y) ≡ true
    unfolding apply
    left-move x slot w low apart y place e = by (same_path y to) refl e
      where
        to : Path
        to = slot ∷ parent x

        by : (t : Bool) → same_path y (slot ∷ parent x) ≡ t →
            holds test (if t then option_map (through (following x (slot ∷ parent x)) (slot ∷ parent x)) (w.body x) else
            (if same_path y x then None else option_map (through (following x (slot ∷ parent x)) y) (w.body y))) ≡ true →
            holds test (w.body y) ≡ true
        by true is e =
            absurd (moves w x slot low apart y place (same_path_eq y (slot ∷ parent x) is)
            (mapped (through (following x (slot ∷ parent x)) (slot ∷ parent x)) (sweeps (following x (slot ∷ parent x)) (slot ∷ parent x)) (w.body x) e))
        by false is e =
            either (same_path y x) None (option_map (through (following x (slot ∷ parent x)) y) (w.body y)) (w.body y) (λ h. none (w.body y) h)
            (λ h. mapped (through (following x (slot ∷ parent x)) y) (sweeps (following x (slot ∷ parent x)) y) (w.body y) h) e

    pub left-row : (cs : List Change) (w : World) → IsOursRow w cs → (y : Path) → IsPlace y → holds test ((apply_all cs w).body y) ≡ true
        → holds test (w.body y) ≡ true
    unfolding apply_all
    left-row [] w new y place e = e
    left-row (Move x slot ∷ cs) w new y place e = left-move x slot w new.0 new.1 y place (left-all cs (apply (Move x slot) w) new.2 y e)
    left-row (Alter x edit ∷ cs) w new y place e = left-all (Alter x edit ∷ cs) w new y e
    left-row (Make x body ∷ cs) w new y place e = left-all (Make x body ∷ cs) w new y e
    left-row (MakeSpace x holder ∷ cs) w new y place e = left-space x holder w y (left-all cs (apply (MakeSpace x holder) w) new.1 y e)
    left-row (Kill x ∷ cs) w new y place e = left-all (Kill x ∷ cs) w new y e
    left-row (PutPage space page words ∷ cs) w new y place e = left-all (PutPage space page words ∷ cs) w new y e
    left-row (DropPage space page ∷ cs) w new y place e = left-all (DropPage space page ∷ cs) w new y e

    pub left-stepped : (w : World) (o : Outcome) → OursOutcome w o → (y : Path) → IsPlace y → holds test ((stepped w o).world.body y) ≡ true
        → holds test (w.body y) ≡ true
    left-stepped w (Goes changes said) new y place e = left-row changes w new.ours y place e
    left-stepped w (Refused status) new y place e = e
    left-stepped w Waits new y place e = e

-- ---- porters, in the last slot of a space

abbrev pub IsLast : Path → Type 0
IsLast [] = ⊥
IsLast (k ∷ x) = k ≡ LAST_PORTER_SLOT

pub native-moves : (w : World) (x : Path) (slot : ℕ) → nat_le slot LAST_USER_SLOT ≡ true → holds is_served (w.body x) ≡ false → (y : Path) → IsLast y
    → y ≡ slot ∷ parent x → holds is_native (w.body x) ≡ true → ⊥
native-moves w x slot low apart [] place is e = place
native-moves w x slot low apart (k ∷ y) place is e =
    let same : k ≡ slot = cc in
    let high : slot ≡ LAST_PORTER_SLOT = sym same ∙ place in
    let off : nat_le LAST_PORTER_SLOT LAST_USER_SLOT ≡ true = ap (λ n. nat_le n LAST_USER_SLOT) (sym high) ∙ low in
    cc

pub porters_stood : PortersStood
unfolding step
porters_stood w e uncut x there =
    left-stepped is_native edited-native through-native (λ x b new. new.1) (λ birth holder. refl) IsLast native-moves w (outcome w e.mover e.pick e.ask)
    (outcome-ours w e.mover e.pick e.ask uncut) (LAST_PORTER_SLOT ∷ x) refl there

-- ---- served ports

abbrev Anywhere : Path → Type 0
Anywhere x = Unit {0}

served-moves : (w : World) (x : Path) (slot : ℕ) → nat_le slot LAST_USER_SLOT ≡ true → holds is_served (w.body x) ≡ false → (y : Path) → Anywhere y
    → y ≡ slot ∷ parent x → holds is_served (w.body x) ≡ true → ⊥
served-moves w x slot low apart y place is e = let both = sym apart ∙ e in cc

pub served_stood : ServedStood
unfolding step
served_stood w e uncut x there =
    left-stepped is_served edited-served through-served (λ x b new. new.2) (λ birth holder. refl) Anywhere served-moves w (outcome w e.mover e.pick e.ask)
    (outcome-ours w e.mover e.pick e.ask uncut) x tt there
