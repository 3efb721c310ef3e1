-- No move of a user or a native server takes a root's porter away.
use Rattle.std.proofs.Common.{◌≡◌, ℕ, zero, suc, Bool, true, false, cond, nat_le, List, [], ◌∷◌, ◌++◌, map, Option, Some, None, option_map, Result, Ok, Err}
use Rattle.std.proofs.Common.{refl, sym, ap, subst, ◌∙◌}
use Rattle.fk_model.specs.declared.limits.TheConstants.{LAST_USER_SLOT, LAST_PORTER_SLOT}
use Rattle.fk_model.specs.declared.moves.Ask.{Ask}
use Rattle.fk_model.specs.declared.stage.Stage.{Stage}
use Rattle.fk_model.specs.declared.statuses.status.TheConstants.{BADHANDLE}
use Rattle.fk_model.specs.Places.{Path, same_path}
use Rattle.fk_model.specs.Objects.{Mode, Thread, Body, holds}
use Rattle.fk_model.specs.Objects.Mode.{Calling}
use Rattle.fk_model.specs.Objects.Body.{Mutex, Cond, Mapping, Region, Port, Portset, Space, Thread_of, Reference}
use Rattle.fk_model.specs.World.{World, Change, Edit, Sweep, edited, through, death_sweep, following, apply, apply_all, ended_in, finished_in, replaced_in}
use Rattle.fk_model.specs.World.{shifted_in}
use Rattle.fk_model.specs.World.Change.{Alter, Make, MakeSpace, Kill, Move, PutPage, DropPage}
use Rattle.fk_model.specs.World.Edit.{Proceed, Shift, Finish, End, Replace, SetTalk}
use Rattle.fk_model.specs.Searches.{depth, first_resident, leaf_from, leaf_by, leaf}
use Rattle.fk_model.specs.Holds.{is_porter}
use Rattle.fk_model.specs.StateRows.{is_native}
use Rattle.fk_model.specs.Readers.{and_read, slot_for, seen_as, anything, object_in}
use Rattle.fk_model.specs.LinkRows.{user_at}
use Rattle.fk_model.specs.ObjectRows.{ends_with}
use Rattle.fk_model.specs.Talks.{ends_beyond}
use Rattle.fk_model.specs.Records.{set_edits}
use Rattle.fk_model.specs.Outcomes.{Outcome, Caller, last_slot, listed}
use Rattle.fk_model.specs.Outcomes.Outcome.{Refused, Waits, Goes}
use Rattle.fk_model.specs.Moves.{outcome, is_for_porters, GoesAllowed, stepped, step}
use Rattle.fk_model.specs.Runs.{after}
use Rattle.fk_model.proofs.walks.PlaceLaws.{same_path_eq, same_path_ne}
use Rattle.laws_moves.specs.Machine.Frame.{names_body}
use Rattle.laws_moves.proofs.InMachine.Frame.{apply-body}
use Rattle.laws_moves.specs.Rows.Stages.{Work, Step}
use Rattle.laws_moves.specs.Rows.Stages.Work.{Makes, Makes_held, Kills, Sets_record, Copies, Wakes_all, Hangs_up}
use Rattle.laws_moves.specs.Rows.Stages.Step.{Is_refused, Is_waiting, Raises, Answers, Stays, Finishes, Ends}
use Rattle.laws_moves.specs.Rows.Moves.{Instructs, Serves, Lists}
use Rattle.laws_moves.specs.Rows.Moves.Instructs.{Goes_on, Stores, Faults}
use Rattle.laws_moves.specs.Rows.Moves.Serves.{Waits_for_client, Accepts, Takes_up, Gives_nothing, Finds_no_room, Gives_words, Passes_client}
use Rattle.laws_moves.specs.Rows.Moves.Lists.{Moves_not, Runs, Calls, Is_told_no, Asks, Is_answered_no, Acts}
use Rattle.laws_moves.proofs.InRows.Walk.{new_all, drops-all, ends-all, ends-then, sleepers-all}
use Rattle.laws_moves.proofs.InRows.Moves.{moves-listed}
use Rattle.laws_moves.proofs.InFrozen.Users.{users_name_low}
use Rattle.laws_moves.specs.Frozen.Users.{is_low, IsUsersEdit, IsUsers, AreUsers, is_users}
use Rattle.laws_migrate.specs.Migration.{top}
use Rattle.laws_migrate.specs.Porters.{RootKeepsPorter}

-- ---- what a user destroys is the first leaf of an object in a user's slot, so never of the root as a whole

pub record IsLeafOfLow (w : World) (x : Path) : Type 0 where
  pub slot : ℕ
  pub space : Path
  pub low : is_low (slot ∷ space) ≡ true
  pub leaf : leaf w (slot ∷ space) ≡ x

abbrev pub KillLow : World → List Change → Type 0
KillLow w [] = Unit {0}
KillLow w (Kill x ∷ cs) = IsLeafOfLow w x × KillLow w cs
KillLow w (c ∷ cs) = KillLow w cs

kill-then : (cs ds : List Change) (w : World) → KillLow w cs → KillLow w ds → KillLow w (cs ++ ds)
kill-then [] ds w low after = after
kill-then (Kill x ∷ cs) ds w low after = (low.0, kill-then cs ds w low.1 after)
kill-then (Alter x edit ∷ cs) ds w low after = kill-then cs ds w low after
kill-then (Make x body ∷ cs) ds w low after = kill-then cs ds w low after
kill-then (MakeSpace x holder ∷ cs) ds w low after = kill-then cs ds w low after
kill-then (Move x slot ∷ cs) ds w low after = kill-then cs ds w low after
kill-then (PutPage space page words ∷ cs) ds w low after = kill-then cs ds w low after
kill-then (DropPage space page ∷ cs) ds w low after = kill-then cs ds w low after

edits-kill : (w : World) (x : Path) (edits : List Edit) → KillLow w (map (Alter x) edits)
edits-kill w x [] = tt
edits-kill w x (e ∷ edits) = edits-kill w x edits

module _ (c : Caller) (user : c.is_porter ≡ false) where
  last_users : last_slot c ≡ LAST_USER_SLOT
  last_users = rw user refl

  slot-low : (k j : ℕ) (s : Path) → slot_for c k ≡ Ok j → is_low (k ∷ s) ≡ true
  slot-low k j s h = by (nat_le k (last_slot c)) refl h
    where
      by : (t : Bool) → nat_le k (last_slot c) ≡ t → cond {A = Result ℕ ℕ} t (Ok k) (Err BADHANDLE) ≡ Ok j → is_low (k ∷ s) ≡ true
      by true e h = rw last_users at e
      by false e h = cc

  read-slot : {A : Type 0} (r : Result ℕ ℕ) (go : ℕ → Result A ℕ) (a : A) → and_read r go ≡ Ok a → (j : ℕ) × (r ≡ Ok j)
  read-slot (Ok j) go a h = (j, refl)
  read-slot (Err status) go a h = cc

  object-low : {A : Type 0} (w : World) (view : Body → Option A) (s : Path) (k : ℕ) (a : A) → object_in w c view s k ≡ Ok a → is_low (k ∷ s) ≡ true
  unfolding object_in
  object-low w view s k a h = let read = read-slot (slot_for c k) (λ k. seen_as view (w.body (k ∷ s))) a h in slot-low k read.0 s read.1

  module _ (w : World) (pick : Option Path) where
    work : {stage : Stage} {cs : List Change} {answers : List ℕ} → is_for_porters stage ≡ false → Work w c pick stage cs answers → KillLow w cs
    work off (Makes s x j kind space made place slot free new empty) =
        new_all (λ made. KillLow w (made ∷ [])) (x ∷ space) kind made new tt tt tt tt tt tt tt tt tt
    work off (Makes_held x j slot empty) = cc
    work off (Kills s x space b place read free apart unfrozen) = (
      record { slot = x; space = space; low = object-low w anything space x b read; leaf = refl },
      ends-all (KillLow w) tt (λ y cs rest. rest) (ends_with w (leaf w (x ∷ space)) (w.body (leaf w (x ∷ space)))),
    )
    work off (Sets_record s x address space b words place read free none good from still takes) = edits-kill w (x ∷ space) (set_edits b words)
    work off (Copies stage s page address space t own drops words place there home) = drops-all (KillLow w) space page tt tt drops
    work off (Wakes_all at) = sleepers-all (KillLow w) w c.space at tt (λ x m cs asleep rest. rest)
    work off (Hangs_up stage side l at) = ends-then (KillLow w) (Alter l.client (SetTalk None) ∷ []) tt (λ y cs rest. rest) (ends_beyond w side l)
    work off other = tt

    stage-low : {stage : Stage} {o : Outcome} → is_for_porters stage ≡ false → Step w c pick stage o → KillLow w (listed o)
    stage-low off (Answers cs answers porter its) = work off its
    stage-low off (Stays cs said its) = work off its
    stage-low off (Finishes cs answers me said user own its) = kill-then cs _ w (work off its) tt
    stage-low off (Ends cs answers user its) = kill-then cs _ w (work off its) tt
    stage-low off (Is_refused status) = tt
    stage-low off Is_waiting = tt
    stage-low off (Raises s page address write port missing) = tt

instructs : (w : World) (space : Path) (slot : ℕ) (g : List ℕ) (counter : ℕ) {o : Outcome} → Instructs w space slot g counter o → KillLow w (listed o)
instructs w space slot g counter (Goes_on mode after to) = tt
instructs w space slot g counter (Stores address value s page home) = tt
instructs w space slot g counter (Faults s page address write port missing) = tt

serves : {w : World} {port : Path} {pick : Option Path} {ask : Ask} {o : Outcome} → Serves w port pick ask o → KillLow w (listed o)
serves (Waits_for_client ask) = tt
serves (Accepts x t service there free at) = tt
serves (Takes_up x t talk service there free at) = tt
serves (Gives_nothing words len) = tt
serves (Finds_no_room words len x t receive there is full) = tt
serves (Gives_words words len x t receive s page there is home) = tt
serves (Passes_client x to at awaits) = tt

pub lists : (w : World) (x : Path) (pick : Option Path) (ask : Ask) (o : Outcome) → is_users ask ≡ true → Lists w x pick ask o → KillLow w (listed o)
lists w x pick _ _ is (Moves_not ask) = tt
lists w x pick _ _ is (Is_told_no t stage todo rest status there free at) = tt
lists w x pick _ _ is (Is_answered_no t stage words status there) = tt
lists w x pick _ _ is (Runs t g o there free at by) = instructs w _ _ g t.counter by
lists w x pick _ _ is (Calls t stage todo rest cs said there free at user by) = stage-low (user_at x) refl w pick user by
lists w x pick _ _ is (Asks t stage words cs said there unheld porter by) = cc
lists w x pick _ _ is (Acts ask o by) = serves by

-- ---- a leaf lies beneath what it is the leaf of

leaf-beneath : (n : ℕ) (w : World) (y z : Path) → leaf_by n w y ≡ z → (p : Path) × (z ≡ p ++ y)
unfolding leaf_by
leaf-beneath zero w y z h = ([], sym h)
leaf-beneath (suc n) w y z h = by (first_resident w y) h (λ k. leaf-beneath n w (k ∷ y) z)
  where
    deeper : (k : ℕ) → ((p : Path) × (z ≡ p ++ k ∷ y)) → (p : Path) × (z ≡ p ++ y)
    deeper k its = (its.0 ++ k ∷ [], its.1 ∙ joined its.0)
      where
        joined : (p : Path) → (p ++ k ∷ y) ≡ ((p ++ k ∷ []) ++ y)
        joined [] = refl
        joined (j ∷ p) = ap (λ (q : Path). j ∷ q) (joined p)

    by : (o : Option ℕ) → leaf_from (λ k. leaf_by n w (k ∷ y)) y o ≡ z → ((k : ℕ) → leaf_by n w (k ∷ y) ≡ z → (p : Path) × (z ≡ p ++ k ∷ y)) →
        (p : Path) × (z ≡ p ++ y)
    by None h rest = ([], sym h)
    by (Some k) h rest = deeper k (rest k h)

abbrev me : Path
me = LAST_PORTER_SLOT ∷ top

pub not-low : (y : Path) → is_low y ≡ true → same_path me y ≡ false
not-low y low = same_path_ne me y (λ e. let here : nat_le LAST_PORTER_SLOT LAST_USER_SLOT ≡ true = subst (λ (y : Path). is_low y ≡ true) (sym e) low in cc)

pub not-leaf : (w : World) (z : Path) → IsLeafOfLow w z → same_path me z ≡ false
unfolding leaf
not-leaf w z its = same_path_ne me z (λ e. let beneath = leaf-beneath depth w (its.slot ∷ its.space) z its.leaf in by beneath.0 (e ∙ beneath.1))
  where
    by : (p : Path) → me ≡ p ++ its.slot ∷ its.space → ⊥
    by [] e = let here : nat_le LAST_PORTER_SLOT LAST_USER_SLOT ≡ true = subst (λ (y : Path). is_low y ≡ true) (sym e) its.low in cc
    by (j ∷ []) e = cc
    by (j ∷ (k ∷ p)) e = cc

-- ---- what edits and sweeps keep

shifted-porter : (count : ℕ) (m : Mode) → is_porter m ≡ true → is_porter (shifted_in count m) ≡ true
shifted-porter count (Calling todo rest) h = cc
shifted-porter count m h = h

replaced-porter : (stage : Stage) (m : Mode) → is_porter m ≡ true → is_porter (replaced_in stage m) ≡ true
replaced-porter stage (Calling todo rest) h = cc
replaced-porter stage m h = h

ended-porter : (status : ℕ) (answers : List ℕ) (t : Thread) (m : Mode) → is_porter m ≡ true → is_porter t.mode ≡ true →
    is_porter (ended_in status answers t m).mode ≡ true
ended-porter status answers t (Calling todo rest) h g = cc
ended-porter status answers t m h g = g

finished-porter : (answers : List ℕ) (t : Thread) (m : Mode) → is_porter m ≡ true → is_porter t.mode ≡ true → is_porter (finished_in answers t m).mode ≡ true
finished-porter answers t (Calling todo rest) h g = cc
finished-porter answers t m h g = g

porter-edited : (w : World) (x : Path) (edit : Edit) (o : Option Body) → IsUsersEdit w x edit → holds is_native (w.body x) ≡ true → holds is_native o ≡ true →
    holds is_native (option_map (edited edit) o) ≡ true
unfolding edited
porter-edited w x (Proceed mode counter) (Some (Thread_of t)) users was h = let both = sym was ∙ users.0 in cc
porter-edited w x (Shift count) (Some (Thread_of t)) users was h = shifted-porter count t.mode h
porter-edited w x (Finish answers) (Some (Thread_of t)) users was h = finished-porter answers t t.mode h h
porter-edited w x (End status answers) (Some (Thread_of t)) users was h = ended-porter status answers t t.mode h h
porter-edited w x (Replace stage) (Some (Thread_of t)) users was h = replaced-porter stage t.mode h
porter-edited w x edit (Some (Thread_of t)) users was h = h
porter-edited w x edit (Some (Mutex locked)) users was h = cc
porter-edited w x edit (Some Cond) users was h = cc
porter-edited w x edit (Some (Mapping m)) users was h = cc
porter-edited w x edit (Some (Region r)) users was h = cc
porter-edited w x edit (Some (Port set served)) users was h = cc
porter-edited w x edit (Some Portset) users was h = cc
porter-edited w x edit (Some (Space birth holder)) users was h = cc
porter-edited w x edit (Some (Reference to)) users was h = cc
porter-edited w x edit None users was h = cc

porter-swept : (f : Sweep) (q : Path) (o : Option Body) → holds is_native o ≡ true → holds is_native (option_map (through f q) o) ≡ true
porter-swept f q (Some (Mutex locked)) h = cc
porter-swept f q (Some b) h = h
porter-swept f q None h = h

-- ---- a list of changes

abbrev Stands : World → Type 0
Stands v = holds is_native (v.body me) ≡ true

module _ (w : World) (native : Stands w) where
  by-name : (c : Change) (v : World) → Stands v → names_body v c me ≡ false → Stands (apply c v)
  by-name c v stands off = rw (apply-body c v me off) stands

  change-stands : (c : Change) (v : World) → Stands v → IsUsers w c → KillLow w (c ∷ []) → Stands (apply c v)
  unfolding apply
  change-stands (Alter y edit) v stands users low = by (same_path me y) refl
    where
      by : (t : Bool) → same_path me y ≡ t → holds is_native (cond t (option_map (edited edit) (v.body me)) (v.body me)) ≡ true
      by false e = stands
      by true e = let here = same_path_eq me y e in porter-edited w y edit (v.body me) users (rw (← here) native) stands
  change-stands (Make y body) v stands users low = by-name (Make y body) v stands (not-low y users.0)
  change-stands (MakeSpace y holder) v stands users low = by-name (MakeSpace y holder) v stands (not-low y users.0)
  change-stands (Kill z) v stands users low = rw (not-leaf w z low.0) (porter-swept (death_sweep z) me (v.body me) stands)
  change-stands (Move y slot) v stands users low =
      rw (not-low (slot ∷ _) users.1, not-low y users.0) (porter-swept (following y (slot ∷ _)) me (v.body me) stands)
  change-stands (PutPage space page words) v stands users low = stands
  change-stands (DropPage space page) v stands users low = stands

  first-low : (c : Change) (cs : List Change) → KillLow w (c ∷ cs) → KillLow w (c ∷ []) × KillLow w cs
  first-low (Kill x) cs low = ((low.0, tt), low.1)
  first-low (Alter x edit) cs low = (tt, low)
  first-low (Make x body) cs low = (tt, low)
  first-low (MakeSpace x holder) cs low = (tt, low)
  first-low (Move x slot) cs low = (tt, low)
  first-low (PutPage space page words) cs low = (tt, low)
  first-low (DropPage space page) cs low = (tt, low)

  all-stand : (cs : List Change) (v : World) → Stands v → AreUsers w cs → KillLow w cs → Stands (apply_all cs v)
  unfolding apply_all
  all-stand [] v stands users low = stands
  all-stand (c ∷ cs) v stands users low = let both = first-low c cs low in all-stand cs (apply c v) (change-stands c v stands users.0 both.0) users.1 both.1

outcome-stands : (w : World) (x : Path) (o : Outcome) → Stands w → GoesAllowed w x o → AreUsers w (listed o) → KillLow w (listed o) → Stands (stepped w o).world
outcome-stands w x (Goes changes said) native may users low = all-stand w native changes w native users low
outcome-stands w x (Refused status) native may users low = absurd may
outcome-stands w x Waits native may users low = absurd may

pub root_keeps_porter : RootKeepsPorter
unfolding step
root_keeps_porter w e moves native =
    outcome-stands w e.mover (outcome w e.mover e.pick e.ask) native moves.ready
    (users_name_low w e.mover e.pick e.ask moves.valid.rooted moves.users) (lists w e.mover e.pick e.ask _ moves.users (moves-listed w e.mover e.pick e.ask))
