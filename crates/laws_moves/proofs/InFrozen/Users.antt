-- What users and native servers list names what they can name: by the lists of `rows`.
use Rattle.std.proofs.Common.{◌≡◌, ℕ, Bool, true, false, not, cond, nat_le, if◌then◌else◌, ◌==◌, List, [], ◌∷◌, ◌++◌, map, Option, Some, None, Result, Ok, Err}
use Rattle.std.proofs.Common.{refl}
use Rattle.std.proofs.lemmas.Bool.{and_parts, not-false, not-true}
use Rattle.fk_model.specs.declared.limits.TheConstants.{LAST_USER_SLOT}
use Rattle.fk_model.specs.declared.moves.Ask.{Ask}
use Rattle.fk_model.specs.declared.names.Kind.TheVariants as kinds
use Rattle.fk_model.specs.declared.stage.Stage.{Stage}
use Rattle.fk_model.specs.declared.statuses.status.TheConstants.{BADHANDLE}
use Rattle.fk_model.specs.Places.{Path, parent, slot_of}
use Rattle.fk_model.specs.Calls.{todo_of}
use Rattle.fk_model.specs.Objects.{Mode, Thread, Body, reference_of, thread_of, and_then, holds}
use Rattle.fk_model.specs.Objects.Mode.{Running, Halted}
use Rattle.fk_model.specs.Objects.Body.{Mutex, Cond, Mapping, Region, Port, Portset, Space, Thread_of, Reference}
use Rattle.fk_model.specs.World.{World, Change, Edit}
use Rattle.fk_model.specs.World.Change.{Alter}
use Rattle.fk_model.specs.World.Edit.{SetTalk}
use Rattle.fk_model.specs.Searches.{thread_at}
use Rattle.fk_model.specs.Holds.{is_porter}
use Rattle.fk_model.specs.Outcomes.{Outcome, Caller, path_of, last_slot, listed}
use Rattle.fk_model.specs.Readers.{and_read, slot_for, seen_as, anything, object_in}
use Rattle.fk_model.specs.LinkRows.{user_at}
use Rattle.fk_model.specs.SpaceRows.{is_held_by_other}
use Rattle.fk_model.specs.Records.{set_edits, calling_by, mode_of_record, record_registers, word}
use Rattle.fk_model.specs.StateRows.{is_native}
use Rattle.fk_model.specs.Moves.{is_for_porters}
use Rattle.fk_model.specs.Valid.{kind_there}
use Rattle.laws_moves.proofs.InMachine.safety.Reads.{object-there}
use Rattle.laws_moves.specs.Rows.Stages.{Sets, Work, Step}
use Rattle.laws_moves.specs.Rows.Stages.Sets.{Points, Clears, Gets_pointer, Sets_pointer, Holds, Restores_hold}
use Rattle.laws_moves.specs.Rows.Stages.Work.{Looks, Edits, Makes, Makes_held, Kills, Renames, Sets_record, Copies, Sleeps, Wakes_all}
use Rattle.laws_moves.specs.Rows.Stages.Work.{Takes_client, Hangs_up, Sends, Sends_service, Passes, Hands_over, Hands_over}
use Rattle.laws_moves.specs.Rows.Stages.Step.{Is_refused, Is_waiting, Raises, Answers, Stays, Finishes, Ends}
use Rattle.laws_moves.specs.Rows.Moves.{Goes_to, Instructs, Serves, Lists}
use Rattle.laws_moves.specs.Rows.Moves.Goes_to.{Halts}
use Rattle.laws_moves.specs.Rows.Moves.Instructs.{Goes_on, Stores, Faults}
use Rattle.laws_moves.specs.Rows.Moves.Serves.{Waits_for_client, Accepts, Takes_up, Gives_nothing, Finds_no_room, Gives_words, Passes_client}
use Rattle.laws_moves.specs.Rows.Moves.Lists.{Moves_not, Runs, Calls, Is_told_no, Asks, Is_answered_no, Acts}
use Rattle.laws_moves.proofs.InRows.Handles.{reference-in}
use Rattle.laws_moves.proofs.InRows.Walk.{new_all, drops-all, ends-all, ends-then, sleepers-all}
use Rattle.laws_moves.proofs.InRows.Moves.{moves-listed}
use Rattle.laws_moves.proofs.InFrozen.once.Moves.{rootless}
use Rattle.laws_moves.specs.Frozen.Users.{is_low, IsUsersEdit, AreUsers, is_users, UsersNameLow}

users-then : (cs ds : List Change) (w : World) → AreUsers w cs → AreUsers w ds → AreUsers w (cs ++ ds)
users-then [] ds w users after = after
users-then (c ∷ cs) ds w users after = (users.0, users-then cs ds w users.1 after)

pub record_mode : (n : ℕ) (g : List ℕ) (code : ℕ) → is_porter (mode_of_record n g code) ≡ false
record_mode n g code = by (n == 0) (n == 1) (todo_of g)
  where
    by : (zero one : Bool) (o : Option (List Stage)) → is_porter (if zero then Running g else (if one then calling_by g o else Halted g code)) ≡ false
    by true one o = refl
    by false true (Some todo) = refl
    by false true None = refl
    by false false o = refl

edits-users : (w : World) (x : Path) (b : Body) (words : List ℕ) → w.body x ≡ Some b → is_native b ≡ false → AreUsers w (map (Alter x) (set_edits b words))
edits-users w x (Mutex locked) words there off = (tt, tt)
edits-users w x (Mapping m) words there off = (tt, tt)
edits-users w x (Region r) words there off = (tt, tt)
edits-users w x (Port set served) words there off = (tt, tt)
edits-users w x (Thread_of t) words there off = ((rw there off, record_mode (word words 18) (record_registers words) (word words 19)), (tt, tt))
edits-users w x b words there off = tt

-- ---- slots that a user can name

module _ (c : Caller) (user : c.is_porter ≡ false) where
  last_users : last_slot c ≡ LAST_USER_SLOT
  last_users = rw user refl

  slot-low : (k j : ℕ) (s : Path) → slot_for c k ≡ Ok j → is_low (k ∷ s) ≡ true
  slot-low k j s h = by (nat_le k (last_slot c)) refl h
    where
      by : (t : Bool) → nat_le k (last_slot c) ≡ t → cond {A = Result ℕ ℕ} t (Ok k) (Err BADHANDLE) ≡ Ok j → is_low (k ∷ s) ≡ true
      by true e h = rw last_users at e
      by false e h = cc

  read-slot : {A : Type 0} (r : Result ℕ ℕ) (go : ℕ → Result A ℕ) (a : A) → and_read r go ≡ Ok a → (j : ℕ) × (r ≡ Ok j)
  read-slot (Ok j) go a h = (j, refl)
  read-slot (Err status) go a h = cc

  object-low : {A : Type 0} (w : World) (view : Body → Option A) (s : Path) (k : ℕ) (a : A) → object_in w c view s k ≡ Ok a → is_low (k ∷ s) ≡ true
  unfolding object_in
  object-low w view s k a h = let read = read-slot (slot_for c k) (λ k. seen_as view (w.body (k ∷ s))) a h in slot-low k read.0 s read.1

  -- ---- a stage of its call

  module _ (w : World) (pick : Option Path) where
    sets : {stage : Stage} {x : Path} {edit : Edit} {answers : List ℕ} → is_for_porters stage ≡ false → Sets w c pick stage x edit answers →
        IsUsersEdit w x edit
    sets off (Points s x s2 x2 space space2 old to place place2 read read2 free) = object-low w reference_of space x old read
    sets off (Clears s x space old place read free) = object-low w reference_of space x old read
    sets off (Gets_pointer s x field k space b old found place read read2 has inner) = object-low w reference_of c.space k old read2
    sets off (Sets_pointer s x field k space b to place read read2 free inner among) = object-low w anything space x b read
    sets off (Holds s x space was place read free apart alone) = not-true _ (and_parts (not (is_held_by_other w (path_of c) (x ∷ space))) _ alone).1
    sets off (Restores_hold s x thread space was holder place read read2 free) = cc
    sets off other = tt

    work : {stage : Stage} {cs : List Change} {answers : List ℕ} → is_for_porters stage ≡ false → Work w c pick stage cs answers → AreUsers w cs
    work off (Looks stage answers reads) = tt
    work off (Edits stage x edit answers edits) = (sets off edits, tt)
    work off (Makes s x j kind space made place slot free new empty) =
        let low = slot-low x j space slot in
        new_all (λ made. AreUsers w (made ∷ [])) (x ∷ space) kind made new
        ((low, refl), tt) ((low, refl), tt) ((low, refl), tt) ((low, refl), tt) ((low, refl), tt) ((low, refl), tt) ((low, refl), tt)
        ((low, refl), tt) ((low, refl), tt)
    work off (Makes_held x j slot empty) = cc
    work off (Kills s x space b place read free apart leaf) =
        (record { named = x ∷ space; low = object-low w anything space x b read; leaf = refl }, ends-all (AreUsers w) tt (λ y cs rest. (tt, rest)) _)
    work off (Renames s x y space b place read free low apart empty residents) = ((object-low w anything space x b read, not-false _ low), tt)
    work off (Sets_record s x address space b words place read free none good from still takes) =
        edits-users w (x ∷ space) b words (object-there w c x space b read) none
    work off (Copies stage s page address space t own drops words place there home) = (tt, drops-all (AreUsers w) space page tt (tt, tt) drops)
    work off (Wakes_all at) = sleepers-all (AreUsers w) w c.space at tt (λ x m cs asleep rest. (tt, rest))
    work off (Takes_client set slot x idle at) = (tt, (tt, tt))
    work off (Hangs_up stage side l at) = ends-then (AreUsers w) (Alter l.client (SetTalk None) ∷ []) (tt, tt) (λ y cs rest. (tt, rest)) _
    work off (Sends stage side l address count receive thread e s own t other here at led free is home theirs) = (tt, (tt, (tt, (tt, tt))))
    work off (Sleeps at m) = (tt, (tt, tt))
    work off (Sends_service stage side l address count here at) = (tt, (tt, tt))
    work off (Passes stage side l thread e to carried here at led free awaits) = (tt, (tt, tt))
    work off (Hands_over stage side l thread e k reference p here at led free awaits there read may) =
        ((reference-in w (parent e.0) k there).low, (tt, (tt, tt)))
    work off other = (tt, tt)

    step : {stage : Stage} {o : Outcome} → is_for_porters stage ≡ false → Step w c pick stage o → AreUsers w (listed o)
    step off (Is_refused status) = tt
    step off Is_waiting = tt
    step off (Raises s page address write port missing) = (tt, tt)
    step off (Answers cs answers porter its) = work off its
    step off (Stays cs said its) = work off its
    step off (Finishes cs answers me said user own its) = users-then cs _ w (work off its) (tt, tt)
    step off (Ends cs answers user its) = users-then cs _ w (work off its) (tt, tt)

-- ---- instructions and acts

runs-native : (o : Option Body) (t : Thread) (g : List ℕ) → and_then thread_of o ≡ Some t → t.mode ≡ Running g → holds is_native o ≡ false
runs-native (Some (Thread_of u)) t g h mode = let same : u ≡ t = cc in rw (same, mode) refl
runs-native (Some (Mutex locked)) t g h mode = cc
runs-native (Some Cond) t g h mode = cc
runs-native (Some (Mapping m)) t g h mode = cc
runs-native (Some (Region r)) t g h mode = cc
runs-native (Some (Port set served)) t g h mode = cc
runs-native (Some Portset) t g h mode = cc
runs-native (Some (Space birth holder)) t g h mode = cc
runs-native (Some (Reference to)) t g h mode = cc
runs-native None t g h mode = cc

pub goes_to : {w : World} {space : Path} {g : List ℕ} {counter : ℕ} {mode : Mode} {after : ℕ} → Goes_to w space g counter mode after → is_porter mode ≡ false
goes_to (Halts code) = refl
goes_to other = refl

instructs : (w : World) (space : Path) (slot : ℕ) (g : List ℕ) (counter : ℕ) {o : Outcome} → holds is_native (w.body (slot ∷ space)) ≡ false →
    Instructs w space slot g counter o → AreUsers w (listed o)
instructs w space slot g counter user (Goes_on mode after to) = ((user, goes_to to), tt)
instructs w space slot g counter user (Stores address value s page home) = (tt, ((user, refl), tt))
instructs w space slot g counter user (Faults s page address write port missing) = (tt, tt)

serves : {w : World} {port : Path} {pick : Option Path} {ask : Ask} {o : Outcome} → Serves w port pick ask o → AreUsers w (listed o)
serves (Waits_for_client ask) = tt
serves (Accepts x t service there free at) = (tt, (tt, tt))
serves (Takes_up x t talk service there free at) = (tt, tt)
serves (Gives_nothing words len) = tt
serves (Finds_no_room words len x t receive there is full) = (tt, tt)
serves (Gives_words words len x t receive s page there is home) = (tt, (tt, (tt, tt)))
serves (Passes_client x to at awaits) = (tt, (tt, tt))

-- ---- a move

pub native-off : (w : World) (x : Path) (t : Thread) (g : List ℕ) → kind_there w [] ≡ Some kinds.Space → thread_at w x ≡ Some t → t.mode ≡ Running g →
    holds is_native (w.body (slot_of x ∷ parent x)) ≡ false
native-off w [] t g root there at = absurd (rootless w t there root)
native-off w (k ∷ s) t g root there at = runs-native (w.body (k ∷ s)) t g there at

lists : (w : World) (x : Path) (pick : Option Path) (ask : Ask) (o : Outcome) → kind_there w [] ≡ Some kinds.Space → is_users ask ≡ true →
    Lists w x pick ask o → AreUsers w (listed o)
lists w x pick _ _ root is (Moves_not ask) = tt
lists w x pick _ _ root is (Runs t g o there free at by) = instructs w (parent x) (slot_of x) g t.counter (native-off w x t g root there at) by
lists w x pick _ _ root is (Calls t stage todo rest cs said there free at user by) = step (user_at x) refl w pick user by
lists w x pick _ _ root is (Is_told_no t stage todo rest status there free at) = (tt, tt)
lists w x pick _ _ root is (Asks t stage words cs said there unheld porter by) = cc
lists w x pick _ _ root is (Is_answered_no t stage words status there) = tt
lists w x pick _ _ root is (Acts ask o by) = serves by

pub users_name_low : UsersNameLow
users_name_low w x pick ask rooted is = lists w x pick ask _ rooted.root is (moves-listed w x pick ask)
