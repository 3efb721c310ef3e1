-- Changes that keep what can be saved: what each has to meet in the world in which it is made, and how a row's parts make
-- an outcome of such changes.
use Rattle.std.proofs.Common.{◌≡◌, ℕ, ◌<◌, ◌≤◌, Bool, true, false, if◌then◌else◌, ◌&&◌, ◌||◌, nat_le, IsSome, List, [], ◌∷◌, ◌++◌, length, Option, Some, None}
use Rattle.std.proofs.Common.{Result, Ok, Err, refl}
use Rattle.fk_model.specs.declared.limits.TheConstants.{LAST_USER_SLOT, LAST_PORTER_SLOT, MOST_STOPS, MOST_MOVED, PAGES}
use Rattle.fk_model.specs.Places.{Path, parent, slot_of, is_within, Ptr, leads_to}
use Rattle.fk_model.specs.Places.Ptr.{At}
use Rattle.fk_model.specs.Objects.{Mode, Talk, Fault, Thread, Body, thread_of, and_then, holds, port_of}
use Rattle.fk_model.specs.Objects.Mode.{Calling}
use Rattle.fk_model.specs.Objects.Body.{Thread_of}
use Rattle.fk_model.specs.Calls.{IsTodo}
use Rattle.fk_model.specs.World.{World, Change, Edit, apply, apply_all}
use Rattle.fk_model.specs.World.Change.{Alter, Make, MakeSpace, Kill, Move, PutPage, DropPage}
use Rattle.fk_model.specs.World.Edit.{SetHolder, Proceed, Shift, Finish, End, Replace, SetStops, SetTalk, SetPeer, SetFault, SetTaker}
use Rattle.fk_model.specs.Searches.{talk_at, fault_at}
use Rattle.fk_model.specs.Holds.{is_porter}
use Rattle.fk_model.specs.Outcomes.{Said, Outcome, ◌>>=◌, refuse, or_refuse, when, Caller, path_of, done_at, done, ended, stays, telling}
use Rattle.fk_model.specs.Outcomes.Said.{Nothing}
use Rattle.fk_model.specs.Outcomes.Outcome.{Refused, Waits, Goes}
use Rattle.fk_model.specs.LinkRows.{end_all}
use Rattle.fk_model.specs.StateRows.{is_native}
use Rattle.fk_model.specs.Shapes.{IsShapedMode, IsCodeInRange}
use Rattle.fk_model.specs.Valid.{all_in}
use Rattle.fk_model.specs.Whole.{is_placed, stands_in, is_scratch_slot, is_porters}
use Rattle.laws_moves.proofs.InSavable.Todos.{is_last_receive}
use Rattle.laws_moves.proofs.InSavable.Words.{IsWord, AreWords, AreArguments, IsNumbered, has_way}

-- ---- bodies

-- the words moved, and the page, are in range
abbrev pub IsFewMoved : Option Talk → Type 0
IsFewMoved None = Unit {0}
IsFewMoved (Some talk) = talk.moved ≤ MOST_MOVED

abbrev pub IsOnPage : Option Fault → Type 0
IsOnPage None = Unit {0}
IsOnPage (Some fault) = fault.page < PAGES

-- a thread's call is one that there is, and its numbers are in range
pub record IsTidyThread (t : Thread) : Type 0 where
  pub shaped : IsShapedMode t.mode
  pub stops : t.stops ≤ MOST_STOPS
  pub code : IsCodeInRange t.mode
  pub numbers : IsNumbered t.mode
  pub counter : IsWord t.counter
  pub moved : IsFewMoved t.talk
  pub missing : IsOnPage t.fault

abbrev pub IsTidy : Body → Type 0
IsTidy (Thread_of t) = IsTidyThread t
IsTidy other = Unit {0}

-- every thread is tidy
abbrev pub AreTidy : World → Type 0
AreTidy w = (x : Path) (t : Thread) → and_then thread_of (w.body x) ≡ Some t → IsTidyThread t

-- ---- what is left of a call

-- one stage at most
abbrev pub is_single : Mode → Bool
is_single (Calling (stage ∷ next ∷ todo) rest) = false
is_single other = true

-- the answers of its first stage aren't in the way of a later one
abbrev pub leaves_room : ℕ → Mode → Bool
leaves_room n (Calling (stage ∷ next ∷ todo) rest) = nat_le n 2 && is_last_receive (next ∷ todo)
leaves_room n other = true

abbrev pub of_thread : (Mode → Bool) → Option Body → Bool
of_thread test o = all_in (λ (t : Thread). test t.mode) (and_then thread_of o)

abbrev pub FitsAnswers : List ℕ → Option Body → Type 0
FitsAnswers [] o = Unit {0}
FitsAnswers (answer ∷ answers) o = of_thread (leaves_room (length (answer ∷ answers))) o ≡ true

-- ---- changes

-- no porter is told what to do, and nobody becomes one
pub record IsUsersMode (o : Option Body) (mode : Mode) : Type 0 where
  pub before : holds is_native o ≡ false
  pub user : is_porter mode ≡ false
  pub shaped : IsShapedMode mode
  pub code : IsCodeInRange mode
  pub numbers : IsNumbered mode

-- with this holder, what stands in a space's scratch slots is a porter's
abbrev pub KeepsScratch : World → Path → Option Ptr → Type 0
KeepsScratch v x holder = (k : ℕ) → is_scratch_slot k ≡ true → IsSome (v.body (k ∷ x)) →
    (holds is_native (v.body (LAST_PORTER_SLOT ∷ x)) || holds (leads_to (LAST_PORTER_SLOT ∷ parent x)) holder) ≡ true

abbrev pub IsOutside : Path → Option Ptr → Type 0
IsOutside x (Some (At y)) = is_within x y ≡ false
IsOutside x other = Unit {0}

abbrev pub IsKeptEdit : World → Path → Edit → Type 0
IsKeptEdit v x (SetHolder holder) = IsOutside x holder × KeepsScratch v x holder
IsKeptEdit v x (Proceed mode counter) = IsUsersMode (v.body x) mode × IsWord counter
IsKeptEdit v x (Shift count) = of_thread (has_way count) (v.body x) ≡ true
IsKeptEdit v x (Finish answers) = FitsAnswers answers (v.body x) × AreWords answers
IsKeptEdit v x (End status answers) = IsWord status × AreWords answers
IsKeptEdit v x (Replace stage) = (of_thread is_single (v.body x) ≡ true) × IsTodo (stage ∷ []) × AreArguments (stage ∷ [])
IsKeptEdit v x (SetStops stops) = stops ≤ MOST_STOPS
IsKeptEdit v x (SetTalk (Some talk)) = (is_placed v talk.port talk.peer ≡ true) × (talk.moved ≤ MOST_MOVED)
IsKeptEdit v x (SetPeer peer) = (talk : Talk) → talk_at v x ≡ Some talk → is_placed v talk.port peer ≡ true
IsKeptEdit v x (SetFault (Some fault)) = (all_in (is_placed v fault.port) fault.taker ≡ true) × (fault.page < PAGES)
IsKeptEdit v x (SetTaker (Some taker)) = (fault : Fault) → fault_at v x ≡ Some fault → is_placed v fault.port taker ≡ true
IsKeptEdit v x other = Unit {0}

abbrev pub is_port : Option Body → Bool
is_port o = holds (λ (port : Option ℕ × Bool). true) (and_then port_of o)

-- a porter is destroyed where nothing is left beside it
abbrev pub IsLastKill : World → Path → Type 0
IsLastKill v x = holds is_native (v.body x) ≡ true →
    ((k : ℕ) → is_port (v.body (k ∷ parent x)) ≡ false) × ((k : ℕ) → k < LAST_PORTER_SLOT → v.body (k ∷ parent x) ≡ None)

abbrev pub IsKept : World → Change → Type 0
IsKept v (Alter x edit) = IsKeptEdit v x edit
IsKept v (Make x body) = (stands_in (slot_of x) body ≡ true) × IsTidy body × (is_scratch_slot (slot_of x) ≡ true → is_porters v (parent x) ≡ true)
IsKept v (MakeSpace x holder) = (nat_le (slot_of x) LAST_USER_SLOT ≡ true) × IsOutside x holder
IsKept v (Kill x) = IsLastKill v x
IsKept v (Move x slot) = (nat_le (slot_of x) LAST_USER_SLOT ≡ true) × (nat_le slot LAST_USER_SLOT ≡ true)
IsKept v (PutPage space page words) = AreWords words
IsKept v (DropPage space page) = Unit {0}

-- each in the world that the earlier ones leave
abbrev pub AreKept : World → List Change → Type 0
AreKept v [] = Unit {0}
AreKept v (c ∷ cs) = IsKept v c × AreKept (apply c v) cs

-- ---- outcomes

abbrev pub KeptIn : World → Outcome → Type 0
KeptIn w (Refused status) = IsWord status
KeptIn w Waits = Unit {0}
KeptIn w (Goes changes said) = AreKept w changes

-- (a record, so that the world and the outcome are read off a goal)
pub record KeptOutcome (w : World) (o : Outcome) : Type 0 where
  pub kept : KeptIn w o

pub refused : {w : World} {status : ℕ} → IsWord status → KeptOutcome w (Refused status)
refused word = record { kept = word }

pub waits : {w : World} → KeptOutcome w Waits
waits = record { kept = tt }

pub goes : {w : World} {cs : List Change} {said : Said} → AreKept w cs → KeptOutcome w (Goes cs said)
goes kept = record { kept = kept }

-- ---- lists

pub kept-then : (cs ds : List Change) (w : World) → AreKept w cs → AreKept (apply_all cs w) ds → AreKept w (cs ++ ds)
unfolding apply_all
kept-then [] ds w kept after = after
kept-then (c ∷ cs) ds w kept after = (kept.0, kept-then cs ds (apply c w) kept.1 after)

pub kept-end_all : (ends : List Path) (w : World) → AreKept w (end_all ends)
kept-end_all [] w = tt
kept-end_all (x ∷ ends) w = ((refl, tt), kept-end_all ends _)

-- ---- checks

-- a reader that refuses does so with a word
pub record RefusesByWord {A : Type 0} (r : Result A ℕ) : Type 0 where
  pub word : (status : ℕ) → r ≡ Err status → IsWord status

pub kept->>= : {A : Type 0} (w : World) (r : Result A ℕ) (go : A → Outcome) → RefusesByWord r → ((a : A) → r ≡ Ok a → KeptOutcome w (go a)) →
    KeptOutcome w (r >>= go)
kept->>= w (Ok a) go fair kept = kept a refl
kept->>= w (Err status) go fair kept = refused (fair.word status refl)

pub kept-refuse : (w : World) (status : ℕ) (test : Bool) (go : Unit {0} → Outcome) → IsWord status → (test ≡ false → KeptOutcome w (go tt)) →
    KeptOutcome w (refuse status test >>= go)
kept-refuse w status true go word kept = refused word
kept-refuse w status false go word kept = kept refl

pub kept-or_refuse : {A : Type 0} (w : World) (status : ℕ) (o : Option A) (go : A → Outcome) → IsWord status → ((a : A) → o ≡ Some a → KeptOutcome w (go a)) →
    KeptOutcome w (or_refuse status o >>= go)
kept-or_refuse w status (Some a) go word kept = kept a refl
kept-or_refuse w status None go word kept = refused word

pub kept-when : (w : World) (test : Bool) (o : Outcome) → (test ≡ true → KeptOutcome w o) → KeptOutcome w (when test o)
kept-when w true o kept = kept refl
kept-when w false o kept = waits

pub if-kept : (w : World) (t : Bool) (a b : Outcome) → KeptOutcome w a → KeptOutcome w b → KeptOutcome w (if t then a else b)
if-kept w true a b first second = first
if-kept w false a b first second = second

-- ---- ends of a stage

pub kept-done_at : (w : World) (me : Path) (c : Caller) (cs : List Change) → AreKept w cs → KeptOutcome w (done_at me c cs [])
kept-done_at w me c cs kept = by c.is_porter
  where
    by : (porter : Bool) → KeptOutcome w (done_at me (record c { is_porter = porter }) cs [])
    by true = goes kept
    by false = goes (kept-then cs _ w kept ((tt, tt), tt))

pub kept-done : (w : World) (c : Caller) (cs : List Change) → AreKept w cs → KeptOutcome w (done c cs [])
kept-done w c cs kept = kept-done_at w _ c cs kept

-- a user's registers have room for the answers
pub kept-answers : (w : World) (c : Caller) (cs : List Change) (answers : List ℕ) → AreKept w cs →
    (c.is_porter ≡ false → FitsAnswers answers ((apply_all cs w).body (path_of c)) × AreWords answers) → KeptOutcome w (done c cs answers)
kept-answers w c cs answers kept fits = by c.is_porter fits
  where
    by : (porter : Bool) → (porter ≡ false → FitsAnswers answers ((apply_all cs w).body (path_of c)) × AreWords answers) →
        KeptOutcome w (done (record c { is_porter = porter }) cs answers)
    by true fits = goes kept
    by false fits = goes (kept-then cs _ w kept (fits refl, tt))

pub kept-ended : (w : World) (c : Caller) (cs : List Change) (answers : List ℕ) → AreKept w cs → AreWords answers → KeptOutcome w (ended c cs answers)
kept-ended w c cs answers kept words = by c.is_porter
  where
    by : (porter : Bool) → KeptOutcome w (ended (record c { is_porter = porter }) cs answers)
    by true = goes kept
    by false = goes (kept-then cs _ w kept ((refl, words), tt))

pub kept-stays : (w : World) (c : Caller) (cs : List Change) → AreKept w cs → KeptOutcome w (stays c cs)
kept-stays w c cs kept = goes kept

pub kept-telling : (w : World) (said : Said) (o : Outcome) → KeptOutcome w o → KeptOutcome w (telling said o)
kept-telling w said (Goes cs Nothing) kept = goes kept.kept
kept-telling w said o kept = kept
