-- What a row knows of a thread that is at a call still holds after the row's earlier changes.
use Rattle.std.proofs.Common.{◌≡◌, ℕ, ◌+◌, ◌≤◌, Bool, true, false, if◌then◌else◌, ◌&&◌, nat_le, List, [], ◌∷◌, Option, Some, None, option_map, refl, arith}
use Rattle.fk_model.specs.declared.stage.Stage.{Stage}
use Rattle.fk_model.specs.declared.stage.Stage.TheVariants.{ClientReceive, ClientSend, ServerReceive, ServerSend, ClientReceiveRef, ServerReceiveRef}
use Rattle.fk_model.specs.Places.{Path, same_path, Ptr}
use Rattle.fk_model.specs.Objects.{Mode, Talk, Thread, Body, thread_of, and_then}
use Rattle.fk_model.specs.Objects.Mode.{Running, Calling}
use Rattle.fk_model.specs.Objects.Body.{Mutex, Thread_of}
use Rattle.fk_model.specs.World.{World, Edit, edited, apply, shifted_in, replaced_in, finished_in}
use Rattle.fk_model.specs.World.Change.{Alter}
use Rattle.fk_model.specs.World.Edit.{SetLocked, SetPointer, Shift, Replace, Finish, SetTalk, CountMoved, PassTurn}
use Rattle.fk_model.specs.Valid.{all_in}
use Rattle.laws_moves.proofs.InSavable.Todos.{is_last_receive}
use Rattle.laws_moves.proofs.InSavable.Words.{below-word, word-below, has_way}
use Rattle.laws_moves.proofs.InSavable.Kept.{is_single, leaves_room, of_thread, FitsAnswers}
use Rattle.fk_model.specs.declared.thread.Turn.{Turn}

-- ---- tests of modes

pub of_thread-mono : (f g : Mode → Bool) → ((m : Mode) → f m ≡ true → g m ≡ true) → (o : Option Body) → of_thread f o ≡ true → of_thread g o ≡ true
of_thread-mono f g more o = by (and_then thread_of o)
  where
    by : (t : Option Thread) → all_in (λ (t : Thread). f t.mode) t ≡ true → all_in (λ (t : Thread). g t.mode) t ≡ true
    by None h = refl
    by (Some t) h = more t.mode h

single-room : (n : ℕ) (m : Mode) → is_single m ≡ true → leaves_room n m ≡ true
single-room n (Calling (stage ∷ next ∷ todo) rest) h = cc
single-room n (Calling (stage ∷ []) rest) h = refl
single-room n (Calling [] rest) h = refl
single-room n (Running g) h = refl
single-room n m h = refl

pub fits-single : (answers : List ℕ) (o : Option Body) → of_thread is_single o ≡ true → FitsAnswers answers o
fits-single [] o h = tt
fits-single (answer ∷ answers) o h = of_thread-mono is_single (leaves_room _) (single-room _) o h

-- ---- edits

-- an edit after which a test of a mode still holds
pub Leaves : Edit → (Mode → Bool) → Type 0
Leaves edit f = (o : Option Body) → of_thread f o ≡ true → of_thread f (option_map (edited edit) o) ≡ true

replaced-single : (stage : Stage) (m : Mode) → is_single m ≡ true → is_single (replaced_in stage m) ≡ true
replaced-single stage (Calling (old ∷ next ∷ todo) rest) h = cc
replaced-single stage (Calling (old ∷ []) rest) h = refl
replaced-single stage (Calling [] rest) h = refl
replaced-single stage m h = h

replace-leaves : (stage : Stage) → Leaves (Replace stage) is_single
unfolding Leaves edited
replace-leaves stage None h = refl
replace-leaves stage (Some (Thread_of t)) h = replaced-single stage t.mode h
replace-leaves stage (Some b) h = h

lock-leaves : (locked : Bool) (f : Mode → Bool) → Leaves (SetLocked locked) f
unfolding Leaves edited
lock-leaves locked f None h = refl
lock-leaves locked f (Some (Mutex old)) h = h
lock-leaves locked f (Some b) h = h

pointer-leaves : (to : Ptr) (f : Mode → Bool) → Leaves (SetPointer to) f
unfolding Leaves edited
pointer-leaves to f None h = refl
pointer-leaves to f (Some (Mutex old)) h = h
pointer-leaves to f (Some b) h = h

talk-leaves : (talk : Option Talk) (f : Mode → Bool) → Leaves (SetTalk talk) f
unfolding Leaves edited
talk-leaves talk f None h = refl
talk-leaves talk f (Some (Thread_of t)) h = h
talk-leaves talk f (Some b) h = h

and-second : (a b : Bool) → (a && b) ≡ true → b ≡ true
and-second true b h = h
and-second false b h = cc

finished-room : (n : ℕ) (t : Thread) (m : Mode) → leaves_room n m ≡ true → leaves_room n t.mode ≡ true → leaves_room n (finished_in [] t m).mode ≡ true
finished-room n t (Calling (stage ∷ next ∷ more ∷ todo) rest) h its = let no = and-second (nat_le n 2) (is_last_receive (next ∷ more ∷ todo)) h in cc
finished-room n t (Calling (stage ∷ next ∷ []) rest) h its = refl
finished-room n t (Calling (stage ∷ []) rest) h its = refl
finished-room n t (Calling [] rest) h its = refl
finished-room n t m h its = its

finish-leaves : (n : ℕ) → Leaves (Finish []) (leaves_room n)
unfolding Leaves edited
finish-leaves n None h = refl
finish-leaves n (Some (Thread_of t)) h = finished-room n t t.mode h h
finish-leaves n (Some b) h = h

-- ---- in a world

altered : (y : Path) (edit : Edit) (f : Mode → Bool) → Leaves edit f → (v : World) (x : Path) → of_thread f (v.body x) ≡ true →
    of_thread f ((apply (Alter y edit) v).body x) ≡ true
unfolding apply Leaves
altered y edit f leaves v x h = by (same_path x y)
  where
    by : (t : Bool) → of_thread f (if t then option_map (edited edit) (v.body x) else v.body x) ≡ true
    by true = leaves (v.body x) h
    by false = h

pub single-replaced : (y : Path) (stage : Stage) (v : World) (x : Path) → of_thread is_single (v.body x) ≡ true →
    of_thread is_single ((apply (Alter y (Replace stage)) v).body x) ≡ true
single-replaced y stage v x h = altered y (Replace stage) is_single (replace-leaves stage) v x h

pub single-locked : (y : Path) (locked : Bool) (v : World) (x : Path) → of_thread is_single (v.body x) ≡ true →
    of_thread is_single ((apply (Alter y (SetLocked locked)) v).body x) ≡ true
single-locked y locked v x h = altered y (SetLocked locked) is_single (lock-leaves locked is_single) v x h

pub single-pointed : (y : Path) (to : Ptr) (v : World) (x : Path) → of_thread is_single (v.body x) ≡ true →
    of_thread is_single ((apply (Alter y (SetPointer to)) v).body x) ≡ true
single-pointed y to v x h = altered y (SetPointer to) is_single (pointer-leaves to is_single) v x h

pub room-talked : (y : Path) (talk : Option Talk) (n : ℕ) (v : World) (x : Path) → of_thread (leaves_room n) (v.body x) ≡ true →
    of_thread (leaves_room n) ((apply (Alter y (Finish [])) (apply (Alter y (SetTalk talk)) v)).body x) ≡ true
room-talked y talk n v x h =
    altered y (Finish []) (leaves_room n) (finish-leaves n) (apply (Alter y (SetTalk talk)) v) x
    (altered y (SetTalk talk) (leaves_room n) (talk-leaves talk (leaves_room n)) v x h)

-- ---- the way of a Send or a Receive

pub way-less : (k n : ℕ) → k ≤ n → (m : Mode) → has_way n m ≡ true → has_way k m ≡ true
way-less k n few (Calling (ClientSend address count ∷ todo) rest) way =
    let far = word-below (address + n) way in below-word (address + k) (omega (arith, few, far))
way-less k n few (Calling (ClientReceive address count ∷ todo) rest) way =
    let far = word-below (address + n) way in below-word (address + k) (omega (arith, few, far))
way-less k n few (Calling (ServerSend address count ∷ todo) rest) way =
    let far = word-below (address + n) way in below-word (address + k) (omega (arith, few, far))
way-less k n few (Calling (ServerReceive address count ∷ todo) rest) way =
    let far = word-below (address + n) way in below-word (address + k) (omega (arith, few, far))
way-less k n few (Calling (ClientReceiveRef address count reference ∷ todo) rest) way =
    let far = word-below (address + n) way in below-word (address + k) (omega (arith, few, far))
way-less k n few (Calling (ServerReceiveRef address count reference ∷ todo) rest) way =
    let far = word-below (address + n) way in below-word (address + k) (omega (arith, few, far))
way-less k n few (Calling (stage ∷ todo) rest) way = refl
way-less k n few (Calling [] rest) way = refl
way-less k n few (Running g) way = refl
way-less k n few m way = refl

-- k words of it are gone, and k are left
way-after : (k : ℕ) → k ≤ 64 → (m : Mode) → has_way 128 m ≡ true → has_way k (shifted_in k m) ≡ true
way-after k few (Calling (ClientSend address count ∷ todo) rest) way =
    let far = word-below (address + 128) way in below-word (address + k + k) (omega (arith, few, far))
way-after k few (Calling (ClientReceive address count ∷ todo) rest) way =
    let far = word-below (address + 128) way in below-word (address + k + k) (omega (arith, few, far))
way-after k few (Calling (ServerSend address count ∷ todo) rest) way =
    let far = word-below (address + 128) way in below-word (address + k + k) (omega (arith, few, far))
way-after k few (Calling (ServerReceive address count ∷ todo) rest) way =
    let far = word-below (address + 128) way in below-word (address + k + k) (omega (arith, few, far))
way-after k few (Calling (ClientReceiveRef address count reference ∷ todo) rest) way =
    let far = word-below (address + 128) way in below-word (address + k + k) (omega (arith, few, far))
way-after k few (Calling (ServerReceiveRef address count reference ∷ todo) rest) way =
    let far = word-below (address + 128) way in below-word (address + k + k) (omega (arith, few, far))
way-after k few (Calling (stage ∷ todo) rest) way = refl
way-after k few (Calling [] rest) way = refl
way-after k few (Running g) way = refl
way-after k few m way = refl

counted-leaves : (count : ℕ) (f : Mode → Bool) → Leaves (CountMoved count) f
unfolding Leaves edited
counted-leaves count f None h = refl
counted-leaves count f (Some (Thread_of t)) h = h
counted-leaves count f (Some (Mutex locked)) h = h
counted-leaves count f (Some b) h = h

pub way-counted : (y : Path) (count n : ℕ) (v : World) (x : Path) → of_thread (has_way n) (v.body x) ≡ true →
    of_thread (has_way n) ((apply (Alter y (CountMoved count)) v).body x) ≡ true
way-counted y count n v x h = altered y (CountMoved count) (has_way n) (counted-leaves count (has_way n)) v x h

-- whoever is shifted, it may be the same thread
pub way-shifted : (y : Path) (k : ℕ) → k ≤ 64 → (v : World) (x : Path) → of_thread (has_way 128) (v.body x) ≡ true →
    of_thread (has_way k) ((apply (Alter y (Shift k)) v).body x) ≡ true
unfolding apply edited
way-shifted y k few v x h = by (same_path x y)
  where
    of : (o : Option Body) → of_thread (has_way 128) o ≡ true → of_thread (has_way k) (option_map (edited (Shift k)) o) ≡ true
    of None h = refl
    of (Some (Thread_of t)) h = way-after k few t.mode h
    of (Some (Mutex locked)) h = refl
    of (Some b) h = refl

    by : (t : Bool) → of_thread (has_way k) (if t then option_map (edited (Shift k)) (v.body x) else v.body x) ≡ true
    by true = of (v.body x) h
    by false = of_thread-mono (has_way 128) (has_way k) (way-less k 128 (omega (arith, few))) (v.body x) h

-- ---- a turn that passes

turn-leaves : (turn : Turn) (f : Mode → Bool) → Leaves (PassTurn turn) f
unfolding Leaves edited
turn-leaves turn f None h = refl
turn-leaves turn f (Some (Thread_of t)) h = h
turn-leaves turn f (Some (Mutex locked)) h = h
turn-leaves turn f (Some b) h = h

pub single-turned : (y : Path) (turn : Turn) (v : World) (x : Path) → of_thread is_single (v.body x) ≡ true →
    of_thread is_single ((apply (Alter y (PassTurn turn)) v).body x) ≡ true
single-turned y turn v x h = altered y (PassTurn turn) is_single (turn-leaves turn is_single) v x h
