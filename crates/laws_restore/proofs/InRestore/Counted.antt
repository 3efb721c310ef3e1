-- How many calls a restore makes: each makes its state less.
use Rattle.std.proofs.Common.{◌≡◌, ℕ, zero, suc, ◌+◌, ◌≤◌, Bool, true, false, cond, ◌==◌, List, [], ◌∷◌, length, Option, Some, None, arith}
use Rattle.fk_model.specs.declared.stage.Stage.{Stage}
use Rattle.fk_model.specs.declared.statuses.status.TheConstants.{OK}
use Rattle.fk_model.specs.Places.{Path}
use Rattle.fk_model.specs.World.{World}
use Rattle.fk_model.specs.Runs.{Event, after}
use Rattle.laws_jobs.specs.Machines.{reply_of, heard, said_of, call_of, own_moves, Interleaved}
use Rattle.laws_jobs.specs.Machines.Head.{Asks}
use Rattle.laws_jobs.specs.Machines.Interleaved.{Here, Another, Own}
use Rattle.laws_restore.specs.Sites.Orders.{Order, passes}
use Rattle.laws_restore.specs.Restore.Rooms.{Room}
use Rattle.laws_restore.specs.Restore.Script.{script}
use Rattle.laws_restore.specs.Restore.Restore.{State, head, next, looked_at, refused, objects, restore}
use Rattle.laws_restore.specs.Restore.Restore.State.{Makes, Works, Clears, Over}
use Rattle.laws_restore.specs.Restore.Restore.End.{Occupied}
use Rattle.laws_restore.specs.Restore.Ends.{RestoreIsCounted}

module _ (slot : ℕ) (bind : ℕ → ℕ) (rooms : List Room) where
  -- how many calls are left at most
  abbrev left : State → ℕ
  left Makes = length (script slot bind rooms) + (objects rooms + 7)
  left (Works os) = length os + (objects rooms + 6)
  left (Clears os more port) = length os + suc more
  left (Over end) = zero

  goes_on : (os : List Order) (o : Option ℕ) → left (refused bind rooms os o) ≤ length os + (objects rooms + 6)
  goes_on os None = omega arith
  goes_on os (Some j) = omega arith

  less : (s : State) (stage : Stage) (words : List ℕ) (status : ℕ) (told : List ℕ) → head slot s ≡ Asks stage words
      → suc (left (next slot bind rooms s status told)) ≤ left s
  less Makes stage words status told e = by (status == OK)
    where
      by : (t : Bool) → suc (left (cond t (Works (script slot bind rooms)) (Over Occupied))) ≤ length (script slot bind rooms) + (objects rooms + 7)
      by true = omega arith
      by false = omega arith
  less (Works []) stage words status told e = omega arith
  less (Works (o ∷ os)) stage words status told e = by (passes o status told)
    where
      by : (t : Bool) → suc (left (cond t (Works os) (refused bind rooms os (looked_at o)))) ≤ suc (length os) + (objects rooms + 6)
      by true = omega arith
      by false = let on = goes_on os (looked_at o) in omega (arith, on)
  less (Clears [] zero port) stage words status told e = omega arith
  less (Clears [] (suc more) port) stage words status told e = omega arith
  less (Clears (o ∷ os) more port) stage words status told e = omega arith
  less (Over end) stage words status told e = cc

  counted : (nester : Path) (w v : World) (s t : State) (es : List Event) → (run : Interleaved (restore slot bind rooms) nester w s es v t)
      → own_moves run ≤ left s
  counted nester _ _ _ _ _ (Here w s sound) = omega arith
  counted nester _ v _ t _ (Another w s e es _ _ sound works moves rest) = counted nester (after w e) v s t es rest
  counted nester _ v _ t _ (Own w s stage words es _ _ sound asks ready rest) =
      let reply = reply_of (said_of w (call_of nester stage words)) in
      let few = less s stage words reply.status reply.words asks in
      let later = counted nester (after w (call_of nester stage words)) v
      (heard (restore slot bind rooms) s (said_of w (call_of nester stage words))) t es rest in
      omega (arith, few, later)

pub is_counted : RestoreIsCounted
is_counted slot bind rooms w v nester t work =
    let reply = reply_of (said_of w (call_of nester work.stage work.words)) in
    let few = less slot bind rooms Makes work.stage work.words reply.status reply.words work.asked in
    let later = counted slot bind rooms nester (after w (call_of nester work.stage work.words)) v
    (heard (restore slot bind rooms) Makes (said_of w (call_of nester work.stage work.words))) t work.events work.run in
    omega (arith, few, later)
