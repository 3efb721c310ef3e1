-- Which call is a restore's last, and when exactly its slot was taken.
use Rattle.std.proofs.Common.{◌≡◌, ℕ, zero, suc, Bool, true, false, cond, ◌==◌, IsSome, is_some, List, [], ◌∷◌, Option, Some, None, refl, sym, ◌∙◌}
use Rattle.fk_model.specs.declared.limits.TheConstants.{OWN_SPACE}
use Rattle.fk_model.specs.declared.stage.Stage.{Stage}
use Rattle.fk_model.specs.declared.stage.Stage.TheVariants.{Destroy, SpaceRelease}
use Rattle.fk_model.specs.declared.statuses.status.TheConstants.{OK}
use Rattle.laws_jobs.specs.Machines.Head.{Asks}
use Rattle.laws_restore.specs.Sites.Orders.{Order, passes}
use Rattle.laws_restore.specs.Restore.Rooms.{Room}
use Rattle.laws_restore.specs.Restore.Script.{script}
use Rattle.laws_restore.specs.Restore.Restore.{End, State, head, next, looked_at, refused}
use Rattle.laws_restore.specs.Restore.Restore.End.{Done, Occupied, NoPort}
use Rattle.laws_restore.specs.Restore.Restore.State.{Makes, Works, Clears, Over}
use Rattle.laws_restore.specs.Restore.Ends.{EndsSo}
use Rattle.laws_restore.specs.Restore.Rest.{IsLastCall, LastCallIsKnown, OccupiedIsExact}
use Rattle.laws_restore.proofs.InRestore.Coming.{ends_so}

module _ (slot : ℕ) (bind : ℕ → ℕ) (rooms : List Room) where
  by_end : (s : State) (stage : Stage) (a b : End) → a ≡ b → IsLastCall slot a s stage → IsLastCall slot b s stage
  by_end s stage a b e its = rw (sym e) its

  turned : (os : List Order) (o : Option ℕ) (end : End) → refused bind rooms os o ≡ Over end → ⊥
  turned os None end e = cc
  turned os (Some j) end e = cc

  last : (s : State) (stage : Stage) (words : List ℕ) (status : ℕ) (told : List ℕ) (end : End) → head slot s ≡ Asks stage words
      → next slot bind rooms s status told ≡ Over end → IsLastCall slot end s stage
  last Makes stage words status told end asks e = by (status == OK) e
    where
      by : (b : Bool) → cond b (Works (script slot bind rooms)) (Over Occupied) ≡ Over end → IsLastCall slot end Makes stage
      by true e = cc
      by false e = let is : Occupied ≡ end = cc in by_end Makes stage Occupied end is refl
  last (Works []) stage words status told end asks e = let is : Done ≡ end = cc in
      let stages : SpaceRelease OWN_SPACE slot ≡ stage = cc in by_end (Works []) stage Done end is (sym stages)
  last (Works (o ∷ os)) stage words status told end asks e = absurd (by (passes o status told) e)
    where
      by : (b : Bool) → cond b (Works os) (refused bind rooms os (looked_at o)) ≡ Over end → ⊥
      by true e = cc
      by false e = turned os (looked_at o) end e
  last (Clears [] zero port) stage words status told end asks e = let is : NoPort port ≡ end = cc in
      let stages : Destroy OWN_SPACE slot ≡ stage = cc in by_end (Clears [] zero port) stage (NoPort port) end is (sym stages)
  last (Clears [] (suc more) port) stage words status told end asks e = cc
  last (Clears (o ∷ os) more port) stage words status told end asks e = cc
  last (Over other) stage words status told end asks e = cc

pub last_call_is_known : LastCallIsKnown
last_call_is_known slot bind rooms s stage words status told end asks e = last slot bind rooms s stage words status told end asks e

pub occupied_is_exact : OccupiedIsExact
occupied_is_exact slot birth bind c rooms w v nester t end low its may work stops = (λ is. on end is ends, λ live. back end live ends)
  where
    ends : EndsSo w v nester slot bind c end
    ends = ends_so slot birth bind c rooms w v nester t end low its may work stops

    none : (Q : Type 0) → w.body (slot ∷ nester) ≡ None → IsSome (w.body (slot ∷ nester)) → Q
    none Q empty live = let off : is_some (w.body (slot ∷ nester)) ≡ false = rw empty refl in let both = sym live ∙ off in cc

    on : (end : End) → end ≡ Occupied → EndsSo w v nester slot bind c end → IsSome (w.body (slot ∷ nester))
    on Occupied is so = so.0
    on Done is so = cc
    on (NoPort port) is so = cc

    back : (end : End) → IsSome (w.body (slot ∷ nester)) → EndsSo w v nester slot bind c end → end ≡ Occupied
    back Occupied live so = refl
    back Done live so = none (Done ≡ Occupied) so.0 live
    back (NoPort port) live so = none (NoPort port ≡ Occupied) so.0 live
