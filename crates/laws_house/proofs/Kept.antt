-- What a run keeps of its first world: it is nobody's cut, and porters and served ports stand where they stood.
use Rattle.std.proofs.Common.{◌≡◌, ℕ, ◌+◌, ◌≤◌, Bool, true, false, cond, nat_le, List, [], ◌∷◌, length, length-append, refl, sym, subst, arith, ◌∙◌}
use Rattle.fk_model.specs.declared.limits.TheConstants.{LAST_PORTER_SLOT}
use Rattle.fk_model.specs.declared.moves.Ask.TheVariants as asks
use Rattle.fk_model.specs.declared.moves.Move.{Move}
use Rattle.fk_model.specs.Objects.{holds, is_served}
use Rattle.fk_model.specs.Places.{Path}
use Rattle.fk_model.specs.World.{World}
use Rattle.fk_model.specs.Searches.{depth}
use Rattle.fk_model.specs.StateRows.{is_native}
use Rattle.fk_model.specs.Runs.{Event, after}
use Rattle.fk_model.specs.Valid.{is_fit, birth_at}
use Rattle.fk_model.specs.Who.{event_of}
use Rattle.fk_model.specs.Sound.{IsUncut}
use Rattle.laws_moves.specs.Savable.Savable.{IsSound}
use Rattle.laws_subtrees.proofs.InUncut.Kept.{keeps_uncut}
use Rattle.laws_subtrees.proofs.InUncut.Stood.{porters_stood, served_stood}
use Rattle.laws_subtrees.proofs.InUncut.Staying.{porters_space_stays}
use Rattle.laws_jobs.specs.Machines.{Head, heard, said_of}
use Rattle.laws_jobs.specs.Machines.Head.{Stops, Asks}
use Rattle.laws_runs.specs.Cores.{House, Core, Asker, asker, job_moved, moved_by, moved, with_end, Settles, IsRun, world_at}
use Rattle.laws_runs.specs.Cores.Settles.{Stays, Ends}
use Rattle.laws_runs.specs.Cores.IsRun.{Begins, Goes}
use Rattle.laws_runs.specs.Cores.Asker.{Nobody, Others, Job as Asked_by_job}
use Rattle.laws_runs.specs.Composed.{AskAsUsers, JobsMeetContract, IsStart}
use Rattle.laws_runs.proofs.Composing.{stands, made_here}

-- ---- each world of a run is nobody's cut

module _ {J S A V : Type 0} (h : House J S A V) (first : Core S A V) where
  settled_world : (c d : Core S A V) → Settles h c d → d.world ≡ c.world
  settled_world _ _ (Stays c none) = refl
  settled_world _ _ (Ends c d why now rest) = settled_world (with_end c why) d rest

  moved_uncut : (c : Core S A V) (m : Move) (a : Asker S) → IsUncut c.world → IsUncut (moved_by h c m a).world
  moved_uncut c m Nobody uncut = uncut
  moved_uncut c m (Others ask) uncut = keeps_uncut c.world (event_of c.world ask m) uncut
  moved_uncut c m (Asked_by_job begun s stage words) uncut = by (heard h.machine s (said_of c.world event))
      (h.machine.head (heard h.machine s (said_of c.world event)))
    where
      event : Event
      event = event_of c.world (asks.Call stage words) m

      by : (t : S) (head : Head A) → IsUncut (job_moved h c event begun t head).world
      by t (Asks more given) = keeps_uncut c.world event uncut
      by t (Stops end) = keeps_uncut c.world event uncut

  pub uncut_run : {c : Core S A V} {past : List Move} → IsRun h first past c → IsUncut first.world → IsUncut c.world
  uncut_run Begins uncut = uncut
  uncut_run (Goes past c m d run ready settles) uncut = subst IsUncut (sym (settled_world (moved h c m) d settles))
      (moved_uncut c m (asker h c m.who) (uncut_run run uncut))

  pub uncut_at : {c : Core S A V} {past : List Move} (run : IsRun h first past c) → IsUncut first.world → (k : ℕ) → IsUncut (world_at run k)
  uncut_at Begins uncut k = uncut
  uncut_at (Goes past c m d run ready settles) uncut k = by (nat_le k (length past)) (uncut_at run uncut k)
      (uncut_run (Goes past c m d run ready settles) uncut)
    where
      by : (t : Bool) → IsUncut (world_at run k) → IsUncut d.world → IsUncut (cond t (world_at run k) d.world)
      by true one two = one
      by false one two = two

-- ---- porters and served ports of a later world

pub record Stood (first w : World) : Type 0 where
  pub porters : (x : Path) → holds is_native (w.body (LAST_PORTER_SLOT ∷ x)) ≡ true → holds is_native (first.body (LAST_PORTER_SLOT ∷ x)) ≡ true
  pub served : (x : Path) → holds is_served (w.body x) ≡ true → holds is_served (first.body x) ≡ true
  pub births : (x : Path) → holds is_native (w.body (LAST_PORTER_SLOT ∷ x)) ≡ true → birth_at w x ≡ birth_at first x

stood_on : (first w : World) (e : Event) → IsUncut w → IsSound w → is_fit w e.mover e.ask ≡ true → Stood first w → Stood first (after w e)
stood_on first w e uncut sound fit stood = record {
  porters = λ x there. stood.porters x (porters_stood w e uncut x there);
  served = λ x there. stood.served x (served_stood w e uncut x there);
  births = λ x there. porters_space_stays w e uncut sound.whole.valid sound.whole.few fit x there ∙ stood.births x (porters_stood w e uncut x there);
}

module _ {J S A V : Type 0} (h : House J S A V) (first : Core S A V) (users : AskAsUsers h) (tidy : JobsMeetContract h) (start : IsStart first)
    (uncut : IsUncut first.world) where
  stood_now : {c : Core S A V} {past : List Move} (run : IsRun h first past c) → first.world.next + length past ≤ depth → Stood first.world c.world
  stood_now Begins left = record { porters = λ x there. there; served = λ x there. there; births = λ x there. refl }
  stood_now (Goes past c m d run ready settles) left =
      let longer = length-append past (m ∷ []) in
      let stand = stands h first users tidy start run (omega (arith, left, longer)) in
      let made = made_here h first users tidy start past c m d run ready settles stand (omega (arith, left, longer)) in
      let sound = subst IsSound stand.last (stand.sound (length past) (omega arith)) in
      subst (Stood first.world) (sym made.goes)
      (stood_on first.world c.world made.event (uncut_run h first run uncut) sound made.proper.fit (stood_now run (omega (arith, left, longer))))

  pub stood_at : {c : Core S A V} {past : List Move} (run : IsRun h first past c) → first.world.next + length past ≤ depth → (k : ℕ)
      → Stood first.world (world_at run k)
  stood_at Begins left k = record { porters = λ x there. there; served = λ x there. there; births = λ x there. refl }
  stood_at (Goes past c m d run ready settles) left k =
      let longer = length-append past (m ∷ []) in
      by (nat_le k (length past)) (stood_at run (omega (arith, left, longer)) k) (stood_now (Goes past c m d run ready settles) left)
    where
      by : (t : Bool) → Stood first.world (world_at run k) → Stood first.world d.world → Stood first.world (cond t (world_at run k) d.world)
      by true one two = one
      by false one two = two
