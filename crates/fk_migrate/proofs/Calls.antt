-- A call for which a side asks, and what it hears, are those of the laws.
use Rattle.std.proofs.Common.{◌≡◌, ℕ, zero, suc, List, [], ◌∷◌, Option, Some, None, refl, sym, ap, subst, ◌∙◌}
use Rattle.fk_model.specs.declared.limits.TheConstants.{LAST_PORTER_SLOT, OWN_SPACE}
use Rattle.fk_model.specs.declared.moves.Ask.{Ask}
use Rattle.fk_model.specs.declared.moves.Ask.TheVariants as asks
use Rattle.fk_model.specs.declared.stage.Stage.TheVariants.{Destroy, SpaceRelease}
use Rattle.fk_model.specs.Runs.{Event, after}
use Rattle.fk_model.specs.World.{World}
use Rattle.fk_image.specs.declared.image.image.Image.{Image}
use Rattle.fk_sides.specs.Sides.{NearSide, FarSide, both, bare, asks_for, near_call, near_heard, near_at, saved_so, far_call, far_heard, made_so, undone_so}
use Rattle.fk_sides.specs.Sides.{restored}
use Rattle.laws_jobs.specs.Machines.{Head, heard, said_of, reply_of, call_of, IsReadyAt}
use Rattle.laws_jobs.specs.Machines.Head.{Asks, Stops}
use Rattle.laws_checkpoint.specs.Checkpoint as checks
use Rattle.laws_checkpoint.specs.Checkpoint.{checkpoint}
use Rattle.laws_restore.specs.Restore.Restore as restores
use Rattle.laws_restore.specs.Rooms.Restoring.{restore_of}
use Rattle.laws_handover.specs.NearSide as near
use Rattle.laws_handover.specs.NearSide.{Saved}
use Rattle.laws_handover.specs.FarSide as far
use Rattle.laws_handover.specs.FarSide.{Made}
use Rattle.laws_handover.specs.Handover.{near_own, near_moved, far_own, far_moved, saved_as, made_as, undone_as}
use Rattle.laws_migrate.specs.Migration.{Why, Job, top, called, told, checked, made, of_job, IsCalled, IsNearReady, IsFarReady}

-- the event of a call of the root's porter
abbrev pub call : Ask → Event
call ask = record { mover = LAST_PORTER_SLOT ∷ top; pick = None; ask = ask }

-- what a side hears of an event
abbrev pub Hears : {X : Type 0} → (ℕ → List ℕ → X) → World → Event → X
Hears hears w e = hears (reply_of (said_of w e)).status (reply_of (said_of w e)).words

-- the world behind it, and what the side has come to
abbrev pub IsNearOwn : ℕ → World → NearSide → Ask → Type 0
IsNearOwn slot w n ask = (after w (call ask) ≡ near_moved (both slot) w n) × (Hears (near_heard slot n) w (call ask) ≡ near_own (both slot) w n)

abbrev pub IsFarOwn : ℕ → World → FarSide → Ask → Type 0
IsFarOwn slot v f ask = (after v (call ask) ≡ far_moved (both slot) v f) × (Hears (far_heard slot f) v (call ask) ≡ far_own (both slot) v f)

abbrev some_ask : Ask → Option Ask
some_ask ask = Some ask

-- ---- near

saved_alike : (slot : ℕ) (s : Saved checks.State Image Why) → saved_so s ≡ saved_as (both slot) s
saved_alike slot (near.Goes s) = refl
saved_alike slot (near.Gathers i) = refl
saved_alike slot (near.Fails why) = refl

saves_own : (slot : ℕ) (w : World) (s : checks.State) (ask : Ask) (h : Head checks.End) → asks_for h ≡ Some ask →
    (after w (call ask) ≡ called w h) ×
    (near_at (checks.next slot s (reply_of (said_of w (call ask))).status (reply_of (said_of w (call ask))).words)
    ≡ saved_as (both slot) (checked (told (checkpoint slot) w s h)))
saves_own slot w s ask (Stops end) e = cc
saves_own slot w s ask (Asks stage words) e =
    let same : asks.Call stage words ≡ ask = cc in
    subst (λ (a : Ask). (after w (call a) ≡ after w (call_of top stage words)) ×
    (near_at (checks.next slot s (reply_of (said_of w (call a))).status (reply_of (said_of w (call a))).words)
    ≡ saved_as (both slot) (checked (heard (checkpoint slot) s (said_of w (call_of top stage words)))))) same
    (refl, saved_alike slot (checked (heard (checkpoint slot) s (said_of w (call_of top stage words)))))

pub near_calls : (slot : ℕ) (w : World) (n : NearSide) (ask : Ask) → near_call slot n ≡ Some ask → IsNearOwn slot w n ask
near_calls slot w (near.Saves s) ask e = saves_own slot w s ask (checks.head slot s) e
near_calls slot w (near.Clears i zero) ask e = let same : bare (Destroy OWN_SPACE slot) ≡ ask = cc in subst (IsNearOwn slot w (near.Clears i zero)) same (refl, refl)
near_calls slot w (near.Clears i (suc more)) ask e =
    let same : bare (Destroy OWN_SPACE slot) ≡ ask = cc in
    subst (IsNearOwn slot w (near.Clears i (suc more))) same (refl, refl)
near_calls slot w (near.Cancels i why) ask e =
    let same : bare (SpaceRelease OWN_SPACE slot) ≡ ask = cc in
    subst (IsNearOwn slot w (near.Cancels i why)) same (refl, refl)
near_calls slot w (near.Waits i) ask e = cc
near_calls slot w (near.Cleared i) ask e = cc
near_calls slot w (near.Cancelled i why) ask e = cc
near_calls slot w (near.Failed why) ask e = cc

called_ready : {A : Type 0} (w : World) (h : Head A) (ask : Ask) → asks_for h ≡ Some ask → IsReadyAt w (call ask) → IsCalled w h
called_ready w (Stops end) ask e ready = cc
called_ready w (Asks stage words) ask e ready = let same : asks.Call stage words ≡ ask = cc in subst (λ (a : Ask). IsReadyAt w (call a)) (sym same) ready

ready_as : (w : World) (one other : Ask) → some_ask one ≡ Some other → IsReadyAt w (call other) → IsReadyAt w (call one)
ready_as w one other e ready = let same : one ≡ other = cc in subst (λ (a : Ask). IsReadyAt w (call a)) (sym same) ready

pub near_is_ready : (slot : ℕ) (w : World) (n : NearSide) (ask : Ask) → near_call slot n ≡ Some ask → IsReadyAt w (call ask) → IsNearReady slot w n
near_is_ready slot w (near.Saves s) ask e ready = called_ready w (checks.head slot s) ask e ready
near_is_ready slot w (near.Clears i more) ask e ready = ready_as w (bare (Destroy OWN_SPACE slot)) ask e ready
near_is_ready slot w (near.Cancels i why) ask e ready = ready_as w (bare (SpaceRelease OWN_SPACE slot)) ask e ready
near_is_ready slot w (near.Waits i) ask e ready = cc
near_is_ready slot w (near.Cleared i) ask e ready = cc
near_is_ready slot w (near.Cancelled i why) ask e ready = cc
near_is_ready slot w (near.Failed why) ask e ready = cc

-- ---- far

made_alike : (slot : ℕ) (i : Image) (m : Made Job Why) → (made_so i m ≡ made_as (both slot) i m) × (undone_so i m ≡ undone_as (both slot) i m)
made_alike slot i (far.Goes j) = (refl, refl)
made_alike slot i far.Builds = (refl, refl)
made_alike slot i (far.Fails why) = (refl, refl)

-- what a restore hears
makes_own : (slot : ℕ) (v : World) (j : Job) (ask : Ask) (h : Head restores.End) → asks_for h ≡ Some ask →
    (after v (call ask) ≡ called v h) ×
    (restored slot j (reply_of (said_of v (call ask))).status (reply_of (said_of v (call ask))).words
    ≡ of_job j.image (made (told (restore_of slot j.image []) v j.state h)))
makes_own slot v j ask (Stops end) e = cc
makes_own slot v j ask (Asks stage words) e =
    let same : asks.Call stage words ≡ ask = cc in
    subst (λ (a : Ask). (after v (call a) ≡ after v (call_of top stage words)) ×
    (restored slot j (reply_of (said_of v (call a))).status (reply_of (said_of v (call a))).words
    ≡ of_job j.image (made (heard (restore_of slot j.image []) j.state (said_of v (call_of top stage words)))))) same (refl, refl)

pub far_calls : (slot : ℕ) (v : World) (f : FarSide) (ask : Ask) → far_call slot f ≡ Some ask → IsFarOwn slot v f ask
far_calls slot v (far.Makes i j) ask e =
    let its = makes_own slot v j ask (restores.head slot j.state) e in
    (its.0, ap (made_so i) its.1 ∙ (made_alike slot i (of_job j.image (made (told (restore_of slot j.image []) v j.state (restores.head slot j.state))))).0)
far_calls slot v (far.Undoes i j) ask e =
    let its = makes_own slot v j ask (restores.head slot j.state) e in
    (its.0, ap (undone_so i) its.1 ∙ (made_alike slot i (of_job j.image (made (told (restore_of slot j.image []) v j.state (restores.head slot j.state))))).1)
far_calls slot v (far.Releases i) ask e =
    let same : bare (SpaceRelease OWN_SPACE slot) ≡ ask = cc in
    subst (IsFarOwn slot v (far.Releases i)) same (refl, refl)
far_calls slot v (far.Clears i zero ready) ask e =
    let same : bare (Destroy OWN_SPACE slot) ≡ ask = cc in
    subst (IsFarOwn slot v (far.Clears i zero ready)) same (refl, refl)
far_calls slot v (far.Clears i (suc more) ready) ask e =
    let same : bare (Destroy OWN_SPACE slot) ≡ ask = cc in
    subst (IsFarOwn slot v (far.Clears i (suc more) ready)) same (refl, refl)
far_calls slot v (far.Listens got) ask e = cc
far_calls slot v (far.Built i) ask e = cc
far_calls slot v (far.Moved i) ask e = cc
far_calls slot v (far.Refuses i why) ask e = cc
far_calls slot v (far.Ended image ready) ask e = cc

pub far_is_ready : (slot : ℕ) (v : World) (f : FarSide) (ask : Ask) → far_call slot f ≡ Some ask → IsReadyAt v (call ask) → IsFarReady slot v f
far_is_ready slot v (far.Makes i j) ask e ready = called_ready v (restores.head slot j.state) ask e ready
far_is_ready slot v (far.Undoes i j) ask e ready = called_ready v (restores.head slot j.state) ask e ready
far_is_ready slot v (far.Releases i) ask e ready = ready_as v (bare (SpaceRelease OWN_SPACE slot)) ask e ready
far_is_ready slot v (far.Clears i more told_ready) ask e ready = ready_as v (bare (Destroy OWN_SPACE slot)) ask e ready
far_is_ready slot v (far.Listens got) ask e ready = cc
far_is_ready slot v (far.Built i) ask e ready = cc
far_is_ready slot v (far.Moved i) ask e ready = cc
far_is_ready slot v (far.Refuses i why) ask e ready = cc
far_is_ready slot v (far.Ended image told_ready) ask e ready = cc
