-- What is ready in the far kernel is a step of the handover, and a turn there makes it.
use Rattle.std.proofs.Common.{◌≡◌, ℕ, Bool, true, false, ◌∷◌, Option, Some, None, option_map, if◌then◌else◌, refl, sym, ap, subst, ◌∙◌}
use Rattle.fk_model.specs.declared.limits.TheConstants.{LAST_PORTER_SLOT, OWN_SPACE}
use Rattle.fk_model.specs.declared.moves.Ask.{Ask}
use Rattle.fk_model.specs.declared.moves.Move.{Move}
use Rattle.fk_model.specs.declared.moves.Said.{Said}
use Rattle.fk_model.specs.declared.names.Who.{Who}
use Rattle.fk_model.specs.declared.stage.Stage.TheVariants.{Destroy, SpaceRelease}
use Rattle.fk_model.specs.Moves.{Step as Stepped}
use Rattle.fk_model.specs.Valid.{is_fit}
use Rattle.fk_model.specs.Who.{event_of}
use Rattle.fk_model.specs.World.{World}
use Rattle.fk_host.specs.Hosts.{IsStepped, IsTurn}
use Rattle.fk_packets.specs.declared.events.Event.TheVariants as events
use Rattle.fk_served.specs.Kernels.{Kept}
use Rattle.fk_served.specs.Kernels.{world_of as world}
use Rattle.fk_served.specs.Kernels.{path_of as path}
use Rattle.fk_served.specs.Served.{Services, asked}
use Rattle.fk_store.specs.Store.Moves.{said_by}
use Rattle.laws_jobs.specs.Machines.{Reply, reply_of, said_of, IsReadyAt}
use Rattle.laws_restore.specs.Restore.Restore as restores
use Rattle.laws_handover.specs.FarSide as far
use Rattle.laws_handover.specs.Handover as handover
use Rattle.laws_migrate.specs.Fits as fits_laws
use Rattle.laws_migrate.specs.Migration.{top, IsFarReady}
use Rattle.fk_sides.specs.declared.far.Makes.{Makes}
use Rattle.fk_sides.specs.Fars.{IsFar}
use Rattle.fk_sides.specs.Sides.{FarSide, bare, far_call, far_heard}
use Rattle.fk_migrate.specs.Turns.{FarPart, is_porters, given_in, heard_by, status_in, words_in, IsKept, IsFarMove, IsFarFit, IsTurnGiven}
use Rattle.fk_migrate.specs.Runs.{Run, Step, near_part, far_part, far_step, own_step, own_event, heard, step_of, next_run, IsReadyAs, IsReadyEvent}
use Rattle.fk_migrate.specs.Parts.{FarLands}
use Rattle.fk_migrate.proofs.Calls.{call, far_calls, far_is_ready}
use Rattle.fk_migrate.proofs.Moving.{AsksCalls, IsMove, IsMade, moves, moves_back, fits, made}
use Rattle.fk_migrate.proofs.Nearing.{head_calls, bare_calls, head_asks, head_fits, bare_fits, destroy_fits, release_fits, is_others, replied, some_step}

-- ---- calls

far_asks_calls : (slot : ℕ) (f : FarSide) → AsksCalls (far_call slot f)
far_asks_calls slot (far.Makes i j) = head_calls (restores.head slot j.state)
far_asks_calls slot (far.Undoes i j) = head_calls (restores.head slot j.state)
far_asks_calls slot (far.Releases i) = bare_calls (SpaceRelease OWN_SPACE slot)
far_asks_calls slot (far.Clears i more ready) = bare_calls (Destroy OWN_SPACE slot)
far_asks_calls slot (far.Listens got) = λ ask e. cc
far_asks_calls slot (far.Built i) = λ ask e. cc
far_asks_calls slot (far.Moved i) = λ ask e. cc
far_asks_calls slot (far.Refuses i why) = λ ask e. cc
far_asks_calls slot (far.Ended image ready) = λ ask e. cc

far_asks : (slot : ℕ) (w : World) (f : FarSide) → IsFarReady slot w f → (ask : Ask) × (far_call slot f ≡ Some ask) × IsReadyAt w (call ask)
far_asks slot w (far.Makes i j) ready = head_asks w (restores.head slot j.state) ready
far_asks slot w (far.Undoes i j) ready = head_asks w (restores.head slot j.state) ready
far_asks slot w (far.Releases i) ready = (bare (SpaceRelease OWN_SPACE slot), refl, ready)
far_asks slot w (far.Clears i more told) ready = (bare (Destroy OWN_SPACE slot), refl, ready)
far_asks slot w (far.Listens got) ready = absurd ready
far_asks slot w (far.Built i) ready = absurd ready
far_asks slot w (far.Moved i) ready = absurd ready
far_asks slot w (far.Refuses i why) ready = absurd ready
far_asks slot w (far.Ended image told) ready = absurd ready

-- ---- fit

far_call_fits : (slot : ℕ) (w : World) (f : FarSide) → fits_laws.IsFarFit slot w f → (ask : Ask) → far_call slot f ≡ Some ask
    → is_fit w (LAST_PORTER_SLOT ∷ top) ask ≡ true
far_call_fits slot w (far.Makes i j) fit ask e = head_fits w (restores.head slot j.state) ask e fit
far_call_fits slot w (far.Undoes i j) fit ask e = head_fits w (restores.head slot j.state) ask e fit
far_call_fits slot w (far.Releases i) fit ask e = bare_fits w (SpaceRelease OWN_SPACE slot) ask e (release_fits w slot)
far_call_fits slot w (far.Clears i more ready) fit ask e = bare_fits w (Destroy OWN_SPACE slot) ask e (destroy_fits w slot)
far_call_fits slot w (far.Listens got) fit ask e = cc
far_call_fits slot w (far.Built i) fit ask e = cc
far_call_fits slot w (far.Moved i) fit ask e = cc
far_call_fits slot w (far.Refuses i why) fit ask e = cc
far_call_fits slot w (far.Ended image ready) fit ask e = cc

-- a move that is ready is fit
pub far_fits : (slot : ℕ) (p : FarPart) (f : FarSide) (m : Move) → fits_laws.IsFarFit slot p.world f → IsFarMove slot p f m → IsFarFit slot p f m
far_fits slot p f m fit ready =
    let calls = far_asks_calls slot f in
    fits p.servers p.world (far_call slot f) m calls (far_call_fits slot p.world f fit) (moves p.servers p.world (far_call slot f) m calls ready)

-- ---- whose step it is

abbrev own : Step
own = handover.FarOwn

abbrev of_others : World → Move → Ask → Step
of_others w m ask = handover.OfFar (event_of w ask m)

own_is : (w : World) (servers : Services) (m : Move) → is_porters w m ≡ true → m.pick ≡ None → far_step w servers m ≡ Some own
own_is w servers m is picks = λ i. if is i then own_step own (picks i) else option_map (of_others w m) (asked servers w m.who)

others_is : (w : World) (servers : Services) (m : Move) (ask : Ask) → is_porters w m ≡ false → asked servers w m.who ≡ Some ask
    → far_step w servers m ≡ Some (of_others w m ask)
others_is w servers m ask is e = λ i. if is i then own_step own m.pick else option_map (of_others w m) (e i)

step_ready : (slot : ℕ) (r : Run) (m : Move) → IsKept r.far_servers r.pair.far_world m.who
    → IsMove r.far_servers r.pair.far_world (far_call slot r.pair.far) m → IsReadyAs slot r (far_step r.pair.far_world r.far_servers m)
step_ready slot r m kept (IsMove.Own ask is picks e ready) =
    subst (IsReadyAs slot r) (sym (own_is r.pair.far_world r.far_servers m is picks))
    (far_is_ready slot r.pair.far_world r.pair.far ask e ready, kept.room)
step_ready slot r m kept (IsMove.Others ask is e ready) =
    subst (IsReadyAs slot r) (sym (others_is r.pair.far_world r.far_servers m ask is e))
    (is_others r.pair.far_world r.far_servers m ask kept is e ready)

pub far_ready : (slot : ℕ) (r : Run) (m : Move) → IsKept r.far_servers r.pair.far_world m.who → IsFarMove slot (far_part r) r.pair.far m
    → IsReadyEvent slot r (events.Far m)
far_ready slot r m kept ready =
    step_ready slot r m kept (moves r.far_servers r.pair.far_world (far_call slot r.pair.far) m (far_asks_calls slot r.pair.far) ready)

step_back : (slot : ℕ) (r : Run) (m : Move) → IsReadyAs slot r (far_step r.pair.far_world r.far_servers m)
    → IsMove r.far_servers r.pair.far_world (far_call slot r.pair.far) m
step_back slot r m ready = by (is_porters r.pair.far_world m) refl ready
  where
    by_pick : (pick : Option Who) → is_porters r.pair.far_world m ≡ true → m.pick ≡ pick → IsReadyAs slot r (own_step own pick)
        → IsMove r.far_servers r.pair.far_world (far_call slot r.pair.far) m
    by_pick None is picks ready =
        let asks_it = far_asks slot r.pair.far_world r.pair.far ready.0 in
        IsMove.Own asks_it.0 is picks asks_it.1 asks_it.2
    by_pick (Some who) is picks ready = absurd ready

    by_asked : (o : Option Ask) → is_porters r.pair.far_world m ≡ false → asked r.far_servers r.pair.far_world m.who ≡ o
        → IsReadyAs slot r (option_map (of_others r.pair.far_world m) o) → IsMove r.far_servers r.pair.far_world (far_call slot r.pair.far) m
    by_asked None is e ready = absurd ready
    by_asked (Some ask) is e ready = IsMove.Others ask is e ready.moves.ready

    by : (b : Bool) → is_porters r.pair.far_world m ≡ b
        → IsReadyAs slot r (if b then own_step own m.pick else option_map (of_others r.pair.far_world m) (asked r.far_servers r.pair.far_world m.who))
        → IsMove r.far_servers r.pair.far_world (far_call slot r.pair.far) m
    by true is ready = by_pick m.pick is refl ready
    by false is ready = by_asked (asked r.far_servers r.pair.far_world m.who) is refl ready

pub far_back : (slot : ℕ) (r : Run) (m : Move) → IsReadyEvent slot r (events.Far m) → IsFarMove slot (far_part r) r.pair.far m
far_back slot r m ready =
    moves_back r.far_servers r.pair.far_world (far_call slot r.pair.far) m (far_asks_calls slot r.pair.far) (step_back slot r m ready)

-- ---- a turn

module _ (slot : ℕ) (k n : Kept) (servers new : Services) (m : Move) (said : Said) where
  abbrev before : FarPart
  before = record { world = world k; servers = servers }

  abbrev behind : FarPart
  behind = record { world = world n; servers = new }

  -- a run at this part of the far kernel
  abbrev placed : Run → FarPart → Run
  placed r p = record r { pair = record r.pair { far_world = p.world }; far_servers = p.servers }

  -- what the side makes of it
  abbrev hears : Run → FarSide
  hears r = heard_by (is_porters (world k) m) (far_heard slot r.pair.far) r.pair.far said

  abbrev Lands : Run → Step → Type 0
  Lands r step = (behind ≡ far_part (next_run slot (placed r before) step)) × (hears r ≡ (next_run slot (placed r before) step).pair.far)

  by_others : (r : Run) (ask : Ask) → IsStepped k servers (event_of (world k) ask m) said n new → is_porters (world k) m ≡ false
      → Lands r (of_others (world k) m ask)
  by_others r ask stepped porters = (
    λ i. record { world = sym (ap (λ (x : Stepped). x.world) stepped.step) i; servers = stepped.hears i },
    ap (λ (b : Bool). heard_by b (far_heard slot r.pair.far) r.pair.far said) porters,
  )

  by_own : (r : Run) (ask : Ask) → far_call slot r.pair.far ≡ Some ask → IsStepped k servers (call ask) said n new → is_porters (world k) m ≡ true
      → Lands r own
  by_own r ask e stepped porters =
      let its = far_calls slot (world k) r.pair.far ask e in
      let told : said_of (world k) (call ask) ≡ said_by (path n) said = ap (λ (x : Stepped). x.said) stepped.step in
      let reply : reply_of (said_of (world k) (call ask)) ≡ record { status = status_in said; words = words_in said } = ap reply_of told ∙ replied (path n) said in
      let worlds = sym (ap (λ (x : Stepped). x.world) stepped.step) ∙ its.0 in
      let heard_it = stepped.hears ∙ ap (λ (o : Option Ask). heard (world k) servers (own_event o)) (sym e) in
      let sides = ap (λ (b : Bool). heard_by b (far_heard slot r.pair.far) r.pair.far said) porters
      ∙ ap (λ (x : Reply). far_heard slot r.pair.far x.status x.words) (sym reply) ∙ its.1 in
      (λ i. record { world = worlds i; servers = heard_it i }, sides)

  landed : (r : Run) (step : Step) → far_step (world k) servers m ≡ Some step → IsMade k servers (far_call slot r.pair.far) m said n new → Lands r step
  landed r step is (IsMade.Own ask porters picks e stepped) =
      subst (Lands r) (some_step own step (sym (own_is (world k) servers m porters picks) ∙ is)) (by_own r ask e stepped porters)
  landed r step is (IsMade.Others ask porters e stepped) =
      subst (Lands r) (some_step (of_others (world k) m ask) step (sym (others_is (world k) servers m ask porters e) ∙ is))
      (by_others r ask stepped porters)

  all_landed : (r : Run) (step : Step) → before ≡ far_part r → step_of r (events.Far m) ≡ Some step → IsMade k servers (far_call slot r.pair.far) m said n new
      → (behind ≡ far_part (next_run slot r step)) × (hears r ≡ (next_run slot r step).pair.far)
  all_landed r step same is its =
      subst (λ (p : FarPart). far_step p.world p.servers m ≡ Some step
      → (behind ≡ far_part (next_run slot (placed r p) step)) × (hears r ≡ (next_run slot (placed r p) step).pair.far)) same
      (λ is. landed r step is its) is

  -- a turn, as the code makes it
  pub far_turned : (makes new_makes : Makes) (given : Option Ask) (ask : Ask) (b : Bool)
      → ((f : FarSide) → IsFar makes f → given ≡ given_in (world k) (far_call slot f) m) → given ≡ Some ask → IsTurn k servers m ask said n new
      → b ≡ is_porters (world k) m → ((f : FarSide) → IsFar makes f → IsFar new_makes (heard_by b (far_heard slot f) f said))
      → FarLands slot (record { world = world k; servers = servers }) makes m (record { world = world n; servers = new }) new_makes
  far_turned makes new_makes given ask b gives asks_it turn porters heard_it r step same is_far is =
      let its = made k servers (far_call slot r.pair.far) m said n new (far_asks_calls slot r.pair.far)
      (subst (λ (o : Option Ask). IsTurnGiven k servers m o said n new) (sym asks_it ∙ gives r.pair.far is_far) turn) in
      let there = all_landed r step same is its in
      record {
        part = there.0;
        side = subst (IsFar new_makes) (ap (λ (c : Bool). heard_by c (far_heard slot r.pair.far) r.pair.far said) porters ∙ there.1) (heard_it r.pair.far is_far);
      }

-- and the near kernel stays
module _ (slot : ℕ) (r : Run) where
  abbrev Alone : Step → Type 0
  Alone s = near_part (next_run slot r s) ≡ near_part r

  alone_pick : (step : Step) (pick : Option Who) → own_step own pick ≡ Some step → Alone step
  alone_pick step None is = subst Alone (some_step own step is) refl
  alone_pick step (Some who) is = cc

  alone_asked : (m : Move) (step : Step) (o : Option Ask) → option_map (of_others r.pair.far_world m) o ≡ Some step → Alone step
  alone_asked m step None is = cc
  alone_asked m step (Some ask) is = subst Alone (some_step (of_others r.pair.far_world m ask) step is) refl

  pub far_alone : (m : Move) (step : Step) → step_of r (events.Far m) ≡ Some step → Alone step
  far_alone m step is = by (is_porters r.pair.far_world m) is
    where
      by : (b : Bool)
          → (if b then own_step own m.pick else option_map (of_others r.pair.far_world m) (asked r.far_servers r.pair.far_world m.who)) ≡ Some step
          → Alone step
      by true is = alone_pick step m.pick is
      by false is = alone_asked m step (asked r.far_servers r.pair.far_world m.who) is
