-- What is ready in the near kernel is a step of the handover, and a turn there makes it.
use Rattle.std.proofs.Common.{◌≡◌, ℕ, Bool, true, false, ◌∷◌, Option, Some, None, option_map, if◌then◌else◌, IfSome, refl, sym, ap, subst, ◌∙◌, arith}
use Rattle.fk_model.specs.declared.limits.TheConstants.{LAST_PORTER_SLOT, OWN_SPACE}
use Rattle.fk_model.specs.declared.moves.Ask.{Ask}
use Rattle.fk_model.specs.declared.moves.Ask.TheVariants as asks
use Rattle.fk_model.specs.declared.moves.Move.{Move}
use Rattle.fk_model.specs.declared.moves.Said.{Said}
use Rattle.fk_model.specs.declared.moves.Said.TheVariants as says
use Rattle.fk_model.specs.declared.names.Who.{Who}
use Rattle.fk_model.specs.declared.stage.Stage.{Stage}
use Rattle.fk_model.specs.declared.stage.Stage.TheVariants.{Destroy, SpaceRelease}
use Rattle.fk_model.specs.Moves.{Step as Stepped}
use Rattle.fk_model.specs.Places.{Path}
use Rattle.fk_model.specs.Valid.{is_fit}
use Rattle.fk_model.specs.Who.{event_of}
use Rattle.fk_model.specs.World.{World}
use Rattle.fk_host.specs.Hosts.{IsStepped, IsTurn}
use Rattle.fk_packets.specs.declared.events.Event.TheVariants as events
use Rattle.fk_served.specs.Kernels.{Kept}
use Rattle.fk_served.specs.Kernels.{world_of as world}
use Rattle.fk_served.specs.Kernels.{path_of as path}
use Rattle.fk_served.specs.Served.{Services, asked}
use Rattle.fk_served.proofs.Acts.{fit-asked, servers_ask_as_users}
use Rattle.fk_store.specs.Store.Moves.{said_by}
use Rattle.laws_moves.specs.Whole.Runnable.{has_all_words}
use Rattle.laws_jobs.specs.Machines.{Head, Reply, reply_of, said_of, IsReadyAt}
use Rattle.laws_jobs.specs.Machines.Head.{Asks, Stops}
use Rattle.laws_checkpoint.specs.Checkpoint as checks
use Rattle.laws_handover.specs.NearSide as near
use Rattle.laws_handover.specs.Handover as handover
use Rattle.laws_migrate.specs.Fits as fits_laws
use Rattle.laws_migrate.specs.Migration.{top, IsCalled, IsNearReady, IsOthers, HasRoom}
use Rattle.fk_sides.specs.Sides.{NearSide, bare, asks_for, near_call, near_heard}
use Rattle.fk_migrate.specs.Turns.{NearPart, is_porters, given_in, heard_by, status_in, words_in, IsKept, IsNearMove, IsNearFit, IsTurnGiven}
use Rattle.fk_migrate.specs.Runs.{Run, Step, near_part, far_part, near_step, own_step, own_event, heard, step_of, next_run, IsReadyAs, IsReadyEvent}
use Rattle.fk_migrate.specs.Parts.{NearLands}
use Rattle.fk_migrate.proofs.Calls.{call, near_calls, near_is_ready}
use Rattle.fk_migrate.proofs.Moving.{AsksCalls, IsMove, IsMade, moves, moves_back, fits, made}

-- ---- calls

pub head_calls : {A : Type 0} (h : Head A) → AsksCalls (asks_for h)
head_calls (Asks stage words) ask e = (stage, words, let same : asks.Call stage words ≡ ask = cc in sym same)
head_calls (Stops end) ask e = cc

pub bare_calls : (stage : Stage) → AsksCalls (Some (bare stage))
bare_calls stage ask e = (stage, _, let same : bare stage ≡ ask = cc in sym same)

near_asks_calls : (slot : ℕ) (n : NearSide) → AsksCalls (near_call slot n)
near_asks_calls slot (near.Saves s) = head_calls (checks.head slot s)
near_asks_calls slot (near.Clears i more) = bare_calls (Destroy OWN_SPACE slot)
near_asks_calls slot (near.Cancels i why) = bare_calls (SpaceRelease OWN_SPACE slot)
near_asks_calls slot (near.Waits i) = λ ask e. cc
near_asks_calls slot (near.Cleared i) = λ ask e. cc
near_asks_calls slot (near.Cancelled i why) = λ ask e. cc
near_asks_calls slot (near.Failed why) = λ ask e. cc

pub head_asks : {A : Type 0} (w : World) (h : Head A) → IsCalled w h → (ask : Ask) × (asks_for h ≡ Some ask) × IsReadyAt w (call ask)
head_asks w (Asks stage words) ready = (asks.Call stage words, refl, ready)
head_asks w (Stops end) ready = absurd ready

near_asks : (slot : ℕ) (w : World) (n : NearSide) → IsNearReady slot w n → (ask : Ask) × (near_call slot n ≡ Some ask) × IsReadyAt w (call ask)
near_asks slot w (near.Saves s) ready = head_asks w (checks.head slot s) ready
near_asks slot w (near.Clears i more) ready = (bare (Destroy OWN_SPACE slot), refl, ready)
near_asks slot w (near.Cancels i why) ready = (bare (SpaceRelease OWN_SPACE slot), refl, ready)
near_asks slot w (near.Waits i) ready = absurd ready
near_asks slot w (near.Cleared i) ready = absurd ready
near_asks slot w (near.Cancelled i why) ready = absurd ready
near_asks slot w (near.Failed why) ready = absurd ready

-- ---- fit

pub head_fits : {A : Type 0} (w : World) (h : Head A) (ask : Ask) → asks_for h ≡ Some ask → fits_laws.IsCallFit w h → is_fit w (LAST_PORTER_SLOT ∷ top) ask ≡ true
head_fits w (Asks stage words) ask e fit =
    let same : asks.Call stage words ≡ ask = cc in
    subst (λ (a : Ask). is_fit w (LAST_PORTER_SLOT ∷ top) a ≡ true) same fit
head_fits w (Stops end) ask e fit = cc

pub destroy_fits : (w : World) (slot : ℕ) → is_fit w (LAST_PORTER_SLOT ∷ top) (bare (Destroy OWN_SPACE slot)) ≡ true
unfolding is_fit
destroy_fits w slot = refl

pub release_fits : (w : World) (slot : ℕ) → is_fit w (LAST_PORTER_SLOT ∷ top) (bare (SpaceRelease OWN_SPACE slot)) ≡ true
unfolding is_fit
release_fits w slot = refl

pub bare_fits : (w : World) (stage : Stage) (ask : Ask) → Some (bare stage) ≡ Some ask → is_fit w (LAST_PORTER_SLOT ∷ top) (bare stage) ≡ true
    → is_fit w (LAST_PORTER_SLOT ∷ top) ask ≡ true
bare_fits w stage ask e fit =
    let same : bare stage ≡ ask = cc in
    subst (λ (a : Ask). is_fit w (LAST_PORTER_SLOT ∷ top) a ≡ true) same fit

near_call_fits : (slot : ℕ) (w : World) (n : NearSide) → fits_laws.IsNearFit slot w n → (ask : Ask) → near_call slot n ≡ Some ask
    → is_fit w (LAST_PORTER_SLOT ∷ top) ask ≡ true
near_call_fits slot w (near.Saves s) fit ask e = head_fits w (checks.head slot s) ask e fit
near_call_fits slot w (near.Clears i more) fit ask e = bare_fits w (Destroy OWN_SPACE slot) ask e (destroy_fits w slot)
near_call_fits slot w (near.Cancels i why) fit ask e = bare_fits w (SpaceRelease OWN_SPACE slot) ask e (release_fits w slot)
near_call_fits slot w (near.Waits i) fit ask e = cc
near_call_fits slot w (near.Cleared i) fit ask e = cc
near_call_fits slot w (near.Cancelled i why) fit ask e = cc
near_call_fits slot w (near.Failed why) fit ask e = cc

-- a move that is ready is fit
pub near_fits : (slot : ℕ) (p : NearPart) (m : Move) → fits_laws.IsNearFit slot p.world p.side → IsNearMove slot p m → IsNearFit slot p m
near_fits slot p m fit ready =
    let calls = near_asks_calls slot p.side in
    fits p.servers p.world (near_call slot p.side) m calls (near_call_fits slot p.world p.side fit)
    (moves p.servers p.world (near_call slot p.side) m calls ready)

-- ---- whose step it is

abbrev own : Step
own = handover.NearOwn

abbrev of_others : World → Move → Ask → Step
of_others w m ask = handover.OfNear (event_of w ask m)

own_is : (w : World) (servers : Services) (m : Move) → is_porters w m ≡ true → m.pick ≡ None → near_step w servers m ≡ Some own
own_is w servers m is picks = λ i. if is i then own_step own (picks i) else option_map (of_others w m) (asked servers w m.who)

others_is : (w : World) (servers : Services) (m : Move) (ask : Ask) → is_porters w m ≡ false → asked servers w m.who ≡ Some ask
    → near_step w servers m ≡ Some (of_others w m ask)
others_is w servers m ask is e = λ i. if is i then own_step own m.pick else option_map (of_others w m) (e i)

-- what users and servers do is others' move
pub is_others : (w : World) (servers : Services) (m : Move) (ask : Ask) → IsKept servers w m.who → is_porters w m ≡ false → asked servers w m.who ≡ Some ask
    → IsReadyAt w (event_of w ask m) → IsOthers w (event_of w ask m)
is_others w servers m ask kept other e ready =
    let room : HasRoom w = kept.room in
    record {
      moves = record {
        valid = kept.valid;
        few = omega (arith, room);
        fit = fit-asked servers w m.who ask (event_of w ask m).mover e;
        ready = ready;
        users = servers_ask_as_users servers w m.who ask e;
        other = other;
      };
      words = subst (λ (o : Option Ask). IfSome o (λ (a : Ask). has_all_words a ≡ true)) e kept.words;
      room = room;
    }

step_ready : (slot : ℕ) (r : Run) (m : Move) → IsKept r.near_servers r.pair.near_world m.who
    → IsMove r.near_servers r.pair.near_world (near_call slot r.pair.near) m → IsReadyAs slot r (near_step r.pair.near_world r.near_servers m)
step_ready slot r m kept (IsMove.Own ask is picks e ready) =
    subst (IsReadyAs slot r) (sym (own_is r.pair.near_world r.near_servers m is picks))
    (near_is_ready slot r.pair.near_world r.pair.near ask e ready, kept.room)
step_ready slot r m kept (IsMove.Others ask is e ready) =
    subst (IsReadyAs slot r) (sym (others_is r.pair.near_world r.near_servers m ask is e))
    (is_others r.pair.near_world r.near_servers m ask kept is e ready)

pub near_ready : (slot : ℕ) (r : Run) (m : Move) → IsKept r.near_servers r.pair.near_world m.who → IsNearMove slot (near_part r) m
    → IsReadyEvent slot r (events.Near m)
near_ready slot r m kept ready =
    step_ready slot r m kept (moves r.near_servers r.pair.near_world (near_call slot r.pair.near) m (near_asks_calls slot r.pair.near) ready)

step_back : (slot : ℕ) (r : Run) (m : Move) → IsReadyAs slot r (near_step r.pair.near_world r.near_servers m)
    → IsMove r.near_servers r.pair.near_world (near_call slot r.pair.near) m
step_back slot r m ready = by (is_porters r.pair.near_world m) refl ready
  where
    by_pick : (pick : Option Who) → is_porters r.pair.near_world m ≡ true → m.pick ≡ pick → IsReadyAs slot r (own_step own pick)
        → IsMove r.near_servers r.pair.near_world (near_call slot r.pair.near) m
    by_pick None is picks ready =
        let asks_it = near_asks slot r.pair.near_world r.pair.near ready.0 in
        IsMove.Own asks_it.0 is picks asks_it.1 asks_it.2
    by_pick (Some who) is picks ready = absurd ready

    by_asked : (o : Option Ask) → is_porters r.pair.near_world m ≡ false → asked r.near_servers r.pair.near_world m.who ≡ o
        → IsReadyAs slot r (option_map (of_others r.pair.near_world m) o) → IsMove r.near_servers r.pair.near_world (near_call slot r.pair.near) m
    by_asked None is e ready = absurd ready
    by_asked (Some ask) is e ready = IsMove.Others ask is e ready.moves.ready

    by : (b : Bool) → is_porters r.pair.near_world m ≡ b
        → IsReadyAs slot r (if b then own_step own m.pick else option_map (of_others r.pair.near_world m) (asked r.near_servers r.pair.near_world m.who))
        → IsMove r.near_servers r.pair.near_world (near_call slot r.pair.near) m
    by true is ready = by_pick m.pick is refl ready
    by false is ready = by_asked (asked r.near_servers r.pair.near_world m.who) is refl ready

pub near_back : (slot : ℕ) (r : Run) (m : Move) → IsReadyEvent slot r (events.Near m) → IsNearMove slot (near_part r) m
near_back slot r m ready =
    moves_back r.near_servers r.pair.near_world (near_call slot r.pair.near) m (near_asks_calls slot r.pair.near) (step_back slot r m ready)

-- ---- a turn

pub replied : (p : ℕ → Path) (said : Said) → reply_of (said_by p said) ≡ record { status = status_in said; words = words_in said }
replied p (says.Answer answer) = refl
replied p says.Nothing = refl
replied p (says.Taken port client resumed turn moved) = refl
replied p (says.Words port words len) = refl
replied p (says.Given port len) = refl
replied p (says.Full port) = refl
replied p (says.Over port) = refl
replied p (says.Ended port) = refl

pub some_step : (a b : Step) → Some a ≡ Some b → a ≡ b
some_step a b e = cc

module _ (slot : ℕ) (k n : Kept) (servers new : Services) (side next : NearSide) (m : Move) (said : Said) where
  abbrev before : NearPart
  before = record { world = world k; servers = servers; side = side }

  abbrev behind : NearPart
  behind = record { world = world n; servers = new; side = next }

  -- a run at this part of the near kernel
  abbrev placed : Run → NearPart → Run
  placed r p = record r { pair = record r.pair { near_world = p.world; near = p.side }; near_servers = p.servers }

  abbrev Lands : Run → Step → Type 0
  Lands r step = behind ≡ near_part (next_run slot (placed r before) step)

  by_others : (r : Run) (ask : Ask) → IsStepped k servers (event_of (world k) ask m) said n new → next ≡ side → Lands r (of_others (world k) m ask)
  by_others r ask stepped same = λ i. record { world = sym (ap (λ (x : Stepped). x.world) stepped.step) i; servers = stepped.hears i; side = same i }

  by_own : (r : Run) (ask : Ask) → near_call slot side ≡ Some ask → IsStepped k servers (call ask) said n new
      → next ≡ near_heard slot side (status_in said) (words_in said) → Lands r own
  by_own r ask e stepped hears =
      let its = near_calls slot (world k) side ask e in
      let told : said_of (world k) (call ask) ≡ said_by (path n) said = ap (λ (x : Stepped). x.said) stepped.step in
      let reply : reply_of (said_of (world k) (call ask)) ≡ record { status = status_in said; words = words_in said } = ap reply_of told ∙ replied (path n) said in
      let worlds = sym (ap (λ (x : Stepped). x.world) stepped.step) ∙ its.0 in
      let heard_it = stepped.hears ∙ ap (λ (o : Option Ask). heard (world k) servers (own_event o)) (sym e) in
      let sides = hears ∙ ap (λ (x : Reply). near_heard slot side x.status x.words) (sym reply) ∙ its.1 in
      λ i. record { world = worlds i; servers = heard_it i; side = sides i }

  landed : (r : Run) (step : Step) → near_step (world k) servers m ≡ Some step → next ≡ heard_by (is_porters (world k) m) (near_heard slot side) side said
      → IsMade k servers (near_call slot side) m said n new → Lands r step
  landed r step is hears (IsMade.Own ask porters picks e stepped) =
      subst (Lands r) (some_step own step (sym (own_is (world k) servers m porters picks) ∙ is))
      (by_own r ask e stepped (hears ∙ ap (λ (b : Bool). heard_by b (near_heard slot side) side said) porters))
  landed r step is hears (IsMade.Others ask porters e stepped) =
      subst (Lands r) (some_step (of_others (world k) m ask) step (sym (others_is (world k) servers m ask porters e) ∙ is))
      (by_others r ask stepped (hears ∙ ap (λ (b : Bool). heard_by b (near_heard slot side) side said) porters))

  pub near_lands : IsTurnGiven k servers m (given_in (world k) (near_call slot side) m) said n new
      → next ≡ heard_by (is_porters (world k) m) (near_heard slot side) side said
      → NearLands slot (record { world = world k; servers = servers; side = side }) m (record { world = world n; servers = new; side = next })
  near_lands turn hears r step same is =
      let its = made k servers (near_call slot side) m said n new (near_asks_calls slot side) turn in
      subst (λ (p : NearPart). near_step p.world p.servers m ≡ Some step
      → behind ≡ near_part (next_run slot (placed r p) step)) same
      (λ is. landed r step is hears its) is

-- and the far kernel stays
module _ (slot : ℕ) (r : Run) where
  abbrev Alone : Step → Type 0
  Alone s = (far_part (next_run slot r s) ≡ far_part r) × ((next_run slot r s).pair.far ≡ r.pair.far)

  alone_pick : (step : Step) (pick : Option Who) → own_step own pick ≡ Some step → Alone step
  alone_pick step None is = subst Alone (some_step own step is) (refl, refl)
  alone_pick step (Some who) is = cc

  alone_asked : (m : Move) (step : Step) (o : Option Ask) → option_map (of_others r.pair.near_world m) o ≡ Some step → Alone step
  alone_asked m step None is = cc
  alone_asked m step (Some ask) is = subst Alone (some_step (of_others r.pair.near_world m ask) step is) (refl, refl)

  pub near_alone : (m : Move) (step : Step) → step_of r (events.Near m) ≡ Some step → Alone step
  near_alone m step is = by (is_porters r.pair.near_world m) is
    where
      by : (b : Bool)
          → (if b then own_step own m.pick else option_map (of_others r.pair.near_world m) (asked r.near_servers r.pair.near_world m.who)) ≡ Some step
          → Alone step
      by true is = alone_pick step m.pick is
      by false is = alone_asked m step (asked r.near_servers r.pair.near_world m.who) is

-- a turn, as the code makes it
module _ (slot : ℕ) (k n : Kept) (servers new : Services) (side next : NearSide) (m : Move) (said : Said) where
  pub near_turned : (given : Option Ask) (ask : Ask) (b : Bool) (slot_then : ℕ) (side_then : NearSide)
      → given ≡ given_in (world k) (near_call slot side) m → given ≡ Some ask → IsTurn k servers m ask said n new → b ≡ is_porters (world k) m
      → slot_then ≡ slot → side_then ≡ side → next ≡ heard_by b (near_heard slot_then side_then) side_then said
      → NearLands slot (record { world = world k; servers = servers; side = side }) m (record { world = world n; servers = new; side = next })
  near_turned given ask b slot_then side_then is asks_it turn porters slots sides hears =
      near_lands slot k n servers new side next m said
      (subst (λ (o : Option Ask). IsTurnGiven k servers m o said n new) (sym asks_it ∙ is) turn)
      (hears ∙ (λ i. heard_by (porters i) (near_heard (slots i) (sides i)) (sides i) said))
