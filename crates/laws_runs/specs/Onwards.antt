-- What a subtree does in a run: the moves of the run as which it sees those, from any place of the history to any later one.
use Rattle.std.specs.Prelude.{◌≡◌, ℕ, ◌+◌, ◌≤◌, List, [], ◌∷◌, ◌++◌, length, take, drop, map}
use Rattle.fk_model.specs.declared.moves.Ask.TheVariants as asks
use Rattle.fk_model.specs.declared.moves.Move.{Move}
use Rattle.fk_model.specs.Places.{Path}
use Rattle.fk_model.specs.World.{World}
use Rattle.fk_model.specs.Searches.{depth}
use Rattle.fk_model.specs.Runs.{Event, IsLegal}
use Rattle.fk_model.specs.Who.{event_of}
use Rattle.fk_model.specs.Cut.{cut, IsPlain}
use Rattle.fk_model.specs.Further.{Onward, Told, IsFurther}
use Rattle.fk_model.specs.Rebind.{rebound, rebound_told, rebound_move}
use Rattle.laws_subtrees.specs.Further.Runs.{IsSeenRun, SeesNoOther}
use Rattle.laws_runs.specs.Cores.{House, Core, Asker, asker, IsRun, world_at}
use Rattle.laws_runs.specs.Cores.Asker.{Nobody, Others, Job}
use Rattle.laws_runs.specs.Cores.IsRun.{Begins, Goes}
use Rattle.laws_runs.specs.Composed.{AskAsUsers, JobsMeetContract, IsStart}

-- the event that a move is
abbrev pub event_by : {S : Type 0} → World → Move → Asker S → List Event
event_by w m Nobody = []
event_by w m (Others ask) = event_of w ask m ∷ []
event_by w m (Job begun s stage words) = event_of w (asks.Call stage words) m ∷ []

-- the events of a run
abbrev pub events_of : {J S A V : Type 0} {h : House J S A V} {first c : Core S A V} {past : List Move} → IsRun h first past c → List Event
events_of Begins = []
events_of {h = h} (Goes past c m d run ready settles) = events_of run ++ event_by c.world m (asker h c m.who)

-- the first n from the one with index k on
abbrev pub between : {J S A V : Type 0} {h : House J S A V} {first c : Core S A V} {past : List Move} → IsRun h first past c → ℕ → ℕ → List Event
between run k n = take n (drop k (events_of run))

-- what a subtree does in n moves of a run, from the one with index k on: it sees them as one list of moves, and as no other. That list is a
-- further run of its cut, and ends in the cut that it has there
pub record GoesOn {J S A V : Type 0} {h : House J S A V} {first c : Core S A V} {past : List Move} (run : IsRun h first past c) (k n : ℕ)
    (nester : Path) (slot : ℕ) : Type 0 where
  pub came : List Onward
  pub seen : IsSeenRun nester slot (world_at run k) (between run k n) came
  pub only : (ms : List Onward) → IsSeenRun nester slot (world_at run k) (between run k n) ms → ms ≡ came
  pub plain : IsPlain (world_at run (k + n)) nester slot
  pub told : List Told
  pub further : IsFurther (cut (world_at run k) nester slot) came told (cut (world_at run (k + n)) nester slot)

-- so it is from any place of the history on where a subtree is plain, and up to the first move that it sees as other
abbrev pub RunGoesOn : Type 0 → Type 0 → Type 0 → Type 0 → Type 0
RunGoesOn J S A V = (h : House J S A V) (first c : Core S A V) (past : List Move) (run : IsRun h first past c) →
    AskAsUsers h → JobsMeetContract h → IsStart first → first.world.next + length past ≤ depth →
    (k n : ℕ) → k + n ≤ length past → (nester : Path) (slot : ℕ) → IsPlain (world_at run k) nester slot →
    SeesNoOther nester slot (world_at run k) (between run k n) → GoesOn run k n nester slot

-- ready moves, one after the other, are seen as a list of moves exactly where none of them is seen as other, and then as one list
pub record IsSeenOnce (nester : Path) (slot : ℕ) (w : World) (es : List Event) : Type 0 where
  pub sees : SeesNoOther nester slot w es → (ms : List Onward) × IsSeenRun nester slot w es ms
  pub no_other : (ms : List Onward) → IsSeenRun nester slot w es ms → SeesNoOther nester slot w es
  pub one : (ms ns : List Onward) → IsSeenRun nester slot w es ms → IsSeenRun nester slot w es ns → ms ≡ ns

-- ready moves, one after the other, are seen as a list of moves exactly where none of them is seen as other; and then as one list alone
abbrev pub MovesAreSeenOnce : Type 0
MovesAreSeenOnce = (w : World) (nester : Path) (slot : ℕ) (es : List Event) → IsLegal w es → IsSeenOnce nester slot w es

-- a subtree whose cut is another's with other outward ports has the further runs that the other has, with these ports, and no others
pub record GoesOnAs (bind : ℕ → ℕ) (c d : World) (ms : List Onward) : Type 0 where
  pub forth : (told : List Told) (later : World) → IsFurther c ms told later →
      IsFurther d (map (rebound_move bind) ms) (map (rebound_told bind) told) (rebound bind later)
  pub back : (heard : List Told) (after : World) → IsFurther d (map (rebound_move bind) ms) heard after →
      (told : List Told) × (later : World) × IsFurther c ms told later × (heard ≡ map (rebound_told bind) told) × (after ≡ rebound bind later)

-- a subtree whose cut is another's with other outward ports has exactly the further runs of the other, with these ports
abbrev pub RestoredGoesOn : Type 0
RestoredGoesOn = (w v : World) (nester other : Path) (slot place : ℕ) (bind : ℕ → ℕ) (ms : List Onward) → IsPlain w nester slot →
    cut v other place ≡ rebound bind (cut w nester slot) → GoesOnAs bind (cut w nester slot) (cut v other place) ms
