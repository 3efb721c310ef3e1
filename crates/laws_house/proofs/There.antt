-- A part at work, at the places of its run; and where a restore first missed a port.
use Rattle.std.proofs.Common.{◌≡◌, ℕ, ◌+◌, ◌<◌, ◌≤◌, Bool, true, false, nat_lt, List, ◌∷◌, length, refl, sym, ap, arith, ◌∙◌, ◌⊎◌, inl, inr}
use Rattle.std.proofs.lemmas.Bool.{ltb-true, ltb-false}
use Rattle.fk_model.specs.declared.moves.Move.{Move}
use Rattle.fk_model.specs.declared.stage.Stage.{Stage}
use Rattle.fk_model.specs.Places.{Path}
use Rattle.fk_model.specs.World.{World}
use Rattle.fk_model.specs.Cut.{is_port}
use Rattle.fk_model.specs.Runs.{Event, after}
use Rattle.fk_image.specs.declared.image.image.Image.{Image}
use Rattle.laws_jobs.specs.Machines.{Machine, heard, call_of, said_of, Interleaved, AtWork}
use Rattle.laws_jobs.specs.Machines.Interleaved.{Here, Another, Own}
use Rattle.laws_restore.specs.Sites.Orders.{stage_of}
use Rattle.laws_restore.specs.Sites.Orders.Order.{Pins}
use Rattle.laws_restore.specs.Restore.Restore as restores
use Rattle.laws_restore.specs.Restore.Exact.{MissesFirst}
use Rattle.laws_restore.specs.Rooms.Rooms.{rooms_of}
use Rattle.laws_restore.specs.Rooms.Restoring.{bound_by, restore_of}
use Rattle.laws_runs.specs.Cores.{House, Core, Asker, Servers, IsRun}
use Rattle.laws_runs.specs.Cores.Asker.{Nobody, Others, Job as Asked_by_job}
use Rattle.laws_runs.specs.Turning.{asker_at}
use Rattle.laws_runs.specs.Placed.{IsOthers, IsPlaced, WorksThere}
use Rattle.laws_house.specs.Houses.{Job, State, End, house}
use Rattle.laws_house.specs.Houses.State.{Restoring}
use Rattle.laws_house.specs.Parts.{IsPart}
use Rattle.laws_house.specs.Moves.{MissedAt}
use Rattle.laws_house.proofs.Parts.{asks_part, hears_part}

-- at work at its places, up to one
pub record PlacedFrom {J S A V T B : Type 0} {h : House J S A V} {first c : Core S A V} {past : List Move} (run : IsRun h first past c) (m : Machine T B)
    (into : T → S)
    (nester : Path) (begun : ℕ) (w : World) (s : T) (v : World) (t : T) (upto : ℕ) : Type 0 where
  pub work : AtWork m nester w s v t
  pub there : WorksThere run into begun work
  pub long : begun + 1 + length work.events ≡ upto

module _ {J S A V T B : Type 0} {h : House J S A V} {first c : Core S A V} {past : List Move} (run : IsRun h first past c) (m : Machine T B)
    (whole : Machine S A) (into : T → S) (ends_in : B → A)
    (nester : Path) (part : IsPart m whole into ends_in) (begun : ℕ) where
  record Woven_there (k : ℕ) (w : World) (s : T) (es : List Event) (v : World) (u : S) : Type 0 where
    state : T
    is : u ≡ into state
    rest : Interleaved m nester w s es v state
    placed : IsPlaced run into begun k rest

  woven_there : (w : World) (t : S) (es : List Event) (v : World) (u : S) (k : ℕ) (iv : Interleaved whole nester w t es v u)
      → IsPlaced run (λ (x : S). x) begun k iv → (s : T) → t ≡ into s → Woven_there k w s es v u
  woven_there _ _ _ _ _ k (Here w t sound) at s is = record { state = s; is = is; rest = Here w s sound; placed = at }
  woven_there _ _ _ _ _ k (Another w t e es v u sound works moves rest) at s is =
      let more = woven_there (after w e) t es v u (k + 1) rest at.2 s is in
      record {
        state = more.state;
        is = more.is;
        rest = Another w s e es v more.state sound
            (works.0, works.1, asks_part m whole into ends_in nester part t s works.0 works.1 is works.2) moves more.rest;
        placed = (at.0, at.1, more.placed);
      }
  woven_there _ _ _ _ _ k (Own w t stage words es v u sound asked ready rest) at s is =
      let e = call_of nester stage words in
      let more = woven_there (after w e) (heard whole t (said_of w e)) es v u (k + 1) rest at.2 (heard m s (said_of w e))
      (hears_part m whole into ends_in nester part t s w e is) in
      record {
        state = more.state;
        is = more.is;
        rest = Own w s stage words es v more.state sound (asks_part m whole into ends_in nester part t s stage words is asked) ready more.rest;
        placed = (at.0, at.1 ∙ ap (λ (x : S). Asked_by_job begun x stage words) is, more.placed);
      }

  pub record PartThere (w : World) (s : T) (v : World) (t : S) (upto : ℕ) : Type 0 where
    pub state : T
    pub is : t ≡ into state
    pub it : PlacedFrom run m into nester begun w s v state upto

  pub works_there : (w : World) (s : T) (v : World) (t : S) (upto : ℕ) → PlacedFrom run whole (λ (x : S). x) nester begun w (into s) v t upto
      → PartThere w s v t upto
  works_there w s v t upto placed =
      let work = placed.work in
      let e = call_of nester work.stage work.words in
      let more = woven_there (after w e) (heard whole (into s) (said_of w e)) work.events v t (begun + 1) work.run placed.there.placed
      (heard m s (said_of w e)) (hears_part m whole into ends_in nester part (into s) s w e refl) in
      record {
        state = more.state;
        is = more.is;
        it = record {
          work = record {
            stage = work.stage;
            words = work.words;
            asked = asks_part m whole into ends_in nester part (into s) s work.stage work.words refl work.asked;
            ready = work.ready;
            events = work.events;
            run = more.rest;
          };
          there = record { first_asks = placed.there.first_asks; placed = more.placed };
          long = placed.long;
        };
      }

-- ---- the first miss

module _ {V : Type 0} {jobs : List Job} {servers : Servers V} {first c : Core State End V} {past : List Move} (run : IsRun (house jobs servers) first past c)
    (slot : ℕ) (pairs : List (ℕ × ℕ)) (image : Image)
    (nester : Path) (begun j : ℕ) where
  abbrev Missed : ℕ → ℕ → Type 0
  Missed from upto = MissedAt run slot pairs image nester begun from upto j

  abbrev AskedAt : ℕ → Type 0
  AskedAt k = (s : restores.State) × (given : List ℕ) × (asker_at run k ≡ Asked_by_job begun (Restoring slot pairs image s) (stage_of slot (Pins j)) given)

  -- a move before it that isn't one
  before_it : (k upto : ℕ) → (AskedAt k → ⊥) → Missed (k + 1) upto → Missed k upto
  before_it k upto off later =
      let within = later.within in
      let low = within.0 in
      record {
        place = later.place;
        within = (omega (arith, low), within.1);
        state = later.state;
        words = later.words;
        asks = later.asks;
        none = later.none;
        earlier = λ i from before s given asks. by i from before s given asks (either i from);
      }
    where
      either : (i : ℕ) → k ≤ i → (k ≡ i) ⊎ (k + 1 ≤ i)
      either i from = on (nat_lt k i) refl
        where
          on : (t : Bool) → nat_lt k i ≡ t → (k ≡ i) ⊎ (k + 1 ≤ i)
          on true e = let less = ltb-true k i e in inr (omega (arith, less))
          on false e = let most = ltb-false k i e in inl (omega (arith, most, from))

      by : (i : ℕ) → k ≤ i → i < later.place → (s : restores.State) (given : List ℕ)
          → asker_at run i ≡ Asked_by_job begun (Restoring slot pairs image s) (stage_of slot (Pins j)) given → (k ≡ i) ⊎ (k + 1 ≤ i) → ⊥
      by i from before s given asks (inl same) = off (s, given, ap (λ n. asker_at run n) same ∙ asks)
      by i from before s given asks (inr above) = later.earlier i above before s given asks

  not_others : (a : Asker State) (s : State) (stage : Stage) (given : List ℕ) → IsOthers a → a ≡ Asked_by_job begun s stage given → ⊥
  not_others Nobody s stage given theirs e = absurd theirs
  not_others (Others ask) s stage given theirs e = cc
  not_others (Asked_by_job b x y z) s stage given theirs e = absurd theirs

  pub missed_there : (w : World) (s : restores.State) (es : List Event) (v : World) (t : restores.State) (k upto : ℕ)
      (iv : Interleaved (restore_of slot image pairs) nester w s es v t) →
      IsPlaced run (Restoring slot pairs image) begun k iv → k + length es ≡ upto → MissesFirst slot (bound_by pairs) (rooms_of image) j iv → Missed k upto
  missed_there _ _ _ _ _ k upto (Here w s sound) at long h = absurd h
  missed_there _ _ _ _ _ k upto (Another w s e es v t sound works moves rest) at long h =
      before_it k upto (λ asked. not_others (asker_at run k) (Restoring slot pairs image asked.0) (stage_of slot (Pins j)) asked.1 at.1 asked.2)
      (missed_there (after w e) s es v t (k + 1) upto rest at.2 (omega (arith, long)) h)
  missed_there _ _ _ _ _ k upto (Own w s stage words es v t sound asked ready rest) at long (inl miss) = record {
    place = k;
    within = ((let same : k ≤ k = omega arith in same), omega (arith, long));
    state = s;
    words = words;
    asks = at.1 ∙ ap (λ (x : Stage). Asked_by_job begun (Restoring slot pairs image s) x words) miss.0;
    none = ap (λ (u : World). is_port (u.body (j ∷ nester))) (sym at.0) ∙ miss.1;
    earlier = λ i from before s given asks. absurd (omega (arith, from, before));
  }
  missed_there _ _ _ _ _ k upto (Own w s stage words es v t sound asked ready rest) at long (inr later) =
      before_it k upto (λ other. later.0 (same_stage s other.0 stage words other.1 (sym at.1 ∙ other.2)))
      (missed_there (after w (call_of nester stage words)) (heard (restore_of slot image pairs) s (said_of w (call_of nester stage words))) es v t
      (k + 1) upto rest at.2 (omega (arith, long)) later.1)
    where
      same_stage : (a b : restores.State) (x : Stage) (y z : List ℕ)
          → Asked_by_job begun (Restoring slot pairs image a) x y ≡ Asked_by_job begun (Restoring slot pairs image b) (stage_of slot (Pins j)) z
          → x ≡ stage_of slot (Pins j)
      same_stage a b x y z e = cc
