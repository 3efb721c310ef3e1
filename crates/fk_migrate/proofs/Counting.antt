-- The places of a run's calls, one event after the other.
use Rattle.std.proofs.Common.{◌≡◌, ℕ, suc, ◌+◌, ◌≤◌, Bool, true, false, List, [], ◌∷◌, ◌++◌, length, Option, Some, None, option_map, if◌then◌else◌, refl, sym, ap, ◌∙◌, arith}
use Rattle.std.proofs.lemmas.List.{length-append}
use Rattle.fk_model.specs.declared.moves.Ask.{Ask}
use Rattle.fk_model.specs.declared.moves.Move.{Move}
use Rattle.fk_model.specs.declared.names.Who.{Who}
use Rattle.fk_model.specs.Who.{event_of}
use Rattle.fk_model.specs.World.{World}
use Rattle.fk_packets.specs.declared.events.Event.{Event as PairEvent}
use Rattle.fk_packets.specs.declared.events.Event.TheVariants as events
use Rattle.fk_served.specs.Served.{asked}
use Rattle.laws_handover.specs.Handover as handover
use Rattle.fk_migrate.specs.declared.places.Places.{Places}
use Rattle.fk_migrate.specs.Places.{counted, counted_from, near_counted, far_counted, no_places, places_of}
use Rattle.fk_migrate.specs.Pairs.{Shown, IsSomeRun, Counts}
use Rattle.fk_migrate.specs.Runs.{Run, Step, IsRun, own_step}
use Rattle.fk_migrate.specs.Turns.{NearPart, FarPart, is_porters}

-- one more at the end
pub counted_more : (p : Places) (ss : List Step) (s : Step) → counted_from p (ss ++ s ∷ []) ≡ counted (counted_from p ss) s
counted_more p [] s = refl
counted_more p (t ∷ ss) s = counted_more (counted p t) ss s

-- ---- they are no more than the events

near_one : (p : Places) (s : Step) → (counted p s).near ≤ suc p.near
near_one p (handover.OfNear e) = omega arith
near_one p handover.NearOwn = omega arith
near_one p (handover.OfFar e) = omega arith
near_one p handover.FarOwn = omega arith
near_one p (handover.ToFar number) = omega arith
near_one p (handover.ToNear number) = omega arith
near_one p handover.GiveUp = omega arith

far_one : (p : Places) (s : Step) → (counted p s).far ≤ suc p.far
far_one p (handover.OfNear e) = omega arith
far_one p handover.NearOwn = omega arith
far_one p (handover.OfFar e) = omega arith
far_one p handover.FarOwn = omega arith
far_one p (handover.ToFar number) = omega arith
far_one p (handover.ToNear number) = omega arith
far_one p handover.GiveUp = omega arith

near_many : (p : Places) (ss : List Step) → (counted_from p ss).near ≤ p.near + length ss
near_many p [] = omega arith
near_many p (s ∷ ss) = let one = near_one p s in let many = near_many (counted p s) ss in omega (arith, one, many)

far_many : (p : Places) (ss : List Step) → (counted_from p ss).far ≤ p.far + length ss
far_many p [] = omega arith
far_many p (s ∷ ss) = let one = far_one p s in let many = far_many (counted p s) ss in omega (arith, one, many)

-- a run has as many steps as events
as_many : (slot : ℕ) (from : Run) (es : List PairEvent) (ss : List Step) (r : Run) → IsRun slot from es ss r → length ss ≡ length es
as_many slot from _ _ _ IsRun.Before = refl
as_many slot from _ _ _ (IsRun.After es ss r e s before is ready) =
    length-append ss (s ∷ []) ∙ ap (λ (n : ℕ). n + 1) (as_many slot from es ss r before) ∙ sym (length-append es (e ∷ []))

pub few_near : (s : Shown) → IsSomeRun s → s.places.near ≤ length s.events
few_near s run =
    let ran = run.its.ran in
    let same = as_many _ _ s.events run.its.steps run.its.run ran in
    let is : s.places.near ≡ (places_of run.its.steps).near = ap (λ (p : Places). p.near) run.its.places in
    let many : (places_of run.its.steps).near ≤ 0 + length run.its.steps = near_many no_places run.its.steps in
    omega (arith, same, is, many)

pub few_far : (s : Shown) → IsSomeRun s → s.places.far ≤ length s.events
few_far s run =
    let ran = run.its.ran in
    let same = as_many _ _ s.events run.its.steps run.its.run ran in
    let is : s.places.far ≡ (places_of run.its.steps).far = ap (λ (p : Places). p.far) run.its.places in
    let many : (places_of run.its.steps).far ≤ 0 + length run.its.steps = far_many no_places run.its.steps in
    omega (arith, same, is, many)

-- ---- by one event

same_step : (a b : Step) → Some a ≡ Some b → a ≡ b
same_step a b e = cc

abbrev near_own : Step
near_own = handover.NearOwn

abbrev far_own : Step
far_own = handover.FarOwn

abbrev near_other : World → Move → Ask → Step
near_other w m ask = handover.OfNear (event_of w ask m)

abbrev far_other : World → Move → Ask → Step
far_other w m ask = handover.OfFar (event_of w ask m)

module _ (p : Places) (w : World) (m : Move) (step : Step) where
  near_by : (b : Bool) (pick : Option Who) (o : Option Ask) → (if b then own_step near_own pick else option_map (near_other w m) o) ≡ Some step
      → near_counted p b ≡ counted p step
  near_by true None o is = ap (counted p) (same_step near_own step is)
  near_by true (Some who) o is = cc
  near_by false pick None is = cc
  near_by false pick (Some ask) is = ap (counted p) (same_step (near_other w m ask) step is)

  far_by : (b : Bool) (pick : Option Who) (o : Option Ask) → (if b then own_step far_own pick else option_map (far_other w m) o) ≡ Some step
      → far_counted p b ≡ counted p step
  far_by true None o is = ap (counted p) (same_step far_own step is)
  far_by true (Some who) o is = cc
  far_by false pick None is = cc
  far_by false pick (Some ask) is = ap (counted p) (same_step (far_other w m ask) step is)

pub near_counts : (s : Shown) (m : Move) (b : Bool) (places : Places) → b ≡ is_porters s.near.world m → places ≡ near_counted s.places b
    → Counts s (events.Near m) places
near_counts s m b places porters is from its step there =
    let w = its.run.pair.near_world in
    let here : b ≡ is_porters w m = porters ∙ ap (λ (p : NearPart). is_porters p.world m) its.stands.near in
    is ∙ ap (near_counted s.places) here
    ∙ near_by s.places w m step (is_porters w m) m.pick (asked its.run.near_servers w m.who) there

pub far_counts : (s : Shown) (m : Move) (b : Bool) (places : Places) → b ≡ is_porters s.far.world m → places ≡ far_counted s.places b
    → Counts s (events.Far m) places
far_counts s m b places porters is from its step there =
    let w = its.run.pair.far_world in
    let here : b ≡ is_porters w m = porters ∙ ap (λ (p : FarPart). is_porters p.world m) its.stands.far in
    is ∙ ap (far_counted s.places) here
    ∙ far_by s.places w m step (is_porters w m) m.pick (asked its.run.far_servers w m.who) there

-- others are no kernel's moves

abbrev to_far : ℕ → Step
to_far number = handover.ToFar number

abbrev to_near : ℕ → Step
to_near number = handover.ToNear number

abbrev giving : Step
giving = handover.GiveUp

pub to_far_counts : (s : Shown) (number : ℕ) → Counts s (events.ToFar number) s.places
to_far_counts s number from its step is = ap (counted s.places) (same_step (to_far number) step is)

pub to_near_counts : (s : Shown) (number : ℕ) → Counts s (events.ToNear number) s.places
to_near_counts s number from its step is = ap (counted s.places) (same_step (to_near number) step is)

pub give_up_counts : (s : Shown) → Counts s events.GiveUp s.places
give_up_counts s from its step is = ap (counted s.places) (same_step giving step is)
