-- A pair goes on by an event as the handover does.
use Rattle.std.proofs.Common.{◌≡◌, ◌↔◌, ℕ, zero, suc, ◌<◌, Bool, true, IsTrue, List, [], ◌∷◌, ◌++◌, length, Option, Some, None, option_map, is_some, refl, sym, ap, subst, ◌∙◌, arith}
use Rattle.std.specs.Prelude.{Result, Ok, Err, OnOk, OnErr}
use Rattle.std.proofs.lemmas.Option.{slice_get_within}
use Rattle.std.specs.List.{slice_get}
use Rattle.fk_model.specs.declared.moves.Move.{Move}
use Rattle.fk_packets.specs.declared.events.Event.{Event as PairEvent}
use Rattle.fk_packets.specs.declared.events.Event.TheVariants as events
use Rattle.laws_handover.specs.Pieces.{Piece}
use Rattle.laws_migrate.specs.Fits as fits_laws
use Rattle.laws_migrate.specs.Images.{image_codec}
use Rattle.laws_migrate.specs.Laws.{pair_after}
use Rattle.laws_migrate.specs.Migration.{Both, IsReadyIn}
use Rattle.laws_migrate.proofs.Fits.{calls_are_fit}
use Rattle.laws_migrate.proofs.Images.{images_are_read}
use Rattle.fk_sides.specs.Fars.{IsFar}
use Rattle.fk_sides.specs.declared.far.Far.{Far}
use Rattle.fk_sides.specs.Sides.{FarSide}
use Rattle.fk_migrate.specs.Turns.{NearPart, FarPart, IsKept, IsNearMove, IsNearFit, IsFarMove, IsFarFit, HasFarMove}
use Rattle.fk_migrate.specs.Runs.{Run, Step, IsRun, near_part, far_part, step_of, next_run, IsReadyAs, IsReadyEvent}
use Rattle.fk_migrate.specs.declared.places.Places.{Places}
use Rattle.fk_migrate.specs.Places.{counted, no_places}
use Rattle.fk_migrate.specs.Pairs.{Shown, Start, IsRunOf, IsSomeRun, IsNew, IsBegun, IsReady, Counts, LeadsTo, GoesOn, IsSame, begun, made_of, with_event}
use Rattle.fk_migrate.proofs.Running.{runs_so, are_ready}
use Rattle.fk_migrate.proofs.Counting.{counted_more}
use Rattle.fk_migrate.proofs.Nearing.{near_ready, near_back, near_fits}
use Rattle.fk_migrate.proofs.Faring.{far_ready, far_back, far_fits}

-- ---- runs

pub begins : (s : Shown) → IsNew s → IsBegun s
begins s new may = record {
  slot = refl;
  far_slot = new.slots;
  steps = [];
  run = begun (made_of s may);
  ran = subst (λ (es : List PairEvent). IsRun s.slot (begun (made_of s may)) es [] (begun (made_of s may))) (sym new.events) IsRun.Before;
  stands = record {
    near = λ i. record { world = s.near.world; servers = s.near.servers; side = new.near i };
    far = refl;
    far_side = new.far;
  };
  places = new.places;
}

pub run_on : (s : Shown) (e : PairEvent) (t : Shown) (from : Start) → GoesOn s e t → IsRunOf s from → IsRunOf t from
run_on s e t from goes its =
    let leads = goes.leads from its in
    record {
      slot = leads.slot;
      far_slot = leads.far_slot;
      steps = its.steps ++ leads.step ∷ [];
      run = next_run from.slot its.run leads.step;
      ran = subst (λ (es : List PairEvent). IsRun from.slot (begun from) es (its.steps ++ leads.step ∷ []) (next_run from.slot its.run leads.step)) (sym goes.events)
          (IsRun.After s.events its.steps its.run e leads.step its.ran leads.is leads.ready);
      stands = leads.stands;
      places = goes.counts from its leads.step leads.is ∙ ap (λ (p : Places). counted p leads.step) its.places
          ∙ sym (counted_more no_places its.steps leads.step);
    }

pub same_run : (s t : Shown) (from : Start) → IsSame s t → IsRunOf s from → IsRunOf t from
same_run s t from same its = record {
  slot = same.slot ∙ its.slot;
  far_slot = same.far_slot ∙ its.far_slot;
  steps = its.steps;
  run = its.run;
  ran = subst (λ (es : List PairEvent). IsRun from.slot (begun from) es its.steps its.run) (sym same.events) its.ran;
  stands = record {
    near = same.near ∙ its.stands.near;
    far = same.far ∙ its.stands.far;
    far_side = same.makes its.run.pair.far its.stands.far_side;
  };
  places = same.places ∙ its.places;
}

pub same_some : (s t : Shown) → IsSame s t → IsSomeRun s → IsSomeRun t
same_some s t same run = record { from = run.from; its = same_run s t run.from same run.its }

pub some_on : (s : Shown) (e : PairEvent) (t : Shown) → GoesOn s e t → IsSomeRun s → IsSomeRun t
some_on s e t goes run = record { from = run.from; its = run_on s e t run.from goes run.its }

pub same_self : (s : Shown) → IsSame s s
same_self s = record { slot = refl; far_slot = refl; near = refl; far = refl; makes = λ f is. is; events = refl; places = refl }

pub same_of : (s t : Shown) → t ≡ s → IsSame s t
same_of s t same = subst (λ (x : Shown). IsSame s x) (sym same) (same_self s)

-- a far side that is the same shows the same
pub same_makes : (one other : Far) → other ≡ one → (f : FarSide) → IsFar one.makes f → IsFar other.makes f
same_makes one other same f = subst (λ (x : Far). IsFar x.makes f) (sym same)

pub same_then : (s t u : Shown) → IsSame s t → IsSame t u → IsSame s u
same_then s t u first second = record {
  slot = second.slot ∙ first.slot;
  far_slot = second.far_slot ∙ first.far_slot;
  near = second.near ∙ first.near;
  far = second.far ∙ first.far;
  makes = λ f is. second.makes f (first.makes f is);
  events = second.events ∙ first.events;
  places = second.places ∙ first.places;
}

-- what has been led to, with the event noted
pub goes_so : (s t u : Shown) (e : PairEvent) (places : Places) → t.events ≡ s.events → LeadsTo s e t → Counts s e places → u ≡ with_event t e places
    → GoesOn s e u
goes_so s t u e places events leads counts noted = subst (λ (x : Shown). GoesOn s e x) (sym noted) (record {
  events = ap (λ (es : List PairEvent). es ++ e ∷ []) events;
  leads = λ from its. (
      let there = leads from its in
      record {
        slot = there.slot;
        far_slot = there.far_slot;
        step = there.step;
        is = there.is;
        ready = there.ready;
        stands = record { near = there.stands.near; far = there.stands.far; far_side = there.stands.far_side };
      });
  counts = counts;
})

-- whether there was memory or not
pub run_either : {E : Type 0} (r : Result (Unit {0}) E) (s t : Shown) (e : PairEvent) (from : Start) → OnOk r (GoesOn s e t) → OnErr r (IsSame s t)
    → IsRunOf s from → IsRunOf t from
run_either (Ok x) s t e from goes same its = run_on s e t from goes its
run_either (Err x) s t e from goes same its = same_run s t from same its

-- the step that a ready event is
abbrev pub IsStepped : ℕ → Run → PairEvent → Type 0
IsStepped slot r e = (step : Step) × (step_of r e ≡ Some step) × IsReadyIn image_codec slot r.pair step

pub steps_so : (slot : ℕ) (r : Run) (e : PairEvent) → IsReadyEvent slot r e → IsStepped slot r e
steps_so slot r e ready = by (step_of r e) refl ready
  where
    by : (o : Option Step) → step_of r e ≡ o → IsReadyAs slot r o → IsStepped slot r e
    by None is ready = absurd ready
    by (Some step) is ready = (step, is, ready)

-- ---- what is ready

module _ (s : Shown) (from : Start) (its : IsRunOf s from) where
  near_there : (m : Move) → IsNearMove s.slot s.near m → IsNearMove from.slot (near_part its.run) m
  near_there m = subst (λ (x : ℕ × NearPart). IsNearMove x.0 x.1 m) (λ i. (its.slot i, its.stands.near i))

  near_here : (m : Move) → IsNearMove from.slot (near_part its.run) m → IsNearMove s.slot s.near m
  near_here m = subst (λ (x : ℕ × NearPart). IsNearMove x.0 x.1 m) (sym (λ i. (its.slot i, its.stands.near i)))

  far_there : (m : Move) → IsFarMove s.far_slot s.far its.run.pair.far m → IsFarMove from.slot (far_part its.run) its.run.pair.far m
  far_there m = subst (λ (x : ℕ × FarPart). IsFarMove x.0 x.1 its.run.pair.far m) (λ i. (its.far_slot i, its.stands.far i))

  far_here : (m : Move) → IsFarMove from.slot (far_part its.run) its.run.pair.far m → IsFarMove s.far_slot s.far its.run.pair.far m
  far_here m = subst (λ (x : ℕ × FarPart). IsFarMove x.0 x.1 its.run.pair.far m) (sym (λ i. (its.far_slot i, its.stands.far i)))

  pub near_exact : (m : Move) (b : Bool) → IsKept s.near.servers s.near.world m.who → IsTrue b ↔ IsNearMove s.slot s.near m
      → IsTrue b ↔ IsReadyEvent from.slot its.run (events.Near m)
  near_exact m b kept exact = (
    λ yes. near_ready from.slot its.run m (subst (λ (p : NearPart). IsKept p.servers p.world m.who) its.stands.near kept) (near_there m (exact.0 yes)),
    λ ready. exact.1 (near_here m (near_back from.slot its.run m ready)),
  )

  pub far_exact : (m : Move) (b : Bool) → IsKept s.far.servers s.far.world m.who
      → ((f : FarSide) → IsFar s.makes f → IsTrue b ↔ IsFarMove s.far_slot s.far f m) → IsTrue b ↔ IsReadyEvent from.slot its.run (events.Far m)
  far_exact m b kept exact =
      let its_own = exact its.run.pair.far its.stands.far_side in (
        λ yes. far_ready from.slot its.run m (subst (λ (p : FarPart). IsKept p.servers p.world m.who) its.stands.far kept) (far_there m (its_own.0 yes)),
        λ ready. its_own.1 (far_here m (far_back from.slot its.run m ready)),
      )

  -- ---- fit, by the laws

  abbrev happened : Both image_codec from.slot
  happened = pair_after image_codec from.slot from.near from.far its.steps

  come : happened ≡ its.run.pair
  come = runs_so from.slot (begun from) s.events its.steps its.run its.ran

  fit : fits_laws.IsNearFit from.slot happened.near_world happened.near × fits_laws.IsFarFit from.slot happened.far_world happened.far
  fit = calls_are_fit Piece image_codec from.slot from.near from.far its.steps images_are_read from.may
      (are_ready from.slot (begun from) s.events its.steps its.run its.ran)

  pub near_wanted : (m : Move) → IsReadyEvent from.slot its.run (events.Near m) → IsNearMove s.slot s.near m × IsNearFit s.slot s.near m
  near_wanted m ready =
      let there = near_back from.slot its.run m ready in
      let fit_there : fits_laws.IsNearFit from.slot its.run.pair.near_world its.run.pair.near =
      subst (λ (p : Both image_codec from.slot). fits_laws.IsNearFit from.slot p.near_world p.near) come fit.0 in
      let back = sym (λ i. (its.slot i, its.stands.near i)) in (
        near_here m there,
        subst (λ (x : ℕ × NearPart). IsNearFit x.0 x.1 m) back (near_fits from.slot (near_part its.run) m fit_there there),
      )

  pub far_wanted : (m : Move) → IsReadyEvent from.slot its.run (events.Far m) → HasFarMove s.far_slot s.far s.makes m
  far_wanted m ready =
      let there = far_back from.slot its.run m ready in
      let fit_there : fits_laws.IsFarFit from.slot its.run.pair.far_world its.run.pair.far =
      subst (λ (p : Both image_codec from.slot). fits_laws.IsFarFit from.slot p.far_world p.far) come fit.1 in
      let back = sym (λ i. (its.far_slot i, its.stands.far i)) in
      record {
        side = its.run.pair.far;
        is = its.stands.far_side;
        ready = far_here m there;
        fit = subst (λ (x : ℕ × FarPart). IsFarFit x.0 x.1 its.run.pair.far m) back
            (far_fits from.slot (far_part its.run) its.run.pair.far m fit_there there);
      }

-- the same of some run
pub near_may : (s : Shown) (m : Move) → IsSomeRun s → IsReady s (events.Near m) → IsNearMove s.slot s.near m × IsNearFit s.slot s.near m
near_may s m run ready = near_wanted s run.from run.its m (ready run.from run.its)

pub far_may : (s : Shown) (m : Move) → IsSomeRun s → IsReady s (events.Far m) → HasFarMove s.far_slot s.far s.makes m
far_may s m run ready = far_wanted s run.from run.its m (ready run.from run.its)

-- ---- packets that were sent

is_there : {A : Type 0} (xs : List A) (n : ℕ) → n < length xs → slice_get xs n ≡ None → ⊥
is_there [] n lt none = omega (arith, lt)
is_there (x ∷ xs) zero lt none = cc
is_there (x ∷ xs) (suc n) lt none = is_there xs n (omega (arith, lt)) none

pub sent_exact : {A B : Type 0} (f : B → A) (xs : List A) (n : ℕ) (o : Option B) → option_map f o ≡ slice_get xs n → (is_some o ≡ true) ↔ (n < length xs)
sent_exact f xs n None is = (λ e. cc, λ lt. absurd (is_there xs n lt (sym is)))
sent_exact f xs n (Some x) is = (λ e. slice_get_within xs n (f x) (sym is), λ lt. refl)
