-- A restorer is told of no port exactly where there is none.
use Rattle.std.proofs.Common.{◌≡◌, ℕ, Bool, true, false, ◌&&◌, ◌==◌, nat_le, List, [], ◌∷◌, ◌++◌, length, Option, Some, None, option_map, Result, Ok, Err, refl}
use Rattle.std.proofs.Common.{sym, ap, subst, arith, eq-eqb, ◌∙◌}
use Rattle.std.specs.List.{list_any}
use Rattle.std.proofs.lemmas.Bool.{and_parts}
use Rattle.fk_model.specs.declared.limits.TheConstants.{OWN_SPACE, FIRST_SCRATCH_SLOT, LAST_PORTER_SLOT}
use Rattle.fk_model.specs.declared.names.Kind.TheVariants as kinds
use Rattle.fk_model.specs.declared.statuses.status.TheConstants.{OK, NONE, BADHANDLE, WRONGKIND}
use Rattle.fk_model.specs.Places.{Path, Ptr, leads_to}
use Rattle.fk_model.specs.Places.Ptr.{At}
use Rattle.fk_model.specs.Objects.{Body, kind_of, and_then, reference_of}
use Rattle.fk_model.specs.Objects.Body.{Mutex, Cond, Mapping, Region, Port, Portset, Space, Thread_of, Reference}
use Rattle.fk_model.specs.World.{World, Change, edited, apply, apply_all}
use Rattle.fk_model.specs.World.Change.{Alter}
use Rattle.fk_model.specs.World.Edit.{SetPointer}
use Rattle.fk_model.specs.Outcomes.Outcome.{Goes}
use Rattle.fk_model.specs.Outcomes.Said.{Answered}
use Rattle.fk_model.specs.Readers.{kind_at, object_in, seen_as}
use Rattle.fk_model.specs.Freezing.{body_pointers}
use Rattle.fk_model.specs.ObjectRows.{way_down, kind_number, target_of, pointer_to, pointer_in}
use Rattle.fk_model.specs.Valid.{kind_there}
use Rattle.fk_model.specs.Runs.{after}
use Rattle.fk_model.specs.Cut.{is_port}
use Rattle.fk_model.proofs.walks.PlaceLaws.{same_path_refl, same_path_ne, strip-append, leads_to_at}
use Rattle.laws_moves.specs.Frozen.Frozen.{IsSameInside}
use Rattle.laws_moves.proofs.InFrozen.FrozenCut.{port_by_kind}
use Rattle.laws_moves.proofs.InFrozen.Holding.{others_keep_hold}
use Rattle.laws_jobs.specs.Machines.{no_words, porter, call_of}
use Rattle.laws_jobs.specs.Machines.{Reply, IsAnswered}
use Rattle.laws_restore.specs.Sites.Orders.{Spot, Site, pin_of, SpotShows, Shows, May, stage_of, is_port_in}
use Rattle.laws_restore.specs.Sites.Orders.Spot.{Unsure}
use Rattle.laws_restore.specs.Sites.Orders.Order.{Pins, Takes, Checks}
use Rattle.laws_restore.specs.Sites.Looking.{hits, Looks, PinTells, PinsTell, OthersKeepLooks, TakesKeepLooks, ChecksTell}
use Rattle.laws_restore.proofs.InSites.Others.{holding, one_led}
use Rattle.laws_restore.proofs.InSites.Goings.{goings}
use Rattle.laws_restore.proofs.InSites.Standing.{user_named, ref_slot, ref_named, ref_there, ref_unfrozen, root_named}
use Rattle.laws_restore.proofs.InSites.Changes.{alter_kind, pin_kept}
use Rattle.laws_restore.proofs.InSites.Pinned.{IsPinned, pinned, pins-row, IsThePort, located}
use Rattle.laws_jobs.proofs.Rows.{own-place, point-row, object-there, points_as}
use Rattle.laws_restore.proofs.InSites.Located.{locate_here-row, located_here}

-- ports stay where kinds do
port_same : (w v : World) (y : Path) → kind_there v y ≡ kind_there w y → is_port (v.body y) ≡ is_port (w.body y)
unfolding kind_there
port_same w v y h = rw (port_by_kind (v.body y), port_by_kind (w.body y), h) refl

-- a slot without a port is refused, or what it leads to isn't a port there
data Tells (w : World) (nester : Path) (i : ℕ) : Result Ptr ℕ → Type 0 where
  Refuses : (status : ℕ) → (status ≡ OK → ⊥) → is_port (w.body (i ∷ nester)) ≡ false → Tells w nester i (Err status)
  Leads : (to : Ptr) → (is_port (w.body (i ∷ nester)) ≡ true → to ≡ At (i ∷ nester)) → Tells w nester i (Ok to)

tells : (w : World) (nester : Path) (i : ℕ) → nat_le i LAST_PORTER_SLOT ≡ true → Tells w nester i (pointer_in w (porter nester no_words) nester i)
unfolding object_in
tells w nester i fits = rw fits (by (w.body (i ∷ nester)) refl)
  where
    by : (o : Option Body) → w.body (i ∷ nester) ≡ o → Tells w nester i (seen_as (pointer_to (i ∷ nester)) o)
    by None e = Refuses BADHANDLE (λ h. cc) (rw e refl)
    by (Some (Mutex locked)) e = Refuses WRONGKIND (λ h. cc) (rw e refl)
    by (Some Cond) e = Refuses WRONGKIND (λ h. cc) (rw e refl)
    by (Some Portset) e = Refuses WRONGKIND (λ h. cc) (rw e refl)
    by (Some (Mapping m)) e = Leads (At (i ∷ nester)) (λ h. refl)
    by (Some (Region r)) e = Leads (At (i ∷ nester)) (λ h. refl)
    by (Some (Port set served)) e = Leads (At (i ∷ nester)) (λ h. refl)
    by (Some (Space birth holder)) e = Leads (At (i ∷ nester)) (λ h. refl)
    by (Some (Thread_of t)) e = Leads (At (i ∷ nester)) (λ h. refl)
    by (Some (Reference to)) e = Leads to (λ h. let off : is_port (w.body (i ∷ nester)) ≡ false = rw e refl in cc)

module _ (nester : Path) (slot : ℕ) where
  abbrev root : Path
  root = slot ∷ nester

  led_here : (w : World) (i : ℕ) (old to : Ptr) (b : Bool) → w.body (pin_of root) ≡ Some (Reference old) → is_port (w.body (i ∷ nester)) ≡ b
      → (is_port (w.body (i ∷ nester)) ≡ true → to ≡ At (i ∷ nester)) → Looks nester slot (apply (Alter (pin_of root) (SetPointer to)) w) i b
  unfolding apply edited
  led_here w i old to b pin port leads = record {
    to = to;
    pin = rw (same_path_refl (pin_of root), pin) refl;
    hit = rw (same_path_ne (i ∷ nester) (pin_of root) (λ e. omega (arith, ap length e)), port) (by b port);
  }
    where
      by : (b : Bool) → is_port (w.body (i ∷ nester)) ≡ b → (leads_to (i ∷ nester) to && b) ≡ b
      by true e = rw (leads e, same_path_refl (i ∷ nester)) refl
      by false e = off (leads_to (i ∷ nester) to)
        where
          off : (t : Bool) → (t && false) ≡ false
          off true = refl
          off false = refl

  pin_tells : (g : Site) (w : World) (i : ℕ) (reply : Reply) → Shows nester slot g w → May slot (Pins i) g
      → IsAnswered nester w (stage_of slot (Pins i)) no_words reply → PinTells nester slot w i reply
  unfolding apply_all
  pin_tells g w i reply shows may answered =
      let goes = goings nester slot g w (Pins i) shows may reply answered in
      let pin = pinned nester slot g w shows may.0 in
      by (pointer_in w (porter nester no_words) nester i) (tells w nester i (user_named nester slot g w shows i may.2)) pin goes.changes
      (sym (pins-row nester slot g w shows i pin) ∙ goes.row) goes.world
    where
      by : (r : Result Ptr ℕ) → Tells w nester i r → IsPinned nester slot g w shows → (changes : List Change)
          → points_as nester no_words w (pin_of root) r ≡ Goes changes (Answered reply.status reply.words)
          → after w (call_of nester (stage_of slot (Pins i)) no_words) ≡ apply_all changes w → PinTells nester slot w i reply
      by _ (Refuses status apart off) pin changes row world =
          let same : status ≡ reply.status = cc in
          record { looks = λ ok. absurd (apart (same ∙ ok)); led = λ on. let both = sym off ∙ on in cc }
      by _ (Leads to leads) pin changes row world =
          let ok : reply.status ≡ OK = cc in
          let listed : changes ≡ Alter (pin_of root) (SetPointer to) ∷ [] = cc in
          record { looks = λ h. rw (world, listed) (led_here w i pin.to to (is_port (w.body (i ∷ nester))) pin.is refl leads); led = λ h. ok }

  hit_same : (w v : World) (i : ℕ) (to : Ptr) (port : Bool) → (leads_to (i ∷ nester) to ≡ true → kind_there v (i ∷ nester) ≡ kind_there w (i ∷ nester))
      → hits nester w i to ≡ port → hits nester v i to ≡ port
  hit_same w v i to port same h = by (leads_to (i ∷ nester) to) refl h
    where
      by : (t : Bool) → leads_to (i ∷ nester) to ≡ t → (t && is_port (w.body (i ∷ nester))) ≡ port → (t && is_port (v.body (i ∷ nester))) ≡ port
      by true e h = port_same w v (i ∷ nester) (same e) ∙ h
      by false e h = h

  inside_looks : (w v : World) (i : ℕ) (port : Bool) → IsSameInside root w v → Looks nester slot w i port → Looks nester slot v i port
  inside_looks w v i port same looks = record {
    to = looks.to;
    pin = same.bodies (FIRST_SCRATCH_SLOT ∷ []) ∙ looks.pin;
    hit = hit_same w v i looks.to port (λ led. let on : list_any (leads_to (i ∷ nester)) (body_pointers (w.body (pin_of root)))
        ≡ true = rw looks.pin (one_led (i ∷ nester) looks.to led) in same.kinds (i ∷ nester) (FIRST_SCRATCH_SLOT ∷ []) on) looks.hit;
  }

pub pins_tell : PinsTell
pins_tell nester slot g w i reply shows may answered = pin_tells nester slot g w i reply shows may answered

pub others_keep_looks : OthersKeepLooks
others_keep_looks nester slot g w e i port shows moves looks =
    let kept = others_keep_hold nester slot w e (holding nester slot g w shows) moves in
    inside_looks nester slot w (after w e) i port kept.inside looks

-- the world after a look
pub checks_tell : ChecksTell
checks_tell nester slot g w r i port reply shows may answered looks =
    let goes = goings nester slot g w (Checks r i) shows may reply answered in
    let ref : SpotShows nester slot w g.pin r (Some Unsure) = subst (λ (o : Option Spot). SpotShows nester slot w g.pin r o) may.1
    (shows.spots r (ref_slot nester slot g w shows r may.0)) in
    let same : ref.0 ≡ looks.to = let both = sym ref.2 ∙ looks.pin in cc in
    let comes = sym (locate_here-row nester no_words w r ref.0
    (object-there nester no_words w reference_of nester r (Reference ref.0) ref.0 (ref_named nester slot g w shows r may.0) ref.1 refl)) ∙ goes.row in
    let hit : hits nester w i ref.0 ≡ port = subst (λ (to : Ptr). hits nester w i to ≡ port) (sym same) looks.hit in
    by port ref.0 comes hit
  where
    is_the_port : (to : Ptr) → (leads_to (i ∷ nester) to && is_port (w.body (i ∷ nester))) ≡ true → IsThePort nester slot g w shows i to
    is_the_port to h =
        let parts = and_parts (leads_to (i ∷ nester) to) (is_port (w.body (i ∷ nester))) h in
        (leads_to_at (i ∷ nester) to parts.0, by_body (w.body (i ∷ nester)) parts.1)
      where
        by_body : (o : Option Body) → is_port o ≡ true → and_then (λ b. Some (kind_of b)) o ≡ Some kinds.Port
        by_body (Some (Port set served)) h = refl
        by_body (Some (Mutex locked)) h = cc
        by_body (Some Cond) h = cc
        by_body (Some (Mapping m)) h = cc
        by_body (Some (Region r)) h = cc
        by_body (Some Portset) h = cc
        by_body (Some (Space birth holder)) h = cc
        by_body (Some (Thread_of t)) h = cc
        by_body (Some (Reference to)) h = cc
        by_body None h = cc

    on_port : (to : Ptr) → IsThePort nester slot g w shows i to → located_here nester no_words w (target_of to) ≡ Goes [] (Answered OK (i ∷ 0 ∷ 5 ∷ []))
    on_port to its = rw its.0 (subst (λ (o : Option Path). (elim (option_map way_down o) [
      | None ↦ Goes [] (Answered NONE [])
      | Some way ↦ Goes [] (Answered OK (way ++ kind_number (kind_at w (At (i ∷ nester))) ∷ []))
    ]) ≡ Goes [] (Answered OK (i ∷ 0 ∷ 5 ∷ []))) (sym (strip-append nester (i ∷ []))) (rw its.1 refl))

    hit_on : (to : Ptr) → IsThePort nester slot g w shows i to → hits nester w i to ≡ true
    hit_on to its = rw (its.0, same_path_refl (i ∷ nester)) (by_kind (w.body (i ∷ nester)) its.1)
      where
        by_kind : (o : Option Body) → and_then (λ b. Some (kind_of b)) o ≡ Some kinds.Port → is_port o ≡ true
        by_kind (Some (Port set served)) h = refl
        by_kind (Some (Mutex locked)) h = cc
        by_kind (Some Cond) h = cc
        by_kind (Some (Mapping m)) h = cc
        by_kind (Some (Region r)) h = cc
        by_kind (Some Portset) h = cc
        by_kind (Some (Space birth holder)) h = cc
        by_kind (Some (Thread_of t)) h = cc
        by_kind (Some (Reference to)) h = cc
        by_kind None h = cc

    by : (port : Bool) (to : Ptr) → {changes : List Change} → located_here nester no_words w (target_of to) ≡ Goes changes (Answered reply.status reply.words)
        → hits nester w i to ≡ port → (reply.status == OK && is_port_in i reply.words) ≡ port
    by true to comes hit =
        let told = sym (on_port to (is_the_port to hit)) ∙ comes in
        let status : reply.status ≡ OK = cc in
        let words : reply.words ≡ i ∷ 0 ∷ 5 ∷ [] = cc in
        rw (status, words, eq-eqb i i refl) refl
    by false to {changes} comes hit = off (reply.status == OK) (is_port_in i reply.words) refl
      where
        off : (s p : Bool) → is_port_in i reply.words ≡ p → (s && p) ≡ false
        off s true e =
            let its = located nester slot g w shows i to changes reply.status reply.words may.3 comes e in
            let on = hit_on to its in
            let both = sym on ∙ hit in
            cc
        off true false e = refl
        off false false e = refl

pub takes_keep_looks : TakesKeepLooks
unfolding apply_all
takes_keep_looks nester slot g w r i port reply shows may answered looks =
    let goes = goings nester slot g w (Takes r) shows may reply answered in
    let ref = ref_there nester slot g w shows r may.0 may.1 in
    let row = point-row nester no_words w OWN_SPACE r slot FIRST_SCRATCH_SLOT nester (slot ∷ nester) ref.to looks.to (own-place nester no_words w)
    (object-there nester no_words w reference_of nester r (Reference ref.to) ref.to (ref_named nester slot g w shows r may.0) ref.is refl)
    (root_named nester slot g w shows no_words)
    (object-there nester no_words w (pointer_to (pin_of (slot ∷ nester))) (slot ∷ nester) FIRST_SCRATCH_SLOT (Reference looks.to) looks.to refl looks.pin refl)
    (ref_unfrozen nester slot g w shows r ref.to ref.is) in
    let both = sym row ∙ goes.row in
    let listed : goes.changes ≡ Alter (r ∷ nester) (SetPointer looks.to) ∷ [] = cc in
    rw (goes.world, listed) (record {
      to = looks.to;
      pin = pin_kept nester slot g w shows r looks.to
          ∙ looks.pin;
      hit = hit_same nester slot w (apply (Alter (r ∷ nester) (SetPointer looks.to)) w) i looks.to port
          (λ led. alter_kind nester slot g w shows (r ∷ nester) (i ∷ nester) (SetPointer looks.to)) looks.hit;
    })
