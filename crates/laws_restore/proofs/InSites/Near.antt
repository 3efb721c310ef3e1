-- A restorer's calls change what is near alone, so nobody outside comes to lead in.
use Rattle.std.proofs.Common.{◌≡◌, ℕ, Bool, true, false, is_some, List, [], ◌∷◌, ◌++◌, Option, Some, None, option_map, Result, Ok, Err, refl, sym, ap, subst}
use Rattle.std.proofs.Common.{◌∙◌}
use Rattle.std.specs.List.{list_any}
use Rattle.fk_model.specs.declared.limits.TheConstants.{LAST_PORTER_SLOT, FIRST_SCRATCH_SLOT}
use Rattle.fk_model.specs.declared.stage.Stage.TheVariants.{SpaceMakeHeld}
use Rattle.fk_model.specs.declared.statuses.status.TheConstants.{OK, NONE}
use Rattle.fk_model.specs.Places.{Path, same_path, is_within, Ptr, leads_to}
use Rattle.fk_model.specs.Places.Ptr.{Null, Dead, At, Out, Outside, Far}
use Rattle.fk_model.specs.Objects.{kind_of, reference_of}
use Rattle.fk_model.specs.Objects.Body.{Reference}
use Rattle.fk_model.specs.Readers.{kind_at}
use Rattle.fk_model.specs.Valid.{kind_there}
use Rattle.fk_model.specs.World.{World, Change, apply, apply_all}
use Rattle.fk_model.specs.World.Change.{Alter, Make, MakeSpace, Kill, Move, PutPage, DropPage}
use Rattle.fk_model.specs.Freezing.{body_pointers}
use Rattle.fk_model.specs.ObjectRows.{is_scratch, pointer_in, kind_number, target_of, way_to}
use Rattle.fk_model.specs.Outcomes.Outcome.{Goes}
use Rattle.fk_model.specs.Outcomes.Said.{Answered}
use Rattle.fk_model.specs.Moves.{call_row}
use Rattle.fk_model.proofs.walks.PlaceLaws.{same_path_eq}
use Rattle.laws_jobs.specs.Machines.{Reply, no_words, porter, call_of, IsAnswered}
use Rattle.laws_jobs.proofs.Goings.{goes_by}
use Rattle.laws_jobs.proofs.Rows.{points_as, located_as, object-there}
use Rattle.laws_jobs.proofs.Unled.{swept_there, death_clean}
use Rattle.laws_jobs.proofs.LeadLaws.{others_keep_unled}
use Rattle.laws_moves.proofs.InFrozen.Frozen.{there_live}
use Rattle.laws_restore.specs.Sites.Orders.Spot.{Unsure}
use Rattle.laws_restore.specs.Sites.Orders.{Spot, Site, Shows, SpotShows, Order, May, stage_of, words_of, pin_of}
use Rattle.laws_restore.specs.Sites.Orders.Order.{Readies, Leads, LeadsTop, Makes, Sets, Points, Gives, MakesPin, Pins, Takes, Checks, ParksTalk, ParksFault}
use Rattle.laws_restore.specs.Sites.Orders.Order.{LinksTalk}
use Rattle.laws_restore.specs.Sites.Orders.Order.{RaisesFault, LinksFault, Holds, Drops, DropsPin, Deadens}
use Rattle.laws_restore.specs.Sites.Fit.{IsUnled}
use Rattle.laws_restore.specs.Sites.Near.{is_near, IsNearChange, AreNear, IsNearCall, OwnCallsAreNear, NewSpaceIsUnled, OthersKeepNewUnled, NearCallsKeepUnled}
use Rattle.laws_restore.proofs.InSites.Nearby.{inside_near}
use Rattle.laws_restore.proofs.InSites.Standing.{ref_slot, ref_named}
use Rattle.laws_restore.proofs.InSites.Plain.{Plain, plain}
use Rattle.laws_restore.proofs.InSites.Pinned.{pinned, pins-row}
use Rattle.laws_restore.proofs.InSites.Located.{locate_here-row, located_here}
use Rattle.laws_restore.proofs.InSites.Others.{holding}
use Rattle.laws_restore.proofs.InSites.Begun.{make-row, made_as, none_beneath}
use Rattle.laws_restore.proofs.InSites.Tied.{links_talk-plain, raises_fault-plain, links_fault-plain, holds-plain}
use Rattle.laws_restore.proofs.InSites.Dropped.{drops-plain, drops_pin-plain}
use Rattle.laws_restore.proofs.InSites.Deadened.{deadens-plain}

module _ (nester : Path) (slot : ℕ) where
  abbrev root : Path
  root = slot ∷ nester

  module _ (g : Site) (w : World) (shows : Shows nester slot g w) where
    module _ (o : Order) (reply : Reply) (answered : IsAnswered nester w (stage_of slot o) (words_of o) reply) where
      by_plain : Plain nester slot g w shows answered.valid.consistent o → IsNearCall nester slot w (call_of nester (stage_of slot o) (words_of o))
      by_plain its = record {
        changes = its.changes;
        world = (goes_by nester w (stage_of slot o) (words_of o) reply answered its.changes OK [] its.row).0;
        near = its.near;
      }

    pinning : (i : ℕ) (reply : Reply) → May slot (Pins i) g → IsAnswered nester w (stage_of slot (Pins i)) no_words reply
        → IsNearCall nester slot w (call_of nester (stage_of slot (Pins i)) no_words)
    pinning i reply may answered = by (pointer_in w (porter nester no_words) nester i) (pins-row nester slot g w shows i (pinned nester slot g w shows may.0))
      where
        by : (r : Result Ptr ℕ) → call_row w (porter nester no_words) None (stage_of slot (Pins i)) ≡ points_as nester no_words w (pin_of root) r
            → IsNearCall nester slot w (call_of nester (stage_of slot (Pins i)) no_words)
        by (Ok to) h = record {
          changes = _;
          world = (goes_by nester w (stage_of slot (Pins i)) no_words reply answered _ _ _ h).0;
          near = ((inside_near nester slot (FIRST_SCRATCH_SLOT ∷ []), tt), tt);
        }
        by (Err status) h = record { changes = []; world = (goes_by nester w (stage_of slot (Pins i)) no_words reply answered _ _ _ h).0; near = tt }

    checking : (r i : ℕ) (reply : Reply) → May slot (Checks r i) g → IsAnswered nester w (stage_of slot (Checks r i)) no_words reply
        → IsNearCall nester slot w (call_of nester (stage_of slot (Checks r i)) no_words)
    checking r i reply may answered =
        let ref : SpotShows nester slot w g.pin r (Some Unsure) = subst (λ (o : Option Spot). SpotShows nester slot w g.pin r o) may.1
        (shows.spots r (ref_slot nester slot g w shows r may.0)) in
        by ref.0 (locate_here-row nester no_words w r ref.0
        (object-there nester no_words w reference_of nester r (Reference ref.0) ref.0 (ref_named nester slot g w shows r may.0) ref.1 refl))
      where
        still : (status : ℕ) (given : List ℕ) → call_row w (porter nester no_words) None (stage_of slot (Checks r i)) ≡ Goes [] (Answered status given)
            → IsNearCall nester slot w (call_of nester (stage_of slot (Checks r i)) no_words)
        still status given row = record {
          changes = [];
          world = (goes_by nester w (stage_of slot (Checks r i)) no_words reply answered [] status given row).0;
          near = tt;
        }

        by_way : (to : Ptr) (o : Option (List ℕ)) → way_to nester to ≡ o
            → call_row w (porter nester no_words) None (stage_of slot (Checks r i)) ≡ located_here nester no_words w (Ok to) →
            IsNearCall nester slot w (call_of nester (stage_of slot (Checks r i)) no_words)
        by_way to None e h = still NONE [] (h ∙ rw (located_as, e) refl)
        by_way to (Some way) e h = still OK (way ++ kind_number (kind_at w to) ∷ []) (h ∙ rw (located_as, e) refl)

        by : (to : Ptr) → call_row w (porter nester no_words) None (stage_of slot (Checks r i)) ≡ located_here nester no_words w (target_of to)
            → IsNearCall nester slot w (call_of nester (stage_of slot (Checks r i)) no_words)
        by Null h = still _ _ h
        by Dead h = still _ _ h
        by (At x) h = by_way (At x) (way_to nester (At x)) refl h
        by (Out j) h = by_way (Out j) None refl h
        by Outside h = by_way Outside None refl h
        by Far h = by_way Far None refl h

    pub near_call : (o : Order) (reply : Reply) → May slot o g → IsAnswered nester w (stage_of slot o) (words_of o) reply
        → IsNearCall nester slot w (call_of nester (stage_of slot o) (words_of o))
    near_call (Pins i) reply may answered = pinning i reply may answered
    near_call (Checks r i) reply may answered = checking r i reply may answered
    near_call (Readies r) reply may answered = by_plain (Readies r) reply answered (plain nester slot g w shows answered.valid.consistent (Readies r) tt may)
    near_call (Leads r s q x) reply may answered = by_plain (Leads r s q x) reply answered
        (plain nester slot g w shows answered.valid.consistent (Leads r s q x) tt may)
    near_call (LeadsTop r) reply may answered = by_plain (LeadsTop r) reply answered (plain nester slot g w shows answered.valid.consistent (LeadsTop r) tt may)
    near_call (Makes s q x kind) reply may answered = by_plain (Makes s q x kind) reply answered
        (plain nester slot g w shows answered.valid.consistent (Makes s q x kind) tt may)
    near_call (Sets s q x words) reply may answered = by_plain (Sets s q x words) reply answered
        (plain nester slot g w shows answered.valid.consistent (Sets s q x words) tt may)
    near_call (Points s q x r) reply may answered = by_plain (Points s q x r) reply answered
        (plain nester slot g w shows answered.valid.consistent (Points s q x r) tt may)
    near_call (Gives s q page words) reply may answered = by_plain (Gives s q page words) reply answered
        (plain nester slot g w shows answered.valid.consistent (Gives s q page words) tt may)
    near_call MakesPin reply may answered = by_plain MakesPin reply answered (plain nester slot g w shows answered.valid.consistent MakesPin tt may)
    near_call (Takes r) reply may answered = by_plain (Takes r) reply answered (plain nester slot g w shows answered.valid.consistent (Takes r) tt may)
    near_call (ParksTalk s q x i words) reply may answered = by_plain (ParksTalk s q x i words) reply answered
        (plain nester slot g w shows answered.valid.consistent (ParksTalk s q x i words) tt may)
    near_call (ParksFault s q x i taken words) reply may answered = by_plain (ParksFault s q x i taken words) reply answered
        (plain nester slot g w shows answered.valid.consistent (ParksFault s q x i taken words) tt may)
    near_call (Drops r) reply may answered = by_plain (Drops r) reply answered (drops-plain nester slot g w shows answered.valid r may.0 may.1)
    near_call DropsPin reply may answered = by_plain DropsPin reply answered
        (drops_pin-plain nester slot g w shows answered.valid (pinned nester slot g w shows may.0) may.1)
    near_call (Deadens r) reply may answered = by_plain (Deadens r) reply answered (deadens-plain nester slot g w shows answered.valid r may)
    near_call (LinksTalk s q x r u port server words) reply may answered = by_plain (LinksTalk s q x r u port server words) reply answered
        (links_talk-plain nester slot g w shows answered.valid.consistent s q x r u port server words may)
    near_call (RaisesFault s q x r port words) reply may answered = by_plain (RaisesFault s q x r port words) reply answered
        (raises_fault-plain nester slot g w shows answered.valid.consistent s q x r port words may)
    near_call (LinksFault s q x r u port taker words) reply may answered = by_plain (LinksFault s q x r u port taker words) reply answered
        (links_fault-plain nester slot g w shows answered.valid.consistent s q x r u port taker words may)
    near_call (Holds s q x r holder) reply may answered = by_plain (Holds s q x r holder) reply answered
        (holds-plain nester slot g w shows answered.valid.consistent s q x r holder may)

  -- ---- what leads in

  -- who isn't near isn't changed by what is, but by a death
  pub not_there : (x y : Path) → is_near nester slot x ≡ true → is_within root y ≡ false → is_scratch nester y ≡ false → same_path y x ≡ false
  not_there x y near out off = by (same_path y x) refl
    where
      by : (t : Bool) → same_path y x ≡ t → t ≡ false
      by false e = refl
      by true e =
          let same = same_path_eq y x e in
          let on : is_near nester slot y ≡ true = rw same near in
          let both : is_near nester slot y ≡ false = rw (out, off) refl in
          let clash = sym on ∙ both in
          cc

  change_unled : (c : Change) (w : World) → IsNearChange nester slot c → IsUnled nester slot w → IsUnled nester slot (apply c w)
  unfolding apply
  change_unled (Alter x edit) w near unled q y out off = rw (not_there x y near.0 out off) (unled q y out off)
  change_unled (Make x body) w near unled q y out off = rw (not_there x y near.0 out off) (unled q y out off)
  change_unled (MakeSpace x holder) w near unled q y out off = rw (not_there x y near out off) (unled q y out off)
  change_unled (Kill x) w near unled q y out off = rw (not_there x y near out off)
      (swept_there (q ++ root) _ (death_clean (q ++ root) x) y (w.body y) (unled q y out off))
  change_unled (PutPage space page words) w near unled q y out off = unled q y out off
  change_unled (DropPage space page) w near unled q y out off = absurd near
  change_unled (Move x k) w near unled q y out off = absurd near

  pub changes_unled : (cs : List Change) (w : World) → AreNear nester slot cs → IsUnled nester slot w → IsUnled nester slot (apply_all cs w)
  unfolding apply_all
  changes_unled [] w near unled = unled
  changes_unled (c ∷ cs) w near unled = changes_unled cs (apply c w) near.1 (change_unled c w near.0 unled)

pub own_calls_are_near : OwnCallsAreNear
own_calls_are_near nester slot g w o reply shows may answered = near_call nester slot g w shows o reply may answered

pub near_calls_keep_unled : NearCallsKeepUnled
near_calls_keep_unled nester slot w e near unled = subst (IsUnled nester slot) (sym near.world) (changes_unled nester slot near.changes w near.near unled)

pub others_keep_new_unled : OthersKeepNewUnled
others_keep_new_unled nester slot g w e shows moves unled = others_keep_unled nester slot w e (holding nester slot g w shows) moves unled

-- ---- at its beginning

pub new_space_is_unled : NewSpaceIsUnled
unfolding apply_all apply kind_there
new_space_is_unled nester slot w reply low empty answered =
    let made = MakeSpace (slot ∷ nester) (Some (At (LAST_PORTER_SLOT ∷ nester))) in
    let goes = goes_by nester w (SpaceMakeHeld slot) no_words reply answered (made ∷ []) OK [] (make-row nester slot w reply low answered
    ∙ ap (made_as nester slot w reply low answered) empty) in
    subst (IsUnled nester slot) (sym goes.0) (λ q y out off.
    rw (not_there nester slot (slot ∷ nester) y (inside_near nester slot []) out off)
    (by q y (list_any (leads_to (q ++ slot ∷ nester)) (body_pointers (w.body y))) refl))
  where
    by : (q y : Path) (t : Bool) → list_any (leads_to (q ++ slot ∷ nester)) (body_pointers (w.body y)) ≡ t → t ≡ false
    by q y false e = refl
    by q y true e =
        let live = there_live (kind_there w) (q ++ slot ∷ nester) y (w.body y) (answered.valid.consistent.good y) e in
        let none : kind_there w (q ++ slot ∷ nester) ≡ None = ap (option_map kind_of) (none_beneath nester slot w reply low answered answered.valid empty q) in
        let both : is_some (kind_there w (q ++ slot ∷ nester)) ≡ false = rw none refl in
        let clash = sym live ∙ both in
        cc
