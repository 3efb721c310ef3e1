-- What each order comes to, where it may be given: its call goes, and what it is answered.
use Rattle.std.proofs.Common.{◌≡◌, ℕ, List, [], ◌∷◌, ◌++◌, Option, Some, None, Result, Ok, Err, refl, subst, ◌∙◌}
use Rattle.fk_model.specs.declared.limits.TheConstants.{FIRST_SCRATCH_SLOT}
use Rattle.fk_model.specs.declared.statuses.status.TheConstants.{OK, NONE}
use Rattle.fk_model.specs.Places.{Path, Ptr}
use Rattle.fk_model.specs.Places.Ptr.{Null, Dead, At, Out, Outside, Far}
use Rattle.fk_model.specs.Objects.{reference_of}
use Rattle.fk_model.specs.Objects.Body.{Reference}
use Rattle.fk_model.specs.World.{World, Change}
use Rattle.fk_model.specs.Outcomes.Outcome.{Goes}
use Rattle.fk_model.specs.Outcomes.Said.{Answered}
use Rattle.fk_model.specs.Readers.{kind_at}
use Rattle.fk_model.specs.ObjectRows.{kind_number, target_of, way_to, pointer_in}
use Rattle.fk_model.specs.Moves.{call_row}
use Rattle.fk_model.specs.Valid.{IsValid}
use Rattle.laws_jobs.specs.Machines.{no_words, porter}
use Rattle.laws_jobs.specs.Machines.{Reply}
use Rattle.laws_restore.specs.Sites.Orders.{Spot, Site, Order, Shows, SpotShows, stage_of, words_of, May}
use Rattle.laws_restore.specs.Sites.Orders.Spot.{Unsure}
use Rattle.laws_restore.specs.Sites.Orders.Order.{Readies, Leads, LeadsTop, Makes, Sets, Points, Gives, MakesPin, Pins, Takes, Checks, ParksTalk, ParksFault}
use Rattle.laws_restore.specs.Sites.Orders.Order.{Drops}
use Rattle.laws_restore.specs.Sites.Orders.Order.{DropsPin, Deadens, LinksTalk, RaisesFault, LinksFault, Holds}
use Rattle.laws_restore.proofs.InSites.Standing.{ref_slot, ref_named}
use Rattle.laws_restore.proofs.InSites.Plain.{Plain, plain}
use Rattle.laws_restore.proofs.InSites.Pinned.{pinned, pins-row}
use Rattle.laws_restore.proofs.InSites.Tied.{links_talk-plain, raises_fault-plain, links_fault-plain, holds-plain}
use Rattle.laws_restore.proofs.InSites.Dropped.{drops-plain, drops_pin-plain}
use Rattle.laws_restore.proofs.InSites.Deadened.{deadens-plain}
use Rattle.laws_jobs.proofs.Rows.{object-there, points_as}
use Rattle.laws_jobs.proofs.Rows.{located_as}
use Rattle.laws_restore.proofs.InSites.Located.{locate_here-row, located_here}

module _ (nester : Path) (slot : ℕ) (g : Site) (w : World) (shows : Shows nester slot g w) (valid : IsValid w) where
  abbrev root : Path
  root = slot ∷ nester

  abbrev told : ℕ → List ℕ → Reply
  told status words = record { status = status; words = words }

  -- a call goes, and this is its answer
  pub record Comes (o : Order) : Type 0 where
    pub changes : List Change
    pub reply : Reply
    pub row : call_row w (porter nester (words_of o)) None (stage_of slot o) ≡ Goes changes (Answered reply.status reply.words)

  of_plain : (o : Order) → Plain nester slot g w shows valid.consistent o → Comes o
  of_plain o its = record { changes = its.changes; reply = told OK []; row = its.row }

  pinning : (i : ℕ) → May slot (Pins i) g → Comes (Pins i)
  pinning i may = by (pointer_in w (porter nester no_words) nester i) (pins-row nester slot g w shows i (pinned nester slot g w shows may.0))
    where
      by : (r : Result Ptr ℕ) → call_row w (porter nester no_words) None (stage_of slot (Pins i)) ≡ points_as nester no_words w (FIRST_SCRATCH_SLOT ∷ root) r
          → Comes (Pins i)
      by (Ok to) h = record { changes = _; reply = told _ _; row = h }
      by (Err status) h = record { changes = _; reply = told _ _; row = h }

  checking : (r i : ℕ) → May slot (Checks r i) g → Comes (Checks r i)
  checking r i may =
      let ref : SpotShows nester slot w g.pin r (Some Unsure) = subst (λ (o : Option Spot). SpotShows nester slot w g.pin r o) may.1
      (shows.spots r (ref_slot nester slot g w shows r may.0)) in
      by ref.0 (locate_here-row nester no_words w r ref.0
      (object-there nester no_words w reference_of nester r (Reference ref.0) ref.0 (ref_named nester slot g w shows r may.0) ref.1 refl))
    where
      by_way : (to : Ptr) (o : Option (List ℕ)) → way_to nester to ≡ o
          → call_row w (porter nester no_words) None (stage_of slot (Checks r i)) ≡ located_here nester no_words w (Ok to) → Comes (Checks r i)
      by_way to None e h = record { changes = []; reply = told NONE []; row = h ∙ rw (located_as, e) refl }
      by_way to (Some way) e h = record { changes = []; reply = told OK (way ++ kind_number (kind_at w to) ∷ []); row = h ∙ rw (located_as, e) refl }

      by : (to : Ptr) → call_row w (porter nester no_words) None (stage_of slot (Checks r i)) ≡ located_here nester no_words w (target_of to)
          → Comes (Checks r i)
      by Null h = record { changes = _; reply = told _ _; row = h }
      by Dead h = record { changes = _; reply = told _ _; row = h }
      by (At x) h = by_way (At x) (way_to nester (At x)) refl h
      by (Out j) h = by_way (Out j) None refl h
      by Outside h = by_way Outside None refl h
      by Far h = by_way Far None refl h

  pub comes : (o : Order) → May slot o g → Comes o
  comes (Pins i) may = pinning i may
  comes (Checks r i) may = checking r i may
  comes (Drops r) may = of_plain (Drops r) (drops-plain nester slot g w shows valid r may.0 may.1)
  comes DropsPin may = of_plain DropsPin (drops_pin-plain nester slot g w shows valid (pinned nester slot g w shows may.0) may.1)
  comes (LinksTalk s q x r u port server words) may = of_plain (LinksTalk s q x r u port server words)
      (links_talk-plain nester slot g w shows valid.consistent s q x r u port server words may)
  comes (RaisesFault s q x r port words) may = of_plain (RaisesFault s q x r port words)
      (raises_fault-plain nester slot g w shows valid.consistent s q x r port words may)
  comes (LinksFault s q x r u port taker words) may = of_plain (LinksFault s q x r u port taker words)
      (links_fault-plain nester slot g w shows valid.consistent s q x r u port taker words may)
  comes (Holds s q x r holder) may = of_plain (Holds s q x r holder) (holds-plain nester slot g w shows valid.consistent s q x r holder may)
  comes (Deadens r) may = of_plain (Deadens r) (deadens-plain nester slot g w shows valid r may)
  comes (Readies r) may = of_plain (Readies r) (plain nester slot g w shows valid.consistent (Readies r) tt may)
  comes (Leads r s q x) may = of_plain (Leads r s q x) (plain nester slot g w shows valid.consistent (Leads r s q x) tt may)
  comes (LeadsTop r) may = of_plain (LeadsTop r) (plain nester slot g w shows valid.consistent (LeadsTop r) tt may)
  comes (Makes s q x kind) may = of_plain (Makes s q x kind) (plain nester slot g w shows valid.consistent (Makes s q x kind) tt may)
  comes (Sets s q x words) may = of_plain (Sets s q x words) (plain nester slot g w shows valid.consistent (Sets s q x words) tt may)
  comes (Points s q x r) may = of_plain (Points s q x r) (plain nester slot g w shows valid.consistent (Points s q x r) tt may)
  comes (Gives s q page words) may = of_plain (Gives s q page words) (plain nester slot g w shows valid.consistent (Gives s q page words) tt may)
  comes MakesPin may = of_plain MakesPin (plain nester slot g w shows valid.consistent MakesPin tt may)
  comes (Takes r) may = of_plain (Takes r) (plain nester slot g w shows valid.consistent (Takes r) tt may)
  comes (ParksTalk s q x i words) may = of_plain (ParksTalk s q x i words) (plain nester slot g w shows valid.consistent (ParksTalk s q x i words) tt may)
  comes (ParksFault s q x i taken words) may = of_plain (ParksFault s q x i taken words)
      (plain nester slot g w shows valid.consistent (ParksFault s q x i taken words) tt may)
