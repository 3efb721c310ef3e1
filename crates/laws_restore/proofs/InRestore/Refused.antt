-- A restorer that is told of no port stands where it stood; its pin may have been led.
use Rattle.std.proofs.Common.{◌≡◌, ℕ, Option, Some, refl, sym, subst, ◌∙◌}
use Rattle.fk_model.specs.Places.{Path}
use Rattle.fk_model.specs.Objects.{reference_of}
use Rattle.fk_model.specs.Objects.Body.{Reference}
use Rattle.fk_model.specs.World.{World, apply_all}
use Rattle.fk_model.specs.Runs.{after}
use Rattle.laws_jobs.specs.Machines.{Reply, no_words, call_of, IsAnswered}
use Rattle.laws_jobs.proofs.Rows.{object-there}
use Rattle.laws_restore.specs.Sites.Orders.{Spot, Site, SpotShows, Shows, Order, May, stage_of, words_of, fails, with_pin}
use Rattle.laws_restore.specs.Sites.Orders.Spot.{Unsure}
use Rattle.laws_restore.specs.Sites.Orders.Pin.{Loose}
use Rattle.laws_restore.specs.Sites.Orders.End.{Lost}
use Rattle.laws_restore.specs.Sites.Orders.Order.{Pins, Checks}
use Rattle.laws_restore.proofs.InSites.Goings.{goings}
use Rattle.laws_restore.proofs.InSites.Standing.{ref_slot, ref_named}
use Rattle.laws_restore.proofs.InSites.Located.{locate_here-row}
use Rattle.laws_restore.proofs.InSites.Pinned.{pins, still_here}

abbrev pub left_at : Order → Site → Site
left_at (Pins i) g = with_pin Loose g
left_at other g = g

module _ (nester : Path) (slot : ℕ) (g : Site) (w : World) (shows : Shows nester slot g w) where
  pin_refused : (i : ℕ) (reply : Reply) → May slot (Pins i) g → IsAnswered nester w (stage_of slot (Pins i)) no_words reply
      → Shows nester slot (with_pin Loose g) (after w (call_of nester (stage_of slot (Pins i)) no_words))
  pin_refused i reply may answered =
      let goes = goings nester slot g w (Pins i) shows may reply answered in
      rw goes.world (pins nester slot g w shows i goes.changes reply.status reply.words may.0 may.1 goes.row)

  look_refused : (r i : ℕ) (reply : Reply) → May slot (Checks r i) g → IsAnswered nester w (stage_of slot (Checks r i)) no_words reply
      → Shows nester slot g (after w (call_of nester (stage_of slot (Checks r i)) no_words))
  unfolding apply_all
  look_refused r i reply may answered =
      let goes = goings nester slot g w (Checks r i) shows may reply answered in
      let ref : SpotShows nester slot w g.pin r (Some Unsure) = subst (λ (o : Option Spot). SpotShows nester slot w g.pin r o) may.1
      (shows.spots r (ref_slot nester slot g w shows r may.0)) in
      let comes = sym (locate_here-row nester no_words w r ref.0
      (object-there nester no_words w reference_of nester r (Reference ref.0) ref.0 (ref_named nester slot g w shows r may.0) ref.1 refl)) ∙ goes.row in
      let none = still_here nester slot g w shows ref.0 goes.changes reply.status reply.words comes in
      rw (goes.world, none) shows

  pub refused_shows : (o : Order) (reply : Reply) → May slot o g → IsAnswered nester w (stage_of slot o) (words_of o) reply → (fails o ≡ Lost → ⊥)
      → Shows nester slot (left_at o g) (after w (call_of nester (stage_of slot o) (words_of o)))
  refused_shows (Pins i) reply may answered well = pin_refused i reply may answered
  refused_shows (Checks r i) reply may answered well = look_refused r i reply may answered
  refused_shows o reply may answered well = absurd (well refl)
