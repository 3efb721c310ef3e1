-- A restorer's own move is its row, and tells what the row says.
use Rattle.std.proofs.Common.{◌≡◌, ℕ, List, None, sym, ap, ◌∙◌}
use Rattle.fk_model.specs.Places.{Path}
use Rattle.fk_model.specs.World.{World, Change, apply_all}
use Rattle.fk_model.specs.Outcomes.Outcome.{Goes}
use Rattle.fk_model.specs.Outcomes.Said.{Answered}
use Rattle.fk_model.specs.Moves.{call_row}
use Rattle.fk_model.specs.Runs.{after}
use Rattle.laws_jobs.specs.Machines.{Reply, IsAnswered, porter, call_of}
use Rattle.laws_jobs.proofs.Goings.{goes_by}
use Rattle.laws_restore.specs.Sites.Orders.{Site, Shows, Order, stage_of, words_of, May}
use Rattle.laws_restore.proofs.InSites.Comes.{comes}

module _ (nester : Path) (slot : ℕ) (g : Site) (w : World) (o : Order) (shows : Shows nester slot g w) (may : May slot o g) (reply : Reply)
    (answered : IsAnswered nester w (stage_of slot o) (words_of o) reply) where
  pub record Goings : Type 0 where
    pub changes : List Change
    pub row : call_row w (porter nester (words_of o)) None (stage_of slot o) ≡ Goes changes (Answered reply.status reply.words)
    pub world : after w (call_of nester (stage_of slot o) (words_of o)) ≡ apply_all changes w

  pub goings : Goings
  goings =
      let its = comes nester slot g w shows answered.valid o may in
      let goes = goes_by nester w (stage_of slot o) (words_of o) reply answered its.changes its.reply.status its.reply.words its.row in
      let told : Answered its.reply.status its.reply.words ≡ Answered reply.status reply.words = ap (λ (s : ℕ). Answered s its.reply.words) (sym goes.1.0)
      ∙ ap (Answered reply.status) (sym goes.1.1) in
      record { changes = its.changes; row = its.row ∙ ap (Goes its.changes) told; world = goes.0 }
