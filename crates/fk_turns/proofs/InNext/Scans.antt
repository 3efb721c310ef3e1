-- Scans: a user is ready with a pick or without.
use Rattle.std.proofs.Common.{◌≡◌, Option, Some, None, IsSome, IfSome, subst}
use Rattle.fk_model.specs.declared.moves.Ask.TheVariants as asks
use Rattle.fk_model.specs.declared.moves.Move.{Move}
use Rattle.fk_model.specs.declared.names.Who.{Who}
use Rattle.fk_model.specs.Places.{Path}
use Rattle.fk_model.specs.Moves.{IsReady}
use Rattle.fk_turns.specs.Picks.Stands.{IsPicked}
use Rattle.fk_turns.specs.declared.picks.moves.Picker.TheVariants.{User}
use Rattle.fk_turns.specs.Picks.Judgements.{IsReadyMove}
use Rattle.fk_store.specs.Store.Contents.{Contents}
use Rattle.fk_store.specs.Store.Moves.{picked_by}
use Rattle.fk_store.specs.Store.Paths.{path}
use Rattle.fk_store.specs.Store.World.{world, place_of}
use Rattle.fk_turns.specs.Next.Waiting.{IsMoveReady}

-- it isn't, where it is neither with a pick nor without
pub no_move : (m : Contents) (me : Who) → (IsReady (world m) (place_of m me) None asks.Run → ⊥) → ((q : Path) → IsPicked m (User me) q → ⊥) →
    IsMoveReady (world m) (place_of m me) → ⊥
no_move m me alone picked (None, ready) = alone ready
no_move m me alone picked (Some q, ready) = picked q ready

-- it is, where a move of it is
pub some_move : (m : Contents) (who : Who) (o : Option Move) → IfSome o (λ (move : Move). IsReadyMove m move asks.Run) →
    IfSome o (λ (move : Move). move.who ≡ who) → IsSome o → IsMoveReady (world m) (place_of m who)
some_move m who None ready is some = absurd (cc)
some_move m who (Some move) ready is some = (
  picked_by (path m) move.pick,
  subst (λ (w : Who). IsReady (world m) (place_of m w) (picked_by (path m) move.pick) asks.Run) is ready,
)
