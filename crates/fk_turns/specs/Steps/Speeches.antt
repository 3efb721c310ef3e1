-- Speeches: what a stage that told a native server something leaves of where threads stand.
use Rattle.std.specs.Prelude.{◌≡◌, true, false, [], None}
use Rattle.fk_calls.specs.declared.calls.speaking.Spoken.{Spoken}
use Rattle.fk_model.specs.declared.moves.Ask.TheVariants as asks
use Rattle.fk_model.specs.declared.names.Who.{Who}
use Rattle.fk_store.specs.Store.Contents.{Contents}
use Rattle.fk_store.specs.Store.Paths.{path, place}
use Rattle.fk_store.specs.Store.Threads.{is_free_at}
use Rattle.fk_store.specs.Store.World.{world}
use Rattle.fk_turns.specs.Moved.Kept.{AreKept}
use Rattle.fk_turns.specs.Moved.Moved.{IsMoved}
use Rattle.fk_turns.specs.Moved.Told.{IsMadeTo, IsStored}
use Rattle.fk_turns.specs.Next.Speaking.{touched_by, HasSpeech}
use Rattle.fk_turns.specs.Next.Waiting.{ComesAfter}
use Rattle.fk_waits.specs.Waits.Lists.{is_queued, Lists}

-- the lists were kept before a client's stage that told a native server something, made by one that wasn't queued
pub record ComesSpoken (n : Contents) (mover : Who) (spoken : Spoken) (waits marks : Lists) : Type 0 where
  pub before : Contents
  pub kept : AreKept before waits marks
  pub queued : is_queued mover waits.queued ≡ false
  -- nobody is marked whom any change may free
  pub none : marks.ready ≡ []
  pub free : is_free_at (world before) (place (path before) mover) ≡ true
  pub after : ComesAfter n mover (touched_by mover spoken) waits marks
  pub moved : IsMoved before n mover (touched_by mover spoken)
  pub old : IsStored before
  pub new : IsStored n
  pub made : IsMadeTo before n mover None asks.Run
  pub row : HasSpeech before mover spoken
