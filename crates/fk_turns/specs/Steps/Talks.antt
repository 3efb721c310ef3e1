-- Talks: what a stage in which two threads meet leaves of where threads stand.
use Rattle.std.specs.Prelude.{◌≡◌, Bool, true, false, [], Option, Some, None, option_map, ⊤}
use Rattle.fk_calls.specs.declared.calls.going.Talked.{Talked}
use Rattle.fk_calls.specs.declared.calls.going.Talked.TheVariants as talkeds
use Rattle.fk_model.specs.declared.moves.Ask.TheVariants as asks
use Rattle.fk_model.specs.declared.names.Who.{Who}
use Rattle.fk_model.specs.Objects.{Peer, Talk}
use Rattle.fk_model.specs.Objects.Peer.{Server}
use Rattle.fk_model.specs.Places.{Path}
use Rattle.fk_model.specs.Places.Ptr.{At}
use Rattle.fk_model.specs.Searches.{talk_at}
use Rattle.fk_model.specs.World.{World}
use Rattle.fk_store.specs.Store.Contents.{Contents}
use Rattle.fk_store.specs.Store.Paths.{path, place}
use Rattle.fk_store.specs.Store.Threads.{is_free_at}
use Rattle.fk_store.specs.Store.World.{world, place_of}
use Rattle.fk_turns.specs.declared.steps.talking.Place.{Place}
use Rattle.fk_turns.specs.declared.steps.talking.Place.TheVariants as places
use Rattle.fk_turns.specs.Moved.Kept.{is_user_at, AreKept}
use Rattle.fk_turns.specs.Moved.Moved.{IsMoved}
use Rattle.fk_turns.specs.Moved.Told.{IsMadeTo, IsStored}
use Rattle.fk_turns.specs.Next.Goings.{touched_in, HasTalkRow}
use Rattle.fk_turns.specs.Next.Waiting.{ComesAfter, IsMoveReady}
use Rattle.fk_turns.specs.Whys.Causes.{cause_at}
use Rattle.fk_turns.specs.Whys.Whys.{IsLoudly}
use Rattle.fk_waits.specs.Waits.Lists.{is_queued, Lists}
use Rattle.laws_waits.specs.Few.{is_peer_of}

-- whom the talk of a thread is with
abbrev pub peer_at : World → Path → Option Peer
peer_at w x = option_map (λ (talk : Talk). talk.peer) (talk_at w x)

-- a client and the thread that serves it are in no other talk
pub record IsAlone (w : World) (client : Path) : Type 0 where
  pub server : Path
  pub peer : peer_at w client ≡ Some (Server (At server))
  pub idle : peer_at w server ≡ None
  pub unserved : (q : Path) → is_peer_of w client q ≡ false

-- who is at the other end
abbrev pub met_by : Talked → Who
met_by (talkeds.Sends client receiver sender) = receiver
met_by (talkeds.Passes client receiver) = receiver

-- the lists were kept before a stage in which two threads met, made by one that wasn't queued
pub record ComesTalked (n : Contents) (mover : Who) (by : Talked) (waits marks : Lists) : Type 0 where
  pub before : Contents
  pub kept : AreKept before waits marks
  pub queued : is_queued mover waits.queued ≡ false
  -- nobody is marked whom any change may free
  pub none : marks.ready ≡ []
  pub free : is_free_at (world before) (place (path before) mover) ≡ true
  pub after : ComesAfter n mover (touched_in by) waits marks
  pub moved : IsMoved before n mover (touched_in by)
  pub old : IsStored before
  pub new : IsStored n
  pub made : IsMadeTo before n mover None asks.Run
  pub row : HasTalkRow before mover by

-- ---- where a thread belongs

pub record IsHearing (m : Contents) (who port : Who) : Type 0 where
  pub why : IsLoudly (world m) (place_of m who)
  pub cause : place_of m port ≡ cause_at (world m) (place_of m who)
  pub user : is_user_at m who ≡ true

abbrev pub IsThere : Contents → Who → Place → Type 0
IsThere m who places.Goes = IsMoveReady (world m) (place_of m who)
IsThere m who (places.Hears port) = IsHearing m who port
IsThere m who places.Unsaid = ⊤

abbrev pub place_by : Bool → Place
place_by true = places.Goes
place_by false = places.Unsaid
