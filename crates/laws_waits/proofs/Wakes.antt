-- Any change touches few.
use Rattle.std.proofs.Common.{◌≡◌, Bool, true, false, ◌&&◌, refl, ap, sym, ◌∙◌}
use Rattle.std.proofs.lemmas.Bool.{and_parts}
use Rattle.fk_model.specs.declared.thread.Turn.{Turn}
use Rattle.fk_model.specs.declared.thread.Turn.TheVariants as turns
use Rattle.fk_model.specs.Places.{Path}
use Rattle.fk_model.specs.Objects.{Talk, holds}
use Rattle.fk_model.specs.World.{World, Change, serves}
use Rattle.fk_model.specs.World.Change.{Alter, Make, MakeSpace, Kill, Move, PutPage, DropPage}
use Rattle.fk_model.specs.Searches.{thread_at, talk_at}
use Rattle.fk_model.proofs.walks.PlaceLaws.{same_path_eq}
use Rattle.laws_moves.specs.Machine.Frame.{names_body}
use Rattle.laws_waits.specs.Touching.{is_loud, stirs}
use Rattle.laws_waits.specs.Stuck.{End, talk_place, is_talk_of, is_with, IsTalking, IsTalkingTo, HasTaken, LeavesEnd, Reason, IsStuck, IsUntouched}
use Rattle.laws_waits.specs.Stuck.End.{Absent, Covered, Unclaimed, Closed, Unnamed}
use Rattle.laws_waits.specs.Stuck.Reason.{Resting, Beneath, Locking, Sleeping, Connecting, Receiving, Passing, Sending, Lacking, Ending, Holding, Waiting}
use Rattle.laws_waits.specs.Stuck.Reason.{WaitingOut, Barred}
use Rattle.laws_waits.specs.Few.{is_peer_of}
use Rattle.laws_waits.specs.Wakes.{IsStranger, LeavesCover, LeavesRest, ChangesTouchFew}
use Rattle.laws_waits.proofs.Rows.{held-some}

-- what isn't named isn't stirred
named-stirs : (w : World) (c : Change) (q : Path) → names_body w c q ≡ false → stirs w c q ≡ false
named-stirs w (Alter x e) q h = ap (λ b. b && holds (is_loud e) (thread_at w x)) h
named-stirs w (Make x body) q h = h
named-stirs w (MakeSpace x holder) q h = h
named-stirs w (Kill x) q h = h
named-stirs w (Move x slot) q h = h
named-stirs w (PutPage space page words) q h = refl
named-stirs w (DropPage space page) q h = refl

module _ (w : World) (c : Change) (x : Path) (own : names_body w c x ≡ false) (strangers : (y : Path) → stirs w c y ≡ true → IsStranger w x y) where
  -- a thread that is no stranger isn't stirred
  unstirred : (y : Path) → (IsStranger w x y → ⊥) → stirs w c y ≡ false
  unstirred y known = by (stirs w c y) refl
    where
      by : (b : Bool) → stirs w c y ≡ b → b ≡ false
      by true e = absurd (known (strangers y e))
      by false e = refl

  place-left : (side turn : Turn) (client : Path) → IsTalking w x side turn client → stirs w c (talk_place side x client) ≡ false
  place-left turns.Client turn client talking = named-stirs w c x own
  place-left turns.Server turn client talking = unstirred client (λ stranger.
      let found = held-some (is_talk_of turns.Server x turn) (talk_at w client) talking in
      let on : is_peer_of w x client ≡ true = ap (holds (λ (talk : Talk). serves x talk.peer)) found.1 ∙ (and_parts _ _ found.2).1 in
      let off = stranger.peer in
      absurd (cc))

  talking-first : (side : Turn) (client : Path) (end : End) → IsTalkingTo w x side client end → IsTalking w x side side client
  talking-first side client end talking =
      let found = held-some (λ (talk : Talk). is_talk_of side x side talk && is_with side client end talk) (talk_at w (talk_place side x client)) talking in
      ap (holds (is_talk_of side x side)) found.1 ∙ (and_parts _ _ found.2).0

  other-left : (side : Turn) (client z : Path) → IsTalkingTo w x side client (Absent z) → stirs w c z ≡ false
  other-left turns.Client client z talking = unstirred z (λ stranger.
      let found = held-some (λ (talk : Talk). is_talk_of turns.Client x turns.Client talk && is_with turns.Client client (Absent z) talk)
      (talk_at w x) talking in
      let on : is_peer_of w z x ≡ true = ap (holds (λ (talk : Talk). serves z talk.peer)) found.1 ∙ (and_parts _ _ found.2).1 in
      let off = stranger.client in
      absurd (cc))
  other-left turns.Server client z talking =
      let found = held-some (λ (talk : Talk). is_talk_of turns.Server x turns.Server talk && is_with turns.Server client (Absent z) talk)
      (talk_at w client) talking in
      let same = same_path_eq client z (and_parts _ _ found.2).1 in
      ap (stirs w c) (sym same) ∙ place-left turns.Server turns.Server client (talking-first turns.Server client (Absent z) talking)

  end-left : (side : Turn) (client : Path) (end : End) → IsTalkingTo w x side client end → LeavesCover w c end → LeavesEnd w c end
  end-left side client (Absent z) talking cover = other-left side client z talking
  end-left side client (Unnamed z k) talking cover = (other-left side client z talking, cover)
  end-left side client (Covered z space) talking cover = cover
  end-left side client Unclaimed talking cover = tt
  end-left side client (Closed port space) talking cover = cover

  taker-left : (z : Path) → HasTaken w x z → stirs w c z ≡ false
  taker-left z taken = unstirred z (λ stranger. let off = stranger.taker in absurd (cc))

  touches : (r : Reason) → IsStuck w x r → LeavesRest w c x r → IsUntouched w c x r
  touches Resting stuck rest = own
  touches (Beneath space) stuck rest = rest
  touches (Locking m) stuck rest = (own, rest)
  touches (Sleeping cond m) stuck rest = (own, rest.0, rest.1)
  touches (Connecting h port) stuck rest = (own, rest.0, rest.1)
  touches (Receiving side into room reference far client) stuck rest = (own, place-left side _ client stuck.1, rest.0, rest.1)
  touches (Passing side reference client end) stuck rest =
      (own, place-left side side client (talking-first side client end stuck.1), end-left side client end stuck.1 rest.0, rest.1)
  touches (Sending side address count far client end) stuck rest =
      (own, place-left side side client (talking-first side client end stuck.3), end-left side client end stuck.3 rest.0, rest.1)
  touches (Lacking side address count far client y into room) stuck rest =
      (own, place-left side side client (talking-first side client (Absent y) stuck.3), rest.0, rest.1, rest.2)
  touches (Ending y space) stuck rest = (own, taker-left y stuck.1, rest)
  touches (Holding s j space) stuck rest = (own, rest.0, rest.1, rest.2)
  touches (Waiting set) stuck rest = (own, rest.0, rest.1)
  touches (WaitingOut set) stuck rest = (own, rest.0, rest.1, rest.2)
  touches Barred stuck rest = absurd rest

pub changes_touch_few_lem : ChangesTouchFew
changes_touch_few_lem w c x r stuck own strangers rest = touches w c x own strangers r stuck rest
