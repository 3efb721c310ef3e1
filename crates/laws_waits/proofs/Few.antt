-- An edit of a thread touches few.
use Rattle.std.proofs.Common.{◌≡◌, Bool, true, false, ◌&&◌, ◌∷◌, Some, refl, ap, sym, ◌∙◌}
use Rattle.std.proofs.lemmas.Bool.{and_parts}
use Rattle.fk_model.specs.declared.thread.Turn.{Turn}
use Rattle.fk_model.specs.declared.thread.Turn.TheVariants as turns
use Rattle.fk_model.specs.Places.{Path, same_path, parent}
use Rattle.fk_model.specs.Objects.{Talk, Thread, holds}
use Rattle.fk_model.specs.World.{World, Edit, serves}
use Rattle.fk_model.specs.World.Change.{Alter}
use Rattle.fk_model.specs.Searches.{thread_at, talk_at}
use Rattle.fk_model.proofs.walks.PlaceLaws.{same_path_eq, same_path_refl}
use Rattle.laws_waits.specs.Touching.{IsThreadEdit, stirs}
use Rattle.laws_waits.specs.Stuck.{BringsNobody, talk_place, is_talk_of, is_with, IsTalking, IsTalkingTo, HasTaken, LeavesEnd, IsGone, Reason, IsStuck}
use Rattle.laws_waits.specs.Stuck.{IsUntouched}
use Rattle.laws_waits.specs.Stuck.{End as End_of_talk}
use Rattle.laws_waits.specs.Stuck.End.{Absent, Covered, Unclaimed, Closed, Unnamed}
use Rattle.laws_waits.specs.Stuck.Reason.{Resting, Beneath, Locking, Sleeping, Connecting, Receiving, Passing, Sending, Lacking, Ending, Holding, Waiting}
use Rattle.laws_waits.specs.Stuck.Reason.{WaitingOut, Barred}
use Rattle.laws_waits.specs.Few.{is_peer_of, is_taker_of, IsNobodyTo, DoesntCome, IsSpared, ThreadEditsTouchFew, ClientsAreFound}
use Rattle.laws_waits.proofs.Rows.{client-found, held-some}
use Rattle.laws_waits.proofs.Calm.{alter-handle, off-right, held-other, memory-left, page-left, place-left, space-other, set-other, lock-other}

module _ (w : World) (y : Path) (e : Edit) (t : Thread) (there : thread_at w y ≡ Some t)
    (plain : IsThreadEdit e) (x : Path) (nobody : IsNobodyTo w x y) where
  unstirred : (q : Path) → same_path q y ≡ false → stirs w (Alter y e) q ≡ false
  unstirred q apart = rw apart refl

  -- whose body has the talk isn't the thread: else x would be its peer
  place-apart : (side turn : Turn) (client : Path) → IsTalking w x side turn client → same_path (talk_place side x client) y ≡ false
  place-apart turns.Client turn client talking = nobody.other
  place-apart turns.Server turn client talking = by (same_path client y) refl
    where
      by : (b : Bool) → same_path client y ≡ b → b ≡ false
      by true same =
          let here = same_path_eq client y same in
          let found = held-some (is_talk_of turns.Server x turn) (talk_at w client) talking in
          let peer : is_peer_of w x client ≡ true = ap (holds (λ (talk : Talk). serves x talk.peer)) found.1 ∙ (and_parts _ _ found.2).1 in
          let on : is_peer_of w x y ≡ true = ap (is_peer_of w x) (sym here) ∙ peer in
          let off = nobody.peer in
          absurd (cc)
      by false same = refl

  talking-first : (side : Turn) (client : Path) (end : End_of_talk) → IsTalkingTo w x side client end → IsTalking w x side side client
  talking-first side client end talking =
      let found = held-some (λ (talk : Talk). is_talk_of side x side talk && is_with side client end talk) (talk_at w (talk_place side x client)) talking in
      ap (holds (is_talk_of side x side)) found.1 ∙ (and_parts _ _ found.2).0

  -- nor is it at the other end: else x would be its client or its peer
  end-apart : (side : Turn) (client z : Path) → IsTalkingTo w x side client (Absent z) → same_path z y ≡ false
  end-apart turns.Client client z talking = by (same_path z y) refl
    where
      by : (b : Bool) → same_path z y ≡ b → b ≡ false
      by true same =
          let here = same_path_eq z y same in
          let found = held-some (λ (talk : Talk). is_talk_of turns.Client x turns.Client talk && is_with turns.Client client (Absent z) talk)
          (talk_at w x) talking in
          let serving : holds (λ (talk : Talk). serves z talk.peer) (talk_at w x) ≡ true = ap (holds (λ (talk : Talk). serves z talk.peer)) found.1
          ∙ (and_parts _ _ found.2).1 in
          let on : is_peer_of w y x ≡ true = ap (λ q. is_peer_of w q x) (sym here) ∙ serving in
          let off = nobody.client in
          absurd (cc)
      by false same = refl
  end-apart turns.Server client z talking = by (same_path z y) refl
    where
      by : (b : Bool) → same_path z y ≡ b → b ≡ false
      by true same =
          let found = held-some (λ (talk : Talk). is_talk_of turns.Server x turns.Server talk && is_with turns.Server client (Absent z) talk)
          (talk_at w client) talking in
          let its = same_path_eq client z (and_parts _ _ found.2).1 in
          let here = same_path_eq z y same in
          let apart = place-apart turns.Server turns.Server client (talking-first turns.Server client (Absent z) talking) in
          let on : same_path client y ≡ true = ap (λ q. same_path q y) (its ∙ here) ∙ same_path_refl y in
          absurd (cc)
      by false same = refl

  end-left : (side : Turn) (client : Path) (end : End_of_talk) → IsTalkingTo w x side client end → IsGone w side end → LeavesEnd w (Alter y e) end
  end-left side client (Absent z) talking gone = unstirred z (end-apart side client z talking)
  end-left side client (Unnamed z k) talking gone = (unstirred z (end-apart side client z talking), refl)
  end-left side client (Covered z space) talking gone = held-other w y e t there space gone.1
  end-left side client Unclaimed talking gone = tt
  end-left side client (Closed port space) talking gone = held-other w y e t there space gone.1

  taker-apart : (z : Path) → HasTaken w x z → same_path z y ≡ false
  taker-apart z taken = by (same_path z y) refl
    where
      by : (b : Bool) → same_path z y ≡ b → b ≡ false
      by true same =
          let here = same_path_eq z y same in
          let on : is_taker_of w x y ≡ true = ap (is_taker_of w x) (sym here) ∙ taken in
          let off = nobody.taker in
          absurd (cc)
      by false same = refl

  brings : (z : Path) → DoesntCome w x y z e → BringsNobody w (Alter y e) x z
  brings z none = record {
    ports = λ p h. let off = off-right (same_path p y) _ plain.1 in absurd (cc);
    threads = λ q h. let here = same_path_eq q y (and_parts _ _ h).0 in rw here none.comes;
    unserved = λ q h. let here = same_path_eq q y (and_parts _ _ h).0 in rw here none.served;
    handles = λ q h at set. let off = off-right (same_path (h ∷ parent q) y) _ plain.0 in absurd (cc);
  }

  touches : (r : Reason) → IsStuck w x r → IsSpared w x y e r → IsUntouched w (Alter y e) x r
  touches Resting stuck spared = nobody.other
  touches (Beneath space) stuck spared = held-other w y e t there space stuck.1
  touches (Locking m) stuck spared = (nobody.other, lock-other w y e t there (parent x) m stuck.2)
  touches (Sleeping c m) stuck spared = (nobody.other, refl, refl)
  touches (Connecting h port) stuck spared = (nobody.other, off-right (same_path (h ∷ parent x) y) _ plain.0, refl)
  touches (Receiving side into room reference far client) stuck spared =
      (nobody.other, unstirred _ (place-apart side _ client stuck.1), page-left w y e t there (parent x) into far, alter-handle y e (parent x) reference)
  touches (Passing side reference client end) stuck spared = (
    nobody.other,
    unstirred _ (place-apart side side client (talking-first side client end stuck.1)),
    end-left side client end stuck.1 stuck.2,
    alter-handle y e (parent x) reference,
  )
  touches (Sending side address count far client end) stuck spared = (
    nobody.other,
    unstirred _ (place-apart side side client (talking-first side client end stuck.3)),
    end-left side client end stuck.3 stuck.4,
    page-left w y e t there (parent x) address far,
  )
  touches (Lacking side address count far client z into room) stuck spared = (
    nobody.other,
    unstirred _ (place-apart side side client (talking-first side client (Absent z) stuck.3)),
    end-apart side client z stuck.3,
    page-left w y e t there (parent x) address far,
    memory-left w y e t there,
  )
  touches (Ending z space) stuck spared = (nobody.other, unstirred z (taker-apart z stuck.1), held-other w y e t there space stuck.2.1)
  touches (Waiting set) stuck spared = (nobody.other, set-other w y e t there (parent x) set stuck.1.1, brings (set ∷ parent x) spared)
  touches (WaitingOut set) stuck spared =
      (nobody.other, set-other w y e t there (parent x) set stuck.1.1, brings (set ∷ parent x) spared, λ space held. held-other w y e t there space held)
  touches (Holding s j space) stuck spared =
      (nobody.other, place-left w y e t there x s space stuck.2, space-other w y e t there (j ∷ space) stuck.3, λ q h. off-right (same_path q y) _ plain.2)
  touches Barred stuck spared = absurd spared

pub thread_edits_touch_few_lem : ThreadEditsTouchFew
thread_edits_touch_few_lem w y t e x r there plain stuck nobody spared = touches w y e t there plain x nobody r stuck spared

pub clients_are_found_lem : ClientsAreFound
clients_are_found_lem w x y valid few peer = client-found w valid few y x peer
