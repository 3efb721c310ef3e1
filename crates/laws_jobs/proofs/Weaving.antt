-- An interleaving goes on at its end, and each of its worlds is sound.
use Rattle.std.proofs.Common.{◌≡◌, ℕ, List, [], ◌∷◌, ◌++◌}
use Rattle.fk_model.specs.declared.stage.Stage.{Stage}
use Rattle.fk_model.specs.Places.{Path}
use Rattle.fk_model.specs.World.{World}
use Rattle.fk_model.specs.Runs.{Event, after}
use Rattle.laws_moves.specs.Frozen.Holding.{IsUsersMove}
use Rattle.laws_moves.specs.Savable.Savable.{IsSound}
use Rattle.laws_jobs.specs.Machines.{Machine, heard, call_of, said_of, IsReadyAt, IsAtCall, Interleaved, AtWork}
use Rattle.laws_jobs.specs.Machines.Head.{Asks}
use Rattle.laws_jobs.specs.Machines.Interleaved.{Here, Another, Own}

module _ {S A : Type 0} (m : Machine S A) (nester : Path) where
  pub first_sound : (w : World) (s : S) (es : List Event) (v : World) (t : S) → Interleaved m nester w s es v t → IsSound w
  first_sound _ _ _ _ _ (Here w s sound) = sound
  first_sound _ _ _ _ _ (Another w s e es v t sound works move rest) = sound
  first_sound _ _ _ _ _ (Own w s stage words es v t sound asked ready rest) = sound

  pub last_sound : (w : World) (s : S) (es : List Event) (v : World) (t : S) → Interleaved m nester w s es v t → IsSound v
  last_sound _ _ _ _ _ (Here w s sound) = sound
  last_sound _ _ _ _ _ (Another w s e es v t sound works move rest) = last_sound (after w e) s es v t rest
  last_sound _ _ _ _ _ (Own w s stage words es v t sound asked ready rest) =
      last_sound (after w (call_of nester stage words)) (heard m s (said_of w (call_of nester stage words))) es v t rest

  others_on : (w : World) (s : S) (es : List Event) (v : World) (t : S) (e : Event) → Interleaved m nester w s es v t → IsAtCall m t →
      IsUsersMove nester v e → IsSound (after v e) → Interleaved m nester w s (es ++ e ∷ []) (after v e) t
  others_on _ _ _ _ _ e (Here w s sound) on move later = Another w s e [] (after w e) s sound on move (Here (after w e) s later)
  others_on _ _ _ _ _ e (Another w s first es v t sound works other rest) on move later =
      Another w s first (es ++ e ∷ []) (after v e) t sound works other (others_on (after w first) s es v t e rest on move later)
  others_on _ _ _ _ _ e (Own w s stage words es v t sound asked ready rest) on move later =
      Own w s stage words (es ++ e ∷ []) (after v e) t sound asked ready
      (others_on (after w (call_of nester stage words)) (heard m s (said_of w (call_of nester stage words))) es v t e rest on move later)

  own_on : (w : World) (s : S) (es : List Event) (v : World) (t : S) (stage : Stage) (words : List ℕ) → Interleaved m nester w s es v t →
      m.head t ≡ Asks stage words → IsReadyAt v (call_of nester stage words) → IsSound (after v (call_of nester stage words)) →
      Interleaved m nester w s (es ++ call_of nester stage words ∷ []) (after v (call_of nester stage words))
      (heard m t (said_of v (call_of nester stage words)))
  own_on _ _ _ _ _ stage words (Here w s sound) asked ready later =
      let e = call_of nester stage words in
      Own w s stage words [] (after w e) (heard m s (said_of w e)) sound asked ready (Here (after w e) (heard m s (said_of w e)) later)
  own_on _ _ _ _ _ stage words (Another w s first es v t sound works other rest) asked ready later =
      let e = call_of nester stage words in
      Another w s first (es ++ e ∷ []) (after v e) (heard m t (said_of v e)) sound works other
      (own_on (after w first) s es v t stage words rest asked ready later)
  own_on _ _ _ _ _ stage words (Own w s early given es v t sound was went rest) asked ready later =
      let e = call_of nester stage words in
      Own w s early given (es ++ e ∷ []) (after v e) (heard m t (said_of v e)) sound was went
      (own_on (after w (call_of nester early given)) (heard m s (said_of w (call_of nester early given))) es v t stage words rest asked ready later)

  -- ---- of a job at work

  pub now_sound : (w : World) (s : S) (v : World) (t : S) → AtWork m nester w s v t → IsSound v
  now_sound w s v t work =
      let e = call_of nester work.stage work.words in
      last_sound (after w e) (heard m s (said_of w e)) work.events v t work.run

  pub work_begins : (w : World) (s : S) (stage : Stage) (words : List ℕ) → m.head s ≡ Asks stage words → IsReadyAt w (call_of nester stage words) →
      IsSound (after w (call_of nester stage words)) →
      AtWork m nester w s (after w (call_of nester stage words)) (heard m s (said_of w (call_of nester stage words)))
  work_begins w s stage words asked ready later = record {
    stage = stage;
    words = words;
    asked = asked;
    ready = ready;
    events = [];
    run = Here (after w (call_of nester stage words)) (heard m s (said_of w (call_of nester stage words))) later;
  }

  pub work_waits : (w : World) (s : S) (v : World) (t : S) (e : Event) → AtWork m nester w s v t → IsAtCall m t → IsUsersMove nester v e → IsSound (after v e) →
      AtWork m nester w s (after v e) t
  work_waits w s v t e work on move later = record {
    stage = work.stage;
    words = work.words;
    asked = work.asked;
    ready = work.ready;
    events = work.events ++ e ∷ [];
    run = others_on _ _ work.events v t e work.run on move later;
  }

  pub work_goes_on : (w : World) (s : S) (v : World) (t : S) (stage : Stage) (words : List ℕ) → AtWork m nester w s v t → m.head t ≡ Asks stage words →
      IsReadyAt v (call_of nester stage words) → IsSound (after v (call_of nester stage words)) →
      AtWork m nester w s (after v (call_of nester stage words)) (heard m t (said_of v (call_of nester stage words)))
  work_goes_on w s v t stage words work asked ready later = record {
    stage = work.stage;
    words = work.words;
    asked = work.asked;
    ready = work.ready;
    events = work.events ++ call_of nester stage words ∷ [];
    run = own_on _ _ work.events v t stage words work.run asked ready later;
  }
