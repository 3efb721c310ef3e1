-- A job at work goes on, and its calls are counted.
use Rattle.std.proofs.Common.{◌≡◌, ℕ, suc, List, [], ◌∷◌, ◌++◌, refl, ap, ◌∙◌}
use Rattle.fk_model.specs.declared.stage.Stage.{Stage}
use Rattle.fk_model.specs.Places.{Path}
use Rattle.fk_model.specs.World.{World}
use Rattle.fk_model.specs.Runs.{Event, after}
use Rattle.laws_moves.specs.Frozen.Holding.{IsUsersMove}
use Rattle.laws_moves.specs.Savable.Savable.{IsSound}
use Rattle.laws_jobs.specs.Machines.{Machine, heard, call_of, said_of, IsReadyAt, IsAtCall, Interleaved, own_moves, AtWork, calls_made}
use Rattle.laws_jobs.specs.Machines.Head.{Asks}
use Rattle.laws_jobs.specs.Machines.Interleaved.{Here, Another, Own}

-- at work, with so many calls made
pub record Counted {S A : Type 0} (m : Machine S A) (nester : Path) (w : World) (s : S) (v : World) (t : S) (calls : ℕ) : Type 0 where
  pub work : AtWork m nester w s v t
  pub count : calls_made work ≡ calls

module _ {S A : Type 0} (m : Machine S A) (nester : Path) where
  others_more : (w : World) (s : S) (es : List Event) (v : World) (t : S) (e : Event) (run : Interleaved m nester w s es v t) → IsAtCall m t
      → IsUsersMove nester v e → IsSound (after v e) →
      (more : Interleaved m nester w s (es ++ e ∷ []) (after v e) t) × (own_moves more ≡ own_moves run)
  others_more _ _ _ _ _ e (Here w s sound) on move later = (Another w s e [] (after w e) s sound on move (Here (after w e) s later), refl)
  others_more _ _ _ _ _ e (Another w s first es v t sound works other rest) on move later =
      let more = others_more (after w first) s es v t e rest on move later in
      (Another w s first (es ++ e ∷ []) (after v e) t sound works other more.0, more.1)
  others_more _ _ _ _ _ e (Own w s stage words es v t sound asked ready rest) on move later =
      let more = others_more (after w (call_of nester stage words)) (heard m s (said_of w (call_of nester stage words))) es v t e rest on move later in
      (Own w s stage words (es ++ e ∷ []) (after v e) t sound asked ready more.0, ap suc more.1)

  own_more : (w : World) (s : S) (es : List Event) (v : World) (t : S) (stage : Stage) (words : List ℕ) (run : Interleaved m nester w s es v t)
      → m.head t ≡ Asks stage words →
      IsReadyAt v (call_of nester stage words) → IsSound (after v (call_of nester stage words)) →
      (more : Interleaved m nester w s (es ++ call_of nester stage words ∷ []) (after v (call_of nester stage words))
      (heard m t (said_of v (call_of nester stage words))))
      × (own_moves more ≡ suc (own_moves run))
  own_more _ _ _ _ _ stage words (Here w s sound) asked ready later =
      let e = call_of nester stage words in
      (Own w s stage words [] (after w e) (heard m s (said_of w e)) sound asked ready (Here (after w e) (heard m s (said_of w e)) later), refl)
  own_more _ _ _ _ _ stage words (Another w s first es v t sound works other rest) asked ready later =
      let e = call_of nester stage words in
      let more = own_more (after w first) s es v t stage words rest asked ready later in
      (Another w s first (es ++ e ∷ []) (after v e) (heard m t (said_of v e)) sound works other more.0, more.1)
  own_more _ _ _ _ _ stage words (Own w s early given es v t sound was went rest) asked ready later =
      let e = call_of nester stage words in
      let more = own_more (after w (call_of nester early given))
      (heard m s (said_of w (call_of nester early given))) es v t stage words rest asked ready later in
      (Own w s early given (es ++ e ∷ []) (after v e) (heard m t (said_of v e)) sound was went more.0, ap suc more.1)

  pub count_begins : (w : World) (s : S) (stage : Stage) (words : List ℕ) → m.head s ≡ Asks stage words → IsReadyAt w (call_of nester stage words) →
      IsSound (after w (call_of nester stage words)) →
      Counted m nester w s (after w (call_of nester stage words)) (heard m s (said_of w (call_of nester stage words))) 1
  count_begins w s stage words asked ready later = record {
    work = record {
      stage = stage;
      words = words;
      asked = asked;
      ready = ready;
      events = [];
      run = Here (after w (call_of nester stage words)) (heard m s (said_of w (call_of nester stage words))) later;
    };
    count = refl;
  }

  pub count_waits : (w : World) (s : S) (v : World) (t : S) (e : Event) (calls : ℕ) → Counted m nester w s v t calls → IsAtCall m t → IsUsersMove nester v e
      → IsSound (after v e) → Counted m nester w s (after v e) t calls
  count_waits w s v t e calls works on move later =
      let work = works.work in
      let more = others_more _ _ work.events v t e work.run on move later in
      record {
        work = record { stage = work.stage; words = work.words; asked = work.asked; ready = work.ready; events = work.events ++ e ∷ []; run = more.0 };
        count = ap suc more.1 ∙ works.count;
      }

  pub count_goes_on : (w : World) (s : S) (v : World) (t : S) (stage : Stage) (words : List ℕ) (calls : ℕ) → Counted m nester w s v t calls
      → m.head t ≡ Asks stage words → IsReadyAt v (call_of nester stage words) → IsSound (after v (call_of nester stage words)) →
      Counted m nester w s (after v (call_of nester stage words)) (heard m t (said_of v (call_of nester stage words))) (suc calls)
  count_goes_on w s v t stage words calls works asked ready later =
      let work = works.work in
      let more = own_more _ _ work.events v t stage words work.run asked ready later in
      record {
        work = record {
          stage = work.stage;
          words = work.words;
          asked = work.asked;
          ready = work.ready;
          events = work.events ++ call_of nester stage words ∷ [];
          run = more.0;
        };
        count = ap suc (more.1 ∙ works.count);
      }
