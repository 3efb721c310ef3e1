-- Speaking: what a client tells a native server leaves the reason of every other thread.
use Rattle.std.proofs.Common.{◌≡◌, ℕ, Bool, true, false, List, [], ◌∷◌, Option, Some, None, if◌then◌else◌, option_map, refl, sym, ap, subst, ◌∙◌}
use Rattle.fk_calls.specs.Calls.Goings.{over_on, IsAtOrderly}
use Rattle.fk_calls.specs.Calls.Speaking.{told_changes, yielded_changes, IsServed}
use Rattle.fk_model.specs.declared.moves.Ask.{Ask}
use Rattle.fk_model.specs.declared.thread.Turn.TheVariants as turns
use Rattle.fk_model.specs.Moves.{outcome, step}
use Rattle.fk_model.specs.Objects.{Fault, Talk, Thread, and_then, holds}
use Rattle.fk_model.specs.Outcomes.{listed}
use Rattle.fk_model.specs.Places.{Path, same_path}
use Rattle.fk_model.specs.Searches.{thread_at}
use Rattle.fk_model.specs.World.{World, Change, apply, finished_in, serves}
use Rattle.fk_model.specs.World.Change.{Alter}
use Rattle.fk_model.specs.World.Edit.{CountMoved, Finish, PassTurn, Shift}
use Rattle.fk_model.proofs.walks.PlaceLaws.{same_path_sym}
use Rattle.fk_store.specs.Store.Threads.{is_free_at}
use Rattle.fk_turns.specs.declared.whys.whys.Why.{Why}
use Rattle.fk_turns.specs.Whys.Whys.{IsWhy}
use Rattle.fk_turns.proofs.InWhys.Apart.{is_barred_why, why_kept}
use Rattle.fk_turns.proofs.InWhys.Passing.{faultless_at, finished_fault, finished_talk, goes_untouched, nobody_passed, passed_in, peer_finished, peer_passed}
use Rattle.fk_turns.proofs.InWhys.Passing.{talk_of, there_finished, there_passed, GoesAway}
use Rattle.fk_turns.proofs.InWhys.Passing.IsAway.{Served}
use Rattle.fk_turns.proofs.InWhys.Talking.{at_counted, at_shifted, done_quiet, in_call, is_at, is_sender, off_sender, quiet_at, sender_shifted, somebody, IsIn}
use Rattle.laws_waits.specs.Calm.{AreApartFrom, AreMild}
use Rattle.laws_waits.specs.Complete.{is_barred}
use Rattle.laws_waits.specs.Few.{is_peer_of, IsNobodyTo}
use Rattle.laws_waits.specs.Stuck.{AreUntouched, IsStuck, Reason}
use Rattle.laws_waits.proofs.Mild.{mild_changes_touch_nobody_lem}
use Rattle.laws_waits.proofs.Stays.{moves_leave_stuck_lem, stuck_stays_lem}

-- ---- words

module _ (w : World) (me : Path) (k : ℕ) (mine : is_at is_sender (thread_at w me) ≡ true) (x : Path) (mover : same_path x me ≡ false) where
  abbrev places : Bool → List Path
  places last = me ∷ me ∷ (if last then me ∷ [] else [])

  abbrev counted : World
  counted = apply (Alter me (CountMoved k)) w

  abbrev shifted : World
  shifted = apply (Alter me (Shift k)) counted

  mine_counted : is_at is_sender (thread_at counted me) ≡ true
  mine_counted = at_counted is_sender w me me k ∙ mine

  mine_shifted : is_at is_sender (thread_at shifted me) ≡ true
  mine_shifted = at_shifted is_sender counted me me k (sender_shifted k) mine_counted

  told_mild : (last : Bool) → AreMild w (places last) (told_changes me k last)
  told_mild last = (
    quiet_at w me (CountMoved k) (refl, refl, refl) (somebody (thread_at w me) mine) (λ t is. refl),
    (quiet_at counted me (Shift k) (refl, refl, refl) (somebody (thread_at counted me) mine_counted) (λ t is. refl), by last),
  )
    where
      by : (last : Bool) → AreMild shifted (if last then me ∷ [] else []) (if last then Alter me (Finish []) ∷ [] else [])
      by true =
          (quiet_at shifted me (Finish []) (refl, refl, refl) (somebody (thread_at shifted me) mine_shifted) (done_quiet (thread_at shifted me) mine_shifted), tt)
      by false = tt

  told_apart : (last : Bool) (r : Reason) → IsStuck w x r → is_barred r ≡ false → AreApartFrom (places last) (told_changes me k last) x r
  told_apart last r stuck named =
      (off_sender w me x mine mover r stuck named, (off_sender w me x mine mover r stuck named, by last))
    where
      by : (last : Bool) → AreApartFrom (if last then me ∷ [] else []) (if last then Alter me (Finish []) ∷ [] else []) x r
      by true = (off_sender w me x mine mover r stuck named, tt)
      by false = tt

  module _ (last : Bool) (pick : Option Path) (ask : Ask) (row : listed (outcome w me pick ask) ≡ told_changes me k last) where
    told_after : (r : Reason) → IsStuck w x r → is_barred r ≡ false → IsStuck (step w me pick ask).world x r
    told_after r stuck named =
        moves_leave_stuck_lem w x r me pick ask stuck
        (subst (λ (l : List Change). AreUntouched w l x r) (sym row)
        (mild_changes_touch_nobody_lem w (places last) (told_changes me k last) x r (told_mild last) stuck (told_apart last r stuck named)))

    pub why_told : (p : ℕ → Path) (why : Why) → is_barred_why why ≡ false → IsWhy w p x why → IsWhy (step w me pick ask).world p x why
    why_told p why named is = why_kept w (step w me pick ask).world x told_after p why named is

-- ---- a turn

module _ (w : World) (me : Path) (at : IsAtOrderly w me (over_on turns.Client)) (free : is_free_at w me ≡ true) (served : IsServed w me) where
  abbrev yielded : World
  yielded = apply (Alter me (PassTurn turns.Server)) w

  hander : IsIn w me (over_on turns.Client ∷ at.later)
  hander = in_call w me (over_on turns.Client) at.later at.todo

  faultless : hander.thread.fault ≡ None
  faultless = faultless_at w me hander.thread free hander.there

  abbrev given : Talk
  given = record served.talk { turn = turns.Server; moved = 0 }

  abbrev handed : Thread
  handed = passed_in turns.Server hander.thread

  handed_there : thread_at yielded me ≡ Some handed
  handed_there = there_passed w me turns.Server hander.thread hander.there

  handed_talk : handed.talk ≡ Some given
  handed_talk =
      ap (option_map (λ (talk : Talk). record talk { turn = turns.Server; moved = 0 }))
      (talk_of w me hander.thread (Some served.talk) hander.there served.there)

  goes_first : GoesAway w me me (PassTurn turns.Server)
  goes_first = record {
    was = hander.thread;
    there = hander.there;
    plain = (refl, refl, refl);
    thread = handed;
    then_there = handed_there;
    faultless = faultless;
    away = Served given handed_talk served.service;
  }

  goes_then : GoesAway yielded me me (Finish [])
  goes_then = record {
    was = handed;
    there = handed_there;
    plain = (refl, refl, refl);
    thread = finished_in [] handed handed.mode;
    then_there = there_finished yielded me [] handed handed_there;
    faultless = finished_fault [] handed handed.mode ∙ faultless;
    away = Served given (finished_talk [] handed handed.mode ∙ handed_talk) served.service;
  }

  -- whom it serves it served before
  pub unserved_before : (q : Path) → is_peer_of (apply (Alter me (Finish [])) yielded) me q ≡ is_peer_of w me q
  unserved_before q = peer_finished yielded me q me [] ∙ peer_passed w me q me turns.Server

  module _ (x : Path) (mover : same_path x me ≡ false) (unserved : is_peer_of w me x ≡ false) where
    nobody : IsNobodyTo w x me
    nobody = record {
      other = mover;
      peer = ap (holds (λ (talk : Talk). serves x talk.peer)) served.there ∙ ap (serves x) served.service;
      taker = ap (holds (λ (fault : Fault). holds (serves x) fault.taker)) (ap (and_then (λ (u : Thread). u.fault)) hander.there ∙ faultless);
      client = unserved;
    }

    apart : same_path me x ≡ false
    apart = same_path_sym me x ∙ mover

    untouched : (r : Reason) → IsStuck w x r → is_barred r ≡ false → AreUntouched w (yielded_changes me) x r
    untouched r stuck named =
        let one = goes_untouched w x me me (PassTurn turns.Server) goes_first apart nobody r stuck named in
        let stuck_one = stuck_stays_lem w (Alter me (PassTurn turns.Server)) x r stuck one in
        (one, (goes_untouched yielded x me me (Finish []) goes_then apart (nobody_passed w me me x turns.Server nobody) r stuck_one named, tt))

    module _ (pick : Option Path) (ask : Ask) (row : listed (outcome w me pick ask) ≡ yielded_changes me) where
      yielded_after : (r : Reason) → IsStuck w x r → is_barred r ≡ false → IsStuck (step w me pick ask).world x r
      yielded_after r stuck named =
          moves_leave_stuck_lem w x r me pick ask stuck (subst (λ (l : List Change). AreUntouched w l x r) (sym row) (untouched r stuck named))

      pub why_yielded : (p : ℕ → Path) (why : Why) → is_barred_why why ≡ false → IsWhy w p x why → IsWhy (step w me pick ask).world p x why
      why_yielded p why named is = why_kept w (step w me pick ask).world x yielded_after p why named is
