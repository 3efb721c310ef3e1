-- A job that asks the same again and again makes any number of calls.
use Rattle.std.proofs.Common.{◌≡◌, ℕ, zero, suc, ◌≤◌, List, [], ◌∷◌, refl, sym, ap, subst, ◌∙◌, arith}
use Rattle.fk_model.specs.declared.limits.TheConstants.{OWN_SPACE}
use Rattle.fk_model.specs.declared.stage.Stage.TheVariants.{SpaceRelease}
use Rattle.fk_model.specs.World.{World}
use Rattle.fk_model.specs.Runs.{Event, after}
use Rattle.laws_moves.specs.Savable.Savable.{IsSound}
use Rattle.laws_jobs.specs.Machines.{no_words, call_of, IsReadyAt, Interleaved, own_moves, AtWork}
use Rattle.laws_jobs.specs.Machines.Interleaved.{Here, Own}
use Rattle.examples_moves.proofs.Tested.{legal-tested}
use Rattle.examples_premises.specs.Premises.{premises}
use Rattle.examples_jobs.specs.Brief.{full}
use Rattle.examples_jobs.specs.Endless.{asks_again, CallsAtMost}
use Rattle.examples_jobs.proofs.Full.{full_sound}

abbrev again : Event
again = call_of [] (SpaceRelease OWN_SPACE 1) no_words

again_ready : IsReadyAt full again
unfolding premises
again_ready = (legal-tested full (again ∷ []) refl).0

-- it is refused, and leaves all as it was
same : after full again ≡ full
unfolding premises
same = refl

record Calls (w : World) (n : ℕ) : Type 0 where
  events : List Event
  last : World
  run : Interleaved asks_again [] w 0 events last 0
  count : own_moves run ≡ n

calls : (n : ℕ) (w : World) → w ≡ full → Calls w n
calls zero w is = record { events = []; last = w; run = Here w 0 (subst IsSound (sym is) full_sound); count = refl }
calls (suc n) w is =
    let more = calls n (after w again) (ap (λ v. after v again) is ∙ same) in
    record {
      events = again ∷ more.events;
      last = more.last;
      run = Own w 0 (SpaceRelease OWN_SPACE 1) no_words more.events more.last 0 (subst IsSound (sym is) full_sound) refl
          (subst (λ v. IsReadyAt v again) (sym is) again_ready) more.run;
      count = ap suc more.count;
    }

pub never_few : (most : ℕ) → CallsAtMost asks_again [] full 0 most → ⊥
never_few most few =
    let more = calls most (after full again) same in
    let work : AtWork asks_again [] full 0 more.last 0 = record {
      stage = SpaceRelease OWN_SPACE 1;
      words = no_words;
      asked = refl;
      ready = again_ready;
      events = more.events;
      run = more.run;
    } in
    let count = more.count in
    let least = few more.last 0 work in
    omega (arith, count, least)
