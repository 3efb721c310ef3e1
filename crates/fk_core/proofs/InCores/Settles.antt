-- Settling goes on, and ends.
use Rattle.std.proofs.Common.{◌≡◌, ℕ, ◌+◌, ◌-◌, ◌<◌, List, length, Option, Some, None, IfNone, true, refl, sym, ap, subst, ◌∙◌, arith}
use Rattle.std.specs.Prelude.{is_some}
use Rattle.std.proofs.lemmas.List.{length-append}
use Rattle.std.proofs.lemmas.Option.{slice_get_within}
use Rattle.fk_model.specs.World.{World}
use Rattle.laws_runs.specs.Cores.{Settles, Unmoved, EndsNow}
use Rattle.laws_runs.specs.Cores.Settles.{Stays, Ends}
use Rattle.laws_house.specs.Houses.{Job}
use Rattle.fk_jobs.specs.Jobs.{Queue, with_idle}
use Rattle.fk_jobs.specs.Turns.{core_of}
use Rattle.fk_core.specs.Rounds.Served.{Services}
use Rattle.fk_core.specs.Cores.Cores.{RunCore, house}

-- what settles from here settles from there
abbrev pub Carries : List Job → RunCore → RunCore → Type 0
Carries jobs start c = (last : RunCore) → Settles (house jobs) c last → Settles (house jobs) start last

pub one_idle : (jobs : List Job) (start : RunCore) (w : World) (services : Services) (q r : Queue) (events : ℕ) (why : Unmoved) → q.jobs ≡ jobs →
    Carries jobs start (core_of w services q events) → EndsNow (house q.jobs) (core_of w services q events) why → r ≡ with_idle q why →
    Carries jobs start (core_of w services r events)
one_idle jobs start w services q r events why same all now is last rest =
    all last (Ends (core_of w services q events) last why (subst (λ j. EndsNow (house j) (core_of w services q events) why) same now)
    (subst (λ r. Settles (house jobs) (core_of w services r events) last) is rest))

pub stays : (jobs : List Job) (start : RunCore) (w : World) (services : Services) (q : Queue) (events : ℕ) → q.jobs ≡ jobs →
    Carries jobs start (core_of w services q events) →
    ((why : Unmoved) → EndsNow (house q.jobs) (core_of w services q events) why → ⊥) →
    Settles (house jobs) start (core_of w services q events)
stays jobs start w services q events same all none = all (core_of w services q events) (Stays (core_of w services q events) by)
  where
    by : (why : Unmoved) → EndsNow (house jobs) (core_of w services q events) why → ⊥
    by why ends = none why (subst (λ j. EndsNow (house j) (core_of w services q events) why) (sym same) ends)

-- while one is at work none ends without a move
pub busy : (jobs : List Job) (w : World) (services : Services) (q : Queue) (events : ℕ) → is_some q.work ≡ true →
    Settles (house jobs) (core_of w services q events) (core_of w services q events)
busy jobs w services q events at = Stays (core_of w services q events) (λ why ends. let none = ap is_some ends.unmoved in absurd (cc))

-- what holds where there is none
pub none_of : {A : Type 0} (o : Option A) (X : Type 0) → ((a : A) → o ≡ Some a → ⊥) → IfNone o X → X
none_of None X not h = h
none_of (Some a) X not h = absurd (not a refl)

-- fewer are left
pub fewer : (q r : Queue) (w : World) (services : Services) (events : ℕ) (why : Unmoved) → EndsNow (house q.jobs) (core_of w services q events) why →
    r ≡ with_idle q why → length r.jobs - length r.ends < length q.jobs - length q.ends
fewer q r w services events why ends is =
    let low = slice_get_within q.jobs (length q.ends) ends.job ends.its in
    let jobs : length r.jobs ≡ length q.jobs = ap (λ (r : Queue). length r.jobs) is in
    let longer : length r.ends ≡ length q.ends + 1 = ap (λ (r : Queue). length r.ends) is ∙ length-append q.ends _ in
    omega (arith, low, jobs, longer)
