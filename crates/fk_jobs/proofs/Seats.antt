-- Seats: the state of the job whose turn it is, by its machine in code.
use Rattle.std.proofs.Common.{◌≡◌, ℕ, Bool, true, false, List, [], ◌∷◌, ◌++◌, length, Option, Some, None, option_map, is_some}
use Rattle.std.proofs.Common.{IfNone, refl, sym, ap, subst, ◌∙◌}
use Rattle.std.specs.List.{slice_get}
use Rattle.laws_house.specs.Houses.{Job, State, End, machine}
use Rattle.laws_runs.specs.Cores.{JobEnd, Work, work_of}
use Rattle.laws_runs.specs.Cores.JobEnd.{Worked}
use Rattle.laws_jobs.specs.Machines.{Head, IsAtCall}
use Rattle.laws_jobs.specs.Machines.Head.{Stops, Asks}
use Rattle.fk_jobs.specs.declared.ended.Finish.{Finish}
use Rattle.fk_jobs.specs.Jobs.{Queue, first_of, state_from, call_at, goes_on, hears_by, hears_at, hears, passed_by, passed, HasStopped, HasEnded}
use Rattle.fk_jobs.specs.Jobs.{shown_work, made_state, IsSeated, begun_from}

going : (q : Queue) (b e : ℕ) (s : State) (h : Head End) → is_some (call_at h) ≡ true →
    record { jobs = q.jobs; ends = q.ends; work = Some (record { begun = b; state = s }); ready = false } ≡ goes_on q b e s h
going q b e s (Asks stage words) is = refl
going q b e s (Stops end) is = cc

-- what it comes to hangs on the jobs and on the ends before it alone
apart : (jobs : List Job) (ends : List (JobEnd End)) (k l : Option (Work State)) (m n : Bool) (b e : ℕ) (s : State) (h : Head End) →
    goes_on (record { jobs = jobs; ends = ends; work = k; ready = m }) b e s h ≡ goes_on (record { jobs = jobs; ends = ends; work = l; ready = n }) b e s h
apart jobs ends k l m n b e s (Asks stage words) = refl
apart jobs ends k l m n b e s (Stops end) = refl

-- who has no call to make has stopped
pub stopped : (s : State) → is_some (call_at (machine.head s)) ≡ false → HasStopped (machine.head s)
stopped s = by (machine.head s)
  where
    by : (h : Head End) → is_some (call_at h) ≡ false → HasStopped h
    by (Asks stage words) is = absurd (cc)
    by (Stops end) is = tt

-- ---- the one at work has ended

pub at_work : {W : Type 0} (state : W → State) (porter : Option W) (begun : Option ℕ) → HasEnded (shown_work state porter begun) → is_some porter ≡ true
at_work state None begun ended = absurd ended
at_work state (Some w) begun ended = refl

pub has_begun : {W : Type 0} (state : W → State) (porter : Option W) (begun : Option ℕ) → HasEnded (shown_work state porter begun) → is_some begun ≡ true
has_begun state None begun ended = absurd ended
has_begun state (Some w) None ended = absurd ended
has_begun state (Some w) (Some b) ended = refl

pub has_stopped : {W : Type 0} (state : W → State) (porter : Option W) (begun : Option ℕ) (w : W) → porter ≡ Some w
    → HasEnded (shown_work state porter begun) → HasStopped (machine.head (state w))
has_stopped state None begun w is ended = absurd ended
has_stopped state (Some v) None w is ended = absurd ended
has_stopped state (Some v) (Some b) w is ended = let same : v ≡ w = cc in subst (λ u. HasStopped (machine.head (state u))) same ended

-- so it tells how
pub tells : (finish : Option Finish) (s : State) → IfNone finish (IsAtCall machine s) → HasStopped (machine.head s) → is_some finish ≡ true
tells (Some finish) s none over = refl
tells None s none over = absurd (subst HasStopped none.2 over)

pub passing : (q : Queue) (b last : ℕ) (s : State) (end : End) → machine.head s ≡ Stops end →
    record { jobs = q.jobs; ends = q.ends ++ Worked end b last ∷ []; work = None; ready = false } ≡ hears_at q b last s
passing q b last s end is = sym (ap (goes_on q b last s) is)

pub passes : {W : Type 0} (state : W → State) (jobs : List Job) (ends : List (JobEnd End)) (ready : Bool) (porter : Option W) (begun : Option ℕ) (w : W)
    (b last : ℕ) (end : End) → porter ≡ Some w → begun ≡ Some b → machine.head (state w) ≡ Stops end → (now : Queue) →
    record { jobs = jobs; ends = ends; work = shown_work state porter begun; ready = ready } ≡ now →
    record { jobs = jobs; ends = ends ++ Worked end b last ∷ []; work = None; ready = false } ≡ passed now last
passes state jobs ends ready porter begun w b last end is from stops now same =
    let queue : Queue = record { jobs = jobs; ends = ends; work = shown_work state porter begun; ready = ready } in
    let shown : shown_work state porter begun ≡ Some (record { begun = b; state = state w }) =
    ap (λ o. shown_work state o begun) is ∙ ap (λ o. shown_work state (Some w) o) from in
    passing queue b last (state w) end stops ∙ sym (ap (passed_by queue last) shown) ∙ ap (λ q. passed q last) same

begins-placed : (ends : List (JobEnd End)) (job : Option Job) → is_some (first_of ends job) ≡ true → is_some job ≡ true
begins-placed ends None is = absurd (cc)
begins-placed ends (Some j) is = refl

module _ {W : Type 0} (state : W → State) (ends : List (JobEnd End)) (job : Option Job) where
  pub state-is : (porter : Option W) (begun : Option ℕ) → IsSeated state porter begun ends job →
      state_from (shown_work state porter begun) (first_of ends job) ≡ made_state state porter (first_of ends job)
  state-is None begun seat = refl
  state-is (Some w) None seat = sym (seat.fresh refl)
  state-is (Some w) (Some b) seat = refl

  pub work-is : (events : ℕ) (w : W) (begun : Option ℕ) → IsSeated state (Some w) begun ends job →
      work_of events (shown_work state (Some w) begun) (first_of ends job) ≡ Some (record { begun = begun_from begun events; state = state w })
  work-is events w None seat = ap (work_of events None) (sym (seat.fresh refl))
  work-is events w (Some b) seat = refl

  -- a machine in the place of another, or where none was made: in the state that the queue is in
  module _ (old new : Option W) (begun : Option ℕ) (seat : IsSeated state old begun ends job)
      (same : option_map state new ≡ made_state state old (first_of ends job)) where
    there-by : (old new : Option W) → (is_some old ≡ true → is_some job ≡ true) → option_map state new ≡ made_state state old (first_of ends job) →
        is_some new ≡ true → is_some job ≡ true
    there-by (Some w) new there same is = there refl
    there-by None new there same is = begins-placed ends job (sym (ap is_some same) ∙ some new is)
      where
        some : (new : Option W) → is_some new ≡ true → is_some (option_map state new) ≡ true
        some None is = is
        some (Some w) is = refl

    going-by : (old new : Option W) → is_some old ≡ true → option_map state new ≡ made_state state old (first_of ends job) → is_some new ≡ true
    going-by None new is same = absurd (cc)
    going-by (Some w) None is same = absurd (cc)
    going-by (Some w) (Some v) is same = refl

    fresh-by : (new : Option W) → option_map state new ≡ made_state state old (first_of ends job) → made_state state old (first_of ends job) ≡ first_of ends job →
        made_state state new (first_of ends job) ≡ first_of ends job
    fresh-by None same fresh = refl
    fresh-by (Some w) same fresh = same ∙ fresh

    pub reseated : IsSeated state new begun ends job
    reseated = record {
      there = there-by old new seat.there same;
      going = λ is. going-by old new (seat.going is) same;
      fresh = λ none. fresh-by new same (seat.fresh none);
    }

    work-by : (old new : Option W) (begun : Option ℕ) → (is_some begun ≡ true → is_some old ≡ true) →
        option_map state new ≡ made_state state old (first_of ends job) → shown_work state new begun ≡ shown_work state old begun
    work-by None None begun going same = refl
    work-by None (Some v) None going same = refl
    work-by None (Some v) (Some b) going same = absurd (let no = going refl in cc)
    work-by (Some w) None begun going same = absurd (cc)
    work-by (Some w) (Some v) None going same = refl
    work-by (Some w) (Some v) (Some b) going same =
        let one : state v ≡ state w = cc in
        ap (λ s. Some (record { begun = b; state = s })) one

    pub same-work : shown_work state new begun ≡ shown_work state old begun
    same-work = work-by old new begun seat.going same

  -- an answer: with the machine in its next state it goes on, or has ended
  module _ (jobs : List Job) (ready : Bool) (porter : Option W) (w : W) (begun : Option ℕ) (events b status : ℕ) (words : List ℕ) (s : State)
      (current : job ≡ slice_get jobs (length ends)) (seat : IsSeated state porter begun ends job) (is : porter ≡ Some w)
      (from : b ≡ begun_from begun events) (next : s ≡ machine.next (state w) status words) where
    abbrev queue : Queue
    queue = record { jobs = jobs; ends = ends; work = shown_work state porter begun; ready = ready }

    its : work_of events (shown_work state porter begun) (first_of ends job) ≡ Some (record { begun = begun_from begun events; state = state w })
    its = ap (λ (o : Option W). work_of events (shown_work state o begun) (first_of ends job)) is
        ∙ work-is events w begun (subst (λ (o : Option W). IsSeated state o begun ends job) is seat)

    heard : goes_on queue b events s (machine.head s) ≡ hears queue events status words
    heard =
        ap (λ b. hears_at queue b events s) from ∙ ap (hears_at queue (begun_from begun events) events) next
        ∙ sym (ap (hears_by queue events status words) its)
        ∙ ap (λ (o : Option Job). hears_by queue events status words (work_of events (shown_work state porter begun) (first_of ends o))) current

    pub goes : (now : Queue) → queue ≡ now → is_some (call_at (machine.head s)) ≡ true →
        record { jobs = jobs; ends = ends; work = Some (record { begun = b; state = s }); ready = false } ≡ hears now events status words
    goes now same at_call = going queue b events s (machine.head s) at_call ∙ heard ∙ ap (λ q. hears q events status words) same

    pub stops : (work : Option (Work State)) (spare : Bool) (now : Queue) → queue ≡ now →
        goes_on (record { jobs = jobs; ends = ends; work = work; ready = spare }) b events s (machine.head s) ≡ hears now events status words
    stops work spare now same =
        apart jobs ends work (shown_work state porter begun) spare ready b events s (machine.head s) ∙ heard ∙ ap (λ q. hears q events status words) same
