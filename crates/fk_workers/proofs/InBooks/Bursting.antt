-- Bursting: a lease that is committed is so many moves of a run, and a book goes on by them.
use Rattle.std.proofs.Common.{◌≡◌, ℕ, suc, zero, ◌+◌, ◌-◌, ◌≤◌, Bool, true, false, List, [], ◌∷◌, ◌++◌, length, replicate, None}
use Rattle.std.proofs.Common.{length-append, append-nil, append_assoc, refl, sym, ap, subst, ◌∙◌, arith}
use Rattle.std.specs.Bool.{OnTrue, OnFalse}
use Rattle.fk_model.specs.declared.moves.Move.{Move}
use Rattle.fk_model.specs.declared.names.Who.{Who}
use Rattle.fk_model.specs.World.{World}
use Rattle.laws_house.specs.Houses.{Job}
use Rattle.laws_runs.specs.Cores.{IsRun}
use Rattle.laws_runs.specs.Cores.IsRun.{Begins, Goes}
use Rattle.fk_burst.specs.Burst.Commits.{MayCommit, CommitsSo}
use Rattle.fk_burst.specs.Burst.Lease.{Lease}
use Rattle.fk_core.specs.Cores.Bursts.{MakesMoves}
use Rattle.fk_core.specs.Cores.Cores.{RunCore, house}
use Rattle.fk_workers.specs.Books.Shown.{Shown, MovesSo, HasRun, MayBurst, moves_of}
use Rattle.fk_workers.specs.Books.Told.{Told, GoesOn}
use Rattle.fk_workers.proofs.InBooks.Coming.{shown_same}

-- ---- a core commits a lease

-- what a commit does are so many ready moves of the lease's thread, which runs
pub makes_moves : (l : Lease) (left : ℕ) (who : Who) (count : ℕ) (k n : _) (done : Bool) → who ≡ l.thread → count ≡ l.count → CommitsSo l left k done n →
    MakesMoves who count k done n
makes_moves l left who count k n true thread made commits = subst (λ (x : Who). MakesMoves x count k true n) (sym thread)
    (subst (λ c. MakesMoves l.thread c k true n) (sym made) commits.running)
makes_moves l left who count k n false thread made commits = commits.same

long_replicate : {X : Type 0} (n : ℕ) (x : X) → length (replicate n x) ≡ n
long_replicate zero x = refl
long_replicate (suc n) x = ap suc (long_replicate n x)

moves_are : (l : Lease) (who : Who) (count : ℕ) → who ≡ l.thread → count ≡ l.count → replicate count (record { who = who; pick = None }) ≡ moves_of l
moves_are l who count thread made = ap (λ n. replicate n (record { who = who; pick = None })) made
    ∙ ap (λ (x : Who). replicate l.count (record { who = x; pick = None })) thread

module _ (s t : Shown) (l : Lease) (who : Who) (count : ℕ) (thread : who ≡ l.thread) (made : count ≡ l.count) (jobs : t.jobs ≡ s.jobs)
    (budget : t.budget ≡ s.budget) where
  pub moved_so : (done : Bool) → s.core.events + count ≤ s.budget →
      OnTrue done (IsRun (house s.jobs) s.core (replicate count (record { who = who; pick = None })) t.core) →
      OnTrue done (t.core.events ≡ s.core.events + count) → OnTrue done (MovesSo s (moves_of l) t)
  moved_so true few run events = record {
    run = subst (λ ms. IsRun (house s.jobs) s.core ms t.core) (moves_are l who count thread made) run;
    events = events ∙ ap (λ n. s.core.events + n) (made ∙ sym (long_replicate l.count _));
    within = subst (λ n. n ≤ s.budget) (sym events) few;
    jobs = jobs;
    budget = budget;
  }
  moved_so false few run events = tt

pub same_so : (s t : Shown) (done : Bool) → t.jobs ≡ s.jobs → t.budget ≡ s.budget → OnFalse done (t.core ≡ s.core) → OnFalse done (t ≡ s)
same_so s t true jobs budget core = tt
same_so s t false jobs budget core = shown_same s t jobs budget core

pub may_so : (s : Shown) (l : Lease) (left : ℕ) (w : World) (done : Bool) → left ≡ s.budget - s.core.events → w ≡ s.core.world →
    OnTrue done (MayCommit w l left) → OnTrue done (MayBurst s l)
may_so s l left w done is world may = subst (λ n. OnTrue done (MayCommit s.core.world l n)) is
    (subst (λ v. OnTrue done (MayCommit v l left)) world may)

pub may_not_so : (s : Shown) (l : Lease) (left : ℕ) (w : World) (done : Bool) → left ≡ s.budget - s.core.events → w ≡ s.core.world →
    OnFalse done (MayCommit w l left → ⊥) → OnFalse done (MayBurst s l → ⊥)
may_not_so s l left w done is world may = subst (λ n. OnFalse done (MayCommit s.core.world l n → ⊥)) is
    (subst (λ v. OnFalse done (MayCommit v l left → ⊥)) world may)

-- ---- a run goes on by several moves

-- one run after the other
joined : (jobs : List Job) (first c d : RunCore) (past more : List Move) → IsRun (house jobs) first past c → IsRun (house jobs) c more d →
    IsRun (house jobs) first (past ++ more) d
joined jobs first c _ past _ run Begins = subst (λ l. IsRun (house jobs) first l c) (sym (append-nil past)) run
joined jobs first c _ past _ run (Goes more e m d rest ready turned) = subst (λ l. IsRun (house jobs) first l d) (append_assoc past more (m ∷ []))
    (Goes (past ++ more) e m d (joined jobs first c e past more run rest) ready turned)

-- a run with these moves more
pub run_so : (first s t : Shown) (past longer ms : List Move) → HasRun first past s → MovesSo s ms t → longer ≡ past ++ ms → HasRun first longer t
run_so first s t past longer ms run moves is =
    let long : length (past ++ ms) ≡ length past + length ms = length-append past ms in
    let events = run.events in
    let counted = moves.events in
    let within = moves.within in
    let budget = run.budget in
    let there : HasRun first (past ++ ms) t = record {
      sound = run.sound;
      jobs = moves.jobs ∙ run.jobs;
      budget = moves.budget ∙ budget;
      run = joined first.jobs first.core s.core t.core past ms run.run (subst (λ jobs. IsRun (house jobs) s.core ms t.core) run.jobs moves.run);
      events = omega (arith, long, events, counted);
      within = omega (arith, long, events, counted, within, budget);
    } in
    subst (λ h. HasRun first h t) (sym is) there

-- the moves that were pushed are those of the lease
pub pushed_so : (l : Lease) (who : Who) (count : ℕ) (past longer : List Move) → who ≡ l.thread → count ≡ l.count →
    longer ≡ past ++ replicate count (record { who = who; pick = None }) → longer ≡ past ++ moves_of l
pushed_so l who count past longer thread made is = is ∙ ap (λ ms. past ++ ms) (moves_are l who count thread made)

-- there is room for all of them
pub room_so : (first s t : Shown) (past : List Move) (l : Lease) (count room : ℕ) → HasRun first past s → MovesSo s (moves_of l) t → count ≡ l.count →
    first.budget ≤ room → length past + count ≤ room
room_so first s t past l count room run moves made wide =
    let events = run.events in
    let counted = moves.events in
    let long : length (moves_of l) ≡ l.count = long_replicate l.count _ in
    let within = moves.within in
    let budget = run.budget in
    omega (arith, events, counted, long, within, budget, wide, made)

-- the same of so many moves of one mover
pub room_by : (first s t : Shown) (past : List Move) (times room : ℕ) (m : Move) → HasRun first past s → MovesSo s (replicate times m) t →
    first.budget ≤ room → length past + times ≤ room
room_by first s t past times room m run moves wide =
    let events = run.events in
    let counted = moves.events in
    let long : length (replicate times m) ≡ times = long_replicate times m in
    let within = moves.within in
    let budget = run.budget in
    omega (arith, events, counted, long, within, budget, wide)

pub longer_by : (past longer : List Move) (times : ℕ) (m : Move) → longer ≡ past ++ replicate times m → length longer ≡ length past + times
longer_by past longer times m is =
    ap length is ∙ (length-append past (replicate times m) ∙ ap (λ n. length past + n) (long_replicate times m))

-- the events of a run are within its budget
pub within_now : (first s : Shown) (past : List Move) → HasRun first past s → s.core.events ≤ s.budget
within_now first s past run =
    let events = run.events in
    let within = run.within in
    let budget = run.budget in
    omega (arith, events, within, budget)

-- a book goes on by them
pub goes_so : {C : Type 0} (b d : Told C) (ms : List Move) → d.boot ≡ b.boot → d.history ≡ b.history ++ ms → GoesOn b d
goes_so b d ms boot history = record { boot = boot; more = ms; history = history }
