-- Runs of books: none yet, and one move more.
use Rattle.std.proofs.Common.{◌≡◌, ℕ, ◌+◌, ◌-◌, ◌≤◌, ◌<◌, List, [], ◌∷◌, ◌++◌}
use Rattle.std.proofs.Common.{length, length-append, append-nil, append_assoc, Some, None, refl, sym, ap, subst, ◌∙◌, arith}
use Rattle.std.proofs.lemmas.List.{length-replicate}
use Rattle.fk_model.specs.declared.moves.Move.{Move}
use Rattle.fk_model.specs.declared.moves.Rule.{Rule}
use Rattle.laws_runs.specs.Cores.{IsRun}
use Rattle.laws_runs.specs.Cores.IsRun.{Begins, Goes}
use Rattle.fk_core.specs.Cores.Cores.{house, IsReadyMove, IsTurned}
use Rattle.fk_core.specs.Cores.Served.{AllFit}
use Rattle.fk_core.specs.Cores.Goings.{IsFirstCore}
use Rattle.fk_burst.specs.Burst.Lease.{Lease}
use Rattle.fk_workers.specs.Books.Shown.{Shown, IsSound, Moves, HasRun, HasComeTo, IsFirstDue, moves_of}
use Rattle.fk_workers.specs.Books.Told.{Told, GoesOn, IsKept, IsSame, HasOneMore, HasMore, TakesDue, BeginsDue}
use Rattle.fk_workers.proofs.InBooks.Fitting.{fits_along}

-- none yet
pub no_run : (s : Shown) → IsSound s → HasRun s [] s
no_run s sound = record {
  sound = sound;
  jobs = refl;
  budget = refl;
  run = Begins;
  events = sound.events;
  within = omega arith;
}

-- one move more
pub more_run : (first s t : Shown) (past longer : List Move) (m : Move) → HasRun first past s → Moves s m t → longer ≡ past ++ m ∷ [] → HasRun first longer t
more_run first s t past longer m run moves is =
    let long : length (past ++ m ∷ []) ≡ length past + 1 = length-append past (m ∷ []) in
    let events = run.events in
    let counted = moves.events in
    let few = moves.may.0 in
    let budget = run.budget in
    let ready : IsReadyMove first.jobs s.core m = subst (λ jobs. IsReadyMove jobs s.core m) run.jobs moves.may.1 in
    let turned : IsTurned first.jobs s.core m t.core = subst (λ jobs. IsTurned jobs s.core m t.core) run.jobs moves.turned in
    let there : HasRun first (past ++ m ∷ []) t = record {
      sound = run.sound;
      jobs = moves.jobs ∙ run.jobs;
      budget = moves.budget ∙ budget;
      run = Goes past s.core m t.core run.run ready turned;
      events = omega (arith, counted, events, long);
      within = omega (arith, few, budget, events, long);
    } in
    subst (λ h. HasRun first h t) (sym is) there

-- there is room for the move that was made
pub has_room : (first s t : Shown) (past : List Move) (m : Move) (room : ℕ) → HasRun first past s → Moves s m t → first.budget ≤ room → length past < room
has_room first s t past m room run moves wide =
    let events = run.events in
    let few = moves.may.0 in
    let budget = run.budget in
    omega (arith, events, few, budget, wide)

-- the same, seen otherwise
pub same_run : (first s t : Shown) (past : List Move) → HasRun first past s → t ≡ s → HasRun first past t
same_run first s t past run is = subst (λ u. HasRun first past u) (sym is) run

-- the table fits
pub fits_now : (rules : List Rule) (first s : Shown) (past : List Move) → HasRun first past s → AllFit rules first.core.servers → AllFit rules s.core.servers
fits_now rules first s past run fits = fits_along rules first.jobs first.core s.core past run.run fits

pub come : (first s : Shown) (past : List Move) → HasRun first past s → HasComeTo s
come first s past run = record {
  first = first.core;
  past = past;
  run = subst (λ jobs. IsRun (house jobs) first.core past s.core) (sym run.jobs) run.run;
  begins = subst (λ jobs. IsFirstCore jobs s.budget first.core) (sym run.jobs)
      (subst (λ budget. IsFirstCore first.jobs budget first.core) (sym run.budget) run.sound);
}

-- ---- a book goes on

module _ {C : Type 0} where
  pub goes_not : (b d : Told C) → d.boot ≡ b.boot → d.history ≡ b.history → GoesOn b d
  goes_not b d boot history = record { boot = boot; more = []; history = history ∙ sym (append-nil b.history) }

  pub goes_once : (b d : Told C) (m : Move) → d.boot ≡ b.boot → d.history ≡ b.history ++ m ∷ [] → GoesOn b d
  goes_once b d m boot history = record { boot = boot; more = m ∷ []; history = history }

  pub goes_further : (b d e : Told C) → GoesOn b d → GoesOn d e → GoesOn b e
  goes_further b d e first then = record {
    boot = then.boot ∙ first.boot;
    more = first.more ++ then.more;
    history = then.history ∙ (ap (λ h. h ++ then.more) first.history ∙ append_assoc b.history first.more then.more);
  }

  -- it doesn't get shorter
  pub goes_longer : (b d : Told C) → GoesOn b d → length b.history ≤ length d.history
  goes_longer b d goes = let long = length-append b.history goes.more in let same = ap length goes.history in omega (arith, long, same)

module _ {C : Type 0} (shown : C → Shown) where
  -- by one move it gets longer by one
  pub one_longer : (b d : Told C) → HasOneMore shown b d → length d.history ≡ length b.history + 1
  one_longer b d more = ap length more.1.history ∙ length-append b.history (more.0 ∷ [])

  -- where nothing has changed it is as long
  pub as_long : (b d : Told C) → IsSame shown b d → length d.history ≡ length b.history
  as_long b d same = ap length same.history

  -- by a lease's moves it gets longer by as many as the lease has
  pub lease_longer : (b d : Told C) (l : Lease) → HasMore shown b (moves_of l) d → length d.history ≡ length b.history + l.count
  lease_longer b d l more = ap length more.history
      ∙ (length-append b.history (moves_of l) ∙ ap (λ n. length b.history + n) (length-replicate l.count (record { who = l.thread; pick = None })))

  -- whatever is made after the first move
  pub begins_due : (b d e : Told C) → TakesDue shown b d.history → GoesOn d e → BeginsDue shown b e.history
  begins_due b d e takes goes = λ even due its may. let taken = takes even due its may in
      (taken.0, goes.more, goes.history ∙ (ap (λ h. h ++ goes.more) taken.1 ∙ append_assoc b.history (taken.0 ∷ []) goes.more), taken.2)

-- nearer to its budget with all moves that it gets
pub closer : {C : Type 0} (shown : C → Shown) (b d : Told C) → IsKept shown d → GoesOn b d → length b.history < length d.history
    → (shown d.boot).budget - length d.history < (shown b.boot).budget - length b.history
closer shown b d kept goes longer =
    let boot : (shown d.boot).budget ≡ (shown b.boot).budget = ap (λ c. (shown c).budget) goes.boot in
    let within = kept.within in
    omega (arith, boot, longer, within)

-- ---- a book that is opened

abbrev told : {C : Type 0} → C → C → List Move → Told C
told boot core past = record { boot = boot; core = core; history = past }

module _ {C : Type 0} (shown : C → Shown) where
  pub was_kept : (boot core : C) (past : List Move) (b : Told C) → told boot core past ≡ b → HasRun (shown boot) past (shown core) → IsKept shown b
  was_kept boot core past b is run = subst (IsKept shown) is run

  pub fits_in : (rules : List Rule) (boot core : C) (past : List Move) (b : Told C) → told boot core past ≡ b → HasRun (shown boot) past (shown core)
      → AllFit rules (shown b.boot).core.servers → AllFit rules (shown core).core.servers
  fits_in rules boot core past b is run fits =
      fits_now rules (shown boot) (shown core) past run (subst (λ (d : Told C). AllFit rules (shown d.boot).core.servers) (sym is) fits)

  pub took_due : (boot core : C) (past : List Move) (b : Told C) (m : Move) (after : List Move) → told boot core past ≡ b → IsFirstDue (shown core) (Some m)
      → after ≡ past ++ m ∷ [] → TakesDue shown b after
  took_due boot core past b m after is first longer =
      subst (λ (d : Told C). TakesDue shown d after) is (λ even due its may. (m, longer, first even due its may))
