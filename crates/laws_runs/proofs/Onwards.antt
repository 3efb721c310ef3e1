-- A run as events, and what subtrees do in it.
use Rattle.std.proofs.Common.{◌≡◌, ℕ, zero, suc, ◌+◌, ◌≤◌, arith, List, [], ◌∷◌, ◌++◌, length, take, drop, map, ◌⊎◌, inl, inr, refl, sym, ap, ◌∙◌, subst}
use Rattle.std.proofs.Common.{length-append}
use Rattle.std.proofs.lemmas.Bool.{le-leb, lt-leb}
use Rattle.std.proofs.lemmas.List.{take-append-drop, take-append-le, take-take, drop-take}
use Rattle.fk_model.specs.declared.moves.Move.{Move}
use Rattle.fk_model.specs.Places.{Path}
use Rattle.fk_model.specs.World.{World}
use Rattle.fk_model.specs.Searches.{depth}
use Rattle.fk_model.specs.Runs.{Event, after, run as events_run}
use Rattle.fk_model.specs.Cut.{cut, IsPlain}
use Rattle.fk_model.specs.Further.{Onward, Told, IsFurther}
use Rattle.fk_model.specs.Rebind.{rebound, rebound_told, rebound_move}
use Rattle.laws_moves.specs.Whole.Runnable.{IsProper, AreProper}
use Rattle.laws_moves.proofs.InWhole.Laws.{savable_runnable, gives_one_number}
use Rattle.laws_moves.specs.Savable.Savable.{IsSound}
use Rattle.laws_subtrees.specs.Further.Runs.{IsSeenRun}
use Rattle.laws_subtrees.proofs.InFurther.Runs.{proper_run_keeps, cut_is_cut_world}
use Rattle.laws_subtrees.proofs.InCut.joined.Rebinding.{run_rebinds}
use Rattle.laws_runs.specs.Cores.{House, Core, asker, IsReadyIn, moved, Settles, IsRun, world_at}
use Rattle.laws_runs.specs.Cores.IsRun.{Begins, Goes}
use Rattle.laws_runs.specs.Composed.{AskAsUsers, JobsMeetContract, IsStart}
use Rattle.laws_runs.specs.Onwards.{event_by, events_of, between, RestoredGoesOn}
use Rattle.laws_runs.proofs.Composing.{Stands, stands, made_here, splits, take_all}

-- ---- lists of events

pub run-append : (w : World) (xs ys : List Event) → events_run w (xs ++ ys) ≡ events_run (events_run w xs) ys
unfolding events_run
run-append w [] ys = refl
run-append w (x ∷ xs) ys = run-append (after w x) xs ys

pub run_nothing : (w : World) → events_run w [] ≡ w
unfolding events_run
run_nothing w = refl

pub run_one : (w : World) (e : Event) → events_run w (e ∷ []) ≡ after w e
unfolding events_run
run_one w e = refl

proper-append : (w : World) (xs ys : List Event) → AreProper w xs → AreProper (events_run w xs) ys → AreProper w (xs ++ ys)
unfolding events_run
proper-append w [] ys first rest = rest
proper-append w (x ∷ xs) ys first rest = (first.0, proper-append (after w x) xs ys first.1 rest)

proper-before : (w : World) (xs ys : List Event) → AreProper w (xs ++ ys) → AreProper w xs
proper-before w [] ys proper = tt
proper-before w (x ∷ xs) ys proper = (proper.0, proper-before (after w x) xs ys proper.1)

proper-behind : (w : World) (xs ys : List Event) → AreProper w (xs ++ ys) → AreProper (events_run w xs) ys
unfolding events_run
proper-behind w [] ys proper = proper
proper-behind w (x ∷ xs) ys proper = proper-behind (after w x) xs ys proper.1

length-take : {A : Type 0} (n : ℕ) (xs : List A) → length (take n xs) ≤ n
length-take zero xs = omega arith
length-take (suc n) [] = omega arith
length-take (suc n) (x ∷ xs) = let rest = length-take n xs in omega (arith, rest)

pub take_none : {A : Type 0} (k : ℕ) → take {A = A} k [] ≡ []
take_none zero = refl
take_none (suc k) = refl

pub take_both : {A : Type 0} (k n : ℕ) (xs : List A) → take k xs ++ take n (drop k xs) ≡ take (k + n) xs
take_both k n xs =
    ap (λ ys. ys ++ take n (drop k xs)) (sym (take-take k (k + n) xs (omega arith)))
    ∙ (ap (λ ys. take k (take (k + n) xs) ++ ys) (sym (drop-take k n xs)) ∙ take-append-drop k (take (k + n) xs))

-- ---- a run as its events

module _ {J S A V : Type 0} (h : House J S A V) (first : Core S A V) (users : AskAsUsers h) (tidy : JobsMeetContract h) (start : IsStart first) where
  record Traced {c : Core S A V} {past : List Move} (run : IsRun h first past c) : Type 0 where
    proper : AreProper first.world (events_of run)
    long : length (events_of run) ≡ length past
    worlds : (k : ℕ) → k ≤ length past → events_run first.world (take k (events_of run)) ≡ world_at run k
    numbers : (k : ℕ) → k ≤ length past → (world_at run k).next ≤ first.world.next + k

  module _ (past : List Move) (c : Core S A V) (m : Move) (d : Core S A V) (run : IsRun h first past c) (ready : IsReadyIn h c m)
      (settles : Settles h (moved h c m) d) (before : Traced run) (stand : Stands h first users tidy start run) (event : Event)
      (is : event_by c.world m (asker h c m.who) ≡ event ∷ []) (proper : IsProper c.world event) (goes : d.world ≡ after c.world event) where
    abbrev all : IsRun h first (past ++ m ∷ []) d
    all = Goes past c m d run ready settles

    same : events_of all ≡ events_of run ++ event ∷ []
    same = ap (λ ys. events_of run ++ ys) is

    longer : length (past ++ m ∷ []) ≡ length past + 1
    longer = length-append past (m ∷ [])

    arrives : events_run first.world (events_of run) ≡ c.world
    arrives = let long = before.long in
        ap (events_run first.world) (sym (ap (λ k. take k (events_of run)) (sym long) ∙ take_all (events_of run)))
        ∙ (before.worlds (length past) (omega arith) ∙ stand.last)

    earlier : (k : ℕ) → k ≤ length past → world_at all k ≡ world_at run k
    earlier k low = rw (le-leb k (length past) low) refl

    latest : (k : ℕ) → k ≡ length past + 1 → world_at all k ≡ d.world
    latest k e = rw (lt-leb k (length past) (omega (arith, e))) refl

    world_on : (k : ℕ) → (k ≤ length past) ⊎ (k ≡ length past + 1) → events_run first.world (take k (events_of all)) ≡ world_at all k
    world_on k (inl low) =
        let long = before.long in
        ap (λ ys. events_run first.world (take k ys)) same
        ∙ (ap (events_run first.world) (take-append-le k (events_of run) (event ∷ []) (omega (arith, low, long)))
        ∙ (before.worlds k low ∙ sym (earlier k low)))
    world_on k (inr up) =
        let long = before.long in
        let whole = length-append (events_of run) (event ∷ []) in
        let enough : k ≡ length (events_of run ++ event ∷ []) = omega (arith, up, long, whole) in
        ap (λ ys. events_run first.world (take k ys)) same
        ∙ (ap (events_run first.world) (ap (λ i. take i (events_of run ++ event ∷ [])) enough ∙ take_all (events_of run ++ event ∷ []))
        ∙ (run-append first.world (events_of run) (event ∷ [])
        ∙ (ap (λ (w : World). events_run w (event ∷ [])) arrives ∙ (one ∙ (sym goes ∙ sym (latest k up))))))
      where
        one : events_run c.world (event ∷ []) ≡ after c.world event
        one = run_one c.world event

    number_on : (k : ℕ) → (k ≤ length past) ⊎ (k ≡ length past + 1) → (world_at all k).next ≤ first.world.next + k
    number_on k (inl low) = subst (λ (w : World). w.next ≤ first.world.next + k) (sym (earlier k low)) (before.numbers k low)
    number_on k (inr up) =
        let sound = subst IsSound stand.last (stand.sound (length past) (omega arith)) in
        let one = gives_one_number c.world event (savable_runnable c.world sound.whole sound.savable) proper in
        let number = stand.number in
        let next : d.world.next ≡ (after c.world event).next = ap (λ (w : World). w.next) goes in
        subst (λ (w : World). w.next ≤ first.world.next + k) (sym (latest k up)) (omega (arith, up, one, number, next))

    on : Traced all
    on =
        let long = before.long in
        let whole = length-append (events_of run) (event ∷ []) in
        let count : length (events_of all) ≡ length (events_of run ++ event ∷ []) = ap (λ (ys : List Event). length ys) same in
        record {
          proper = subst (AreProper first.world) (sym same)
              (proper-append first.world (events_of run) (event ∷ []) before.proper (subst (λ w. IsProper w event) (sym arrives) proper, tt));
          long = omega (arith, count, whole, long, longer);
          worlds = λ k low. world_on k (splits k (length past) (omega (arith, low, longer)));
          numbers = λ k low. number_on k (splits k (length past) (omega (arith, low, longer)));
        }

  traced : {c : Core S A V} {past : List Move} (run : IsRun h first past c) → first.world.next + length past ≤ depth → Traced run
  traced Begins left = record {
    proper = tt;
    long = refl;
    worlds = λ k low. ap (events_run first.world) (take_none k) ∙ run_nothing first.world;
    numbers = λ k low. omega arith;
  }
  traced (Goes past c m d run ready settles) left =
      let longer = length-append past (m ∷ []) in
      let before = traced run (omega (arith, left, longer)) in
      let stand = stands h first users tidy start run (omega (arith, left, longer)) in
      let here = made_here h first users tidy start past c m d run ready settles stand (omega (arith, left, longer)) in
      on past c m d run ready settles before stand here.event here.is here.proper here.goes

  pub goes_on : {c : Core S A V} {past : List Move} (run : IsRun h first past c) → first.world.next + length past ≤ depth →
      (k n : ℕ) → k + n ≤ length past → (nester : Path) (slot : ℕ) (ms : List Onward) → IsPlain (world_at run k) nester slot →
      IsSeenRun nester slot (world_at run k) (between run k n) ms →
      IsPlain (world_at run (k + n)) nester slot
      × ((told : List Told) × IsFurther (cut (world_at run k) nester slot) ms told (cut (world_at run (k + n)) nester slot))
  goes_on run left k n low nester slot ms plain seen =
      let trace = traced run left in
      let sound = (stands h first users tidy start run left).sound k (omega (arith, low)) in
      let es = events_of run in
      let parts = take_both k n es in
      let here = trace.worlds k (omega (arith, low)) in
      let there : events_run (world_at run k) (between run k n) ≡ world_at run (k + n) =
      ap (λ (w : World). events_run w (take n (drop k es))) (sym here)
      ∙ (sym (run-append first.world (take k es) (take n (drop k es))) ∙ (ap (events_run first.world) parts ∙ trace.worlds (k + n) low)) in
      let all_proper : AreProper first.world (take (k + n) es) =
      proper-before first.world (take (k + n) es) (drop (k + n) es) (subst (AreProper first.world) (sym (take-append-drop (k + n) es)) trace.proper) in
      let proper : AreProper (world_at run k) (between run k n) =
      subst (λ w. AreProper w (take n (drop k es))) here
      (proper-behind first.world (take k es) (take n (drop k es)) (subst (AreProper first.world) (sym parts) all_proper)) in
      let number = trace.numbers k (omega (arith, low)) in
      let short = length-take n (drop k es) in
      subst (λ (v : World). IsPlain v nester slot × ((told : List Told) × IsFurther (cut (world_at run k) nester slot) ms told (cut v nester slot))) there
      (proper_run_keeps (world_at run k) nester slot (between run k n) ms (savable_runnable (world_at run k) sound.whole sound.savable)
      (omega (arith, number, short, low, left)) proper seen plain)

pub restored_goes_on : RestoredGoesOn
restored_goes_on w v nester other slot place bind ms plain same =
    let law = run_rebinds bind (cut w nester slot) ms (cut_is_cut_world w nester slot plain) in
    record {
      forth = λ told later run. subst (λ d. IsFurther d (map (rebound_move bind) ms) (map (rebound_told bind) told) (rebound bind later)) (sym same)
          (law.forth told later run);
      back = λ heard after run. law.back heard after (subst (λ d. IsFurther d (map (rebound_move bind) ms) heard after) same run);
    }
