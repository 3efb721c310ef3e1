-- Moves: so many instructions of a burst are as many moves of its thread.
use Rattle.std.proofs.Common.{◌≡◌, ℕ, zero, suc, ◌<◌, ◌/◌, ◌%◌, ◌==◌, ◌&&◌, ◌||◌, Bool, true, false, cond, not, if◌then◌else◌, List, [], ◌∷◌, replicate, Option}
use Rattle.std.proofs.Common.{Some, None, option_map, is_some, is_none, unwrap_or, slice_index, slice_set, refl, sym, ap, subst, ◌∙◌, arith, eqb-true, eq-eqb}
use Rattle.std.proofs.lemmas.Bool.{lt-ltb}
use Rattle.std.proofs.lemmas.Option.{same_Some}
use Rattle.fk_model.specs.declared.instruction.Act.{Act}
use Rattle.fk_model.specs.declared.instruction.Act.TheVariants.{Put, Jump, Load, Store, Halt, Call}
use Rattle.fk_model.specs.declared.moves.Ask.TheVariants as asks
use Rattle.fk_model.specs.Calls.{todo_of}
use Rattle.fk_model.specs.Freezing.{are_unfrozen, changed_pointers, MayAlter}
use Rattle.fk_model.specs.Holds.{holder_of, decider, is_frozen, is_frozen_for, is_user, is_free}
use Rattle.fk_model.specs.Instructions.{act, next}
use Rattle.fk_model.specs.Moves.{with_pick, goes_on, user_move, outcome, GoesAllowed, IsReady, Step, stepped, step}
use Rattle.fk_model.specs.Objects.{Mode, Thread, Body, thread_of, and_then}
use Rattle.fk_model.specs.Objects.Mode.{Running}
use Rattle.fk_model.specs.Objects.Body.{Mutex, Cond, Mapping, Region, Port, Portset, Space, Thread_of, Reference}
use Rattle.fk_model.specs.Outcomes.{Outcome, when}
use Rattle.fk_model.specs.Outcomes.Outcome.{Refused, Waits, Goes}
use Rattle.fk_model.specs.Outcomes.Said.{Nothing}
use Rattle.fk_model.specs.Places.{Path, same_path}
use Rattle.fk_model.specs.Reach.{reach, reach_within, reach_word}
use Rattle.fk_model.specs.Reach.Reach.{Home}
use Rattle.fk_model.specs.Readers.{accessed}
use Rattle.fk_model.specs.Runs.{Event, after, run}
use Rattle.fk_model.specs.Searches.{option_list, thread_at}
use Rattle.fk_model.specs.UserRows.{proceeds, halts_with, loads, stores, performs, executes, run_row, run_row_by}
use Rattle.fk_model.specs.Valid.{IsPaged}
use Rattle.fk_model.specs.World.{World, apply, apply_all, at_path, at_mode, edited}
use Rattle.fk_model.specs.World.Change.{Alter, PutPage}
use Rattle.fk_model.specs.World.Edit.{Proceed}
use Rattle.fk_model.proofs.walks.PlaceLaws.{same_path_eq, same_path_refl}
use Rattle.laws_bursts.specs.Bursts.{Burst, using, write, load, store, acted, fetched, instructed, made}
use Rattle.laws_bursts.specs.Laws.{move_of, LeadQuietly, BurstsAreMoves}

-- ---- one move more

module _ (e : Event) where
  -- it goes last
  pub one_more : (n : ℕ) (w v u : World) → LeadQuietly w (replicate n e) v → IsReady v e.mover e.pick e.ask →
      step v e.mover e.pick e.ask ≡ record { world = u; said = Nothing } → LeadQuietly w (replicate (suc n) e) u
  unfolding run
  one_more zero w v u led ready made = record {
    legal = (rw (led.world) ready, tt);
    quiet = (rw (led.world) (ap (λ (s : Step). s.said) made), tt);
    world = rw (led.world) (ap (λ (s : Step). s.world) made);
  }
  one_more (suc n) w v u led ready made =
      let rest = one_more n (after w e) v u (record { legal = led.legal.1; quiet = led.quiet.1; world = led.world }) ready made in
      record { legal = (led.legal.0, rest.legal); quiet = (led.quiet.0, rest.quiet); world = rest.world }

-- ---- a thread that goes on

-- it stands there as a thread
body-thread : (o : Option Body) (t : Thread) → and_then thread_of o ≡ Some t → o ≡ Some (Thread_of t)
body-thread None t h = cc
body-thread (Some (Mutex locked)) t h = cc
body-thread (Some Cond) t h = cc
body-thread (Some (Mapping window)) t h = cc
body-thread (Some (Region extent)) t h = cc
body-thread (Some (Port set served)) t h = cc
body-thread (Some Portset) t h = cc
body-thread (Some (Space birth holder)) t h = cc
body-thread (Some (Thread_of own)) t h = cc
body-thread (Some (Reference to)) t h = cc

-- it holds nothing, however it goes on
proceeded-holder : (mode : Mode) (counter : ℕ) (o : Option Body) → holder_of (option_map (edited (Proceed mode counter)) o) ≡ holder_of o
unfolding edited
proceeded-holder mode counter None = refl
proceeded-holder mode counter (Some (Thread_of t)) = refl
proceeded-holder mode counter (Some b) = refl

-- where it goes on twice, the second time counts
proceeded-twice : (m mode : Mode) (k counter : ℕ) (o : Option Body) →
    option_map (edited (Proceed mode counter)) (option_map (edited (Proceed m k)) o) ≡ option_map (edited (Proceed mode counter)) o
unfolding edited
proceeded-twice m mode k counter None = refl
proceeded-twice m mode k counter (Some (Thread_of t)) = refl
proceeded-twice m mode k counter (Some b) = refl

with_pick-none : (o : Outcome) → with_pick false None o ≡ o
with_pick-none (Refused status) = refl
with_pick-none Waits = refl
with_pick-none (Goes changes said) = refl

-- a page that is there answers
home : (n : ℕ) (w : World) (s : Path) (page : ℕ) (write : Bool) (words : List ℕ) → w.page s page ≡ Some words → reach_within n w s page write ≡ Home s page
unfolding reach_within
home zero w s page write words there = rw there refl
home (suc n) w s page write words there = rw there refl

word_home : (w : World) (s : Path) (address : ℕ) (write : Bool) (words : List ℕ) → address / 64 < 256 →
    w.page s (address / 64) ≡ Some words → reach_word w s address write ≡ Home s (address / 64)
unfolding reach
word_home w s address write words low there = rw (lt-ltb address 16384 (omega arith)) (home 16 w s (address / 64) write words there)

-- ---- what an instruction leaves

or-right : (a b : Bool) → b ≡ true → (a || b) ≡ true
or-right true b h = refl
or-right false b h = h

-- a page that is used stays so
pub acted-used : (a : Act) (d c : Burst) (p : ℕ) → acted a d ≡ Some c → d.used p ≡ true → c.used p ≡ true
acted-used (Put register value) d c p h is = subst (λ (e : Burst). e.used p ≡ true) (same_Some _ _ h) is
acted-used (Jump counter) d c p h is = subst (λ (e : Burst). e.used p ≡ true) (same_Some _ _ h) is
acted-used (Halt code) d c p h is = absurd (cc)
acted-used Call d c p h is = absurd (cc)
acted-used (Load register address) d c p h is = by (d.page (address / 64)) h
  where
    by : (o : Option (List ℕ)) → and_then (λ words. load register address words (using (address / 64) d)) o ≡ Some c → c.used p ≡ true
    by None h = absurd (cc)
    by (Some words) h = subst (λ (e : Burst). e.used p ≡ true) (same_Some _ _ h) (or-right (p == address / 64) (d.used p) is)
acted-used (Store address value) d c p h is = by (d.page (address / 64)) h
  where
    by : (o : Option (List ℕ)) → and_then (λ words. store address value words (using (address / 64) d)) o ≡ Some c → c.used p ≡ true
    by None h = absurd (cc)
    by (Some words) h = subst (λ (e : Burst). e.used p ≡ true) (same_Some _ _ h) (or-right (p == address / 64) (d.used p) is)

pub instructed-used : (b c : Burst) (p : ℕ) → instructed b ≡ Some c → b.used p ≡ true → c.used p ≡ true
instructed-used b c p h is = by (b.page (b.counter / 64)) h
  where
    by : (o : Option (List ℕ)) → and_then (λ words. fetched b words (using (b.counter / 64) b)) o ≡ Some c → c.used p ≡ true
    by None h = absurd (cc)
    by (Some words) h = acted-used (act (slice_index words (b.counter % 64)) b.registers b.counter) (using (b.counter / 64) b) c p h
        (or-right (p == b.counter / 64) (b.used p) is)

-- no page comes to it
pub acted-pages : (a : Act) (d c : Burst) (p : ℕ) → acted a d ≡ Some c → is_some (c.page p) ≡ true → is_some (d.page p) ≡ true
acted-pages (Put register value) d c p h is = subst (λ (e : Burst). is_some (e.page p) ≡ true) (sym (same_Some _ _ h)) is
acted-pages (Jump counter) d c p h is = subst (λ (e : Burst). is_some (e.page p) ≡ true) (sym (same_Some _ _ h)) is
acted-pages (Halt code) d c p h is = absurd (cc)
acted-pages Call d c p h is = absurd (cc)
acted-pages (Load register address) d c p h is = by (d.page (address / 64)) h
  where
    by : (o : Option (List ℕ)) → and_then (λ words. load register address words (using (address / 64) d)) o ≡ Some c → is_some (d.page p) ≡ true
    by None h = absurd (cc)
    by (Some words) h = subst (λ (e : Burst). is_some (e.page p) ≡ true) (sym (same_Some _ _ h)) is
acted-pages (Store address value) d c p h is = by (d.page (address / 64)) refl h
  where
    was : (words : List ℕ) → d.page (address / 64) ≡ Some words → (t : Bool) → p == address / 64 ≡ t →
        is_some (cond t (Some (slice_set words (address % 64) value)) (d.page p)) ≡ true → is_some (d.page p) ≡ true
    was words there true e is = subst (λ (q : ℕ). is_some (d.page q) ≡ true) (sym (eqb-true p (address / 64) e)) (ap is_some there)
    was words there false e is = is

    by : (o : Option (List ℕ)) → d.page (address / 64) ≡ o →
        and_then (λ words. store address value words (using (address / 64) d)) o ≡ Some c → is_some (d.page p) ≡ true
    by None there h = absurd (cc)
    by (Some words) there h = was words there (p == address / 64) refl (subst (λ (e : Burst). is_some (e.page p) ≡ true) (sym (same_Some _ _ h)) is)

pub instructed-pages : (b c : Burst) (p : ℕ) → instructed b ≡ Some c → is_some (c.page p) ≡ true → is_some (b.page p) ≡ true
instructed-pages b c p h is = by (b.page (b.counter / 64)) h
  where
    by : (o : Option (List ℕ)) → and_then (λ words. fetched b words (using (b.counter / 64) b)) o ≡ Some c → is_some (b.page p) ≡ true
    by None h = absurd (cc)
    by (Some words) h = acted-pages (act (slice_index words (b.counter % 64)) b.registers b.counter) (using (b.counter / 64) b) c p h is

-- ---- what makes a thread free

unheld-free : (a b c d : Bool) → (a && b && c && d) ≡ true → a ≡ true
unheld-free true b c d h = refl
unheld-free false b c d h = cc

running-free : (a b c d : Bool) → (a && b && c && d) ≡ true → (a && b && c && true) ≡ true
running-free true true true d h = refl
running-free true true false d h = cc
running-free true false c d h = cc
running-free false b c d h = cc

none-held : {A : Type 0} (o : Option A) → not (is_some o) ≡ true → o ≡ None
none-held None h = refl
none-held (Some holder) h = cc

when-true : (b : Bool) (o : Outcome) → b ≡ true → when b o ≡ o
when-true true o h = refl
when-true false o h = cc

-- who goes on changes no pointer
no-pointers : (v : World) (me : Path) (mode : Mode) (counter : ℕ) (o : Option Body) →
    are_unfrozen v me (option_list (changed_pointers (Proceed mode counter)) o) ≡ true
no-pointers v me mode counter None = refl
no-pointers v me mode counter (Some b) = refl

module _ (w : World) (k : ℕ) (s : Path) (uses : ℕ → Bool) (t : Thread) (there : thread_at w (k ∷ s) ≡ Some t) (free : is_free w s t ≡ true) where
  -- the world with what a burst has come to: its thread, and the pages in use
  abbrev laid : Burst → World
  laid b = record (at_path (k ∷ s) (option_map (edited (Proceed (Running b.registers) b.counter))) w) {
    page = λ q page. if same_path q s && uses page then b.page page else w.page q page;
  }

  -- pages in use that it has are pages of a space
  abbrev InRange : Burst → Type 0
  InRange b = (page : ℕ) → uses page ≡ true → is_some (b.page page) ≡ true → page < 256

  -- the pages that it has used are in use
  abbrev UsesAll : Burst → Type 0
  UsesAll b = (page : ℕ) → b.used page ≡ true → uses page ≡ true

  here : w.body (k ∷ s) ≡ Some (Thread_of t)
  here = body-thread (w.body (k ∷ s)) t there

  -- ---- what stands in it

  laid-thread : (b : Burst) → thread_at (laid b) (k ∷ s) ≡ Some (at_mode t (Running b.registers) b.counter)
  unfolding edited
  laid-thread b =
      ap (λ m. and_then thread_of (cond m (option_map (edited (Proceed (Running b.registers) b.counter)) (w.body (k ∷ s))) (w.body (k ∷ s))))
      (same_path_refl (k ∷ s))
      ∙ ap (λ o. and_then thread_of (option_map (edited (Proceed (Running b.registers) b.counter)) o)) here

  laid-decider : (b : Burst) (y : Path) → decider (laid b) y ≡ decider w y
  unfolding decider
  laid-decider b = by_path
    where
      by : (m : Bool) (o : Option Body) → holder_of (cond m (option_map (edited (Proceed (Running b.registers) b.counter)) o) o) ≡ holder_of o
      by true o = proceeded-holder (Running b.registers) b.counter o
      by false o = refl

      by_path : (y : Path) → decider (laid b) y ≡ decider w y
      by_path [] = by (same_path [] (k ∷ s)) (w.body [])
      by_path (j ∷ y) = rw (by_path y, by (same_path (j ∷ y) (k ∷ s)) (w.body (j ∷ y))) refl

  laid-page : (b : Burst) (page : ℕ) → uses page ≡ true → (laid b).page s page ≡ b.page page
  laid-page b page is =
      ap (λ m. cond (m && uses page) (b.page page) (w.page s page)) (same_path_refl s) ∙ ap (λ u. cond u (b.page page) (w.page s page)) is

  -- nobody holds anything above it
  unheld : decider w s ≡ None
  unheld = none-held (decider w s) (unheld-free (not (is_frozen w s)) (t.stops == 0) (is_none t.fault) (is_user t.mode) free)

  unheld-thread : decider w (k ∷ s) ≡ None
  unfolding decider
  unheld-thread = rw (unheld, here) refl

  laid-space : (b : Burst) → is_frozen_for (laid b) (k ∷ s) s ≡ false
  laid-space b = rw (laid-decider b s, unheld) refl

  laid-object : (b : Burst) → is_frozen_for (laid b) (k ∷ s) (k ∷ s) ≡ false
  laid-object b = rw (laid-decider b (k ∷ s), unheld-thread) refl

  laid-free : (b : Burst) → is_free (laid b) s (at_mode t (Running b.registers) b.counter) ≡ true
  laid-free b = ap (λ o. not (is_some o) && t.stops == 0 && is_none t.fault && true) (laid-decider b s)
      ∙ running-free (not (is_frozen w s)) (t.stops == 0) (is_none t.fault) (is_user t.mode) free

  -- ---- its move there

  laid-outcome : (b : Burst) → outcome (laid b) (k ∷ s) None asks.Run ≡ run_row (laid b) s k b.registers b.counter
  unfolding outcome
  laid-outcome b =
      ap (user_move (laid b) (k ∷ s) None) (laid-thread b)
      ∙ when-true _ (goes_on (laid b) (k ∷ s) None (at_mode t (Running b.registers) b.counter) (Running b.registers)) (laid-free b)
      ∙ with_pick-none (run_row (laid b) s k b.registers b.counter)

  -- an outcome is ready, tells nothing, and leaves what a burst has come to
  abbrev Gives : Burst → Outcome → Burst → Type 0
  Gives b o c = GoesAllowed (laid b) (k ∷ s) o × (stepped (laid b) o ≡ record { world = laid c; said = Nothing })

  may-go : (b : Burst) (mode : Mode) (counter : ℕ) → MayAlter (laid b) (k ∷ s) (k ∷ s) (Proceed mode counter)
  may-go b mode counter = record {
    object = laid-object b;
    changed = no-pointers (laid b) (k ∷ s) mode counter ((laid b).body (k ∷ s));
    made = refl;
  }

  -- the thread goes on
  gone : (b : Burst) (g : List ℕ) (counter : ℕ) (q : Path) →
      (at_path (k ∷ s) (option_map (edited (Proceed (Running g) counter))) (laid b)).body q
      ≡ (at_path (k ∷ s) (option_map (edited (Proceed (Running g) counter))) w).body q
  gone b g counter q = by (same_path q (k ∷ s))
    where
      by : (m : Bool) → cond m (option_map (edited (Proceed (Running g) counter))
          (cond m (option_map (edited (Proceed (Running b.registers) b.counter)) (w.body q)) (w.body q)))
          (cond m (option_map (edited (Proceed (Running b.registers) b.counter)) (w.body q)) (w.body q))
          ≡ cond m (option_map (edited (Proceed (Running g) counter)) (w.body q)) (w.body q)
      by true = proceeded-twice (Running b.registers) (Running g) b.counter counter (w.body q)
      by false = refl

  goes : (b : Burst) (g : List ℕ) (counter : ℕ) → Gives b (proceeds (k ∷ s) (Running g) counter) (record b { registers = g; counter = counter })
  unfolding apply_all apply
  goes b g counter = (
    (may-go b (Running g) counter, tt),
    λ i. record { world = record { body = λ q. gone b g counter q i; page = (laid b).page; next = w.next }; said = Nothing },
  )

  -- a page in use gets other words, and the thread goes on
  writes : (b : Burst) (page : ℕ) (words : List ℕ) → uses page ≡ true →
      Gives b (Goes (PutPage s page words ∷ Alter (k ∷ s) (Proceed (Running b.registers) (next b.counter)) ∷ []) Nothing) (write page words b)
  unfolding apply_all apply
  writes b page words is = (
    (laid-space b, (may-go b (Running b.registers) (next b.counter), tt)),
    λ i. record {
      world = record {
        body = λ q. gone b b.registers (next b.counter) q i;
        page = λ q p. by q p (same_path q s) (p == page)
            (uses p) refl refl i;
        next = w.next;
      };
      said = Nothing;
    },
  )
    where
      by : (q : Path) (p : ℕ) (m e u : Bool) → p == page ≡ e → uses p ≡ u →
          cond (m && e) (Some words) (cond (m && u) (b.page p) (w.page q p)) ≡ cond (m && u) (cond e (Some words) (b.page p)) (w.page q p)
      by q p false e u same its = refl
      by q p true false u same its = refl
      by q p true true true same its = refl
      by q p true true false same its =
          let no : uses p ≡ true = subst (λ (n : ℕ). uses n ≡ true) (sym (eqb-true p page same)) is in
          absurd (cc)

  -- what an act comes to
  acting : (b c : Burst) (a : Act) → InRange b → acted a b ≡ Some c → UsesAll c →
      Gives b (performs todo_of (laid b) s (k ∷ s) b.registers b.counter a) c
  acting b c (Put register value) range h all = subst (Gives b (proceeds (k ∷ s) (Running (slice_set b.registers register value)) (next b.counter)))
      (same_Some _ _ h) (goes b (slice_set b.registers register value) (next b.counter))
  acting b c (Jump to) range h all = subst (Gives b (proceeds (k ∷ s) (Running b.registers) to)) (same_Some _ _ h) (goes b b.registers to)
  acting b c (Halt code) range h all = absurd (cc)
  acting b c Call range h all = absurd (cc)
  acting b c (Load register address) range h all = by (b.page (address / 64)) refl h
    where
      by : (o : Option (List ℕ)) → b.page (address / 64) ≡ o → and_then (λ words. load register address words (using (address / 64) b)) o ≡ Some c →
          Gives b (performs todo_of (laid b) s (k ∷ s) b.registers b.counter (Load register address)) c
      by None has h = absurd (cc)
      by (Some words) has h = subst (λ o. Gives b o c) (sym row) (subst (Gives b (proceeds (k ∷ s) (Running g) (next b.counter)))
          (same_Some _ _ h) (goes (using (address / 64) b) g (next b.counter)))
        where
          g : List ℕ
          g = slice_set b.registers register (slice_index words (address % 64))

          is : uses (address / 64) ≡ true
          is = all (address / 64) (subst (λ (e : Burst). e.used (address / 64) ≡ true) (same_Some _ _ h)
              (ap (λ m. m || b.used (address / 64)) (eq-eqb (address / 64) (address / 64) refl)))

          stands : (laid b).page s (address / 64) ≡ Some words
          stands = laid-page b (address / 64) is ∙ has

          row : performs todo_of (laid b) s (k ∷ s) b.registers b.counter (Load register address) ≡ proceeds (k ∷ s) (Running g) (next b.counter)
          row = ap (accessed (k ∷ s) false (halts_with (k ∷ s) b.registers b.counter) (loads (laid b) (k ∷ s) b.registers b.counter register address))
              (word_home (laid b) s address false words (range (address / 64) is (ap is_some has)) stands)
              ∙ ap (λ o. proceeds (k ∷ s) (Running (slice_set b.registers register (slice_index (unwrap_or o []) (address % 64)))) (next b.counter)) stands
  acting b c (Store address value) range h all = by (b.page (address / 64)) refl h
    where
      by : (o : Option (List ℕ)) → b.page (address / 64) ≡ o → and_then (λ words. store address value words (using (address / 64) b)) o ≡ Some c →
          Gives b (performs todo_of (laid b) s (k ∷ s) b.registers b.counter (Store address value)) c
      by None has h = absurd (cc)
      by (Some words) has h = subst (λ o. Gives b o c) (sym row) (subst (Gives b (put_row written))
          (same_Some _ _ h) (writes (using (address / 64) b) (address / 64) written is))
        where
          written : List ℕ
          written = slice_set words (address % 64) value

          put_row : List ℕ → Outcome
          put_row to = Goes (PutPage s (address / 64) to ∷ Alter (k ∷ s) (Proceed (Running b.registers) (next b.counter)) ∷ []) Nothing

          is : uses (address / 64) ≡ true
          is = all (address / 64) (subst (λ (e : Burst). e.used (address / 64) ≡ true) (same_Some _ _ h)
              (ap (λ m. m || b.used (address / 64)) (eq-eqb (address / 64) (address / 64) refl)))

          stands : (laid b).page s (address / 64) ≡ Some words
          stands = laid-page b (address / 64) is ∙ has

          row : performs todo_of (laid b) s (k ∷ s) b.registers b.counter (Store address value) ≡ put_row written
          row = ap (accessed (k ∷ s) true (halts_with (k ∷ s) b.registers b.counter) (stores (laid b) (k ∷ s) b.registers b.counter address value))
              (word_home (laid b) s address true words (range (address / 64) is (ap is_some has)) stands)
              ∙ ap (λ o. put_row (slice_set (unwrap_or o []) (address % 64) value)) stands

  -- what an instruction comes to
  stepping : (b c : Burst) → InRange b → instructed b ≡ Some c → UsesAll c → Gives b (run_row (laid b) s k b.registers b.counter) c
  unfolding run_row_by
  stepping b c range h all = by (b.page (b.counter / 64)) refl h
    where
      by : (o : Option (List ℕ)) → b.page (b.counter / 64) ≡ o → and_then (λ words. fetched b words (using (b.counter / 64) b)) o ≡ Some c →
          Gives b (run_row (laid b) s k b.registers b.counter) c
      by None has h = absurd (cc)
      by (Some words) has h = subst (λ o. Gives b o c) (sym row) (acting (using (b.counter / 64) b) c a range h all)
        where
          a : Act
          a = act (slice_index words (b.counter % 64)) b.registers b.counter

          is : uses (b.counter / 64) ≡ true
          is = all (b.counter / 64) (acted-used a (using (b.counter / 64) b) c (b.counter / 64) h
              (ap (λ m. m || b.used (b.counter / 64)) (eq-eqb (b.counter / 64) (b.counter / 64) refl)))

          stands : (laid b).page s (b.counter / 64) ≡ Some words
          stands = laid-page b (b.counter / 64) is ∙ has

          row : run_row (laid b) s k b.registers b.counter ≡ performs todo_of (laid b) s (k ∷ s) b.registers b.counter a
          row = ap (accessed (k ∷ s) false (halts_with (k ∷ s) b.registers b.counter) (executes todo_of (laid b) s (k ∷ s) b.registers b.counter))
              (word_home (laid b) s b.counter false words (range (b.counter / 64) is (ap is_some has)) stands)
              ∙ ap (λ o. performs todo_of (laid b) s (k ∷ s) b.registers b.counter
              (act (slice_index (unwrap_or o []) (b.counter % 64)) b.registers b.counter)) stands

  -- ---- its moves

  -- where it began nothing has changed
  begins : (b : Burst) → t.mode ≡ Running b.registers → t.counter ≡ b.counter → ((page : ℕ) → uses page ≡ true → w.page s page ≡ b.page page) → w ≡ laid b
  unfolding edited
  begins b mode counter pages = λ i. record { body = λ q. of_body q i; page = λ q p. of_page q p (same_path q s) (uses p) refl refl i; next = w.next }
    where
      standing : w.body (k ∷ s) ≡ option_map (edited (Proceed (Running b.registers) b.counter)) (w.body (k ∷ s))
      standing = here ∙ (λ i. Some (Thread_of (at_mode t (mode i) (counter i)))) ∙ sym (ap (option_map (edited (Proceed (Running b.registers) b.counter))) here)

      by : (q : Path) (m : Bool) → same_path q (k ∷ s) ≡ m → w.body q ≡ cond m (option_map (edited (Proceed (Running b.registers) b.counter)) (w.body q))
          (w.body q)
      by q true e = subst (λ (y : Path). w.body y ≡ option_map (edited (Proceed (Running b.registers) b.counter)) (w.body y))
          (sym (same_path_eq q (k ∷ s) e)) standing
      by q false e = refl

      of_body : (q : Path) → w.body q ≡ (laid b).body q
      of_body q = by q (same_path q (k ∷ s)) refl

      of_page : (q : Path) (p : ℕ) (m u : Bool) → same_path q s ≡ m → uses p ≡ u → w.page q p ≡ cond (m && u) (b.page p) (w.page q p)
      of_page q p true true e f = subst (λ (y : Path). w.page y p ≡ b.page p) (sym (same_path_eq q s e)) (pages p f)
      of_page q p true false e f = refl
      of_page q p false u e f = refl

  module _ (b : Burst) (began : w ≡ laid b) (range : InRange b) where
    leads : (n : ℕ) (c : Burst) → made n b ≡ Some c → UsesAll c → LeadQuietly w (replicate n (move_of (k ∷ s))) (laid c) × InRange c
    unfolding made run step
    leads zero c h all = (
      record { legal = tt; quiet = tt; world = began ∙ ap laid (same_Some _ _ h) },
      subst InRange (same_Some _ _ h) range,
    )
    leads (suc n) c h all = by (made n b) refl h (λ d e used. leads n d e used)
      where
        by : (o : Option Burst) → made n b ≡ o → and_then instructed o ≡ Some c →
            ((d : Burst) → made n b ≡ Some d → UsesAll d → LeadQuietly w (replicate n (move_of (k ∷ s))) (laid d) × InRange d) →
            LeadQuietly w (replicate (suc n) (move_of (k ∷ s))) (laid c) × InRange c
        by None e h so_far = absurd (cc)
        by (Some d) e h so_far =
            let rest = so_far d e (λ p is. all p (instructed-used d c p h is)) in
            let gives = stepping d c rest.1 h all in (
              one_more (move_of (k ∷ s)) n w (laid d) (laid c) rest.0
                  (subst (GoesAllowed (laid d) (k ∷ s)) (sym (laid-outcome d)) gives.0)
                  (ap (stepped (laid d)) (laid-outcome d) ∙ gives.1),
              λ p its is. rest.1 p its (instructed-pages d c p h is),
            )

-- what it had of the pages that it uses are pages of the world
ranged : (w : World) (s : Path) (uses : ℕ → Bool) (b : Burst) → IsPaged w → ((page : ℕ) → uses page ≡ true → w.page s page ≡ b.page page) →
    (page : ℕ) → uses page ≡ true → is_some (b.page page) ≡ true → page < 256
ranged w s uses b paged pages page is has = (paged s page (ap is_some (pages page is) ∙ has)).number

pub bursts_are_moves_lem : BurstsAreMoves
bursts_are_moves_lem w slot space n b c paged is h pages =
    (leads w slot space c.used is.thread is.there is.free b (begins w slot space c.used is.thread is.there is.free b is.mode is.counter pages)
    (ranged w space c.used b paged pages) n c h (λ page used. used)).0
