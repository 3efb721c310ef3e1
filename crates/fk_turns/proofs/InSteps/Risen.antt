-- Risen: the lists after a move that changed one other thread, which is ready then.
use Rattle.std.proofs.Common.{◌≡◌, ◌≤◌, ◌⊎◌, ◌||◌, Bool, true, false, [], Option, Some, None, inl, inr, refl, sym, ap, subst, ◌∙◌}
use Rattle.std.proofs.lemmas.Bool.{or_from, or_right}
use Rattle.fk_model.specs.declared.moves.Ask.TheVariants as asks
use Rattle.fk_model.specs.declared.moves.Said.TheVariants as says
use Rattle.fk_model.specs.declared.names.Who.{Who}
use Rattle.fk_model.specs.Moves.{Step}
use Rattle.fk_model.specs.Searches.{depth}
use Rattle.fk_model.specs.Valid.{IsValid}
use Rattle.fk_model.specs.Who.{space_born}
use Rattle.fk_plans.specs.declared.wakes.touching.Touched.{Touched}
use Rattle.fk_plans.specs.declared.wakes.touching.Touched.TheVariants.{Few}
use Rattle.fk_store.specs.Store.Contents.{Contents}
use Rattle.fk_store.specs.Store.Paths.{path}
use Rattle.fk_store.specs.Store.World.{world, place_of}
use Rattle.fk_turns.specs.declared.whys.whys.Why.{Why}
use Rattle.fk_turns.specs.declared.whys.whys.Why.TheVariants as whys
use Rattle.fk_turns.specs.Moved.Kept.{is_user_at, AreKept, IsFiled, IsFiledAs}
use Rattle.fk_turns.specs.Moved.Moved.{is_it, is_named}
use Rattle.fk_turns.specs.Moved.Told.{IsMadeTo, IsStored, IsToldOf}
use Rattle.fk_turns.specs.Next.Signals.{picking, HasWoken}
use Rattle.fk_turns.specs.Next.Waiting.{standing, IsPlaced}
use Rattle.fk_turns.specs.Steps.Beside.{ComesBeside}
use Rattle.fk_turns.specs.Steps.Steps.{IsPut}
use Rattle.fk_turns.specs.Whys.Whys.{IsWhy}
use Rattle.fk_turns.proofs.InMoved.Told.{told_moves_leave}
use Rattle.fk_turns.proofs.InMoved.Woken.{mild_beside, user_at_stage}
use Rattle.fk_turns.proofs.InSteps.Stepped.{kept_valid, put_by, run_fit}
use Rattle.fk_turns.proofs.InSteps.Went.{free_when_ready}
use Rattle.fk_model.specs.declared.stage.Stage.TheVariants.{CondAsleep, MutexLock}
use Rattle.fk_waits.proofs.InCauses.Numbers.{clash}
use Rattle.fk_waits.proofs.InCauses.Order.{same_who}
use Rattle.fk_waits.proofs.InTurns.Roused.{met_both}
use Rattle.fk_waits.proofs.InTurns.Woken.{stands_woken}
use Rattle.fk_waits.specs.Causes.Names.{is_same}
use Rattle.fk_waits.specs.Turns.Turns.{all_marks, loud_cause, waits_at, AreMet, IsLess, IsSound}
use Rattle.fk_waits.specs.Waits.Lists.{is_in, is_queued, stands, woken, Lists}

-- ---- a signal that was made comes so

module _ (m n : Contents) (who other : Who) (waits marks : Lists) (valid : IsValid (world m)) (few : (world m).next ≤ depth)
    (born : path m ≡ space_born (world m)) (born_new : path n ≡ space_born (world n)) (few_new : (world n).next ≤ depth) (kept : AreKept m waits marks)
    (woken_is : HasWoken m n who other) where
  old : IsStored m
  old = record { valid = valid; born = born; few = few }

  pub signal_valid : IsValid (world n)
  signal_valid = kept_valid m n (picking who other) asks.Run valid few (run_fit m (picking who other)) says.Nothing woken_is.step

  new : IsStored n
  new = record { valid = signal_valid; born = born_new; few = few_new }

  made : IsMadeTo m n who (Some (place_of m other)) asks.Run
  made = record { fit = run_fit m (picking who other); ready = woken_is.ready; step = ap (λ (s : Step). s.world) (sym woken_is.step) }

  told : IsToldOf m who (Some (place_of m other)) asks.Run (Few (Some other) None None)
  told = record { names = woken_is.touched.names; leaves = woken_is.touched.leaves; moves = woken_is.touched.moves }

  pub signal_beside : marks.ready ≡ [] → ComesBeside n who other waits marks
  signal_beside none = record {
    before = m;
    kept = kept;
    free = free_when_ready m waits marks who (Some (place_of m other)) valid few kept woken_is.ready;
    moved = told_moves_leave m n who (Some (place_of m other)) asks.Run (Few (Some other) None None) old new made told;
    was = user_at_stage m other (CondAsleep woken_is.row.asleep.0 woken_is.row.mutex) woken_is.row.asleep.1;
    is = user_at_stage n other (MutexLock woken_is.row.mutex) woken_is.locks;
    none = none;
    mild = mild_beside m n who other old new made woken_is.row;
  }

  pub signal_put : (now : Lists) → IsPlaced n (standing now) who → IsPut m (picking who other) asks.Run n (standing now)
  signal_put now placed =
      put_by m n (picking who other) asks.Run valid few (run_fit m (picking who other)) born born_new few_new (Few (Some other) None None) now
      woken_is.ready woken_is.touched (λ user. placed)

-- ---- the other is ready

module _ (n : Contents) (mover other : Who) (waits marks : Lists) (from : ComesBeside n mover other waits marks)
    (user : is_user_at n mover ≡ true) where
  abbrev m : Contents
  m = from.before

  abbrev touched : Touched
  touched = Few (Some other) None None

  -- the same are users' threads as before
  users_same : (x : Who) → is_same other x ≡ false → is_user_at n x ≡ is_user_at m x
  users_same x off = by (is_same mover x) refl
    where
      by : (a : Bool) → is_same mover x ≡ a → is_user_at n x ≡ is_user_at m x
      by true own =
          let here : is_user_at n x ≡ true = subst (λ (y : Who). is_user_at n y ≡ true) (same_who mover x own) user in
          here ∙ sym (from.moved.grown x here refl)
      by false own =
          from.moved.users x
          (or_from (is_same mover x) (is_named touched x) own
          (or_from (is_it (Some other) x) (is_it None x || is_it None x) off refl))

  module _ (now then_marks : Lists) (woke : now ≡ woken other waits) (met : AreMet marks then_marks now) (less : IsLess waits now)
      (away : is_queued other now.queued ≡ false) (sound : IsSound now then_marks) where
    each_now : (x : Who) → stands x now ≡ is_user_at n x
    each_now x = ap (stands x) woke ∙ stands_woken other x waits ∙ by (is_same other x) refl
      where
        by : (t : Bool) → is_same other x ≡ t → (t || stands x waits) ≡ is_user_at n x
        by true e = sym from.is ∙ ap (is_user_at n) (same_who other x e)
        by false e = from.kept.each x ∙ sym (users_same x e)

    both : AreMet (all_marks waits marks) (all_marks now then_marks) now
    both = met_both waits marks now then_marks met less

    filed_now : (x : Who) → is_queued x now.queued ≡ true → IsFiled n (all_marks now then_marks) x
    filed_now x here = by was.why was.stuck was.filed
      where
        in_waits : is_queued x waits.queued ≡ true
        in_waits = less.queued x here

        was : IsFiled m (all_marks waits marks) x
        was = from.kept.filed x in_waits

        off : is_same mover x ≡ false
        off = apart (is_same mover x) refl
          where
            apart : (t : Bool) → is_same mover x ≡ t → is_same mover x ≡ false
            apart true e =
                clash (is_queued mover waits.queued) (subst (λ (w : Who). is_queued w waits.queued ≡ true) (sym (same_who mover x e)) in_waits) from.free
            apart false e = e

        off_other : is_same other x ≡ false
        off_other = apart (is_same other x) refl
          where
            apart : (t : Bool) → is_same other x ≡ t → is_same other x ≡ false
            apart true e =
                clash (is_queued other now.queued) (subst (λ (w : Who). is_queued w now.queued ≡ true) (sym (same_who other x e)) here) away
            apart false e = e

        was_user : is_user_at m x ≡ true
        was_user = sym (from.kept.each x) ∙ or_right (is_in x waits.ready) (is_queued x waits.queued) in_waits

        still : (key : Who) → waits_at key x (all_marks waits marks).queued ≡ true → waits_at key x (all_marks now then_marks).queued ≡ true
        still key is = of (both.keyed key x is)
          where
            of : (waits_at key x (all_marks now then_marks).queued ≡ true) ⊎ (is_queued x now.queued ≡ false) →
                waits_at key x (all_marks now then_marks).queued ≡ true
            of (inl h) = h
            of (inr gone) = clash (is_queued x now.queued) here gone

        by : (y : Why) → IsWhy (world m) (path m) (place_of m x) y → IsFiledAs (all_marks waits marks) x y → IsFiled n (all_marks now then_marks) x
        by whys.Still s f = record { why = whys.Still; stuck = from.mild.mild x whys.Still off off_other was_user (λ is. absurd (cc)) s; filed = tt }
        by (whys.At key) s f = record {
          why = whys.At key;
          stuck = from.mild.mild x (whys.At key) off off_other was_user (λ is. absurd (cc)) s;
          filed = (f.0, still key f.1);
        }
        by whys.Loud s f =
            record { why = whys.Loud; stuck = from.mild.mild x whys.Loud off off_other was_user (λ is. absurd (cc)) s; filed = still loud_cause f }
        by whys.Barred s f = clash (is_in x marks.ready) f (ap (is_in x) from.none)

    pub kept_risen : AreKept n now then_marks
    kept_risen = record { each = each_now; sound = sound; filed = filed_now }
