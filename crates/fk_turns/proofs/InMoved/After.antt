-- After: the lists after a move.
use Rattle.std.proofs.Common.{◌≡◌, ◌⊎◌, inl, inr, Bool, true, false, [], if◌then◌else◌, refl, sym, ap, ◌∙◌}
use Rattle.std.proofs.lemmas.Bool.{or_from, or_right}
use Rattle.fk_model.specs.declared.names.Who.{Who}
use Rattle.fk_store.specs.Store.Contents.{Contents}
use Rattle.fk_store.specs.Store.Paths.{path}
use Rattle.fk_store.specs.Store.World.{world, place_of}
use Rattle.fk_waits.specs.Turns.Turns.{all_marks, free_cause, loud_cause, waits_at, AreMet, IsFreed, IsLess, IsRoused, IsSound}
use Rattle.fk_waits.proofs.InTurns.Roused.{met_both, met_nobody}
use Rattle.fk_waits.specs.Waits.Lists.{is_cause, is_in, is_queued, stands, Lists}
use Rattle.fk_waits.proofs.InCauses.Numbers.{clash}
use Rattle.fk_waits.specs.Causes.Names.{is_same}
use Rattle.fk_plans.specs.declared.wakes.touching.Touched.{Touched}
use Rattle.fk_turns.specs.declared.whys.whys.Why.{Why}
use Rattle.fk_turns.specs.declared.whys.whys.Why.TheVariants as whys
use Rattle.fk_turns.specs.Whys.Whys.{IsWhy}
use Rattle.fk_turns.specs.Moved.Kept.{is_user_at, AreKept, IsFiled, IsFiledAs}
use Rattle.fk_turns.specs.Moved.Moved.{is_named, is_told, is_wide, AreFreed, AreRoused, IsMoved, IsTouched}

-- a thread that is marked still is filed as before
pub refiled : (m : Contents) (marks now : Lists) (x : Who) → IsFiled m marks x → (is_in x marks.ready ≡ true → is_in x now.ready ≡ true) →
    ((key : Who) → waits_at key x marks.queued ≡ true → waits_at key x now.queued ≡ true) → IsFiled m now x
refiled m marks now x filed still at = by filed.why filed.stuck filed.filed
  where
    by : (y : Why) → IsWhy (world m) (path m) (place_of m x) y → IsFiledAs marks x y → IsFiled m now x
    by whys.Still s f = record { why = whys.Still; stuck = s; filed = tt }
    by (whys.At key) s f = record { why = whys.At key; stuck = s; filed = (f.0, at key f.1) }
    by whys.Loud s f = record { why = whys.Loud; stuck = s; filed = at loud_cause f }
    by whys.Barred s f = record { why = whys.Barred; stuck = s; filed = still f }

-- as it is where who is queued is marked still
pub refiled_met : (m : Contents) (marks now waits : Lists) (x : Who) → IsFiled m marks x → AreMet marks now waits → is_queued x waits.queued ≡ true →
    IsFiled m now x
refiled_met m marks now waits x filed met here = refiled m marks now x filed (λ is. by (met.met x is)) (λ key is. at key (met.keyed key x is))
  where
    by : (is_in x now.ready ≡ true) ⊎ (is_queued x waits.queued ≡ false) → is_in x now.ready ≡ true
    by (inl is) = is
    by (inr gone) = clash (is_queued x waits.queued) here gone

    at : (key : Who) → (waits_at key x now.queued ≡ true) ⊎ (is_queued x waits.queued ≡ false) → waits_at key x now.queued ≡ true
    at key (inl is) = is
    at key (inr gone) = clash (is_queued x waits.queued) here gone

module _ (m n : Contents) (mover : Who) (touched : Touched) (waits marks roused roused_marks told told_marks now then_marks : Lists)
    (kept : AreKept m waits marks) (move : IsMoved m n mover touched) (free : AreRoused touched waits marks roused roused_marks)
    (named : IsTouched n (is_named touched) roused told) (own : IsTouched n (is_same mover) told now)
    (named_freed : AreFreed (is_named touched) (all_marks roused roused_marks) (all_marks told told_marks) told)
    (own_freed : AreFreed (is_same mover) (all_marks told told_marks) (all_marks now then_marks) now)
    (sound : IsSound now then_marks) where
  each_after : (x : Who) → stands x now ≡ is_user_at n x
  each_after x = own.placed x ∙ by (is_same mover x) (is_named touched x) refl refl
    where
      by : (s t : Bool) → is_same mover x ≡ s → is_named touched x ≡ t → (if s then is_user_at n x else stands x told) ≡ is_user_at n x
      by true t e f = refl
      by false true e f = named.placed x ∙ ap (λ (b : Bool). if b then is_user_at n x else stands x roused) f
      by false false e f =
          named.placed x ∙ ap (λ (b : Bool). if b then is_user_at n x else stands x roused) f ∙ free.stays x ∙ kept.each x
          ∙ sym (move.users x (or_from (is_same mover x) (is_named touched x) e f))

  -- a name that is told is neither queued nor a cause
  untold : (x : Who) (here : Bool) → (is_same mover x ≡ true → here ≡ false) → (is_named touched x ≡ true → here ≡ false) → here ≡ true →
      is_told mover touched x ≡ false
  untold x here first second is = or_from (is_same mover x) (is_named touched x) (by (is_same mover x) first) (by (is_named touched x) second)
    where
      by : (t : Bool) → (t ≡ true → here ≡ false) → t ≡ false
      by true off = clash here is (off refl)
      by false off = refl

  filed_after : (x : Who) → is_queued x now.queued ≡ true → IsFiled n (all_marks now then_marks) x
  filed_after x here = by (is_wide touched) refl was.why was.stuck was.filed
    where
      in_told : is_queued x told.queued ≡ true
      in_told = own.less.queued x here

      in_roused : is_queued x roused.queued ≡ true
      in_roused = named.less.queued x in_told

      in_waits : is_queued x waits.queued ≡ true
      in_waits = free.less.queued x in_roused

      was : IsFiled m (all_marks waits marks) x
      was = kept.filed x in_waits

      user : is_user_at m x ≡ true
      user = sym (kept.each x) ∙ or_right (is_in x waits.ready) (is_queued x waits.queued) in_waits

      it : is_told mover touched x ≡ false
      it = untold x (is_queued x told.queued) (λ e. clash (is_queued x now.queued) here (own.away x e)) (named.away x) in_told

      -- what may free it isn't told
      key_untold : (key : Who) → is_same free_cause key ≡ false → waits_at key x (all_marks roused roused_marks).queued ≡ true →
          waits_at key x (all_marks told told_marks).queued ≡ true →
          is_told mover touched key ≡ false
      key_untold key some first second =
          untold key (is_queued x told.queued) (λ e. clash (is_queued x now.queued) here (own_freed.freed key e some x second))
          (λ e. named_freed.freed key e some x first) in_told

      still : (key : Who) (l : Lists) (queued : Bool) → queued ≡ true → (waits_at key x l.queued ≡ true) ⊎ (queued ≡ false) → waits_at key x l.queued ≡ true
      still key l queued is (inl there) = there
      still key l queued is (inr gone) = clash queued is gone

      at : is_wide touched ≡ false → (key : Who) → IsWhy (world m) (path m) (place_of m x) (whys.At key) → is_same free_cause key ≡ false →
          waits_at key x (all_marks waits marks).queued ≡ true → IsFiled n (all_marks now then_marks) x
      at e key stuck some there =
          let first = still key (all_marks roused roused_marks) (is_queued x roused.queued) in_roused (free.met.keyed key x there) in
          let second = still key (all_marks told told_marks) (is_queued x told.queued) in_told (named_freed.met.keyed key x first) in
          let third = still key (all_marks now then_marks) (is_queued x now.queued) here (own_freed.met.keyed key x second) in
          record { why = whys.At key; stuck = move.stays e x (whys.At key) it (key_untold key some first second) user stuck; filed = (some, third) }

      by : (wide : Bool) → is_wide touched ≡ wide → (why : Why) → IsWhy (world m) (path m) (place_of m x) why → IsFiledAs (all_marks waits marks) x why →
          IsFiled n (all_marks now then_marks) x
      by true e why stuck filed = let none : false ≡ true = ap (is_queued x) (sym (free.none e)) ∙ in_roused in absurd (cc)
      by false e whys.Still stuck filed = record { why = whys.Still; stuck = move.stays e x whys.Still it tt user stuck; filed = tt }
      by false e (whys.At key) stuck filed = at e key stuck filed.0 filed.1
      by false e whys.Loud stuck filed = clash (is_queued x roused.queued) in_roused (free.hushed x filed)
      by false e whys.Barred stuck filed = clash (is_queued x roused.queued) in_roused (free.unmarked x filed)

  pub kept_after : AreKept n now then_marks
  kept_after = record { each = each_after; sound = sound; filed = filed_after }

-- ---- what is roused

nobody_waits : (waits now : Lists) → now.queued ≡ [] → IsLess waits now
nobody_waits waits now none = record {
  waiting = λ c x is. let off : false ≡ true = ap (waits_at c x) (sym none) ∙ is in absurd (cc);
  queued = λ x is. let off : false ≡ true = ap (is_queued x) (sym none) ∙ is in absurd (cc);
  causes = λ c is. let off : false ≡ true = ap (is_cause c) (sym none) ∙ is in absurd (cc);
  stays = λ c x is. inr (ap (is_queued x) none);
}

pub roused_few : (touched : Touched) (waits marks now then_marks : Lists) → is_wide touched ≡ false → IsRoused waits now →
    ((x : Who) → is_in x marks.ready ≡ true → is_queued x now.queued ≡ false) → then_marks.spare ≡ marks.spare →
    AreMet marks then_marks now → IsFreed loud_cause (all_marks waits marks) now → AreRoused touched waits marks now then_marks
roused_few touched waits marks now then_marks few roused gone room met loud = record {
  stays = roused.stays;
  less = roused.less;
  unmarked = gone;
  hushed = λ x is. loud refl x is;
  met = met_both waits marks now then_marks met roused.less;
  none = λ wide. clash (is_wide touched) wide few;
  room = λ off. (roused.room, room);
}

pub roused_wide : (touched : Touched) (waits marks now then_marks : Lists) → is_wide touched ≡ true → ((x : Who) → stands x now ≡ stands x waits) →
    now.queued ≡ [] → AreRoused touched waits marks now then_marks
roused_wide touched waits marks now then_marks wide stays none = record {
  stays = stays;
  less = nobody_waits waits now none;
  unmarked = λ x is. ap (is_queued x) none;
  hushed = λ x is. ap (is_queued x) none;
  met = met_nobody (all_marks waits marks) (all_marks now then_marks) now none;
  none = λ e. none;
  room = λ off. clash (is_wide touched) wide off;
}
