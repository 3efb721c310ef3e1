-- Touched: the lists once some objects are touched, one after another.
use Rattle.std.proofs.Common.{◌≡◌, ◌≤◌, ℕ, ◌||◌, ◌⊎◌, Bool, true, false, List, [], ◌∷◌, if◌then◌else◌, inl, inr, refl, sym, ap, subst, ◌∙◌}
use Rattle.std.proofs.lemmas.Bool.{or_left, or_right}
use Rattle.fk_model.specs.declared.names.Who.{Who}
use Rattle.fk_store.specs.Store.Contents.{Contents}
use Rattle.fk_store.specs.Store.Names.{at}
use Rattle.fk_waits.specs.Turns.Turns.{free_cause, waits_at, AreMet, IsFreed, IsLess, IsRoused}
use Rattle.fk_waits.proofs.InTurns.Roused.{less_none, less_then, met_nobody, met_none, met_then}
use Rattle.fk_waits.proofs.InTurns.Woken.{stands_left, stands_woken}
use Rattle.fk_waits.specs.Waits.Lists.{is_queued, left, stands, woken, Lists}
use Rattle.fk_waits.proofs.InCauses.Numbers.{clash}
use Rattle.fk_waits.proofs.InCauses.Order.{same_self}
use Rattle.fk_waits.specs.Causes.Names.{is_same}
use Rattle.fk_waits.proofs.InCauses.Order.{same_who}
use Rattle.fk_plans.specs.declared.wakes.touching.Touched.{Touched}
use Rattle.fk_plans.specs.declared.wakes.touching.Touched.TheVariants.{Any, Dies, Few, Makes, Moves}
use Rattle.fk_turns.specs.Moved.Kept.{is_user_at}
use Rattle.fk_turns.specs.Moved.Moved.{is_named, is_put, is_wide, AreFreed, AreRoused, HasPlace, HasPlaceFor, HasRoom, HasRoomFor, IsTouched}

-- ---- one after another

-- nothing is touched
pub touched_none : (n : Contents) (l : Lists) → IsTouched n (λ x. false) l l
touched_none n l = record { placed = λ x. refl; less = less_none l; away = λ x is. absurd (cc) }

pub freed_none : (marks waits : Lists) → AreFreed (λ x. false) marks marks waits
freed_none marks waits = record { met = met_none marks waits; freed = λ key is. absurd (cc) }

off_by : (a b : Bool) → (b ≡ true → a ≡ true) → a ≡ false → b ≡ false
off_by true b then_so off = absurd (cc)
off_by false true then_so off = sym (then_so refl)
off_by false false then_so off = refl

module _ (n : Contents) (p q r : Who → Bool) (a b c : Lists) (all : (x : Who) → r x ≡ (p x || q x)) where
  -- some, and then others
  pub touched_then : IsTouched n p a b → IsTouched n q b c → IsTouched n r a c
  touched_then first second = record {
    placed = λ x. second.placed x ∙ placed_by x (p x) (q x) (first.placed x) ∙ ap (λ (t : Bool). if t then is_user_at n x else stands x a) (sym (all x));
    less = less_then a b c first.less second.less;
    away = λ x is. away_by x (p x) (q x) refl refl (sym (all x) ∙ is);
  }
    where
      placed_by : (x : Who) (s t : Bool) → stands x b ≡ (if s then is_user_at n x else stands x a) →
          (if t then is_user_at n x else stands x b) ≡ (if s || t then is_user_at n x else stands x a)
      placed_by x true true is = refl
      placed_by x true false is = is
      placed_by x false true is = refl
      placed_by x false false is = is

      away_by : (x : Who) (s t : Bool) → p x ≡ s → q x ≡ t → (s || t) ≡ true → is_queued x c.queued ≡ false
      away_by x s true e f is = second.away x f
      away_by x true false e f is = off_by (is_queued x b.queued) (is_queued x c.queued) (second.less.queued x) (first.away x e)
      away_by x false false e f is = absurd (cc)

module _ (p q r : Who → Bool) (marks then_marks after_marks b c : Lists) (all : (x : Who) → r x ≡ (p x || q x)) where
  pub freed_then : AreFreed p marks then_marks b → AreFreed q then_marks after_marks c → IsLess b c → AreFreed r marks after_marks c
  freed_then first second less = record {
    met = met_then marks then_marks after_marks b c first.met second.met less;
    freed = λ key is named x there. by key x named there (p key) (q key) refl refl (sym (all key) ∙ is);
  }
    where
      later : (x : Who) → is_queued x b.queued ≡ false → is_queued x c.queued ≡ false
      later x off = off_by (is_queued x b.queued) (is_queued x c.queued) (less.queued x) off

      then_by : (key x : Who) → is_same free_cause key ≡ false → q key ≡ true →
          (waits_at key x then_marks.queued ≡ true) ⊎ (is_queued x b.queued ≡ false) → is_queued x c.queued ≡ false
      then_by key x named f (inl there) = second.freed key f named x there
      then_by key x named f (inr gone) = later x gone

      by : (key x : Who) → is_same free_cause key ≡ false → waits_at key x marks.queued ≡ true → (s t : Bool) → p key ≡ s → q key ≡ t →
          (s || t) ≡ true → is_queued x c.queued ≡ false
      by key x named there true t e f is = later x (first.freed key e named x there)
      by key x named there false true e f is = then_by key x named f (first.met.keyed key x there)
      by key x named there false false e f is = absurd (cc)

-- one is put in its place, and whom it may free is ready
pub freed_one : (x : Who) (marks then_marks after_marks b c : Lists) → AreMet marks then_marks b → AreMet then_marks after_marks c →
    IsFreed x then_marks c → IsLess b c → AreFreed (is_same x) marks after_marks c
freed_one x marks then_marks after_marks b c first second freed less =
    freed_then (λ y. false) (is_same x) (is_same x) marks then_marks after_marks b c (λ y. refl)
    (record { met = first; freed = λ key is. absurd (cc) })
    (record { met = second; freed = λ key is. subst (λ (w : Who). IsFreed w then_marks c) (same_who x key is) freed }) less

-- where nobody is queued
pub freed_nobody : (told : Who → Bool) (marks then_marks waits : Lists) → waits.queued ≡ [] → AreFreed told marks then_marks waits
freed_nobody told marks then_marks waits none = record {
  met = met_nobody marks then_marks waits none;
  freed = λ key is named x there. ap (is_queued x) none;
}

-- nor is anybody then
pub still_nobody : (old new : Lists) → IsLess old new → old.queued ≡ [] → new.queued ≡ []
still_nobody old new less none = by new.queued (λ x any. off_by (is_queued x old.queued) (is_queued x new.queued) (less.queued x) (ap (is_queued x) none))
  where
    by : (l : List (Who × Who)) → ((x : Who) → Bool → is_queued x l ≡ false) → l ≡ []
    by [] off = refl
    by (q ∷ l) off = clash (is_queued q.1 (q ∷ l)) (or_left (is_same q.1 q.1) (is_queued q.1 l) (same_self q.1)) (off q.1 true)

-- a user's thread that stood stands still
pub still_stands : (n : Contents) (p : Who → Bool) (a b : Lists) (x : Who) → IsTouched n p a b → is_user_at n x ≡ true → stands x a ≡ true → stands x b ≡ true
still_stands n p a b x touched user there = touched.placed x ∙ by (p x)
  where
    by : (t : Bool) → (if t then is_user_at n x else stands x a) ≡ true
    by true = user
    by false = there

-- who stands needs no place
pub place_known : (n : Contents) (waits marks : Lists) (x : Who) → (is_user_at n x ≡ true → stands x waits ≡ true) → HasPlace n waits marks x
place_known n waits marks x there user off = clash (stands x waits) (there user) off

-- ---- one

-- woken
pub placed_user : (n : Contents) (x : Who) (old new : Lists) → is_user_at n x ≡ true → new ≡ woken x old →
    (y : Who) → stands y new ≡ (if is_same x y then is_user_at n x else stands y old)
placed_user n x old new user is y = ap (stands y) is ∙ stands_woken x y old ∙ by (is_same x y)
  where
    by : (t : Bool) → (t || stands y old) ≡ (if t then is_user_at n x else stands y old)
    by true = sym user
    by false = refl

-- forgotten
pub placed_other : (n : Contents) (x : Who) (old new : Lists) → is_user_at n x ≡ false → new ≡ left x old →
    (y : Who) → stands y new ≡ (if is_same x y then is_user_at n x else stands y old)
placed_other n x old new user is y = ap (stands y) is ∙ stands_left x y old ∙ ap (λ (t : Bool). if is_same x y then t else stands y old) (sym user)

-- and who is queued at it is ready
pub touched_one : (n : Contents) (x : Who) (old placed new : Lists) →
    ((y : Who) → stands y placed ≡ (if is_same x y then is_user_at n x else stands y old)) → IsLess old placed → is_queued x placed.queued ≡ false →
    IsRoused placed new → IsTouched n (is_same x) old new
touched_one n x old placed new put less away roused = record {
  placed = λ y. roused.stays y ∙ put y ∙ by y (is_same x y) refl;
  less = less_then old placed new less roused.less;
  away = λ y is. subst (λ (w : Who). is_queued w new.queued ≡ false) (same_who x y is)
      (off_by (is_queued x placed.queued) (is_queued x new.queued) (roused.less.queued x) away);
}
  where
    by : (y : Who) (t : Bool) → is_same x y ≡ t → (if t then is_user_at n x else stands y old) ≡ (if t then is_user_at n y else stands y old)
    by y true e = ap (is_user_at n) (same_who x y e)
    by y false e = refl

-- ---- what gets another slot

nobody_less : (old new : Lists) (x : Who) → IsLess old new → old.queued ≡ [] → is_queued x new.queued ≡ false
nobody_less old new x less none = off_by (is_queued x old.queued) (is_queued x new.queued) (less.queued x) (ap (is_queued x) none)

-- (where a name is the one or the other)
by_either : (n : Contents) (from to y : Who) (old : Lists) → is_user_at n from ≡ false → (user : Bool) → is_user_at n to ≡ user → (s t : Bool) →
    is_same from y ≡ s → is_same to y ≡ t → (if t then user else (if s then false else stands y old)) ≡ (if s || t then is_user_at n y else stands y old)
by_either n from to y old gone user is true true e f = sym is ∙ ap (is_user_at n) (same_who to y f)
by_either n from to y old gone user is false true e f = sym is ∙ ap (is_user_at n) (same_who to y f)
by_either n from to y old gone user is true false e f = sym gone ∙ ap (is_user_at n) (same_who from y e)
by_either n from to y old gone user is false false e f = refl

pub shifted_user : (n : Contents) (from to : Who) (old new : Lists) → old.queued ≡ [] → is_user_at n to ≡ true → is_user_at n from ≡ false →
    new ≡ woken to (left from old) → IsLess old new → IsTouched n (λ (y : Who). is_same from y || is_same to y) old new
shifted_user n from to old new none user gone is less = record {
  placed = λ y. ap (stands y) is ∙ stands_woken to y (left from old) ∙ ap (λ (t : Bool). is_same to y || t) (stands_left from y old)
      ∙ or_if (is_same to y) (if is_same from y then false else stands y old)
      ∙ by_either n from to y old gone true user (is_same from y) (is_same to y) refl refl;
  less = less;
  away = λ y is. nobody_less old new y less none;
}
  where
    or_if : (s t : Bool) → (s || t) ≡ (if s then true else t)
    or_if true t = refl
    or_if false t = refl

pub shifted_other : (n : Contents) (from to : Who) (old first new : Lists) → old.queued ≡ [] → is_user_at n to ≡ false → is_user_at n from ≡ false →
    first ≡ left from old → new ≡ left to first → IsLess old first → IsLess first new → IsTouched n (λ (y : Who). is_same from y || is_same to y) old new
shifted_other n from to old first new none user gone is then_is less more = record {
  placed = λ y. ap (stands y) then_is ∙ stands_left to y first ∙ ap (λ (l : Lists). if is_same to y then false else stands y l) is
      ∙ ap (λ (t : Bool). if is_same to y then false else t) (stands_left from y old)
      ∙ by_either n from to y old gone false user (is_same from y) (is_same to y) refl refl;
  less = less_then old first new less more;
  away = λ y is. nobody_less old new y (less_then old first new less more) none;
}

-- ---- what is told

-- where something comes to stand is told
put_named : (touched : Touched) (x : Who) → is_put touched x ≡ true → is_named touched x ≡ true
put_named (Few first second third) x is = absurd (cc)
put_named (Makes object) x is = is
put_named Any x is = absurd (cc)
put_named (Dies object) x is = absurd (cc)
put_named (Moves object slot) x is = or_right (is_same object x) (is_same (at object.space slot) x) is

-- once some are roused there is room still
pub room_roused : (n : Contents) (touched : Touched) (waits marks now then_marks : Lists) → AreRoused touched waits marks now then_marks →
    HasRoomFor n touched waits marks → HasRoomFor n touched now then_marks
room_roused n touched waits marks now then_marks roused room = record {
  known = λ x named off user. roused.stays x ∙ room.known x named off user;
  put = by touched roused.room room.put;
}
  where
    by : (t : Touched) → (is_wide t ≡ false → (now.spare ≡ waits.spare) × (then_marks.spare ≡ marks.spare)) → HasPlaceFor n waits marks t →
        HasPlaceFor n now then_marks t
    by (Few first second third) same put = tt
    by (Makes object) same put = λ user off.
        let both = put user (sym (roused.stays object) ∙ off) in
        (subst (λ (k : ℕ). 1 ≤ k) (sym (same refl).0) both.0, subst (λ (k : ℕ). 1 ≤ k) (sym (same refl).1) both.1)
    by Any same put = tt
    by (Dies object) same put = tt
    by (Moves object slot) same put = ((λ user. roused.stays object ∙ put.0 user), put.1)

-- and for the mover
pub place_own : (n : Contents) (mover : Who) (touched : Touched) (waits marks now then_marks after after_marks : Lists) → HasRoom n mover touched waits marks →
    AreRoused touched waits marks now then_marks → IsTouched n (is_named touched) now after → HasPlace n after after_marks mover
place_own n mover touched waits marks now then_marks after after_marks room roused told user off =
    by (is_named touched mover) (is_put touched mover) refl refl
  where
    by : (s t : Bool) → is_named touched mover ≡ s → is_put touched mover ≡ t → (1 ≤ after.spare) × (1 ≤ after_marks.spare)
    by true t e f =
        clash (stands mover after) (told.placed mover ∙ ap (λ (b : Bool). if b then is_user_at n mover else stands mover now) e ∙ user) off
    by false true e f = clash (is_named touched mover) (put_named touched mover f) e
    by false false e f =
        clash (stands mover after)
        (told.placed mover ∙ ap (λ (b : Bool). if b then is_user_at n mover else stands mover now) e ∙ roused.stays mover ∙ room.own f user) off
