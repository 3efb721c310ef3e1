-- Roused: threads that are woken one after another.
use Rattle.std.proofs.Common.{◌≡◌, ◌≤◌, ◌<◌, ◌||◌, ◌⊎◌, ◌==◌, ℕ, Bool, true, false, List, [], ◌∷◌, ◌++◌, length, Option, Some, None, if◌then◌else◌}
use Rattle.std.proofs.Common.{inl, inr, refl, sym}
use Rattle.std.proofs.Common.{ap, subst, ◌∙◌, arith}
use Rattle.std.proofs.lemmas.Bool.{eqb-true, or_from, or_right}
use Rattle.std.specs.Bool.{OnTrue}
use Rattle.fk_model.specs.declared.names.Who.{Who}
use Rattle.fk_waits.specs.Causes.Names.{is_same}
use Rattle.fk_waits.proofs.InCauses.Order.{same_who}
use Rattle.fk_waits.specs.Waits.Lists.{first_queued, first_ready, is_cause, is_in, is_queued, left, parked, stands, without, without_queued, woken, Lists, StandOnce}
use Rattle.fk_waits.proofs.InWaits.Listed.{front_stands}
use Rattle.fk_waits.proofs.InCauses.Numbers.{clash}
use Rattle.fk_waits.proofs.InCauses.Placed.{same_by}
use Rattle.fk_waits.specs.Turns.Turns.{all_marks, waits_at, AreMet, IsFreed, IsLess, IsRoused, IsSound}
use Rattle.fk_waits.proofs.InTurns.Firsts.{first_goes, first_stands, those_at}
use Rattle.fk_waits.proofs.InTurns.Woken.{cause_less, queued_less, queued_off, room_woken, stands_woken, waits_behind, waits_cause, waits_less, waits_more}
use Rattle.fk_waits.proofs.InTurns.Woken.{waits_other, waits_split}

pub less_none : (l : Lists) → IsLess l l
less_none l = record { waiting = λ cause x is. is; queued = λ x is. is; causes = λ cause is. is; stays = λ cause x is. inl is }

false_unless : (b c : Bool) → (b ≡ true → c ≡ true) → c ≡ false → b ≡ false
false_unless true c then_so off = clash c (then_so refl) off
false_unless false c then_so off = refl

pub less_then : (a b c : Lists) → IsLess a b → IsLess b c → IsLess a c
less_then a b c first second = record {
  waiting = λ cause x is. first.waiting cause x (second.waiting cause x is);
  queued = λ x is. first.queued x (second.queued x is);
  causes = λ cause is. first.causes cause (second.causes cause is);
  stays = λ cause x is. by cause x (first.stays cause x is);
}
  where
    by : (cause x : Who) → (waits_at cause x b.queued ≡ true) ⊎ (is_queued x b.queued ≡ false) →
        (waits_at cause x c.queued ≡ true) ⊎ (is_queued x c.queued ≡ false)
    by cause x (inl there) = second.stays cause x there
    by cause x (inr gone) = inr (false_unless (is_queued x c.queued) (is_queued x b.queued) (second.queued x) gone)

-- without one
pub less_one : (n : Who) (l now : Lists) → now.queued ≡ without_queued n l.queued → IsLess l now
less_one n l now is = record {
  waiting = λ cause x here. waits_less cause x n l.queued (ap (waits_at cause x) (sym is) ∙ here);
  queued = λ x here. queued_less x n l.queued (ap (is_queued x) (sym is) ∙ here);
  causes = λ cause here. cause_less cause n l.queued (ap (is_cause cause) (sym is) ∙ here);
  stays = λ cause x there. by cause x there (is_same n x) refl;
}
  where
    by : (cause x : Who) → waits_at cause x l.queued ≡ true → (t : Bool) → is_same n x ≡ t →
        (waits_at cause x now.queued ≡ true) ⊎ (is_queued x now.queued ≡ false)
    by cause x there true e =
        inr (ap (is_queued x) is ∙ subst (λ (w : Who). is_queued w (without_queued n l.queued) ≡ false) (same_who n x e) (queued_off n l.queued))
    by cause x there false e = inl (ap (waits_at cause x) is ∙ waits_other cause x n l.queued e there)

pub off_one : (n : Who) (l now : Lists) → now.queued ≡ without_queued n l.queued → is_queued n now.queued ≡ false
off_one n l now is = ap (is_queued n) is ∙ queued_off n l.queued

pub roused_none : (l : Lists) → IsRoused l l
roused_none l = record { less = less_none l; stays = λ x. refl; room = refl }

-- one that stands is woken
pub roused_one : (n : Who) (l : Lists) → stands n l ≡ true → IsRoused l (woken n l)
roused_one n l there = record {
  less = less_one n l (woken n l) refl;
  stays = λ x. stands_woken n x l ∙ by x (is_same n x) refl;
  room = room_woken n l (woken n l) there refl;
}
  where
    by : (x : Who) (t : Bool) → is_same n x ≡ t → (is_same n x || stands x l) ≡ stands x l
    by x true e = rw e (sym (subst (λ (w : Who). stands w l ≡ true) (same_who n x e) there))
    by x false e = rw e refl

pub roused_then : (a b c : Lists) → IsRoused a b → IsRoused b c → IsRoused a c
roused_then a b c first second = record {
  less = less_then a b c first.less second.less;
  stays = λ x. second.stays x ∙ first.stays x;
  room = second.room ∙ first.room;
}

pub roused_by : (a b c : Lists) (n : Who) → IsRoused a b → stands n b ≡ true → c ≡ woken n b → IsRoused a c
roused_by a b c n first there is = roused_then a b c first (subst (IsRoused b) (sym is) (roused_one n b there))

-- nobody is first where nobody is queued at a cause
pub none_at : (cause : Who) (l : List (Who × Who)) → None ≡ first_queued cause l → is_cause cause l ≡ false
none_at cause [] none = refl
none_at cause (q ∷ l) none = by (is_same q.0 cause) refl none (λ rest. none_at cause l rest)
  where
    by : (t : Bool) → is_same q.0 cause ≡ t → None ≡ (if is_same q.0 cause then Some q.1 else first_queued cause l) →
        (None ≡ first_queued cause l → is_cause cause l ≡ false) → (is_same q.0 cause || is_cause cause l) ≡ false
    by true e is rest = let not_so : None ≡ Some q.1 = rw e at is in absurd (cc)
    by false e is rest = or_from (is_same q.0 cause) (is_cause cause l) e (rest (rw e at is))

-- and who is first at something waits for it
pub some_at : (cause n : Who) (l : List (Who × Who)) → Some n ≡ first_queued cause l → is_cause cause l ≡ true
some_at cause n [] some = absurd (cc)
some_at cause n (q ∷ l) some = by (is_same q.0 cause) refl some (λ rest. some_at cause n l rest)
  where
    by : (t : Bool) → is_same q.0 cause ≡ t → Some n ≡ (if is_same q.0 cause then Some q.1 else first_queued cause l) →
        (Some n ≡ first_queued cause l → is_cause cause l ≡ true) → (is_same q.0 cause || is_cause cause l) ≡ true
    by true e is rest = rw e refl
    by false e is rest = or_right (is_same q.0 cause) (is_cause cause l) (rest (rw e at is))

pub none_ready : (l : List Who) → None ≡ first_ready l → l ≡ []
none_ready [] is = refl
none_ready (x ∷ l) is = absurd (cc)

-- ---- marks

pub met_none : (marks waits : Lists) → AreMet marks marks waits
met_none marks waits = record { met = λ x is. inl is; keyed = λ key x is. inl is }

-- where nobody is queued
pub met_nobody : (marks now waits : Lists) → waits.queued ≡ [] → AreMet marks now waits
met_nobody marks now waits none = record { met = λ x is. inr (ap (is_queued x) none); keyed = λ key x is. inr (ap (is_queued x) none) }

-- one is woken, or goes
pub met_more : (marks now waits after woke : Lists) (n : Who) → AreMet marks now waits → after.ready ≡ without n now.ready →
    ((key x : Who) → is_same n x ≡ false → waits_at key x now.queued ≡ true → waits_at key x after.queued ≡ true) →
    woke.queued ≡ without_queued n waits.queued → AreMet marks after woke
met_more marks now waits after woke n before first others second = record {
  met = λ x is. by x (before.met x is) (is_same n x) refl;
  keyed = λ key x is. at key x (before.keyed key x is) (is_same n x) refl;
}
  where
    off : (x : Who) → is_same n x ≡ true → is_queued x woke.queued ≡ false
    off x e =
        ap (is_queued x) second ∙ subst (λ (w : Who). is_queued w (without_queued n waits.queued) ≡ false) (same_who n x e) (queued_off n waits.queued)

    kept : (x : Who) → is_same n x ≡ false → (l : List Who) → is_in x l ≡ true → is_in x (without n l) ≡ true
    kept x apart [] is = is
    kept x apart (y ∷ l) is = of (is_same y n) refl is (λ rest. kept x apart l rest)
      where
        of : (t : Bool) → is_same y n ≡ t → (is_same y x || is_in x l) ≡ true → (is_in x l ≡ true → is_in x (without n l) ≡ true) →
            is_in x (if is_same y n then without n l else y ∷ without n l) ≡ true
        of true e here rest =
            let not_so : is_same y x ≡ false = subst (λ (w : Who). is_same w x ≡ false) (sym (same_who y n e)) apart in rw e (rest (rw not_so at here))
        of false e here rest = rw e (or_more (is_same y x) (is_in x l) (is_in x (without n l)) rest here)
          where
            or_more : (a b c : Bool) → (b ≡ true → c ≡ true) → (a || b) ≡ true → (a || c) ≡ true
            or_more true b c then_so is = refl
            or_more false b c then_so is = then_so is

    by : (x : Who) → (is_in x now.ready ≡ true) ⊎ (is_queued x waits.queued ≡ false) → (t : Bool) → is_same n x ≡ t →
        (is_in x after.ready ≡ true) ⊎ (is_queued x woke.queued ≡ false)
    by x was true e = inr (off x e)
    by x (inl marked) false e = inl (ap (is_in x) first ∙ kept x e now.ready marked)
    by x (inr gone) false e =
        inr (false_unless (is_queued x woke.queued) (is_queued x waits.queued)
        (λ is. queued_less x n waits.queued (ap (is_queued x) (sym second) ∙ is)) gone)

    at : (key x : Who) → (waits_at key x now.queued ≡ true) ⊎ (is_queued x waits.queued ≡ false) → (t : Bool) → is_same n x ≡ t →
        (waits_at key x after.queued ≡ true) ⊎ (is_queued x woke.queued ≡ false)
    at key x was true e = inr (off x e)
    at key x (inl there) false e = inl (others key x e there)
    at key x (inr gone) false e =
        inr (false_unless (is_queued x woke.queued) (is_queued x waits.queued)
        (λ is. queued_less x n waits.queued (ap (is_queued x) (sym second) ∙ is)) gone)

-- others are where they were once one is parked among the marks, or goes
pub others_parked : (n cause : Who) (marks now : Lists) → now ≡ parked n cause marks → (key x : Who) → is_same n x ≡ false →
    waits_at key x marks.queued ≡ true → waits_at key x now.queued ≡ true
others_parked n cause marks now is key x off there =
    ap (λ (l : Lists). waits_at key x l.queued) is
    ∙ waits_more key x (without_queued n marks.queued) ((cause, n) ∷ []) (waits_other key x n marks.queued off there)

pub others_left : (n : Who) (marks now : Lists) → now ≡ left n marks → (key x : Who) → is_same n x ≡ false →
    waits_at key x marks.queued ≡ true → waits_at key x now.queued ≡ true
others_left n marks now is key x off there = ap (λ (l : Lists). waits_at key x l.queued) is ∙ waits_other key x n marks.queued off there

-- nobody stands at an object, so who stood there isn't queued
pub freed_at : (key : Who) (marks now waits : Lists) → AreMet marks now waits → is_cause key now.queued ≡ false → IsFreed key marks waits
freed_at key marks now waits met none named x there = by (met.keyed key x there)
  where
    by : (waits_at key x now.queued ≡ true) ⊎ (is_queued x waits.queued ≡ false) → is_queued x waits.queued ≡ false
    by (inl here) = clash (is_cause key now.queued) (waits_cause key x now.queued here) none
    by (inr gone) = gone

-- each time one less stands there
at_last : (key cause n : Who) (l : List (Who × Who)) → is_same cause key ≡ false → those_at key (l ++ (cause, n) ∷ []) ≡ those_at key l
at_last key cause n [] off = rw off refl
at_last key cause n (q ∷ l) off = by (is_same q.0 key) (at_last key cause n l off)
  where
    by : (t : Bool) → those_at key (l ++ (cause, n) ∷ []) ≡ those_at key l →
        (if t then q.1 ∷ those_at key (l ++ (cause, n) ∷ []) else those_at key (l ++ (cause, n) ∷ []))
        ≡ (if t then q.1 ∷ those_at key l else those_at key l)
    by true rest = ap (λ (k : List Who). q.1 ∷ k) rest
    by false rest = rest

pub fewer_parked : (key cause n : Who) (marks now : Lists) → is_same cause key ≡ false → StandOnce marks → Some n ≡ first_queued key marks.queued →
    now ≡ parked n cause marks → length (those_at key now.queued) < length (those_at key marks.queued)
fewer_parked key cause n marks now off once first is =
    let rest = ap (λ (k : List Who). length k) (first_goes key n marks.queued once.queued first) in
    let here : length (those_at key now.queued) ≡ length (those_at key (without_queued n marks.queued)) =
    ap (λ (l : Lists). length (those_at key l.queued)) is
    ∙ ap (λ (k : List Who). length k) (at_last key cause n (without_queued n marks.queued) off) in
    omega (arith, rest, here)

pub met_then : (a b c w v : Lists) → AreMet a b w → AreMet b c v → IsLess w v → AreMet a c v
met_then a b c w v first second less = record {
  met = λ x is. by x (first.met x is);
  keyed = λ key x is. at key x (first.keyed key x is);
}
  where
    later : (x : Who) → is_queued x w.queued ≡ false → is_queued x v.queued ≡ false
    later x gone = false_unless (is_queued x v.queued) (is_queued x w.queued) (less.queued x) gone

    by : (x : Who) → (is_in x b.ready ≡ true) ⊎ (is_queued x w.queued ≡ false) → (is_in x c.ready ≡ true) ⊎ (is_queued x v.queued ≡ false)
    by x (inl is) = second.met x is
    by x (inr gone) = inr (later x gone)

    at : (key x : Who) → (waits_at key x b.queued ≡ true) ⊎ (is_queued x w.queued ≡ false) →
        (waits_at key x c.queued ≡ true) ⊎ (is_queued x v.queued ≡ false)
    at key x (inl is) = second.keyed key x is
    at key x (inr gone) = inr (later x gone)

pub gone_later : (w v : Lists) (x : Who) → IsLess w v → is_queued x w.queued ≡ false → is_queued x v.queued ≡ false
gone_later w v x less gone = false_unless (is_queued x v.queued) (is_queued x w.queued) (less.queued x) gone

-- who stood at an object stands there still, and is freed then
pub freed_later : (key : Who) (marks now w v : Lists) → AreMet marks now w → IsFreed key now v → IsLess w v → IsFreed key marks v
freed_later key marks now w v met freed less named x there = by (met.keyed key x there)
  where
    by : (waits_at key x now.queued ≡ true) ⊎ (is_queued x w.queued ≡ false) → is_queued x v.queued ≡ false
    by (inl here) = freed named x here
    by (inr gone) = gone_later w v x less gone

-- who is queued is marked at its cause too
pub met_both : (waits marks now then_marks : Lists) → AreMet marks then_marks now → IsLess waits now →
    AreMet (all_marks waits marks) (all_marks now then_marks) now
met_both waits marks now then_marks met less = record {
  met = λ x is. met.met x is;
  keyed = λ key x is. by key x (waits_split key x marks.queued waits.queued is);
}
  where
    marked : (key x : Who) → (waits_at key x then_marks.queued ≡ true) ⊎ (is_queued x now.queued ≡ false) →
        (waits_at key x (then_marks.queued ++ now.queued) ≡ true) ⊎ (is_queued x now.queued ≡ false)
    marked key x (inl there) = inl (waits_more key x then_marks.queued now.queued there)
    marked key x (inr gone) = inr gone

    queued : (key x : Who) → (waits_at key x now.queued ≡ true) ⊎ (is_queued x now.queued ≡ false) →
        (waits_at key x (then_marks.queued ++ now.queued) ≡ true) ⊎ (is_queued x now.queued ≡ false)
    queued key x (inl there) = inl (waits_behind key x then_marks.queued now.queued there)
    queued key x (inr gone) = inr gone

    by : (key x : Who) → (waits_at key x marks.queued ≡ true) ⊎ (waits_at key x waits.queued ≡ true) →
        (waits_at key x (then_marks.queued ++ now.queued) ≡ true) ⊎ (is_queued x now.queued ≡ false)
    by key x (inl there) = marked key x (met.keyed key x there)
    by key x (inr there) = queued key x (less.stays key x there)

-- nobody that was marked at an object, or queued there, is queued
pub freed_both : (key : Who) (waits marks mid now : Lists) → IsFreed key marks mid → IsLess waits mid → IsLess mid now → is_cause key now.queued ≡ false →
    IsFreed key (all_marks waits marks) now
freed_both key waits marks mid now freed first second none named x is = by (waits_split key x marks.queued waits.queued is)
  where
    last : (waits_at key x now.queued ≡ true) ⊎ (is_queued x now.queued ≡ false) → is_queued x now.queued ≡ false
    last (inl here) = clash (is_cause key now.queued) (waits_cause key x now.queued here) none
    last (inr gone) = gone

    then_by : (waits_at key x mid.queued ≡ true) ⊎ (is_queued x mid.queued ≡ false) → is_queued x now.queued ≡ false
    then_by (inl here) = last (second.stays key x here)
    then_by (inr gone) = gone_later mid now x second gone

    by : (waits_at key x marks.queued ≡ true) ⊎ (waits_at key x waits.queued ≡ true) → is_queued x now.queued ≡ false
    by (inl there) = gone_later mid now x second (freed named x there)
    by (inr there) = then_by (first.stays key x there)

-- the marks stay, and fewer are queued
pub met_still : (a b c w v : Lists) → AreMet a b w → IsLess w v → c ≡ b → AreMet a c v
met_still a b c w v met less same = subst (λ (m : Lists). AreMet a m v) (sym same) (met_then a b b w v met (met_none b v) less)

pub met_all : (marks now waits : Lists) → AreMet marks now waits → now.ready ≡ [] → (x : Who) → is_in x marks.ready ≡ true → is_queued x waits.queued ≡ false
met_all marks now waits all none x is = by (all.met x is)
  where
    by : (is_in x now.ready ≡ true) ⊎ (is_queued x waits.queued ≡ false) → is_queued x waits.queued ≡ false
    by (inl marked) = let not_so : false ≡ true = ap (is_in x) (sym none) ∙ marked in absurd (cc)
    by (inr gone) = gone

-- each time one less is marked
pub fewer_marked : (now after : Lists) (n cause : Who) → Some n ≡ first_ready now.ready → after ≡ parked n cause now → length after.ready < length now.ready
fewer_marked now after n cause first is = let here = ap (λ (l : Lists). length l.ready) is in let less = by now.ready first in omega (arith, here, less)
  where
    who_or : Option Who → Who
    who_or None = n
    who_or (Some w) = w

    shorter : (l : List Who) → length (without n l) ≤ length l
    shorter [] = omega arith
    shorter (y ∷ l) = of (is_same y n) refl (shorter l)
      where
        of : (t : Bool) → is_same y n ≡ t → length (without n l) ≤ length l → length (if is_same y n then without n l else y ∷ without n l) ≤ length (y ∷ l)
        of true e less = rw e (omega (arith, less))
        of false e less = rw e (omega (arith, less))

    by : (l : List Who) → Some n ≡ first_ready l → length (without n l) < length l
    by [] is = absurd (cc)
    by (y ∷ l) is =
        let is_so : is_same y n ≡ true = same_by y n (sym (ap who_or is)) in let less = shorter l in rw is_so (omega (arith, less))

-- the first of the marked stands among those that wait
pub marked_stands : (n : Who) (waits marks : Lists) → IsSound waits marks → Some n ≡ first_ready marks.ready → stands n waits ≡ true
marked_stands n waits marks sound first = sym (sound.both n) ∙ front_stands n marks first

-- who is first at a cause stands
pub at_stands : (cause n : Who) (lists : Lists) → Some n ≡ first_queued cause lists.queued → stands n lists ≡ true
at_stands cause n lists first = or_right (is_in n lists.ready) (is_queued n lists.queued) (first_stands cause n lists.queued first)

if_anyway : {P : Type 0} (b : Bool) → P → OnTrue b P
if_anyway true p = p
if_anyway false p = tt

pub length_none : {A : Type 0} (n : ℕ) (l : List A) → n ≡ length l → OnTrue (n == 0) (l ≡ [])
length_none n [] e = if_anyway (n == 0) refl
length_none n (x ∷ l) e = by (n == 0) refl
  where
    by : (b : Bool) → (n == 0) ≡ b → OnTrue b (x ∷ l ≡ [])
    by true h = let none : 0 ≡ length (x ∷ l) = sym (eqb-true n 0 h) ∙ e in absurd (cc)
    by false h = tt
