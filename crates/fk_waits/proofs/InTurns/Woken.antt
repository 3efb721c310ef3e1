-- Woken: who stands where once a thread is woken, parked or gone.
use Rattle.std.proofs.Common.{◌≡◌, ◌≤◌, ◌+◌, ◌-◌, ◌&&◌, ◌||◌, ◌⊎◌, inl, inr, Bool, true, false, List, [], ◌∷◌, ◌++◌, Some, if◌then◌else◌, refl, sym}
use Rattle.std.proofs.Common.{ap, subst, ◌∙◌, arith}
use Rattle.std.proofs.lemmas.Bool.{or_from, or_left, or_right}
use Rattle.std.specs.Bool.{OnTrue, OnFalse}
use Rattle.fk_model.specs.declared.names.Who.{Who}
use Rattle.fk_waits.specs.Causes.Names.{is_same}
use Rattle.fk_waits.proofs.InCauses.Order.{same_who}
use Rattle.fk_waits.proofs.InWaits.Last.{last_stands, last_woken}
use Rattle.fk_waits.specs.Waits.Lists.{first_ready, is_cause, is_in, is_queued, left, Lists, parked, stands, without, without_queued, woken, IsLast, StandOnce}
use Rattle.fk_waits.specs.declared.turns.turns.Mark.{Mark}
use Rattle.fk_waits.specs.declared.turns.turns.Mark.TheVariants as marks_of
use Rattle.fk_waits.specs.Turns.Turns.{free_cause, is_front, loud_cause, marked_by, waits_at, IsSound}

-- ---- one list

pub in_last : (x n : Who) (l : List Who) → is_in x (l ++ n ∷ []) ≡ (is_same n x || is_in x l)
in_last x n [] = refl
in_last x n (y ∷ l) = ap (λ (t : Bool). is_same y x || t) (in_last x n l) ∙ swap (is_same y x) (is_same n x) (is_in x l)
  where
    swap : (a b c : Bool) → (a || (b || c)) ≡ (b || (a || c))
    swap true true c = refl
    swap true false c = refl
    swap false true c = refl
    swap false false c = refl

pub in_other : (x n : Who) (l : List Who) → is_same n x ≡ false → is_in x (without n l) ≡ is_in x l
in_other x n [] off = refl
in_other x n (y ∷ l) off = by (is_same y n) refl (in_other x n l off)
  where
    by : (t : Bool) → is_same y n ≡ t → is_in x (without n l) ≡ is_in x l →
        is_in x (if is_same y n then without n l else y ∷ without n l) ≡ (is_same y x || is_in x l)
    by true e rest =
        let not_so : is_same y x ≡ false = subst (λ (w : Who). is_same w x ≡ false) (sym (same_who y n e)) off in rw (e, not_so) rest
    by false e rest = rw e (ap (λ (t : Bool). is_same y x || t) rest)

in_off : (n : Who) (l : List Who) → is_in n (without n l) ≡ false
in_off n [] = refl
in_off n (y ∷ l) = by (is_same y n) refl (in_off n l)
  where
    by : (t : Bool) → is_same y n ≡ t → is_in n (without n l) ≡ false → is_in n (if is_same y n then without n l else y ∷ without n l) ≡ false
    by true e rest = rw e rest
    by false e rest = rw e (or_from (is_same y n) (is_in n (without n l)) e rest)

pub queued_last : (x n cause : Who) (l : List (Who × Who)) → is_queued x (l ++ (cause, n) ∷ []) ≡ (is_same n x || is_queued x l)
queued_last x n cause [] = refl
queued_last x n cause (q ∷ l) = ap (λ (t : Bool). is_same q.1 x || t) (queued_last x n cause l) ∙ swap (is_same q.1 x) (is_same n x) (is_queued x l)
  where
    swap : (a b c : Bool) → (a || (b || c)) ≡ (b || (a || c))
    swap true true c = refl
    swap true false c = refl
    swap false true c = refl
    swap false false c = refl

queued_other : (x n : Who) (l : List (Who × Who)) → is_same n x ≡ false → is_queued x (without_queued n l) ≡ is_queued x l
queued_other x n [] off = refl
queued_other x n (q ∷ l) off = by (is_same q.1 n) refl (queued_other x n l off)
  where
    by : (t : Bool) → is_same q.1 n ≡ t → is_queued x (without_queued n l) ≡ is_queued x l →
        is_queued x (if is_same q.1 n then without_queued n l else q ∷ without_queued n l) ≡ (is_same q.1 x || is_queued x l)
    by true e rest =
        let not_so : is_same q.1 x ≡ false = subst (λ (w : Who). is_same w x ≡ false) (sym (same_who q.1 n e)) off in rw (e, not_so) rest
    by false e rest = rw e (ap (λ (t : Bool). is_same q.1 x || t) rest)

pub queued_off : (n : Who) (l : List (Who × Who)) → is_queued n (without_queued n l) ≡ false
queued_off n [] = refl
queued_off n (q ∷ l) = by (is_same q.1 n) refl (queued_off n l)
  where
    by : (t : Bool) → is_same q.1 n ≡ t → is_queued n (without_queued n l) ≡ false →
        is_queued n (if is_same q.1 n then without_queued n l else q ∷ without_queued n l) ≡ false
    by true e rest = rw e rest
    by false e rest = rw e (or_from (is_same q.1 n) (is_queued n (without_queued n l)) e rest)

-- ---- what is left was there before

more : (a b c : Bool) → (b ≡ true → c ≡ true) → (a || b) ≡ true → (a || c) ≡ true
more true b c then_so is = refl
more false b c then_so is = then_so is

pub queued_less : (x n : Who) (l : List (Who × Who)) → is_queued x (without_queued n l) ≡ true → is_queued x l ≡ true
queued_less x n [] is = is
queued_less x n (q ∷ l) is = by (is_same q.1 n) refl (λ rest. queued_less x n l rest) is
  where
    by : (t : Bool) → is_same q.1 n ≡ t → (is_queued x (without_queued n l) ≡ true → is_queued x l ≡ true) →
        is_queued x (if is_same q.1 n then without_queued n l else q ∷ without_queued n l) ≡ true → (is_same q.1 x || is_queued x l) ≡ true
    by true e rest here = or_right (is_same q.1 x) (is_queued x l) (rest (rw e at here))
    by false e rest here = more (is_same q.1 x) (is_queued x (without_queued n l)) (is_queued x l) rest (rw e at here)

pub cause_less : (cause n : Who) (l : List (Who × Who)) → is_cause cause (without_queued n l) ≡ true → is_cause cause l ≡ true
cause_less cause n [] is = is
cause_less cause n (q ∷ l) is = by (is_same q.1 n) refl (λ rest. cause_less cause n l rest) is
  where
    by : (t : Bool) → is_same q.1 n ≡ t → (is_cause cause (without_queued n l) ≡ true → is_cause cause l ≡ true) →
        is_cause cause (if is_same q.1 n then without_queued n l else q ∷ without_queued n l) ≡ true → (is_same q.0 cause || is_cause cause l) ≡ true
    by true e rest here = or_right (is_same q.0 cause) (is_cause cause l) (rest (rw e at here))
    by false e rest here = more (is_same q.0 cause) (is_cause cause (without_queued n l)) (is_cause cause l) rest (rw e at here)

pub waits_less : (cause x n : Who) (l : List (Who × Who)) → waits_at cause x (without_queued n l) ≡ true → waits_at cause x l ≡ true
waits_less cause x n [] is = is
waits_less cause x n (q ∷ l) is = by (is_same q.1 n) refl (λ rest. waits_less cause x n l rest) is
  where
    by : (t : Bool) → is_same q.1 n ≡ t → (waits_at cause x (without_queued n l) ≡ true → waits_at cause x l ≡ true) →
        waits_at cause x (if is_same q.1 n then without_queued n l else q ∷ without_queued n l) ≡ true →
        ((is_same q.0 cause && is_same q.1 x) || waits_at cause x l) ≡ true
    by true e rest here = or_right (is_same q.0 cause && is_same q.1 x) (waits_at cause x l) (rest (rw e at here))
    by false e rest here =
        more (is_same q.0 cause && is_same q.1 x) (waits_at cause x (without_queued n l)) (waits_at cause x l) rest (rw e at here)

-- and what is another's is left
pub waits_other : (key x n : Who) (l : List (Who × Who)) → is_same n x ≡ false → waits_at key x l ≡ true → waits_at key x (without_queued n l) ≡ true
waits_other key x n [] off is = absurd (cc)
waits_other key x n (q ∷ l) off is = by (is_same q.1 n) refl (λ rest. waits_other key x n l off rest) is
  where
    none : (a b : Bool) → b ≡ false → (a && b) ≡ false
    none true b e = e
    none false b e = refl

    by : (t : Bool) → is_same q.1 n ≡ t → (waits_at key x l ≡ true → waits_at key x (without_queued n l) ≡ true) →
        ((is_same q.0 key && is_same q.1 x) || waits_at key x l) ≡ true →
        waits_at key x (if is_same q.1 n then without_queued n l else q ∷ without_queued n l) ≡ true
    by true e rest here =
        let not_so : is_same q.1 x ≡ false = subst (λ (w : Who). is_same w x ≡ false) (sym (same_who q.1 n e)) off in
        rw e (rest (ap (λ (t : Bool). t || waits_at key x l) (sym (none (is_same q.0 key) (is_same q.1 x) not_so)) ∙ here))
    by false e rest here =
        rw e (more (is_same q.0 key && is_same q.1 x) (waits_at key x l) (waits_at key x (without_queued n l)) rest here)

pub waits_more : (key x : Who) (l k : List (Who × Who)) → waits_at key x l ≡ true → waits_at key x (l ++ k) ≡ true
waits_more key x [] k is = absurd (cc)
waits_more key x (q ∷ l) k is = more (is_same q.0 key && is_same q.1 x) (waits_at key x l) (waits_at key x (l ++ k)) (λ rest. waits_more key x l k rest) is

pub waits_behind : (key x : Who) (l k : List (Who × Who)) → waits_at key x k ≡ true → waits_at key x (l ++ k) ≡ true
waits_behind key x [] k is = is
waits_behind key x (q ∷ l) k is = or_right (is_same q.0 key && is_same q.1 x) (waits_at key x (l ++ k)) (waits_behind key x l k is)

pub waits_split : (key x : Who) (l k : List (Who × Who)) → waits_at key x (l ++ k) ≡ true → (waits_at key x l ≡ true) ⊎ (waits_at key x k ≡ true)
waits_split key x [] k is = inr is
waits_split key x (q ∷ l) k is = by (is_same q.0 key && is_same q.1 x) refl (λ rest. waits_split key x l k rest) is
  where
    of : (waits_at key x l ≡ true) ⊎ (waits_at key x k ≡ true) →
        (((is_same q.0 key && is_same q.1 x) || waits_at key x l) ≡ true) ⊎ (waits_at key x k ≡ true)
    of (inl one) = inl (or_right (is_same q.0 key && is_same q.1 x) (waits_at key x l) one)
    of (inr other) = inr other

    by : (t : Bool) → (is_same q.0 key && is_same q.1 x) ≡ t →
        (waits_at key x (l ++ k) ≡ true → (waits_at key x l ≡ true) ⊎ (waits_at key x k ≡ true)) → (t || waits_at key x (l ++ k)) ≡ true →
        (((is_same q.0 key && is_same q.1 x) || waits_at key x l) ≡ true) ⊎ (waits_at key x k ≡ true)
    by true e rest here = inl (or_left (is_same q.0 key && is_same q.1 x) (waits_at key x l) e)
    by false e rest here = of (rest here)

-- a cause in either list
pub cause_in_both : (cause : Who) (l k : List (Who × Who)) → is_cause cause (l ++ k) ≡ (is_cause cause l || is_cause cause k)
cause_in_both cause [] k = refl
cause_in_both cause (q ∷ l) k = by (is_same q.0 cause) (cause_in_both cause l k)
  where
    by : (t : Bool) → is_cause cause (l ++ k) ≡ (is_cause cause l || is_cause cause k) →
        (t || is_cause cause (l ++ k)) ≡ ((t || is_cause cause l) || is_cause cause k)
    by true rest = refl
    by false rest = rest

-- who waits at something is queued, and that is a cause
pub waits_queued : (cause x : Who) (l : List (Who × Who)) → waits_at cause x l ≡ true → is_queued x l ≡ true
waits_queued cause x [] is = is
waits_queued cause x (q ∷ l) is = by (is_same q.0 cause) (is_same q.1 x) refl refl is (waits_queued cause x l)
  where
    by : (s t : Bool) → is_same q.0 cause ≡ s → is_same q.1 x ≡ t → ((s && t) || waits_at cause x l) ≡ true →
        (waits_at cause x l ≡ true → is_queued x l ≡ true) → (is_same q.1 x || is_queued x l) ≡ true
    by s true e f here rest = or_left (is_same q.1 x) (is_queued x l) f
    by true false e f here rest = or_right (is_same q.1 x) (is_queued x l) (rest here)
    by false false e f here rest = or_right (is_same q.1 x) (is_queued x l) (rest here)

pub waits_cause : (cause x : Who) (l : List (Who × Who)) → waits_at cause x l ≡ true → is_cause cause l ≡ true
waits_cause cause x [] is = is
waits_cause cause x (q ∷ l) is = by (is_same q.0 cause) (is_same q.1 x) refl is (waits_cause cause x l)
  where
    by : (s t : Bool) → is_same q.0 cause ≡ s → ((s && t) || waits_at cause x l) ≡ true →
        (waits_at cause x l ≡ true → is_cause cause l ≡ true) → (is_same q.0 cause || is_cause cause l) ≡ true
    by true t e here rest = or_left (is_same q.0 cause) (is_cause cause l) e
    by false true e here rest = or_right (is_same q.0 cause) (is_cause cause l) (rest here)
    by false false e here rest = or_right (is_same q.0 cause) (is_cause cause l) (rest here)

-- ---- who stands

or_first : (a b c : Bool) → ((a || b) || c) ≡ (a || (b || c))
or_first true b c = refl
or_first false b c = refl

or_second : (a b c : Bool) → (b || (a || c)) ≡ (a || (b || c))
or_second true true c = refl
or_second true false c = refl
or_second false true c = refl
or_second false false c = refl

-- a thread that is put somewhere, and the others
pub stands_woken : (n x : Who) (l : Lists) → stands x (woken n l) ≡ (is_same n x || stands x l)
stands_woken n x l = by (is_same n x) refl
  where
    by : (t : Bool) → is_same n x ≡ t → stands x (woken n l) ≡ (is_same n x || stands x l)
    by true e =
        ap (λ (t : Bool). t || is_queued x (without_queued n l.queued)) (in_last x n (without n l.ready)) ∙ rw e refl
    by false e =
        ap (λ (t : Bool). t || is_queued x (without_queued n l.queued)) (in_last x n (without n l.ready))
        ∙ or_first (is_same n x) (is_in x (without n l.ready)) (is_queued x (without_queued n l.queued))
        ∙ (λ i. is_same n x || (in_other x n l.ready e i || queued_other x n l.queued e i))

pub stands_parked : (n x cause : Who) (l : Lists) → stands x (parked n cause l) ≡ (is_same n x || stands x l)
stands_parked n x cause l = by (is_same n x) refl
  where
    last : stands x (parked n cause l) ≡ (is_same n x || (is_in x (without n l.ready) || is_queued x (without_queued n l.queued)))
    last =
        ap (λ (t : Bool). is_in x (without n l.ready) || t) (queued_last x n cause (without_queued n l.queued))
        ∙ or_second (is_same n x) (is_in x (without n l.ready)) (is_queued x (without_queued n l.queued))

    by : (t : Bool) → is_same n x ≡ t → stands x (parked n cause l) ≡ (is_same n x || stands x l)
    by true e = last ∙ rw e refl
    by false e = last ∙ (λ i. is_same n x || (in_other x n l.ready e i || queued_other x n l.queued e i))

-- one that goes, and the others
pub stands_left : (n x : Who) (l : Lists) → stands x (left n l) ≡ (if is_same n x then false else stands x l)
stands_left n x l = by (is_same n x) refl
  where
    by : (t : Bool) → is_same n x ≡ t → stands x (left n l) ≡ (if is_same n x then false else stands x l)
    by true e =
        rw e (subst (λ (w : Who). stands w (left n l) ≡ false) (same_who n x e)
        (or_from (is_in n (without n l.ready)) (is_queued n (without_queued n l.queued)) (in_off n l.ready) (queued_off n l.queued)))
    by false e = rw e (λ i. in_other x n l.ready e i || queued_other x n l.queued e i)

-- ---- the marks are of the same threads still

pub sound_woken : (n : Who) (waits marks : Lists) → IsSound waits marks → IsSound (woken n waits) (parked n free_cause marks)
sound_woken n waits marks sound = record {
  both = λ x. stands_parked n x free_cause marks ∙ ap (λ (t : Bool). is_same n x || t) (sound.both x) ∙ sym (stands_woken n x waits);
}

-- (one that stands is put nowhere)
stands_anyway : (n x : Who) (l : Lists) → stands n l ≡ true → stands x l ≡ (is_same n x || stands x l)
stands_anyway n x l there = by (is_same n x) refl
  where
    by : (t : Bool) → is_same n x ≡ t → stands x l ≡ (t || stands x l)
    by true e = subst (λ (w : Who). stands w l ≡ true) (same_who n x e) there
    by false e = refl

stands_marked : (mark : Mark) (n x cause : Who) (marks : Lists) → stands n marks ≡ true →
    stands x (marked_by cause mark n marks) ≡ (is_same n x || stands x marks)
stands_marked marks_of.Own n x cause marks there = stands_parked n x free_cause marks
stands_marked (marks_of.At key) n x cause marks there = by (is_same free_cause key) (is_same cause key)
  where
    by : (s t : Bool) → stands x (if s then woken n marks else (if t then marks else parked n key marks)) ≡ (is_same n x || stands x marks)
    by true t = stands_woken n x marks
    by false true = stands_anyway n x marks there
    by false false = stands_parked n x key marks
stands_marked marks_of.Loud n x cause marks there = stands_parked n x loud_cause marks
stands_marked marks_of.Any n x cause marks there = stands_woken n x marks

-- and where the marks stay as they are
pub sound_risen : (n : Who) (waits marks : Lists) → stands n waits ≡ true → IsSound waits marks → IsSound (woken n waits) marks
sound_risen n waits marks there sound = record { both = λ x. sound.both x ∙ stands_anyway n x waits there ∙ sym (stands_woken n x waits) }

pub sound_parked : (mark : Mark) (n cause : Who) (waits marks : Lists) → stands n waits ≡ true → IsSound waits marks →
    IsSound (parked n cause waits) (marked_by cause mark n marks)
sound_parked mark n cause waits marks there sound = record {
  both = λ x. stands_marked mark n x cause marks (sound.both n ∙ there) ∙ ap (λ (t : Bool). is_same n x || t) (sound.both x)
      ∙ sym (stands_parked n x cause waits);
}

pub sound_left : (n : Who) (waits marks : Lists) → IsSound waits marks → IsSound (left n waits) (left n marks)
sound_left n waits marks sound = record {
  both = λ x. stands_left n x marks ∙ ap (λ (t : Bool). if is_same n x then false else t) (sound.both x) ∙ sym (stands_left n x waits);
}

-- by what each call makes of them
pub sound_by : (waits marks now then_marks : Lists) → now ≡ waits → then_marks ≡ marks → IsSound waits marks → IsSound now then_marks
sound_by waits marks now then_marks first second sound = subst (λ (l : Lists). IsSound l then_marks) (sym first) (subst (IsSound waits) (sym second) sound)

-- of nobody
pub sound_none : IsSound (record { ready = []; queued = []; spare = 0 }) (record { ready = []; queued = []; spare = 0 })
sound_none = record { both = λ x. refl }

-- with more room
pub sound_wider : (waits marks now wide : Lists) → now.ready ≡ waits.ready → now.queued ≡ waits.queued → wide.ready ≡ marks.ready →
    wide.queued ≡ marks.queued → IsSound waits marks → IsSound now wide
sound_wider waits marks now wide a b c d sound = record {
  both = λ x. (λ i. is_in x (c i) || is_queued x (d i)) ∙ sound.both x ∙ (λ i. is_in x (sym a i) || is_queued x (sym b i));
}

-- where who stands is the same
pub sound_stays : (waits marks now : Lists) → IsSound waits marks → ((x : Who) → stands x now ≡ stands x waits) → IsSound now marks
sound_stays waits marks now sound stays = record { both = λ x. sound.both x ∙ sym (stays x) }

-- who stands takes no room
pub room_woken : (n : Who) (l now : Lists) → stands n l ≡ true → now ≡ woken n l → now.spare ≡ l.spare
room_woken n l now there is = ap (λ (a : Lists). a.spare) is ∙ ap (λ (t : Bool). if t then l.spare else l.spare - 1) there

pub room_parked : (n cause : Who) (l now : Lists) → stands n l ≡ true → now ≡ parked n cause l → now.spare ≡ l.spare
room_parked n cause l now there is = ap (λ (a : Lists). a.spare) is ∙ ap (λ (t : Bool). if t then l.spare else l.spare - 1) there

-- who goes leaves room
pub room_left : (n : Who) (l now : Lists) → stands n l ≡ true → now ≡ left n l → 1 ≤ now.spare
room_left n l now there is =
    let more : now.spare ≡ l.spare + 1 = ap (λ (a : Lists). a.spare) is ∙ ap (λ (t : Bool). if t then l.spare + 1 else l.spare) there in
    omega (arith, more)

-- ---- who is first

pub front_first : (who : Who) (l : List Who) → is_front who l ≡ true → Some who ≡ first_ready l
front_first who [] is = absurd (cc)
front_first who (x ∷ l) is = ap (λ (w : Who). Some w) (sym (same_who x who is))

pub sound_turned : (n : Who) (waits marks : Lists) → IsSound waits marks → stands n waits ≡ true → IsSound (woken n waits) marks
sound_turned n waits marks sound there = record { both = λ x. sound.both x ∙ sym (stands_woken n x waits ∙ by x (is_same n x) refl) }
  where
    by : (x : Who) (t : Bool) → is_same n x ≡ t → (t || stands x waits) ≡ stands x waits
    by x true e = sym (subst (λ (w : Who). stands w waits ≡ true) (same_who n x e) there)
    by x false e = refl

-- ---- who is ready last is woken

pub back_turned : (who : Who) (waits : Lists) (b : Bool) → StandOnce waits → OnTrue b (IsLast who waits.ready) → OnTrue b (waits ≡ woken who waits)
back_turned who waits true once is = sym (last_woken who waits once is)
back_turned who waits false once is = tt

pub back_stands : (who : Who) (waits : Lists) (b : Bool) → OnTrue b (IsLast who waits.ready) → OnTrue b (stands who waits ≡ true)
back_stands who waits true is = last_stands who waits is
back_stands who waits false is = tt

pub on_true : {P : Type 0} (b : Bool) → P → OnTrue b P
on_true true p = p
on_true false p = tt

pub both_room : (P Q : Type 0) (b : Bool) → P → OnTrue b Q → OnTrue b (P × Q)
both_room P Q true p q = (p, q)
both_room P Q false p q = tt

pub either_full : (P Q : Type 0) (b : Bool) → OnFalse b Q → OnFalse b (P ⊎ Q)
either_full P Q true q = tt
either_full P Q false q = inr q

pub on_false : (P Q : Type 0) (b : Bool) → OnFalse b Q → OnFalse b (P → Q)
on_false P Q true q = tt
on_false P Q false q = λ p. q
