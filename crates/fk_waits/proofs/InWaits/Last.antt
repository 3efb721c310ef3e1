-- Last: who was put last of all stands last until it goes or another comes.
use Rattle.std.proofs.Common.{◌≡◌, ◌≢◌, ◌≤◌, ◌<◌, ◌-◌, ℕ, not, nat_lt, length, arith, ◌||◌, ◌&&◌, Bool, true, false, List, [], ◌∷◌, ◌++◌, map, Option}
use Rattle.std.proofs.Common.{Some, None, IfSome, if◌then◌else◌, refl, sym, ap, subst, ◌∙◌}
use Rattle.std.proofs.lemmas.Bool.{ltb-false, or_left, or_right}
use Rattle.std.proofs.lemmas.Bool.Decides.{Decides-ltb}
use Rattle.std.specs.Bool.{OnTrue, OnFalse}
use Rattle.fk_model.specs.declared.names.Who.{Who}
use Rattle.fk_waits.specs.Causes.Names.{is_same}
use Rattle.fk_waits.proofs.InCauses.Order.{same_who}
use Rattle.fk_waits.specs.Causes.Causes.{is_same_cause}
use Rattle.fk_waits.proofs.InCauses.Numbers.{clash}
use Rattle.fk_waits.proofs.InCauses.Order.{same_self}
use Rattle.fk_waits.specs.Waits.Lists.{is_in, is_known, is_queued, last_without, left, parked, room_with, settled, stands, without, without_queued, woken, AreOnce}
use Rattle.fk_waits.specs.Waits.Lists.{IsLast, IsLastAt, IsLastFor, Lists, StandOnce}
use Rattle.fk_waits.specs.Waits.Threads.{are_queued, are_ready, Pairs}
use Rattle.fk_waits.proofs.InWaits.Listed.{queued_few, without_none_queued}

-- ---- a thread goes

without_end : (thread who : Who) (front : List Who) → is_same who thread ≡ false → without thread (front ++ who ∷ []) ≡ without thread front ++ who ∷ []
without_end thread who [] other = rw other refl
without_end thread who (x ∷ front) other = by (is_same x thread) refl (without_end thread who front other)
  where
    by : (t : Bool) → is_same x thread ≡ t → without thread (front ++ who ∷ []) ≡ without thread front ++ who ∷ [] →
        (if is_same x thread then without thread (front ++ who ∷ []) else x ∷ without thread (front ++ who ∷ []))
        ≡ (if is_same x thread then without thread front else x ∷ without thread front) ++ who ∷ []
    by true e rest = rw e rest
    by false e rest = rw e (ap (λ (k : List Who). x ∷ k) rest)

without_queued_end : (thread who cause : Who) (front : List (Who × Who)) → is_same who thread ≡ false →
    without_queued thread (front ++ (cause, who) ∷ []) ≡ without_queued thread front ++ (cause, who) ∷ []
without_queued_end thread who cause [] other = rw other refl
without_queued_end thread who cause (q ∷ front) other = by (is_same q.1 thread) refl (without_queued_end thread who cause front other)
  where
    by : (t : Bool) → is_same q.1 thread ≡ t → without_queued thread (front ++ (cause, who) ∷ []) ≡ without_queued thread front ++ (cause, who) ∷ [] →
        (if is_same q.1 thread then without_queued thread (front ++ (cause, who) ∷ []) else q ∷ without_queued thread (front ++ (cause, who) ∷ []))
        ≡ (if is_same q.1 thread then without_queued thread front else q ∷ without_queued thread front) ++ (cause, who) ∷ []
    by true e rest = rw e rest
    by false e rest = rw e (ap (λ (k : List (Who × Who)). q ∷ k) rest)

other_last : (thread who : Who) (cause : Option Who) (lists : Lists) → is_same who thread ≡ false → IsLastFor who cause lists →
    IsLastFor who cause (left thread lists)
other_last thread who None lists e is = record { front = without thread is.front; is = ap (without thread) is.is ∙ without_end thread who is.front e }
other_last thread who (Some cause) lists e is =
    record { front = without_queued thread is.front; is = ap (without_queued thread) is.is ∙ without_queued_end thread who cause is.front e }

pub last_left : (thread : Who) (last cause : Option Who) (lists : Lists) → IfSome last (λ who. IsLastFor who cause lists)
    → IfSome (last_without thread last) (λ who. IsLastFor who cause (left thread lists))
last_left thread None cause lists before = tt
last_left thread (Some who) cause lists before = by (is_same who thread) refl
  where
    by : (t : Bool) → is_same who thread ≡ t
        → IfSome (if is_same who thread then None else Some who) (λ who. IsLastFor who cause (left thread lists))
    by true e = rw e tt
    by false e = rw e (other_last thread who cause lists e before)

-- ---- one is put last

pub last_settled : (thread : Who) (cause : Option Who) (lists : Lists) → IsLastFor thread cause (settled thread cause lists)
last_settled thread None lists = record { front = without thread lists.ready; is = refl }
last_settled thread (Some cause) lists = record { front = without_queued thread lists.queued; is = refl }

-- they are the same in lists that are the same
pub last_there : (last cause : Option Who) (l k : Lists) → k.ready ≡ l.ready → k.queued ≡ l.queued → IfSome last (λ who. IsLastFor who cause l)
    → IfSome last (λ who. IsLastFor who cause k)
last_there None cause l k ready queued before = tt
last_there (Some who) None l k ready queued before = record { front = before.front; is = ready ∙ before.is }
last_there (Some who) (Some cause) l k ready queued before = record { front = before.front; is = queued ∙ before.is }

-- ---- who is known

same_cause : (a b : Option Who) → is_same_cause a b ≡ true → a ≡ b
same_cause None None is = refl
same_cause (Some a) (Some b) is = ap (λ (w : Who). Some w) (same_who a b is)
same_cause None (Some b) is = absurd (cc)
same_cause (Some a) None is = absurd (cc)

pub known_last : (thread : Who) (cause last its : Option Who) (lists : Lists) → IfSome last (λ who. IsLastFor who its lists)
    → OnTrue (is_known last thread && is_same_cause its cause) (IsLastFor thread cause lists)
known_last thread cause None its lists before = tt
known_last thread cause (Some who) its lists before = by (is_same who thread) (is_same_cause its cause) refl refl
  where
    by : (t u : Bool) → is_same who thread ≡ t → is_same_cause its cause ≡ u →
        OnTrue (is_same who thread && is_same_cause its cause) (IsLastFor thread cause lists)
    by true true e f = rw (e, f) (subst (λ (o : Option Who). IsLastFor thread o lists) (same_cause its cause f)
        (subst (λ (w : Who). IsLastFor w its lists) (same_who who thread e) before))
    by true false e f = rw (e, f) tt
    by false u e f = rw e tt

-- ---- who stands last is put last

in_end : (n : Who) (front : List Who) → is_in n (front ++ n ∷ []) ≡ true
in_end n [] = or_left (is_same n n) false (same_self n)
in_end n (x ∷ front) = or_right (is_same x n) (is_in n (front ++ n ∷ [])) (in_end n front)

queued_end : (n cause : Who) (front : List (Who × Who)) → is_queued n (front ++ (cause, n) ∷ []) ≡ true
queued_end n cause [] = or_left (is_same n n) false (same_self n)
queued_end n cause (q ∷ front) = or_right (is_same q.1 n) (is_queued n (front ++ (cause, n) ∷ [])) (queued_end n cause front)

pub last_stands : (n : Who) (lists : Lists) → IsLast n lists.ready → stands n lists ≡ true
last_stands n lists is =
    or_left (is_in n lists.ready) (is_queued n lists.queued) (ap (is_in n) is.is ∙ in_end n is.front)

without_its_end : (n : Who) (front : List Who) → AreOnce (front ++ n ∷ []) → without n (front ++ n ∷ []) ≡ front
without_its_end n [] once = rw (same_self n) refl
without_its_end n (x ∷ front) once = by (is_same x n) refl (without_its_end n front once.1)
  where
    by : (t : Bool) → is_same x n ≡ t → without n (front ++ n ∷ []) ≡ front →
        (if is_same x n then without n (front ++ n ∷ []) else x ∷ without n (front ++ n ∷ [])) ≡ x ∷ front
    by true e rest =
        let there : is_in x (front ++ n ∷ []) ≡ true = subst (λ (w : Who). is_in w (front ++ n ∷ []) ≡ true) (sym (same_who x n e)) (in_end n front) in
        clash (is_in x (front ++ n ∷ [])) there once.0
    by false e rest = rw e (ap (λ (k : List Who). x ∷ k) rest)

names_in : (n : Who) (l : List (Who × Who)) → is_in n (map (λ (q : Who × Who). q.1) l) ≡ is_queued n l
names_in n [] = refl
names_in n (q ∷ l) = ap (λ (t : Bool). is_same q.1 n || t) (names_in n l)

without_its_queued : (n cause : Who) (front : List (Who × Who)) → AreOnce (map (λ (q : Who × Who). q.1) (front ++ (cause, n) ∷ [])) →
    without_queued n (front ++ (cause, n) ∷ []) ≡ front
without_its_queued n cause [] once = rw (same_self n) refl
without_its_queued n cause (q ∷ front) once = by (is_same q.1 n) refl (without_its_queued n cause front once.1)
  where
    by : (t : Bool) → is_same q.1 n ≡ t → without_queued n (front ++ (cause, n) ∷ []) ≡ front →
        (if is_same q.1 n then without_queued n (front ++ (cause, n) ∷ []) else q ∷ without_queued n (front ++ (cause, n) ∷ [])) ≡ q ∷ front
    by true e rest =
        let there : is_queued q.1 (front ++ (cause, n) ∷ []) ≡ true =
        subst (λ (w : Who). is_queued w (front ++ (cause, n) ∷ []) ≡ true) (sym (same_who q.1 n e)) (queued_end n cause front) in
        clash (is_in q.1 (map (λ (q : Who × Who). q.1) (front ++ (cause, n) ∷ []))) (names_in q.1 (front ++ (cause, n) ∷ []) ∙ there) once.0
    by false e rest = rw e (ap (λ (k : List (Who × Who)). q ∷ k) rest)

without_none : (n : Who) (l : List Who) → is_in n l ≡ false → without n l ≡ l
without_none n [] off = refl
without_none n (x ∷ l) off = by (is_same x n) refl off (without_none n l)
  where
    by : (t : Bool) → is_same x n ≡ t → (is_same x n || is_in n l) ≡ false → (is_in n l ≡ false → without n l ≡ l) →
        (if is_same x n then without n l else x ∷ without n l) ≡ x ∷ l
    by true e off rest = let never : (true || is_in n l) ≡ false = rw e at off in absurd (cc)
    by false e off rest = let later : is_in n l ≡ false = rw e at off in rw e (ap (λ (k : List Who). x ∷ k) (rest later))

pub last_woken : (n : Who) (lists : Lists) → StandOnce lists → IsLast n lists.ready → woken n lists ≡ lists
last_woken n lists once is =
    let there = last_stands n lists is in
    let room : room_with n lists ≡ lists.spare = rw there refl in
    let mine : is_in n lists.ready ≡ true = ap (is_in n) is.is ∙ in_end n is.front in
    let queued = without_none_queued n lists.queued (once.apart n mine) in
    let front : without n lists.ready ≡ is.front = ap (without n) is.is ∙ without_its_end n is.front (subst AreOnce is.is once.ready) in
    let ready : without n lists.ready ++ n ∷ [] ≡ lists.ready = ap (λ (k : List Who). k ++ n ∷ []) front ∙ sym is.is in
    λ i. record { ready = ready i; queued = queued i; spare = room i }

last_parked : (n cause : Who) (lists : Lists) → StandOnce lists → IsLastAt n cause lists.queued → parked n cause lists ≡ lists
last_parked n cause lists once is =
    let mine : is_queued n lists.queued ≡ true = ap (is_queued n) is.is ∙ queued_end n cause is.front in
    let there : stands n lists ≡ true = or_right (is_in n lists.ready) (is_queued n lists.queued) mine in
    let room : room_with n lists ≡ lists.spare = rw there refl in
    let off : is_in n lists.ready ≡ false = by (is_in n lists.ready) refl mine in
    let ready = without_none n lists.ready off in
    let front : without_queued n lists.queued ≡ is.front = ap (without_queued n) is.is
    ∙ without_its_queued n cause is.front (subst (λ (l : List (Who × Who)). AreOnce (map (λ (q : Who × Who). q.1) l)) is.is once.queued) in
    let queued : without_queued n lists.queued ++ (cause, n) ∷ [] ≡ lists.queued = ap (λ (k : List (Who × Who)). k ++ (cause, n) ∷ []) front ∙ sym is.is in
    λ i. record { ready = ready i; queued = queued i; spare = room i }
  where
    by : (t : Bool) → is_in n lists.ready ≡ t → is_queued n lists.queued ≡ true → is_in n lists.ready ≡ false
    by true e mine = clash (is_queued n lists.queued) mine (once.apart n e)
    by false e mine = e

pub last_stays : (n : Who) (cause : Option Who) (lists : Lists) → StandOnce lists → IsLastFor n cause lists → lists ≡ settled n cause lists
last_stays n None lists once is = sym (last_woken n lists once is)
last_stays n (Some cause) lists once is = sym (last_parked n cause lists once is)

-- ---- how many

pub room_left : (len seats spare : ℕ) → seats - len ≡ spare → OnTrue (nat_lt len seats) (1 ≤ spare)
room_left len seats spare at = by (nat_lt len seats) refl
  where
    by : (t : Bool) → nat_lt len seats ≡ t → OnTrue (nat_lt len seats) (1 ≤ spare)
    by true e = let less : len < seats = (Decides-ltb len seats).0 e in rw e (omega (arith, less, at))
    by false e = rw e tt

pub none_left : (len seats spare : ℕ) → seats - len ≡ spare → OnFalse (nat_lt len seats) (spare ≡ 0)
none_left len seats spare at = by (nat_lt len seats) refl
  where
    by : (t : Bool) → nat_lt len seats ≡ t → OnFalse (nat_lt len seats) (spare ≡ 0)
    by true e = rw e tt
    by false e = let most : seats ≤ len = ltb-false len seats e in rw e (omega (arith, most, at))

all_queued : (l : Pairs) → length l ≤ length (are_queued l) → are_ready l ≡ []
all_queued [] many = refl
all_queued ((who, None) ∷ l) many = let few = queued_few l in absurd (omega (arith, many, few))
all_queued ((who, Some cause) ∷ l) many = all_queued l (omega (arith, many))

pub nobody_ready : (l : Pairs) (queued len : ℕ) → len ≡ length l → queued ≡ length (are_queued l) → OnTrue (not (nat_lt queued len)) (are_ready l ≡ [])
nobody_ready l queued len many count = by (nat_lt queued len) refl
  where
    by : (t : Bool) → nat_lt queued len ≡ t → OnTrue (not (nat_lt queued len)) (are_ready l ≡ [])
    by true e = rw e tt
    by false e = let least : len ≤ queued = ltb-false queued len e in rw e (all_queued l (omega (arith, least, many, count)))

queued_all : (l : Pairs) → are_ready l ≡ [] → length l ≤ length (are_queued l)
queued_all [] none = omega (arith)
queued_all ((who, None) ∷ l) none = absurd (cc)
queued_all ((who, Some cause) ∷ l) none = let rest = queued_all l none in omega (arith, rest)

pub some_ready : (l : Pairs) (queued len : ℕ) → len ≡ length l → queued ≡ length (are_queued l) → OnFalse (not (nat_lt queued len)) (are_ready l ≢ [])
some_ready l queued len many count = by (nat_lt queued len) refl
  where
    by : (t : Bool) → nat_lt queued len ≡ t → OnFalse (not (nat_lt queued len)) (are_ready l ≢ [])
    by true e =
        let less : queued < len = (Decides-ltb queued len).0 e in
        rw e (λ none. let all = queued_all l none in absurd (omega (arith, all, less, many, count)))
    by false e = rw e tt
