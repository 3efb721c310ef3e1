-- Listed: the two lists, as those that stand give them.
use Rattle.std.proofs.Common.{◌≡◌, ◌≤◌, ◌<◌, ◌^◌, ◌+◌, ◌-◌, ◌||◌, ℕ, suc, Bool, true, false, List, [], ◌∷◌, ◌++◌, length, length-append, map, Option}
use Rattle.std.proofs.Common.{Some, None}
use Rattle.std.proofs.Common.{is_some, if◌then◌else◌, refl, sym, ap, subst, ◌∙◌, arith}
use Rattle.std.proofs.lemmas.Bool.{or_left, or_parts}
use Rattle.fk_model.specs.declared.names.Who.{Who}
use Rattle.fk_waits.specs.Causes.Names.{is_same}
use Rattle.fk_waits.specs.Waits.Lists.{first_queued, first_ready, is_cause, is_in, is_queued, left, Lists, new_name, passed, renamed, room_with, settled}
use Rattle.fk_waits.specs.Waits.Lists.{stands}
use Rattle.fk_waits.specs.Waits.Lists.{turned, without, without_queued, woken, AreOnce, StandOnce}
use Rattle.fk_waits.specs.Causes.Causes.{standings}
use Rattle.fk_waits.specs.Waits.Threads.{and_queued, are_queued, are_ready, besides, first_for, is_there, is_waited_for, is_waiting, lists_of, pair_of, pairs_of}
use Rattle.fk_waits.specs.Waits.Threads.{with_cause, with_name, AreThere, Fits, IsKept, IsNobody, IsUnused, Pairs, StandApart}
use Rattle.fk_waits.specs.declared.waits.threads.Threads.{Threads}
use Rattle.fk_waits.proofs.InCauses.Shown.{standings_are}
use Rattle.fk_waits.proofs.InWaits.Settled.{few_there, long_list}
use Rattle.fk_waits.proofs.InWaits.There.{besides_none}
use Rattle.fk_waits.proofs.InWaits.Renamed.{there_caused}
use Rattle.fk_waits.proofs.InCauses.Numbers.{clash}
use Rattle.fk_waits.proofs.InCauses.Order.{same_self}
use Rattle.fk_waits.proofs.InCauses.Order.{same_who}

-- ---- as the nodes show it

pub pairs_are : (t : Threads) (l : Pairs) → AreThere t l → pairs_of t ≡ l
pairs_are t l there =
    let long : length t.names.0 ≡ length there.list = there.many ∙ sym (long_list t l there) in
    ap (λ (n : ℕ). map pair_of (standings t.causes n)) long ∙ ap (map pair_of) (standings_are t.causes t.causes.ready there.list there.standing) ∙ there.pairs

pub kept_by : (t : Threads) (l : Pairs) (queued : ℕ) → AreThere t l → queued ≡ length (are_queued l) → IsKept t queued
kept_by t l queued there count =
    let is = pairs_are t l there in
    record { there = subst (AreThere t) (sym is) there; count = count ∙ ap (λ (k : Pairs). length (are_queued k)) (sym is) }

-- ---- lists

none_more : {A : Type 0} (k : List A) → k ++ [] ≡ k
none_more [] = refl
none_more (x ∷ k) = ap (λ (m : List _). x ∷ m) (none_more k)

pub there_some : (n : Who) (l : Pairs) → is_there n l ≡ true → 1 ≤ length l
there_some n [] is_so = absurd (cc)
there_some n (x ∷ l) is_so = omega arith

there_same_as : (a b : Who) (l : Pairs) → is_same a b ≡ true → is_there a l ≡ false → is_there b l ≡ false
there_same_as a b l is_so not_so = subst (λ (w : Who). is_there w l ≡ false) (same_who a b is_so) not_so

ready_named : (from to : Who) (l : Pairs) → are_ready (map (with_name from to) (map (with_cause from to) l)) ≡ map (new_name from to) (are_ready l)
ready_named from to [] = refl
ready_named from to ((who, None) ∷ l) = ap (λ (k : List Who). new_name from to who ∷ k) (ready_named from to l)
ready_named from to ((who, Some cause) ∷ l) = by (is_same cause from) refl (ready_named from to l)
  where
    by : (t : Bool) → is_same cause from ≡ t → are_ready (map (with_name from to) (map (with_cause from to) l)) ≡ map (new_name from to) (are_ready l) →
        (if is_some (if is_same cause from then Some to else Some cause) then are_ready (map (with_name from to) (map (with_cause from to) l))
        else new_name from to who ∷ are_ready (map (with_name from to) (map (with_cause from to) l))) ≡ map (new_name from to) (are_ready l)
    by true e rest = rw e rest
    by false e rest = rw e rest

queued_named : (from to : Who) (l : Pairs) → are_queued (map (with_name from to) (map (with_cause from to) l))
    ≡ map (λ (q : Who × Who). (new_name from to q.0, new_name from to q.1)) (are_queued l)
queued_named from to [] = refl
queued_named from to ((who, None) ∷ l) = queued_named from to l
queued_named from to ((who, Some cause) ∷ l) = by (is_same cause from) refl (queued_named from to l)
  where
    by : (t : Bool) → is_same cause from ≡ t → are_queued (map (with_name from to) (map (with_cause from to) l))
        ≡ map (λ (q : Who × Who). (new_name from to q.0, new_name from to q.1)) (are_queued l) →
        and_queued (new_name from to who) (if is_same cause from then Some to else Some cause)
        (are_queued (map (with_name from to) (map (with_cause from to) l)))
        ≡ (if is_same cause from then to else cause, new_name from to who)
        ∷ map (λ (q : Who × Who). (new_name from to q.0, new_name from to q.1)) (are_queued l)
    by true e rest = rw e (ap (λ (k : List (Who × Who)). (to, new_name from to who) ∷ k) rest)
    by false e rest = rw e (ap (λ (k : List (Who × Who)). (cause, new_name from to who) ∷ k) rest)

long_named : (from to : Who) (l : Pairs) → length (map (with_name from to) (map (with_cause from to) l)) ≡ length l
long_named from to [] = refl
long_named from to (x ∷ l) = ap (λ (n : ℕ). suc n) (long_named from to l)

-- ---- who is in the lists

-- those that stand are in one list or the other
pub stands_there : (n : Who) (l : Pairs) → (is_in n (are_ready l) || is_queued n (are_queued l)) ≡ is_there n l
stands_there n [] = refl
stands_there n ((who, None) ∷ l) = or_before (is_same who n) (is_in n (are_ready l)) (is_queued n (are_queued l))
    ∙ ap (λ (t : Bool). is_same who n || t) (stands_there n l)
  where
    or_before : (a b c : Bool) → ((a || b) || c) ≡ (a || (b || c))
    or_before true b c = refl
    or_before false b c = refl
stands_there n ((who, Some cause) ∷ l) = or_between (is_in n (are_ready l)) (is_same who n) (is_queued n (are_queued l))
    ∙ ap (λ (t : Bool). is_same who n || t) (stands_there n l)
  where
    or_between : (a b c : Bool) → (a || (b || c)) ≡ (b || (a || c))
    or_between true true c = refl
    or_between true false c = refl
    or_between false true c = refl
    or_between false false c = refl

pub ready_besides : (n : Who) (l : Pairs) → are_ready (besides n l) ≡ without n (are_ready l)
ready_besides n [] = refl
ready_besides n ((who, None) ∷ l) = by (is_same who n) refl (ready_besides n l)
  where
    by : (t : Bool) → is_same who n ≡ t → are_ready (besides n l) ≡ without n (are_ready l) →
        are_ready (if is_same who n then besides n l else (who, None) ∷ besides n l)
        ≡ (if is_same who n then without n (are_ready l) else who ∷ without n (are_ready l))
    by true e rest = rw e rest
    by false e rest = rw e (ap (λ (k : List Who). who ∷ k) rest)
ready_besides n ((who, Some cause) ∷ l) = by (is_same who n) refl (ready_besides n l)
  where
    by : (t : Bool) → is_same who n ≡ t → are_ready (besides n l) ≡ without n (are_ready l) →
        are_ready (if is_same who n then besides n l else (who, Some cause) ∷ besides n l) ≡ without n (are_ready l)
    by true e rest = rw e rest
    by false e rest = rw e rest

pub queued_besides : (n : Who) (l : Pairs) → are_queued (besides n l) ≡ without_queued n (are_queued l)
queued_besides n [] = refl
queued_besides n ((who, None) ∷ l) = by (is_same who n) refl (queued_besides n l)
  where
    by : (t : Bool) → is_same who n ≡ t → are_queued (besides n l) ≡ without_queued n (are_queued l) →
        are_queued (if is_same who n then besides n l else (who, None) ∷ besides n l) ≡ without_queued n (are_queued l)
    by true e rest = rw e rest
    by false e rest = rw e rest
queued_besides n ((who, Some cause) ∷ l) = by (is_same who n) refl (queued_besides n l)
  where
    by : (t : Bool) → is_same who n ≡ t → are_queued (besides n l) ≡ without_queued n (are_queued l) →
        are_queued (if is_same who n then besides n l else (who, Some cause) ∷ besides n l)
        ≡ (if is_same who n then without_queued n (are_queued l) else (cause, who) ∷ without_queued n (are_queued l))
    by true e rest = rw e rest
    by false e rest = rw e (ap (λ (k : List (Who × Who)). (cause, who) ∷ k) rest)

ready_last : (n : Who) (cause : Option Who) (l : Pairs) → are_ready (l ++ (n, cause) ∷ []) ≡ are_ready l ++ are_ready ((n, cause) ∷ [])
ready_last n cause [] = refl
ready_last n cause ((who, None) ∷ l) = ap (λ (k : List Who). who ∷ k) (ready_last n cause l)
ready_last n cause ((who, Some other) ∷ l) = ready_last n cause l

queued_last : (n : Who) (cause : Option Who) (l : Pairs) → are_queued (l ++ (n, cause) ∷ []) ≡ are_queued l ++ are_queued ((n, cause) ∷ [])
queued_last n cause [] = refl
queued_last n cause ((who, None) ∷ l) = queued_last n cause l
queued_last n cause ((who, Some other) ∷ l) = ap (λ (k : List (Who × Who)). (other, who) ∷ k) (queued_last n cause l)

-- ---- how many

pub queued_few : (l : Pairs) → length (are_queued l) ≤ length l
queued_few [] = omega arith
queued_few ((who, None) ∷ l) = let rest = queued_few l in omega (arith, rest)
queued_few ((who, Some cause) ∷ l) = let rest = queued_few l in omega (arith, rest)

pub waiting_some : (n : Who) (l : Pairs) → is_waiting n l ≡ true → 1 ≤ length (are_queued l)
waiting_some n [] is_so = absurd (cc)
waiting_some n ((who, None) ∷ l) is_so = by (is_same who n) refl is_so (λ rest. waiting_some n l rest)
  where
    by : (t : Bool) → is_same who n ≡ t → (if is_same who n then false else is_waiting n l) ≡ true →
        (is_waiting n l ≡ true → 1 ≤ length (are_queued l)) → 1 ≤ length (are_queued l)
    by true e is more = let not_so = rw e at is in absurd (cc)
    by false e is more = more (rw e at is)
waiting_some n ((who, Some cause) ∷ l) is_so = omega arith

besides_long : (n : Who) (l : Pairs) → StandApart l → length (besides n l) ≡ (if is_there n l then length l - 1 else length l)
besides_long n [] apart = refl
besides_long n (x ∷ l) apart = by (is_same x.0 n) refl (is_there n l) refl (besides_long n l apart.1)
  where
    by : (t : Bool) → is_same x.0 n ≡ t → (s : Bool) → is_there n l ≡ s → length (besides n l) ≡ (if is_there n l then length l - 1 else length l) →
        length (if is_same x.0 n then besides n l else x ∷ besides n l) ≡ (if is_same x.0 n || is_there n l then length (x ∷ l) - 1 else length (x ∷ l))
    by true e s f rest = let long = ap (λ (k : Pairs). length k) (besides_none n l (there_same_as x.0 n l e apart.0)) in rw e (omega (arith, long))
    by false e true f rest = let some = there_some n l f in let long : length (besides n l)
        ≡ length l - 1 = rw f at rest in rw (e, f) (omega (arith, long, some))
    by false e false f rest = let long : length (besides n l) ≡ length l = rw f at rest in rw (e, f) (omega (arith, long))

pub queued_fewer : (n : Who) (l : Pairs) → StandApart l →
    length (are_queued (besides n l)) ≡ (if is_waiting n l then length (are_queued l) - 1 else length (are_queued l))
queued_fewer n [] apart = refl
queued_fewer n ((who, None) ∷ l) apart = by (is_same who n) refl (queued_fewer n l apart.1)
  where
    by : (t : Bool) → is_same who n ≡ t →
        length (are_queued (besides n l)) ≡ (if is_waiting n l then length (are_queued l) - 1 else length (are_queued l)) →
        length (are_queued (if is_same who n then besides n l else (who, None) ∷ besides n l))
        ≡ (if (if is_same who n then false else is_waiting n l) then length (are_queued l) - 1 else length (are_queued l))
    by true e rest = rw e (ap (λ (k : Pairs). length (are_queued k)) (besides_none n l (there_same_as who n l e apart.0)))
    by false e rest = rw e rest
queued_fewer n ((who, Some cause) ∷ l) apart = by (is_same who n) refl (is_waiting n l) refl (queued_fewer n l apart.1)
  where
    by : (t : Bool) → is_same who n ≡ t → (s : Bool) → is_waiting n l ≡ s →
        length (are_queued (besides n l)) ≡ (if is_waiting n l then length (are_queued l) - 1 else length (are_queued l)) →
        length (are_queued (if is_same who n then besides n l else (who, Some cause) ∷ besides n l))
        ≡ (if (if is_same who n then true else is_waiting n l) then length ((cause, who) ∷ are_queued l) - 1 else length ((cause, who) ∷ are_queued l))
    by true e s f rest =
        let long = ap (λ (k : Pairs). length (are_queued k)) (besides_none n l (there_same_as who n l e apart.0)) in rw e (omega (arith, long))
    by false e true f rest =
        let some = waiting_some n l f in
        let long : length (are_queued (besides n l)) ≡ length (are_queued l) - 1 = rw f at rest in rw (e, f) (omega (arith, long, some))
    by false e false f rest = let long : length (are_queued (besides n l)) ≡ length (are_queued l) = rw f at rest in rw (e, f) (omega (arith, long))

-- ---- what each call leaves

module _ (t u : Threads) (l : Pairs) (before : AreThere t l) (seats : u.causes.seats ≡ t.causes.seats) where
  -- the room of one more, where it stood nowhere
  pub settled_lists : (n : Who) (cause : Option Who) → AreThere u (besides n l ++ (n, cause) ∷ []) → lists_of u ≡ settled n cause (lists_of t)
  settled_lists n cause there =
      let now = pairs_are u (besides n l ++ (n, cause) ∷ []) there in
      let was = pairs_are t l before in
      by cause now was
    where
      room : u.causes.seats - length u.names.0 ≡ room_with n (lists_of t)
      room =
          let was = pairs_are t l before in
          let long = besides_long n l before.apart in
          let last = length-append (besides n l) ((n, cause) ∷ []) in
          let mine = ap (λ (k : Pairs). is_in n (are_ready k) || is_queued n (are_queued k)) was ∙ stands_there n l in
          tell (is_there n l) refl long last mine
        where
          tell : (s : Bool) → is_there n l ≡ s → length (besides n l) ≡ (if is_there n l then length l - 1 else length l) →
              length (besides n l ++ (n, cause) ∷ []) ≡ length (besides n l) + 1 → stands n (lists_of t) ≡ is_there n l →
              u.causes.seats - length u.names.0 ≡ (if stands n (lists_of t) then t.causes.seats - length t.names.0 else t.causes.seats - length t.names.0 - 1)
          tell true e long last mine =
              let some = there_some n l e in
              let is : length (besides n l) ≡ length l - 1 = rw e at long in
              rw (mine ∙ e) (omega (arith, seats, there.many, before.many, last, is, some))
          tell false e long last mine =
              let is : length (besides n l) ≡ length l = rw e at long in
              rw (mine ∙ e) (omega (arith, seats, there.many, before.many, last, is))

      by : (cause : Option Who) → pairs_of u ≡ besides n l ++ (n, cause) ∷ [] → pairs_of t ≡ l → lists_of u ≡ settled n cause (lists_of t)
      by None now was =
          let ready : are_ready (pairs_of u) ≡ without n (are_ready (pairs_of t)) ++ n ∷ [] =
          ap are_ready now ∙ ready_last n None (besides n l) ∙ ap (λ (k : List Who). k ++ n ∷ []) (ready_besides n l)
          ∙ ap (λ (k : Pairs). without n (are_ready k) ++ n ∷ []) (sym was) in
          let queued : are_queued (pairs_of u) ≡ without_queued n (are_queued (pairs_of t)) =
          ap are_queued now ∙ queued_last n None (besides n l) ∙ none_more (are_queued (besides n l)) ∙ queued_besides n l
          ∙ ap (λ (k : Pairs). without_queued n (are_queued k)) (sym was) in
          λ i. record { ready = ready i; queued = queued i; spare = room i }
      by (Some other) now was =
          let ready : are_ready (pairs_of u) ≡ without n (are_ready (pairs_of t)) =
          ap are_ready now ∙ ready_last n (Some other) (besides n l) ∙ none_more (are_ready (besides n l)) ∙ ready_besides n l
          ∙ ap (λ (k : Pairs). without n (are_ready k)) (sym was) in
          let queued : are_queued (pairs_of u) ≡ without_queued n (are_queued (pairs_of t)) ++ (other, n) ∷ [] =
          ap are_queued now ∙ queued_last n (Some other) (besides n l) ∙ ap (λ (k : List (Who × Who)). k ++ (other, n) ∷ []) (queued_besides n l)
          ∙ ap (λ (k : Pairs). without_queued n (are_queued k) ++ (other, n) ∷ []) (sym was) in
          λ i. record { ready = ready i; queued = queued i; spare = room i }

  pub left_lists : (n : Who) → AreThere u (besides n l) → lists_of u ≡ left n (lists_of t)
  left_lists n there =
      let now = pairs_are u (besides n l) there in
      let was = pairs_are t l before in
      let ready : are_ready (pairs_of u) ≡ without n (are_ready (pairs_of t)) =
      ap are_ready now ∙ ready_besides n l ∙ ap (λ (k : Pairs). without n (are_ready k)) (sym was) in
      let queued : are_queued (pairs_of u) ≡ without_queued n (are_queued (pairs_of t)) =
      ap are_queued now ∙ queued_besides n l ∙ ap (λ (k : Pairs). without_queued n (are_queued k)) (sym was) in
      λ i. record { ready = ready i; queued = queued i; spare = room i }
    where
      room : u.causes.seats - length u.names.0 ≡ (if stands n (lists_of t) then t.causes.seats - length t.names.0 + 1 else t.causes.seats - length t.names.0)
      room =
          let was = pairs_are t l before in
          let long = besides_long n l before.apart in
          let mine = ap (λ (k : Pairs). is_in n (are_ready k) || is_queued n (are_queued k)) was ∙ stands_there n l in
          tell (is_there n l) refl long mine
        where
          tell : (s : Bool) → is_there n l ≡ s → length (besides n l) ≡ (if is_there n l then length l - 1 else length l) →
              stands n (lists_of t) ≡ is_there n l →
              u.causes.seats - length u.names.0 ≡ (if stands n (lists_of t) then t.causes.seats - length t.names.0 + 1 else t.causes.seats - length t.names.0)
          tell true e long mine =
              let some = there_some n l e in
              let few = (few_there t l before).1 in
              let is : length (besides n l) ≡ length l - 1 = rw e at long in
              rw (mine ∙ e) (omega (arith, seats, there.many, before.many, is, some, few))
          tell false e long mine =
              let is : length (besides n l) ≡ length l = rw e at long in
              rw (mine ∙ e) (omega (arith, seats, there.many, before.many, is))

  pub renamed_lists : (from to : Who) → AreThere u (map (with_name from to) (map (with_cause from to) l)) → lists_of u ≡ renamed from to (lists_of t)
  renamed_lists from to there =
      let now = pairs_are u (map (with_name from to) (map (with_cause from to) l)) there in
      let was = pairs_are t l before in
      let ready = ap are_ready now ∙ ready_named from to l ∙ ap (λ (k : Pairs). map (new_name from to) (are_ready k)) (sym was) in
      let queued = ap are_queued now ∙ queued_named from to l
      ∙ ap (λ (k : Pairs). map (λ (q : Who × Who). (new_name from to q.0, new_name from to q.1)) (are_queued k)) (sym was) in
      let long = long_named from to l in
      let spare : u.causes.seats - length u.names.0 ≡ t.causes.seats - length t.names.0 = omega (arith, seats, there.many, before.many, long) in
      λ i. record { ready = ready i; queued = queued i; spare = spare i }

-- ---- what is told

pub first_is_ready : (l : Pairs) → first_for None l ≡ first_ready (are_ready l)
first_is_ready [] = refl
first_is_ready ((who, None) ∷ l) = refl
first_is_ready ((who, Some cause) ∷ l) = first_is_ready l

pub first_is_queued : (cause : Who) (l : Pairs) → first_for (Some cause) l ≡ first_queued cause (are_queued l)
first_is_queued cause [] = refl
first_is_queued cause ((who, None) ∷ l) = first_is_queued cause l
first_is_queued cause ((who, Some other) ∷ l) = ap (λ (o : Option Who). if is_same other cause then Some who else o) (first_is_queued cause l)

pub waited_is_cause : (cause : Who) (l : Pairs) → is_waited_for cause l ≡ is_cause cause (are_queued l)
waited_is_cause cause [] = refl
waited_is_cause cause ((who, None) ∷ l) = waited_is_cause cause l
waited_is_cause cause ((who, Some other) ∷ l) = ap (λ (t : Bool). is_same other cause || t) (waited_is_cause cause l)

-- ---- each stands once

off_ready : (n : Who) (l : Pairs) → is_there n l ≡ false → is_in n (are_ready l) ≡ false
off_ready n l not_so = (or_parts (is_in n (are_ready l)) (is_queued n (are_queued l)) (stands_there n l ∙ not_so)).0

off_queued : (n : Who) (l : Pairs) → is_there n l ≡ false → is_queued n (are_queued l) ≡ false
off_queued n l not_so = (or_parts (is_in n (are_ready l)) (is_queued n (are_queued l)) (stands_there n l ∙ not_so)).1

threads_in : (n : Who) (l : List (Who × Who)) → is_in n (map (λ (q : Who × Who). q.1) l) ≡ is_queued n l
threads_in n [] = refl
threads_in n (q ∷ l) = ap (λ (t : Bool). is_same q.1 n || t) (threads_in n l)

once_ready : (l : Pairs) → StandApart l → AreOnce (are_ready l)
once_ready [] apart = tt
once_ready ((who, None) ∷ l) apart = (off_ready who l apart.0, once_ready l apart.1)
once_ready ((who, Some cause) ∷ l) apart = once_ready l apart.1

once_queued : (l : Pairs) → StandApart l → AreOnce (map (λ (q : Who × Who). q.1) (are_queued l))
once_queued [] apart = tt
once_queued ((who, None) ∷ l) apart = once_queued l apart.1
once_queued ((who, Some cause) ∷ l) apart = (threads_in who (are_queued l) ∙ off_queued who l apart.0, once_queued l apart.1)

once_apart : (n : Who) (l : Pairs) → StandApart l → is_in n (are_ready l) ≡ true → is_queued n (are_queued l) ≡ false
once_apart n [] apart is_so = refl
once_apart n ((who, None) ∷ l) apart is_so = by (is_same who n) refl is_so (λ rest. once_apart n l apart.1 rest)
  where
    by : (t : Bool) → is_same who n ≡ t → (is_same who n || is_in n (are_ready l)) ≡ true →
        (is_in n (are_ready l) ≡ true → is_queued n (are_queued l) ≡ false) → is_queued n (are_queued l) ≡ false
    by true e is more = off_queued n l (there_same_as who n l e apart.0)
    by false e is more = more (rw e at is)
once_apart n ((who, Some cause) ∷ l) apart is_so = by (is_same who n) refl (once_apart n l apart.1 is_so)
  where
    by : (t : Bool) → is_same who n ≡ t → is_queued n (are_queued l) ≡ false → (is_same who n || is_queued n (are_queued l)) ≡ false
    by true e rest = let not_so = off_ready n l (there_same_as who n l e apart.0) in clash (is_in n (are_ready l)) is_so not_so
    by false e rest = rw e rest

pub stand_once : (t : Threads) (l : Pairs) → AreThere t l → StandOnce (lists_of t)
stand_once t l there =
    subst (λ (k : Pairs). StandOnce (record { ready = are_ready k; queued = are_queued k; spare = t.causes.seats - length t.names.0 }))
    (sym (pairs_are t l there))
    (record { ready = once_ready l there.apart; queued = once_queued l there.apart; apart = λ n is_so. once_apart n l there.apart is_so })

-- ---- the front goes last

pub without_none : (n : Who) (l : List Who) → is_in n l ≡ false → without n l ≡ l
without_none n [] not_so = refl
without_none n (x ∷ l) not_so = let both = or_parts (is_same x n) (is_in n l) not_so in rw both.0 (ap (λ (k : List Who). x ∷ k) (without_none n l both.1))

pub without_none_queued : (n : Who) (l : List (Who × Who)) → is_queued n l ≡ false → without_queued n l ≡ l
without_none_queued n [] not_so = refl
without_none_queued n (q ∷ l) not_so =
    let both = or_parts (is_same q.1 n) (is_queued n l) not_so in rw both.0 (ap (λ (k : List (Who × Who)). q ∷ k) (without_none_queued n l both.1))

pub front_stands : (n : Who) (lists : Lists) → Some n ≡ first_ready lists.ready → stands n lists ≡ true
front_stands n lists first = or_left (is_in n lists.ready) (is_queued n lists.queued) (by lists.ready first)
  where
    by : (l : List Who) → Some n ≡ first_ready l → is_in n l ≡ true
    by [] is = absurd (cc)
    by (x ∷ l) is = or_left (is_same x n) (is_in n l) (subst (λ (w : Who). is_same w n ≡ true) (who_same n x is) (same_self n))
      where
        who_or : Who → Option Who → Who
        who_or d None = d
        who_or d (Some w) = w

        who_same : (a b : Who) → Some a ≡ Some b → a ≡ b
        who_same a b e = ap (who_or a) e

pub front_passes : (n : Who) (lists : Lists) → StandOnce lists → Some n ≡ first_ready lists.ready → woken n lists ≡ passed lists
front_passes n lists once first =
    let is_so = front_stands n lists first in
    let room : room_with n lists ≡ lists.spare = rw is_so refl in
    let mine = front_in lists.ready first in
    let queued = without_none_queued n lists.queued (once.apart n mine) in
    λ i. record { ready = goes lists.ready once.ready first i; queued = queued i; spare = room i }
  where
    who_or : Who → Option Who → Who
    who_or d None = d
    who_or d (Some w) = w

    front_in : (l : List Who) → Some n ≡ first_ready l → is_in n l ≡ true
    front_in [] is = absurd (cc)
    front_in (x ∷ l) is = or_left (is_same x n) (is_in n l) (subst (λ (w : Who). is_same w n ≡ true) (ap (who_or n) is) (same_self n))

    goes : (l : List Who) → AreOnce l → Some n ≡ first_ready l → without n l ++ n ∷ [] ≡ turned l
    goes [] apart is = absurd (cc)
    goes (x ∷ l) apart is =
        let same : n ≡ x = ap (who_or n) is in
        let is_so : is_same x n ≡ true = subst (λ (w : Who). is_same w n ≡ true) same (same_self n) in
        let none : is_in n l ≡ false = subst (λ (w : Who). is_in w l ≡ false) (sym same) apart.0 in
        rw is_so (ap (λ (k : List Who). k ++ n ∷ []) (without_none n l none) ∙ ap (λ (w : Who). l ++ w ∷ []) same)

pub none_passes : (lists : Lists) → None ≡ first_ready lists.ready → lists ≡ passed lists
none_passes lists none = λ i. record { ready = by lists.ready none i; queued = lists.queued; spare = lists.spare }
  where
    by : (l : List Who) → None ≡ first_ready l → l ≡ turned l
    by [] is = refl
    by (x ∷ l) is = absurd (cc)

pub stood : (n : Who) (lists : Lists) → stands n lists ≡ true → stands n lists ≡ false → 1 ≤ lists.spare
stood n lists is_so not_so = clash (stands n lists) is_so not_so

-- ---- what the calls need, and keep

pub fits : (t : Threads) (n : Who) (lists : Lists) → AreThere t (pairs_of t) → lists_of t ≡ lists → (stands n lists ≡ false → 1 ≤ lists.spare) → Fits t n
fits t n lists there view room = record {
  list = pairs_of t;
  there = there;
  seat = λ off.
      let not_so : stands n lists ≡ false = sym (ap (stands n) view) ∙ stands_there n (pairs_of t) ∙ off in
      let spare = room not_so in
      let is : lists.spare ≡ t.causes.seats - length t.names.0 = ap (λ (x : Lists). x.spare) (sym view) in
      omega (arith, spare, is, there.many);
}

pub queued_least : (t : Threads) (n : Who) (told : Bool) {queued : ℕ} → AreThere t (pairs_of t) → told ≡ is_waiting n (pairs_of t) →
    queued ≡ length (are_queued (pairs_of t)) → told ≡ true → 1 ≤ queued
queued_least t n told there is count is_so = let some = waiting_some n (pairs_of t) (sym is ∙ is_so) in omega (arith, some, count)

pub queued_most : (t : Threads) {queued : ℕ} → AreThere t (pairs_of t) → queued ≡ length (are_queued (pairs_of t)) → queued < 2 ^ 62
queued_most t there count =
    let few = queued_few (pairs_of t) in
    let all = few_there t (pairs_of t) there in
    omega (arith, few, all.1, count, there.bound)

pub kept_settled : (t u : Threads) (n : Who) (cause : Option Who) {queued : ℕ} → AreThere t (pairs_of t) →
    AreThere u (besides n (pairs_of t) ++ (n, cause) ∷ []) →
    queued ≡ length (are_queued (besides n (pairs_of t) ++ (n, cause) ∷ [])) → IsKept u queued
kept_settled t u n cause {queued} there now count = kept_by u (besides n (pairs_of t) ++ (n, cause) ∷ []) queued now count

pub count_settled : (t : Threads) (n : Who) (cause : Option Who) {queued now : ℕ} {was is : Bool} → AreThere t (pairs_of t) →
    queued ≡ length (are_queued (pairs_of t)) → was ≡ is_waiting n (pairs_of t) → is ≡ is_some cause →
    now ≡ (if was then queued - 1 else queued) + (if is then 1 else 0) → now ≡ length (are_queued (besides n (pairs_of t) ++ (n, cause) ∷ []))
count_settled t n cause {queued} {now} {was} {is} there count told some result =
    let l = pairs_of t in
    let fewer = queued_fewer n l there.apart in
    let last = queued_last n cause (besides n l) in
    let split = length-append (are_queued (besides n l)) (are_queued ((n, cause) ∷ [])) in
    let long : length (are_queued (besides n l ++ (n, cause) ∷ [])) ≡ length (are_queued (besides n l)) + length (are_queued ((n, cause) ∷ [])) =
    ap (λ (k : List (Who × Who)). length k) last ∙ split in
    let before : (if was then queued - 1 else queued) ≡ length (are_queued (besides n l)) =
    (λ i. if told i then count i - 1 else count i) ∙ sym fewer in
    let one = by cause is some in
    omega (arith, result, before, one, long)
  where
    by : (o : Option Who) (b : Bool) → b ≡ is_some o → (if b then 1 else 0) ≡ length (are_queued ((n, o) ∷ []))
    by None b e = rw e refl
    by (Some w) b e = rw e refl

pub count_left : (t : Threads) (n : Who) {queued now : ℕ} {was : Bool} → AreThere t (pairs_of t) →
    queued ≡ length (are_queued (pairs_of t)) → was ≡ is_waiting n (pairs_of t) →
    now ≡ (if was then queued - 1 else queued) + 0 → now ≡ length (are_queued (besides n (pairs_of t)))
count_left t n {queued} {now} {was} there count told result =
    let l = pairs_of t in
    let fewer = queued_fewer n l there.apart in
    let before : (if was then queued - 1 else queued) ≡ length (are_queued (besides n l)) =
    (λ i. if told i then count i - 1 else count i) ∙ sym fewer in
    omega (arith, result, before)

pub is_unused : (t : Threads) (to : Who) (lists : Lists) → AreThere t (pairs_of t) → lists_of t ≡ lists → is_cause to lists.queued ≡ false → IsUnused t to
is_unused t to lists there view not_so = record {
  list = pairs_of t;
  there = there;
  none = waited_is_cause to (pairs_of t) ∙ ap (λ (x : Lists). is_cause to x.queued) view ∙ not_so;
}

pub is_nobody : (t u : Threads) (from to : Who) (lists : Lists) → AreThere t (pairs_of t) → lists_of t ≡ lists →
    AreThere u (map (with_cause from to) (pairs_of t)) → stands to lists ≡ false → IsNobody u to
is_nobody t u from to lists there view now not_so = record {
  list = map (with_cause from to) (pairs_of t);
  there = now;
  none = there_caused from to to (pairs_of t) ∙ sym (stands_there to (pairs_of t)) ∙ ap (stands to) view ∙ not_so;
}

pub kept_renamed : (t u : Threads) (from to : Who) (queued : ℕ) → queued ≡ length (are_queued (pairs_of t)) →
    AreThere u (map (with_name from to) (map (with_cause from to) (pairs_of t))) → IsKept u queued
kept_renamed t u from to queued count there =
    let l = pairs_of t in
    kept_by u (map (with_name from to) (map (with_cause from to) l)) queued there
    (count ∙ sym (ap (λ (k : List (Who × Who)). length k) (queued_named from to l) ∙ long_queued (are_queued l)))
  where
    long_queued : (k : List (Who × Who)) → length {A = Who × Who} (map (λ (q : Who × Who). (new_name from to q.0, new_name from to q.1)) k) ≡ length k
    long_queued [] = refl
    long_queued (q ∷ k) = ap (λ (n : ℕ). suc n) (long_queued k)

-- ---- nobody yet

pub kept_none : (t : Threads) → AreThere t [] → IsKept t 0
kept_none t there = kept_by t [] 0 there refl

pub none_lists : (t : Threads) → AreThere t [] → t.causes.seats ≡ 0 → lists_of t ≡ record { ready = []; queued = []; spare = 0 }
none_lists t there seats =
    let now = pairs_are t [] there in
    let spare : t.causes.seats - length t.names.0 ≡ 0 = omega (arith, seats) in
    λ i. record { ready = are_ready (now i); queued = are_queued (now i); spare = spare i }

-- ---- more room

pub more_lists : (t u : Threads) → AreThere t (pairs_of t) → AreThere u (pairs_of t) →
    (are_ready (pairs_of u) ≡ are_ready (pairs_of t)) × (are_queued (pairs_of u) ≡ are_queued (pairs_of t))
more_lists t u there now = let is = pairs_are u (pairs_of t) now in (ap are_ready is, ap are_queued is)
