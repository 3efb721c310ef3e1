-- Firsts: who is first in a queue is queued; once it is woken, one less is left there.
use Rattle.std.proofs.Common.{◌≡◌, ◌<◌, ◌||◌, Bool, true, false, List, [], ◌∷◌, length, map, Option, Some, None, if◌then◌else◌, refl, sym, ap, subst, ◌∙◌}
use Rattle.std.proofs.Common.{arith}
use Rattle.std.proofs.lemmas.Bool.{or_left, or_parts, or_right}
use Rattle.fk_model.specs.declared.names.Who.{Who}
use Rattle.fk_waits.specs.Causes.Names.{is_same}
use Rattle.fk_waits.proofs.InCauses.Order.{same_who}
use Rattle.fk_waits.specs.Waits.Lists.{first_queued, is_in, is_queued, Lists, without_queued, woken, AreOnce, StandOnce}
use Rattle.fk_waits.proofs.InCauses.Placed.{same_by}
use Rattle.fk_waits.proofs.InCauses.Numbers.{clash}
use Rattle.fk_waits.proofs.InWaits.Listed.{without_none_queued}

-- the threads that are queued at a cause, in order
abbrev pub those_at : Who → List (Who × Who) → List Who
those_at cause [] = []
those_at cause (q ∷ l) = if is_same q.0 cause then q.1 ∷ those_at cause l else those_at cause l

-- who is first at a cause is queued
pub first_stands : (cause n : Who) (l : List (Who × Who)) → Some n ≡ first_queued cause l → is_queued n l ≡ true
first_stands cause n [] first = absurd (cc)
first_stands cause n (q ∷ l) first = by (is_same q.0 cause) refl first (λ rest. first_stands cause n l rest)
  where
    who_or : Option Who → Who
    who_or None = n
    who_or (Some x) = x

    by : (t : Bool) → is_same q.0 cause ≡ t → Some n ≡ (if is_same q.0 cause then Some q.1 else first_queued cause l) →
        (Some n ≡ first_queued cause l → is_queued n l ≡ true) → (is_same q.1 n || is_queued n l) ≡ true
    by true e is more =
        let here : Some n ≡ Some q.1 = rw e at is in
        or_left (is_same q.1 n) (is_queued n l) (same_by q.1 n (sym (ap who_or here)))
    by false e is more = or_right (is_same q.1 n) (is_queued n l) (more (rw e at is))

off_queue : (n : Who) (l : List (Who × Who)) → is_in n (map (λ (q : Who × Who). q.1) l) ≡ false → is_queued n l ≡ false
off_queue n [] not_so = refl
off_queue n (q ∷ l) not_so =
    let both = or_parts (is_same q.1 n) (is_in n (map (λ (x : Who × Who). x.1) l)) not_so in rw both.0 (off_queue n l both.1)

-- those at the cause, without the first
pub first_goes : (cause n : Who) (l : List (Who × Who)) → AreOnce (map (λ (q : Who × Who). q.1) l) → Some n ≡ first_queued cause l →
    those_at cause l ≡ n ∷ those_at cause (without_queued n l)
first_goes cause n [] once first = absurd (cc)
first_goes cause n (q ∷ l) once first = by (is_same q.0 cause) refl first (λ rest. first_goes cause n l once.1 rest)
  where
    who_or : Option Who → Who
    who_or None = n
    who_or (Some x) = x

    by : (t : Bool) → is_same q.0 cause ≡ t → Some n ≡ (if is_same q.0 cause then Some q.1 else first_queued cause l) →
        (Some n ≡ first_queued cause l → those_at cause l ≡ n ∷ those_at cause (without_queued n l)) →
        those_at cause (q ∷ l) ≡ n ∷ those_at cause (without_queued n (q ∷ l))
    by true e is more =
        let here : Some n ≡ Some q.1 = rw e at is in
        let same : n ≡ q.1 = ap who_or here in
        let is_so : is_same q.1 n ≡ true = same_by q.1 n (sym same) in
        let off : is_queued n l ≡ false = subst (λ (x : Who). is_queued x l ≡ false) (sym same) (off_queue q.1 l once.0) in
        let rest : without_queued n l ≡ l = without_none_queued n l off in
        rw (e, is_so) (ap (λ (x : Who). x ∷ those_at cause l) (sym same) ∙ ap (λ (k : List (Who × Who)). n ∷ those_at cause k) (sym rest))
    by false e is more =
        let rest = more (rw e at is) in
        let there = first_stands cause n l (rw e at is) in
        let not_so : is_same q.1 n ≡ false = other (is_same q.1 n) refl there in
        rw (e, not_so, e) rest
      where
        other : (t : Bool) → is_same q.1 n ≡ t → is_queued n l ≡ true → is_same q.1 n ≡ false
        other true is_so there =
            clash (is_queued n l) there (subst (λ (x : Who). is_queued x l ≡ false) (same_who q.1 n is_so) (off_queue q.1 l once.0))
        other false not_so there = not_so

-- each time one less is left
pub fewer_left : (cause n : Who) (lists now : Lists) → StandOnce lists → Some n ≡ first_queued cause lists.queued → now ≡ woken n lists →
    length (those_at cause now.queued) < length (those_at cause lists.queued)
fewer_left cause n lists now once first is =
    let rest = ap (λ (k : List Who). length k) (first_goes cause n lists.queued once.queued first) in
    let here : length (those_at cause now.queued) ≡ length (those_at cause (without_queued n lists.queued)) =
    ap (λ (l : Lists). length (those_at cause l.queued)) is in
    omega (arith, rest, here)
