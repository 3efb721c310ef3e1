-- Renamed: threads by their names, once one has another name.
use Rattle.std.proofs.Common.{◌≡◌, ◌||◌, ℕ, Bool, true, false, List, [], ◌∷◌, ◌++◌, map, Option, Some, None}
use Rattle.std.proofs.Common.{if◌then◌else◌, refl, sym, ap, subst, ◌∙◌}
use Rattle.std.proofs.lemmas.Bool.{or_from, or_parts}
use Rattle.fk_model.specs.declared.names.Who.{Who}
use Rattle.fk_waits.specs.Causes.Names.{is_same}
use Rattle.fk_waits.proofs.InCauses.Order.{same_who}
use Rattle.fk_waits.specs.Waits.Lists.{new_name}
use Rattle.fk_waits.specs.Causes.Causes.{new_cause, recaused, Standing}
use Rattle.fk_waits.specs.Waits.Threads.{is_there, key_of, pair_of, with_cause, with_name, Pairs, StandApart}
use Rattle.fk_waits.proofs.InWaits.There.{there_same, same_other, same_turned}
use Rattle.fk_waits.proofs.InCauses.Order.{same_self}

abbrev pub with_who : Who → Who → Standing → Standing
with_who from to s = record { key = s.key; who = new_name from to s.who; cause = s.cause }

abbrev pub called : Standing → Who → Standing
called s who = record { key = s.key; who = who; cause = s.cause }

-- ---- the pairs

pub pairs_named : (from to : Who) (l : List Standing) → map pair_of (map (with_who from to) l) ≡ map (with_name from to) (map pair_of l)
pairs_named from to [] = refl
pairs_named from to (s ∷ l) = ap (λ (k : Pairs). (new_name from to s.who, s.cause) ∷ k) (pairs_named from to l)

pub pairs_caused : (from to : Who) (l : List Standing) → map pair_of (map (recaused from to) l) ≡ map (with_cause from to) (map pair_of l)
pairs_caused from to [] = refl
pairs_caused from to (s ∷ l) = ap (λ (k : Pairs). (s.who, new_cause from to s.cause) ∷ k) (pairs_caused from to l)

-- ---- where nobody has the name

pub none_named : (from to : Who) (l : List Standing) → is_there from (map pair_of l) ≡ false → map (with_who from to) l ≡ l
none_named from to [] not_so = refl
none_named from to (s ∷ l) not_so =
    let both = or_parts (is_same s.who from) (is_there from (map pair_of l)) not_so in
    let who : new_name from to s.who ≡ s.who = rw both.0 refl in
    λ i. record { key = s.key; who = who i; cause = s.cause } ∷ none_named from to l both.1 i

-- the one that has it
pub one_named : (from to : Who) (a : List Standing) (s : Standing) (b : List Standing) → StandApart (map pair_of (a ++ s ∷ b)) → is_same s.who from ≡ true →
    a ++ called s to ∷ b ≡ map (with_who from to) (a ++ s ∷ b)
one_named from to [] s b apart is_so =
    let who : new_name from to s.who ≡ to = rw is_so refl in
    λ i. record { key = s.key; who = sym who i; cause = s.cause } ∷ sym (none_named from to b (there_same s.who from (map pair_of b) is_so apart.0)) i
one_named from to (x ∷ a) s b apart is_so =
    let not_so : is_same x.who from ≡ false = before a apart.0 in
    let who : new_name from to x.who ≡ x.who = rw not_so refl in
    λ i. record { key = x.key; who = sym who i; cause = x.cause } ∷ one_named from to a s b apart.1 is_so i
  where
    before : (k : List Standing) → is_there x.who (map pair_of (k ++ s ∷ b)) ≡ false → is_same x.who from ≡ false
    before [] off =
        let other = (or_parts (is_same s.who x.who) (is_there x.who (map pair_of b)) off).0 in
        same_turned from x.who (same_other s.who from x.who is_so other)
    before (y ∷ k) off = before k (or_parts (is_same y.who x.who) (is_there x.who (map pair_of (k ++ s ∷ b))) off).1

-- ---- the numbers

-- of the new name
key_to : (from to : Who) (l : List Standing) → is_there to (map pair_of l) ≡ false → key_of to (map (with_who from to) l) ≡ key_of from l
key_to from to [] not_so = refl
key_to from to (s ∷ l) not_so = by (is_same s.who from) refl (key_to from to l (or_parts (is_same s.who to) (is_there to (map pair_of l)) not_so).1)
  where
    both : (is_same s.who to ≡ false) × (is_there to (map pair_of l) ≡ false)
    both = or_parts (is_same s.who to) (is_there to (map pair_of l)) not_so

    by : (t : Bool) → is_same s.who from ≡ t → key_of to (map (with_who from to) l) ≡ key_of from l →
        (if is_same (if is_same s.who from then to else s.who) to then Some s.key else key_of to (map (with_who from to) l))
        ≡ (if is_same s.who from then Some s.key else key_of from l)
    by true e rest = rw (e, same_self to) refl
    by false e rest = rw (e, both.0) rest

-- of the old one
key_from : (from to : Who) (l : List Standing) → is_same to from ≡ false → key_of from (map (with_who from to) l) ≡ None
key_from from to [] not_so = refl
key_from from to (s ∷ l) not_so = by (is_same s.who from) refl (key_from from to l not_so)
  where
    by : (t : Bool) → is_same s.who from ≡ t → key_of from (map (with_who from to) l) ≡ None →
        (if is_same (if is_same s.who from then to else s.who) from then Some s.key else key_of from (map (with_who from to) l)) ≡ None
    by true e rest = rw (e, not_so) rest
    by false e rest = rw (e, e) rest

-- of another
key_other : (from to n : Who) (l : List Standing) → is_same to n ≡ false → is_same from n ≡ false → key_of n (map (with_who from to) l) ≡ key_of n l
key_other from to n [] not_so off = refl
key_other from to n (s ∷ l) not_so off = by (is_same s.who from) refl (key_other from to n l not_so off)
  where
    by : (t : Bool) → is_same s.who from ≡ t → key_of n (map (with_who from to) l) ≡ key_of n l →
        (if is_same (if is_same s.who from then to else s.who) n then Some s.key else key_of n (map (with_who from to) l))
        ≡ (if is_same s.who n then Some s.key else key_of n l)
    by true e rest =
        let mine : is_same s.who n ≡ false = subst (λ (w : Who). is_same w n ≡ false) (sym (same_who s.who from e)) off in
        rw (e, not_so, mine) rest
    by false e rest = rw e (ap (λ (o : Option ℕ). if is_same s.who n then Some s.key else o) rest)

pub key_named : (from to n : Who) (l : List Standing) (key : ℕ) → is_there to (map pair_of l) ≡ false → Some key ≡ key_of from l →
    (if is_same to n then Some key else (if is_same from n then None else key_of n l)) ≡ key_of n (map (with_who from to) l)
key_named from to n l key off some = by (is_same to n) refl (is_same from n) refl
  where
    by : (t : Bool) → is_same to n ≡ t → (s : Bool) → is_same from n ≡ s →
        (if is_same to n then Some key else (if is_same from n then None else key_of n l)) ≡ key_of n (map (with_who from to) l)
    by true is_so s f =
        rw is_so (some ∙ sym (key_to from to l off) ∙ ap (λ (w : Who). key_of w (map (with_who from to) l)) (same_who to n is_so))
    by false not_so true f =
        let apart : is_same to from ≡ false = subst (λ (w : Who). is_same to w ≡ false) (sym (same_who from n f)) not_so in
        rw (not_so, f) (sym (key_from from to l apart) ∙ ap (λ (w : Who). key_of w (map (with_who from to) l)) (same_who from n f))
    by false not_so false f = rw (not_so, f) (sym (key_other from to n l not_so f))

-- ---- they stand apart

there_named : (from to n : Who) (l : Pairs) → is_there n l ≡ false → is_same to n ≡ false → is_there n (map (with_name from to) l) ≡ false
there_named from to n [] not_so off = refl
there_named from to n (x ∷ l) not_so off =
    or_from (is_same (new_name from to x.0) n) (is_there n (map (with_name from to) l)) (by (is_same x.0 from) refl) (there_named from to n l both.1 off)
  where
    both : (is_same x.0 n ≡ false) × (is_there n l ≡ false)
    both = or_parts (is_same x.0 n) (is_there n l) not_so

    by : (t : Bool) → is_same x.0 from ≡ t → is_same (if is_same x.0 from then to else x.0) n ≡ false
    by true e = rw e off
    by false e = rw e both.0

-- of those of which none has the old name
there_kept : (from to : Who) (l : Pairs) → is_there from l ≡ false → is_there to l ≡ false → is_there to (map (with_name from to) l) ≡ false
there_kept from to [] not_so off = refl
there_kept from to (x ∷ l) not_so off =
    let old = or_parts (is_same x.0 from) (is_there from l) not_so in
    let new = or_parts (is_same x.0 to) (is_there to l) off in
    let mine : is_same (new_name from to x.0) to ≡ false = rw old.0 new.0 in
    or_from (is_same (new_name from to x.0) to) (is_there to (map (with_name from to) l)) mine (there_kept from to l old.1 new.1)

pub apart_named : (from to : Who) (l : Pairs) → StandApart l → is_there to l ≡ false → StandApart (map (with_name from to) l)
apart_named from to [] apart off = tt
apart_named from to (x ∷ l) apart off = (by (is_same x.0 from) refl, apart_named from to l apart.1 both.1)
  where
    both : (is_same x.0 to ≡ false) × (is_there to l ≡ false)
    both = or_parts (is_same x.0 to) (is_there to l) off

    by : (t : Bool) → is_same x.0 from ≡ t → is_there (if is_same x.0 from then to else x.0) (map (with_name from to) l) ≡ false
    by true e = rw e (there_kept from to l (there_same x.0 from l e apart.0) both.1)
    by false e = rw e (there_named from to x.0 l apart.0 (same_turned x.0 to both.0))

pub there_caused : (from to n : Who) (l : Pairs) → is_there n (map (with_cause from to) l) ≡ is_there n l
there_caused from to n [] = refl
there_caused from to n (x ∷ l) = ap (λ (t : Bool). is_same x.0 n || t) (there_caused from to n l)

pub apart_caused : (from to : Who) (l : Pairs) → StandApart l → StandApart (map (with_cause from to) l)
apart_caused from to [] apart = tt
apart_caused from to (x ∷ l) apart = (there_caused from to x.0 l ∙ apart.0, apart_caused from to l apart.1)
