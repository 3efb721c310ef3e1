-- There: threads by their names, once one has come, has gone, or has another name.
use Rattle.std.proofs.Common.{◌≡◌, ℕ, Bool, true, false, List, [], ◌∷◌, ◌++◌, map, Option, Some, None, is_some}
use Rattle.std.proofs.Common.{if◌then◌else◌, refl, sym, ap, subst, ◌∙◌}
use Rattle.std.proofs.lemmas.Bool.{or_from, or_parts}
use Rattle.fk_model.specs.declared.names.Who.{Who}
use Rattle.fk_waits.specs.Causes.Names.{is_same}
use Rattle.fk_waits.proofs.InCauses.Order.{same_who}
use Rattle.fk_waits.specs.Causes.Causes.{Standing}
use Rattle.fk_waits.specs.Waits.Threads.{besides, is_there, is_waiting, key_of, pair_of, Pairs, StandApart}
use Rattle.fk_waits.proofs.InCauses.Numbers.{clash}
use Rattle.fk_waits.proofs.InCauses.Placed.{none_key, same_by}

-- ---- names

pub same_turned : (a b : Who) → is_same a b ≡ false → is_same b a ≡ false
same_turned a b not_so = by (is_same b a) refl
  where
    by : (t : Bool) → is_same b a ≡ t → is_same b a ≡ false
    by true is_so = clash (is_same a b) (same_by a b (sym (same_who b a is_so))) not_so
    by false e = e

-- a name that is another's is no third's
pub same_other : (a b x : Who) → is_same a b ≡ true → is_same a x ≡ false → is_same b x ≡ false
same_other a b x is_so not_so = subst (λ (w : Who). is_same w x ≡ false) (same_who a b is_so) not_so

-- ---- those that are there

pub there_same : (a b : Who) (l : Pairs) → is_same a b ≡ true → is_there a l ≡ false → is_there b l ≡ false
there_same a b l is_so not_so = subst (λ (w : Who). is_there w l ≡ false) (same_who a b is_so) not_so

there_split : (n : Who) (a b : Pairs) → is_there n (a ++ b) ≡ false → (is_there n a ≡ false) × (is_there n b ≡ false)
there_split n [] b not_so = (refl, not_so)
there_split n (x ∷ a) b not_so =
    let both = or_parts (is_same x.0 n) (is_there n (a ++ b)) not_so in
    let rest = there_split n a b both.1 in
    (or_from (is_same x.0 n) (is_there n a) both.0 rest.0, rest.1)

there_with : (n : Who) (a b : Pairs) → is_there n a ≡ false → is_there n b ≡ false → is_there n (a ++ b) ≡ false
there_with n [] b first last = last
there_with n (x ∷ a) b first last =
    let both = or_parts (is_same x.0 n) (is_there n a) first in
    or_from (is_same x.0 n) (is_there n (a ++ b)) both.0 (there_with n a b both.1 last)

there_besides : (m n : Who) (l : Pairs) → is_there m l ≡ false → is_there m (besides n l) ≡ false
there_besides m n [] not_so = refl
there_besides m n (x ∷ l) not_so = by (is_same x.0 n) refl (there_besides m n l (or_parts (is_same x.0 m) (is_there m l) not_so).1)
  where
    both : (is_same x.0 m ≡ false) × (is_there m l ≡ false)
    both = or_parts (is_same x.0 m) (is_there m l) not_so

    by : (t : Bool) → is_same x.0 n ≡ t → is_there m (besides n l) ≡ false → is_there m (if is_same x.0 n then besides n l else x ∷ besides n l) ≡ false
    by true e rest = rw e rest
    by false e rest = rw e (or_from (is_same x.0 m) (is_there m (besides n l)) both.0 rest)

pub off_besides : (n : Who) (l : Pairs) → is_there n (besides n l) ≡ false
off_besides n [] = refl
off_besides n (x ∷ l) = by (is_same x.0 n) refl (off_besides n l)
  where
    by : (t : Bool) → is_same x.0 n ≡ t → is_there n (besides n l) ≡ false → is_there n (if is_same x.0 n then besides n l else x ∷ besides n l) ≡ false
    by true e rest = rw e rest
    by false e rest = rw e (or_from (is_same x.0 n) (is_there n (besides n l)) e rest)

pub besides_none : (n : Who) (l : Pairs) → is_there n l ≡ false → besides n l ≡ l
besides_none n [] not_so = refl
besides_none n (x ∷ l) not_so =
    let both = or_parts (is_same x.0 n) (is_there n l) not_so in rw both.0 (ap (λ (k : Pairs). x ∷ k) (besides_none n l both.1))

-- ---- they stand apart

pub apart_besides : (n : Who) (l : Pairs) → StandApart l → StandApart (besides n l)
apart_besides n [] apart = tt
apart_besides n (x ∷ l) apart = by (is_same x.0 n) refl (apart_besides n l apart.1)
  where
    by : (t : Bool) → is_same x.0 n ≡ t → StandApart (besides n l) → StandApart (if is_same x.0 n then besides n l else x ∷ besides n l)
    by true e rest = rw e rest
    by false e rest = rw e (there_besides x.0 n l apart.0, rest)

apart_last : (n : Who) (cause : Option Who) (l : Pairs) → StandApart l → is_there n l ≡ false → StandApart (l ++ (n, cause) ∷ [])
apart_last n cause [] apart not_so = (refl, tt)
apart_last n cause (x ∷ l) apart not_so =
    let both = or_parts (is_same x.0 n) (is_there n l) not_so in (
      there_with x.0 l ((n, cause) ∷ []) apart.0 (or_from (is_same n x.0) false (same_turned x.0 n both.0) refl),
      apart_last n cause l apart.1 both.1,
    )

pub apart_settled : (n : Who) (cause : Option Who) (l : Pairs) → StandApart l → StandApart (besides n l ++ (n, cause) ∷ [])
apart_settled n cause l apart = apart_last n cause (besides n l) (apart_besides n l apart) (off_besides n l)

-- the others, where one is in the middle
pub besides_middle : (n : Who) (a : Pairs) (x : Who × Option Who) (b : Pairs) → StandApart (a ++ x ∷ b) → is_same x.0 n ≡ true → besides n (a ++ x ∷ b) ≡ a ++ b
besides_middle n [] x b apart is_so = rw is_so (besides_none n b (there_same x.0 n b is_so apart.0))
besides_middle n (y ∷ a) x b apart is_so =
    let here = (there_split y.0 a (x ∷ b) apart.0).1 in
    let other = (or_parts (is_same x.0 y.0) (is_there y.0 b) here).0 in
    let not_so = same_turned n y.0 (same_other x.0 n y.0 is_so other) in
    rw not_so (ap (λ (k : Pairs). y ∷ k) (besides_middle n a x b apart.1 is_so))

-- and whether it waits
pub waiting_middle : (n : Who) (a : Pairs) (x : Who × Option Who) (b : Pairs) → StandApart (a ++ x ∷ b) → is_same x.0 n ≡ true →
    is_waiting n (a ++ x ∷ b) ≡ is_some x.1
waiting_middle n [] x b apart is_so = rw is_so refl
waiting_middle n (y ∷ a) x b apart is_so =
    let here = (there_split y.0 a (x ∷ b) apart.0).1 in
    let other = (or_parts (is_same x.0 y.0) (is_there y.0 b) here).0 in
    let not_so = same_turned n y.0 (same_other x.0 n y.0 is_so other) in
    rw not_so (waiting_middle n a x b apart.1 is_so)

pub waiting_none : (n : Who) (l : Pairs) → is_there n l ≡ false → is_waiting n l ≡ false
waiting_none n [] not_so = refl
waiting_none n (x ∷ l) not_so = let both = or_parts (is_same x.0 n) (is_there n l) not_so in rw both.0 (waiting_none n l both.1)

-- ---- the numbers of threads

pub pairs_split : (a b : List Standing) → map pair_of (a ++ b) ≡ map pair_of a ++ map pair_of b
pairs_split [] b = refl
pairs_split (s ∷ a) b = ap (λ (l : Pairs). pair_of s ∷ l) (pairs_split a b)

pub record IsAt (n : Who) (key : ℕ) (l : List Standing) : Type 0 where
  pub before : List Standing
  pub one : Standing
  pub behind : List Standing
  pub is : l ≡ before ++ one ∷ behind
  pub same : is_same one.who n ≡ true
  pub number : one.key ≡ key

abbrev key_or : ℕ → Option ℕ → ℕ
key_or n None = n
key_or n (Some m) = m

pub is_at : (n : Who) (key : ℕ) (l : List Standing) → Some key ≡ key_of n l → IsAt n key l
is_at n key [] some = absurd (cc)
is_at n key (s ∷ l) some = by (is_same s.who n) refl some (λ rest. is_at n key l rest)
  where
    by : (t : Bool) → is_same s.who n ≡ t → Some key ≡ (if is_same s.who n then Some s.key else key_of n l) → (Some key ≡ key_of n l → IsAt n key l) →
        IsAt n key (s ∷ l)
    by true e is more = let here : Some key ≡ Some s.key = rw e at is in
        record { before = []; one = s; behind = l; is = refl; same = e; number = sym (ap (key_or key) here) }
    by false e is more =
        let rest = more (rw e at is) in
        record {
          before = s ∷ rest.before;
          one = rest.one;
          behind = rest.behind;
          is = ap (λ (k : List Standing). s ∷ k) rest.is;
          same = rest.same;
          number = rest.number;
        }

pub off_by_key : (n : Who) (l : List Standing) → None ≡ key_of n l → is_there n (map pair_of l) ≡ false
off_by_key n [] none = refl
off_by_key n (s ∷ l) none = by (is_same s.who n) refl none (λ rest. off_by_key n l rest)
  where
    by : (t : Bool) → is_same s.who n ≡ t → None ≡ (if is_same s.who n then Some s.key else key_of n l) →
        (None ≡ key_of n l → is_there n (map pair_of l) ≡ false) → is_there n (map pair_of (s ∷ l)) ≡ false
    by true e is more = let not_so : None ≡ Some s.key = rw e at is in none_key s.key not_so
    by false e is more = or_from (is_same s.who n) (is_there n (map pair_of l)) e (more (rw e at is))

pub key_by_off : (n : Who) (l : List Standing) → is_there n (map pair_of l) ≡ false → key_of n l ≡ None
key_by_off n [] not_so = refl
key_by_off n (s ∷ l) not_so = let both = or_parts (is_same s.who n) (is_there n (map pair_of l)) not_so in rw both.0 (key_by_off n l both.1)

key_past : (n : Who) (l k : List Standing) → is_there n (map pair_of l) ≡ false → key_of n (l ++ k) ≡ key_of n k
key_past n [] k not_so = refl
key_past n (s ∷ l) k not_so = let both = or_parts (is_same s.who n) (is_there n (map pair_of l)) not_so in rw both.0 (key_past n l k both.1)

key_front : (n : Who) (l : List Standing) (s : Standing) → is_same s.who n ≡ false → key_of n (l ++ s ∷ []) ≡ key_of n l
key_front n [] s not_so = rw not_so refl
key_front n (x ∷ l) s not_so = ap (λ (o : Option ℕ). if is_same x.who n then Some x.key else o) (key_front n l s not_so)

key_skip : (n : Who) (a : List Standing) (s : Standing) (b : List Standing) → is_same s.who n ≡ false → key_of n (a ++ s ∷ b) ≡ key_of n (a ++ b)
key_skip n [] s b not_so = rw not_so refl
key_skip n (x ∷ a) s b not_so = ap (λ (o : Option ℕ). if is_same x.who n then Some x.key else o) (key_skip n a s b not_so)

-- one in the middle goes last
pub key_moved : (n : Who) (a : List Standing) (s : Standing) (b : List Standing) (cause : Option Who) → StandApart (map pair_of (a ++ s ∷ b)) →
    key_of n (a ++ s ∷ b) ≡ key_of n ((a ++ b) ++ record { key = s.key; who = s.who; cause = cause } ∷ [])
key_moved n [] s b cause apart = by (is_same s.who n) refl
  where
    by : (t : Bool) → is_same s.who n ≡ t →
        (if is_same s.who n then Some s.key else key_of n b) ≡ key_of n (b ++ record { key = s.key; who = s.who; cause = cause } ∷ [])
    by true e =
        let now : Standing = record { key = s.key; who = s.who; cause = cause } in
        let last = key_past n b (now ∷ []) (there_same s.who n (map pair_of b) e apart.0) in
        let mine : key_of n (now ∷ []) ≡ Some s.key = rw e refl in
        rw e (sym (last ∙ mine))
    by false e = rw e (sym (key_front n b (record { key = s.key; who = s.who; cause = cause }) e))
key_moved n (x ∷ a) s b cause apart = ap (λ (o : Option ℕ). if is_same x.who n then Some x.key else o) (key_moved n a s b cause apart.1)

-- one comes
pub key_come : (n : Who) (l : List Standing) (s : Standing) → is_there s.who (map pair_of l) ≡ false →
    (if is_same s.who n then Some s.key else key_of n l) ≡ key_of n (l ++ s ∷ [])
key_come n l s not_so = by (is_same s.who n) refl
  where
    by : (t : Bool) → is_same s.who n ≡ t → (if is_same s.who n then Some s.key else key_of n l) ≡ key_of n (l ++ s ∷ [])
    by true e =
        let last = key_past n l (s ∷ []) (there_same s.who n (map pair_of l) e not_so) in
        let mine : key_of n (s ∷ []) ≡ Some s.key = rw e refl in
        rw e (sym (last ∙ mine))
    by false e = rw e (sym (key_front n l s e))

-- one goes
pub key_gone : (n m : Who) (a : List Standing) (s : Standing) (b : List Standing) → is_same s.who m ≡ true → is_there m (map pair_of (a ++ b)) ≡ false →
    (if is_same m n then None else key_of n (a ++ s ∷ b)) ≡ key_of n (a ++ b)
key_gone n m a s b is_so off = by (is_same m n) refl
  where
    by : (t : Bool) → is_same m n ≡ t → (if is_same m n then None else key_of n (a ++ s ∷ b)) ≡ key_of n (a ++ b)
    by true e = rw e (sym (key_by_off n (a ++ b) (there_same m n (map pair_of (a ++ b)) e off)))
    by false e =
        let not_so : is_same s.who n ≡ false = subst (λ (w : Who). is_same w n ≡ false) (sym (same_who s.who m is_so)) e in
        rw e (key_skip n a s b not_so)
