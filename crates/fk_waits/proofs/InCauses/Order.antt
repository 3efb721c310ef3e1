-- Order: what a search finds, and what putting in and taking out leave.
use Rattle.std.proofs.Common.{◌≡◌, ◌≢◌, ◌+◌, ◌<◌, ◌≤◌, ◌==◌, ℕ, zero, suc, Bool, true, false, List, [], ◌∷◌, ◌++◌, length, take, drop, get_or, Option, Some}
use Rattle.std.proofs.Common.{None, IfSome, if◌then◌else◌, refl, sym, ap, ◌∙◌, arith, eq-eqb}
use Rattle.std.proofs.lemmas.Bool.{and_parts, eqb-true}
use Rattle.fk_model.specs.declared.names.Who.{Who}
use Rattle.fk_waits.specs.Causes.Names.{is_same, key_at, rank, AreAbove, AreOnce, IsRising}
use Rattle.fk_waits.specs.declared.causes.names.Name.{Name}

ne_by_eqb : (a b : ℕ) → (a == b) ≡ false → a ≢ b
ne_by_eqb a b off e = let on = eq-eqb a b e in absurd (cc)

-- ---- names and their ranks

same_is : (a b : Who) → is_same a b ≡ true → (a.space ≡ b.space) × (a.slot ≡ b.slot)
same_is a b h = let both = and_parts (a.space == b.space) (a.slot == b.slot) h in (eqb-true _ _ both.0, eqb-true _ _ both.1)

pub same-ranks : (a b : Who) → is_same a b ≡ true → rank a ≡ rank b
same-ranks a b h = let both = same_is a b h in rw (both.0, both.1) refl

pub same_who : (a b : Who) → is_same a b ≡ true → a ≡ b
same_who a b h = let both = same_is a b h in λ i. record { space = both.0 i; slot = both.1 i }

pub same_self : (a : Who) → is_same a a ≡ true
same_self a = rw (eq-eqb a.space a.space refl, eq-eqb a.slot a.slot refl) refl

-- a lower rank is another name
apart-less : (a b : Who) → rank a < rank b → is_same a b ≡ false
apart-less a b less = by (is_same a b) refl
  where
    by : (t : Bool) → is_same a b ≡ t → is_same a b ≡ false
    by true e = absurd (omega (arith, same-ranks a b e, less))
    by false e = e

apart-more : (a b : Who) → rank b < rank a → is_same a b ≡ false
apart-more a b less = by (is_same a b) refl
  where
    by : (t : Bool) → is_same a b ≡ t → is_same a b ≡ false
    by true e = absurd (omega (arith, same-ranks a b e, less))
    by false e = e

-- and so is another rank
pub same-rank : (a b : Who) → a.slot < 256 → b.slot < 256 → rank a ≡ rank b → is_same a b ≡ true
same-rank a b low few is =
    let spaces : a.space ≡ b.space = omega (arith, low, few, is) in
    let slots : a.slot ≡ b.slot = omega (arith, spaces, is) in
    rw (spaces, slots, eq-eqb b.space b.space refl, eq-eqb b.slot b.slot refl) refl

-- ---- by index

above_at : (r : ℕ) (l : List Name) → AreAbove r l → (k : ℕ) (d : Name) → k < length l → r < rank (get_or l k d).who
above_at r [] above k d low = absurd (omega (arith, low))
above_at r (n ∷ l) above zero d low = above.0
above_at r (n ∷ l) above (suc k) d low = above_at r l above.1 k d (omega (arith, low))

pub rising_at : (l : List Name) → IsRising l → (i j : ℕ) (d : Name) → i < j → j < length l → rank (get_or l i d).who < rank (get_or l j d).who
rising_at [] rising i j d less low = absurd (omega (arith, low))
rising_at (n ∷ l) rising i zero d less low = absurd (omega (arith, less))
rising_at (n ∷ l) rising zero (suc j) d less low = above_at (rank n.who) l rising.1 j d (omega (arith, low))
rising_at (n ∷ l) rising (suc i) (suc j) d less low = rising_at l rising.2 i j d (omega (arith, less)) (omega (arith, low))

-- ---- a place in a list: those before it have a lower rank, those from it on don't

abbrev pub AreFrom : ℕ → List Name → Type 0
AreFrom r [] = Unit {0}
AreFrom r (n ∷ l) = (r ≤ rank n.who) × AreFrom r l

abbrev pub IsPlace : ℕ → List Name → ℕ → Type 0
IsPlace r l zero = AreFrom r l
IsPlace r [] (suc at) = ⊥
IsPlace r (n ∷ l) (suc at) = (rank n.who < r) × IsPlace r l at

are_from : (r : ℕ) (l : List Name) → ((k : ℕ) (d : Name) → k < length l → r ≤ rank (get_or l k d).who) → AreFrom r l
are_from r [] h = tt
are_from r (n ∷ l) h = (h 0 n (omega arith), are_from r l (λ k d low. h (suc k) d (omega (arith, low))))

pub is_place : (r : ℕ) (l : List Name) (at : ℕ) → at ≤ length l → ((k : ℕ) (d : Name) → k < at → rank (get_or l k d).who < r) →
    ((k : ℕ) (d : Name) → at ≤ k → k < length l → r ≤ rank (get_or l k d).who) → IsPlace r l at
is_place r l zero within before behind = are_from r l (λ k d low. behind k d (omega arith) low)
is_place r [] (suc at) within before behind = absurd (omega (arith, within))
is_place r (n ∷ l) (suc at) within before behind = (
  before 0 n (omega arith),
  is_place r l at (omega (arith, within)) (λ k d low. before (suc k) d (omega (arith, low)))
      (λ k d from low. behind (suc k) d (omega (arith, from)) (omega (arith, low))),
)

-- ---- what is found there

above-lower : (r q : ℕ) (l : List Name) → r ≤ q → AreAbove q l → AreAbove r l
above-lower r q [] le above = tt
above-lower r q (n ∷ l) le above = (omega (arith, le, above.0), above-lower r q l le above.1)

none-above : (l : List Name) (who : Who) → AreAbove (rank who) l → key_at l who ≡ None
none-above [] who above = refl
none-above (n ∷ l) who above = rw (apart-more n.who who above.0) (none-above l who above.1)

pub once : (l : List Name) → IsRising l → AreOnce l
once [] rising = tt
once (n ∷ l) rising = (none-above l n.who rising.1, once l rising.2)

pub found : (l : List Name) (at : ℕ) (d : Name) (who : Who) → IsPlace (rank who) l at → at < length l → is_same (get_or l at d).who who ≡ true →
    key_at l who ≡ Some (get_or l at d).key
found [] at d who place low same = absurd (omega (arith, low))
found (n ∷ l) zero d who place low same = rw same refl
found (n ∷ l) (suc at) d who place low same = rw (apart-less n.who who place.0) (found l at d who place.1 (omega (arith, low)) same)

-- of a name that is there, wherever that is
pub found_there : (l : List Name) (at : ℕ) (d : Name) (who : Who) → IsRising l → at < length l → is_same (get_or l at d).who who ≡ true →
    key_at l who ≡ Some (get_or l at d).key
found_there [] at d who rising low same = absurd (omega (arith, low))
found_there (n ∷ l) zero d who rising low same = rw same refl
found_there (n ∷ l) (suc at) d who rising low same =
    let less = above_at (rank n.who) l rising.1 at d (omega (arith, low)) in
    rw (apart-less n.who who (omega (arith, less, same-ranks (get_or l at d).who who same)))
    (found_there l at d who rising.2 (omega (arith, low)) same)

pub not_found : (l : List Name) (at : ℕ) (d : Name) (who : Who) → IsPlace (rank who) l at → IsRising l →
    (at < length l → is_same (get_or l at d).who who ≡ false) →
    key_at l who ≡ None
not_found [] at d who place rising differs = refl
not_found (n ∷ l) zero d who place rising differs =
    rw (differs (omega arith)) (none-above l who (above-lower (rank who) (rank n.who) l place.0 rising.1))
not_found (n ∷ l) (suc at) d who place rising differs =
    rw (apart-less n.who who place.0) (not_found l at d who place.1 rising.2 (λ low. differs (omega (arith, low))))

-- and where it is
pub record IsPlaced (l : List Name) (who : Who) (key : ℕ) : Type 0 where
  pub place : ℕ
  pub within : place < length l
  pub is : (d : Name) → (get_or l place d).key ≡ key

pub is_placed : (l : List Name) (who : Who) (key : ℕ) → key_at l who ≡ Some key → IsPlaced l who key
is_placed [] who key is = absurd (cc)
is_placed (n ∷ l) who key is = by (is_same n.who who) refl is (λ rest. is_placed l who key rest)
  where
    number : Option ℕ → ℕ
    number None = key
    number (Some k) = k

    by : (t : Bool) → is_same n.who who ≡ t → (if is_same n.who who then Some n.key else key_at l who) ≡ Some key →
        (key_at l who ≡ Some key → IsPlaced l who key) → IsPlaced (n ∷ l) who key
    by true e is more =
        let here : Some n.key ≡ Some key = rw e at is in record { place = 0; within = omega arith; is = λ d. ap number here }
    by false e is more =
        let rest = more (rw e at is) in
        let low = rest.within in
        record { place = suc rest.place; within = omega (arith, low); is = rest.is }

-- ---- one more

-- of a name before the place, the other one is no other
module _ (x who other : Who) (less : rank x < rank who) where
  passed : is_same x other ≡ true → is_same who other ≡ false
  passed same = apart-more who other (omega (arith, less, same-ranks x other same))

pub key_put : (l : List Name) (at : ℕ) (n : Name) (other : Who) → IsPlace (rank n.who) l at →
    key_at (take at l ++ n ∷ drop at l) other ≡ (if is_same n.who other then Some n.key else key_at l other)
key_put l zero n other place = refl
key_put [] (suc at) n other place = absurd place
key_put (x ∷ l) (suc at) n other place = by (is_same x.who other) refl (key_put l at n other place.1)
  where
    by : (t : Bool) → is_same x.who other ≡ t →
        key_at (take at l ++ n ∷ drop at l) other ≡ (if is_same n.who other then Some n.key else key_at l other) →
        (if is_same x.who other then Some x.key else key_at (take at l ++ n ∷ drop at l) other)
        ≡ (if is_same n.who other then Some n.key else (if is_same x.who other then Some x.key else key_at l other))
    by true e rest = rw (e, passed x.who n.who other place.0 e) refl
    by false e rest = rw e rest

above-put : (r : ℕ) (l : List Name) (at : ℕ) (n : Name) → r < rank n.who → AreAbove r l → AreAbove r (take at l ++ n ∷ drop at l)
above-put r l zero n low above = (low, above)
above-put r [] (suc at) n low above = (low, tt)
above-put r (x ∷ l) (suc at) n low above = (above.0, above-put r l at n low above.1)

-- the first of those from the place on is another
first-apart : (x : Name) (l : List Name) (who : Who) → key_at (x ∷ l) who ≡ None → is_same x.who who ≡ false
first-apart x l who none = by (is_same x.who who) refl
  where
    by : (t : Bool) → is_same x.who who ≡ t → is_same x.who who ≡ false
    by true e = let no = rw e at none in absurd (cc)
    by false e = e

pub rising_put : (l : List Name) (at : ℕ) (n : Name) → n.who.slot < 256 → IsPlace (rank n.who) l at → IsRising l → key_at l n.who ≡ None →
    IsRising (take at l ++ n ∷ drop at l)
rising_put [] zero n few place rising none = (few, tt, tt)
rising_put (x ∷ l) zero n few place rising none =
    let other = first-apart x l n.who none in
    let less : rank n.who < rank x.who = by (rank n.who == rank x.who) refl in
    (few, (less, above-lower (rank n.who) (rank x.who) l (omega (arith, less)) rising.1), rising)
  where
    by : (t : Bool) → (rank n.who == rank x.who) ≡ t → rank n.who < rank x.who
    by true e = let yes = same-rank x.who n.who rising.0 few (sym (eqb-true _ _ e)) in let no = first-apart x l n.who none in absurd (cc)
    by false e = let le = place.0 in grind (arith, e, le)
rising_put [] (suc at) n few place rising none = absurd place
rising_put (x ∷ l) (suc at) n few place rising none =
    let apart = apart-less x.who n.who place.0 in
    let rest : key_at l n.who ≡ None = rw apart at none in
    (rising.0, above-put (rank x.who) l at n place.0 rising.1, rising_put l at n few place.1 rising.2 rest)

-- ---- one less

pub key_left : (l : List Name) (at : ℕ) (d : Name) (who other : Who) → IsPlace (rank who) l at → IsRising l → at < length l →
    is_same (get_or l at d).who who ≡ true →
    key_at (take at l ++ drop (suc at) l) other ≡ (if is_same who other then None else key_at l other)
key_left [] at d who other place rising low same = absurd (omega (arith, low))
key_left (x ∷ l) zero d who other place rising low same = by (is_same who other) refl
  where
    fields : (x.who.space ≡ who.space) × (x.who.slot ≡ who.slot)
    fields = same_is x.who who same

    by : (t : Bool) → is_same who other ≡ t → key_at l other ≡
        (if is_same who other then None else (if is_same x.who other then Some x.key else key_at l other))
    by true e =
        let above : AreAbove (rank other) l =
        above-lower (rank other) (rank x.who) l (omega (arith, same-ranks x.who who same, same-ranks who other e)) rising.1 in
        rw e (none-above l other above)
    by false e = rw (fields.0, fields.1, e) refl
key_left (x ∷ l) (suc at) d who other place rising low same =
    by (is_same x.who other) refl (key_left l at d who other place.1 rising.2 (omega (arith, low)) same)
  where
    by : (t : Bool) → is_same x.who other ≡ t → key_at (take at l ++ drop (suc at) l) other ≡ (if is_same who other then None else key_at l other) →
        (if is_same x.who other then Some x.key else key_at (take at l ++ drop (suc at) l) other)
        ≡ (if is_same who other then None else (if is_same x.who other then Some x.key else key_at l other))
    by true e rest = rw (e, passed x.who who other place.0 e) refl
    by false e rest = rw e rest

above-left : (r : ℕ) (l : List Name) (at : ℕ) → AreAbove r l → AreAbove r (take at l ++ drop (suc at) l)
above-left r [] zero above = tt
above-left r [] (suc at) above = tt
above-left r (x ∷ l) zero above = above.1
above-left r (x ∷ l) (suc at) above = (above.0, above-left r l at above.1)

pub rising_left : (l : List Name) (at : ℕ) → IsRising l → IsRising (take at l ++ drop (suc at) l)
rising_left [] zero rising = tt
rising_left [] (suc at) rising = tt
rising_left (x ∷ l) zero rising = rising.2
rising_left (x ∷ l) (suc at) rising = (rising.0, above-left (rank x.who) l at rising.1, rising_left l at rising.2)

-- ---- halving: those before a place have a lower rank, those from another on don't

pub record IsHalved (l : List Name) (r low high : ℕ) : Type 0 where
  pub ordered : low ≤ high
  pub within : high ≤ length l
  pub before : (k : ℕ) (d : Name) → k < low → rank (get_or l k d).who < r
  pub behind : (k : ℕ) (d : Name) → high ≤ k → k < length l → r ≤ rank (get_or l k d).who

pub halved_at_first : (l : List Name) (r : ℕ) → IsHalved l r 0 (length l)
halved_at_first l r = record {
  ordered = omega arith;
  within = omega arith;
  before = λ k d low. absurd (omega (arith, low));
  behind = λ k d from low. absurd (omega (arith, from, low));
}

pub any_default : (l : List Name) (k : ℕ) (d e : Name) → k < length l → get_or l k d ≡ get_or l k e
any_default [] k d e low = absurd (omega (arith, low))
any_default (n ∷ l) zero d e low = refl
any_default (n ∷ l) (suc k) d e low = any_default l k d e (omega (arith, low))

module _ (l : List Name) (r low high middle : ℕ) (d : Name) (rising : IsRising l) (halved : IsHalved l r low high)
    (from : low ≤ middle) (upto : middle < high) where
  -- the one in the middle comes before
  above : rank (get_or l middle d).who < r → IsHalved l r (middle + 1) high
  above less = record {
    ordered = omega (arith, upto);
    within = halved.within;
    before = λ k e within. by k e (k == middle) refl within;
    behind = halved.behind;
  }
    where
      by : (k : ℕ) (e : Name) (t : Bool) → (k == middle) ≡ t → k < middle + 1 → rank (get_or l k e).who < r
      by k e true is within =
          let here : k < length l = omega (arith, within, upto, halved.within) in
          rw (any_default l k e d here, eqb-true k middle is) less
      by k e false is within =
          let apart = ne_by_eqb k middle is in
          let less_k : k < middle = omega (arith, within, apart) in
          let earlier = rising_at l rising k middle e less_k (omega (arith, upto, halved.within)) in
          let same : rank (get_or l middle e).who ≡ rank (get_or l middle d).who =
          ap (λ (n : Name). rank n.who) (any_default l middle e d (omega (arith, upto, halved.within))) in
          omega (arith, earlier, same, less)

  -- it doesn't
  below : r ≤ rank (get_or l middle d).who → IsHalved l r low middle
  below more = record {
    ordered = from;
    within = omega (arith, upto, halved.within);
    before = halved.before;
    behind = λ k e within here. by k e (k == middle) refl within here;
  }
    where
      by : (k : ℕ) (e : Name) (t : Bool) → (k == middle) ≡ t → middle ≤ k → k < length l → r ≤ rank (get_or l k e).who
      by k e true is within here = rw (any_default l k e d here, eqb-true k middle is) more
      by k e false is within here =
          let apart = ne_by_eqb k middle is in
          let later = rising_at l rising middle k d (omega (arith, within, apart)) here in
          let same : rank (get_or l k e).who ≡ rank (get_or l k d).who = ap (λ (n : Name). rank n.who) (any_default l k e d here) in
          omega (arith, later, same, more)

  -- as two ranks tell
  pub half_above : (first second : ℕ) → first ≡ rank (get_or l middle d).who → second ≡ r → first < second → IsHalved l r (middle + 1) high
  half_above first second is to less = above (omega (arith, is, to, less))

  pub half_below : (first second : ℕ) → first ≡ rank (get_or l middle d).who → second ≡ r → second ≤ first → IsHalved l r low middle
  half_below first second is to more = below (omega (arith, is, to, more))

-- all come before, where the last does
pub last_below : (l : List Name) (r at : ℕ) (d : Name) → IsRising l → at < length l → length l ≤ at + 1 → (first second : ℕ) →
    first ≡ rank (get_or l at d).who → second ≡ r → first < second → (k : ℕ) (e : Name) → k < length l → rank (get_or l k e).who < r
last_below l r at d rising here last first second is to less k e low =
    (half_above l r 0 (length l) at d rising (halved_at_first l r) (omega arith) here first second is to less).before k e (omega (arith, low, last))

-- ---- what a look answers

pub place_found : (l : List Name) (at : ℕ) (who : Who) (o : Option ℕ) → IsPlace (rank who) l at → IsRising l →
    IfSome o (λ key. (at < length l) × ((d : Name) → (is_same (get_or l at d).who who ≡ true) × ((get_or l at d).key ≡ key))) →
    (o ≡ None → (d : Name) → at < length l → is_same (get_or l at d).who who ≡ false) → o ≡ key_at l who
place_found l at who (Some key) place rising there none =
    let d : Name = record { who = who; key = 0 } in
    let here = there.1 d in
    sym (found l at d who place there.0 here.0 ∙ ap (λ (k : ℕ). Some k) here.1)
place_found l at who None place rising there none =
    sym (not_found l at (record { who = who; key = 0 }) who place rising (none refl (record { who = who; key = 0 })))

-- ---- where nothing was taken

pub none_left : (l : List Name) (who other : Who) → key_at l who ≡ None → key_at l other ≡ (if is_same who other then None else key_at l other)
none_left l who other none = by (is_same who other) refl
  where
    by : (t : Bool) → is_same who other ≡ t → key_at l other ≡ (if is_same who other then None else key_at l other)
    by true e = rw e (ap (key_at l) (sym (same_who who other e)) ∙ none)
    by false e = rw e refl
