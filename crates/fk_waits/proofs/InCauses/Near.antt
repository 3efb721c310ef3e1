-- Near: what stands at the places of names, once a name is put or found, or goes.
use Rattle.std.proofs.Common.{◌≡◌, ◌≢◌, ◌<◌, ◌≤◌, ◌^◌, ℕ, zero, suc, nat_lt, Bool, true, false, List, [], ◌∷◌, ◌++◌, length, take, drop, get_or, set, Some, None}
use Rattle.std.proofs.Common.{inl, inr, if◌then◌else◌, refl, sym, ap, ◌∙◌, arith}
use Rattle.std.proofs.lemmas.Bool.{cases_eq, ltb-false}
use Rattle.std.proofs.lemmas.Bool.Decides.{Decides-ltb}
use Rattle.std.proofs.lemmas.List.{get_or_past, get_or-set_same, get_or-set_other, length-set}
use Rattle.fk_model.specs.declared.names.Who.{Who}
use Rattle.fk_waits.specs.Causes.Names.{is_same, key_at, near_at, near_place, nobody, rank, unknown, AreNear, AreRight}
use Rattle.fk_waits.specs.declared.causes.names.Name.{Name}
use Rattle.fk_waits.specs.declared.causes.names.Near.{Near}
use Rattle.fk_waits.proofs.InCauses.Order.{same-rank, same_who}

other_than : (a b : ℕ) → a ≡ b → b ≢ nobody → a ≢ nobody
other_than a b same off e = off (sym same ∙ e)

abbrev nothing : Near
nothing = record { rank = unknown; key = 0 }

unknown-apart : unknown ≢ nobody
unknown-apart e = absurd (omega (arith, e))

-- a rank of a name is none of the others
pub unknown_no_rank : {X : Type 0} (who : Who) → rank who < 2 ^ 40 → unknown ≡ rank who → X
unknown_no_rank who low is = absurd (omega (arith, low, is))

pub nobody_no_rank : {X : Type 0} (who : Who) → rank who < 2 ^ 40 → nobody ≡ rank who → X
nobody_no_rank who low is = absurd (omega (arith, low, is))

-- at whose place nobody was put is none of the names
pub none_near : (near : List Near) (l : List Name) (who : Who) → AreNear near l → (near_at near who).rank ≡ nobody → key_at l who ≡ None
none_near near [] who all none = refl
none_near near (n ∷ l) who all none = by (is_same n.who who) refl (none_near near l who all.1 none)
  where
    by : (t : Bool) → is_same n.who who ≡ t → key_at l who ≡ None → (if is_same n.who who then Some n.key else key_at l who) ≡ None
    by true e rest = absurd (all.0 (ap (λ (w : Who). (near_at near w).rank) (same_who n.who who e) ∙ none))
    by false e rest = rw e rest

-- ---- something stands at a place

module _ (near : List Near) (k : ℕ) (e : Near) where
  at_place : (who : Who) → near_place (length near) who ≡ k → k < length near → near_at (set near k e) who ≡ e
  at_place who is low =
      ap (λ m. get_or (set near k e) (near_place m who) nothing) (length-set near k e) ∙ ap (λ n. get_or (set near k e) n nothing) is
      ∙ get_or-set_same near k e nothing low

  at_other : (who : Who) → near_place (length near) who ≢ k → near_at (set near k e) who ≡ near_at near who
  at_other who off =
      ap (λ m. get_or (set near k e) (near_place m who) nothing) (length-set near k e)
      ∙ get_or-set_other near k (near_place (length near) who) e nothing off

  module _ (low : k < length near) (some : e.rank ≢ nobody) where
    set_one : (who : Who) → (near_at near who).rank ≢ nobody → (near_at (set near k e) who).rank ≢ nobody
    set_one who off = elim (cases_eq (near_place (length near) who) k) [
      | inl same ↦ other_than _ e.rank (ap (λ (n : Near). n.rank) (at_place who same low)) some
      | inr apart ↦ other_than _ _ (ap (λ (n : Near). n.rank) (at_other who apart)) off
    ]

    pub set_near : (l : List Name) → AreNear near l → AreNear (set near k e) l
    set_near [] all = tt
    set_near (n ∷ l) all = (set_one n.who all.0, set_near l all.1)

-- what is noted
pub noted_mine : (near : List Near) (k key : ℕ) (who : Who) → rank who < 2 ^ 40 → k ≡ near_place (length near) who → k < length near →
    (near_at (set near k (record { rank = rank who; key = key })) who).rank ≢ nobody
noted_mine near k key who few is low =
    other_than _ (rank who) (ap (λ (n : Near). n.rank) (at_place near k (record { rank = rank who; key = key }) who (sym is) low))
    (λ e. nobody_no_rank who few (sym e))

pub unset_mine : (near : List Near) (k : ℕ) (who : Who) → k ≡ near_place (length near) who → length near ≤ k → (near_at near who).rank ≢ nobody
unset_mine near k who is past =
    other_than _ unknown (ap (λ n. (get_or near n nothing).rank) (sym is) ∙ ap (λ (n : Near). n.rank) (get_or_past near k nothing past)) unknown-apart

pub noted_near : (near : List Near) (k key : ℕ) (who : Who) → rank who < 2 ^ 40 → k < length near → (l : List Name) → AreNear near l →
    AreNear (set near k (record { rank = rank who; key = key })) l
noted_near near k key who few low = set_near near k (record { rank = rank who; key = key }) low (λ e. nobody_no_rank who few (sym e))

pub noted_right : (near : List Near) (k key : ℕ) (who : Who) → who.slot < 256 → k < length near → (l : List Name) → AreRight near l → key_at l who ≡ Some key →
    AreRight (set near k (record { rank = rank who; key = key })) l
noted_right near k key who small low l right mine other few slot is = elim (cases_eq (near_place (length near) other) k) [
  | inl same ↦
      let here = at_place near k (record { rank = rank who; key = key }) other same low in
      let ranks : rank who ≡ rank other = ap (λ (n : Near). n.rank) (sym here) ∙ is in
      let who_is : who ≡ other = same_who who other (same-rank who other small slot ranks) in
      ap (key_at l) (sym who_is) ∙ mine ∙ ap (λ (n : Near). Some n.key) (sym here)
  | inr apart ↦
      let there = at_other near k (record { rank = rank who; key = key }) other apart in
      right other few slot (ap (λ (n : Near). n.rank) (sym there) ∙ is) ∙ ap (λ (n : Near). Some n.key) (sym there)
]

-- ---- a name goes

pub gone_near : (near : List Near) (k : ℕ) → k < length near → (l : List Name) → AreNear near l → AreNear (set near k nothing) l
gone_near near k low = set_near near k nothing low unknown-apart

-- those at another place aren't the one that goes
pub gone_right : (near : List Near) (k : ℕ) (who : Who) → k ≡ near_place (length near) who → k < length near → (m l : List Name) → AreRight near m →
    ((other : Who) → key_at l other ≡ (if is_same who other then None else key_at m other)) → AreRight (set near k nothing) l
gone_right near k who at low m l right left other few slot is = elim (cases_eq (near_place (length near) other) k) [
  | inl same ↦ unknown_no_rank other few (ap (λ (n : Near). n.rank) (sym (at_place near k nothing other same low)) ∙ is)
  | inr apart ↦
      let there = at_other near k nothing other apart in
      let was = right other few slot (ap (λ (n : Near). n.rank) (sym there) ∙ is) in
      left other ∙ by apart (is_same who other) refl ∙ was ∙ ap (λ (n : Near). Some n.key) (sym there)
]
  where
    by : near_place (length near) other ≢ k → (t : Bool) → is_same who other ≡ t → (if is_same who other then None else key_at m other) ≡ key_at m other
    by apart true e = absurd (apart (ap (near_place (length near)) (sym (same_who who other e)) ∙ sym at))
    by apart false e = rw e refl

-- where there is no place, nothing is known
pub unset_right : (near : List Near) (k : ℕ) (who : Who) → k ≡ near_place (length near) who → length near ≤ k → (m l : List Name) → AreRight near m →
    ((other : Who) → key_at l other ≡ (if is_same who other then None else key_at m other)) → AreRight near l
unset_right near k who at past m l right left other few slot is = left other ∙ by (is_same who other) refl ∙ right other few slot is
  where
    by : (t : Bool) → is_same who other ≡ t → (if is_same who other then None else key_at m other) ≡ key_at m other
    by true e =
        let same : who ≡ other = same_who who other e in
        let place : k ≡ near_place (length near) other = at ∙ ap (near_place (length near)) same in
        let nothing_there = ap (λ n. (get_or near n nothing).rank) (sym place) ∙ ap (λ (n : Near). n.rank) (get_or_past near k nothing past) in
        unknown_no_rank other few (sym nothing_there ∙ is)
    by false e = rw e refl

-- ---- names come

-- one that wasn't there
pub put_right : (near : List Near) (m l : List Name) (who : Who) (key : ℕ) → AreRight near m → key_at m who ≡ None →
    ((other : Who) → key_at l other ≡ (if is_same who other then Some key else key_at m other)) → AreRight near l
put_right near m l who key right none put other few slot is = put other ∙ by (is_same who other) refl ∙ was
  where
    was : key_at m other ≡ Some (near_at near other).key
    was = right other few slot is

    by : (t : Bool) → is_same who other ≡ t → (if is_same who other then Some key else key_at m other) ≡ key_at m other
    by true e = never (sym none ∙ ap (key_at m) (same_who who other e) ∙ was)
      where
        never : {X : Type 0} {n : ℕ} → None ≡ Some n → X
        never is_so = absurd (cc)
    by false e = rw e refl

pub put_near : (near : List Near) (l : List Name) (at : ℕ) (n : Name) → AreNear near l → (near_at near n.who).rank ≢ nobody →
    AreNear near (take at l ++ n ∷ drop at l)
put_near near [] zero n all mine = (mine, tt)
put_near near [] (suc at) n all mine = (mine, tt)
put_near near (x ∷ l) zero n all mine = (mine, all)
put_near near (x ∷ l) (suc at) n all mine = (all.0, put_near near l at n all.1 mine)

pub left_near : (near : List Near) (l : List Name) (at : ℕ) → AreNear near l → AreNear near (take at l ++ drop (suc at) l)
left_near near [] zero all = tt
left_near near [] (suc at) all = tt
left_near near (x ∷ l) zero all = all.1
left_near near (x ∷ l) (suc at) all = (all.0, left_near near l at all.1)

-- ---- all places are made, from the last name on

pub one_near : (near : List Near) (l : List Name) (at : ℕ) (d : Name) → at < length l → (near_at near (get_or l at d).who).rank ≢ nobody →
    AreNear near (drop (suc at) l) → AreNear near (drop at l)
one_near near [] at d low mine all = absurd (omega (arith, low))
one_near near (n ∷ l) zero d low mine all = (mine, all)
one_near near (n ∷ l) (suc at) d low mine all = one_near near l at d (omega (arith, low)) mine all

pub none_left_near : (near : List Near) (l : List Name) → AreNear near (drop (length l) l)
none_left_near near [] = tt
none_left_near near (n ∷ l) = none_left_near near l

-- before that nothing is known
pub fresh_right : (l : List Name) (near : List Near) → ((i : ℕ) (d : Near) → i < length near → (get_or near i d).rank ≡ nobody) → AreRight near l
fresh_right l near fresh who few slot is = by (nat_lt (near_place (length near) who) (length near)) refl
  where
    by : (t : Bool) → nat_lt (near_place (length near) who) (length near) ≡ t → key_at l who ≡ Some (near_at near who).key
    by true e =
        let low = (Decides-ltb (near_place (length near) who) (length near)).0 e in
        nobody_no_rank who few (sym (fresh (near_place (length near) who) nothing low) ∙ is)
    by false e =
        let past = ltb-false (near_place (length near) who) (length near) e in
        unknown_no_rank who few (sym (ap (λ (n : Near). n.rank) (get_or_past near (near_place (length near) who) nothing past)) ∙ is)

-- ---- a name that is found

pub found_near : (near : Near) (l : List Name) (who : Who) (place : List Near) → AreRight place l → near ≡ near_at place who → rank who < 2 ^ 40 →
    who.slot < 256 → near.rank ≡ rank who → key_at l who ≡ Some near.key
found_near near l who place right is few slot mine =
    right who few slot (ap (λ (n : Near). n.rank) (sym is) ∙ mine) ∙ ap (λ (n : Near). Some n.key) (sym is)
