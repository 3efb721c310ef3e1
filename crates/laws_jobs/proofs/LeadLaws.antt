-- What leads in stays; so does the place at which a subtree isn't closed.
use Rattle.std.proofs.Common.{◌≡◌, ℕ, zero, suc, ◌+◌, ◌≤◌, Bool, true, false, cond, not, ◌&&◌, ◌||◌, nat_lt, is_some, List, [], ◌∷◌, ◌++◌, Option, Some, None}
use Rattle.std.proofs.Common.{filter, count_by, refl, sym, ap, arith, ◌∙◌, inl, inr}
use Rattle.std.specs.List.{list_any, sum_by}
use Rattle.std.proofs.lemmas.Bool.{and_parts}
use Rattle.std.proofs.lemmas.List.Sums.{sum_by-cons}
use Rattle.std.proofs.lemmas.Bool.Decides.{nat_tests}
use Rattle.fk_model.specs.declared.limits.TheConstants.{LAST_PORTER_SLOT}
use Rattle.fk_model.specs.Places.{Path, is_within, leads_to}
use Rattle.fk_model.specs.Places.Ptr.{At}
use Rattle.fk_model.specs.Objects.{Body, or_else}
use Rattle.fk_model.specs.World.{World}
use Rattle.fk_model.specs.Searches.{pointers, pointers_to, objects, depth}
use Rattle.fk_model.specs.Holds.{holder_of, is_frozen_for}
use Rattle.fk_model.specs.Freezing.{body_pointers}
use Rattle.fk_model.specs.ObjectRows.{is_scratch, counts_from}
use Rattle.fk_model.specs.Moves.{outcome, step}
use Rattle.fk_model.specs.Runs.{Event, after}
use Rattle.fk_model.specs.Valid.{IsValid}
use Rattle.fk_model.specs.Closed.{is_holders_scratch, leads_in_from, is_led_to, open_field, first_place, open_place, far_field, when_bad, led_to_from_outside}
use Rattle.fk_model.specs.Cut.{cut}
use Rattle.fk_model.proofs.walks.Members.{IsIn, any_in, of_any}
use Rattle.fk_model.proofs.walks.WalkLaws.{in_objects}
use Rattle.laws_moves.proofs.InMachine.safety.Moves.{outcome-safe}
use Rattle.laws_moves.proofs.InMachine.validity.Steps.{facts_of, step_keeps_valid_lem}
use Rattle.laws_moves.specs.Frozen.Frozen.{IsFrozenMove}
use Rattle.laws_moves.specs.Frozen.Holding.{IsHolding, IsUsersMove}
use Rattle.laws_moves.proofs.InFrozen.Users.{users_name_low}
use Rattle.laws_moves.proofs.InFrozen.FrozenLaws.{frozen_cut_stays, frozen_subtree_stays}
use Rattle.laws_moves.proofs.InFrozen.once.Moves.{users_touch_once}
use Rattle.laws_jobs.specs.Leads.{LeadsIn, IsLed, IsUnledAt, OthersKeepLeads, OthersKeepUnled, OthersKeepOpenPlace, CountsTell}
use Rattle.laws_jobs.proofs.Unled.{outcome_unled, held_frozen}
use Rattle.laws_jobs.proofs.Kept.{outcome_kept}

clash : (P : Type 0) (b : Bool) → b ≡ true → b ≡ false → P
clash P b on off = let both : true ≡ false = sym on ∙ off in cc

-- ---- a count above 0 and a pointer that leads there

any_counted : {A : Type 0} (test : A → Bool) (xs : List A) → nat_lt 0 (count_by test xs) ≡ list_any test xs
any_counted test [] = refl
any_counted {A} test (x ∷ xs) = ap (nat_lt 0) (sum_by-cons (λ x. cond {A = ℕ} (test x) 1 0) x xs) ∙ by (test x) (any_counted test xs)
  where
    by : (t : Bool) → nat_lt 0 (count_by test xs) ≡ list_any test xs → nat_lt 0 (cond t 1 0 + count_by test xs) ≡ (t || list_any test xs)
    by true rest = grind (arith, nat_tests)
    by false rest = ap (nat_lt 0) (let none : 0 + count_by test xs ≡ count_by test xs = omega arith in none) ∙ rest

pub pointers_any : (z : Path) (o : Option Body) → nat_lt 0 (pointers_to z o) ≡ list_any (leads_to z) (body_pointers o)
pointers_any z None = refl
pointers_any z (Some b) = any_counted (leads_to z) (pointers b)

module _ (nester : Path) (slot : ℕ) (w : World) (held : holder_of (w.body (slot ∷ nester)) ≡ Some (At (LAST_PORTER_SLOT ∷ nester))) where
  abbrev root : Path
  root = slot ∷ nester

  pub holders : (x : Path) → is_holders_scratch w root x ≡ is_scratch nester x
  holders x = rw held refl

  -- what is sought in the list
  pub test_is : (z x : Path) → leads_in_from w root z x
      ≡ (not (is_within root x) && not (is_scratch nester x) && list_any (leads_to z) (body_pointers (w.body x)))
  test_is z x = rw (holders x, pointers_any z (w.body x)) refl

  parts : (z x : Path) → leads_in_from w root z x ≡ true → LeadsIn nester slot w z x
  parts z x h =
      let both = and_parts (not (is_within root x) && not (is_scratch nester x)) (list_any (leads_to z) (body_pointers (w.body x))) (sym (test_is z x) ∙ h) in
      let first = and_parts (not (is_within root x)) (not (is_scratch nester x)) both.0 in
      record { outside = not_off (is_within root x) first.0; scratch = not_off (is_scratch nester x) first.1; leads = both.1 }
    where
      not_off : (b : Bool) → not b ≡ true → b ≡ false
      not_off true h = cc
      not_off false h = refl

  pub some_leads : (z : Path) → is_led_to w root z ≡ true → IsLed nester slot w z
  some_leads z h = let found = of_any (leads_in_from w root z) ([] ∷ objects w) h in (found.0, parts z found.0 found.2)

  module _ (valid : IsValid w) (few : w.next ≤ depth) where
    pub leads_found : (z y : Path) → LeadsIn nester slot w z y → is_led_to w root z ≡ true
    leads_found z y its = any_in (leads_in_from w root z) y ([] ∷ objects w) (listed y its.leads) (test_is z y ∙ rw (its.outside, its.scratch, its.leads) refl)
      where
        listed : (y : Path) → list_any (leads_to z) (body_pointers (w.body y)) ≡ true → IsIn y ([] ∷ objects w)
        listed [] h = inl refl
        listed (k ∷ s) h = inr (in_objects w valid.consistent valid.rooted few k s (live (w.body (k ∷ s)) h))
          where
            live : (o : Option Body) → list_any (leads_to z) (body_pointers o) ≡ true → is_some o ≡ true
            live None h = cc
            live (Some b) h = refl

    pub none_leads : (z : Path) → is_led_to w root z ≡ false → IsUnledAt nester slot z w
    none_leads z off y out scratch = by (list_any (leads_to z) (body_pointers (w.body y))) refl
      where
        by : (t : Bool) → list_any (leads_to z) (body_pointers (w.body y)) ≡ t → t ≡ false
        by false e = refl
        by true e = clash (true ≡ false) (is_led_to w root z) (leads_found z y (record { outside = out; scratch = scratch; leads = e })) off

-- ---- others

module _ (nester : Path) (slot : ℕ) (w : World) (e : Event) (holding : IsHolding nester slot w) (moves : IsUsersMove nester w e)
    (few : (after w e).next ≤ depth) where
  abbrev top : Path
  top = slot ∷ nester

  frozen : is_frozen_for w e.mover top ≡ true
  frozen = held_frozen nester slot w e.mover holding moves.other

  frozen_move : IsFrozenMove w top e.mover e.pick e.ask
  frozen_move = record { valid = moves.valid; few = moves.few; fit = moves.fit; ready = moves.ready; frozen = frozen }

  held_after : holder_of ((after w e).body top) ≡ Some (At (LAST_PORTER_SLOT ∷ nester))
  held_after = ap holder_of ((frozen_subtree_stays w top e.mover e.pick e.ask frozen_move).bodies []) ∙ holding.holder

  valid_after : IsValid (after w e)
  valid_after = step_keeps_valid_lem w e.mover e.pick e.ask moves.valid moves.few moves.fit

  led_after : (q : Path) → IsLed nester slot w (q ++ top) → IsLed nester slot (after w e) (q ++ top)
  unfolding step
  led_after q led =
      outcome_kept nester slot w e.mover moves.valid.consistent frozen q (outcome w e.mover e.pick e.ask) moves.ready
      (outcome-safe w e.mover e.pick e.ask (facts_of w moves.valid moves.few) moves.fit)
      (users_name_low w e.mover e.pick e.ask moves.valid.rooted moves.users) (users_touch_once w e.mover e.pick e.ask moves.valid.rooted.root moves.users) led

  unled_after : (q : Path) → IsUnledAt nester slot (q ++ top) w → IsUnledAt nester slot (q ++ top) (after w e)
  unfolding step
  unled_after q unled =
      outcome_unled nester slot w e.mover moves.valid.consistent frozen q (outcome w e.mover e.pick e.ask) moves.ready
      (outcome-safe w e.mover e.pick e.ask (facts_of w moves.valid moves.few) moves.fit)
      (users_name_low w e.mover e.pick e.ask moves.valid.rooted moves.users) unled

  leads_stay : (q : Path) → is_led_to (after w e) top (q ++ top) ≡ is_led_to w top (q ++ top)
  leads_stay q = by (is_led_to w top (q ++ top)) refl
    where
      by : (t : Bool) → is_led_to w top (q ++ top) ≡ t → is_led_to (after w e) top (q ++ top) ≡ t
      by true on = let its = led_after q (some_leads nester slot w holding.holder (q ++ top) on) in
          leads_found nester slot (after w e) held_after valid_after few (q ++ top) its.0 its.1
      by false off = none (is_led_to (after w e) top (q ++ top)) refl
        where
          none : (t : Bool) → is_led_to (after w e) top (q ++ top) ≡ t → t ≡ false
          none false off = refl
          none true on =
              let its = some_leads nester slot (after w e) held_after (q ++ top) on in
              clash (true ≡ false) _ its.1.leads (unled_after q
              (none_leads nester slot w holding.holder moves.valid moves.few (q ++ top) off) its.0 its.1.outside its.1.scratch)

pub others_keep_leads : OthersKeepLeads
others_keep_leads nester slot w e holding moves few q = leads_stay nester slot w e holding moves few q

pub others_keep_unled : OthersKeepUnled
unfolding step
others_keep_unled nester slot w e holding moves unled q =
    outcome_unled nester slot w e.mover moves.valid.consistent (held_frozen nester slot w e.mover holding moves.other) q
    (outcome w e.mover e.pick e.ask) moves.ready
    (outcome-safe w e.mover e.pick e.ask (facts_of w moves.valid moves.few) moves.fit) (users_name_low w e.mover e.pick e.ask moves.valid.rooted moves.users)
    (unled q)

-- ---- where the subtree isn't closed

first_same : (f g : Path → Option ℕ) → ((q : Path) → f q ≡ g q) → (slot : ℕ) (qs : List Path) → first_place f slot qs ≡ first_place g slot qs
first_same f g same slot [] = refl
first_same f g same slot (q ∷ qs) = rw (same q, first_same f g same slot qs) refl

-- the cut and what leads in are all of it
pub open_same : (w v : World) (nester : Path) (slot : ℕ) → cut v nester slot ≡ cut w nester slot
    → ((q : Path) → is_led_to v (slot ∷ nester) (q ++ slot ∷ nester) ≡ is_led_to w (slot ∷ nester) (q ++ slot ∷ nester)) →
    open_place v nester slot ≡ open_place w nester slot
unfolding open_place
open_same w v nester slot same leads =
    ap (λ (c : World). first_place (open_field v nester slot) slot ([] ∷ objects c)) same
    ∙ first_same (open_field v nester slot) (open_field w nester slot)
    (λ q. ap (λ (c : World). or_else (far_field (c.body q)) (when_bad (is_led_to v (slot ∷ nester) (q ++ slot ∷ nester)) led_to_from_outside)) same
    ∙ ap (λ (t : Bool). or_else (far_field ((cut w nester slot).body q)) (when_bad t led_to_from_outside)) (leads q)) slot ([] ∷ objects (cut w nester slot))

pub others_keep_open_place : OthersKeepOpenPlace
others_keep_open_place nester slot w e holding moves few =
    open_same w (after w e) nester slot (frozen_cut_stays w nester slot e.mover e.pick e.ask (frozen_move nester slot w e holding moves few))
    (leads_stay nester slot w e holding moves few)

-- ---- what `count_in` tells

module _ (test : Path → Bool) (f : Path → ℕ) where
  sum_any : (xs : List Path) → nat_lt 0 (sum_by f (filter test xs)) ≡ list_any (λ x. test x && nat_lt 0 (f x)) xs
  sum_any [] = refl
  sum_any (x ∷ xs) = by (test x) (sum_any xs)
    where
      plus : (n m : ℕ) → nat_lt 0 (n + m) ≡ (nat_lt 0 n || nat_lt 0 m)
      plus zero m = let none : 0 + m ≡ m = omega arith in ap (nat_lt 0) none
      plus (suc n) m = grind (arith, nat_tests)

      by : (t : Bool) → nat_lt 0 (sum_by f (filter test xs)) ≡ list_any (λ x. test x && nat_lt 0 (f x)) xs →
          nat_lt 0 (sum_by f (cond t (x ∷ filter test xs) (filter test xs))) ≡ ((t && nat_lt 0 (f x)) || list_any (λ x. test x && nat_lt 0 (f x)) xs)
      by true rest = ap (nat_lt 0) (sum_by-cons f x (filter test xs)) ∙ plus (f x) (sum_by f (filter test xs)) ∙ ap (λ (b : Bool). nat_lt 0 (f x) || b) rest
      by false rest = rest

any_same : (f g : Path → Bool) → ((x : Path) → f x ≡ g x) → (xs : List Path) → list_any f xs ≡ list_any g xs
any_same f g same [] = refl
any_same f g same (x ∷ xs) = rw (same x, any_same f g same xs) refl

pub counts_tell : CountsTell
counts_tell nester slot w held z =
    sum_any (counts_from (slot ∷ nester) nester) (λ q. pointers_to z (w.body q)) ([] ∷ objects w)
    ∙ any_same (λ x. counts_from (slot ∷ nester) nester x && nat_lt 0 (pointers_to z (w.body x))) (leads_in_from w (slot ∷ nester) z)
    (λ x. rw (holders nester slot w held x) refl) ([] ∷ objects w)
