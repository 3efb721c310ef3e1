-- How long the script is, pass by pass.
use Rattle.std.proofs.Common.{◌≡◌, ℕ, zero, suc, ◌+◌, ◌*◌, ◌≤◌, Bool, true, false, cond, ◌||◌, ◌==◌, eqb, IsSome, List, [], ◌∷◌, ◌++◌, length, Option, Some}
use Rattle.std.proofs.Common.{None, option_map, refl, ap, arith, length-append, eqb-true, ◌∙◌}
use Rattle.std.specs.List.{list_any, flat_map}
use Rattle.std.proofs.Math.Nat.{suc-mul, add-mul}
use Rattle.fk_model.specs.Places.{Path, strip, Ptr}
use Rattle.fk_model.specs.Places.Ptr.{Null, Dead, At, Out, Outside, Far}
use Rattle.fk_model.specs.Objects.{Peer, Talk, Fault, Body, kind_of}
use Rattle.fk_model.specs.Objects.Peer.{Server, Service, Parked}
use Rattle.fk_model.specs.Objects.Body.{Mutex, Cond, Mapping, Region, Port, Portset, Space, Thread_of, Reference}
use Rattle.fk_model.specs.World.{World}
use Rattle.fk_model.proofs.walks.PlaceLaws.{strip_some}
use Rattle.fk_model.specs.declared.names.Kind.TheVariants as kinds
use Rattle.fk_model.specs.Records.{record_of}
use Rattle.laws_jobs.specs.Machines.{LiesWithin}
use Rattle.laws_restore.specs.Sites.Orders.{Order}
use Rattle.laws_restore.specs.Sites.Orders.Order.{Leads, LeadsTop, Makes, Sets, Gives, Points, ParksTalk, ParksFault, LinksTalk, RaisesFault, LinksFault, Holds}
use Rattle.laws_restore.specs.Sites.Orders.Order.{Pins}
use Rattle.laws_restore.specs.Sites.Orders.Order.{Takes, Checks}
use Rattle.laws_restore.specs.Restore.Rooms.{Item, Sheet, Room}
use Rattle.laws_restore.specs.Restore.Fits.{there, is_referable, IsWay}
use Rattle.laws_restore.specs.Restore.Script.{P, T, U, padded, next_name, down, root_down, from_root, goes_by, goes_to, leads_by, leads_to_at, through_rooms}
use Rattle.laws_restore.specs.Restore.Script.{after_rooms, makes_space, makes_spaces, stands_at, fills, points_in, points_body, leads_in, is_out_to}
use Rattle.laws_restore.specs.Restore.Script.{is_talk_out}
use Rattle.laws_restore.specs.Restore.Script.{is_fault_out, leads_out, parks_talk, parks_fault, leads_body_out, has, each, leads_out_by, leads_outs, ties_talk}
use Rattle.laws_restore.specs.Restore.Script.{ties_fault, ties_its_talk, ties_its_fault, ties_body, ties_inside, talk_words, fault_words, taken_flag}
use Rattle.laws_restore.specs.Restore.Script.{holds_space}
use Rattle.laws_restore.specs.Restore.Script.{holds_spaces, stands_held, closes, any_room, made_by, filled_by, pointed_by, led_out_by, tied_by, script}
use Rattle.laws_restore.specs.Restore.Roomed.{IsAim, IsPair, IsTakenAim, IsTalkAim, IsFaultAim, AreAims, IsNewSpace, AreItems, AreSpaces, AreRooms, IsRoomed}
use Rattle.laws_restore.specs.Restore.Roomed.{with_items, with_sheets, with_space, with_spaces}
use Rattle.laws_restore.specs.Restore.Restore.{beneath, objects}
use Rattle.laws_restore.specs.Restore.Bounded.{count_of, ScriptIsBounded, RestoreIsBounded}
use Rattle.laws_restore.proofs.InRestore.Counted.{is_counted}

-- ---- sums

unfoldable cost : {A : Type 0} → ℕ → List A → ℕ
cost m [] = zero
cost m (x ∷ xs) = m + cost m xs

unfoldable sum : (Room → ℕ) → List Room → ℕ
sum f [] = zero
sum f (r ∷ rs) = f r + sum f rs

abbrev weight : ℕ → Room → ℕ
weight e r = e + (cost e r.items + cost e r.sheets)

-- so much for each of a list, and for each room
cost_is : {A : Type 0} (m : ℕ) (xs : List A) → cost m xs ≡ length xs * m
unfolding cost
cost_is m [] = omega arith
cost_is m (x ∷ xs) = let rest = cost_is m xs in let product = suc-mul (length xs) m in omega (arith, rest, product)

weight_is : (e : ℕ) (rooms : List Room) → sum (weight e) rooms ≡ count_of rooms * e
unfolding sum
weight_is e [] = omega arith
weight_is e (r ∷ rs) =
    let rest = weight_is e rs in
    let items = cost_is e r.items in
    let sheets = cost_is e r.sheets in
    let a = add-mul (suc (length r.items + length r.sheets)) (count_of rs) e in
    let b = suc-mul (length r.items + length r.sheets) e in
    let f = add-mul (length r.items) (length r.sheets) e in
    omega (arith, rest, items, sheets, a, b, f)

sum_twice : (f : Room → ℕ) (rooms : List Room) → sum (λ r. 2 * f r) rooms ≡ 2 * sum f rooms
unfolding sum
sum_twice f [] = omega arith
sum_twice f (r ∷ rs) = let rest = sum_twice f rs in omega (arith, rest)

sum_six : (f : Room → ℕ) (rooms : List Room) → sum (λ r. 6 * f r) rooms ≡ 6 * sum f rooms
unfolding sum
sum_six f [] = omega arith
sum_six f (r ∷ rs) = let rest = sum_six f rs in omega (arith, rest)

one_each : {A B : Type 0} (f : A → B) (xs : List A) → length (flat_map (λ x. f x ∷ []) xs) ≡ length xs
one_each f [] = refl
one_each f (x ∷ xs) = let rest = one_each f xs in omega (arith, rest)

-- ---- what leads out to a slot of the nester

-- m for each number of an interval that passes a test
unfoldable marks : ℕ → (ℕ → Bool) → ℕ → ℕ → ℕ
marks m f zero i = zero
marks m f (suc n) i = cond (f i) m zero + marks m f n (suc i)

unfoldable outs : ℕ → ℕ → List Item → ℕ
outs m i [] = zero
outs m i (it ∷ is) = cond (leads_out i it.body) m zero + outs m i is

abbrev room_outs : ℕ → ℕ → List Room → ℕ
room_outs m i rooms = sum (λ r. outs m i r.items) rooms

unfoldable all_outs : ℕ → ℕ → ℕ → List Room → ℕ
all_outs m zero i rooms = zero
all_outs m (suc n) i rooms = room_outs m i rooms + all_outs m n (suc i) rooms

unfoldable item_outs : ℕ → ℕ → ℕ → List Item → ℕ
item_outs m zero i is = zero
item_outs m (suc n) i is = outs m i is + item_outs m n (suc i) is

no_marks : (m : ℕ) (f : ℕ → Bool) (n i : ℕ) → ((j : ℕ) → i ≤ j → f j ≡ false) → marks m f n i ≡ 0
unfolding marks
no_marks m f zero i off = refl
no_marks m f (suc n) i off =
    let here = off i (omega arith) in
    let rest = no_marks m f n (suc i) (λ j up. off j (omega (arith, up))) in
    let is = ap (λ (t : Bool). cond t m zero) here in
    omega (arith, rest, is)

out_marks : (m : ℕ) (k n i : ℕ) → marks m (λ j. k == j) n i ≤ m
unfolding marks
out_marks m k zero i = omega arith
out_marks m k (suc n) i = by (k == i) refl (out_marks m k n (suc i))
  where
    by : (t : Bool) → eqb k i ≡ t → marks m (λ j. k == j) n (suc i) ≤ m → cond t m zero + marks m (λ j. k == j) n (suc i) ≤ m
    by true e rest =
        let is = eqb-true k i e in
        let none = no_marks m (λ j. k == j) n (suc i) (λ j up. off j up is (k == j) refl) in
        omega (arith, none)
      where
        off : (j : ℕ) → suc i ≤ j → k ≡ i → (t : Bool) → eqb k j ≡ t → t ≡ false
        off j up is true h = let at = eqb-true k j h in absurd (apart up is at)
          where
            apart : suc i ≤ j → k ≡ i → k ≡ j → ⊥
            apart up is at = omega (arith, up, is, at)
        off j up is false h = refl
    by false e rest = omega (arith, rest)

ptr_marks : (m : ℕ) (p : Ptr) (n i : ℕ) → marks m (λ j. is_out_to j p) n i ≤ m
ptr_marks m (Out k) n i = out_marks m k n i
ptr_marks m Null n i = let none = no_marks m (λ j. is_out_to j Null) n i (λ j up. refl) in omega (arith, none)
ptr_marks m Dead n i = let none = no_marks m (λ j. is_out_to j Dead) n i (λ j up. refl) in omega (arith, none)
ptr_marks m (At z) n i = let none = no_marks m (λ j. is_out_to j (At z)) n i (λ j up. refl) in omega (arith, none)
ptr_marks m Outside n i = let none = no_marks m (λ j. is_out_to j Outside) n i (λ j up. refl) in omega (arith, none)
ptr_marks m Far n i = let none = no_marks m (λ j. is_out_to j Far) n i (λ j up. refl) in omega (arith, none)

talk_marks : (m : ℕ) (o : Option Talk) (n i : ℕ) → marks m (λ j. is_talk_out j o) n i ≤ m
talk_marks m None n i = let none = no_marks m (λ j. is_talk_out j None) n i (λ j up. refl) in omega (arith, none)
talk_marks m (Some talk) n i = ptr_marks m talk.port n i

fault_marks : (m : ℕ) (o : Option Fault) (n i : ℕ) → marks m (λ j. is_fault_out j o) n i ≤ m
fault_marks m None n i = let none = no_marks m (λ j. is_fault_out j None) n i (λ j up. refl) in omega (arith, none)
fault_marks m (Some fault) n i = ptr_marks m fault.port n i

either_marks : (m : ℕ) (f g : ℕ → Bool) (n i : ℕ) → marks m (λ j. f j || g j) n i ≤ marks m f n i + marks m g n i
unfolding marks
either_marks m f g zero i = omega arith
either_marks m f g (suc n) i = let rest = either_marks m f g n (suc i) in let here = by (f i) (g i) in omega (arith, rest, here)
  where
    by : (a b : Bool) → cond (a || b) m zero ≤ cond a m zero + cond b m zero
    by true b = omega arith
    by false b = omega arith

pointer_marks : (m : ℕ) (p : Ptr) (n i : ℕ) → marks m (λ j. is_out_to j p) n i ≤ 2 * m
pointer_marks m p n i = let most = ptr_marks m p n i in omega (arith, most)

-- a body leads out to two slots at most
body_marks : (m : ℕ) (b : Body) (n i : ℕ) → marks m (λ j. leads_out j b) n i ≤ 2 * m
body_marks m (Thread_of t) n i =
    let both = either_marks m (λ j. is_talk_out j t.talk) (λ j. is_fault_out j t.fault) n i in
    let talk = talk_marks m t.talk n i in
    let fault = fault_marks m t.fault n i in
    omega (arith, both, talk, fault)
body_marks m (Mutex locked) n i = pointer_marks m Null n i
body_marks m Cond n i = pointer_marks m Null n i
body_marks m (Mapping w) n i = pointer_marks m w.region n i
body_marks m (Region r) n i = pointer_marks m r.keeper n i
body_marks m (Port set served) n i = pointer_marks m Null n i
body_marks m Portset n i = pointer_marks m Null n i
body_marks m (Space birth holder) n i = pointer_marks m Null n i
body_marks m (Reference to) n i = pointer_marks m to n i

-- sums exchanged
no_items : (m n i : ℕ) → item_outs m n i [] ≡ 0
unfolding item_outs outs
no_items m zero i = refl
no_items m (suc n) i = let rest = no_items m n (suc i) in omega (arith, rest)

more_items : (m n i : ℕ) (it : Item) (is : List Item) → item_outs m n i (it ∷ is) ≡ marks m (λ j. leads_out j it.body) n i + item_outs m n i is
unfolding item_outs outs marks
more_items m zero i it is = refl
more_items m (suc n) i it is = let rest = more_items m n (suc i) it is in omega (arith, rest)

no_rooms : (m n i : ℕ) → all_outs m n i [] ≡ 0
unfolding all_outs sum
no_rooms m zero i = refl
no_rooms m (suc n) i = let rest = no_rooms m n (suc i) in omega (arith, rest)

more_rooms : (m n i : ℕ) (r : Room) (rs : List Room) → all_outs m n i (r ∷ rs) ≡ item_outs m n i r.items + all_outs m n i rs
unfolding all_outs item_outs sum
more_rooms m zero i r rs = refl
more_rooms m (suc n) i r rs = let rest = more_rooms m n (suc i) r rs in omega (arith, rest)

items_most : (e m n i : ℕ) (is : List Item) → m ≤ 7 * e → item_outs m n i is ≤ 14 * cost e is
unfolding cost
items_most e m n i [] h = let none = no_items m n i in omega (arith, none)
items_most e m n i (it ∷ is) h =
    let rest = items_most e m n i is h in
    let more = more_items m n i it is in
    let here = body_marks m it.body n i in
    omega (arith, rest, more, here, h)

outs_most : (e m n i : ℕ) (rooms : List Room) → m ≤ 7 * e → all_outs m n i rooms ≤ 14 * sum (weight e) rooms
unfolding sum
outs_most e m n i [] h = let none = no_rooms m n i in omega (arith, none)
outs_most e m n i (r ∷ rs) h =
    let rest = outs_most e m n i rs h in
    let more = more_rooms m n i r rs in
    let here = items_most e m n i r.items h in
    omega (arith, rest, more, here)

-- one that leads out pays for more
outs_grow : (a m i : ℕ) (is : List Item) → outs m i is ≤ outs (a + m) i is
unfolding outs
outs_grow a m i [] = omega arith
outs_grow a m i (it ∷ is) = let rest = outs_grow a m i is in let here = by (leads_out i it.body) in omega (arith, rest, here)
  where
    by : (t : Bool) → cond t m zero ≤ cond t (a + m) zero
    by true = omega arith
    by false = omega arith

outs_pay : (a m i : ℕ) (is : List Item) → list_any (λ (item : Item). leads_out i item.body) is ≡ true → a + outs m i is ≤ outs (a + m) i is
unfolding outs
outs_pay a m i [] h = cc
outs_pay a m i (it ∷ is) h = by (leads_out i it.body) h (λ later. outs_pay a m i is later)
  where
    by : (t : Bool) → (t || list_any (λ (item : Item). leads_out i item.body) is) ≡ true
        → (list_any (λ (item : Item). leads_out i item.body) is ≡ true → a + outs m i is ≤ outs (a + m) i is) →
        a + (cond t m zero + outs m i is) ≤ cond t (a + m) zero + outs (a + m) i is
    by true h pays = let rest = outs_grow a m i is in omega (arith, rest)
    by false h pays = let rest = pays h in omega (arith, rest)

rooms_grow : (a m i : ℕ) (rooms : List Room) → room_outs m i rooms ≤ room_outs (a + m) i rooms
unfolding sum
rooms_grow a m i [] = omega arith
rooms_grow a m i (r ∷ rs) = let rest = rooms_grow a m i rs in let here = outs_grow a m i r.items in omega (arith, rest, here)

rooms_pay : (a m i : ℕ) (rooms : List Room) → list_any (has (leads_out i)) rooms ≡ true → a + room_outs m i rooms ≤ room_outs (a + m) i rooms
unfolding sum
rooms_pay a m i [] h = cc
rooms_pay a m i (r ∷ rs) h = by (has (leads_out i) r) refl h (λ later. rooms_pay a m i rs later)
  where
    by : (t : Bool) → has (leads_out i) r ≡ t → (t || list_any (has (leads_out i)) rs) ≡ true
        → (list_any (has (leads_out i)) rs ≡ true → a + room_outs m i rs ≤ room_outs (a + m) i rs) →
        a + (outs m i r.items + room_outs m i rs) ≤ outs (a + m) i r.items + room_outs (a + m) i rs
    by true e h pays = let rest = rooms_grow a m i rs in let here = outs_pay a m i r.items e in omega (arith, rest, here)
    by false e h pays = let rest = pays h in let here = outs_grow a m i r.items in omega (arith, rest, here)

-- the orders of one body for one slot
park_talk : (i : ℕ) (bind : ℕ → ℕ) (q : Path) (x : ℕ) (o : Option Talk) → length (parks_talk i bind q x o) ≤ cond (is_talk_out i o) 1 zero
park_talk i bind q x None = omega arith
park_talk i bind q x (Some talk) = by (is_out_to i talk.port)
  where
    by : (t : Bool) → length (cond t (ParksTalk P q x (bind i) (talk_words talk) ∷ []) []) ≤ cond t 1 zero
    by true = omega arith
    by false = omega arith

park_fault : (i : ℕ) (bind : ℕ → ℕ) (q : Path) (x : ℕ) (o : Option Fault) → length (parks_fault i bind q x o) ≤ cond (is_fault_out i o) 1 zero
park_fault i bind q x None = omega arith
park_fault i bind q x (Some fault) = by (is_out_to i fault.port)
  where
    by : (t : Bool) → length (cond t (ParksFault P q x (bind i) (taken_flag fault.taker) (fault_words fault) ∷ []) []) ≤ cond t 1 zero
    by true = omega arith
    by false = omega arith

lead_out : (i : ℕ) (q : Path) (x : ℕ) (p : Ptr) → length (cond (is_out_to i p) (Points P q x T ∷ []) []) ≤ cond (is_out_to i p) 2 zero
lead_out i q x p = by (is_out_to i p)
  where
    by : (t : Bool) → length (cond t (Points P q x T ∷ []) []) ≤ cond t 2 zero
    by true = omega arith
    by false = omega arith

body_out : (i : ℕ) (bind : ℕ → ℕ) (q : Path) (x : ℕ) (b : Body) → length (leads_body_out i bind q x b) ≤ cond (leads_out i b) 2 zero
body_out i bind q x (Thread_of t) =
    let both = length-append (parks_talk i bind q x t.talk) (parks_fault i bind q x t.fault) in
    let talk = park_talk i bind q x t.talk in
    let fault = park_fault i bind q x t.fault in
    let most = by (is_talk_out i t.talk) (is_fault_out i t.fault) in
    omega (arith, both, talk, fault, most)
  where
    by : (a b : Bool) → cond a 1 zero + cond b 1 zero ≤ cond (a || b) 2 zero
    by true true = omega arith
    by true false = omega arith
    by false true = omega arith
    by false false = omega arith
body_out i bind q x (Mutex locked) = lead_out i q x Null
body_out i bind q x Cond = lead_out i q x Null
body_out i bind q x (Mapping w) = lead_out i q x w.region
body_out i bind q x (Region r) = lead_out i q x r.keeper
body_out i bind q x (Port set served) = lead_out i q x Null
body_out i bind q x Portset = lead_out i q x Null
body_out i bind q x (Space birth holder) = lead_out i q x Null
body_out i bind q x (Reference to) = lead_out i q x to

each_out : (i : ℕ) (bind : ℕ → ℕ) (q : Path) (is : List Item)
    → length (flat_map (λ (item : Item). leads_body_out i bind q item.slot item.body) is) ≤ outs 2 i is
unfolding outs
each_out i bind q [] = omega arith
each_out i bind q (it ∷ is) =
    let both = length-append (leads_body_out i bind q it.slot it.body) (flat_map (λ (item : Item). leads_body_out i bind q item.slot item.body) is) in
    let rest = each_out i bind q is in
    let here = body_out i bind q it.slot it.body in
    omega (arith, both, rest, here)

-- ---- ways

down_length : (r s : ℕ) (q w : Path) → length (down r s q w) ≡ length w
unfolding down
down_length r s q [] = refl
down_length r s q (k ∷ w) =
    let rest = down_length r s q w in
    let both = length-append (down r s q w) (Leads r (next_name r s w) (w ++ q) k ∷ []) in
    omega (arith, rest, both)

root_length : (slot r : ℕ) (z : Path) → length (root_down slot r z) ≡ length z
unfolding root_down
root_length slot r [] = refl
root_length slot r (k ∷ z) =
    let rest = root_length slot r z in
    let both = length-append (root_down slot r z) (Leads r (next_name r slot z) z k ∷ []) in
    omega (arith, rest, both)

from_length : (slot r : ℕ) (z : Path) → length (from_root slot r z) ≤ suc (length z)
from_length slot r [] = omega arith
from_length slot r (k ∷ z) = let all = root_length slot r (k ∷ z) in omega (arith, all)

part_length : (p z w : Path) → strip p z ≡ Some w → length w ≤ length z
part_length p z w e =
    let is = ap (λ (y : Path). length y) (strip_some p z w e) in
    let both = length-append w p in
    omega (arith, is, both)

goes_length : (slot : ℕ) (p q : Path) → length (goes_to slot p q) ≤ suc (length q)
goes_length slot p q = by (strip p q) refl
  where
    by : (o : Option Path) → strip p q ≡ o → length (goes_by slot p q o) ≤ suc (length q)
    by None e = from_length slot P q
    by (Some w) e = let all = down_length P P p w in let less = part_length p q w e in omega (arith, all, less)

leads_length : (slot r : ℕ) (p z : Path) → length (leads_to_at slot r p z) ≤ suc (length z)
leads_length slot r p z = by (strip p z) refl
  where
    by : (o : Option Path) → strip p z ≡ o → length (leads_by slot r p z o) ≤ suc (length z)
    by None e = from_length slot r z
    by (Some []) e = from_length slot r z
    by (Some (k ∷ w)) e = let all = down_length r P p (k ∷ w) in let less = part_length p z (k ∷ w) e in omega (arith, all, less)

module _ (slot : ℕ) (bind : ℕ → ℕ) (c : World) (d : ℕ) (deep : LiesWithin c d) where
  way_length : (z : Path) → IsWay (there c) z → length z ≤ d
  way_length [] way = omega arith
  way_length (k ∷ z) way = deep (k ∷ z) (by (c.body (k ∷ z)) way.0)
    where
      by : (o : Option Body) → is_referable (option_map kind_of o) ≡ true → IsSome o
      by (Some b) h = refl
      by None h = cc

  goes_most : (p q : Path) → IsWay (there c) q → length (goes_to slot p q) ≤ suc d
  goes_most p q way = let short = way_length q way in let all = goes_length slot p q in omega (arith, short, all)

  leads_most : (r : ℕ) (p z : Path) → IsWay (there c) z → length (leads_to_at slot r p z) ≤ suc d
  leads_most r p z way = let short = way_length z way in let all = leads_length slot r p z in omega (arith, short, all)

  -- ---- what of the rooms bounds their orders

  abbrev Aimed : List Item → Type 0
  Aimed [] = Unit {0}
  Aimed (i ∷ is) = AreAims bind c i.body × Aimed is

  abbrev Fine : List Room → Type 0
  Fine [] = Unit {0}
  Fine (r ∷ rs) = (IsWay (there c) r.path × Aimed r.items) × Fine rs

  aimed : (q : Path) (is : List Item) (done : List Path) → AreItems bind c q is done → Aimed is
  aimed q [] done its = tt
  aimed q (i ∷ is) done its = (its.0.aims, aimed q is ((i.slot ∷ q) ∷ done) its.2)

  fine : (rooms : List Room) (made : List Path) (given : List (Path × ℕ)) → AreRooms bind c rooms made given → Fine rooms
  fine [] made given are = tt
  fine (r ∷ rs) made given are = (
    (are.0.way, aimed r.path r.items made are.0.items),
    fine rs (with_items r.path r.items made) (with_sheets r.path r.sheets given) are.1,
  )

  -- from room to room
  through : (visits : Room → Bool) (orders : Room → List Order) (f : Room → ℕ) (p : Path) (rooms : List Room) → Fine rooms →
      ((r : Room) → Aimed r.items → visits r ≡ true → suc d + length (orders r) ≤ f r) → length (through_rooms slot visits orders p rooms) ≤ sum f rooms
  unfolding through_rooms sum
  through visits orders f p [] is h = omega arith
  through visits orders f p (r ∷ rs) is h = by (visits r) refl (λ from. through visits orders f from rs is.1 h)
    where
      by : (t : Bool) → visits r ≡ t → ((from : Path) → length (through_rooms slot visits orders from rs) ≤ sum f rs) →
          length (cond t (goes_to slot p r.path ++ (orders r ++ through_rooms slot visits orders r.path rs))
          (through_rooms slot visits orders p rs)) ≤ f r + sum f rs
      by true e later =
          let rest = later r.path in
          let here = h r is.0.1 e in
          let goes = goes_most p r.path is.0.0 in
          let a = length-append (goes_to slot p r.path) (orders r ++ through_rooms slot visits orders r.path rs) in
          let b = length-append (orders r) (through_rooms slot visits orders r.path rs) in
          omega (arith, rest, here, goes, a, b)
      by false e later = let rest = later p in omega (arith, rest)

  -- ---- spaces

  make_length : (p y : Path) (holder : Option Ptr) (made : List Path) → IsNewSpace c y holder made → length (makes_space slot p y) ≤ 2 * suc d
  make_length p [] holder made new = omega arith
  make_length p (k ∷ q) holder made new =
      let goes = goes_most p q new.3 in
      let both = length-append (goes_to slot p q) (Makes P q k kinds.Space ∷ []) in
      omega (arith, goes, both)

  makes_length : (p : Path) (rooms : List Room) (made : List Path) → AreSpaces c rooms made
      → length (makes_spaces slot p rooms) ≤ 2 * sum (weight (suc d)) rooms
  unfolding makes_spaces sum
  makes_length p [] made are = omega arith
  makes_length p (r ∷ rs) made are =
      let rest = makes_length (stands_at p r.path) rs (with_space r.path made) are.1 in
      let here = make_length p r.path r.holder made are.0 in
      let both = length-append (makes_space slot p r.path) (makes_spaces slot (stands_at p r.path) rs) in
      omega (arith, rest, here, both)

  hold_length : (p y : Path) (holder : Option Ptr) (made : List Path) → IsNewSpace c y holder made → length (holds_space slot p y holder) ≤ 3 * suc d
  hold_length p [] holder made new = omega arith
  hold_length p (k ∷ q) None made new = omega arith
  hold_length p (k ∷ q) (Some (At z)) made new =
      let goes = goes_most p q new.3 in
      let leads = leads_most T q z new.6.0 in
      let a = length-append (goes_to slot p q) (leads_to_at slot T q z ++ Holds P q k T z ∷ []) in
      let b = length-append (leads_to_at slot T q z) (Holds P q k T z ∷ []) in
      omega (arith, goes, leads, a, b)
  hold_length p (k ∷ q) (Some Null) made new = omega arith
  hold_length p (k ∷ q) (Some Dead) made new = omega arith
  hold_length p (k ∷ q) (Some (Out i)) made new = omega arith
  hold_length p (k ∷ q) (Some Outside) made new = omega arith
  hold_length p (k ∷ q) (Some Far) made new = omega arith

  holds_length : (p : Path) (rooms : List Room) (made : List Path) → AreSpaces c rooms made
      → length (holds_spaces slot p rooms) ≤ 3 * sum (weight (suc d)) rooms
  unfolding holds_spaces sum
  holds_length p [] made are = omega arith
  holds_length p (r ∷ rs) made are =
      let rest = holds_length (stands_held p r.path r.holder) rs (with_space r.path made) are.1 in
      let here = hold_length p r.path r.holder made are.0 in
      let both = length-append (holds_space slot p r.path r.holder) (holds_spaces slot (stands_held p r.path r.holder) rs) in
      omega (arith, rest, here, both)

  -- ---- records and pages

  cost_more : {A : Type 0} (xs : List A) → length xs ≤ cost (suc d) xs
  unfolding cost
  cost_more [] = omega arith
  cost_more (x ∷ xs) = let rest = cost_more xs in omega (arith, rest)

  fill_length : (r : Room) → suc d + length (fills r) ≤ 2 * weight (suc d) r
  fill_length r =
      let made : List Order = flat_map (λ (i : Item). Makes P r.path i.slot (kind_of i.body) ∷ []) r.items in
      let done : List Order = flat_map (λ (i : Item). Sets P r.path i.slot (padded (record_of i.body)) ∷ []) r.items in
      let given : List Order = flat_map (λ (s : Sheet). Gives P r.path s.number s.words ∷ []) r.sheets in
      let a = length-append made (done ++ given) in
      let b = length-append done given in
      let makes = one_each (λ (i : Item). Makes P r.path i.slot (kind_of i.body)) r.items in
      let sets = one_each (λ (i : Item). Sets P r.path i.slot (padded (record_of i.body))) r.items in
      let gives = one_each (λ (s : Sheet). Gives P r.path s.number s.words) r.sheets in
      let items = cost_more r.items in
      let sheets = cost_more r.sheets in
      omega (arith, a, b, makes, sets, gives, items, sheets)

  -- ---- pointers, talks and faults inside

  each_length : (orders : Path → ℕ → Body → List Order) (k : ℕ) (q : Path) (is : List Item) → Aimed is
      → ((x : ℕ) (b : Body) → AreAims bind c b → length (orders q x b) ≤ k) →
      length (flat_map (λ (item : Item). orders q item.slot item.body) is) ≤ cost k is
  unfolding cost
  each_length orders k q [] aims h = omega arith
  each_length orders k q (it ∷ is) aims h =
      let both = length-append (orders q it.slot it.body) (flat_map (λ (item : Item). orders q item.slot item.body) is) in
      let rest = each_length orders k q is aims.1 h in
      let here = h it.slot it.body aims.0 in
      omega (arith, both, rest, here)

  cost_twice : {A : Type 0} (e : ℕ) (xs : List A) → cost (2 * e) xs ≡ 2 * cost e xs
  unfolding cost
  cost_twice e [] = omega arith
  cost_twice e (x ∷ xs) = let rest = cost_twice e xs in omega (arith, rest)

  cost_six : {A : Type 0} (e : ℕ) (xs : List A) → cost (6 * e) xs ≡ 6 * cost e xs
  unfolding cost
  cost_six e [] = omega arith
  cost_six e (x ∷ xs) = let rest = cost_six e xs in omega (arith, rest)

  point_length : (q : Path) (x : ℕ) (b : Body) (p : Ptr) → IsAim bind c b p → length (points_in slot q x p) ≤ 2 * suc d
  point_length q x b (At z) aim =
      let leads = leads_most T q z aim.0 in
      let both = length-append (leads_to_at slot T q z) (Points P q x T ∷ []) in
      omega (arith, leads, both)
  point_length q x b Dead aim = omega arith
  point_length q x b Null aim = omega arith
  point_length q x b (Out i) aim = omega arith
  point_length q x b Outside aim = omega arith
  point_length q x b Far aim = omega arith

  body_points : (q : Path) (x : ℕ) (b : Body) → AreAims bind c b → length (points_body slot q x b) ≤ 2 * suc d
  body_points q x (Thread_of t) aims = omega arith
  body_points q x (Mutex locked) aims = omega arith
  body_points q x Cond aims = omega arith
  body_points q x (Mapping w) aims = point_length q x (Mapping w) w.region aims
  body_points q x (Region r) aims = point_length q x (Region r) r.keeper aims
  body_points q x (Port set served) aims = omega arith
  body_points q x Portset aims = omega arith
  body_points q x (Space birth holder) aims = omega arith
  body_points q x (Reference to) aims = point_length q x (Reference to) to aims

  room_points : (r : Room) → Aimed r.items → suc d + length (each (points_body slot) r) ≤ 2 * weight (suc d) r
  room_points r aims =
      let all = each_length (points_body slot) (2 * suc d) r.path r.items aims (λ x b aim. body_points r.path x b aim) in
      let twice = cost_twice (suc d) r.items in
      omega (arith, all, twice)

  talk_length : (q : Path) (x : ℕ) (talk : Talk) (port : Ptr) (peer : Peer) → IsPair bind c port peer → length (ties_talk slot q x talk port peer) ≤ 3 * suc d
  talk_length q x talk (At port) (Server (At server)) pair =
      let a = leads_most T q port pair.0 in
      let b = leads_most U q server pair.2 in
      let f = length-append (leads_to_at slot T q port) (leads_to_at slot U q server ++ LinksTalk P q x T U port server (talk_words talk) ∷ []) in
      let g = length-append (leads_to_at slot U q server) (LinksTalk P q x T U port server (talk_words talk) ∷ []) in
      omega (arith, a, b, f, g)
  talk_length q x talk (At port) (Server Null) pair = omega arith
  talk_length q x talk (At port) (Server Dead) pair = omega arith
  talk_length q x talk (At port) (Server (Out i)) pair = omega arith
  talk_length q x talk (At port) (Server Outside) pair = omega arith
  talk_length q x talk (At port) (Server Far) pair = omega arith
  talk_length q x talk (At port) Service pair = omega arith
  talk_length q x talk (At port) Parked pair = omega arith
  talk_length q x talk Null peer pair = omega arith
  talk_length q x talk Dead peer pair = omega arith
  talk_length q x talk (Out i) peer pair = omega arith
  talk_length q x talk Outside peer pair = omega arith
  talk_length q x talk Far peer pair = omega arith

  fault_length : (q : Path) (x : ℕ) (fault : Fault) (port : Ptr) (taker : Option Peer) → IsTakenAim bind c port taker
      → length (ties_fault slot q x fault port taker) ≤ 3 * suc d
  fault_length q x fault (At port) None aim =
      let a = leads_most T q port aim.0 in
      let f = length-append (leads_to_at slot T q port) (RaisesFault P q x T port (fault_words fault) ∷ []) in
      omega (arith, a, f)
  fault_length q x fault (At port) (Some (Server (At taker))) pair =
      let a = leads_most T q port pair.0 in
      let b = leads_most U q taker pair.2 in
      let f = length-append (leads_to_at slot T q port) (leads_to_at slot U q taker ++ LinksFault P q x T U port taker (fault_words fault) ∷ []) in
      let g = length-append (leads_to_at slot U q taker) (LinksFault P q x T U port taker (fault_words fault) ∷ []) in
      omega (arith, a, b, f, g)
  fault_length q x fault (At port) (Some (Server Null)) pair = omega arith
  fault_length q x fault (At port) (Some (Server Dead)) pair = omega arith
  fault_length q x fault (At port) (Some (Server (Out i))) pair = omega arith
  fault_length q x fault (At port) (Some (Server Outside)) pair = omega arith
  fault_length q x fault (At port) (Some (Server Far)) pair = omega arith
  fault_length q x fault (At port) (Some Service) pair = omega arith
  fault_length q x fault (At port) (Some Parked) pair = omega arith
  fault_length q x fault Null taker pair = omega arith
  fault_length q x fault Dead taker pair = omega arith
  fault_length q x fault (Out i) taker pair = omega arith
  fault_length q x fault Outside taker pair = omega arith
  fault_length q x fault Far taker pair = omega arith

  its_talk : (q : Path) (x : ℕ) (o : Option Talk) → IsTalkAim bind c o → length (ties_its_talk slot q x o) ≤ 3 * suc d
  its_talk q x None aim = omega arith
  its_talk q x (Some talk) aim = talk_length q x talk talk.port talk.peer aim

  its_fault : (q : Path) (x : ℕ) (o : Option Fault) → IsFaultAim bind c o → length (ties_its_fault slot q x o) ≤ 3 * suc d
  its_fault q x None aim = omega arith
  its_fault q x (Some fault) aim = fault_length q x fault fault.port fault.taker aim

  body_ties : (q : Path) (x : ℕ) (b : Body) → AreAims bind c b → length (ties_body slot q x b) ≤ 6 * suc d
  body_ties q x (Thread_of t) aims =
      let talk = its_talk q x t.talk aims.0 in
      let fault = its_fault q x t.fault aims.1 in
      let both = length-append (ties_its_talk slot q x t.talk) (ties_its_fault slot q x t.fault) in
      omega (arith, talk, fault, both)
  body_ties q x (Mutex locked) aims = omega arith
  body_ties q x Cond aims = omega arith
  body_ties q x (Mapping w) aims = omega arith
  body_ties q x (Region r) aims = omega arith
  body_ties q x (Port set served) aims = omega arith
  body_ties q x Portset aims = omega arith
  body_ties q x (Space birth holder) aims = omega arith
  body_ties q x (Reference to) aims = omega arith

  room_ties : (r : Room) → Aimed r.items → suc d + length (each (ties_body slot) r) ≤ 6 * weight (suc d) r
  room_ties r aims =
      let all = each_length (ties_body slot) (6 * suc d) r.path r.items aims (λ x b aim. body_ties r.path x b aim) in
      let six = cost_six (suc d) r.items in
      omega (arith, all, six)

  -- ---- pointers to ports outside

  out_length : (p : Path) (i : ℕ) (rooms : List Room) → Fine rooms → length (leads_out_by slot bind rooms p i) ≤ room_outs (4 + (suc d + 2)) i rooms
  out_length p i rooms is = by (list_any (has (leads_out i)) rooms) refl
    where
      one : (r : Room) → Aimed r.items → has (leads_out i) r ≡ true → suc d + length (each (leads_body_out i bind) r) ≤ outs (suc d + 2) i r.items
      one r aims e =
          let all = each_out i bind r.path r.items in
          let pay = outs_pay (suc d) 2 i r.items e in
          omega (arith, all, pay)

      by : (t : Bool) → list_any (has (leads_out i)) rooms ≡ t →
          length (cond t ((Pins (bind i) ∷ Takes T ∷ Checks T (bind i) ∷ [])
          ++ (through_rooms slot (has (leads_out i)) (each (leads_body_out i bind)) p rooms ++ LeadsTop T ∷ [])) []) ≤ room_outs (4 + (suc d + 2)) i rooms
      by true e =
          let all = through (has (leads_out i)) (each (leads_body_out i bind)) (λ r. outs (suc d + 2) i r.items) p rooms is one in
          let pay = rooms_pay 4 (suc d + 2) i rooms e in
          let both = length-append (through_rooms slot (has (leads_out i)) (each (leads_body_out i bind)) p rooms) (LeadsTop T ∷ []) in
          omega (arith, all, pay, both)
      by false e = omega arith

  outs_length : (rooms : List Room) (p : Path) (n i : ℕ) → Fine rooms → length (leads_outs slot bind rooms p n i) ≤ all_outs (4 + (suc d + 2)) n i rooms
  unfolding leads_outs all_outs
  outs_length rooms p zero i is = omega arith
  outs_length rooms p (suc n) i is =
      let rest = outs_length rooms (after_rooms (has (leads_out i)) p rooms) n (suc i) is in
      let here = out_length p i rooms is in
      let both = length-append (leads_out_by slot bind rooms p i) (leads_outs slot bind rooms (after_rooms (has (leads_out i)) p rooms) n (suc i)) in
      omega (arith, rest, here, both)

  -- ---- all of it

  all_length : (rooms : List Room) → IsRoomed bind c rooms → length (script slot bind rooms) ≤ 16 + 29 * sum (weight (suc d)) rooms
  unfolding script
  all_length rooms its =
      let is = fine rooms (with_spaces rooms []) [] its.filled in
      let total = sum (weight (suc d)) rooms in
      let makes = makes_length [] rooms [] its.spaces in
      let fill = through any_room fills (λ r. 2 * weight (suc d) r) (made_by rooms) rooms is (λ r aims e. fill_length r) in
      let point = through (has leads_in) (each (points_body slot)) (λ r. 2 * weight (suc d) r) (filled_by rooms) rooms is (λ r aims e. room_points r aims) in
      let out = outs_length rooms (pointed_by rooms) 240 0 is in
      let out_most = outs_most (suc d) (4 + (suc d + 2)) 240 0 rooms (omega arith) in
      let tie = through (has ties_inside) (each (ties_body slot)) (λ r. 6 * weight (suc d) r) (led_out_by rooms) rooms is (λ r aims e. room_ties r aims) in
      let hold = holds_length (tied_by rooms) rooms [] its.spaces in
      let twice = sum_twice (weight (suc d)) rooms in
      let six = sum_six (weight (suc d)) rooms in
      let holding = holds_spaces slot (tied_by rooms) rooms ++ closes in
      let tying = through_rooms slot (has ties_inside) (each (ties_body slot)) (led_out_by rooms) rooms ++ holding in
      let leading = leads_outs slot bind rooms (pointed_by rooms) 240 0 ++ tying in
      let pointing = through_rooms slot (has leads_in) (each (points_body slot)) (filled_by rooms) rooms ++ leading in
      let filling = through_rooms slot any_room fills (made_by rooms) rooms ++ pointing in
      let l1 = length-append (makes_spaces slot [] rooms) filling in
      let l2 = length-append (through_rooms slot any_room fills (made_by rooms) rooms) pointing in
      let l3 = length-append (through_rooms slot (has leads_in) (each (points_body slot)) (filled_by rooms) rooms) leading in
      let l4 = length-append (leads_outs slot bind rooms (pointed_by rooms) 240 0) tying in
      let l5 = length-append (through_rooms slot (has ties_inside) (each (ties_body slot)) (led_out_by rooms) rooms) holding in
      let l6 = length-append (holds_spaces slot (tied_by rooms) rooms) closes in
      omega (arith, makes, fill, point, out, out_most, tie, hold, twice, six, l1, l2, l3, l4, l5, l6)

one_at_most : (q : Path) → beneath q ≤ 1
one_at_most [] = omega arith
one_at_most (k ∷ q) = omega arith

fewer : (rooms : List Room) → objects rooms ≤ count_of rooms
fewer [] = omega arith
fewer (r ∷ rs) = let rest = fewer rs in let here = one_at_most r.path in omega (arith, rest, here)

-- one more than so many, each at least 1
rises : (n d : ℕ) → n * suc d + suc d ≤ (n + 1) * (d + 1)
rises n d = let product = suc-mul n (suc d) in let is : (n + 1) * (d + 1) ≡ suc n * suc d = ap (λ (k : ℕ). k * (d + 1)) (omega arith)
    ∙ ap (λ (k : ℕ). suc n * k) (omega arith) in omega (arith, product, is)

at_least : (n d : ℕ) → n ≤ n * suc d
at_least zero d = omega arith
at_least (suc n) d = let rest = at_least n d in let product = suc-mul n (suc d) in omega (arith, rest, product)

pub script_is_bounded : ScriptIsBounded
script_is_bounded slot bind c rooms d its deep =
    let all = all_length slot bind c d deep rooms its in
    let is = weight_is (suc d) rooms in
    let most = rises (count_of rooms) d in
    omega (arith, all, is, most)

pub restore_is_bounded : RestoreIsBounded
restore_is_bounded slot bind c rooms d w v nester t its deep work =
    let calls = is_counted slot bind rooms w v nester t work in
    let all = script_is_bounded slot bind c rooms d its deep in
    let objects_few = fewer rooms in
    let least = at_least (count_of rooms) d in
    let most = rises (count_of rooms) d in
    omega (arith, calls, all, objects_few, least, most)
