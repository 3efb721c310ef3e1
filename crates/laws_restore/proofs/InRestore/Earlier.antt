-- A slot of the nester to which the script has led its pin before is used by what it has built since.
use Rattle.std.proofs.Common.{◌≡◌, ℕ, zero, suc, ◌+◌, ◌<◌, ◌≤◌, Bool, true, false, cond, ◌||◌, ◌==◌, ◌⊎◌, inl, inr, List, [], ◌∷◌, ◌++◌, Option, Some, None}
use Rattle.std.proofs.Common.{refl, sym, ap, subst, arith, eqb-true, ◌∙◌}
use Rattle.std.specs.List.{list_any}
use Rattle.std.proofs.lemmas.Bool.{or_cases}
use Rattle.std.proofs.lemmas.List.{append_assoc, append-nil, append_cancel_right}
use Rattle.std.proofs.lemmas.List.Folds.{list_any-append}
use Rattle.fk_model.specs.declared.limits.TheConstants.{LAST_USER_SLOT}
use Rattle.fk_model.specs.Places.{Path}
use Rattle.fk_model.specs.World.{World}
use Rattle.fk_model.specs.Rebind.{rebound}
use Rattle.laws_restore.specs.Sites.Orders.{Site, Order, does, does_all}
use Rattle.laws_restore.specs.Sites.Orders.Order.{LeadsTop, Pins, Takes, Checks}
use Rattle.laws_restore.specs.Sites.Begun.{first}
use Rattle.laws_restore.specs.Restore.Rooms.{Room}
use Rattle.laws_restore.specs.Restore.Script.{T, has, each, through_rooms, after_rooms, leads_out, leads_outs, after_outs, ties_body, ties_inside, holds_spaces}
use Rattle.laws_restore.specs.Restore.Script.{after_holds, made_by, filled_by, pointed_by, led_out_by, tied_by, opens, closes, script}
use Rattle.laws_restore.specs.Restore.Stages.{nothing_led, led_below, all_led, building}
use Rattle.laws_restore.specs.Restore.Roomed.{with_spaces, IsRoomed}
use Rattle.laws_restore.proofs.InRestore.Ways.{SafeAt, SafeAll, Runs}
use Rattle.laws_restore.proofs.InRestore.Leaving.{Good, Leaves}
use Rattle.laws_restore.proofs.InRestore.Filled.{spaces_made}
use Rattle.laws_restore.proofs.InRestore.Outward.{opens_slot, closes_slot}
use Rattle.laws_restore.proofs.InRestore.Standing.{pass_done}
use Rattle.laws_restore.proofs.InRestore.Led.{after_none}
use Rattle.laws_restore.proofs.InRestore.Whole.{begun, begins_runs, begins_good, spaces, at, half, pass, filled, led_inside, pass_led, tied, held, cleared}
use Rattle.laws_restore.proofs.InRestore.Whole.{passes}
use Rattle.laws_restore.proofs.InRestore.Whole.{slot_idle}
use Rattle.laws_restore.proofs.InRestore.Used.{IsUsed, used_below}

-- ---- to which slots the pin is led

abbrev pub pinned : Order → List ℕ
pinned (Pins j) = j ∷ []
pinned other = []

abbrev pub pins : List Order → List ℕ
pins [] = []
pins (o ∷ os) = pinned o ++ pins os

abbrev pub is_past : ℕ → List ℕ → Bool
is_past j past = list_any (λ k. k == j) past

-- with these behind it, an order leads the pin nowhere again but where something leads
abbrev pub MayLook : List ℕ → Order → Site → Type 0
MayLook past (Pins j) g = is_past j past ≡ true → IsUsed j g
MayLook past other g = Unit {0}

abbrev pub LookedAll : List ℕ → List Order → Site → Type 0
LookedAll past [] g = Unit {0}
LookedAll past (o ∷ os) g = MayLook past o g × LookedAll (past ++ pinned o) os (does o g)

looked_append : (past : List ℕ) (os ps : List Order) (g : Site) → LookedAll past os g → LookedAll (past ++ pins os) ps (does_all os g)
    → LookedAll past (os ++ ps) g
unfolding does_all
looked_append past [] ps g before then = subst (λ (q : List ℕ). LookedAll q ps g) (append-nil past) then
looked_append past (o ∷ os) ps g before then = (
  before.0,
  looked_append (past ++ pinned o) os ps (does o g) before.1
      (subst (λ (q : List ℕ). LookedAll q ps (does_all os (does o g))) (sym (append_assoc past (pinned o) (pins os))) then),
)

-- ---- orders that look for no port

abbrev pub Never : ℕ → Site → Type 0
Never j g = ⊥

unpinned : (o : Order) (g : Site) → SafeAt Never o g → pinned o ≡ []
unpinned (Pins j) g safe = absurd safe
unpinned o g safe = refl

may_look : (past : List ℕ) (o : Order) (g : Site) → SafeAt Never o g → MayLook past o g
may_look past (Pins j) g safe = absurd safe
may_look past o g safe = tt

blind : (os : List Order) (g : Site) → SafeAll Never os g → pins os ≡ []
blind [] g safe = refl
blind (o ∷ os) g safe = rw (unpinned o g safe.0) (blind os (does o g) safe.1)

blind_looked : (past : List ℕ) (os : List Order) (g : Site) → SafeAll Never os g → LookedAll past os g
blind_looked past [] g safe = tt
blind_looked past (o ∷ os) g safe = (may_look past o g safe.0, blind_looked (past ++ pinned o) os (does o g) safe.1)

blind_on : (slot : ℕ) (past : List ℕ) (os ps : List Order) (g h : Site) → Runs slot Never g h os → LookedAll past ps h → LookedAll past (os ++ ps) g
blind_on slot past os ps g h runs then =
    let same : past ++ pins os ≡ past = ap (λ (q : List ℕ). past ++ q) (blind os g runs.safe) ∙ append-nil past in
    looked_append past os ps g (blind_looked past os g runs.safe)
    (subst (λ (q : List ℕ). LookedAll q ps (does_all os g)) (sym same) (subst (λ (s : Site). LookedAll past ps s) (sym runs.end) then))

-- ---- the script

good_as : (slot : ℕ) (A B : ℕ → Site → Type 0) (c : World) (p : Path) (aim : Option ℕ) (g : Site) → Good slot A c p aim g → Good slot B c p aim g
good_as slot A B c p None g good = record {
  built = good.built;
  at = good.at;
  aimed = good.aimed;
  u = good.u;
  dead = good.dead;
  none = good.none;
  pin = good.pin;
}
good_as slot A B c p (Some j) g good = record {
  built = good.built;
  at = good.at;
  aimed = good.aimed;
  u = good.u;
  dead = good.dead;
  none = good.none;
  pin = good.pin;
}

look_order : (middle outs rest : List Order) (j : ℕ) →
    (((Pins j ∷ Takes T ∷ Checks T j ∷ []) ++ (middle ++ LeadsTop T ∷ [])) ++ outs) ++ rest ≡ (Pins j ∷ Takes T ∷ Checks T j ∷ [])
    ++ (middle ++ ((LeadsTop T ∷ []) ++ (outs ++ rest)))
look_order middle outs rest j =
    append_assoc ((Pins j ∷ Takes T ∷ Checks T j ∷ []) ++ (middle ++ LeadsTop T ∷ [])) outs rest
    ∙ (append_assoc (Pins j ∷ Takes T ∷ Checks T j ∷ []) (middle ++ LeadsTop T ∷ []) (outs ++ rest)
    ∙ ap (λ (os : List Order). (Pins j ∷ Takes T ∷ Checks T j ∷ []) ++ os) (append_assoc middle (LeadsTop T ∷ []) (outs ++ rest)))

module _ (slot : ℕ) where
  -- from each good site on these orders look nowhere again but where something leads
  abbrev Sees : World → Path → Option ℕ → List ℕ → List Order → Type 0
  Sees c p aim past os = (g : Site) → Good slot Never c p aim g → LookedAll past os g

  sees_on : (c : World) (p : Path) (a : Option ℕ) (d : World) (q : Path) (b : Option ℕ) (past : List ℕ) (os ps : List Order)
      → Leaves slot Never c p a d q b os → Sees d q b past ps → Sees c p a past (os ++ ps)
  sees_on c p a d q b past os ps first then g good = let next = first g good in blind_on slot past os ps g next.site next.runs (then next.site next.good)

  abbrev Any : ℕ → Site → Type 0
  Any j g = Unit {0}

  -- a look, and what follows it
  look_on : (c : World) (p : Path) (j : ℕ) (past : List ℕ) (ps : List Order) → j ≤ LAST_USER_SLOT
      → ((g : Site) → g.built ≡ c → is_past j past ≡ true → IsUsed j g) → Sees c p (Some j) (past ++ j ∷ []) ps →
      Sees c p None past ((Pins j ∷ Takes T ∷ Checks T j ∷ []) ++ ps)
  unfolding does_all
  look_on c p j past ps low used then g good =
      let next = opens_slot slot Any c p j low (λ g opening. tt) g (good_as slot Never Any c p None g good) in
      let later = then next.site (good_as slot Any Never c p (Some j) next.site next.good) in
      let here = subst (λ (s : Site). LookedAll (past ++ j ∷ []) ps s) (sym next.runs.end) later in
      let same : ((past ++ j ∷ []) ++ []) ++ [] ≡ past ++ j ∷ [] = append-nil ((past ++ j ∷ []) ++ []) ∙ append-nil (past ++ j ∷ []) in
      (used g good.built, (tt, (tt, subst (λ (q : List ℕ). LookedAll q ps (does (Checks T j) (does (Takes T) (does (Pins j) g)))) (sym same) here)))

  module _ (bind : ℕ → ℕ) (c : World) (rooms : List Room) (its : IsRoomed bind c rooms) where
    abbrev world : ℕ → World
    world i = at bind c rooms its slot (led_below i)

    -- the pin was led for lower slots of the image alone
    record IsLower (past : List ℕ) (i j : ℕ) : Type 0 where
      pub of : ℕ
      pub lower : of < i
      pub leads : list_any (has (leads_out of)) rooms ≡ true
      pub bound : bind of ≡ j

    abbrev AreLower : List ℕ → ℕ → Type 0
    AreLower past i = (j : ℕ) → is_past j past ≡ true → IsLower past i j

    lower_next : (past : List ℕ) (i : ℕ) → AreLower past i → AreLower past (suc i)
    lower_next past i low j h = let its = low j h in
        record { of = its.of; lower = (let less = its.lower in omega (arith, less)); leads = its.leads; bound = its.bound }

    lower_led : (past : List ℕ) (i : ℕ) → list_any (has (leads_out i)) rooms ≡ true → AreLower past i → AreLower (past ++ bind i ∷ []) (suc i)
    lower_led past i leads low j h = by (or_cases (is_past j past) (is_past j (bind i ∷ [])) (sym (list_any-append (λ k. k == j) past (bind i ∷ [])) ∙ h))
      where
        one : (t : Bool) → (bind i == j) ≡ t → (t || false) ≡ true → IsLower (past ++ bind i ∷ []) (suc i) j
        one true e h = record { of = i; lower = omega arith; leads = leads; bound = eqb-true (bind i) j e }
        one false e h = cc

        by : (is_past j past ≡ true) ⊎ (is_past j (bind i ∷ []) ≡ true) → IsLower (past ++ bind i ∷ []) (suc i) j
        by (inl h) = let its = low j h in record { of = its.of; lower = (let less = its.lower in omega (arith, less)); leads = its.leads; bound = its.bound }
        by (inr h) = one (bind i == j) refl h

    used_again : (past : List ℕ) (i j : ℕ) → AreLower past i → (g : Site) → g.built ≡ world i → is_past j past ≡ true → IsUsed j g
    used_again past i j low g built h =
        let before = low j h in
        subst (λ (k : ℕ). IsUsed k g) before.bound (used_below bind before.of i before.lower c rooms (with_spaces rooms []) [] its.filled before.leads g built)

    slots_see : (n i : ℕ) → n + i ≡ 240 → (p : Path) (past : List ℕ) (rest : List Order) → AreLower past i
        → ((past : List ℕ) → Sees (world 240) (after_outs rooms p n i) None past rest) →
        Sees (world i) p None past (leads_outs slot bind rooms p n i ++ rest)
    unfolding leads_outs
    slots_see zero i e p past rest low then = subst (λ (k : ℕ). Sees (world k) p None past rest) (let same : 240 ≡ i = omega (arith, e) in same) (then past)
    slots_see (suc n) i e p past rest low then =
        by (list_any (has (leads_out i)) rooms) refl
        (λ past low. slots_see n (suc i) (let next : n + suc i ≡ 240 = omega (arith, e) in next)
        (after_rooms (has (leads_out i)) p rooms) past rest low then)
      where
        below : i ≤ LAST_USER_SLOT
        below = omega (arith, e)

        by : (t : Bool) → list_any (has (leads_out i)) rooms ≡ t →
            ((past : List ℕ) → AreLower past (suc i)
            → Sees (world (suc i)) (after_rooms (has (leads_out i)) p rooms) None past
            (leads_outs slot bind rooms (after_rooms (has (leads_out i)) p rooms) n (suc i) ++ rest)) →
            Sees (world i) p None past ((cond t ((Pins (bind i) ∷ Takes T ∷ Checks T (bind i) ∷ [])
            ++ (pass bind c rooms its slot i below p ++ LeadsTop T ∷ [])) []
            ++ leads_outs slot bind rooms (after_rooms (has (leads_out i)) p rooms) n (suc i)) ++ rest)
        by true f later = λ g good. subst (λ (os : List Order). LookedAll past os g)
            (sym (look_order (pass bind c rooms its slot i below p) (leads_outs slot bind rooms (after_rooms (has (leads_out i)) p rooms) n (suc i)) rest
            (bind i)))
            (look_on (world i) p (bind i) past (pass bind c rooms its slot i below p
            ++ ((LeadsTop T ∷ []) ++ (leads_outs slot bind rooms (after_rooms (has (leads_out i)) p rooms) n (suc i) ++ rest))) (its.binds i below)
            (used_again past i (bind i) low)
            (sees_on (world i) p (Some (bind i)) (half bind c rooms its slot i below p) (after_rooms (has (leads_out i)) p rooms) (Some (bind i)) (past
            ++ bind i ∷ []) (pass bind c rooms its slot i below p) ((LeadsTop T ∷ [])
            ++ (leads_outs slot bind rooms (after_rooms (has (leads_out i)) p rooms) n (suc i) ++ rest))
            (pass_led bind c rooms its slot Never i below p)
            (sees_on (half bind c rooms its slot i below p) (after_rooms (has (leads_out i)) p rooms) (Some (bind i)) (half bind c rooms its slot i below p)
            (after_rooms (has (leads_out i)) p rooms) None (past ++ bind i ∷ []) (LeadsTop T ∷ [])
            (leads_outs slot bind rooms (after_rooms (has (leads_out i)) p rooms) n (suc i) ++ rest)
            (closes_slot slot Never (half bind c rooms its slot i below p) (after_rooms (has (leads_out i)) p rooms) (bind i))
            (subst (λ (w : World). Sees w (after_rooms (has (leads_out i)) p rooms) None (past ++ bind i ∷ [])
            (leads_outs slot bind rooms (after_rooms (has (leads_out i)) p rooms) n (suc i) ++ rest))
            (sym (pass_done bind c rooms its (led_below (suc i)) (led_below i) refl))
            (later (past ++ bind i ∷ []) (lower_led past i f low))))) g good)
        by false f later =
            let here : after_rooms (has (leads_out i)) p rooms ≡ p = after_none (has (leads_out i)) p rooms f in
            let same : world i ≡ world (suc i) = slot_idle bind c rooms its slot i below p f in
            subst (λ (w : World). Sees w p None past (leads_outs slot bind rooms (after_rooms (has (leads_out i)) p rooms) n (suc i) ++ rest)) (sym same)
            (subst (λ (z : Path). Sees (world (suc i)) z None past (leads_outs slot bind rooms (after_rooms (has (leads_out i)) p rooms) n (suc i)
            ++ rest)) here (later past (lower_next past i low)))

    -- what follows them looks for nothing
    after_sees : (past : List ℕ) → Sees (world 240) (led_out_by rooms) None past
        (through_rooms slot (has ties_inside) (each (ties_body slot)) (led_out_by rooms) rooms ++ (holds_spaces slot (tied_by rooms) rooms ++ closes))
    after_sees past =
        sees_on (world 240) (led_out_by rooms) None (at bind c rooms its slot (all_led false)) (tied_by rooms) None past _ _
        (tied bind c rooms its slot Never (led_out_by rooms))
        (sees_on (at bind c rooms its slot (all_led false)) (tied_by rooms) None (rebound bind c) (after_holds (tied_by rooms) rooms) None past _ _
        (held bind c rooms its slot Never (tied_by rooms))
        (λ g good. blind_looked past closes g (cleared bind c rooms its slot Never (after_holds (tied_by rooms) rooms) g good).runs.safe))

    passes_see : Sees (building c [] [] []) [] None [] (passes bind c rooms its slot)
    passes_see =
        sees_on (building c [] [] []) [] None (building c (spaces bind c rooms its) [] []) (made_by rooms) None [] _ _
        (spaces_made c its.root slot Never rooms [] [] its.spaces)
        (sees_on (building c (spaces bind c rooms its) [] []) (made_by rooms) None (at bind c rooms its slot nothing_led) (filled_by rooms) None [] _ _
        (filled bind c rooms its slot Never)
        (sees_on (at bind c rooms its slot nothing_led) (filled_by rooms) None (world 0) (pointed_by rooms) None [] _ _
        (led_inside bind c rooms its slot Never (filled_by rooms))
        (slots_see 240 0 refl (pointed_by rooms) [] (through_rooms slot (has ties_inside) (each (ties_body slot)) (led_out_by rooms) rooms
        ++ (holds_spaces slot (tied_by rooms) rooms ++ closes)) (λ j h. cc) after_sees)))

    pub script_looked : LookedAll [] (script slot bind rooms) first
    unfolding script
    script_looked = blind_on slot [] (opens slot) (passes bind c rooms its slot) first (begun slot) (begins_runs slot Never)
        (passes_see (begun slot) (begins_good slot Never c))

-- ---- how far it has come

-- where the pin was led so far, with what is left of all
pub record History (all : List ℕ) (os : List Order) (g : Site) : Type 0 where
  pub past : List ℕ
  pub is : past ++ pins os ≡ all
  pub looked : LookedAll past os g

pub history_begins : (slot : ℕ) (bind : ℕ → ℕ) (c : World) (rooms : List Room) → IsRoomed bind c rooms
    → History (pins (script slot bind rooms)) (script slot bind rooms) first
history_begins slot bind c rooms its = record { past = []; is = refl; looked = script_looked slot bind c rooms its }

pub history_on : (all : List ℕ) (o : Order) (os : List Order) (g : Site) → History all (o ∷ os) g → History all os (does o g)
history_on all o os g history = record {
  past = history.past ++ pinned o;
  is = append_assoc history.past (pinned o) (pins os)
      ∙ history.is;
  looked = history.looked.1;
}

-- a slot to which it was led before is used
pub history_used : (all past : List ℕ) (j : ℕ) (os : List Order) (g : Site) → History all (Pins j ∷ os) g → past ++ pins (Pins j ∷ os) ≡ all
    → is_past j past ≡ true → IsUsed j g
history_used all past j os g history is h =
    let same : history.past ≡ past = append_cancel_right history.past past (pins (Pins j ∷ os)) (history.is ∙ sym is) in
    history.looked.0 (ap (is_past j) same ∙ h)
