-- The whole script: it may be given order by order, and makes the subtree with its ports bound.
use Rattle.std.proofs.Common.{◌≡◌, ℕ, zero, suc, ◌+◌, ◌≤◌, Bool, true, false, cond, ◌||◌, ◌⊎◌, inl, inr, eqb, List, [], ◌∷◌, ◌++◌, Option, Some, None}
use Rattle.std.proofs.Common.{option_map, refl, sym, ap, subst, arith, eqb-true, ◌∙◌}
use Rattle.std.specs.List.{list_any}
use Rattle.fk_model.specs.declared.limits.TheConstants.{LAST_USER_SLOT}
use Rattle.fk_model.specs.declared.names.Kind.TheVariants as kinds
use Rattle.fk_model.specs.Places.{Path, same_path}
use Rattle.fk_model.specs.Places.Ptr.{Null, At}
use Rattle.fk_model.specs.Objects.{Body, Talk, Fault, space_of}
use Rattle.fk_model.specs.Objects.Body.{Mutex, Cond, Mapping, Region, Port, Portset, Space, Thread_of, Reference}
use Rattle.fk_model.specs.World.{World, apply, through}
use Rattle.fk_model.specs.Rebind.{rebinding, rebound}
use Rattle.laws_restore.specs.Sites.Orders.{Site, Order, does, does_all, May, alone, alone_at, stays_in, leads_nowhere}
use Rattle.laws_restore.specs.Sites.Orders.Spot.{To}
use Rattle.laws_restore.specs.Sites.Orders.Pin.{NoPin}
use Rattle.laws_restore.specs.Sites.Orders.Named.{ByRoot}
use Rattle.laws_restore.specs.Sites.Orders.Order.{Readies, Leads, LeadsTop, Makes, MakesPin, Pins, Takes, Checks, Deadens}
use Rattle.laws_restore.specs.Sites.Begun.{first}
use Rattle.fk_model.specs.Whole.{is_scratch_slot}
use Rattle.fk_model.proofs.walks.PlaceLaws.{same_path_eq}
use Rattle.std.proofs.lemmas.Bool.{le-leb}
use Rattle.laws_restore.specs.Restore.Rooms.{Room}
use Rattle.laws_restore.specs.Restore.Fits.{there}
use Rattle.laws_restore.specs.Restore.Script.{P, T, U, D, has, each, through_rooms, after_rooms, makes_spaces, fills, points_body, leads_in, leads_out}
use Rattle.laws_restore.specs.Restore.Script.{leads_body_out}
use Rattle.laws_restore.specs.Restore.Script.{leads_out_by, leads_outs, after_outs, ties_body, ties_inside, holds_spaces, after_holds, any_room, made_by}
use Rattle.laws_restore.specs.Restore.Script.{filled_by}
use Rattle.laws_restore.specs.Restore.Script.{pointed_by, led_out_by, tied_by, opens, closes, script}
use Rattle.laws_restore.specs.Restore.Stages.{Mask, nowhere, shown_talk, shown_fault, anywhere, nothing_led, led_below, all_led, recorded, blank, is_among}
use Rattle.laws_restore.specs.Restore.Stages.{is_given}
use Rattle.laws_restore.specs.Restore.Stages.{built_at, building, bound, leading}
use Rattle.laws_restore.specs.Restore.Roomed.{IsNewSpace, with_space, AreSpaces, all_made, all_given, with_spaces, IsRoomed}
use Rattle.laws_restore.proofs.InRestore.Ways.{Runs, on}
use Rattle.laws_restore.proofs.InRestore.Ways.Grouped.{NoMore, Other}
use Rattle.laws_restore.proofs.InRestore.Lists.{IsSub}
use Rattle.laws_restore.proofs.InRestore.Leaving.{Good, Leaves, leaves_on, leaves_none, leaves_to}
use Rattle.laws_restore.proofs.InRestore.Filled.{spaces_made, rooms_filled}
use Rattle.laws_restore.proofs.InRestore.Asked.{IsAsked}
use Rattle.laws_restore.proofs.InRestore.Led.{led_kinds, rooms_led, rooms_idle, after_none}
use Rattle.laws_restore.proofs.InRestore.Pointing.{point_item, point_idle}
use Rattle.laws_restore.proofs.InRestore.Outward.{stays_all, IsOpening, opens_slot, closes_slot, out_item, out_idle}
use Rattle.laws_restore.proofs.InRestore.Standing.{IsItem, rooms_are, others_are_spaces, pass_done}
use Rattle.laws_restore.proofs.InRestore.Tying.{tie_item, tie_idle}
use Rattle.laws_restore.proofs.InRestore.HoldsGiven.{spaces_held}

module _ (slot : ℕ) where
  -- ---- the beginning

  abbrev before : Site
  before = does (Leads D slot [] 0) (does (Makes slot [] 0 kinds.Region) (does (Readies D) (does (Readies U) (does (Readies T) (does (Readies P) first)))))

  abbrev pub begun : Site
  begun = does (LeadsTop P) (does MakesPin (does (Deadens D) before))

  deadens : May slot (Deadens D) before
  deadens = record { scratch = refl; led = refl; others = λ k apart. by k apart (eqb k D) (eqb k U) (eqb k T) (eqb k P) refl; pin = refl; region = refl }
    where
      by : (k : ℕ) → (k ≡ D → ⊥) → (d u t p : Bool) → eqb k D ≡ d →
          leads_nowhere (cond d (Some (To (At (0 ∷ []))))
          (cond d (Some (To Null)) (cond u (Some (To Null)) (cond t (Some (To Null)) (cond p (Some (To Null)) None))))) ≡ true
      by k apart true u t p e = absurd (apart (eqb-true k D e))
      by k apart false true t p e = refl
      by k apart false false true p e = refl
      by k apart false false false true e = refl
      by k apart false false false false e = refl

module _ (slot : ℕ) (Safe : ℕ → Site → Type 0) where
  pub begins_runs : Runs slot Safe first (begun slot) (opens slot)
  unfolding does_all apply same_path
  begins_runs = record {
    may = (
      (refl, refl),
      (
        (refl, refl),
        (
          (refl, refl),
          (
            (refl, refl),
            (
              record { place = record { named = ByRoot; space = refl }; low = omega arith; empty = refl },
              (
                record {
                  scratch = refl;
                  ready = refl;
                  place = record { named = ByRoot; space = refl };
                  low = omega arith;
                  object = _;
                  there = refl;
                  leads = refl;
                },
                (deadens slot, (refl, ((refl, refl), tt))),
              ),
            ),
          ),
        ),
      ),
    );
    suits = (tt, (tt, (tt, (tt, (tt, (tt, (tt, (tt, (tt, tt)))))))));
    safe = (tt, (tt, (tt, (tt, (tt, (tt, (tt, (tt, (tt, tt)))))))));
    grouped = Other _ _ refl (Other _ _ refl (Other _ _ refl
        (Other _ _ refl (Other _ _ refl (Other _ _ refl (Other _ _ refl (Other _ _ refl (Other _ _ refl NoMore))))))));
    end = refl;
  }

  alone_building : (c : World) → alone ≡ building c [] [] []
  alone_building c = λ i. record { body = λ y. by y i; page = λ q n. None; next = 0 }
    where
      by : (y : Path) → alone_at y ≡ built_at c [] [] y
      by [] = refl
      by (k ∷ q) = refl

  pub begins_good : (c : World) → Good slot Safe (building c [] [] []) [] None (begun slot)
  begins_good c = record {
    built = alone_building c;
    at = refl;
    aimed = (refl, refl);
    u = (refl, refl);
    dead = refl;
    none = λ k p t u d. rw (p, d, u, t) refl;
    pin = λ e. cc;
  }

-- ---- all that is made is there, and no pointer is led

nobody_talks : (o : Option Talk) → shown_talk nowhere o ≡ None
nobody_talks None = refl
nobody_talks (Some talk) = refl

nobody_faults : (o : Option Fault) → shown_fault nowhere o ≡ None
nobody_faults None = refl
nobody_faults (Some fault) = refl

unled : (bind : ℕ → ℕ) (y : Path) (b : Body) → recorded b ≡ bound bind nothing_led y b
unled bind y (Mutex locked) = refl
unled bind y Cond = refl
unled bind y (Mapping m) = refl
unled bind y (Region r) = refl
unled bind y (Port None served) = refl
unled bind y (Port (Some set) served) = refl
unled bind y Portset = refl
unled bind y (Space birth holder) = refl
unled bind y (Thread_of t) = rw (nobody_talks t.talk, nobody_faults t.fault) refl
unled bind y (Reference to) = refl

-- spaces stand in users' slots
low_spaces : (c : World) (rooms : List Room) (made : List Path) → AreSpaces c rooms made → (k : ℕ) (x : Path)
    → (is_among (k ∷ x) made ≡ true → k ≤ LAST_USER_SLOT) → is_among (k ∷ x) (with_spaces rooms made) ≡ true → k ≤ LAST_USER_SLOT
low_spaces c [] made its k x low h = low h
low_spaces c (r ∷ rs) made its k x low h = low_spaces c rs (with_space r.path made) its.1 k x (by r.path its.0) h
  where
    one : (j : ℕ) (q : Path) → j ≤ LAST_USER_SLOT → (t : Bool) → same_path (k ∷ x) (j ∷ q) ≡ t → (t || is_among (k ∷ x) made) ≡ true → k ≤ LAST_USER_SLOT
    one j q is true e h = let same = same_path_eq (k ∷ x) (j ∷ q) e in let slots : k ≡ j = cc in rw slots is
    one j q is false e h = low h

    by : (path : Path) → IsNewSpace c path r.holder made → is_among (k ∷ x) (with_space path made) ≡ true → k ≤ LAST_USER_SLOT
    by [] new h = low h
    by (j ∷ q) new h = one j q new.1 (same_path (k ∷ x) (j ∷ q)) refl h

module _ (bind : ℕ → ℕ) (c : World) (rooms : List Room) (its : IsRoomed bind c rooms) where
  abbrev pub spaces : List Path
  spaces = with_spaces rooms []

  abbrev made : List Path
  made = all_made rooms spaces

  abbrev items : List Path
  items = all_made rooms []

  no_items : IsSub [] spaces
  no_items y h = cc

  all_built : building c made items (all_given rooms []) ≡ leading bind c nothing_led nothing_led []
  all_built = λ i. record { body = λ y. by_body y i; page = λ q n. by_page q n (is_given q n (all_given rooms [])) refl i; next = 0 }
    where
      by_page : (q : Path) (n : ℕ) (t : Bool) → is_given q n (all_given rooms []) ≡ t → cond t (c.page q n) None ≡ c.page q n
      by_page q n true e = refl
      by_page q n false e = sym (its.pages q n e)

      either : (y : Path) (b : Body) → c.body y ≡ Some b → (t : Bool) → is_among y items ≡ t → cond t (recorded b) (blank b) ≡ bound bind nothing_led y b
      either y b e true h = unled bind y b
      either y b e false h =
          let space = others_are_spaces bind c rooms its y b e h in
          let is : b ≡ Space 0 space.holder = let both = sym e ∙ space.is in cc in
          rw is refl

      there : (y : Path) (o : Option Body) → c.body y ≡ o
          → option_map (λ b. cond (is_among y items) (recorded b) (blank b)) o ≡ option_map (bound bind nothing_led y) o
      there y None e = refl
      there y (Some b) e = ap Some (either y b e (is_among y items) refl)

      by_made : (k : ℕ) (q : Path) (t : Bool) → is_among (k ∷ q) made ≡ t →
          cond t (option_map (λ b. cond (is_among (k ∷ q) items) (recorded b) (blank b)) (c.body (k ∷ q))) None
          ≡ option_map (bound bind nothing_led (k ∷ q)) (c.body (k ∷ q))
      by_made k q true e = there (k ∷ q) (c.body (k ∷ q)) refl
      by_made k q false e = rw (its.whole k q e) refl

      by_body : (y : Path) → built_at c made items y ≡ option_map (bound bind nothing_led y) (c.body y)
      by_body [] = rw its.root refl
      by_body (k ∷ q) = by_made k q (is_among (k ∷ q) made) refl

  -- ---- the passes that lead pointers

  module _ (slot : ℕ) where
    abbrev pub at : Mask → World
    at m = leading bind c m m []

    module _ (i : ℕ) (low : i ≤ LAST_USER_SLOT) (p : Path) where
      abbrev pub from : World
      from = at (led_below i)

      abbrev pub to : World
      to = at (led_below (suc i))

      abbrev pub stands : Path
      stands = after_rooms (has (leads_out i)) p rooms

      abbrev pub half : World
      half = leading bind c (led_below (suc i)) (led_below i) items

      abbrev pub pass : List Order
      pass = through_rooms slot (has (leads_out i)) (each (leads_body_out i bind)) p rooms

      pub its_low : bind i ≤ LAST_USER_SLOT
      its_low = its.binds i low

    -- ---- all of it stands

    all_shown : (y : Path) (b : Body) → bound bind (all_led true) y b ≡ through (rebinding bind) y b
    all_shown y (Mutex locked) = refl
    all_shown y Cond = refl
    all_shown y (Mapping m) = refl
    all_shown y (Region r) = refl
    all_shown y (Port set served) = refl
    all_shown y Portset = refl
    all_shown y (Space birth holder) = refl
    all_shown y (Thread_of t) = rw (talks t.talk, faults t.fault) refl
      where
        talks : (o : Option Talk) → shown_talk anywhere o ≡ o
        talks None = refl
        talks (Some talk) = refl

        faults : (o : Option Fault) → shown_fault anywhere o ≡ o
        faults None = refl
        faults (Some fault) = refl
    all_shown y (Reference target) = refl

    no_holder : (y : Path) (b : Body) → space_of b ≡ None → bound bind (all_led false) y b ≡ bound bind (all_led true) y b
    no_holder y (Mutex locked) off = refl
    no_holder y Cond off = refl
    no_holder y (Mapping m) off = refl
    no_holder y (Region r) off = refl
    no_holder y (Port set served) off = refl
    no_holder y Portset off = refl
    no_holder y (Space birth holder) off = cc
    no_holder y (Thread_of t) off = refl
    no_holder y (Reference target) off = refl

    whole_stands : leading bind c (all_led true) (all_led false) spaces ≡ rebound bind c
    unfolding rebound
    whole_stands = λ i. record { body = λ y. by y (c.body y) refl i; page = c.page; next = sym its.unborn i }
      where
        from_item : (y : Path) (b : Body) → c.body y ≡ Some b → is_among y spaces ≡ false → (is_among y spaces ≡ true) ⊎ IsItem bind c y
            → bound bind (all_led false) y b ≡ bound bind (all_led true) y b
        from_item y b e off (inl h) = let both = sym off ∙ h in cc
        from_item y b e off (inr item) =
            let there = item.able.there in
            let same : b ≡ item.body = let here = item.is in let both = sym e ∙ ap c.body here ∙ there in cc in
            rw same (no_holder y item.body item.able.no_space)

        unheld : (y : Path) (b : Body) → c.body y ≡ Some b → is_among y spaces ≡ false → bound bind (all_led false) y b ≡ bound bind (all_led true) y b
        unheld [] b e off = let is : b ≡ Space 0 None = let both = sym e ∙ its.root in cc in rw is refl
        unheld (k ∷ q) b e off = by (is_among (k ∷ q) made) refl
          where
            by : (t : Bool) → is_among (k ∷ q) made ≡ t → bound bind (all_led false) (k ∷ q) b ≡ bound bind (all_led true) (k ∷ q) b
            by true h = from_item (k ∷ q) b e off (rooms_are bind c rooms spaces spaces [] (k ∷ q) its.filled h)
            by false h = let none = its.whole k q h in let both = sym none ∙ e in cc

        either : (y : Path) (b : Body) → c.body y ≡ Some b → (t : Bool) → is_among y spaces ≡ t
            → cond t (bound bind (all_led true) y b) (bound bind (all_led false) y b) ≡ through (rebinding bind) y b
        either y b e true h = all_shown y b
        either y b e false h = unheld y b e h ∙ all_shown y b

        by : (y : Path) (o : Option Body) → c.body y ≡ o
            → option_map (λ b. cond (is_among y spaces) (bound bind (all_led true) y b) (bound bind (all_led false) y b)) o
            ≡ option_map (through (rebinding bind) y) o
        by y None e = refl
        by y (Some b) e = ap Some (either y b e (is_among y spaces) refl)

    -- nothing stands in a slot of scratch
    pub unscratched : (k : ℕ) (x : Path) → is_scratch_slot k ≡ true → c.body (k ∷ x) ≡ None
    unscratched k x is = by (is_among (k ∷ x) made) refl
      where
        high : k ≤ LAST_USER_SLOT → ⊥
        high low =
            let on = le-leb k LAST_USER_SLOT low in
            let off : is_scratch_slot k ≡ false = rw on refl in
            let clash = sym is ∙ off in
            cc

        item : (is_among (k ∷ x) spaces ≡ true) ⊎ IsItem bind c (k ∷ x) → c.body (k ∷ x) ≡ None
        item (inl h) = absurd (high (low_spaces c rooms [] its.spaces k x (λ e. cc) h))
        item (inr found) = let same : k ≡ found.slot = (let here = found.is in cc) in
            absurd (high (subst (λ (j : ℕ). j ≤ LAST_USER_SLOT) (sym same) found.able.low))

        by : (t : Bool) → is_among (k ∷ x) made ≡ t → c.body (k ∷ x) ≡ None
        by false h = its.whole k x h
        by true h = item (rooms_are bind c rooms spaces spaces [] (k ∷ x) its.filled h)

    -- ---- passes that look for no port, whatever is to hold of a look

    module _ (Safe : ℕ → Site → Type 0) where
      pub filled : Leaves slot Safe (building c spaces [] []) (made_by rooms) None (at nothing_led) (filled_by rooms) None
          (through_rooms slot any_room fills (made_by rooms) rooms)
      filled =
          leaves_to slot Safe (building c spaces [] []) (building c made items (all_given rooms [])) (at nothing_led) (made_by rooms)
          (filled_by rooms) None None _ all_built
          (rooms_filled c its.root slot Safe bind rooms (made_by rooms) spaces [] [] no_items its.filled)

      pub led_inside : (p : Path) → Leaves slot Safe (at nothing_led) p None (at (led_below 0)) (after_rooms (has leads_in) p rooms) None
          (through_rooms slot (has leads_in) (each (points_body slot)) p rooms)
      led_inside p =
          leaves_to slot Safe (at nothing_led) (leading bind c (led_below 0) nothing_led items) (at (led_below 0)) p
          (after_rooms (has leads_in) p rooms) None None _
          (pass_done bind c rooms its (led_below 0) nothing_led refl)
          (rooms_led bind c slot Safe None (led_below 0) nothing_led leads_in (points_body slot) (point_item bind c its.root slot Safe)
          (point_idle bind c its.root slot Safe) rooms p spaces [] [] no_items its.filled)

      module _ (i : ℕ) (low : i ≤ LAST_USER_SLOT) (p : Path) where
        pub pass_led : Leaves slot Safe (from i low p) p (Some (bind i)) (half i low p) (stands i low p) (Some (bind i)) (pass i low p)
        pass_led =
            rooms_led bind c slot Safe (Some (bind i)) (led_below (suc i)) (led_below i) (leads_out i) (leads_body_out i bind)
            (out_item bind c its.root slot Safe i (its_low i low p)) (out_idle bind c its.root slot Safe i (its_low i low p))
            rooms p spaces [] [] no_items its.filled

      pub tied : (p : Path) → Leaves slot Safe (at (led_below 240)) p None (at (all_led false)) (after_rooms (has ties_inside) p rooms) None
          (through_rooms slot (has ties_inside) (each (ties_body slot)) p rooms)
      tied p =
          leaves_to slot Safe (at (led_below 240)) (leading bind c (all_led false) (led_below 240) items) (at (all_led false)) p
          (after_rooms (has ties_inside) p rooms) None None _
          (pass_done bind c rooms its (all_led false) (led_below 240) refl)
          (rooms_led bind c slot Safe None (all_led false) (led_below 240) ties_inside (ties_body slot)
          (tie_item bind c its.root slot Safe its.one_service its.one_each)
          (tie_idle bind c its.root slot Safe its.one_service its.one_each) rooms p spaces [] [] no_items its.filled)

      pub held : (p : Path) → Leaves slot Safe (at (all_led false)) p None (rebound bind c) (after_holds p rooms) None (holds_spaces slot p rooms)
      held p =
          leaves_to slot Safe (at (all_led false)) (leading bind c (all_led true) (all_led false) spaces) (rebound bind c) p (after_holds p rooms) None None
          (holds_spaces slot p rooms) whole_stands
          (spaces_held bind c its.root slot Safe unscratched rooms p [] its.spaces)

      -- ---- the scratch goes

      -- a list of orders at whose end the subtree stands, and no scratch
      pub record Ended (g : Site) (os : List Order) : Type 0 where
        pub site : Site
        pub runs : Runs slot Safe g site os
        pub built : site.built ≡ rebound bind c
        pub spots : (k : ℕ) → site.spot k ≡ None
        pub pin : site.pin ≡ NoPin

      abbrev pub Ends : World → Path → List Order → Type 0
      Ends d p os = (g : Site) → Good slot Safe d p None g → Ended g os

      pub ends_on : (d : World) (p : Path) (e : World) (q : Path) (os ps : List Order) → Leaves slot Safe d p None e q None os → Ends e q ps
          → Ends d p (os ++ ps)
      ends_on d p e q os ps first second g good =
          let next = first g good in
          let end = second next.site next.good in
          record { site = end.site; runs = on slot Safe g next.site end.site os ps next.runs end.runs; built = end.built; spots = end.spots; pin = end.pin }

      pub cleared : (p : Path) → Ends (rebound bind c) p closes
      unfolding does_all
      cleared p g good = record {
        site = does_all closes g;
        runs = record {
          may = (
            (refl, good.aimed.0),
            (
              (refl, good.u.0),
              (
                (good.pin, λ k. by k (eqb k U) (eqb k T) (stays_all slot Safe (rebound bind c) p g good k)),
                ((refl, rw good.at refl), ((refl, refl), ((refl, refl), ((refl, rw good.dead refl), tt)))),
              ),
            ),
          );
          suits = (tt, (tt, (tt, (tt, (tt, (tt, (tt, tt)))))));
          safe = (tt, (tt, (tt, (tt, (tt, (tt, (tt, tt)))))));
          grouped = Other _ _ refl (Other _ _ refl (Other _ _ refl (Other _ _ refl (Other _ _ refl (Other _ _ refl (Other _ _ refl NoMore))))));
          end = refl;
        };
        built = good.built;
        spots = λ k. gone k (eqb k D) (eqb k U) (eqb k T) (eqb k P) refl refl refl refl;
        pin = refl;
      }
        where
          by : (k : ℕ) (u t : Bool) → stays_in (g.spot k) ≡ true → stays_in (cond u (Some (To (At []))) (cond t (Some (To (At []))) (g.spot k))) ≡ true
          by k true t h = refl
          by k false true h = refl
          by k false false h = h

          gone : (k : ℕ) (d u t p : Bool) → eqb k D ≡ d → eqb k U ≡ u → eqb k T ≡ t → eqb k P ≡ p →
              cond d None (cond u None (cond t None (cond p None (cond u (Some (To (At []))) (cond t (Some (To (At []))) (g.spot k)))))) ≡ None
          gone k true u t p a b e f = refl
          gone k false true t p a b e f = refl
          gone k false false true p a b e f = refl
          gone k false false false true a b e f = refl
          gone k false false false false a b e f = good.none k f e b a

    -- ---- a slot of the nester, where a port is looked for

    abbrev Safe : ℕ → Site → Type 0
    Safe = IsAsked bind c rooms

    module _ (i : ℕ) (low : i ≤ LAST_USER_SLOT) (p : Path) where
      pub slot_idle : list_any (has (leads_out i)) rooms ≡ false → from i low p ≡ to i low p
      slot_idle e =
          rooms_idle bind c slot Safe (Some (bind i)) (led_below (suc i)) (led_below i) (leads_out i) (leads_body_out i bind)
          (out_item bind c its.root slot Safe i (its_low i low p)) (out_idle bind c its.root slot Safe i (its_low i low p)) rooms spaces [] [] its.filled e
          ∙ pass_done bind c rooms its (led_below (suc i)) (led_below i) refl

      slot_led : Leaves slot Safe (from i low p) p None (to i low p) (stands i low p) None (leads_out_by slot bind rooms p i)
      slot_led = by (list_any (has (leads_out i)) rooms) refl
        where
          asked : list_any (has (leads_out i)) rooms ≡ true → (g : Site) → IsOpening slot Safe (from i low p) p g → Safe (bind i) g
          asked e g opening = record {
            port = i;
            low = low;
            leads = e;
            bound = refl;
            stands = λ y. ap (λ (c : World). there c y) opening.built ∙ led_kinds bind c (led_below i) (led_below i) [] y;
            at = opening.at;
            t = opening.t;
            u = opening.u;
            dead = opening.dead;
            none = opening.none;
            pin = opening.pin;
          }

          by : (t : Bool) → list_any (has (leads_out i)) rooms ≡ t →
              Leaves slot Safe (from i low p) p None (to i low p) (stands i low p) None
              (cond t ((Pins (bind i) ∷ Takes T ∷ Checks T (bind i) ∷ []) ++ ((pass i low p) ++ LeadsTop T ∷ [])) [])
          by true e =
              leaves_on slot Safe (from i low p) p None (from i low p) p (Some (bind i)) (to i low p) (stands i low p) None (Pins (bind i) ∷ Takes T
              ∷ Checks T (bind i) ∷ []) ((pass i low p) ++ LeadsTop T ∷ []) (opens_slot slot Safe (from i low p) p (bind i) (its_low i low p) (asked e))
              (leaves_on slot Safe (from i low p) p (Some (bind i)) (half i low p) (stands i low p) (Some (bind i)) (to i low p) (stands i low p) None
              (pass i low p) (LeadsTop T ∷ []) (pass_led Safe i low p)
              (leaves_to slot Safe (half i low p) (half i low p) (to i low p) (stands i low p) (stands i low p) (Some (bind i)) None (LeadsTop T ∷ [])
              (pass_done bind c rooms its (led_below (suc i)) (led_below i) refl) (closes_slot slot Safe (half i low p) (stands i low p) (bind i))))
          by false e =
              let here : (stands i low p) ≡ p = after_none (has (leads_out i)) p rooms e in
              subst (λ (z : Path). Leaves slot Safe (from i low p) p None (to i low p) z None []) (sym here)
              (leaves_none slot Safe (from i low p) (to i low p) p None (slot_idle e))

    slots_led : (n i : ℕ) → n + i ≡ 240 → (p : Path)
        → Leaves slot Safe (at (led_below i)) p None (at (led_below 240)) (after_outs rooms p n i) None (leads_outs slot bind rooms p n i)
    unfolding leads_outs
    slots_led zero i e p = leaves_none slot Safe (at (led_below i)) (at (led_below 240)) p None
        (ap (λ (i : ℕ). at (led_below i)) (let same : i ≡ 240 = omega (arith, e) in same))
    slots_led (suc n) i e p =
        let low : i ≤ LAST_USER_SLOT = omega (arith, e) in
        let next : n + suc i ≡ 240 = omega (arith, e) in
        let there = after_rooms (has (leads_out i)) p rooms in
        leaves_on slot Safe (at (led_below i)) p None (at (led_below (suc i))) there None (at (led_below 240)) (after_outs rooms there n (suc i)) None
        (leads_out_by slot bind rooms p i) (leads_outs slot bind rooms there n (suc i)) (slot_led i low p) (slots_led n (suc i) next there)

    -- ---- the script

    abbrev pub passes : List Order
    passes =
        makes_spaces slot [] rooms
        ++ (through_rooms slot any_room fills (made_by rooms) rooms
        ++ (through_rooms slot (has leads_in) (each (points_body slot)) (filled_by rooms) rooms
        ++ (leads_outs slot bind rooms (pointed_by rooms) 240 0
        ++ (through_rooms slot (has ties_inside) (each (ties_body slot)) (led_out_by rooms) rooms
        ++ (holds_spaces slot (tied_by rooms) rooms
        ++ closes)))))

    abbrev end : Path
    end = after_holds (tied_by rooms) rooms

    passes_end : Ends Safe (building c [] [] []) [] passes
    passes_end =
        ends_on Safe (building c [] [] []) [] (building c spaces [] []) (made_by rooms) _ _ (spaces_made c its.root slot Safe rooms [] [] its.spaces)
        (ends_on Safe (building c spaces [] []) (made_by rooms) (at nothing_led) (filled_by rooms) _ _ (filled Safe)
        (ends_on Safe (at nothing_led) (filled_by rooms) (at (led_below 0)) (pointed_by rooms) _ _ (led_inside Safe (filled_by rooms))
        (ends_on Safe (at (led_below 0)) (pointed_by rooms) (at (led_below 240)) (led_out_by rooms) _ _ (slots_led 240 0 refl (pointed_by rooms))
        (ends_on Safe (at (led_below 240)) (led_out_by rooms) (at (all_led false)) (tied_by rooms) _ _ (tied Safe (led_out_by rooms))
        (ends_on Safe (at (all_led false)) (tied_by rooms) (rebound bind c) end _ _ (held Safe (tied_by rooms)) (cleared Safe end))))))

    pub script_ends : Ended Safe first (script slot bind rooms)
    unfolding script
    script_ends =
        let end = passes_end (begun slot) (begins_good slot Safe c) in
        record {
          site = end.site;
          runs = on slot Safe first (begun slot) end.site (opens slot) passes (begins_runs slot Safe) end.runs;
          built = end.built;
          spots = end.spots;
          pin = end.pin;
        }
