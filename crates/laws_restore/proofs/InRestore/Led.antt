-- Worlds in which some pointers are led, and a pass over rooms that leads more of them.
use Rattle.std.proofs.Common.{◌≡◌, ℕ, Bool, true, false, cond, ◌||◌, List, [], ◌∷◌, ◌++◌, Option, Some, option_map, refl, sym, ap, subst, ◌∙◌}
use Rattle.std.specs.List.{list_any, flat_map}
use Rattle.fk_model.specs.declared.names.Kind.TheVariants as kinds
use Rattle.fk_model.specs.Places.{Path, same_path}
use Rattle.fk_model.specs.Objects.{Body, kind_of}
use Rattle.fk_model.specs.Objects.Body.{Mutex, Cond, Mapping, Region, Port, Portset, Space, Thread_of, Reference}
use Rattle.fk_model.specs.World.{World, at_path}
use Rattle.fk_model.proofs.walks.PlaceLaws.{same_path_eq}
use Rattle.laws_restore.specs.Sites.Orders.{Site, Order}
use Rattle.laws_restore.specs.Restore.Fits.{there, IsWay}
use Rattle.laws_restore.specs.Restore.Rooms.{Item, Room}
use Rattle.laws_restore.specs.Restore.Script.{goes_to, has, each, through_rooms, after_rooms}
use Rattle.laws_restore.specs.Restore.Stages.{Mask, is_among, bound, leading}
use Rattle.laws_restore.specs.Restore.Roomed.{IsAble, AreItems, with_items, AreRooms, all_made}
use Rattle.laws_restore.proofs.InRestore.Leaving.{Leaves, leaves_on, leaves_none, leaves_goes}
use Rattle.laws_restore.proofs.InRestore.Building.{way_same, under}
use Rattle.laws_restore.proofs.InRestore.Lists.{IsSub, sub_both, sub_out, sub_with}

pub kind_bound : (bind : ℕ → ℕ) (m : Mask) (y : Path) (b : Body) → kind_of (bound bind m y b) ≡ kind_of b
kind_bound bind m y (Mutex locked) = refl
kind_bound bind m y Cond = refl
kind_bound bind m y (Mapping w) = refl
kind_bound bind m y (Region r) = refl
kind_bound bind m y (Port set served) = refl
kind_bound bind m y Portset = refl
kind_bound bind m y (Space birth holder) = refl
kind_bound bind m y (Thread_of t) = refl
kind_bound bind m y (Reference to) = refl

module _ (bind : ℕ → ℕ) (c : World) where
  either_kind : (new old : Mask) (t : Bool) (y : Path) (b : Body) → kind_of (cond t (bound bind new y b) (bound bind old y b)) ≡ kind_of b
  either_kind new old true y b = kind_bound bind new y b
  either_kind new old false y b = kind_bound bind old y b

  pub led_kinds : (new old : Mask) (done : List Path) (y : Path) → there (leading bind c new old done) y ≡ there c y
  led_kinds new old done y = under (λ b. cond (is_among y done) (bound bind new y b) (bound bind old y b)) (λ b. either_kind new old (is_among y done) y b)
      (c.body y)

  pub led_way : (new old : Mask) (done : List Path) (z : Path) → IsWay (there c) z → IsWay (there (leading bind c new old done)) z
  led_way new old done z way = way_same (there (leading bind c new old done)) (there c) z (led_kinds new old done) way

  module _ (new old : Mask) (done : List Path) (y : Path) (b : Body) (is : c.body y ≡ Some b) where
    pub body_old : is_among y done ≡ false → (leading bind c new old done).body y ≡ Some (bound bind old y b)
    body_old anew = rw (is, anew) refl

    -- an object that is turned from one mask to the other is done
    pub led_as : is_among y done ≡ false → (f : Option Body → Option Body) → f (Some (bound bind old y b)) ≡ Some (bound bind new y b) →
        at_path y f (leading bind c new old done) ≡ leading bind c new old (y ∷ done)
    led_as anew f h = λ i. record { body = λ z. by z (same_path z y) refl i; page = c.page; next = 0 }
      where
        by : (z : Path) (t : Bool) → same_path z y ≡ t → cond t (f ((leading bind c new old done).body z)) ((leading bind c new old done).body z)
            ≡ option_map (λ b. cond (t || is_among z done) (bound bind new z b) (bound bind old z b)) (c.body z)
        by z true e = let here = same_path_eq z y e in rw here (ap f (body_old anew) ∙ h ∙ sym (rw is refl))
        by z false e = refl

    -- one that both masks show alike is done
    pub led_alike : bound bind old y b ≡ bound bind new y b → leading bind c new old done ≡ leading bind c new old (y ∷ done)
    led_alike same = λ i. record { body = λ z. by z (same_path z y) refl i; page = c.page; next = 0 }
      where
        either : (a : Bool) → cond a (bound bind new y b) (bound bind old y b) ≡ bound bind new y b
        either true = refl
        either false = same

        by : (z : Path) (t : Bool) → same_path z y ≡ t
            → (leading bind c new old done).body z ≡ option_map (λ b. cond (t || is_among z done) (bound bind new z b) (bound bind old z b)) (c.body z)
        by z true e = let here = same_path_eq z y e in rw (here, is) (ap Some (either (is_among y done)))
        by z false e = refl

-- ---- a pass over rooms

module _ (bind : ℕ → ℕ) (c : World) (slot : ℕ) (Safe : ℕ → Site → Type 0) (aim : Option ℕ) (new old : Mask) (test : Body → Bool) (orders : Path → ℕ → Body
    → List Order)
    -- an object of a room that is visited is done by its orders
    (item : (q : Path) (x : ℕ) (b : Body) (done : List Path) → there c q ≡ Some kinds.Space → IsWay (there c) q → IsAble bind c q x b
    → is_among (x ∷ q) done ≡ false →
    Leaves slot Safe (leading bind c new old done) q aim (leading bind c new old ((x ∷ q) ∷ done)) q aim (orders q x b))
    -- and those of other rooms need none
    (idle : (q : Path) (x : ℕ) (b : Body) → IsAble bind c q x b → test b ≡ false → bound bind old (x ∷ q) b ≡ bound bind new (x ∷ q) b) where
  items_led : (q : Path) (is : List Item) (made done : List Path) → there c q ≡ Some kinds.Space → IsWay (there c) q → IsSub done made
      → AreItems bind c q is made →
      Leaves slot Safe (leading bind c new old done) q aim (leading bind c new old (with_items q is done)) q aim
      (flat_map (λ (i : Item). orders q i.slot i.body) is)
  items_led q [] made done space way sub its = leaves_none slot Safe _ _ q aim refl
  items_led q (i ∷ is) made done space way sub its =
      let y = i.slot ∷ q in
      leaves_on slot Safe (leading bind c new old done) q aim (leading bind c new old (y ∷ done)) q aim
      (leading bind c new old (with_items q is (y ∷ done))) q aim (orders q i.slot i.body) _
      (item q i.slot i.body done space way its.0 (sub_out y done made sub its.1))
      (items_led q is (y ∷ made) (y ∷ done) space way (sub_both y done made sub) its.2)

  pub items_idle : (q : Path) (is : List Item) (made done : List Path) → AreItems bind c q is made → list_any (λ (i : Item). test i.body) is ≡ false
      → leading bind c new old done ≡ leading bind c new old (with_items q is done)
  items_idle q [] made done its off = refl
  items_idle q (i ∷ is) made done its off =
      let both = split (test i.body) (list_any (λ (i : Item). test i.body) is) off in
      led_alike bind c new old done (i.slot ∷ q) i.body its.0.there (idle q i.slot i.body its.0 both.0)
      ∙ items_idle q is ((i.slot ∷ q) ∷ made) ((i.slot ∷ q) ∷ done) its.2 both.1
    where
      split : (a b : Bool) → (a || b) ≡ false → (a ≡ false) × (b ≡ false)
      split true b h = cc
      split false b h = (refl, h)

  pub rooms_led : (rooms : List Room) (p : Path) (made done : List Path) (given : List (Path × ℕ)) → IsSub done made → AreRooms bind c rooms made given →
      Leaves slot Safe (leading bind c new old done) p aim (leading bind c new old (all_made rooms done)) (after_rooms (has test) p rooms) aim
      (through_rooms slot (has test) (each orders) p rooms)
  unfolding through_rooms
  rooms_led [] p made done given sub its = leaves_none slot Safe _ _ p aim refl
  rooms_led (r ∷ rs) p made done given sub its =
      by (has test r) refl (λ from. rooms_led rs from (with_items r.path r.items made) (with_items r.path r.items done) _
      (sub_with r.path r.items done made sub) its.1)
    where
      by : (t : Bool) → has test r ≡ t → ((from : Path)
          → Leaves slot Safe (leading bind c new old (with_items r.path r.items done)) from aim
          (leading bind c new old (all_made rs (with_items r.path r.items done))) (after_rooms (has test) from rs) aim
          (through_rooms slot (has test) (each orders) from rs)) →
          Leaves slot Safe (leading bind c new old done) p aim (leading bind c new old (all_made rs (with_items r.path r.items done)))
          (cond t (after_rooms (has test) r.path rs) (after_rooms (has test) p rs)) aim
          (cond t (goes_to slot p r.path ++ (each orders r ++ through_rooms slot (has test) (each orders) r.path rs))
          (through_rooms slot (has test) (each orders) p rs))
      by true e later =
          let q = r.path in
          let next = with_items q r.items done in
          let end = leading bind c new old (all_made rs next) in
          let rest = through_rooms slot (has test) (each orders) q rs in
          leaves_on slot Safe (leading bind c new old done) p aim (leading bind c new old done) q aim end (after_rooms (has test) q rs) aim (goes_to slot p q)
          (each orders r ++ rest)
          (leaves_goes slot Safe (leading bind c new old done) p q aim (led_way bind c new old done q its.0.way))
          (leaves_on slot Safe (leading bind c new old done) q aim (leading bind c new old next) q aim end (after_rooms (has test) q rs) aim
          (each orders r) rest
          (items_led q r.items made done its.0.space its.0.way sub its.0.items)
          (later q))
      by false e later =
          let q = r.path in
          let next = with_items q r.items done in
          let end = leading bind c new old (all_made rs next) in
          let same = items_idle q r.items made done its.0.items e in
          subst (λ (w : World). Leaves slot Safe w p aim end (after_rooms (has test) p rs) aim (through_rooms slot (has test) (each orders) p rs)) (sym same)
          (later p)

  -- where no room is visited nothing has to be done
  pub rooms_idle : (rooms : List Room) (made done : List Path) (given : List (Path × ℕ)) → AreRooms bind c rooms made given
      → list_any (has test) rooms ≡ false →
      leading bind c new old done ≡ leading bind c new old (all_made rooms done)
  rooms_idle [] made done given its off = refl
  rooms_idle (r ∷ rs) made done given its off =
      let both = split (has test r) (list_any (has test) rs) off in
      items_idle r.path r.items made done its.0.items both.0 ∙ rooms_idle rs (with_items r.path r.items made) (with_items r.path r.items done) _ its.1 both.1
    where
      split : (a b : Bool) → (a || b) ≡ false → (a ≡ false) × (b ≡ false)
      split true b h = cc
      split false b h = (refl, h)

pub after_none : (visits : Room → Bool) (p : Path) (rooms : List Room) → list_any visits rooms ≡ false → after_rooms visits p rooms ≡ p
after_none visits p [] off = refl
after_none visits p (r ∷ rs) off = by (visits r) (list_any visits rs) refl refl off (after_none visits p rs)
  where
    by : (a b : Bool) → visits r ≡ a → list_any visits rs ≡ b → (a || b) ≡ false → (list_any visits rs ≡ false → after_rooms visits p rs ≡ p)
        → cond a (after_rooms visits r.path rs) (after_rooms visits p rs) ≡ p
    by true b e f h later = cc
    by false b e f h later = later (f ∙ h)
