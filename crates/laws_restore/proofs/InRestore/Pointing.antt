-- The pass that leads pointers inside, and to what was destroyed.
use Rattle.std.proofs.Common.{◌≡◌, ℕ, true, false, IsSome, List, [], ◌∷◌, ◌++◌, Option, Some, None, option_map, refl, sym, ap, subst, arith, ◌∙◌}
use Rattle.std.proofs.lemmas.Bool.{le-ltb}
use Rattle.fk_model.specs.declared.names.Kind.TheVariants as kinds
use Rattle.fk_model.specs.Places.{Path, Ptr}
use Rattle.fk_model.specs.Places.Ptr.{Null, Dead, At, Out, Outside, Far}
use Rattle.fk_model.specs.Objects.{Body, Talk, Fault, kind_of}
use Rattle.fk_model.specs.Objects.Body.{Mutex, Cond, Mapping, Region, Port, Portset, Space, Thread_of, Reference}
use Rattle.fk_model.specs.World.{World, edited, apply}
use Rattle.fk_model.specs.World.Change.{Alter}
use Rattle.fk_model.specs.World.Edit.{SetPointer}
use Rattle.fk_model.specs.Readers.{kind_at}
use Rattle.fk_model.specs.StateRows.{held_kinds, is_of_kinds}
use Rattle.fk_model.specs.Rebind.{rebound_ptr}
use Rattle.laws_jobs.specs.Calls.{has_pointer}
use Rattle.laws_restore.specs.Sites.Orders.{Spot, Site, is_ref_slot, IsLive, after_pointer}
use Rattle.laws_restore.specs.Sites.Orders.Spot.{To}
use Rattle.laws_restore.specs.Sites.Orders.Order.{Points}
use Rattle.laws_restore.proofs.InSites.Others.{as_kind}
use Rattle.laws_restore.specs.Restore.Fits.{there, is_referable, IsWay}
use Rattle.laws_restore.specs.Restore.Script.{P, T, D, leads_to_at, pointer_of, points_in, stays_inside, points_body, leads_in}
use Rattle.laws_restore.specs.Restore.Stages.{Mask, bound, leading, nothing_led, led_below, is_out_below, shown_talk, shown_fault, is_among, nowhere}
use Rattle.laws_restore.specs.Restore.Roomed.{IsAim, AreAims, IsAble}
use Rattle.laws_restore.proofs.InRestore.Leaving.{Good, Next, Leaves, leaves_none, leads_t, place_of, ordered}
use Rattle.laws_restore.proofs.InRestore.Ways.{on}
use Rattle.laws_restore.proofs.InRestore.Led.{led_kinds, led_way, body_old, led_as, led_alike}

-- ---- where a pointer leads is there

pub live_way : (m : World) (z : Path) → there m [] ≡ Some kinds.Space → IsWay (there m) z → IsLive m (At z)
live_way m [] top way = by (m.body []) top
  where
    by : (o : Option Body) → option_map kind_of o ≡ Some kinds.Space → IsSome o
    by (Some b) h = refl
    by None h = cc
live_way m (k ∷ z) top way = by (m.body (k ∷ z)) way.0
  where
    by : (o : Option Body) → is_referable (option_map kind_of o) ≡ true → IsSome o
    by (Some b) h = refl
    by None h = cc

pub bound_kinds : (bind : ℕ → ℕ) (m : Mask) (y : Path) (b : Body) → held_kinds (bound bind m y b) ≡ held_kinds b
bound_kinds bind m y (Mutex locked) = refl
bound_kinds bind m y Cond = refl
bound_kinds bind m y (Mapping w) = refl
bound_kinds bind m y (Region r) = refl
bound_kinds bind m y (Port set served) = refl
bound_kinds bind m y Portset = refl
bound_kinds bind m y (Space birth holder) = refl
bound_kinds bind m y (Thread_of t) = refl
bound_kinds bind m y (Reference to) = refl

pub bound_has : (bind : ℕ → ℕ) (m : Mask) (y : Path) (b : Body) → has_pointer b ≡ true → has_pointer (bound bind m y b) ≡ true
bound_has bind m y (Mapping w) h = refl
bound_has bind m y (Region r) h = refl
bound_has bind m y (Reference to) h = refl
bound_has bind m y (Mutex locked) h = cc
bound_has bind m y Cond h = cc
bound_has bind m y (Port set served) h = cc
bound_has bind m y Portset h = cc
bound_has bind m y (Space birth holder) h = cc
bound_has bind m y (Thread_of t) h = cc

-- a pointer that one mask shows and the other doesn't
pub pointer_set : (bind : ℕ → ℕ) (new old : Mask) (y : Path) (b : Body) → has_pointer b ≡ true → new.pointer (pointer_of b) ≡ true →
    edited (SetPointer (rebound_ptr bind (pointer_of b))) (bound bind old y b) ≡ bound bind new y b
unfolding edited
pointer_set bind new old y (Mapping w) h on = rw on refl
pointer_set bind new old y (Region r) h on = rw on refl
pointer_set bind new old y (Reference to) h on = rw on refl
pointer_set bind new old y (Mutex locked) h on = cc
pointer_set bind new old y Cond h on = cc
pointer_set bind new old y (Port set served) h on = cc
pointer_set bind new old y Portset h on = cc
pointer_set bind new old y (Space birth holder) h on = cc
pointer_set bind new old y (Thread_of t) h on = cc

module _ (bind : ℕ → ℕ) (c : World) (root : c.body [] ≡ Some (Space 0 None)) (slot : ℕ) (Safe : ℕ → Site → Type 0) (new old : Mask) (aim : Option ℕ) where
  -- ---- one object's pointer becomes that of scratch r

  module _ (x : ℕ) (q : Path) (b : Body) (done : List Path) (space : there c q ≡ Some kinds.Space) (its : IsAble bind c q x b)
      (anew : is_among (x ∷ q) done ≡ false) where
    abbrev here : World
    here = leading bind c new old done

    pub pointed : (g : Site) (r : ℕ) (p : Ptr) → Good slot Safe here q aim g → is_ref_slot r ≡ true → g.spot r ≡ Some (To p)
        → p ≡ rebound_ptr bind (pointer_of b) → has_pointer b ≡ true → new.pointer (pointer_of b) ≡ true →
        IsLive here p → is_of_kinds (held_kinds b) (kind_at here p) ≡ true
        → Next slot Safe (leading bind c new old ((x ∷ q) ∷ done)) q aim g (Points P q x r ∷ [])
    unfolding apply
    pointed g r p good scratch led is has shows live fits =
        let y = x ∷ q in
        let old_body = body_old bind c new old done y b its.there anew in
        ordered slot Safe here _ q aim g (Points P q x r) (after_pointer y (g.spot r) g.built) good refl refl
        (ap (λ (o : Option Spot). after_pointer y o g.built) led ∙ ap (λ (m : World). apply (Alter y (SetPointer p)) m) good.built
        ∙ ap (λ (p : Ptr). apply (Alter y (SetPointer p)) here) is
        ∙ led_as bind c new old done y b its.there anew (option_map (edited (SetPointer (rebound_ptr bind (pointer_of b)))))
        (ap Some (pointer_set bind new old y b has shows)))
        (record {
          place = place_of slot Safe here q aim g good (led_kinds bind c new old done q ∙ space);
          low = its.low;
          scratch = scratch;
          object = bound bind old y b;
          there = rw good.built old_body;
          to = p;
          led = led;
          live = rw good.built live;
          has = bound_has bind old y b has;
          fits = rw (good.built, bound_kinds bind old y b) fits;
        })
        tt

-- ---- inner pointers

pub below_zero : (p : Ptr) → is_out_below 0 p ≡ false
below_zero (Out j) = le-ltb j 0 (omega arith)
below_zero Null = refl
below_zero Dead = refl
below_zero (At z) = refl
below_zero Outside = refl
below_zero Far = refl

aim_of : (bind : ℕ → ℕ) (c : World) (b : Body) → has_pointer b ≡ true → AreAims bind c b → IsAim bind c b (pointer_of b)
aim_of bind c (Mapping w) h its = its
aim_of bind c (Region r) h its = its
aim_of bind c (Reference to) h its = its
aim_of bind c (Mutex locked) h its = cc
aim_of bind c Cond h its = cc
aim_of bind c (Port set served) h its = cc
aim_of bind c Portset h its = cc
aim_of bind c (Space birth holder) h its = cc
aim_of bind c (Thread_of t) h its = cc

inside_has : (b : Body) → stays_inside (pointer_of b) ≡ true → has_pointer b ≡ true
inside_has (Mapping w) h = refl
inside_has (Region r) h = refl
inside_has (Reference to) h = refl
inside_has (Mutex locked) h = cc
inside_has Cond h = cc
inside_has (Port set served) h = cc
inside_has Portset h = cc
inside_has (Space birth holder) h = cc
inside_has (Thread_of t) h = cc

-- nothing but inner pointers is shown by the second mask and not by the first
alike : (bind : ℕ → ℕ) (y : Path) (b : Body) → stays_inside (pointer_of b) ≡ false → bound bind nothing_led y b ≡ bound bind (led_below 0) y b
alike bind y (Mapping w) h = rw (h, below_zero w.region) refl
alike bind y (Region r) h = rw (h, below_zero r.keeper) refl
alike bind y (Reference to) h = rw (h, below_zero to) refl
alike bind y (Mutex locked) h = refl
alike bind y Cond h = refl
alike bind y (Port set served) h = refl
alike bind y Portset h = refl
alike bind y (Space birth holder) h = refl
alike bind y (Thread_of t) h = rw (talk_off t.talk, fault_off t.fault) refl
  where
    talk_off : (o : Option Talk) → shown_talk (is_out_below 0) o ≡ shown_talk nowhere o
    talk_off None = refl
    talk_off (Some talk) = rw (below_zero talk.port) refl

    fault_off : (o : Option Fault) → shown_fault (is_out_below 0) o ≡ shown_fault nowhere o
    fault_off None = refl
    fault_off (Some fault) = rw (below_zero fault.port) refl

module _ (bind : ℕ → ℕ) (c : World) (root : c.body [] ≡ Some (Space 0 None)) (slot : ℕ) (Safe : ℕ → Site → Type 0) where
  abbrev world : List Path → World
  world done = leading bind c (led_below 0) nothing_led done

  pub point_item : (q : Path) (x : ℕ) (b : Body) (done : List Path) → there c q ≡ Some kinds.Space → IsWay (there c) q → IsAble bind c q x b
      → is_among (x ∷ q) done ≡ false →
      Leaves slot Safe (world done) q None (world ((x ∷ q) ∷ done)) q None (points_body slot q x b)
  point_item q x b done space way its anew = by (pointer_of b) refl
    where
      idle : stays_inside (pointer_of b) ≡ false → Leaves slot Safe (world done) q None (world ((x ∷ q) ∷ done)) q None []
      idle off = leaves_none slot Safe (world done) (world ((x ∷ q) ∷ done)) q None
          (led_alike bind c (led_below 0) nothing_led done (x ∷ q) b its.there (alike bind (x ∷ q) b off))

      inside : (z : Path) → pointer_of b ≡ At z → Leaves slot Safe (world done) q None (world ((x ∷ q) ∷ done)) q None (leads_to_at slot T q z
          ++ Points P q x T ∷ [])
      inside z e g good =
          let stays : stays_inside (pointer_of b) ≡ true = rw e refl in
          let has = inside_has b stays in
          let aim : IsAim bind c b (At z) = subst (IsAim bind c b) e (aim_of bind c b has its.aims) in
          let there_way = led_way bind c (led_below 0) nothing_led done z aim.0 in
          let led = leads_t slot Safe (world done) q z g good there_way in
          let kind : kind_at (world done) (At z) ≡ there c z = as_kind ((world done).body z) ∙ led_kinds bind c (led_below 0) nothing_led done z in
          let live = live_way (world done) z (led_kinds bind c (led_below 0) nothing_led done [] ∙ ap (option_map kind_of) root) there_way in
          let fine : is_of_kinds (held_kinds b) (kind_at (world done) (At z)) ≡ true = rw kind aim.1 in
          let shows : (led_below 0).pointer (pointer_of b) ≡ true = rw e refl in
          let next = pointed bind c root slot Safe (led_below 0) nothing_led None x q b done space its anew led.site T (At z) led.good refl led.to
          (sym (ap (rebound_ptr bind) e)) has shows live fine in
          record {
            site = next.site;
            runs = on slot Safe g led.site next.site (leads_to_at slot T q z) (Points P q x T ∷ []) led.runs next.runs;
            good = next.good;
          }

      dead : pointer_of b ≡ Dead → Leaves slot Safe (world done) q None (world ((x ∷ q) ∷ done)) q None (Points P q x D ∷ [])
      dead e g good =
          let stays : stays_inside (pointer_of b) ≡ true = rw e refl in
          let has = inside_has b stays in
          let shows : (led_below 0).pointer (pointer_of b) ≡ true = rw e refl in
          pointed bind c root slot Safe (led_below 0) nothing_led None x q b done space its anew g D Dead good refl good.dead
          (sym (ap (rebound_ptr bind) e)) has shows tt refl

      by : (p : Ptr) → pointer_of b ≡ p → Leaves slot Safe (world done) q None (world ((x ∷ q) ∷ done)) q None (points_in slot q x p)
      by (At z) e = inside z e
      by Dead e = dead e
      by Null e = idle (rw e refl)
      by (Out i) e = idle (rw e refl)
      by Outside e = idle (rw e refl)
      by Far e = idle (rw e refl)

  pub point_idle : (q : Path) (x : ℕ) (b : Body) → IsAble bind c q x b → leads_in b ≡ false
      → bound bind nothing_led (x ∷ q) b ≡ bound bind (led_below 0) (x ∷ q) b
  point_idle q x b its off = alike bind (x ∷ q) b off
