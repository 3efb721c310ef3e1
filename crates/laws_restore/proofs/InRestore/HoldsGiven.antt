-- The pass that gives spaces inside their holders.
use Rattle.std.proofs.Common.{◌≡◌, ℕ, true, false, List, [], ◌∷◌, ◌++◌, Option, Some, None, option_map, refl, ap, ◌∙◌}
use Rattle.fk_model.specs.declared.names.Kind.TheVariants as kinds
use Rattle.fk_model.specs.Places.{Path, Ptr}
use Rattle.fk_model.specs.Places.Ptr.{Null, Dead, At, Out, Outside, Far}
use Rattle.fk_model.specs.Objects.{kind_of}
use Rattle.fk_model.specs.Objects.Body.{Space}
use Rattle.fk_model.specs.World.{World, edited, apply}
use Rattle.fk_model.specs.World.Change.{Alter}
use Rattle.fk_model.specs.World.Edit.{SetHolder}
use Rattle.laws_restore.specs.Sites.Orders.{Site}
use Rattle.laws_restore.specs.Sites.Orders.Order.{Holds}
use Rattle.fk_model.specs.Whole.{is_scratch_slot}
use Rattle.laws_restore.specs.Restore.Rooms.{Room}
use Rattle.laws_restore.specs.Restore.Script.{P, T, goes_to, leads_to_at, holds_space, stands_held, holds_spaces, after_holds}
use Rattle.laws_restore.specs.Restore.Stages.{Mask, bound, leading, all_led}
use Rattle.laws_restore.specs.Restore.Roomed.{IsNewSpace, with_space, AreSpaces, with_spaces}
use Rattle.laws_restore.proofs.InRestore.Leaving.{Leaves, leaves_on, leaves_none, leaves_goes, leads_t, place_of, ordered}
use Rattle.laws_restore.proofs.InRestore.Ways.{on}
use Rattle.laws_restore.proofs.InRestore.Led.{led_kinds, led_way, body_old, led_as, led_alike}
use Rattle.laws_restore.proofs.InRestore.Tying.{kind_there_of}

module _ (bind : ℕ → ℕ) (c : World) (root : c.body [] ≡ Some (Space 0 None)) (slot : ℕ) (Safe : ℕ → Site → Type 0)
    (unscratched : (k : ℕ) (x : Path) → is_scratch_slot k ≡ true → c.body (k ∷ x) ≡ None) where
  abbrev new : Mask
  new = all_led true

  abbrev old : Mask
  old = all_led false

  abbrev world : List Path → World
  world done = leading bind c new old done

  held : (k : ℕ) (q : Path) (h : Path) (p : Path) (made : List Path) → IsNewSpace c (k ∷ q) (Some (At h)) made →
      Leaves slot Safe (world made) p None (world ((k ∷ q) ∷ made)) q None (goes_to slot p q ++ (leads_to_at slot T q h ++ Holds P q k T h ∷ []))
  unfolding apply edited
  held k q h p made its =
      let y = k ∷ q in
      let here = world made in
      let done = world (y ∷ made) in
      let anew = its.5 in
      let b = Space 0 (Some (At h)) in
      let is = its.0 in
      let old_there = body_old bind c new old made y b is anew in
      let kinds_same = led_kinds bind c new old made in
      let aim = its.6 in
      leaves_on slot Safe here p None here q None done q None (goes_to slot p q) (leads_to_at slot T q h ++ Holds P q k T h ∷ [])
      (leaves_goes slot Safe here p q None (led_way bind c new old made q its.3))
      (λ g good.
      let led = leads_t slot Safe here q h g good (led_way bind c new old made h aim.0) in
      let site = led.site in
      let built = led.good.built in
      let next = ordered slot Safe here done q None site (Holds P q k T h) (apply (Alter y (SetHolder (Some (At h)))) site.built) led.good refl refl
      (ap (apply (Alter y (SetHolder (Some (At h))))) built ∙ led_as bind c new old made y b is anew (option_map (edited (SetHolder (Some (At h))))) refl)
      (record {
        place = place_of slot Safe here q None site led.good (kinds_same q ∙ its.2);
        low = its.1;
        body = bound bind old y b;
        there = rw built old_there;
        space = refl;
        scratch = refl;
        led = led.to;
        holder_there = rw built (kind_there_of here h kinds.Thread (kinds_same [] ∙ ap (option_map kind_of) root) (kinds_same h ∙ aim.1) (λ e. cc));
      })
      (its.7, λ j is. rw (built, unscratched j y is) refl) in
      record { site = next.site; runs = on slot Safe g site next.site _ _ led.runs next.runs; good = next.good })

  -- one that nobody holds
  unheld : (path : Path) (made : List Path) (p : Path) → IsNewSpace c path None made
      → Leaves slot Safe (world made) p None (world (with_space path made)) p None []
  unheld [] made p its = leaves_none slot Safe (world made) (world made) p None refl
  unheld (k ∷ q) made p its = leaves_none slot Safe (world made) (world ((k ∷ q) ∷ made)) p None
      (led_alike bind c new old made (k ∷ q) (Space 0 None) its.0 refl)

  one_space : (path : Path) (holder : Option Ptr) (p : Path) (made : List Path) → IsNewSpace c path holder made →
      Leaves slot Safe (world made) p None (world (with_space path made)) (stands_held p path holder) None (holds_space slot p path holder)
  one_space (k ∷ q) (Some (At h)) p made its = held k q h p made its
  one_space [] None p made its = unheld [] made p its
  one_space (k ∷ q) None p made its = unheld (k ∷ q) made p its
  one_space [] (Some holder) p made its = cc
  one_space (k ∷ q) (Some Null) p made its = absurd its.6
  one_space (k ∷ q) (Some Dead) p made its = absurd its.6
  one_space (k ∷ q) (Some (Out j)) p made its = absurd its.6
  one_space (k ∷ q) (Some Outside) p made its = absurd its.6
  one_space (k ∷ q) (Some Far) p made its = absurd its.6

  pub spaces_held : (rooms : List Room) (p : Path) (made : List Path) → AreSpaces c rooms made →
      Leaves slot Safe (world made) p None (world (with_spaces rooms made)) (after_holds p rooms) None (holds_spaces slot p rooms)
  unfolding holds_spaces
  spaces_held [] p made its = leaves_none slot Safe (world made) (world made) p None refl
  spaces_held (r ∷ rs) p made its =
      leaves_on slot Safe (world made) p None (world (with_space r.path made)) (stands_held p r.path r.holder) None
      (world (with_spaces rs (with_space r.path made))) (after_holds (stands_held p r.path r.holder) rs) None
      (holds_space slot p r.path r.holder) (holds_spaces slot (stands_held p r.path r.holder) rs) (one_space r.path r.holder p made its.0)
      (spaces_held rs (stands_held p r.path r.holder) (with_space r.path made) its.1)
