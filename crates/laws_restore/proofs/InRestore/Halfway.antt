-- A thread of which one of two fields is led: the talk is, and the fault isn't yet.
use Rattle.std.proofs.Common.{◌≡◌, ℕ, Bool, true, false, cond, ◌∷◌, List, Option, Some, option_map, refl, ap, ◌∙◌}
use Rattle.fk_model.specs.Places.{Path, same_path}
use Rattle.fk_model.specs.Objects.{Body, kind_of}
use Rattle.fk_model.specs.World.{World, Edit, edited, at_path, apply}
use Rattle.fk_model.specs.World.Change.{Alter}
use Rattle.fk_model.proofs.walks.PlaceLaws.{same_path_eq, same_path_refl}
use Rattle.laws_restore.specs.Restore.Fits.{there, IsWay}
use Rattle.laws_restore.specs.Restore.Stages.{Mask, is_among, bound, leading}
use Rattle.laws_restore.proofs.InRestore.Building.{way_same}
use Rattle.laws_restore.proofs.InRestore.Led.{kind_bound, led_kinds, body_old, led_as}

module _ (bind : ℕ → ℕ) (c : World) (new mid old : Mask) (done : List Path) (y : Path) (b : Body) (is : c.body y ≡ Some b)
    (anew : is_among y done ≡ false) where
  abbrev pub before : World
  before = leading bind c new old done

  abbrev pub halfway : World
  halfway = at_path y (λ o. Some (bound bind mid y b)) before

  abbrev pub after : World
  after = leading bind c new old (y ∷ done)

  pub halfway_kinds : (z : Path) → there halfway z ≡ there c z
  halfway_kinds z = by (same_path z y) refl
    where
      by : (t : Bool) → same_path z y ≡ t → option_map kind_of (cond t (Some (bound bind mid y b)) (before.body z)) ≡ there c z
      by true e = let here = same_path_eq z y e in rw (here, is) (ap Some (kind_bound bind mid y b))
      by false e = led_kinds bind c new old done z

  pub halfway_way : (z : Path) → IsWay (there c) z → IsWay (there halfway) z
  halfway_way z way = way_same (there halfway) (there c) z halfway_kinds way

  pub halfway_there : halfway.body y ≡ Some (bound bind mid y b)
  halfway_there = rw (same_path_refl y) refl

  old_there : before.body y ≡ Some (bound bind old y b)
  old_there = body_old bind c new old done y b is anew

  -- a body that is turned so
  turned : (f : Option Body → Option Body) → f (Some (bound bind old y b)) ≡ Some (bound bind mid y b) → at_path y f before ≡ halfway
  turned f h = λ i. record { body = λ z. by z (same_path z y) refl i; page = c.page; next = 0 }
    where
      by : (z : Path) (t : Bool) → same_path z y ≡ t → cond t (f (before.body z)) (before.body z) ≡ cond t (Some (bound bind mid y b)) (before.body z)
      by z true e = let here = same_path_eq z y e in rw here (ap f old_there ∙ h)
      by z false e = refl

  pub to_half : bound bind old y b ≡ bound bind mid y b → before ≡ halfway
  to_half same = λ i. record { body = λ z. by z (same_path z y) refl i; page = c.page; next = 0 }
    where
      by : (z : Path) (t : Bool) → same_path z y ≡ t → before.body z ≡ cond t (Some (bound bind mid y b)) (before.body z)
      by z true e = let here = same_path_eq z y e in rw here (old_there ∙ ap Some same)
      by z false e = refl

  pub edit_half : (e : Edit) → edited e (bound bind old y b) ≡ bound bind mid y b → apply (Alter y e) before ≡ halfway
  unfolding apply
  edit_half e h = turned (option_map (edited e)) (ap Some h)

  pub from_half : bound bind mid y b ≡ bound bind new y b → halfway ≡ after
  from_half same = led_as bind c new old done y b is anew (λ o. Some (bound bind mid y b)) (ap Some same)

  pub edit_rest : (e : Edit) → edited e (bound bind mid y b) ≡ bound bind new y b → apply (Alter y e) halfway ≡ after
  unfolding apply
  edit_rest e h = once ∙ led_as bind c new old done y b is anew (λ o. Some (edited e (bound bind mid y b))) (ap Some h)
    where
      once : at_path y (option_map (edited e)) halfway ≡ at_path y (λ o. Some (edited e (bound bind mid y b))) before
      once = λ i. record { body = λ z. by z (same_path z y) i; page = c.page; next = 0 }
        where
          by : (z : Path) (t : Bool) → cond t (option_map (edited e) (cond t (Some (bound bind mid y b)) (before.body z)))
              (cond t (Some (bound bind mid y b)) (before.body z)) ≡ cond t (Some (edited e (bound bind mid y b))) (before.body z)
          by z true = refl
          by z false = refl
