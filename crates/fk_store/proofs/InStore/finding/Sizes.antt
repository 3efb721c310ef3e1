-- Sizes: every page of a store's world has its words, and every thread its registers, in good shape.
use Rattle.std.proofs.Common.{◌≡◌, ℕ, true, is_some, List, [], ◌∷◌, length, Option, Some, None, option_map, unwrap_or, refl, subst, ◌∙◌}
use Rattle.std.proofs.lemmas.Option.{same_Some}
use Rattle.std.specs.FinMap.{get}
use Rattle.fk_model.specs.declared.thread.Mode.{Mode as StoredMode}
use Rattle.fk_model.specs.declared.thread.Mode.TheVariants as modes
use Rattle.fk_model.specs.declared.body.Body as bodies_of
use Rattle.fk_model.specs.declared.body.Body.TheVariants as bodies
use Rattle.fk_model.specs.declared.names.Who.{Who}
use Rattle.fk_model.specs.declared.stage.Stage.{Stage}
use Rattle.fk_model.specs.Calls.{todo_of, rest_of, IsTodo, IsRest}
use Rattle.fk_model.specs.Objects.{Thread, registers_of, thread_of, and_then}
use Rattle.fk_model.specs.Places.{Path}
use Rattle.fk_model.specs.Shapes.{IsShapedMode}
use Rattle.fk_model.specs.Whole.{HasFullPages}
use Rattle.fk_model.proofs.calls.CallLaws.{words_keep_length_lem, length-rest_of, todo_writes_back_lem}
use Rattle.fk_store.specs.Store.Names.{at}
use Rattle.fk_store.specs.Store.Contents.{Contents}
use Rattle.fk_store.specs.Store.Paths.{path, space_at}
use Rattle.fk_store.specs.Store.Bodies.{mode_by, body_by}
use Rattle.fk_store.specs.Store.World.{world}
use Rattle.fk_store.specs.Store.WellFormed.{HasCall, IsSized, IsWellFormed}

-- the stages of a call and the rest beside them are as long as the registers
mode-long : (mode : StoredMode) (g : List ℕ) → length (registers_of (mode_by mode g)) ≡ length g
mode-long modes.Running g = refl
mode-long modes.Calling g = words_keep_length_lem _ _ ∙ length-rest_of (unwrap_or (todo_of g) []) g
mode-long (modes.Halted code) g = refl
mode-long modes.Native g = refl

body-long : (p : ℕ → Path) (b : bodies_of.Body) → IsSized b → (t : Thread) → thread_of (body_by p b) ≡ Some t → length (registers_of t.mode) ≡ 16
body-long p (bodies.Mutex locked) sized t is = absurd (cc)
body-long p bodies.Cond sized t is = absurd (cc)
body-long p (bodies.Mapping first count offset write region) sized t is = absurd (cc)
body-long p (bodies.Region first count write keeper) sized t is = absurd (cc)
body-long p (bodies.Port set served) sized t is = absurd (cc)
body-long p bodies.Portset sized t is = absurd (cc)
body-long p (bodies.Space birth holder) sized t is = absurd (cc)
body-long p (bodies.Thread thread) sized t is =
    subst (λ (t : Thread). length (registers_of t.mode) ≡ 16) (same_Some _ _ is) (mode-long thread.mode thread.regs ∙ sized.0)
body-long p (bodies.Reference to) sized t is = absurd (cc)

-- a calling thread has the stages of a call before it
mode-shaped : (mode : StoredMode) (g : List ℕ) → length g ≡ 16 → HasCall mode g → IsShapedMode (mode_by mode g)
mode-shaped modes.Running g long call = long
mode-shaped modes.Calling g long call = by (todo_of g) refl call
  where
    by : (o : Option (List Stage)) → todo_of g ≡ o → is_some o ≡ true → IsTodo (unwrap_or o []) × IsRest (unwrap_or o []) (rest_of (unwrap_or o []) g)
    by None named call = absurd (cc)
    by (Some todo) named call = let all = todo_writes_back_lem g todo long named in (all.0, all.1)
mode-shaped (modes.Halted code) g long call = long
mode-shaped modes.Native g long call = long

body-shaped : (p : ℕ → Path) (b : bodies_of.Body) → IsSized b → (t : Thread) → thread_of (body_by p b) ≡ Some t → IsShapedMode t.mode
body-shaped p (bodies.Mutex locked) sized t is = absurd (cc)
body-shaped p bodies.Cond sized t is = absurd (cc)
body-shaped p (bodies.Mapping first count offset write region) sized t is = absurd (cc)
body-shaped p (bodies.Region first count write keeper) sized t is = absurd (cc)
body-shaped p (bodies.Port set served) sized t is = absurd (cc)
body-shaped p bodies.Portset sized t is = absurd (cc)
body-shaped p (bodies.Space birth holder) sized t is = absurd (cc)
body-shaped p (bodies.Thread thread) sized t is =
    subst (λ (t : Thread). IsShapedMode t.mode) (same_Some _ _ is) (mode-shaped thread.mode thread.regs sized.0 sized.1)
body-shaped p (bodies.Reference to) sized t is = absurd (cc)

module _ (m : Contents) (kept : IsWellFormed m) where
  pub registers-long : (x : Path) (t : Thread) → and_then thread_of ((world m).body x) ≡ Some t → length (registers_of t.mode) ≡ 16
  unfolding world
  registers-long [] t is = absurd (cc)
  registers-long (k ∷ s) t is = by (space_at m s) is
    where
      under : (who : Who) (o : Option bodies_of.Body) →
          get m.bodies who ≡ o → and_then thread_of (option_map (body_by (path m)) o) ≡ Some t → length (registers_of t.mode) ≡ 16
      under who None e is = absurd (cc)
      under who (Some b) e is = body-long (path m) b (kept.sized who b e) t is

      by : (o : Option ℕ) →
          and_then thread_of (and_then (λ n. option_map (body_by (path m)) (get m.bodies (at n k))) o) ≡ Some t → length (registers_of t.mode) ≡ 16
      by None is = absurd (cc)
      by (Some n) is = under (at n k) (get m.bodies (at n k)) refl is

  pub registers-shaped : (x : Path) (t : Thread) → and_then thread_of ((world m).body x) ≡ Some t → IsShapedMode t.mode
  unfolding world
  registers-shaped [] t is = absurd (cc)
  registers-shaped (k ∷ s) t is = by (space_at m s) is
    where
      under : (who : Who) (o : Option bodies_of.Body) →
          get m.bodies who ≡ o → and_then thread_of (option_map (body_by (path m)) o) ≡ Some t → IsShapedMode t.mode
      under who None e is = absurd (cc)
      under who (Some b) e is = body-shaped (path m) b (kept.sized who b e) t is

      by : (o : Option ℕ) →
          and_then thread_of (and_then (λ n. option_map (body_by (path m)) (get m.bodies (at n k))) o) ≡ Some t → IsShapedMode t.mode
      by None is = absurd (cc)
      by (Some n) is = under (at n k) (get m.bodies (at n k)) refl is

  pub pages-long : HasFullPages (world m)
  unfolding world
  pages-long s page words is = by (space_at m s) is
    where
      by : (o : Option ℕ) → and_then (λ n. get m.pages (n, page)) o ≡ Some words → length words ≡ 64
      by None is = absurd (cc)
      by (Some n) is = kept.full n page words is
