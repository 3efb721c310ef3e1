-- Stays: worlds with the same objects, birth numbers and talks; a burst that is committed leaves them so.
use Rattle.std.proofs.Common.{◌≡◌, ℕ, zero, suc, Bool, true, false, cond, ◌&&◌, List, [], ◌∷◌, filter, find, is_some, unwrap_or, Option, Some, None, option_map}
use Rattle.std.proofs.Common.{refl, sym, ◌∙◌}
use Rattle.std.specs.List.{flat_map}
use Rattle.fk_model.specs.declared.limits.TheConstants.{SLOTS}
use Rattle.fk_model.specs.Objects.{Mode, Talk, Thread, Body, thread_of, and_then, holds}
use Rattle.fk_model.specs.Objects.Body.{Thread_of}
use Rattle.fk_model.specs.Objects.Mode.{Running}
use Rattle.fk_model.specs.Places.{Path, same_path, leads_to}
use Rattle.fk_model.specs.Searches.{slots, residents, depth, beneath_by, beneath, objects, talk_at, is_service, client_at}
use Rattle.fk_model.specs.Valid.{birth_of, birth_at}
use Rattle.fk_model.specs.Who.{is_born, space_born, nowhere}
use Rattle.fk_model.specs.World.{World, at_path, edited}
use Rattle.fk_model.specs.World.Edit.{Proceed}
use Rattle.laws_bursts.specs.Bursts.{Burst}
use Rattle.laws_bursts.specs.Laws.{committed}
use Rattle.laws_runs.specs.Cores.{IsGone}

pub some-proceeds : (mode : Mode) (counter : ℕ) (o : Option Body) → is_some (option_map (edited (Proceed mode counter)) o) ≡ is_some o
some-proceeds mode counter None = refl
some-proceeds mode counter (Some b) = refl

pub birth-proceeds : (mode : Mode) (counter : ℕ) (o : Option Body) → and_then birth_of (option_map (edited (Proceed mode counter)) o) ≡ and_then birth_of o
unfolding edited
birth-proceeds mode counter None = refl
birth-proceeds mode counter (Some (Thread_of t)) = refl
birth-proceeds mode counter (Some b) = refl

abbrev pub talk_in : Option Body → Option Talk
talk_in o = and_then (λ (t : Thread). t.talk) (and_then thread_of o)

pub talk-proceeds : (mode : Mode) (counter : ℕ) (o : Option Body) → talk_in (option_map (edited (Proceed mode counter)) o) ≡ talk_in o
unfolding edited
talk-proceeds mode counter None = refl
talk-proceeds mode counter (Some (Thread_of t)) = refl
talk-proceeds mode counter (Some b) = refl

-- the same objects, as far as where one is, their birth numbers and talks
pub record IsAlike (w v : World) : Type 0 where
  pub some : (q : Path) → is_some (v.body q) ≡ is_some (w.body q)
  pub births : (q : Path) → birth_at v q ≡ birth_at w q
  pub talks : (q : Path) → talk_at v q ≡ talk_at w q

-- what becomes of the body at one path
module _ (w : World) (x : Path) (f : Option Body → Option Body) where
  -- what is the same of it is the same everywhere
  kept : {X : Type 0} (g : Option Body → X) → ((o : Option Body) → g (f o) ≡ g o) →
      (q : Path) → g (cond (same_path q x) (f (w.body q)) (w.body q)) ≡ g (w.body q)
  kept g same q = by (same_path q x)
    where
      by : (t : Bool) → g (cond t (f (w.body q)) (w.body q)) ≡ g (w.body q)
      by true = same (w.body q)
      by false = refl

  pub alike_at : (pages : Path → ℕ → Option (List ℕ)) → ((o : Option Body) → is_some (f o) ≡ is_some o) →
      ((o : Option Body) → and_then birth_of (f o) ≡ and_then birth_of o) → ((o : Option Body) → talk_in (f o) ≡ talk_in o) →
      IsAlike w (record (at_path x f w) { page = pages })
  alike_at pages some births talks = record {
    some = kept is_some some;
    births = kept (and_then birth_of) births;
    talks = kept talk_in talks;
  }

-- a burst that is committed
pub committed_alike : (w : World) (x : Path) (c : Burst) → IsAlike w (committed w x c)
committed_alike w x c = alike_at w x (option_map (edited (Proceed (Running c.registers) c.counter))) (committed w x c).page
    (some-proceeds (Running c.registers) c.counter) (birth-proceeds (Running c.registers) c.counter) (talk-proceeds (Running c.registers) c.counter)

-- ---- what follows from it

module _ (w v : World) (alike : IsAlike w v) where
  residents-same : (s : Path) → residents v s ≡ residents w s
  unfolding residents
  residents-same s = λ i. filter (λ k. alike.some (k ∷ s) i) (slots SLOTS)

  beneath-same : (n : ℕ) (s : Path) → beneath_by n v s ≡ beneath_by n w s
  unfolding beneath_by
  beneath-same zero s = refl
  beneath-same (suc n) s = λ i. flat_map (λ k. (k ∷ s) ∷ beneath-same n (k ∷ s) i) (residents-same s i)

  objects-same : objects v ≡ objects w
  unfolding beneath
  objects-same = beneath-same depth []

  -- each space has the path that it had
  pub born-same : (birth : ℕ) → space_born v birth ≡ space_born w birth
  unfolding space_born
  born-same birth = λ i. unwrap_or (find (λ s. is_born birth (alike.births s i)) ([] ∷ objects-same i)) nowhere

  -- and each native server the client that it had
  pub client-same : (port : Path) → client_at v port ≡ client_at w port
  unfolding client_at
  client-same port = λ i. find (λ q. holds (λ (talk : Talk). leads_to port talk.port && is_service talk.peer) (alike.talks q i)) (objects-same i)

  -- spaces are gone there that are gone here, and the other way round
  pub gone-there : (birth : ℕ) → IsGone w birth → IsGone v birth
  gone-there birth gone y there = gone y (sym (alike.births y) ∙ there)

  pub gone-here : (birth : ℕ) → IsGone v birth → IsGone w birth
  gone-here birth gone y there = gone y (alike.births y ∙ there)
