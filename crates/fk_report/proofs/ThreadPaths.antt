-- Thread paths: one step up from an object to the space in which it lies.
use Rattle.std.proofs.Common.{◌≡◌, ◌↔◌, ◌<◌, ℕ, zero, suc, true, [], Option, Some, None, is_some, option_map, IsSome, IfSome, IfNone, refl, subst, arith}
use Rattle.fk_model.specs.declared.names.Who.{Who}
use Rattle.fk_model.specs.Places.{Path}
use Rattle.fk_model.specs.Objects.{Body, Thread, thread_of, kind_of, and_then}
use Rattle.fk_model.specs.World.{World}
use Rattle.fk_model.specs.Valid.{kind_there, birth_at, birth_of}
use Rattle.fk_store.specs.Store.Contents.{Contents}
use Rattle.fk_store.specs.Store.Paths.{path, path_by}
use Rattle.fk_store.specs.Store.World.{world, place_of, IsLive, IsSpace}
use Rattle.fk_model.specs.Searches.{thread_at}

born-there : (w : World) (x : Path) (n : ℕ) → birth_at w x ≡ Some n → IsSome (kind_there w x)
unfolding kind_there
born-there w x n born = by (w.body x) born
  where
    by : (b : Option Body) → and_then birth_of b ≡ Some n → is_some (option_map kind_of b) ≡ true
    by None is = absurd (cc)
    by (Some b) is = refl

module _ (m : Contents) where
  -- a space that is live and has no home is the root
  pub root-path : (n : ℕ) (home : Option Who) → IsSome home ↔ ((0 < n) × IsSpace m n) → IsSpace m n → IfNone home (path m n ≡ [])
  unfolding path path_by
  root-path zero None some live = refl
  root-path (suc k) None some live = let there = some.1 (omega arith, live) in absurd (cc)
  root-path n (Some who) some live = tt

  -- its home is live
  pub home-live : (n : ℕ) (home : Option Who) → IsSpace m n → IfSome home (λ who. path m n ≡ place_of m who) → IfSome home (λ who. IsLive m who)
  home-live n None live place = tt
  home-live n (Some who) live place = born-there (world m) (place_of m who) n (subst (λ x. birth_at (world m) x ≡ Some n) place live)

pub thread-there : (w : World) (x : Path) (t : Thread) → thread_at w x ≡ Some t → IsSome (kind_there w x)
unfolding kind_there
thread-there w x t is = by (w.body x) is
  where
    by : (b : Option Body) → and_then thread_of b ≡ Some t → is_some (option_map kind_of b) ≡ true
    by None is = absurd (cc)
    by (Some b) is = refl
