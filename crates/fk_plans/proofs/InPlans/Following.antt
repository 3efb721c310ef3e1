-- Following: whether a rename may change all others, by those that have names.
use Rattle.std.proofs.Common.{◌≡◌, ℕ, Bool, true, false, not, ◌||◌, [], ◌∷◌, Option, Some, None, IsSome, refl, sym, subst}
use Rattle.fk_model.specs.declared.names.Who.{Who}
use Rattle.fk_model.specs.Freezing.{is_swept, may_follow}
use Rattle.fk_model.specs.Objects.{Body}
use Rattle.fk_model.specs.Places.{Path}
use Rattle.fk_model.specs.Valid.{kind_there}
use Rattle.fk_model.specs.World.{World}
use Rattle.fk_store.specs.Store.Contents.{Contents}
use Rattle.fk_store.specs.Store.Paths.{path, place}
use Rattle.fk_store.specs.Store.World.{world, IsLive}
use Rattle.fk_changes.proofs.InDeaths.Scans.{ArePassed, passed_all}

-- an object may follow
abbrev pub IsFollower : Contents → Path → Path → Who → Type 0
IsFollower m me renamed other = may_follow (world m) me renamed (place (path m) other) ≡ true

root_follows : (m : Contents) (me renamed : Path) → may_follow (world m) me renamed [] ≡ true
unfolding world
root_follows m me renamed = refl

pub all_follow : (m : Contents) (me renamed : Path) →
    ((k : ℕ) (s : Path) → IsSome (kind_there (world m) (k ∷ s)) → (other : Who) × (place (path m) other ≡ k ∷ s)) →
    ArePassed (IsLive m) (IsFollower m me renamed) None → (q : Path) → may_follow (world m) me renamed q ≡ true
unfolding kind_there
all_follow m me renamed named all [] = root_follows m me renamed
all_follow m me renamed named all (k ∷ s) = by ((world m).body (k ∷ s)) refl
  where
    by : (b : Option Body) → (world m).body (k ∷ s) ≡ b → may_follow (world m) me renamed (k ∷ s) ≡ true
    by None e = rw e refl
    by (Some b) e =
        let live : IsSome (kind_there (world m) (k ∷ s)) = rw e refl in
        let other = named k s live in
        subst (λ x. may_follow (world m) me renamed x ≡ true) other.1
        (passed_all (IsLive m) (IsFollower m me renamed) all other.0 (subst (λ x. IsSome (kind_there (world m) x)) (sym other.1) live))

-- only what would follow may be barred from it
pub barred_follows : (w : World) (me renamed q : Path) → may_follow w me renamed q ≡ false → is_swept renamed q (w.body q) ≡ true
barred_follows w me renamed q off = by (is_swept renamed q (w.body q)) _ off
  where
    by : (a b : Bool) → (not a || b) ≡ false → a ≡ true
    by true b off = refl
    by false b off = absurd (cc)
