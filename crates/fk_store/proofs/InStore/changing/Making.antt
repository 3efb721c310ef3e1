-- Making: all that the making of an object owes.
use Rattle.std.proofs.Common.{◌≡◌, ◌≢◌, ℕ, ◌<◌, true, Option, Some, None, option_map, IsSome, ◌∷◌, refl, sym, ap, subst, ◌∙◌, arith}
use Rattle.std.specs.FinMap.{get, insert}
use Rattle.fk_model.specs.declared.names.Who.{Who}
use Rattle.fk_model.specs.declared.body.Body.{Body}
use Rattle.fk_model.specs.declared.body.Body.TheVariants.{Mutex, Cond, Mapping, Region, Port, Portset, Space, Thread, Reference}
use Rattle.fk_model.specs.Places.{Path}
use Rattle.fk_model.specs.World.{apply}
use Rattle.fk_model.specs.World.Change.{Make}
use Rattle.fk_model.specs.Valid.{kind_there}
use Rattle.fk_store.specs.Store.Contents.{Contents, stored_birth, home, is_live}
use Rattle.fk_store.specs.Store.Paths.{place, path, IsAtHome}
use Rattle.fk_store.specs.Store.Bodies.{body_by}
use Rattle.fk_store.specs.Store.Named.{OnNamed}
use Rattle.fk_store.specs.Store.World.{world, IsLive, IsSpace}
use Rattle.fk_store.specs.Store.WellFormed.{is_there, IsSized, IsWellFormed}
use Rattle.fk_store.specs.Store.Makes.{making, IsNext, next_by}
use Rattle.fk_store.proofs.InStore.finding.Homes.{home-found}
use Rattle.fk_store.proofs.InStore.finding.NamedLaws.{OnNamed-map}
use Rattle.fk_store.proofs.InStore.finding.LookUps.{body-place, IsLive-there, IsSpace-live}
use Rattle.fk_store.proofs.InStore.changing.Makes.{live-born, path-made, world-made, kept-made}
use Rattle.fk_store.proofs.InStore.changing.MadeSpaces.{kept-space, path-old, path-live, path-new, world-space}
use Rattle.fk_store.proofs.InStore.changing.Changes.{kinds-making}

-- the contents with a new object
abbrev pub with_made : Contents → Who → Body → Contents
with_made m who b = record { bodies = insert m.bodies who b; pages = m.pages; next = next_by m.next b }

record IsMade (m : Contents) (who : Who) (b : Body) : Type 0 where
  kept : IsWellFormed (with_made m who b)
  world : world (with_made m who b) ≡ apply (making (place (path m) who) (body_by (path m) b)) (world m)
  home : IsAtHome (path (with_made m who b)) who b
  paths : (n : ℕ) → n ≢ m.next → path (with_made m who b) n ≡ path m n

module _ (m : Contents)
    (kept : IsWellFormed m) (who : Who) (slot : who.slot < 256) (space : IsSpace m who.space) (empty : (world m).body (place (path m) who) ≡ None) where
  pub is_empty : get m.bodies who ≡ None
  is_empty = by (get m.bodies who) refl
    where
      by : (o : Option Body) → get m.bodies who ≡ o → get m.bodies who ≡ None
      by None e = e
      by (Some b) e = let there : (world m).body (place (path m) who) ≡ Some (body_by (path m) b) = body-place m kept who
          ∙ ap (option_map (body_by (path m))) e in absurd (cc)

  lives : is_live m who.space ≡ true
  lives = IsSpace-live m kept who.space space

  module _ (b : Body) (named : OnNamed (IsLive m) b) where
    are_there : OnNamed (λ q. is_there m q ≡ true) b
    are_there = OnNamed-map (IsLive m) (λ q. is_there m q ≡ true) (IsLive-there m kept) b named

    plain_kept : stored_birth b ≡ None → IsSized b → IsWellFormed (record m { bodies = insert m.bodies who b })
    plain_kept plain sized = kept-made m kept who lives slot is_empty b plain are_there sized

    plain_world : stored_birth b ≡ None → world (record m { bodies = insert m.bodies who b }) ≡ apply (Make (place (path m) who) (body_by (path m) b)) (world m)
    plain_world plain = world-made m kept who lives slot is_empty b plain

    plain_paths : stored_birth b ≡ None → (n : ℕ) → n ≢ m.next → path (record m { bodies = insert m.bodies who b }) n ≡ path m n
    plain_paths plain n other = λ i. path-made m kept who lives slot is_empty b plain i n

  made_space : (holder : Option Who) → OnNamed (IsLive m) (Space m.next holder) → IsMade m who (Space m.next holder)
  made_space holder named =
      let kept2 = kept-space m kept who lives slot is_empty holder (are_there (Space m.next holder) named) in
      record {
        kept = kept2;
        world = world-space m kept who lives slot is_empty holder kept2 (are_there (Space m.next holder) named);
        home = path-new m kept who lives slot is_empty holder kept2
            ∙ ap (λ s. who.slot ∷ s) (sym (path-live m kept who lives slot is_empty holder kept2 who.space lives));
        paths = path-old m kept who lives slot is_empty holder kept2;
      }

  made : (b : Body) → IsNext (world m).next b → OnNamed (IsLive m) b → IsSized b → IsMade m who b
  unfolding world
  made (Mutex locked) next named sized = record {
    kept = plain_kept (Mutex locked) named refl sized;
    world = plain_world (Mutex locked) named refl;
    home = tt;
    paths = plain_paths (Mutex locked) named refl;
  }
  made Cond next named sized =
      record { kept = plain_kept Cond named refl sized; world = plain_world Cond named refl; home = tt; paths = plain_paths Cond named refl }
  made (Mapping first count offset write region) next named sized =
      record {
        kept = plain_kept (Mapping first count offset write region) named refl sized;
        world = plain_world (Mapping first count offset write region)
            named refl;
        home = tt;
        paths = plain_paths (Mapping first count offset write region) named refl;
      }
  made (Region first count write keeper) next named sized = record {
    kept = plain_kept (Region first count write keeper) named refl sized;
    world = plain_world (Region first count write keeper) named refl;
    home = tt;
    paths = plain_paths (Region first count write keeper) named refl;
  }
  made (Port set served) next named sized = record {
    kept = plain_kept (Port set served) named refl sized;
    world = plain_world (Port set served) named refl;
    home = tt;
    paths = plain_paths (Port set served) named refl;
  }
  made Portset next named sized =
      record { kept = plain_kept Portset named refl sized; world = plain_world Portset named refl; home = tt; paths = plain_paths Portset named refl }
  made (Space birth holder) next named sized = subst (λ n. IsMade m who (Space n holder)) (sym next.0) (made_space holder named)
  made (Thread thread) next named sized = record {
    kept = plain_kept (Thread thread) named refl sized;
    world = plain_world (Thread thread) named refl;
    home = tt;
    paths = plain_paths (Thread thread) named refl;
  }
  made (Reference to) next named sized = record {
    kept = plain_kept (Reference to) named refl sized;
    world = plain_world (Reference to) named refl;
    home = tt;
    paths = plain_paths (Reference to) named refl;
  }

  -- no space has the birth number yet
  pub is_fresh : (b : Body) → IsNext (world m).next b → (n : ℕ) → stored_birth b ≡ Some n → home m n ≡ None
  unfolding world
  is_fresh (Mutex locked) next n h = absurd (cc)
  is_fresh Cond next n h = absurd (cc)
  is_fresh (Mapping first count offset write region) next n h = absurd (cc)
  is_fresh (Region first count write keeper) next n h = absurd (cc)
  is_fresh (Port set served) next n h = absurd (cc)
  is_fresh Portset next n h = absurd (cc)
  is_fresh (Space birth holder) next n h = by (home m n) refl
    where
      by : (o : Option Who) → home m n ≡ o → o ≡ None
      by None e = refl
      by (Some other) e =
          let low = kept.born other n (home-found m n other e) in
          let same : birth ≡ n = cc in
          absurd (omega (arith, next.0))
  is_fresh (Thread thread) next n h = absurd (cc)
  is_fresh (Reference to) next n h = absurd (cc)

  module _ (b : Body) (next : IsNext (world m).next b) (named : OnNamed (IsLive m) b) (sized : IsSized b) where
    pub make-kept : IsWellFormed (with_made m who b)
    make-kept = (made b next named sized).kept

    pub make-world : world (with_made m who b) ≡ apply (making (place (path m) who) (body_by (path m) b)) (world m)
    make-world = (made b next named sized).world

    pub make-home : IsAtHome (path (with_made m who b)) who b
    make-home = (made b next named sized).home

    pub make-paths : (n : ℕ) → n ≢ (world m).next → path (with_made m who b) n ≡ path m n
    unfolding world
    make-paths = (made b next named sized).paths

    pub make-places : (other : Who) → IsLive m other → place (path (with_made m who b)) other ≡ place (path m) other
    make-places other h =
        let low = live-born m kept other.space (kept.housed other (IsLive-there m kept other h)) in
        ap (λ s. other.slot ∷ s) ((made b next named sized).paths other.space (omega arith))

    pub make-kinds : (x : Path) → IsSome (kind_there (world m) x) → kind_there (world (with_made m who b)) x ≡ kind_there (world m) x
    make-kinds x some = ap (λ w. kind_there w x) make-world ∙ kinds-making (world m) (place (path m) who) (body_by (path m) b) empty x some
