-- Firsts: the store of the root alone.
use Rattle.std.proofs.Common.{◌≡◌, ℕ, true, [], ◌∷◌, Option, Some, None, option_map, is_some, refl, ap, arith}
use Rattle.std.specs.FinMap.{get, empty, get-empty}
use Rattle.fk_model.specs.declared.names.Who.{Who}
use Rattle.fk_model.specs.Places.{Path}
use Rattle.fk_model.specs.Objects.{and_then}
use Rattle.fk_store.specs.Store.Names.{at, who_cmp, page_cmp}
use Rattle.fk_store.specs.Store.Contents.{Contents, stored_birth, birth_there}
use Rattle.fk_store.specs.Store.Paths.{path, space_at}
use Rattle.fk_store.specs.Store.Bodies.{body_by}
use Rattle.fk_store.specs.Store.World.{world, body_at, page_at, first_world, only_root}
use Rattle.fk_store.specs.Store.WellFormed.{is_there, IsWellFormed}

abbrev pub first : Contents
first = record { bodies = empty; pages = empty; next = 1 }

none_there : (who : Who) → get first.bodies who ≡ None
none_there who = get-empty who_cmp who

no_birth : {A : Type 0} (who : Who) (n : ℕ) → birth_there first who ≡ Some n → A
no_birth who n h = let none = none_there who in let nowhere : and_then stored_birth (get first.bodies who) ≡ None = rw none refl in absurd (cc)

no_body : {A : Type 0} (who : Who) → is_there first who ≡ true → A
no_body who h = let none = none_there who in let nowhere = ap is_some none in absurd (cc)

pub kept-first : IsWellFormed first
kept-first = record {
  begun = omega arith;
  alone = λ who n h. no_birth who n h;
  younger = λ who n h. no_birth who n h;
  born = λ who n h. no_birth who n h;
  slots = λ who h. no_body who h;
  housed = λ who h. no_body who h;
  paged = λ space page h. let none : get first.pages (space, page) ≡ None = get-empty page_cmp (space, page) in let nothing = ap is_some none in absurd (cc);
  leads = λ who b h. no_body who (rw h refl);
  sized = λ who b h. no_body who (rw h refl);
  full = λ space page words h. let none : get first.pages (space, page) ≡ None = get-empty page_cmp (space, page) in absurd (cc);
}

pub world-first : world first ≡ first_world
unfolding world
world-first = λ i. record { body = λ q. bodies q i; page = λ s page. pages s page i; next = 1 }
  where
    bodies : (q : Path) → body_at first q ≡ only_root q
    bodies [] = refl
    bodies (k ∷ s) = by (space_at first s)
      where
        by : (o : Option ℕ) → and_then (λ n. option_map (body_by (path first)) (get first.bodies (at n k))) o ≡ None
        by None = refl
        by (Some n) = rw (none_there (at n k)) refl

    pages : (s : Path) (page : ℕ) → page_at first s page ≡ None
    pages s page = by (space_at first s)
      where
        by : (o : Option ℕ) → and_then (λ n. get first.pages (n, page)) o ≡ None
        by None = refl
        by (Some n) = get-empty page_cmp (n, page)
