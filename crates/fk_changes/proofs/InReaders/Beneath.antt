-- Beneath: a walk up from an object to a space, and the walk down from the space that comes to the object.
use Rattle.std.proofs.Common.{◌≡◌, ℕ, zero, suc, ◌+◌, ◌<◌, ◌≤◌, ◌^◌, inl, inr, Bool, true, false, eqb, eq-eqb, List, [], ◌∷◌, ◌++◌, Option, Some, None, option_map, is_some, IsSome, IfSome, refl, sym, ap, subst, ◌∙◌, arith}
use Rattle.std.specs.List.{list_any}
use Rattle.std.proofs.lemmas.Bool.{cases_lt}
use Rattle.std.proofs.lemmas.List.{append_assoc}
use Rattle.std.proofs.lemmas.Option.{same_Some}
use Rattle.fk_model.specs.declared.limits.TheConstants.{SLOTS}
use Rattle.fk_model.specs.declared.names.Who.{Who}
use Rattle.fk_model.specs.Places.{Path, same_path, strip, is_within}
use Rattle.fk_model.specs.Objects.{Body, kind_of, and_then}
use Rattle.fk_model.specs.Searches.{slots, residents, depth, beneath_by, beneath}
use Rattle.fk_model.specs.Valid.{birth_at, birth_of, kind_there}
use Rattle.fk_model.specs.World.{World}
use Rattle.fk_model.proofs.walks.Members.{IsIn, in_left, in_right, in_filter, of_filter, any_in, of_any, in_flat_map, of_flat_map}
use Rattle.fk_model.proofs.walks.PlaceLaws.{same_path_refl, same_path_eq, strip-append}
use Rattle.fk_model.proofs.walks.WalkLaws.{live-kind}
use Rattle.fk_store.specs.Store.Contents.{Contents}
use Rattle.fk_store.specs.Store.Paths.{path, place}
use Rattle.fk_store.specs.Store.World.{world, IsLive, IsSpace}
use Rattle.fk_store.proofs.InStore.finding.Walks.{path-root}

-- ---- the walk down comes to an object where the walk up from it comes to the space

in_slots : (n k : ℕ) → k < n → IsIn k (slots n)
unfolding slots
in_slots zero k low = absurd (omega arith)
in_slots (suc n) k low = elim (cases_lt k n) [
  | inl less ↦ in_left k (slots n) (n ∷ []) (in_slots n k less)
  | inr past ↦ in_right k (slots n) (n ∷ []) (inl (omega arith))
]

in_residents : (w : World) (k : ℕ) (s : Path) → k < 256 → IsSome (w.body (k ∷ s)) → IsIn k (residents w s)
unfolding residents
in_residents w k s low live = in_filter (λ j. is_some (w.body (j ∷ s))) k (slots SLOTS) (in_slots SLOTS k low) live

-- a walk from x down, n spaces deep, comes to y
abbrev pub Meets : ℕ → World → Path → Path → Type 0
Meets n w x y = IsIn y (x ∷ beneath_by n w x)

met_from_above : (n : ℕ) (w : World) (k : ℕ) (s y : Path) → k < 256 → IsSome (w.body (k ∷ s)) → Meets n w (k ∷ s) y → IsIn y (beneath_by (suc n) w s)
unfolding beneath_by
met_from_above n w k s y low live met = in_flat_map (λ j. (j ∷ s) ∷ beneath_by n w (j ∷ s)) k y (residents w s) (in_residents w k s low live) met

-- and a deeper one too
met_deeper : (n m : ℕ) (w : World) (s y : Path) → n ≤ m → IsIn y (beneath_by n w s) → IsIn y (beneath_by m w s)
unfolding beneath_by
met_deeper zero m w s y few met = absurd met
met_deeper (suc n) zero w s y few met = absurd (omega arith)
met_deeper (suc n) (suc m) w s y few met =
    let found = of_flat_map (λ j. (j ∷ s) ∷ beneath_by n w (j ∷ s)) y (residents w s) met in
    in_flat_map (λ j. (j ∷ s) ∷ beneath_by m w (j ∷ s)) found.0 y (residents w s) found.1 (elim found.2 [
      | inl e ↦ inl e
      | inr g ↦ inr (met_deeper n m w (found.0 ∷ s) y (omega arith) g)
    ])

-- ---- what it comes to is there, and lies beneath the space

abbrev pub IsUnder : Path → Path → Type 0
IsUnder s y = (k : ℕ) × (q : Path) × (y ≡ k ∷ (q ++ s))

deeper_under : (j : ℕ) (s y : Path) → IsUnder (j ∷ s) y → IsUnder s y
deeper_under j s y (k, q, e) = (k, q ++ j ∷ [], e ∙ ap (λ t. k ∷ t) (sym (append_assoc q (j ∷ []) s)))

of_walk : (n : ℕ) (w : World) (s y : Path) → IsIn y (beneath_by n w s) → IsUnder s y × IsSome (w.body y)
unfolding beneath_by residents
of_walk zero w s y met = absurd met
of_walk (suc n) w s y met =
    let found = of_flat_map (λ j. (j ∷ s) ∷ beneath_by n w (j ∷ s)) y (residents w s) met in
    let live = (of_filter (λ j. is_some (w.body (j ∷ s))) found.0 (slots SLOTS) found.1).1 in
    elim found.2 [
      | inl e ↦ ((found.0, [], sym e), subst (λ x. IsSome (w.body x)) e live)
      | inr g ↦ let rest = of_walk n w (found.0 ∷ s) y g in (deeper_under found.0 s y rest.0, rest.1)
    ]

pub of_beneath : (w : World) (s y : Path) → IsIn y (beneath w s) → IsUnder s y × IsSome (w.body y)
unfolding beneath
of_beneath w s y met = of_walk depth w s y met

-- an object that is met is one of those
pub met_any : (s y : Path) (xs : List Path) → list_any (same_path y) xs ≡ true → IsIn y xs
met_any s y xs h = let found = of_any (same_path y) xs h in subst (λ x. IsIn x xs) (sym (same_path_eq y found.0 found.2)) found.1

under_within : (s : Path) (k : ℕ) (x : Path) → IsUnder s (k ∷ x) → is_within s x ≡ true
under_within s k x (j, q, e) = let tails : x ≡ q ++ s = cc in rw (tails, strip-append s q) refl

-- ---- one step up

within_itself : (s : Path) → is_within s s ≡ true
within_itself s = ap is_some (strip-append s [])

within_above : (s : Path) (k : ℕ) (x : Path) → same_path (k ∷ x) s ≡ false → is_within s (k ∷ x) ≡ is_within s x
unfolding strip
within_above s k x off = rw off (by (strip s x))
  where
    by : (o : Option Path) → is_some (option_map (λ q. k ∷ q) o) ≡ is_some o
    by None = refl
    by (Some q) = refl

within_root : (s : Path) → same_path [] s ≡ false → is_within s [] ≡ false
unfolding strip
within_root s off = rw off refl

-- two spaces that are there have paths of their own
spaces_apart : (m : Contents) (a b : ℕ) → IsSpace m a → IsSpace m b → eqb a b ≡ false → same_path (path m a) (path m b) ≡ false
spaces_apart m a b here there other = by (same_path (path m a) (path m b)) refl
  where
    by : (t : Bool) → same_path (path m a) (path m b) ≡ t → t ≡ false
    by false e = refl
    by true e =
        let same : birth_at (world m) (path m b) ≡ Some a = subst (λ x. birth_at (world m) x ≡ Some a) (same_path_eq (path m a) (path m b) e) here in
        let one = eq-eqb a b (same_Some _ _ (sym same ∙ there)) in
        absurd (cc)

space_lives : (w : World) (x : Path) (n : ℕ) → birth_at w x ≡ Some n → IsSome (kind_there w x)
unfolding kind_there
space_lives w x n is = by (w.body x) is
  where
    by : (o : Option Body) → and_then birth_of o ≡ Some n → IsSome (option_map kind_of o)
    by None is = absurd (cc)
    by (Some b) is = refl

-- the space in which something stands is there
pub stands_in : (m : Contents) (n : ℕ) → IsSpace m n → (o : Option Who) → IfSome o (λ who. path m n ≡ place (path m) who) → IfSome o (λ who. who.space < n) →
    IfSome o (λ who. IsLive m who × (place (path m) who ≡ path m n) × (who.space < n))
stands_in m n space None home older = tt
stands_in m n space (Some who) home older =
    (subst (λ x. IsSome (kind_there (world m) x)) home (space_lives (world m) (path m n) n space), sym home, older)

-- ---- the walk up

-- it has come from an object to this one, and the space may be above
pub record IsOnWay (m : Contents) (outer : ℕ) (object at : Who) : Type 0 where
  pub live : IsLive m at
  pub within : is_within (path m outer) (path m object.space) ≡ is_within (path m outer) (path m at.space)
  pub steps : ℕ
  pub met : Meets steps (world m) (place (path m) at) (place (path m) object)
  pub older : at.space + steps ≤ object.space

pub begins : (m : Contents) (outer : ℕ) (object : Who) → IsLive m object → IsOnWay m outer object object
begins m outer object live = record { live = live; within = refl; steps = 0; met = inl refl; older = omega arith }

module _ (m : Contents) (outer : ℕ) (object at : Who) (on : IsOnWay m outer object at) (low : at.slot < 256) where
  abbrev w : World
  w = world m

  abbrev s : Path
  s = path m outer

  met : IsIn (place (path m) object) (beneath_by (suc on.steps) w (path m at.space))
  met = met_from_above on.steps w
      at.slot (path m at.space) (place (path m) object) low (sym (live-kind w (place (path m) at)) ∙ on.live) on.met

  pub goes_up : (higher : Who) → IsLive m higher → place (path m) higher ≡ path m at.space → higher.space < at.space →
      IsSpace m at.space → IsSpace m outer → eqb at.space outer ≡ false → IsOnWay m outer object higher
  goes_up higher live home older here there other = record {
    live = live;
    within = on.within ∙ ap (is_within s) (sym home)
        ∙ within_above s higher.slot (path m higher.space) (rw home (spaces_apart m at.space outer here there other));
    steps = suc on.steps;
    met = rw home (inr met);
    older = omega (arith, on.older, older);
  }

  pub arrives : at.space ≡ outer → object.space < 2 ^ 32 →
      (true ≡ is_within s (path m object.space)) × (true ≡ list_any (same_path (place (path m) object)) (beneath w s))
  unfolding beneath
  arrives here few =
      let all : IsIn (place (path m) object) (beneath_by depth w s) = met_deeper (suc on.steps) depth w s (place (path m) object)
      (omega (arith, on.older)) (subst (λ n. IsIn (place (path m) object) (beneath_by (suc on.steps) w (path m n))) here met) in (
        sym (on.within ∙ ap (λ n. is_within s (path m n)) here ∙ within_itself s),
        sym (any_in (same_path (place (path m) object)) (place (path m) object) (beneath_by depth w s) all (same_path_refl (place (path m) object))),
      )

  pub leaves : at.space ≡ 0 → IsSpace m at.space → IsSpace m outer → eqb at.space outer ≡ false →
      (false ≡ is_within s (path m object.space)) × (false ≡ list_any (same_path (place (path m) object)) (beneath w s))
  leaves top here there other =
      let apart = spaces_apart m at.space outer here there other in
      let off : same_path [] s ≡ false = subst (λ x. same_path x s ≡ false) (ap (path m) top ∙ path-root m) apart in
      let none : is_within s (path m object.space) ≡ false = on.within ∙ ap (is_within s) (ap (path m) top ∙ path-root m) ∙ within_root s off in
      (sym none, sym (by (list_any (same_path (place (path m) object)) (beneath w s)) refl none))
    where
      by : (t : Bool) → list_any (same_path (place (path m) object)) (beneath w s) ≡ t → is_within s (path m object.space) ≡ false → t ≡ false
      by false e none = refl
      by true e none =
          let under = (of_beneath w s (place (path m) object) (met_any s (place (path m) object) (beneath w s) e)).0 in
          let yes = under_within s object.slot (path m object.space) under in
          absurd (cc)

-- ---- of spaces

pub rootless : {P : Type 0} → P → (n : ℕ) → ((0 < n) × P → false ≡ true) → n ≡ 0
rootless p zero none = refl
rootless p (suc n) none = let no = none (omega arith, p) in absurd (cc)

pub itself : (m : Contents) (inner outer : ℕ) → inner ≡ outer → true ≡ is_within (path m outer) (path m inner)
itself m inner outer same = sym (ap (λ n. is_within (path m outer) (path m n)) same ∙ within_itself (path m outer))

pub at_root : (m : Contents) (inner outer : ℕ) → inner ≡ 0 →
    IsSpace m inner → IsSpace m outer → eqb inner outer ≡ false → false ≡ is_within (path m outer) (path m inner)
at_root m inner outer top here there other =
    let root : path m inner ≡ [] = ap (path m) top ∙ path-root m in
    let off : same_path [] (path m outer) ≡ false = subst (λ x. same_path x (path m outer) ≡ false) root (spaces_apart m inner outer here there other) in
    sym (ap (is_within (path m outer)) root ∙ within_root (path m outer) off)

module _ (m : Contents) (inner outer : ℕ) (who : Who) (here : IsSpace m inner) (home : path m inner ≡ place (path m) who) where
  pub home_lives : IsLive m who
  home_lives = subst (λ x. IsSome (kind_there (world m) x)) home (space_lives (world m) (path m inner) inner here)

  pub at_home : IsSpace m outer → eqb inner outer ≡ false → is_within (path m outer) (path m who.space) ≡ is_within (path m outer) (path m inner)
  at_home there other =
      let apart : same_path (place (path m) who) (path m outer) ≡ false = rw home at (spaces_apart m inner outer here there other) in
      sym (ap (is_within (path m outer)) home ∙ within_above (path m outer) who.slot (path m who.space) apart)
