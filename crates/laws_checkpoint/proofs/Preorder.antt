-- The spaces that were met are the subtree's spaces in preorder: each once, and behind each the next one.
use Rattle.std.proofs.Common.{◌≡◌, ℕ, zero, suc, ◌<◌, ◌≤◌, Bool, true, false, cond, is_some, IsSome, List, [], ◌∷◌, ◌++◌, map, filter, flat_map, length, Option}
use Rattle.std.proofs.Common.{Some, None, option_map, refl, sym, ap, subst, ◌∙◌, arith, ◌⊎◌, inl, inr, append_assoc, length-append}
use Rattle.std.specs.Prelude.{slice_get}
use Rattle.std.proofs.lemmas.List.Elements.{filter-append}
use Rattle.fk_model.specs.declared.limits.TheConstants.{SLOTS}
use Rattle.fk_model.specs.declared.names.Kind.TheVariants as kinds
use Rattle.fk_model.specs.Places.{Path, same_path}
use Rattle.fk_model.specs.Objects.{Body, kind_of}
use Rattle.fk_model.specs.Objects.Body.{Mutex, Cond, Mapping, Region, Port, Portset, Space, Thread_of, Reference}
use Rattle.fk_model.specs.World.{World}
use Rattle.fk_model.specs.Searches.{slots, residents, depth, beneath_by, beneath, objects}
use Rattle.fk_model.specs.Valid.{kind_there, IsRooted}
use Rattle.fk_model.proofs.walks.Members.{IsIn, in_either, in_filter, of_filter, of_flat_map}
use Rattle.fk_model.proofs.walks.PlaceLaws.{same_path_refl, same_path_eq}
use Rattle.fk_model.proofs.walks.WalkLaws.{walked}
use Rattle.laws_pictures.specs.Imaged.{rank, Follows, AreItsSpaces}
use Rattle.laws_checkpoint.specs.Foreign.{number_there}
use Rattle.laws_checkpoint.specs.Walk.{Met, met}
use Rattle.laws_checkpoint.specs.Assembly.{is_space_number, spaces_met}
use Rattle.laws_checkpoint.proofs.Scans.{rising, slots_rise}
use Rattle.laws_checkpoint.proofs.Tasks.{spaces_are}

-- ---- lists

abbrev Chained : Path → List Path → Type 0
Chained l [] = Unit {0}
Chained l (x ∷ xs) = Follows l x × Chained x xs

abbrev last_of : Path → List Path → Path
last_of l [] = l
last_of l (x ∷ xs) = last_of x xs

chained_both : (l : Path) (xs ys : List Path) → Chained l xs → Chained (last_of l xs) ys → Chained l (xs ++ ys)
chained_both l [] ys first second = second
chained_both l (x ∷ xs) ys first second = (first.0, chained_both x xs ys first.1 second)

last_both : (l : Path) (xs ys : List Path) → last_of l (xs ++ ys) ≡ last_of (last_of l xs) ys
last_both l [] ys = refl
last_both l (x ∷ xs) ys = last_both x xs ys

last_in : (l : Path) (xs : List Path) → (last_of l xs ≡ l) ⊎ IsIn (last_of l xs) xs
last_in l [] = inl refl
last_in l (x ∷ xs) = by (last_in x xs)
  where
    by : (last_of x xs ≡ x) ⊎ IsIn (last_of x xs) xs → (last_of x xs ≡ l) ⊎ ((x ≡ last_of x xs) ⊎ IsIn (last_of x xs) xs)
    by (inl e) = inr (inl (sym e))
    by (inr is) = inr (inr is)

abbrev pub Apart : List Path → Type 0
Apart [] = Unit {0}
Apart (x ∷ xs) = (IsIn x xs → ⊥) × Apart xs

apart_both : (xs ys : List Path) → Apart xs → Apart ys → ((x : Path) → IsIn x xs → IsIn x ys → ⊥) → Apart (xs ++ ys)
apart_both [] ys first second none = second
apart_both (x ∷ xs) ys first second none = (not_both, apart_both xs ys first.1 second (λ y is. none y (inr is)))
  where
    not_both : IsIn x (xs ++ ys) → ⊥
    not_both h = by (in_either x xs ys h)
      where
        by : IsIn x xs ⊎ IsIn x ys → ⊥
        by (inl is) = first.0 is
        by (inr is) = none x (inl refl) is

abbrev cons : ℕ → Path → Path
cons k q = k ∷ q

same_tail : (j k : ℕ) (x y : Path) → cons j x ≡ k ∷ y → (j ≡ k) × (x ≡ y)
same_tail j k x y e = (cc, cc)

-- beneath one slot of a space and beneath another
heads_differ : (z y : Path) (j i : ℕ) (s : Path) → z ++ (j ∷ s) ≡ y ++ (i ∷ s) → j ≡ i
heads_differ [] [] j i s e = (same_tail j i s s e).0
heads_differ [] (b ∷ y) j i s e =
    let both = ap length e in
    let long = length-append y (i ∷ s) in
    absurd (omega (arith, both, long))
heads_differ (a ∷ z) [] j i s e =
    let both = ap length e in
    let long = length-append z (j ∷ s) in
    absurd (omega (arith, both, long))
heads_differ (a ∷ z) (b ∷ y) j i s e = heads_differ z y j i s (same_tail a b (z ++ (j ∷ s)) (y ++ (i ∷ s)) e).1

beneath_longer : (z : Path) (j : ℕ) (s : Path) → s ≡ z ++ (j ∷ s) → ⊥
beneath_longer z j s e = let long = length-append z (j ∷ s) in omega (arith, long, ap length e)

-- ---- the walk, of which a test leaves the spaces

module _ (c : World) (sel : Path → Bool) (above : (k : ℕ) (s : Path) → IsSome (c.body (k ∷ s)) → sel s ≡ true) where
  abbrev taken : Path → ℕ → Bool
  taken s j = is_some (c.body (j ∷ s))

  abbrev stretch : ℕ → Path → ℕ → List Path
  stretch n s k = (k ∷ s) ∷ beneath_by n c (k ∷ s)

  -- those beneath a space in its slots from one on
  abbrev from_slot : ℕ → Path → ℕ → ℕ → List Path
  from_slot n s m j = flat_map (stretch n s) (filter (taken s) (rising m j))

  beneath_is : (n : ℕ) (s : Path) → beneath_by (suc n) c s ≡ from_slot n s SLOTS 0
  unfolding beneath_by residents
  beneath_is n s = ap (λ (ks : List ℕ). flat_map (stretch n s) (filter (taken s) ks)) (slots_rise SLOTS)

  nothing : (s : Path) → beneath_by zero c s ≡ []
  unfolding beneath_by
  nothing s = refl

  abbrev LiesIn : Path → ℕ → Path → Type 0
  LiesIn s k x = (z : Path) × (x ≡ z ++ (k ∷ s))

  lies_in : (n : ℕ) (s x : Path) → IsIn x (beneath_by n c s) → (k : ℕ) × LiesIn s k x
  unfolding beneath_by
  lies_in zero s x h = absurd h
  lies_in (suc n) s x h =
      let found = of_flat_map (stretch n s) x (residents c s) h in
      by found.0 found.2 (λ is. lies_in n (found.0 ∷ s) x is)
    where
      by : (k : ℕ) → (k ∷ s ≡ x) ⊎ IsIn x (beneath_by n c (k ∷ s)) → (IsIn x (beneath_by n c (k ∷ s)) → (j : ℕ) × LiesIn (k ∷ s) j x) → (k : ℕ) × LiesIn s k x
      by k (inl e) deeper = (k, ([], sym e))
      by k (inr is) deeper =
          let its = deeper is in
          (k, (its.1.0 ++ its.0 ∷ [], its.1.1 ∙ sym (append_assoc its.1.0 (its.0 ∷ []) (k ∷ s))))

  stretch_lies : (n : ℕ) (s : Path) (k : ℕ) (x : Path) → IsIn x (stretch n s k) → LiesIn s k x
  stretch_lies n s k x (inl e) = ([], sym e)
  stretch_lies n s k x (inr is) =
      let its = lies_in n (k ∷ s) x is in
      (its.1.0 ++ its.0 ∷ [], its.1.1 ∙ sym (append_assoc its.1.0 (its.0 ∷ []) (k ∷ s)))

  -- what is no space has nothing beneath it
  nothing_beneath : (n : ℕ) (s : Path) → sel s ≡ false → beneath_by n c s ≡ []
  unfolding beneath_by residents
  nothing_beneath zero s off = refl
  nothing_beneath (suc n) s off = ap (flat_map (stretch n s)) (none (slots SLOTS))
    where
      none : (ks : List ℕ) → filter (taken s) ks ≡ []
      none [] = refl
      none (k ∷ ks) = by (c.body (k ∷ s)) refl (none ks)
        where
          by : (o : Option Body) → c.body (k ∷ s) ≡ o → filter (taken s) ks ≡ [] → cond (is_some o) (k ∷ filter (taken s) ks) (filter (taken s) ks) ≡ []
          by None e rest = rest
          by (Some b) e rest = let on : sel s ≡ true = above k s (ap is_some e) in let both = sym on ∙ off in cc

  abbrev left : List Path → List Path
  left xs = filter sel xs

  -- where the walk of a space's slots stands, as the space that was met last says
  abbrev StandsAt : Path → ℕ → Path → Type 0
  StandsAt s j l = (l ≡ s) ⊎ ((z : Path) × (i : ℕ) × (l ≡ z ++ (i ∷ s)) × (i < j))

  on : (s : Path) (j : ℕ) (l : Path) → StandsAt s j l → StandsAt s (suc j) l
  on s j l (inl e) = inl e
  on s j l (inr its) = inr (its.0, its.1, its.2, omega (arith, its.3))

  behind_stretch : (n : ℕ) (s : Path) (j : ℕ) → StandsAt s (suc j) (last_of (j ∷ s) (left (beneath_by n c (j ∷ s))))
  behind_stretch n s j = by (last_in (j ∷ s) (left (beneath_by n c (j ∷ s))))
    where
      found : Path
      found = last_of (j ∷ s) (left (beneath_by n c (j ∷ s)))

      by : (found ≡ j ∷ s) ⊎ IsIn found (left (beneath_by n c (j ∷ s))) → StandsAt s (suc j) found
      by (inl e) = inr ([], j, e, omega arith)
      by (inr is) = let its = stretch_lies n s j found (inr (of_filter sel found (beneath_by n c (j ∷ s)) is).0) in inr (its.0, j, its.1, omega arith)

  -- the first slot's stretch, where it is taken, and the rest
  abbrev first_then : ℕ → Path → ℕ → ℕ → Bool → List Path
  first_then n s m j t = flat_map (stretch n s) (cond t (j ∷ filter (taken s) (rising m (suc j))) (filter (taken s) (rising m (suc j))))

  left_stretch : (n : ℕ) (s : Path) (m j : ℕ) → sel (j ∷ s) ≡ true →
      left (first_then n s m j true) ≡ (j ∷ s) ∷ (left (beneath_by n c (j ∷ s)) ++ left (from_slot n s m (suc j)))
  left_stretch n s m j e = rw e (ap (λ (xs : List Path). (j ∷ s) ∷ xs) (filter-append sel (beneath_by n c (j ∷ s)) (from_slot n s m (suc j))))

  left_nothing : (n : ℕ) (s : Path) (m j : ℕ) → sel (j ∷ s) ≡ false → left (first_then n s m j true) ≡ left (from_slot n s m (suc j))
  left_nothing n s m j e = rw e (ap (λ (xs : List Path). left (xs ++ from_slot n s m (suc j))) (nothing_beneath n (j ∷ s) e))

  chain_from : (n : ℕ) (s : Path) → ((k : ℕ) → Chained (k ∷ s) (left (beneath_by n c (k ∷ s)))) → (m j : ℕ) (l : Path) → StandsAt s j l
      → Chained l (left (from_slot n s m j))
  unfolding rising
  chain_from n s deeper zero j l at = tt
  chain_from n s deeper (suc m) j l at = by (taken s j) (sel (j ∷ s)) refl (chain_from n s deeper m (suc j))
    where
      by : (t b : Bool) → sel (j ∷ s) ≡ b → ((l : Path) → StandsAt s (suc j) l → Chained l (left (from_slot n s m (suc j))))
          → Chained l (left (first_then n s m j t))
      by false b e later = later l (on s j l at)
      by true true e later =
          subst (Chained l) (sym (left_stretch n s m j e)) (
            at,
            chained_both (j ∷ s) (left (beneath_by n c (j ∷ s))) (left (from_slot n s m (suc j))) (deeper j)
                (later (last_of (j ∷ s) (left (beneath_by n c (j ∷ s)))) (behind_stretch n s j)),
          )
      by true false e later = subst (Chained l) (sym (left_nothing n s m j e)) (later l (on s j l at))

  pub chain_beneath : (n : ℕ) (s : Path) → Chained s (left (beneath_by n c s))
  chain_beneath zero s = subst (λ (xs : List Path). Chained s (left xs)) (sym (nothing s)) tt
  chain_beneath (suc n) s =
      subst (λ (xs : List Path). Chained s (left xs)) (sym (beneath_is n s)) (chain_from n s (λ k. chain_beneath n (k ∷ s)) SLOTS 0 s (inl refl))

  -- ---- each once

  lies_from : (n : ℕ) (s : Path) (m j : ℕ) (x : Path) → IsIn x (from_slot n s m j) → (z : Path) × (i : ℕ) × (x ≡ z ++ (i ∷ s)) × (j ≤ i)
  unfolding rising
  lies_from n s zero j x h = absurd h
  lies_from n s (suc m) j x h = by (taken s j) h (λ is. let its = lies_from n s m (suc j) x is in (its.0, its.1, its.2, omega (arith, its.3)))
    where
      Later : Type 0
      Later = IsIn x (from_slot n s m (suc j)) → (z : Path) × (i : ℕ) × (x ≡ z ++ (i ∷ s)) × (j ≤ i)

      either : Later → IsIn x (stretch n s j) ⊎ IsIn x (from_slot n s m (suc j)) → (z : Path) × (i : ℕ) × (x ≡ z ++ (i ∷ s)) × (j ≤ i)
      either later (inl is) = let its = stretch_lies n s j x is in (its.0, j, its.1, omega arith)
      either later (inr is) = later is

      by : (t : Bool) → IsIn x (first_then n s m j t) → Later → (z : Path) × (i : ℕ) × (x ≡ z ++ (i ∷ s)) × (j ≤ i)
      by false is later = later is
      by true is later = either later (in_either x (stretch n s j) (from_slot n s m (suc j)) is)

  apart_from : (n : ℕ) (s : Path) → ((k : ℕ) → Apart (left (beneath_by n c (k ∷ s)))) → (m j : ℕ) → Apart (left (from_slot n s m j))
  unfolding rising
  apart_from n s deeper zero j = tt
  apart_from n s deeper (suc m) j = by (taken s j) (sel (j ∷ s)) refl (apart_from n s deeper m (suc j))
    where
      -- what lies in this slot lies in no later one
      clash : (x : Path) → IsIn x (stretch n s j) → IsIn x (left (from_slot n s m (suc j))) → ⊥
      clash x here there =
          let one = stretch_lies n s j x here in
          let other = lies_from n s m (suc j) x (of_filter sel x (from_slot n s m (suc j)) there).0 in
          let same = heads_differ one.0 other.0 j other.1 s (sym one.1 ∙ other.2) in
          omega (arith, same, other.3)

      head_once : IsIn (j ∷ s) (left (beneath_by n c (j ∷ s)) ++ left (from_slot n s m (suc j))) → ⊥
      head_once h = either (in_either (j ∷ s) (left (beneath_by n c (j ∷ s))) (left (from_slot n s m (suc j))) h)
        where
          either : IsIn (j ∷ s) (left (beneath_by n c (j ∷ s))) ⊎ IsIn (j ∷ s) (left (from_slot n s m (suc j))) → ⊥
          either (inl is) =
              let its = lies_in n (j ∷ s) (j ∷ s) (of_filter sel (j ∷ s) (beneath_by n c (j ∷ s)) is).0 in
              beneath_longer its.1.0 its.0 (j ∷ s) its.1.1
          either (inr is) = clash (j ∷ s) (inl refl) is

      by : (t b : Bool) → sel (j ∷ s) ≡ b → Apart (left (from_slot n s m (suc j))) → Apart (left (first_then n s m j t))
      by false b e rest = rest
      by true true e rest =
          subst Apart (sym (left_stretch n s m j e)) (
            head_once,
            apart_both (left (beneath_by n c (j ∷ s))) (left (from_slot n s m (suc j))) (deeper j) rest
                (λ x is there. clash x (inr (of_filter sel x (beneath_by n c (j ∷ s)) is).0) there),
          )
      by true false e rest = subst Apart (sym (left_nothing n s m j e)) rest

  apart_beneath : (n : ℕ) (s : Path) → Apart (left (beneath_by n c s))
  apart_beneath zero s = subst (λ (xs : List Path). Apart (left xs)) (sym (nothing s)) tt
  apart_beneath (suc n) s = subst (λ (xs : List Path). Apart (left xs)) (sym (beneath_is n s)) (apart_from n s (λ k. apart_beneath n (k ∷ s)) SLOTS 0)

  -- the space itself is none of them
  pub all_apart : (n : ℕ) (s : Path) → Apart (s ∷ left (beneath_by n c s))
  all_apart n s = (
    λ is.
        let its = lies_in n s s (of_filter sel s (beneath_by n c s) is).0 in
        beneath_longer its.1.0 its.0 s its.1.1,
    apart_beneath n s,
  )

-- ---- by places in the list

order_of : (l : Path) (xs : List Path) → Chained l xs → (n : ℕ) (x y : Path) → slice_get (l ∷ xs) n ≡ Some x → slice_get (l ∷ xs) (suc n) ≡ Some y → Follows x y
order_of l [] chain n x y e h = cc
order_of l (a ∷ xs) chain zero x y e h =
    let one : l ≡ x = cc in
    let two : a ≡ y = cc in
    subst (λ (x : Path). Follows x y) one (subst (λ (y : Path). Follows l y) two chain.0)
order_of l (a ∷ xs) chain (suc n) x y e h = order_of a xs chain.1 n x y e h

in_at : (xs : List Path) (n : ℕ) (x : Path) → slice_get xs n ≡ Some x → IsIn x xs
in_at [] n x e = cc
in_at (a ∷ xs) zero x e = inl cc
in_at (a ∷ xs) (suc n) x e = inr (in_at xs n x e)

once_of : (xs : List Path) → Apart xs → (m n : ℕ) (x : Path) → slice_get xs m ≡ Some x → slice_get xs n ≡ Some x → m ≡ n
once_of [] apart m n x e h = cc
once_of (a ∷ xs) apart zero zero x e h = refl
once_of (a ∷ xs) apart zero (suc n) x e h =
    let one : a ≡ x = cc in
    absurd (apart.0 (subst (λ (y : Path). IsIn y xs) (sym one) (in_at xs n x h)))
once_of (a ∷ xs) apart (suc m) zero x e h =
    let one : a ≡ x = cc in
    absurd (apart.0 (subst (λ (y : Path). IsIn y xs) (sym one) (in_at xs m x e)))
once_of (a ∷ xs) apart (suc m) (suc n) x e h = ap suc (once_of xs apart.1 m n x e h)

rank_in : (xs : List Path) (x : Path) → IsIn x xs → slice_get xs (rank xs x) ≡ Some x
unfolding rank
rank_in [] x h = absurd h
rank_in (a ∷ xs) x h = by (same_path a x) refl h (rank_in xs x)
  where
    by : (t : Bool) → same_path a x ≡ t → (a ≡ x) ⊎ IsIn x xs → (IsIn x xs → slice_get xs (rank xs x) ≡ Some x)
        → slice_get (a ∷ xs) (cond t 0 (suc (rank xs x))) ≡ Some x
    by true e h rest = ap (λ (y : Path). Some y) (same_path_eq a x e)
    by false e (inl same) rest =
        let same_at : same_path a x ≡ true = ap (same_path a) (sym same) ∙ same_path_refl a in
        let both = sym same_at ∙ e in
        cc
    by false e (inr is) rest = rest is

-- ---- the spaces that were met

abbrev pub is_space_in : World → Path → Bool
is_space_in c q = is_space_number (number_there (c.body q))

space_number : (o : Option Body) → option_map kind_of o ≡ Some kinds.Space → is_space_number (number_there o) ≡ true
space_number (Some (Space birth holder)) h = refl
space_number (Some (Mutex locked)) h = cc
space_number (Some Cond) h = cc
space_number (Some (Mapping m)) h = cc
space_number (Some (Region r)) h = cc
space_number (Some (Port set served)) h = cc
space_number (Some Portset) h = cc
space_number (Some (Thread_of t)) h = cc
space_number (Some (Reference to)) h = cc
space_number None h = cc

pub met_are : (c : World) (qs : List Path) →
    map (λ (m : Met). m.path) (filter (λ (m : Met). is_space_number m.kind) (map (met c) qs)) ≡ filter (is_space_in c) qs
met_are c [] = refl
met_are c (q ∷ qs) = by (is_space_in c q) (met_are c qs)
  where
    rest : List Met
    rest = filter (λ (m : Met). is_space_number m.kind) (map (met c) qs)

    by : (t : Bool) → map (λ (m : Met). m.path) rest ≡ filter (is_space_in c) qs →
        map (λ (m : Met). m.path) (cond t (met c q ∷ rest) rest) ≡ cond t (q ∷ filter (is_space_in c) qs) (filter (is_space_in c) qs)
    by true e = ap (λ (xs : List Path). q ∷ xs) e
    by false e = e

module _ (c : World) (parents : (k : ℕ) (x : Path) → IsSome (c.body (k ∷ x)) → kind_there c x ≡ Some kinds.Space) (rooted : IsRooted c)
    (few : (k : ℕ) (x : Path) → IsSome (c.body (k ∷ x)) → length (k ∷ x) ≤ depth) where
  sel_of : (q : Path) → kind_there c q ≡ Some kinds.Space → is_space_in c q ≡ true
  unfolding kind_there
  sel_of q space = space_number (c.body q) space

  live_of : (o : Option Body) → option_map kind_of o ≡ Some kinds.Space → IsSome o
  live_of None e = cc
  live_of (Some b) e = refl

  above_live : (k : ℕ) (x : Path) → IsSome (c.body (k ∷ x)) → IsSome (c.body x)
  unfolding kind_there
  above_live k x live = live_of (c.body x) (parents k x live)

  abbrev pub met_spaces : List Path
  met_spaces = spaces_met (map (met c) (objects c))

  pub spaces_listed : met_spaces ≡ [] ∷ filter (is_space_in c) (objects c)
  spaces_listed = ap (λ (xs : List Path). [] ∷ xs) (met_are c (objects c))

  chained : Chained [] (filter (is_space_in c) (objects c))
  unfolding beneath
  chained = chain_beneath c (is_space_in c) (λ k s live. sel_of s (parents k s live)) depth []

  pub spaces_apart : Apart met_spaces
  unfolding beneath
  spaces_apart = subst Apart (sym spaces_listed) (all_apart c (is_space_in c) (λ k s live. sel_of s (parents k s live)) depth [])

  each_met : (p : Path) → kind_there c p ≡ Some kinds.Space → IsIn p ([] ∷ filter (is_space_in c) (objects c))
  unfolding kind_there
  each_met [] space = inl refl
  each_met (k ∷ q) space =
      let live = live_of (c.body (k ∷ q)) space in
      inr (in_filter (is_space_in c) (k ∷ q) (objects c) (walked c above_live rooted k q live (few k q live)) (sel_of (k ∷ q) space))

  pub are_its_spaces : AreItsSpaces c met_spaces
  are_its_spaces = record {
    first = refl;
    order = λ n l p at next.
        order_of [] (filter (is_space_in c) (objects c)) chained n l p (subst (λ (xs : List Path). slice_get xs n ≡ Some l) spaces_listed at)
        (subst (λ (xs : List Path). slice_get xs (suc n) ≡ Some p) spaces_listed next);
    once = once_of met_spaces spaces_apart;
    each = λ n p at. spaces_are c rooted.root p (in_at met_spaces n p at);
    all = λ p space. rank_in met_spaces p (subst (IsIn p) (sym spaces_listed) (each_met p space));
  }
