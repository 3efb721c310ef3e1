-- Renames: an object with nothing in it that all bodies follow to another slot of its space is the one moved at the path.
use Rattle.std.proofs.Common.{◌≡◌, ◌<◌, ◌≢◌, ℕ, Bool, true, false, cond, ◌&&◌, ◌==◌, [], ◌∷◌, Option, Some, None, option_map, is_some, inl, inr, ◌⊎◌}
use Rattle.std.proofs.Common.{refl, sym, ap, subst, ◌∙◌, arith}
use Rattle.std.specs.FinMap.{FinMap, get}
use Rattle.fk_model.specs.declared.names.Who.{Who}
use Rattle.fk_model.specs.declared.body.Body as bodies_of
use Rattle.fk_model.specs.Places.{Path, same_path}
use Rattle.fk_model.specs.Objects.{Body, and_then}
use Rattle.fk_model.specs.World.{apply, through, following}
use Rattle.fk_model.specs.World.Change.{Move}
use Rattle.fk_model.specs.Valid.{kind_there}
use Rattle.fk_store_graph.specs.declared.leads.sweeps.Sweep.{Sweep}
use Rattle.fk_store.specs.Store.Names.{at, same_who, who_cmp}
use Rattle.fk_store.specs.Store.Contents.{Contents, stored_birth, birth_there, is_number, home, is_live}
use Rattle.fk_store.specs.Store.Paths.{place, path, space_at}
use Rattle.fk_store.specs.Store.Bodies.{body_by}
use Rattle.fk_store.specs.Store.Named.{OnNamed}
use Rattle.fk_store.specs.Store.World.{world, body_at, page_at, IsLive}
use Rattle.fk_store.specs.Freezing.Sweeps.{body_after}
use Rattle.fk_store.specs.Store.WellFormed.{is_there, IsSized, IsWellFormed}
use Rattle.fk_store.proofs.InFreezing.NameLaws.{same_who_refl, same_who_eq, same_who_back}
use Rattle.fk_store.proofs.InStore.finding.NamedLaws.{body_by-named}
use Rattle.fk_store.proofs.InStore.finding.Homes.{home-found, home-none, number_is, is_the_number}
use Rattle.fk_store.proofs.InStore.finding.Walks.{same_path_refl, same_path_true, and_back, path-home, space_at-path, path-space_at, same_space}
use Rattle.fk_store.proofs.InStore.finding.LookUps.{body-place, there-IsLive, IsLive-there}
use Rattle.fk_store.proofs.InStore.changing.Changes.{kinds-move}
use Rattle.fk_store.proofs.InStore.changing.SweepLaws.{birth-after, sized-after, named-after}
use Rattle.fk_store.proofs.InStore.finding.Alone.{apart, own, left_off, off_path, none_in, housed_off, empty_at, inner, path_stays, place_stays, number_off}
use Rattle.fk_store.proofs.InStore.changing.Sets.{lost_apart, false_right}
use Rattle.fk_store.proofs.InStore.changing.MadeSpaces.{longer_apart}
use Rattle.fk_store.proofs.InStore.changing.Following.{body-following}

module _ (m : Contents) (kept : IsWellFormed m) (who : Who) (there : is_there m who ≡ true)
    (empty : (k : ℕ) → (world m).body (k ∷ place (path m) who) ≡ None) (slot : ℕ) (low : slot < 256) (free : get m.bodies (at who.space slot) ≡ None) where
  abbrev target : Who
  target = at who.space slot

  abbrev moving : Sweep
  moving = record { from = who; to = Some target }

  abbrev x : Path
  x = place (path m) who

  abbrev y : Path
  y = place (path m) target

  -- the other slot is another
  target_apart : same_who target who ≡ false
  target_apart = by (same_who target who) refl
    where
      by : (t : Bool) → same_who target who ≡ t → t ≡ false
      by false e = refl
      by true e = let same = same_who_eq target who e in
          let none : is_there m who ≡ false = subst (λ w. is_there m w ≡ false) same (ap is_some free) in absurd (cc)

  module _ (bodies2 : FinMap who_cmp bodies_of.Body)
      (bodies : (q : Who) → get bodies2 q ≡ cond (same_who q target) (option_map (body_after moving who.space) (get m.bodies who))
      (cond (same_who q who) None (option_map (body_after moving q.space) (get m.bodies q)))) where
    abbrev pub renamed : Contents
    renamed = record { bodies = bodies2; pages = m.pages; next = m.next }

    birth_swept : (space : ℕ) (o : Option bodies_of.Body) → and_then stored_birth (option_map (body_after moving space) o) ≡ and_then stored_birth o
    birth_swept space None = refl
    birth_swept space (Some b) = birth-after moving space b

    births : (q : Who) → birth_there renamed q ≡ cond (same_who q target) (birth_there m who) (cond (same_who q who) None (birth_there m q))
    births q = rw (bodies q) (by (same_who q target) (same_who q who))
      where
        by : (t u : Bool) → and_then stored_birth (cond t (option_map (body_after moving who.space) (get m.bodies who))
            (cond u None (option_map (body_after moving q.space) (get m.bodies q)))) ≡ cond t (birth_there m who) (cond u None (birth_there m q))
        by true u = birth_swept who.space (get m.bodies who)
        by false true = refl
        by false false = birth_swept q.space (get m.bodies q)

    some_swept : (space : ℕ) (o : Option bodies_of.Body) → is_some (option_map (body_after moving space) o) ≡ is_some o
    some_swept space None = refl
    some_swept space (Some b) = refl

    theres : (q : Who) → is_there renamed q ≡ cond (same_who q target) (is_there m who) (cond (same_who q who) false (is_there m q))
    theres q = rw (bodies q) (by (same_who q target) (same_who q who))
      where
        by : (t u : Bool) → is_some (cond t (option_map (body_after moving who.space) (get m.bodies who))
            (cond u None (option_map (body_after moving q.space) (get m.bodies q)))) ≡ cond t (is_there m who) (cond u false (is_there m q))
        by true u = some_swept who.space (get m.bodies who)
        by false true = refl
        by false false = some_swept q.space (get m.bodies q)

    -- what is there is the renamed object, or was there and is another
    there_from : (q : Who) → is_there renamed q ≡ true → (q ≡ target) ⊎ (is_there m q ≡ true)
    there_from q h = by (same_who q target) refl (same_who q who) (sym (theres q) ∙ h)
      where
        by : (t : Bool) →
            same_who q target ≡ t → (u : Bool) → cond t (is_there m who) (cond u false (is_there m q)) ≡ true → (q ≡ target) ⊎ (is_there m q ≡ true)
        by true e u is = inl (same_who_eq q target e)
        by false e true is = absurd (cc)
        by false e false is = inr is

    there_target : is_there renamed target ≡ true
    there_target = theres target ∙ ap (λ t. cond t (is_there m who) (cond (same_who target who) false (is_there m target))) (same_who_refl target) ∙ there

    there_stays : (q : Who) → is_there m q ≡ true → same_who q who ≡ false → is_there renamed q ≡ true
    there_stays q h e = theres q ∙ by (same_who q target) (same_who q who) e
      where
        by : (t u : Bool) → u ≡ false → cond t (is_there m who) (cond u false (is_there m q)) ≡ true
        by true u e = there
        by false true e = absurd (cc)
        by false false e = h

    births_from : (q : Who) (n : ℕ) →
        birth_there renamed q ≡ Some n → ((q ≡ target) × (birth_there m who ≡ Some n)) ⊎ ((birth_there m q ≡ Some n) × (same_who q who ≡ false))
    births_from q n h = by (same_who q target) refl (same_who q who) refl (sym (births q) ∙ h)
      where
        by : (t : Bool) → same_who q target ≡ t → (u : Bool) → same_who q who ≡ u → cond t (birth_there m who) (cond u None (birth_there m q)) ≡ Some n →
            ((q ≡ target) × (birth_there m who ≡ Some n)) ⊎ ((birth_there m q ≡ Some n) × (u ≡ false))
        by true e u f is = inl (same_who_eq q target e, is)
        by false e true f is = absurd (cc)
        by false e false f is = inr (is, refl)

    births_target : birth_there renamed target ≡ birth_there m who
    births_target = births target ∙ ap (λ t. cond t (birth_there m who) (cond (same_who target who) None (birth_there m target))) (same_who_refl target)

    births_stay : (q : Who) (n : ℕ) → birth_there m q ≡ Some n → same_who q who ≡ false → birth_there renamed q ≡ Some n
    births_stay q n h e = births q ∙ by (same_who q target) refl (same_who q who) e
      where
        by : (t : Bool) → same_who q target ≡ t → (u : Bool) → u ≡ false → cond t (birth_there m who) (cond u None (birth_there m q)) ≡ Some n
        by true f u e =
            let same : q ≡ target = same_who_eq q target f in
            let none : birth_there m q ≡ None = subst (λ w. birth_there m w ≡ None) (sym same) (ap (and_then stored_birth) free) in
            absurd (cc)
        by false f true e = absurd (cc)
        by false f false e = h

    home_moves : (n : ℕ) → birth_there m who ≡ Some n → home renamed n ≡ Some target
    home_moves n is = by (home renamed n) refl
      where
        by : (o : Option Who) → home renamed n ≡ o → o ≡ Some target
        by None e = absurd (home-none renamed n target e (births_target ∙ is))
        by (Some q) e = elim (births_from q n (home-found renamed n q e)) [
          | inl new ↦ ap Some new.0
          | inr old ↦
              let a = kept.alone q n old.0 in
              let b = kept.alone who n is in
              let same : q ≡ who = cc in
              let yes = same_who_refl who in
              let no : same_who who who ≡ false = subst (λ w. same_who w who ≡ false) same old.1 in
              absurd (cc)
        ]

    home_stays : (n : ℕ) → is_number n (birth_there m who) ≡ false → home renamed n ≡ home m n
    home_stays n off = by (home renamed n) refl (home m n) refl
      where
        own_number : birth_there m who ≡ Some n → ⊥
        own_number is = let yes = is_the_number n (birth_there m who) is in cc

        other : (q : Who) → birth_there m q ≡ Some n → (t : Bool) → same_who q who ≡ t → t ≡ false
        other q h false e = refl
        other q h true e = absurd (own_number (subst (λ w. birth_there m w ≡ Some n) (same_who_eq q who e) h))

        by : (o : Option Who) → home renamed n ≡ o → (p : Option Who) → home m n ≡ p → o ≡ p
        by None a None b = refl
        by None a (Some q) b = let found = home-found m n q b in absurd (home-none renamed n q a (births_stay q n found (other q found (same_who q who) refl)))
        by (Some q) a p b = elim (births_from q n (home-found renamed n q a)) [
          | inl new ↦ absurd (own_number new.1)
          | inr old ↦ sym (kept.alone q n old.0) ∙ b
        ]

    live_same : (n : ℕ) → is_live renamed n ≡ is_live m n
    live_same n = by (is_number n (birth_there m who)) refl
      where
        by : (t : Bool) → is_number n (birth_there m who) ≡ t → is_live renamed n ≡ is_live m n
        by false e = rw (home_stays n e) refl
        by true e =
            let is = number_is n (birth_there m who) e in
            rw (home_moves n is, kept.alone who n is) refl

    leads_moved : (q : Who) (c : bodies_of.Body) → get bodies2 q ≡ Some c → OnNamed (λ other. is_there renamed other ≡ true) c
    leads_moved q c h = by (same_who q target) (same_who q who) (sym (bodies q) ∙ h)
      where
        swept : (who : Who) (o : Option bodies_of.Body) →
            get m.bodies who ≡ o → option_map (body_after moving who.space) o ≡ Some c → OnNamed (λ other. is_there renamed other ≡ true) c
        swept who None e is = absurd (cc)
        swept who (Some b) e is =
            let same : body_after moving who.space b ≡ c = cc in
            subst (OnNamed (λ other. is_there renamed other ≡ true)) same (named-after moving
            (λ other. is_there m other ≡ true) (λ other. is_there renamed other ≡ true) there_stays there_target who.space b (kept.leads who b e))

        by : (t u : Bool) → cond t (option_map (body_after moving who.space) (get m.bodies who))
            (cond u None (option_map (body_after moving q.space) (get m.bodies q))) ≡ Some c → OnNamed (λ other. is_there renamed other ≡ true) c
        by true u is = swept who (get m.bodies who) refl is
        by false true is = absurd (cc)
        by false false is = swept q (get m.bodies q) refl is

    sized_moved : (q : Who) (c : bodies_of.Body) → get bodies2 q ≡ Some c → IsSized c
    sized_moved q c h = by (same_who q target) (same_who q who) (sym (bodies q) ∙ h)
      where
        swept : (who : Who) (o : Option bodies_of.Body) → get m.bodies who ≡ o → option_map (body_after moving who.space) o ≡ Some c → IsSized c
        swept who None e is = absurd (cc)
        swept who (Some b) e is = let same : body_after moving who.space b ≡ c = cc in subst IsSized same (sized-after moving who.space b (kept.sized who b e))

        by : (t u : Bool) → cond t (option_map (body_after moving who.space) (get m.bodies who))
            (cond u None (option_map (body_after moving q.space) (get m.bodies q))) ≡ Some c → IsSized c
        by true u is = swept who (get m.bodies who) refl is
        by false true is = absurd (cc)
        by false false is = swept q (get m.bodies q) refl is

    pub kept-renamed : IsWellFormed renamed
    kept-renamed = record {
      begun = kept.begun;
      alone = λ q n h. elim (births_from q n h) [
        | inl new ↦ home_moves n new.1 ∙ ap Some (sym new.0)
        | inr old ↦ home_stays n (left_off m kept who there q n old.0 old.1) ∙ kept.alone q n old.0
      ];
      younger = λ q n h. elim (births_from q n h) [ inl new ↦ rw new.0 (kept.younger who n new.1) | inr old ↦ kept.younger q n old.0 ];
      born = λ q n h. elim (births_from q n h) [ inl new ↦ kept.born who n new.1 | inr old ↦ kept.born q n old.0 ];
      slots = λ q h. elim (there_from q h) [ inl e ↦ rw e low | inr before ↦ kept.slots q before ];
      housed = λ q h. live_same q.space ∙ elim (there_from q h) [ inl e ↦ rw e (kept.housed who there) | inr before ↦ kept.housed q before ];
      paged = λ space page h. live_same space ∙ kept.paged space page h;
      leads = leads_moved;
      sized = sized_moved;
      full = kept.full;
    }

    pub path-stays : (n : ℕ) → path m n ≢ x → path renamed n ≡ path m n
    path-stays n other = path_stays m kept who there empty renamed kept-renamed home_stays n (number_off m kept who there empty n other)

    pub place-stays : (q : Who) → is_there m q ≡ true → place (path renamed) q ≡ place (path m) q
    place-stays q h = place_stays m kept who there empty renamed kept-renamed home_stays q h

    pub place-target : place (path renamed) target ≡ y
    place-target =
        ap (λ s. slot ∷ s) (path_stays m kept who there empty renamed kept-renamed home_stays who.space (housed_off m kept who there empty who there))

    -- the path of a space that is moved
    pub path-follows : (n : ℕ) → path m n ≡ x → path renamed n ≡ y
    path-follows n here = by (is_number n (birth_there m who)) refl
      where
        by : (t : Bool) → is_number n (birth_there m who) ≡ t → path renamed n ≡ y
        by true e = path-home renamed kept-renamed n target (home_moves n (number_is n (birth_there m who) e)) ∙ place-target
        by false e = absurd (off_path m kept who there n e here)

    -- nothing stands in it
    none_inside : (n : ℕ) → birth_there m who ≡ Some n → (k : ℕ) → get bodies2 (at n k) ≡ None
    none_inside n is k = by (get bodies2 (at n k)) refl
      where
        by : (o : Option bodies_of.Body) → get bodies2 (at n k) ≡ o → o ≡ None
        by None e = refl
        by (Some b) e = elim (there_from (at n k) (rw e refl)) [
          | inl same ↦ let older = kept.younger who n is in let number : n ≡ who.space = ap (λ (w : Who). w.space) same in absurd (omega arith)
          | inr before ↦ let none = ap is_some (none_in m kept who there empty n is k) in absurd (cc)
        ]

    inside_none : {A : Type 0} (f : bodies_of.Body → Option A) (o : Option ℕ) →
        birth_there m who ≡ o → (k : ℕ) → and_then (λ n. and_then f (get bodies2 (at n k))) o ≡ None
    inside_none f None e k = refl
    inside_none f (Some n) e k = ap (and_then f) (none_inside n e k)

    -- nothing stood in the other slot
    none_target : space_at m y ≡ None
    unfolding space_at
    none_target = ap (and_then (λ n. birth_there m (at n slot))) (space_at-path m kept who.space (kept.housed who there)) ∙ ap (and_then stored_birth) free

    -- a path in the space isn't the space's
    inside_apart : (k : ℕ) (s : Path) → same_path s (k ∷ path m who.space) ≡ true → same_path s (path m who.space) ≡ false
    inside_apart k s h = rw (same_path_true s (k ∷ path m who.space) h) (longer_apart k (path m who.space))

    -- what stands in slot k of a space afterwards, where u says that it is the renamed object's
    abbrev births_after : ℕ → Bool → Option ℕ → Option ℕ
    births_after k u o = cond (k == slot && u) (birth_there m who) (cond (k == who.slot && u) None (and_then (λ n. birth_there m (at n k)) o))

    abbrev moved_body : Option Body
    moved_body = option_map (through (following x y) y) (option_map (body_by (path m)) (get m.bodies who))

    abbrev bodies_after : ℕ → Path → Bool → Option Body → Option Body
    bodies_after k s u o = cond (k == slot && u) moved_body (cond (k == who.slot && u) None (option_map (through (following x y) (k ∷ s)) o))

    -- what a walk down finds
    walk : (s : Path) → space_at renamed s ≡ cond (same_path s y) (birth_there m who) (cond (same_path s x) None (space_at m s))
    unfolding space_at same_path
    walk [] = refl
    walk (k ∷ s) = rw (walk s) (by (same_path s y) refl (same_path s x) refl)
      where
        found : (o : Option ℕ) → space_at m s ≡ o → and_then (λ n. birth_there renamed (at n k)) o ≡ births_after k (same_path s (path m who.space)) o
        found None e = rw (lost_apart m kept who (kept.housed who there) s e, false_right (k == slot), false_right (k == who.slot)) refl
        found (Some n) e =
            rw (births (at n k), same_space m kept s n who.space e, and_back (k == who.slot) (n == who.space), and_back (k == slot) (n == who.space)) refl

        by : (t : Bool) → same_path s y ≡ t → (u : Bool) → same_path s x ≡ u → and_then (λ n. birth_there renamed (at n k))
            (cond t (birth_there m who) (cond u None (space_at m s))) ≡ births_after k (same_path s (path m who.space)) (space_at m s)
        by true e u f =
            let none : space_at m s ≡ None = ap (space_at m) (same_path_true s y e) ∙ none_target in
            rw (inside_none stored_birth (birth_there m who) refl k, inside_apart slot s e, none, false_right (k == slot), false_right (k == who.slot)) refl
        by false e true f =
            let here : space_at m s ≡ birth_there m who = ap (space_at m) (same_path_true s x f) ∙ own m kept who there in
            rw (inside_apart who.slot s f, here, inner m kept who there empty (birth_there m who) refl k, false_right (k == slot), false_right (k == who.slot))
            refl
        by false e false f = found (space_at m s) refl

    -- a body by paths
    body_moved : (n k : ℕ) (old : Who) (b : bodies_of.Body) →
        get m.bodies old ≡ Some b → body_by (path renamed) (body_after moving n b) ≡ through (following x y) (k ∷ path m n) (body_by (path m) b)
    body_moved n k old b e =
        body_by-named (path renamed) (path m) (body_after moving n b)
        (named-after moving
        (λ q. is_there m q ≡ true) (λ q. place (path renamed) q ≡ place (path m) q) (λ q h other. place-stays q h) place-target n b (kept.leads old b e))
        ∙ body-following (path m) who target (apart m kept who there) n k b

    bodies_swept : (n k : ℕ) (old : Who) (o : Option bodies_of.Body) → get m.bodies old ≡ o → option_map (body_by (path renamed))
        (option_map (body_after moving n) o) ≡ option_map (through (following x y) (k ∷ path m n)) (option_map (body_by (path m)) o)
    bodies_swept n k old None e = refl
    bodies_swept n k old (Some b) e = ap Some (body_moved n k old b e)

    body_there : body_at m x ≡ option_map (body_by (path m)) (get m.bodies who)
    unfolding world
    body_there = body-place m kept who

    bodies_at : (q : Path) → body_at renamed q ≡ cond (same_path q y)
        (option_map (through (following x y) y) (body_at m x)) (cond (same_path q x) None (option_map (through (following x y) q) (body_at m q)))
    unfolding same_path
    bodies_at [] = refl
    bodies_at (k ∷ s) = rw (walk s, body_there) (by (same_path s y) refl (same_path s x) refl)
      where
        left : (n : ℕ) → space_at m s ≡ Some n → (t u : Bool) →
            option_map (body_by (path renamed))
            (cond t (option_map (body_after moving who.space) (get m.bodies who)) (cond u None (option_map (body_after moving n) (get m.bodies (at n k)))))
            ≡ cond t moved_body (cond u None (option_map (through (following x y) (k ∷ s)) (option_map (body_by (path m)) (get m.bodies (at n k)))))
        left n is true u = bodies_swept who.space slot who (get m.bodies who) refl
        left n is false true = refl
        left n is false false = bodies_swept n k (at n k) (get m.bodies (at n k)) refl
            ∙ ap (λ t. option_map (through (following x y) (k ∷ t)) (option_map (body_by (path m)) (get m.bodies (at n k)))) (path-space_at m kept s n is)

        found : (o : Option ℕ) → space_at m s ≡ o → and_then (λ n. option_map (body_by (path renamed)) (get bodies2 (at n k)))
            o ≡ bodies_after k s (same_path s (path m who.space)) (and_then (λ n. option_map (body_by (path m)) (get m.bodies (at n k))) o)
        found None e = rw (lost_apart m kept who (kept.housed who there) s e, false_right (k == slot), false_right (k == who.slot)) refl
        found (Some n) e = rw (
          bodies (at n k),
          same_space m kept s n who.space e,
          and_back (k == who.slot) (n == who.space),
          and_back (k == slot) (n == who.space),
        ) (left n e (n == who.space && k == slot) (n == who.space && k == who.slot))

        inside : (o : Option ℕ) → birth_there m who ≡ o → and_then (λ n. option_map (body_by (path renamed)) (get bodies2 (at n k))) o ≡ None
        inside None e = refl
        inside (Some n) e = ap (option_map (body_by (path renamed))) (none_inside n e k)

        by : (t : Bool) → same_path s y ≡ t → (u : Bool) → same_path s x ≡ u →
            and_then (λ n. option_map (body_by (path renamed)) (get bodies2 (at n k)))
            (cond t (birth_there m who) (cond u None (space_at m s))) ≡ bodies_after k s (same_path s (path m who.space)) (body_at m (k ∷ s))
        by true e u f =
            let none : space_at m s ≡ None = ap (space_at m) (same_path_true s y e) ∙ none_target in
            rw (inside (birth_there m who) refl, inside_apart slot s e, none, false_right (k == slot), false_right (k == who.slot)) refl
        by false e true f = rw (inside_apart who.slot s f, empty_at m kept who there empty s k f, false_right (k == slot), false_right (k == who.slot)) refl
        by false e false f = found (space_at m s) refl

    pages_at : (s : Path) (g : ℕ) → page_at renamed s g ≡ cond (same_path s y) (page_at m x g) (cond (same_path s x) None (page_at m s g))
    pages_at s g = rw (walk s, own m kept who there) (by (same_path s y) (same_path s x))
      where
        by : (t u : Bool) → and_then (λ n. get m.pages (n, g)) (cond t (birth_there m who) (cond u None (space_at m s))) ≡ cond
            t (and_then (λ n. get m.pages (n, g)) (birth_there m who)) (cond u None (page_at m s g))
        by true u = refl
        by false true = refl
        by false false = refl

    pub world-renamed : world renamed ≡ apply (Move x slot) (world m)
    unfolding world apply
    world-renamed = λ i. record { body = λ q. bodies_at q i; page = λ s g. pages_at s g i; next = m.next }

    slots_apart : same_path x y ≡ false
    slots_apart = ((apart m kept who there) target).1 ∙ who_back target_apart
      where
        who_back : same_who target who ≡ false → same_who who target ≡ false
        who_back h = same_who_back who target ∙ h

    pub kinds-renamed : (q : Path) → same_path q x ≡ false → same_path q y ≡ false → kind_there (world renamed) q ≡ kind_there (world m) q
    kinds-renamed q a b = ap (λ w. kind_there w q) world-renamed ∙ (kinds-move (world m) x slot q).0 b a

    pub none-renamed : kind_there (world renamed) x ≡ None
    none-renamed = ap (λ w. kind_there w x) world-renamed ∙ (kinds-move (world m) x slot x).1 slots_apart (same_path_refl x)

    pub kind-renamed : kind_there (world renamed) y ≡ kind_there (world m) x
    kind-renamed = ap (λ w. kind_there w y) world-renamed ∙ (kinds-move (world m) x slot y).2 (same_path_refl y)

    pub places-renamed : (q : Who) → IsLive m q → place (path renamed) q ≡ place (path m) q
    places-renamed q h = place-stays q (IsLive-there m kept q h)

    pub lives-renamed : (q : Who) → IsLive m q → same_who q who ≡ false → IsLive renamed q
    lives-renamed q h other = there-IsLive renamed kept-renamed q (there_stays q (IsLive-there m kept q h) other)
