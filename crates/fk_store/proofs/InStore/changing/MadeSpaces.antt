-- Made spaces: a space with the next birth number in an empty slot of a live space is the one made at the path.
use Rattle.std.proofs.Common.{◌≡◌, ◌≢◌, ◌⊎◌, inl, inr, ℕ, zero, suc, ◌+◌, ◌<◌, ◌≤◌, Bool, true, false, cond, ◌&&◌, ◌==◌, List, [], ◌∷◌, Option, Some}
use Rattle.std.proofs.Common.{None, option_map, refl, sym, ap, subst, ◌∙◌, arith, eq-eqb, length}
use Rattle.std.specs.Ordering.{eq_by_cmp}
use Rattle.std.specs.FinMap.{get, insert, get-insert}
use Rattle.fk_model.specs.declared.names.Who.{Who}
use Rattle.fk_model.specs.declared.body.Body as bodies_of
use Rattle.fk_model.specs.declared.body.Body.TheVariants as bodies
use Rattle.fk_model.specs.Places.{Path, same_path}
use Rattle.fk_model.specs.Places.Ptr.{At}
use Rattle.fk_model.specs.Objects.{and_then}
use Rattle.fk_model.specs.Objects.Body.{Space}
use Rattle.fk_model.specs.World.{apply, birth_after}
use Rattle.fk_model.specs.World.Change.{MakeSpace}
use Rattle.fk_store.specs.Store.Names.{at, who_cmp}
use Rattle.fk_store.specs.Store.Contents.{Contents, stored_birth, birth_there, home, is_live}
use Rattle.fk_store.specs.Store.Paths.{place, from_home, path, space_at}
use Rattle.fk_store.specs.Store.Bodies.{body_by}
use Rattle.fk_store.specs.Store.Named.{OnNamed}
use Rattle.fk_store.specs.Store.World.{world, body_at, page_at}
use Rattle.fk_store.specs.Store.WellFormed.{is_there, IsSized, IsWellFormed}
use Rattle.fk_store.proofs.InFreezing.NameLaws.{who_total, who_tied}
use Rattle.fk_store.proofs.InStore.finding.NamedLaws.{OnNamed-map, body_by-named}
use Rattle.fk_store.proofs.InStore.finding.Homes.{home-found, home-none}
use Rattle.fk_store.proofs.InStore.finding.Walks.{not_root, same_path_true, path-root, path-step, path-home, space_at-path, same_space}
use Rattle.fk_store.proofs.InStore.changing.Sets.{tied, lost_apart}
use Rattle.fk_store.proofs.InStore.changing.Makes.{live-born, after_there, before_there, after_body}

-- a path isn't that of something in it
pub longer_apart : (k : ℕ) (x : Path) → same_path (k ∷ x) x ≡ false
longer_apart k x = by (same_path (k ∷ x) x) refl
  where
    by : (b : Bool) → same_path (k ∷ x) x ≡ b → b ≡ false
    by false e = refl
    by true e = let same = ap length (same_path_true (k ∷ x) x e) in absurd (omega arith)

module _ (m : Contents) (kept : IsWellFormed m)
    (who : Who) (live : is_live m who.space ≡ true) (slot : who.slot < 256) (empty : get m.bodies who ≡ None) (holder : Option Who) where
  space : bodies_of.Body
  space = bodies.Space m.next holder

  -- the contents with the space
  abbrev pub with_space : Contents
  with_space = record { bodies = insert m.bodies who (bodies.Space m.next holder); pages = m.pages; next = m.next + 1 }

  -- its birth number is that of no other
  new_birth : (q : Who) → birth_there with_space q ≡ cond (eq_by_cmp who_cmp q who) (Some m.next) (birth_there m q)
  new_birth q = rw (get-insert who_total m.bodies who (bodies.Space m.next holder) q) (by (eq_by_cmp who_cmp q who))
    where
      by : (t : Bool) → and_then stored_birth (cond t (Some (bodies.Space m.next holder)) (get m.bodies q)) ≡ cond t (Some m.next) (birth_there m q)
      by true = refl
      by false = refl

  -- each space is the new one or was there
  births_after : (q : Who) (n : ℕ) → birth_there with_space q ≡ Some n → ((q ≡ who) × (n ≡ m.next)) ⊎ (birth_there m q ≡ Some n)
  births_after q n h = by (eq_by_cmp who_cmp q who) refl (sym (new_birth q) ∙ h)
    where
      by : (t : Bool) → eq_by_cmp who_cmp q who ≡ t → cond t (Some m.next) (birth_there m q) ≡ Some n → ((q ≡ who) × (n ≡ m.next)) ⊎ (birth_there m q ≡ Some n)
      by true e is = inl (who_tied q who e, cc)
      by false e is = inr is

  births_stay : (q : Who) (n : ℕ) → birth_there m q ≡ Some n → birth_there with_space q ≡ Some n
  births_stay q n h = new_birth q ∙ by (eq_by_cmp who_cmp q who) refl
    where
      by : (t : Bool) → eq_by_cmp who_cmp q who ≡ t → cond t (Some m.next) (birth_there m q) ≡ Some n
      by true e = let same : q ≡ who = who_tied q who e in let none : birth_there m q ≡ None = rw (same, empty) refl in absurd (cc)
      by false e = h

  home-new : home with_space m.next ≡ Some who
  home-new = by (home with_space m.next) refl
    where
      here : birth_there with_space who ≡ Some m.next
      here = new_birth who ∙ rw (tied who.space who.slot who, eq-eqb who.slot who.slot refl, eq-eqb who.space who.space refl) refl

      by : (o : Option Who) → home with_space m.next ≡ o → home with_space m.next ≡ Some who
      by None e = absurd (home-none with_space m.next who e here)
      by (Some q) e = elim (births_after q m.next (home-found with_space m.next q e)) [
        | inl new ↦ e ∙ ap Some new.0
        | inr old ↦ let low = kept.born q m.next old in absurd (omega arith)
      ]

  home-old : (n : ℕ) → n ≢ m.next → home with_space n ≡ home m n
  home-old n other = by (home with_space n) refl (home m n) refl
    where
      by : (o : Option Who) → home with_space n ≡ o → (p : Option Who) → home m n ≡ p → o ≡ p
      by None a None b = refl
      by None a (Some q) b = absurd (home-none with_space n q a (births_stay q n (home-found m n q b)))
      by (Some q) a p b = elim (births_after q n (home-found with_space n q a)) [
        | inl new ↦ absurd (other new.1)
        | inr old ↦ sym (kept.alone q n old) ∙ b
      ]

  live_stays : (n : ℕ) → is_live m n ≡ true → is_live with_space n ≡ true
  live_stays n h = let low = live-born m kept n h in let other : n ≢ m.next = omega arith in rw (home-old n other) h

  pub kept-space : OnNamed (λ q. is_there m q ≡ true) (bodies.Space m.next holder) → IsWellFormed with_space
  kept-space named = record {
    begun = omega arith;
    alone = λ q n h. elim (births_after q n h) [
      | inl new ↦ rw (new.0, new.1) home-new
      | inr old ↦ let low = kept.born q n old in let other : n ≢ m.next = omega arith in home-old n other ∙ kept.alone q n old
    ];
    younger = λ q n h. elim (births_after q n h) [ inl new ↦ rw (new.0, new.1) (live-born m kept who.space live) | inr old ↦ kept.younger q n old ];
    born = λ q n h. elim (births_after q n h) [ inl new ↦ rw new.1 (omega arith) | inr old ↦ let low = kept.born q n old in omega arith ];
    slots = λ q h. elim (before_there m kept who live slot empty (bodies.Space m.next holder) q h) [ inl e ↦ rw e slot | inr there ↦ kept.slots q there ];
    housed = λ q h. live_stays
        q.space (elim (before_there m kept who live slot empty (bodies.Space m.next holder) q h) [ inl e ↦ rw e live | inr there ↦ kept.housed q there ]);
    paged = λ n page h. live_stays n (kept.paged n page h);
    leads = after_body m kept who live slot empty (bodies.Space m.next holder) (OnNamed (λ q. is_there with_space q ≡ true))
        (OnNamed-map (λ q. is_there m q ≡ true)
        (λ q. is_there with_space q ≡ true) (after_there m kept who live slot empty (bodies.Space m.next holder)) (bodies.Space m.next holder) named)
        (λ q c h. OnNamed-map (λ q. is_there m q ≡ true)
        (λ q. is_there with_space q ≡ true) (after_there m kept who live slot empty (bodies.Space m.next holder)) c (kept.leads q c h));
    sized = after_body m kept who live slot empty (bodies.Space m.next holder) IsSized tt kept.sized;
    full = kept.full;
  }

  module _ (kept2 : IsWellFormed with_space) where
    -- older spaces keep their paths
    path_stays : (k n : ℕ) → n ≤ k → n ≢ m.next → path with_space n ≡ path m n
    path_stays k zero low other = path-root with_space ∙ sym (path-root m)
    path_stays zero (suc n) low other = absurd (omega arith)
    path_stays (suc k) (suc n) low other = path-step with_space kept2 (suc n) (omega arith)
        ∙ ap (from_home (path with_space)) (home-old (suc n) other) ∙ by (home m (suc n)) refl (path_stays k) ∙ sym (path-step m kept (suc n) (omega arith))
      where
        by : (o : Option Who) → home m (suc n) ≡ o →
            ((q : ℕ) → q ≤ k → q ≢ m.next → path with_space q ≡ path m q) → from_home (path with_space) (home m (suc n)) ≡ from_home (path m) (home m (suc n))
        by None e ih = rw e refl
        by (Some q) e ih =
            let found = home-found m (suc n) q e in
            let older = kept.younger q (suc n) found in
            let born = kept.born q (suc n) found in
            rw e (ap (λ s. q.slot ∷ s) (ih q.space (omega arith) (omega arith)))

    pub path-old : (n : ℕ) → n ≢ m.next → path with_space n ≡ path m n
    path-old n other = path_stays n n (omega arith) other

    pub path-live : (n : ℕ) → is_live m n ≡ true → path with_space n ≡ path m n
    path-live n h = let low = live-born m kept n h in path-old n (omega arith)

    -- the new one has the path at which it stands
    pub path-new : path with_space m.next ≡ place (path m) who
    path-new = path-home with_space kept2 m.next who home-new ∙ ap (λ s. who.slot ∷ s) (path-live who.space live)

    there-place : (q : Who) → is_there m q ≡ true → place (path with_space) q ≡ place (path m) q
    there-place q h = ap (λ s. q.slot ∷ s) (path-live q.space (kept.housed q h))

    -- nothing stands in it, and it has no pages
    none_in : (k : ℕ) → get (insert m.bodies who (bodies.Space m.next holder)) (at m.next k) ≡ None
    none_in k = by (get (insert m.bodies who (bodies.Space m.next holder)) (at m.next k)) refl
      where
        by : (o : Option bodies_of.Body) → get (insert m.bodies who (bodies.Space m.next holder)) (at m.next k) ≡ o → o ≡ None
        by None e = refl
        by (Some c) e = elim (before_there m kept who live slot empty (bodies.Space m.next holder) (at m.next k) (rw e refl)) [
          | inl same ↦ let low = live-born m kept who.space live in let number : m.next ≡ who.space = ap (λ (w : Who). w.space) same in absurd (omega arith)
          | inr there ↦ let low = live-born m kept m.next (kept.housed (at m.next k) there) in absurd (omega arith)
        ]

    no_pages : (page : ℕ) → get m.pages (m.next, page) ≡ None
    no_pages page = by (get m.pages (m.next, page)) refl
      where
        by : (o : Option (List ℕ)) → get m.pages (m.next, page) ≡ o → o ≡ None
        by None e = refl
        by (Some words) e = let low = live-born m kept m.next (kept.paged m.next page (rw e refl)) in absurd (omega arith)

    -- before, no space was there
    none_before : space_at m (place (path m) who) ≡ None
    unfolding space_at
    none_before = rw (space_at-path m kept who.space live, empty) refl

    -- what stands in a path's slots after, where a walk down the path finds the new space, another one or none
    slots_after : {A : Type 0} (f : Option bodies_of.Body → Option A) (new : A) → f None ≡ None → f (Some (bodies.Space m.next holder)) ≡ Some new →
        (s : Path) → space_at with_space s ≡ cond (same_path s (place (path m) who)) (Some m.next) (space_at m s) → (k : ℕ)
        → and_then (λ n. f (get (insert m.bodies who (bodies.Space m.next holder)) (at n k))) (space_at with_space s)
        ≡ cond (same_path (k ∷ s) (place (path m) who)) (Some new) (and_then (λ n. f (get m.bodies (at n k))) (space_at m s))
    unfolding same_path
    slots_after {A = A} f new nothing is s walk k = rw walk (by (same_path s (place (path m) who)) refl)
      where
        chosen : (t : Bool) (o : Option bodies_of.Body) → f (cond t (Some (bodies.Space m.next holder)) o) ≡ cond t (Some new) (f o)
        chosen true o = is
        chosen false o = refl

        false_right : (t : Bool) → (t && false) ≡ false
        false_right true = refl
        false_right false = refl

        found : (o : Option ℕ) → space_at m s ≡ o → and_then (λ n. f (get (insert m.bodies who (bodies.Space m.next holder)) (at n k)))
            o ≡ cond (same_path (k ∷ s) (place (path m) who)) (Some new) (and_then (λ n. f (get m.bodies (at n k))) o)
        found None none = rw (lost_apart m kept who live s none, false_right (k == who.slot)) refl
        found (Some n) here = rw (get-insert who_total m.bodies who (bodies.Space m.next holder) (at n k), tied n k who, same_space m kept s n who.space here)
            (chosen (k == who.slot && n == who.space) (get m.bodies (at n k)))

        by : (t : Bool) → same_path s (place (path m) who) ≡ t →
            and_then (λ n. f (get (insert m.bodies who (bodies.Space m.next holder)) (at n k))) (cond t (Some m.next) (space_at m s)) ≡ cond
            (same_path (k ∷ s) (place (path m) who)) (Some new) (and_then (λ n. f (get m.bodies (at n k))) (space_at m s))
        by false e = found (space_at m s) refl
        by true e =
            let here : s ≡ place (path m) who = same_path_true s (place (path m) who) e in
            let apart : same_path (k ∷ s) (place (path m) who) ≡ false = subst (λ t. same_path (k ∷ s) t ≡ false) here (longer_apart k s) in
            let none : space_at m s ≡ None = rw here none_before in
            rw (none_in k, apart, none) nothing

    -- a walk down finds it at its path
    walk-space : (s : Path) → space_at with_space s ≡ cond (same_path s (place (path m) who)) (Some m.next) (space_at m s)
    unfolding space_at same_path
    walk-space [] = refl
    walk-space (k ∷ s) = slots_after (and_then stored_birth) m.next refl refl s (walk-space s) k

    names_stay : (c : bodies_of.Body) → OnNamed (λ q. is_there m q ≡ true) c → body_by (path with_space) c ≡ body_by (path m) c
    names_stay c named = body_by-named (path with_space)
        (path m) c (OnNamed-map (λ q. is_there m q ≡ true) (λ q. place (path with_space) q ≡ place (path m) q) there-place c named)

    -- the world has the space at the path
    pub world-space : OnNamed (λ q. is_there m q ≡ true) (bodies.Space m.next holder) →
        world with_space ≡ apply (MakeSpace (place (path m) who) (option_map (λ q. At (place (path m) q)) holder)) (world m)
    unfolding world apply same_path
    world-space named = λ i. record { body = λ q. all q i; page = λ s page. pages s page i; next = next i }
      where
        next : m.next + 1 ≡ birth_after m.next
        next = rw (not_root m.next kept.begun) refl

        -- the pointers of bodies lead where they led
        values : (s : Path) (k : ℕ) → and_then (λ n. option_map (body_by (path with_space)) (get m.bodies (at n k)))
            (space_at m s) ≡ and_then (λ n. option_map (body_by (path m)) (get m.bodies (at n k))) (space_at m s)
        values s k = ap (λ f. and_then f (space_at m s)) (λ i n. by n (get m.bodies (at n k)) refl i)
          where
            by : (n : ℕ) (o : Option bodies_of.Body) → get m.bodies (at n k) ≡ o →
                option_map (body_by (path with_space)) (get m.bodies (at n k)) ≡ option_map (body_by (path m)) (get m.bodies (at n k))
            by n None e = rw e refl
            by n (Some c) e = rw e (ap Some (names_stay c (kept.leads (at n k) c e)))

        all : (q : Path) →
            body_at with_space q ≡ cond (same_path q (place (path m) who)) (Some (Space m.next (option_map (λ q. At (place (path m) q)) holder))) (body_at m q)
        all [] = refl
        all (k ∷ s) = slots_after (option_map (body_by (path with_space)))
            (Space m.next (option_map (λ q. At (place (path m) q)) holder)) refl (ap Some (names_stay (bodies.Space m.next holder) named)) s (walk-space s) k
            ∙ ap (cond (same_path (k ∷ s) (place (path m) who)) (Some (Space m.next (option_map (λ q. At (place (path m) q)) holder)))) (values s k)

        pages : (s : Path) (page : ℕ) → page_at with_space s page ≡ page_at m s page
        pages s page = rw (walk-space s) (by (same_path s (place (path m) who)) refl)
          where
            by : (t : Bool) → same_path s (place (path m) who) ≡ t →
                and_then (λ n. get m.pages (n, page)) (cond t (Some m.next) (space_at m s)) ≡ and_then (λ n. get m.pages (n, page)) (space_at m s)
            by false e = refl
            by true e =
                let here : s ≡ place (path m) who = same_path_true s (place (path m) who) e in
                let none : space_at m s ≡ None = rw here none_before in
                rw (none, no_pages page) refl
