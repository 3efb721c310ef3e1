-- Kills: an object with nothing in it that is taken away and swept from all bodies is the one destroyed at the path.
use Rattle.std.proofs.Common.{◌≡◌, ◌≢◌, ℕ, Bool, true, false, cond, ◌&&◌, ◌==◌, List, [], ◌∷◌, Option, Some, None, option_map, is_some, length, refl}
use Rattle.std.proofs.Common.{sym, ap, subst, ◌∙◌}
use Rattle.fk_model.specs.declared.limits.TheConstants.{PAGE_WORDS}
use Rattle.std.specs.FinMap.{FinMap, get}
use Rattle.fk_model.specs.declared.names.Who.{Who}
use Rattle.fk_model.specs.declared.body.Body as bodies_of
use Rattle.fk_model.specs.Places.{Path, same_path}
use Rattle.fk_model.specs.Objects.{and_then}
use Rattle.fk_model.specs.World.{apply, through, death_sweep}
use Rattle.fk_model.specs.World.Change.{Kill}
use Rattle.fk_model.specs.Valid.{kind_there}
use Rattle.fk_store_graph.specs.declared.leads.sweeps.Sweep.{Sweep}
use Rattle.fk_store.specs.Store.Names.{at, same_who, who_cmp, page_cmp}
use Rattle.fk_store.specs.Store.Contents.{Contents, stored_birth, birth_there, is_number, home, is_live}
use Rattle.fk_store.specs.Store.Paths.{place, path, space_at}
use Rattle.fk_store.specs.Store.Bodies.{body_by}
use Rattle.fk_store.specs.Store.Named.{OnNamed}
use Rattle.fk_store.specs.Store.World.{world, body_at, page_at, IsLive}
use Rattle.fk_store.specs.Freezing.Sweeps.{body_after}
use Rattle.fk_store.specs.Store.WellFormed.{is_there, IsSized, IsWellFormed}
use Rattle.fk_store.proofs.InFreezing.NameLaws.{same_who_eq}
use Rattle.fk_store.proofs.InStore.finding.NamedLaws.{body_by-named}
use Rattle.fk_store.proofs.InStore.finding.Homes.{home-found, home-none, is_the_number}
use Rattle.fk_store.proofs.InStore.finding.Walks.{same_path_refl, same_path_true, and_back, path-space_at, same_space}
use Rattle.fk_store.proofs.InStore.finding.LookUps.{there-IsLive, IsLive-there}
use Rattle.fk_store.proofs.InStore.changing.Changes.{kinds-kill}
use Rattle.fk_store.proofs.InStore.changing.SweepLaws.{birth-after, sized-after, named-after}
use Rattle.fk_store.proofs.InStore.finding.Alone.{none_either, apart, own, left_off, housed_off, path_off, empty_at, inner, path_stays, place_stays, number_off}
use Rattle.fk_store.proofs.InStore.changing.Without.{body-without}

pub pages-taken : (old new : FinMap page_cmp (List ℕ)) (space birth : Option ℕ) →
    space ≡ birth → ((n g : ℕ) → get new (n, g) ≡ cond (is_number n space) None (get old (n, g))) →
    (n g : ℕ) → get new (n, g) ≡ cond (is_number n birth) None (get old (n, g))
pages-taken old new space birth is takes n g = takes n g ∙ ap (λ o. cond (is_number n o) None (get old (n, g))) is

module _
    (m : Contents) (kept : IsWellFormed m) (who : Who) (there : is_there m who ≡ true) (empty : (k : ℕ) → (world m).body (k ∷ place (path m) who) ≡ None) where
  abbrev gone : Sweep
  gone = record { from = who; to = None }

  module _ (bodies2 : FinMap who_cmp bodies_of.Body) (pages2 : FinMap page_cmp (List ℕ))
      (bodies : (q : Who) → get bodies2 q ≡ cond (same_who q who) None (option_map (body_after gone q.space) (get m.bodies q)))
      (pages : (n g : ℕ) → get pages2 (n, g) ≡ cond (is_number n (birth_there m who)) None (get m.pages (n, g))) where
    abbrev pub killed : Contents
    killed = record { bodies = bodies2; pages = pages2; next = m.next }

    births : (q : Who) → birth_there killed q ≡ cond (same_who q who) None (birth_there m q)
    births q = rw (bodies q) (by (same_who q who) (get m.bodies q))
      where
        by : (t : Bool) (o : Option bodies_of.Body) →
            and_then stored_birth (cond t None (option_map (body_after gone q.space) o)) ≡ cond t None (and_then stored_birth o)
        by true o = refl
        by false None = refl
        by false (Some b) = birth-after gone q.space b

    -- each space that is left was there, and is another
    births_left : (q : Who) (n : ℕ) → birth_there killed q ≡ Some n → (birth_there m q ≡ Some n) × (same_who q who ≡ false)
    births_left q n h = by (same_who q who) refl (sym (births q) ∙ h)
      where
        by : (t : Bool) → same_who q who ≡ t → cond t None (birth_there m q) ≡ Some n → (birth_there m q ≡ Some n) × (t ≡ false)
        by true e is = absurd (cc)
        by false e is = (is, refl)

    births_stay : (q : Who) (n : ℕ) → birth_there m q ≡ Some n → same_who q who ≡ false → birth_there killed q ≡ Some n
    births_stay q n h e = births q ∙ ap (λ t. cond t None (birth_there m q)) e ∙ h

    there_left : (q : Who) → is_there killed q ≡ true → is_there m q ≡ true
    there_left q h = by (same_who q who) (get m.bodies q) (sym (ap is_some (bodies q)) ∙ h)
      where
        by : (t : Bool) (o : Option bodies_of.Body) → is_some (cond t None (option_map (body_after gone q.space) o)) ≡ true → is_some o ≡ true
        by true o h = absurd (cc)
        by false None h = h
        by false (Some b) h = refl

    there_stays : (q : Who) → is_there m q ≡ true → same_who q who ≡ false → is_there killed q ≡ true
    there_stays q h e = ap is_some (bodies q ∙ ap (λ t. cond t None (option_map (body_after gone q.space) (get m.bodies q))) e) ∙ by (get m.bodies q) h
      where
        by : (o : Option bodies_of.Body) → is_some o ≡ true → is_some (option_map (body_after gone q.space) o) ≡ true
        by None h = h
        by (Some b) h = refl

    home_stays : (n : ℕ) → is_number n (birth_there m who) ≡ false → home killed n ≡ home m n
    home_stays n off = by (home killed n) refl (home m n) refl
      where
        other : (q : Who) → birth_there m q ≡ Some n → (t : Bool) → same_who q who ≡ t → t ≡ false
        other q h false e = refl
        other q h true e =
            let same : q ≡ who = same_who_eq q who e in
            let yes = is_the_number n (birth_there m who) (subst (λ w. birth_there m w ≡ Some n) same h) in
            absurd (cc)

        by : (o : Option Who) → home killed n ≡ o → (p : Option Who) → home m n ≡ p → o ≡ p
        by None a None b = refl
        by None a (Some q) b = let found = home-found m n q b in absurd (home-none killed n q a (births_stay q n found (other q found (same_who q who) refl)))
        by (Some q) a p b = sym (kept.alone q n (births_left q n (home-found killed n q a)).0) ∙ b

    live_stays : (n : ℕ) → is_number n (birth_there m who) ≡ false → is_live killed n ≡ is_live m n
    live_stays n off = rw (home_stays n off) refl

    leads_left : (q : Who) (c : bodies_of.Body) → get bodies2 q ≡ Some c → OnNamed (λ other. is_there killed other ≡ true) c
    leads_left q c h = by (same_who q who) (get m.bodies q) refl (sym (bodies q) ∙ h)
      where
        by : (t : Bool) (o : Option bodies_of.Body) →
            get m.bodies q ≡ o → cond t None (option_map (body_after gone q.space) o) ≡ Some c → OnNamed (λ other. is_there killed other ≡ true) c
        by true o e is = absurd (cc)
        by false None e is = absurd (cc)
        by false (Some b) e is =
            let same : body_after gone q.space b ≡ c = cc in
            subst (OnNamed (λ other. is_there killed other ≡ true))
            same (named-after gone (λ other. is_there m other ≡ true) (λ other. is_there killed other ≡ true) there_stays tt q.space b (kept.leads q b e))

    sized_left : (q : Who) (c : bodies_of.Body) → get bodies2 q ≡ Some c → IsSized c
    sized_left q c h = by (same_who q who) (get m.bodies q) refl (sym (bodies q) ∙ h)
      where
        by : (t : Bool) (o : Option bodies_of.Body) → get m.bodies q ≡ o → cond t None (option_map (body_after gone q.space) o) ≡ Some c → IsSized c
        by true o e is = absurd (cc)
        by false None e is = absurd (cc)
        by false (Some b) e is = let same : body_after gone q.space b ≡ c = cc in subst IsSized same (sized-after gone q.space b (kept.sized q b e))

    paged_left : (space page : ℕ) → is_some (get pages2 (space, page)) ≡ true → is_live killed space ≡ true
    paged_left space page h = by (is_number space (birth_there m who)) refl (sym (ap is_some (pages space page)) ∙ h)
      where
        by : (t : Bool) → is_number space (birth_there m who) ≡ t → is_some (cond t None (get m.pages (space, page))) ≡ true → is_live killed space ≡ true
        by true e is = absurd (cc)
        by false e is = live_stays space e ∙ kept.paged space page is

    full_left : (space page : ℕ) (words : List ℕ) → get pages2 (space, page) ≡ Some words → length words ≡ PAGE_WORDS
    full_left space page words h = by (is_number space (birth_there m who)) (sym (pages space page) ∙ h)
      where
        by : (t : Bool) → cond t None (get m.pages (space, page)) ≡ Some words → length words ≡ PAGE_WORDS
        by true is = absurd (cc)
        by false is = kept.full space page words is

    pub kept-killed : IsWellFormed killed
    kept-killed = record {
      begun = kept.begun;
      alone = λ q n h. let left = births_left q n h in home_stays n (left_off m kept who there q n left.0 left.1) ∙ kept.alone q n left.0;
      younger = λ q n h. kept.younger q n (births_left q n h).0;
      born = λ q n h. kept.born q n (births_left q n h).0;
      slots = λ q h. kept.slots q (there_left q h);
      housed = λ q h. let before = there_left q h in live_stays q.space (housed_off m kept who there empty q before) ∙ kept.housed q before;
      paged = paged_left;
      leads = leads_left;
      sized = sized_left;
      full = full_left;
    }

    pub path-killed : (n : ℕ) → path m n ≢ place (path m) who → path killed n ≡ path m n
    path-killed n other = path_stays m kept who there empty killed kept-killed home_stays n (number_off m kept who there empty n other)

    pub place-killed : (q : Who) → is_there m q ≡ true → place (path killed) q ≡ place (path m) q
    place-killed q h = place_stays m kept who there empty killed kept-killed home_stays q h

    -- what a walk down finds
    walk : (s : Path) → space_at killed s ≡ cond (same_path s (place (path m) who)) None (space_at m s)
    unfolding space_at same_path
    walk [] = refl
    walk (k ∷ s) = rw (walk s) (by (same_path s (place (path m) who)) refl)
      where
        found : (o : Option ℕ) → space_at m s ≡ o → and_then (λ n. birth_there killed (at n k))
            o ≡ cond (k == who.slot && same_path s (path m who.space)) None (and_then (λ n. birth_there m (at n k)) o)
        found None e = sym (none_either (k == who.slot && same_path s (path m who.space)))
        found (Some n) e = rw (births (at n k), same_space m kept s n who.space e, and_back (k == who.slot) (n == who.space)) refl

        by : (t : Bool) → same_path s (place (path m) who) ≡ t → and_then (λ n. birth_there killed (at n k))
            (cond t None (space_at m s)) ≡ cond (k == who.slot && same_path s (path m who.space)) None (and_then (λ n. birth_there m (at n k)) (space_at m s))
        by true e =
            let same : s ≡ place (path m) who = same_path_true s (place (path m) who) e in
            let here : space_at m s ≡ birth_there m who = ap (space_at m) same ∙ own m kept who there in
            rw (here, inner m kept who there empty (birth_there m who) refl k) (sym (none_either (k == who.slot && same_path s (path m who.space))))
        by false e = found (space_at m s) refl

    -- a body that is left, by paths
    body_left : (n k : ℕ) (b : bodies_of.Body) → get m.bodies (at n k) ≡ Some b →
        body_by (path killed) (body_after gone n b) ≡ through (death_sweep (place (path m) who)) (k ∷ path m n) (body_by (path m) b)
    body_left n k b e =
        body_by-named (path killed) (path m) (body_after gone n b)
        (named-after gone
        (λ q. is_there m q ≡ true) (λ q. place (path killed) q ≡ place (path m) q) (λ q h other. place-killed q h) tt n b (kept.leads (at n k) b e))
        ∙ body-without (path m) who (apart m kept who there) (at n k) b

    bodies_at : (q : Path) →
        body_at killed q ≡ cond (same_path q (place (path m) who)) None (option_map (through (death_sweep (place (path m) who)) q) (body_at m q))
    unfolding same_path
    bodies_at [] = refl
    bodies_at (k ∷ s) = rw (walk s) (by (same_path s (place (path m) who)) refl)
      where
        left : (n : ℕ) → space_at m s ≡ Some n → (t : Bool) (o : Option bodies_of.Body) → get m.bodies (at n k) ≡ o →
            option_map (body_by (path killed)) (cond t None (option_map (body_after gone n) o)) ≡ cond
            t None (option_map (through (death_sweep (place (path m) who)) (k ∷ s)) (option_map (body_by (path m)) o))
        left n is true o e = refl
        left n is false None e = refl
        left n is false (Some b) e =
            ap Some (body_left n k b e ∙ ap (λ t. through (death_sweep (place (path m) who)) (k ∷ t) (body_by (path m) b)) (path-space_at m kept s n is))

        found : (o : Option ℕ) → space_at m s ≡ o →
            and_then (λ n. option_map (body_by (path killed)) (get bodies2 (at n k))) o ≡ cond (k == who.slot && same_path s (path m who.space))
            None (option_map (through (death_sweep (place (path m) who)) (k ∷ s)) (and_then (λ n. option_map (body_by (path m)) (get m.bodies (at n k))) o))
        found None e = sym (none_either (k == who.slot && same_path s (path m who.space)))
        found (Some n) e = rw (bodies (at n k), same_space m kept s n who.space e, and_back (k == who.slot) (n == who.space))
            (left n e (n == who.space && k == who.slot) (get m.bodies (at n k)) refl)

        by : (t : Bool) →
            same_path s (place (path m) who) ≡ t → and_then (λ n. option_map (body_by (path killed)) (get bodies2 (at n k))) (cond t None (space_at m s)) ≡ cond
            (k == who.slot && same_path s (path m who.space)) None (option_map (through (death_sweep (place (path m) who)) (k ∷ s)) (body_at m (k ∷ s)))
        by true e = rw (empty_at m kept who there empty s k e) (sym (none_either (k == who.slot && same_path s (path m who.space))))
        by false e = found (space_at m s) refl

    pages_at : (s : Path) (g : ℕ) → page_at killed s g ≡ cond (same_path s (place (path m) who)) None (page_at m s g)
    pages_at s g = rw (walk s) (by (same_path s (place (path m) who)) refl)
      where
        found : (o : Option ℕ) →
            space_at m s ≡ o → same_path s (place (path m) who) ≡ false → and_then (λ n. get pages2 (n, g)) o ≡ and_then (λ n. get m.pages (n, g)) o
        found None e off = refl
        found (Some n) e off = pages n g ∙ ap (λ t. cond t None (get m.pages (n, g))) (path_off m kept who there empty s n e off)

        by : (t : Bool) → same_path s (place (path m) who) ≡ t → and_then (λ n. get pages2 (n, g)) (cond t None (space_at m s)) ≡ cond t None (page_at m s g)
        by true e = refl
        by false e = found (space_at m s) refl e

    pub world-killed : world killed ≡ apply (Kill (place (path m) who)) (world m)
    unfolding world apply
    world-killed = λ i. record { body = λ q. bodies_at q i; page = λ s g. pages_at s g i; next = m.next }

    pub kinds-killed : (x : Path) → same_path x (place (path m) who) ≡ false → kind_there (world killed) x ≡ kind_there (world m) x
    kinds-killed x other = ap (λ w. kind_there w x) world-killed ∙ (kinds-kill (world m) (place (path m) who) x).1 other

    pub none-killed : kind_there (world killed) (place (path m) who) ≡ None
    none-killed = ap (λ w. kind_there w (place (path m) who)) world-killed
        ∙ (kinds-kill (world m) (place (path m) who) (place (path m) who)).0 (same_path_refl (place (path m) who))

    pub places-killed : (q : Who) → IsLive m q → place (path killed) q ≡ place (path m) q
    places-killed q h = place-killed q (IsLive-there m kept q h)

    pub lives-killed : (q : Who) → IsLive m q → same_who q who ≡ false → IsLive killed q
    lives-killed q h other = there-IsLive killed kept-killed q (there_stays q (IsLive-there m kept q h) other)
