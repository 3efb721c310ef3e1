-- What a caller in a place that is away reads: spaces and threads that are away, servers and clients outside, memory outside.
use Rattle.std.proofs.Common.{◌≡◌, ◌⊎◌, inl, inr, ℕ, zero, suc, ◌/◌, Bool, true, false, if◌then◌else◌, ◌||◌, ◌==◌, nat_lt, List, [], ◌∷◌, Option, Some, None}
use Rattle.std.proofs.Common.{Result, Ok, Err, refl, sym, ap}
use Rattle.std.specs.List.{list_any}
use Rattle.std.proofs.lemmas.Bool.{or_cases}
use Rattle.fk_model.specs.declared.limits.TheConstants.{OWN_SPACE, SLOTS, MAPPINGS, PAGE_WORDS, SPACE_WORDS}
use Rattle.fk_model.specs.declared.names.Kind.{Kind}
use Rattle.fk_model.specs.declared.names.Kind.TheVariants as kinds
use Rattle.fk_model.specs.declared.statuses.status.TheConstants.{WRONGKIND}
use Rattle.fk_model.specs.Places.{Path, is_within, parent, Ptr, leads_to}
use Rattle.fk_model.specs.Places.Ptr.{Null, Dead, At, Out, Outside, Far}
use Rattle.fk_model.specs.Objects.{Thread, Window, Extent, Body, same_kind, thread_of, mapping_of, region_of, covers, and_then, holds}
use Rattle.fk_model.specs.Objects.Body.{Mutex, Cond, Mapping, Region, Port, Portset, Space, Thread_of, Reference}
use Rattle.fk_model.specs.World.{World}
use Rattle.fk_model.specs.Searches.{pointers}
use Rattle.fk_model.specs.Reach.{Reach, mapping_at, led_by, page_of_region, followed, mapped, at_home, reach_within, reach, reach_word, keeper}
use Rattle.fk_model.specs.Reach.Reach.{Home, Missing, Bad}
use Rattle.fk_model.specs.Outcomes.{Caller, or_refuse}
use Rattle.fk_model.specs.Readers.{and_read, slot_for, kind_at, is_kind, led_to, handled, handle, path_at, space_argument}
use Rattle.fk_model.specs.Talks.{thread_led_to}
use Rattle.fk_model.specs.SpaceRows.{thread_by_handle}
use Rattle.fk_model.specs.Freezing.{body_pointers}
use Rattle.fk_model.specs.Seen.{leads_near, leads_inside, is_led_near}
use Rattle.fk_model.proofs.walks.PlaceLaws.{same_path_refl, leads_to_at}
use Rattle.fk_model.proofs.walks.Lowest.{lowest-found}
use Rattle.laws_subtrees.specs.Further.Strangers.{HasNoWindow}
use Rattle.laws_subtrees.proofs.InFurther.strangers.Places.{off_from, IsAway, away_down, inside_up, outside_up}

-- a test that holds of whatever another holds of
any_more : (f g : Ptr → Bool) → ((p : Ptr) → f p ≡ true → g p ≡ true) → (ps : List Ptr) → list_any f ps ≡ true → list_any g ps ≡ true
any_more f g more [] h = cc
any_more f g more (p ∷ ps) h = by (or_cases (f p) (list_any f ps) h) (any_more f g more ps)
  where
    by : (f p ≡ true) ⊎ (list_any f ps ≡ true) → (list_any f ps ≡ true → list_any g ps ≡ true) → (g p || list_any g ps) ≡ true
    by (inl e) rest = rw (more p e) refl
    by (inr e) rest = on (g p) (rest e)
      where
        on : (a : Bool) → list_any g ps ≡ true → (a || list_any g ps) ≡ true
        on true h = refl
        on false h = h

module _ (w : World) (nester : Path) (slot : ℕ) where
  abbrev root : Path
  root = slot ∷ nester

  -- ---- what a space that is away holds

  pub record IsApart (s : Path) : Type 0 where
    pub away : IsAway nester slot s
    pub apart : (k : ℕ) → is_led_near w root (k ∷ s) ≡ false

  split : (y : Path) → (is_within y root || is_within root y) ≡ false → IsAway nester slot y
  split y h = record { below = first (is_within y root) h; outside = second (is_within y root) h }
    where
      first : (a : Bool) → (a || is_within root y) ≡ false → a ≡ false
      first false h = refl
      first true h = cc

      second : (a : Bool) → (a || is_within root y) ≡ false → is_within root y ≡ false
      second false h = h
      second true h = cc

  pub led_away : (s : Path) → IsApart s → (k : ℕ) (y : Path) → list_any (leads_to y) (body_pointers (w.body (k ∷ s))) ≡ true → IsAway nester slot y
  led_away s its k y led = split y (off_from _ (λ near. by (w.body (k ∷ s)) (its.apart k) led near))
    where
      more : (is_within y root || is_within root y) ≡ true → (p : Ptr) → leads_to y p ≡ true → leads_near root p ≡ true
      more near p h = let is = leads_to_at y p h in rw is near

      by : (o : Option Body) → holds (λ b. list_any (leads_near root) (pointers b)) o ≡ false → list_any (leads_to y) (body_pointers o) ≡ true →
          (is_within y root || is_within root y) ≡ true → ⊥
      by (Some b) none led near = let on = any_more (leads_to y) (leads_near root) (more near) (pointers b) led in cc
      by None none led near = cc

  -- ---- handles

  pub led_to-same : (wanted : Kind) (p r : Ptr) → led_to w wanted p ≡ Ok r → r ≡ p
  led_to-same wanted Null r h = cc
  led_to-same wanted Dead r h = cc
  led_to-same wanted (At x) r h = by (is_kind wanted (kind_at w (At x))) h
    where
      by : (t : Bool) → (if t then Ok (At x) else Err WRONGKIND) ≡ Ok r → r ≡ At x
      by true h = cc
      by false h = cc
  led_to-same wanted (Out i) r h = by (is_kind wanted (kind_at w (Out i))) h
    where
      by : (t : Bool) → (if t then Ok (Out i) else Err WRONGKIND) ≡ Ok r → r ≡ Out i
      by true h = cc
      by false h = cc
  led_to-same wanted Outside r h = cc
  led_to-same wanted Far r h = cc

  own-handle : (k : ℕ) (s y : Path) (t : Bool) → IsAway nester slot s → (if t then Ok (At (k ∷ s)) else Err WRONGKIND) ≡ Ok (At y) → IsAway nester slot y
  own-handle k s y true away h = let same : y ≡ k ∷ s = cc in rw same (away_down nester slot k s away)
  own-handle k s y false away h = cc

  handled-away : (s : Path) (wanted : Kind) (k : ℕ) (y : Path) → IsApart s → handled w wanted (k ∷ s) (w.body (k ∷ s)) ≡ Ok (At y) → IsAway nester slot y
  handled-away s wanted k y its h = by (w.body (k ∷ s)) refl h
    where
      reference : (to : Ptr) → w.body (k ∷ s) ≡ Some (Reference to) → led_to w wanted to ≡ Ok (At y) → IsAway nester slot y
      reference to e h =
          let same = led_to-same wanted to (At y) h in
          led_away s its k y (rw (e, ← same, same_path_refl y) refl)

      by : (o : Option Body) → w.body (k ∷ s) ≡ o → handled w wanted (k ∷ s) o ≡ Ok (At y) → IsAway nester slot y
      by None e h = cc
      by (Some (Reference to)) e h = reference to e h
      by (Some (Mutex locked)) e h = own-handle k s y (same_kind wanted kinds.Mutex) its.away h
      by (Some Cond) e h = own-handle k s y (same_kind wanted kinds.Cond) its.away h
      by (Some (Mapping m)) e h = own-handle k s y (same_kind wanted kinds.Mapping) its.away h
      by (Some (Region r)) e h = own-handle k s y (same_kind wanted kinds.Region) its.away h
      by (Some (Port set served)) e h = own-handle k s y (same_kind wanted kinds.Port) its.away h
      by (Some Portset) e h = own-handle k s y (same_kind wanted kinds.Portset) its.away h
      by (Some (Space birth holder)) e h = own-handle k s y (same_kind wanted kinds.Space) its.away h
      by (Some (Thread_of t)) e h = own-handle k s y (same_kind wanted kinds.Thread) its.away h

  pub handle-away : (c : Caller) (wanted : Kind) (h : ℕ) (y : Path) → IsApart c.space → handle w c wanted h ≡ Ok (At y) → IsAway nester slot y
  unfolding handle
  handle-away c wanted h y its read = by (slot_for c h) read
    where
      by : (r : Result ℕ ℕ) → and_read r (λ h. handled w wanted (h ∷ c.space) (w.body (h ∷ c.space))) ≡ Ok (At y) → IsAway nester slot y
      by (Ok k) read = handled-away c.space wanted k y its read
      by (Err status) read = cc

  pub place-away : (c : Caller) (s : ℕ) (space : Path) → IsApart c.space → space_argument w c s ≡ Ok space → IsAway nester slot space
  unfolding space_argument
  place-away c s space its read = by (s == OWN_SPACE) read
    where
      path : (r : Result Ptr ℕ) → handle w c kinds.Space s ≡ r → and_read r path_at ≡ Ok space → IsAway nester slot space
      path (Ok (At y)) e h = let same : y ≡ space = cc in rw (← same) (handle-away c kinds.Space s y its e)
      path (Ok Null) e h = cc
      path (Ok Dead) e h = cc
      path (Ok (Out i)) e h = cc
      path (Ok Outside) e h = cc
      path (Ok Far) e h = cc
      path (Err status) e h = cc

      by : (t : Bool) → (if t then Ok c.space else and_read (handle w c kinds.Space s) path_at) ≡ Ok space → IsAway nester slot space
      by true h = let same : c.space ≡ space = cc in rw (← same) its.away
      by false h = path (handle w c kinds.Space s) refl h

  pub thread-away : (c : Caller) (h : ℕ) (e : Path × Thread) → IsApart c.space → thread_by_handle w c h ≡ Ok e → IsAway nester slot e.0
  thread-away c h e its read = by (handle w c kinds.Thread h) refl read
    where
      found : (y : Path) (o : Option Thread) → or_refuse WRONGKIND (and_then (λ t. Some (y, t)) o) ≡ Ok e → e.0 ≡ y
      found y (Some t) h = let same : (y, t) ≡ e = cc in ap (λ (e : Path × Thread). e.0) (sym same)
      found y None h = cc

      by : (r : Result Ptr ℕ) → handle w c kinds.Thread h ≡ r → and_read r (λ p. or_refuse WRONGKIND (thread_led_to w p)) ≡ Ok e → IsAway nester slot e.0
      by (Ok (At y)) is h = rw (found y (and_then thread_of (w.body y)) h) (handle-away c kinds.Thread _ y its is)
      by (Ok Null) is h = cc
      by (Ok Dead) is h = cc
      by (Ok (Out i)) is h = cc
      by (Ok Outside) is h = cc
      by (Ok Far) is h = cc
      by (Err status) is h = cc

  -- ---- memory

  module _ (windows : HasNoWindow w nester slot) (space : (birth : ℕ) × (holder : Option Ptr) × (w.body root ≡ Some (Space birth holder))) where
    abbrev IsOut : Path → Type 0
    IsOut s = is_within root s ≡ false

    abbrev pub HomeOut : Reach → Type 0
    HomeOut (Home s page) = IsOut s
    HomeOut (Missing s page keeper) = Unit {0}
    HomeOut Bad = Unit {0}

    window-out : (s : Path) (k : ℕ) (m : Window) → IsOut s → and_then mapping_of (w.body (k ∷ s)) ≡ Some m → leads_inside root m.region ≡ false
    window-out s k m out there = by (is_within root (k ∷ s)) refl
      where
        none : (k ∷ s ≡ root) ⊎ (is_within root s ≡ true) → ⊥
        none (inl e) = let here : and_then mapping_of (w.body root) ≡ Some m = rw (← e) there in let body = space.2 in
            let gone : None ≡ Some m = rw body at here in cc
        none (inr on) = cc

        by : (t : Bool) → is_within root (k ∷ s) ≡ t → leads_inside root m.region ≡ false
        by true e = absurd (none (inside_up nester slot k s e))
        by false e = let off = windows (k ∷ s) e in rw there at off

    page-out : (m : Window) (page : ℕ) (write : Bool) (p : Ptr) → leads_inside root p ≡ false → (place : Path × ℕ) → led_by w m page write p ≡ Some place →
        IsOut place.0
    page-out m page write (At r) out place h = by (and_then region_of (w.body r)) h
      where
        up : IsOut (parent r)
        up = at r out
          where
            at : (r : Path) → is_within root r ≡ false → IsOut (parent r)
            at [] out = out
            at (k ∷ s) out = outside_up nester slot k s out

        test : (t : Bool) (n : ℕ) → (if t then Some (parent r, n) else None) ≡ Some place → IsOut place.0
        test true n h = let same : parent r ≡ place.0 = cc in rw (← same) up
        test false n h = cc

        by : (o : Option Extent) → and_then (page_of_region m page write r) o ≡ Some place → IsOut place.0
        by (Some e) h = test _ _ h
        by None h = cc
    page-out m page write Null out place h = cc
    page-out m page write Dead out place h = cc
    page-out m page write (Out i) out place h = cc
    page-out m page write Outside out place h = cc
    page-out m page write Far out place h = cc

    at_home-out : (s : Path) (page : ℕ) (away : Reach) (o : Option (List ℕ)) → IsOut s → HomeOut away → HomeOut (at_home (Home s page) away o)
    at_home-out s page away None out rest = rest
    at_home-out s page away (Some words) out rest = out

    within-out : (n : ℕ) (s : Path) (page : ℕ) (write : Bool) → IsOut s → HomeOut (reach_within n w s page write)
    unfolding reach_within mapping_at
    within-out zero s page write out = at_home-out s page _ (w.page s page) out (by (mapping_at w s page))
      where
        by : (o : Option Window) → HomeOut (mapped (λ m. Bad) (Missing s page (keeper w s page)) o)
        by None = tt
        by (Some m) = tt
    within-out (suc n) s page write out = at_home-out s page _ (w.page s page) out
        (by (mapping_at w s page) refl (λ t other out. within-out n t other write out))
      where
        covered : (t : Bool) (old m : Window) → (if t then Some old else None) ≡ Some m → old ≡ m
        covered true old m h = cc
        covered false old m h = cc

        found : (k : ℕ) (m : Window) (o : Option Window) → and_then mapping_of (w.body (k ∷ s)) ≡ o →
            and_then (λ (m : Window). if covers m.first m.count page then Some m else None) o ≡ Some m → leads_inside root m.region ≡ false
        found k m (Some old) e h = let same = covered (covers old.first old.count page) old m h in window-out s k m out (rw (← same) e)
        found k m None e h = cc

        led : (go : (t : Path) (other : ℕ) → IsOut t → HomeOut (reach_within n w t other write)) (o : Option (Path × ℕ)) →
            ((place : Path × ℕ) → o ≡ Some place → IsOut place.0) →
            HomeOut (followed (λ t other. reach_within n w t other write) o)
        led go None places = tt
        led go (Some place) places = go place.0 place.1 (places place refl)

        by : (o : Option Window) → mapping_at w s page ≡ o → ((t : Path) (other : ℕ) → IsOut t → HomeOut (reach_within n w t other write)) →
            HomeOut (mapped (λ m. followed (λ t other. reach_within n w t other write) (led_by w m page write m.region)) (Missing s page (keeper w s page)) o)
        by None e go = tt
        by (Some m) e go =
            let at = lowest-found SLOTS _ m e in
            led go (led_by w m page write m.region) (page-out m page write m.region (found at.0 m _ refl at.1))

    pub word-out : (s : Path) (address : ℕ) (write : Bool) → IsOut s → HomeOut (reach_word w s address write)
    unfolding reach
    word-out s address write out = by (nat_lt address SPACE_WORDS)
      where
        by : (t : Bool) → HomeOut (if t then reach w s (address / PAGE_WORDS) write else Bad)
        by true = within-out MAPPINGS s (address / PAGE_WORDS) write out
        by false = tt
