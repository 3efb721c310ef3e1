-- Memory: what reach finds stays, where a change leaves mappings, regions and which pages are there.
use Rattle.std.proofs.Common.{◌≡◌, ℕ, zero, suc, ◌+◌, ◌-◌, ◌/◌, Bool, true, false, not, if◌then◌else◌, ◌&&◌, ◌||◌, ◌==◌, nat_lt, is_some, List, ◌∷◌, Option}
use Rattle.std.proofs.Common.{Some, None, option_map, refl, ap, sym, ◌∙◌}
use Rattle.fk_model.specs.declared.limits.TheConstants.{SLOTS, MAPPINGS, PAGE_WORDS, SPACE_WORDS}
use Rattle.fk_model.specs.Places.{Path, same_path, parent, Ptr}
use Rattle.fk_model.specs.Places.Ptr.{Null, Dead, At, Out, Outside, Far}
use Rattle.fk_model.specs.Objects.{Window, Extent, Body, kind_of, number_of_kind, mapping_of, region_of, covers, and_then}
use Rattle.fk_model.specs.Objects.Body.{Mutex, Mapping, Region, Space}
use Rattle.fk_model.specs.World.{World, Change, Edit, Sweep, edited, through, death_sweep, apply}
use Rattle.fk_model.specs.World.Change.{Alter, Make, MakeSpace, Kill, Move, PutPage, DropPage}
use Rattle.fk_model.specs.World.Edit.{SetLocked, SetWindow, SetExtent, SetPointer}
use Rattle.fk_model.specs.Searches.{lowest}
use Rattle.fk_model.specs.Reach.{Reach, mapping_at, keeper, page_of_region, led_by, followed, mapped, at_home, reach_within, reach, reach_word}
use Rattle.fk_model.specs.Reach.Reach.{Missing, Bad}
use Rattle.std.proofs.lemmas.Bool.{and_parts, eqb-true}
use Rattle.fk_model.proofs.walks.PlaceLaws.{same_path_eq}
use Rattle.fk_model.proofs.walks.WalkLaws.{none_from}
use Rattle.laws_moves.proofs.InMachine.validity.Outlines.{Outline}
use Rattle.laws_moves.proofs.InMachine.validity.Edits.{outline-edited}
use Rattle.laws_moves.proofs.InMachine.Frame.{or_off}
use Rattle.laws_waits.specs.Touching.{is_home, LeavesMemory, is_map_edit, has_map}

-- ---- the numbers of a region, without its keeper

pub record Numbers : Type 0 where
  pub first : ℕ
  pub count : ℕ
  pub write : Bool

abbrev numbers : Extent → Numbers
numbers r = record { first = r.first; count = r.count; write = r.write }

abbrev page_by : Window → ℕ → Bool → Path → Numbers → Option (Path × ℕ)
page_by m page write region r =
    let place = m.offset + (page - m.first) in
    if nat_lt place r.count && (not write || (m.write && r.write)) then Some (parent region, r.first + place) else None

abbrev numbers_at : Option Body → Option Numbers
numbers_at o = option_map numbers (and_then region_of o)

led-numbers : (w : World) (m : Window) (page : ℕ) (write : Bool) (p : Path) →
    led_by w m page write (At p) ≡ and_then (page_by m page write p) (numbers_at (w.body p))
led-numbers w m page write p = by (and_then region_of (w.body p))
  where
    by : (o : Option Extent) → and_then (page_of_region m page write p) o ≡ and_then (page_by m page write p) (option_map numbers o)
    by None = refl
    by (Some r) = refl

-- ---- two worlds with the same memory

pub record IsSameMemory (w v : World) : Type 0 where
  pub mappings : (q : Path) → and_then mapping_of (v.body q) ≡ and_then mapping_of (w.body q)
  pub regions : (q : Path) → numbers_at (v.body q) ≡ numbers_at (w.body q)
  pub pages : (s : Path) (g : ℕ) → is_some (v.page s g) ≡ is_some (w.page s g)

module _ (w v : World) (same : IsSameMemory w v) where
  mapping-same : (s : Path) (page : ℕ) → mapping_at v s page ≡ mapping_at w s page
  unfolding mapping_at
  mapping-same s page =
      λ i. lowest SLOTS (λ k. and_then (λ (m : Window). if covers m.first m.count page then Some m else None) (same.mappings (k ∷ s) i))

  led-same : (m : Window) (page : ℕ) (write : Bool) (p : Ptr) → led_by v m page write p ≡ led_by w m page write p
  led-same m page write (At p) =
      led-numbers v m page write p ∙ ap (and_then (page_by m page write p)) (same.regions p) ∙ sym (led-numbers w m page write p)
  led-same m page write Null = refl
  led-same m page write Dead = refl
  led-same m page write (Out slot) = refl
  led-same m page write Outside = refl
  led-same m page write Far = refl

  home-by : (a b : Option (List ℕ)) (home away other : Reach) → is_some a ≡ is_some b → is_home away ≡ is_home other →
      is_home (at_home home away a) ≡ is_home (at_home home other b)
  home-by None None home away other e h = h
  home-by (Some xs) (Some ys) home away other e h = refl
  home-by None (Some ys) home away other e h = cc
  home-by (Some xs) None home away other e h = cc

  followed-same : (go on : Path → ℕ → Reach) → ((t : Path) (g : ℕ) → is_home (go t g) ≡ is_home (on t g)) → (o : Option (Path × ℕ)) →
      is_home (followed go o) ≡ is_home (followed on o)
  followed-same go on each None = refl
  followed-same go on each (Some place) = each place.0 place.1

  mapped-same : (go on : Window → Reach) (miss other : Reach) → ((m : Window) → is_home (go m) ≡ is_home (on m)) → is_home miss ≡ is_home other →
      (o : Option Window) → is_home (mapped go miss o) ≡ is_home (mapped on other o)
  mapped-same go on miss other each e None = e
  mapped-same go on miss other each e (Some m) = each m

  within-same : (n : ℕ) (s : Path) (page : ℕ) (write : Bool) → is_home (reach_within n v s page write) ≡ is_home (reach_within n w s page write)
  unfolding reach_within
  within-same zero s page write =
      home-by (v.page s page) (w.page s page) _ _ _ (same.pages s page)
      (ap (λ o. is_home (mapped (λ m. Bad) (Missing s page (keeper v s page)) o)) (mapping-same s page)
      ∙ mapped-same (λ m. Bad) (λ m. Bad) (Missing s page (keeper v s page)) (Missing s page (keeper w s page)) (λ m. refl) refl (mapping_at w s page))
  within-same (suc n) s page write =
      home-by (v.page s page) (w.page s page) _ _ _ (same.pages s page)
      (ap (λ o. is_home (mapped (λ m. followed (λ t other. reach_within n v t other write) (led_by v m page write m.region))
      (Missing s page (keeper v s page)) o)) (mapping-same s page)
      ∙ mapped-same (λ m. followed (λ t other. reach_within n v t other write) (led_by v m page write m.region))
      (λ m. followed (λ t other. reach_within n w t other write) (led_by w m page write m.region)) (Missing s page (keeper v s page))
      (Missing s page (keeper w s page))
      (λ m. ap (λ o. is_home (followed (λ t other. reach_within n v t other write) o)) (led-same m page write m.region)
      ∙ followed-same (λ t other. reach_within n v t other write) (λ t other. reach_within n w t other write) (λ t g. within-same n t g write)
      (led_by w m page write m.region))
      refl (mapping_at w s page))

  pub word-same : (s : Path) (address : ℕ) (write : Bool) → is_home (reach_word v s address write) ≡ is_home (reach_word w s address write)
  unfolding reach
  word-same s address write = by (nat_lt address SPACE_WORDS)
    where
      by : (b : Bool) → is_home (if b then reach_within MAPPINGS v s (address / PAGE_WORDS) write else Bad)
          ≡ is_home (if b then reach_within MAPPINGS w s (address / PAGE_WORDS) write else Bad)
      by true = within-same MAPPINGS s (address / PAGE_WORDS) write
      by false = refl

-- ---- a change that leaves memory

-- whether it is a mapping or a region is told by its kind
mapping-kind : (b : Body) → is_some (mapping_of b) ≡ (number_of_kind (kind_of b) == 3)
mapping-kind (Mapping m) = refl
mapping-kind (Mutex locked) = refl
mapping-kind b = refl

region-kind : (b : Body) → is_some (region_of b) ≡ (number_of_kind (kind_of b) == 4)
region-kind (Region r) = refl
region-kind (Mutex locked) = refl
region-kind b = refl

same_kind : (edit : Edit) (b : Body) → kind_of (edited edit b) ≡ kind_of b
same_kind edit b = ap (λ (o : Outline). o.kind) (outline-edited edit b)

no-mapping : (e : Edit) (b : Body) → is_some (mapping_of b) ≡ false → mapping_of (edited e b) ≡ None
no-mapping e b h = none_from _ (mapping-kind (edited e b) ∙ ap (λ k. number_of_kind k == 3) (same_kind e b) ∙ sym (mapping-kind b) ∙ h)

no-region : (e : Edit) (b : Body) → is_some (region_of b) ≡ false → region_of (edited e b) ≡ None
no-region e b h = none_from _ (region-kind (edited e b) ∙ ap (λ k. number_of_kind k == 4) (same_kind e b) ∙ sym (region-kind b) ∙ h)

mapping-edit : (e : Edit) (m : Window) → (is_map_edit e && true) ≡ false → mapping_of (edited e (Mapping m)) ≡ Some m
unfolding edited
mapping-edit (SetWindow first count offset write) m h = cc
mapping-edit (SetPointer to) m h = cc
mapping-edit (SetLocked locked) m h = refl
mapping-edit e m h = refl

region-edit : (e : Edit) (r : Extent) → (is_map_edit e && true) ≡ false → region_of (edited e (Region r)) ≡ Some r
unfolding edited
region-edit (SetExtent first count write) r h = cc
region-edit (SetPointer to) r h = cc
region-edit (SetLocked locked) r h = refl
region-edit e r h = refl

edit-mapping : (e : Edit) (o : Option Body) → (is_map_edit e && has_map o) ≡ false → and_then mapping_of (option_map (edited e) o) ≡ and_then mapping_of o
edit-mapping e None h = refl
edit-mapping e (Some (Mapping m)) h = mapping-edit e m h
edit-mapping e (Some (Mutex locked)) h = no-mapping e (Mutex locked) refl
edit-mapping e (Some b) h = no-mapping e b refl

edit-region : (e : Edit) (o : Option Body) → (is_map_edit e && has_map o) ≡ false → and_then region_of (option_map (edited e) o) ≡ and_then region_of o
edit-region e None h = refl
edit-region e (Some (Region r)) h = region-edit e r h
edit-region e (Some (Mutex locked)) h = no-region e (Mutex locked) refl
edit-region e (Some b) h = no-region e b refl

-- what has neither gives neither
no-map : (o : Option Body) → has_map o ≡ false → (and_then mapping_of o ≡ None) × (and_then region_of o ≡ None)
no-map o h = let both = or_off (is_some (and_then mapping_of o)) _ h in (none_from _ both.0, none_from _ both.1)

-- a sweep that leaves a mapping's pointer leaves the mapping, and a region's numbers
swept-mapping : (f : Sweep) (q : Path) (o : Option Body) → ((m : Window) → and_then mapping_of o ≡ Some m → f.pointer m.region ≡ m.region) →
    and_then mapping_of (option_map (through f q) o) ≡ and_then mapping_of o
swept-mapping f q None h = refl
swept-mapping f q (Some (Mapping m)) h = ap (λ (p : Ptr). Some (record m { region = p })) (h m refl)
swept-mapping f q (Some (Mutex locked)) h = refl
swept-mapping f q (Some b) h = refl

swept-region : (f : Sweep) (q : Path) (o : Option Body) → numbers_at (option_map (through f q) o) ≡ numbers_at o
swept-region f q None = refl
swept-region f q (Some (Region r)) = refl
swept-region f q (Some (Mutex locked)) = refl
swept-region f q (Some b) = refl

either : {A B : Type 0} (f : A → B) (t : Bool) (a b : A) → (t ≡ true → f a ≡ f b) → f (if t then a else b) ≡ f b
either f true a b h = h refl
either f false a b h = refl

put-pages : (t : Bool) (words : List ℕ) (old : Option (List ℕ)) → (t ≡ true → is_some old ≡ true) → is_some (if t then Some words else old) ≡ is_some old
put-pages true words old h = sym (h refl)
put-pages false words old h = refl

module _ (w : World) where
  -- where x has neither, another body there that has neither is alike
  placed : (x q : Path) (b : Option Body) → has_map (w.body x) ≡ false → has_map b ≡ false → same_path q x ≡ true →
      (and_then mapping_of b ≡ and_then mapping_of (w.body q)) × (numbers_at b ≡ numbers_at (w.body q))
  placed x q b before after same =
      let here : q ≡ x = same_path_eq q x same in
      let old = no-map (w.body x) before in
      let new = no-map b after in
      rw here (new.0 ∙ sym old.0, ap (option_map numbers) (new.1 ∙ sym old.1))

  pub memory_kept : (c : Change) → LeavesMemory w c → IsSameMemory w (apply c w)
  unfolding apply
  memory_kept (Alter x e) out = record {
    mappings = λ q. either (and_then mapping_of) (same_path q x) (option_map (edited e) (w.body q)) (w.body q) (λ h. edit-mapping e (w.body q) (there q h));
    regions = λ q. either numbers_at (same_path q x) (option_map (edited e) (w.body q)) (w.body q)
        (λ h. ap (option_map numbers) (edit-region e (w.body q) (there q h)));
    pages = λ s g. refl;
  }
    where
      there : (q : Path) → same_path q x ≡ true → (is_map_edit e && has_map (w.body q)) ≡ false
      there q h = let here = same_path_eq q x h in rw here out
  memory_kept (Make x body) out = record {
    mappings = λ q. either (and_then mapping_of) (same_path q x) (Some body) (w.body q) (λ h. (placed x q (Some body) out.0 out.1 h).0);
    regions = λ q. either numbers_at (same_path q x) (Some body) (w.body q) (λ h. (placed x q (Some body) out.0 out.1 h).1);
    pages = λ s g. refl;
  }
  memory_kept (MakeSpace x holder) out = record {
    mappings = λ q. either (and_then mapping_of) (same_path q x) (Some (Space w.next holder)) (w.body q)
        (λ h. (placed x q (Some (Space w.next holder)) out refl h).0);
    regions = λ q. either numbers_at (same_path q x) (Some (Space w.next holder)) (w.body q) (λ h. (placed x q (Some (Space w.next holder)) out refl h).1);
    pages = λ s g. refl;
  }
  memory_kept (Kill x) out = record {
    mappings = λ q. either (and_then mapping_of) (same_path q x) None _ (λ h. (placed x q None out.0 refl h).0 ∙ sym (mapping q)) ∙ mapping q;
    regions = λ q. either numbers_at (same_path q x) None _ (λ h. (placed x q None out.0 refl h).1 ∙ sym (swept-region (death_sweep x) q (w.body q)))
        ∙ swept-region (death_sweep x) q (w.body q);
    pages = λ s g. either is_some (same_path s x) None (w.page s g) (λ h. let here = same_path_eq s x h in rw (here, out.1 g) refl);
  }
    where
      mapping : (q : Path) → and_then mapping_of (option_map (through (death_sweep x) q) (w.body q)) ≡ and_then mapping_of (w.body q)
      mapping q = swept-mapping (death_sweep x) q (w.body q) (λ m at. let apart = out.2 q m at in rw apart refl)
  memory_kept (Move x slot) out = absurd out
  memory_kept (PutPage space page words) out = record {
    mappings = λ q. refl;
    regions = λ q. refl;
    pages = λ s g. put-pages (same_path s space && g == page) words (w.page s g) (λ h.
        let both = and_parts (same_path s space) (g == page) h in
        let here : s ≡ space = same_path_eq s space both.0 in
        let there : g ≡ page = eqb-true g page both.1 in
        rw (here, there) out);
  }
  memory_kept (DropPage space page) out = absurd out
