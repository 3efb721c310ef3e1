-- A walker meets every object inside, in preorder.
use Rattle.std.proofs.Common.{◌≡◌, ℕ, zero, suc, ◌+◌, ◌-◌, ◌≤◌, ◌<◌, Bool, true, false, cond, ◌&&◌, nat_le, is_some, List, [], ◌∷◌, ◌++◌, map, filter, length}
use Rattle.std.proofs.Common.{Option, Some, None, option_map, Ok, refl, sym, ap, subst, arith, length-append, ◌∙◌, inl, inr}
use Rattle.std.specs.List.{flat_map}
use Rattle.std.proofs.lemmas.Bool.{le-leb, leb-true}
use Rattle.fk_model.specs.declared.limits.TheConstants.{OWN_SPACE, SLOTS, LAST_PORTER_SLOT}
use Rattle.fk_model.specs.declared.names.Kind.TheVariants as kinds
use Rattle.fk_model.specs.declared.stage.Stage.{Stage}
use Rattle.fk_model.specs.declared.stage.Stage.TheVariants.{Point, Search}
use Rattle.fk_model.specs.declared.statuses.status.TheConstants.{OK, NONE}
use Rattle.fk_model.specs.Places.{Path, leads_to}
use Rattle.fk_model.specs.Places.Ptr.{At}
use Rattle.fk_model.specs.Objects.{Body, kind_of, number_of_kind}
use Rattle.fk_model.specs.Objects.Body.{Mutex, Cond, Mapping, Region, Port, Portset, Space, Thread_of, Reference}
use Rattle.fk_model.specs.World.{World, apply}
use Rattle.fk_model.specs.World.Change.{Alter}
use Rattle.fk_model.specs.World.Edit.{SetPointer}
use Rattle.fk_model.specs.Searches.{lowest, slots, residents, beneath_by, beneath, objects, depth}
use Rattle.fk_model.specs.Readers.{space_argument}
use Rattle.fk_model.specs.Moves.{call_row}
use Rattle.fk_model.specs.Runs.{Event, after}
use Rattle.fk_model.specs.Valid.{IsValid, is_fit, kind_there}
use Rattle.fk_model.specs.Closed.{far_field}
use Rattle.fk_model.specs.Cut.{cut, cutting, ports_of, seen_by, unheld}
use Rattle.fk_model.proofs.walks.PlaceLaws.{same_path_eq}
use Rattle.fk_model.proofs.walks.WalkLaws.{live-kind, short}
use Rattle.laws_moves.specs.Frozen.Holding.{IsUsersMove, IsNear}
use Rattle.laws_moves.proofs.InFrozen.Holding.{others_keep_hold}
use Rattle.laws_jobs.specs.Machines.{Head, Reply, reply_of, heard, said_of, porter, no_words, call_of, IsAnswered, Interleaved}
use Rattle.laws_jobs.specs.Machines.Head.{Stops, Asks}
use Rattle.laws_jobs.specs.Machines.Interleaved.{Here, Another, Own}
use Rattle.laws_jobs.proofs.Own.{own_body}
use Rattle.laws_jobs.proofs.Rows.{own-place, point-row, search-row, found_as, taken_among, space_pointer, ref_named}
use Rattle.laws_jobs.proofs.Weaving.{first_sound}
use Rattle.laws_checkpoint.specs.Foreign.{PLACES, number_there, way_from}
use Rattle.laws_checkpoint.specs.Walk.{Met, met, State, space_at, reach, arrive, leaves, enters, goes_on, head, found, next, walker, begin}
use Rattle.laws_checkpoint.specs.Walk.{ObjectsAreMet}
use Rattle.laws_checkpoint.specs.Walk.State.{Down, Searches, Over}
use Rattle.laws_checkpoint.proofs.Scans.{rising, slots_rise, Scan, scan, lowest_none, lowest_first}
use Rattle.laws_checkpoint.proofs.Scans.Scan.{Nobody, First}
use Rattle.laws_checkpoint.proofs.Mild.{Comes, ComesWith}
use Rattle.laws_checkpoint.proofs.Mild.IsMild.{Changes_nothing, Leads}
use Rattle.laws_checkpoint.proofs.Mild.IsOwnSlot.{Places}
use Rattle.laws_checkpoint.proofs.Tells.{root_kind, above_kind}
use Rattle.laws_checkpoint.proofs.Ways.{follow, follow-way}
use Rattle.laws_checkpoint.proofs.Seeks.{FromIs, Base, base_others, own_base, kind_up, live_slot, space_live, free}
use Rattle.laws_checkpoint.proofs.Sought.{first_base, root_is}
use Rattle.laws_checkpoint.proofs.Seeks.{from_named, slot_named, ref_read, valid_own, one_change, no_change, is_places}

module _ (nester : Path) (slot : ℕ) (start : World) (near : far_field ((cut start nester slot).body []) ≡ None) (valid_start : IsValid start)
    (few_start : start.next ≤ depth) where
  abbrev root : Path
  root = slot ∷ nester

  abbrev me : Path
  me = LAST_PORTER_SLOT ∷ nester

  abbrev c : World
  c = cut start nester slot

  abbrev pub there : Path → ℕ → Option Body
  there q k = start.body ((k ∷ q) ++ root)

  -- ---- what the cut shows of a body

  pub unheld_some : (q : Path) (b : Body) → kind_of (unheld q b) ≡ kind_of b
  unheld_some (k ∷ q) b = refl
  unheld_some [] (Space birth holder) = refl
  unheld_some [] (Mutex locked) = refl
  unheld_some [] Cond = refl
  unheld_some [] (Mapping m) = refl
  unheld_some [] (Region r) = refl
  unheld_some [] (Port set served) = refl
  unheld_some [] Portset = refl
  unheld_some [] (Thread_of t) = refl
  unheld_some [] (Reference to) = refl

  seen_kind : (b : Body) → kind_of (seen_by (cutting (ports_of start nester slot) nester slot) b) ≡ kind_of b
  unfolding seen_by
  seen_kind (Mutex locked) = refl
  seen_kind Cond = refl
  seen_kind (Mapping m) = refl
  seen_kind (Region r) = refl
  seen_kind (Port set served) = refl
  seen_kind Portset = refl
  seen_kind (Space birth holder) = refl
  seen_kind (Thread_of t) = refl
  seen_kind (Reference to) = refl

  pub kind_seen : (q : Path) → option_map kind_of (c.body q) ≡ option_map kind_of (start.body (q ++ root))
  unfolding cut
  kind_seen q = by (start.body (q ++ root))
    where
      by : (o : Option Body) → option_map kind_of (option_map (λ b. unheld q (seen_by (cutting (ports_of start nester slot) nester slot) b)) o)
          ≡ option_map kind_of o
      by None = refl
      by (Some b) = ap Some (unheld_some q (seen_by (cutting (ports_of start nester slot) nester slot) b) ∙ seen_kind b)

  pub some_seen : (q : Path) → is_some (c.body q) ≡ is_some (start.body (q ++ root))
  some_seen q = sym (is_some-kind (c.body q)) ∙ (ap is_some (kind_seen q) ∙ is_some-kind (start.body (q ++ root)))
    where
      is_some-kind : (o : Option Body) → is_some (option_map kind_of o) ≡ is_some o
      is_some-kind None = refl
      is_some-kind (Some b) = refl

  number_seen : (q : Path) (b : Body) → start.body (q ++ root) ≡ Some b → number_there (c.body q) ≡ number_of_kind (kind_of b)
  number_seen q b e = by (c.body q) (kind_seen q ∙ ap (option_map kind_of) e)
    where
      by : (o : Option Body) → option_map kind_of o ≡ Some (kind_of b) → number_there o ≡ number_of_kind (kind_of b)
      by (Some seen) h = let same : kind_of seen ≡ kind_of b = cc in ap number_of_kind same
      by None h = cc

  -- ---- what is left to be met

  abbrev pub IsSpace : Path → Type 0
  IsSpace q = kind_there start (q ++ root) ≡ Some kinds.Space

  abbrev pub within : ℕ → Path → ℕ → List Path
  within m q k = flat_map (λ j. (j ∷ q) ∷ beneath_by m c (j ∷ q)) (filter (λ j. is_some (c.body (j ∷ q))) (rising (SLOTS - k) k))

  -- what is left of the spaces above too
  unfoldable pub above : ℕ → Path → List Path
  above m [] = []
  above m (j ∷ q) = within (suc m) q (j + 1) ++ above (suc m) q

  abbrev pub left : ℕ → Path → ℕ → List Path
  left m q k = within m q k ++ above m q

  pub residents_rise : (q : Path) → residents c q ≡ filter (λ j. is_some (c.body (j ∷ q))) (rising (SLOTS - 0) 0)
  unfolding residents
  residents_rise q =
      let whole : SLOTS ≡ SLOTS - 0 = omega arith in
      ap (filter (λ j. is_some (c.body (j ∷ q)))) (slots_rise SLOTS ∙ ap (λ n. rising n 0) whole)

  -- what lies beneath a space is what is within it
  inner : (m : ℕ) (q : Path) → beneath_by (suc m) c q ≡ within m q 0
  unfolding beneath_by
  inner m q = ap (flat_map (λ j. (j ∷ q) ∷ beneath_by m c (j ∷ q))) (residents_rise q)

  no_members : (test : ℕ → Bool) → ((k : ℕ) → test k ≡ false) → (ks : List ℕ) → filter test ks ≡ []
  no_members test off [] = refl
  no_members test off (k ∷ ks) = rw (off k) (no_members test off ks)

  -- nothing lies beneath what is no space
  pub none_beneath : (m : ℕ) (q : Path) → (IsSpace q → ⊥) → beneath_by m c q ≡ []
  unfolding beneath_by residents
  none_beneath zero q other = refl
  none_beneath (suc m) q other = ap (flat_map (λ j. (j ∷ q) ∷ beneath_by m c (j ∷ q))) (no_members (λ j. is_some (c.body (j ∷ q))) off (slots SLOTS))
    where
      off : (j : ℕ) → is_some (c.body (j ∷ q)) ≡ false
      off j = by (is_some (c.body (j ∷ q))) refl
        where
          by : (t : Bool) → is_some (c.body (j ∷ q)) ≡ t → t ≡ false
          by false e = refl
          by true e = absurd (other (valid_start.consistent.parents j (q ++ root) (sym (some_seen (j ∷ q)) ∙ e)))

  -- a scan of the slots of a space, as the cut shows them
  pub scan_filter : (q : Path) (n k : ℕ) → filter (λ j. is_some (c.body (j ∷ q))) (rising n k) ≡ filter (λ j. is_some (there q j)) (rising n k)
  scan_filter q n k = ap (λ (test : ℕ → Bool). filter test (rising n k)) (λ i j. some_seen (j ∷ q) i)

  within_none : (m : ℕ) (q : Path) (k : ℕ) → filter (λ j. is_some (there q j)) (rising (SLOTS - k) k) ≡ [] → within m q k ≡ []
  within_none m q k e = ap (flat_map (λ j. (j ∷ q) ∷ beneath_by m c (j ∷ q))) (scan_filter q (SLOTS - k) k ∙ e)

  within_first : (m : ℕ) (q : Path) (k j : ℕ) → filter (λ j. is_some (there q j)) (rising (SLOTS - k) k) ≡ j
      ∷ filter (λ j. is_some (there q j)) (rising (SLOTS - (j + 1)) (j + 1)) →
      within m q k ≡ (j ∷ q) ∷ (beneath_by m c (j ∷ q) ++ within m q (j + 1))
  within_first m q k j e =
      ap (flat_map (λ j. (j ∷ q) ∷ beneath_by m c (j ∷ q))) (scan_filter q (SLOTS - k) k
      ∙ (e ∙ ap (λ ks. j ∷ ks) (sym (scan_filter q (SLOTS - (j + 1)) (j + 1)))))

  -- ---- where a state stands

  abbrev pub PlacedIn : World → Path → Type 0
  PlacedIn w [] = Unit {0}
  PlacedIn w (j ∷ q) = w.body (PLACES ∷ nester) ≡ Some (Reference (At ((j ∷ q) ++ root)))

  pub data Position (w : World) : State → Type 0 where
    AtDown : (from way : ℕ) (ways : List ℕ) (j : ℕ) (q : Path) (k : ℕ) (got : List Met) (at p : Path) → FromIs nester slot start near w from at
        → way ∷ at ≡ p ++ root →
        follow (way ∷ at) ways ≡ (j ∷ q) ++ root → IsSpace (j ∷ q) → k ≤ SLOTS → Position w (Down from (way ∷ ways) (j ∷ q) k got)
    AtSearches : (q : Path) (k : ℕ) (got : List Met) → PlacedIn w q → IsSpace q → k ≤ SLOTS → Position w (Searches q k got)
    AtOver : (got : List Met) → Position w (Over got)

  abbrev pub place_of : State → Path
  place_of (Down from ways q k got) = q
  place_of (Searches q k got) = q
  place_of (Over got) = []

  abbrev pub ends : ℕ → State → List Met
  ends m (Down from ways q k got) = got ++ map (met c) (left m q k)
  ends m (Searches q k got) = got ++ map (met c) (left m q k)
  ends m (Over got) = got

  pub record Stands (w : World) (s : State) (total : List Met) : Type 0 where
    pub base : Base nester slot start near w
    pub position : Position w s
    pub level : ℕ
    pub deep : length (place_of s) + suc level ≡ depth
    pub end : ends level s ≡ total

  pub placed_moved : (w v : World) → v.body (PLACES ∷ nester) ≡ w.body (PLACES ∷ nester) → (q : Path) → PlacedIn w q → PlacedIn v q
  placed_moved w v same [] h = tt
  placed_moved w v same (j ∷ q) h = same ∙ h

  pub from_moved : (w v : World) → v.body (PLACES ∷ nester) ≡ w.body (PLACES ∷ nester) → (from : ℕ) (at : Path) → FromIs nester slot start near w from at
      → FromIs nester slot start near v from at
  from_moved w v same from at (inl h) = inl h
  from_moved w v same from at (inr h) = inr (h.0, same ∙ h.1)

  position_same : (w v : World) → v.body (PLACES ∷ nester) ≡ w.body (PLACES ∷ nester) → (s : State) → Position w s → Position v s
  position_same w v same _ (AtDown from way ways j q k got at p h inside is space low) = AtDown from way ways j q k got at p
      (from_moved w v same from at h) inside is space low
  position_same w v same _ (AtSearches q k got h space low) = AtSearches q k got (placed_moved w v same q h) space low
  position_same w v same _ (AtOver got) = AtOver got

  pub others : (w : World) (e : Event) (s : State) (end : List Met) → IsUsersMove nester w e → (after w e).next ≤ depth → Stands w s end
      → Stands (after w e) s end
  others w e s end moves few its =
      let kept = others_keep_hold nester slot w e its.base.holding moves in
      record {
        base = base_others nester slot start near w e moves few its.base;
        position = position_same w (after w e) (kept.around.scratch PLACES (is_places nester slot start near)) s its.position;
        level = its.level;
        deep = its.deep;
        end = its.end;
      }

  -- ---- where it goes on

  reached : (w : World) (q : Path) (k m : ℕ) (got end : List Met) → Base nester slot start near w → IsSpace q → k ≤ SLOTS → length q + suc m ≡ depth →
      got ++ map (met c) (left m q k) ≡ end → Stands w (reach slot q k got) end
  reached w [] k m got end base space low deep is = record { base = base; position = AtSearches [] k got tt space low; level = m; deep = deep; end = is }
  reached w (j ∷ q) k m got end base space low deep is = record {
    base = base;
    position = AtDown OWN_SPACE slot (way_from [] (j ∷ q)) j q k got nester [] (inl (refl, refl)) refl (follow-way root (j ∷ q) []) space low;
    level = m;
    deep = deep;
    end = is;
  }

  space_above : (j : ℕ) (q : Path) → IsSpace (j ∷ q) → IsSpace q
  space_above j q space = valid_start.consistent.parents j (q ++ root) (sym (live-kind start ((j ∷ q) ++ root)) ∙ ap is_some space)

  short_slot : (j : ℕ) (q : Path) → IsSpace (j ∷ q) → j + 1 ≤ SLOTS
  short_slot j q space = let below = valid_start.rooted.slots j (q ++ root) (sym (live-kind start ((j ∷ q) ++ root)) ∙ ap is_some space) in omega (arith, below)

  -- back to the space above
  left_it : (w : World) (q : Path) (m : ℕ) (got end : List Met) → Base nester slot start near w → IsSpace q → length q + suc m ≡ depth
      → got ++ map (met c) (above m q) ≡ end →
      Stands w (leaves slot q got) end
  unfolding above
  left_it w [] m got end base space deep is = record { base = base; position = AtOver got; level = m; deep = deep; end = nothing_more got ∙ is }
    where
      nothing_more : (ms : List Met) → ms ≡ ms ++ []
      nothing_more [] = refl
      nothing_more (x ∷ ms) = ap (λ xs. x ∷ xs) (nothing_more ms)
  left_it w (j ∷ q) m got end base space deep is = reached w q (j + 1) (suc m) got end base (space_above j q space) (short_slot j q space)
      (omega (arith, deep)) is

  arrived : (w : World) (ways : List ℕ) (j : ℕ) (q : Path) (k m : ℕ) (got end : List Met) (at p : Path) → Base nester slot start near w
      → w.body (PLACES ∷ nester) ≡ Some (Reference (At at)) →
      at ≡ p ++ root → follow at ways ≡ (j ∷ q) ++ root → IsSpace (j ∷ q) → k ≤ SLOTS → length (j ∷ q) + suc m ≡ depth
      → got ++ map (met c) (left m (j ∷ q) k) ≡ end →
      Stands w (arrive ways (j ∷ q) k got) end
  arrived w [] j q k m got end at p base ref inside is space low deep eq = record {
    base = base;
    position = AtSearches (j ∷ q) k got (ref ∙ ap (λ (y : Path). Some (Reference (At y))) is) space low;
    level = m;
    deep = deep;
    end = eq;
  }
  arrived w (way ∷ ways) j q k m got end at p base ref inside is space low deep eq = record {
    base = base;
    position = AtDown PLACES way ways j q k got at (way ∷ p) (inr (refl, ref)) (ap (λ (y : Path). way ∷ y) inside) is space low;
    level = m;
    deep = deep;
    end = eq;
  }

  -- ---- its own calls

  module _ (w : World) (base : Base nester slot start near w) (valid : IsValid w) (few : w.next ≤ depth) where
    pub same_there : (q : Path) (k : ℕ) → w.body (k ∷ (q ++ root)) ≡ there q k
    same_there q k = base.inside.bodies (k ∷ q)

    pub space_now : (q : Path) → IsSpace q → kind_there w (q ++ root) ≡ Some kinds.Space
    unfolding kind_there
    space_now q space = ap (option_map kind_of) (base.inside.bodies q) ∙ space

    pub named : (q : Path) → PlacedIn w q → IsSpace q → space_argument w (porter nester no_words) (space_at slot q) ≡ Ok (q ++ root)
    named [] placed space = slot_named nester slot start near w base valid few
    named (j ∷ q) placed space = ref_named nester no_words w PLACES ((j ∷ q) ++ root) (omega arith) placed (space_now (j ∷ q) space)

    own_down : (from way : ℕ) (ways : List ℕ) (j : ℕ) (q : Path) (k m : ℕ) (got : List Met) (at p : Path) (reply : Reply) (end : List Met)
        → FromIs nester slot start near w from at →
        way ∷ at ≡ p ++ root → follow (way ∷ at) ways ≡ (j ∷ q) ++ root → IsSpace (j ∷ q) → k ≤ SLOTS → length (j ∷ q) + suc m ≡ depth →
        IsAnswered nester w (Point OWN_SPACE PLACES from way) no_words reply → got ++ map (met c) (left m (j ∷ q) k) ≡ end →
        Stands (after w (call_of nester (Point OWN_SPACE PLACES from way) no_words)) (arrive ways (j ∷ q) k got) end
    unfolding is_fit
    own_down from way ways j q k m got at p reply end h inside is space low deep answered eq =
        let kind = kind_up nester slot start near w base valid few ways (way ∷ at) ((j ∷ q) ++ root) is (space_now (j ∷ q) space) in
        let old = base.scratched.places in
        let row = point-row nester no_words w OWN_SPACE PLACES from way nester at old.0 (At (way ∷ at)) (own-place nester no_words w)
        (ref_read nester slot start near w base valid few PLACES old.0 refl old.1)
        (from_named nester slot start near w base valid few from at h (above_kind nester slot w base.holding valid way at kind))
        (space_pointer nester no_words w at way (live_slot nester slot start near w base valid few way at
        (space_live nester slot start near w base valid few (way ∷ at) kind)) kind)
        (free nester slot start near w base valid few PLACES old.0 old.1) in
        let goes = one_change nester slot start near w base valid few (Point OWN_SPACE PLACES from way) reply
        (Alter (PLACES ∷ nester) (SetPointer (At (way ∷ at)))) OK [] answered row in
        let nearby : (x : Path) → leads_to x (At (way ∷ at)) ≡ true → IsNear w root x = λ x led. inl (p, sym (same_path_eq (way ∷ at) x led) ∙ inside) in
        let valid_after : IsValid (apply (Alter (PLACES ∷ nester) (SetPointer (At (way ∷ at)))) w) =
        subst IsValid goes.0 (valid_own nester slot start near w base valid few (Point OWN_SPACE PLACES from way) refl) in
        subst (λ (v : World). Stands v (arrive ways (j ∷ q) k got) end) (sym goes.0)
        (arrived (apply (Alter (PLACES ∷ nester) (SetPointer (At (way ∷ at)))) w) ways j q k m got end (way ∷ at) p
        (own_base nester slot start near w PLACES old.0 (At (way ∷ at)) base valid valid_after few (is_places nester slot start near) old.1 nearby)
        (own_body nester slot w PLACES old.0 (At (way ∷ at)) base.holding (is_places nester slot start near) old.1 nearby) inside is space low deep eq)

    abbrev pub seen_taken : Path → ℕ → ℕ → Option (ℕ × ℕ)
    seen_taken q k = taken_among nester no_words w (λ j. w.body (j ∷ (q ++ root))) k

    pub below_none : (q : Path) (k j : ℕ) → j < k → seen_taken q k j ≡ None
    below_none q k j less = by (nat_le k j) refl
      where
        by : (t : Bool) → nat_le k j ≡ t → cond (t && nat_le j LAST_PORTER_SLOT)
            (option_map {U = ℕ × ℕ} (λ b. (j, number_of_kind (kind_of b))) (w.body (j ∷ (q ++ root)))) None ≡ None
        by true e = let most = leb-true k j e in absurd (omega (arith, most, less))
        by false e = refl

    pub empty_none : (q : Path) (k j : ℕ) → there q j ≡ None → seen_taken q k j ≡ None
    empty_none q k j e = ap (λ (o : Option Body). cond (nat_le k j && nat_le j LAST_PORTER_SLOT)
        (option_map {U = ℕ × ℕ} (λ b. (j, number_of_kind (kind_of b))) o) None) (same_there q j ∙ e) ∙ by (nat_le k j && nat_le j LAST_PORTER_SLOT)
      where
        by : (t : Bool) → cond t (option_map {T = Body} {U = ℕ × ℕ} (λ b. (j, number_of_kind (kind_of b))) None) None ≡ None
        by true = refl
        by false = refl

    pub found_there : (q : Path) (k j : ℕ) (b : Body) → k ≤ j → j < SLOTS → there q j ≡ Some b → seen_taken q k j ≡ Some (j, number_of_kind (kind_of b))
    found_there q k j b low high e = rw (le-leb k j low, le-leb j LAST_PORTER_SLOT (omega (arith, high)), same_there q j ∙ e) refl

    -- what a search comes to
    pub searched : (q : Path) (k : ℕ) → PlacedIn w q → IsSpace q → (o : Option (ℕ × ℕ)) → lowest SLOTS (seen_taken q k) ≡ o →
        call_row w (porter nester no_words) None (Search (space_at slot q) k) ≡ found_as nester no_words w o
    searched q k placed space o e = search-row nester no_words w (space_at slot q) k (q ++ root) (named q placed space) ∙ ap (found_as nester no_words w) e

    deeper : (j : ℕ) (q : Path) (b : Body) (m : ℕ) → there q j ≡ Some b → length q + suc m ≡ depth → (n : ℕ) × (m ≡ suc n)
    deeper j q b zero is deep =
        let long = short start valid_start.consistent ((j ∷ q) ++ root) (ap is_some is) in
        absurd (omega (arith, long, few_start, deep, length-append q root))
    deeper j q b (suc n) is deep = (n, refl)

    pushed : (got : List Met) (x : Met) (rest : List Met) → (got ++ x ∷ []) ++ rest ≡ got ++ x ∷ rest
    pushed [] x rest = refl
    pushed (g ∷ got) x rest = ap (λ xs. g ∷ xs) (pushed got x rest)

    joined : (xs ys zs : List Path) → (xs ++ ys) ++ zs ≡ xs ++ (ys ++ zs)
    joined [] ys zs = refl
    joined (x ∷ xs) ys zs = ap (λ (ps : List Path). x ∷ ps) (joined xs ys zs)

    -- an object is met
    meets : (q : Path) (k m j : ℕ) (b : Body) (got end : List Met) → PlacedIn w q → IsSpace q → length q + suc m ≡ depth → j < SLOTS → there q j ≡ Some b →
        within m q k ≡ (j ∷ q) ∷ (beneath_by m c (j ∷ q) ++ within m q (j + 1)) → got ++ map (met c) (left m q k) ≡ end →
        Stands w (goes_on slot q j (number_of_kind (kind_of b)) (got ++ record { path = j ∷ q; kind = number_of_kind (kind_of b) } ∷ [])) end
    unfolding kind_there above
    meets q k m j b got end placed space deep high is listed eq = by b is
      where
        got_it : Body → List Met
        got_it b = got ++ record { path = j ∷ q; kind = number_of_kind (kind_of b) } ∷ []

        all : (b : Body) → there q j ≡ Some b → got_it b ++ map (met c) (beneath_by m c (j ∷ q) ++ left m q (j + 1)) ≡ end
        all b is =
            pushed got (record { path = j ∷ q; kind = number_of_kind (kind_of b) }) (map (met c) (beneath_by m c (j ∷ q) ++ left m q (j + 1)))
            ∙ (ap (λ (n : ℕ). got ++ record { path = j ∷ q; kind = n } ∷ map (met c) (beneath_by m c (j ∷ q) ++ left m q (j + 1)))
            (sym (number_seen (j ∷ q) b is))
            ∙ (ap (λ (ps : List Path). got ++ met c (j ∷ q) ∷ map (met c) ps) (sym (joined (beneath_by m c (j ∷ q)) (within m q (j + 1)) (above m q)))
            ∙ (ap (λ (ps : List Path). got ++ map (met c) (ps ++ above m q)) (sym listed) ∙ eq)))

        other : (b : Body) → there q j ≡ Some b → (Some (kind_of b) ≡ Some kinds.Space → ⊥) → Stands w (Searches q (j + 1) (got_it b)) end
        other b is apart = record {
          base = base;
          position = AtSearches q (j + 1) (got_it b) placed space (omega (arith, high));
          level = m;
          deep = deep;
          end = ap (λ (ps : List Path). got_it b ++ map (met c) (ps ++ left m q (j + 1)))
              (sym (none_beneath m (j ∷ q) (λ h. apart (sym (ap (option_map kind_of) is) ∙ h)))) ∙ all b is;
        }

        within_it : (n : ℕ) → m ≡ suc n → beneath_by m c (j ∷ q) ++ left m q (j + 1) ≡ left n (j ∷ q) 0
        within_it n e =
            ap (λ (m : ℕ). beneath_by m c (j ∷ q) ++ (within m q (j + 1) ++ above m q)) e
            ∙ ap (λ (ps : List Path). ps ++ (within (suc n) q (j + 1) ++ above (suc n) q)) (inner n (j ∷ q))

        enter : (q : Path) → PlacedIn w q → (n : ℕ) (got : List Met) → length (j ∷ q) + suc n ≡ depth → IsSpace (j ∷ q)
            → got ++ map (met c) (left n (j ∷ q) 0) ≡ end → Stands w (enters slot q j got) end
        enter [] placed n got deep space eq = reached w (j ∷ []) 0 n got end base space (omega arith) deep eq
        enter (i ∷ p) placed n got deep space eq = record {
          base = base;
          position = AtDown PLACES j [] j (i ∷ p) 0 got ((i ∷ p) ++ root) (j ∷ i ∷ p) (inr (refl, placed)) refl refl space (omega arith);
          level = n;
          deep = deep;
          end = eq;
        }

        into : (b : Body) → there q j ≡ Some b → Some (kind_of b) ≡ Some kinds.Space → Stands w (enters slot q j (got_it b)) end
        into b is space_is =
            let lower = deeper j q b m is deep in
            let below = lower.1 in
            enter q placed lower.0 (got_it b) (omega (arith, deep, below)) (ap (option_map kind_of) is ∙ space_is)
            (ap (λ (ps : List Path). got_it b ++ map (met c) ps) (sym (within_it lower.0 lower.1)) ∙ all b is)

        by : (b : Body) → there q j ≡ Some b → Stands w (goes_on slot q j (number_of_kind (kind_of b)) (got_it b)) end
        by (Space birth holder) is = into (Space birth holder) is refl
        by (Mutex locked) is = other (Mutex locked) is (λ e. cc)
        by Cond is = other Cond is (λ e. cc)
        by (Mapping m) is = other (Mapping m) is (λ e. cc)
        by (Region r) is = other (Region r) is (λ e. cc)
        by (Port set served) is = other (Port set served) is (λ e. cc)
        by Portset is = other Portset is (λ e. cc)
        by (Thread_of t) is = other (Thread_of t) is (λ e. cc)
        by (Reference to) is = other (Reference to) is (λ e. cc)

    own_search : (q : Path) (k m : ℕ) (got : List Met) (reply : Reply) (end : List Met) → PlacedIn w q → IsSpace q → k ≤ SLOTS → length q + suc m ≡ depth →
        IsAnswered nester w (Search (space_at slot q) k) no_words reply → got ++ map (met c) (left m q k) ≡ end →
        Stands (after w (call_of nester (Search (space_at slot q) k) no_words)) (found slot q k got reply.status reply.words) end
    own_search q k m got reply end placed space low deep answered eq = by (scan (there q) SLOTS k low)
      where
        Goal : State → Type 0
        Goal s = Stands (after w (call_of nester (Search (space_at slot q) k) no_words)) s end

        by : Scan (there q) SLOTS k → Goal (found slot q k got reply.status reply.words)
        by (Nobody none listed) =
            let row = searched q k placed space None
            (lowest_none (there q) SLOTS (seen_taken q k) k (below_none q k) (λ j up high. empty_none q k j (none j up high))) in
            let goes = no_change nester slot start near w base valid few (Search (space_at slot q) k) reply NONE [] answered row in
            subst (λ (ws : List ℕ). Goal (found slot q k got reply.status ws)) (sym goes.1.1)
            (subst (λ (v : World). Stands v (leaves slot q got) end) (sym goes.0)
            (left_it w q m got end base space deep (ap (λ (ps : List Path). got ++ map (met c) (ps ++ above m q)) (sym (within_none m q k listed)) ∙ eq)))
        by (First j b up high is before listed) =
            let row = searched q k placed space (Some (j, number_of_kind (kind_of b)))
            (lowest_first (there q) SLOTS (seen_taken q k) k (below_none q k) j (j, number_of_kind (kind_of b)) up high
            (found_there q k j b up high is) (λ i least less. empty_none q k i (before i least less))) in
            let goes = no_change nester slot start near w base valid few (Search (space_at slot q) k) reply OK (j ∷ number_of_kind (kind_of b)
            ∷ []) answered row in
            let takes : found slot q k got OK (j ∷ number_of_kind (kind_of b) ∷ [])
            ≡ goes_on slot q j (number_of_kind (kind_of b)) (got ++ record { path = j ∷ q; kind = number_of_kind (kind_of b) } ∷ []) =
            rw (le-leb k j up, le-leb (suc j) SLOTS high) refl in
            subst (λ (ws : List ℕ). Goal (found slot q k got reply.status ws)) (sym goes.1.1)
            (subst (λ (st : ℕ). Goal (found slot q k got st (j ∷ number_of_kind (kind_of b) ∷ []))) (sym goes.1.0)
            (subst Goal (sym takes)
            (subst (λ (v : World). Stands v (goes_on slot q j (number_of_kind (kind_of b)) (got ++ record { path = j ∷ q; kind = number_of_kind (kind_of b) }
            ∷ [])) end) (sym goes.0)
            (meets q k m j b got end placed space deep high is (within_first m q k j listed) eq))))

    -- ---- each call comes to something

    pub comes_search : (q : Path) (k : ℕ) → PlacedIn w q → IsSpace q → Comes nester w (Search (space_at slot q) k)
    comes_search q k placed space = by (lowest SLOTS (seen_taken q k)) refl
      where
        by : (o : Option (ℕ × ℕ)) → lowest SLOTS (seen_taken q k) ≡ o → Comes nester w (Search (space_at slot q) k)
        by None e = record { changes = []; status = NONE; given = []; row = searched q k placed space None e; mild = Changes_nothing }
        by (Some f) e = record { changes = []; status = OK; given = f.0 ∷ f.1 ∷ []; row = searched q k placed space (Some f) e; mild = Changes_nothing }

    pub comes_down : (from way : ℕ) (ways : List ℕ) (j : ℕ) (q : Path) (at : Path) → FromIs nester slot start near w from at
        → follow (way ∷ at) ways ≡ (j ∷ q) ++ root → IsSpace (j ∷ q) →
        Comes nester w (Point OWN_SPACE PLACES from way)
    comes_down from way ways j q at h is space =
        let kind = kind_up nester slot start near w base valid few ways (way ∷ at) ((j ∷ q) ++ root) is (space_now (j ∷ q) space) in
        let old = base.scratched.places in
        record {
          changes = _;
          status = OK;
          given = [];
          mild = Leads PLACES old.0 (At (way ∷ at)) Places old.1;
          row = point-row nester no_words w OWN_SPACE PLACES from way nester at old.0 (At (way ∷ at)) (own-place nester no_words w)
              (ref_read nester slot start near w base valid few PLACES old.0 refl old.1)
              (from_named nester slot start near w base valid few from at h (above_kind nester slot w base.holding valid way at kind))
              (space_pointer nester no_words w at way
              (live_slot nester slot start near w base valid few way at (space_live nester slot start near w base valid few (way ∷ at) kind)) kind)
              (free nester slot start near w base valid few PLACES old.0 old.1);
        }

    abbrev asking : Stage → List ℕ → Head (List Met)
    asking stage words = Asks stage words

    asked : (stage other : Stage) (words given : List ℕ) → asking stage words ≡ Asks other given → (P : Stage → List ℕ → Type 0) → P stage words → P other given
    asked stage other words given e P p =
        let stages : stage ≡ other = cc in
        let same : words ≡ given = cc in
        subst (λ (ws : List ℕ). P other ws) same (subst (λ (st : Stage). P st words) stages p)

    pub comes_next : (s : State) (stage : Stage) (words : List ℕ) → Position w s → head slot s ≡ Asks stage words → ComesWith nester w stage words
    comes_next _ stage words (AtDown from way ways j q k got at p h inside is space low) asks =
        asked (Point OWN_SPACE PLACES from way) stage no_words words asks (λ st ws. ComesWith nester w st ws) (refl, comes_down from way ways j q at h is space)
    comes_next _ stage words (AtSearches q k got placed space low) asks =
        asked (Search (space_at slot q) k) stage no_words words asks (λ st ws. ComesWith nester w st ws) (refl, comes_search q k placed space)
    comes_next _ stage words (AtOver got) asks = cc

  -- ---- the whole

  pub own : (w : World) (s : State) (stage : Stage) (words : List ℕ) (reply : Reply) (end : List Met) → Stands w s end → head slot s ≡ Asks stage words
      → IsAnswered nester w stage words reply →
      Stands (after w (call_of nester stage words)) (next slot s reply.status reply.words) end
  own w s stage words reply end its asks answered = by s its.position its.deep its.end asks answered
    where
      Goal : State → Stage → List ℕ → Type 0
      Goal s st ws = IsAnswered nester w st ws reply → Stands (after w (call_of nester st ws)) (next slot s reply.status reply.words) end

      by : (s : State) → Position w s → length (place_of s) + suc its.level ≡ depth → ends its.level s ≡ end → head slot s ≡ Asks stage words
          → Goal s stage words
      by _ (AtDown from way ways j q k got at p h inside is space low) deep eq asks =
          asked w its.base answered.valid answered.few (Point OWN_SPACE PLACES from way) stage no_words words asks (Goal (Down from (way ∷ ways) (j ∷ q) k got))
          (λ mine. own_down w its.base mine.valid mine.few from way ways j q k its.level got at p reply end h inside is space low deep mine eq)
      by _ (AtSearches q k got placed space low) deep eq asks =
          asked w its.base answered.valid answered.few (Search (space_at slot q) k) stage no_words words asks (Goal (Searches q k got))
          (λ mine. own_search w its.base mine.valid mine.few q k its.level got reply end placed space low deep mine eq)
      by _ (AtOver got) deep eq asks = cc

  pub arrives : (w v : World) (s t : State) (es : List Event) (end : List Met) → Stands w s end → Interleaved (walker slot) nester w s es v t → Stands v t end
  arrives _ _ _ _ _ end its (Here w s sound) = its
  arrives _ v _ t _ end its (Another w s e es _ _ sound works moves rest) =
      arrives (after w e) v s t es end (others w e s end moves (first_sound (walker slot) nester (after w e) s es v t rest).whole.few its) rest
  arrives _ v _ t _ end its (Own w s stage words es _ _ sound asks ready rest) =
      arrives (after w (call_of nester stage words)) v (heard (walker slot) s (said_of w (call_of nester stage words))) t es end
      (own w s stage words (reply_of (said_of w (call_of nester stage words))) end its asks
      (record { valid = sound.whole.valid; few = sound.whole.few; ready = ready; said = refl })) rest

  pub finds : (w : World) (s : State) (got end : List Met) → Stands w s end → head slot s ≡ Stops got → got ≡ end
  finds w s got end its stops = by s its.position its.end stops
    where
      by : (s : State) → Position w s → ends its.level s ≡ end → head slot s ≡ Stops got → got ≡ end
      by _ (AtDown from way ways j q k found at p h inside is space low) e stops = cc
      by _ (AtSearches q k found placed space low) e stops = cc
      by _ (AtOver found) e stops = let same : found ≡ got = cc in sym same ∙ e

  pub begun_here : (w : World) → Base nester slot start near w → IsSpace [] → Stands w begin (map (met c) (objects c))
  unfolding beneath above
  begun_here w base space = record {
    base = base;
    position = AtSearches [] 0 [] tt space (omega arith);
    level = depth - 1;
    deep = omega arith;
    end = ap (map (met c)) (nothing_above (within (depth - 1) [] 0) ∙ (sym (inner (depth - 1) []) ∙ ap (λ n. beneath_by n c []) (one_more)));
  }
    where
      one_more : suc (depth - 1) ≡ depth
      one_more = omega arith

      nothing_above : (ps : List Path) → ps ++ [] ≡ ps
      nothing_above [] = refl
      nothing_above (p ∷ ps) = ap (λ (qs : List Path). p ∷ qs) (nothing_above ps)

pub objects_are_met : ObjectsAreMet
objects_are_met nester slot w v t es got holding sound scratched run stops =
    let near = (root_is nester slot w holding sound.whole.valid).0 in
    let base = first_base nester slot w holding near scratched in
    let first = begun_here nester slot w near sound.whole.valid sound.whole.few w base (root_kind nester slot w holding sound.whole.valid) in
    finds nester slot w near sound.whole.valid sound.whole.few v t got (map (met (cut w nester slot)) (objects (cut w nester slot)))
    (arrives nester slot w near sound.whole.valid sound.whole.few w v begin t es (map (met (cut w nester slot)) (objects (cut w nester slot))) first run) stops
