-- A seeker finds the first place at which a subtree isn't closed.
use Rattle.std.proofs.Common.{◌≡◌, ℕ, ◌≤◌, Bool, true, false, cond, not, ◌==◌, nat_le, nat_lt, IsSome, is_some, List, [], ◌∷◌, ◌++◌, map, Option}
use Rattle.std.proofs.Common.{Some, None, option_map, Ok, refl, sym, ap, subst, arith, ◌∙◌, ◌⊎◌, inl, inr}
use Rattle.std.specs.List.{list_any}
use Rattle.std.proofs.lemmas.Bool.{le-leb, ne_eqb}
use Rattle.std.proofs.lemmas.Bool.Decides.{nat_tests}
use Rattle.fk_model.specs.declared.limits.TheConstants.{OWN_SPACE, LAST_PORTER_SLOT}
use Rattle.fk_model.specs.declared.names.Kind.TheVariants as kinds
use Rattle.fk_model.specs.declared.stage.Stage.{Stage}
use Rattle.fk_model.specs.declared.stage.Stage.TheVariants.{Point, GetPtr, Locate}
use Rattle.fk_model.specs.declared.moves.Ask.TheVariants as askings
use Rattle.fk_model.specs.declared.statuses.status.TheConstants.{OK, NONE}
use Rattle.fk_model.specs.Places.{Path, same_path, Ptr, leads_to}
use Rattle.fk_model.specs.Places.Ptr.{Null, Dead, At, Out, Outside, Far}
use Rattle.fk_model.specs.Objects.{Body, or_else, reference_of}
use Rattle.fk_model.specs.Objects.Body.{Reference}
use Rattle.fk_model.specs.World.{World, Change, apply}
use Rattle.fk_model.specs.World.Change.{Alter}
use Rattle.fk_model.specs.World.Edit.{SetPointer}
use Rattle.fk_model.specs.Searches.{depth}
use Rattle.fk_model.specs.Holds.{decider, is_frozen_for}
use Rattle.fk_model.specs.Freezing.{body_pointers}
use Rattle.fk_model.specs.Outcomes.Outcome.{Goes}
use Rattle.fk_model.specs.Outcomes.Said.{Answered}
use Rattle.fk_model.specs.Readers.{object_in, anything, space_argument, kind_at}
use Rattle.fk_model.specs.StateRows.{field_of, field_number}
use Rattle.fk_model.specs.StateRows.Field.{Pointer}
use Rattle.fk_model.specs.ObjectRows.{is_scratch, pointer_count, target_of, way_to, kind_number}
use Rattle.fk_model.specs.Moves.{call_row}
use Rattle.fk_model.specs.Runs.{Event, after}
use Rattle.fk_model.specs.Valid.{IsValid, is_fit, kind_there}
use Rattle.fk_model.specs.Closed.{Place, led_to_from_outside, when_bad, far_field, first_place, is_led_to}
use Rattle.fk_model.specs.Cut.{cut, cut_ptr, cutting, ports_of, seen_by}
use Rattle.fk_model.proofs.walks.PlaceLaws.{same_path_refl, same_path_eq}
use Rattle.fk_model.proofs.walks.WalkLaws.{live-kind}
use Rattle.laws_moves.proofs.InMachine.validity.Steps.{step_keeps_valid_lem}
use Rattle.laws_moves.specs.Frozen.Frozen.{IsSameInside}
use Rattle.laws_moves.specs.Frozen.Holding.{IsHolding, IsUsersMove, IsNear}
use Rattle.laws_moves.proofs.InFrozen.Holding.{others_keep_hold}
use Rattle.laws_moves.proofs.InFrozen.FrozenLaws.{frozen_cut_stays}
use Rattle.laws_jobs.specs.Machines.{Head, Reply, reply_of, heard, said_of, porter, no_words, call_of, IsAnswered, Interleaved}
use Rattle.laws_jobs.specs.Machines.Head.{Stops, Asks}
use Rattle.laws_jobs.specs.Machines.Interleaved.{Here, Another, Own}
use Rattle.laws_checkpoint.specs.Foreign.{PLACES, TARGETS, fields_of, Task, task_of, State, place_of, way_from, begin_at, begin, arrive, head, next, is_zero}
use Rattle.laws_checkpoint.specs.Foreign.{read, tells_port, seeker, counting, reading, STEPS, IsScratched}
use Rattle.laws_checkpoint.specs.Foreign.State.{Down, Fields, Inside, Beside, Over}
use Rattle.laws_jobs.proofs.LeadLaws.{others_keep_leads, counts_tell}
use Rattle.laws_jobs.proofs.Unled.{held_frozen}
use Rattle.laws_jobs.proofs.Goings.{one_change as changed_by, no_change as unchanged_by}
use Rattle.laws_jobs.proofs.Weaving.{first_sound}
use Rattle.laws_checkpoint.proofs.Mild.{Comes, ComesWith}
use Rattle.laws_checkpoint.proofs.Mild.IsMild.{Changes_nothing, Leads}
use Rattle.laws_checkpoint.proofs.Mild.IsOwnSlot.{Places, Targets}
use Rattle.laws_checkpoint.proofs.Same.{inside-then}
use Rattle.laws_checkpoint.proofs.Ways.{follow, follow-way}
use Rattle.laws_jobs.proofs.Own.{other_body, own_body, pointed_cut, pointed_holding, pointed_leads, pointed_inside}
use Rattle.laws_jobs.proofs.Rows.{own-place, object-there, point-row, get_ptr-row, locate-row, located_as, count-row, count_space-row, space_pointer, own_named}
use Rattle.laws_jobs.proofs.Rows.{ref_named}
use Rattle.laws_checkpoint.proofs.Tells.{Counted, AllCounted, all_counted, seen_at, is_bad, first_bad, far_is, same_fields, counted, root_kind, above_kind}
use Rattle.laws_checkpoint.proofs.Tells.{told_inside, told_outside, told_beside}

-- from the world at the hold on
module _ (nester : Path) (slot : ℕ) (start : World) (root_near : far_field ((cut start nester slot).body []) ≡ None) where
  abbrev root : Path
  root = slot ∷ nester

  abbrev pub c : World
  c = cut start nester slot

  unfoldable pub led : Path → Bool
  led q = is_led_to start root (q ++ root)

  abbrev me : Path
  me = LAST_PORTER_SLOT ∷ nester

  -- ---- what is left to be found

  abbrev pub at_object : Path → Option ℕ
  at_object q = or_else (far_field (c.body q)) (when_bad (led q) led_to_from_outside)

  abbrev pub paths_of : List Task → List Path
  paths_of ts = map (λ (t : Task). t.path) ts

  abbrev pub rests : List Task → Option Place
  rests ts = first_place at_object slot (paths_of ts)

  abbrev pub left : Task → List ℕ → Option ℕ
  left t fs = or_else (first_bad t.strict (c.body t.path) fs) (when_bad (led t.path) led_to_from_outside)

  abbrev pub ends_with : Task → List Task → Option ℕ → Option Place
  ends_with t ts o = or_else (option_map (place_of slot t) o) (rests ts)

  abbrev pub ends : State → Option Place
  ends (Down from ways t ts) = ends_with t ts (left t t.fields)
  ends (Fields fs t ts) = ends_with t ts (left t fs)
  ends (Inside n fs t ts) = ends_with t ts (left t (n ∷ fs))
  ends (Beside n fs t ts) = ends_with t ts (left t (n ∷ fs))
  ends (Over place) = place

  pub record IsTask (t : Task) : Type 0 where
    pub is : t ≡ task_of c t.path
    pub live : IsSome (c.body t.path)

  abbrev pub AllTasks : List Task → Type 0
  AllTasks [] = Unit {0}
  AllTasks (t ∷ ts) = IsTask t × AllTasks ts

  abbrev pub tasks_of : State → Type 0
  tasks_of (Down from ways t ts) = IsTask t × AllTasks ts
  tasks_of (Fields fs t ts) = IsTask t × AllTasks ts
  tasks_of (Inside n fs t ts) = IsTask t × AllTasks ts
  tasks_of (Beside n fs t ts) = IsTask t × AllTasks ts
  tasks_of (Over place) = Unit {0}

  -- an object whose fields are all left
  whole : (t : Task) → t ≡ task_of c t.path → at_object t.path ≡ left t t.fields
  whole t is = by t.path is
    where
      by : (q : Path) → t ≡ task_of c q → at_object t.path ≡ left t t.fields
      by [] e = rw e (ap (λ (o : Option ℕ). or_else o (when_bad (led []) led_to_from_outside)) root_near)
      by (k ∷ q) e = rw e (ap (λ (o : Option ℕ). or_else o (when_bad (led (k ∷ q)) led_to_from_outside)) (far_is (c.body (k ∷ q))))

  -- ---- where a state stands in the world

  abbrev pub FromIs : World → ℕ → Path → Type 0
  FromIs w from at = ((from ≡ OWN_SPACE) × (at ≡ nester)) ⊎ ((from ≡ PLACES) × (w.body (PLACES ∷ nester) ≡ Some (Reference (At at))))

  abbrev pub PlacedAt : World → Path → Type 0
  PlacedAt w [] = Unit {0}
  PlacedAt w (k ∷ s) = w.body (PLACES ∷ nester) ≡ Some (Reference (At (s ++ root)))

  abbrev pub CountedAt : World → Path → List ℕ → Type 0
  CountedAt w [] fs = fs ≡ []
  CountedAt w (k ∷ s) fs = (b : Body) → w.body ((k ∷ s) ++ root) ≡ Some b → AllCounted b fs

  pub record FieldAt (w : World) (q : Path) (n : ℕ) : Type 0 where
    pub k : ℕ
    pub s : Path
    pub path : q ≡ k ∷ s
    pub body : Body
    pub there : w.body (q ++ root) ≡ Some body
    pub counts : Counted body n
    pub to : Ptr
    pub field : field_of n body ≡ Some (Pointer to)
    pub some : field_number (Pointer to) ≡ 2
    pub ref : w.body (TARGETS ∷ nester) ≡ Some (Reference to)

  pub data Position (w : World) : State → Type 0 where
    AtDown : (from k : ℕ) (ways : List ℕ) (j : ℕ) (s : Path) (t : Task) (ts : List Task) (at p : Path) → FromIs w from at → k ∷ at ≡ p ++ root
        → follow (k ∷ at) ways ≡ s ++ root → t.path ≡ j ∷ s →
        Position w (Down from (k ∷ ways) t ts)
    AtFields : (fs : List ℕ) (t : Task) (ts : List Task) → PlacedAt w t.path → CountedAt w t.path fs → Position w (Fields fs t ts)
    AtInside : (n : ℕ) (fs : List ℕ) (t : Task) (ts : List Task) → PlacedAt w t.path → CountedAt w t.path fs → FieldAt w t.path n
        → Position w (Inside n fs t ts)
    AtBeside : (n : ℕ) (fs : List ℕ) (t : Task) (ts : List Task) → PlacedAt w t.path → CountedAt w t.path fs → (its : FieldAt w t.path n)
        → is_some (way_to root its.to) ≡ false → t.strict ≡ false →
        Position w (Beside n fs t ts)
    AtOver : (place : Option Place) → Position w (Over place)

  pub record Base (w : World) : Type 0 where
    pub holding : IsHolding nester slot w
    pub inside : IsSameInside root start w
    pub same : cut w nester slot ≡ c
    pub leads : (q : Path) → is_led_to w root (q ++ root) ≡ led q
    pub scratched : IsScratched nester w

  pub record Stands (w : World) (s : State) (found : Option Place) : Type 0 where
    pub base : Base w
    pub position : Position w s
    pub tasks : tasks_of s
    pub end : ends s ≡ found

  -- ---- others

  pub placed_by : (w v : World) → v.body (PLACES ∷ nester) ≡ w.body (PLACES ∷ nester) → (q : Path) → PlacedAt w q → PlacedAt v q
  placed_by w v places [] h = tt
  placed_by w v places (k ∷ s) h = places ∙ h

  pub counted_by : (w v : World) → IsSameInside root w v → (q : Path) (fs : List ℕ) → CountedAt w q fs → CountedAt v q fs
  counted_by w v same [] fs h = h
  counted_by w v same (k ∷ s) fs h = λ b there. h b (sym (same.bodies (k ∷ s)) ∙ there)

  module _ (w v : World) (same : IsSameInside root w v) (places : v.body (PLACES ∷ nester) ≡ w.body (PLACES ∷ nester))
      (targets : v.body (TARGETS ∷ nester) ≡ w.body (TARGETS ∷ nester)) where
    placed_same : (q : Path) → PlacedAt w q → PlacedAt v q
    placed_same q h = placed_by w v places q h

    counted_same : (q : Path) (fs : List ℕ) → CountedAt w q fs → CountedAt v q fs
    counted_same q fs h = counted_by w v same q fs h

    field_same : (q : Path) (n : ℕ) → FieldAt w q n → FieldAt v q n
    field_same q n its = record {
      k = its.k;
      s = its.s;
      path = its.path;
      body = its.body;
      there = same.bodies q
          ∙ its.there;
      counts = its.counts;
      to = its.to;
      field = its.field;
      some = its.some;
      ref = targets ∙ its.ref;
    }

    from_same : (from : ℕ) (at : Path) → FromIs w from at → FromIs v from at
    from_same from at (inl h) = inl h
    from_same from at (inr h) = inr (h.0, places ∙ h.1)

    position_same : (s : State) → Position w s → Position v s
    unfolding field_same
    position_same _ (AtDown from k ways j s t ts at p h inside way path) = AtDown from k ways j s t ts at p (from_same from at h) inside way path
    position_same _ (AtFields fs t ts h g) = AtFields fs t ts (placed_same t.path h) (counted_same t.path fs g)
    position_same _ (AtInside n fs t ts h g f) = AtInside n fs t ts (placed_same t.path h) (counted_same t.path fs g) (field_same t.path n f)
    position_same _ (AtBeside n fs t ts h g f out loose) = AtBeside n fs t ts (placed_same t.path h) (counted_same t.path fs g)
        (field_same t.path n f) out loose
    position_same _ (AtOver place) = AtOver place

  pub is_places : is_scratch nester (PLACES ∷ nester) ≡ true
  is_places = rw (same_path_refl nester) refl

  pub is_targets : is_scratch nester (TARGETS ∷ nester) ≡ true
  is_targets = rw (same_path_refl nester) refl

  pub is_steps : is_scratch nester (STEPS ∷ nester) ≡ true
  is_steps = rw (same_path_refl nester) refl

  -- what the others leave of it
  pub base_others : (w : World) (e : Event) → IsUsersMove nester w e → (after w e).next ≤ depth → Base w → Base (after w e)
  base_others w e moves few its =
      let kept = others_keep_hold nester slot w e its.holding moves in
      record {
        holding = kept.holding;
        inside = inside-then root start w (after w e) its.inside kept.inside;
        same = frozen_cut_stays w nester slot e.mover e.pick e.ask
            (record {
              valid = moves.valid;
              few = moves.few;
              fit = moves.fit;
              ready = moves.ready;
              frozen = held_frozen nester slot w e.mover its.holding moves.other;
            }) ∙ its.same;
        leads = λ q. others_keep_leads nester slot w e its.holding moves few q ∙ its.leads q;
        scratched = record {
          places = (its.scratched.places.0, kept.around.scratch PLACES is_places ∙ its.scratched.places.1);
          targets = (its.scratched.targets.0, kept.around.scratch TARGETS is_targets ∙ its.scratched.targets.1);
          steps = (its.scratched.steps.0, kept.around.scratch STEPS is_steps ∙ its.scratched.steps.1);
        };
      }

  pub others : (w : World) (e : Event) (s : State) (found : Option Place) → IsUsersMove nester w e → (after w e).next ≤ depth → Stands w s found
      → Stands (after w e) s found
  others w e s found moves few its =
      let kept = others_keep_hold nester slot w e its.base.holding moves in
      record {
        base = base_others w e moves few its.base;
        position = position_same w (after w e) kept.inside (kept.around.scratch PLACES is_places) (kept.around.scratch TARGETS is_targets) s its.position;
        tasks = its.tasks;
        end = its.end;
      }

  -- ---- it begins with an object

  begun : (w : World) (t : Task) (ts : List Task) → Base w → IsTask t → AllTasks ts → (q : Path) → t.path ≡ q → Stands w (begin_at slot q t ts) (rests (t ∷ ts))
  begun w t ts base its all [] e = record {
    base = base;
    position = AtFields t.fields t ts (subst (λ (q : Path). PlacedAt w q) (sym e) tt)
        (subst (λ (q : Path). CountedAt w q t.fields) (sym e) (ap (λ (t : Task). t.fields) its.is ∙ ap (λ (q : Path). (task_of c q).fields) e));
    tasks = (its, all);
    end = sym (ap (ends_with t ts) (whole t its.is));
  }
  begun w t ts base its all (j ∷ s) e = record {
    base = base;
    position = AtDown OWN_SPACE slot (way_from [] s) j s t ts nester [] (inl (refl, refl)) refl (follow-way root s []) e;
    tasks = (its, all);
    end = sym (ap (ends_with t ts) (whole t its.is));
  }

  pub begins : (w : World) (ts : List Task) → Base w → AllTasks ts → Stands w (begin slot ts) (rests ts)
  begins w [] base all = record { base = base; position = AtOver None; tasks = tt; end = refl }
  begins w (t ∷ ts) base all = begun w t ts base all.0 all.1 t.path refl

  -- ---- its own calls

  -- a scratch reference is led anew
  pub own_base : (w : World) (r : ℕ) (old to : Ptr) → (base : Base w) → IsValid w → IsValid (apply (Alter (r ∷ nester) (SetPointer to)) w) → w.next ≤ depth
      → is_scratch nester (r ∷ nester) ≡ true →
      w.body (r ∷ nester) ≡ Some (Reference old) → ((x : Path) → leads_to x to ≡ true → IsNear w root x) → Base (apply (Alter (r ∷ nester) (SetPointer to)) w)
  own_base w r old to base valid valid_after few is there near = record {
    holding = pointed_holding nester slot w r old to base.holding is there near;
    inside = inside-then root start w (apply (Alter (r ∷ nester) (SetPointer to)) w) base.inside
        (pointed_inside nester slot w r old to base.holding is there near);
    same = pointed_cut nester slot w r old to base.holding is there near ∙ base.same;
    leads = λ q. pointed_leads nester slot w r old to base.holding is there near valid valid_after few (q ++ root) ∙ base.leads q;
    scratched = record {
      places = ref_after PLACES base.scratched.places;
      targets = ref_after TARGETS base.scratched.targets;
      steps = ref_after STEPS base.scratched.steps;
    };
  }
    where
      ref_after : (k : ℕ) → (p : Ptr) × (w.body (k ∷ nester) ≡ Some (Reference p))
          → (p : Ptr) × ((apply (Alter (r ∷ nester) (SetPointer to)) w).body (k ∷ nester) ≡ Some (Reference p))
      ref_after k its = by (same_path (k ∷ nester) (r ∷ nester)) refl
        where
          by : (t : Bool) → same_path (k ∷ nester) (r ∷ nester) ≡ t
              → (p : Ptr) × ((apply (Alter (r ∷ nester) (SetPointer to)) w).body (k ∷ nester) ≡ Some (Reference p))
          by true e = (
            to,
            ap (apply (Alter (r ∷ nester) (SetPointer to)) w).body (same_path_eq (k ∷ nester) (r ∷ nester) e)
                ∙ own_body nester slot w r old to base.holding is there near,
          )
          by false e = (its.0, other_body nester slot w r old to base.holding is there near (k ∷ nester) e ∙ its.1)

  pub seen_body : (w : World) → Base w → (k : ℕ) (q : Path) (b : Body) → w.body ((k ∷ q) ++ root) ≡ Some b
      → c.body (k ∷ q) ≡ Some (seen_by (cutting (ports_of w nester slot) nester slot) b)
  unfolding cut
  seen_body w base k q b there = sym (ap (λ (c : World). c.body (k ∷ q)) base.same) ∙ (rw there refl)

  pub live_body : (w : World) → Base w → (k : ℕ) (q : Path) → IsSome (c.body (k ∷ q)) → (b : Body) × (w.body ((k ∷ q) ++ root) ≡ Some b)
  unfolding cut
  live_body w base k q live = by (w.body ((k ∷ q) ++ root)) refl
    where
      by : (o : Option Body) → w.body ((k ∷ q) ++ root) ≡ o → (b : Body) × (w.body ((k ∷ q) ++ root) ≡ Some b)
      by (Some b) e = (b, e)
      by None e =
          let none : c.body (k ∷ q) ≡ None = sym (ap (λ (c : World). c.body (k ∷ q)) base.same) ∙ (rw e refl) in
          let off : is_some (c.body (k ∷ q)) ≡ false = ap is_some none in
          let both = sym live ∙ off in cc

  pub whole_counted : (w : World) → Base w → (t : Task) → IsTask t → (q : Path) → t.path ≡ q → CountedAt w q t.fields
  whole_counted w base t its [] e = ap (λ (t : Task). t.fields) its.is ∙ ap (λ (q : Path). (task_of c q).fields) e
  whole_counted w base t its (j ∷ s) e = λ b there.
      let fields : t.fields ≡ fields_of (c.body (j ∷ s)) = ap (λ (t : Task). t.fields) its.is ∙ ap (λ (q : Path). (task_of c q).fields) e in
      let seen : fields_of (c.body (j ∷ s)) ≡ fields_of (Some b) = ap fields_of (seen_body w base j s b there)
      ∙ same_fields (ports_of w nester slot) nester slot b in
      subst (λ (fs : List ℕ). AllCounted b fs) (sym (fields ∙ seen)) (all_counted b)

  down_after : (v : World) (ways : List ℕ) (j : ℕ) (s : Path) (t : Task) (ts : List Task) (at p : Path) (found : Option Place) → Base v
      → v.body (PLACES ∷ nester) ≡ Some (Reference (At at)) → at ≡ p ++ root →
      follow at ways ≡ s ++ root → t.path ≡ j ∷ s → IsTask t → AllTasks ts → ends_with t ts (left t t.fields) ≡ found → Stands v (arrive ways t ts) found
  down_after v [] j s t ts at p found base ref inside way path its all end = record {
    base = base;
    position = AtFields t.fields t ts (subst (λ (q : Path). PlacedAt v q) (sym path) (ref ∙ ap (λ (y : Path). Some (Reference (At y))) way))
        (whole_counted v base t its t.path refl);
    tasks = (its, all);
    end = end;
  }
  down_after v (k ∷ ways) j s t ts at p found base ref inside way path its all end = record {
    base = base;
    position = AtDown PLACES k ways j s t ts at (k ∷ p) (inr (refl, ref)) (ap (λ (y : Path). k ∷ y) inside) way path;
    tasks = (its, all);
    end = end;
  }

  abbrev asking : Stage → List ℕ → Head (Option Place)
  asking stage words = Asks stage words

  asked : (stage other : Stage) (words given : List ℕ) → asking stage words ≡ Asks other given → (P : Stage → List ℕ → Type 0) → P stage words → P other given
  asked stage other words given e P p = let stages : stage ≡ other = cc in
      let same : words ≡ given = cc in subst (λ (ws : List ℕ). P other ws) same (subst (λ (st : Stage). P st words) stages p)

  module _ (w : World) (base : Base w) (valid : IsValid w) (few : w.next ≤ depth) where
    pub kind_up : (ways : List ℕ) (y z : Path) → follow y ways ≡ z → kind_there w z ≡ Some kinds.Space → kind_there w y ≡ Some kinds.Space
    kind_up [] y z e h = subst (λ (x : Path). kind_there w x ≡ Some kinds.Space) (sym e) h
    kind_up (k ∷ ways) y z e h = above_kind nester slot w base.holding valid k y (kind_up ways (k ∷ y) z e h)

    pub live_slot : (k : ℕ) (x : Path) → IsSome (w.body (k ∷ x)) → nat_le k LAST_PORTER_SLOT ≡ true
    live_slot k x live = let below = valid.rooted.slots k x live in le-leb k LAST_PORTER_SLOT (omega (arith, below))

    pub space_live : (x : Path) → kind_there w x ≡ Some kinds.Space → IsSome (w.body x)
    space_live x h = sym (live-kind w x) ∙ ap is_some h

    pub above : (j : ℕ) (s : Path) → IsSome (c.body (j ∷ s)) → kind_there w (s ++ root) ≡ Some kinds.Space
    above j s live = let its = live_body w base j s live in valid.consistent.parents j (s ++ root) (ap is_some its.1)

    pub free : (r : ℕ) (old : Ptr) → w.body (r ∷ nester) ≡ Some (Reference old) → is_frozen_for w me (r ∷ nester) ≡ false
    unfolding decider
    free r old there = rw (base.holding.above, there) refl

    pub from_named : (from : ℕ) (at : Path) → FromIs w from at → kind_there w at ≡ Some kinds.Space → space_argument w (porter nester no_words) from ≡ Ok at
    from_named from at (inl h) kind = subst (λ (s : ℕ). space_argument w (porter nester no_words) s ≡ Ok at) (sym h.0) (own-place nester no_words w
        ∙ ap Ok (sym h.1))
    from_named from at (inr h) kind = subst (λ (s : ℕ). space_argument w (porter nester no_words) s ≡ Ok at) (sym h.0)
        (ref_named nester no_words w PLACES at (omega arith) h.1 kind)

    pub places_named : (k : ℕ) (s : Path) → PlacedAt w (k ∷ s) → kind_there w (s ++ root) ≡ Some kinds.Space
        → space_argument w (porter nester no_words) PLACES ≡ Ok (s ++ root)
    places_named k s placed kind = ref_named nester no_words w PLACES (s ++ root) (omega arith) placed kind

    pub slot_named : space_argument w (porter nester no_words) slot ≡ Ok root
    slot_named = let low = base.holding.low in own_named nester no_words w slot (omega (arith, low)) (root_kind nester slot w base.holding valid)

    pub ref_read : (r : ℕ) (p : Ptr) → nat_le r LAST_PORTER_SLOT ≡ true → w.body (r ∷ nester) ≡ Some (Reference p)
        → object_in w (porter nester no_words) reference_of nester r ≡ Ok p
    ref_read r p fits there = object-there nester no_words w reference_of nester r (Reference p) p fits there refl

    -- ---- a field's verdict

    good_end : (n : ℕ) (fs : List ℕ) (t : Task) (ts : List Task) → is_bad t.strict (seen_at n (c.body t.path)) ≡ false
        → ends_with t ts (left t fs) ≡ ends_with t ts (left t (n ∷ fs))
    good_end n fs t ts h = rw h refl

    bad_end : (n : ℕ) (fs : List ℕ) (t : Task) (ts : List Task) → is_bad t.strict (seen_at n (c.body t.path)) ≡ true
        → Some (place_of slot t n) ≡ ends_with t ts (left t (n ∷ fs))
    bad_end n fs t ts h = rw h refl

    pub field_seen : (q : Path) (n : ℕ) (its : FieldAt w q n) → seen_at n (c.body q) ≡ cut_ptr (ports_of w nester slot) nester slot its.to
    field_seen q n its =
        let there : w.body ((its.k ∷ its.s) ++ root) ≡ Some its.body = subst (λ (q : Path). w.body (q ++ root) ≡ Some its.body) its.path its.there in
        let seen = seen_body w base its.k its.s its.body there in
        let known = counted (ports_of w nester slot) nester slot its.body n its.counts in
        let same : known.to ≡ its.to = let both = sym known.field ∙ its.field in cc in
        ap (λ (q : Path). seen_at n (c.body q)) its.path ∙ ap (seen_at n) seen ∙ known.seen ∙ ap (cut_ptr (ports_of w nester slot) nester slot) same

    -- ---- call by call

    pub valid_own : (stage : Stage) → is_fit w me (askings.Call stage no_words) ≡ true → IsValid (after w (call_of nester stage no_words))
    valid_own stage fit = step_keeps_valid_lem w me None (askings.Call stage no_words) valid few fit

    pub one_change : (stage : Stage) (reply : Reply) (change : Change) (status : ℕ) (words : List ℕ) → IsAnswered nester w stage no_words reply
        → call_row w (porter nester no_words) None stage ≡ Goes (change ∷ []) (Answered status words) →
        (after w (call_of nester stage no_words) ≡ apply change w) × ((reply.status ≡ status) × (reply.words ≡ words))
    one_change stage reply change status words answered row = changed_by nester w stage no_words reply answered change status words row

    pub no_change : (stage : Stage) (reply : Reply) (status : ℕ) (words : List ℕ) → IsAnswered nester w stage no_words reply
        → call_row w (porter nester no_words) None stage ≡ Goes [] (Answered status words) →
        (after w (call_of nester stage no_words) ≡ w) × ((reply.status ≡ status) × (reply.words ≡ words))
    no_change stage reply status words answered row = unchanged_by nester w stage no_words reply answered status words row

    own_down : (from k : ℕ) (ways : List ℕ) (j : ℕ) (s : Path) (t : Task) (ts : List Task) (at p : Path) (reply : Reply) (found : Option Place)
        → FromIs w from at → k ∷ at ≡ p ++ root →
        follow (k ∷ at) ways ≡ s ++ root → t.path ≡ j ∷ s → IsTask t → AllTasks ts → IsAnswered nester w (Point OWN_SPACE PLACES from k) no_words reply
        → ends_with t ts (left t t.fields) ≡ found →
        Stands (after w (call_of nester (Point OWN_SPACE PLACES from k) no_words)) (arrive ways t ts) found
    unfolding is_fit
    own_down from k ways j s t ts at p reply found h inside way path its all answered end =
        let live : IsSome (c.body (j ∷ s)) = subst (λ (q : Path). IsSome (c.body q)) path its.live in
        let kind = kind_up ways (k ∷ at) (s ++ root) way (above j s live) in
        let old = base.scratched.places in
        let row = point-row nester no_words w OWN_SPACE PLACES from k nester at old.0 (At (k ∷ at)) (own-place nester no_words w)
        (ref_read PLACES old.0 refl old.1)
        (from_named from at h (above_kind nester slot w base.holding valid k at kind))
        (space_pointer nester no_words w at k (live_slot k at (space_live (k ∷ at) kind)) kind) (free PLACES old.0 old.1) in
        let goes = one_change (Point OWN_SPACE PLACES from k) reply (Alter (PLACES ∷ nester) (SetPointer (At (k ∷ at)))) OK [] answered row in
        let near : (x : Path) → leads_to x (At (k ∷ at)) ≡ true → IsNear w root x = λ x led. inl (p, by x led inside) in
        let valid_after : IsValid (apply (Alter (PLACES ∷ nester) (SetPointer (At (k ∷ at)))) w) = subst IsValid goes.0
        (valid_own (Point OWN_SPACE PLACES from k) refl) in
        subst (λ (v : World). Stands v (arrive ways t ts) found) (sym goes.0)
        (down_after (apply (Alter (PLACES ∷ nester) (SetPointer (At (k ∷ at)))) w) ways j s t ts (k ∷ at) p found
        (own_base w PLACES old.0 (At (k ∷ at)) base valid valid_after few is_places old.1 near)
        (own_body nester slot w PLACES old.0 (At (k ∷ at)) base.holding is_places old.1 near) inside way path its all end)
      where
        by : (x : Path) → leads_to x (At (k ∷ at)) ≡ true → k ∷ at ≡ p ++ root → x ≡ p ++ root
        by x led e = sym (same_path_eq (k ∷ at) x led) ∙ e

    row_count : (q : Path) → PlacedAt w q → IsSome (c.body q)
        → call_row w (porter nester no_words) None (counting slot q) ≡ Goes [] (Answered OK (pointer_count w root nester (q ++ root) ∷ []))
    row_count [] placed live = count_space-row nester no_words w slot slot root root slot_named slot_named
    row_count (k ∷ s) placed live =
        let its = live_body w base k s live in
        let there : IsSome (w.body (k ∷ (s ++ root))) = ap is_some its.1 in
        let below = valid.rooted.slots k (s ++ root) there in
        count-row nester no_words w slot PLACES k root (s ++ root) its.0 (ne_eqb k OWN_SPACE (λ e. omega (arith, below, e))) slot_named
        (places_named k s placed (above k s live))
        (object-there nester no_words w anything (s ++ root) k its.0 its.0 (live_slot k (s ++ root) there) its.1 refl)

    zero_told : (n : ℕ) (b : Bool) → nat_lt 0 n ≡ b → (n == 0) ≡ not b
    zero_told n b h = rw (← h) (grind (arith, nat_tests))

    own_count : (t : Task) (ts : List Task) (reply : Reply) (found : Option Place) → PlacedAt w t.path → IsTask t → AllTasks ts
        → IsAnswered nester w (counting slot t.path) no_words reply → ends_with t ts (left t []) ≡ found →
        Stands (after w (call_of nester (counting slot t.path) no_words))
        (cond (is_zero reply.words) (begin slot ts) (Over (Some (place_of slot t led_to_from_outside)))) found
    own_count t ts reply found placed its all answered end =
        let goes = no_change (counting slot t.path) reply OK (pointer_count w root nester (t.path ++ root) ∷ []) answered (row_count t.path placed its.live) in
        let told : nat_lt 0 (pointer_count w root nester (t.path ++ root)) ≡ led t.path = counts_tell nester slot w base.holding.holder (t.path ++ root)
        ∙ base.leads t.path in
        subst (λ (v : World). Stands v (cond (is_zero reply.words) (begin slot ts) (Over (Some (place_of slot t led_to_from_outside)))) found) (sym goes.0)
        (by (led t.path) refl (is_zero reply.words) (ap is_zero goes.1.1 ∙ zero_told (pointer_count w root nester (t.path ++ root)) (led t.path) told))
      where
        by : (b : Bool) → led t.path ≡ b → (z : Bool) → z ≡ not (led t.path)
            → Stands w (cond z (begin slot ts) (Over (Some (place_of slot t led_to_from_outside)))) found
        by true e true h = let off : true ≡ not true = subst (λ (b : Bool). true ≡ not b) e h in cc
        by true e false h = record { base = base; position = AtOver (Some (place_of slot t led_to_from_outside)); tasks = tt; end = (rw e refl) ∙ end }
        by false e false h = let off : false ≡ not false = subst (λ (b : Bool). false ≡ not b) e h in cc
        by false e true h = let left_none : ends_with t ts (left t []) ≡ rests ts = rw e refl in
            subst (λ (f : Option Place). Stands w (begin slot ts) f) (sym left_none ∙ end) (begins w ts base all)

    -- a field is read into the targets

    bad_null : (strict : Bool) → is_bad strict Null ≡ false
    bad_null true = refl
    bad_null false = refl

    bad_dead : (strict : Bool) → is_bad strict Dead ≡ false
    bad_dead true = refl
    bad_dead false = refl

    own_read : (n : ℕ) (fs : List ℕ) (t : Task) (ts : List Task) (reply : Reply) (found : Option Place) (j : ℕ) (s : Path) → t.path ≡ j ∷ s
        → PlacedAt w (j ∷ s) → CountedAt w (j ∷ s) (n ∷ fs) → IsTask t → AllTasks ts →
        IsAnswered nester w (reading (j ∷ s) n) no_words reply → ends_with t ts (left t (n ∷ fs)) ≡ found →
        Stands (after w (call_of nester (reading (j ∷ s) n) no_words))
        (read (Fields fs t ts) (Inside n fs t ts) (Over (Some (place_of slot t n))) reply.words) found
    unfolding is_fit same_path
    own_read n fs t ts reply found j s path placed counts its all answered end =
        let live : IsSome (c.body (j ∷ s)) = subst (λ (q : Path). IsSome (c.body q)) path its.live in
        let body = live_body w base j s live in
        let here = counts body.0 body.1 in
        let known = counted (ports_of w nester slot) nester slot body.0 n here.0 in
        let old = base.scratched.targets in
        let there : IsSome (w.body (j ∷ (s ++ root))) = ap is_some body.1 in
        let row = get_ptr-row nester no_words w PLACES j n TARGETS (s ++ root) body.0 old.0 (Pointer known.to) (places_named j s placed (above j s live))
        (object-there nester no_words w anything (s ++ root) j body.0 body.0 (live_slot j (s ++ root) there) body.1 refl)
        (ref_read TARGETS old.0 refl old.1) known.field in
        let goes = one_change (GetPtr PLACES j n TARGETS) reply (Alter (TARGETS ∷ nester) (SetPointer known.to)) OK (field_number (Pointer known.to)
        ∷ []) answered row in
        let near : (x : Path) → leads_to x known.to ≡ true
        → IsNear w root x = λ x led. inr (
          j ∷ s,
          subst (λ (o : Option Body). list_any (leads_to x) (body_pointers o) ≡ true) (sym body.1) (known.near x led),
        ) in
        let v : World = apply (Alter (TARGETS ∷ nester) (SetPointer known.to)) w in
        let valid_after : IsValid v = subst IsValid goes.0 (valid_own (GetPtr PLACES j n TARGETS) refl) in
        let after_base : Base v = own_base w TARGETS old.0 known.to base valid valid_after few is_targets old.1 near in
        let inside : IsSameInside root w v = pointed_inside nester slot w TARGETS old.0 known.to base.holding is_targets old.1 near in
        let places : v.body (PLACES ∷ nester) ≡ w.body (PLACES ∷ nester) = other_body nester slot w TARGETS old.0 known.to base.holding is_targets old.1 near
        (PLACES ∷ nester) refl in
        let ref : v.body (TARGETS ∷ nester) ≡ Some (Reference known.to) = own_body nester slot w TARGETS old.0 known.to base.holding is_targets old.1 near in
        let placed_after : PlacedAt v t.path = subst (λ (q : Path). PlacedAt v q) (sym path) (placed_by w v places (j ∷ s) placed) in
        let counted_after : CountedAt v t.path fs = subst (λ (q : Path). CountedAt v q fs) (sym path)
        (counted_by w v inside (j ∷ s) fs (λ b e. (counts b e).1)) in
        let seen : seen_at n (c.body t.path) ≡ cut_ptr (ports_of w nester slot) nester slot known.to = ap (λ (q : Path). seen_at n (c.body q)) path
        ∙ ap (seen_at n) (seen_body w base j s body.0 body.1) ∙ known.seen in
        let there_after : v.body (t.path ++ root) ≡ Some body.0 = ap (λ (q : Path). v.body (q ++ root)) path ∙ inside.bodies (j ∷ s) ∙ body.1 in
        subst (λ (u : World). Stands u (read (Fields fs t ts) (Inside n fs t ts) (Over (Some (place_of slot t n))) reply.words) found) (sym goes.0)
        (subst (λ (ws : List ℕ). Stands v (read (Fields fs t ts) (Inside n fs t ts) (Over (Some (place_of slot t n))) ws) found) (sym goes.1.1)
        (by v known.to after_base placed_after counted_after seen
        (λ some. record {
          k = j;
          s = s;
          path = path;
          body = body.0;
          there = there_after;
          counts = here.0;
          to = known.to;
          field = known.field;
          some = some;
          ref = ref;
        })))
      where
        nowhere : (v : World) → Base v → PlacedAt v t.path → CountedAt v t.path fs → is_bad t.strict (seen_at n (c.body t.path)) ≡ false
            → Stands v (Fields fs t ts) found
        nowhere v base_v placed_v counted_v h = record {
          base = base_v;
          position = AtFields fs t ts placed_v counted_v;
          tasks = (its, all);
          end = good_end n fs t ts h ∙ end;
        }

        somewhere : (v : World) → Base v → PlacedAt v t.path → CountedAt v t.path fs → FieldAt v t.path n → Stands v (Inside n fs t ts) found
        somewhere v base_v placed_v counted_v field = record {
          base = base_v;
          position = AtInside n fs t ts placed_v counted_v field;
          tasks = (its, all);
          end = end;
        }

        by : (v : World) (to : Ptr) → Base v → PlacedAt v t.path → CountedAt v t.path fs
            → seen_at n (c.body t.path) ≡ cut_ptr (ports_of w nester slot) nester slot to → (field_number (Pointer to) ≡ 2 → FieldAt v t.path n) →
            Stands v (read (Fields fs t ts) (Inside n fs t ts) (Over (Some (place_of slot t n))) (field_number (Pointer to) ∷ [])) found
        by v Null base_v placed_v counted_v seen field = nowhere v base_v placed_v counted_v (ap (is_bad t.strict) seen ∙ bad_null t.strict)
        by v Dead base_v placed_v counted_v seen field = nowhere v base_v placed_v counted_v (ap (is_bad t.strict) seen ∙ bad_dead t.strict)
        by v (At x) base_v placed_v counted_v seen field = somewhere v base_v placed_v counted_v (field refl)
        by v (Out i) base_v placed_v counted_v seen field = somewhere v base_v placed_v counted_v (field refl)
        by v Far base_v placed_v counted_v seen field = somewhere v base_v placed_v counted_v (field refl)
        by v Outside base_v placed_v counted_v seen field = record {
          base = base_v;
          position = AtOver (Some (place_of slot t n));
          tasks = tt;
          end = bad_end n fs t ts (ap (is_bad t.strict) seen) ∙ end;
        }

    -- what the field leads to is located from the root, and from the nester

    some_target : (to : Ptr) → field_number (Pointer to) ≡ 2 → target_of to ≡ Ok to
    some_target (At x) h = refl
    some_target (Out i) h = refl
    some_target Far h = refl
    some_target Null h = cc
    some_target Dead h = cc
    some_target Outside h = cc

    pub found_row : (top : Path) (to : Ptr) (s : ℕ) → w.body (TARGETS ∷ nester) ≡ Some (Reference to) → field_number (Pointer to) ≡ 2
        → space_argument w (porter nester no_words) s ≡ Ok top →
        call_row w (porter nester no_words) None (Locate TARGETS s) ≡ located_as nester no_words w top (Ok to)
    found_row top to s ref some named = locate-row nester no_words w TARGETS s top to (ref_read TARGETS to refl ref) named
        ∙ ap (located_as nester no_words w top) (some_target to some)

    own_inside : (n : ℕ) (fs : List ℕ) (t : Task) (ts : List Task) (reply : Reply) (found : Option Place) → PlacedAt w t.path → CountedAt w t.path fs
        → FieldAt w t.path n → IsTask t → AllTasks ts →
        IsAnswered nester w (Locate TARGETS slot) no_words reply → ends_with t ts (left t (n ∷ fs)) ≡ found →
        Stands (after w (call_of nester (Locate TARGETS slot) no_words)) (next slot (Inside n fs t ts) reply.status reply.words) found
    own_inside n fs t ts reply found placed counts field its all answered end = by (way_to root field.to) refl
        (found_row root field.to slot field.ref field.some slot_named)
      where
        by_strict : (b : Bool) → t.strict ≡ b → is_some (way_to root field.to) ≡ false
            → Stands w (cond b (Over (Some (place_of slot t n))) (Beside n fs t ts)) found
        by_strict true e out = record {
          base = base;
          position = AtOver (Some (place_of slot t n));
          tasks = tt;
          end = bad_end n fs t ts (ap (λ b. is_bad b (seen_at n (c.body t.path))) e ∙ ap (is_bad true) (field_seen t.path n field)
              ∙ told_outside nester slot w base.holding valid field.to field.some out) ∙ end;
        }
        by_strict false e out = record { base = base; position = AtBeside n fs t ts placed counts field out e; tasks = (its, all); end = end }

        by : (o : Option (List ℕ)) → way_to root field.to ≡ o → call_row w (porter nester no_words) None (Locate TARGETS slot) ≡ elim o [
          | None ↦ Goes [] (Answered NONE [])
          | Some way ↦ Goes [] (Answered OK (way ++ kind_number (kind_at w field.to) ∷ []))
        ] → Stands (after w (call_of nester (Locate TARGETS slot) no_words)) (next slot (Inside n fs t ts) reply.status reply.words) found
        by None e row =
            let goes = no_change (Locate TARGETS slot) reply NONE [] answered row in
            subst (λ (v : World). Stands v (next slot (Inside n fs t ts) reply.status reply.words) found) (sym goes.0)
            (subst (λ (status : ℕ). Stands w (next slot (Inside n fs t ts) status reply.words) found) (sym goes.1.0) (by_strict t.strict refl (ap is_some e)))
        by (Some way) e row =
            let goes = no_change (Locate TARGETS slot) reply OK (way ++ kind_number (kind_at w field.to) ∷ []) answered row in
            subst (λ (v : World). Stands v (next slot (Inside n fs t ts) reply.status reply.words) found) (sym goes.0)
            (subst (λ (status : ℕ). Stands w (next slot (Inside n fs t ts) status reply.words) found) (sym goes.1.0)
            (record {
              base = base;
              position = AtFields fs t ts placed counts;
              tasks = (its, all);
              end = good_end n fs t ts (ap (is_bad t.strict) (field_seen t.path n field)
                  ∙ told_inside nester slot w base.holding valid field.to (ap is_some e) t.strict) ∙ end;
            }))

    own_beside : (n : ℕ) (fs : List ℕ) (t : Task) (ts : List Task) (reply : Reply) (found : Option Place) → PlacedAt w t.path → CountedAt w t.path fs
        → (field : FieldAt w t.path n) → is_some (way_to root field.to) ≡ false → t.strict ≡ false →
        IsTask t → AllTasks ts → IsAnswered nester w (Locate TARGETS OWN_SPACE) no_words reply → ends_with t ts (left t (n ∷ fs)) ≡ found →
        Stands (after w (call_of nester (Locate TARGETS OWN_SPACE) no_words)) (next slot (Beside n fs t ts) reply.status reply.words) found
    own_beside n fs t ts reply found placed counts field out loose its all answered end = by (way_to nester field.to) refl
        (found_row nester field.to OWN_SPACE field.ref field.some (own-place nester no_words w))
      where
        told_by : Option (List ℕ) → Bool
        told_by None = false
        told_by (Some way) = tells_port (way ++ kind_number (kind_at w field.to) ∷ [])

        bad_is : (b : Bool) → b ≡ not (is_bad false (cut_ptr (ports_of w nester slot) nester slot field.to))
            → is_bad t.strict (seen_at n (c.body t.path)) ≡ not b
        bad_is b h = ap (λ s. is_bad s (seen_at n (c.body t.path))) loose ∙ ap (is_bad false) (field_seen t.path n field)
            ∙ turned (is_bad false (cut_ptr (ports_of w nester slot) nester slot field.to)) b h
          where
            turned : (a b : Bool) → b ≡ not a → a ≡ not b
            turned true b h = ap not (sym h)
            turned false b h = ap not (sym h)

        ended : (b : Bool) → b ≡ not (is_bad false (cut_ptr (ports_of w nester slot) nester slot field.to))
            → Stands w (cond b (Fields fs t ts) (Over (Some (place_of slot t n)))) found
        ended true h = record { base = base; position = AtFields fs t ts placed counts; tasks = (its, all); end = good_end n fs t ts (bad_is true h) ∙ end }
        ended false h = record { base = base; position = AtOver (Some (place_of slot t n)); tasks = tt; end = bad_end n fs t ts (bad_is false h) ∙ end }

        by : (o : Option (List ℕ)) → way_to nester field.to ≡ o → call_row w (porter nester no_words) None (Locate TARGETS OWN_SPACE) ≡ elim o [
          | None ↦ Goes [] (Answered NONE [])
          | Some way ↦ Goes [] (Answered OK (way ++ kind_number (kind_at w field.to) ∷ []))
        ] → Stands (after w (call_of nester (Locate TARGETS OWN_SPACE) no_words)) (next slot (Beside n fs t ts) reply.status reply.words) found
        by None e row =
            let goes = no_change (Locate TARGETS OWN_SPACE) reply NONE [] answered row in
            let told = told_beside nester slot w base.holding valid field.to field.some out in
            subst (λ (v : World). Stands v (next slot (Beside n fs t ts) reply.status reply.words) found) (sym goes.0)
            (subst (λ (status : ℕ). Stands w (next slot (Beside n fs t ts) status reply.words) found) (sym goes.1.0)
            (ended false (sym (ap (λ (o : Option (List ℕ)). told_by o) e) ∙ told)))
        by (Some way) e row =
            let goes = no_change (Locate TARGETS OWN_SPACE) reply OK (way ++ kind_number (kind_at w field.to) ∷ []) answered row in
            let told = told_beside nester slot w base.holding valid field.to field.some out in
            subst (λ (v : World). Stands v (next slot (Beside n fs t ts) reply.status reply.words) found) (sym goes.0)
            (subst (λ (status : ℕ). Stands w (next slot (Beside n fs t ts) status reply.words) found) (sym goes.1.0)
            (subst (λ (ws : List ℕ). Stands w (next slot (Beside n fs t ts) OK ws) found) (sym goes.1.1)
            (ended (tells_port (way ++ kind_number (kind_at w field.to) ∷ [])) (sym (ap (λ (o : Option (List ℕ)). told_by o) e) ∙ told))))

    -- ---- each call comes to something

    comes_located : (top : Path) (to : Ptr) (s : ℕ) → call_row w (porter nester no_words) None (Locate TARGETS s) ≡ located_as nester no_words w top (Ok to)
        → Comes nester w (Locate TARGETS s)
    comes_located top to s row = by (way_to top to) row
      where
        by : (o : Option (List ℕ)) → call_row w (porter nester no_words) None (Locate TARGETS s) ≡ elim o [
          | None ↦ Goes [] (Answered NONE [])
          | Some way ↦ Goes [] (Answered OK (way ++ kind_number (kind_at w to) ∷ []))
        ] → Comes nester w (Locate TARGETS s)
        by None h = record { changes = []; status = NONE; given = []; row = h; mild = Changes_nothing }
        by (Some way) h = record { changes = []; status = OK; given = way ++ kind_number (kind_at w to) ∷ []; row = h; mild = Changes_nothing }

    comes_down : (from k : ℕ) (ways : List ℕ) (j : ℕ) (s : Path) (t : Task) (at : Path) → FromIs w from at → follow (k ∷ at) ways ≡ s ++ root → t.path ≡ j ∷ s
        → IsTask t → Comes nester w (Point OWN_SPACE PLACES from k)
    comes_down from k ways j s t at h way path its =
        let live : IsSome (c.body (j ∷ s)) = subst (λ (q : Path). IsSome (c.body q)) path its.live in
        let kind = kind_up ways (k ∷ at) (s ++ root) way (above j s live) in
        let old = base.scratched.places in
        record {
          changes = _;
          status = OK;
          given = [];
          mild = Leads PLACES old.0 (At (k ∷ at)) Places old.1;
          row = point-row nester no_words w OWN_SPACE PLACES from k nester at old.0 (At (k ∷ at)) (own-place nester no_words w)
              (ref_read PLACES old.0 refl old.1)
              (from_named from at h (above_kind nester slot w base.holding valid k at kind))
              (space_pointer nester no_words w at k (live_slot k at (space_live (k ∷ at) kind)) kind) (free PLACES old.0 old.1);
        }

    comes_read : (n : ℕ) (fs : List ℕ) (t : Task) (q : Path) → t.path ≡ q → PlacedAt w q → CountedAt w q (n ∷ fs) → IsTask t → Comes nester w (reading q n)
    comes_read n fs t [] path placed counts its = cc
    comes_read n fs t (j ∷ s) path placed counts its =
        let live : IsSome (c.body (j ∷ s)) = subst (λ (q : Path). IsSome (c.body q)) path its.live in
        let body = live_body w base j s live in
        let known = counted (ports_of w nester slot) nester slot body.0 n (counts body.0 body.1).0 in
        let old = base.scratched.targets in
        let there : IsSome (w.body (j ∷ (s ++ root))) = ap is_some body.1 in
        record {
          changes = _;
          status = OK;
          given = field_number (Pointer known.to) ∷ [];
          mild = Leads TARGETS old.0 known.to Targets old.1;
          row = get_ptr-row nester no_words w PLACES j n TARGETS (s ++ root) body.0 old.0 (Pointer known.to) (places_named j s placed (above j s live))
              (object-there nester no_words w anything (s ++ root) j body.0 body.0 (live_slot j (s ++ root) there) body.1 refl)
              (ref_read TARGETS old.0 refl old.1) known.field;
        }

    pub comes_next : (s : State) (stage : Stage) (words : List ℕ) → Position w s → tasks_of s → head slot s ≡ Asks stage words → ComesWith nester w stage words
    comes_next _ stage words (AtDown from k ways j s t ts at p h inside way path) tasks asks =
        asked (Point OWN_SPACE PLACES from k) stage no_words words asks (λ st ws. ComesWith nester w st ws)
        (refl, (comes_down from k ways j s t at h way path tasks.0))
    comes_next _ stage words (AtFields [] t ts placed counts) tasks asks =
        asked (counting slot t.path) stage no_words words asks (λ st ws. ComesWith nester w st ws)
        (refl, (record { changes = []; status = OK; given = _; row = row_count t.path placed tasks.0.live; mild = Changes_nothing }))
    comes_next _ stage words (AtFields (n ∷ fs) t ts placed counts) tasks asks =
        asked (reading t.path n) stage no_words words asks (λ st ws. ComesWith nester w st ws) (refl, (comes_read n fs t t.path refl placed counts tasks.0))
    comes_next _ stage words (AtInside n fs t ts placed counts field) tasks asks =
        asked (Locate TARGETS slot) stage no_words words asks (λ st ws. ComesWith nester w st ws)
        (refl, (comes_located root field.to slot (found_row root field.to slot field.ref field.some slot_named)))
    comes_next _ stage words (AtBeside n fs t ts placed counts field out loose) tasks asks =
        asked (Locate TARGETS OWN_SPACE) stage no_words words asks (λ st ws. ComesWith nester w st ws)
        (refl, (comes_located nester field.to OWN_SPACE (found_row nester field.to OWN_SPACE field.ref field.some (own-place nester no_words w))))
    comes_next _ stage words (AtOver place) tasks asks = cc

  -- ---- the whole

  pub own : (w : World) (s : State) (stage : Stage) (words : List ℕ) (reply : Reply) (found : Option Place) → Stands w s found
      → head slot s ≡ Asks stage words → IsAnswered nester w stage words reply →
      Stands (after w (call_of nester stage words)) (next slot s reply.status reply.words) found
  own w s stage words reply found its asks answered = by s its.position its.tasks its.end asks answered
    where
      Goal : State → Stage → List ℕ → Type 0
      Goal s st ws = IsAnswered nester w st ws reply → Stands (after w (call_of nester st ws)) (next slot s reply.status reply.words) found

      reads : (n : ℕ) (fs : List ℕ) (t : Task) (ts : List Task) (q : Path) → t.path ≡ q → PlacedAt w q → CountedAt w q (n ∷ fs) → IsTask t → AllTasks ts
          → ends_with t ts (left t (n ∷ fs)) ≡ found → Goal (Fields (n ∷ fs) t ts) (reading q n) no_words
      reads n fs t ts [] e placed counts one all end = cc
      reads n fs t ts (j ∷ s) e placed counts one all end = λ mine.
          own_read w its.base mine.valid mine.few n fs t ts reply found j s e placed counts one all mine end

      by : (s : State) → Position w s → tasks_of s → ends s ≡ found → head slot s ≡ Asks stage words → Goal s stage words
      by _ (AtDown from k ways j s t ts at p h inside way path) tasks end asks =
          asked (Point OWN_SPACE PLACES from k) stage no_words words asks (Goal (Down from (k ∷ ways) t ts))
          (λ mine. own_down w its.base mine.valid mine.few from k ways j s t ts at p reply found h inside way path tasks.0 tasks.1 mine end)
      by _ (AtFields [] t ts placed counts) tasks end asks =
          asked (counting slot t.path) stage no_words words asks (Goal (Fields [] t ts))
          (λ mine. own_count w its.base mine.valid mine.few t ts reply found placed tasks.0 tasks.1 mine end)
      by _ (AtFields (n ∷ fs) t ts placed counts) tasks end asks =
          asked (reading t.path n) stage no_words words asks (Goal (Fields (n ∷ fs) t ts)) (reads n fs t ts t.path refl placed counts tasks.0 tasks.1 end)
      by _ (AtInside n fs t ts placed counts field) tasks end asks =
          asked (Locate TARGETS slot) stage no_words words asks (Goal (Inside n fs t ts))
          (λ mine. own_inside w its.base mine.valid mine.few n fs t ts reply found placed counts field tasks.0 tasks.1 mine end)
      by _ (AtBeside n fs t ts placed counts field out loose) tasks end asks =
          asked (Locate TARGETS OWN_SPACE) stage no_words words asks (Goal (Beside n fs t ts))
          (λ mine. own_beside w its.base mine.valid mine.few n fs t ts reply found placed counts field out loose tasks.0 tasks.1 mine end)
      by _ (AtOver place) tasks end asks = cc

  pub arrives : (w v : World) (s t : State) (es : List Event) (found : Option Place) → Stands w s found → Interleaved (seeker slot) nester w s es v t
      → Stands v t found
  arrives _ _ _ _ _ found its (Here w s sound) = its
  arrives _ v _ t _ found its (Another w s e es _ _ sound works moves rest) = arrives (after w e) v s t es found
      (others w e s found moves (first_sound (seeker slot) nester (after w e) s es v t rest).whole.few its) rest
  arrives _ v _ t _ found its (Own w s stage words es _ _ sound asks ready rest) =
      arrives (after w (call_of nester stage words)) v (heard (seeker slot) s (said_of w (call_of nester stage words))) t es found
      (own w s stage words (reply_of (said_of w (call_of nester stage words))) found its asks
      (record { valid = sound.whole.valid; few = sound.whole.few; ready = ready; said = refl })) rest

  pub finds : (w : World) (s : State) (end found : Option Place) → Stands w s found → head slot s ≡ Stops end → end ≡ found
  finds w s end found its stops = by s its.position its.end stops
    where
      by : (s : State) → Position w s → ends s ≡ found → head slot s ≡ Stops end → end ≡ found
      by _ (AtDown from k ways j s t ts at p h inside way path) e stops = cc
      by _ (AtFields [] t ts placed counts) e stops = cc
      by _ (AtFields (n ∷ fs) t ts placed counts) e stops = cc
      by _ (AtInside n fs t ts placed counts field) e stops = cc
      by _ (AtBeside n fs t ts placed counts field out loose) e stops = cc
      by _ (AtOver place) e stops = let same : place ≡ end = cc in sym same ∙ e
