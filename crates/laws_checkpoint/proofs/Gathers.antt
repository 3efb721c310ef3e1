-- A gatherer has the pointers that the cut shows.
use Rattle.std.proofs.Common.{◌≡◌, ℕ, ◌≤◌, true, false, cond, ◌==◌, IsSome, is_some, List, [], ◌∷◌, ◌++◌, Option, Some, None, option_map, Ok, refl}
use Rattle.std.proofs.Common.{sym, ap, subst, arith, length, ◌∙◌, inl, inr}
use Rattle.std.specs.List.{list_any}
use Rattle.std.proofs.lemmas.Bool.{ne_eqb}
use Rattle.fk_model.specs.declared.limits.TheConstants.{OWN_SPACE, LAST_PORTER_SLOT}
use Rattle.fk_model.specs.declared.names.Kind.TheVariants as kinds
use Rattle.fk_model.specs.declared.stage.Stage.{Stage}
use Rattle.fk_model.specs.declared.stage.Stage.TheVariants.{Point, GetPtr, Locate}
use Rattle.fk_model.specs.declared.statuses.status.TheConstants.{OK, NONE}
use Rattle.fk_model.specs.Places.{Path, same_path, strip, Ptr, leads_to}
use Rattle.fk_model.specs.Places.Ptr.{Null, Dead, At, Out, Outside, Far}
use Rattle.fk_model.specs.Objects.{Body}
use Rattle.fk_model.specs.Objects.Body.{Reference}
use Rattle.fk_model.specs.World.{World, apply}
use Rattle.fk_model.specs.World.Change.{Alter}
use Rattle.fk_model.specs.World.Edit.{SetPointer}
use Rattle.fk_model.specs.Searches.{beneath, depth}
use Rattle.fk_model.specs.Freezing.{body_pointers}
use Rattle.fk_model.specs.Outcomes.Outcome.{Goes}
use Rattle.fk_model.specs.Outcomes.Said.{Answered}
use Rattle.fk_model.specs.Readers.{anything, space_argument, kind_at}
use Rattle.fk_model.specs.StateRows.{field_number}
use Rattle.fk_model.specs.StateRows.Field.{Pointer}
use Rattle.fk_model.specs.ObjectRows.{outermost, way_down, is_scratch, way_to, kind_number}
use Rattle.fk_model.specs.Moves.{call_row}
use Rattle.fk_model.specs.Runs.{Event, after}
use Rattle.fk_model.specs.Valid.{IsValid, is_fit, kind_there}
use Rattle.fk_model.specs.Closed.{far_field}
use Rattle.fk_model.specs.Cut.{cut, cut_ptr, ports_of}
use Rattle.fk_model.proofs.walks.PlaceLaws.{strip-append, strip_some, same_path_refl, same_path_eq}
use Rattle.fk_model.proofs.walks.Members.{IsIn}
use Rattle.laws_moves.specs.Frozen.Frozen.{IsSameInside}
use Rattle.laws_moves.specs.Frozen.Holding.{IsUsersMove, IsNear}
use Rattle.laws_moves.proofs.InFrozen.Holding.{others_keep_hold}
use Rattle.laws_jobs.specs.Machines.Head.{Stops, Asks}
use Rattle.laws_jobs.specs.Machines.Interleaved.{Here, Another, Own}
use Rattle.laws_checkpoint.specs.Gather.State.{Down, Fields, Looks, Leads, Beside, Over}
use Rattle.laws_jobs.proofs.Own.{other_body, own_body, pointed_inside}
use Rattle.laws_jobs.specs.Machines.{Head, Reply, reply_of, heard, said_of, porter, no_words, call_of, IsAnswered, Interleaved}
use Rattle.laws_jobs.proofs.Rows.{own-place, object-there, point-row, get_ptr-row, located_as, space_pointer, ref_named}
use Rattle.laws_jobs.proofs.Weaving.{first_sound}
use Rattle.laws_moves.proofs.InFrozen.FrozenCut.{ptr_alike}
use Rattle.laws_checkpoint.specs.Foreign.{PLACES, TARGETS, STEPS, Task, way_from, reading, told_pointer, located_at}
use Rattle.laws_checkpoint.specs.Gather.{place_at, pointer_fields, pointer_task, field_as, body_as, shown_at, State, begin_at, begin, go_on, arrive, head}
use Rattle.laws_checkpoint.specs.Gather.{takes, read, looked, next, gatherer, pointers_of, all_pointers}
use Rattle.laws_checkpoint.proofs.Mild.{Comes, ComesWith}
use Rattle.laws_checkpoint.proofs.Mild.IsMild.{Changes_nothing, Leads as Leads_anew}
use Rattle.laws_checkpoint.proofs.Mild.IsOwnSlot.{Places as Own_places, Targets as Own_targets, Steps as Own_steps}
use Rattle.laws_checkpoint.proofs.Tells.{root_kind, above_kind, pointer_told}
use Rattle.laws_checkpoint.proofs.Ways.{follow, follow-way, split, joined}
use Rattle.laws_checkpoint.proofs.Seeks.{FromIs, PlacedAt, Base, base_others, placed_by, own_base, seen_body}
use Rattle.laws_checkpoint.proofs.Seeks.{live_body, kind_up, live_slot, space_live, above, free, from_named, places_named, slot_named, ref_read, valid_own}
use Rattle.laws_checkpoint.proofs.Seeks.{one_change, no_change, found_row}
use Rattle.fk_model.specs.StateRows.{Field, field_of, field_pointer}
use Rattle.fk_model.specs.StateRows.Field.{NoThread}
use Rattle.fk_model.specs.Searches.{pointers}
use Rattle.fk_model.proofs.walks.Members.{any_in}
use Rattle.laws_checkpoint.proofs.Pointing.{two_long, no_more, pushed, live_target, above_live, AllPointing, all_pointing, pointed}
use Rattle.laws_checkpoint.proofs.Pointing.{same_to, same_pointers}

module _ (nester : Path) (slot : ℕ) (start : World) (near : far_field ((cut start nester slot).body []) ≡ None) where
  abbrev root : Path
  root = slot ∷ nester

  abbrev me : Path
  me = LAST_PORTER_SLOT ∷ nester

  abbrev c : World
  c = cut start nester slot

  abbrev show : Path → ℕ → Ptr
  show = shown_at start nester slot

  pub record Task_ok (t : Task) : Type 0 where
    pub is : t ≡ pointer_task c t.path
    pub live : IsSome (c.body t.path)

  abbrev pub Tasks_ok : List Task → Type 0
  Tasks_ok [] = Unit {0}
  Tasks_ok (t ∷ ts) = Task_ok t × Tasks_ok ts

  pub record Field_at (w : World) (q : Path) (n : ℕ) : Type 0 where
    pub k : ℕ
    pub s : Path
    pub path : q ≡ k ∷ s
    pub body : Body
    pub there : w.body (q ++ root) ≡ Some body
    pub to : Ptr
    pub field : field_of n body ≡ Some (Pointer to)
    pub some : field_number (Pointer to) ≡ 2
    pub among : IsIn to (pointers body)
    pub ref : w.body (TARGETS ∷ nester) ≡ Some (Reference to)

  abbrev pub Placed : World → Path → Type 0
  Placed w q = PlacedAt nester slot start near w q

  abbrev pub CountedFor : World → Path → List ℕ → Type 0
  CountedFor w [] fs = fs ≡ []
  CountedFor w (k ∷ s) fs = (b : Body) → w.body ((k ∷ s) ++ root) ≡ Some b → AllPointing b fs

  counted_moved : (w v : World) → IsSameInside root w v → (q : Path) (fs : List ℕ) → CountedFor w q fs → CountedFor v q fs
  counted_moved w v same [] fs h = h
  counted_moved w v same (k ∷ s) fs h = λ b there. h b (sym (same.bodies (k ∷ s)) ∙ there)

  whole_pointing : (w : World) → Base nester slot start near w → (t : Task) → Task_ok t → (q : Path) → t.path ≡ q → CountedFor w q t.fields
  whole_pointing w base t its [] e = ap (λ (t : Task). t.fields) its.is ∙ ap (λ (q : Path). (pointer_task c q).fields) e
  whole_pointing w base t its (j ∷ s) e = λ b there.
      let fields : t.fields ≡ pointer_fields (c.body (j ∷ s)) = ap (λ (t : Task). t.fields) its.is ∙ ap (λ (q : Path). (pointer_task c q).fields) e in
      let seen : pointer_fields (c.body (j ∷ s)) ≡ pointer_fields (Some b) = ap pointer_fields (seen_body nester slot start near w base j s b there)
      ∙ same_pointers (ports_of w nester slot) nester slot b in
      subst (λ (fs : List ℕ). AllPointing b fs) (sym (fields ∙ seen)) (all_pointing b)

  -- what a field shows, in the world at the hold, is what it shows now
  shows : (w : World) → Base nester slot start near w → (q : Path) (b : Body) (n : ℕ) (field : Field) → w.body (q ++ root) ≡ Some b
      → field_of n b ≡ Some field →
      ((to : Ptr) → field ≡ Pointer to → field_number (Pointer to) ≡ 2 → IsIn to (pointers b))
      → show q n ≡ field_as (cut_ptr (ports_of w nester slot) nester slot) (Some field)
  unfolding shown_at
  shows w base q b n field there is among =
      let before : start.body (q ++ root) ≡ Some b = sym (base.inside.bodies q) ∙ there in
      ap (body_as (cut_ptr (ports_of start nester slot) nester slot) n) before
      ∙ (ap (field_as (cut_ptr (ports_of start nester slot) nester slot)) is ∙ by field among before)
    where
      ptr : (p : Ptr) → ((to : Ptr) → Pointer p ≡ Pointer to → field_number (Pointer to) ≡ 2 → IsIn to (pointers b)) → start.body (q ++ root) ≡ Some b →
          cut_ptr (ports_of start nester slot) nester slot p ≡ cut_ptr (ports_of w nester slot) nester slot p
      ptr (At x) among before = sym (ptr_alike start w nester slot base.inside q b before (At x) (among (At x) refl refl))
      ptr Null among before = refl
      ptr Dead among before = refl
      ptr (Out i) among before = refl
      ptr Outside among before = refl
      ptr Far among before = refl

      by : (field : Field) → ((to : Ptr) → field ≡ Pointer to → field_number (Pointer to) ≡ 2 → IsIn to (pointers b)) → start.body (q ++ root) ≡ Some b →
          field_as (cut_ptr (ports_of start nester slot) nester slot) (Some field) ≡ field_as (cut_ptr (ports_of w nester slot) nester slot) (Some field)
      by (Pointer p) among before = ptr p among before
      by NoThread among before = refl

  abbrev pub ends : State → List Ptr
  ends (Down from ways t ts got) = got ++ (pointers_of show t t.fields ++ all_pointers show ts)
  ends (Fields n fs t ts got) = got ++ (pointers_of show t (n ∷ fs) ++ all_pointers show ts)
  ends (Looks at n fs t ts got) = got ++ (pointers_of show t (n ∷ fs) ++ all_pointers show ts)
  ends (Leads k at n fs t ts got) = got ++ (pointers_of show t (n ∷ fs) ++ all_pointers show ts)
  ends (Beside n fs t ts got) = got ++ (pointers_of show t (n ∷ fs) ++ all_pointers show ts)
  ends (Over got) = got

  abbrev pub tasks_of : State → Type 0
  tasks_of (Down from ways t ts got) = Task_ok t × Tasks_ok ts
  tasks_of (Fields n fs t ts got) = Task_ok t × Tasks_ok ts
  tasks_of (Looks at n fs t ts got) = Task_ok t × Tasks_ok ts
  tasks_of (Leads k at n fs t ts got) = Task_ok t × Tasks_ok ts
  tasks_of (Beside n fs t ts got) = Task_ok t × Tasks_ok ts
  tasks_of (Over got) = Unit {0}

  abbrev pub StepsAt : World → Path → Type 0
  StepsAt w [] = Unit {0}
  StepsAt w (k ∷ p) = w.body (STEPS ∷ nester) ≡ Some (Reference (At ((k ∷ p) ++ root)))

  pub record Beneath (at : Path) (to : Ptr) : Type 0 where
    pub j : ℕ
    pub q : Path
    pub is : to ≡ At ((j ∷ q) ++ (at ++ root))

  abbrev pub MayBeneath : Path → Ptr → Type 0
  MayBeneath [] to = Unit {0}
  MayBeneath (k ∷ p) to = Beneath (k ∷ p) to

  pub data Position (w : World) : State → Type 0 where
    AtDown : (from k : ℕ) (ways : List ℕ) (j : ℕ) (s : Path) (t : Task) (ts : List Task) (got : List Ptr) (at p : Path)
        → FromIs nester slot start near w from at → k ∷ at ≡ p ++ root → follow (k ∷ at) ways ≡ s ++ root → t.path ≡ j ∷ s →
        Position w (Down from (k ∷ ways) t ts got)
    AtFields : (n : ℕ) (fs : List ℕ) (t : Task) (ts : List Task) (got : List Ptr) → Placed w t.path → CountedFor w t.path (n ∷ fs)
        → Position w (Fields n fs t ts got)
    AtLooks : (at : Path) (n : ℕ) (fs : List ℕ) (t : Task) (ts : List Task) (got : List Ptr) → Placed w t.path → CountedFor w t.path fs
        → (field : Field_at w t.path n) → StepsAt w at → MayBeneath at field.to → Position w (Looks at n fs t ts got)
    AtLeads : (k : ℕ) (at : Path) (n : ℕ) (fs : List ℕ) (t : Task) (ts : List Task) (got : List Ptr) → Placed w t.path → CountedFor w t.path fs
        → (field : Field_at w t.path n) → StepsAt w at → Beneath (k ∷ at) field.to → Position w (Leads k at n fs t ts got)
    AtBeside : (n : ℕ) (fs : List ℕ) (t : Task) (ts : List Task) (got : List Ptr) → Placed w t.path → CountedFor w t.path fs → (field : Field_at w t.path n)
        → is_some (way_to root field.to) ≡ false → Position w (Beside n fs t ts got)
    AtOver : (got : List Ptr) → Position w (Over got)

  pub record Stands (w : World) (s : State) (found : List Ptr) : Type 0 where
    pub base : Base nester slot start near w
    pub steps : (p : Ptr) × (w.body (STEPS ∷ nester) ≡ Some (Reference p))
    pub position : Position w s
    pub tasks : tasks_of s
    pub end : ends s ≡ found

  -- ---- it begins with the next object that has pointers

  abbrev pub Steps : World → Type 0
  Steps w = (p : Ptr) × (w.body (STEPS ∷ nester) ≡ Some (Reference p))

  pub begins : (w : World) (ts : List Task) (got : List Ptr) → Base nester slot start near w → Steps w → Tasks_ok ts
      → Stands w (begin slot ts got) (got ++ all_pointers show ts)
  begins w [] got base steps all = record { base = base; steps = steps; position = AtOver got; tasks = tt; end = no_more got }
  begins w (t ∷ ts) got base steps all = by t.path t.fields refl refl (begins w ts got base steps all.1)
    where
      none : t.fields ≡ [] → Stands w (begin slot ts got) (got ++ all_pointers show ts) → Stands w (begin slot ts got) (got ++ all_pointers show (t ∷ ts))
      none e rest = subst (λ (fs : List ℕ). Stands w (begin slot ts got) (got ++ (pointers_of show t fs ++ all_pointers show ts))) (sym e) rest

      by : (q : Path) (fs : List ℕ) → t.path ≡ q → t.fields ≡ fs → Stands w (begin slot ts got) (got ++ all_pointers show ts)
          → Stands w (begin_at slot q fs t ts got (begin slot ts got)) (got ++ all_pointers show (t ∷ ts))
      by [] fs e f rest = none (ap (λ (t : Task). t.fields) all.0.is ∙ ap (λ (q : Path). (pointer_task c q).fields) e) rest
      by (j ∷ s) [] e f rest = none f rest
      by (j ∷ s) (n ∷ fs) e f rest = record {
        base = base;
        steps = steps;
        position = AtDown OWN_SPACE slot (way_from [] s) j s t ts got nester [] (inl (refl, refl)) refl (follow-way root s []) e;
        tasks = (all.0, all.1);
        end = refl;
      }

  goes_on : (w : World) (fs : List ℕ) (t : Task) (ts : List Task) (got : List Ptr) (found : List Ptr) → Base nester slot start near w → Steps w
      → Placed w t.path → CountedFor w t.path fs → Task_ok t → Tasks_ok ts →
      got ++ (pointers_of show t fs ++ all_pointers show ts) ≡ found → Stands w (go_on slot fs t ts got) found
  goes_on w [] t ts got found base steps placed counts its all end = subst (λ (f : List Ptr). Stands w (begin slot ts got) f) end
      (begins w ts got base steps all)
  goes_on w (n ∷ fs) t ts got found base steps placed counts its all end = record {
    base = base;
    steps = steps;
    position = AtFields n fs t ts got placed counts;
    tasks = (its, all);
    end = end;
  }

  took : (w : World) (n : ℕ) (fs : List ℕ) (t : Task) (ts : List Task) (got : List Ptr) (found : List Ptr) (p : Ptr) → Base nester slot start near w → Steps w
      → Placed w t.path → CountedFor w t.path fs → Task_ok t → Tasks_ok ts →
      show t.path n ≡ p → got ++ (pointers_of show t (n ∷ fs) ++ all_pointers show ts) ≡ found → Stands w (takes slot p fs t ts got) found
  took w n fs t ts got found p base steps placed counts its all seen end =
      goes_on w fs t ts (got ++ p ∷ []) found base steps placed counts its all
      (pushed got p (pointers_of show t fs ++ all_pointers show ts) ∙ ap (λ (x : Ptr). got ++ x ∷ (pointers_of show t fs ++ all_pointers show ts)) (sym seen)
      ∙ end)

  -- ---- others

  is_steps : is_scratch nester (STEPS ∷ nester) ≡ true
  is_steps = rw (same_path_refl nester) refl

  is_places : is_scratch nester (PLACES ∷ nester) ≡ true
  is_places = rw (same_path_refl nester) refl

  is_targets : is_scratch nester (TARGETS ∷ nester) ≡ true
  is_targets = rw (same_path_refl nester) refl

  field_moved : (w v : World) → IsSameInside root w v → v.body (TARGETS ∷ nester) ≡ w.body (TARGETS ∷ nester) → (q : Path) (n : ℕ) → Field_at w q n
      → Field_at v q n
  field_moved w v same targets q n its = record {
    k = its.k;
    s = its.s;
    path = its.path;
    body = its.body;
    there = same.bodies q
        ∙ its.there;
    to = its.to;
    field = its.field;
    some = its.some;
    among = its.among;
    ref = targets ∙ its.ref;
  }

  steps_moved : (w v : World) → v.body (STEPS ∷ nester) ≡ w.body (STEPS ∷ nester) → (at : Path) → StepsAt w at → StepsAt v at
  steps_moved w v steps [] h = tt
  steps_moved w v steps (k ∷ p) h = steps ∙ h

  from_moved : (w v : World) → v.body (PLACES ∷ nester) ≡ w.body (PLACES ∷ nester) → (from : ℕ) (at : Path) → FromIs nester slot start near w from at
      → FromIs nester slot start near v from at
  from_moved w v places from at (inl h) = inl h
  from_moved w v places from at (inr h) = inr (h.0, places ∙ h.1)

  module _ (w v : World) (same : IsSameInside root w v) (places : v.body (PLACES ∷ nester) ≡ w.body (PLACES ∷ nester))
      (targets : v.body (TARGETS ∷ nester) ≡ w.body (TARGETS ∷ nester)) (steps : v.body (STEPS ∷ nester) ≡ w.body (STEPS ∷ nester)) where
    position_same : (s : State) → Position w s → Position v s
    unfolding field_moved
    position_same _ (AtDown from k ways j s t ts got at p h inside way path) = AtDown from k ways j s t ts got at p
        (from_moved w v places from at h) inside way path
    position_same _ (AtFields n fs t ts got h g) = AtFields n fs t ts got (placed_by nester slot start near w v places t.path h)
        (counted_moved w v same t.path (n ∷ fs) g)
    position_same _ (AtLooks at n fs t ts got h g f st b) = AtLooks at n fs t ts got (placed_by nester slot start near w v places t.path h)
        (counted_moved w v same t.path fs g) (field_moved w v same targets t.path n f) (steps_moved w v steps at st) b
    position_same _ (AtLeads k at n fs t ts got h g f st b) = AtLeads k at n fs t ts got (placed_by nester slot start near w v places t.path h)
        (counted_moved w v same t.path fs g) (field_moved w v same targets t.path n f) (steps_moved w v steps at st) b
    position_same _ (AtBeside n fs t ts got h g f out) = AtBeside n fs t ts got (placed_by nester slot start near w v places t.path h)
        (counted_moved w v same t.path fs g) (field_moved w v same targets t.path n f) out
    position_same _ (AtOver got) = AtOver got

  pub others : (w : World) (e : Event) (s : State) (found : List Ptr) → IsUsersMove nester w e → (after w e).next ≤ depth → Stands w s found
      → Stands (after w e) s found
  others w e s found moves few its =
      let kept = others_keep_hold nester slot w e its.base.holding moves in
      let places = kept.around.scratch PLACES is_places in
      let targets = kept.around.scratch TARGETS is_targets in
      let steps = kept.around.scratch STEPS is_steps in
      record {
        base = base_others nester slot start near w e moves few its.base;
        steps = (its.steps.0, steps ∙ its.steps.1);
        position = position_same w (after w e) kept.inside places targets steps s its.position;
        tasks = its.tasks;
        end = its.end;
      }

  -- ---- its own calls

  down_after : (v : World) (ways : List ℕ) (j : ℕ) (s : Path) (t : Task) (ts : List Task) (got : List Ptr) (at p : Path) (found : List Ptr)
      → Base nester slot start near v → Steps v → v.body (PLACES ∷ nester) ≡ Some (Reference (At at)) → at ≡ p ++ root →
      follow at ways ≡ s ++ root → t.path ≡ j ∷ s → Task_ok t → Tasks_ok ts → got ++ (pointers_of show t t.fields ++ all_pointers show ts) ≡ found
      → Stands v (arrive slot ways t ts got) found
  down_after v [] j s t ts got at p found base steps ref inside way path its all end =
      goes_on v t.fields t ts got found base steps (subst (λ (q : Path). Placed v q) (sym path) (ref ∙ ap (λ (y : Path). Some (Reference (At y))) way))
      (whole_pointing v base t its t.path refl) its all end
  down_after v (k ∷ ways) j s t ts got at p found base steps ref inside way path its all end = record {
    base = base;
    steps = steps;
    position = AtDown PLACES k ways j s t ts got at (k ∷ p) (inr (refl, ref)) (ap (λ (y : Path). k ∷ y) inside) way path;
    tasks = (its, all);
    end = end;
  }

  module _ (w : World) (base : Base nester slot start near w) (steps : Steps w) (valid : IsValid w) (few : w.next ≤ depth) where
    own_down : (from k : ℕ) (ways : List ℕ) (j : ℕ) (s : Path) (t : Task) (ts : List Task) (got : List Ptr) (at p : Path) (reply : Reply) (found : List Ptr)
        → FromIs nester slot start near w from at → k ∷ at ≡ p ++ root →
        follow (k ∷ at) ways ≡ s ++ root → t.path ≡ j ∷ s → Task_ok t → Tasks_ok ts → IsAnswered nester w (Point OWN_SPACE PLACES from k) no_words reply
        → got ++ (pointers_of show t t.fields ++ all_pointers show ts) ≡ found →
        Stands (after w (call_of nester (Point OWN_SPACE PLACES from k) no_words)) (arrive slot ways t ts got) found
    unfolding is_fit same_path
    own_down from k ways j s t ts got at p reply found h inside way path its all answered end =
        let live : IsSome (c.body (j ∷ s)) = subst (λ (q : Path). IsSome (c.body q)) path its.live in
        let kind = kind_up nester slot start near w base valid few ways (k ∷ at) (s ++ root) way (above nester slot start near w base valid few j s live) in
        let old = base.scratched.places in
        let row = point-row nester no_words w OWN_SPACE PLACES from k nester at old.0 (At (k ∷ at)) (own-place nester no_words w)
        (ref_read nester slot start near w base valid few PLACES old.0 refl old.1)
        (from_named nester slot start near w base valid few from at h (above_kind nester slot w base.holding valid k at kind))
        (space_pointer nester no_words w at k (live_slot nester slot start near w base valid few k at
        (space_live nester slot start near w base valid few (k ∷ at) kind)) kind) (free nester slot start near w base valid few PLACES old.0 old.1) in
        let goes = one_change nester slot start near w base valid few (Point OWN_SPACE PLACES from k) reply
        (Alter (PLACES ∷ nester) (SetPointer (At (k ∷ at)))) OK [] answered row in
        let nearby : (x : Path) → leads_to x (At (k ∷ at)) ≡ true → IsNear w root x = λ x led. inl (p, sym (same_path_eq (k ∷ at) x led) ∙ inside) in
        let v : World = apply (Alter (PLACES ∷ nester) (SetPointer (At (k ∷ at)))) w in
        let valid_after : IsValid v = subst IsValid goes.0 (valid_own nester slot start near w base valid few (Point OWN_SPACE PLACES from k) refl) in
        let steps_after : Steps v = (
          steps.0,
          other_body nester slot w PLACES old.0 (At (k ∷ at)) base.holding is_places old.1 nearby (STEPS ∷ nester) refl
              ∙ steps.1,
        ) in
        subst (λ (v : World). Stands v (arrive slot ways t ts got) found) (sym goes.0)
        (down_after v ways j s t ts got (k ∷ at) p found
        (own_base nester slot start near w PLACES old.0 (At (k ∷ at)) base valid valid_after few is_places old.1 nearby) steps_after
        (own_body nester slot w PLACES old.0 (At (k ∷ at)) base.holding is_places old.1 nearby) inside way path its all end)

    own_read : (n : ℕ) (fs : List ℕ) (t : Task) (ts : List Task) (got : List Ptr) (reply : Reply) (found : List Ptr) (j : ℕ) (s : Path) → t.path ≡ j ∷ s
        → Placed w (j ∷ s) → CountedFor w (j ∷ s) (n ∷ fs) → Task_ok t → Tasks_ok ts →
        IsAnswered nester w (reading (j ∷ s) n) no_words reply → got ++ (pointers_of show t (n ∷ fs) ++ all_pointers show ts) ≡ found →
        Stands (after w (call_of nester (reading (j ∷ s) n) no_words)) (read slot n fs t ts got reply.words) found
    unfolding is_fit same_path
    own_read n fs t ts got reply found j s path placed counts its all answered end =
        let live : IsSome (c.body (j ∷ s)) = subst (λ (q : Path). IsSome (c.body q)) path its.live in
        let body = live_body nester slot start near w base j s live in
        let here = counts body.0 body.1 in
        let known = pointed body.0 n here.0 in
        let to : Ptr = field_pointer known.field in
        let old = base.scratched.targets in
        let there : IsSome (w.body (j ∷ (s ++ root))) = ap is_some body.1 in
        let row = get_ptr-row nester no_words w PLACES j n TARGETS (s ++ root) body.0 old.0 known.field
        (places_named nester slot start near w base valid few j s placed (above nester slot start near w base valid few j s live))
        (object-there nester no_words w anything (s ++ root) j body.0 body.0
        (live_slot nester slot start near w base valid few j (s ++ root) there) body.1 refl)
        (ref_read nester slot start near w base valid few TARGETS old.0 refl old.1) known.is in
        let goes = one_change nester slot start near w base valid few (GetPtr PLACES j n TARGETS) reply (Alter (TARGETS ∷ nester) (SetPointer to)) OK
        (field_number known.field ∷ []) answered row in
        let nearby : (x : Path) → leads_to x to ≡ true
        → IsNear w root x = λ x led. inr (
          j ∷ s,
          subst (λ (o : Option Body). list_any (leads_to x) (body_pointers o) ≡ true) (sym body.1) (by_near x body.0 known.field known.among led),
        ) in
        let v : World = apply (Alter (TARGETS ∷ nester) (SetPointer to)) w in
        let valid_after : IsValid v = subst IsValid goes.0 (valid_own nester slot start near w base valid few (GetPtr PLACES j n TARGETS) refl) in
        let after_base : Base nester slot start near v =
        own_base nester slot start near w TARGETS old.0 to base valid valid_after few is_targets old.1 nearby in
        let inside : IsSameInside root w v = pointed_inside nester slot w TARGETS old.0 to base.holding is_targets old.1 nearby in
        let places : v.body (PLACES ∷ nester) ≡ w.body (PLACES ∷ nester) = other_body nester slot w TARGETS old.0 to base.holding is_targets old.1 nearby
        (PLACES ∷ nester) refl in
        let steps_after : Steps v = (steps.0, other_body nester slot w TARGETS old.0 to base.holding is_targets old.1 nearby (STEPS ∷ nester) refl ∙ steps.1) in
        let ref : v.body (TARGETS ∷ nester) ≡ Some (Reference to) = own_body nester slot w TARGETS old.0 to base.holding is_targets old.1 nearby in
        let placed_after : Placed v t.path = subst (λ (q : Path). Placed v q) (sym path) (placed_by nester slot start near w v places (j ∷ s) placed) in
        let counted_after : CountedFor v t.path fs = subst (λ (q : Path). CountedFor v q fs) (sym path)
        (counted_moved w v inside (j ∷ s) fs (λ b e. (counts b e).1)) in
        let seen : show t.path n ≡ field_as (cut_ptr (ports_of w nester slot) nester slot) (Some known.field) =
        ap (λ (q : Path). show q n) path ∙ shows w base (j ∷ s) body.0 n known.field body.1 known.is known.among in
        let there_after : v.body (t.path ++ root) ≡ Some body.0 = ap (λ (q : Path). v.body (q ++ root)) path ∙ inside.bodies (j ∷ s) ∙ body.1 in
        subst (λ (u : World). Stands u (read slot n fs t ts got reply.words) found) (sym goes.0)
        (subst (λ (ws : List ℕ). Stands v (read slot n fs t ts got ws) found) (sym goes.1.1)
        (by v known.field after_base steps_after placed_after counted_after seen
        (λ p e some. record {
          k = j;
          s = s;
          path = path;
          body = body.0;
          there = there_after;
          to = p;
          field = known.is ∙ ap (λ (f : Field). Some f) e;
          some = some;
          among = known.among p e some;
          ref = ref ∙ ap (λ (f : Field). Some (Reference (field_pointer f))) e;
        })))
      where
        by_near : (x : Path) (b : Body) (field : Field) → ((to : Ptr) → field ≡ Pointer to → field_number (Pointer to) ≡ 2 → IsIn to (pointers b))
            → leads_to x (field_pointer field) ≡ true →
            list_any (leads_to x) (pointers b) ≡ true
        by_near x b (Pointer (At y)) among led = any_in (leads_to x) (At y) (pointers b) (among (At y) refl refl) led
        by_near x b (Pointer Null) among led = cc
        by_near x b (Pointer Dead) among led = cc
        by_near x b (Pointer (Out i)) among led = cc
        by_near x b (Pointer Outside) among led = cc
        by_near x b (Pointer Far) among led = cc
        by_near x b NoThread among led = cc

        by : (v : World) (f : Field) → Base nester slot start near v → Steps v → Placed v t.path → CountedFor v t.path fs
            → show t.path n ≡ field_as (cut_ptr (ports_of w nester slot) nester slot) (Some f) →
            ((p : Ptr) → f ≡ Pointer p → field_number (Pointer p) ≡ 2 → Field_at v t.path n) → Stands v (read slot n fs t ts got (field_number f ∷ [])) found
        by v NoThread base_v steps_v placed_v counted_v seen field = took v n fs t ts got found Far base_v steps_v placed_v counted_v its all seen end
        by v (Pointer Null) base_v steps_v placed_v counted_v seen field = took v n fs t ts got found Null base_v steps_v placed_v counted_v its all seen end
        by v (Pointer Dead) base_v steps_v placed_v counted_v seen field = took v n fs t ts got found Dead base_v steps_v placed_v counted_v its all seen end
        by v (Pointer Outside) base_v steps_v placed_v counted_v seen field = took v n fs t ts got found Far base_v steps_v placed_v counted_v its all seen end
        by v (Pointer (At x)) base_v steps_v placed_v counted_v seen field =
            record {
              base = base_v;
              steps = steps_v;
              position = AtLooks [] n fs t ts got placed_v counted_v (field (At x) refl refl) tt tt;
              tasks = (its, all);
              end = end;
            }
        by v (Pointer (Out i)) base_v steps_v placed_v counted_v seen field =
            record {
              base = base_v;
              steps = steps_v;
              position = AtLooks [] n fs t ts got placed_v counted_v (field (Out i) refl refl) tt tt;
              tasks = (its, all);
              end = end;
            }
        by v (Pointer Far) base_v steps_v placed_v counted_v seen field =
            record {
              base = base_v;
              steps = steps_v;
              position = AtLooks [] n fs t ts got placed_v counted_v (field Far refl refl) tt tt;
              tasks = (its, all);
              end = end;
            }

    -- the field's pointer, as it is seen
    field_is : (q : Path) (n : ℕ) (field : Field_at w q n) (to : Ptr) → field.to ≡ to → show q n ≡ cut_ptr (ports_of w nester slot) nester slot to
    field_is q n field to e =
        shows w base q field.body n (Pointer field.to) field.there field.field
        (λ p same some. subst (λ (p : Ptr). IsIn p (pointers field.body)) (same_to field.to p same) field.among)
        ∙ ap (cut_ptr (ports_of w nester slot) nester slot) e

    place_named : (at : Path) → StepsAt w at → kind_there w (at ++ root) ≡ Some kinds.Space
        → space_argument w (porter nester no_words) (place_at slot at) ≡ Ok (at ++ root)
    place_named [] h kind = slot_named nester slot start near w base valid few
    place_named (k ∷ p) h kind = ref_named nester no_words w STEPS ((k ∷ p) ++ root) (omega arith) h kind

    beneath_kind : (at : Path) (to : Ptr) → w.body (TARGETS ∷ nester) ≡ Some (Reference to) → Beneath at to → kind_there w (at ++ root) ≡ Some kinds.Space
    beneath_kind at to ref b =
        let x : Path = (b.j ∷ b.q) ++ (at ++ root) in
        let target : w.body (TARGETS ∷ nester) ≡ Some (Reference (At x)) = ref ∙ ap (λ (p : Ptr). Some (Reference p)) b.is in
        above_live nester slot x w base.holding target valid few b.j b.q (at ++ root) (live_target nester slot x w base.holding target valid few)

    place_kind : (at : Path) (to : Ptr) → w.body (TARGETS ∷ nester) ≡ Some (Reference to) → MayBeneath at to → kind_there w (at ++ root) ≡ Some kinds.Space
    place_kind [] to ref b = root_kind nester slot w base.holding valid
    place_kind (k ∷ p) to ref b = beneath_kind (k ∷ p) to ref b

    own_looks : (at : Path) (n : ℕ) (fs : List ℕ) (t : Task) (ts : List Task) (got : List Ptr) (reply : Reply) (found : List Ptr) → Placed w t.path
        → CountedFor w t.path fs → (field : Field_at w t.path n) → StepsAt w at → MayBeneath at field.to →
        Task_ok t → Tasks_ok ts → IsAnswered nester w (Locate TARGETS (place_at slot at)) no_words reply
        → got ++ (pointers_of show t (n ∷ fs) ++ all_pointers show ts) ≡ found →
        Stands (after w (call_of nester (Locate TARGETS (place_at slot at)) no_words)) (next slot (Looks at n fs t ts got) reply.status reply.words) found
    own_looks at n fs t ts got reply found placed counts field st beneath its all answered end =
        by field.to refl (found_row nester slot start near w base valid few (at ++ root) field.to (place_at slot at) field.ref field.some
        (place_named at st (place_kind at field.to field.ref beneath)))
      where
        here : (s : State) → Position w s → tasks_of s → ends s ≡ found → Stands w s found
        here s position tasks e = record { base = base; steps = steps; position = position; tasks = tasks; end = e }

        not_inside : (at : Path) (to : Ptr) → MayBeneath at to → way_to (at ++ root) to ≡ None → is_some (way_to root to) ≡ false
        not_inside [] to b e = ap is_some e
        not_inside (k ∷ p) to b e =
            let there : way_to ((k ∷ p) ++ root) to ≡ Some (way_down (b.j ∷ b.q)) = ap (way_to ((k ∷ p) ++ root)) b.is
            ∙ ap (option_map way_down) (strip-append ((k ∷ p) ++ root) (b.j ∷ b.q)) in
            let both = sym e ∙ there in cc

        missed : way_to (at ++ root) field.to ≡ None
            → call_row w (porter nester no_words) None (Locate TARGETS (place_at slot at)) ≡ Goes [] (Answered NONE []) →
            Stands (after w (call_of nester (Locate TARGETS (place_at slot at)) no_words)) (next slot (Looks at n fs t ts got) reply.status reply.words) found
        missed e row =
            let goes = no_change nester slot start near w base valid few (Locate TARGETS (place_at slot at)) reply NONE [] answered row in
            subst (λ (v : World). Stands v (next slot (Looks at n fs t ts got) reply.status reply.words) found) (sym goes.0)
            (subst (λ (status : ℕ). Stands w (next slot (Looks at n fs t ts got) status reply.words) found) (sym goes.1.0)
            (here (Beside n fs t ts got) (AtBeside n fs t ts got placed counts field (not_inside at field.to beneath e)) (its, all) end))

        told : (x q : Path) → field.to ≡ At x → x ≡ q ++ (at ++ root)
            → Stands w (looked slot at n fs t ts got (way_down q ++ kind_number (kind_at w (At x)) ∷ [])) found
        told x [] e is = took w n fs t ts got found (At at) base steps placed counts its all (field_is t.path n field (At x) e
            ∙ (rw (ap (strip root) is ∙ strip-append root at) refl)) end
        told x (k ∷ []) e is =
            let target : w.body (TARGETS ∷ nester) ≡ Some (Reference (At x)) = field.ref ∙ ap (λ (p : Ptr). Some (Reference p)) e in
            let live : IsSome (w.body (k ∷ (at ++ root))) = subst (λ (y : Path). IsSome (w.body y)) is
            (live_target nester slot x w base.holding target valid few) in
            let below = valid.rooted.slots k (at ++ root) live in
            rw (ne_eqb k OWN_SPACE (λ e. omega (arith, below, e)))
            (took w n fs t ts got found (At (k ∷ at)) base steps placed counts its all (field_is t.path n field (At x) e
            ∙ (rw (ap (strip root) is ∙ strip-append root (k ∷ at)) refl)) end)
        told x (j ∷ i ∷ q) e is =
            let parts = split j (i ∷ q) in
            rw (two_long (length q)) (here (Leads (outermost (i ∷ q)) at n fs t ts got)
            (AtLeads (outermost (i ∷ q)) at n fs t ts got placed counts field st
            (deep parts.0 parts.1.1 (e ∙ ap At (is ∙ ap (λ (y : Path). y ++ (at ++ root)) parts.1.0 ∙ joined parts.0 (outermost (i ∷ q)) (at ++ root)))))
            (its, all) end)
          where
            deep : (rest : Path) → length rest ≡ length (i ∷ q) → field.to ≡ At (rest ++ outermost (i ∷ q) ∷ (at ++ root))
                → Beneath (outermost (i ∷ q) ∷ at) field.to
            deep [] long e = absurd (omega (arith, long))
            deep (k ∷ rest) long e = record { j = k; q = rest; is = e }

        by_at : (x : Path) (o : Option Path) → field.to ≡ At x → strip (at ++ root) x ≡ o
            → call_row w (porter nester no_words) None (Locate TARGETS (place_at slot at)) ≡ elim (option_map way_down o) [
              | None ↦ Goes [] (Answered NONE [])
              | Some way ↦ Goes [] (Answered OK (way ++ kind_number (kind_at w (At x)) ∷ []))
            ] → Stands (after w (call_of nester (Locate TARGETS (place_at slot at)) no_words))
            (next slot (Looks at n fs t ts got) reply.status reply.words) found
        by_at x None e f row = missed (ap (way_to (at ++ root)) e ∙ ap (option_map way_down) f) row
        by_at x (Some q) e f row =
            let goes = no_change nester slot start near w base valid few (Locate TARGETS (place_at slot at)) reply OK (way_down q
            ++ kind_number (kind_at w (At x)) ∷ []) answered row in
            subst (λ (v : World). Stands v (next slot (Looks at n fs t ts got) reply.status reply.words) found) (sym goes.0)
            (subst (λ (status : ℕ). Stands w (next slot (Looks at n fs t ts got) status reply.words) found) (sym goes.1.0)
            (subst (λ (ws : List ℕ). Stands w (next slot (Looks at n fs t ts got) OK ws) found) (sym goes.1.1) (told x q e (strip_some (at ++ root) x q f))))

        by : (to : Ptr) → field.to ≡ to → call_row w (porter nester no_words) None (Locate TARGETS (place_at slot at))
            ≡ located_as nester no_words w (at ++ root) (Ok field.to) →
            Stands (after w (call_of nester (Locate TARGETS (place_at slot at)) no_words)) (next slot (Looks at n fs t ts got) reply.status reply.words) found
        by (At x) e row = by_at x (strip (at ++ root) x) e refl (row ∙ ap (λ (p : Ptr). located_as nester no_words w (at ++ root) (Ok p)) e)
        by (Out i) e row = missed (ap (way_to (at ++ root)) e) (row ∙ ap (λ (p : Ptr). located_as nester no_words w (at ++ root) (Ok p)) e)
        by Far e row = missed (ap (way_to (at ++ root)) e) (row ∙ ap (λ (p : Ptr). located_as nester no_words w (at ++ root) (Ok p)) e)
        by Null e row = let some : field_number (Pointer Null) ≡ 2 = subst (λ (p : Ptr). field_number (Pointer p) ≡ 2) e field.some in cc
        by Dead e row = let some : field_number (Pointer Dead) ≡ 2 = subst (λ (p : Ptr). field_number (Pointer p) ≡ 2) e field.some in cc
        by Outside e row = let some : field_number (Pointer Outside) ≡ 2 = subst (λ (p : Ptr). field_number (Pointer p) ≡ 2) e field.some in cc

    own_leads : (k : ℕ) (at : Path) (n : ℕ) (fs : List ℕ) (t : Task) (ts : List Task) (got : List Ptr) (reply : Reply) (found : List Ptr) → Placed w t.path
        → CountedFor w t.path fs → (field : Field_at w t.path n) → StepsAt w at → Beneath (k ∷ at) field.to →
        Task_ok t → Tasks_ok ts → IsAnswered nester w (Point OWN_SPACE STEPS (place_at slot at) k) no_words reply
        → got ++ (pointers_of show t (n ∷ fs) ++ all_pointers show ts) ≡ found →
        Stands (after w (call_of nester (Point OWN_SPACE STEPS (place_at slot at) k) no_words)) (Looks (k ∷ at) n fs t ts got) found
    unfolding is_fit same_path field_moved
    own_leads k at n fs t ts got reply found placed counts field st beneath its all answered end =
        let to : Path = k ∷ (at ++ root) in
        let kind = beneath_kind (k ∷ at) field.to field.ref beneath in
        let above = above_kind nester slot w base.holding valid k (at ++ root) kind in
        let row = point-row nester no_words w OWN_SPACE STEPS (place_at slot at) k nester (at ++ root) steps.0 (At to) (own-place nester no_words w)
        (ref_read nester slot start near w base valid few STEPS steps.0 refl steps.1) (place_named at st above)
        (space_pointer nester no_words w (at ++ root) k
        (live_slot nester slot start near w base valid few k (at ++ root) (space_live nester slot start near w base valid few to kind)) kind)
        (free nester slot start near w base valid few STEPS steps.0 steps.1) in
        let goes = one_change nester slot start near w base valid few (Point OWN_SPACE STEPS (place_at slot at) k) reply
        (Alter (STEPS ∷ nester) (SetPointer (At to))) OK [] answered row in
        let nearby : (y : Path) → leads_to y (At to) ≡ true → IsNear w root y = λ y led. inl (k ∷ at, sym (same_path_eq to y led)) in
        let v : World = apply (Alter (STEPS ∷ nester) (SetPointer (At to))) w in
        let valid_after : IsValid v = subst IsValid goes.0
        (valid_own nester slot start near w base valid few (Point OWN_SPACE STEPS (place_at slot at) k) refl) in
        let inside : IsSameInside root w v = pointed_inside nester slot w STEPS steps.0 (At to) base.holding is_steps steps.1 nearby in
        let places : v.body (PLACES ∷ nester) ≡ w.body (PLACES ∷ nester) = other_body nester slot w STEPS steps.0 (At to) base.holding is_steps steps.1 nearby
        (PLACES ∷ nester) refl in
        let targets : v.body (TARGETS ∷ nester) ≡ w.body (TARGETS ∷ nester) = other_body nester slot w STEPS steps.0
        (At to) base.holding is_steps steps.1 nearby (TARGETS ∷ nester) refl in
        let ref : v.body (STEPS ∷ nester) ≡ Some (Reference (At to)) = own_body nester slot w STEPS steps.0 (At to) base.holding is_steps steps.1 nearby in
        subst (λ (v : World). Stands v (Looks (k ∷ at) n fs t ts got) found) (sym goes.0) (record {
          base = own_base nester slot start near w STEPS steps.0 (At to) base valid valid_after few is_steps steps.1 nearby;
          steps = (At to, ref);
          position = AtLooks (k ∷ at) n fs t ts got (placed_by nester slot start near w v places t.path placed) (counted_moved w v inside t.path fs counts)
              (field_moved w v inside targets t.path n field) ref beneath;
          tasks = (its, all);
          end = end;
        })

    own_beside : (n : ℕ) (fs : List ℕ) (t : Task) (ts : List Task) (got : List Ptr) (reply : Reply) (found : List Ptr) → Placed w t.path
        → CountedFor w t.path fs → (field : Field_at w t.path n) → is_some (way_to root field.to) ≡ false →
        Task_ok t → Tasks_ok ts → IsAnswered nester w (Locate TARGETS OWN_SPACE) no_words reply
        → got ++ (pointers_of show t (n ∷ fs) ++ all_pointers show ts) ≡ found →
        Stands (after w (call_of nester (Locate TARGETS OWN_SPACE) no_words)) (next slot (Beside n fs t ts got) reply.status reply.words) found
    own_beside n fs t ts got reply found placed counts field out its all answered end =
        by field.to refl (found_row nester slot start near w base valid few nester field.to OWN_SPACE field.ref field.some (own-place nester no_words w))
      where
        Goal : Type 0
        Goal = Stands (after w (call_of nester (Locate TARGETS OWN_SPACE) no_words)) (next slot (Beside n fs t ts got) reply.status reply.words) found

        answered_as : (status : ℕ) (words : List ℕ) (o : Option (List ℕ))
            → call_row w (porter nester no_words) None (Locate TARGETS OWN_SPACE) ≡ Goes [] (Answered status words)
            → cond (status == OK) (Some words) None ≡ o →
            show t.path n ≡ told_pointer None o → Goal
        answered_as status words o row is seen =
            let goes = no_change nester slot start near w base valid few (Locate TARGETS OWN_SPACE) reply status words answered row in
            let told : cond (reply.status == OK) (Some reply.words) None ≡ o = rw (goes.1.0, goes.1.1) is in
            subst (λ (v : World). Stands v (next slot (Beside n fs t ts got) reply.status reply.words) found) (sym goes.0)
            (took w n fs t ts got found (told_pointer None (cond (reply.status == OK) (Some reply.words) None)) base steps placed counts its all (seen
            ∙ ap (told_pointer None) (sym told)) end)

        none_from : (o : Option Path) → is_some (option_map way_down o) ≡ false → o ≡ None
        none_from None h = refl
        none_from (Some q) h = cc

        by_at : (x : Path) (o : Option Path) → field.to ≡ At x → strip nester x ≡ o
            → call_row w (porter nester no_words) None (Locate TARGETS OWN_SPACE) ≡ elim (option_map way_down o) [
              | None ↦ Goes [] (Answered NONE [])
              | Some way ↦ Goes [] (Answered OK (way ++ kind_number (kind_at w (At x)) ∷ []))
            ] → show t.path n ≡ told_pointer None (option_map (λ q. way_down q ++ kind_number (kind_at w (At x)) ∷ []) o) → Goal
        by_at x None e f row seen = answered_as NONE [] None row refl seen
        by_at x (Some q) e f row seen = answered_as OK (way_down q ++ kind_number (kind_at w (At x)) ∷ [])
            (Some (way_down q ++ kind_number (kind_at w (At x)) ∷ [])) row refl seen

        by : (to : Ptr) → field.to ≡ to → call_row w (porter nester no_words) None (Locate TARGETS OWN_SPACE)
            ≡ located_as nester no_words w nester (Ok field.to) → Goal
        by (At x) e row =
            let off : strip root x ≡ None = none_from (strip root x) (subst (λ (p : Ptr). is_some (way_to root p) ≡ false) e out) in
            by_at x (strip nester x) e refl (row ∙ ap (λ (p : Ptr). located_as nester no_words w nester (Ok p)) e)
            (field_is t.path n field (At x) e ∙ pointer_told nester slot w base.holding valid x
            ∙ ap (λ (o : Option Path). told_pointer o (located_at w nester x)) off)
        by (Out i) e row = answered_as NONE [] None (row ∙ ap (λ (p : Ptr). located_as nester no_words w nester (Ok p)) e) refl
            (field_is t.path n field (Out i) e)
        by Far e row = answered_as NONE [] None (row ∙ ap (λ (p : Ptr). located_as nester no_words w nester (Ok p)) e) refl (field_is t.path n field Far e)
        by Null e row = let some : field_number (Pointer Null) ≡ 2 = subst (λ (p : Ptr). field_number (Pointer p) ≡ 2) e field.some in cc
        by Dead e row = let some : field_number (Pointer Dead) ≡ 2 = subst (λ (p : Ptr). field_number (Pointer p) ≡ 2) e field.some in cc
        by Outside e row = let some : field_number (Pointer Outside) ≡ 2 = subst (λ (p : Ptr). field_number (Pointer p) ≡ 2) e field.some in cc

    -- ---- each call comes to something

    comes_down : (from k : ℕ) (ways : List ℕ) (j : ℕ) (s : Path) (t : Task) (at : Path) → FromIs nester slot start near w from at
        → follow (k ∷ at) ways ≡ s ++ root → t.path ≡ j ∷ s → Task_ok t →
        Comes nester w (Point OWN_SPACE PLACES from k)
    comes_down from k ways j s t at h way path its =
        let live : IsSome (c.body (j ∷ s)) = subst (λ (q : Path). IsSome (c.body q)) path its.live in
        let kind = kind_up nester slot start near w base valid few ways (k ∷ at) (s ++ root) way (above nester slot start near w base valid few j s live) in
        let old = base.scratched.places in
        record {
          changes = _;
          status = OK;
          given = [];
          mild = Leads_anew PLACES old.0 (At (k ∷ at)) Own_places old.1;
          row = point-row nester no_words w OWN_SPACE PLACES from k nester at old.0 (At (k ∷ at)) (own-place nester no_words w)
              (ref_read nester slot start near w base valid few PLACES old.0 refl old.1)
              (from_named nester slot start near w base valid few from at h (above_kind nester slot w base.holding valid k at kind))
              (space_pointer nester no_words w at k
              (live_slot nester slot start near w base valid few k at (space_live nester slot start near w base valid few (k ∷ at) kind)) kind)
              (free nester slot start near w base valid few PLACES old.0 old.1);
        }

    comes_read : (n : ℕ) (fs : List ℕ) (t : Task) (q : Path) → t.path ≡ q → Placed w q → CountedFor w q (n ∷ fs) → Task_ok t → Comes nester w (reading q n)
    comes_read n fs t [] path placed counts its = cc
    comes_read n fs t (j ∷ s) path placed counts its =
        let live : IsSome (c.body (j ∷ s)) = subst (λ (q : Path). IsSome (c.body q)) path its.live in
        let body = live_body nester slot start near w base j s live in
        let known = pointed body.0 n (counts body.0 body.1).0 in
        let old = base.scratched.targets in
        let there : IsSome (w.body (j ∷ (s ++ root))) = ap is_some body.1 in
        record {
          changes = _;
          status = OK;
          given = field_number known.field ∷ [];
          mild = Leads_anew TARGETS old.0 (field_pointer known.field) Own_targets old.1;
          row = get_ptr-row nester no_words w PLACES j n TARGETS (s ++ root) body.0 old.0 known.field
              (places_named nester slot start near w base valid few j s placed (above nester slot start near w base valid few j s live))
              (object-there nester no_words w anything (s ++ root) j body.0 body.0
              (live_slot nester slot start near w base valid few j (s ++ root) there) body.1 refl)
              (ref_read nester slot start near w base valid few TARGETS old.0 refl old.1) known.is;
        }

    comes_located : (top : Path) (to : Ptr) (s : ℕ) → call_row w (porter nester no_words) None (Locate TARGETS s) ≡ located_as nester no_words w top (Ok to)
        → Comes nester w (Locate TARGETS s)
    comes_located top to s row = by (way_to top to) row
      where
        by : (o : Option (List ℕ)) → call_row w (porter nester no_words) None (Locate TARGETS s) ≡ elim o [
          | None ↦ Goes [] (Answered NONE [])
          | Some way ↦ Goes [] (Answered OK (way ++ kind_number (kind_at w to) ∷ []))
        ] → Comes nester w (Locate TARGETS s)
        by None h = record { changes = []; status = NONE; given = []; row = h; mild = Changes_nothing }
        by (Some way) h = record { changes = []; status = OK; given = way ++ kind_number (kind_at w to) ∷ []; row = h; mild = Changes_nothing }

    comes_leads : (k : ℕ) (at : Path) (n : ℕ) (q : Path) (field : Field_at w q n) → StepsAt w at → Beneath (k ∷ at) field.to
        → Comes nester w (Point OWN_SPACE STEPS (place_at slot at) k)
    comes_leads k at n q field st beneath =
        let to : Path = k ∷ (at ++ root) in
        let kind = beneath_kind (k ∷ at) field.to field.ref beneath in
        let higher = above_kind nester slot w base.holding valid k (at ++ root) kind in
        record {
          changes = _;
          status = OK;
          given = [];
          mild = Leads_anew STEPS steps.0 (At to) Own_steps steps.1;
          row = point-row nester no_words w OWN_SPACE STEPS (place_at slot at) k nester (at ++ root) steps.0 (At to) (own-place nester no_words w)
              (ref_read nester slot start near w base valid few STEPS steps.0 refl steps.1) (place_named at st higher)
              (space_pointer nester no_words w (at ++ root) k
              (live_slot nester slot start near w base valid few k (at ++ root) (space_live nester slot start near w base valid few to kind)) kind)
              (free nester slot start near w base valid few STEPS steps.0 steps.1);
        }

    abbrev asking_now : Stage → List ℕ → Head (List Ptr)
    asking_now stage words = Asks stage words

    again : (stage other : Stage) (words given : List ℕ) → asking_now stage words ≡ Asks other given → (P : Stage → List ℕ → Type 0) → P stage words
        → P other given
    again stage other words given e P p =
        let stages : stage ≡ other = cc in
        let same : words ≡ given = cc in
        subst (λ (ws : List ℕ). P other ws) same (subst (λ (st : Stage). P st words) stages p)

    pub comes_next : (s : State) (stage : Stage) (words : List ℕ) → Position w s → tasks_of s → head slot s ≡ Asks stage words → ComesWith nester w stage words
    comes_next _ stage words (AtDown from k ways j s t ts got at p h inside way path) tasks asks =
        again (Point OWN_SPACE PLACES from k) stage no_words words asks (λ st ws. ComesWith nester w st ws)
        (refl, comes_down from k ways j s t at h way path tasks.0)
    comes_next _ stage words (AtFields n fs t ts got placed counts) tasks asks =
        again (reading t.path n) stage no_words words asks (λ st ws. ComesWith nester w st ws) (refl, comes_read n fs t t.path refl placed counts tasks.0)
    comes_next _ stage words (AtLooks at n fs t ts got placed counts field st b) tasks asks =
        again (Locate TARGETS (place_at slot at)) stage no_words words asks (λ st ws. ComesWith nester w st ws) (
          refl,
          comes_located (at ++ root) field.to (place_at slot at)
              (found_row nester slot start near w base valid few (at ++ root) field.to (place_at slot at) field.ref field.some
              (place_named at st (place_kind at field.to field.ref b))),
        )
    comes_next _ stage words (AtLeads k at n fs t ts got placed counts field st b) tasks asks =
        again (Point OWN_SPACE STEPS (place_at slot at) k) stage no_words words asks (λ st ws. ComesWith nester w st ws)
        (refl, comes_leads k at n t.path field st b)
    comes_next _ stage words (AtBeside n fs t ts got placed counts field out) tasks asks =
        again (Locate TARGETS OWN_SPACE) stage no_words words asks (λ st ws. ComesWith nester w st ws) (
          refl,
          comes_located nester field.to OWN_SPACE
              (found_row nester slot start near w base valid few nester field.to OWN_SPACE field.ref field.some (own-place nester no_words w)),
        )
    comes_next _ stage words (AtOver got) tasks asks = cc

  -- ---- the whole

  abbrev asking : Stage → List ℕ → Head (List Ptr)
  asking stage words = Asks stage words

  asked : (stage other : Stage) (words given : List ℕ) → asking stage words ≡ Asks other given → (P : Stage → List ℕ → Type 0) → P stage words → P other given
  asked stage other words given e P p = let stages : stage ≡ other = cc in
      let same : words ≡ given = cc in subst (λ (ws : List ℕ). P other ws) same (subst (λ (st : Stage). P st words) stages p)

  pub own : (w : World) (s : State) (stage : Stage) (words : List ℕ) (reply : Reply) (found : List Ptr) → Stands w s found → head slot s ≡ Asks stage words
      → IsAnswered nester w stage words reply →
      Stands (after w (call_of nester stage words)) (next slot s reply.status reply.words) found
  own w s stage words reply found its asks answered = by s its.position its.tasks its.end asks answered
    where
      Goal : State → Stage → List ℕ → Type 0
      Goal s st ws = IsAnswered nester w st ws reply → Stands (after w (call_of nester st ws)) (next slot s reply.status reply.words) found

      reads : (n : ℕ) (fs : List ℕ) (t : Task) (ts : List Task) (got : List Ptr) (q : Path) → t.path ≡ q → Placed w q → CountedFor w q (n ∷ fs) → Task_ok t
          → Tasks_ok ts → got ++ (pointers_of show t (n ∷ fs) ++ all_pointers show ts) ≡ found → Goal (Fields n fs t ts got) (reading q n) no_words
      reads n fs t ts got [] e placed counts one all end = cc
      reads n fs t ts got (j ∷ s) e placed counts one all end = λ mine.
          own_read w its.base its.steps mine.valid mine.few n fs t ts got reply found j s e placed counts one all mine end

      by : (s : State) → Position w s → tasks_of s → ends s ≡ found → head slot s ≡ Asks stage words → Goal s stage words
      by _ (AtDown from k ways j s t ts got at p h inside way path) tasks end asks =
          asked (Point OWN_SPACE PLACES from k) stage no_words words asks (Goal (Down from (k ∷ ways) t ts got))
          (λ mine. own_down w its.base its.steps mine.valid mine.few from k ways j s t ts got at p reply found h inside way path tasks.0 tasks.1 mine end)
      by _ (AtFields n fs t ts got placed counts) tasks end asks =
          asked (reading t.path n) stage no_words words asks (Goal (Fields n fs t ts got)) (reads n fs t ts got t.path refl placed counts tasks.0 tasks.1 end)
      by _ (AtLooks at n fs t ts got placed counts field st b) tasks end asks =
          asked (Locate TARGETS (place_at slot at)) stage no_words words asks (Goal (Looks at n fs t ts got))
          (λ mine. own_looks w its.base its.steps mine.valid mine.few at n fs t ts got reply found placed counts field st b tasks.0 tasks.1 mine end)
      by _ (AtLeads k at n fs t ts got placed counts field st b) tasks end asks =
          asked (Point OWN_SPACE STEPS (place_at slot at) k) stage no_words words asks (Goal (Leads k at n fs t ts got))
          (λ mine. own_leads w its.base its.steps mine.valid mine.few k at n fs t ts got reply found placed counts field st b tasks.0 tasks.1 mine end)
      by _ (AtBeside n fs t ts got placed counts field out) tasks end asks =
          asked (Locate TARGETS OWN_SPACE) stage no_words words asks (Goal (Beside n fs t ts got))
          (λ mine. own_beside w its.base its.steps mine.valid mine.few n fs t ts got reply found placed counts field out tasks.0 tasks.1 mine end)
      by _ (AtOver got) tasks end asks = cc

  pub arrives : (w v : World) (s t : State) (es : List Event) (found : List Ptr) → Stands w s found → Interleaved (gatherer slot) nester w s es v t
      → Stands v t found
  arrives _ _ _ _ _ found its (Here w s sound) = its
  arrives _ v _ t _ found its (Another w s e es _ _ sound works moves rest) = arrives (after w e) v s t es found
      (others w e s found moves (first_sound (gatherer slot) nester (after w e) s es v t rest).whole.few its) rest
  arrives _ v _ t _ found its (Own w s stage words es _ _ sound asks ready rest) =
      arrives (after w (call_of nester stage words)) v (heard (gatherer slot) s (said_of w (call_of nester stage words))) t es found
      (own w s stage words (reply_of (said_of w (call_of nester stage words))) found its asks
      (record { valid = sound.whole.valid; few = sound.whole.few; ready = ready; said = refl })) rest

  pub finds : (w : World) (s : State) (end found : List Ptr) → Stands w s found → head slot s ≡ Stops end → end ≡ found
  finds w s end found its stops = by s its.position its.end stops
    where
      by : (s : State) → Position w s → ends s ≡ found → head slot s ≡ Stops end → end ≡ found
      by _ (AtDown from k ways j s t ts got at p h inside way path) e stops = cc
      by _ (AtFields n fs t ts got placed counts) e stops = cc
      by _ (AtLooks at n fs t ts got placed counts field st b) e stops = cc
      by _ (AtLeads k at n fs t ts got placed counts field st b) e stops = cc
      by _ (AtBeside n fs t ts got placed counts field out) e stops = cc
      by _ (AtOver got) e stops = let same : got ≡ end = cc in sym same ∙ e
