-- The rows of a porter's calls, each where what it reads is known.
use Rattle.std.proofs.Common.{◌≡◌, ℕ, Bool, true, false, cond, not, ◌&&◌, ◌||◌, ◌==◌, nat_le, nat_lt, List, [], ◌∷◌, ◌++◌, map, Option, Some, None, Result, Ok}
use Rattle.std.proofs.Common.{Err, refl, ◌≤◌, option_map, arith}
use Rattle.fk_model.specs.declared.limits.TheConstants.{OWN_SPACE, SLOTS, PAGES, LAST_PORTER_SLOT}
use Rattle.fk_model.specs.declared.names.Kind.{Kind}
use Rattle.fk_model.specs.declared.names.Kind.TheVariants as kinds
use Rattle.fk_model.specs.declared.stage.Stage.TheVariants.{Create, Point, Locate, SetState, SetPtr, PageGive, LinkPark, FaultPark, GetPtr, CountIn, Search}
use Rattle.fk_model.specs.declared.stage.Stage.TheVariants.{GetState, PageNext, PageRead}
use Rattle.fk_model.specs.declared.statuses.status.TheConstants as status
use Rattle.fk_model.specs.Places.{Path, Ptr}
use Rattle.fk_model.specs.Places.Ptr.{At}
use Rattle.fk_model.specs.Objects.{Thread, Body, number_of_kind, port_of, thread_of, reference_of, kind_of}
use Rattle.fk_model.specs.Objects.Peer.{Parked}
use Rattle.fk_model.specs.Objects.Body.{Mutex, Cond, Mapping, Region, Port, Portset, Space, Thread_of, Reference}
use Rattle.fk_model.specs.World.{World}
use Rattle.fk_model.specs.World.Change.{Alter, PutPage}
use Rattle.fk_model.specs.World.Edit.{SetPointer, SetTalk, SetFault}
use Rattle.fk_model.specs.Searches.{lowest}
use Rattle.fk_model.specs.Holds.{is_frozen_for, is_decided_by}
use Rattle.fk_model.specs.Outcomes.{Outcome, ◌>>=◌, or_refuse, done}
use Rattle.fk_model.specs.Outcomes.Outcome.{Goes}
use Rattle.fk_model.specs.Outcomes.Said.{Answered}
use Rattle.fk_model.specs.Readers.{object_in, anything, space_argument, kind_at, handle}
use Rattle.fk_model.specs.Records.{record_of, set_edits, takes_state}
use Rattle.fk_model.specs.StateRows.{get_state, is_native, is_still, held_kinds, is_of_kinds, set_state, set_ptr, Field, field_of, field_number, field_pointer}
use Rattle.fk_model.specs.StateRows.{get_ptr}
use Rattle.fk_model.specs.SpaceRows.{page_give, next_page, page_next, page_read}
use Rattle.fk_model.specs.LinkRows.{given_talk, link_park}
use Rattle.fk_model.specs.FaultRows.{given_fault, fault_park}
use Rattle.fk_model.specs.ObjectRows.{search, create, pointer_to, pointer_in, point, target_of, way_to, kind_number, locate, pointer_count, count_in}
use Rattle.fk_model.specs.Moves.{closed, with_pick, call_row}
use Rattle.laws_jobs.specs.Calls.{fresh, has_pointer}
use Rattle.std.proofs.lemmas.Bool.{le-leb, ne_eqb}
use Rattle.fk_model.specs.Valid.{kind_there}
use Rattle.laws_jobs.specs.Machines.{porter}

module _ (nester : Path) (words : List ℕ) (w : World) where
  abbrev me : Path
  me = LAST_PORTER_SLOT ∷ nester

  pub own-place : space_argument w (porter nester words) OWN_SPACE ≡ Ok nester
  unfolding space_argument
  own-place = refl

  pub object-there : {A : Type 0} (view : Body → Option A) (s : Path) (k : ℕ) (b : Body) (a : A) → nat_le k LAST_PORTER_SLOT ≡ true → w.body (k ∷ s) ≡ Some b
      → view b ≡ Some a → object_in w (porter nester words) view s k ≡ Ok a
  unfolding object_in
  object-there view s k b a fits there viewed = rw (fits, there, viewed) refl

  pub create-row : (s x : ℕ) (kind : Kind) (space : Path) → space_argument w (porter nester words) s ≡ Ok space → nat_le x LAST_PORTER_SLOT ≡ true
      → is_frozen_for w me space ≡ false → w.body (x ∷ space) ≡ None →
      call_row w (porter nester words) None (Create s x (number_of_kind kind)) ≡ Goes (fresh (x ∷ space) kind ∷ []) (Answered status.OK [])
  unfolding call_row create
  create-row s x kinds.Mutex space h fits free empty = rw (h, fits, free, empty) refl
  create-row s x kinds.Cond space h fits free empty = rw (h, fits, free, empty) refl
  create-row s x kinds.Mapping space h fits free empty = rw (h, fits, free, empty) refl
  create-row s x kinds.Region space h fits free empty = rw (h, fits, free, empty) refl
  create-row s x kinds.Port space h fits free empty = rw (h, fits, free, empty) refl
  create-row s x kinds.Portset space h fits free empty = rw (h, fits, free, empty) refl
  create-row s x kinds.Space space h fits free empty = rw (h, fits, free, empty) refl
  create-row s x kinds.Thread space h fits free empty = rw (h, fits, free, empty) refl
  create-row s x kinds.Reference space h fits free empty = rw (h, fits, free, empty) refl

  pub point-row : (s x s2 x2 : ℕ) (space space2 : Path) (old to : Ptr) → space_argument w (porter nester words) s ≡ Ok space
      → object_in w (porter nester words) reference_of space x ≡ Ok old →
      space_argument w (porter nester words) s2 ≡ Ok space2 → object_in w (porter nester words) (pointer_to (x2 ∷ space2)) space2 x2 ≡ Ok to
      → is_frozen_for w me (x ∷ space) ≡ false →
      call_row w (porter nester words) None (Point s x s2 x2) ≡ Goes (Alter (x ∷ space) (SetPointer to) ∷ []) (Answered status.OK [])
  unfolding call_row point
  point-row s x s2 x2 space space2 old to h ref h2 target free = rw (h, ref, h2, target, free) refl

  -- what a call comes to that points to a slot of the nester, whatever stands there
  abbrev pub points_as : Path → Result Ptr ℕ → Outcome
  points_as x (Err status) = Goes [] (Answered status [])
  points_as x (Ok to) = Goes (Alter x (SetPointer to) ∷ []) (Answered status.OK [])

  pub pin-row : (s x i : ℕ) (space : Path) (old : Ptr) → space_argument w (porter nester words) s ≡ Ok space
      → object_in w (porter nester words) reference_of space x ≡ Ok old → is_frozen_for w me (x ∷ space) ≡ false →
      call_row w (porter nester words) None (Point s x OWN_SPACE i) ≡ points_as (x ∷ space) (pointer_in w (porter nester words) nester i)
  unfolding call_row point
  pin-row s x i space old h ref free = rw (h, ref, own-place, free) (by (pointer_in w (porter nester words) nester i))
    where
      by : (r : Result Ptr ℕ) → closed (porter nester words)
          (with_pick false None (r >>= (λ to. done (porter nester words) (Alter (x ∷ space) (SetPointer to) ∷ []) []))) ≡ points_as (x ∷ space) r
      by (Ok to) = refl
      by (Err status) = refl

  pub get_ptr-row : (s x n r : ℕ) (space : Path) (b : Body) (old : Ptr) (f : Field) → space_argument w (porter nester words) s ≡ Ok space
      → object_in w (porter nester words) anything space x ≡ Ok b →
      object_in w (porter nester words) reference_of nester r ≡ Ok old → field_of n b ≡ Some f →
      call_row w (porter nester words) None (GetPtr s x n r)
      ≡ Goes (Alter (r ∷ nester) (SetPointer (field_pointer f)) ∷ []) (Answered status.OK (field_number f ∷ []))
  unfolding call_row get_ptr
  get_ptr-row s x n r space b old f h there ref field = rw (h, there, ref, field) refl

  abbrev pub located_as : Path → Result Ptr ℕ → Outcome
  located_as top (Err status) = Goes [] (Answered status [])
  located_as top (Ok to) = elim (way_to top to) [
    | None ↦ Goes [] (Answered status.NONE [])
    | Some way ↦ Goes [] (Answered status.OK (way ++ kind_number (kind_at w to) ∷ []))
  ]

  pub locate-row : (r s : ℕ) (top : Path) (to : Ptr) → object_in w (porter nester words) reference_of nester r ≡ Ok to
      → space_argument w (porter nester words) s ≡ Ok top →
      call_row w (porter nester words) None (Locate r s) ≡ located_as top (target_of to)
  unfolding call_row locate
  locate-row r s top to ref place = rw (ref, place) (by (target_of to))
    where
      by_way : (to : Ptr) (o : Option (List ℕ))
          → closed (porter nester words) (with_pick false None
          (or_refuse status.NONE o >>= (λ way. done (porter nester words) [] (way ++ kind_number (kind_at w to) ∷ [])))) ≡ elim o [
            | None ↦ Goes [] (Answered status.NONE [])
            | Some way ↦ Goes [] (Answered status.OK (way ++ kind_number (kind_at w to) ∷ []))
          ]
      by_way to None = refl
      by_way to (Some way) = refl

      by : (r : Result Ptr ℕ) → closed (porter nester words)
          (with_pick false None (r >>= (λ to. or_refuse status.NONE (way_to top to)
          >>= (λ way. done (porter nester words) [] (way ++ kind_number (kind_at w to) ∷ []))))) ≡ located_as top r
      by (Err status) = refl
      by (Ok to) = by_way to (way_to top to)

  pub count-row : (base s x : ℕ) (top space : Path) (b : Body) → (x == OWN_SPACE) ≡ false → space_argument w (porter nester words) base ≡ Ok top
      → space_argument w (porter nester words) s ≡ Ok space →
      object_in w (porter nester words) anything space x ≡ Ok b →
      call_row w (porter nester words) None (CountIn base s x) ≡ Goes [] (Answered status.OK (pointer_count w top nester (x ∷ space) ∷ []))
  unfolding call_row count_in
  count-row base s x top space b other h g there = rw (h, g, other, there) refl

  pub count_space-row : (base s : ℕ) (top space : Path) → space_argument w (porter nester words) base ≡ Ok top
      → space_argument w (porter nester words) s ≡ Ok space →
      call_row w (porter nester words) None (CountIn base s OWN_SPACE) ≡ Goes [] (Answered status.OK (pointer_count w top nester space ∷ []))
  unfolding call_row count_in
  count_space-row base s top space h g = rw (h, g) refl

  pub set_ptr-row : (s x r : ℕ) (space : Path) (b : Body) (to : Ptr) → space_argument w (porter nester words) s ≡ Ok space
      → object_in w (porter nester words) anything space x ≡ Ok b →
      object_in w (porter nester words) reference_of nester r ≡ Ok to → is_frozen_for w me (x ∷ space) ≡ false → has_pointer b ≡ true
      → is_of_kinds (held_kinds b) (kind_at w to) ≡ true →
      call_row w (porter nester words) None (SetPtr s x 0 r) ≡ Goes (Alter (x ∷ space) (SetPointer to) ∷ []) (Answered status.OK [])
  unfolding call_row set_ptr
  set_ptr-row s x r space (Mapping m) to h there ref free has fits = rw (h, there, ref, free, fits) refl
  set_ptr-row s x r space (Region e) to h there ref free has fits = rw (h, there, ref, free, fits) refl
  set_ptr-row s x r space (Reference old) to h there ref free has fits = rw (h, there, ref, free, fits) refl
  set_ptr-row s x r space (Mutex locked) to h there ref free has fits = cc
  set_ptr-row s x r space Cond to h there ref free has fits = cc
  set_ptr-row s x r space (Port set served) to h there ref free has fits = cc
  set_ptr-row s x r space Portset to h there ref free has fits = cc
  set_ptr-row s x r space (Space birth holder) to h there ref free has fits = cc
  set_ptr-row s x r space (Thread_of t) to h there ref free has fits = cc

  or_on : (a b : Bool) → b ≡ true → (a || b) ≡ true
  or_on true b h = refl
  or_on false b h = h

  still : (x : Path) (b : Body) → is_decided_by w me x ≡ true → is_still w (porter nester words) x b ≡ true
  still x (Thread_of t) h = or_on (not (t.stops == 0)) (is_decided_by w me x) h
  still x (Mutex locked) h = refl
  still x b h = refl

  pub set_state-row : (s x : ℕ) (space : Path) (b : Body) → space_argument w (porter nester words) s ≡ Ok space
      → object_in w (porter nester words) anything space x ≡ Ok b →
      is_frozen_for w me (x ∷ space) ≡ false → is_decided_by w me (x ∷ space) ≡ true → is_native b ≡ false → takes_state w space b words ≡ true →
      call_row w (porter nester words) None (SetState s x 0) ≡ Goes (map (Alter (x ∷ space)) (set_edits b words)) (Answered status.OK [])
  unfolding call_row set_state
  set_state-row s x space b h there free mine user takes = rw (h, there, free, user, still (x ∷ space) b mine, takes) refl

  pub page_give-row : (s page : ℕ) (space : Path) → space_argument w (porter nester words) s ≡ Ok space → is_frozen_for w me space ≡ false
      → nat_lt page PAGES ≡ true → w.page space page ≡ None →
      call_row w (porter nester words) None (PageGive s page 0) ≡ Goes (PutPage space page words ∷ []) (Answered status.OK [])
  unfolding call_row page_give
  page_give-row s page space h free fits empty = rw (h, free, fits, empty) refl

  pub link_park-row : (s x i : ℕ) (space : Path) (t : Thread) (port : Option ℕ × Bool) → space_argument w (porter nester words) s ≡ Ok space
      → object_in w (porter nester words) thread_of space x ≡ Ok t →
      object_in w (porter nester words) port_of nester i ≡ Ok port → is_frozen_for w me (x ∷ space) ≡ false →
      call_row w (porter nester words) None (LinkPark s x i)
      ≡ Goes (Alter (x ∷ space) (SetTalk (given_talk (porter nester words) (At (i ∷ nester)) Parked)) ∷ []) (Answered status.OK [])
  unfolding call_row link_park
  link_park-row s x i space t port h there at free = rw (h, there, at, free) refl

  pub fault_park-row : (s x i taken : ℕ) (space : Path) (t : Thread) (port : Option ℕ × Bool) → space_argument w (porter nester words) s ≡ Ok space
      → object_in w (porter nester words) thread_of space x ≡ Ok t →
      object_in w (porter nester words) port_of nester i ≡ Ok port → is_frozen_for w me (x ∷ space) ≡ false →
      call_row w (porter nester words) None (FaultPark s x i taken) ≡
      Goes (Alter (x ∷ space) (SetFault (given_fault (porter nester words) (At (i ∷ nester)) (cond (taken == 1) (Some Parked) None))) ∷ [])
      (Answered status.OK [])
  unfolding call_row fault_park
  fault_park-row s x i taken space t port h there at free = rw (h, there, at, free) refl

  -- what a search comes to, by what it finds
  abbrev pub found_as : Option (ℕ × ℕ) → Outcome
  found_as None = Goes [] (Answered status.NONE [])
  found_as (Some f) = Goes [] (Answered status.OK (f.0 ∷ f.1 ∷ []))

  abbrev pub taken_among : (ℕ → Option Body) → ℕ → ℕ → Option (ℕ × ℕ)
  taken_among there from k = cond (nat_le from k && nat_le k LAST_PORTER_SLOT) (option_map {U = ℕ × ℕ} (λ b. (k, number_of_kind (kind_of b))) (there k)) None

  pub search-row : (s from : ℕ) (space : Path) → space_argument w (porter nester words) s ≡ Ok space →
      call_row w (porter nester words) None (Search s from) ≡ found_as (lowest SLOTS (taken_among (λ k. w.body (k ∷ space)) from))
  unfolding call_row search
  search-row s from space h = rw h (by (lowest SLOTS (taken_among (λ k. w.body (k ∷ space)) from)))
    where
      by : (o : Option (ℕ × ℕ)) → closed (porter nester words)
          (with_pick false None (or_refuse status.NONE o >>= (λ f. done (porter nester words) [] (f.0 ∷ f.1 ∷ [])))) ≡ found_as o
      by None = refl
      by (Some f) = refl

  pub state-row : (s x : ℕ) (space : Path) (b : Body) → space_argument w (porter nester words) s ≡ Ok space
      → object_in w (porter nester words) anything space x ≡ Ok b →
      call_row w (porter nester words) None (GetState s x 0) ≡ Goes [] (Answered status.OK (record_of b))
  unfolding call_row get_state
  state-row s x space b h there = rw (h, there) refl

  -- what a look for pages comes to, and a page that is there
  abbrev pub page_as : Option ℕ → Outcome
  page_as None = Goes [] (Answered status.NONE [])
  page_as (Some page) = Goes [] (Answered status.OK (page ∷ []))

  pub page_next-row : (s from : ℕ) (space : Path) → space_argument w (porter nester words) s ≡ Ok space →
      call_row w (porter nester words) None (PageNext s from) ≡ page_as (next_page w space from)
  unfolding call_row page_next
  page_next-row s from space h = rw h (by (next_page w space from))
    where
      by : (o : Option ℕ) → closed (porter nester words)
          (with_pick false None (or_refuse status.NONE o >>= (λ page. done (porter nester words) [] (page ∷ [])))) ≡ page_as o
      by None = refl
      by (Some page) = refl

  pub page_read-row : (s page : ℕ) (space : Path) (found : List ℕ) → space_argument w (porter nester words) s ≡ Ok space → nat_lt page PAGES ≡ true
      → w.page space page ≡ Some found →
      call_row w (porter nester words) None (PageRead s page 0) ≡ Goes [] (Answered status.OK found)
  unfolding call_row page_read
  page_read-row s page space found h fits there = rw (h, fits, there) refl

  -- ---- places

  space_body : (o : Option Body) → option_map kind_of o ≡ Some kinds.Space → (birth : ℕ) × ((holder : Option Ptr) × (o ≡ Some (Space birth holder)))
  space_body (Some (Space birth holder)) h = (birth, (holder, refl))
  space_body (Some (Mutex locked)) h = cc
  space_body (Some Cond) h = cc
  space_body (Some (Mapping m)) h = cc
  space_body (Some (Region r)) h = cc
  space_body (Some (Port set served)) h = cc
  space_body (Some Portset) h = cc
  space_body (Some (Thread_of t)) h = cc
  space_body (Some (Reference to)) h = cc
  space_body None h = cc

  pub space_pointer : (x : Path) (k : ℕ) → nat_le k LAST_PORTER_SLOT ≡ true → kind_there w (k ∷ x) ≡ Some kinds.Space
      → object_in w (porter nester words) (pointer_to (k ∷ x)) x k ≡ Ok (At (k ∷ x))
  unfolding kind_there
  space_pointer x k fits space = let its = space_body (w.body (k ∷ x)) space in
      object-there (pointer_to (k ∷ x)) x k (Space its.0 its.1.0) (At (k ∷ x)) fits its.1.1 refl

  pub own_named : (s : ℕ) → s ≤ LAST_PORTER_SLOT → kind_there w (s ∷ nester) ≡ Some kinds.Space → space_argument w (porter nester words) s ≡ Ok (s ∷ nester)
  unfolding space_argument handle kind_there
  own_named s low space = let its = space_body (w.body (s ∷ nester)) space in
      rw (ne_eqb s OWN_SPACE (λ e. omega (arith, low, e)), le-leb s LAST_PORTER_SLOT (omega (arith, low)), its.1.1) refl

  pub ref_named : (s : ℕ) (x : Path) → s ≤ LAST_PORTER_SLOT → w.body (s ∷ nester) ≡ Some (Reference (At x)) → kind_there w x ≡ Some kinds.Space
      → space_argument w (porter nester words) s ≡ Ok x
  unfolding space_argument handle kind_there
  ref_named s x low ref space = let its = space_body (w.body x) space in
      rw (ne_eqb s OWN_SPACE (λ e. omega (arith, low, e)), le-leb s LAST_PORTER_SLOT (omega (arith, low)), ref, its.1.1) refl
