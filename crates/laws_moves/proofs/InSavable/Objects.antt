-- The rows of objects, holds and state keep what can be saved.
use Rattle.std.proofs.Common.{◌≡◌, ℕ, ◌+◌, ◌%◌, ◌≤◌, Bool, true, false, if◌then◌else◌, cond, not, ◌&&◌, ◌||◌, ◌==◌, nat_le, is_some, List, [], ◌∷◌, ◌++◌, map}
use Rattle.std.proofs.Common.{drop, replicate, length, Option, Some, None, option_map, Result, Ok, Err, refl, ap, ◌∙◌, arith}
use Rattle.std.specs.List.{list_any}
use Rattle.std.proofs.lemmas.Bool.{and_parts, eqb-true, leb-true, le-leb}
use Rattle.std.proofs.lemmas.List.{length-append, length-take-le, length-drop}
use Rattle.fk_model.specs.declared.limits.TheConstants.{LAST_USER_SLOT, LAST_SCRATCH_SLOT, LAST_PORTER_SLOT, MOST_STOPS, PAGE_WORDS, RECORD_WORDS}
use Rattle.fk_model.specs.declared.names.Kind.TheVariants as kinds
use Rattle.fk_model.specs.declared.stage.Stage.{Stage}
use Rattle.fk_model.specs.declared.statuses.status.TheConstants.{BADHANDLE}
use Rattle.fk_model.specs.Places.{Path, same_path, strip, is_within, parent, Ptr, leads_to}
use Rattle.fk_model.specs.Places.Ptr.{Null, At}
use Rattle.fk_model.specs.Objects.{Thread, Body, kind_of, space_of, reference_of, and_then, holds}
use Rattle.fk_model.specs.Objects.Mode.{Running, Halted}
use Rattle.fk_model.specs.Objects.Body.{Mutex, Cond, Mapping, Region, Port, Portset, Space, Thread_of, Reference}
use Rattle.fk_model.specs.Calls.{todo_of}
use Rattle.fk_model.specs.World.{World, Change, apply_all}
use Rattle.fk_model.specs.World.Change.{Alter, MakeSpace, Kill, Move}
use Rattle.fk_model.specs.World.Edit.{SetPointer, SetHolder}
use Rattle.fk_model.specs.Searches.{leaf, beneath}
use Rattle.fk_model.specs.Holds.{holder_of}
use Rattle.fk_model.specs.Reach.{words_at}
use Rattle.fk_model.specs.Outcomes.{Outcome, Caller, path_of, last_slot, done, done_at}
use Rattle.fk_model.specs.Readers.{and_read, slot_for, seen_as, anything, object_in, space_argument, referred, kind_at, own_page}
use Rattle.fk_model.specs.SpaceRows.{has_porter, is_held_by_other, space_hold, space_release, hold_set, space_make_held}
use Rattle.fk_model.specs.Records.{record_of, calling_by, mode_of_record, is_mode, takes_state, set_edits, record_registers, word}
use Rattle.fk_model.specs.StateRows.{Field, field_number, is_native, shows, shows_to, get_state, sets_record, record_at, sets_from, set_state, get_ptr, set_ptr}
use Rattle.fk_model.specs.StateRows.{is_bad_record_address}
use Rattle.fk_model.specs.ObjectRows.{new_object, create, kills, destroys, destroy, rename, search as search_row, point, clear, target_of, way_to, kind_number}
use Rattle.fk_model.specs.ObjectRows.{locate, count_in}
use Rattle.fk_model.specs.Valid.{IsConsistent, IsRooted, kind_there}
use Rattle.fk_model.specs.Whole.{is_scratch_slot, is_porters, KeepsSlots}
use Rattle.fk_model.proofs.walks.PlaceLaws.{same_path_eq, same_path_refl, strip_some, leads_to_at}
use Rattle.laws_moves.proofs.InMachine.safety.Reads.{IsCaller, kind-there, object_in-found}
use Rattle.laws_moves.specs.Savable.Savable.{may_make, MayMake, NamesHolderOutside, LeavesNoScratch}
use Rattle.laws_moves.proofs.InSavable.Refusals.{kept_row}
use Rattle.laws_moves.proofs.InSavable.Words.{AreWords, words-at, words-take, words-drop, words-zeros}
use Rattle.laws_moves.proofs.InSavable.Reached.{Memory}
use Rattle.laws_moves.proofs.InSavable.Answers.{field-word, taken-words, way-words, record-words}
use Rattle.laws_moves.proofs.InSavable.Scratch.{ScratchKept, stands-porter}
use Rattle.laws_moves.proofs.InSavable.Kept.{IsTidyThread, IsTidy, AreTidy, IsUsersMode, KeepsScratch, IsOutside, IsKept, AreKept, KeptOutcome, kept-end_all}
use Rattle.laws_moves.proofs.InSavable.Kept.{if-kept}
use Rattle.laws_moves.proofs.InSavable.Kept.{kept-done, kept-done_at, kept-answers, kept-stays, kept-telling}
use Rattle.laws_moves.proofs.InSavable.Persisting.{fits-single, single-pointed}
use Rattle.laws_moves.proofs.InSavable.Standing.{low-stands, scratch-stands, last-kill}
use Rattle.laws_moves.proofs.InSavable.Rows.{own_page-kept, overwritten-words, GivesWords, IsLastStage, answers-alone, runs, halts, calls}

-- ---- slots that a user can name

module _ (c : Caller) (user : c.is_porter ≡ false) where
  last_users : last_slot c ≡ LAST_USER_SLOT
  last_users = rw user refl

  pub slot-low : (k j : ℕ) → slot_for c k ≡ Ok j → nat_le k LAST_USER_SLOT ≡ true
  slot-low k j h = by (nat_le k (last_slot c)) refl h
    where
      by : (t : Bool) → nat_le k (last_slot c) ≡ t → cond {A = Result ℕ ℕ} t (Ok k) (Err BADHANDLE) ≡ Ok j → nat_le k LAST_USER_SLOT ≡ true
      by true e h = rw last_users at e
      by false e h = cc

  read-slot : {A : Type 0} (r : Result ℕ ℕ) (go : ℕ → Result A ℕ) (a : A) → and_read r go ≡ Ok a → (j : ℕ) × (r ≡ Ok j)
  read-slot (Ok j) go a h = (j, refl)
  read-slot (Err status) go a h = cc

  pub object-low : {A : Type 0} (w : World) (view : Body → Option A) (s : Path) (k : ℕ) (a : A) → object_in w c view s k ≡ Ok a →
      nat_le k LAST_USER_SLOT ≡ true
  unfolding object_in
  object-low w view s k a h = let read = read-slot (slot_for c k) (λ k. seen_as view (w.body (k ∷ s))) a h in slot-low k read.0 read.1

-- a call for porters alone, or a number that is a user's or that a porter owes
abbrev pub IfPorter : Caller → Type 0 → Type 0
IfPorter c Owed = c.is_porter ≡ true → Owed

-- ---- create

module _ (w : World) where
  abbrev IfKept : Option Change → Type 0
  IfKept None = Unit {0}
  IfKept (Some change) = IsKept w change

  pick-kept : (t : Bool) (change : Change) (rest : Option Change) → IsKept w change → IfKept rest → IfKept (if t then Some change else rest)
  pick-kept true change rest here others = here
  pick-kept false change rest here others = others

  abbrev new_thread : Thread
  new_thread = record { mode = Running (replicate 16 0); counter = 0; stops = 1; talk = None; fault = None }

  new-thread : IsTidyThread (record { mode = Running (replicate 16 0); counter = 0; stops = 1; talk = None; fault = None })
  new-thread = record {
    shaped = refl;
    stops = omega arith;
    code = tt;
    numbers = words-zeros 16;
    counter = refl;
    moved = tt;
    missing = tt;
  }

  -- a user's slot is none of scratch
  no-scratch : (k : ℕ) → nat_le k LAST_USER_SLOT ≡ true → {P : Type 0} → is_scratch_slot k ≡ true → P
  no-scratch k low scratch = absurd (by (nat_le k LAST_USER_SLOT) low (and_parts (not (nat_le k LAST_USER_SLOT)) (nat_le k LAST_SCRATCH_SLOT) scratch).0)
    where
      by : (t : Bool) → t ≡ true → not t ≡ true → ⊥
      by true e h = cc
      by false e h = cc

  new-low : (k : ℕ) (s : Path) (kind : ℕ) → nat_le k LAST_USER_SLOT ≡ true → IfKept (new_object (k ∷ s) kind)
  new-low k s kind low =
      pick-kept (kind == 1) _ _ (low-stands k (Mutex false) low refl, tt, no-scratch k low)
      (pick-kept (kind == 2) _ _ (low-stands k Cond low refl, tt, no-scratch k low)
      (pick-kept (kind == 3) _ _ (
        low-stands k (Mapping (record { first = 0; count = 1; offset = 0; write = false; region = Null })) low refl,
        tt,
        no-scratch k low,
      )
      (pick-kept (kind == 4) _ _ (low-stands k (Region (record { first = 0; count = 1; write = false; keeper = Null })) low refl, tt, no-scratch k low)
      (pick-kept (kind == 5) _ _ (low-stands k (Port None false) low refl, tt, no-scratch k low)
      (pick-kept (kind == 6) _ _ (low-stands k Portset low refl, tt, no-scratch k low)
      (pick-kept (kind == 7) _ _ (low, tt) (pick-kept (kind == 8) _ _ (low-stands k (Thread_of new_thread) low refl, new-thread, no-scratch k low)
      (pick-kept (kind == 9) _ None (low-stands k (Reference Null) low refl, tt, no-scratch k low) tt))))))))

  new-scratch : (k : ℕ) (s : Path) (kind : ℕ) → kind ≡ 9 → nat_le k LAST_SCRATCH_SLOT ≡ true → is_porters w s ≡ true → IfKept (new_object (k ∷ s) kind)
  new-scratch k s kind nine scratch porters = rw nine (scratch-stands k (Reference Null) scratch refl refl, tt, λ h. porters)

  new-kept : (k : ℕ) (s : Path) (kind : ℕ) → may_make w s k kind ≡ true → IfKept (new_object (k ∷ s) kind)
  new-kept k s kind may = by (nat_le k LAST_USER_SLOT) refl (kind == 9) refl (nat_le k LAST_SCRATCH_SLOT) refl (is_porters w s) refl may
    where
      by : (low : Bool) → nat_le k LAST_USER_SLOT ≡ low → (nine : Bool) → (kind == 9) ≡ nine → (scratch : Bool) → nat_le k LAST_SCRATCH_SLOT ≡ scratch →
          (porters : Bool) → is_porters w s ≡ porters → (low || (nine && scratch && porters)) ≡ true → IfKept (new_object (k ∷ s) kind)
      by true a nine b scratch d porters e h = new-low k s kind a
      by false a true b true d true e h = new-scratch k s kind (eqb-true kind 9 b) d e
      by false a true b true d false e h = cc
      by false a true b false d porters e h = cc
      by false a false b scratch d porters e h = cc

  create-goes : (c : Caller) (s x j kind : ℕ) (space : Path) (made : Change) → IfPorter c (MayMake w c s x kind) → space_argument w c s ≡ Ok space →
      slot_for c x ≡ Ok j → new_object (x ∷ space) kind ≡ Some made → KeptOutcome w (done c (made ∷ []) [])
  create-goes c s x j kind space made owed place slot new =
      let kept = new-kept x space kind (may c.is_porter refl) in kept-done w c (made ∷ []) (rw new at kept, tt)
    where
      may : (t : Bool) → c.is_porter ≡ t → may_make w space x kind ≡ true
      may true e = owed e space place
      may false e = rw (slot-low c e x j slot) refl

  pub create-kept : (c : Caller) (s x kind : ℕ) → IfPorter c (MayMake w c s x kind) → KeptOutcome w (create w c s x kind)
  unfolding create
  create-kept c s x kind owed = search (kept_row, create-goes) depth 9

  -- ---- destroy and rename

  destroys-kept : (c : Caller) (x gone : Path) → IsKept w (Kill gone) → KeptOutcome w (destroys w c x gone)
  destroys-kept c x gone last =
      kept-telling w _ _ (if-kept w (same_path gone x) _ _ (kept-done w c (kills w gone) kept) (kept-stays w c (kills w gone) kept))
    where
      kept : AreKept w (kills w gone)
      kept = (last, kept-end_all _ _)

  scratch-low : (k : ℕ) → nat_le k LAST_USER_SLOT ≡ true → nat_le k LAST_SCRATCH_SLOT ≡ true
  scratch-low k low = let few = leb-true k LAST_USER_SLOT low in le-leb k LAST_SCRATCH_SLOT (omega (arith, few))

  destroy-goes : KeepsSlots w → (c : Caller) (x : ℕ) (space : Path) (b : Body) → IfPorter c (nat_le x LAST_SCRATCH_SLOT ≡ true) →
      object_in w c anything space x ≡ Ok b → KeptOutcome w (destroys w c (x ∷ space) (leaf w (x ∷ space)))
  destroy-goes stand c x space b owed read = destroys-kept c (x ∷ space) (leaf w (x ∷ space)) (last-kill w stand x space (named c.is_porter refl))
    where
      named : (t : Bool) → c.is_porter ≡ t → nat_le x LAST_SCRATCH_SLOT ≡ true
      named true e = owed e
      named false e = scratch-low x (object-low c e w anything space x b read)

  pub destroy-kept : KeepsSlots w → (c : Caller) (s x : ℕ) → IfPorter c (nat_le x LAST_SCRATCH_SLOT ≡ true) → KeptOutcome w (destroy w c s x)
  unfolding destroy
  destroy-kept stand c s x owed = search (kept_row, destroy-goes) depth 9

  not-off : (b : Bool) → not b ≡ false → b ≡ true
  not-off true h = refl
  not-off false h = cc

  rename-goes : (me : Path) (c : Caller) (x y : ℕ) (space : Path) (b : Body) → IfPorter c (nat_le x LAST_USER_SLOT ≡ true) →
      object_in w c anything space x ≡ Ok b → not (nat_le y LAST_USER_SLOT) ≡ false → KeptOutcome w (done_at me c (Move (x ∷ space) y ∷ []) [])
  rename-goes me c x y space b owed read fits = kept-done_at w me c (Move (x ∷ space) y ∷ []) ((named c.is_porter refl, not-off _ fits), tt)
    where
      named : (t : Bool) → c.is_porter ≡ t → nat_le x LAST_USER_SLOT ≡ true
      named true e = owed e
      named false e = object-low c e w anything space x b read

  pub rename-kept : (c : Caller) (s x y : ℕ) → IfPorter c (nat_le x LAST_USER_SLOT ≡ true) → KeptOutcome w (rename w c s x y)
  unfolding rename
  rename-kept c s x y owed = search (kept_row, rename-goes) depth 12

  -- ---- references, and what is answered alone

  pub point-kept : (c : Caller) (s x s2 x2 : ℕ) → KeptOutcome w (point w c s x s2 x2)
  unfolding point
  point-kept c s x s2 x2 = search (kept_row, kept-done) depth 9

  pub clear-kept : (c : Caller) (s x : ℕ) → KeptOutcome w (clear w c s x)
  unfolding clear
  clear-kept c s x = search (kept_row, kept-done) depth 9

  pub search_row-kept : (c : Caller) → IsLastStage w c → (s from : ℕ) → KeptOutcome w (search_row w c s from)
  unfolding search_row
  search_row-kept c last s from = search (kept_row, answers-alone, taken-words)

  locate-goes : IsConsistent w → IsRooted w → (c : Caller) → IsLastStage w c → (reference : ℕ) (space : Path) (p to : Ptr) (way : List ℕ) →
      object_in w c reference_of c.space reference ≡ Ok p → target_of p ≡ Ok to → way_to space to ≡ Some way →
      KeptOutcome w (done c [] (way ++ kind_number (kind_at w to) ∷ []))
  locate-goes valid rooted c last reference space p to way read target found =
      answers-alone w c last _ (way-words w valid rooted c reference space p to way read target found)

  pub locate-kept : IsConsistent w → IsRooted w → (c : Caller) → IsLastStage w c → (reference s : ℕ) → KeptOutcome w (locate w c reference s)
  unfolding locate
  locate-kept valid rooted c last reference s = search (kept_row, locate-goes) depth 9

  -- a porter is answered alone
  answers-porter : (c : Caller) → c.is_porter ≡ true → (answers : List ℕ) → KeptOutcome w (done c [] answers)
  answers-porter c porter answers = kept-answers w c [] answers tt (λ user. absurd (let no = porter in cc))

  pub count_in-kept : (c : Caller) → c.is_porter ≡ true → (base s x : ℕ) → KeptOutcome w (count_in w c base s x)
  unfolding count_in
  count_in-kept c porter base s x = search (kept_row, answers-porter) depth 9

  -- ---- holds

  space-there : (c : Caller) (x : ℕ) (space : Path) (holder : Option Ptr) → object_in w c space_of space x ≡ Ok holder →
      kind_there w (x ∷ space) ≡ Some kinds.Space
  space-there c x space holder read =
      let found = object_in-found w c space_of space x holder read in
      kind-there w (x ∷ space) found.body found.there ∙ ap (λ k. Some k) (kind found.body found.seen)
    where
      kind : (b : Body) → space_of b ≡ Some holder → kind_of b ≡ kinds.Space
      kind (Space birth old) seen = refl
      kind (Mutex locked) seen = cc
      kind b seen = cc

  -- a thread beside a space, or beneath one in which that doesn't lie
  outside-of : (root : Path) (k : ℕ) (s : Path) → same_path (k ∷ s) root ≡ false → is_within root s ≡ false → is_within root (k ∷ s) ≡ false
  unfolding strip
  outside-of root k s apart out = rw apart (none (strip root s) out)
    where
      none : (o : Option Path) → is_some o ≡ false → is_some (option_map (λ q. k ∷ q) o) ≡ false
      none None h = refl
      none (Some q) h = cc

  me-apart : (c : Caller) → IsCaller w c → (x : Path) → kind_there w x ≡ Some kinds.Space → same_path (path_of c) x ≡ false
  me-apart c caller x kind = by (same_path (path_of c) x) refl
    where
      by : (t : Bool) → same_path (path_of c) x ≡ t → t ≡ false
      by true e =
          let here = same_path_eq (path_of c) x e in
          let thread = caller.thread in
          let other : kind_there w (path_of c) ≡ Some kinds.Space = rw here kind in
          cc
      by false e = refl

  -- who holds a space already, or comes to hold it, leaves scratch with porters
  or-either : (a b c : Bool) → (b ≡ true → c ≡ true) → (a || b) ≡ true → (a || c) ≡ true
  or-either true b c second h = refl
  or-either false b c second h = second h

  held-scratch : ScratchKept w → (x : Path) (new : Option Ptr) → (holds (leads_to (LAST_PORTER_SLOT ∷ parent x)) (holder_of (w.body x)) ≡ true →
      holds (leads_to (LAST_PORTER_SLOT ∷ parent x)) new ≡ true) → KeepsScratch w x new
  held-scratch kept x new still k scratch live = or-either (holds is_native (w.body (LAST_PORTER_SLOT ∷ x))) _ _ still (kept k x scratch live)

  hold-goes : ScratchKept w → (c : Caller) → IsCaller w c → (x : ℕ) (space : Path) (holder : Option Ptr) → object_in w c space_of space x ≡ Ok holder →
      is_within (x ∷ space) c.space ≡ false →
      (not (is_held_by_other w (path_of c) (x ∷ space)) && not (list_any (has_porter w) (beneath w (x ∷ space)))) ≡ true →
      KeptOutcome w (done c (Alter (x ∷ space) (SetHolder (Some (At (path_of c)))) ∷ []) [])
  hold-goes kept c caller x space holder read out may =
      kept-done w c (Alter (x ∷ space) (SetHolder (Some (At (path_of c)))) ∷ []) (
        (
          outside-of (x ∷ space) c.slot c.space (me-apart c caller (x ∷ space) (space-there c x space holder read)) out,
          held-scratch kept (x ∷ space) (Some (At (path_of c))) (mine (holder_of (w.body (x ∷ space))) (and_parts _ _ may).0),
        ),
        tt,
      )
    where
      mine : (o : Option Ptr) → not (holds (λ holder. not (leads_to (path_of c) holder)) o) ≡ true → holds (leads_to (LAST_PORTER_SLOT ∷ space)) o ≡ true →
          same_path (path_of c) (LAST_PORTER_SLOT ∷ space) ≡ true
      mine None own h = cc
      mine (Some p) own h = on (leads_to (path_of c) p) refl own
        where
          on : (t : Bool) → leads_to (path_of c) p ≡ t → not (not t) ≡ true → same_path (path_of c) (LAST_PORTER_SLOT ∷ space) ≡ true
          on true e own =
              let me = leads_to_at (path_of c) p e in
              let porter = leads_to_at (LAST_PORTER_SLOT ∷ space) p h in
              let same : path_of c ≡ LAST_PORTER_SLOT ∷ space = cc in
              rw same (same_path_refl (LAST_PORTER_SLOT ∷ space))
          on false e own = cc

  pub space_hold-kept : ScratchKept w → (c : Caller) → IsCaller w c → (s x : ℕ) → KeptOutcome w (space_hold w c s x)
  unfolding space_hold
  space_hold-kept kept c caller s x = search (kept_row, hold-goes) depth 12

  -- a user's hold is no porter's
  abbrev pub IsUsersHold : Caller → Type 0
  IsUsersHold c = c.is_porter ≡ false → holds is_native (w.body (path_of c)) ≡ false

  release-goes : KeepsSlots w → IsConsistent w → ScratchKept w → (c : Caller) → IsUsersHold c → (s x : ℕ) → IfPorter c (LeavesNoScratch w c s x) →
      (space : Path) (holder : Option Ptr) → space_argument w c s ≡ Ok space → object_in w c space_of space x ≡ Ok holder →
      not (holds (leads_to (path_of c)) holder) ≡ false → KeptOutcome w (done c (Alter (x ∷ space) (SetHolder None) ∷ []) [])
  release-goes stand valid kept c users s x owed space holder place read own =
      kept-done w c (Alter (x ∷ space) (SetHolder None) ∷ []) ((tt, none), tt)
    where
      held : holder_of (w.body (x ∷ space)) ≡ holder
      held = let found = object_in-found w c space_of space x holder read in rw found.there (ap (and_then (λ holder. holder)) found.seen)

      -- nobody but the porter beside it holds it where it has scratch
      users-none : c.is_porter ≡ false → (p : Ptr) → holder ≡ Some p → leads_to (LAST_PORTER_SLOT ∷ space) p ≡ true → leads_to (path_of c) p ≡ true → ⊥
      users-none user p is porter me =
          let at = leads_to_at (LAST_PORTER_SLOT ∷ space) p porter in
          let own = leads_to_at (path_of c) p me in
          let same : path_of c ≡ LAST_PORTER_SLOT ∷ space = cc in
          let native = stands-porter w valid stand (x ∷ space) (held ∙ is ∙ ap (λ p. Some p) at) in
          let never = users user in
          let clash : holds is_native (w.body (LAST_PORTER_SLOT ∷ space)) ≡ false = rw same at never in
          cc

      none : KeepsScratch w (x ∷ space) None
      none k scratch live = by c.is_porter refl
        where
          test : (o : Option Ptr) → holder ≡ o → c.is_porter ≡ false → holds (leads_to (LAST_PORTER_SLOT ∷ space)) o ≡ true
              → not (holds (leads_to (path_of c)) o) ≡ false → ⊥
          test None is user h own = cc
          test (Some p) is user h own = users-none user p is h (not-off _ own)

          by : (t : Bool) → c.is_porter ≡ t → (holds is_native (w.body (LAST_PORTER_SLOT ∷ x ∷ space)) || false) ≡ true
          by true e = rw (owed e space place k scratch live) refl
          by false e = or-either (holds is_native (w.body (LAST_PORTER_SLOT ∷ x ∷ space))) _ false
              (λ h. absurd (test holder refl e (rw held at h) own)) (kept k (x ∷ space) scratch live)

  pub space_release-kept : KeepsSlots w → IsConsistent w → ScratchKept w → (c : Caller) → IsUsersHold c → (s x : ℕ) → IfPorter c (LeavesNoScratch w c s x) →
      KeptOutcome w (space_release w c s x)
  unfolding space_release
  space_release-kept stand valid kept c users s x owed = search (kept_row, release-goes) depth 9

  holds-outside : (c : Caller) (s x thread : ℕ) (space : Path) (holder : Ptr) → NamesHolderOutside w c s x thread → LeavesNoScratch w c s x →
      space_argument w c s ≡ Ok space → referred w c kinds.Thread thread ≡ Ok holder →
      KeptOutcome w (done c (Alter (x ∷ space) (SetHolder (Some holder)) ∷ []) [])
  holds-outside c s x thread space holder owed clear place named =
      kept-done w c (Alter (x ∷ space) (SetHolder (Some holder)) ∷ []) ((out holder named, none), tt)
    where
      out : (p : Ptr) → referred w c kinds.Thread thread ≡ Ok p → IsOutside (x ∷ space) (Some p)
      out (At y) named = owed space y place named
      out Null named = tt
      out p named = tt

      none : KeepsScratch w (x ∷ space) (Some holder)
      none k scratch live = rw (clear space place k scratch live) refl

  pub hold_set-kept : (c : Caller) (s x thread : ℕ) → NamesHolderOutside w c s x thread → LeavesNoScratch w c s x → KeptOutcome w (hold_set w c s x thread)
  unfolding hold_set
  hold_set-kept c s x thread owed clear = search (kept_row, holds-outside) depth 9

  beside : (x k : ℕ) (s : Path) → same_path (k ∷ s) (x ∷ s) ≡ false → is_within (x ∷ s) (k ∷ s) ≡ false
  beside x k s apart = outside-of (x ∷ s) k s apart (by (strip (x ∷ s) s) refl)
    where
      by : (o : Option Path) → strip (x ∷ s) s ≡ o → is_some o ≡ false
      by None e = refl
      by (Some q) e = let long = ap length (strip_some (x ∷ s) s q e) in absurd (omega (arith, long, length-append q (x ∷ s)))

  made-apart : (c : Caller) → IsCaller w c → (x : Path) → is_some (w.body x) ≡ false → same_path (path_of c) x ≡ false
  unfolding kind_there
  made-apart c caller x empty = by (same_path (path_of c) x) refl
    where
      live : (o : Option Body) → option_map kind_of o ≡ Some kinds.Thread → is_some o ≡ false → ⊥
      live None h e = cc
      live (Some b) h e = cc

      by : (t : Bool) → same_path (path_of c) x ≡ t → t ≡ false
      by true e = let here = same_path_eq (path_of c) x e in absurd (live (w.body (path_of c)) caller.thread (rw here empty))
      by false e = refl

  make-goes : (c : Caller) → IsCaller w c → (x : ℕ) → nat_le x LAST_USER_SLOT ≡ true → is_some (w.body (x ∷ c.space)) ≡ false →
      KeptOutcome w (done c (MakeSpace (x ∷ c.space) (Some (At (path_of c))) ∷ []) [])
  make-goes c caller x low empty = kept-done w c (MakeSpace (x ∷ c.space) (Some (At (path_of c))) ∷ [])
      ((low, beside x c.slot c.space (made-apart c caller (x ∷ c.space) empty)), tt)

  pub space_make_held-kept : (c : Caller) → IsCaller w c → (x : ℕ) → nat_le x LAST_USER_SLOT ≡ true → KeptOutcome w (space_make_held w c x)
  unfolding space_make_held
  space_make_held-kept c caller x low = search (kept_row, make-goes) depth 9

  -- ---- state

  tidy-there : AreTidy w → (x : Path) (b : Body) → w.body x ≡ Some b → IsTidy b
  tidy-there tidy x (Thread_of t) there = tidy x t (rw there refl)
  tidy-there tidy x (Mutex locked) there = tt
  tidy-there tidy x b there = tt

  there-of : (c : Caller) (k : ℕ) (space : Path) (b : Body) → object_in w c anything space k ≡ Ok b → w.body (k ∷ space) ≡ Some b
  there-of c k space b read =
      let found = object_in-found w c anything space k b read in
      let same : found.body ≡ b = (let e : Some found.body ≡ Some b = found.seen in cc) in
      rw same at found.there

  shows_to-kept : Memory w → IsRooted w → AreTidy w → (c : Caller) (k : ℕ) (space : Path) (b : Body) (address : ℕ) →
      object_in w c anything space k ≡ Ok b → KeptOutcome w (shows_to w c b address)
  shows_to-kept memory rooted tidy c k space b address read = by c.is_porter refl
    where
      all : AreWords (record_of b)
      all =
          let there = there-of c k space b read in
          let good = memory.valid.good (k ∷ space) in
          record-words w memory.valid rooted (k ∷ space) b (tidy-there tidy (k ∷ space) b there) (rw there at good)

      by : (t : Bool) → c.is_porter ≡ t → KeptOutcome w (if t then done c [] (record_of b) else own_page w c address true (shows w c b address))
      by true e = kept-answers w c [] (record_of b) tt (λ user. absurd (let no = e in cc))
      by false e = own_page-kept w memory c address true (shows w c b address)
          (λ s page reached. kept-done w c _ (overwritten-words (words_at w s page) (record_of b) (address % PAGE_WORDS) reached.words all, tt))

  pub get_state-kept : Memory w → IsRooted w → AreTidy w → (c : Caller) (s x address : ℕ) → KeptOutcome w (get_state w c s x address)
  unfolding get_state
  get_state-kept memory rooted tidy c s x address = search (kept_row, shows_to-kept)

  -- the mode that a record says
  record-mode : (o : Option Body) (n : ℕ) (g : List ℕ) (code : ℕ) → holds is_native o ≡ false → length g ≡ 16 → AreWords g → is_mode g n code ≡ true →
      IsUsersMode o (mode_of_record n g code)
  record-mode o n g code mine sixteen all is = by (n == 0) (n == 1) refl (todo_of g) refl
    where
      parts : (nat_le n 2 && (not (n == 1) || is_some (todo_of g)) && nat_le code 255) ≡ true
      parts = (and_parts _ _ is).0

      by : (zero one : Bool) → (n == 1) ≡ one → (todo : Option (List Stage)) → todo_of g ≡ todo →
          IsUsersMode o (if zero then Running g else (if one then calling_by g todo else Halted g code))
      by true one e todo named = runs o g mine sixteen all
      by false true e (Some todo) named = calls o g todo mine sixteen all named
      by false true e None named = runs o g mine sixteen all
      by false false e todo named = halts o g code mine sixteen all (leb-true code 255 (and_parts _ _ parts).1)

  length-of_registers : (words : List ℕ) → RECORD_WORDS ≤ length words → length (record_registers words) ≡ 16
  length-of_registers words long = let rest = length-drop 1 words in length-take-le 16 (drop 1 words) (omega (arith, rest, long))

  edits-kept : (space : Path) (x : Path) (b : Body) (words : List ℕ) → w.body x ≡ Some b → is_native b ≡ false → RECORD_WORDS ≤ length words →
      AreWords words → takes_state w space b words ≡ true → AreKept w (map (Alter x) (set_edits b words))
  unfolding takes_state
  edits-kept space x (Mutex locked) words there user long all takes = (tt, tt)
  edits-kept space x (Mapping m) words there user long all takes = (tt, tt)
  edits-kept space x (Region r) words there user long all takes = (tt, tt)
  edits-kept space x (Port set served) words there user long all takes = (tt, tt)
  edits-kept space x (Thread_of t) words there user long all takes =
      let both = and_parts _ _ (and_parts _ _ takes).1 in (
        (
          record-mode (w.body x) (word words 18) (record_registers words) (word words 19) (rw there user) (length-of_registers words long)
              (words-take 16 (drop 1 words) (words-drop 1 words all)) both.0,
          words-at words all 17,
        ),
        (leb-true (word words 20) MOST_STOPS both.1, tt),
      )
  edits-kept space x b words there user long all takes = tt

  sets-goes : (c : Caller) (space x : Path) (b : Body) (words : List ℕ) → w.body x ≡ Some b → is_native b ≡ false → RECORD_WORDS ≤ length words →
      AreWords words → not (takes_state w space b words) ≡ false → KeptOutcome w (done c (map (Alter x) (set_edits b words)) [])
  sets-goes c space x b words there user long all takes = kept-done w c _ (edits-kept space x b words there user long all (not-off _ takes))

  sets-kept : (c : Caller) (space x : Path) (b : Body) (words : List ℕ) → w.body x ≡ Some b → is_native b ≡ false → RECORD_WORDS ≤ length words →
      AreWords words → KeptOutcome w (sets_record w c space x b words)
  sets-kept c space x b words there user long all = search (kept_row, sets-goes) depth 9

  -- a record lies within its page
  record_place : (address : ℕ) → (address % RECORD_WORDS == 0) ≡ true → address % PAGE_WORDS + RECORD_WORDS ≤ PAGE_WORDS
  record_place address h = let e = eqb-true (address % RECORD_WORDS) 0 h in omega (arith, e)

  users-address : (c : Caller) (address : ℕ) → c.is_porter ≡ false → is_bad_record_address c address ≡ false → (address % RECORD_WORDS == 0) ≡ true
  users-address c address user good = by c.is_porter (address % RECORD_WORDS == 0) user good
    where
      by : (porter fits : Bool) → porter ≡ false → (not porter && not fits) ≡ false → fits ≡ true
      by true fits e h = cc
      by false true e h = refl
      by false false e h = cc

  sets_from-kept : Memory w → (c : Caller) → IfPorter c (length c.words ≡ PAGE_WORDS) → GivesWords c → (space : Path) (k : ℕ) (b : Body) (address : ℕ) →
      object_in w c anything space k ≡ Ok b → is_native b ≡ false → is_bad_record_address c address ≡ false →
      KeptOutcome w (sets_from w c space (k ∷ space) b address)
  sets_from-kept memory c given givens space k b address read user good = by c.is_porter refl
    where
      there : w.body (k ∷ space) ≡ Some b
      there = there-of c k space b read

      go : Path → ℕ → Outcome
      go t page = sets_record w c space (k ∷ space) b (record_at (words_at w t page) address)

      long : (page : List ℕ) → c.is_porter ≡ false → length page ≡ PAGE_WORDS → RECORD_WORDS ≤ length (record_at page address)
      long page user full =
          let place = record_place address (users-address c address user good) in
          let rest = length-drop (address % PAGE_WORDS) page in
          let all = length-take-le RECORD_WORDS (drop (address % PAGE_WORDS) page) (omega (arith, rest, full, place)) in
          omega (arith, all)

      by : (porter : Bool) → c.is_porter ≡ porter →
          KeptOutcome w (if porter then sets_record w c space (k ∷ space) b c.words else own_page w c address false go)
      by true e = sets-kept c space (k ∷ space) b c.words there user (let all = given e in omega (arith, all)) (givens e)
      by false e = own_page-kept w memory c address false go (λ t page reached.
          sets-kept c space (k ∷ space) b _ there user (long (words_at w t page) e reached.full)
          (words-take RECORD_WORDS (drop (address % PAGE_WORDS) (words_at w t page)) (words-drop (address % PAGE_WORDS) (words_at w t page) reached.words)))

  pub set_state-kept : Memory w → (c : Caller) → IfPorter c (length c.words ≡ PAGE_WORDS) → GivesWords c → (s x address : ℕ) →
      KeptOutcome w (set_state w c s x address)
  unfolding set_state
  set_state-kept memory c given givens s x address = search (kept_row, sets_from-kept) depth 9

  get_ptr-goes : (c : Caller) → IsLastStage w c → (x : Path) (to : Ptr) (f : Field) →
      KeptOutcome w (done c (Alter x (SetPointer to) ∷ []) (field_number f ∷ []))
  unfolding apply_all
  get_ptr-goes c last x to f =
      kept-answers w c (Alter x (SetPointer to) ∷ []) (field_number f ∷ []) (tt, tt)
      (λ user. (fits-single (field_number f ∷ []) _ (single-pointed x to w (path_of c) (last user)), (field-word f, tt)))

  pub get_ptr-kept : (c : Caller) → IsLastStage w c → (s x field reference : ℕ) → KeptOutcome w (get_ptr w c s x field reference)
  unfolding get_ptr
  get_ptr-kept c last s x field reference = search (kept_row, get_ptr-goes) depth 9

  pub set_ptr-kept : (c : Caller) (s x field reference : ℕ) → KeptOutcome w (set_ptr w c s x field reference)
  unfolding set_ptr
  set_ptr-kept c s x field reference = search (kept_row, kept-done) depth 12
