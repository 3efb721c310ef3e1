-- The near side of a migration, at each event.
use Rattle.std.proofs.Common.{◌≡◌, ℕ, zero, suc, ◌+◌, ◌≤◌, Bool, true, false, ◌⊎◌, inl, inr, is_some, IsSome, List, [], ◌∷◌, ◌++◌, Option, Some, None}
use Rattle.std.proofs.Common.{option_map}
use Rattle.std.proofs.Common.{refl, sym, ap, subst, arith, ◌∙◌}
use Rattle.fk_model.specs.declared.limits.TheConstants.{OWN_SPACE, LAST_USER_SLOT, LAST_PORTER_SLOT}
use Rattle.fk_model.specs.declared.moves.Ask.{Ask}
use Rattle.fk_model.specs.declared.moves.Ask.TheVariants as asks
use Rattle.fk_model.specs.declared.names.Kind.TheVariants as kinds
use Rattle.fk_model.specs.declared.stage.Stage.{Stage}
use Rattle.fk_model.specs.declared.stage.Stage.TheVariants.{Destroy, SpaceRelease}
use Rattle.fk_model.specs.declared.statuses.status.TheConstants.{OK}
use Rattle.fk_model.specs.Places.{Path, Ptr}
use Rattle.fk_model.specs.Objects.{Body, holds, is_served, kind_of}
use Rattle.fk_model.specs.Objects.Body.{Mutex, Cond, Mapping, Region, Port, Portset, Space, Thread_of, Reference}
use Rattle.fk_model.specs.Cut.{cut}
use Rattle.fk_model.specs.Searches.{objects as all_objects}
use Rattle.fk_model.proofs.walks.Members.{IsIn}
use Rattle.fk_model.specs.Runs.{Event, after, run}
use Rattle.fk_model.specs.Objects.{reference_of, and_then}
use Rattle.fk_model.specs.Whole.{stands_in}
use Rattle.std.proofs.lemmas.Bool.{and_parts, le-leb}
use Rattle.std.proofs.Common.{cond, if◌then◌else◌, not, ◌&&◌, ◌==◌, nat_le, eqb-true}
use Rattle.fk_model.specs.declared.limits.TheConstants.{LAST_SCRATCH_SLOT}
use Rattle.fk_model.specs.StateRows.{is_native}
use Rattle.fk_model.specs.Valid.{birth_of, birth_at, kind_there, is_fit}
use Rattle.fk_model.specs.World.{World}
use Rattle.fk_image.specs.declared.image.image.Image.{Image}
use Rattle.fk_image.specs.Image.Picture.{picture}
use Rattle.fk_image.specs.Image.Valid.{is_valid}
use Rattle.laws_moves.specs.Frozen.Users.{is_users}
use Rattle.laws_moves.specs.Whole.Runnable.{IsProper}
use Rattle.laws_moves.specs.Savable.Savable.{Owes, OwesAsk, IsSound}
use Rattle.laws_moves.proofs.InSavable.Laws.{run_keeps_savable}
use Rattle.laws_subtrees.proofs.InUncut.Stood.{porters_stood, served_stood}
use Rattle.laws_subtrees.proofs.InUncut.Kept.{keeps_uncut}
use Rattle.laws_jobs.specs.Holds.{IsSpaceAt, Held, release}
use Rattle.laws_jobs.specs.Jobs.{MayBegin}
use Rattle.laws_jobs.specs.Leads.{held_world}
use Rattle.laws_jobs.specs.Machines.{Head, no_words, heard, said_of, call_of, IsReadyAt, IsAtCall, IsOwedCall}
use Rattle.laws_jobs.specs.Machines.Head.{Asks, Stops}
use Rattle.laws_jobs.proofs.Filling.{clean_on}
use Rattle.laws_jobs.proofs.Weaving.{now_sound}
use Rattle.laws_migrate.proofs.Counting.{Counted, count_begins, count_waits, count_goes_on}
use Rattle.fk_model.specs.Closed.{Place}
use Rattle.fk_model.specs.Sound.{IsUncut, IsClean}
use Rattle.laws_checkpoint.specs.Assembly.{spaces_met, sought_tasks, gathered_tasks}
use Rattle.laws_checkpoint.specs.Checkpoint as checks
use Rattle.laws_checkpoint.specs.Contents.{Content}
use Rattle.laws_checkpoint.specs.Contents as reads
use Rattle.laws_checkpoint.specs.Foreign.{PLACES, TARGETS, STEPS}
use Rattle.laws_checkpoint.specs.Foreign as seeks
use Rattle.laws_checkpoint.specs.Gather as gathers
use Rattle.laws_checkpoint.specs.Walk.{Met}
use Rattle.laws_checkpoint.specs.Walk as walks
use Rattle.laws_checkpoint.specs.Checkpoint.{asks_as, checkpoint}
use Rattle.laws_checkpoint.specs.Laws.{MaySave}
use Rattle.laws_checkpoint.proofs.Working.{Phase}
use Rattle.laws_checkpoint.proofs.Working.Phase.{AtFirst, AtSecond, AtThird, AtWalks, AtSeeks, AtReads, AtGathers, AtDrops, AtTwoLeft, AtOneLeft, AtReleases}
use Rattle.laws_checkpoint.proofs.Working.Phase.{AtOver}
use Rattle.laws_checkpoint.proofs.Ended.{Came, came}
use Rattle.laws_checkpoint.proofs.Ended.Came.{NeverHeld, InPhase}
use Rattle.laws_checkpoint.proofs.Ended.{checkpoint_meets_contract}
use Rattle.laws_checkpoint.proofs.Imaged.{in_cut}
use Rattle.laws_restore.specs.Restore.Restore.{objects}
use Rattle.laws_restore.specs.Rooms.Rooms.{rooms_of}
use Rattle.laws_restore.specs.Rooms.Restoring.{bound_by, IsRestoreJob}
use Rattle.laws_restore.proofs.InRooms.Restored.{roomed}
use Rattle.laws_handover.specs.NearSide as near
use Rattle.laws_handover.specs.NearSide.{Near, Saved}
use Rattle.laws_handover.specs.Laws.{near_image}
use Rattle.laws_migrate.specs.Births.{IsSpent}
use Rattle.laws_migrate.specs.Clearing.{destroying}
use Rattle.laws_migrate.specs.Gathered.{Gathered}
use Rattle.laws_migrate.specs.Migration.{Why, top, called, told, checked, checked_end, checked_release, IsOthers, HasRoom, IsCalled, IsNearReady}
use Rattle.laws_migrate.proofs.Births.{spent_stays}
use Rattle.laws_migrate.proofs.Clearing.{IsLeft, begun, left_others, left_own, left_last}
use Rattle.laws_migrate.proofs.Gathered.{gathered_image_is_subtree}

-- ---- soundness

pub one_owed : (w : World) (e : Event) → IsProper w e → Owes w e → IsSound w → HasRoom w → IsSound (after w e)
unfolding run
one_owed w e proper owes sound room = run_keeps_savable w (e ∷ []) sound (omega (arith, room)) (proper, owes, tt)

users_owe : (w : World) (x : Path) (ask : Ask) → is_users ask ≡ true → OwesAsk w x ask
users_owe w x (asks.Call stage words) h = cc
users_owe w x asks.Run h = tt
users_owe w x asks.Accept h = tt
users_owe w x (asks.Give words len) h = tt
users_owe w x asks.Over h = tt

pub sound_by_others : (w : World) (e : Event) → IsSound w → IsOthers w e → IsSound (after w e)
sound_by_others w e sound its = one_owed w e (record { fit = its.moves.fit; words = its.words }) (users_owe w e.mover e.ask its.moves.users) sound its.room

-- ---- a checkpoint has a call to make, or is over

asks_on : {A : Type 0} (h : Head A) (stage : Stage) (words : List ℕ) → h ≡ Asks stage words → asks_as h ≡ Asks stage words
asks_on h stage words e = ap asks_as e

module _ (slot birth : ℕ) (w : World) (nester : Path) (low : slot ≤ LAST_USER_SLOT) (may : MayBegin w nester birth) where
  abbrev Works : checks.State → Type 0
  Works t = IsAtCall (checkpoint slot) t

  works_at : (held : Held nester slot w) (sound : IsSound (held_world nester slot w)) (v : World) (t : checks.State)
      → Phase nester slot birth low w may held sound v t → Works t ⊎ ((end : checks.End) × (t ≡ checks.Over end))
  works_at held sound v _ (AtFirst its tidy) = inl (_, _, refl)
  works_at held sound v _ (AtSecond its places tidy) = inl (_, _, refl)
  works_at held sound v _ (AtThird its places targets tidy) = inl (_, _, refl)
  works_at held sound v _ (AtWalks s its asking tidy) = inl (asking.0, asking.1, asks_on _ asking.0 asking.1 asking.2)
  works_at held sound v _ (AtSeeks s its asking tidy) = inl (asking.0, asking.1, asks_on _ asking.0 asking.1 asking.2)
  works_at held sound v _ (AtReads s closed its asking tidy) = inl (asking.0, asking.1, asks_on _ asking.0 asking.1 asking.2)
  works_at held sound v _ (AtGathers s closed its asking tidy) = inl (asking.0, asking.1, asks_on _ asking.0 asking.1 asking.2)
  works_at held sound v _ (AtDrops end verdict its scratched tidy) = inl (_, _, refl)
  works_at held sound v _ (AtTwoLeft end verdict its targets places tidy) = inl (_, _, refl)
  works_at held sound v _ (AtOneLeft end verdict its places tidy) = inl (_, _, refl)
  works_at held sound v _ (AtReleases end verdict its tidy) = inl (_, _, refl)
  works_at held sound v _ (AtOver end verdict same unheld tidy) = inr (end, refl)

  works_or_over : (v : World) (t : checks.State) → Came slot birth w nester low may v t → Works t ⊎ ((end : checks.End) × (t ≡ checks.Over end))
  works_or_over v t (NeverHeld none same over) = inr (checks.Gone, over)
  works_or_over v t (InPhase held sound phase) = works_at held sound v t phase

  -- one that has gathered has held
  pub held_space : (v : World) (t : checks.State) (end : checks.End) → Came slot birth w nester low may v t → t ≡ checks.Releases end
      → IsSpaceAt w (slot ∷ nester)
  held_space v t end (NeverHeld none same over) is = let both : checks_over checks.Gone ≡ checks.Releases end = sym over ∙ is in cc
    where
      checks_over : checks.End → checks.State
      checks_over e = checks.Over e
  held_space v t end (InPhase held sound phase) is = held.space

-- ---- porters stand in last slots

last_slot : (k : ℕ) (b : Body) → stands_in k b ≡ true → is_native b ≡ true → k ≡ LAST_PORTER_SLOT
last_slot k b stands native = by (nat_le k LAST_USER_SLOT) (nat_le k LAST_SCRATCH_SLOT) stands
  where
    no_reference : (b : Body) → is_native b ≡ true → is_some (reference_of b) ≡ true → ⊥
    no_reference (Thread_of t) native some = cc
    no_reference (Reference to) native some = cc
    no_reference b native some = cc

    both : (native_b : Bool) → native_b ≡ true → not native_b ≡ true → ⊥
    both true one two = cc
    both false one two = cc

    by : (t r : Bool) → (if t then not (is_native b) else (if r then is_some (reference_of b) else (k == LAST_PORTER_SLOT && is_native b))) ≡ true
        → k ≡ LAST_PORTER_SLOT
    by true r e = absurd (both (is_native b) native e)
    by false true e = absurd (no_reference b native e)
    by false false e = eqb-true k LAST_PORTER_SLOT (and_parts (k == LAST_PORTER_SLOT) (is_native b) e).0

native_last : (w : World) → IsSound w → (k : ℕ) (x : Path) → holds is_native (w.body (k ∷ x)) ≡ true → k ≡ LAST_PORTER_SLOT
native_last w sound k x there = by (w.body (k ∷ x)) refl there
  where
    by : (o : Option Body) → w.body (k ∷ x) ≡ o → holds is_native o ≡ true → k ≡ LAST_PORTER_SLOT
    by (Some b) e native = last_slot k b (sound.savable.slots_kept k x b e) native
    by None e native = cc

-- ---- a checkpoint comes to its image by its release alone

gathers_never : (contents : List Content) (s : gathers.State) (h : Head (List Ptr)) (end : checks.End) → checks.gathers_on contents s h ≡ checks.Over end → ⊥
gathers_never contents s (Asks stage words) end e = cc
gathers_never contents s (Stops ps) end e = cc

reads_never : (slot : ℕ) (s : reads.State) (h : Head (List Content)) (end : checks.End) → checks.reads_on slot s h ≡ checks.Over end → ⊥
reads_never slot s (Asks stage words) end e = cc
reads_never slot s (Stops contents) end e =
    let next = gathers.begin slot (gathered_tasks contents) [] in
    gathers_never contents next (gathers.head slot next) end e

sought_never : (slot : ℕ) (mets : List Met) (o : Option Place) (end : checks.End) → checks.sought slot mets o ≡ checks.Over end → ⊥
sought_never slot mets (Some place) end e = cc
sought_never slot mets None end e = let next = reads.begin slot (spaces_met mets) [] in reads_never slot next (reads.head slot next) end e

seeks_never : (slot : ℕ) (mets : List Met) (s : seeks.State) (h : Head (Option Place)) (end : checks.End) → checks.seeks_on slot mets s h ≡ checks.Over end → ⊥
seeks_never slot mets s (Asks stage words) end e = cc
seeks_never slot mets s (Stops place) end e = sought_never slot mets place end e

walks_never : (slot : ℕ) (s : walks.State) (h : Head (List Met)) (end : checks.End) → checks.walks_on slot s h ≡ checks.Over end → ⊥
walks_never slot s (Asks stage words) end e = cc
walks_never slot s (Stops mets) end e =
    let next = seeks.begin slot (sought_tasks mets) in
    seeks_never slot mets next (seeks.head slot next) end e

abbrev goes_so : checks.State → Saved checks.State Image Why
goes_so s = near.Goes s

abbrev done_with : Image → checks.State
done_with image = checks.Over (checks.Done image)

not_done : (slot : ℕ) (s : checks.State) (status : ℕ) (words : List ℕ) (image : Image) → checked s ≡ goes_so s
    → checks.next slot s status words ≡ done_with image → ⊥
not_done slot checks.Holds status words image going e = by (status == OK) e
  where
    by : (b : Bool) → cond b (checks.Readies PLACES (TARGETS ∷ STEPS ∷ [])) (checks.Over checks.Gone) ≡ done_with image → ⊥
    by true e = cc
    by false e = cc
not_done slot (checks.Readies r []) status words image going e = walks_never slot walks.begin (walks.head slot walks.begin) (checks.Done image) e
not_done slot (checks.Readies r (x ∷ rest)) status words image going e = cc
not_done slot (checks.Walks s) status words image going e =
    let next = walks.next slot s status words in
    walks_never slot next (walks.head slot next) (checks.Done image) e
not_done slot (checks.Seeks mets s) status words image going e =
    let next = seeks.next slot s status words in
    seeks_never slot mets next (seeks.head slot next) (checks.Done image) e
not_done slot (checks.Reads s) status words image going e =
    let next = reads.next slot s status words in
    reads_never slot next (reads.head slot next) (checks.Done image) e
not_done slot (checks.Gathers contents s) status words image going e =
    let next = gathers.next slot s status words in
    gathers_never contents next (gathers.head slot next) (checks.Done image) e
not_done slot (checks.Drops r [] end) status words image going e = cc
not_done slot (checks.Drops r (x ∷ rest) end) status words image going e = cc
not_done slot (checks.Releases checks.Gone) status words image going e = cc
not_done slot (checks.Releases (checks.Foreign place)) status words image going e = cc
not_done slot (checks.Releases (checks.Done other)) status words image going e = cc
not_done slot (checks.Over checks.Gone) status words image going e = cc
not_done slot (checks.Over (checks.Foreign place)) status words image going e = cc
not_done slot (checks.Over (checks.Done other)) status words image going e = cc

-- ---- where the near side stands

-- an end without an image
abbrev pub IsNone : checks.End → Type 0
IsNone checks.Gone = Unit {0}
IsNone (checks.Foreign place) = Unit {0}
IsNone (checks.Done image) = ⊥

abbrev IsNot : checks.State → Type 0
IsNot t = (image : Image) → t ≡ done_with image → ⊥

-- the world of a first call
abbrev pub hold_or : Option World → World → World
hold_or (Some w) v = w
hold_or None v = v

module _ (slot : ℕ) (low : slot ≤ LAST_USER_SLOT) where
  abbrev root : Path
  root = slot ∷ top

  -- what the handover supposes of the near world, from its beginning to the hold
  pub record IsFresh (w : World) : Type 0 where
    pub sound : IsSound w
    pub clean : IsClean w
    pub uncut : IsUncut w
    pub no_porter : (k : ℕ) (q : Path) → holds is_native (w.body (k ∷ (q ++ root))) ≡ false
    pub unserved : (k : ℕ) (q : Path) → holds is_served (w.body (k ∷ (q ++ root))) ≡ false

  -- the near world at the hold
  pub record Began (w : World) : Type 0 where
    pub birth : ℕ
    pub may : MayBegin w top birth
    pub fresh : IsFresh w

  -- the checkpoint at work, with so many calls made
  abbrev pub Worked : World → World → checks.State → ℕ → Type 0
  Worked w v s n = Counted (checkpoint slot) top w checks.Holds v s n

  pub record IsImageOf (w : World) (image : Image) : Type 0 where
    pub valid : is_valid image ≡ true
    pub pictured : picture image ≡ cut w top slot
    -- the walk of the cut comes to every body
    pub listed : (q : Path) → IsSome ((cut w top slot).body q) → IsIn q ([] ∷ all_objects (cut w top slot))

  abbrev NearSide : Type 0
  NearSide = Near checks.State Image Why

  abbrev goes : checks.State → Saved checks.State Image Why
  goes s = near.Goes s

  abbrev fails : Why → Saved checks.State Image Why
  fails why = near.Fails why

  -- with so many calls of the porter made
  pub data NearAt : ℕ → Option World → World → NearSide → Type 0 where
    Fresh : (v : World) → IsFresh v → NearAt 0 None v (near.Saves checks.Holds)
    Saving : (n : ℕ) (w v : World) (s : checks.State) → Began w → Worked w v s n → checked s ≡ goes s → IsAtCall (checkpoint slot) s
        → NearAt n (Some w) v (near.Saves s)
    Waiting : (n : ℕ) (w v : World) (image : Image) → Began w → Worked w v (checks.Releases (checks.Done image)) n → NearAt n (Some w) v (near.Waits image)
    Clearing : (n : ℕ) (w v : World) (image : Image) (more number m : ℕ) (u : World) → Began w → IsImageOf w image → birth_at w root ≡ Some number → IsSound v
        → IsLeft top slot number v more → Worked w u (checks.Releases (checks.Done image)) m → n + more ≡ m + objects (rooms_of image)
        → NearAt n (Some w) v (near.Clears image more)
    Cleared : (n : ℕ) (w v : World) (image : Image) (number m : ℕ) (u : World) → Began w → IsImageOf w image → birth_at w root ≡ Some number → IsSound v
        → IsSpent v number → Worked w u (checks.Releases (checks.Done image)) m → n ≡ m + objects (rooms_of image) + 1
        → NearAt n (Some w) v (near.Cleared image)
    Cancelling : (n : ℕ) (w v : World) (image : Image) (why : Why) → Began w → Worked w v (checks.Releases (checks.Done image)) n
        → NearAt n (Some w) v (near.Cancels image why)
    Cancelled : (n : ℕ) (w u v : World) (image : Image) (why : Why) → Began w → IsImageOf w image → Worked w u (checks.Over (checks.Done image)) n → IsSound v
        → NearAt n (Some w) v (near.Cancelled image why)
    Failed : (n : ℕ) (w u v : World) (end : checks.End) (why : Why) → Began w → Worked w u (checks.Over end) n → checked_end end ≡ fails why × IsNone end
        → IsSound v → NearAt n (Some w) v (near.Failed why)

  -- ---- others

  none_true : (b : Bool) → (b ≡ true → ⊥) → b ≡ false
  none_true false h = refl
  none_true true h = absurd (h refl)

  still_none : (a b : Bool) → (a ≡ true → b ≡ true) → b ≡ false → a ≡ false
  still_none a b back none = none_true a (λ e. let both = sym none ∙ back e in cc)

  is_quiet : (w : World) (e : Event) → IsUncut w → IsSound (after w e) → (k : ℕ) (q : Path) → holds is_native (w.body (k ∷ (q ++ root))) ≡ false
      → holds is_native ((after w e).body (k ∷ (q ++ root))) ≡ false
  is_quiet w e uncut sound k q none = still_none _ _ (λ h. by h (native_last (after w e) sound k (q ++ root) h)) none
    where
      by : holds is_native ((after w e).body (k ∷ (q ++ root))) ≡ true → k ≡ LAST_PORTER_SLOT → holds is_native (w.body (k ∷ (q ++ root))) ≡ true
      by h same =
          subst (λ (j : ℕ). holds is_native (w.body (j ∷ (q ++ root))) ≡ true) (sym same)
          (porters_stood w e uncut (q ++ root) (subst (λ (j : ℕ). holds is_native ((after w e).body (j ∷ (q ++ root))) ≡ true) same h))

  fresh_others : (v : World) (e : Event) → IsOthers v e → IsFresh v → IsFresh (after v e)
  fresh_others v e its fresh = record {
    sound = sound_by_others v e fresh.sound its;
    clean = clean_on v e its.moves.valid.rooted its.moves.users fresh.clean;
    uncut = keeps_uncut v e fresh.uncut;
    no_porter = λ k q. is_quiet v e fresh.uncut (sound_by_others v e fresh.sound its) k q (fresh.no_porter k q);
    unserved = λ k q. still_none _ _ (served_stood v e fresh.uncut (k ∷ (q ++ root))) (fresh.unserved k q);
  }

  pub near_others : (c : ℕ) (h : Option World) (v : World) (n : NearSide) (e : Event) → IsOthers v e → NearAt c h v n → NearAt c h (after v e) n
  near_others _ _ v _ e its (Fresh _ fresh) = Fresh (after v e) (fresh_others v e its fresh)
  near_others _ _ v _ e its (Saving n w _ s began work going works) =
      Saving n w (after v e) s began (count_waits (checkpoint slot) top w checks.Holds v s e n work works its.moves
      (sound_by_others v e (now_sound (checkpoint slot) top w checks.Holds v s work.work) its)) going works
  near_others _ _ v _ e its (Waiting n w _ image began work) =
      Waiting n w (after v e) image began (count_waits (checkpoint slot) top w checks.Holds v (checks.Releases (checks.Done image)) e n work
      (_, _, refl) its.moves
      (sound_by_others v e (now_sound (checkpoint slot) top w checks.Holds v (checks.Releases (checks.Done image)) work.work) its))
  near_others _ _ v _ e its (Cancelling n w _ image why began work) =
      Cancelling n w (after v e) image why began (count_waits (checkpoint slot) top w checks.Holds v (checks.Releases (checks.Done image)) e n work
      (_, _, refl) its.moves
      (sound_by_others v e (now_sound (checkpoint slot) top w checks.Holds v (checks.Releases (checks.Done image)) work.work) its))
  near_others _ _ v _ e its (Clearing n w _ image more number m u began of named sound left before spends) =
      Clearing n w (after v e) image more number m u began of named (sound_by_others v e sound its)
      (left_others top slot number v e more its.moves left) before spends
  near_others _ _ v _ e its (Cleared n w _ image number m u began of named sound spent before spends) =
      Cleared n w (after v e) image number m u began of named (sound_by_others v e sound its)
      (spent_stays v e number sound.whole.valid sound.whole.few its.moves.fit spent) before spends
  near_others _ _ v _ e its (Cancelled n w u _ image why began of work sound) =
      Cancelled n w u (after v e) image why began of work (sound_by_others v e sound its)
  near_others _ _ v _ e its (Failed n w u _ end why began work is sound) = Failed n w u (after v e) end why began work is (sound_by_others v e sound its)

  -- ---- where a call has come to

  at_call : (n : ℕ) (w v : World) (t : checks.State) → Began w → Worked w v t n → IsAtCall (checkpoint slot) t ⊎ ((end : checks.End) × (t ≡ checks.Over end))
  at_call n w v t began work = works_or_over slot began.birth w top low began.may v t (came slot began.birth w top low began.may v t work.work)

  abbrev saved_so : Saved checks.State Image Why → NearSide
  saved_so (near.Goes s) = near.Saves s
  saved_so (near.Gathers i) = near.Waits i
  saved_so (near.Fails why) = near.Failed why

  lands_over : (n : ℕ) (w v : World) (end : checks.End) → Began w → Worked w v (checks.Over end) n → IsNot (checks.Over end)
      → NearAt n (Some w) v (saved_so (checked_end end))
  lands_over n w v checks.Gone began work none =
      Failed n w v v checks.Gone _ began work (refl, tt) (now_sound (checkpoint slot) top w checks.Holds v (checks.Over checks.Gone) work.work)
  lands_over n w v (checks.Foreign place) began work none =
      Failed n w v v (checks.Foreign place) _ began work (refl, tt) (now_sound (checkpoint slot) top w checks.Holds v
      (checks.Over (checks.Foreign place)) work.work)
  lands_over n w v (checks.Done image) began work none = absurd (none image refl)

  lands_release : (n : ℕ) (w v : World) (end : checks.End) → Began w → Worked w v (checks.Releases end) n → NearAt n (Some w) v (saved_so (checked_release end))
  lands_release n w v checks.Gone began work = Saving n w v (checks.Releases checks.Gone) began work refl (_, _, refl)
  lands_release n w v (checks.Foreign place) began work = Saving n w v (checks.Releases (checks.Foreign place)) began work refl (_, _, refl)
  lands_release n w v (checks.Done image) began work = Waiting n w v image began work

  lands : (n : ℕ) (w v : World) (t : checks.State) → Began w → Worked w v t n → IsNot t → NearAt n (Some w) v (saved_so (checked t))
  lands n w v t began work none = by t (at_call n w v t began work) work none
    where
      off : (t : checks.State) → checked t ≡ goes t → IsAtCall (checkpoint slot) t ⊎ ((end : checks.End) × (t ≡ checks.Over end)) → Worked w v t n
          → ((end : checks.End) → t ≡ checks.Over end → ⊥) → NearAt n (Some w) v (near.Saves t)
      off t going (inl works) work none = Saving n w v t began work going works
      off t going (inr over) work none = absurd (none over.0 over.1)

      by : (t : checks.State) → IsAtCall (checkpoint slot) t ⊎ ((end : checks.End) × (t ≡ checks.Over end)) → Worked w v t n → IsNot t
          → NearAt n (Some w) v (saved_so (checked t))
      by (checks.Releases end) works work none = lands_release n w v end began work
      by (checks.Over end) works work none = lands_over n w v end began work none
      by checks.Holds works work none = off checks.Holds refl works work (λ end e. cc)
      by (checks.Readies r rest) works work none = off (checks.Readies r rest) refl works work (λ end e. cc)
      by (checks.Walks s) works work none = off (checks.Walks s) refl works work (λ end e. cc)
      by (checks.Seeks mets s) works work none = off (checks.Seeks mets s) refl works work (λ end e. cc)
      by (checks.Reads s) works work none = off (checks.Reads s) refl works work (λ end e. cc)
      by (checks.Gathers contents s) works work none = off (checks.Gathers contents s) refl works work (λ end e. cc)
      by (checks.Drops r rest end) works work none = off (checks.Drops r rest end) refl works work (λ end e. cc)

  -- ---- its own calls

  space_number : (o : Option Body) → option_map kind_of o ≡ Some kinds.Space → (n : ℕ) × (h : Option Ptr) × (o ≡ Some (Space n h))
  space_number (Some (Space n h)) e = (n, h, refl)
  space_number (Some (Mutex locked)) e = cc
  space_number (Some Cond) e = cc
  space_number (Some (Mapping m)) e = cc
  space_number (Some (Region r)) e = cc
  space_number (Some (Port set served)) e = cc
  space_number (Some Portset) e = cc
  space_number (Some (Thread_of t)) e = cc
  space_number (Some (Reference to)) e = cc
  space_number None e = cc

  pub birth_is : (w : World) (x : Path) → kind_there w x ≡ Some kinds.Space → (n : ℕ) × (birth_at w x ≡ Some n)
  unfolding kind_there
  birth_is w x space = let its = space_number (w.body x) space in (its.0, ap (λ (o : Option Body). and_then birth_of o) its.2)

  pub began_from : (w : World) → IsFresh w → Began w
  began_from w fresh =
      let its = birth_is w top fresh.sound.whole.valid.rooted.root in
      record { birth = its.0; may = record { sound = fresh.sound; clean = fresh.clean; named = its.1 }; fresh = fresh }

  pub save_of : (w : World) → Began w → IsSpaceAt w root → MaySave w top slot
  unfolding kind_there
  save_of w began space =
      let its = space_number (w.body root) space in
      record {
        uncut = began.fresh.uncut;
        users = record { birth = its.0; holder = its.1; root = its.2; no_porter = porterless its.2; unserved = serverless its.2 };
      }
    where
      porterless : {n : ℕ} {h : Option Ptr} → w.body root ≡ Some (Space n h) → (q : Path) → holds is_native (w.body (q ++ root)) ≡ false
      porterless e [] = rw e refl
      porterless e (k ∷ q) = began.fresh.no_porter k q

      serverless : {n : ℕ} {h : Option Ptr} → w.body root ≡ Some (Space n h) → (q : Path) → holds is_served (w.body (q ++ root)) ≡ false
      serverless e [] = rw e refl
      serverless e (k ∷ q) = began.fresh.unserved k q

  pub owed_sound : (v : World) (stage : Stage) (words : List ℕ) → IsOwedCall v top stage words → IsSound v → HasRoom v
      → IsSound (after v (call_of top stage words))
  owed_sound v stage words owed sound room = one_owed v (call_of top stage words) owed.proper owed.owes sound room

  pub worked_own : (n : ℕ) (w v : World) (s : checks.State) (stage : Stage) (words : List ℕ) → Began w → Worked w v s n → checks.head slot s ≡ Asks stage words
      → IsReadyAt v (call_of top stage words) → HasRoom v
      → Worked w (after v (call_of top stage words)) (heard (checkpoint slot) s (said_of v (call_of top stage words))) (suc n)
  worked_own n w v s stage words began work e ready room =
      let owed = (checkpoint_meets_contract slot began.birth low).later w top v s began.may work.work stage words e in
      let sound = now_sound (checkpoint slot) top w checks.Holds v s work.work in
      count_goes_on (checkpoint slot) top w checks.Holds v s stage words n work e ready (owed_sound v stage words owed sound room)

  saving_own : (n : ℕ) (w v : World) (s : checks.State) (stage : Stage) (words : List ℕ) → Began w → Worked w v s n → checked s ≡ goes s
      → checks.head slot s ≡ Asks stage words → IsCalled v (checks.head slot s) → HasRoom v
      → NearAt (suc n) (Some w) (called v (checks.head slot s)) (saved_so (checked (told (checkpoint slot) v s (checks.head slot s))))
  saving_own n w v s stage words began work going e ready room =
      subst (λ (h : Head checks.End). NearAt (suc n) (Some w) (called v h) (saved_so (checked (told (checkpoint slot) v s h)))) (sym e)
      (lands (suc n) w (after v (call_of top stage words)) (heard (checkpoint slot) s (said_of v (call_of top stage words))) began
      (worked_own n w v s stage words began work e (subst (λ (h : Head checks.End). IsCalled v h) e ready) room)
      (λ image is. not_done slot s _ _ image going is))

  first_own : (v : World) → IsFresh v → IsCalled v (checks.head slot checks.Holds) → HasRoom v
      → NearAt 1 (Some v) (called v (checks.head slot checks.Holds))
      (saved_so (checked (told (checkpoint slot) v checks.Holds (checks.head slot checks.Holds))))
  first_own v fresh ready room =
      let began = began_from v fresh in
      let owed = (checkpoint_meets_contract slot began.birth low).first v top began.may _ _ refl in
      lands 1 v _ _ began (count_begins (checkpoint slot) top v checks.Holds _ _ refl ready (owed_sound v _ _ owed fresh.sound room))
      (λ image is. not_done slot checks.Holds _ [] image refl is)

  -- ---- what it has gathered

  pub record HasGathered (w v : World) (image : Image) : Type 0 where
    pub number : ℕ
    pub named : birth_at w root ≡ Some number
    pub it : Gathered w top slot number image v

  pub has_gathered : (n : ℕ) (w v : World) (image : Image) → Began w → Worked w v (checks.Releases (checks.Done image)) n → HasGathered w v image
  has_gathered n w v image began work =
      let space = held_space slot began.birth w top low began.may v (checks.Releases (checks.Done image)) (checks.Done image)
      (came slot began.birth w top low began.may v (checks.Releases (checks.Done image)) work.work) refl in
      let its = birth_is w root space in
      record {
        number = its.0;
        named = its.1;
        it = gathered_image_is_subtree slot began.birth its.0 w v top image low began.may (save_of w began space) its.1 work.work;
      }

  pub gathered_image : (n : ℕ) (w v : World) (image : Image) → Began w → Worked w v (checks.Releases (checks.Done image)) n → IsImageOf w image
  gathered_image n w v image began work =
      let got = has_gathered n w v image began work in
      let space = held_space slot began.birth w top low began.may v (checks.Releases (checks.Done image)) (checks.Done image)
      (came slot began.birth w top low began.may v (checks.Releases (checks.Done image)) work.work) refl in
      let save = save_of w began space in
      record {
        valid = got.it.valid;
        pictured = got.it.pictured;
        listed = λ q live. in_cut w top slot began.may.sound began.may.clean save.uncut save.users got.it.closed q live;
      }

  -- ---- its stages of destroying

  destroy_owed : (v : World) → IsOwedCall v top (Destroy OWN_SPACE slot) no_words
  unfolding is_fit
  destroy_owed v = record { proper = record { fit = refl; words = refl }; owes = le-leb slot LAST_SCRATCH_SLOT (omega (arith, low)); unpicking = refl }

  pub destroyed_sound : (v : World) → IsSound v → HasRoom v → IsSound (after v (destroying top slot))
  destroyed_sound v sound room = owed_sound v (Destroy OWN_SPACE slot) no_words (destroy_owed v) sound room

  abbrev moved_so : World → NearSide → World
  moved_so w (near.Saves s) = called w (checks.head slot s)
  moved_so w (near.Clears i more) = after w (destroying top slot)
  moved_so w (near.Cancels i why) = after w (release top slot)
  moved_so w (near.Waits i) = w
  moved_so w (near.Cleared i) = w
  moved_so w (near.Cancelled i why) = w
  moved_so w (near.Failed why) = w

  abbrev own_so : World → NearSide → NearSide
  own_so w (near.Saves s) = saved_so (checked (told (checkpoint slot) w s (checks.head slot s)))
  own_so w (near.Clears i zero) = near.Cleared i
  own_so w (near.Clears i (suc more)) = near.Clears i more
  own_so w (near.Cancels i why) = near.Cancelled i why
  own_so w (near.Waits i) = near.Waits i
  own_so w (near.Cleared i) = near.Cleared i
  own_so w (near.Cancelled i why) = near.Cancelled i why
  own_so w (near.Failed why) = near.Failed why

  pub near_own : (c : ℕ) (h : Option World) (v : World) (n : NearSide) → IsNearReady slot v n → HasRoom v → NearAt c h v n
      → NearAt (suc c) (Some (hold_or h v)) (moved_so v n) (own_so v n)
  near_own _ _ _ _ ready room (Fresh v fresh) = first_own v fresh ready room
  near_own _ _ _ _ ready room (Saving n w v s began work going works) = saving_own n w v s works.0 works.1 began work going works.2 ready room
  near_own _ _ _ _ ready room (Clearing n w v image zero number m u began of named sound left before spends) =
      Cleared (suc n) w (after v (destroying top slot)) image number m u began of named (destroyed_sound v sound room)
      (left_last top slot number v sound ready left).1
      before (omega (arith, spends))
  near_own _ _ _ _ ready room (Clearing n w v image (suc more) number m u began of named sound left before spends) =
      let later = destroyed_sound v sound room in
      Clearing (suc n) w (after v (destroying top slot)) image more number m u began of named later (left_own top slot number v sound ready more later left)
      before (omega (arith, spends))
  near_own _ _ _ _ ready room (Cancelling n w v image why began work) =
      let on = worked_own n w v (checks.Releases (checks.Done image)) (SpaceRelease OWN_SPACE slot) no_words began work refl ready room in
      Cancelled (suc n) w (after v (release top slot)) (after v (release top slot)) image why began
      (gathered_image n w v image began work) on
      (now_sound (checkpoint slot) top w checks.Holds (after v (release top slot)) (checks.Over (checks.Done image)) on.work)
  near_own _ _ _ _ ready room (Waiting n w v image began work) = absurd ready
  near_own _ _ _ _ ready room (Cleared n w v image number m u began of named sound spent before spends) = absurd ready
  near_own _ _ _ _ ready room (Cancelled n w u v image why began of work sound) = absurd ready
  near_own _ _ _ _ ready room (Failed n w u v end why began work is sound) = absurd ready

  -- ---- what it decides

  pub image_job : (image : Image) → is_valid image ≡ true → IsRestoreJob slot image []
  image_job image valid = record { low = low; users = refl; valid = valid }

  pub to_clear : (c : ℕ) (h : Option World) (v : World) (n : NearSide) (image : Image) → n ≡ near.Waits image → NearAt c h v n
      → NearAt c h v (near.Clears image (objects (rooms_of image)))
  to_clear _ _ _ _ image e (Waiting n w v other began work) =
      let same : other ≡ image = cc in
      let mine : Worked w v (checks.Releases (checks.Done image)) n = subst (λ (i : Image). Worked w v (checks.Releases (checks.Done i)) n) same work in
      let got = has_gathered n w v image began mine in
      let job = image_job image got.it.valid in
      Clearing n w v image (objects (rooms_of image)) got.number n v began (gathered_image n w v image began mine) got.named
      (now_sound (checkpoint slot) top w checks.Holds v (checks.Releases (checks.Done image)) mine.work)
      (begun top slot got.number (bound_by []) (picture image) (rooms_of image) (roomed slot image [] job) v got.it.may_clear) mine refl
  to_clear _ _ _ _ image e (Fresh v fresh) = cc
  to_clear _ _ _ _ image e (Saving n w v s began work going works) = cc
  to_clear _ _ _ _ image e (Clearing n w v i more number m u began of named sound left before spends) = cc
  to_clear _ _ _ _ image e (Cleared n w v i number m u began of named sound spent before spends) = cc
  to_clear _ _ _ _ image e (Cancelling n w v i why began work) = cc
  to_clear _ _ _ _ image e (Cancelled n w u v i why began of work sound) = cc
  to_clear _ _ _ _ image e (Failed n w u v end why began work is sound) = cc

  pub to_cancel : (c : ℕ) (h : Option World) (v : World) (n : NearSide) (image : Image) (why : Why) → n ≡ near.Waits image → NearAt c h v n
      → NearAt c h v (near.Cancels image why)
  to_cancel _ _ _ _ image why e (Waiting n w v other began work) =
      let same : other ≡ image = cc in
      subst (λ (i : Image). NearAt n (Some w) v (near.Cancels i why)) same (Cancelling n w v other why began work)
  to_cancel _ _ _ _ image why e (Fresh v fresh) = cc
  to_cancel _ _ _ _ image why e (Saving n w v s began work going works) = cc
  to_cancel _ _ _ _ image why e (Clearing n w v i more number m u began of named sound left before spends) = cc
  to_cancel _ _ _ _ image why e (Cleared n w v i number m u began of named sound spent before spends) = cc
  to_cancel _ _ _ _ image why e (Cancelling n w v i other began work) = cc
  to_cancel _ _ _ _ image why e (Cancelled n w u v i other began of work sound) = cc
  to_cancel _ _ _ _ image why e (Failed n w u v end other began work is sound) = cc

  -- ---- its image

  abbrev has_image : Image → Option Image
  has_image i = Some i

  image_so : (w h : World) (image i : Image) → IsImageOf w image → w ≡ h → has_image image ≡ has_image i → IsImageOf h i
  image_so w h image i of here is =
      let same : image ≡ i = cc in
      subst (λ (x : World). IsImageOf x i) here (subst (λ (j : Image). IsImageOf w j) same of)

  pub image_is_of : (c : ℕ) (o : Option World) (h v : World) (n : NearSide) (image : Image) → NearAt c o v n → o ≡ Some h → near_image n ≡ Some image
      → IsImageOf h image
  image_is_of _ _ h _ _ image (Waiting n w v i began work) e is =
      image_so w h i image (gathered_image n w v i began work) (let here : w ≡ h = cc in here) is
  image_is_of _ _ h _ _ image (Clearing n w v i more number m u began of named sound left before spends) e is =
      image_so w h i image of (let here : w ≡ h = cc in here) is
  image_is_of _ _ h _ _ image (Cleared n w v i number m u began of named sound spent before spends) e is =
      image_so w h i image of (let here : w ≡ h = cc in here) is
  image_is_of _ _ h _ _ image (Cancelling n w v i why began work) e is =
      image_so w h i image (gathered_image n w v i began work) (let here : w ≡ h = cc in here) is
  image_is_of _ _ h _ _ image (Cancelled n w u v i why began of work sound) e is = image_so w h i image of (let here : w ≡ h = cc in here) is
  image_is_of _ _ h _ _ image (Fresh v fresh) e is = cc
  image_is_of _ _ h _ _ image (Saving n w v s began work going works) e is = cc
  image_is_of _ _ h _ _ image (Failed n w u v end why began work says sound) e is = cc
