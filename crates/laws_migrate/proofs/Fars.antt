-- The far side of a migration, at each event.
use Rattle.std.proofs.Common.{◌≡◌, ℕ, zero, suc, ◌+◌, ◌≤◌, Bool, true, false, cond, ◌==◌, ◌⊎◌, inl, inr, IsSome, List, [], ◌∷◌, Option, Some, None}
use Rattle.std.proofs.Common.{refl, sym, ap, subst, arith, ◌∙◌}
use Rattle.fk_model.specs.declared.limits.TheConstants.{OWN_SPACE, LAST_USER_SLOT, LAST_PORTER_SLOT}
use Rattle.fk_model.specs.declared.stage.Stage.{Stage}
use Rattle.fk_model.specs.declared.stage.Stage.TheVariants.{Destroy, SpaceMakeHeld, SpaceRelease}
use Rattle.fk_model.specs.declared.statuses.status.TheConstants.{OK}
use Rattle.fk_model.specs.Places.{Path}
use Rattle.fk_model.specs.Places.Ptr.{At}
use Rattle.fk_model.specs.Objects.{Body}
use Rattle.fk_model.specs.Holds.{holder_of}
use Rattle.fk_model.specs.Runs.{Event, after}
use Rattle.fk_model.specs.Valid.{birth_at, is_fit}
use Rattle.fk_model.specs.World.{World}
use Rattle.fk_model.specs.Sound.{IsUncut, IsClean}
use Rattle.fk_image.specs.declared.image.image.Image.{Image}
use Rattle.fk_image.specs.Image.Picture.{picture}
use Rattle.fk_image.specs.Image.Valid.{is_valid}
use Rattle.laws_moves.specs.Savable.Savable.{IsSound}
use Rattle.laws_subtrees.proofs.InUncut.Kept.{keeps_uncut}
use Rattle.laws_subtrees.proofs.InUncut.Replaced.{spaces_are_not_replaced}
use Rattle.laws_jobs.specs.Holds.{release}
use Rattle.laws_jobs.specs.Jobs.{MayBegin}
use Rattle.laws_jobs.specs.Machines.{Head, Machine, no_words, heard, said_of, call_of, IsReadyAt, IsAtCall}
use Rattle.laws_jobs.specs.Machines.Head.{Asks}
use Rattle.laws_jobs.proofs.Filling.{clean_on}
use Rattle.laws_jobs.proofs.Weaving.{now_sound}
use Rattle.laws_restore.specs.Sites.Orders.{passes}
use Rattle.laws_restore.specs.Restore.Restore as restores
use Rattle.laws_restore.specs.Restore.Restore.{objects, looked_at}
use Rattle.laws_restore.specs.Restore.Script.{script}
use Rattle.laws_restore.proofs.InRestore.Coming.{Came, came}
use Rattle.laws_restore.proofs.InRestore.Owing.{meets_contract}
use Rattle.laws_restore.specs.Rooms.Rooms.{rooms_of}
use Rattle.laws_restore.specs.Rooms.Restoring.{bound_by, restore_of}
use Rattle.laws_restore.proofs.InRooms.Restored.{roomed, image_restore_ends_so}
use Rattle.laws_handover.specs.FarSide as far
use Rattle.laws_handover.specs.FarSide.{Far, Made}
use Rattle.laws_migrate.specs.Births.{IsSpent}
use Rattle.laws_migrate.specs.Clearing.{destroying}
use Rattle.laws_migrate.specs.Built.{Built}
use Rattle.laws_migrate.specs.Migration.{Why, Job, top, called, told, made, made_end, of_job, IsOthers, HasRoom, IsCalled, IsFarReady, MakesCopy}
use Rattle.laws_migrate.proofs.Births.{spent_stays}
use Rattle.laws_migrate.proofs.Clearing.{IsLeft, begun, left_others, left_own, left_last}
use Rattle.laws_migrate.proofs.Counting.{Counted, count_begins, count_waits, count_goes_on}
use Rattle.laws_migrate.proofs.Built.{numbered, built_is_copy, made_is_held}
use Rattle.laws_migrate.proofs.Nears.{sound_by_others, destroyed_sound, owed_sound, birth_is, image_job, hold_or}

abbrev some_number : ℕ → Option ℕ
some_number n = Some n

pub same_number : (o : Option ℕ) (m n : ℕ) → o ≡ Some m → o ≡ Some n → m ≡ n
same_number o m n one two = let both : some_number m ≡ some_number n = sym one ∙ two in cc

module _ (P : Type 0) (slot : ℕ) (low : slot ≤ LAST_USER_SLOT) where
  abbrev root : Path
  root = slot ∷ top

  abbrev FarSide : Type 0
  FarSide = Far Job Image P Why

  abbrev machine : Image → Machine restores.State restores.End
  machine image = restore_of slot image []

  -- the restore at work, with so many calls made
  abbrev pub Worked : Image → World → World → restores.State → ℕ → Type 0
  Worked image w v s n = Counted (machine image) top w restores.Makes v s n

  -- the far world before the copy is made
  pub record IsEmpty (v : World) : Type 0 where
    pub sound : IsSound v
    pub clean : IsClean v
    pub uncut : IsUncut v

  pub record Began_far (w : World) : Type 0 where
    pub birth : ℕ
    pub may : MayBegin w top birth

  began_far : (v : World) → IsEmpty v → Began_far v
  began_far v its = let named = birth_is slot low v top its.sound.whole.valid.rooted.root in
      record { birth = named.0; may = record { sound = its.sound; clean = its.clean; named = named.1 } }

  abbrev goes : restores.State → Made restores.State Why
  goes s = far.Goes s

  abbrev pub fails : Why → Made restores.State Why
  fails why = far.Fails why

  abbrev job_of : Image → restores.State → Job
  job_of image s = record { image = image; state = s }

  -- what the make in a world has made stands there still
  pub record IsCopy (m v : World) : Type 0 where
    pub uncut : IsUncut v
    pub named : (copy : ℕ) → birth_at (after m (call_of top (SpaceMakeHeld slot) no_words)) root ≡ Some copy → birth_at v root ≡ Some copy

  -- this is its number
  abbrev pub IsNumber : World → ℕ → Type 0
  IsNumber m number = (copy : ℕ) → birth_at (after m (call_of top (SpaceMakeHeld slot) no_words)) root ≡ Some copy → number ≡ copy

  -- nothing is left of it
  abbrev pub IsSpentCopy : World → World → Type 0
  IsSpentCopy m v = (copy : ℕ) → MakesCopy slot m copy → IsSpent v copy

  -- a restore at work or about to begin, and not yet at its release
  pub data MakesAt (image : Image) : ℕ → Option World → World → restores.State → Type 0 where
    Begins : (v : World) → is_valid image ≡ true → IsEmpty v → MakesAt image 0 None v restores.Makes
    Goes_on : (n : ℕ) (w v : World) (s : restores.State) → is_valid image ≡ true → Began_far w → Worked image w v s n → made s ≡ goes s
        → IsAtCall (machine image) s → IsCopy w v → MakesAt image n (Some w) v s

  pub record StandsBuilt (n : ℕ) (w : World) (image : Image) (v : World) : Type 0 where
    pub valid : is_valid image ≡ true
    pub began : Began_far w
    pub work : Worked image w v (restores.Works []) n
    pub copy : IsCopy w v

  -- a restore that has ended without a copy
  pub record HasEnded (n : ℕ) (w : World) (image : Image) (end : restores.End) : Type 0 where
    pub valid : is_valid image ≡ true
    pub began : Began_far w
    pub last : World
    pub work : Worked image w last (restores.Over end) n
    pub undone : end ≡ restores.Done → ⊥

  -- a copy of which so many more than one objects are left, after so many calls
  pub record IsClearing (n : ℕ) (w : World) (image : Image) (more : ℕ) (v : World) : Type 0 where
    pub valid : is_valid image ≡ true
    pub began : Began_far w
    pub last : World
    pub calls : ℕ
    pub work : Worked image w last (restores.Works []) calls
    pub spends : n + more ≡ calls + objects (rooms_of image)
    pub number : ℕ
    pub named : IsNumber w number
    pub left : IsLeft top slot number v more

  pub record IsCleared (n : ℕ) (w : World) (image : Image) : Type 0 where
    pub valid : is_valid image ≡ true
    pub began : Began_far w
    pub last : World
    pub calls : ℕ
    pub work : Worked image w last (restores.Works []) calls
    pub spends : n ≡ calls + objects (rooms_of image) + 1

  -- after so many calls of the porter, of which the first was asked in a world
  pub data FarAt : ℕ → Option World → World → FarSide → Type 0 where
    Listening : (v : World) (got : List P) → IsEmpty v → FarAt 0 None v (far.Listens got)
    Making : (n : ℕ) (o : Option World) (v : World) (image : Image) (s : restores.State) → MakesAt image n o v s
        → FarAt n o v (far.Makes image (job_of image s))
    Standing : (n : ℕ) (w v : World) (image : Image) → StandsBuilt n w image v → FarAt n (Some w) v (far.Built image)
    Releasing : (n : ℕ) (w v : World) (image : Image) → StandsBuilt n w image v → FarAt n (Some w) v (far.Releases image)
    Moved : (n : ℕ) (w u v : World) (image : Image) → is_valid image ≡ true → Began_far w → Worked image w u (restores.Over restores.Done) n → IsSound v
        → FarAt n (Some w) v (far.Moved image)
    Refused : (n : ℕ) (w v : World) (image : Image) (end : restores.End) (why : Why) → HasEnded n w image end → made_end end ≡ fails why → IsSound v
        → IsSpentCopy w v → FarAt n (Some w) v (far.Refuses image why)
    Undoing : (n : ℕ) (o : Option World) (v : World) (image : Image) (s : restores.State) → MakesAt image n o v s
        → FarAt n o v (far.Undoes image (job_of image s))
    Clearing : (n : ℕ) (w v : World) (image : Image) (more : ℕ) (ready : Bool) → IsClearing n w image more v → IsSound v
        → FarAt n (Some w) v (far.Clears image more ready)
    Never : (v : World) → IsSound v → FarAt 0 None v (far.Ended None false)
    Undone : (n : ℕ) (w v : World) (image : Image) (end : restores.End) → HasEnded n w image end → IsSound v → IsSpentCopy w v
        → FarAt n (Some w) v (far.Ended (Some image) false)
    Cleared : (n : ℕ) (w v : World) (image : Image) (ready : Bool) → IsCleared n w image → IsSound v → IsSpentCopy w v
        → FarAt n (Some w) v (far.Ended (Some image) ready)

  -- ---- the copy stays while its porter holds it

  copy_on : (m v : World) (e : Event) → IsSound v → is_fit v e.mover e.ask ≡ true → holder_of ((after v e).body root) ≡ Some (At (LAST_PORTER_SLOT ∷ top))
      → IsCopy m v → IsCopy m (after v e)
  copy_on m v e sound fit held copy =
      let its = numbered top ((after v e).body root) held in
      record {
        uncut = keeps_uncut v e copy.uncut;
        named = λ c made_it.
            subst (λ (n : ℕ). birth_at (after v e) root ≡ Some n)
            (spaces_are_not_replaced v e copy.uncut sound.whole.valid sound.whole.few fit root c its.number (copy.named c made_it) its.is) its.is;
      }

  pub worked_sound : (image : Image) (w v : World) (t : restores.State) (n : ℕ) → Worked image w v t n → IsSound v
  worked_sound image w v t n work = now_sound (machine image) top w restores.Makes v t work.work

  pub held_now : (image : Image) (w v : World) (t : restores.State) (n : ℕ) → is_valid image ≡ true → Began_far w → Worked image w v t n
      → IsAtCall (machine image) t
      → holder_of (v.body root) ≡ Some (At (LAST_PORTER_SLOT ∷ top))
  held_now image w v t n valid began work works =
      made_is_held slot began.birth image w v top t works.0 works.1 (image_job slot low image valid) began.may work.work works.2

  -- ---- others

  work_others : (image : Image) (n : ℕ) (w v : World) (s : restores.State) (e : Event) → IsOthers v e → IsAtCall (machine image) s → Worked image w v s n
      → Worked image w (after v e) s n
  work_others image n w v s e its works work =
      count_waits (machine image) top w restores.Makes v s e n work works its.moves (sound_by_others v e (worked_sound image w v s n work) its)

  copy_others : (image : Image) (n : ℕ) (w v : World) (s : restores.State) (e : Event) → IsOthers v e → is_valid image ≡ true → Began_far w
      → IsAtCall (machine image) s → Worked image w v s n → IsCopy w v → IsCopy w (after v e)
  copy_others image n w v s e its valid began works work copy =
      copy_on w v e (worked_sound image w v s n work) its.moves.fit
      (held_now image w (after v e) s n valid began (work_others image n w v s e its works work) works) copy

  empty_others : (v : World) (e : Event) → IsOthers v e → IsEmpty v → IsEmpty (after v e)
  empty_others v e its empty = record {
    sound = sound_by_others v e empty.sound its;
    clean = clean_on v e its.moves.valid.rooted its.moves.users empty.clean;
    uncut = keeps_uncut v e empty.uncut;
  }

  makes_others : (image : Image) (n : ℕ) (o : Option World) (v : World) (s : restores.State) (e : Event) → IsOthers v e → MakesAt image n o v s
      → MakesAt image n o (after v e) s
  makes_others image _ _ v _ e its (Begins _ valid empty) = Begins (after v e) valid (empty_others v e its empty)
  makes_others image n _ v _ e its (Goes_on _ w _ s valid began work going works copy) =
      Goes_on n w (after v e) s valid began (work_others image n w v s e its works work) going works
      (copy_others image n w v s e its valid began works work copy)

  pub holding_at : (n : ℕ) (image : Image) (w v : World) → is_valid image ≡ true → Began_far w → Worked image w v (restores.Works []) n → Built top slot image v
  holding_at n image w v valid began work = built_is_copy slot began.birth image w v top (image_job slot low image valid) began.may work.work

  stands_others : (n : ℕ) (w : World) (image : Image) (v : World) (e : Event) → IsOthers v e → StandsBuilt n w image v → StandsBuilt n w image (after v e)
  stands_others n w image v e its stands = record {
    valid = stands.valid;
    began = stands.began;
    work = work_others image n w v (restores.Works []) e its (_, _, refl) stands.work;
    copy = copy_others image n w v (restores.Works []) e its stands.valid stands.began (_, _, refl) stands.work stands.copy;
  }

  spent_others : (w v : World) (e : Event) → IsSound v → IsOthers v e → IsSpentCopy w v → IsSpentCopy w (after v e)
  spent_others w v e sound its spent copy made_it = spent_stays v e copy sound.whole.valid sound.whole.few its.moves.fit (spent copy made_it)

  clearing_others : (n : ℕ) (w : World) (image : Image) (more : ℕ) (v : World) (e : Event) → IsOthers v e → IsClearing n w image more v
      → IsClearing n w image more (after v e)
  clearing_others n w image more v e its clearing = record {
    valid = clearing.valid;
    began = clearing.began;
    last = clearing.last;
    calls = clearing.calls;
    work = clearing.work;
    spends = clearing.spends;
    number = clearing.number;
    named = clearing.named;
    left = left_others top slot clearing.number v e more its.moves clearing.left;
  }

  pub far_others : (n : ℕ) (o : Option World) (v : World) (f : FarSide) (e : Event) → IsOthers v e → FarAt n o v f → FarAt n o (after v e) f
  far_others _ _ v _ e its (Listening _ got empty) = Listening (after v e) got (empty_others v e its empty)
  far_others _ _ v _ e its (Making n o _ image s makes) = Making n o (after v e) image s (makes_others image n o v s e its makes)
  far_others _ _ v _ e its (Undoing n o _ image s makes) = Undoing n o (after v e) image s (makes_others image n o v s e its makes)
  far_others _ _ v _ e its (Standing n w _ image stands) = Standing n w (after v e) image (stands_others n w image v e its stands)
  far_others _ _ v _ e its (Releasing n w _ image stands) = Releasing n w (after v e) image (stands_others n w image v e its stands)
  far_others _ _ v _ e its (Moved n w u _ image valid began work sound) = Moved n w u (after v e) image valid began work (sound_by_others v e sound its)
  far_others _ _ v _ e its (Refused n w _ image end why ended says sound spent) =
      Refused n w (after v e) image end why ended says (sound_by_others v e sound its) (spent_others w v e sound its spent)
  far_others _ _ v _ e its (Clearing n w _ image more ready clearing sound) =
      Clearing n w (after v e) image more ready (clearing_others n w image more v e its clearing) (sound_by_others v e sound its)
  far_others _ _ v _ e its (Never _ sound) = Never (after v e) (sound_by_others v e sound its)
  far_others _ _ v _ e its (Undone n w _ image end ended sound spent) =
      Undone n w (after v e) image end ended (sound_by_others v e sound its) (spent_others w v e sound its spent)
  far_others _ _ v _ e its (Cleared n w _ image ready cleared sound spent) =
      Cleared n w (after v e) image ready cleared (sound_by_others v e sound its) (spent_others w v e sound its spent)

  -- ---- from which states it comes to its end

  abbrev over : restores.End → restores.State
  over end = restores.Over end

  abbrev clears : ℕ → restores.State
  clears port = restores.Clears [] 0 port

  abbrev no_port : ℕ → restores.End
  no_port port = restores.NoPort port

  ends_from : (image : Image) (s : restores.State) (status : ℕ) (words : List ℕ) (end : restores.End) → made s ≡ goes s
      → (machine image).next s status words ≡ over end → (end ≡ restores.Occupied) ⊎ ((port : ℕ) × (s ≡ clears port) × (end ≡ no_port port))
  ends_from image restores.Makes status words end going e = by (status == OK) e
    where
      by : (b : Bool) → cond b (restores.Works (script slot (bound_by []) (rooms_of image))) (over restores.Occupied) ≡ over end
          → (end ≡ restores.Occupied) ⊎ ((port : ℕ) × (restores.Makes ≡ clears port) × (end ≡ no_port port))
      by true e = cc
      by false e = let same : restores.Occupied ≡ end = cc in inl (sym same)
  ends_from image (restores.Works []) status words end going e = cc
  ends_from image (restores.Works (o ∷ os)) status words end going e = by (passes o status words) (looked_at o) e
    where
      by : (b : Bool) (l : Option ℕ) → cond b (restores.Works os) (restores.refused (bound_by []) (rooms_of image) os l) ≡ over end
          → (end ≡ restores.Occupied) ⊎ ((port : ℕ) × (restores.Works (o ∷ os) ≡ clears port) × (end ≡ no_port port))
      by true l e = cc
      by false None e = cc
      by false (Some j) e = cc
  ends_from image (restores.Clears [] zero port) status words end going e = let same : no_port port ≡ end = cc in inr (port, refl, sym same)
  ends_from image (restores.Clears [] (suc more) port) status words end going e = cc
  ends_from image (restores.Clears (o ∷ os) more port) status words end going e = cc
  ends_from image (restores.Over restores.Done) status words end going e = cc
  ends_from image (restores.Over restores.Occupied) status words end going e = cc
  ends_from image (restores.Over (restores.NoPort port)) status words end going e = cc

  abbrev Arrived : (image : Image) (w : World) → is_valid image ≡ true → Began_far w → World → restores.State → Type 0
  Arrived image w valid began v t =
      Came slot began.birth (bound_by []) (picture image) (rooms_of image) w top low (roomed slot image [] (image_job slot low image valid)) began.may v t

  arrived : (image : Image) (n : ℕ) (w v : World) (t : restores.State) (valid : is_valid image ≡ true) (began : Began_far w) → Worked image w v t n
      → Arrived image w valid began v t
  arrived image n w v t valid began work =
      came slot began.birth (bound_by []) (picture image) (rooms_of image) w top low
      (roomed slot image [] (image_job slot low image valid)) began.may v t work.work

  -- before its last stage of destroying nothing but the space is left
  last_left : (image : Image) (w v : World) (valid : is_valid image ≡ true) (began : Began_far w) (s : restores.State) (port number : ℕ)
      → Arrived image w valid began v s → s ≡ clears port → birth_at v root ≡ Some number → IsLeft top slot number v zero
  last_left image w _ valid began _ port number (Came.Clearing xs more other v empty emptied many alone tidied) e named =
      let none : more ≡ 0 = cc in
      record { xs = xs; emptied = emptied; many = many ∙ ap suc none; named = named }
  last_left image w _ valid began _ port number (Came.Working os g v empty shows alone may_all suits safe tidied is history) e named = cc
  last_left image w _ valid began _ port number (Came.Dropping o os other g v empty shows alone left tidied) e named = cc
  last_left image w _ valid began _ port number (Came.Finished v empty plain same unheld clean) e named = cc
  last_left image w _ valid began _ port number (Came.Missing other v empty none clean) e named = cc
  last_left image w _ valid began _ port number (Came.Taken v there same) e named = cc

  -- ---- where a call has come to

  at_call : (image : Image) (valid : is_valid image ≡ true) (n : ℕ) (w v : World) (t : restores.State) → Began_far w → Worked image w v t n
      → IsAtCall (machine image) t ⊎ ((end : restores.End) × (t ≡ over end))
  at_call image valid n w v t began work = by t
    where
      by : (t : restores.State) → IsAtCall (machine image) t ⊎ ((end : restores.End) × (t ≡ over end))
      by restores.Makes = inl (_, _, refl)
      by (restores.Works []) = inl (_, _, refl)
      by (restores.Works (o ∷ os)) = inl (_, _, refl)
      by (restores.Clears [] more port) = inl (_, _, refl)
      by (restores.Clears (o ∷ os) more port) = inl (_, _, refl)
      by (restores.Over end) = inr (end, refl)

  -- what is known of the copy there
  record Lands (image : Image) (w v : World) (t : restores.State) : Type 0 where
    held : IsAtCall (machine image) t → IsCopy w v
    ended : (end : restores.End) → t ≡ over end → (end ≡ restores.Done → ⊥) × IsSpentCopy w v

  not_here : (w : World) → IsSome (w.body root) → w.body root ≡ None → ⊥
  not_here w some none = by (w.body root) some none
    where
      by : (o : Option Body) → IsSome o → o ≡ None → ⊥
      by None some none = cc
      by (Some b) some none = cc

  abbrev made_so : Image → Made Job Why → FarSide
  made_so i (far.Goes j) = far.Makes i j
  made_so i far.Builds = far.Built i
  made_so i (far.Fails why) = far.Refuses i why

  abbrev undone_so : Image → Made Job Why → FarSide
  undone_so i (far.Goes j) = far.Undoes i j
  undone_so i far.Builds = far.Clears i (objects (rooms_of i)) false
  undone_so i (far.Fails why) = far.Ended (Some i) false

  goes_so : (image : Image) → is_valid image ≡ true → (n : ℕ) (w v : World) (t : restores.State) → Began_far w → Worked image w v t n → Lands image w v t
      → made t ≡ goes t → IsAtCall (machine image) t → MakesAt image n (Some w) v t
  goes_so image valid n w v t began work lands going works = Goes_on n w v t valid began work going works (lands.held works)

  ended_so : (image : Image) → is_valid image ≡ true → (n : ℕ) (w v : World) (end : restores.End) → Began_far w → Worked image w v (over end) n
      → Lands image w v (over end) → HasEnded n w image end
  ended_so image valid n w v end began work lands = record { valid = valid; began = began; last = v; work = work; undone = (lands.ended end refl).0 }

  lands_end : (image : Image) → is_valid image ≡ true → (n : ℕ) (w v : World) (end : restores.End) → Began_far w → Worked image w v (over end) n
      → Lands image w v (over end) → FarAt n (Some w) v (made_so image (of_job image (made_end end)))
  lands_end image valid n w v restores.Done began work lands = absurd ((lands.ended restores.Done refl).0 refl)
  lands_end image valid n w v restores.Occupied began work lands =
      Refused n w v image restores.Occupied _ (ended_so image valid n w v restores.Occupied began work lands) refl (worked_sound image w v _ n work)
      (lands.ended restores.Occupied refl).1
  lands_end image valid n w v (restores.NoPort port) began work lands =
      Refused n w v image (restores.NoPort port) _ (ended_so image valid n w v (restores.NoPort port) began work lands) refl (worked_sound image w v _ n work)
      (lands.ended (restores.NoPort port) refl).1

  lands_so : (image : Image) → is_valid image ≡ true → (n : ℕ) (w v : World) (t : restores.State) → Began_far w → Worked image w v t n → Lands image w v t
      → FarAt n (Some w) v (made_so image (of_job image (made t)))
  lands_so image valid n w v (restores.Works []) began work lands =
      Standing n w v image (record { valid = valid; began = began; work = work; copy = lands.held (_, _, refl) })
  lands_so image valid n w v (restores.Works (o ∷ os)) began work lands =
      Making n (Some w) v image _ (goes_so image valid n w v (restores.Works (o ∷ os)) began work lands refl (_, _, refl))
  lands_so image valid n w v restores.Makes began work lands =
      Making n (Some w) v image _ (goes_so image valid n w v restores.Makes began work lands refl (_, _, refl))
  lands_so image valid n w v (restores.Clears [] more port) began work lands =
      Making n (Some w) v image _ (goes_so image valid n w v (restores.Clears [] more port) began work lands refl (_, _, refl))
  lands_so image valid n w v (restores.Clears (o ∷ os) more port) began work lands =
      Making n (Some w) v image _ (goes_so image valid n w v (restores.Clears (o ∷ os) more port) began work lands refl (_, _, refl))
  lands_so image valid n w v (restores.Over end) began work lands = lands_end image valid n w v end began work lands

  -- where it stands built it can be destroyed
  clearing_from : (n : ℕ) (w : World) (image : Image) (v : World) → StandsBuilt n w image v → IsClearing n w image (objects (rooms_of image)) v
  clearing_from n w image v stands =
      let copy = holding_at n image w v stands.valid stands.began stands.work in
      record {
        valid = stands.valid;
        began = stands.began;
        last = v;
        calls = n;
        work = stands.work;
        spends = refl;
        number = copy.number;
        named = λ c made_it. same_number (birth_at v root) copy.number c copy.may_clear.named (stands.copy.named c made_it);
        left = begun top slot copy.number (bound_by []) (picture image) (rooms_of image)
            (roomed slot image [] (image_job slot low image stands.valid)) v copy.may_clear;
      }

  undone_end : (image : Image) → is_valid image ≡ true → (n : ℕ) (w v : World) (end : restores.End) → Began_far w → Worked image w v (over end) n
      → Lands image w v (over end) → FarAt n (Some w) v (undone_so image (of_job image (made_end end)))
  undone_end image valid n w v restores.Done began work lands = absurd ((lands.ended restores.Done refl).0 refl)
  undone_end image valid n w v restores.Occupied began work lands =
      Undone n w v image restores.Occupied (ended_so image valid n w v restores.Occupied began work lands) (worked_sound image w v _ n work)
      (lands.ended restores.Occupied refl).1
  undone_end image valid n w v (restores.NoPort port) began work lands =
      Undone n w v image (restores.NoPort port) (ended_so image valid n w v (restores.NoPort port) began work lands) (worked_sound image w v _ n work)
      (lands.ended (restores.NoPort port) refl).1

  undone_lands : (image : Image) → is_valid image ≡ true → (n : ℕ) (w v : World) (t : restores.State) → Began_far w → Worked image w v t n → Lands image w v t
      → FarAt n (Some w) v (undone_so image (of_job image (made t)))
  undone_lands image valid n w v (restores.Works []) began work lands =
      Clearing n w v image (objects (rooms_of image)) false
      (clearing_from n w image v (record { valid = valid; began = began; work = work; copy = lands.held (_, _, refl) })) (worked_sound image w v _ n work)
  undone_lands image valid n w v (restores.Works (o ∷ os)) began work lands =
      Undoing n (Some w) v image _ (goes_so image valid n w v (restores.Works (o ∷ os)) began work lands refl (_, _, refl))
  undone_lands image valid n w v restores.Makes began work lands =
      Undoing n (Some w) v image _ (goes_so image valid n w v restores.Makes began work lands refl (_, _, refl))
  undone_lands image valid n w v (restores.Clears [] more port) began work lands =
      Undoing n (Some w) v image _ (goes_so image valid n w v (restores.Clears [] more port) began work lands refl (_, _, refl))
  undone_lands image valid n w v (restores.Clears (o ∷ os) more port) began work lands =
      Undoing n (Some w) v image _ (goes_so image valid n w v (restores.Clears (o ∷ os) more port) began work lands refl (_, _, refl))
  undone_lands image valid n w v (restores.Over end) began work lands = undone_end image valid n w v end began work lands

  -- ---- its own calls

  pub worked_own : (image : Image) → is_valid image ≡ true → (n : ℕ) (w v : World) (s : restores.State) (stage : Stage) (words : List ℕ) → Began_far w
      → Worked image w v s n → restores.head slot s ≡ Asks stage words → IsReadyAt v (call_of top stage words) → HasRoom v
      → Worked image w (after v (call_of top stage words)) (heard (machine image) s (said_of v (call_of top stage words))) (suc n)
  worked_own image valid n w v s stage words began work e ready room =
      let tidy = meets_contract slot began.birth (bound_by []) (picture image) (rooms_of image) low (roomed slot image [] (image_job slot low image valid)) in
      let owed = tidy.later w top v s began.may work.work stage words e in
      count_goes_on (machine image) top w restores.Makes v s stage words n work e ready (owed_sound slot low v stage words owed
      (worked_sound image w v s n work) room)

  -- what ends in a taken slot has made nothing
  taken_spends : (image : Image) (n : ℕ) (w v u : World) → is_valid image ≡ true → Began_far w → Worked image w v (over restores.Occupied) n → IsSpentCopy w u
  taken_spends image n w v u valid began work copy made_it =
      let ends = image_restore_ends_so slot began.birth image [] w v top (over restores.Occupied) restores.Occupied (image_job slot low image valid) began.may
      work.work refl in
      absurd (not_here w ends.0 made_it.empty)

  own_lands : (image : Image) (valid : is_valid image ≡ true) (n : ℕ) (w v : World) (s : restores.State) (stage : Stage) (words : List ℕ) → Began_far w
      → Worked image w v s n → made s ≡ goes s → IsCopy w v → restores.head slot s ≡ Asks stage words → IsReadyAt v (call_of top stage words) → HasRoom v
      → Lands image w (after v (call_of top stage words)) (heard (machine image) s (said_of v (call_of top stage words)))
  own_lands image valid n w v s stage words began work going copy asks ready room =
      let tidy = meets_contract slot began.birth (bound_by []) (picture image) (rooms_of image) low (roomed slot image [] (image_job slot low image valid)) in
      let owed = tidy.later w top v s began.may work.work stage words asks in
      let sound = worked_sound image w v s n work in
      let on = worked_own image valid n w v s stage words began work asks ready room in
      record {
        held = λ works. copy_on w v (call_of top stage words) sound owed.proper.fit
            (held_now image w (after v (call_of top stage words)) (heard (machine image) s (said_of v (call_of top stage words)))
            (suc n) valid began on works) copy;
        ended = λ end is. by end (ends_from image s _ _ end going is)
            (subst (λ (t : restores.State). Worked image w (after v (call_of top stage words)) t (suc n)) is on);
      }
    where
      spends : (port : ℕ) → s ≡ clears port → IsSpentCopy w (after v (call_of top stage words))
      spends port at c made_it =
          let named = copy.named c made_it.named in
          let left = last_left image w v valid began s port c (arrived image n w v s valid began work) at named in
          let both : restores.head slot (clears port) ≡ Asks stage words = sym (ap (λ (t : restores.State). restores.head slot t) at) ∙ asks in
          let stages : Destroy OWN_SPACE slot ≡ stage = cc in
          let given : no_words ≡ words = cc in
          let same : destroying top slot ≡ call_of top stage words = λ i. call_of top (stages i) (given i) in
          subst (λ (e : Event). IsSpent (after v e) c) same
          (left_last top slot c v (worked_sound image w v s n work) (subst (IsReadyAt v) (sym same) ready) left).1

      by : (end : restores.End) → (end ≡ restores.Occupied) ⊎ ((port : ℕ) × (s ≡ clears port) × (end ≡ no_port port))
          → Worked image w (after v (call_of top stage words)) (over end) (suc n)
          → (end ≡ restores.Done → ⊥) × IsSpentCopy w (after v (call_of top stage words))
      by end (inl taken) on = (
        λ done. let both : restores.Occupied ≡ restores.Done = sym taken ∙ done in cc,
        taken_spends image (suc n) w (after v (call_of top stage words)) (after v (call_of top stage words)) valid began
            (subst (λ (x : restores.End). Worked image w (after v (call_of top stage words)) (over x) (suc n)) taken on),
      )
      by end (inr its) on = (λ done. let both : no_port its.0 ≡ restores.Done = sym its.2 ∙ done in cc, spends its.0 its.1)

  record Comes (image : Image) (n : ℕ) (w v : World) (h : Head restores.End) (s : restores.State) : Type 0 where
    work : Worked image w (called v h) (told (machine image) v s h) (suc n)
    lands : Lands image w (called v h) (told (machine image) v s h)

  record Goes (image : Image) (n : ℕ) (w v : World) (s : restores.State) : Type 0 where
    valid : is_valid image ≡ true
    began : Began_far w
    comes : Comes image n w v (restores.head slot s) s

  first_comes : (image : Image) → is_valid image ≡ true → (v : World) (began : Began_far v) → IsEmpty v → IsCalled v (restores.head slot restores.Makes)
      → HasRoom v
      → Comes image 0 v v (restores.head slot restores.Makes) restores.Makes
  first_comes image valid v began empty ready room =
      let e = call_of top (SpaceMakeHeld slot) no_words in
      let tidy = meets_contract slot began.birth (bound_by []) (picture image) (rooms_of image) low (roomed slot image [] (image_job slot low image valid)) in
      let owed = tidy.first v top began.may _ _ refl in
      let on : Worked image v (after v e) (heard (machine image) restores.Makes (said_of v e)) 1 =
      count_begins (machine image) top v restores.Makes _ _ refl ready (owed_sound slot low v _ _ owed empty.sound room) in
      record {
        work = on;
        lands = record {
          held = λ works. record { uncut = keeps_uncut v e empty.uncut; named = λ c made_it. made_it };
          ended = λ end is. by end (ends_from image restores.Makes _ [] end refl is) (subst (λ (t : restores.State). Worked image v (after v e) t 1) is on);
        };
      }
    where
      by : (end : restores.End) → (end ≡ restores.Occupied) ⊎ ((port : ℕ) × (restores.Makes ≡ clears port) × (end ≡ no_port port))
          → Worked image v (after v (call_of top (SpaceMakeHeld slot) no_words)) (over end) 1
          → (end ≡ restores.Done → ⊥) × IsSpentCopy v (after v (call_of top (SpaceMakeHeld slot) no_words))
      by end (inl taken) on = (
        λ done. let both : restores.Occupied ≡ restores.Done = sym taken ∙ done in cc,
        taken_spends image 1 v (after v (call_of top (SpaceMakeHeld slot) no_words)) (after v (call_of top (SpaceMakeHeld slot) no_words)) valid began
            (subst (λ (x : restores.End). Worked image v (after v (call_of top (SpaceMakeHeld slot) no_words)) (over x) 1) taken on),
      )
      by end (inr its) on = let never : restores.Makes ≡ clears its.0 = its.1 in cc

  goes_from : (image : Image) (n : ℕ) (o : Option World) (v : World) (s : restores.State) → IsCalled v (restores.head slot s) → HasRoom v
      → MakesAt image n o v s
      → Goes image n (hold_or o v) v s
  goes_from image _ _ v _ ready room (Begins _ valid empty) =
      let began = began_far v empty in
      record { valid = valid; began = began; comes = first_comes image valid v began empty ready room }
  goes_from image n _ v _ ready room (Goes_on _ w _ s valid began work going works copy) =
      let mine = subst (λ (h : Head restores.End). IsCalled v h) works.2 ready in
      record {
        valid = valid;
        began = began;
        comes = subst (λ (h : Head restores.End). Comes image n w v h s) (sym works.2)
            (record {
              work = worked_own image valid n w v s works.0 works.1 began work works.2 mine room;
              lands = own_lands image valid n w v s works.0 works.1 began work going copy works.2 mine room;
            });
      }

  abbrev moved_so : World → FarSide → World
  moved_so v (far.Makes i j) = called v (restores.head slot j.state)
  moved_so v (far.Releases i) = after v (release top slot)
  moved_so v (far.Undoes i j) = called v (restores.head slot j.state)
  moved_so v (far.Clears i more ready) = after v (destroying top slot)
  moved_so v (far.Listens got) = v
  moved_so v (far.Built i) = v
  moved_so v (far.Moved i) = v
  moved_so v (far.Refuses i why) = v
  moved_so v (far.Ended image ready) = v

  abbrev own_so : World → FarSide → FarSide
  own_so v (far.Makes i j) = made_so i (of_job j.image (made (told (machine j.image) v j.state (restores.head slot j.state))))
  own_so v (far.Releases i) = far.Moved i
  own_so v (far.Undoes i j) = undone_so i (of_job j.image (made (told (machine j.image) v j.state (restores.head slot j.state))))
  own_so v (far.Clears i zero ready) = far.Ended (Some i) ready
  own_so v (far.Clears i (suc more) ready) = far.Clears i more ready
  own_so v (far.Listens got) = far.Listens got
  own_so v (far.Built i) = far.Built i
  own_so v (far.Moved i) = far.Moved i
  own_so v (far.Refuses i why) = far.Refuses i why
  own_so v (far.Ended image ready) = far.Ended image ready

  pub far_own : (n : ℕ) (o : Option World) (v : World) (f : FarSide) → IsFarReady slot v f → HasRoom v → FarAt n o v f
      → FarAt (suc n) (Some (hold_or o v)) (moved_so v f) (own_so v f)
  far_own _ _ _ _ ready room (Making n o v image s makes) =
      let its = goes_from image n o v s ready room makes in
      lands_so image its.valid (suc n) (hold_or o v) _ _ its.began its.comes.work its.comes.lands
  far_own _ _ _ _ ready room (Undoing n o v image s makes) =
      let its = goes_from image n o v s ready room makes in
      undone_lands image its.valid (suc n) (hold_or o v) _ _ its.began its.comes.work its.comes.lands
  far_own _ _ _ _ ready room (Releasing n w v image stands) =
      let on = worked_own image stands.valid n w v (restores.Works []) (SpaceRelease OWN_SPACE slot) no_words stands.began stands.work refl ready room in
      Moved (suc n) w (after v (release top slot)) (after v (release top slot)) image stands.valid stands.began on
      (worked_sound image w (after v (release top slot)) (over restores.Done) (suc n) on)
  far_own _ _ _ _ ready room (Clearing n w v image zero told_ready its sound) =
      Cleared (suc n) w (after v (destroying top slot)) image told_ready
      (record {
        valid = its.valid;
        began = its.began;
        last = its.last;
        calls = its.calls;
        work = its.work;
        spends = (let spends = its.spends in omega (arith, spends));
      })
      (destroyed_sound slot low v sound room)
      (λ c made_it. subst (λ (number : ℕ). IsSpent (after v (destroying top slot)) number) (its.named c made_it.named)
      (left_last top slot its.number v sound ready its.left).1)
  far_own _ _ _ _ ready room (Clearing n w v image (suc more) told_ready its sound) =
      let later = destroyed_sound slot low v sound room in
      Clearing (suc n) w (after v (destroying top slot)) image more told_ready (record {
        valid = its.valid;
        began = its.began;
        last = its.last;
        calls = its.calls;
        work = its.work;
        spends = (let spends = its.spends in omega (arith, spends));
        number = its.number;
        named = its.named;
        left = left_own top slot its.number v sound ready more later its.left;
      }) later
  far_own _ _ _ _ ready room (Listening v got empty) = absurd ready
  far_own _ _ _ _ ready room (Standing n w v image stands) = absurd ready
  far_own _ _ _ _ ready room (Moved n w u v image valid began work sound) = absurd ready
  far_own _ _ _ _ ready room (Refused n w v image end why ended says sound spent) = absurd ready
  far_own _ _ _ _ ready room (Never v sound) = absurd ready
  far_own _ _ _ _ ready room (Undone n w v image end ended sound spent) = absurd ready
  far_own _ _ _ _ ready room (Cleared n w v image told_ready cleared sound spent) = absurd ready

  -- ---- what it is told

  pub to_make : (n : ℕ) (o : Option World) (v : World) (got : List P) (image : Image) → is_valid image ≡ true → FarAt n o v (far.Listens got)
      → FarAt n o v (far.Makes image (job_of image restores.Makes))
  to_make n o v got image valid at = by n o v (far.Listens got) at refl
    where
      by : (n : ℕ) (o : Option World) (v : World) (f : FarSide) → FarAt n o v f → f ≡ far.Listens got
          → FarAt n o v (far.Makes image (job_of image restores.Makes))
      by _ _ _ _ (Listening v other empty) e = Making 0 None v image restores.Makes (Begins v valid empty)
      by _ _ _ _ (Making n o v i s makes) e = cc
      by _ _ _ _ (Standing n w v i stands) e = cc
      by _ _ _ _ (Releasing n w v i stands) e = cc
      by _ _ _ _ (Moved n w u v i valid began work sound) e = cc
      by _ _ _ _ (Refused n w v i end why ended says sound spent) e = cc
      by _ _ _ _ (Undoing n o v i s makes) e = cc
      by _ _ _ _ (Clearing n w v i more ready its sound) e = cc
      by _ _ _ _ (Never v sound) e = cc
      by _ _ _ _ (Undone n w v i end ended sound spent) e = cc
      by _ _ _ _ (Cleared n w v i ready cleared sound spent) e = cc

  pub to_listen : (n : ℕ) (o : Option World) (v : World) (got more : List P) → FarAt n o v (far.Listens got)
      → FarAt n o v (far.Listens more) × FarAt n o v (far.Ended None false)
  to_listen n o v got more at = by n o v (far.Listens got) at refl
    where
      by : (n : ℕ) (o : Option World) (v : World) (f : FarSide) → FarAt n o v f → f ≡ far.Listens got
          → FarAt n o v (far.Listens more) × FarAt n o v (far.Ended None false)
      by _ _ _ _ (Listening v other empty) e = (Listening v more empty, Never v empty.sound)
      by _ _ _ _ (Making n o v i s makes) e = cc
      by _ _ _ _ (Standing n w v i stands) e = cc
      by _ _ _ _ (Releasing n w v i stands) e = cc
      by _ _ _ _ (Moved n w u v i valid began work sound) e = cc
      by _ _ _ _ (Refused n w v i end why ended says sound spent) e = cc
      by _ _ _ _ (Undoing n o v i s makes) e = cc
      by _ _ _ _ (Clearing n w v i some ready its sound) e = cc
      by _ _ _ _ (Never v sound) e = cc
      by _ _ _ _ (Undone n w v i end ended sound spent) e = cc
      by _ _ _ _ (Cleared n w v i ready cleared sound spent) e = cc

  pub to_undo : (n : ℕ) (o : Option World) (v : World) (image : Image) (j : Job) → FarAt n o v (far.Makes image j) → FarAt n o v (far.Undoes image j)
  to_undo n o v image j at = by n o v (far.Makes image j) at refl
    where
      by : (n : ℕ) (o : Option World) (v : World) (f : FarSide) → FarAt n o v f → f ≡ far.Makes image j → FarAt n o v (far.Undoes image j)
      by _ _ _ _ (Making n o v i s makes) e =
          let one : i ≡ image = cc in
          let two : job_of i s ≡ j = cc in
          subst (λ (k : Job). FarAt n o v (far.Undoes image k)) two (subst (λ (x : Image). FarAt n o v (far.Undoes x (job_of i s))) one
          (Undoing n o v i s makes))
      by _ _ _ _ (Listening v other empty) e = cc
      by _ _ _ _ (Standing n w v i stands) e = cc
      by _ _ _ _ (Releasing n w v i stands) e = cc
      by _ _ _ _ (Moved n w u v i valid began work sound) e = cc
      by _ _ _ _ (Refused n w v i end why ended says sound spent) e = cc
      by _ _ _ _ (Undoing n o v i s makes) e = cc
      by _ _ _ _ (Clearing n w v i some ready its sound) e = cc
      by _ _ _ _ (Never v sound) e = cc
      by _ _ _ _ (Undone n w v i end ended sound spent) e = cc
      by _ _ _ _ (Cleared n w v i ready cleared sound spent) e = cc

  pub to_decide : (n : ℕ) (o : Option World) (v : World) (image : Image) → FarAt n o v (far.Built image)
      → FarAt n o v (far.Releases image) × FarAt n o v (far.Clears image (objects (rooms_of image)) true)
  to_decide n o v image at = by n o v (far.Built image) at refl
    where
      by : (n : ℕ) (o : Option World) (v : World) (f : FarSide) → FarAt n o v f → f ≡ far.Built image
          → FarAt n o v (far.Releases image) × FarAt n o v (far.Clears image (objects (rooms_of image)) true)
      by _ _ _ _ (Standing n w v i stands) e =
          let one : i ≡ image = cc in
          let mine : StandsBuilt n w image v = subst (λ (x : Image). StandsBuilt n w x v) one stands in (
            Releasing n w v image mine,
            Clearing n w v image (objects (rooms_of image)) true (clearing_from n w image v mine) (worked_sound image w v (restores.Works []) n mine.work),
          )
      by _ _ _ _ (Making n o v i s makes) e = cc
      by _ _ _ _ (Listening v other empty) e = cc
      by _ _ _ _ (Releasing n w v i stands) e = cc
      by _ _ _ _ (Moved n w u v i valid began work sound) e = cc
      by _ _ _ _ (Refused n w v i end why ended says sound spent) e = cc
      by _ _ _ _ (Undoing n o v i s makes) e = cc
      by _ _ _ _ (Clearing n w v i some ready its sound) e = cc
      by _ _ _ _ (Never v sound) e = cc
      by _ _ _ _ (Undone n w v i end ended sound spent) e = cc
      by _ _ _ _ (Cleared n w v i ready cleared sound spent) e = cc
