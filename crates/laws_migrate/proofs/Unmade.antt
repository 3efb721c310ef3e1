-- Before the far porter's first call its root has its porter as at the beginning.
use Rattle.std.proofs.Common.{◌≡◌, ℕ, zero, suc, Bool, true, false, if◌then◌else◌, ◌==◌, List, [], ◌∷◌, ◌++◌, Option, Some, None, refl}
use Rattle.std.specs.List.{slice_get}
use Rattle.fk_model.specs.declared.statuses.status.TheConstants.{OK}
use Rattle.fk_model.specs.declared.limits.TheConstants.{OWN_SPACE}
use Rattle.fk_model.specs.declared.stage.Stage.{Stage}
use Rattle.fk_model.specs.declared.stage.Stage.TheVariants.{SpaceMakeHeld, SpaceRelease, Destroy}
use Rattle.fk_model.specs.World.{World}
use Rattle.fk_image.specs.declared.image.image.Image.{Image}
use Rattle.laws_jobs.specs.Machines.{no_words, reply_of, heard, said_of, call_of}
use Rattle.laws_restore.specs.Restore.Restore as restores
use Rattle.laws_restore.specs.Restore.Restore.{looked_at, refused}
use Rattle.laws_restore.specs.Sites.Orders.{stage_of, words_of, passes}
use Rattle.laws_restore.specs.Restore.Script.{script}
use Rattle.laws_restore.specs.Restore.Rooms.{Room}
use Rattle.laws_restore.specs.Rooms.Rooms.{rooms_of}
use Rattle.laws_restore.specs.Rooms.Restoring.{bound_by, restore_of}
use Rattle.laws_handover.specs.Packets.{Packet, Codec}
use Rattle.laws_handover.specs.Packets.Packet.{Piece, Ready, Refused, Gone, Cancel}
use Rattle.laws_handover.specs.FarSide as far
use Rattle.laws_handover.specs.FarSide.{Far}
use Rattle.laws_handover.specs.Sent.{sent_near, sent_far}
use Rattle.laws_handover.specs.Handover as handover
use Rattle.laws_handover.specs.Handover.{next, run, first, far_told, far_own, far_moved, listened, delivered_far, delivered_near}
use Rattle.laws_migrate.specs.Migration.{Why, Job, top, kernels, told, made, of_job, Both, Step, AreReady, IsReadyIn}
use Rattle.laws_migrate.specs.Porters.{HasPorter}
use Rattle.laws_migrate.proofs.Porters.{root_keeps_porter}

abbrev pub is_first : restores.State → Bool
is_first restores.Makes = true
is_first (restores.Works orders) = false
is_first (restores.Clears orders more port) = false
is_first (restores.Over end) = false

-- the far porter has made no call, and may come to make one
abbrev pub is_unmade : {P : Type 0} → Far Job Image P Why → Bool
is_unmade (far.Listens got) = true
is_unmade (far.Makes image j) = is_first j.state
is_unmade (far.Undoes image j) = is_first j.state
is_unmade (far.Built image) = false
is_unmade (far.Releases image) = false
is_unmade (far.Moved image) = false
is_unmade (far.Refuses image why) = false
is_unmade (far.Clears image more ready) = false
is_unmade (far.Ended image ready) = false

module _ {P : Type 0} (codec : Codec Image P) (slot : ℕ) where
  abbrev FarSide : Type 0
  FarSide = Far Job Image P Why

  abbrev Keeps : World → FarSide → Type 0
  Keeps v f = is_unmade f ≡ true → HasPorter v

  -- ---- its own calls: none leaves it before its first

  next-first : (bind : ℕ → ℕ) (rooms : List Room) (s : restores.State) (status : ℕ) (words : List ℕ)
      → is_first (restores.next slot bind rooms s status words) ≡ false
  next-first bind rooms restores.Makes status words = by (status == OK)
    where
      by : (t : Bool) → is_first (if t then restores.Works (script slot bind rooms) else restores.Over restores.Occupied) ≡ false
      by true = refl
      by false = refl
  next-first bind rooms (restores.Works []) status words = refl
  next-first bind rooms (restores.Works (o ∷ os)) status words = by (passes o status words)
    where
      refusing : (j : Option ℕ) → is_first (refused bind rooms os j) ≡ false
      refusing None = refl
      refusing (Some j) = refl

      by : (t : Bool) → is_first (if t then restores.Works os else refused bind rooms os (looked_at o)) ≡ false
      by true = refl
      by false = refusing (looked_at o)
  next-first bind rooms (restores.Clears [] zero port) status words = refl
  next-first bind rooms (restores.Clears [] (suc more) port) status words = refl
  next-first bind rooms (restores.Clears (o ∷ os) more port) status words = refl
  next-first bind rooms (restores.Over end) status words = refl

  abbrev told_now : World → Image → restores.State → restores.State
  told_now v image s = told (restore_of slot image []) v s (restores.head slot s)

  heard-first : (v : World) (image : Image) (s : restores.State) (stage : Stage) (words : List ℕ)
      → is_first (heard (restore_of slot image []) s (said_of v (call_of top stage words))) ≡ false
  heard-first v image s stage words = let reply = reply_of (said_of v (call_of top stage words)) in
      next-first (bound_by []) (rooms_of image) s reply.status reply.words

  told-first : (v : World) (image : Image) (s : restores.State) → is_first (told_now v image s) ≡ false
  told-first v image restores.Makes = heard-first v image restores.Makes (SpaceMakeHeld slot) no_words
  told-first v image (restores.Works []) = heard-first v image (restores.Works []) (SpaceRelease OWN_SPACE slot) no_words
  told-first v image (restores.Works (o ∷ os)) = heard-first v image (restores.Works (o ∷ os)) (stage_of slot o) (words_of o)
  told-first v image (restores.Clears [] more port) = heard-first v image (restores.Clears [] more port) (Destroy OWN_SPACE slot) no_words
  told-first v image (restores.Clears (o ∷ os) more port) = heard-first v image (restores.Clears (o ∷ os) more port) (stage_of slot o) (words_of o)
  told-first v image (restores.Over end) = refl

  made-first : (image read : Image) (s : restores.State) → is_first s ≡ false
      → is_unmade (handover.made_as (kernels codec slot) image (of_job read (made s))) ≡ false
  made-first image read restores.Makes h = cc
  made-first image read (restores.Works []) h = refl
  made-first image read (restores.Works (o ∷ os)) h = refl
  made-first image read (restores.Clears os more port) h = refl
  made-first image read (restores.Over restores.Done) h = refl
  made-first image read (restores.Over restores.Occupied) h = refl
  made-first image read (restores.Over (restores.NoPort port)) h = refl

  undone-first : (image read : Image) (s : restores.State) → is_first s ≡ false
      → is_unmade (handover.undone_as (kernels codec slot) image (of_job read (made s))) ≡ false
  undone-first image read restores.Makes h = cc
  undone-first image read (restores.Works []) h = refl
  undone-first image read (restores.Works (o ∷ os)) h = refl
  undone-first image read (restores.Clears os more port) h = refl
  undone-first image read (restores.Over restores.Done) h = refl
  undone-first image read (restores.Over restores.Occupied) h = refl
  undone-first image read (restores.Over (restores.NoPort port)) h = refl

  never : {A : Type 0} (t : Bool) → t ≡ false → t ≡ true → A
  never t off on = cc

  own-keeps : (v : World) (f : FarSide) → Keeps v f → Keeps (far_moved (kernels codec slot) v f) (far_own (kernels codec slot) v f)
  own-keeps v (far.Listens got) keeps h = keeps h
  own-keeps v (far.Makes image j) keeps h = never _ (made-first image j.image (told_now v j.image j.state) (told-first v j.image j.state)) h
  own-keeps v (far.Undoes image j) keeps h = never _ (undone-first image j.image (told_now v j.image j.state) (told-first v j.image j.state)) h
  own-keeps v (far.Built image) keeps h = cc
  own-keeps v (far.Releases image) keeps h = cc
  own-keeps v (far.Moved image) keeps h = cc
  own-keeps v (far.Refuses image why) keeps h = cc
  own-keeps v (far.Clears image zero ready) keeps h = cc
  own-keeps v (far.Clears image (suc more) ready) keeps h = cc
  own-keeps v (far.Ended image ready) keeps h = cc

  -- ---- packets

  listen-keeps : (v : World) (got : List P) (o : Option Image) → HasPorter v → Keeps v (listened (kernels codec slot) got o)
  listen-keeps v got None native h = native
  listen-keeps v got (Some image) native h = native

  told-keeps : (v : World) (f : FarSide) (packet : Packet P Why) → Keeps v f → Keeps v (far_told (kernels codec slot) f packet)
  told-keeps v (far.Listens got) (Piece p) keeps h = listen-keeps v (got ++ p ∷ []) (codec.reads (got ++ p ∷ [])) (keeps refl) h
  told-keeps v (far.Listens got) Cancel keeps h = cc
  told-keeps v (far.Listens got) Ready keeps h = keeps h
  told-keeps v (far.Listens got) (Refused why) keeps h = keeps h
  told-keeps v (far.Listens got) Gone keeps h = keeps h
  told-keeps v (far.Makes image j) Cancel keeps h = keeps h
  told-keeps v (far.Makes image j) (Piece p) keeps h = keeps h
  told-keeps v (far.Makes image j) Ready keeps h = keeps h
  told-keeps v (far.Makes image j) (Refused why) keeps h = keeps h
  told-keeps v (far.Makes image j) Gone keeps h = keeps h
  told-keeps v (far.Built image) Gone keeps h = cc
  told-keeps v (far.Built image) Cancel keeps h = cc
  told-keeps v f packet keeps h = keeps h

  -- ---- events

  next-keeps : (p : Both codec slot) (e : Step codec slot) → IsReadyIn codec slot p e → Keeps p.far_world p.far
      → Keeps (next (kernels codec slot) p e).far_world (next (kernels codec slot) p e).far
  next-keeps p (handover.OfNear e) ready keeps h = keeps h
  next-keeps p (handover.OfFar e) ready keeps h = root_keeps_porter p.far_world e ready.moves (keeps h)
  next-keeps p handover.NearOwn ready keeps h = keeps h
  next-keeps p handover.FarOwn ready keeps h = own-keeps p.far_world p.far keeps h
  next-keeps p (handover.ToFar number) ready keeps h = by (slice_get (sent_near codec p.near) number) h
    where
      by : (o : Option (Packet P Why)) → is_unmade (delivered_far (kernels codec slot) p number o).far ≡ true
          → HasPorter (delivered_far (kernels codec slot) p number o).far_world
      by None h = keeps h
      by (Some packet) h = told-keeps p.far_world p.far packet keeps h
  next-keeps p (handover.ToNear number) ready keeps h = by (slice_get (sent_far p.far) number) h
    where
      by : (o : Option (Packet P Why)) → is_unmade (delivered_near (kernels codec slot) p number o).far ≡ true
          → HasPorter (delivered_near (kernels codec slot) p number o).far_world
      by None h = keeps h
      by (Some packet) h = keeps h
  next-keeps p handover.GiveUp ready keeps h = keeps h

  run-keeps : (p : Both codec slot) (es : List (Step codec slot)) → AreReady codec slot p es → Keeps p.far_world p.far
      → Keeps (run (kernels codec slot) p es).far_world (run (kernels codec slot) p es).far
  unfolding run
  run-keeps p [] ready keeps = keeps
  run-keeps p (e ∷ es) ready keeps = run-keeps (next (kernels codec slot) p e) es ready.1 (next-keeps p e ready.0 keeps)

  pub unmade_has_porter : (w v : World) (es : List (Step codec slot)) → AreReady codec slot (first (kernels codec slot) w v) es → HasPorter v
      → is_unmade (run (kernels codec slot) (first (kernels codec slot) w v) es).far ≡ true
      → HasPorter (run (kernels codec slot) (first (kernels codec slot) w v) es).far_world
  unmade_has_porter w v es ready native = run-keeps (first (kernels codec slot) w v) es ready (λ h. native)
