-- Both sides of a migration together, over every list of ready events.
use Rattle.std.proofs.Common.{◌≡◌, ℕ, zero, suc, ◌≤◌, true, List, [], ◌∷◌, ◌++◌, Option, Some, None, refl, sym, ap, subst, ◌∙◌, ◌⊎◌, inl, inr}
use Rattle.std.specs.List.{slice_get}
use Rattle.fk_model.specs.declared.limits.TheConstants.{OWN_SPACE, LAST_USER_SLOT, LAST_PORTER_SLOT}
use Rattle.fk_model.specs.declared.stage.Stage.TheVariants.{SpaceRelease}
use Rattle.fk_model.specs.Places.{Path}
use Rattle.fk_model.specs.Places.Ptr.{At}
use Rattle.fk_model.specs.Closed.{Place, open_place}
use Rattle.fk_model.specs.Cut.{cut}
use Rattle.fk_model.specs.Holds.{holder_of}
use Rattle.fk_model.specs.Runs.{Event, after}
use Rattle.fk_model.specs.Valid.{birth_at}
use Rattle.fk_model.specs.World.{World}
use Rattle.fk_image.specs.declared.image.image.Image.{Image}
use Rattle.fk_image.specs.Image.Picture.{picture}
use Rattle.fk_image.specs.Image.Valid.{is_valid}
use Rattle.laws_moves.specs.Savable.Savable.{IsSound}
use Rattle.laws_jobs.specs.Holds.{release}
use Rattle.laws_jobs.specs.Machines.{no_words, IsReadyAt}
use Rattle.laws_checkpoint.proofs.Ended.{came, cut_kept, ends_as_it_was}
use Rattle.laws_checkpoint.specs.Laws.{EndsAsItWas}
use Rattle.laws_restore.proofs.InRestore.Looked.{no_port_is_exact}
use Rattle.laws_restore.specs.Rooms.Rooms.{rooms_of}
use Rattle.laws_restore.specs.Rooms.Restoring.{bound_by}
use Rattle.laws_restore.proofs.InRooms.Restored.{roomed, image_restore_ends_so}
use Rattle.laws_migrate.proofs.Nears.{image_job}
use Rattle.laws_migrate.proofs.Built.{unbound_is_same}
use Rattle.laws_checkpoint.specs.Checkpoint as checks
use Rattle.laws_restore.specs.Restore.Restore as restores
use Rattle.laws_restore.specs.Restore.Restore.{objects}
use Rattle.laws_handover.specs.Packets.{Packet, Codec}
use Rattle.laws_handover.specs.Packets.Packet.{Piece, Ready, Refused, Gone, Cancel}
use Rattle.laws_handover.specs.NearSide as near
use Rattle.laws_handover.specs.NearSide.{Near}
use Rattle.laws_handover.specs.FarSide as far
use Rattle.laws_handover.specs.FarSide.{Far}
use Rattle.laws_handover.specs.Sent.{sent_near, sent_far}
use Rattle.laws_handover.specs.Handover as handover
use Rattle.laws_handover.specs.Handover.{next, run, first, near_own as near_step, near_moved, far_own as far_step, far_moved, near_told, far_told, listened}
use Rattle.laws_handover.specs.Handover.{gives_up}
use Rattle.laws_handover.specs.Handover.{delivered_near, delivered_far}
use Rattle.laws_handover.specs.Laws.{IsIn, GatherExactly, is_let_go, is_kept, why_cancelled}
use Rattle.laws_handover.proofs.Meets.{never_both}
use Rattle.laws_handover.proofs.Kept.{kept_for_ever}
use Rattle.laws_handover.proofs.Whys.{cancel_says_why}
use Rattle.laws_migrate.specs.Births.{HasNone, IsSpent}
use Rattle.laws_migrate.specs.Migration.{Why, Job, top, kernels, Both, Step, HasRoom, IsNearReady, IsFarReady, IsReadyIn, AreReady, noted, near_asked}
use Rattle.laws_migrate.specs.Migration.{far_asked, hold_from, make_from}
use Rattle.laws_migrate.specs.Migration.{MayMigrate, IsFree, MakesCopy, is_near_own, is_far_own, counted, counted_from, checked_end, made_end}
use Rattle.laws_migrate.specs.Migration.Why.{GaveUp, Dead as WhyDead, Foreign as WhyOpen, Occupied as WhyTaken, NoPort as WhyNoPort}
use Rattle.laws_migrate.specs.Laws.{IsGoodCodec, Happens, SaysWhy, RefusesSo}
use Rattle.laws_migrate.proofs.Nears as nears
use Rattle.laws_migrate.proofs.Nears.{NearAt, IsFresh, IsNone, hold_or, near_others, near_own, to_clear, to_cancel, has_gathered}
use Rattle.laws_migrate.proofs.Fars as fars
use Rattle.laws_migrate.proofs.Fars.{FarAt, MakesAt, same_number, far_others, far_own, to_make, to_listen, to_undo, to_decide}

module _ {P : Type 0} (codec : Codec Image P) (slot : ℕ) (low : slot ≤ LAST_USER_SLOT) (good : IsGoodCodec codec) where
  abbrev k : handover.Kernels World Event checks.State World Event Job Image P Why
  k = kernels codec slot

  abbrev NearSide : Type 0
  NearSide = Near checks.State Image Why

  abbrev FarSide : Type 0
  FarSide = Far Job Image P Why

  abbrev Nears : ℕ → Option World → World → NearSide → Type 0
  Nears = NearAt slot low

  abbrev Fars : ℕ → Option World → World → FarSide → Type 0
  Fars = FarAt P slot low

  -- ---- own calls, as the handover has them

  pub near_call : (c : ℕ) (h : Option World) (v : World) (n : NearSide) → IsNearReady slot v n → HasRoom v → Nears c h v n
      → Nears (suc c) (Some (hold_or h v)) (near_moved k v n) (near_step k v n)
  near_call c h v (near.Saves s) ready room at = near_own slot low c h v (near.Saves s) ready room at
  near_call c h v (near.Clears i zero) ready room at = near_own slot low c h v (near.Clears i zero) ready room at
  near_call c h v (near.Clears i (suc more)) ready room at = near_own slot low c h v (near.Clears i (suc more)) ready room at
  near_call c h v (near.Cancels i why) ready room at = near_own slot low c h v (near.Cancels i why) ready room at
  near_call c h v (near.Waits i) ready room at = absurd ready
  near_call c h v (near.Cleared i) ready room at = absurd ready
  near_call c h v (near.Cancelled i why) ready room at = absurd ready
  near_call c h v (near.Failed why) ready room at = absurd ready

  far_call : (d : ℕ) (m : Option World) (v : World) (f : FarSide) → IsFarReady slot v f → HasRoom v → Fars d m v f
      → Fars (suc d) (Some (hold_or m v)) (far_moved k v f) (far_step k v f)
  far_call d m v (far.Makes i j) ready room at = far_own P slot low d m v (far.Makes i j) ready room at
  far_call d m v (far.Releases i) ready room at = far_own P slot low d m v (far.Releases i) ready room at
  far_call d m v (far.Undoes i j) ready room at = far_own P slot low d m v (far.Undoes i j) ready room at
  far_call d m v (far.Clears i zero told) ready room at = far_own P slot low d m v (far.Clears i zero told) ready room at
  far_call d m v (far.Clears i (suc more) told) ready room at = far_own P slot low d m v (far.Clears i (suc more) told) ready room at
  far_call d m v (far.Listens got) ready room at = absurd ready
  far_call d m v (far.Built i) ready room at = absurd ready
  far_call d m v (far.Moved i) ready room at = absurd ready
  far_call d m v (far.Refuses i why) ready room at = absurd ready
  far_call d m v (far.Ended image told) ready room at = absurd ready

  -- ---- deliveries

  near_hears : (c : ℕ) (h : Option World) (v : World) (n : NearSide) (p : Packet P Why) → Nears c h v n → Nears c h v (near_told k n p)
  near_hears c h v (near.Waits i) Ready at = to_clear slot low c h v (near.Waits i) i refl at
  near_hears c h v (near.Waits i) (Refused why) at = to_cancel slot low c h v (near.Waits i) i why refl at
  near_hears c h v (near.Waits i) (Piece q) at = at
  near_hears c h v (near.Waits i) Gone at = at
  near_hears c h v (near.Waits i) Cancel at = at
  near_hears c h v (near.Saves s) p at = at
  near_hears c h v (near.Clears i more) p at = at
  near_hears c h v (near.Cleared i) p at = at
  near_hears c h v (near.Cancels i why) p at = at
  near_hears c h v (near.Cancelled i why) p at = at
  near_hears c h v (near.Failed why) p at = at

  near_gives_up : (c : ℕ) (h : Option World) (v : World) (n : NearSide) → Nears c h v n → Nears c h v (gives_up k n)
  near_gives_up c h v (near.Waits i) at = to_cancel slot low c h v (near.Waits i) i GaveUp refl at
  near_gives_up c h v (near.Saves s) at = at
  near_gives_up c h v (near.Clears i more) at = at
  near_gives_up c h v (near.Cleared i) at = at
  near_gives_up c h v (near.Cancels i why) at = at
  near_gives_up c h v (near.Cancelled i why) at = at
  near_gives_up c h v (near.Failed why) at = at

  far_listens : (d : ℕ) (m : Option World) (v : World) (got more : List P) (o : Option Image) → codec.reads more ≡ o → Fars d m v (far.Listens got)
      → Fars d m v (listened k more o)
  far_listens d m v got more None e at = (to_listen P slot low d m v got more at).0
  far_listens d m v got more (Some i) e at = to_make P slot low d m v got i (good.valid more i e) at

  far_hears : (d : ℕ) (m : Option World) (v : World) (f : FarSide) (p : Packet P Why) → Fars d m v f → Fars d m v (far_told k f p)
  far_hears d m v (far.Listens got) (Piece q) at = far_listens d m v got (got ++ q ∷ []) (codec.reads (got ++ q ∷ [])) refl at
  far_hears d m v (far.Listens got) Cancel at = (to_listen P slot low d m v got got at).1
  far_hears d m v (far.Listens got) Ready at = at
  far_hears d m v (far.Listens got) (Refused why) at = at
  far_hears d m v (far.Listens got) Gone at = at
  far_hears d m v (far.Makes i j) Cancel at = to_undo P slot low d m v i j at
  far_hears d m v (far.Makes i j) (Piece q) at = at
  far_hears d m v (far.Makes i j) Ready at = at
  far_hears d m v (far.Makes i j) (Refused why) at = at
  far_hears d m v (far.Makes i j) Gone at = at
  far_hears d m v (far.Built i) Gone at = (to_decide P slot low d m v i at).0
  far_hears d m v (far.Built i) Cancel at = (to_decide P slot low d m v i at).1
  far_hears d m v (far.Built i) (Piece q) at = at
  far_hears d m v (far.Built i) Ready at = at
  far_hears d m v (far.Built i) (Refused why) at = at
  far_hears d m v (far.Releases i) p at = at
  far_hears d m v (far.Moved i) p at = at
  far_hears d m v (far.Refuses i why) p at = at
  far_hears d m v (far.Undoes i j) p at = at
  far_hears d m v (far.Clears i more told) p at = at
  far_hears d m v (far.Ended image told) p at = at

  -- ---- both sides, at each event

  abbrev Pairs : Type 0
  Pairs = Both codec slot

  abbrev Events : Type 0
  Events = Step codec slot

  -- after so many calls of each porter, of which the first were asked in these worlds
  pub record Stands (c d : ℕ) (h m : Option World) (p : Pairs) : Type 0 where
    pub near : Nears c h p.near_world p.near
    pub far : Fars d m p.far_world p.far

  deliver_far : (c d : ℕ) (h m : Option World) (p : Pairs) (number : ℕ) (o : Option (Packet P Why)) → Stands c d h m p
      → Stands c d h m (delivered_far k p number o)
  deliver_far c d h m p number None stands = stands
  deliver_far c d h m p number (Some packet) stands = record { near = stands.near; far = far_hears d m p.far_world p.far packet stands.far }

  deliver_near : (c d : ℕ) (h m : Option World) (p : Pairs) (number : ℕ) (o : Option (Packet P Why)) → Stands c d h m p
      → Stands c d h m (delivered_near k p number o)
  deliver_near c d h m p number None stands = stands
  deliver_near c d h m p number (Some packet) stands = record { near = near_hears c h p.near_world p.near packet stands.near; far = stands.far }

  abbrev hold_noted : Option World → Pairs → Events → Option World
  hold_noted h p e = noted codec slot (near_asked codec slot) h p e

  abbrev make_noted : Option World → Pairs → Events → Option World
  make_noted m p e = noted codec slot (far_asked codec slot) m p e

  -- where a porter makes no call its first is what it was
  same_hold : (h : Option World) (p : Pairs) (e : Events) → (e ≡ handover.NearOwn → ⊥) → hold_noted h p e ≡ h
  same_hold (Some w) p e other = refl
  same_hold None p (handover.OfNear e) other = refl
  same_hold None p (handover.OfFar e) other = refl
  same_hold None p handover.FarOwn other = refl
  same_hold None p (handover.ToFar number) other = refl
  same_hold None p (handover.ToNear number) other = refl
  same_hold None p handover.GiveUp other = refl
  same_hold None p handover.NearOwn other = absurd (other refl)

  same_make : (m : Option World) (p : Pairs) (e : Events) → (e ≡ handover.FarOwn → ⊥) → make_noted m p e ≡ m
  same_make (Some w) p e other = refl
  same_make None p (handover.OfNear e) other = refl
  same_make None p (handover.OfFar e) other = refl
  same_make None p handover.NearOwn other = refl
  same_make None p (handover.ToFar number) other = refl
  same_make None p (handover.ToNear number) other = refl
  same_make None p handover.GiveUp other = refl
  same_make None p handover.FarOwn other = absurd (other refl)

  own_hold : (h : Option World) (p : Pairs) → hold_noted h p handover.NearOwn ≡ Some (hold_or h p.near_world)
  own_hold (Some w) p = refl
  own_hold None p = refl

  own_make : (m : Option World) (p : Pairs) → make_noted m p handover.FarOwn ≡ Some (hold_or m p.far_world)
  own_make (Some w) p = refl
  own_make None p = refl

  note_both : (c d : ℕ) (h m : Option World) (p q : Pairs) (e : Events) → hold_noted h p e ≡ h → make_noted m p e ≡ m → Stands c d h m q
      → Stands c d (hold_noted h p e) (make_noted m p e) q
  note_both c d h m p q e held made stands = record {
    near = subst (λ (o : Option World). Nears c o q.near_world q.near) (sym held) stands.near;
    far = subst (λ (o : Option World). Fars d o q.far_world q.far) (sym made) stands.far;
  }

  abbrev after_step : Pairs → Events → Pairs
  after_step p e = next k p e

  next_stands : (c d : ℕ) (h m : Option World) (p : Pairs) (e : Events) → IsReadyIn codec slot p e → Stands c d h m p
      → Stands (counted is_near_own c e) (counted is_far_own d e) (hold_noted h p e) (make_noted m p e) (after_step p e)
  next_stands c d h m p (handover.OfNear e) ready stands =
      note_both c d h m p (after_step p (handover.OfNear e)) (handover.OfNear e) (same_hold h p (handover.OfNear e) (λ x. cc))
      (same_make m p (handover.OfNear e) (λ x. cc))
      (record { near = near_others slot low c h p.near_world p.near e ready stands.near; far = stands.far })
  next_stands c d h m p (handover.OfFar e) ready stands =
      note_both c d h m p (after_step p (handover.OfFar e)) (handover.OfFar e) (same_hold h p (handover.OfFar e) (λ x. cc)) (same_make m p (handover.OfFar e)
      (λ x. cc))
      (record { near = stands.near; far = far_others P slot low d m p.far_world p.far e ready stands.far })
  next_stands c d h m p handover.NearOwn ready stands = record {
    near = subst (λ (o : Option World). Nears (suc c) o (near_moved k p.near_world p.near) (near_step k p.near_world p.near)) (sym (own_hold h p))
        (near_call c h p.near_world p.near ready.0 ready.1 stands.near);
    far = subst (λ (o : Option World). Fars d o p.far_world p.far) (sym (same_make m p handover.NearOwn (λ x. cc))) stands.far;
  }
  next_stands c d h m p handover.FarOwn ready stands = record {
    near = subst (λ (o : Option World). Nears c o p.near_world p.near) (sym (same_hold h p handover.FarOwn (λ x. cc))) stands.near;
    far = subst (λ (o : Option World). Fars (suc d) o (far_moved k p.far_world p.far) (far_step k p.far_world p.far)) (sym (own_make m p))
        (far_call d m p.far_world p.far ready.0 ready.1 stands.far);
  }
  next_stands c d h m p (handover.ToFar number) ready stands =
      note_both c d h m p (after_step p (handover.ToFar number)) (handover.ToFar number)
      (same_hold h p (handover.ToFar number) (λ x. cc)) (same_make m p (handover.ToFar number) (λ x. cc))
      (deliver_far c d h m p number (slice_get (sent_near codec p.near) number) stands)
  next_stands c d h m p (handover.ToNear number) ready stands =
      note_both c d h m p (after_step p (handover.ToNear number)) (handover.ToNear number)
      (same_hold h p (handover.ToNear number) (λ x. cc)) (same_make m p (handover.ToNear number) (λ x. cc))
      (deliver_near c d h m p number (slice_get (sent_far p.far) number) stands)
  next_stands c d h m p handover.GiveUp ready stands =
      note_both c d h m p (after_step p handover.GiveUp) handover.GiveUp (same_hold h p handover.GiveUp (λ x. cc)) (same_make m p handover.GiveUp (λ x. cc))
      (record { near = near_gives_up c h p.near_world p.near stands.near; far = stands.far })

  pub run_stands : (c d : ℕ) (h m : Option World) (p : Pairs) (es : List Events) → AreReady codec slot p es → Stands c d h m p
      → Stands (counted_from is_near_own c es) (counted_from is_far_own d es) (hold_from codec slot h p es) (make_from codec slot m p es) (run k p es)
  unfolding run
  run_stands c d h m p [] ready stands = stands
  run_stands c d h m p (e ∷ es) ready stands =
      run_stands (counted is_near_own c e) (counted is_far_own d e) (hold_noted h p e) (make_noted m p e) (after_step p e) es ready.1
      (next_stands c d h m p e ready.0 stands)

  -- ---- what is gathered is read

  valid_waits : (c : ℕ) (h : Option World) (v : World) (n : NearSide) (i : Image) → Nears c h v n → n ≡ near.Waits i → is_valid i ≡ true
  valid_waits _ _ _ _ i (NearAt.Waiting n w v image began work) e =
      let same : image ≡ i = cc in
      subst (λ (x : Image). is_valid x ≡ true) same (has_gathered slot low n w v image began work).it.valid
  valid_waits _ _ _ _ i (NearAt.Fresh v fresh) e = cc
  valid_waits _ _ _ _ i (NearAt.Saving n w v s began work going works) e = cc
  valid_waits _ _ _ _ i (NearAt.Clearing n w v image more number m u began of named sound left before spends) e = cc
  valid_waits _ _ _ _ i (NearAt.Cleared n w v image number m u began of named sound spent before spends) e = cc
  valid_waits _ _ _ _ i (NearAt.Cancelling n w v image why began work) e = cc
  valid_waits _ _ _ _ i (NearAt.Cancelled n w u v image why began of work sound) e = cc
  valid_waits _ _ _ _ i (NearAt.Failed n w u v end why began work is sound) e = cc

  gather_exactly : (c d : ℕ) (h m : Option World) (p : Pairs) (es : List Events) → AreReady codec slot p es → Stands c d h m p → GatherExactly k p es
  gather_exactly c d h m p [] ready stands = tt
  gather_exactly c d h m p (e ∷ es) ready stands =
      let on = next_stands c d h m p e ready.0 stands in (
        λ i is. good.exact i (valid_waits (counted is_near_own c e) (hold_noted h p e) (after_step p e).near_world (after_step p e).near i on.near is),
        gather_exactly (counted is_near_own c e) (counted is_far_own d e) (hold_noted h p e) (make_noted m p e) (after_step p e) es ready.1 on,
      )

  -- ---- never both

  pub first_stands : (w v : World) → MayMigrate slot w v → Stands 0 0 None None (first k w v)
  first_stands w v may = record {
    near = NearAt.Fresh w (record { sound = may.near; clean = may.near_clean; uncut = may.near_uncut; no_porter = may.no_porter; unserved = may.unserved });
    far = FarAt.Listening v [] (record { sound = may.far; clean = may.far_clean; uncut = may.far_uncut });
  }

  module _ (w v : World) (es : List Events) (h : World) (its : Happens codec slot w v es h) where
    abbrev p : Pairs
    p = run k (first k w v) es

    pub stands_here : Stands (counted_from is_near_own 0 es) (counted_from is_far_own 0 es) (Some h) (make_from codec slot None (first k w v) es) p
    stands_here =
        subst (λ (o : Option World). Stands (counted_from is_near_own 0 es) (counted_from is_far_own 0 es) o (make_from codec slot None
        (first k w v) es) p) its.held
        (run_stands 0 0 None None (first k w v) es its.ready (first_stands w v its.may))

    pub exactly : GatherExactly k (first k w v) es
    exactly = gather_exactly 0 0 None None (first k w v) es its.ready (first_stands w v its.may)

    -- where the copy is let go nothing is left of the near one
    pub let_go : (i : Image) → is_let_go p.far ≡ Some i → p.near ≡ near.Cleared i
    let_go i e = never_both k good.nothing w v es i exactly e

  abbrev root : Path
  root = slot ∷ top

  held_not_free : (u : World) (number : ℕ) → IsSound u → birth_at u root ≡ Some number → holder_of (u.body root) ≡ Some (At (LAST_PORTER_SLOT ∷ top))
      → IsFree u number → ⊥
  held_not_free u number sound named holder free =
      let here : free.0 ≡ root = sound.whole.valid.consistent.apart free.0 root number free.1 named in
      free.2 (subst (λ (x : Path). holder_of (u.body x) ≡ Some (At (LAST_PORTER_SLOT ∷ top))) (sym here) holder)

  -- what the porter holds, with the number of the copy, isn't free
  held_copy : (m v : World) (copy : ℕ) → IsSound v → fars.IsCopy P slot low m v → holder_of (v.body root) ≡ Some (At (LAST_PORTER_SLOT ∷ top))
      → MakesCopy slot m copy
      → IsFree v copy → ⊥
  held_copy m v copy sound is held made_it free = held_not_free v copy sound (is.named copy made_it.named) held free

  makes_copy : (n : ℕ) (o : Option World) (m v : World) (image : Image) (s : restores.State) (copy : ℕ) → fars.MakesAt P slot low image n o v s → o ≡ Some m
      → MakesCopy slot m copy → IsFree v copy → ⊥
  makes_copy _ _ m _ image _ copy (MakesAt.Begins v valid empty) e made_it free = cc
  makes_copy _ _ m _ image _ copy (MakesAt.Goes_on n w v s valid began work going works is) e made_it free =
      let here : w ≡ m = cc in
      held_copy w v copy (fars.worked_sound P slot low image w v s n work) is (fars.held_now P slot low image w v s n valid began work works)
      (subst (λ (x : World). MakesCopy slot x copy) (sym here) made_it) free

  -- a copy that is free is let go
  free_is_let_go : (n : ℕ) (o : Option World) (m v : World) (f : FarSide) (copy : ℕ) → Fars n o v f → o ≡ Some m → MakesCopy slot m copy → IsFree v copy
      → (i : Image) × (is_let_go f ≡ Some i)
  free_is_let_go _ _ m _ _ copy (FarAt.Standing n w v image stands) e made_it free =
      let here : w ≡ m = cc in
      absurd (held_copy w v copy (fars.worked_sound P slot low image w v (restores.Works []) n stands.work) stands.copy
      (fars.held_now P slot low image w v (restores.Works []) n stands.valid stands.began stands.work (_, _, refl))
      (subst (λ (x : World). MakesCopy slot x copy) (sym here) made_it) free)
  free_is_let_go _ _ m _ _ copy (FarAt.Releasing n w v image stands) e made_it free = (image, refl)
  free_is_let_go _ _ m _ _ copy (FarAt.Moved n w u v image valid began work sound) e made_it free = (image, refl)
  free_is_let_go _ _ m _ _ copy (FarAt.Clearing n w v image more told its sound) e made_it free =
      let here : w ≡ m = cc in
      let same = its.named copy (subst (λ (x : World). MakesCopy slot x copy) (sym here) made_it).named in
      absurd (held_not_free v copy sound (subst (λ (x : ℕ). birth_at v root ≡ Some x) same its.left.named) its.left.emptied.holding.holder free)
  free_is_let_go _ _ m _ _ copy (FarAt.Refused n w v image end why ended says sound spent) e made_it free =
      let here : w ≡ m = cc in absurd ((spent copy (subst (λ (x : World). MakesCopy slot x copy) (sym here) made_it)).1 free.0 free.1)
  free_is_let_go _ _ m _ _ copy (FarAt.Undone n w v image end ended sound spent) e made_it free =
      let here : w ≡ m = cc in absurd ((spent copy (subst (λ (x : World). MakesCopy slot x copy) (sym here) made_it)).1 free.0 free.1)
  free_is_let_go _ _ m _ _ copy (FarAt.Cleared n w v image told cleared sound spent) e made_it free =
      let here : w ≡ m = cc in absurd ((spent copy (subst (λ (x : World). MakesCopy slot x copy) (sym here) made_it)).1 free.0 free.1)
  free_is_let_go _ _ m _ _ copy (FarAt.Making n o v image s makes) e made_it free = absurd (makes_copy n o m v image s copy makes e made_it free)
  free_is_let_go _ _ m _ _ copy (FarAt.Undoing n o v image s makes) e made_it free = absurd (makes_copy n o m v image s copy makes e made_it free)
  free_is_let_go _ _ m _ _ copy (FarAt.Listening v got empty) e made_it free = cc
  free_is_let_go _ _ m _ _ copy (FarAt.Never v sound) e made_it free = cc

  -- ---- nothing left of the near one

  record IsAllGone (h v : World) (image : Image) : Type 0 where
    pictured : picture image ≡ cut h top slot
    spent : (number : ℕ) → birth_at h root ≡ Some number → IsSpent v number

  all_gone : (c : ℕ) (o : Option World) (h v : World) (n : NearSide) (image : Image) → Nears c o v n → o ≡ Some h → n ≡ near.Cleared image → IsAllGone h v image
  all_gone _ _ h _ _ image (NearAt.Cleared n w v other number m u began of named sound spent before spends) e is =
      let here : w ≡ h = cc in
      let same : other ≡ image = cc in
      record {
        pictured = subst (λ (x : World). picture image ≡ cut x top slot) here (subst (λ (i : Image). picture i ≡ cut w top slot) same of.pictured);
        spent = λ n its. subst (λ (m : ℕ). IsSpent v m)
            (same_number (birth_at h root) number n (subst (λ (x : World). birth_at x root ≡ Some number) here named) its) spent;
      }
  all_gone _ _ h _ _ image (NearAt.Fresh v fresh) e is = cc
  all_gone _ _ h _ _ image (NearAt.Saving n w v s began work going works) e is = cc
  all_gone _ _ h _ _ image (NearAt.Waiting n w v i began work) e is = cc
  all_gone _ _ h _ _ image (NearAt.Clearing n w v i more number m u began of named sound left before spends) e is = cc
  all_gone _ _ h _ _ image (NearAt.Cancelling n w v i why began work) e is = cc
  all_gone _ _ h _ _ image (NearAt.Cancelled n w u v i why began of work sound) e is = cc
  all_gone _ _ h _ _ image (NearAt.Failed n w u v end why began work is2 sound) e is = cc

  pub never_both_free : (w v : World) (es : List Events) (h m : World) (number copy : ℕ) → Happens codec slot w v es h → birth_at h root ≡ Some number
      → make_from codec slot None (first k w v) es ≡ Some m → MakesCopy slot m copy → IsFree (run k (first k w v) es).near_world number
      → IsFree (run k (first k w v) es).far_world copy → ⊥
  never_both_free w v es h m number copy its named made_there made_it near_free far_free =
      let q = run k (first k w v) es in
      let stands = stands_here w v es h its in
      let let_it = free_is_let_go (counted_from is_far_own 0 es) (make_from codec slot None
      (first k w v) es) m q.far_world q.far copy stands.far made_there made_it far_free in
      let cleared = let_go w v es h its let_it.0 let_it.1 in
      let gone = all_gone (counted_from is_near_own 0 es) (Some h) h q.near_world q.near let_it.0 stands.near refl cleared in
      (gone.spent number named).1 near_free.0 near_free.1

  -- ---- moved, and kept

  released_copy : (n : ℕ) (o : Option World) (v : World) (f : FarSide) (image : Image) → Fars n o v f → f ≡ far.Releases image → IsReadyAt v (release top slot)
      → HasRoom v → cut (after v (release top slot)) top slot ≡ picture image
  released_copy _ _ _ _ image (FarAt.Releasing n w v other stands) e ready room =
      let same : other ≡ image = cc in
      let its : fars.StandsBuilt P slot low n w image v = subst (λ (i : Image). fars.StandsBuilt P slot low n w i v) same stands in
      let on = fars.worked_own P slot low image its.valid n w v (restores.Works []) (SpaceRelease OWN_SPACE slot) no_words its.began its.work refl ready room in
      let end = image_restore_ends_so slot its.began.birth image [] w (after v (release top slot)) top (restores.Over restores.Done) restores.Done
      (image_job slot low image its.valid) its.began.may on.work refl in
      end.1 ∙ unbound_is_same (picture image)
  released_copy _ _ _ _ image (FarAt.Listening v got empty) e ready room = cc
  released_copy _ _ _ _ image (FarAt.Making n o v i s makes) e ready room = cc
  released_copy _ _ _ _ image (FarAt.Standing n w v i stands) e ready room = cc
  released_copy _ _ _ _ image (FarAt.Moved n w u v i valid began work sound) e ready room = cc
  released_copy _ _ _ _ image (FarAt.Refused n w v i end why ended says sound spent) e ready room = cc
  released_copy _ _ _ _ image (FarAt.Undoing n o v i s makes) e ready room = cc
  released_copy _ _ _ _ image (FarAt.Clearing n w v i more told its sound) e ready room = cc
  released_copy _ _ _ _ image (FarAt.Never v sound) e ready room = cc
  released_copy _ _ _ _ image (FarAt.Undone n w v i end ended sound spent) e ready room = cc
  released_copy _ _ _ _ image (FarAt.Cleared n w v i told cleared sound spent) e ready room = cc

  pub moved_is_same : (w v : World) (es : List Events) (h : World) (image : Image) → Happens codec slot w v es h
      → (run k (first k w v) es).far ≡ far.Releases image → IsReadyIn codec slot (run k (first k w v) es) handover.FarOwn
      → (cut (next k (run k (first k w v) es) handover.FarOwn).far_world top slot ≡ cut h top slot) ×
      ((number : ℕ) → birth_at h root ≡ Some number → HasNone (run k (first k w v) es).near_world number)
  moved_is_same w v es h image its is ready =
      let q = run k (first k w v) es in
      let stands = stands_here w v es h its in
      let cleared = let_go w v es h its image (ap (λ (f : FarSide). is_let_go f) is) in
      let gone = all_gone (counted_from is_near_own 0 es) (Some h) h q.near_world q.near image stands.near refl cleared in
      let goes : IsReadyAt q.far_world (release top slot) = subst (λ (f : FarSide). IsFarReady slot q.far_world f) is ready.0 in
      let moved : far_moved k q.far_world q.far ≡ after q.far_world (release top slot) = ap (λ (f : FarSide). far_moved k q.far_world f) is in (
        ap (λ (u : World). cut u top slot) moved ∙ released_copy (counted_from is_far_own 0 es) (make_from codec slot None
            (first k w v) es) q.far_world q.far image stands.far is goes ready.1
            ∙ gone.pictured,
        λ number named. (gone.spent number named).1,
      )

  released_own : (c : ℕ) (o : Option World) (h v : World) (n : NearSide) (image : Image) (why : Why) → Nears c o v n → o ≡ Some h → n ≡ near.Cancels image why
      → IsReadyAt v (release top slot) → HasRoom v → cut (after v (release top slot)) top slot ≡ cut h top slot
  released_own _ _ h _ _ image why (NearAt.Cancelling n w v other because began work) e is ready room =
      let here : w ≡ h = cc in
      let on = nears.worked_own slot low n w v (checks.Releases (checks.Done other)) (SpaceRelease OWN_SPACE slot) no_words began work refl ready room in
      subst (λ (x : World). cut (after v (release top slot)) top slot ≡ cut x top slot) here
      (cut_kept slot began.birth w top low began.may (after v (release top slot)) (checks.Over (checks.Done other))
      (came slot began.birth w top low began.may (after v (release top slot)) (checks.Over (checks.Done other)) on.work))
  released_own _ _ h _ _ image why (NearAt.Fresh v fresh) e is ready room = cc
  released_own _ _ h _ _ image why (NearAt.Saving n w v s began work going works) e is ready room = cc
  released_own _ _ h _ _ image why (NearAt.Waiting n w v i began work) e is ready room = cc
  released_own _ _ h _ _ image why (NearAt.Clearing n w v i more number m u began of named sound left before spends) e is ready room = cc
  released_own _ _ h _ _ image why (NearAt.Cleared n w v i number m u began of named sound spent before spends) e is ready room = cc
  released_own _ _ h _ _ image why (NearAt.Cancelled n w u v i other began of work sound) e is ready room = cc
  released_own _ _ h _ _ image why (NearAt.Failed n w u v end other began work is2 sound) e is ready room = cc

  pub kept_is_same : (w v : World) (es : List Events) (h : World) (image : Image) (why : Why) → Happens codec slot w v es h
      → (run k (first k w v) es).near ≡ near.Cancels image why → IsReadyIn codec slot (run k (first k w v) es) handover.NearOwn
      → cut (next k (run k (first k w v) es) handover.NearOwn).near_world top slot ≡ cut h top slot
  kept_is_same w v es h image why its is ready =
      let q = run k (first k w v) es in
      let stands = stands_here w v es h its in
      let goes : IsReadyAt q.near_world (release top slot) = subst (λ (n : NearSide). IsNearReady slot q.near_world n) is ready.0 in
      let moved : near_moved k q.near_world q.near ≡ after q.near_world (release top slot) = ap (λ (n : NearSide). near_moved k q.near_world n) is in
      ap (λ (u : World). cut u top slot) moved ∙ released_own (counted_from is_near_own 0 es)
      (Some h) h q.near_world q.near image why stands.near refl is goes ready.1

  -- ---- the checkpoint's own ends

  foreign_own : (c : ℕ) (o : Option World) (h v : World) (n : NearSide) (place : Place) → Nears c o v n → o ≡ Some h
      → n ≡ near.Saves (checks.Releases (checks.Foreign place)) → IsReadyAt v (release top slot) → HasRoom v
      → (cut (after v (release top slot)) top slot ≡ cut h top slot) × (open_place h top slot ≡ Some place)
  foreign_own _ _ h _ _ place (NearAt.Saving n w v s began work going works) e is ready room =
      let here : w ≡ h = cc in
      let state : s ≡ checks.Releases (checks.Foreign place) = cc in
      let mine : nears.Worked slot low w v (checks.Releases (checks.Foreign place)) n = subst
      (λ (x : checks.State). nears.Worked slot low w v x n) state work in
      let on = nears.worked_own slot low n w v (checks.Releases (checks.Foreign place)) (SpaceRelease OWN_SPACE slot) no_words began mine refl ready room in
      let end = came slot began.birth w top low began.may (after v (release top slot)) (checks.Over (checks.Foreign place)) on.work in
      subst (λ (x : World). (cut (after v (release top slot)) top slot ≡ cut x top slot) × (open_place x top slot ≡ Some place)) here (
        cut_kept slot began.birth w top low began.may (after v (release top slot)) (checks.Over (checks.Foreign place)) end,
        (ends_as_it_was slot began.birth w top low began.may (after v (release top slot)) (checks.Over (checks.Foreign place))
            (checks.Foreign place) end refl).1,
      )
  foreign_own _ _ h _ _ place (NearAt.Fresh v fresh) e is ready room = cc
  foreign_own _ _ h _ _ place (NearAt.Waiting n w v i began work) e is ready room = cc
  foreign_own _ _ h _ _ place (NearAt.Clearing n w v i more number m u began of named sound left before spends) e is ready room = cc
  foreign_own _ _ h _ _ place (NearAt.Cleared n w v i number m u began of named sound spent before spends) e is ready room = cc
  foreign_own _ _ h _ _ place (NearAt.Cancelling n w v i other began work) e is ready room = cc
  foreign_own _ _ h _ _ place (NearAt.Cancelled n w u v i other began of work sound) e is ready room = cc
  foreign_own _ _ h _ _ place (NearAt.Failed n w u v end other began work is2 sound) e is ready room = cc

  pub foreign_is_same : (w v : World) (es : List Events) (h : World) (place : Place) → Happens codec slot w v es h
      → (run k (first k w v) es).near ≡ near.Saves (checks.Releases (checks.Foreign place)) → IsReadyIn codec slot (run k (first k w v) es) handover.NearOwn
      → (cut (next k (run k (first k w v) es) handover.NearOwn).near_world top slot ≡ cut h top slot) × (open_place h top slot ≡ Some place)
  foreign_is_same w v es h place its is ready =
      let q = run k (first k w v) es in
      let stands = stands_here w v es h its in
      let goes : IsReadyAt q.near_world (release top slot) = subst (λ (n : NearSide). IsNearReady slot q.near_world n) is ready.0 in
      let moved : near_moved k q.near_world q.near ≡ after q.near_world (release top slot) = ap (λ (n : NearSide). near_moved k q.near_world n) is in
      let both = foreign_own (counted_from is_near_own 0 es) (Some h) h q.near_world q.near place stands.near refl is goes ready.1 in
      (ap (λ (u : World). cut u top slot) moved ∙ both.0, both.1)

  abbrev fails : Why → near.Saved checks.State Image Why
  fails why = near.Fails why

  says_end : (h : World) (end : checks.End) (why : Why) → checked_end end ≡ fails why → IsNone end → EndsAsItWas h top slot end → SaysWhy h slot why
  says_end h (checks.Done image) why e none says = absurd none
  says_end h checks.Gone why e none says = let same : WhyDead ≡ why = cc in subst (SaysWhy h slot) same says
  says_end h (checks.Foreign place) why e none says = let same : WhyOpen place ≡ why = cc in subst (SaysWhy h slot) same says

  failed_says : (c : ℕ) (o : Option World) (h v : World) (n : NearSide) (why : Why) → Nears c o v n → o ≡ Some h → n ≡ near.Failed why → SaysWhy h slot why
  failed_says _ _ h _ _ why (NearAt.Failed n w u v end other began work says sound) e is =
      let here : w ≡ h = cc in
      let same : other ≡ why = cc in
      let end_at = came slot began.birth w top low began.may u (checks.Over end) work.work in
      subst (SaysWhy h slot) same (subst (λ (x : World). SaysWhy x slot other) here
      (says_end w end other says.0 says.1 (ends_as_it_was slot began.birth w top low began.may u (checks.Over end) end end_at refl)))
  failed_says _ _ h _ _ why (NearAt.Saving n w v s began work going works) e is = cc
  failed_says _ _ h _ _ why (NearAt.Fresh v fresh) e is = cc
  failed_says _ _ h _ _ why (NearAt.Waiting n w v i began work) e is = cc
  failed_says _ _ h _ _ why (NearAt.Clearing n w v i more number m u began of named sound left before spends) e is = cc
  failed_says _ _ h _ _ why (NearAt.Cleared n w v i number m u began of named sound spent before spends) e is = cc
  failed_says _ _ h _ _ why (NearAt.Cancelling n w v i other began work) e is = cc
  failed_says _ _ h _ _ why (NearAt.Cancelled n w u v i other began of work sound) e is = cc

  pub failed_says_why : (w v : World) (es : List Events) (h : World) (why : Why) → Happens codec slot w v es h → (run k (first k w v) es).near ≡ near.Failed why
      → SaysWhy h slot why
  failed_says_why w v es h why its is =
      let q = run k (first k w v) es in
      failed_says (counted_from is_near_own 0 es) (Some h) h q.near_world q.near why (stands_here w v es h its).near refl is

  -- ---- the far restore's ends

  refuses_end : (n : ℕ) (w : World) (image : Image) (end : restores.End) (why : Why) → fars.HasEnded P slot low n w image end
      → made_end end ≡ fars.fails P slot low why → RefusesSo w slot image why
  refuses_end n w image restores.Done why ended e = absurd (ended.undone refl)
  refuses_end n w image restores.Occupied why ended e =
      let same : WhyTaken ≡ why = cc in
      let ends = image_restore_ends_so slot ended.began.birth image [] w ended.last top (restores.Over restores.Occupied) restores.Occupied
      (image_job slot low image ended.valid) ended.began.may ended.work.work refl in
      subst (λ (y : Why). RefusesSo w slot image y) same ends.0
  refuses_end n w image (restores.NoPort port) why ended e =
      let same : WhyNoPort port ≡ why = cc in
      let job = image_job slot low image ended.valid in
      let ends = image_restore_ends_so slot ended.began.birth image [] w ended.last top (restores.Over (restores.NoPort port)) (restores.NoPort port) job
      ended.began.may ended.work.work refl in
      let missed = (no_port_is_exact slot ended.began.birth (bound_by []) (picture image) (rooms_of image) w ended.last top
      (restores.Over (restores.NoPort port))
      (restores.NoPort port) low (roomed slot image [] job) ended.began.may ended.work.work refl).missed port refl in
      subst (λ (y : Why). RefusesSo w slot image y) same (ends.0, missed.0, (ended.last, ended.work.work, missed.1))

  refused_so : (n : ℕ) (o : Option World) (m v : World) (f : FarSide) (image : Image) (why : Why) → Fars n o v f → o ≡ Some m → f ≡ far.Refuses image why
      → RefusesSo m slot image why
  refused_so _ _ m _ _ image why (FarAt.Refused n w v other end reason ended says sound spent) e is =
      let here : w ≡ m = cc in
      let same : other ≡ image = cc in
      let because : reason ≡ why = cc in
      let its = refuses_end n w other end reason ended says in
      subst (λ (x : World). RefusesSo x slot image why) here
      (subst (λ (i : Image). RefusesSo w slot i why) same (subst (λ (y : Why). RefusesSo w slot other y) because its))
  refused_so _ _ m _ _ image why (FarAt.Listening v got empty) e is = cc
  refused_so _ _ m _ _ image why (FarAt.Making n o v i s makes) e is = cc
  refused_so _ _ m _ _ image why (FarAt.Standing n w v i stands) e is = cc
  refused_so _ _ m _ _ image why (FarAt.Releasing n w v i stands) e is = cc
  refused_so _ _ m _ _ image why (FarAt.Moved n w u v i valid began work sound) e is = cc
  refused_so _ _ m _ _ image why (FarAt.Undoing n o v i s makes) e is = cc
  refused_so _ _ m _ _ image why (FarAt.Clearing n w v i more told its sound) e is = cc
  refused_so _ _ m _ _ image why (FarAt.Never v sound) e is = cc
  refused_so _ _ m _ _ image why (FarAt.Undone n w v i end ended sound spent) e is = cc
  refused_so _ _ m _ _ image why (FarAt.Cleared n w v i told cleared sound spent) e is = cc

  pub refused_says_why : (w v : World) (es : List Events) (h m : World) (image : Image) (why : Why) → Happens codec slot w v es h
      → make_from codec slot None (first k w v) es ≡ Some m → (run k (first k w v) es).far ≡ far.Refuses image why → RefusesSo m slot image why
  refused_says_why w v es h m image why its made_there is =
      let q = run k (first k w v) es in
      refused_so (counted_from is_far_own 0 es) (make_from codec slot None (first k w v) es) m q.far_world q.far image why
      (stands_here w v es h its).far made_there is

  -- ---- kept

  pub kept_is_alone : (w v : World) (es more : List Events) (h m : World) (copy : ℕ) → Happens codec slot w v (es ++ more) h
      → is_kept (run k (first k w v) es).near ≡ true → make_from codec slot None (first k w v) (es ++ more) ≡ Some m → MakesCopy slot m copy
      → IsFree (run k (first k w v) (es ++ more)).far_world copy → ⊥
  kept_is_alone w v es more h m copy its kept made_there made_it free =
      let q = run k (first k w v) (es ++ more) in
      let let_it = free_is_let_go (counted_from is_far_own 0 (es ++ more)) (make_from codec slot None (first k w v) (es ++ more)) m q.far_world q.far copy
      (stands_here w v (es ++ more) h its).far made_there made_it free in
      let none = kept_for_ever k good.nothing w v es more (exactly w v (es ++ more) h its) kept in
      let both = sym let_it.1 ∙ none in
      never let_it.0 both
    where
      never : (i : Image) → Some i ≡ None → ⊥
      never i e = cc

  made_at : (n : ℕ) (o : Option World) (v : World) (f : FarSide) (image : Image) (why : Why) → Fars n o v f → f ≡ far.Refuses image why
      → (m : World) × (o ≡ Some m)
  made_at _ _ _ _ image why (FarAt.Refused n w v other end reason ended says sound spent) is = (w, refl)
  made_at _ _ _ _ image why (FarAt.Listening v got empty) is = cc
  made_at _ _ _ _ image why (FarAt.Making n o v i s makes) is = cc
  made_at _ _ _ _ image why (FarAt.Standing n w v i stands) is = cc
  made_at _ _ _ _ image why (FarAt.Releasing n w v i stands) is = cc
  made_at _ _ _ _ image why (FarAt.Moved n w u v i valid began work sound) is = cc
  made_at _ _ _ _ image why (FarAt.Undoing n o v i s makes) is = cc
  made_at _ _ _ _ image why (FarAt.Clearing n w v i more told its sound) is = cc
  made_at _ _ _ _ image why (FarAt.Never v sound) is = cc
  made_at _ _ _ _ image why (FarAt.Undone n w v i end ended sound spent) is = cc
  made_at _ _ _ _ image why (FarAt.Cleared n w v i told cleared sound spent) is = cc

  pub cancelled_says_why : (w v : World) (es : List Events) (h : World) (why : Why) → Happens codec slot w v es h
      → why_cancelled (run k (first k w v) es).near ≡ Some why
      → ((why ≡ GaveUp) × IsIn handover.GiveUp es) ⊎
      ((m : World) × (image : Image) × (make_from codec slot None (first k w v) es ≡ Some m) × RefusesSo m slot image why)
  cancelled_says_why w v es h why its e = by (cancel_says_why k w v es why e)
    where
      by : ((why ≡ GaveUp) × IsIn handover.GiveUp es) ⊎ ((i : Image) × ((run k (first k w v) es).far ≡ far.Refuses i why))
          → ((why ≡ GaveUp) × IsIn handover.GiveUp es) ⊎
          ((m : World) × (image : Image) × (make_from codec slot None (first k w v) es ≡ Some m) × RefusesSo m slot image why)
      by (inl up) = inl up
      by (inr so) =
          let q = run k (first k w v) es in
          let here = made_at (counted_from is_far_own 0 es) (make_from codec slot None (first k w v) es) q.far_world q.far so.0 why
          (stands_here w v es h its).far so.1 in
          inr (here.0, so.0, here.1, refused_says_why w v es h here.0 so.0 why its here.1 so.1)
