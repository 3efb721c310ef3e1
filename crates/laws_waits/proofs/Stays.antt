-- A change that leaves a reason leaves it true.
use Rattle.std.proofs.Common.{◌≡◌, ℕ, ◌/◌, Bool, true, false, not, cond, ◌&&◌, ◌==◌, is_some, List, [], ◌∷◌, Option, Some, None, option_map, Ok, refl, ap, ◌∙◌}
use Rattle.std.proofs.Common.{nat_le}
use Rattle.std.proofs.Common.{◌⊎◌, inl, inr, sym}
use Rattle.fk_model.specs.declared.limits.TheConstants.{PAGE_WORDS, LAST_USER_SLOT}
use Rattle.fk_model.specs.declared.names.Kind.TheVariants as kinds
use Rattle.fk_model.specs.declared.stage.Stage.{Stage}
use Rattle.fk_model.specs.declared.thread.Turn.{Turn}
use Rattle.fk_model.specs.declared.thread.Turn.TheVariants as turns
use Rattle.fk_model.specs.Places.{Path, same_path, strip, is_within, parent, leads_to}
use Rattle.fk_model.specs.Places.Ptr.{At}
use Rattle.fk_model.specs.Objects.{Talk, Fault, Thread, mutex_of, space_of, thread_of, and_then, or_else, holds, Body, kind_of, reference_of, same_kind}
use Rattle.fk_model.specs.World.{World, Change, apply, apply_all, serves}
use Rattle.fk_model.specs.Searches.{talk_at}
use Rattle.fk_model.specs.Holds.{holder_of, decider}
use Rattle.fk_model.specs.Readers.{handled}
use Rattle.fk_model.specs.LinkRows.{portset_of}
use Rattle.fk_model.specs.Talks.{first_stage, other_side, is_reference_in, is_handled}
use Rattle.fk_model.specs.Outcomes.{Outcome, listed}
use Rattle.fk_model.specs.Outcomes.Outcome.{Refused, Waits, Goes}
use Rattle.fk_model.specs.Moves.{outcome, step, stepped}
use Rattle.laws_moves.specs.Machine.Frame.{names_body}
use Rattle.fk_model.proofs.walks.PlaceLaws.{same_path_refl}
use Rattle.laws_waits.specs.Touching.{remakes, stirs, reholds, takes_page}
use Rattle.laws_waits.specs.Stuck.{is_resting, IsBeneath, End, talk_place, is_talk_of, is_with, is_at_hand, IsGone, IsTalking, IsTalkingTo, IsAtHome, IsReached}
use Rattle.laws_waits.specs.Stuck.{LeavesHandle}
use Rattle.laws_waits.specs.Stuck.{LeavesPage, LeavesPlace, IsPlace, HasTaken, comes_to, Reason, IsAtStage, IsStuck, LeavesEnd, AreUntouched, awaits_on}
use Rattle.laws_waits.specs.Stuck.{is_at_hand_else}
use Rattle.laws_waits.specs.Stuck.End.{Absent, Covered, Unclaimed, Closed, Unnamed}
use Rattle.laws_waits.specs.Stuck.Reason.{Resting, Beneath, Locking, Sleeping, Connecting, Receiving, Passing, Sending, Lacking, Ending, Holding, Waiting}
use Rattle.laws_waits.specs.Stuck.Reason.{WaitingOut, Barred}
use Rattle.laws_waits.specs.Laws.{StuckStays, MovesLeaveStuck}
use Rattle.laws_waits.proofs.Quiet.{quiet_away, quiet_talk, quiet_fault, quiet_else}
use Rattle.laws_waits.proofs.Memory.{memory_kept, word-same}
use Rattle.laws_waits.proofs.Kept.{kept-body, kept-holder, thread-kept, kept-kind, kept-page, kept-handle, kind_at-kept, same_handle}
use Rattle.laws_waits.proofs.Comes.{comes_none, serves_none}
use Rattle.fk_model.specs.Objects.Body.{Mutex, Reference}
use Rattle.fk_model.specs.Valid.{kind_there}

module _ (w : World) (c : Change) where
  beneath-kept : (space x : Path) → IsBeneath w space x → names_body w c space ≡ false → IsBeneath (apply c w) space x
  beneath-kept space x h out = (h.0, kept-body (λ o. is_some (holder_of o)) w c space out ∙ h.1)

  stage-kept : (x : Path) (stage : Stage) → IsAtStage w x stage → names_body w c x ≡ false → IsAtStage (apply c w) x stage
  stage-kept x stage h out = kept-body (λ o. and_then (λ (t : Thread). first_stage t.mode) (and_then thread_of o)) w c x out ∙ h

  talk-test : (test : Talk → Bool) → ((talk : Talk) (n : ℕ) → test (record talk { moved = n }) ≡ test talk) → (q : Path) → stirs w c q ≡ false →
      holds test (talk_at w q) ≡ true → holds test (talk_at (apply c w) q) ≡ true
  talk-test test blind q quiet h =
      thread-kept (λ o. holds test (and_then (λ (t : Thread). t.talk) o) ≡ true) w q (λ e t at off on. quiet_talk test blind e t ∙ on) c quiet h

  talk-blind : (side : Turn) (me : Path) (turn : Turn) (talk : Talk) (n : ℕ)
      → is_talk_of side me turn (record talk { moved = n }) ≡ is_talk_of side me turn talk
  talk-blind turns.Client me turn talk n = refl
  talk-blind turns.Server me turn talk n = refl

  with-blind : (side : Turn) (client : Path) (end : End) (talk : Talk) (n : ℕ)
      → is_with side client end (record talk { moved = n }) ≡ is_with side client end talk
  with-blind turns.Client client (Absent y) talk n = refl
  with-blind turns.Client client (Unnamed y k) talk n = refl
  with-blind turns.Client client (Covered y space) talk n = refl
  with-blind turns.Client client Unclaimed talk n = refl
  with-blind turns.Client client (Closed port space) talk n = refl
  with-blind turns.Server client (Absent y) talk n = refl
  with-blind turns.Server client (Unnamed y k) talk n = refl
  with-blind turns.Server client (Covered y space) talk n = refl
  with-blind turns.Server client Unclaimed talk n = refl
  with-blind turns.Server client (Closed port space) talk n = refl

  talking-kept : (me : Path) (side turn : Turn) (client : Path) → IsTalking w me side turn client → stirs w c (talk_place side me client) ≡ false →
      IsTalking (apply c w) me side turn client
  talking-kept me side turn client h quiet = talk-test (is_talk_of side me turn) (talk-blind side me turn) (talk_place side me client) quiet h

  talking_to-kept : (me : Path) (side : Turn) (client : Path) (end : End) → IsTalkingTo w me side client end → stirs w c (talk_place side me client) ≡ false →
      IsTalkingTo (apply c w) me side client end
  talking_to-kept me side client end h quiet =
      talk-test (λ talk. is_talk_of side me side talk && is_with side client end talk)
      (λ talk n. ap (λ b. b && is_with side client end (record talk { moved = n })) (talk-blind side me side talk n)
      ∙ ap (λ b. is_talk_of side me side talk && b) (with-blind side client end talk n))
      (talk_place side me client) quiet h

  reference-kept : (space : Path) (k : ℕ) → remakes c (k ∷ space) ≡ false → is_reference_in (apply c w) space k ≡ is_reference_in w space k
  unfolding kind_there
  reference-kept space k out = ap (λ b. nat_le k LAST_USER_SLOT && b)
      (by_kind ((apply c w).body (k ∷ space)) ∙ ap (holds (same_kind kinds.Reference)) (kept-kind w c (k ∷ space) out) ∙ sym (by_kind (w.body (k ∷ space))))
    where
      by_kind : (o : Option Body) → holds (λ b. is_some (reference_of b)) o ≡ holds (same_kind kinds.Reference) (option_map kind_of o)
      by_kind None = refl
      by_kind (Some (Reference to)) = refl
      by_kind (Some (Mutex locked)) = refl
      by_kind (Some b) = refl

  named-kept : (space : Path) (reference : Option ℕ) → is_handled w space reference ≡ true → LeavesHandle c space reference →
      is_handled (apply c w) space reference ≡ true
  named-kept space None h out = refl
  named-kept space (Some k) h out = reference-kept space k out ∙ h

  end-kept : (side : Turn) (end : End) → IsGone w side end → LeavesEnd w c end → IsGone (apply c w) side end
  end-kept side (Absent y) gone quiet =
      thread-kept (λ o. holds (is_at_hand (other_side side)) o ≡ false) w y (λ e t at off away. quiet_away (other_side side) e t off away) c quiet gone
  end-kept side (Unnamed y k) gone out = (
    thread-kept (λ o. holds (is_at_hand_else (other_side side) k) o ≡ false) w y
        (λ e t at off away. quiet_else (other_side side) k e t off away) c out.0 gone.0,
    reference-kept (parent y) k out.1 ∙ gone.1,
  )
  end-kept side (Covered y space) gone out = beneath-kept space y gone out
  end-kept side Unclaimed gone out = tt
  end-kept side (Closed port space) gone out = beneath-kept space port gone out

  home-kept : (space : Path) (address : ℕ) → IsAtHome w space address → takes_page c space (address / PAGE_WORDS) ≡ false → IsAtHome (apply c w) space address
  home-kept space address h out = (h.0, kept-page w c space (address / PAGE_WORDS) out h.1)

  reached-kept : (space : Path) (address : ℕ) (write far : Bool) → IsReached w space address write far → LeavesPage w c space address far →
      IsReached (apply c w) space address write far
  reached-kept space address write false h out = home-kept space address h out
  reached-kept space address write true h out = word-same w (apply c w) (memory_kept w c out) space address write ∙ h

  taken-kept : (x y : Path) → HasTaken w x y → stirs w c y ≡ false → HasTaken (apply c w) x y
  taken-kept x y h quiet =
      thread-kept (λ o. holds (λ (fault : Fault). holds (serves x) fault.taker) (and_then (λ (t : Thread). t.fault) o) ≡ true) w y
      (λ e t at off on. ap (holds (λ (fault : Fault). holds (serves x) fault.taker)) (quiet_fault e t) ∙ on) c quiet h

  covered-kept : ((space : Path) → is_some (holder_of (w.body space)) ≡ true → names_body w c space ≡ false) → (y : Path) →
      (space : Path) × IsBeneath w space y → (space : Path) × IsBeneath (apply c w) space y
  covered-kept out y h = (h.0, beneath-kept h.0 y h.1 (out h.0 h.1.1))

  -- ---- places and who decides there

  handle-kept : (me : Path) (s : ℕ) (space : Path) → names_body w c (s ∷ parent me) ≡ false → remakes c space ≡ false →
      handled w kinds.Space (s ∷ parent me) (w.body (s ∷ parent me)) ≡ Ok (At space) →
      handled (apply c w) kinds.Space (s ∷ parent me) ((apply c w).body (s ∷ parent me)) ≡ Ok (At space)
  handle-kept me s space named made h =
      kept-body (handled (apply c w) kinds.Space (s ∷ parent me)) w c (s ∷ parent me) named
      ∙ same_handle kinds.Space w (apply c w) (s ∷ parent me) (w.body (s ∷ parent me)) (At space) h
      (λ q led. let same : space ≡ q = cc in rw (← same) (kind_at-kept kinds.Space w c space made))

  place-kept : (me : Path) (s : ℕ) (space : Path) → IsPlace w me s space → LeavesPlace w c me s space → IsPlace (apply c w) me s space
  place-kept me s space (inl own) out = inl own
  place-kept me s space (inr there) (inl own) = absurd (let on = own in let off = there.0 in cc)
  place-kept me s space (inr there) (inr out) = inr (there.0, there.1, handle-kept me s space out.0 out.1 there.2)

  within-more : (k : ℕ) (q x : Path) → is_within q x ≡ true → is_within q (k ∷ x) ≡ true
  unfolding strip
  within-more k q x h = by (same_path (k ∷ x) q) (strip q x) h
    where
      by : (b : Bool) (o : Option Path) → is_some o ≡ true → is_some (cond {A = Option Path} b (Some []) (option_map (λ z. k ∷ z) o)) ≡ true
      by true o h = refl
      by false (Some z) h = refl
      by false None h = cc

  within-self : (x : Path) → is_within x x ≡ true
  unfolding strip
  within-self [] = rw (same_path_refl []) refl
  within-self (k ∷ x) = rw (same_path_refl (k ∷ x)) refl

  decider-kept : (x : Path) → ((q : Path) → is_within q x ≡ true → reholds w c q ≡ false) → decider (apply c w) x ≡ decider w x
  unfolding decider
  decider-kept [] out = kept-holder w c [] (out [] (within-self []))
  decider-kept (k ∷ x) out =
      ap (λ o. or_else o (holder_of ((apply c w).body (k ∷ x)))) (decider-kept x (λ q h. out q (within-more k q x h)))
      ∙ ap (or_else (decider w x)) (kept-holder w c (k ∷ x) (out (k ∷ x) (within-self (k ∷ x))))

pub stuck_stays_lem : StuckStays
stuck_stays_lem w c x Resting s out = kept-body (λ o. holds is_resting (and_then thread_of o)) w c x out ∙ s
stuck_stays_lem w c x (Beneath space) s out = beneath-kept w c space x s out
stuck_stays_lem w c x (Locking m) s out = (stage-kept w c x _ s.0 out.0, s.1, kept-body (and_then mutex_of) w c (m ∷ parent x) out.1 ∙ s.2)
stuck_stays_lem w c x (Sleeping cond m) s out =
    (stage-kept w c x _ s.0 out.0, s.1, s.2, kept-kind w c (cond ∷ parent x) out.1 ∙ s.3, kept-kind w c (m ∷ parent x) out.2 ∙ s.4)
stuck_stays_lem w c x (Connecting h port) s out = (
  stage-kept w c x _ s.0 out.0,
  s.1,
  kept-body (λ o. and_then (λ (t : Thread). t.talk) (and_then thread_of o)) w c x out.0 ∙ s.2,
  kept-handle (apply c w) w c (h ∷ parent x) out.1
      ∙ same_handle kinds.Port w (apply c w) (h ∷ parent x) (w.body (h ∷ parent x)) (At port) s.3
      (λ q led. let same : port ≡ q = cc in rw (← same) (kind_at-kept kinds.Port w c port out.2)),
)
stuck_stays_lem w c x (Receiving side into room reference far client) s out =
    (stage-kept w c x _ s.0 out.0, talking-kept w c x side (other_side side) client s.1 out.1, by s.2, named-kept w c (parent x) reference s.3 out.3)
  where
    by : ((room == 0) ≡ true) ⊎ IsReached w (parent x) into true far → ((room == 0) ≡ true) ⊎ IsReached (apply c w) (parent x) into true far
    by (inl e) = inl e
    by (inr h) = inr (reached-kept w c (parent x) into true far h out.2)
stuck_stays_lem w c x (Passing side reference client end) s out = (
  stage-kept w c x _ s.0 out.0,
  talking_to-kept w c x side client end s.1 out.1,
  end-kept w c side end s.2 out.2,
  named-kept w c (parent x) reference s.3 out.3,
)
stuck_stays_lem w c x (Sending side address count far client end) s out = (
  stage-kept w c x _ s.0 out.0,
  s.1,
  reached-kept w c (parent x) address false far s.2 out.3,
  talking_to-kept w c x side client end s.3 out.1,
  end-kept w c side end s.4 out.2,
)
stuck_stays_lem w c x (Lacking side address count far client y into room) s out = (
  stage-kept w c x _ s.0 out.0,
  s.1,
  reached-kept w c (parent x) address false far s.2 out.3,
  talking_to-kept w c x side client (Absent y) s.3 out.1,
  (kept-body (λ o. and_then (λ (t : Thread). awaits_on (other_side side) t.mode) (and_then thread_of o)) w c y out.2 ∙ s.4.0, s.4.1),
  word-same w (apply c w) (memory_kept w c out.4) (parent y) into true ∙ s.5,
)
stuck_stays_lem w c x (Ending y space) s out = (stage-kept w c x _ s.0 out.0, taken-kept w c x y s.1 out.1, beneath-kept w c space y s.2 out.2)
stuck_stays_lem w c x Barred s out = absurd out
stuck_stays_lem w c me (Holding s x space) stuck out = (
  stage-kept w c me _ stuck.0 out.0,
  stuck.1,
  place-kept w c me s space stuck.2 out.1,
  kept-body (λ o. is_some (and_then space_of o)) w c (x ∷ space) out.2 ∙ stuck.3,
  ap (holds (λ holder. not (leads_to me holder))) (decider-kept w c space out.3) ∙ stuck.4,
  stuck.5,
  kept-body (λ o. holds (λ holder. not (leads_to me holder)) (holder_of o)) w c (x ∷ space) out.2 ∙ stuck.6,
)
stuck_stays_lem w c x (Waiting set) s out = (
  stage-kept w c x _ s.0 out.0,
  (s.1.0, kept-body (λ o. is_some (and_then portset_of o)) w c (set ∷ parent x) out.1 ∙ s.1.1),
  λ y. serves_none w c x (set ∷ parent x) out.2 y (s.2 y),
  λ y. comes_none w c x (set ∷ parent x) out.2 y (s.3 y),
)
stuck_stays_lem w c x (WaitingOut set) s out = (
  stage-kept w c x _ s.0 out.0,
  (s.1.0, kept-body (λ o. is_some (and_then portset_of o)) w c (set ∷ parent x) out.1 ∙ s.1.1),
  λ y. serves_none w c x (set ∷ parent x) out.2 y (s.2 y),
  λ y. by y (s.3 y),
)
  where
    by : (y : Path) → (comes_to w (set ∷ parent x) y ≡ false) ⊎ ((space : Path) × IsBeneath w space y) →
        (comes_to (apply c w) (set ∷ parent x) y ≡ false) ⊎ ((space : Path) × IsBeneath (apply c w) space y)
    by y (inl none) = inl (comes_none w c x (set ∷ parent x) out.2 y none)
    by y (inr hidden) = inr (covered-kept w c out.3 y hidden)

-- ---- lists of changes, and moves

all-stay : (w : World) (cs : List Change) (x : Path) (r : Reason) → IsStuck w x r → AreUntouched w cs x r → IsStuck (apply_all cs w) x r
unfolding apply_all
all-stay w [] x r s out = s
all-stay w (c ∷ cs) x r s out = all-stay (apply c w) cs x r (stuck_stays_lem w c x r s out.0) out.1

outcome-stay : (w : World) (x : Path) (r : Reason) (o : Outcome) → IsStuck w x r → AreUntouched w (listed o) x r → IsStuck (stepped w o).world x r
outcome-stay w x r (Goes changes said) s out = all-stay w changes x r s out
outcome-stay w x r (Refused status) s out = s
outcome-stay w x r Waits s out = s

pub moves_leave_stuck_lem : MovesLeaveStuck
unfolding step
moves_leave_stuck_lem w x r mover pick ask s out = outcome-stay w x r (outcome w mover pick ask) s out
