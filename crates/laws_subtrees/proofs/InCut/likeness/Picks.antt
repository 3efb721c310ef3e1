-- A wait goes alike in a likeness, where whom it picks lies inside: the same candidate is taken. The outside hears nothing of it.
use Rattle.std.proofs.Common.{◌≡◌, ℕ, Bool, true, false, cond, [], ◌∷◌, ◌++◌, Option, Some, None, is_some, is_none, option_map, refl, ap}
use Rattle.fk_model.specs.declared.stage.Stage.TheVariants.{Wait}
use Rattle.fk_model.specs.declared.statuses.status.TheConstants.{OK, LINKED}
use Rattle.fk_model.specs.Places.{Path, parent, Ptr}
use Rattle.fk_model.specs.Places.Ptr.{At}
use Rattle.fk_model.specs.Objects.{Peer}
use Rattle.fk_model.specs.Objects.Peer.{Server}
use Rattle.fk_model.specs.World.{World}
use Rattle.fk_model.specs.World.Edit.{Finish, End, SetTalk, SetPeer, SetTaker}
use Rattle.fk_model.specs.Searches.{is_serving}
use Rattle.fk_model.specs.Holds.{is_frozen, is_unheld}
use Rattle.fk_model.specs.Outcomes.{Outcome, refuse}
use Rattle.fk_model.specs.Outcomes.Outcome.{Refused, Waits, Goes}
use Rattle.fk_model.specs.LinkRows.{new_talk, user_at, Candidate, candidate, takes_candidate, takes_picked, portset_of, wait}
use Rattle.fk_model.specs.Moves.{with_pick, call_row}
use Rattle.fk_model.specs.Cut.{is_out}
use Rattle.laws_subtrees.specs.Cut.Likeness.{seen_peer, HasLikeness, AllInTalk, IsLikeness, AlikeResults, AlikeOptions, IsBeneath, CandidateLikeness}
use Rattle.laws_subtrees.specs.Cut.Likeness.PtrLikeness.{Inside}
use Rattle.laws_subtrees.specs.Cut.Likeness.CandidateLikeness.{Faults, Connects, Resumes}
use Rattle.laws_subtrees.specs.Cut.LikeChanges.{seen_edit}
use Rattle.laws_subtrees.specs.Cut.LikeChanges.LikeChange.{Alters}
use Rattle.laws_subtrees.specs.Cut.LikeChanges.LikeChanges.{Empty, Both}
use Rattle.laws_subtrees.proofs.InCut.likeness.Reads.{portset-seen, plain_in-like}
use Rattle.laws_subtrees.proofs.InCut.likeness.Memory.{root_space, root_seen}
use Rattle.laws_subtrees.proofs.InCut.likeness.Waits.{candidate-like}
use Rattle.laws_subtrees.proofs.InCut.likeness.Sends.{Same, says_nothing, same_bind, same_when}
use Rattle.laws_subtrees.proofs.InCut.rebinding.Messages.{same_closed}

taken_alike : (f : Peer → Peer) (o : Option Peer) → is_some (option_map f o) ≡ is_some o
taken_alike f None = refl
taken_alike f (Some taker) = refl

refused_alike : (status : ℕ) (a b : Bool) → a ≡ b → AlikeResults (λ x y. Unit {0}) (refuse status a) (refuse status b)
refused_alike status a b e = rw e (by b)
  where
    by : (b : Bool) → AlikeResults (λ x y. Unit {0}) (refuse status b) (refuse status b)
    by true = refl
    by false = tt

module _ {root : Path} {see : Ptr → Ptr} {small big : World} (like : IsLikeness root see small big) where
  stands_inside : (x : Path) → HasLikeness root see big (At (x ++ root))
  stands_inside x = rw (like.within x) (Inside x)

  -- ---- what becomes of a candidate

  module _ (k : ℕ) (q : Path) (j : ℕ) (z : Path) where
    abbrev me : Path
    me = k ∷ (q ++ root)

    abbrev other : Path
    other = j ∷ (z ++ root)

    server_seen : Server (At (k ∷ q)) ≡ seen_peer see false (Server (At me))
    server_seen = rw (like.within (k ∷ q)) refl

    talk_seen : (slot : ℕ) → SetTalk (Some (new_talk (At (slot ∷ q)) (Server (At (k ∷ q))))) ≡ seen_edit
        see false (SetTalk (Some (new_talk (At (slot ∷ (q ++ root))) (Server (At me)))))
    talk_seen slot = rw (like.within (slot ∷ q), like.within (k ∷ q)) refl

    talk_inside : (slot : ℕ) → AllInTalk see (HasLikeness root see big) (new_talk (At (slot ∷ (q ++ root))) (Server (At me)))
    talk_inside slot = (stands_inside (slot ∷ q), rw (like.within (slot ∷ q)) (stands_inside (k ∷ q)))

    takes_one : (a b : Candidate) →
        CandidateLikeness see big other a b → Same like (takes_candidate (user_at (k ∷ q)) (j ∷ z) (Some a)) (takes_candidate (user_at me) other (Some b))
    takes_one _ _ (Faults slot fault is near) =
        rw (taken_alike (seen_peer see (is_out (see fault.port))) fault.taker) (
          Both (Alters j z _ (SetTaker (Some (Server (At me)))) (ap (λ (p : Peer). SetTaker (Some p)) server_seen) ((fault, is, near), stands_inside (k ∷ q)))
              (Both (Alters k q _ (End OK _) refl tt) Empty),
          says_nothing,
        )
    takes_one _ _ (Connects slot) = (
      Both (Alters j z _ (SetTalk (Some (new_talk (At (slot ∷ (q ++ root))) (Server (At me))))) (talk_seen slot) (talk_inside slot))
          (Both (Alters j z _ (Finish []) refl tt) (Both (Alters k q _ (Finish (slot ∷ 0 ∷ [])) refl tt) Empty)),
      says_nothing,
    )
    takes_one _ _ (Resumes slot talk is near) = (
      Both (Alters j z _ (SetPeer (Server (At me))) (ap SetPeer server_seen) ((talk, is, near), stands_inside (k ∷ q)))
          (Both (Alters k q _ (End OK _) refl tt) Empty),
      says_nothing,
    )

    takes_any : (o p : Option Candidate) →
        AlikeOptions (CandidateLikeness see big other) o p → Same like (takes_candidate (user_at (k ∷ q)) (j ∷ z) o) (takes_candidate (user_at me) other p)
    takes_any None None h = (tt, tt)
    takes_any (Some a) (Some b) h = takes_one a b h
    takes_any None (Some b) h = absurd h
    takes_any (Some a) None h = absurd h

  -- ---- the row

  -- the root is no thread
  nobody : (space : Path) (set : ℕ) → candidate big space set root ≡ None
  unfolding candidate
  nobody space set = rw (root_space like).2 (by (is_unheld big (parent root)))
    where
      by : (b : Bool) → cond {A = Option Candidate} b None None ≡ None
      by true = refl
      by false = refl

  nobody_near : (space : Path) (set : ℕ) → candidate small space set [] ≡ None
  unfolding candidate
  nobody_near space set = rw (root_seen like) (by (is_unheld small []))
    where
      by : (b : Bool) → cond {A = Option Candidate} b None None ≡ None
      by true = refl
      by false = refl

  takes_picked-like : is_frozen big root ≡ false → (k : ℕ) (q : Path) (set : ℕ) (p pick : Option Path) →
      AlikeOptions (IsBeneath root) p pick → Same like (takes_picked small (user_at (k ∷ q)) set p) (takes_picked big (user_at (k ∷ (q ++ root))) set pick)
  takes_picked-like free k q set None None h = (tt, tt)
  takes_picked-like free k q set (Some []) (Some x) h = rw (h, nobody (q ++ root) set, nobody_near q set) (tt, tt)
  takes_picked-like free k q set (Some (j ∷ z)) (Some x) h =
      rw h (takes_any k q j z (candidate small q set (j ∷ z)) (candidate big (q ++ root) set (j ∷ (z ++ root))) (candidate-like like free q set j z))
  takes_picked-like free k q set None (Some x) h = absurd h
  takes_picked-like free k q set (Some z) None h = absurd h

  pub wait-like : is_frozen big root ≡ false → (k : ℕ) (q : Path) (set : ℕ) →
      is_serving small (k ∷ q) ≡ is_serving big (k ∷ (q ++ root)) → (p pick : Option Path) → AlikeOptions (IsBeneath root) p pick →
      Same like (wait small (user_at (k ∷ q)) p set) (wait big (user_at (k ∷ (q ++ root))) pick set)
  unfolding wait
  wait-like free k q set serving p pick h =
      same_bind like ◌≡◌ _ _ _ _ (plain_in-like like portset_of (portset-seen see) (user_at (k ∷ q)) q set)
      (λ a b e. same_bind like (λ x y. Unit {0}) _
      _ _ _ (refused_alike LINKED (is_serving small (k ∷ q)) (is_serving big (k ∷ (q ++ root))) serving) (λ x y u. takes_picked-like free k q set p pick h))

  -- ---- the call

  none_alike : (p pick : Option Path) → AlikeOptions (IsBeneath root) p pick → is_none p ≡ is_none pick
  none_alike None None h = refl
  none_alike (Some z) (Some x) h = refl
  none_alike None (Some x) h = absurd h
  none_alike (Some z) None h = absurd h

  same_picked : (p pick : Option Path) (near far : Outcome) →
      is_none p ≡ is_none pick → Same like near far → Same like (with_pick true p near) (with_pick true pick far)
  same_picked p pick Waits Waits e h = (tt, tt)
  same_picked p pick (Refused status) Waits e h = absurd h.0
  same_picked p pick (Goes cs said) Waits e h = absurd h.0
  same_picked p pick (Refused status) (Refused refusal) e h = same_when like (is_none p) (is_none pick) (Refused status) (Refused refusal) e h
  same_picked p pick (Goes cs said) (Goes ds told) e h = h
  same_picked p pick (Refused status) (Goes ds told) e h = absurd h.0
  same_picked p pick (Goes cs said) (Refused refusal) e h = absurd h.0
  same_picked p pick Waits (Refused refusal) e h = absurd h.0
  same_picked p pick Waits (Goes ds told) e h = absurd h.0

  pub wait_call-like : is_frozen big root ≡ false → (k : ℕ) (q : Path) (set : ℕ) →
      is_serving small (k ∷ q) ≡ is_serving big (k ∷ (q ++ root)) → (p pick : Option Path) → AlikeOptions (IsBeneath root) p pick →
      Same like (call_row small (user_at (k ∷ q)) p (Wait set)) (call_row big (user_at (k ∷ (q ++ root))) pick (Wait set))
  unfolding call_row
  wait_call-like free k q set serving p pick h =
      same_closed like k q _ _ (same_picked p pick _ _ (none_alike p pick h) (wait-like free k q set serving p pick h))
