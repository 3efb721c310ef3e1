-- A restorer's calls change its new subtree and its scratch, and nothing else; and nobody outside comes to lead into the subtree.
use Rattle.std.specs.Prelude.{◌≡◌, ℕ, ◌≤◌, Bool, true, ◌||◌, List, [], ◌∷◌, Some, None}
use Rattle.fk_model.specs.declared.limits.TheConstants.{LAST_USER_SLOT}
use Rattle.fk_model.specs.declared.stage.Stage.TheVariants.{SpaceMakeHeld}
use Rattle.fk_model.specs.Places.{Path, is_within}
use Rattle.fk_model.specs.Places.Ptr.{At}
use Rattle.fk_model.specs.Objects.{Peer, Body}
use Rattle.fk_model.specs.Objects.Peer.{Server, Parked}
use Rattle.fk_model.specs.Objects.Body.{Thread_of}
use Rattle.fk_model.specs.World.{World, Change, Edit, apply_all}
use Rattle.fk_model.specs.World.Change.{Alter, Make, MakeSpace, Kill, PutPage}
use Rattle.fk_model.specs.World.Edit.{SetTalk, SetPeer}
use Rattle.fk_model.specs.ObjectRows.{is_scratch}
use Rattle.fk_model.specs.Runs.{Event, after}
use Rattle.laws_moves.specs.Frozen.Holding.{IsUsersMove}
use Rattle.laws_jobs.specs.Machines.{Reply, no_words, call_of, IsAnswered}
use Rattle.laws_restore.specs.Sites.Orders.{Site, Shows, Order, May, stage_of, words_of}
use Rattle.laws_restore.specs.Sites.Fit.{IsUnled}

-- inside the new space, or scratch of its nester
abbrev pub is_near : Path → ℕ → Path → Bool
is_near nester slot x = is_within (slot ∷ nester) x || is_scratch nester x

-- the peer of a talk that is made lies inside, or there is none yet
abbrev pub IsInnerPeer : Path → ℕ → Peer → Type 0
IsInnerPeer nester slot (Server (At x)) = is_within (slot ∷ nester) x ≡ true
IsInnerPeer nester slot Parked = Unit {0}
IsInnerPeer nester slot other = ⊥

abbrev pub IsInnerEdit : Path → ℕ → Edit → Type 0
IsInnerEdit nester slot (SetTalk (Some talk)) = IsInnerPeer nester slot talk.peer
IsInnerEdit nester slot (SetPeer peer) = ⊥
IsInnerEdit nester slot other = Unit {0}

abbrev pub IsTalkless : Body → Type 0
IsTalkless (Thread_of t) = t.talk ≡ None
IsTalkless other = Unit {0}

abbrev pub IsNearChange : Path → ℕ → Change → Type 0
IsNearChange nester slot (Alter x edit) = (is_near nester slot x ≡ true) × IsInnerEdit nester slot edit
IsNearChange nester slot (Make x body) = (is_near nester slot x ≡ true) × IsTalkless body
IsNearChange nester slot (MakeSpace x holder) = is_near nester slot x ≡ true
IsNearChange nester slot (Kill x) = is_near nester slot x ≡ true
IsNearChange nester slot (PutPage space page words) = is_within (slot ∷ nester) space ≡ true
IsNearChange nester slot other = ⊥

abbrev pub AreNear : Path → ℕ → List Change → Type 0
AreNear nester slot [] = Unit {0}
AreNear nester slot (c ∷ cs) = IsNearChange nester slot c × AreNear nester slot cs

-- an event makes such changes alone
pub record IsNearCall (nester : Path) (slot : ℕ) (w : World) (e : Event) : Type 0 where
  pub changes : List Change
  pub world : after w e ≡ apply_all changes w
  pub near : AreNear nester slot changes

-- a restorer's calls change its new subtree and its scratch, and nothing else but what led to an object that they destroy
abbrev pub OwnCallsAreNear : Type 0
OwnCallsAreNear = (nester : Path) (slot : ℕ) (g : Site) (w : World) (o : Order) (reply : Reply) → Shows nester slot g w → May slot o g
    → IsAnswered nester w (stage_of slot o) (words_of o) reply →
    IsNearCall nester slot w (call_of nester (stage_of slot o) (words_of o))

-- nobody outside leads into a space that was just made, nor comes to while others move, or by the restorer's own calls
abbrev pub NewSpaceIsUnled : Type 0
NewSpaceIsUnled = (nester : Path) (slot : ℕ) (w : World) (reply : Reply) → slot ≤ LAST_USER_SLOT → w.body (slot ∷ nester) ≡ None
    → IsAnswered nester w (SpaceMakeHeld slot) no_words reply →
    IsUnled nester slot (after w (call_of nester (SpaceMakeHeld slot) no_words))

-- nobody outside comes to lead in while others move
abbrev pub OthersKeepNewUnled : Type 0
OthersKeepNewUnled = (nester : Path) (slot : ℕ) (g : Site) (w : World) (e : Event) → Shows nester slot g w → IsUsersMove nester w e → IsUnled nester slot w
    → IsUnled nester slot (after w e)

-- nobody outside comes to lead in by the restorer's own calls
abbrev pub NearCallsKeepUnled : Type 0
NearCallsKeepUnled = (nester : Path) (slot : ℕ) (w : World) (e : Event) → IsNearCall nester slot w e → IsUnled nester slot w → IsUnled nester slot (after w e)
