-- Changes in a likeness: which change of the small world stands for which of the big one, and which outcomes are alike.
use Rattle.std.specs.Prelude.{◌≡◌, ℕ, Bool, true, false, List, [], ◌∷◌, ◌++◌, Option, Some, IfSome, option_map}
use Rattle.fk_model.specs.Places.{Path, is_within, Ptr}
use Rattle.fk_model.specs.Objects.{Body, and_then, Talk, Fault}
use Rattle.fk_model.specs.World.{World, Change, Edit, apply}
use Rattle.fk_model.specs.World.Change.{Alter, Make, MakeSpace, Kill, Move, PutPage, DropPage}
use Rattle.fk_model.specs.World.Edit.{Proceed, SetPointer, SetHolder, SetTalk, SetPeer, SetFault, SetTaker}
use Rattle.fk_model.specs.Searches.{talk_at, fault_at}
use Rattle.fk_model.specs.Holds.{is_porter}
use Rattle.fk_model.specs.Outcomes.{Outcome}
use Rattle.fk_model.specs.Outcomes.Outcome.{Refused, Waits, Goes}
use Rattle.fk_model.specs.Cut.{is_out, seen_by}
use Rattle.laws_subtrees.specs.Cut.Likeness.{seeing, seen_peer, HasLikeness, IfServer, AllInTalk, AllInFault, IsPlainBody, ServesNobodyOutside}

-- ---- edits

-- what an edit is seen as; `out` where it sets who is at a port that is seen outside
abbrev pub seen_edit : (Ptr → Ptr) → (out : Bool) → Edit → Edit
seen_edit see out (SetPointer to) = SetPointer (see to)
seen_edit see out (SetHolder holder) = SetHolder (and_then (seeing see).holder holder)
seen_edit see out (SetTalk talk) = SetTalk (and_then (seeing see).talk talk)
seen_edit see out (SetPeer peer) = SetPeer (seen_peer see out peer)
seen_edit see out (SetFault fault) = SetFault (and_then (seeing see).fault fault)
seen_edit see out (SetTaker taker) = SetTaker (option_map (seen_peer see out) taker)
seen_edit see out other = other

-- the talk, or the fault, of the thread at x is at a port that is seen outside, or at one inside
abbrev pub HasTalkSeen : (Ptr → Ptr) → World → (out : Bool) → Path → Type 0
HasTalkSeen see big out x = (talk : Talk) × (talk_at big x ≡ Some talk) × (is_out (see talk.port) ≡ out)

abbrev pub HasFaultSeen : (Ptr → Ptr) → World → (out : Bool) → Path → Type 0
HasFaultSeen see big out x = (fault : Fault) × (fault_at big x ≡ Some fault) × (is_out (see fault.port) ≡ out)

-- an edit of the object at x whose pointers lead inside or to ports outside, where they count, and that makes nobody a
-- porter. `out` says whether the talk or the fault whose peer or taker it sets is at a port outside
abbrev pub IsSeenEdit : Path → (Ptr → Ptr) → World → (out : Bool) → Path → Edit → Type 0
IsSeenEdit root see big out x (SetPointer to) = HasLikeness root see big to
IsSeenEdit root see big out x (SetHolder holder) = IfSome holder (HasLikeness root see big)
IsSeenEdit root see big out x (SetTalk talk) = IfSome talk (AllInTalk see (HasLikeness root see big))
IsSeenEdit root see big out x (SetPeer peer) = HasTalkSeen see big out x × IfServer out peer (HasLikeness root see big)
IsSeenEdit root see big out x (SetFault fault) = IfSome fault (AllInFault see (HasLikeness root see big))
IsSeenEdit root see big out x (SetTaker taker) = HasFaultSeen see big out x × IfSome taker (λ taker. IfServer out taker (HasLikeness root see big))
IsSeenEdit root see big out x (Proceed mode counter) = is_porter mode ≡ false
IsSeenEdit root see big out x other = Unit {0}

-- ---- changes

-- a change of the small world, and the change of the big one for which it stands
pub data LikeChange (root : Path) (see : Ptr → Ptr) (big : World) : Change → Change → Type 0 where
  Alters : (k : ℕ) (q : Path) (seen edit : Edit) → seen ≡ seen_edit see false edit → IsSeenEdit root see big false (k ∷ (q ++ root)) edit →
      LikeChange root see big (Alter (k ∷ q) seen) (Alter (k ∷ (q ++ root)) edit)
  -- of a talk or a fault at a port outside
  AltersOut : (k : ℕ) (q : Path) (seen edit : Edit) → seen ≡ seen_edit see true edit → IsSeenEdit root see big true (k ∷ (q ++ root)) edit →
      LikeChange root see big (Alter (k ∷ q) seen) (Alter (k ∷ (q ++ root)) edit)
  Makes : (k : ℕ) (q : Path) (seen body : Body) → seen ≡ seen_by (seeing see) body → IsPlainBody see (HasLikeness root see big) body →
      LikeChange root see big (Make (k ∷ q) seen) (Make (k ∷ (q ++ root)) body)
  MakesSpace : (k : ℕ) (q : Path) (seen holder : Option Ptr) → seen ≡ and_then (seeing see).holder holder → IfSome holder (HasLikeness root see big) →
      LikeChange root see big (MakeSpace (k ∷ q) seen) (MakeSpace (k ∷ (q ++ root)) holder)
  Kills : (k : ℕ) (q : Path) → ServesNobodyOutside root see big → LikeChange root see big (Kill (k ∷ q)) (Kill (k ∷ (q ++ root)))
  Moves : (k : ℕ) (q : Path) (slot : ℕ) → LikeChange root see big (Move (k ∷ q) slot) (Move (k ∷ (q ++ root)) slot)
  PutsPage : (q : Path) (page : ℕ) (words : List ℕ) → LikeChange root see big (PutPage q page words) (PutPage (q ++ root) page words)
  DropsPage : (q : Path) (page : ℕ) → LikeChange root see big (DropPage q page) (DropPage (q ++ root) page)

-- a change of an object or a page outside, of which the likeness shows nothing
abbrev pub IsOutside : Path → Change → Type 0
IsOutside root (Alter x edit) = is_within root x ≡ false
IsOutside root (PutPage space page words) = is_within root space ≡ false
IsOutside root (DropPage space page) = is_within root space ≡ false
IsOutside root (Make x body) = ⊥
IsOutside root (MakeSpace x holder) = ⊥
IsOutside root (Kill x) = ⊥
IsOutside root (Move x slot) = ⊥

-- change by change, each in the world in which it is made; what is outside is left out
pub data LikeChanges (root : Path) (see : Ptr → Ptr) : World → List Change → List Change → Type 0 where
  Empty : {big : World} → LikeChanges root see big [] []
  Both : {big : World} {c d : Change} {cs ds : List Change} →
      LikeChange root see big c d → LikeChanges root see (apply d big) cs ds → LikeChanges root see big (c ∷ cs) (d ∷ ds)
  Beyond : {big : World} {d : Change} {cs ds : List Change} → IsOutside root d → LikeChanges root see (apply d big) cs ds → LikeChanges root see big cs (d ∷ ds)

-- ---- outcomes

-- what waits waits alike, what is refused is refused alike, and what goes makes the same changes. What a move tells isn't
-- compared
abbrev pub IsLikeOutcome : Path → (Ptr → Ptr) → World → Outcome → Outcome → Type 0
IsLikeOutcome root see big Waits Waits = Unit {0}
IsLikeOutcome root see big (Refused status) (Refused refusal) = status ≡ refusal
IsLikeOutcome root see big (Goes cs said) (Goes ds told) = LikeChanges root see big cs ds
IsLikeOutcome root see big small other = ⊥

-- so it is unless the outcome of the big world waits: a peer outside may not be at what the other side needs, which isn't
-- seen inside
abbrev pub IsLikeUnlessWaiting : Path → (Ptr → Ptr) → World → Outcome → Outcome → Type 0
IsLikeUnlessWaiting root see big small Waits = Unit {0}
IsLikeUnlessWaiting root see big small (Refused status) = IsLikeOutcome root see big small (Refused status)
IsLikeUnlessWaiting root see big small (Goes changes said) = IsLikeOutcome root see big small (Goes changes said)
