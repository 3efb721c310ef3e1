-- Laws of likenesses, as statements that are proved.
use Rattle.std.specs.Prelude.{◌≡◌, ℕ, ◌≤◌, Bool, false, List, [], ◌∷◌, ◌++◌, map}
use Rattle.fk_model.specs.declared.names.Kind.{Kind}
use Rattle.fk_model.specs.declared.thread.Turn.TheVariants as turns
use Rattle.fk_model.specs.Places.{Path, is_within, Ptr}
use Rattle.fk_model.specs.Objects.{Thread, and_then, thread_of}
use Rattle.fk_model.specs.World.{World, Change, apply_all}
use Rattle.fk_model.specs.Searches.{depth, residents, beneath, leaf, talk_at, fault_at, client_of, faulter_of}
use Rattle.fk_model.specs.Reach.{mapping_at, region_at, keeper, reach}
use Rattle.fk_model.specs.Holds.{decider, is_frozen, is_frozen_for, is_free}
use Rattle.fk_model.specs.Outcomes.{Caller}
use Rattle.fk_model.specs.Readers.{anything, object_in, kind_at, handle, space_argument, referred}
use Rattle.fk_model.specs.Talks.{line, thread_led_to}
use Rattle.fk_model.specs.SpaceRows.{next_page}
use Rattle.fk_model.specs.SyncRows.{mutex_lock}
use Rattle.fk_model.specs.LinkRows.{candidate}
use Rattle.fk_model.specs.Valid.{IsValid}
use Rattle.fk_model.specs.Cut.{ports_of, cut_ptr, cut, is_served_by, IsPlain}
use Rattle.laws_subtrees.specs.Cut.Likeness.{seen_thread, PtrLikeness, IsLikeness, IsCutWorld, IsServedAlike, under, AlikeResults, AlikeOptions, IsBeneath}
use Rattle.laws_subtrees.specs.Cut.Likeness.{IsSeenAs}
use Rattle.laws_subtrees.specs.Cut.Likeness.{IsSeenHandle, IsSeenBody, IsSeenThread, IsSeenWindow, IsSeenExtent, IsSeenTalk, IsSeenFault, ReachLikeness}
use Rattle.laws_subtrees.specs.Cut.Likeness.{EndLikeness}
use Rattle.laws_subtrees.specs.Cut.Likeness.{LineLikeness, CandidateLikeness}
use Rattle.laws_subtrees.specs.Cut.LikeChanges.{LikeChanges, IsLikeOutcome}
use Rattle.fk_model.specs.Rebind.{rebound_ptr, rebound}

-- ---- what is a likeness

-- a plain subtree, seen alone, is a likeness of its world
abbrev pub CutIsLikeness : Type 0
CutIsLikeness = (w : World) (nester : Path) (slot : ℕ) →
    IsPlain w nester slot → IsLikeness (slot ∷ nester) (cut_ptr (ports_of w nester slot) nester slot) (cut w nester slot) w

-- where birth numbers are in range, servers are found alike in it
abbrev pub CutIsServedAlike : Type 0
CutIsServedAlike = (w : World) (nester : Path) (slot : ℕ) →
    IsValid w → w.next ≤ depth → IsPlain w nester slot → IsServedAlike (slot ∷ nester) (cut_ptr (ports_of w nester slot) nester slot) w

-- every likeness is such as a subtree that is seen alone
abbrev pub LikenessIsCutWorld : Type 0
LikenessIsCutWorld = (root : Path) (see : Ptr → Ptr) (small big : World) → IsLikeness root see small big → IsCutWorld small

-- and such a world with other outward ports is a likeness of what it was
abbrev pub RebindingIsLikeness : Type 0
RebindingIsLikeness = (bind : ℕ → ℕ) (c : World) → IsCutWorld c → IsLikeness [] (rebound_ptr bind) (rebound bind c) c

-- ---- what is read alike in every likeness

-- slots, handles and memory
pub record ReadsAlike (root : Path) (see : Ptr → Ptr) (small big : World) : Type 0 where
  pub objects : (c : Caller) (s : Path) (k : ℕ) →
      AlikeResults (IsSeenBody root see big) (object_in small c anything s k) (object_in big (under root c) anything (s ++ root) k)
  pub kinds : (p seen : Ptr) → PtrLikeness root big p seen → kind_at small seen ≡ kind_at big p
  pub handles : (c : Caller) (wanted : Kind) (h : ℕ) →
      AlikeResults (IsSeenHandle root see big wanted) (handle small c wanted h) (handle big (under root c) wanted h)
  pub places : (c : Caller) (s : ℕ) → AlikeResults (IsBeneath root) (space_argument small c s) (space_argument big (under root c) s)
  pub references : (c : Caller) (wanted : Kind) (k : ℕ) →
      AlikeResults (IsSeenHandle root see big wanted) (referred small c wanted k) (referred big (under root c) wanted k)
  pub mappings : (q : Path) (page : ℕ) → AlikeOptions (IsSeenWindow root see big) (mapping_at small q page) (mapping_at big (q ++ root) page)
  pub regions : (q : Path) (page : ℕ) → AlikeOptions (IsSeenExtent root see big) (region_at small q page) (region_at big (q ++ root) page)
  pub keepers : (q : Path) (page : ℕ) → AlikeOptions (IsSeenAs root see big) (keeper small q page) (keeper big (q ++ root) page)
  pub reaches : (q : Path) (page : ℕ) (write : Bool) → ReachLikeness root see big (reach small q page write) (reach big (q ++ root) page write)
  pub next_pages : (q : Path) (from : ℕ) → next_page small q from ≡ next_page big (q ++ root) from

-- threads, and what lies in a space
pub record FindsAlike (root : Path) (see : Ptr → Ptr) (small big : World) : Type 0 where
  pub threads : (q : Path) → AlikeOptions (IsSeenThread root see big) (and_then thread_of (small.body q)) (and_then thread_of (big.body (q ++ root)))
  pub talks : (q : Path) → AlikeOptions (IsSeenTalk root see big) (talk_at small q) (talk_at big (q ++ root))
  pub faults : (q : Path) → AlikeOptions (IsSeenFault root see big) (fault_at small q) (fault_at big (q ++ root))
  pub ends : (p seen : Ptr) → PtrLikeness root big p seen → AlikeOptions (EndLikeness root see big) (thread_led_to small seen) (thread_led_to big p)
  pub residents : (q : Path) → residents small q ≡ residents big (q ++ root)
  pub beneath : (q : Path) → beneath big (q ++ root) ≡ map (λ x. x ++ root) (beneath small q)
  pub leaves : (q : Path) → leaf big (q ++ root) ≡ leaf small q ++ root

-- objects, handles, places, pages, threads, talks and faults are read alike in a likeness, and what lies in and beneath its spaces is found alike
abbrev pub LikenessReadsAlike : Type 0
LikenessReadsAlike = (root : Path) (see : Ptr → Ptr) (small big : World) →
    IsLikeness root see small big → ReadsAlike root see small big × FindsAlike root see small big

-- holds, where nothing at or above the root is held
pub record HoldsAlike (root : Path) (see : Ptr → Ptr) (small big : World) : Type 0 where
  pub deciders : (q : Path) → AlikeOptions (IsSeenAs root see big) (decider small q) (decider big (q ++ root))
  pub frozen : (q : Path) → is_frozen small q ≡ is_frozen big (q ++ root)
  pub frozen_for : (me q : Path) → is_frozen_for small me q ≡ is_frozen_for big (me ++ root) (q ++ root)
  pub free : (q : Path) (t : Thread) → is_free small q (seen_thread see t) ≡ is_free big (q ++ root) t
  pub candidates : (space : Path) (set k : ℕ) (q : Path) →
      AlikeOptions (CandidateLikeness see big (k ∷ (q ++ root))) (candidate small space set (k ∷ q)) (candidate big (space ++ root) set (k ∷ (q ++ root)))

-- where nothing at or above its root is held, who is held, free, or a candidate of a wait is so in a likeness
abbrev pub LikenessHoldsAlike : Type 0
LikenessHoldsAlike = (root : Path) (see : Ptr → Ptr) (small big : World) →
    IsLikeness root see small big → is_frozen big root ≡ false → HoldsAlike root see small big

-- who serves whom, where no thread inside serves one outside
pub record ServesAlike (root : Path) (see : Ptr → Ptr) (small big : World) : Type 0 where
  pub clients : (server : Path) → AlikeOptions (IsBeneath root) (client_of small server) (client_of big (server ++ root))
  pub faulters : (server : Path) → AlikeOptions (IsBeneath root) (faulter_of small server) (faulter_of big (server ++ root))
  pub client_lines : (k : ℕ) (q : Path) → AlikeOptions (LineLikeness root see big) (line small (k ∷ q) turns.Client) (line big (k ∷ (q ++ root)) turns.Client)
  pub server_lines : (server : Path) → AlikeOptions (LineLikeness root see big) (line small server turns.Server) (line big (server ++ root) turns.Server)

-- the client of a server, and the thread whose fault it has taken, are found alike in a likeness, and so is the talk in which a thread acts on either side
abbrev pub LikenessServesAlike : Type 0
LikenessServesAlike = (root : Path) (see : Ptr → Ptr) (small big : World) →
    IsLikeness root see small big → IsServedAlike root see big → ServesAlike root see small big

-- ---- what is done alike in every likeness

-- a lock that is refused is refused alike in a likeness, and one that goes locks the same mutex
abbrev pub LockActsAlike : Type 0
LockActsAlike = (root : Path) (see : Ptr → Ptr) (small big : World) →
    IsLikeness root see small big → (c : Caller) (m : ℕ) → IsLikeOutcome root see big (mutex_lock small c m) (mutex_lock big (under root c) m)

-- a likeness stays one through changes that are alike
abbrev pub LikenessStays : Type 0
LikenessStays = (root : Path) (see : Ptr → Ptr) (small big : World) (cs ds : List Change) →
    IsLikeness root see small big → LikeChanges root see big cs ds → IsLikeness root see (apply_all cs small) (apply_all ds big)

-- what changes in a plain subtree changes alike in the subtree seen alone
abbrev pub CutChangesAlike : Type 0
CutChangesAlike = (w : World) (nester : Path) (slot : ℕ) (cs ds : List Change) → IsPlain w nester slot →
    LikeChanges (slot ∷ nester) (cut_ptr (ports_of w nester slot) nester slot) w cs ds → cut (apply_all ds w) nester slot ≡ apply_all cs (cut w nester slot)

-- and the subtree stays plain, if no thread in it comes to serve one outside
abbrev pub PlainStays : Type 0
PlainStays = (w : World) (nester : Path) (slot : ℕ) (cs ds : List Change) →
    IsPlain w nester slot → LikeChanges (slot ∷ nester) (cut_ptr (ports_of w nester slot) nester slot) w cs ds →
    ((x : Path) → is_within (slot ∷ nester) x ≡ false → is_served_by (slot ∷ nester) ((apply_all ds w).body x) ≡ false) → IsPlain (apply_all ds w) nester slot
