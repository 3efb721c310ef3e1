-- Changes of several threads at once are alike in a likeness: the ends of talks, and the sleepers of a condition.
use Rattle.std.proofs.Common.{◌≡◌, ℕ, Bool, true, false, cond, List, [], ◌∷◌, ◌++◌, flat_map, Option, Some, None, is_some, refl}
use Rattle.fk_model.specs.declared.limits.TheConstants.{SLOTS}
use Rattle.fk_model.specs.declared.thread.Turn.{Turn}
use Rattle.fk_model.specs.declared.thread.Turn.TheVariants as turns
use Rattle.fk_model.specs.Places.{Path, same_path, strip, is_within, Ptr}
use Rattle.fk_model.specs.Places.Ptr.{At}
use Rattle.fk_model.specs.Objects.{Peer, Thread, thread_of, and_then}
use Rattle.fk_model.specs.Objects.Peer.{Server, Service, Parked}
use Rattle.fk_model.specs.World.{World}
use Rattle.fk_model.specs.Searches.{slots}
use Rattle.fk_model.specs.Talks.{Line, is_talking, thread_led_to, if_talking, talking_end, served_end, ends_beyond}
use Rattle.fk_model.specs.SyncRows.{asleep_on, woken, sleepers}
use Rattle.fk_model.specs.LinkRows.{end_all}
use Rattle.laws_subtrees.specs.Cut.Likeness.{PtrLikeness, IsLikeness, AlikeOptions, IsOuter, PeerLikeness, EndLikeness, LineLikeness}
use Rattle.laws_subtrees.specs.Cut.Likeness.PtrLikeness.{Inside}
use Rattle.laws_subtrees.specs.Cut.Likeness.PeerLikeness.{Outsiders, Servers, Services, Waiters}
use Rattle.laws_subtrees.specs.Cut.Likeness.EndLikeness.{Ends}
use Rattle.laws_subtrees.specs.Cut.Likeness.LineLikeness.{Lines}
use Rattle.laws_subtrees.specs.Cut.LikeChanges.{LikeChanges}
use Rattle.laws_subtrees.specs.Cut.LikeChanges.LikeChange.{Alters}
use Rattle.laws_subtrees.specs.Cut.LikeChanges.LikeChanges.{Empty, Both, Beyond}
use Rattle.fk_model.proofs.walks.PlaceLaws.{same_path_refl, strip_some}
use Rattle.laws_subtrees.proofs.InCut.likeness.Talks.{thread_at-like}
use Rattle.laws_subtrees.proofs.InCut.likeness.Walks.{asleep_on-like}
use Rattle.laws_subtrees.proofs.InCut.likeness.Outcomes.{append-like}

-- who isn't inside lies outside
outer-outside : (root x : Path) → IsOuter root (Server (At x)) → is_within root x ≡ false
outer-outside root x outer = by (strip root x) refl
  where
    by : (o : Option Path) → strip root x ≡ o → is_some o ≡ false
    by None e = refl
    by (Some q) e = let here = strip_some root x q e in
        let off = outer q in let on = same_path_refl (q ++ root) in let there : same_path (q ++ root) (q ++ root) ≡ false = rw here at off in cc

module _ {root : Path} {see : Ptr → Ptr} {small big : World} (like : IsLikeness root see small big) where
  -- ---- the ends of talks

  talking-like : (side : Turn) (a b : Option (Path × Thread)) (now : World) →
      AlikeOptions (EndLikeness root see big) a b → LikeChanges root see now (end_all (if_talking side a)) (end_all (if_talking side b))
  talking-like side None None now h = Empty
  talking-like side (Some e) (Some f) now h = by e f h
    where
      if_on : (k : ℕ) (q : Path) (t : Bool) → LikeChanges root see now (end_all (cond t ((k ∷ q) ∷ []) [])) (end_all (cond t ((k ∷ (q ++ root)) ∷ []) []))
      if_on k q true = Both (Alters k q _ _ refl tt) Empty
      if_on k q false = Empty

      by : (e f : Path × Thread) →
          EndLikeness root see big e f → LikeChanges root see now (end_all (if_talking side (Some e))) (end_all (if_talking side (Some f)))
      by _ _ (Ends k q t is near) = if_on k q (is_talking side t.mode)
  talking-like side None (Some f) now h = absurd h
  talking-like side (Some e) None now h = absurd h

  pub talking_end-like : (side : Turn) (p seen : Ptr) (now : World) →
      PtrLikeness root big p seen → LikeChanges root see now (end_all (talking_end small side seen)) (end_all (talking_end big side p))
  talking_end-like side p seen now h = talking-like side (thread_led_to small seen) (thread_led_to big p) now (thread_at-like like p seen h)

  pub outsider : (side : Turn) (x : Path) (now : World) (o : Option Thread) →
      is_within root x ≡ false → LikeChanges root see now [] (end_all (if_talking side (and_then (λ (t : Thread). Some (x, t)) o)))
  outsider side x now None out = Empty
  outsider side x now (Some t) out = by (is_talking side t.mode)
    where
      by : (b : Bool) → LikeChanges root see now [] (end_all (cond b (x ∷ []) []))
      by true = Beyond out Empty
      by false = Empty

  pub outsider_end : (now : World) (peer : Peer) → IsOuter root peer → LikeChanges root see now [] (end_all (served_end big peer))
  outsider_end now (Server (At x)) outer = outsider turns.Server x now (and_then thread_of (big.body x)) (outer-outside root x outer)
  outsider_end now (Server p) outer = Empty
  outsider_end now Service outer = Empty
  outsider_end now Parked outer = Empty

  pub served_end-like : (peer seen : Peer) (now : World) →
      PeerLikeness root see big peer seen → LikeChanges root see now (end_all (served_end small seen)) (end_all (served_end big peer))
  served_end-like _ _ now (Outsiders peer outer) = outsider_end now peer outer
  served_end-like _ _ now (Servers thread h) = talking_end-like turns.Server thread (see thread) now h
  served_end-like _ _ now Services = Empty
  served_end-like _ _ now Waiters = Empty

  pub ends_beyond-like : (side : Turn) (near far : Line) (now : World) →
      LineLikeness root see big near far → LikeChanges root see now (end_all (ends_beyond small side near)) (end_all (ends_beyond big side far))
  ends_beyond-like turns.Client _ _ now (Lines k q talk other seen is h peer) = served_end-like other seen now peer
  ends_beyond-like turns.Server _ _ now (Lines k q talk other seen is h peer) =
      talking_end-like turns.Client (At (k ∷ (q ++ root))) (At (k ∷ q)) now (Inside (k ∷ q))

  -- ---- sleepers

  pub woken-like : (k : ℕ) (q : Path) (now : World) (o : Option ℕ) → LikeChanges root see now (woken (k ∷ q) o) (woken (k ∷ (q ++ root)) o)
  woken-like k q now None = Empty
  woken-like k q now (Some m) = Both (Alters k q _ _ refl tt) Empty

  sleepers_in : (space : Path) (slot : ℕ) (ks : List ℕ) (now : World) →
      LikeChanges root see now (flat_map (λ k. woken (k ∷ space) (asleep_on slot (small.body (k ∷ space)))) ks)
      (flat_map (λ k. woken (k ∷ (space ++ root)) (asleep_on slot (big.body (k ∷ (space ++ root))))) ks)
  sleepers_in space slot [] now = Empty
  sleepers_in space slot (k ∷ ks) now = append-like
      (rw (asleep_on-like like slot k space) (woken-like k space now (asleep_on slot (big.body (k ∷ (space ++ root)))))) (sleepers_in space slot ks _)

  pub sleepers-like : (space : Path) (slot : ℕ) (now : World) → LikeChanges root see now (sleepers small space slot) (sleepers big (space ++ root) slot)
  unfolding sleepers
  sleepers-like space slot now = sleepers_in space slot (slots SLOTS) now
