-- Threads, and their talks and faults, are read alike in a likeness.
use Rattle.std.proofs.Common.{◌≡◌, ℕ, Bool, true, false, [], ◌∷◌, ◌++◌, Option, Some, None, IfSome, option_map, refl}
use Rattle.fk_model.specs.declared.names.Kind.TheVariants as kinds
use Rattle.fk_model.specs.declared.thread.Turn.TheVariants as turns
use Rattle.fk_model.specs.Places.{Path, Ptr}
use Rattle.fk_model.specs.Places.Ptr.{At}
use Rattle.fk_model.specs.Objects.{Peer, Talk, Fault, Thread, Body, kind_of, thread_of, and_then}
use Rattle.fk_model.specs.Objects.Peer.{Server, Service, Parked}
use Rattle.fk_model.specs.Objects.Body.{Thread_of}
use Rattle.fk_model.specs.World.{World}
use Rattle.fk_model.specs.Searches.{talk_at, fault_at, client_of}
use Rattle.fk_model.specs.Talks.{line_from, line, path_to, thread_led_to}
use Rattle.fk_model.specs.Cut.{is_out, seen_by, unheld}
use Rattle.laws_subtrees.specs.Cut.Likeness.{seeing, seen_peer, PtrLikeness, HasLikeness, IfServer, AllInTalk, AllInFault, IsPlainBody, IsLikeness}
use Rattle.laws_subtrees.specs.Cut.Likeness.{AlikeOptions}
use Rattle.laws_subtrees.specs.Cut.Likeness.{IsBeneath, IsOuter, ServesNobodyOutside, IsSeenTalk, IsSeenFault, IsSeenThread, PeerLikeness, EndLikeness}
use Rattle.laws_subtrees.specs.Cut.Likeness.{LineLikeness}
use Rattle.laws_subtrees.specs.Cut.Likeness.PtrLikeness.{Nulls, Deads, Inside, PortAt, PortOut}
use Rattle.laws_subtrees.specs.Cut.Likeness.PeerLikeness.{Outsiders, Servers, Services, Waiters}
use Rattle.laws_subtrees.specs.Cut.Likeness.EndLikeness.{Ends}
use Rattle.laws_subtrees.specs.Cut.Likeness.LineLikeness.{Lines}
use Rattle.laws_subtrees.proofs.InCut.likeness.Alike.{alike_and_then}
use Rattle.laws_subtrees.proofs.InCut.likeness.Memory.{root_space, root_seen}

port_no_thread : (v : Option Body) → and_then (λ b. Some (kind_of b)) v ≡ Some kinds.Port → and_then thread_of v ≡ None
port_no_thread (Some (Thread_of t)) h = cc
port_no_thread None h = refl
port_no_thread (Some b) h = refl

module _ {root : Path} {see : Ptr → Ptr} {small big : World} (like : IsLikeness root see small big) where
  -- ---- threads

  thread-alike : (k : ℕ) (q : Path) (v : Option Body) → IfSome v (IsPlainBody see (HasLikeness root see big)) →
      AlikeOptions (IsSeenThread root see big) (and_then thread_of (option_map (λ b. unheld (k ∷ q) (seen_by (seeing see) b)) v)) (and_then thread_of v)
  unfolding seen_by
  thread-alike k q (Some (Thread_of t)) h = (refl, h)
  thread-alike k q (Some b) h = tt
  thread-alike k q None h = tt

  pub thread_there-like : (q : Path) → AlikeOptions (IsSeenThread root see big) (and_then thread_of (small.body q)) (and_then thread_of (big.body (q ++ root)))
  thread_there-like [] = rw ((root_space like).2, root_seen like) tt
  thread_there-like (k ∷ q) = rw (like.bodies (k ∷ q)) (thread-alike k q (big.body (k ∷ (q ++ root))) (like.plain k q))

  talk-alike : (o : Option Talk) → IfSome o (AllInTalk see (HasLikeness root see big)) → AlikeOptions (IsSeenTalk root see big) (and_then (seeing see).talk o) o
  talk-alike None h = tt
  talk-alike (Some talk) h = (refl, h)

  fault-alike : (o : Option Fault) →
      IfSome o (AllInFault see (HasLikeness root see big)) → AlikeOptions (IsSeenFault root see big) (and_then (seeing see).fault o) o
  fault-alike None h = tt
  fault-alike (Some fault) h = (refl, h)

  pub talk_at-like : (q : Path) → AlikeOptions (IsSeenTalk root see big) (talk_at small q) (talk_at big (q ++ root))
  talk_at-like q =
      alike_and_then (IsSeenThread root see big) (IsSeenTalk root see big)
      (and_then thread_of (small.body q)) (and_then thread_of (big.body (q ++ root))) (λ (t : Thread). t.talk) (λ (t : Thread). t.talk)
      (thread_there-like q) (λ seen t h. rw h.0 (talk-alike t.talk h.1.0))

  pub fault_at-like : (q : Path) → AlikeOptions (IsSeenFault root see big) (fault_at small q) (fault_at big (q ++ root))
  fault_at-like q =
      alike_and_then (IsSeenThread root see big) (IsSeenFault root see big)
      (and_then thread_of (small.body q)) (and_then thread_of (big.body (q ++ root))) (λ (t : Thread). t.fault) (λ (t : Thread). t.fault)
      (thread_there-like q) (λ seen t h. rw h.0 (fault-alike t.fault h.1.1))

  -- ---- the thread to which a pointer leads

  end-alike : (k : ℕ) (q : Path) (v : Option Body) → big.body (k ∷ (q ++ root)) ≡ v → IfSome v (IsPlainBody see (HasLikeness root see big)) →
      AlikeOptions (EndLikeness root see big)
      (and_then (λ (t : Thread). Some (k ∷ q, t)) (and_then thread_of (option_map (λ b. unheld (k ∷ q) (seen_by (seeing see) b)) v)))
      (and_then (λ (t : Thread). Some (k ∷ (q ++ root), t)) (and_then thread_of v))
  unfolding seen_by
  end-alike k q (Some (Thread_of t)) is h = Ends k q t is h
  end-alike k q (Some b) is h = tt
  end-alike k q None is h = tt

  pub thread_at-like : (p seen : Ptr) → PtrLikeness root big p seen → AlikeOptions (EndLikeness root see big) (thread_led_to small seen) (thread_led_to big p)
  thread_at-like _ _ Nulls = tt
  thread_at-like _ _ Deads = tt
  thread_at-like _ _ (Inside []) = rw ((root_space like).2, root_seen like) tt
  thread_at-like _ _ (Inside (k ∷ q)) = rw (like.bodies (k ∷ q)) (end-alike k q (big.body (k ∷ (q ++ root))) refl (like.plain k q))
  thread_at-like _ _ (PortAt x slot apart port) = rw (port_no_thread (big.body x) port) tt
  thread_at-like _ _ (PortOut old slot) = tt

  -- ---- lines

  pub peer-like : (out : Bool) (peer : Peer) →
      IfServer out peer (HasLikeness root see big) → (out ≡ true → IsOuter root peer) → PeerLikeness root see big peer (seen_peer see out peer)
  peer-like true peer h outer = Outsiders peer (outer refl)
  peer-like false (Server thread) h outer = Servers thread h
  peer-like false Service h outer = Services
  peer-like false Parked h outer = Waiters

  -- of the client
  pub line_client-like : ServesNobodyOutside root see big →
      (k : ℕ) (q : Path) → AlikeOptions (LineLikeness root see big) (line small (k ∷ q) turns.Client) (line big (k ∷ (q ++ root)) turns.Client)
  unfolding line
  line_client-like apart k q = by (talk_at small (k ∷ q)) (talk_at big (k ∷ (q ++ root))) refl (talk_at-like (k ∷ q))
    where
      by : (o p : Option Talk) → talk_at big (k ∷ (q ++ root)) ≡ p → AlikeOptions (IsSeenTalk root see big) o p →
          AlikeOptions (LineLikeness root see big) (line_from (k ∷ q) (λ talk. talk.peer) o) (line_from (k ∷ (q ++ root)) (λ talk. talk.peer) p)
      by None None is h = tt
      by (Some seen) (Some talk) is h =
          rw h.0 (Lines k q talk talk.peer _ is h.1 (peer-like (is_out (see talk.port)) talk.peer h.1.1 (apart.talks k q talk is)))
      by None (Some talk) is h = absurd h
      by (Some seen) None is h = absurd h

  -- of the server, where its client is found alike
  pub line_server-like : (me : Path) → AlikeOptions (IsBeneath root) (client_of small me) (client_of big (me ++ root)) →
      AlikeOptions (LineLikeness root see big) (line small me turns.Server) (line big (me ++ root) turns.Server)
  unfolding line
  line_server-like me found = alike_and_then (IsBeneath root)
      (LineLikeness root see big) (client_of small me) (client_of big (me ++ root)) _ _ found (λ client there h. rw h (at client))
    where
      by : (k : ℕ) (q : Path) (o p : Option Talk) →
          talk_at big (k ∷ (q ++ root)) ≡ p → AlikeOptions (IsSeenTalk root see big) o p → AlikeOptions (LineLikeness root see big)
          (line_from (k ∷ q) (λ talk. Server (At (k ∷ q))) o) (line_from (k ∷ (q ++ root)) (λ talk. Server (At (k ∷ (q ++ root)))) p)
      by k q None None is h = tt
      by k q (Some seen) (Some talk) is h =
          let inside : HasLikeness root see big (At (k ∷ (q ++ root))) = rw (like.within (k ∷ q)) (Inside (k ∷ q)) in
          let server : PeerLikeness
          root see big (Server (At (k ∷ (q ++ root)))) (Server (see (At (k ∷ (q ++ root))))) = Servers (At (k ∷ (q ++ root))) inside in
          rw h.0 (Lines k q talk (Server (At (k ∷ (q ++ root)))) (Server (At (k ∷ q))) is h.1 (rw (like.within (k ∷ q)) at server))
      by k q None (Some talk) is h = absurd h
      by k q (Some seen) None is h = absurd h

      at : (client : Path) → AlikeOptions (LineLikeness root see big) (line_from client (λ talk. Server (At client)) (talk_at small client))
          (line_from (client ++ root) (λ talk. Server (At (client ++ root))) (talk_at big (client ++ root)))
      at [] = rw ((root_space like).2, root_seen like) tt
      at (k ∷ q) = by k q (talk_at small (k ∷ q)) (talk_at big (k ∷ (q ++ root))) refl (talk_at-like (k ∷ q))

  -- ---- paths

  pub path_to-like : (p seen : Ptr) → PtrLikeness root big p seen → is_out seen ≡ false → AlikeOptions (IsBeneath root) (path_to seen) (path_to p)
  path_to-like _ _ Nulls near = tt
  path_to-like _ _ Deads near = tt
  path_to-like _ _ (Inside x) near = refl
  path_to-like _ _ (PortAt x slot apart port) near = cc
  path_to-like _ _ (PortOut old slot) near = cc
