-- The law of the cut, and the law of rebinding, for the death of an object by a thread inside.
use Rattle.std.proofs.Common.{◌≡◌, ℕ, Bool, true, false, cond, List, [], ◌∷◌, ◌++◌, flat_map, Option, Some, None, option_map, refl, sym, ap, subst, ◌∙◌}
use Rattle.std.proofs.lemmas.List.{map-append}
use Rattle.fk_model.specs.declared.statuses.status.TheConstants as status
use Rattle.fk_model.specs.declared.stage.Stage.TheVariants.{Destroy}
use Rattle.fk_model.specs.declared.thread.Turn.{Turn}
use Rattle.fk_model.specs.declared.thread.Turn.TheVariants as turns
use Rattle.fk_model.specs.Places.{Path, same_path, is_within, Ptr}
use Rattle.fk_model.specs.Places.Ptr.{At}
use Rattle.fk_model.specs.Objects.{Talk, Thread, Body, thread_of, and_then}
use Rattle.fk_model.specs.Objects.Body.{Mutex, Cond, Mapping, Region, Port, Portset, Space, Thread_of, Reference}
use Rattle.fk_model.specs.World.{World, serves}
use Rattle.fk_model.specs.Searches.{leaf, talk_at, client_of, clients_at}
use Rattle.fk_model.specs.Holds.{is_frozen, is_frozen_for}
use Rattle.fk_model.specs.Outcomes.{done, stays}
use Rattle.fk_model.specs.Talks.{Line, line_from, line}
use Rattle.fk_model.specs.LinkRows.{user_at, end_all}
use Rattle.fk_model.specs.ObjectRows.{ends_in, ends_on, ends_of_client, ends_with, kills, destroys, destroy}
use Rattle.fk_model.specs.Cut.{seen_by, unheld, is_served_by}
use Rattle.fk_model.proofs.walks.PlaceLaws.{same_path_cancel}
use Rattle.laws_subtrees.specs.Cut.CutLaws.{KeepsCut, IsAtStage, moves, StageInsideKeepsCut, IsDestroy}
use Rattle.laws_subtrees.specs.Cut.RebindLaws.{StageRebinds}
use Rattle.laws_subtrees.specs.Cut.Likeness.{seeing, IsLikeness, ServesNobodyOutside, IsOuter, AlikeOptions, IsBeneath, LineLikeness}
use Rattle.laws_subtrees.specs.Cut.Likeness.PtrLikeness.{Inside}
use Rattle.laws_subtrees.specs.Cut.LikeChanges.{LikeChanges, IsLikeOutcome}
use Rattle.laws_subtrees.specs.Cut.LikeChanges.LikeChange.{Kills}
use Rattle.laws_subtrees.specs.Cut.LikeChanges.LikeChanges.{Empty, Both}
use Rattle.laws_subtrees.proofs.InCut.likeness.Instances.{cut-like}
use Rattle.laws_subtrees.proofs.InCut.likeness.Reads.{place-like, anything_in-like}
use Rattle.laws_subtrees.proofs.InCut.likeness.Holds.{is_frozen_for-like}
use Rattle.laws_subtrees.proofs.InCut.likeness.Talks.{line_client-like, line_server-like}
use Rattle.laws_subtrees.proofs.InCut.likeness.Walks.{is_within_inside, leaf-like, leaf_below}
use Rattle.laws_subtrees.proofs.InCut.likeness.Outcomes.{append-like, bind_path, bind_body, refuse-like, done-like, telling-like}
use Rattle.laws_subtrees.proofs.InCut.likeness.Ends.{talking_end-like, outsider, outsider_end, ends_beyond-like}
use Rattle.laws_subtrees.proofs.InCut.likeness.Servers.{serves_is, served_talk, client_of-like, cut-apart, cut-served, cut_world-apart}
use Rattle.laws_subtrees.proofs.InCut.likeness.Clients.{Thinned, clients_thinned, clients_inside}
use Rattle.laws_subtrees.proofs.InCut.likeness.Clients.Thinned.{Nobody, Inner, Outer}
use Rattle.laws_subtrees.proofs.InCut.cut.Inside.{stage_inside, thread_beneath}
use Rattle.laws_subtrees.proofs.InCut.rebinding.Rebound.{quiet_heard}
use Rattle.laws_subtrees.proofs.InCut.rebinding.Freedom.{top_free}
use Rattle.laws_subtrees.proofs.InCut.rebinding.Messages.{IsRebound, same_call, client_same, silent_row, told_rebinds}
use Rattle.laws_subtrees.proofs.InCut.cut.Objects.{all_within, quiet-destroy}

-- what a likeness must show alike, for talks to end alike in it
record IsEndedAlike (root : Path) (see : Ptr → Ptr) (small big : World) : Type 0 where
  apart : ServesNobodyOutside root see big
  servers : (me : Path) → AlikeOptions (IsBeneath root) (client_of small me) (client_of big (me ++ root))
  clients : (port : Path) → Thinned root (clients_at small port) (clients_at big (port ++ root))
  inside : (x : Path) → is_within root x ≡ false → is_served_by root (big.body x) ≡ false

end_append : (xs ys : List Path) → end_all (xs ++ ys) ≡ end_all xs ++ end_all ys
end_append xs ys = map-append _ xs ys

-- the peer of a talk outside is nobody inside
outer_talk : (root : Path) (v : Option Body) (talk : Talk) →
    and_then (λ (t : Thread). t.talk) (and_then thread_of v) ≡ Some talk → is_served_by root v ≡ false → IsOuter root talk.peer
outer_talk root (Some (Thread_of t)) talk is off x = by (serves (x ++ root) talk.peer) refl
  where
    by : (b : Bool) → serves (x ++ root) talk.peer ≡ b → b ≡ false
    by false e = refl
    by true e = let on = served_talk root x t talk is (serves_is (x ++ root) talk.peer e) in cc
outer_talk root (Some (Mutex locked)) talk is off x = cc
outer_talk root (Some Cond) talk is off x = cc
outer_talk root (Some (Mapping m)) talk is off x = cc
outer_talk root (Some (Region r)) talk is off x = cc
outer_talk root (Some (Port set served)) talk is off x = cc
outer_talk root (Some Portset) talk is off x = cc
outer_talk root (Some (Space birth holder)) talk is off x = cc
outer_talk root (Some (Reference to)) talk is off x = cc
outer_talk root None talk is off x = cc

module _ {root : Path} {see : Ptr → Ptr} {small big : World} (like : IsLikeness root see small big) (facts : IsEndedAlike root see small big) where
  -- ---- the ends of talks

  ends_in-like : (side : Turn) (near far : Option Line) (now : World) →
      AlikeOptions (LineLikeness root see big) near far → LikeChanges root see now (end_all (ends_in small side near)) (end_all (ends_in big side far))
  ends_in-like side None None now h = Empty
  ends_in-like side (Some near) (Some far) now h = ends_beyond-like like side near far now h
  ends_in-like side None (Some far) now h = absurd h
  ends_in-like side (Some near) None now h = absurd h

  client_ends : (k : ℕ) (q : Path) (now : World) →
      LikeChanges root see now (end_all (ends_on small (k ∷ q) turns.Client)) (end_all (ends_on big (k ∷ (q ++ root)) turns.Client))
  client_ends k q now =
      ends_in-like turns.Client (line small (k ∷ q) turns.Client) (line big (k ∷ (q ++ root)) turns.Client) now (line_client-like like facts.apart k q)

  server_ends : (k : ℕ) (q : Path) (now : World) →
      LikeChanges root see now (end_all (ends_on small (k ∷ q) turns.Server)) (end_all (ends_on big (k ∷ (q ++ root)) turns.Server))
  server_ends k q now = ends_in-like turns.Server
      (line small (k ∷ q) turns.Server) (line big (k ∷ (q ++ root)) turns.Server) now (line_server-like like (k ∷ q) (facts.servers (k ∷ q)))

  both_ends-like : (k : ℕ) (q : Path) (now : World) →
      LikeChanges root see now (end_all (ends_of_client small (k ∷ q))) (end_all (ends_of_client big (k ∷ (q ++ root))))
  both_ends-like k q now =
      rw (end_append _ (ends_on small (k ∷ q) turns.Client), end_append _ (ends_on big (k ∷ (q ++ root)) turns.Client))
      (append-like (talking_end-like like turns.Client (At (k ∷ (q ++ root))) (At (k ∷ q)) now (Inside (k ∷ q))) (client_ends k q _))

  -- of a client outside
  outside_client : (x : Path) (now : World) (o : Option Talk) → talk_at big x ≡ o →
      is_served_by root (big.body x) ≡ false → LikeChanges root see now [] (end_all (ends_in big turns.Client (line_from x (λ talk. talk.peer) o)))
  outside_client x now None is off = Empty
  outside_client x now (Some talk) is off = outsider_end like now talk.peer (outer_talk root (big.body x) talk is off)

  outside_ends : (x : Path) (now : World) → is_within root x ≡ false → LikeChanges root see now [] (end_all (ends_of_client big x))
  unfolding line
  outside_ends x now out =
      rw (end_append _ (ends_on big x turns.Client))
      (append-like {cs = []} (outsider like turns.Client x now (and_then thread_of (big.body x)) out)
      (outside_client x _ (talk_at big x) refl (facts.inside x out)))

  port_ends : (xs ys : List Path) (now : World) →
      Thinned root xs ys → LikeChanges root see now (end_all (flat_map (ends_of_client small) xs)) (end_all (flat_map (ends_of_client big) ys))
  port_ends _ _ now Nobody = Empty
  port_ends _ _ now (Inner k q {xs = xs} {ys = ys} rest) =
      rw (
        end_append (ends_of_client small (k ∷ q)) (flat_map (ends_of_client small) xs),
        end_append (ends_of_client big (k ∷ (q ++ root))) (flat_map (ends_of_client big) ys),
      )
      (append-like (both_ends-like k q now) (port_ends xs ys _ rest))
  port_ends _ _ now (Outer x {xs = xs} {ys = ys} out rest) =
      rw (end_append (ends_of_client big x) (flat_map (ends_of_client big) ys))
      (append-like {cs = []} (outside_ends x now out) (port_ends xs ys _ rest))

  -- ---- the object that dies

  ends_with-like : (k : ℕ) (q : Path) (v : Option Body) (now : World) → LikeChanges root
      see now (end_all (ends_with small (k ∷ q) (option_map (λ b. unheld (k ∷ q) (seen_by (seeing see) b)) v))) (end_all (ends_with big (k ∷ (q ++ root)) v))
  unfolding seen_by
  ends_with-like k q (Some (Thread_of t)) now =
      rw (
        end_append (ends_on small (k ∷ q) turns.Client) (ends_on small (k ∷ q) turns.Server),
        end_append (ends_on big (k ∷ (q ++ root)) turns.Client) (ends_on big (k ∷ (q ++ root)) turns.Server),
      )
      (append-like (client_ends k q now) (server_ends k q _))
  ends_with-like k q (Some (Port set served)) now = port_ends (clients_at small (k ∷ q)) (clients_at big (k ∷ (q ++ root))) now (facts.clients (k ∷ q))
  ends_with-like k q (Some b) now = Empty
  ends_with-like k q None now = Empty

  kills-like : (k : ℕ) (q : Path) → LikeChanges root see big (kills small (k ∷ q)) (kills big (k ∷ (q ++ root)))
  kills-like k q = rw (like.bodies (k ∷ q)) (Both (Kills k q facts.apart) (ends_with-like k q (big.body (k ∷ (q ++ root))) _))

  destroys-like : (j : ℕ) (z x : Path) (k : ℕ) (q : Path) →
      IsLikeOutcome root see big (destroys small (user_at (j ∷ z)) x (k ∷ q)) (destroys big (user_at (j ∷ (z ++ root))) (x ++ root) (k ∷ (q ++ root)))
  destroys-like j z x k q = telling-like like _ _ _ _ (rw (same_path_cancel (k ∷ q) x root) (by (same_path (k ∷ q) x)))
    where
      by : (b : Bool) → IsLikeOutcome root see big (cond b (done (user_at (j ∷ z)) (kills small (k ∷ q)) []) (stays (user_at (j ∷ z)) (kills small (k ∷ q))))
          (cond b (done (user_at (j ∷ (z ++ root))) (kills big (k ∷ (q ++ root))) []) (stays (user_at (j ∷ (z ++ root))) (kills big (k ∷ (q ++ root)))))
      by true = done-like like (user_at (j ∷ z)) (kills small (k ∷ q)) (kills big (k ∷ (q ++ root))) [] (kills-like k q)
      by false = kills-like k q

  leaf_dies : (j : ℕ) (z x gone there : Path) → there ≡ gone ++ root → (k : ℕ) × (q : Path) × (gone ≡ k ∷ q) →
      IsLikeOutcome root see big (destroys small (user_at (j ∷ z)) x gone) (destroys big (user_at (j ∷ (z ++ root))) (x ++ root) there)
  leaf_dies j z x gone there same at =
      subst (λ (y : Path). IsLikeOutcome root see big (destroys small (user_at (j ∷ z)) x gone) (destroys big (user_at (j ∷ (z ++ root))) (x ++ root) y))
      (sym same)
      (subst (λ (y : Path). IsLikeOutcome root see big
      (destroys small (user_at (j ∷ z)) x y) (destroys big (user_at (j ∷ (z ++ root))) (x ++ root) (y ++ root))) (sym at.2) (destroys-like j z x at.0 at.1))

  destroy-like : is_frozen big root ≡ false →
      (j : ℕ) (z : Path) (s x : ℕ) → IsLikeOutcome root see big (destroy small (user_at (j ∷ z)) s x) (destroy big (user_at (j ∷ (z ++ root))) s x)
  unfolding destroy
  destroy-like free j z s x =
      bind_path like _ _ _ _ (place-like like (user_at (j ∷ z)) s)
      (λ space. bind_body like _ _ _ _ (anything_in-like like (user_at (j ∷ z)) space x)
      (λ b near. refuse-like like status.HELD (is_frozen_for small (j ∷ z) (x ∷ space))
      (is_frozen_for big (j ∷ (z ++ root)) (x ∷ (space ++ root))) _ _ (is_frozen_for-like like free (j ∷ z) (x ∷ space))
      (λ unheld.
      refuse-like like status.DENIED (is_within (x ∷ space) z) (is_within (x ∷ (space ++ root)) (z ++ root)) _ _ (sym (is_within_inside root (x ∷ space) z))
      (λ apart. refuse-like
      like status.HELD (is_frozen_for small (j ∷ z) (leaf small (x ∷ space))) (is_frozen_for big (j ∷ (z ++ root)) (leaf big (x ∷ (space ++ root)))) _ _
      (is_frozen_for-like like free (j ∷ z) (leaf small (x ∷ space)) ∙ ap (is_frozen_for big (j ∷ (z ++ root))) (sym (leaf-like like (x ∷ space))))
      (λ loose. leaf_dies j z (x ∷ space) (leaf small (x ∷ space)) (leaf big (x ∷ (space ++ root))) (leaf-like like (x ∷ space)) (leaf_below small x space))))))

-- ---- the law of the cut

pub destroy_inside : StageInsideKeepsCut IsDestroy
destroy_inside w nester slot x pick stage such within at sound plain =
    let under = thread_beneath w nester slot plain x at.0 within at.3 in
    rw under.2 (law under.0 under.1 (rw (under.2, such.2) at at) sound plain)
  where
    law : (k : ℕ) (q : Path) → IsAtStage w (k ∷ (q ++ slot ∷ nester)) (Destroy such.0 such.1) → KeepsCut w nester slot (moves (k ∷ (q ++ slot ∷ nester)) pick)
    law k q at sound plain =
        let like = cut-like w nester slot plain in
        stage_inside w nester slot plain k q pick (Destroy such.0 such.1) at (λ n c o. refl)
        (λ p e free. destroy-like like (record {
          apart = cut-apart w nester slot sound.valid plain;
          servers = λ me. client_of-like like (cut-served w nester slot sound.valid plain sound.few) me;
          clients = λ port. clients_thinned like port sound.valid.consistent sound.valid.rooted sound.few;
          inside = plain.served_inside;
        }) free k q such.0 such.1)
        (quiet-destroy (slot ∷ nester) w (user_at (k ∷ (q ++ slot ∷ nester))) such.0 such.1) sound plain

-- ---- the law of rebinding

pub destroy_rebinds : StageRebinds IsDestroy
destroy_rebinds = told_rebinds IsDestroy (λ p n stage such. rw such.2 (law p n such.0 such.1))
  where
    law : (p : Option Path) (n s x : ℕ) → IsRebound p n (Destroy s x)
    law p n s x see small c like outs world k q =
        let apart = cut_world-apart c see outs world in
        rw (silent_row p n (Destroy s x) small (k ∷ q) (λ n o. refl), silent_row p n (Destroy s x) c (k ∷ (q ++ [])) (λ n o. refl))
        (same_call like k q p (Destroy s x) refl refl (
          destroy-like like (record {
            apart = apart;
            servers = client_same like apart;
            clients = clients_inside like;
            inside = λ x out. let within = all_within x in cc;
          }) (top_free c world) k q s x,
          quiet_heard see _ _ (quiet-destroy [] small (user_at (k ∷ q)) s x) (quiet-destroy [] c (user_at (k ∷ (q ++ []))) s x),
        ))
