-- The laws of the cut and of rebinding for the end of a talk, by its client or by its server.
use Rattle.std.proofs.Common.{◌≡◌, ℕ, List, [], ◌∷◌, ◌++◌, Option, None, refl}
use Rattle.fk_model.specs.declared.statuses.status.TheConstants.{NOTLINKED}
use Rattle.fk_model.specs.declared.stage.Stage.{Stage}
use Rattle.fk_model.specs.declared.stage.Stage.TheVariants.{Disconnect, ServerEnd}
use Rattle.fk_model.specs.declared.thread.Turn.{Turn}
use Rattle.fk_model.specs.declared.thread.Turn.TheVariants as turns
use Rattle.fk_model.specs.Places.{Path, Ptr}
use Rattle.fk_model.specs.Objects.{Peer, Talk}
use Rattle.fk_model.specs.Objects.Peer.{Server, Service, Parked}
use Rattle.fk_model.specs.World.{World}
use Rattle.fk_model.specs.World.Change.{Alter}
use Rattle.fk_model.specs.World.Edit.{SetTalk}
use Rattle.fk_model.specs.Outcomes.{or_refuse, done}
use Rattle.fk_model.specs.Talks.{Line, line, ends_beyond}
use Rattle.fk_model.specs.LinkRows.{user_at, end_all, told_end, disconnect}
use Rattle.fk_model.specs.Cut.{IsPlain}
use Rattle.fk_model.specs.Further.{told_by_said}
use Rattle.laws_subtrees.specs.Cut.CutLaws.{KeepsCut, IsAtStage, moves, IsDisconnect, IsServerEnd, StageKeepsCut, StageInsideKeepsCut}
use Rattle.laws_subtrees.specs.Cut.Likeness.{seen_talk, IsLikeness, AlikeOptions, LineLikeness}
use Rattle.laws_subtrees.specs.Cut.Likeness.LineLikeness.{Lines}
use Rattle.laws_subtrees.specs.Cut.LikeChanges.{IsLikeOutcome}
use Rattle.laws_subtrees.specs.Cut.LikeChanges.LikeChange.{Alters}
use Rattle.laws_subtrees.specs.Cut.LikeChanges.LikeChanges.{Empty, Both}
use Rattle.laws_subtrees.specs.Cut.RebindLaws.{StageRebinds}
use Rattle.laws_subtrees.proofs.InCut.likeness.Alike.{alike_or_refuse}
use Rattle.laws_subtrees.proofs.InCut.likeness.Instances.{cut-like}
use Rattle.laws_subtrees.proofs.InCut.likeness.Talks.{line_client-like, line_server-like}
use Rattle.laws_subtrees.proofs.InCut.likeness.Ends.{ends_beyond-like}
use Rattle.laws_subtrees.proofs.InCut.likeness.Servers.{client_of-like, cut-apart, cut-served, cut_world-apart}
use Rattle.laws_subtrees.proofs.InCut.likeness.Outcomes.{append-like, bind_line, done-like, telling-like}
use Rattle.laws_subtrees.proofs.InCut.cut.Plain.{AreQuiet}
use Rattle.laws_subtrees.proofs.InCut.cut.Inside.{Quiet, quiet->>=, quiet-telling, quiet-done, quiet-then, stage_inside, inside_stages, thread_beneath}
use Rattle.laws_subtrees.proofs.InCut.cut.Outside.{stage_outside}
use Rattle.laws_subtrees.proofs.InCut.rebinding.Rebound.{quiet_heard}
use Rattle.laws_subtrees.proofs.InCut.talks.Messages.{whole}
use Rattle.laws_subtrees.proofs.InCut.rebinding.Messages.{IsRebound, same_call, client_same, told_rebinds, silent_row}

-- ---- the row

module _ {root : Path} {see : Ptr → Ptr} {small big : World} (like : IsLikeness root see small big) where
  disconnect-like : (k : ℕ) (q : Path) (side : Turn) → AlikeOptions (LineLikeness root see big) (line small (k ∷ q) side) (line big (k ∷ (q ++ root)) side) →
      IsLikeOutcome root see big (disconnect small (user_at (k ∷ q)) side) (disconnect big (user_at (k ∷ (q ++ root))) side)
  unfolding disconnect
  disconnect-like k q side lines =
      bind_line like (or_refuse NOTLINKED (line small (k ∷ q) side))
      (or_refuse NOTLINKED (line big (k ∷ (q ++ root)) side)) _ _ (alike_or_refuse (LineLikeness root see big) NOTLINKED _ _ lines)
      (λ j z talk other seen is has peer.
      let near : Line = record { client = j ∷ z; talk = seen_talk see talk; other = seen } in
      let far : Line = record { client = j ∷ (z ++ root); talk = talk; other = other } in
      telling-like like (told_end near.talk seen)
      (told_end talk other) (done (user_at (k ∷ q)) (end_all (ends_beyond small side near) ++ Alter (j ∷ z) (SetTalk None) ∷ []) [])
      (done (user_at (k ∷ (q ++ root))) (end_all (ends_beyond big side far) ++ Alter (j ∷ (z ++ root)) (SetTalk None) ∷ []) [])
      (done-like like (user_at (k ∷ q))
      _ _ [] (append-like (ends_beyond-like like side _ _ big (Lines j z talk other seen is has peer)) (Both (Alters j z _ (SetTalk None) refl tt) Empty))))

quiet-ends : (root : Path) (xs : List Path) → AreQuiet root (end_all xs)
quiet-ends root [] = tt
quiet-ends root (x ∷ xs) = (tt, quiet-ends root xs)

hushed_end : (talk : Talk) (peer : Peer) (v : World) (x : Path) → told_by_said v x (told_end talk peer) ≡ []
hushed_end talk (Server thread) v x = refl
hushed_end talk Service v x = refl
hushed_end talk Parked v x = refl

pub quiet-disconnect : (root : Path) (w : World) (x : Path) (side : Turn) → Quiet root (disconnect w (user_at x) side)
unfolding disconnect
quiet-disconnect root w x side =
    quiet->>= root _ _
    (λ l. quiet-telling root (told_end l.talk l.other) _ (hushed_end l.talk l.other)
    (quiet-done root (user_at x) (end_all (ends_beyond w side l) ++ Alter l.client (SetTalk None) ∷ []) []
    (quiet-then root (end_all (ends_beyond w side l)) (Alter l.client (SetTalk None) ∷ []) (quiet-ends root (ends_beyond w side l)) ((λ out. refl), tt))))

-- ---- by the client

pub disconnect_keeps : StageKeepsCut IsDisconnect
disconnect_keeps = whole IsDisconnect (inside_stages IsDisconnect law) (λ w nester slot plain x pick stage such out at.
    stage_outside w nester slot plain x pick Disconnect out (rw such at at) (λ cs. refl) (quiet-disconnect (slot ∷ nester) w x turns.Client))
  where
    law : (w : World) (nester : Path) (slot : ℕ) → IsPlain w nester slot → (k : ℕ) (q : Path) (pick : Option Path) (stage : Stage) →
        IsDisconnect stage → IsAtStage w (k ∷ (q ++ slot ∷ nester)) stage → KeepsCut w nester slot (moves (k ∷ (q ++ slot ∷ nester)) pick)
    law w nester slot plain k q pick stage such at sound same =
        stage_inside w nester slot plain k q pick Disconnect (rw such at at) (λ n c o. refl)
        (λ p e free. disconnect-like (cut-like w nester slot plain) k q turns.Client (line_client-like (cut-like w nester slot plain)
        (cut-apart w nester slot sound.valid plain) k q)) (quiet-disconnect (slot ∷ nester) w (k ∷ (q ++ slot ∷ nester)) turns.Client) sound same

pub disconnect_rebinds : StageRebinds IsDisconnect
disconnect_rebinds = told_rebinds IsDisconnect (λ p n stage such. rw such (law p n))
  where
    law : (p : Option Path) (n : ℕ) → IsRebound p n Disconnect
    law p n see small c like outs world k q =
        rw (silent_row p n Disconnect small (k ∷ q) (λ n o. refl), silent_row p n Disconnect c (k ∷ (q ++ [])) (λ n o. refl))
        (same_call like k q p Disconnect refl refl (
          disconnect-like like k q turns.Client (line_client-like like (cut_world-apart c see outs world) k q),
          quiet_heard see (disconnect small (user_at (k ∷ q)) turns.Client) (disconnect c (user_at (k ∷ (q ++ []))) turns.Client)
              (quiet-disconnect [] small (k ∷ q) turns.Client) (quiet-disconnect [] c (k ∷ (q ++ [])) turns.Client),
        ))

-- ---- by the server

pub end_keeps : StageInsideKeepsCut IsServerEnd
end_keeps w nester slot x pick stage such within at sound plain =
    let under = thread_beneath w nester slot plain x at.0 within at.3 in
    rw under.2 (law under.0 under.1 (rw (under.2, such) at at) sound plain)
  where
    law : (k : ℕ) (q : Path) → IsAtStage w (k ∷ (q ++ slot ∷ nester)) ServerEnd → KeepsCut w nester slot (moves (k ∷ (q ++ slot ∷ nester)) pick)
    law k q at sound plain =
        let like = cut-like w nester slot plain in
        stage_inside w nester slot plain k q pick ServerEnd at (λ n c o. refl)
        (λ p e free. disconnect-like
        like k q turns.Server (line_server-like like (k ∷ q) (client_of-like like (cut-served w nester slot sound.valid plain sound.few) (k ∷ q))))
        (quiet-disconnect (slot ∷ nester) w (k ∷ (q ++ slot ∷ nester)) turns.Server) sound plain

pub end_rebinds : StageRebinds IsServerEnd
end_rebinds = told_rebinds IsServerEnd (λ p n stage such. rw such (law p n))
  where
    law : (p : Option Path) (n : ℕ) → IsRebound p n ServerEnd
    law p n see small c like outs world k q =
        rw (silent_row p n ServerEnd small (k ∷ q) (λ n o. refl), silent_row p n ServerEnd c (k ∷ (q ++ [])) (λ n o. refl))
        (same_call like k q p ServerEnd refl refl (
          disconnect-like like k q turns.Server (line_server-like like (k ∷ q) (client_same like (cut_world-apart c see outs world) (k ∷ q))),
          quiet_heard see (disconnect small (user_at (k ∷ q)) turns.Server) (disconnect c (user_at (k ∷ (q ++ []))) turns.Server)
              (quiet-disconnect [] small (k ∷ q) turns.Server) (quiet-disconnect [] c (k ∷ (q ++ [])) turns.Server),
        ))
