-- The law of the cut, and of rebinding, for a Receive of a server.
use Rattle.std.proofs.Common.{ℕ, [], ◌∷◌, ◌++◌, Option, refl}
use Rattle.fk_model.specs.declared.stage.Stage.TheVariants.{ServerReceive, ServerReceiveRef}
use Rattle.fk_model.specs.declared.thread.Turn.TheVariants as turns
use Rattle.fk_model.specs.Places.{Path}
use Rattle.fk_model.specs.World.{World}
use Rattle.fk_model.specs.LinkRows.{user_at}
use Rattle.fk_model.specs.TransferRows.{receive, receive_ref}
use Rattle.laws_subtrees.specs.Cut.CutLaws.{KeepsCut, IsAtStage, moves, IsServerReceive, StageKeepsCut, StageInsideKeepsCut, IsServerReceiveRef}
use Rattle.laws_subtrees.specs.Cut.RebindLaws.{StageRebinds}
use Rattle.laws_subtrees.proofs.InCut.likeness.Instances.{cut-like}
use Rattle.laws_subtrees.proofs.InCut.likeness.Servers.{client_of-like, cut-served, cut_world-apart}
use Rattle.laws_subtrees.proofs.InCut.likeness.PlainRows.{server_turns, receive-like, receive_ref-like}
use Rattle.laws_subtrees.proofs.InCut.cut.Inside.{thread_beneath}
use Rattle.laws_subtrees.proofs.InCut.cut.Rows.{quiet-receive, quiet-receive_ref}
use Rattle.laws_subtrees.proofs.InCut.talks.Sends.{Still, still_outside, silent_law}
use Rattle.laws_subtrees.proofs.InCut.talks.Messages.{whole}
use Rattle.laws_subtrees.proofs.InCut.rebinding.Rebound.{quiet_heard}
use Rattle.laws_subtrees.proofs.InCut.rebinding.Messages.{IsRebound, told_rebinds, silent_row, same_call, client_same}
use Rattle.laws_subtrees.specs.Cut.Likeness.{under}

still-receive : (root : Path) (w : World) (x : Path) (into room : ℕ) → Still root (receive w (user_at x) turns.Server into room)
still-receive root w x into room = record { quiet = (quiet-receive root w (user_at x) turns.Server into room).quiet }

receive_inside : StageInsideKeepsCut IsServerReceive
receive_inside w nester slot x pick stage such within at sound plain =
    let under = thread_beneath w nester slot plain x at.0 within at.3 in
    rw under.2 (law under.0 under.1 (rw (under.2, such.2) at at) sound plain)
  where
    law : (k : ℕ) (q : Path) →
        IsAtStage w (k ∷ (q ++ slot ∷ nester)) (ServerReceive such.0 such.1) → KeepsCut w nester slot (moves (k ∷ (q ++ slot ∷ nester)) pick)
    law k q at sound plain =
        let like = cut-like w nester slot plain in
        silent_law w
        nester slot plain k q pick (ServerReceive such.0 such.1) at (λ n o. refl) (still-receive (slot ∷ nester) w (k ∷ (q ++ slot ∷ nester)) such.0 such.1)
        (λ p free. receive-like like (user_at (k ∷ q)) turns.Server
        such.0 such.1 (server_turns like (k ∷ q) (client_of-like like (cut-served w nester slot sound.valid plain sound.few) (k ∷ q)))) sound plain

pub server_receive_keeps : StageKeepsCut IsServerReceive
server_receive_keeps = whole IsServerReceive receive_inside
    (λ w nester slot plain x pick stage such out at. still_outside
    w nester slot plain x pick (ServerReceive such.0 such.1) out (rw such.2 at at) (λ cs. refl) (still-receive (slot ∷ nester) w x such.0 such.1))

pub server_receive_rebinds : StageRebinds IsServerReceive
server_receive_rebinds = told_rebinds IsServerReceive (λ p n stage such. rw such.2 (law p n such.0 such.1))
  where
    law : (p : Option Path) (n into room : ℕ) → IsRebound p n (ServerReceive into room)
    law p n into room see small c like outs world k q =
        rw (silent_row p n (ServerReceive into room) small (k ∷ q) (λ n o. refl), silent_row p n (ServerReceive into room) c (k ∷ (q ++ [])) (λ n o. refl))
        (same_call like k q p (ServerReceive into room) refl refl (
          receive-like like (user_at (k ∷ q)) turns.Server into room (server_turns like (k ∷ q) (client_same like (cut_world-apart c see outs world) (k ∷ q))),
          quiet_heard see
              _ _ (quiet-receive [] small (user_at (k ∷ q)) turns.Server into room) (quiet-receive [] c (user_at (k ∷ (q ++ []))) turns.Server into room),
        ))

-- ---- with a reference

still-receive_ref : (root : Path) (w : World) (x : Path) (into room reference : ℕ) → Still root (receive_ref w (user_at x) turns.Server into room reference)
still-receive_ref root w x into room reference = record { quiet = (quiet-receive_ref root w (user_at x) turns.Server into room reference).quiet }

receive_ref_inside : StageInsideKeepsCut IsServerReceiveRef
receive_ref_inside w nester slot x pick stage such within at sound plain =
    let under = thread_beneath w nester slot plain x at.0 within at.3 in
    rw under.2 (law under.0 under.1 (rw (under.2, such.3) at at) sound plain)
  where
    law : (k : ℕ) (q : Path) →
        IsAtStage w (k ∷ (q ++ slot ∷ nester)) (ServerReceiveRef such.0 such.1 such.2) → KeepsCut w nester slot (moves (k ∷ (q ++ slot ∷ nester)) pick)
    law k q at sound plain =
        let like = cut-like w nester slot plain in
        silent_law w nester slot plain k q pick (ServerReceiveRef such.0 such.1 such.2) at (λ n o. refl)
        (still-receive_ref (slot ∷ nester) w (k ∷ (q ++ slot ∷ nester)) such.0 such.1 such.2)
        (λ p free. receive_ref-like like (user_at (k ∷ q)) turns.Server
        such.0 such.1 such.2 (server_turns like (k ∷ q) (client_of-like like (cut-served w nester slot sound.valid plain sound.few) (k ∷ q)))) sound plain

pub server_receive_ref_keeps : StageKeepsCut IsServerReceiveRef
server_receive_ref_keeps = whole IsServerReceiveRef receive_ref_inside
    (λ w nester slot plain x pick stage such out at. still_outside w nester slot plain x pick (ServerReceiveRef such.0 such.1 such.2) out
    (rw such.3 at at) (λ cs. refl) (still-receive_ref (slot ∷ nester) w x such.0 such.1 such.2))

pub server_receive_ref_rebinds : StageRebinds IsServerReceiveRef
server_receive_ref_rebinds = told_rebinds IsServerReceiveRef (λ p n stage such. rw such.3 (law p n such.0 such.1 such.2))
  where
    law : (p : Option Path) (n into room reference : ℕ) → IsRebound p n (ServerReceiveRef into room reference)
    law p n into room reference see small c like outs world k q =
        rw (
          silent_row p n (ServerReceiveRef into room reference) small (k ∷ q) (λ n o. refl),
          silent_row p n (ServerReceiveRef into room reference) c (k ∷ (q ++ [])) (λ n o. refl),
        )
        (same_call like k q p (ServerReceiveRef into room reference) refl refl (
          receive_ref-like like (user_at (k ∷ q)) turns.Server into room reference
              (server_turns like (k ∷ q) (client_same like (cut_world-apart c see outs world) (k ∷ q))),
          quiet_heard see _ _ (quiet-receive_ref [] small (user_at (k ∷ q)) turns.Server into room reference)
              (quiet-receive_ref [] c (user_at (k ∷ (q ++ []))) turns.Server into room reference),
        ))
