-- The law of the cut for the deaths of objects, by a thread outside, and for their other names, by a thread inside.
use Rattle.std.proofs.Common.{◌≡◌, ℕ, leb, Bool, true, false, cond, not, List, [], ◌∷◌, ◌++◌, Option, Some, None, is_some, Result, Ok, Err, refl, sym, ap, ◌∙◌}
use Rattle.std.proofs.Common.{append-nil}
use Rattle.fk_model.specs.declared.limits.TheConstants.{LAST_USER_SLOT}
use Rattle.fk_model.specs.declared.statuses.status.TheConstants as status
use Rattle.fk_model.specs.declared.stage.Stage.{Stage}
use Rattle.fk_model.specs.declared.stage.Stage.TheVariants.{Destroy, Rename}
use Rattle.fk_model.specs.Places.{Path, same_path, is_within}
use Rattle.fk_model.specs.Objects.{Peer, Talk, Body, is_served}
use Rattle.fk_model.specs.Objects.Peer.{Server, Service, Parked}
use Rattle.fk_model.specs.Objects.Body.{Port, Thread_of}
use Rattle.fk_model.specs.World.{World}
use Rattle.fk_model.specs.World.Change.{Move}
use Rattle.fk_model.specs.Searches.{has_residents, leaf, client_at}
use Rattle.fk_model.specs.Holds.{is_frozen_for}
use Rattle.fk_model.specs.Outcomes.{refuse, Caller, path_of, done, stays}
use Rattle.fk_model.specs.Readers.{anything, object_in, space_argument}
use Rattle.fk_model.specs.LinkRows.{user_at, end_all}
use Rattle.fk_model.specs.Further.{told_by_said}
use Rattle.fk_model.specs.ObjectRows.{renamed, rename, ends_with, told_with, told_client, told_port, kills, destroys, destroy}
use Rattle.fk_model.specs.Cut.{cut, IsPlain}
use Rattle.laws_subtrees.specs.Cut.CutLaws.{KeepsCut, IsAtStage, moves, StageInsideKeepsCut, StageOutsideKeepsCut, IsRename, IsDestroy}
use Rattle.laws_subtrees.specs.Cut.Likeness.{AlikeResults, IsBeneath}
use Rattle.fk_model.proofs.walks.PlaceLaws.{strip-append}
use Rattle.laws_subtrees.proofs.InCut.likeness.Instances.{cut-like}
use Rattle.laws_subtrees.proofs.InCut.likeness.Reads.{place-like}
use Rattle.laws_subtrees.proofs.InCut.cut.Plain.{AreQuiet}
use Rattle.laws_subtrees.proofs.InCut.cut.Inside.{Quiet, quiet->>=, quiet-bind, quiet-telling, quiet-stays, quiet-done_at, quiet-done, stage_inside}
use Rattle.laws_subtrees.proofs.InCut.cut.Inside.{inside_stages}
use Rattle.laws_subtrees.proofs.InCut.cut.Outside.{stage_outside}
use Rattle.laws_subtrees.specs.Cut.RebindLaws.{StageRebinds}
use Rattle.laws_subtrees.proofs.InCut.rebinding.Rebound.{own_rebinds}
use Rattle.laws_subtrees.proofs.InCut.likeness.ObjectRows.{rename-like}
use Rattle.fk_model.specs.Records.{set}

-- ---- a rename, inside

quiet-rename : (root : Path) (w : World) (c : Caller) (s x y : ℕ) →
    ((space : Path) → space_argument w c s ≡ Ok space → is_within root (y ∷ space) ≡ is_within root (x ∷ space)) → Quiet root (rename w c s x y)
unfolding rename
quiet-rename root w c s x y same =
    quiet-bind root (space_argument w c s) _ (λ space at.
    quiet->>= root (object_in w c anything space x) _ (λ b.
    quiet->>= root (refuse status.HELD (is_frozen_for w (path_of c) (x ∷ space))) _ (λ free.
    quiet->>= root (refuse status.BADHANDLE (not (leb y LAST_USER_SLOT))) _ (λ named.
    quiet->>= root (refuse status.DENIED (is_served b)) _ (λ unserved.
    quiet->>= root (refuse status.OCCUPIED (is_some (w.body (y ∷ space)))) _ (λ empty.
    quiet->>= root (refuse status.NOTEMPTY (has_residents w (x ∷ space))) _ (λ alone.
    quiet-done_at root (renamed (x ∷ space) (y ∷ space) (path_of c)) c (Move (x ∷ space) y ∷ []) [] (same space at, tt))))))))

-- the places of a thread inside lie inside
place_inside : (w : World) (nester : Path) (slot : ℕ) → IsPlain w nester slot → (k : ℕ) (q : Path) (s x y : ℕ) (space : Path) →
    space_argument w (user_at (k ∷ (q ++ slot ∷ nester))) s ≡ Ok space → is_within (slot ∷ nester) (y ∷ space) ≡ is_within (slot ∷ nester) (x ∷ space)
place_inside w nester slot plain k q s x y space at = by (space_argument (cut w nester slot) (user_at (k ∷ q)) s)
    (space_argument w (user_at (k ∷ (q ++ slot ∷ nester))) s) (place-like (cut-like w nester slot plain) (user_at (k ∷ q)) s) at
  where
    here : (j : ℕ) (z : Path) → is_within (slot ∷ nester) (j ∷ (z ++ slot ∷ nester)) ≡ true
    here j z = ap is_some (strip-append (slot ∷ nester) (j ∷ z))

    by : (near far : Result Path ℕ) →
        AlikeResults (IsBeneath (slot ∷ nester)) near far → far ≡ Ok space → is_within (slot ∷ nester) (y ∷ space) ≡ is_within (slot ∷ nester) (x ∷ space)
    by (Ok z) (Ok there) h e = let is : space ≡ z ++ slot ∷ nester = cc in rw is (here y z ∙ sym (here x z))
    by (Err status) (Err refusal) h e = cc
    by (Ok z) (Err refusal) h e = absurd h
    by (Err status) (Ok there) h e = absurd h

pub rename_inside : StageInsideKeepsCut IsRename
rename_inside = inside_stages IsRename law
  where
    law : (w : World) (nester : Path) (slot : ℕ) → IsPlain w nester slot → (k : ℕ) (q : Path) (pick : Option Path) (stage : Stage) →
        IsRename stage → IsAtStage w (k ∷ (q ++ slot ∷ nester)) stage → KeepsCut w nester slot (moves (k ∷ (q ++ slot ∷ nester)) pick)
    law w nester slot plain k q pick stage such at =
        stage_inside w nester slot plain k q pick (Rename such.0 such.1 such.2) (rw such.3 at at) (λ n c o. refl)
        (λ p e free. rename-like (cut-like w nester slot plain) free k q such.0 such.1 such.2)
        (quiet-rename (slot ∷ nester)
        w (user_at (k ∷ (q ++ slot ∷ nester))) such.0 such.1 such.2 (λ space at. place_inside w nester slot plain k q such.0 such.1 such.2 space at))

pub all_within : (x : Path) → is_within [] x ≡ true
all_within x = rw (sym (append-nil x)) (rw (strip-append [] x) refl)

pub rename_rebinds : StageRebinds IsRename
rename_rebinds = own_rebinds IsRename (λ stage such. rw such.3 (record {
  silent = λ w n c o. refl;
  quiet = λ w x pick. quiet-rename [] w (user_at x) such.0 such.1 such.2 (λ space at. all_within (such.2 ∷ space) ∙ sym (all_within (such.1 ∷ space)));
  alike = λ root see small big like free k q p pick. rename-like like free k q such.0 such.1 such.2;
}))

-- ---- a death, by a thread outside

quiet-ends : (root : Path) (ends : List Path) → AreQuiet root (end_all ends)
quiet-ends root [] = tt
quiet-ends root (x ∷ ends) = (tt, quiet-ends root ends)

hush_client : (v : World) (y : Path) (o : Option Talk) → told_by_said v y (told_client o) ≡ []
hush_client v y None = refl
hush_client v y (Some talk) = by talk.peer
  where
    by : (peer : Peer) → told_by_said v y (told_client (Some (record talk { peer = peer }))) ≡ []
    by (Server thread) = refl
    by Service = refl
    by Parked = refl

hush_port : (v : World) (y x : Path) (o : Option Path) → told_by_said v y (told_port x o) ≡ []
hush_port v y x None = refl
hush_port v y x (Some client) = refl

hush : (w : World) (x : Path) (o : Option Body) (v : World) (y : Path) → told_by_said v y (told_with w x o) ≡ []
hush w x (Some (Thread_of t)) v y = hush_client v y t.talk
hush w x (Some (Port set served)) v y = hush_port v y x (client_at w x)
hush w x (Some b) v y = refl
hush w x None v y = refl

quiet-destroys : (root : Path) (w : World) (c : Caller) (x gone : Path) → Quiet root (destroys w c x gone)
quiet-destroys root w c x gone = quiet-telling root (told_with w gone (w.body gone)) _ (hush w gone (w.body gone)) (by (same_path gone x))
  where
    by : (b : Bool) → Quiet root (cond b (done c (kills w gone) []) (stays c (kills w gone)))
    by true = quiet-done root c (kills w gone) [] (tt, quiet-ends root (ends_with w gone (w.body gone)))
    by false = quiet-stays root c (kills w gone) (tt, quiet-ends root (ends_with w gone (w.body gone)))

pub quiet-destroy : (root : Path) (w : World) (c : Caller) (s x : ℕ) → Quiet root (destroy w c s x)
unfolding destroy
quiet-destroy root w c s x =
    quiet->>= root (space_argument w c s) _ (λ space.
    quiet->>= root (object_in w c anything space x) _ (λ b.
    quiet->>= root (refuse status.HELD (is_frozen_for w (path_of c) (x ∷ space))) _ (λ free.
    quiet->>= root (refuse status.DENIED (is_within (x ∷ space) c.space)) _ (λ apart.
    quiet->>= root (refuse status.HELD (is_frozen_for w (path_of c) (leaf w (x ∷ space)))) _ (λ loose.
    quiet-destroys root w c (x ∷ space) (leaf w (x ∷ space)))))))

pub destroy_outside : StageOutsideKeepsCut IsDestroy
destroy_outside w nester slot x pick stage such out at sound plain =
    stage_outside w nester
    slot plain x pick (Destroy such.0 such.1) out (rw such.2 at at) (λ cs. refl) (quiet-destroy (slot ∷ nester) w (user_at x) such.0 such.1) sound plain
