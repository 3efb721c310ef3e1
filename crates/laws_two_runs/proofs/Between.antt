-- The law of rebinding leads from one run to another, by the picture of the image that both have.
use Rattle.std.proofs.Common.{◌≡◌, ℕ, ◌+◌, ◌≤◌, true, List, length, map, Some, refl, sym, subst}
use Rattle.fk_model.specs.World.{World}
use Rattle.fk_model.specs.declared.moves.Move.{Move}
use Rattle.fk_model.specs.Places.{Path}
use Rattle.fk_model.specs.Cut.{cut, IsPlain}
use Rattle.fk_model.specs.Further.{Onward, Told, IsFurther}
use Rattle.fk_model.specs.Rebind.{rebound, rebound_told, rebound_move}
use Rattle.fk_image.specs.declared.image.image.Image.{Image}
use Rattle.fk_image.specs.Image.Picture.{picture}
use Rattle.fk_image.specs.Image.Valid.{is_valid}
use Rattle.fk_image.proofs.InFormat.RoundTrip.{one_image}
use Rattle.laws_subtrees.proofs.InCut.joined.Rebinding.{run_rebinds}
use Rattle.laws_pictures.proofs.Cuts.{picture_is_cut_world}
use Rattle.laws_isolation.proofs.Once.{further_once}
use Rattle.laws_subtrees.specs.Further.Runs.{IsSeenRun}
use Rattle.laws_runs.proofs.Seen.{no_other}
use Rattle.laws_runs.specs.Cores.{Servers, Core, IsRun, world_at}
use Rattle.laws_runs.specs.Transparency.{Restored}
use Rattle.laws_restore.specs.Rooms.Restoring.{bound_by}
use Rattle.laws_runs.specs.Onwards.{between, GoesOnAs}
use Rattle.laws_house.specs.Houses.{Job, State, End, house, valid_one}
use Rattle.laws_house.specs.Transparency.{IsTransparent}
use Rattle.laws_house.specs.Houses.Source.{Given}
use Rattle.laws_two_runs.specs.TwoRuns.{CopiesGoOn, CopiesTellTheSame, SavedSubtreesGoOnInAnotherRun}

-- a cut that is a picture of a valid image, and one that is that picture rebound
goes_on_as : (c d : World) (image : Image) (bind : ℕ → ℕ) (ms : List Onward) → is_valid image ≡ true → picture image ≡ c → d ≡ rebound bind (picture image) →
    GoesOnAs bind c d ms
goes_on_as c d image bind ms valid is same =
    let law = run_rebinds bind (picture image) ms (picture_is_cut_world image valid) in
    subst (λ (p : World). GoesOnAs bind p d ms) is
    (record {
      forth = λ told later run. subst (λ (e : World). IsFurther e (map (rebound_move bind) ms) (map (rebound_told bind) told) (rebound bind later)) (sym same)
          (law.forth told later run);
      back = λ heard after run. law.back heard after (subst (λ (e : World). IsFurther e (map (rebound_move bind) ms) heard after) same run);
    })

pub copies_go_on : {J S A V K T B U : Type 0} → CopiesGoOn J S A V K T B U
copies_go_on h first c past run g start d moves other image birth slot hold release there place made done bind valid from to = record {
  nester = from.nester;
  named = from.named;
  there = to.nester;
  named_there = to.named;
  further = λ ms. goes_on_as (cut (world_at run hold) from.nester slot) (cut (world_at other (done + 1)) to.nester place) image bind ms valid from.picture
      to.cut_there;
}

valid_given : (image : Image) → is_valid image ≡ true → valid_one (Some image) ≡ Some image
valid_given image valid = rw valid refl

pub saved_go_on : {V U : Type 0} → SavedSubtreesGoOnInAnotherRun V U
saved_go_on jobs others servers fellows first c start d past moves run other transparency again from to i j slot place hold release made done pairs saved given
    bytes its is ended spelled read there restores made_it =
    let one : given ≡ saved = one_image bytes given saved read spelled in
    let kept = transparency.checkpointed.saves from i slot hold release saved its is ended in
    let built = again.restored.makes to j place made done pairs (Given (Some given)) given there restores (valid_given given read.valid) made_it in
    copies_go_on (house jobs servers) first c past run (house others fellows) start d moves other saved i.nester slot hold release j.nester place made done
    (bound_by pairs) kept.0 kept.1 (subst (λ (x : Image). Restored other j.nester place made done (bound_by pairs) (picture x)) one built)

-- what the moves of a history are seen as is what a plain subtree does there
does_as_seen : {V : Type 0} (jobs : List Job) (servers : Servers V) (first c : Core State End V) (past : List Move)
    (run : IsRun (house jobs servers) first past c) → IsTransparent run → (k n : ℕ) → k + n ≤ length past → (nester : Path) (slot : ℕ) (came : List Onward)
    → IsPlain (world_at run k) nester slot → IsSeenRun nester slot (world_at run k) (between run k n) came
    → (told : List Told) × IsFurther (cut (world_at run k) nester slot) came told (cut (world_at run (k + n)) nester slot)
does_as_seen jobs servers first c past run transparency k n low nester slot came plain seen =
    let on = transparency.goes_on k n low nester slot plain (no_other nester slot (world_at run k) (between run k n) came seen) in (
      on.told,
      subst (λ (ms : List Onward). IsFurther (cut (world_at run k) nester slot) ms on.told (cut (world_at run (k + n)) nester slot)) (sym (on.only came seen))
          on.further,
    )

pub copies_tell_the_same : {V U : Type 0} → CopiesTellTheSame V U
copies_tell_the_same jobs others servers fellows first c start d past moves run other transparency again image birth slot hold release birth_there place made done
    bind valid from to k n came low high plain seen seen_there =
    let mine = does_as_seen jobs servers first c past run transparency hold k low from.nester slot came plain seen in
    let theirs = does_as_seen others fellows start d moves other again (done + 1) n high to.nester place (map (rebound_move bind) came) to.plain seen_there in
    let law = goes_on_as (cut (world_at run hold) from.nester slot) (cut (world_at other (done + 1)) to.nester place) image bind came valid from.picture
    to.cut_there in
    let forth = law.forth mine.0 (cut (world_at run (hold + k)) from.nester slot) mine.1 in
    let once = further_once (cut (world_at other (done + 1)) to.nester place) (cut (world_at other (done + 1 + n)) to.nester place)
    (rebound bind (cut (world_at run (hold + k)) from.nester slot)) (map (rebound_move bind) came) theirs.0 (map (rebound_told bind) mine.0) theirs.1 forth in
    record {
      told = mine.0;
      tells = mine.1;
      tells_there = subst (λ (t : List Told). IsFurther (cut (world_at other (done + 1)) to.nester place) (map (rebound_move bind) came) t
          (cut (world_at other (done + 1 + n)) to.nester place)) once.0 theirs.1;
      same = once.1;
    }
