-- What stands where only the release is left of a checkpoint.
use Rattle.std.proofs.Common.{◌≡◌, ℕ, ◌≤◌, is_some, List, [], ◌∷◌, ◌++◌, Option, Some, None, option_map, refl, sym, ap, subst, ◌∙◌}
use Rattle.fk_model.specs.declared.limits.TheConstants.{LAST_USER_SLOT, LAST_PORTER_SLOT}
use Rattle.fk_model.specs.declared.stage.Stage.{Stage}
use Rattle.fk_model.specs.Places.{Path}
use Rattle.fk_model.specs.Places.Ptr.{At}
use Rattle.fk_model.specs.Objects.{Body, and_then}
use Rattle.fk_model.specs.Cut.{cut, ports_of, unheld, seen_by, cutting}
use Rattle.fk_model.specs.Valid.{birth_of, birth_at}
use Rattle.fk_model.specs.World.{World, edited, apply}
use Rattle.fk_model.specs.World.Edit.{SetHolder}
use Rattle.fk_model.proofs.walks.PlaceLaws.{same_path_refl}
use Rattle.fk_image.specs.declared.image.image.Image.{Image}
use Rattle.laws_moves.proofs.InMachine.validity.Edits.{outline-edited}
use Rattle.laws_moves.specs.Savable.Savable.{IsSound}
use Rattle.laws_jobs.specs.Jobs.{MayBegin}
use Rattle.laws_jobs.specs.Leads.{held_world}
use Rattle.laws_jobs.specs.Holds.{Held}
use Rattle.laws_jobs.specs.Machines.Head.{Asks}
use Rattle.laws_checkpoint.specs.Checkpoint.{End, State, head}
use Rattle.laws_checkpoint.specs.Checkpoint.End.{Gone, Done}
use Rattle.laws_checkpoint.specs.Checkpoint.State.{Releases, Over}
use Rattle.laws_checkpoint.specs.Laws.{MaySave}
use Rattle.laws_checkpoint.proofs.Phases.{Held_on, held_of, Tidy, tidy_clean}
use Rattle.laws_checkpoint.proofs.Working.{Phase, Verdict, near}
use Rattle.laws_checkpoint.proofs.Working.Phase.{AtFirst, AtSecond, AtThird, AtWalks, AtSeeks, AtReads, AtGathers, AtDrops, AtTwoLeft, AtOneLeft, AtReleases}
use Rattle.laws_checkpoint.proofs.Working.Phase.{AtOver}
use Rattle.laws_checkpoint.proofs.Ended.{Came, came, cut_kept}
use Rattle.laws_checkpoint.proofs.Ended.Came.{NeverHeld, InPhase}
use Rattle.laws_checkpoint.proofs.Saved.{of_verdict}
use Rattle.laws_migrate.specs.Gathered.{IsHeldHere, Gathered, GatheredImageIsSubtree, SavedIsHeld}
use Rattle.laws_migrate.proofs.Births.{kept_birth, each}

mapped : (f : Body → Body) (o : Option Body) → is_some (option_map f o) ≡ is_some o
mapped f None = refl
mapped f (Some b) = refl

-- what stands in a cut stands there
pub cut_there : (w : World) (nester : Path) (slot : ℕ) (q : Path) → is_some ((cut w nester slot).body q) ≡ is_some (w.body (q ++ slot ∷ nester))
unfolding cut
cut_there w nester slot q = mapped (λ b. unheld q (seen_by (cutting (ports_of w nester slot) nester slot) b)) (w.body (q ++ slot ∷ nester))

module _ (slot birth : ℕ) (w : World) (nester : Path) (low : slot ≤ LAST_USER_SLOT) (may : MayBegin w nester birth) where
  abbrev root : Path
  root = slot ∷ nester

  abbrev start : World
  start = held_world nester slot w

  start_named : (number : ℕ) → birth_at w root ≡ Some number → birth_at start root ≡ Some number
  unfolding apply
  start_named number named =
      let f = edited (SetHolder (Some (At (LAST_PORTER_SLOT ∷ nester)))) in
      rw (same_path_refl root) (kept_birth (option_map f (w.body root)) (w.body root)
      (each f (outline-edited (SetHolder (Some (At (LAST_PORTER_SLOT ∷ nester))))) (w.body root))) ∙ named

  module _ (held : Held nester slot w) (sound : IsSound start) where
    abbrev On : World → Type 0
    On v = Held_on nester slot birth start v

    held_at : (v : World) (t : State) (stage : Stage) (words : List ℕ) → Phase nester slot birth low w may held sound v t → head slot t ≡ Asks stage words
        → On v
    held_at v _ stage words (AtFirst its tidy) e = its
    held_at v _ stage words (AtSecond its places tidy) e = its
    held_at v _ stage words (AtThird its places targets tidy) e = its
    held_at v _ stage words (AtWalks s its asking tidy) e = held_of nester slot birth start (near nester slot birth low w may held sound) v its.base
    held_at v _ stage words (AtSeeks s its asking tidy) e = held_of nester slot birth start (near nester slot birth low w may held sound) v its.base
    held_at v _ stage words (AtReads s closed its asking tidy) e = held_of nester slot birth start (near nester slot birth low w may held sound) v its.base
    held_at v _ stage words (AtGathers s closed its asking tidy) e = held_of nester slot birth start (near nester slot birth low w may held sound) v its.base
    held_at v _ stage words (AtDrops end verdict its scratched tidy) e = its
    held_at v _ stage words (AtTwoLeft end verdict its targets places tidy) e = its
    held_at v _ stage words (AtOneLeft end verdict its places tidy) e = its
    held_at v _ stage words (AtReleases end verdict its tidy) e = its
    held_at v _ stage words (AtOver end verdict same unheld tidy) e = cc

    record ReleasesSo (v : World) (end : End) : Type 0 where
      verdict : Verdict nester slot birth low w may held sound end
      on : On v
      tidy : Tidy nester slot birth v []

    releases_at : (v : World) (t : State) (end : End) → Phase nester slot birth low w may held sound v t → t ≡ Releases end → ReleasesSo v end
    releases_at v _ end (AtReleases other verdict its tidy) e =
        let same : other ≡ end = cc in
        record { verdict = subst (Verdict nester slot birth low w may held sound) same verdict; on = its; tidy = tidy }
    releases_at v _ end (AtFirst its tidy) e = cc
    releases_at v _ end (AtSecond its places tidy) e = cc
    releases_at v _ end (AtThird its places targets tidy) e = cc
    releases_at v _ end (AtWalks s its asking tidy) e = cc
    releases_at v _ end (AtSeeks s its asking tidy) e = cc
    releases_at v _ end (AtReads s closed its asking tidy) e = cc
    releases_at v _ end (AtGathers s closed its asking tidy) e = cc
    releases_at v _ end (AtDrops other verdict its scratched tidy) e = cc
    releases_at v _ end (AtTwoLeft other verdict its targets places tidy) e = cc
    releases_at v _ end (AtOneLeft other verdict its places tidy) e = cc
    releases_at v _ end (AtOver other verdict same unheld tidy) e = cc

  here : (number : ℕ) → birth_at w root ≡ Some number → (v : World) → Held_on nester slot birth start v → IsHeldHere nester slot number v
  here number named v on = record {
    named = ap (λ (o : Option Body). and_then birth_of o) (on.inside.bodies []) ∙ start_named number named;
    holder = on.holding.holder;
  }

  pub is_held : (number : ℕ) → birth_at w root ≡ Some number → (v : World) (t : State) (stage : Stage) (words : List ℕ)
      → Came slot birth w nester low may v t → head slot t ≡ Asks stage words → IsHeldHere nester slot number v
  is_held number named v t stage words (NeverHeld none same over) asks = let stops = sym (ap (head slot) over) ∙ asks in cc
  is_held number named v t stage words (InPhase held sound phase) asks = here number named v (held_at held sound v t stage words phase asks)

  module _ (save : MaySave w nester slot) (number : ℕ) (named : birth_at w root ≡ Some number) where
    abbrev over_end : End → State
    over_end end = Over end

    pub gathered : (v : World) (t : State) (image : Image) → Came slot birth w nester low may v t → t ≡ Releases (Done image)
        → Gathered w nester slot number image v
    gathered v t image (NeverHeld none same over) is = let both : over_end Gone ≡ Releases (Done image) = sym over ∙ is in cc
    gathered v t image (InPhase held sound phase) is =
        let its = releases_at held sound v t (Done image) phase is in
        let imaged = of_verdict slot birth w nester low may save held sound image its.verdict in
        let same = cut_kept slot birth w nester low may v t (InPhase held sound phase) in
        record {
          valid = imaged.0;
          pictured = imaged.1;
          closed = its.verdict.0;
          same = same;
          may_clear = record {
            holding = its.on.holding;
            stands = λ q. sym (cut_there v nester slot q) ∙ ap (λ (c : World). is_some (c.body q)) (same ∙ sym imaged.1);
            scratch = λ k is. tidy_clean nester slot birth v its.tidy nester k is;
            named = (here number named v its.on).named;
          };
        }

pub gathered_image_is_subtree : GatheredImageIsSubtree
gathered_image_is_subtree slot birth number w v nester image low may save named work =
    gathered slot birth w nester low may save number named v (Releases (Done image)) image (came slot birth w nester low may v
    (Releases (Done image)) work) refl

pub saved_is_held : SavedIsHeld
saved_is_held slot birth number w v nester t stage words low may named work asks =
    is_held slot birth w nester low may number named v t stage words (came slot birth w nester low may v t work) asks
