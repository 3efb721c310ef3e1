-- A subtree that a checkpoint of a run has saved was plain at its hold.
use Rattle.std.proofs.Common.{◌≡◌, ℕ, Bool, true, false, not, if◌then◌else◌, ◌&&◌, ◌==◌, nat_le, is_some, ◌∷◌, ◌++◌, Option, Some, None, option_map}
use Rattle.std.proofs.Common.{refl, sym, ap, subst, ◌+◌, ◌∙◌, eqb-true, []}
use Rattle.std.proofs.lemmas.Bool.{and_parts}
use Rattle.fk_model.specs.declared.limits.TheConstants.{LAST_USER_SLOT, LAST_SCRATCH_SLOT, LAST_PORTER_SLOT}
use Rattle.fk_model.specs.declared.names.Kind.TheVariants as kinds
use Rattle.fk_model.specs.Places.{Path, Ptr}
use Rattle.fk_model.specs.Objects.{Body, holds, is_served, kind_of, reference_of}
use Rattle.fk_model.specs.Objects.Body.{Mutex, Cond, Mapping, Region, Port, Portset, Space, Thread_of, Reference}
use Rattle.fk_model.specs.World.{World}
use Rattle.fk_model.specs.StateRows.{is_native}
use Rattle.fk_model.specs.Valid.{kind_there}
use Rattle.fk_model.specs.Whole.{stands_in}
use Rattle.fk_model.specs.Cut.{IsPlain}
use Rattle.laws_moves.specs.Savable.Savable.{IsSound}
use Rattle.laws_subtrees.specs.Further.ClosedLaws.{IsUsersAlone}
use Rattle.laws_subtrees.proofs.InFurther.ClosedLaws.{closed_is_plain}
use Rattle.laws_jobs.proofs.Goings.{called}
use Rattle.laws_checkpoint.specs.Checkpoint.End.{Done}
use Rattle.laws_checkpoint.proofs.Ended.{checkpoint_ends_as_it_was}
use Rattle.laws_runs.specs.Cores.{world_at}
use Rattle.laws_house.specs.Houses.{house}
use Rattle.laws_house.specs.Laws.{IsUnserved}
use Rattle.laws_house.proofs.House.{jobs_meet_contract, ended_checkpoint}
use Rattle.laws_house.proofs.Kept.{uncut_at, Stood, stood_at}
use Rattle.laws_first.specs.Entries.{SavedIsPlain}

-- ---- users alone lie in it

last_slot : (k : ℕ) (b : Body) → stands_in k b ≡ true → is_native b ≡ true → k ≡ LAST_PORTER_SLOT
last_slot k b stands native = by (nat_le k LAST_USER_SLOT) (nat_le k LAST_SCRATCH_SLOT) stands
  where
    no_reference : (b : Body) → is_native b ≡ true → is_some (reference_of b) ≡ true → ⊥
    no_reference (Thread_of t) native some = cc
    no_reference (Reference to) native some = cc
    no_reference b native some = cc

    both : (native_b : Bool) → native_b ≡ true → not native_b ≡ true → ⊥
    both true one two = cc
    both false one two = cc

    by : (t r : Bool) → (if t then not (is_native b) else (if r then is_some (reference_of b) else (k == LAST_PORTER_SLOT && is_native b))) ≡ true
        → k ≡ LAST_PORTER_SLOT
    by true r e = absurd (both (is_native b) native e)
    by false true e = absurd (no_reference b native e)
    by false false e = eqb-true k LAST_PORTER_SLOT (and_parts (k == LAST_PORTER_SLOT) (is_native b) e).0

native_last : (w : World) → IsSound w → (k : ℕ) (x : Path) → holds is_native (w.body (k ∷ x)) ≡ true → k ≡ LAST_PORTER_SLOT
native_last w sound k x there = by (w.body (k ∷ x)) refl there
  where
    by : (o : Option Body) → w.body (k ∷ x) ≡ o → holds is_native o ≡ true → k ≡ LAST_PORTER_SLOT
    by (Some b) e native = last_slot k b (sound.savable.slots_kept k x b e) native
    by None e native = cc

off_unless : (b : Bool) → (b ≡ true → ⊥) → b ≡ false
off_unless true h = absurd (h refl)
off_unless false h = refl

space_there : (o : Option Body) → option_map kind_of o ≡ Some kinds.Space → (birth : ℕ) × (holder : Option Ptr) × (o ≡ Some (Space birth holder))
space_there (Some (Space birth holder)) kind = (birth, holder, refl)
space_there (Some (Mutex locked)) kind = absurd (cc)
space_there (Some Cond) kind = absurd (cc)
space_there (Some (Mapping m)) kind = absurd (cc)
space_there (Some (Region r)) kind = absurd (cc)
space_there (Some (Port set served)) kind = absurd (cc)
space_there (Some Portset) kind = absurd (cc)
space_there (Some (Thread_of t)) kind = absurd (cc)
space_there (Some (Reference to)) kind = absurd (cc)
space_there None kind = absurd (cc)

users_alone : (first w : World) (nester : Path) (slot : ℕ) → IsSound w → Stood first w → IsUnserved first nester slot → (birth : ℕ) (holder : Option Ptr)
    → w.body (slot ∷ nester) ≡ Some (Space birth holder) → IsUsersAlone w nester slot
users_alone first w nester slot sound stood before birth holder root =
    record { birth = birth; holder = holder; root = root; no_porter = porter; unserved = served }
  where
    porter : (q : Path) → holds is_native (w.body (q ++ slot ∷ nester)) ≡ false
    porter [] = rw root refl
    porter (k ∷ q) = off_unless (holds is_native (w.body (k ∷ (q ++ slot ∷ nester)))) (λ there.
        (let last = native_last w sound k (q ++ slot ∷ nester) there in
        let at_last : holds is_native (w.body (LAST_PORTER_SLOT ∷ (q ++ slot ∷ nester))) ≡ true =
        ap (λ i. holds is_native (w.body (i ∷ (q ++ slot ∷ nester)))) (sym last) ∙ there in
        let both = sym (stood.porters (q ++ slot ∷ nester) at_last) ∙ before.no_porter LAST_PORTER_SLOT q in cc))

    served : (q : Path) → holds is_served (w.body (q ++ slot ∷ nester)) ≡ false
    served [] = rw root refl
    served (k ∷ q) = off_unless (holds is_served (w.body (k ∷ (q ++ slot ∷ nester)))) (λ there.
        (let both = sym (stood.served (k ∷ (q ++ slot ∷ nester)) there) ∙ before.unserved k q in cc))

-- ---- so it is plain

pub saved_is_plain : {V : Type 0} → SavedIsPlain V
unfolding kind_there
saved_is_plain jobs servers first c past run grounded index j slot hold release image its is ended nester named =
    let e = ended_checkpoint jobs servers first c past run grounded index j slot hold release (Done image) its is ended in
    let w = world_at run hold in
    let native = (called e.nester w e.work.stage e.work.words e.work.ready).native in
    let stood = stood_at (house jobs servers) first grounded.users (jobs_meet_contract jobs servers grounded.slots) grounded.start grounded.uncut run
    grounded.few hold in
    let was = checkpoint_ends_as_it_was slot j.nester w (world_at run (release + 1)) e.nester e.state (Done image) e.low e.may e.work e.stopped in
    let before = grounded.alone index j slot its is e.nester (sym (stood.births e.nester native) ∙ e.may.named) in
    let same : e.nester ≡ nester = e.may.sound.whole.valid.consistent.apart e.nester nester j.nester e.may.named named in
    let space = space_there (w.body (slot ∷ e.nester)) was.0 in
    subst (λ (x : Path). IsPlain w x slot) same
    (closed_is_plain w e.nester slot e.may.sound.whole e.may.sound.savable (uncut_at (house jobs servers) first run grounded.uncut hold)
    (users_alone first.world w e.nester slot e.may.sound stood before space.0 space.1 space.2) was.1)
