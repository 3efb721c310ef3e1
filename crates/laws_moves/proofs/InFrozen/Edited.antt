-- What an edit leaves of a body: its kind, whether it is a reference, and whether it is a porter.
use Rattle.std.proofs.Common.{◌≡◌, ℕ, Bool, true, false, ◌==◌, is_some, List, [], ◌∷◌, refl, sym, ap, ◌∙◌}
use Rattle.fk_model.specs.declared.names.Kind.TheVariants as kinds
use Rattle.fk_model.specs.declared.stage.Stage.{Stage}
use Rattle.fk_model.specs.Objects.{Mode, Thread, Body, kind_of, number_of_kind, reference_of}
use Rattle.fk_model.specs.Objects.Mode.{Calling}
use Rattle.fk_model.specs.Objects.Body.{Mutex, Cond, Mapping, Region, Port, Portset, Space, Thread_of, Reference}
use Rattle.fk_model.specs.World.{Edit, edited, shifted_in, ended_in, finished_in, replaced_in}
use Rattle.fk_model.specs.World.Edit.{SetLocked, Proceed, Shift, Finish, End, Replace}
use Rattle.fk_model.specs.Holds.{is_porter}
use Rattle.fk_model.specs.StateRows.{is_native}
use Rattle.laws_moves.proofs.InMachine.validity.Outlines.{Outline}
use Rattle.laws_moves.proofs.InMachine.validity.Edits.{outline-edited}

pub same_kind : (edit : Edit) (b : Body) → kind_of (edited edit b) ≡ kind_of b
same_kind edit b = ap (λ (o : Outline). o.kind) (outline-edited edit b)

-- whether it is a reference is told by its kind
reference-kind : (b : Body) → is_some (reference_of b) ≡ (number_of_kind (kind_of b) == 9)
reference-kind (Reference to) = refl
reference-kind (Mutex locked) = refl
reference-kind b = refl

pub same-reference : (edit : Edit) (b : Body) → is_some (reference_of (edited edit b)) ≡ is_some (reference_of b)
same-reference edit b = reference-kind (edited edit b) ∙ ap (λ k. number_of_kind k == 9) (same_kind edit b) ∙ sym (reference-kind b)

-- what is no thread is no porter
other-native : (b : Body) → (kind_of b ≡ kinds.Thread → ⊥) → is_native b ≡ false
other-native (Thread_of t) other = absurd (other refl)
other-native (Mutex locked) other = refl
other-native b other = refl

shifted-same : (count : ℕ) (m : Mode) → is_porter (shifted_in count m) ≡ is_porter m
shifted-same count (Calling (stage ∷ todo) rest) = refl
shifted-same count (Calling [] rest) = refl
shifted-same count m = refl

replaced-same : (stage : Stage) (m : Mode) → is_porter (replaced_in stage m) ≡ is_porter m
replaced-same stage (Calling (old ∷ todo) rest) = refl
replaced-same stage (Calling [] rest) = refl
replaced-same stage m = refl

ended-same : (status : ℕ) (answers : List ℕ) (t : Thread) (m : Mode) → is_porter m ≡ is_porter t.mode →
    is_porter (ended_in status answers t m).mode ≡ is_porter t.mode
ended-same status answers t (Calling todo rest) same = same
ended-same status answers t m same = refl

finished-same : (answers : List ℕ) (t : Thread) (m : Mode) → is_porter m ≡ is_porter t.mode → is_porter (finished_in answers t m).mode ≡ is_porter t.mode
finished-same answers t (Calling (stage ∷ next_stage ∷ todo) rest) same = same
finished-same answers t (Calling (stage ∷ []) rest) same = same
finished-same answers t (Calling [] rest) same = same
finished-same answers t m same = refl

abbrev pub is_proceed : Edit → Bool
is_proceed (Proceed mode counter) = true
is_proceed other = false

thread-native : (edit : Edit) (t : Thread) → is_proceed edit ≡ false → is_native (edited edit (Thread_of t)) ≡ is_porter t.mode
unfolding edited
thread-native (Proceed mode counter) t other = cc
thread-native (Shift count) t other = shifted-same count t.mode
thread-native (Finish answers) t other = finished-same answers t t.mode refl
thread-native (End status answers) t other = ended-same status answers t t.mode refl
thread-native (Replace stage) t other = replaced-same stage t.mode
thread-native (SetLocked locked) t other = refl
thread-native edit t other = refl

-- an edit that sets no mode makes no porter, and ends none
pub same-native : (edit : Edit) (b : Body) → is_proceed edit ≡ false → is_native (edited edit b) ≡ is_native b
same-native edit (Thread_of t) other = thread-native edit t other
same-native edit (Mutex locked) other = other-native _ (λ e. let k = same_kind edit (Mutex locked) in cc)
same-native edit Cond other = other-native _ (λ e. let k = same_kind edit Cond in cc)
same-native edit (Mapping m) other = other-native _ (λ e. let k = same_kind edit (Mapping m) in cc)
same-native edit (Region r) other = other-native _ (λ e. let k = same_kind edit (Region r) in cc)
same-native edit (Port set served) other = other-native _ (λ e. let k = same_kind edit (Port set served) in cc)
same-native edit Portset other = other-native _ (λ e. let k = same_kind edit Portset in cc)
same-native edit (Space birth holder) other = other-native _ (λ e. let k = same_kind edit (Space birth holder) in cc)
same-native edit (Reference to) other = other-native _ (λ e. let k = same_kind edit (Reference to) in cc)
