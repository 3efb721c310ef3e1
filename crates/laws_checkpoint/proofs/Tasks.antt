-- What the parts of a checkpoint are given by those before them.
use Rattle.std.proofs.Common.{◌≡◌, ℕ, zero, suc, Bool, true, false, cond, IsSome, List, [], ◌∷◌, ◌++◌, map, filter, Option, Some, None, option_map, refl, ap}
use Rattle.std.proofs.Common.{subst, ◌⊎◌, inl, inr}
use Rattle.fk_model.specs.declared.limits.TheConstants.{SLOTS}
use Rattle.fk_model.specs.declared.names.Kind.TheVariants as kinds
use Rattle.fk_model.specs.Places.{Path}
use Rattle.fk_model.specs.Objects.{Body, kind_of}
use Rattle.fk_model.specs.Objects.Body.{Mutex, Cond, Mapping, Region, Port, Portset, Space, Thread_of, Reference}
use Rattle.fk_model.specs.World.{World}
use Rattle.fk_model.specs.Records.{record_of, word}
use Rattle.fk_model.specs.Searches.{residents, beneath_by, beneath, objects, depth}
use Rattle.fk_model.specs.Valid.{kind_there}
use Rattle.fk_model.specs.Closed.{far_field}
use Rattle.fk_model.specs.Cut.{cut}
use Rattle.fk_model.proofs.walks.Members.{IsIn, of_flat_map}
use Rattle.laws_checkpoint.specs.Foreign.{Task, number_there, task_of}
use Rattle.laws_checkpoint.specs.Walk.{Met, met}
use Rattle.laws_checkpoint.specs.Contents.{with_item, items_from, record_in, record_at, content}
use Rattle.laws_checkpoint.specs.Gather.{pointer_fields}
use Rattle.laws_checkpoint.specs.Assembly.{is_space_number, spaces_met, met_task, sought_tasks, pointers_by, item_task}
use Rattle.laws_checkpoint.specs.Assembly.{holder_task, content_tasks, gathered_tasks}
use Rattle.laws_checkpoint.proofs.Gathers.{Tasks_ok}

-- ---- the tasks of a seeker

abbrev HasSlot : Path → Type 0
HasSlot [] = ⊥
HasSlot (k ∷ q) = Unit {0}

of_walk : (n : ℕ) (c : World) (s x : Path) → IsIn x (beneath_by n c s) → HasSlot x
unfolding beneath_by
of_walk zero c s x h = absurd h
of_walk (suc n) c s x h =
    let found = of_flat_map (λ j. (j ∷ s) ∷ beneath_by n c (j ∷ s)) x (residents c s) h in
    by found.0 found.2 (of_walk n c (found.0 ∷ s) x)
  where
    by : (j : ℕ) → (j ∷ s ≡ x) ⊎ IsIn x (beneath_by n c (j ∷ s)) → (IsIn x (beneath_by n c (j ∷ s)) → HasSlot x) → HasSlot x
    by j (inl e) rest = subst HasSlot e tt
    by j (inr g) rest = rest g

one_task : (c : World) (q : Path) → HasSlot q → met_task (met c q) ≡ task_of c q
one_task c [] h = absurd h
one_task c (k ∷ q) h = refl

met_tasks : (c : World) (qs : List Path) → ((q : Path) → IsIn q qs → HasSlot q) → map met_task (map (met c) qs) ≡ map (task_of c) qs
met_tasks c [] h = refl
met_tasks c (q ∷ qs) h = λ i. one_task c q (h q (inl refl)) i ∷ met_tasks c qs (λ x is. h x (inr is)) i

pub sought_are : (c : World) → sought_tasks (map (met c) (objects c)) ≡ map (task_of c) ([] ∷ objects c)
unfolding beneath
sought_are c = ap (λ (ts : List Task). record { path = []; fields = []; strict = false } ∷ ts) (met_tasks c (objects c) (λ q is. of_walk depth c [] q is))

-- ---- the spaces

kind_by : (o : Option Body) → is_space_number (number_there o) ≡ true → option_map kind_of o ≡ Some kinds.Space
kind_by (Some (Space birth holder)) h = refl
kind_by (Some (Mutex locked)) h = cc
kind_by (Some Cond) h = cc
kind_by (Some (Mapping m)) h = cc
kind_by (Some (Region r)) h = cc
kind_by (Some (Port set served)) h = cc
kind_by (Some Portset) h = cc
kind_by (Some (Thread_of t)) h = cc
kind_by (Some (Reference to)) h = cc
kind_by None h = cc

of_map : (c : World) (x : Path) (qs : List Path) → IsIn x (map (λ (m : Met). m.path) (filter (λ (m : Met). is_space_number m.kind) (map (met c) qs)))
    → is_space_number (number_there (c.body x)) ≡ true
of_map c x [] h = absurd h
of_map c x (q ∷ qs) h = by (is_space_number (number_there (c.body q))) refl h (λ is. of_map c x qs is)
  where
    rest : List Path
    rest = map (λ (m : Met). m.path) (filter (λ (m : Met). is_space_number m.kind) (map (met c) qs))

    by : (t : Bool) → is_space_number (number_there (c.body q)) ≡ t →
        IsIn x (map (λ (m : Met). m.path) (cond t (met c q ∷ filter (λ (m : Met). is_space_number m.kind) (map (met c) qs))
        (filter (λ (m : Met). is_space_number m.kind) (map (met c) qs)))) →
        (IsIn x rest → is_space_number (number_there (c.body x)) ≡ true) → is_space_number (number_there (c.body x)) ≡ true
    by true e (inl same) later = subst (λ (y : Path). is_space_number (number_there (c.body y)) ≡ true) same e
    by true e (inr is) later = later is
    by false e is later = later is

-- each space that was met is one
pub spaces_are : (c : World) → kind_there c [] ≡ Some kinds.Space → (x : Path) → IsIn x (spaces_met (map (met c) (objects c)))
    → kind_there c x ≡ Some kinds.Space
unfolding kind_there
spaces_are c root x (inl e) = subst (λ (y : Path). kind_there c y ≡ Some kinds.Space) e root
spaces_are c root x (inr is) = kind_by (c.body x) (of_map c x (objects c) is)

-- ---- the tasks of a gatherer

same_words : (xs ys : List ℕ) → Some xs ≡ Some ys → xs ≡ ys
same_words xs ys e = cc

by_record : (b : Body) (words : List ℕ) → Some (record_of b) ≡ Some words → pointers_by (word (record_of b) 0) ≡ pointer_fields (Some b) →
    pointers_by (word words 0) ≡ pointer_fields (Some b)
by_record b words e h = subst (λ (ws : List ℕ). pointers_by (word ws 0) ≡ pointer_fields (Some b)) (same_words (record_of b) words e) h

pub pointers_are : (o : Option Body) (words : List ℕ) → record_in o ≡ Some words → pointers_by (word words 0) ≡ pointer_fields o
unfolding record_of
pointers_are (Some (Mutex locked)) words e = by_record (Mutex locked) words e refl
pointers_are (Some Cond) words e = by_record Cond words e refl
pointers_are (Some (Mapping m)) words e = by_record (Mapping m) words e refl
pointers_are (Some (Region r)) words e = by_record (Region r) words e refl
pointers_are (Some (Port set served)) words e = by_record (Port set served) words e refl
pointers_are (Some Portset) words e = by_record Portset words e refl
pointers_are (Some (Space birth holder)) words e = cc
pointers_are (Some (Thread_of t)) words e = by_record (Thread_of t) words e refl
pointers_are (Some (Reference to)) words e = by_record (Reference to) words e refl
pointers_are None words e = cc

record_live : (o : Option Body) (words : List ℕ) → record_in o ≡ Some words → IsSome o
record_live (Some b) words e = refl
record_live None words e = cc

module _ (nester : Path) (slot : ℕ) (start : World) (near : far_field ((cut start nester slot).body []) ≡ None) where
  abbrev c : World
  c = cut start nester slot

  abbrev All_ok : List Task → Type 0
  All_ok ts = Tasks_ok nester slot start near ts

  both_ok : (xs ys : List Task) → All_ok xs → All_ok ys → All_ok (xs ++ ys)
  both_ok [] ys h g = g
  both_ok (x ∷ xs) ys h g = (h.0, both_ok xs ys h.1 g)

  holder_fields : (o : Option Body) → option_map kind_of o ≡ Some kinds.Space → (0 ∷ [] ≡ pointer_fields o) × IsSome o
  holder_fields (Some (Space birth holder)) h = (refl, refl)
  holder_fields (Some (Mutex locked)) h = cc
  holder_fields (Some Cond) h = cc
  holder_fields (Some (Mapping m)) h = cc
  holder_fields (Some (Region r)) h = cc
  holder_fields (Some (Port set served)) h = cc
  holder_fields (Some Portset) h = cc
  holder_fields (Some (Thread_of t)) h = cc
  holder_fields (Some (Reference to)) h = cc
  holder_fields None h = cc

  holder_ok : (q : Path) → kind_there c q ≡ Some kinds.Space → All_ok (holder_task q)
  unfolding kind_there
  holder_ok [] space = tt
  holder_ok (k ∷ q) space =
      let its = holder_fields (c.body (k ∷ q)) space in
      (record { is = λ i. record { path = k ∷ q; fields = its.0 i; strict = false }; live = its.1 }, tt)

  items_ok : (q : Path) (n k : ℕ) → All_ok (map (item_task q) (items_from (record_at c q) n k))
  unfolding items_from
  items_ok q zero k = tt
  items_ok q (suc n) k = by (record_at c q k) refl (items_ok q n (suc k))
    where
      by : (o : Option (List ℕ)) → record_at c q k ≡ o → All_ok (map (item_task q) (items_from (record_at c q) n (suc k))) →
          All_ok (map (item_task q) (with_item k o (items_from (record_at c q) n (suc k))))
      by None e rest = rest
      by (Some words) e rest = (
        record {
          is = λ i. record { path = k ∷ q; fields = pointers_are (c.body (k ∷ q)) words e i; strict = false };
          live = record_live (c.body (k ∷ q)) words e;
        },
        rest,
      )

  contents_ok : (qs : List Path) → ((q : Path) → IsIn q qs → kind_there c q ≡ Some kinds.Space) → All_ok (gathered_tasks (map (content c) qs))
  contents_ok [] h = tt
  contents_ok (q ∷ qs) h =
      both_ok (content_tasks (content c q)) (gathered_tasks (map (content c) qs))
      (both_ok (holder_task q) (map (item_task q) (items_from (record_at c q) SLOTS 0)) (holder_ok q (h q (inl refl))) (items_ok q SLOTS 0))
      (contents_ok qs (λ x is. h x (inr is)))

  -- the spaces that were met, and what is gathered of them
  pub gathered_ok : kind_there c [] ≡ Some kinds.Space → All_ok (gathered_tasks (map (content c) (spaces_met (map (met c) (objects c)))))
  gathered_ok root = contents_ok (spaces_met (map (met c) (objects c))) (λ q is. spaces_are c root q is)
