-- Sound: that a run of jobs may begin so. A world, its native servers, its nesters and its jobs fit together, and nothing is under way.
use Rattle.std.specs.Prelude.{◌≡◌, ℕ, ◌≤◌, Bool, true, false, not, ◌&&◌, ◌==◌, nat_le, List, [], ◌∷◌, reverse, All, Option, Some, None}
use Rattle.std.specs.List.{list_any, list_all}
use Rattle.std.specs.Str.{bytes_eq}
use Rattle.fk_model.specs.declared.limits.TheConstants.{LAST_USER_SLOT, LAST_PORTER_SLOT}
use Rattle.fk_model.specs.declared.job.JobSpec.{JobSpec}
use Rattle.fk_model.specs.declared.job.JobSpec.TheVariants as specs
use Rattle.fk_model.specs.Places.{Path, same_path, is_within, parent, Ptr}
use Rattle.fk_model.specs.Places.Ptr.{Null, Dead, At}
use Rattle.fk_model.specs.Objects.{holds, is_served}
use Rattle.fk_model.specs.World.{World}
use Rattle.fk_model.specs.Searches.{talk_at, fault_at}
use Rattle.fk_model.specs.Holds.{holder_of}
use Rattle.fk_model.specs.Freezing.{body_pointers}
use Rattle.fk_model.specs.StateRows.{is_native}
use Rattle.fk_model.specs.ObjectRows.{is_scratch}
use Rattle.fk_model.specs.Valid.{birth_at, all_in}
use Rattle.fk_model.specs.Whole.{IsWhole, IsSavable}

-- ---- lists without doubles

-- no two of a list are alike
unfoldable pub are_apart : {A : Type 0} → (A → A → Bool) → List A → Bool
are_apart alike [] = true
are_apart alike (x ∷ xs) = not (list_any (alike x) xs) && are_apart alike xs

-- ---- a world that is nobody's cut, and in which nothing is under way

-- a pointer that stands in cuts alone
abbrev pub is_cut_pointer : Ptr → Bool
is_cut_pointer Null = false
is_cut_pointer Dead = false
is_cut_pointer (At x) = false
is_cut_pointer other = true

-- each of its pointers leads somewhere in it, or nowhere
abbrev pub IsUncut : World → Type 0
IsUncut w = (x : Path) → list_any is_cut_pointer (body_pointers (w.body x)) ≡ false

-- no space has scratch
abbrev pub IsClean : World → Type 0
IsClean w = (s : Path) (k : ℕ) → is_scratch s (k ∷ s) ≡ true → w.body (k ∷ s) ≡ None

-- nobody holds a space, and no thread has a talk or a fault
pub record IsIdle (w : World) : Type 0 where
  pub unheld : (x : Path) → holder_of (w.body x) ≡ None
  pub untalked : (x : Path) → talk_at w x ≡ None
  pub unfaulted : (x : Path) → fault_at w x ≡ None

-- ---- what is asked of jobs

pub data Errand : Type 0 where
  -- the subtree in a slot of a nester is to be saved. The nester's birth number is known; its path and a name for what is saved may be
  Saves : (birth slot : ℕ) (path : Option Path) (name : Option (List ℕ)) → Errand
  -- one is to be made in a slot, and pairs say to what its outward slots are bound
  Makes : (birth slot : ℕ) (pairs : List (ℕ × ℕ)) → Errand

-- pairs of users' slots
abbrev pub are_user_pairs : List (ℕ × ℕ) → Bool
are_user_pairs pairs = list_all (λ (pair : ℕ × ℕ). nat_le pair.0 LAST_USER_SLOT && nat_le pair.1 LAST_USER_SLOT) pairs

-- two pairs bind the same slot
abbrev pub bind_same : ℕ × ℕ → ℕ × ℕ → Bool
bind_same p q = p.0 == q.0

-- under which names jobs save
abbrev pub names_of : List Errand → List (List ℕ)
names_of [] = []
names_of (Saves birth slot path (Some name) ∷ es) = name ∷ names_of es
names_of (Saves birth slot path None ∷ es) = names_of es
names_of (Makes birth slot pairs ∷ es) = names_of es

-- a job of a scenario
abbrev pub errand_of : JobSpec → Errand
errand_of (specs.Checkpoint moment birth path slot image) = Saves birth slot (Some (reverse path)) (Some image)
errand_of (specs.Restore moment birth slot image bind) = Makes birth slot bind

-- ---- with what a run begins

pub record Start : Type 0 where
  pub world : World
  -- the ports of its native servers
  pub ports : List Path
  -- the spaces that are to have a porter
  pub nesters : List Path
  pub jobs : List Errand
  -- how many moves are made at most
  pub budget : ℕ

-- a path is one of some
abbrev pub is_listed : List Path → Path → Bool
is_listed paths x = list_any (same_path x) paths

-- it is the last slot of one of some spaces
abbrev pub is_last_of : List Path → Path → Bool
is_last_of spaces x = list_any (λ s. same_path x (LAST_PORTER_SLOT ∷ s)) spaces

-- the nester of a job is there: it is the space with this birth number, and its path is the one that is told
pub record HasNester (s : Start) (birth : ℕ) (told : Option Path) : Type 0 where
  pub nester : Path
  pub named : birth_at s.world nester ≡ Some birth
  pub listed : is_listed s.nesters nester ≡ true
  pub path : all_in (same_path nester) told ≡ true

-- no nester and no server lies in a subtree
abbrev pub has_users_alone : Start → Path → Bool
has_users_alone s subtree = not (list_any (is_within subtree) s.nesters) && not (list_any (λ port. is_within subtree (parent port)) s.ports)

-- a job has its nester and names users' slots; where it saves users alone live, and it binds no slot twice
abbrev pub MayWork : Start → Errand → Type 0
MayWork s (Saves birth slot told name) = (its : HasNester s birth told) × (slot ≤ LAST_USER_SLOT) × (has_users_alone s (slot ∷ its.nester) ≡ true)
MayWork s (Makes birth slot pairs) = HasNester s birth None × (slot ≤ LAST_USER_SLOT) × (are_user_pairs pairs ≡ true) × (are_apart bind_same pairs ≡ true)

-- a run may begin so: the world can be saved and is nobody's cut, nothing is under way in it, the servers stand exactly at the served ports and porters exactly
-- in the nesters, and each job may work
pub record IsSoundStart (s : Start) : Type 0 where
  pub whole : IsWhole s.world
  -- among others: slots above 239 are for porters and their scratch
  pub savable : IsSavable s.world
  pub uncut : IsUncut s.world
  pub clean : IsClean s.world
  pub idle : IsIdle s.world
  pub few : s.world.next ≤ 256
  -- the ports that are served are those of the servers, each of which has its own
  pub served : (x : Path) → holds is_served (s.world.body x) ≡ is_listed s.ports x
  pub one_each : are_apart same_path s.ports ≡ true
  -- porters stand in the last slots of nesters, and in each
  pub porters : (x : Path) → holds is_native (s.world.body x) ≡ is_last_of s.nesters x
  pub jobs : All (MayWork s) s.jobs
  -- no two of them save under one name
  pub names : are_apart bytes_eq (names_of s.jobs) ≡ true
  pub budget : (1 ≤ s.budget) × (s.budget ≤ 1000000)
