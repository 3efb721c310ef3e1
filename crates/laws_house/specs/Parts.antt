-- A machine that stands in another one as one of its parts: what is proved of it holds of the part.
use Rattle.std.specs.Prelude.{◌≡◌, ℕ, List}
use Rattle.fk_model.specs.Places.{Path}
use Rattle.fk_model.specs.World.{World}
use Rattle.laws_jobs.specs.Machines.{Machine, AtWork, calls_made}
use Rattle.laws_jobs.specs.Jobs.{MeetsContract}
use Rattle.laws_house.specs.Houses.{ends_as}

-- it asks for the same and hears the same
pub record IsPart {S A T B : Type 0} (m : Machine S A) (whole : Machine T B) (into : S → T) (ends_in : A → B) : Type 0 where
  pub head : (s : S) → whole.head (into s) ≡ ends_as ends_in (m.head s)
  pub next : (s : S) (status : ℕ) (words : List ℕ) → whole.next (into s) status words ≡ into (m.next s status words)

-- where the whole is at work in a part, the part is, with as many calls
pub record PartWorks {S A T B : Type 0} (m : Machine S A) (whole : Machine T B) (into : S → T) (nester : Path) (w : World) (s : S) (v : World) (t : T)
    (work : AtWork whole nester w (into s) v t) : Type 0 where
  pub state : S
  pub is : t ≡ into state
  pub part : AtWork m nester w s v state
  pub count : calls_made work ≡ calls_made part

-- a machine that is a part of another one is at work where that one is in this part, with as many calls
abbrev pub PartsWork : Type 0 → Type 0 → Type 0 → Type 0 → Type 0
PartsWork S A T B = (m : Machine S A) (whole : Machine T B) (into : S → T) (ends_in : A → B) (nester : Path) (w : World) (s : S) (v : World) (t : T) →
    IsPart m whole into ends_in → (work : AtWork whole nester w (into s) v t) → PartWorks m whole into nester w s v t work

-- what meets a job's contract by itself meets it as a part
abbrev pub PartsMeetTheContract : Type 0 → Type 0 → Type 0 → Type 0 → Type 0
PartsMeetTheContract S A T B = (m : Machine S A) (whole : Machine T B) (into : S → T) (ends_in : A → B) (birth : ℕ) (s : S) → IsPart m whole into ends_in →
    MeetsContract m birth s → MeetsContract whole birth (into s)
