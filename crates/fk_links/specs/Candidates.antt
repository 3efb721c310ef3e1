-- Candidates: whom a wait may take, by paths.
use Rattle.std.specs.Prelude.{◌≡◌, ℕ, true, ⊤}
use Rattle.fk_model.specs.declared.names.Who.{Who}
use Rattle.fk_model.specs.LinkRows as rows
use Rattle.fk_model.specs.Objects.{Body}
use Rattle.fk_model.specs.Objects.Body.{Portset}
use Rattle.fk_model.specs.Places.{Path}
use Rattle.fk_store.specs.Store.Bodies.{fault_by, talk_by}
use Rattle.fk_store.specs.Store.Contents.{Contents}
use Rattle.fk_store.specs.Store.Paths.{path, place}
use Rattle.fk_store.specs.Store.Threads.{todo_at}
use Rattle.fk_store.specs.Store.World.{world, IsLive}
use Rattle.fk_links.specs.Connects.{is_connecting}
use Rattle.fk_links.specs.declared.candidates.Candidate.{Candidate}
use Rattle.fk_links.specs.declared.candidates.Candidate.TheVariants.{Faulting, Connecting, Resuming}

-- who may be taken, by paths
abbrev pub candidate_by : (ℕ → Path) → Candidate → rows.Candidate
candidate_by p (Faulting slot fault) = rows.Faulting slot (fault_by p fault)
candidate_by p (Connecting slot) = rows.Connecting slot
candidate_by p (Resuming slot talk) = rows.Resuming slot (talk_by p talk)

-- who connects is at its connect, to a port that is there
abbrev pub IsCandidate : Contents → ℕ → Who → Candidate → Type 0
IsCandidate m space who (Connecting slot) =
    (is_connecting (todo_at (world m) (place (path m) who)) ≡ true) × IsLive m (record { space = space; slot = slot })
IsCandidate m space who other = ⊤

-- a port set
abbrev pub portset : Unit {0} → Body
portset here = Portset
