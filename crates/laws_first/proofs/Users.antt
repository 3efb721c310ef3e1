-- What servers ask for, and which slots jobs name.
use Rattle.std.proofs.Common.{◌≡◌, ℕ, ◌≤◌, true, List, [], ◌∷◌, refl}
use Rattle.std.proofs.lemmas.Bool.{le-leb}
use Rattle.std.specs.List.{All}
use Rattle.std.proofs.lemmas.List.Elements.{All-nil, All-cons, All-head, All-tail}
use Rattle.fk_model.specs.declared.job.JobSpec.{JobSpec}
use Rattle.fk_model.specs.declared.job.JobSpec.TheVariants as specs_of
use Rattle.fk_model.specs.Sound.{are_user_pairs}
use Rattle.fk_scenario.specs.Scenario.Kept.{HasSlots}
use Rattle.fk_scenario.specs.Entries.Kept.{ArePairs}
use Rattle.fk_served.proofs.Acts.{servers_ask_as_users as asked_as_users}
use Rattle.laws_house.specs.Transparency.{NamesSlots}
use Rattle.laws_house.proofs.Transparency.{jobs_name_users_slots}
use Rattle.laws_first.specs.Users.{ServersAskAsUsers, ScenarioJobsNameUsersSlots}

pub servers_ask_as_users : ServersAskAsUsers
servers_ask_as_users jobs services w who ask e = asked_as_users services w who ask e

user_pairs : (pairs : List (ℕ × ℕ)) → ArePairs pairs → are_user_pairs pairs ≡ true
user_pairs [] all = refl
user_pairs (p ∷ ps) all =
    let (a, b) = All-head (λ (p : ℕ × ℕ). (p.0 ≤ 239) × (p.1 ≤ 239)) p ps all in
    rw (le-leb p.0 239 a, le-leb p.1 239 b) (user_pairs ps (All-tail (λ (p : ℕ × ℕ). (p.0 ≤ 239) × (p.1 ≤ 239)) p ps all))

-- as the reader has seen
names : (spec : JobSpec) → HasSlots spec → NamesSlots spec
names (specs_of.Checkpoint moment nester path slot image) has = has.1
names (specs_of.Restore moment nester slot image bind) has = (has.0, user_pairs bind has.1)

all_names : (specs : List JobSpec) → All HasSlots specs → All NamesSlots specs
all_names [] has = All-nil NamesSlots
all_names (spec ∷ specs) has =
    All-cons NamesSlots spec specs (names spec (All-head HasSlots spec specs has)) (all_names specs (All-tail HasSlots spec specs has))

pub scenario_jobs_name_users_slots : ScenarioJobsNameUsersSlots
scenario_jobs_name_users_slots s keeps images = jobs_name_users_slots s.jobs images (all_names s.jobs keeps.jobs)
