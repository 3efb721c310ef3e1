-- The runs of the program are transparent.
use Rattle.std.proofs.Common.{subst}
use Rattle.fk_served.specs.Served.{servers}
use Rattle.laws_moves.specs.Savable.Savable.{IsSound}
use Rattle.laws_house.specs.Houses.{jobs_of}
use Rattle.laws_house.proofs.Transparency.{runs_transparent}
use Rattle.laws_first.specs.Programs.{ProgramsAreGrounded, ProgramsRunTransparently}
use Rattle.laws_first.proofs.Apart.{jobs_save_users_alone}
use Rattle.laws_first.proofs.Users.{servers_ask_as_users, scenario_jobs_name_users_slots}
use Rattle.laws_first.proofs.Grounded.{scenarios_are_grounded}

pub programs_are_grounded : ProgramsAreGrounded
programs_are_grounded s images first past keeps world sound ends work events within =
    scenarios_are_grounded s (jobs_of s.jobs images) servers first past (record {
      keeps = keeps;
      world = world;
      sound = subst IsSound world sound;
      ends = ends;
      work = work;
      events = events;
      users = servers_ask_as_users (jobs_of s.jobs images);
      slots = scenario_jobs_name_users_slots s keeps images;
      alone = jobs_save_users_alone s keeps images;
    }) within

pub programs_run_transparently : ProgramsRunTransparently
programs_run_transparently s images first c past run keeps world sound ends work events within =
    runs_transparent (jobs_of s.jobs images) servers first c past run
    (programs_are_grounded s images first past keeps world sound ends work events within)
