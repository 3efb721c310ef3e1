use Rattle.std.proofs.Common.{ℕ, sym, ap, ◌∙◌, arith}
use Rattle.fk_model.specs.Objects.Mode.{Running}
use Rattle.fk_model.specs.Places.{Path}
use Rattle.fk_model.specs.World.{apply}
use Rattle.fk_model.specs.World.Change.{Alter}
use Rattle.fk_model.specs.World.Edit.{Proceed}
use Rattle.fk_store.specs.Store.Bodies.{thread_by}
use Rattle.fk_store.specs.Store.Paths.{path, place}
use Rattle.fk_store.specs.Store.World.{world}
use Rattle.fk_stretch.proofs.Written.{free_thread}
use Rattle.fk_stretch.proofs.stretch.run.Goals as goal

pub run_beside-made-requires : goal.run_beside-made-requires
run_beside-made-requires c = record { space = c.is_free.ensures.space c.if-not-is_free.false }

pub returns-clause-stretch : goal.returns-clause-stretch
returns-clause-stretch c some =
    let m = c.args.store.now in
    let made = c.run_beside-made in
    let runs = c.in-Some-running_of.ensures in
    let thread = thread_by (path m) c.in-Some.thread.now in
    record {
      thread = thread;
      there = sym c.in-Some.ensures.thread;
      free = free_thread (world m) (place (path m) c.args.who) thread (sym c.is_free.ensures.free ∙ c.if-not-is_free.false) (sym c.in-Some.ensures.thread);
      from = c.in-Some-running_of.running;
      to = made.new.running;
      mode = runs.mode;
      counter = runs.counter;
      middle = world made.new.store;
      rewrites = made.ensures.rewrites;
      makes = made.ensures.made;
      goes = c.proceed.ensures.world
          ∙ ap (λ (p : ℕ → Path). apply (Alter (place p c.args.who) (Proceed (Running made.new.running.registers) made.new.running.counter)) (world made.new.store))
          made.ensures.paths;
    }

pub returns-clause-none : goal.returns-clause-none
returns-clause-none c none = absurd (omega (arith, none))
