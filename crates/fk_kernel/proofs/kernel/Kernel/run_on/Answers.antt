use Rattle.std.proofs.Common.{◌≡◌, ◌<◌, ℕ, true, None, sym, ap, subst, ◌∙◌, arith}
use Rattle.fk_model.specs.declared.moves.Ask.TheVariants as asks
use Rattle.fk_model.specs.Moves.{IsReady}
use Rattle.fk_model.specs.Places.{Path}
use Rattle.fk_model.specs.Searches.{thread_at}
use Rattle.fk_model.specs.Valid.{IsValid}
use Rattle.fk_model.specs.Who.{named}
use Rattle.fk_plans.specs.Plans.Effects.{is_running}
use Rattle.fk_store.specs.Store.Contents.{Contents}
use Rattle.fk_store.specs.Store.Paths.{path, place}
use Rattle.fk_store.specs.Store.World.{world}
use Rattle.fk_stretch.specs.Stretches.{IsStretch}
use Rattle.fk_stretch.proofs.Written.{ready_first}
use Rattle.fk_turns.specs.Steps.Kept.{is_user_at}
use Rattle.fk_turns.specs.Steps.Told.{IsStored}
use Rattle.fk_turns.specs.Steps.Waiting.{standing}
use Rattle.fk_turns.proofs.InSteps.Went.{free_when_ready}
use Rattle.laws_moves.specs.Users.Stood.{is_users_at}
use Rattle.fk_kernel.proofs.Quietly.{replaced_stays, runs_at}
use Rattle.fk_kernel.proofs.Replacing.{valid-proceeded}
use Rattle.fk_kernel.proofs.Rewrote.{leaves_whys, moved_rewritten, others_stay, quiet_rewritten, room_rewritten, user_running, user_stays}
use Rattle.fk_kernel.specs.Kernels.{IsHeld}
use Rattle.fk_kernel.proofs.Kept.{kept_of}
use Rattle.fk_kernel.proofs.Stretched.{burst_named, runs_first, stuck_written, valid_written, written_leaves}
use Rattle.fk_kernel.proofs.kernel.Kernel.run_on.Goals as goal

pub after_still-requires : goal.after_still-requires
after_still-requires c =
    let m = c.self.inside.store in
    let was = c.self.inside.turns in
    let n = c.run-made.new.store in
    let thread = c.args.thread in
    let stored : IsStored m = record {
      valid = c.self.invariant.valid;
      born = c.names.ensures.born;
      few = c.names.ensures.few;
    } in
    let some : 0 < c.run-made.result = omega arith in
    let s : IsStretch (world m) (place (path m) thread) c.run-made.result (world n) = c.run-made.ensures.stretch some in
    let paths : path n ≡ path m = c.run-made.ensures.paths in
    let leaves = written_leaves _ (world m) s.middle s.rewrites in
    let others = others_stay (world m) s.middle (world n) leaves (place (path m) thread) s.to.registers s.to.counter s.goes in
    let running : is_running (thread_at (world m) (named (world m) thread)) ≡ true =
    subst (λ (p : ℕ → Path). is_running (thread_at (world m) (place p thread)) ≡ true) stored.born (runs_first _ _ _ _ s) in
    let user : is_user_at m thread ≡ true = user_running m thread stored.born running in
    let still : is_user_at n thread ≡ true = ap (λ (p : ℕ → Path). is_users_at (world n) (place p thread)) paths
    ∙ user_stays (world m) s.middle (world n) leaves (place (path m) thread) s.to.registers s.to.counter s.goes user in
    let left = leaves_whys (world m) s.middle (world n) leaves (place (path m) thread) s.to.registers s.to.counter s.goes in
    let runs = runs_at m thread stored.born running in
    let reasons = replaced_stays (world m) s.middle (world n) (place (path m) thread) s.to.registers s.to.counter s.goes leaves.bodies runs
    (stuck_written _ (world m) s.middle s.rewrites (place (path m) thread)) in
    let ready : IsReady (world m) (place (path m) thread) None asks.Run = ready_first _ _ _ _ _ c.self.invariant.valid.paged some s in
    let goes = moved_rewritten m n thread stored paths others user still left in
    record {
      valid = subst IsValid (sym s.goes) (valid-proceeded s.middle _ _ _ (valid_written _ (world m) s.middle s.rewrites c.self.invariant.valid));
      quiet = λ so alone on. record {
        before = m;
        kept = c.self.invariant.kept;
        free = free_when_ready m was.waits was.marks thread None c.self.invariant.valid stored.few c.self.invariant.kept ready;
        moved = goes;
        quiet = quiet_rewritten m n thread stored paths others user still left reasons;
      };
      comes = record {
        before = m;
        kept = c.self.invariant.kept;
        moved = goes;
        room = room_rewritten m n thread stored paths others user still left was.waits was.marks c.self.invariant.kept;
      };
    }

pub invariant_of-self-2 : goal.invariant_of-self-2
invariant_of-self-2 c =
    let m = c.self.inside.store in
    let some : 0 < c.run-made.result = omega arith in
    let s : IsStretch (world m) (place (path m) c.args.thread) c.run-made.result (world c.run-made.new.store) = c.run-made.ensures.stretch some in
    record {
      valid = subst IsValid (sym s.goes) (valid-proceeded s.middle _ _ _ (valid_written _ (world m) s.middle s.rewrites c.self.invariant.valid));
      kept = c.after_still.ensures.kept;
    }

-- where none was made all is as before
pub invariant_of-self : goal.invariant_of-self
invariant_of-self c =
    let was = c.self.inside.turns in
    subst (λ (n : Contents). IsHeld n was.waits was.marks) (sym (c.run-made.ensures.none c.if-made-eq0.true)) c.self.invariant

pub returns-then-made-eq0-clause-none : goal.returns-then-made-eq0-clause-none
returns-then-made-eq0-clause-none c none =
    rw (← c.self.view_is) (ap (λ (n : Contents). kept_of n (standing c.self.inside.turns.waits)) (c.run-made.ensures.none c.if-made-eq0.true))

pub returns-clause-ran : goal.returns-clause-ran
returns-clause-ran c some =
    let m = c.self.inside.store in
    let made = c.run-made in
    rw (← c.self.view_is) (burst_named (world m) (path m) c.args.thread made.result (world made.new.store) c.names.ensures.born c.self.invariant.valid.paged
    (made.ensures.stretch some))

pub returns-clause-none : goal.returns-clause-none
returns-clause-none c none = absurd (omega (arith, none))
