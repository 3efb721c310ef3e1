use Rattle.std.proofs.Common.{◌≡◌, ℕ, true, All, None, sym, ap, subst, ◌∙◌}
use Rattle.fk_model.specs.declared.moves.Ask.TheVariants as asks
use Rattle.fk_model.specs.Moves.{IsReady}
use Rattle.fk_model.specs.Objects.Mode.{Running}
use Rattle.fk_model.specs.Places.{Path}
use Rattle.fk_model.specs.Valid.{IsValid}
use Rattle.fk_model.specs.World.{apply}
use Rattle.fk_model.specs.World.Change.{Alter}
use Rattle.fk_model.specs.World.Edit.{Proceed}
use Rattle.fk_store.specs.Store.Paths.{path, place}
use Rattle.fk_store.specs.Store.World.{world}
use Rattle.fk_turns.specs.Steps.Kept.{is_user_at}
use Rattle.fk_turns.specs.Steps.Told.{IsStored}
use Rattle.fk_turns.proofs.InSteps.Went.{free_when_ready}
use Rattle.laws_moves.specs.Users.Stood.{is_users_at}
use Rattle.fk_kernel.specs.Replaced.{rewritten, IsPageThere}
use Rattle.fk_kernel.proofs.Quietly.{pages_stay, replaced_stays, runs_at}
use Rattle.fk_kernel.proofs.Replacing.{valid-proceeded, valid-rewritten}
use Rattle.fk_kernel.proofs.Rewrote.{leaves_whys, moved_rewritten, others_stay, quiet_rewritten, rewritten_leaves, room_rewritten, user_running, user_stays}
use Rattle.fk_kernel.proofs.kernel.Kernel.replace.Goals as goal

pub after_still-requires : goal.after_still-requires
after_still-requires c =
    let m = c.self.inside.store in
    let was = c.self.inside.turns in
    let n = c.proceed.new.self in
    let thread = c.args.thread in
    let stored : IsStored m = record {
      valid = c.self.invariant.valid;
      born = rw (sym c.self.view_is) at c.names.ensures.born;
      few = rw (sym c.self.view_is) at c.names.ensures.few;
    } in
    let paths : path n ≡ path m = c.proceed.ensures.paths ∙ c.rewrite.ensures.paths in
    let is : world n ≡ apply (Alter (place (path m) thread) (Proceed (Running c.args.regs.now) c.args.pc)) (rewritten (path m) c.args.pages.now (world m)) =
    c.proceed.ensures.world
    ∙ (λ i. apply (Alter (place (c.rewrite.ensures.paths i) thread) (Proceed (Running c.args.regs.now) c.args.pc)) (c.rewrite.ensures.world i)) in
    let u = rewritten (path m) c.args.pages.now (world m) in
    let leaves = rewritten_leaves (path m) c.args.pages.now (world m) in
    let others = others_stay (world m) u (world n) leaves (place (path m) thread) c.args.regs.now c.args.pc is in
    let user : is_user_at m thread ≡ true = user_running m thread stored.born (rw (sym c.self.view_is) at c.requires.running) in
    let still : is_user_at n thread ≡ true = ap (λ (p : ℕ → Path). is_users_at (world n) (place p thread)) paths
    ∙ user_stays (world m) u (world n) leaves (place (path m) thread) c.args.regs.now c.args.pc is user in
    let left = leaves_whys (world m) u (world n) leaves (place (path m) thread) c.args.regs.now c.args.pc is in
    let there = rw (sym c.self.view_is) at c.requires.pages in
    let all : All (IsPageThere (path m) (world m)) c.args.pages.now =
    subst (λ (p : ℕ → Path). All (IsPageThere p (world m)) c.args.pages.now) (sym stored.born) there in
    let rewrites : IsValid (world c.rewrite.new.store) = subst IsValid (sym c.rewrite.ensures.world)
    (valid-rewritten (path m) c.args.pages.now (world m) all c.self.invariant.valid) in
    let runs = runs_at m thread stored.born (rw (sym c.self.view_is) at c.requires.running) in
    let reasons = replaced_stays (world m) u (world n) (place (path m) thread) c.args.regs.now c.args.pc is leaves.bodies runs
    (λ x r stuck apart. pages_stay (path m) c.args.pages.now (world m) (place (path m) thread) x r all stuck apart) in
    let ready : IsReady (world m) (place (path m) thread) None asks.Run =
    subst (λ (p : ℕ → Path). IsReady (world m) (place p thread) None asks.Run) (sym stored.born) (rw (sym c.self.view_is) at c.requires.ready) in
    let goes = moved_rewritten m n thread stored paths others user still left in
    record {
      valid = subst IsValid (sym c.proceed.ensures.world) (valid-proceeded (world c.rewrite.new.store) _ _ _ rewrites);
      quiet = λ so alone on. record {
        before = m;
        kept = c.self.invariant.kept;
        free = free_when_ready m was.waits was.marks thread None c.self.invariant.valid stored.few c.self.invariant.kept ready;
        moved = goes;
        quiet = quiet_rewritten m n thread stored paths others user still left reasons;
      };
      comes = record {
        before = m;
        kept = c.self.invariant.kept;
        moved = goes;
        room = room_rewritten m n thread stored paths others user still left was.waits was.marks c.self.invariant.kept;
      };
    }

pub invariant_of-self : goal.invariant_of-self
invariant_of-self c =
    let m = c.self.inside.store in
    let n = c.proceed.new.self in
    let stored : IsStored m = record {
      valid = c.self.invariant.valid;
      born = rw (sym c.self.view_is) at c.names.ensures.born;
      few = rw (sym c.self.view_is) at c.names.ensures.few;
    } in
    let there = rw (sym c.self.view_is) at c.requires.pages in
    let all : All (IsPageThere (path m) (world m)) c.args.pages.now =
    subst (λ (p : ℕ → Path). All (IsPageThere p (world m)) c.args.pages.now) (sym stored.born) there in
    let valid : IsValid (world c.rewrite.new.store) = subst IsValid (sym c.rewrite.ensures.world)
    (valid-rewritten (path m) c.args.pages.now (world m) all c.self.invariant.valid) in
    record {
      valid = subst IsValid (sym c.proceed.ensures.world) (valid-proceeded (world c.rewrite.new.store) _ _ _ valid);
      kept = c.after_still.ensures.kept;
    }
