use Rattle.std.proofs.Common.{◌≡◌, ℕ, true, subst}
use Rattle.std.specs.Bool.{OnTrue}
use Rattle.fk_model.specs.Places.{Path}
use Rattle.fk_model.specs.Searches.{thread_at}
use Rattle.fk_plans.specs.Plans.Effects.{is_running}
use Rattle.fk_store.specs.Store.Paths.{place}
use Rattle.fk_store.specs.Store.World.{world}
use Rattle.fk_turns.specs.Steps.Waiting.{standing}
use Rattle.fk_kernel.proofs.Endings.{made-proceeded}
use Rattle.fk_kernel.proofs.Kept.{same-false}
use Rattle.fk_kernel.proofs.kernel.Kernel.enter.Goals as goal

pub invariant_of-self : goal.invariant_of-self
invariant_of-self c = record { valid = c.enter.ensures.valid; kept = c.enter.ensures.kept }

pub returns-clause-made : goal.returns-clause-made
returns-clause-made c =
    let made = made-proceeded c.self.inside.store c.enter.new.store c.args.thread c.names.ensures.born c.enter.result c.enter.ensures.made in
    rw (← c.self.view_is) made

pub returns-clause-ran : goal.returns-clause-ran
returns-clause-ran c =
    let m = c.self.inside.store in
    let ran = subst (λ (p : ℕ → Path). OnTrue c.enter.result (is_running (thread_at (world m) (place p c.args.thread)) ≡ true)) c.names.ensures.born
    c.enter.ensures.ran in
    rw (← c.self.view_is) ran

pub returns-clause-same : goal.returns-clause-same
returns-clause-same c =
    let inside = c.self.inside in
    let same = same-false inside.store c.enter.new.store (standing inside.turns.waits) (standing c.enter.new.turns.waits) c.enter.result c.enter.ensures.same
    c.enter.ensures.still in
    rw (← c.self.view_is) same
