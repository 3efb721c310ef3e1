use Rattle.std.proofs.Common.{◌≡◌, Some, subst}
use Rattle.fk_model.specs.Valid.{birth_at}
use Rattle.fk_model.specs.Who.{space_born}
use Rattle.std.specs.Bool.{OnTrue, OnFalse}
use Rattle.fk_kernel.specs.Kernels.{world_of}
use Rattle.fk_burst.proofs.InBurst.Currents.{on-true-by, on-false-by}
use Rattle.fk_burst.specs.Burst.Commits.{MayCommit}
use Rattle.fk_burst.specs.Burst.Lease.{Lease}
use Rattle.fk_burst.proofs.burst.commits.may_commit.Goals as goal

pub is_current-requires-clause-first : goal.is_current-requires-clause-first
is_current-requires-clause-first c = c.l.invariant.first

pub is_current-requires-clause-begins : goal.is_current-requires-clause-begins
is_current-requires-clause-begins c = c.l.invariant.begins

pub returns-then-is_within-clause-may : goal.returns-then-is_within-clause-may
returns-then-is_within-clause-may c =
    let l : Lease = record { thread = c.l.inside.thread; taken = c.l.inside.taken; copy = c.l.inside.copy; count = c.l.inside.count } in
    subst (λ (x : Lease). OnTrue c.is_current.result (MayCommit (world_of c.args.k.now) x c.args.left)) c.l.view_is
    (on-true-by c.is_current.result _ (MayCommit (world_of c.args.k.now) l c.args.left) c.is_current.ensures.current
    (λ current. (current, c.is_within.ensures.0 c.if-is_within.true)))

pub returns-then-is_within-clause-space : goal.returns-then-is_within-clause-space
returns-then-is_within-clause-space c =
    subst (λ (x : Lease). OnTrue c.is_current.result
    (birth_at (world_of c.args.k.now) (space_born (world_of c.args.k.now) x.thread.space) ≡ Some x.thread.space)) c.l.view_is c.is_current.ensures.space

pub returns-then-is_within-clause-may_not : goal.returns-then-is_within-clause-may_not
returns-then-is_within-clause-may_not c =
    let l : Lease = record { thread = c.l.inside.thread; taken = c.l.inside.taken; copy = c.l.inside.copy; count = c.l.inside.count } in
    subst (λ (x : Lease). OnFalse c.is_current.result (MayCommit (world_of c.args.k.now) x c.args.left → ⊥)) c.l.view_is
    (on-false-by c.is_current.result _ (MayCommit (world_of c.args.k.now) l c.args.left → ⊥) c.is_current.ensures.other (λ apart may. apart may.0))

pub returns-else-is_within-clause-may_not : goal.returns-else-is_within-clause-may_not
returns-else-is_within-clause-may_not c =
    subst (λ (x : Lease). MayCommit (world_of c.args.k.now) x c.args.left → ⊥) c.l.view_is
    (λ may. let so = c.is_within.ensures.1 may.1 in let isnt = c.if-is_within.false in cc)
