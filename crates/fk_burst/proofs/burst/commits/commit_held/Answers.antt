use Rattle.std.proofs.Common.{◌≡◌, Some, None, replicate, sym, subst}
use Rattle.std.proofs.lemmas.Bool.{OnTrue_at}
use Rattle.fk_model.specs.Valid.{birth_at}
use Rattle.fk_model.specs.Who.{named, space_born}
use Rattle.fk_kernel.specs.Kernels.{world_of}
use Rattle.laws_bursts.specs.Laws.{move_of, LeadQuietly}
use Rattle.laws_turns.specs.Quiet.{LeadRunning}
use Rattle.fk_burst.specs.Burst.Commits.{MayCommit}
use Rattle.fk_burst.specs.Burst.Lease.{Lease}
use Rattle.fk_burst.proofs.InBurst.Currents.{has-used, leads, leads-running, low-pages, pages-there}
use Rattle.fk_burst.proofs.burst.commits.commit_held.Goals as goal

pub put_back-requires-clause-low : goal.put_back-requires-clause-low
put_back-requires-clause-low c =
    let w = world_of c.args.k.now in
    let l : Lease = record { thread = c.l.inside.thread; taken = c.l.inside.taken; copy = c.l.inside.copy; count = c.l.inside.count } in
    let may : MayCommit w l c.args.left = subst (λ (x : Lease). MayCommit w x c.args.left) (sym c.l.view_is)
    (OnTrue_at c.if-may_commit.true c.may_commit.ensures.may) in
    low-pages w l c.names.ensures.valid c.l.invariant may.0 c.places.ensures

pub put_back-requires-clause-running : goal.put_back-requires-clause-running
put_back-requires-clause-running c =
    let w = world_of c.args.k.now in
    let l : Lease = record { thread = c.l.inside.thread; taken = c.l.inside.taken; copy = c.l.inside.copy; count = c.l.inside.count } in
    let may : MayCommit w l c.args.left = subst (λ (x : Lease). MayCommit w x c.args.left) (sym c.l.view_is)
    (OnTrue_at c.if-may_commit.true c.may_commit.ensures.may) in
    may.0.ready.0

pub put_back-requires-clause-ready : goal.put_back-requires-clause-ready
put_back-requires-clause-ready c =
    let w = world_of c.args.k.now in
    let l : Lease = record { thread = c.l.inside.thread; taken = c.l.inside.taken; copy = c.l.inside.copy; count = c.l.inside.count } in
    let may : MayCommit w l c.args.left = subst (λ (x : Lease). MayCommit w x c.args.left) (sym c.l.view_is)
    (OnTrue_at c.if-may_commit.true c.may_commit.ensures.may) in
    may.0.ready.1

pub put_back-requires-clause-there : goal.put_back-requires-clause-there
put_back-requires-clause-there c =
    let w = world_of c.args.k.now in
    let l : Lease = record { thread = c.l.inside.thread; taken = c.l.inside.taken; copy = c.l.inside.copy; count = c.l.inside.count } in
    let may : MayCommit w l c.args.left = subst (λ (x : Lease). MayCommit w x c.args.left) (sym c.l.view_is)
    (OnTrue_at c.if-may_commit.true c.may_commit.ensures.may) in
    let space = subst (λ (x : Lease). birth_at w (space_born w x.thread.space) ≡ Some x.thread.space) (sym c.l.view_is)
    (OnTrue_at c.if-may_commit.true c.may_commit.ensures.space) in
    pages-there w l c.names.ensures.valid c.l.invariant may.0 c.places.ensures space 4

pub put_back-requires-clause-has : goal.put_back-requires-clause-has
put_back-requires-clause-has c =
    let w = world_of c.args.k.now in
    let l : Lease = record { thread = c.l.inside.thread; taken = c.l.inside.taken; copy = c.l.inside.copy; count = c.l.inside.count } in
    let may : MayCommit w l c.args.left = subst (λ (x : Lease). MayCommit w x c.args.left) (sym c.l.view_is)
    (OnTrue_at c.if-may_commit.true c.may_commit.ensures.may) in
    has-used w l c.names.ensures.valid c.l.invariant may.0 c.places.ensures

pub returns-then-may_commit-clause-moves : goal.returns-then-may_commit-clause-moves
returns-then-may_commit-clause-moves c =
    let w = world_of c.args.k.now in
    let v = world_of c.put_back.new.k in
    let l : Lease = record { thread = c.l.inside.thread; taken = c.l.inside.taken; copy = c.l.inside.copy; count = c.l.inside.count } in
    let may : MayCommit w l c.args.left = subst (λ (x : Lease). MayCommit w x c.args.left) (sym c.l.view_is)
    (OnTrue_at c.if-may_commit.true c.may_commit.ensures.may) in
    subst (λ (x : Lease). LeadQuietly w (replicate x.count (move_of (named w x.thread))) v) c.l.view_is
    (leads w l c.names.ensures.valid c.l.invariant may.0 c.places.ensures v c.put_back.ensures)

pub returns-then-may_commit-clause-running : goal.returns-then-may_commit-clause-running
returns-then-may_commit-clause-running c =
    let w = world_of c.args.k.now in
    let v = world_of c.put_back.new.k in
    let l : Lease = record { thread = c.l.inside.thread; taken = c.l.inside.taken; copy = c.l.inside.copy; count = c.l.inside.count } in
    let may : MayCommit w l c.args.left = subst (λ (x : Lease). MayCommit w x c.args.left) (sym c.l.view_is)
    (OnTrue_at c.if-may_commit.true c.may_commit.ensures.may) in
    subst (λ (x : Lease). LeadRunning (record { who = x.thread; pick = None }) x.count w v) c.l.view_is
    (leads-running w l c.names.ensures.valid c.l.invariant may.0 c.places.ensures v c.put_back.ensures)
