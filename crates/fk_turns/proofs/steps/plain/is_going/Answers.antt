use Rattle.std.proofs.Common.{sym}
use Rattle.fk_store.specs.Store.Paths.{path}
use Rattle.fk_store.specs.Store.World.{world}
use Rattle.fk_turns.specs.Steps.Steps.{keeps_on}
use Rattle.fk_turns.proofs.InSteps.Went.{keeps_going, keeps_up, keeps_user, on_going}
use Rattle.fk_turns.proofs.steps.plain.is_going.Goals as goal

pub returns-in-Some-clause-up : goal.returns-in-Some-clause-up
returns-in-Some-clause-up c =
    let m = c.args.store.now in
    let who = c.args.who in
    let thread = c.in-Some.thread.now in
    let there = rw c.in-Some.is at c.thread.ensures.thread in
    on_going c.keeps_on.result (keeps_on c.args.ran thread) c.keeps_on.ensures
    (λ keeps. keeps_up (world m) who.slot (path m who.space) (path m) c.args.ran thread (sym there) keeps (c.is_any_held.ensures c.if-is_any_held.false))

pub returns-in-Some-clause-user : goal.returns-in-Some-clause-user
returns-in-Some-clause-user c =
    let m = c.args.store.now in
    let who = c.args.who in
    let thread = c.in-Some.thread.now in
    let there = rw c.in-Some.is at c.thread.ensures.thread in
    on_going c.keeps_on.result (keeps_on c.args.ran thread) c.keeps_on.ensures
    (λ keeps. keeps_user (world m) who.slot (path m who.space) (path m) c.args.ran thread (sym there) keeps)

pub returns-in-Some-clause-on : goal.returns-in-Some-clause-on
returns-in-Some-clause-on c =
    let m = c.args.store.now in
    let who = c.args.who in
    let thread = c.in-Some.thread.now in
    let there = rw c.in-Some.is at c.thread.ensures.thread in
    on_going c.keeps_on.result (keeps_on c.args.ran thread) c.keeps_on.ensures
    (λ keeps so. keeps_going (world m) who.slot (path m who.space) (path m) c.args.ran thread (sym there) keeps so)
