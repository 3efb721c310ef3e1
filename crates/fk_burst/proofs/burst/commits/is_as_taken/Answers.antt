use Rattle.std.proofs.Common.{refl}
use Rattle.fk_burst.proofs.InBurst.Currents.{is-current, current-registers, current-counter, current-pages, on-true-any, on-false-by, space-born}
use Rattle.fk_burst.proofs.InBurst.Leasing.{nobody_runs}
use Rattle.fk_burst.proofs.InCopies.Places.{on-true}
use Rattle.fk_store.specs.Store.World.{world}
use Rattle.fk_burst.specs.Burst.Commits.{IsCurrent}
use Rattle.fk_burst.proofs.burst.commits.is_as_taken.Goals as goal

pub returns-then-has_words-clause-current : goal.returns-then-has_words-clause-current
returns-then-has_words-clause-current c =
    let same = c.has_words.ensures.0 c.if-has_words.true in
    on-true _ _ _ (is-current c.args.store.now c.args.thread c.args.taken.now c.args.now.now c.requires.born c.requires.ready c.in-Some.there.now
    c.in-Some.ensures.thread same.0 same.1) c.has_pages.ensures.same

pub returns-then-has_words-clause-space : goal.returns-then-has_words-clause-space
returns-then-has_words-clause-space c =
    on-true-any _ _ (space-born c.args.store.now c.args.thread.space c.requires.born (c.in-Some.ensures.space refl))

pub returns-then-has_words-clause-other : goal.returns-then-has_words-clause-other
returns-then-has_words-clause-other c =
    on-false-by c.has_pages.result _ (IsCurrent (world c.args.store.now) c.args.thread c.args.taken.now c.args.now.now → ⊥) c.has_pages.ensures.other
    (λ apart current. apart (current-pages c.args.store.now c.args.thread c.args.taken.now c.args.now.now c.requires.born c.requires.ready
    c.in-Some.there.now c.in-Some.ensures.thread current))

pub returns-else-has_words-clause-other : goal.returns-else-has_words-clause-other
returns-else-has_words-clause-other c = λ current.
    let so = c.has_words.ensures.1 (
      current-registers c.args.store.now c.args.thread c.args.taken.now c.args.now.now c.requires.born c.requires.ready c.in-Some.there.now
          c.in-Some.ensures.thread current,
      current-counter c.args.store.now c.args.thread c.args.taken.now c.args.now.now c.requires.born c.requires.ready c.in-Some.there.now
          c.in-Some.ensures.thread current,
    ) in
    let isnt = c.if-has_words.false in
    cc

pub returns-in-None-clause-other : goal.returns-in-None-clause-other
returns-in-None-clause-other c = λ current. nobody_runs c.args.store.now c.args.thread c.requires.born current.ready.0 c.in-None.ensures.thread
