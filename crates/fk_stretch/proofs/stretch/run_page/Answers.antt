use Rattle.std.proofs.Common.{◌≡◌, Some, sym, ap, subst, ◌∙◌, arith}
use Rattle.std.proofs.lemmas.Bool.{OnTrue_at, OnFalse_at}
use Rattle.fk_store.specs.Store.Contents.{Contents}
use Rattle.fk_store.specs.Store.Paths.{path}
use Rattle.fk_store.specs.Store.World.{world}
use Rattle.laws_bursts.specs.Bursts.{made}
use Rattle.fk_stretch.specs.declared.running.Running.{Running}
use Rattle.fk_stretch.specs.Stretches.{burst_in, Rewrites}
use Rattle.fk_stretch.specs.Stretches.Rewrites.{Stays}
use Rattle.fk_stretch.proofs.Steps.{none_made, one_more, stored}
use Rattle.fk_stretch.proofs.Written.{one_written}
use Rattle.fk_stretch.proofs.stretch.run_page.Goals as goal

pub run_in-come-requires : goal.run_in-come-requires
run_in-come-requires c = record { there = c.in-Some.ensures }

pub returns-in_default-clause-made : goal.returns-in_default-clause-made
returns-in_default-clause-made c = none_made _

pub returns-in_default-clause-rewrites : goal.returns-in_default-clause-rewrites
returns-in_default-clause-rewrites c = Stays

pub returns-in_default-stores-clause-rewrites : goal.returns-in_default-stores-clause-rewrites
returns-in_default-stores-clause-rewrites c = Stays

pub returns-then-not-put_word-clause-made : goal.returns-then-not-put_word-clause-made
returns-then-not-put_word-clause-made c =
    let m = c.args.store.now in
    let t : Running = c.run_in-come.new.running in
    subst (λ (n : Contents). made c.run_in-come.result.made (burst_in (world m) (path m c.args.space) c.args.running.now)
    ≡ Some (burst_in (world n) (path m c.args.space) t)) (sym (OnFalse_at c.if-not-put_word.true c.put_word.ensures.same)) c.run_in-come.ensures.made

pub returns-then-not-put_word-clause-none : goal.returns-then-not-put_word-clause-none
returns-then-not-put_word-clause-none c none = OnFalse_at c.if-not-put_word.true c.put_word.ensures.same

pub returns-then-not-put_word-clause-rewrites : goal.returns-then-not-put_word-clause-rewrites
returns-then-not-put_word-clause-rewrites c =
    let m = c.args.store.now in
    subst (λ (n : Contents). Rewrites (path m c.args.space) (world m) (world n)) (sym (OnFalse_at c.if-not-put_word.true c.put_word.ensures.same)) Stays

pub overflow_add-result : goal.overflow_add-result
overflow_add-result c =
    let next = rw c.in-Some-stores.is at c.run_in-come.ensures.stores in
    let less = next.0 in
    omega (arith, less)

pub returns-clause-made : goal.returns-clause-made
returns-clause-made c =
    let m = c.args.store.now in
    let n = c.put_word.new.store in
    let t : Running = c.run_in-come.new.running in
    let storing = c.in-Some-stores.storing in
    let next = rw c.in-Some-stores.is at c.run_in-come.ensures.stores in
    one_more c.run_in-come.result.made _ _ _ c.run_in-come.ensures.made
    (stored (world m) (path m c.args.space) (world n) t storing.address storing.value next.1
    (OnTrue_at c.if-not-put_word.false c.put_word.ensures.written)
    ∙ ap (λ (t : Running). Some (burst_in (world n) (path m c.args.space) t)) (sym c.pass.ensures))

pub returns-clause-few : goal.returns-clause-few
returns-clause-few c =
    let next = rw c.in-Some-stores.is at c.run_in-come.ensures.stores in
    let less = next.0 in
    omega (arith, less)

pub returns-clause-none : goal.returns-clause-none
returns-clause-none c none = absurd (omega (arith, none))

pub returns-clause-rewrites : goal.returns-clause-rewrites
returns-clause-rewrites c =
    let m = c.args.store.now in
    let storing = c.in-Some-stores.storing in
    one_written (path m c.args.space) (world m) (world c.put_word.new.store) storing.address storing.value
    (OnTrue_at c.if-not-put_word.false c.put_word.ensures.written)
