use Rattle.std.proofs.Common.{◌≡◌, ◌+◌, ℕ, Some, refl, subst, ◌∙◌, arith}
use Rattle.fk_model.specs.Places.{Path}
use Rattle.fk_store.specs.Store.Paths.{path}
use Rattle.fk_store.specs.Store.World.{world}
use Rattle.laws_bursts.specs.Bursts.{made}
use Rattle.fk_stretch.specs.Stretches.{burst_in, Rewrites}
use Rattle.fk_stretch.specs.Stretches.Rewrites.{Stays}
use Rattle.fk_stretch.proofs.Steps.{all_made, none_made}
use Rattle.fk_stretch.proofs.Written.{space_stays, then_writes}
use Rattle.fk_stretch.proofs.stretch.run_beside.Goals as goal

pub loop-init : goal.loop-init
loop-init c = record { makes = none_made _; few = omega arith; none = λ none. refl; rewrites = Stays; kinds = refl; paths = refl }

pub run_page-more-requires : goal.run_page-more-requires
run_page-more-requires c =
    let is = c.loop.invariant in
    record { space = space_stays c.args.store.now c.loop.store c.args.space is.rewrites is.paths c.requires.space }

pub returns-then-more-eq0-clause-made : goal.returns-then-more-eq0-clause-made
returns-then-more-eq0-clause-made c =
    let m = c.args.store.now in
    let n = c.run_page-more.new.store in
    let t = c.run_page-more.new.running in
    let is = c.loop.invariant in
    let none : c.loop.made + c.run_page-more.result ≡ c.loop.made = omega arith in
    let more = subst (λ (p : ℕ → Path). made c.run_page-more.result (burst_in (world c.loop.store) (p c.args.space) c.loop.running)
    ≡ Some (burst_in (world n) (p c.args.space) t)) is.paths c.run_page-more.ensures.made in
    subst (λ k. made k (burst_in (world m) (path m c.args.space) c.args.running.now) ≡ Some (burst_in (world n) (path m c.args.space) t)) none
    (all_made c.loop.made c.run_page-more.result _ _ _ is.makes more)

pub returns-then-more-eq0-clause-none : goal.returns-then-more-eq0-clause-none
returns-then-more-eq0-clause-none c none = c.run_page-more.ensures.none c.if-more-eq0.true ∙ c.loop.invariant.none none

pub returns-then-more-eq0-clause-rewrites : goal.returns-then-more-eq0-clause-rewrites
returns-then-more-eq0-clause-rewrites c =
    let is = c.loop.invariant in
    let w = world c.loop.store in
    let v = world c.run_page-more.new.store in
    then_writes _ _ _ _ is.rewrites
    (subst (λ (p : ℕ → Path). Rewrites (p c.args.space) w v) is.paths c.run_page-more.ensures.rewrites)

pub loop-preserved : goal.loop-preserved
loop-preserved c =
    let n = c.run_page-more.new.store in
    let is = c.loop.invariant in
    let more = subst (λ (p : ℕ → Path). made c.run_page-more.result (burst_in (world c.loop.store) (p c.args.space) c.loop.running)
    ≡ Some (burst_in (world n) (p c.args.space) c.run_page-more.new.running)) is.paths c.run_page-more.ensures.made in
    record {
      makes = all_made c.loop.made c.run_page-more.result _ _ _ is.makes more;
      few = omega (arith, is.few, c.run_page-more.ensures.few);
      none = λ none. absurd (omega (arith, none));
      rewrites = then_writes _ _ _ _ is.rewrites
          (subst (λ (p : ℕ → Path). Rewrites (p c.args.space) (world c.loop.store) (world n)) is.paths c.run_page-more.ensures.rewrites);
      kinds = c.run_page-more.ensures.kinds ∙ is.kinds;
      paths = c.run_page-more.ensures.paths ∙ is.paths;
    }

pub returns : goal.returns
returns c =
    let is = c.loop.invariant in
    record { made = is.makes; few = is.few; none = is.none; rewrites = is.rewrites; kinds = is.kinds; paths = is.paths }
