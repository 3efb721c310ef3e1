use Rattle.std.proofs.Common.{◌≡◌, ◌+◌, ◌-◌, ◌<◌, None, option_map, is_some, sym, ap, ◌∙◌, arith}
use Rattle.fk_model.specs.declared.names.Who.{Who}
use Rattle.fk_model.specs.Searches.{depth, first_resident, leaf_by}
use Rattle.fk_store.specs.Store.Contents.{Contents}
use Rattle.fk_store.specs.Store.World.{world, place_of}
use Rattle.fk_store.proofs.InStore.changing.Residents.{leaf-begins, leaf-goes_on, leaf-ends, some-resident}
use Rattle.fk_store.proofs.store.store.Store.leaf.Goals as goal

next_is : (m n : Contents) → m ≡ n → (world n).next ≡ m.next
unfolding world
next_is m n same = ap (λ (m : Contents). m.next) (sym same)

pub loop-step-init : goal.loop-step-init
loop-step-init c = record {
  same = leaf-begins _ _;
  deep = omega arith;
  born = λ some. absurd (omega arith);
  live = λ live. live;
}

pub returns-in-None : goal.returns-in-None
returns-in-None c =
    let none : first_resident (world c.args.self.now) (place_of c.args.self.now c.loop-step.at) ≡ None =
    sym c.lowest_in.ensures.slot ∙ ap (option_map (λ (inner : Who). inner.slot)) c.in-None.is in
    record {
      leaf = sym (leaf-ends (depth - c.loop-step._step) _ _ none) ∙ c.loop-step.invariant.same;
      empty = sym (some-resident (world c.args.self.now) (place_of c.args.self.now c.loop-step.at)) ∙ ap is_some none;
      live = c.loop-step.invariant.live;
    }

pub loop-step-preserved : goal.loop-step-preserved
loop-step-preserved c =
    let low : c.loop-step._step < depth = omega arith in
    record {
      same = ap (leaf_by (depth - (c.loop-step._step + 1)) (world c.args.self.now)) c.in-Some.ensures.place
          ∙ sym (leaf-goes_on _ _ c.in-Some.inner.slot c.loop-step._step (sym c.in-Some.ensures.slot) low)
          ∙ c.loop-step.invariant.same;
      deep = omega (arith, c.loop-step.invariant.deep, c.in-Some.ensures.younger.0);
      born = λ some. c.in-Some.ensures.younger.1;
      live = λ live. c.in-Some.ensures.live;
    }

-- there are no more spaces than birth numbers
pub returns : goal.returns
returns c =
    let next = next_is _ _ c.self.view_is in
    let some : 0 < c.loop-step._step = omega (arith, c.self.invariant.begun) in
    let low = c.loop-step.invariant.born some in
    absurd (omega (arith, next, low, c.loop-step.invariant.deep))
