use Rattle.fk_cut.proofs.InClosing.Ways.{never_out, steps_up, gone_on, on_root, whole_path}
use Rattle.std.proofs.Common.{◌++◌, ap, sym, ◌∙◌}
use Rattle.fk_store.specs.Store.Paths.{path}
use Rattle.fk_store.specs.Store.World.{place_of}
use Rattle.fk_cut.proofs.closing.above.way_up.Goals as goal

pub returns-in-None : goal.returns-in-None
returns-in-None c = λ q is. absurd (never_out c.args.store.now c.args.root c.args.who c.loop-root.at c.requires.own q is c.loop-root.invariant.same
    c.loop-root-test.ensures c.in-None.ensures.root)

pub loop-root-preserved : goal.loop-root-preserved
loop-root-preserved c = record {
  live = c.in-Some.ensures.live;
  gone = ap (λ p. p ++ place_of c.args.store.now c.in-Some.space) c.in_ok-push.ensures.items
      ∙ gone_on c.loop-root.path.items c.loop-root.at.slot (path c.args.store.now c.loop-root.at.space)
      (place_of c.args.store.now c.in-Some.space)
      (place_of c.args.store.now c.args.who) c.loop-root.invariant.gone c.in-Some.ensures.place;
  same = steps_up c.args.store.now c.args.root c.args.who c.loop-root.at c.requires.own c.loop-root.invariant.same c.loop-root-test.ensures
      c.in-Some.space c.in-Some.ensures.place;
}

pub returns : goal.returns
returns c = λ q is. whole_path q c.loop-root.path.items (place_of c.args.store.now c.args.root) (place_of c.args.store.now c.args.who)
    (ap (λ p. c.loop-root.path.items ++ p) (sym (on_root (path c.args.store.now) c.args.root c.loop-root.at c.requires.own c.loop-root-test.ensures))
    ∙ c.loop-root.invariant.gone) is
