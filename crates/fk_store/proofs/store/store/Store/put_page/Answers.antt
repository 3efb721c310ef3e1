use Rattle.std.proofs.Common.{◌≡◌, length, refl, sym, ◌∙◌, is_some, ap, arith}
use Rattle.fk_model.specs.declared.limits.TheConstants.{PAGE_WORDS}
use Rattle.fk_store.proofs.InStore.finding.Results.{on_ok, on_err, on_both}
use Rattle.fk_store.proofs.InStore.finding.LookUps.{page-path}
use Rattle.fk_store.proofs.InStore.changing.PageLaws.{put_page-kept, put_page-world, kinds-pages, paths-pages}
use Rattle.fk_store.proofs.store.store.Store.put_page.Goals as goal

pub invariant_of-self : goal.invariant_of-self
invariant_of-self c =
    let live = rw (← c.self.view_is) at c.requires in
    let long : length c.args.words.now ≡ PAGE_WORDS = omega arith in
    on_both c.put.result _ _ _
    (λ e. rw e (put_page-kept _ c.self.invariant c.args.space c.args.page c.args.words.now live long))
    (λ e. rw e c.self.invariant)
    c.put.ensures.ok c.put.ensures.err

pub returns : goal.returns
returns c =
    let live = rw (← c.self.view_is) at c.requires in
    rw (← c.self.view_is) (record {
      world = on_ok c.put.result _ _ (λ e. rw e (put_page-world _ c.self.invariant c.args.space c.args.page c.args.words.now live)) c.put.ensures.ok;
      there = λ some. c.put.ensures.there (ap is_some (sym (page-path _ c.self.invariant c.args.space c.args.page)) ∙ some);
      err = on_err c.put.result _ _ (λ e. rw e refl) c.put.ensures.err;
      kinds = kinds-pages _ c.self.invariant c.put.new.self;
      paths = paths-pages _ c.self.invariant c.put.new.self;
    })
