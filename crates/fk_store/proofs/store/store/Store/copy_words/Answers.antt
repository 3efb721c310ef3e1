use Rattle.std.proofs.Common.{sym, ap, ◌∙◌, is_some}
use Rattle.fk_store.proofs.InStore.finding.LookUps.{page-path}
use Rattle.fk_store.proofs.InStore.changing.PageLaws.{copy_words-long, put_page-kept, put_page-world, kinds-pages, paths-pages}
use Rattle.fk_store.proofs.store.store.Store.copy_words.Goals as goal

pub copy_words-requires-clause-from : goal.copy_words-requires-clause-from
copy_words-requires-clause-from c =
    ap is_some (sym (page-path _ c.self.invariant c.args.from.0 c.args.from.1)) ∙ (rw (← c.self.view_is) at c.requires.from)

pub copy_words-requires-clause-to : goal.copy_words-requires-clause-to
copy_words-requires-clause-to c = ap is_some (sym (page-path _ c.self.invariant c.args.to.0 c.args.to.1)) ∙ (rw (← c.self.view_is) at c.requires.to)

pub invariant_of-self : goal.invariant_of-self
invariant_of-self c =
    let there = ap is_some (sym (page-path _ c.self.invariant c.args.to.0 c.args.to.1)) ∙ (rw (← c.self.view_is) at c.requires.to) in
    rw c.copy_words.ensures (put_page-kept _ c.self.invariant c.args.to.0 c.args.to.1
    _ (rw (← c.self.view_is) at c.requires.space)
    (copy_words-long _ c.self.invariant c.args.to.0 c.args.to.1 c.args.into c.args.at c.args.count _ c.requires.into there))

pub returns : goal.returns
returns c = rw (← c.self.view_is) (record {
  world = rw (c.copy_words.ensures, page-path _ c.self.invariant c.args.to.0 c.args.to.1, page-path _ c.self.invariant c.args.from.0 c.args.from.1)
      (put_page-world _ c.self.invariant c.args.to.0 c.args.to.1 _ (rw (← c.self.view_is) at c.requires.space));
  kinds = kinds-pages _ c.self.invariant c.copy_words.new.self;
  paths = paths-pages _ c.self.invariant c.copy_words.new.self;
})
