use Rattle.std.proofs.Common.{sym, ap, ◌∙◌, is_some}
use Rattle.fk_store.proofs.InStore.finding.LookUps.{page-path}
use Rattle.fk_store.proofs.InStore.changing.PageLaws.{put_page-kept, put_word-long, put_page-world, kinds-pages, paths-pages}
use Rattle.fk_store.proofs.store.store.Store.put_word.Goals as goal

pub put_word-requires-clause-there : goal.put_word-requires-clause-there
put_word-requires-clause-there c = ap is_some (sym (page-path _ c.self.invariant c.args.space c.args.page)) ∙ (rw (← c.self.view_is) at c.requires.there)

pub invariant_of-self : goal.invariant_of-self
invariant_of-self c =
    let there = ap is_some (sym (page-path _ c.self.invariant c.args.space c.args.page)) ∙ (rw (← c.self.view_is) at c.requires.there) in
    rw c.put_word.ensures (put_page-kept _ c.self.invariant c.args.space c.args.page
    _ (rw (← c.self.view_is) at c.requires.space) (put_word-long _ c.self.invariant c.args.space c.args.page c.args.at c.args.word there))

pub returns : goal.returns
returns c = rw (← c.self.view_is) (record {
  world = rw (c.put_word.ensures, page-path _ c.self.invariant c.args.space c.args.page)
      (put_page-world _ c.self.invariant c.args.space c.args.page _ (rw (← c.self.view_is) at c.requires.space));
  kinds = kinds-pages _ c.self.invariant c.put_word.new.self;
  paths = paths-pages _ c.self.invariant c.put_word.new.self;
})
