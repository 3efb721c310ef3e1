use Rattle.std.proofs.Common.{refl, sym, ◌∙◌}
use Rattle.std.proofs.lemmas.Option.{same_Some}
use Rattle.fk_store.specs.Store.Paths.{path}
use Rattle.fk_cut.proofs.InCuts.Pages.{no_pages}
use Rattle.fk_cut.proofs.cuts.cutting.add_pages.Goals as goal

pub returns-in-None : goal.returns-in-None
returns-in-None c = no_pages c.args.store.now c.args.root c.args.who c.args.pages.now c.requires.part
    (λ h. c.in-None.ensures.none (path c.args.store.now) refl (same_Some _ _ (sym c.in-Some.ensures.kind ∙ h)))
