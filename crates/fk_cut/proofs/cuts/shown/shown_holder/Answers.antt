use Rattle.fk_cut.proofs.InCuts.Shows.{top_unheld}
use Rattle.fk_cut.proofs.cuts.shown.shown_holder.Goals as goal

pub returns-then-eq : goal.returns-then-eq
returns-then-eq c = λ q is. top_unheld c.args.store.now c.args.root c.args.who q c.requires.own is c.if-eq.ensures c.args.holder
