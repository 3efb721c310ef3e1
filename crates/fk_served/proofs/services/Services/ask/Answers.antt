use Rattle.std.proofs.Common.{rules, ◌≡◌, true, sym, ap, ◌∙◌}
use Rattle.laws_moves.specs.Whole.Runnable.{has_all_words}
use Rattle.fk_served.specs.Served.{asked_of, serving}
use Rattle.fk_served.proofs.Acts.{words_asked}
use Rattle.fk_served.proofs.services.Services.ask.Goals as goal

pub returns-in-Some-clause-words : goal.returns-in-Some-clause-words
returns-in-Some-clause-words g c =
    let all : has_all_words c.in-Some.ask ≡ true =
    words_asked (serving c.args.self.now.list c.args.who) c.in-Some.ask
    (sym (c.ask_of-asked.ensures ∙ ap asked_of c.server.ensures) ∙ c.in-Some.is) c.look_at.ensures in
    search (rules, all)
