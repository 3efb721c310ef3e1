use Rattle.std.proofs.Common.{◌≡◌, ◌*◌, ◌-◌, length, take, drop, refl, ap, ◌∙◌}
use Rattle.std.proofs.lemmas.List.{take_rest}
use Rattle.fk_model.specs.World.{apply_all}
use Rattle.fk_store.proofs.InStore.finding.Results.{on_ok}
use Rattle.fk_store.specs.Store.Paths.{path}
use Rattle.fk_boot.specs.FirstWorld.{page_words}
use Rattle.fk_boot.proofs.Changes.{no-part, some-part, space-put, first-words}
use Rattle.fk_boot.proofs.pages.put_part.Goals as goal

pub returns-then-words-start-clause-world : goal.returns-then-words-start-clause-world
unfolding apply_all
returns-then-words-start-clause-world c = rw (no-part _ c.args.words.now c.args.page c.if-words-start.true) refl

pub returns-clause-world : goal.returns-clause-world
unfolding apply_all
returns-clause-world c =
    let words = c.args.words.now in
    let start = c.args.page * 64 in
    let part : take c.min.result (take (length words - start) (drop start words)) ≡ take 64 (drop start words) =
    rw (c.min.ensures, take_rest words start) (first-words 64 (drop start words)) in
    let page : c.page_of.result ≡ page_words (take 64 (drop start words)) = c.page_of.ensures ∙ ap page_words part in
    rw (some-part (path c.args.store.now c.args.space) words c.args.page c.if-words-start.false, ← page) c.put_page.ensures.world

pub returns-clause-space : goal.returns-clause-space
returns-clause-space c =
    on_ok c.put_page.result _ _ (λ w. space-put c.args.store.now
    c.put_page.new.self c.args.space c.args.page c.args.space c.page_of.result w c.put_page.ensures.paths c.requires) c.put_page.ensures.world
