use Rattle.std.proofs.Common.{sym, ap, ◌∙◌}
use Rattle.laws_pictures.specs.Imaged.{link_of}
use Rattle.laws_checkpoint.specs.Narrow.{narrow_link}
use Rattle.fk_checkpoint.specs.Assembly.Assembling.{spaces_of, pointer_in}
use Rattle.fk_checkpoint.proofs.InAssembly.Loops.{pointer_get}
use Rattle.fk_checkpoint.proofs.assembly.links.link_at.Goals as goal

pub returns-in-Some : goal.returns-in-Some
returns-in-Some c =
    c.link_of.ensures ∙ ap (λ p. narrow_link (link_of (spaces_of c.args.contents.now) p))
    (sym (pointer_get c.args.leads.now c.args.at ∙ ap pointer_in (sym c.in-Some.ensures)))

pub returns-in-None : goal.returns-in-None
returns-in-None c =
    ap (λ p. narrow_link (link_of (spaces_of c.args.contents.now) p)) (sym (pointer_get c.args.leads.now c.args.at ∙ ap pointer_in (sym c.in-None.ensures)))
