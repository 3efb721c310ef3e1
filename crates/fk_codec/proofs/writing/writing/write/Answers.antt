use Rattle.std.proofs.Common.{◌≡◌, ◌<◌, ◌^◌, ◌∙◌, sym, ap, subst, List, length, get_or, arith}
use Rattle.fk_image.specs.declared.image.image.SpaceRec.{SpaceRec}
use Rattle.fk_codec.proofs.InWriting.Counts.{count_fits, counts_fit}
use Rattle.fk_codec.proofs.writing.writing.write.Goals as goal

pub overflow_cast-len : goal.overflow_cast-len
overflow_cast-len c = let few = count_fits c.args.image.now c.requires in let is = c.len.ensures in omega (arith, few, is)

pub put_space-requires : goal.put_space-requires
put_space-requires c =
    let i = c.loop-space.space-index in
    let s = c.space-item.result in
    let all = c.as_slice-space-items.ensures in
    let is : s ≡ get_or c.args.image.now.spaces i s = c.space-item.is ∙ ap (λ (ss : List SpaceRec). get_or ss i s) all in
    let fits = counts_fit c.args.image.now c.requires i s (omega (arith, ap length all)) in
    let both = subst (λ (one : SpaceRec). (length one.objects < 2 ^ 16) × (length one.pages < 2 ^ 16)) (sym is) fits in
    record { objects = both.0; pages = both.1 }
