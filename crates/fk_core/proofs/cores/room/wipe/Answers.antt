use Rattle.std.proofs.Common.{◌≡◌, ◌++◌, length, take, drop, replicate, arith, ◌∙◌, ap}
use Rattle.std.proofs.lemmas.List.{length-take}
use Rattle.fk_core.proofs.InCores.Rooms.{cleared}
use Rattle.fk_core.proofs.cores.room.wipe.Goals as goal

pub returns : goal.returns
returns c =
    let n = c.args.count in
    let words = c.args.words.now in
    let size : length (take n words) ≡ n = (let least = length-take n words in let long = c.told-words in omega (arith, least, long, c.requires.few)) in
    ap (λ front. front ++ drop n words) (c.fill.ensures.after (λ y e. cc) ∙ ap (λ k. replicate k 0) size) ∙ cleared n words c.requires.few c.requires.past
