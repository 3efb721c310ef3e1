use Rattle.std.proofs.Common.{sym, ap, ◌∙◌, arith}
use Rattle.laws_pictures.specs.Imaged.{rank}
use Rattle.fk_model.specs.Places.{same_path}
use Rattle.fk_checkpoint.specs.Seeking.Seeking.{up}
use Rattle.fk_checkpoint.specs.Assembly.Assembling.{path_at, spaces_of}
use Rattle.fk_checkpoint.proofs.InAssembly.Paths.{same_up, rank_found, rank_on, rank_behind}
use Rattle.fk_checkpoint.proofs.assembly.links.rank.Goals as goal

pub returns-then-is_same : goal.returns-then-is_same
returns-then-is_same c =
    rank_found c.args.contents.now c.loop-at.at (rank (spaces_of c.args.contents.now) (up c.args.path.now)) (up c.args.path.now) c.loop-at-test.true
    (same_up (path_at c.args.contents.now c.loop-at.at) c.args.path.now ∙ ap (λ place. same_path place c.args.path.now) (sym c.path_at.ensures)
    ∙ sym c.if-is_same.ensures) c.loop-at.invariant

pub loop-at-preserved : goal.loop-at-preserved
loop-at-preserved c =
    rank_on c.args.contents.now c.loop-at.at (rank (spaces_of c.args.contents.now) (up c.args.path.now)) (up c.args.path.now) c.loop-at-test.true
    (same_up (path_at c.args.contents.now c.loop-at.at) c.args.path.now ∙ ap (λ place. same_path place c.args.path.now) (sym c.path_at.ensures)
    ∙ sym c.if-is_same.ensures) c.loop-at.invariant

pub returns : goal.returns
returns c =
    let found = rank_behind c.args.contents.now c.loop-at.at (rank (spaces_of c.args.contents.now) (up c.args.path.now)) (up c.args.path.now)
    (λ less. omega (arith, less, c.loop-at-test.false)) c.loop-at.invariant in
    omega (arith, found, c.loop-at-test.false, c.loop-at.auto.at-end)
