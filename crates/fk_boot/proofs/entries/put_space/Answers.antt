use Rattle.std.proofs.Common.{◌≡◌, ◌∙◌, ◌++◌, ap, reverse}
use Rattle.fk_store.proofs.InStore.finding.Results.{on_ok}
use Rattle.fk_store.specs.Store.Paths.{path}
use Rattle.fk_store.specs.Store.World.{world}
use Rattle.fk_boot.specs.FirstWorld.{space_itself, zero_pages, program_pages, words_of_program}
use Rattle.fk_boot.proofs.Changes.{then-all}
use Rattle.fk_boot.proofs.entries.put_space.Goals as goal

pub returns : goal.returns
returns c =
    let entry = c.args.entry.now in
    let space = c.in_ok-space.space in
    let x = reverse entry.path in
    let made = rw c.as_slice.ensures at c.in_ok-space.ensures.world in
    let at : path c.make_space.new.store space ≡ x = c.in_ok-space.ensures.path ∙ ap reverse c.as_slice.ensures in
    let zeros = rw (at, c.as_slice-2.ensures) at c.in_ok-put_zeros.ensures.world in
    let there : path c.put_zeros.new.store space ≡ x = ap (λ paths. paths space) c.in_ok-put_zeros.ensures.path ∙ at in
    let program = rw (there, c.words_of_program.ensures) at c.put_program.ensures in
    let parts = program_pages x (words_of_program c.args.programs.now entry.program) in
    on_ok c.put_program.result _ _ (λ w. then-all (space_itself x) (zero_pages x entry.pages ++ parts) _ (world c.args.store.now) _ made
    (then-all (zero_pages x entry.pages) parts _ _ _ zeros w)) program
