use Rattle.std.proofs.Common.{◌≤◌, ◌+◌, length, arith}
use Rattle.fk_pager.proofs.Driving.{drives-then, grown-within, grown-then}
use Rattle.fk_pager.proofs.driver.PagedRun.go_at_once.Goals as goal

pub returns-clause-drives : goal.returns-clause-drives
returns-clause-drives g c =
    drives-then c.args.self.now c.go_on.new.self c.go_own.new.self c.in_ok-go_on.ensures.drives c.in_ok-made.ensures.drives

pub returns-clause-grown : goal.returns-clause-grown
returns-clause-grown g c =
    let past = length c.args.self.now.history.items in
    let between = length c.go_on.new.self.history.items in
    let after = length c.go_own.new.self.history.items in
    let same = rw c.if-branch.false at c.in_ok-go_on.ensures.grown in
    let left = c.requires.left in
    let more : between + 1 ≤ c.args.budget = omega (arith, same, left) in
    grown-then c.in_ok-made.made c.args.budget past between after same
    (grown-within c.in_ok-made.made (between + 1) c.args.budget between after more c.in_ok-made.ensures.grown)
