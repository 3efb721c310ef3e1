use Rattle.std.proofs.Common.{◌≤◌, ◌+◌, true, length, arith, rules}
use Rattle.fk_pager.proofs.Driving.{drives-then, grown-within, grown-then}
use Rattle.fk_pager.proofs.driver.PagedRun.go_on.Goals as goal

pub returns-then-branch-clause-grown : goal.returns-then-branch-clause-grown
returns-then-branch-clause-grown g c =
    let past = length c.args.self.now.history.items in
    let left : past + c.min.result ≤ c.args.budget = search rules in
    grown-within true (past + c.min.result) c.args.budget past (length c.run_on.new.self.history.items) left
    (rw c.if-branch.true at c.in_ok-run_on.ensures.grown)

pub returns-clause-drives : goal.returns-clause-drives
returns-clause-drives g c =
    drives-then c.args.self.now c.run_on.new.self c.proceed_on.new.self c.in_ok-run_on.ensures.drives c.in_ok-made.ensures.drives

pub returns-clause-grown : goal.returns-clause-grown
returns-clause-grown g c =
    let past = length c.args.self.now.history.items in
    let between = length c.run_on.new.self.history.items in
    let after = length c.proceed_on.new.self.history.items in
    let same = rw c.if-branch.false at c.in_ok-run_on.ensures.grown in
    let left = c.requires.left in
    let more : between + 1 ≤ c.args.budget = omega (arith, same, left) in
    grown-then c.in_ok-made.made c.args.budget past between after same
    (grown-within c.in_ok-made.made (between + 1) c.args.budget between after more c.in_ok-made.ensures.grown)
