use Rattle.std.proofs.Common.{length, ◌∙◌}
use Rattle.fk_pager.proofs.Driving.{drives-then, drives-alike, grown-one, none-still}
use Rattle.fk_pager.proofs.driver.PagedRun.go.Goals as goal

pub returns-clause-drives : goal.returns-clause-drives
returns-clause-drives g c =
    let between = c.go_at_once.new.self in
    let chosen = c.choose.new.self in
    let same = c.choose.ensures in
    drives-then c.args.self.now between c.make.new.self c.in_ok-go_at_once.ensures.drives
    (drives-then between chosen c.make.new.self (drives-alike between chosen same.moment same.pager same.port same.history) c.in_ok-make.ensures.drives)

pub returns-clause-grown : goal.returns-clause-grown
returns-clause-grown g c =
    let between = c.go_at_once.new.self in
    let chosen = c.choose.new.self in
    grown-one c.args.budget (length c.args.self.now.history.items) (length between.history.items) (length chosen.history.items)
    (length c.make.new.self.history.items) c.requires.left (rw c.if-branch.false at c.in_ok-go_at_once.ensures.grown)
    (λ i. length (c.choose.ensures.history i).items) c.in_ok-make.ensures.longer

pub returns-in_default-clause-drives : goal.returns-in_default-clause-drives
returns-in_default-clause-drives g c =
    let between = c.go_at_once.new.self in
    let chosen = c.choose.new.self in
    let same = c.choose.ensures in
    drives-then c.args.self.now between chosen c.in_ok-go_at_once.ensures.drives
    (drives-alike between chosen same.moment same.pager same.port same.history)

pub returns-in_default-clause-grown : goal.returns-in_default-clause-grown
returns-in_default-clause-grown g c =
    (λ i. length (c.choose.ensures.history i).items) ∙ (rw c.if-branch.false at c.in_ok-go_at_once.ensures.grown)

pub returns-in_default-clause-none : goal.returns-in_default-clause-none
returns-in_default-clause-none g c =
    let same = c.choose.ensures in
    none-still c.go_at_once.new.self c.choose.new.self same.moment same.pager same.port (rw c.in_default.is at same.none)
