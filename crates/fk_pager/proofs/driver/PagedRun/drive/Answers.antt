use Rattle.std.proofs.Common.{◌≡◌, false, refl, rules}
use Rattle.fk_pager.proofs.Driving.{drives-none, drives-then, rest-of, used-of}
use Rattle.fk_pager.proofs.driver.PagedRun.drive.Goals as goal

pub loop-self-init : goal.loop-self-init
loop-self-init g c = record {
  driven = c.requires.driven;
  drives = drives-none c.args.self.now;
  fits = c.requires.fits;
  within = λ few. few;
}

pub loop-self-preserved : goal.loop-self-preserved
loop-self-preserved g c =
    let made = c.in_ok-go.ensures in
    record {
      driven = made.driven;
      drives = drives-then c.args.self.now c.loop-self.self c.go.new.self c.loop-self.invariant.drives made.drives;
      fits = made.fits;
      within = search rules;
    }

pub returns-then-not-branch-clause-end : goal.returns-then-not-branch-clause-end
returns-then-not-branch-clause-end g c =
    let old = c.loop-self.self in
    let now = c.go.new.self in
    let went = c.in_ok-go.ensures in
    let no : c.in_ok-go.field-0 ≡ false = cc in
    rest-of c.args.self.now now now c.args.budget c.at_rest.result (drives-then c.args.self.now old now c.loop-self.invariant.drives went.drives) refl
    (rw no at went.none) c.at_rest.ensures

pub returns-clause-end : goal.returns-clause-end
returns-clause-end g c =
    let used = c.end_used.ensures in
    used-of c.args.self.now c.loop-self.self c.end_used.new.self c.args.budget c.end_used.result c.loop-self.invariant.drives used.moment used.history
    (used.end c.args.budget (search rules))
