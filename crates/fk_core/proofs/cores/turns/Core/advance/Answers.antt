use Rattle.fk_core.specs.Cores.Cores.{run_core}
use Rattle.fk_core.proofs.InCores.Going.{advanced_goes}
use Rattle.fk_core.proofs.InCores.Trying.{advanced_of, choice_made, over_of, lacking_of, lacks_of}
use Rattle.fk_core.proofs.cores.turns.Core.advance.Goals as goal

pub returns-then-is_none-clause-advanced : goal.returns-then-is_none-clause-advanced
returns-then-is_none-clause-advanced g c =
    let self = c.args.self.now in
    advanced_of c.go_alone.result self.jobs.jobs self.budget (run_core self) (run_core c.go_alone.new.self) c.go_alone.ensures.made

pub returns-then-is_none-clause-none : goal.returns-then-is_none-clause-none
returns-then-is_none-clause-none g c =
    let self = c.args.self.now in
    over_of c.go_alone.result self.jobs.jobs self.budget (run_core self) (run_core c.go_alone.new.self) c.go_alone.ensures.made

pub returns-then-is_none-clause-lacking : goal.returns-then-is_none-clause-lacking
returns-then-is_none-clause-lacking g c =
    let self = c.args.self.now in
    lacking_of c.go_alone.result self.jobs.jobs self.budget (run_core self) (run_core c.go_alone.new.self) c.go_alone.ensures.made

pub returns-then-is_none-clause-lacks : goal.returns-then-is_none-clause-lacks
returns-then-is_none-clause-lacks g c =
    let self = c.args.self.now in
    lacks_of c.go_alone.result self.jobs.jobs self.budget (run_core self) (run_core c.go_alone.new.self) c.go_alone.ensures.made

pub returns-then-is_none-clause-come : goal.returns-then-is_none-clause-come
returns-then-is_none-clause-come g c =
    let self = c.args.self.now in
    let made = c.go_alone in
    advanced_goes made.result self.jobs.jobs _ self.budget _ (run_core self) (run_core made.new.self) made.ensures.jobs made.ensures.budget c.requires.come
    (advanced_of made.result self.jobs.jobs self.budget (run_core self) (run_core made.new.self) made.ensures.made)
    (lacking_of made.result self.jobs.jobs self.budget (run_core self) (run_core made.new.self) made.ensures.made)

pub returns-else-is_none-clause-advanced : goal.returns-else-is_none-clause-advanced
returns-else-is_none-clause-advanced g c =
    let self = c.args.self.now in
    advanced_of c.go_among.result self.jobs.jobs self.budget (run_core self) (run_core c.go_among.new.self) c.go_among.ensures.made

pub returns-else-is_none-clause-none : goal.returns-else-is_none-clause-none
returns-else-is_none-clause-none g c =
    let self = c.args.self.now in
    over_of c.go_among.result self.jobs.jobs self.budget (run_core self) (run_core c.go_among.new.self) c.go_among.ensures.made

pub returns-else-is_none-clause-lacking : goal.returns-else-is_none-clause-lacking
returns-else-is_none-clause-lacking g c =
    let self = c.args.self.now in
    lacking_of c.go_among.result self.jobs.jobs self.budget (run_core self) (run_core c.go_among.new.self) c.go_among.ensures.made

pub returns-else-is_none-clause-lacks : goal.returns-else-is_none-clause-lacks
returns-else-is_none-clause-lacks g c =
    let self = c.args.self.now in
    lacks_of c.go_among.result self.jobs.jobs self.budget (run_core self) (run_core c.go_among.new.self) c.go_among.ensures.made

pub returns-else-is_none-clause-come : goal.returns-else-is_none-clause-come
returns-else-is_none-clause-come g c =
    let self = c.args.self.now in
    let made = c.go_among in
    advanced_goes made.result self.jobs.jobs _ self.budget _ (run_core self) (run_core made.new.self) made.ensures.jobs made.ensures.budget c.requires.come
    (advanced_of made.result self.jobs.jobs self.budget (run_core self) (run_core made.new.self) made.ensures.made)
    (lacking_of made.result self.jobs.jobs self.budget (run_core self) (run_core made.new.self) made.ensures.made)

pub returns-then-is_none-clause-choice : goal.returns-then-is_none-clause-choice
returns-then-is_none-clause-choice g c =
    let self = c.args.self.now in
    choice_made c.go_alone.result self.jobs self.budget (run_core self) (run_core c.go_alone.new.self) c.go_alone.ensures.made c.go_alone.ensures.first

pub returns-else-is_none-clause-choice : goal.returns-else-is_none-clause-choice
returns-else-is_none-clause-choice g c =
    let self = c.args.self.now in
    choice_made c.go_among.result self.jobs self.budget (run_core self) (run_core c.go_among.new.self) c.go_among.ensures.made c.go_among.ensures.first
