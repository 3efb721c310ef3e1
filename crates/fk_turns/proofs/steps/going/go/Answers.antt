use Rattle.std.proofs.Common.{refl, sym, subst}
use Rattle.fk_model.specs.declared.moves.Ask.TheVariants as asks
use Rattle.fk_model.specs.declared.moves.Said.TheVariants as says
use Rattle.fk_model.specs.Valid.{IsValid}
use Rattle.fk_store.specs.Store.Contents.{Contents}
use Rattle.fk_store.specs.Store.World.{world}
use Rattle.fk_turns.specs.Moved.Kept.{AreKept}
use Rattle.fk_turns.specs.Next.Goings.{run_of, was_made}
use Rattle.fk_turns.proofs.InSteps.Locked.{if_false, mildly_made, put_made}
use Rattle.fk_turns.proofs.InSteps.Stepped.{run_fit, valid_true}
use Rattle.fk_turns.proofs.InSteps.Talked.{put_talked, talked_made}
use Rattle.fk_turns.proofs.InSteps.Went.{off_anyway}
use Rattle.fk_turns.proofs.steps.going.go.Goals as goal

pub go-went-requires : goal.go-went-requires
go-went-requires c = record { valid = c.requires.valid; unheld = c.is_any_held.ensures c.if-is_any_held.false }

pub after_class-requires : goal.after_class-requires
after_class-requires c =
    let m = c.args.store.now in
    let n = c.go-went.new.store in
    let was = c.args.turns.now in
    record {
      valid = valid_true m n (run_of c.args.who) asks.Run c.requires.valid c.names.ensures.few (run_fit m (run_of c.args.who)) says.Nothing
          (was_made c.go-went.result) c.go-went.ensures.made c.go-went.ensures.same;
      comes = mildly_made m n c.args.who c.go-went.result c.in-Made.what c.in-Made.at was.waits was.marks c.requires.valid c.names.ensures.few
          c.names.ensures.born c.names-2.ensures.born c.names-2.ensures.few c.requires.kept c.in-Made.is c.go-went.ensures.made
          c.go-went.ensures.touched c.go-went.ensures.row (rw c.if-not-marks_nobody.false at c.marks_nobody.ensures.none);
      at = rw c.in-Made.is at c.go-went.ensures.at;
    }

pub returns-in-Made-clause-made : goal.returns-in-Made-clause-made
returns-in-Made-clause-made c = rw c.in-Made.is at c.go-went.ensures.made

pub returns-in-Made-clause-ended : goal.returns-in-Made-clause-ended
returns-in-Made-clause-ended c = rw c.in-Made.is at c.go-went.ensures.ended

pub returns-in-Made-clause-valid : goal.returns-in-Made-clause-valid
returns-in-Made-clause-valid c =
    let m = c.args.store.now in
    valid_true m c.go-went.new.store (run_of c.args.who) asks.Run c.requires.valid c.names.ensures.few (run_fit m (run_of c.args.who)) says.Nothing
    (was_made c.go-went.result) c.go-went.ensures.made c.go-went.ensures.same

pub returns-in-Made-clause-placed : goal.returns-in-Made-clause-placed
returns-in-Made-clause-placed c =
    let m = c.args.store.now in
    let made = rw c.in-Made.is at c.go-went.ensures.made in
    let tells = rw c.in-Made.is at c.go-went.ensures.touched in
    if_false c.args.stays (λ placed. put_made m c.go-went.new.store c.args.who c.in-Made.what c.after_class.new.turns.waits c.requires.valid
    c.names.ensures.few c.names.ensures.born c.names-2.ensures.born c.names-2.ensures.few made.0 tells placed) c.after_class.ensures.placed

-- ---- a stage in which two threads met

pub after_talk-requires : goal.after_talk-requires
after_talk-requires c =
    let m = c.args.store.now in
    let n = c.go-went.new.store in
    let was = c.args.turns.now in
    record {
      valid = valid_true m n (run_of c.args.who) asks.Run c.requires.valid c.names.ensures.few (run_fit m (run_of c.args.who)) says.Nothing
          (was_made c.go-went.result) c.go-went.ensures.made c.go-went.ensures.same;
      comes = talked_made m n c.args.who c.go-went.result c.in-Talked.by was.waits was.marks c.requires.valid c.names.ensures.few
          c.names.ensures.born c.names-2.ensures.born c.names-2.ensures.few c.requires.kept c.in-Talked.is c.go-went.ensures.made
          c.go-went.ensures.tells c.go-went.ensures.talked (rw c.if-not-marks_nobody.false at c.marks_nobody.ensures.none);
    }

pub returns-in-Talked-clause-made : goal.returns-in-Talked-clause-made
returns-in-Talked-clause-made c = rw c.in-Talked.is at c.go-went.ensures.made

pub returns-in-Talked-clause-ended : goal.returns-in-Talked-clause-ended
returns-in-Talked-clause-ended c = rw c.in-Talked.is at c.go-went.ensures.ended

pub returns-in-Talked-clause-valid : goal.returns-in-Talked-clause-valid
returns-in-Talked-clause-valid c =
    let m = c.args.store.now in
    valid_true m c.go-went.new.store (run_of c.args.who) asks.Run c.requires.valid c.names.ensures.few (run_fit m (run_of c.args.who)) says.Nothing
    (was_made c.go-went.result) c.go-went.ensures.made c.go-went.ensures.same

pub returns-in-Talked-clause-placed : goal.returns-in-Talked-clause-placed
returns-in-Talked-clause-placed c =
    let m = c.args.store.now in
    let made = rw c.in-Talked.is at c.go-went.ensures.made in
    let tells = rw c.in-Talked.is at c.go-went.ensures.tells in
    if_false c.args.stays (λ placed. put_talked m c.go-went.new.store c.args.who c.in-Talked.by c.after_talk.new.turns.waits c.requires.valid
    c.names.ensures.few c.names.ensures.born c.names-2.ensures.born c.names-2.ensures.few made.0 tells placed) c.after_talk.ensures.placed

-- ---- nothing was made

pub returns-in-Not : goal.returns-in-Not
returns-in-Not c =
    let same = rw c.in-Not.is at c.go-went.ensures.same in
    let was = c.args.turns.now in
    record {
      made = tt;
      ended = tt;
      waits = λ is. absurd (cc);
      placed = off_anyway c.args.stays tt;
      still = refl;
      same = same;
      valid = subst (λ (d : Contents). IsValid (world d)) (sym same) c.requires.valid;
      kept = subst (λ (d : Contents). AreKept d was.waits was.marks) (sym same) c.requires.kept;
    }

pub returns-in-Waits : goal.returns-in-Waits
returns-in-Waits c =
    let same = rw c.in-Waits.is at c.go-went.ensures.same in
    let was = c.args.turns.now in
    record {
      made = tt;
      ended = tt;
      placed = off_anyway c.args.stays tt;
      still = refl;
      waits = λ is. c.go-went.ensures.waits c.in-Waits.is;
      same = same;
      valid = subst (λ (d : Contents). IsValid (world d)) (sym same) c.requires.valid;
      kept = subst (λ (d : Contents). AreKept d was.waits was.marks) (sym same) c.requires.kept;
    }
