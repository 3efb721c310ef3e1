use Rattle.std.proofs.Common.{refl, sym, subst}
use Rattle.fk_model.specs.Valid.{IsValid}
use Rattle.fk_store.specs.Store.Contents.{Contents}
use Rattle.fk_store.specs.Store.World.{world}
use Rattle.fk_turns.specs.Moved.Kept.{AreKept}
use Rattle.fk_turns.specs.Next.Speaking.{said_of}
use Rattle.fk_turns.proofs.InSteps.Speaking.{comes_spoken, spoken_valid}
use Rattle.fk_turns.proofs.steps.speaking.speak.Goals as goal

pub speak-spoke-requires : goal.speak-spoke-requires
speak-spoke-requires c = record { valid = c.requires.valid; unheld = c.is_any_held.ensures c.if-is_any_held.false }

pub after_speech-requires : goal.after_speech-requires
after_speech-requires c =
    let m = c.args.store.now in
    let n = c.speak-spoke.new.store in
    let was = c.args.turns.now in
    let spoken = c.in-Some.spoken in
    let made = rw c.in-Some.is at c.speak-spoke.ensures.made in
    record {
      valid = spoken_valid m n c.args.who c.requires.valid c.names.ensures.few made.0 (said_of n spoken) made.1;
      comes = comes_spoken m n c.args.who c.requires.valid c.names.ensures.few made.0 (said_of n spoken) made.1 spoken was.waits was.marks
          c.names.ensures.born c.names-2.ensures.born c.names-2.ensures.few c.requires.kept (rw c.in-Some.is at c.speak-spoke.ensures.touched)
          (rw c.in-Some.is at c.speak-spoke.ensures.row) (rw c.if-not-marks_nobody.false at c.marks_nobody.ensures.none);
    }

pub returns-in-Some : goal.returns-in-Some
returns-in-Some c =
    let m = c.args.store.now in
    let n = c.speak-spoke.new.store in
    let spoken = c.in-Some.spoken in
    let made = rw c.in-Some.is at c.speak-spoke.ensures.made in
    record {
      made = made;
      ended = λ some. c.speak-spoke.ensures.ended (rw c.in-Some.is refl);
      heard = rw c.in-Some.is at c.speak-spoke.ensures.heard;
      there = rw c.in-Some.is at c.speak-spoke.ensures.there;
      same = tt;
      valid = spoken_valid m n c.args.who c.requires.valid c.names.ensures.few made.0 (said_of n spoken) made.1;
      kept = c.after_speech.ensures;
      still = tt;
    }

pub returns-in-None : goal.returns-in-None
returns-in-None c =
    let same = rw c.in-None.is at c.speak-spoke.ensures.same in
    let was = c.args.turns.now in
    record {
      made = tt;
      ended = λ some. absurd (cc);
      heard = tt;
      there = tt;
      same = same;
      valid = subst (λ (d : Contents). IsValid (world d)) (sym same) c.requires.valid;
      kept = subst (λ (d : Contents). AreKept d was.waits was.marks) (sym same) c.requires.kept;
      still = refl;
    }
