use Rattle.fk_calls.proofs.InCalls.Speaking.{spoke_ended, spoke_heard, spoke_made, spoke_row, spoke_same, spoke_there, spoke_touched}
use Rattle.fk_calls.proofs.calls.speaking.speak.Goals as goal

pub returns : goal.returns
returns c =
    let m = c.args.store.now in
    let n = c.speak_at.new.store in
    let to = c.speak_at.ensures in
    record {
      made = spoke_made m n c.args.who c.speak_at.result to;
      ended = spoke_ended m n c.args.who c.speak_at.result to;
      heard = spoke_heard m n c.args.who c.speak_at.result to;
      there = spoke_there m n c.args.who c.speak_at.result to;
      touched = spoke_touched m n c.args.who c.speak_at.result to;
      row = spoke_row m n c.args.who c.speak_at.result to;
      same = spoke_same m n c.args.who c.speak_at.result to;
    }
