use Rattle.fk_calls.proofs.InCalls.Went.{went_at, went_ended, went_made, went_row, went_same, went_talked, went_tells, went_touched, went_waits}
use Rattle.fk_calls.proofs.calls.going.go.Goals as goal

pub returns : goal.returns
returns c =
    let m = c.args.store.now in
    let n = c.go_at.new.store in
    let to = c.go_at.ensures in
    record {
      made = went_made m n c.args.who c.go_at.result to;
      ended = went_ended m n c.args.who c.go_at.result to;
      touched = went_touched m n c.args.who c.go_at.result to;
      row = went_row m n c.args.who c.go_at.result to;
      at = went_at m n c.args.who c.go_at.result to;
      tells = went_tells m n c.args.who c.go_at.result to;
      talked = went_talked m n c.args.who c.go_at.result to;
      waits = went_waits m n c.args.who c.go_at.result to;
      same = went_same m n c.args.who c.go_at.result to;
    }
