use Rattle.std.proofs.Common.{rules, ◌≡◌, ◌<◌, ◌++◌, ◌∷◌, [], length, sym}
use Rattle.fk_record_text.specs.Lines.{entry_of}
use Rattle.fk_recorded.proofs.Replies.{put}
use Rattle.fk_recorded.proofs.lists.add.Goals as goal

pub returns-in-Ok : goal.returns-in-Ok
returns-in-Ok c =
    let items = c.args.lists.now.items in
    let old = c.index_mut.result.now in
    let low : c.args.entry.now.place < length items = search rules in
    let more : c.push.new.self.items ≡ old.items ++ c.in-Some.reply ∷ [] = c.in-Ok.ensures.items in
    put items old c.push.new.self (entry_of c.args.entry.now) c.in-Some.reply low (sym c.in-Some.ensures) c.index_mut.ensures.value more
