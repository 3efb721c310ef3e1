use Rattle.fk_turns.proofs.next.placing.after.Goals as goal

pub moved-requires : goal.moved-requires
moved-requires c = record { sound = c.requires.comes.kept.sound; room = c.requires.comes.room }

pub put-requires : goal.put-requires
put-requires c = record {
  valid = c.requires.valid;
  kept = c.moved.ensures.kept c.requires.comes.before c.requires.comes.kept c.requires.comes.moved;
}
