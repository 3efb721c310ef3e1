use Rattle.fk_turns.proofs.whys.hearing.served_talk.Goals as goal

pub talk_of_client-requires : goal.talk_of_client-requires
talk_of_client-requires c = record { served = c.in-Some.ensures.client c.requires.valid.consistent }
