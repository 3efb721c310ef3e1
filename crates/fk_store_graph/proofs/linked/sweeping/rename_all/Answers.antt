use Rattle.fk_store_graph.proofs.InLinked.MemberLaws.{led_marked}
use Rattle.fk_store_graph.proofs.InLinked.SweepLaws.{all_swept}
use Rattle.fk_store_graph.proofs.linked.sweeping.rename_all.Goals as goal

pub sweep_members-requires : goal.sweep_members-requires
sweep_members-requires c = led_marked _ _ c.args.sweep c.rename_led.ensures c.requires.members

pub returns : goal.returns
returns c = all_swept _ _ _ c.args.sweep c.rename_led.ensures c.sweep_members.ensures
