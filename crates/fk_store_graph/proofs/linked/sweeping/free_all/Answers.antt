use Rattle.std.proofs.Common.{sym, ◌∙◌}
use Rattle.fk_store_graph.proofs.InLinked.AlikeLaws.{alike_filed}
use Rattle.fk_store_graph.proofs.InLinked.CountLaws.{mapped-count}
use Rattle.fk_store_graph.proofs.InLinked.MemberBodies.{members-held}
use Rattle.fk_store_graph.proofs.InLinked.MemberLaws.{led_marked, members_owner, members_rings}
use Rattle.fk_store_graph.proofs.InLinked.SweepLaws.{all_swept}
use Rattle.fk_store_graph.proofs.linked.sweeping.free_all.Goals as goal

pub sweep_members-requires : goal.sweep_members-requires
sweep_members-requires c = led_marked _ _ c.args.sweep c.free_led.ensures.swept c.requires.members

pub returns-clause-swept : goal.returns-clause-swept
returns-clause-swept c = all_swept _ _ _ c.args.sweep c.free_led.ensures.swept c.sweep_members.ensures

pub returns-clause-rings : goal.returns-clause-rings
returns-clause-rings c = members_rings _ _ c.args.sweep c.sweep_members.ensures _ c.free_led.ensures.rings

pub returns-clause-alone : goal.returns-clause-alone
returns-clause-alone c = λ n field to. c.free_led.ensures.alone n field (sym (members_owner _ _ c.args.sweep c.sweep_members.ensures n) ∙ to)

pub returns-clause-held : goal.returns-clause-held
returns-clause-held c = mapped-count _ _ _ _ c.sweep_members.ensures (λ j b. members-held c.args.sweep _ j b) c.free_led.ensures.held
