use Rattle.std.proofs.Common.{◌≡◌, ◌-◌, ◌++◌, false, get_or, codes, string_bytes}
use Rattle.fk_codec.specs.Show.Shown.{used_slots_from}
use Rattle.fk_codec.proofs.show.text.outs_line.Given as goal

abbrev pub invariant-loop-slot : goal.invariant-loop-slot
invariant-loop-slot l = string_bytes l.text
    ++ used_slots_from (λ slot. get_or l.used slot false) (240 - l.slot) l.slot ≡ codes "outs" ++ used_slots_from (λ slot. get_or l.used slot false) 240 0
