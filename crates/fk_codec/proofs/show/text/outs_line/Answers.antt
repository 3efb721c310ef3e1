use Rattle.std.proofs.Common.{◌≡◌, ◌+◌, ◌-◌, ◌++◌, ◌∙◌, ℕ, Bool, false, List, [], get_or, codes, string_bytes, append_assoc, ap, sym}
use Rattle.std.proofs.lemmas.List.{append-nil}
use Rattle.fk_codec.specs.Show.Shown.{slot_if, used_slots_from}
use Rattle.fk_codec.proofs.InShow.Slots.{next_slot, no_slot}
use Rattle.fk_codec.proofs.show.text.outs_line.Goals as goal

pub loop-slot-preserved : goal.loop-slot-preserved
loop-slot-preserved c =
    let used = λ (slot : ℕ). get_or c.args.used.now slot false in
    let i = c.loop-slot.slot in
    let old = string_bytes c.loop-slot.text in
    let rest = used_slots_from used (240 - (i + 1)) (i + 1) in
    let piece : string_bytes c.push_str.new.self ≡ old
    ++ slot_if (used i) i = c.in_ok-push_str.ensures.bytes ∙ ap (λ (t : List ℕ). old ++ t) (c.as_str.ensures.value ∙ c.in_ok-slot_if.ensures) in
    ap (λ (t : List ℕ). t ++ rest) piece
    ∙ append_assoc old (slot_if (used i) i) rest ∙ ap (λ (t : List ℕ). old ++ t) (sym (next_slot used i c.loop-slot-test.true)) ∙ c.loop-slot.invariant

pub returns : goal.returns
returns c =
    let used = λ (slot : ℕ). get_or c.args.used.now slot false in
    let old = string_bytes c.loop-slot.text in
    let all = used_slots_from used 240 0 in
    let end : old ≡ codes "outs" ++ all =
    sym (append-nil old) ∙ ap (λ (t : List ℕ). old ++ t) (sym (no_slot used c.loop-slot.slot c.loop-slot-test.false)) ∙ c.loop-slot.invariant in
    c.in_ok-push_str-2.ensures.bytes ∙ ap (λ (t : List ℕ). t ++ codes "\n") end ∙ append_assoc (codes "outs") all (codes "\n")
