use Rattle.std.proofs.Common.{◌≡◌, ◌++◌, ℕ, List, false, get_or, codes, string_bytes, ap, subst}
use Rattle.std.specs.Prelude.{IfOk}
use Rattle.fk_codec.specs.Show.Shown.{uses}
use Rattle.fk_codec.proofs.InShow.Slots.{same_slots}
use Rattle.fk_codec.proofs.show.text.outs_text.Goals as goal

pub returns : goal.returns
returns c =
    let same = same_slots (λ slot. get_or c.outs.result slot false) (uses c.args.image.now) 240 0 (λ k lt. c.outs.ensures k lt) in
    subst (λ (line : List ℕ). IfOk c.outs_line.result (λ text. string_bytes text ≡ line))
    (ap (λ (slots : List ℕ). codes "outs" ++ (slots ++ codes "\n")) same) c.outs_line.ensures
