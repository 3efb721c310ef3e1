-- The replies of a list from one place to the next.
use Rattle.std.proofs.Common.{◌≡◌, ℕ, zero, suc, ◌+◌, List, [], ◌∷◌, map, drop, Some, None, refl, sym, ap, ◌∙◌, add-one}
use Rattle.std.specs.List.{slice_get}
use Rattle.fk_model.specs.declared.moves.Reply.{Reply}
use Rattle.fk_model.specs.Answers.{reply_words}
use Rattle.fk_natives.specs.Natives.{replays, OfReplay}
use Rattle.fk_natives.specs.declared.service.Side.TheVariants as sides
use Rattle.fk_trace.specs.Taps.{to_come}

split : (replies : List Reply) (next : ℕ) (reply : Reply) → slice_get replies next ≡ Some reply → drop next replies ≡ reply ∷ drop (suc next) replies
split [] next reply there = absurd (cc)
split (r ∷ rs) zero reply there = let same : r ≡ reply = cc in ap (λ x. x ∷ rs) same
split (r ∷ rs) (suc next) reply there = split rs next reply there

ends : (replies : List Reply) (next : ℕ) → slice_get replies next ≡ None → drop next replies ≡ []
ends [] zero none = refl
ends [] (suc next) none = refl
ends (r ∷ rs) zero none = absurd (cc)
ends (r ∷ rs) (suc next) none = ends rs next none

pub next_there : (replies : List Reply) (next : ℕ) (reply : Reply) → slice_get replies next ≡ Some reply →
    replays (to_come replies next) ≡ OfReplay (to_come replies (next + 1)) (reply_words reply) sides.Own
next_there replies next reply there = ap (λ rs. replays (map reply_words rs)) (split replies next reply there)
    ∙ ap (λ n. OfReplay (to_come replies n) (reply_words reply) sides.Own) (sym (add-one next))

pub none_there : (replies : List Reply) (next : ℕ) → slice_get replies next ≡ None → replays (to_come replies next) ≡ OfReplay (to_come replies next) [] sides.Own
none_there replies next none = ap (λ rs. replays (map reply_words rs)) (ends replies next none) ∙ ap (λ rs. OfReplay (map reply_words rs) [] sides.Own) (sym (ends replies next none))
