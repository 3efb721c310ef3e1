-- Notes made of words, and of the reply that a server gives.
use Rattle.std.proofs.Common.{◌≡◌, ℕ, ◌≤◌, true, is_none, Some, List, [], ◌∷◌, ◌++◌, append_assoc, length, take, take_all, refl, sym, ap, ◌∙◌}
use Rattle.std.proofs.lemmas.List.Elements.{filter-append}
use Rattle.fk_model.specs.declared.thread.Turn.TheVariants as turns
use Rattle.fk_model.specs.Answers.{reply_words}
use Rattle.fk_natives.specs.declared.service.Side.TheVariants as sides
use Rattle.fk_natives.specs.Natives.{State, OfConsole, OfServer, OfReplay, OfTap, Over, Taken, asks_at, asks_for, given_by, gives_left, hears, left_of, seen_of, side_of}
use Rattle.fk_responders.specs.Notes.{Note, is_seen}
use Rattle.fk_responders.specs.Words.{padded}
use Rattle.fk_responders.proofs.Replies.{padded_back}

-- the words of a reply that is made of at most 64
pub padded_words : (words : List ℕ) → length words ≤ 64 → reply_words (padded (take 64 words)) ≡ words
padded_words words few = padded_back (take 64 words) ∙ take_all 64 words few

-- at its own turn a server asks to give what is left of its reply
given_left : (left : List ℕ) → given_by (Some (gives_left left)) ≡ left
given_left [] = refl
given_left (word ∷ words) = padded_back (word ∷ words)

pub given_own : (s : State) → side_of s ≡ sides.Own → given_by (asks_for s) ≡ left_of s
given_own s own = ap (λ side. given_by (asks_at side (left_of s))) own ∙ given_left (left_of s)

-- it is at its own turn once it has computed a reply: where a talk is taken up at the server's turn, and where its client has handed over
pub own_taken : (s : State) (moved : ℕ) → side_of (hears s (Taken turns.Server moved)) ≡ sides.Own
own_taken (OfConsole alias words side) moved = refl
own_taken (OfServer index rule config position request left side) moved = refl
own_taken (OfReplay [] left side) moved = refl
own_taken (OfReplay (reply ∷ replies) left side) moved = refl
own_taken (OfTap watch noted inner) moved = own_taken inner moved

pub own_over : (s : State) → is_none (asks_for s) ≡ true → side_of (hears s Over) ≡ sides.Own
own_over (OfConsole alias words sides.Idle) none = absurd (cc)
own_over (OfConsole alias words sides.Client) none = refl
own_over (OfConsole alias words sides.Own) none = absurd (cc)
own_over (OfServer index rule config position request left sides.Idle) none = absurd (cc)
own_over (OfServer index rule config position request left sides.Client) none = refl
own_over (OfServer index rule config position request left sides.Own) none = absurd (cc)
own_over (OfReplay replies left sides.Idle) none = absurd (cc)
own_over (OfReplay [] left sides.Client) none = refl
own_over (OfReplay (reply ∷ replies) left sides.Client) none = refl
own_over (OfReplay replies left sides.Own) none = absurd (cc)
own_over (OfTap watch noted inner) none = own_over inner none

-- two notes, one after the other
pub seen_both : (watch : ℕ) (first second : Note) (before between after : List Note) → between ≡ before ++ seen_of watch (first ∷ []) →
    after ≡ between ++ seen_of watch (second ∷ []) → after ≡ before ++ seen_of watch (first ∷ second ∷ [])
seen_both watch first second before between after one two =
    two ∙ (ap (λ ns. ns ++ seen_of watch (second ∷ [])) one ∙ (append_assoc before (seen_of watch (first ∷ [])) (seen_of watch (second ∷ []))
    ∙ ap (λ ns. before ++ ns) (sym (filter-append (is_seen watch) (first ∷ []) (second ∷ [])))))
