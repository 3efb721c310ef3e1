-- Codes of notes and of servers: values of a `Model` need one, and a type that holds itself has none by itself.
use Rattle.std.specs.Prelude.{◌≡◌, ◌⊎◌, ℕ, Bool, true, false, List, [], ◌∷◌, refl}
use mathlib.Core.Logic.{inl, inr}
use Rattle.std.specs.Coded.{Coded, code_by, coded×, coded⊎, coded_ℕ, coded_bool, coded_list}
use Rattle.fk_model.specs.declared.moves.Rule.{Rule}
use Rattle.fk_model.specs.declared.names.Who.{Who}
use Rattle.fk_model.specs.declared.thread.Turn.{Turn}
use Rattle.fk_model.specs.contracts.moves.Rule as rule
use Rattle.fk_model.specs.contracts.names.Who as who
use Rattle.fk_model.specs.contracts.thread.Turn as turn
use Rattle.fk_natives.specs.contracts.service.Side as side
use Rattle.fk_natives.specs.declared.service.Side.{Side}
use Rattle.fk_natives.specs.Natives.{State, OfConsole, OfServer, OfReplay, OfTap}
use Rattle.fk_responders.specs.Notes.{Note, Taken, Said, Over, Reply, Ended}
use Rattle.fk_served.specs.Served.{Housed}

-- ---- notes

abbrev pub NoteParts : Type 0
NoteParts = (Turn × ℕ) ⊎ (List ℕ ⊎ (List ℕ ⊎ Bool))

abbrev pub note_parts : Note → NoteParts
note_parts (Taken turn moved) = inl (turn, moved)
note_parts (Said words) = inr (inl words)
note_parts (Reply words) = inr (inr (inl words))
note_parts Over = inr (inr (inr false))
note_parts Ended = inr (inr (inr true))

abbrev pub note_from : NoteParts → Note
note_from (inl taken) = Taken taken.0 taken.1
note_from (inr (inl words)) = Said words
note_from (inr (inr (inl words))) = Reply words
note_from (inr (inr (inr false))) = Over
note_from (inr (inr (inr true))) = Ended

abbrev pub note_back : (note : Note) → note_from (note_parts note) ≡ note
note_back (Taken turn moved) = refl
note_back (Said words) = refl
note_back (Reply words) = refl
note_back Over = refl
note_back Ended = refl

abbrev pub note_code : Coded Note
note_code = code_by NoteParts (coded⊎ (coded× turn.the_row.coded coded_ℕ) (coded⊎ (coded_list coded_ℕ) (coded⊎ (coded_list coded_ℕ) coded_bool)))
    note_parts note_from note_back

-- ---- servers: the server inside all taps, and the list of the taps, the outermost first

abbrev pub ConsoleParts : Type 0
ConsoleParts = List ℕ × (List ℕ × Side)

abbrev pub ServerParts : Type 0
ServerParts = ℕ × (Rule × (List ℕ × (ℕ × (List ℕ × (List ℕ × Side)))))

abbrev pub ReplayParts : Type 0
ReplayParts = List (List ℕ) × (List ℕ × Side)

abbrev pub Parts : Type 0
Parts = (ConsoleParts ⊎ (ServerParts ⊎ ReplayParts)) × List (ℕ × List Note)

abbrev pub inside : State → ConsoleParts ⊎ (ServerParts ⊎ ReplayParts)
inside (OfConsole alias words side) = inl (alias, (words, side))
inside (OfServer index rule config position request left side) = inr (inl (index, (rule, (config, (position, (request, (left, side)))))))
inside (OfReplay replies left side) = inr (inr (replies, (left, side)))
inside (OfTap watch noted inner) = inside inner

abbrev pub taps : State → List (ℕ × List Note)
taps (OfConsole alias words side) = []
taps (OfServer index rule config position request left side) = []
taps (OfReplay replies left side) = []
taps (OfTap watch noted inner) = (watch, noted) ∷ taps inner

abbrev pub from_inside : ConsoleParts ⊎ (ServerParts ⊎ ReplayParts) → State
from_inside (inl c) = OfConsole c.0 c.1.0 c.1.1
from_inside (inr (inl s)) = OfServer s.0 s.1.0 s.1.1.0 s.1.1.1.0 s.1.1.1.1.0 s.1.1.1.1.1.0 s.1.1.1.1.1.1
from_inside (inr (inr r)) = OfReplay r.0 r.1.0 r.1.1

abbrev pub tapped_by : List (ℕ × List Note) → State → State
tapped_by [] s = s
tapped_by (t ∷ ts) s = OfTap t.0 t.1 (tapped_by ts s)

abbrev pub state_parts : State → Parts
state_parts s = (inside s, taps s)

abbrev pub state_from : Parts → State
state_from p = tapped_by p.1 (from_inside p.0)

abbrev pub state_back : (s : State) → state_from (state_parts s) ≡ s
state_back (OfConsole alias words side) = refl
state_back (OfServer index rule config position request left side) = refl
state_back (OfReplay replies left side) = refl
state_back (OfTap watch noted inner) = λ i. OfTap watch noted (state_back inner i)

abbrev pub state_code : Coded State
state_code = code_by Parts
    (coded×
    (coded⊎ (coded× (coded_list coded_ℕ) (coded× (coded_list coded_ℕ) side.the_row.coded))
    (coded⊎
    (coded× coded_ℕ (coded× rule.the_row.coded (coded× (coded_list coded_ℕ) (coded× coded_ℕ
    (coded× (coded_list coded_ℕ) (coded× (coded_list coded_ℕ) side.the_row.coded))))))
    (coded× (coded_list (coded_list coded_ℕ)) (coded× (coded_list coded_ℕ) side.the_row.coded))))
    (coded_list (coded× coded_ℕ (coded_list note_code))))
    state_parts state_from state_back

abbrev pub housed_code : Coded Housed
housed_code = code_by (List (Who × State) × Bool) (coded× (coded_list (coded× who.the_row.coded state_code)) coded_bool) (λ h. (h.list, h.ready))
    (λ p. record { list = p.0; ready = p.1 }) (λ _. refl)
