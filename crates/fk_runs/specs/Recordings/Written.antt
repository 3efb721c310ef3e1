-- The record that is written of taps. No promise rests on these steps: what is written is proved to be the record of the run.
use Rattle.std.specs.Prelude.{ℕ, ◌+◌, List, [], ◌∷◌, ◌++◌, All}
use Rattle.fk_natives.specs.Natives.{State, OfConsole, OfServer, OfReplay, OfTap}
use Rattle.fk_record_text.specs.Record.{first_line, port_text, IsNote}
use Rattle.fk_record_text.specs.Whole.{port_lines}
use Rattle.fk_first.specs.Served.{Services}

-- the lines of a tap, whose port is that at a place
abbrev pub lines_of : List (List ℕ) → ℕ → State → List ℕ
lines_of ports place (OfTap watch noted inner) = port_lines (port_text ports place) noted
lines_of ports place other = []

-- the place of the next tap
abbrev pub place_behind : ℕ → State → ℕ
place_behind place (OfTap watch noted inner) = place + 1
place_behind place other = place

abbrev pub lines_from : List (List ℕ) → ℕ → Services → List ℕ
lines_from ports place [] = []
lines_from ports place (e ∷ es) = lines_of ports place e.1 ++ lines_from ports (place_behind place e.1) es

-- the record of what these taps hold
abbrev pub written_of : List (List ℕ) → Services → List ℕ
written_of ports services = first_line ++ lines_from ports 0 services

-- each note of a tap is as small as its types
abbrev pub IsSmallTap : State → Type 0
IsSmallTap (OfTap watch noted inner) = All IsNote noted
IsSmallTap other = Unit {0}

-- what these taps hold is as small as its types
abbrev pub AreSmallTaps : Services → Type 0
AreSmallTaps [] = Unit {0}
AreSmallTaps (e ∷ es) = IsSmallTap e.1 × AreSmallTaps es
