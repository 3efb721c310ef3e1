-- The record of the notes of servers, and what is read of it.
use Rattle.std.specs.Prelude.{◌≡◌, ℕ, ◌==◌, List, [], ◌∷◌, ◌++◌, map, filter, All, codes}
use Rattle.std.specs.List.{flat_map, slice_index_or}
use Rattle.std.specs.List.{AllPairs}
use Rattle.fk_responders.specs.Notes.{Note}
use Rattle.fk_record_text.specs.Record.{ended_line, first_line, note_text, IsNote, Entry, Spells}

-- the lines of notes at the port with this path
abbrev pub port_lines : List ℕ → List Note → List ℕ
port_lines port notes = flat_map (λ note. ended_line (port ++ (codes " " ++ note_text note))) notes

-- the lines of all servers in the order of the file, each with the path of its port
abbrev pub all_lines : List (List ℕ × List Note) → List ℕ
all_lines [] = []
all_lines (server ∷ servers) = port_lines server.0 server.1 ++ all_lines servers

abbrev pub record_of : List (List ℕ × List Note) → List ℕ
record_of servers = first_line ++ all_lines servers

abbrev pub ports_of : List (List ℕ × List Note) → List (List ℕ)
ports_of servers = map (λ s. s.0) servers

-- the notes of the server at a place
abbrev pub notes_of_place : ℕ → List Entry → List Note
notes_of_place place entries = map (λ e. e.note) (filter (λ e. e.place == place) entries)

-- the paths differ
abbrev pub AreApart : List (List ℕ) → Type 0
AreApart ports = AllPairs (λ p q. p ≡ q → ⊥) ports

-- the record is read as these entries, which are the notes of each server
pub record ReadsBack (servers : List (List ℕ × List Note)) (entries : List Entry) : Type 0 where
  pub spells : Spells (ports_of servers) (record_of servers) entries
  pub notes : (place : ℕ) → notes_of_place place entries ≡ slice_index_or (map (λ s. s.1) servers) place []

-- the record of servers at different ports is read as their notes
abbrev pub RecordsReadBack : Type 0
RecordsReadBack = (servers : List (List ℕ × List Note)) → AreApart (ports_of servers) → All (λ s. All IsNote s.1) servers →
    (entries : List Entry) × ReadsBack servers entries
