-- How the lines of a record are read, and what comes of them.
use Rattle.std.specs.declared.alloc.Global.{Global}
use Rattle.std.specs.Prelude.{◌≡◌, ℕ, ◌<◌, nat_le, Vec, List, map, All, Option, Some, None, Result, Ok, Err, if◌then◌else◌}
use Rattle.fk_responders.specs.Notes.{Note, note_of}
use Rattle.fk_trace_text.specs.Reading.{cut_at}
use Rattle.fk_record_text.specs.declared.entry.Entry as declared
use Rattle.fk_record_text.specs.declared.fail.RecordFail.{RecordFail}
use Rattle.fk_record_text.specs.declared.fail.RecordFail.TheVariants as fails
use Rattle.fk_record_text.specs.Reading.{place_of, note_in}
use Rattle.fk_record_text.specs.Record.{Entry, IsFirstBad}

-- the path of a port has bytes above 32 alone, so no space and no line feed
abbrev pub IsPath : List ℕ → Type 0
IsPath text = All (λ byte. 32 < byte) text

-- texts are the paths of ports
abbrev pub ArePorts : List (List ℕ) → Type 0
ArePorts ports = All IsPath ports

-- an entry of the code
abbrev pub entry_of : declared.Entry → Entry
entry_of e = record { place = e.place; note = note_of e.note }

-- entries of the code
abbrev pub entries_of : List declared.Entry → List Entry
entries_of entries = map entry_of entries

abbrev pub entry_by : ℕ → Option ℕ → Option Note → Option Entry
entry_by from None n = None
entry_by from (Some place) None = None
entry_by from (Some place) (Some note) = if nat_le from place then Some (record { place = place; note = note }) else None

abbrev pub entry_parts : List (List ℕ) → ℕ → Option (List ℕ × List ℕ) → Option Entry
entry_parts ports from None = None
entry_parts ports from (Some parts) = entry_by from (place_of ports parts.0) (note_in parts.1)

unfoldable pub entry_in : List (List ℕ) → ℕ → List ℕ → Option Entry
entry_in ports from line = entry_parts ports from (cut_at 32 line)

-- why a text isn't read: its first bad line, or want of memory
abbrev pub IsCause : List (List ℕ) → List ℕ → RecordFail → Type 0
IsCause ports text (fails.Record line) = IsFirstBad ports text line
IsCause ports text fails.NoMemory = Unit {0}

-- the record of these entries is read as them, or there is no memory for them
abbrev pub GivesEntries : List Entry → Result (Vec declared.Entry Global) RecordFail → Type 0
GivesEntries entries (Ok read) = entries_of read.items ≡ entries
GivesEntries entries (Err fails.NoMemory) = Unit {0}
GivesEntries entries (Err (fails.Record line)) = ⊥
