-- Records: how the notes of native servers are spelled, and which line of a text is the first bad one.
use Rattle.std.specs.Prelude.{◌≡◌, ◌≢◌, ◌⊎◌, ℕ, ◌+◌, ◌^◌, ◌<◌, ◌≤◌, List, [], ◌∷◌, ◌++◌, Some, All, codes, decimal, length, slice_index_or}
use Rattle.std.specs.List.{flat_map}
use Rattle.fk_model.specs.declared.thread.Turn.{Turn}
use Rattle.fk_model.specs.declared.thread.Turn.TheVariants as turns
use Rattle.fk_responders.specs.Notes.{Note, Taken, Said, Over, Reply, Ended}
use Rattle.fk_record_text.specs.Reading.{place_of}
pub use Rattle.fk_trace_text.specs.Trace.{ended_line}

-- ---- notes

abbrev pub turn_text : Turn → List ℕ
turn_text turns.Client = codes "client"
turn_text turns.Server = codes "server"

-- each word after a space
abbrev pub words_text : List ℕ → List ℕ
words_text words = flat_map (λ word. codes " " ++ decimal word) words

-- a note
abbrev pub note_text : Note → List ℕ
note_text (Taken turn moved) = codes "taken " ++ (turn_text turn ++ (codes " " ++ decimal moved))
note_text (Said words) = codes "said" ++ words_text words
note_text Over = codes "over"
note_text (Reply words) = codes "reply" ++ words_text words
note_text Ended = codes "ended"

-- at most 64 words, each below 2^64
pub record AreWords (words : List ℕ) : Type 0 where
  pub few : length words ≤ 64
  pub small : All (λ word. word < 2 ^ 64) words

abbrev pub IsNote : Note → Type 0
IsNote (Taken turn moved) = moved < 2 ^ 16
IsNote (Said words) = AreWords words
IsNote Over = Unit {0}
IsNote (Reply words) = AreWords words
IsNote Ended = Unit {0}

-- ---- lines

-- a note, with the place of its server in the file
pub record Entry : Type 0 where
  pub place : ℕ
  pub note : Note

abbrev pub first_line : List ℕ
first_line = ended_line (codes "fluke-record 1")

-- the path of the port at a place
abbrev pub port_text : List (List ℕ) → ℕ → List ℕ
port_text ports place = slice_index_or ports place []

abbrev pub line_text : List (List ℕ) → Entry → List ℕ
line_text ports entry = ended_line (port_text ports entry.place ++ (codes " " ++ note_text entry.note))

abbrev pub lines_text : List (List ℕ) → List Entry → List ℕ
lines_text ports entries = flat_map (line_text ports) entries

-- a record: the first line, and a line for each note
abbrev pub record_text : List (List ℕ) → List Entry → List ℕ
record_text ports entries = first_line ++ lines_text ports entries

-- ---- what is spelled

-- an entry that may follow one of this place: its port is the first with its path, and comes no earlier
pub record IsEntry (ports : List (List ℕ)) (from : ℕ) (entry : Entry) : Type 0 where
  pub named : place_of ports (port_text ports entry.place) ≡ Some entry.place
  pub order : from ≤ entry.place
  pub note : IsNote entry.note

abbrev pub AreEntries : List (List ℕ) → ℕ → List Entry → Type 0
AreEntries ports from [] = Unit {0}
AreEntries ports from (entry ∷ entries) = IsEntry ports from entry × AreEntries ports entry.place entries

-- the place that the next entry may not come before
abbrev pub place_after : ℕ → List Entry → ℕ
place_after from [] = from
place_after from (entry ∷ entries) = place_after entry.place entries

-- a text is the record of these entries
pub record Spells (ports : List (List ℕ)) (text : List ℕ) (entries : List Entry) : Type 0 where
  pub legal : AreEntries ports 0 entries
  pub spelled : text ≡ record_text ports entries

-- a text begins with the line of an entry, and goes on so
pub record BeginsWith (ports : List (List ℕ)) (from : ℕ) (text : List ℕ) (entry : Entry) (after : List ℕ) : Type 0 where
  pub legal : IsEntry ports from entry
  pub spelled : text ≡ line_text ports entry ++ after

abbrev pub BeginsWithNone : List (List ℕ) → ℕ → List ℕ → Type 0
BeginsWithNone ports from text = (entry : Entry) (after : List ℕ) → BeginsWith ports from text entry after → ⊥

-- a text begins with the record of entries and goes on, but not with the line of an entry that may follow
pub record StopsAfter (ports : List (List ℕ)) (text : List ℕ) (entries : List Entry) : Type 0 where
  pub legal : AreEntries ports 0 entries
  pub rest : List ℕ
  pub spelled : text ≡ record_text ports entries ++ rest
  pub goes_on : rest ≢ []
  pub stops : BeginsWithNone ports (place_after 0 entries) rest

abbrev pub HasNoFirstLine : List ℕ → Type 0
HasNoFirstLine text = (rest : List ℕ) → text ≢ first_line ++ rest

-- this line, counted from 1, is the first that is misspelled, names none of the ports, or names a port that comes before that of an earlier line
abbrev pub IsFirstBad : List (List ℕ) → List ℕ → ℕ → Type 0
IsFirstBad ports text line = (HasNoFirstLine text × (line ≡ 1))
    ⊎ ((entries : List Entry) × StopsAfter ports text entries × (line ≡ length entries + 2))
