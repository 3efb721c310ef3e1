-- The replies of a record, by the place of their server.
use Rattle.std.specs.Prelude.{ℕ, suc, ◌==◌, List, [], ◌∷◌, ◌++◌, replicate, Option, Some, None, if◌then◌else◌}
use Rattle.fk_record_text.specs.Record.{Entry}
use Rattle.laws_pair.specs.Notes.{reply_of}

abbrev pub listed : Option (List ℕ) → List (List ℕ)
listed None = []
listed (Some reply) = reply ∷ []

-- the replies that an entry adds at a place: its own, where it is of this place
abbrev pub added_at : ℕ → Entry → List (List ℕ)
added_at place e = if e.place == place then listed (reply_of e.note) else []

-- the lists of the places from one on, and one entry more
abbrev pub with_from : ℕ → Entry → List (List (List ℕ)) → List (List (List ℕ))
with_from place e [] = []
with_from place e (replies ∷ lists) = (replies ++ added_at place e) ∷ with_from (suc place) e lists

abbrev pub with_reply : Entry → List (List (List ℕ)) → List (List (List ℕ))
with_reply e lists = with_from 0 e lists

abbrev pub none_of : ℕ → List (List (List ℕ))
none_of count = replicate count []

-- the lists with all of these entries
abbrev pub all_added : List Entry → List (List (List ℕ)) → List (List (List ℕ))
all_added [] lists = lists
all_added (e ∷ es) lists = all_added es (with_reply e lists)
