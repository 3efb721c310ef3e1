-- Hearers: whom a move tells something, and what it leaves empty.
use Rattle.std.specs.Prelude.{◌≡◌, ◌-◌, ℕ, Bool, false, Option, Some, None, drop, replicate, ⊤}
use Rattle.fk_model.specs.declared.limits.TheConstants.{PAGE_WORDS}
use Rattle.fk_model.specs.declared.moves.Said as says_of
use Rattle.fk_model.specs.declared.moves.Said.TheVariants as says
use Rattle.fk_model.specs.declared.names.Who.{Who}
use Rattle.fk_model.specs.Outcomes as outcomes
use Rattle.fk_model.specs.Outcomes.Said.{Nothing, Answered, Taken, Words, Given, Full, Passed, Ended}
use Rattle.fk_model.specs.Places.{Path, leads_to}
use Rattle.fk_store.specs.Store.Names.{same_who}
use Rattle.fk_store.specs.Store.Paths.{place}

-- the port whose server hears what a move tells. That its talk has ended it is told of each move besides
abbrev pub told_port : says_of.Said → Option Who
told_port says.Nothing = None
told_port (says.Answer answer) = None
told_port (says.Taken port client resumed turn moved) = Some port
told_port (says.Words port words len) = Some port
told_port (says.Given port len) = Some port
told_port (says.Full port) = Some port
told_port (says.Over port) = Some port
told_port (says.Ended port) = None

-- what a move tells, it tells the server of the port at a path
abbrev pub says_to : outcomes.Said → Path → Bool
says_to (Taken port client resumed turn moved) x = leads_to x port
says_to (Words port words) x = leads_to x port
says_to (Given port count) x = leads_to x port
says_to (Full port) x = leads_to x port
says_to (Passed port) x = leads_to x port
says_to other x = false

-- the same by names
abbrev pub says_to_who : says_of.Said → Who → Bool
says_to_who (says.Taken port client resumed turn moved) who = same_who who port
says_to_who (says.Words port words len) who = same_who who port
says_to_who (says.Given port len) who = same_who who port
says_to_who (says.Full port) who = same_who who port
says_to_who (says.Over port) who = same_who who port
says_to_who other who = false

-- what a native server may hear of it: a porter's answer is for none, nor is that a talk has ended, which is told otherwise
abbrev pub to_servers : outcomes.Said → outcomes.Said
to_servers (Answered status words) = Nothing
to_servers (Ended port) = Nothing
to_servers other = other

-- who hears it by its path hears it by its name
abbrev pub IsHeard : (ℕ → Path) → outcomes.Said → says_of.Said → Type 0
IsHeard p said told = (who : Who) → says_to said (place p who) ≡ says_to_who told who

-- ---- what is told has no words past its length: they are 0
-- behind the words that are told there are zeros
abbrev pub IsPadded : says_of.Said → Type 0
IsPadded (says.Answer answer) = drop answer.len answer.words ≡ replicate (PAGE_WORDS - answer.len) 0
IsPadded (says.Words port words len) = drop len words ≡ replicate (PAGE_WORDS - len) 0
IsPadded other = ⊤
