-- Jobs, each by itself.
use Rattle.std.specs.Prelude.{ℕ, ℤ, Bool, not, ◌==◌, nat_lt, List, [], ◌∷◌, ◌++◌, Option, Some, None, Result, Ok, Err, if◌then◌else◌, codes}
use Rattle.std.specs.List.{list_any}
use Rattle.std.specs.Str.{bytes_eq}
use Rattle.toml.specs.Data.{Data, Items, no_items, item, Members, as_array, as_table}
use Rattle.fk_model.specs.Names.{is_name}
use Rattle.fk_scenario.specs.Fields.Gives.{◌>>=◌, or_rule, unless}
use Rattle.fk_scenario.specs.Fields.Fields.{known, array_in, integer_in, needed_text, needed_integer, integers_from, ranged, ranged_or}
use Rattle.fk_scenario.specs.Fields.Paths.{parse_path}
use Rattle.fk_scenario.specs.declared.entries.jobs.JobEntry.{JobEntry}
use Rattle.fk_scenario.specs.declared.entries.jobs.JobKind.{JobKind}
use Rattle.fk_scenario.specs.declared.entries.jobs.JobKind.TheVariants.{Checkpoint, Restore}
use Rattle.fk_scenario.specs.declared.entries.jobs.JobFields as code

-- an array of integers; else rule 2
abbrev pub list_of : Data → Result (List ℤ) ℕ
list_of value = or_rule 2 (as_array value) >>= integers_from []

-- such arrays after those so far
unfoldable pub lists_from : List (List ℤ) → Items → Result (List (List ℤ)) ℕ
lists_from done no_items = Ok done
lists_from done (item value rest) = list_of value >>= λ numbers. lists_from (done ++ numbers ∷ []) rest

-- no array is one of no arrays
abbrev pub lists_of : Option Items → Result (List (List ℤ)) ℕ
lists_of None = Ok []
lists_of (Some ds) = lists_from [] ds

abbrev pub is_restore : List ℕ → Bool
is_restore kind = bytes_eq kind (codes "restore")

-- the pairs of a restore, as they are written
unfoldable pub pairs_in : Members → Result (List (List ℤ)) ℕ
pairs_in ms = do
  _ ← known (codes "kind" ∷ codes "at" ∷ codes "nester" ∷ codes "slot" ∷ codes "image" ∷ codes "bind" ∷ []) ms
  array ← array_in (codes "bind") ms
  lists_of array

-- a restore alone may have them
unfoldable pub bind_in : List ℕ → Members → Result (List (List ℤ)) ℕ
bind_in kind ms =
    if is_restore kind then pairs_in ms
    else (known (codes "kind" ∷ codes "at" ∷ codes "nester" ∷ codes "slot" ∷ codes "image" ∷ []) ms >>= λ _. Ok [])

-- what a job's keys have, as it is written
pub record JobFields : Type 0 where
  pub kind : List ℕ
  pub bind : List (List ℤ)
  pub moment : Option ℤ
  pub nester : List ℕ
  pub slot : ℤ
  pub image : List ℕ

-- the same as the code has it
abbrev pub job_fields_view : code.JobFields → JobFields
job_fields_view fields = record {
  kind = fields.kind.now;
  bind = fields.bind;
  moment = fields.moment;
  nester = fields.nester.now;
  slot = fields.slot;
  image = fields.image.now;
}

-- its keys and their types (2)
unfoldable pub job_fields : Members → Result JobFields ℕ
job_fields ms = do
  kind ← needed_text (codes "kind") ms
  bind ← bind_in kind ms
  moment ← integer_in (codes "at") ms
  nester ← needed_text (codes "nester") ms
  slot ← needed_integer (codes "slot") ms
  image ← needed_text (codes "image") ms
  Ok (record { kind = kind; bind = bind; moment = moment; nester = nester; slot = slot; image = image })

-- two slots, else rule 3
abbrev pub pair_of : List ℤ → Result (ℕ × ℕ) ℕ
pair_of (a ∷ b ∷ []) = do
  a ← ranged 0 239 a
  b ← ranged 0 239 b
  Ok (a, b)
pair_of _ = Err 3

-- pairs of slots after those so far
unfoldable pub pairs_from : List (ℕ × ℕ) → List (List ℤ) → Result (List (ℕ × ℕ)) ℕ
pairs_from done [] = Ok done
pairs_from done (l ∷ ls) = pair_of l >>= λ pair. pairs_from (done ++ pair ∷ []) ls

-- an earlier pair has this first slot
abbrev pub is_bound : List (ℕ × ℕ) → ℕ → Bool
is_bound pairs slot = list_any (λ p. p.0 == slot) pairs

-- the first slots of pairs are distinct, else rule 6
unfoldable pub distinct_from : List (ℕ × ℕ) → List (ℕ × ℕ) → Result (List (ℕ × ℕ)) ℕ
distinct_from done [] = Ok done
distinct_from done (p ∷ ps) = unless 6 (not (is_bound done p.0)) >>= λ _. distinct_from (done ++ p ∷ []) ps

-- the event and the slot in their ranges, and the pairs of slots; at most 16 jobs (3)
unfoldable pub numbers_of : ℕ → JobFields → Result (ℕ × ℕ × List (ℕ × ℕ)) ℕ
numbers_of before fields = do
  moment ← ranged_or 0 0 1000000 fields.moment
  slot ← ranged 0 239 fields.slot
  pairs ← pairs_from [] fields.bind
  _ ← unless 3 (nat_lt before 16)
  Ok (moment, slot, pairs)

-- what is done by a job of a kind; an unknown kind is rule 4, a slot that is bound twice rule 6
unfoldable pub job_kind : List ℕ → List (ℕ × ℕ) → Result JobKind ℕ
job_kind kind pairs =
    if is_restore kind then (distinct_from [] pairs >>= λ bind. Ok (Restore bind))
    else if bytes_eq kind (codes "checkpoint") then Ok Checkpoint
    else Err 4

-- a job after some others: its keys and types (2), ranges (3), forms (4), and bound slots (6)
unfoldable pub job_of : ℕ → Members → Result JobEntry ℕ
job_of before ms = do
  fields ← job_fields ms
  numbers ← numbers_of before fields
  nester ← parse_path fields.nester
  _ ← unless 4 (is_name fields.image)
  kind ← job_kind fields.kind numbers.2
  Ok (record { moment = numbers.0; nester = nester; slot = numbers.1; image = fields.image; kind = kind })

-- the job of an entry; one that is no table is rule 2
unfoldable pub job_in : ℕ → Data → Result JobEntry ℕ
job_in before value = or_rule 2 (as_table value) >>= job_of before
