-- Objects are read by what they are asked.
use Rattle.std.proofs.Common.{◌≡◌, ℕ, ℤ, Bool, true, false, not, ◌&&◌, nat_lt, List, [], ◌∷◌, ◌++◌, length, Option, Some, None, option_map, Result, Ok}
use Rattle.std.proofs.Common.{codes, refl, ap, ◌∙◌}
use Rattle.std.proofs.lemmas.List.{append_assoc}
use Rattle.toml.specs.Data.{Data, Items, no_items, item, Members}
use Rattle.fk_scenario.specs.Fields.Gives.{◌>>=◌, placed}
use Rattle.fk_scenario.specs.Fields.Paths.{enclosing}
use Rattle.fk_scenario.specs.declared.entries.types.SpaceEntry.{SpaceEntry}
use Rattle.fk_scenario.specs.declared.entries.types.ObjectEntry.{ObjectEntry}
use Rattle.fk_scenario.specs.declared.entries.types.Spec.{Spec}
use Rattle.fk_scenario.specs.declared.entries.types.Spec.TheVariants.{Cond, Portset}
use Rattle.fk_scenario.specs.Entries.Objects as readers
use Rattle.fk_scenario.specs.Entries.Objects.{thread_spec, mutex_spec, extent_in, window_of, mapping_keys, mapping_spec, region_spec, set_of, port_spec}
use Rattle.fk_scenario.specs.Entries.Objects.{reference_spec, plain_spec, spec_of, object_entry}
use Rattle.fk_scenario.specs.Sections.Spaces.{has_space, has_space_or_root}
use Rattle.fk_scenario.specs.Sections.Objects.{has_object, object_after, objects_from}
use Rattle.laws_scenario_faults.specs.Tables.{table_of, is_table, is_text, has, items, text, text_at, integer, is_in_if, number, is_path}
use Rattle.laws_scenario_faults.specs.Objects.{thread_asks, thread, mutex_asks, mutex, first, count, window_asks, mapping_asks, mapping, region_asks, region}
use Rattle.laws_scenario_faults.specs.Objects.{port_asks, port, reference_asks, reference, plain_asks, is_kind, body_asks, body, place, object_asks, object_of}
use Rattle.laws_scenario_faults.specs.Objects.{object_says, objects}
use Rattle.laws_scenario_faults.proofs.Rules.{by_rules, ends, tested, seq, ask, choose, read}
use Rattle.laws_scenario_faults.proofs.Fields.{or-read, known-read, text-read, flag-read, integer-read, needed-text-read, integers-read, ranged-read}
use Rattle.laws_scenario_faults.proofs.Fields.{ranged-or-read, words-read, path-read, path-if-read}
use Rattle.laws_scenario_faults.proofs.Entries.{step, table-entry}

module _ (ms : Members) where
  thread-read : thread_spec ms ≡ by_rules (thread_asks ms) (thread ms)
  unfolding thread_spec
  thread-read =
      ask _ _ _ _ _ (known-read _ ms) (ask _ _ _ _ _ (integer-read _ ms) (ask _ _ _ _ _ (integers-read _ ms) (ask _ _ _ _ _ (integer-read _ ms)
      (ask _ _ _ _ _ (ranged-or-read 0 0 16383 (integer (codes "entry") ms))
      (ask _ _ _ _ _ (words-read [] _) (ask _ _ _ _ _ (tested _ _) (ask _ _ _ _ _ (ranged-or-read 0 0 65535 (integer (codes "stops") ms)) ends)))))))

  mutex-read : mutex_spec ms ≡ by_rules (mutex_asks ms) (mutex ms)
  unfolding mutex_spec
  mutex-read = ask _ _ _ _ _ (known-read _ ms) (ask _ _ _ _ _ (flag-read _ ms) ends)

  window-read : window_of (integer (codes "first") ms, integer (codes "count") ms) ≡ by_rules (window_asks ms) (first ms, count ms)
  unfolding window_of
  window-read = ask _ _ _ _ _ (ranged-or-read 0 0 255 (integer (codes "first") ms))
      (ask _ _ _ _ _ (ranged-or-read 1 1 256 (integer (codes "count") ms)) (ask _ _ _ _ _ (tested _ _) ends))

  mapping-read : mapping_spec ms ≡ by_rules (mapping_asks ms) (mapping ms)
  unfolding mapping_spec mapping_keys extent_in
  mapping-read =
      seq _ _ _ _ _ _ (ask _ _ _ _ _ (known-read _ ms) (ask _ _ _ _ _ (text-read _ ms)
      (seq _ _ _ _ _ _ (ask _ _ _ _ _ (integer-read _ ms) (ask _ _ _ _ _ (integer-read _ ms) ends))
      (ask _ _ _ _ _ (integer-read _ ms) (ask _ _ _ _ _ (flag-read _ ms) ends)))))
      (seq (window_asks ms) _ _ _ _ _ window-read (ask _ _ _ _ _ (ranged-or-read 0 0 255 (integer (codes "offset") ms))
      (ask _ _ _ _ _ (path-if-read (text (codes "region") ms)) ends)))

  region-read : region_spec ms ≡ by_rules (region_asks ms) (region ms)
  unfolding region_spec extent_in
  region-read =
      ask _ _ _ _ _ (known-read _ ms) (seq _ _ _ _ _ _ (ask _ _ _ _ _ (integer-read _ ms) (ask _ _ _ _ _ (integer-read _ ms) ends))
      (ask _ _ _ _ _ (flag-read _ ms) (ask _ _ _ _ _ (text-read _ ms)
      (seq (window_asks ms) _ _ _ _ _ window-read (ask _ _ _ _ _ (path-if-read (text (codes "keeper") ms)) ends)))))

  set-read : (o : Option ℤ) → set_of o ≡ by_rules ((3, is_in_if 0 239 o) ∷ []) (option_map number o)
  unfolding by_rules
  set-read None = refl
  set-read (Some z) = by _ _ (ranged-read 0 239 z)
    where
      by : (t : Bool) (r : Result ℕ ℕ) → r ≡ by_rules ((3, t) ∷ []) (number z) → (r >>= λ slot. Ok (Some slot)) ≡ by_rules ((3, t) ∷ []) (Some (number z))
      by true r is = rw is refl
      by false r is = rw is refl

  port-read : port_spec ms ≡ by_rules (port_asks ms) (port ms)
  unfolding port_spec
  port-read = ask _ _ _ _ _ (known-read _ ms) (ask _ _ _ _ _ (integer-read _ ms) (ask _ _ _ _ _ (set-read (integer (codes "set") ms)) ends))

  reference-read : reference_spec ms ≡ by_rules (reference_asks ms) (reference ms)
  unfolding reference_spec
  reference-read = ask _ _ _ _ _ (known-read _ ms) (ask _ _ _ _ _ (text-read _ ms) (ask _ _ _ _ _ (path-if-read (text (codes "to") ms)) ends))

  known-kind : (spec : Spec) → plain_spec (Some spec) ms ≡ by_rules (plain_asks true ms) spec
  unfolding plain_spec
  known-kind spec = ask _ _ _ _ _ (known-read _ ms) (or-read 4 (Some spec) spec)

  unknown-kind : plain_spec None ms ≡ by_rules (plain_asks false ms) Cond
  unfolding plain_spec
  unknown-kind = ask _ _ _ _ _ (known-read _ ms) (or-read 4 None Cond)

  body-read : spec_of (text_at (codes "kind") ms) ms ≡ by_rules (body_asks ms) (body ms)
  unfolding spec_of
  body-read =
      choose (is_kind ms (codes "thread")) _ _ _ _ _ _ thread-read
      (choose (is_kind ms (codes "mutex")) _ _ _ _ _ _ mutex-read
      (choose (is_kind ms (codes "cond")) _ _ _ _ _ _ (known-kind Cond)
      (choose (is_kind ms (codes "mapping")) _ _ _ _ _ _ mapping-read
      (choose (is_kind ms (codes "region")) _ _ _ _ _ _ region-read
      (choose (is_kind ms (codes "port")) _ _ _ _ _ _ port-read
      (choose (is_kind ms (codes "portset")) _ _ _ _ _ _ (known-kind Portset)
      (choose (is_kind ms (codes "reference")) _ _ _ _ _ _ reference-read unknown-kind)))))))

  abbrev by_itself_asks : List (ℕ × Bool)
  by_itself_asks = (2, has is_text (codes "at") ms) ∷ (2, has is_text (codes "kind") ms)
      ∷ (body_asks ms ++ (4, is_path (text_at (codes "at") ms)) ∷ (4, nat_lt 0 (length (place ms))) ∷ [])

  object-of : readers.object_of ms ≡ by_rules by_itself_asks (object_of ms)
  unfolding readers.object_of
  object-of =
      ask _ _ _ _ _ (needed-text-read _ ms) (ask _ _ _ _ _ (needed-text-read _ ms)
      (seq (body_asks ms) _ _ _ _ _ body-read (ask _ _ _ _ _ (path-read _) (ask _ _ _ _ _ (tested _ _) ends))))

module _ (ss : List SpaceEntry) where
  object-entry : (value : Data) → object_entry value ≡ by_rules ((2, is_table value) ∷ by_itself_asks (table_of value)) (object_of (table_of value))
  unfolding object_entry
  object-entry value = table-entry value readers.object_of by_itself_asks object_of object-of

  abbrev where_asks : List ObjectEntry → Members → List (ℕ × Bool)
  where_asks done ms =
      (5, has_space_or_root ss (enclosing (place ms))) ∷ (6, not (has_space ss (place ms)) && not (has_object done (place ms))) ∷ []

  object-parts : (done : List ObjectEntry) (value : Data) → object_after ss done value
      ≡ by_rules (((2, is_table value) ∷ by_itself_asks (table_of value)) ++ where_asks done (table_of value)) (object_of (table_of value))
  unfolding object_after
  object-parts done value = seq _ (where_asks done (table_of value)) _ _ _ _ (object-entry value) (ask _ _ _ _ _ (tested _ _) (ask _ _ _ _ _ (tested _ _) ends))

  object-read : (done : List ObjectEntry) (value : Data) → object_after ss done value ≡ by_rules (object_asks ss done value) (object_says done value)
  unfolding object_asks object_says
  object-read done value =
      object-parts done value ∙ ap (λ asked. by_rules ((2, is_table value) ∷ (2, has is_text (codes "at") (table_of value))
      ∷ (2, has is_text (codes "kind") (table_of value)) ∷ asked) (object_of (table_of value))) (append_assoc (body_asks (table_of value)) _ _)

  pub objects-read : (done : List ObjectEntry) (ds : Items) → objects_from ss done ds ≡ read 4 (objects ss) done (items ds)
  unfolding objects_from read items
  objects-read done no_items = refl
  objects-read done (item value rest) =
      step _ _ _ _ (ap (placed 4 (length done)) (object-read done value)) (λ o. objects-read (done ++ o ∷ []) rest)
