-- What is read keeps its ranges and forms.
use Rattle.std.proofs.Common.{◌≡◌, ℕ, ℤ, pos, negsuc, ◌+◌, ◌≤◌, Bool, true, false, not, ◌&&◌, ◌==◌, nat_le, nat_lt, cond, List, [], ◌∷◌, ◌++◌, length, Option, Some, None, Result, Ok, Err, IfSome, unwrap_or, refl, sym, ap, subst, ◌∙◌, codes, arith}
use Rattle.std.proofs.lemmas.Bool.{leb-true, ltb-true}
use Rattle.std.proofs.lemmas.List.{append-nil, append_assoc}
use Rattle.std.proofs.lemmas.List.Elements.{All-nil, All-push}
use Rattle.std.specs.List.{list_all, slice_split}
use Rattle.std.specs.Result.{result_ok}
use Rattle.std.specs.Str.{bytes_eq}
use Rattle.toml.specs.Data.{Data, Members, as_str, as_table}
use Rattle.fk_model.specs.Names.{is_name}
use Rattle.fk_model.specs.Sound.{are_apart, bind_same}
use Rattle.fk_model.proofs.walks.Apart.{apart_push}
use Rattle.fk_model.specs.Numbers.{is_digit, value_of, number_up_to, has_leading_zero, plain_number_up_to}
use Rattle.fk_asm.specs.Assembler.{assembled}
use Rattle.fk_asm.specs.declared.fail.AsmError.{AsmError}
use Rattle.fk_asm.proofs.Few.{assembled-few}
use Rattle.fk_scenario.specs.Fields.Gives.{◌>>=◌, or_rule, unless}
use Rattle.fk_scenario.specs.Fields.Fields.{known, text_in, flag_in, integer_in, needed_text, integers_in, words_from, ranged, ranged_or}
use Rattle.fk_scenario.specs.Fields.Paths.{is_slash, slots_from, parse_path, optional_path}
use Rattle.fk_scenario.proofs.InFields.Steps.{after, unless-Ok, or_rule-Ok}
use Rattle.fk_scenario.specs.declared.entries.types.Program.{Program}
use Rattle.fk_scenario.specs.declared.entries.types.ObjectEntry.{ObjectEntry}
use Rattle.fk_scenario.specs.declared.entries.types.Spec.{Spec}
use Rattle.fk_scenario.specs.declared.entries.types.Spec.TheVariants.{Thread, Mutex, Cond, Portset, Mapping, Region, Port, Reference}
use Rattle.fk_scenario.specs.Entries.Programs.{program_words, program_of}
use Rattle.fk_scenario.specs.Entries.Objects.{thread_spec, mutex_spec, extent_in, window_of, mapping_keys, mapping_spec, region_spec, set_of, port_spec, reference_spec, plain_spec, spec_of, object_of, object_entry}
use Rattle.fk_scenario.specs.Entries.Kept.{AreSlots, IsSpecInRange, KeepsEntry, ArePairs, BindsSlots, KeepsJob}
use Rattle.fk_scenario.specs.declared.entries.jobs.JobEntry.{JobEntry}
use Rattle.fk_scenario.specs.declared.entries.jobs.JobKind.{JobKind}
use Rattle.fk_scenario.specs.declared.entries.jobs.JobKind.TheVariants as kinds
use Rattle.fk_scenario.specs.Entries.Jobs.{JobFields, job_fields, pair_of, pairs_from, is_bound, distinct_from, numbers_of, is_restore, job_kind, job_of, job_in}

-- numbers

within : (most : ℕ) (token : List ℕ) (n : ℕ) → plain_number_up_to most token ≡ Some n → n ≤ most
unfolding number_up_to
within most token n h = by (has_leading_zero token) (not (length token == 0) && list_all is_digit token) (nat_le (value_of token) most) refl h
  where
    by : (zero some le : Bool) → nat_le (value_of token) most ≡ le → cond zero None (cond (some && le) (Some (value_of token)) None) ≡ Some n → n ≤ most
    by true some le e h = absurd (cc)
    by false true true e h = let same : value_of token ≡ n = cc in omega (arith, leb-true (value_of token) most e)
    by false true false e h = absurd (cc)
    by false false le e h = absurd (cc)

pub in_range : (low high : ℕ) (z : ℤ) (n : ℕ) → ranged low high z ≡ Ok n → (low ≤ n) × (n ≤ high)
in_range low high (pos m) n h = by (nat_le low m) (nat_le m high) refl refl h
  where
    by : (a b : Bool) → nat_le low m ≡ a → nat_le m high ≡ b → cond {A = Result ℕ ℕ} (a && b) (Ok m) (Err 3) ≡ Ok n → (low ≤ n) × (n ≤ high)
    by true true e f h = let same : m ≡ n = cc in (omega (arith, leb-true low m e), omega (arith, leb-true m high f))
    by true false e f h = absurd (cc)
    by false b e f h = absurd (cc)
in_range low high (negsuc m) n h = absurd (cc)

in_range_or : (default low high : ℕ) (o : Option ℤ) (n : ℕ) → low ≤ default → default ≤ high → ranged_or default low high o ≡ Ok n → (low ≤ n) × (n ≤ high)
in_range_or default low high None n a b h = let same : default ≡ n = cc in (omega (arith, a), omega (arith, b))
in_range_or default low high (Some z) n a b h = in_range low high z n h

-- paths

slots_kept : (done : List ℕ) (pieces : List (List ℕ)) (path : List ℕ) → slots_from done pieces ≡ Ok path → AreSlots done → AreSlots path
unfolding slots_from
slots_kept done [] path h kept = let same : done ≡ path = cc in subst AreSlots same kept
slots_kept done (piece ∷ pieces) path h kept =
    after (or_rule 4 (plain_number_up_to 239 piece)) _ path h (λ slot is_slot h.
    slots_kept (done ++ slot ∷ []) pieces path h (All-push (λ k. k ≤ 239) done slot kept (within 239 piece slot (or_rule-Ok 4 _ slot is_slot))))

no_slots : AreSlots []
no_slots = All-nil (λ k. k ≤ 239)

pub path_kept : (text path : List ℕ) → parse_path text ≡ Ok path → AreSlots path
unfolding parse_path
path_kept [] path h = absurd (cc)
path_kept (byte ∷ []) path h = by (is_slash byte) h
  where
    by : (t : Bool) → cond {A = Result (List ℕ) ℕ} t (Ok []) (Err 4) ≡ Ok path → AreSlots path
    by true h = let same : [] ≡ path = cc in subst AreSlots same no_slots
    by false h = absurd (cc)
path_kept (byte ∷ more ∷ text) path h = by (is_slash byte) h
  where
    by : (t : Bool) → cond t (slots_from [] (slice_split is_slash (more ∷ text))) (Err 4) ≡ Ok path → AreSlots path
    by true h = slots_kept [] (slice_split is_slash (more ∷ text)) path h no_slots
    by false h = absurd (cc)

-- programs

words_few : (text words : List ℕ) → program_words text ≡ Ok words → length words ≤ 16384
words_few text words h = by (assembled text) refl h
  where
    by : (r : Result (List ℕ) AsmError) → assembled text ≡ r → or_rule 8 (result_ok r) ≡ Ok words → length words ≤ 16384
    by (Ok all) e h = let same : all ≡ words = cc in omega (arith, ap length same, assembled-few text all e)
    by (Err error) e h = absurd (cc)

pub program_kept : (name : List ℕ) (value : Data) (p : Program) → program_of name value ≡ Ok p → length p.words ≤ 16384
unfolding program_of
program_kept name value p h =
    after (or_rule 2 (as_str value)) _ p h (λ text _ h.
    after (unless 4 (is_name name)) _ p h (λ _ _ h.
    after (program_words text) _ p h (λ words are_words h.
    let same : words ≡ p.words = cc in omega (arith, ap length same, words_few text words are_words))))

-- objects

thread_kept : (ms : Members) (spec : Spec) → thread_spec ms ≡ Ok spec → IsSpecInRange spec
unfolding thread_spec
thread_kept ms spec h =
    after (known (codes "at" ∷ codes "kind" ∷ codes "entry" ∷ codes "regs" ∷ codes "stops" ∷ []) ms) _ spec h (λ _ _ h.
    after (integer_in (codes "entry") ms) _ spec h (λ entry _ h.
    after (integers_in (codes "regs") ms) _ spec h (λ regs _ h.
    after (integer_in (codes "stops") ms) _ spec h (λ stops _ h.
    after (ranged_or 0 0 16383 entry) _ spec h (λ from is_from h.
    after (words_from [] regs) _ spec h (λ words _ h.
    after (unless 3 (nat_le (length words) 16)) _ spec h (λ x few h.
    after (ranged_or 0 0 65535 stops) _ spec h (λ count is_count h.
    let same : Thread from words count ≡ spec = cc in
    let from_in = in_range_or 0 0 16383 entry from (omega arith) (omega arith) is_from in
    let count_in = in_range_or 0 0 65535 stops count (omega arith) (omega arith) is_count in
    subst IsSpecInRange same (from_in.1, leb-true (length words) 16 (unless-Ok 3 _ x few), count_in.1)))))))))

mutex_kept : (ms : Members) (spec : Spec) → mutex_spec ms ≡ Ok spec → IsSpecInRange spec
unfolding mutex_spec
mutex_kept ms spec h =
    after (known (codes "at" ∷ codes "kind" ∷ codes "locked" ∷ []) ms) _ spec h (λ _ _ h.
    after (flag_in (codes "locked") ms) _ spec h (λ locked _ h.
    let same : Mutex (unwrap_or locked false) ≡ spec = cc in
    subst IsSpecInRange same tt))

window_kept : (extent : Option ℤ × Option ℤ) (window : ℕ × ℕ) → window_of extent ≡ Ok window → (1 ≤ window.1) × (window.0 + window.1 ≤ 256)
unfolding window_of
window_kept extent window h =
    after (ranged_or 0 0 255 extent.0) _ window h (λ first _ h.
    after (ranged_or 1 1 256 extent.1) _ window h (λ count is_count h.
    after (unless 3 (nat_le (first + count) 256)) _ window h (λ x fits h.
    let same : (first, count) ≡ window = cc in
    let count_in = in_range_or 1 1 256 extent.1 count (omega arith) (omega arith) is_count in
    subst (λ (w : ℕ × ℕ). (1 ≤ w.1) × (w.0 + w.1 ≤ 256)) same (count_in.0, leb-true (first + count) 256 (unless-Ok 3 _ x fits)))))

mapping_kept : (ms : Members) (spec : Spec) → mapping_spec ms ≡ Ok spec → IsSpecInRange spec
unfolding mapping_spec
mapping_kept ms spec h =
    after (mapping_keys ms) _ spec h (λ keys _ h.
    after (window_of keys.extent) _ spec h (λ window is_window h.
    after (ranged_or 0 0 255 keys.offset) _ spec h (λ offset is_offset h.
    after (optional_path keys.region) _ spec h (λ path _ h.
    let same : Mapping path window.0 window.1 offset keys.write ≡ spec = cc in
    let (some, fits) = window_kept keys.extent window is_window in
    let offset_in = in_range_or 0 0 255 keys.offset offset (omega arith) (omega arith) is_offset in
    subst IsSpecInRange same (some, fits, offset_in.1)))))

region_kept : (ms : Members) (spec : Spec) → region_spec ms ≡ Ok spec → IsSpecInRange spec
unfolding region_spec
region_kept ms spec h =
    after (known (codes "at" ∷ codes "kind" ∷ codes "first" ∷ codes "count" ∷ codes "write" ∷ codes "keeper" ∷ []) ms) _ spec h (λ _ _ h.
    after (extent_in ms) _ spec h (λ extent _ h.
    after (flag_in (codes "write") ms) _ spec h (λ write _ h.
    after (text_in (codes "keeper") ms) _ spec h (λ keeper _ h.
    after (window_of extent) _ spec h (λ window is_window h.
    after (optional_path keeper) _ spec h (λ path _ h.
    let same : Region window.0 window.1 (unwrap_or write false) path ≡ spec = cc in
    subst IsSpecInRange same (window_kept extent window is_window)))))))

set_kept : (z : Option ℤ) (set : Option ℕ) → set_of z ≡ Ok set → IfSome set (λ slot. slot ≤ 239)
set_kept None set h = let same : None ≡ set = cc in subst (λ (s : Option ℕ). IfSome s (λ slot. slot ≤ 239)) same tt
set_kept (Some z) set h =
    after (ranged 0 239 z) _ set h (λ slot is_slot h.
    let same : Some slot ≡ set = cc in
    let slot_in = in_range 0 239 z slot is_slot in
    subst (λ (s : Option ℕ). IfSome s (λ slot. slot ≤ 239)) same slot_in.1)

port_kept : (ms : Members) (spec : Spec) → port_spec ms ≡ Ok spec → IsSpecInRange spec
unfolding port_spec
port_kept ms spec h =
    after (known (codes "at" ∷ codes "kind" ∷ codes "set" ∷ []) ms) _ spec h (λ _ _ h.
    after (integer_in (codes "set") ms) _ spec h (λ z _ h.
    after (set_of z) _ spec h (λ set is_set h.
    let same : Port set ≡ spec = cc in
    subst IsSpecInRange same (set_kept z set is_set))))

reference_kept : (ms : Members) (spec : Spec) → reference_spec ms ≡ Ok spec → IsSpecInRange spec
unfolding reference_spec
reference_kept ms spec h =
    after (known (codes "at" ∷ codes "kind" ∷ codes "to" ∷ []) ms) _ spec h (λ _ _ h.
    after (text_in (codes "to") ms) _ spec h (λ text _ h.
    after (optional_path text) _ spec h (λ to _ h.
    let same : Reference to ≡ spec = cc in
    subst IsSpecInRange same tt)))

plain_kept : (plain : Option Spec) (ms : Members) (spec : Spec) → IfSome plain IsSpecInRange → plain_spec plain ms ≡ Ok spec → IsSpecInRange spec
unfolding plain_spec
plain_kept plain ms spec kept h =
    after (known (codes "at" ∷ codes "kind" ∷ []) ms) _ spec h (λ _ _ h.
    subst (λ (o : Option Spec). IfSome o IsSpecInRange) (or_rule-Ok 4 plain spec h) kept)

spec_kept : (kind : List ℕ) (ms : Members) (spec : Spec) → spec_of kind ms ≡ Ok spec → IsSpecInRange spec
unfolding spec_of
spec_kept kind ms spec h =
    by (bytes_eq kind (codes "thread")) (bytes_eq kind (codes "mutex")) (bytes_eq kind (codes "cond")) (bytes_eq kind (codes "mapping"))
    (bytes_eq kind (codes "region")) (bytes_eq kind (codes "port")) (bytes_eq kind (codes "portset")) (bytes_eq kind (codes "reference")) h
  where
    by : (a b c d e f g r : Bool) → cond a (thread_spec ms) (cond b (mutex_spec ms) (cond c (plain_spec (Some Cond) ms) (cond d (mapping_spec ms)
        (cond e (region_spec ms) (cond f (port_spec ms) (cond g (plain_spec (Some Portset) ms) (cond r (reference_spec ms) (plain_spec None ms))))))))
        ≡ Ok spec → IsSpecInRange spec
    by true b c d e f g r h = thread_kept ms spec h
    by false true c d e f g r h = mutex_kept ms spec h
    by false false true d e f g r h = plain_kept (Some Cond) ms spec tt h
    by false false false true e f g r h = mapping_kept ms spec h
    by false false false false true f g r h = region_kept ms spec h
    by false false false false false true g r h = port_kept ms spec h
    by false false false false false false true r h = plain_kept (Some Portset) ms spec tt h
    by false false false false false false false true h = reference_kept ms spec h
    by false false false false false false false false h = plain_kept None ms spec tt h

object_kept : (ms : Members) (o : ObjectEntry) → object_of ms ≡ Ok o → KeepsEntry o
unfolding object_of
object_kept ms o h =
    after (needed_text (codes "at") ms) _ o h (λ text _ h.
    after (needed_text (codes "kind") ms) _ o h (λ kind _ h.
    after (spec_of kind ms) _ o h (λ spec is_spec h.
    after (parse_path text) _ o h (λ path is_path h.
    after (unless 4 (nat_lt 0 (length path))) _ o h (λ x inside h.
    let same : record { path = path; spec = spec } ≡ o = cc in
    subst KeepsEntry same (record {
      slots = path_kept text path is_path;
      inside = ltb-true 0 (length path) (unless-Ok 4 _ x inside);
      in_range = spec_kept kind ms spec is_spec;
    }))))))

pub entry_kept : (value : Data) (o : ObjectEntry) → object_entry value ≡ Ok o → KeepsEntry o
unfolding object_entry
entry_kept value o h = after (or_rule 2 (as_table value)) _ o h (λ ms _ h. object_kept ms o h)

-- jobs

pair_kept : (l : List ℤ) (p : ℕ × ℕ) → pair_of l ≡ Ok p → (p.0 ≤ 239) × (p.1 ≤ 239)
pair_kept [] p h = absurd (cc)
pair_kept (a ∷ []) p h = absurd (cc)
pair_kept (a ∷ b ∷ []) p h =
    after (ranged 0 239 a) _ p h (λ x is_x h.
    after (ranged 0 239 b) _ p h (λ y is_y h.
    let same : (x, y) ≡ p = cc in
    subst (λ (p : ℕ × ℕ). (p.0 ≤ 239) × (p.1 ≤ 239)) same ((in_range 0 239 a x is_x).1, (in_range 0 239 b y is_y).1)))
pair_kept (a ∷ b ∷ c ∷ l) p h = absurd (cc)

pairs_kept : (done : List (ℕ × ℕ)) (ls : List (List ℤ)) (all : List (ℕ × ℕ)) → pairs_from done ls ≡ Ok all → ArePairs done → ArePairs all
unfolding pairs_from
pairs_kept done [] all h kept = let same : done ≡ all = cc in subst ArePairs same kept
pairs_kept done (l ∷ ls) all h kept =
    after (pair_of l) _ all h (λ p is_p h.
    pairs_kept (done ++ p ∷ []) ls all h (All-push (λ p. (p.0 ≤ 239) × (p.1 ≤ 239)) done p kept (pair_kept l p is_p)))

-- pairs that are read again are the same
distinct_same : (done ps all : List (ℕ × ℕ)) → distinct_from done ps ≡ Ok all → done ++ ps ≡ all
unfolding distinct_from
distinct_same done [] all h = let same : done ≡ all = cc in append-nil done ∙ same
distinct_same done (p ∷ ps) all h =
    after (unless 6 (not (is_bound done p.0))) _ all h (λ _ _ h. sym (append_assoc done (p ∷ []) ps) ∙ distinct_same (done ++ p ∷ []) ps all h)

is_off : (b : Bool) → not b ≡ true → b ≡ false
is_off true h = absurd (cc)
is_off false h = refl

-- and each first slot among them is there once
distinct_apart : (done ps all : List (ℕ × ℕ)) → distinct_from done ps ≡ Ok all → are_apart bind_same done ≡ true → are_apart bind_same all ≡ true
unfolding distinct_from
distinct_apart done [] all h apart = let same : done ≡ all = cc in subst (λ (ps : List (ℕ × ℕ)). are_apart bind_same ps ≡ true) same apart
distinct_apart done (p ∷ ps) all h apart =
    after (unless 6 (not (is_bound done p.0))) _ all h (λ u is_new h.
    distinct_apart (done ++ p ∷ []) ps all h (apart_push bind_same done p apart (is_off (is_bound done p.0) (unless-Ok 6 (not (is_bound done p.0)) u is_new))))

kind_kept : (kind : List ℕ) (pairs : List (ℕ × ℕ)) (k : JobKind) → job_kind kind pairs ≡ Ok k → ArePairs pairs → BindsSlots k
unfolding job_kind are_apart
kind_kept kind pairs k h kept = by (is_restore kind) (bytes_eq kind (codes "checkpoint")) h
  where
    by : (restore checkpoint : Bool) →
        cond restore (distinct_from [] pairs >>= λ bind. Ok (kinds.Restore bind)) (cond checkpoint (Ok kinds.Checkpoint) (Err 4)) ≡ Ok k → BindsSlots k
    by true checkpoint h =
        after (distinct_from [] pairs) _ k h (λ bind is_bind h.
        let same : kinds.Restore bind ≡ k = cc in
        subst BindsSlots same (subst ArePairs (distinct_same [] pairs bind is_bind) kept, distinct_apart [] pairs bind is_bind refl))
    by false true h = let same : kinds.Checkpoint ≡ k = cc in subst BindsSlots same tt
    by false false h = absurd (cc)

numbers_kept : (before : ℕ) (fields : JobFields) (n : ℕ × ℕ × List (ℕ × ℕ)) → numbers_of before fields ≡ Ok n → (n.1 ≤ 239) × ArePairs n.2
unfolding numbers_of
numbers_kept before fields n h =
    after (ranged_or 0 0 1000000 fields.moment) _ n h (λ moment _ h.
    after (ranged 0 239 fields.slot) _ n h (λ slot is_slot h.
    after (pairs_from [] fields.bind) _ n h (λ pairs are_pairs h.
    after (unless 3 (nat_lt before 16)) _ n h (λ _ _ h.
    let same : (moment, slot, pairs) ≡ n = cc in
    subst (λ (n : ℕ × ℕ × List (ℕ × ℕ)). (n.1 ≤ 239) × ArePairs n.2) same
    ((in_range 0 239 fields.slot slot is_slot).1, pairs_kept [] fields.bind pairs are_pairs (All-nil _))))))

job_of_kept : (before : ℕ) (ms : Members) (j : JobEntry) → job_of before ms ≡ Ok j → KeepsJob j
unfolding job_of
job_of_kept before ms j h =
    after (job_fields ms) _ j h (λ fields _ h.
    after (numbers_of before fields) _ j h (λ numbers are_numbers h.
    after (parse_path fields.nester) _ j h (λ nester is_nester h.
    after (unless 4 (is_name fields.image)) _ j h (λ _ _ h.
    after (job_kind fields.kind numbers.2) _ j h (λ kind is_kind h.
    let same : record { moment = numbers.0; nester = nester; slot = numbers.1; image = fields.image; kind = kind } ≡ j = cc in
    let kept = numbers_kept before fields numbers are_numbers in
    subst KeepsJob same (record {
      nester = path_kept fields.nester nester is_nester;
      slot = kept.0;
      bound = kind_kept fields.kind numbers.2 kind is_kind kept.1;
    }))))))

pub job_kept : (before : ℕ) (value : Data) (j : JobEntry) → job_in before value ≡ Ok j → KeepsJob j
unfolding job_in
job_kept before value j h = after (or_rule 2 (as_table value)) _ j h (λ ms _ h. job_of_kept before ms j h)
