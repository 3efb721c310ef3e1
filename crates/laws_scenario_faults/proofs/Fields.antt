-- Fields: what is read of a table's keys, of numbers and of paths.
use Rattle.std.proofs.Common.{◌≡◌, ℕ, ℤ, pos, negsuc, Bool, true, false, ◌&&◌, List, [], ◌∷◌, ◌++◌, map, Option, Some, None, is_some, unwrap_or}
use Rattle.std.proofs.Common.{option_and_then, Result, Ok, Err, if◌then◌else◌, refl, sym, ap, ◌∙◌}
use Rattle.std.proofs.lemmas.List.{append-nil, append_assoc}
use Rattle.std.specs.List.{list_all, slice_split}
use Rattle.toml.specs.Data.{Data, Items, no_items, item, Members, no_members, member, get_member, as_str, as_integer, as_bool, as_array, as_table}
use Rattle.fk_model.specs.Numbers.{plain_number_up_to}
use Rattle.fk_scenario.specs.Fields.Gives.{◌>>=◌, or_rule}
use Rattle.fk_scenario.specs.Fields.Fields.{is_among, known, typed, text_in, flag_in, integer_in, array_in, table_in, needed_text, needed_integer}
use Rattle.fk_scenario.specs.Fields.Fields.{integers_from, integers_of, integers_in, ranged, ranged_or, bytes_from, words_from}
use Rattle.fk_scenario.specs.Fields.Paths.{slots_from, is_slash, parse_path, optional_path}
use Rattle.laws_scenario_faults.specs.Tables.{has_only, each, is_so, is_so_if, has, may_have, is_text, is_flag, is_integer, is_array, is_table, is_array_of}
use Rattle.laws_scenario_faults.specs.Tables.{items, integer_of, integers, integers_at, is_in, is_in_if, number, number_or, is_slot, slot, is_path, path}
use Rattle.laws_scenario_faults.specs.Tables.{is_path_if, path_if, text, text_at, flag, integer, array, table}
use Rattle.laws_scenario_faults.proofs.Rules.{by_rules}

-- ---- one question

pub or-read : {A : Type 0} (rule : ℕ) (o : Option A) (otherwise : A) → or_rule rule o ≡ by_rules ((rule, is_some o) ∷ []) (unwrap_or o otherwise)
unfolding by_rules
or-read rule None otherwise = refl
or-read rule (Some x) otherwise = refl

-- a step of a list, each element of which is asked the same
pub list-step : {A : Type 0} (rule : ℕ) (t ts : Bool) (x : A) (done xs : List A) (r : Result A ℕ) (f : A → Result (List A) ℕ)
    → r ≡ by_rules ((rule, t) ∷ []) x →
    f x ≡ by_rules ((rule, ts) ∷ []) ((done ++ x ∷ []) ++ xs) → (r >>= f) ≡ by_rules ((rule, t && ts) ∷ []) (done ++ x ∷ xs)
unfolding by_rules
list-step rule true ts x done xs r f is more = rw is (more ∙ ap (by_rules ((rule, ts) ∷ [])) (append_assoc done (x ∷ []) xs))
list-step rule false ts x done xs r f is more = rw is refl

pub list-end : {A : Type 0} (rule : ℕ) (done : List A) → Ok done ≡ by_rules ((rule, true) ∷ []) (done ++ [])
unfolding by_rules
list-end rule done = ap Ok (sym (append-nil done))

-- ---- keys

pub known-read : (keys : List (List ℕ)) (ms : Members) → known keys ms ≡ by_rules ((2, has_only keys ms) ∷ []) tt
unfolding known has_only by_rules
known-read keys no_members = refl
known-read keys (member key value rest) = by (is_among keys key) (known-read keys rest)
  where
    by : (t : Bool) → known keys rest ≡ by_rules ((2, has_only keys rest) ∷ []) tt →
        (if t then known keys rest else Err 2) ≡ by_rules ((2, t && has_only keys rest) ∷ []) tt
    by true others = others
    by false others = refl

module _ {A : Type 0} (get : Data → Option A) where
  may-read : (o : Option Data) → typed get o ≡ by_rules ((2, is_so_if (λ d. is_some (get d)) o) ∷ []) (option_and_then get o)
  unfolding by_rules
  may-read None = refl
  may-read (Some d) = by (get d)
    where
      by : (o : Option A) → (or_rule 2 o >>= λ x. Ok (Some x)) ≡ by_rules ((2, is_some o) ∷ []) o
      by None = refl
      by (Some x) = refl

  has-read : (otherwise : A) (o : Option Data) →
      (typed get o >>= or_rule 2) ≡ by_rules ((2, is_so (λ d. is_some (get d)) o) ∷ []) (unwrap_or (option_and_then get o) otherwise)
  unfolding by_rules
  has-read otherwise None = refl
  has-read otherwise (Some d) = by (get d)
    where
      by : (o : Option A) → ((or_rule 2 o >>= λ x. Ok (Some x)) >>= or_rule 2) ≡ by_rules ((2, is_some o) ∷ []) (unwrap_or o otherwise)
      by None = refl
      by (Some x) = refl

module _ (key : List ℕ) (ms : Members) where
  pub text-read : text_in key ms ≡ by_rules ((2, may_have is_text key ms) ∷ []) (text key ms)
  unfolding text_in
  text-read = may-read as_str (get_member key ms)

  pub flag-read : flag_in key ms ≡ by_rules ((2, may_have is_flag key ms) ∷ []) (flag key ms)
  unfolding flag_in
  flag-read = may-read as_bool (get_member key ms)

  pub integer-read : integer_in key ms ≡ by_rules ((2, may_have is_integer key ms) ∷ []) (integer key ms)
  unfolding integer_in
  integer-read = may-read as_integer (get_member key ms)

  pub array-read : array_in key ms ≡ by_rules ((2, may_have is_array key ms) ∷ []) (array key ms)
  unfolding array_in
  array-read = may-read as_array (get_member key ms)

  pub table-read : table_in key ms ≡ by_rules ((2, may_have is_table key ms) ∷ []) (table key ms)
  unfolding table_in
  table-read = may-read as_table (get_member key ms)

  pub needed-text-read : needed_text key ms ≡ by_rules ((2, has is_text key ms) ∷ []) (text_at key ms)
  unfolding needed_text text_in
  needed-text-read = has-read as_str [] (get_member key ms)

  pub needed-integer-read : needed_integer key ms ≡ by_rules ((2, has is_integer key ms) ∷ []) (unwrap_or (integer key ms) (pos 0))
  unfolding needed_integer integer_in
  needed-integer-read = has-read as_integer (pos 0) (get_member key ms)

-- ---- arrays of integers

pub integers-from : (done : List ℤ) (ds : Items) → integers_from done ds ≡ by_rules ((2, each is_integer ds) ∷ []) (done ++ integers ds)
unfolding integers_from each items
integers-from done no_items = list-end 2 done
integers-from done (item value rest) =
    list-step 2 _ _ _ done _ _ _ (or-read 2 (as_integer value) (pos 0)) (integers-from (done ++ integer_of value ∷ []) rest)

pub integers-read : (key : List ℕ) (ms : Members) → integers_in key ms ≡ by_rules ((2, may_have (is_array_of is_integer) key ms) ∷ []) (integers_at key ms)
unfolding integers_in array_in items by_rules
integers-read key ms = by (get_member key ms)
  where
    whole : (o : Option Items) → ((or_rule 2 o >>= λ x. Ok (Some x)) >>= integers_of)
        ≡ by_rules ((2, is_some o && each is_integer (unwrap_or o no_items)) ∷ []) (integers (unwrap_or o no_items))
    whole None = refl
    whole (Some ds) = integers-from [] ds

    by : (o : Option Data) → (typed as_array o >>= integers_of)
        ≡ by_rules ((2, is_so_if (is_array_of is_integer) o) ∷ []) (integers (unwrap_or (option_and_then as_array o) no_items))
    by None = refl
    by (Some d) = whole (as_array d)

-- ---- numbers

pub ranged-read : (low high : ℕ) (z : ℤ) → ranged low high z ≡ by_rules ((3, is_in low high z) ∷ []) (number z)
unfolding by_rules
ranged-read low high (pos n) = refl
ranged-read low high (negsuc n) = refl

pub ranged-or-read : (default low high : ℕ) (o : Option ℤ) → ranged_or default low high o ≡ by_rules ((3, is_in_if low high o) ∷ []) (number_or default o)
unfolding by_rules
ranged-or-read default low high None = refl
ranged-or-read default low high (Some z) = ranged-read low high z

pub bytes-read : (done : List ℕ) (zs : List ℤ) → bytes_from done zs ≡ by_rules ((3, list_all (is_in 0 255) zs) ∷ []) (done ++ map number zs)
unfolding bytes_from
bytes-read done [] = list-end 3 done
bytes-read done (z ∷ zs) = list-step 3 _ _ _ done _ _ _ (ranged-read 0 255 z) (bytes-read (done ++ number z ∷ []) zs)

pub words-read : (done : List ℕ) (zs : List ℤ) → words_from done zs ≡ by_rules ((3, list_all (is_in 0 9223372036854775807) zs) ∷ []) (done ++ map number zs)
unfolding words_from
words-read done [] = list-end 3 done
words-read done (z ∷ zs) = list-step 3 _ _ _ done _ _ _ (ranged-read 0 9223372036854775807 z) (words-read (done ++ number z ∷ []) zs)

-- ---- paths

slots-read : (done : List ℕ) (ps : List (List ℕ)) → slots_from done ps ≡ by_rules ((4, list_all is_slot ps) ∷ []) (done ++ map slot ps)
unfolding slots_from
slots-read done [] = list-end 4 done
slots-read done (p ∷ ps) = list-step 4 _ _ _ done _ _ _ (or-read 4 (plain_number_up_to 239 p) 0) (slots-read (done ++ slot p ∷ []) ps)

pub path-read : (text : List ℕ) → parse_path text ≡ by_rules ((4, is_path text) ∷ []) (path text)
unfolding parse_path by_rules
path-read [] = refl
path-read (byte ∷ []) = by (is_slash byte)
  where
    by : (t : Bool) → (if t then Ok [] else Err 4) ≡ by_rules {X = List ℕ} ((4, t && true) ∷ []) []
    by true = refl
    by false = refl
path-read (byte ∷ more ∷ text) = by (is_slash byte)
  where
    by : (t : Bool) → (if t then slots_from [] (slice_split is_slash (more ∷ text)) else Err 4)
        ≡ by_rules ((4, t && list_all is_slot (slice_split is_slash (more ∷ text))) ∷ []) (map slot (slice_split is_slash (more ∷ text)))
    by true = slots-read [] (slice_split is_slash (more ∷ text))
    by false = refl

pub path-if-read : (o : Option (List ℕ)) → optional_path o ≡ by_rules ((4, is_path_if o) ∷ []) (path_if o)
unfolding by_rules
path-if-read None = refl
path-if-read (Some text) = by (is_path text) (parse_path text) (path-read text)
  where
    by : (t : Bool) (r : Result (List ℕ) ℕ) → r ≡ by_rules ((4, t) ∷ []) (path text) → (r >>= λ p. Ok (Some p)) ≡ by_rules ((4, t) ∷ []) (Some (path text))
    by true r is = rw is refl
    by false r is = rw is refl
