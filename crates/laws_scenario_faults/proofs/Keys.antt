-- Keys: what an entry is asked of a key holds exactly where what stands there says what the entry says.
use Rattle.std.proofs.Common.{◌≡◌, ◌≤◌, inl, inr, ℕ, ℤ, pos, negsuc, Bool, true, false, ◌&&◌, nat_le, List, [], ◌∷◌, map, Option, Some, None}
use Rattle.std.proofs.Common.{is_some, unwrap_or, option_map, option_and_then, refl, sym, ap, subst, ◌∙◌}
use Rattle.std.proofs.lemmas.Bool.{leb-true, le-leb, and_from}
use Rattle.std.specs.List.{list_all, AllZip}
use Rattle.toml.specs.Data.{Data, Items, no_items, item, Members, no_members, string, integer, boolean, array, table, get_member}
use Rattle.toml.specs.Data.{as_str, as_integer, as_bool, as_array, as_table}
use Rattle.fk_model.specs.Names.{is_name}
use Rattle.laws_scenario_faults.specs.Tables as told
use Rattle.laws_scenario_faults.specs.Tables.{table_of, each, is_so, is_so_if, has, may_have, is_text, is_flag, is_integer, is_array, is_table, is_array_of}
use Rattle.laws_scenario_faults.specs.Tables.{items, members, integer_of, integers, integers_at, is_in, is_in_if, number, number_or, is_path, path, is_path_if}
use Rattle.laws_scenario_faults.specs.Tables.{path_if, text, text_at, entries}
use Rattle.laws_scenario_faults.proofs.Paths.{path-written, path-back}
use Rattle.laws_scenario_faults.specs.Keys.{path_text, IsText, IsFlag, IsNumber, IsName, IsPath, AreEach, AreValues, AreMembers, At, AtOr, AtIf}

pub both : (a b : Bool) → (a && b) ≡ true → (a ≡ true) × (b ≡ true)
both true b h = (refl, h)
both false b h = absurd (cc)

-- ---- values

pub text-is : (d : Data) → is_text d ≡ true → d ≡ string (unwrap_or (as_str d) [])
text-is (string text) h = refl
text-is _ h = absurd (cc)

pub flag-is : (d : Data) → is_flag d ≡ true → d ≡ boolean (unwrap_or (as_bool d) false)
flag-is (boolean flag) h = refl
flag-is _ h = absurd (cc)

pub integer-is : (d : Data) → is_integer d ≡ true → d ≡ integer (integer_of d)
integer-is (integer z) h = refl
integer-is _ h = absurd (cc)

pub array-is : (d : Data) → is_array d ≡ true → d ≡ array (unwrap_or (as_array d) no_items)
array-is (array ds) h = refl
array-is _ h = absurd (cc)

pub table-is : (d : Data) → is_table d ≡ true → d ≡ table (table_of d)
table-is (table ms) h = refl
table-is _ h = absurd (cc)

pub in-number : (low high : ℕ) (z : ℤ) → is_in low high z ≡ true → (z ≡ pos (number z)) × (low ≤ number z) × (number z ≤ high)
in-number low high (pos n) h = let (a, b) = both (nat_le low n) (nat_le n high) h in (refl, leb-true low n a, leb-true n high b)
in-number low high (negsuc n) h = absurd (cc)

pub number-in : (low high n : ℕ) → low ≤ n → n ≤ high → is_in low high (pos n) ≡ true
number-in low high n a b = and_from (nat_le low n) (nat_le n high) (le-leb low n a) (le-leb n high b)

pub number-says : (low high : ℕ) (d : Data) → is_integer d ≡ true → is_in low high (integer_of d) ≡ true → IsNumber low high d (number (integer_of d))
number-says low high d t r = let (is, a, b) = in-number low high (integer_of d) r in (integer-is d t ∙ ap integer is, a, b)

pub number-told : (low high : ℕ) (d : Data) (n : ℕ) → IsNumber low high d n →
    (is_integer d ≡ true) × (is_in low high (integer_of d) ≡ true) × (number (integer_of d) ≡ n)
number-told low high d n (is, a, b) =
    subst (λ (d : Data). (is_integer d ≡ true) × (is_in low high (integer_of d) ≡ true) × (number (integer_of d) ≡ n)) (sym is)
    (refl, number-in low high n a b, refl)

module _ (low high : ℕ) where
  numbers-say : (ds : Items) → each is_integer ds ≡ true → list_all (is_in low high) (integers ds) ≡ true →
      AllZip (IsNumber low high) (items ds) (map number (integers ds))
  unfolding each items
  numbers-say no_items t r = tt
  numbers-say (item d rest) t r =
      let (t0, ts) = both (is_integer d) (each is_integer rest) t in
      let (r0, rs) = both (is_in low high (integer_of d)) (list_all (is_in low high) (integers rest)) r in
      (number-says low high d t0 r0, numbers-say rest ts rs)

  numbers-told : (ds : Items) (ns : List ℕ) → AllZip (IsNumber low high) (items ds) ns →
      (each is_integer ds ≡ true) × (list_all (is_in low high) (integers ds) ≡ true) × (map number (integers ds) ≡ ns)
  unfolding each items
  numbers-told no_items [] say = (refl, refl, refl)
  numbers-told no_items (n ∷ ns) say = absurd (say)
  numbers-told (item d rest) [] say = absurd (say)
  numbers-told (item d rest) (n ∷ ns) say =
      let (t0, r0, same) = number-told low high d n say.0 in
      let (ts, rs, others) = numbers-told rest ns say.1 in (
        and_from (is_integer d) (each is_integer rest) t0 ts,
        and_from (is_in low high (integer_of d)) (list_all (is_in low high) (integers rest)) r0 rs,
        ap (λ x. x ∷ map number (integers rest)) same ∙ ap (λ xs. n ∷ xs) others,
      )

-- ---- keys

module _ (key : List ℕ) (ms : Members) where
  -- a fact of what stands at a key
  pub there : (P : Option Data → Type 0) (value d : Data) → get_member key ms ≡ Some value → value ≡ d → P (Some d) → P (get_member key ms)
  there P value d at is p = subst P (sym (at ∙ ap Some is)) p

  pub text-at : has is_text key ms ≡ true → At IsText key ms (text_at key ms)
  text-at h = by (get_member key ms) refl h
    where
      by : (o : Option Data) → get_member key ms ≡ o → is_so is_text o ≡ true → At IsText key ms (unwrap_or (option_and_then as_str o) [])
      by None at h = absurd (cc)
      by (Some d) at h = (d, at, text-is d h)

  pub text-at-told : (x : List ℕ) → At IsText key ms x → (has is_text key ms ≡ true) × (text_at key ms ≡ x)
  text-at-told x (value, at, is) =
      there (λ (o : Option Data). (is_so is_text o ≡ true) × (unwrap_or (option_and_then as_str o) [] ≡ x)) value (string x) at is (refl, refl)

  pub name-at : has is_text key ms ≡ true → is_name (text_at key ms) ≡ true → At IsName key ms (text_at key ms)
  name-at h n = let (value, at, is) = text-at h in (value, at, (is, n))

  pub name-at-told : (x : List ℕ) → At IsName key ms x → (has is_text key ms ≡ true) × (is_name (text_at key ms) ≡ true) × (text_at key ms ≡ x)
  name-at-told x (value, at, (is, n)) =
      let (h, same) = text-at-told x (value, at, is) in (h, subst (λ text. is_name text ≡ true) (sym same) n, same)

  pub path-at : has is_text key ms ≡ true → is_path (text_at key ms) ≡ true → At IsPath key ms (path (text_at key ms))
  path-at h p =
      let (value, at, is) = text-at h in
      let (same, slots) = path-written (text_at key ms) p in
      (value, at, (is ∙ ap string same, slots))

  pub path-at-told : (x : List ℕ) → At IsPath key ms x → (has is_text key ms ≡ true) × (is_path (text_at key ms) ≡ true) × (path (text_at key ms) ≡ x)
  path-at-told x (value, at, (is, slots)) =
      let (p, same) = path-back x slots in
      let (h, here) = text-at-told (path_text x) (value, at, is) in
      (h, subst (λ text. is_path text ≡ true) (sym here) p, ap path here ∙ same)

  pub path-if : may_have is_text key ms ≡ true → is_path_if (text key ms) ≡ true → AtIf IsPath key ms (path_if (text key ms))
  path-if h p = by (get_member key ms) refl h p
    where
      some : (d : Data) → get_member key ms ≡ Some d → (text : Option (List ℕ)) → as_str d ≡ text → is_some text ≡ true → is_path_if text ≡ true →
          AtIf IsPath key ms (path_if text)
      some d at None read t p = absurd (cc)
      some d at (Some text) read t p =
          let (same, slots) = path-written text p in
          (d, at, (text-is d (ap is_some read) ∙ (ap (λ (o : Option (List ℕ)). string (unwrap_or o [])) read ∙ ap string same), slots))

      by : (o : Option Data) → get_member key ms ≡ o → is_so_if is_text o ≡ true → is_path_if (option_and_then as_str o) ≡ true →
          AtIf IsPath key ms (path_if (option_and_then as_str o))
      by None at h p = at
      by (Some d) at h p = some d at (as_str d) refl h p

  pub path-if-told : (x : Option (List ℕ)) → AtIf IsPath key ms x →
      (may_have is_text key ms ≡ true) × (is_path_if (text key ms) ≡ true) × (path_if (text key ms) ≡ x)
  path-if-told None at =
      subst (λ (o : Option Data). (is_so_if is_text o ≡ true) × (is_path_if (option_and_then as_str o) ≡ true) × (path_if (option_and_then as_str o) ≡ None))
      (sym at) (refl, refl, refl)
  path-if-told (Some x) (value, at, (is, slots)) =
      let (p, same) = path-back x slots in
      there (λ (o : Option Data). (is_so_if is_text o ≡ true) × (is_path_if (option_and_then as_str o) ≡ true)
      × (path_if (option_and_then as_str o) ≡ Some x)) value (string (path_text x)) at is (refl, p, ap Some same)

  pub flag-or : may_have is_flag key ms ≡ true → AtOr false IsFlag key ms (unwrap_or (told.flag key ms) false)
  flag-or h = by (get_member key ms) refl h
    where
      by : (o : Option Data) → get_member key ms ≡ o → is_so_if is_flag o ≡ true → AtOr false IsFlag key ms (unwrap_or (option_and_then as_bool o) false)
      by None at h = inr (at, refl)
      by (Some d) at h = inl (d, at, flag-is d h)

  pub flag-or-told : (x : Bool) → AtOr false IsFlag key ms x → (may_have is_flag key ms ≡ true) × (unwrap_or (told.flag key ms) false ≡ x)
  flag-or-told x (inl (value, at, is)) =
      there (λ (o : Option Data). (is_so_if is_flag o ≡ true) × (unwrap_or (option_and_then as_bool o) false ≡ x)) value (boolean x) at is (refl, refl)
  flag-or-told x (inr (at, is)) =
      subst (λ (o : Option Data). (is_so_if is_flag o ≡ true) × (unwrap_or (option_and_then as_bool o) false ≡ x)) (sym at) (refl, sym is)

  module _ (low high : ℕ) where
    pub number-at : has is_integer key ms ≡ true → is_in low high (unwrap_or (told.integer key ms) (pos 0)) ≡ true →
        At (IsNumber low high) key ms (number (unwrap_or (told.integer key ms) (pos 0)))
    number-at h r = by (get_member key ms) refl h r
      where
        by : (o : Option Data) → get_member key ms ≡ o → is_so is_integer o ≡ true → is_in low high (unwrap_or (option_and_then as_integer o) (pos 0)) ≡ true →
            At (IsNumber low high) key ms (number (unwrap_or (option_and_then as_integer o) (pos 0)))
        by None at h r = absurd (cc)
        by (Some d) at h r = (d, at, number-says low high d h r)

    pub number-at-told : (n : ℕ) → At (IsNumber low high) key ms n → (has is_integer key ms ≡ true)
        × (is_in low high (unwrap_or (told.integer key ms) (pos 0)) ≡ true) × (number (unwrap_or (told.integer key ms) (pos 0)) ≡ n)
    number-at-told n (value, at, (is, a, b)) =
        there (λ (o : Option Data). (is_so is_integer o ≡ true) × (is_in low high (unwrap_or (option_and_then as_integer o) (pos 0)) ≡ true)
        × (number (unwrap_or (option_and_then as_integer o) (pos 0)) ≡ n)) value (integer (pos n)) at is (refl, number-in low high n a b, refl)

    pub number-or : (default : ℕ) → may_have is_integer key ms ≡ true → is_in_if low high (told.integer key ms) ≡ true →
        AtOr default (IsNumber low high) key ms (number_or default (told.integer key ms))
    number-or default h r = by (get_member key ms) refl h r
      where
        some : (d : Data) → get_member key ms ≡ Some d → (z : Option ℤ) → as_integer d ≡ z → is_some z ≡ true → is_in_if low high z ≡ true →
            At (IsNumber low high) key ms (number_or default z)
        some d at None read t r = absurd (cc)
        some d at (Some z) read t r =
            let same : integer_of d ≡ z = ap (λ (o : Option ℤ). unwrap_or o (pos 0)) read in (
              d,
              at,
              subst (λ z. IsNumber low high d (number z)) same
                  (number-says low high d (ap is_some read) (subst (λ z. is_in low high z ≡ true) (sym same) r)),
            )

        by : (o : Option Data) → get_member key ms ≡ o → is_so_if is_integer o ≡ true → is_in_if low high (option_and_then as_integer o) ≡ true →
            AtOr default (IsNumber low high) key ms (number_or default (option_and_then as_integer o))
        by None at h r = inr (at, refl)
        by (Some d) at h r = inl (some d at (as_integer d) refl h r)

    pub number-or-told : (default n : ℕ) → AtOr default (IsNumber low high) key ms n →
        (may_have is_integer key ms ≡ true) × (is_in_if low high (told.integer key ms) ≡ true) × (number_or default (told.integer key ms) ≡ n)
    number-or-told default n (inl (value, at, (is, a, b))) =
        there (λ (o : Option Data). (is_so_if is_integer o ≡ true) × (is_in_if low high (option_and_then as_integer o) ≡ true)
        × (number_or default (option_and_then as_integer o) ≡ n)) value (integer (pos n)) at is (refl, number-in low high n a b, refl)
    number-or-told default n (inr (at, is)) =
        subst (λ (o : Option Data). (is_so_if is_integer o ≡ true) × (is_in_if low high (option_and_then as_integer o) ≡ true)
        × (number_or default (option_and_then as_integer o) ≡ n)) (sym at) (refl, refl, sym is)

    pub number-if : may_have is_integer key ms ≡ true → is_in_if low high (told.integer key ms) ≡ true →
        AtIf (IsNumber low high) key ms (option_map number (told.integer key ms))
    number-if h r = by (get_member key ms) refl h r
      where
        some : (d : Data) → get_member key ms ≡ Some d → (z : Option ℤ) → as_integer d ≡ z → is_some z ≡ true → is_in_if low high z ≡ true →
            AtIf (IsNumber low high) key ms (option_map number z)
        some d at None read t r = absurd (cc)
        some d at (Some z) read t r =
            let same : integer_of d ≡ z = ap (λ (o : Option ℤ). unwrap_or o (pos 0)) read in (
              d,
              at,
              subst (λ z. IsNumber low high d (number z)) same
                  (number-says low high d (ap is_some read) (subst (λ z. is_in low high z ≡ true) (sym same) r)),
            )

        by : (o : Option Data) → get_member key ms ≡ o → is_so_if is_integer o ≡ true → is_in_if low high (option_and_then as_integer o) ≡ true →
            AtIf (IsNumber low high) key ms (option_map number (option_and_then as_integer o))
        by None at h r = at
        by (Some d) at h r = some d at (as_integer d) refl h r

    pub number-if-told : (x : Option ℕ) → AtIf (IsNumber low high) key ms x →
        (may_have is_integer key ms ≡ true) × (is_in_if low high (told.integer key ms) ≡ true) × (option_map number (told.integer key ms) ≡ x)
    number-if-told None at =
        subst (λ (o : Option Data). (is_so_if is_integer o ≡ true) × (is_in_if low high (option_and_then as_integer o) ≡ true)
        × (option_map number (option_and_then as_integer o) ≡ None)) (sym at) (refl, refl, refl)
    number-if-told (Some n) (value, at, (is, a, b)) =
        there (λ (o : Option Data). (is_so_if is_integer o ≡ true) × (is_in_if low high (option_and_then as_integer o) ≡ true)
        × (option_map number (option_and_then as_integer o) ≡ Some n)) value (integer (pos n)) at is (refl, number-in low high n a b, refl)

    pub numbers-or : may_have (is_array_of is_integer) key ms ≡ true → list_all (is_in low high) (integers_at key ms) ≡ true →
        AtOr [] (AreEach (IsNumber low high)) key ms (map number (integers_at key ms))
    unfolding items
    numbers-or h r = by (get_member key ms) refl h r
      where
        some : (d : Data) → get_member key ms ≡ Some d → is_array_of is_integer d ≡ true →
            list_all (is_in low high) (integers (unwrap_or (as_array d) no_items)) ≡ true →
            At (AreEach (IsNumber low high)) key ms (map number (integers (unwrap_or (as_array d) no_items)))
        some d at t r =
            let (is, ts) = both (is_array d) (each is_integer (unwrap_or (as_array d) no_items)) t in
            (d, at, (unwrap_or (as_array d) no_items, array-is d is, numbers-say low high (unwrap_or (as_array d) no_items) ts r))

        by : (o : Option Data) → get_member key ms ≡ o → is_so_if (is_array_of is_integer) o ≡ true →
            list_all (is_in low high) (integers (unwrap_or (option_and_then as_array o) no_items)) ≡ true →
            AtOr [] (AreEach (IsNumber low high)) key ms (map number (integers (unwrap_or (option_and_then as_array o) no_items)))
        by None at h r = inr (at, refl)
        by (Some d) at h r = inl (some d at h r)

    pub numbers-or-told : (ns : List ℕ) → AtOr [] (AreEach (IsNumber low high)) key ms ns → (may_have (is_array_of is_integer) key ms ≡ true)
        × (list_all (is_in low high) (integers_at key ms) ≡ true) × (map number (integers_at key ms) ≡ ns)
    unfolding items
    numbers-or-told ns (inl (value, at, (ds, is, say))) =
        there (λ (o : Option Data). (is_so_if (is_array_of is_integer) o ≡ true)
        × (list_all (is_in low high) (integers (unwrap_or (option_and_then as_array o) no_items)) ≡ true)
        × (map number (integers (unwrap_or (option_and_then as_array o) no_items)) ≡ ns)) value (array ds) at is (numbers-told low high ds ns say)
    numbers-or-told ns (inr (at, is)) =
        subst (λ (o : Option Data). (is_so_if (is_array_of is_integer) o ≡ true)
        × (list_all (is_in low high) (integers (unwrap_or (option_and_then as_array o) no_items)) ≡ true)
        × (map number (integers (unwrap_or (option_and_then as_array o) no_items)) ≡ ns)) (sym at) (refl, refl, sym is)

  -- ---- sections

  pub values-or : may_have is_array key ms ≡ true → AtOr [] AreValues key ms (entries key ms)
  unfolding items
  values-or h = by (get_member key ms) refl h
    where
      by : (o : Option Data) → get_member key ms ≡ o → is_so_if is_array o ≡ true →
          AtOr [] AreValues key ms (items (unwrap_or (option_and_then as_array o) no_items))
      by None at h = inr (at, refl)
      by (Some d) at h = inl (d, at, (unwrap_or (as_array d) no_items, array-is d h, refl))

  pub values-or-told : (es : List Data) → AtOr [] AreValues key ms es → (may_have is_array key ms ≡ true) × (entries key ms ≡ es)
  unfolding items
  values-or-told es (inl (value, at, (ds, is, same))) =
      there (λ (o : Option Data). (is_so_if is_array o ≡ true) × (items (unwrap_or (option_and_then as_array o) no_items) ≡ es)) value (array ds) at is
      (refl, sym same)
  values-or-told es (inr (at, is)) =
      subst (λ (o : Option Data). (is_so_if is_array o ≡ true) × (items (unwrap_or (option_and_then as_array o) no_items) ≡ es)) (sym at) (refl, sym is)

  pub members-or : may_have is_table key ms ≡ true → AtOr [] AreMembers key ms (members (unwrap_or (told.table key ms) no_members))
  unfolding members
  members-or h = by (get_member key ms) refl h
    where
      by : (o : Option Data) → get_member key ms ≡ o → is_so_if is_table o ≡ true →
          AtOr [] AreMembers key ms (members (unwrap_or (option_and_then as_table o) no_members))
      by None at h = inr (at, refl)
      by (Some d) at h = inl (d, at, (table_of d, table-is d h, refl))

  pub members-or-told : (es : List (List ℕ × Data)) → AtOr [] AreMembers key ms es →
      (may_have is_table key ms ≡ true) × (members (unwrap_or (told.table key ms) no_members) ≡ es)
  unfolding members
  members-or-told es (inl (value, at, (inner, is, same))) =
      there (λ (o : Option Data). (is_so_if is_table o ≡ true) × (members (unwrap_or (option_and_then as_table o) no_members) ≡ es)) value (table inner) at is
      (refl, sym same)
  members-or-told es (inr (at, is)) =
      subst (λ (o : Option Data). (is_so_if is_table o ≡ true) × (members (unwrap_or (option_and_then as_table o) no_members) ≡ es)) (sym at) (refl, sym is)
