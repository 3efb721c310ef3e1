-- HomeLaws: under which key each space stands.
use Rattle.std.proofs.Common.{◌≡◌, ◌≢◌, ℕ, ◌<◌, ◌≤◌, Bool, true, false, cond, ◌==◌, ltb, List, [], ◌∷◌, ◌++◌, length, get_or, set, Option, Some, None}
use Rattle.std.proofs.Common.{option_map, refl, sym, ap, ◌∙◌, arith, length-append, eq-eqb, eqb-true}
use Rattle.std.proofs.lemmas.Bool.Decides.{nat_tests}
use Rattle.std.proofs.lemmas.List.{get_or_past, get_or_default, get_or_append_left, get_or-set_same, get_or-set_other}
use Rattle.std.proofs.Math.Seq.{get_or-append_seam}
use Rattle.std.specs.FinMap.{FinMap, get}
use Rattle.fk_model.specs.declared.names.Who.{Who}
use Rattle.fk_model.specs.declared.body.Body.{Body}
use Rattle.fk_model.specs.Objects.{and_then}
use Rattle.fk_store_cells.specs.Keys.Tables.{mark_at}
use Rattle.fk_store_cells.specs.Slots.Cells.{cell}
use Rattle.fk_store_cells.specs.Objects.Filed.{Filed, IsFiled, key_of, name_under}
use Rattle.fk_store_graph.specs.Leads.Births.{stored_birth, is_number, home_in, birth_in}
use Rattle.fk_store_graph.specs.Linked.Bodied.{body_under, bodies, AreHomed}
use Rattle.fk_store_graph.specs.Linked.Homes.{home_at, home_word, nowhere}
use Rattle.fk_store_graph.specs.Leads.Names.{at, who_cmp}
use Rattle.fk_store_graph.proofs.InLinked.BodyLaws.{name_there, get_at, get_under}
use Rattle.fk_store_graph.proofs.InLeads.BirthLaws.{births-found, births-none}

-- ---- the table

no_word : home_word nowhere ≡ None
no_word = refl

pub home_past : (homes : List ℕ) (n : ℕ) → length homes ≤ n → home_at homes n ≡ None
unfolding home_at
home_past homes n past = ap home_word (get_or_past homes n nowhere past) ∙ no_word

pub home_read : (homes : List ℕ) (n d : ℕ) → n < length homes → d ≡ get_or homes n d → home_word d ≡ home_at homes n
unfolding home_at
home_read homes n d low e = ap home_word (e ∙ get_or_default homes n d nowhere low)

pub home_low : (homes : List ℕ) (n key : ℕ) → home_at homes n ≡ Some key → n < length homes
home_low homes n key h = by (ltb n (length homes)) refl
  where
    by : (b : Bool) → ltb n (length homes) ≡ b → n < length homes
    by true e = grind (arith, nat_tests)
    by false e = let past : length homes ≤ n = grind (arith, nat_tests) in let none = home_past homes n past in absurd (cc)

pub home_more : (homes : List ℕ) (n : ℕ) → home_at (homes ++ nowhere ∷ []) n ≡ home_at homes n
unfolding home_at
home_more homes n = ap home_word (by (ltb n (length homes)) refl (n == length homes) refl)
  where
    by : (b : Bool) → ltb n (length homes) ≡ b → (c : Bool) → (n == length homes) ≡ c → get_or (homes ++ nowhere ∷ []) n nowhere ≡ get_or homes n nowhere
    by true e c f = let low : n < length homes = grind (arith, nat_tests) in get_or_append_left homes (nowhere ∷ []) nowhere n low
    by false e true f = let same : n ≡ length homes = grind (arith, nat_tests) in
        rw (same, get_or-append_seam homes nowhere [] nowhere, get_or_past homes (length homes) nowhere (omega arith)) refl
    by false e false f =
        let low : length homes ≤ n = grind (arith, nat_tests) in
        let past : length (homes ++ nowhere ∷ []) ≤ n = simp length-append (grind (arith, nat_tests)) in
        rw (get_or_past (homes ++ nowhere ∷ []) n nowhere past, get_or_past homes n nowhere low) refl

pub home_put : (homes : List ℕ) (k key n : ℕ) → k < length homes → home_at (set homes k key) n ≡ cond (k == n) (home_word key) (home_at homes n)
unfolding home_at
home_put homes k key n low = by (k == n) refl
  where
    by : (b : Bool) → (k == n) ≡ b → home_word (get_or (set homes k key) n nowhere) ≡ cond b (home_word key) (home_word (get_or homes n nowhere))
    by true e = let same : n ≡ k = grind (arith, nat_tests) in rw same (ap home_word (get_or-set_same homes k key nowhere low))
    by false e = let apart : n ≢ k = grind (arith, nat_tests) in ap home_word (get_or-set_other homes k n key nowhere apart)

pub home_none : (n : ℕ) → home_at [] n ≡ None
home_none n = home_past [] n (omega arith)

-- ---- where a space stands

module _ (o : Filed) (homes : List ℕ) (filed : IsFiled o) (homed : AreHomed o homes) where
  born_body : (n key : ℕ) → and_then stored_birth (body_under o key) ≡ Some n → (b : Body) × (body_under o key ≡ Some b) × (stored_birth b ≡ Some n)
  born_body n key h = by (body_under o key) refl h
    where
      by : (x : Option Body) → body_under o key ≡ x → and_then stored_birth x ≡ Some n → (b : Body) × (body_under o key ≡ Some b) × (stored_birth b ≡ Some n)
      by None e h = absurd (cc)
      by (Some b) e h = (b, e, h)

  -- a space has a key, by its name and by its number
  known : (n : ℕ) (who : Who) → birth_in (bodies o) who ≡ Some n → (key : ℕ) × (key_of o who ≡ Some key) × (home_at homes n ≡ Some key)
  known n who h = by (get (bodies o) who) refl h
    where
      by : (x : Option Body) → get (bodies o) who ≡ x → and_then stored_birth x ≡ Some n → (key : ℕ) × (key_of o who ≡ Some key) × (home_at homes n ≡ Some key)
      by None e h = absurd (cc)
      by (Some b) e h =
          let found = get_under o who b e in
          (found.0, found.1, (homed n found.0).1 (ap (and_then stored_birth) found.2 ∙ h))

  -- what stands under the key of a space is it
  stands : (n key : ℕ) → home_at homes n ≡ Some key → (who : Who) × (name_under o key ≡ Some who) × (birth_in (bodies o) who ≡ Some n)
  stands n key h =
      let born = (homed n key).0 h in
      let body = born_body n key born in
      let name = name_there o key body.0 filed body.1 in
      (name.0, name.1, ap (and_then stored_birth) (get_at o name.0 key name.2) ∙ born)

  pub home-homed : (n : ℕ) → and_then (name_under o) (home_at homes n) ≡ home_in (bodies o) n
  home-homed n = by (home_at homes n) refl (home_in (bodies o) n) refl
    where
      by : (x : Option ℕ) → home_at homes n ≡ x → (y : Option Who) → home_in (bodies o) n ≡ y → and_then (name_under o) x ≡ y
      by None e None f = refl
      by None e (Some who) f = let found = known n who (births-found (bodies o) n who f) in let there = found.2 in absurd (cc)
      by (Some key) e None f = let found = stands n key e in absurd (births-none (bodies o) n found.0 f found.2)
      by (Some key) e (Some who) f =
          let found = known n who (births-found (bodies o) n who f) in
          let there = found.2 in
          let same : found.0 ≡ key = cc in
          ap (name_under o) (sym same) ∙ filed.filed who found.0 found.1

  -- its number is in the table
  pub born_low : (n key : ℕ) → and_then stored_birth (body_under o key) ≡ Some n → n < length homes
  born_low n key h = home_low homes n key ((homed n key).1 h)

-- ---- a space's table and marks are given back

pub left_homes : (birth : Option ℕ) (b : ℕ) (homes now : List ℕ) → birth ≡ Some b →
    ((n : ℕ) → home_at now n ≡ cond (is_number n (Some b)) (home_word nowhere) (home_at homes n)) →
    (n : ℕ) → home_at now n ≡ cond (is_number n birth) None (home_at homes n)
left_homes birth b homes now is settles n = settles n ∙ ap (λ x. cond (is_number n x) None (home_at homes n)) (sym is)

pub left_marks : (o q : Filed) (birth : Option ℕ) (b : ℕ) → birth ≡ Some b →
    ((s m : ℕ) → mark_at q.marks s m ≡ cond (s == b) false (mark_at o.marks s m)) →
    (s m : ℕ) → mark_at q.marks s m ≡ cond (is_number s birth) false (mark_at o.marks s m)
left_marks o q birth b is clears s m = clears s m ∙ ap (λ t. cond t false (mark_at o.marks s m)) turned
    ∙ ap (λ x. cond (is_number s x) false (mark_at o.marks s m)) (sym is)
  where
    turned : (s == b) ≡ (b == s)
    turned = grind (arith, nat_tests)

pub empty_cell : (o : Filed) (b k : ℕ) → ((q : Who) → q.space ≡ b → key_of o q ≡ None) → cell o.keys b k ≡ None
unfolding key_of
empty_cell o b k empty = empty (at b k) refl
