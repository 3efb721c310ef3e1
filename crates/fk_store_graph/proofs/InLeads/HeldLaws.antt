-- Held: the number of spaces that are held, as objects come, go and change.
use Rattle.std.proofs.Common.{◌≡◌, ℕ, ◌+◌, Bool, true, false, cond, List, [], ◌∷◌, Option, Some, None, T, refl, sym, ap, subst, ◌∙◌, arith}
use Rattle.std.proofs.lemmas.List.Sums.{sum_by-cons}
use Rattle.std.specs.List.{sum_by}
use Rattle.std.specs.declared.cmp.Ordering.{Ordering}
use Rattle.std.specs.declared.cmp.Ordering.TheVariants.{Less, Equal, Greater}
use Rattle.std.specs.Ordering.{eq_by_cmp}
use Rattle.std.specs.Cmp.{IsTotalOrder}
use Rattle.std.specs.FinMap as finmap
use Rattle.std.specs.FinMap.{FinMap, put, is_sorted, get, entries, entries_sorted, entries-insert, get-entries, get-insert, get-remove, same_map}
use Rattle.std.specs.FinMap.Entries.{below_all}
use Rattle.fk_model.specs.declared.names.Who.{Who}
use Rattle.fk_model.specs.declared.body.Body.{Body}
use Rattle.fk_store_cells.specs.Slots.Tabled.{of_cell}
use Rattle.fk_store_graph.specs.Leads.Held.{is_held, one_if, held_in, IsCount}
use Rattle.fk_store_graph.specs.Leads.Names.{who_cmp, same_who}
use Rattle.fk_store_graph.proofs.InLeads.Found.{first, second, less}
use Rattle.fk_store_graph.proofs.InLeads.NameLaws.{who_total, who_exact, same_tied, same_who_eq, same_who_refl}

module _ {K X : Type 0} {R : K → K → Ordering} (o : IsTotalOrder R) (f : X → ℕ) where
  -- a key below all is not there
  find_below : (k x : K) (es : List (K × X)) → R k x ≡ Less → T (below_all R x es) → finmap.find R k es ≡ None
  find_below k x [] l h = refl
  find_below k x (e ∷ es) l h = let above : R k e.0 ≡ Less = o.trans k x e.0 l (less _ (first _ _ h)) in rw above (find_below k x es l (second _ _ h))

  abbrev total : List (K × X) → ℕ
  total es = sum_by (λ e. f e.1) es

  cons_total : (e : K × X) (es : List (K × X)) → total (e ∷ es) ≡ f e.1 + total es
  cons_total e es = sum_by-cons (λ (e : K × X). f e.1) e es

  pub total_put : (k : K) (v : X) (es : List (K × X)) → T (is_sorted R es) → total (put R k v es) + of_cell f (finmap.find R k es) ≡ total es + f v
  total_put k v [] s = by
    where
      by : total ((k, v) ∷ []) + 0 ≡ total [] + f v
      by = let one = cons_total (k, v) [] in omega (arith, one)
  total_put k v (e ∷ es) s = by (R k e.0) refl (total_put k v es (second _ _ s))
    where
      by : (r : Ordering) → R k e.0 ≡ r → total (put R k v es) + of_cell f (finmap.find R k es) ≡ total es + f v →
          total (put R k v (e ∷ es)) + of_cell f (finmap.find R k (e ∷ es)) ≡ total (e ∷ es) + f v
      by Less h more =
          let none = find_below k e.0 es h (first _ _ s) in
          rw (h, none) (let a = cons_total (k, v) (e ∷ es) in omega (arith, a))
      by Equal h more = rw h (let a = cons_total (e.0, v) es in let b = cons_total e es in omega (arith, a, b))
      by Greater h more = rw h (let a = cons_total e (put R k v es) in let b = cons_total e es in omega (arith, a, b, more))

abbrev pub holds_one : Body → ℕ
holds_one b = one_if (is_held b)

pub held-insert : (bodies : FinMap who_cmp Body) (who : Who) (b : Body) →
    held_in (finmap.insert bodies who b) + of_cell holds_one (get bodies who) ≡ held_in bodies + holds_one b
unfolding held_in
held-insert bodies who b =
    rw (entries-insert who_total bodies who b, get-entries bodies who) (total_put who_total holds_one who b (entries bodies) (entries_sorted bodies))

pub held-insert-at : (bodies : FinMap who_cmp Body) (who : Who) (b : Body) (o : Option Body) → get bodies who ≡ o →
    held_in (finmap.insert bodies who b) + of_cell holds_one o ≡ held_in bodies + holds_one b
held-insert-at bodies who b o is =
    subst (λ o. held_in (finmap.insert bodies who b) + of_cell holds_one o ≡ held_in bodies + holds_one b) is (held-insert bodies who b)

module _ (bodies : FinMap who_cmp Body) (who : Who) where
  pub held-remove : held_in (finmap.remove bodies who) + of_cell holds_one (get bodies who) ≡ held_in bodies
  held-remove = by (get bodies who) refl
    where
      gone : get (finmap.remove bodies who) who ≡ None
      gone = get-remove who_total bodies who who ∙ rw (same_tied who who, same_who_refl who) refl

      by : (o : Option Body) → get bodies who ≡ o → held_in (finmap.remove bodies who) + of_cell holds_one o ≡ held_in bodies
      by None e =
          let same : finmap.remove bodies who ≡ bodies =
          same_map who_total who_exact _ _ (λ q. get-remove who_total bodies who q ∙ rw (same_tied q who) (kept q (same_who q who) refl)) in
          let count = ap held_in same in omega (arith, count)
        where
          kept : (q : Who) (t : Bool) → same_who q who ≡ t → cond t None (get bodies q) ≡ get bodies q
          kept q false f = refl
          kept q true f = sym (ap (get bodies) (same_who_eq q who f) ∙ e)
      by (Some b) e =
          let same : finmap.insert (finmap.remove bodies who) who b ≡ bodies = same_map who_total who_exact _ _
          (λ q. get-insert who_total (finmap.remove bodies who) who b q
          ∙ rw (get-remove who_total bodies who q, same_tied q who) (back q (same_who q who) refl)) in
          let more = held-insert-at (finmap.remove bodies who) who b None gone in
          let count = ap held_in same in
          omega (arith, more, count)
        where
          back : (q : Who) (t : Bool) → same_who q who ≡ t → cond t (Some b) (cond t None (get bodies q)) ≡ get bodies q
          back q false f = refl
          back q true f = sym (ap (get bodies) (same_who_eq q who f) ∙ e)

-- where none is held, no space is
pub none-held : (bodies : FinMap who_cmp Body) → held_in bodies ≡ 0 → (who : Who) (b : Body) → get bodies who ≡ Some b → is_held b ≡ false
none-held bodies none who b there = by (is_held b) refl
  where
    by : (t : Bool) → is_held b ≡ t → t ≡ false
    by false e = refl
    by true e =
        let count = held-remove bodies who in
        let one : of_cell holds_one (get bodies who) ≡ 1 = rw (there, e) refl in
        absurd (omega (arith, count, one, none))

-- ---- the count

abbrev pub Counts : ℕ → ℕ → Bool → Bool → Type 0
Counts count result before now = (n m : ℕ) → IsCount n count → m + one_if before ≡ n + one_if now → IsCount m result

module _ (bodies : FinMap who_cmp Body) (who : Who) (count result : ℕ) (enough : IsCount (held_in bodies) count) where
  pub enough-put : (b : Body) (now : Bool) → get bodies who ≡ None → now ≡ is_held b →
      Counts count result false now → IsCount (held_in (finmap.insert bodies who b)) result
  enough-put b now empty is counts = counts (held_in bodies) (held_in (finmap.insert bodies who b)) enough
      (subst (λ t. held_in (finmap.insert bodies who b) + 0 ≡ held_in bodies + one_if t) (sym is) (held-insert-at bodies who b None empty))

  pub enough-set : (old b : Body) (before now : Bool) → get bodies who ≡ Some old → before ≡ is_held old → now ≡ is_held b → Counts count result before now →
      IsCount (held_in (finmap.insert bodies who b)) result
  enough-set old b before now there was is counts = counts (held_in bodies) (held_in (finmap.insert bodies who b)) enough
      (subst (λ t. held_in (finmap.insert bodies who b) + one_if before ≡ held_in bodies + one_if t) (sym is)
      (subst (λ t. held_in (finmap.insert bodies who b) + one_if t ≡ held_in bodies + holds_one b) (sym was) (held-insert-at bodies who b (Some old) there)))

  pub enough-remove : (before : Bool) → one_if before ≡ of_cell holds_one (get bodies who) →
      Counts count result before false → IsCount (held_in (finmap.remove bodies who)) result
  enough-remove before was counts = counts (held_in bodies) (held_in (finmap.remove bodies who)) enough
      (let left = held-remove bodies who in omega (arith, was, left))

-- another name for one object changes nothing
pub enough-rename : (bodies other : FinMap who_cmp Body) (from to : Who) (b : Body) (count : ℕ) → get bodies from ≡ Some b → get bodies to ≡ None →
    ((q : Who) → get other q ≡ cond (same_who q to) (get bodies from) (cond (same_who q from) None (get bodies q))) →
    IsCount (held_in bodies) count → IsCount (held_in other) count
enough-rename bodies other from to b count there free renamed enough few =
    let same : other ≡ finmap.insert (finmap.remove bodies from) to b =
    same_map who_total who_exact _ _ (λ q. renamed q ∙ sym (get-insert who_total (finmap.remove bodies from) to b q
    ∙ rw (get-remove who_total bodies from q, same_tied q to, same_tied q from, there) refl)) in
    let more = held-insert-at (finmap.remove bodies from) to b None none in
    let left = subst (λ o. held_in (finmap.remove bodies from) + of_cell holds_one o ≡ held_in bodies) there (held-remove bodies from) in
    let count_is = ap held_in same in
    let low = enough few in
    omega (arith, more, left, count_is, low)
  where
    none : get (finmap.remove bodies from) to ≡ None
    none = get-remove who_total bodies from to ∙ by (eq_by_cmp who_cmp to from)
      where
        by : (t : Bool) → cond t None (get bodies to) ≡ None
        by true = refl
        by false = free

pub none-counted : (bodies : FinMap who_cmp Body) (count : ℕ) → IsCount (held_in bodies) count → count ≡ 0 → held_in bodies ≡ 0
none-counted bodies count enough is = let low = enough (omega (arith, is)) in omega (arith, low, is)

-- a body that is held, or isn't, as the one before
pub enough-same : (bodies : FinMap who_cmp Body) (who : Who) (old b : Body) (count : ℕ) → get bodies who ≡ Some old → is_held b ≡ is_held old →
    IsCount (held_in bodies) count → IsCount (held_in (finmap.insert bodies who b)) count
enough-same bodies who old b count there same enough few =
    let more = held-insert-at bodies who b (Some old) there in
    let ones = ap one_if same in
    let low = enough few in
    omega (arith, more, ones, low)
