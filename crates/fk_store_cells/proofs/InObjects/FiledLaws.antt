-- FiledLaws: keys and names agree, whatever comes, goes or gets another name.
use Rattle.std.proofs.Common.{◌≡◌, ℕ, ◌<◌, Bool, true, false, cond, ◌==◌, Option, Some, None, option_map, refl, sym, ap, ◌∙◌, arith}
use Rattle.std.proofs.lemmas.Bool.Decides.{nat_tests}
use Rattle.fk_model.specs.declared.names.Who.{Who}
use Rattle.fk_model.specs.declared.body.Body.{Body}
use Rattle.fk_model.specs.Objects.{and_then}
use Rattle.fk_store_cells.specs.Keys.Tables.{nothing, number_of}
use Rattle.fk_store_cells.specs.declared.objects.entry.Entry.{Entry}
use Rattle.fk_store_cells.specs.Objects.Filed.{Filed, AreFiled, IsFiled, entry_under, key_of, name_under}
use Rattle.fk_store_cells.specs.Objects.Edits.{same_who}

pub who_same : (a b : Who) → same_who a b ≡ true → a ≡ b
who_same a b e =
    let space : a.space ≡ b.space = grind (arith, nat_tests) in
    let slot : a.slot ≡ b.slot = grind (arith, nat_tests) in
    λ i. record { space = space i; slot = slot i }

pub same_self : (a : Who) → same_who a a ≡ true
same_self a = grind (arith, nat_tests)

pub same_some : {A : Type 0} (o : Option A) (a b : A) → o ≡ Some a → o ≡ Some b → a ≡ b
same_some o a b h k = cc

pub none_some : {A : Type 0} (o : Option A) (a : A) → o ≡ None → o ≡ Some a → ⊥
none_some o a h k = absurd (cc)

module _ (keyed keyed2 : Who → Option ℕ) (named named2 : ℕ → Option Who) (are : AreFiled keyed named) where
  -- keys and names are the same
  pub filed_kept : ((q : Who) → keyed2 q ≡ keyed q) → ((j : ℕ) → named2 j ≡ named j) → AreFiled keyed2 named2
  filed_kept keys names = record {
    filed = λ q j h. names j ∙ are.filed q j (sym (keys q) ∙ h);
    found = λ j q h. keys q ∙ are.found j q (sym (names j) ∙ h);
    small = λ j q h. are.small j q (sym (names j) ∙ h);
  }

  -- a name comes with a key
  module _ (who : Who) (key : ℕ) (empty : keyed who ≡ None) (vacant : named key ≡ None) (low : key < 858993458)
      (keys : (q : Who) → keyed2 q ≡ cond (same_who q who) (Some key) (keyed q))
      (names : (j : ℕ) → named2 j ≡ cond (j == key) (Some who) (named j)) where
    pub filed_made : AreFiled keyed2 named2
    filed_made = record {
      filed = λ q j h. by_key q j (same_who q who) refl (sym (keys q) ∙ h);
      found = λ j q h. by_name j q (j == key) refl (sym (names j) ∙ h);
      small = λ j q h. by_low j q (j == key) refl (sym (names j) ∙ h);
    }
      where
        by_key : (q : Who) (j : ℕ) (b : Bool) → same_who q who ≡ b → cond b (Some key) (keyed q) ≡ Some j → named2 j ≡ Some q
        by_key q j true e h =
            let is : key ≡ j = cc in
            let here : (j == key) ≡ true = grind (arith, nat_tests) in
            names j ∙ rw here (ap Some (sym (who_same q who e)))
        by_key q j false e h = names j ∙ by (j == key) refl
          where
            there : named j ≡ Some q
            there = are.filed q j h

            by : (c : Bool) → (j == key) ≡ c → cond c (Some who) (named j) ≡ Some q
            by false f = there
            by true f = let is : j ≡ key = grind (arith, nat_tests) in absurd (none_some (named key) q vacant (ap named (sym is) ∙ there))

        by_name : (j : ℕ) (q : Who) (b : Bool) → (j == key) ≡ b → cond b (Some who) (named j) ≡ Some q → keyed2 q ≡ Some j
        by_name j q true e h =
            let is : who ≡ q = cc in
            let here : j ≡ key = grind (arith, nat_tests) in
            keys q ∙ ap (λ x. cond x (Some key) (keyed q)) (ap (λ x. same_who x who) (sym is) ∙ same_self who) ∙ ap Some (sym here)
        by_name j q false e h = keys q ∙ by (same_who q who) refl
          where
            there : keyed q ≡ Some j
            there = are.found j q h

            by : (c : Bool) → same_who q who ≡ c → cond c (Some key) (keyed q) ≡ Some j
            by false f = there
            by true f = absurd (none_some (keyed who) j empty (ap keyed (sym (who_same q who f)) ∙ there))

        by_low : (j : ℕ) (q : Who) (b : Bool) → (j == key) ≡ b → cond b (Some who) (named j) ≡ Some q → j < 858993458
        by_low j q true e h = let here : j ≡ key = grind (arith, nat_tests) in omega (arith, here, low)
        by_low j q false e h = are.small j q h

  -- a name goes with its key
  module _ (who : Who) (key : ℕ) (there : named key ≡ Some who)
      (keys : (q : Who) → keyed2 q ≡ cond (same_who q who) None (keyed q))
      (names : (j : ℕ) → named2 j ≡ cond (j == key) None (named j)) where
    pub filed_removed : AreFiled keyed2 named2
    filed_removed = record {
      filed = λ q j h. by_key q j (same_who q who) refl (sym (keys q) ∙ h);
      found = λ j q h. by_name j q (j == key) refl (sym (names j) ∙ h);
      small = λ j q h. by_low j q (j == key) (sym (names j) ∙ h);
    }
      where
        by_key : (q : Who) (j : ℕ) (b : Bool) → same_who q who ≡ b → cond b None (keyed q) ≡ Some j → named2 j ≡ Some q
        by_key q j true e h = absurd (cc)
        by_key q j false e h = names j ∙ by (j == key) refl
          where
            here : named j ≡ Some q
            here = are.filed q j h

            by : (c : Bool) → (j == key) ≡ c → cond c None (named j) ≡ Some q
            by false f = here
            by true f =
                let is : j ≡ key = grind (arith, nat_tests) in
                let same : q ≡ who = same_some (named key) q who (ap named (sym is) ∙ here) there in
                let tests : same_who q who ≡ true = ap (λ x. same_who x who) same ∙ same_self who in absurd (cc)

        by_name : (j : ℕ) (q : Who) (b : Bool) → (j == key) ≡ b → cond b None (named j) ≡ Some q → keyed2 q ≡ Some j
        by_name j q true e h = absurd (cc)
        by_name j q false e h = keys q ∙ by (same_who q who) refl
          where
            here : keyed q ≡ Some j
            here = are.found j q h

            by : (c : Bool) → same_who q who ≡ c → cond c None (keyed q) ≡ Some j
            by false f = here
            by true f =
                let is : j ≡ key = same_some (keyed who) j key (ap keyed (sym (who_same q who f)) ∙ here) (are.found key who there) in
                absurd (grind (arith, nat_tests))

        by_low : (j : ℕ) (q : Who) (b : Bool) → cond b None (named j) ≡ Some q → j < 858993458
        by_low j q true h = absurd (cc)
        by_low j q false h = are.small j q h

  -- a key has another name
  module _ (who to : Who) (key : ℕ) (there : named key ≡ Some who) (free : keyed to ≡ None)
      (keys : (q : Who) → keyed2 q ≡ cond (same_who q to) (Some key) (cond (same_who q who) None (keyed q)))
      (names : (j : ℕ) → named2 j ≡ cond (j == key) (Some to) (named j)) where
    pub filed_renamed : AreFiled keyed2 named2
    filed_renamed = record {
      filed = λ q j h. by_key q j (same_who q to) refl (same_who q who) refl (sym (keys q) ∙ h);
      found = λ j q h. by_name j q (j == key) refl (sym (names j) ∙ h);
      small = λ j q h. by_low j q (j == key) refl (sym (names j) ∙ h);
    }
      where
        by_key : (q : Who) (j : ℕ) (b : Bool) → same_who q to ≡ b → (c : Bool) → same_who q who ≡ c →
            cond b (Some key) (cond c None (keyed q)) ≡ Some j → named2 j ≡ Some q
        by_key q j true e c f h =
            let is : key ≡ j = cc in
            let here : (j == key) ≡ true = grind (arith, nat_tests) in
            names j ∙ rw here (ap Some (sym (who_same q to e)))
        by_key q j false e true f h = absurd (cc)
        by_key q j false e false f h = names j ∙ by (j == key) refl
          where
            here : named j ≡ Some q
            here = are.filed q j h

            by : (c : Bool) → (j == key) ≡ c → cond c (Some to) (named j) ≡ Some q
            by false g = here
            by true g =
                let is : j ≡ key = grind (arith, nat_tests) in
                let same : q ≡ who = same_some (named key) q who (ap named (sym is) ∙ here) there in
                let tests : same_who q who ≡ true = ap (λ x. same_who x who) same ∙ same_self who in absurd (cc)

        by_name : (j : ℕ) (q : Who) (b : Bool) → (j == key) ≡ b → cond b (Some to) (named j) ≡ Some q → keyed2 q ≡ Some j
        by_name j q true e h =
            let is : to ≡ q = cc in
            let here : j ≡ key = grind (arith, nat_tests) in
            keys q ∙ ap (λ x. cond x (Some key) (cond (same_who q who) None (keyed q))) (ap (λ x. same_who x to) (sym is) ∙ same_self to) ∙ ap Some (sym here)
        by_name j q false e h = keys q ∙ by (same_who q to) refl (same_who q who) refl
          where
            here : keyed q ≡ Some j
            here = are.found j q h

            by : (b : Bool) → same_who q to ≡ b → (c : Bool) → same_who q who ≡ c → cond b (Some key) (cond c None (keyed q)) ≡ Some j
            by false f false g = here
            by true f c g = absurd (none_some (keyed to) j free (ap keyed (sym (who_same q to f)) ∙ here))
            by false f true g =
                let is : j ≡ key = same_some (keyed who) j key (ap keyed (sym (who_same q who g)) ∙ here) (are.found key who there) in
                absurd (grind (arith, nat_tests))

        by_low : (j : ℕ) (q : Who) (b : Bool) → (j == key) ≡ b → cond b (Some to) (named j) ≡ Some q → j < 858993458
        by_low j q true e h = let here : j ≡ key = grind (arith, nat_tests) in are.small j who (ap named here ∙ there)
        by_low j q false e h = are.small j q h

-- ---- a key as it is written

abbrev body_of : Option Entry → Option Body
body_of o = option_map (λ (e : Entry). e.body) o

-- under what stands for no key there is no object
nothing_under : (o : Filed) → IsFiled o → body_of (entry_under o nothing) ≡ None
unfolding name_under
nothing_under o filed = by (entry_under o nothing) refl
  where
    by : (x : Option Entry) → entry_under o nothing ≡ x → body_of x ≡ None
    by None e = refl
    by (Some entry) e = let small = filed.small nothing entry.who (ap (option_map (λ (e : Entry). e.who)) e) in absurd (omega (arith, small))

pub read_word : (o : Filed) → IsFiled o → (who : Who) (word : ℕ) → number_of word ≡ key_of o who →
    option_map (λ (e : Entry). e.body) (entry_under o word) ≡ and_then (λ key. option_map (λ (e : Entry). e.body) (entry_under o key)) (key_of o who)
read_word o filed who word is = by (word == nothing) refl ∙ ap (and_then (λ key. body_of (entry_under o key))) is
  where
    by : (b : Bool) → (word == nothing) ≡ b → body_of (entry_under o word) ≡ and_then (λ key. body_of (entry_under o key)) (cond b None (Some word))
    by true e = let same : word ≡ nothing = grind (arith, nat_tests) in ap (λ w. body_of (entry_under o w)) same ∙ nothing_under o filed
    by false e = refl
