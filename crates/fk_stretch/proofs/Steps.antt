-- Steps: an instruction of a burst that has all pages of a space.
use Rattle.std.proofs.Common.{◌≡◌, ℕ, zero, suc, ◌+◌, ◌/◌, ◌%◌, ◌||◌, ◌&&◌, ◌==◌, Bool, true, false, cond, List, [], Option, Some, None, slice_index, slice_set}
use Rattle.std.proofs.Common.{Bor, IfSome, IsSome, is_some, not, option_copied, unwrap_or, refl, sym, ap, subst, ◌∙◌, arith}
use Rattle.fk_model.specs.declared.instruction.Act.{Act}
use Rattle.fk_model.specs.declared.instruction.Act.TheVariants.{Put, Jump, Load, Store, Halt, Call}
use Rattle.fk_model.specs.Instructions.{act}
use Rattle.fk_model.specs.Objects.{and_then}
use Rattle.fk_model.specs.Places.{Path, same_path}
use Rattle.fk_model.specs.Reach.{words_at}
use Rattle.fk_model.specs.World.{World, apply}
use Rattle.fk_model.specs.World.Change.{PutPage}
use Rattle.fk_model.proofs.walks.PlaceLaws.{same_path_refl}
use Rattle.laws_bursts.specs.Bursts.{Burst, using, acted, fetched, instructed, load, made, store, with_page}
use Rattle.fk_stretch.specs.Acts.{begun, pass, put, rest_of}
use Rattle.fk_stretch.specs.Stretches.{burst_in, HasWord, IsBegun, IsWritten, StoresNext}
use Rattle.fk_stretch.specs.declared.running.Running.{Running}
use Rattle.fk_stretch.specs.declared.running.Rest.{Rest}
use Rattle.fk_stretch.specs.declared.running.Rest.TheVariants as rests

or_true : (b : Bool) → (b || true) ≡ true
or_true true = refl
or_true false = refl

module _ (w : World) (space : Path) where
  -- all pages may be used already
  uses : (page : ℕ) (t : Running) → using page (burst_in w space t) ≡ burst_in w space t
  uses page t = λ i. record (burst_in w space t) { used = λ p. or_true (p == page) i }

  fetches : (t : Running) (words : List ℕ) → Some words ≡ w.page space (t.counter / 64) →
      instructed (burst_in w space t) ≡ acted (act (slice_index words (t.counter % 64)) t.registers t.counter) (burst_in w space t)
  fetches t words there =
      let b = burst_in w space t in
      ap (and_then (λ words. fetched b words (using (t.counter / 64) b))) (sym there)
      ∙ ap (acted (act (slice_index words (t.counter % 64)) t.registers t.counter)) (uses (t.counter / 64) t)

  -- what is done without memory
  does : (a : Act) (t : Running) → rest_of a ≡ rests.Nothing → acted a (burst_in w space t) ≡ Some (burst_in w space (begun a t))
  does (Put register value) t is = refl
  does (Jump counter) t is = refl
  does (Load register address) t is = absurd (cc)
  does (Store address value) t is = absurd (cc)
  does (Halt code) t is = absurd (cc)
  does Call t is = absurd (cc)

  -- what else is begun leaves the thread
  stays : (a : Act) (t : Running) → (rest_of a ≡ rests.Nothing → ⊥) → begun a t ≡ t
  stays (Put register value) t is = absurd (is refl)
  stays (Jump counter) t is = absurd (is refl)
  stays (Load register address) t is = refl
  stays (Store address value) t is = refl
  stays (Halt code) t is = refl
  stays Call t is = refl

  loads : (a : Act) (t : Running) (register address word : ℕ) → rest_of a ≡ rests.Loads register address → HasWord w space address word →
      acted a (burst_in w space t) ≡ Some (burst_in w space (put register word t))
  loads a t register address word is has = ap (λ x. acted x b) (by a is)
      ∙ ap (and_then (λ words. load register address words (using (address / 64) b))) has.there
      ∙ ap (λ b. load register address has.words b) (uses (address / 64) t)
      ∙ ap (λ v. Some (burst_in w space (put register v t))) (sym has.is)
    where
      b : Burst
      b = burst_in w space t

      by : (a : Act) → rest_of a ≡ rests.Loads register address → a ≡ Load register address
      by (Load register address) is = cc
      by (Put register value) is = absurd (cc)
      by (Jump counter) is = absurd (cc)
      by (Store address value) is = absurd (cc)
      by (Halt code) is = absurd (cc)
      by Call is = absurd (cc)

  stores : (a : Act) (t : Running) (address value : ℕ) → rest_of a ≡ rests.Stores address value →
      acted a (burst_in w space t) ≡ with_page (address / 64) (store address value) (burst_in w space t)
  stores a t address value is = ap (λ x. acted x (burst_in w space t)) (by a is)
    where
      by : (a : Act) → rest_of a ≡ rests.Stores address value → a ≡ Store address value
      by (Store address value) is = cc
      by (Put register value) is = absurd (cc)
      by (Jump counter) is = absurd (cc)
      by (Load register address) is = absurd (cc)
      by (Halt code) is = absurd (cc)
      by Call is = absurd (cc)

  -- ---- in code

  -- a page that gets another word
  pub written : (v : World) (address value page : ℕ) → page ≡ address / 64 → IsSome (w.page space page) →
      v ≡ apply (PutPage space page (slice_set (words_at w space page) (address % 64) value)) w → IsWritten w space address value v
  written v address value page same some is = record {
    words = words_at w space (address / 64);
    there = known (w.page space (address / 64)) (subst (λ (p : ℕ). IsSome (w.page space p)) same some);
    becomes = is ∙ ap (λ (p : ℕ). apply (PutPage space p (slice_set (words_at w space p) (address % 64) value)) w) same;
  }
    where
      known : (o : Option (List ℕ)) → IsSome o → o ≡ Some (unwrap_or o [])
      known None some = absurd (cc)
      known (Some words) some = refl

  pub begins : (t u : Running) (words : List ℕ) (rest : Rest) → Some words ≡ w.page space (t.counter / 64) →
      rest ≡ rest_of (act (slice_index words (t.counter % 64)) t.registers t.counter) →
      u ≡ begun (act (slice_index words (t.counter % 64)) t.registers t.counter) t →
      IsBegun (burst_in w space t) (burst_in w space u) rest
  begins t u words rest there is becomes = by rest is
    where
      a : Act
      a = act (slice_index words (t.counter % 64)) t.registers t.counter

      same : (rest_of a ≡ rests.Nothing → ⊥) → burst_in w space u ≡ burst_in w space t
      same other = ap (burst_in w space) (becomes ∙ stays a t other)

      by : (rest : Rest) → rest ≡ rest_of a → IsBegun (burst_in w space t) (burst_in w space u) rest
      by rests.Nothing is = fetches t words there ∙ does a t (sym is) ∙ ap (λ t. Some (burst_in w space t)) (sym becomes)
      by (rests.Stores address value) is =
          (same (λ none. let no = is ∙ none in absurd (cc)), fetches t words there ∙ stores a t address value (sym is))
      by (rests.Loads register address) is = same (λ none. let no = is ∙ none in absurd (cc))
      by (rests.Halts code) is = same (λ none. let no = is ∙ none in absurd (cc))
      by rests.Calls is = same (λ none. let no = is ∙ none in absurd (cc))

  pub begins_load : (t u v : Running) (words : List ℕ) (register address word : ℕ) → Some words ≡ w.page space (t.counter / 64) →
      rests.Loads register address ≡ rest_of (act (slice_index words (t.counter % 64)) t.registers t.counter) →
      u ≡ begun (act (slice_index words (t.counter % 64)) t.registers t.counter) t →
      HasWord w space address word → v ≡ put register word u →
      instructed (burst_in w space t) ≡ Some (burst_in w space v)
  begins_load t u v words register address word there is becomes has puts =
      fetches t words there
      ∙ loads a t register address word (sym is) has
      ∙ ap (λ t. Some (burst_in w space (put register word t))) (sym (becomes ∙ stays a t (λ none. let no = is ∙ none in absurd (cc))))
      ∙ ap (λ t. Some (burst_in w space t)) (sym puts)
    where
      a : Act
      a = act (slice_index words (t.counter % 64)) t.registers t.counter

  -- a word that is stored
  pub stored : (v : World) (t : Running) (address value : ℕ) → StoresNext (burst_in w space t) address value → IsWritten w space address value v →
      instructed (burst_in w space t) ≡ Some (burst_in v space (pass t))
  unfolding apply
  stored v t address value next is =
      next
      ∙ ap (and_then (λ words. store address value words (using page b))) is.there
      ∙ ap (λ b. store address value is.words b) (uses page t)
      ∙ (λ i. Some (record (burst_in w space (pass t)) { page = λ p. by p (p == page) i }))
      ∙ ap (λ w. Some (burst_in w space (pass t))) (sym is.becomes)
    where
      b : Burst
      b = burst_in w space t

      page : ℕ
      page = address / 64

      words : List ℕ
      words = slice_set is.words (address % 64) value

      by : (p : ℕ) (here : Bool) → cond here (Some words) (w.page space p) ≡ cond (same_path space space && here) (Some words) (w.page space p)
      by p here = ap (λ t. cond (t && here) (Some words) (w.page space p)) (sym (same_path_refl space))

-- ---- pages that are looked up

pub found : (o : Option (Bor (List ℕ))) (p q : Option (List ℕ)) → option_copied o ≡ p → p ≡ q → IfSome o (λ (words : Bor (List ℕ)). Some words.now ≡ q)
found None p q is same = tt
found (Some words) p q is same = is ∙ same

pub found_some : (o : Option (Bor (List ℕ))) (p : Option (List ℕ)) (none : Bool) → option_copied o ≡ p → is_some o ≡ not none → none ≡ false → IsSome p
found_some None p none is so off = let no : false ≡ true = so ∙ ap not off in absurd (cc)
found_some (Some words) p none is so off = subst (λ (o : Option (List ℕ)). IsSome o) is refl

-- what is left to be done isn't nothing
pub else_stays : (b c : Burst) (rest : Rest) → IsBegun b c rest → (rest ≡ rests.Nothing → ⊥) → c ≡ b
else_stays b c rests.Nothing is other = absurd (other refl)
else_stays b c (rests.Stores address value) is other = is.0
else_stays b c (rests.Loads register address) is other = is
else_stays b c (rests.Halts code) is other = is
else_stays b c rests.Calls is other = is

-- ---- several

pub none_made : (b : Burst) → made 0 b ≡ Some b
unfolding made
none_made b = refl

pub one_more : (n : ℕ) (b c d : Burst) → made n b ≡ Some c → instructed c ≡ Some d → made (n + 1) b ≡ Some d
unfolding made
one_more n b c d so_far next =
    let more : n + 1 ≡ suc n = omega arith in
    ap (λ m. made m b) more ∙ ap (and_then instructed) so_far ∙ next

-- and as many more as follow
pub all_made : (n m : ℕ) (a b c : Burst) → made n a ≡ Some b → made m b ≡ Some c → made (n + m) a ≡ Some c
unfolding made
all_made n zero a b c first rest =
    let none : n + 0 ≡ n = omega arith in
    ap (λ k. made k a) none ∙ first ∙ rest
all_made n (suc m) a b c first rest = by (made m b) refl rest (λ d so_far. all_made n m a b d first so_far)
  where
    by : (o : Option Burst) → made m b ≡ o → and_then instructed o ≡ Some c → ((d : Burst) → made m b ≡ Some d → made (n + m) a ≡ Some d) →
        made (n + suc m) a ≡ Some c
    by None is rest all = absurd (cc)
    by (Some d) is rest all =
        let more : n + suc m ≡ suc (n + m) = omega arith in
        ap (λ k. made k a) more ∙ ap (and_then instructed) (all d is) ∙ rest
