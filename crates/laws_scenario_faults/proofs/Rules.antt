-- Rules: what is read of entries by what they are asked.
use Rattle.std.proofs.Common.{◌≡◌, ℕ, Bool, true, false, List, [], ◌∷◌, ◌++◌, length, Result, Ok, Err, if◌then◌else◌, refl, ap, subst}
use Rattle.fk_scenario.specs.declared.fields.fail.ScenarioError.{ScenarioError}
use Rattle.fk_scenario.specs.Fields.Gives.{◌>>=◌, unless, placed}
use Rattle.laws_scenario_faults.specs.Asked.{AreKept, BreaksFirst, Section, AllKeep, BreaksAt}
use Rattle.laws_scenario_faults.specs.Asked.BreaksFirst.{Here, Later}
use Rattle.laws_scenario_faults.specs.Asked.AllKeep.{NoEntry, Entry}
use Rattle.laws_scenario_faults.specs.Asked.BreaksAt.{This, After}

-- ---- one entry

unfoldable pub by_rules : {X : Type 0} → List (ℕ × Bool) → X → Result X ℕ
by_rules [] x = Ok x
by_rules (a ∷ asked) x = if a.1 then by_rules asked x else Err a.0

-- nothing is asked
pub ends : {X : Type 0} {x : X} → Ok x ≡ by_rules [] x
unfolding by_rules
ends = refl

-- one test
pub tested : (rule : ℕ) (t : Bool) → unless rule t ≡ by_rules ((rule, t) ∷ []) tt
unfolding by_rules
tested rule t = refl

-- a reading and then another, by what both are asked
pub seq : {A B : Type 0} (these those : List (ℕ × Bool)) (x : A) (y : B) (r : Result A ℕ) (f : A → Result B ℕ) →
    r ≡ by_rules these x → f x ≡ by_rules those y → (r >>= f) ≡ by_rules (these ++ those) y
unfolding by_rules
seq [] those x y r f is more = rw is more
seq ((rule, true) ∷ these) those x y r f is more = seq these those x y r f is more
seq ((rule, false) ∷ these) those x y r f is more = rw is refl

pub ask : {A B : Type 0} {x : A} {r : Result A ℕ} (rule : ℕ) (t : Bool) (others : List (ℕ × Bool)) (y : B) (f : A → Result B ℕ) →
    r ≡ by_rules ((rule, t) ∷ []) x → f x ≡ by_rules others y → (r >>= f) ≡ by_rules ((rule, t) ∷ others) y
ask {x = x} {r = r} rule t others y f is more = seq ((rule, t) ∷ []) others x y r f is more

pub choose : {A : Type 0} (t : Bool) (a b : Result A ℕ) (these those : List (ℕ × Bool)) (x y : A) → a ≡ by_rules these x → b ≡ by_rules those y →
    (if t then a else b) ≡ by_rules (if t then these else those) (if t then x else y)
choose true a b these those x y one two = one
choose false a b these those x y one two = two

pub first : {X : Type 0} (asked : List (ℕ × Bool)) (x : X) (e : ℕ) → by_rules asked x ≡ Err e → BreaksFirst asked e
unfolding by_rules
first [] x e is = absurd (cc)
first ((rule, true) ∷ asked) x e is = Later rule e asked (first asked x e is)
first ((rule, false) ∷ asked) x e is = let same : rule ≡ e = cc in subst (BreaksFirst ((rule, false) ∷ asked)) same (Here rule asked)

pub told : {X : Type 0} (asked : List (ℕ × Bool)) (x : X) (e : ℕ) → BreaksFirst asked e → by_rules asked x ≡ Err e
unfolding by_rules
told _ x _ (Here rule more) = refl
told _ x _ (Later other rule more breaks) = told more x rule breaks

pub kept : {X : Type 0} (asked : List (ℕ × Bool)) (x y : X) → by_rules asked x ≡ Ok y → AreKept asked × (x ≡ y)
unfolding by_rules
kept [] x y is = (tt, cc)
kept ((rule, true) ∷ asked) x y is = let more = kept asked x y is in ((refl, more.0), more.1)
kept ((rule, false) ∷ asked) x y is = absurd (cc)

pub read_kept : {X : Type 0} (asked : List (ℕ × Bool)) (x : X) → AreKept asked → by_rules asked x ≡ Ok x
unfolding by_rules
read_kept [] x is = refl
read_kept ((rule, true) ∷ asked) x is = read_kept asked x is.1
read_kept ((rule, false) ∷ asked) x is = absurd (cc (is.0))

pub top_first : {X : Type 0} (asked : List (ℕ × Bool)) (x : X) (section index : ℕ) (e : ScenarioError) →
    placed section index (by_rules asked x) ≡ Err e → (BreaksFirst asked e.rule) × (e ≡ record { rule = e.rule; section = section; index = index })
top_first {X = X} asked x section index e is = by (by_rules asked x) refl is
  where
    by : (r : Result X ℕ) → by_rules asked x ≡ r → placed section index r ≡ Err e →
        (BreaksFirst asked e.rule) × (e ≡ record { rule = e.rule; section = section; index = index })
    by (Ok y) read is = absurd (cc)
    by (Err rule) read is =
        let same : record { rule = rule; section = section; index = index } ≡ e = cc in (
          subst (BreaksFirst asked) (ap (λ (e : ScenarioError). e.rule) same) (first asked x rule read),
          subst (λ (e : ScenarioError). e ≡ record { rule = e.rule; section = section; index = index }) same refl,
        )

-- ---- a section

module _ {E X : Type 0} (section : ℕ) (s : Section E X) where
  unfoldable pub read : List X → List E → Result (List X) ScenarioError
  read done [] = Ok done
  read done (entry ∷ more) = placed section (length done) (by_rules (s.asks done entry) (s.says done entry)) >>= λ x. read (done ++ x ∷ []) more

  abbrev Broken : List X → List E → ScenarioError → Type 0
  Broken done es e = BreaksAt s done es e.index e.rule × (e ≡ record { rule = e.rule; section = section; index = e.index })

  pub read_breaks : (done : List X) (es : List E) (e : ScenarioError) → read done es ≡ Err e → Broken done es e
  unfolding read
  read_breaks done [] e is = absurd (cc)
  read_breaks done (entry ∷ more) e is =
      by (by_rules (s.asks done entry) (s.says done entry)) refl is (read_breaks (done ++ s.says done entry ∷ []) more e)
    where
      by : (r : Result X ℕ) → by_rules (s.asks done entry) (s.says done entry) ≡ r →
          (placed section (length done) r >>= λ x. read (done ++ x ∷ []) more) ≡ Err e →
          (read (done ++ s.says done entry ∷ []) more ≡ Err e → Broken (done ++ s.says done entry ∷ []) more e) → Broken done (entry ∷ more) e
      by (Ok x) one is later =
          let (asked, same) = kept (s.asks done entry) (s.says done entry) x one in
          let rest = later (rw same is) in
          (After done entry more e.index e.rule asked rest.0, rest.1)
      by (Err rule) one is later =
          let same : record { rule = rule; section = section; index = length done } ≡ e = cc in
          subst (Broken done (entry ∷ more)) same (This done entry more rule (first (s.asks done entry) (s.says done entry) rule one), refl)

  pub read_keeps : (done : List X) (es : List E) (all : List X) → read done es ≡ Ok all → AllKeep s done es all
  unfolding read
  read_keeps done [] all is = let same : done ≡ all = cc in subst (AllKeep s done []) same (NoEntry done)
  read_keeps done (entry ∷ more) all is =
      by (by_rules (s.asks done entry) (s.says done entry)) refl is (read_keeps (done ++ s.says done entry ∷ []) more all)
    where
      by : (r : Result X ℕ) → by_rules (s.asks done entry) (s.says done entry) ≡ r →
          (placed section (length done) r >>= λ x. read (done ++ x ∷ []) more) ≡ Ok all →
          (read (done ++ s.says done entry ∷ []) more ≡ Ok all → AllKeep s (done ++ s.says done entry ∷ []) more all) → AllKeep s done (entry ∷ more) all
      by (Ok x) one is later =
          let (asked, same) = kept (s.asks done entry) (s.says done entry) x one in
          Entry done entry more all asked (later (rw same is))
      by (Err rule) one is later = absurd (cc)

  pub keep_reads : (done : List X) (es : List E) (all : List X) → AllKeep s done es all → read done es ≡ Ok all
  unfolding read
  keep_reads done _ _ (NoEntry _) = refl
  keep_reads done _ all (Entry _ entry more _ asked rest) =
      rw (read_kept (s.asks done entry) (s.says done entry) asked) (keep_reads (done ++ s.says done entry ∷ []) more all rest)

  pub break_reads : (done : List X) (es : List E) (index rule : ℕ) → BreaksAt s done es index rule →
      read done es ≡ Err (record { rule = rule; section = section; index = index })
  unfolding read
  break_reads done _ _ rule (This _ entry more _ breaks) =
      rw (told (s.asks done entry) (s.says done entry) rule breaks) refl
  break_reads done _ index rule (After _ entry more _ _ asked rest) =
      rw (read_kept (s.asks done entry) (s.says done entry) asked) (break_reads (done ++ s.says done entry ∷ []) more index rule rest)
