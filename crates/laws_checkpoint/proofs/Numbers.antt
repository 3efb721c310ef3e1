-- The numbers inside a subtree of a world that can be saved are such as an image holds.
use Rattle.std.proofs.Common.{◌≡◌, ℕ, ◌<◌, ◌≤◌, ◌^◌, true, List, [], ◌∷◌, ◌++◌, length, Option, Some, None, option_map, refl, sym, ap, subst, ◌∙◌}
use Rattle.std.specs.List.{list_all}
use Rattle.std.proofs.lemmas.Bool.{ltb-true}
use Rattle.fk_model.specs.declared.limits.TheConstants.{MOST_STOPS, MOST_MOVED}
use Rattle.fk_model.specs.Places.{Path}
use Rattle.fk_model.specs.Objects.{Talk, Fault, Thread, Body, and_then, thread_of, registers_of}
use Rattle.fk_model.specs.Objects.Body.{Mutex, Cond, Mapping, Region, Port, Portset, Space, Thread_of, Reference}
use Rattle.fk_model.specs.World.{World, Sweep}
use Rattle.fk_model.specs.Searches.{talk_at, fault_at}
use Rattle.fk_model.specs.Shapes.{IsCodeInRange}
use Rattle.fk_model.specs.Whole.{IsWhole, IsSavable}
use Rattle.fk_model.specs.Cut.{ports_of, cutting, seen_by, unheld, cut}
use Rattle.fk_image.specs.Image.Ranges.{is_word, are_words}
use Rattle.laws_pictures.specs.Imaged.{HasNumbers}

module _ (w : World) (nester : Path) (slot : ℕ) (whole : IsWhole w) (savable : IsSavable w) where
  abbrev root : Path
  root = slot ∷ nester

  abbrev c : World
  c = cut w nester slot

  abbrev f : Sweep
  f = cutting (ports_of w nester slot) nester slot

  abbrev seen : Thread → Thread
  seen t = record t { talk = and_then f.talk t.talk; fault = and_then f.fault t.fault }

  record Of (x : Path) (t : Thread) : Type 0 where
    from : Thread
    there : w.body (x ++ root) ≡ Some (Thread_of from)
    is : t ≡ seen from

  body_is : (x : Path) → c.body x ≡ option_map (λ (b : Body). unheld x (seen_by f b)) (w.body (x ++ root))
  unfolding cut
  body_is x = refl

  same_thread : (t u : Thread) → Some (Thread_of t) ≡ Some (Thread_of u) → u ≡ t
  same_thread t u e = cc

  of_cut : (x : Path) (t : Thread) → c.body x ≡ Some (Thread_of t) → Of x t
  unfolding seen_by
  of_cut x t e = by x (w.body (x ++ root)) refl (sym (body_is x) ∙ e)
    where
      by : (y : Path) (o : Option Body) → w.body (x ++ root) ≡ o → option_map (λ (b : Body). unheld y (seen_by f b)) o ≡ Some (Thread_of t) → Of x t
      by [] (Some (Thread_of u)) there e = record { from = u; there = there; is = same_thread (seen u) t e }
      by (k ∷ y) (Some (Thread_of u)) there e = record { from = u; there = there; is = same_thread (seen u) t e }
      by [] None there e = cc
      by [] (Some (Mutex locked)) there e = cc
      by [] (Some Cond) there e = cc
      by [] (Some (Mapping m)) there e = cc
      by [] (Some (Region r)) there e = cc
      by [] (Some (Port set served)) there e = cc
      by [] (Some Portset) there e = cc
      by [] (Some (Space birth holder)) there e = cc
      by [] (Some (Reference to)) there e = cc
      by (k ∷ y) None there e = cc
      by (k ∷ y) (Some (Mutex locked)) there e = cc
      by (k ∷ y) (Some Cond) there e = cc
      by (k ∷ y) (Some (Mapping m)) there e = cc
      by (k ∷ y) (Some (Region r)) there e = cc
      by (k ∷ y) (Some (Port set served)) there e = cc
      by (k ∷ y) (Some Portset) there e = cc
      by (k ∷ y) (Some (Space birth holder)) there e = cc
      by (k ∷ y) (Some (Reference to)) there e = cc

  thread_is : (x : Path) (t : Thread) (its : Of x t) → and_then thread_of (w.body (x ++ root)) ≡ Some its.from
  thread_is x t its = ap (and_then thread_of) its.there

  same_talk : (a b : Talk) → Some a ≡ Some b → a ≡ b
  same_talk a b e = cc

  same_fault : (a b : Fault) → Some a ≡ Some b → a ≡ b
  same_fault a b e = cc

  moved_in : (o : Option Talk) (talk : Talk) → and_then f.talk o ≡ Some talk → ((was : Talk) → o ≡ Some was → was.moved ≤ MOST_MOVED) → talk.moved ≤ MOST_MOVED
  moved_in None talk e most = cc
  moved_in (Some was) talk e most =
      let same : was.moved ≡ talk.moved = ap (λ (t : Talk). t.moved) (same_talk _ talk e) in
      subst (λ (n : ℕ). n ≤ MOST_MOVED) same (most was refl)

  missing_in : (o : Option Fault) (fault : Fault) → and_then f.fault o ≡ Some fault → ((was : Fault) → o ≡ Some was → was.page < 256) → fault.page < 256
  missing_in None fault e below = cc
  missing_in (Some was) fault e below =
      let same : was.page ≡ fault.page = ap (λ (t : Fault). t.page) (same_fault _ fault e) in
      subst (λ (n : ℕ). n < 256) same (below was refl)

  page_is : (x : Path) (page : ℕ) → c.page x page ≡ w.page (x ++ root) page
  unfolding cut
  page_is x page = refl

  talk_there : (x : Path) (t : Thread) (talk : Talk) → w.body x ≡ Some (Thread_of t) → t.talk ≡ Some talk → talk_at w x ≡ Some talk
  talk_there x t talk there is = ap (λ (o : Option Body). and_then (λ (t : Thread). t.talk) (and_then thread_of o)) there ∙ is

  fault_there : (x : Path) (t : Thread) (fault : Fault) → w.body x ≡ Some (Thread_of t) → t.fault ≡ Some fault → fault_at w x ≡ Some fault
  fault_there x t fault there is = ap (λ (o : Option Body). and_then (λ (t : Thread). t.fault) (and_then thread_of o)) there ∙ is

  words_are : (words : List ℕ) → length words ≡ 64 → list_all is_word words ≡ true → are_words 64 words ≡ true
  words_are words long each = rw (long, each) refl

  pub numbers_inside : HasNumbers c
  numbers_inside = record {
    registers = λ x t e. let its = of_cut x t e in
        subst (λ (u : Thread). list_all is_word (registers_of u.mode) ≡ true) (sym its.is) (savable.numbers.registers (x ++ root) its.from (thread_is x t its));
    counter = λ x t e. let its = of_cut x t e in
        subst (λ (u : Thread). u.counter < 2 ^ 64) (sym its.is)
        (ltb-true its.from.counter (2 ^ 64) (savable.numbers.counters (x ++ root) its.from (thread_is x t its)));
    stops = λ x t e. let its = of_cut x t e in
        subst (λ (u : Thread). u.stops ≤ MOST_STOPS) (sym its.is) (savable.few_stops (x ++ root) its.from (thread_is x t its));
    codes = λ x t e. let its = of_cut x t e in
        subst (λ (u : Thread). IsCodeInRange u.mode) (sym its.is) (savable.codes (x ++ root) its.from (thread_is x t its));
    moved = λ x t talk e has. let its = of_cut x t e in
        moved_in its.from.talk talk (sym (ap (λ (u : Thread). u.talk) its.is) ∙ has)
        (λ was is. savable.numbers.moved (x ++ root) was (talk_there (x ++ root) its.from was its.there is));
    missing = λ x t fault e has. let its = of_cut x t e in
        missing_in its.from.fault fault (sym (ap (λ (u : Thread). u.fault) its.is) ∙ has)
        (λ was is. savable.numbers.missing (x ++ root) was (fault_there (x ++ root) its.from was its.there is));
    pages = λ x page words e.
        let at = sym (page_is x page) ∙ e in
        words_are words (whole.full (x ++ root) page words at) (savable.numbers.pages (x ++ root) page words at);
  }
