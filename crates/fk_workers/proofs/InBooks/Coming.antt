-- What a core's calls come to is what a book asks of them.
use Rattle.std.proofs.Common.{◌≡◌, ℕ, ◌+◌, ◌<◌, ◌≤◌, ◌%◌, Bool, true, false, Option, Some, None, IfNone}
use Rattle.std.proofs.Common.{IfSome, Result, Ok, Err, IfOk, OnErr, sym, ap, subst, ◌∙◌}
use Rattle.std.proofs.lemmas.List.{length-replicate}
use Rattle.std.specs.Bool.{OnTrue, OnFalse}
use Rattle.fk_model.specs.declared.moves.Move.{Move}
use Rattle.fk_core.specs.Cores.Bursts.{IsAdvancedSo}
use Rattle.fk_core.specs.Cores.Cores.{may_lack, IsReadyMove, IsAdvanced, IsLacking, IsOver, IsTried}
use Rattle.fk_workers.specs.Books.Shown.{Shown, MayMove, MayLack, SomeMayLack, HasEnded, Moves, Comes, ComesBy, IsFirstDue, is_porter, mover_of}

pub shown_same : (s t : Shown) → t.jobs ≡ s.jobs → t.budget ≡ s.budget → t.core ≡ s.core → t ≡ s
shown_same s t jobs budget core = ap (λ j. record { jobs = j; budget = t.budget; core = t.core }) jobs
    ∙ (ap (λ b. record { jobs = s.jobs; budget = b; core = t.core }) budget ∙ ap (λ c. record { jobs = s.jobs; budget = s.budget; core = c }) core)

comes : (s t : Shown) (made : Option Move) → IsAdvanced s.jobs s.budget s.core made t.core → t.jobs ≡ s.jobs → t.budget ≡ s.budget → Comes s made t
comes s t None advanced jobs budget = shown_same s t jobs budget advanced
comes s t (Some m) advanced jobs budget =
    record { may = (advanced.0, advanced.1); turned = advanced.2; events = advanced.3; jobs = jobs; budget = budget }

ended : (s t : Shown) (made : Option Move) → IsAdvanced s.jobs s.budget s.core made t.core → t.jobs ≡ s.jobs → t.budget ≡ s.budget
    → IfNone made (IsOver s.jobs s.budget s.core) → IfNone made (HasEnded t)
ended s t None advanced jobs budget over = subst HasEnded (sym (shown_same s t jobs budget advanced)) over
ended s t (Some m) advanced jobs budget over = tt

-- the same of several
comes_by : (s t : Shown) (most : ℕ) (made : Option (Move × ℕ)) → IsAdvancedSo s.jobs s.budget most s.core made t.core → t.jobs ≡ s.jobs →
    t.budget ≡ s.budget → ComesBy s most made t
comes_by s t most None advanced jobs budget = shown_same s t jobs budget advanced
comes_by s t most (Some made) advanced jobs budget = (
  advanced.some,
  advanced.few,
  record {
    run = advanced.run;
    events = advanced.events ∙ ap (λ n. s.core.events + n) (sym (length-replicate made.1 made.0));
    within = subst (λ n. n ≤ s.budget) (sym advanced.events) advanced.within;
    jobs = jobs;
    budget = budget;
  },
)

ended_by : (s t : Shown) (most : ℕ) (made : Option (Move × ℕ)) → IsAdvancedSo s.jobs s.budget most s.core made t.core → t.jobs ≡ s.jobs →
    t.budget ≡ s.budget → IfNone made (IsOver s.jobs s.budget s.core) → IfNone made (HasEnded t)
ended_by s t most None advanced jobs budget over = subst HasEnded (sym (shown_same s t jobs budget advanced)) over
ended_by s t most (Some made) advanced jobs budget over = tt

module _ {E : Type 0} where
  pub has_come_to : (s t : Shown) (r : Result (Option Move) E) → IfOk r (λ made. IsAdvanced s.jobs s.budget s.core made t.core)
      → t.jobs ≡ s.jobs → t.budget ≡ s.budget → IfOk r (λ made. Comes s made t)
  has_come_to s t (Ok made) advanced jobs budget = comes s t made advanced jobs budget
  has_come_to s t (Err e) advanced jobs budget = tt

  pub has_ended : (s t : Shown) (r : Result (Option Move) E) → IfOk r (λ made. IsAdvanced s.jobs s.budget s.core made t.core)
      → t.jobs ≡ s.jobs → t.budget ≡ s.budget → IfOk r (λ made. IfNone made (IsOver s.jobs s.budget s.core)) → IfOk r (λ made. IfNone made (HasEnded t))
  has_ended s t (Ok made) advanced jobs budget over = ended s t made advanced jobs budget over
  has_ended s t (Err e) advanced jobs budget over = tt

  pub has_come_by : (s t : Shown) (most : ℕ) (r : Result (Option (Move × ℕ)) E)
      → IfOk r (λ made. IsAdvancedSo s.jobs s.budget most s.core made t.core) → t.jobs ≡ s.jobs → t.budget ≡ s.budget
      → IfOk r (λ made. ComesBy s most made t)
  has_come_by s t most (Ok made) advanced jobs budget = comes_by s t most made advanced jobs budget
  has_come_by s t most (Err e) advanced jobs budget = tt

  pub has_ended_by : (s t : Shown) (most : ℕ) (r : Result (Option (Move × ℕ)) E)
      → IfOk r (λ made. IsAdvancedSo s.jobs s.budget most s.core made t.core) → t.jobs ≡ s.jobs → t.budget ≡ s.budget
      → IfOk r (λ made. IfNone made (IsOver s.jobs s.budget s.core)) → IfOk r (λ made. IfNone made (HasEnded t))
  has_ended_by s t most (Ok made) advanced jobs budget over = ended_by s t most made advanced jobs budget over
  has_ended_by s t most (Err e) advanced jobs budget over = tt

  pub was_first_by : (s : Shown) (r : Result (Option (Move × ℕ)) E)
      → IfOk r (λ made. s.core.events % 2 ≡ 0 → s.core.events < s.budget → (m : Move) → is_porter s m.who ≡ true → IsReadyMove s.jobs s.core m
      → IfSome (mover_of made) (λ n. is_porter s n.who ≡ true))
      → IfOk r (λ made. IsFirstDue s (mover_of made))
  was_first_by s (Ok made) first = λ even m its may. first even may.0 m its may.1
  was_first_by s (Err e) first = tt

  pub stays : {X : Type 0} (s t : Shown) (r : Result X E) → t.jobs ≡ s.jobs → t.budget ≡ s.budget → OnErr r (t.core ≡ s.core) → OnErr r (t ≡ s)
  stays s t (Ok x) jobs budget same = tt
  stays s t (Err e) jobs budget same = shown_same s t jobs budget same

  pub was_first : (s : Shown) (r : Result (Option Move) E)
      → IfOk r (λ made. s.core.events % 2 ≡ 0 → s.core.events < s.budget → (m : Move) → is_porter s m.who ≡ true → IsReadyMove s.jobs s.core m
      → IfSome made (λ n. is_porter s n.who ≡ true))
      → IfOk r (λ made. IsFirstDue s made)
  was_first s (Ok made) first = λ even m its may. first even may.0 m its may.1
  was_first s (Err e) first = tt

  pub was_made : (s t : Shown) (m : Move) (r : Result Bool E) → s.core.events < s.budget → t.jobs ≡ s.jobs → t.budget ≡ s.budget
      → IsTried (IsReadyMove s.jobs s.core m) (may_lack s.jobs s.core m ≡ true) s.jobs s.core m t.core r → IfOk r (λ made. OnTrue made (Moves s m t))
  was_made s t m (Ok true) few jobs budget tried = record { may = (few, tried.0); turned = tried.1; events = tried.2; jobs = jobs; budget = budget }
  was_made s t m (Ok false) few jobs budget tried = tt
  was_made s t m (Err e) few jobs budget tried = tt

  pub was_unready : (s t : Shown) (m : Move) (r : Result Bool E) → IsTried (IsReadyMove s.jobs s.core m) (may_lack s.jobs s.core m ≡ true) s.jobs s.core m t.core r
      → IfOk r (λ made. OnFalse made (MayMove s m → ⊥))
  was_unready s t m (Ok true) tried = tt
  was_unready s t m (Ok false) tried = λ may. tried.0 may.1
  was_unready s t m (Err e) tried = tt

  pub was_same : (s t : Shown) (m : Move) (r : Result Bool E) → t.jobs ≡ s.jobs → t.budget ≡ s.budget
      → IsTried (IsReadyMove s.jobs s.core m) (may_lack s.jobs s.core m ≡ true) s.jobs s.core m t.core r → IfOk r (λ made. OnFalse made (t ≡ s))
  was_same s t m (Ok true) jobs budget tried = tt
  was_same s t m (Ok false) jobs budget tried = shown_same s t jobs budget tried.1
  was_same s t m (Err e) jobs budget tried = tt

  pub was_lacking : (s t : Shown) (m : Move) (r : Result Bool E) → t.jobs ≡ s.jobs → t.budget ≡ s.budget
      → IsTried (IsReadyMove s.jobs s.core m) (may_lack s.jobs s.core m ≡ true) s.jobs s.core m t.core r → OnErr r (t ≡ s)
  was_lacking s t m (Ok made) jobs budget tried = tt
  was_lacking s t m (Err e) jobs budget tried = shown_same s t jobs budget tried.2

  pub lacked : (s t : Shown) (m : Move) (r : Result Bool E) → s.core.events < s.budget
      → IsTried (IsReadyMove s.jobs s.core m) (may_lack s.jobs s.core m ≡ true) s.jobs s.core m t.core r → OnErr r (MayLack s m)
  lacked s t m (Ok made) few tried = tt
  lacked s t m (Err e) few tried = ((few, tried.0), tried.1)

  pub some_lacked : {X : Type 0} (s : Shown) (r : Result X E) → OnErr r (IsLacking s.jobs s.budget s.core) → OnErr r (SomeMayLack s)
  some_lacked s (Ok made) lacks = tt
  some_lacked s (Err e) lacks = (lacks.0, ((lacks.1, lacks.2), lacks.3))
