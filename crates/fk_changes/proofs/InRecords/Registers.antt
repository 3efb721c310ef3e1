-- Registers: those of a thread in its record.
use Rattle.std.proofs.Common.{◌≡◌, ℕ, List, [], ◌∷◌, ◌++◌, length, Option, Some, None, true, false, is_none, option_map, slice_set, refl, sym, ap, subst, ◌∙◌}
use Rattle.fk_model.specs.declared.stage.Stage.{Stage}
use Rattle.fk_model.specs.declared.stage.Todo.{Todo}
use Rattle.fk_model.specs.declared.thread.Mode.TheVariants as modes
use Rattle.fk_model.specs.declared.thread.Thread as threads_of
use Rattle.fk_model.specs.Calls.{code_of, rest_of, stages_of, todo_of, words}
use Rattle.fk_model.specs.Objects.{registers_of}
use Rattle.fk_model.specs.Objects.Body.{Thread_of}
use Rattle.fk_model.specs.Places.{Path}
use Rattle.fk_model.specs.Records.{fault_words, halt_code, mode_number, padded, record_of, talk_words}
use Rattle.fk_model.proofs.calls.CallLaws.{sixteen, todo_writes_back_lem}
use Rattle.fk_store.specs.Store.Bodies.{calling_mode, fault_by, mode_by, talk_by, thread_by}

-- a call that is none is shown with the code 0
no_call : (g : List ℕ) → length g ≡ 16 → todo_of g ≡ None → slice_set g 0 0 ≡ registers_of (calling_mode g)
unfolding words rest_of code_of
no_call g long none = rw none (subst (λ g. slice_set g 0 0 ≡ words [] (rest_of [] g)) (sixteen g long) refl)

a_call : (g : List ℕ) (todo : List Stage) → length g ≡ 16 → todo_of g ≡ Some todo → g ≡ registers_of (calling_mode g)
a_call g todo long named = rw named (sym (todo_writes_back_lem g todo long named).2)

module _ (t : threads_of.Thread) (o : Option Todo) (long : length t.regs ≡ 16) (is : t.mode ≡ modes.Calling)
    (named : option_map stages_of o ≡ todo_of t.regs) where
  pub without_call : is_none o ≡ true → slice_set t.regs 0 0 ≡ registers_of (mode_by t.mode t.regs)
  without_call h = rw is (no_call t.regs long (sym named ∙ by o h))
    where
      by : (o : Option Todo) → is_none o ≡ true → option_map stages_of o ≡ None
      by None h = refl
      by (Some todo) h = absurd (cc)

  pub with_call : is_none o ≡ false → t.regs ≡ registers_of (mode_by t.mode t.regs)
  with_call h = rw is (by o refl h)
    where
      by : (q : Option Todo) → o ≡ q → is_none q ≡ false → t.regs ≡ registers_of (calling_mode t.regs)
      by None e h = absurd (cc)
      by (Some todo) e h = a_call t.regs (stages_of todo) long (sym named ∙ ap (option_map stages_of) e)

-- the words of a thread's record, each in its place
placed : (g : List ℕ) (n m h s a b c d e : ℕ) → length g ≡ 16 → 8 ∷ slice_set (slice_set (slice_set (slice_set (slice_set (slice_set (slice_set (slice_set
    (slice_set (g ++ 0 ∷ 0 ∷ 0 ∷ 0 ∷ 0 ∷ 0 ∷ 0 ∷ 0 ∷ 0 ∷ 0 ∷ 0 ∷ 0 ∷ 0 ∷ 0 ∷ 0 ∷ []) 16 n) 17 m) 18 h) 19 s) 20 a) 21 b) 22 c) 23 d) 24 e
    ≡ padded 32 (8 ∷ (((g ++ n ∷ m ∷ h ∷ s ∷ []) ++ a ∷ b ∷ []) ++ c ∷ d ∷ e ∷ []))
placed g n m h s a b c d e long =
    subst (λ g. 8 ∷ slice_set (slice_set (slice_set (slice_set (slice_set (slice_set (slice_set (slice_set
    (slice_set (g ++ 0 ∷ 0 ∷ 0 ∷ 0 ∷ 0 ∷ 0 ∷ 0 ∷ 0 ∷ 0 ∷ 0 ∷ 0 ∷ 0 ∷ 0 ∷ 0 ∷ 0 ∷ []) 16 n) 17 m) 18 h) 19 s) 20 a) 21 b) 22 c) 23 d) 24 e
    ≡ padded 32 (8 ∷ (((g ++ n ∷ m ∷ h ∷ s ∷ []) ++ a ∷ b ∷ []) ++ c ∷ d ∷ e ∷ []))) (sixteen g long) refl

-- are the record
pub thread_words : (p : ℕ → Path) (t : threads_of.Thread) (g : List ℕ) (m h a b c d e : ℕ) → length g ≡ 16 →
    g ≡ registers_of (mode_by t.mode t.regs) → m ≡ mode_number (mode_by t.mode t.regs) → h ≡ halt_code (mode_by t.mode t.regs) →
    talk_words (option_map (talk_by p) t.talk) ≡ a ∷ b ∷ [] → fault_words (option_map (fault_by p) t.fault) ≡ c ∷ d ∷ e ∷ [] →
    8 ∷ slice_set (slice_set (slice_set (slice_set (slice_set (slice_set (slice_set (slice_set
    (slice_set (g ++ 0 ∷ 0 ∷ 0 ∷ 0 ∷ 0 ∷ 0 ∷ 0 ∷ 0 ∷ 0 ∷ 0 ∷ 0 ∷ 0 ∷ 0 ∷ 0 ∷ 0 ∷ []) 16 t.pc) 17 m) 18 h) 19 t.stops) 20 a) 21 b) 22 c) 23 d) 24 e
    ≡ record_of (Thread_of (thread_by p t))
unfolding record_of
thread_words p t g m h a b c d e long registers mode code talk fault =
    let shown : padded 32 (8 ∷ (((g ++ t.pc ∷ m ∷ h ∷ t.stops ∷ []) ++ a ∷ b ∷ []) ++ c ∷ d ∷ e ∷ []))
    ≡ record_of (Thread_of (thread_by p t)) = rw (talk, fault, ← registers, ← mode, ← code) refl in
    placed g t.pc m h t.stops a b c d e long ∙ shown
