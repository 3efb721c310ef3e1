-- Talking: which codes name a call that begins with a Send, an Over or a Receive.
use Rattle.std.proofs.Common.{◌≡◌, ℕ, Bool, true, false, eqb, ◌||◌, List, [], ◌∷◌, length, slice_index, refl, sym, ◌∙◌}
use Rattle.fk_model.specs.declared.stage.Stage.{Stage}
use Rattle.fk_model.specs.declared.thread.Mode.TheVariants as modes
use Rattle.fk_model.specs.declared.thread.Thread as threads_of
use Rattle.fk_model.specs.declared.thread.Turn.{Turn}
use Rattle.fk_model.specs.declared.thread.Turn.TheVariants as turns
use Rattle.fk_model.specs.Calls.{calls, todo_of, rest_of}
use Rattle.fk_model.specs.Objects.Mode.{Calling}
use Rattle.fk_model.specs.Places.{Path}
use Rattle.fk_model.specs.Talks.{is_talking}
use Rattle.fk_model.proofs.calls.CallLaws.{registers}
use Rattle.fk_stages.proofs.Codes.{OfEach, OfOthers, of_registers}
use Rattle.fk_store.specs.Store.Bodies.{calling_mode, thread_by}
use Rattle.fk_changes.specs.Deaths.Ends.{begins_talking}

Talks : Turn → List ℕ → Type 0
Talks side g = is_talking side (calling_mode g) ≡ begins_talking side (slice_index g 0)

Keeps_quiet : Turn → List ℕ → List Stage → Type 0
Keeps_quiet side g todo = is_talking side (Calling todo (rest_of todo g)) ≡ false

-- seven tests in two orders
in_none : (a b c d e f g : Bool) → (a || (b || (c || (d || (e || (f || (g || false))))))) ≡ false → ((((((a || b) || c) || d) || e) || f) || g) ≡ false
in_none false false false false false false false other = refl
in_none true b c d e f g other = absurd (cc)
in_none false true c d e f g other = absurd (cc)
in_none false false true d e f g other = absurd (cc)
in_none false false false true e f g other = absurd (cc)
in_none false false false false true f g other = absurd (cc)
in_none false false false false false true g other = absurd (cc)
in_none false false false false false false true other = absurd (cc)

clients : List ℕ
clients = 34 ∷ 35 ∷ 36 ∷ 37 ∷ 38 ∷ 40 ∷ 41 ∷ []

servers : List ℕ
servers = 50 ∷ 51 ∷ 52 ∷ 53 ∷ 54 ∷ 57 ∷ 58 ∷ []

each_client : (r : ℕ → ℕ) → OfEach (λ n. Talks turns.Client (registers n r)) clients
unfolding clients Talks todo_of
each_client r = (refl, (refl, (refl, (refl, (refl, (refl, (refl, tt)))))))

other_clients : OfOthers clients (Keeps_quiet turns.Client) calls
unfolding clients Keeps_quiet
other_clients = assumption

each_server : (r : ℕ → ℕ) → OfEach (λ n. Talks turns.Server (registers n r)) servers
unfolding servers Talks todo_of
each_server r = (refl, (refl, (refl, (refl, (refl, (refl, (refl, tt)))))))

other_servers : OfOthers servers (Keeps_quiet turns.Server) calls
unfolding servers Keeps_quiet
other_servers = assumption

pub talks : (side : Turn) (g : List ℕ) → length g ≡ 16 → is_talking side (calling_mode g) ≡ begins_talking side (slice_index g 0)
unfolding clients servers Talks Keeps_quiet
talks turns.Client = of_registers clients (Talks turns.Client) (Keeps_quiet turns.Client) each_client other_clients (λ g. refl)
    (λ n r other quiet. quiet ∙ sym (in_none (eqb n 34) (eqb n 35) (eqb n 36) (eqb n 37) (eqb n 38) (eqb n 40) (eqb n 41) other))
talks turns.Server = of_registers servers (Talks turns.Server) (Keeps_quiet turns.Server) each_server other_servers (λ g. refl)
    (λ n r other quiet. quiet ∙ sym (in_none (eqb n 50) (eqb n 51) (eqb n 52) (eqb n 53) (eqb n 54) (eqb n 57) (eqb n 58) other))

pub talking_thread : (p : ℕ → Path) (t : threads_of.Thread) (side : Turn) →
    length t.regs ≡ 16 → t.mode ≡ modes.Calling → is_talking side (thread_by p t).mode ≡ begins_talking side (slice_index t.regs 0)
talking_thread p t side long is = rw is (talks side t.regs long)
