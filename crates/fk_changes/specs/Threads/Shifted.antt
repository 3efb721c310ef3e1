-- Shifted: what a moved block makes of the registers of a call.
use Rattle.std.specs.Prelude.{◌<◌, ◌^◌, ℕ, Bool, ◌+◌, ◌-◌, ◌||◌, ◌==◌, List, ◌∷◌, Option, Some, None, if◌then◌else◌, slice_index, slice_set}
use Rattle.fk_model.specs.declared.call.TheConstants.{CLIENT_RECEIVE, CLIENT_RECEIVE_REF, CLIENT_SEND, CLIENT_SEND_OVER_RECEIVE, SERVER_RECEIVE, SERVER_RECEIVE_REF, SERVER_SEND, SERVER_SEND_OVER_RECEIVE}
use Rattle.fk_model.specs.declared.stage.Stage.{Stage}
use Rattle.fk_model.specs.declared.stage.Stage.TheVariants.{ClientReceive, ClientSend, ClientReceiveRef, ServerReceive, ServerSend, ServerReceiveRef}
use Rattle.fk_model.specs.declared.thread.Turn.{Turn}
use Rattle.fk_model.specs.declared.thread.Turn.TheVariants as turns
use Rattle.fk_model.specs.Places.{Path}
use Rattle.fk_model.specs.World.{World}
use Rattle.fk_store.specs.Store.Threads.{todo_at}

-- the register of the address at which the first stage of a call moves words, by the call's code
abbrev pub moving : ℕ → Option ℕ
moving n = if n == CLIENT_SEND_OVER_RECEIVE || n == CLIENT_SEND || n == SERVER_SEND || n == SERVER_SEND_OVER_RECEIVE then Some 2
    else (if n == CLIENT_RECEIVE || n == SERVER_RECEIVE || n == CLIENT_RECEIVE_REF || n == SERVER_RECEIVE_REF then Some 4 else None)

abbrev pub advanced : ℕ → Option ℕ → List ℕ → List ℕ
advanced k None g = g
advanced k (Some i) g = slice_set (slice_set g i (slice_index g i + k)) (i + 1) (slice_index g (i + 1) - k)

abbrev pub shifted_registers : ℕ → List ℕ → List ℕ
shifted_registers k g = advanced k (moving (slice_index g 0)) g

-- the code of the call that is a Receive alone, on this side of a talk
abbrev pub receive_code : Turn → ℕ
receive_code turns.Client = CLIENT_RECEIVE
receive_code turns.Server = SERVER_RECEIVE

abbrev pub receive_ref_code : Turn → ℕ
receive_ref_code turns.Client = CLIENT_RECEIVE_REF
receive_ref_code turns.Server = SERVER_RECEIVE_REF

abbrev pub is_receive : Turn → ℕ → Bool
is_receive side n = n == receive_code side || n == receive_ref_code side

-- address and room of a Receive or a ReceiveRef on this side
abbrev pub receive_in : Turn → List ℕ → Option (ℕ × ℕ)
receive_in side g = if is_receive side (slice_index g 0) then Some (slice_index g 4, slice_index g 5) else None

-- the slot of the reference that is to take a pointer, of a ReceiveRef
abbrev pub awaited_in : List ℕ → Option ℕ
awaited_in g = if slice_index g 0 == CLIENT_RECEIVE_REF || slice_index g 0 == SERVER_RECEIVE_REF then Some (slice_index g 6) else None

-- the address of a stage that moves words; 0 of every other
abbrev pub address_of : List Stage → ℕ
address_of (ClientSend address count ∷ todo) = address
address_of (ClientReceive into room ∷ todo) = into
address_of (ServerSend address count ∷ todo) = address
address_of (ServerReceive into room ∷ todo) = into
address_of (ClientReceiveRef into room reference ∷ todo) = into
address_of (ServerReceiveRef into room reference ∷ todo) = into
address_of other = 0

abbrev pub address_in : Option ℕ → List ℕ → ℕ
address_in None g = 0
address_in (Some i) g = slice_index g i

-- so many words more still have an address
abbrev pub IsLow : World → Path → ℕ → Type 0
IsLow w x k = address_of (todo_at w x) + k < 2 ^ 64
