-- Numbers in their ranges, and each in the range that its field in the bytes has.
use Rattle.std.specs.Prelude.{ℕ, ◌+◌, ◌^◌, Bool, true, not, ◌&&◌, ◌||◌, ◌==◌, nat_le, nat_lt, List, length, Option, Some, None, slice_index}
use Rattle.std.specs.List.{list_all, list_any}
use Rattle.fk_model.specs.Calls.{Call, calls}
pub use Rattle.fk_model.specs.Whole.{is_word}
use Rattle.fk_image.specs.declared.image.image.Link.{Link}
use Rattle.fk_image.specs.declared.image.image.Link.TheVariants.{In, Out}
use Rattle.fk_image.specs.declared.image.image.TalkRec.{TalkRec}
use Rattle.fk_image.specs.declared.image.image.FaultRec.{FaultRec}
use Rattle.fk_image.specs.declared.image.image.ThreadRec.{ThreadRec}
use Rattle.fk_image.specs.declared.image.image.Rec.{Rec}
use Rattle.fk_image.specs.declared.image.image.Rec.TheVariants.{Mutex, Cond, Portset, Mapping, Region, Port, Thread, Reference}

-- slots of a space that hold its objects
abbrev pub is_slot : ℕ → Bool
is_slot n = nat_lt n 240

abbrev pub is_bit : ℕ → Bool
is_bit n = nat_lt n 2

abbrev pub is_byte : ℕ → Bool
is_byte n = nat_lt n 256

abbrev pub is_half : ℕ → Bool
is_half n = nat_lt n (2 ^ 16)

-- the numbers of a pointer are in range
abbrev pub fits_link : Link → Bool
fits_link (In slot space) = nat_lt space (2 ^ 32) && is_slot slot
fits_link (Out slot) = is_slot slot
fits_link other = true

-- 0, or 1 and a slot
abbrev pub is_set_word : ℕ → Bool
is_set_word set = nat_lt set 241

-- so many pages from a first one on, which a space can have
abbrev pub is_extent : ℕ → ℕ → Bool
is_extent first count = nat_lt 0 count && nat_le (first + count) 256

-- the code of a call
abbrev pub is_call_code : ℕ → Bool
is_call_code n = list_any (λ (c : Call). n == c.code) calls

-- running, calling or halted; a calling thread's first register has the code of a call
abbrev pub is_mode_byte : List ℕ → ℕ → Bool
is_mode_byte regs mode = mode == 0 || mode == 2 || mode == 1 && is_call_code (slice_index regs 0)

-- a thread that hasn't halted has no halt code
abbrev pub is_code : ℕ → ℕ → Bool
is_code mode code = mode == 2 || code == 0

abbrev pub are_words : ℕ → List ℕ → Bool
are_words count words = length words == count && list_all is_word words

-- the client's or the server's
abbrev pub is_turn : ℕ → Bool
is_turn n = not (n == 0) && nat_lt n 3

abbrev pub fits_talk : Option TalkRec → Bool
fits_talk None = true
fits_talk (Some talk) = is_turn talk.turn && is_half talk.moved && fits_link talk.port && fits_link talk.server

abbrev pub fits_taker : Option Link → Bool
fits_taker None = true
fits_taker (Some taker) = fits_link taker

abbrev pub fits_fault : Option FaultRec → Bool
fits_fault None = true
fits_fault (Some fault) = is_byte fault.page && is_bit fault.write && fits_link fault.port && fits_taker fault.taker

abbrev pub fits_thread : ThreadRec → Bool
fits_thread t =
    are_words 16 t.regs
    && is_word t.pc && is_mode_byte t.regs t.mode && is_byte t.code && is_code t.mode t.code && is_half t.stops && fits_talk t.talk && fits_fault t.fault

abbrev pub fits_body : Rec → Bool
fits_body (Mutex locked) = is_bit locked
fits_body Cond = true
fits_body Portset = true
fits_body (Mapping first count offset write region) =
    is_byte first && is_half count && is_extent first count && is_byte offset && is_bit write && fits_link region
fits_body (Region first count write keeper) = is_byte first && is_half count && is_extent first count && is_bit write && fits_link keeper
fits_body (Port set) = is_set_word set
fits_body (Thread t) = fits_thread t
fits_body (Reference to) = fits_link to
