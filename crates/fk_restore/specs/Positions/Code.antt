-- Words of the code: tests of an image's records, and calls in place of orders.
use Rattle.std.specs.Prelude.{ℕ, Bool, true, false, ◌||◌, ◌==◌, Option, Some, None, if◌then◌else◌}
use Rattle.fk_image.specs.declared.image.image.Link.{Link}
use Rattle.fk_image.specs.declared.image.image.Link.TheVariants.{Dead, In, Out, Root}
use Rattle.fk_image.specs.declared.image.image.TalkRec.{TalkRec}
use Rattle.fk_image.specs.declared.image.image.FaultRec.{FaultRec}
use Rattle.fk_image.specs.declared.image.image.Rec.{Rec}
use Rattle.fk_restore.specs.Positions.Passes.{leads_within, link_of, talk_of, fault_of}

-- a pointer leads to the port in this slot of the nester
abbrev pub is_out : ℕ → Link → Bool
is_out i (Out j) = j == i
is_out i other = false

abbrev pub talk_is_out : ℕ → Option TalkRec → Bool
talk_is_out i None = false
talk_is_out i (Some talk) = is_out i talk.port

abbrev pub fault_is_out : ℕ → Option FaultRec → Bool
fault_is_out i None = false
fault_is_out i (Some fault) = is_out i fault.port

abbrev pub talk_is_within : Option TalkRec → Bool
talk_is_within None = false
talk_is_within (Some talk) = leads_within talk.port

abbrev pub fault_is_within : Option FaultRec → Bool
fault_is_within None = false
fault_is_within (Some fault) = leads_within fault.port

abbrev pub stays_within : Link → Bool
stays_within (In slot space) = true
stays_within Root = true
stays_within Dead = true
stays_within other = false

abbrev pub leads_in : Rec → Bool
leads_in r = stays_within (link_of r)

-- some pointer of an object does
abbrev pub leads_out : ℕ → Rec → Bool
leads_out i r = is_out i (link_of r) || talk_is_out i (talk_of r) || fault_is_out i (fault_of r)

-- an object has a talk or a fault at a port inside
abbrev pub ties_inside : Rec → Bool
ties_inside r = talk_is_within (talk_of r) || fault_is_within (fault_of r)

-- a port and a thread both lie inside
abbrev pub are_within : Link → Link → Bool
are_within port thread = if leads_within port then leads_within thread else false
