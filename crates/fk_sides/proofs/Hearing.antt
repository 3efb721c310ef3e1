-- What a packet makes of the far side.
use Rattle.std.proofs.Common.{◌≡◌, ℕ, List, Option, Some, None, sym, ap, subst, ◌∙◌}
use Rattle.fk_image.specs.declared.image.image.Image.{Image}
use Rattle.laws_handover.specs.FarSide as far
use Rattle.laws_handover.specs.Handover.{far_told, listened}
use Rattle.laws_handover.specs.Packets.{Packet}
use Rattle.laws_handover.specs.Pieces.{Piece}
use Rattle.laws_migrate.specs.Migration.{Why}
use Rattle.fk_sides.specs.Blocks.{read_of}
use Rattle.fk_sides.specs.declared.came.Came.{Came}
use Rattle.fk_sides.specs.declared.came.Table.{Table}
use Rattle.fk_sides.specs.Cames.{HasCome, ComesTo, IsCome}
use Rattle.fk_sides.specs.declared.far.Makes.{Makes}
use Rattle.fk_sides.specs.declared.far.Makes.TheVariants as makes
use Rattle.fk_sides.specs.declared.far.Stand.{Stand}
use Rattle.fk_restore.specs.Restore.Restores.{Restoring}
use Rattle.fk_sides.specs.Fars.{IsFar, Begins, gone_on, slot_in, stand_of}
use Rattle.fk_sides.specs.Sides.{FarSide, both}

abbrev listening : List Piece → FarSide
listening got = far.Listens got

-- what has come of a list of pieces is read as no image yet
unread_of : (t : Option Table) (got : List Piece) → HasCome t got → read_of got ≡ None
unread_of None got come = ap read_of come
unread_of (Some t) got come = come.0.unread

-- a piece more: the restore of its image begins, or none yet
pub listened_so : (slot : ℕ) (came : Came) (o : Option Makes) (image : Option Image) (got : List Piece) → ComesTo image came.table got → Begins o slot image
    → IsFar (gone_on came o) (listened (both slot) got (read_of got))
listened_so slot came o None got comes is =
    subst (λ (x : Option Makes). IsFar (gone_on came x) (listened (both slot) got (read_of got))) (sym is)
    (got, ap (λ (r : Option Image). listened (both slot) got r) (unread_of came.table got comes), comes)
listened_so slot came None (Some i) got comes never = absurd never
listened_so slot came (Some m) (Some i) got comes begins = subst (λ (r : Option Image). IsFar m (listened (both slot) got r)) (sym comes) begins.0

pub began_slot : (slot : ℕ) (came : Came) (o : Option Makes) (image : Option Image) → Begins o slot image → slot_in slot (gone_on came o) ≡ slot
began_slot slot came o None is = ap (λ (x : Option Makes). slot_in slot (gone_on came x)) is
began_slot slot came None (Some i) never = absurd never
began_slot slot came (Some m) (Some i) begins = begins.1

-- one that listened is what comes of the packet
pub taken_so : (slot : ℕ) (old new : Makes) (came : Came) (p : Packet Piece Why) → old ≡ makes.Listens came
    → ((got : List Piece) → IsCome came got → IsFar new (far_told (both slot) (listening got) p)) → (f : FarSide) → IsFar old f
    → IsFar new (far_told (both slot) f p)
taken_so slot old new came p is tells f shows =
    let its : IsFar (makes.Listens came) f = subst (λ (m : Makes). IsFar m f) is shows in
    subst (λ (x : FarSide). IsFar new (far_told (both slot) x p)) (sym its.1) (tells its.0 its.2)

-- or listens on
pub lacking_so : (old : Makes) (came more : Came) → old ≡ makes.Listens came → ((got : List Piece) → IsCome came got → IsCome more got) → (f : FarSide) → IsFar old f
    → IsFar (makes.Listens more) f
lacking_so old came more is keeps f shows =
    let its : IsFar (makes.Listens came) f = subst (λ (m : Makes). IsFar m f) is shows in
    (its.0, its.1, keeps its.0 its.2)

-- one that never makes a copy
pub never_so : (slot : ℕ) (old : Makes) (p : Packet Piece Why) → old ≡ makes.Never → (f : FarSide) → IsFar old f → IsFar old (far_told (both slot) f p)
never_so slot old p is f shows =
    let its : IsFar makes.Never f = subst (λ (m : Makes). IsFar m f) is shows in
    subst (λ (m : Makes). IsFar m (far_told (both slot) f p)) (sym is) (ap (λ (x : FarSide). far_told (both slot) x p) its)

-- one whose restore has begun
pub restores_so : (slot : ℕ) (old : Makes) (r : Restoring) (stand new : Stand) (p : Packet Piece Why) → old ≡ makes.Restores r stand
    → stand_of r new ≡ far_told (both slot) (stand_of r stand) p → (f : FarSide) → IsFar old f → IsFar (makes.Restores r new) (far_told (both slot) f p)
restores_so slot old r stand new p is told f shows =
    let its : IsFar (makes.Restores r stand) f = subst (λ (m : Makes). IsFar m f) is shows in
    ap (λ (x : FarSide). far_told (both slot) x p) its ∙ sym told
