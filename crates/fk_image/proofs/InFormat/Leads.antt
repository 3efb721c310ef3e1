-- The walk over the pointers finds no wrong one exactly where all lead to what their fields may hold.
use Rattle.std.proofs.Common.{◌≡◌, ℕ, ◌+◌, ◌*◌, Bool, true, false, cond, not, ◌&&◌, List, [], ◌∷◌, ◌++◌, length, Option, Some, None, Result, Ok, Err, refl, sym}
use Rattle.std.proofs.Common.{ap, subst, ◌∙◌}
use Rattle.std.specs.List.{list_any, list_all, flat_map}
use Rattle.std.proofs.lemmas.List.Concat.{flat_map-cons}
use Rattle.fk_image.specs.declared.image.image.Link.{Link}
use Rattle.fk_image.specs.declared.image.image.Link.TheVariants.{Null, Dead, In, Out, Root, Outside}
use Rattle.fk_image.specs.declared.image.image.TalkRec.{TalkRec}
use Rattle.fk_image.specs.declared.image.image.FaultRec.{FaultRec}
use Rattle.fk_image.specs.declared.image.image.ThreadRec.{ThreadRec}
use Rattle.fk_image.specs.declared.image.image.Rec.{Rec}
use Rattle.fk_image.specs.declared.image.image.Rec.TheVariants.{Mutex, Cond, Portset, Mapping, Region, Port, Thread, Reference}
use Rattle.fk_image.specs.declared.image.image.ObjectRec.{ObjectRec}
use Rattle.fk_image.specs.declared.image.image.SpaceRec.{SpaceRec}
use Rattle.fk_image.specs.Image.Links.{may_hold, leads_to_port, serves_port, talk_leads, taker_leads, fault_leads, body_leads, space_leads, spaces_lead, peer}
use Rattle.fk_image.specs.Image.Links.{talk_peers, taker_peers, fault_peers, body_peers, object_peers, space_peers, is_same_place, are_fresh, all_lead}
use Rattle.fk_image.specs.Format.Fields.{◌>>=◌}
use Rattle.fk_image.specs.Format.Spelling.{link_bytes as link}
use Rattle.fk_image.specs.Format.Offsets.{Named, nobody, Walk, expect_at, peer_walk, port_walk, talk_walk, taker_walk, fault_walk, past, link_walk, thread_walk}
use Rattle.fk_image.specs.Format.Offsets.{set_walk, body_walk, objects_walk, space_walk, spaces_walk, offset_of, wrong_in}

-- ---- who is named behind threads that were seen

abbrev after : List (ℕ × ℕ) → List (ℕ × ℕ) → List (ℕ × ℕ)
after [] seen = seen
after (p ∷ ps) seen = after ps (p ∷ seen)

abbrev named_by : List (ℕ × ℕ) → Named
named_by seen = λ space slot. list_any (is_same_place (space, slot)) seen

after-append : (ps qs seen : List (ℕ × ℕ)) → after (ps ++ qs) seen ≡ after qs (after ps seen)
after-append [] qs seen = refl
after-append (p ∷ ps) qs seen = after-append ps qs (p ∷ seen)

and-assoc : (a b c : Bool) → (a && (b && c)) ≡ ((a && b) && c)
and-assoc true b c = refl
and-assoc false b c = refl

fresh-append : (ps qs seen : List (ℕ × ℕ)) → are_fresh seen (ps ++ qs) ≡ (are_fresh seen ps && are_fresh (after ps seen) qs)
fresh-append [] qs seen = refl
fresh-append (p ∷ ps) qs seen =
    ap (λ (b : Bool). not (list_any (is_same_place p) seen) && b) (fresh-append ps qs (p ∷ seen))
    ∙ and-assoc (not (list_any (is_same_place p) seen)) (are_fresh (p ∷ seen) ps) (are_fresh (after ps (p ∷ seen)) qs)

-- ---- walks

abbrev named_of : Result Walk ℕ → Option Named
named_of (Ok w) = Some w.named
named_of (Err at) = None

abbrev pick : Bool → Named → Option Named
pick true named = Some named
pick false named = None

-- A walk goes on exactly where what it looks at is right and names nobody again.
abbrev Fares : Bool → List (ℕ × ℕ) → List (ℕ × ℕ) → Result Walk ℕ → Type 0
Fares right ps seen r = named_of r ≡ pick (right && are_fresh seen ps) (named_by (after ps seen))

exchange : (a b c d : Bool) → ((a && b) && (c && d)) ≡ ((a && c) && (b && d))
exchange true true c d = refl
exchange true false true d = refl
exchange true false false d = refl
exchange false b c d = refl

bound : (b c : Bool) (n m : Named) (r : Result Walk ℕ) (f : Walk → Result Walk ℕ) →
    named_of r ≡ pick b n → ((at : ℕ) → named_of (f (record { at = at; named = n })) ≡ pick c m) → named_of (r >>= f) ≡ pick (b && c) m
bound true c n m (Ok w) f e h = let same : w.named ≡ n = some_is w.named n e in ap (λ (k : Named). named_of (f (record { at = w.at; named = k }))) same ∙ h w.at
  where
    some_is : (a b : Named) → Some a ≡ Some b → a ≡ b
    some_is a b e = cc
bound false c n m (Ok w) f e h = absurd cc
bound true c n m (Err at) f e h = absurd cc
bound false c n m (Err at) f e h = refl

then_fares : (a b : Bool) (ps qs seen : List (ℕ × ℕ)) (r : Result Walk ℕ) (f : Walk → Result Walk ℕ) → Fares a ps seen r
    → ((at : ℕ) → Fares b qs (after ps seen) (f (record { at = at; named = named_by (after ps seen) }))) → Fares (a && b) (ps ++ qs) seen (r >>= f)
then_fares a b ps qs seen r f one two =
    bound (a && are_fresh seen ps) (b && are_fresh (after ps seen) qs) (named_by (after ps seen)) (named_by (after qs (after ps seen))) r f one two
    ∙ ap (λ (test : Bool). pick test (named_by (after qs (after ps seen))))
    (exchange a (are_fresh seen ps) b (are_fresh (after ps seen) qs) ∙ ap (λ (fresh : Bool). (a && b) && fresh) (sym (fresh-append ps qs seen)))
    ∙ ap (λ (all : List (ℕ × ℕ)). pick ((a && b) && are_fresh seen (ps ++ qs)) (named_by all)) (sym (after-append ps qs seen))

-- a test, and then a place further on
tested : (right : Bool) (at end : ℕ) (seen : List (ℕ × ℕ)) → Fares right [] seen (expect_at right at >>= λ _. Ok (record { at = end; named = named_by seen }))
tested true at end seen = refl
tested false at end seen = refl

link_fares : (right : Bool) (before : ℕ) (to : Link) (at : ℕ) (seen : List (ℕ × ℕ)) →
    Fares right [] seen (link_walk right before to (record { at = at; named = named_by seen }))
unfolding link_walk
link_fares right before to at seen = tested right (at + before) (at + (before + length (link to))) seen

set_fares : (right : Bool) (at : ℕ) (seen : List (ℕ × ℕ)) → Fares right [] seen (set_walk right (record { at = at; named = named_by seen }))
unfolding set_walk
set_fares right at seen = tested right (at + 2) (at + 4) seen

port_fares : (spaces : List SpaceRec) (port : Link) (at : ℕ) (seen : List (ℕ × ℕ)) →
    Fares (leads_to_port spaces port) [] seen (port_walk spaces port (record { at = at; named = named_by seen }))
unfolding port_walk
port_fares spaces port at seen = tested (leads_to_port spaces port) (at + 3) (at + 3 + length (link port)) seen

nobody_new : (right : Bool) (at end : ℕ) (seen : List (ℕ × ℕ)) →
    Fares right [] seen (expect_at (right && true) at >>= λ _. Ok (record { at = end; named = named_by seen }))
nobody_new true at end seen = refl
nobody_new false at end seen = refl

peer_fares : (spaces : List SpaceRec) (port to : Link) (at : ℕ) (seen : List (ℕ × ℕ)) →
    Fares (serves_port spaces port to) (peer to) seen (peer_walk spaces port to (record { at = at; named = named_by seen }))
unfolding peer_walk
peer_fares spaces port Null at seen = nobody_new (serves_port spaces port Null) at (at + 1) seen
peer_fares spaces port Dead at seen = nobody_new (serves_port spaces port Dead) at (at + 1) seen
peer_fares spaces port (Out slot) at seen = nobody_new (serves_port spaces port (Out slot)) at (at + 2) seen
peer_fares spaces port Root at seen = nobody_new (serves_port spaces port Root) at (at + 1) seen
peer_fares spaces port Outside at seen = nobody_new (serves_port spaces port Outside) at (at + 1) seen
peer_fares spaces port (In slot n) at seen = by (serves_port spaces port (In slot n)) (list_any (is_same_place (n, slot)) seen)
  where
    by : (right old : Bool) → named_of (expect_at (right && not old) at >>= λ _. Ok (record { at = at + 6; named = named_by ((n, slot) ∷ seen) })) ≡ pick
        (right && (not old && true)) (named_by ((n, slot) ∷ seen))
    by true true = refl
    by true false = refl
    by false old = refl

talk_fares : (spaces : List SpaceRec) (talk : Option TalkRec) (at : ℕ) (seen : List (ℕ × ℕ)) →
    Fares (talk_leads spaces talk) (talk_peers talk) seen (talk_walk spaces talk (record { at = at; named = named_by seen }))
talk_fares spaces None at seen = refl
talk_fares spaces (Some talk) at seen =
    then_fares (leads_to_port spaces talk.port) (serves_port spaces talk.port talk.server)
    [] (peer talk.server) seen (port_walk spaces talk.port (record { at = at; named = named_by seen })) (peer_walk spaces talk.port talk.server)
    (port_fares spaces talk.port at seen) (λ end. peer_fares spaces talk.port talk.server end seen)

taker_fares : (spaces : List SpaceRec) (port : Link) (taker : Option Link) (at : ℕ) (seen : List (ℕ × ℕ))
    → Fares (taker_leads spaces port taker) (taker_peers taker) seen (taker_walk spaces port taker (record { at = at; named = named_by seen }))
taker_fares spaces port None at seen = refl
taker_fares spaces port (Some to) at seen = peer_fares spaces port to at seen

fault_fares : (spaces : List SpaceRec) (fault : Option FaultRec) (at : ℕ) (seen : List (ℕ × ℕ)) →
    Fares (fault_leads spaces fault) (fault_peers fault) seen (fault_walk spaces fault (record { at = at; named = named_by seen }))
fault_fares spaces None at seen = refl
fault_fares spaces (Some fault) at seen =
    then_fares (leads_to_port spaces fault.port) (taker_leads spaces fault.port fault.taker)
    [] (taker_peers fault.taker) seen (port_walk spaces fault.port (record { at = at; named = named_by seen })) (taker_walk spaces fault.port fault.taker)
    (port_fares spaces fault.port at seen) (λ end. taker_fares spaces fault.port fault.taker end seen)

thread_fares : (spaces : List SpaceRec) (t : ThreadRec) (at : ℕ) (seen : List (ℕ × ℕ))
    → Fares (talk_leads spaces t.talk && fault_leads spaces t.fault)
    (talk_peers t.talk ++ fault_peers t.fault) seen (thread_walk spaces t (record { at = at; named = named_by seen }))
unfolding thread_walk
thread_fares spaces t at seen =
    then_fares (talk_leads spaces t.talk) (fault_leads spaces t.fault)
    (talk_peers t.talk) (fault_peers t.fault) seen (talk_walk spaces t.talk (record { at = at + 142; named = named_by seen })) (fault_walk spaces t.fault)
    (talk_fares spaces t.talk (at + 142) seen) (λ end. fault_fares spaces t.fault end (after (talk_peers t.talk) seen))

body_fares : (spaces : List SpaceRec) (objects : List ObjectRec) (b : Rec) (at : ℕ) (seen : List (ℕ × ℕ)) →
    Fares (body_leads spaces objects b) (body_peers b) seen (body_walk spaces objects b (record { at = at; named = named_by seen }))
body_fares spaces objects (Mutex locked) at seen = refl
body_fares spaces objects Cond at seen = refl
body_fares spaces objects Portset at seen = refl
body_fares spaces objects (Mapping start count offset write region) at seen = link_fares _ 7 region at seen
body_fares spaces objects (Region start count write keeper) at seen = link_fares _ 6 keeper at seen
body_fares spaces objects (Port set) at seen = set_fares _ at seen
body_fares spaces objects (Thread t) at seen = thread_fares spaces t at seen
body_fares spaces objects (Reference to) at seen = link_fares _ 2 to at seen

objects_fare : (spaces : List SpaceRec) (all os : List ObjectRec) (at : ℕ) (seen : List (ℕ × ℕ))
    → Fares (list_all (λ (o : ObjectRec). body_leads spaces all o.body) os)
    (flat_map object_peers os) seen (objects_walk spaces all os (record { at = at; named = named_by seen }))
unfolding objects_walk
objects_fare spaces all [] at seen = refl
objects_fare spaces all (o ∷ os) at seen =
    let right = list_all (λ (p : ObjectRec). body_leads spaces all p.body) in
    let r = body_walk spaces all o.body (record { at = at; named = named_by seen }) >>= objects_walk spaces all os in
    let whole = then_fares (body_leads spaces all o.body) (right os) (body_peers o.body)
    (flat_map object_peers os) seen (body_walk spaces all o.body (record { at = at; named = named_by seen })) (objects_walk spaces all os)
    (body_fares spaces all o.body at seen) (λ end. objects_fare spaces all os end (after (body_peers o.body) seen)) in
    subst (λ (ps : List (ℕ × ℕ)). Fares (right (o ∷ os)) ps seen r) (sym (flat_map-cons object_peers o os)) whole

-- what stands behind doesn't change who is named
past_same : (size : ℕ) (r : Result Walk ℕ) → named_of (r >>= λ w. Ok (past size w)) ≡ named_of r
past_same size (Ok w) = refl
past_same size (Err at) = refl

space_fares : (spaces : List SpaceRec) (n : ℕ) (s : SpaceRec) (at : ℕ) (seen : List (ℕ × ℕ)) →
    Fares (space_leads spaces n s) (space_peers s) seen (space_walk spaces n s (record { at = at; named = named_by seen }))
unfolding space_walk
space_fares spaces n s at seen =
    let right = list_all (λ (o : ObjectRec). body_leads spaces s.objects o.body) s.objects in
    then_fares (may_hold spaces n s.holder)
    right [] (space_peers s) seen (link_walk (may_hold spaces n s.holder) 5 s.holder (record { at = at; named = named_by seen }))
    (λ held. objects_walk spaces s.objects s.objects (past 2 held) >>= λ w. Ok (past (2 + 513 * length s.pages) w))
    (link_fares (may_hold spaces n s.holder) 5 s.holder at seen)
    (λ end. past_same (2 + 513 * length s.pages) (objects_walk spaces s.objects s.objects (record { at = end + 2; named = named_by seen }))
    ∙ objects_fare spaces s.objects s.objects (end + 2) seen)

spaces_fare : (spaces : List SpaceRec) (n : ℕ) (ss : List SpaceRec) (at : ℕ) (seen : List (ℕ × ℕ)) →
    Fares (spaces_lead spaces n ss) (flat_map space_peers ss) seen (spaces_walk spaces n ss (record { at = at; named = named_by seen }))
unfolding spaces_walk
spaces_fare spaces n [] at seen = refl
spaces_fare spaces n (s ∷ ss) at seen =
    let r = space_walk spaces n s (record { at = at; named = named_by seen }) >>= spaces_walk spaces (n + 1) ss in
    let whole = then_fares (space_leads spaces n s) (spaces_lead spaces (n + 1) ss)
    (space_peers s) (flat_map space_peers ss) seen (space_walk spaces n s (record { at = at; named = named_by seen })) (spaces_walk spaces (n + 1) ss)
    (space_fares spaces n s at seen) (λ end. spaces_fare spaces (n + 1) ss end (after (space_peers s) seen)) in
    subst (λ (ps : List (ℕ × ℕ)). Fares (spaces_lead spaces n (s ∷ ss)) ps seen r) (sym (flat_map-cons space_peers s ss)) whole

-- ---- all of them

none_named : (r : Result Walk ℕ) (b : Bool) (named : Named) → named_of r ≡ pick b named → offset_of r ≡ None → b ≡ true
none_named (Ok w) true named e none = refl
none_named (Ok w) false named e none = absurd cc
none_named (Err at) b named e none = absurd cc

named_none : (r : Result Walk ℕ) (b : Bool) (named : Named) → named_of r ≡ pick b named → b ≡ true → offset_of r ≡ None
named_none (Ok w) b named e right = refl
named_none (Err at) true named e right = absurd cc
named_none (Err at) false named e right = absurd cc

pub none_wrong : (spaces : List SpaceRec) → wrong_in spaces ≡ None → all_lead spaces ≡ true
unfolding wrong_in
none_wrong spaces none = none_named _ _ _ (spaces_fare spaces 0 spaces 14 []) none

pub leads_right : (spaces : List SpaceRec) → all_lead spaces ≡ true → wrong_in spaces ≡ None
unfolding wrong_in
leads_right spaces right = named_none _ _ _ (spaces_fare spaces 0 spaces 14 []) right
