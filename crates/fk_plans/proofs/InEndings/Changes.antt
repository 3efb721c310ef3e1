-- Changes: what a change leaves of the clients of native servers.
use Rattle.std.proofs.Common.{◌≡◌, ℕ, ◌≤◌, Bool, true, false, cond, if◌then◌else◌, ◌&&◌, ◌||◌, ◌∷◌, List, [], ◌++◌, find, Option, Some, None}
use Rattle.std.proofs.Common.{option_map, is_some, IsSome, refl, sym, ap, subst, ◌∙◌}
use Rattle.std.proofs.lemmas.Bool.{and_parts}
use Rattle.fk_model.specs.Objects.{Peer, Talk, Thread, Body, thread_of, and_then, holds}
use Rattle.fk_model.specs.Objects.Body.{Port, Thread_of}
use Rattle.fk_model.specs.Objects.Peer.{Server, Service, Parked}
use Rattle.fk_model.specs.Places.{Path, same_path, parent, Ptr, leads_to}
use Rattle.fk_model.specs.Places.Ptr.{Null, Dead, At, Out, Outside, Far}
use Rattle.fk_model.specs.Searches.{client_at, depth, is_service, objects, talk_at}
use Rattle.fk_model.specs.Talks.{path_to}
use Rattle.fk_model.specs.Valid.{IsConsistent, IsRooted, HasService, is_served_port}
use Rattle.fk_model.specs.World.{World, Change, Edit, apply, apply_all, at_path, death_sweep, edited, follow, following, killed_at, moved_to}
use Rattle.fk_model.specs.World.{talk_without, through}
use Rattle.fk_model.specs.World.Change.{Alter, Make, MakeSpace, Kill, Move, PutPage, DropPage}
use Rattle.fk_model.proofs.walks.Members.{find_some}
use Rattle.fk_model.proofs.walks.PlaceLaws.{leads_to_at, same_path_apart, same_path_eq, same_path_ne, same_path_refl}
use Rattle.fk_model.proofs.walks.WalkLaws.{no_service}
use Rattle.fk_plans.specs.Endings.Clients.{lost, HasClient, IsEnding, LosesClient, native_at, native_in, native_port}
use Rattle.fk_plans.proofs.InEndings.Seats.{is_quiet_edit, quiet-native}

-- ---- a client of a native server

-- the talk of one
pub native-talk : (w : World) (x port : Path) → native_at w x ≡ Some port → HasService w x (At port)
native-talk w x port is = by (talk_at w x) refl is
  where
    led : (talk : Talk) (p : Ptr) → talk.port ≡ p → path_to p ≡ Some port → talk.port ≡ At port
    led talk (At q) e is = let same : q ≡ port = cc in e ∙ ap At same
    led talk Null e is = absurd (cc)
    led talk Dead e is = absurd (cc)
    led talk (Out slot) e is = absurd (cc)
    led talk Outside e is = absurd (cc)
    led talk Far e is = absurd (cc)

    peer : (talk : Talk) (p : Peer) → talk.peer ≡ p → talk_at w x ≡ Some talk →
        cond {A = Option Path} (is_service p) (path_to talk.port) None ≡ Some port → HasService w x (At port)
    peer talk Service e there is = (talk, there, led talk talk.port refl is, e)
    peer talk (Server thread) e there is = absurd (cc)
    peer talk Parked e there is = absurd (cc)

    by : (o : Option Talk) → talk_at w x ≡ o → and_then native_port o ≡ Some port → HasService w x (At port)
    by None there is = absurd (cc)
    by (Some talk) there is = peer talk talk.peer refl there is

pub talk-native : (w : World) (x port : Path) → HasService w x (At port) → native_at w x ≡ Some port
talk-native w x port has = rw (has.1, has.3, has.2) refl

-- ---- the search of a world finds who there is

pub found-client : (w : World) (port : Path) → is_some (client_at w port) ≡ true → HasClient w port
unfolding client_at
found-client w port some = by (find test (objects w)) refl some
  where
    of_talk : Talk → Bool
    of_talk talk = leads_to port talk.port && is_service talk.peer

    test : Path → Bool
    test c = holds of_talk (talk_at w c)

    seated : (x : Path) (o : Option Talk) → talk_at w x ≡ o → holds of_talk o ≡ true → native_at w x ≡ Some port
    seated x None e h = absurd (cc)
    seated x (Some talk) e h =
        let both = and_parts (leads_to port talk.port) (is_service talk.peer) h in
        let led = leads_to_at port talk.port both.0 in
        rw (e, both.1, led) refl

    by : (o : Option Path) → find test (objects w) ≡ o → is_some o ≡ true → HasClient w port
    by None e some = absurd (cc)
    by (Some x) e some = record { client = x; native = seated x (talk_at w x) refl (find_some test x (objects w) e).1 }

pub client-found : (w : World) → IsConsistent w → IsRooted w → w.next ≤ depth → (port : Path) → HasClient w port → is_some (client_at w port) ≡ true
client-found w valid rooted few port has = by (client_at w port) refl
  where
    by : (o : Option Path) → client_at w port ≡ o → is_some o ≡ true
    by None e = absurd (no_service w valid rooted few port e has.client (native-talk w has.client port has.native))
    by (Some x) e = refl

pub one-client : (w : World) → IsConsistent w → (x y port : Path) → native_at w x ≡ Some port → native_at w y ≡ Some port → x ≡ y
one-client w valid x y port h g = valid.one_client x y (At port) (native-talk w x port h) (native-talk w y port g)

-- nobody is a client of a server that another is a client of
abbrev pub AreAlone : World → Type 0
AreAlone w = (x y port : Path) → native_at w x ≡ Some port → native_at w y ≡ Some port → x ≡ y

-- ---- changes that move nobody

abbrev pub AreSame : World → World → Type 0
AreSame w v = (q : Path) → native_at v q ≡ native_at w q

pub same-ending : (w v : World) → AreSame w v → IsEnding w v None
same-ending w v same p has = record { client = has.client; native = same has.client ∙ has.native }

pub then-same : (w v u : World) (o : Option Path) → IsEnding w v o → AreSame v u → IsEnding w u o
then-same w v u None ends same = λ p has. let kept = ends p has in record { client = kept.client; native = same kept.client ∙ kept.native }
then-same w v u (Some port) ends same = record {
  had = ends.had;
  none = λ has. ends.none (record { client = has.client; native = sym (same has.client) ∙ has.native });
  others = λ p apart has. let kept = ends.others p apart has in record { client = kept.client; native = same kept.client ∙ kept.native };
}

pub same-then : (w v u : World) (o : Option Path) → AreSame w v → IsEnding v u o → IsEnding w u o
same-then w v u None same ends = λ p has. ends p (record { client = has.client; native = same has.client ∙ has.native })
same-then w v u (Some port) same ends = record {
  had = record { client = ends.had.client; native = sym (same ends.had.client) ∙ ends.had.native };
  none = ends.none;
  others = λ p apart has. ends.others p apart (record { client = has.client; native = same has.client ∙ has.native });
}

-- it makes, destroys and renames nothing, and leaves ports and peers of talks
abbrev pub is_quiet : Change → Bool
is_quiet (Alter x edit) = is_quiet_edit edit
is_quiet (PutPage space page words) = true
is_quiet (DropPage space page) = true
is_quiet (Make x body) = false
is_quiet (MakeSpace x holder) = false
is_quiet (Kill x) = false
is_quiet (Move x slot) = false

abbrev pub AreQuiet : List Change → Type 0
AreQuiet [] = Unit {0}
AreQuiet (c ∷ cs) = (is_quiet c ≡ true) × AreQuiet cs

pub quiet-same : (w : World) (c : Change) → is_quiet c ≡ true → AreSame w (apply c w)
unfolding apply
quiet-same w (Alter x edit) quiet q = by (same_path q x)
  where
    by : (t : Bool) → native_in (cond t (option_map (edited edit) (w.body q)) (w.body q)) ≡ native_in (w.body q)
    by true = quiet-native edit quiet (w.body q)
    by false = refl
quiet-same w (PutPage space page words) quiet q = refl
quiet-same w (DropPage space page) quiet q = refl
quiet-same w (Make x body) quiet q = absurd (cc)
quiet-same w (MakeSpace x holder) quiet q = absurd (cc)
quiet-same w (Kill x) quiet q = absurd (cc)
quiet-same w (Move x slot) quiet q = absurd (cc)

pub all-same : (w : World) (cs : List Change) → AreQuiet cs → AreSame w (apply_all cs w)
unfolding apply_all
all-same w [] quiet q = refl
all-same w (c ∷ cs) quiet q = all-same (apply c w) cs quiet.1 q ∙ quiet-same w c quiet.0 q

pub apply-append : (cs ds : List Change) (w : World) → apply_all (cs ++ ds) w ≡ apply_all ds (apply_all cs w)
unfolding apply_all
apply-append [] ds w = refl
apply-append (c ∷ cs) ds w = apply-append cs ds (apply c w)

-- ---- what stands at one path changes

-- one that is found elsewhere
elsewhere : (w v : World) (x : Path) → ((q : Path) → same_path q x ≡ false → native_at v q ≡ native_at w q) →
    (p : Path) (has : HasClient w p) → same_path has.client x ≡ false → HasClient v p
elsewhere w v x same p has apart = record { client = has.client; native = same has.client apart ∙ has.native }

-- one at x, and all else stays
pub seat-ending : (w v : World) (x : Path) → AreAlone w → ((q : Path) → same_path q x ≡ false → native_at v q ≡ native_at w q) →
    IsEnding w v (lost (native_at w x) (native_at v x))
seat-ending w v x alone same = by (native_at w x) refl (native_at v x) refl
  where
    here : (p : Path) (has : HasClient w p) → same_path has.client x ≡ true → native_at w x ≡ Some p
    here p has e = let at = same_path_eq has.client x e in rw (← at) has.native

    kept : (p : Path) → (native_at w x ≡ Some p → native_at v x ≡ Some p) → HasClient w p → HasClient v p
    kept p stays has = split (same_path has.client x) refl
      where
        split : (t : Bool) → same_path has.client x ≡ t → HasClient v p
        split true e = record { client = x; native = stays (here p has e) }
        split false e = elsewhere w v x same p has e

    still : (p : Path) (next : Option Path) → holds (λ other. same_path other p) next ≡ true → next ≡ Some p
    still p None h = absurd (cc)
    still p (Some other) h = ap Some (same_path_eq other p h)

    gone : (p0 : Path) (next : Option Path) → native_at w x ≡ Some p0 → native_at v x ≡ next → holds (λ other. same_path other p0) next ≡ false →
        LosesClient w v p0
    gone p0 next was is off = record {
      had = record { client = x; native = was };
      none = λ has. split has (same_path has.client x) refl;
      others = λ p apart has. kept p (λ at. absurd (same_path_apart p p0 apart (let one : p0 ≡ p = cc in sym one))) has;
    }
      where
        split : (has : HasClient v p0) (t : Bool) → same_path has.client x ≡ t → ⊥
        split has true e =
            let at = same_path_eq has.client x e in
            let now : native_at v x ≡ Some p0 = rw (← at) has.native in
            let some : next ≡ Some p0 = sym is ∙ now in
            let on : holds (λ other. same_path other p0) next ≡ true = rw (some, same_path_refl p0) refl in
            absurd (cc)
        split has false e =
            let before : native_at w has.client ≡ Some p0 = sym (same has.client e) ∙ has.native in
            same_path_apart has.client x e (alone has.client x p0 before was)

    by : (old : Option Path) → native_at w x ≡ old → (next : Option Path) → native_at v x ≡ next → IsEnding w v (lost old next)
    by None was next is = λ p has. kept p (λ at. absurd (cc)) has
    by (Some p0) was next is = split (holds (λ other. same_path other p0) next) refl
      where
        split : (t : Bool) → holds (λ other. same_path other p0) next ≡ t → IsEnding w v (cond {A = Option Path} t None (Some p0))
        split true e = λ p has. kept p (λ at. let one : p0 ≡ p = cc in is ∙ still p0 next e ∙ ap Some one) has
        split false e = gone p0 next was is e
