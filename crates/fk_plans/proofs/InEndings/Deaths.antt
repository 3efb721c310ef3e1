-- Deaths: what the making, the death and the renaming of an object leave of the clients of native servers.
use Rattle.std.proofs.Common.{◌≡◌, ℕ, ◌≤◌, Bool, true, false, cond, if◌then◌else◌, ◌&&◌, ◌||◌, ◌∷◌, List, [], Option, Some, None, option_map, is_some}
use Rattle.std.proofs.Common.{IsSome, refl, sym, ap, subst, ◌∙◌}
use Rattle.fk_model.specs.declared.names.Kind.TheVariants as kinds
use Rattle.fk_model.specs.Objects.{Peer, Talk, Thread, Body, thread_of, port_of, and_then, holds}
use Rattle.fk_model.specs.Objects.Body.{Mutex, Cond, Mapping, Region, Port, Portset, Space, Thread_of, Reference}
use Rattle.fk_model.specs.Objects.Peer.{Server, Service, Parked}
use Rattle.fk_model.specs.Outcomes.{Said}
use Rattle.fk_model.specs.Outcomes.Said.{Nothing, Ended}
use Rattle.std.proofs.lemmas.Bool.{or_parts}
use Rattle.fk_model.specs.LinkRows.{told_end}
use Rattle.fk_model.specs.ObjectRows.{told_with, told_client, told_port}
use Rattle.fk_model.specs.Places.{Path, same_path, parent, Ptr, leads_to}
use Rattle.fk_model.specs.Places.Ptr.{Null, Dead, At, Out, Outside, Far}
use Rattle.fk_model.specs.Searches.{client_at, depth, is_service}
use Rattle.fk_model.specs.Talks.{path_to}
use Rattle.fk_model.specs.Valid.{IsConsistent, IsRooted, is_served_port}
use Rattle.fk_model.specs.World.{World, apply, death_sweep, follow, follow_peer, following, serves, talk_without, through}
use Rattle.fk_model.specs.World.Change.{Make, MakeSpace, Kill, Move}
use Rattle.fk_model.proofs.walks.PlaceLaws.{same_path_apart, same_path_eq, same_path_ne, same_path_refl}
use Rattle.fk_plans.specs.Endings.Clients.{HasClient, IsEnding, LosesClient, native_at, native_in, native_port}
use Rattle.fk_plans.proofs.InEndings.Changes.{found-client, client-found, native-talk, one-client}

abbrev pub told_at : Option Path → Said
told_at None = Nothing
told_at (Some port) = Ended (At port)

-- ---- who has a client is a port

no_native : (w : World) (x port : Path) (b : Option Body) → w.body x ≡ b → native_in b ≡ None → native_at w x ≡ Some port → ⊥
no_native w x port b e none is = absurd (let off : native_at w x ≡ None = rw e none in cc)

-- a thread alone is a client
abbrev is_thread : Option Body → Bool
is_thread (Some (Thread_of t)) = true
is_thread other = false

native-thread : (b : Option Body) (port : Path) → native_in b ≡ Some port → is_thread b ≡ true
native-thread (Some (Thread_of t)) port is = refl
native-thread (Some b) port is = absurd (cc)
native-thread None port is = absurd (cc)

-- and a port alone has one
abbrev is_port : Option Body → Bool
is_port (Some (Port set served)) = true
is_port other = false

served-port : (b : Option Body) → holds (λ (port : Option ℕ × Bool). port.1) (and_then port_of b) ≡ true → is_port b ≡ true
served-port (Some (Port set served)) is = refl
served-port (Some b) is = absurd (cc)
served-port None is = absurd (cc)

has-port : (w : World) → IsConsistent w → (x p : Path) → native_at w x ≡ Some p → is_port (w.body p) ≡ true
has-port w valid x p is = served-port (w.body p) (valid.served x (At p) (native-talk w x p is))

-- ---- deaths

-- a talk with a native server at a port that goes on
killed-seat : (x : Path) (talk : Talk) (port : Path) → native_port talk ≡ Some port → same_path port x ≡ false →
    and_then native_port (talk_without x talk) ≡ Some port
killed-seat x talk port is apart = by talk.peer refl is
  where
    led : (p : Ptr) → talk.port ≡ p → talk.peer ≡ Service → path_to p ≡ Some port → and_then native_port (talk_without x talk) ≡ Some port
    led (At q) f g is = let same : q ≡ port = cc in rw (f, g, same, apart) refl
    led Null f g is = absurd (cc)
    led Dead f g is = absurd (cc)
    led (Out slot) f g is = absurd (cc)
    led Outside f g is = absurd (cc)
    led Far f g is = absurd (cc)

    by : (p : Peer) → talk.peer ≡ p → cond {A = Option Path} (is_service p) (path_to talk.port) None ≡ Some port →
        and_then native_port (talk_without x talk) ≡ Some port
    by Service g is = led talk.port refl g is
    by (Server thread) g is = absurd (cc)
    by Parked g is = absurd (cc)

-- was there before
killed-was : (x : Path) (talk : Talk) (port : Path) → and_then native_port (talk_without x talk) ≡ Some port →
    (native_port talk ≡ Some port) × (same_path port x ≡ false)
killed-was x talk port is = by (leads_to x talk.port || serves x talk.peer) refl is
  where
    off : (p : Ptr) → talk.port ≡ p → leads_to x p ≡ false → path_to p ≡ Some port → same_path port x ≡ false
    off (At q) f away is = let same : q ≡ port = cc in rw same at away
    off Null f away is = absurd (cc)
    off Dead f away is = absurd (cc)
    off (Out slot) f away is = absurd (cc)
    off Outside f away is = absurd (cc)
    off Far f away is = absurd (cc)

    peer : (p : Peer) → cond {A = Option Path} (is_service p) (path_to talk.port) None ≡ Some port → leads_to x talk.port ≡ false → same_path port x ≡ false
    peer Service is away = off talk.port refl away is
    peer (Server thread) is away = absurd (cc)
    peer Parked is away = absurd (cc)

    by : (t : Bool) → (leads_to x talk.port || serves x talk.peer) ≡ t → and_then native_port (cond {A = Option Talk} t None (Some talk)) ≡ Some port →
        (native_port talk ≡ Some port) × (same_path port x ≡ false)
    by true e is = absurd (cc)
    by false e is = (is, peer talk.peer is (or_parts (leads_to x talk.port) (serves x talk.peer) e).0)

swept-kept : (x q port : Path) (b : Option Body) → native_in b ≡ Some port → same_path port x ≡ false →
    native_in (option_map (through (death_sweep x) q) b) ≡ Some port
swept-kept x q port (Some (Thread_of t)) is apart = by t.talk is
  where
    by : (o : Option Talk) → and_then native_port o ≡ Some port → and_then native_port (and_then (talk_without x) o) ≡ Some port
    by None is = absurd (cc)
    by (Some talk) is = killed-seat x talk port is apart
swept-kept x q port (Some b) is apart = absurd (cc)
swept-kept x q port None is apart = absurd (cc)

swept-was : (x q port : Path) (b : Option Body) → native_in (option_map (through (death_sweep x) q) b) ≡ Some port →
    (native_in b ≡ Some port) × (same_path port x ≡ false)
swept-was x q port (Some (Thread_of t)) is = by t.talk is
  where
    by : (o : Option Talk) → and_then native_port (and_then (talk_without x) o) ≡ Some port → (and_then native_port o ≡ Some port) × (same_path port x ≡ false)
    by None is = absurd (cc)
    by (Some talk) is = killed-was x talk port is
swept-was x q port (Some b) is = absurd (cc)
swept-was x q port None is = absurd (cc)

module _ (w : World) (x : Path) where
  abbrev dead : World
  dead = apply (Kill x) w

  -- a client lives on with its port
  kill-kept : (p : Path) (has : HasClient w p) → same_path has.client x ≡ false → same_path p x ≡ false → HasClient dead p
  unfolding apply
  kill-kept p has other apart = record { client = has.client; native = rw other (swept-kept x has.client p (w.body has.client) has.native apart) }

  -- and who is one was one
  kill-was : (p : Path) (has : HasClient dead p) → (native_at w has.client ≡ Some p) × (same_path p x ≡ false) × (same_path has.client x ≡ false)
  unfolding apply
  kill-was p has = by (same_path has.client x) refl has.native
    where
      by : (t : Bool) → same_path has.client x ≡ t →
          native_in (cond t None (option_map (through (death_sweep x) has.client) (w.body has.client))) ≡ Some p →
          (native_at w has.client ≡ Some p) × (same_path p x ≡ false) × (same_path has.client x ≡ false)
      by true e is = absurd (cc)
      by false e is = let was = swept-was x has.client p (w.body has.client) is in (was.0, was.1, e)

  module _ (valid : IsConsistent w) where
    -- what is no client isn't one of these
    other_client : is_thread (w.body x) ≡ false → (p : Path) (has : HasClient w p) → same_path has.client x ≡ false
    other_client none p has = same_path_ne has.client x (λ at. let yes = native-thread (w.body has.client) p has.native in
        absurd (let here = rw at at yes in cc))

    other_port : is_port (w.body x) ≡ false → (p : Path) → HasClient w p → same_path p x ≡ false
    other_port none p has = same_path_ne p x (λ at. let yes = has-port w valid has.client p has.native in absurd (let here = rw at at yes in cc))

    plain-death : is_thread (w.body x) ≡ false → is_port (w.body x) ≡ false → IsEnding w dead None
    plain-death no_thread no_port p has = kill-kept p has (other_client no_thread p has) (other_port no_port p has)

    -- of a thread that is no client
    free-death : is_port (w.body x) ≡ false → native_at w x ≡ None → IsEnding w dead None
    free-death no_port none p has = kill-kept p has (same_path_ne has.client x (λ at. absurd (let is = rw at at has.native in cc))) (other_port no_port p has)

    -- of a client
    client-death : is_port (w.body x) ≡ false → (port : Path) → native_at w x ≡ Some port → LosesClient w dead port
    client-death no_port port is = record {
      had = record { client = x; native = is };
      none = λ has. let was = kill-was port has in same_path_apart has.client x was.2 (one-client w valid has.client x port was.0 is);
      others = λ p apart has. kill-kept p has
          (same_path_ne has.client x (λ at. same_path_apart p port apart (let here = rw at at has.native in let one : p ≡ port = cc in one)))
          (other_port no_port p has);
    }

    -- of a port with a client
    port-death : is_thread (w.body x) ≡ false → HasClient w x → LosesClient w dead x
    port-death no_thread has = record {
      had = has;
      none = λ left. let was = kill-was x left in absurd (let on = same_path_refl x in let off = was.1 in cc);
      others = λ p apart has. kill-kept p has (other_client no_thread p has) apart;
    }

    -- and of one without
    idle-death : is_thread (w.body x) ≡ false → (HasClient w x → ⊥) → IsEnding w dead None
    idle-death no_thread none p has = kill-kept p has (other_client no_thread p has) (same_path_ne p x (λ at. none (subst (HasClient w) at has)))

    told_none : (o : Option Path) → Nothing ≡ told_at o → o ≡ None
    told_none None is = refl
    told_none (Some port) is = absurd (cc)

    told_some : (p : Ptr) (o : Option Path) → Ended p ≡ told_at o → (port : Path) × (o ≡ Some port) × (p ≡ At port)
    told_some p None is = absurd (cc)
    told_some p (Some port) is = (port, refl, cc)

    plain-told : (o : Option Path) → Nothing ≡ told_at o → IsEnding w dead None → IsEnding w dead o
    plain-told o told ends = subst (IsEnding w dead) (sym (told_none o told)) ends

    thread-told : (t : Thread) (talk : Option Talk) (o : Option Path) → w.body x ≡ Some (Thread_of t) → t.talk ≡ talk → told_client talk ≡ told_at o →
        IsEnding w dead o
    thread-told t None o there is told = plain-told o told (free-death (rw there refl) (rw (there, is) refl))
    thread-told t (Some talk) o there is told = by talk.peer refl told
      where
        by : (p : Peer) → talk.peer ≡ p → told_end talk p ≡ told_at o → IsEnding w dead o
        by Service e told =
            let at = told_some talk.port o told in
            subst (IsEnding w dead) (sym at.1) (client-death (rw there refl) at.0 (rw (there, is, e) (ap path_to at.2)))
        by (Server thread) e told = plain-told o told (free-death (rw there refl) (rw (there, is, e) refl))
        by Parked e told = plain-told o told (free-death (rw there refl) (rw (there, is, e) refl))

    -- whom a death tells has lost its client, and nobody else has
    pub death-ending : IsRooted w → w.next ≤ depth → (o : Option Path) → told_with w x (w.body x) ≡ told_at o → IsEnding w dead o
    death-ending rooted few o told = by (w.body x) refl told
      where
        port_told : (b : Option Body) → w.body x ≡ b → is_thread b ≡ false → (found : Option Path) → client_at w x ≡ found →
            told_port x found ≡ told_at o → IsEnding w dead o
        port_told b e no_thread None none told = plain-told o told
            (idle-death (rw e no_thread) (λ has. absurd (let some = client-found w valid rooted few x has in cc)))
        port_told b e no_thread (Some client) some told =
            let at = told_some (At x) o told in
            let same : x ≡ at.0 = let one = at.2 in cc in
            subst (IsEnding w dead) (sym at.1) (subst (LosesClient w dead) same (port-death (rw e no_thread) (found-client w x (rw some refl))))

        by : (b : Option Body) → w.body x ≡ b → told_with w x b ≡ told_at o → IsEnding w dead o
        by (Some (Thread_of t)) e told = thread-told t t.talk o e refl told
        by (Some (Port set served)) e told = port_told (Some (Port set served)) e refl (client_at w x) refl told
        by None e told = plain-told o told (plain-death (rw e refl) (rw e refl))
        by (Some (Mutex locked)) e told = plain-told o told (plain-death (rw e refl) (rw e refl))
        by (Some Cond) e told = plain-told o told (plain-death (rw e refl) (rw e refl))
        by (Some (Mapping window)) e told = plain-told o told (plain-death (rw e refl) (rw e refl))
        by (Some (Region extent)) e told = plain-told o told (plain-death (rw e refl) (rw e refl))
        by (Some Portset) e told = plain-told o told (plain-death (rw e refl) (rw e refl))
        by (Some (Space birth holder)) e told = plain-told o told (plain-death (rw e refl) (rw e refl))
        by (Some (Reference to)) e told = plain-told o told (plain-death (rw e refl) (rw e refl))

-- ---- what is made is nobody's client

module _ (w : World) (x : Path) (empty : w.body x ≡ None) where
  nobody_here : (p : Path) (has : HasClient w p) → same_path has.client x ≡ false
  nobody_here p has = same_path_ne has.client x (λ at. absurd (let is = rw (at, empty) at has.native in cc))

  pub make-ending : (body : Body) → IsEnding w (apply (Make x body) w) None
  unfolding apply
  make-ending body p has = record { client = has.client; native = rw (nobody_here p has) has.native }

  pub make_space-ending : (holder : Option Ptr) → IsEnding w (apply (MakeSpace x holder) w) None
  unfolding apply
  make_space-ending holder p has = record { client = has.client; native = rw (nobody_here p has) has.native }

-- ---- renames

follow-native : (x y q : Path) (b : Option Body) →
    native_in (option_map (through (following x y) q) b) ≡ option_map (λ p. if same_path p x then y else p) (native_in b)
follow-native x y q (Some (Thread_of t)) = by t.talk
  where
    led : (p : Ptr) → path_to (follow x y p) ≡ option_map (λ p. if same_path p x then y else p) (path_to p)
    led (At q) = split (same_path q x)
      where
        split : (t : Bool) → path_to (cond t (At y) (At q)) ≡ Some (cond t y q)
        split true = refl
        split false = refl
    led Null = refl
    led Dead = refl
    led (Out slot) = refl
    led Outside = refl
    led Far = refl

    peer : (p : Peer) (port : Ptr) → cond {A = Option Path} (is_service (follow_peer x y p)) (path_to (follow x y port)) None
        ≡ option_map (λ p. if same_path p x then y else p) (cond {A = Option Path} (is_service p) (path_to port) None)
    peer Service port = led port
    peer (Server thread) port = refl
    peer Parked port = refl

    by : (o : Option Talk) → and_then native_port (and_then (following x y).talk o) ≡ option_map (λ p. if same_path p x then y else p) (and_then native_port o)
    by None = refl
    by (Some talk) = peer talk.peer talk.port
follow-native x y q (Some (Mutex locked)) = refl
follow-native x y q (Some Cond) = refl
follow-native x y q (Some (Mapping window)) = refl
follow-native x y q (Some (Region extent)) = refl
follow-native x y q (Some (Port set served)) = refl
follow-native x y q (Some Portset) = refl
follow-native x y q (Some (Space birth holder)) = refl
follow-native x y q (Some (Reference to)) = refl
follow-native x y q None = refl

module _ (w : World) (x : Path) (slot : ℕ) (there : IsSome (w.body x)) (empty : w.body (slot ∷ parent x) ≡ None) where
  abbrev new : Path
  new = slot ∷ parent x

  abbrev renamed : World
  renamed = apply (Move x slot) w

  abbrev led : Path → Path
  led p = if same_path p x then new else p

  apart : same_path x new ≡ false
  apart = same_path_ne x new (λ at. absurd (let none : w.body x ≡ None = rw (← at) at empty in let some = rw none at there in cc))

  not_new : (p : Path) (has : HasClient w p) → same_path has.client new ≡ false
  not_new p has = same_path_ne has.client new (λ at. absurd (let is = rw (at, empty) at has.native in cc))

  at_new : native_at renamed new ≡ option_map led (native_at w x)
  unfolding apply
  at_new = rw (same_path_refl new) (follow-native x new new (w.body x))

  at_other : (q : Path) → same_path q new ≡ false → same_path q x ≡ false → native_at renamed q ≡ option_map led (native_at w q)
  unfolding apply
  at_other q f e = rw (f, e) (follow-native x new q (w.body q))

  -- each client of another port is one still
  move-kept : (p : Path) → same_path p x ≡ false → HasClient w p → HasClient renamed p
  move-kept p other has = by (same_path has.client x) refl
    where
      now : option_map led (Some p) ≡ Some p
      now = rw other refl

      by : (t : Bool) → same_path has.client x ≡ t → HasClient renamed p
      by true e = let here = same_path_eq has.client x e in
          let is : native_at w x ≡ Some p = rw (← here) has.native in
          record { client = new; native = at_new ∙ ap (option_map led) is ∙ now }
      by false e = record { client = has.client; native = at_other has.client (not_new p has) e ∙ ap (option_map led) has.native ∙ now }

  -- and nobody is one of the port that has gone
  none_led : (o : Option Path) → option_map led o ≡ Some x → ⊥
  none_led None is = absurd (cc)
  none_led (Some p) is = by (same_path p x) refl is
    where
      by : (t : Bool) → same_path p x ≡ t → Some (cond t new p) ≡ Some x → ⊥
      by true e is = same_path_apart x new apart (let one : new ≡ x = cc in sym one)
      by false e is = same_path_apart p x e (let one : p ≡ x = cc in one)

  none_here : native_at renamed x ≡ Some x → ⊥
  unfolding apply
  none_here is = let none = rw (apart, same_path_refl x) at is in absurd (cc)

  move-none : HasClient renamed x → ⊥
  move-none has = by (same_path has.client new) refl (same_path has.client x) refl
    where
      by : (t : Bool) → same_path has.client new ≡ t → (r : Bool) → same_path has.client x ≡ r → ⊥
      by true f r e = let here = same_path_eq has.client new f in
          none_led (native_at w x) (sym at_new ∙ subst (λ q. native_at renamed q ≡ Some x) here has.native)
      by false f true e = let here = same_path_eq has.client x e in none_here (subst (λ q. native_at renamed q ≡ Some x) here has.native)
      by false f false e = none_led (native_at w has.client) (sym (at_other has.client f e) ∙ has.native)

  -- a port that is renamed has lost its client, if it had one
  pub move-ending : (some : Bool) → is_some (client_at w x) ≡ some → IsConsistent w → IsRooted w → w.next ≤ depth →
      IsEnding w renamed (if some then Some x else None)
  move-ending true is valid rooted few = record { had = found-client w x is; none = move-none; others = λ p other has. move-kept p other has }
  move-ending false is valid rooted few = λ p has.
      move-kept p (same_path_ne p x (λ at. absurd (let some = client-found w valid rooted few p has in let one = rw at at some in cc))) has
