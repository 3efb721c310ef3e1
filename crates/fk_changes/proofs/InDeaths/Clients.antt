-- Clients: the calls that end with a port, of its clients one after another.
use Rattle.std.proofs.Common.{◌≡◌, ◌≤◌, ℕ, Bool, true, false, cond, ◌||◌, List, [], ◌∷◌, ◌++◌, Option, Some, None, IsSome, is_some, option_map, refl}
use Rattle.std.proofs.Common.{sym, ap, subst, ◌∙◌}
use Rattle.std.specs.List.{flat_map}
use Rattle.fk_model.specs.declared.thread.Turn.TheVariants as turns
use Rattle.fk_model.specs.Objects.Mode.{Running, Calling, Halted, Native}
use Rattle.fk_model.specs.Objects.Peer.{Server}
use Rattle.fk_model.specs.Places.Ptr.{At}
use Rattle.fk_model.specs.Talks.{line, line_from, served_end, talking_end}
use Rattle.fk_model.specs.declared.names.Kind.{Kind}
use Rattle.fk_model.specs.declared.names.Kind.TheVariants as kinds
use Rattle.fk_model.specs.declared.names.Who.{Who}
use Rattle.fk_model.specs.ObjectRows.{ends_in, ends_of_client, ends_on}
use Rattle.fk_model.specs.Objects.{Mode, Talk, Thread, Body, kind_of, thread_of, and_then, holds}
use Rattle.fk_model.specs.Objects.Body.{Mutex, Cond, Mapping, Region, Port, Portset, Space, Thread_of, Reference}
use Rattle.fk_model.specs.Places.{Path, same_path, leads_to}
use Rattle.fk_model.specs.Searches.{client_of, depth, objects, clients_at, talk_at}
use Rattle.fk_model.specs.Valid.{IsValid, kind_there}
use Rattle.fk_model.specs.World.{World, edited, serves}
use Rattle.fk_model.proofs.walks.Members.{IsIn, any_in, find_some, of_any, in_filter, of_filter, in_flat_map, of_flat_map}
use Rattle.fk_model.proofs.walks.PlaceLaws.{same_path_refl, same_path_eq}
use Rattle.fk_model.proofs.walks.WalkLaws.{in_objects}
use Rattle.fk_store.specs.Store.Contents.{Contents}
use Rattle.fk_store.specs.Store.Paths.{path, place}
use Rattle.fk_store.specs.Store.World.{world, IsLive}
use Rattle.fk_store.specs.Store.Names.{who_cmp}
use Rattle.fk_store.specs.Store.Orders.{IsFirstAfter}
use Rattle.fk_store.proofs.InStore.finding.Enumerated.{first_after-map}
use Rattle.fk_changes.specs.Deaths.Ends.{ended_where, ends_at, ends_led, is_in_list, HaveEnded}
use Rattle.fk_changes.proofs.InDeaths.Endings.{ended, ended_alike, ends_both, ends_nobody, thread_with}
use Rattle.fk_changes.proofs.InDeaths.Scans.{ArePassed, passed_first, passed_more, passed_all}

-- ---- members

pub listed_in : (q : Path) (xs : List Path) → is_in_list q xs ≡ true → IsIn q xs
listed_in q xs h = let found = of_any (same_path q) xs h in subst (λ x. IsIn x xs) (sym (same_path_eq q found.0 found.2)) found.1

pub in_listed : (q : Path) (xs : List Path) → IsIn q xs → is_in_list q xs ≡ true
in_listed q xs h = any_in (same_path q) q xs h (same_path_refl q)

both_true : (a b : Bool) → (a ≡ true → b ≡ true) → (b ≡ true → a ≡ true) → a ≡ b
both_true true b to from = sym (to refl)
both_true false true to from = from refl
both_true false false to from = refl

either_true : (a b : Bool) → (a || b) ≡ true → (a ≡ false → b ≡ true)
either_true a b h off = rw off at h

-- ---- the ends of one talk

-- it is a client at the port
abbrev pub has_talk_at : World → Path → Path → Bool
has_talk_at w port c = holds (λ (talk : Talk). leads_to port talk.port) (talk_at w c)

pub ends_client_some : (w : World) (x : Path) (talk : Talk) → Some talk ≡ talk_at w x → served_end w talk.peer ≡ ends_on w x turns.Client
unfolding line
ends_client_some w x talk is = rw (← is) refl

pub ends_client_none : (w : World) (x : Path) → None ≡ talk_at w x → [] ≡ ends_on w x turns.Client
unfolding line
ends_client_none w x is = rw (← is) refl

pub ends_server : (w : World) (x : Path) → ends_led w turns.Client (client_of w x) ≡ ends_on w x turns.Server
unfolding line client_of
ends_server w x = by (client_of w x) refl
  where
    at : (c : Path) (o : Option Talk) → holds (λ (talk : Talk). serves x talk.peer) o ≡ true →
        talking_end w turns.Client (At c) ≡ ends_in w turns.Server (line_from c (λ talk. Server (At c)) o)
    at c None h = absurd (cc)
    at c (Some talk) h = refl

    by : (o : Option Path) → client_of w x ≡ o → ends_led w turns.Client o
        ≡ ends_in w turns.Server (and_then (λ client. line_from client (λ talk. Server (At client)) (talk_at w client)) o)
    by None is = refl
    by (Some c) is = at c (talk_at w c) (find_some _ c (objects w) is).1

abbrev talk_in : Option Body → Option Talk
talk_in b = and_then (λ (t : Thread). t.talk) (and_then thread_of b)

talk_ended : (b : Option Body) → talk_in (ended b) ≡ talk_in b
unfolding edited
talk_ended None = refl
talk_ended (Some (Mutex locked)) = refl
talk_ended (Some Cond) = refl
talk_ended (Some (Mapping window)) = refl
talk_ended (Some (Region extent)) = refl
talk_ended (Some (Port set served)) = refl
talk_ended (Some Portset) = refl
talk_ended (Some (Space birth holder)) = refl
talk_ended (Some (Thread_of t)) = by t.mode
  where
    by : (mode : Mode) → talk_in (ended (thread_with mode t)) ≡ t.talk
    by (Running g) = refl
    by (Calling todo rest) = refl
    by (Halted g code) = refl
    by (Native g) = refl
talk_ended (Some (Reference to)) = refl

-- where the calls of some threads have ended before, and then those of the ends of the talk of a client at a port
module _ (w v : World) (test : Path → Bool) (is : v ≡ ended_where test w) (port x : Path) where
  pub talk_same : talk_at v x ≡ talk_at w x
  talk_same = rw is (by (test x))
    where
      by : (b : Bool) → talk_in (cond b (ended (w.body x)) (w.body x)) ≡ talk_in (w.body x)
      by true = talk_ended (w.body x)
      by false = refl

  pub client_ends : (u : World) (talk : Talk) → Some talk ≡ talk_at v x → leads_to port talk.port ≡ true →
      u ≡ ended_where (λ q. (test q || is_in_list q (talking_end w turns.Client (At x))) || is_in_list q (served_end w talk.peer)) w →
      u ≡ ended_where (λ q. test q || is_in_list q (ends_at w port x)) w
  client_ends u talk has on ends =
      let there : Some talk ≡ talk_at w x = has ∙ talk_same in
      let both = ends_both w u test (talking_end w turns.Client (At x)) (served_end w talk.peer) ends in
      let all : ends_at w port x ≡ talking_end w turns.Client (At x) ++ served_end w talk.peer =
      here (sym there) ∙ ap (λ ends. talking_end w turns.Client (At x) ++ ends) (sym (ends_client_some w x talk there)) in
      rw all both
    where
      here : talk_at w x ≡ Some talk → ends_at w port x ≡ ends_of_client w x
      here there = by (has_talk_at w port x) (rw there on)
        where
          by : (b : Bool) → b ≡ true → cond b (ends_of_client w x) [] ≡ ends_of_client w x
          by true on = refl
          by false on = absurd (cc)

  other_ends : has_talk_at w port x ≡ false → v ≡ ended_where (λ q. test q || is_in_list q (ends_at w port x)) w
  other_ends off = rw off (ends_nobody w v test is)

  pub elsewhere_ends : (talk : Talk) → Some talk ≡ talk_at v x → leads_to port talk.port ≡ false →
      v ≡ ended_where (λ q. test q || is_in_list q (ends_at w port x)) w
  elsewhere_ends talk has off = other_ends (rw (← (has ∙ talk_same)) off)

  pub nobody_ends : None ≡ talk_at v x → v ≡ ended_where (λ q. test q || is_in_list q (ends_at w port x)) w
  nobody_ends none = other_ends (rw (← (none ∙ talk_same)) refl)

-- ---- who has a talk is there

talker_live : (w : World) (port c : Path) → has_talk_at w port c ≡ true → IsSome (kind_there w c)
unfolding kind_there
talker_live w port c h = by (w.body c) h
  where
    by : (b : Option Body) → holds (λ (talk : Talk). leads_to port talk.port) (talk_in b) ≡ true → is_some (option_map kind_of b) ≡ true
    by None h = absurd (cc)
    by (Some b) h = refl

no_root : (w : World) (port : Path) → kind_there w [] ≡ Some kinds.Space → has_talk_at w port [] ≡ true → ⊥
unfolding kind_there
no_root w port root h = by (w.body []) root h
  where
    by : (b : Option Body) → option_map kind_of b ≡ Some kinds.Space → holds (λ (talk : Talk). leads_to port talk.port) (talk_in b) ≡ true → ⊥
    by None root h = cc
    by (Some (Mutex locked)) root h = cc
    by (Some Cond) root h = cc
    by (Some (Mapping window)) root h = cc
    by (Some (Region extent)) root h = cc
    by (Some (Port set served)) root h = cc
    by (Some Portset) root h = cc
    by (Some (Space birth holder)) root h = cc
    by (Some (Thread_of t)) root h = cc
    by (Some (Reference to)) root h = cc

some_body : (w : World) (c : Path) → IsSome (kind_there w c) → IsSome (w.body c)
unfolding kind_there
some_body w c h = by (w.body c) h
  where
    by : (b : Option Body) → is_some (option_map kind_of b) ≡ true → is_some b ≡ true
    by None h = h
    by (Some b) h = refl

-- ---- the calls that have ended so far

pub none_ended : (w : World) (port : Path) → HaveEnded w w port
none_ended w port = record { test = λ q. false; made = refl; within = λ q h. absurd (cc) }

pub more_ended : (w v u : World) (port c : Path) → HaveEnded w v port →
    ((test : Path → Bool) (w : World) → v ≡ ended_where test w → u ≡ ended_where (λ q. test q || is_in_list q (ends_at w port c)) w) → HaveEnded w u port
more_ended w v u port c so_far ends = record {
  test = λ q. so_far.test q || is_in_list q (ends_at w port c);
  made = ends so_far.test w so_far.made;
  within = λ q h. by q (so_far.test q) refl h;
}
  where
    by : (q : Path) (b : Bool) → so_far.test q ≡ b → (b || is_in_list q (ends_at w port c)) ≡ true → (c : Path) × (is_in_list q (ends_at w port c) ≡ true)
    by q true e h = so_far.within q e
    by q false e h = (c, h)

-- ---- the clients that are passed

-- the calls that have ended so far are those of all clients that are passed, and of no others than clients
pub record AreEnding (w v : World) (port : Path) (Lives : Who → Type 0) (p : ℕ → Path) (at : Option Who) : Type 0 where
  pub ended : HaveEnded w v port
  pub passed : ArePassed Lives (λ other. (q : Path) → is_in_list q (ends_at w port (place p other)) ≡ true → ended.test q ≡ true) at

pub ending_first : (w v : World) (port : Path) (Lives : Who → Type 0) (p : ℕ → Path) (at : Option Who) → HaveEnded w v port →
    IsFirstAfter who_cmp Lives None at → AreEnding w v port Lives p at
ending_first w v port Lives p at ended first = record { ended = ended; passed = passed_first Lives _ at first }

module _ (w v u : World) (port : Path) (Lives Still : Who → Type 0) (p : ℕ → Path) (who : Who) (next : Option Who) where
  pub ending_more : AreEnding w v port Lives p (Some who) → ((other : Who) → Still other → Lives other) →
      ((test : Path → Bool) (w : World) → v ≡ ended_where test w → u ≡ ended_where (λ q. test q || is_in_list q (ends_at w port (place p who))) w) →
      IsFirstAfter who_cmp Still (Some who) next → AreEnding w u port Still p next
  unfolding more_ended
  ending_more so_far lives ends first = record {
    ended = more_ended w v u port (place p who) so_far.ended ends;
    passed = passed_more Lives Still (λ other. (q : Path) → is_in_list q (ends_at w port (place p other)) ≡ true → so_far.ended.test q ≡ true)
        (λ other. (q : Path) → is_in_list q (ends_at w port (place p other)) ≡ true → test q ≡ true) who next so_far.passed lives
        (λ other fact q h. rw (fact q h) refl) (λ q h. here q (so_far.ended.test q) h) first;
  }
    where
      test : Path → Bool
      test q = so_far.ended.test q || is_in_list q (ends_at w port (place p who))

      here : (q : Path) (b : Bool) → is_in_list q (ends_at w port (place p who)) ≡ true → (b || is_in_list q (ends_at w port (place p who))) ≡ true
      here q true h = refl
      here q false h = h

pub at_port : (w : World) (port c : Path) (b : Bool) → has_talk_at w port c ≡ b → (q : Path) →
    is_in_list q (cond b (ends_of_client w c) []) ≡ true → (has_talk_at w port c ≡ true) × (is_in_list q (ends_of_client w c) ≡ true)
at_port w port c true e q h = (e, h)
at_port w port c false e q h = absurd (cc)

-- what is live stays so where kinds and paths stay
live_same : (m n : Contents) → kind_there (world n) ≡ kind_there (world m) → path n ≡ path m → (other : Who) → IsLive n other → IsLive m other
live_same m n kinds paths other live =
    subst (λ p. IsSome (kind_there (world m) (place p other))) paths (subst (λ (kind : Path → Option Kind). IsSome (kind (place (path n) other))) kinds live)

pub first_same : (m n : Contents) → kind_there (world n) ≡ kind_there (world m) → path n ≡ path m → (k next : Option Who) →
    IsFirstAfter who_cmp (IsLive n) k next → IsFirstAfter who_cmp (IsLive m) k next
first_same m n kinds paths k next first =
    first_after-map who_cmp (IsLive n) (IsLive m) (live_same m n kinds paths) (live_same n m (sym kinds) (sym paths)) k next first

-- where all that end with the port have ended
pub ended_whole : (w v : World) (port : Path) → IsValid w → w.next ≤ depth → (done : HaveEnded w v port) →
    ((c q : Path) → is_in_list q (ends_at w port c) ≡ true → done.test q ≡ true) →
    v ≡ ended_where (λ q. is_in_list q (flat_map (ends_of_client w) (clients_at w port))) w
unfolding clients_at
ended_whole w v port valid few done all = done.made ∙ ended_alike done.test _ w (λ q. both_true _ _ (into q) (out q))
  where
    found : (c : Path) → has_talk_at w port c ≡ true → IsIn c (objects w)
    found [] h = absurd (no_root w port valid.rooted.root h)
    found (k ∷ s) h = in_objects w valid.consistent valid.rooted few k s (some_body w (k ∷ s) (talker_live w port (k ∷ s) h))

    into : (q : Path) → done.test q ≡ true → is_in_list q (flat_map (ends_of_client w) (clients_at w port)) ≡ true
    into q h =
        let client = done.within q h in
        let c = client.0 in
        let ends = at_port w port c _ refl q client.1 in
        in_listed q _ (in_flat_map (ends_of_client w) c q (clients_at w port) (in_filter (has_talk_at w port) c (objects w) (found c ends.0) ends.0)
        (listed_in q _ ends.1))

    there : (c q : Path) → has_talk_at w port c ≡ true → is_in_list q (ends_of_client w c) ≡ true → is_in_list q (ends_at w port c) ≡ true
    there c q on h = rw on h

    out : (q : Path) → is_in_list q (flat_map (ends_of_client w) (clients_at w port)) ≡ true → done.test q ≡ true
    out q h =
        let found = of_flat_map (ends_of_client w) q (clients_at w port) (listed_in q _ h) in
        let client = of_filter (has_talk_at w port) found.0 (objects w) found.1 in
        all found.0 q (there found.0 q client.1 (in_listed q _ found.2))

-- at the end they are those of all clients
pub ending_all : (m : Contents) (v : World) (port : Path) → IsValid (world m) → (world m).next ≤ depth →
    ((k : ℕ) (s : Path) → IsSome (kind_there (world m) (k ∷ s)) → (other : Who) × (place (path m) other ≡ k ∷ s)) →
    AreEnding (world m) v port (IsLive m) (path m) None →
    v ≡ ended_where (λ q. is_in_list q (flat_map (ends_of_client (world m)) (clients_at (world m) port))) (world m)
ending_all m v port valid few named all = ended_whole (world m) v port valid few all.ended passed
  where
    passed : (c q : Path) → is_in_list q (ends_at (world m) port c) ≡ true → all.ended.test q ≡ true
    passed [] q h = absurd (no_root (world m) port valid.rooted.root (at_port (world m) port [] _ refl q h).0)
    passed (k ∷ s) q h =
        let live = talker_live (world m) port (k ∷ s) (at_port (world m) port (k ∷ s) _ refl q h).0 in
        let other = named k s live in
        passed_all (IsLive m) _ all.passed other.0 (subst (λ x. IsSome (kind_there (world m) x)) (sym other.1) live) q
        (subst (λ x. is_in_list q (ends_at (world m) port x) ≡ true) (sym other.1) h)

-- every object but the root has a name still
pub named_same : (m n : Contents) → kind_there (world n) ≡ kind_there (world m) → path n ≡ path m →
    ((k : ℕ) (s : Path) → IsSome (kind_there (world n) (k ∷ s)) → (other : Who) × (place (path n) other ≡ k ∷ s)) →
    (k : ℕ) (s : Path) → IsSome (kind_there (world m) (k ∷ s)) → (other : Who) × (place (path m) other ≡ k ∷ s)
named_same m n kinds paths named k s live =
    let found = named k s (subst (λ (kind : Path → Option Kind). IsSome (kind (k ∷ s))) (sym kinds) live) in
    (found.0, subst (λ p. place p found.0 ≡ k ∷ s) paths found.1)
