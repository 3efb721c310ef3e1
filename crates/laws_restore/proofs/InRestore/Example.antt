-- The small subtree is such as a restorer asks for.
use Rattle.std.proofs.Common.{◌≡◌, ℕ, ◌+◌, ◌≤◌, ◌<◌, Bool, true, false, cond, ◌||◌, ◌&&◌, ◌==◌, eqb, [], ◌∷◌, replicate, Option, Some, None, refl, sym, arith}
use Rattle.std.proofs.Common.{◌∙◌}
use Rattle.fk_model.specs.Places.{Path, same_path, strip}
use Rattle.fk_model.specs.Places.Ptr.{Dead, At}
use Rattle.fk_model.specs.Objects.{Talk, Fault, Thread, Body, and_then, holds, thread_of, flag_of}
use Rattle.fk_model.specs.Objects.Peer.{Server}
use Rattle.fk_model.specs.Objects.Body.{Port, Space, Reference}
use Rattle.fk_model.specs.World.{edited, serves}
use Rattle.fk_model.specs.Records.{record_of, set, takes_state}
use Rattle.fk_model.specs.Valid.{services}
use Rattle.fk_model.proofs.walks.PlaceLaws.{same_path_eq}
use Rattle.laws_restore.specs.Restore.Stages.{is_among, is_given}
use Rattle.laws_restore.specs.Restore.Roomed.{IsAble, IsRoom, with_spaces, all_made, all_given}
use Rattle.laws_restore.specs.Restore.Script.{script, down, root_down, through_rooms, makes_spaces, leads_outs, holds_spaces}
use Rattle.laws_restore.specs.Restore.Example.{small_region, small_client, small_server, small_at, small, outer_room, small_rooms, small_bind, SmallIsRoomed}
use Rattle.laws_restore.specs.Restore.Example.{OneScript}

port_able : IsAble small_bind small [] 1 (Port None false)
unfolding same_path record_of set takes_state edited
port_able = record { there = refl; low = omega arith; no_space = refl; takes = refl; says = refl; aims = tt; given = refl; told = tt }

region_able : IsAble small_bind small [] 2 small_region
unfolding same_path record_of set takes_state edited
region_able = record {
  there = refl;
  low = omega arith;
  no_space = refl;
  takes = refl;
  says = refl;
  aims = (omega arith, omega arith, refl);
  given = refl;
  told = tt;
}

client_able : IsAble small_bind small [] 3 small_client
unfolding same_path record_of set takes_state edited
client_able = record {
  there = refl;
  low = omega arith;
  no_space = refl;
  takes = refl;
  says = refl;
  aims = (((refl, omega arith, refl, tt), refl, (refl, omega arith, refl, tt), refl, refl), tt);
  given = refl;
  told = ((refl, refl), tt);
}

server_able : IsAble small_bind small [] 4 small_server
unfolding same_path record_of set takes_state edited
server_able = record {
  there = refl;
  low = omega arith;
  no_space = refl;
  takes = refl;
  says = refl;
  aims = (tt, (omega arith, omega arith));
  given = refl;
  told = (tt, (refl, refl));
}

dead_able : IsAble small_bind small (5 ∷ []) 0 (Reference Dead)
unfolding same_path record_of set takes_state edited
dead_able = record { there = refl; low = omega arith; no_space = refl; takes = refl; says = refl; aims = tt; given = refl; told = tt }

abbrev chain : Bool → Bool → Bool → Bool → Bool → Bool → Option Body
chain f e d c b a = cond f (Some (Reference Dead))
    (cond e (Some small_server) (cond d (Some small_client)
    (cond c (Some small_region) (cond b (Some (Port None false)) (cond a (Some (Space 0 (Some (At (3 ∷ []))))) None)))))

none_of : (f e d c b a : Bool) → (f || (e || (d || (c || (b || (a || false)))))) ≡ false → chain f e d c b a ≡ None
none_of true e d c b a h = cc
none_of false true d c b a h = cc
none_of false false true c b a h = cc
none_of false false false true b a h = cc
none_of false false false false true a h = cc
none_of false false false false false true h = cc
none_of false false false false false false h = refl

nothing_else : (k : ℕ) (q : Path) → is_among (k ∷ q) (all_made small_rooms (with_spaces small_rooms [])) ≡ false → small_at (k ∷ q) ≡ None
unfolding same_path
nothing_else k q h = none_of (same_path (k ∷ q) (0 ∷ 5 ∷ [])) (same_path (k ∷ q) (4 ∷ [])) (same_path (k ∷ q) (3 ∷ [])) (same_path (k ∷ q) (2 ∷ []))
    (same_path (k ∷ q) (1 ∷ [])) (same_path (k ∷ q) (5 ∷ [])) h

-- nothing of the inner space stands in the outer one
not_deeper : (k : ℕ) → same_path (k ∷ []) (0 ∷ 5 ∷ []) ≡ false
unfolding same_path
not_deeper k = by (eqb k 0)
  where
    by : (t : Bool) → (t && false) ≡ false
    by true = refl
    by false = refl

outer_whole : (k : ℕ) → is_among (k ∷ []) ((4 ∷ []) ∷ (3 ∷ []) ∷ (2 ∷ []) ∷ (1 ∷ []) ∷ (5 ∷ []) ∷ []) ≡ false → small_at (k ∷ []) ≡ None
unfolding same_path
outer_whole k h = rw (not_deeper k) (none_of false (same_path (k ∷ []) (4 ∷ [])) (same_path (k ∷ []) (3 ∷ [])) (same_path (k ∷ []) (2 ∷ []))
    (same_path (k ∷ []) (1 ∷ [])) (same_path (k ∷ []) (5 ∷ [])) h)

outer_is_room : IsRoom small_bind small outer_room ((5 ∷ []) ∷ []) []
unfolding same_path
outer_is_room = record {
  space = refl;
  way = tt;
  above = tt;
  items = (port_able, refl, (region_able, refl, (client_able, refl, (server_able, refl, tt))));
  whole = outer_whole;
  sheets = tt;
}

-- ---- who serves whom

abbrev served : Path → Option Body → ℕ
served z o =
    flag_of (holds (λ (talk : Talk). serves z talk.peer) (and_then (λ (t : Thread). t.talk) (and_then thread_of o)))
    + flag_of (holds (λ (fault : Fault). holds (serves z) fault.taker) (and_then (λ (t : Thread). t.fault) (and_then thread_of o)))

abbrev whole_chain : Bool → Bool → Bool → Bool → Bool → Bool → Bool → Option Body
whole_chain g f e d c b a = cond g (Some (Space 0 None)) (chain f e d c b a)

client_serves : (z x : Path) (g f e d c b a : Bool) → same_path x (3 ∷ []) ≡ d → 0 < served z (whole_chain g f e d c b a) → x ≡ 3 ∷ []
client_serves z x true f e d c b a is h = absurd (omega (arith, h))
client_serves z x false true e d c b a is h = absurd (omega (arith, h))
client_serves z x false false true d c b a is h = absurd (omega (arith, h))
client_serves z x false false false true c b a is h = same_path_eq x (3 ∷ []) is
client_serves z x false false false false true b a is h = absurd (omega (arith, h))
client_serves z x false false false false false true a is h = absurd (omega (arith, h))
client_serves z x false false false false false false true is h = absurd (omega (arith, h))
client_serves z x false false false false false false false is h = absurd (omega (arith, h))

the_client : (z x : Path) → 0 < services small z x → x ≡ 3 ∷ []
the_client z x h =
    client_serves z x (same_path x []) (same_path x (0 ∷ 5 ∷ [])) (same_path x (4 ∷ [])) (same_path x (3 ∷ [])) (same_path x (2 ∷ [])) (same_path x (1 ∷ []))
    (same_path x (5 ∷ [])) refl h

at_most : (t : Bool) → flag_of t + 0 ≤ 1
at_most true = omega arith
at_most false = omega arith

once : (z x : Path) (g f e d c b a : Bool) → served z (whole_chain g f e d c b a) ≤ 1
once z x true f e d c b a = omega arith
once z x false true e d c b a = omega arith
once z x false false true d c b a = omega arith
once z x false false false true c b a = at_most (serves z (Server (At (4 ∷ []))))
once z x false false false false true b a = omega arith
once z x false false false false false true a = omega arith
once z x false false false false false false true = omega arith
once z x false false false false false false false = omega arith

no_page : (q : Path) (n : ℕ) → is_given q n (all_given small_rooms []) ≡ false → small.page q n ≡ None
no_page q n h = by (same_path q (5 ∷ []) && n == 7) h
  where
    by : (t : Bool) → (t || false) ≡ false → cond t (Some (replicate {A = ℕ} 64 6)) None ≡ None
    by true h = cc
    by false h = refl

low_bind : (i : ℕ) → i ≤ 239 → small_bind i ≤ 239
low_bind i low = by (i == 9)
  where
    by : (t : Bool) → cond t 10 i ≤ 239
    by true = omega arith
    by false = low

pub small_is_roomed : SmallIsRoomed
unfolding same_path strip
small_is_roomed = record {
  root = refl;
  unborn = refl;
  binds = low_bind;
  spaces = (refl, ((refl, omega arith, refl, tt, tt, refl, ((refl, omega arith, refl, tt), refl), refl), tt));
  filled = (
    outer_is_room,
    (
      record {
        space = refl;
        way = (refl, omega arith, refl, tt);
        above = (refl, tt);
        items = (dead_able, refl, tt);
        whole = λ k h. nothing_else k (5 ∷ []) h;
        sheets = ((refl, omega arith, refl, refl, refl), tt);
      },
      tt,
    ),
  );
  whole = nothing_else;
  one_service = λ z x y h e. the_client z x h ∙ sym (the_client z y e);
  one_each = λ z x. once z x (same_path x []) (same_path x (0 ∷ 5 ∷ [])) (same_path x (4 ∷ [])) (same_path x (3 ∷ [])) (same_path x (2 ∷ []))
      (same_path x (1 ∷ [])) (same_path x (5 ∷ []));
  pages = no_page;
}

pub one_script_is : OneScript
unfolding script down root_down through_rooms makes_spaces leads_outs holds_spaces record_of strip same_path
one_script_is = refl
