-- A machine that is a part of another one does what that one does.
use Rattle.std.proofs.Common.{◌≡◌, ℕ, suc, List, refl, sym, ap, ◌∙◌}
use Rattle.fk_model.specs.declared.stage.Stage.{Stage}
use Rattle.fk_model.specs.Places.{Path}
use Rattle.fk_model.specs.World.{World}
use Rattle.fk_model.specs.Runs.{Event, after}
use Rattle.laws_jobs.specs.Machines.{Head, Machine, reply_of, heard, call_of, said_of, Interleaved, own_moves, AtWork}
use Rattle.laws_jobs.specs.Machines.Head.{Stops, Asks}
use Rattle.laws_jobs.specs.Machines.Interleaved.{Here, Another, Own}
use Rattle.laws_house.specs.Houses.{ends_as}
use Rattle.laws_house.specs.Parts.{IsPart, PartWorks, PartsWork, PartsMeetTheContract}

module _ {A B : Type 0} (ends_in : A → B) where
  abbrev asking : Stage → List ℕ → Head B
  asking stage words = Asks stage words

  pub asks_under : (h : Head A) (stage : Stage) (words : List ℕ) → ends_as ends_in h ≡ Asks stage words → h ≡ Asks stage words
  asks_under (Asks other given) stage words e =
      let stages : other ≡ stage = cc in
      let same : given ≡ words = cc in
      λ i. Asks (stages i) (same i)
  asks_under (Stops end) stage words e = cc

  pub stops_under : (h : Head A) (end : B) → ends_as ends_in h ≡ Stops end → (a : A) × (h ≡ Stops a) × (ends_in a ≡ end)
  stops_under (Asks stage words) end e = cc
  stops_under (Stops a) end e = (a, refl, (let same : ends_in a ≡ end = cc in same))

module _ {S A T B : Type 0} (m : Machine S A) (whole : Machine T B) (into : S → T) (ends_in : A → B) (nester : Path) (part : IsPart m whole into ends_in) where
  -- what an interleaving of the whole is for the part
  pub record Woven {w : World} {t : T} {es : List Event} {v : World} {u : T} (run : Interleaved whole nester w t es v u) (s : S) : Type 0 where
    pub state : S
    pub is : u ≡ into state
    pub rest : Interleaved m nester w s es v state
    pub count : own_moves run ≡ own_moves rest

  pub asks_part : (t : T) (s : S) (stage : Stage) (words : List ℕ) → t ≡ into s → whole.head t ≡ Asks stage words → m.head s ≡ Asks stage words
  asks_part t s stage words is asked = asks_under ends_in (m.head s) stage words (sym (part.head s) ∙ (sym (ap whole.head is) ∙ asked))

  pub stops_part : (t : T) (s : S) (end : B) → t ≡ into s → whole.head t ≡ Stops end → (a : A) × (m.head s ≡ Stops a) × (ends_in a ≡ end)
  stops_part t s end is stopped = stops_under ends_in (m.head s) end (sym (part.head s) ∙ (sym (ap whole.head is) ∙ stopped))

  pub hears_part : (t : T) (s : S) (w : World) (e : Event) → t ≡ into s → heard whole t (said_of w e) ≡ into (heard m s (said_of w e))
  hears_part t s w e is =
      let reply = reply_of (said_of w e) in
      ap (λ x. whole.next x reply.status reply.words) is ∙ part.next s reply.status reply.words

  pub woven : (w : World) (t : T) (es : List Event) (v : World) (u : T) (run : Interleaved whole nester w t es v u) (s : S) → t ≡ into s → Woven run s
  woven _ _ _ _ _ (Here w t sound) s is = record { state = s; is = is; rest = Here w s sound; count = refl }
  woven _ _ _ _ _ (Another w t e es v u sound works moves rest) s is =
      let more = woven (after w e) t es v u rest s is in
      record {
        state = more.state;
        is = more.is;
        rest = Another w s e es v more.state sound (works.0, works.1, asks_part t s works.0 works.1 is works.2) moves more.rest;
        count = more.count;
      }
  woven _ _ _ _ _ (Own w t stage words es v u sound asked ready rest) s is =
      let e = call_of nester stage words in
      let more = woven (after w e) (heard whole t (said_of w e)) es v u rest (heard m s (said_of w e)) (hears_part t s w e is) in
      record {
        state = more.state;
        is = more.is;
        rest = Own w s stage words es v more.state sound (asks_part t s stage words is asked) ready more.rest;
        count = ap suc more.count;
      }

  pub works : (w : World) (s : S) (v : World) (t : T) (work : AtWork whole nester w (into s) v t) → PartWorks m whole into nester w s v t work
  works w s v t work =
      let e = call_of nester work.stage work.words in
      let more = woven (after w e) (heard whole (into s) (said_of w e)) work.events v t work.run (heard m s (said_of w e)) (hears_part (into s) s w e refl) in
      record {
        state = more.state;
        is = more.is;
        part = record {
          stage = work.stage;
          words = work.words;
          asked = asks_part (into s) s work.stage work.words refl work.asked;
          ready = work.ready;
          events = work.events;
          run = more.rest;
        };
        count = ap suc more.count;
      }

pub parts_work : {S A T B : Type 0} → PartsWork S A T B
parts_work m whole into ends_in nester w s v t part work = works m whole into ends_in nester part w s v t work

pub parts_meet_contract : {S A T B : Type 0} → PartsMeetTheContract S A T B
parts_meet_contract {S = S} {T = T} m whole into ends_in birth s part tidy = record {
  first = λ w nester may stage words asked. tidy.first w nester may stage words (asks_part m whole into ends_in nester part (into s) s stage words refl asked);
  later = λ w nester v t may work stage words asked. (let its = works m whole into ends_in nester part w s v t work in
      tidy.later w nester v its.state may its.part stage words (asks_part m whole into ends_in nester part t its.state stage words its.is asked));
  stays = λ w nester v t may work stage words asked. (let its = works m whole into ends_in nester part w s v t work in
      tidy.stays w nester v its.state may its.part stage words (asks_part m whole into ends_in nester part t its.state stage words its.is asked));
  ends = λ w nester v t end may work stopped. (let its = works m whole into ends_in nester part w s v t work in
      let stop = stops_part m whole into ends_in nester part t its.state end its.is stopped in
      tidy.ends w nester v its.state stop.0 may its.part stop.1);
}
