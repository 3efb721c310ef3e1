use Rattle.std.proofs.Common.{◌≡◌, ℕ, ◌+◌, ◌/◌, ◌%◌, List, [], Option, Some, slice_index, slice_index_or, slice_set, is_some, sym, ap, ◌∙◌}
use Rattle.fk_model.specs.declared.instruction.Act.{Act}
use Rattle.laws_bursts.specs.Bursts.{Burst, using, put, write, acted}
use Rattle.fk_burst.specs.Copies.Copies.{burst_of}
use Rattle.fk_burst.proofs.InCopies.Acts.{loaded, unloaded, stored, unstored}
use Rattle.fk_burst.proofs.copies.copied.Copied.perform.Goals as goal

-- what is said of an act is said of what equals it
by_act : (a other : Act) (b : Burst) (o : Option Burst) → a ≡ other → acted other b ≡ o → acted a b ≡ o
by_act a other b o same is = ap (λ (x : Act). acted x b) same ∙ is

pub returns-in-Put-clause-made : goal.returns-in-Put-clause-made
returns-in-Put-clause-made c =
    by_act _ _ _ _ c.in-Put.is (ap (λ (b : Burst). Some b) (sym (c.put.ensures.burst ∙ ap (put c.in-Put.register c.in-Put.value) c.mark.ensures.burst)))

pub returns-in-Jump-clause-made : goal.returns-in-Jump-clause-made
returns-in-Jump-clause-made c = by_act _ _ _ _ c.in-Jump.is (
    ap (λ (b : Burst). Some b) (sym (c.jump.ensures.burst ∙ ap (λ (b : Burst). record b { counter = c.in-Jump.counter }) c.mark-in-Jump.ensures.burst)))

pub returns-in-Some-clause-made : goal.returns-in-Some-clause-made
returns-in-Some-clause-made c =
    let self = c.args.self.now in
    let k = c.in-Some.k in
    let address = c.in-Load.address in
    let words : List ℕ = slice_index_or self.words k [] in
    let at : c.mark-in-Some.new.self.first + k ≡ address / 64 = ap (λ n. n + k) c.mark-in-Some.ensures.first ∙ c.in-Some.ensures.place.1 in
    let marks : burst_of c.mark-in-Some-2.new.self ≡ using (address / 64) (using (self.first + c.args.fetched) (burst_of self))
    = c.mark-in-Some-2.ensures.burst ∙ (λ i. using (at i) (c.mark-in-Some.ensures.burst i)) in
    by_act _ _ _ _ c.in-Load.is (
    loaded (using (self.first + c.args.fetched) (burst_of self)) c.in-Load.register address words (burst_of c.put-in-Some.new.self) c.in-Some.ensures.there
    (c.put-in-Some.ensures.burst ∙ ap (put c.in-Load.register (slice_index words (address % 64))) marks))

pub returns-in-None-clause-stopped : goal.returns-in-None-clause-stopped
returns-in-None-clause-stopped c =
    let self = c.args.self.now in
    by_act _ _ _ _ c.in-Load.is (
    unloaded (using (self.first + c.args.fetched) (burst_of self)) c.in-Load.register c.in-Load.address c.in-None.ensures.none)

pub store-requires-clause-there : goal.store-requires-clause-there
store-requires-clause-there c =
    let self = c.args.self.now in
    let k = c.in-Some-place.k in
    let first = c.mark-in-Some-place in
    let second = c.mark-in-Some-place-2 in
    let page : (n : ℕ) → (burst_of second.new.self).page n ≡ (burst_of self).page n
    = λ n. ap (λ (b : Burst). b.page n) second.ensures.burst ∙ ap (λ (b : Burst). b.page n) first.ensures.burst in
    let at : second.new.self.first + k ≡ c.in-Store.address / 64
    = ap (λ n. n + k) (second.ensures.first ∙ first.ensures.first) ∙ c.in-Some-place.ensures.place.1 in
    ap is_some (page (second.new.self.first + k) ∙ ap (λ n. (burst_of self).page n) at ∙ c.in-Some-place.ensures.there)

pub returns-in-Some-place-clause-made : goal.returns-in-Some-place-clause-made
returns-in-Some-place-clause-made c =
    let self = c.args.self.now in
    let k = c.in-Some-place.k in
    let address = c.in-Store.address in
    let first = c.mark-in-Some-place in
    let second = c.mark-in-Some-place-2 in
    let words : List ℕ = slice_index_or self.words k [] in
    let at : first.new.self.first + k ≡ address / 64 = ap (λ n. n + k) first.ensures.first ∙ c.in-Some-place.ensures.place.1 in
    let at_second : second.new.self.first + k ≡ address / 64 = ap (λ n. n + k) second.ensures.first ∙ at in
    let marks : burst_of second.new.self ≡ using (address / 64) (using (self.first + c.args.fetched) (burst_of self))
    = second.ensures.burst ∙ (λ i. using (at i) (first.ensures.burst i)) in
    let same : second.new.self.words ≡ self.words = second.ensures.words ∙ first.ensures.words in
    by_act _ _ _ _ c.in-Store.is (
    stored (using (self.first + c.args.fetched) (burst_of self)) address c.in-Store.value words (burst_of c.store.new.self) c.in-Some-place.ensures.there
    (c.store.ensures.burst ∙ (λ i. write (at_second i) (slice_set (slice_index_or (same i) k []) (address % 64) c.in-Store.value) (marks i))))

pub returns-in-None-place-clause-stopped : goal.returns-in-None-place-clause-stopped
returns-in-None-place-clause-stopped c =
    let self = c.args.self.now in
    by_act _ _ _ _ c.in-Store.is (
    unstored (using (self.first + c.args.fetched) (burst_of self)) c.in-Store.address c.in-Store.value c.in-None-place.ensures.none)
