use Rattle.std.proofs.Common.{◌≡◌, sym, ap, subst, ◌∙◌}
use Rattle.fk_waits.specs.Causes.Names.{key_at}
use Rattle.fk_waits.specs.Waits.Threads.{AreThere, Fits}
use Rattle.fk_waits.specs.declared.waits.threads.Threads.{Threads}
use Rattle.fk_waits.proofs.waits.threads.Threads.settle.Goals as goal

pub settle_found-requires : goal.settle_found-requires
settle_found-requires c =
    let t = c.args.self.now in
    let is : record { causes = t.causes; names = c.find_near-key.new.self } ≡ t =
    ap (λ n. record { causes = t.causes; names = n }) c.find_near-key.ensures.same in
    record {
      fits = subst (λ (u : Threads). Fits u c.args.thread) (sym is) c.requires;
      key = c.find_near-key.ensures.found ∙ ap (λ (u : Threads). key_at u.names.0 c.args.thread) (sym is);
    }

pub returns-clause-there : goal.returns-clause-there
returns-clause-there c l there =
    let t = c.args.self.now in
    let is : record { causes = t.causes; names = c.find_near-key.new.self } ≡ t =
    ap (λ n. record { causes = t.causes; names = n }) c.find_near-key.ensures.same in
    c.settle_found.ensures.there l (subst (λ (u : Threads). AreThere u l) (sym is) there)

pub returns-clause-waited : goal.returns-clause-waited
returns-clause-waited c l there =
    let t = c.args.self.now in
    let is : record { causes = t.causes; names = c.find_near-key.new.self } ≡ t =
    ap (λ n. record { causes = t.causes; names = n }) c.find_near-key.ensures.same in
    c.settle_found.ensures.waited l (subst (λ (u : Threads). AreThere u l) (sym is) there)
