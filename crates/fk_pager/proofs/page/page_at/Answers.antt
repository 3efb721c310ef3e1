use Rattle.fk_pager.proofs.page.page_at.Goals as goal

pub returns : goal.returns
returns g c =
    let ran = c.in_ok-ran.ran in
    record {
      kernel = ran.0.kernel;
      services = ran.0.services.list;
      paged = rw (c.in_ok-host.ensures.kernel, c.in_ok-host.ensures.services) at c.in_ok-ran.ensures;
      told = c.in_ok-text.ensures;
    }
