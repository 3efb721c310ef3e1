use Rattle.std.proofs.Common.{◌≡◌, None, map, string_bytes, rules}
use Rattle.fk_words.specs.Commands.{command_of}
use Rattle.fk_run.proofs.Complete.{complete-Err, complete-Ok, no-words, not-since}
use Rattle.fk_run.proofs.Due.{no-command, puts_nothing}
use Rattle.fk_run.proofs.Transparency.{holds}
use Rattle.fk_run.proofs.top.fluke_alone.Goals as goal

pub returns-in_default : goal.returns-in_default
returns-in_default g c =
    let none : command_of (map string_bytes c.args.words.now) ≡ None = search rules in
    record {
      theorem = record {
        words = record {
          usage = search rules;
          untouched = search rules;
          source = search rules;
          shelf = search rules;
        };
        correct = no-command _ _ none _ _ _;
        causes = record {
          read_fault = search rules;
          write_fault = search rules;
          cut_off = search rules;
          shelf_fault = search rules;
        };
        hides = record {
          reads = search rules;
          writes = search rules;
          gets = search rules;
          gets_of_run = search rules;
          puts = search rules;
          puts_of_none = search rules;
        };
        came = record {
          all_read = search rules;
          nothing = search rules;
          no_report = search rules;
          no_extra = search rules;
        };
        files = record {
          put = search rules;
          some = search rules;
          no_put = search rules;
          others = search rules;
          again = search rules;
        };
        transparency = search rules;
        complete = λ no_read no_write no_get no_put. no-words _ _ none _ _ _ _ _ _;
      };
    }

pub returns-in-Ok : goal.returns-in-Ok
returns-in-Ok g c = record {
  theorem = record {
    words = record {
      usage = search rules;
      untouched = search rules;
      source = search rules;
      shelf = search rules;
    };
    correct = search rules;
    causes = record {
      read_fault = search rules;
      write_fault = search rules;
      cut_off = search rules;
      shelf_fault = search rules;
    };
    hides = record {
      reads = search rules;
      writes = search rules;
      gets = search rules;
      gets_of_run = search rules;
      puts = search rules;
      puts_of_none = search rules;
    };
    came = record {
      all_read = search rules;
      nothing = search rules;
      no_report = search rules;
      no_extra = search rules;
    };
    files = record {
      put = search rules;
      some = search rules;
      no_put = search rules;
      others = search rules;
      again = search rules;
    };
    transparency = holds _ c.finish.result.report;
    complete = λ no_read no_write no_get no_put.
        complete-Ok _ _ _ _ _ _ _ _ _ _ _ _ _ _ c.in-Ok.is c.make_alone.ensures.comes c.finish.ensures.done c.finish.ensures.written
        c.make_alone.ensures.same_files c.finish.ensures.put c.finish.ensures.status c.finish.ensures.write_fault c.finish.ensures.shelf_fault
        (λ fault. no_write fault.1) (λ fault. not-since _ _ _ c.make_alone.ensures.same_puts no_put fault.2) (search rules);
  };
}

pub returns-in-Err : goal.returns-in-Err
returns-in-Err g c = record {
  theorem = record {
    words = record {
      usage = search rules;
      untouched = search rules;
      source = search rules;
      shelf = search rules;
    };
    correct = search rules;
    causes = record {
      read_fault = search rules;
      write_fault = search rules;
      cut_off = search rules;
      shelf_fault = search rules;
    };
    hides = record {
      reads = search rules;
      writes = search rules;
      gets = search rules;
      gets_of_run = search rules;
      puts = search rules;
      puts_of_none = search rules;
    };
    came = record {
      all_read = search rules;
      nothing = search rules;
      no_report = search rules;
      no_extra = search rules;
    };
    files = record {
      put = search rules;
      some = λ failed. puts_nothing _ _ _ c.make_alone.ensures.same_files;
      no_put = search rules;
      others = search rules;
      again = search rules;
    };
    transparency = search rules;
    complete = λ no_read no_write no_get no_put.
        complete-Err _ _ _ _ _ _ _ _ _ _ _ _ c.in-Err.is c.make_alone.ensures.comes c.make_alone.ensures.refusal no_read (λ fault. no_get fault.0)
        (search rules);
  };
}
