-- What is told and written of a run is so of the same moves with other servers that print the same.
use Rattle.std.proofs.Common.{◌≡◌, ℕ, ◌++◌, List, [], ◌∷◌, map, length, Option, refl, sym, ap, ◌∙◌}
use Rattle.std.specs.List.{flat_map}
use Rattle.fk_commands.specs.declared.outcome.Report.{Report}
use Rattle.fk_first.specs.Cores.{RunCore}
use Rattle.fk_model.specs.declared.job.JobSpec.{JobSpec}
use Rattle.fk_natives.specs.Natives.{State}
use Rattle.fk_report.specs.declared.end.End.{End}
use Rattle.fk_report.specs.declared.end.End.TheVariants as ends
use Rattle.fk_report.specs.Jobs.{lines_from}
use Rattle.fk_report.specs.Report.{end_lines, out_line, out_of, thread_line}
use Rattle.fk_runs.specs.RunReports.Made.{Images, IsEnd, IsText}
use Rattle.fk_runs.specs.Runs.Runs.{IsReported, IsWritten}
use Rattle.fk_first.specs.Served.{Services, servers}
use Rattle.laws_house.specs.Houses.{jobs_of}
use Rattle.fk_recorded.specs.Following.{core_with, IsRunWith}
use Rattle.fk_recorded.specs.Notes.{printed_of}

-- the lines of consoles are made of what is printed
lines : (es : Services) → flat_map out_line (map (λ e. e.1) es) ≡ flat_map (λ p. out_of p.0 p.1) (printed_of es)
lines [] = refl
lines (e ∷ es) = ap (λ xs. out_line e.1 ++ xs) (lines es)

same-lines : (es ds : Services) → printed_of es ≡ printed_of ds → flat_map out_line (map (λ e. e.1) es) ≡ flat_map out_line (map (λ e. e.1) ds)
same-lines es ds same = lines es ∙ (ap (flat_map (λ p. out_of p.0 p.1)) same ∙ sym (lines ds))

module _ (specs : List JobSpec) (given : Images) (first : RunCore) (budget : ℕ) (report : Report) (text : List ℕ)
    (is : IsReported specs given first budget report)
    (written : IsText specs is.last report text) (u v : Services) (with : IsRunWith is.run servers u v) (same : printed_of v ≡ printed_of is.last.servers) where
  pub ends-so : (end : End) → IsEnd (jobs_of specs given) budget is.last end → IsEnd (jobs_of specs given) budget (core_with is.last v) end
  ends-so ends.Halted e = (λ any. e.0 (any.0, with.as_ready any.0 any.1), e.1)
  ends-so ends.Quiet e = (λ any. e.0 (any.0, with.as_ready any.0 any.1), e.1)
  ends-so ends.Budget e = ((e.0.0, with.ready e.0.0 e.0.1), e.1)
  ends-so ends.Listed e = ((e.0.0, with.ready e.0.0 e.0.1), e.1)

  abbrev pub reported : IsReported specs given (core_with first u) budget report
  reported = record {
    last = core_with is.last v;
    run = with.same;
    within = is.within;
    end = ends-so report.end is.end;
    jobs = is.jobs;
    images = is.images;
  }

  pub text-so : IsText specs (core_with is.last v) report text
  text-so = record {
    threads = written.threads;
    are = written.are;
    written = written.written
        ∙ ap (λ outs. end_lines (length report.history) report.end ++ (lines_from report.jobs 0 specs ++ (outs ++ flat_map thread_line written.threads)))
        (same-lines is.last.servers v (sym same));
  }

  abbrev pub carried : IsWritten (IsText specs) specs given (core_with first u) budget report text
  carried = (reported, text-so)
