use Rattle.std.proofs.Common.{length, count_by, string_bytes}
use Rattle.scen_run.specs.Reports.{is_match, is_differs, is_unreachable, is_refused, is_scaled}
use Rattle.scen_run.proofs.Reporting.{totals_written}
use Rattle.scen_run.proofs.reports.push_totals.Goals as goal

pub returns : goal.returns
returns c =
    rw (
      c.in_ok-push_str.ensures.bytes,
      c.in_ok-push_count-6.ensures,
      c.count-5.ensures,
      c.in_ok-push_count-5.ensures,
      c.count-4.ensures,
      c.in_ok-push_count-4.ensures,
      c.count-3.ensures,
      c.in_ok-push_count-3.ensures,
      c.count-2.ensures,
      c.in_ok-push_count-2.ensures,
      c.count.ensures,
      c.in_ok-push_count.ensures,
    ) (totals_written (string_bytes c.args.text.now) (length c.args.results.now) (count_by is_match c.args.results.now) (count_by is_differs c.args.results.now)
    (count_by is_unreachable c.args.results.now) (count_by is_refused c.args.results.now) (count_by is_scaled c.args.results.now))
