-- from how a run ends to all that is promised of it
use Rattle.ta_program.proofs.Common.{ℕ, List, Runs, State, request_of}
use Rattle.ta_program.proofs.Clauses.{admitting, benches, certificate_written, check_proves, counts_file, exactly_so, exports, keeps_files, opens}
use Rattle.ta_program.proofs.Clauses.{printed_holds, quiet, replay_shows, rest_proves, rests_report, run_of, run_shortens, safe_as_shown, searches, shows_file}
use Rattle.ta_program.proofs.Clauses.{spares_read, status_tells, tellings, usage_exactly, verify_reports, version_prints}
use Rattle.ta_program.proofs.Complete.{completes}
use Rattle.ta_program.proofs.ReportsExact.{reported_exactly}
use Rattle.ta_program.proofs.WhatIsShown.{understood}
use Rattle.ta_program.specs.Promises.{EndPromises, Promises}
use Rattle.ta_program.specs.Statuses.{ZeroSays}
use Rattle.ta_report.specs.Json.{JsonIsDistinct}
use Rattle.ta_report.specs.Report.{ReportsAreDistinct}

pub promises : ReportsAreDistinct → JsonIsDistinct → ZeroSays → (words : List (List ℕ)) (number : ℕ) (before after : State)
    → Runs (request_of words) number before after → Promises (run_of words number before after)
promises lines_differ json_differs zero_says words number before after h = record {
  understood = understood words number before after h zero_says;
  headline = status_tells words number before after h zero_says;
  printed = printed_holds words number before after h;
  reported = reported_exactly lines_differ json_differs words number before after h;
  verify = verify_reports words number before after h;
  certificate = certificate_written words number before after h;
  check = check_proves words number before after h;
  rests = rests_report words number before after h;
  rest_proves = rest_proves words number before after h;
  searches = searches words number before after h;
  replay = replay_shows words number before after h;
  compress = run_shortens words number before after h;
  shows = shows_file words number before after h;
  shown_safe = safe_as_shown words number before after h zero_says;
  export = exports words number before after h;
  admit = admitting words number before after h;
  bench = benches words number before after h;
  version = version_prints words number before after h;
  counts = counts_file words number before after h;
  exact = exactly_so (request_of words) number before after h;
  usage = usage_exactly words number before after h;
  opened = opens (request_of words) number before after h;
  spares = spares_read words number before after h;
}

pub end_promises : (words : List (List ℕ)) (number : ℕ) (before after : State) → Runs (request_of words) number before after
    → EndPromises number words before after
end_promises words number before after h = record {
  complete = completes words number before after h;
  kept = keeps_files words number before after h;
  refused = quiet (request_of words) number before after h;
  told = tellings (request_of words) number before after h;
  runs = h;
}
