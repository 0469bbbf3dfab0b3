-- The table of commands: one row for each command.
use Rattle.std.specs.Prelude.{ℕ, List, [], ◌∷◌, codes}
use Rattle.ta_program.specs.Asked.{Asked, row}
use Rattle.ta_program.specs.Asked.Asked.{NoCommand}
use Rattle.ta_program.specs.Admit.{admit_asked}
use Rattle.ta_program.specs.Bench.{bench_asked}
use Rattle.ta_program.specs.Check.{check_asked}
use Rattle.ta_program.specs.Compress.{compress_asked}
use Rattle.ta_program.specs.Count.{IsCount}
use Rattle.ta_program.specs.Export.{export_asked}
use Rattle.ta_program.specs.OneFile.{one_file_asked}
use Rattle.ta_program.specs.Replay.{replay_asked}
use Rattle.ta_program.specs.Reporting.{verify_asked}
use Rattle.ta_program.specs.Rest.{rest_asked}
use Rattle.ta_program.specs.RestCheck.{rest_check_asked}
use Rattle.ta_program.specs.Search.{search_asked}
use Rattle.ta_program.specs.Show.{IsShown}
use Rattle.ta_program.specs.Version.{version_asked}

-- what a command line asks for: its first word is the command
abbrev pub request_of : List (List ℕ) → Asked
request_of [] = NoCommand
request_of (word ∷ words) =
    row (codes "admit") word (admit_asked words)
    (row (codes "bench") word (bench_asked words)
    (row (codes "check") word (check_asked words)
    (row (codes "compress") word (compress_asked words)
    (row (codes "count") word (one_file_asked IsCount words)
    (row (codes "export") word (export_asked words)
    (row (codes "replay") word (replay_asked words)
    (row (codes "rest") word (rest_asked words)
    (row (codes "rest-check") word (rest_check_asked words)
    (row (codes "search") word (search_asked words)
    (row (codes "show") word (one_file_asked (λ l. IsShown) words)
    (row (codes "verify") word (verify_asked words)
    (row (codes "version") word (version_asked words)
    NoCommand))))))))))))
