-- What a report, or that of `rest`, tells, in either form, is so of its verdicts.
use Rattle.ta_report.proofs.Common.{ℕ, ◌≡◌, Bool, true, false, List, slice_get, Some, sym, ◌∙◌, subst, AllByRecursion, File, Pattern, Pick, entry_of, run_text}
use Rattle.ta_report.proofs.Common.{ReportSample, Verdict, Safe, Unsafe, SampleFits, VerdictFits, TellsSafe, TellsUnsafe, report_of}
use Rattle.ta_replay.specs.declared.run.Run.{Run as RunOf}
use Rattle.ta_report.specs.Telling.{TellsRun}
use Rattle.ta_report.proofs.JsonSayings.{json_runs, json_safe, json_unsafe}
use Rattle.ta_report.proofs.Printed.{printed_rest_safe, printed_rest_unsafe, printed_runs, printed_safe, printed_unsafe, runs_printed}

module _ (file : File) (pick : Pick) (x : ReportSample) (vs : List Verdict) (k : ℕ) (p : Pattern) (at : slice_get file.patterns k ≡ Some p)
    (fit : SampleFits file x) (fits : AllByRecursion (VerdictFits file) vs) where
  pub told_safe : (rest json : Bool) → TellsSafe rest json p.name (report_of rest json file pick x vs) → (nodes : ℕ) × (leaves : ℕ)
      × (entry_of pick vs k ≡ Some (Safe nodes leaves))
  told_safe rest true says = json_safe rest file pick x vs k p at says
  told_safe false false has = printed_safe file pick x vs k p at fit fits has
  told_safe true false has = printed_rest_safe file pick x vs k p at fit fits has

  pub told_unsafe : (rest json : Bool) → TellsUnsafe rest json p.name (report_of rest json file pick x vs) → (nodes : ℕ) × (run : RunOf)
      × (entry_of pick vs k ≡ Some (Unsafe nodes run))
  told_unsafe rest true says = let is = json_unsafe rest file pick x vs k p at says in (is.0, is.1, is.2)
  told_unsafe false false has = printed_unsafe file pick x vs k p at fit fits has
  told_unsafe true false has = printed_rest_unsafe file pick x vs k p at fit fits has

  pub run_told :
      (rest json : Bool) (nodes : ℕ) (run : RunOf) → entry_of pick vs k ≡ Some (Unsafe nodes run)
      → TellsUnsafe rest json p.name (report_of rest json file pick x vs) → TellsRun rest json p.name (run_text file run) (report_of rest json file pick x vs)
  run_told rest true nodes run is says =
      let found = json_unsafe rest file pick x vs k p at says in
      let both : Some (Unsafe found.0 found.1) ≡ Some (Unsafe nodes run) = sym found.2 ∙ is in
      let same : found.1 ≡ run = cc in
      subst (λ (r : RunOf). TellsRun rest true p.name (run_text file r) (report_of rest true file pick x vs)) same found.3
  run_told rest false nodes run is has = runs_printed rest file pick x vs k p at fit fits nodes run is

  pub told_run :
      (rest json : Bool) (bytes : List ℕ) → TellsRun rest json p.name bytes (report_of rest json file pick x vs)
      → (nodes : ℕ) × (run : RunOf) × (entry_of pick vs k ≡ Some (Unsafe nodes run)) × (bytes ≡ run_text file run)
  told_run rest true bytes part = json_runs rest file pick x vs k p at bytes part
  told_run rest false bytes part = printed_runs rest file pick x vs k p at fit fits bytes part
