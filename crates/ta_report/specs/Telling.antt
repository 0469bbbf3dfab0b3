-- What a report, or that of `rest`, says, as lines or as JSON.
use Rattle.std.specs.Prelude.{ℕ, Bool, true, false, List}
use Rattle.ta_automaton.specs.declared.file.File.{File}
use Rattle.ta_report.specs.Json.{JsonRun, JsonSays, json_text}
use Rattle.ta_report.specs.Printed.{HasLine, told_of}
use Rattle.ta_report.specs.PrintedRuns.{RunPart, safe_words, unsafe_words}
use Rattle.ta_report.specs.Report.{safe_word, told_text, unsafe_word}
use Rattle.ta_report.specs.declared.pick.Pick.{Pick}
use Rattle.ta_report.specs.declared.verdict.ReportSample.{ReportSample}
use Rattle.ta_report.specs.declared.verdict.Verdict.{Verdict}

-- the report, or that of `rest`, as a line of JSON, or as lines
abbrev pub report_of : (rest json : Bool) → File → Pick → ReportSample → List Verdict → List ℕ
report_of rest true file pick sample verdicts = json_text rest file pick sample verdicts
report_of rest false file pick sample verdicts = told_text rest file pick sample verdicts

-- a text says that the pattern with this name is safe, and that it is unsafe
abbrev pub TellsSafe : (rest json : Bool) → List ℕ → List ℕ → Type 0
TellsSafe rest true name text = JsonSays name (safe_word rest) text
TellsSafe rest false name text = HasLine (told_of name (safe_words rest)) text

abbrev pub TellsUnsafe : (rest json : Bool) → List ℕ → List ℕ → Type 0
TellsUnsafe rest true name text = JsonSays name (unsafe_word rest) text
TellsUnsafe rest false name text = HasLine (told_of name (unsafe_words rest)) text

-- bytes are the text of the run that a text gives of an unsafe pattern
abbrev pub TellsRun : (rest json : Bool) → List ℕ → List ℕ → List ℕ → Type 0
TellsRun rest true name bytes text = JsonRun (unsafe_word rest) name bytes text
TellsRun rest false name bytes text = RunPart (unsafe_words rest) name bytes text
