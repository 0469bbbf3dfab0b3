-- The text that `search` prints.
use Rattle.std.specs.Prelude.{ℕ, Bool, List, [], ◌∷◌, ◌++◌, codes, decimal, if◌then◌else◌}
use Rattle.ta_report.specs.Faults.{file_fault_text}
use Rattle.ta_report.specs.Report.{place_text}
use Rattle.ta_report.specs.declared.verdict.ReportKind.{ReportKind}
use Rattle.ta_report.specs.declared.verdict.ReportSample.{ReportSample}
use Rattle.ta_report.specs.declared.verdict.ReportSample.TheVariants as sample
use Rattle.ta_report.specs.declared.verdict.Verdict.{Verdict}
use Rattle.ta_report.specs.declared.verdict.Verdict.TheVariants.{Safe, Unsafe, Spent, Overflow}
use Rattle.ta_search.specs.declared.outcome.Outcome.{Outcome}
use Rattle.ta_search.specs.declared.outcome.Outcome.TheVariants as outcome
use Rattle.ta_search.specs.declared.outcome.SearchEnd.{SearchEnd}
use Rattle.ta_search.specs.declared.outcome.Tried.{Tried}
use Rattle.ta_search.specs.declared.template.Hole.{Hole}
use Rattle.ta_search.specs.declared.template.Template.{Template}

-- a value for each hole, after its name
abbrev pub choice_text : List Hole → List ℕ → List ℕ
choice_text [] values = []
choice_text (h ∷ hs) [] = []
choice_text (h ∷ hs) (value ∷ values) = codes " " ++ (h.name ++ (codes "=" ++ (decimal value ++ choice_text hs values)))

-- why the budget was not enough, or where a number left the range
abbrev pub spent_words : ℕ → List ℕ
spent_words nodes = decimal nodes ++ codes " nodes spent"

abbrev pub overflow_words : ℕ → ReportKind → List ℕ
overflow_words node kind = codes "outside 128 bits at node " ++ (decimal node ++ (codes ", " ++ place_text kind))

-- why a sample is unknown; nothing for one that is known
abbrev pub sample_words : ReportSample → List ℕ
sample_words (sample.Sample values) = []
sample_words sample.Empty = []
sample_words (sample.Spent count) = spent_words count
sample_words (sample.Overflow node kind) = overflow_words node kind

-- why a pattern is unknown; nothing for one that is known
abbrev pub verdict_words : Verdict → List ℕ
verdict_words (Safe nodes leaves) = []
verdict_words (Unsafe nodes run) = []
verdict_words (Spent nodes) = spent_words nodes
verdict_words (Overflow node kind) = overflow_words node kind

-- the words for an outcome after the vector, up to the end of the line; after the line of an unsafe pattern comes the text of its run
abbrev pub outcome_text : Outcome → List ℕ
outcome_text outcome.Long = codes " long\n"
outcome_text (outcome.Refused e) = codes " refused, " ++ (file_fault_text e ++ codes "\n")
outcome_text outcome.Empty = codes " no parameters\n"
outcome_text (outcome.SampleUnknown s) = codes " unknown, parameters, " ++ (sample_words s ++ codes "\n")
outcome_text (outcome.Unsafe name run) = codes " unsafe, pattern " ++ (name ++ (codes "\n" ++ run))
outcome_text (outcome.Unknown name v) = codes " unknown, pattern " ++ (name ++ (codes ", " ++ (verdict_words v ++ codes "\n")))
outcome_text (outcome.Safe certificate) = codes " safe\n"

-- a vector and its outcome
abbrev pub tried_text : List Hole → Tried → List ℕ
tried_text hs x = codes "try" ++ (choice_text hs x.values ++ (codes ":" ++ outcome_text x.outcome))

-- all that were tried, in order
abbrev pub tried_texts : List Hole → List Tried → List ℕ
tried_texts hs [] = []
tried_texts hs (x ∷ xs) = tried_text hs x ++ tried_texts hs xs

-- the last line
abbrev pub end_line : Bool → List ℕ
end_line found = if found then codes "found\n" else codes "not found\n"

-- the text of a search's end
abbrev pub search_text : Template → SearchEnd → List ℕ
search_text t end = tried_texts t.holes end.tried ++ end_line end.found
