-- The outcome of a template with values in its holes, within the terms of a search: a budget and the limits of files.
use Rattle.std.specs.Prelude.{ℕ, ℤ, ◌<◌, ◌≤◌, ◌≡◌, ◌≢◌, Bool, true, false, List, length, slice_get, Some}
use Rattle.std.specs.List.{prefix_len, AllByRecursion}
use Rattle.ta_base.specs.declared.limits.Limits.{Limits}
use Rattle.ta_automaton.specs.declared.file.File.{File}
use Rattle.ta_automaton.specs.declared.pattern.Pattern.{Pattern}
use Rattle.ta_check.specs.Certificate.{Certificate}
use Rattle.ta_meaning.specs.FirstFault.{FirstFault}
use Rattle.ta_meaning.specs.Reading.{Legal}
use Rattle.ta_replay.specs.declared.run.Run.{Run}
use Rattle.ta_replay.specs.RunText.{run_text}
use Rattle.ta_report.specs.declared.verdict.ReportSample.{ReportSample}
use Rattle.ta_report.specs.declared.verdict.ReportSample.TheVariants as sample
use Rattle.ta_report.specs.declared.verdict.Verdict.{Verdict}
use Rattle.ta_report.specs.declared.verdict.Verdict.TheVariants.{Safe, Unsafe, Spent, Overflow}
use Rattle.ta_syntax.specs.declared.fault.FileFault.{FileFault}
use Rattle.ta_syntax.specs.declared.fault.FileFault.TheVariants as fault
use Rattle.ta_verdict.specs.Certificates.{CertificateOf, safe_numbers}
use Rattle.ta_verdict.specs.Verdicts.{AreVerdicts, IsSample, is_unknown}
use Rattle.ta_search.specs.declared.outcome.Outcome.{Outcome}
use Rattle.ta_search.specs.declared.outcome.Outcome.TheVariants as outcome
use Rattle.ta_search.specs.declared.terms.Terms.{Terms}

-- whether a verdict says that a pattern is safe
abbrev pub is_safe : Verdict → Bool
is_safe (Safe nodes leaves) = true
is_safe (Unsafe nodes run) = false
is_safe (Spent nodes) = false
is_safe (Overflow node kind) = false

-- whether the search for a sample found none, without refuting that there is one
abbrev pub is_unsampled : ReportSample → Bool
is_unsampled (sample.Sample values) = false
is_unsampled sample.Empty = false
is_unsampled (sample.Spent count) = true
is_unsampled (sample.Overflow node kind) = true

-- the filled text is refused for this error, by a row of limits
pub record IsRefusedFilling (l : Limits) (bytes : List ℕ) (e : FileFault) : Type 0 where
  pub within : length bytes ≤ l.bytes
  pub first : FirstFault l bytes e
  pub told : e ≢ fault.Memory

-- the filled text means this file, and this is the sample of its parameters
pub record IsSampled (bytes : List ℕ) (terms : Terms) (file : File) (s : ReportSample) : Type 0 where
  pub within : length bytes ≤ terms.limits.bytes
  pub legal : Legal terms.limits bytes file
  pub sample : IsSample file terms.budget.nodes s

-- its sample is this one
pub record HasSample (bytes : List ℕ) (terms : Terms) (s : ReportSample) : Type 0 where
  pub file : File
  pub sampled : IsSampled bytes terms file s

-- there are parameters with an initial configuration, and each pattern of the file has its verdict
pub record HasVerdicts (bytes : List ℕ) (terms : Terms) (file : File) (vs : List Verdict) : Type 0 where
  pub values : List ℤ
  pub sampled : IsSampled bytes terms file (sample.Sample values)
  pub verdicts : AreVerdicts file terms.budget vs

-- how many verdicts come before the first that is not Safe
abbrev pub safe_before : List Verdict → ℕ
safe_before vs = prefix_len is_safe vs

-- this is the first pattern in the order of the file whose verdict is not Safe, with this verdict
pub record IsFirstNotSafe (file : File) (verdicts : List Verdict) (p : Pattern) (v : Verdict) : Type 0 where
  pub pattern : slice_get file.patterns (safe_before verdicts) ≡ Some p
  pub verdict : slice_get verdicts (safe_before verdicts) ≡ Some v

-- that pattern has this name, and is unsafe with a run of this text
pub record IsUnsafe (bytes : List ℕ) (terms : Terms) (name text : List ℕ) : Type 0 where
  pub file : File
  pub verdicts : List Verdict
  pub judged : HasVerdicts bytes terms file verdicts
  pub p : Pattern
  pub nodes : ℕ
  pub run : Run
  pub decides : IsFirstNotSafe file verdicts p (Unsafe nodes run)
  pub named : name ≡ p.name
  pub shown : text ≡ run_text file run

-- that pattern has this name, and is unknown with this verdict
pub record IsUnknown (bytes : List ℕ) (terms : Terms) (name : List ℕ) (v : Verdict) : Type 0 where
  pub file : File
  pub verdicts : List Verdict
  pub judged : HasVerdicts bytes terms file verdicts
  pub p : Pattern
  pub decides : IsFirstNotSafe file verdicts p v
  pub unknown : is_unknown v ≡ true
  pub named : name ≡ p.name

-- every verdict is Safe, and this is the text of their certificate, which the checker accepts as one of exactly these patterns
pub record IsSafe (bytes : List ℕ) (terms : Terms) (text : List ℕ) : Type 0 where
  pub file : File
  pub verdicts : List Verdict
  pub judged : HasVerdicts bytes terms file verdicts
  pub all : AllByRecursion (λ v. is_safe v ≡ true) verdicts
  pub certificate : CertificateOf file terms.budget verdicts text
  pub accepted : Certificate file terms.limits.line_bytes text (safe_numbers file verdicts)

-- the outcome of a filled text holds, for the terms of a search
abbrev pub OutcomeHolds : List ℕ → Terms → Outcome → Type 0
OutcomeHolds bytes terms outcome.Long = terms.limits.bytes < length bytes
OutcomeHolds bytes terms (outcome.Refused e) = IsRefusedFilling terms.limits bytes e
OutcomeHolds bytes terms outcome.Empty = HasSample bytes terms sample.Empty
OutcomeHolds bytes terms (outcome.SampleUnknown s) = HasSample bytes terms s × (is_unsampled s ≡ true)
OutcomeHolds bytes terms (outcome.Unsafe name run) = IsUnsafe bytes terms name run
OutcomeHolds bytes terms (outcome.Unknown name v) = IsUnknown bytes terms name v
OutcomeHolds bytes terms (outcome.Safe certificate) = IsSafe bytes terms certificate
