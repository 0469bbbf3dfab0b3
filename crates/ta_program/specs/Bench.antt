-- The command `bench`: it makes a test automaton, verifies it and checks the certificate.
use Rattle.std.specs.Prelude.{ℕ, ◌*◌, ◌-◌, ◌≡◌, ◌&&◌, nat_le, Bool, true, false, List, [], ◌∷◌, ◌++◌, codes, decimal, slice_get, Option, None, Some}
use Rattle.std.specs.Prelude.{if◌then◌else◌, option_and_then}
use Rattle.std.specs.List.{AllByRecursion}
use Rattle.ta_base.specs.declared.limits.TheConstants.{DEFAULT_NODES}
use Rattle.ta_automaton.specs.declared.file.File.{File}
use Rattle.ta_automaton.specs.Runs as runs
use Rattle.ta_automaton.specs.declared.pattern.Pattern.{Pattern}
use Rattle.ta_check.specs.Certificate.{Certificate}
use Rattle.ta_maker.specs.Family.{family}
use Rattle.ta_base.specs.LimitRows.{narrow}
use Rattle.ta_meaning.specs.Reading.{Legal}
use Rattle.ta_report.specs.Report.{verdict_line}
use Rattle.ta_report.specs.declared.verdict.Verdict.{Verdict}
use Rattle.ta_shelf.specs.Sink.{with_text}
use Rattle.ta_shelf.specs.Commands.{Meaning}
use Rattle.ta_shelf.specs.Stages.{Writes, replies}
use Rattle.ta_shelf.specs.declared.answer.Answer.{Answer}
use Rattle.ta_syntax.specs.Grammar.{file_kinds}
use Rattle.ta_syntax.specs.Printed.{printed}
use Rattle.ta_program.specs.Asked.{Asked, ask}
use Rattle.ta_verdict.specs.Certificates.{CertificateOf, safe_numbers}
use Rattle.ta_verdict.specs.Verdicts.{AreVerdicts, is_unknown, is_unsafe}
use Rattle.ta_verdict.specs.declared.budget.Budget.{Budget}
use Rattle.ta_program.specs.Words.{behind_name, plain_of, taken_by}

-- K is one of the texts `1` to `7`
abbrev pub family_number : List ℕ → Option ℕ
family_number [] = None
family_number (c ∷ []) = if nat_le 49 c && nat_le c 55 then Some (c - 48) else None
family_number (c ∷ d ∷ cs) = None

abbrev pub bench_words : List (List ℕ) → Option ℕ
bench_words words = option_and_then (λ taken. family_number (plain_of taken 0)) (taken_by (record { plain = 1; options = [] }) words)

-- `bench K`
abbrev pub bench_of : List (List ℕ) → Option ℕ
bench_of = behind_name (codes "bench") bench_words

-- the text of the automaton with this number
unfoldable pub family_text : ℕ → List ℕ
family_text k = printed (file_kinds (family k))

-- the budget for the pattern: its schemas are listed
abbrev pub BUDGET : Budget
BUDGET = record { nodes = DEFAULT_NODES; lazy = false }

-- the line that says that the certificate was accepted, where the pattern is safe
abbrev pub accepted_line : Bool → List ℕ
accepted_line true = []
accepted_line false = codes "certificate: accepted\n"

-- the number of the family, how many rules there are, the line of the pattern, and that the certificate was accepted
abbrev pub bench_text : ℕ → Pattern → Verdict → List ℕ
bench_text k p v = codes "bench " ++
    (decimal k ++ (codes "\nrules " ++ (decimal (2 * k) ++ (codes "\n" ++ (verdict_line p v ++ accepted_line (is_unknown v))))))

-- the text is a certificate of some patterns of the file
abbrev pub IsCertified : File → List ℕ → Type 0
IsCertified file text = (numbers : List ℕ) × Certificate file narrow.line_bytes text numbers

-- the automaton with this number means a file, whose patterns occur in no run; its verdicts hold, and the one on its pattern is not unsafe; the
-- text is a certificate of the patterns that are safe by these verdicts, so `check` accepts it
pub record IsBench (k : ℕ) (p : Pattern) (v : Verdict) : Type 0 where
  pub file : File
  pub legal : Legal narrow (family_text k) file
  pub named : slice_get file.patterns 0 ≡ Some p
  pub safe : AllByRecursion (runs.Safe file.automaton) file.patterns
  pub verdicts : List Verdict
  pub are : AreVerdicts file BUDGET verdicts
  pub given : slice_get verdicts 0 ≡ Some v
  pub not_unsafe : is_unsafe v ≡ false
  pub text : List ℕ
  pub certificate : CertificateOf file BUDGET verdicts text
  pub accepted : Certificate file narrow.line_bytes text (safe_numbers file verdicts)

-- 2 if the verdict is unknown, otherwise 0
abbrev pub bench_status : Verdict → ℕ
bench_status v = if is_unknown v then 2 else 0

-- the lines are written
pub record SaysBench (k : ℕ) (answer : Answer) : Type 0 where
  pub pattern : Pattern
  pub verdict : Verdict
  pub is : IsBench k pattern verdict
  pub writes : Writes (bench_status verdict) (bench_text k pattern verdict) answer

-- nothing is read
abbrev pub bench_meaning : ℕ → Meaning
bench_meaning k = replies [] (SaysBench k)

abbrev pub bench_asked : List (List ℕ) → Asked
bench_asked words = ask (λ k. None) bench_meaning (bench_words words)

-- the automaton of the number was made, read, verified and checked, and the output gained the lines
pub record BenchHolds (number k : ℕ) (written written' : Option (List ℕ)) : Type 0 where
  pub pattern : Pattern
  pub verdict : Verdict
  pub is : IsBench k pattern verdict
  pub numbered : bench_status verdict ≡ number
  pub wrote : written' ≡ with_text written (bench_text k pattern verdict)

-- the text of the automaton with this number means a file, each of whose patterns occurs in no run
pub record FamilySafe (k : ℕ) : Type 0 where
  pub file : File
  pub legal : Legal narrow (family_text k) file
  pub safe : AllByRecursion (runs.Safe file.automaton) file.patterns
