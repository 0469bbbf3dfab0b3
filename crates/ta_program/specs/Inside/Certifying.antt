-- When an answer comes with a certificate, and what is then written.
use Rattle.std.specs.Prelude.{ℕ, ◌<◌, ◌≤◌, ◌≡◌, List, [], ◌∷◌, length, Option, Result, Ok, Err}
use Rattle.std.specs.declared.alloc.AllocError.{AllocError}
use Rattle.ta_program.specs.declared.telling.Report.{Report}
use Rattle.ta_shelf.specs.Put.{Told}
use Rattle.ta_shelf.specs.Commands.{Meaning, Says}
use Rattle.ta_shelf.specs.Staging.{result_seen}
use Rattle.ta_shelf.specs.declared.staged_answer.StagedAnswer.{StagedAnswer}
use Rattle.ta_shelf.specs.declared.staged_answer.StagedOutput.TheVariants.{Unasked}
use Rattle.ta_shelf.specs.declared.answer.Answer.{Answer}
use Rattle.ta_shelf.specs.declared.answer.Put.{Put}
use Rattle.ta_shelf.specs.declared.answer.Refusal.{Refusal}
use Rattle.ta_shelf.specs.declared.answer.Refusal.TheVariants.{Refused, ReadFailed, PutFailed, Memory}
use Rattle.ta_shelf.specs.Lines.{file_line, phrase_text}
use Rattle.ta_shelf.specs.Puts.{put_bytes}
use Rattle.ta_program.specs.declared.limits.TheConstants.{CERTIFICATE}
use Rattle.ta_program.specs.Certified.{long_line}

-- the report is written with its number, and the text is put in the file with this name
pub record ReportsAndPuts (number : ℕ) (report name text : List ℕ) (answer : Answer) : Type 0 where
  pub numbered : answer.number ≡ number
  pub written : answer.text ≡ report
  pub put : Put
  pub only : answer.puts ≡ put ∷ []
  pub named : put.name ≡ name
  pub holds : put_bytes put ≡ text
  pub within : length text ≤ CERTIFICATE.bytes

-- the text is put, or it is too long
abbrev pub Certifies : ℕ → List ℕ → List ℕ → List ℕ → Result Answer Refusal → Type 0
Certifies number report name text (Ok answer) = ReportsAndPuts number report name text answer
Certifies number report name text (Err (Refused n who why)) = (n ≡ CERTIFICATE.number) × (file_line who.now (phrase_text why) ≡ long_line name)
    × (CERTIFICATE.bytes < length text)
Certifies number report name text (Err (ReadFailed who)) = ⊥
Certifies number report name text (Err (PutFailed who)) = ⊥
Certifies number report name text (Err Memory) = Unit {0}

-- the same of a report, if there is one
abbrev pub CertifiesReport : Result Report AllocError → List ℕ → List ℕ → Result Answer Refusal → Type 0
CertifiesReport (Ok report) name text result = Certifies report.number report.text name text result
CertifiesReport (Err e) name text result = result ≡ Err Memory

-- the answer writes the report, if there is one
abbrev pub IsPlain : {T : Type 0} → Result Report AllocError → Result (StagedAnswer T) Refusal → Type 0
IsPlain (Ok report) result = result ≡ Ok (record { number = report.number; text = report.text; output = Unasked })
IsPlain (Err e) result = result ≡ Err Memory

-- an answer that may stage an output says so, and reads nothing more
pub record SaysStaged {T : Type 0} (m : Meaning) (bytes : T → List ℕ) (files : Option Told) (result : Result (StagedAnswer T) Refusal) : Type 0 where
  pub lost : List ℕ
  pub says : Says m files (result_seen bytes lost result) []
