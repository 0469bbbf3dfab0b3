-- What a command may answer, given what is seen of files.
use Rattle.std.specs.Prelude.{ℕ, ◌≡◌, ◌≤◌, ◌⊎◌, List, Option, Some, Result, Ok, Err}
use Rattle.ta_shelf.specs.Calls.{Call}
use Rattle.ta_shelf.specs.Put.{Told}
use Rattle.ta_shelf.specs.declared.answer.Answer.{Answer}
use Rattle.ta_shelf.specs.declared.answer.Refusal.{Refusal}
use Rattle.ta_shelf.specs.declared.answer.Refusal.TheVariants.{Refused, ReadFailed, PutFailed, Memory}
use Rattle.ta_shelf.specs.Lines.{file_line, phrase_text}
use Rattle.ta_shelf.specs.Sights.{View, in_files, seen}
use Rattle.ta_shelf.specs.Puts.{PutsWithin}

-- what a command says
pub record Meaning : Type 1 where
  -- the answers that hold of what is seen
  pub answers : View → Answer → Type 0
  -- the refusals, given what is seen: a status, and the line that says why
  pub refuses : View → ℕ → List ℕ → Type 0
  -- the names of the files that it reads, by what is seen before
  pub reads : View → List ℕ → Type 0
  -- the calls that it makes, to their end or up to one of them
  pub opens : List Call → Type 0
  -- the names of the files that it may put on the shelf
  pub puts : List (List ℕ)

-- an answer holds of what is seen
pub record AnswerHolds (m : Meaning) (view : View) (answer : Answer) : Type 0 where
  pub low : answer.number ≤ 2
  pub holds : m.answers view answer
  pub within : PutsWithin m.puts answer.puts

-- an answer holds, or a refusal does, or a file that is read failed
abbrev pub JudgementHolds : Meaning → View → Result Answer Refusal → Type 0
JudgementHolds m view (Ok answer) = AnswerHolds m view answer
JudgementHolds m view (Err (Refused number name why)) = (3 ≤ number) × (number ≤ 4) × m.refuses view number (file_line name.now (phrase_text why))
JudgementHolds m view (Err (ReadFailed name)) = m.reads view name.now
JudgementHolds m view (Err (PutFailed name)) = ⊥
JudgementHolds m view (Err Memory) = Unit {0}

-- the calls before an answer is decided, and what it is, given what is seen in them and in the files
pub record Says (m : Meaning) (files : Option Told) (result : Result Answer Refusal) (calls : List Call) : Type 0 where
  pub opened : m.opens calls
  pub judges : JudgementHolds m (seen files calls) result

-- some answer with this status holds, or a refusal with this status
abbrev pub IsSo : Meaning → View → ℕ → Type 0
IsSo m view number = ((answer : Answer) × (answer.number ≡ number) × m.answers view answer) ⊎ ((line : List ℕ) × m.refuses view number line)

-- known files determine the status, whatever the calls
pub record Decides (m : Meaning) : Type 0 where
  pub answers : (told : Told) (calls : List Call) (answer : Answer) → m.answers (seen (Some told) calls) answer → m.answers (in_files told) answer
  pub refuses : (told : Told) (calls : List Call) (number : ℕ) (line : List ℕ) → m.refuses (seen (Some told) calls) number line
      → m.refuses (in_files told) number line
  pub one : (told : Told) (number other : ℕ) → IsSo m (in_files told) number → IsSo m (in_files told) other → number ≡ other

-- if the files are known, the status is the one that they determine, 6 and 7 aside
abbrev pub Exact : Meaning → Option Told → ℕ → Type 0
Exact m files number = (told : Told) → files ≡ Some told → (expected : ℕ) → IsSo m (in_files told) expected → (number ≡ expected)
    ⊎ ((number ≡ 6) ⊎ (number ≡ 7))
