-- what `export` and `admit` say grows with what is seen, and known files leave one number
use Rattle.ta_base.specs.LimitRows.{narrow}
use Rattle.ta_program.proofs.Common.{◌≡◌, ◌∙◌, ℕ, List, [], Option, Some, Err, refl, sym, subst, inl, inr, arith, File, run_text, Told, Decides, IsSo, Meaning}
use Rattle.ta_program.proofs.Common.{Says, ReadCause, View, in_files, Writes, finds, replies, Refusal, Refused, ReadFailed, PutFailed, Memory, after_monotone}
use Rattle.ta_program.proofs.Common.{finds_memory, finds_monotone, finds_one, finds_wrong, one_number, replies_monotone, replies_one, Monotone, WordFault}
use Rattle.ta_program.proofs.Common.{IsWholeWordOf, IsWordOf, Spelling, WholeFaultOf, WordFaultOf, whole_exact, words_exact, AdmitAsked, admit_meaning}
use Rattle.ta_program.proofs.Common.{run_meaning, values_kind, values_meaning, Passes, SaysSystem, WordHinders, export_meaning, system_meaning, WordRefused}
use Rattle.ta_program.proofs.Common.{WordAsked, AskedWord as Word}
use Rattle.ta_program.proofs.Meanings.{file_decides, file_passes, second_passes}

-- where what is looked for hinders with 4, and what comes then is never refused with 3
finds_passes : {A : Type 0} (Is : A → Type 0) (Wrong : ℕ → List ℕ → Type 0) (rest : A → Meaning)
    → ((number : ℕ) (line : List ℕ) → Wrong number line → number ≡ 4) → ((value : A) (view : View) (line : List ℕ) → ¬ (rest value).refuses view 3 line)
    → (view : View) (line : List ℕ) → ¬ (finds Is Wrong [] rest).refuses view 3 line
finds_passes Is Wrong rest four never view line refuses = elim refuses [
  | inl own ↦ let numbered = four 3 line own in absurd (omega (arith, numbered))
  | inr r ↦ never r.0 view line r.2
]

pub system_monotone : (name : List ℕ) (spelled : Spelling) (file : File) → Monotone (system_meaning name spelled file)
system_monotone name spelled file =
    finds_monotone (IsWordOf file spelled) (WordHinders (WordFaultOf file spelled) name) [] (λ word. replies [] (SaysSystem file word))
    (λ word. replies_monotone [] (SaysSystem file word))

system_one : (name : List ℕ) (spelled : Spelling) (file : File) (told : Told) (number other : ℕ)
    → IsSo (system_meaning name spelled file) (in_files told) number → IsSo (system_meaning name spelled file) (in_files told) other → number ≡ other
system_one name spelled file told =
    finds_one (IsWordOf file spelled) (WordHinders (WordFaultOf file spelled) name) [] (λ word. replies [] (SaysSystem file word)) (in_files told)
    (λ number other line words h k. h.numbered ∙ sym k.numbered)
    (λ word number line is h. (words_exact file spelled word is).0 h.found h.is)
    (λ v w is are. replies_one [] (SaysSystem file v) (SaysSystem file w) (in_files told) (λ a b x y. x.writes.numbered ∙ sym y.writes.numbered))

pub export_decides : (asked : WordAsked) → Decides (export_meaning asked)
export_decides asked = file_decides narrow asked.file [] (system_meaning asked.file asked.word) (system_monotone asked.file asked.word)
    (system_one asked.file asked.word)

pub export_passes : (asked : WordAsked) → Passes (Some (asked.file, narrow)) (export_meaning asked)
export_passes asked =
    file_passes narrow asked.file [] (system_meaning asked.file asked.word) (system_monotone asked.file asked.word)
    (λ file told. finds_passes (IsWordOf file asked.word) (WordHinders (WordFaultOf file asked.word) asked.file) (λ word. replies [] (SaysSystem file word))
    (λ number line h. h.numbered) (λ word view line none. none) (in_files told))

pub values_monotone : (values : List ℕ) (file : File) (word : Word) → Monotone (values_meaning values file word)
values_monotone values file word =
    after_monotone (values_kind file word) values [] (λ run. replies [] (Writes 0 (run_text file run)))
    (λ run. replies_monotone [] (Writes 0 (run_text file run)))

values_one : (values : List ℕ) (file : File) (word : Word) (told : Told) (number other : ℕ) → IsSo (values_meaning values file word) (in_files told) number
    → IsSo (values_meaning values file word) (in_files told) other → number ≡ other
values_one values file word told =
    one_number (values_kind file word) values [] (λ run. replies [] (Writes 0 (run_text file run))) (λ run. replies_monotone [] (Writes 0 (run_text file run)))
    told
    (λ bytes run fault admits found. found.gives_no_run run admits)
    (λ bytes v w m n. replies_one [] (Writes 0 (run_text file v)) (Writes 0 (run_text file w)) (in_files told) (λ a b x y. x.numbered ∙ sym y.numbered))

pub run_monotone : (name : List ℕ) (spelled : Spelling) (values : List ℕ) (file : File) → Monotone (run_meaning name spelled values file)
run_monotone name spelled values file =
    finds_monotone (IsWholeWordOf file spelled) (WordHinders (WholeFaultOf file spelled) name) [] (values_meaning values file) (values_monotone values file)

run_one : (name : List ℕ) (spelled : Spelling) (values : List ℕ) (file : File) (told : Told) (number other : ℕ)
    → IsSo (run_meaning name spelled values file) (in_files told) number → IsSo (run_meaning name spelled values file) (in_files told) other → number ≡ other
run_one name spelled values file told =
    finds_one (IsWholeWordOf file spelled) (WordHinders (WholeFaultOf file spelled) name) [] (values_meaning values file) (in_files told)
    (λ number other line words h k. h.numbered ∙ sym k.numbered)
    (λ word number line is h. whole_exact file spelled word is h.found h.is)
    (λ v w is are number other so so'.
    values_one values file v told number other so
    (subst (λ (x : Word). IsSo (values_meaning values file x) (in_files told) other) ((words_exact file spelled v is.is).1 w are.is) so'))

pub admit_decides : (all : AdmitAsked) → Decides (admit_meaning all)
admit_decides all =
    file_decides narrow all.asked.file [] (run_meaning all.asked.file all.asked.word all.values) (run_monotone all.asked.file all.asked.word all.values)
    (run_one all.asked.file all.asked.word all.values)

pub admit_passes : (all : AdmitAsked) → Passes (Some (all.asked.file, narrow)) (admit_meaning all)
admit_passes all =
    file_passes narrow all.asked.file [] (run_meaning all.asked.file all.asked.word all.values) (run_monotone all.asked.file all.asked.word all.values)
    (λ file told. finds_passes (IsWholeWordOf file all.asked.word) (WordHinders (WholeFaultOf file all.asked.word) all.asked.file)
    (values_meaning all.values file) (λ number line h. h.numbered)
    (λ word. second_passes (values_kind file word) all.values (λ run. replies [] (Writes 0 (run_text file run))) refl (λ run view line none. none))
    (in_files told))

-- a file that hasn't the word is told of, and nothing is read
module _ {A : Type 0} (Is : A → Type 0) (Of : WordFault → Type 0) (name : List ℕ) (rest : A → Meaning) where
  pub word_refused : (files : Option Told) (refusal : Refusal) → WordRefused Of name refusal
      → Says (finds Is (WordHinders Of name) [] rest) files (Err refusal) []
  word_refused files (Refused number who why) h = let numbered = h.numbered in finds_wrong Is (WordHinders Of name) [] rest files number who why
      (omega (arith, numbered)) (omega (arith, numbered)) h
  word_refused files (ReadFailed who) h = absurd h
  word_refused files (PutFailed who) h = absurd h
  word_refused files Memory h = finds_memory Is (WordHinders Of name) [] rest files

pub word_cause : (T : Type 0) (Of : WordFault → Type 0) (name : List ℕ) (refusal : Refusal) (count : ℕ) → WordRefused Of name refusal
    → ReadCause {T = T} (Err refusal) count count
word_cause T Of name (Refused number who why) count h = refl
word_cause T Of name (ReadFailed who) count h = absurd h
word_cause T Of name (PutFailed who) count h = absurd h
word_cause T Of name Memory count h = refl
