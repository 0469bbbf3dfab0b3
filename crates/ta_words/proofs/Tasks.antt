-- what holds of a pattern that was looked up holds of the file's pattern of its number
use Rattle.ta_words.proofs.Common.{◌≡◌, ℕ, slice_get, Some, sym, subst, Automaton, Pattern, of_pattern, NarrowTask}
use Rattle.ta_automaton.specs.Numbered.{OfPattern}
use Rattle.ta_automaton.specs.declared.file.File.{File}

pub of_task : (file : File) (k : ℕ) (t : NarrowTask) (P : Automaton → Pattern → Type 0) → t.automaton.now ≡ file.automaton
    → slice_get file.patterns k ≡ Some t.pattern.now → P t.automaton.now t.pattern.now → OfPattern file k (λ p. P file.automaton p)
of_task file k t P same named h = of_pattern file k t.pattern.now (P file.automaton) named (subst (λ (a : Automaton). P a t.pattern.now) same h)

pub to_task : (file : File) (k : ℕ) (t : NarrowTask) (P : Automaton → Pattern → Type 0) → t.automaton.now ≡ file.automaton
    → slice_get file.patterns k ≡ Some t.pattern.now → OfPattern file k (λ p. P file.automaton p) → P t.automaton.now t.pattern.now
to_task file k t P same named h = subst (λ (a : Automaton). P a t.pattern.now) (sym same) (h t.pattern.now named)
