-- a pattern by its number in a file
use Rattle.ta_automaton.proofs.Common.{◌≡◌, ℕ, ◌<◌, List, length, get_or, slice_get, Some, arith, sym, ap, ◌∙◌, refl, subst, Pattern, get_or_from_slice_get}
use Rattle.ta_automaton.proofs.Common.{slice_get_read, File}
use Rattle.ta_automaton.specs.Numbered.{OfPattern}

-- the pattern that a call reads is the pattern with its number
pub pattern_at : (file : File) (items : List Pattern) (k : ℕ) (p : Pattern) → items ≡ file.patterns → k < length file.patterns → p ≡ get_or items k p
    → slice_get file.patterns k ≡ Some p
pattern_at file items k p same within is = subst (λ (ps : List Pattern). slice_get ps k ≡ Some p) same
    (slice_get_read items (length items) k p refl (let e = ap length same in omega arith) is)

pub same_pattern : (file : File) (k : ℕ) (p q : Pattern) → slice_get file.patterns k ≡ Some p → slice_get file.patterns k ≡ Some q → p ≡ q
same_pattern file k p q at named = sym (get_or_from_slice_get file.patterns k p p at) ∙ get_or_from_slice_get file.patterns k q p named

pub of_pattern : (file : File) (k : ℕ) (p : Pattern) (P : Pattern → Type 0) → slice_get file.patterns k ≡ Some p → P p → OfPattern file k P
of_pattern file k p P at h = λ q named. subst P (same_pattern file k p q at named) h
