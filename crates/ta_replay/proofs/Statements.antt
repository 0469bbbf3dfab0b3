-- Steps and marks, and what is none.
use Rattle.ta_replay.proofs.Common.{ℕ, ℤ, zero, suc, pos, ◌<◌, ◌≡◌, ◌≤ℤ◌, eqb, List, [], ◌∷◌, length, map, get_or, refl, sym, ap, subst, ◌∙◌, Some, None}
use Rattle.ta_replay.proofs.Common.{Option, inl, inr, arith, codes, length-map, AllByRecursion, natural_of, differ, Automaton, Pattern, Name, name_of}
use Rattle.ta_replay.proofs.Common.{RuleWithin, RunLine, Step, Mark, LineFits, name_at, valued_line, line_of, IsNamedLine, IsValued, FormFor, IsWord, NoNameOf}
use Rattle.ta_replay.proofs.Common.{IsStatement}
use Rattle.ta_replay.proofs.Forms.{valued_same}

-- a name of a file is a word
pub word_of : (name : List ℕ) → Name name → IsWord name
word_of name is = record { first = is.spelled.first; each = is.spelled.each }

-- names of items are words
pub words_at : {X : Type 0} (f : X → List ℕ) (P : X → Type 0) (xs : List X) (i : ℕ) → ((x : X) → P x → IsWord (f x)) → AllByRecursion P xs → i < length xs
    → IsWord (name_at (map f xs) i)
words_at f P [] i words each within = absurd (omega arith)
words_at f P (x ∷ xs) zero words each within = words x each.0
words_at f P (x ∷ xs) (suc i) words each within = words_at f P xs i words each.1 (omega arith)

-- the name of a rule is a word
pub rule_word : (a : Automaton) (rule : ℕ) → rule < length a.rules → IsWord (name_at (map name_of a.rules) rule)
rule_word a rule within = words_at name_of (RuleWithin (length a.shared) (length a.locations) (length a.rise) (length a.fall)) a.rules rule
    (λ r is. word_of r.name is.name) a.shape.rules_within within

-- the line of a step has that form
pub step_form : (a : Automaton) (p : Pattern) (rule : ℕ) (factor : ℤ) (line : List ℕ) → LineFits a p (Step rule factor) → line ≡ line_of a p (Step rule factor)
    → IsValued (codes "step ") line (name_at (map name_of a.rules) rule) factor
step_form a p rule factor line fits e = record
    { spelled = rule_word a rule fits.0; number = record { natural = natural_of factor fits.1; fits = fits.2 }; text = e }

-- a step of factor 0 has no form
pub no_factor : (line name : List ℕ) (factor : ℤ) → IsValued (codes "step ") line name factor → (pos 1 ≤ℤ factor → ⊥)
    → ((other : List ℕ) → IsNamedLine (codes "mark ") line other → ⊥) → (line ≡ codes "end" → ⊥) → FormFor None line → ⊥
no_factor line name factor is low mark end (inl (other, z, are, some)) = let same = (valued_same (codes "step ") line other name z factor are is).1 in low
    (subst (λ y. pos 1 ≤ℤ y) same some)
no_factor line name factor is low mark end (inr (inl (other, named))) = mark other named
no_factor line name factor is low mark end (inr (inr e)) = end e

-- no rule has the name of the step
pub no_rule : (a : Automaton) (p : Pattern) (line name : List ℕ) (factor : ℤ) → IsValued (codes "step ") line name factor → NoNameOf (map name_of a.rules) name
    → (found : Option RunLine) → IsStatement a p line found → ⊥
no_rule a p line name factor is none None e = differ 0 (codes "end") line (ap (λ l. eqb 101 (get_or l 0 0)) is.text) (sym e)
no_rule a p line name factor is none (Some (Step rule z)) e =
    let form = step_form a p rule z line e.0 e.1 in
    let same = valued_same (codes "step ") line (name_at (map name_of a.rules) rule) name z factor form is in
    let within = e.0.0 in
    none rule record { exists = omega (arith, length-map a.rules name_of); named = same.0 }
no_rule a p line name factor is none (Some (Mark event)) e = differ 0 (line_of a p (Mark event)) (valued_line (codes "step ") name factor) refl
    (sym e.1 ∙ is.text)
