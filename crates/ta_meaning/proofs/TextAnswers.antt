-- A text is a legal file, or has a first error.
use Rattle.ta_meaning.proofs.Common.{Limits, ◌≡◌, ◌≢◌, ℕ, ◌≤◌, List, [], ◌∷◌, length, inl, inr, refl, IsTreeOf, Tree, FileFault, InScope, meaning_faults}
use Rattle.ta_meaning.proofs.Common.{OfText}
use Rattle.ta_syntax.specs.AnswerLaws.{Either, HasTree, HasGrammarFault}
use Rattle.ta_syntax.proofs.TextTrees.{texts_have_trees}
use Rattle.ta_scope.proofs.ScopeAnswers.{scope_answers}
use Rattle.ta_meaning.specs.Answers.{HasFile, HasFault}
use Rattle.ta_meaning.proofs.OneReading.{is-legal}
use Rattle.ta_meaning.proofs.MadeFiles.{file_exists}
use Rattle.ta_syntax.specs.Faults as syntax
use Rattle.ta_syntax.specs.declared.fault.FileFault.TheVariants as fault
use Rattle.ta_scope.specs.Faults as scope

of_text : (l : Limits) (bytes : List ℕ) (e : FileFault) → e ≢ fault.Memory → syntax.FirstGrammarFault l bytes e → OfText l bytes e
of_text l bytes fault.Memory some f = absurd (some refl)
of_text l bytes _ some f = f

-- a tree whose meaning has these errors
by_meaning : (l : Limits) (bytes : List ℕ) (t : Tree) (faults : List FileFault) → IsTreeOf l bytes t → meaning_faults l t ≡ faults
    → Either (HasFile l bytes) (HasFault l bytes)
by_meaning l bytes t (e ∷ later) is same no_file no_fault = no_fault (e, inr (inl (record { tree = t; is_tree = is; later = later; first = same })))
by_meaning l bytes t [] is none no_file no_fault =
    let f = file_exists l t none in
    scope_answers f.0.automaton
    (λ (within : InScope f.0.automaton). no_file (f.0, is-legal l bytes t f.0 (record { file = f.0; in_scope = within }) is none f.1 refl))
    (λ (w : (number : ℕ) × scope.FirstRuleFault f.0.automaton number). no_fault
    (fault.CycleUpdates w.0, inr (inr (record { tree = t; is_tree = is; none_of_meaning = none; file = f.0; means = f.1; fault = w.1 }))))

pub texts_have_answers : (l : Limits) (bytes : List ℕ) → length bytes ≤ 4194304 → Either (HasFile l bytes) (HasFault l bytes)
texts_have_answers l bytes small no_file no_fault =
    texts_have_trees l bytes small
    (λ (h : HasTree l bytes). by_meaning l bytes h.0 (meaning_faults l h.0) h.1 refl no_file no_fault)
    (λ (h : HasGrammarFault l bytes). no_fault (h.0, inl (of_text l bytes h.0 h.1 h.2)))
