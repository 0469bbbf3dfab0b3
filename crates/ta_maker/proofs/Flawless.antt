-- Each automaton of the family is legal, and its pattern occurs in no run.
use Rattle.ta_maker.proofs.Common.{◌≡◌, ℕ, true, Bool, List, length, refl, sym, subst, inl, inr, IsFamilyNumber, File, narrow, family, MeansTree, PlainTree}
use Rattle.ta_maker.proofs.Common.{plain_tree, FileFault, Tree}
use Rattle.std.specs.Fmt.{digits}
use Rattle.std.proofs.Common.{leb, leb-true}
use Rattle.ta_maker.proofs.FamilySafe.{family_safe, no_cycle, one_pattern}
use Rattle.ta_maker.proofs.FamilyTrees.{family_legal, family_within}
use Rattle.ta_maker.proofs.FineTrees.{fine_tree, no_faults}
use Rattle.ta_maker.proofs.Naming.{of_each}
use Rattle.ta_maker.specs.FamilyLaws.{FamilyIsFlawless}
use Rattle.ta_meaning.specs.FirstFault.{FirstFault, OfText, OfMeaning, OfScope, ScopeFault}
use Rattle.ta_syntax.proofs.NoFault.{no_fault, tree_alone}
use Rattle.ta_syntax.specs.Grammar.{file_kinds}
use Rattle.ta_syntax.specs.Printed.{printed}
use Rattle.ta_syntax.specs.TokenLaws.{PrintedHasTokens, TreesAreLegal}
use Rattle.ta_syntax.specs.TreeOf.{IsTextOf, IsTreeOf}
use Rattle.ta_syntax.specs.Faults as syntax
use Rattle.ta_syntax.specs.declared.fault.FileFault.TheVariants as fault

-- ---- by evaluation, for each number
family_fine : (k : ℕ) → IsFamilyNumber k → fine_tree (family k) ≡ true
unfolding digits
family_fine k is = of_each (λ j. fine_tree (family j) ≡ true) refl refl refl refl refl refl refl k is

abbrev is_short : ℕ → Bool
is_short k = leb (length (printed (file_kinds (family k)))) 1048576

family_short : (k : ℕ) → IsFamilyNumber k → is_short k ≡ true
unfolding digits
family_short k is = of_each (λ j. is_short j ≡ true) refl refl refl refl refl refl refl k is

-- ---- the text has a tree and no error
text_of : PrintedHasTokens → TreesAreLegal → (k : ℕ) → IsFamilyNumber k → IsTextOf (printed (file_kinds (family k))) (family k)
text_of tokens trees k is =
    let legal = family_legal k is in
    let p = tokens (file_kinds (family k)) (trees (family k) legal) in
    record { tokens = p.0; are = p.1; spelled = p.2; legal = legal }

none_of_text : (bytes : List ℕ) (e : FileFault) → (syntax.FirstGrammarFault narrow bytes e → e ≡ fault.Memory) → OfText narrow bytes e → ⊥
none_of_text bytes fault.Memory only h = h
none_of_text bytes (fault.Byte at) only h = let e = only h in absurd (cc)
none_of_text bytes (fault.Syntax at) only h = let e = only h in absurd (cc)
none_of_text bytes (fault.TooDeep at) only h = let e = only h in absurd (cc)
none_of_text bytes (fault.TooMany at) only h = let e = only h in absurd (cc)
none_of_text bytes _ only h = h

none_of_meaning : (k : ℕ) → IsFamilyNumber k → IsTextOf (printed (file_kinds (family k))) (family k) → (e : FileFault)
    → OfMeaning narrow (printed (file_kinds (family k))) e → ⊥
none_of_meaning k is text e h =
    let same = tree_alone narrow (printed (file_kinds (family k))) h.tree (family k) h.is_tree text in
    let none = no_faults h.tree (subst (λ (t : PlainTree). fine_tree t ≡ true) same (family_fine k is)) in
    let first = h.first in
    absurd (cc)

meant : (k : ℕ) → IsTextOf (printed (file_kinds (family k))) (family k) → (tree : Tree) → IsTreeOf narrow (printed (file_kinds (family k))) tree → (file : File)
    → MeansTree (plain_tree tree) file → MeansTree (family k) file
meant k text tree is file means = subst (λ (t : PlainTree). MeansTree t file) (sym (tree_alone narrow (printed (file_kinds (family k))) tree
    (family k) is text)) means

no_scope_fault : (k : ℕ) (file : File) (e : FileFault) → MeansTree (family k) file → ScopeFault file.automaton e → ⊥
no_scope_fault k file (fault.CycleUpdates r) means h = no_cycle k file.automaton means.automaton r h
no_scope_fault k file _ means h = h

none_of_scope : (k : ℕ) → IsTextOf (printed (file_kinds (family k))) (family k) → (e : FileFault) → OfScope narrow (printed (file_kinds (family k))) e → ⊥
none_of_scope k text e h = no_scope_fault k h.file e (meant k text h.tree h.is_tree h.file h.means) h.fault

no_first : (k : ℕ) → IsFamilyNumber k → IsTextOf (printed (file_kinds (family k))) (family k) → (e : FileFault)
    → FirstFault narrow (printed (file_kinds (family k))) e
    → ⊥
no_first k is text e (inl h) = none_of_text (printed (file_kinds (family k))) e
    (no_fault narrow (printed (file_kinds (family k))) (family k) e text (family_within k is)) h
no_first k is text e (inr (inl h)) = none_of_meaning k is text e h
no_first k is text e (inr (inr h)) = none_of_scope k text e h

pub flawless : PrintedHasTokens → TreesAreLegal → FamilyIsFlawless
flawless tokens trees k is =
    let text = text_of tokens trees k is in
    record {
      short = leb-true (length (printed (file_kinds (family k)))) 1048576 (family_short k is);
      no_fault = no_first k is text;
      one = λ file means. one_pattern k file.patterns (meant k text means.tree means.is_tree file means.means).patterns;
      safe = λ file means. family_safe k is file (meant k text means.tree means.is_tree file means.means);
    }
