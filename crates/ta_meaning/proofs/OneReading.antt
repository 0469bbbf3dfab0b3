-- What is read of a text: the file that it means if there is no error, or its first error.
use Rattle.ta_meaning.proofs.Common.{Limits, ◌≡◌, ℕ, List, [], ◌⊎◌, inl, inr, ⊎_elim, refl, sym, subst, plain_tree, IsTreeOf, Tree, FileFault, InScope}
use Rattle.ta_meaning.proofs.Common.{Automaton, File, MeansTree, Means, meaning_faults, FirstOrMemory, OfText, OfMeaning, OfScope, FirstFault, Legal}
use Rattle.ta_meaning.proofs.Common.{file_fault}
use Rattle.ta_scope.specs.declared.fault.ScopeFault.{ScopeFault}
use Rattle.ta_scope.specs.declared.scoped.ScopedFile.{ScopedFile}
use Rattle.ta_scope.proofs.Judging.{fault_out}
use Rattle.ta_meaning.proofs.OneTree.{one_meaning, no_text_fault, one_meant}
use Rattle.ta_syntax.specs.declared.fault.FileFault.TheVariants as fault
use Rattle.ta_scope.specs.Faults as scope
use Rattle.ta_scope.specs.declared.fault.ScopeFault.TheVariants as scope_fault
use Rattle.ta_meaning.specs.FirstFault as first

-- ---- the first error

pub meaning-fault : (l : Limits) (bytes : List ℕ) (t : Tree) (e : FileFault) → IsTreeOf l bytes t → FirstOrMemory (meaning_faults l t) e → (e ≡ fault.Memory)
    ⊎ FirstFault l bytes e
meaning-fault l bytes t e is (inl m) = inl m
meaning-fault l bytes t e is (inr h) = inr (inr (inl (record { tree = t; is_tree = is; later = h.0; first = h.1 })))

of_scope : (a : Automaton) (f : ScopeFault) → scope.ScopeFaultOf a f → (file_fault f ≡ fault.Memory) ⊎ first.ScopeFault a (file_fault f)
of_scope a (scope_fault.CycleUpdates r) h = inr h
of_scope a scope_fault.Memory h = inl refl

pub scope-fault : (l : Limits) (bytes : List ℕ) (t : Tree) (file : File) (f : ScopeFault) → IsTreeOf l bytes t → meaning_faults l t ≡ []
    → MeansTree (plain_tree t) file
    → scope.ScopeFaultOf file.automaton f → (file_fault f ≡ fault.Memory) ⊎ FirstFault l bytes (file_fault f)
scope-fault l bytes t file f is none means h =
    ⊎_elim (λ (m : file_fault f ≡ fault.Memory). inl m)
    (λ (s : first.ScopeFault file.automaton (file_fault f)). inr
    (inr (inr (record { tree = t; is_tree = is; none_of_meaning = none; file = file; means = means; fault = s }))))
    (of_scope file.automaton f h)

-- ---- no error

pub no-text : (l : Limits) (bytes : List ℕ) (t : Tree) (e : FileFault) → IsTreeOf l bytes t → OfText l bytes e → ⊥
no-text l bytes t fault.Memory is f = f
no-text l bytes t e is f = let m = no_text_fault l bytes t e is f in cc

pub no-meaning : (l : Limits) (bytes : List ℕ) (t : Tree) (e : FileFault) → IsTreeOf l bytes t → meaning_faults l t ≡ [] → OfMeaning l bytes e → ⊥
no-meaning l bytes t e is none f = let same = one_meaning l bytes t f.tree is f.is_tree in let there = f.first in cc

in-scope : (a : Automaton) (e : FileFault) → first.ScopeFault a e → ¬ InScope a
in-scope a (fault.CycleUpdates r) f = fault_out a r f.rule f.named f.at_fault
in-scope a _ f = absurd f

no-scope : (l : Limits) (bytes : List ℕ) (file : File) (e : FileFault) → Means l bytes file → InScope file.automaton → OfScope l bytes e → ⊥
no-scope l bytes file e means scoped f =
    let other : Means l bytes f.file = record { tree = f.tree; is_tree = f.is_tree; means = f.means } in
    in-scope f.file.automaton e f.fault (subst (λ (z : File). InScope z.automaton) (one_meant l bytes file f.file means other) scoped)

-- a text without an error of meaning, whose file is in scope, has no error
pub is-legal : (l : Limits) (bytes : List ℕ) (t : Tree) (file : File) (scoped : ScopedFile) → IsTreeOf l bytes t → meaning_faults l t ≡ []
    → MeansTree (plain_tree t) file
    → scoped.file ≡ file → Legal l bytes scoped.file
is-legal l bytes t file scoped is none means e =
    let right : Means l bytes scoped.file = record { tree = t; is_tree = is; means = subst (λ (z : File). MeansTree (plain_tree t) z) (sym e) means } in
    record {
      means = right;
      no_fault = λ f. ⊎_elim (no-text l bytes t f is) (⊎_elim (no-meaning l bytes t f is none) (no-scope l bytes scoped.file f right scoped.in_scope));
    }
