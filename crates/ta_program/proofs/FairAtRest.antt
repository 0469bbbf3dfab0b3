-- A pattern that no run comes to rest with occurs for ever in no fair run without end
use Rattle.ta_program.proofs.Common.{Option, None, ◌≡◌, ℕ, List, [], ◌∷◌, Some, refl, inl, inr, slice_get, File, Pattern, RestSafe}
use Rattle.ta_syntax.specs.declared.fault.FileFault.{FileFault}
use Rattle.ta_syntax.specs.declared.fault.FileFault.TheVariants as fault
use Rattle.ta_automaton.specs.Runs.{InScope}
use Rattle.ta_scope.specs.Faults as scope
use Rattle.ta_scope.specs.LongerCycles.{LoopsAlone}
use Rattle.ta_scope.proofs.ScopeAnswers.{scope_answers}
use Rattle.ta_meaning.specs.Faults.{meaning_faults}
use Rattle.ta_base.specs.declared.limits.Limits.{Limits}
use Rattle.ta_meaning.specs.Reading.{Legal}
use Rattle.ta_rest.proofs.QuietResting.{rest_safe_is}
use Rattle.ta_rest.specs.Fair.{FairlySafe}
use Rattle.ta_rest.specs.Quiet.{QuietRestSafe}
use Rattle.ta_program.specs.SilentNames.{FairlySafeBut, RestSafeBut}
use Rattle.ta_rest.proofs.Coming.{fair_files_rest}

-- it isn't so that a legal file's automaton is out of scope
legal_in_scope : (l : Limits) (bytes : List ℕ) (file : File) → Legal l bytes file → ¬ InScope file.automaton → ⊥
legal_in_scope l bytes file legal out = by (meaning_faults l legal.means.tree) refl
  where
    by : (faults : List FileFault) → meaning_faults l legal.means.tree ≡ faults → ⊥
    by (e ∷ later) same = legal.no_fault e (inr (inl (record { tree = legal.means.tree; is_tree = legal.means.is_tree; later = later; first = same })))
    by [] none =
        scope_answers file.automaton out
        (λ (w : (number : ℕ) × scope.FirstRuleFault file.automaton number). legal.no_fault (fault.CycleUpdates w.0)
        (inr (inr (record {
          tree = legal.means.tree;
          is_tree = legal.means.is_tree;
          none_of_meaning = none;
          file = file;
          means = legal.means.means;
          fault =
              w.1;
        }))))

fair_quietly : (l : Limits) (bytes : List ℕ) (file : File) → Legal l bytes file → LoopsAlone file.automaton → (k : ℕ) (p : Pattern)
    → slice_get file.patterns k ≡ Some p
    → (silent : List ℕ) → QuietRestSafe file.automaton silent p → FairlySafe file.automaton silent p
fair_quietly l bytes file legal loops k p named silent safe run occurs =
    legal_in_scope l bytes file legal (λ scope. (fair_files_rest file scope loops k p named silent).0 safe run occurs)

pub fair_at_rest : (l : Limits) (bytes : List ℕ) (file : File) → Legal l bytes file → LoopsAlone file.automaton → (k : ℕ) (p : Pattern)
    → slice_get file.patterns k ≡ Some p
    → RestSafe file.automaton p → FairlySafe file.automaton [] p
fair_at_rest l bytes file legal loops k p named safe = fair_quietly l bytes file legal loops k p named [] ((rest_safe_is file.automaton p).0 safe)

-- the same with the names that are given
pub fair_but : (l : Limits) (bytes : List ℕ) (file : File) → Legal l bytes file → LoopsAlone file.automaton → (k : ℕ) (p : Pattern)
    → slice_get file.patterns k ≡ Some p
    → (names : Option (List ℕ)) → RestSafeBut names file.automaton p → FairlySafeBut names file.automaton p
fair_but l bytes file legal loops k p named None safe = fair_at_rest l bytes file legal loops k p named safe
fair_but l bytes file legal loops k p named (Some names) safe = (safe.0, safe.1, fair_quietly l bytes file legal loops k p named safe.0 safe.2)
