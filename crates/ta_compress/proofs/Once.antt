-- A run is refused in one way.
use Rattle.ta_compress.proofs.Common.{◌≡◌, inl, inr, ℕ, ◌<◌, ℤ, List, arith, refl, sym, ap, ◌∙◌, subst, fun_ext, cases_order, point_of, Automaton, File}
use Rattle.ta_compress.proofs.Common.{GuardsStay, StartsAt, Run, Fits, run_line_number, CompressFault, Replay, TooManySteps, Memory, CompressFaultOf}
use Rattle.ta_compress.proofs.Common.{GuardsOutOfRangeAt, GuardsOutOfRangeFirstIn}
use Rattle.std.specs.Prelude.{◌≢◌}
use Rattle.ta_replay.specs.declared.fault.RunFault.TheVariants as runs
use Rattle.ta_replay.proofs.OneRefusal.{one_refusal}
use Rattle.ta_compress.specs.Determined.{CompressFaultsAreDetermined}
use Rattle.ta_compress.proofs.Excluding.{leaves_same, only_memory, same_start}

-- a run has one list of values to start with
abbrev OneStart : Automaton → Run → Type 0
OneStart a run = (v w : List ℤ) → StartsAt a run.parameters run.counts v → StartsAt a run.parameters run.counts w → (i : ℕ) → point_of v i ≡ point_of w i

-- no line before the first one is such
not_before : (a : Automaton) (run : Run) (i j : ℕ) → OneStart a run → GuardsOutOfRangeFirstIn a run i → GuardsOutOfRangeFirstIn a run j → i < j → ⊥
not_before a run i j one s t less = t.before i less (leaves_same a s.first t.first run.lines i (one s.first t.first s.starts t.starts) s.leaves)

first_once : (a : Automaton) (run : Run) (i j : ℕ) → OneStart a run → GuardsOutOfRangeFirstIn a run i → GuardsOutOfRangeFirstIn a run j → i ≡ j
first_once a run i j one s t = elim (cases_order i j) [
  | inl same ↦ same
  | inr other ↦ elim other [ inl less ↦ absurd (not_before a run i j one s t less) | inr more ↦ absurd (not_before a run j i one t s more) ]
]

-- the guards leave the range at one line
leave_once : (a : Automaton) (run : Run) (m n : ℕ) → OneStart a run → GuardsOutOfRangeAt a run m → GuardsOutOfRangeAt a run n → m ≡ n
leave_once a run m n one (inl s) (inl t) = s.0 ∙ sym t.0
leave_once a run m n one (inl s) (inr t) = absurd (s.1.leaves (subst (GuardsStay a) (fun_ext (one t.2.first s.1.first t.2.starts s.1.starts)) t.2.at_start))
leave_once a run m n one (inr s) (inl t) = absurd (t.1.leaves (subst (GuardsStay a) (fun_ext (one s.2.first t.1.first s.2.starts t.1.starts)) s.2.at_start))
leave_once a run m n one (inr s) (inr t) = s.1 ∙ ap (run_line_number a) (first_once a run s.0 t.0 one s.2 t.2) ∙ sym t.1

one_way : (file : File) (run : Run) (e f : CompressFault) → e ≢ Memory → f ≢ Memory → Fits file run → CompressFaultOf file run e → CompressFaultOf file run f
    → e ≡ f
one_way file run (Replay d) (Replay g) some other fits (inl r) (inl s) = ap Replay (one_refusal file run d g fits r.first s.first)
one_way file run (Replay d) (Replay g) some other fits (inl r) (inr s) = absurd (r.not_replayed s.replayed)
one_way file run (Replay d) (Replay g) some other fits (inr r) (inl s) = absurd (s.not_replayed r.replayed)
one_way file run (Replay d) (Replay g) some other fits (inr r) (inr s) =
    let one = same_start file run fits (record { replayed = r.replayed; few = r.few }) in
    ap Replay (r.is ∙ ap runs.Overflow (leave_once file.automaton run r.line s.line one r.leaves s.leaves) ∙ sym s.is)
one_way file run (Replay d) (TooManySteps n) some other fits (inl r) s = absurd (r.not_replayed s.replayed)
one_way file run (Replay d) (TooManySteps n) some other fits (inr r) s = absurd (let few = r.few in let many = s.many in omega arith)
one_way file run (TooManySteps n) (Replay g) some other fits r (inl s) = absurd (s.not_replayed r.replayed)
one_way file run (TooManySteps n) (Replay g) some other fits r (inr s) = absurd (let many = r.many in let few = s.few in omega arith)
one_way file run (TooManySteps n) (TooManySteps m) some other fits r s = ap TooManySteps (r.sum ∙ sym s.sum)
one_way file run (Replay d) Memory some other fits r s = absurd (other refl)
one_way file run (TooManySteps n) Memory some other fits r s = absurd (other refl)
one_way file run Memory f some other fits r s = absurd (some refl)

pub refusals_once : CompressFaultsAreDetermined
refusals_once = record { one = one_way; none = λ file run e some fits able found. some (only_memory file run e fits able found) }
