-- A run's text in front of others: the run is determined, and so is what stands behind it.
use Rattle.ta_replay.proofs.Common.{ℕ, ℤ, ◌≡◌, List, [], ◌∷◌, ◌++◌, map, refl, sym, ap, subst, ◌∙◌, Some, None, Option, append_assoc, codes, append_cancel_left}
use Rattle.ta_replay.proofs.Common.{AllByRecursion, each_append, each_front, avoids_known, first_byte, Automaton, Pattern, File, event_name, pattern_name}
use Rattle.ta_replay.proofs.Common.{name_of, Run, RunLine, Step, Mark, Fits, Slot, name_at, named_line, valued_line, parameter_slot, start_slot, slots}
use Rattle.ta_replay.proofs.Common.{value_lines, line_of, lines_of, run_lines, lines_text, run_text, Avoids, slice_get}
use Rattle.ta_replay.proofs.RunFacts.{IsNoEnd}
use Rattle.ta_replay.proofs.OneRun.{front_lines, front_no_end, front_whole, one_run, run_clear}

-- lines that end with their only end, and anything behind it
ended_same : (ms ls : List (List ℕ)) (x y : List ℕ) → AllByRecursion (Avoids 10) ms → AllByRecursion (Avoids 10) ls → AllByRecursion IsNoEnd ms
    → AllByRecursion IsNoEnd ls → lines_text (ms ++ (codes "end" ∷ [])) ++ x ≡ lines_text (ls ++ (codes "end" ∷ [])) ++ y → (ms ≡ ls) × (x ≡ y)
ended_same [] [] x y cm cl nm nl e = (refl, append_cancel_left (codes "end\n") x y e)
ended_same [] (l ∷ ls) x y cm cl nm nl e =
    let parts = first_byte 10 (codes "end") l x (lines_text (ls ++ (codes "end" ∷ [])) ++ y) (avoids_known 10 (codes "end") refl) cl.0
    (e ∙ append_assoc l (10 ∷ lines_text (ls ++ (codes "end" ∷ []))) y) in
    absurd (nl.0 (sym parts.0))
ended_same (m ∷ ms) [] x y cm cl nm nl e =
    let parts = first_byte 10 m (codes "end") (lines_text (ms ++ (codes "end" ∷ [])) ++ x) y cm.0 (avoids_known 10 (codes "end") refl)
    (sym (append_assoc m (10 ∷ lines_text (ms ++ (codes "end" ∷ []))) x) ∙ e) in
    absurd (nm.0 parts.0)
ended_same (m ∷ ms) (l ∷ ls) x y cm cl nm nl e =
    let parts = first_byte 10 m l (lines_text (ms ++ (codes "end" ∷ [])) ++ x) (lines_text (ls ++ (codes "end" ∷ [])) ++ y) cm.0 cl.0
    (sym (append_assoc m (10 ∷ lines_text (ms ++ (codes "end" ∷ []))) x) ∙ e ∙ append_assoc l (10 ∷ lines_text (ls ++ (codes "end" ∷ []))) y) in
    let rest = ended_same ms ls x y cm.1 cl.1 nm.1 nl.1 parts.1 in
    (ap (λ h. h ∷ ms) parts.0 ∙ ap (λ t. l ∷ t) rest.0, rest.1)

-- a run's text with anything behind it is that of one run
pub run_front : (file : File) (r s : Run) (x y : List ℕ) → Fits file r → Fits file s → run_text file r ++ x ≡ run_text file s ++ y → (r ≡ s) × (x ≡ y)
run_front file r s x y fits fit e =
    let end : List (List ℕ) = codes "end" ∷ [] in
    let first = front_lines file r fits in
    let second = front_lines file s fit in
    let whole = front_whole file r fits in
    let wholes = front_whole file s fit in
    let plain = each_front (Avoids 10) first end (subst (AllByRecursion (Avoids 10)) whole (run_clear file r fits)) in
    let clean = each_front (Avoids 10) second end (subst (AllByRecursion (Avoids 10)) wholes (run_clear file s fit)) in
    let parts = ended_same first second x y plain clean (front_no_end file r fits) (front_no_end file s fit)
    (sym (ap (λ ls. lines_text ls ++ x) whole) ∙ e ∙ ap (λ ls. lines_text ls ++ y) wholes) in
    let text : run_text file r ≡ run_text file s = ap lines_text (whole ∙ ap (λ ls. ls ++ end) parts.0 ∙ sym wholes) in
    (one_run file (run_text file r) s r record { fits = fit; text = text } record { fits = fits; text = refl }, parts.1)

-- a property of the lines of parameters, and of those behind them
each_valued : (Q : List ℕ → Type 0) (names : List (List ℕ)) (ss : List Slot) (vs : List ℤ)
    → ((name : List ℕ) (v : ℤ) → Q (valued_line (codes "parameter ") name v)) → ((ws : List ℤ) → AllByRecursion Q (value_lines ss ws))
    → AllByRecursion Q (value_lines (map parameter_slot names ++ ss) vs)
each_valued Q [] ss vs gives later = later vs
each_valued Q (x ∷ xs) ss [] gives later = tt
each_valued Q (x ∷ xs) ss (v ∷ vs) gives later = (gives x v, each_valued Q xs ss vs gives later)

each_step : (Q : List ℕ → Type 0) (a : Automaton) (p : Pattern) (lines : List RunLine) → ((l : RunLine) → Q (line_of a p l))
    → AllByRecursion Q (map (line_of a p) lines)
each_step Q a p [] gives = tt
each_step Q a p (l ∷ ls) gives = (gives l, each_step Q a p ls gives)

each_lines_of : (Q : List ℕ → Type 0) (a : Automaton) (found : Option Pattern) (lines : List RunLine) → ((p : Pattern) (l : RunLine) → Q (line_of a p l))
    → AllByRecursion Q (lines_of a found lines)
each_lines_of Q a None lines gives = tt
each_lines_of Q a (Some p) lines gives = each_step Q a p lines (gives p)

-- the lines of start counts, and those of steps and marks
each_start : (Q : List ℕ → Type 0) (a : Automaton) (locations : List ℕ) (vs : List ℤ) → ((name : List ℕ) (v : ℤ) → Q (valued_line (codes "start ") name v))
    → AllByRecursion Q (value_lines (map (start_slot a) locations) vs)
each_start Q a [] vs start = tt
each_start Q a (l ∷ ls) [] start = tt
each_start Q a (l ∷ ls) (v ∷ vs) start = (start (name_at a.locations l) v, each_start Q a ls vs start)

line_by : (Q : List ℕ → Type 0) (a : Automaton) (p : Pattern) (l : RunLine) → ((name : List ℕ) (v : ℤ) → Q (valued_line (codes "step ") name v))
    → ((name : List ℕ) → Q (named_line (codes "mark ") name)) → Q (line_of a p l)
line_by Q a p (Step rule factor) step mark = step (name_at (map name_of a.rules) rule) factor
line_by Q a p (Mark event) step mark = mark (name_at (map event_name p.events) event)

-- a property of all lines of a run, by the words that they begin with
pub each_run_line : (Q : List ℕ → Type 0) (file : File) (run : Run) → ((name : List ℕ) → Q (named_line (codes "run ") name))
    → ((name : List ℕ) (v : ℤ) → Q (valued_line (codes "parameter ") name v)) → ((name : List ℕ) (v : ℤ) → Q (valued_line (codes "start ") name v))
    → ((name : List ℕ) (v : ℤ) → Q (valued_line (codes "step ") name v)) → ((name : List ℕ) → Q (named_line (codes "mark ") name)) → Q (codes "end")
    → AllByRecursion Q (run_lines file run)
each_run_line Q file run head parameter start step mark end =
    let a = file.automaton in
    let found = slice_get file.patterns run.pattern in
    let values = each_valued Q a.parameters (map (start_slot a) a.initial) (run.parameters ++ run.counts) parameter (λ ws. each_start Q a a.initial ws start) in
    let listed = each_lines_of Q a found run.lines (λ p l. line_by Q a p l step mark) in
    let body = each_append Q (lines_of a found run.lines) (codes "end" ∷ []) listed (end, tt) in (
      head (name_at (map pattern_name file.patterns) run.pattern),
      each_append Q (value_lines (slots a) (run.parameters ++ run.counts))
          (lines_of a found run.lines ++ (codes "end" ∷ [])) values body,
    )
