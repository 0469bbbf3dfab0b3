-- What the whole of a text says.
use Rattle.ta_replay.proofs.Common.{ℕ, ℤ, ◌+◌, ◌≡◌, List, [], ◌∷◌, ◌++◌, length, map, refl, sym, ap, ◌∙◌, Some, append_assoc, append-nil, codes, length-map}
use Rattle.ta_replay.proofs.Common.{Pattern, File, Run, RunLine, RunFault, parameter_slot, start_slot, parameter_slots, start_slots, slots, value_lines}
use Rattle.ta_replay.proofs.Common.{line_of, head_line, lines_text, IsRunText, TextFault, HeadRead, ValuesRead, ValuesFault, StepsRead, StepsFault, slice_get}
use Rattle.ta_replay.proofs.ListSteps.{read_more}
use Rattle.ta_replay.proofs.ValueLines.{values_left, values_right, values_both}
use Rattle.ta_replay.proofs.RunFacts.{run_lines_are}
use Rattle.ta_replay.proofs.Fronts.{values_fault, steps_fault, at_steps}

-- the whole text is read
pub whole_read : (file : File) (bytes r1 r2 r3 : List ℕ) (k : ℕ) (p : Pattern) (parameters counts : List ℤ) (lines : List RunLine) → HeadRead file bytes k r1
    → slice_get file.patterns k ≡ Some p → ValuesRead (parameter_slots file.automaton) r1 parameters r2 → ValuesRead (start_slots file.automaton) r2 counts r3
    → StepsRead file.automaton p r3 lines → IsRunText file (record { pattern = k; parameters = parameters; counts = counts; lines = lines }) bytes
whole_read file bytes r1 r2 r3 k p parameters counts lines head named first second steps =
    let a = file.automaton in
    let run : Run = record { pattern = k; parameters = parameters; counts = counts; lines = lines } in
    let values = values_both (parameter_slots a) (start_slots a) r1 r2 r3 parameters counts first second in
    let at = at_steps file bytes r1 r3 (codes "end" ++ (10 ∷ [])) k p (parameters ++ counts) lines head named values steps in
    let ls = head_line file k ∷ (value_lines (slots a) (parameters ++ counts) ++ map (line_of a p) lines) in
    let text = read_more bytes (codes "end" ++ (10 ∷ [])) (codes "end") [] ls at.read refl ∙ append-nil (lines_text (ls ++ codes "end" ∷ [])) in
    record {
      fits = record {
        pattern = p;
        named = named;
        parameters = first.all ∙ length-map a.parameters parameter_slot;
        parameters_natural = first.begun.numbers;
        counts = second.all ∙ length-map a.initial (start_slot a);
        counts_natural = second.begun.numbers;
        lines = steps.fit;
      };
      text = text ∙ ap (λ xs. lines_text (head_line file k ∷ xs))
          (append_assoc (value_lines (slots a) (parameters ++ counts)) (map (line_of a p) lines) (codes "end" ∷ []))
          ∙ ap lines_text (sym (run_lines_are file run p named));
    }

-- the parameters aren't all read
pub parameters_fault : (file : File) (bytes r1 : List ℕ) (k : ℕ) (e : RunFault) → HeadRead file bytes k r1 → ValuesFault (parameter_slots file.automaton) r1 2 e
    → TextFault file bytes e
parameters_fault file bytes r1 k e head stopped = values_fault file bytes r1 k e head
    (values_left (parameter_slots file.automaton) (start_slots file.automaton) r1 2 e stopped)

-- the counts aren't all read
pub counts_fault : (file : File) (bytes r1 r2 : List ℕ) (k first : ℕ) (parameters : List ℤ) (e : RunFault) → HeadRead file bytes k r1
    → ValuesRead (parameter_slots file.automaton) r1 parameters r2 → first ≡ 2 + length parameters → ValuesFault (start_slots file.automaton) r2 first e
    → TextFault file bytes e
counts_fault file bytes r1 r2 k first parameters e head read place stopped =
    values_fault file bytes r1 k e head
    (values_right (parameter_slots file.automaton) (start_slots file.automaton) r1 r2 parameters 2 first e read place stopped)

-- the steps and marks aren't read to the end
pub lines_fault : (file : File) (bytes r1 r2 r3 : List ℕ) (k first : ℕ) (p : Pattern) (parameters counts : List ℤ) (e : RunFault) → HeadRead file bytes k r1
    → slice_get file.patterns k ≡ Some p → ValuesRead (parameter_slots file.automaton) r1 parameters r2 → ValuesRead (start_slots file.automaton) r2 counts r3
    → first ≡ 2 + length (parameters ++ counts) → StepsFault file.automaton p r3 first e → TextFault file bytes e
lines_fault file bytes r1 r2 r3 k first p parameters counts e head named read more place stopped =
    steps_fault file bytes r1 r3 k first p (parameters ++ counts) e head named
    (values_both (parameter_slots file.automaton) (start_slots file.automaton) r1 r2 r3 parameters counts read more) place stopped
