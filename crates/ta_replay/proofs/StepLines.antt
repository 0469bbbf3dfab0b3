-- The lines of steps and marks.
use Rattle.ta_replay.proofs.Common.{ℕ, ◌+◌, ◌≡◌, List, [], ◌∷◌, ◌++◌, length, map, sym, ap, subst, ◌∙◌, map_push, each_push, Automaton, Pattern, RunLine}
use Rattle.ta_replay.proofs.Common.{RunFault, LineFits, line_of, lines_text, StepRead, StepRefused, StepsBegun, StepsStopped, StepsFault}
use Rattle.ta_replay.specs.declared.fault.RunFault.TheVariants as fault
use Rattle.ta_replay.proofs.ListSteps.{read_more}

-- one step more is read
pub steps_more : (a : Automaton) (p : Pattern) (bytes rest behind : List ℕ) (lines : List RunLine) (l : RunLine) → StepsBegun a p bytes lines rest
    → StepRead a p rest l behind → StepsBegun a p bytes (lines ++ l ∷ []) behind
steps_more a p bytes rest behind lines l begun is = record {
  fit = each_push (LineFits a p) lines l begun.fit is.fits;
  read = read_more bytes rest (line_of a p l) behind (map (line_of a p) lines) begun.read is.read
      ∙ ap (λ ls. lines_text ls ++ behind) (sym (map_push (line_of a p) lines l));
}

-- the next line is refused
pub steps_stop : (a : Automaton) (p : Pattern) (bytes rest : List ℕ) (lines : List RunLine) (first number : ℕ) (e : RunFault) → StepsBegun a p bytes lines rest
    → number ≡ first + length lines → StepRefused a p rest number e → StepsFault a p bytes first e
steps_stop a p bytes rest lines first number e begun place refused =
    stopped e record { lines = lines; rest = rest; begun = begun; refused = subst (λ n. StepRefused a p rest n e) place refused }
  where
    stopped : (e : RunFault) → StepsStopped a p bytes first e → StepsFault a p bytes first e
    stopped fault.Memory s = tt
    stopped _ s = s
