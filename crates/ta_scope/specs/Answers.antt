-- Each automaton is in scope, or has a first rule that puts it out of scope.
use Rattle.std.specs.Prelude.{ℕ}
use Rattle.ta_syntax.specs.AnswerLaws.{Either}
use Rattle.ta_automaton.specs.Runs.{InScope}
use Rattle.ta_automaton.specs.declared.automaton.Automaton.{Automaton}
use Rattle.ta_scope.specs.Faults.{FirstRuleFault}

-- an automaton is in scope, or has a first rule that puts it out of scope
abbrev pub ScopesHaveAnswers : Type 0
ScopesHaveAnswers = (a : Automaton) → Either (InScope a) ((number : ℕ) × FirstRuleFault a number)
