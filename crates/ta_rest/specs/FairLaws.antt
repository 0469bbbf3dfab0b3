-- How quiet rest and infinite fair runs are related. If every cycle of rules is a self-loop without updates, a pattern occurs for ever in
-- no fair run exactly if it occurs in no run that comes to quiet rest.
use Rattle.std.specs.Prelude.{ℕ, ◌+◌, ◌<◌, ◌≡◌, ◌↔◌, List, length, slice_get, Some}
use Rattle.ta_automaton.specs.declared.automaton.Automaton.{Automaton}
use Rattle.ta_automaton.specs.declared.file.File.{File}
use Rattle.ta_automaton.specs.declared.pattern.Pattern.{Pattern}
use Rattle.ta_automaton.specs.Runs.{At, Config, InScope, LoopsPure, Run}
use Rattle.ta_scope.specs.LongerCycles.{LoopsAlone}
use Rattle.ta_rest.specs.Rest.{ComeAfterEarlier}
use Rattle.ta_rest.specs.Quiet.{NoneSubtracted, QuietRest, QuietRestOccurs, QuietRestSafe}
use Rattle.ta_rest.specs.Fair.{CalmFrom, Fair, FairlySafe, InfiniteRun, OccursForEver}

-- if every cycle of rules is a self-loop and self-loops have no updates: a pattern occurs for ever in no fair run exactly if it occurs in
-- no run that comes to quiet rest
abbrev pub FairRunsComeToRest : Type 0
FairRunsComeToRest =
    (a : Automaton) (silent : List ℕ) (p : Pattern) → LoopsAlone a → LoopsPure a → ComeAfterEarlier p
    → QuietRestSafe a silent p ↔ FairlySafe a silent p

-- the same for each pattern of a file in scope whose rules have no longer cycle
abbrev pub FairRunsOfFiles : Type 0
FairRunsOfFiles =
    (file : File) → InScope file.automaton → LoopsAlone file.automaton
    → (number : ℕ) (p : Pattern) → slice_get file.patterns number ≡ Some p
    → (silent : List ℕ) → QuietRestSafe file.automaton silent p ↔ FairlySafe file.automaton silent p

-- a fair run that begins with the steps of a run, stays where they lead, and in which the pattern occurs for ever
pub record GoesOn (a : Automaton) (silent : List ℕ) (p : Pattern) (first : Config) (rules : List ℕ) : Type 0 where
  pub run : InfiniteRun a
  pub begins : run.config 0 ≡ first
  pub fires : (k : ℕ) → run.fired k ≡ slice_get rules k
  pub for_ever : OccursForEver a silent p run

-- in every automaton, a run that comes to quiet rest for a pattern can be continued to such a run
abbrev pub RestingRunsGoOn : Type 0
RestingRunsGoOn =
    (a : Automaton) (silent : List ℕ) (p : Pattern) (first : Config) (rules : List ℕ) → QuietRestOccurs a silent p first rules
    → GoesOn a silent p first rules

-- a fair infinite run that begins with the steps of a run
pub record GoesOnFairly (a : Automaton) (silent : List ℕ) (first : Config) (rules : List ℕ) (later : List Config) : Type 0 where
  pub run : InfiniteRun a
  pub fair : Fair a silent run
  pub begins : (k : ℕ) (c : Config) → At first later k c → run.config k ≡ c
  pub fires : (k : ℕ) → k < length rules → run.fired k ≡ slice_get rules k

-- if every cycle of rules is a self-loop and no guard subtracts a silent place, every run can be continued to such a run
abbrev pub RunsGoOnFairly : Type 0
RunsGoOnFairly =
    (a : Automaton) (silent : List ℕ) → LoopsAlone a → NoneSubtracted silent a.rise → NoneSubtracted silent a.fall
    → (first : Config) (rules : List ℕ) (later : List Config) → Run a first rules later
    → GoesOnFairly a silent first rules later

-- if self-loops have no updates, a fair run in which from some position on no rule between two locations fires stays in its configuration
-- from there on, at quiet rest
abbrev pub CalmRunsRest : Type 0
CalmRunsRest =
    (a : Automaton) (silent : List ℕ) → LoopsPure a → (run : InfiniteRun a) → Fair a silent run
    → (n : ℕ) → CalmFrom a run n → (d : ℕ) → (run.config (n + d) ≡ run.config n) × QuietRest a silent (run.config (n + d))

-- if every cycle of rules is a self-loop, an infinite run has a calm position. (The logic is constructive, so this is stated as "not
-- none".)
abbrev pub RunsBecomeCalm : Type 0
RunsBecomeCalm = (a : Automaton) → LoopsAlone a → (run : InfiniteRun a) → ¬ ((n : ℕ) → ¬ CalmFrom a run n)
