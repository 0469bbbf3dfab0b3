-- The part of a tree that stands before its rules: the number of processes and the resilience condition.
use Rattle.std.specs.Prelude.{◌≡◌, List, [], ◌++◌, map}
use Rattle.ta_syntax.specs.PlainSums.{plain_sum}
use Rattle.ta_syntax.specs.PlainTrees.{plain_comparison}
use Rattle.ta_syntax.specs.declared.tree.Tree.{Tree}
use Rattle.ta_syntax.specs.declared.fault.FileFault.{FileFault}
use Rattle.ta_meaning.specs.Names.{names_of}
use Rattle.ta_meaning.specs.Faults.{names_faults, processes_faults, condition_faults, in_parameters}
use Rattle.ta_meaning.specs.Inside.Resolved.{ResolvedForm, ResolvedCondition}
use Rattle.ta_meaning.specs.declared.file.TreeHead.{TreeHead}

abbrev pub head_faults : Tree → List FileFault
head_faults t = processes_faults (names_of t) t ++ condition_faults (in_parameters (names_of t)) t.resilience

-- what stands before the rules has no error
pub record HeadClean (t : Tree) : Type 0 where
  pub names : names_faults (names_of t) t ≡ []
  pub head : head_faults t ≡ []

-- the form and the condition that a tree means
pub record HeadOf (t : Tree) (head : TreeHead) : Type 0 where
  pub processes : ResolvedForm (names_of t).parameters (plain_sum t.processes) head.processes
  pub resilience : ResolvedCondition (names_of t).parameters (map plain_comparison t.resilience) head.resilience
