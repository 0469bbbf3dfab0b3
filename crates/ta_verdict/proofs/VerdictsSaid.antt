-- what a verdict that holds says of a pattern, by either tree
use Rattle.ta_verdict.proofs.Common.{◌≡◌, ◌∙◌, ℕ, Bool, true, false, Some, File, Pattern, Budget, Verdict, VerdictHolds, holds_by, tree_size, ReplayStays, Run}
use Rattle.ta_verdict.proofs.Common.{Unsafe, Overflow, IsShortRun}
use Rattle.ta_replay.specs.Shows.{Shows}
use Rattle.ta_report.specs.declared.verdict.Verdict.TheVariants.{Safe, Spent}
use Rattle.ta_automaton.specs.Runs as runs

safe_by :
    (lazy : Bool) (file : File) (budget number : ℕ) (p : Pattern) (nodes leaves : ℕ) → holds_by lazy file budget number p (Safe nodes leaves)
    → runs.Safe file.automaton p
safe_by false file budget number p nodes leaves h = h.holds.safe
safe_by true file budget number p nodes leaves h = h.safe

-- a pattern that is said to be safe is
pub verdict_safe :
    (file : File) (budget : Budget) (number : ℕ) (p : Pattern) (nodes leaves : ℕ) → VerdictHolds file budget number p (Safe nodes leaves)
    → runs.Safe file.automaton p
verdict_safe file budget number p nodes leaves h = safe_by budget.lazy file budget.nodes number p nodes leaves h

-- so is one with a tree
pub tree_safe :
    (file : File) (budget : Budget) (number : ℕ) (p : Pattern) (v : Verdict) (size : ℕ) → tree_size v ≡ Some size → VerdictHolds file budget number p v
    → runs.Safe file.automaton p
tree_safe file budget number p (Safe nodes leaves) size is h = verdict_safe file budget number p nodes leaves h
tree_safe file budget number p (Unsafe nodes run) size is h = absurd (cc)
tree_safe file budget number p (Spent nodes) size is h = absurd (cc)
tree_safe file budget number p (Overflow node kind) size is h = absurd (cc)

-- the run of a pattern that is said to be unsafe shows it, is short, and its replay stays in range
pub record SaidRun (file : File) (number : ℕ) (run : Run) : Type 0 where
  pub pattern : run.pattern ≡ number
  pub shows : Shows file run
  pub stays : ReplayStays file run
  pub short : IsShortRun file run

run_by :
    (lazy : Bool) (file : File) (budget number : ℕ) (p : Pattern) (nodes : ℕ) (run : Run) → holds_by lazy file budget number p (Unsafe nodes run)
    → SaidRun file number run
run_by false file budget number p nodes run h =
    let is = h.holds.is in
    record { pattern = is.witness.same_pattern ∙ h.holds.node.holds.pattern; shows = is.shows; stays = is.stays; short = is.short }
run_by true file budget number p nodes run h = record { pattern = h.is.is.is.same_pattern; shows = h.is.shows; stays = h.is.stays; short = h.is.short }

pub verdict_run :
    (file : File) (budget : Budget) (number : ℕ) (p : Pattern) (nodes : ℕ) (run : Run) → VerdictHolds file budget number p (Unsafe nodes run)
    → SaidRun file number run
verdict_run file budget number p nodes run h = run_by budget.lazy file budget.nodes number p nodes run h
