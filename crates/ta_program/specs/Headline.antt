-- What an exit status claims, and no more. `verify FILE` with status 0: FILE holds a text that means an automaton and its patterns, if any,
-- and each of these patterns occurs in no run; with status 1: some pattern occurs in a run; with 0, 1 or 2, in lines: each pattern with a
-- line `safe` occurs in no run. With `--pattern NAME`: the pattern with this name. `check FILE CERT` with status 0 or 2: each pattern with a
-- line `proved` occurs in no run. `replay FILE RUN` with status 0: the pattern that RUN names occurs in the run of which RUN is the text.
-- `rest FILE` and `rest-check FILE CERT`, without silent names: of each pattern with a line `rest safe` or `rest proved`, no run in which it
-- occurs is at rest (a deadlock) where its last event happens. To believe this, read these definitions and those that they name, and no
-- others.
use Rattle.std.specs.Prelude.{ℕ, ◌≤◌, ◌≡◌, false, List, codes, slice_get, Option, None, Some}
use Rattle.ta_syntax.specs.Grammar.{PlainTree}
use Rattle.ta_syntax.specs.TreeOf.{IsTextOf}
use Rattle.ta_automaton.specs.declared.automaton.Automaton.{Automaton}
use Rattle.ta_automaton.specs.declared.file.File.{File}
use Rattle.ta_automaton.specs.declared.pattern.Pattern.{Pattern}
use Rattle.ta_automaton.specs.Runs as runs
use Rattle.ta_meaning.specs.Meaning.{MeansTree}
use Rattle.ta_replay.specs.declared.run.Run.{Run}
use Rattle.ta_replay.specs.RunText.{IsRunText}
use Rattle.ta_replay.specs.Shows.{IsFirstConfig, unit_steps}
use Rattle.ta_report.specs.Printed.{HasLine, told_of}
use Rattle.ta_shelf.specs.Sink.{with_text}
use Rattle.ta_shelf.specs.Puts.{may_put}
use Rattle.ta_shelf.specs.Sights.{View, Whole}
use Rattle.ta_rest.specs.Rest.{RestSafe}
use Rattle.ta_program.specs.CheckWords.{CheckWords, ReplayWords, check_of, replay_of}
use Rattle.ta_program.specs.Ended.{Did, Ended, Saw}
use Rattle.ta_program.specs.PatternOption.{EachPicked, HasName}
use Rattle.ta_program.specs.RestWords.{RestCheckWords, RestWords, rest_check_of, rest_of}
use Rattle.ta_program.specs.VerifyWords.{VerifyWords, verify_of}

-- the bytes under a name are a text of the grammar, whose tree means this file
pub record HoldsFile (view : View) (name : List ℕ) (file : File) : Type 0 where
  pub bytes : List ℕ
  pub held : view name (Whole bytes)
  pub tree : PlainTree
  pub text : IsTextOf bytes tree
  pub means : MeansTree tree file

-- the bytes under a name mean a file, and each of its patterns, or the one with the name that is given, occurs in no run
pub record EachPatternSafe (name : List ℕ) (given : Option (List ℕ)) (view : View) : Type 0 where
  pub file : File
  pub holds : HoldsFile view name file
  pub safe : EachPicked runs.Safe given file

-- the bytes under a name mean a file, and some pattern of it, or the one with the name that is given, occurs in a run
pub record SomePatternOccurs (name : List ℕ) (given : Option (List ℕ)) (view : View) : Type 0 where
  pub file : File
  pub holds : HoldsFile view name file
  pub number : ℕ
  pub pattern : Pattern
  pub among : slice_get file.patterns number ≡ Some pattern
  pub named : HasName given pattern
  pub first : runs.Config
  pub rules : List ℕ
  pub occurs : runs.Occurs file.automaton pattern first rules

-- the bytes under a name mean a file, and a fact holds of each of its patterns for which the output gained a line with this word
pub record EachPrinted (Fact : Automaton → Pattern → Type 0) (word : List ℕ) (r : Ended) (name : List ℕ) (view : View) : Type 0 where
  pub file : File
  pub holds : HoldsFile view name file
  pub text : List ℕ
  pub gained : r.after.written ≡ with_text r.before.written text
  pub holds_of : (number : ℕ) (p : Pattern) → slice_get file.patterns number ≡ Some p → HasLine (told_of p.name word) text → Fact file.automaton p

-- the bytes under a name mean a file, and those under another name are the text of a run of it: from a first configuration with the run's
-- parameters and start counts, the pattern that the run names occurs in its steps
pub record ShownOccurs (name run_name : List ℕ) (view : View) : Type 0 where
  pub file : File
  pub holds : HoldsFile view name file
  pub run : Run
  pub bytes : List ℕ
  pub held : view run_name (Whole bytes)
  pub text : IsRunText file run bytes
  pub pattern : Pattern
  pub named : slice_get file.patterns run.pattern ≡ Some pattern
  pub first : runs.Config
  pub begins : IsFirstConfig file.automaton run first
  pub occurs : runs.Occurs file.automaton pattern first (unit_steps run.lines)

-- what each status claims, of what the run saw
pub record StatusTells (r : Ended) : Type 0 where
  pub safe : (asked : VerifyWords) → verify_of r.words ≡ Some asked → r.status ≡ 0 → Did r (may_put asked.out) (EachPatternSafe asked.file asked.pattern)
  pub occurs : (asked : VerifyWords) → verify_of r.words ≡ Some asked → r.status ≡ 1 → Did r (may_put asked.out) (SomePatternOccurs asked.file asked.pattern)
  pub safe_lines : (asked : VerifyWords) → verify_of r.words ≡ Some asked → asked.json ≡ false → r.status ≤ 2
      → Did r (may_put asked.out) (EachPrinted runs.Safe (codes "safe, ") r asked.file)
  pub proved : (asked : CheckWords) → check_of r.words ≡ Some asked → r.status ≤ 2 → Saw r (EachPrinted runs.Safe (codes "proved") r asked.file)
  pub shown : (asked : ReplayWords) → replay_of r.words ≡ Some asked → r.status ≡ 0 → Saw r (ShownOccurs asked.file asked.other)
  pub rest_safe : (asked : RestWords) → rest_of r.words ≡ Some asked → asked.silent ≡ None → r.status ≤ 2
      → Did r (may_put asked.verify.out) (EachPrinted RestSafe (codes "rest safe, ") r asked.verify.file)
  pub rest_proved : (asked : RestCheckWords) → rest_check_of r.words ≡ Some asked → asked.silent ≡ None → r.status ≤ 2
      → Saw r (EachPrinted RestSafe (codes "rest proved") r asked.file)
