use Rattle.ta_program.proofs.Common.{◌≡◌, ◌-◌, ℕ, List, Option, length, Checker, subject_of, Subject, Event, Told, JudgedTo}
use Rattle.ta_program.proofs.check.judge_pieces.Given as goal

-- the pieces so far are judged
pub record SoFar (subject : Subject) (files now : Option Told) (name : List ℕ) (first calls : List Event) (before after at : ℕ) (checker : Checker) : Type 0
  where
    pub text : List ℕ
    pub judged : JudgedTo files name first calls checker text
    pub place : at ≡ length text
    pub same : subject_of checker ≡ subject
    pub files_kept : now ≡ files
    pub faults_kept : after ≡ before

abbrev pub invariant-pieces : goal.invariant-pieces
invariant-pieces g l = SoFar (subject_of l.fn.first) (g.S.Shelf.files l.fn.shelf) (g.S.Shelf.files l.shelf) l.name (g.S.Shelf.calls l.fn.shelf)
    (g.S.Shelf.calls l.shelf) (g.S.Shelf.faults l.fn.shelf) (g.S.Shelf.faults l.shelf) l.at l.checker

-- the bytes that may still be read, and one
abbrev pub decreases-pieces : goal.decreases-pieces
decreases-pieces g l = 1073741825 - l.at
