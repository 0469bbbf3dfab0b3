use Rattle.ta_report.proofs.Common.{◌≡◌, ◌++◌, zip_first, zip_second, iter_rest, string_bytes, AllByRecursion, VerdictFits, told_lines}
use Rattle.ta_report.proofs.report.write_patterns.Given as goal

-- the lines that are written and those of the verdicts that are left, which fit
abbrev pub invariant-loop-pattern : goal.invariant-loop-pattern
invariant-loop-pattern l =
    AllByRecursion (VerdictFits l.file) (iter_rest (zip_second l.pattern-iterator))
    × (string_bytes l.text ++ told_lines l.rest l.file (iter_rest (zip_first l.pattern-iterator)) (iter_rest (zip_second l.pattern-iterator)) ≡
    string_bytes l.initial.text ++ told_lines l.rest l.file l.patterns l.verdicts)
