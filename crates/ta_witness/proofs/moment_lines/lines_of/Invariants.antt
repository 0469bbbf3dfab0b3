use Rattle.ta_witness.proofs.Common.{◌≡◌, pos, ◌≤ℤ◌, [], length, take, AllByRecursion, AddsStops, last_counts}
use Rattle.ta_witness.proofs.moment_lines.lines_of.Given as goal

-- the lines of the earlier stops are there, and the counts are those of the last of them
abbrev pub invariant-loop-stop : goal.invariant-loop-stop
invariant-loop-stop l =
    AddsStops l.scoped.file.automaton l.pattern l.first (take l.stop-index l.stops) [] l.lines.items
    × (l.before ≡ last_counts l.first (take l.stop-index l.stops))
    × (length l.before ≡ length l.scoped.file.automaton.rules)
    × AllByRecursion (λ z. pos 0 ≤ℤ z) l.before
