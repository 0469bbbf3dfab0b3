-- What the end of the visit of a whole tree is for the pattern of the tree.
use Rattle.std.specs.Prelude.{ℕ, ◌≤◌, length}
use Rattle.ta_base.specs.declared.limits.TheConstants.{LONGEST_WORD}
use Rattle.ta_words.specs.declared.element.Element.{Element}
use Rattle.ta_walk.specs.declared.end.TreeEnd.{TreeEnd}
use Rattle.ta_walk.specs.declared.end.TreeEnd.TheVariants as tree
use Rattle.ta_walk.specs.declared.end.VisitEnd.{VisitEnd}
use Rattle.ta_walk.specs.declared.end.VisitEnd.TheVariants as visit

-- a whole node has no more facts than a word may have
abbrev pub HasFewFacts : TreeEnd Element → Type 0
HasFewFacts (tree.Refuted count leaves) = Unit {0}
HasFewFacts (tree.Found count start facts values) = length facts ≤ LONGEST_WORD
HasFewFacts (tree.Spent count) = Unit {0}
HasFewFacts (tree.Overflow node kind) = Unit {0}

-- the same end for the pattern with this number: the facts of a whole node are the word of its solution
abbrev pub visit_end : ℕ → TreeEnd Element → VisitEnd
visit_end number (tree.Refuted count leaves) = visit.Refuted count leaves
visit_end number (tree.Found count start facts values) = visit.Found count (record { pattern = number; start_mask = start; word = facts; values = values })
visit_end number (tree.Spent count) = visit.Spent count
visit_end number (tree.Overflow node kind) = visit.Overflow node kind
