-- The rows of facts that add no moment.
use Rattle.std.specs.Prelude.{ℕ, List, [], map, slice_get}
use Rattle.ta_automaton.specs.declared.automaton.Automaton.{Automaton}
use Rattle.ta_automaton.specs.declared.pattern.Pattern.{Pattern}
use Rattle.ta_moments.specs.Facts.{needing}
use Rattle.ta_moments.specs.declared.fact.Fact.{Fact}
use Rattle.ta_moments.specs.declared.fact.Fact.TheVariants.{Never, First, Stands, Last, Before, After, Same, Vacant, Fails}
use Rattle.ta_moments.specs.Forms.{UnknownForm, negated_form, opposite_form}
use Rattle.ta_moments.specs.Moments.{Moment, Vector, guard_at, guards, quiet_at, rows_of_order, rows_of_same, source_at}

abbrev pub plain_rows : Automaton → Pattern → List ℕ → ℕ → Vector → List Moment → Fact → List UnknownForm
plain_rows a p silent n end moments (Never g) = map (λ r. opposite_form (end r)) (needing a p g)
plain_rows a p silent n end moments (First g) = []
plain_rows a p silent n end moments (Stands g) = guard_at a p end (slice_get (guards a) g)
plain_rows a p silent n end moments (Last g) = []
plain_rows a p silent n end moments (Before x y) = rows_of_order a p n (slice_get moments x) (slice_get moments y)
plain_rows a p silent n end moments (After x y) = rows_of_order a p n (slice_get moments y) (slice_get moments x)
plain_rows a p silent n end moments (Same x y) = rows_of_same a p n (slice_get moments x) (slice_get moments y)
plain_rows a p silent n end moments (Vacant r) = map opposite_form (source_at a p end (slice_get a.rules r))
plain_rows a p silent n end moments (Fails r g) = map negated_form (quiet_at a p silent end (slice_get (guards a) g))
