-- The stops of a run as the code makes them: numbers for each rule, and the event that is marked.
use Rattle.std.specs.Prelude.{ℕ, ℤ, pos, ◌+◌, ◌≤◌, ◌≡◌, nat_lt, int_lt, take, drop, cond, Bool, List, [], ◌∷◌, ◌++◌, length, map, slice_get, Option, None, Some}
use Rattle.std.specs.List.{AllByRecursion, range_with_len}
use Rattle.ta_base.specs.Masks.{any_below}
use Rattle.ta_automaton.specs.declared.automaton.Automaton.{Automaton}
use Rattle.ta_automaton.specs.declared.pattern.Pattern.{Pattern}
use Rattle.ta_linear.specs.Terms.{IsNormal}
use Rattle.ta_linear.specs.Values.{point_of, value_of}
use Rattle.ta_linear.specs.declared.form.Form.{Form}
use Rattle.ta_moments.specs.Facts.{is_moving}
use Rattle.ta_moment_tree.specs.declared.moment.Moment.{Moment}
use Rattle.ta_moment_tree.specs.declared.moment.Moment.TheVariants.{Point, Pair}
use Rattle.ta_scope.specs.Arranged.{count_at}
use Rattle.ta_witness.specs.declared.fault.WitnessFault.{WitnessFault}
use Rattle.ta_witness.specs.declared.fault.WitnessFault.TheVariants.{Overflow, Memory}
use Rattle.ta_automaton.specs.declared.file.File.{File}
use Rattle.ta_encode.specs.declared.meaning.Meaning.TheVariants.{Parameter, Start}
use Rattle.ta_moment_tree.specs.declared.encoding.MomentEncoding.{MomentEncoding}
use Rattle.ta_replay.specs.declared.run.Run.{Run}
use Rattle.ta_witness.specs.Inside.Making.{AreValues}
use Rattle.ta_witness.specs.Values.{unknown_value}
use Rattle.ta_witness.specs.Inside.StopLines.{AddsStops}
use Rattle.ta_witness.specs.Stops.{listed, no_counts}
use Rattle.ta_witness.specs.Given.{MomentStays, VectorStays}
use Rattle.ta_witness.specs.declared.stop.Stop.{Stop}

-- forms speak of the first unknowns alone
abbrev pub VectorWithin : ℕ → List Form → Type 0
VectorWithin n forms = AllByRecursion (λ (form : Form). IsNormal 0 n form.terms) forms

abbrev pub MomentWithin : ℕ → Moment → Type 0
MomentWithin n (Point v) = VectorWithin n v.items
MomentWithin n (Pair v w) = VectorWithin n v.items × VectorWithin n w.items

-- the values of forms
abbrev pub form_values : List ℤ → List Form → List ℤ
form_values numbers forms = map (λ (form : Form). value_of (point_of numbers) form) forms

-- a number leaves the range when a vector is evaluated; "out of memory" is always allowed
abbrev pub VectorFault : List ℤ → List Form → WitnessFault → Type 0
VectorFault numbers forms Overflow = ¬ VectorStays numbers forms
VectorFault numbers forms Memory = Unit {0}

-- the same of a moment, and of some moments
abbrev pub MomentFault : List ℤ → Moment → WitnessFault → Type 0
MomentFault numbers moment Overflow = ¬ MomentStays numbers moment
MomentFault numbers moment Memory = Unit {0}

abbrev pub MomentsFault : List ℤ → List Moment → WitnessFault → Type 0
MomentsFault numbers moments Overflow = ¬ AllByRecursion (MomentStays numbers) moments
MomentsFault numbers moments Memory = Unit {0}

-- numbers of the moving rules; 0 for the others
abbrev pub moving_counts : Automaton → Pattern → List ℤ → List ℤ
moving_counts a p xs = map (λ r. cond (is_moving p (slice_get a.rules r)) (count_at xs r) (pos 0)) (range_with_len 0 (length a.rules))

-- some rule has fewer firings
abbrev pub is_below : List ℤ → List ℤ → Bool
is_below before after = any_below (length after) (λ r. int_lt (count_at before r) (count_at after r))

-- a stop's numbers and its mark
abbrev pub Shape : Type 0
Shape = List ℤ × Option ℕ

abbrev pub shape : Stop → Shape
shape stop = (stop.counts.items, stop.mark)

-- a stop inserted before the first that is not below it
unfoldable pub with_shape : Shape → List Shape → List Shape
with_shape s [] = s ∷ []
with_shape s (t ∷ ts) = cond (is_below t.0 s.0) (t ∷ with_shape s ts) (s ∷ t ∷ ts)

-- stops, the last first
unfoldable pub with_shapes : List Shape → List Shape → List Shape
with_shapes [] ts = ts
with_shapes (s ∷ ss) ts = with_shape s (with_shapes ss ts)

-- the first moments are the events
abbrev pub mark_at : Pattern → ℕ → Option ℕ
mark_at p k = cond (nat_lt k (length p.events)) (Some k) None

abbrev pub moment_shapes : Automaton → Pattern → List ℤ → ℕ → Moment → List Shape
moment_shapes a p numbers k (Point v) = (moving_counts a p (form_values numbers v.items), mark_at p k) ∷ []
moment_shapes a p numbers k (Pair v w) = (moving_counts a p (form_values numbers v.items), None) ∷ (moving_counts a p (form_values numbers w.items), None) ∷ []

-- the stops of moments, numbered from k on
unfoldable pub shapes_from : Automaton → Pattern → List ℤ → ℕ → List Moment → List Shape
shapes_from a p numbers k [] = []
shapes_from a p numbers k (m ∷ ms) = moment_shapes a p numbers k m ++ shapes_from a p numbers (k + 1) ms

-- where a stop with these numbers goes
pub record Places (place : ℕ) (counts : List ℤ) (stops : List Stop) : Type 0 where
  pub within : place ≤ length stops
  pub there : (s : Shape) → s.0 ≡ counts → with_shape s (map shape stops) ≡ take place (map shape stops) ++ s ∷ drop place (map shape stops)

-- the run that is made for a file's pattern: from the values of the start's unknowns, and the stops in order
pub record MadeRun (file : File) (number : ℕ) (encoding : MomentEncoding) (numbers : List ℤ) (run : Run) : Type 0 where
  pub pattern : Pattern
  pub named : slice_get file.patterns number ≡ Some pattern
  pub same_pattern : run.pattern ≡ number
  pub parameters : AreValues (map (λ i. unknown_value encoding.plan.starts (take (length encoding.plan.starts) numbers) (Parameter i))
      (range_with_len 0 (length file.automaton.parameters))) run.parameters
  pub counts : AreValues (map (λ l. unknown_value encoding.plan.starts (take (length encoding.plan.starts) numbers) (Start l)) file.automaton.initial)
      run.counts
  pub stops : List Stop
  pub shapes : map shape stops ≡ with_shapes (shapes_from file.automaton pattern numbers 0 encoding.draft.moments.items) []
  pub lines : AddsStops file.automaton pattern (listed file.automaton pattern no_counts) stops [] run.lines
