-- When the unknowns, moments and rows of the code are those of a node.
use Rattle.std.specs.Prelude.{ℕ, ◌≡◌, ◌≤◌, Bool, true, false, List, length, Option}
use Rattle.ta_automaton.specs.declared.automaton.Automaton.{Automaton}
use Rattle.ta_automaton.specs.declared.pattern.Pattern.{Pattern}
use Rattle.ta_moments.specs.declared.fact.Fact.{Fact}
use Rattle.ta_moments.specs.declared.fact.Fact.TheVariants.{Never, First, Stands, Last, Before, After, Same, Vacant, Fails}
use Rattle.ta_encode.specs.Inside.Lines.{IsBehind}
use Rattle.ta_moments.specs.Laws.{Speaks}
use Rattle.ta_moments.specs.Moments.{Known, end_vector, known, with_fact}
use Rattle.ta_moment_tree.specs.Forms.{SmallVector, forms_of, vector_of}
use Rattle.ta_moment_tree.specs.Moments.{MomentsSpeak, SmallMoments, moments_of}
use Rattle.ta_moment_tree.specs.declared.draft.Draft.{Draft}

-- what a draft says
abbrev pub known_of : Draft → Known
known_of draft = record { unknowns = draft.unknowns; moments = moments_of draft.moments.items; rows = forms_of draft.rows.items }

-- it says what a node's facts say, and keeps the vector of its end
pub record IsDraft (a : Automaton) (p : Pattern) (silent : List ℕ) (candidate : Option ℕ) (past : List Fact) (draft : Draft) : Type 0 where
  pub known : known_of draft ≡ known a p silent candidate past
  pub end : vector_of draft.end.items ≡ end_vector a p candidate
  pub short : length draft.end.items ≤ length a.rules

-- what a draft's vectors need so that all numbers stay in range and no row is missed
pub record DraftFits (a : Automaton) (draft : Draft) : Type 0 where
  pub small : SmallVector 1 (vector_of draft.end.items)
  pub speaks : (r : ℕ) → Speaks draft.unknowns (vector_of draft.end.items r)
  pub short : length draft.end.items ≤ length a.rules
  pub moments : SmallMoments (moments_of draft.moments.items)
  pub moments_speak : MomentsSpeak draft.unknowns (moments_of draft.moments.items)

-- whether a fact adds no moment
abbrev pub is_plain : Fact → Bool
is_plain (Never g) = true
is_plain (First g) = false
is_plain (Stands g) = true
is_plain (Last g) = false
is_plain (Before x y) = true
is_plain (After x y) = true
is_plain (Same x y) = true
is_plain (Vacant r) = true
is_plain (Fails r g) = true

-- a draft with one more fact: its rows and moments begin with those that were there
pub record Added (a : Automaton) (p : Pattern) (silent : List ℕ) (before : Draft) (fact : Fact) (after : Draft) : Type 0 where
  pub known : known_of after ≡ with_fact a p silent (vector_of before.end.items) (known_of before) fact
  pub end : after.end.items ≡ before.end.items
  pub rows : IsBehind before.rows.items after.rows.items
  pub moments : IsBehind before.moments.items after.moments.items
