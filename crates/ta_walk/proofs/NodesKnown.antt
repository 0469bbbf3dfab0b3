-- rows that are known at whole values and met there
use Rattle.ta_walk.proofs.Common.{◌≡◌, ◌≢◌, ◌∙◌, ℕ, ℤ, pos, ◌<ℤ◌, ◌*ℤ◌, List, ◌++◌, length, Bool, true, false, Option, Some, None, arith, ap, sym, ints}
use Rattle.ta_walk.proofs.Common.{list_all, is_some, length-map, Automaton, Pattern, Bound, InRange, Fact, Values, if_fits, is_known_natural, known_value}
use Rattle.ta_walk.proofs.Common.{next_question, forms_of, moment_of, bound_forms, bounded_node, MomentEncoding, NodeIs, may_take, whole_values}
use Rattle.std.proofs.Common.{not, ◌&&◌}
use Rattle.ta_moments.specs.Forms.{UnknownForm}
use Rattle.ta_moments.specs.Moments.{Known, known}
use Rattle.ta_moments.specs.Refutes.{Asking, node_rows}
use Rattle.ta_moment_tree.specs.Draft.{known_of}
use Rattle.ta_moment_tree.specs.Nodes.{IsAnyNode}
use Rattle.ta_walk.specs.declared.moment_vertex.Vertex.{Vertex}
use Rattle.ta_walk.specs.Values.{values_of}
use Rattle.ta_walk.proofs.Fitting.{multiple_out, none_stays}

not_none : (z : ℤ) → pos 0 <ℤ z → z ≢ pos 0
not_none z h e = absurd (omega (arith, ints, h, e))

-- a form whose constant is out of range isn't known
pub constant_out : (v : Vertex) (f : UnknownForm) → ¬ InRange f.constant → false ≡ is_known_natural (known_value (values_of (Some v)) f)
constant_out v f out =
    let start = if_fits (f.constant *ℤ v.denominator) in
    let none : start ≡ None = sym (multiple_out f.constant v.denominator out (not_none v.denominator v.positive)) in
    ap is_known_natural (sym (none_stays f.coefficient v.numbers start 0 (length v.numbers) (omega arith) none))

-- ---- the rows and moments of a node of the code
module _
    (a : Automaton) (p : Pattern) (silent : List ℕ) (candidate : Option ℕ) (past : List Fact) (node : MomentEncoding)
    (is : NodeIs a p silent candidate past node) where
  known_is : known_of node.draft ≡ known a p silent candidate past
  known_is =
      is.is.draft.known
      ∙ ap (λ (b : Automaton). known b node.plan.task.pattern.now silent candidate past) is.automaton
      ∙ ap (λ (q : Pattern). known a q silent candidate past) is.pattern

  pub rows_known : forms_of node.draft.rows.items ≡ (known a p silent candidate past).rows
  rows_known = ap (λ (k : Known). k.rows) known_is

  pub moments_count : length node.draft.moments.items ≡ length (known a p silent candidate past).moments
  moments_count = sym (length-map node.draft.moments.items moment_of) ∙ ap (λ (k : Known). length k.moments) known_is

  pub some_node : IsAnyNode node
  some_node = record { silent = silent; is = record { candidate = candidate; past = past; is = is.is } }

  -- what is asked there
  pub question_moved : (asking : Asking) (bounds : List Bound) (values : Values)
      → next_question node.plan.task.automaton.now node.plan.task.pattern.now asking (bounded_node candidate past bounds) values
      ≡ next_question a p asking (bounded_node candidate past bounds) values
  question_moved asking bounds values =
      ap (λ (b : Automaton). next_question b node.plan.task.pattern.now asking (bounded_node candidate past bounds) values) is.automaton
      ∙ ap (λ (q : Pattern). next_question a q asking (bounded_node candidate past bounds) values) is.pattern

-- where it is told that there is something, and not that there is nothing
pub turned : (some none : Bool) → some ≡ not none → none ≡ not some
turned some true e = ap not (sym e)
turned some false e = ap not (sym e)

-- whether its whole values may be taken
pub may_is : (a : Automaton) (p : Pattern) (asking : Asking) (candidate : Option ℕ) (past : List Fact) (node : MomentEncoding)
    → NodeIs a p asking.silent candidate past node → (bounds : List Bound) (v : Vertex) → v.denominator ≡ pos 1 → (met settled : Bool)
    → met ≡ list_all (λ f. is_known_natural (known_value (values_of (Some v)) f)) (forms_of node.draft.rows.items ++ bound_forms bounds)
    → settled ≡ not (is_some (next_question a p asking (bounded_node candidate past bounds) (values_of (Some v))))
    → (met && settled) ≡ may_take a p asking (bounded_node candidate past bounds) v.numbers
may_is a p asking candidate past node is bounds v whole met settled one other =
    let here = bounded_node candidate past bounds in
    let test : Values → UnknownForm → Bool = λ vs f. is_known_natural (known_value vs f) in
    let values : values_of (Some v) ≡ whole_values v.numbers = ap (λ (d : ℤ). Some (record { denominator = d; numbers = v.numbers })) whole in
    let rows : met ≡ list_all (test (whole_values v.numbers)) (node_rows a p asking here) =
    one
    ∙ ap (λ (fs : List UnknownForm). list_all (test (values_of (Some v))) (fs ++ bound_forms bounds)) (rows_known a p asking.silent candidate past node is)
    ∙ ap (λ (vs : Values). list_all (test vs) (node_rows a p asking here)) values in
    let asks : settled ≡ not (is_some (next_question a p asking here (whole_values v.numbers))) =
    other
    ∙ ap (λ (vs : Values). not (is_some (next_question a p asking here vs))) values in
    ap (λ (b : Bool). b && settled) rows
    ∙ ap (λ (b : Bool). list_all (test (whole_values v.numbers)) (node_rows a p asking here) && b) asks
