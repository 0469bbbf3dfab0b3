-- what is taken at a vertex of a node's system, and what was read of its cursor
use Rattle.ta_walk.proofs.Common.{◌≡◌, ℕ, ℤ, List, [], Option, Some, inl, inr, reverse, subst, sym, Search, Pending, Cursor, here, Node, Fraction, VertexAt}
use Rattle.ta_walk.proofs.Common.{AreNumbers, IsSettled, NodeAt, SplitVertex, SplitsAt, WholeAt, parts_of, Result, Ok, Err, IfOk, None, node_at, MayAsk, Bound}
use Rattle.ta_encode.specs.Asking.{ask_node}
use Rattle.ta_encode.specs.declared.ask.Ask.{Ask}
use Rattle.ta_walk.specs.Inside.Solving.{OnInner}
use Rattle.ta_walk.specs.Visit.{AsksAt}
use Rattle.ta_walk.specs.declared.node.Solved.{Solved}
use Rattle.ta_walk.specs.declared.node.Solved.TheVariants.{Inner, Whole, OutOfRange}
use Rattle.ta_encode.specs.declared.ask.Ask.TheVariants as ask

-- a fact that holds anyway
pub on_inner : {F : Type 0} (solved : Solved) → F → OnInner solved F
on_inner (Inner node) fact = fact
on_inner (Whole numbers) fact = tt
on_inner (OutOfRange kind) fact = tt

pub on_inner_ok : {E F : Type 0} (result : Result Solved E) → F → IfOk result (λ solved. OnInner solved F)
on_inner_ok (Ok solved) fact = on_inner solved fact
on_inner_ok (Err e) fact = tt

-- what holds of a start and facts holds of those that were read
pub as_read : {E : Type 0} (Holds : ℕ → List E → Type 0) (start first : ℕ) (facts those : List E) → start ≡ first → facts ≡ those → Holds first those
    → Holds start facts
as_read {E} Holds start first facts those one other held =
    subst (λ (k : ℕ). Holds k facts) (sym one) (subst (λ (fs : List E). Holds first fs) (sym other) held)

asks_there : {E : Type 0} (s : Search E) (w : Pending E) (values : List Fraction) (asked : Ask) → VertexAt s w values
    → s.question w.start w.past (parts_of values) ≡ Some (ask_node asked) → MayAsk s w.start w.past (ask_node asked) → NodeAt s w (ask_node asked)
asks_there s w values ask.Extend vertex question may = record { values = values; vertex = vertex; question = question; may = may }
asks_there s w values (ask.Guard guard) vertex question may = record { values = values; vertex = vertex; question = question; may = may }
asks_there s w values (ask.Order before later) vertex question may = record { values = values; vertex = vertex; question = question; may = may }
asks_there s w values (ask.Stuck rule) vertex question may = record { values = values; vertex = vertex; question = question; may = may }

module _ {E : Type 0} (s : Search E) (d : Cursor E) (start : ℕ) (facts : List E) (values : List Fraction) (one : start ≡ d.start)
    (other : facts ≡ d.facts.items)
    (vertex : VertexAt s (here d) values) where
  -- the node asks
  pub asks_at : (asked : Ask) (n : Node) → AsksAt s (node_at start facts []) values (ask_node asked) → n ≡ ask_node asked → NodeAt s (here d) n
  asks_at asked n at is =
      let question = as_read (λ k fs. s.question k (reverse fs) (parts_of values) ≡ Some (ask_node asked)) d.start start d.facts.items facts (sym one)
      (sym other)
      at.question in
      let may = as_read (λ k fs. MayAsk s k (reverse fs) (ask_node asked)) d.start start d.facts.items facts (sym one) (sym other) at.may in
      subst (NodeAt s (here d)) (sym is) (asks_there s (here d) values asked vertex question may)

  -- it asks nothing
  settled_at : IsSettled s (node_at start facts []) values → IsSettled s (here d) values
  settled_at settled = as_read (λ k fs. IsSettled s (node_at k fs []) values) d.start start d.facts.items facts (sym one) (sym other) settled

  pub whole_at : (numbers : List ℤ) → IsSettled s (node_at start facts []) values → AreNumbers values numbers → WholeAt s (here d) numbers
  whole_at numbers settled are = record { values = values; vertex = vertex; settled = settled_at settled; whole = inl are }

  scaled_there : (bounds : List Bound) (numbers : Option (List ℤ)) → bounds ≡ d.bounds.items → numbers ≡ s.scaled (node_at start facts bounds) (parts_of values)
      → s.scaled (here d) (parts_of values) ≡ numbers
  scaled_there bounds numbers third is =
      as_read (λ k fs. s.scaled (node_at k fs d.bounds.items) (parts_of values) ≡ numbers) d.start start d.facts.items facts (sym one) (sym other)
      (subst (λ (bs : List Bound). s.scaled (node_at start facts bs) (parts_of values) ≡ numbers) third (sym is))

  pub scaled_at : (bounds : List Bound) (numbers : List ℤ) (unknown : ℕ) (floor : ℤ) → bounds ≡ d.bounds.items → IsSettled s (node_at start facts []) values
      → SplitsAt values unknown floor → Some numbers ≡ s.scaled (node_at start facts bounds) (parts_of values) → WholeAt s (here d) numbers
  scaled_at bounds numbers unknown floor third settled splits is = record {
    values = values;
    vertex = vertex;
    settled = settled_at settled;
    whole = inr (record { unknown = unknown; floor = floor; splits = splits; scaled = scaled_there bounds (Some numbers) third is });
  }

  pub split_at : (bounds : List Bound) (unknown : ℕ) (floor : ℤ) → bounds ≡ d.bounds.items → IsSettled s (node_at start facts []) values
      → SplitsAt values unknown floor → None ≡ s.scaled (node_at start facts bounds) (parts_of values) → SplitVertex s (here d) unknown floor
  split_at bounds unknown floor third settled splits is = record {
    values = values;
    vertex = vertex;
    settled = settled_at settled;
    splits = splits;
    unscaled = scaled_there bounds None third is;
  }
