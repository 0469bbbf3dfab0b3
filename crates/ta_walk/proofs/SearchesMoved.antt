-- searches that differ in the words with which they begin alone have the same nodes
use Rattle.ta_walk.proofs.Common.{◌≡◌, ◌⊎◌, inl, inr, ℤ, List, [], ◌∷◌, ◌++◌, refl, subst, System, Node, Pending, Search, parts, OverflowsAt, IsRefuted}
use Rattle.ta_walk.proofs.Common.{IsVertex, slack_tableau, PlaceKind, IsOutOfRangeAt, NodeAt, OfSystem, Visits, WholeAt, beginning, Fraction, IsSettled}
use Rattle.ta_walk.proofs.Common.{AreNumbers, IsScaled}
use Rattle.ta_encode.proofs.Asking.{may_moved}
use Rattle.ta_cert.specs.declared.line.Node.TheVariants as node
use Rattle.ta_walk.specs.declared.end.PlaceKind.TheVariants as kind

moved_system : {E : Type 0} (s : Search E) (us vs : List (Pending E)) (w : Pending E) (fact : System → Type 0) → OfSystem (beginning s us) w fact
    → OfSystem (beginning s vs) w fact
moved_system s us vs w fact of = record {
  system = of.system;
  is = record { unknowns = of.is.unknowns; rows = of.is.rows };
  holds = of.holds;
}

moved_settled : {E : Type 0} (s : Search E) (us vs : List (Pending E)) (w : Pending E) (values : List Fraction) → IsSettled (beginning s us) w values
    → IsSettled (beginning s vs) w values
moved_settled s us vs w values settled = λ n is may. settled n is (may_moved (beginning s vs) (beginning s us) w.start w.past (λ m. refl) n may)

pub moved_node : {E : Type 0} (s : Search E) (us vs : List (Pending E)) (w : Pending E) (n : Node) → NodeAt (beginning s us) w n → NodeAt (beginning s vs) w n
moved_node s us vs w (node.Leaf ts) at = record { refuted = moved_system s us vs w (λ system. IsRefuted system ts) at.refuted; in_range = at.in_range }
moved_node s us vs w (node.Split unknown floor) at = record {
  values = at.values;
  vertex = moved_system s us vs w (λ system. IsVertex system at.values) at.vertex;
  settled = moved_settled s us vs w at.values
      at.settled;
  splits = at.splits;
  unscaled = at.unscaled;
}
moved_node s us vs w n at = record
    { values = at.values; vertex = moved_system s us vs w (λ system. IsVertex system at.values) at.vertex; question = at.question; may = at.may }

moved_taken : {E : Type 0} (s : Search E) (us vs : List (Pending E)) (w : Pending E) (values : List Fraction) (numbers : List ℤ) → AreNumbers values numbers
    ⊎ IsScaled (beginning s us) w values numbers → AreNumbers values numbers ⊎ IsScaled (beginning s vs) w values numbers
moved_taken s us vs w values numbers (inl are) = inl are
moved_taken s us vs w values numbers (inr is) = inr (record { unknown = is.unknown; floor = is.floor; splits = is.splits; scaled = is.scaled })

pub moved_whole : {E : Type 0} (s : Search E) (us vs : List (Pending E)) (w : Pending E) (numbers : List ℤ) → WholeAt (beginning s us) w numbers
    → WholeAt (beginning s vs) w numbers
moved_whole s us vs w numbers at = record {
  values = at.values;
  vertex = moved_system s us vs w (λ system. IsVertex system at.values) at.vertex;
  settled = moved_settled s us vs w at.values
      at.settled;
  whole = moved_taken s us vs w at.values numbers at.whole;
}

pub moved_out_of_range : {E : Type 0} (s : Search E) (us vs : List (Pending E)) (w : Pending E) (k : PlaceKind) → IsOutOfRangeAt (beginning s us) w k
    → IsOutOfRangeAt (beginning s vs) w k
moved_out_of_range s us vs w (kind.Pivot count) at = moved_system s us vs w (λ system. OverflowsAt (slack_tableau system) count) at
moved_out_of_range s us vs w kind.Leaf at = record
    { multipliers = at.multipliers; refuted = moved_system s us vs w (λ system. IsRefuted system at.multipliers) at.refuted; leaves = at.leaves }
moved_out_of_range s us vs w kind.Run at = at

same_parts : {E : Type 0} (s : Search E) (us vs : List (Pending E)) (w : Pending E) (n : Node) → parts (beginning s us) w n ≡ parts (beginning s vs) w n
same_parts s us vs w _ = refl

pub moved_visits : {E : Type 0} (s : Search E) (us vs : List (Pending E)) (ws : List (Pending E)) (ns : List Node) (rest : List (Pending E))
    → Visits (beginning s us) ws ns rest → Visits (beginning s vs) ws ns rest
moved_visits s us vs ws [] rest v = v
moved_visits s us vs [] (n ∷ ns) rest v = absurd v
moved_visits s us vs (w ∷ ws) (n ∷ ns) rest v = (
  moved_node s us vs w n v.0,
  subst (λ (ps : List (Pending _)). Visits (beginning s vs) (ps ++ ws) ns rest) (same_parts s us vs w n)
      (moved_visits s us vs (parts (beginning s us) w n ++ ws) ns rest v.1),
)
