-- a system has one end, or one pivot that leaves the range first
use Rattle.ta_simplex.proofs.Common.{◌≡◌, inl, inr, ℕ, List, length, refl, sym, ap, subst, ℤ, System, Tableau, slack_tableau, variables, IsAssignment}
use Rattle.ta_simplex.proofs.Common.{SameNumbers, EndsAreDetermined, NoneLeaves, Reached, Stuck, OverflowsAt, IsRefuted, IsVertex, GivesValues, Fraction}
use Rattle.ta_simplex.specs.declared.End.{End}
use Rattle.ta_simplex.specs.Ends.{IsEnd}
use Rattle.ta_simplex.proofs.Choose.{same_row}
use Rattle.ta_simplex.proofs.RunLemmas.{reached_dictionary}
use Rattle.ta_simplex.proofs.DeterminedTableau.{SameStart, same_start}
use Rattle.ta_simplex.proofs.DeterminedSteps.{end_same, stuck_leaves, ends_within, overflow_once}
use Rattle.ta_simplex.proofs.DeterminedMultipliers.{RowGives, row_multipliers_once}
use Rattle.ta_simplex.proofs.DeterminedValues.{values_once}
use Rattle.ta_simplex.specs.declared.End.TheVariants as end

-- what a refutation says of the tableau with which solving begins
record Refutation (unknowns count : ℕ) (start : Tableau) (ts : List (ℕ × ℤ)) : Type 0 where
  pub steps : ℕ
  pub tableau : Tableau
  pub row : ℕ
  pub reached : Reached start steps tableau
  pub stuck : Stuck tableau row
  pub gives : RowGives unknowns count tableau row ts

-- what a vertex says of it
record Vertex (unknowns : ℕ) (start : Tableau) (values : List Fraction) : Type 0 where
  pub steps : ℕ
  pub tableau : Tableau
  pub reached : Reached start steps tableau
  pub ended : NoneLeaves tableau
  pub gives : GivesValues tableau unknowns values

refutation : (s z : System) (ts : List (ℕ × ℤ)) → SameStart s z → IsRefuted z ts → Refutation s.unknowns (length s.rows) (slack_tableau s) ts
refutation s z ts same r =
    let own : Refutation z.unknowns (length z.rows) (slack_tableau z) ts = record {
      steps = r.steps;
      tableau = r.tableau;
      row = r.row;
      reached = r.reached;
      stuck = r.stuck;
      gives = record { gives = r.multipliers.gives; multipliers = r.multipliers.leaf.multipliers };
    } in
    subst (λ (n : ℕ). Refutation n (length s.rows) (slack_tableau s) ts) (sym same.unknowns)
    (subst (λ (n : ℕ). Refutation z.unknowns n (slack_tableau s) ts) (sym same.count)
    (subst (λ (t : Tableau). Refutation z.unknowns (length z.rows) t ts) (sym same.tableau) own))

vertex : (s z : System) (values : List Fraction) → SameStart s z → IsVertex z values → Vertex s.unknowns (slack_tableau s) values
vertex s z values same v =
    let own : Vertex z.unknowns (slack_tableau z) values = record
    { steps = v.steps; tableau = v.tableau; reached = v.reached; ended = v.ended; gives = v.gives } in
    subst (λ (n : ℕ). Vertex n (slack_tableau s) values) (sym same.unknowns)
    (subst (λ (t : Tableau). Vertex z.unknowns t values) (sym same.tableau) own)

start_itself : (s : System) → SameStart s s
start_itself s = record { unknowns = refl; count = refl; tableau = refl }

refuted_once : (s : System) (ts us : List (ℕ × ℤ)) → Refutation s.unknowns (length s.rows) (slack_tableau s) ts
    → Refutation s.unknowns (length s.rows) (slack_tableau s) us → ts ≡ us
refuted_once s ts us r q =
    let n = s.unknowns in
    let c = length s.rows in
    let d = reached_dictionary s r.steps r.tableau r.reached in
    let here = end_same s q.steps r.steps q.tableau r.tableau q.reached (inr (q.row, q.stuck)) r.reached (inr (r.row, r.stuck)) in
    let stuck = subst (λ (t : Tableau). Stuck t q.row) here q.stuck in
    let rows = same_row (IsAssignment s) (variables s) r.tableau q.row r.row d stuck.leaves r.stuck.leaves in
    let gives = subst (λ (i : ℕ). RowGives n c r.tableau i us) rows (subst (λ (t : Tableau). RowGives n c t q.row us) here q.gives) in
    row_multipliers_once s r.tableau r.row ts us d r.gives gives

vertex_once : (s : System) (fs gs : List Fraction) → Vertex s.unknowns (slack_tableau s) fs → Vertex s.unknowns (slack_tableau s) gs → fs ≡ gs
vertex_once s fs gs v w =
    let d = reached_dictionary s v.steps v.tableau v.reached in
    let here = end_same s w.steps v.steps w.tableau v.tableau w.reached (inl w.ended) v.reached (inl v.ended) in
    values_once s v.tableau fs gs d v.gives (subst (λ (t : Tableau). GivesValues t s.unknowns gs) here w.gives)

not_both : (s : System) (ts : List (ℕ × ℤ)) (fs : List Fraction) → Refutation s.unknowns (length s.rows) (slack_tableau s) ts
    → Vertex s.unknowns (slack_tableau s) fs → ⊥
not_both s ts fs r v =
    let here = end_same s v.steps r.steps v.tableau r.tableau v.reached (inl v.ended) r.reached (inr (r.row, r.stuck)) in
    stuck_leaves r.tableau r.row r.stuck (subst NoneLeaves here v.ended)

-- however a system is written, it has one end
pub end_once : (s z : System) → SameNumbers s z → (e f : End) → IsEnd s e → IsEnd z f → e ≡ f
end_once s z same (end.Refuted ts) (end.Refuted us) h g = ap end.Refuted
    (refuted_once s ts us (refutation s s ts (start_itself s) h) (refutation s z us (same_start s z same) g))
end_once s z same (end.Refuted ts) (end.Vertex values) h g = absurd
    (not_both s ts values (refutation s s ts (start_itself s) h) (vertex s z values (same_start s z same) g))
end_once s z same (end.Vertex values) (end.Refuted us) h g = absurd
    (not_both s us values (refutation s z us (same_start s z same) g) (vertex s s values (start_itself s) h))
end_once s z same (end.Vertex values) (end.Vertex others) h g = ap end.Vertex
    (vertex_once s values others (vertex s s values (start_itself s) h) (vertex s z others (same_start s z same) g))

overflow : (s z : System) (c : ℕ) → SameStart s z → OverflowsAt (slack_tableau z) c → OverflowsAt (slack_tableau s) c
overflow s z c same o = subst (λ (t : Tableau). OverflowsAt t c) (sym same.tableau) o

-- and none where a pivot leaves the range
pub none_beside : (s z : System) → SameNumbers s z → (e : End) (k : ℕ) → IsEnd s e → OverflowsAt (slack_tableau z) k → ⊥
none_beside s z same (end.Refuted ts) k h o = ends_within s k h.steps h.tableau (overflow s z k (same_start s z same) o) h.reached (inr (h.row, h.stuck))
none_beside s z same (end.Vertex values) k h o = ends_within s k h.steps h.tableau (overflow s z k (same_start s z same) o) h.reached (inl h.ended)

pub first_once : (s z : System) → SameNumbers s z → (j k : ℕ) → OverflowsAt (slack_tableau s) j → OverflowsAt (slack_tableau z) k → j ≡ k
first_once s z same j k o q = overflow_once s j k o (overflow s z k (same_start s z same) q)

pub ends_determined : EndsAreDetermined
ends_determined = record { one = end_once; none = none_beside; first = first_once }
