-- what is known of each tableau that the rule reaches
use Rattle.ta_simplex.proofs.Common.{cases_eq, cases_order, ◌≡◌, inl, inr, ℕ, zero, suc, ◌<◌, arith, sym, ap, ◌∙◌, subst, System, Tableau, pivoted, Enters}
use Rattle.ta_simplex.proofs.Common.{slack_tableau, variables, IsAssignment, DictionaryOf, IsDictionary-slack, IsDictionary-pivoted, LeastStep, Reached}
use Rattle.ta_simplex.proofs.Common.{RuleEnds}
use Rattle.ta_simplex.proofs.Choose.{same_row, same_column, not_ended}

-- it is a dictionary of the system
pub reached_dictionary : (s : System) (k : ℕ) (t : Tableau) → Reached (slack_tableau s) k t → DictionaryOf s t
reached_dictionary s zero t e = subst (DictionaryOf s) (sym e) (IsDictionary-slack s)
reached_dictionary s (suc k) t r =
    let step = r.2 in
    subst (DictionaryOf s) (sym step.next)
    (IsDictionary-pivoted (IsAssignment s) (variables s) r.0 step.row step.column (reached_dictionary s k r.0 r.1) step.leaves.below step.enters.below
    step.enters.positive)

-- a step leaves no choice
step_same : (s : System) (t a b : Tableau) → DictionaryOf s t → LeastStep t a → LeastStep t b → a ≡ b
step_same s t a b d p q =
    let rows = same_row (IsAssignment s) (variables s) t p.row q.row d p.leaves q.leaves in
    let enters = subst (λ (r : ℕ). Enters t r q.column) (sym rows) q.enters in
    let columns = same_column (IsAssignment s) (variables s) t p.row p.column q.column d p.enters enters in
    p.next ∙ ap (λ (r : ℕ). pivoted t r p.column) rows ∙ ap (λ (c : ℕ). pivoted t q.row c) columns ∙ sym q.next

pub reached_same : (s : System) (k : ℕ) (t t' : Tableau) → Reached (slack_tableau s) k t → Reached (slack_tableau s) k t' → t ≡ t'
reached_same s zero t t' r r' = r ∙ sym r'
reached_same s (suc k) t t' r r' =
    let before = reached_same s k r.0 r'.0 r.1 r'.1 in
    step_same s r.0 t t' (reached_dictionary s k r.0 r.1) r.2 (subst (λ (u : Tableau). LeastStep u t') (sym before) r'.2)

-- the step that a longer run makes after a shorter one
pub step_at : (s : System) (k j : ℕ) (t : Tableau) → Reached (slack_tableau s) k t → j < k → (u : Tableau) × (v : Tableau) × Reached (slack_tableau s) j u
    × LeastStep u v
step_at s zero j t r h = absurd (omega arith)
step_at s (suc k) j t r h =
    elim (cases_eq j k) [
      | inl same ↦ (r.0, t, subst (λ (i : ℕ). Reached (slack_tableau s) i r.0) (sym same) r.1, r.2)
      | inr other ↦ step_at s k j r.0 r.1 (omega arith)
    ]

-- no run goes on after its end
pub no_step_after : (s : System) (j k : ℕ) (t t' : Tableau) → Reached (slack_tableau s) j t → RuleEnds t → Reached (slack_tableau s) k t' → j < k → ⊥
no_step_after s j k t t' r end r' h =
    let next = step_at s k j t' r' h in
    let same = reached_same s j next.0 t next.2 r in
    let step = next.3 in
    not_ended (IsAssignment s) (variables s) next.0 step.row step.column (reached_dictionary s j next.0 next.2) step.leaves step.enters
    (subst RuleEnds (sym same) end)

pub ends_once : (s : System) (j k : ℕ) (t t' : Tableau) → Reached (slack_tableau s) j t → RuleEnds t → Reached (slack_tableau s) k t' → RuleEnds t' → j ≡ k
ends_once s j k t t' r end r' end' =
    elim (cases_order j k) [
      | inl same ↦ same
      | inr other ↦ elim other [
        | inl less ↦ absurd (no_step_after s j k t t' r end r' less)
        | inr more ↦ absurd (no_step_after s k j t' t r' end' r more)
      ]
    ]
