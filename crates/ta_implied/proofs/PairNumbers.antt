-- two systems of one pair of guards have the same numbers
use Rattle.ta_implied.proofs.Common.{◌≡◌, ℕ, List, [], ◌∷◌, ◌++◌, ℤ, sym, ap, ◌∙◌, subst, Row, Automaton, AreCopies, IsCopy, ImplySystem, resilience_rows}
use Rattle.ta_implied.proofs.Common.{same_Some, IsNegation, coefficient, System}
use Rattle.ta_linear.proofs.RowsAlike.{row_alike, rows_behind}
use Rattle.ta_linear.specs.SameNumbers.{RowsAlike, SameNumbers, SameRow}
use Rattle.ta_linear.specs.declared.form.Form.{Form}

copy_alike : (r q c d : Row) → SameRow r q → IsCopy r c → IsCopy q d → SameRow c d
copy_alike r q c d same is are = record {
  constant = is.constant ∙ same.constant ∙ sym are.constant;
  coefficients = λ u. ap (λ (ts : List (ℕ × ℤ)). coefficient ts u) is.terms ∙ same.coefficients u
      ∙ ap (λ (ts : List (ℕ × ℤ)). coefficient ts u) (sym are.terms);
}

copies_alike : (rs qs cs ds : List Row) → RowsAlike rs qs → AreCopies rs cs → AreCopies qs ds → RowsAlike cs ds
copies_alike [] [] [] [] same are is = tt
copies_alike [] [] [] (d ∷ ds) same are is = absurd is
copies_alike [] [] (c ∷ cs) ds same are is = absurd are
copies_alike [] (q ∷ qs) cs ds same are is = absurd same
copies_alike (r ∷ rs) [] cs ds same are is = absurd same
copies_alike (r ∷ rs) (q ∷ qs) [] ds same are is = absurd are
copies_alike (r ∷ rs) (q ∷ qs) (c ∷ cs) [] same are is = absurd is
copies_alike (r ∷ rs) (q ∷ qs) (c ∷ cs) (d ∷ ds) same are is = (copy_alike r q c d same.0 are.0 is.0, copies_alike rs qs cs ds same.1 are.1 is.1)

negation_alike : (r q : Row) (m n : Form) → r ≡ q → IsNegation m r.form → IsNegation n q.form → (m.constant ≡ n.constant)
    × ((u : ℕ) → coefficient m.terms u ≡ coefficient n.terms u)
negation_alike r q m n e is are =
    let other : IsNegation m q.form = subst (λ (p : Row). IsNegation m p.form) e is in
    (other.constant ∙ sym are.constant, λ u. other.coefficients u ∙ sym (are.coefficients u))

pub pair_numbers : (a : Automaton) (before after : ℕ) (s z : System) → ImplySystem a before after s → ImplySystem a before after z → SameNumbers s z
pair_numbers a before after s z is are =
    let guards = resilience_rows a in
    let second = same_Some is.second are.second (sym is.after_is ∙ are.after_is) in
    let first = same_Some is.first are.first (sym is.before_is ∙ are.before_is) in
    let negations = negation_alike is.first are.first is.negation.form are.negation.form first is.negated are.negated in
    let last : RowsAlike (is.second ∷ is.negation ∷ []) (are.second ∷ are.negation ∷ []) =
    (subst (λ (r : Row). SameRow is.second r) second (row_alike is.second), (record { constant = negations.0; coefficients = negations.1 }, tt)) in
    record {
      unknowns = is.unknowns ∙ sym are.unknowns;
      rows = copies_alike (guards ++ is.second ∷ is.negation ∷ []) (guards ++ are.second ∷ are.negation ∷ []) s.rows z.rows
          (rows_behind guards (is.second ∷ is.negation ∷ []) (are.second ∷ are.negation ∷ []) last) is.rows are.rows;
    }
