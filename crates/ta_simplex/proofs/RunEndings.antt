-- The run of a system ends, or some pivot leaves the range.
use Rattle.ta_simplex.proofs.Common.{◌≡◌, ◌≢◌, ℕ, zero, suc, ◌+◌, ◌-◌, ◌^◌, ◌<◌, ◌≤◌, min, length, get_or, ⊎_elim, refl, subst, arith, cases_lt, cases_eq}
use Rattle.ta_simplex.proofs.Common.{System, Tableau, row_of, no_row, pivoted, MergesInRange, OthersMergeBelow, AllMergeInRange, FirstOverflow, slack_tableau}
use Rattle.ta_simplex.proofs.Common.{variables, Reached, RuleEnds, RunEnds, RunOverflows}
use Rattle.ta_simplex.proofs.Choose.{Chosen, choose}
use Rattle.ta_simplex.proofs.Ends.{measure, measure_falls}
use Rattle.ta_simplex.proofs.RunLemmas.{reached_dictionary}

module _ (t : Tableau) (row column : ℕ) (never : (k : ℕ) → ¬ FirstOverflow t row column k) where
  abbrev Below : ℕ → Type 0
  Below k = OthersMergeBelow row column (row_of t row) t.rows k

  -- no row is the first that is refused, so none is
  none_refused : (k : ℕ) → Below k → k < length t.rows → k ≢ row → ¬ (¬ MergesInRange column (row_of t row) (get_or t.rows k no_row))
  none_refused k below within apart refused = never k (record { below = within; apart = apart; refused = refused; first = below })

  one_more : (k : ℕ) → Below k → ((k ≢ row → k < length t.rows → MergesInRange column (row_of t row) (get_or t.rows k no_row))) → Below (k + 1)
  one_more k below here i low within apart =
      ⊎_elim
      (λ (h : i < k). below i h within apart)
      (λ (h : k ≤ i).
      let same : k ≡ i = omega arith in
      subst (λ j. MergesInRange column (row_of t row) (get_or t.rows j no_row)) same
      (here (λ e. apart (let f : i ≡ row = omega (arith, e, same) in f)) (omega arith)))
      (cases_lt i k)

  merge_from : (left k : ℕ) → k + left ≡ length t.rows → Below k → ¬ (¬ AllMergeInRange t row column)
  merge_from zero k whole below some = some (subst (λ j. Below j) (let e : k ≡ length t.rows = omega arith in e) below)
  merge_from (suc left) k whole below some =
      ⊎_elim
      (λ (e : k ≡ row). merge_from left (k + 1) (omega arith) (one_more k below (λ apart within. absurd (apart e))) some)
      (λ (ne : k ≢ row). none_refused k below (omega arith) ne
      (λ merges. merge_from left (k + 1) (omega arith) (one_more k below (λ apart within. merges)) some))
      (cases_eq k row)

  all_merge : ¬ (¬ AllMergeInRange t row column)
  all_merge = merge_from (length t.rows) 0 (omega arith) (λ i low within apart. absurd (omega arith))

module _ (s : System) (no_end : ¬ RunEnds s) (no_overflow : ¬ RunOverflows s) where
  run_from : (n k : ℕ) (t : Tableau) → measure (variables s) t < n → Reached (slack_tableau s) k t → ⊥
  run_from zero k t few reached = absurd (omega arith)
  run_from (suc n) k t few reached =
      ⊎_elim
      (λ (c : Chosen t).
      let falls = measure_falls _ (variables s) t c.row c.column (reached_dictionary s k t reached) c.leaves c.enters in
      all_merge t c.row c.column
      (λ at overflow. no_overflow (
        min (suc k) (2 ^ 64 - 1),
        record {
          steps = k;
          counted = refl;
          tableau = t;
          reached = reached;
          row = c.row;
          column = c.column;
          leaves = c.leaves;
          enters = c.enters;
          at = at;
          overflow =
              overflow;
        },
      ))
      (λ merges. run_from n (suc k) (pivoted t c.row c.column) (omega arith)
      (t, reached, record { row = c.row; column = c.column; leaves = c.leaves; enters = c.enters; in_range = merges; next = refl })))
      (λ (ended : RuleEnds t). no_end (k, t, reached, ended))
      (choose t)

  pub run_ends : ⊥
  run_ends = run_from (suc (measure (variables s) (slack_tableau s))) 0 (slack_tableau s) (omega arith) refl
