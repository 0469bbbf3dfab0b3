use Rattle.ta_dense.proofs.Common.{◌≡◌, inl, inr, ℕ, suc, ◌+◌, ◌<◌, List, [], ◌∷◌, ◌++◌, length, get_or, take, arith, ap, ◌∙◌, cases_lt, map-append}
use Rattle.ta_dense.proofs.Common.{length-append, length-map, get_or_append_left, get_or_push, take_more, length-take-le, range_with_len, Row, System}
use Rattle.ta_dense.proofs.Common.{TableauRow, Tableau, no_row, IsProper, slack_row_of, slack_rows, slack_tableau, row_view, views, AreProper, DenseRow}

pub slack_rows-push : (n v : ℕ) (rs : List Row) (r : Row) → slack_rows n v (rs ++ r ∷ []) ≡ slack_rows n v rs ++ slack_row_of n (v + length rs) r ∷ []
slack_rows-push n v [] r = ap (λ (x : ℕ). slack_row_of n x r ∷ []) (omega arith)
slack_rows-push n v (q ∷ rs) r = ap (λ (xs : List TableauRow). slack_row_of n v q ∷ xs)
    (slack_rows-push n (suc v) rs r ∙ ap (λ (x : ℕ). slack_rows n (suc v) rs ++ slack_row_of n x r ∷ []) (omega arith))

pub slack_rows-more : (n v : ℕ) (rs : List Row) (i slack : ℕ) (d : Row) → i < length rs → slack ≡ v + i
    → slack_rows n v (take (i + 1) rs) ≡ slack_rows n v (take i rs) ++ slack_row_of n slack (get_or rs i d) ∷ []
slack_rows-more n v rs i slack d h e =
    let l = length-take-le i rs (omega arith) in
    ap (slack_rows n v) (take_more rs i d h) ∙ slack_rows-push n v (take i rs) (get_or rs i d)
    ∙ ap (λ (x : ℕ). slack_rows n v (take i rs) ++ slack_row_of n x (get_or rs i d) ∷ []) (omega arith)

pub proper-push : (n : ℕ) (rows : List DenseRow) (r : DenseRow) → AreProper n rows → IsProper n (row_view r) → AreProper n (rows ++ r ∷ [])
proper-push n rows r all new i h =
    let l = length-map rows row_view in
    let k = length-append rows (r ∷ []) in
    rw (map-append row_view rows (r ∷ []))
    (elim (cases_lt i (length rows)) [
      | inl below ↦ rw (get_or_append_left (views rows) (row_view r ∷ []) no_row i (omega arith)) (all i below)
      | inr last ↦ rw (get_or_push (views rows) (row_view r) no_row i (omega arith)) new
    ])

pub tableau_same : (us us' : List ℕ) (rs rs' : List TableauRow) → us ≡ us' → rs ≡ rs' →
    let left : Tableau = record { non_basic = us; rows = rs } in
    let right : Tableau = record { non_basic = us'; rows = rs' } in
    left ≡ right
tableau_same us us' rs rs' e f = λ i. record { non_basic = e i; rows = f i }

pub slack_tableau-is : (s : System) (us : List ℕ) (rs : List TableauRow) → us ≡ range_with_len 0 s.unknowns → rs ≡ slack_rows s.unknowns s.unknowns s.rows →
    let left : Tableau = record { non_basic = us; rows = rs } in
    left ≡ slack_tableau s
unfolding slack_tableau
slack_tableau-is s us rs e f = tableau_same us (range_with_len 0 s.unknowns) rs (slack_rows s.unknowns s.unknowns s.rows) e f
