-- one step of a run by the rows of the unknowns
use Rattle.ta_simplex.proofs.Common.{◌≡◌, inl, inr, ℕ, ◌+◌, ◌^◌, ◌<◌, List, [], ◌∷◌, ◌++◌, length, set, get_or_append_left, arith, refl, sym, ap, ◌∙◌, subst}
use Rattle.ta_simplex.proofs.Common.{Option, Some, None, IsSomeAnd, slice_get, cases_lt, length-append, System, Tableau, TableauRow, row_of, basic_of}
use Rattle.ta_simplex.proofs.Common.{non_basic_of, pivoted, slack_tableau, variables, IsAssignment, no_pivot, pivot_in, Enters, NoneEnters, Leaves}
use Rattle.ta_simplex.proofs.Common.{AllMergeInRange, tableau_after, Fraction, ValueIs, GivesValues, AreLeafMultipliers, IsRefuted, IsVertex, ℤ, IsBound}
use Rattle.ta_simplex.proofs.Common.{unique_row, AreAfter, unit_row, IsRowOf, LeavingIs, IsModest, IsRevised, RevisedLaws, AreRevisedValues, IsStuckAt}
use Rattle.ta_simplex.proofs.Common.{IsUnderWay, RunsModestly}
use Rattle.ta_revised.specs.Scale.{IsScale}
use Rattle.ta_revised.specs.Slack.{slack_row_over}
use Rattle.ta_revised.specs.Chosen.{EntersBy, NoneEntersBy}
use Rattle.ta_revised.specs.Laws.{LeavesAs}
use Rattle.ta_simplex.proofs.FollowLemmas.{after_same, follows_push, follows_reached}
use Rattle.ta_simplex.proofs.VertexLemmas.{values_meet_rows}

both_some : {A : Type 0} (o : Option A) (P Q : A → Type 0) → IsSomeAnd o P → IsSomeAnd o Q → (a : A) × P a × Q a
both_some None P Q p q = absurd p
both_some (Some a) P Q p q = (a, p, q)

-- the computed row is that of the dictionary
pub row_is : RevisedLaws → (s : System) (t d : Tableau) (scale v : ℕ) (r : TableauRow) → IsRevised s t d → IsScale scale d.rows → (l : LeavesAs t v)
    → IsRowOf scale s d v r → r ≡ row_of t l.row
row_is laws s t d scale v r revised scaled l (inl x) =
    x.1 ∙ ap (row_of d) (sym l.is)
    ∙ sym (laws.rows.unknown s t d l.row revised l.leaves.below (subst (λ (w : ℕ). w < s.unknowns) (sym l.is) x.0))
row_is laws s t d scale v r revised scaled l (inr y) =
    let k = y.0 in
    let b = both_some (slice_get s.rows k) (λ row. r ≡ slack_row_over scale (length d.non_basic) d.rows v row)
    (λ row. row_of t l.row ≡ slack_row_over scale (length t.non_basic) d.rows (s.unknowns + k) row) y.2
    (laws.rows.slack s t d scale l.row k revised scaled l.leaves.below (l.is ∙ y.1)) in
    b.1 ∙ ap (λ (us : List ℕ). slack_row_over scale (length us) d.rows v b.0) revised.non_basic
    ∙ ap (λ (w : ℕ). slack_row_over scale (length t.non_basic) d.rows w b.0) y.1 ∙ sym b.2

-- what enters by the row enters in the dictionary
pub enters_is : (t : Tableau) (us : List ℕ) (r : TableauRow) (row column : ℕ) → us ≡ t.non_basic → r ≡ row_of t row → EntersBy us r column → Enters t row column
enters_is t us r row column same is e =
    let f = subst (λ (vs : List ℕ). EntersBy vs (row_of t row) column) same (subst (λ (x : TableauRow). EntersBy us x column) is e) in
    record { below = f.below; positive = f.positive; least = f.least }

pub none_enters_is : (t : Tableau) (us : List ℕ) (r : TableauRow) (row : ℕ) → us ≡ t.non_basic → r ≡ row_of t row → NoneEntersBy us r → NoneEnters t row
none_enters_is t us r row same is e =
    subst (λ (vs : List ℕ). NoneEntersBy vs (row_of t row)) same (subst (λ (x : TableauRow). NoneEntersBy us x) is e)

-- the dictionary is modest
pub modest_now : RevisedLaws → (s : System) (t d : Tableau) (scale : ℕ) → IsRevised s t d → IsScale scale d.rows
    → ((u : ℕ) → u < length d.rows → IsBound (2 ^ 31) (row_of d u)) → IsModest s.unknowns t
modest_now laws s t d scale revised scaled small =
    let count = revised.count in
    let is = λ (i : ℕ) (h : i < length t.rows) (below : basic_of t i < s.unknowns). laws.rows.unknown s t d i revised h below in
    record {
      scale = scale;
      positive = scaled.positive;
      few = scaled.few;
      multiple = λ i h below. rw (is i h below) (scaled.multiple (basic_of t i) (omega arith));
      small = λ i h below. subst (IsBound (2 ^ 31)) (sym (is i h below)) (small (basic_of t i) (omega arith));
    }

-- one pivot more
run_step : (s : System) (t : Tableau) (row column : ℕ) → RunsModestly s t → IsModest s.unknowns t → Leaves t row → Enters t row column
    → AllMergeInRange t row column → length (row_of t row).cells ≡ length t.non_basic → RunsModestly s (pivoted t row column)
run_step s t row column g modest leaves enters stay long =
    let p = pivot_in t row column in
    let count = length-append g.pivots (p ∷ []) in
    let same = λ (j : ℕ) (h : j < length g.pivots). get_or_append_left g.pivots (p ∷ []) no_pivot j h in
    record {
      pivots = g.pivots ++ p ∷ [];
      follows = follows_push (slack_tableau s) g.pivots t row column g.follows leaves enters stay long;
      modest = λ j h. (elim (cases_lt j (length g.pivots)) [
        | inl before ↦ subst (IsModest s.unknowns) (sym (after_same (slack_tableau s) (g.pivots ++ p ∷ []) g.pivots (length g.pivots) same j (omega arith)))
            (g.modest j before)
        | inr last ↦
            let at : j ≡ length g.pivots = omega arith in
            subst (IsModest s.unknowns)
            (g.follows.last ∙ sym (after_same (slack_tableau s) (g.pivots ++ p ∷ []) g.pivots (length g.pivots) same (length g.pivots) (omega arith))
            ∙ ap (tableau_after (slack_tableau s) (g.pivots ++ p ∷ [])) (sym at)) modest
      ]);
    }

-- the row that leaves
pub leaving_row : RevisedLaws → (s : System) (d : Tableau) (scale v : ℕ) (w : IsUnderWay s d) → IsScale scale d.rows → LeavingIs scale s d (Some v)
    → LeavesAs w.tableau v
leaving_row laws s d scale v w scaled leaving = laws.negatives.least s w.tableau d scale leaving.values v w.revised scaled leaving.are leaving.least

-- after the pivot the rows are under way
pub next_under_way : RevisedLaws → (s : System) (d d' : Tableau) (scale v : ℕ) (r : TableauRow) (column : ℕ) → IsUnderWay s d → IsScale scale d.rows
    → ((u : ℕ) → u < length d.rows → IsBound (2 ^ 31) (row_of d u)) → LeavingIs scale s d (Some v) → IsRowOf scale s d v r → EntersBy d.non_basic r column
    → d'.non_basic ≡ set d.non_basic column r.basic → AreAfter (length d.non_basic) column r d.rows d'.rows → IsUnderWay s d'
next_under_way laws s d d' scale v r column w scaled small leaving is_row enters columns after =
    let t = w.tableau in
    let l = leaving_row laws s d scale v w scaled leaving in
    let is = row_is laws s t d scale v r w.revised scaled l is_row in
    let e = enters_is t d.non_basic r l.row column w.revised.non_basic is enters in
    let dictionary = w.revised.dictionary in
    let modest = modest_now laws s t d scale w.revised scaled small in
    let stay = laws.stay s t l.row column dictionary modest w.modest l.leaves.below e.below e.positive in
    let same = subst (λ (us : List ℕ). AreAfter (length us) column (row_of t l.row) d.rows d'.rows) w.revised.non_basic
    (subst (λ (x : TableauRow). AreAfter (length d.non_basic) column x d.rows d'.rows) is after) in
    record {
      modest = w.modest;
      tableau = pivoted t l.row column;
      runs = run_step s t l.row column w.runs modest l.leaves e stay (dictionary.rows l.row l.leaves.below).long;
      revised = laws.pivots s t d d' l.row column w.revised l.leaves.below e.below e.positive
          (columns ∙ ap (λ (x : TableauRow). set d.non_basic column x.basic) is) same;
    }

-- nothing enters for the row that leaves
pub stuck_at : (laws : RevisedLaws) (s : System) (d : Tableau) (scale v : ℕ) (r : TableauRow) (w : IsUnderWay s d)
    (scaled : IsScale scale d.rows) (leaving : LeavingIs scale s d (Some v)) → IsRowOf scale s d v r → NoneEntersBy d.non_basic r →
    IsStuckAt s d r w.tableau (leaving_row laws s d scale v w scaled leaving).row
stuck_at laws s d scale v r w scaled leaving is_row none =
    let l = leaving_row laws s d scale v w scaled leaving in
    let is = row_is laws s w.tableau d scale v r w.revised scaled l is_row in
    record {
      revised = w.revised;
      chosen = is;
      stuck = record { leaves = l.leaves; none_enters = none_enters_is w.tableau d.non_basic r l.row w.revised.non_basic is none };
    }

-- the values of a vertex
pub gives_values : RevisedLaws → (s : System) (t d : Tableau) (values : List Fraction) → IsRevised s t d → AreRevisedValues d s.unknowns values
    → GivesValues t s.unknowns values
gives_values laws s t d values revised are =
    record {
      count = are.long;
      basic = λ i h below. subst (λ (x : TableauRow). ValueIs values (basic_of t i) x.constant x.denominator)
          (sym (laws.rows.unknown s t d i revised h below)) (are.each (basic_of t i) below);
      non_basic = λ j h below.
          let v = non_basic_of t j in
          let is : row_of d v ≡ unit_row (length t.non_basic) v j = unique_row (IsAssignment s) (variables s) t (row_of d v) (unit_row (length t.non_basic) v j)
          revised.dictionary (revised.rows v below) (laws.units s t.non_basic v j h refl) (revised.named v below) in
          subst (λ (x : TableauRow). ValueIs values v x.constant x.denominator) is (are.each v below);
    }

-- what a run comes to
pub vertex_end : RevisedLaws → (s : System) (d : Tableau) (scale : ℕ) (values : List Fraction) → IsUnderWay s d → IsScale scale d.rows
    → LeavingIs scale s d None → AreRevisedValues d s.unknowns values → IsVertex s values
vertex_end laws s d scale values w scaled none are =
    let t = w.tableau in
    let ended = laws.negatives.none s t d scale none.values w.revised scaled none.are none.least in
    let gives = gives_values laws s t d values w.revised are in
    record {
      steps = length w.runs.pivots;
      tableau = t;
      reached = follows_reached (slack_tableau s) w.runs.pivots (length w.runs.pivots) t w.runs.follows;
      ended = ended;
      gives = gives;
      meet = values_meet_rows s t values w.revised.dictionary ended gives;
    }

pub refuted_end : (s : System) (d : Tableau) (r : TableauRow) (row : ℕ) (ts : List (ℕ × ℤ)) (w : IsUnderWay s d) → IsStuckAt s d r w.tableau row
    → AreLeafMultipliers s w.tableau row ts → IsRefuted s ts
refuted_end s d r row ts w stuck multipliers = record {
  steps = length w.runs.pivots;
  tableau = w.tableau;
  row = row;
  reached = follows_reached (slack_tableau s) w.runs.pivots (length w.runs.pivots) w.tableau w.runs.follows;
  stuck = stuck.stuck;
  multipliers = multipliers;
}
