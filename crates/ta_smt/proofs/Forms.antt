-- A form in normal order is determined by its numbers, so a word has one system as far as its rows are evaluated.
use Rattle.ta_smt.proofs.Common.{◌≡◌, ℕ, ◌^◌, ℤ, pos, ◌+ℤ◌, ◌≤ℤ◌, List, [], ◌∷◌, slice_get, Some, zero, suc, refl, sym, subst, ◌∙◌, same_Some, StaysInRange}
use Rattle.ta_smt.proofs.Common.{RowHolds, terms_value, Row, RowFails, RowOutOfRange, RowPasses, RowsPass, IsRowOf, AreRowsOf, LinearRow, RowStops}
use Rattle.ta_linear.proofs.NormalTerms.{normal_unique}

-- two rows have the same numbers
pub record Alike (r q : Row) : Type 0 where
  pub constant : r.form.constant ≡ q.form.constant
  pub terms : r.form.terms ≡ q.form.terms

-- rows of the code that are one row do
alike : (l : LinearRow) (r q : Row) → IsRowOf l r → IsRowOf l q → Alike r q
alike l r q is are = record {
  constant = is.constant ∙ sym are.constant;
  terms = normal_unique 0 (2 ^ 32) r.form.terms q.form.terms r.form.normal q.form.normal (λ x. is.coefficients x ∙ sym (are.coefficients x));
}

alike_back : (r q : Row) → Alike r q → Alike q r
alike_back r q same = record { constant = sym same.constant; terms = sym same.terms }

-- what is so of the numbers of one is so of those of the other
moved : (P : ℤ → List (ℕ × ℤ) → Type 0) (r q : Row) → Alike r q → P r.form.constant r.form.terms → P q.form.constant q.form.terms
moved P r q same h = subst (P q.form.constant) same.terms (subst (λ z. P z r.form.terms) same.constant h)

holds_alike : (point : ℕ → ℤ) (r q : Row) → Alike r q → RowHolds point r → RowHolds point q
holds_alike point = moved (λ z ts. pos 0 ≤ℤ (z +ℤ terms_value point ts))

passes_alike : (point : ℕ → ℤ) (r q : Row) → Alike r q → RowPasses point r → RowPasses point q
passes_alike point r q same passes = record { stays = moved (StaysInRange point) r q same passes.stays; holds = holds_alike point r q same passes.holds }

pub fails_alike : (point : ℕ → ℤ) (r q : Row) → Alike r q → RowFails point r → RowFails point q
fails_alike point r q same bad = record
    { stays = moved (StaysInRange point) r q same bad.stays; fails = λ holds. bad.fails (holds_alike point q r (alike_back r q same) holds) }

pub leaves_alike : (point : ℕ → ℤ) (r q : Row) → Alike r q → RowOutOfRange point r → RowOutOfRange point q
leaves_alike point r q same leaves = λ stays. leaves (moved (StaysInRange point) q r (alike_back r q same) stays)

-- the row at a place of a list, which is alike to one at this place of another
record Partner (rs : List Row) (j : ℕ) (q : Row) : Type 0 where
  row : Row
  at : slice_get rs j ≡ Some row
  same : Alike row q

partner : (ls : List LinearRow) (rs qs : List Row) → AreRowsOf ls rs → AreRowsOf ls qs → (j : ℕ) (q : Row) → slice_get qs j ≡ Some q → Partner rs j q
partner [] [] [] is are j q at = absurd (cc)
partner [] [] (p ∷ ps) is are j q at = absurd are
partner [] (r ∷ rs) qs is are j q at = absurd is
partner (l ∷ ls) [] qs is are j q at = absurd is
partner (l ∷ ls) (r ∷ rs) [] is are j q at = absurd are
partner (l ∷ ls) (r ∷ rs) (p ∷ ps) is are zero q at = record { row = r; at = refl; same = subst (Alike r) (same_Some p q at) (alike l r p is.0 are.0) }
partner (l ∷ ls) (r ∷ rs) (p ∷ ps) is are (suc j) q at = let more = partner ls rs ps is.1 are.1 j q at in record
    { row = more.row; at = more.at; same = more.same }

module _ (ls : List LinearRow) (rs qs : List Row) (is : AreRowsOf ls rs) (are : AreRowsOf ls qs) (point : ℕ → ℤ) where
  -- the rows of a word in one system stay in range, and pass, where those in another do
  pub rows_stay : ((j : ℕ) (r : Row) → slice_get rs j ≡ Some r → StaysInRange point r.form.constant r.form.terms) → (j : ℕ) (q : Row) → slice_get qs j ≡ Some q
      → StaysInRange point q.form.constant q.form.terms
  rows_stay stay j q at = let p = partner ls rs qs is are j q at in moved (StaysInRange point) p.row q p.same (stay j p.row p.at)

  pub rows_pass : RowsPass point rs → RowsPass point qs
  rows_pass pass j q at = let p = partner ls rs qs is are j q at in passes_alike point p.row q p.same (pass j p.row p.at)

  -- and they stop where those do
  pub rows_stop : (Bad : Row → Type 0) → ((r q : Row) → Alike r q → Bad r → Bad q) → (k : ℕ) → RowStops point Bad rs k → RowStops point Bad qs k
  rows_stop Bad moves k s =
      let p = partner ls qs rs are is k s.item s.at in
      record {
        item = p.row;
        at = p.at;
        before = λ j q less at. let r = partner ls rs qs is are j q at in passes_alike point r.row q r.same (s.before j r.row less r.at);
        bad = moves s.item p.row (alike_back p.row s.item p.same) s.bad;
      }
