-- rows with copies of others behind them, and the rows of a pair's system
use Rattle.ta_implied.proofs.Common.{◌≡◌, ℕ, ◌+◌, ◌<◌, ◌≤◌, ◌^◌, neg_ℤ, List, [], ◌∷◌, ◌++◌, length, take, get_or, slice_get, Some, arith, refl, sym, ap, ◌∙◌}
use Rattle.ta_implied.proofs.Common.{subst, append_assoc, lit<, append-nil, AllByRecursion, each_at, take_next_read, AllBelow, Row, Automaton, Comparison}
use Rattle.ta_implied.proofs.Common.{FormOver, RiseRow, resilience_rows, IsCopy, AreCopies, AreCopied, resilience_of, IsNegation, IsNormal}
use Rattle.ta_linear.proofs.TermLemmas.{IsNormal-higher, coefficient-above}
use Rattle.ta_linear.proofs.NormalTerms.{normal_narrow}

copies_append : (rs qs ss ts : List Row) → AreCopies rs qs → AreCopies ss ts → AreCopies (rs ++ ss) (qs ++ ts)
copies_append [] [] ss ts h g = g
copies_append [] (q ∷ qs) ss ts h g = absurd h
copies_append (r ∷ rs) [] ss ts h g = absurd h
copies_append (r ∷ rs) (q ∷ qs) ss ts h g = (h.0, copies_append rs qs ss ts h.1 g)

pub copied_on : (some more first second third : List Row) → AreCopied some first second → AreCopied more second third → AreCopied (some ++ more) first third
copied_on some more first second third h g = record {
  added = h.added ++ g.added;
  whole = g.whole ∙ ap (λ (rs : List Row). rs ++ g.added) h.whole ∙ append_assoc first h.added g.added;
  copies = copies_append some h.added more g.added h.copies g.copies;
}

pub one_copied : (r q : Row) (rows after : List Row) → IsCopy r q → after ≡ rows ++ q ∷ [] → AreCopied (r ∷ []) rows after
one_copied r q rows after is whole = record { added = q ∷ []; whole = whole; copies = (is, tt) }

-- one more row is copied
pub row_copied : (some : List Row) (k : ℕ) (r q : Row) (old now new : List Row) → k < length some → r ≡ get_or some k r → AreCopied (take k some) old now
    → IsCopy r q → new ≡ now ++ q ∷ [] → AreCopied (take (k + 1) some) old new
row_copied some k r q old now new below is so copy whole =
    subst (λ (rs : List Row). AreCopied rs old new) (sym (take_next_read k some r below is))
    (copied_on (take k some) (r ∷ []) old now new so (one_copied r q now new copy whole))

rows_of_append : (ks js : List Comparison) → resilience_of (ks ++ js) ≡ resilience_of ks ++ resilience_of js
rows_of_append [] js = refl
rows_of_append (k ∷ ks) js = ap (λ (rs : List Row). k.rows ++ rs) (rows_of_append ks js) ∙ sym (append_assoc k.rows (resilience_of ks) (resilience_of js))

rows_of_one : (k : Comparison) → resilience_of (k ∷ []) ≡ k.rows
rows_of_one k = append-nil k.rows

-- the rows of one more comparison are copied
pub comparison_copied : (some : List Comparison) (k : ℕ) (c : Comparison) (old now new : List Row) → k < length some → c ≡ get_or some k c
    → AreCopied (resilience_of (take k some)) old now → AreCopied c.rows now new → AreCopied (resilience_of (take (k + 1) some)) old new
comparison_copied some k c old now new below is so more =
    let rows : resilience_of (take (k + 1) some) ≡ resilience_of (take k some) ++ c.rows =
    ap resilience_of (take_next_read k some c below is) ∙ rows_of_append (take k some) (c ∷ [])
    ∙ ap (λ (rs : List Row). resilience_of (take k some) ++ rs) (rows_of_one c) in
    subst (λ (rs : List Row). AreCopied rs old new) (sym rows) (copied_on (resilience_of (take k some)) c.rows old now new so more)

-- the rows of a pair's system
pub system_copies : (some none first later last : List Row) (second q negation : Row) → none ≡ [] → AreCopied some none first → IsCopy second q → later ≡ first
    ++ q ∷ [] → last ≡ later ++ negation ∷ [] → AreCopies (some ++ second ∷ negation ∷ []) last
system_copies some none first later last second q negation empty h is e f =
    let own : IsCopy negation negation = record { constant = refl; terms = refl } in
    let two : AreCopied (second ∷ negation ∷ []) first last = record {
      added = q ∷ negation ∷ [];
      whole = f ∙ ap (λ (rs : List Row). rs ++ negation ∷ []) e ∙ append_assoc first (q ∷ []) (negation ∷ []);
      copies = (is, (own, tt));
    } in
    let all = copied_on some (second ∷ negation ∷ []) none first last h two in
    let whole : last ≡ all.added = all.whole ∙ ap (λ (rs : List Row). rs ++ all.added) empty in
    subst (AreCopies (some ++ second ∷ negation ∷ [])) (sym whole) all.copies

-- a negated row has no more variables
negation_below : (n : ℕ) (negation row : Row) → n ≤ 2 ^ 32 → IsNegation negation.form row.form → IsNormal 0 n row.form.terms → IsNormal 0 n negation.form.terms
negation_below n negation row few is below =
    normal_narrow 0 (2 ^ 32) n negation.form.terms (omega arith) negation.form.normal
    (λ x beyond. is.coefficients x ∙ ap neg_ℤ (coefficient-above 0 n row.form.terms x below beyond))

below_copies : (n : ℕ) (rs qs : List Row) → AreCopies rs qs → AllBelow n rs → AllBelow n qs
below_copies n [] [] are below = tt
below_copies n [] (q ∷ qs) are below = absurd are
below_copies n (r ∷ rs) [] are below = absurd are
below_copies n (r ∷ rs) (q ∷ qs) are below = (subst (IsNormal 0 n) (sym are.0.terms) below.0, below_copies n rs qs are.1 below.1)

pub below_append : (n : ℕ) (rs qs : List Row) → AllBelow n rs → AllBelow n qs → AllBelow n (rs ++ qs)
below_append n [] qs h g = g
below_append n (r ∷ rs) qs h g = (h.0, below_append n rs qs h.1 g)

rows_below : (m n : ℕ) (rs : List Row) → m ≤ n → AllByRecursion (λ (r : Row). FormOver m r.form) rs → AllBelow n rs
rows_below m n [] le over = tt
rows_below m n (r ∷ rs) le over = (IsNormal-higher 0 m n r.form.terms le over.0.below, rows_below m n rs le over.1)

conditions_below : (m n : ℕ) (ks : List Comparison) → m ≤ n → AllByRecursion (λ (k : Comparison). AllByRecursion (λ (r : Row). FormOver m r.form) k.rows) ks
    → AllBelow n (resilience_of ks)
conditions_below m n [] le over = tt
conditions_below m n (k ∷ ks) le over = below_append n k.rows (resilience_of ks) (rows_below m n k.rows le over.0) (conditions_below m n ks le over.1)

-- each variable of a pair's system is a parameter or a shared variable
pub system_below : (a : Automaton) (before after : ℕ) (first second negation : Row) (rows : List Row) → slice_get a.rise before ≡ Some first
    → slice_get a.rise after ≡ Some second → IsNegation negation.form first.form → AreCopies (resilience_rows a ++ second ∷ negation ∷ []) rows
    → AllBelow (length a.parameters + length a.shared) rows
system_below a before after first second negation rows before_is after_is negated are =
    let n = length a.parameters + length a.shared in
    let limits = a.shape.limits in
    let parameters = limits.parameters_limit in
    let shared = limits.shared_limit in
    let large : 32 < 2 ^ 32 = lit< tt in
    let resilience = conditions_below (length a.parameters) n a.resilience.comparisons (omega arith) a.shape.resilience_over in
    let guard = (each_at (RiseRow (length a.parameters) (length a.shared)) a.rise after second a.shape.rise_rows after_is).over.below in
    let other = (each_at (RiseRow (length a.parameters) (length a.shared)) a.rise before first a.shape.rise_rows before_is).over.below in
    let last = negation_below n negation first (omega arith) negated other in
    below_copies n (resilience_rows a ++ second ∷ negation ∷ []) rows are
    (below_append n (resilience_rows a) (second ∷ negation ∷ []) resilience (guard, (last, tt)))
