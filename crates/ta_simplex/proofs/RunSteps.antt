-- a run that keeps its pivots, step by step
use Rattle.ta_simplex.proofs.Common.{◌≡◌, ℕ, ◌^◌, ◌<◌, List, [], ◌∷◌, ◌++◌, length, map, arith, refl, sym, ap, ◌∙◌, subst, append_assoc, map-append, length-map}
use Rattle.ta_simplex.proofs.Common.{length-append, System, Tableau, pivoted, Enters, AllMergeInRange, FirstOverflow, slack_tableau, variables, IsAssignment}
use Rattle.ta_simplex.proofs.Common.{DictionaryOf, KeptPivot, pivot_in, OverflowsAt, Follows, AddsPivots, Leaves}
use Rattle.ta_simplex.proofs.RunLemmas.{reached_dictionary}
use Rattle.ta_simplex.proofs.Ends.{measure, measure_falls}
use Rattle.ta_simplex.proofs.FollowLemmas.{follows_reached, follows_push}

-- what the run reached is a dictionary of the system
pub follows_dictionary : (s : System) (ks : List KeptPivot) (count : ℕ) (t : Tableau) → Follows (slack_tableau s) ks count t → DictionaryOf s t
follows_dictionary s ks count t f = reached_dictionary s count t (follows_reached (slack_tableau s) ks count t f)

one_more : {K : Type 0} (pivot_of : K → KeptPivot) (old new : List K) (k : K) (p : KeptPivot) → new ≡ old ++ k ∷ [] → pivot_of k ≡ p
    → map pivot_of new ≡ map pivot_of old ++ p ∷ []
one_more pivot_of old new k p e is = ap (map pivot_of) e ∙ map-append pivot_of old (k ∷ []) ∙ ap (λ (x : KeptPivot). map pivot_of old ++ x ∷ []) is

-- one pivot more
pub step_follows : {K : Type 0} (pivot_of : K → KeptPivot) (s : System) (old new : List K) (k : K) (t t' : Tableau) (row column : ℕ)
    → Follows (slack_tableau s) (map pivot_of old) (length old) t → new ≡ old ++ k ∷ [] → pivot_of k ≡ pivot_in t row column →
    Leaves t row → Enters t row column → AllMergeInRange t row column → t' ≡ pivoted t row column → Follows (slack_tableau s) (map pivot_of new) (length new) t'
step_follows pivot_of s old new k t t' row column f e is leaves enters in_range next =
    let start = slack_tableau s in
    let l = length-map old pivot_of in
    let m = length-map new pivot_of in
    let g = subst (λ (n : ℕ). Follows start (map pivot_of old) n t) (sym l) f in
    let d = follows_dictionary s (map pivot_of old) (length old) t f in
    let more = follows_push start (map pivot_of old) t row column g leaves enters in_range (d.rows row leaves.below).long in
    let same = one_more pivot_of old new k (pivot_in t row column) e is in
    let all = subst (λ (ks : List KeptPivot). Follows start ks (length ks) (pivoted t row column)) (sym same) more in
    subst (λ (x : Tableau). Follows start (map pivot_of new) (length new) x) (sym next)
    (subst (λ (n : ℕ). Follows start (map pivot_of new) n (pivoted t row column)) m all)

-- the measure falls
pub step_falls : (s : System) (ks : List KeptPivot) (count : ℕ) (t t' : Tableau) (row column : ℕ) → Follows (slack_tableau s) ks count t → Leaves t row
    → Enters t row column → t' ≡ pivoted t row column → measure (variables s) t' < measure (variables s) t
step_falls s ks count t t' row column f leaves enters next =
    subst (λ (x : Tableau). measure (variables s) x < measure (variables s) t) (sym next)
    (measure_falls (IsAssignment s) (variables s) t row column (follows_dictionary s ks count t f) leaves enters)

-- the pivot's number
pub step_overflows : {K : Type 0} (pivot_of : K → KeptPivot) (s : System) (old new : List K) (k : K) (t : Tableau) (row column at count : ℕ)
    → Follows (slack_tableau s) (map pivot_of old) (length old) t → new ≡ old ++ k ∷ [] →
    Leaves t row → Enters t row column → FirstOverflow t row column at → count ≡ length new → count < 2 ^ 64 → OverflowsAt (slack_tableau s) count
step_overflows {K = K} pivot_of s old new k t row column at count f e leaves enters overflow is small =
    let l = ap (λ (ks : List K). length ks) e ∙ length-append old (k ∷ []) in
    record {
      steps = length old;
      counted = omega arith;
      tableau = t;
      reached = follows_reached (slack_tableau s) (map pivot_of old) (length old) t f;
      row = row;
      column = column;
      leaves = leaves;
      enters = enters;
      at = at;
      overflow = overflow;
    }

pub step_goes_on : {K : Type 0} (pivot_of : K → KeptPivot) (first : List KeptPivot) (old new : List K) (k : K) → AddsPivots first (map pivot_of old) → new ≡ old
    ++ k ∷ [] → AddsPivots first (map pivot_of new)
step_goes_on pivot_of first old new k g e = record {
  more = g.more ++ pivot_of k ∷ [];
  is = one_more pivot_of old new k (pivot_of k) e refl ∙ ap (λ (ks : List KeptPivot). ks ++ pivot_of k ∷ []) g.is ∙ append_assoc first g.more (pivot_of k ∷ []);
}
