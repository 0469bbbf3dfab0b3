-- lists of pivots that a run makes: cut, and longer by one
use Rattle.ta_simplex.proofs.Common.{◌≡◌, inl, inr, ℕ, zero, suc, ◌-◌, ◌<◌, ◌≤◌, List, [], ◌∷◌, ◌++◌, length, take, arith, refl, sym, ap, ◌∙◌, subst, pos}
use Rattle.ta_simplex.proofs.Common.{replicate, cases_lt, append-nil, length-append, length-take-le, get_or_append_left, get_or_push, Tableau, row_of, pivoted}
use Rattle.ta_simplex.proofs.Common.{Enters, AllMergeInRange, KeptPivot, no_pivot, kept_at, pivot_in, System, slack_tableau, Reached, tableau_after, MakesPivot}
use Rattle.ta_simplex.proofs.Common.{Follows, Leaves}
use Rattle.ta_simplex.proofs.RunLemmas.{reached_dictionary}
use Rattle.ta_simplex.proofs.Prefixes.{reached_after}

pub after_same : (start : Tableau) (ks ks' : List KeptPivot) (count : ℕ) → ((j : ℕ) → j < count → kept_at ks j ≡ kept_at ks' j) → (j : ℕ) → j ≤ count
    → tableau_after start ks j ≡ tableau_after start ks' j
after_same start ks ks' count same zero h = refl
after_same start ks ks' count same (suc j) h =
    ap (λ (t : Tableau). pivoted t (kept_at ks j).row (kept_at ks j).column) (after_same start ks ks' count same j (omega arith))
    ∙ ap (λ (k : KeptPivot). pivoted (tableau_after start ks' j) k.row k.column) (same j (omega arith))

-- only the pivots that are made count
pub follows_same : (start : Tableau) (ks ks' : List KeptPivot) (count : ℕ) (t : Tableau) → ((j : ℕ) → j < count → kept_at ks j ≡ kept_at ks' j)
    → count ≤ length ks' → Follows start ks count t → Follows start ks' count t
follows_same start ks ks' count t same h f = record {
  within = h;
  made = λ j less. subst (λ (x : Tableau). MakesPivot x (kept_at ks' j)) (after_same start ks ks' count same j (omega arith))
      (subst (MakesPivot (tableau_after start ks j)) (same j less) (f.made j less));
  last = f.last ∙ after_same start ks ks' count same count (omega arith);
}

take_at : (ks : List KeptPivot) (n j : ℕ) → j < n → kept_at (take n ks) j ≡ kept_at ks j
take_at ks zero j h = absurd (omega arith)
take_at [] (suc n) j h = refl
take_at (k ∷ ks) (suc n) zero h = refl
take_at (k ∷ ks) (suc n) (suc j) h = take_at ks n j (omega arith)

pub follows_take : (start : Tableau) (ks : List KeptPivot) (count n : ℕ) (t : Tableau) → count ≤ n → n ≤ length ks → Follows start ks count t
    → Follows start (take n ks) count t
follows_take start ks count n t h less f =
    let l = length-take-le n ks less in
    follows_same start ks (take n ks) count t (λ j below. sym (take_at ks n j (omega arith))) (omega arith) f

pub follows_append : (start : Tableau) (ks more : List KeptPivot) (count : ℕ) (t : Tableau) → Follows start ks count t → Follows start (ks ++ more) count t
follows_append start ks more count t f =
    let l = length-append ks more in
    follows_same start ks (ks ++ more) count t (λ j below. sym (get_or_append_left ks more no_pivot j (omega arith))) (omega arith) f

-- the run of a list of pivots
pub follows_reached : (start : Tableau) (ks : List KeptPivot) (count : ℕ) (t : Tableau) → Follows start ks count t → Reached start count t
follows_reached start ks count t f = subst (Reached start count) (sym f.last) (reached_after start ks count f.made count (omega arith))

-- no pivot is made yet
pub follows_none : (start t : Tableau) (ks : List KeptPivot) → t ≡ start → Follows start ks 0 t
follows_none start t ks e = record { within = omega arith; made = λ j h. absurd (omega arith); last = e }

makes_here : (t : Tableau) (row column : ℕ) → Leaves t row → Enters t row column → AllMergeInRange t row column
    → length (row_of t row).cells ≡ length t.non_basic → MakesPivot t (pivot_in t row column)
makes_here t row column leaves enters in_range long =
    let none : length t.non_basic - length (row_of t row).cells ≡ 0 = omega arith in
    let inside = enters.below in
    record {
      leaves = leaves;
      enters = enters;
      in_range = in_range;
      denominator = refl;
      constant = refl;
      cells = sym (append-nil (row_of t row).cells) ∙ ap (λ (n : ℕ). (row_of t row).cells ++ replicate n (pos 0)) (sym none);
      long = omega arith;
      inside = omega arith;
    }

-- one pivot more
pub follows_push : (start : Tableau) (ks : List KeptPivot) (t : Tableau) (row column : ℕ) → Follows start ks (length ks) t → Leaves t row → Enters t row column
    → AllMergeInRange t row column → length (row_of t row).cells ≡ length t.non_basic →
    Follows start (ks ++ pivot_in t row column ∷ []) (length (ks ++ pivot_in t row column ∷ [])) (pivoted t row column)
follows_push start ks t row column f leaves enters in_range long =
    let k = pivot_in t row column in
    let all = ks ++ k ∷ [] in
    let l = length-append ks (k ∷ []) in
    let count : length all ≡ suc (length ks) = omega arith in
    let g = follows_append start ks (k ∷ []) (length ks) t f in
    let at : kept_at all (length ks) ≡ k = get_or_push ks k no_pivot (length ks) (omega arith) in
    let makes = makes_here t row column leaves enters in_range long in
    let there = subst (λ (x : KeptPivot). MakesPivot (tableau_after start all (length ks)) x) (sym at) (subst (λ (x : Tableau). MakesPivot x k) g.last makes) in
    subst (λ (n : ℕ). Follows start all n (pivoted t row column)) (sym count) record {
      within = omega arith;
      made = λ j less. elim (cases_lt j (length ks)) [
        | inl below ↦ g.made j below
        | inr last ↦ (let e : j ≡ length ks = omega arith in subst (λ (i : ℕ). MakesPivot (tableau_after start all i) (kept_at all i)) (sym e) there)
      ];
      last = ap (λ (x : Tableau). pivoted x row column) g.last ∙ ap (λ (x : KeptPivot). pivoted (tableau_after start all (length ks)) x.row x.column) (sym at);
    }

-- the pivots of a run
pub pivots_listed : (s : System) (k : ℕ) (t : Tableau) → Reached (slack_tableau s) k t → (ks : List KeptPivot) × (length ks ≡ k)
    × Follows (slack_tableau s) ks k t
pivots_listed s zero t e = ([], refl, follows_none (slack_tableau s) t [] e)
pivots_listed s (suc k) t r =
    let before = pivots_listed s k r.0 r.1 in
    let step = r.2 in
    let d = reached_dictionary s k r.0 r.1 in
    let ks = before.0 in
    let f = subst (λ (n : ℕ). Follows (slack_tableau s) ks n r.0) (sym before.1) before.2 in
    let more = follows_push (slack_tableau s) ks r.0 step.row step.column f step.leaves step.enters step.in_range (d.rows step.row step.leaves.below).long in
    let all = ks ++ pivot_in r.0 step.row step.column ∷ [] in
    let l = length-append ks (pivot_in r.0 step.row step.column ∷ []) in
    let n = before.1 in
    let count : length all ≡ suc k = omega arith in (
      all,
      count,
      subst (λ (n : ℕ). Follows (slack_tableau s) all n t) count
          (subst (λ (x : Tableau). Follows (slack_tableau s) all (length all) x) (sym step.next) more),
    )
