-- the systems of a branch: one more, fewer, and the pivots cut or longer
use Rattle.ta_simplex.proofs.Common.{◌≡◌, ℕ, suc, ◌-◌, ◌≤◌, List, [], ◌∷◌, ◌++◌, length, map, take, drop, fewer_alike, get_or, reverse, arith, sym, ap, ◌∙◌}
use Rattle.ta_simplex.proofs.Common.{subst, Option, Some, None, ℤ, pos, ◌<ℤ◌, option_to_list, remove, replicate, append-nil, reverse-append, length-append}
use Rattle.ta_simplex.proofs.Common.{length-map, length-take-le, get_or_append_left, take-map, take-append-drop, Row, System, Tableau, slack_tableau, KeptPivot}
use Rattle.ta_simplex.proofs.Common.{kept_at, AreKept, StayInRange, MayBegin, FirstLeaving, extended, new_rows, IsCount, OverflowsAt, tableau_after, Follows}
use Rattle.ta_simplex.proofs.Common.{BeginsSystem, AddsPivots, AreStanding, LastFits, StandsOn}
use Rattle.ta_simplex.specs.declared.full_branch.Standing.{Standing}
use Rattle.ta_simplex.proofs.Prefixes.{reached_after, size_reached, follows_extended, overflow_extended}
use Rattle.ta_simplex.proofs.FollowLemmas.{follows_take, follows_append, follows_reached}

-- a greater count, and more rows
pub standing_more : {D K : Type 0} (tableau : D → Tableau) (ks : List KeptPivot) (rows : List Row) (count more most all : ℕ) (os : List (Standing D K))
    → count ≤ more → most ≤ all → AreStanding tableau ks rows count most os → AreStanding tableau ks rows more all os
standing_more tableau ks rows count more most all [] h k s = s
standing_more tableau ks rows count more most all (o ∷ os) h k s = (let p = s.0 in omega arith, let r = s.1 in omega arith, s.2, s.3)

-- without the last
pub standing_pop : {D K : Type 0} (tableau : D → Tableau) (ks : List KeptPivot) (rows : List Row) (count most : ℕ) (xs ys : List (Standing D K))
    (last : Option (Standing D K)) → xs ≡ ys ++ option_to_list last →
    AreStanding tableau ks rows count most (reverse xs) → AreStanding tableau ks rows count most (reverse ys)
standing_pop {D = D} {K = K} tableau ks rows count most xs ys None e s = subst
    (λ (os : List (Standing D K)). AreStanding tableau ks rows count most (reverse os)) (e ∙ append-nil ys) s
standing_pop {D = D} {K = K} tableau ks rows count most xs ys (Some o) e s =
    let all = subst (λ (os : List (Standing D K)). AreStanding tableau ks rows count most os) (ap reverse e ∙ reverse-append ys (o ∷ [])) s in
    standing_more tableau ks rows o.pivots count o.rows most (reverse ys) all.0 all.1 all.3

-- without the first
standing_front : {D K : Type 0} (tableau : D → Tableau) (ks : List KeptPivot) (rows : List Row) (count most : ℕ) (os ps : List (Standing D K))
    → AreStanding tableau ks rows count most (os ++ ps) → AreStanding tableau ks rows count most os
standing_front tableau ks rows count most [] ps s = tt
standing_front tableau ks rows count most (o ∷ os) ps s = (s.0, s.1, s.2, standing_front tableau ks rows o.pivots o.rows os ps s.3)

standing_behind : {D K : Type 0} (tableau : D → Tableau) (ks : List KeptPivot) (rows : List Row) (count most : ℕ) (xs : List (Standing D K))
    → AreStanding tableau ks rows count most (reverse xs) → AreStanding tableau ks rows count most (reverse (drop 1 xs))
standing_behind tableau ks rows count most [] s = tt
standing_behind {D = D} {K = K} tableau ks rows count most (x ∷ xs) s =
    standing_front tableau ks rows count most (reverse xs) (x ∷ [])
    (subst (λ (os : List (Standing D K)). AreStanding tableau ks rows count most os) (reverse-append (x ∷ []) xs) s)

pub standing_removed : {D K : Type 0} (tableau : D → Tableau) (ks : List KeptPivot) (rows : List Row) (count most : ℕ) (xs ys : List (Standing D K))
    → ys ≡ remove xs 0 → AreStanding tableau ks rows count most (reverse xs) → AreStanding tableau ks rows count most (reverse ys)
standing_removed {D = D} {K = K} tableau ks rows count most xs ys e s = subst
    (λ (os : List (Standing D K)). AreStanding tableau ks rows count most (reverse os)) (sym e) (standing_behind tableau ks rows count most xs s)

-- the pivots cut behind those that count
stands_cut : {D K : Type 0} (tableau : D → Tableau) (ks : List KeptPivot) (rows : List Row) (n : ℕ) (o : Standing D K) → o.pivots ≤ n → n ≤ length ks
    → StandsOn tableau ks rows o → StandsOn tableau (take n ks) rows o
stands_cut tableau ks rows n o h k s = record {
  below = s.below;
  follows = follows_take (slack_tableau record { unknowns = o.unknowns; rows = rows; within = s.below }) ks o.pivots n
      (tableau o.dictionary) h k s.follows;
}

standing_cut : {D K : Type 0} (tableau : D → Tableau) (ks : List KeptPivot) (rows : List Row) (count most n : ℕ) (os : List (Standing D K)) → count ≤ n
    → n ≤ length ks → AreStanding tableau ks rows count most os → AreStanding tableau (take n ks) rows count most os
standing_cut tableau ks rows count most n [] h k s = tt
standing_cut tableau ks rows count most n (o ∷ os) h k s =
    let p = s.0 in
    (p, s.1, stands_cut tableau ks (take o.rows rows) n o (omega arith) k s.2, standing_cut tableau ks rows o.pivots o.rows n os (omega arith) k s.3)

-- more pivots behind them
standing_append : {D K : Type 0} (tableau : D → Tableau) (ks more : List KeptPivot) (rows : List Row) (count most : ℕ) (os : List (Standing D K))
    → AreStanding tableau ks rows count most os → AreStanding tableau (ks ++ more) rows count most os
standing_append tableau ks more rows count most [] s = tt
standing_append tableau ks more rows count most (o ∷ os) s = (
  s.0,
  s.1,
  record {
    below = s.2.below;
    follows = follows_append
        (slack_tableau record { unknowns = o.unknowns; rows = take o.rows rows; within = s.2.below }) ks more o.pivots (tableau o.dictionary) s.2.follows;
  },
  standing_append tableau ks more rows o.pivots o.rows os s.3,
)

pub standing_on : {D K : Type 0} (tableau : D → Tableau) (pivot_of : K → KeptPivot) (rows : List Row) (most : ℕ) (old new : List K) (os : List (Standing D K))
    → AddsPivots (map pivot_of old) (map pivot_of new) → AreStanding tableau (map pivot_of old) rows (length old) most os →
    AreStanding tableau (map pivot_of new) rows (length new) most os
standing_on {D = D} {K = K} tableau pivot_of rows most old new os goes s =
    let l = length-map old pivot_of in
    let m = length-map new pivot_of in
    let a = length-append (map pivot_of old) goes.more in
    let lengths = ap (λ (qs : List KeptPivot). length qs) goes.is in
    standing_more tableau (map pivot_of new) rows (length old) (length new) most most os (omega arith) (omega arith)
    (subst (λ (qs : List KeptPivot). AreStanding tableau qs rows (length old) most os) (sym goes.is)
    (standing_append tableau (map pivot_of old) goes.more rows (length old) most os s))

-- other rows, the first of which are the same
standing_rows : {D K : Type 0} (tableau : D → Tableau) (ks : List KeptPivot) (rows other : List Row) (count most same : ℕ) (os : List (Standing D K))
    → take same rows ≡ take same other → most ≤ same → AreStanding tableau ks rows count most os → AreStanding tableau ks other count most os
standing_rows tableau ks rows other count most same [] e h s = tt
standing_rows tableau ks rows other count most same (o ∷ os) e h s =
    let r = s.1 in (
      s.0,
      r,
      subst (λ (rs : List Row). StandsOn tableau ks rs o) (fewer_alike o.rows same rows other (omega arith) e) s.2,
      standing_rows tableau ks rows other
          o.pivots o.rows same os e (omega arith) s.3,
    )

pub standing_shared : {D K : Type 0} (tableau : D → Tableau) (ks : List KeptPivot) (rows other : List Row) (count unknowns same : ℕ) (os : List (Standing D K))
    → take same rows ≡ take same other → same ≤ length other → LastFits unknowns same os → AreStanding tableau ks rows count (length rows) os →
    AreStanding tableau ks other count (length other) os
standing_shared tableau ks rows other count unknowns same [] e h f s = tt
standing_shared tableau ks rows other count unknowns same (o ∷ os) e h f s =
    let r = f.1 in
    standing_more tableau ks other count count o.rows (length other) (o ∷ os) (omega arith) (omega arith)
    (standing_rows tableau ks rows other count o.rows same (o ∷ os) e r (s.0, omega arith, s.2, s.3))

-- what extending asks
pub may_begin : (s l : System) (ks : List KeptPivot) (count : ℕ) (t : Tableau) → BeginsSystem s l → Follows (slack_tableau s) ks count t → MayBegin t l
may_begin s l ks count t b f =
    let size = size_reached s count t (follows_reached (slack_tableau s) ks count t f) in
    let columns = size.columns in
    let rows = size.rows in
    let all = ap (λ (rs : List Row). length rs) b.rows ∙ length-append s.rows (drop (length s.rows) l.rows) in
    record {
      columns = omega arith;
      rows = omega arith;
      basic_below = λ i h. (let k = size.basic_below i h in omega arith);
      non_basic_below = λ j h. (let k = size.non_basic_below j h in omega arith);
    }

pub are_kept : (s : System) (ks : List KeptPivot) (t : Tableau) → Follows (slack_tableau s) ks (length ks) t → AreKept (length t.non_basic) ks
are_kept s ks t f j h =
    let made = f.made j h in
    let u = tableau_after (slack_tableau s) ks j in
    let k = kept_at ks j in
    let size = size_reached s (length ks) t (follows_reached (slack_tableau s) ks (length ks) t f) in
    let there = size_reached s j u (reached_after (slack_tableau s) ks (length ks) f.made j (omega arith)) in
    let long = made.long in
    record {
      long = omega arith;
      column = made.inside;
      positive = subst (λ (z : ℤ). pos 0 <ℤ z)
          (get_or_append_left k.cells (replicate (length u.non_basic - length k.cells) (pos 0)) (pos 0) k.column made.inside)
          (subst (λ (cells : List ℤ). pos 0 <ℤ get_or cells k.column (pos 0)) made.cells made.enters.positive);
    }

-- the last system, where the pivots are cut behind its own
pub record CutLast {D K : Type 0} (tableau : D → Tableau) (ks : List KeptPivot) (count : ℕ) (xs : List (Standing D K)) (o : Standing D K) (l : System) : Type 0
  where
    pub shorter : System
    pub begins : BeginsSystem shorter l
    pub follows : Follows (slack_tableau shorter) ks count (tableau o.dictionary)
    pub all : count ≡ length ks
    pub standing : AreStanding tableau ks l.rows count (length l.rows) (reverse xs)

pub cut_last : {D K : Type 0} (tableau : D → Tableau) (pivot_of : K → KeptPivot) (old new : List K) (xs rest : List (Standing D K)) (o : Standing D K)
    (l : System) (same : ℕ) → xs ≡ rest ++ o ∷ [] →
    AreStanding tableau (map pivot_of old) l.rows (length old) (length l.rows) (reverse xs) → LastFits l.unknowns same (reverse xs) → new ≡ take o.pivots old
    → CutLast tableau (map pivot_of new) (length new) xs o l
cut_last {D = D} {K = K} tableau pivot_of old new xs rest o l same e s b cut =
    let turned : reverse xs ≡ o ∷ reverse rest = ap reverse e ∙ reverse-append rest (o ∷ []) in
    let st = subst (λ (os : List (Standing D K)). AreStanding tableau (map pivot_of old) l.rows (length old) (length l.rows) os) turned s in
    let fits = subst (λ (os : List (Standing D K)). LastFits l.unknowns same os) turned b in
    let on = st.2 in
    let shorter : System = record { unknowns = o.unknowns; rows = take o.rows l.rows; within = on.below } in
    let within = on.follows.within in
    let few = st.1 in
    let count_rows = length-take-le o.rows l.rows few in
    let ks = map pivot_of old in
    let p = o.pivots in
    let is : map pivot_of new ≡ take p ks = ap (map pivot_of) cut ∙ sym (take-map pivot_of p old) in
    let long = length-take-le p ks within in
    let all = length-map new pivot_of in
    let lengths = ap (λ (qs : List KeptPivot). length qs) is in
    let count : length new ≡ p = omega arith in
    let least : p ≤ p = omega arith in
    record {
      shorter = shorter;
      begins = record { unknowns = fits.0; rows = sym (take-append-drop o.rows l.rows) ∙ ap (λ (n : ℕ). take o.rows l.rows ++ drop n l.rows) (sym count_rows) };
      follows = subst (λ (n : ℕ). Follows (slack_tableau shorter) (map pivot_of new) n (tableau o.dictionary)) (sym count)
          (subst (λ (qs : List KeptPivot). Follows (slack_tableau shorter) qs p (tableau o.dictionary)) (sym is)
          (follows_take (slack_tableau shorter) ks p p (tableau o.dictionary) least within on.follows));
      all = sym all;
      standing =
          subst (λ (n : ℕ). AreStanding tableau (map pivot_of new) l.rows n (length l.rows) (reverse xs)) (sym count)
          (subst (λ (qs : List KeptPivot). AreStanding tableau qs l.rows p (length l.rows) (reverse xs)) (sym is)
          (subst (λ (os : List (Standing D K)). AreStanding tableau (take p ks) l.rows p (length l.rows) os) (sym turned)
          (standing_cut tableau ks l.rows p (length l.rows) p (o ∷ reverse rest) least within (least, few, on, st.3))));
    }

-- extending it
pub cut_extended : {D K : Type 0} (tableau : D → Tableau) (pivot_of : K → KeptPivot) (kept : List K) (xs : List (Standing D K)) (o : Standing D K) (l : System)
    (t : Tableau) → CutLast tableau (map pivot_of kept) (length kept) xs o l →
    t ≡ extended (tableau o.dictionary) (map pivot_of kept) l → StayInRange l.unknowns (map pivot_of kept) (length kept) (new_rows (tableau o.dictionary) l)
    → Follows (slack_tableau l) (map pivot_of kept) (length kept) t
cut_extended tableau pivot_of kept xs o l t cut is stay =
    let ks = map pivot_of kept in
    let all = cut.all in
    let f = subst (λ (n : ℕ). Follows (slack_tableau cut.shorter) ks n (tableau o.dictionary)) all cut.follows in
    let g = follows_extended cut.shorter l cut.begins ks (tableau o.dictionary) f
    (subst (λ (n : ℕ). StayInRange l.unknowns ks n (new_rows (tableau o.dictionary) l)) all stay) in
    subst (λ (x : Tableau). Follows (slack_tableau l) ks (length kept) x) (sym is)
    (subst (λ (n : ℕ). Follows (slack_tableau l) ks n (extended (tableau o.dictionary) ks l)) (sym all) g)

pub cut_overflows : {D K : Type 0} (tableau : D → Tableau) (pivot_of : K → KeptPivot) (kept : List K) (xs : List (Standing D K)) (o : Standing D K) (l : System)
    → CutLast tableau (map pivot_of kept) (length kept) xs o l →
    (pivot row count : ℕ) → FirstLeaving (tableau o.dictionary) (map pivot_of kept) l pivot row → IsCount (suc pivot) count
    → OverflowsAt (slack_tableau l) count
cut_overflows tableau pivot_of kept xs o l cut pivot row count first counted =
    let ks = map pivot_of kept in
    let f = subst (λ (n : ℕ). Follows (slack_tableau cut.shorter) ks n (tableau o.dictionary)) cut.all cut.follows in
    overflow_extended cut.shorter l cut.begins ks (tableau o.dictionary) f pivot row count first counted
