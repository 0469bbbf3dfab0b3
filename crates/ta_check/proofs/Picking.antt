-- the rows that a leaf names, judged apart from the others
use Rattle.ta_check.proofs.Common.{◌≡◌, ℕ, zero, suc, ◌+◌, ◌<◌, ◌≤◌, ◌^◌, ℤ, pos, ◌+ℤ◌, ◌*ℤ◌, ◌≤ℤ◌, ◌<ℤ◌, cond, nat_lt, List, [], ◌∷◌, ◌++◌, length, map}
use Rattle.ta_check.proofs.Common.{reverse, slice_get, Option, Some, refl, sym, ap, subst, ◌∙◌, arith, weighted, AreMultipliers, LeafOf, coefficient_in}
use Rattle.ta_check.proofs.Common.{constant_in, Row, System, ArePairs, LinearRow, bound_row, IsRowOf, AreRowsOf, SystemAt, bounded_rows, BoundsWithin}
use Rattle.ta_check.proofs.Common.{rows_count, whole_system, Cursor, IsWord, here, IsJudged, part_in, column_sum, ColumnStays, CheckStays, row_at, FirstMissing}
use Rattle.ta_check.proofs.Common.{FineBefore, IsFirstFaultOfLeaf, LeafFault, RowNumber, Overflow, Positive, NotNegative, FirstLeafFault, WithoutBounds}
use Rattle.ta_check.proofs.Common.{renumbered, Pending, Search}
use Rattle.ta_linear.specs.Numbers.{InRange}
use Rattle.ta_linear.specs.Sums.{StaysInRange}
use Rattle.ta_encode.specs.Named.{row_numbered, rows_named, row_number_at, AreThere, FirstAbsent, NamesRows}
use Rattle.ta_encode.specs.declared.meaning.Bound.{Bound}
use Rattle.ta_encode.specs.declared.named.Named.TheVariants.{Rows, Absent}
use Rattle.ta_check.proofs.Leaves.{judged}

-- one list names rows of a system and another those of another, and what a function takes of them is the same one by one
Alike : (Option Row → ℤ) → List Row → List Row → List (ℕ × ℤ) → List (ℕ × ℤ) → Type 0
Alike f rs qs [] [] = Unit {0}
Alike f rs qs (t ∷ ts) (u ∷ us) = (t.1 ≡ u.1) × (f (slice_get rs t.0) ≡ f (slice_get qs u.0)) × Alike f rs qs ts us
Alike f rs qs [] (u ∷ us) = ⊥
Alike f rs qs (t ∷ ts) [] = ⊥

alike_sum : (f : Option Row → ℤ) (rs qs : List Row) (ts us : List (ℕ × ℤ)) → Alike f rs qs ts us → weighted f rs ts ≡ weighted f qs us
unfolding Alike weighted
alike_sum f rs qs [] [] h = refl
alike_sum f rs qs (t ∷ ts) (u ∷ us) h =
    ap (λ z. (z *ℤ f (slice_get rs t.0)) +ℤ weighted f rs ts) h.0
    ∙ ap (λ z. (u.1 *ℤ z) +ℤ weighted f rs ts) h.1
    ∙ ap (λ z. (u.1 *ℤ f (slice_get qs u.0)) +ℤ z) (alike_sum f rs qs ts us h.2)
alike_sum f rs qs [] (u ∷ us) h = absurd h
alike_sum f rs qs (t ∷ ts) [] h = absurd h

alike_stays : (f : Option Row → ℤ) (rs qs : List Row) (so : ℤ) (ts us : List (ℕ × ℤ)) → Alike f rs qs ts us → StaysInRange (λ k. f (slice_get rs k)) so ts
    → StaysInRange (λ k. f (slice_get qs k)) so us
unfolding Alike
alike_stays f rs qs so [] [] h stays = tt
alike_stays f rs qs so (t ∷ ts) (u ∷ us) h stays =
    let same : (t.1 *ℤ f (slice_get rs t.0)) ≡ (u.1 *ℤ f (slice_get qs u.0)) = ap (λ z. z *ℤ f (slice_get rs t.0)) h.0 ∙ ap (λ z. u.1 *ℤ z) h.1 in (
      subst InRange same stays.0,
      subst (λ z. InRange (so +ℤ z)) same stays.1,
      alike_stays f rs qs (so +ℤ (u.1 *ℤ f (slice_get qs u.0))) ts us h.2
          (subst (λ z. StaysInRange (λ k. f (slice_get rs k)) (so +ℤ z) ts) same stays.2),
    )
alike_stays f rs qs so [] (u ∷ us) h stays = absurd h
alike_stays f rs qs so (t ∷ ts) [] h stays = absurd h

alike_back : (f : Option Row → ℤ) (rs qs : List Row) (ts us : List (ℕ × ℤ)) → Alike f rs qs ts us → Alike f qs rs us ts
unfolding Alike
alike_back f rs qs [] [] h = tt
alike_back f rs qs (t ∷ ts) (u ∷ us) h = (sym h.0, sym h.1, alike_back f rs qs ts us h.2)
alike_back f rs qs [] (u ∷ us) h = absurd h
alike_back f rs qs (t ∷ ts) [] h = absurd h

-- a function that takes the same of two rows of the code that are one row of the word
Respects : (Option Row → ℤ) → Type 0
Respects f = (l : LinearRow) (r q : Row) → IsRowOf l r → IsRowOf l q → f (Some r) ≡ f (Some q)

coefficients_respect : (x : ℕ) → Respects (coefficient_in x)
unfolding Respects
coefficients_respect x l r q is also = is.coefficients x ∙ sym (also.coefficients x)

constants_respect : Respects constant_in
unfolding Respects
constants_respect l r q is also = is.constant ∙ sym also.constant

parts_respect : (n column : ℕ) → Respects (part_in n column)
unfolding Respects
parts_respect n column l r q is also =
    ap (λ z. cond (nat_lt column n) z (constant_in (Some r))) (coefficients_respect column l r q is also)
    ∙ ap (λ z. cond (nat_lt column n) (coefficient_in column (Some q)) z) (constants_respect l r q is also)

-- the row of a number
at_number : (ls : List LinearRow) (rs : List Row) (n : ℕ) → AreRowsOf ls rs → n < length ls → (r : Row) × (slice_get rs n ≡ Some r)
    × IsRowOf (row_numbered ls n) r
at_number [] rs n is below = absurd (omega arith)
at_number (l ∷ ls) (r ∷ rs) zero is below = (r, refl, is.0)
at_number (l ∷ ls) (r ∷ rs) (suc n) is below = at_number ls rs n is.1 (omega arith)
at_number (l ∷ ls) [] n is below = absurd is

-- each row that a list names is there, behind the first too
there_behind : (count : ℕ) (t : ℕ × ℤ) (ts : List (ℕ × ℤ)) → AreThere count (t ∷ ts) → AreThere count ts
there_behind count t ts there = λ i below. there (suc i) (omega arith)

-- rows that are picked in the order of a list, the first of them at place k, are the rows that it names
picked_alike : (f : Option Row → ℤ) → Respects f → (ls : List LinearRow) (rs qs : List Row) (ts : List (ℕ × ℤ)) (k : ℕ) (zs : List Row) → AreRowsOf ls rs
    → AreRowsOf (rows_named ls ts) zs → ((i : ℕ) → slice_get qs (i + k) ≡ slice_get zs i) → AreThere (length ls) ts → Alike f rs qs ts (renumbered k ts)
unfolding Alike Respects
picked_alike f respects ls rs qs [] k zs is picked place there = tt
picked_alike f respects ls rs qs (t ∷ ts) k (z ∷ zs) is picked place there =
    let r = at_number ls rs t.0 is (there 0 (omega arith)) in
    let here : slice_get qs k ≡ Some z = (let e : 0 + k ≡ k = omega arith in ap (slice_get qs) (sym e) ∙ place 0) in (
      refl,
      ap f r.1 ∙ respects (row_numbered ls t.0) r.0 z r.2 picked.0 ∙ ap f (sym here),
      picked_alike f respects ls rs qs ts (k + 1) zs is picked.1 (λ i. (let e : i + (k + 1) ≡ suc i + k = omega arith in ap (slice_get qs) e ∙ place (suc i)))
          (there_behind (length ls) t ts there),
    )
picked_alike f respects ls rs qs (t ∷ ts) k [] is picked place there = absurd picked

-- the numbers of picked rows
renumbered_count : (k : ℕ) (ts : List (ℕ × ℤ)) → length (renumbered k ts) ≡ length ts
renumbered_count k [] = refl
renumbered_count k (t ∷ ts) = ap suc (renumbered_count (k + 1) ts)

renumbered_at : (k : ℕ) (ts : List (ℕ × ℤ)) (i : ℕ) → i < length ts → row_at (renumbered k ts) i ≡ k + i
renumbered_at k [] i below = absurd (omega arith)
renumbered_at k (t ∷ ts) zero below = omega arith
renumbered_at k (t ∷ ts) (suc i) below = renumbered_at (k + 1) ts i (omega arith) ∙ (let e : k + 1 + i ≡ k + suc i = omega arith in e)

-- they rise, and multipliers stay as they are
pub renumbered_rise : (k low : ℕ) (ts : List (ℕ × ℤ)) → k ≤ low → ArePairs low ts → AreMultipliers k (2 ^ 32) (renumbered k ts)
renumbered_rise k low [] below are = tt
renumbered_rise k low (t ∷ ts) below are =
    let from = are.0 in
    let row = are.1.row in
    (omega arith, omega arith, are.1.low, renumbered_rise (k + 1) (t.0 + 1) ts (omega arith) are.2)

-- a system, and another of the rows that a list names in it
record Picked (s z : System) (ts : List (ℕ × ℤ)) : Type 0 where
  unknowns : z.unknowns ≡ s.unknowns
  count : length z.rows ≡ length ts
  there : AreThere (length s.rows) ts
  alike : (f : Option Row → ℤ) → Respects f → Alike f s.rows z.rows ts (renumbered 0 ts)

named_count : (ls : List LinearRow) (ts : List (ℕ × ℤ)) (zs : List Row) → AreRowsOf (rows_named ls ts) zs → length zs ≡ length ts
named_count ls [] [] is = refl
named_count ls (t ∷ ts) (z ∷ zs) is = ap suc (named_count ls ts zs is.1)
named_count ls [] (z ∷ zs) is = absurd is
named_count ls (t ∷ ts) [] is = absurd is

picked : (ls : List LinearRow) (s z : System) (ts : List (ℕ × ℤ)) → AreRowsOf ls s.rows → z.unknowns ≡ s.unknowns → AreRowsOf (rows_named ls ts) z.rows
    → AreThere (length ls) ts → Picked s z ts
picked ls s z ts is unknowns named there = record {
  unknowns = unknowns;
  count = named_count ls ts z.rows named;
  there = subst (λ n. AreThere n ts) (sym (rows_count ls s.rows is)) there;
  alike = λ f respects. picked_alike f respects ls s.rows z.rows ts 0 z.rows is named (λ i. (let e : i + 0 ≡ i = omega arith in ap (slice_get z.rows) e)) there;
}

-- the sums of a column
picked_sum : (s z : System) (ts : List (ℕ × ℤ)) (column : ℕ) → Picked s z ts → column_sum z (renumbered 0 ts) column ≡ column_sum s ts column
picked_sum s z ts column p =
    ap (λ n. weighted (part_in n column) z.rows (renumbered 0 ts)) p.unknowns
    ∙ sym (alike_sum (part_in s.unknowns column) s.rows z.rows ts (renumbered 0 ts) (p.alike (part_in s.unknowns column) (parts_respect s.unknowns column)))

-- a column stays in range
picked_stays : (s z : System) (ts : List (ℕ × ℤ)) (column : ℕ) → Picked s z ts → ColumnStays z (renumbered 0 ts) column → ColumnStays s ts column
picked_stays s z ts column p stays =
    alike_stays (part_in s.unknowns column) z.rows s.rows (pos 0) (renumbered 0 ts) ts
    (alike_back (part_in s.unknowns column) s.rows z.rows ts (renumbered 0 ts) (p.alike (part_in s.unknowns column) (parts_respect s.unknowns column)))
    (subst (λ n. StaysInRange (λ k. part_in n column (slice_get z.rows k)) (pos 0) (renumbered 0 ts)) p.unknowns stays)

picked_leaves : (s z : System) (ts : List (ℕ × ℤ)) (column : ℕ) → Picked s z ts → ColumnStays s ts column → ColumnStays z (renumbered 0 ts) column
picked_leaves s z ts column p stays =
    subst (λ n. StaysInRange (λ k. part_in n column (slice_get z.rows k)) (pos 0) (renumbered 0 ts)) (sym p.unknowns)
    (alike_stays (part_in s.unknowns column) s.rows z.rows (pos 0) ts (renumbered 0 ts) (p.alike (part_in s.unknowns column) (parts_respect s.unknowns column))
    stays)

picked_fine : (s z : System) (ts : List (ℕ × ℤ)) (column : ℕ) → Picked s z ts → FineBefore z (renumbered 0 ts) column → FineBefore s ts column
picked_fine s z ts column p fine = record {
  exist = p.there;
  in_range = λ c before. picked_stays s z ts c p (fine.in_range c before);
  none_positive = λ c before. subst (λ x. x ≤ℤ pos 0) (picked_sum s z ts c p) (fine.none_positive c before);
}

-- no picked row is missing
none_missing : (s z : System) (ts : List (ℕ × ℤ)) (row : ℕ) → Picked s z ts → FirstMissing z (renumbered 0 ts) row → ⊥
none_missing s z ts row p m =
    let same = renumbered_count 0 ts in
    let at = renumbered_at 0 ts m.at (omega arith) in
    omega arith

-- the first error over the picked rows is that over all
picked_fault : (s z : System) (ts : List (ℕ × ℤ)) (f : LeafFault) → Picked s z ts → IsFirstFaultOfLeaf z (renumbered 0 ts) f → IsFirstFaultOfLeaf s ts f
picked_fault s z ts (RowNumber row) p first = absurd (none_missing s z ts row p first)
picked_fault s z ts (Overflow column) p first =
    (subst (λ n. column ≤ n) p.unknowns first.0, picked_fine s z ts column p first.1, λ stays. first.2 (picked_leaves s z ts column p stays))
picked_fault s z ts (Positive unknown) p first = (
  subst (λ n. unknown < n) p.unknowns first.0,
  picked_fine s z ts unknown p first.1,
  picked_stays s z ts unknown p first.2,
  subst (λ x. pos 0 <ℤ x)
      (picked_sum s z ts unknown p) first.3,
)
picked_fault s z ts NotNegative p first = (
  subst (FineBefore s ts) p.unknowns (picked_fine s z ts z.unknowns p first.0),
  subst (ColumnStays s ts) p.unknowns (picked_stays s z ts z.unknowns p first.1),
  subst (λ n. pos 0 ≤ℤ column_sum s ts n) p.unknowns (subst (λ x. pos 0 ≤ℤ x) (picked_sum s z ts z.unknowns p) first.2),
)

-- row numbers of a line that are there
there_rise : (low count : ℕ) (ts : List (ℕ × ℤ)) → ArePairs low ts → AreThere count ts → AreMultipliers low count ts
there_rise low count [] are there = tt
there_rise low count (t ∷ ts) are there = (are.0, there 0 (omega arith), are.1.low, there_rise (t.0 + 1) count ts are.2 (there_behind count t ts there))

-- a leaf over the picked rows is one over all
picked_leaf : (s z : System) (ts : List (ℕ × ℤ)) → ArePairs 0 ts → Picked s z ts → LeafOf z (renumbered 0 ts) → LeafOf s ts
picked_leaf s z ts are p leaf = record {
  multipliers = there_rise 0 (length s.rows) ts are p.there;
  none_positive = λ x. subst (λ v. v ≤ℤ pos 0)
      (sym (alike_sum (coefficient_in x) s.rows z.rows ts (renumbered 0 ts) (p.alike (coefficient_in x) (coefficients_respect x)))) (leaf.none_positive x);
  negative = subst (λ v. v <ℤ pos 0) (sym (alike_sum constant_in s.rows z.rows ts (renumbered 0 ts) (p.alike constant_in constants_respect))) leaf.negative;
}

picked_check : (s z : System) (ts : List (ℕ × ℤ)) → Picked s z ts → CheckStays z (renumbered 0 ts) → CheckStays s ts
picked_check s z ts p stays = λ column most. picked_stays s z ts column p (stays column (subst (λ n. column ≤ n) (sym p.unknowns) most))

-- a word, a system of it, and the system of the rows of the word that multipliers name
pub record NamedRows {E : Type 0} (search : Search E) (w : Pending E) (ts : List (ℕ × ℤ)) (z : System) : Type 0 where
  pub system : System
  pub is : SystemAt search w system
  pub unknowns : z.unknowns ≡ system.unknowns
  pub named : AreRowsOf (rows_named (bounded_rows search w) ts) z.rows
  pub there : AreThere (length (bounded_rows search w)) ts

picked_named : {E : Type 0} (search : Search E) (w : Pending E) (ts : List (ℕ × ℤ)) (z : System) (n : NamedRows search w ts z) → Picked n.system z ts
picked_named search w ts z n = picked (bounded_rows search w) n.system z ts n.is.rows n.unknowns n.named n.there

-- a leaf that is judged over the rows that it names is judged over all
pub judged_picked : {E : Type 0} (search : Search E) (w : Pending E) (ts : List (ℕ × ℤ)) (z : System) → NamedRows search w ts z → ArePairs 0 ts
    → LeafOf z (renumbered 0 ts) → CheckStays z (renumbered 0 ts) → IsJudged search w ts
judged_picked search w ts z n are leaf stays =
    let q = picked_named search w ts z n in
    judged search w n.system ts n.is (picked_leaf n.system z ts are q leaf) (picked_check n.system z ts q stays)

pub fault_picked : {E : Type 0} (search : Search E) (w : Pending E) (ts : List (ℕ × ℤ)) (z : System) (f : LeafFault) → NamedRows search w ts z
    → IsFirstFaultOfLeaf z (renumbered 0 ts) f → FirstLeafFault search w ts f
fault_picked search w ts z f n first = record { system = n.system; is = n.is; first = picked_fault n.system z ts f (picked_named search w ts z n) first }

-- the first number that no row has
pub fault_absent : {E : Type 0} (search : Search E) (w : Pending E) (s : System) (ts : List (ℕ × ℤ)) (row : ℕ) → SystemAt search w s
    → FirstAbsent (length (bounded_rows search w)) ts row → FirstLeafFault search w ts (RowNumber row)
fault_absent search w s ts row is first =
    let count = rows_count (bounded_rows search w) s.rows is.rows in
    record {
      system = s;
      is = is;
      first = record {
        at = first.at;
        below = first.below;
        is = first.is;
        missing = subst (λ n. n ≤ row) (sym count) first.absent;
        first = λ j before. subst (λ n. row_number_at ts j < n) (sym count) (first.first j before);
      };
    }

-- the cursor's word has a system with its bounds
pub whole_here : {E : Type 0} (search : Search E) (c : Cursor E) (z : System) → IsWord search (here c) → z.unknowns ≤ 40000000 → WithoutBounds search (here c) z
    → (s : System) × SystemAt search (here c) s
whole_here search c z word small is = whole_system search c.start (reverse c.facts.items) c.bounds.items z (omega arith) is
    (subst (λ n. BoundsWithin n c.bounds.items) (sym is.unknowns) word.bounds)

-- the rows that were named are those of the cursor's word
pub named_here : {E : Type 0} (search : Search E) (c : Cursor E) (z rows : System) (bounds : List Bound) (ts : List (ℕ × ℤ)) → IsWord search (here c)
    → z.unknowns ≤ 40000000 → WithoutBounds search (here c) z → bounds ≡ c.bounds.items
    → NamesRows (search.rows c.start (reverse c.facts.items) ++ map bound_row bounds) z.unknowns ts (Rows rows) → NamedRows search (here c) ts rows
named_here search c z rows bounds ts word small is same names =
    let whole = whole_here search c z word small is in
    let told = subst (λ (bs : List Bound). NamesRows (search.rows c.start (reverse c.facts.items) ++ map bound_row bs) z.unknowns ts (Rows rows)) same names in
    record { system = whole.0; is = whole.1; unknowns = told.0 ∙ is.unknowns ∙ sym whole.1.unknowns; named = told.1; there = told.2 }

pub absent_here : {E : Type 0} (search : Search E) (c : Cursor E) (z : System) (bounds : List Bound) (ts : List (ℕ × ℤ)) (row : ℕ) → IsWord search (here c)
    → z.unknowns ≤ 40000000 → WithoutBounds search (here c) z → bounds ≡ c.bounds.items
    → NamesRows (search.rows c.start (reverse c.facts.items) ++ map bound_row bounds) z.unknowns ts (Absent row)
    → FirstLeafFault search (here c) ts (RowNumber row)
absent_here search c z bounds ts row word small is same names =
    let whole = whole_here search c z word small is in
    fault_absent search (here c) whole.0 ts row whole.1
    (subst (λ (bs : List Bound). FirstAbsent (length (search.rows c.start (reverse c.facts.items) ++ map bound_row bs)) ts row) same names)
