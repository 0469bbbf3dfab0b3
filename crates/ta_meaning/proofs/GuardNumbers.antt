-- what numbering a comparison's row does to the guards so far
use Rattle.ta_meaning.proofs.Common.{Limits, drop, ◌≡◌, ◌⊎◌, inl, inr, ℕ, ◌+◌, ◌≤◌, List, [], ◌∷◌, ◌++◌, map, length, Bool, true, false, not, ltb, ◌&&◌}
use Rattle.ta_meaning.proofs.Common.{slice_get, Some, Ok, Err, arith, sym, ap, ◌∙◌, refl, subst, list_any, AllByRecursion, map_push, length-map, cond-true}
use Rattle.ta_meaning.proofs.Common.{cond-false, false_from_ne_true, true≢false, lt-ltb, le-ltb, and_left, and_right, and_from, not_from_true, not_from_false}
use Rattle.ta_meaning.proofs.Common.{distinct_push, each_at, each_map_of, each_push, each_weaker, map_each, get_map, get_of_map, IsNormal, Row}
use Rattle.ta_meaning.proofs.Common.{plain_comparison, TreeComparison, FileFault, Distinct, RowOver, RiseRow, FallRow, Comparison, Names, guard_names, Linear}
use Rattle.ta_meaning.proofs.Common.{comparison_rows, differences_by, Guards, is_negative, is_positive, falls, has_row, with_row, is_no_threshold, is_one_more}
use Rattle.ta_meaning.proofs.Common.{is_past_limit, FirstOrMemory, where_, else_, in_guards, comparison_faults, guard_faults, ResolvedComparison, any_shared}
use Rattle.ta_meaning.proofs.Common.{is_no_guard, Has, RowAnswers, linear_of, guards_so_far, GuardsKept, GuardNumbered, GuardList, length-append, get_end}
use Rattle.ta_meaning.proofs.ComparedForms.{each_length}
use Rattle.ta_meaning.proofs.Answering.{where-false, where-first, else-left-none, else-right-first, else-left-first}
use Rattle.ta_meaning.proofs.NormalTerms.{same_linear, linear_unique}
use Rattle.ta_meaning.proofs.GuardRows.{has_at, at_has}
use Rattle.ta_meaning.proofs.GuardSigns.{any_same, rises_each, falls_each, some_shared, falls_same, rows_are, no_threshold_same}
use Rattle.ta_syntax.specs.declared.fault.FileFault.TheVariants as fault
use Rattle.ta_meaning.specs.declared.guards.GuardNumber.TheVariants as number

abbrev pub Normal : ℕ → Row → Type 0
Normal places row = IsNormal 0 places row.form.terms

-- a row among rows, by its numbers
pub has_linear : (places : ℕ) (rows : List Row) (row : Row) → Has rows row → has_row (map (linear_of places) rows) (linear_of places row) ≡ true
has_linear places rows row (n, first) =
    has_at (map (linear_of places) rows) n (linear_of places row)
    (get_map (linear_of places) rows n first.other first.named ∙ ap Some (same_linear first.other row places first.same))

pub linear_has : (places : ℕ) (rows : List Row) (row : Row) → AllByRecursion (Normal places) rows → Normal places row
    → has_row (map (linear_of places) rows) (linear_of places row) ≡ true → Has rows row
linear_has places rows row normal is t =
    let w = at_has (map (linear_of places) rows) (linear_of places row) t in
    let o = get_of_map (linear_of places) rows w.0 (linear_of places row) w.1 in
    (w.0, record { other = o.0; named = o.1; same = linear_unique o.0 row places (each_at (Normal places) rows w.0 o.0 normal o.1) is o.2 })

-- the rows after one of them was numbered, as numbers
pub record RowPlaced (places : ℕ) (rows : List Row) (row : Row) (limit : ℕ) (after : List Row) (n : ℕ) : Type 0 where
  pub linears : map (linear_of places) after ≡ with_row (map (linear_of places) rows) (linear_of places row)
  pub named : slice_get (map (linear_of places) after) n ≡ Some (linear_of places row)
  pub fits : length after ≤ limit
  pub distinct : Distinct (map (linear_of places) after)
  pub no_more : (not (has_row (map (linear_of places) rows) (linear_of places row)) && not (ltb (length (map (linear_of places) rows)) limit)) ≡ false

pub row_placed : (places limit at : ℕ) (rows after : List Row) (row : Row) (n : ℕ) → AllByRecursion (Normal places) rows → Normal places row
    → length rows ≤ limit → Distinct (map (linear_of places) rows) → RowAnswers rows row limit at after (Ok n) → RowPlaced places rows row limit after n
row_placed places limit at rows after row n normal is few distinct (inl h) =
    let ls = map (linear_of places) rows in
    let linear = linear_of places row in
    let has : has_row ls linear ≡ true = has_linear places rows row (n, h.1) in
    let same : map (linear_of places) after ≡ ls = ap (map (linear_of places)) h.0 in
    record {
      linears = same ∙ sym (cond-true (has_row ls linear) ls (ls ++ linear ∷ []) has);
      named = ap (λ (zs : List Linear). slice_get zs n) same ∙ get_map (linear_of places) rows n h.1.other h.1.named
          ∙ ap Some (same_linear h.1.other row places h.1.same);
      fits = subst (λ (zs : List Row). length zs ≤ limit) (sym h.0) few;
      distinct = subst (λ (zs : List Linear). Distinct zs) (sym same) distinct;
      no_more = and_left (not (has_row ls linear)) (not (ltb (length ls) limit)) (not_from_true (has_row ls linear) has);
    }
row_placed places limit at rows after row n normal is few distinct (inr h) =
    let ls = map (linear_of places) rows in
    let linear = linear_of places row in
    let none : has_row ls linear ≡ false = false_from_ne_true (has_row ls linear) (λ t. h.3 (linear_has places rows row normal is t)) in
    let more : map (linear_of places) after ≡ ls ++ linear ∷ [] = ap (map (linear_of places)) h.0 ∙ map_push (linear_of places) rows row in
    let count : length ls ≡ length rows = length-map rows (linear_of places) in
    let room = h.2 in
    record {
      linears = more ∙ sym (cond-false (has_row ls linear) ls (ls ++ linear ∷ []) none);
      named = ap (λ (zs : List Linear). slice_get zs n) more ∙ ap (slice_get (ls ++ linear ∷ [])) (h.1 ∙ sym count) ∙ get_end ls linear (length ls) refl;
      fits = subst (λ (zs : List Row). length zs ≤ limit) (sym h.0) (let e = length-append rows (row ∷ []) in omega arith);
      distinct = subst (λ (zs : List Linear). Distinct zs) (sym more)
          (distinct_push ls linear distinct (λ i e. true≢false (sym (has_at ls i linear e) ∙ none)));
      no_more = and_right (not (has_row ls linear)) (not (ltb (length ls) limit))
          (not_from_true (ltb (length ls) limit) (lt-ltb (length ls) limit (omega arith)));
    }

pub each_placed : (P : Row → Type 0) (rows after : List Row) (row : Row) (limit at n : ℕ) → AllByRecursion P rows → P row
    → RowAnswers rows row limit at after (Ok n) → AllByRecursion P after
each_placed P rows after row limit at n h p (inl w) = subst (λ (zs : List Row). AllByRecursion P zs) (sym w.0) h
each_placed P rows after row limit at n h p (inr w) = subst (λ (zs : List Row). AllByRecursion P zs) (sym w.0) (each_push P rows row h p)

-- one row more than the limit
pub row_more : (places limit at : ℕ) (rows after : List Row) (row : Row) (e : FileFault) → AllByRecursion (Normal places) rows → Normal places row
    → RowAnswers rows row limit at after (Err e)
    → (e ≡ fault.Memory) ⊎ ((e ≡ fault.TooMany at) ×
    ((not (has_row (map (linear_of places) rows) (linear_of places row)) && not (ltb (length (map (linear_of places) rows)) limit)) ≡ true))
row_more places limit at rows after row e normal is (inl m) = inl m
row_more places limit at rows after row e normal is (inr h) =
    let ls = map (linear_of places) rows in
    let linear = linear_of places row in
    let full = h.1 in
    let count : length ls ≡ length rows = length-map rows (linear_of places) in
    inr (
      h.0,
      and_from (not (has_row ls linear)) (not (ltb (length ls) limit))
          (not_from_false (has_row ls linear) (false_from_ne_true (has_row ls linear) (λ t. h.2 (linear_has places rows row normal is t))))
          (not_from_false (ltb (length ls) limit) (le-ltb (length ls) limit (omega arith))),
    )

pub guards_same : (a b : Guards) → a.rise ≡ b.rise → a.fall ≡ b.fall → a ≡ b
guards_same a b p q =
    let first : a ≡ record { rise = b.rise; fall = a.fall } = ap (λ (zs : List Linear). record a { rise = zs }) p in
    first ∙ ap (λ (zs : List Linear). record b { fall = zs }) q

-- a comparison without errors and the only row that it has
pub record OneRow (ns : Names) (c : TreeComparison) (row : Row) : Type 0 where
  pub none : comparison_faults (in_guards ns) c ≡ []
  pub rows : Comparison
  pub resolved : ResolvedComparison (guard_names ns) (plain_comparison c) rows
  pub only : rows.rows ≡ row ∷ []

abbrev pub size : Names → ℕ
size ns = length (guard_names ns)

pub comparison_rows_are : (ns : Names) (c : TreeComparison) (rows : Comparison) → ResolvedComparison (guard_names ns) (plain_comparison c) rows
    → comparison_rows (guard_names ns) (plain_comparison c) ≡ map (linear_of (size ns)) rows.rows
comparison_rows_are ns c rows resolved =
    rows_are (size ns) (comparison_rows (guard_names ns) (plain_comparison c)) rows.rows
    (each_length (guard_names ns) (differences_by (plain_comparison c).relation (plain_comparison c).left (plain_comparison c).right)) resolved.means.rows

one_row_is : (ns : Names) (c : TreeComparison) (row : Row) → OneRow ns c row
    → comparison_rows (guard_names ns) (plain_comparison c) ≡ linear_of (size ns) row ∷ []
one_row_is ns c row one = comparison_rows_are ns c one.rows one.resolved ∙ ap (map (linear_of (size ns))) one.only

pub one_row_over : (ns : Names) (c : TreeComparison) (row : Row) → OneRow ns c row → RowOver (size ns) row
one_row_over ns c row one = let h = subst (λ (zs : List Row). AllByRecursion (RowOver (size ns)) zs) one.only one.resolved.over in h.0

over_kinds : (ns : Names) (row : Row) → RowOver (size ns) row → RowOver (length ns.parameters + length ns.shared) row
over_kinds ns row h = subst (λ n. RowOver n row) (length-append ns.parameters ns.shared) h

kinds_over : (ns : Names) (row : Row) → RowOver (length ns.parameters + length ns.shared) row → RowOver (size ns) row
kinds_over ns row h = subst (λ n. RowOver n row) (sym (length-append ns.parameters ns.shared)) h

pub rise_normal : (l : Limits) (ns : Names) (guards : GuardList) → GuardsKept l ns guards → AllByRecursion (Normal (size ns)) guards.rise.items
rise_normal l ns guards kept = each_weaker (RiseRow (length ns.parameters) (length ns.shared)) (Normal (size ns)) guards.rise.items
    (λ r h. (kinds_over ns r h.over).below) kept.rise_rows

pub fall_normal : (l : Limits) (ns : Names) (guards : GuardList) → GuardsKept l ns guards → AllByRecursion (Normal (size ns)) guards.fall.items
fall_normal l ns guards kept = each_weaker (FallRow (length ns.parameters) (length ns.shared)) (Normal (size ns)) guards.fall.items
    (λ r h. (kinds_over ns r h.over).below) kept.fall_rows

-- the errors behind those of the comparison, at its only row
abbrev later_faults : (l : Limits) (parameters : ℕ) (g : Guards) (at : ℕ) (rows : List Linear) → List FileFault
later_faults l parameters g at rows =
    else_ (where_ (is_no_threshold parameters rows) (fault.NotThreshold at)) (where_ (is_one_more l parameters g rows) (fault.TooMany at))

-- two rows, or shared variables with coefficients of both signs
pub not_threshold : (l : Limits) (ns : Names) (before : GuardList) (c : TreeComparison) (rows : Comparison) → comparison_faults (in_guards ns) c ≡ []
    → ResolvedComparison (guard_names ns) (plain_comparison c) rows → is_no_guard (length ns.parameters) rows.rows ≡ true
    → FirstOrMemory (guard_faults l (length ns.parameters) (in_guards ns) (guards_so_far ns before) c) (fault.NotThreshold c.at)
not_threshold l ns before c rows none resolved is =
    let parameters = length ns.parameters in
    let linears = comparison_rows (guard_names ns) (plain_comparison c) in
    let test : is_no_threshold parameters linears ≡ true =
    ap (is_no_threshold parameters) (comparison_rows_are ns c rows resolved) ∙ sym (no_threshold_same parameters (size ns) rows.rows resolved.over) ∙ is in
    else-right-first (comparison_faults (in_guards ns) c) (later_faults l parameters (guards_so_far ns before) c.at linears) (fault.NotThreshold c.at) none
    (else-left-first (where_ (is_no_threshold parameters linears) (fault.NotThreshold c.at))
    (where_ (is_one_more l parameters (guards_so_far ns before) linears) (fault.TooMany c.at)) (fault.NotThreshold c.at)
    (where-first (is_no_threshold parameters linears) (fault.NotThreshold c.at) test))

-- a threshold guard is one more where its row is past the limit
threshold_alone : (l : Limits) (parameters : ℕ) (g : Guards) (r : Linear) → is_no_threshold parameters (r ∷ []) ≡ false
    → is_one_more l parameters g (r ∷ []) ≡ is_past_limit l parameters g r
threshold_alone l parameters g r threshold = ap (λ (b : Bool). not b && is_past_limit l parameters g r) threshold

pub not_past : (l : Limits) (parameters : ℕ) (g : Guards) (r : Linear) → is_no_threshold parameters (r ∷ []) ≡ false
    → is_one_more l parameters g (r ∷ []) ≡ false
    → is_past_limit l parameters g r ≡ false
not_past l parameters g r threshold no_more = sym (threshold_alone l parameters g r threshold) ∙ no_more

-- the errors of a threshold guard are that it is one more
one_more_alone : (l : Limits) (ns : Names) (before : GuardList) (c : TreeComparison) (row : Row) (more : Bool) → OneRow ns c row
    → is_no_threshold (length ns.parameters) (linear_of (size ns) row ∷ []) ≡ false
    → is_past_limit l (length ns.parameters) (guards_so_far ns before) (linear_of (size ns) row) ≡ more
    → guard_faults l (length ns.parameters) (in_guards ns) (guards_so_far ns before) c ≡ where_ more (fault.TooMany c.at)
one_more_alone l ns before c row more one threshold is =
    let parameters = length ns.parameters in
    let g = guards_so_far ns before in
    let linear = linear_of (size ns) row in
    else-left-none (comparison_faults (in_guards ns) c) (later_faults l parameters g c.at (comparison_rows (guard_names ns) (plain_comparison c))) one.none
    ∙ ap (later_faults l parameters g c.at) (one_row_is ns c row one)
    ∙ else-left-none (where_ (is_no_threshold parameters (linear ∷ [])) (fault.NotThreshold c.at))
    (where_ (is_one_more l parameters g (linear ∷ [])) (fault.TooMany c.at))
    (where-false (is_no_threshold parameters (linear ∷ [])) (fault.NotThreshold c.at) threshold)
    ∙ ap (λ b. where_ b (fault.TooMany c.at)) (threshold_alone l parameters g linear threshold ∙ is)

first_along : (faults : List FileFault) (test : Bool) (at : ℕ) (e : FileFault) → faults ≡ where_ test (fault.TooMany at) → (e ≡ fault.Memory)
    ⊎ ((e ≡ fault.TooMany at) × (test ≡ true)) → FirstOrMemory faults e
first_along faults test at e is (inl m) = inl m
first_along faults test at e is (inr h) =
    subst (λ (fs : List FileFault). FirstOrMemory fs e) (sym is)
    (subst (λ f. FirstOrMemory (where_ test (fault.TooMany at)) f) (sym h.0) (where-first test (fault.TooMany at) h.1))

-- ---- a rise guard
rise_falls : (ns : Names) (c : TreeComparison) (row : Row) → OneRow ns c row → any_shared is_negative (length ns.parameters) row.form.terms ≡ false
    → falls (length ns.parameters) (linear_of (size ns) row) ≡ false
rise_falls ns c row one rises = sym (falls_same (length ns.parameters) (size ns) row (one_row_over ns c row one).below) ∙ rises

rise_faults : (l : Limits) (ns : Names) (before : GuardList) (c : TreeComparison) (row : Row) → OneRow ns c row
    → any_shared is_negative (length ns.parameters) row.form.terms ≡ false
    → guard_faults l (length ns.parameters) (in_guards ns) (guards_so_far ns before) c ≡ where_
    (not (has_row (guards_so_far ns before).rise (linear_of (size ns) row)) && not (ltb (length (guards_so_far ns before).rise) l.rises)) (fault.TooMany c.at)
rise_faults l ns before c row one rises =
    let parameters = length ns.parameters in
    let g = guards_so_far ns before in
    let linear = linear_of (size ns) row in
    let negative = rise_falls ns c row one rises in
    one_more_alone l ns before c row (not (has_row g.rise linear) && not (ltb (length g.rise) l.rises)) one
    (and_left (falls parameters linear) (list_any is_positive (drop parameters linear.coefficients)) negative)
    (cond-false (falls parameters linear) (not (has_row g.fall linear) && not (ltb (length g.fall) l.falls))
    (not (has_row g.rise linear) && not (ltb (length g.rise) l.rises)) negative)

pub rise_refused : (l : Limits) (ns : Names) (before : GuardList) (c : TreeComparison) (row : Row) (e : FileFault) → GuardsKept l ns before → OneRow ns c row
    → any_shared is_negative (length ns.parameters) row.form.terms ≡ false → RowAnswers before.rise.items row l.rises c.at [] (Err e)
    → FirstOrMemory (guard_faults l (length ns.parameters) (in_guards ns) (guards_so_far ns before) c) e
rise_refused l ns before c row e kept one rises answers =
    let g = guards_so_far ns before in
    let linear = linear_of (size ns) row in
    first_along (guard_faults l (length ns.parameters) (in_guards ns) g c) (not (has_row g.rise linear) && not (ltb (length g.rise) l.rises)) c.at e
    (rise_faults l ns before c row one rises)
    (row_more (size ns) l.rises c.at before.rise.items [] row e (rise_normal l ns before kept) (one_row_over ns c row one).below answers)

pub rise_numbered : (l : Limits) (ns : Names) (before after : GuardList) (c : TreeComparison) (row : Row) (n : ℕ) → GuardsKept l ns before → OneRow ns c row
    → any_shared is_negative (length ns.parameters) row.form.terms ≡ false → RowAnswers before.rise.items row l.rises c.at after.rise.items (Ok n)
    → after.fall.items ≡ before.fall.items
    → (guard_faults l (length ns.parameters) (in_guards ns) (guards_so_far ns before) c ≡ [])
    × GuardNumbered l ns before (plain_comparison c) after (number.Rise n)
rise_numbered l ns before after c row n kept one rises answers same =
    let parameters = length ns.parameters in
    let shared = length ns.shared in
    let g = guards_so_far ns before in
    let linear = linear_of (size ns) row in
    let over = one_row_over ns c row one in
    let negative = rise_falls ns c row one rises in
    let placed = row_placed (size ns) l.rises c.at before.rise.items after.rise.items row n (rise_normal l ns before kept) over.below kept.rise_limit
    kept.rise_distinct answers in (
      rise_faults l ns before c row one rises ∙ where-false _ (fault.TooMany c.at) placed.no_more,
      record {
        row = linear;
        one_row = one_row_is ns c row one;
        known = one.resolved.means.known;
        kept = record {
          rise_limit = placed.fits;
          fall_limit = subst (λ (zs : List Row). length zs ≤ l.falls) (sym same) kept.fall_limit;
          rise_rows = each_placed (RiseRow parameters shared) before.rise.items after.rise.items row l.rises c.at n kept.rise_rows
              (record { over = over_kinds ns row over; rises = rises_each parameters row.form.terms rises }) answers;
          fall_rows = subst (λ (zs : List Row). AllByRecursion (FallRow parameters shared) zs) (sym same) kept.fall_rows;
          rise_distinct = placed.distinct;
          fall_distinct = subst (λ (zs : List Row). Distinct (map (linear_of (size ns)) zs)) (sym same) kept.fall_distinct;
          rise_kind = each_map_of (linear_of (size ns)) (λ (r : Linear). falls parameters r ≡ false) after.rise.items
              (each_placed (λ (r : Row). falls parameters (linear_of (size ns) r) ≡ false) before.rise.items after.rise.items row l.rises c.at n
              (map_each (linear_of (size ns)) (λ (r : Linear). falls parameters r ≡ false) before.rise.items kept.rise_kind) negative answers);
          fall_kind = subst (λ (zs : List Row). AllByRecursion (λ (r : Linear). falls parameters r ≡ true) (map (linear_of (size ns)) zs)) (sym same)
              kept.fall_kind;
        };
        guards = guards_same (guards_so_far ns after) (record { rise = with_row g.rise linear; fall = g.fall }) placed.linears
            (ap (map (linear_of (size ns))) same)
            ∙ sym (cond-false (falls parameters linear) (record { rise = g.rise; fall = with_row g.fall linear })
            (record { rise = with_row g.rise linear; fall = g.fall })
            negative);
        numbered = (negative, placed.named);
      },
    )

-- ---- a fall guard
fall_falls : (ns : Names) (c : TreeComparison) (row : Row) → OneRow ns c row → any_shared is_negative (length ns.parameters) row.form.terms ≡ true
    → falls (length ns.parameters) (linear_of (size ns) row) ≡ true
fall_falls ns c row one drops = sym (falls_same (length ns.parameters) (size ns) row (one_row_over ns c row one).below) ∙ drops

fall_faults : (l : Limits) (ns : Names) (before : GuardList) (c : TreeComparison) (row : Row) → OneRow ns c row
    → any_shared is_negative (length ns.parameters) row.form.terms ≡ true → any_shared is_positive (length ns.parameters) row.form.terms ≡ false
    → guard_faults l (length ns.parameters) (in_guards ns) (guards_so_far ns before) c ≡ where_
    (not (has_row (guards_so_far ns before).fall (linear_of (size ns) row)) && not (ltb (length (guards_so_far ns before).fall) l.falls)) (fault.TooMany c.at)
fall_faults l ns before c row one drops never =
    let parameters = length ns.parameters in
    let g = guards_so_far ns before in
    let linear = linear_of (size ns) row in
    let negative = fall_falls ns c row one drops in
    let no_positive : list_any is_positive (drop parameters linear.coefficients) ≡ false = sym
    (any_same is_positive parameters (size ns) row refl (one_row_over ns c row one).below) ∙ never in
    one_more_alone l ns before c row (not (has_row g.fall linear) && not (ltb (length g.fall) l.falls)) one
    (and_right (falls parameters linear) (list_any is_positive (drop parameters linear.coefficients)) no_positive)
    (cond-true (falls parameters linear) (not (has_row g.fall linear) && not (ltb (length g.fall) l.falls))
    (not (has_row g.rise linear) && not (ltb (length g.rise) l.rises)) negative)

pub fall_refused : (l : Limits) (ns : Names) (before : GuardList) (c : TreeComparison) (row : Row) (e : FileFault) → GuardsKept l ns before → OneRow ns c row
    → any_shared is_negative (length ns.parameters) row.form.terms ≡ true → any_shared is_positive (length ns.parameters) row.form.terms ≡ false
    → RowAnswers before.fall.items row l.falls c.at [] (Err e)
    → FirstOrMemory (guard_faults l (length ns.parameters) (in_guards ns) (guards_so_far ns before) c) e
fall_refused l ns before c row e kept one drops never answers =
    let g = guards_so_far ns before in
    let linear = linear_of (size ns) row in
    first_along (guard_faults l (length ns.parameters) (in_guards ns) g c) (not (has_row g.fall linear) && not (ltb (length g.fall) l.falls)) c.at e
    (fall_faults l ns before c row one drops never)
    (row_more (size ns) l.falls c.at before.fall.items [] row e (fall_normal l ns before kept) (one_row_over ns c row one).below answers)

pub fall_numbered : (l : Limits) (ns : Names) (before after : GuardList) (c : TreeComparison) (row : Row) (n : ℕ) → GuardsKept l ns before → OneRow ns c row
    → any_shared is_negative (length ns.parameters) row.form.terms ≡ true → any_shared is_positive (length ns.parameters) row.form.terms ≡ false
    → RowAnswers before.fall.items row l.falls c.at after.fall.items (Ok n) → after.rise.items ≡ before.rise.items
    → (guard_faults l (length ns.parameters) (in_guards ns) (guards_so_far ns before) c ≡ [])
    × GuardNumbered l ns before (plain_comparison c) after (number.Fall n)
fall_numbered l ns before after c row n kept one drops never answers same =
    let parameters = length ns.parameters in
    let shared = length ns.shared in
    let g = guards_so_far ns before in
    let linear = linear_of (size ns) row in
    let over = one_row_over ns c row one in
    let negative = fall_falls ns c row one drops in
    let placed = row_placed (size ns) l.falls c.at before.fall.items after.fall.items row n (fall_normal l ns before kept) over.below kept.fall_limit
    kept.fall_distinct
    answers in (
      fall_faults l ns before c row one drops never ∙ where-false _ (fault.TooMany c.at) placed.no_more,
      record {
        row = linear;
        one_row = one_row_is ns c row one;
        known = one.resolved.means.known;
        kept = record {
          rise_limit = subst (λ (zs : List Row). length zs ≤ l.rises) (sym same) kept.rise_limit;
          fall_limit = placed.fits;
          rise_rows = subst (λ (zs : List Row). AllByRecursion (RiseRow parameters shared) zs) (sym same) kept.rise_rows;
          fall_rows = each_placed (FallRow parameters shared) before.fall.items after.fall.items row l.falls c.at n kept.fall_rows
              (record {
                over = over_kinds ns row over;
                falls = falls_each parameters row.form.terms never;
                some_shared = some_shared is_negative parameters
                    row.form.terms drops;
              }) answers;
          rise_distinct = subst (λ (zs : List Row). Distinct (map (linear_of (size ns)) zs)) (sym same) kept.rise_distinct;
          fall_distinct = placed.distinct;
          rise_kind = subst (λ (zs : List Row). AllByRecursion (λ (r : Linear). falls parameters r ≡ false) (map (linear_of (size ns)) zs)) (sym same)
              kept.rise_kind;
          fall_kind = each_map_of (linear_of (size ns)) (λ (r : Linear). falls parameters r ≡ true) after.fall.items
              (each_placed (λ (r : Row). falls parameters (linear_of (size ns) r) ≡ true) before.fall.items after.fall.items row l.falls c.at n
              (map_each (linear_of (size ns)) (λ (r : Linear). falls parameters r ≡ true) before.fall.items kept.fall_kind) negative answers);
        };
        guards = guards_same (guards_so_far ns after) (record { rise = g.rise; fall = with_row g.fall linear }) (ap (map (linear_of (size ns))) same)
            placed.linears
            ∙ sym (cond-true (falls parameters linear) (record { rise = g.rise; fall = with_row g.fall linear })
            (record { rise = with_row g.rise linear; fall = g.fall })
            negative);
        numbered = (negative, placed.named);
      },
    )
