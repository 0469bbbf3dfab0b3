-- Each error in the list of a tree's errors is an error of the table.
use Rattle.ta_meaning.proofs.Common.{Limits, ◌≡◌, inl, inr, ℕ, Bool, true, false, not, ltb, ◌&&◌, List, [], ◌∷◌, ◌++◌, length, map, refl, sym, ap, subst, ◌∙◌}
use Rattle.ta_meaning.proofs.Common.{append_assoc, flat_map, bytes_eq, false≢true, true≢false, or_cases, not-false, cases_Bool, cond-true, cond-false, not-true}
use Rattle.ta_meaning.proofs.Common.{Decides-ltb, append-nil, map-append, map_push, bytes_eq-Decides, AllByRecursion, distinct_push_apart, each_append}
use Rattle.ta_meaning.proofs.Common.{each_push, each_weaker, push-split, In-left, In-map, In-right, in-here, plain_sum, plain_name, plain_comparison, Terms}
use Rattle.ta_meaning.proofs.Common.{Term, Factor, term, number, times, alone, blank, nested, Spelled, Digits, TreeSum, TreeComparison, TreeUpdate, TreeRule}
use Rattle.ta_meaning.proofs.Common.{TreeEvent, TreePattern, Tree, FileFault, Distinct, In, number_of, has_name, Linear, linear_sum, comparison_rows}
use Rattle.ta_meaning.proofs.Common.{is_large_linear, any_large, guard_names, all_names, names_of, Guards, no_guards, falls, same_row, has_row, with_row}
use Rattle.ta_meaning.proofs.Common.{with_guards, is_no_threshold, is_past_limit, is_one_more, Scope, WithFaults, where_, else_, is_long, declared_faults}
use Rattle.ta_meaning.proofs.Common.{declarations_faults, used_faults, listed_faults, digits_faults, linear_term, sum_faults, comparison_faults}
use Rattle.ta_meaning.proofs.Common.{condition_faults, counted, guards_then, guard_faults, guards_faults, guards_with, in_parameters, in_guards, in_conditions}
use Rattle.ta_meaning.proofs.Common.{updates_faults, rule_faults, rules_faults, event_faults, events_faults, pattern_faults, patterns_faults, location_spelled}
use Rattle.ta_meaning.proofs.Common.{any_initial, processes_faults, names_faults, meaning_faults, SeenTerms, SeenTerm, SeenFactor, seen_none, seen_more}
use Rattle.ta_meaning.proofs.Common.{seen_number, seen_times, seen_alone, seen_blank, seen_named, seen_nested, seen_sum, plain_of_terms, plain_of_term}
use Rattle.ta_meaning.proofs.Common.{plain_of_factor, names_of_terms, names_of_term, names_of_factor, numbers_of_terms, numbers_of_term, numbers_of_factor}
use Rattle.ta_meaning.proofs.Common.{PlacedTerm, placed, terms_of_terms, terms_of_term, terms_of_factor, and_parts, or_parts, ltb-false}
use Rattle.std.proofs.lemmas.Grind.{flat_map-append}
use Rattle.ta_meaning.specs.Table.{Repeats, rule_name, tree_pattern_name, tree_event_name, updated_name, place_names, AreApart, apart_places, apart_rules}
use Rattle.ta_meaning.specs.Table.{apart_patterns, apart_events, apart_updates, apart_empty, apart_after, IsDeclared, declared_file, declared_place}
use Rattle.ta_meaning.specs.Table.{declared_rule, declared_pattern, declared_event, HasComparison, in_resilience, in_guard, in_start, in_event, HasSum}
use Rattle.ta_meaning.specs.Table.{sum_of_processes, sum_at_left, sum_at_right, at_locations, at_shared, at_events, IsUsed, used_from, used_to, used_update}
use Rattle.ta_meaning.specs.Table.{used_empty, used_after, used_sum, IsNumberOf, number_of_update, number_in_sum, guards_of_rule, tree_guards, tree_guard_rows}
use Rattle.ta_meaning.specs.Table.{IsRowAmong, IsOneMore, IsFaultOf, repeated, unknown, wrong_kind, long, large_number, large_term, large_row, large_sum}
use Rattle.ta_meaning.specs.Table.{one_more, no_threshold, no_initial, FaultsAreOfTheTable}
use Rattle.ta_meaning.proofs.Answering.{not-where, none-else-left, none-else-right}
use Rattle.ta_meaning.proofs.GuardRows.{row_decides}
use Rattle.ta_meaning.proofs.GuardSteps.{guard_falls, guard_rises}
use Rattle.ta_meaning.proofs.SeenSums.{judged_of_terms, judged_of_term, judged_of_factor, SeenSum, every_sum_seen}
use Rattle.ta_syntax.specs.declared.fault.FileFault.TheVariants as fault

-- ---- lists of errors
each-where : (P : FileFault → Type 0) (test : Bool) (f : FileFault) → (test ≡ true → P f) → AllByRecursion P (where_ test f)
each-where P true f h = (h refl, tt)
each-where P false f h = tt

each-else : (P : FileFault → Type 0) (a b : List FileFault) → AllByRecursion P a → (a ≡ [] → AllByRecursion P b) → AllByRecursion P (else_ a b)
each-else P [] b ha hb = hb refl
each-else P (f ∷ a) b ha hb = ha

-- ---- names

-- a name that some name behind which it stands spells the same
repeats-behind : (earlier later : List Spelled) (n : Spelled) → has_name (map plain_name earlier) n.name ≡ true → Repeats (earlier ++ n ∷ later) n
repeats-behind [] later n h = absurd (false≢true h)
repeats-behind (m ∷ earlier) later n h = elim (or_cases (bytes_eq m.name n.name) (has_name (map plain_name earlier) n.name) h) [
  | inl e ↦ inl ((bytes_eq-Decides m.name n.name).0 e, in-here earlier later n)
  | inr e ↦ inr (repeats-behind earlier later n e)
]

module _ (l : Limits) (t : Tree) where
  abbrev P : FileFault → Type 0
  P = IsFaultOf l t

  abbrev AllOf : List FileFault → Type 0
  AllOf fs = AllByRecursion (IsFaultOf l t) fs

  together : (a b : List FileFault) → AllOf a → AllOf b → AllOf (a ++ b)
  together a b ha hb = each_append (IsFaultOf l t) a b ha hb

  used-name : (s : Scope) (n : Spelled) → IsUsed t s n → AllOf (used_faults s.places s.allowed n)
  used-name s n h =
      let first = where_ (not (has_name s.places n.name)) (fault.Unknown n.at) in
      let second = where_ (not (has_name s.allowed n.name)) (fault.WrongKind n.at) in
      each-else P first second
      (each-where P (not (has_name s.places n.name)) (fault.Unknown n.at) (λ e. unknown s n h (not-true (has_name s.places n.name) e) refl))
      (λ none. each-where P (not (has_name s.allowed n.name)) (fault.WrongKind n.at)
      (λ e. wrong_kind s n h (not-false (has_name s.places n.name) (not-where (not (has_name s.places n.name)) (fault.Unknown n.at) none))
      (not-true (has_name s.allowed n.name) e) refl))

  twice : (all earlier later : List Spelled) (n : Spelled) → AreApart t all → all ≡ earlier ++ n ∷ later
      → AllOf (where_ (has_name (map plain_name earlier) n.name) (fault.Duplicate n.at))
  twice all earlier later n apart place =
      each-where P (has_name (map plain_name earlier) n.name) (fault.Duplicate n.at)
      (λ e. repeated all n apart (subst (λ (z : List Spelled). Repeats z n) (sym place) (repeats-behind earlier later n e)) refl)

  too_long : (n : Spelled) → IsDeclared t n → AllOf (where_ (is_long n) (fault.TooLarge n.at))
  too_long n h = each-where P (is_long n) (fault.TooLarge n.at) (λ e. long n h ((Decides-ltb 64 (length n.name)).0 e) refl)

  declared-name : (all earlier later : List Spelled) (n : Spelled) → AreApart t all → all ≡ earlier ++ n ∷ later → IsDeclared t n
      → AllOf (declared_faults (map plain_name earlier) n)
  declared-name all earlier later n apart place h =
      each-else P (where_ (has_name (map plain_name earlier) n.name) (fault.Duplicate n.at)) (where_ (is_long n) (fault.TooLarge n.at))
      (twice all earlier later n apart place) (λ none. too_long n h)

  declared-names : (all earlier rest later : List Spelled) → AreApart t all → all ≡ earlier ++ (rest ++ later) → ((n : Spelled) → In n rest → IsDeclared t n)
      → AllOf (declarations_faults (map plain_name earlier) rest)
  declared-names all earlier [] later apart place h = tt
  declared-names all earlier (n ∷ rest) later apart place h =
      together (declared_faults (map plain_name earlier) n) (declarations_faults (map plain_name earlier ++ n.name ∷ []) rest)
      (declared-name all earlier (rest ++ later) n apart place (h n (inl refl)))
      (subst (λ (names : List (List ℕ)). AllOf (declarations_faults names rest)) (map_push plain_name earlier n)
      (declared-names all (earlier ++ n ∷ []) rest later apart (push-split all earlier (rest ++ later) n place) (λ m i. h m (inr i))))

  once-name : (s : Scope) (all earlier later : List Spelled) (n : Spelled) → AreApart t all → all ≡ earlier ++ n ∷ later → IsUsed t s n
      → AllOf (else_ (where_ (has_name (map plain_name earlier) n.name) (fault.Duplicate n.at)) (used_faults s.places s.allowed n))
  once-name s all earlier later n apart place h =
      each-else P (where_ (has_name (map plain_name earlier) n.name) (fault.Duplicate n.at)) (used_faults s.places s.allowed n)
      (twice all earlier later n apart place) (λ none. used-name s n h)

  listed-names : (s : Scope) (all earlier rest : List Spelled) → AreApart t all → all ≡ earlier ++ rest → ((n : Spelled) → In n rest → IsUsed t s n)
      → AllOf (listed_faults s.places s.allowed (map plain_name earlier) rest)
  listed-names s all earlier [] apart place h = tt
  listed-names s all earlier (n ∷ rest) apart place h =
      together (else_ (where_ (has_name (map plain_name earlier) n.name) (fault.Duplicate n.at)) (used_faults s.places s.allowed n))
      (listed_faults s.places s.allowed (map plain_name earlier ++ n.name ∷ []) rest)
      (once-name s all earlier rest n apart place (h n (inl refl)))
      (subst (λ (names : List (List ℕ)). AllOf (listed_faults s.places s.allowed names rest)) (map_push plain_name earlier n)
      (listed-names s all (earlier ++ n ∷ []) rest apart (push-split all earlier rest n place) (λ m i. h m (inr i))))

  -- ---- sums

  number-fault : (d : Digits) → IsNumberOf t d → AllOf (digits_faults d)
  number-fault d h = each-where P (ltb 1000000000 (number_of d.text)) (fault.TooLarge d.at)
      (λ e. large_number d h ((Decides-ltb 1000000000 (number_of d.text)).0 e) refl)

  -- the names, numbers and terms of a part are those of a sum of the tree
  record PartOf (s : Scope) (names : List Spelled) (numbers : List Digits) (terms : List PlacedTerm) : Type 0 where
    used : (n : Spelled) → In n names → IsUsed t s n
    number : (d : Digits) → In d numbers → IsNumberOf t d
    large : (x : PlacedTerm) → In x terms → is_large_linear (linear_term s.allowed x.term) ≡ true → IsFaultOf l t (fault.TooLarge x.at)

  left-part : (s : Scope) (n m : List Spelled) (d e : List Digits) (x y : List PlacedTerm) → PartOf s (n ++ m) (d ++ e) (x ++ y) → PartOf s n d x
  left-part s n m d e x y h = record {
    used = λ z i. h.used z (In-left z n m i);
    number = λ z i. h.number z (In-left z d e i);
    large = λ z i. h.large z (In-left z x y i);
  }

  right-part : (s : Scope) (n m : List Spelled) (d e : List Digits) (x y : List PlacedTerm) → PartOf s (n ++ m) (d ++ e) (x ++ y) → PartOf s m e y
  right-part s n m d e x y h = record {
    used = λ z i. h.used z (In-right z n m i);
    number = λ z i. h.number z (In-right z d e i);
    large = λ z i. h.large z (In-right z x y i);
  }

  whole-term : (s : Scope) (at : ℕ) (x z : Term) (parts : List FileFault) → z ≡ x → AllOf parts
      → (is_large_linear (linear_term s.allowed x) ≡ true → IsFaultOf l t (fault.TooLarge at))
      → AllOf (else_ parts (where_ (is_large_linear (linear_term s.allowed z)) (fault.TooLarge at)))
  whole-term s at x z parts same h large =
      each-else P parts (where_ (is_large_linear (linear_term s.allowed z)) (fault.TooLarge at)) h
      (λ none. each-where P (is_large_linear (linear_term s.allowed z)) (fault.TooLarge at)
      (λ e. large (ap (λ (y : Term). is_large_linear (linear_term s.allowed y)) (sym same) ∙ e)))

  mutual
    plain-terms : (s : Scope) (ts : SeenTerms) → (judged_of_terms s ts).plain ≡ plain_of_terms ts
    plain-terms s seen_none = refl
    plain-terms s (seen_more g x ts) = ap (λ (z : Term). term g z (judged_of_terms s ts).plain) (plain-term s x)
        ∙ ap (λ (z : Terms). term g (plain_of_term x) z) (plain-terms s ts)

    plain-term : (s : Scope) (x : SeenTerm) → (judged_of_term s x).plain ≡ plain_of_term x
    plain-term s (seen_number at d) = refl
    plain-term s (seen_times at d f) = ap (λ (z : Factor). times d.text z) (plain-factor s f)
    plain-term s (seen_alone at f) = ap (λ (z : Factor). alone z) (plain-factor s f)
    plain-term s (seen_blank at) = refl

    plain-factor : (s : Scope) (f : SeenFactor) → (judged_of_factor s f).plain ≡ plain_of_factor f
    plain-factor s (seen_named n) = refl
    plain-factor s (seen_nested ts) = ap (λ (z : Terms). nested z) (plain-terms s ts)

  mutual
    terms-faults : (s : Scope) (ts : SeenTerms) → PartOf s (names_of_terms ts) (numbers_of_terms ts) (terms_of_terms ts) → AllOf (judged_of_terms s ts).faults
    terms-faults s seen_none h = tt
    terms-faults s (seen_more g x ts) h =
        together (judged_of_term s x).faults (judged_of_terms s ts).faults
        (term-faults s x (left-part s (names_of_term x) (names_of_terms ts) (numbers_of_term x) (numbers_of_terms ts) (terms_of_term x) (terms_of_terms ts) h))
        (terms-faults s ts (right-part s (names_of_term x) (names_of_terms ts) (numbers_of_term x) (numbers_of_terms ts) (terms_of_term x) (terms_of_terms ts)
        h))

    term-faults : (s : Scope) (x : SeenTerm) → PartOf s (names_of_term x) (numbers_of_term x) (terms_of_term x) → AllOf (judged_of_term s x).faults
    term-faults s (seen_number at d) h =
        whole-term s at (number d.text) (number d.text) (digits_faults d ++ []) refl (together (digits_faults d) [] (number-fault d (h.number d (inl refl))) tt)
        (h.large (placed at (number d.text)) (inl refl))
    term-faults s (seen_times at d f) h =
        let x : Term = times d.text (plain_of_factor f) in
        whole-term s at x (times d.text (judged_of_factor s f).plain) (digits_faults d ++ (judged_of_factor s f).faults) (plain-term s (seen_times at d f))
        (together (digits_faults d) (judged_of_factor s f).faults (number-fault d (h.number d (inl refl)))
        (factor-faults s f (right-part s [] (names_of_factor f) (d ∷ []) (numbers_of_factor f) (placed at x ∷ []) (terms_of_factor f) h)))
        (h.large (placed at x) (inl refl))
    term-faults s (seen_alone at f) h =
        let x : Term = alone (plain_of_factor f) in
        whole-term s at x (alone (judged_of_factor s f).plain) (judged_of_factor s f).faults (plain-term s (seen_alone at f))
        (factor-faults s f (right-part s [] (names_of_factor f) [] (numbers_of_factor f) (placed at x ∷ []) (terms_of_factor f) h))
        (h.large (placed at x) (inl refl))
    term-faults s (seen_blank at) h = whole-term s at blank blank [] refl tt (h.large (placed at blank) (inl refl))

    factor-faults : (s : Scope) (f : SeenFactor) → PartOf s (names_of_factor f) (numbers_of_factor f) (terms_of_factor f) → AllOf (judged_of_factor s f).faults
    factor-faults s (seen_named n) h = used-name s n (h.used n (inl refl))
    factor-faults s (seen_nested ts) h = terms-faults s ts h

  sum-fault : (s : Scope) (sum : TreeSum) → HasSum t s sum → AllOf (sum_faults s sum)
  sum-fault s sum h =
      let seen : SeenSum sum = every_sum_seen sum in
      let part : PartOf s (names_of_terms (seen_sum sum)) (numbers_of_terms (seen_sum sum)) (terms_of_terms (seen_sum sum)) = record {
        used = λ n i. used_sum sum h i;
        number = λ d i. number_in_sum s sum h i;
        large = λ x i e. large_term s sum x h i e refl;
      } in
      subst (λ (z : WithFaults Terms). AllOf z.faults) (sym (seen.judged s)) (terms-faults s (seen_sum sum) part)

  comparison-fault : (s : Scope) (c : TreeComparison) → HasComparison t s c → AllOf (comparison_faults s c)
  comparison-fault s c h =
      each-else P (sum_faults s c.left ++ sum_faults s c.right) (where_ (any_large (comparison_rows s.allowed (plain_comparison c))) (fault.TooLarge c.at))
      (together (sum_faults s c.left) (sum_faults s c.right) (sum-fault s c.left (sum_at_left c h refl)) (sum-fault s c.right (sum_at_right c h refl)))
      (λ none. each-where P (any_large (comparison_rows s.allowed (plain_comparison c))) (fault.TooLarge c.at) (λ e. large_row s c h e refl))

  condition-fault : (s : Scope) (cs : List TreeComparison) → ((c : TreeComparison) → In c cs → HasComparison t s c) → AllOf (condition_faults s cs)
  condition-fault s [] h = tt
  condition-fault s (c ∷ cs) h = together (comparison_faults s c) (condition_faults s cs) (comparison-fault s c (h c (inl refl)))
      (condition-fault s cs (λ d i. h d (inr i)))

  -- ---- guards

  abbrev count : ℕ
  count = length (names_of t).parameters

  abbrev scope : Scope
  scope = in_guards (names_of t)

  among-more : (cs ds : List TreeComparison) (fall : Bool) (r : Linear) → IsRowAmong t cs fall r → IsRowAmong t (cs ++ ds) fall r
  among-more cs ds fall r w = (w.0, In-left w.0 cs ds w.1, w.2)

  -- the guards so far are distinct rows of threshold guards of the text so far
  record Counted (cs : List TreeComparison) (g : Guards) : Type 0 where
    rise : AllByRecursion (IsRowAmong t cs false) g.rise
    fall : AllByRecursion (IsRowAmong t cs true) g.fall
    rise_distinct : Distinct g.rise
    fall_distinct : Distinct g.fall

  counted-more : (cs ds : List TreeComparison) (g : Guards) → Counted cs g → Counted (cs ++ ds) g
  counted-more cs ds g h = record {
    rise = each_weaker (IsRowAmong t cs false) (IsRowAmong t (cs ++ ds) false) g.rise (among-more cs ds false) h.rise;
    fall = each_weaker (IsRowAmong t cs true) (IsRowAmong t (cs ++ ds) true) g.fall (among-more cs ds true) h.fall;
    rise_distinct = h.rise_distinct;
    fall_distinct = h.fall_distinct;
  }

  apart-rows : (rows : List Linear) (r : Linear) → has_row rows r ≡ false → AllByRecursion (λ other. other ≡ r → ⊥) rows
  apart-rows [] r h = tt
  apart-rows (q ∷ rows) r h = (
    λ e. true≢false (sym ((row_decides q r).1 e) ∙ (or_parts (same_row q r) (has_row rows r) h).0),
    apart-rows rows r ((or_parts (same_row q r) (has_row rows r) h).1),
  )

  row-pushed : (Q : Linear → Type 0) (rows : List Linear) (r : Linear) → AllByRecursion Q rows → Q r → AllByRecursion Q (with_row rows r)
  row-pushed Q rows r h q = elim (cases_Bool (has_row rows r)) [
    | inl e ↦ subst (λ (z : List Linear). AllByRecursion Q z) (sym (cond-true (has_row rows r) rows (rows ++ r ∷ []) e)) h
    | inr e ↦ subst (λ (z : List Linear). AllByRecursion Q z) (sym (cond-false (has_row rows r) rows (rows ++ r ∷ []) e)) (each_push Q rows r h q)
  ]

  row-distinct : (rows : List Linear) (r : Linear) → Distinct rows → Distinct (with_row rows r)
  row-distinct rows r h = elim (cases_Bool (has_row rows r)) [
    | inl e ↦ subst (λ (z : List Linear). Distinct z) (sym (cond-true (has_row rows r) rows (rows ++ r ∷ []) e)) h
    | inr e ↦ subst (λ (z : List Linear). Distinct z) (sym (cond-false (has_row rows r) rows (rows ++ r ∷ []) e))
        (distinct_push_apart rows r h (apart-rows rows r e))
  ]

  -- a guard that counts is one row, whose kind has it then
  counted-row : (cs : List TreeComparison) (g : Guards) (c : TreeComparison) (rows : List Linear) → tree_guard_rows t c ≡ rows
      → is_no_threshold count rows ≡ false → In c cs → Counted cs g → Counted cs (with_guards count g rows)
  counted-row cs g c [] is threshold i h = absurd (true≢false threshold)
  counted-row cs g c (r ∷ q ∷ rows) is threshold i h = absurd (true≢false threshold)
  counted-row cs g c (r ∷ []) is threshold i h = elim (cases_Bool (falls count r)) [
    | inl f ↦ subst (λ (z : Guards). Counted cs z) (sym (guard_falls count g r f)) (record {
      rise = h.rise;
      fall = row-pushed (IsRowAmong t cs true) g.fall r h.fall (c, i, record { rows = is; threshold = threshold; kind = f });
      rise_distinct = h.rise_distinct;
      fall_distinct = row-distinct g.fall r h.fall_distinct;
    })
    | inr f ↦ subst (λ (z : Guards). Counted cs z) (sym (guard_rises count g r f)) (record {
      rise = row-pushed (IsRowAmong t cs false) g.rise r h.rise (c, i, record { rows = is; threshold = threshold; kind = f });
      fall = h.fall;
      rise_distinct = row-distinct g.rise r h.rise_distinct;
      fall_distinct = h.fall_distinct;
    })
  ]

  counted-either : (cs : List TreeComparison) (faults : List FileFault) (before after : Guards) → (faults ≡ [] → Counted cs after) → Counted cs before
      → Counted cs (counted faults before after)
  counted-either cs [] before after h k = h refl
  counted-either cs (f ∷ fs) before after h k = k

  -- what is no error of a guard
  is-threshold : (g : Guards) (c : TreeComparison) → guard_faults l count scope g c ≡ [] → is_no_threshold count (tree_guard_rows t c) ≡ false
  is-threshold g c none =
      let threshold = where_ (is_no_threshold count (tree_guard_rows t c)) (fault.NotThreshold c.at) in
      let more = where_ (is_one_more l count g (tree_guard_rows t c)) (fault.TooMany c.at) in
      not-where (is_no_threshold count (tree_guard_rows t c)) (fault.NotThreshold c.at)
      (none-else-left threshold more (none-else-right (comparison_faults scope c) (else_ threshold more) none))

  counted-then : (cs : List TreeComparison) (g : Guards) (c : TreeComparison) → Counted cs g → Counted (cs ++ c ∷ []) (guards_then l count scope g c)
  counted-then cs g c h =
      let more = counted-more cs (c ∷ []) g h in
      counted-either (cs ++ c ∷ []) (guard_faults l count scope g c) g (with_guards count g (tree_guard_rows t c))
      (λ none. counted-row (cs ++ c ∷ []) g c (tree_guard_rows t c) refl (is-threshold g c none) (in-here cs [] c) more) more

  -- a row past the limit
  past-limit : (cs later : List TreeComparison) (g : Guards) (c : TreeComparison) (r : Linear) → tree_guards t ≡ cs ++ c ∷ later → tree_guard_rows t c ≡ r ∷ []
      → is_no_threshold count (r ∷ []) ≡ false → is_past_limit l count g r ≡ true → Counted cs g → IsOneMore l t c
  past-limit cs later g c r place is threshold past h = elim (cases_Bool (falls count r)) [
    | inl f ↦ (
        let e : (not (has_row g.fall r) && not (ltb (length g.fall) l.falls)) ≡ true = sym
        (cond-true (falls count r) (not (has_row g.fall r) && not (ltb (length g.fall) l.falls)) (not (has_row g.rise r) && not (ltb (length g.rise) l.rises))
        f)
        ∙ past in
        record {
          earlier = cs;
          later = later;
          place = place;
          fall = true;
          row = r;
          is = record { rows = is; threshold = threshold; kind = f };
          others = g.fall;
          distinct = h.fall_distinct;
          before = h.fall;
          full = ltb-false (length g.fall) l.falls
              (not-true (ltb (length g.fall) l.falls) (and_parts (not (has_row g.fall r)) (not (ltb (length g.fall) l.falls)) e).1);
          new = apart-rows g.fall r (not-true (has_row g.fall r) ((and_parts (not (has_row g.fall r)) (not (ltb (length g.fall) l.falls)) e).0));
        })
    | inr f ↦ (
        let e : (not (has_row g.rise r) && not (ltb (length g.rise) l.rises)) ≡ true = sym
        (cond-false (falls count r) (not (has_row g.fall r) && not (ltb (length g.fall) l.falls)) (not (has_row g.rise r) && not (ltb (length g.rise) l.rises))
        f)
        ∙ past in
        record {
          earlier = cs;
          later = later;
          place = place;
          fall = false;
          row = r;
          is = record { rows = is; threshold = threshold; kind = f };
          others = g.rise;
          distinct = h.rise_distinct;
          before = h.rise;
          full = ltb-false (length g.rise) l.rises
              (not-true (ltb (length g.rise) l.rises) (and_parts (not (has_row g.rise r)) (not (ltb (length g.rise) l.rises)) e).1);
          new = apart-rows g.rise r (not-true (has_row g.rise r) ((and_parts (not (has_row g.rise r)) (not (ltb (length g.rise) l.rises)) e).0));
        })
  ]

  more-than-allowed : (cs later : List TreeComparison) (g : Guards) (c : TreeComparison) (rows : List Linear) → tree_guards t ≡ cs ++ c ∷ later
      → tree_guard_rows t c ≡ rows → is_one_more l count g rows ≡ true → Counted cs g → IsOneMore l t c
  more-than-allowed cs later g c [] place is e h = absurd (false≢true e)
  more-than-allowed cs later g c (r ∷ q ∷ rows) place is e h = absurd (false≢true e)
  more-than-allowed cs later g c (r ∷ []) place is e h =
      past-limit cs later g c r place is
      (not-true (is_no_threshold count (r ∷ [])) ((and_parts (not (is_no_threshold count (r ∷ []))) (is_past_limit l count g r) e).0))
      ((and_parts (not (is_no_threshold count (r ∷ []))) (is_past_limit l count g r) e).1) h

  guard-fault : (cs later : List TreeComparison) (g : Guards) (c : TreeComparison) → tree_guards t ≡ cs ++ c ∷ later → HasComparison t scope c → Counted cs g
      → AllOf (guard_faults l count scope g c)
  guard-fault cs later g c place has h =
      let rows = tree_guard_rows t c in
      let threshold = where_ (is_no_threshold count rows) (fault.NotThreshold c.at) in
      let more = where_ (is_one_more l count g rows) (fault.TooMany c.at) in
      let here : In c (tree_guards t) = subst (λ (z : List TreeComparison). In c z) (sym place) (in-here cs later c) in
      each-else P (comparison_faults scope c) (else_ threshold more) (comparison-fault scope c has)
      (λ none. each-else P threshold more
      (each-where P (is_no_threshold count rows) (fault.NotThreshold c.at) (λ e. no_threshold c here e refl))
      (λ fine. each-where P (is_one_more l count g rows) (fault.TooMany c.at) (λ e. one_more c (more-than-allowed cs later g c rows place refl e h) refl)))

  guards-fault : (cs rest later : List TreeComparison) (g : Guards) → tree_guards t ≡ cs ++ (rest ++ later)
      → ((c : TreeComparison) → In c rest → HasComparison t scope c) → Counted cs g → AllOf (guards_faults l count scope g rest)
  guards-fault cs [] later g place has h = tt
  guards-fault cs (c ∷ rest) later g place has h =
      together (guard_faults l count scope g c) (guards_faults l count scope (guards_then l count scope g c) rest)
      (guard-fault cs (rest ++ later) g c place (has c (inl refl)) h)
      (guards-fault (cs ++ c ∷ []) rest later (guards_then l count scope g c) (push-split (tree_guards t) cs (rest ++ later) c place) (λ d i. has d (inr i))
      (counted-then cs g c h))

  counted-with : (cs rest : List TreeComparison) (g : Guards) → Counted cs g → Counted (cs ++ rest) (guards_with l count scope g rest)
  counted-with cs [] g h = subst (λ (z : List TreeComparison). Counted z g) (sym (append-nil cs)) h
  counted-with cs (c ∷ rest) g h =
      subst (λ (z : List TreeComparison). Counted z (guards_with l count scope (guards_then l count scope g c) rest)) (append_assoc cs (c ∷ []) rest)
      (counted-with (cs ++ c ∷ []) rest (guards_then l count scope g c) (counted-then cs g c h))

  -- ---- rules

  updates-fault : (r : TreeRule) (earlier rest : List TreeUpdate) → In r t.rules → r.updates ≡ earlier ++ rest
      → AllOf (updates_faults (names_of t) (map plain_name (map updated_name earlier)) rest)
  updates-fault r earlier [] i place = tt
  updates-fault r earlier (u ∷ rest) i place =
      let before = map plain_name (map updated_name earlier) in
      let once = else_ (where_ (has_name before u.name.name) (fault.Duplicate u.name.at)) (used_faults (all_names (names_of t)) (names_of t).shared u.name) in
      let names : map updated_name r.updates ≡ map updated_name earlier ++ u.name ∷ map updated_name rest = ap (map updated_name) place
      ∙ map-append updated_name earlier (u ∷ rest) in
      let here : In u r.updates = subst (λ (z : List TreeUpdate). In u z) (sym place) (in-here earlier rest u) in
      together once (digits_faults u.amount ++ updates_faults (names_of t) (before ++ u.name.name ∷ []) rest)
      (once-name (at_shared t) (map updated_name r.updates) (map updated_name earlier) (map updated_name rest) u.name (apart_updates r i refl) names
      (used_update r i refl (In-map updated_name u r.updates here)))
      (together (digits_faults u.amount) (updates_faults (names_of t) (before ++ u.name.name ∷ []) rest)
      (number-fault u.amount (number_of_update r u i here refl))
      (subst (λ (z : List (List ℕ)). AllOf (updates_faults (names_of t) z rest))
      (ap (map plain_name) (map_push updated_name earlier u) ∙ map_push plain_name (map updated_name earlier) u.name)
      (updates-fault r (earlier ++ u ∷ []) rest i (push-split r.updates earlier rest u place))))

  rule-fault : (earlier later : List TreeRule) (g : Guards) (r : TreeRule) → t.rules ≡ earlier ++ r ∷ later → Counted (flat_map guards_of_rule earlier) g
      → AllOf (rule_faults l (names_of t) (map plain_name (map rule_name earlier)) g r)
  rule-fault earlier later g r place h =
      let ns = names_of t in
      let before = map plain_name (map rule_name earlier) in
      let here : In r t.rules = subst (λ (z : List TreeRule). In r z) (sym place) (in-here earlier later r) in
      let names : map rule_name t.rules ≡ map rule_name earlier ++ r.name ∷ map rule_name later = ap (map rule_name) place
      ∙ map-append rule_name earlier (r ∷ later) in
      let guards : tree_guards t ≡ flat_map guards_of_rule earlier ++ (r.guards ++ flat_map guards_of_rule later) = ap (flat_map guards_of_rule) place
      ∙ flat_map-append guards_of_rule earlier (r ∷ later) in
      let from = used_faults (all_names ns) ns.locations r.from in
      let to = used_faults (all_names ns) ns.locations r.to in
      let when = guards_faults l count scope g r.guards in
      let do_ = updates_faults ns [] r.updates in
      together (declared_faults before r.name) (from ++ (to ++ (when ++ do_)))
      (declared-name (map rule_name t.rules) (map rule_name earlier) (map rule_name later) r.name (apart_rules refl) names
      (declared_rule (In-map rule_name r t.rules here)))
      (together from (to ++ (when ++ do_)) (used-name (at_locations t) r.from (used_from r here refl refl))
      (together to (when ++ do_) (used-name (at_locations t) r.to (used_to r here refl refl))
      (together when do_
      (guards-fault (flat_map guards_of_rule earlier) r.guards (flat_map guards_of_rule later) g guards (λ c i. in_guard r refl here i) h)
      (updates-fault r [] r.updates here refl))))

  rules-fault : (earlier rest : List TreeRule) (g : Guards) → t.rules ≡ earlier ++ rest → Counted (flat_map guards_of_rule earlier) g
      → AllOf (rules_faults l (names_of t) (map plain_name (map rule_name earlier)) g rest)
  rules-fault earlier [] g place h = tt
  rules-fault earlier (r ∷ rest) g place h =
      let before = map plain_name (map rule_name earlier) in
      let after = guards_with l count scope g r.guards in
      let guards : flat_map guards_of_rule earlier ++ r.guards ≡ flat_map guards_of_rule (earlier ++ r ∷ []) = ap
      (λ (z : List TreeComparison). flat_map guards_of_rule earlier ++ z) (sym (append-nil r.guards))
      ∙ sym (flat_map-append guards_of_rule earlier (r ∷ [])) in
      together (rule_faults l (names_of t) before g r) (rules_faults l (names_of t) (before ++ r.name.name ∷ []) after rest)
      (rule-fault earlier rest g r place h)
      (subst (λ (z : List (List ℕ)). AllOf (rules_faults l (names_of t) z after rest))
      (ap (map plain_name) (map_push rule_name earlier r) ∙ map_push plain_name (map rule_name earlier) r.name)
      (rules-fault (earlier ++ r ∷ []) rest after (push-split t.rules earlier rest r place)
      (subst (λ (z : List TreeComparison). Counted z after) guards (counted-with (flat_map guards_of_rule earlier) r.guards g h))))

  -- ---- patterns

  event-fault : (p : TreePattern) (earlier later : List TreeEvent) (e : TreeEvent) → In p t.patterns → p.events ≡ earlier ++ e ∷ later
      → AllOf (event_faults (names_of t) (map plain_name (map tree_event_name earlier)) e)
  event-fault p earlier later e i place =
      let before = map plain_name (map tree_event_name earlier) in
      let conditions = condition_faults (in_conditions (names_of t)) e.condition in
      let here : In e p.events = subst (λ (z : List TreeEvent). In e z) (sym place) (in-here earlier later e) in
      let names : map tree_event_name p.events ≡ map tree_event_name earlier ++ e.name ∷ map tree_event_name later = ap (map tree_event_name) place
      ∙ map-append tree_event_name earlier (e ∷ later) in
      together (declared_faults before e.name) (listed_faults before before [] e.after ++ conditions)
      (declared-name (map tree_event_name p.events) (map tree_event_name earlier) (map tree_event_name later) e.name (apart_events p i refl) names
      (declared_event p i (In-map tree_event_name e p.events here)))
      (together (listed_faults before before [] e.after) conditions
      (listed-names (at_events earlier) e.after [] e.after (apart_after p e i here refl) refl (λ n k. used_after p earlier later e i place refl k))
      (condition-fault (in_conditions (names_of t)) e.condition (λ c k. in_event p e refl i here k)))

  events-fault : (p : TreePattern) (earlier rest : List TreeEvent) → In p t.patterns → p.events ≡ earlier ++ rest
      → AllOf (events_faults (names_of t) (map plain_name (map tree_event_name earlier)) rest)
  events-fault p earlier [] i place = tt
  events-fault p earlier (e ∷ rest) i place =
      let before = map plain_name (map tree_event_name earlier) in
      together (event_faults (names_of t) before e) (events_faults (names_of t) (before ++ e.name.name ∷ []) rest)
      (event-fault p earlier rest e i place)
      (subst (λ (z : List (List ℕ)). AllOf (events_faults (names_of t) z rest))
      (ap (map plain_name) (map_push tree_event_name earlier e) ∙ map_push plain_name (map tree_event_name earlier) e.name)
      (events-fault p (earlier ++ e ∷ []) rest i (push-split p.events earlier rest e place)))

  pattern-fault : (earlier later : List TreePattern) (p : TreePattern) → t.patterns ≡ earlier ++ p ∷ later
      → AllOf (pattern_faults (names_of t) (map plain_name (map tree_pattern_name earlier)) p)
  pattern-fault earlier later p place =
      let ns = names_of t in
      let before = map plain_name (map tree_pattern_name earlier) in
      let here : In p t.patterns = subst (λ (z : List TreePattern). In p z) (sym place) (in-here earlier later p) in
      let names : map tree_pattern_name t.patterns ≡ map tree_pattern_name earlier ++ p.name ∷ map tree_pattern_name later = ap (map tree_pattern_name) place
      ∙ map-append tree_pattern_name earlier (p ∷ later) in
      let start = condition_faults (in_conditions ns) p.start in
      let empty = listed_faults (all_names ns) ns.locations [] p.empty in
      let events = events_faults ns [] p.events in
      together (declared_faults before p.name) (start ++ (empty ++ events))
      (declared-name (map tree_pattern_name t.patterns) (map tree_pattern_name earlier) (map tree_pattern_name later) p.name (apart_patterns refl) names
      (declared_pattern (In-map tree_pattern_name p t.patterns here)))
      (together start (empty ++ events) (condition-fault (in_conditions ns) p.start (λ c k. in_start p refl here k))
      (together empty events
      (listed-names (at_locations t) p.empty [] p.empty (apart_empty p here refl) refl (λ n k. used_empty p here refl k))
      (events-fault p [] p.events here refl)))

  patterns-fault : (earlier rest : List TreePattern) → t.patterns ≡ earlier ++ rest
      → AllOf (patterns_faults (names_of t) (map plain_name (map tree_pattern_name earlier)) rest)
  patterns-fault earlier [] place = tt
  patterns-fault earlier (p ∷ rest) place =
      let before = map plain_name (map tree_pattern_name earlier) in
      together (pattern_faults (names_of t) before p) (patterns_faults (names_of t) (before ++ p.name.name ∷ []) rest)
      (pattern-fault earlier rest p place)
      (subst (λ (z : List (List ℕ)). AllOf (patterns_faults (names_of t) z rest))
      (ap (map plain_name) (map_push tree_pattern_name earlier p) ∙ map_push plain_name (map tree_pattern_name earlier) p.name)
      (patterns-fault (earlier ++ p ∷ []) rest (push-split t.patterns earlier rest p place)))

  -- ---- the whole

  names-fault : AllOf (names_faults (names_of t) t)
  names-fault =
      let ns = names_of t in
      let places = map location_spelled t.locations in
      let own = where_ (is_long t.name) (fault.TooLarge t.name.at) in
      let parameters = declarations_faults [] t.parameters in
      let shared = declarations_faults ns.parameters t.shared in
      let initial = where_ (not (any_initial t.locations)) (fault.NoInitial t.locations_at) in
      let locations = declarations_faults (guard_names ns) places in
      together own (parameters ++ (shared ++ (initial ++ locations))) (too_long t.name (declared_file refl))
      (together parameters (shared ++ (initial ++ locations))
      (declared-names (place_names t) [] t.parameters (t.shared ++ places) (apart_places refl) refl
      (λ n i. declared_place (In-left n t.parameters (t.shared ++ places) i)))
      (together shared (initial ++ locations)
      (declared-names (place_names t) t.parameters t.shared places (apart_places refl) refl
      (λ n i. declared_place (In-right n t.parameters (t.shared ++ places) (In-left n t.shared places i))))
      (together initial locations
      (each-where P (not (any_initial t.locations)) (fault.NoInitial t.locations_at) (λ e. no_initial (not-true (any_initial t.locations) e) refl))
      (subst (λ (z : List (List ℕ)). AllOf (declarations_faults z places)) (map-append plain_name t.parameters t.shared)
      (declared-names (place_names t) (t.parameters ++ t.shared) places [] (apart_places refl)
      (sym (append_assoc t.parameters t.shared places) ∙ ap (λ (z : List Spelled). (t.parameters ++ t.shared) ++ z) (sym (append-nil places)))
      (λ n i. declared_place (In-right n t.parameters (t.shared ++ places) (In-right n t.shared places i))))))))

  processes-fault : AllOf (processes_faults (names_of t) t)
  processes-fault =
      let ns = names_of t in
      each-else P (sum_faults (in_parameters ns) t.processes)
      (where_ (is_large_linear (linear_sum ns.parameters (plain_sum t.processes))) (fault.TooLarge t.processes_at))
      (sum-fault (in_parameters ns) t.processes (sum_of_processes refl refl))
      (λ none. each-where P (is_large_linear (linear_sum ns.parameters (plain_sum t.processes))) (fault.TooLarge t.processes_at) (λ e. large_sum e refl))

  tree-fault : AllOf (meaning_faults l t)
  tree-fault =
      let ns = names_of t in
      let processes = processes_faults ns t in
      let resilience = condition_faults (in_parameters ns) t.resilience in
      let rules = rules_faults l ns [] no_guards t.rules in
      let patterns = patterns_faults ns [] t.patterns in
      together (names_faults ns t) (processes ++ (resilience ++ (rules ++ patterns))) names-fault
      (together processes (resilience ++ (rules ++ patterns)) processes-fault
      (together resilience (rules ++ patterns) (condition-fault (in_parameters ns) t.resilience (λ c i. in_resilience refl i))
      (together rules patterns
      (rules-fault [] t.rules no_guards refl (record { rise = tt; fall = tt; rise_distinct = tt; fall_distinct = tt }))
      (patterns-fault [] t.patterns refl))))

pub faults_are_of_the_table : FaultsAreOfTheTable
faults_are_of_the_table l t = tree-fault l t
