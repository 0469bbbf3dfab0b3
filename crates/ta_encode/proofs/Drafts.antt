-- the unknowns and rows of a word, element by element
use Rattle.ta_encode.proofs.Common.{open_rows, Bool, ◌≡◌, ℕ, pos, negsuc, ◌+◌, ◌-◌, ◌*◌, ◌≤◌, ◌-ℤ◌, List, [], ◌∷◌, ◌++◌, length, map, reverse, not, ◌||◌}
use Rattle.ta_encode.proofs.Common.{bit_or, slice_get, arith, sym, ap, ◌∙◌, refl, subst, append_assoc, length-append, filter, ◌==◌, map-append, length-map}
use Rattle.ta_encode.proofs.Common.{length-reverse, has_or, each_from_at, filter_shorter, map_constant, rises_length, AllBelow, Row, IsNormal-higher, has_bit}
use Rattle.ta_encode.proofs.Common.{range_with_len, Automaton, Pattern, Element, Event, Rise, Fall, LegalWord, may_fire, allowed_rules, has_fallen}
use Rattle.ta_encode.proofs.Common.{legal_length, Meaning, Count, Single, Start, Parameter, meanings, start_meanings, start_locations, counts_after}
use Rattle.ta_encode.proofs.Common.{singles_after, LinearRow, opposite, negated, singles_row, start_rows, event_rows, guard_rows, standing_rows, rise_rows}
use Rattle.ta_encode.proofs.Common.{happening_rows, fall_rows, word_rows, condition_rows, processes_row, start_guard_rows, AreWritten, IsBehind, SmallCondition}
use Rattle.ta_encode.proofs.Common.{SmallEvents, block_row, counters_outside, firing, Adds, AddsUnknowns, Continues, IsDraft, Draft, Origin, Plain, Opposite}
use Rattle.ta_encode.proofs.Common.{map-map, filter_agree, length-range_with_len, PatternOver}
use Rattle.ta_encode.specs.Inside.Draft.{IsOpen}
use Rattle.std.proofs.lemmas.List.Prefix.{front_fits}
use Rattle.ta_automaton.specs.Patterns.{EventWithin}
use Rattle.ta_words.specs.declared.narrow_task.NarrowTask.{NarrowTask}
use Rattle.ta_encode.proofs.Adding.{adds_at, adds_behind, adds_both, behind_join, guards_same, nothing_written}
use Rattle.ta_encode.proofs.Smallness.{small_condition, places_most}

below_more : (n m : ℕ) (rows : List Row) → n ≤ m → AllBelow n rows → AllBelow m rows
below_more n m [] h b = tt
below_more n m (r ∷ rs) h b = (IsNormal-higher 0 n m r.form.terms h b.0, below_more n m rs h b.1)

widen : (ls : List LinearRow) (n m : ℕ) (rows : List Row) → n ≤ m → AreWritten ls n rows → AreWritten ls m rows
widen ls n m rows h w = record { rows_of = w.rows_of; below = below_more n m rows h w.below }

-- the firings of a mask of allowed rules
pub fired_after : (single : Bool) (o : Origin) (before : List Element) (allowed : ℕ) {draft grown : Draft}
    → ((r : ℕ) → has_bit allowed r ≡ may_fire o.task.automaton.now o.task.pattern.now o.start_mask (reverse before) (slice_get o.task.automaton.now.rules r))
    → draft.automaton.now ≡ o.task.automaton.now
    → AddsUnknowns (map (firing single (length before)) (filter (has_bit allowed) (range_with_len 0 (length draft.automaton.now.rules)))) draft grown
    → AddsUnknowns (map (firing single (length (reverse before))) (allowed_rules o.task.automaton.now o.task.pattern.now o.start_mask (reverse before))) draft
    grown
unfolding allowed_rules
fired_after single o before allowed {draft = draft} {grown = grown} may e added =
    let a = o.task.automaton.now in
    let same = ap (λ (b : Automaton). map (firing single (length before)) (filter (has_bit allowed) (range_with_len 0 (length b.rules)))) e
    ∙ ap (map (firing single (length before)))
    (filter_agree (has_bit allowed) (λ r. may_fire a o.task.pattern.now o.start_mask (reverse before) (slice_get a.rules r)) may
    (range_with_len 0 (length a.rules)))
    ∙ ap (λ n. map (firing single n) (allowed_rules a o.task.pattern.now o.start_mask (reverse before))) (sym (length-reverse before)) in
    subst (λ (ms : List Meaning). AddsUnknowns ms draft grown) same added

allowed_few : (a : Automaton) (p : Pattern) (start : ℕ) (past : List Element) → length (allowed_rules a p start past) ≤ length a.rules
unfolding allowed_rules
allowed_few a p start past = omega (
  arith,
  filter_shorter (λ r. may_fire a p start past (slice_get a.rules r)) (range_with_len 0 (length a.rules)),
  length-range_with_len 0 (length a.rules),
)

pub counts_few : (a : Automaton) (p : Pattern) (start : ℕ) (past : List Element) → length (counts_after a p start past) ≤ length a.rules
counts_few a p start past = omega (arith, length-map (allowed_rules a p start past) (λ r. Count (length past) r), allowed_few a p start past)

pub singles_few : (a : Automaton) (p : Pattern) (start : ℕ) (past : List Element) → length (singles_after a p start past) ≤ length a.rules
singles_few a p start past = omega (arith, length-map (allowed_rules a p start past) (λ r. Single (length past) r), allowed_few a p start past)

pub start_few : (a : Automaton) (p : Pattern) → length (start_meanings a p) ≤ length a.parameters + length a.locations
unfolding start_meanings
start_few a p =
    let least : 0 ≤ length a.locations = omega arith in
    omega (
      arith,
      length-append (map Parameter (range_with_len 0 (length a.parameters))) (map Start (start_locations a p)),
      length-map (range_with_len 0 (length a.parameters)) Parameter,
      length-map (start_locations a p) Start,
      length-range_with_len 0 (length a.parameters),
      filter_shorter (λ l. not (has_bit p.empty l)) a.initial,
      rises_length 0 (length a.locations) a.initial least a.shape.initial_rises,
    )

pub meanings_few : (a : Automaton) (p : Pattern) (start : ℕ) (past : List Element) → length (meanings a p start past) ≤ 160 + 2048 * length past
unfolding meanings
meanings_few a p start [] = omega (arith, start_few a p, a.shape.limits.parameters_limit, a.shape.limits.locations_limit)
meanings_few a p start (Event e ∷ past) = omega (
  arith,
  length-append (meanings a p start past) (counts_after a p start past),
  counts_few a p start past,
  a.shape.limits.rules_limit,
  meanings_few a p start
      past,
)
meanings_few a p start (Rise i ∷ past) = omega (
  arith,
  length-append (meanings a p start past) (counts_after a p start past),
  counts_few a p start past,
  a.shape.limits.rules_limit,
  meanings_few a p start
      past,
)
meanings_few a p start (Fall m ∷ past) =
    omega (
      arith,
      length-append (meanings a p start past ++ counts_after a p start past) (singles_after a p start past),
      length-append (meanings a p start past)
          (counts_after a p start past),
      counts_few a p start past,
      singles_few a p start past,
      a.shape.limits.rules_limit,
      meanings_few a p start past,
    )

pub draft_few : (o : Origin) (past : List Element) (draft : Draft) → IsDraft o past draft → length draft.meanings.items ≤ 160 + 2048 * length past
draft_few o past draft d = omega (arith, ap length d.is.unknowns_are, meanings_few o.task.automaton.now o.task.pattern.now o.start_mask past)

pub word_few : (t : NarrowTask) (start : ℕ) (elements word : List Element) → LegalWord t.automaton.now t.pattern.now start (reverse word) → elements ≡ word
    → length elements ≤ 30
word_few t start elements word legal same = omega
    (arith, ap length same, length-reverse word, legal_length t.automaton.now t.pattern.now start (reverse word) t.narrow t.over.events_limit legal)

-- the conditions of a pattern have small numbers
pub start_small : (a : Automaton) (p : Pattern) → PatternOver a p → SmallCondition p.start
start_small a p over = small_condition (length a.parameters + length a.shared + length a.locations) p.start (places_most a) over.start

pub events_small : (a : Automaton) (p : Pattern) → PatternOver a p → SmallEvents p
events_small a p over =
    let places = length a.parameters + length a.shared + length a.locations in
    record {
      small = λ e event here. small_condition places event.condition (places_most a)
          (each_from_at (EventWithin places) 0 p.events e event over.events here).condition;
    }

standing_is : (a : Automaton) (start : ℕ) (past : List Element) (ms : List Meaning) (fallen : ℕ) → ((j : ℕ) → has_bit fallen j ≡ has_fallen start past j)
    → guard_rows a ms (λ j. not (has_bit fallen j)) 0 a.fall ≡ standing_rows a start past ms
standing_is a start past ms fallen h =
    let few : 0 + length a.fall ≤ 16 = (let limit = a.shape.limits.fall_limit in omega arith) in
    guards_same a ms (λ j. not (has_bit fallen j)) (λ j. not (has_fallen start past j)) 0 16 a.fall (λ j b. ap not (h j)) few

-- rows that make a word's, behind some of them
adds_drafted : (o : Origin) (past : List Element) (done : List LinearRow) {f : Automaton → List Meaning → List LinearRow} {before after : Draft}
    → before.automaton.now ≡ o.task.automaton.now → before.meanings.items ≡ meanings o.task.automaton.now o.task.pattern.now o.start_mask past
    → AreWritten done (length before.meanings.items) before.rows.items
    → done ++ f o.task.automaton.now (meanings o.task.automaton.now o.task.pattern.now o.start_mask past) ≡ word_rows o.task.automaton.now o.task.pattern.now
    o.start_mask past → Adds f before after → IsDraft o past after
adds_drafted o past done {after = after} e g w same h =
    let all = adds_behind o.task.automaton.now (meanings o.task.automaton.now o.task.pattern.now o.start_mask past) done e g w h in
    record {
      automaton_is = h.automaton ∙ e;
      is = record
          { unknowns_are = all.0; rows_are = subst (λ (ls : List LinearRow). AreWritten ls (length after.meanings.items) after.rows.items) same all.1 };
    }

-- rows stay written where unknowns come behind
written_on : {more : List Meaning} {before grown : Draft} (ls : List LinearRow) → AddsUnknowns more before grown
    → AreWritten ls (length before.meanings.items) before.rows.items → AreWritten ls (length grown.meanings.items) grown.rows.items
written_on {more = more} {before = before} {grown = grown} ls h w =
    subst (AreWritten ls (length grown.meanings.items)) (sym h.rows)
    (widen ls (length before.meanings.items) (length grown.meanings.items) before.rows.items
    (front_fits grown.meanings.items before.meanings.items more h.unknowns) w)

-- an element whose only unknowns are its Counts
step_drafted : (o : Origin) (past : List Element) (element : Element) {f : Automaton → List Meaning → List LinearRow} {before grown after : Draft}
    → IsDraft o past before → AddsUnknowns (counts_after o.task.automaton.now o.task.pattern.now o.start_mask past) before grown
    → meanings o.task.automaton.now o.task.pattern.now o.start_mask past
    ++ counts_after o.task.automaton.now o.task.pattern.now o.start_mask past ≡ meanings o.task.automaton.now o.task.pattern.now o.start_mask
    (element ∷ past)
    → word_rows o.task.automaton.now o.task.pattern.now o.start_mask past
    ++ f o.task.automaton.now (meanings o.task.automaton.now o.task.pattern.now o.start_mask (element ∷ past)) ≡ word_rows o.task.automaton.now
    o.task.pattern.now o.start_mask (element ∷ past)
    → Adds f grown after → Continues o (element ∷ past) before after
step_drafted o past element {after = after} d h unknowns same added =
    let a = o.task.automaton.now in
    let counts = counts_after a o.task.pattern.now o.start_mask past in
    record {
      drafted = adds_drafted o (element ∷ past) (word_rows a o.task.pattern.now o.start_mask past) (h.automaton ∙ d.automaton_is)
          (h.unknowns ∙ ap (λ xs. xs ++ counts) d.is.unknowns_are ∙ unknowns) (written_on _ h d.is.rows_are) same added;
      unknowns = record { more = counts; is = added.unknowns ∙ h.unknowns };
      rows = subst (λ (rs : List Row). IsBehind rs after.rows.items) h.rows added.rows.behind;
    }

pub rise_drafted : (o : Origin) (past : List Element) (i fallen : ℕ) {before grown after : Draft} → IsDraft o past before
    → AddsUnknowns (counts_after o.task.automaton.now o.task.pattern.now o.start_mask past) before grown
    → ((j : ℕ) → has_bit fallen j ≡ has_fallen o.start_mask past j)
    → Adds (λ a ms. counters_outside a ms o.task.pattern.now.empty
    ++ (guard_rows a ms (λ k. k == i) 0 a.rise ++ guard_rows a ms (λ j. not (has_bit fallen j)) 0 a.fall)) grown after
    → Continues o (Rise i ∷ past) before after
unfolding meanings word_rows rise_rows
rise_drafted o past i fallen d h stand added =
    let a = o.task.automaton.now in
    let ns = meanings a o.task.pattern.now o.start_mask (Rise i ∷ past) in
    step_drafted o past (Rise i) d h refl
    (ap (λ rs. word_rows a o.task.pattern.now o.start_mask past
    ++ (counters_outside a ns o.task.pattern.now.empty ++ (guard_rows a ns (λ k. k == i) 0 a.rise ++ rs)))
    (standing_is a o.start_mask past ns fallen stand)) added

pub event_drafted : (o : Origin) (past : List Element) (x fallen : ℕ) {before grown after : Draft} → IsDraft o past before
    → AddsUnknowns (counts_after o.task.automaton.now o.task.pattern.now o.start_mask past) before grown
    → ((j : ℕ) → has_bit fallen j ≡ has_fallen o.start_mask past j)
    → Adds (λ a ms. counters_outside a ms o.task.pattern.now.empty
    ++ (event_rows a ms (slice_get o.task.pattern.now.events x) ++ guard_rows a ms (λ j. not (has_bit fallen j)) 0 a.fall)) grown after
    → Continues o (Event x ∷ past) before after
unfolding meanings word_rows happening_rows
event_drafted o past x fallen d h stand added =
    let a = o.task.automaton.now in
    let ns = meanings a o.task.pattern.now o.start_mask (Event x ∷ past) in
    step_drafted o past (Event x) d h refl
    (ap (λ rs. word_rows a o.task.pattern.now o.start_mask past
    ++ (counters_outside a ns o.task.pattern.now.empty ++ (event_rows a ns (slice_get o.task.pattern.now.events x) ++ rs)))
    (standing_is a o.start_mask past ns fallen stand)) added

-- the two rows of Singles
singles_block : (before : List Meaning) (rules : List ℕ) (from to : ℕ) → from ≡ length before → to ≡ from + length rules
    → block_row (negsuc 0) from to Plain ≡ singles_row before rules
singles_block before rules from to e f =
    let first = map_constant (pos 0) (range_with_len 0 from) before (length-range_with_len 0 from ∙ e) in
    let count : length (range_with_len from (to - from)) ≡ length rules = length-range_with_len from (to - from) ∙ (omega arith) in
    let second = map_constant (pos 1) (range_with_len from (to - from)) rules count in
    ap (λ cs. record { constant = negsuc 0; coefficients = cs })
    (ap (λ cs. cs ++ map (λ k. pos 1) (range_with_len from (to - from))) first ∙ ap (λ cs. map (λ m. pos 0) before ++ cs) second)

opposite_block : (before : List Meaning) (rules : List ℕ) (from to : ℕ) → from ≡ length before → to ≡ from + length rules
    → block_row (pos 1) from to Opposite ≡ opposite (singles_row before rules)
opposite_block before rules from to e f =
    let first = map_constant (pos 0) (range_with_len 0 from) before (length-range_with_len 0 from ∙ e) in
    let count : length (range_with_len from (to - from)) ≡ length rules = length-range_with_len from (to - from) ∙ (omega arith) in
    let second = map_constant (negsuc 0) (range_with_len from (to - from)) rules count in
    let turned_parts : map (λ c. pos 0 -ℤ c) (map (λ m. pos 0) before ++ map (λ r. pos 1) rules) ≡ map (λ m. pos 0) before ++ map (λ r. negsuc 0) rules =
    map-append (λ c. pos 0 -ℤ c) (map (λ m. pos 0) before) (map (λ r. pos 1) rules)
    ∙ ap (λ cs. cs ++ map (λ c. pos 0 -ℤ c) (map (λ r. pos 1) rules)) (map-map (λ c. pos 0 -ℤ c) (λ m. pos 0) before)
    ∙ ap (λ cs. map (λ m. pos 0) before ++ cs) (map-map (λ c. pos 0 -ℤ c) (λ r. pos 1) rules) in
    ap (λ cs. record { constant = pos 1; coefficients = cs })
    (ap (λ cs. cs ++ map (λ k. negsuc 0) (range_with_len from (to - from))) first ∙ ap (λ cs. map (λ m. pos 0) before ++ cs) second ∙ sym turned_parts)

pub fall_drafted : (o : Origin) (past : List Element) (falls fallen from : ℕ) {before grown fell more block after : Draft} → IsDraft o past before
    → AddsUnknowns (counts_after o.task.automaton.now o.task.pattern.now o.start_mask past) before grown
    → AddsUnknowns (singles_after o.task.automaton.now o.task.pattern.now o.start_mask past) fell more
    → ((j : ℕ) → has_bit fallen j ≡ has_fallen o.start_mask (Fall falls ∷ past) j) → from ≡ length grown.meanings.items
    → Adds (λ a ms. counters_outside a ms o.task.pattern.now.empty ++ guard_rows a ms (has_bit falls) 0 a.fall) grown fell
    → Adds (λ a ms. block_row (negsuc 0) from (length ms) Plain ∷ block_row (pos 1) from (length ms) Opposite ∷ []) more block
    → Adds (λ a ms. counters_outside a ms o.task.pattern.now.empty
    ++ (map negated (guard_rows a ms (has_bit falls) 0 a.fall) ++ guard_rows a ms (λ j. not (has_bit fallen j)) 0 a.fall)) block after
    → Continues o (Fall falls ∷ past) before after
unfolding meanings word_rows fall_rows
fall_drafted o past falls fallen from {before = before} {grown = grown} {fell = fell} {more = more} {block = block} {after = after} d h g stand e one two three
    =
    let a = o.task.automaton.now in
    let p = o.task.pattern.now in
    let start = o.start_mask in
    let rules = allowed_rules a p start past in
    let ns = meanings a p start past ++ counts_after a p start past in
    let us = meanings a p start (Fall falls ∷ past) in
    let w = word_rows a p start past in
    let c = counters_outside a ns p.empty in
    let falling = guard_rows a ns (has_bit falls) 0 a.fall in
    let after_rows : List LinearRow → List LinearRow = λ standing. counters_outside a us p.empty
    ++ (map negated (guard_rows a us (has_bit falls) 0 a.fall) ++ standing) in
    let s = block_row (negsuc 0) from (length us) Plain in
    let t = block_row (pos 1) from (length us) Opposite in
    let standing = guard_rows a us (λ j. not (has_bit fallen j)) 0 a.fall in
    let here : grown.automaton.now ≡ a = h.automaton ∙ d.automaton_is in
    let were : grown.meanings.items ≡ ns = h.unknowns ∙ ap (λ xs. xs ++ counts_after a p start past) d.is.unknowns_are in
    let are : more.meanings.items ≡ us = g.unknowns ∙ ap (λ xs. xs ++ singles_after a p start past) (one.unknowns ∙ were) in
    let first = adds_at a ns here were one in
    let fallen_rows = first.rows w (subst (λ (xs : List Meaning). AreWritten w (length xs) grown.rows.items) were (written_on w h d.is.rows_are)) in
    let written = written_on (w ++ (c ++ falling)) g
    (subst (λ (xs : List Meaning). AreWritten (w ++ (c ++ falling)) (length xs) fell.rows.items) (sym (one.unknowns ∙ were)) fallen_rows) in
    let long = e ∙ ap length were in
    let count : length us ≡ from + length rules =
    (let l = length-append ns (singles_after a p start past) in let m = length-map rules (λ r. Single (length past) r) in omega arith) in
    let same : (w ++ (c ++ falling)) ++ ((s ∷ t ∷ []) ++ after_rows standing) ≡ word_rows a p start (Fall falls ∷ past) =
    append_assoc w (c ++ falling) ((s ∷ t ∷ []) ++ after_rows standing) ∙ ap (λ xs. w ++ xs) (append_assoc c falling ((s ∷ t ∷ []) ++ after_rows standing)
    ∙ ap (λ x. c ++ (falling ++ ((x ∷ t ∷ []) ++ after_rows standing))) (singles_block ns rules from (length us) long count)
    ∙ ap (λ x. c ++ (falling ++ ((singles_row ns rules ∷ x ∷ []) ++ after_rows standing))) (opposite_block ns rules from (length us) long count)
    ∙ ap (λ xs. c ++ (falling ++ ((singles_row ns rules ∷ opposite (singles_row ns rules) ∷ []) ++ after_rows xs)))
    (standing_is a start (Fall falls ∷ past) us fallen stand)) in
    let last = adds_both two three in
    record {
      drafted = adds_drafted o (Fall falls ∷ past) (w ++ (c ++ falling)) (g.automaton ∙ one.automaton ∙ here) are written same last;
      unknowns = record {
        more = counts_after a p start past ++ singles_after a p start past;
        is = last.unknowns ∙ g.unknowns
            ∙ ap (λ xs. xs ++ singles_after a p start past) (one.unknowns ∙ h.unknowns)
            ∙ append_assoc before.meanings.items (counts_after a p start past) (singles_after a p start past);
      };
      rows = behind_join before.rows.items fell.rows.items after.rows.items (subst (λ (rs : List Row). IsBehind rs fell.rows.items) h.rows one.rows.behind)
          (subst (λ (rs : List Row). IsBehind rs after.rows.items) g.rows last.rows.behind);
    }

-- the rows at the start end with those of the fall guards
start_parted : (a : Automaton) (p : Pattern) (start : ℕ) → open_rows a p ++ start_guard_rows a (start_meanings a p) start 0 a.fall ≡ start_rows a p start
unfolding start_rows
start_parted a p start =
    let ms = start_meanings a p in
    let first = condition_rows a ms a.resilience.comparisons in
    let two = processes_row a ms ∷ opposite (processes_row a ms) ∷ [] in
    let third = condition_rows a ms p.start.comparisons in
    let guards = start_guard_rows a ms start 0 a.fall in
    append_assoc first (two ++ third) guards ∙ ap (λ ls. first ++ ls) (append_assoc two third guards)

pub opened : (a : Automaton) (p : Pattern) {zeroth first second third : Draft} → zeroth.automaton.now ≡ a → zeroth.meanings.items ≡ start_meanings a p
    → zeroth.rows.items ≡ []
    → Adds (λ b ms. condition_rows b ms a.resilience.comparisons) zeroth first
    → Adds (λ b ms. processes_row b ms ∷ opposite (processes_row b ms) ∷ []) first second
    → Adds (λ b ms. condition_rows b ms p.start.comparisons) second third
    → IsOpen a p third
opened a p {zeroth = zeroth} {third = third} e g none one two three =
    let all = adds_both one (adds_both two three) in
    let are = adds_behind a (start_meanings a p) [] e g (nothing_written (length zeroth.meanings.items) zeroth.rows.items none) all in
    record { automaton_is = all.automaton ∙ e; unknowns_are = are.0; rows_are = are.1 }

pub start_drafted : (o : Origin) {third fourth : Draft} → IsOpen o.task.automaton.now o.task.pattern.now third
    → Adds (λ a ms. start_guard_rows a ms o.start_mask 0 a.fall) third fourth
    → IsDraft o [] fourth
unfolding meanings word_rows
start_drafted o begun guards =
    adds_drafted o [] (open_rows o.task.automaton.now o.task.pattern.now) begun.automaton_is begun.unknowns_are begun.rows_are
    (start_parted o.task.automaton.now o.task.pattern.now o.start_mask) guards

pub fallen_more : (start : ℕ) (past : List Element) (fallen falls from : ℕ) → from ≡ falls → ((j : ℕ) → has_bit fallen j ≡ has_fallen start past j) → (j : ℕ)
    → has_bit (bit_or fallen from) j ≡ has_fallen start (Fall falls ∷ past) j
unfolding has_fallen
fallen_more start past fallen falls from e h j = has_or fallen from j ∙ ap (λ m. has_bit m j || has_bit fallen j) e ∙ ap (λ b. has_bit falls j || b) (h j)

pub initial_few : (a : Automaton) → length a.initial ≤ 128
initial_few a = let least : 0 ≤ length a.locations = omega arith in omega
    (arith, rises_length 0 (length a.locations) a.initial least a.shape.initial_rises, a.shape.limits.locations_limit)
