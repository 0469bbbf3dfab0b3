-- the run of a solution of a word's system of rest comes to rest
use Rattle.ta_rest.proofs.Common.{◌≡◌, ◌≢◌, inl, inr, ℕ, ◌+◌, ◌<◌, ◌≤◌, ℤ, pos, ◌≤ℤ◌, List, [], ◌∷◌, ◌++◌, map, length, eqb, cond, true, false, not, arith, sym}
use Rattle.ta_rest.proofs.Common.{ap, ◌∙◌, refl, subst, slice_get, get_or, Some, None, Option, IsBitSet, filter, ints, false≢true, true≢false, cases_Bool}
use Rattle.ta_rest.proofs.Common.{and_parts, and_from, not_from_false, eqb_tells, slice_get_within, same_Some, all_below-at, all_below-from, at_set, bit_set}
use Rattle.ta_rest.proofs.Common.{implies-from, some_at, In-filter, value_of, RowHolds, Row, Rule, Automaton, Pattern, has_bit, all_below, implies}
use Rattle.ta_rest.proofs.Common.{range_with_len, In, Whole, location_place, Config, Move, value_at, Fits, value_at-location, from_within, Element, LegalWord}
use Rattle.ta_rest.proofs.Common.{children, follows, has_event, has_fallen, has_rise, is_complete, RunsThrough, WordFires, position_in, steps_of, AllHold}
use Rattle.ta_rest.proofs.Common.{counter_row, guard_rows, negated, opposite, row_value, word_rows, meanings, start_meanings, AllHold-left, RowFails}
use Rattle.ta_rest.proofs.Common.{opposite_value, take_apart, ComesLast, events_below, EndsOfSolutionsRest, SolutionsComeToRest, StepsOfSolutionsRest, AtRest}
use Rattle.ta_rest.proofs.Common.{end_rows, leads_out, must_be_left, rest_rows, Event as PatternEvent, terms_value-same, prefix_fewer}
use Rattle.std.proofs.lemmas.Nat.Bits.{bit_at_ones}
use Rattle.ta_base.proofs.Ranges.{In-numbers, at_index}
use Rattle.ta_words.specs.declared.element.Element.TheVariants.{Event, Rise, Fall}
use Rattle.ta_encode.proofs.Fallen.{fallen_fail, guard_fails}
use Rattle.ta_encode.proofs.Realize.{solution_end, solution_runs, some_firings}
use Rattle.ta_encode.proofs.Values.{AllHold-right, event_ready, place_value}
use Rattle.ta_rest.proofs.EndingLaws.{positions_within}
use Rattle.ta_rest.proofs.Resting.{not_followed}
use Rattle.ta_base.proofs.Bits.{any_below-at}

-- the rows of rest of a complete word
pub end_hold : (a : Automaton) (p : Pattern) (start : ℕ) (past : List Element) (vs : List ℕ) → is_complete p past ≡ true
    → AllHold vs (rest_rows a p start past ++ []) → AllHold vs (word_rows a p start past) × AllHold vs (end_rows a p start past)
unfolding rest_rows
end_hold a p start past vs complete h =
    let both = AllHold-left vs (word_rows a p start past ++ cond (is_complete p past) (end_rows a p start past) []) [] h in (
      AllHold-left vs (word_rows a p start past) (cond (is_complete p past) (end_rows a p start past) []) both,
      subst (λ b. AllHold vs (cond b (end_rows a p start past) [])) complete
          (AllHold-right vs (word_rows a p start past) (cond (is_complete p past) (end_rows a p start past) []) both),
    )

-- a row of a list of rows
row_in : (vs : List ℕ) (a : Automaton) (p : Pattern) (start : ℕ) (past : List Element) (ls : List ℕ)
    → AllHold vs (map (λ l. opposite (counter_row a (meanings a p start past) l)) ls) → (l : ℕ) → In l ls
    → pos 0 ≤ℤ row_value vs (opposite (counter_row a (meanings a p start past) l))
row_in vs a p start past [] h l i = absurd i
row_in vs a p start past (m ∷ ls) h l (inl e) = subst (λ k. pos 0 ≤ℤ row_value vs (opposite (counter_row a (meanings a p start past) k))) (sym e) h.0
row_in vs a p start past (m ∷ ls) h l (inr i) = row_in vs a p start past ls h.1 l i

-- what holds at the end of a word's solution
record EndOf (a : Automaton) (p : Pattern) (start : ℕ) (past : List Element) (vs : List ℕ) (c : Config) : Type 0 where
  words : AllHold vs (word_rows a p start past)
  ends : AllHold vs (end_rows a p start past)
  whole : Whole a c
  values : (i : ℕ) → value_at c i ≡ place_value a (meanings a p start past) vs i
  empty : (l : ℕ) → has_bit p.empty l ≡ true → get_or c.counters l 0 ≡ 0

-- a guard that fails by the values fails in the configuration
fails_at : (a : Automaton) (c : Config) (point : ℕ → ℤ) (row : Row) → ((i : ℕ) → value_at c i ≡ point i) → RowFails point row → RowHolds (value_at c) row → ⊥
fails_at a c point row same fails holds =
    let held : pos 0 ≤ℤ value_of (value_at c) row.form = holds in
    omega (arith, ints, fails, held, terms_value-same row.form.terms (value_at c) point same)

-- nobody is in a location that must be left
nobody_left : (a : Automaton) (p : Pattern) (start : ℕ) (past : List Element) (vs : List ℕ) (c : Config) → EndOf a p start past vs c → (l : ℕ)
    → l < length a.locations → must_be_left a p start past l ≡ true → get_or c.counters l 0 ≡ 0
unfolding end_rows
nobody_left a p start past vs c end l within left =
    let ms = meanings a p start past in
    let ls = filter (must_be_left a p start past) (range_with_len 0 (length a.locations)) in
    let rows = AllHold-right vs (map negated (guard_rows a ms (λ i. not (has_rise past i)) 0 a.rise)) (map (λ m. opposite (counter_row a ms m)) ls) end.ends in
    let row = row_in vs a p start past ls rows l
    (In-filter (must_be_left a p start past) l (range_with_len 0 (length a.locations)) left
    (In-numbers l 0 (length a.locations) (omega arith) (omega arith))) in
    let fits : Fits a c = record { parameters = end.whole.parameters; shared = end.whole.shared } in
    let same = end.values (location_place a l) in
    let counter : row_value vs (counter_row a ms l) ≡ place_value a ms vs (location_place a l) = omega (arith, ints) in
    omega (arith, ints, row, opposite_value vs (counter_row a ms l), counter, same, value_at-location a c l fits)

-- a rise guard that isn't in the word fails
unrisen : (a : Automaton) (p : Pattern) (start : ℕ) (past : List Element) (vs : List ℕ) (c : Config) → EndOf a p start past vs c → (i : ℕ) (row : Row)
    → slice_get a.rise i ≡ Some row → has_rise past i ≡ false → RowHolds (value_at c) row → ⊥
unfolding end_rows
unrisen a p start past vs c end i row at f =
    let ms = meanings a p start past in
    let rows = AllHold-left vs (map negated (guard_rows a ms (λ k. not (has_rise past k)) 0 a.rise)) _ end.ends in
    fails_at a c (place_value a ms vs) row end.values
    (guard_fails a ms vs (λ k. not (has_rise past k)) 0 a.rise rows i row at
    (not_from_false (has_rise past (0 + i)) (let e : 0 + i ≡ i = omega arith in ap (has_rise past) e ∙ f)))

-- a rule that can step between two locations leads out of its source
leads : (a : Automaton) (p : Pattern) (start : ℕ) (past : List Element) (vs : List ℕ) (c d : Config) → EndOf a p start past vs c → (rule : Rule)
    → Move a rule c d → rule.from ≢ rule.to → leads_out a start past rule.from (Some rule) ≡ true
leads a p start past vs c d end rule move apart =
    let here : eqb rule.from rule.from ≡ true = elim (eqb_tells rule.from rule.from) [ inl e ↦ e.0 | inr ne ↦ absurd (ne.1 refl) ] in
    let other : eqb rule.from rule.to ≡ false = elim (eqb_tells rule.from rule.to) [ inl e ↦ absurd (apart e.1) | inr ne ↦ ne.0 ] in
    let rise : all_below (length a.rise) (λ i. implies (has_bit rule.rise i) (has_rise past i)) ≡ true = all_below-from (length a.rise)
    (λ i. implies (has_bit rule.rise i) (has_rise past i)) (λ i b. implies-from (has_bit rule.rise i) (has_rise past i) (λ set.
    let row = some_at a.rise i b in
    elim (cases_Bool (has_rise past i))
    [ inl t ↦ t | inr f ↦ absurd (unrisen a p start past vs c end i row.0 row.1 f (move.rise i row.0 row.1 (bit_set rule.rise i set))) ])) in
    let fall : all_below (length a.fall) (λ j. implies (has_bit rule.fall j) (not (has_fallen start past j))) ≡ true = all_below-from (length a.fall)
    (λ j. implies (has_bit rule.fall j) (not (has_fallen start past j))) (λ j b. implies-from (has_bit rule.fall j) (not (has_fallen start past j)) (λ set.
    let row = some_at a.fall j b in
    elim (cases_Bool (has_fallen start past j)) [
      | inl t ↦ absurd (fails_at a c (place_value a (meanings a p start past) vs) row.0 end.values (fallen_fail a p start past vs end.words j row.0 row.1 t)
          (move.fall j row.0 row.1 (bit_set rule.fall j set)))
      | inr f ↦ not_from_false (has_fallen start past j) f
    ])) in
    and_from (eqb rule.from rule.from) _ here (and_from (not (eqb rule.from rule.to)) _ (ap not other) (and_from _ _ rise fall))

at_rest : (a : Automaton) (p : Pattern) (start : ℕ) (past : List Element) (vs : List ℕ) (c : Config) → EndOf a p start past vs c → AtRest a c
at_rest a p start past vs c end r next step =
    let rule = step.rule in
    let l = rule.from in
    let some = step.move.some in
    elim (eqb_tells rule.from rule.to) [
      | inl e ↦ e.1
      | inr ne ↦ elim (cases_Bool (has_bit p.empty l)) [
        | inl t ↦ absurd (let none = end.empty l t in omega arith)
        | inr f ↦ (
            let out : leads_out a start past l (slice_get a.rules r) ≡ true = ap (leads_out a start past l) step.named
            ∙ leads a p start past vs c next end rule step.move ne.1 in
            let left : must_be_left a p start past l ≡ true = and_from (not (has_bit p.empty l)) _ (not_from_false (has_bit p.empty l) f)
            (any_below-at (length a.rules) (λ k. leads_out a start past l (slice_get a.rules k)) r (slice_get_within a.rules r rule step.named) out) in
            let none = nobody_left a p start past vs c end l (from_within a r rule step.named) left in
            absurd (omega arith))
      ]
    ]

pub ends_rest : EndsOfSolutionsRest
ends_rest a p s c whole values empty =
    let rows = end_hold a p s.start s.past s.values s.complete s.solves.rows_hold in
    at_rest a p s.start s.past s.values c
    (record { words = rows.0; ends = rows.1; whole = whole; values = values; empty = λ l t. empty l (bit_set p.empty l t) })

-- the newest element of a complete word is an event
abbrev pub EndsByEvent : List Element → Type 0
EndsByEvent past = (e : ℕ) × (older : List Element) × (past ≡ Event e ∷ older)

pub by_event : (a : Automaton) (p : Pattern) (start : ℕ) (past : List Element) → 1 ≤ length p.events → LegalWord a p start past → is_complete p past ≡ true
    → EndsByEvent past
unfolding has_event
by_event a p start [] some legal complete = absurd (false≢true (all_below-at (length p.events) (has_event []) complete 0 some))
by_event a p start (Event e ∷ older) some legal complete = (e, older, refl)
by_event a p start (Rise i ∷ older) some legal complete = absurd (true≢false (sym complete ∙ not_followed a p start older (Rise i) legal.0))
by_event a p start (Fall mask ∷ older) some legal complete = absurd (true≢false (sym complete ∙ not_followed a p start older (Fall mask) legal.0))

-- it happens at the end of the run
newest_at : (a : Automaton) (p : Pattern) (start : ℕ) (e : ℕ) (older : List Element) (vs : List ℕ) (firings : List (List ℕ))
    → WordFires a p start (Event e ∷ older) vs firings → position_in (Event e ∷ older) firings e ≡ length (steps_of firings)
newest_at a p start e older vs [] fires = absurd fires
newest_at a p start e older vs (rules ∷ firings) fires = elim (eqb_tells e e) [ inl t ↦ rw t.0 refl | inr ne ↦ absurd (ne.1 refl) ]

event_exists : (p : Pattern) (older : List Element) (o : Option PatternEvent) → follows p older o ≡ true → (event : PatternEvent) × (o ≡ Some event)
event_exists p older None t = absurd (false≢true t)
event_exists p older (Some event) t = (event, refl)

-- the last event happens at the end of the run, since the newest element's does and doesn't come after it
last_at_end : (a : Automaton) (p : Pattern) (start : ℕ) (past : List Element) (vs : List ℕ) (firings : List (List ℕ)) → ComesLast p → LegalWord a p start past
    → is_complete p past ≡ true → WordFires a p start past vs firings → (run : RunsThrough a p past vs firings) → (last : ℕ) → last + 1 ≡ length p.events
    → get_or run.occurs.positions last 0 ≡ length (steps_of firings)
last_at_end a p start past vs firings comes legal complete fires run last is =
    let n = length p.events in
    let w = by_event a p start past comes.some legal complete in
    let e = w.0 in
    let child : In (Event e) (children a p [] start w.1) = (subst (LegalWord a p start) w.2 legal).0 in
    let ready = and_parts (not (has_event w.1 e)) (follows p w.1 (slice_get p.events e)) (event_ready a p [] start w.1 e child) in
    let event = event_exists p w.1 (slice_get p.events e) ready.1 in
    let exists : e < n = slice_get_within p.events e event.0 event.1 in
    let newest : position_in past firings e ≡ length (steps_of firings) =
    subst (λ (q : List Element). position_in q firings e ≡ length (steps_of firings)) (sym w.2)
    (newest_at a p start e w.1 vs firings (subst (λ (q : List Element). WordFires a p start q vs firings) w.2 fires)) in
    let place : get_or run.occurs.positions e 0 ≡ length (steps_of firings) = ap (λ (ps : List ℕ). get_or ps e 0) run.there
    ∙ at_index (position_in past firings) n e exists ∙ newest in
    elim (eqb_tells e last) [
      | inl same ↦ ap (λ k. get_or run.occurs.positions k 0) (sym same.1) ∙ place
      | inr other ↦ (
          let below : e < last = (let ne = other.1 in omega arith) in
          let final = some_at p.events last (omega arith) in
          let set : IsBitSet final.0.after e = subst (λ m. IsBitSet m e) (sym (comes.last last final.0 is final.1))
          (at_set (events_below last) e (bit_at_ones last e below)) in
          let order = run.occurs.in_order last e final.0 final.1 set in
          let within = positions_within a p run.first (steps_of firings) run.occurs last in
          omega arith)
    ]

pub steps_rest : StepsOfSolutionsRest
unfolding meanings
steps_rest a p early comes s firings fires =
    let rows = end_hold a p s.start s.past s.values s.complete s.solves.rows_hold in
    let f = take_apart s.past [] in
    let fewer : length (start_meanings a p) ≤ length (meanings a p s.start s.past) = subst
    (λ (q : List Element). length (start_meanings a p) ≤ length (meanings a p s.start q)) f.1 (prefix_fewer a p s.start [] f.0) in
    let enough : length (start_meanings a p) ≤ length s.values = omega (arith, s.solves.count) in
    let run = solution_runs a p early s.start s.past s.values firings fires s.legal s.complete rows.0 enough in
    let end = solution_end a p early s.start s.past s.values firings fires s.legal s.complete rows.0 enough in
    let rest : AtRest a end.config = at_rest a p s.start s.past s.values end.config
    (record { words = rows.0; ends = rows.1; whole = end.whole; values = end.values; empty = end.empty }) in
    record {
      first = run.first;
      begins = run.begins;
      rests = record {
        occurs = run.occurs;
        at_end = last_at_end a p s.start s.past s.values firings comes s.legal s.complete fires run;
        rests = λ c at. subst (AtRest a) (same_Some end.config c (sym end.there ∙ at)) rest;
      };
    }

pub some_rests : SolutionsComeToRest
some_rests a p early comes scope s safe =
    let rows = end_hold a p s.start s.past s.values s.complete s.solves.rows_hold in
    let some = some_firings a p s.start s.past s.values scope rows.0 in
    let run = steps_rest a p early comes s some.0 some.1 in
    safe run.first (steps_of some.0) run.rests
