-- a run that has come to rest solves the system of rest of its word
--
-- The word of the run (`Reorder` of ta_encode) ends with its last event, and its last configuration is that of the deadlock. There
-- the rise guards in the word hold and the others fail, and the fall guards that have not fallen hold. A rule between two locations
-- whose guards hold by the word could step if somebody were at its source; so nobody is, which is what the further rows say.
use Rattle.ta_rest.proofs.Common.{◌≡◌, inl, inr, ℕ, zero, suc, ◌+◌, ◌-◌, ◌≤◌, ◌^◌, pos, List, [], ◌∷◌, map, length, eqb, cond, Bool, true, false, not, arith}
use Rattle.ta_rest.proofs.Common.{sym, ap, ◌∙◌, refl, subst, slice_get, get_or, Some, None, Option, reverse, filter, ints, false≢true, true≢false, cases_Bool}
use Rattle.ta_rest.proofs.Common.{and_parts, eq-eqb, not-false, not-true, slice_get_within, same_Some, all_below-at, all_below-false, bit_true, implies-at}
use Rattle.ta_rest.proofs.Common.{cond_child, in_filter, value_of, RowHolds, Row, Rule, Automaton, Pattern, has_bit, all_below, implies, range_with_len, In}
use Rattle.ta_rest.proofs.Common.{Whole, location_place, Config, MaskedHold, Steps, value_at, Fits, value_at-location, run_length, Element, LegalWord, children}
use Rattle.ta_rest.proofs.Common.{has_fallen, has_rise, is_complete, EndsAt, LinearRow, AllHold, counter_row, guard_rows, negated, opposite, word_rows}
use Rattle.ta_rest.proofs.Common.{meanings, AllHold-append, AllHold-left, Moment, RowFails, guards_fail, opposite_value, SolvesAlong, extend, none_along}
use Rattle.ta_rest.proofs.Common.{prefix_legal, prefix_rows, take_apart, AtRest, end_rows, leads_out, must_be_left, rest_rows, rest_search, RestingRunsSolve}
use Rattle.ta_rest.proofs.Common.{RefutedEndingsRest, RefutedEndingsShow, eqb-true, is_negative, negative_false, negative_true, fire, fire_step}
use Rattle.ta_encode.proofs.Asking.{answers_each, closed}
use Rattle.std.proofs.lemmas.List.{append-nil}
use Rattle.ta_automaton.proofs.Fire.{step_whole}
use Rattle.ta_implied.specs.Implied.{Good}
use Rattle.ta_implied.proofs.Chains.{nothing_leads}
use Rattle.ta_encode.specs.declared.meaning.Meaning.{Meaning}
use Rattle.ta_encode.proofs.Theorems.{reordered_to}
use Rattle.ta_rest.proofs.EndingLaws.{ending_early, ending_has, endings_rest}

pub whole_at : (a : Automaton) (c : Config) (rules : List ℕ) (later : List Config) → Whole a c → Steps a c rules later → (k : ℕ) (d : Config)
    → slice_get (c ∷ later) k ≡ Some d → Whole a d
whole_at a c rules later w steps zero d at = subst (Whole a) (same_Some c d at) w
whole_at a c [] [] w steps (suc k) d at = absurd (slice_none k d at)
  where
    slice_none : (k : ℕ) (d : Config) → slice_get [] k ≡ Some d → ⊥
    slice_none k d e = cc
whole_at a c [] (e ∷ later) w steps (suc k) d at = absurd steps
whole_at a c (r ∷ rules) [] w steps (suc k) d at = absurd steps
whole_at a c (r ∷ rules) (e ∷ later) w steps (suc k) d at = whole_at a e rules later (step_whole a r c e w steps.0) steps.1 k d at

-- where nothing but self-loops can step, nobody is in a location that must be left
nobody : (a : Automaton) (start : ℕ) (past : List Element) (c : Config) → Whole a c → AtRest a c
    → ((i : ℕ) (row : Row) → slice_get a.rise i ≡ Some row → has_rise past i ≡ true → RowHolds (value_at c) row)
    → ((j : ℕ) (row : Row) → slice_get a.fall j ≡ Some row → has_fallen start past j ≡ false → RowHolds (value_at c) row)
    → (l r : ℕ) (o : Option Rule) → slice_get a.rules r ≡ o → leads_out a start past l o ≡ true → get_or c.counters l 0 ≡ 0
nobody a start past c w rests risen standing l r None named leads = absurd (false≢true leads)
nobody a start past c w rests risen standing l r (Some rule) named leads =
    let from = and_parts (eqb rule.from l) _ leads in
    let apart = and_parts (not (eqb rule.from rule.to)) _ from.1 in
    let guards = and_parts (all_below (length a.rise) (λ i. implies (has_bit rule.rise i) (has_rise past i)))
    (all_below (length a.fall) (λ j. implies (has_bit rule.fall j) (not (has_fallen start past j)))) apart.1 in
    let here : rule.from ≡ l = eqb-true rule.from l from.0 in
    let rise : MaskedHold rule.rise a.rise c =
    (λ i row at bit. risen i row at
    (implies-at (has_bit rule.rise i) (has_rise past i)
    (all_below-at (length a.rise) (λ k. implies (has_bit rule.rise k) (has_rise past k)) guards.0 i (slice_get_within a.rise i row at))
    (bit_true rule.rise i bit))) in
    let fall : MaskedHold rule.fall a.fall c =
    (λ j row at bit. standing j row at
    (not-true (has_fallen start past j)
    (implies-at (has_bit rule.fall j) (not (has_fallen start past j))
    (all_below-at (length a.fall) (λ k. implies (has_bit rule.fall k) (not (has_fallen start past k))) guards.1 j (slice_get_within a.fall j row at))
    (bit_true rule.fall j bit)))) in
    empty here apart.0 rise fall (get_or c.counters l 0) refl
  where
    empty : rule.from ≡ l → not (eqb rule.from rule.to) ≡ true → MaskedHold rule.rise a.rise c → MaskedHold rule.fall a.fall c → (n : ℕ)
        → get_or c.counters l 0 ≡ n → n ≡ 0
    empty here apart rise fall zero e = refl
    empty here apart rise fall (suc n) e =
        let some : 1 ≤ get_or c.counters rule.from 0 = (let q : get_or c.counters rule.from 0 ≡ suc n = ap (λ k. get_or c.counters k 0) here ∙ e in omega arith)
        in
        let step = fire_step a r rule c named w rise fall some in
        let twice : Some step.rule ≡ Some rule = sym step.named ∙ named in
        let same : step.rule ≡ rule = cc in
        let loop : rule.from ≡ rule.to = subst (λ (q : Rule). q.from ≡ q.to) same (rests r (fire a rule c) step) in
        absurd (true≢false (sym (eq-eqb rule.from rule.to loop) ∙ not-true (eqb rule.from rule.to) apart))

-- the rows of counters that are 0
empty_rows : (a : Automaton) (ms : List Meaning) (vs : List ℕ) (c : Config) → Moment a ms vs c → Fits a c → (ls : List ℕ)
    → ((l : ℕ) → In l ls → get_or c.counters l 0 ≡ 0) → AllHold vs (map (λ l. opposite (counter_row a ms l)) ls)
empty_rows a ms vs c m fits [] none = tt
empty_rows a ms vs c m fits (l ∷ ls) none =
    let zero_now : get_or c.counters l 0 ≡ 0 = none l (inl refl) in (
      omega (arith, ints, opposite_value vs (counter_row a ms l), m.places (location_place a l), value_at-location a c l fits, ap pos zero_now),
      empty_rows a ms
          vs c m fits ls (λ k i. none k (inr i)),
    )

-- the rows of rest hold at the end of the word
rest_holds : (a : Automaton) (p : Pattern) (start : ℕ) (past : List Element) (vs : List ℕ) (configs : List Config) (positions : List ℕ)
    → (ends : EndsAt a p start past vs configs positions) → Whole a ends.config → AtRest a ends.config → AllHold vs (end_rows a p start past)
unfolding end_rows
rest_holds a p start past vs configs positions ends w rests =
    let c = ends.config in
    let ms = meanings a p start past in
    let m : Moment a ms vs c = record { count = ends.count; places = ends.places } in
    let fits : Fits a c = record { parameters = w.parameters; shared = w.shared } in
    let fails : (j : ℕ) (row : Row) → slice_get a.rise j ≡ Some row → not (has_rise past (0 + j)) ≡ true
    → RowFails (value_at c) row = (λ j row at t. elim (cases_Bool (is_negative (value_of (value_at c) row.form))) [
      | inl n ↦ negative_true (value_of (value_at c) row.form) n
      | inr f ↦ (let same : 0 + j ≡ j = omega arith in
          let risen : has_rise past j ≡ true = (ends.risen j row at).0 (negative_false (value_of (value_at c) row.form) f) in
          absurd (true≢false (sym risen ∙ ap (has_rise past) (sym same) ∙ not-true (has_rise past (0 + j)) t)))
    ]) in
    let guards : AllHold vs (map negated (guard_rows a ms (λ i. not (has_rise past i)) 0 a.rise)) = subst
    (λ (v : List ℕ). AllHold v (map negated (guard_rows a ms (λ i. not (has_rise past i)) 0 a.rise))) (append-nil vs)
    (guards_fail a ms vs c m [] (λ i. not (has_rise past i)) 0 a.rise fails) in
    let ls = filter (must_be_left a p start past) (range_with_len 0 (length a.locations)) in
    let none : (l : ℕ) → In l ls → get_or c.counters l 0 ≡ 0 = (λ l i.
    let parts = and_parts (not (has_bit p.empty l)) (not (all_below (length a.rules) (λ r. not (leads_out a start past l (slice_get a.rules r)))))
    (in_filter (must_be_left a p start past) l (range_with_len 0 (length a.locations)) i).0 in
    let found = all_below-false (length a.rules) (λ r. not (leads_out a start past l (slice_get a.rules r))) (not-true _ parts.1) in
    nobody a start past c w rests (λ i row at t. (ends.risen i row at).1 t) (λ j row at f. (ends.fallen j row at).1 f) l found.0 (slice_get a.rules found.0)
    refl (not-false (leads_out a start past l (slice_get a.rules found.0)) found.2)) in
    AllHold-append vs (map negated (guard_rows a ms (λ i. not (has_rise past i)) 0 a.rise)) (map (λ l. opposite (counter_row a ms l)) ls) guards
    (empty_rows a ms vs c m fits ls none)

if_complete : (vs : List ℕ) (b : Bool) (rows : List LinearRow) → AllHold vs rows → AllHold vs (cond b rows [])
if_complete vs true rows h = h
if_complete vs false rows h = tt

pub no_pairs_good : (a : Automaton) → Good a []
no_pairs_good a = record { pairs_are = tt; implied = tt; distinct = tt; acyclic = λ more guard. nothing_leads more guard guard }

pub resting_solves : RestingRunsSolve
unfolding rest_rows
resting_solves a p early some loops first rules o =
    let occurs = o.occurs in
    let to = reordered_to a p early loops [] (no_pairs_good a) (omega arith) first rules occurs in
    let ends = to.ends in
    let start = to.reordered.start in
    let past = reverse to.reordered.word in
    let vs = to.reordered.values in
    let within = slice_get_within (first ∷ occurs.later) ends.place ends.config ends.there in
    let long = run_length a first rules occurs.later occurs.run.steps in
    let high : length rules ≤ ends.place =
    (let g = ends.greatest (length p.events - 1) (omega arith) in let e = o.at_end (length p.events - 1) (omega arith) in omega arith) in
    let place : ends.place ≡ length rules = omega (arith, within, long, high) in
    let at : slice_get (first ∷ occurs.later) (length rules) ≡ Some ends.config = subst (λ k. slice_get (first ∷ occurs.later) k ≡ Some ends.config) place
    ends.there in
    let begin : Whole a first = record
    { parameters = occurs.run.initial.admissible.count; shared = occurs.run.initial.shared_count; counters = occurs.run.initial.locations_count } in
    let w = whole_at a first rules occurs.later begin occurs.run.steps ends.place ends.config ends.there in
    let rest = rest_holds a p start past vs (first ∷ occurs.later) occurs.positions ends w (o.rests ends.config at) in
    let words = AllHold-left vs (word_rows a p start past) [] to.reordered.solved.solves.rows_hold in
    let all = AllHold-append vs (word_rows a p start past) (cond (is_complete p past) (end_rows a p start past) []) words
    (if_complete vs (is_complete p past) (end_rows a p start past) rest) in
    record {
      start = start;
      is_start = to.reordered.is_start;
      past = past;
      legal = to.reordered.solved.legal;
      complete = to.reordered.solved.complete;
      values = vs;
      solves = record { count = ends.count; rows_hold = AllHold-append vs (rest_rows a p start past) [] all tt };
    }

-- a word that isn't complete has the rows of its word alone
no_more : (vs : List ℕ) (b : Bool) (rows : List LinearRow) → b ≡ false → AllHold vs (cond b rows [])
no_more vs true rows e = absurd (true≢false e)
no_more vs false rows e = tt

pub not_followed : (a : Automaton) (p : Pattern) (start : ℕ) (past : List Element) (e : Element) → In e (children a p [] start past)
    → is_complete p past ≡ false
unfolding children
not_followed a p start past e i = cond_child e (is_complete p past) _ i

rest_along : (a : Automaton) (p : Pattern) (start : ℕ) (vs : List ℕ) (past future : List Element) → LegalWord a p start (extend past future)
    → is_complete p (extend past future) ≡ true → AllHold vs (word_rows a p start (extend past future)) → AllHold vs (rest_rows a p start (extend past future))
    → SolvesAlong (rest_search a p) start vs past future
unfolding rest_rows
rest_along a p start vs past [] legal complete words rows =
    (rows, closed (rest_search a p) start past (is_complete p past) (children a p [] start past) (λ n. refl) complete)
rest_along a p start vs past (e ∷ future) legal complete words rows =
    let child = (prefix_legal a p [] start (e ∷ past) future legal).0 in
    let own = AllHold-append vs (word_rows a p start past) (cond (is_complete p past) (end_rows a p start past) [])
    (prefix_rows a p start past (e ∷ future) vs words) (no_more vs (is_complete p past) (end_rows a p start past) (not_followed a p start past e child)) in (
      own,
      answers_each (rest_search a p) start past (is_complete p past) (children a p [] start past) (λ n. refl) e child,
      rest_along a p start vs (e ∷ past)
          future legal complete words rows,
    )

pub refuted_rests : RefutedEndingsRest
unfolding rest_rows
refuted_rests a p early some loops trees proof first rules o =
    let s = resting_solves a p early some loops first rules o in
    let f = take_apart s.past [] in
    let rows : AllHold s.values (rest_rows a p s.start s.past) = AllHold-left s.values (rest_rows a p s.start s.past) [] s.solves.rows_hold in
    let words : AllHold s.values (word_rows a p s.start s.past) = AllHold-left s.values (word_rows a p s.start s.past)
    (cond (is_complete p s.past) (end_rows a p s.start s.past) []) rows in
    none_along (rest_search a p) (2 ^ length a.fall) trees proof s.start s.is_start f.0 s.values
    (rest_along a p s.start s.values [] f.0
    (subst (LegalWord a p s.start) (sym f.1) s.legal)
    (ap (is_complete p) f.1 ∙ s.complete)
    (subst (λ (q : List Element). AllHold s.values (word_rows a p s.start q)) (sym f.1) words)
    (subst (λ (q : List Element). AllHold s.values (rest_rows a p s.start q)) (sym f.1) rows))

pub refuted_show : RefutedEndingsShow
refuted_show a p q h early loops trees proof first rules o =
    refuted_rests a q (ending_early p q h early) (ending_has p q h) loops trees proof first rules ((endings_rest a p q h first rules).0 o)
