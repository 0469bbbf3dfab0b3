-- a solution of a complete word gives a run in which the pattern occurs
--
-- A solution says how often each rule fires before each element, but not in what order. Where no rule with an update lies on a
-- cycle, an order can be made up: firings that go round a cycle change nothing together and are taken out, and the others are set
-- forward, so that no firing into a location comes behind one out of it.
--
-- Such firings are steps of the automaton. A counter goes up first and down then, from a natural number to one that the rows at the
-- element's end call natural, so it is never negative between. The rise guards that a rule asks for are in the word: their rows hold
-- at an earlier moment, and shared variables only grow. The fall guards that it asks for stand in the word: their rows hold at the
-- element's end, so they hold before it. At a Fall the one rule whose Single is 1 fires last: the guards that fall hold before it,
-- and their negated rows say that they fail behind it.
--
-- The first configuration has the values of the parameters and start counts, and is initial by the rows at the start. `unwind` puts
-- the firings of the elements behind each other. Each event happens at the end of its element, where its condition's rows hold.
use Rattle.ta_encode.proofs.Common.{◌≡◌, ℕ, ◌<◌, ◌≤◌, List, [], ◌∷◌, ◌++◌, map, length, drop, true, arith, refl, sym, ap, ◌∙◌, subst, slice_get, get_or, Some}
use Rattle.ta_encode.proofs.Common.{length-map, slice_get_within, slice_get-get_or, all_below-at, bit_true, only_item, at_index, RowHolds, Row, Automaton}
use Rattle.ta_encode.proofs.Common.{Pattern, range_with_len, Config, InScope, Steps, value_at, Element, Event, Rise, Fall, LegalWord, allowed_rules}
use Rattle.ta_encode.proofs.Common.{is_complete, has_event, has_rise, Count, start_meanings, meanings, counts_after, place_coefficient, word_rows, fall_rows}
use Rattle.ta_encode.proofs.Common.{AllHold, FiresBefore, FiresFall, WordFires, RunsThrough, position_in, steps_of, Whole, length-range_with_len}
use Rattle.ta_encode.proofs.Moments.{AllHold-left}
use Rattle.ta_automaton.proofs.Rearranged.{rearrange}
use Rattle.ta_encode.proofs.Values.{place_value, condition_back, AllHold-right, unfolded, unfolded-total, unfolded-may, allowed_may}
use Rattle.ta_encode.proofs.Forward.{forward_of}
use Rattle.ta_encode.proofs.Singles.{one_single, single_one, singles_hold}
use Rattle.ta_encode.proofs.Segment.{EachMay, may_at, may_from, may_rules}
use Rattle.ta_encode.proofs.Reorder.{AfterEarlier}
use Rattle.ta_encode.proofs.Switch.{KeptEmpty}
use Rattle.ta_encode.proofs.Unwind.{unwind}
use Rattle.ta_encode.proofs.Begin.{first_of, first_rows_of, first_initial, first_values, begin_at, begin_rows}
use Rattle.ta_encode.proofs.Starts.{first_starts}

-- an element's firings in an order that goes forward
some_fires : (a : Automaton) (p : Pattern) (start : ℕ) (past : List Element) (vs : List ℕ) → InScope a → (rules : List ℕ) × FiresBefore a p start past vs rules
some_fires a p start past vs scope =
    let al = allowed_rules a p start past in
    let ws = drop (length (meanings a p start past)) vs in
    let os = unfolded al ws in
    let may : EachMay a p start past os = unfolded-may a p start past al ws (allowed_may a p start past) in
    let r = rearrange a scope (length os) os (may_rules a p start past os may) (omega arith) in (
      r.firings,
      record {
        allowed = may_from a p start past r.firings (λ o i. may_at a p start past os o may (r.among o i));
        forward = forward_of a r.firings r.onward;
        adds = λ i. r.sums i ∙ unfolded-total (λ m. place_coefficient a m i) (Count (length past)) al ws;
      },
    )

-- the firings of a Fall, whose last one is the rule whose Single is 1
some_fall : (a : Automaton) (p : Pattern) (start : ℕ) (past : List Element) (mask : ℕ) (vs : List ℕ) → InScope a
    → AllHold vs (fall_rows a p start past (meanings a p start past ++ counts_after a p start past) (meanings a p start (Fall mask ∷ past)) mask)
    → (rules : List ℕ) × FiresFall a p start past mask vs rules
some_fall a p start past mask vs scope h =
    let al = allowed_rules a p start past in
    let before = meanings a p start past ++ counts_after a p start past in
    let one = only_item (unfolded al (drop (length before) vs))
    (one_single before al vs (singles_hold a p start past before (meanings a p start (Fall mask ∷ past)) mask vs h)) in
    let front = some_fires a p start past vs scope in (
      front.0 ++ one.0 ∷ [],
      record { front = front.0; last = one.0; cut = refl; fires = front.1; single = single_one a p start past mask vs one.0 one.1 },
    )

-- firings for each element of a word with a solution
pub some_firings : (a : Automaton) (p : Pattern) (start : ℕ) (past : List Element) (vs : List ℕ) → InScope a → AllHold vs (word_rows a p start past)
    → (firings : List (List ℕ)) × WordFires a p start past vs firings
unfolding word_rows
some_firings a p start [] vs scope h = ([], tt)
some_firings a p start (Event e ∷ past) vs scope h =
    let one = some_fires a p start past vs scope in
    let rest = some_firings a p start past vs scope (AllHold-left vs (word_rows a p start past) _ h) in
    (one.0 ∷ rest.0, (one.1, rest.1))
some_firings a p start (Rise i ∷ past) vs scope h =
    let one = some_fires a p start past vs scope in
    let rest = some_firings a p start past vs scope (AllHold-left vs (word_rows a p start past) _ h) in
    (one.0 ∷ rest.0, (one.1, rest.1))
some_firings a p start (Fall mask ∷ past) vs scope h =
    let one = some_fall a p start past mask vs scope (AllHold-right vs (word_rows a p start past) _ h) in
    let rest = some_firings a p start past vs scope (AllHold-left vs (word_rows a p start past) _ h) in
    (one.0 ∷ rest.0, (one.1, rest.1))

pub solution_runs : (a : Automaton) (p : Pattern) → AfterEarlier p → (start : ℕ) (past : List Element) (vs : List ℕ) (firings : List (List ℕ))
    → WordFires a p start past vs firings → LegalWord a p start past → is_complete p past ≡ true → AllHold vs (word_rows a p start past)
    → length (start_meanings a p) ≤ length vs → RunsThrough a p past vs firings
solution_runs a p earlier start past vs firings fires legal complete rows enough =
    let c = first_of a p vs in
    let h = first_rows_of a p start vs (begin_rows a p start past vs rows) in
    let u = unwind a p start past vs c firings fires (begin_at a p start vs) legal rows in
    let position = position_in past firings in
    let n = length p.events in
    let positions = map position (range_with_len 0 n) in
    let all : (e : ℕ) → e < n → has_event past e ≡ true = (λ e b. all_below-at n (has_event past) complete e b) in
    let many : length positions ≡ n = length-map (range_with_len 0 n) position ∙ length-range_with_len 0 n in
    record {
      first = c;
      begins = first_starts a p vs enough;
      occurs = record {
        later = u.trail.later;
        run = record { initial = first_initial a p vs h; steps = subst (λ (rules : List ℕ). Steps a c rules u.trail.later) u.is u.trail.run };
        start = condition_back a (start_meanings a p) vs c (first_values a p vs) p.start.comparisons h.start;
        kept_empty = λ l set k d b. u.trail.all_good k (get_or (c ∷ u.trail.later) k d) (slice_get-get_or (c ∷ u.trail.later) k d b) l (bit_true p.empty l set);
        positions = positions;
        each_has_one = many;
        happens = λ e event k at place.
            let b : e < n = slice_get_within p.events e event at in
            let w = u.happened e event (all e b) at in
            let inside : e < length positions = omega arith in
            let here : Some k ≡ Some (position e) = sym place ∙ slice_get-get_or positions e 0 inside ∙ ap Some (at_index position n e b) in
            let same : k ≡ position e = cc in
            (w.0, subst (λ (x : ℕ). slice_get (c ∷ u.trail.later) x ≡ Some w.0) (sym same) w.1, w.2);
        in_order = λ e f event at set.
            let b : e < n = slice_get_within p.events e event at in
            let less : f < e = earlier e event at f set in
            let w = u.ordered e f event (all e b) at set (omega arith) in
            omega (arith, at_index position n e b, at_index position n f (let z : f < n = omega arith in z), w.1);
      };
      there = refl;
    }

-- what stands at the end of a solution's run: a configuration with the values of the word's end, where the locations that are to be
-- kept empty are
pub record RunEnd (a : Automaton) (p : Pattern) (start : ℕ) (past : List Element) (vs : List ℕ) (firings : List (List ℕ))
    (run : RunsThrough a p past vs firings) : Type 0 where
  pub config : Config
  pub there : slice_get (run.first ∷ run.occurs.later) (length (steps_of firings)) ≡ Some config
  pub whole : Whole a config
  pub values : (i : ℕ) → value_at config i ≡ place_value a (meanings a p start past) vs i
  pub rises : (i : ℕ) (row : Row) → slice_get a.rise i ≡ Some row → has_rise past i ≡ true → RowHolds (value_at config) row
  pub empty : KeptEmpty p config

pub solution_end : (a : Automaton) (p : Pattern) (earlier : AfterEarlier p) (start : ℕ) (past : List Element) (vs : List ℕ) (firings : List (List ℕ))
    (fires : WordFires a p start past vs firings) (legal : LegalWord a p start past) (complete : is_complete p past ≡ true)
    (rows : AllHold vs (word_rows a p start past)) (enough : length (start_meanings a p) ≤ length vs)
    → RunEnd a p start past vs firings (solution_runs a p earlier start past vs firings fires legal complete rows enough)
unfolding solution_runs
solution_end a p earlier start past vs firings fires legal complete rows enough =
    let c = first_of a p vs in
    let u = unwind a p start past vs c firings fires (begin_at a p start vs) legal rows in
    record {
      config = u.config;
      there = ap (λ (rules : List ℕ). slice_get (c ∷ u.trail.later) (length rules)) (sym u.is) ∙ u.trail.last;
      whole = u.whole;
      values = u.values;
      rises = u.rises;
      empty = u.trail.all_good (length u.trail.rules) u.config u.trail.last;
    }
