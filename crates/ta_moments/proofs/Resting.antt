-- natural values of a whole node at rest are a run that comes to quiet rest
use Rattle.ta_moments.proofs.Common.{◌*◌, ◌≡◌, ◌⊎◌, inl, inr, ℕ, ◌+◌, ◌-◌, ◌<◌, ◌≤◌, pos, ◌+ℤ◌, ◌≤ℤ◌, ◌<ℤ◌, List, [], ◌∷◌, take, map, filter, length, get_or}
use Rattle.ta_moments.proofs.Common.{slice_get, Some, None, Option, Bool, true, false, not, eqb, ltb, cond, arith, sym, ap, ◌∙◌, refl, subst, ints, cases_Bool}
use Rattle.ta_moments.proofs.Common.{cases_lt, and_from, eqb-true, ne_eqb, nat_tests, false≢true, some_at, slice_get_within, slice_get-get_or, bit_set, has_bit}
use Rattle.ta_moments.proofs.Common.{range_with_len, in_numbers, any_below-at, In, in_filter, in_map, length-append, Automaton, Pattern, Event, Row, Rule, At}
use Rattle.ta_moments.proofs.Common.{Config, Fits, value_at, value_at-location, location_place, terms_value, ComeAfterEarlier, candidates, comes_after}
use Rattle.ta_moments.proofs.Common.{has_later, guards_of, may_be_stuck, has_guard, place_form, guards, end_vector, answers, Known, Node, known_at, of_rest}
use Rattle.ta_moments.proofs.Common.{loud_terms, UnknownForm, number_form, terms_form, MustMove, QuietRest, without, InScope, Occurs, get_or_from_slice_get}
use Rattle.ta_moments.proofs.Common.{slice_get_before, slice_get_right, is_open, question_of, same_question, WholeNode, quiet_form, ending_early, endings_alike}
use Rattle.ta_moments.proofs.Common.{loud_left}
use Rattle.ta_moments.specs.declared.fact.Question.TheVariants.{OfStuck}
use Rattle.ta_moments.specs.declared.fact.Fact.{Fact}
use Rattle.ta_moments.specs.declared.fact.Fact.TheVariants.{Never, First, Stands, Last, Before, After, Same, Vacant, Fails}
use Rattle.ta_base.proofs.Bits.{has_ones}
use Rattle.ta_moments.specs.Whole.{form_value}
use Rattle.ta_moments.specs.Nodes.{HasQuietRun}
use Rattle.ta_moments.proofs.Cutting.{cut_at, cut_few}
use Rattle.ta_moments.proofs.Values.{value_number, value_plus, valued}
use Rattle.ta_moments.proofs.Saying.{Says}
use Rattle.ta_moments.proofs.Starting.{terms_worth}
use Rattle.ta_moments.proofs.Wholes.{allowed, asked, read_of, whole_run}
use Rattle.ta_rest.proofs.EndingLaws.{positions_within}
use Rattle.ta_rest.proofs.EndingShapes.{ending_last}
use Rattle.ta_rest.proofs.Resting.{whole_at}
use Rattle.ta_rest.specs.Endings.{ComesLast, IsEnding}

-- ---- the candidate of a pattern whose last event comes after all others
after_last : (p : Pattern) → ComesLast p → (last f : ℕ) → last + 1 ≡ length p.events → f < last → comes_after (slice_get p.events last) f ≡ true
after_last p l last f is less =
    let w = some_at p.events last (omega arith) in
    ap (λ (o : Option Event). comes_after o f) w.1 ∙ ap (λ (mask : ℕ). has_bit mask f) (l.last last w.0 is w.1) ∙ has_ones last f less

pub only_last : (p : Pattern) → ComesLast p → (last : ℕ) → last + 1 ≡ length p.events → (candidate : Option ℕ) → In candidate (candidates p)
    → candidate ≡ Some last
only_last p l last is candidate i = listed (eqb (length p.events) 0) refl i where
  listed : (b : Bool) → eqb (length p.events) 0 ≡ b → In candidate
      (cond b (None ∷ []) (map Some (filter (λ e. not (has_later p e)) (range_with_len 0 (length p.events))))) → candidate ≡ Some last
  listed true e j = absurd (let none = eqb-true (length p.events) 0 e in omega arith)
  listed false e j =
      let w = in_map Some candidate (filter (λ x. not (has_later p x)) (range_with_len 0 (length p.events))) j in
      let f = in_filter (λ x. not (has_later p x)) w.0 (range_with_len 0 (length p.events)) w.1 in
      let less = (in_numbers w.0 0 (length p.events) f.1).1 in
      w.2 ∙ ap Some (elim (cases_lt w.0 last) [
        | inl low ↦ absurd (false≢true (ap not
            (sym (any_below-at (length p.events) (λ y. comes_after (slice_get p.events y) w.0) last (omega arith) (after_last p l last w.0 is low))) ∙ f.0))
        | inr high ↦ omega (arith, less)
      ])

-- ---- what the values say of the last configuration
quiet_value : (a : Automaton) (p : Pattern) (silent vs : List ℕ) (v : ℕ → UnknownForm) (c : Config)
    → ((place : ℕ) → value_at c place ≡ form_value vs (place_form a p v place)) → (row : Row)
    → form_value vs (quiet_form a p silent v row) ≡ (row.form.constant +ℤ terms_value (without silent (value_at c)) row.form.terms)
quiet_value a p silent vs v c same row =
    let terms = terms_form (place_form a p v) (loud_terms silent row.form.terms) in
    let loud = terms_worth vs (place_form a p v) (value_at c) (λ i. sym (valued vs (place_form a p v i)) ∙ sym (same i)) (loud_terms silent row.form.terms) in
    omega (
      arith,
      ints,
      value_plus vs (number_form row.form.constant) terms,
      value_number vs row.form.constant,
      valued vs terms,
      loud,
      loud_left silent
          (value_at c) row.form.terms,
    )

-- each guard of a rule that must move holds without the silent places
guards_hold : (a : Automaton) (silent : List ℕ) (rule : Rule) (c : Config) → MustMove a silent rule c → (g : ℕ) (row : Row) → slice_get (guards a) g ≡ Some row
    → has_guard a g (Some rule) ≡ true → pos 0 ≤ℤ (row.form.constant +ℤ terms_value (without silent (value_at c)) row.form.terms)
guards_hold a silent rule c must g row at has = elim (cases_lt g (length a.rise)) [
  | inl less ↦ (
      let low : ltb g (length a.rise) ≡ true = grind (arith, nat_tests) in
      must.rise g row (sym (slice_get_before a.rise a.fall g less) ∙ at)
      (bit_set rule.rise g (sym (ap (λ b. cond b (has_bit rule.rise g) (has_bit rule.fall (g - length a.rise))) low) ∙ has)))
  | inr most ↦ (
      let high : ltb g (length a.rise) ≡ false = grind (arith, nat_tests) in
      must.fall (g - length a.rise) row (sym (slice_get_right a.rise a.fall g (g - length a.rise) (omega arith)) ∙ at)
      (bit_set rule.fall (g - length a.rise) (sym (ap (λ b. cond b (has_bit rule.rise g) (has_bit rule.fall (g - length a.rise))) high) ∙ has)))
]

stuck_of : (fact : Fact) (r : ℕ) → same_question (question_of fact) (OfStuck r) ≡ true → (fact ≡ Vacant r) ⊎ ((g : ℕ) × (fact ≡ Fails r g))
stuck_of (Vacant q) r t = inl (ap Vacant (eqb-true q r t))
stuck_of (Fails q g) r t = inr (g, ap (λ x. Fails x g) (eqb-true q r t))
stuck_of (Never h) r t = absurd (false≢true t)
stuck_of (First h) r t = absurd (false≢true t)
stuck_of (Stands h) r t = absurd (false≢true t)
stuck_of (Last h) r t = absurd (false≢true t)
stuck_of (Before x y) r t = absurd (false≢true t)
stuck_of (After x y) r t = absurd (false≢true t)
stuck_of (Same x y) r t = absurd (false≢true t)

-- an answer names a guard that the rule has
failing_guard : (a : Automaton) (k : Known) (r g : ℕ) → In (Fails r g) (answers a k (OfStuck r)) → (g < length a.rise + length a.fall)
    × (has_guard a g (slice_get a.rules r) ≡ true)
failing_guard a k r g (inl e) = cc
failing_guard a k r g (inr i) =
    let w = in_map (Fails r) (Fails r g) (guards_of a (slice_get a.rules r)) i in
    let e : Fails r g ≡ Fails r w.0 = w.2 in
    let same : g ≡ w.0 = cc in
    let f = in_filter (λ x. has_guard a x (slice_get a.rules r)) w.0 (range_with_len 0 (length a.rise + length a.fall)) w.1 in
    let less = (in_numbers w.0 0 (length a.rise + length a.fall) f.1).1 in
    (omega (arith, less, same), ap (λ x. has_guard a x (slice_get a.rules r)) same ∙ f.0)

guard_exists : (a : Automaton) (g : ℕ) → g < length a.rise + length a.fall → (row : Row) × (slice_get (guards a) g ≡ Some row)
guard_exists a g less = some_at (guards a) g (omega (arith, length-append a.rise a.fall))

-- no rule must move at a configuration with the end's values
pub quiet_there : (a : Automaton) (p : Pattern) → ComeAfterEarlier p → (silent : List ℕ) (node : Node) (vs : List ℕ) → WholeNode a p (of_rest silent) node vs
    → (c : Config) → Fits a c → ((l : ℕ) → has_bit p.empty l ≡ true → get_or c.counters l 0 ≡ 0)
    → ((place : ℕ) → value_at c place ≡ form_value vs (place_form a p (end_vector a p node.candidate) place)) → QuietRest a silent c
quiet_there a p earlier silent node vs w c fits empty same r rule named must =
    let end = end_vector a p node.candidate in
    let asking = of_rest silent in
    let read = read_of a p earlier asking node vs w in
    let some = must.some in
    let counter : pos 0 <ℤ form_value vs (place_form a p end (location_place a rule.from)) = omega
    (arith, ints, same (location_place a rule.from), value_at-location a c rule.from fits, some) in
    let full : has_bit p.empty rule.from ≡ false = elim (cases_Bool (has_bit p.empty rule.from))
    [ inl t ↦ absurd (omega (arith, empty rule.from t, some)) | inr e ↦ e ] in
    let may : may_be_stuck p (Some rule) ≡ true = and_from _ _ (ap not (ne_eqb rule.from rule.to must.apart)) (ap not full) in
    let holds : (g : ℕ) (row : Row) → slice_get (guards a) g ≡ Some row → has_guard a g (Some rule) ≡ true
    → pos 0 ≤ℤ form_value vs (quiet_form a p silent end row) =
    (λ g row at has. omega (arith, ints, quiet_value a p silent vs end c same row, guards_hold a silent rule c must g row at has)) in
    elim (cases_Bool (is_open node.past (OfStuck r))) [
      | inl t ↦ w.nothing_left.none_enabled refl r rule named may t counter holds
      | inr f ↦ (
          let fact = asked node.past (OfStuck r) f in
          let says = read.read.says fact.fact fact.among in
          let ms = (known_at a p asking node).moments in
          elim (stuck_of fact.fact r fact.same) [
            | inl e ↦ (let vacant = subst (Says a p silent vs end ms) e says rule named in absurd (omega (arith, ints, vacant, counter)))
            | inr g ↦ (
                let l = allowed a p asking node.candidate node.past w.answered fact.fact fact.among in
                let has = failing_guard a l.0 r g.0 (subst (λ (x : Fact). In x (answers a l.0 (question_of x))) g.1 l.1) in
                let row = guard_exists a g.0 has.0 in
                let fails = subst (Says a p silent vs end ms) g.1 says row.0 row.1 in
                absurd (omega (arith, ints, fails, holds g.0 row.0 row.1 (ap (has_guard a g.0) (sym named) ∙ has.1))))
          ])
    ]

-- no event is behind the last one
none_behind : (a : Automaton) (p : Pattern) → ComesLast p → (last : ℕ) → last + 1 ≡ length p.events
    → (first : Config) (rules : List ℕ) (o : Occurs a p first rules) → (e j : ℕ) → slice_get o.positions e ≡ Some j → j ≤ get_or o.positions last 0
none_behind a p l last is first rules o e j at =
    let within = slice_get_within o.positions e j at in
    let here : get_or o.positions e 0 ≡ j = get_or_from_slice_get o.positions e j 0 at in
    elim (cases_lt e last) [
      | inl less ↦ (
          let w = some_at p.events last (omega arith) in
          let le = o.in_order last e w.0 w.1 (bit_set (w.0).after e (ap (λ (mask : ℕ). has_bit mask e) (l.last last w.0 is w.1) ∙ has_ones last e less)) in
          omega (arith, le, here))
      | inr most ↦ (
          let same : e ≡ last = (let many = o.each_has_one in omega (arith, within, many)) in
          omega (arith, sym here, ap (λ (x : ℕ). get_or o.positions x 0) same))
    ]

-- what is to be kept empty is, everywhere
kept_there : (a : Automaton) (p : Pattern) (first : Config) (rules : List ℕ) (o : Occurs a p first rules) → (k : ℕ) (c : Config) → At first o.later k c
    → (l : ℕ) → has_bit p.empty l ≡ true → get_or c.counters l 0 ≡ 0
kept_there a p first rules o k c at l t =
    let less = slice_get_within (first ∷ o.later) k c at in
    subst (λ (d : Config). get_or d.counters l 0 ≡ 0) (get_or_from_slice_get (first ∷ o.later) k c c at) (o.kept_empty l (bit_set p.empty l t) k c less)

-- a pattern whose last event comes after all others
last_rests : (a : Automaton) (p : Pattern) → ComeAfterEarlier p → ComesLast p → (last : ℕ) → last + 1 ≡ length p.events → InScope a
    → (silent : List ℕ) (node : Node) (vs : List ℕ) → WholeNode a p (of_rest silent) node vs
    → HasQuietRun a p p silent vs (length (known_at a p (of_rest silent) node).moments * (length a.rules + 1))
last_rests a p earlier l last is scope silent node vs w =
    let run = whole_run a p earlier scope (of_rest silent) node vs w in
    let o = run.occurs in
    let k = get_or o.positions last 0 in
    let inside : last < length o.positions = (let many = o.each_has_one in omega (arith, many)) in
    let place = slice_get-get_or o.positions last 0 inside in
    let candidate = only_last p l last is node.candidate w.candidate_is in
    let cut = cut_at a p run.first run.rules o k (positions_within a p run.first run.rules o last) (none_behind a p l last is run.first run.rules o) in
    let initial = o.run.initial in
    record {
      first = run.first;
      rules = take k run.rules;
      begins = run.begins;
      few = cut_few run.rules (length (known_at a p (of_rest silent) node).moments * (length a.rules + 1)) k run.few;
      occurs = record {
        occurs = cut.occurs;
        at_end = λ e end. (let same : e ≡ last = omega arith in ap (λ (x : ℕ). get_or cut.occurs.positions x 0) same
            ∙ ap (λ (ps : List ℕ). get_or ps last 0) cut.same_positions ∙ sym cut.long);
        rests = λ c at.
            let here : At run.first o.later k c = subst (λ (j : ℕ). At run.first o.later j c) cut.long (cut.later (length (take k run.rules)) c at) in
            let whole = whole_at a run.first run.rules o.later
            (record { parameters = initial.admissible.count; shared = initial.shared_count; counters = initial.locations_count }) o.run.steps k c here in
            quiet_there a p earlier silent node vs w c (record { parameters = whole.parameters; shared = whole.shared })
            (kept_there a p run.first run.rules o k c here) (λ i.
            subst (λ (x : Option ℕ). value_at c i ≡ form_value vs (place_form a p (end_vector a p x) i)) (sym candidate)
            (run.values_there last k c (omega arith) place here i));
      };
    }

pub whole_rests : (a : Automaton) (p ending : Pattern) → IsEnding p ending → ComeAfterEarlier p → InScope a → (silent : List ℕ) (node : Node) (values : List ℕ)
    → WholeNode a ending (of_rest silent) node values → HasQuietRun a p ending silent values
    (length (known_at a ending (of_rest silent) node).moments * (length a.rules + 1))
whole_rests a p ending is earlier scope silent node vs w =
    let l = ending_last p ending is in
    let some = l.some in
    let run = last_rests a ending (ending_early p ending is earlier) l (length ending.events - 1) (omega (arith, some)) scope silent node vs w in
    record {
      first = run.first;
      rules = run.rules;
      begins = run.begins;
      few = run.few;
      occurs =
          (endings_alike (QuietRest a silent) a p ending is run.first run.rules).1 run.occurs;
    }
