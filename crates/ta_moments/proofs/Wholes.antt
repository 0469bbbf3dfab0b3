-- natural values of a whole node are settled moments, and so a run
--
-- No question is left at a whole node. So of each guard that a firing needs there is a fact, and it is not `Never`, since that
-- would forbid the firing: a rise guard has a first use, a fall guard stands or has a last use. The rows of these facts say what a
-- picture asks of its positions (`Saying`). Two moments whose order was asked are settled by the fact's rows, the others by their
-- values.
use Rattle.ta_moments.proofs.Common.{AllByRecursion, UnknownForm, append-nil, of_events, ◌≡◌, ◌⊎◌, inl, inr, ℕ, ◌+◌, ◌-◌, ◌<◌, ◌≤◌, pos, ◌≤ℤ◌, List, [], ◌∷◌}
use Rattle.ta_moments.proofs.Common.{map, length, slice_get, Some, Option, Bool, true, false, not, ◌&&◌, eqb, ltb, cond, arith, sym, ap, ◌∙◌, refl, subst, ints}
use Rattle.ta_moments.proofs.Common.{cases_Bool, cases_lt, and_parts, eqb-true, nat_tests, false≢true, same_Some, slice_get_within, bit_true, has_bit, In}
use Rattle.ta_moments.proofs.Common.{In-filter, in_at, Automaton, Pattern, Event, Row, Rule, File, ComeAfterEarlier, after_earlier, pattern_within, comes_after}
use Rattle.ta_moments.proofs.Common.{has_guard, moving_rules, needing, Moment, Point, Pair, Known, known, guards, event_vector, end_vector, rows_at_start}
use Rattle.ta_moments.proofs.Common.{form_of_row, bound_row, answers, Asking, Node, known_at, node_rows, IsBitSet, InScope, slice_get_before, slice_get_right}
use Rattle.ta_moments.proofs.Common.{place_of, is_open, question_of, same_question, AreAnswers, SameStep, Settled, WholeNode, RunOfMoments, SettledMoments}
use Rattle.ta_moments.specs.declared.fact.Question.{Question}
use Rattle.ta_moments.specs.declared.fact.Question.TheVariants.{OfGuard, OfOrder}
use Rattle.ta_moments.specs.declared.fact.Fact.{Fact}
use Rattle.ta_moments.specs.declared.fact.Fact.TheVariants.{Never, First, Stands, Last, Before, After, Same, Vacant, Fails}
use Rattle.ta_encode.specs.Laws.{HasRun}
use Rattle.ta_moments.proofs.Speaking.{spoken}
use Rattle.ta_moments.specs.Whole.{NothingLeft, form_value}
use Rattle.ta_moments.proofs.Cones.{scaled_left, scaled_met}
use Rattle.ta_moments.specs.Nodes.{VerticesOfConesBecomeRuns}
use Rattle.ta_moments.proofs.Knowing.{NodeRead, after_met, event_moment, end_natural, event_holds, node_read}
use Rattle.ta_moments.proofs.Nodes.{settled_runs}
use Rattle.ta_moments.proofs.Reading.{all_met, met_all, met_left}
use Rattle.ta_moments.proofs.Saying.{Says}

-- ---- the fact that answers a question
pub record Asked (past : List Fact) (question : Question) : Type 0 where
  pub fact : Fact
  pub among : In fact past
  pub same : same_question (question_of fact) question ≡ true

pub asked : (past : List Fact) (question : Question) → is_open past question ≡ false → Asked past question
asked [] question e = absurd (false≢true (sym e))
asked (fact ∷ past) question e = elim (cases_Bool (same_question (question_of fact) question)) [
  | inl t ↦ record { fact = fact; among = inl refl; same = t }
  | inr f ↦ (
      let w = asked past question (ap (λ b. not b && is_open past question) (sym f) ∙ e) in
      record { fact = w.fact; among = inr w.among; same = w.same })
]

-- each fact is an answer of its question
pub allowed : (a : Automaton) (p : Pattern) (asking : Asking) (candidate : Option ℕ) (past : List Fact) → AreAnswers a p asking candidate past → (fact : Fact)
    → In fact past → (k : Known) × In fact (answers a k (question_of fact))
allowed a p asking candidate [] h fact i = absurd i
allowed a p asking candidate (first ∷ past) h fact (inl e) =
    let k = known a p asking.silent candidate past in
    (k, subst (λ (f : Fact). In f (answers a k (question_of f))) (sym e) h.1)
allowed a p asking candidate (first ∷ past) h fact (inr i) = allowed a p asking candidate past h.2 fact i

guard_of : (fact : Fact) (g : ℕ) → same_question (question_of fact) (OfGuard g) ≡ true → question_of fact ≡ OfGuard g
guard_of (Never h) g t = ap OfGuard (eqb-true h g t)
guard_of (First h) g t = ap OfGuard (eqb-true h g t)
guard_of (Stands h) g t = ap OfGuard (eqb-true h g t)
guard_of (Last h) g t = ap OfGuard (eqb-true h g t)
guard_of (Before x y) g t = absurd (false≢true t)
guard_of (After x y) g t = absurd (false≢true t)
guard_of (Same x y) g t = absurd (false≢true t)
guard_of (Vacant r) g t = absurd (false≢true t)
guard_of (Fails r h) g t = absurd (false≢true t)

pub order_of : (fact : Fact) (x y : ℕ) → same_question (question_of fact) (OfOrder x y) ≡ true → (fact ≡ Before x y) ⊎ ((fact ≡ After x y) ⊎ (fact ≡ Same x y))
order_of (Before v w) x y t = let b = and_parts (eqb v x) (eqb w y) t in inl (ap (λ i. Before i w) (eqb-true v x b.0) ∙ ap (Before x) (eqb-true w y b.1))
order_of (After v w) x y t = let b = and_parts (eqb v x) (eqb w y) t in inr (inl (ap (λ i. After i w) (eqb-true v x b.0) ∙ ap (After x) (eqb-true w y b.1)))
order_of (Same v w) x y t = let b = and_parts (eqb v x) (eqb w y) t in inr (inr (ap (λ i. Same i w) (eqb-true v x b.0) ∙ ap (Same x) (eqb-true w y b.1)))
order_of (Never h) x y t = absurd (false≢true t)
order_of (First h) x y t = absurd (false≢true t)
order_of (Stands h) x y t = absurd (false≢true t)
order_of (Last h) x y t = absurd (false≢true t)
order_of (Vacant r) x y t = absurd (false≢true t)
order_of (Fails r h) x y t = absurd (false≢true t)

-- the fact of a guard that is asked is one of its answers
guard_fact : (a : Automaton) (p : Pattern) (asking : Asking) (candidate : Option ℕ) (past : List Fact) → AreAnswers a p asking candidate past → (g : ℕ)
    → is_open past (OfGuard g) ≡ false
    → (fact : Fact) × In fact past × In fact (cond (ltb g (length a.rise)) (Never g ∷ First g ∷ []) (Never g ∷ Stands g ∷ Last g ∷ []))
guard_fact a p asking candidate past h g e =
    let w = asked past (OfGuard g) e in
    let l = allowed a p asking candidate past h w.fact w.among in
    (w.fact, w.among, subst (λ (q : Question). In w.fact (answers a l.0 q)) (guard_of w.fact g w.same) l.1)

rise_fact : (a : Automaton) (p : Pattern) (asking : Asking) (candidate : Option ℕ) (past : List Fact) → AreAnswers a p asking candidate past → (g : ℕ)
    → g < length a.rise → is_open past (OfGuard g) ≡ false → In (Never g) past ⊎ In (First g) past
rise_fact a p asking candidate past h g less e =
    let w = guard_fact a p asking candidate past h g e in
    let low : ltb g (length a.rise) ≡ true = grind (arith, nat_tests) in
    elim (subst (λ (b : Bool). In w.0 (cond b (Never g ∷ First g ∷ []) (Never g ∷ Stands g ∷ Last g ∷ []))) low w.2) [
      | inl same ↦ inl (subst (λ (f : Fact). In f past) same w.1)
      | inr more ↦ elim more [ inl same ↦ inr (subst (λ (f : Fact). In f past) same w.1) | inr none ↦ absurd none ]
    ]

fall_fact : (a : Automaton) (p : Pattern) (asking : Asking) (candidate : Option ℕ) (past : List Fact) → AreAnswers a p asking candidate past → (g : ℕ)
    → length a.rise ≤ g → is_open past (OfGuard g) ≡ false → In (Never g) past ⊎ (In (Stands g) past ⊎ In (Last g) past)
fall_fact a p asking candidate past h g most e =
    let w = guard_fact a p asking candidate past h g e in
    let high : ltb g (length a.rise) ≡ false = grind (arith, nat_tests) in
    elim (subst (λ (b : Bool). In w.0 (cond b (Never g ∷ First g ∷ []) (Never g ∷ Stands g ∷ Last g ∷ []))) high w.2) [
      | inl same ↦ inl (subst (λ (f : Fact). In f past) same w.1)
      | inr more ↦ elim more [
        | inl same ↦ inr (inl (subst (λ (f : Fact). In f past) same w.1))
        | inr last ↦ elim last [ inl same ↦ inr (inr (subst (λ (f : Fact). In f past) same w.1)) | inr none ↦ absurd none ]
      ]
    ]

-- ---- orders
same_turned : (a : Automaton) (p : Pattern) (vs : List ℕ) (m n : Moment) → SameStep a p vs m n → SameStep a p vs n m
same_turned a p vs (Pair v w) (Pair x y) h = (h.1, h.0, h.3, h.2)
same_turned a p vs (Point v) y h = absurd h
same_turned a p vs (Pair v w) (Point y) h = absurd h

settled_turned : (a : Automaton) (p : Pattern) (vs : List ℕ) (m n : Moment) → Settled a p vs m n → Settled a p vs n m
settled_turned a p vs m n (inl le) = inr (inl le)
settled_turned a p vs m n (inr (inl le)) = inl le
settled_turned a p vs m n (inr (inr same)) = inr (inr (same_turned a p vs m n same))

order_settled : (a : Automaton) (p : Pattern) (asking : Asking) (node : Node) (vs : List ℕ) → NothingLeft a p asking node vs
    → NodeRead a p asking vs node.candidate node.past (known_at a p asking node).moments
    → (x y : ℕ) (m n : Moment) → x < y → slice_get (known_at a p asking node).moments x ≡ Some m → slice_get (known_at a p asking node).moments y ≡ Some n
    → Settled a p vs m n
order_settled a p asking node vs left r x y m n less at there = elim (cases_Bool (is_open node.past (OfOrder x y))) [
  | inl t ↦ left.orders_settled x y m n less at there t
  | inr f ↦ (
      let w = asked node.past (OfOrder x y) f in
      let end = end_vector a p node.candidate in
      let ms = (known_at a p asking node).moments in
      let says = r.read.says w.fact w.among in
      elim (order_of w.fact x y w.same) [
        | inl e ↦ inl (subst (Says a p asking.silent vs end ms) e says m n at there)
        | inr more ↦ elim more [
          | inl e ↦ inr (inl (subst (Says a p asking.silent vs end ms) e says m n at there))
          | inr e ↦ inr (inr (subst (Says a p asking.silent vs end ms) e says m n at there))
        ]
      ])
]

-- ---- guards by their masks
needs_rise : (a : Automaton) (p : Pattern) (r i : ℕ) (rule : Rule) (row : Row) → In r (moving_rules a p) → slice_get a.rules r ≡ Some rule
    → slice_get a.rise i ≡ Some row → IsBitSet rule.rise i → In r (needing a p i)
needs_rise a p r i rule row moves named at set =
    let less = slice_get_within a.rise i row at in
    let low : ltb i (length a.rise) ≡ true = grind (arith, nat_tests) in
    In-filter (λ q. has_guard a i (slice_get a.rules q)) r (moving_rules a p)
    (ap (has_guard a i) named ∙ ap (λ b. cond b (has_bit rule.rise i) (has_bit rule.fall (i - length a.rise))) low ∙ bit_true rule.rise i set) moves

needs_fall : (a : Automaton) (p : Pattern) (r j : ℕ) (rule : Rule) (row : Row) → In r (moving_rules a p) → slice_get a.rules r ≡ Some rule
    → slice_get a.fall j ≡ Some row → IsBitSet rule.fall j → In r (needing a p (length a.rise + j))
needs_fall a p r j rule row moves named at set =
    let g = length a.rise + j in
    let high : ltb g (length a.rise) ≡ false = grind (arith, nat_tests) in
    let back : g - length a.rise ≡ j = omega arith in
    In-filter (λ q. has_guard a g (slice_get a.rules q)) r (moving_rules a p)
    (ap (has_guard a g) named ∙ ap (λ b. cond b (has_bit rule.rise g) (has_bit rule.fall (g - length a.rise))) high ∙ ap (has_bit rule.fall) back
    ∙ bit_true rule.fall j set) moves

-- ---- the whole
pub read_of : (a : Automaton) (p : Pattern) → ComeAfterEarlier p → (asking : Asking) (node : Node) (vs : List ℕ) → WholeNode a p asking node vs
    → NodeRead a p asking vs node.candidate node.past (known_at a p asking node).moments
read_of a p earlier asking node vs w =
    node_read a p earlier asking vs node.candidate w.candidate_is node.past w.answered
    (met_left vs (known_at a p asking node).rows (map (λ b. form_of_row (bound_row b)) node.bounds) (met_all vs (node_rows a p asking node) w.met))
    (known_at a p asking node).moments (λ x m at. at)

pub whole_settled : (a : Automaton) (p : Pattern) → ComeAfterEarlier p → (asking : Asking) (node : Node) (vs : List ℕ) → WholeNode a p asking node vs
    → SettledMoments a p vs (known_at a p asking node).moments (end_vector a p node.candidate) (λ e. Point (event_vector a p e))
whole_settled a p earlier asking node vs w =
    let r = read_of a p earlier asking node vs w in
    let ms = (known_at a p asking node).moments in
    let end = end_vector a p node.candidate in
    let left = w.nothing_left in
    let of_never : (g q : ℕ) → In (Never g) node.past → In q (needing a p g) → form_value vs (end q) ≤ℤ pos 0 = (λ g q i j. r.read.says (Never g) i q j) in
    record {
      each = λ m i. (r.read.sound m i).is_moment;
      end_natural = end_natural a p vs node.candidate;
      within = λ m i. (r.read.sound m i).within;
      short = λ m i. (r.read.sound m i).short;
      settled = λ m n i j.
          let x = place_of m ms i in
          let y = place_of n ms j in
          elim (cases_lt x.0 y.0) [
            | inl less ↦ inr (order_settled a p asking node vs left r x.0 y.0 m n less x.1 y.1)
            | inr most ↦ elim (cases_lt y.0 x.0) [
              | inl less ↦ inr (settled_turned a p vs n m (order_settled a p asking node vs left r y.0 x.0 n m less y.1 x.1))
              | inr least ↦ (let same : x.0 ≡ y.0 = omega arith in inl (same_Some m n (sym x.1 ∙ ap (slice_get ms) same ∙ y.1)))
            ]
          ];
      counters = λ m i l b e. ((r.read.sound m i).early_counters l b e, (r.read.sound m i).late_counters l b e);
      rise = λ q rule moves fires named g row at set.
          let less = slice_get_within a.rise g row at in
          let j = needs_rise a p q g rule row moves named at set in
          let here : slice_get (guards a) g ≡ Some row = slice_get_before a.rise a.fall g less ∙ at in
          elim (cases_Bool (is_open node.past (OfGuard g))) [
            | inl t ↦ absurd (omega (arith, ints, left.guards_asked g (omega arith) t q j, fires))
            | inr f ↦ elim (rise_fact a p asking node.candidate node.past w.answered g less f) [
              | inl never ↦ absurd (omega (arith, ints, of_never g q never j, fires))
              | inr first ↦ (let u = r.read.says (First g) first in (u.moment, u.among, u.none q j, u.holds row here))
            ]
          ];
      fall = λ q rule moves fires named k row at set.
          let g = length a.rise + k in
          let less = slice_get_within a.fall k row at in
          let j = needs_fall a p q k rule row moves named at set in
          let here : slice_get (guards a) g ≡ Some row = slice_get_right a.rise a.fall g k refl ∙ at in
          elim (cases_Bool (is_open node.past (OfGuard g))) [
            | inl t ↦ absurd (omega (arith, ints, left.guards_asked g (omega arith) t q j, fires))
            | inr f ↦ elim (fall_fact a p asking node.candidate node.past w.answered g (omega arith) f) [
              | inl never ↦ absurd (omega (arith, ints, of_never g q never j, fires))
              | inr more ↦ elim more [
                | inl stands ↦ inl (r.read.says (Stands g) stands row here)
                | inr last ↦ inr (r.read.says (Last g) last q row j here)
              ]
            ]
          ];
      among = λ e less. in_at ms e (Point (event_vector a p e)) (r.begins e (Point (event_vector a p e)) (event_moment a p node.candidate e less));
      holds = event_holds a p vs node.candidate r.first;
      in_order = λ e f event at less set. after_met a p earlier vs node.candidate r.spoken r.first e f (slice_get_within p.events e event at)
          (ap (λ (o : Option Event). comes_after o f) at ∙ bit_true event.after f set);
    }

pub whole_run : (a : Automaton) (p : Pattern) → ComeAfterEarlier p → InScope a → (asking : Asking) (node : Node) (values : List ℕ)
    → WholeNode a p asking node values → RunOfMoments a p values (known_at a p asking node).moments (λ e. Point (event_vector a p e))
whole_run a p earlier scope asking node vs w =
    let r = read_of a p earlier asking node vs w in
    let s = spoken a p asking.silent node.candidate w.candidate_is node.past in
    settled_runs a p scope vs (omega (arith, s.least, w.count)) (all_met vs (rows_at_start a p) r.first.start) (known_at a p asking node).moments
    (end_vector a p node.candidate) (λ e. Point (event_vector a p e)) (whole_settled a p earlier asking node vs w)

pub whole_runs : (a : Automaton) (p : Pattern) → ComeAfterEarlier p → InScope a → (asking : Asking) (node : Node) (values : List ℕ)
    → WholeNode a p asking node values → HasRun a p values
whole_runs a p earlier scope asking node vs w =
    let r = whole_run a p earlier scope asking node vs w in
    record { first = r.first; rules = r.rules; begins = r.begins; occurs = r.occurs }

pub whole_of_file : (file : File) (n : ℕ) (p : Pattern) → slice_get file.patterns n ≡ Some p → InScope file.automaton
    → (asking : Asking) (node : Node) (values : List ℕ) → WholeNode file.automaton p asking node values → HasRun file.automaton p values
whole_of_file file n p at scope asking node vs w =
    whole_runs file.automaton p (λ e event here f b. after_earlier
    (length file.automaton.parameters + length file.automaton.shared + length file.automaton.locations) (length file.automaton.locations) p
    (pattern_within file n p at) e event here f b) scope asking node vs w

-- ---- cones
pub cone_runs : VerticesOfConesBecomeRuns
cone_runs a p earlier scope cone candidate past scale numbers v =
    let node : Node = record { candidate = candidate; past = past; bounds = [] } in
    let rows = (known a p [] candidate past).rows in
    let met = scaled_met a p cone candidate past v.answered scale numbers v.some v.met in
    whole_runs a p earlier scope of_events node numbers (record {
      candidate_is = v.candidate_is;
      answered = v.answered;
      count = v.count;
      met = subst (λ (fs : List UnknownForm). AllByRecursion (λ row. pos 0 ≤ℤ form_value numbers row) fs) (sym (append-nil rows)) met;
      nothing_left = scaled_left a p cone candidate past v.answered scale numbers v.no_question;
    })
