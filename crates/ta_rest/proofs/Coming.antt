-- a fair run without end comes to quiet rest
--
-- Where every cycle of rules is a self-loop without updates, each process moves finitely often, so a run has a bounded number of
-- moves between locations. Behind the last one nothing changes any more. If some rule had to move in that configuration, it would
-- have to from then on for ever and never fire, which no fair run allows. So the configuration is at quiet rest, and the first
-- positions of the run are a run that comes to it.
use Rattle.ta_rest.proofs.Common.{after_earlier, pattern_within}
use Rattle.ta_rest.proofs.FairCommon.{◌≡◌, ◌⊎◌, inl, inr, ℕ, zero, suc, ◌+◌, ◌-◌, ◌<◌, ◌≤◌, pos, List, [], ◌∷◌, length, cond, eqb, not, true, false, arith}
use Rattle.ta_rest.proofs.FairCommon.{ints, sym, ap, ◌∙◌, refl, subst, slice_get, get_or, Option, Some, None, cond-false, cond-true, eqb_tells}
use Rattle.ta_rest.proofs.FairCommon.{same_number_lists, same_Some, slice_get-get_or, slice_get_within, nat_tests, Automaton, Rule, Pattern, Config, Step}
use Rattle.ta_rest.proofs.FairCommon.{LoopsAlone, LoopsPure, ComeAfterEarlier, is_move, coefficient, Fair, Follows, InfiniteRun, OccursForEver, CalmFrom}
use Rattle.ta_rest.proofs.FairCommon.{CalmRunsRest, FairRunsComeToRest, FairRunsOfFiles, RunsBecomeCalm, MustMove, QuietRest, QuietRestOccurs}
unfoldable use Rattle.ta_rest.proofs.FairCommon.{moves_count}
use Rattle.ta_rest.proofs.Going.{goes_on}
use Rattle.ta_scope.proofs.Judging.{loops_pure}
use Rattle.ta_rest.proofs.Bounds.{few_moves, weighs}
use Rattle.ta_rest.proofs.Prefixes.{rules_from, later_from, steps_from, found_first, each_from, rises, weight, moves_next, moves_rise}

same_config : (c d : Config) → c.parameters ≡ d.parameters → c.shared ≡ d.shared → c.counters ≡ d.counters → c ≡ d
same_config c d ps ss cs =
    ap (λ (x : List ℕ). record { parameters = x; shared = c.shared; counters = c.counters }) ps
    ∙ ap (λ (x : List ℕ). record { parameters = d.parameters; shared = x; counters = c.counters }) ss
    ∙ ap (λ (x : List ℕ). record { parameters = d.parameters; shared = d.shared; counters = x }) cs

-- a self-loop without updates changes nothing
loop_still : (a : Automaton) (r : ℕ) (c d : Config) (step : Step a r c d) → step.rule.from ≡ step.rule.to → ((x : ℕ) → coefficient step.rule.updates x ≡ pos 0)
    → d ≡ c
loop_still a r c d step same none = same_config d c step.move.parameters
    (same_number_lists d.shared c.shared step.move.shared_count (λ x b. let z = none x in omega (arith, ints, step.move.added x)))
    (same_number_lists d.counters c.counters step.move.counters_count (λ l b.
    let moves = step.move.moved l in
    let alike : cond {A = ℕ} (eqb l step.rule.from) 1 0 ≡ cond {A = ℕ} (eqb l step.rule.to) 1 0 = ap (λ k. cond {A = ℕ} (eqb l k) 1 0) same in
    omega (arith, moves, alike)))

-- where no rule between two locations fires nothing changes
still : (a : Automaton) → LoopsPure a → (o : Option ℕ) (c d : Config) → Follows a o c d → weight a o ≡ 0 → d ≡ c
still a pure None c d f w = f
still a pure (Some r) c d f w = elim (eqb_tells f.rule.from f.rule.to) [
  | inl e ↦ loop_still a r c d f e.1 (pure r f.rule f.named e.1)
  | inr ne ↦ absurd (let one = weighs a r f.rule f.named ne.1 in omega (arith, one, w))
]

-- where that is so from a position on, the configuration stays
stays : (a : Automaton) → LoopsPure a → (run : InfiniteRun a) (n : ℕ) → ((k : ℕ) → n ≤ k → weight a (run.fired k) ≡ 0) → (d : ℕ)
    → run.config (n + d) ≡ run.config n
stays a pure run n calm zero = ap run.config (let e : n + 0 ≡ n = omega arith in e)
stays a pure run n calm (suc d) =
    let e : n + suc d ≡ (n + d) + 1 = omega arith in
    let here : run.config ((n + d) + 1) ≡ run.config (n + d) = still a pure (run.fired (n + d)) (run.config (n + d)) (run.config ((n + d) + 1))
    (run.follows (n + d)) (calm (n + d) (omega arith)) in
    ap run.config e ∙ here ∙ stays a pure run n calm d

-- and it is at quiet rest
calm_rests : (a : Automaton) (silent : List ℕ) → LoopsPure a → (run : InfiniteRun a) → Fair a silent run → (n : ℕ)
    → ((k : ℕ) → n ≤ k → weight a (run.fired k) ≡ 0) → QuietRest a silent (run.config n)
calm_rests a silent pure run fair n calm r rule named must =
    fair r rule named n
    (λ k le.
    let e : n + (k - n) ≡ k = omega arith in
    subst (MustMove a silent rule) (sym (stays a pure run n calm (k - n)) ∙ ap run.config e) must)
    (λ k le fires.
    let w : weight a (run.fired k) ≡ weight a (Some r) = ap (weight a) fires in
    let none = calm k le in
    let one = weighs a r rule named must.apart in
    omega (arith, w, none, one))

-- values at numbers, one after another
abbrev listed : (ℕ → ℕ) → ℕ → ℕ → List ℕ
listed f k zero = []
listed f k (suc m) = f k ∷ listed f (k + 1) m

listed_length : (f : ℕ → ℕ) (k m : ℕ) → length (listed f k m) ≡ m
listed_length f k zero = refl
listed_length f k (suc m) = ap suc (listed_length f (k + 1) m)

listed_at : (f : ℕ → ℕ) (k m e : ℕ) → e < m → get_or (listed f k m) e 0 ≡ f (k + e)
listed_at f k zero e b = absurd (omega arith)
listed_at f k (suc m) zero b = ap f (let q : k ≡ k + 0 = omega arith in q)
listed_at f k (suc m) (suc e) b = listed_at f (k + 1) m e (omega arith) ∙ ap f (let q : (k + 1) + e ≡ k + suc e = omega arith in q)

-- the number of steps before a position
abbrev steps_before : (a : Automaton) → InfiniteRun a → ℕ → ℕ
steps_before a run j = length (rules_from run.fired 0 j)

-- the position of an event in the run that ends at a position: the last event's is at its end
abbrev moved_to : (a : Automaton) → InfiniteRun a → List ℕ → ℕ → ℕ → ℕ → ℕ
moved_to a run positions m n e = cond (eqb (e + 1) m) (steps_before a run n) (steps_before a run (get_or positions e 0))

-- the first positions are a run that comes to quiet rest for the pattern
resting : (a : Automaton) (silent : List ℕ) (p : Pattern) → ComeAfterEarlier p → (run : InfiniteRun a) → (o : OccursForEver a silent p run)
    → (n : ℕ) → get_or o.positions (length p.events - 1) 0 ≤ n → QuietRest a silent (run.config n)
    → QuietRestOccurs a silent p (run.config 0) (rules_from run.fired 0 n)
resting a silent p early run o n high rests =
    let m = length p.events in
    let g = moved_to a run o.positions m n in
    let first = run.config 0 in
    let later = later_from run.fired run.config 0 n in
    let high_all : (e : ℕ) → e < m → get_or o.positions e 0 ≤ n = (λ e b. let behind = o.behind (m - 1) (omega arith) e b in omega arith) in
    let before_end : (e : ℕ) → e < m → steps_before a run (get_or o.positions e 0) ≤ g e = (λ e b. elim (eqb_tells (e + 1) m) [
      | inl t ↦ (let is = cond-true (eqb (e + 1) m) (steps_before a run n) (steps_before a run (get_or o.positions e 0)) t.0 in
          let le = rises run.fired 0 (get_or o.positions e 0) n (high_all e b) in omega arith)
      | inr f ↦ (let is = cond-false (eqb (e + 1) m) (steps_before a run n) (steps_before a run (get_or o.positions e 0)) f.0 in omega arith)
    ]) in
    record {
      occurs = record {
        later = later;
        run = record { initial = run.initial; steps = steps_from a run 0 n };
        start = o.start;
        kept_empty = λ l set k d b. each_from a (λ (c : Config). get_or c.counters l 0 ≡ 0) run (o.kept_empty l set) 0 n k (get_or (first ∷ later) k d)
            (slice_get-get_or (first ∷ later) k d b);
        positions = listed g 0 m;
        each_has_one = listed_length g 0 m;
        happens = λ e event k named place.
            let b = slice_get_within p.events e event named in
            let c : g e ≡ k = listed_is g m e k b place in
            elim (eqb_tells (e + 1) m) [
              | inl t ↦ (
                  let is = cond-true (eqb (e + 1) m) (steps_before a run n) (steps_before a run (get_or o.positions e 0)) t.0 in
                  let here : steps_before a run n ≡ k = sym is ∙ c in
                  let low : get_or o.positions e 0 ≤ n = high_all e b in (
                    run.config n,
                    subst (λ i. slice_get (first ∷ later) i ≡ Some (run.config n)) here (found_first a run n n (omega arith)),
                    o.lasts e event t.1
                        named n low,
                  ))
              | inr f ↦ (
                  let is = cond-false (eqb (e + 1) m) (steps_before a run n) (steps_before a run (get_or o.positions e 0)) f.0 in
                  let here : steps_before a run (get_or o.positions e 0) ≡ k = sym is ∙ c in
                  let at = slice_get-get_or o.positions e 0 (let count = o.each_has_one in omega arith) in (
                    run.config (get_or o.positions e 0),
                    subst (λ i. slice_get (first ∷ later) i ≡ Some (run.config (get_or o.positions e 0))) here
                        (found_first a run n (get_or o.positions e 0) (high_all e b)),
                    o.happens e event (get_or o.positions e 0) named at,
                  ))
            ];
        in_order = λ e f event named set.
            let b = slice_get_within p.events e event named in
            let less = early e event named f set in
            let low = listed_at g 0 m f (omega arith) ∙ ap g (let q : 0 + f ≡ f = omega arith in q) in
            let up = listed_at g 0 m e b ∙ ap g (let q : 0 + e ≡ e = omega arith in q) in
            let not_last = cond-false (eqb (f + 1) m) (steps_before a run n) (steps_before a run (get_or o.positions f 0))
            (let q : eqb (f + 1) m ≡ false = grind (arith, nat_tests) in q) in
            let order = rises run.fired 0 (get_or o.positions f 0) (get_or o.positions e 0) (o.in_order e f event named set) in
            let end = before_end e b in
            omega (arith, low, up, not_last, order, end);
      };
      at_end = λ last is.
          let up = listed_at g 0 m last (omega arith) ∙ ap g (let q : 0 + last ≡ last = omega arith in q) in
          let whole = cond-true (eqb (last + 1) m) (steps_before a run n) (steps_before a run (get_or o.positions last 0))
          (let q : eqb (last + 1) m ≡ true = grind (arith, nat_tests) in q) in
          up ∙ whole;
      rests = λ c at. subst (QuietRest a silent) (same_Some (run.config n) c (sym (found_first a run n n (omega arith)) ∙ at)) rests;
    }
  where
    listed_is : (g : ℕ → ℕ) (m e k : ℕ) → e < m → slice_get (listed g 0 m) e ≡ Some k → g e ≡ k
    listed_is g m e k b place =
        let at = slice_get-get_or (listed g 0 m) e 0 (let q = listed_length g 0 m in omega arith) in
        let same : get_or (listed g 0 m) e 0 ≡ k = same_Some (get_or (listed g 0 m) e 0) k (sym at ∙ place) in
        let is : get_or (listed g 0 m) e 0 ≡ g e = listed_at g 0 m e b ∙ ap g (let q : 0 + e ≡ e = omega arith in q) in
        sym is ∙ same

-- a number is 0 or not
none_or_some : (n : ℕ) → (n ≡ 0) ⊎ (1 ≤ n)
none_or_some zero = inl refl
none_or_some (suc n) = inr (omega arith)

-- the weights are 0 where a run is calm, and nowhere else
calm_weights : (a : Automaton) (run : InfiniteRun a) (n : ℕ) → CalmFrom a run n → (k : ℕ) → n ≤ k → weight a (run.fired k) ≡ 0
calm_weights a run n calm k le = by_fired (run.fired k) refl where
  by_rule : (r : ℕ) (found : Option Rule) → slice_get a.rules r ≡ found → run.fired k ≡ Some r → weight a (Some r) ≡ 0
  by_rule r None named fires = cond-false (is_move (slice_get a.rules r)) 1 0 (ap is_move named)
  by_rule r (Some rule) named fires = elim (eqb_tells rule.from rule.to) [
    | inl e ↦ cond-false (is_move (slice_get a.rules r)) 1 0 (ap is_move named ∙ ap not e.0)
    | inr ne ↦ absurd (ne.1 (calm k r rule le fires named))
  ]

  by_fired : (o : Option ℕ) → run.fired k ≡ o → weight a (run.fired k) ≡ 0
  by_fired None fires = ap (weight a) fires
  by_fired (Some r) fires = ap (weight a) fires ∙ by_rule r (slice_get a.rules r) refl fires

weights_calm : (a : Automaton) (run : InfiniteRun a) (n : ℕ) → ((k : ℕ) → n ≤ k → weight a (run.fired k) ≡ 0) → CalmFrom a run n
weights_calm a run n none k r rule le fires named = elim (eqb_tells rule.from rule.to) [
  | inl e ↦ e.1
  | inr ne ↦ (
      let same : weight a (run.fired k) ≡ weight a (Some r) = ap (weight a) fires in
      let one = weighs a r rule named ne.1 in
      let zero_here = none k le in
      absurd (omega (arith, same, one, zero_here)))
]

-- by as many moves as can still come
calm_within : (a : Automaton) (run : InfiniteRun a) (most : ℕ) → ((j : ℕ) → moves_count a (rules_from run.fired 0 j) ≤ most) → (from : ℕ)
    → ((n : ℕ) → from ≤ n → ¬ CalmFrom a run n)
    → (left n : ℕ) → from ≤ n → most < moves_count a (rules_from run.fired 0 n) + left → ⊥
calm_within a run most bound from never zero n high less = let b = bound n in omega arith
calm_within a run most bound from never (suc left) n high less =
    never n high (weights_calm a run n (λ k le. elim (none_or_some (weight a (run.fired k))) [
      | inl none ↦ none
      | inr some ↦ absurd (
          calm_within a run most bound from never left (suc k) (omega arith) (
          let e : n + (k - n) ≡ k = omega arith in
          let before = moves_rise a run.fired n (k - n) in
          let same : moves_count a (rules_from run.fired 0 (n + (k - n))) ≡ moves_count a (rules_from run.fired 0 k) = ap
          (λ i. moves_count a (rules_from run.fired 0 i)) e in
          let next = moves_next a run.fired 0 k in
          let here : weight a (run.fired (0 + k)) ≡ weight a (run.fired k) = ap (λ i. weight a (run.fired i)) (let q : 0 + k ≡ k = omega arith in q) in
          omega (arith, before, same, next, here, some, less)))
    ]))

calm_behind : (a : Automaton) → LoopsAlone a → (run : InfiniteRun a) (from : ℕ) → ((n : ℕ) → from ≤ n → ¬ CalmFrom a run n) → ⊥
calm_behind a alone run from never =
    let few = few_moves a alone (run.config 0) run.initial in
    let bound : (j : ℕ) → moves_count a (rules_from run.fired 0 j) ≤ few.0 =
    (λ j. few.1 (rules_from run.fired 0 j) (later_from run.fired run.config 0 j) (record { initial = run.initial; steps = steps_from a run 0 j })) in
    calm_within a run few.0 bound from never (suc few.0) from (omega arith) (omega arith)

pub become_calm : RunsBecomeCalm
become_calm a alone run never = calm_behind a alone run 0 (λ n le. never n)

pub calm_runs_rest : CalmRunsRest
calm_runs_rest a silent pure run fair n calm d =
    let none = calm_weights a run n calm in
    (stays a pure run n none d, calm_rests a silent pure run fair (n + d) (λ k le. none k (omega arith)))

pub fair_runs_rest : FairRunsComeToRest
fair_runs_rest a silent p alone pure early = (
  (λ safe run o. calm_behind a alone run (get_or o.positions (length p.events - 1) 0) (λ n high calm.
      safe (run.config 0) (rules_from run.fired 0 n)
      (resting a silent p early run o n high (calm_rests a silent pure run o.fair n (calm_weights a run n calm))))),
  λ fairly first rules o. let on = goes_on a silent p first rules o in fairly on.run on.for_ever,
)

pub fair_files_rest : FairRunsOfFiles
fair_files_rest file scope alone number p at silent =
    let early = after_earlier (length file.automaton.parameters + length file.automaton.shared + length file.automaton.locations)
    (length file.automaton.locations) p (pattern_within file number p at) in
    fair_runs_rest file.automaton silent p alone (loops_pure file.automaton scope) early
