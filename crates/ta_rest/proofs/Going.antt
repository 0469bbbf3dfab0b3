-- a run that comes to quiet rest goes on for ever, without a change
use Rattle.ta_rest.proofs.FairCommon.{QuietRest, ◌≡◌, inl, inr, ℕ, zero, suc, ◌+◌, ◌≤◌, List, [], ◌∷◌, length, arith, sym, ap, ◌∙◌, refl, subst, slice_get}
use Rattle.ta_rest.proofs.FairCommon.{get_or, Some, cases_lt, get_or_past, same_Some, slice_get-get_or, slice_get_within, run_length, Automaton, Config, Holds}
use Rattle.ta_rest.proofs.FairCommon.{Run, Steps, Follows, InfiniteRun, Fair, MustMove, RestingRunsGoOn}
use Rattle.ta_rest.proofs.EndingLaws.{end_config, positions_within}

-- behind its end a run stays where it is
pub follows_on : (a : Automaton) (c : Config) (rules : List ℕ) (later : List Config) (end : Config) → Steps a c rules later
    → slice_get (c ∷ later) (length rules) ≡ Some end → (k : ℕ) → Follows a (slice_get rules k) (get_or (c ∷ later) k end) (get_or (c ∷ later) (suc k) end)
follows_on a c [] [] end steps at zero = sym (same_Some c end at)
follows_on a c [] [] end steps at (suc k) = refl
follows_on a c [] (d ∷ later) end steps at k = absurd steps
follows_on a c (r ∷ rules) [] end steps at k = absurd steps
follows_on a c (r ∷ rules) (d ∷ later) end steps at zero = steps.0
follows_on a c (r ∷ rules) (d ∷ later) end steps at (suc k) = follows_on a d rules later end steps.1 at k

-- the configuration behind the end is the last one
pub ended : (cs : List Config) (n : ℕ) (end : Config) → length cs ≡ suc n → slice_get cs n ≡ Some end → (k : ℕ) → n ≤ k → get_or cs k end ≡ end
ended cs n end long at k le = elim (cases_lt k (length cs)) [
  | inl b ↦ (
      let e : k ≡ n = omega arith in
      let here : slice_get cs k ≡ Some end = ap (slice_get cs) e ∙ at in
      same_Some (get_or cs k end) end (sym (slice_get-get_or cs k end b) ∙ here))
  | inr past ↦ get_or_past cs k end past
]

-- the run without end
abbrev pub staying : (a : Automaton) (first : Config) (rules : List ℕ) (later : List Config) → Run a first rules later → (end : Config)
    → slice_get (first ∷ later) (length rules) ≡ Some end → InfiniteRun a
staying a first rules later run end there = record {
  config = λ k. get_or (first ∷ later) k end;
  fired = λ k. slice_get rules k;
  initial = run.initial;
  follows = λ k.
      let e : suc k ≡ k + 1 = omega arith in
      subst (λ i. Follows a (slice_get rules k) (get_or (first ∷ later) k end) (get_or (first ∷ later) i end)) e
      (follows_on a first rules later end run.steps there k);
}

-- it is fair if it stays at quiet rest
pub staying_fair : (a : Automaton) (silent : List ℕ) (first : Config) (rules : List ℕ) (later : List Config) (run : Run a first rules later) (end : Config)
    (there : slice_get (first ∷ later) (length rules) ≡ Some end)
    → QuietRest a silent end → Fair a silent (staying a first rules later run end there)
staying_fair a silent first rules later run end there rests r rule named k must never =
    let n = k + length rules in
    let long : length (first ∷ later) ≡ suc (length rules) = ap suc (run_length a first rules later run.steps) in
    let here : get_or (first ∷ later) n end ≡ end = ended (first ∷ later) (length rules) end long there n (omega arith) in
    rests r rule named (subst (MustMove a silent rule) here (must n (omega arith)))

pub goes_on : RestingRunsGoOn
goes_on a silent p first rules o =
    let was = o.occurs in
    let end = end_config a p first rules was in
    let cs = first ∷ was.later in
    let count = run_length a first rules was.later was.run.steps in
    let long : length cs ≡ suc (length rules) = omega (arith, count) in
    let at_end_all = ended cs (length rules) end.0 long end.1 in
    let named_at : (k : ℕ) (c : Config) → slice_get cs k ≡ Some c
    → c ≡ get_or cs k end.0 = (λ k c at. same_Some c (get_or cs k end.0) (sym at ∙ slice_get-get_or cs k end.0 (slice_get_within cs k c at))) in
    record {
      run = staying a first rules was.later was.run end.0 end.1;
      begins = refl;
      fires = λ k. refl;
      for_ever = record {
        fair = staying_fair a silent first rules was.later was.run end.0 end.1 (o.rests end.0 end.1);
        start = was.start;
        kept_empty = λ l set k. elim (cases_lt k (length cs)) [
          | inl b ↦ was.kept_empty l set k end.0 b
          | inr past ↦ (
              let last : get_or (get_or cs (length rules) end.0).counters l 0 ≡ 0 = was.kept_empty l set (length rules) end.0 (omega arith) in
              let same : get_or cs k end.0 ≡ get_or cs (length rules) end.0 = at_end_all k (omega arith) ∙ sym (at_end_all (length rules) (omega arith)) in
              ap (λ (c : Config). get_or c.counters l 0) same ∙ last)
        ];
        positions = was.positions;
        each_has_one = was.each_has_one;
        happens = λ e event k named place.
            let h = was.happens e event k named place in
            subst (Holds event.condition) (named_at k h.0 h.1) h.2;
        in_order = was.in_order;
        behind = λ last is e b.
            let within = positions_within a p first rules was e in
            let end_is = o.at_end last is in
            omega (arith, within, end_is);
        lasts = λ last event is named n le.
            let end_is = o.at_end last is in
            let b = slice_get_within p.events last event named in
            let place = slice_get-get_or was.positions last 0 (let q = was.each_has_one in omega arith) in
            let h = was.happens last event (get_or was.positions last 0) named place in
            let here : get_or cs (get_or was.positions last 0) end.0 ≡ end.0 = at_end_all (get_or was.positions last 0) (omega (arith, end_is)) in
            let there : get_or cs n end.0 ≡ end.0 = at_end_all n (omega (arith, end_is, le)) in
            subst (Holds event.condition) (named_at (get_or was.positions last 0) h.0 h.1 ∙ here ∙ sym there) h.2;
      };
    }
