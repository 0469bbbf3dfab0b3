-- the first positions of a run without end are a run
use Rattle.ta_rest.proofs.FairCommon.{◌≡◌, ℕ, zero, suc, ◌+◌, ◌≤◌, List, [], ◌∷◌, length, cond, arith, ap, ◌∙◌, refl, subst, slice_get, Option, Some, None}
use Rattle.ta_rest.proofs.FairCommon.{Automaton, Config, Steps, same_Some, is_move, Follows, InfiniteRun}
unfoldable use Rattle.ta_rest.proofs.FairCommon.{moves_count}

-- some rules behind one that may fire
abbrev pub with_rule : Option ℕ → List ℕ → List ℕ
with_rule None rules = rules
with_rule (Some r) rules = r ∷ rules

-- some configurations behind one, if a rule fires that leads to it
abbrev pub with_config : Option ℕ → Config → List Config → List Config
with_config None c later = later
with_config (Some r) c later = c ∷ later

-- the rules that fire at some positions from one on
abbrev pub rules_from : (ℕ → Option ℕ) → ℕ → ℕ → List ℕ
rules_from fired k zero = []
rules_from fired k (suc n) = with_rule (fired k) (rules_from fired (k + 1) n)

-- the configurations behind them
abbrev pub later_from : (ℕ → Option ℕ) → (ℕ → Config) → ℕ → ℕ → List Config
later_from fired config k zero = []
later_from fired config k (suc n) = with_config (fired k) (config (k + 1)) (later_from fired config (k + 1) n)

steps_on : (a : Automaton) (o : Option ℕ) (c d : Config) (rules : List ℕ) (later : List Config) → Follows a o c d → Steps a d rules later
    → Steps a c (with_rule o rules) (with_config o d later)
steps_on a None c d rules later f s = subst (λ (x : Config). Steps a x rules later) f s
steps_on a (Some r) c d rules later f s = (f, s)

pub steps_from : (a : Automaton) (run : InfiniteRun a) (k n : ℕ) → Steps a (run.config k) (rules_from run.fired k n) (later_from run.fired run.config k n)
steps_from a run k zero = tt
steps_from a run k (suc n) = steps_on a (run.fired k) (run.config k) (run.config (k + 1)) (rules_from run.fired (k + 1) n)
    (later_from run.fired run.config (k + 1) n) (run.follows k) (steps_from a run (k + 1) n)

found_on : (a : Automaton) (o : Option ℕ) (c d e : Config) (rules : List ℕ) (later : List Config) → Follows a o c d
    → slice_get (d ∷ later) (length rules) ≡ Some e → slice_get (c ∷ with_config o d later) (length (with_rule o rules)) ≡ Some e
found_on a None c d e rules later f at = subst (λ (x : Config). slice_get (x ∷ later) (length rules) ≡ Some e) f at
found_on a (Some r) c d e rules later f at = at

-- a configuration stands behind as many steps as fire before its position
found : (a : Automaton) (run : InfiniteRun a) (k n j : ℕ) → j ≤ n
    → slice_get (run.config k ∷ later_from run.fired run.config k n) (length (rules_from run.fired k j)) ≡ Some (run.config (k + j))
found a run k n zero le = ap (λ i. Some (run.config i)) (let e : k ≡ k + 0 = omega arith in e)
found a run k zero (suc j) le = absurd (omega arith)
found a run k (suc n) (suc j) le =
    let next = found a run (k + 1) n j (omega arith) in
    let same : (k + 1) + j ≡ k + suc j = omega arith in
    let at = next ∙ ap (λ i. Some (run.config i)) same in
    found_on a (run.fired k) (run.config k) (run.config (k + 1)) (run.config (k + suc j)) (rules_from run.fired (k + 1) j)
    (later_from run.fired run.config (k + 1) n) (run.follows k) at

-- the same from the start on
pub found_first : (a : Automaton) (run : InfiniteRun a) (n j : ℕ) → j ≤ n
    → slice_get (run.config 0 ∷ later_from run.fired run.config 0 n) (length (rules_from run.fired 0 j)) ≡ Some (run.config j)
found_first a run n j le = found a run 0 n j le ∙ ap (λ i. Some (run.config i)) (let e : 0 + j ≡ j = omega arith in e)

each_on : (a : Automaton) (P : Config → Type 0) (o : Option ℕ) (c d : Config) (later : List Config) → P c
    → ((i : ℕ) (e : Config) → slice_get (d ∷ later) i ≡ Some e → P e) → (i : ℕ) (e : Config) → slice_get (c ∷ with_config o d later) i ≡ Some e → P e
each_on a P o c d later here there zero e at = subst P (same_Some c e at) here
each_on a P None c d later here there (suc i) e at = there (suc i) e at
each_on a P (Some r) c d later here there (suc i) e at = there i e at

-- what holds at all positions holds in all configurations of the run
pub each_from : (a : Automaton) (P : Config → Type 0) (run : InfiniteRun a) → ((j : ℕ) → P (run.config j)) → (k n i : ℕ) (e : Config)
    → slice_get (run.config k ∷ later_from run.fired run.config k n) i ≡ Some e → P e
each_from a P run all k zero zero e at = subst P (same_Some (run.config k) e at) (all k)
each_from a P run all k zero (suc i) e at = absurd (cc)
each_from a P run all k (suc n) i e at = each_on a P (run.fired k) (run.config k) (run.config (k + 1)) (later_from run.fired run.config (k + 1) n) (all k)
    (each_from a P run all (k + 1) n) i e at

longer_on : (o : Option ℕ) (xs ys : List ℕ) → length xs ≤ length ys → length (with_rule o xs) ≤ length (with_rule o ys)
longer_on None xs ys le = le
longer_on (Some r) xs ys le = omega arith

-- no fewer steps fire before a later position
pub rises : (fired : ℕ → Option ℕ) (k i j : ℕ) → i ≤ j → length (rules_from fired k i) ≤ length (rules_from fired k j)
rises fired k zero j le = omega arith
rises fired k (suc i) zero le = absurd (omega arith)
rises fired k (suc i) (suc j) le = longer_on (fired k) (rules_from fired (k + 1) i) (rules_from fired (k + 1) j) (rises fired (k + 1) i j (omega arith))

-- 1 where a rule between two locations fires, else 0
abbrev pub weight : Automaton → Option ℕ → ℕ
weight a None = 0
weight a (Some r) = cond (is_move (slice_get a.rules r)) 1 0

moves_on : (a : Automaton) (o : Option ℕ) (rules : List ℕ) → moves_count a (with_rule o rules) ≡ weight a o + moves_count a rules
unfolding moves_count
moves_on a None rules = omega arith
moves_on a (Some r) rules = refl

no_moves : (a : Automaton) → moves_count a [] ≡ 0
unfolding moves_count
no_moves a = refl

-- the moves before a position and the one at it
pub moves_next : (a : Automaton) (fired : ℕ → Option ℕ) (k n : ℕ)
    → moves_count a (rules_from fired k (suc n)) ≡ moves_count a (rules_from fired k n) + weight a (fired (k + n))
moves_next a fired k zero =
    let here : weight a (fired k) ≡ weight a (fired (k + 0)) = ap (λ i. weight a (fired i)) (let e : k ≡ k + 0 = omega arith in e) in
    omega (arith, moves_on a (fired k) [], here, no_moves a)
moves_next a fired k (suc n) =
    let here : weight a (fired ((k + 1) + n)) ≡ weight a (fired (k + suc n)) = ap (λ i. weight a (fired i)) (let e : (k + 1) + n ≡ k + suc n = omega arith in e)
    in
    let long = moves_on a (fired k) (rules_from fired (k + 1) (suc n)) in
    let short = moves_on a (fired k) (rules_from fired (k + 1) n) in
    let next = moves_next a fired (k + 1) n in
    omega arith

-- no fewer moves come before a later position
pub moves_rise : (a : Automaton) (fired : ℕ → Option ℕ) (n d : ℕ) → moves_count a (rules_from fired 0 n) ≤ moves_count a (rules_from fired 0 (n + d))
moves_rise a fired n zero =
    let same : moves_count a (rules_from fired 0 (n + 0)) ≡ moves_count a (rules_from fired 0 n) = ap (λ i. moves_count a (rules_from fired 0 i))
    (let e : n + 0 ≡ n = omega arith in e) in
    omega arith
moves_rise a fired n (suc d) =
    let same : moves_count a (rules_from fired 0 (n + suc d)) ≡ moves_count a (rules_from fired 0 (suc (n + d))) = ap
    (λ i. moves_count a (rules_from fired 0 i)) (let e : n + suc d ≡ suc (n + d) = omega arith in e) in
    let next = moves_next a fired 0 (n + d) in
    let before = moves_rise a fired n d in
    omega arith
