use Rattle.ta_scope.proofs.Common.{arith, sym, subst, ◌++◌, ◌∷◌, [], List, ℕ, ◌-◌, ◌+◌, ◌≡◌, slice_get_within, to_within, Distance}
use Rattle.ta_scope.proofs.Stepping.{Ahead, ahead_none, ahead_push, ahead_done}
use Rattle.ta_scope.proofs.path.path_of.Goals as goal

pub loop-left-init : goal.loop-left-init
loop-left-init c = record {
  exists = c.requires.from_exists;
  distance = c.requires.distance;
  ahead = subst (λ (xs : List ℕ). Ahead c.args.automaton.now c.args.rules.now c.args.from xs c.args.from c.args.to) (sym c.new-path.ensures.items)
      (ahead_none c.args.automaton.now c.args.rules.now c.args.from c.args.to);
}

pub first_step-number-requires-clause-distance : goal.first_step-number-requires-clause-distance
first_step-number-requires-clause-distance c =
    subst (Distance c.args.automaton.now c.args.rules.now c.loop-left.location c.args.to)
    (let some = c.loop-left-test.true in let e : c.loop-left.left ≡ c.loop-left.left - 1 + 1 = omega arith in e) c.loop-left.invariant.distance

pub target-location-requires : goal.target-location-requires
target-location-requires c = slice_get_within c.args.automaton.now.rules c.first_step-number.result c.first_step-number.ensures.rule
    c.first_step-number.ensures.named

pub loop-left-preserved : goal.loop-left-preserved
loop-left-preserved c =
    let a = c.args.automaton.now in
    let s = c.first_step-number.ensures in
    let to : c.target-location.result ≡ s.rule.to = c.target-location.ensures s.rule s.named in
    let left = c.loop-left.left - 1 in
    let distance : Distance a c.args.rules.now c.loop-left.location c.args.to (left + 1) = subst (Distance a c.args.rules.now c.loop-left.location c.args.to)
    (let some = c.loop-left-test.true in let e : c.loop-left.left ≡ c.loop-left.left - 1 + 1 = omega arith in e) c.loop-left.invariant.distance in
    let ahead = ahead_push a c.args.rules.now c.args.from c.loop-left.path.items c.loop-left.location c.args.to left c.first_step-number.result s distance
    c.loop-left.invariant.ahead in
    record {
      exists = (let b = to_within a c.first_step-number.result s.rule s.named in omega arith);
      distance = subst (λ l. Distance a c.args.rules.now l c.args.to left) (sym to) s.step.rest;
      ahead = subst (λ (xs : List ℕ). Ahead a c.args.rules.now c.args.from xs c.target-location.result c.args.to) (sym c.in_ok-push.ensures.items)
          (subst (λ l. Ahead a c.args.rules.now c.args.from (c.loop-left.path.items ++ c.first_step-number.result ∷ []) l c.args.to) (sym to) ahead);
    }

pub returns : goal.returns
returns c =
    let none = c.loop-left-test.false in
    let zero : c.loop-left.left ≡ 0 = omega arith in
    ahead_done c.args.automaton.now c.args.rules.now c.args.from c.loop-left.path.items c.loop-left.location c.args.to
    (subst (Distance c.args.automaton.now c.args.rules.now c.loop-left.location c.args.to) zero c.loop-left.invariant.distance) c.loop-left.invariant.ahead
