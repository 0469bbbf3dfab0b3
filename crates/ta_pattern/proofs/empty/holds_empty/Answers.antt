use Rattle.std.proofs.Common.{ℕ, ◌≤◌, List, length, ap, arith, refl}
use Rattle.ta_base.proofs.Bits.{bit_below}
use Rattle.ta_pattern.proofs.Agreeing.{keeps_empty}
use Rattle.ta_pattern.proofs.empty.holds_empty.Goals as goal

pub returns : goal.returns
returns c =
    let a = c.args.automaton.now in
    let mask = c.args.pattern.now.empty in
    let count = ap (λ (xs : List (List ℕ)). length xs) c.as_slice-location-end.ensures in
    let past : length a.locations ≤ c.loop-location.location = (let t = c.loop-location-test.false in omega arith) in
    let all = keeps_empty a c.args.config.now mask c.requires.is_of
    (λ l bit. c.loop-location.invariant l (let b = bit_below mask (length a.locations) l c.requires.empty bit in omega arith) bit) in
    (λ _. all, λ _. refl)
