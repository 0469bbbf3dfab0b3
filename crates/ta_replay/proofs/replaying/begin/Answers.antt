use Rattle.std.proofs.Common.{ℕ, List, length, ap, arith}
use Rattle.ta_replay.proofs.Begins.{starting, filled_below}
use Rattle.ta_replay.proofs.replaying.begin.Goals as goal

pub overflow_add-line-in-Some : goal.overflow_add-line-in-Some
overflow_add-line-in-Some c =
    let a = c.args.automaton.now in
    let count = ap (λ (xs : List (List ℕ)). length xs) c.as_slice.ensures in
    let below = filled_below a c.args.pattern.now c.args.run.now c.in-Some.place c.in-Some.ensures.some in
    omega arith

pub returns : goal.returns
returns c = record {
  begins = starting c.args.automaton.now c.args.pattern.now c.args.run.now c.in_ok-config.config c.requires.fits c.in_ok-config.ensures.starts
      c.in_ok-check_start.ensures.passes c.in_default.ensures.none;
  refuses = tt;
}
