use Rattle.ta_walk.proofs.Common.{◌+◌, ◌<◌, ◌^◌, List, ℕ, length, arith, ap, sample_count, sample_few}
use Rattle.ta_walk.proofs.sample_tree.SampleTreeTree.unknown_count.Goals as goal

pub overflow_cast-result : goal.overflow_cast-result
overflow_cast-result c =
    let a = c.args.self.now.file.now.automaton in
    let first = ap (λ (ps : List (List ℕ)). length ps) c.as_slice.ensures in
    let second = ap (λ (ls : List ℕ). length ls) c.as_slice-2.ensures in
    let count = sample_count a in
    let few = sample_few a in
    let low : length c.as_slice.result.now + length c.as_slice-2.result.now < 2 ^ 32 = omega arith in
    record { fits = low }

pub returns : goal.returns
returns c =
    let a = c.args.self.now.file.now.automaton in
    let first = ap (λ (ps : List (List ℕ)). length ps) c.as_slice.ensures in
    let second = ap (λ (ls : List ℕ). length ls) c.as_slice-2.ensures in
    let count = sample_count a in
    omega arith
