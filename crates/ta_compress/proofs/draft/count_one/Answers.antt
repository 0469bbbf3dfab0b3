use Rattle.ta_compress.proofs.Common.{arith, pos, ◌≡◌, ◌+ℤ◌, refl, sym, ◌∙◌, same_Some, slice_get-get_or, ints, w128, to_z, of_z, read_same, count_at}
use Rattle.ta_compress.proofs.Counted.{one_more_set}
use Rattle.ta_compress.proofs.draft.count_one.Goals as goal

pub returns : goal.returns
returns c =
    let counts = c.args.counts.now.items in
    let count = count_at c.args.counts.now.items c.args.rule in
    let natural = c.requires.natural c.args.rule in
    let room = c.requires.room c.args.rule in
    let value : c.index_mut.result.now ≡ count = same_Some c.index_mut.result.now count
    (sym (read_same counts counts c.args.rule c.index_mut.result.now refl c.requires.exists c.index_mut.ensures.value)
    ∙ slice_get-get_or counts c.args.rule (pos 0) c.requires.exists) in
    let inner : to_z w128 (of_z w128 c.index_mut.result.now) ≡ count = omega (arith, ints) in
    let outer : to_z w128 (of_z w128 (to_z w128 (of_z w128 c.index_mut.result.now) +ℤ pos 1)) ≡ (count +ℤ pos 1) = omega (arith, ints) in
    one_more_set c.args.rule c.args.counts.now.items _ c.requires.exists outer
