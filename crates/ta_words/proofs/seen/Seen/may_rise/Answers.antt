use Rattle.std.proofs.Common.{◌<◌, ◌^◌, sym, ◌∙◌, arith}
use Rattle.ta_words.proofs.Pairs.{may_by_mask}
use Rattle.ta_words.proofs.seen.Seen.may_rise.Goals as goal

pub returns-then-not-contains : goal.returns-then-not-contains
returns-then-not-contains c = λ start past pairs is names.
    let small : c.args.before < 2 ^ 64 = (let f = c.ranges.before.fits in omega arith) in
    may_by_mask pairs c.args.rise c.args.before c.from.result 64 c.args.self start past c.is_subset.result c.from.ensures small (omega arith) c.requires
    (sym c.contains.ensures.bit ∙ c.if-not-contains.true) c.is_subset.ensures names is
