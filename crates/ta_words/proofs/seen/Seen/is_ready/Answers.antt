use Rattle.std.proofs.Common.{sym, ◌∙◌}
use Rattle.ta_words.proofs.Past.{ready}
use Rattle.ta_words.proofs.seen.Seen.is_ready.Goals as goal

pub returns-then-not-contains : goal.returns-then-not-contains
returns-then-not-contains c = λ start past n is b h.
    ready c.args.self c.args.event c.args.after c.from.result n start past c.is_subset.result is c.requires c.from.ensures b h
    (sym c.contains.ensures.bit ∙ c.if-not-contains.true) c.is_subset.ensures
