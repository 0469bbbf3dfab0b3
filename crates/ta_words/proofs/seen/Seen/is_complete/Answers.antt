use Rattle.std.proofs.Common.{ap, length}
use Rattle.ta_words.proofs.Past.{complete}
use Rattle.ta_words.proofs.seen.Seen.is_complete.Goals as goal

pub returns : goal.returns
returns c = λ start past is. complete c.args.self c.args.pattern.now (length c.as_slice.result.now) start past c.is_subset.result is
    (ap length c.as_slice.ensures) c.requires c.is_subset.ensures
