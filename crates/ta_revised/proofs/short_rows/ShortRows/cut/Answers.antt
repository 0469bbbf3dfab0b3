use Rattle.ta_revised.proofs.Common.{◌≡◌, ◌<◌, ◌∙◌, ap, arith, length, rules, take, vec_len, ShortRow}
use Rattle.ta_revised.proofs.ShortFacts.{short_cut}
use Rattle.ta_revised.proofs.short_rows.ShortRows.cut.Goals as goal

pub returns-then-count-len : goal.returns-then-count-len
returns-then-count-len c = λ rows a.
    let len : vec_len c.args.self.now.rows ≡ length c.args.self.now.rows.items = search rules in
    let within : c.args.count < length c.args.self.now.rows.items = omega (arith, c.if-count-len.true, c.len.ensures, len) in
    short_cut c.args.self.now _ rows c.args.count _ within
    (c.truncate.ensures.items ∙ ap (λ (r : ShortRow). take r.from c.args.self.now.terms.items) c.index.ensures) c.truncate-then-count-len.ensures.items a
