use Rattle.ta_encode.proofs.Common.{ap, arith, ◌<◌, ◌^◌, ◌∙◌, subst, unsigned_abs, to_z_range, IsRowOf, line_row, constant_in_sense, in_sense, Plain}
use Rattle.ta_encode.proofs.Common.{on_ok_weaker}
use Rattle.ta_encode.proofs.Adding.{line_in_sense}
use Rattle.ta_encode.proofs.draft.Draft.push_line.Goals as goal

pub returns : goal.returns
returns c =
    let draft = c.args.self.now in
    let a = draft.automaton.now in
    let ms = draft.meanings.items in
    let line = c.args.line.now in
    let row = c.in_ok-row.row in
    let few : unsigned_abs c.args.constant < 2 ^ 127 = (let most = c.requires.constant in omega arith) in
    let is = to_z_range c.constant_in.result c.constant_in.ensures.fits ∙ c.constant_in.ensures.value
    ∙ ap (constant_in_sense line.sense) (to_z_range c.args.constant few) in
    on_ok_weaker c.push_row.result (λ adds. adds (λ b us. in_sense line.sense (line_row b us line.terms.now line.less_starts Plain c.args.constant))
    (line_in_sense a ms line.terms.now line.less_starts line.sense c.args.constant row
    (subst (λ z. IsRowOf (line_row a ms line.terms.now line.less_starts line.sense z) row) is c.in_ok-row.ensures.row))) c.push_row.ensures
