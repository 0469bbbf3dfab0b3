use Rattle.ta_encode.proofs.Common.{◌≤◌, ◌^◌, ◌∷◌, [], length, cond, not, arith, sym, ap, ◌∙◌, subst, IsNormal, IsNormal-higher, counter_row, on_ok_weaker}
use Rattle.ta_encode.proofs.Adding.{adds_alike, adds_nothing}
use Rattle.ta_encode.proofs.CounterRows.{counter_written}
use Rattle.ta_encode.proofs.draft.Draft.push_written.Goals as goal

pub row_of-requires : goal.row_of-requires
row_of-requires c =
    let few : length c.args.self.now.meanings.items ≤ 2 ^ 32 = (let most = c.args.self.now.few in omega arith) in
    IsNormal-higher 0 (length c.args.self.now.meanings.items) (2 ^ 32) c.args.counter.terms.items few c.requires.written.normal

pub returns-then-contains : goal.returns-then-contains
returns-then-contains c =
    let l = c.args.location in
    let draft = c.args.self.now in
    let line = counter_row draft.automaton.now draft.meanings.items l in
    adds_nothing _ draft (ap (λ b. cond (not b) (line ∷ []) []) (sym c.contains.ensures.bit ∙ c.if-contains.true))

pub push_row-requires : goal.push_row-requires
push_row-requires c = subst (IsNormal 0 (length c.args.self.now.meanings.items)) (sym c.row_of.ensures.terms) c.requires.written.normal

pub returns : goal.returns
returns c =
    let draft = c.args.self.now in
    let a = draft.automaton.now in
    let ms = draft.meanings.items in
    let l = c.args.location in
    let is = counter_written a ms l c.row_of.result c.args.counter.terms.items c.requires.written c.row_of.ensures.constant c.row_of.ensures.terms in
    let out = sym c.contains.ensures.bit ∙ c.if-contains.false in
    on_ok_weaker c.push_row.result (λ adds. adds_alike {f = λ b us. counter_row b us l ∷ []} (sym (ap (λ b. cond (not b) (counter_row a ms l ∷ []) []) out))
    (adds (λ b us. counter_row b us l) is.0)) c.push_row.ensures
