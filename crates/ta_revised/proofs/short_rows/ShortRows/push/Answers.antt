use Rattle.ta_revised.proofs.Common.{List, ℕ, ℤ, ◌≡◌, ◌++◌, ◌∙◌, ap, length, refl, rules, vec_len}
use Rattle.ta_revised.proofs.ShortFacts.{short_constant, short_further, short_pushed}
use Rattle.ta_revised.proofs.short_rows.ShortRows.push.Goals as goal

pub returns-then-to-clause-same : goal.returns-then-to-clause-same
returns-then-to-clause-same c = λ rows a.
    short_further c.args.self.now _ c.args.row.now.form.terms rows
    (c.in_ok-push_terms.ensures ∙ ap (λ (ts : List (ℕ × ℤ)). c.args.self.now.terms.items ++ ts) c.as_slice.ensures) refl a

pub returns-clause-more : goal.returns-clause-more
returns-clause-more c = λ rows a.
    let before : vec_len c.args.self.now.terms ≡ length c.args.self.now.terms.items = search rules in
    let after : vec_len c.push_terms.new.all ≡ length c.push_terms.new.all.items = search rules in
    let modest = c.if-not-is_modest.ensures refl in
    short_pushed c.args.self.now _ _ c.args.row.now rows
    (c.in_ok-push_terms.ensures ∙ ap (λ (ts : List (ℕ × ℤ)). c.args.self.now.terms.items ++ ts) c.as_slice.ensures) c.in_ok-push.ensures.items
    (short_constant c.args.row.now modest) (c.len-from.ensures ∙ before) (c.len-to.ensures ∙ after) modest a
