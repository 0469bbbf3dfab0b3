use Rattle.ta_revised.proofs.Common.{ℕ, ◌≡◌, ◌<ℤ◌, ◌≤ℤ◌, FitsSigned, IsSomeAnd, arith, below_more, length, pos, rules, slice_get, ints, to_z-of_z, w32, w64}
use Rattle.ta_revised.proofs.Common.{vec_len, Row, row_value}
use Rattle.ta_revised.proofs.ShortFacts.{holds_at, modest_at, normal_at, short_in, value_at}
use Rattle.ta_revised.proofs.short_rows.ShortRows.first_negative.Goals as goal

pub terms_of-terms-requires-clause-own : goal.terms_of-terms-requires-clause-own
terms_of-terms-requires-clause-own c =
    let len : vec_len c.args.self.now.rows ≡ length c.args.self.now.rows.items = search rules in
    let at = short_in c.args.self.now c.args.system.now c.loop-at.at _ _ _ c.index-row.result.now c.loop-at-test.true c.len-at-end.ensures len
    c.index-row.ensures c.requires.rows in
    at.stands.own

pub terms_of-terms-requires-clause-within : goal.terms_of-terms-requires-clause-within
terms_of-terms-requires-clause-within c =
    let len : vec_len c.args.self.now.rows ≡ length c.args.self.now.rows.items = search rules in
    let at = short_in c.args.self.now c.args.system.now c.loop-at.at _ _ _ c.index-row.result.now c.loop-at-test.true c.len-at-end.ensures len
    c.index-row.ensures c.requires.rows in
    rw c.deref.ensures.value at.stands.within

pub row_value_of-requires-clause-terms : goal.row_value_of-requires-clause-terms
row_value_of-requires-clause-terms c =
    let len : vec_len c.args.self.now.rows ≡ length c.args.self.now.rows.items = search rules in
    let at = short_in c.args.self.now c.args.system.now c.loop-at.at _ _ _ c.index-row.result.now c.loop-at-test.true c.len-at-end.ensures len
    c.index-row.ensures c.requires.rows in
    rw (c.terms_of-terms.ensures, c.deref.ensures.value, c.requires.count)
    (normal_at c.args.self.now c.args.system.now c.loop-at.at c.index-row.result.now at)

pub row_value_of-requires-clause-modest : goal.row_value_of-requires-clause-modest
row_value_of-requires-clause-modest c =
    let len : vec_len c.args.self.now.rows ≡ length c.args.self.now.rows.items = search rules in
    let at = short_in c.args.self.now c.args.system.now c.loop-at.at _ _ _ c.index-row.result.now c.loop-at-test.true c.len-at-end.ensures len
    c.index-row.ensures c.requires.rows in
    let fits : FitsSigned w32 c.index-row.result.now.constant = search rules in
    rw (to_z-of_z w32 c.index-row.result.now.constant fits, c.terms_of-terms.ensures, c.deref.ensures.value)
    (modest_at c.args.self.now c.args.system.now c.loop-at.at c.index-row.result.now at)

pub returns-then-row_value_of-lt0-clause-found : goal.returns-then-row_value_of-lt0-clause-found
returns-then-row_value_of-lt0-clause-found c =
    let len : vec_len c.args.self.now.rows ≡ length c.args.self.now.rows.items = search rules in
    let at = short_in c.args.self.now c.args.system.now c.loop-at.at _ _ _ c.index-row.result.now c.loop-at-test.true c.len-at-end.ensures len
    c.index-row.ensures c.requires.rows in
    let narrow : FitsSigned w32 c.index-row.result.now.constant = search rules in
    let same = value_at c.args.self.now c.args.system.now c.loop-at.at c.index-row.result.now c.args.scale c.args.values.now at in
    let value = rw (to_z-of_z w32 c.index-row.result.now.constant narrow, c.terms_of-terms.ensures, c.deref.ensures.value, same) at c.row_value_of.ensures in
    let fits : FitsSigned w64 c.row_value_of.result = search rules in
    let less = rw (to_z-of_z w64 c.row_value_of.result fits) at c.if-row_value_of-lt0.true in
    let negative : c.row_value_of.result <ℤ pos 0 = omega (arith, ints, less) in (
      at.within,
      holds_at c.args.self.now c.args.system.now c.loop-at.at c.index-row.result.now
          (λ (r : Row). row_value c.args.scale c.args.values.now r <ℤ pos 0) at (rw value at negative),
      c.loop-at.invariant,
    )

pub loop-at-preserved : goal.loop-at-preserved
loop-at-preserved c =
    let len : vec_len c.args.self.now.rows ≡ length c.args.self.now.rows.items = search rules in
    let at = short_in c.args.self.now c.args.system.now c.loop-at.at _ _ _ c.index-row.result.now c.loop-at-test.true c.len-at-end.ensures len
    c.index-row.ensures c.requires.rows in
    let narrow : FitsSigned w32 c.index-row.result.now.constant = search rules in
    let same = value_at c.args.self.now c.args.system.now c.loop-at.at c.index-row.result.now c.args.scale c.args.values.now at in
    let value = rw (to_z-of_z w32 c.index-row.result.now.constant narrow, c.terms_of-terms.ensures, c.deref.ensures.value, same) at c.row_value_of.ensures in
    let fits : FitsSigned w64 c.row_value_of.result = search rules in
    let more = rw (to_z-of_z w64 c.row_value_of.result fits) at c.if-row_value_of-lt0.false in
    let natural : pos 0 ≤ℤ c.row_value_of.result = omega (arith, ints, more) in
    below_more (λ (i : ℕ). IsSomeAnd (slice_get c.args.system.now.rows i) (λ (r : Row). pos 0 ≤ℤ row_value c.args.scale c.args.values.now r)) c.loop-at.at
    c.loop-at.invariant
    (holds_at c.args.self.now c.args.system.now c.loop-at.at c.index-row.result.now
    (λ (r : Row). pos 0 ≤ℤ row_value c.args.scale c.args.values.now r) at (rw value at natural))
