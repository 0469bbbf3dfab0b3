use Rattle.ta_encode.proofs.Common.{ℕ, ◌≡◌, ◌<◌, ◌^◌, ◌++◌, length, map, sym, ◌∙◌, subst, AllBelow, AreRowsOf, BoundsWithin, AreWritten, IsBehind, bound_row}
use Rattle.ta_encode.proofs.draft.Draft.encoded.Goals as goal

pub push_bounds-requires : goal.push_bounds-requires
push_bounds-requires c =
    let long = sym (c.len-unknowns.ensures ∙ c.args.self.meanings.ok.0) in
    record { numbers = subst (λ (n : ℕ). n < 2 ^ 32) long c.args.self.few; bounds = subst (λ (n : ℕ). BoundsWithin n c.args.bounds.now) long c.requires.bounds }

pub overflow_cast-result : goal.overflow_cast-result
overflow_cast-result c =
    let few : c.len-unknowns.result < 2 ^ 32 = subst (λ (n : ℕ). n < 2 ^ 32) (sym (c.len-unknowns.ensures ∙ c.args.self.meanings.ok.0)) c.args.self.few in
    record { fits = few }

pub invariant_of-result : goal.invariant_of-result
invariant_of-result c =
    let n = c.len-unknowns.result in
    let written = c.requires.written in
    let whole = c.in_ok-push_bounds.ensures.rows written.lines
    (subst (λ (k : ℕ). AreWritten written.lines k c.args.self.rows.items) (sym (c.len-unknowns.ensures ∙ c.args.self.meanings.ok.0)) written.are) in
    record { within = subst (AllBelow n) (sym c.from_vec.ensures) whole.below }

pub returns : goal.returns
returns c =
    let n = c.len-unknowns.result in
    let long : n ≡ length c.args.self.meanings.items = c.len-unknowns.ensures ∙ c.args.self.meanings.ok.0 in
    record {
      meanings_are = c.from_vec-2.ensures;
      count = long;
      rows_are = λ ls are. subst (AreRowsOf (ls ++ map bound_row c.args.bounds.now)) (sym c.from_vec.ensures)
          (c.in_ok-push_bounds.ensures.rows ls (subst (λ (k : ℕ). AreWritten ls k c.args.self.rows.items) (sym long) are)).rows_of;
      behind = subst (IsBehind c.args.self.rows.items) (sym c.from_vec.ensures) c.in_ok-push_bounds.ensures.behind;
    }
