use Rattle.ta_implied.proofs.Common.{◌≡◌, ◌++◌, ◌∷◌, [], slice_get, Some, sym, subst, resilience_rows, AreCopies, length, refl, slice_get_read}
use Rattle.ta_implied.proofs.Copying.{system_copies, system_below}
use Rattle.ta_implied.proofs.system.imply_system.Goals as goal

pub invariant_of-result : goal.invariant_of-result
invariant_of-result c =
    let a = c.args.automaton.now in
    let first = c.index-guards-before.result in
    let second = c.index-guards-after.result in
    let negation = c.in_ok-negated_row.field-0 in
    let guards = c.as_slice-guards.ensures in
    let second_is : slice_get a.rise c.args.after ≡ Some second = slice_get_read a.rise (length a.rise) c.args.after second refl c.requires.after
    (rw guards at c.index-guards-after.is) in
    let first_is : slice_get a.rise c.args.before ≡ Some first = slice_get_read a.rise (length a.rise) c.args.before first refl c.requires.before
    (rw guards at c.index-guards-before.is) in
    let copies = system_copies (resilience_rows a) c.new-rows.result.items c.push_condition.new.rows.items c.push.new.self.items c.push-2.new.self.items second
    c.in_ok-copy_row.field-0 negation c.new-rows.ensures.items c.in_ok-push_condition.ensures c.in_ok-copy_row.ensures c.in_ok-push.ensures.items
    c.in_ok-push-2.ensures.items in
    let below = system_below a c.args.before c.args.after first second negation c.push-2.new.self.items first_is second_is c.in_ok-negated_row.ensures copies in
    record { within = rw (c.as_slice-parameters.ensures, c.as_slice-shared.ensures, c.from_vec.ensures) below }

pub returns : goal.returns
returns c =
    let a = c.args.automaton.now in
    let first = c.index-guards-before.result in
    let second = c.index-guards-after.result in
    let negation = c.in_ok-negated_row.field-0 in
    let guards = c.as_slice-guards.ensures in
    let second_is : slice_get a.rise c.args.after ≡ Some second = slice_get_read a.rise (length a.rise) c.args.after second refl c.requires.after
    (rw guards at c.index-guards-after.is) in
    let first_is : slice_get a.rise c.args.before ≡ Some first = slice_get_read a.rise (length a.rise) c.args.before first refl c.requires.before
    (rw guards at c.index-guards-before.is) in
    let copies = system_copies (resilience_rows a) c.new-rows.result.items c.push_condition.new.rows.items c.push.new.self.items c.push-2.new.self.items second
    c.in_ok-copy_row.field-0 negation c.new-rows.ensures.items c.in_ok-push_condition.ensures c.in_ok-copy_row.ensures c.in_ok-push.ensures.items
    c.in_ok-push-2.ensures.items in
    record {
      unknowns = (let p = c.as_slice-parameters.ensures in let s = c.as_slice-shared.ensures in cc);
      first = first;
      before_is = first_is;
      second = second;
      after_is = second_is;
      negation = negation;
      negated = c.in_ok-negated_row.ensures;
      rows = subst (AreCopies (resilience_rows a ++ second ∷ negation ∷ [])) (sym c.from_vec.ensures) copies;
    }
