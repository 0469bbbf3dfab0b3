use Rattle.ta_meaning.proofs.Common.{◌≡◌, ◌+◌, ◌<◌, ℕ, List, take, sym, subst, ◌∙◌, arith, IsDigits, number_of}
use Rattle.ta_meaning.proofs.WrittenNumbers.{number_more, too_large_at}
use Rattle.ta_meaning.proofs.numbers.read_number.Goals as goal

pub returns-then-number-gt-LARGEST_NUMBER : goal.returns-then-number-gt-LARGEST_NUMBER
returns-then-number-gt-LARGEST_NUMBER c =
    let text = c.args.digits.now.text in
    let i = c.digits.digit-index in
    let is : c.as_bytes-digit-items.result.now ≡ text = c.as_bytes-digit-items.ensures.value ∙ c.as_str.ensures in
    let legal = subst (λ (x : List ℕ). IsDigits x) (sym is) c.args.digits.now.legal in
    let more = number_more c.as_bytes-digit-items.result.now i legal c.digits-test.true in
    let large : 1000000000 < number_of (take (i + 1) c.as_bytes-digit-items.result.now) = omega
    (arith, more, c.digits.invariant.is, c.from.ensures, c.if-number-gt-LARGEST_NUMBER.true) in
    too_large_at c.args.digits.now (i + 1) (subst (λ (x : List ℕ). 1000000000 < number_of (take (i + 1) x)) is large)

pub digits-preserved : goal.digits-preserved
digits-preserved c =
    let text = c.args.digits.now.text in
    let i = c.digits.digit-index in
    let is : c.as_bytes-digit-items.result.now ≡ text = c.as_bytes-digit-items.ensures.value ∙ c.as_str.ensures in
    let legal = subst (λ (x : List ℕ). IsDigits x) (sym is) c.args.digits.now.legal in
    let more = number_more c.as_bytes-digit-items.result.now i legal c.digits-test.true in
    record { is = omega (arith, more, c.digits.invariant.is, c.from.ensures); small = c.if-number-gt-LARGEST_NUMBER.false }
