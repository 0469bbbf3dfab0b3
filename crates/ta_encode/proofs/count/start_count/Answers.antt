use Rattle.ta_encode.proofs.Common.{◌≡◌, ℕ, Bool, List, ◌+◌, ◌<◌, ◌^◌, length, not, take, get_or, arith, ap, sym, ◌∙◌, filter, take-length, length-take-le}
use Rattle.ta_encode.proofs.Common.{has_bit, bit_off, bit_on, filter_shorter, items_none, items_one}
use Rattle.ta_encode.proofs.Masked.{initial_within}
use Rattle.ta_encode.proofs.Counting.{start_length}
use Rattle.ta_encode.proofs.Drafts.{initial_few}
use Rattle.ta_encode.proofs.count.start_count.Goals.{then-pattern-location-eq0, else-pattern-location-eq0}
use Rattle.ta_encode.proofs.count.start_count.Goals as goal

pub overflow_shl-location : goal.overflow_shl-location
overflow_shl-location c = initial_within c.args.automaton.now c.as_slice-location-items.result.now c.loop-location.location-index 0
    c.as_slice-location-items.ensures c.loop-location-test.true

pub overflow_add-count : goal.overflow_add-count
overflow_add-count c =
    let items = c.as_slice-location-items.result.now in
    let i = c.loop-location.location-index in
    let below = c.loop-location-test.true in
    let short = filter_shorter (λ k. not (has_bit c.args.pattern.now.empty k)) (take i items) in
    let taken = length-take-le i items (omega arith) in
    let same = ap length c.as_slice-location-items.ensures in
    let few = initial_few c.args.automaton.now in
    let limit = c.args.automaton.now.shape.limits.parameters_limit in
    let is = c.loop-location.invariant in
    let small : c.loop-location.count + 1 < 2 ^ 32 = omega arith in
    record { fits = small }

pub loop-location-preserved : goal.loop-location-preserved
loop-location-preserved c =
    let items = c.as_slice-location-items.result.now in
    let i = c.loop-location.location-index in
    let l = get_or items i 0 in
    let test : ℕ → Bool = λ k. not (has_bit c.args.pattern.now.empty k) in
    let first = length c.args.automaton.now.parameters in
    let within = initial_within c.args.automaton.now items i 0 c.as_slice-location-items.ensures c.loop-location-test.true in
    let is = c.loop-location.invariant in
    elim c.if-pattern-location-eq0.branch [
      | then-pattern-location-eq0 w ↦
          (let e = w.count-is in
          let one = items_one test items i 0 c.loop-location-test.true (ap not (bit_off 128 c.args.pattern.now.empty l within w.if-pattern-location-eq0.true))
          in
          omega arith)
      | else-pattern-location-eq0 w ↦
          (let e = w.count-is in
          let none = items_none test items i 0 c.loop-location-test.true (ap not (bit_on 128 c.args.pattern.now.empty l within w.if-pattern-location-eq0.false))
          in omega arith)
    ]

pub returns-clause-value : goal.returns-clause-value
returns-clause-value c =
    let items = c.as_slice-location-items.result.now in
    let test : ℕ → Bool = λ k. not (has_bit c.args.pattern.now.empty k) in
    let first = length c.args.automaton.now.parameters in
    let end : c.loop-location.location-index ≡ length items =
    (let low = c.loop-location-test.false in let high = c.loop-location.auto.location-index-end in omega arith) in
    c.loop-location.invariant ∙ ap (λ n. first + length (filter test (take n items))) end
    ∙ ap (λ (xs : List ℕ). first + length (filter test xs)) (take-length items ∙ c.as_slice-location-items.ensures)
    ∙ sym (start_length c.args.automaton.now c.args.pattern.now)

pub returns-clause-few : goal.returns-clause-few
returns-clause-few c =
    let items = c.as_slice-location-items.result.now in
    let i = c.loop-location.location-index in
    let high = c.loop-location.auto.location-index-end in
    let short = filter_shorter (λ k. not (has_bit c.args.pattern.now.empty k)) (take i items) in
    let taken = length-take-le i items (omega arith) in
    let same = ap length c.as_slice-location-items.ensures in
    let few = initial_few c.args.automaton.now in
    let limit = c.args.automaton.now.shape.limits.parameters_limit in
    let is = c.loop-location.invariant in
    omega arith
