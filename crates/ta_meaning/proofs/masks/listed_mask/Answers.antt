use Rattle.ta_meaning.proofs.Common.{◌≡◌, ◌+◌, List, ◌∷◌, drop, refl, subst, arith, false≢true, slice_get_within, err_is, drop_of_length-le, next_item, Spelled}
use Rattle.ta_meaning.proofs.Common.{slice_range, ◌-◌, length}
use Rattle.ta_base.proofs.Each.{distinct_range}
use Rattle.ta_base.proofs.Members.{contains_in_range}
use Rattle.ta_meaning.proofs.ListedSteps.{ListedTo, listing_begins, listing_stops, listing_repeats, listing_goes_on, listing_ends}
use Rattle.std.proofs.lemmas.List.Edits.{length-between}
use Rattle.ta_meaning.proofs.masks.listed_mask.Goals as goal

pub loop-name-init : goal.loop-name-init
loop-name-init c = listing_begins c.args.names.now (slice_range c.args.names.now c.args.from c.args.to) c.args.listed.now

pub returns-in_err-number : goal.returns-in_err-number
returns-in_err-number c =
    let xs = c.args.listed.now in
    let i = c.loop-name.name-index in
    let x = c.name-item.result in
    let names = c.args.names.now in
    let allowed = slice_range names c.args.from c.args.to in
    let here : drop i xs ≡ x ∷ drop (i + 1) xs = next_item xs i x (omega arith) c.name-item.is in
    rw (err_is c.from_residual.result _ c.from_residual.ensures.1)
    (listing_stops names allowed xs x (drop (i + 1) xs) c.loop-name.mask
    (subst (λ (ys : List Spelled). ListedTo names allowed xs ys c.loop-name.mask) here c.loop-name.invariant) c.in_err-number.field-0.0
    (contains_in_range names c.args.from c.args.to) c.in_err-number.ensures)

pub contains-requires : goal.contains-requires
contains-requires c =
    let few : length (slice_range c.args.names.now c.args.from c.args.to) ≡ c.args.to - c.args.from = length-between c.args.names.now c.args.from c.args.to
    c.requires.within in
    let within = slice_get_within (slice_range c.args.names.now c.args.from c.args.to) c.in_ok-number.number c.name-item.result.name c.in_ok-number.ensures.1 in
    omega arith

pub returns-then-contains : goal.returns-then-contains
returns-then-contains c =
    let xs = c.args.listed.now in
    let i = c.loop-name.name-index in
    let x = c.name-item.result in
    let names = c.args.names.now in
    let allowed = slice_range names c.args.from c.args.to in
    let here : drop i xs ≡ x ∷ drop (i + 1) xs = next_item xs i x (omega arith) c.name-item.is in
    listing_repeats names allowed xs x (drop (i + 1) xs) c.loop-name.mask
    (subst (λ (ys : List Spelled). ListedTo names allowed xs ys c.loop-name.mask) here c.loop-name.invariant) c.in_ok-number.number c.in_ok-number.ensures.1
    (c.if-contains.ensures.tells.0 refl)

pub loop-name-preserved : goal.loop-name-preserved
loop-name-preserved c =
    let xs = c.args.listed.now in
    let i = c.loop-name.name-index in
    let x = c.name-item.result in
    let names = c.args.names.now in
    let allowed = slice_range names c.args.from c.args.to in
    let here : drop i xs ≡ x ∷ drop (i + 1) xs = next_item xs i x (omega arith) c.name-item.is in
    let few : length allowed ≡ c.args.to - c.args.from = length-between names c.args.from c.args.to c.requires.within in
    listing_goes_on names allowed xs x (drop (i + 1) xs) c.loop-name.mask
    (subst (λ (ys : List Spelled). ListedTo names allowed xs ys c.loop-name.mask) here c.loop-name.invariant) c.in_ok-number.number
    (distinct_range names c.args.from c.args.to c.requires.distinct) (omega arith) c.in_ok-number.ensures.0 c.in_ok-number.ensures.1
    (λ b. false≢true (c.if-contains.ensures.tells.1 b))

pub returns : goal.returns
returns c =
    let xs = c.args.listed.now in
    let names = c.args.names.now in
    let allowed = slice_range names c.args.from c.args.to in
    listing_ends names allowed xs c.loop-name.mask
    (subst (λ (ys : List Spelled). ListedTo names allowed xs ys c.loop-name.mask) (drop_of_length-le xs c.loop-name-test.false) c.loop-name.invariant)

pub overflow_shl-mask : goal.overflow_shl-mask
overflow_shl-mask c =
    let few : length (slice_range c.args.names.now c.args.from c.args.to) ≡ c.args.to - c.args.from = length-between c.args.names.now c.args.from c.args.to
    c.requires.within in
    let within = slice_get_within (slice_range c.args.names.now c.args.from c.args.to) c.in_ok-number.number c.name-item.result.name c.in_ok-number.ensures.1 in
    omega (arith, few, within, c.requires.few)

pub number_in-requires-clause-order : goal.number_in-requires-clause-order
number_in-requires-clause-order c = c.requires.order
