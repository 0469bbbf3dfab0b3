use Rattle.ta_walk.proofs.Common.{◌≡◌, ◌<◌, ◌/◌, ◌*◌, ◌^◌, ℕ, ◌∙◌, ap, arith, sym, subst, SomeIff, gcd_of_is, multiple_of}
use Rattle.ta_walk.proofs.Lowest.{divisor_some, multiple_by_one}
use Rattle.ta_walk.proofs.fractions.multiple_of.Goals as goal

pub nonzero_div-factor : goal.nonzero_div-factor
nonzero_div-factor c = subst (λ (n : ℕ). 0 < n) (sym (gcd_of_is c.args.one c.args.other c.gcd_natural.result c.gcd_natural.ensures.value))
    (divisor_some c.args.one c.args.other c.requires.some)

pub returns-in-None : goal.returns-in-None
returns-in-None c less =
    let is = gcd_of_is c.args.one c.args.other c.gcd_natural.result c.gcd_natural.ensures.value in
    let within = subst (λ (n : ℕ). c.args.one * (c.args.other / n) < 2 ^ 127) (sym is) less in
    let out = c.in-None.ensures in
    absurd (omega (arith, within, out))

pub returns-in-Some : goal.returns-in-Some
returns-in-Some c =
    let is = gcd_of_is c.args.one c.args.other c.gcd_natural.result c.gcd_natural.ensures.value in
    let product = c.in-Some.ensures in
    let same : c.in-Some.product ≡ multiple_of c.args.one c.args.other = product.1 ∙ ap (λ (n : ℕ). c.args.one * (c.args.other / n)) is in
    subst (λ (n : ℕ). SomeIff c.within.result (n < 2 ^ 127) n) same c.within.ensures

pub returns-then-other-eq1 : goal.returns-then-other-eq1
returns-then-other-eq1 c =
    let same = multiple_by_one c.args.one c.args.other c.if-other-eq1.true in
    (subst (λ (n : ℕ). n < 2 ^ 127) same c.requires.one, same)
