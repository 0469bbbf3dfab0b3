use Rattle.ta_meaning.proofs.Common.{one_bit_more, refl, w16, w64, bit_at_set_same, bit_at_set_other}
use Rattle.ta_meaning.proofs.guards.with_number.Goals as goal

pub returns-in-Rise : goal.returns-in-Rise
returns-in-Rise c =
    let mask = c.args.masks.rise in
    let n = c.in-Rise.number in
    let fits = rw c.in-Rise.is at c.requires in
    rw c.in-Rise.is (one_bit_more mask n _ (bit_at_set_same w64 mask n fits) (λ i ne. bit_at_set_other w64 mask n fits i ne), refl)

pub returns-in-Fall : goal.returns-in-Fall
returns-in-Fall c =
    let mask = c.args.masks.fall in
    let n = c.in-Fall.number in
    let fits = rw c.in-Fall.is at c.requires in
    rw c.in-Fall.is (refl, one_bit_more mask n _ (bit_at_set_same w16 mask n fits) (λ i ne. bit_at_set_other w16 mask n fits i ne))
