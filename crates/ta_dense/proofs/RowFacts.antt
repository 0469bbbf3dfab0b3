use Rattle.ta_dense.proofs.Common.{◌≡◌, ℕ, List, refl, ℤ, TableauRow}

pub row_same : (basic : ℕ) (d d' b b' : ℤ) (cs cs' : List ℤ) → d ≡ d' → b ≡ b' → cs ≡ cs' →
    let left : TableauRow = record { basic = basic; denominator = d; constant = b; cells = cs } in
    let right : TableauRow = record { basic = basic; denominator = d'; constant = b'; cells = cs' } in
    left ≡ right
row_same basic d d' b b' cs cs' e f g = rw (e, f, g) refl

pub record_same : (r r' : TableauRow) → r.basic ≡ r'.basic → r.denominator ≡ r'.denominator → r.constant ≡ r'.constant → r.cells ≡ r'.cells → r ≡ r'
record_same r r' e f g h = λ i. record { basic = e i; denominator = f i; constant = g i; cells = h i }
