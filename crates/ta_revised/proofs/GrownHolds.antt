-- the rows of a system hold in a longer one, where its dictionary is grown
use Rattle.ta_revised.proofs.Common.{ℕ, ◌<◌, ◌≤◌, ◌+◌, ◌-◌, ◌≡◌, List, ◌++◌, length, map, get_or, drop, arith, refl, sym, ap, ◌∙◌, subst, ℤ, pos, ◌<ℤ◌, ◌≤ℤ◌}
use Rattle.ta_revised.proofs.Common.{◌*ℤ◌, inl, inr, get_or-map, get_or_append_left, length-append, length-map, slice_get_cases, IsSomeAnd, Some, slice_get}
use Rattle.ta_revised.proofs.Common.{cancel_positive, terms_value, Row, System, zero_filled, Tableau, no_row, row_of, row_value, grown, unit_rows, AreValues}
use Rattle.ta_revised.proofs.Common.{IsScale, IsRevised, Option}
use Rattle.ta_base.proofs.Lists.{slice_get_before}
use Rattle.ta_revised.specs.Negative.{FirstHold, NoneNegativeAt}
use Rattle.ta_revised.proofs.NegativeLeaves.{natural_as, slack_arith, terms_value-multiple, unknown_arith}
use Rattle.ta_revised.proofs.SlackValues.{below_at}

-- an old unknown's row in a grown dictionary
old_in_grown : (d : Tableau) (n u : ℕ) → u < length d.rows → get_or (grown d n).rows u no_row ≡ zero_filled (n - length d.non_basic) (get_or d.rows u no_row)
old_in_grown d n u h =
    let new = n - length d.non_basic in
    let long = length-map d.rows (zero_filled new) in
    get_or_append_left (map (zero_filled new) d.rows) (unit_rows n (length d.non_basic) new) no_row u (omega arith)
    ∙ get_or-map (zero_filled new) d.rows u no_row no_row h

-- its values over both scales
old_value : (s : System) (t d : Tableau) (n scale other : ℕ) (values others : List ℤ) → IsRevised s t d → AreValues scale d.rows values
    → AreValues other (grown d n).rows others → (u : ℕ) → u < s.unknowns
    → pos other *ℤ get_or values u (pos 0) ≡ pos scale *ℤ get_or others u (pos 0)
old_value s t d n scale other values others v are there u h =
    let within : u < length d.rows = (let e = v.count in omega arith) in
    let r = row_of d u in
    let new = n - length d.non_basic in
    let all = length-append (map (zero_filled new) d.rows) (unit_rows n (length d.non_basic) new) in
    let long = length-map d.rows (zero_filled new) in
    let before = are.each u within in
    let after = rw (old_in_grown d n u within) at (there.each u (omega arith)) in
    cancel_positive r.denominator (pos other *ℤ get_or values u (pos 0)) (pos scale *ℤ get_or others u (pos 0)) (v.rows u h).positive
    (unknown_arith r.denominator (get_or values u (pos 0)) (pos scale) r.constant (get_or others u (pos 0)) (pos other) before after)

-- so are those of a row
row_values : (s : System) (t d : Tableau) (n scale other : ℕ) (values others : List ℤ) → IsRevised s t d → AreValues scale d.rows values
    → AreValues other (grown d n).rows others → (k : ℕ) (r : Row) → slice_get s.rows k ≡ Some r
    → pos other *ℤ row_value scale values r ≡ pos scale *ℤ row_value other others r
row_values s t d n scale other values others v are there k r e =
    let w : ℕ → ℤ = λ u. get_or values u (pos 0) in
    let x : ℕ → ℤ = λ u. get_or others u (pos 0) in
    slack_arith (pos other) (pos scale) (row_value scale values r) (terms_value w r.form.terms) (terms_value x r.form.terms) r.form.constant refl
    (terms_value-multiple 0 s.unknowns r.form.terms w x (pos other) (pos scale) (below_at s.unknowns s.rows k r s.within e)
    (λ u h. old_value s t d n scale other values others v are there u h))

-- rows at which none is negative hold where the dictionary is grown
pub grown_holds : (s l : System) (t d : Tableau) → l.rows ≡ s.rows ++ drop (length s.rows) l.rows → IsRevised s t d → NoneNegativeAt s d
    → FirstHold l (grown d l.unknowns) (length s.rows)
grown_holds s l t d begins v at = λ other others is there i below.
    let same : slice_get l.rows i ≡ slice_get s.rows i = ap (λ (rs : List Row). slice_get rs i) begins
    ∙ slice_get_before s.rows (drop (length s.rows) l.rows) i below in
    let P : Row → Type 0 = λ r. pos 0 ≤ℤ row_value other others r in
    let here : IsSomeAnd (slice_get s.rows i) P = elim (slice_get_cases s.rows i).1 [
      | inl found ↦
          let high : pos 0 ≤ℤ row_value at.scale at.values found.0 = rw found.2 at (at.none.rows i below) in
          let natural = natural_as at.scale other (row_value other others found.0) (row_value at.scale at.values found.0) at.is.positive
          (sym (row_values s t d l.unknowns at.scale other at.values others v at.are there i found.0 found.2)) high in
          subst (λ (o : Option Row). IsSomeAnd o P) (sym found.2) natural
      | inr past ↦ (let p = past.0 in absurd (omega arith))
    ] in
    subst (λ (o : Option Row). IsSomeAnd o P) (sym same) here
