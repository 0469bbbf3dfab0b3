use Rattle.ta_witness.proofs.Common.{◌≡◌, take, VectorStays, form_values}
use Rattle.ta_witness.proofs.values.form_values.Given as goal

-- the values of the earlier forms
abbrev pub invariant-loop-form : goal.invariant-loop-form
invariant-loop-form l =
    (l.numbers.items ≡ form_values l.values (take l.form-index l.forms)) × VectorStays l.values (take l.form-index l.forms)
