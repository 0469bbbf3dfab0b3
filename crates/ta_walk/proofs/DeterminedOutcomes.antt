-- a word's system has one outcome: multipliers, values, or the count of a pivot that leaves the range
use Rattle.ta_walk.proofs.Common.{◌≡◌, ℕ, List, ℤ, Pending, Search, slack_tableau, OverflowsAt, Fraction, end_once, none_beside, first_once, OfSystem}
use Rattle.ta_walk.proofs.Common.{RefutedAt, VertexAt}
use Rattle.ta_encode.proofs.SameSystems.{same_numbers}
use Rattle.ta_simplex.specs.declared.End.TheVariants as end

pub multipliers_of : (ts us : List (ℕ × ℤ)) → end.Refuted ts ≡ end.Refuted us → ts ≡ us
multipliers_of ts us e = cc

values_of : (fs gs : List Fraction) → end.Vertex fs ≡ end.Vertex gs → fs ≡ gs
values_of fs gs e = cc

pub multipliers_at : {E : Type 0} (s : Search E) (w : Pending E) (ts us : List (ℕ × ℤ)) → RefutedAt s w ts → RefutedAt s w us → ts ≡ us
multipliers_at s w ts us r q = multipliers_of ts us
    (end_once r.system q.system (same_numbers s w r.system q.system r.is q.is) (end.Refuted ts) (end.Refuted us) r.holds q.holds)

pub values_at : {E : Type 0} (s : Search E) (w : Pending E) (fs gs : List Fraction) → VertexAt s w fs → VertexAt s w gs → fs ≡ gs
values_at s w fs gs r q = values_of fs gs
    (end_once r.system q.system (same_numbers s w r.system q.system r.is q.is) (end.Vertex fs) (end.Vertex gs) r.holds q.holds)

pub no_vertex : {E : Type 0} (s : Search E) (w : Pending E) (ts : List (ℕ × ℤ)) (fs : List Fraction) → RefutedAt s w ts → VertexAt s w fs → ⊥
no_vertex s w ts fs r q =
    let e = end_once r.system q.system (same_numbers s w r.system q.system r.is q.is) (end.Refuted ts) (end.Vertex fs) r.holds q.holds in
    absurd (cc)

-- a pivot of the word's system leaves the range
abbrev pub OverflowAt : {E : Type 0} → Search E → Pending E → ℕ → Type 0
OverflowAt s w count = OfSystem s w (λ system. OverflowsAt (slack_tableau system) count)

pub counts_at : {E : Type 0} (s : Search E) (w : Pending E) (c d : ℕ) → OverflowAt s w c → OverflowAt s w d → c ≡ d
counts_at s w c d r q = first_once r.system q.system (same_numbers s w r.system q.system r.is q.is) c d r.holds q.holds

pub no_overflow_refuted : {E : Type 0} (s : Search E) (w : Pending E) (ts : List (ℕ × ℤ)) (c : ℕ) → RefutedAt s w ts → OverflowAt s w c → ⊥
no_overflow_refuted s w ts c r q = none_beside r.system q.system (same_numbers s w r.system q.system r.is q.is) (end.Refuted ts) c r.holds q.holds

pub no_overflow_vertex : {E : Type 0} (s : Search E) (w : Pending E) (fs : List Fraction) (c : ℕ) → VertexAt s w fs → OverflowAt s w c → ⊥
no_overflow_vertex s w fs c r q = none_beside r.system q.system (same_numbers s w r.system q.system r.is q.is) (end.Vertex fs) c r.holds q.holds
