-- how many pieces there are
use Rattle.ta_compress.proofs.Common.{◌≡◌, inl, inr, ℕ, ◌+◌, ◌-◌, ◌<◌, ◌≤◌, ℤ, List, [], ◌∷◌, ◌++◌, length, arith, sym, ap, ◌∙◌, refl, subst, slice_get, Some}
use Rattle.ta_compress.proofs.Common.{append_assoc, append-nil, fun_ext, ints, AllByRecursion, each_back, each_front, some_at, value_of, RowHolds, Row}
use Rattle.ta_compress.proofs.Common.{Automaton, Pattern, EachRule, later_after, Later, falls, fall_back, stays_true, RunLine, Step, Mark, LineFits}
use Rattle.ta_compress.proofs.Common.{marks_count, unit, value_after, Switches, Drops, CutPiece, AreCut, IsPiece, units, lines_in}
use Rattle.ta_base.proofs.Integers.{natural_one-fails, natural_one-holds, natural_one-most}
unfoldable use Rattle.ta_base.proofs.Integers.{natural_one}
use Rattle.std.proofs.Common.{sum_by}
use Rattle.ta_base.proofs.Sums.{sum_by-less, sum_by-most, sum_by-no_more}
use Rattle.ta_compress.proofs.Steady.{holds_or, units-value, units-append, done_append}
use Rattle.ta_compress.proofs.Cutting.{mark-value}

closed : (ℕ → ℤ) → Row → ℕ
closed f row = 1 - natural_one (value_of f row.form)

open_ : (ℕ → ℤ) → Row → ℕ
open_ f row = natural_one (value_of f row.form)

-- how many guards can still switch
pub left : Automaton → (ℕ → ℤ) → ℕ
left a f = sum_by (closed f) a.rise + sum_by (open_ f) a.fall

pub left_most : (a : Automaton) (f : ℕ → ℤ) → left a f ≤ length a.rise + length a.fall
unfolding left closed open_
left_most a f = omega (arith, sum_by-most (closed f) a.rise (λ row. omega arith), sum_by-most (open_ f) a.fall (λ row. natural_one-most (value_of f row.form)))

fall_later : (a : Automaton) (f g : ℕ → ℤ) → Later a f g → (j : ℕ) (row : Row) → slice_get a.fall j ≡ Some row → RowHolds g row → RowHolds f row
fall_later a f g later j row at h = omega (arith, ints, h, fall_back a f g later row.form.terms (falls a j row at))

closed_less : (a : Automaton) (f g : ℕ → ℤ) → Later a f g → (i : ℕ) (row : Row) → slice_get a.rise i ≡ Some row → closed g row ≤ closed f row
unfolding closed
closed_less a f g later i row at = elim (holds_or f row) [
  | inl holds ↦ omega (arith, natural_one-holds (value_of f row.form) holds, natural_one-holds (value_of g row.form) (stays_true a f g later i row at holds))
  | inr fails ↦ omega (arith, natural_one-fails (value_of f row.form) fails)
]

open_less : (a : Automaton) (f g : ℕ → ℤ) → Later a f g → (j : ℕ) (row : Row) → slice_get a.fall j ≡ Some row → open_ g row ≤ open_ f row
unfolding open_
open_less a f g later j row at = elim (holds_or g row) [
  | inl holds ↦ omega (arith, natural_one-holds (value_of g row.form) holds, natural_one-holds (value_of f row.form) (fall_later a f g later j row at holds))
  | inr fails ↦ omega (arith, natural_one-fails (value_of g row.form) fails)
]

pub left_less : (a : Automaton) (f g : ℕ → ℤ) → Later a f g → left a g ≤ left a f
unfolding left
left_less a f g later = omega (
  arith,
  sum_by-no_more (closed f) (closed g) a.rise (closed_less a f g later),
  sum_by-no_more (open_ f) (open_ g) a.fall
      (open_less a f g later),
)

-- a switch leaves less
pub left_fewer : (a : Automaton) (f g : ℕ → ℤ) → Later a f g → Switches a f g → left a g < left a f
unfolding left closed open_
left_fewer a f g later (inl s) = elim s.differs [
  | inl d ↦ absurd (d.1 (stays_true a f g later s.number s.row s.named d.0))
  | inr d ↦ omega (
    arith,
    sum_by-less (closed f) (closed g) a.rise (closed_less a f g later) s.number s.row s.named
        (omega (arith, natural_one-fails (value_of f s.row.form) d.0, natural_one-holds (value_of g s.row.form) d.1)),
    sum_by-no_more (open_ f) (open_ g) a.fall
        (open_less a f g later),
  )
]
left_fewer a f g later (inr s) = elim s.differs [
  | inl d ↦ omega (
    arith,
    sum_by-no_more (closed f) (closed g) a.rise (closed_less a f g later),
    sum_by-less (open_ f) (open_ g) a.fall (open_less a f g later)
        s.number s.row s.named (omega (arith, natural_one-holds (value_of f s.row.form) d.0, natural_one-fails (value_of g s.row.form) d.1)),
  )
  | inr d ↦ absurd (d.0 (fall_later a f g later s.number s.row s.named d.1))
]

pub drop_switches : (a : Automaton) (f g : ℕ → ℤ) → Drops a f g → Switches a f g
drop_switches a f g d = inr (record { number = d.number; row = d.row; named = d.named; differs = inl (d.held, d.fails) })

units_rules : (a : Automaton) (p : Pattern) (rules : List ℕ) → AllByRecursion (LineFits a p) (units rules) → EachRule a rules
units_rules a p [] fits = tt
units_rules a p (r ∷ rs) fits = (some_at a.rules r fits.0.0, units_rules a p rs fits.1)

units_later : (a : Automaton) (p : Pattern) (first : List ℤ) (done : List RunLine) (rules : List ℕ) → AllByRecursion (LineFits a p) (units rules)
    → Later a (value_after a first done) (value_after a first (done ++ units rules))
units_later a p first done rules fits =
    subst (λ (g : ℕ → ℤ). Later a (value_after a first done) g) (sym (fun_ext (units-value a first done rules)))
    (later_after a (value_after a first done) rules (units_rules a p rules fits))

marks-append : (xs ys : List RunLine) → marks_count (xs ++ ys) ≡ marks_count xs + marks_count ys
marks-append [] ys = omega arith
marks-append (Step r k ∷ xs) ys = marks-append xs ys
marks-append (Mark e ∷ xs) ys = omega (arith, marks-append xs ys)

marks-units : (rules : List ℕ) → marks_count (units rules) ≡ 0
marks-units [] = refl
marks-units (r ∷ rs) = marks-units rs

-- one piece takes one of what is left, or a mark
piece_takes : (a : Automaton) (p : Pattern) (first : List ℤ) (done : List RunLine) (piece : CutPiece) → AllByRecursion (LineFits a p) (lines_in piece)
    → IsPiece a first done piece → 1 + left a (value_after a first (done ++ lines_in piece)) ≤ left a (value_after a first done) + marks_count piece.kept
piece_takes a p first done piece fits is = by_end is where
  front : List RunLine
  front = done ++ units piece.body

  fits_body : AllByRecursion (LineFits a p) (units piece.body)
  fits_body = each_front (LineFits a p) (units piece.body) piece.kept fits

  fits_kept : (ls : List RunLine) → piece.kept ≡ ls → AllByRecursion (LineFits a p) ls
  fits_kept ls e = subst (AllByRecursion (LineFits a p)) e (each_back (LineFits a p) (units piece.body) piece.kept fits)

  whole : (ls : List RunLine) → piece.kept ≡ ls → done ++ lines_in piece ≡ (done ++ units piece.body) ++ ls
  whole ls e = sym (append_assoc done (units piece.body) piece.kept) ∙ ap (λ (xs : List RunLine). (done ++ units piece.body) ++ xs) e

  by_end : IsPiece a first done piece → 1 + left a (value_after a first (done ++ lines_in piece)) ≤ left a (value_after a first done) + marks_count piece.kept
  by_end (inl m) =
      let same = ap (λ (d : List RunLine). left a (value_after a first d)) (whole (Mark m.event ∷ []) m.kept) in
      let still = ap (left a) (fun_ext (mark-value a first (done ++ units piece.body) m.event)) in
      let marks = ap marks_count m.kept in
      omega (
        arith,
        same,
        still,
        marks,
        left_less a (value_after a first done) (value_after a first (done ++ units piece.body))
            (units_later a p first done piece.body fits_body),
      )
  by_end (inr (inl f)) =
      let same = ap (λ (d : List RunLine). left a (value_after a first d)) (whole (unit f.rule ∷ []) f.kept) in
      let step = units_later a p first (done ++ units piece.body) (f.rule ∷ []) (fits_kept (unit f.rule ∷ []) f.kept) in
      let fewer = left_fewer a (value_after a first (done ++ units piece.body)) (value_after a first ((done ++ units piece.body) ++ unit f.rule ∷ [])) step
      (drop_switches a _ _ f.drops) in
      omega (
        arith,
        same,
        fewer,
        left_less a (value_after a first done) (value_after a first (done ++ units piece.body))
            (units_later a p first done piece.body fits_body),
      )
  by_end (inr (inr r)) =
      let same = ap (λ (d : List RunLine). left a (value_after a first d)) (whole [] r.kept ∙ append-nil (done ++ units piece.body)) in
      let body = ap (λ (xs : List ℕ). left a (value_after a first (done ++ units xs))) r.body
      ∙ ap (λ (d : List RunLine). left a (value_after a first d)) (done_append done r.front (r.rule ∷ [])) in
      let fits_all = subst (λ (xs : List ℕ). AllByRecursion (LineFits a p) (units xs)) r.body fits_body in
      let fits_parts = subst (AllByRecursion (LineFits a p)) (units-append r.front (r.rule ∷ [])) fits_all in
      let step = units_later a p first (done ++ units r.front) (r.rule ∷ []) (each_back (LineFits a p) (units r.front) (units (r.rule ∷ [])) fits_parts) in
      let fewer = left_fewer a (value_after a first (done ++ units r.front)) (value_after a first ((done ++ units r.front) ++ unit r.rule ∷ [])) step r.switches
      in
      omega (
        arith,
        same,
        body,
        fewer,
        left_less a (value_after a first done) (value_after a first (done ++ units r.front))
            (units_later a p first done r.front (each_front (LineFits a p) (units r.front) (units (r.rule ∷ [])) fits_parts)),
      )

-- there are at most as many pieces as guards that can still switch, and marks
pub pieces_few : (a : Automaton) (p : Pattern) (first : List ℤ) (pieces : List CutPiece) (done lines short : List RunLine) → AllByRecursion (LineFits a p) lines
    → AreCut a first done lines pieces short → length pieces ≤ left a (value_after a first done) + marks_count lines
pieces_few a p first [] done lines short fits cut = omega arith
pieces_few a p first (piece ∷ pieces) done lines short fits cut =
    let behind = cut.1 in
    let all = subst (AllByRecursion (LineFits a p)) cut.2 fits in
    let here = piece_takes a p first done piece (each_front (LineFits a p) (lines_in piece) behind all) cut.0 in
    let more = pieces_few a p first pieces (done ++ lines_in piece) behind cut.3 (each_back (LineFits a p) (lines_in piece) behind all) cut.5 in
    let marks = ap marks_count cut.2 ∙ marks-append (lines_in piece) behind in
    let inner = marks-append (units piece.body) piece.kept in
    omega (arith, here, more, marks, inner, marks-units piece.body)
