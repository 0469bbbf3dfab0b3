-- a compressed run tells the same
use Rattle.ta_compress.proofs.Common.{◌≡◌, inl, inr, ℕ, ℤ, List, [], ◌∷◌, ◌++◌, length, arith, sym, ap, ◌∙◌, subst, append_assoc, append-nil, ints, Automaton}
use Rattle.ta_compress.proofs.Common.{Pattern, Config, InScope, total, total-append, KeepsEmpty, RunLine, Mark, line_change, unit, value_after, CutPiece}
use Rattle.ta_compress.proofs.Common.{AreCut, IsPiece, units, lines_in, LinesTell}
use Rattle.ta_compress.proofs.Telling.{units_told, tell_steps}
use Rattle.ta_compress.proofs.Steady.{piece_steady}
use Rattle.ta_compress.proofs.Rearranging.{Stands, stands_after, rearranged}

pub mark-value : (a : Automaton) (first : List ℤ) (done : List RunLine) (e i : ℕ) → value_after a first (done ++ Mark e ∷ []) i ≡ value_after a first done i
unfolding total
mark-value a first done e i = omega (arith, ints, total-append (line_change a i) done (Mark e ∷ []))

stands_mark : (a : Automaton) (first : List ℤ) (done : List RunLine) (c : Config) (e : ℕ) → Stands a first done c → Stands a first (done ++ Mark e ∷ []) c
stands_mark a first done c e s = record { whole = s.whole; same = λ i. s.same i ∙ sym (mark-value a first done e i) }

-- what is told from some lines on is told from their shortened ones on
abbrev Retells : Automaton → Pattern → List ℤ → List CutPiece → Type 0
Retells a p first pieces =
    (done lines short : List RunLine) (c : Config) (tale : List (ℕ × Config))
    → AreCut a first done lines pieces short → Stands a first done c → KeepsEmpty p.empty c
    → LinesTell a p c lines tale → LinesTell a p c short tale

-- the line that a piece keeps, and what is behind it
kept_told : (a : Automaton) (p : Pattern) (first : List ℤ) (piece : CutPiece) (pieces : List CutPiece) → Retells a p first pieces
    → (done behind rest : List RunLine) (d : Config) (tale : List (ℕ × Config)) → IsPiece a first done piece → Stands a first (done ++ units piece.body) d
    → KeepsEmpty p.empty d → AreCut a first (done ++ lines_in piece) behind pieces rest → LinesTell a p d (piece.kept ++ behind) tale
    → LinesTell a p d (piece.kept ++ rest) tale
kept_told a p first piece pieces again done behind rest d tale is s kept cut t =
    by_end is where
      front : List RunLine
      front = done ++ units piece.body

      there : (ls : List RunLine) → piece.kept ≡ ls → AreCut a first (front ++ ls) behind pieces rest
      there ls e = subst (λ (xs : List RunLine). AreCut a first xs behind pieces rest)
          (sym (append_assoc done (units piece.body) piece.kept) ∙ ap (λ (xs : List RunLine). (done ++ units piece.body) ++ xs) e) cut

      by_end : IsPiece a first done piece → LinesTell a p d (piece.kept ++ rest) tale
      by_end (inl m) =
          let u = subst (λ (xs : List RunLine). LinesTell a p d (xs ++ behind) tale) m.kept t in
          let more = again (front ++ Mark m.event ∷ []) behind rest d u.0 (there (Mark m.event ∷ []) m.kept) (stands_mark a first front d m.event s) kept u.2 in
          subst (λ (xs : List RunLine). LinesTell a p d (xs ++ rest) tale) (sym m.kept) (u.0, u.1, more)
      by_end (inr (inl f)) =
          let u = subst (λ (xs : List RunLine). LinesTell a p d (xs ++ behind) tale) f.kept t in
          let next = stands_after a p first front d (f.rule ∷ []) u.0 s u.1 in
          let more = again (front ++ unit f.rule ∷ []) behind rest u.0 tale (there (unit f.rule ∷ []) f.kept) next (u.1.kept 1 u.0 u.1.ends) u.2 in
          subst (λ (xs : List RunLine). LinesTell a p d (xs ++ rest) tale) (sym f.kept) (u.0, u.1, more)
      by_end (inr (inr r)) =
          let u = subst (λ (xs : List RunLine). LinesTell a p d (xs ++ behind) tale) r.kept t in
          let more = again (front ++ []) behind rest d tale (there [] r.kept) (subst (λ (xs : List RunLine). Stands a first xs d) (sym (append-nil front)) s)
          kept u in
          subst (λ (xs : List RunLine). LinesTell a p d (xs ++ rest) tale) (sym r.kept) more

pub pieces_retell : (a : Automaton) (p : Pattern) (first : List ℤ) → InScope a → (pieces : List CutPiece) → Retells a p first pieces
pieces_retell a p first scope [] done lines short c tale cut s kept t =
    let none = subst (λ (xs : List RunLine). LinesTell a p c xs tale) cut.0 t in
    subst (λ (xs : List RunLine). LinesTell a p c xs tale) (sym cut.1) none
pieces_retell a p first scope (piece ∷ pieces) done lines short c tale cut s kept t =
    let behind = cut.1 in
    let rest = cut.3 in
    let sh = cut.4 in
    let parts = subst (λ (xs : List RunLine). LinesTell a p c xs tale) (cut.2 ∙ append_assoc (units piece.body) piece.kept behind) t in
    let b = units_told a p c piece.body (piece.kept ++ behind) tale kept parts in
    let lead = rearranged a p first done piece.body c b.middle sh.steps scope s b.leads (piece_steady a first done piece cut.0) sh.arranged in
    let there = stands_after a p first done c piece.body b.middle s b.leads in
    let more = kept_told a p first piece pieces (pieces_retell a p first scope pieces) done behind rest b.middle tale cut.0 there
    (b.leads.kept (length piece.body) b.middle b.leads.ends) cut.5 b.tells in
    subst (λ (xs : List RunLine). LinesTell a p c xs tale) (sym sh.is) (tell_steps a p c sh.steps b.middle (piece.kept ++ rest) tale lead more)
