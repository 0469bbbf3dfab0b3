-- a comparison of a file with bytes, so far and at its end
use Rattle.ta_shelf.proofs.Common.{◌≡◌, ◌≢◌, ◌∙◌, ℕ, ◌+◌, ◌≤◌, Bool, true, false, List, ◌++◌, length, take, drop, Ok, inl, inr, refl, sym, ap, subst, arith}
use Rattle.ta_shelf.proofs.Common.{take-add, take-append-drop, take-append_seam, append_assoc, length-append, length-drop, length-take-le, bytes_eq}
use Rattle.ta_shelf.proofs.Common.{bytes_eq-Decides, Call, Event, true≢false, take_all, Grew, ComparesBy}
use Rattle.std.specs.Prelude.{Decides, MatchBool, nat_eq}
use Rattle.std.proofs.lemmas.Bool.Decides.{Decides-eqb}
use Rattle.std.proofs.lemmas.List.{append_cancel_left}
use Rattle.ta_shelf.specs.Calls.{Spells}
use Rattle.ta_shelf.proofs.CallLemmas.{TurnsFrom}

-- bytes begin with others exactly where as many of their first ones are equal to them
pub begins_by : (b : Bool) (bytes first : List ℕ) → b ≡ bytes_eq (take (length first) bytes) first
    → MatchBool b (bytes ≡ first ++ drop (length first) bytes) ((rest : List ℕ) → bytes ≢ first ++ rest)
begins_by true bytes first is =
    let same : take (length first) bytes ≡ first = (bytes_eq-Decides (take (length first) bytes) first).0 (sym is) in
    sym (take-append-drop (length first) bytes) ∙ ap (λ (xs : List ℕ). xs ++ drop (length first) bytes) same
begins_by false bytes first is = λ rest whole.
    let same : take (length first) bytes ≡ first = ap (take (length first)) whole ∙ take-append_seam first rest in
    let yes : bytes_eq (take (length first) bytes) first ≡ true = (bytes_eq-Decides (take (length first) bytes) first).1 same in
    absurd (true≢false (sym yes ∙ sym is))

-- the next piece is that of the bytes
pub record NextPiece (bytes piece : List ℕ) (at : ℕ) : Type 0 where
  pub whole : take (at + length piece) bytes ≡ take at bytes ++ piece
  pub within : at + length piece ≤ length bytes

pub next_piece : (bytes piece : List ℕ) (at : ℕ) → at ≤ length bytes → drop at bytes ≡ piece ++ drop (length piece) (drop at bytes) → NextPiece bytes piece at
next_piece bytes piece at inside begins =
    let behind = drop at bytes in
    let first : take (length piece) behind ≡ piece = ap (take (length piece)) begins ∙ take-append_seam piece (drop (length piece) behind) in
    let left : length behind ≡ length piece + length (drop (length piece) behind) = ap length begins ∙ length-append piece (drop (length piece) behind) in
    record {
      whole = take-add at (length piece) bytes ∙ ap (λ (xs : List ℕ). take at bytes ++ xs) first;
      within = omega (arith, inside, left, length-drop at bytes);
    }

-- bytes whose later ones don't begin with a piece don't begin with what was read and it
pub unlike : (bytes piece : List ℕ) (at : ℕ) → ((rest : List ℕ) → drop at bytes ≢ piece ++ rest) → (rest : List ℕ) → bytes ≢ (take at bytes ++ piece) ++ rest
unlike bytes piece at differs rest whole =
    differs rest (append_cancel_left (take at bytes) (drop at bytes) (piece ++ rest)
    (take-append-drop at bytes ∙ whole ∙ append_assoc (take at bytes) piece rest))

-- calls that spell the first bytes as a whole file tell whether these are all
pub spelled : (name bytes : List ℕ) (at : ℕ) (calls : List Call) → at ≤ length bytes → Spells name calls (take at bytes)
    → ComparesBy name bytes (Ok (nat_eq at (length bytes))) calls
spelled name bytes at calls inside spells = decided (nat_eq at (length bytes)) (Decides-eqb at (length bytes))
  where
    decided : (b : Bool) → Decides b (at ≡ length bytes) → ComparesBy name bytes (Ok b) calls
    decided true is = let all : length bytes ≤ at = omega (arith, is.0 refl) in subst (Spells name calls) (take_all at bytes all) spells
    decided false is = inr (
      take at bytes,
      inl (
        spells,
        λ same.
            let size : length (take at bytes) ≡ at = length-take-le at bytes inside in
            absurd (true≢false (sym (is.1 (sym size ∙ ap length (sym same))))),
      ),
    )

-- calls that give a piece which differs tell that the file does
pub differs_by : (name bytes piece : List ℕ) (at : ℕ) (before after : List Event) → ((rest : List ℕ) → drop at bytes ≢ piece ++ rest)
    → TurnsFrom name 0 (take at bytes ++ piece) before after → Grew (ComparesBy name bytes (Ok false)) before after
differs_by name bytes piece at before after differs log = record {
  added = log.turns;
  grown = log.grown;
  such = inr (take at bytes ++ piece, inr (record { in_order = log.in_order; given = log.given }, unlike bytes piece at differs));
}
