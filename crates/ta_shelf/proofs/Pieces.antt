-- pieces that are written one after the other
use Rattle.ta_shelf.proofs.Common.{take-length, with_text}
use Rattle.ta_shelf.proofs.ShellCommon.{◌≡◌, ◌∙◌, ◌≤◌, ◌<◌, ◌+◌, ℕ, suc, List, [], ◌∷◌, ◌++◌, length, take, drop, get_or, Option, Err, refl, sym, ap, inl, inr}
use Rattle.ta_shelf.proofs.ShellCommon.{arith, append_assoc, length-append, add-one, drop-cons, append-nil, take-append-le, Calm, SinkState, Tells, piece_text}
use Rattle.ta_shelf.proofs.ShellCommon.{pieces_text, SinkFaltered as SinkFailed}
use Rattle.std.proofs.Math.Seq.{drop-length, take-append-add}
use Rattle.ta_shelf.proofs.WrittenSoFar.{with_text-append}
use Rattle.ta_shelf.specs.WriteWhole.{AddsPrefix, AddsWhole, HasCause}
use Rattle.ta_shelf.specs.declared.fault.SinkFault.{SinkFault}
use Rattle.ta_shelf.specs.declared.fault.SinkFault.TheVariants.{Failed, Stuck}
use Rattle.ta_shelf.specs.declared.phrase.Piece.{Piece}

-- so many pieces were written whole
pub record Written (pieces : List Piece) (index : ℕ) (before now : SinkState) : Type 0 where
  pub done : List ℕ
  pub split : pieces_text pieces ≡ done ++ pieces_text (drop index pieces)
  pub added : now.written ≡ with_text before.written done
  pub calm : Calm before now

-- the next piece is the first of the rest
split_next : (pieces : List Piece) (index : ℕ) (other : Piece) (done : List ℕ) → index < length pieces → pieces_text pieces ≡ done
    ++ pieces_text (drop index pieces) → pieces_text pieces ≡ (done ++ piece_text (get_or pieces index other)) ++ pieces_text (drop (index + 1) pieces)
split_next pieces index other done below split =
    let piece : Piece = get_or pieces index other in
    let next : drop index pieces ≡ piece ∷ drop (suc index) pieces = drop-cons pieces index other below in
    split ∙ ap (λ (ps : List Piece). done ++ pieces_text ps) next ∙ sym (append_assoc done (piece_text piece) (pieces_text (drop (suc index) pieces)))
    ∙ rw add-one refl

pub written_more : (pieces : List Piece) (index : ℕ) (other : Piece) (before now next : SinkState) → Written pieces index before now → index < length pieces
    → next.written ≡ with_text now.written (piece_text (get_or pieces index other)) → Calm now next → Written pieces (index + 1) before next
written_more pieces index other before now next w below added calm =
    let piece : Piece = get_or pieces index other in
    record {
      done = w.done ++ piece_text piece;
      split = split_next pieces index other w.done below w.split;
      added = added ∙ ap (λ (o : Option (List ℕ)). with_text o (piece_text piece)) w.added ∙ with_text-append before.written w.done (piece_text piece);
      calm = (calm.0 ∙ w.calm.0, calm.1 ∙ w.calm.1);
    }

-- a prefix of a piece is a prefix of the line
prefix_more : (line done piece rest : List ℕ) (before now next : Option (List ℕ)) → line ≡ (done ++ piece) ++ rest → now ≡ with_text before done
    → AddsPrefix piece now next → AddsPrefix line before next
prefix_more line done piece rest before now next split added prefix =
    let count = prefix.count in
    let within : count ≤ length piece = prefix.within in
    let long : length line ≡ (length done + length piece) + length rest = ap length split ∙ length-append (done ++ piece) rest
    ∙ ap (λ (n : ℕ). n + length rest) (length-append done piece) in
    let taken : take (length done + count) line ≡ done ++ take count piece =
    ap (take (length done + count)) (split ∙ append_assoc done piece rest) ∙ take-append-add done (piece ++ rest) count
    ∙ ap (λ (t : List ℕ). done ++ t) (take-append-le count piece rest within) in
    record {
      count = length done + count;
      within = omega arith;
      added = prefix.added ∙ ap (λ (o : Option (List ℕ)). with_text o (take count piece)) added ∙ with_text-append before done (take count piece)
          ∙ ap (with_text before) (sym taken);
    }

-- a refused write added a prefix
prefix_of : (e : SinkFault) (piece : List ℕ) (now next : Option (List ℕ)) → AddsWhole (Err e) piece now next → AddsPrefix piece now next
prefix_of Failed piece now next h = h
prefix_of (Stuck at) piece now next h = (let below = h.0 in record { count = at; within = omega arith; added = h.1 })

-- and the sink failed or stood still
failed_of : (e : SinkFault) (before now next : SinkState) → Calm before now → HasCause (Err e) now.faults next.faults now.stalls next.stalls
    → SinkFailed before next
failed_of Failed before now next calm h = inl (rw (← calm.0) h.0)
failed_of (Stuck at) before now next calm h = inr (rw (← calm.1) h.1)

-- the line is cut in a piece
pub tells_cut : (pieces : List Piece) (index : ℕ) (other : Piece) (before now next : SinkState) (e : SinkFault) → Written pieces index before now
    → index < length pieces → AddsWhole (Err e) (piece_text (get_or pieces index other)) now.written next.written
    → HasCause (Err e) now.faults next.faults now.stalls next.stalls → Tells (pieces_text pieces) before next
tells_cut pieces index other before now next e w below adds cause =
    let piece : Piece = get_or pieces index other in
    record {
      begun = prefix_more (pieces_text pieces) w.done (piece_text piece) (pieces_text (drop (index + 1) pieces)) before.written now.written next.written
          (split_next pieces index other w.done below w.split) w.added (prefix_of e (piece_text piece) now.written next.written adds);
      whole = inr (failed_of e before now next w.calm cause);
    }

-- the line is whole
pub tells_whole : (pieces : List Piece) (index : ℕ) (before now : SinkState) → Written pieces index before now → length pieces ≤ index → index ≤ length pieces
    → Tells (pieces_text pieces) before now
tells_whole pieces index before now w past within =
    let end : index ≡ length pieces = omega arith in
    let none : drop index pieces ≡ [] = ap (λ (n : ℕ). drop n pieces) end ∙ drop-length pieces in
    let all : pieces_text pieces ≡ w.done = w.split ∙ ap (λ (ps : List Piece). w.done ++ pieces_text ps) none ∙ append-nil w.done in
    let added : now.written ≡ with_text before.written (pieces_text pieces) = w.added ∙ ap (with_text before.written) (sym all) in
    record {
      begun = record {
        count = length (pieces_text pieces);
        within = omega arith;
        added = added
            ∙ ap (with_text before.written) (sym (take-length (pieces_text pieces)));
      };
      whole = inl added;
    }
