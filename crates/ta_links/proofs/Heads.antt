-- Heads of lines, and the cell behind a gap
use Rattle.ta_links.proofs.Common.{◌≡◌, ◌≢◌, ◌⊎◌, inl, inr, ℕ, ◌<◌, List, length, ◌∙◌, refl, Option, Some, None, get_or-set_same, get_or-set_other, length-set}
use Rattle.ta_links.proofs.Common.{Cell, head_at, IsLive, Direction, line_at, IsChained, headed, following, MayBefore}

pub headed_new : (heads : List (Option ℕ)) (before : Option ℕ) (line : ℕ) (to : Option ℕ) → line < length heads → before ≡ None
    → head_at (headed heads before line to) line ≡ to
headed_new heads None line to inside e = get_or-set_same heads line to None inside
headed_new heads (Some k) line to inside e = absurd (cc)

pub headed_rest : (heads : List (Option ℕ)) (before : Option ℕ) (line : ℕ) (to : Option ℕ) (q : ℕ) → (q ≢ line) ⊎ (before ≢ None)
    → head_at (headed heads before line to) q ≡ head_at heads q
headed_rest heads None line to q apart = elim apart [ inl ne ↦ get_or-set_other heads line q to None ne | inr some ↦ absurd (some refl) ]
headed_rest heads (Some k) line to q apart = refl

pub headed_long : (heads : List (Option ℕ)) (before : Option ℕ) (line : ℕ) (to : Option ℕ) → length (headed heads before line to) ≡ length heads
headed_long heads None line to = length-set heads line to
headed_long heads (Some k) line to = refl

-- the cell behind a gap is a live one of the line
pub following_live : (way : Direction) (cells : List Cell) (heads : List (Option ℕ)) (line place : ℕ) (before : Option ℕ) → IsChained way cells heads
    → MayBefore way cells line place before →
    (j : ℕ) → following way cells heads line before ≡ Some j → IsLive cells j × (line_at way cells j ≡ line)
following_live way cells heads line place None chained may j e = let first = chained.first line j e in (first.live, first.here)
following_live way cells heads line place (Some h) chained may j e =
    let m = may h refl in
    let f = chained.next h j m.live e in
    (f.live, f.here ∙ m.here)
