-- the last mark so far
use Rattle.ta_compress.proofs.Common.{◌≡◌, ◌⊎◌, inl, inr, ℕ, ◌+◌, ◌<◌, ◌≤◌, List, length, arith, sym, ap, ◌∙◌, refl, slice_get, Some, cases_lt, same_Some}
use Rattle.ta_compress.proofs.Common.{slice_get_within, RunLine, Step, Mark, MarksAt, EndsAtLastMark}

-- n lines end with the last mark of the first i lines
pub record LastSoFar (lines : List RunLine) (i n : ℕ) : Type 0 where
  pub ends : (n ≡ 0) ⊎ ((j e : ℕ) × (n ≡ j + 1) × MarksAt lines j e)
  pub behind : (j e : ℕ) → n ≤ j → j < i → MarksAt lines j e → ⊥

pub last_none : (lines : List RunLine) → LastSoFar lines 0 0
last_none lines = record { ends = inl refl; behind = λ j e b less at. omega arith }

pub last_next : (lines : List RunLine) (i n next : ℕ) (line : RunLine) → LastSoFar lines i n → slice_get lines i ≡ Some line
    → ((e : ℕ) → line ≡ Mark e → next ≡ i + 1) → (((e : ℕ) → line ≡ Mark e → ⊥) → next ≡ n) → LastSoFar lines (i + 1) next
last_next lines i n next (Mark x) l at marked other =
    let is = marked x refl in
    record { ends = inr (i, x, is, at); behind = λ j e b less there. omega arith }
last_next lines i n next (Step r k) l at marked other =
    let is = other (λ e same. absurd (cc)) in
    record {
      ends = elim l.ends [ inl none ↦ inl (is ∙ none) | inr w ↦ inr (w.0, w.1, is ∙ w.2, w.3) ];
      behind = λ j e b less there. elim (cases_lt j i) [
        | inl before ↦ l.behind j e (omega arith) before there
        | inr here ↦ (
            let same : j ≡ i = omega arith in
            let item : Step r k ≡ Mark e = same_Some (Step r k) (Mark e) (sym at ∙ ap (slice_get lines) (sym same) ∙ there) in
            absurd (cc))
      ];
    }

pub last_all : (lines : List RunLine) (i n : ℕ) → length lines ≤ i → LastSoFar lines i n → EndsAtLastMark lines n
last_all lines i n enough l = record {
  within = elim l.ends [ inl none ↦ omega arith | inr w ↦ (let b = slice_get_within lines w.0 (Mark w.1) w.3 in let e = w.2 in omega arith) ];
  ends = l.ends;
  behind = λ j e b at. l.behind j e b (let w = slice_get_within lines j (Mark e) at in omega arith) at;
}
