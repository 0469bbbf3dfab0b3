-- numbers that pass a test, one after another
use Rattle.ta_words.proofs.Common.{◌≡◌, ℕ, ◌+◌, ◌<◌, ◌≤◌, List, [], ◌∷◌, ◌++◌, length, map, get_or, Bool, true, false, not, ◌&&◌, arith, sym, ap, ◌∙◌, filter}
use Rattle.ta_words.proofs.Common.{one_longer, Pattern, has_bit, all_below, implies, range_with_len, IsSeen, Seen, has_event, is_ready, Element, append-nil}
use Rattle.ta_automaton.specs.declared.pattern.Event.{Event as PatternEvent}
use Rattle.ta_base.proofs.Ranges.{pushed_passed, left_unpassed}
use Rattle.ta_base.proofs.Lists.{read_same}

-- a list with what passes among n numbers from k on
abbrev pub with_passed : (ℕ → Element) → (ℕ → Bool) → List Element → ℕ → ℕ → List Element
with_passed f test before k n = before ++ map f (filter test (range_with_len k n))

-- a list that is longer by what passes among n numbers from k on, whatever word has these masks
pub record Pushed (f : ℕ → Element) (test : ℕ → List Element → ℕ → Bool) (seen : Seen) (before now : List Element) (k n : ℕ) : Type 0 where
  pub passed : (start : ℕ) (past : List Element) → IsSeen seen start past → now ≡ with_passed f (test start past) before k n
  pub room : length now ≤ length before + n

pub none_pushed : (f : ℕ → Element) (test : ℕ → List Element → ℕ → Bool) (seen : Seen) (before : List Element) (k : ℕ) → Pushed f test seen before before k 0
none_pushed f test seen before k = record { passed = λ start past is. sym (append-nil before); room = omega arith }

pub push_passed : (f : ℕ → Element) (test : ℕ → List Element → ℕ → Bool) (seen : Seen) (before now after : List Element) (k n x : ℕ) (r : Bool)
    → Pushed f test seen before now k n → x ≡ k + n
    → ((start : ℕ) (past : List Element) → IsSeen seen start past → r ≡ test start past x) → r ≡ true → after ≡ now ++ f x ∷ []
    → Pushed f test seen before after k (n + 1)
push_passed f test seen before now after k n x r h same told t e = record {
  passed = λ start past is. pushed_passed f (test start past) before now after k n (ap (test start past) (sym same) ∙ sym (told start past is) ∙ t)
      (h.passed start past is) (e ∙ ap (λ y. now ++ f y ∷ []) same);
  room = omega (arith, one_longer now after (f x) e, h.room);
}

pub pass_over : (f : ℕ → Element) (test : ℕ → List Element → ℕ → Bool) (seen : Seen) (before now after : List Element) (k n x : ℕ) (r : Bool)
    → Pushed f test seen before now k n → x ≡ k + n
    → ((start : ℕ) (past : List Element) → IsSeen seen start past → r ≡ test start past x) → r ≡ false → after ≡ now → Pushed f test seen before after k (n + 1)
pass_over f test seen before now after k n x r h same told t e = record {
  passed = λ start past is. left_unpassed f (test start past) before now after k n (ap (test start past) (sym same) ∙ sym (told start past is) ∙ t)
      (h.passed start past is) e;
  room = omega (arith, ap length e, h.room);
}

pub ready_at : (p : Pattern) (past : List Element) (items : List PatternEvent) (e : ℕ) (event : PatternEvent) (r : Bool) → items ≡ p.events → e < length items
    → event ≡ get_or items e event
    → r ≡ (not (has_event past e) && all_below (length p.events) (λ f. implies (has_bit event.after f) (has_event past f)))
    → r ≡ is_ready p past e
ready_at p past items e event r same within is told = rw (read_same p.events items e event same within is) told
