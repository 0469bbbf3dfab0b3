-- The longest run of bytes that pass a test.
use Rattle.ta_syntax.proofs.Common.{◌≡◌, ℕ, List, [], ◌∷◌, take, drop, sym, is_ascii_digit, prefix_len, all_front, begins_word, front_is, IsLongest}
use Rattle.ta_syntax.proofs.Common.{BeginsByDigit, TokenFrom, IsDigits, mark_bytes, is_word, BeginsByLetter, Mark, take-append-drop, Fails, fails_after}
use Rattle.ta_syntax.specs.declared.tokens.Kind.TheVariants as kind

pub longest_name : (n : List ℕ) (xs : List ℕ) → Fails is_word xs → IsLongest (kind.Name n) xs
longest_name n [] h = tt
longest_name n (x ∷ xs) h = h

longest_number : (n : List ℕ) (xs : List ℕ) → Fails is_ascii_digit xs → IsLongest (kind.Number n) xs
longest_number n [] h = tt
longest_number n (x ∷ xs) h = h

is_digits : (bytes : List ℕ) → BeginsByDigit bytes → IsDigits (take (prefix_len is_ascii_digit bytes) bytes)
is_digits [] h = h
is_digits (b ∷ bs) h = rw (front_is is_ascii_digit b bs h) (h, all_front is_ascii_digit bs)

pub name_from : (bytes : List ℕ) → BeginsByLetter bytes → ((m : Mark) → mark_bytes m ≡ take (prefix_len is_word bytes) bytes → ⊥)
    → TokenFrom bytes (kind.Name (take (prefix_len is_word bytes) bytes)) (drop (prefix_len is_word bytes) bytes)
name_from bytes h free = record {
  split = sym (take-append-drop (prefix_len is_word bytes) bytes);
  is = record { first = begins_word bytes h; each = all_front is_word bytes; free = free };
  longest = longest_name (take (prefix_len is_word bytes) bytes) (drop (prefix_len is_word bytes) bytes) (fails_after is_word bytes);
}

pub number_from : (bytes : List ℕ) → BeginsByDigit bytes
    → TokenFrom bytes (kind.Number (take (prefix_len is_ascii_digit bytes) bytes)) (drop (prefix_len is_ascii_digit bytes) bytes)
number_from bytes h = record {
  split = sym (take-append-drop (prefix_len is_ascii_digit bytes) bytes);
  is = is_digits bytes h;
  longest = longest_number (take (prefix_len is_ascii_digit bytes) bytes) (drop (prefix_len is_ascii_digit bytes) bytes) (fails_after is_ascii_digit bytes);
}
