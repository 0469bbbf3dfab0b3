-- facts in the order in which they were added, and the newest first
use Rattle.ta_moment_tree.proofs.Common.{◌≡◌, ◌∙◌, ℕ, Bool, true, false, ◌&&◌, not, List, [], ◌∷◌, ◌++◌, drop, reverse, take, refl, sym, ap, reverse-append}
use Rattle.ta_moment_tree.proofs.Common.{take-append-drop, Fact, Question, is_open, question_of, same_question}
use Rattle.std.proofs.lemmas.Grind.{reverse_onto}

and_three : (x y z : Bool) → (x && (y && z)) ≡ ((x && y) && z)
and_three true y z = refl
and_three false y z = refl

and_turned : (x y : Bool) → (x && (y && true)) ≡ (y && x)
and_turned true true = refl
and_turned true false = refl
and_turned false true = refl
and_turned false false = refl

open_both : (xs ys : List Fact) (q : Question) → is_open (xs ++ ys) q ≡ (is_open xs q && is_open ys q)
open_both [] ys q = refl
open_both (x ∷ xs) ys q = ap (λ b. not (same_question (question_of x) q) && b) (open_both xs ys q)
    ∙ and_three (not (same_question (question_of x) q)) (is_open xs q) (is_open ys q)

-- the order doesn't count where it is asked whether a question is open
pub open_reversed : (xs : List Fact) (q : Question) → is_open (reverse xs) q ≡ is_open xs q
open_reversed [] q = refl
open_reversed (x ∷ xs) q =
    ap (λ (ys : List Fact). is_open ys q) (reverse_onto xs x [])
    ∙ open_both (reverse xs) (x ∷ []) q
    ∙ ap (λ b. b && (not (same_question (question_of x) q) && true)) (open_reversed xs q)
    ∙ and_turned (is_open xs q) (not (same_question (question_of x) q))

-- the first facts are the oldest
pub reverse_parts : (xs : List Fact) (i : ℕ) → reverse xs ≡ reverse (drop i xs) ++ reverse (take i xs)
reverse_parts xs i = ap reverse (sym (take-append-drop i xs)) ∙ reverse-append (take i xs) (drop i xs)
