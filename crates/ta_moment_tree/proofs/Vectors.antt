-- vectors of the code
use Rattle.ta_moment_tree.proofs.Common.{◌≡◌, ◌≢◌, ◌∙◌, inl, inr, ℕ, pos, ◌+◌, ◌<◌, ◌≤◌, List, [], ◌∷◌, ◌++◌, length, get_or, drop, slice_get, Some, None}
use Rattle.ta_moment_tree.proofs.Common.{Option, arith, sym, ap, refl, cond_same, cond_apart, slice_get_past, AllByRecursion, drop_more, IfSome, MatchOption}
use Rattle.ta_moment_tree.proofs.Common.{option_map, option_copied, HoldsAt, Bor, get_map, length-map, slice_get_read, moment_of, moments_of, below_or_last}
use Rattle.ta_moment_tree.proofs.Common.{slice_get_before, Form, number_form, unknown_form, minus_form, plus_form, Vector, form_of, vector_of}
use Rattle.ta_moment_tree.specs.declared.moment.Moment.{Moment as Kept}
use Rattle.ta_base.proofs.Lists.{get_end}
unfoldable use Rattle.ta_moments.specs.Moments.{fresh}
use Rattle.ta_moment_tree.specs.Forms.{form_in}

-- vectors with the same forms are the same
pub vector_same : (v w : Vector) → ((r : ℕ) → v r ≡ w r) → v ≡ w
vector_same v w h = λ i r. h r i

pub fresh_here : (k q : ℕ) (qs : List ℕ) (other : Vector) (r : ℕ) → q ≡ r → fresh k (q ∷ qs) other r ≡ unknown_form k
unfolding fresh
fresh_here k q qs other r e = cond_same q r (unknown_form k) (fresh (k + 1) qs other r) e

pub fresh_past : (k q : ℕ) (qs : List ℕ) (other : Vector) (r : ℕ) → q ≢ r → fresh k (q ∷ qs) other r ≡ fresh (k + 1) qs other r
unfolding fresh
fresh_past k q qs other r e = cond_apart q r (unknown_form k) (fresh (k + 1) qs other r) e

pub fresh_none : (k : ℕ) (other : Vector) (r : ℕ) → fresh k [] other r ≡ other r
unfolding fresh
fresh_none k other r = refl

pub fresh_beyond : (k : ℕ) (qs : List ℕ) (other : Vector) (r n : ℕ) → AllByRecursion (λ q. q < n) qs → n ≤ r → fresh k qs other r ≡ other r
fresh_beyond k [] other r n h b = fresh_none k other r
fresh_beyond k (q ∷ qs) other r n h b =
    let apart : q ≢ r = (λ e. absurd (let same = e in let less = h.0 in omega arith)) in
    fresh_past k q qs other r apart ∙ fresh_beyond (k + 1) qs other r n h.1 b

pub fresh_at_place : (first : ℕ) (qs : List ℕ) (other : Vector) (r i : ℕ) → i < length qs → get_or qs i 0 ≡ r
    → fresh (first + i) (drop i qs) other r ≡ unknown_form (first + i)
fresh_at_place first qs other r i b e = ap (λ rest. fresh (first + i) rest other r) (drop_more qs i 0 b)
    ∙ fresh_here (first + i) (get_or qs i 0) (drop (i + 1) qs) other r e

pub fresh_next : (first : ℕ) (qs : List ℕ) (other : Vector) (r i : ℕ) → i < length qs → get_or qs i 0 ≢ r
    → fresh (first + i) (drop i qs) other r ≡ fresh (first + (i + 1)) (drop (i + 1) qs) other r
fresh_next first qs other r i b e =
    ap (λ rest. fresh (first + i) rest other r) (drop_more qs i 0 b) ∙ fresh_past (first + i) (get_or qs i 0) (drop (i + 1) qs) other r e
    ∙ ap (λ k. fresh k (drop (i + 1) qs) other r) (let k : first + i + 1 ≡ first + (i + 1) = omega arith in k)

-- forms that are written one after another
pub vector_past : (forms : List Form) (r : ℕ) → length forms ≤ r → vector_of forms r ≡ number_form (pos 0)
vector_past forms r b = ap form_in (slice_get_past forms r b)

pub vector_more : (forms : List Form) (form : Form) (v : Vector) (n : ℕ) → length forms ≡ n → ((r : ℕ) → r < n → vector_of forms r ≡ v r) → form_of form ≡ v n
    → (r : ℕ) → r < n + 1 → vector_of (forms ++ form ∷ []) r ≡ v r
vector_more forms form v n count old new r b = elim (below_or_last r n b) [
  | inl below ↦ ap form_in (slice_get_before forms (form ∷ []) r (omega arith)) ∙ old r below
  | inr last ↦ ap (vector_of (forms ++ form ∷ [])) last ∙ ap form_in (get_end forms form n count) ∙ new ∙ ap v (sym last)
]

pub nothing_less : minus_form (number_form (pos 0)) (number_form (pos 0)) ≡ number_form (pos 0)
nothing_less = refl

pub nothing_more : plus_form (number_form (pos 0)) (number_form (pos 0)) ≡ number_form (pos 0)
nothing_more = refl

-- the moment that is got
pub moment_got : (o : Option (Bor Kept)) (xs : List Kept) (i : ℕ) → IfSome o (λ x. x.now ≡ get_or xs i x.now)
    → MatchOption o (length xs ≤ i) (λ x. (i < length xs) × HoldsAt (λ y. x.now ≡ y) xs i)
    → option_map moment_of (option_copied o) ≡ slice_get (moments_of xs) i
moment_got None xs i h k = sym (slice_get_past (moments_of xs) i (let same = length-map xs moment_of in omega arith))
moment_got (Some x) xs i h k = sym (get_map moment_of xs i x.now (slice_get_read xs (length xs) i x.now refl k.0 h))
