-- what is left of a node that is cut
use Rattle.ta_moment_tree.proofs.Common.{◌≡◌, ◌∙◌, ℕ, List, [], ◌∷◌, ◌++◌, map, length, take, Option, arith, sym, ap, append_assoc, append-nil, take-append-le}
use Rattle.ta_moment_tree.proofs.Common.{take-length, Automaton, Pattern, IsBehind, Fact, Moment, UnknownForm, nodes_begin}
use Rattle.std.proofs.lemmas.List.{take-map}
use Rattle.ta_moments.specs.Moments.{known}

pub front_on : {X : Type 0} (one two three new : List X) → IsBehind one two → three ≡ two ++ new → IsBehind one three
front_on one two three new h e = record { more = h.more ++ new; is = e ∙ ap (λ xs. xs ++ new) h.is ∙ append_assoc one h.more new }

pub rows_front : (a : Automaton) (p : Pattern) (silent : List ℕ) (c : Option ℕ) (newer past : List Fact)
    → IsBehind (known a p silent c past).rows (known a p silent c (newer ++ past)).rows
rows_front a p silent c [] past = record { more = []; is = sym (append-nil _) }
rows_front a p silent c (fact ∷ newer) past =
    (let next = nodes_begin a p silent c (newer ++ past) fact in front_on _ _ _ next.new_rows (rows_front a p silent c newer past) next.rows)

pub moments_front : (a : Automaton) (p : Pattern) (silent : List ℕ) (c : Option ℕ) (newer past : List Fact)
    → IsBehind (known a p silent c past).moments (known a p silent c (newer ++ past)).moments
moments_front a p silent c [] past = record { more = []; is = sym (append-nil _) }
moments_front a p silent c (fact ∷ newer) past =
    (let next = nodes_begin a p silent c (newer ++ past) fact in front_on _ _ _ next.new_moments (moments_front a p silent c newer past) next.moments)

front_taken : {X Y : Type 0} (f : X → Y) (n : ℕ) (xs : List X) (less more : List Y) → IsBehind less more → map f xs ≡ more → n ≡ length less
    → map f (take n xs) ≡ less
front_taken f n xs less more h e m = sym (take-map f n xs) ∙ ap (take n) (e ∙ h.is) ∙ ap (λ k. take k (less ++ h.more)) m
    ∙ take-append-le (length less) less h.more (omega arith) ∙ take-length less

pub rows_taken : (a : Automaton) (p : Pattern) (silent : List ℕ) (c : Option ℕ) (newer past : List Fact) {X : Type 0} (f : X → UnknownForm) (n : ℕ)
    (xs : List X) → map f xs ≡ (known a p silent c (newer ++ past)).rows → n ≡ length (known a p silent c past).rows
    → map f (take n xs) ≡ (known a p silent c past).rows
rows_taken a p silent c newer past f n xs e m = front_taken f n xs _ _ (rows_front a p silent c newer past) e m

pub moments_taken : (a : Automaton) (p : Pattern) (silent : List ℕ) (c : Option ℕ) (newer past : List Fact) {X : Type 0} (f : X → Moment) (n : ℕ) (xs : List X)
    → map f xs ≡ (known a p silent c (newer ++ past)).moments → n ≡ length (known a p silent c past).moments
    → map f (take n xs) ≡ (known a p silent c past).moments
moments_taken a p silent c newer past f n xs e m = front_taken f n xs _ _ (moments_front a p silent c newer past) e m
