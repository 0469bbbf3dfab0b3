-- Two lists of stated offsets that are placed on the same tokens, and what they say of parts that come one after another.
use Rattle.ta_meaning.proofs.Common.{◌≡◌, ℕ, List, [], ◌∷◌, ◌++◌, map, refl, sym, ap, subst, ◌∙◌, append_assoc, AllByRecursion, empty-not, heads, tails}
use Rattle.ta_meaning.proofs.Common.{further, listed, led, ended, each, Offsets, unplaced, at_first, IsPlaced, Mark, Token, Pairwise}
use Rattle.ta_meaning.proofs.StartedParts.{Starts}

-- all that both state of a token is one number
pub record SameAt (x y : Offsets) : Type 0 where
  pub at : ℕ
  pub left : AllByRecursion (λ a. a ≡ at) x
  pub right : AllByRecursion (λ a. a ≡ at) y

-- token by token, all that both state is one number
abbrev pub Agree : List Offsets → List Offsets → Type 0
Agree [] [] = Unit {0}
Agree [] (y ∷ ys) = ⊥
Agree (x ∷ xs) [] = ⊥
Agree (x ∷ xs) (y ∷ ys) = SameAt x y × Agree xs ys

pub placed-agree : (xs ys : List Offsets) (ts : List Token) → IsPlaced xs ts → IsPlaced ys ts → Agree xs ys
placed-agree [] [] ts h k = tt
placed-agree [] (y ∷ ys) [] h k = k
placed-agree [] (y ∷ ys) (t ∷ ts) h k = h
placed-agree (x ∷ xs) [] [] h k = h
placed-agree (x ∷ xs) [] (t ∷ ts) h k = k
placed-agree (x ∷ xs) (y ∷ ys) [] h k = absurd h
placed-agree (x ∷ xs) (y ∷ ys) (t ∷ ts) h k = (record { at = t.at; left = h.0; right = k.0 }, placed-agree xs ys ts h.1 k.1)

-- the first offsets that both state of a token are equal
pub same-first : (a b : ℕ) (x y : Offsets) → SameAt (a ∷ x) (b ∷ y) → a ≡ b
same-first a b x y h = h.left.0 ∙ sym h.right.0

pub same-second : (a b c d : ℕ) (x y : Offsets) → SameAt (a ∷ c ∷ x) (b ∷ d ∷ y) → c ≡ d
same-second a b c d x y h = h.left.1.0 ∙ sym h.right.1.0

pub agree-left : (a b x c : List Offsets) → Agree ((a ++ b) ++ x) c → Agree (a ++ (b ++ x)) c
agree-left a b x c h = subst (λ (z : List Offsets). Agree z c) (append_assoc a b x) h

pub agree-right : (c a b x : List Offsets) → Agree c ((a ++ b) ++ x) → Agree c (a ++ (b ++ x))
agree-right c a b x h = subst (λ (z : List Offsets). Agree c z) (append_assoc a b x) h

pub agree-both : (a b x c d y : List Offsets) → Agree ((a ++ b) ++ x) ((c ++ d) ++ y) → Agree (a ++ (b ++ x)) (c ++ (d ++ y))
agree-both a b x c d y h = agree-left a b x (c ++ (d ++ y)) (agree-right ((a ++ b) ++ x) c d y h)

-- ---- an offset of the first token

-- the offset of the first token, and what is stated of the tokens without it
pub record FirstThen (a b : ℕ) (p q : List Offsets) : Type 0 where
  pub first : a ≡ b
  pub others : Agree p q

pub at_first-agree : (a b : ℕ) (p q x y : List Offsets) → Starts p → Starts q → Agree (at_first a p ++ x) (at_first b q ++ y) → FirstThen a b (p ++ x) (q ++ y)
at_first-agree a b [] q x y s t h = absurd s
at_first-agree a b (z ∷ p) [] x y s t h = absurd t
at_first-agree a b (z ∷ p) (w ∷ q) x y s t h =
    let here = h.0 in
    record { first = same-first a b z w here; others = (record { at = here.at; left = here.left.1; right = here.right.1 }, h.1) }

-- ---- lists of parts

-- Parts that are the same without offsets, and whose offsets agree, are the same, and what is stated behind them agrees.
pub record IsOnce {A P : Type 0} (plain : A → P) (stated : A → List Offsets) (Same : A → A → Type 0) : Type 0 where
  pub once : (a b : A) (x y : List Offsets) → plain a ≡ plain b → Agree (stated a ++ x) (stated b ++ y) → Same a b × Agree x y

pub further-once : {A P : Type 0} (plain : A → P) (stated : A → List Offsets) (Same : A → A → Type 0) → IsOnce plain stated Same
    → (firsts seconds : List A) (x y : List Offsets) → map plain firsts ≡ map plain seconds
    → Agree (further unplaced stated firsts ++ x) (further unplaced stated seconds ++ y) → Pairwise Same firsts seconds × Agree x y
further-once plain stated Same o [] [] x y e h = (tt, h)
further-once plain stated Same o [] (b ∷ seconds) x y e h = absurd (empty-not (plain b) (map plain seconds) e)
further-once plain stated Same o (a ∷ firsts) [] x y e h = absurd (empty-not (plain a) (map plain firsts) (sym e))
further-once plain stated Same o (a ∷ firsts) (b ∷ seconds) x y e h =
    let first = o.once a b (further unplaced stated firsts ++ x) (further unplaced stated seconds ++ y)
    (heads (plain a) (plain b) (map plain firsts) (map plain seconds) e)
    (agree-both (stated a) (further unplaced stated firsts) x (stated b) (further unplaced stated seconds) y h.1) in
    let others = further-once plain stated Same o firsts seconds x y (tails (plain a) (plain b) (map plain firsts) (map plain seconds) e) first.1 in
    ((first.0, others.0), others.1)

pub listed-once : {A P : Type 0} (plain : A → P) (stated : A → List Offsets) (Same : A → A → Type 0) → IsOnce plain stated Same
    → (firsts seconds : List A) (x y : List Offsets) → map plain firsts ≡ map plain seconds
    → Agree (listed unplaced stated firsts ++ x) (listed unplaced stated seconds ++ y) → Pairwise Same firsts seconds × Agree x y
listed-once plain stated Same o [] [] x y e h = (tt, h)
listed-once plain stated Same o [] (b ∷ seconds) x y e h = absurd (empty-not (plain b) (map plain seconds) e)
listed-once plain stated Same o (a ∷ firsts) [] x y e h = absurd (empty-not (plain a) (map plain firsts) (sym e))
listed-once plain stated Same o (a ∷ firsts) (b ∷ seconds) x y e h =
    let first = o.once a b (further unplaced stated firsts ++ x) (further unplaced stated seconds ++ y)
    (heads (plain a) (plain b) (map plain firsts) (map plain seconds) e)
    (agree-both (stated a) (further unplaced stated firsts) x (stated b) (further unplaced stated seconds) y h) in
    let others = further-once plain stated Same o firsts seconds x y (tails (plain a) (plain b) (map plain firsts) (map plain seconds) e) first.1 in
    ((first.0, others.0), others.1)

pub led-once : {A P : Type 0} (m : Mark) (plain : A → P) (stated : A → List Offsets) (Same : A → A → Type 0) → IsOnce plain stated Same
    → (firsts seconds : List A) (x y : List Offsets) → map plain firsts ≡ map plain seconds
    → Agree (led unplaced m stated firsts ++ x) (led unplaced m stated seconds ++ y) → Pairwise Same firsts seconds × Agree x y
led-once m plain stated Same o [] [] x y e h = (tt, h)
led-once m plain stated Same o [] (b ∷ seconds) x y e h = absurd (empty-not (plain b) (map plain seconds) e)
led-once m plain stated Same o (a ∷ firsts) [] x y e h = absurd (empty-not (plain a) (map plain firsts) (sym e))
led-once m plain stated Same o (a ∷ firsts) (b ∷ seconds) x y e h = listed-once plain stated Same o (a ∷ firsts) (b ∷ seconds) x y e h.1

pub ended-once : {A P : Type 0} (m : Mark) (plain : A → P) (stated : A → List Offsets) (Same : A → A → Type 0) → IsOnce plain stated Same
    → (firsts seconds : List A) (x y : List Offsets) → map plain firsts ≡ map plain seconds
    → Agree (ended unplaced m stated firsts ++ x) (ended unplaced m stated seconds ++ y) → Pairwise Same firsts seconds × Agree x y
ended-once m plain stated Same o [] [] x y e h = (tt, h)
ended-once m plain stated Same o [] (b ∷ seconds) x y e h = absurd (empty-not (plain b) (map plain seconds) e)
ended-once m plain stated Same o (a ∷ firsts) [] x y e h = absurd (empty-not (plain a) (map plain firsts) (sym e))
ended-once m plain stated Same o (a ∷ firsts) (b ∷ seconds) x y e h =
    let all = listed-once plain stated Same o (a ∷ firsts) (b ∷ seconds) ([] ∷ x) ([] ∷ y) e
    (agree-both (listed unplaced stated (a ∷ firsts)) ([] ∷ []) x (listed unplaced stated (b ∷ seconds)) ([] ∷ []) y h.1) in
    (all.0, all.1.1)

pub each-once : {A P : Type 0} (plain : A → P) (stated : A → List Offsets) (Same : A → A → Type 0) → IsOnce plain stated Same
    → (firsts seconds : List A) (x y : List Offsets) → map plain firsts ≡ map plain seconds → Agree (each stated firsts ++ x) (each stated seconds ++ y)
    → Pairwise Same firsts seconds × Agree x y
each-once plain stated Same o [] [] x y e h = (tt, h)
each-once plain stated Same o [] (b ∷ seconds) x y e h = absurd (empty-not (plain b) (map plain seconds) e)
each-once plain stated Same o (a ∷ firsts) [] x y e h = absurd (empty-not (plain a) (map plain firsts) (sym e))
each-once plain stated Same o (a ∷ firsts) (b ∷ seconds) x y e h =
    let first = o.once a b (each stated firsts ++ x) (each stated seconds ++ y) (heads (plain a) (plain b) (map plain firsts) (map plain seconds) e)
    (agree-both (stated a) (each stated firsts) x (stated b) (each stated seconds) y h) in
    let others = each-once plain stated Same o firsts seconds x y (tails (plain a) (plain b) (map plain firsts) (map plain seconds) e) first.1 in
    ((first.0, others.0), others.1)

-- what is stated of a list whose items state the same
pub further-stated : {A : Type 0} (stated : A → List Offsets) (Same : A → A → Type 0) → ((a b : A) → Same a b → stated a ≡ stated b) → (firsts seconds : List A)
    → Pairwise Same firsts seconds → further unplaced stated firsts ≡ further unplaced stated seconds
further-stated stated Same s [] [] h = refl
further-stated stated Same s [] (b ∷ seconds) h = absurd h
further-stated stated Same s (a ∷ firsts) [] h = absurd h
further-stated stated Same s (a ∷ firsts) (b ∷ seconds) h = ap (λ (z : List Offsets). [] ∷ (z ++ further unplaced stated firsts)) (s a b h.0)
    ∙ ap (λ (z : List Offsets). [] ∷ (stated b ++ z)) (further-stated stated Same s firsts seconds h.1)

pub listed-stated : {A : Type 0} (stated : A → List Offsets) (Same : A → A → Type 0) → ((a b : A) → Same a b → stated a ≡ stated b) → (firsts seconds : List A)
    → Pairwise Same firsts seconds → listed unplaced stated firsts ≡ listed unplaced stated seconds
listed-stated stated Same s [] [] h = refl
listed-stated stated Same s [] (b ∷ seconds) h = absurd h
listed-stated stated Same s (a ∷ firsts) [] h = absurd h
listed-stated stated Same s (a ∷ firsts) (b ∷ seconds) h = ap (λ (z : List Offsets). z ++ further unplaced stated firsts) (s a b h.0)
    ∙ ap (λ (z : List Offsets). stated b ++ z) (further-stated stated Same s firsts seconds h.1)

pub led-stated : {A : Type 0} (m : Mark) (stated : A → List Offsets) (Same : A → A → Type 0) → ((a b : A) → Same a b → stated a ≡ stated b)
    → (firsts seconds : List A) → Pairwise Same firsts seconds → led unplaced m stated firsts ≡ led unplaced m stated seconds
led-stated m stated Same s [] [] h = refl
led-stated m stated Same s [] (b ∷ seconds) h = absurd h
led-stated m stated Same s (a ∷ firsts) [] h = absurd h
led-stated m stated Same s (a ∷ firsts) (b ∷ seconds) h = ap (λ (z : List Offsets). [] ∷ z) (listed-stated stated Same s (a ∷ firsts) (b ∷ seconds) h)

pub ended-stated : {A : Type 0} (m : Mark) (stated : A → List Offsets) (Same : A → A → Type 0) → ((a b : A) → Same a b → stated a ≡ stated b)
    → (firsts seconds : List A) → Pairwise Same firsts seconds → ended unplaced m stated firsts ≡ ended unplaced m stated seconds
ended-stated m stated Same s [] [] h = refl
ended-stated m stated Same s [] (b ∷ seconds) h = absurd h
ended-stated m stated Same s (a ∷ firsts) [] h = absurd h
ended-stated m stated Same s (a ∷ firsts) (b ∷ seconds) h = ap (λ (z : List Offsets). [] ∷ (z ++ [] ∷ []))
    (listed-stated stated Same s (a ∷ firsts) (b ∷ seconds) h)

pub each-stated : {A : Type 0} (stated : A → List Offsets) (Same : A → A → Type 0) → ((a b : A) → Same a b → stated a ≡ stated b) → (firsts seconds : List A)
    → Pairwise Same firsts seconds → each stated firsts ≡ each stated seconds
each-stated stated Same s [] [] h = refl
each-stated stated Same s [] (b ∷ seconds) h = absurd h
each-stated stated Same s (a ∷ firsts) [] h = absurd h
each-stated stated Same s (a ∷ firsts) (b ∷ seconds) h = ap (λ (z : List Offsets). z ++ each stated firsts) (s a b h.0)
    ∙ ap (λ (z : List Offsets). stated b ++ z) (each-stated stated Same s firsts seconds h.1)
