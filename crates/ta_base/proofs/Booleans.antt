-- truth values: and, or, not, and choices by a test
use Rattle.ta_base.proofs.Common.{Bool, ◌&&◌, ◌≡◌, true, false, refl, ◌||◌, not, sym, ap, ◌∙◌, true≢false, ◌⊎◌, inl, inr, false≢true, implies, cases_Bool}
use Rattle.ta_base.proofs.Common.{same_from_decides, beq, or-false, or-true, and-true, not-not, OnTrue, true_from_ne_false, OnTrue_at, OnTrue_from, cond}
use Rattle.ta_base.proofs.Common.{Decides}
use Rattle.std.proofs.lemmas.Bool.Decides.{Decides-and, Decides-like}

pub implies-from : (x y : Bool) → (x ≡ true → y ≡ true) → implies x y ≡ true
implies-from true y h = h refl
implies-from false y h = refl

pub implies-at : (x y : Bool) → implies x y ≡ true → x ≡ true → y ≡ true
implies-at true y h e = h
implies-at false y h e = absurd (false≢true e)

-- a line that ended
pub place_is : (b d : Bool) → beq b d ≡ false → b ≡ not d
place_is true true n = absurd (false≢true (sym n))
place_is true false n = refl
place_is false true n = refl
place_is false false n = absurd (false≢true (sym n))

pub both_ways : (a b : Bool) → (a ≡ true → b ≡ true) → (b ≡ true → a ≡ true) → a ≡ b
both_ways a b f g = same_from_decides {P = a ≡ true} a b (λ e. e, λ e. e) (g, f)

pub both_or_neither : (a b : Bool) → (a ≡ false → b ≡ false) → (b ≡ false → a ≡ false) → a ≡ b
both_or_neither a b f g = both_ways a b (λ t. true_from_ne_false b (λ e. true≢false (sym t ∙ g e))) (λ t. true_from_ne_false a (λ e. true≢false (sym t ∙ f e)))

pub and_false : (x y : Bool) → (x && y) ≡ false → x ≡ true → y ≡ false
and_false x y e t = ap (λ b. b && y) (sym t) ∙ e

pub and_right : (x y : Bool) → y ≡ true → (x && y) ≡ x
and_right x y e = ap (λ b. x && b) e ∙ and-true x

-- what `x && y` gives where the code branches on x
pub and_then : (x y z : Bool) → x ≡ true → y ≡ z → y ≡ (x && z)
and_then x y z e f = f ∙ ap (λ b. b && z) (sym e)

pub either_way : (x y : Bool) → not (x && not y) ≡ (y || not x)
either_way true y = not-not y ∙ sym (or-false y)
either_way false y = sym (or-true y)

pub OnTrue-weaker : (b : Bool) (P Q : Type 0) → (P → Q) → OnTrue b P → OnTrue b Q
OnTrue-weaker b P Q f p = OnTrue_from b Q (λ e. f (OnTrue_at {P = P} e p))

pub same_or_not : (a b : Bool) → (a ≡ b) ⊎ (a ≡ b → ⊥)
same_or_not a true = elim (cases_Bool a) [ inl t ↦ inl t | inr f ↦ inr (λ t. true≢false (sym t ∙ f)) ]
same_or_not a false = elim (cases_Bool a) [ inl t ↦ inr (λ f. true≢false (sym t ∙ f)) | inr f ↦ inl f ]

-- a choice that isn't its other value
pub chosen : {X : Type 0} (b : Bool) (x y z : X) → cond b x y ≡ z → (y ≡ z → ⊥) → (b ≡ true) × (x ≡ z)
chosen true x y z e other = (refl, e)
chosen false x y z e other = absurd (other e)

pub not_chosen : {X : Type 0} (b : Bool) (x y z : X) → cond b x y ≡ z → (x ≡ z → ⊥) → (b ≡ false) × (y ≡ z)
not_chosen true x y z e other = absurd (other e)
not_chosen false x y z e other = (refl, e)

-- the first of two tests passed, by the value that was chosen
pub first_passed : {X : Type 0} (a b : Bool) (x y z : X) → cond a x (cond b y z) ≡ x → (y ≡ x → ⊥) → (z ≡ x → ⊥) → a ≡ true
first_passed a b x y z e second none = (chosen a x (cond b y z) x e (λ w. none (not_chosen b y z x w second).1)).0

-- a test of pairs, by tests of their parts
pub Decides-pair : {X Y : Type 0} (f : X → X → Bool) (g : Y → Y → Bool) → ((x y : X) → Decides (f x y) (x ≡ y)) → ((x y : Y) → Decides (g x y) (x ≡ y))
    → (p q : X × Y) → Decides (f p.0 q.0 && g p.1 q.1) (p ≡ q)
Decides-pair f g first second (x, c) (y, d) =
    Decides-like (f x y && g c d) (λ w. let e = w.0 in let h = w.1 in cc) (λ e. (ap (λ t. t.0) e, ap (λ t. t.1) e))
    (Decides-and (f x y) (g c d) (first x y) (second c d))

-- a test that isn't one value is the other
pub other_of : (a b v w : Bool) → (a ≡ b → ⊥) → b ≡ v → (a ≡ v) ⊎ (a ≡ w) → a ≡ w
other_of a b v w ne e (inl p) = absurd (ne (p ∙ sym e))
other_of a b v w ne e (inr q) = q
