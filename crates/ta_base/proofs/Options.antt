-- options and results
use Rattle.ta_base.proofs.Common.{Result, IfOk, Ok, Err, Option, ℕ, IfNone, None, Some, IfSome, ℤ, ◌≡◌, SomeIff, ◌∙◌, ◌⊎◌, inl, refl, inr, ◌<◌, IsSomeAnd}
use Rattle.ta_base.proofs.Common.{is_some, false, true≢false, option_map, arith, suc, Bool, cond, true, List, [], ◌∷◌, ◌++◌, slice_get, same_Some, none-some}
use Rattle.ta_base.proofs.Common.{◌&&◌, ◌||◌, sym, if◌then◌else◌}
use Rattle.ta_base.proofs.Lists.{push_cases}
use Rattle.std.specs.Option.{unwrap_or}
use Rattle.std.specs.Prelude.{option_and_then}

pub if_ok_then : {T E A B : Type 0} (r : Result T E) → (A → B) → IfOk r (λ x. A) → IfOk r (λ x. B)
if_ok_then (Ok x) f p = f p
if_ok_then (Err e) f p = tt

pub none_weaker : {P Q : Type 0} (first : Option ℕ) → (P → Q) → IfNone first P → IfNone first Q
none_weaker None f h = f h
none_weaker (Some k) f h = h

pub SomeIff-same : (o : Option ℤ) (P Q : Type 0) (v w : ℤ) → (P → Q) → (Q → P) → v ≡ w → SomeIff o P v → SomeIff o Q w
SomeIff-same None P Q v w f g e s = λ q. s (g q)
SomeIff-same (Some x) P Q v w f g e s = (f s.0, s.1 ∙ e)

pub none_or_some : {X : Type 0} (o : Option X) → (o ≡ None) ⊎ ((x : X) × (o ≡ Some x))
none_or_some None = inl refl
none_or_some (Some k) = inr (k, refl)

pub some_below : (o : Option ℕ) (n : ℕ) → ((j : ℕ) → o ≡ Some j → j < n) → IfSome o (λ k. k < n)
some_below None n h = tt
some_below (Some j) n h = h j refl

pub is_some-map : {A : Type 0} (o : Option A) (P Q : A → Type 0) → ((x : A) → P x → Q x) → IsSomeAnd o P → IsSomeAnd o Q
is_some-map None P Q f p = p
is_some-map (Some x) P Q f p = f x p

pub none_of : {X : Type 0} (o : Option X) → is_some o ≡ false → o ≡ None
none_of None e = refl
none_of (Some x) e = absurd (true≢false e)

-- it stands in the body
pub below_if : (n p : ℕ) (t : Bool) (o : Option ℕ) → ((q : ℕ) → o ≡ Some q → q < n) → cond t (Some 0) (option_map suc o) ≡ Some p → p < suc n
below_if n p true o below e = let same = same_Some 0 p e in omega arith
below_if n p false None below e = absurd (cc)
below_if n p false (Some q) below e = let same = same_Some (suc q) p e in let low = below q refl in omega arith

-- an empty place behind others is none of those with a value
pub none_behind : {X : Type 0} (xs : List (Option X)) (place : ℕ) (x : X) → slice_get (xs ++ None ∷ []) place ≡ Some (Some x)
    → slice_get xs place ≡ Some (Some x)
none_behind xs place x at = elim (push_cases xs None place (Some x) at) [ inl h ↦ h.1 | inr h ↦ absurd (none-some x h.1) ]

-- a value and a list of values, where there are both
pub some_more : {X : Type 0} (o : Option X) (more : Option (List X))
    → is_some (option_and_then (λ (x : X). option_map (λ xs. x ∷ xs) more) o) ≡ (is_some o && is_some more)
some_more None more = refl
some_more (Some x) None = refl
some_more (Some x) (Some xs) = refl

-- a value by a test, or else another's
pub some_by : {X : Type 0} (b : Bool) (x : X) (o : Option X) → is_some (cond b (Some x) o) ≡ (b || is_some o)
some_by true x o = refl
some_by false x o = refl

pub value_by : {X : Type 0} (b : Bool) (x y : X) (o : Option X) → b ≡ false → is_some (cond b (Some x) o) ≡ true → (is_some o ≡ true → unwrap_or o x ≡ y)
    → y ≡ unwrap_or (cond b (Some x) o) x
value_by true x y o e some same = absurd (cc)
value_by false x y o e some same = sym (same some)

-- what is only there by a test
pub some_where : {X : Type 0} (b : Bool) (o : Option X) (x : X) → (if b then o else None) ≡ Some x → (b ≡ true) × (o ≡ Some x)
some_where true o x e = (refl, e)
some_where false o x e = absurd (cc)
