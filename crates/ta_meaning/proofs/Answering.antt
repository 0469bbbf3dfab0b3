-- How the errors of parts make those of the whole: the first of them, or none.
use Rattle.ta_meaning.proofs.Common.{◌≡◌, Bool, true, false, List, [], ◌∷◌, ◌++◌, Result, Ok, Err, inl, inr, refl, sym, ap, subst, ◌∙◌, FileFault, where_}
use Rattle.ta_meaning.proofs.Common.{else_, First, FirstOrMemory, Judges, Answers, empty_before}

-- ---- where there are none
pub where-false : (test : Bool) (f : FileFault) → test ≡ false → where_ test f ≡ []
where-false false f e = refl
where-false true f e = cc

pub else-left-none : (a b : List FileFault) → a ≡ [] → else_ a b ≡ b
else-left-none [] b e = refl
else-left-none (f ∷ a) b e = cc

pub else-none : (a b : List FileFault) → a ≡ [] → b ≡ [] → else_ a b ≡ []
else-none a b e g = else-left-none a b e ∙ g

-- where the whole has none, no part has one
pub not-where : (test : Bool) (f : FileFault) → where_ test f ≡ [] → test ≡ false
not-where false f e = refl
not-where true f e = cc

pub none-else-left : (a b : List FileFault) → else_ a b ≡ [] → a ≡ []
none-else-left [] b e = refl
none-else-left (f ∷ a) b e = cc

pub none-else-right : (a b : List FileFault) → else_ a b ≡ [] → b ≡ []
none-else-right [] b e = e
none-else-right (f ∷ a) b e = cc

pub where-leads : (test : Bool) (f : FileFault) → test ≡ true → First (where_ test f) f
where-leads true f e = ([], refl)
where-leads false f e = cc

-- an error of the left part is the first of the whole
pub else-left-leads : (a b : List FileFault) (e : FileFault) → First a e → First (else_ a b) e
else-left-leads [] b e w = let h = w.1 in cc
else-left-leads (f ∷ a) b e w = w

pub append-left-leads : (a b : List FileFault) (e : FileFault) → First a e → First (a ++ b) e
append-left-leads a b e w = (w.0 ++ b, ap (λ (fs : List FileFault). fs ++ b) w.1)

-- where the left part has none, the first of the right part is the first of the whole
pub else-right-leads : (a b : List FileFault) (e : FileFault) → a ≡ [] → First b e → First (else_ a b) e
else-right-leads a b e none h = subst (λ (fs : List FileFault). First fs e) (sym (else-left-none a b none)) h

-- the same where memory may be wanted
first-through : (a b : List FileFault) (e : FileFault) → (First a e → First b e) → FirstOrMemory a e → FirstOrMemory b e
first-through a b e through (inl m) = inl m
first-through a b e through (inr w) = inr (through w)

pub where-first : (test : Bool) (f : FileFault) → test ≡ true → FirstOrMemory (where_ test f) f
where-first test f e = inr (where-leads test f e)

pub else-left-first : (a b : List FileFault) (e : FileFault) → FirstOrMemory a e → FirstOrMemory (else_ a b) e
else-left-first a b e h = first-through a (else_ a b) e (else-left-leads a b e) h

pub append-left-first : (a b : List FileFault) (e : FileFault) → FirstOrMemory a e → FirstOrMemory (a ++ b) e
append-left-first a b e h = first-through a (a ++ b) e (append-left-leads a b e) h

pub else-right-first : (a b : List FileFault) (e : FileFault) → a ≡ [] → FirstOrMemory b e → FirstOrMemory (else_ a b) e
else-right-first a b e none h = first-through b (else_ a b) e (else-right-leads a b e none) h

pub append-right-first : (a b : List FileFault) (e : FileFault) → a ≡ [] → FirstOrMemory b e → FirstOrMemory (a ++ b) e
append-right-first a b e none h = subst (λ (fs : List FileFault). FirstOrMemory fs e) (sym (empty_before a b none)) h

-- ---- answers

-- what takes no memory answers as what may want some
pub judges-answer : {X : Type 0} (faults : List FileFault) (IsRight : X → Type 0) (r : Result X FileFault) → Judges faults IsRight r → Answers faults IsRight r
judges-answer faults IsRight (Ok x) h = h
judges-answer faults IsRight (Err e) h = inr h

-- an answer to some errors is one to the same errors written otherwise, and what is right in one sense is right in another
pub judges-along : {X : Type 0} (a b : List FileFault) (P Q : X → Type 0) (r : Result X FileFault) → a ≡ b → ((x : X) → P x → Q x) → Judges a P r → Judges b Q r
judges-along a b P Q (Ok x) e f h = (sym e ∙ h.0, f x h.1)
judges-along a b P Q (Err d) e f h = (h.0, sym e ∙ h.1)

-- an answer to some errors is one to the same errors written otherwise
pub answers-along : {X : Type 0} (a b : List FileFault) (IsRight : X → Type 0) (r : Result X FileFault) → a ≡ b → Answers a IsRight r → Answers b IsRight r
answers-along a b IsRight r e h = subst (λ (fs : List FileFault). Answers fs IsRight r) e h

-- what is right in one sense is right in another where there are no errors
pub answers-knowing : {X : Type 0} (faults : List FileFault) (P Q : X → Type 0) (r : Result X FileFault) → ((x : X) → faults ≡ [] → P x → Q x)
    → Answers faults P r → Answers faults Q r
answers-knowing faults P Q (Ok x) f h = (h.0, f x h.0 h.1)
answers-knowing faults P Q (Err e) f h = h

pub answers-otherwise : {X : Type 0} (a b : List FileFault) (IsRight : X → Type 0) (r : Result X FileFault) → a ≡ [] → Answers b IsRight r
    → Answers (else_ a b) IsRight r
answers-otherwise a b IsRight r none h = answers-along b (else_ a b) IsRight r (sym (else-left-none a b none)) h
