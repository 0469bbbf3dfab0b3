-- What the parser reads and where it stops, for every grammar in which one token of lookahead suffices.
use Rattle.ta_syntax.proofs.Common.{refl, ap, sym, subst, eqb-true, ◌==◌, ◌≡◌, ◌∙◌, ◌+◌, ◌≤◌, ◌⊎◌, inl, inr, ℕ, zero, suc, Bool, true, false, cond, List, []}
use Rattle.ta_syntax.proofs.Common.{◌∷◌, length, arith, Ok, Err, IsKind, kinds, Kind, Token, Class, code, has, stands, joined, Stop, wrong, many, deep}
use Rattle.ta_syntax.proofs.Common.{Production, nothing, one, both, choose, repeat, barred, Parsed, followed_by, turns, parse, nullable, first}

-- ---- the texts of a production: `ks` begins with one, and `w` is left

abbrev pub One : Class → List Kind → List Kind → Type 0
One c [] w = ⊥
One c (k ∷ ks) w = IsKind k × (has c (code k) ≡ true) × (ks ≡ w)

abbrev pub Turns : (List Kind → List Kind → Type 0) → ℕ → List Kind → List Kind → Type 0
Turns R zero ks w = ks ≡ w
Turns R (suc n) ks w = (mid : List Kind) × R ks mid × Turns R n mid w

-- free: whether what is past a limit is a text, too
abbrev pub Spans : Bool → Production → List Kind → List Kind → Type 0
Spans free nothing ks w = ks ≡ w
Spans free (one c) ks w = One c ks w
Spans free (both a b) ks w = (mid : List Kind) × Spans free a ks mid × Spans free b mid w
Spans free (choose c a b) ks w = Spans free a ks w ⊎ Spans free b ks w
Spans free (repeat c a) ks w = (n : ℕ) × Turns (Spans free a) n ks w
Spans free (barred s c g) ks w = (free ≡ true) × (n : ℕ) × Spans free (g n) ks w

-- ---- one token of lookahead suffices, where tokens of a class may follow

abbrev pub inside : Class → Class → Bool
inside [] c = true
inside (x ∷ xs) c = cond (has c x) (inside xs c) false

abbrev pub apart : Class → Class → Bool
apart [] c = true
apart (x ∷ xs) c = cond (has c x) false (apart xs c)

abbrev pub follow : Production → Class → Class
follow b f = joined (first b) (cond (nullable b) f [])

abbrev pub is_limit : Stop → Bool
is_limit wrong = false
is_limit many = true
is_limit deep = true

abbrev pub Ready : Production → Class → Type 0
Ready nothing f = Unit {0}
Ready (one c) f = Unit {0}
Ready (both a b) f = Ready a (follow b f) × Ready b f
Ready (choose c a b) f = Ready a f × Ready b f × (nullable a ≡ false) × (inside (first a) c ≡ true) × (apart c (follow b f) ≡ true)
Ready (repeat c a) f = Ready a (joined c f) × (nullable a ≡ false) × (inside (first a) c ≡ true) × (apart c f ≡ true)
Ready (barred s c g) f = (is_limit s ≡ true) × ((n : ℕ) → Ready (g n) f × (nullable (g n) ≡ false) × (inside (first (g n)) c ≡ true))

abbrev pub starts : Class → List Kind → Bool
starts c [] = false
starts c (k ∷ ks) = has c (code k)

-- what is left is nothing, or begins with a token of the class
abbrev pub Follows : Class → List Kind → Type 0
Follows f [] = Unit {0}
Follows f (k ∷ ks) = has f (code k) ≡ true

-- ---- classes

pub false_true : false ≡ true → ⊥
false_true e = cc

or_more : (b x y : Bool) → (x ≡ true → y ≡ true) → cond b true x ≡ true → cond b true y ≡ true
or_more true x y f h = refl
or_more false x y f h = f h

or_right : (b x : Bool) → x ≡ true → cond b true x ≡ true
or_right true x h = refl
or_right false x h = h

pub and_both : (b x : Bool) → cond b x false ≡ true → (b ≡ true) × (x ≡ true)
and_both true x h = (refl, h)
and_both false x h = cc

and_not : (b x : Bool) → cond b false x ≡ true → (b ≡ false) × (x ≡ true)
and_not true x h = cc
and_not false x h = (refl, h)

-- what holds of x, and of n if it is in the rest
has_here : (x n : ℕ) (b : Bool) (P : ℕ → Type 0) → P x → (b ≡ true → P n) → cond (n == x) true b ≡ true → P n
has_here x n b P here rest h = by_test (n == x) refl h
  where
    by_test : (t : Bool) → n == x ≡ t → cond t true b ≡ true → P n
    by_test true e h = subst P (sym (eqb-true n x e)) here
    by_test false e h = rest h

has_left : (xs ys : Class) (n : ℕ) → has xs n ≡ true → has (joined xs ys) n ≡ true
has_left [] ys n h = cc
has_left (x ∷ xs) ys n h = or_more (n == x) (has xs n) (has (joined xs ys) n) (has_left xs ys n) h

starts_left : (xs ys : Class) (ks : List Kind) → starts xs ks ≡ true → starts (joined xs ys) ks ≡ true
starts_left xs ys [] h = cc
starts_left xs ys (k ∷ ks) h = has_left xs ys (code k) h

has_right : (xs ys : Class) (n : ℕ) → has ys n ≡ true → has (joined xs ys) n ≡ true
has_right [] ys n h = h
has_right (x ∷ xs) ys n h = or_right (n == x) (has (joined xs ys) n) (has_right xs ys n h)

starts_right : (xs ys : Class) (ks : List Kind) → starts ys ks ≡ true → starts (joined xs ys) ks ≡ true
starts_right xs ys [] h = cc
starts_right xs ys (k ∷ ks) h = has_right xs ys (code k) h

pub has_inside : (xs ys : Class) (n : ℕ) → inside xs ys ≡ true → has xs n ≡ true → has ys n ≡ true
has_inside [] ys n i h = cc
has_inside (x ∷ xs) ys n i h = let j = and_both (has ys x) (inside xs ys) i in has_here x n (has xs n) (λ z. has ys z ≡ true) j.0 (has_inside xs ys n j.1) h

starts_inside : (xs ys : Class) (ks : List Kind) → inside xs ys ≡ true → starts xs ks ≡ true → starts ys ks ≡ true
starts_inside xs ys [] i h = cc
starts_inside xs ys (k ∷ ks) i h = has_inside xs ys (code k) i h

has_apart : (xs ys : Class) (n : ℕ) → apart xs ys ≡ true → has xs n ≡ true → has ys n ≡ true → ⊥
has_apart [] ys n i h g = cc
has_apart (x ∷ xs) ys n i h g = let j = and_not (has ys x) (apart xs ys) i in has_here x n (has xs n) (λ z. has ys z ≡ true → ⊥) (λ y. cc)
    (λ y z. has_apart xs ys n j.1 y z) h g

-- what is of a class does not follow in another
apart_follows : (xs f : Class) (ks : List Kind) → apart xs f ≡ true → starts xs ks ≡ true → Follows f ks → ⊥
apart_follows xs f [] i h g = cc
apart_follows xs f (k ∷ ks) i h g = has_apart xs f (code k) i h g

starts_follows : (f : Class) (ks : List Kind) → starts f ks ≡ true → Follows f ks
starts_follows f [] h = tt
starts_follows f (k ∷ ks) h = h

follows_right : (xs f : Class) (ks : List Kind) → Follows f ks → Follows (joined xs f) ks
follows_right xs f [] h = tt
follows_right xs f (k ∷ ks) h = has_right xs f (code k) h

-- ---- how a text of a production begins

abbrev pub Begins : Production → List Kind → List Kind → Type 0
Begins g ks w = (starts (first g) ks ≡ true) ⊎ ((ks ≡ w) × (nullable g ≡ true))

begins_both : (a b : Production) (ks mid w : List Kind) → Begins a ks mid → Begins b mid w → Begins (both a b) ks w
begins_both a b ks mid w (inl h) h2 = inl (starts_left (first a) (cond (nullable a) (first b) []) ks h)
begins_both a b ks mid w (inr (e, n)) (inl h) = inl (starts_right (first a) (cond (nullable a) (first b) []) ks (rw (n, e) h))
begins_both a b ks mid w (inr (e, n)) (inr (e2, n2)) = inr (e ∙ e2, rw n n2)

begins_first : (c : Class) (a b : Production) (ks w : List Kind) → Begins a ks w → Begins (choose c a b) ks w
begins_first c a b ks w (inl h) = inl (starts_left (first a) (first b) ks h)
begins_first c a b ks w (inr (e, n)) = inr (e, rw n refl)

begins_second : (c : Class) (a b : Production) (ks w : List Kind) → nullable a ≡ false → Begins b ks w → Begins (choose c a b) ks w
begins_second c a b ks w not (inl h) = inl (starts_right (first a) (first b) ks h)
begins_second c a b ks w not (inr (e, n)) = inr (e, rw not n)

-- of what has no empty text
begins_by : (g : Production) (ks w : List Kind) → nullable g ≡ false → Begins g ks w → starts (first g) ks ≡ true
begins_by g ks w not (inl h) = h
begins_by g ks w not (inr (e, n)) = absurd (false_true (sym not ∙ n))

pub begins : (v : Bool) (g : Production) (f : Class) (ks w : List Kind) → Ready g f → Spans v g ks w → Begins g ks w
begins v nothing f ks w r s = inr (s, refl)
begins v (one c) f [] w r s = absurd s
begins v (one c) f (k ∷ ks) w r s = inl s.1
begins v (both a b) f ks w r (mid, s, t) = begins_both a b ks mid w (begins v a (follow b f) ks mid r.0 s) (begins v b f mid w r.1 t)
begins v (choose c a b) f ks w r (inl s) = begins_first c a b ks w (begins v a f ks w r.0 s)
begins v (choose c a b) f ks w r (inr s) = begins_second c a b ks w r.2 (begins v b f ks w r.1 s)
begins v (repeat c a) f ks w r (zero, s) = inr (s, refl)
begins v (repeat c a) f ks w r (suc n, (mid, s, t)) = inl (begins_by a ks mid r.1 (begins v a (joined c f) ks mid r.0 s))
begins v (barred s c g) f ks w r (e, n, t) = let q = r.1 n in inl
    (starts_inside (first (g n)) c ks q.2 (begins_by (g n) ks w q.1 (begins v (g n) f ks w q.0 t)))

pub follows : (v : Bool) (b : Production) (f : Class) (ks w : List Kind) → Ready b f → Spans v b ks w → Follows f w → Follows (follow b f) ks
follows v b f ks w r s h = follows_case (begins v b f ks w r s)
  where
    follows_case : Begins b ks w → Follows (follow b f) ks
    follows_case (inl g) = starts_follows (follow b f) ks (starts_left (first b) (cond (nullable b) f []) ks g)
    follows_case (inr (e, n)) = follows_right (first b) (cond (nullable b) f []) ks (rw (n, e) h)

-- ---- a text that agrees with the tokens goes on as they were parsed

-- up to the last `n` tokens, and with the first of these
abbrev pub Agrees : ℕ → List Token → List Kind → Type 0
Agrees n [] ks = ks ≡ []
Agrees n (t ∷ ts) [] = ⊥
Agrees n (t ∷ ts) (k ∷ ks) = (t.kind ≡ k) × (n ≤ length ts → Agrees n ts ks)

abbrev pub left : Parsed → List Token
left (Ok rest) = rest
left (Err e) = e.1

abbrev pub Goes : Bool → ℕ → List Kind → Parsed → Type 0
Goes v n w (Ok rest) = Agrees n rest w
Goes v n w (Err (wrong, bad)) = ⊥
Goes v n w (Err (many, bad)) = v ≡ true
Goes v n w (Err (deep, bad)) = v ≡ true

agrees_stands : (n : ℕ) (c : Class) (ts : List Token) (ks : List Kind) → Agrees n ts ks → stands c ts ≡ starts c ks
agrees_stands n c [] [] a = refl
agrees_stands n c [] (k ∷ ks) a = cc
agrees_stands n c (t ∷ ts) [] a = absurd a
agrees_stands n c (t ∷ ts) (k ∷ ks) a = ap (λ (z : Kind). has c (code z)) a.0

-- ---- parsing takes tokens from the front

abbrev at_least_one : Bool → ℕ
at_least_one true = 0
at_least_one false = 1

-- how many tokens are taken at least
abbrev eaten : Production → Parsed → ℕ
eaten g (Ok rest) = at_least_one (nullable g)
eaten g (Err e) = 0

abbrev Shorter : Production → List Token → Parsed → Type 0
Shorter g ts r = length (left r) + eaten g r ≤ length ts

least_both : (x y : Bool) → at_least_one (cond x y false) ≤ at_least_one x + at_least_one y
least_both true y = omega arith
least_both false y = omega arith

least_choose : (x y : Bool) → (at_least_one (cond x true y) ≤ at_least_one x) × (at_least_one (cond x true y) ≤ at_least_one y)
least_choose true y = (omega arith, omega arith)
least_choose false true = (omega arith, omega arith)
least_choose false false = (omega arith, omega arith)

shorter_then : (a b : Production) (ts mid : List Token) (r : Parsed) → Shorter b mid r → length mid + at_least_one (nullable a) ≤ length ts
    → Shorter (both a b) ts r
shorter_then a b ts mid (Ok rest) h g = omega (arith, least_both (nullable a) (nullable b))
shorter_then a b ts mid (Err e) h g = omega arith

shorter_both : (a b : Production) (ts : List Token) (r : Parsed) → ((mid : List Token) → Shorter b mid (parse b mid)) → Shorter a ts r
    → Shorter (both a b) ts (followed_by (parse b) r)
shorter_both a b ts (Err e) h g = g
shorter_both a b ts (Ok mid) h g = shorter_then a b ts mid (parse b mid) (h mid) g

shorter_first : (c : Class) (a b : Production) (ts : List Token) (r : Parsed) → Shorter a ts r → Shorter (choose c a b) ts r
shorter_first c a b ts (Ok rest) h = let l = least_choose (nullable a) (nullable b) in omega (arith, l.0)
shorter_first c a b ts (Err e) h = h

shorter_second : (c : Class) (a b : Production) (ts : List Token) (r : Parsed) → Shorter b ts r → Shorter (choose c a b) ts r
shorter_second c a b ts (Ok rest) h = let l = least_choose (nullable a) (nullable b) in omega (arith, l.1)
shorter_second c a b ts (Err e) h = h

shorter_choose : (s : Bool) (c : Class) (a b : Production) (ts : List Token) → Shorter a ts (parse a ts) → Shorter b ts (parse b ts)
    → Shorter (choose c a b) ts (cond s (parse a ts) (parse b ts))
shorter_choose true c a b ts h g = shorter_first c a b ts (parse a ts) h
shorter_choose false c a b ts h g = shorter_second c a b ts (parse b ts) g

shorter_turn : (c : Class) (a : Production) (s : Bool) (next : List Token → Parsed) (ts : List Token) (r : Parsed)
    → ((rest : List Token) → length (left (next rest)) ≤ length rest)
    → Shorter a ts r → length (left (cond s (followed_by next r) (Ok ts))) ≤ length ts
shorter_turn c a false next ts r h g = omega arith
shorter_turn c a true next ts (Ok rest) h g = omega (arith, h rest)
shorter_turn c a true next ts (Err e) h g = omega arith

shorter_turns : (c : Class) (a : Production) → ((ts : List Token) → Shorter a ts (parse a ts)) → (ts fuel : List Token)
    → length (left (turns (parse a) c ts fuel)) ≤ length ts
shorter_turns c a h ts [] = omega arith
shorter_turns c a h ts (x ∷ fuel) = shorter_turn c a (stands c ts) (λ rest. turns (parse a) c rest fuel) ts (parse a ts) (λ rest. shorter_turns c a h rest fuel)
    (h ts)

shorter_repeat : (c : Class) (a : Production) (ts : List Token) (r : Parsed) → length (left r) ≤ length ts → Shorter (repeat c a) ts r
shorter_repeat c a ts (Ok rest) h = omega arith
shorter_repeat c a ts (Err e) h = omega arith

shorter_one : (c : Class) (t : Token) (ts : List Token) (s : Bool) → Shorter (one c) (t ∷ ts) (cond s (Ok ts) (Err (wrong, t ∷ ts)))
shorter_one c t ts true = omega arith
shorter_one c t ts false = omega arith

pub shorter : (g : Production) (ts : List Token) → Shorter g ts (parse g ts)
shorter nothing ts = omega arith
shorter (one c) [] = omega arith
shorter (one c) (t ∷ ts) = shorter_one c t ts (has c (code t.kind))
shorter (both a b) ts = shorter_both a b ts (parse a ts) (shorter b) (shorter a ts)
shorter (choose c a b) ts = shorter_choose (stands c ts) c a b ts (shorter a ts) (shorter b ts)
shorter (repeat c a) ts = shorter_repeat c a ts (turns (parse a) c ts ts) (shorter_turns c a (shorter a) ts ts)
shorter (barred s c g) ts = omega arith

no_longer : (g : Production) (ts : List Token) (r : Parsed) → Shorter g ts r → length (left r) ≤ length ts
no_longer g ts (Ok rest) h = omega arith
no_longer g ts (Err e) h = omega arith

-- ---- what was parsed is what stands, and a wrong token is wrong in every text

abbrev pub GoesOn : Bool → ℕ → List Kind → Parsed → Type 0
GoesOn v n w r = n ≤ length (left r) → Goes v n w r

goes_one : (v : Bool) (n : ℕ) (c : Class) (t : Token) (ts : List Token) (k : Kind) (ks : List Kind) (s : Bool) → has c (code t.kind) ≡ s
    → Agrees n (t ∷ ts) (k ∷ ks)
    → has c (code k) ≡ true → GoesOn v n ks (cond s (Ok ts) (Err (wrong, t ∷ ts)))
goes_one v n c t ts k ks true e a h = a.1
goes_one v n c t ts k ks false e a h = absurd (false_true (sym e ∙ ap (λ (z : Kind). has c (code z)) a.0 ∙ h))

goes_then : (v : Bool) (n : ℕ) (a : Production) (next : List Token → Parsed) (ts : List Token) (us w : List Kind) (r : Parsed)
    → ((mid : List Token) → length (left (next mid)) ≤ length mid) → Shorter a ts r → GoesOn v n us r
    → ((mid : List Token) → length mid + at_least_one (nullable a) ≤ length ts → Agrees n mid us → GoesOn v n w (next mid)) → GoesOn v n w (followed_by next r)
goes_then v n a next ts us w (Ok mid) short less h more le = more mid less (h (omega (arith, short mid))) le
goes_then v n a next ts us w (Err (wrong, bad)) short less h more le = h le
goes_then v n a next ts us w (Err (many, bad)) short less h more le = h le
goes_then v n a next ts us w (Err (deep, bad)) short less h more le = h le

goes_choose : (v : Bool) (n : ℕ) (c : Class) (a b : Production) (ts : List Token) (w : List Kind) (s : Bool) → stands c ts ≡ s
    → (stands c ts ≡ true → GoesOn v n w (parse a ts))
    → (stands c ts ≡ false → GoesOn v n w (parse b ts)) → GoesOn v n w (cond s (parse a ts) (parse b ts))
goes_choose v n c a b ts w true e f g = f e
goes_choose v n c a b ts w false e f g = g e

-- of a production without an empty text, all of whose texts begin with a token of the class
starts_by : (v : Bool) (n : ℕ) (c : Class) (a : Production) (f : Class) (ts : List Token) (us w : List Kind) → Ready a f → nullable a ≡ false
    → inside (first a) c ≡ true
    → Agrees n ts us → Spans v a us w → stands c ts ≡ true
starts_by v n c a f ts us w r not i g s = agrees_stands n c ts us g ∙ starts_inside (first a) c us i (begins_by a us w not (begins v a f us w r s))

-- what follows does not begin with a token of the class
stands_not : (n : ℕ) (c f : Class) (ts : List Token) (us : List Kind) → apart c f ≡ true → Agrees n ts us → Follows f us → stands c ts ≡ true → ⊥
stands_not n c f ts us p g h e = apart_follows c f us p (sym (agrees_stands n c ts us g) ∙ e) h

turns_follow : (v : Bool) (c : Class) (a : Production) (f : Class) (k : ℕ) (us w : List Kind) → Ready (repeat c a) f → Turns (Spans v a) k us w → Follows f w
    → Follows (joined c f) us
turns_follow v c a f zero us w r s h = subst (Follows (joined c f)) (sym s) (follows_right c f w h)
turns_follow v c a f (suc k) us w r (mid, s, t) h =
    starts_follows (joined c f) us (starts_left c f us (starts_inside (first a) c us r.2 (begins_by a us mid r.1 (begins v a (joined c f) us mid r.0 s))))

goes_barred : (v : Bool) (n : ℕ) (s : Stop) (ts : List Token) (w : List Kind) (b : Bool) → v ≡ true → is_limit s ≡ true → b ≡ true
    → Goes v n w (Err (cond b s wrong, ts))
goes_barred v n s ts w false u l e = absurd (false_true e)
goes_barred v n wrong ts w true u l e = absurd (false_true l)
goes_barred v n many ts w true u l e = u
goes_barred v n deep ts w true u l e = u

goes_turn : (v : Bool) (n : ℕ) (w : List Kind) (ts : List Token) (go : Parsed) (s : Bool) → (s ≡ true → GoesOn v n w go) → (s ≡ false → Agrees n ts w)
    → GoesOn v n w (cond s go (Ok ts))
goes_turn v n w ts go true f g = f refl
goes_turn v n w ts go false f g = λ le. g refl

module _ (v : Bool) (n : ℕ) (c : Class) (a : Production) (f : Class) (r : Ready (repeat c a) f)
    (step : (ts : List Token) (us w : List Kind) → Agrees n ts us → Spans v a us w → Follows (joined c f) w → GoesOn v n w (parse a ts)) where
  goes_turns : (ts fuel : List Token) (k : ℕ) (us w : List Kind) → length ts ≤ length fuel → Agrees n ts us → Turns (Spans v a) k us w → Follows f w
      → GoesOn v n w (turns (parse a) c ts fuel)
  goes_turns [] [] zero us w l g s h = λ le. subst (Agrees n []) s g
  goes_turns [] [] (suc k) us w l g (mid, s, t) h = absurd (false_true (starts_by v n c a (joined c f) [] us mid r.0 r.1 r.2 g s))
  goes_turns (t ∷ ts) [] k us w l g s h = absurd (omega arith)
  goes_turns ts (x ∷ fuel) zero us w l g s h = goes_turn v n w ts (followed_by (λ rest. turns (parse a) c rest fuel) (parse a ts)) (stands c ts)
      (λ e. absurd (stands_not n c f ts us r.3 g (subst (Follows f) (sym s) h) e)) (λ e. subst (Agrees n ts) s g)
  goes_turns ts (x ∷ fuel) (suc k) us w l g (mid, s, t) h = goes_turn v n w ts (followed_by (λ rest. turns (parse a) c rest fuel) (parse a ts)) (stands c ts)
      (λ e. goes_then v n a (λ rest. turns (parse a) c rest fuel) ts mid w (parse a ts) (λ rest. shorter_turns c a (shorter a) rest fuel) (shorter a ts)
      (step ts us mid g s (turns_follow v c a f k mid w r t h))
      (λ rest less ag. goes_turns rest fuel k mid w (omega (arith, ap at_least_one r.1)) ag t h))
      (λ e. absurd (false_true (sym e ∙ starts_by v n c a (joined c f) ts us mid r.0 r.1 r.2 g s)))

pub goes : (v : Bool) (g : Production) (f : Class) (n : ℕ) (ts : List Token) (us w : List Kind) → Ready g f → Agrees n ts us → Spans v g us w → Follows f w
    → GoesOn v n w (parse g ts)
goes v nothing f n ts us w r g s h = λ le. subst (Agrees n ts) s g
goes v (one c) f n [] [] w r g s h = absurd s
goes v (one c) f n [] (k ∷ ks) w r g s h = cc
goes v (one c) f n (t ∷ ts) [] w r g s h = absurd g
goes v (one c) f n (t ∷ ts) (k ∷ ks) w r g s h = goes_one v n c t ts k w (has c (code t.kind)) refl (subst (λ (z : List Kind). Agrees n (t ∷ ts) (k ∷ z)) s.2 g)
    s.1
goes v (both a b) f n ts us w r g (mid, s, t) h = goes_then v n a (parse b) ts mid w (parse a ts) (λ m. no_longer b m (parse b m) (shorter b m)) (shorter a ts)
    (goes v a (follow b f) n ts us mid r.0 g s (follows v b f mid w r.1 t h)) (λ m less ag. goes v b f n m mid w r.1 ag t h)
goes v (choose c a b) f n ts us w r g (inl s) h = goes_choose v n c a b ts w (stands c ts) refl (λ e. goes v a f n ts us w r.0 g s h)
    (λ e. absurd (false_true (sym e ∙ starts_by v n c a f ts us w r.0 r.2 r.3 g s)))
goes v (choose c a b) f n ts us w r g (inr s) h = goes_choose v n c a b ts w (stands c ts) refl
    (λ e. absurd (stands_not n c (follow b f) ts us r.4 g (follows v b f us w r.1 s h) e)) (λ e. goes v b f n ts us w r.1 g s h)
goes v (repeat c a) f n ts us w r g (k, s) h = goes_turns v n c a f r (λ x y z. goes v a (joined c f) n x y z r.0) ts ts k us w (omega arith) g s h
goes v (barred s c p) f n ts us w r g (u, k, t) h =
    λ le. goes_barred v n s ts w (stands c ts) u r.0 (let q = r.1 k in starts_by v n c (p k) f ts us w q.0 q.1 q.2 g t)

-- ---- turns, one by one

fuel_turn : (c : Class) (a : Production) (ts : List Token) (s : Bool) (f g : List Token → Parsed) (r : Parsed) → Shorter a ts r
    → ((rest : List Token) → length rest + at_least_one (nullable a) ≤ length ts → f rest ≡ g rest)
    → cond s (followed_by f r) (Ok ts) ≡ cond s (followed_by g r) (Ok ts)
fuel_turn c a ts false f g r less same = refl
fuel_turn c a ts true f g (Err e) less same = refl
fuel_turn c a ts true f g (Ok rest) less same = same rest less

turns_fuel : (c : Class) (a : Production) → nullable a ≡ false → (ts x y : List Token) → length ts ≤ length x → length ts ≤ length y
    → turns (parse a) c ts x ≡ turns (parse a) c ts y
turns_fuel c a not [] [] [] l k = refl
turns_fuel c a not [] [] (u ∷ y) l k = refl
turns_fuel c a not [] (u ∷ x) [] l k = refl
turns_fuel c a not (t ∷ ts) [] y l k = absurd (omega arith)
turns_fuel c a not (t ∷ ts) (u ∷ x) [] l k = absurd (omega arith)
turns_fuel c a not ts (u ∷ x) (v ∷ y) l k = fuel_turn c a ts (stands c ts) (λ rest. turns (parse a) c rest x) (λ rest. turns (parse a) c rest y) (parse a ts)
    (shorter a ts) (λ rest less. turns_fuel c a not rest x y (omega (arith, ap at_least_one not)) (omega (arith, ap at_least_one not)))

pub repeat_again : (c : Class) (a : Production) (ts : List Token) → nullable a ≡ false → stands c ts ≡ true
    → parse (repeat c a) ts ≡ parse (both a (repeat c a)) ts
repeat_again c a [] not e = absurd (false_true e)
repeat_again c a (t ∷ ts) not e =
    ap (λ (z : Bool). cond z (followed_by (λ rest. turns (parse a) c rest ts) (parse a (t ∷ ts))) (Ok (t ∷ ts))) e
    ∙ fuel_turn c a (t ∷ ts) true (λ rest. turns (parse a) c rest ts) (λ rest. turns (parse a) c rest rest) (parse a (t ∷ ts)) (shorter a (t ∷ ts))
    (λ rest less. turns_fuel c a not rest ts rest (omega (arith, ap at_least_one not)) (omega arith))

pub repeat_ends : (c : Class) (a : Production) (ts : List Token) → stands c ts ≡ false → parse (repeat c a) ts ≡ Ok ts
repeat_ends c a [] e = refl
repeat_ends c a (t ∷ ts) e = ap (λ (z : Bool). cond z (followed_by (λ rest. turns (parse a) c rest ts) (parse a (t ∷ ts))) (Ok (t ∷ ts))) e

-- ---- what was read is a text within the limits

abbrev pub IsRead : Production → List Token → Parsed → Type 0
IsRead g ts (Ok rest) = Spans false g (kinds ts) (kinds rest)
IsRead g ts (Err e) = Unit {0}

read_then : (a b : Production) (ts : List Token) (r : Parsed) → IsRead a ts r → ((mid : List Token) → IsRead b mid (parse b mid))
    → IsRead (both a b) ts (followed_by (parse b) r)
read_then a b ts (Err e) h g = tt
read_then a b ts (Ok mid) h g = read_second (parse b mid) (g mid)
  where
    read_second : (r : Parsed) → IsRead b mid r → IsRead (both a b) ts r
    read_second (Ok rest) x = (kinds mid, h, x)
    read_second (Err e) x = tt

read_choose : (c : Class) (a b : Production) (ts : List Token) (s : Bool) → IsRead a ts (parse a ts) → IsRead b ts (parse b ts)
    → IsRead (choose c a b) ts (cond s (parse a ts) (parse b ts))
read_choose c a b ts true x y = read_one (parse a ts) x
  where
    read_one : (r : Parsed) → IsRead a ts r → IsRead (choose c a b) ts r
    read_one (Ok rest) x = inl x
    read_one (Err e) x = tt
read_choose c a b ts false x y = read_other (parse b ts) y
  where
    read_other : (r : Parsed) → IsRead b ts r → IsRead (choose c a b) ts r
    read_other (Ok rest) x = inr x
    read_other (Err e) x = tt

read_turn : (c : Class) (a : Production) (ts : List Token) (s : Bool) (next : List Token → Parsed) (r : Parsed) → IsRead a ts r
    → ((mid : List Token) → IsRead (repeat c a) mid (next mid)) → IsRead (repeat c a) ts (cond s (followed_by next r) (Ok ts))
read_turn c a ts false next r h g = (0, refl)
read_turn c a ts true next (Err e) h g = tt
read_turn c a ts true next (Ok mid) h g = read_rest (next mid) (g mid)
  where
    read_rest : (r : Parsed) → IsRead (repeat c a) mid r → IsRead (repeat c a) ts r
    read_rest (Ok rest) x = (suc x.0, (kinds mid, h, x.1))
    read_rest (Err e) x = tt

read_turns : (c : Class) (a : Production) → ((ts : List Token) → IsRead a ts (parse a ts)) → (ts fuel : List Token)
    → IsRead (repeat c a) ts (turns (parse a) c ts fuel)
read_turns c a h ts [] = (0, refl)
read_turns c a h ts (x ∷ fuel) = read_turn c a ts (stands c ts) (λ rest. turns (parse a) c rest fuel) (parse a ts) (h ts) (λ rest. read_turns c a h rest fuel)

read_one_token : (c : Class) (t : Token) (ts : List Token) (s : Bool) → has c (code t.kind) ≡ s
    → IsRead (one c) (t ∷ ts) (cond s (Ok ts) (Err (wrong, t ∷ ts)))
read_one_token c t ts true e = (t.legal, e, refl)
read_one_token c t ts false e = tt

pub is_read : (g : Production) (ts : List Token) → IsRead g ts (parse g ts)
is_read nothing ts = refl
is_read (one c) [] = tt
is_read (one c) (t ∷ ts) = read_one_token c t ts (has c (code t.kind)) refl
is_read (both a b) ts = read_then a b ts (parse a ts) (is_read a ts) (is_read b)
is_read (choose c a b) ts = read_choose c a b ts (stands c ts) (is_read a ts) (is_read b ts)
is_read (repeat c a) ts = read_turns c a (is_read a) ts ts
is_read (barred s c g) ts = tt
