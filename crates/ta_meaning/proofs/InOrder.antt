-- Parts of a tree that stand one after another in a text: errors that rise within each part rise in the whole.
use Rattle.ta_meaning.proofs.Common.{ℕ, ◌+◌, ◌≤◌, ◌<◌, ◌≡◌, Bool, true, false, List, [], ◌∷◌, ◌++◌, map, ◌⊎◌, inl, inr, refl, sym, subst, arith, AllByRecursion}
use Rattle.ta_meaning.proofs.Common.{each_append, each_weaker, rises-wider, further, listed, led, ended, each, Offsets, unplaced, at_first, Mark, FileFault}
use Rattle.ta_meaning.proofs.Common.{Rises, where_, else_, fault_offset, IsOfMeaning}
use Rattle.ta_meaning.proofs.StartedParts.{Starts}

-- the tokens of which these offsets are stated lie one after another, from `low` on and below `high`
abbrev pub Lies : ℕ → List Offsets → ℕ → Type 0
Lies low [] high = low ≤ high
Lies low (x ∷ xs) high = (at : ℕ) × (low ≤ at) × AllByRecursion (λ a. a ≡ at) x × Lies (at + 1) xs high

-- the offsets of errors rise strictly, from `low` on and below `high`
abbrev pub Within : ℕ → ℕ → List FileFault → Type 0
Within low high faults = Rises low high (map fault_offset faults)

-- the number is among those that are stated of a token
abbrev pub IsAmong : ℕ → Offsets → Type 0
IsAmong at [] = ⊥
IsAmong at (a ∷ x) = (a ≡ at) ⊎ IsAmong at x

-- the number is stated of some token
abbrev pub IsStated : ℕ → List Offsets → Type 0
IsStated at [] = ⊥
IsStated at (x ∷ s) = IsAmong at x ⊎ IsStated at s

abbrev pub AreStated : List Offsets → List FileFault → Type 0
AreStated stated faults = AllByRecursion (λ f. IsStated (fault_offset f) stated) faults

-- wherever the tokens of a part lie, its errors rise there; each has the offset of a token, and is one that meaning may have
pub record InOrder (stated : List Offsets) (faults : List FileFault) : Type 0 where
  pub rise : (low high : ℕ) → Lies low stated high → Within low high faults
  pub tokens : AreStated stated faults
  pub kinds : AllByRecursion IsOfMeaning faults

-- the offset of a token of a part, which is there wherever the tokens lie
pub record IsInside (at : ℕ) (stated : List Offsets) : Type 0 where
  pub inside : (low high : ℕ) → Lies low stated high → (low ≤ at) × (at < high)
  pub token : IsStated at stated

-- ---- what lies in a text
pub lies-room : (low high : ℕ) (s : List Offsets) → Lies low s high → low ≤ high
lies-room low high [] h = h
lies-room low high (x ∷ s) h = let later : h.0 + 1 ≤ high = lies-room (h.0 + 1) high s h.3 in let here : low ≤ h.0 = h.1 in omega arith

pub lies-wider : (low high low' high' : ℕ) (s : List Offsets) → low' ≤ low → high ≤ high' → Lies low s high → Lies low' s high'
lies-wider low high low' high' [] l r h = omega arith
lies-wider low high low' high' (x ∷ s) l r h = let here : low ≤ h.0 = h.1 in
    (h.0, omega arith, h.2, lies-wider (h.0 + 1) high (h.0 + 1) high' s (omega arith) r h.3)

-- two parts one after another meet somewhere
pub record Split (low high : ℕ) (s r : List Offsets) : Type 0 where
  pub middle : ℕ
  pub left : Lies low s middle
  pub right : Lies middle r high

pub lies-split : (low high : ℕ) (s r : List Offsets) → Lies low (s ++ r) high → Split low high s r
lies-split low high [] r h = record { middle = low; left = omega arith; right = h }
lies-split low high (x ∷ s) r h =
    let later : Split (h.0 + 1) high s r = lies-split (h.0 + 1) high s r h.3 in
    record { middle = later.middle; left = (h.0, h.1, h.2, later.left); right = later.right }

-- a part whose first token has an offset more stated lies where it lies without it
pub lies-at_first : (at low high : ℕ) (s : List Offsets) → Lies low (at_first at s) high → Lies low s high
lies-at_first at low high [] h = h
lies-at_first at low high (x ∷ s) h = (h.0, h.1, h.2.1, h.3)

-- ---- what is stated of a part is stated of the whole
stated-left : (at : ℕ) (s r : List Offsets) → IsStated at s → IsStated at (s ++ r)
stated-left at [] r h = absurd h
stated-left at (x ∷ s) r (inl h) = inl h
stated-left at (x ∷ s) r (inr h) = inr (stated-left at s r h)

stated-right : (at : ℕ) (s r : List Offsets) → IsStated at r → IsStated at (s ++ r)
stated-right at [] r h = h
stated-right at (x ∷ s) r h = inr (stated-right at s r h)

stated-at_first : (at first : ℕ) (s : List Offsets) → IsStated at s → IsStated at (at_first first s)
stated-at_first at first [] h = h
stated-at_first at first (x ∷ s) (inl h) = inl (inr h)
stated-at_first at first (x ∷ s) (inr h) = inr h

are_stated-left : (s r : List Offsets) (fs : List FileFault) → AreStated s fs → AreStated (s ++ r) fs
are_stated-left s r fs h = each_weaker (λ f. IsStated (fault_offset f) s) (λ f. IsStated (fault_offset f) (s ++ r)) fs
    (λ f k. stated-left (fault_offset f) s r k) h

are_stated-right : (s r : List Offsets) (fs : List FileFault) → AreStated r fs → AreStated (s ++ r) fs
are_stated-right s r fs h = each_weaker (λ f. IsStated (fault_offset f) r) (λ f. IsStated (fault_offset f) (s ++ r)) fs
    (λ f k. stated-right (fault_offset f) s r k) h

pub within-wider : (low high low' high' : ℕ) (fs : List FileFault) → low' ≤ low → high ≤ high' → Within low high fs → Within low' high' fs
within-wider low high low' high' fs l r h = rises-wider low high low' high' (map fault_offset fs) l r h

pub within-append : (low middle high : ℕ) (fs gs : List FileFault) → low ≤ middle → middle ≤ high → Within low middle fs → Within middle high gs
    → Within low high (fs ++ gs)
within-append low middle high [] gs l r h k = within-wider middle high low high gs l (omega arith) k
within-append low middle high (f ∷ fs) gs l r h k =
    let here : fault_offset f < middle = h.1 in
    (h.0, omega arith, within-append (fault_offset f + 1) middle high fs gs (omega arith) r h.2 k)

-- ---- an offset inside a part
pub inside-name : (at : ℕ) → IsInside at ((at ∷ []) ∷ [])
inside-name at = record {
  inside = λ low high h. let here : low ≤ h.0 = h.1 in let is : at ≡ h.0 = h.2.0 in let room : h.0 + 1 ≤ high = h.3 in
      (omega arith, omega arith);
  token = inl (inl refl);
}

-- the offset of a part's first token
pub inside-at_first : (at : ℕ) (s : List Offsets) → Starts s → IsInside at (at_first at s)
inside-at_first at [] starts = absurd starts
inside-at_first at (x ∷ s) starts = record {
  inside = λ low high h. let here : low ≤ h.0 = h.1 in let is : at ≡ h.0 = h.2.0 in let room : h.0 + 1 ≤ high = lies-room (h.0 + 1) high s h.3 in
      (omega arith, omega arith);
  token = inl (inl refl);
}

-- ---- parts and their errors
pub no_faults : (s : List Offsets) → InOrder s []
no_faults s = record { rise = λ low high h. tt; tokens = tt; kinds = tt }

pub along : (s r : List Offsets) (fs gs : List FileFault) → s ≡ r → fs ≡ gs → InOrder s fs → InOrder r gs
along s r fs gs e d h = subst (λ (z : List Offsets). InOrder z gs) e (subst (λ (z : List FileFault). InOrder s z) d h)

-- an error alone, at an offset inside
pub one : (s : List Offsets) (test : Bool) (f : FileFault) → IsOfMeaning f → IsInside (fault_offset f) s → InOrder s (where_ test f)
one s true f kind i = record {
  rise = λ low high h. let in_ : (low ≤ fault_offset f) × (fault_offset f < high) = i.inside low high h in (in_.0, in_.1, tt);
  tokens = (i.token, tt);
  kinds = (kind, tt);
}
one s false f kind i = no_faults s

-- one of two lists of errors
pub either : (s : List Offsets) (fs gs : List FileFault) → InOrder s fs → InOrder s gs → InOrder s (else_ fs gs)
either s [] gs h k = k
either s (f ∷ fs) gs h k = h

-- two parts one after another
pub together : (s r : List Offsets) (fs gs : List FileFault) → InOrder s fs → InOrder r gs → InOrder (s ++ r) (fs ++ gs)
together s r fs gs h k = record {
  rise = λ low high lies.
      let parts : Split low high s r = lies-split low high s r lies in
      within-append low parts.middle high fs gs (lies-room low parts.middle s parts.left) (lies-room parts.middle high r parts.right)
      (h.rise low parts.middle parts.left) (k.rise parts.middle high parts.right);
  tokens = each_append (λ f. IsStated (fault_offset f) (s ++ r)) fs gs (are_stated-left s r fs h.tokens) (are_stated-right s r gs k.tokens);
  kinds = each_append IsOfMeaning fs gs h.kinds k.kinds;
}

-- a token without an error before a part
pub after_token : (x : Offsets) (s : List Offsets) (fs : List FileFault) → InOrder s fs → InOrder (x ∷ s) fs
after_token x s fs h = record {
  rise = λ low high lies. let here : low ≤ lies.0 = lies.1 in within-wider (lies.0 + 1) high low high fs (omega arith)
      (omega arith) (h.rise (lies.0 + 1) high lies.3);
  tokens = are_stated-right (x ∷ []) s fs h.tokens;
  kinds = h.kinds;
}

-- tokens without an error behind a part
pub before_tokens : (s r : List Offsets) (fs : List FileFault) → InOrder s fs → InOrder (s ++ r) fs
before_tokens s r fs h = record {
  rise = λ low high lies.
      let parts : Split low high s r = lies-split low high s r lies in
      within-wider low parts.middle low high fs (omega arith) (lies-room parts.middle high r parts.right) (h.rise low parts.middle parts.left);
  tokens = are_stated-left s r fs h.tokens;
  kinds = h.kinds;
}

-- one offset more stated of the first token
pub with_first : (at : ℕ) (s : List Offsets) (fs : List FileFault) → InOrder s fs → InOrder (at_first at s) fs
with_first at s fs h = record {
  rise = λ low high lies. h.rise low high (lies-at_first at low high s lies);
  tokens = each_weaker
      (λ f. IsStated (fault_offset f) s) (λ f. IsStated (fault_offset f) (at_first at s)) fs (λ f k. stated-at_first (fault_offset f) at s k) h.tokens;
  kinds =
      h.kinds;
}

-- ---- lists of parts

-- the errors are those of the items, one item after another
abbrev pub Items : {A : Type 0} → (A → List Offsets) → List A → List FileFault → Type 0
Items stated [] faults = faults ≡ []
Items stated (x ∷ xs) faults = (here later : List FileFault) × (faults ≡ here ++ later) × InOrder (stated x) here × Items stated xs later

none : (s : List Offsets) (fs : List FileFault) → fs ≡ [] → InOrder s fs
none s fs e = subst (λ (z : List FileFault). InOrder s z) (sym e) (no_faults s)

pub further-in_order : {A : Type 0} (stated : A → List Offsets) (xs : List A) (fs : List FileFault) → Items stated xs fs
    → InOrder (further unplaced stated xs) fs
further-in_order stated [] fs h = none [] fs h
further-in_order stated (x ∷ xs) fs h =
    subst (λ (z : List FileFault). InOrder (further unplaced stated (x ∷ xs)) z) (sym h.2)
    (after_token [] (stated x ++ further unplaced stated xs) (h.0 ++ h.1)
    (together (stated x) (further unplaced stated xs) h.0 h.1 h.3 (further-in_order stated xs h.1 h.4)))

pub listed-in_order : {A : Type 0} (stated : A → List Offsets) (xs : List A) (fs : List FileFault) → Items stated xs fs → InOrder (listed unplaced stated xs) fs
listed-in_order stated [] fs h = none [] fs h
listed-in_order stated (x ∷ xs) fs h =
    subst (λ (z : List FileFault). InOrder (listed unplaced stated (x ∷ xs)) z) (sym h.2)
    (together (stated x) (further unplaced stated xs) h.0 h.1 h.3 (further-in_order stated xs h.1 h.4))

pub led-in_order : {A : Type 0} (m : Mark) (stated : A → List Offsets) (xs : List A) (fs : List FileFault) → Items stated xs fs
    → InOrder (led unplaced m stated xs) fs
led-in_order m stated [] fs h = none [] fs h
led-in_order m stated (x ∷ xs) fs h = after_token [] (listed unplaced stated (x ∷ xs)) fs (listed-in_order stated (x ∷ xs) fs h)

pub ended-in_order : {A : Type 0} (m : Mark) (stated : A → List Offsets) (xs : List A) (fs : List FileFault) → Items stated xs fs
    → InOrder (ended unplaced m stated xs) fs
ended-in_order m stated [] fs h = none [] fs h
ended-in_order m stated (x ∷ xs) fs h =
    after_token [] (listed unplaced stated (x ∷ xs) ++ [] ∷ []) fs
    (before_tokens (listed unplaced stated (x ∷ xs)) ([] ∷ []) fs (listed-in_order stated (x ∷ xs) fs h))

pub each-in_order : {A : Type 0} (stated : A → List Offsets) (xs : List A) (fs : List FileFault) → Items stated xs fs → InOrder (each stated xs) fs
each-in_order stated [] fs h = none [] fs h
each-in_order stated (x ∷ xs) fs h =
    subst (λ (z : List FileFault). InOrder (each stated (x ∷ xs)) z) (sym h.2)
    (together (stated x) (each stated xs) h.0 h.1 h.3 (each-in_order stated xs h.1 h.4))
