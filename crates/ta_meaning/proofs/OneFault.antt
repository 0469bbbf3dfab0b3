-- A text has at most one first error.
use Rattle.ta_meaning.proofs.Common.{Limits, ◌≡◌, ℕ, List, [], ◌∷◌, ◌++◌, length, ◌⊎◌, inl, inr, ⊎_elim, ◌<◌, refl, sym, ap, subst, ◌∙◌, append_assoc, arith}
use Rattle.ta_meaning.proofs.Common.{heads, FileText, Counts, at_start, run, counted_after, StaysWithin, IsDeep, IsMany, AreTokens, IsRefused, Kind, Token}
use Rattle.ta_meaning.proofs.Common.{FileFault, tokens_unique, refused_unique, refused_no_tokens, Automaton, File, Means, OfText, OfMeaning, OfScope}
use Rattle.ta_meaning.proofs.Common.{FirstFault}
use Rattle.ta_syntax.specs.Faults.{kinds, SameStart, Begins, offset_of, IsWrong, IsPast, IsStopped, FaultOfTokens}
use Rattle.ta_syntax.proofs.Steps.{kinds-append}
use Rattle.ta_meaning.proofs.OneTree.{one_meaning, one_meant}
use Rattle.ta_meaning.proofs.OneReading.{no-text, no-meaning}
use Rattle.ta_meaning.proofs.CommasOutside.{not-both}
use Rattle.ta_syntax.specs.declared.fault.FileFault.TheVariants as fault
use Rattle.ta_scope.specs.Faults as scope
use Rattle.ta_meaning.specs.FirstFault as first

-- ---- two places in one list

-- one of two splits of a list is behind the other
pub record Behind (front bad later rest : List Token) : Type 0 where
  pub first : Token
  pub middle : List Token
  pub front_is : later ≡ front ++ first ∷ middle
  pub bad_is : bad ≡ first ∷ (middle ++ rest)

-- the splits are the same
pub record Level (front bad later rest : List Token) : Type 0 where
  pub front_is : later ≡ front
  pub bad_is : bad ≡ rest

two-splits : (front bad later rest : List Token) → front ++ bad ≡ later ++ rest → Level front bad later rest
    ⊎ (Behind front bad later rest ⊎ Behind later rest front bad)
two-splits [] bad [] rest e = inl (record { front_is = refl; bad_is = e })
two-splits [] bad (t ∷ later) rest e = inr (inl (record { first = t; middle = later; front_is = refl; bad_is = e }))
two-splits (t ∷ front) bad [] rest e = inr (inr (record { first = t; middle = front; front_is = refl; bad_is = sym e }))
two-splits (t ∷ front) bad (u ∷ later) rest e =
    let same : t ≡ u = cc in
    let r = two-splits front bad later rest (let h : front ++ bad ≡ later ++ rest = cc in h) in
    ⊎_elim (λ (level : Level front bad later rest). inl
    (record { front_is = ap (λ (z : List Token). u ∷ z) level.front_is ∙ ap (λ (z : Token). z ∷ front) (sym same); bad_is = level.bad_is }))
    (⊎_elim (λ (b : Behind front bad later rest). inr
    (inl (record {
      first = b.first;
      middle = b.middle;
      front_is = ap (λ (z : List Token). u ∷ z) b.front_is
          ∙ ap (λ (z : Token). z ∷ (front ++ b.first ∷ b.middle)) (sym same);
      bad_is = b.bad_is;
    })))
    (λ (b : Behind later rest front bad). inr
    (inr (record {
      first = b.first;
      middle = b.middle;
      front_is = ap (λ (z : List Token). t ∷ z) b.front_is
          ∙ ap (λ (z : Token). z ∷ (later ++ b.first ∷ b.middle)) same;
      bad_is = b.bad_is;
    }))))
    r

-- ---- a wrong token, and a text that goes on with it
begins-less : (L : List Kind → Type 0) (a b : List Kind) → Begins L (a ++ b) → Begins L a
begins-less L a b h = (b ++ h.0, subst L (append_assoc a b h.0) h.1)

-- no text begins with what stands before a wrong token and that token
wrong-ends : (l : Limits) (L : List Kind → Type 0) (c : Counts) (end at : ℕ) (ts : List Token) (w : IsWrong l L c end ts at) (first : Token)
    (others : List Token)
    → w.bad ≡ first ∷ others → Begins L (kinds w.front ++ first.kind ∷ []) → ⊥
wrong-ends l L c end at ts w first others e h =
    w.refused (first.kind ∷ h.0) (subst (λ (bad : List Token). SameStart (kinds bad) (first.kind ∷ h.0)) (sym e) (h.0, refl))
    (subst L (append_assoc (kinds w.front) (first.kind ∷ []) h.0) h.1)

-- so what stands before it begins no text past it
wrong-before : (l : Limits) (L : List Kind → Type 0) (c : Counts) (end at : ℕ) (ts : List Token) (w : IsWrong l L c end ts at) (later rest : List Token)
    → Behind w.front w.bad later rest → Begins L (kinds later) → ⊥
wrong-before l L c end at ts w later rest b h =
    let whole : kinds later ≡ (kinds w.front ++ b.first.kind ∷ []) ++ kinds b.middle = ap kinds b.front_is ∙ kinds-append w.front (b.first ∷ b.middle)
    ∙ sym (append_assoc (kinds w.front) (b.first.kind ∷ []) (kinds b.middle)) in
    wrong-ends l L c end at ts w b.first (b.middle ++ rest) b.bad_is
    (begins-less L (kinds w.front ++ b.first.kind ∷ []) (kinds b.middle) (subst (Begins L) whole h))

wrong-wrong : (l : Limits) (L : List Kind → Type 0) (c : Counts) (end a b : ℕ) (ts : List Token) → IsWrong l L c end ts a → IsWrong l L c end ts b → a ≡ b
wrong-wrong l L c end a b ts w v =
    ⊎_elim (λ (level : Level w.front w.bad v.front v.bad). w.place ∙ ap (offset_of end) level.bad_is ∙ sym v.place)
    (⊎_elim (λ (h : Behind w.front w.bad v.front v.bad). absurd (wrong-before l L c end a ts w v.front v.bad h v.begins))
    (λ (h : Behind v.front v.bad w.front w.bad). absurd (wrong-before l L c end b ts v w.front w.bad h w.begins)))
    (two-splits w.front w.bad v.front v.bad (sym w.split ∙ v.split))

-- ---- a token past a limit

-- such tokens are none within the limits
pub record IsOver (l : Limits) (over : Counts → Kind → Type 0) : Type 0 where
  pub none : (c : Counts) (k : Kind) (ks : List Kind) → StaysWithin l c (k ∷ ks) → over c k → ⊥

over-within : (l : Limits) (over : Counts → Kind → Type 0) → IsOver l over → (c : Counts) (front : List Kind) (k : Kind) (rest : List Kind)
    → StaysWithin l c (front ++ k ∷ rest)
    → over (run l c front) k → ⊥
over-within l over o c [] k rest w h = o.none c k rest w h
over-within l over o c (x ∷ front) k rest w h = over-within l over o (counted_after l c x) front k rest w.2 h

deep-over : (l : Limits) → IsOver l IsDeep
deep-over l = record { none = λ c k ks w h. w.0 h }

many-over : (l : Limits) → IsOver l (IsMany l)
many-over l = record { none = λ c k ks w h. w.1 h }

-- no token past a limit stands in what is within the limits
past-before : (l : Limits) (over : Counts → Kind → Type 0) → IsOver l over
    → (L : List Kind → Type 0) (c : Counts) (ts : List Token) (at : ℕ) (p : IsPast l over L c ts at) (later rest : List Token)
    → Behind p.front (p.first ∷ p.bad) later rest → StaysWithin l c (kinds later) → ⊥
past-before l over o L c ts at p later rest b w =
    let whole : kinds later ≡ kinds p.front ++ b.first.kind ∷ kinds b.middle = ap kinds b.front_is ∙ kinds-append p.front (b.first ∷ b.middle) in
    let same : p.first ≡ b.first = let h = b.bad_is in cc in
    over-within l over o c (kinds p.front) b.first.kind (kinds b.middle) (subst (StaysWithin l c) whole w)
    (subst (λ (t : Token). over (run l c (kinds p.front)) t.kind) same p.past)

wrong-past : (l : Limits) (over : Counts → Kind → Type 0) → IsOver l over → (L : List Kind → Type 0) (c : Counts) (end a b : ℕ) (ts : List Token)
    → IsWrong l L c end ts a
    → IsPast l over L c ts b → ⊥
wrong-past l over o L c end a b ts w p =
    ⊎_elim (λ (level : Level w.front w.bad p.front (p.first ∷ p.bad)). wrong-ends l L c end a ts w p.first p.bad level.bad_is
    (subst (λ (z : List Token). Begins L (kinds z ++ p.first.kind ∷ [])) level.front_is p.begins))
    (⊎_elim (λ (h : Behind w.front w.bad p.front (p.first ∷ p.bad)). wrong-before l L c end a ts w p.front (p.first ∷ p.bad) h
    (begins-less L (kinds p.front) (p.first.kind ∷ []) p.begins))
    (λ (h : Behind p.front (p.first ∷ p.bad) w.front w.bad). past-before l over o L c ts b p w.front w.bad h w.within))
    (two-splits w.front w.bad p.front (p.first ∷ p.bad) (sym w.split ∙ p.split))

-- two tokens past limits are one
past-level : (l : Limits) (over other : Counts → Kind → Type 0) → IsOver l over → IsOver l other
    → (L : List Kind → Type 0) (c : Counts) (a b : ℕ) (ts : List Token) (p : IsPast l over L c ts a) (q : IsPast l other L c ts b)
    → Level p.front (p.first ∷ p.bad) q.front (q.first ∷ q.bad)
past-level l over other o u L c a b ts p q =
    ⊎_elim (λ (level : Level p.front (p.first ∷ p.bad) q.front (q.first ∷ q.bad)). level)
    (⊎_elim (λ (h : Behind p.front (p.first ∷ p.bad) q.front (q.first ∷ q.bad)). absurd (past-before l over o L c ts a p q.front (q.first ∷ q.bad) h q.within))
    (λ (h : Behind q.front (q.first ∷ q.bad) p.front (p.first ∷ p.bad)). absurd (past-before l other u L c ts b q p.front (p.first ∷ p.bad) h p.within)))
    (two-splits p.front (p.first ∷ p.bad) q.front (q.first ∷ q.bad) (sym p.split ∙ q.split))

past-past : (l : Limits) (over : Counts → Kind → Type 0) → IsOver l over → (L : List Kind → Type 0) (c : Counts) (a b : ℕ) (ts : List Token)
    → IsPast l over L c ts a
    → IsPast l over L c ts b → a ≡ b
past-past l over o L c a b ts p q =
    let level = past-level l over over o o L c a b ts p q in
    p.place ∙ ap (λ (t : Token). t.at) (heads p.first q.first p.bad q.bad level.bad_is) ∙ sym q.place

deep-many : (l : Limits) (a b : ℕ) (ts : List Token) → IsPast l IsDeep FileText at_start ts a → IsPast l (IsMany l) FileText at_start ts b → ⊥
deep-many l a b ts p q =
    let level = past-level l IsDeep (IsMany l) (deep-over l) (many-over l) FileText at_start a b ts p q in
    let same = heads p.first q.first p.bad q.bad level.bad_is in
    let many = subst (λ (z : List Token). IsMany l (run l at_start (kinds z)) q.first.kind) level.front_is q.past in
    let many' = subst (λ (t : Token). IsMany l (run l at_start (kinds p.front)) t.kind) (sym same) many in
    let text = p.begins.1 in
    not-both l (kinds p.front) p.first.kind p.begins.0 text.0 (text.2 ∙ append_assoc (kinds p.front) (p.first.kind ∷ []) p.begins.0) p.within p.past many'

-- ---- texts
on-same : (l : Limits) (bytes : List ℕ) (e : FileFault) (ts : List Token) → AreTokens bytes ts → FaultOfTokens l bytes e
    → IsStopped l FileText at_start (length bytes) ts e
on-same l bytes e ts are f = subst (λ (z : List Token). IsStopped l FileText at_start (length bytes) z e) (tokens_unique bytes f.tokens ts f.are are) f.stopped

-- two errors of one list of tokens, none of them want of memory
abbrev IsOfTokens : FileFault → Type 0
IsOfTokens fault.Memory = ⊥
IsOfTokens e = Unit {0}

stopped-once : (l : Limits) (end : ℕ) (ts : List Token) (e d : FileFault) → IsOfTokens e → IsOfTokens d → IsStopped l FileText at_start end ts e
    → IsStopped l FileText at_start end ts d → e ≡ d
stopped-once l end ts (fault.Syntax a) (fault.Syntax b) i j h k = ap fault.Syntax (wrong-wrong l FileText at_start end a b ts h k)
stopped-once l end ts (fault.Syntax a) (fault.TooDeep b) i j h k = absurd (wrong-past l IsDeep (deep-over l) FileText at_start end a b ts h k)
stopped-once l end ts (fault.Syntax a) (fault.TooMany b) i j h k = absurd (wrong-past l (IsMany l) (many-over l) FileText at_start end a b ts h k)
stopped-once l end ts (fault.TooDeep a) (fault.Syntax b) i j h k = absurd (wrong-past l IsDeep (deep-over l) FileText at_start end b a ts k h)
stopped-once l end ts (fault.TooDeep a) (fault.TooDeep b) i j h k = ap fault.TooDeep (past-past l IsDeep (deep-over l) FileText at_start a b ts h k)
stopped-once l end ts (fault.TooDeep a) (fault.TooMany b) i j h k = absurd (deep-many l a b ts h k)
stopped-once l end ts (fault.TooMany a) (fault.Syntax b) i j h k = absurd (wrong-past l (IsMany l) (many-over l) FileText at_start end b a ts k h)
stopped-once l end ts (fault.TooMany a) (fault.TooDeep b) i j h k = absurd (deep-many l b a ts k h)
stopped-once l end ts (fault.TooMany a) (fault.TooMany b) i j h k = ap fault.TooMany (past-past l (IsMany l) (many-over l) FileText at_start a b ts h k)
stopped-once l end ts fault.Memory d i j h k = absurd i
stopped-once l end ts e fault.Memory i j h k = absurd j
stopped-once l end ts (fault.Syntax a) _ i j h k = absurd k
stopped-once l end ts (fault.TooDeep a) _ i j h k = absurd k
stopped-once l end ts (fault.TooMany a) _ i j h k = absurd k
stopped-once l end ts _ d i j h k = absurd h

-- a refused byte, or an error of tokens
abbrev AtByte : List ℕ → FileFault → Type 0
AtByte bytes e = (a : ℕ) × (e ≡ fault.Byte a) × IsRefused bytes a

text-cases : (l : Limits) (bytes : List ℕ) (e : FileFault) → OfText l bytes e → AtByte bytes e ⊎ (IsOfTokens e × FaultOfTokens l bytes e)
text-cases l bytes (fault.Byte a) h = inl (a, refl, h)
text-cases l bytes (fault.Syntax a) h = inr (tt, h)
text-cases l bytes (fault.TooDeep a) h = inr (tt, h)
text-cases l bytes (fault.TooMany a) h = inr (tt, h)
text-cases l bytes fault.Memory h = absurd h
text-cases l bytes _ h = absurd h

text-once : (l : Limits) (bytes : List ℕ) (e d : FileFault) → OfText l bytes e → OfText l bytes d → e ≡ d
text-once l bytes e d h k = both (text-cases l bytes e h) (text-cases l bytes d k)
  where
    both : AtByte bytes e ⊎ (IsOfTokens e × FaultOfTokens l bytes e) → AtByte bytes d ⊎ (IsOfTokens d × FaultOfTokens l bytes d) → e ≡ d
    both (inl x) (inl y) = x.1 ∙ ap fault.Byte (refused_unique bytes x.0 y.0 x.2 y.2) ∙ sym y.1
    both (inl x) (inr y) = let f = y.1 in absurd (refused_no_tokens bytes x.0 f.tokens x.2 f.are)
    both (inr x) (inl y) = let f = x.1 in absurd (refused_no_tokens bytes y.0 f.tokens y.2 f.are)
    both (inr x) (inr y) = let f = x.1 in stopped-once l (length bytes) f.tokens e d x.0 y.0 f.stopped (on-same l bytes d f.tokens f.are y.1)

-- ---- rules

-- the first rule in error is one
first-number : (a : Automaton) (r s : ℕ) → scope.FirstRuleFault a r → scope.FirstRuleFault a s → r ≡ s
first-number a r s p q =
    let not-less : ¬ (r < s) = λ less. q.first r p.rule less p.named p.at_fault in
    let not-more : ¬ (s < r) = λ less. p.first s q.rule less q.named q.at_fault in
    omega arith

scope-once : (a : Automaton) (e d : FileFault) → first.ScopeFault a e → first.ScopeFault a d → e ≡ d
scope-once a (fault.CycleUpdates r) (fault.CycleUpdates s) p q = ap fault.CycleUpdates (first-number a r s p q)
scope-once a (fault.CycleUpdates r) _ p q = absurd q
scope-once a _ d p q = absurd p

-- ---- files
meaning-once : (l : Limits) (bytes : List ℕ) (e d : FileFault) → OfMeaning l bytes e → OfMeaning l bytes d → e ≡ d
meaning-once l bytes e d h k = heads e d h.later k.later (sym h.first ∙ one_meaning l bytes h.tree k.tree h.is_tree k.is_tree ∙ k.first)

file-once : (l : Limits) (bytes : List ℕ) (e d : FileFault) → OfScope l bytes e → OfScope l bytes d → e ≡ d
file-once l bytes e d h k =
    let left : Means l bytes h.file = record { tree = h.tree; is_tree = h.is_tree; means = h.means } in
    let right : Means l bytes k.file = record { tree = k.tree; is_tree = k.is_tree; means = k.means } in
    scope-once k.file.automaton e d (subst (λ (f : File). first.ScopeFault f.automaton e) (one_meant l bytes h.file k.file left right) h.fault) k.fault

pub one_fault : (l : Limits) (bytes : List ℕ) (e d : FileFault) → FirstFault l bytes e → FirstFault l bytes d → e ≡ d
one_fault l bytes e d (inl h) (inl k) = text-once l bytes e d h k
one_fault l bytes e d (inl h) (inr (inl k)) = absurd (no-text l bytes k.tree e k.is_tree h)
one_fault l bytes e d (inl h) (inr (inr k)) = absurd (no-text l bytes k.tree e k.is_tree h)
one_fault l bytes e d (inr (inl h)) (inl k) = absurd (no-text l bytes h.tree d h.is_tree k)
one_fault l bytes e d (inr (inr h)) (inl k) = absurd (no-text l bytes h.tree d h.is_tree k)
one_fault l bytes e d (inr (inl h)) (inr (inl k)) = meaning-once l bytes e d h k
one_fault l bytes e d (inr (inl h)) (inr (inr k)) = absurd (no-meaning l bytes k.tree e k.is_tree k.none_of_meaning h)
one_fault l bytes e d (inr (inr h)) (inr (inl k)) = absurd (no-meaning l bytes h.tree d h.is_tree h.none_of_meaning k)
one_fault l bytes e d (inr (inr h)) (inr (inr k)) = file-once l bytes e d h k
