-- In an automaton file neither commas nor the keywords of lists of locations stand inside parentheses. So no token is both too deep and one
-- too many.
use Rattle.ta_meaning.proofs.Common.{Limits, ◌≡◌, ℕ, suc, ◌-◌, ◌<◌, ◌≤◌, Bool, true, false, List, [], ◌∷◌, ◌++◌, refl, sym, subst, arith, inl, inr, Terms, Term}
use Rattle.ta_meaning.proofs.Common.{Factor, done, term, number, times, alone, blank, named, nested, sum_kinds, more_kinds, term_kinds, factor_kinds}
use Rattle.ta_meaning.proofs.Common.{relation_kind, PlainRule, PlainEvent, PlainPattern, PlainTree, listed, further, led, ended, each, name_kinds}
use Rattle.ta_meaning.proofs.Common.{initial_kinds, location_kinds, comparison_kinds, update_kinds, rule_kinds, event_kinds, pattern_kinds, file_kinds, Counts}
use Rattle.ta_meaning.proofs.Common.{at_start, counted_after, run, StaysWithin, IsDeep, IsMany, Kind, Mark, Relation}
use Rattle.ta_syntax.specs.declared.tokens.Kind.TheVariants as kind
use Rattle.ta_syntax.specs.declared.tokens.Mark.TheVariants as mark
use Rattle.ta_syntax.specs.declared.tokens.Relation.TheVariants as relation
use Rattle.ta_syntax.specs.declared.sums.Sign.TheVariants as sign

-- how many parentheses are open after a token
abbrev pub deeper : ℕ → Kind → ℕ
deeper n (kind.Fixed mark.Open) = suc n
deeper n (kind.Fixed mark.Close) = n - 1
deeper n _ = n

abbrev NotInside : ℕ → Kind → Type 0
NotInside n (kind.Fixed mark.Comma) = n ≡ 0
NotInside n (kind.Fixed mark.Locations) = n ≡ 0
NotInside n (kind.Fixed mark.Empty) = n ≡ 0
NotInside n _ = Unit {0}

-- each comma and each such keyword stands where no parenthesis is open, and as many are open at the end as at the start
abbrev pub Outside : ℕ → ℕ → List Kind → Type 0
Outside n end [] = n ≡ end
Outside n end (k ∷ ks) = NotInside n k × Outside (deeper n k) end ks

outside-append : (n m end : ℕ) (a b : List Kind) → Outside n m a → Outside m end b → Outside n end (a ++ b)
outside-append n m end [] b h k = subst (λ (z : ℕ). Outside z end b) (sym h) k
outside-append n m end (x ∷ a) b h k = (h.0, outside-append (deeper n x) m end a b h.1 k)

abbrev Flat : ℕ → List Kind → Type 0
Flat n ks = Outside n n ks

flat-append : (n : ℕ) (a b : List Kind) → Flat n a → Flat n b → Flat n (a ++ b)
flat-append n a b h k = outside-append n n n a b h k

-- ---- sums

mutual
  sum-flat : (ts : Terms) (n : ℕ) → Flat n (sum_kinds ts)
  sum-flat done n = refl
  sum-flat (term sign.Plus t ts) n = flat-append n (term_kinds t) (more_kinds ts) (term-flat t n) (more-flat ts n)
  sum-flat (term sign.Minus t ts) n = (tt, flat-append n (term_kinds t) (more_kinds ts) (term-flat t n) (more-flat ts n))

  more-flat : (ts : Terms) (n : ℕ) → Flat n (more_kinds ts)
  more-flat done n = refl
  more-flat (term sign.Plus t ts) n = (tt, flat-append n (term_kinds t) (more_kinds ts) (term-flat t n) (more-flat ts n))
  more-flat (term sign.Minus t ts) n = (tt, flat-append n (term_kinds t) (more_kinds ts) (term-flat t n) (more-flat ts n))

  term-flat : (t : Term) (n : ℕ) → Flat n (term_kinds t)
  term-flat (number d) n = (tt, refl)
  term-flat (times d f) n = (tt, (tt, factor-flat f n))
  term-flat (alone f) n = factor-flat f n
  term-flat blank n = refl

  factor-flat : (f : Factor) (n : ℕ) → Flat n (factor_kinds f)
  factor-flat (named x) n = (tt, refl)
  factor-flat (nested ts) n = (tt, outside-append (suc n) (suc n) n (sum_kinds ts) (kind.Fixed mark.Close ∷ []) (sum-flat ts (suc n)) (tt, omega arith))

-- ---- items and lists of them

record FlatItem {A : Type 0} (f : A → List Kind) : Type 0 where
  flat : (x : A) → Flat 0 (f x)

relation-flat : (r : Relation) (ks : List Kind) → Flat 0 ks → Flat 0 (relation_kind r ∷ ks)
relation-flat relation.Less ks h = (tt, h)
relation-flat _ ks h = (tt, h)

name-flat : FlatItem name_kinds
name-flat = record { flat = λ n. (tt, refl) }

initial-flat : (b : Bool) → Flat 0 (initial_kinds b)
initial-flat true = (tt, refl)
initial-flat false = refl

location-flat : FlatItem location_kinds
location-flat = record { flat = λ l. (tt, initial-flat l.initial) }

update-flat : FlatItem update_kinds
update-flat = record { flat = λ u. (tt, (tt, (tt, refl))) }

comparison-flat : FlatItem comparison_kinds
comparison-flat = record {
  flat = λ c. flat-append 0 (sum_kinds c.left) (relation_kind c.relation ∷ sum_kinds c.right) (sum-flat c.left 0)
      (relation-flat c.relation (sum_kinds c.right) (sum-flat c.right 0));
}

further-flat : {A : Type 0} (f : A → List Kind) → FlatItem f → (xs : List A) → Flat 0 (further kind.Fixed f xs)
further-flat f i [] = refl
further-flat f i (x ∷ xs) = (refl, flat-append 0 (f x) (further kind.Fixed f xs) (i.flat x) (further-flat f i xs))

listed-flat : {A : Type 0} (f : A → List Kind) → FlatItem f → (xs : List A) → Flat 0 (listed kind.Fixed f xs)
listed-flat f i [] = refl
listed-flat f i (x ∷ xs) = flat-append 0 (f x) (further kind.Fixed f xs) (i.flat x) (further-flat f i xs)

each-flat : {A : Type 0} (f : A → List Kind) → FlatItem f → (xs : List A) → Flat 0 (each f xs)
each-flat f i [] = refl
each-flat f i (x ∷ xs) = flat-append 0 (f x) (each f xs) (i.flat x) (each-flat f i xs)

-- a keyword that is no parenthesis and no comma
abbrev IsOrdinary : Mark → Type 0
IsOrdinary mark.Open = ⊥
IsOrdinary mark.Close = ⊥
IsOrdinary mark.Comma = ⊥
IsOrdinary _ = Unit {0}

mark-flat : (m : Mark) (ks : List Kind) → IsOrdinary m → Flat 0 ks → Flat 0 (kind.Fixed m ∷ ks)
mark-flat mark.Open ks o h = absurd o
mark-flat mark.Close ks o h = absurd o
mark-flat mark.Comma ks o h = absurd o
mark-flat mark.Locations ks o h = (refl, h)
mark-flat mark.Empty ks o h = (refl, h)
mark-flat m ks o h = (tt, h)

led-flat : {A : Type 0} (m : Mark) (f : A → List Kind) → IsOrdinary m → FlatItem f → (xs : List A) → Flat 0 (led kind.Fixed m f xs)
led-flat m f o i [] = refl
led-flat m f o i (x ∷ xs) = mark-flat m (listed kind.Fixed f (x ∷ xs)) o (listed-flat f i (x ∷ xs))

ended-flat : {A : Type 0} (m : Mark) (f : A → List Kind) → IsOrdinary m → FlatItem f → (xs : List A) → Flat 0 (ended kind.Fixed m f xs)
ended-flat m f o i [] = refl
ended-flat m f o i (x ∷ xs) = mark-flat m (listed kind.Fixed f (x ∷ xs) ++ kind.Fixed mark.Semicolon ∷ []) o
    (flat-append 0 (listed kind.Fixed f (x ∷ xs)) (kind.Fixed mark.Semicolon ∷ []) (listed-flat f i (x ∷ xs)) (tt, refl))

-- a list and a semicolon
listed-ended : {A : Type 0} (f : A → List Kind) → FlatItem f → (xs : List A) → Flat 0 (listed kind.Fixed f xs ++ kind.Fixed mark.Semicolon ∷ [])
listed-ended f i xs = flat-append 0 (listed kind.Fixed f xs) (kind.Fixed mark.Semicolon ∷ []) (listed-flat f i xs) (tt, refl)

rule-tail : (r : PlainRule) → Flat 0
    (led kind.Fixed mark.When comparison_kinds r.guards ++ (led kind.Fixed mark.Do update_kinds r.updates ++ kind.Fixed mark.Semicolon ∷ []))
rule-tail r =
    let updates = flat-append 0 (led kind.Fixed mark.Do update_kinds r.updates) (kind.Fixed mark.Semicolon ∷ [])
    (led-flat mark.Do update_kinds tt update-flat r.updates) (tt, refl) in
    flat-append 0 (led kind.Fixed mark.When comparison_kinds r.guards) (led kind.Fixed mark.Do update_kinds r.updates ++ kind.Fixed mark.Semicolon ∷ [])
    (led-flat mark.When comparison_kinds tt comparison-flat r.guards) updates

rule-flat : FlatItem rule_kinds
rule-flat = record { flat = λ r. (tt, (tt, (tt, (tt, (tt, (tt, rule-tail r)))))) }

event-tail : (e : PlainEvent) → Flat 0
    (led kind.Fixed mark.After name_kinds e.after ++ kind.Fixed mark.Colon ∷ (listed kind.Fixed comparison_kinds e.condition ++ kind.Fixed mark.Semicolon ∷ []))
event-tail e = flat-append 0 (led kind.Fixed mark.After name_kinds e.after)
    (kind.Fixed mark.Colon ∷ (listed kind.Fixed comparison_kinds e.condition ++ kind.Fixed mark.Semicolon ∷ []))
    (led-flat mark.After name_kinds tt name-flat e.after) (tt, listed-ended comparison_kinds comparison-flat e.condition)

event-flat : FlatItem event_kinds
event-flat = record { flat = λ e. (tt, (tt, event-tail e)) }

pattern-tail : (p : PlainPattern) → Flat 0
    (ended kind.Fixed mark.Start comparison_kinds p.start
    ++ (ended kind.Fixed mark.Empty name_kinds p.empty ++ (each event_kinds p.events ++ kind.Fixed mark.CloseBrace ∷ [])))
pattern-tail p =
    let events = flat-append 0 (each event_kinds p.events) (kind.Fixed mark.CloseBrace ∷ []) (each-flat event_kinds event-flat p.events) (tt, refl) in
    let empty = flat-append 0 (ended kind.Fixed mark.Empty name_kinds p.empty) (each event_kinds p.events ++ kind.Fixed mark.CloseBrace ∷ [])
    (ended-flat mark.Empty name_kinds tt name-flat p.empty) events in
    flat-append 0 (ended kind.Fixed mark.Start comparison_kinds p.start)
    (ended kind.Fixed mark.Empty name_kinds p.empty ++ (each event_kinds p.events ++ kind.Fixed mark.CloseBrace ∷ []))
    (ended-flat mark.Start comparison_kinds tt comparison-flat p.start) empty

pattern-flat : FlatItem pattern_kinds
pattern-flat = record { flat = λ p. (tt, (tt, (tt, pattern-tail p))) }

-- a list, a semicolon, and what stands behind
listed-then : {A : Type 0} (f : A → List Kind) → FlatItem f → (xs : List A) (m : Mark) (ks : List Kind) → IsOrdinary m → Flat 0 ks
    → Flat 0 (listed kind.Fixed f xs ++ kind.Fixed mark.Semicolon ∷ kind.Fixed m ∷ ks)
listed-then f i xs m ks o h = flat-append 0 (listed kind.Fixed f xs) (kind.Fixed mark.Semicolon ∷ kind.Fixed m ∷ ks) (listed-flat f i xs)
    (tt, mark-flat m ks o h)

pub file-flat : (t : PlainTree) → Outside 0 0 (file_kinds t)
file-flat t =
    let blocks = flat-append 0 (each rule_kinds t.rules) (each pattern_kinds t.patterns) (each-flat rule_kinds rule-flat t.rules)
    (each-flat pattern_kinds pattern-flat t.patterns) in
    let resilience = flat-append 0 (listed kind.Fixed comparison_kinds t.resilience)
    (kind.Fixed mark.Semicolon ∷ (each rule_kinds t.rules ++ each pattern_kinds t.patterns)) (listed-flat comparison_kinds comparison-flat t.resilience)
    (tt, blocks) in
    let processes = flat-append 0 (sum_kinds t.processes) (kind.Fixed mark.Semicolon ∷ kind.Fixed mark.Resilience ∷ _) (sum-flat t.processes 0)
    (tt, (tt, resilience)) in
    let locations = listed-then location_kinds location-flat t.locations mark.Processes _ tt processes in
    let shared = listed-then name_kinds name-flat t.shared mark.Locations _ tt locations in
    let parameters = listed-then name_kinds name-flat t.parameters mark.Shared _ tt shared in
    (tt, (tt, (tt, (tt, parameters))))

-- ---- so where a list is full no parenthesis is open

after-deeper : (l : Limits) (c : Counts) (k : Kind) → (counted_after l c k).open_now ≡ deeper c.open_now k
after-deeper l c (kind.Name n) = refl
after-deeper l c (kind.Number n) = refl
after-deeper l c (kind.Fixed mark.Open) = refl
after-deeper l c (kind.Fixed mark.Close) = refl
after-deeper l c (kind.Fixed m) = refl

-- only a comma fills a list, or the keyword of a list of locations where there may be none
filled : (l : Limits) (c : Counts) (k : Kind) → c.commas < c.limit → (counted_after l c k).limit ≤ (counted_after l c k).commas → NotInside c.open_now k
    → (counted_after l c k).open_now ≡ 0
filled l c (kind.Name n) room full out = absurd (omega arith)
filled l c (kind.Number n) room full out = absurd (omega arith)
filled l c (kind.Fixed mark.Comma) room full out = out
filled l c (kind.Fixed mark.Locations) room full out = out
filled l c (kind.Fixed mark.Empty) room full out = out
filled l c (kind.Fixed m) room full out = absurd (omega arith)

room_from : (l : Limits) (c : Counts) (k : Kind) → (IsMany l c k → ⊥) → c.commas < c.limit
room_from l c k not = let h : (c.limit ≤ c.commas) → ⊥ = λ h. not (inl h) in omega arith

full-closed : (l : Limits) (c : Counts) (front : List Kind) (k : Kind) (rest : List Kind) (end : ℕ) → c.commas < c.limit → StaysWithin l c front
    → Outside c.open_now end (front ++ k ∷ rest) → (run l c front).limit ≤ (run l c front).commas → (run l c front).open_now ≡ 0
full-closed l c [] k rest end room within out full = absurd (omega arith)
full-closed l c (x ∷ []) k rest end room within out full = filled l c x room full out.0
full-closed l c (x ∷ y ∷ front) k rest end room within out full =
    full-closed l (counted_after l c x) (y ∷ front) k rest end (room_from l (counted_after l c x) y within.2.1) within.2
    (subst (λ (n : ℕ). Outside n end ((y ∷ front) ++ k ∷ rest)) (sym (after-deeper l c x)) out.1) full

-- no token of a file is both too deep and one too many
pub not-both : (l : Limits) (front : List Kind) (k : Kind) (rest : List Kind) (t : PlainTree) → file_kinds t ≡ front ++ k ∷ rest → StaysWithin l at_start front
    → IsDeep (run l at_start front) k → IsMany l (run l at_start front) k → ⊥
not-both l front (kind.Fixed mark.Open) rest t e within deep (inl full) =
    let closed = full-closed l at_start front (kind.Fixed mark.Open) rest 0 (omega arith) within (subst (λ (ks : List Kind). Outside 0 0 ks) e (file-flat t))
    full
    in
    omega arith
not-both l front (kind.Fixed mark.Open) rest t e within deep (inr many) = many
not-both l front k rest t e within deep many = deep
