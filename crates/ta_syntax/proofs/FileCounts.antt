-- The limits of the productions are those that the scan over the tokens counts.
use Rattle.ta_syntax.proofs.Common.{refl, ap, sym, subst, ◌≡◌, ◌∙◌, ◌≤◌, ◌<◌, ◌+◌, ◌-◌, inl, inr, ℕ, zero, suc, true, arith, Limits, relation_kind, sign_kind}
use Rattle.ta_syntax.proofs.Common.{Counts, at_start, counted_after, after_mark, begin_list, IsDeep, IsMany, IsBlockPast, Sign, Kind, Mark, Relation, Class}
use Rattle.ta_syntax.proofs.Common.{code, has, only, names, numbers, Production, one, both, repeat, first, deep, many, a_mark, a_name, signs, relations, maybe}
use Rattle.ta_syntax.proofs.Common.{term_with, sum_with, nested_with, free_factor, factor, a_sum, items, blocks, list_end, declared_list, location, update}
use Rattle.ta_syntax.proofs.Common.{comparison, rule, event, pattern, file}
use Rattle.ta_syntax.specs.FileGrammar.{further}
use Rattle.ta_syntax.specs.FileGrammar.{led, ended, name_then, head}
use Rattle.ta_syntax.proofs.Parsing.{inside, false_true}
use Rattle.ta_syntax.proofs.Halting.{Alive, Passes, Says, says_as, says_each, says_nothing, says_one, says_both, says_choose, says_repeat, says_barred}
use Rattle.ta_syntax.proofs.FileSpans.{only_is, sign_is, relation_is, no_mark}
use Rattle.ta_syntax.specs.declared.sums.Sign.TheVariants as sign
use Rattle.ta_syntax.specs.declared.tokens.Kind.TheVariants as kind
use Rattle.ta_syntax.specs.declared.tokens.Mark.TheVariants as mark
use Rattle.ta_syntax.specs.declared.tokens.Relation.TheVariants as relation

-- ---- what was counted

-- between parts, with so many rules, patterns and events counted
record Between (r p e : ℕ) (c : Counts) : Type 0 where
  closed : c.open_now ≡ 0
  room : c.commas < c.limit
  rules : c.rules ≡ r
  patterns : c.patterns ≡ p
  events : c.events ≡ e

-- in a list of which so many items may come
record Listing (r p e limit n : ℕ) (c : Counts) : Type 0 where
  closed : c.open_now ≡ 0
  limited : c.limit ≡ limit
  few : c.commas + n ≡ limit
  rules : c.rules ≡ r
  patterns : c.patterns ≡ p
  events : c.events ≡ e

none_yet : (n : ℕ) → 0 + n ≡ n
none_yet n = omega arith

module _ (l : Limits) where
  -- ---- single tokens

  -- a token that nothing counts
  record IsPlain (k : Kind) : Type 0 where
    same : (c : Counts) → counted_after l c k ≡ c
    not_deep : (c : Counts) → IsDeep c k → ⊥
    no_block : (c : Counts) → IsBlockPast l c k → ⊥

  no_many : (c : Counts) (k : Kind) → c.commas < c.limit → (IsBlockPast l c k → ⊥) → IsMany l c k → ⊥
  no_many c k room no_block (inl h) = absurd (omega arith)
  no_many c k room no_block (inr h) = no_block h

  says_plain : {P : Counts → Type 0} (cl : Class) → Alive (one cl) → ((k : Kind) → has cl (code k) ≡ true → IsPlain k)
      → ((c : Counts) → P c → c.commas < c.limit)
      → Says l (one cl) P P
  says_plain {P = P} cl v plain room = says_one cl v (λ c k p h. let q = plain k h in
      ((q.not_deep c, no_many c k (room c p) (q.no_block c)), subst P (sym (q.same c)) p))

  plain_name : (k : Kind) → has names (code k) ≡ true → IsPlain k
  plain_name (kind.Name n) h = record { same = λ c. refl; not_deep = λ c d. d; no_block = λ c d. d }
  plain_name (kind.Number d) h = absurd (false_true h)
  plain_name (kind.Fixed m) h = absurd (no_mark m 0 refl h)

  plain_number : (k : Kind) → has numbers (code k) ≡ true → IsPlain k
  plain_number (kind.Name n) h = absurd (false_true h)
  plain_number (kind.Number d) h = record { same = λ c. refl; not_deep = λ c d. d; no_block = λ c d. d }
  plain_number (kind.Fixed m) h = absurd (no_mark m 1 refl h)

  plain_sign : (k : Kind) → has signs (code k) ≡ true → IsPlain k
  plain_sign k h = let x = sign_is k h in subst IsPlain (sym x.1) (of_sign x.0)
    where
      of_sign : (s : Sign) → IsPlain (sign_kind s)
      of_sign sign.Plus = record { same = λ c. refl; not_deep = λ c d. d; no_block = λ c d. d }
      of_sign sign.Minus = record { same = λ c. refl; not_deep = λ c d. d; no_block = λ c d. d }

  plain_relation : (k : Kind) → has relations (code k) ≡ true → IsPlain k
  plain_relation k h = let x = relation_is k h in subst IsPlain (sym x.1) (of_relation x.0)
    where
      of_relation : (r : Relation) → IsPlain (relation_kind r)
      of_relation relation.Less = record { same = λ c. refl; not_deep = λ c d. d; no_block = λ c d. d }
      of_relation _ = record { same = λ c. refl; not_deep = λ c d. d; no_block = λ c d. d }

  -- a mark that only a list's limit may forbid
  abbrev IsQuiet : Mark → Type 0
  IsQuiet mark.Open = ⊥
  IsQuiet mark.Rule = ⊥
  IsQuiet mark.Pattern = ⊥
  IsQuiet mark.Event = ⊥
  IsQuiet _ = Unit {0}

  quiet_deep : (m : Mark) (c : Counts) → IsQuiet m → IsDeep c (kind.Fixed m) → ⊥
  quiet_deep mark.Open c q d = q
  quiet_deep _ c q d = d

  quiet_block : (m : Mark) (c : Counts) → IsQuiet m → IsBlockPast l c (kind.Fixed m) → ⊥
  quiet_block mark.Rule c q d = q
  quiet_block mark.Pattern c q d = q
  quiet_block mark.Event c q d = q
  quiet_block _ c q d = d

  alive_mark : (m : Mark) → Alive (a_mark m)
  alive_mark mark.Semicolon = refl
  alive_mark _ = refl

  alone : (m : Mark) → inside (only m) (only m) ≡ true
  alone mark.Semicolon = refl
  alone _ = refl

  says_mark : {P Q : Counts → Type 0} (m : Mark) → ((c : Counts) → P c → c.commas < c.limit) → ((c : Counts) → P c → IsDeep c (kind.Fixed m) → ⊥)
      → ((c : Counts) → P c → IsBlockPast l c (kind.Fixed m) → ⊥) → ((c : Counts) → P c → Q (after_mark l c m)) → Says l (a_mark m) P Q
  says_mark {Q = Q} m room not_deep no_block after = says_one (only m) (alive_mark m) (λ c k p h.
      subst (λ (z : Kind). Passes l c z × Q (counted_after l c z)) (sym (only_is m k h))
      ((not_deep c p, no_many c (kind.Fixed m) (room c p) (no_block c p)), after c p))

  says_quiet : {P Q : Counts → Type 0} (m : Mark) → IsQuiet m → ((c : Counts) → P c → c.commas < c.limit) → ((c : Counts) → P c → Q (after_mark l c m))
      → Says l (a_mark m) P Q
  says_quiet m q room after = says_mark m room (λ c p. quiet_deep m c q) (λ c p. quiet_block m c q) after

  says_maybe : {g : Production} {P R Q : Counts → Type 0} (m : Mark) → Says l (a_mark m) P R → Says l g R Q → ((c : Counts) → P c → Q c)
      → Says l (maybe m g) P Q
  says_maybe m x y p = says_choose (only m) (says_both x y) (says_nothing p)

  -- ---- parts that leave the counts as they were

  abbrev Still : Counts → Counts → Type 0
  Still c d = d ≡ c

  still_room : (c : Counts) → c.commas < c.limit → (d : Counts) → Still c d → d.commas < d.limit
  still_room c room d e = subst (λ (z : Counts). z.commas < z.limit) (sym e) room

  -- ---- sums

  module _ (F : Production) (c : Counts) (room : c.commas < c.limit) (inner : Says l F (Still c) (Still c)) where
    says_term : Says l (term_with F) (Still c) (Still c)
    says_term = says_choose numbers (says_both (says_plain numbers refl plain_number (still_room c room))
        (says_maybe mark.Star (says_quiet mark.Star tt (still_room c room) (λ d e. e)) inner (λ d e. e))) inner

    says_sum : Says l (sum_with F) (Still c) (Still c)
    says_sum = says_both (says_maybe mark.Minus (says_quiet mark.Minus tt (still_room c room) (λ d e. e)) (says_nothing (λ d e. e)) (λ d e. e))
        (says_both says_term (says_repeat signs (says_both (says_plain signs refl plain_sign (still_room c room)) says_term)))

  abbrev opened : Counts → Counts
  opened c = after_mark l c mark.Open

  closed_again : (c : Counts) → after_mark l (opened c) mark.Close ≡ c
  closed_again c = ap (λ (n : ℕ).
      let r : Counts = record { open_now = n; commas = c.commas; limit = c.limit; rules = c.rules; patterns = c.patterns; events = c.events } in r)
      (let e : suc c.open_now - 1 ≡ c.open_now = omega arith in e)

  says_alone : (c : Counts) → c.commas < c.limit → Says l a_name (Still c) (Still c)
  says_alone c room = says_plain names refl plain_name (still_room c room)

  alive_sum : (F : Production) → Alive F → Alive (sum_with F)
  alive_sum F v = (((refl, tt), tt), (((refl, ((refl, v), tt)), v), (refl, ((refl, ((refl, v), tt)), v))))

  says_factor : (n : ℕ) (c : Counts) → c.open_now + n ≡ 32 → c.commas < c.limit → Says l (factor n) (Still c) (Still c)
  says_factor zero c o room = says_choose (only mark.Open)
      (says_barred deep (only mark.Open) (λ n. nested_with (free_factor n)) ((refl, (alive_sum a_name refl, refl)), refl)
      (λ d k e h. subst (λ (z : Kind). IsDeep d z) (sym (only_is mark.Open k h)) (subst (λ (z : Counts). 32 ≤ z.open_now) (sym e) (omega arith))))
      (says_alone c room)
  says_factor (suc n) c o room = let o2 : suc c.open_now + n ≡ 32 = omega arith in says_choose (only mark.Open)
      (says_both (says_mark mark.Open (still_room c room)
      (λ d e x. let y : 32 ≤ c.open_now = subst (λ (z : Counts). 32 ≤ z.open_now) e x in absurd (omega arith)) (λ d e x. x) (λ d e. ap opened e))
      (says_both (says_sum (factor n) (opened c) room (says_factor n (opened c) o2 room))
      (says_quiet mark.Close tt (still_room (opened c) room) (λ d e. ap (λ (z : Counts). after_mark l z mark.Close) e ∙ closed_again c))))
      (says_alone c room)

  -- ---- items

  abbrev Keeps : Production → Type 0
  Keeps g = (c : Counts) → c.open_now ≡ 0 → c.commas < c.limit → Says l g (Still c) (Still c)

  keeps_name : Keeps a_name
  keeps_name c o room = says_alone c room

  keeps_sum : Keeps a_sum
  keeps_sum c o room = says_sum (factor 32) c room (says_factor 32 c (omega arith) room)

  keeps_comparison : Keeps comparison
  keeps_comparison c o room = says_both (keeps_sum c o room) (says_both (says_plain relations refl plain_relation (still_room c room)) (keeps_sum c o room))

  keeps_location : Keeps location
  keeps_location c o room = says_both (says_alone c room)
      (says_maybe mark.Initial (says_quiet mark.Initial tt (still_room c room) (λ d e. e)) (says_nothing (λ d e. e)) (λ d e. e))

  keeps_update : Keeps update
  keeps_update c o room = says_both (says_alone c room)
      (says_both (says_quiet mark.PlusEquals tt (still_room c room) (λ d e. e)) (says_plain numbers refl plain_number (still_room c room)))

  says_keep : {P : Counts → Type 0} (g : Production) → Alive g → Keeps g → ((c : Counts) → P c → (c.open_now ≡ 0) × (c.commas < c.limit)) → Says l g P P
  says_keep {P = P} g v k h = says_each (λ c p. Still c) v (λ c p. let r = h c p in says_as (λ d e. e) (λ d e. subst P (sym e) p) (k c r.0 r.1)) (λ c p. refl)

  -- counts at which an item may come
  abbrev blank : Counts
  blank = begin_list 1 at_start

  alive_item : (g : Production) → Keeps g → Alive g
  alive_item g k = let s = k blank refl (omega arith) in s.alive

  -- ---- lists

  -- an item begins by each token by which a list of such items may
  abbrev Starts : Production → Type 0
  Starts item = inside (first item) (first (both item (further item))) ≡ true

  module _ (r p e : ℕ) where
    abbrev B : Counts → Type 0
    B = Between r p e

    abbrev L : ℕ → ℕ → Counts → Type 0
    L limit n = Listing r p e limit n

    says_items : (limit n : ℕ) (item : Production) → Starts item → Keeps item → Says l (items n item) (L limit n) B
    says_items limit zero item i k = let v = alive_item item k in
        says_barred many (first item) (λ n. both item (further item)) ((v, (refl, v)), i) (λ c x h y. inl (omega (arith, h.limited, h.few)))
    says_items limit (suc n) item i k = says_both
        (says_keep {P = L limit (suc n)} item (alive_item item k) k (λ c h. (h.closed, omega (arith, h.limited, h.few))))
        (says_maybe mark.Comma (says_quiet {Q = L limit n} mark.Comma tt (λ c h. omega (arith, h.limited, h.few))
        (λ c h. record { closed = h.closed; limited = h.limited; few = omega (arith, h.few); rules = h.rules; patterns = h.patterns; events = h.events }))
        (says_items limit n item i k)
        (λ c h. record { closed = h.closed; room = omega (arith, h.limited, h.few); rules = h.rules; patterns = h.patterns; events = h.events }))

    -- a mark with which nothing is counted
    says_between : (m : Mark) → IsQuiet m → ((c : Counts) → after_mark l c m ≡ c) → Says l (a_mark m) B B
    says_between m q same = says_quiet m q (λ c h. h.room) (λ c h. subst B (sym (same c)) h)

    says_begins : (m : Mark) (limit : ℕ) → IsQuiet m → ((c : Counts) → after_mark l c m ≡ begin_list limit c) → Says l (a_mark m) B (L limit limit)
    says_begins m limit q begins = says_quiet m q (λ c h. h.room) (λ c h. subst (L limit limit) (sym (begins c))
        (record { closed = h.closed; limited = refl; few = omega arith; rules = h.rules; patterns = h.patterns; events = h.events }))

    keeps_between : (g : Production) → Keeps g → Says l g B B
    keeps_between g k = says_keep g (alive_item g k) k (λ c h. (h.closed, h.room))

    says_semicolon : Says l (a_mark mark.Semicolon) B B
    says_semicolon = says_between mark.Semicolon tt (λ c. refl)

    says_list_end : (limit : ℕ) (item : Production) → Starts item → Keeps item → Says l (list_end limit item) (L limit limit) B
    says_list_end limit item i k = says_both (says_items limit limit item i k) says_semicolon

    says_led : (m : Mark) (limit : ℕ) (item : Production) → IsQuiet m → ((c : Counts) → after_mark l c m ≡ begin_list limit c) → Starts item → Keeps item
        → Says l (led m limit item) B B
    says_led m limit item q b i k = says_maybe m (says_begins m limit q b) (says_items limit limit item i k) (λ c h. h)

    says_ended : (m : Mark) (limit : ℕ) (item : Production) → IsQuiet m → ((c : Counts) → after_mark l c m ≡ begin_list limit c) → Starts item → Keeps item
        → Says l (ended m limit item) B B
    says_ended m limit item q b i k = says_maybe m (says_begins m limit q b) (says_list_end limit item i k) (λ c h. h)

    says_declared : (m : Mark) (limit : ℕ) (item : Production) → 1 ≤ limit → IsQuiet m → ((c : Counts) → after_mark l c m ≡ begin_list limit c) → Starts item
        → Keeps item → Says l (declared_list m limit item) B B
    says_declared m limit item some q b i k = says_both (says_begins m limit q b) (says_choose (only mark.Semicolon)
        (says_as (λ c h. record { closed = h.closed; room = omega (arith, h.limited, h.few); rules = h.rules; patterns = h.patterns; events = h.events })
        (λ c h. h) says_semicolon)
        (says_list_end limit item i k))

    says_name_then : {g : Production} {Q : Counts → Type 0} (m : Mark) → Says l (a_mark m) B B → Says l g B Q → Says l (name_then m g) B Q
    says_name_then m x y = says_both (says_both (keeps_between a_name keeps_name) x) y

  -- ---- blocks

  -- Before n: so many may come
  module _ (m : Mark) (body : Production) (Before : ℕ → Counts → Type 0) (After : Counts → Type 0) (v : Alive body)
      (past : (c : Counts) → Before 0 c → IsBlockPast l c (kind.Fixed m)) (turn : (n : ℕ) → Says l (both (a_mark m) body) (Before (suc n)) (Before n))
      (ends : (n : ℕ) (c : Counts) → Before n c → After c) where
    says_blocks : (n : ℕ) → Says l (blocks n m body) (Before n) After
    says_blocks zero = let b : Alive (both (a_mark m) body) = (alive_mark m, v) in says_choose (only m)
        (says_barred many (only m) (λ n. both (both (a_mark m) body) (repeat (only m) (both (a_mark m) body))) ((b, b), alone m)
        (λ c k h y. subst (λ (z : Kind). IsMany l c z) (sym (only_is m k y)) (inr (past c h))))
        (says_nothing (ends 0))
    says_blocks (suc n) = says_choose (only m) (says_both (turn n) (says_blocks n)) (says_nothing (ends (suc n)))

  says_rule : (r p e : ℕ) → Says l rule (Between r p e) (Between r p e)
  says_rule r p e =
      says_name_then r p e mark.Colon (says_quiet mark.Colon tt (λ c h. h.room)
      (λ c h. record { closed = h.closed; room = omega arith; rules = h.rules; patterns = h.patterns; events = h.events }))
      (says_name_then r p e mark.Arrow (says_between r p e mark.Arrow tt (λ c. refl))
      (says_both (keeps_between r p e a_name keeps_name)
      (says_both (says_led r p e mark.When 16 comparison tt (λ c. refl) refl keeps_comparison)
      (says_both (says_led r p e mark.Do 16 update tt (λ c. refl) refl keeps_update) (says_semicolon r p e)))))

  says_event : (r p e : ℕ) → Says l event (Between r p e) (Between r p e)
  says_event r p e = says_both (keeps_between r p e a_name keeps_name)
      (says_both (says_led r p e mark.After 8 a_name tt (λ c. refl) refl keeps_name)
      (says_both (says_begins r p e mark.Colon 16 tt (λ c. refl)) (says_list_end r p e 16 comparison refl keeps_comparison)))

  -- with so many events to come
  abbrev Events : ℕ → ℕ → ℕ → Counts → Type 0
  Events r p n c = (e : ℕ) × (e + n ≡ 8) × Between r p e c

  abbrev After_events : ℕ → ℕ → Counts → Type 0
  After_events r p c = (e : ℕ) × Between r p e c

  alive_event : Alive event
  alive_event = let s = says_event 0 0 0 in s.alive

  says_event_block : (r p n : ℕ) → Says l (both (a_mark mark.Event) event) (Events r p (suc n)) (Events r p n)
  says_event_block r p n = says_each (λ c h. Between r p h.0) (refl, alive_event) (λ c h.
      says_as (λ d x. x) (λ d x. (suc h.0, (omega (arith, h.1)), x))
      (says_both (says_mark {Q = Between r p (suc h.0)} mark.Event (λ d x. x.room) (λ d x y. y) (λ d x y. omega (arith, h.1, x.events, y))
      (λ d x. record { closed = x.closed; room = x.room; rules = x.rules; patterns = x.patterns; events = ap suc x.events }))
      (says_event r p (suc h.0)))) (λ c h. h.2)

  says_pattern : (r p : ℕ) → Says l (pattern l) (Between r p 0) (After_events r p)
  says_pattern r p =
      says_name_then r p 0 mark.OpenBrace (says_between r p 0 mark.OpenBrace tt (λ c. refl))
      (says_both (says_ended r p 0 mark.Start 16 comparison tt (λ c. refl) refl keeps_comparison)
      (says_both (says_ended r p 0 mark.Empty l.locations a_name tt (λ c. refl) refl keeps_name)
      (says_both (says_as (λ c h. (0, refl, h)) (λ c h. h)
      (says_blocks mark.Event event (Events r p) (After_events r p) alive_event (λ c h. omega (arith, h.1, h.2.events)) (says_event_block r p)
      (λ n c h. (h.0, h.2)) 8))
      (says_quiet mark.CloseBrace tt (λ c h. h.1.room) (λ c h. h)))))

  -- with so many patterns to come
  abbrev Patterns : ℕ → Counts → Type 0
  Patterns n c = (r : ℕ) × (p : ℕ) × (e : ℕ) × (p + n ≡ l.patterns) × Between r p e c

  alive_pattern : Alive (pattern l)
  alive_pattern = let s = says_pattern 0 0 in s.alive

  says_pattern_block : (n : ℕ) → Says l (both (a_mark mark.Pattern) (pattern l)) (Patterns (suc n)) (Patterns n)
  says_pattern_block n = says_each (λ c h. Between h.0 h.1 h.2) (refl, alive_pattern) (λ c h.
      says_as (λ d x. x) (λ d x. (h.0, suc h.1, x.0, omega (arith, h.3), x.1))
      (says_both (says_mark {Q = Between h.0 (suc h.1) 0} mark.Pattern (λ d x. x.room) (λ d x y. y) (λ d x y. omega (arith, h.3, x.patterns, y))
      (λ d x. record { closed = x.closed; room = x.room; rules = x.rules; patterns = ap suc x.patterns; events = refl }))
      (says_pattern h.0 (suc h.1)))) (λ c h. h.4)

  -- with so many rules to come
  abbrev Rules : ℕ → Counts → Type 0
  Rules n c = (r : ℕ) × (r + n ≡ l.rules) × Between r 0 0 c

  alive_rule : Alive rule
  alive_rule = let s = says_rule 0 0 0 in s.alive

  says_rule_block : (n : ℕ) → Says l (both (a_mark mark.Rule) rule) (Rules (suc n)) (Rules n)
  says_rule_block n = says_each (λ c h. Between h.0 0 0) (refl, alive_rule) (λ c h.
      says_as (λ d x. x) (λ d x. (suc h.0, omega (arith, h.1), x))
      (says_both (says_mark {Q = Between (suc h.0) 0 0} mark.Rule (λ d x. x.room) (λ d x y. y) (λ d x y. omega (arith, h.1, x.rules, y))
      (λ d x. record { closed = x.closed; room = x.room; rules = ap suc x.rules; patterns = x.patterns; events = x.events }))
      (says_rule (suc h.0) 0 0))) (λ c h. h.2)

  says_head : Says l (head l) (Between 0 0 0) (Between 0 0 0)
  says_head =
      says_both (says_between 0 0 0 mark.Automaton tt (λ c. refl))
      (says_name_then 0 0 0 mark.Semicolon (says_semicolon 0 0 0)
      (says_both (says_declared 0 0 0 mark.Parameters l.parameters a_name l.some_parameters tt (λ c. refl) refl keeps_name)
      (says_both (says_declared 0 0 0 mark.Shared l.shared a_name l.some_shared tt (λ c. refl) refl keeps_name)
      (says_both (says_both (says_begins 0 0 0 mark.Locations l.locations tt (λ c. refl))
      (says_list_end 0 0 0 l.locations location refl keeps_location))
      (says_both (says_between 0 0 0 mark.Processes tt (λ c. refl)) (says_both (keeps_between 0 0 0 a_sum keeps_sum) (says_semicolon 0 0 0)))))))

  pub says_file : Says l (file l) (λ c. c ≡ at_start) (λ c. Unit {0})
  says_file = says_as (λ c e. subst (Between 0 0 0) (sym e) (record { closed = refl; room = omega arith; rules = refl; patterns = refl; events = refl }))
      (λ c h. h)
      (says_both says_head (says_both (says_declared 0 0 0 mark.Resilience 16 comparison (omega arith) tt (λ c. refl) refl keeps_comparison)
      (says_both (says_as {Q = Patterns l.patterns} (λ c h. (0, none_yet l.rules, h)) (λ c h. h)
      (says_blocks mark.Rule rule Rules (Patterns l.patterns) alive_rule (λ c h. omega (arith, h.1, h.2.rules)) says_rule_block
      (λ n c h. (h.0, 0, 0, none_yet l.patterns, h.2)) l.rules))
      (says_blocks mark.Pattern (pattern l) Patterns (λ c. Unit {0}) alive_pattern (λ c h. omega (arith, h.3, let b = h.4 in b.patterns)) says_pattern_block
      (λ n c h. tt) l.patterns))))
