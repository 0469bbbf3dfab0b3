-- A text of the grammar within the limits has a tree of the program.
use Rattle.ta_syntax.proofs.Common.{◌≡◌, ℕ, ◌+◌, ◌≤◌, Bool, true, false, List, [], ◌∷◌, ◌++◌, length, map, refl, sym, ap, ap₂, subst, ◌∙◌, arith, length-append}
use Rattle.ta_syntax.proofs.Common.{AllByRecursion, all_both, length_of_map, IsNameText, kind_bytes, PlainComparison, PlainTree, sum_kinds, relation_kind}
use Rattle.ta_syntax.proofs.Common.{listed, further, led, ended, each, name_kinds, initial_kinds, location_kinds, comparison_kinds, update_kinds, rule_kinds}
use Rattle.ta_syntax.proofs.Common.{event_kinds, pattern_kinds, file_kinds, IsSum, IsSome, IsComparison, IsUpdate, IsRule, IsEvent, IsPattern, IsTree}
use Rattle.ta_syntax.proofs.Common.{plain_sum, sum_depth, plain_name, plain_comparison, plain_location, plain_update, plain_rule, plain_event, plain_pattern}
use Rattle.ta_syntax.proofs.Common.{plain_tree, Offsets, IsPlaced, at_first, unplaced, sum_stated, name_stated, initial_stated, location_stated}
use Rattle.ta_syntax.proofs.Common.{comparison_stated, update_stated, rule_stated, event_stated, pattern_stated, tree_stated, IsShallow, IsRuleWithin}
use Rattle.ta_syntax.proofs.Common.{IsEventWithin, IsPatternWithin, IsTreeWithin, kinds, offset_of, ScansTo, IsLastGap, IsTextOf, IsDigits, IsTreeOf, Kind}
use Rattle.ta_syntax.proofs.Common.{Mark, Relation, Token, Tree, Digits, Limits}
use Rattle.ta_syntax.proofs.BuiltSums.{tail, before, behind, Small, small_tail, small_before, small_behind, kinds_tail, kinds_before, kinds_behind, placed_mark}
use Rattle.ta_syntax.proofs.BuiltSums.{placed_name, placed_last, placed_none, placed_first, placed_both, sum_built}
use Rattle.ta_syntax.proofs.Scans.{kind_some}
use Rattle.ta_syntax.specs.declared.tokens.Kind.TheVariants as kind
use Rattle.ta_syntax.specs.declared.tokens.Mark.TheVariants as mark

abbrev fixed : Mark → Kind
fixed m = kind.Fixed m

-- a value of the program with the plain form p, whose tokens are front
record Built {A P : Type 0} (plain : A → P) (stated : A → List Offsets) (p : P) (front : List Token) : Type 0 where
  value : A
  same : plain value ≡ p
  placed : IsPlaced (stated value) front

-- each good plain form has a value
record Builds {A P : Type 0} (plain : A → P) (stated : A → List Offsets) (spell : P → List Kind) (Good : P → Type 0) : Type 0 where
  build : (p : P) → Good p → (front : List Token) → kinds front ≡ spell p → Small front → Built plain stated p front

-- ---- parts, one behind another

module _ {A P : Type 0} {plain : A → P} {stated : A → List Offsets} {spell : P → List Kind} {Good : P → Type 0} (x : Builds plain stated spell Good) where
  -- a mark before it
  b_after : (m : Mark) → Builds plain (λ v. [] ∷ stated v) (λ p. fixed m ∷ spell p) Good
  b_after m = record {
    build = λ p good front e small.
        let b = x.build p good (tail front) (kinds_tail (fixed m) (spell p) front e) (small_tail front small) in
        record { value = b.value; same = b.same; placed = placed_mark (fixed m) (spell p) front (stated b.value) e b.placed };
  }

  -- the offset of its first token
  b_first : Builds (λ (v : ℕ × A). plain v.1) (λ v. at_first v.0 (stated v.1)) spell Good
  b_first = record {
    build = λ p good front e small.
        let b = x.build p good front e small in
        record { value = (offset_of 0 front, b.value); same = b.same; placed = placed_first (stated b.value) front b.placed };
  }

b_both : {A B P Q : Type 0} {f : A → P} {g : B → Q} {s : A → List Offsets} {t : B → List Offsets} {h : P → List Kind} {k : Q → List Kind} {F : P → Type 0}
    {G : Q → Type 0} → Builds f s h F → Builds g t k G
    → Builds (λ (v : A × B). (f v.0, g v.1)) (λ v. s v.0 ++ t v.1) (λ (p : P × Q). h p.0 ++ k p.1) (λ p. F p.0 × G p.1)
b_both {P = P} {Q = Q} {s = s} {t = t} {h = h} {k = k} x y = record {
  build = λ p good front e small.
      let a = x.build p.0 good.0 (before (h p.0) front) (kinds_before (h p.0) (k p.1) front e) (small_before (h p.0) front small) in
      let b = y.build p.1 good.1 (behind (h p.0) front) (kinds_behind (h p.0) (k p.1) front e) (small_behind (h p.0) front small) in
      record {
        value = (a.value, b.value);
        same = ap₂ (λ (u : P) (v : Q). (u, v)) a.same b.same;
        placed = placed_both (h p.0) (k p.1) front (s a.value) (t b.value) e a.placed b.placed;
      };
}

b_mark : (m : Mark) → Builds (λ (v : Unit {0}). v) (λ v. [] ∷ []) (λ p. fixed m ∷ []) (λ p. Unit {0})
b_mark m = record { build = λ p good front e small. record { value = tt; same = refl; placed = placed_last (fixed m) front e } }

-- the same values in another form
b_as : {A B P Q : Type 0} {f : A → P} {g : B → Q} {s : A → List Offsets} {t : B → List Offsets} {h : P → List Kind} {k : Q → List Kind} {F : P → Type 0}
    {G : Q → Type 0} → (to : Q → P) (from : P → Q) → ((q : Q) → from (to q) ≡ q) → ((q : Q) → G q → F (to q)) → ((q : Q) → k q ≡ h (to q))
    → (make : (q : Q) → G q → (v : A) → f v ≡ to q → B) → ((q : Q) (good : G q) (v : A) (e : f v ≡ to q) → g (make q good v e) ≡ from (f v))
    → ((q : Q) (good : G q) (v : A) (e : f v ≡ to q) → t (make q good v e) ≡ s v) → Builds f s h F → Builds g t k G
b_as to from again goods spells make plains states x = record {
  build = λ q good front e small.
      let b = x.build (to q) (goods q good) front (e ∙ spells q) small in
      record {
        value = make q good b.value b.same;
        same = plains q good b.value b.same ∙ ap from b.same ∙ again q;
        placed = subst (λ (o : List Offsets). IsPlaced o front) (sym (states q good b.value b.same)) b.placed;
      };
}

-- a mark behind it
b_before : {A P : Type 0} {f : A → P} {s : A → List Offsets} {h : P → List Kind} {F : P → Type 0} → Builds f s h F → (m : Mark)
    → Builds f (λ v. s v ++ [] ∷ []) (λ p. h p ++ fixed m ∷ []) F
b_before x m = b_as (λ p. (p, tt)) (λ p. p.0) (λ p. refl) (λ p good. (good, tt)) (λ p. refl) (λ p good v e. v.0) (λ p good v e. refl) (λ p good v e. refl)
    (b_both x (b_mark m))

-- ---- lists
module _ {A P : Type 0} {plain : A → P} {stated : A → List Offsets} {spell : P → List Kind} {Good : P → Type 0} (item : Builds plain stated spell Good) where
  abbrev Rest : (List A → List Offsets) → List P → List Kind → Type 0
  Rest rest ps ks = (back : List Token) → kinds back ≡ ks → Small back → Built (map plain) rest ps back

  none_built : (rest : List A → List Offsets) → rest [] ≡ [] → Rest rest [] []
  none_built rest is front e small = record { value = []; same = refl; placed = subst (λ (o : List Offsets). IsPlaced o front) (sym is) (placed_none front e) }

  -- an item and those behind it
  cons_built : (rest all : List A → List Offsets) → ((x : A) (xs : List A) → all (x ∷ xs) ≡ stated x ++ rest xs) → (p : P) (ps : List P) (more : List Kind)
      → Good p → Rest rest ps more → Rest all (p ∷ ps) (spell p ++ more)
  cons_built rest all is p ps more good others front e small =
      let x = item.build p good (before (spell p) front) (kinds_before (spell p) more front e) (small_before (spell p) front small) in
      let xs = others (behind (spell p) front) (kinds_behind (spell p) more front e) (small_behind (spell p) front small) in
      record {
        value = x.value ∷ xs.value;
        same = ap₂ (λ (q : P) (qs : List P). q ∷ qs) x.same xs.same;
        placed = subst (λ (o : List Offsets). IsPlaced o front) (sym (is x.value xs.value))
            (placed_both (spell p) more front (stated x.value) (rest xs.value) e x.placed xs.placed);
      }

  -- a list that isn't empty, behind a mark
  marked_built : (m : Mark) (body all : List A → List Offsets) → ((x : A) (xs : List A) → all (x ∷ xs) ≡ [] ∷ body (x ∷ xs)) → (p : P) (ps : List P)
      (ks : List Kind) → Rest body (p ∷ ps) ks → Rest all (p ∷ ps) (fixed m ∷ ks)
  marked_built m body all is p ps ks list front e small =
      let xs = list (tail front) (kinds_tail (fixed m) ks front e) (small_tail front small) in
      record { value = xs.value; same = xs.same; placed = placed_list xs.value xs.same xs.placed }
    where
      placed_list : (xs : List A) → map plain xs ≡ p ∷ ps → IsPlaced (body xs) (tail front) → IsPlaced (all xs) front
      placed_list [] s placed = absurd cc
      placed_list (x ∷ xs) s placed = subst (λ (o : List Offsets). IsPlaced o front) (sym (is x xs))
          (placed_mark (fixed m) ks front (body (x ∷ xs)) e placed)

  further_built : (ps : List P) → AllByRecursion Good ps → Rest (further unplaced stated) ps (further kind.Fixed spell ps)
  further_built [] all = none_built (further unplaced stated) refl
  further_built (p ∷ ps) all = marked_built mark.Comma (listed unplaced stated) (further unplaced stated) (λ x xs. refl) p ps (listed kind.Fixed spell (p ∷ ps))
      (cons_built (further unplaced stated) (listed unplaced stated) (λ x xs. refl) p ps (further kind.Fixed spell ps) all.0 (further_built ps all.1))

  listed_built : (ps : List P) → AllByRecursion Good ps → Rest (listed unplaced stated) ps (listed kind.Fixed spell ps)
  listed_built [] all = none_built (listed unplaced stated) refl
  listed_built (p ∷ ps) all =
      cons_built (further unplaced stated) (listed unplaced stated) (λ x xs. refl) p ps (further kind.Fixed spell ps) all.0 (further_built ps all.1)

  each_built : (ps : List P) → AllByRecursion Good ps → Rest (each stated) ps (each spell ps)
  each_built [] all = none_built (each stated) refl
  each_built (p ∷ ps) all = cons_built (each stated) (each stated) (λ x xs. refl) p ps (each spell ps) all.0 (each_built ps all.1)

  b_listed : Builds (map plain) (listed unplaced stated) (listed kind.Fixed spell) (AllByRecursion Good)
  b_listed = record { build = listed_built }

  b_each : Builds (map plain) (each stated) (each spell) (AllByRecursion Good)
  b_each = record { build = each_built }

  b_list_end : Builds (map plain) (λ xs. listed unplaced stated xs ++ [] ∷ []) (λ ps. listed kind.Fixed spell ps ++ fixed mark.Semicolon ∷ [])
      (AllByRecursion Good)
  b_list_end = b_before b_listed mark.Semicolon

  led_built : (m : Mark) (ps : List P) → AllByRecursion Good ps → Rest (led unplaced m stated) ps (led kind.Fixed m spell ps)
  led_built m [] all = none_built (led unplaced m stated) refl
  led_built m (p ∷ ps) all =
      marked_built m (listed unplaced stated) (led unplaced m stated) (λ x xs. refl) p ps (listed kind.Fixed spell (p ∷ ps)) (listed_built (p ∷ ps) all)

  b_led : (m : Mark) → Builds (map plain) (led unplaced m stated) (led kind.Fixed m spell) (AllByRecursion Good)
  b_led m = record { build = led_built m }

  ended_built : (m : Mark) (ps : List P) → AllByRecursion Good ps → Rest (ended unplaced m stated) ps (ended kind.Fixed m spell ps)
  ended_built m [] all = none_built (ended unplaced m stated) refl
  ended_built m (p ∷ ps) all = marked_built m (λ xs. listed unplaced stated xs ++ [] ∷ []) (ended unplaced m stated) (λ x xs. refl) p ps
      (listed kind.Fixed spell (p ∷ ps) ++ fixed mark.Semicolon ∷ []) (b_list_end.build (p ∷ ps) all)

  b_ended : (m : Mark) → Builds (map plain) (ended unplaced m stated) (ended kind.Fixed m spell) (AllByRecursion Good)
  b_ended m = record { build = ended_built m }

-- a list of the program is as long as that of its plain forms
few_as : {A P : Type 0} (plain : A → P) (n : ℕ) (xs : List A) (ps : List P) → map plain xs ≡ ps → length ps ≤ n → length xs ≤ n
few_as plain n xs ps e few = subst (λ (k : ℕ). k ≤ n) (sym (length_of_map plain xs ps e)) few

-- the same with a wider limit
few_up_to : {A P : Type 0} (plain : A → P) (n most : ℕ) (xs : List A) (ps : List P) → map plain xs ≡ ps → length ps ≤ n → n ≤ most → length xs ≤ most
few_up_to plain n most xs ps e few up = let f : length xs ≤ n = few_as plain n xs ps e few in omega arith

some_as : {A P : Type 0} (plain : A → P) (xs : List A) (ps : List P) → map plain xs ≡ ps → IsSome ps → 1 ≤ length xs
some_as plain [] [] e some = absurd some
some_as plain [] (p ∷ ps) e some = absurd cc
some_as plain (x ∷ xs) ps e some = omega arith

-- ---- items
b_name : Builds plain_name name_stated name_kinds IsNameText
b_name = record {
  build = λ n is front e small. record {
    value = record { name = n; at = offset_of 0 front; legal = is };
    same = refl;
    placed = placed_name (kind.Name n) [] front [] e (placed_none (tail front) (kinds_tail (kind.Name n) [] front e));
  };
}

b_number : Builds (λ (d : Digits). d.text) (λ d. (d.at ∷ []) ∷ []) (λ d. kind.Number d ∷ []) IsDigits
b_number = record {
  build = λ d is front e small. record {
    value = record { text = d; at = offset_of 0 front; legal = is };
    same = refl;
    placed = placed_name (kind.Number d) [] front [] e (placed_none (tail front) (kinds_tail (kind.Number d) [] front e));
  };
}

-- a keyword with its offset
b_placed : (m : Mark) → Builds (λ (at : ℕ). tt) (λ at. (at ∷ []) ∷ []) (λ (p : Unit {0}). fixed m ∷ []) (λ p. Unit {0})
b_placed m = record {
  build = λ p is front e small. record {
    value = offset_of 0 front;
    same = refl;
    placed = placed_name (fixed m) [] front [] e (placed_none (tail front) (kinds_tail (fixed m) [] front e));
  };
}

b_sum : Builds plain_sum sum_stated sum_kinds IsSum
b_sum = record { build = λ ts is front e small. let b = sum_built ts is front e small in record { value = b.value; same = b.plain; placed = b.placed } }

b_relation : Builds (λ (r : Relation). r) (λ r. [] ∷ []) (λ r. relation_kind r ∷ []) (λ r. Unit {0})
b_relation = record { build = λ r is front e small. record { value = r; same = refl; placed = placed_last (relation_kind r) front e } }

b_initial : Builds (λ (b : Bool). b) initial_stated initial_kinds (λ b. Unit {0})
b_initial = record { build = λ b is front e small. record { value = b; same = refl; placed = initial_placed b front e } }
  where
    initial_placed : (b : Bool) (ts : List Token) → kinds ts ≡ initial_kinds b → IsPlaced (initial_stated b) ts
    initial_placed true ts e = placed_last (fixed mark.Initial) ts e
    initial_placed false ts e = placed_none ts e

b_location : Builds plain_location location_stated location_kinds (λ l. IsNameText l.name)
b_location = b_as (λ l. (l.name, l.initial)) (λ p. record { name = p.0; initial = p.1 }) (λ l. refl) (λ l is. (is, tt)) (λ l. refl)
    (λ l is v e. record { name = v.0; initial = v.1 }) (λ l is v e. refl) (λ l is v e. refl) (b_both b_name b_initial)

b_update : Builds plain_update update_stated update_kinds IsUpdate
b_update = b_as (λ u. (u.name, u.amount)) (λ p. record { name = p.0; amount = p.1 }) (λ u. refl) (λ u is. (is.name, is.amount)) (λ u. refl)
    (λ u is v e. record { name = v.0; amount = v.1 }) (λ u is v e. refl) (λ u is v e. refl) (b_both b_name (b_after b_number mark.PlusEquals))

-- of the grammar, and within the limits
record Good {P : Type 0} (Is Within : P → Type 0) (p : P) : Type 0 where
  legal : Is p
  within : Within p

all_good : {P : Type 0} (Is Within : P → Type 0) (ps : List P) → AllByRecursion Is ps → AllByRecursion Within ps → AllByRecursion (Good Is Within) ps
all_good Is Within = all_both Is Within (Good Is Within) (λ p is within. record { legal = is; within = within })

abbrev GoodComparison : PlainComparison → Type 0
GoodComparison = Good IsComparison IsShallow

b_comparison : Builds plain_comparison comparison_stated comparison_kinds GoodComparison
b_comparison = b_as (λ c. (c.left, (c.relation, c.right))) (λ p. record { left = p.0; relation = p.1.0; right = p.1.1 }) (λ c. refl)
    (λ c good. (good.legal.left, (tt, good.legal.right))) (λ c. refl)
    (λ c good v e. record {
      at = v.0;
      left = v.1.0;
      relation = v.1.1.0;
      right = v.1.1.1;
      is_left = subst IsSum (sym (ap (λ p. p.0) e)) good.legal.left;
      is_right = subst IsSum (sym (ap (λ p. p.1.1) e)) good.legal.right;
      shallow_left = subst (λ x. sum_depth x ≤ 32) (sym (ap (λ p. p.0) e)) good.within.left;
      shallow_right = subst (λ x. sum_depth x ≤ 32) (sym (ap (λ p. p.1.1) e)) good.within.right;
    }) (λ c good v e. refl) (λ c good v e. refl) (b_first (b_both b_sum (b_both b_relation b_sum)))

-- ---- rules, events and patterns
b_rule : Builds plain_rule rule_stated rule_kinds (Good IsRule IsRuleWithin)
b_rule = b_as (λ r. (r.name, (r.from, (r.to, (r.guards, r.updates)))))
    (λ p. record { name = p.0; from = p.1.0; to = p.1.1.0; guards = p.1.1.1.0; updates = p.1.1.1.1 }) (λ r. refl)
    (λ r good. (
      good.legal.name,
      (
        good.legal.from,
        (
          good.legal.to,
          (all_good IsComparison IsShallow r.guards good.legal.guards good.within.shallow, good.legal.updates),
        ),
      ),
    )) (λ r. refl)
    (λ r good v e. record {
      name = v.0;
      from = v.1.0;
      to = v.1.1.0;
      guards = v.1.1.1.0;
      updates = v.1.1.1.1;
      few_guards = few_as plain_comparison 16 v.1.1.1.0 r.guards (ap (λ p. p.1.1.1.0) e) good.within.guards;
      few_updates = few_as plain_update 16 v.1.1.1.1 r.updates (ap (λ p. p.1.1.1.1) e) good.within.updates;
    }) (λ r good v e. refl) (λ r good v e. refl)
    (b_after (b_both b_name (b_after (b_both b_name (b_after (b_both b_name
    (b_both (b_led b_comparison mark.When) (b_before (b_led b_update mark.Do) mark.Semicolon))) mark.Arrow)) mark.Colon)) mark.Rule)

b_event : Builds plain_event event_stated event_kinds (Good IsEvent IsEventWithin)
b_event = b_as (λ v. (v.name, (v.after, v.condition))) (λ p. record { name = p.0; after = p.1.0; condition = p.1.1 }) (λ v. refl)
    (λ v good. (good.legal.name, (good.legal.after, all_good IsComparison IsShallow v.condition good.legal.condition good.within.shallow))) (λ v. refl)
    (λ p good v e. record {
      name = v.0;
      after = v.1.0;
      condition = v.1.1;
      few_after = few_as plain_name 8 v.1.0 p.after (ap (λ q. q.1.0) e) good.within.after;
      some = some_as plain_comparison v.1.1 p.condition (ap (λ q. q.1.1) e) good.legal.some;
      few = few_as plain_comparison 16 v.1.1 p.condition (ap (λ q. q.1.1) e) good.within.condition;
    }) (λ p good v e. refl) (λ p good v e. refl)
    (b_after (b_both b_name (b_both (b_led b_name mark.After) (b_after (b_list_end b_comparison) mark.Colon))) mark.Event)

b_pattern : (l : Limits) → Builds plain_pattern pattern_stated pattern_kinds (Good IsPattern (IsPatternWithin l))
b_pattern l = b_as (λ p. (p.name, (p.start, (p.empty, p.events)))) (λ p. record { name = p.0; start = p.1.0; empty = p.1.1.0; events = p.1.1.1 }) (λ p. refl)
    (λ p good. (
      good.legal.name,
      (
        all_good IsComparison IsShallow p.start good.legal.start good.within.shallow,
        (good.legal.empty, all_good IsEvent IsEventWithin p.events good.legal.events good.within.each_event),
      ),
    )) (λ p. refl)
    (λ p good v e. record {
      name = v.0;
      start = v.1.0;
      empty = v.1.1.0;
      events = v.1.1.1;
      few_start = few_as plain_comparison 16 v.1.0 p.start (ap (λ q. q.1.0) e) good.within.start;
      few_empty = few_up_to plain_name l.locations 128 v.1.1.0 p.empty (ap (λ q. q.1.1.0) e) good.within.empty l.few_locations;
      few_events = few_as plain_event 8 v.1.1.1 p.events (ap (λ q. q.1.1.1) e) good.within.events;
    }) (λ p good v e. refl) (λ p good v e. refl)
    (b_after (b_both b_name (b_after (b_both (b_ended b_comparison mark.Start) (b_both (b_ended b_name mark.Empty) (b_before (b_each b_event) mark.CloseBrace)))
    mark.OpenBrace)) mark.Pattern)

-- ---- files
b_tree : (l : Limits) → Builds plain_tree tree_stated file_kinds (Good IsTree (IsTreeWithin l))
b_tree l = b_as
    (λ t. (t.name, (t.parameters, (t.shared, (tt, (t.locations, (t.processes, (t.resilience, (t.rules, t.patterns)))))))))
    (λ p. record {
      name = p.0;
      parameters = p.1.0;
      shared = p.1.1.0;
      locations = p.1.1.1.1.0;
      processes = p.1.1.1.1.1.0;
      resilience = p.1.1.1.1.1.1.0;
      rules = p.1.1.1.1.1.1.1.0;
      patterns = p.1.1.1.1.1.1.1.1;
    }) (λ t. refl)
    (λ t good. (
      good.legal.name,
      (
        good.legal.parameters,
        (
          good.legal.shared,
          (
            tt,
            (
              good.legal.locations,
              (
                good.legal.processes,
                (
                  all_good IsComparison IsShallow t.resilience good.legal.resilience good.within.shallow,
                  (
                    all_good IsRule IsRuleWithin t.rules good.legal.rules good.within.each_rule,
                    all_good IsPattern (IsPatternWithin l) t.patterns good.legal.patterns good.within.each_pattern,
                  ),
                ),
              ),
            ),
          ),
        ),
      ),
    )) (λ t. refl)
    (λ t good v e. record {
      name = v.0;
      parameters = v.1.0;
      shared = v.1.1.0;
      locations_at = v.1.1.1.0;
      locations = v.1.1.1.1.0;
      processes_at = v.1.1.1.1.1.0.0;
      processes = v.1.1.1.1.1.0.1;
      resilience = v.1.1.1.1.1.1.0;
      rules = v.1.1.1.1.1.1.1.0;
      patterns = v.1.1.1.1.1.1.1.1;
      few_parameters = few_up_to plain_name l.parameters 32 v.1.0 t.parameters (ap (λ p. p.1.0) e) good.within.parameters l.few_parameters;
      few_shared = few_up_to plain_name l.shared 64 v.1.1.0 t.shared (ap (λ p. p.1.1.0) e) good.within.shared l.few_shared;
      some_locations = some_as plain_location v.1.1.1.1.0 t.locations (ap (λ p. p.1.1.1.1.0) e) good.legal.some;
      few_locations = few_up_to plain_location l.locations 128 v.1.1.1.1.0 t.locations (ap (λ p. p.1.1.1.1.0) e) good.within.locations l.few_locations;
      is_processes = subst IsSum (sym (ap (λ p. p.1.1.1.1.1.0) e)) good.legal.processes;
      shallow_processes = subst (λ x. sum_depth x ≤ 32) (sym (ap (λ p. p.1.1.1.1.1.0) e)) good.within.processes;
      few_resilience = few_as plain_comparison 16 v.1.1.1.1.1.1.0 t.resilience (ap (λ p. p.1.1.1.1.1.1.0) e) good.within.resilience;
      few_rules = few_up_to plain_rule l.rules 1024 v.1.1.1.1.1.1.1.0 t.rules (ap (λ p. p.1.1.1.1.1.1.1.0) e) good.within.rules l.few_rules;
      few_patterns = few_up_to plain_pattern l.patterns 64 v.1.1.1.1.1.1.1.1 t.patterns (ap (λ p. p.1.1.1.1.1.1.1.1) e) good.within.patterns
          l.few_patterns;
    }) (λ t good v e. refl) (λ t good v e. refl)
    (b_after (b_both b_name (b_after (b_after (b_both (b_listed b_name) (b_after (b_after (b_both (b_listed b_name) (b_after (b_both (b_placed mark.Locations)
    (b_both (b_listed b_location) (b_after (b_after (b_both (b_first b_sum) (b_after (b_after (b_both (b_listed b_comparison)
    (b_after (b_both (b_each b_rule) (b_each (b_pattern l))) mark.Semicolon)) mark.Resilience) mark.Semicolon)) mark.Processes) mark.Semicolon)))
    mark.Semicolon)) mark.Shared) mark.Semicolon)) mark.Parameters) mark.Semicolon)) mark.Automaton)

-- a text has no more tokens than bytes
few_tokens : (P : ℕ → List ℕ → Type 0) (at : ℕ) (bytes : List ℕ) (ts : List Token) → ScansTo P at bytes ts → length ts ≤ length bytes
few_tokens P at bytes [] h = omega arith
few_tokens P at bytes (t ∷ ts) h =
    omega (
      arith,
      few_tokens P (t.at + length (kind_bytes t.kind)) h.1 ts h.7,
      ap length h.3,
      length-append h.0 (kind_bytes t.kind ++ h.1),
      length-append
          (kind_bytes t.kind) h.1,
      kind_some t.kind h.5,
    )

pub trees_exist : (l : Limits) (bytes : List ℕ) (t : PlainTree) → length bytes ≤ 4194304 → IsTextOf bytes t → IsTreeWithin l t → (tree : Tree)
    × IsTreeOf l bytes tree × (plain_tree tree ≡ t)
trees_exist l bytes t small text within =
    let few : length text.tokens ≤ length bytes = few_tokens (λ at rest. IsLastGap rest) 0 bytes text.tokens text.are in
    let builds = b_tree l in
    let b = builds.build t (record { legal = text.legal; within = within }) text.tokens text.spelled (omega arith) in (
      b.value,
      record {
        tokens = text.tokens;
        are = text.are;
        spelled = text.spelled
            ∙ ap file_kinds (sym b.same);
        placed = b.placed;
        legal = subst IsTree (sym b.same) text.legal;
        within = subst (IsTreeWithin l) (sym b.same) within;
      },
      b.same,
    )
