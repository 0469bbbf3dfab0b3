-- rows that are written one after another
use Rattle.ta_encode.proofs.Common.{◌≡◌, ℕ, suc, ℤ, pos, ◌+◌, ◌<◌, ◌≤◌, ◌-ℤ◌, List, [], ◌∷◌, ◌++◌, length, map, get_or, take, Bool, true, false, cond, arith}
use Rattle.ta_encode.proofs.Common.{sym, ap, ◌∙◌, refl, subst, append_assoc, flat_map, take_more, map-append, has_bit, less_none, one_term_value, map_same}
use Rattle.ta_encode.proofs.Common.{below_append, AllBelow, IsNormal, terms_value, Form, Row, Automaton, location_place, Meaning, place_coefficient, LinearRow}
use Rattle.ta_encode.proofs.Common.{negated, form_row, counter_row, guard_rows, start_guard_rows, IsRowOf, AreRowsOf, line_row, line_coefficient, Adds, Draft}
use Rattle.ta_encode.proofs.Common.{AreWritten, IsBehind, AddsRows, in_sense, constant_in_sense, start_sense, Sense, Plain, Opposite, Negated, map-map}
use Rattle.ta_encode.proofs.Common.{append-nil, length-take-le}
use Rattle.std.proofs.lemmas.Grind.{flat_map-append}

with_coefficients : (c : ℤ) (xs ys : List ℤ) (row : Row) → xs ≡ ys → IsRowOf (record { constant = c; coefficients = xs }) row
    → IsRowOf (record { constant = c; coefficients = ys }) row
with_coefficients c xs ys row e h = subst (λ zs. IsRowOf (record { constant = c; coefficients = zs }) row) e h

-- a line that is written in a sense is the plain one's row in this sense
pub line_in_sense : (a : Automaton) (ms : List Meaning) (ts : List (ℕ × ℤ)) (less_starts : Bool) (sense : Sense) (constant : ℤ) (row : Row)
    → IsRowOf (line_row a ms ts less_starts sense (constant_in_sense sense constant)) row
    → IsRowOf (in_sense sense (line_row a ms ts less_starts Plain constant)) row
line_in_sense a ms ts less_starts Plain constant row h = h
line_in_sense a ms ts less_starts Opposite constant row h = with_coefficients (pos 0 -ℤ constant) _ _ row
    (sym (map-map (λ c. pos 0 -ℤ c) (line_coefficient a ts less_starts Plain) ms)) h
line_in_sense a ms ts less_starts Negated constant row h = with_coefficients ((pos 0 -ℤ constant) -ℤ pos 1) _ _ row
    (sym (map-map (λ c. pos 0 -ℤ c) (line_coefficient a ts less_starts Plain) ms)) h

pub form_plain : (a : Automaton) (ms : List Meaning) (f : Form) → line_row a ms f.terms false Plain f.constant ≡ form_row a ms f
form_plain a ms f =
    ap (λ (zs : List ℤ). record { constant = f.constant; coefficients = zs })
    (map_same (line_coefficient a f.terms false Plain) (λ m. terms_value (place_coefficient a m) f.terms) ms
    (λ m. less_none (terms_value (place_coefficient a m) f.terms)))

pub counter_plain : (a : Automaton) (ms : List Meaning) (l place : ℕ) → place ≡ location_place a l
    → line_row a ms ((place, pos 1) ∷ []) false Plain (pos 0) ≡ counter_row a ms l
counter_plain a ms l place e =
    ap (λ (zs : List ℤ). record { constant = pos 0; coefficients = zs })
    (map_same (line_coefficient a ((place, pos 1) ∷ []) false Plain) (λ m. place_coefficient a m (location_place a l)) ms
    (λ m. one_term_value (place_coefficient a m place) ∙ ap (place_coefficient a m) e))

pub RowsOf-append : (ls ms : List LinearRow) (xs ys : List Row) → AreRowsOf ls xs → AreRowsOf ms ys → AreRowsOf (ls ++ ms) (xs ++ ys)
RowsOf-append [] ms [] ys h g = g
RowsOf-append (l ∷ ls) ms (x ∷ xs) ys h g = (h.0, RowsOf-append ls ms xs ys h.1 g)
RowsOf-append [] ms (x ∷ xs) ys h g = absurd h
RowsOf-append (l ∷ ls) ms [] ys h g = absurd h

pub behind_join : {X : Type 0} (before middle after : List X) → IsBehind before middle → IsBehind middle after → IsBehind before after
behind_join {X = X} before middle after h g = record
    { more = h.more ++ g.more; is = g.is ∙ ap (λ (xs : List X). xs ++ g.more) h.is ∙ append_assoc before h.more g.more }

pub adds_none : (n : ℕ) (before : List Row) → AddsRows [] n before before
adds_none n before = record {
  rows = λ done h. subst (λ (ls : List LinearRow). AreWritten ls n before) (sym (append-nil done)) h;
  behind = record
      { more = []; is = sym (append-nil before) };
}

pub adds_one : (n : ℕ) (before after : List Row) (l : LinearRow) (row : Row) → IsRowOf l row → IsNormal 0 n row.form.terms → after ≡ before ++ row ∷ []
    → AddsRows (l ∷ []) n before after
adds_one n before after l row is below e = record {
  rows = λ done h. record {
    rows_of = subst (AreRowsOf (done ++ l ∷ [])) (sym e) (RowsOf-append done (l ∷ []) before (row ∷ []) h.rows_of (is, tt));
    below = subst (AllBelow n) (sym e) (below_append n before (row ∷ []) h.below (below, tt));
  };
  behind = record { more = row ∷ []; is = e };
}

pub adds_join : (ls ms : List LinearRow) (n : ℕ) (before middle after : List Row) → AddsRows ls n before middle → AddsRows ms n middle after
    → AddsRows (ls ++ ms) n before after
adds_join ls ms n before middle after h g = record {
  rows = λ done w. subst (λ (xs : List LinearRow). AreWritten xs n after) (append_assoc done ls ms) (g.rows (done ++ ls) (h.rows done w));
  behind =
      behind_join before middle after h.behind g.behind;
}

pub adds_same : (ls ms : List LinearRow) (n : ℕ) (before after : List Row) → ls ≡ ms → AddsRows ls n before after → AddsRows ms n before after
adds_same ls ms n before after e h = subst (λ xs. AddsRows xs n before after) e h

-- the steps of loops over rows and comparisons
pub map_more : {X : Type 0} (f : X → LinearRow) (xs : List X) (i : ℕ) (d : X) → i < length xs → map f (take i xs)
    ++ f (get_or xs i d) ∷ [] ≡ map f (take (i + 1) xs)
map_more f xs i d b = sym (ap (map f) (take_more xs i d b) ∙ map-append f (take i xs) (get_or xs i d ∷ []))

pub flat_more : {X : Type 0} (f : X → List LinearRow) (xs : List X) (i : ℕ) (d : X) → i < length xs → flat_map f (take i xs)
    ++ f (get_or xs i d) ≡ flat_map f (take (i + 1) xs)
flat_more f xs i d b = sym (ap (flat_map f) (take_more xs i d b) ∙ flat_map-append f (take i xs) (get_or xs i d ∷ [])
    ∙ ap (λ ys. flat_map f (take i xs) ++ ys) (append-nil (f (get_or xs i d))))

guard_append : (a : Automaton) (ms : List Meaning) (test : ℕ → Bool) (k : ℕ) (xs ys : List Row) → guard_rows a ms test k (xs ++ ys) ≡ guard_rows a ms test k xs
    ++ guard_rows a ms test (k + length xs) ys
guard_append a ms test k [] ys = ap (λ n. guard_rows a ms test n ys) (let e : k ≡ k + 0 = omega arith in e)
guard_append a ms test k (x ∷ xs) ys =
    ap (λ ls. cond (test k) (form_row a ms x.form ∷ ls) ls)
    (guard_append a ms test (k + 1) xs ys ∙ ap (λ n. guard_rows a ms test (k + 1) xs ++ guard_rows a ms test n ys)
    (let e : k + 1 + length xs ≡ k + suc (length xs) = omega arith in e))
    ∙ pull (test k) (form_row a ms x.form) (guard_rows a ms test (k + 1) xs) (guard_rows a ms test (k + suc (length xs)) ys)
  where
    pull : (b : Bool) (l : LinearRow) (ls ks : List LinearRow) → cond b (l ∷ (ls ++ ks)) (ls ++ ks) ≡ cond b (l ∷ ls) ls ++ ks
    pull true l ls ks = refl
    pull false l ls ks = refl

pub guard_taken : (a : Automaton) (ms : List Meaning) (test : ℕ → Bool) (sense : Sense) (xs : List Row) (i : ℕ) (d : Row) → i < length xs → test i ≡ true
    → map (in_sense sense) (guard_rows a ms test 0 (take i xs))
    ++ in_sense sense (form_row a ms (get_or xs i d).form) ∷ [] ≡ map (in_sense sense) (guard_rows a ms test 0 (take (i + 1) xs))
guard_taken a ms test sense xs i d b t =
    let x = get_or xs i d in
    let more : guard_rows a ms test 0 (take (i + 1) xs) ≡ guard_rows a ms test 0 (take i xs) ++ form_row a ms x.form ∷ [] =
    ap (guard_rows a ms test 0) (take_more xs i d b) ∙ guard_append a ms test 0 (take i xs) (x ∷ [])
    ∙ ap (λ n. guard_rows a ms test 0 (take i xs) ++ guard_rows a ms test n (x ∷ []))
    (let e = length-take-le i xs (omega arith) in let f : 0 + length (take i xs) ≡ i = omega arith in f)
    ∙ ap (λ c. guard_rows a ms test 0 (take i xs) ++ cond c (form_row a ms x.form ∷ []) []) t in
    sym (ap (map (in_sense sense)) more ∙ map-append (in_sense sense) (guard_rows a ms test 0 (take i xs)) (form_row a ms x.form ∷ []))

pub guard_left : (a : Automaton) (ms : List Meaning) (test : ℕ → Bool) (sense : Sense) (xs : List Row) (i : ℕ) (d : Row) → i < length xs → test i ≡ false
    → map (in_sense sense) (guard_rows a ms test 0 (take i xs)) ≡ map (in_sense sense) (guard_rows a ms test 0 (take (i + 1) xs))
guard_left a ms test sense xs i d b t =
    let x = get_or xs i d in
    let more : guard_rows a ms test 0 (take (i + 1) xs) ≡ guard_rows a ms test 0 (take i xs) =
    ap (guard_rows a ms test 0) (take_more xs i d b) ∙ guard_append a ms test 0 (take i xs) (x ∷ [])
    ∙ ap (λ n. guard_rows a ms test 0 (take i xs) ++ guard_rows a ms test n (x ∷ []))
    (let e = length-take-le i xs (omega arith) in let f : 0 + length (take i xs) ≡ i = omega arith in f)
    ∙ ap (λ c. guard_rows a ms test 0 (take i xs) ++ cond c (form_row a ms x.form ∷ []) []) t ∙ append-nil (guard_rows a ms test 0 (take i xs)) in
    sym (ap (map (in_sense sense)) more)

start_append : (a : Automaton) (ms : List Meaning) (start k : ℕ) (xs ys : List Row)
    → start_guard_rows a ms start k (xs ++ ys) ≡ start_guard_rows a ms start k xs ++ start_guard_rows a ms start (k + length xs) ys
start_append a ms start k [] ys = ap (λ n. start_guard_rows a ms start n ys) (let e : k ≡ k + 0 = omega arith in e)
start_append a ms start k (x ∷ xs) ys =
    ap (λ ls. cond (has_bit start k) (negated (form_row a ms x.form)) (form_row a ms x.form) ∷ ls)
    (start_append a ms start (k + 1) xs ys ∙ ap (λ n. start_guard_rows a ms start (k + 1) xs ++ start_guard_rows a ms start n ys)
    (let e : k + 1 + length xs ≡ k + suc (length xs) = omega arith in e))

pub start_more : (a : Automaton) (ms : List Meaning) (start : ℕ) (xs : List Row) (i : ℕ) (d : Row) → i < length xs
    → start_guard_rows a ms start 0 (take i xs) ++ in_sense (start_sense (has_bit start i)) (form_row a ms (get_or xs i d).form) ∷ [] ≡ start_guard_rows a ms
    start 0 (take (i + 1) xs)
start_more a ms start xs i d b =
    let x = get_or xs i d in
    sym (ap (start_guard_rows a ms start 0) (take_more xs i d b) ∙ start_append a ms start 0 (take i xs) (x ∷ [])
    ∙ ap (λ n. start_guard_rows a ms start 0 (take i xs) ++ start_guard_rows a ms start n (x ∷ []))
    (let e = length-take-le i xs (omega arith) in let f : 0 + length (take i xs) ≡ i = omega arith in f)
    ∙ ap (λ l. start_guard_rows a ms start 0 (take i xs) ++ l ∷ []) (sensed (has_bit start i) (form_row a ms x.form)))
  where
    sensed : (c : Bool) (l : LinearRow) → cond c (negated l) l ≡ in_sense (start_sense c) l
    sensed true l = refl
    sensed false l = refl

pub guards_same : (a : Automaton) (ms : List Meaning) (f g : ℕ → Bool) (k n : ℕ) (rs : List Row) → ((i : ℕ) → i < n → f i ≡ g i) → k + length rs ≤ n
    → guard_rows a ms f k rs ≡ guard_rows a ms g k rs
guards_same a ms f g k n [] h b = refl
guards_same a ms f g k n (r ∷ rs) h b =
    let more = guards_same a ms f g (k + 1) n rs h (omega arith) in
    λ i. cond (h k (omega arith) i) (form_row a ms r.form ∷ more i) (more i)

pub as_they_are : (ls : List LinearRow) → map (in_sense Plain) ls ≡ ls
as_they_are [] = refl
as_they_are (l ∷ ls) = ap (λ ks. l ∷ ks) (as_they_are ls)

-- what a draft gains, at its automaton and unknowns
pub adds_at : {f : Automaton → List Meaning → List LinearRow} {before after : Draft} (a : Automaton) (ms : List Meaning) → before.automaton.now ≡ a
    → before.meanings.items ≡ ms → Adds f before after → AddsRows (f a ms) (length ms) before.rows.items after.rows.items
adds_at {f = f} {before = before} {after = after} a ms e g h =
    subst (λ (us : List Meaning). AddsRows (f a us) (length us) before.rows.items after.rows.items) g
    (subst (λ (b : Automaton). AddsRows (f b before.meanings.items) (length before.meanings.items) before.rows.items after.rows.items) e h.rows)

pub adds_nothing : (f : Automaton → List Meaning → List LinearRow) (draft : Draft) → f draft.automaton.now draft.meanings.items ≡ [] → Adds f draft draft
adds_nothing f draft e = record {
  automaton = refl;
  unknowns = refl;
  rows = adds_same [] _ (length draft.meanings.items) draft.rows.items draft.rows.items (sym e) (adds_none (length draft.meanings.items) draft.rows.items);
}

pub adds_both : {f g : Automaton → List Meaning → List LinearRow} {before middle after : Draft} → Adds f before middle → Adds g middle after
    → Adds (λ a ms. f a ms ++ g a ms) before after
adds_both {f = f} {g = g} {before = before} {middle = middle} {after = after} h k =
    let a = before.automaton.now in
    let ms = before.meanings.items in
    record {
      automaton = k.automaton ∙ h.automaton;
      unknowns = k.unknowns ∙ h.unknowns;
      rows = adds_join (f a ms) (g a ms) (length ms) before.rows.items middle.rows.items after.rows.items h.rows (adds_at a ms h.automaton h.unknowns k);
    }

pub adds_alike : {f g : Automaton → List Meaning → List LinearRow} {before after : Draft}
    → f before.automaton.now before.meanings.items ≡ g before.automaton.now before.meanings.items → Adds f before after → Adds g before after
adds_alike {before = before} {after = after} e h = record
    { automaton = h.automaton; unknowns = h.unknowns; rows = adds_same _ _ (length before.meanings.items) before.rows.items after.rows.items e h.rows }

-- one step of a loop
pub adds_more : {f g h : Automaton → List Meaning → List LinearRow} {before middle after : Draft} → f before.automaton.now before.meanings.items
    ++ g before.automaton.now before.meanings.items ≡ h before.automaton.now before.meanings.items → Adds f before middle → Adds g middle after
    → Adds h before after
adds_more e k l = adds_alike e (adds_both k l)

pub nothing_written : (n : ℕ) (rows : List Row) → rows ≡ [] → AreWritten [] n rows
nothing_written n rows e = subst (AreWritten [] n) (sym e) (record { rows_of = tt; below = tt })

-- rows behind those that a draft has
pub adds_behind : (a : Automaton) (ms : List Meaning) (done : List LinearRow) {f : Automaton → List Meaning → List LinearRow} {before after : Draft}
    → before.automaton.now ≡ a → before.meanings.items ≡ ms → AreWritten done (length before.meanings.items) before.rows.items → Adds f before after
    → (after.meanings.items ≡ ms) × AreWritten (done ++ f a ms) (length after.meanings.items) after.rows.items
adds_behind a ms done {f = f} {before = before} {after = after} e g w h =
    let are = h.unknowns ∙ g in (
      are,
      subst (λ (us : List Meaning). AreWritten (done ++ f a ms) (length us) after.rows.items) (sym are)
          ((adds_at a ms e g h).rows done (subst (λ (us : List Meaning). AreWritten done (length us) before.rows.items) g w)),
    )
