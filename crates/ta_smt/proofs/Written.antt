-- The text of a system, as it is written.
use Rattle.ta_smt.proofs.Common.{ℕ, ℤ, zero, suc, pos, ◌+◌, ◌-◌, ◌<◌, ◌≤◌, ◌≡◌, Bool, true, false, cond, eqb, List, [], ◌∷◌, ◌++◌, length, map, drop, get_or}
use Rattle.ta_smt.proofs.Common.{codes, decimal, refl, sym, ap, ◌∙◌, append_assoc, append-nil, arith, length-append, flat_map, at_drop_all, at_drop_more}
use Rattle.ta_smt.proofs.Common.{map-append, append_nothing, piece_written, Form, Row, System, range_with_len, zero_text, lines_text, lines_text-append, Side}
use Rattle.ta_smt.proofs.Common.{Summand, Numeral, Unknown, Product, assert_line, declare_line, summand_text, summands_text, term_text, constant, multiple}
use Rattle.ta_smt.proofs.Common.{natural_claim, on_side, part, row_claim, summed_term, summands, system_text, led_text}

-- the lines of the numbers that are left
pub next_line : (f : ℕ → List ℕ) (k n : ℕ) → k < n → lines_text (map f (range_with_len k (n - k))) ≡ f k
    ++ (10 ∷ lines_text (map f (range_with_len (k + 1) (n - (k + 1)))))
next_line f k n below = let e : n - k ≡ suc (n - (k + 1)) = omega arith in ap (λ m. lines_text (map f (range_with_len k m))) e

pub no_lines : (f : ℕ → List ℕ) (k n : ℕ) → n ≤ k → lines_text (map f (range_with_len k (n - k))) ≡ []
no_lines f k n above = let e : n - k ≡ 0 = omega arith in ap (λ m. lines_text (map f (range_with_len k m))) e

-- the line of a number is written
pub line_written : (f : ℕ → List ℕ) (k n : ℕ) (old new bytes all : List ℕ) → k < n → bytes ≡ f k ++ (10 ∷ []) → new ≡ old ++ bytes → old
    ++ lines_text (map f (range_with_len k (n - k))) ≡ all → new ++ lines_text (map f (range_with_len (k + 1) (n - (k + 1)))) ≡ all
line_written f k n old new bytes all below is written so_far =
    let rest = lines_text (map f (range_with_len (k + 1) (n - (k + 1)))) in
    piece_written old new bytes (lines_text (map f (range_with_len k (n - k)))) rest all written
    (next_line f k n below ∙ sym (ap (λ xs. xs ++ rest) is ∙ append_assoc (f k) (10 ∷ []) rest)) so_far

pub lines_written : (f : ℕ → List ℕ) (k n : ℕ) (old all : List ℕ) → n ≤ k → old ++ lines_text (map f (range_with_len k (n - k))) ≡ all → old ≡ all
lines_written f k n old all above so_far = append_nothing old (lines_text (map f (range_with_len k (n - k)))) all (no_lines f k n above) so_far

pub declared : (k : ℕ) → codes "(declare-fun u" ++ (decimal k ++ codes " () Int)\n") ≡ declare_line k ++ (10 ∷ [])
declared k = ap (λ xs. codes "(declare-fun u" ++ xs) (sym (append_assoc (decimal k) (codes " () Int)") (10 ∷ [])))

abbrev pub natural_line : ℕ → List ℕ
natural_line k = assert_line (natural_claim k)

pub claimed : (k : ℕ) → codes "(assert (>= u" ++ (decimal k ++ codes " 0))\n") ≡ natural_line k ++ (10 ∷ [])
claimed k =
    ap (λ xs. codes "(assert (>= u" ++ xs) (sym (append_assoc (decimal k) (codes " 0))") (10 ∷ [])))
    ∙ ap (λ zs. codes "(assert (>= u" ++ ((decimal k ++ (32 ∷ (zs ++ codes "))"))) ++ (10 ∷ []))) zero_text

pub maps_once : (k n : ℕ) → map natural_line (range_with_len k n) ≡ map assert_line (map natural_claim (range_with_len k n))
maps_once k zero = refl
maps_once k (suc n) = ap (λ (ls : List (List ℕ)). natural_line k ∷ ls) (maps_once (k + 1) n)

-- texts of summands
pub led-append : (lead : List ℕ) (ss ts : List Summand) → led_text lead (ss ++ ts) ≡ led_text lead ss ++ led_text lead ts
led-append lead [] ts = refl
led-append lead (s ∷ ss) ts =
    let rest = led-append lead ss ts in
    ap (λ xs. lead ++ (summand_text s ++ xs)) rest ∙ ap (λ xs. lead ++ xs) (sym (append_assoc (summand_text s) (led_text lead ss) (led_text lead ts)))
    ∙ sym (append_assoc lead (summand_text s ++ led_text lead ss) (led_text lead ts))

spaced : (ss : List Summand) → led_text (codes " ") ss ≡ summands_text ss
spaced [] = refl
spaced (s ∷ ss) = ap (λ xs. 32 ∷ (summand_text s ++ xs)) (spaced ss)

-- the term of summands, by how many there are
pub none_text : (ss : List Summand) → length ss ≡ 0 → codes "0" ≡ term_text (summed_term ss)
none_text [] e = zero_text
none_text (s ∷ ss) e = absurd (omega arith)

pub one_text : (ss : List Summand) → length ss ≡ 1 → led_text [] ss ≡ term_text (summed_term ss)
one_text [] e = absurd (omega arith)
one_text (s ∷ []) e = append-nil (summand_text s)
one_text (s ∷ t ∷ ss) e = absurd (omega arith)

pub more_text : (ss : List Summand) → 2 ≤ length ss → codes "(+" ++ (led_text (codes " ") ss ++ codes ")") ≡ term_text (summed_term ss)
more_text [] e = absurd (omega arith)
more_text (s ∷ []) e = absurd (omega arith)
more_text (s ∷ t ∷ ss) e = ap (λ xs. codes "(+" ++ (xs ++ codes ")")) (spaced (s ∷ t ∷ ss))

-- a row more is written
abbrev pub rows_text : List Row → List ℕ
rows_text rows = lines_text (map assert_line (map row_claim rows))

pub row_written : (rows : List Row) (i : ℕ) (row : Row) (old new all : List ℕ) → i < length rows → row ≡ get_or rows i row → new ≡ old
    ++ lines_text (assert_line (row_claim row) ∷ []) → old ++ rows_text (drop i rows) ≡ all → new ++ rows_text (drop (i + 1) rows) ≡ all
row_written rows i row old new all within is written so_far =
    let rest = rows_text (drop (i + 1) rows) in
    let line = assert_line (row_claim row) in
    let next : rows_text (drop i rows) ≡ line ++ (10 ∷ rest) = at_drop_more rows_text rows i row within
    ∙ ap (λ (r : Row). assert_line (row_claim r) ++ (10 ∷ rest)) (sym is) in
    piece_written old new (line ++ (10 ∷ [])) (rows_text (drop i rows)) rest all written (next ∙ sym (append_assoc line (10 ∷ []) rest)) so_far

pub rows_written : (rows : List Row) (i : ℕ) (old all : List ℕ) → length rows ≤ i → old ++ rows_text (drop i rows) ≡ all → old ≡ all
rows_written rows i old all above so_far = append_nothing old (rows_text (drop i rows)) all (at_drop_all rows_text rows i above) so_far

-- a term more is written
abbrev pub terms_text : Side → List ℕ → List (ℕ × ℤ) → List ℕ
terms_text side lead ts = led_text lead (flat_map (on_side side) ts)

pub term_written : (side : Side) (lead : List ℕ) (ts : List (ℕ × ℤ)) (i factor : ℕ) (old new all : List ℕ) → i < length ts
    → factor ≡ part side (get_or ts i (0, pos 0)).1 → new ≡ old ++ led_text lead (multiple factor (get_or ts i (0, pos 0)).0) → old
    ++ terms_text side lead (drop i ts) ≡ all → new ++ terms_text side lead (drop (i + 1) ts) ≡ all
term_written side lead ts i factor old new all within is written so_far =
    let t = get_or ts i (0, pos 0) in
    let rest = terms_text side lead (drop (i + 1) ts) in
    let next : terms_text side lead (drop i ts) ≡ led_text lead (on_side side t) ++ rest = at_drop_more (terms_text side lead) ts i (0, pos 0) within
    ∙ led-append lead (on_side side t) (flat_map (on_side side) (drop (i + 1) ts)) in
    piece_written old new (led_text lead (on_side side t)) (terms_text side lead (drop i ts)) rest all
    (written ∙ ap (λ f. old ++ led_text lead (multiple f t.0)) is) next so_far

pub terms_written : (side : Side) (lead : List ℕ) (ts : List (ℕ × ℤ)) (i : ℕ) (old all : List ℕ) → length ts ≤ i → old ++ terms_text side lead (drop i ts) ≡ all
    → old ≡ all
terms_written side lead ts i old all above so_far = append_nothing old (terms_text side lead (drop i ts)) all (at_drop_all (terms_text side lead) ts i above)
    so_far

-- all summands of a side are written
pub side_written : (side : Side) (lead : List ℕ) (form : Form) (value : ℕ) (old middle new : List ℕ) → value ≡ part side form.constant → middle ≡ old
    ++ terms_text side lead form.terms → new ≡ middle ++ led_text lead (constant value) → new ≡ old ++ led_text lead (summands side form)
side_written side lead form value old middle new is terms last =
    last ∙ ap (λ xs. xs ++ led_text lead (constant value)) terms ∙ append_assoc old (terms_text side lead form.terms) (led_text lead (constant value))
    ∙ ap (λ v. old ++ (terms_text side lead form.terms ++ led_text lead (constant v))) is
    ∙ ap (λ xs. old ++ xs) (sym (led-append lead (flat_map (on_side side) form.terms) (constant (part side form.constant))))

-- how many summands there are
abbrev pub one_of : ℕ → ℕ
one_of value = cond (eqb value 0) 0 1

multiple_length : (b c : Bool) (f k : ℕ) → length (cond b [] (cond c (Unknown k ∷ []) (Product f k ∷ []))) ≡ cond b 0 1
multiple_length true c f k = refl
multiple_length false true f k = refl
multiple_length false false f k = refl

constant_length : (b : Bool) (v : ℕ) → length (cond b [] (Numeral v ∷ [])) ≡ cond b 0 1
constant_length true v = refl
constant_length false v = refl

abbrev pub terms_count : Side → List (ℕ × ℤ) → ℕ
terms_count side ts = length (flat_map (on_side side) ts)

pub term_counted : (side : Side) (ts : List (ℕ × ℤ)) (i factor count more all : ℕ) → i < length ts → factor ≡ part side (get_or ts i (0, pos 0)).1
    → more ≡ one_of factor → count + terms_count side (drop i ts) ≡ all → (count + more) + terms_count side (drop (i + 1) ts) ≡ all
term_counted side ts i factor count more all within is one so_far =
    let t = get_or ts i (0, pos 0) in
    let next = at_drop_more (terms_count side) ts i (0, pos 0) within in
    let parts = length-append (on_side side t) (flat_map (on_side side) (drop (i + 1) ts)) in
    let this = multiple_length (eqb (part side t.1) 0) (eqb (part side t.1) 1) (part side t.1) t.0 in
    let same = ap one_of is in
    omega arith

pub terms_counted : (side : Side) (ts : List (ℕ × ℤ)) (i count all : ℕ) → length ts ≤ i → count + terms_count side (drop i ts) ≡ all → count ≡ all
terms_counted side ts i count all above so_far = let none = at_drop_all (terms_count side) ts i above in omega arith

pub side_counted : (side : Side) (form : Form) (value terms more : ℕ) → value ≡ part side form.constant → terms ≡ terms_count side form.terms
    → more ≡ one_of value → terms + more ≡ length (summands side form)
side_counted side form value terms more is count one =
    let parts = length-append (flat_map (on_side side) form.terms) (constant (part side form.constant)) in
    let this = constant_length (eqb (part side form.constant) 0) (part side form.constant) in
    let same = ap one_of is in
    omega arith

-- the whole text of a system
pub system_written : (system : System) (t1 t2 t3 t4 t5 : List ℕ) → t1 ≡ codes "(set-logic QF_LIA)\n" → t2 ≡ t1
    ++ lines_text (map declare_line (range_with_len 0 system.unknowns)) → t3 ≡ t2
    ++ lines_text (map assert_line (map natural_claim (range_with_len 0 system.unknowns))) → t4 ≡ t3 ++ rows_text system.rows → t5 ≡ t4 ++ codes "(check-sat)\n"
    → t5 ≡ system_text system
system_written system t1 t2 t3 t4 t5 e1 e2 e3 e4 e5 =
    let declares = map declare_line (range_with_len 0 system.unknowns) in
    let naturals = map natural_claim (range_with_len 0 system.unknowns) in
    let claims = map row_claim system.rows in
    let head = codes "(set-logic QF_LIA)\n" in
    let question : List (List ℕ) = codes "(check-sat)" ∷ [] in
    let joined : t5 ≡ (((head ++ lines_text declares) ++ lines_text (map assert_line naturals)) ++ lines_text (map assert_line claims))
    ++ codes "(check-sat)\n" = e5 ∙ ap (λ t. t ++ codes "(check-sat)\n")
    (e4 ∙ ap (λ t. t ++ rows_text system.rows) (e3 ∙ ap (λ t. t ++ lines_text (map assert_line naturals)) (e2 ∙ ap (λ t. t ++ lines_text declares) e1))) in
    let a = append_assoc ((head ++ lines_text declares) ++ lines_text (map assert_line naturals)) (lines_text (map assert_line claims)) (codes "(check-sat)\n")
    in
    let b = append_assoc (head ++ lines_text declares) (lines_text (map assert_line naturals)) (lines_text (map assert_line claims) ++ codes "(check-sat)\n") in
    let c = append_assoc head (lines_text declares) (lines_text (map assert_line naturals) ++ (lines_text (map assert_line claims) ++ codes "(check-sat)\n")) in
    let all = map-append assert_line naturals claims in
    let ends : lines_text (map assert_line naturals) ++ (lines_text (map assert_line claims) ++ codes "(check-sat)\n") ≡ lines_text
    (map assert_line (naturals ++ claims) ++ question) = sym
    (append_assoc (lines_text (map assert_line naturals)) (lines_text (map assert_line claims)) (codes "(check-sat)\n"))
    ∙ ap (λ xs. xs ++ codes "(check-sat)\n") (sym (lines_text-append (map assert_line naturals) (map assert_line claims)) ∙ ap lines_text (sym all))
    ∙ sym (lines_text-append (map assert_line (naturals ++ claims)) question) in
    let body : lines_text declares ++ lines_text (map assert_line (naturals ++ claims) ++ question) ≡ lines_text
    (declares ++ (map assert_line (naturals ++ claims) ++ question)) = sym (lines_text-append declares (map assert_line (naturals ++ claims) ++ question))
    in
    joined ∙ a ∙ b ∙ c ∙ ap (λ xs. head ++ (lines_text declares ++ xs)) ends ∙ ap (λ xs. head ++ xs) body
