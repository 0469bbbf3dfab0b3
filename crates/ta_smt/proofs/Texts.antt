-- The text of a script determines it.
use Rattle.ta_smt.proofs.Common.{ℕ, zero, suc, ◌+◌, ◌<◌, ◌^◌, ◌≡◌, List, [], ◌∷◌, ◌++◌, map, codes, decimal, refl, sym, ap, ◌∙◌, append_assoc, arith}
use Rattle.ta_smt.proofs.Common.{append_cancel_left, AllByRecursion, range_with_len, numeral_same, heads, lines_text, AtLeast, Script, ScriptFits, Summand}
use Rattle.ta_smt.proofs.Common.{SummandFits, Numeral, Unknown, Product, Term, TermFits, Lone, Sum, assert_line, declare_line, script_text, summand_text}
use Rattle.ta_smt.proofs.Common.{summands_text, term_text, unknown_text}
use Rattle.ta_base.specs.Decimals.{BeginsNoDigit}
use Rattle.ta_base.proofs.Digits.{no_numeral}

-- `N uK)` and what stands behind it
product_behind : ℕ → ℕ → List ℕ → List ℕ
product_behind f k x = decimal f ++ (32 ∷ 117 ∷ (decimal k ++ (41 ∷ x)))

product_text : (f k : ℕ) (x : List ℕ) → summand_text (Product f k) ++ x ≡ 40 ∷ 42 ∷ 32 ∷ product_behind f k x
unfolding product_behind
product_text f k x =
    let inner : (decimal k ++ (41 ∷ [])) ++ x ≡ decimal k ++ (41 ∷ x) = append_assoc (decimal k) (41 ∷ []) x in
    ap (λ r. 40 ∷ 42 ∷ 32 ∷ r) (append_assoc (decimal f) (32 ∷ 117 ∷ (decimal k ++ (41 ∷ []))) x ∙ ap (λ r. decimal f ++ (32 ∷ 117 ∷ r)) inner)

products_same : (f g k l : ℕ) (x y : List ℕ) → f < 2 ^ 127 → g < 2 ^ 127 → k < 2 ^ 127 → l < 2 ^ 127 → product_behind f k x ≡ product_behind g l y → (f ≡ g)
    × (k ≡ l) × (x ≡ y)
unfolding product_behind
products_same f g k l x y low high small little e =
    let first = numeral_same f g (32 ∷ 117 ∷ (decimal k ++ (41 ∷ x))) (32 ∷ 117 ∷ (decimal l ++ (41 ∷ y))) low high refl refl e in
    let behind = first.1 in
    let tail : decimal k ++ (41 ∷ x) ≡ decimal l ++ (41 ∷ y) = cc in
    let second = numeral_same k l (41 ∷ x) (41 ∷ y) small little refl refl tail in
    let last = second.1 in
    (first.0, second.0, cc)

-- a summand and what stands behind it
pub summand_same : (s t : Summand) (x y : List ℕ) → SummandFits s → SummandFits t → BeginsNoDigit x → BeginsNoDigit y → summand_text s ++ x ≡ summand_text t
    ++ y → (s ≡ t) × (x ≡ y)
summand_same (Numeral m) (Numeral n) x y fits fit ends stops e = let same = numeral_same m n x y fits fit ends stops e in (ap Numeral same.0, same.1)
summand_same (Numeral m) (Unknown l) x y fits fit ends stops e = absurd (no_numeral m x (117 ∷ (decimal l ++ y)) fits ends refl e)
summand_same (Numeral m) (Product g l) x y fits fit ends stops e = absurd
    (no_numeral m x (40 ∷ 42 ∷ 32 ∷ product_behind g l y) fits ends refl (e ∙ product_text g l y))
summand_same (Unknown k) (Numeral n) x y fits fit ends stops e = absurd (no_numeral n y (117 ∷ (decimal k ++ x)) fit stops refl (sym e))
summand_same (Unknown k) (Unknown l) x y fits fit ends stops e =
    let tail : decimal k ++ x ≡ decimal l ++ y = cc in
    let same = numeral_same k l x y fits fit ends stops tail in
    (ap Unknown same.0, same.1)
summand_same (Unknown k) (Product g l) x y fits fit ends stops e =
    let differ = heads 117 40 (decimal k ++ x) (42 ∷ 32 ∷ product_behind g l y) (e ∙ product_text g l y) in
    absurd (omega arith)
summand_same (Product f k) (Numeral n) x y fits fit ends stops e = absurd
    (no_numeral n y (40 ∷ 42 ∷ 32 ∷ product_behind f k x) fit stops refl (sym e ∙ product_text f k x))
summand_same (Product f k) (Unknown l) x y fits fit ends stops e =
    let differ = heads 40 117 (42 ∷ 32 ∷ product_behind f k x) (decimal l ++ y) (sym (product_text f k x) ∙ e) in
    absurd (omega arith)
summand_same (Product f k) (Product g l) x y fits fit ends stops e =
    let all : 40 ∷ 42 ∷ 32 ∷ product_behind f k x ≡ 40 ∷ 42 ∷ 32 ∷ product_behind g l y = sym (product_text f k x) ∙ e ∙ product_text g l y in
    let tail : product_behind f k x ≡ product_behind g l y = append_cancel_left (40 ∷ 42 ∷ 32 ∷ []) (product_behind f k x) (product_behind g l y) all in
    let same = products_same f g k l x y fits.0 fit.0 fits.1 fit.1 tail in
    let factors = same.0 in
    let numbers = same.1 in
    (cc, same.2)

-- behind summands comes no digit
summands_end : (ss : List Summand) (x : List ℕ) → BeginsNoDigit (summands_text ss ++ (41 ∷ x))
summands_end [] x = refl
summands_end (s ∷ ss) x = refl

more_summands : (s : Summand) (ss : List Summand) (x : List ℕ) → summands_text (s ∷ ss) ++ x ≡ 32 ∷ (summand_text s ++ (summands_text ss ++ x))
more_summands s ss x = ap (λ r. 32 ∷ r) (append_assoc (summand_text s) (summands_text ss) x)

-- summands up to a closing parenthesis
summands_same : (ss ts : List Summand) (x y : List ℕ) → AllByRecursion SummandFits ss → AllByRecursion SummandFits ts → summands_text ss
    ++ (41 ∷ x) ≡ summands_text ts ++ (41 ∷ y) → (ss ≡ ts) × (x ≡ y)
summands_same [] [] x y fits fit e = let tail : x ≡ y = cc in (refl, tail)
summands_same [] (t ∷ ts) x y fits fit e =
    let differ = heads 41 32 x (summand_text t ++ (summands_text ts ++ (41 ∷ y))) (e ∙ more_summands t ts (41 ∷ y)) in
    absurd (omega arith)
summands_same (s ∷ ss) [] x y fits fit e =
    let differ = heads 32 41 (summand_text s ++ (summands_text ss ++ (41 ∷ x))) y (sym (more_summands s ss (41 ∷ x)) ∙ e) in
    absurd (omega arith)
summands_same (s ∷ ss) (t ∷ ts) x y fits fit e =
    let all = sym (more_summands s ss (41 ∷ x)) ∙ e ∙ more_summands t ts (41 ∷ y) in
    let tail : summand_text s ++ (summands_text ss ++ (41 ∷ x)) ≡ summand_text t
    ++ (summands_text ts ++ (41 ∷ y)) = append_cancel_left (32 ∷ []) (summand_text s ++ (summands_text ss ++ (41 ∷ x)))
    (summand_text t ++ (summands_text ts ++ (41 ∷ y))) all in
    let first = summand_same s t (summands_text ss ++ (41 ∷ x)) (summands_text ts ++ (41 ∷ y)) fits.0 fit.0 (summands_end ss x) (summands_end ts y) tail in
    let rest = summands_same ss ts x y fits.1 fit.1 first.1 in
    let head = first.0 in
    let others = rest.0 in
    (cc, rest.1)

-- a sum is no summand
sum_text : (ss : List Summand) (x : List ℕ) → term_text (Sum ss) ++ x ≡ 40 ∷ 43 ∷ (summands_text ss ++ (41 ∷ x))
sum_text ss x = ap (λ r. 40 ∷ 43 ∷ r) (append_assoc (summands_text ss) (41 ∷ []) x)

no_sum : (s : Summand) (x z : List ℕ) → SummandFits s → BeginsNoDigit x → summand_text s ++ x ≡ 40 ∷ 43 ∷ z → ⊥
no_sum (Numeral m) x z fits ends e = no_numeral m x (40 ∷ 43 ∷ z) fits ends refl e
no_sum (Unknown k) x z fits ends e = let differ = heads 117 40 (decimal k ++ x) (43 ∷ z) e in omega arith
no_sum (Product f k) x z fits ends e =
    let tail = append_cancel_left (40 ∷ []) (42 ∷ 32 ∷ product_behind f k x) (43 ∷ z) (sym (product_text f k x) ∙ e) in
    let differ = heads 42 43 (32 ∷ product_behind f k x) z tail in
    omega arith

-- a term and what stands behind it
term_same : (s t : Term) (x y : List ℕ) → TermFits s → TermFits t → BeginsNoDigit x → BeginsNoDigit y → term_text s ++ x ≡ term_text t ++ y → (s ≡ t) × (x ≡ y)
term_same (Lone s) (Lone t) x y fits fit ends stops e = let same = summand_same s t x y fits fit ends stops e in (ap Lone same.0, same.1)
term_same (Lone s) (Sum ts) x y fits fit ends stops e = absurd (no_sum s x (summands_text ts ++ (41 ∷ y)) fits ends (e ∙ sum_text ts y))
term_same (Sum ss) (Lone t) x y fits fit ends stops e = absurd (no_sum t y (summands_text ss ++ (41 ∷ x)) fit stops (sym e ∙ sum_text ss x))
term_same (Sum ss) (Sum ts) x y fits fit ends stops e =
    let tail = append_cancel_left (40 ∷ 43 ∷ []) (summands_text ss ++ (41 ∷ x)) (summands_text ts ++ (41 ∷ y)) (sym (sum_text ss x) ∙ e ∙ sum_text ts y) in
    let same = summands_same ss ts x y fits fit tail in
    (ap Sum same.0, same.1)

-- the line of an assertion, part by part
claim_behind : AtLeast → List ℕ → List ℕ
claim_behind c x = term_text c.left ++ (32 ∷ (term_text c.right ++ (41 ∷ 41 ∷ x)))

claim_text : (c : AtLeast) (x : List ℕ) → assert_line c ++ x ≡ codes "(assert (>= " ++ claim_behind c x
unfolding claim_behind
claim_text c x =
    let right : (term_text c.right ++ (41 ∷ 41 ∷ [])) ++ x ≡ term_text c.right ++ (41 ∷ 41 ∷ x) = append_assoc (term_text c.right) (41 ∷ 41 ∷ []) x in
    let left : (term_text c.left ++ (32 ∷ (term_text c.right ++ (41 ∷ 41 ∷ []))))
    ++ x ≡ claim_behind c x = append_assoc (term_text c.left) (32 ∷ (term_text c.right ++ (41 ∷ 41 ∷ []))) x
    ∙ ap (λ r. term_text c.left ++ (32 ∷ r)) right in
    ap (λ r. codes "(assert (>= " ++ r) left

abbrev claim : Term → Term → AtLeast
claim left right = record { left = left; right = right }

same_claim : (c d : AtLeast) → c.left ≡ d.left → c.right ≡ d.right → c ≡ d
same_claim c d left right = ap (λ t. claim t c.right) left ∙ ap (claim d.left) right

claim_same : (c d : AtLeast) (x y : List ℕ) → TermFits c.left × TermFits c.right → TermFits d.left × TermFits d.right → assert_line c ++ x ≡ assert_line d ++ y
    → (c ≡ d) × (x ≡ y)
unfolding claim_behind
claim_same c d x y fits fit e =
    let all = append_cancel_left (codes "(assert (>= ") (claim_behind c x) (claim_behind d y) (sym (claim_text c x) ∙ e ∙ claim_text d y) in
    let lefts = term_same c.left d.left (32 ∷ (term_text c.right ++ (41 ∷ 41 ∷ x))) (32 ∷ (term_text d.right ++ (41 ∷ 41 ∷ y))) fits.0 fit.0 refl refl all in
    let behind = lefts.1 in
    let tail : term_text c.right ++ (41 ∷ 41 ∷ x) ≡ term_text d.right ++ (41 ∷ 41 ∷ y) = cc in
    let rights = term_same c.right d.right (41 ∷ 41 ∷ x) (41 ∷ 41 ∷ y) fits.1 fit.1 refl refl tail in
    (same_claim c d lefts.0 rights.0, append_cancel_left (41 ∷ 41 ∷ []) x y rights.1)

-- assertions and the question behind them
ending : List AtLeast → List (List ℕ)
ending cs = map assert_line cs ++ codes "(check-sat)" ∷ []

claims_same : (cs ds : List AtLeast) → AllByRecursion (λ (c : AtLeast). TermFits c.left × TermFits c.right) cs
    → AllByRecursion (λ (c : AtLeast). TermFits c.left × TermFits c.right) ds → lines_text (ending cs) ≡ lines_text (ending ds) → cs ≡ ds
unfolding ending
claims_same [] [] fits fit e = refl
claims_same [] (d ∷ ds) fits fit e =
    let all = e ∙ claim_text d (10 ∷ lines_text (ending ds)) in
    let second = append_cancel_left (40 ∷ []) (codes "check-sat)\n") (codes "assert (>= " ++ claim_behind d (10 ∷ lines_text (ending ds))) all in
    let differ = heads 99 97 (codes "heck-sat)\n") (codes "ssert (>= " ++ claim_behind d (10 ∷ lines_text (ending ds))) second in
    absurd (omega arith)
claims_same (c ∷ cs) [] fits fit e =
    let all = sym e ∙ claim_text c (10 ∷ lines_text (ending cs)) in
    let second = append_cancel_left (40 ∷ []) (codes "check-sat)\n") (codes "assert (>= " ++ claim_behind c (10 ∷ lines_text (ending cs))) all in
    let differ = heads 99 97 (codes "heck-sat)\n") (codes "ssert (>= " ++ claim_behind c (10 ∷ lines_text (ending cs))) second in
    absurd (omega arith)
claims_same (c ∷ cs) (d ∷ ds) fits fit e =
    let first = claim_same c d (10 ∷ lines_text (ending cs)) (10 ∷ lines_text (ending ds)) fits.0 fit.0 e in
    let behind = first.1 in
    let tail : lines_text (ending cs) ≡ lines_text (ending ds) = cc in
    let rest = claims_same cs ds fits.1 fit.1 tail in
    let head = first.0 in
    cc

-- declarations and what stands behind them
body : ℕ → ℕ → List AtLeast → List ℕ
body k n cs = lines_text (map declare_line (range_with_len k n) ++ ending cs)

-- behind the declarations comes no other one
no_declaration : (cs : List AtLeast) (x : List ℕ) → lines_text (ending cs) ≡ 40 ∷ 100 ∷ x → ⊥
unfolding ending
no_declaration [] x e =
    let second = append_cancel_left (40 ∷ []) (codes "check-sat)\n") (100 ∷ x) e in
    let differ = heads 99 100 (codes "heck-sat)\n") x second in
    omega arith
no_declaration (c ∷ cs) x e =
    let all = sym (claim_text c (10 ∷ lines_text (ending cs))) ∙ e in
    let second = append_cancel_left (40 ∷ []) (codes "assert (>= " ++ claim_behind c (10 ∷ lines_text (ending cs))) (100 ∷ x) all in
    let differ = heads 97 100 (codes "ssert (>= " ++ claim_behind c (10 ∷ lines_text (ending cs))) x second in
    omega arith

bodies_same : (k m n : ℕ) (cs ds : List AtLeast) → body k m cs ≡ body k n ds → (m ≡ n) × (lines_text (ending cs) ≡ lines_text (ending ds))
unfolding body
bodies_same k zero zero cs ds e = (refl, e)
bodies_same k zero (suc n) cs ds e = absurd (no_declaration cs (codes "eclare-fun " ++ ((unknown_text k ++ codes " () Int)") ++ (10 ∷ body (k + 1) n ds))) e)
bodies_same k (suc m) zero cs ds e = absurd
    (no_declaration ds (codes "eclare-fun " ++ ((unknown_text k ++ codes " () Int)") ++ (10 ∷ body (k + 1) m cs))) (sym e))
bodies_same k (suc m) (suc n) cs ds e =
    let both = append_cancel_left (declare_line k) (10 ∷ body (k + 1) m cs) (10 ∷ body (k + 1) n ds) e in
    let tail : body (k + 1) m cs ≡ body (k + 1) n ds = cc in
    let rest = bodies_same (k + 1) m n cs ds tail in
    (ap suc rest.0, rest.1)

abbrev script : ℕ → List AtLeast → Script
script unknowns asserted = record { unknowns = unknowns; asserted = asserted }

same_script : (s t : Script) → s.unknowns ≡ t.unknowns → s.asserted ≡ t.asserted → s ≡ t
same_script s t unknowns asserted = ap (λ n. script n s.asserted) unknowns ∙ ap (script t.unknowns) asserted

-- a text is that of at most one script
pub script_same : (s t : Script) → ScriptFits s → ScriptFits t → script_text s ≡ script_text t → s ≡ t
unfolding body ending
script_same s t fits fit e =
    let tail : body 0 s.unknowns s.asserted ≡ body 0 t.unknowns t.asserted = append_cancel_left (codes "(set-logic QF_LIA)\n") (body 0 s.unknowns s.asserted)
    (body 0 t.unknowns t.asserted) e in
    let parts = bodies_same 0 s.unknowns t.unknowns s.asserted t.asserted tail in
    same_script s t parts.0 (claims_same s.asserted t.asserted fits fit parts.1)
