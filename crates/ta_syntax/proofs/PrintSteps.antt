-- What is printed piece by piece.
use Rattle.ta_syntax.proofs.Common.{◌≡◌, ℕ, zero, suc, List, [], ◌∷◌, ◌++◌, length, map, refl, sym, ap, subst, ◌∙◌, append_assoc, arith, ◌<◌, append-nil}
use Rattle.ta_syntax.proofs.Common.{kind_bytes, PlainTree, name_kinds, location_kinds, Terms, Term, Factor, further, listed, led, ended, each, term_kinds}
use Rattle.ta_syntax.proofs.Common.{sum_kinds, more_kinds, plain_sum, plain_term, plain_terms, factor_layer, sum_layer, term_layer, separator, printed, Prints}
use Rattle.ta_syntax.proofs.Common.{sign_before, head_kinds, Kind, Mark, Sign, TreeSum, TreeTerm, out-TreeSum, fold_out-TreeSum}
use Rattle.ta_syntax.proofs.SumSteps.{plain_items}
use Rattle.ta_syntax.specs.declared.tokens.Kind.TheVariants as kind
use Rattle.ta_syntax.specs.declared.tokens.Mark.TheVariants as mark
use Rattle.ta_syntax.specs.declared.sums.Sign.TheVariants as sign

pub printed-append : (ks ls : List Kind) → printed (ks ++ ls) ≡ printed ks ++ printed ls
printed-append [] ls = refl
printed-append (k ∷ ks) ls = ap (λ (x : List ℕ). kind_bytes k ++ separator k ∷ x) (printed-append ks ls)
    ∙ sym (append_assoc (kind_bytes k) (separator k ∷ printed ks) (printed ls))

-- one piece behind another
pub prints_then : (a b c : List ℕ) (ks ls : List Kind) → Prints a b ks → Prints b c ls → Prints a c (ks ++ ls)
prints_then a b c ks ls h k =
    k ∙ ap (λ (x : List ℕ). x ++ printed ls) h ∙ append_assoc a (printed ks) (printed ls) ∙ ap (λ (x : List ℕ). a ++ x) (sym (printed-append ks ls))

-- Printing all from a start: what is there now, and what is still to come.
abbrev pub Goes : List ℕ → List ℕ → List Kind → List Kind → Type 0
Goes start now all left = Prints now (start ++ printed all) left

pub goes_on : (start now next : List ℕ) (all ks left : List Kind) → Goes start now all (ks ++ left) → Prints now next ks → Goes start next all left
goes_on start now next all ks left h p =
    h ∙ ap (λ (x : List ℕ). now ++ x) (printed-append ks left) ∙ sym (append_assoc now (printed ks) (printed left))
    ∙ ap (λ (x : List ℕ). x ++ printed left) (sym p)

pub goes_to_end : (start now : List ℕ) (all : List Kind) → Goes start now all [] → Prints start now all
goes_to_end start now all h = sym (h ∙ append-nil now)

-- the terms from a place of a sum on, with the sign before each
abbrev pub signed : ℕ → List (Sign × TreeTerm) → List Kind
signed place [] = []
signed place (t ∷ ts) = sign_before place t.0 ++ (term_kinds (plain_term t.1) ++ signed (suc place) ts)

signed_more : (n : ℕ) (ts : List (Sign × TreeTerm)) → signed (suc n) ts ≡ more_kinds (plain_terms ts)
signed_more n [] = refl
signed_more n ((sign.Plus, t) ∷ ts) = ap (λ (x : List Kind). sign_before (suc n) sign.Plus ++ (term_kinds (plain_term t) ++ x)) (signed_more (suc n) ts)
signed_more n ((sign.Minus, t) ∷ ts) = ap (λ (x : List Kind). sign_before (suc n) sign.Minus ++ (term_kinds (plain_term t) ++ x)) (signed_more (suc n) ts)

pub signed_all : (ts : List (Sign × TreeTerm)) → signed zero ts ≡ sum_kinds (plain_terms ts)
signed_all [] = refl
signed_all ((sign.Plus, t) ∷ ts) = ap (λ (x : List Kind). term_kinds (plain_term t) ++ x) (signed_more zero ts)
signed_all ((sign.Minus, t) ∷ ts) = ap (λ (x : List Kind). sign_before zero sign.Minus ++ (term_kinds (plain_term t) ++ x)) (signed_more zero ts)

-- Lists of parts whose items are seen without offsets.
further-map : {A B C : Type 0} (f : A → B) (item : B → List C) (fixed : Mark → C) (xs : List A)
    → further fixed (λ x. item (f x)) xs ≡ further fixed item (map f xs)
further-map f item fixed [] = refl
further-map f item fixed (x ∷ xs) = ap (λ ks. fixed mark.Comma ∷ (item (f x) ++ ks)) (further-map f item fixed xs)

pub listed-map : {A B C : Type 0} (f : A → B) (item : B → List C) (fixed : Mark → C) (xs : List A)
    → listed fixed (λ x. item (f x)) xs ≡ listed fixed item (map f xs)
listed-map f item fixed [] = refl
listed-map f item fixed (x ∷ xs) = ap (λ ks. item (f x) ++ ks) (further-map f item fixed xs)

pub led-map : {A B C : Type 0} (f : A → B) (item : B → List C) (fixed : Mark → C) (m : Mark) (xs : List A)
    → led fixed m (λ x. item (f x)) xs ≡ led fixed m item (map f xs)
led-map f item fixed m [] = refl
led-map f item fixed m (x ∷ xs) = ap (λ ks. fixed m ∷ ks) (listed-map f item fixed (x ∷ xs))

pub ended-map : {A B C : Type 0} (f : A → B) (item : B → List C) (fixed : Mark → C) (m : Mark) (xs : List A)
    → ended fixed m (λ x. item (f x)) xs ≡ ended fixed m item (map f xs)
ended-map f item fixed m [] = refl
ended-map f item fixed m (x ∷ xs) = ap (λ ks. fixed m ∷ (ks ++ fixed mark.Semicolon ∷ [])) (listed-map f item fixed (x ∷ xs))

-- items that are spelled alike
pub each-map : {A B C : Type 0} (spell : A → List C) (f : A → B) (item : B → List C) → ((x : A) → spell x ≡ item (f x)) → (xs : List A)
    → each spell xs ≡ each item (map f xs)
each-map spell f item same [] = refl
each-map spell f item same (x ∷ xs) = ap (λ ks. ks ++ each spell xs) (same x) ∙ ap (λ ks. item (f x) ++ ks) (each-map spell f item same xs)

-- the same for what stands in a list of the program
pub listed_of : {A B : Type 0} (a b : List ℕ) (f : A → B) (item : B → List Kind) (xs ys : List A) → xs ≡ ys
    → Prints a b (listed kind.Fixed (λ x. item (f x)) xs) → Prints a b (listed kind.Fixed item (map f ys))
listed_of {A = A} a b f item xs ys e p = p ∙ ap (λ (zs : List A). a ++ printed (listed kind.Fixed (λ x. item (f x)) zs)) e
    ∙ ap (λ (ks : List Kind). a ++ printed ks) (listed-map f item kind.Fixed ys)

pub led_of : {A B : Type 0} (a b : List ℕ) (m : Mark) (f : A → B) (item : B → List Kind) (xs ys : List A) → xs ≡ ys
    → Prints a b (led kind.Fixed m (λ x. item (f x)) xs) → Prints a b (led kind.Fixed m item (map f ys))
led_of {A = A} a b m f item xs ys e p = p ∙ ap (λ (zs : List A). a ++ printed (led kind.Fixed m (λ x. item (f x)) zs)) e
    ∙ ap (λ (ks : List Kind). a ++ printed ks) (led-map f item kind.Fixed m ys)

pub ended_of : {A B : Type 0} (a b : List ℕ) (m : Mark) (f : A → B) (item : B → List Kind) (xs ys : List A) → xs ≡ ys
    → Prints a b (ended kind.Fixed m (λ x. item (f x)) xs) → Prints a b (ended kind.Fixed m item (map f ys))
ended_of {A = A} a b m f item xs ys e p = p ∙ ap (λ (zs : List A). a ++ printed (ended kind.Fixed m (λ x. item (f x)) zs)) e
    ∙ ap (λ (ks : List Kind). a ++ printed ks) (ended-map f item kind.Fixed m ys)

pub each_of : {A B : Type 0} (a b : List ℕ) (f : A → B) (item : B → List Kind) (xs ys : List A) → xs ≡ ys → Prints a b (each (λ x. item (f x)) xs)
    → Prints a b (each item (map f ys))
each_of {A = A} a b f item xs ys e p = p ∙ ap (λ (zs : List A). a ++ printed (each (λ x. item (f x)) zs)) e
    ∙ ap (λ (ks : List Kind). a ++ printed ks) (each-map (λ x. item (f x)) f item (λ x. refl) ys)

pub declared_of : {A B : Type 0} (a b : List ℕ) (m : Mark) (f : A → B) (item : B → List Kind) (xs ys : List A) → xs ≡ ys
    → Prints a b (kind.Fixed m ∷ (listed kind.Fixed (λ x. item (f x)) xs ++ kind.Fixed mark.Semicolon ∷ []))
    → Prints a b (kind.Fixed m ∷ (listed kind.Fixed item (map f ys) ++ kind.Fixed mark.Semicolon ∷ []))
declared_of {A = A} a b m f item xs ys e p =
    p ∙ ap (λ (zs : List A). a ++ printed (kind.Fixed m ∷ (listed kind.Fixed (λ x. item (f x)) zs ++ kind.Fixed mark.Semicolon ∷ []))) e
    ∙ ap (λ (ks : List Kind). a ++ printed (kind.Fixed m ∷ (ks ++ kind.Fixed mark.Semicolon ∷ []))) (listed-map f item kind.Fixed ys)

pub plain_sum_out : (s : TreeSum) → plain_sum s ≡ plain_terms (out-TreeSum s).terms.items
plain_sum_out s = fold_out-TreeSum Factor Terms Term factor_layer sum_layer term_layer s ∙ plain_items (out-TreeSum s).terms.items

-- declared parts, and what stands behind them
pub declared_then : (a b c : List ℕ) (m : Kind) (ks ls : List Kind) → Prints a b (m ∷ (ks ++ kind.Fixed mark.Semicolon ∷ [])) → Prints b c ls
    → Prints a c (m ∷ (ks ++ kind.Fixed mark.Semicolon ∷ ls))
declared_then a b c m ks ls h k = subst (λ (x : List Kind). Prints a c (m ∷ x)) (append_assoc ks (kind.Fixed mark.Semicolon ∷ []) ls)
    (prints_then a b c (m ∷ (ks ++ kind.Fixed mark.Semicolon ∷ [])) ls h k)

three_parts : (a b c rest : List Kind) →
    (a ++ kind.Fixed mark.Semicolon ∷ kind.Fixed mark.Shared ∷
    (b ++ kind.Fixed mark.Semicolon ∷ kind.Fixed mark.Locations ∷ (c ++ kind.Fixed mark.Semicolon ∷ []))) ++ rest
    ≡ a ++ kind.Fixed mark.Semicolon ∷ kind.Fixed mark.Shared ∷
    (b ++ kind.Fixed mark.Semicolon ∷ kind.Fixed mark.Locations ∷ (c ++ kind.Fixed mark.Semicolon ∷ rest))
three_parts a b c rest =
    append_assoc a (kind.Fixed mark.Semicolon ∷ kind.Fixed mark.Shared ∷
    (b ++ kind.Fixed mark.Semicolon ∷ kind.Fixed mark.Locations ∷ (c ++ kind.Fixed mark.Semicolon ∷ []))) rest
    ∙ ap (λ (x : List Kind). a ++ kind.Fixed mark.Semicolon ∷ kind.Fixed mark.Shared ∷ x)
    (append_assoc b (kind.Fixed mark.Semicolon ∷ kind.Fixed mark.Locations ∷ (c ++ kind.Fixed mark.Semicolon ∷ [])) rest)
    ∙ ap (λ (x : List Kind). a ++ kind.Fixed mark.Semicolon ∷ kind.Fixed mark.Shared ∷ (b ++ kind.Fixed mark.Semicolon ∷ kind.Fixed mark.Locations ∷ x))
    (append_assoc c (kind.Fixed mark.Semicolon ∷ []) rest)

-- a file's declarations, and what stands behind them
pub head_parts : (t : PlainTree) (rest : List Kind) → head_kinds t ++ rest
    ≡ kind.Fixed mark.Automaton ∷ kind.Name t.name ∷ kind.Fixed mark.Semicolon
    ∷ kind.Fixed mark.Parameters ∷ (listed kind.Fixed name_kinds t.parameters ++ kind.Fixed mark.Semicolon
    ∷ kind.Fixed mark.Shared ∷ (listed kind.Fixed name_kinds t.shared ++ kind.Fixed mark.Semicolon
    ∷ kind.Fixed mark.Locations ∷ (listed kind.Fixed location_kinds t.locations ++ kind.Fixed mark.Semicolon ∷ rest)))
head_parts t rest =
    ap (λ (x : List Kind). kind.Fixed mark.Automaton ∷ kind.Name t.name ∷ kind.Fixed mark.Semicolon ∷ kind.Fixed mark.Parameters ∷ x)
    (three_parts (listed kind.Fixed name_kinds t.parameters) (listed kind.Fixed name_kinds t.shared) (listed kind.Fixed location_kinds t.locations) rest)

pub ended_some : {A : Type 0} (a b : List ℕ) (m : Mark) (item : A → List Kind) (xs : List A) → 0 < length xs
    → Prints a b (kind.Fixed m ∷ (listed kind.Fixed item xs ++ kind.Fixed mark.Semicolon ∷ [])) → Prints a b (ended kind.Fixed m item xs)
ended_some a b m item [] some p = absurd (omega (arith, some))
ended_some a b m item (x ∷ xs) some p = p
