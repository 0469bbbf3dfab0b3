-- Numbers and elements of words, from their texts.
use Rattle.ta_smt.proofs.Common.{◌≡◌, ◌≢◌, ◌≤◌, ◌<◌, ◌^◌, ◌&&◌, ◌||◌, ◌∙◌, ◌≤ℤ◌, ℕ, zero, suc, ℤ, pos, List, [], ◌∷◌, ◌++◌, true, false, nat_eq, Bor, map}
use Rattle.ta_smt.proofs.Common.{append-nil, Option, None, Some, is_some, refl, sym, ap, subst, arith, rules, decimal, codes, option_map, option_and_then}
use Rattle.ta_smt.proofs.Common.{MatchOption, list_all, slice_split, bytes_eq, signed_decimal, ints, found_here, none_here, InRange, Value, number_same}
use Rattle.ta_smt.proofs.Common.{Element, those_elements, with_element, each_element, element_of, elements_in, elements_of, number_up_to, map-append}
use Rattle.std.specs.Option.{unwrap_or}
use Rattle.ta_replay.specs.Reading.{IsNumber}
use Rattle.ta_base.proofs.Options.{some_more, some_by, value_by}

-- a text that is written as a number
abbrev pub same_bytes : List ℕ → List ℕ → Type 0
same_bytes text other = (bytes_eq text other ≡ true → text ≡ other) × (text ≡ other → bytes_eq text other ≡ true)

pub bytes_same : (text other : List ℕ) → same_bytes text other
bytes_same text other = ((λ e. search rules), (λ e. search rules))

pub number_found : (limit : ℕ) (text : List ℕ) (n : ℕ) → n ≤ limit → limit < 2 ^ 64 → text ≡ decimal n → number_up_to limit text ≡ Some n
unfolding number_up_to
number_found zero text n within low is =
    found_here zero text None (bytes_eq text (decimal zero)) (bytes_same text (decimal zero)).0 n within low is (λ other. absurd (other (omega arith)))
    (λ e. (bytes_same text (decimal zero)).1 (is ∙ ap decimal e))
number_found (suc limit) text n within low is =
    found_here (suc limit) text (number_up_to limit text) (bytes_eq text (decimal (suc limit))) (bytes_same text (decimal (suc limit))).0 n within low is
    (λ other. number_found limit text n (omega arith) (omega arith) is)
    (λ e. (bytes_same text (decimal (suc limit))).1 (is ∙ ap decimal e))

pub no_number : (limit : ℕ) (text : List ℕ) → ((n : ℕ) → n ≤ limit → text ≢ decimal n) → number_up_to limit text ≡ None
unfolding number_up_to
no_number zero text none = none_here zero text None (bytes_eq text (decimal zero)) (bytes_same text (decimal zero)).0 (none zero (omega arith)) refl
no_number (suc limit) text none =
    none_here (suc limit) text (number_up_to limit text) (bytes_eq text (decimal (suc limit))) (bytes_same text (decimal (suc limit))).0
    (none (suc limit) (omega arith)) (no_number limit text (λ n within. none n (omega arith)))

-- what the bytes of a number say
small_value : (n : ℕ) → n < 2 ^ 8 → Value (pos n)
small_value n low = record { natural = omega (arith, ints); fits = wide n low }
  where
    wide : (n : ℕ) → n < 2 ^ 8 → InRange (pos n)
    wide n low = omega arith

pub number_here : (limit n : ℕ) (bytes : List ℕ) (value : ℤ) → limit < 2 ^ 8 → IsNumber bytes value → value ≡ pos n → n ≤ limit
    → Some n ≡ number_up_to limit bytes
number_here limit n bytes value low is same within = sym (number_found limit bytes n within (omega arith) (is.text ∙ ap signed_decimal same))

pub number_none : (limit : ℕ) (bytes : List ℕ) → limit < 2 ^ 8 → ((value : ℤ) → IsNumber bytes value → ⊥) → None ≡ number_up_to limit bytes
number_none limit bytes low none = sym (no_number limit bytes (λ n within e. none (pos n) (record { number = small_value n (omega arith); text = e })))

pub number_above : (limit : ℕ) (bytes : List ℕ) (value : ℤ) → limit < 2 ^ 8 → IsNumber bytes value → ¬ (value ≤ℤ pos limit) → None ≡ number_up_to limit bytes
number_above limit bytes value low is above =
    sym (no_number limit bytes (λ n within e.
    let same : value ≡ pos n = number_same value (pos n) is.number (small_value n (omega arith)) (sym is.text ∙ e) in
    above (omega (arith, ints))))

pub number_by : (limit : ℕ) (bytes : List ℕ) (value shown : ℤ) (r : Option ℕ) → limit < 2 ^ 8 → IsNumber bytes value → shown ≡ value
    → MatchOption r (¬ (shown ≤ℤ pos limit)) (λ n. (shown ≡ pos n) × (n ≤ limit)) → r ≡ number_up_to limit bytes
number_by limit bytes value shown None low is same h = number_above limit bytes value low is (subst (λ z. ¬ (z ≤ℤ pos limit)) same h)
number_by limit bytes value shown (Some n) low is same h = number_here limit n bytes value low is (sym same ∙ h.0) h.1

-- whether there are elements for some texts is whether there is one for each
pub each_some : (texts : List (List ℕ)) → is_some (each_element texts) ≡ list_all (λ text. is_some (element_of text)) texts
each_some [] = refl
each_some (text ∷ texts) = some_more (element_of text) (each_element texts) ∙ ap (λ b. is_some (element_of text) && b) (each_some texts)

pub elements_some : (text : List ℕ) → is_some (elements_of text) ≡
    (bytes_eq text (codes "-") || list_all (λ part. is_some (element_of part)) (slice_split (λ c. nat_eq c 44) text))
elements_some text = some_by (bytes_eq text (codes "-")) [] (each_element (slice_split (λ c. nat_eq c 44) text))
    ∙ ap (λ b. bytes_eq text (codes "-") || b) (each_some (slice_split (λ c. nat_eq c 44) text))

pub elements_else : (text : List ℕ) → bytes_eq text (codes "-") ≡ false
    → list_all (λ part. is_some (element_of part)) (slice_split (λ c. nat_eq c 44) text) ≡ is_some (elements_of text)
elements_else text other = sym ((elements_some text) ∙ ap (λ b. b || (list_all (λ part. is_some (element_of part)) (slice_split (λ c. nat_eq c 44) text)))
    other)

-- where there are, they are those that some texts have
those_more : (o : Option Element) (more : Option (List Element)) (rest : List Element)
    → is_some (option_and_then (λ (e : Element). option_map (λ es. e ∷ es) more) o) ≡ true → (is_some more ≡ true → unwrap_or more [] ≡ rest)
    → unwrap_or (option_and_then (λ (e : Element). option_map (λ es. e ∷ es) more) o) [] ≡ with_element o rest
those_more None more rest some same = absurd (cc)
those_more (Some e) None rest some same = absurd (cc)
those_more (Some e) (Some es) rest some same = ap (λ xs. e ∷ xs) (same refl)

those_all : (texts : List (List ℕ)) → is_some (each_element texts) ≡ true → unwrap_or (each_element texts) [] ≡ those_elements texts
those_all [] some = refl
those_all (text ∷ texts) some = those_more (element_of text) (each_element texts) (those_elements texts) some (those_all texts)

pub elements_read : (text : List ℕ) → bytes_eq text (codes "-") ≡ false → is_some (elements_of text) ≡ true
    → those_elements (slice_split (λ c. nat_eq c 44) text) ≡ elements_in text
elements_read text other some = value_by (bytes_eq text (codes "-")) [] (those_elements (slice_split (λ c. nat_eq c 44) text))
    (each_element (slice_split (λ c. nat_eq c 44) text)) other some (those_all (slice_split (λ c. nat_eq c 44) text))

with_append : (o : Option Element) (xs ys : List Element) → with_element o (xs ++ ys) ≡ with_element o xs ++ ys
with_append None xs ys = refl
with_append (Some e) xs ys = refl

pub those_last : (texts : List (List ℕ)) (text : List ℕ) → those_elements (texts ++ text ∷ []) ≡ those_elements texts ++ with_element (element_of text) []
those_last [] text = refl
those_last (first ∷ texts) text = ap (with_element (element_of first)) (those_last texts text)
    ∙ with_append (element_of first) (those_elements texts) (with_element (element_of text) [])

-- one part more
pub those_next : (parts : List (Bor (List ℕ))) (part : Bor (List ℕ)) (items : List Element) (o : Option Element)
    → items ≡ those_elements (map (λ y. y.now) parts) → element_of part.now ≡ o → items
    ++ with_element o [] ≡ those_elements (map (λ y. y.now) (parts ++ part ∷ []))
those_next parts part items o so is =
    ap (λ xs. xs ++ with_element o []) so
    ∙ ap (λ p. those_elements (map (λ y. y.now) parts) ++ with_element p []) (sym is)
    ∙ sym (those_last (map (λ y. y.now) parts) part.now)
    ∙ ap those_elements (sym (map-append (λ (y : Bor (List ℕ)). y.now) parts (part ∷ [])))

pub those_skip : (parts : List (Bor (List ℕ))) (part : Bor (List ℕ)) (items : List Element) → items ≡ those_elements (map (λ y. y.now) parts)
    → element_of part.now ≡ None → items ≡ those_elements (map (λ y. y.now) (parts ++ part ∷ []))
those_skip parts part items so is = sym (append-nil items) ∙ those_next parts part items None so is
