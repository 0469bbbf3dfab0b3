-- the first of a command's words, where it is no option, is its first plain word
use Rattle.std.proofs.Common.{arith, ℕ, ◌≡◌, ◌∙◌, ◌+◌, ◌++◌, ◌∷◌, [], List, Bool, true, false, Option, Some, None, get_or, length, nat_lt, ltb-false, refl, sym}
use Rattle.std.proofs.Common.{ap, subst, ◌⊎◌, inl, inr, if◌then◌else◌}
use Rattle.std.proofs.lemmas.Bool.{and_parts, or_parts, false≢true, false_from_ne_true}
use Rattle.std.proofs.lemmas.Bool.Decides.{eqb_tells}
use Rattle.std.proofs.lemmas.Option.{cond_some, none-some, option_and_then_some}
use Rattle.std.proofs.lemmas.Slice.Eq.{bytes_eq-Decides}
use Rattle.std.specs.List.{list_all}
use Rattle.std.specs.Prelude.{codes, is_some, option_and_then, slice_set, ◌==◌, ◌||◌}
use Rattle.std.specs.Str.{bytes_eq}
use Rattle.ta_program.specs.Words.{Form, OptionForm, Taken, behind, is_dashed, nothing, option_value, otherwise, plain_of, take_all, take_by, taken_by, whole}
use Rattle.ta_program.specs.Words.{with_plain, with_value, with_word}

-- a word that isn't dashed is none that is
no_dashed : (word other : List ℕ) → is_dashed word ≡ false → is_dashed other ≡ true → bytes_eq word other ≡ false
no_dashed word other plain dashed = false_from_ne_true (bytes_eq word other) (λ same.
    let is : word ≡ other = (bytes_eq-Decides word other).0 same in
    false≢true (sym plain ∙ ap is_dashed is ∙ dashed))

none_chosen : {A : Type 0} (b : Bool) → ◌≡◌ {A = Option A} (if b then None else None) None
none_chosen true = refl
none_chosen false = refl

heads_differ : (c e : ℕ) → (c == 45) ≡ true → (e == 45) ≡ false → (c == e) ≡ false
heads_differ c e dash plain = false_from_ne_true (c == e) (λ same. elim (eqb_tells c e) [
  | inl equal ↦ false≢true (sym plain ∙ ap (λ (n : ℕ). n == 45) (sym equal.1) ∙ dash)
  | inr apart ↦ false≢true (sym apart.0 ∙ same)
])

-- and doesn't begin with one
pub not_behind : (other word : List ℕ) → is_dashed word ≡ false → is_dashed other ≡ true → behind other word ≡ None
not_behind [] word plain dashed = absurd (cc)
not_behind (c ∷ []) word plain dashed = absurd (cc)
not_behind (c ∷ d ∷ cs) [] plain dashed = refl
not_behind (c ∷ d ∷ cs) (e ∷ []) plain dashed = none_chosen (c == e)
not_behind (c ∷ d ∷ cs) (e ∷ f ∷ fs) plain dashed = ap (λ (b : Bool). if b then behind (d ∷ cs) (f ∷ fs) else None) (heads_differ c e dashed plain)

-- so it is no option
no_option : (os : List OptionForm) → list_all (λ (o : OptionForm). is_dashed o.word) os ≡ true → (number plain : ℕ) (taken : Taken) (word : List ℕ)
    → is_dashed word ≡ false → with_word os number plain taken word ≡ with_plain plain taken word
no_option [] dashed number plain taken word is = ap (λ (b : Bool). if b then None else with_plain plain taken word) is
no_option (o ∷ os) dashed number plain taken word is =
    let parts = and_parts (is_dashed o.word) (list_all (λ (o : OptionForm). is_dashed o.word) os) dashed in
    let later = with_word os (number + 1) plain taken word in
    ap (λ (b : Bool). if b then (if o.valued then Some (record taken { awaits = Some number }) else with_value taken number []) else otherwise
    (if o.valued then option_and_then (behind (codes "=")) (behind o.word word) else None) number taken later) (no_dashed word o.word is parts.0)
    ∙ ap (λ (v : Option (List ℕ)). otherwise (if o.valued then option_and_then (behind (codes "=")) v else None) number taken later)
    (not_behind o.word word is parts.0)
    ∙ ap (λ (v : Option (List ℕ)). otherwise v number taken later) (none_chosen o.valued)
    ∙ no_option os parts.1 (number + 1) plain taken word is

-- with a plain word behind the others
with_plain_says : (plain : ℕ) (taken : Taken) (word : List ℕ) (later : Taken) → with_plain plain taken word ≡ Some later
    → later.plain ≡ taken.plain ++ (word ∷ [])
with_plain_says plain taken word later is = sym
    (ap (λ (t : Taken). t.plain) (cond_some (nat_lt (length taken.plain) plain) (record taken { plain = taken.plain ++ (word ∷ []) }) later is).1)

value_by : (b : Bool) (taken set later : Taken) → set.plain ≡ taken.plain → (if b then None else Some set) ≡ Some later → later.plain ≡ taken.plain
value_by true taken set later same is = absurd (none-some later is)
value_by false taken set later same is = let e : set ≡ later = cc in sym (ap (λ (t : Taken). t.plain) e) ∙ same

with_value_says : (taken : Taken) (number : ℕ) (value : List ℕ) (later : Taken) → with_value taken number value ≡ Some later → later.plain ≡ taken.plain
with_value_says taken number value later is = value_by (is_some (option_value taken number)) taken
    (record taken { values = slice_set taken.values number (Some value); awaits = None }) later refl is

-- a word leaves the plain ones, or comes behind them
abbrev Keeps : Taken → List ℕ → Taken → Type 0
Keeps taken word later = (later.plain ≡ taken.plain) ⊎ (later.plain ≡ taken.plain ++ (word ∷ []))

option_keeps : (valued : Bool) (taken : Taken) (number : ℕ) (word : List ℕ) (later : Taken)
    → (if valued then Some (record taken { awaits = Some number }) else with_value taken number []) ≡ Some later → Keeps taken word later
option_keeps true taken number word later is = let e : (record taken { awaits = Some number }) ≡ later = cc in inl (sym (ap (λ (t : Taken). t.plain) e))
option_keeps false taken number word later is = inl (with_value_says taken number [] later is)

otherwise_keeps : (value : Option (List ℕ)) (number : ℕ) (taken : Taken) (other : Option Taken) (word : List ℕ) (later : Taken)
    → (other ≡ Some later → Keeps taken word later) → otherwise value number taken other ≡ Some later → Keeps taken word later
otherwise_keeps None number taken other word later more is = more is
otherwise_keeps (Some value) number taken other word later more is = inl (with_value_says taken number value later is)

chosen_keeps : (b : Bool) (taken : Taken) (word : List ℕ) (one other : Option Taken) (later : Taken) → (one ≡ Some later → Keeps taken word later)
    → (other ≡ Some later → Keeps taken word later) → (if b then one else other) ≡ Some later → Keeps taken word later
chosen_keeps true taken word one other later f g is = f is
chosen_keeps false taken word one other later f g is = g is

plain_keeps : (plain : ℕ) (taken : Taken) (word : List ℕ) (later : Taken) → with_plain plain taken word ≡ Some later → Keeps taken word later
plain_keeps plain taken word later is = inr (with_plain_says plain taken word later is)

with_word_keeps : (os : List OptionForm) (number plain : ℕ) (taken : Taken) (word : List ℕ) (later : Taken) → with_word os number plain taken word ≡ Some later
    → Keeps taken word later
with_word_keeps [] number plain taken word later is = chosen_keeps (is_dashed word) taken word None (with_plain plain taken word) later
    (λ e. absurd (none-some later e)) (plain_keeps plain taken word later) is
with_word_keeps (o ∷ os) number plain taken word later is =
    let rest = with_word os (number + 1) plain taken word in
    chosen_keeps (bytes_eq word o.word) taken word (if o.valued then Some (record taken { awaits = Some number }) else with_value taken number [])
    (otherwise (if o.valued then option_and_then (behind (codes "=")) (behind o.word word) else None) number taken rest) later
    (option_keeps o.valued taken number word later)
    (otherwise_keeps (if o.valued then option_and_then (behind (codes "=")) (behind o.word word) else None) number taken rest word later
    (with_word_keeps os (number + 1) plain taken word later))
    is

take_by_keeps : (awaits : Option ℕ) (form : Form) (taken : Taken) (word : List ℕ) (later : Taken) → take_by awaits form taken word ≡ Some later
    → Keeps taken word later
take_by_keeps (Some number) form taken word later is = chosen_keeps (is_dashed word) taken word None (with_value taken number word) later
    (λ e. absurd (none-some later e)) (λ e. inl (with_value_says taken number word later e)) is
take_by_keeps None form taken word later is =
    chosen_keeps taken.ended taken word (with_plain form.plain taken word)
    (if bytes_eq word (codes "--") then Some (record taken { ended = true }) else with_word form.options 0 form.plain taken word) later
    (plain_keeps form.plain taken word later)
    (chosen_keeps (bytes_eq word (codes "--")) taken word (Some (record taken { ended = true })) (with_word form.options 0 form.plain taken word) later
    (λ e. let s : (record taken { ended = true }) ≡ later = cc in inl (sym (ap (λ (t : Taken). t.plain) s)))
    (with_word_keeps form.options 0 form.plain taken word later))
    is

-- the first plain word stays
abbrev Begins : List ℕ → Taken → Type 0
Begins name taken = (rest : List (List ℕ)) × (taken.plain ≡ name ∷ rest)

begins_next : (name : List ℕ) (taken : Taken) (word : List ℕ) (later : Taken) → Begins name taken → Keeps taken word later → Begins name later
begins_next name taken word later begins (inl same) = (begins.0, same ∙ begins.1)
begins_next name taken word later begins (inr more) = (begins.0 ++ (word ∷ []), more ∙ ap (λ (ws : List (List ℕ)). ws ++ (word ∷ [])) begins.1)

take_all_begins : (form : Form) (name : List ℕ) (words : List (List ℕ)) (taken later : Taken) → Begins name taken → take_all form taken words ≡ Some later
    → Begins name later
take_all_begins form name [] taken later begins is = let e : taken ≡ later = cc in subst (Begins name) e begins
take_all_begins form name (word ∷ words) taken later begins is = option_and_then_some (λ more. take_all form more words)
    (take_by taken.awaits form taken word) later is (λ next by more.
    take_all_begins form name words next later (begins_next name taken word next begins (take_by_keeps taken.awaits form taken word next by)) more)

first_taken : (form : Form) → list_all (λ (o : OptionForm). is_dashed o.word) form.options ≡ true → (name : List ℕ) (taken : Taken) → is_dashed name ≡ false
    → take_by None form nothing name ≡ Some taken → taken.plain ≡ name ∷ []
first_taken form dashed name taken plain is =
    with_plain_says form.plain nothing name taken
    (sym (ap (λ (b : Bool). if b then Some (record nothing { ended = true }) else with_word form.options 0 form.plain nothing name)
    (no_dashed name (codes "--") plain refl)
    ∙ no_option form.options dashed 0 form.plain nothing name plain) ∙ is)

whole_is : (b : Bool) (taken later : Taken) → (if b then None else Some taken) ≡ Some later → (b ≡ false) × (taken ≡ later)
whole_is true taken later is = absurd (none-some later is)
whole_is false taken later is = let e : taken ≡ later = cc in (refl, e)

plain_at : (name : List ℕ) (taken : Taken) → Begins name taken → plain_of taken 0 ≡ name
plain_at name taken begins = by taken.plain begins.1
  where
    by : (ws : List (List ℕ)) → ws ≡ name ∷ begins.0 → get_or ws 0 [] ≡ name
    by [] e = absurd (cc)
    by (w ∷ ws) e = cc

pub first_plain : (form : Form) → list_all (λ (o : OptionForm). is_dashed o.word) form.options ≡ true → (name : List ℕ) (more : List (List ℕ)) (taken : Taken)
    → is_dashed name ≡ false → taken_by form (name ∷ more) ≡ Some taken → plain_of taken 0 ≡ name
first_plain form dashed name more taken plain is = option_and_then_some (whole form.plain) (take_all form nothing (name ∷ more)) taken is (λ all taken_all ends.
    let same = (whole_is (is_some all.awaits || nat_lt (length all.plain) form.plain) all taken ends).1 in
    option_and_then_some (λ m. take_all form m more) (take_by None form nothing name) all taken_all (λ next by rest.
    plain_at name taken (subst (Begins name) same (take_all_begins form name more next all ([], first_taken form dashed name next plain by) rest))))

-- where there are two words, and the form wants two plain ones, the other one is the second
pub second_plain : (form : Form) → form.plain ≡ 2 → list_all (λ (o : OptionForm). is_dashed o.word) form.options ≡ true → (name other : List ℕ) (taken : Taken)
    → is_dashed name ≡ false → taken_by form (name ∷ other ∷ []) ≡ Some taken → plain_of taken 1 ≡ other
second_plain form two dashed name other taken plain is = option_and_then_some (whole form.plain) (take_all form nothing (name ∷ other ∷ [])) taken is
    (λ all taken_all ends.
    let said = whole_is (is_some all.awaits || nat_lt (length all.plain) form.plain) all taken ends in
    let long = ltb-false (length all.plain) form.plain (or_parts (is_some all.awaits) (nat_lt (length all.plain) form.plain) said.0).1 in
    option_and_then_some (λ m. take_all form m (other ∷ [])) (take_by None form nothing name) all taken_all (λ next by rest.
    option_and_then_some (λ m. take_all form m []) (take_by next.awaits form next other) all rest (λ last by_last same.
    let first = first_taken form dashed name next plain by in
    let e : last ≡ all = cc in
    subst (λ (t : Taken). plain_of t 1 ≡ other) said.1 (elim (subst (Keeps next other) e (take_by_keeps next.awaits form next other last by_last)) [
      | inl kept ↦ let one : length all.plain ≡ 1 = ap length (kept ∙ first) in absurd (omega (arith, two))
      | inr more ↦ ap (λ (ws : List (List ℕ)). get_or ws 1 []) (more ∙ ap (λ (ws : List (List ℕ)). ws ++ (other ∷ [])) first)
    ]))))
