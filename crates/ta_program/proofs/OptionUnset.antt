-- an option is not given where no word begins as it does
use Rattle.std.proofs.Common.{arith, ℕ, ◌≡◌, ◌≢◌, ◌∙◌, ◌+◌, ◌++◌, ◌∷◌, [], List, Bool, true, false, Option, Some, None, length, nat_lt, refl, sym, suc}
use Rattle.std.proofs.Common.{slice_get}
use Rattle.std.proofs.Common.{ap, subst, inl, inr, if◌then◌else◌}
use Rattle.std.proofs.lemmas.Bool.Decides.{eqb_tells}
use Rattle.std.proofs.lemmas.List.{get_or-set_other}
use Rattle.std.proofs.lemmas.Option.{cond_some, none-some, option_and_then_some}
use Rattle.std.proofs.lemmas.Slice.Eq.{bytes_eq-Decides}
use Rattle.std.specs.List.{AllByRecursion}
use Rattle.std.specs.Prelude.{codes, is_some, option_and_then, slice_set, ◌||◌}
use Rattle.std.specs.Str.{bytes_eq}
use Rattle.ta_base.proofs.Naturals.{eqb_same}
use Rattle.ta_program.specs.Words.{Form, OptionForm, Taken, behind, is_dashed, nothing, option_value, otherwise, take_all, take_by, taken_by, whole}
use Rattle.ta_program.specs.Words.{with_plain, with_value, with_word}

-- a word begins with itself
behind_self : (word : List ℕ) → behind word word ≡ Some []
behind_self [] = refl
behind_self (c ∷ cs) = ap (λ (b : Bool). if b then behind cs cs else None) (eqb_same c) ∙ behind_self cs

none_chosen : {A : Type 0} (b : Bool) → ◌≡◌ {A = Option A} (if b then None else None) None
none_chosen true = refl
none_chosen false = refl

-- the option with this number has no value, and none is awaited
abbrev Unset : ℕ → Taken → Type 0
Unset k taken = (option_value taken k ≡ None) × (taken.awaits ≢ Some k)

either : {G : Type 0} (b : Bool) (one other : Option Taken) (later : Taken) → (b ≡ true → one ≡ Some later → G) → (b ≡ false → other ≡ Some later → G)
    → (if b then one else other) ≡ Some later → G
either true one other later f g is = f refl is
either false one other later f g is = g refl is

plain_unset : (k plain : ℕ) (taken : Taken) (word : List ℕ) (later : Taken) → Unset k taken → with_plain plain taken word ≡ Some later → Unset k later
plain_unset k plain taken word later unset is =
    let next : Taken = record taken { plain = taken.plain ++ (word ∷ []) } in
    subst (Unset k) (cond_some (nat_lt (length taken.plain) plain) next later is).1 unset

value_unset : (b : Bool) (k number : ℕ) (taken : Taken) (value : List ℕ) (later : Taken) → number ≢ k → Unset k taken
    → (if b then None else Some (record taken { values = slice_set taken.values number (Some value); awaits = None })) ≡ Some later → Unset k later
value_unset true k number taken value later other unset is = absurd (none-some later is)
value_unset false k number taken value later other unset is =
    let e : (record taken { values = slice_set taken.values number (Some value); awaits = None }) ≡ later = cc in
    subst (Unset k) e (get_or-set_other taken.values number k (Some value) None (λ same. other (sym same)) ∙ unset.0, none-some k)

other_unset : (k number : ℕ) (taken : Taken) (value : List ℕ) (later : Taken) → number ≢ k → Unset k taken → with_value taken number value ≡ Some later
    → Unset k later
other_unset k number taken value later other unset is = value_unset (is_some (option_value taken number)) k number taken value later other unset is

option_unset : (valued : Bool) (k number : ℕ) (taken : Taken) (later : Taken) → number ≢ k → Unset k taken
    → (if valued then Some (record taken { awaits = Some number }) else with_value taken number []) ≡ Some later → Unset k later
option_unset true k number taken later other unset is =
    let e : (record taken { awaits = Some number }) ≡ later = cc in
    subst (Unset k) e (unset.0, λ same. other (let numbers : number ≡ k = cc in numbers))
option_unset false k number taken later other unset is = other_unset k number taken [] later other unset is

otherwise_unset : (value : Option (List ℕ)) (k number : ℕ) (taken : Taken) (rest : Option Taken) (later : Taken) → number ≢ k → Unset k taken
    → (rest ≡ Some later → Unset k later) → otherwise value number taken rest ≡ Some later → Unset k later
otherwise_unset None k number taken rest later other unset more is = more is
otherwise_unset (Some value) k number taken rest later other unset more is = other_unset k number taken value later other unset is

module _ (opt : List ℕ) (k : ℕ) where
  -- the option with the number is this one
  abbrev IsAt : List OptionForm → ℕ → Type 0
  IsAt os number = (i : ℕ) (o : OptionForm) → slice_get os i ≡ Some o → number + i ≡ k → o.word ≡ opt

  word_unset : (os : List OptionForm) (number plain : ℕ) (taken : Taken) (word : List ℕ) (later : Taken) → IsAt os number → behind opt word ≡ None
      → Unset k taken → with_word os number plain taken word ≡ Some later → Unset k later
  word_unset [] number plain taken word later at none unset is =
      either (is_dashed word) None (with_plain plain taken word) later (λ dashed e. absurd (none-some later e))
      (λ bare e. plain_unset k plain taken word later unset e) is
  word_unset (o ∷ os) number plain taken word later at none unset is =
      let rest = with_word os (number + 1) plain taken word in
      let one = if o.valued then Some (record taken { awaits = Some number }) else with_value taken number [] in
      let value = if o.valued then option_and_then (behind (codes "=")) (behind o.word word) else None in
      let more : rest ≡ Some later → Unset k later = λ e.
      word_unset os (number + 1) plain taken word later (λ i p there same. at (suc i) p there (omega (arith, same))) none unset e in
      elim (eqb_tells number k) [
        | inl same ↦ (
            let this : o.word ≡ opt = at 0 o refl (omega (arith, same.1)) in
            either (bytes_eq word o.word) one (otherwise value number taken rest) later
            (λ equal e.
            let itself : word ≡ opt = (bytes_eq-Decides word o.word).0 equal ∙ this in
            let empty : None ≡ Some [] = sym none ∙ ap (behind opt) itself ∙ behind_self opt in
            absurd (none-some [] empty))
            (λ differs e.
            let gone : value ≡ None = ap (λ (b : Option (List ℕ)). if o.valued then option_and_then (behind (codes "=")) b else None)
            (ap (λ (w : List ℕ). behind w word) this ∙ none) ∙ none_chosen o.valued in
            more (sym (ap (λ (v : Option (List ℕ)). otherwise v number taken rest) gone) ∙ e))
            is)
        | inr apart ↦
            either (bytes_eq word o.word) one (otherwise value number taken rest) later
            (λ equal e. option_unset o.valued k number taken later apart.1 unset e)
            (λ differs e. otherwise_unset value k number taken rest later apart.1 unset more e)
            is
      ]

  next_unset : (awaits : Option ℕ) (form : Form) (taken : Taken) (word : List ℕ) (later : Taken) → IsAt form.options 0 → awaits ≢ Some k
      → behind opt word ≡ None → Unset k taken → take_by awaits form taken word ≡ Some later → Unset k later
  next_unset (Some number) form taken word later at unlike none unset is =
      either (is_dashed word) None (with_value taken number word) later (λ dashed e. absurd (none-some later e))
      (λ bare e. other_unset k number taken word later (λ same. unlike (ap Some same)) unset e) is
  next_unset None form taken word later at unlike none unset is =
      either taken.ended (with_plain form.plain taken word)
      (if bytes_eq word (codes "--") then Some (record taken { ended = true }) else with_word form.options 0 form.plain taken word) later
      (λ ended e. plain_unset k form.plain taken word later unset e)
      (λ going e.
      either (bytes_eq word (codes "--")) (Some (record taken { ended = true })) (with_word form.options 0 form.plain taken word) later
      (λ dashes f. let same : (record taken { ended = true }) ≡ later = cc in subst (Unset k) same unset)
      (λ other f. word_unset form.options 0 form.plain taken word later at none unset f)
      e)
      is

  all_unset : (form : Form) (words : List (List ℕ)) (taken later : Taken) → IsAt form.options 0 → AllByRecursion (λ word. behind opt word ≡ None) words
      → Unset k taken → take_all form taken words ≡ Some later → Unset k later
  all_unset form [] taken later at none unset is = let e : taken ≡ later = cc in subst (Unset k) e unset
  all_unset form (word ∷ words) taken later at none unset is = option_and_then_some (λ more. take_all form more words)
      (take_by taken.awaits form taken word) later is (λ next by more.
      all_unset form words next later at none.1 (next_unset taken.awaits form taken word next at unset.1 none.0 unset by) more)

  pub option_unset_of : (form : Form) (words : List (List ℕ)) (taken : Taken) → IsAt form.options 0 → AllByRecursion (λ word. behind opt word ≡ None) words
      → option_value nothing k ≡ None → taken_by form words ≡ Some taken → option_value taken k ≡ None
  option_unset_of form words taken at none empty is = option_and_then_some (whole form.plain) (take_all form nothing words) taken is (λ all taken_all ends.
      let unset = all_unset form words nothing all at none (empty, none-some k) taken_all in
      let same = whole_same (is_some all.awaits || nat_lt (length all.plain) form.plain) all taken ends in
      subst (λ (t : Taken). option_value t k ≡ None) same unset.0)
    where
      whole_same : (b : Bool) (taken later : Taken) → (if b then None else Some taken) ≡ Some later → taken ≡ later
      whole_same true taken later is = absurd (none-some later is)
      whole_same false taken later is = cc
