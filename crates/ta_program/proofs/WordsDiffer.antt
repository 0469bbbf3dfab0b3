-- the files that a command puts are not its FILE, and not each other
use Rattle.ta_program.proofs.Common.{◌≡◌, ◌≢◌, ◌∙◌, ℕ, Bool, true, false, ◌&&◌, not, List, [], ◌∷◌, length, Option, None, Some, refl, sym, subst, rules}
use Rattle.ta_program.proofs.Common.{option_and_then_some, if◌then◌else◌, bytes_eq, rest_form, rest_of, rest_taken, rest_words, SearchWords, search_form}
use Rattle.ta_program.proofs.Common.{search_of, search_taken, search_words, are_same, budget_of, filled_of, file_name_of, out_of, VerifyWords, verify_form}
use Rattle.ta_program.proofs.Common.{verify_of, verify_taken, verify_words, Taken, behind_name, plain_of, taken_by, option_value, codes, nat_lt}
use Rattle.ta_program.proofs.Common.{option_map, RestWords, quiet_names}
use Rattle.std.proofs.lemmas.Option.{cond_some, none-some}
use Rattle.ta_program.specs.Values.{wide_of}
use Rattle.ta_program.specs.Words.{is_given}
use Rattle.ta_base.proofs.Booleans.{not_chosen}
use Rattle.ta_base.proofs.Options.{some_where}

-- two names that are both given differ
abbrev pub Apart : Option (List ℕ) → Option (List ℕ) → Type 0
Apart one two = (name other : List ℕ) → one ≡ Some name → two ≡ Some other → name ≢ other

-- the name of OUT is not that of FILE
by_test : (some differs : Bool) (file given : List ℕ) → (differs ≡ true → given ≢ file) → (result : Option (List ℕ))
    → (if some && differs then Some (Some given) else None) ≡ Some result → Apart (Some file) result
by_test true true file given apart result is = λ name other first second same.
    let a : file ≡ name = cc in
    let b : given ≡ other = cc in
    apart refl (b ∙ sym same ∙ sym a)
by_test true false file given apart result is = absurd (cc)
by_test false differs file given apart result is = absurd (cc)

file_apart : (file : List ℕ) (given result : Option (List ℕ)) → out_of file given ≡ Some result → Apart (Some file) result
file_apart file None result is = λ name other first second. absurd (cc)
file_apart file (Some given) result is = by_test (nat_lt 0 (length given)) (not (bytes_eq given file)) file given (λ differs same. search rules) result is

-- what the words of a command say of what they ask for, where they are behind its name
behind : {W : Type 0} (Such : W → Type 0) (name : List ℕ) (read : List (List ℕ) → Option W)
    → ((words : List (List ℕ)) (asked : W) → read words ≡ Some asked → Such asked) → (words : List (List ℕ)) (asked : W)
    → behind_name name read words ≡ Some asked → Such asked
behind Such name read such [] asked is = absurd (cc)
behind Such name read such (word ∷ words) asked is = such words asked (some_where (bytes_eq word name) (read words) asked is).1

-- what is so of each that may be made of something is so of what is made
made_so : {X W : Type 0} (Such : W → Type 0) (make : X → W) → ((x : X) → Such (make x)) → (o : Option X) (asked : W) → option_map make o ≡ Some asked
    → Such asked
made_so Such make each None asked is = absurd (none-some asked is)
made_so Such make each (Some x) asked is = let same : make x ≡ asked = cc in subst Such same (each x)

-- ---- OUT of `verify`
abbrev Differs : VerifyWords → Type 0
Differs asked = Apart (Some asked.file) asked.out

taken_differs : (taken : Taken) (asked : VerifyWords) → verify_taken taken ≡ Some asked → Differs asked
taken_differs taken asked is =
    option_and_then_some _ (file_name_of (plain_of taken 0)) asked is (λ file named file_is.
    option_and_then_some _ (budget_of (option_value taken 0)) asked file_is (λ nodes counted nodes_is.
    option_and_then_some _ (out_of file (option_value taken 1)) asked nodes_is (λ out took out_is.
    made_so Differs _ (λ wide. file_apart file (option_value taken 1) out took) (wide_of (is_given taken 6) (is_given taken 3)) asked out_is)))

verify_differs : (words : List (List ℕ)) (asked : VerifyWords) → verify_words words ≡ Some asked → Differs asked
verify_differs words asked is = option_and_then_some verify_taken (taken_by verify_form words) asked is
    (λ taken by taken_is. taken_differs taken asked taken_is)

pub out_differs : (words : List (List ℕ)) (asked : VerifyWords) (out : List ℕ) → verify_of words ≡ Some asked → asked.out ≡ Some out → asked.file ≢ out
out_differs words asked out is given = behind Differs (codes "verify") verify_words verify_differs words asked is asked.file out refl given

-- ---- the words of `rest`: OUT differs from FILE, and names are silent with moments on demand alone
pub record RestSaid (asked : RestWords) : Type 0 where
  pub differs : Apart (Some asked.verify.file) asked.verify.out
  pub quiet : asked.verify.budget.lazy ≡ false → asked.silent ≡ None

names_quiet : (lazy : Bool) (given silent : Option (List ℕ)) → quiet_names lazy given ≡ Some silent → lazy ≡ false → silent ≡ None
names_quiet true given silent is words = absurd (cc)
names_quiet false None silent is words = cc
names_quiet false (Some names) silent is words = absurd (cc)

by_names :
    (v : VerifyWords) (given : Option (List ℕ)) → Differs v → (names : Option (Option (List ℕ))) → quiet_names v.budget.lazy given ≡ names → (asked : RestWords)
    → option_map (λ s. record { verify = v; silent = s }) names ≡ Some asked → RestSaid asked
by_names v given apart None from asked is = absurd (cc)
by_names v given apart (Some silent) from asked is =
    let words : RestWords = record { verify = v; silent = silent } in
    let same : words ≡ asked = cc in
    subst RestSaid same (record { differs = apart; quiet = names_quiet v.budget.lazy given silent from })

rest_taken_says : (taken : Taken) (asked : RestWords) → rest_taken taken ≡ Some asked → RestSaid asked
rest_taken_says taken asked is = option_and_then_some _ (verify_taken taken) asked is (λ v v_is silent_is.
    by_names v (option_value taken 7) (taken_differs taken v v_is) (quiet_names v.budget.lazy (option_value taken 7)) refl asked silent_is)

rest_says : (words : List (List ℕ)) (asked : RestWords) → rest_words words ≡ Some asked → RestSaid asked
rest_says words asked is = option_and_then_some rest_taken (taken_by rest_form words) asked is (λ taken by taken_is. rest_taken_says taken asked taken_is)

pub rest_said : (words : List (List ℕ)) (asked : RestWords) → rest_of words ≡ Some asked → RestSaid asked
rest_said words asked is = behind RestSaid (codes "rest") rest_words rest_says words asked is

differ : (out given : Option (List ℕ)) → are_same out given ≡ false → Apart given out
differ None given differs = λ name other first second. absurd (cc)
differ (Some out) None differs = λ name other first second. absurd (cc)
differ (Some out) (Some given) differs = λ name other first second equal.
    let same : out ≡ given = cc in
    let e : bytes_eq out given ≡ true = search rules in
    let f : true ≡ false = sym e ∙ differs in
    absurd (cc)

out_given : (file : List ℕ) (given result : Option (List ℕ)) → out_of file given ≡ Some result → result ≡ given
out_given file None result is = cc
out_given file (Some given) result is = sym (cond_some (nat_lt 0 (length given) && not (bytes_eq given file)) (Some given) result is).1

-- the names of FILE, OUT and OUT2, as far as they are given
pub record AllApart (asked : SearchWords) : Type 0 where
  pub puts : Apart asked.filled asked.out
  pub out : Apart (Some asked.file) asked.out
  pub filled : Apart (Some asked.file) asked.filled

taken_apart : (taken : Taken) (asked : SearchWords) → search_taken taken ≡ Some asked → AllApart asked
taken_apart taken asked is = option_and_then_some _ (file_name_of (plain_of taken 0)) asked is (λ file named file_is.
    option_and_then_some _ (budget_of (option_value taken 0)) asked file_is (λ nodes counted nodes_is.
    option_and_then_some _ (out_of file (option_value taken 1)) asked nodes_is (λ out took out_is.
    option_and_then_some _ (filled_of file out (option_value taken 2)) asked out_is (λ filled from filled_is.
    let given = option_value taken 2 in
    let by = not_chosen (are_same out given) None (out_of file given) (Some filled) from (none-some filled) in
    made_so AllApart _
    (λ wide. record {
      puts = subst (λ (o : Option (List ℕ)). Apart o out) (sym (out_given file given filled by.1)) (differ out given by.0);
      out = file_apart file (option_value taken 1) out took;
      filled = file_apart file given filled by.1;
    })
    (wide_of (is_given taken 5) (is_given taken 3)) asked filled_is))))

search_apart : (words : List (List ℕ)) (asked : SearchWords) → search_words words ≡ Some asked → AllApart asked
search_apart words asked is = option_and_then_some search_taken (taken_by search_form words) asked is (λ taken by taken_is. taken_apart taken asked taken_is)

pub names_apart : (words : List (List ℕ)) (asked : SearchWords) → search_of words ≡ Some asked → AllApart asked
names_apart words asked is = behind AllApart (codes "search") search_words search_apart words asked is
