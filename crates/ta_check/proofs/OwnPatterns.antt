-- what is shown of endings holds of the file's own patterns
use Rattle.ta_check.proofs.Common.{◌≡◌, ℕ, zero, suc, List, [], ◌∷◌, Some, slice_get, refl, subst, Automaton, File, Pattern, Endings, IsEnding, EndingsOf}
use Rattle.ta_check.proofs.Common.{AllQuietRestSafe, RestSafe, claimed_with}
use Rattle.ta_rest.specs.Rest.{RestSafe as IsRestSafe}
use Rattle.ta_rest.specs.Quiet.{QuietRestSafe}
use Rattle.ta_rest.proofs.QuietResting.{quiet_endings}
use Rattle.ta_rest.proofs.EndingLaws.{endings_rest}

-- a pattern, and its ending of this number
record Own (ps : List Pattern) (number : ℕ) (ending : Pattern) : Type 0 where
  pub pattern : Pattern
  pub named : slice_get ps number ≡ Some pattern
  pub is : IsEnding pattern ending

own_of : (ps qs : List Pattern) (number : ℕ) (ending : Pattern) → Endings ps qs → slice_get qs number ≡ Some ending → Own ps number ending
own_of [] [] number ending are named = absurd (cc)
own_of (p ∷ ps) (q ∷ qs) zero ending are named = let same : q ≡ ending = cc in record { pattern = p; named = refl; is = subst (IsEnding p) same are.0 }
own_of (p ∷ ps) (q ∷ qs) (suc n) ending are named =
    let rest = own_of ps qs n ending are.1 named in
    record { pattern = rest.pattern; named = rest.named; is = rest.is }
own_of [] (q ∷ qs) number ending are named = absurd are
own_of (p ∷ ps) [] number ending are named = absurd are

-- no run comes to rest where the last event of the pattern happens, since none does of its ending
own_rests : (a b : Automaton) (p ending : Pattern) → b ≡ a → IsEnding p ending → IsRestSafe b ending → IsRestSafe a p
own_rests a b p ending same is safe = λ first rules occurs. subst (λ (c : Automaton). IsRestSafe c ending) same safe first rules
    ((endings_rest a p ending is first rules).0 occurs)

own_claimed : (silent : List ℕ) (a b : Automaton) (p ending : Pattern) → b ≡ a → IsEnding p ending → claimed_with RestSafe silent b ending
    → claimed_with RestSafe silent a p
own_claimed [] a b p ending same is safe = own_rests a b p ending same is safe
own_claimed (place ∷ silent) a b p ending same is safe = λ first rules occurs. subst (λ (c : Automaton). QuietRestSafe c (place ∷ silent) ending) same safe
    first rules ((quiet_endings a (place ∷ silent) p ending is first rules).0 occurs)

pub all_own : (silent : List ℕ) (file ending : File) (added : ℕ) (numbers : List ℕ) → EndingsOf file ending added → AllQuietRestSafe ending silent numbers
    → AllQuietRestSafe file silent numbers
all_own silent file ending added [] of safe = tt
all_own silent file ending added (n ∷ ns) of safe =
    let one = safe.0 in
    let own = own_of file.patterns ending.patterns n one.pattern of.patterns one.named in (
      record {
        pattern = own.pattern;
        named = own.named;
        safe = own_claimed silent file.automaton ending.automaton own.pattern one.pattern of.automaton own.is
            one.safe;
      },
      all_own silent file ending added ns of safe.1,
    )
