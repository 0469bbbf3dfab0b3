-- what the answers of `search` say
use Rattle.ta_program.specs.SearchWords.{terms_of}
use Rattle.ta_program.specs.Values.{limits_of}
use Rattle.ta_program.proofs.Common.{Terms, ◌≡◌, ◌∙◌, ◌<◌, ◌≤◌, ℕ, suc, Bool, true, false, List, [], ◌∷◌, ◌++◌, length, map, Option, None, Some, Ok, Err, refl}
use Rattle.ta_program.proofs.Common.{sym, ap, subst, inl, inr, rules, arith, Contains, IsSome, AllByRecursion, each_append, Tried, Template, filled_text}
use Rattle.ta_program.proofs.Common.{AreTried, LastIsFound, each_before, hole_values, vectors, Told, Says, file_line, phrase_text, PutsWithin, Answer, Put}
use Rattle.ta_program.proofs.Common.{Refusal, Refused, ReadFailed, PutFailed, Memory, long_line, may_put, CERTIFICATE, SaysLong, HindersFound, PutText}
use Rattle.ta_program.proofs.Common.{end_number, found_files, found_meaning, found_names, put_text, SearchWords, each_back}
use Rattle.ta_search.specs.declared.outcome.Outcome.TheVariants.{Safe}
use Rattle.ta_search.specs.declared.template.Hole.{Hole}
use Rattle.ta_program.specs.Inside.FoundFiles.{FoundBy}
use Rattle.ta_base.proofs.Lists.{same_end}

-- the names of these files are among those that may be put
abbrev NamesIn : List (List ℕ) → List PutText → Type 0
NamesIn names [] = Unit {0}
NamesIn names (f ∷ fs) = Contains names f.name × NamesIn names fs

within_of : (names : List (List ℕ)) (puts : List Put) (files : List PutText) → map put_text puts ≡ files → NamesIn names files → PutsWithin names puts
within_of names [] files e in_names = tt
within_of names (p ∷ ps) [] e in_names = absurd (cc)
within_of names (p ∷ ps) (f ∷ fs) e in_names =
    let head : f ≡ put_text p = cc in
    let tail : map put_text ps ≡ fs = cc in
    (subst (λ (x : PutText). Contains names x.name) head in_names.0, within_of names ps fs tail in_names.1)

names_in : (filled out : Option (List ℕ)) (text certificate : List ℕ) → NamesIn (may_put filled ++ may_put out) (found_files filled out text certificate)
names_in None None text certificate = tt
names_in None (Some out) text certificate = (search rules, tt)
names_in (Some filled) None text certificate = (search rules, tt)
names_in (Some filled) (Some out) text certificate = ((1, omega arith, refl), (search rules, tt))

-- a vector has a value for each hole
abbrev Sized : ℕ → List (List ℕ) → Type 0
Sized n vs = AllByRecursion (λ (v : List ℕ). length v ≡ n) vs

mapped_sized : (n value : ℕ) (vs : List (List ℕ)) → Sized n vs → Sized (suc n) (map (λ (v : List ℕ). value ∷ v) vs)
mapped_sized n value [] sized = tt
mapped_sized n value (v ∷ vs) sized = (ap suc sized.0, mapped_sized n value vs sized.1)

before_sized : (n : ℕ) (values : List ℕ) (vs : List (List ℕ)) → Sized n vs → Sized (suc n) (each_before values vs)
before_sized n [] vs sized = tt
before_sized n (value ∷ values) vs sized = each_append (λ (v : List ℕ). length v ≡ suc n) (map (λ (v : List ℕ). value ∷ v) vs) (each_before values vs)
    (mapped_sized n value vs sized) (before_sized n values vs sized)

vectors_sized : (hs : List Hole) → Sized (length hs) (vectors hs)
vectors_sized [] = (refl, tt)
vectors_sized (h ∷ hs) = before_sized (length hs) (hole_values h) (vectors hs) (vectors_sized hs)

tried_sized : (t : Template) (terms : Terms) (n : ℕ) (vs : List (List ℕ)) (xs : List Tried) (found : Bool) → Sized n vs → AreTried t terms vs xs found
    → AllByRecursion (λ (x : Tried). length x.values ≡ n) xs
tried_sized t terms n [] [] found sized are = tt
tried_sized t terms n [] (x ∷ xs) found sized are = absurd are
tried_sized t terms n (v ∷ vs) [] found sized are = absurd are
tried_sized t terms n (v ∷ vs) (x ∷ xs) found sized are = (
  ap length are.0.values ∙ sized.0,
  elim are.1 [
    | inl ends ↦ subst (AllByRecursion (λ (x : Tried). length x.values ≡ n)) (sym ends.last) tt
    | inr more ↦ tried_sized t terms n vs xs found sized.1
        more.1
  ],
)

-- what was tried last has the values and the certificate that are known
module _ (asked : SearchWords) (t : Template) (values certificate text : List ℕ) (h : FoundBy t (terms_of asked) asked.json values certificate text) where
  last : LastIsFound t (limits_of asked.wide) h.end
  last = h.ends.last

  same : last.last ≡ record { values = values; outcome = Safe certificate }
  same = same_end last.before h.gives.before last.last _ (sym last.whole ∙ h.gives.whole)

  same_values : last.last.values ≡ values
  same_values = ap (λ (x : Tried). x.values) same

  same_certificate : last.certificate ≡ certificate
  same_certificate =
      let said : Safe last.certificate ≡ Safe certificate = sym last.said ∙ ap (λ (x : Tried). x.outcome) same in
      cc

  -- it is put
  pub says_found : (answer : Answer) → answer.number ≡ 0 → answer.text ≡ text
      → map put_text answer.puts ≡ found_files asked.filled asked.out (filled_text t values) certificate
      → (IsSome asked.out → length certificate ≤ CERTIFICATE.bytes) → (files : Option Told) → Says (found_meaning asked t) files (Ok answer) []
  says_found answer zero written are within files =
      let low : answer.number ≤ 2 = omega (arith, zero) in
      let number : end_number h.end ≡ 0 = rw h.ends.found refl in
      record {
        opened = refl;
        judges = record {
          low = low;
          holds = record {
            end = h.end;
            is_end = h.ends.is_end;
            numbered = zero ∙ sym number;
            written = written ∙ h.ends.written;
            found = λ found. record {
              last = last;
              are = are ∙ ap (λ (vs : List ℕ). found_files asked.filled asked.out (filled_text t vs) certificate) (sym same_values)
                  ∙ ap (found_files asked.filled asked.out (filled_text t last.last.values)) (sym same_certificate);
              within = λ some. subst (λ (c : List ℕ). length c ≤ CERTIFICATE.bytes) (sym same_certificate) (within some);
            };
            nothing = λ none. let e : true ≡ false = sym h.ends.found ∙ none in absurd (cc);
          };
          within = within_of (found_names asked) answer.puts _ are (names_in asked.filled asked.out (filled_text t values) certificate);
        };
      }

  hinders : (out : Option (List ℕ)) (name : List ℕ) → out ≡ Some name → (number : ℕ) (line : List ℕ) → number ≡ CERTIFICATE.number → line ≡ long_line name
      → CERTIFICATE.bytes < length certificate → HindersFound t (terms_of asked) out number line
  hinders None name is number line numbered said longer = absurd (cc)
  hinders (Some out) name is number line numbered said longer =
      let one : name ≡ out = cc in
      record {
        numbered = numbered;
        said = said ∙ ap long_line one;
        long = record {
          end = h.end;
          is_end = h.ends.is_end;
          found = h.ends.found;
          last = last;
          longer = subst (λ (c : List ℕ). CERTIFICATE.bytes < length c)
              (sym same_certificate) longer;
        };
      }

  -- its certificate is too long
  pub says_long : (name : List ℕ) → asked.out ≡ Some name → CERTIFICATE.bytes < length certificate → (refusal : Refusal) → SaysLong name refusal
      → (files : Option Told) → Says (found_meaning asked t) files (Err refusal) []
  says_long name is longer (Refused n who why) says files =
      let four = says.0 in
      record {
        opened = refl;
        judges =
            (omega (arith, four), omega (arith, four), hinders asked.out name is n (file_line who.now (phrase_text why)) says.0 says.1 longer);
      }
  says_long name is longer (ReadFailed who) says files = absurd says
  says_long name is longer (PutFailed who) says files = absurd says
  says_long name is longer Memory says files = absurd says

  -- there is a value for each hole
  pub values_sized : length values ≡ length t.holes
  values_sized =
      ap length (sym same_values) ∙ (each_back (λ (x : Tried). length x.values ≡ length t.holes) last.before (last.last ∷ [])
      (subst (AllByRecursion (λ (x : Tried). length x.values ≡ length t.holes)) last.whole
      (tried_sized t (terms_of asked) (length t.holes) (vectors t.holes) h.end.tried h.end.found (vectors_sized t.holes) h.ends.is_end))).0
