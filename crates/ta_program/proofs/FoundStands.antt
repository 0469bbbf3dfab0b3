-- what the files hold where values were found
use Rattle.ta_program.proofs.Common.{◌≡◌, ◌≢◌, ◌∙◌, ℕ, List, [], ◌∷◌, map, Option, None, Some, refl, sym, ap, subst, Told, WhereTold, HoldsText, Stand, Put}
use Rattle.ta_program.proofs.Common.{HoldFound, PutText, found_files, put_text}
use Rattle.ta_program.proofs.WordsDiffer.{Apart}

-- these texts stand: those behind the first were put before it
abbrev Stands : List PutText → Option Told → Option Told → Type 0
Stands [] before after = after ≡ before
Stands (f ∷ fs) before after = (middle : Option Told) × Stands fs before middle × WhereTold (HoldsText f.name f.text) middle after

stands_of : (puts : List Put) (files : List PutText) (before after : Option Told) → map put_text puts ≡ files → Stand puts before after
    → Stands files before after
stands_of [] [] before after is stand = stand
stands_of [] (f ∷ fs) before after is stand = absurd (cc)
stands_of (p ∷ ps) [] before after is stand = absurd (cc)
stands_of (p ∷ ps) (f ∷ fs) before after is stand =
    let head : put_text p ≡ f = cc in
    let tail : map put_text ps ≡ fs = cc in
    (stand.0, stands_of ps fs before stand.0 tail stand.1, subst (λ (x : PutText). WhereTold (HoldsText x.name x.text) stand.0 after) head stand.2)

-- of told files, where what is told of none needs no more
where_same : (P : Told → Told → Type 0) → ((told : Told) → P told told) → (before after : Option Told) → after ≡ before → WhereTold P before after
where_same P same before None is = subst (λ (o : Option Told). WhereTold P o None) is tt
where_same P same before (Some told) is = subst (λ (o : Option Told). WhereTold P o (Some told)) is (same told)

where_one : (P Q : Told → Told → Type 0) → ((before after : Told) → P before after → Q before after) → (before middle after : Option Told) → middle ≡ before
    → WhereTold P middle after → WhereTold Q before after
where_one P Q from before middle after is h = mapped before after (subst (λ (o : Option Told). WhereTold P o after) is h)
  where
    mapped : (before after : Option Told) → WhereTold P before after → WhereTold Q before after
    mapped None None h = tt
    mapped None (Some m) h = absurd h
    mapped (Some b) None h = absurd h
    mapped (Some b) (Some m) h = from b m h

where_two : (P Q R : Told → Told → Type 0) → ((before middle after : Told) → P before middle → Q middle after → R before after)
    → (before middle after : Option Told) → WhereTold P before middle → WhereTold Q middle after → WhereTold R before after
where_two P Q R from None None None h k = tt
where_two P Q R from None None (Some a) h k = absurd k
where_two P Q R from None (Some m) after h k = absurd h
where_two P Q R from (Some b) None after h k = absurd h
where_two P Q R from (Some b) (Some m) None h k = absurd k
where_two P Q R from (Some b) (Some m) (Some a) h k = from b m a h k

module _ (text certificate : List ℕ) where
  none_put : (told : Told) → HoldFound None None text certificate told told
  none_put told = record { first = λ name is. absurd (cc); second = λ name is. absurd (cc); others = λ name a b. refl }

  first_put : (filled : List ℕ) (before after : Told) → HoldsText filled text before after → HoldFound (Some filled) None text certificate before after
  first_put filled before after h = record {
    first = λ name is. let e : filled ≡ name = cc in subst (λ (n : List ℕ). after n ≡ Some text) e h.held;
    second = λ name is. absurd (cc);
    others = λ name a b. h.others name (λ e. a (ap (λ (n : List ℕ). Some n) (sym e)));
  }

  second_put : (out : List ℕ) (before after : Told) → HoldsText out certificate before after → HoldFound None (Some out) text certificate before after
  second_put out before after h = record {
    first = λ name is. absurd (cc);
    second = λ name is. let e : out ≡ name = cc in subst (λ (n : List ℕ). after n ≡ Some certificate) e h.held;
    others = λ name a b. h.others name (λ e. b (ap (λ (n : List ℕ). Some n) (sym e)));
  }

  both_put : (filled out : List ℕ) → filled ≢ out → (before middle after : Told) → HoldsText filled text before middle → HoldsText out certificate middle after
      → HoldFound (Some filled) (Some out) text certificate before after
  both_put filled out apart before middle after h k = record {
    first = λ name is. let e : filled ≡ name = cc in subst (λ (n : List ℕ). after n ≡ Some text) e (k.others filled apart ∙ h.held);
    second = λ name is. let e : out ≡ name = cc in subst (λ (n : List ℕ). after n ≡ Some certificate) e k.held;
    others = λ name a b. k.others name (λ e. b (ap (λ (n : List ℕ). Some n) (sym e))) ∙ h.others name (λ e. a (ap (λ (n : List ℕ). Some n) (sym e)));
  }

  by_names : (filled out : Option (List ℕ)) → Apart filled out → (before after : Option Told) → Stands (found_files filled out text certificate) before after
      → WhereTold (HoldFound filled out text certificate) before after
  by_names None None apart before after stands = where_same (HoldFound None None text certificate) none_put before after stands
  by_names (Some filled) None apart before after stands = where_one (HoldsText filled text) (HoldFound (Some filled) None text certificate) (first_put filled)
      before stands.0 after stands.1 stands.2
  by_names None (Some out) apart before after stands = where_one (HoldsText out certificate) (HoldFound None (Some out) text certificate) (second_put out)
      before stands.0 after stands.1 stands.2
  by_names (Some filled) (Some out) apart before after stands =
      let rest = stands.1 in
      let end = subst (λ (o : Option Told). WhereTold (HoldsText filled text) o stands.0) rest.1 rest.2 in
      where_two (HoldsText filled text) (HoldsText out certificate) (HoldFound (Some filled) (Some out) text certificate)
      (both_put filled out (apart filled out refl refl)) before stands.0 after end stands.2

  pub found_stands : (filled out : Option (List ℕ)) → Apart filled out → (puts : List Put) → map put_text puts ≡ found_files filled out text certificate
      → (before after : Option Told) → Stand puts before after → WhereTold (HoldFound filled out text certificate) before after
  found_stands filled out apart puts are before after stand = by_names filled out apart before after
      (stands_of puts (found_files filled out text certificate) before after are stand)
