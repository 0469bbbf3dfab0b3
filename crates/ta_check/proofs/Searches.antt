-- the search for a claim on a pattern, by its number, under pairs in whatever order
use Rattle.ta_check.proofs.Common.{◌≡◌, ℕ, List, length, Option, None, Some, Bool, true, false, cond, slice_get, slice_get_within, ap, ◌∙◌, refl, sym, subst}
use Rattle.ta_check.proofs.Common.{false≢true, Automaton, Pattern, Element, Node, Search, Pending, MayStand, IsJudged, word_rows, search_for, Claim, Safe}
use Rattle.ta_check.proofs.Common.{RestSafe, Kind, Words, Moments, HasForm, Subject, asking_for, fact_of, moments_of, search_in, search_at, search_of}
use Rattle.ta_check.proofs.Common.{SameMembers, ◌<◌}
use Rattle.std.proofs.Math.Path.{fun_ext}
use Rattle.std.specs.Option.{is_some}
use Rattle.std.specs.Prelude.{◌&&◌}
use Rattle.ta_words.specs.Words.{is_complete}
use Rattle.ta_cert.specs.declared.line.Node.TheVariants as node
use Rattle.ta_encode.specs.PatternSearch.{all_starts}
use Rattle.ta_encode.specs.Search.{only_extend}
use Rattle.ta_words.proofs.Pairs.{same_children}
use Rattle.ta_encode.specs.Unknowns.{meanings}

-- the same pairs make one search
same_words : (claim : Claim) (a : Automaton) (p : Pattern) (xs ys : List (ℕ × ℕ)) → SameMembers xs ys → search_for claim a p xs ≡ search_for claim a p ys
same_words Safe a p xs ys same =
    let with : (ℕ → List Element → List Element) → Search Element = λ f. record {
      roots = all_starts a;
      answers = λ start past. only_extend (is_complete p past) (f start past);
      question = λ start past values. Some node.Extend;
      scaled = λ w values. None;
      unknowns = λ start past. length (meanings a p start past);
      rows = word_rows a p;
    } in
    ap with (fun_ext (λ start. fun_ext (λ past. same_children a p xs ys start past same)))
same_words RestSafe a p xs ys same = refl

pub same_search : (kind : Kind) (subject : Subject) (xs ys : List (ℕ × ℕ)) (p : Pattern) → SameMembers xs ys
    → search_of kind subject xs p ≡ search_of kind subject ys p
same_search Words subject xs ys p same = same_words subject.claim subject.file.automaton p xs ys same
same_search Moments subject xs ys p same = refl

-- the pattern that a search is of
pub record Searched (kind : Kind) (subject : Subject) (pairs : List (ℕ × ℕ)) (number : ℕ) (search : Search (fact_of kind)) : Type 0 where
  pub pattern : Pattern
  pub named : slice_get subject.file.patterns number ≡ Some pattern
  pub is : search_of kind subject pairs pattern ≡ search

of_some : (kind : Kind) (subject : Subject) (pairs : List (ℕ × ℕ)) (o : Option Pattern) (search : Search (fact_of kind))
    → search_in kind subject pairs o ≡ Some search → (p : Pattern) × (o ≡ Some p) × (search_of kind subject pairs p ≡ search)
of_some kind subject pairs None search e = absurd (cc)
of_some kind subject pairs (Some p) search e = (p, refl, (let one : Some (search_of kind subject pairs p) ≡ Some search = e in cc))

pub searched : (kind : Kind) (subject : Subject) (pairs : List (ℕ × ℕ)) (number : ℕ) (search : Search (fact_of kind))
    → search_at kind subject pairs number ≡ Some search → Searched kind subject pairs number search
searched kind subject pairs number search e =
    let found = of_some kind subject pairs (slice_get subject.file.patterns number) search e in
    record { pattern = found.0; named = found.1; is = found.2 }

-- the file has it
pub search_exists : (kind : Kind) (subject : Subject) (pairs : List (ℕ × ℕ)) (number : ℕ) (search : Search (fact_of kind))
    → search_at kind subject pairs number ≡ Some search → number < length subject.file.patterns
search_exists kind subject pairs number search e =
    let found = searched kind subject pairs number search e in
    slice_get_within subject.file.patterns number found.pattern found.named

-- that of the file's pattern of a number
pub search_named : (kind : Kind) (subject : Subject) (pairs : List (ℕ × ℕ)) (number : ℕ) (p : Pattern) → slice_get subject.file.patterns number ≡ Some p
    → search_at kind subject pairs number ≡ Some (search_of kind subject pairs p)
search_named kind subject pairs number p named = ap (search_in kind subject pairs) named

-- also under the same pairs in another order
pub search_same : (kind : Kind) (subject : Subject) (xs ys : List (ℕ × ℕ)) (number : ℕ) (p : Pattern) → slice_get subject.file.patterns number ≡ Some p
    → SameMembers xs ys → search_at kind subject xs number ≡ Some (search_of kind subject ys p)
search_same kind subject xs ys number p named same = search_named kind subject xs number p named
    ∙ ap (λ (s : Search (fact_of kind)). Some s) (same_search kind subject xs ys p same)

-- ---- its nodes have the forms of its kind
words_form : (claim : Claim) (a : Automaton) (p : Pattern) (pairs : List (ℕ × ℕ)) (w : Pending Element) (n : Node)
    → MayStand (search_for claim a p pairs) (IsJudged (search_for claim a p pairs)) w n → HasForm Words claim n
words_form claim a p pairs w (node.Leaf ts) may = tt
words_form claim a p pairs w (node.Split unknown floor) may = tt
words_form claim a p pairs w node.Extend may = tt
words_form Safe a p pairs w (node.Guard guard) may = false≢true may
words_form RestSafe a p pairs w (node.Guard guard) may = false≢true may
words_form Safe a p pairs w (node.Order before later) may = false≢true may
words_form RestSafe a p pairs w (node.Order before later) may = false≢true may
words_form Safe a p pairs w (node.Stuck rule) may = false≢true may
words_form RestSafe a p pairs w (node.Stuck rule) may = false≢true may

none_open : {A : Type 0} (open_ : Bool) (answers : A) → is_some (cond (open_ && false) (Some answers) None) ≡ true → ⊥
none_open true answers may = false≢true may
none_open false answers may = false≢true may

moments_form : (claim : Claim) (silent : List ℕ) (a : Automaton) (p : Pattern) (w : Pending (fact_of Moments)) (n : Node)
    → MayStand (moments_of a p (asking_for claim silent)) (IsJudged (moments_of a p (asking_for claim silent))) w n → HasForm Moments claim n
moments_form claim silent a p w (node.Leaf ts) may = tt
moments_form claim silent a p w (node.Split unknown floor) may = tt
moments_form claim silent a p w node.Extend may = false≢true may
moments_form claim silent a p w (node.Guard guard) may = tt
moments_form claim silent a p w (node.Order before later) may = tt
moments_form Safe silent a p w (node.Stuck rule) may = none_open _ _ may
moments_form RestSafe silent a p w (node.Stuck rule) may = tt

of_form : (kind : Kind) (subject : Subject) (pairs : List (ℕ × ℕ)) (p : Pattern) (w : Pending (fact_of kind)) (n : Node)
    → MayStand (search_of kind subject pairs p) (IsJudged (search_of kind subject pairs p)) w n → HasForm kind subject.claim n
of_form Words subject pairs p w n may = words_form subject.claim subject.file.automaton p pairs w n may
of_form Moments subject pairs p w n may = moments_form subject.claim subject.silent subject.file.automaton p w n may

pub stands_form : (kind : Kind) (subject : Subject) (pairs : List (ℕ × ℕ)) (number : ℕ) (search : Search (fact_of kind))
    → search_at kind subject pairs number ≡ Some search → (w : Pending (fact_of kind)) (n : Node) → MayStand search (IsJudged search) w n
    → HasForm kind subject.claim n
stands_form kind subject pairs number search e w n may =
    let found = searched kind subject pairs number search e in
    of_form kind subject pairs found.pattern w n (subst (λ (q : Search (fact_of kind)). MayStand q (IsJudged q) w n) (sym found.is) may)
