-- Words of a file by the name of their pattern, and the text of their systems.
use Rattle.ta_smt.proofs.Common.{◌≡◌, ◌≢◌, ◌+◌, ◌<◌, ◌≤◌, ◌^◌, ℕ, ℤ, Bool, true, false, List, [], length, reverse, slice_get, Some, arith, below_more, refl}
use Rattle.ta_smt.proofs.Common.{sym, ap, subst, ◌∙◌, false≢true, same_Some, System, File, Pattern, distinct_map_at, Element, OfPattern, LegalWord, is_complete}
use Rattle.ta_smt.proofs.Common.{pattern_search, SolvesWord, solution_back, solution_of, unbounded, AskedWord, SystemAsked, asked, DenotesSolutions}
use Rattle.ta_smt.proofs.Common.{IsNaturalSolution, system_text, IsLegalWord, IsNamed, IsWholeWordOf, IsWordOf, IsWordText, NoWhole, SolvesAsked, Spelling}
use Rattle.ta_smt.proofs.Common.{WholeWordsAreExact, WordFaultOf, WordsAreExact, FirstStranger, slice_get_within}
use Rattle.ta_automaton.specs.Patterns.{pattern_name}
use Rattle.ta_smt.specs.declared.fault.WordFault.{WordFault}
use Rattle.ta_smt.specs.declared.fault.WordFault.TheVariants as fault
use Rattle.ta_smt.proofs.Admitted.{pending}
use Rattle.ta_smt.proofs.Spelled.{no_stranger}

one_number : (file : File) (name : List ℕ) (i j : ℕ) (p q : Pattern) → IsNamed file.patterns name i p → IsNamed file.patterns name j q → i ≡ j
one_number file name i j p q is are = distinct_map_at pattern_name file.patterns i j p q file.shape.distinct is.at are.at (is.named ∙ sym are.named)

pub one_named : (file : File) (name : List ℕ) (i j : ℕ) (p q : Pattern) → IsNamed file.patterns name i p → IsNamed file.patterns name j q → p ≡ q
one_named file name i j p q is are = same_Some p q (sym is.at ∙ ap (slice_get file.patterns) (one_number file name i j p q is are) ∙ are.at)

same_asked : (p q s t : ℕ) (xs ys : List Element) → p ≡ q → s ≡ t → xs ≡ ys → asked p s xs ≡ asked q t ys
same_asked p q s t xs ys e f g = rw (e, f, g) refl

word_once : (file : File) (spelled : Spelling) (word other : AskedWord) → IsWordOf file spelled word → IsWordOf file spelled other → other ≡ word
word_once file spelled word other is are =
    same_asked other.pattern word.pattern other.start word.start other.elements word.elements
    (one_number file spelled.name other.pattern word.pattern are.pattern is.pattern are.named is.named)
    (are.start ∙ sym is.start)
    (are.elements ∙ sym is.elements)

pub no_word_fault : (file : File) (spelled : Spelling) (word : AskedWord) (found : WordFault) → IsWordOf file spelled word → WordFaultOf file spelled found → ⊥
no_word_fault file spelled word fault.Pattern is bad = bad word.pattern is.pattern is.named
no_word_fault file spelled word fault.Start is bad = let within = is.begins in let beyond = bad.beyond in omega arith
no_word_fault file spelled word (fault.Element k) is bad =
    let same = one_named file spelled.name bad.number word.pattern bad.pattern is.pattern bad.named is.named in
    no_stranger file.automaton is.pattern spelled.start spelled.elements k is.legal
    (subst (λ (p : Pattern). FirstStranger file.automaton p spelled.start spelled.elements k) same bad.stranger)
no_word_fault file spelled word fault.Incomplete is bad = bad

pub words_exact : WordsAreExact
words_exact file spelled word is = ((λ found bad. no_word_fault file spelled word found is bad), (λ other are. word_once file spelled word other is are))

pub whole_exact : WholeWordsAreExact
whole_exact file spelled word whole fault.Pattern bad = no_word_fault file spelled word fault.Pattern whole.is bad
whole_exact file spelled word whole fault.Start bad = no_word_fault file spelled word fault.Start whole.is bad
whole_exact file spelled word whole (fault.Element k) bad = no_word_fault file spelled word (fault.Element k) whole.is bad
whole_exact file spelled word whole fault.Incomplete bad =
    let same = one_named file spelled.name word.pattern bad.word.pattern whole.is.pattern bad.is.pattern whole.is.named bad.is.named in
    false≢true (sym bad.incomplete ∙ subst (λ (p : Pattern). is_complete p (reverse spelled.elements) ≡ true) same whole.complete)

-- what was found in the order of the errors
pub no_start : (file : File) (name : List ℕ) (start : ℕ) (elements : List Element) (number : ℕ) → (pattern : Pattern)
    × IsNamed file.patterns name number pattern → 2 ^ length file.automaton.fall ≤ start
    → WordFaultOf file (record { name = name; start = start; elements = elements }) fault.Start
no_start file name start elements number named beyond = record { number = number; pattern = named.0; named = named.1; beyond = beyond }

pub no_child : (file : File) (name : List ℕ) (start : ℕ) (elements : List Element) (number k : ℕ) → (pattern : Pattern)
    × IsNamed file.patterns name number pattern → start < 2 ^ length file.automaton.fall
    → ((p : Pattern) → slice_get file.patterns number ≡ Some p → FirstStranger file.automaton p start elements k)
    → WordFaultOf file (record { name = name; start = start; elements = elements }) (fault.Element k)
no_child file name start elements number k named begins stranger = record
    { number = number; pattern = named.0; named = named.1; begins = begins; stranger = stranger named.0 named.1.at }

pub word_found : (file : File) (name : List ℕ) (start : ℕ) (elements word : List Element) (number : ℕ) → (pattern : Pattern)
    × IsNamed file.patterns name number pattern → start < 2 ^ length file.automaton.fall → word ≡ elements
    → ((p : Pattern) → slice_get file.patterns number ≡ Some p → LegalWord file.automaton p start (reverse word))
    → IsWordOf file (record { name = name; start = start; elements = elements }) (asked number start word)
word_found file name start elements word number named begins same legal = record {
  pattern = named.0;
  named = named.1;
  start = refl;
  begins = begins;
  elements = same;
  legal = subst (λ es. LegalWord file.automaton named.0 start (reverse es)) same (legal named.0 named.1.at);
}

-- the natural solutions of a system of a word are those of the word
solves_asked : (file : File) (word : AskedWord) (system : System) (values : List ℤ) → SystemAsked file word system → IsNaturalSolution system values
    → SolvesAsked file word values
solves_asked file word system values is solution = record {
  pattern = is.pattern;
  named = is.named;
  naturals = solution.naturals;
  are = solution.are;
  solves = unbounded file.automaton is.pattern [] (pending word) solution.naturals
      (solution_of (pattern_search file.automaton is.pattern []) (pending word) system solution.naturals is.is solution.solve);
}

solves_system : (file : File) (word : AskedWord) (system : System) (values : List ℤ) → SystemAsked file word system → SolvesAsked file word values
    → IsNaturalSolution system values
solves_system file word system values is solution =
    let same = same_Some solution.pattern is.pattern (sym solution.named ∙ is.named) in
    let solves = subst (λ (p : Pattern). SolvesWord file.automaton p word.start (reverse word.elements) [] solution.naturals) same solution.solves in
    record {
      naturals = solution.naturals;
      are = solution.are;
      solve = solution_back (pattern_search file.automaton is.pattern []) (pending word) system solution.naturals is.is
          (record { count = solves.count; rows_hold = solves.rows_hold });
    }

pub word_text_is : (file : File) (word : AskedWord) (system : System) (text : List ℕ) → SystemAsked file word system → text ≡ system_text system
    → DenotesSolutions system text → IsWordText file word text
word_text_is file word system text is written denotes = record {
  system = system;
  is = is;
  written = written;
  denotes = λ values. (
    (λ said. solves_asked file word system values is ((denotes values).0 said)),
    (λ solves. (denotes values).1 (solves_system file word system values is solves)),
  );
}

-- a word that a file has is legal
pub legal_word : (file : File) (spelled : Spelling) (word : AskedWord) → IsWordOf file spelled word → IsLegalWord file word
legal_word file spelled word is = record {
  pattern = is.pattern;
  named = is.named.at;
  legal = rw (is.start, is.elements) is.legal;
}

pub legal_exists : (file : File) (word : AskedWord) → IsLegalWord file word → word.pattern < length file.patterns
legal_exists file word is = slice_get_within file.patterns word.pattern is.pattern is.named

pub legal_of : (file : File) (word : AskedWord) → IsLegalWord file word
    → OfPattern file word.pattern (λ p. LegalWord file.automaton p word.start (reverse word.elements))
legal_of file word is p at = subst (λ (q : Pattern). LegalWord file.automaton q word.start (reverse word.elements)) (same_Some is.pattern p (sym is.named ∙ at))
    is.legal

-- no pattern so far has the name
abbrev pub NoneSoFar : List Pattern → List ℕ → ℕ → Type 0
NoneSoFar ps name i = (k : ℕ) → k < i → (p : Pattern) → slice_get ps k ≡ Some p → p.name ≢ name

pub none_more : (ps : List Pattern) (name : List ℕ) (i : ℕ) (item : Pattern) → slice_get ps i ≡ Some item → item.name ≢ name → NoneSoFar ps name i
    → NoneSoFar ps name (i + 1)
none_more ps name i item at other before = below_more _ _ before (λ p is e. other (ap pattern_name (same_Some item p (sym at ∙ is)) ∙ e))

pub none_at_all : (ps : List Pattern) (name : List ℕ) (i : ℕ) → length ps ≤ i → NoneSoFar ps name i → (number : ℕ) (pattern : Pattern)
    → ¬ IsNamed ps name number pattern
none_at_all ps name i all before number pattern is = let within = slice_get_within ps number pattern is.at in before number (omega arith) pattern is.at is.named

-- a word that is complete, and one that isn't
pub whole_found : (file : File) (spelled : Spelling) (word : AskedWord) (r : Bool) → IsWordOf file spelled word
    → OfPattern file word.pattern (λ p. r ≡ is_complete p (reverse word.elements)) → r ≡ true → IsWholeWordOf file spelled word
whole_found file spelled word r is told e = record
    { is = is; complete = ap (λ es. is_complete is.pattern (reverse es)) (sym is.elements) ∙ sym (told is.pattern is.named.at) ∙ e }

pub no_whole : (file : File) (spelled : Spelling) (word : AskedWord) (r : Bool) → IsWordOf file spelled word
    → OfPattern file word.pattern (λ p. r ≡ is_complete p (reverse word.elements)) → r ≡ false → NoWhole file spelled
no_whole file spelled word r is told e = record
    { word = word; is = is; incomplete = ap (λ es. is_complete is.pattern (reverse es)) (sym is.elements) ∙ sym (told is.pattern is.named.at) ∙ e }
