-- Schemas of a file by the name of their pattern, a start set and their elements; and why a file does not have one.
use Rattle.std.specs.Prelude.{ℕ, ℤ, pos, ◌<◌, ◌≤◌, ◌^◌, ◌≡◌, ◌↔◌, false, true, List, [], length, map, reverse, slice_get, Some}
use Rattle.ta_linear.specs.declared.row.System.{System}
use Rattle.ta_automaton.specs.declared.file.File.{File}
use Rattle.ta_automaton.specs.declared.pattern.Pattern.{Pattern}
use Rattle.ta_words.specs.declared.element.Element.{Element}
use Rattle.ta_words.specs.Words.{LegalWord, is_complete}
use Rattle.ta_encode.specs.System.{SolvesWord}
use Rattle.ta_smt.specs.declared.fault.WordFault.{WordFault}
use Rattle.ta_smt.specs.declared.fault.WordFault.TheVariants as fault
use Rattle.ta_smt.specs.Admit.{AskedWord, SystemAsked}
use Rattle.ta_smt.specs.Denotes.{Denotes}
use Rattle.ta_smt.specs.Export.{system_text}
use Rattle.ta_smt.specs.Spelling.{FirstStranger}

-- a schema by names and numbers: its pattern's name, its start set, where bit j stands for fall guard j, and its elements
pub record Spelling : Type 0 where
  pub name : List ℕ
  pub start : ℕ
  pub elements : List Element

abbrev pub spelling : List ℕ → ℕ → List Element → Spelling
spelling name start elements = record { name = name; start = start; elements = elements }

-- the pattern of this number has the name
pub record IsNamed (patterns : List Pattern) (name : List ℕ) (number : ℕ) (pattern : Pattern) : Type 0 where
  pub at : slice_get patterns number ≡ Some pattern
  pub named : pattern.name ≡ name

-- the start set names only guards of the file
abbrev pub IsStartSet : File → ℕ → Type 0
IsStartSet file start = start < 2 ^ length file.automaton.fall

-- the file has the schema: a pattern with the name, fall guards for the start set, and each element is a child of those before it
pub record IsWordOf (file : File) (spelled : Spelling) (word : AskedWord) : Type 0 where
  pub pattern : Pattern
  pub named : IsNamed file.patterns spelled.name word.pattern pattern
  pub start : word.start ≡ spelled.start
  pub begins : IsStartSet file spelled.start
  pub elements : word.elements ≡ spelled.elements
  pub legal : LegalWord file.automaton pattern spelled.start (reverse spelled.elements)

-- the schema is one of a pattern of the file, and legal
pub record IsLegalWord (file : File) (word : AskedWord) : Type 0 where
  pub pattern : Pattern
  pub named : slice_get file.patterns word.pattern ≡ Some pattern
  pub legal : LegalWord file.automaton pattern word.start (reverse word.elements)

-- the file has the schema, which has each event of the pattern
pub record IsWholeWordOf (file : File) (spelled : Spelling) (word : AskedWord) : Type 0 where
  pub is : IsWordOf file spelled word
  pub complete : is_complete is.pattern (reverse spelled.elements) ≡ true

-- the file has the pattern of the name, but not the start set
pub record HasNoStartSet (file : File) (spelled : Spelling) : Type 0 where
  pub number : ℕ
  pub pattern : Pattern
  pub named : IsNamed file.patterns spelled.name number pattern
  pub beyond : 2 ^ length file.automaton.fall ≤ spelled.start

-- the file has both, and element k is not a child of those before it, which make a legal schema
pub record NoChild (file : File) (spelled : Spelling) (k : ℕ) : Type 0 where
  pub number : ℕ
  pub pattern : Pattern
  pub named : IsNamed file.patterns spelled.name number pattern
  pub begins : IsStartSet file spelled.start
  pub stranger : FirstStranger file.automaton pattern spelled.start spelled.elements k

-- the file has the schema, but it lacks an event of the pattern
pub record NoWhole (file : File) (spelled : Spelling) : Type 0 where
  pub word : AskedWord
  pub is : IsWordOf file spelled word
  pub incomplete : is_complete is.pattern (reverse spelled.elements) ≡ false

-- why the file does not have the schema, in this order
abbrev pub WordFaultOf : File → Spelling → WordFault → Type 0
WordFaultOf file spelled fault.Pattern = (number : ℕ) (pattern : Pattern) → ¬ IsNamed file.patterns spelled.name number pattern
WordFaultOf file spelled fault.Start = HasNoStartSet file spelled
WordFaultOf file spelled (fault.Element k) = NoChild file spelled k
WordFaultOf file spelled fault.Incomplete = ⊥

-- why the file does not have the schema, or it is not complete, in this order
abbrev pub WholeFaultOf : File → Spelling → WordFault → Type 0
WholeFaultOf file spelled fault.Incomplete = NoWhole file spelled
WholeFaultOf file spelled found = WordFaultOf file spelled found

-- integers that are natural and solve the system of a schema, without bounds
pub record SolvesAsked (file : File) (word : AskedWord) (values : List ℤ) : Type 0 where
  pub pattern : Pattern
  pub named : slice_get file.patterns word.pattern ≡ Some pattern
  pub naturals : List ℕ
  pub are : values ≡ map pos naturals
  pub solves : SolvesWord file.automaton pattern word.start (reverse word.elements) [] naturals

-- the text is that of the schema's system, and denotes exactly its natural solutions, among all lists of integers
pub record IsWordText (file : File) (word : AskedWord) (text : List ℕ) : Type 0 where
  pub system : System
  pub is : SystemAsked file word system
  pub written : text ≡ system_text system
  pub denotes : (values : List ℤ) → Denotes text values ↔ SolvesAsked file word values

-- a file has at most one schema that is spelled so, and if it has one there is no error
abbrev pub WordsAreExact : Type 0
WordsAreExact =
    (file : File) (spelled : Spelling) (word : AskedWord) → IsWordOf file spelled word
    → ((found : WordFault) → ¬ WordFaultOf file spelled found)
    × ((other : AskedWord) → IsWordOf file spelled other → other ≡ word)

-- the same for complete schemas
abbrev pub WholeWordsAreExact : Type 0
WholeWordsAreExact = (file : File) (spelled : Spelling) (word : AskedWord) → IsWholeWordOf file spelled word → (found : WordFault)
    → ¬ WholeFaultOf file spelled found
