-- Commands that read one file after another.
use Rattle.std.specs.Prelude.{ℕ, ◌≡◌, ◌≤◌, ◌⊎◌, List, [], ◌++◌, length, Option, Result, Ok, Err}
use Rattle.ta_shelf.specs.Calls.{Call, Spells}
use Rattle.ta_shelf.specs.Put.{Told}
use Rattle.ta_shelf.specs.declared.answer.Answer.{Answer}
use Rattle.ta_shelf.specs.declared.answer.Refusal.{Refusal}
use Rattle.ta_shelf.specs.declared.answer.Refusal.TheVariants.{Refused, ReadFailed, PutFailed, Memory}
use Rattle.ta_shelf.specs.declared.file_reading.Limit.{Limit}
use Rattle.ta_shelf.specs.Commands.{Meaning}
use Rattle.ta_shelf.specs.Lines.{file_line, phrase_text}
use Rattle.ta_shelf.specs.Reading.{IsReading, IsUnreadable}
use Rattle.ta_shelf.specs.Sights.{Begins, HasBytes, View, seen}

-- a kind of file: its bytes mean a value, or have an error, which is put in words; and for which errors reading ends, whatever bytes come
-- after
pub record Kind (A F : Type 0) : Type 1 where
  pub limit : Limit
  pub means : List ℕ → A → Type 0
  pub at_fault : List ℕ → F → Type 0
  pub broken : List ℕ → F → Type 0
  pub words : F → List ℕ

-- the bytes under this name mean a value
pub record FileMeans {A F : Type 0} (kind : Kind A F) (view : View) (name : List ℕ) (value : A) : Type 0 where
  pub bytes : List ℕ
  pub had : HasBytes view name kind.limit.bytes bytes
  pub means : kind.means bytes value

-- the bytes under this name have an error
pub record FileIsAtFault {A F : Type 0} (kind : Kind A F) (view : View) (name words : List ℕ) : Type 0 where
  pub bytes : List ℕ
  pub had : HasBytes view name kind.limit.bytes bytes
  pub fault : F
  pub found : kind.at_fault bytes fault
  pub words_are : words ≡ kind.words fault

-- the first bytes under this name, no more than its kind allows, have an error, and no longer text means a value
pub record IsBroken {A F : Type 0} (kind : Kind A F) (view : View) (name words : List ℕ) : Type 0 where
  pub bytes : List ℕ
  pub seen : view name (Begins bytes)
  pub within : length bytes ≤ kind.limit.bytes
  pub fault : F
  pub found : kind.broken bytes fault
  pub hopeless : (more : List ℕ) (value : A) → ¬ kind.means (bytes ++ more) value
  pub words_are : words ≡ kind.words fault

-- reading goes on after such bytes
abbrev pub ReadingGoesOn : {A F : Type 0} → Kind A F → List ℕ → Type 0
ReadingGoesOn {A} {F} kind bytes = (fault : F) → ¬ kind.broken bytes fault

-- the file with this name is refused: the status is that of its kind, and the line says why. An error before the limit is reported before
-- "too long"
pub record Hinders {A F : Type 0} (kind : Kind A F) (view : View) (name : List ℕ) (number : ℕ) (line : List ℕ) : Type 0 where
  pub numbered : number ≡ kind.limit.number
  pub words : List ℕ
  pub said : line ≡ file_line name words
  pub wrong : IsUnreadable view name kind.limit.bytes (ReadingGoesOn kind) words ⊎ (FileIsAtFault kind view name words ⊎ IsBroken kind view name words)

-- the calls read a file whole, its bytes mean a value, and then other calls follow
pub record Then {A F : Type 0} (kind : Kind A F) (name : List ℕ) (rest : A → List Call → Type 0) (calls : List Call) : Type 0 where
  pub first : List Call
  pub second : List Call
  pub all : calls ≡ first ++ second
  pub bytes : List ℕ
  pub spells : Spells name first bytes
  pub value : A
  pub means : kind.means bytes value
  pub then : rest value second

-- a file is read, and then comes what its value asks for; the files with these names may be put
abbrev pub after : {A F : Type 0} → Kind A F → List ℕ → List (List ℕ) → (A → Meaning) → Meaning
after {A} {F} kind name puts rest = record {
  answers = λ view answer. (value : A) × FileMeans kind view name value × (rest value).answers view answer;
  refuses = λ view number line. Hinders kind view name number line ⊎ ((value : A) × FileMeans kind view name value × (rest value).refuses view number line);
  reads = λ view other. (other ≡ name) ⊎ ((value : A) × FileMeans kind view name value × (rest value).reads view other);
  opens = λ calls. IsReading name calls ⊎ Then kind name (λ value. (rest value).opens) calls;
  puts = puts;
}

-- nothing is read: a value has a property, and then comes what it asks for; or there is a refusal, with this status and this line; the
-- files with these names may be put
abbrev pub finds : {A : Type 0} → (A → Type 0) → (ℕ → List ℕ → Type 0) → List (List ℕ) → (A → Meaning) → Meaning
finds {A} Is Wrong puts rest = record {
  answers = λ view answer. (value : A) × Is value × (rest value).answers view answer;
  refuses = λ view number line. Wrong number line ⊎ ((value : A) × Is value × (rest value).refuses view number line);
  reads = λ view other. (value : A) × Is value × (rest value).reads view other;
  opens = λ calls. (calls ≡ []) ⊎ ((value : A) × Is value × (rest value).opens calls);
  puts = puts;
}

-- nothing more is read, and the answer has this property
abbrev pub replies : List (List ℕ) → (Answer → Type 0) → Meaning
replies puts Such = record {
  answers = λ view answer. Such answer;
  refuses = λ view number line. ⊥;
  reads = λ view other. ⊥;
  opens = λ calls. calls ≡ [];
  puts = puts;
}

-- the same, or a refusal with this status and this line
abbrev pub settles : List (List ℕ) → (Answer → Type 0) → (ℕ → List ℕ → Type 0) → Meaning
settles puts Such Wrong = record {
  answers = λ view answer. Such answer;
  refuses = λ view number line. Wrong number line;
  reads = λ view other. ⊥;
  opens = λ calls. calls ≡ [];
  puts = puts;
}

-- this text with this status, and no file is put
pub record Writes (number : ℕ) (text : List ℕ) (answer : Answer) : Type 0 where
  pub numbered : answer.number ≡ number
  pub written : answer.text ≡ text
  pub no_put : answer.puts ≡ []

-- what the bytes of a name give: a value, or a refusal that says at which fault they are
abbrev pub MeantBy : {A F T : Type 0} → Kind A F → (T → A) → List ℕ → List ℕ → Result T Refusal → Type 0
MeantBy {A} {F} {T} kind value name bytes (Ok given) = kind.means bytes (value given)
MeantBy {A} {F} {T} kind value name bytes (Err (Refused number who why)) =
    (number ≡ kind.limit.number) × (who.now ≡ name) × (fault : F) × kind.at_fault bytes fault × (phrase_text why ≡ kind.words fault)
MeantBy {A} {F} {T} kind value name bytes (Err (ReadFailed who)) = ⊥
MeantBy {A} {F} {T} kind value name bytes (Err (PutFailed who)) = ⊥
MeantBy {A} {F} {T} kind value name bytes (Err Memory) = Unit {0}

-- what reading a file of a kind gives of what is seen in its calls and in the files
abbrev pub Yields : {A F T : Type 0} → Kind A F → (T → A) → Option Told → List ℕ → Result T Refusal → List Call → Type 0
Yields {A} {F} {T} kind value files name (Ok given) calls = (bytes : List ℕ) × Spells name calls bytes × HasBytes (seen files calls) name kind.limit.bytes bytes
    × kind.means bytes (value given)
Yields {A} {F} {T} kind value files name (Err (Refused number who why)) calls = Hinders kind (seen files calls) name number
    (file_line who.now (phrase_text why))
Yields {A} {F} {T} kind value files name (Err (ReadFailed who)) calls = who.now ≡ name
Yields {A} {F} {T} kind value files name (Err (PutFailed who)) calls = ⊥
Yields {A} {F} {T} kind value files name (Err Memory) calls = Unit {0}

pub record Stage {A F T : Type 0} (kind : Kind A F) (value : T → A) (files : Option Told) (name : List ℕ) (result : Result T Refusal) (calls : List Call) : Type
    0 where
  pub reading : IsReading name calls
  pub yields : Yields kind value files name result calls
