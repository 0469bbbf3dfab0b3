-- A refused command prints one line, which names one error.
use Rattle.std.specs.Prelude.{ℕ, ◌≡◌, ◌≤◌, ◌⊎◌, List, Some}
use Rattle.ta_shelf.specs.Put.{Told}
use Rattle.ta_shelf.specs.Commands.{Meaning}
use Rattle.ta_shelf.specs.Ends.{SinkState, State, Tells}
use Rattle.ta_shelf.specs.Sights.{in_files}
use Rattle.ta_shelf.specs.Stages.{Kind}
use Rattle.ta_program.specs.Asked.{Asked, Runs}
use Rattle.ta_program.specs.Asked.Asked.{Command, NoCommand}
use Rattle.ta_program.specs.Requests.{request_of}

-- bytes have at most one error of a kind
abbrev pub OneFault : {A F : Type 0} → Kind A F → Type 0
OneFault {A} {F} kind = (bytes : List ℕ) (e f : F) → kind.at_fault bytes e → kind.at_fault bytes f → e ≡ f

-- if known files refuse two commands, they refuse them with the same status and the same line
abbrev pub HinderAlike : Meaning → Meaning → Told → Type 0
HinderAlike m n told = (number other : ℕ) (line words : List ℕ) → m.refuses (in_files told) number line → n.refuses (in_files told) other words
    → (number ≡ other) × (line ≡ words)

-- known files refuse a command with at most one status, which is 3 or 4, and at most one line
pub record HinderOnce (m : Meaning) (told : Told) : Type 0 where
  pub ranged : (number : ℕ) (line : List ℕ) → m.refuses (in_files told) number line → (3 ≤ number) × (number ≤ 4)
  pub one : HinderAlike m m told

-- with status 3 and 4 the line says why known files refuse the command; and if they refuse it, the status is the one that belongs to the
-- reason, and this line is printed, or as much of it as standard error takes, statuses 6 and 7 aside
pub record NamesFault (m : Meaning) (told : Told) (number : ℕ) (before after : SinkState) : Type 0 where
  pub hindered : 3 ≤ number → number ≤ 4 → (line : List ℕ) × m.refuses (in_files told) number line × Tells line before after
  pub just : (expected : ℕ) (line : List ℕ) → m.refuses (in_files told) expected line → ((number ≡ expected) × Tells line before after)
      ⊎ ((number ≡ 6) ⊎ (number ≡ 7))

-- a property of a command; nothing is said if the words ask for none
abbrev pub OfCommand : (Meaning → Type 0) → Asked → Type 0
OfCommand Fact NoCommand = Unit {0}
OfCommand Fact (Command legal m) = Fact m

-- known files refuse what the words ask for with at most one line, and a run prints that line, statuses 6 and 7 aside; so it names the
-- first error of the first file that is refused
pub record FaultsAreNamed : Type 0 where
  pub one : (words : List (List ℕ)) (told : Told) → OfCommand (λ m. HinderOnce m told) (request_of words)
  pub named : (words : List (List ℕ)) (number : ℕ) (before after : State) → Runs (request_of words) number before after → (told : Told)
      → before.shelf.files ≡ Some told → OfCommand (λ m. NamesFault m told number before.err after.err) (request_of words)
