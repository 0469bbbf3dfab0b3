-- What a command line asks for, and when a run of the program does it.
use Rattle.std.specs.Prelude.{◌++◌, ℕ, ◌≡◌, Bool, true, false, List, codes, Option, None, Some}
use Rattle.std.specs.Str.{bytes_eq}
use Rattle.ta_base.specs.declared.limits.Limits.{Limits}
use Rattle.ta_automaton.specs.declared.file.File.{File}
use Rattle.ta_shelf.specs.Put.{Told}
use Rattle.ta_shelf.specs.Commands.{Decides, Meaning}
use Rattle.ta_shelf.specs.Ends.{Performs, State, Tells}
use Rattle.ta_shelf.specs.Sights.{in_files}
use Rattle.ta_program.specs.Kinds.{IsFile}

-- what a command line asks for: no command, or a command with what it says and in which known files its FILE, if it reads one, is legal
pub data Asked : Type 1 where
  NoCommand : Asked
  Command : (Told → Type 0) → Meaning → Asked

-- a command whose words were read, if they are its words
abbrev pub ask_where : {W : Type 0} → (W → Told → Type 0) → (W → Meaning) → Option W → Asked
ask_where legal says None = NoCommand
ask_where legal says (Some words) = Command (legal words) (says words)

-- FILE, if one is read, means an automaton within the limits that belong to its name
abbrev pub LegalFile : Told → Option (List ℕ × Limits) → Type 0
LegalFile told None = Unit {0}
LegalFile told (Some named) = (file : File) × IsFile named.1 (in_files told) named.0 file

-- the request of a command that reads an automaton file, or none
abbrev pub ask : {W : Type 0} → (W → Option (List ℕ × Limits)) → (W → Meaning) → Option W → Asked
ask file says words = ask_where (λ asked told. LegalFile told (file asked)) says words

-- the first if a test passes, otherwise the second
abbrev pub choose : Bool → Asked → Asked → Asked
choose true asked others = asked
choose false asked others = others

-- a row of the table of commands: if a word is its name, what it asks for; otherwise what the other rows say
abbrev pub row : List ℕ → List ℕ → Asked → Asked → Asked
row name word asked others = choose (bytes_eq word name) asked others

abbrev pub IsNoCommand : Asked → Type 0
IsNoCommand NoCommand = Unit {0}
IsNoCommand (Command legal m) = ⊥

-- files that are legal for the command are never refused with status 3
abbrev pub PassesWhere : (Told → Type 0) → Meaning → Type 0
PassesWhere legal m = (told : Told) (line : List ℕ) → legal told → ¬ m.refuses (in_files told) 3 line

-- the same for a command that reads an automaton file, or none
abbrev pub Passes : Option (List ℕ × Limits) → Meaning → Type 0
Passes file m = PassesWhere (λ told. LegalFile told file) m

abbrev pub usage_line : List ℕ
usage_line =
    codes "tav: usage: verify FILE [--nodes N] [--certificate OUT] [--json], check FILE CERT, replay FILE RUN, compress FILE RUN, count FILE, "
    ++ codes "bench K, rest FILE [--nodes N] [--certificate OUT], rest-check FILE CERT, search FILE [--nodes N] [--certificate OUT] [--filled OUT2], "
    ++ codes "show FILE, export FILE PATTERN START WORD, admit FILE PATTERN START WORD VALUES, version, --lazy with verify, rest or search, "
    ++ codes "--silent NAMES with rest or rest-check, --json with rest, search, check, rest-check or replay, --pattern NAME with verify or rest, "
    ++ codes "--all with verify, rest, check or rest-check, --parameters with check, "
    ++ codes "--wide with verify, rest, search, check, rest-check, replay, compress, count or show\n"

-- the words are no command's: nothing is read or written, and the line says so
pub record OfNoCommand (number : ℕ) (before after : State) : Type 0 where
  pub five : number ≡ 5
  pub shelf : after.shelf ≡ before.shelf
  pub out : after.out ≡ before.out
  pub told : Tells usage_line before.err after.err

-- the command is done; known files determine its status, and a legal FILE passes
pub record IsObeyed (legal : Told → Type 0) (m : Meaning) (number : ℕ) (before after : State) : Type 0 where
  pub performs : Performs m number before after
  pub decides : Decides m
  pub passes : PassesWhere legal m

-- what is asked for is done
abbrev pub Runs : Asked → ℕ → State → State → Type 0
Runs NoCommand number before after = OfNoCommand number before after
Runs (Command legal m) number before after = IsObeyed legal m number before after

-- the command that was read is the one that the words ask for, so doing it is doing what is asked for; if none was read, the words are no
-- command's
abbrev pub IsAskedFor : {C : Type 0} → (C → Meaning) → Asked → Option C → Type 0
IsAskedFor says asked None = (number : ℕ) (before after : State) → OfNoCommand number before after → Runs asked number before after
IsAskedFor says asked (Some command) = (number : ℕ) (before after : State) → Performs (says command) number before after → Runs asked number before after
