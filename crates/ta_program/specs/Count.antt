-- The command `count`: it prints how much of each limit of the format a file uses.
use Rattle.std.specs.Prelude.{ℕ, ◌≡◌, ◌≤◌, List, [], ◌∷◌, ◌++◌, codes, decimal, length, max, Option}
use Rattle.std.specs.List.{AllByRecursion}
use Rattle.ta_base.specs.declared.limits.Limits.{Limits}
use Rattle.ta_base.specs.declared.limits.TheConstants.{MOST_EVENTS}
use Rattle.ta_automaton.specs.declared.file.File.{File}
use Rattle.ta_automaton.specs.declared.pattern.Pattern.{Pattern}
use Rattle.ta_shelf.specs.Sink.{with_text}
use Rattle.ta_shelf.specs.Sights.{View}
use Rattle.ta_report.specs.Show.{each}
use Rattle.ta_program.specs.Values.{limits_of}
use Rattle.ta_program.specs.Kinds.{IsFile}
use Rattle.ta_program.specs.OneFile.{OneFileWords, one_file_words}
use Rattle.ta_program.specs.Words.{behind_name}

-- how many events the pattern has that has the most; 0 if there is no pattern
abbrev pub most_events : List Pattern → ℕ
most_events [] = 0
most_events (p ∷ ps) = max (length p.events) (most_events ps)

-- each limit of the lists of a file: what it limits, how many of these the file has, and the limit
abbrev pub counts_of : Limits → File → List (List ℕ × ℕ × ℕ)
counts_of l file =
    (codes "parameters", length file.automaton.parameters, l.parameters)
    ∷ (codes "shared", length file.automaton.shared, l.shared)
    ∷ (codes "locations", length file.automaton.locations, l.locations)
    ∷ (codes "rules", length file.automaton.rules, l.rules)
    ∷ (codes "rise guards", length file.automaton.rise, l.rises)
    ∷ (codes "fall guards", length file.automaton.fall, l.falls)
    ∷ (codes "patterns", length file.patterns, l.patterns)
    ∷ (codes "events", most_events file.patterns, MOST_EVENTS)
    ∷ []

-- the line of a limit
abbrev pub count_line : List ℕ × ℕ × ℕ → List ℕ
count_line c = c.0 ++ (codes " " ++ (decimal c.1 ++ (codes " of " ++ (decimal c.2 ++ codes "\n"))))

-- a line for each limit, from which a user reads how near the file is to it; the reader refuses a file beyond a limit with F7
abbrev pub count_text : Limits → File → List ℕ
count_text l file = each count_line (counts_of l file)

-- the text has the lines of the file, and nothing else
abbrev pub IsCount : Limits → File → List ℕ → Type 0
IsCount l file text = text ≡ count_text l file

-- `count FILE [--wide]`
abbrev pub count_of : List (List ℕ) → Option OneFileWords
count_of = behind_name (codes "count") one_file_words

-- FILE is legal, and the output gained the lines of the file that its bytes mean, and nothing else; no line says more than its limit
pub record CountHolds (view : View) (asked : OneFileWords) (written written' : Option (List ℕ)) : Type 0 where
  pub file : File
  pub is_file : IsFile (limits_of asked.wide) view asked.file file
  pub wrote : written' ≡ with_text written (count_text (limits_of asked.wide) file)
  pub within : AllByRecursion (λ c. c.1 ≤ c.2) (counts_of (limits_of asked.wide) file)
