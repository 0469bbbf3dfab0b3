-- What the log records of files that are written.
use Rattle.std.specs.Prelude.{ℕ, ◌≡◌, List, [], ◌∷◌, ◌++◌, Contains, Err}
use Rattle.std.specs.List.{AllByRecursion, concat}
use Rattle.ta_shelf.specs.Calls.{Call, Event, Put, puts, reads}
use Rattle.ta_shelf.specs.Stage.{Stages, added, begun, published}
use Rattle.ta_shelf.specs.declared.entry.Step.{Step}
use Rattle.ta_shelf.specs.declared.entry.Step.TheVariants.{Create, Append, Begin, Add, Publish, Abandon}
use Rattle.ta_shelf.specs.declared.fault.PutFault.{PutFault}
use Rattle.ta_shelf.specs.Puts.{PutText}

-- a step that leaves every file unchanged
abbrev pub LeavesFiles : Step → Type 0
LeavesFiles Create = ⊥
LeavesFiles Append = ⊥
LeavesFiles Begin = Unit {0}
LeavesFiles Add = Unit {0}
LeavesFiles Publish = ⊥
LeavesFiles Abandon = Unit {0}

-- a step of a staged file
abbrev pub IsOfStage : Step → Type 0
IsOfStage Create = ⊥
IsOfStage Append = ⊥
IsOfStage Begin = Unit {0}
IsOfStage Add = Unit {0}
IsOfStage Publish = Unit {0}
IsOfStage Abandon = Unit {0}

-- calls on staged files with these names, all of which leave every file unchanged
abbrev pub AreStaging : List (List ℕ) → List Put → Type 0
AreStaging names calls = AllByRecursion (λ call. Contains names call.name × LeavesFiles call.step) calls

-- calls on staged files with these names
abbrev pub AreOfStages : List (List ℕ) → List Put → Type 0
AreOfStages names calls = AllByRecursion (λ call. Contains names call.name × IsOfStage call.step) calls

-- calls that stage each of these files and put it in its place whole; those after the first are put there before it
abbrev pub PutWhole : List PutText → List Put → Type 0
PutWhole [] calls = calls ≡ []
PutWhole (file ∷ files) calls =
    (staged inner : List Put) × (calls ≡ staged ++ (inner ++ published file.name ∷ [])) × Stages file.name file.text staged × PutWhole files inner

-- calls that stage a file for a name, in pieces that are these bytes, one after the other, and put it in its place
pub record TellsFile (name bytes : List ℕ) (calls : List Put) : Type 0 where
  pub pieces : List (List ℕ)
  pub text : bytes ≡ concat pieces
  pub all : calls ≡ begun name ∷ (added name pieces ++ published name ∷ [])

-- calls on staged files with these names up to a publishing that is refused; after it the other staged files are discarded
pub record StopsPublishing (names : List (List ℕ)) (calls : List Put) : Type 0 where
  pub front : List Put
  pub name : List ℕ
  pub why : PutFault
  pub behind : List Put
  pub all : calls ≡ front ++ record { name = name; step = Step.Publish; bytes = []; answer = Err why } ∷ behind
  pub named : Contains names name
  pub before : AreOfStages names front
  pub after : AreStaging names behind

-- a log grew by such calls that change files, and by no others
pub record Changed (Such : List Put → Type 0) (before after : List Event) : Type 0 where
  pub made : List Put
  pub grown : after ≡ before ++ puts made
  pub such : Such made

-- a log grew: files with these names were begun and discarded; then such calls read; and then such calls changed files
pub record Acts (names : List (List ℕ)) (Such : List Call → List Put → Type 0) (before after : List Event) : Type 0 where
  pub tried : List Put
  pub read : List Call
  pub made : List Put
  pub grown : after ≡ before ++ (puts tried ++ (reads read ++ puts made))
  pub tries : AreStaging names tried
  pub such : Such read made
