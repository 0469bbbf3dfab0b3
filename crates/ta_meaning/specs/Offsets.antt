-- Where in the text the errors of a file's meaning are, for every row of limits.
use Rattle.ta_base.specs.declared.limits.Limits.{Limits}
use Rattle.std.specs.Prelude.{ℕ, ◌≡◌, ◌<◌, ◌⊎◌, List, [], ◌∷◌, length, map}
use Rattle.std.specs.List.{AllByRecursion}
use Rattle.ta_syntax.specs.TreeOf.{IsTreeOf}
use Rattle.ta_syntax.specs.declared.placed.Token.{Token}
use Rattle.ta_syntax.specs.declared.tree.Tree.{Tree}
use Rattle.ta_syntax.specs.declared.fault.FileFault.{FileFault}
use Rattle.ta_syntax.specs.declared.fault.FileFault.TheVariants as fault
use Rattle.ta_base.specs.Lists.{Rises}
use Rattle.ta_meaning.specs.Faults.{meaning_faults}

-- the offset that an error carries; for a rule's error the rule's number, and 0 for out of memory, which carries none
abbrev pub fault_offset : FileFault → ℕ
fault_offset (fault.Byte at) = at
fault_offset (fault.Syntax at) = at
fault_offset (fault.Duplicate at) = at
fault_offset (fault.Unknown at) = at
fault_offset (fault.WrongKind at) = at
fault_offset (fault.TooLarge at) = at
fault_offset (fault.TooMany at) = at
fault_offset (fault.TooDeep at) = at
fault_offset (fault.NotThreshold at) = at
fault_offset (fault.CycleUpdates rule) = rule
fault_offset (fault.NoInitial at) = at
fault_offset fault.Memory = 0

-- the offsets of the errors of a text's tree increase strictly, and each is that of a byte of the text
abbrev pub FaultsRise : Type 0
FaultsRise = (l : Limits) (bytes : List ℕ) (t : Tree) → IsTreeOf l bytes t → Rises 0 (length bytes) (map fault_offset (meaning_faults l t))

-- some token has this offset
abbrev pub IsTokenAt : ℕ → List Token → Type 0
IsTokenAt at [] = ⊥
IsTokenAt at (t ∷ ts) = (t.at ≡ at) ⊎ IsTokenAt at ts

-- each error of a text's tree is at a token
abbrev pub FaultsStandAtTokens : Type 0
FaultsStandAtTokens = (l : Limits) (bytes : List ℕ) (t : Tree) (is : IsTreeOf l bytes t)
    → AllByRecursion (λ f. IsTokenAt (fault_offset f) is.tokens) (meaning_faults l t)

-- an error that meaning may have: F3 to F7, F9 or F12; all of these carry an offset
abbrev pub IsOfMeaning : FileFault → Type 0
IsOfMeaning (fault.Duplicate at) = Unit {0}
IsOfMeaning (fault.Unknown at) = Unit {0}
IsOfMeaning (fault.WrongKind at) = Unit {0}
IsOfMeaning (fault.TooLarge at) = Unit {0}
IsOfMeaning (fault.TooMany at) = Unit {0}
IsOfMeaning (fault.NotThreshold at) = Unit {0}
IsOfMeaning (fault.NoInitial at) = Unit {0}
IsOfMeaning (fault.Byte at) = ⊥
IsOfMeaning (fault.Syntax at) = ⊥
IsOfMeaning (fault.TooDeep at) = ⊥
IsOfMeaning (fault.CycleUpdates rule) = ⊥
IsOfMeaning fault.Memory = ⊥

-- each error of a tree is one that meaning may have
abbrev pub FaultsAreOfMeaning : Type 0
FaultsAreOfMeaning = (l : Limits) (t : Tree) → AllByRecursion IsOfMeaning (meaning_faults l t)

-- each error after the first has a larger offset
abbrev pub FirstIsLeast : Type 0
FirstIsLeast =
    (l : Limits) (bytes : List ℕ) (t : Tree) (first : FileFault) (later : List FileFault)
    → IsTreeOf l bytes t → meaning_faults l t ≡ first ∷ later → AllByRecursion (λ f. fault_offset first < fault_offset f) later
