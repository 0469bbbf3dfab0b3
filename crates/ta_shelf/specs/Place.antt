-- Where a name leads: the place into which a file published under it comes.
use Rattle.std.specs.Prelude.{ℕ, ◌≡◌, Bool, Decides, List, ◌∷◌, Result, Ok, Err, if◌then◌else◌}
use Rattle.std.specs.Result.{result_map_both}
use Rattle.ta_shelf.specs.Calls.{Call}
use Rattle.ta_shelf.specs.declared.fault.ShelfFault.{ShelfFault}
use Rattle.ta_shelf.specs.declared.fault.ShelfFault.TheVariants.{Missing, Failed, Memory}

-- in known files two names lead to the same place exactly if they are equal
abbrev pub LeadsSo : List ℕ → List ℕ → Result Bool ShelfFault → Type 0
LeadsSo name other (Ok same) = Decides same (name ≡ other)
LeadsSo name other (Err Missing) = ⊥
LeadsSo name other (Err Failed) = Unit {0}
LeadsSo name other (Err Memory) = Unit {0}

-- the call by which a log records whether a name and another one lead to the same place: it asks for no bytes of a file, and its answer is
-- 1 or 0, and then the other name
abbrev pub asks_place : List ℕ → List ℕ → Result Bool ShelfFault → Call
asks_place name other answer = record
    { name = name; at = 0; asked = 0; gave = result_map_both (λ same. (if same then 1 else 0) ∷ other) (λ fault. fault) answer }
