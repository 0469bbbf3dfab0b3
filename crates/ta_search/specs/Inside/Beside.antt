-- Vectors that are tried in parallel.
use Rattle.std.specs.Prelude.{ℕ, ◌≡◌, List, Option, Some, slice_get}
use Rattle.ta_search.specs.declared.beside.Placed.{Placed}
use Rattle.ta_search.specs.declared.outcome.Tried.{Tried}
use Rattle.ta_search.specs.declared.template.Template.{Template}
use Rattle.ta_search.specs.Inside.Trying.{vector_at}
use Rattle.ta_search.specs.Searching.{IsTried}
use Rattle.ta_search.specs.declared.terms.Terms.{Terms}

-- the vector of this number was tried
abbrev pub IsPlaced : Template → Terms → Placed → Type 0
IsPlaced t terms x = IsTried t terms (vector_at t.holes x.place) x.tried

-- what stands at a number is the vector of this number, which was tried
abbrev pub AtHand : Template → Terms → List (Option Tried) → Type 0
AtHand t terms places = (place : ℕ) (x : Tried) → slice_get places place ≡ Some (Some x) → IsTried t terms (vector_at t.holes place) x
