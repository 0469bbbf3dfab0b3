-- what is known of the picked patterns of a file while they are judged, one after the other
use Rattle.ta_verdict.proofs.Common.{Bool, Err, Ok, Result, refl, Some, ◌≡◌, ◌<◌, ◌≤◌, ◌+◌, ◌∙◌, ◌++◌, ℕ, List, [], ◌∷◌, length, slice_get, take, take_all}
use Rattle.ta_verdict.proofs.Common.{subst, sym, append-nil, arith, AllByRecursion, each_push, slice_get_within, some_at, File, Pattern, OfPattern, Node}
use Rattle.ta_verdict.proofs.Common.{Verdict, VerdictFits, EachHolds, AddsTree, HasProofs, HasTrees, Pick, first_picked, picked, picked_there, safe_ones}
use Rattle.ta_verdict.proofs.Common.{safe_picked, Begun, proofs_text, IfErr}
use Rattle.ta_verdict.proofs.DraftsMade.{trees_more}
use Rattle.ta_verdict.proofs.VerdictsMade.{SoFar, all_hold, as_many, one_more, so_many}

-- the picked patterns below this number have a verdict each, of which a fact holds and which fits the file; the trees of those that are safe were
-- added to what had a text. All are below the end
pub record JudgedSoFar (Fact : ℕ → Pattern → Verdict → Type 0) (Tree : Pattern → List Node → ℕ → Type 0) (file : File) (pick : Pick) (end number : ℕ)
    (vs : List Verdict) (Had Has : Begun → List ℕ → Type 0) (wanted wants : Bool) : Type 0 where
  pub done : ℕ
  pub number_is : number ≡ first_picked pick + done
  pub counted : end ≡ first_picked pick + length (picked pick file.patterns)
  pub so_far : SoFar Fact (first_picked pick) (picked pick file.patterns) done vs
  pub fit : AllByRecursion (VerdictFits file) vs
  pub trees : (begun : Begun) (head : List ℕ) → HasProofs (Had begun) head []
      → HasTrees Tree head (safe_ones (first_picked pick) (take done (picked pick file.patterns)) vs) (Has begun)
  pub same : wants ≡ wanted

no_trees : (Tree : Pattern → List Node → ℕ → Type 0) (head : List ℕ) (first : ℕ) (ps : List Pattern) (Has : List ℕ → Type 0) → HasProofs Has head []
    → HasTrees Tree head (safe_ones first (take 0 ps) []) Has
no_trees Tree head first ps Has has = ([], tt, has)

from_first : (first number : ℕ) → number ≡ first → number ≡ first + 0
from_first first number is = omega arith

pub judged_none : {Fact : ℕ → Pattern → Verdict → Type 0} {Tree : Pattern → List Node → ℕ → Type 0} {file : File} {pick : Pick} {end number : ℕ}
    {vs : List Verdict} {Had : Begun → List ℕ → Type 0} {wanted : Bool} → number ≡ first_picked pick
    → end ≡ first_picked pick + length (picked pick file.patterns) → vs ≡ [] → JudgedSoFar Fact Tree file pick end number vs Had Had wanted wanted
judged_none {Fact} {Tree} {file} {pick} {end} {number} {vs} {Had} {wanted} first counted none =
    subst (λ (ws : List Verdict). JudgedSoFar Fact Tree file pick end number ws Had Had wanted wanted) (sym none)
    (record {
      done = 0;
      number_is = from_first (first_picked pick) number first;
      counted = counted;
      so_far = record { within = omega arith; hold = tt };
      fit = tt;
      trees = λ begun head has. no_trees Tree head (first_picked pick) (picked pick file.patterns) (Had begun) has;
      same = refl;
    })

one_after : (first done number : ℕ) → number ≡ first + done → number + 1 ≡ first + (done + 1)
one_after first done number is = omega arith

-- one below the end is left
one_left : (first done number count end : ℕ) → number ≡ first + done → end ≡ first + count → number < end → done < count
one_left first done number count end is counted below = omega arith

none_left : (first done number count end : ℕ) → number ≡ first + done → end ≡ first + count → end ≤ number → count ≤ done
none_left first done number count end is counted past = omega arith

-- the picked pattern at the place has the number
of_number : (pick : Pick) (ps : List Pattern) (done number : ℕ) → number ≡ first_picked pick + done → (p : Pattern) → slice_get (picked pick ps) done ≡ Some p
    → slice_get ps number ≡ Some p
of_number pick ps done number is p at = subst (λ (k : ℕ). slice_get ps k ≡ Some p) (sym is) (picked_there pick ps done p at)

-- there is a pattern with the number
pub judged_there : {Fact : ℕ → Pattern → Verdict → Type 0} {Tree : Pattern → List Node → ℕ → Type 0} {file : File} {pick : Pick} {end number : ℕ}
    {vs : List Verdict} {Had Has : Begun → List ℕ → Type 0} {wanted wants : Bool} → JudgedSoFar Fact Tree file pick end number vs Had Has wanted wants
    → number < end → number < length file.patterns
judged_there {Fact} {Tree} {file} {pick} {end} {number} so below =
    let ps = picked pick file.patterns in
    let one = some_at ps so.done (one_left (first_picked pick) so.done number (length ps) end so.number_is so.counted below) in
    slice_get_within file.patterns number one.0 (of_number pick file.patterns so.done number so.number_is one.0 one.1)

pub judged_more : {Fact : ℕ → Pattern → Verdict → Type 0} {Tree : Pattern → List Node → ℕ → Type 0} {file : File} {pick : Pick} {end number : ℕ}
    {vs : List Verdict} {Had Has : Begun → List ℕ → Type 0} {wanted wants : Bool} (Next : Begun → List ℕ → Type 0) (next : Bool) (v : Verdict)
    → JudgedSoFar Fact Tree file pick end number vs Had Has wanted wants → number < end → OfPattern file number (λ p. Fact number p v) → VerdictFits file v
    → ((begun : Begun) → OfPattern file number (λ p. AddsTree Tree number p v (Has begun) (Next begun))) → next ≡ wants
    → JudgedSoFar Fact Tree file pick end (number + 1) (vs ++ v ∷ []) Had Next wanted next
judged_more {Fact} {Tree} {file} {pick} {end} {number} {vs} {Had} {Has} {wanted} {wants} Next next v so below holds fits adds still =
    let first = first_picked pick in
    let ps = picked pick file.patterns in
    let done = so.done in
    let within = one_left first done number (length ps) end so.number_is so.counted below in
    let there = of_number pick file.patterns done number so.number_is in
    record {
      done = done + 1;
      number_is = one_after first done number so.number_is;
      counted = so.counted;
      so_far = one_more Fact first ps done vs v so.so_far within (λ p at. subst (λ (k : ℕ). Fact k p v) so.number_is (holds p (there p at)));
      fit = each_push (VerdictFits file) vs v so.fit fits;
      trees = λ begun head begins. trees_more Tree head first ps done vs v (Has begun) (Next begun) within (so_many Fact first ps done vs so.so_far)
          (so.trees begun head begins)
          (λ p at. subst (λ (k : ℕ). AddsTree Tree k p v (Has begun) (Next begun)) so.number_is (adds begun p (there p at)));
      same = still ∙ so.same;
    }

-- all have one
pub judged_all : {Fact : ℕ → Pattern → Verdict → Type 0} {Tree : Pattern → List Node → ℕ → Type 0} {file : File} {pick : Pick} {end number : ℕ}
    {vs : List Verdict} {Had Has : Begun → List ℕ → Type 0} {wanted wants : Bool} → JudgedSoFar Fact Tree file pick end number vs Had Has wanted wants
    → end ≤ number → EachHolds Fact (first_picked pick) (picked pick file.patterns) vs
    × ((begun : Begun) (head : List ℕ) → HasProofs (Had begun) head [] → HasTrees Tree head (safe_picked file pick vs) (Has begun))
judged_all {Fact} {Tree} {file} {pick} {end} {number} {vs} {Had} {Has} so past =
    let first = first_picked pick in
    let ps = picked pick file.patterns in
    let enough = none_left first so.done number (length ps) end so.number_is so.counted past in (
      all_hold Fact first ps so.done vs enough so.so_far,
      λ begun head begins. subst
          (λ (qs : List Pattern). HasTrees Tree head (safe_ones first qs vs) (Has begun)) (take_all so.done ps enough) (so.trees begun head begins),
    )

-- there are as many verdicts
pub judged_many : {Fact : ℕ → Pattern → Verdict → Type 0} {Tree : Pattern → List Node → ℕ → Type 0} {file : File} {pick : Pick} {end number : ℕ}
    {vs : List Verdict} {Had Has : Begun → List ℕ → Type 0} {wanted wants : Bool} → JudgedSoFar Fact Tree file pick end number vs Had Has wanted wants
    → end ≤ number → length vs ≡ length (picked pick file.patterns)
judged_many {Fact} {Tree} {file} {pick} {end} {number} {vs} so past = as_many Fact (first_picked pick) (picked pick file.patterns) vs (judged_all so past).0

-- what had a text has one with what was added
pub had_more : {Fact : ℕ → Pattern → Verdict → Type 0} {Tree : Pattern → List Node → ℕ → Type 0} {file : File} {pick : Pick} {end number : ℕ}
    {vs : List Verdict} {Had Has : Begun → List ℕ → Type 0} {wanted wants : Bool} → JudgedSoFar Fact Tree file pick end number vs Had Has wanted wants
    → (begun : Begun) (text : List ℕ) → Had begun text → (more : List ℕ) × Has begun more
had_more {Fact} {Tree} {file} {pick} {end} {number} {vs} {Had} {Has} so begun text had =
    let has = so.trees begun text (subst (Had begun) (sym (append-nil text)) had) in
    (text ++ proofs_text has.0, has.2)

-- what holds of any refusal
pub err_any : {A E : Type 0} (result : Result A E) (Such : Type 0) → Such → IfErr result (λ e. Such)
err_any (Ok a) Such such = tt
err_any (Err e) Such such = such
