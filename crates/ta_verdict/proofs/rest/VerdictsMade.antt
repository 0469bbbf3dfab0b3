-- verdicts at rest that are made of endings are those of each file that has these
use Rattle.ta_verdict.proofs.Common.{Fits}
use Rattle.ta_verdict.proofs.rest.Common.{Bool, true, false, ℕ, ◌+◌, List, ◌∙◌, Pick, first_picked, picked, picked_count, as_many, arith, slice_get_within}
use Rattle.ta_verdict.proofs.rest.Common.{some_at, AllByRecursion, File, Pattern, Verdict}
use Rattle.ta_verdict.proofs.rest.Common.{Safe, Unsafe, Spent, Overflow, VerdictFits, EachHolds, endings_count, RestBudget, rest_holds_by, Run, RestFile}
use Rattle.ta_verdict.proofs.rest.Common.{OwnVerdict, OwnVerdicts, RestVerdictHolds, each_at, each_from, held_by, holds_weaker}

-- the run of a verdict that holds fits the file
run_fits : (lazy : Bool) (file ending : File) (added : ℕ) (budget : RestBudget) (number : ℕ) (own p : Pattern) (nodes : ℕ) (run : Run)
    → rest_holds_by lazy file ending added budget number own p (Unsafe nodes run) → Fits file run
run_fits false file ending added budget number own p nodes run h = h.is.own.fits
run_fits true file ending added budget number own p nodes run h = h.is.own.fits

-- a verdict that fits the endings and holds fits the file
own_fits : (file ending : File) (added : ℕ) (budget : RestBudget) (number : ℕ) (own p : Pattern) (v : Verdict)
    → RestVerdictHolds file ending added budget number own p v → VerdictFits ending v → VerdictFits file v
own_fits file ending added budget number own p (Safe nodes leaves) h fits = fits
own_fits file ending added budget number own p (Unsafe nodes run) h fits = (fits.0, run_fits budget.lazy file ending added budget number own p nodes run h)
own_fits file ending added budget number own p (Spent nodes) h fits = fits
own_fits file ending added budget number own p (Overflow node kind) h fits = fits

pub own_verdicts : (rest : RestFile) (pick : Pick) (budget : RestBudget) (vs : List Verdict)
    → EachHolds (OwnVerdict rest budget) (first_picked pick) (picked pick rest.ending.file.patterns) vs
    → AllByRecursion (VerdictFits rest.ending.file) vs → OwnVerdicts rest pick budget vs
own_verdicts rest pick budget vs hold fit file ends =
    let ending = rest.ending.file in
    let same = endings_count file.patterns ending.patterns ends.patterns in
    record {
      each = as_many (OwnVerdict rest budget) (first_picked pick) (picked pick ending.patterns) vs hold ∙ picked_count pick ending.patterns file.patterns same;
      hold = holds_weaker (OwnVerdict rest budget) _ (first_picked pick) (picked pick ending.patterns) vs (λ k p v own. own file ends) hold;
      fit = each_from (VerdictFits file) vs (λ k v said.
          let by = held_by (OwnVerdict rest budget) pick ending.patterns vs hold k v said in
          let number = first_picked pick + k in
          let own = some_at file.patterns number (omega (arith, slice_get_within ending.patterns number by.0 by.2)) in
          own_fits file ending rest.added budget number own.0 by.0 v (by.3 file ends own.0 own.1) (each_at (VerdictFits ending) vs k v fit said));
    }
