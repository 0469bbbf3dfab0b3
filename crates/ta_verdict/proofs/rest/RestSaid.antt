-- what a verdict at rest that holds says of a file's own pattern, by either tree
use Rattle.ta_verdict.proofs.Common.{Config, claimed_with, OccursAtQuietRest, QuietRestOccurs, ending_steps, tree_size}
use Rattle.ta_verdict.proofs.rest.Common.{◌≡◌, ◌∙◌, ℕ, Bool, true, false, List, [], ◌∷◌, length, Some, slice_get, refl, sym, ap, subst, Automaton, File}
use Rattle.ta_verdict.proofs.rest.Common.{Pattern, Run, Verdict, Safe, Unsafe, Spent, Overflow, RestBudget, RestVerdictHolds, rest_holds_by}
use Rattle.ta_rest.proofs.QuietResting.{rest_is}
use Rattle.ta_rest.specs.Rest.{RestOccurs}
use Rattle.ta_witness.proofs.Ends.{end_whole}
use Rattle.ta_witness.specs.Runs.{OccursAtRest}
use Rattle.ta_verdict.specs.Rest.Said.{IsLoudByWords, RestVerdictsClaim, RestVerdictsShow, SaidAtRest, occurs_with}
use Rattle.ta_rest.specs.declared.claim.Claim.TheVariants as claim

-- without silent places, who comes to quiet rest comes to rest
pub quiet_is_rest : (a : Automaton) (p : Pattern) (first : Config) (rules : List ℕ) → QuietRestOccurs a [] p first rules → RestOccurs a p first rules
quiet_is_rest a p first rules o = record {
  occurs = o.occurs;
  at_end = o.at_end;
  rests = λ c at. (rest_is a c (end_whole a first rules o.occurs.later o.occurs.run (length rules) c at)).1 (o.rests c at);
}

occurs_quietly : (silent : List ℕ) (a : Automaton) (p : Pattern) (run : Run) → OccursAtQuietRest a silent p run → occurs_with silent a p run
occurs_quietly [] a p run o = record { first = o.first; begins = o.begins; occurs = quiet_is_rest a p o.first _ o.occurs }
occurs_quietly (place ∷ silent) a p run o = o

claim_by : (lazy : Bool) (file ending : File) (added : ℕ) (budget : RestBudget) → (lazy ≡ false → budget.silent ≡ [])
    → (number : ℕ) (own p : Pattern) (nodes leaves : ℕ) → rest_holds_by lazy file ending added budget number own p (Safe nodes leaves)
    → claimed_with claim.RestSafe budget.silent file.automaton own
claim_by false file ending added budget loud number own p nodes leaves h =
    subst (λ (silent : List ℕ). claimed_with claim.RestSafe silent file.automaton own) (sym (loud refl)) h.safe
claim_by true file ending added budget loud number own p nodes leaves h = h.safe

pub claims : RestVerdictsClaim
claims file ending added budget loud number own p nodes leaves h = claim_by budget.lazy file ending added budget loud number own p nodes leaves h

-- so is one with a tree
pub tree_claims : (file ending : File) (added : ℕ) (budget : RestBudget) → IsLoudByWords budget → (number : ℕ) (own p : Pattern) (v : Verdict) (size : ℕ)
    → tree_size v ≡ Some size → RestVerdictHolds file ending added budget number own p v → claimed_with claim.RestSafe budget.silent file.automaton own
tree_claims file ending added budget loud number own p (Safe nodes leaves) size is h = claims file ending added budget loud number own p nodes leaves h
tree_claims file ending added budget loud number own p (Unsafe nodes run) size is h = absurd (cc)
tree_claims file ending added budget loud number own p (Spent nodes) size is h = absurd (cc)
tree_claims file ending added budget loud number own p (Overflow node kind) size is h = absurd (cc)

run_by : (lazy : Bool) (file ending : File) (added : ℕ) (budget : RestBudget) → (lazy ≡ false → budget.silent ≡ []) → (number : ℕ) (own p : Pattern)
    → slice_get file.patterns number ≡ Some own → (nodes : ℕ) (run : Run) → rest_holds_by lazy file ending added budget number own p (Unsafe nodes run)
    → SaidAtRest file ending added number budget.silent own run
run_by false file ending added budget loud number own p at nodes run h =
    let w = h.is in
    let same : run.pattern ≡ number = sym (ending_steps added run).pattern ∙ w.witness.same_pattern ∙ h.node.holds.pattern in
    let occurs : OccursAtRest file.automaton own run = w.occurs own (ap (slice_get file.patterns) same ∙ at) in
    record {
      pattern = same;
      fits = w.own.fits;
      shows = w.own.shows;
      stays = w.own.stays;
      occurs = subst (λ (silent : List ℕ). occurs_with silent file.automaton own run) (sym (loud refl)) occurs;
      of_ending = w.of_ending.fits;
      ending_shows = w.of_ending.shows;
      short = w.short;
    }
run_by true file ending added budget loud number own p at nodes run h =
    let w = h.is in
    let same : run.pattern ≡ number = sym (ending_steps added run).pattern ∙ w.is.is.same_pattern in
    record {
      pattern = same;
      fits = w.own.fits;
      shows = w.own.shows;
      stays = w.own.stays;
      occurs = occurs_quietly budget.silent file.automaton own run (w.occurs own (ap (slice_get file.patterns) same ∙ at));
      of_ending = w.of_ending.fits;
      ending_shows = w.of_ending.shows;
      short = w.short;
    }

pub runs_show : RestVerdictsShow
runs_show file ending added budget loud number own p at nodes run h = run_by budget.lazy file ending added budget loud number own p at nodes run h
