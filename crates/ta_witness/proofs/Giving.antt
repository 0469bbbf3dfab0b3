-- what is known of the run that is given
use Rattle.ta_witness.proofs.RestCommon.{◌≡◌, inl, inr, ℕ, Bool, IsBitSet, IsTrue, ◌↔◌, true, false, false≢true, bit_set, cond, List, ◌∷◌, [], ◌++◌, sym, ap}
use Rattle.ta_witness.proofs.RestCommon.{◌∙◌}
use Rattle.ta_witness.proofs.RestCommon.{subst, slice_get, Some, cases_Bool, AllByRecursion, File, has_bit, InScope, Solution, ComesLast, EndingsOf, Run}
use Rattle.ta_witness.proofs.RestCommon.{RunLine}
use Rattle.ta_witness.proofs.RestCommon.{Mark, Fits, ReplayStays, Shows, IsShortRun, WitnessOf, ComesToRest, EndsAsAdded, IsRestSolution, OccursAtRest}
use Rattle.ta_witness.proofs.RestCommon.{RestWitnessOf, ending_run, marked_at_end}
use Rattle.ta_witness.proofs.LastMark.{ends_with_mark}
use Rattle.ta_witness.proofs.OwnRuns.{ending_steps, own_occurs, own_rest}
use Rattle.ta_witness.proofs.Resting.{solution_occurs, witnesses_rest}

-- the run of a solution of an ending's system of rest, replayed
pub record Replayed (ending : File) (solution : Solution) (run : Run) : Type 0 where
  pub scope : InScope ending.automaton
  pub last : AllByRecursion ComesLast ending.patterns
  pub solved : IsRestSolution ending solution
  pub witness : WitnessOf ending solution run
  pub fits : Fits ending run
  pub shows : Shows ending run
  pub stays : ReplayStays ending run
  pub short : IsShortRun ending run

own_of : (file ending : File) (added : ℕ) → EndingsOf file ending added → (solution : Solution) (marked run : Run) → Replayed ending solution marked
    → ending_run added run ≡ marked → RestWitnessOf file ending added solution run
own_of file ending added ends solution marked run r e =
    let rests = witnesses_rest ending r.scope r.last solution r.solved marked r.witness in
    let q = r.solved.pattern in
    let occurs : OccursAtRest ending.automaton q (ending_run added run) = subst (OccursAtRest ending.automaton q) (sym e)
    (solution_occurs ending r.scope r.last solution r.solved marked r.witness) in
    let number : run.pattern ≡ solution.pattern = sym (ending_steps added run).pattern ∙ ap (λ (x : Run). x.pattern) e ∙ r.witness.same_pattern in
    let named : slice_get ending.patterns run.pattern ≡ Some q = ap (slice_get ending.patterns) number ∙ r.solved.named in
    let here : ComesToRest ending (ending_run added run) = subst (ComesToRest ending) (sym e)
    (record { fits = r.fits; shows = r.shows; stays = r.stays; rests = rests }) in
    record {
      witness = subst (WitnessOf ending solution) (sym e) r.witness;
      of_ending = here;
      short = subst (IsShortRun ending) (sym e) r.short;
      own = own_rest file ending added ends run here;
      occurs = λ p at. own_occurs file ending added ends run p q at named occurs;
    }

-- a run of an ending, less the mark of an added event, is the run of the file's own pattern
pub marked_own : (added : ℕ) (marked run : Run) → EndsAsAdded added marked → has_bit added marked.pattern ≡ true
    → ((lines : List RunLine) → marked.lines ≡ lines ++ Mark 0 ∷ [] → marked ≡ marked_at_end run) → marked ≡ ending_run added run
marked_own added marked run ends bit less =
    let mark = ends bit in
    let is = less mark.0 mark.1 in
    let same : has_bit added run.pattern ≡ true = sym (ap (λ (x : Run). has_bit added x.pattern) is) ∙ bit in
    is ∙ sym (ap (λ b. cond b (marked_at_end run) run) same)

pub plain_own : (added : ℕ) (run : Run) (answer : Bool) → IsTrue answer ↔ IsBitSet added run.pattern → answer ≡ false → run ≡ ending_run added run
plain_own added run answer is none =
    elim (cases_Bool (has_bit added run.pattern)) [
      | inl t ↦ absurd (false≢true (sym none ∙ is.1 (bit_set added run.pattern t)))
      | inr f ↦ sym (ap (λ b. cond b (marked_at_end run) run) f)
    ]

-- the run of a solution's own pattern
pub own_given : (file ending : File) (added : ℕ) → EndingsOf file ending added → (solution : Solution) (marked run : Run) → Replayed ending solution marked
    → (EndsAsAdded added marked → marked ≡ ending_run added run) → RestWitnessOf file ending added solution run
own_given file ending added ends solution marked run r is =
    own_of file ending added ends solution marked run r (sym (is (λ bit. ends_with_mark file ending added ends solution r.solved marked r.fits r.witness bit)))
