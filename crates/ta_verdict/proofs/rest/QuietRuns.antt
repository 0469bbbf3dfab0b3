-- the run of a whole node of an ending's moments, less the mark of an added event, is one of the file's own pattern
use Rattle.ta_verdict.proofs.Common.{Config, OccursAtQuietRest, Fits, QuietRestOccurs, ending_steps, IsShortRun}
use Rattle.ta_verdict.proofs.rest.Common.{◌≡◌, ◌∙◌, inl, inr, ℕ, List, [], ◌∷◌, length, true, Some, slice_get, sym, ap, subst, arith, each_at, File, Automaton}
use Rattle.ta_verdict.proofs.rest.Common.{Pattern, Run, EndingsOf, IsEnding, RestFile, Found, of_rest, EndsAsAdded, ending_run}
use Rattle.std.proofs.Common.{length-append}
use Rattle.ta_automaton.specs.declared.pattern.Event.{Event}
use Rattle.ta_base.proofs.Bits.{bit_set}
use Rattle.ta_base.specs.Masks.{has_bit}
use Rattle.ta_witness.proofs.EndMark.{ends_with_event}
use Rattle.ta_witness.proofs.MomentResting.{runs_rest}
use Rattle.ta_moment_tree.specs.Makers.{node_of}
use Rattle.ta_walk.specs.Found.{RunAt, ShownRun}
use Rattle.ta_rest.specs.Endings.{ComesLast}
use Rattle.ta_rest.specs.Quiet.{QuietRest}
use Rattle.ta_witness.proofs.OwnRuns.{ComesToAny, begins_own, own_comes}
use Rattle.ta_verdict.proofs.rest.VerdictsTold.{ending_of_own}
use Rattle.ta_verdict.specs.Rest.QuietRuns.{ComesToQuietRest, QuietRunOf}

-- where an event was added to a pattern, its ending has this event alone
one_added : (file ending : File) (added : ℕ) → EndingsOf file ending added → (number : ℕ) (q : Pattern) → slice_get ending.patterns number ≡ Some q
    → has_bit added number ≡ true → length q.events ≡ 1
one_added file ending added ends number q at bit =
    let p = (ends.added number).0 (bit_set added number bit) in
    let is : IsEnding p.0 q = ending_of_own file.patterns ending.patterns ends.patterns number p.0 q p.1 at in
    elim is.events [
      | inl m ↦ absurd (let size = ap (λ (xs : List Event). length xs) (sym m.was ∙ p.2) in omega (arith, length-append m.front (m.last ∷ [])))
      | inr m ↦ ap (λ (xs : List Event). length xs) m.is
    ]

-- a run of an ending that comes to quiet rest is, less the mark of an added event, one of the file's own pattern that does
own_quiet : (file ending : File) (added : ℕ) → EndingsOf file ending added → (silent : List ℕ) (run : Run)
    → ComesToQuietRest ending silent (ending_run added run) → ComesToQuietRest file silent run
own_quiet file ending added ends silent run c =
    let Rests : Automaton → Config → Type 0 = λ a d. QuietRest a silent d in
    let all : ComesToAny Rests ending (ending_run added run) = record { fits = c.fits; shows = c.shows; stays = c.stays; rests = c.rests } in
    let own = own_comes Rests file ending added ends run all in
    record { fits = own.fits; shows = own.shows; stays = own.stays; rests = own.rests }

-- where a pattern comes to quiet rest in the run of an ending, it does so in its own
own_occurs : (file ending : File) (added : ℕ) → EndingsOf file ending added → (silent : List ℕ) (run : Run) (p : Pattern)
    → OccursAtQuietRest ending.automaton silent p (ending_run added run) → OccursAtQuietRest file.automaton silent p run
own_occurs file ending added ends silent run p o =
    let there : OccursAtQuietRest file.automaton silent p (ending_run added run) = subst
    (λ (a : Automaton). OccursAtQuietRest a silent p (ending_run added run)) ends.automaton o in
    record {
      first = there.first;
      begins = begins_own added run file.automaton there.first there.begins;
      occurs = subst (QuietRestOccurs file.automaton silent p there.first) (ending_steps added run).steps there.occurs;
    }

pub quiet_run : (rest : RestFile) (file : File) → EndingsOf file rest.ending.file rest.added
    → (number : ℕ) (silent : List ℕ) (found : Found) (marked run : Run) → ShownRun rest.ending.file number (of_rest silent) found marked
    → Fits rest.ending.file marked → (EndsAsAdded rest.added marked → marked ≡ ending_run rest.added run)
    → QuietRunOf file rest.ending.file rest.added number silent found run
quiet_run rest file ends number silent found marked run shown fits own =
    let ending = rest.ending.file in
    let added = rest.added in
    let asking = of_rest silent in
    let node = node_of found.pending in
    let at = shown.is in
    let whole = at.whole in
    let q = whole.pattern in
    let same : marked.pattern ≡ number = at.is.same_pattern in
    let last : ComesLast q = each_at ComesLast ending.patterns number q rest.come_last whole.named in
    let scope = rest.ending.in_scope in
    let rests = runs_rest ending scope number silent node at.values whole last marked at.is in
    let ends_marked : EndsAsAdded added marked = (λ bit. ends_with_event ending scope number silent node at.values whole last
    (one_added file ending added ends number q whole.named (subst (λ (k : ℕ). has_bit added k ≡ true) same bit)) marked at.is) in
    let e : marked ≡ ending_run added run = own ends_marked in
    let here : ComesToQuietRest ending silent marked = record { fits = fits; shows = shown.shows; stays = shown.stays; rests = rests.0 } in
    let there = subst (ComesToQuietRest ending silent) e here in
    let named : run.pattern ≡ number = sym (ending_steps added run).pattern ∙ ap (λ (x : Run). x.pattern) (sym e) ∙ same in
    record {
      is = subst (RunAt ending number asking found) e at;
      of_ending = there;
      short = subst (IsShortRun ending) e shown.short;
      own = own_quiet file ending added ends silent run there;
      occurs = λ p here_at.
          let is : IsEnding p q = ending_of_own file.patterns ending.patterns ends.patterns number p q (ap (slice_get file.patterns) (sym named) ∙ here_at)
          whole.named in
          own_occurs file ending added ends silent run p (subst (OccursAtQuietRest ending.automaton silent p) e (rests.2 p is));
    }
