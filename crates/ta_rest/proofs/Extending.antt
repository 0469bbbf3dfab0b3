-- every run goes on to quiet rest, and so to a fair run without end
use Rattle.ta_rest.proofs.Common.{slice_get_left, fire, fire_step}
use Rattle.ta_rest.proofs.FairCommon.{◌≡◌, inl, inr, ℕ, zero, suc, ◌+◌, ◌<◌, ◌≤◌, List, [], ◌∷◌, ◌++◌, length, arith, sym, ◌∙◌, refl, subst, slice_get, get_or}
use Rattle.ta_rest.proofs.FairCommon.{Some, run_length, same_Some, slice_get-get_or, slice_get_within, Automaton, Config, Run, Step, Steps, Whole, MaskedHold}
use Rattle.ta_rest.proofs.FairCommon.{NoneSubtracted, QuietRest, RunsGoOnFairly}
unfoldable use Rattle.ta_rest.proofs.FairCommon.{moves_count}
use Rattle.std.proofs.lemmas.List.{length-append}
use Rattle.ta_base.proofs.Lists.{slice_get_before}
use Rattle.ta_rest.proofs.Resting.{whole_at}
use Rattle.ta_rest.proofs.Deciding.{rest_or_moves}
use Rattle.ta_rest.proofs.Going.{staying, staying_fair}
use Rattle.ta_rest.proofs.Bounds.{few_moves, weighs}
use Rattle.ta_rest.proofs.Prefixes.{weight}
use Rattle.ta_rest.proofs.QuietResting.{quietly_holds}

-- one more step at the end
steps_end : (a : Automaton) (r : ℕ) (c d e : Config) (rules : List ℕ) (later : List Config) → Steps a c rules later
    → slice_get (c ∷ later) (length rules) ≡ Some d → Step a r d e → Steps a c (rules ++ r ∷ []) (later ++ e ∷ [])
steps_end a r c d e [] [] steps at step = (subst (λ (x : Config). Step a r x e) (sym (same_Some c d at)) step, tt)
steps_end a r c d e [] (x ∷ later) steps at step = absurd steps
steps_end a r c d e (q ∷ rules) [] steps at step = absurd steps
steps_end a r c d e (q ∷ rules) (x ∷ later) steps at step = (steps.0, steps_end a r x d e rules later steps.1 at step)

at_new_end : (a : Automaton) (r : ℕ) (c e : Config) (rules : List ℕ) (later : List Config) → Steps a c rules later
    → slice_get (c ∷ (later ++ e ∷ [])) (length (rules ++ r ∷ [])) ≡ Some e
at_new_end a r c e [] [] steps = refl
at_new_end a r c e [] (x ∷ later) steps = absurd steps
at_new_end a r c e (q ∷ rules) [] steps = absurd steps
at_new_end a r c e (q ∷ rules) (x ∷ later) steps = at_new_end a r x e rules later steps.1

moves_end : (a : Automaton) (r : ℕ) (rules : List ℕ) → moves_count a (rules ++ r ∷ []) ≡ moves_count a rules + weight a (Some r)
unfolding moves_count
moves_end a r [] = omega arith
moves_end a r (q ∷ rules) = let rest = moves_end a r rules in omega arith

-- a longer run that has come to quiet rest
record Reaches (a : Automaton) (silent : List ℕ) (first : Config) (rules : List ℕ) (later : List Config) : Type 0 where
  all : List ℕ
  through : List Config
  run : Run a first all through
  end : Config
  there : slice_get (first ∷ through) (length all) ≡ Some end
  rests : QuietRest a silent end
  same_rules : (k : ℕ) → k < length rules → slice_get all k ≡ slice_get rules k
  same_configs : (k : ℕ) (c : Config) → slice_get (first ∷ later) k ≡ Some c → slice_get (first ∷ through) k ≡ Some c

reach : (a : Automaton) (silent : List ℕ) → NoneSubtracted silent a.rise → NoneSubtracted silent a.fall → (first : Config) (most : ℕ)
    → ((rules : List ℕ) (later : List Config) → Run a first rules later → moves_count a rules ≤ most)
    → (left : ℕ) (rules : List ℕ) (later : List Config) → Run a first rules later → most < moves_count a rules + left → Reaches a silent first rules later
reach a silent rise fall first most bound zero rules later run less = absurd (let b = bound rules later run in omega arith)
reach a silent rise fall first most bound (suc left) rules later run less =
    let long = run_length a first rules later run.steps in
    let end = get_or (first ∷ later) (length rules) first in
    let there : slice_get (first ∷ later) (length rules) ≡ Some end = slice_get-get_or (first ∷ later) (length rules) first (omega (arith, long)) in
    let begin : Whole a first = record { parameters = run.initial.admissible.count; shared = run.initial.shared_count; counters = run.initial.locations_count }
    in
    let w : Whole a end = whole_at a first rules later begin run.steps (length rules) end there in
    elim (rest_or_moves a silent end) [
      | inl moving ↦ (
          let r = moving.0 in
          let rule = moving.1 in
          let named = moving.2 in
          let must = moving.3 in
          let rises : MaskedHold rule.rise a.rise end = (λ i row at bit. quietly_holds silent a.rise rise end i row at (must.rise i row at bit)) in
          let falls : MaskedHold rule.fall a.fall end = (λ i row at bit. quietly_holds silent a.fall fall end i row at (must.fall i row at bit)) in
          let next = fire a rule end in
          let step = fire_step a r rule end named w rises falls must.some in
          let longer : Run a first (rules ++ r ∷ []) (later ++ next ∷ []) = record
          { initial = run.initial; steps = steps_end a r first end next rules later run.steps there step } in
          let counted = moves_end a r rules in
          let one = weighs a r rule named must.apart in
          let on = reach a silent rise fall first most bound left (rules ++ r ∷ []) (later ++ next ∷ []) longer (omega (arith, counted, one, less)) in
          record {
            all = on.all;
            through = on.through;
            run = on.run;
            end = on.end;
            there = on.there;
            rests = on.rests;
            same_rules = λ k b. on.same_rules k (let size = length-append rules (r ∷ []) in omega (arith, size)) ∙ slice_get_before rules (r ∷ []) k b;
            same_configs = λ k c at. on.same_configs k c (slice_get_left (first ∷ later) (next ∷ []) k c at);
          })
      | inr rests ↦ record {
        all = rules;
        through = later;
        run = run;
        end = end;
        there = there;
        rests = rests;
        same_rules = λ k b. refl;
        same_configs = λ k c
            at. at;
      }
    ]

pub go_on_fairly : RunsGoOnFairly
go_on_fairly a silent alone rise fall first rules later run =
    let most = few_moves a alone first run.initial in
    let reached = reach a silent rise fall first most.0 most.1 (suc most.0) rules later run (omega arith) in
    let cs = first ∷ reached.through in
    record {
      run = staying a first reached.all reached.through reached.run reached.end reached.there;
      fair = staying_fair a silent first reached.all reached.through reached.run reached.end reached.there reached.rests;
      begins = λ k c at.
          let there = reached.same_configs k c at in
          same_Some (get_or cs k reached.end) c (sym (slice_get-get_or cs k reached.end (slice_get_within cs k c there)) ∙ there);
      fires = λ k b. reached.same_rules k b;
    }
