use Rattle.ta_program.proofs.Common.{◌≡◌, ◌≢◌, Err, Ok, Result, sym, inl, inr, subst, Run, Shows}
use Rattle.std.specs.Result.{IfErr, IsErrAnd}
use Rattle.ta_program.specs.Kinds.{RunFaultIn}
use Rattle.ta_replay.specs.declared.fault.RunFault.{RunFault}
use Rattle.ta_replay.specs.declared.fault.RunFault.TheVariants.{Memory}
use Rattle.ta_replay.specs.Replays.{ReplayStays}
use Rattle.ta_program.proofs.replay.follow.Goals as goal

pub returns-clause-shows : goal.returns-clause-shows
returns-clause-shows c =
    record { text = c.in_ok-run.ensures.text; shows = c.in_ok-shown.ensures.shows; stays = c.in_ok-shown.ensures.stays }

-- what holds of an error holds of what is passed on
if_err : {T F : Type 0} (r : Result T F) (f : F) (P : F → Type 0) → IsErrAnd r (λ e. e ≡ f) → P f → IfErr r P
if_err (Ok t) f P h p = tt
if_err (Err e) f P h p = subst P (sym h) p

pub returns-in_err-run-clause-fault : goal.returns-in_err-run-clause-fault
returns-in_err-run-clause-fault c =
    if_err c.from_residual.result c.in_err-run.field-0.0 (λ (f : RunFault). f ≢ Memory → RunFaultIn c.args.file.now c.args.bytes.now f)
    c.from_residual.ensures.1 (λ no. record {
      no_memory = no;
      first = inl c.in_err-run.ensures.fault;
      shows_nothing = λ run shows. no (c.in_err-run.ensures.only run shows.text);
    })

pub returns-in_err-shown-clause-fault : goal.returns-in_err-shown-clause-fault
returns-in_err-shown-clause-fault c =
    let file = c.args.file.now in
    if_err c.from_residual-in_err-shown.result c.in_err-shown.field-0.0 (λ (f : RunFault). f ≢ Memory → RunFaultIn file c.args.bytes.now f)
    c.from_residual-in_err-shown.ensures.1 (λ no. record {
      no_memory = no;
      first = inr (record { run = c.in_ok-run.run'; text = c.in_ok-run.ensures.text; first = c.in_err-shown.ensures.fault });
      shows_nothing = λ other shows.
          let same : other ≡ c.in_ok-run.run' = c.in_ok-run.ensures.one other shows.text in
          no (c.in_err-shown.ensures.only (subst (λ (run : Run). Shows file run) same shows.shows)
          (subst (λ (run : Run). ReplayStays file run) same shows.stays));
    })
