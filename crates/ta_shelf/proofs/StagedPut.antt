-- an output that is staged already is put, or not
use Rattle.ta_shelf.proofs.Common.{Bytes}
use Rattle.ta_shelf.proofs.ShellCommon.{◌≡◌, ◌∙◌, ℕ, List, [], ◌∷◌, ◌++◌, Step, Option, Result, Ok, Err, Bor, refl, sym, subst, append-nil, Event, PutCall}
use Rattle.ta_shelf.proofs.ShellCommon.{arith, length}
use Rattle.ta_shelf.proofs.ShellCommon.{Puts, Changed, AreStaging, Told, Halt, SinkState, Stages, Settled, SettledCause, PublishesOne, WritesText, OutputStaged}
use Rattle.ta_shelf.proofs.ShellCommon.{Unasked, Staged, Lost}
use Rattle.ta_shelf.proofs.OutputCalls.{changed_weaker}
use Rattle.ta_shelf.proofs.Settling.{let_go, log_halted, log_published, log_unstaged}
use Rattle.ta_shelf.specs.declared.answer.Put as answer
use Rattle.ta_shelf.specs.declared.putting.Halt.TheVariants as halt

-- a text was written, or not, and no file is put
wrote : (result : Result (Unit {0}) Halt) (text : List ℕ) (files : Option Told) (out out' : SinkState) → WritesText result text out out'
    → Settled [] text result files files out out' []
wrote (Ok u) text files out out' w = (refl, refl, w.0, w.1)
wrote (Err halt.Unwritten) text files out out' w = (record { kept = refl; staging = tt }, w.0, w.1)
wrote (Err (halt.Unput name)) text files out out' w = absurd w
wrote (Err halt.Memory) text files out out' w = absurd w

pub wrote_cause : (result : Result (Unit {0}) Halt) (text : List ℕ) (out out' : SinkState) (before after : ℕ) → WritesText result text out out' → after ≡ before
    → SettledCause result before after
wrote_cause (Ok u) text out out' before after w same = same
wrote_cause (Err halt.Unwritten) text out out' before after w same = same
wrote_cause (Err (halt.Unput name)) text out out' before after w same = absurd w
wrote_cause (Err halt.Memory) text out out' before after w same = absurd w

wrote_log : (result : Result (Unit {0}) Halt) (text : List ℕ) (files : Option Told) (out out' : SinkState) (calls : List Event)
    → WritesText result text out out' → Changed (Settled [] text result files files out out') calls calls
wrote_log result text files out out' calls w = record { made = []; grown = sym (append-nil calls); such = wrote result text files out out' w }

-- no file is put
pub only_wrote : (puts : List answer.Put) (result : Result (Unit {0}) Halt) (text : List ℕ) (files : Option Told) (out out' : SinkState) (calls : List Event)
    → length puts ≡ 0 → WritesText result text out out' → Changed (Settled puts text result files files out out') calls calls
only_wrote [] result text files out out' calls none w = wrote_log result text files out out' calls w
only_wrote (put ∷ puts) result text files out out' calls none w = absurd (omega arith)

module _ {T : Type 0} (named bytes : T → List ℕ) (text : List ℕ) (files : Option Told) (out out' : SinkState) (first : List Event) (before : ℕ) where
  -- none is asked for
  pub unasked : (result : Result (Unit {0}) Halt) (now : List Event) (after : ℕ) → Changed (OutputStaged named bytes Unasked before after) first now
      → WritesText result text out out' → Changed (Settled [] text result files files out out') first now
  unasked result now after staged w =
      changed_weaker (OutputStaged named bytes Unasked before after) (Settled [] text result files files out out') first now staged
      (λ made none. subst (Settled [] text result files files out out') (sym none.0) (wrote result text files out out' w))

  pub unasked_cause : (result : Result (Unit {0}) Halt) (now : List Event) (after : ℕ) → Changed (OutputStaged named bytes Unasked before after) first now
      → WritesText result text out out' → SettledCause result before after
  unasked_cause result now after staged w = wrote_cause result text out out' before after w staged.such.1

  -- it is staged whole
  module _ (name : Bor (List ℕ)) (stage : T) (now : List Event) (faults : ℕ)
      (staged : Changed (OutputStaged named bytes (Staged name stage) before faults) first now) where
    put : answer.Put
    put = record { name = name.now; content = Bytes (bytes stage) }

    stages : Changed (Stages name.now (bytes stage)) first now
    stages = changed_weaker (OutputStaged named bytes (Staged name stage) before faults) (Stages name.now (bytes stage)) first now staged (λ made is. is.1)

    pub published : (result : Result (Unit {0}) Halt) (last : List Event) (after : Option Told) → WritesText (Ok tt) text out out'
        → Changed (PublishesOne result name.now (bytes stage) files after) now last
        → Changed (Settled (record { name = name.now; content = Bytes (bytes stage) } ∷ []) text result files after out out') first last
    unfolding put
    published result last after w p = log_published put [] text result files files after out out' first now now last stages
        (wrote_log (Ok tt) text files out out' now w) p

    pub halted : (found : Halt) (last : List Event) (own : List ℕ) → own ≡ name.now → WritesText (Err found) text out out' → last ≡ now
        ++ Puts (record { name = own; step = Step.Abandon; bytes = []; answer = Ok tt }) ∷ []
        → Changed (Settled (record { name = name.now; content = Bytes (bytes stage) } ∷ []) text (Err found) files files out out') first last
    unfolding put
    halted found last own is w gone =
        log_halted put [] text found files files out out' first now now last stages (wrote_log (Err found) text files out out' now w)
        (subst (λ (n : List ℕ). last ≡ now ++ Puts (let_go n) ∷ []) is gone)

  -- the shelf failed at it
  module _ (name : Bor (List ℕ)) (lost : List ℕ) (now : List Event) (faults : ℕ)
      (staged : Changed (OutputStaged named bytes (Lost name) before faults) first now) where
    pub unstaged : (result : Result (Unit {0}) Halt) → WritesText result text out out'
        → Changed (Settled (record { name = name.now; content = Bytes lost } ∷ []) text (Err (halt.Unput name)) files files out out') first now
    unstaged result w =
        log_unstaged (record { name = name.now; content = Bytes lost }) [] text name result files out out' first now refl
        (changed_weaker (OutputStaged named bytes (Lost name) before faults) (AreStaging (name.now ∷ [])) first now staged (λ made is. is.0)) w
