-- what the runs of an encoding's node say
use Rattle.ta_witness.proofs.Common.{Asking, Node, of_rest, InScope, WholeNode, MomentEncoding, Shows, Run, EncodesSomeWhole, EncodesWhole, RunOfEncoding}
use Rattle.ta_witness.proofs.Common.{WholeOf}
use Rattle.ta_moments.proofs.Common.{ℕ, ℤ, List, subst, Automaton, File}
use Rattle.ta_witness.specs.Given.{RestOfEncoding, ShortOfEncoding}
use Rattle.ta_witness.proofs.Counting.{runs_short}
use Rattle.ta_witness.proofs.MomentResting.{runs_rest}
use Rattle.ta_witness.proofs.Showing.{runs_show}

pub whole_of : (file : File) (number : ℕ) (encoding : MomentEncoding) (numbers : List ℤ) (asking : Asking) (node : Node) (values : List ℕ)
    → EncodesWhole file number encoding numbers asking node values → WholeOf file number asking node values
whole_of file number encoding numbers asking node values h = record {
  pattern = encoding.plan.task.pattern.now;
  named = h.named;
  whole = subst (λ (a : Automaton). WholeNode a encoding.plan.task.pattern.now asking node values) h.automaton h.whole;
}

pub encoding_shows : (file : File) → InScope file.automaton → (number : ℕ) (encoding : MomentEncoding) (numbers : List ℤ) (run : Run)
    → EncodesSomeWhole file number encoding numbers → RunOfEncoding file number encoding numbers run → Shows file run
encoding_shows file scope number encoding numbers run w r = runs_show file scope number w.asking w.node w.values
    (whole_of file number encoding numbers w.asking w.node w.values w.is) run (r w.asking w.node w.values w.is)

pub encoding_short : (file : File) → InScope file.automaton → (number : ℕ) (encoding : MomentEncoding) (numbers : List ℤ) (run : Run)
    → RunOfEncoding file number encoding numbers run → ShortOfEncoding file number encoding numbers run
encoding_short file scope number encoding numbers run r asking node values h once = runs_short file scope number asking node values
    (whole_of file number encoding numbers asking node values h) once run (r asking node values h)

pub encoding_rests : (file : File) → InScope file.automaton → (number : ℕ) (encoding : MomentEncoding) (numbers : List ℤ) (run : Run)
    → RunOfEncoding file number encoding numbers run → RestOfEncoding file number encoding numbers run
unfolding whole_of
encoding_rests file scope number encoding numbers run r silent node values h last = runs_rest file scope number silent node values
    (whole_of file number encoding numbers (of_rest silent) node values h) last run (r (of_rest silent) node values h)
