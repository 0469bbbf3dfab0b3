use Rattle.ta_program.proofs.Common.{List, refl, subst, sym, Pattern}
use Rattle.ta_smt.specs.Named.{IsNamed}
use Rattle.ta_program.proofs.pattern_option.find_named.Goals as goal

pub returns-in-Some-clause-pick : goal.returns-in-Some-clause-pick
returns-in-Some-clause-pick c =
    let named = c.in-Some.ensures in
    record {
      number = c.in-Some.number;
      pattern = named.0;
      is = subst (λ (ps : List Pattern). IsNamed ps c.args.pattern.now c.in-Some.number named.0) c.as_slice.ensures named.1;
      one = refl;
    }

pub returns-in-None-clause-refusal : goal.returns-in-None-clause-refusal
returns-in-None-clause-refusal c = record {
  numbered = refl;
  none = λ k p named. c.in-None.ensures k p (subst (λ (ps : List Pattern). IsNamed ps c.args.pattern.now k p) (sym c.as_slice.ensures) named);
  said = refl;
}
