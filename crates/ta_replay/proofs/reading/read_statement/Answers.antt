use Rattle.ta_replay.proofs.Common.{pos, ◌≤ℤ◌, inl, refl, sym, subst, map, ◌∙◌, arith, false≢true, ints, name_of, NoNameOf}
use Rattle.ta_replay.proofs.Statements.{no_factor, no_rule}
use Rattle.ta_replay.proofs.reading.read_statement.Goals as goal

pub returns-then-factor-lt-LEAST-clause-fault : goal.returns-then-factor-lt-LEAST-clause-fault
returns-then-factor-lt-LEAST-clause-fault c =
    let is = c.in-Some-read_valued.ensures in
    let below = c.if-factor-lt-LEAST.true in (
      refl,
      no_factor c.args.line.now c.in-Some-read_valued.name.now c.in-Some-read_valued.factor is (λ some. omega (arith, ints)) c.in_default.ensures
          (λ e. false≢true (sym c.if-is_end.false ∙ c.is_end.ensures.1 e)),
    )

pub returns-in-None-find_rule-clause-fault : goal.returns-in-None-find_rule-clause-fault
returns-in-None-find_rule-clause-fault c =
    let is = c.in-Some-read_valued.ensures in
    let none = subst (λ rs. NoNameOf (map name_of rs) c.in-Some-read_valued.name.now) c.as_slice-2.ensures c.in-None-find_rule.ensures in
    let some : pos 1 ≤ℤ c.in-Some-read_valued.factor = (let h = c.if-factor-lt-LEAST.false in omega (arith, ints)) in (
      refl,
      inl (c.in-Some-read_valued.name.now, c.in-Some-read_valued.factor, is, some),
      no_rule c.args.automaton.now c.args.pattern.now c.args.line.now
          c.in-Some-read_valued.name.now c.in-Some-read_valued.factor is none,
    )
