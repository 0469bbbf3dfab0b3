use Rattle.ta_check.proofs.Common.{refl, inl, sym, ◌∙◌, false≢true, claiming_with, HasForm, kind_of, ap, subst, Kind}
use Rattle.ta_check.proofs.JudgingNodes.{some_newest, inside_no_pair}
use Rattle.ta_check.proofs.position.Position.take_node.Goals as goal

pub returns-then-not-has_form : goal.returns-then-not-has_form
returns-then-not-has_form c = λ limit at is.
    let subject = claiming_with c.args.claim c.args.file.now c.args.silent.now limit in
    let n = some_newest subject c.args.self.now at c.args.pattern c.requires.none c.requires.current is in (
      refl,
      record {
        no_pair = inside_no_pair at c.args.pattern n.1.older c.args.node.now n.1.begun;
        out = inl (λ form. false≢true (sym c.if-not-has_form.true
            ∙ c.has_form.ensures.1 (subst (λ (k : Kind). HasForm k c.args.claim c.args.node.now) (ap kind_of is.version) form)));
      },
    )
