use Rattle.ta_check.proofs.Common.{◌≤◌, ◌<◌, List, length, ap, subst, sym, refl, ◌∙◌, false≢true, In, Pattern, claiming_with, kind_of, NothingIsLeft}
use Rattle.ta_check.proofs.position.Position.begin.Goals as goal

pub returns-then-not-is_free : goal.returns-then-not-is_free
returns-then-not-is_free c = λ limit at is. (
  refl,
  λ free. false≢true (sym c.if-not-is_free.true
      ∙ (c.is_free.ensures (claiming_with c.args.claim c.args.file.now c.args.silent.now limit) at is).1 free),
)

pub returns-then-pattern-as_slice : goal.returns-then-pattern-as_slice
returns-then-pattern-as_slice c = λ limit at is.
    let free : NothingIsLeft at = (c.is_free.ensures (claiming_with c.args.claim c.args.file.now c.args.silent.now limit) at is).0 c.if-not-is_free.false in
    let beyond : length c.args.file.now.patterns ≤ c.args.pattern = subst (λ (ps : List Pattern). length ps ≤ c.args.pattern) c.as_slice.ensures
    c.if-pattern-as_slice.true in
    (refl, c.args.pattern, record { is = refl; free = free }, beyond)

pub returns-then-is_begun : goal.returns-then-is_begun
returns-then-is_begun c = λ limit at is.
    let free : NothingIsLeft at = (c.is_free.ensures (claiming_with c.args.claim c.args.file.now c.args.silent.now limit) at is).0 c.if-not-is_free.false in
    (refl, c.args.pattern, record { is = refl; free = free }, subst (In c.args.pattern) (sym is.begun) (c.is_begun.ensures.0 c.if-is_begun.true))

pub returns-then-self-eq3 : goal.returns-then-self-eq3
returns-then-self-eq3 c = λ limit at is. c.begin_moments.ensures limit at is
    ((c.is_free.ensures (claiming_with c.args.claim c.args.file.now c.args.silent.now limit) at is).0 c.if-not-is_free.false)

pub returns-else-self-eq3 : goal.returns-else-self-eq3
returns-else-self-eq3 c = λ limit at is. c.begin_words.ensures limit at is
    ((c.is_free.ensures (claiming_with c.args.claim c.args.file.now c.args.silent.now limit) at is).0 c.if-not-is_free.false)

pub begin_moments-requires-clause-exists : goal.begin_moments-requires-clause-exists
begin_moments-requires-clause-exists c = subst (λ (ps : List Pattern). c.args.pattern < length ps) c.as_slice.ensures c.if-pattern-as_slice.false

pub begin_moments-requires-clause-kind : goal.begin_moments-requires-clause-kind
begin_moments-requires-clause-kind c = ap kind_of c.if-self-eq3.true

pub begin_moments-requires-clause-fresh : goal.begin_moments-requires-clause-fresh
begin_moments-requires-clause-fresh c = λ there. false≢true (sym c.if-is_begun.false ∙ c.is_begun.ensures.1 there)

pub begin_words-requires-clause-exists : goal.begin_words-requires-clause-exists
begin_words-requires-clause-exists c = subst (λ (ps : List Pattern). c.args.pattern < length ps) c.as_slice.ensures c.if-pattern-as_slice.false

pub begin_words-requires-clause-fresh : goal.begin_words-requires-clause-fresh
begin_words-requires-clause-fresh c = λ there. false≢true (sym c.if-is_begun.false ∙ c.is_begun.ensures.1 there)

pub begin_words-requires-clause-narrow : goal.begin_words-requires-clause-narrow
begin_words-requires-clause-narrow c = let at = c.requires in at.2.narrow (λ three. c.if-self-eq3.false (sym at.2.version ∙ three))
