use Rattle.ta_compress.proofs.Common.{refl, sym, subst, point_of, Guards, GuardsAre}
use Rattle.ta_compress.proofs.Counted.{leaves_one, advances, recounted}
use Rattle.ta_compress.proofs.draft.Draft.step.Goals as goal

pub returns-in-Err-clause-stops : goal.returns-in-Err-clause-stops
returns-in-Err-clause-stops c = (
  refl,
  leaves_one c.args.scoped.now.file.automaton c.args.rule c.args.self.now.config.values.items c.next_guards.new.config.values.items
      c.in-Err.ensures.moved c.in-Err.ensures.answer,
)

pub returns-in_ok-count-in-Ok-clause-advances : goal.returns-in_ok-count-in-Ok-clause-advances
returns-in_ok-count-in-Ok-clause-advances c =
    let a = c.args.scoped.now.file.automaton in
    let config = c.next_guards.new.config in
    let same = c.in_ok-count-in-Ok.ensures.guards in
    let guards = subst (λ (g : Guards). GuardsAre a (point_of config.values.items) g) (sym same) c.in-Ok.ensures.answer in
    advances a c.args.rule c.args.self.now c.count.new.self config c.requires.ready c.in-Ok.ensures.is_of c.in-Ok.ensures.moved guards
    c.in_ok-count-in-Ok.ensures.config c.in_ok-count-in-Ok.ensures.counts
    (λ f g at there. recounted a c.args.rule f g c.args.self.now _ c.count.new.self refl refl
    (c.in_ok-count-in-Ok.ensures.counted f g at (subst (λ (x : Guards). GuardsAre a g x) same there)))
