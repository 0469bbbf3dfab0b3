use Rattle.ta_witness.proofs.Common.{ℕ, ◌<◌, List, length, sym, ap, subst, Rule, Element, Meaning, unknown_value, AddsPieceEnd, MayEnd}
use Rattle.ta_witness.proofs.Making.{ended_event, ended_fall}
use Rattle.ta_witness.proofs.lines.push_end.Goals as goal

pub returns-in_ok-push-in-Event : goal.returns-in_ok-push-in-Event
returns-in_ok-push-in-Event c =
    let a = c.args.automaton.now in
    let p = c.args.pattern.now in
    let value : Meaning → _ = unknown_value c.args.meanings.now c.args.values.now in
    let exists = subst (MayEnd a p value c.args.number) c.in-Event.is c.requires.ends in
    let ended = ended_event a p value c.args.number c.in-Event.event c.args.lines.now.items c.push.new.self.items exists c.in_ok-push-in-Event.ensures.items in
    subst (λ (x : Element). AddsPieceEnd a p value c.args.number x c.args.lines.now.items c.push.new.self.items) (sym c.in-Event.is) ended

pub returns-in_ok-push-in-Fall : goal.returns-in_ok-push-in-Fall
returns-in_ok-push-in-Fall c =
    let a = c.args.automaton.now in
    let p = c.args.pattern.now in
    let value : Meaning → _ = unknown_value c.args.meanings.now c.args.values.now in
    let r = c.single_of-rule.result in
    let exists = subst (λ (n : ℕ). r < n) (ap (λ (rules : List Rule). length rules) c.as_slice-rules.ensures) c.single_of-rule.ensures.exists in
    let ended = ended_fall a p value c.args.number c.in-Fall.field-0 r c.args.lines.now.items c.push-in-Fall.new.self.items
    (record { exists = exists; one = c.single_of-rule.ensures.one }) c.in_ok-push-in-Fall.ensures.items in
    subst (λ (x : Element). AddsPieceEnd a p value c.args.number x c.args.lines.now.items c.push-in-Fall.new.self.items) (sym c.in-Fall.is) ended
