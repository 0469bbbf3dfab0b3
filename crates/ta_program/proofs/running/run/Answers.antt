use Rattle.ta_program.proofs.Common.{map, state}
use Rattle.ta_program.proofs.Promising.{end_promises, promises}
use Rattle.ta_program.proofs.running.run.Goals as goal

pub returns-clause-promises : goal.returns-clause-promises
returns-clause-promises g c = promises c.reports_are_distinct.ensures.text c.reports_are_distinct.ensures.json c.zero_says.ensures
    (map (λ w. w.now) c.args.words.now) c.obey.result
    (state (g.S.Shelf.files c.args.shelf.now) (g.S.Shelf.calls c.args.shelf.now) (g.S.Shelf.faults c.args.shelf.now) (g.O.Sink.written c.args.out.now)
    (g.O.Sink.faults c.args.out.now) (g.O.Sink.stalls c.args.out.now) (g.E.Sink.written c.args.err.now) (g.E.Sink.faults c.args.err.now)
    (g.E.Sink.stalls c.args.err.now))
    (state (g.S.Shelf.files c.obey.new.shelf) (g.S.Shelf.calls c.obey.new.shelf) (g.S.Shelf.faults c.obey.new.shelf) (g.O.Sink.written c.obey.new.out)
    (g.O.Sink.faults c.obey.new.out) (g.O.Sink.stalls c.obey.new.out) (g.E.Sink.written c.obey.new.err) (g.E.Sink.faults c.obey.new.err)
    (g.E.Sink.stalls c.obey.new.err))
    c.obey.ensures

pub returns-clause-ends : goal.returns-clause-ends
returns-clause-ends g c = end_promises _ _ _ _ c.obey.ensures
