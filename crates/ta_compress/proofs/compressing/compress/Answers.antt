use Rattle.ta_compress.proofs.Common.{sym, subst, List, err_is, File, RunLine, CompressFaultOf, IsSmallReplay, CompressOf, CutOf}
use Rattle.ta_compress.proofs.Excluding.{only_memory}
use Rattle.ta_compress.proofs.Finishing.{same_tale, short_shows, is_short, short_fits}
use Rattle.ta_compress.proofs.compressing.compress.Goals as goal

-- what is answered is the compressed run
exactly : (c : goal.In_ok-short) → CompressOf c.args.scoped.now.file c.args.run.now c.in_ok-short.short
exactly c = record {
  pattern = c.in_ok-short.ensures.pattern;
  parameters = c.in_ok-short.ensures.parameters;
  counts = c.in_ok-short.ensures.counts;
  lines = subst (λ (ls : List RunLine). CutOf c.args.scoped.now.file.automaton c.args.run.now ls) (sym c.in_ok-short.ensures.lines) c.in_ok-lines.ensures.cut;
}

admitted : (c : goal.In_ok-short) → IsSmallReplay c.args.scoped.now.file c.args.run.now
admitted c = subst (λ (f : File). IsSmallReplay f c.args.run.now) c.file.ensures c.in_ok-admit.ensures.admitted

pub returns-clause-exact : goal.returns-clause-exact
returns-clause-exact c = exactly c

pub returns-clause-fits : goal.returns-clause-fits
returns-clause-fits c = short_fits c.args.scoped.now.file c.args.run.now c.in_ok-short.short c.args.scoped.now.in_scope c.requires (admitted c) (exactly c)

pub returns-clause-shows : goal.returns-clause-shows
returns-clause-shows c = short_shows c.args.scoped.now.file c.args.run.now c.in_ok-short.short c.args.scoped.now.in_scope c.requires (admitted c) (exactly c)

pub returns-clause-same : goal.returns-clause-same
returns-clause-same c = same_tale c.args.scoped.now.file c.args.run.now c.in_ok-short.short c.args.scoped.now.in_scope c.requires (admitted c) (exactly c)

pub returns-clause-short : goal.returns-clause-short
returns-clause-short c = is_short c.args.scoped.now.file c.args.run.now c.in_ok-short.short c.args.scoped.now.in_scope c.requires (admitted c) (exactly c)

pub returns-in_err-admit-clause-only : goal.returns-in_err-admit-clause-only
returns-in_err-admit-clause-only c = λ able.
    let file = c.args.scoped.now.file in
    let found = subst (λ (f : File). CompressFaultOf f c.args.run.now c.in_err-admit.field-0.0) c.file.ensures c.in_err-admit.ensures.fault in
    rw (err_is c.from_residual.result _ c.from_residual.ensures.1) (only_memory file c.args.run.now _ c.requires able found)

pub returns-in_err-lines-clause-only : goal.returns-in_err-lines-clause-only
returns-in_err-lines-clause-only c = λ able.
    rw (err_is c.from_residual-in_err-lines.result _ c.from_residual-in_err-lines.ensures.1)
    (only_memory c.args.scoped.now.file c.args.run.now _ c.requires able c.in_err-lines.ensures.fault)
