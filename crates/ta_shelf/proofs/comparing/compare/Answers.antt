use Rattle.ta_shelf.proofs.Common.{◌≡◌, ◌+◌, ◌++◌, ◌∙◌, [], Err, Ok, rules, arith, ap, sym, refl, length, length-take-le, take, take_rest, inl}
use Rattle.ta_shelf.proofs.CallLemmas.{one_more}
use Rattle.ta_shelf.proofs.Alike.{differs_by, next_piece, spelled}
use Rattle.ta_shelf.proofs.Endings.{last_call}
use Rattle.ta_shelf.proofs.ReadSoFar.{read_more_if}
use Rattle.ta_shelf.specs.declared.fault.ShelfFault.TheVariants.{Missing as MissingThere, Failed as FailedThere, Memory as NoMemory}
use Rattle.ta_shelf.proofs.comparing.compare.Goals as goal

pub returns-in-Err-Missing-clause-log : goal.returns-in-Err-Missing-clause-log
returns-in-Err-Missing-clause-log g c =
    let here = c.comparing.invariant in
    let place : c.comparing.at ≡ length (take c.comparing.at c.args.bytes.now) = sym (length-take-le c.comparing.at c.args.bytes.now here.within) in
    let last = last_call c.args.name.now (take c.comparing.at c.args.bytes.now) (g.S.Shelf.calls c.args.shelf.now) _ _ c.comparing.at _ _ (Err MissingThere)
    here.read.log place (search rules) (search rules) c.in-Err-Missing.ensures.log in
    record { added = last.added; grown = last.grown; such = inl (inl (record { read = take c.comparing.at c.args.bytes.now; ends = last.such })) }

pub returns-in-Err-Failed-clause-log : goal.returns-in-Err-Failed-clause-log
returns-in-Err-Failed-clause-log g c =
    let here = c.comparing.invariant in
    let place : c.comparing.at ≡ length (take c.comparing.at c.args.bytes.now) = sym (length-take-le c.comparing.at c.args.bytes.now here.within) in
    let last = last_call c.args.name.now (take c.comparing.at c.args.bytes.now) (g.S.Shelf.calls c.args.shelf.now) _ _ c.comparing.at _ _ (Err FailedThere)
    here.read.log place (search rules) (search rules) c.in-Err-Failed.ensures.log in
    record { added = last.added; grown = last.grown; such = record { read = take c.comparing.at c.args.bytes.now; ends = last.such } }

pub returns-in-Err-Memory-clause-log : goal.returns-in-Err-Memory-clause-log
returns-in-Err-Memory-clause-log g c =
    let here = c.comparing.invariant in
    let place : c.comparing.at ≡ length (take c.comparing.at c.args.bytes.now) = sym (length-take-le c.comparing.at c.args.bytes.now here.within) in
    let last = last_call c.args.name.now (take c.comparing.at c.args.bytes.now) (g.S.Shelf.calls c.args.shelf.now) _ _ c.comparing.at _ _ (Err NoMemory)
    here.read.log place (search rules) (search rules) c.in-Err-Memory.ensures.log in
    record { added = last.added; grown = last.grown; such = record { read = take c.comparing.at c.args.bytes.now; ends = last.such } }

pub returns-then-count-eq0-clause-log : goal.returns-then-count-eq0-clause-log
returns-then-count-eq0-clause-log g c =
    let here = c.comparing.invariant in
    let place : c.comparing.at ≡ length (take c.comparing.at c.args.bytes.now) = sym (length-take-le c.comparing.at c.args.bytes.now here.within) in
    let last = last_call c.args.name.now (take c.comparing.at c.args.bytes.now) (g.S.Shelf.calls c.args.shelf.now) _ _ c.comparing.at _ _ (Ok []) here.read.log
    place (search rules) (search rules) c.in-Ok.ensures.log in
    record { added = last.added; grown = last.grown; such = spelled c.args.name.now c.args.bytes.now c.comparing.at last.added here.within last.such }

pub returns-then-not-begin_with-clause-log : goal.returns-then-not-begin_with-clause-log
returns-then-not-begin_with-clause-log g c =
    let here = c.comparing.invariant in
    let place : c.comparing.at ≡ length (take c.comparing.at c.args.bytes.now) = sym (length-take-le c.comparing.at c.args.bytes.now here.within) in
    let piece = take c.in-Ok.count c.read_at.new.buf in
    let size : length piece ≡ c.in-Ok.count = length-take-le c.in-Ok.count c.read_at.new.buf c.in-Ok.ensures.count in
    let log = one_more c.args.name.now 0 (take c.comparing.at c.args.bytes.now) piece _ c.comparing.at _ _ _ _ here.read.log (omega (arith, place))
    c.in-Ok.ensures.log (search rules) (omega (arith, size, c.if-count-eq0.false)) refl in
    differs_by c.args.name.now c.args.bytes.now piece c.comparing.at _ _ (rw (take_rest c.args.bytes.now c.comparing.at) at c.if-not-begin_with.ensures) log

pub comparing-preserved : goal.comparing-preserved
comparing-preserved g c =
    let here = c.comparing.invariant in
    let place : c.comparing.at ≡ length (take c.comparing.at c.args.bytes.now) = sym (length-take-le c.comparing.at c.args.bytes.now here.within) in
    let piece = take c.in-Ok.count c.read_at.new.buf in
    let size : length piece ≡ c.in-Ok.count = length-take-le c.in-Ok.count c.read_at.new.buf c.in-Ok.ensures.count in
    let next = next_piece c.args.bytes.now piece c.comparing.at here.within (rw (take_rest c.args.bytes.now c.comparing.at) at c.if-not-begin_with.ensures) in
    let whole : take (c.comparing.at + c.in-Ok.count) c.args.bytes.now ≡ take c.comparing.at c.args.bytes.now
    ++ piece = ap (λ n. take (c.comparing.at + n) c.args.bytes.now) (sym size) ∙ next.whole in
    record {
      within = omega (arith, size, next.within);
      read = record {
        files_kept = c.in-Ok.ensures.kept ∙ here.read.files_kept;
        faults_kept = c.in-Ok.ensures.cause ∙ here.read.faults_kept;
        so_far = read_more_if (g.S.Shelf.files c.args.shelf.now) c.args.name.now 0 (take c.comparing.at c.args.bytes.now) c.read_at.new.buf _ c.comparing.at
            c.in-Ok.count here.read.so_far (omega (arith, place)) (rw here.read.files_kept at c.in-Ok.ensures.bytes) whole;
        log = one_more c.args.name.now 0 (take c.comparing.at c.args.bytes.now) piece _ c.comparing.at _ _ _ _ here.read.log (omega (arith, place))
            c.in-Ok.ensures.log (search rules) (omega (arith, size, c.if-count-eq0.false)) whole;
      };
    }
