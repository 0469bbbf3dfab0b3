use Rattle.ta_shelf.proofs.ShellCommon.{refl}
use Rattle.ta_shelf.proofs.Settling.{all_halted, all_published, all_unmade, all_unstaged}
use Rattle.ta_shelf.proofs.StagedPut.{only_wrote, wrote_cause}
use Rattle.ta_shelf.proofs.putting.+put_all.Goals as goal

pub returns-in-Ok-put_all-clause-settled : goal.returns-in-Ok-put_all-clause-settled
returns-in-Ok-put_all-clause-settled g t c =
    all_published c.args.puts.now c.in-Some.put.now c.in-Some.later.now c.args.text.now _ _ c.publish.result _ _ _ _ _ _ _ _ _ _ c.in-Some.ensures.cases.0
    c.in-Ok.ensures.kept c.as_str.ensures c.in-Ok.ensures.bytes c.in-Ok.ensures.log c.in-Ok-put_all.ensures.settled c.publish.ensures.published

pub returns-in-Err-clause-settled : goal.returns-in-Err-clause-settled
returns-in-Err-clause-settled g t c =
    all_halted c.args.puts.now c.in-Some.put.now c.in-Some.later.now c.args.text.now _ c.in-Err.halt _ _ _ _ _ _ _ _ _ _ c.in-Some.ensures.cases.0
    c.in-Ok.ensures.kept c.abandon.ensures.kept c.in-Ok.ensures.named c.in-Ok.ensures.log c.in-Err.ensures.settled c.abandon.ensures.log

pub returns-in-Err-Failed-clause-settled : goal.returns-in-Err-Failed-clause-settled
returns-in-Err-Failed-clause-settled g t c =
    all_unstaged c.args.puts.now c.in-Some.put.now c.in-Some.later.now c.args.text.now c.as_str-in-Err-Failed.result c.write_text-in-Err-Failed.result _ _ _ _ _
    _ c.in-Some.ensures.cases.0 c.in-Err-Failed.ensures.kept c.as_str-in-Err-Failed.ensures c.in-Err-Failed.ensures.log c.write_text-in-Err-Failed.ensures

pub returns-in-Err-Memory-clause-settled : goal.returns-in-Err-Memory-clause-settled
returns-in-Err-Memory-clause-settled g t c =
    all_unmade c.args.puts.now c.in-Some.put.now c.in-Some.later.now c.args.text.now _ _ _ _ _ c.in-Some.ensures.cases.0 c.in-Err-Memory.ensures.kept
    c.in-Err-Memory.ensures.log

pub returns-in_default-clause-settled : goal.returns-in_default-clause-settled
returns-in_default-clause-settled g t c =
    only_wrote c.args.puts.now c.write_text.result c.args.text.now _ _ _ _ c.in_default.ensures.cases c.write_text.ensures

pub returns-in_default-clause-cause : goal.returns-in_default-clause-cause
returns-in_default-clause-cause g t c = wrote_cause c.write_text.result c.args.text.now _ _ _ _ c.write_text.ensures refl
