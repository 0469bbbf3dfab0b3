use Rattle.ta_program.proofs.Common.{map, None, bench_meaning, bench_words}
use Rattle.ta_program.specs.declared.bench.Bench.{Bench}
use Rattle.ta_program.proofs.Meanings.{asked_for, bench_decides, bench_passes}
use Rattle.ta_program.proofs.bench.BenchRequest.read.Goals as goal

pub returns : goal.returns
returns c =
    asked_for (λ (command : Bench). command.k) (λ k. None) bench_meaning bench_decides bench_passes
    c.read_bench.result (bench_words (map (λ w. w.now) c.args.words.now)) c.read_bench.ensures
