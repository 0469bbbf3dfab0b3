use Rattle.ta_report.proofs.Common.{◌≡◌, ◌++◌, drop, string_bytes, proofs_text, proofs_told}
use Rattle.ta_report.proofs.check.proofs_text.Given as goal

abbrev pub invariant-loop-number : goal.invariant-loop-number
invariant-loop-number l = string_bytes l.text ++ proofs_told l.rest l.numbers l.number (drop l.number l.pattern-items) ≡ proofs_text l.rest l.file l.sample
    l.numbers
