use Rattle.ta_search.proofs.Common.{◌≡◌, ◌∙◌, ◌++◌, List, ℕ, ap, codes, named_ended, sample_words, verdict_words}
use Rattle.std.specs.String.{string_bytes}
use Rattle.ta_base.proofs.Lists.{ended}
use Rattle.ta_search.proofs.printing.write_outcome.Goals as goal

pub returns-in_ok-write_sample-in-SampleUnknown : goal.returns-in_ok-write_sample-in-SampleUnknown
returns-in_ok-write_sample-in-SampleUnknown c =
    let old = string_bytes c.args.text.now in
    let words = sample_words c.in-SampleUnknown.sample in
    let first = c.in_ok-write_sample-in-SampleUnknown.ensures ∙ ap (λ (text : List ℕ). text ++ words) c.in_ok-push_str-in-SampleUnknown.ensures.bytes in
    rw c.in-SampleUnknown.is (ended c.push_str-in-SampleUnknown-2.result old (string_bytes c.push_str-in-SampleUnknown-2.new.self)
    (string_bytes c.write_sample.new.text) (codes " unknown, parameters, ") words (codes "\n") first c.push_str-in-SampleUnknown-2.ensures.bytes)

pub returns-in_ok-write_verdict-in-Unknown : goal.returns-in_ok-write_verdict-in-Unknown
returns-in_ok-write_verdict-in-Unknown c =
    let old = string_bytes c.args.text.now in
    let name = c.as_str-in-Unknown.result.now in
    let words = verdict_words c.in-Unknown.verdict in
    let written : string_bytes c.write-in-Unknown.new.self ≡ old
    ++ (codes " unknown, pattern " ++ (name ++ codes ", ")) = c.in_ok-write-in-Unknown.ensures.bytes in
    let first = c.in_ok-write_verdict-in-Unknown.ensures ∙ ap (λ (text : List ℕ). text ++ words) written in
    rw (c.in-Unknown.is, ← c.as_str-in-Unknown.ensures)
    (named_ended c.push_str-in-Unknown.result old (string_bytes c.push_str-in-Unknown.new.self) (string_bytes c.write_verdict.new.text)
    (codes " unknown, pattern ") name (codes ", ") words (codes "\n") first c.push_str-in-Unknown.ensures.bytes)
